-- What the parameters of a component stand for, and so those of one component after the other.
use Rattle.std.proofs.Common.{◌≡◌, ℕ, ◌+◌, ◌<◌, ◌≤◌, inl, inr, List, [], ◌∷◌, ◌++◌, length, length-append, map, min, Option, Some, None, Result, Ok, Err, refl, sym, ◌∙◌, ap, subst, arith}
use Rattle.std.specs.Prelude.{slice_get, zip, option_map, IfOk}
use Rattle.std.proofs.lemmas.List.{length-map, map-append}
use Rattle.std.proofs.lemmas.Slice.Zip.{length-zip}
use Rattle.std.specs.Global.{Vec}
use Rattle.cif_ast.specs.declared.names.Ident.{Ident}
use Rattle.cif_ast.specs.View.{view}
use Rattle.cif_base.specs.declared.memory.Memory.{Memory}
use Rattle.cif_system.specs.Words.{Member}
use Rattle.cif_system.proofs.Lists.{some-same, none-some, slice_get-below}
use Rattle.cif_source.specs.Source.{ParamTree, param_tree, InstanceTree, SourceBody, Source}
use Rattle.cif_source.specs.Components.{Component, whole, part, blank, copy}
use Rattle.cif_source.specs.Objects.{components_of}
use Rattle.cif_scope.specs.Written.{body_of_written, written_bodies}
use Rattle.cif_scope.proofs.Places.{beside-length}
use Rattle.cif_inst_components.specs.declared.components.Components.{Components}
use Rattle.cif_inst_components.specs.Numbers.{IsNumber, IsComponent, AreComponentsOf}
use Rattle.cif_inst_components.proofs.FindChildren.{listed}
use Rattle.cif_inst_components.proofs.FindLaws.{below-or}
use Rattle.cif_inst_bodies.proofs.ArgumentLaws.{given-by, counted, parameter-argument}
use Rattle.cif_inst_parameters.specs.declared.following.Follower.{Follower}
use Rattle.cif_inst_parameters.specs.declared.given.Given.{Given}
use Rattle.cif_inst_parameters.specs.declared.passing.Bodies.{Bodies}
use Rattle.cif_inst_parameters.specs.declared.passing.Passed as code
use Rattle.cif_inst_parameters.specs.Given.{given_items, AreGiven, AreParametersOf}
use Rattle.cif_inst_parameters.specs.Passing.{instances_now, Passed, passed_now, passed_to}
use Rattle.cif_inst_parameters.specs.Following.{AreKnown, FollowsFrom, AreFollowed}
use Rattle.cif_inst_parameters.specs.Reading.{ReadsFrom}
use Rattle.cif_inst_parameters.proofs.ListLaws.{get-left, get-last}
use Rattle.cif_inst_parameters.proofs.PassedLaws.{IsPassed, passing, passed-is}

same-min : (m n : ℕ) → m ≡ n → min m n ≡ m
same-min m n h = omega arith

module _ (t : Source) (f : Follower) (b : Bodies) (reads : ReadsFrom t f b) (k : ℕ) (next : k ≡ length f.given.now) where
  abbrev what_is_passed : Option Passed
  what_is_passed = passed_to f.scopes.now f.components.now.all (map body_of_written b.written.now) (map instances_now b.instances.now) k

  is-passed : (c : Component) → IsNumber t k c → IsPassed t k c what_is_passed
  is-passed c own =
      subst (λ ws. IsPassed t k c (passed_to f.scopes.now f.components.now.all ws (map instances_now b.instances.now) k)) (sym reads.written)
      (subst (λ is. IsPassed t k c (passed_to f.scopes.now f.components.now.all (written_bodies t) is k)) (sym reads.instances)
      (passed-is t f.scopes.now f.components.now reads.looks.scopes reads.looks.components k c own))

  -- what is passed nothing has no parameters
  pub none-given : (c : Component) → IsNumber t k c → what_is_passed ≡ None → AreGiven t c []
  none-given c own h = go c (subst (IsPassed t k c) h (is-passed c own))
    where
      go : (c : Component) → IsPassed t k c None → AreGiven t c []
      go (whole is) w = refl
      go (part o n d) w = refl
      go (blank o n ps d) w = absurd w
      go (copy o n ps d g i) w = absurd (none-some (passing w.0 ps i) w.1)

  -- the arguments of an instance
  copy-given : (o g : Component) (n : Ident) (ps : List ParamTree) (d : SourceBody) (i : InstanceTree) → IsNumber t k (copy o n ps d g i) → (p : code.Passed) → (j : ℕ) → passed_now p ≡ passing j ps i → IsNumber t j g → j < k
      → (xs : List Given) → AreFollowed f p.giver (map param_tree p.params.now) (map view p.args.now) (length (zip p.params.now p.args.now)) xs → AreGiven t (copy o n ps d g i) xs
  copy-given o g n ps d i own p j same num less xs done =
      let rules = reads.looks.scopes.rules in
      let m : Member (copy o n ps d g i) (components_of t) = listed t f.scopes.now reads.looks.scopes reads.looks.components.few f.components.now.all reads.looks.components.all k (copy o n ps d g i) own in
      let giver : p.giver ≡ j = ap (λ (q : Passed). q.giver) same in
      let params : map param_tree p.params.now ≡ ps = ap (λ (q : Passed). q.params) same in
      let args : map view p.args.now ≡ i.args = ap (λ (q : Passed). q.args) same in
      let count : length i.args ≡ length ps = counted t rules.known rules.fitting o g n ps d i (given-by t o g n ps d i m) in
      let many : length p.params.now ≡ length ps = sym (length-map p.params.now param_tree) ∙ ap length params in
      let equal : length p.params.now ≡ length p.args.now = many ∙ sym count ∙ sym (ap length args) ∙ length-map p.args.now view in
      let size : length (zip p.params.now p.args.now) ≡ length ps = length-zip p.params.now p.args.now ∙ same-min (length p.params.now) (length p.args.now) equal ∙ many in
      let from : FollowsFrom t f p.giver g = record {
        looks = reads.looks;
        known = reads.known;
        is_number = subst (λ z. IsNumber t z g) (sym giver) num;
        is_known = omega (arith, giver, next, less);
      } in (
        done.0 ∙ size,
        λ l q hq.
            let e = parameter-argument t rules.known rules.fitting reads.matched o g n ps d i m l q hq in
            let below : l < length ps = slice_get-below ps l q hq in
            let x = done.1 t g from (copy o n ps d g i) l q e.0 (omega (arith, below, size)) (ap (λ z. slice_get z l) params ∙ hq) (ap (λ z. slice_get z l) args ∙ e.1) e.3 in
            (e.0, x.0, e.1, x.1, x.2),
      )

  pub some-given : (c : Component) → IsNumber t k c → (p : code.Passed) → what_is_passed ≡ Some (passed_now p)
      → (xs : List Given) → AreFollowed f p.giver (map param_tree p.params.now) (map view p.args.now) (length (zip p.params.now p.args.now)) xs → AreGiven t c xs
  some-given c own p h xs done = go c own (subst (IsPassed t k c) h (is-passed c own))
    where
      go : (c : Component) → IsNumber t k c → IsPassed t k c (Some (passed_now p)) → AreGiven t c xs
      go (whole is) num w = absurd (none-some (passed_now p) (sym w))
      go (part o n d) num w = absurd (none-some (passed_now p) (sym w))
      go (blank o n ps d) num w = absurd w
      go (copy o n ps d g i) num w = copy-given o g n ps d i num p w.0 (some-same (passed_now p) (passing w.0 ps i) w.1) w.2 w.3 xs done

-- what the code gives where an instance is passed arguments
pub passed-given : (f : Follower) (b : Bodies) (k : ℕ) (p : code.Passed) (o : Option code.Passed)
    → option_map passed_now o ≡ passed_to f.scopes.now f.components.now.all (map body_of_written b.written.now) (map instances_now b.instances.now) k → o ≡ Some p
    → (r : Result (Vec Given) Memory) → IfOk r (λ (xs : Vec Given). AreFollowed f p.giver (map param_tree p.params.now) (map view p.args.now) (length (zip p.params.now p.args.now)) xs.items)
    → IfOk r (λ (xs : Vec Given). (t : Source) (c : Component) → ReadsFrom t f b → k ≡ length f.given.now → IsNumber t k c → AreGiven t c xs.items)
passed-given f b k p o is e (Ok xs) h = λ t c reads next own. some-given t f b reads k next c own p (sym is ∙ ap (option_map passed_now) e) xs.items h
passed-given f b k p o is e (Err x) h = tt

-- and where nothing is passed
pub nothing-given : (f : Follower) (b : Bodies) (k : ℕ) (o : Option code.Passed)
    → option_map passed_now o ≡ passed_to f.scopes.now f.components.now.all (map body_of_written b.written.now) (map instances_now b.instances.now) k → o ≡ None → (xs : List Given) → xs ≡ []
    → (t : Source) (c : Component) → ReadsFrom t f b → k ≡ length f.given.now → IsNumber t k c → AreGiven t c xs
nothing-given f b k o is e xs none t c reads next own = subst (AreGiven t c) (sym none) (none-given t f b reads k next c own (sym is ∙ ap (option_map passed_now) e))

-- ---- one component after the other

known-more : (t : Source) (all : List (List Given)) → AreKnown t all → (xs : List Given) → ((c : Component) → IsNumber t (length all) c → AreGiven t c xs) → AreKnown t (all ++ xs ∷ [])
known-more t all known xs last k c less own =
    let size : length (all ++ xs ∷ []) ≡ length all + 1 = length-append all (xs ∷ []) in
    elim (below-or k (length all)) [
      | inl h ↦ let row = known k c h own in (row.0, get-left all (xs ∷ []) k row.0 row.1, row.2)
      | inr h ↦
          let same : length all ≡ k = omega (arith, less, size, h) in
          (xs, subst (λ j. slice_get (all ++ xs ∷ []) j ≡ Some xs) same (get-last all xs), last c (subst (λ j. IsNumber t j c) (sym same) own))
    ]

-- the next component's parameters
pub next-known : (t : Source) (before after : List (Vec Given)) (x : Vec Given) → after ≡ before ++ x ∷ [] → AreKnown t (map given_items before) → ((c : Component) → IsNumber t (length before) c → AreGiven t c x.items)
    → AreKnown t (map given_items after)
next-known t before after x same known last =
    subst (AreKnown t) (sym (ap (map given_items) same ∙ map-append given_items before (x ∷ [])))
    (known-more t (map given_items before) known x.items (λ c own. last c (subst (λ j. IsNumber t j c) (length-map before given_items) own)))

-- those of all components
pub all-known : (t : Source) (all : List (List Given)) → AreKnown t all → length (components_of t) ≤ length all → AreParametersOf t all
all-known t all known size k c own = let below : k < length (components_of t) = slice_get-below (components_of t) k c own in known k c (omega (arith, below, size)) own

-- a component has a small number
pub number-small : (t : Source) (cs : Components) → AreComponentsOf t cs → (n k : ℕ) → n ≡ length cs.all → k < n → k < 100000
number-small t cs are n k count less =
    let size : length cs.all ≡ length (components_of t) = beside-length (IsComponent t) (components_of t) cs.all are.all in
    let few : length (components_of t) ≤ 100000 = are.few in
    omega (arith, size, few, count, less)

pub all-given : (t : Source) (cs : Components) → AreComponentsOf t cs → (all : List (Vec Given)) → AreKnown t (map given_items all) → (n k : ℕ) → n ≡ length cs.all → length all ≡ k → n ≤ k → AreParametersOf t (map given_items all)
all-given t cs are all known n k count long past =
    let size : length cs.all ≡ length (components_of t) = beside-length (IsComponent t) (components_of t) cs.all are.all in
    let same : length (map given_items all) ≡ length all = length-map all given_items in
    all-known t (map given_items all) known (omega (arith, size, same, count, long, past))
