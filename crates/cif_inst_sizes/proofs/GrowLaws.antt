-- Needs while they grow.
use Rattle.std.proofs.Common.{◌≡◌, ℕ, zero, suc, ◌+◌, ◌<◌, ◌≤◌, inl, inr, List, [], ◌∷◌, ◌++◌, length, map, take, Some, None, Result, Ok, Err, refl, sym, ◌∙◌, ap, subst, arith}
use Rattle.std.specs.Prelude.{slice_get, slice_index_or, IfOk, OnOk}
use Rattle.std.proofs.lemmas.List.{map-append, take_all}
use Rattle.cif_ast.specs.Tree.{Tree, node, Shape, truth, number, named, received, paren, negative, positive, negation, absolute, least, greatest, sum, product, comparison, all_of, any_of, implication, equivalence, choice}
use Rattle.cif_ast.specs.declared.names.Name.{Name}
use Rattle.cif_base.specs.declared.memory.Memory.{Memory}
use Rattle.cif_system.specs.Words.{Member}
use Rattle.cif_system.proofs.Lists.{some-same, none-some}
use Rattle.cif_system.proofs.Distinct.{member-append}
use Rattle.cif_system.proofs.Picks.{append-left, append-right}
use Rattle.cif_order.specs.Graph.{AreInside}
use Rattle.cif_source.specs.Source.{Source}
use Rattle.cif_source.specs.Components.{Component}
use Rattle.cif_source.specs.Uses.{Asked, value_asked, Use, asking, names_in, shape_names, stray_uses}
use Rattle.cif_scope.proofs.Places.{beside-append}
use Rattle.cif_scope_uses.specs.declared.uses.Use as code
use Rattle.cif_scope_uses.specs.Views.{use_of}
use Rattle.cif_inst_sizes.specs.declared.definitions.Definition.{Definition}
use Rattle.cif_inst_sizes.specs.Definitions.{DefinitionTree, definition_tree, blank, AreBlank}
use Rattle.cif_inst_sizes.specs.Naming.{Resolves, IsNeeded, AreNeedsOf, AreNeeds}
use Rattle.cif_inst_sizes.specs.Needs.{use_name, AreNeeded, AreBelow, AreAllBelow, Adds}

-- ---- names

abbrev asked_name : Use → Name
asked_name u = u.name

asked-names : (a : Asked) (nms : List Name) → map asked_name (asking a nms) ≡ nms
asked-names a [] = refl
asked-names a (nm ∷ nms) = ap (λ xs. nm ∷ xs) (asked-names a nms)

stray-names : (e : Tree) → map asked_name (stray_uses e) ≡ names_in e
stray-names (node f at) = by f
  where
    by : (f : Shape) → map asked_name (stray_uses (node f at)) ≡ names_in (node f at)
    by (named nm) = refl
    by (truth b) = refl
    by (number z) = refl
    by received = refl
    by (paren e) = asked-names value_asked (shape_names (paren e))
    by (negative e) = asked-names value_asked (shape_names (negative e))
    by (positive e) = asked-names value_asked (shape_names (positive e))
    by (negation e) = asked-names value_asked (shape_names (negation e))
    by (absolute e) = asked-names value_asked (shape_names (absolute e))
    by (least a b) = asked-names value_asked (shape_names (least a b))
    by (greatest a b) = asked-names value_asked (shape_names (greatest a b))
    by (sum e es) = asked-names value_asked (shape_names (sum e es))
    by (product e es) = asked-names value_asked (shape_names (product e es))
    by (comparison a op b) = asked-names value_asked (shape_names (comparison a op b))
    by (all_of es) = asked-names value_asked (shape_names (all_of es))
    by (any_of es) = asked-names value_asked (shape_names (any_of es))
    by (implication a b) = asked-names value_asked (shape_names (implication a b))
    by (equivalence a b) = asked-names value_asked (shape_names (equivalence a b))
    by (choice bs e) = asked-names value_asked (shape_names (choice bs e))

-- the names of references are those of what they stand for
used-names : (us : List code.Use) → map use_name us ≡ map asked_name (map use_of us)
used-names [] = refl
used-names (u ∷ us) = ap (λ xs. use_name u ∷ xs) (used-names us)

append-none : {A : Type 0} (xs : List A) → xs ++ [] ≡ xs
append-none [] = refl
append-none (x ∷ xs) = ap (λ ys. x ∷ ys) (append-none xs)

pub names-added : (old new : List code.Use) (e : Tree) → map use_of new ≡ map use_of old ++ (stray_uses e ++ []) → map use_name new ≡ map use_name old ++ names_in e
names-added old new e h =
    used-names new
    ∙ ap (map asked_name) (h ∙ ap (λ xs. map use_of old ++ xs) (append-none (stray_uses e)))
    ∙ map-append asked_name (map use_of old) (stray_uses e)
    ∙ ap (λ xs. xs ++ map asked_name (stray_uses e)) (sym (used-names old))
    ∙ ap (λ xs. map use_name old ++ xs) (stray-names e)

-- ---- needs

module _ (t : Source) (count : ℕ) (all : List DefinitionTree) (c : Component) where
  pub kept-needed : (nm : Name) (old new : List ℕ) → ((n : ℕ) → Member n old → Member n new) → IsNeeded t count all c nm old → IsNeeded t count all c nm new
  kept-needed nm old new kept is = record { number = is.number; resolves = is.resolves; listed = λ n h. kept n (is.listed n h) }

  pub none-needed : (needs : List ℕ) → AreNeeded t count all c [] needs
  none-needed needs nm m = absurd m

  pub more-needed : (nms after : List Name) (nm : Name) (old new : List ℕ) → ((n : ℕ) → Member n old → Member n new) → AreNeeded t count all c nms old → IsNeeded t count all c nm new → after ≡ nms ++ nm ∷ [] → AreNeeded t count all c after new
  more-needed nms after nm old new kept are is same x m =
      elim (member-append x nms (nm ∷ []) (subst (Member x) same m)) [
        | inl h ↦ kept-needed x old new kept (are x h)
        | inr h ↦ elim h [ inl e ↦ subst (λ y. IsNeeded t count all c y new) (sym e) is | inr w ↦ absurd w ]
      ]

  -- what has no definition needs none
  pub free-needed : (nm : Name) (needs : List ℕ) → Resolves t count all c nm None → IsNeeded t count all c nm needs
  free-needed nm needs r = record { number = None; resolves = r; listed = λ n h. absurd (none-some n h) }

  -- and what has one needs that
  pub one-needed : (nm : Name) (n : ℕ) (old new : List ℕ) → Resolves t count all c nm (Some n) → new ≡ old ++ n ∷ [] → IsNeeded t count all c nm new
  one-needed nm n old new r same = record { number = Some n; resolves = r; listed = λ k h. subst (Member k) (sym same) (append-right k old (n ∷ []) (inl (sym (some-same n k h)))) }

-- ---- one more

take-suc : {A : Type 0} (xs : List A) (k : ℕ) (x : A) → slice_get xs k ≡ Some x → take (suc k) xs ≡ take k xs ++ x ∷ []
take-suc [] k x h = absurd (none-some x h)
take-suc (y ∷ xs) zero x h = ap (λ z. z ∷ []) (some-same y x h)
take-suc (y ∷ xs) (suc k) x h = ap (λ l. y ∷ l) (take-suc xs k x h)

map-next : {A B : Type 0} (f : A → B) (xs : List A) (k : ℕ) (x : A) → slice_get xs k ≡ Some x → map f (take (k + 1) xs) ≡ map f (take k xs) ++ f x ∷ []
map-next f xs k x h =
    let next : k + 1 ≡ suc k = omega arith in
    ap (λ n. map f (take n xs)) next ∙ ap (map f) (take-suc xs k x h) ∙ map-append f (take k xs) (x ∷ [])

module _ (t : Source) (count : ℕ) (all : List DefinitionTree) where
  -- the needs of one more name
  pub next-needed : (c : Component) (us : List code.Use) (k : ℕ) (u : code.Use) (old new : List ℕ) → slice_get us k ≡ Some u → ((n : ℕ) → Member n old → Member n new)
      → AreNeeded t count all c (map use_name (take k us)) old → IsNeeded t count all c (use_name u) new → AreNeeded t count all c (map use_name (take (k + 1) us)) new
  next-needed c us k u old new at kept are is =
      more-needed t count all c (map use_name (take k us)) (map use_name (take (k + 1) us)) (use_name u) old new kept are is (map-next use_name us k u at)

  pub all-needed : (c : Component) (us : List code.Use) (k : ℕ) (needs : List ℕ) → length us ≤ k → AreNeeded t count all c (map use_name (take k us)) needs → AreNeeded t count all c (map use_name us) needs
  all-needed c us k needs past are = subst (λ xs. AreNeeded t count all c (map use_name xs) needs) (take_all k us past) are

  -- and those of one more definition
  pub next-row : (ds : List Definition) (k : ℕ) (d : Definition) (rows after : List (List ℕ)) (row : List ℕ) → slice_get ds k ≡ Some d → AreNeeds t count all (map definition_tree (take k ds)) rows
      → AreNeedsOf t count all (definition_tree d) row → after ≡ rows ++ row ∷ [] → AreNeeds t count all (map definition_tree (take (k + 1) ds)) after
  next-row ds k d rows after row at done is same =
      subst (λ xs. AreNeeds t count all xs after) (sym (map-next definition_tree ds k d at))
      (subst (AreNeeds t count all (map definition_tree (take k ds) ++ definition_tree d ∷ [])) (sym same)
      (beside-append (AreNeedsOf t count all) (map definition_tree (take k ds)) (definition_tree d ∷ []) rows (row ∷ []) done (is, tt)))

  pub all-rows : (ds : List Definition) (k : ℕ) (rows : List (List ℕ)) → length ds ≤ k → AreNeeds t count all (map definition_tree (take k ds)) rows → AreNeeds t count all (map definition_tree ds) rows
  all-rows ds k rows past are = subst (λ xs. AreNeeds t count all (map definition_tree xs) rows) (take_all k ds past) are

pub push-adds : (total : ℕ) (old new : List ℕ) (n : ℕ) → n < total → new ≡ old ++ n ∷ [] → Adds total old new
push-adds total old new n less same = record {
  kept = λ k m. subst (Member k) (sym same) (append-left k old (n ∷ []) m);
  below = λ below k m.
      elim (member-append k old (n ∷ []) (subst (Member k) same m)) [
        | inl h ↦ below k h
        | inr h ↦ elim h [ inl e ↦ subst (λ i. i < total) (sym e) less | inr w ↦ absurd w ]
      ];
}

-- what is told where the number is added
module _ {A : Type 0} (old new : List ℕ) (n : ℕ) where
  pub push-needed : (t : Source) (count : ℕ) (c : Component) (nm : Name) (Are : List DefinitionTree → Type 0) (r : Result A Memory) → ((all : List DefinitionTree) → Are all → Resolves t count all c nm (Some n))
      → OnOk r (new ≡ old ++ n ∷ []) → OnOk r ((all : List DefinitionTree) → Are all → IsNeeded t count all c nm new)
  push-needed t count c nm Are (Ok x) found same = λ all are. one-needed t count all c nm n old new (found all are) same
  push-needed t count c nm Are (Err e) found same = tt

  pub push-more : (total : ℕ) (r : Result A Memory) → n < total → OnOk r (new ≡ old ++ n ∷ []) → OnOk r (Adds total old new)
  push-more total (Ok x) less same = push-adds total old new n less same
  push-more total (Err e) less same = tt

-- what is told of all names of a definition
pub names-needed : (t : Source) (count : ℕ) (c : Component) (Are : List DefinitionTree → Type 0) (us : List code.Use) (nms : List Name) (r : Result (List ℕ) Memory) → map use_name us ≡ nms
    → IfOk r (λ needs. (all : List DefinitionTree) → Are all → AreNeeded t count all c (map use_name us) needs) → IfOk r (λ needs. (all : List DefinitionTree) → Are all → AreNeeded t count all c nms needs)
names-needed t count c Are us nms (Ok needs) same h = λ all are. subst (λ xs. AreNeeded t count all c xs needs) same (h all are)
names-needed t count c Are us nms (Err e) same h = tt

pub same-adds : (total : ℕ) (old new : List ℕ) → new ≡ old → Adds total old new
same-adds total old new same = record { kept = λ k m. subst (Member k) (sym same) m; below = λ below k m. below k (subst (Member k) same m) }

pub row-added : (total : ℕ) (rows after : List (List ℕ)) (row : List ℕ) → AreAllBelow total rows → AreBelow total row → after ≡ rows ++ row ∷ [] → AreAllBelow total after
row-added total rows after row all below same xs m =
    elim (member-append xs rows (row ∷ []) (subst (Member xs) same m)) [
      | inl h ↦ all xs h
      | inr h ↦ elim h [ inl e ↦ subst (AreBelow total) (sym e) below | inr w ↦ absurd w ]
    ]

-- ---- as a graph

row-member : (needs : List (List ℕ)) (x y : ℕ) → Member y (slice_index_or needs x []) → Member (slice_index_or needs x []) needs
row-member [] x y m = absurd m
row-member (xs ∷ needs) zero y m = inl refl
row-member (xs ∷ needs) (suc x) y m = inr (row-member needs x y m)

pub inside : (needs : List (List ℕ)) → AreAllBelow (length needs) needs → AreInside needs
inside needs all x y m = all (slice_index_or needs x []) (row-member needs x y m) y m

-- ---- definitions that are 0

pub blank-added : (all after : List Definition) (d : Definition) → AreBlank (map definition_tree all) → definition_tree d ≡ blank → after ≡ all ++ d ∷ [] → AreBlank (map definition_tree after)
blank-added all after d are is same x m =
    elim (member-append x (map definition_tree all) (definition_tree d ∷ []) (subst (Member x) (ap (map definition_tree) same ∙ map-append definition_tree all (d ∷ [])) m)) [
      | inl h ↦ are x h
      | inr h ↦ elim h [ inl e ↦ e ∙ is | inr w ↦ absurd w ]
    ]
