-- The own variables of events and of algebraic variables, and the variables that show these, start in their types, and their
-- declarations have a spelling.
use Rattle.std.proofs.Common.{◌≡◌, ℕ, ℤ, pos, Bool, true, false, ◌&&◌, List, [], ◌∷◌, ◌++◌, map, flat_map, Option, Some, None, refl, arith, if◌then◌else◌}
use Rattle.std.specs.Prelude.{IsTrue, ◌-ℤ◌, int_le, codes, slice_get}
use Rattle.std.specs.List.{AllByRecursion, list_all}
use Rattle.std.proofs.lemmas.Int.{ints}
use Rattle.grammar.specs.Pieces.{Text}
use Rattle.cif_base.specs.declared.types.Ty.{Ty}
use Rattle.cif_base.specs.declared.types.Ty.TheVariants as t
use Rattle.cif_system.specs.System.{in_range}
use Rattle.cif_system.proofs.Picks.{all-at, and-left, and-right}
use Rattle.cif_net_expr.specs.Tree.{NetExpr, net_expr, NetForm, n_minus, n_plus, n_not, n_abs, n_min, n_max, n_sum, n_product, n_compare, n_and, n_or, n_implies, n_iff, n_if, NetExprs, no_net_exprs, net_exprs, NetTerms, no_net_terms, net_terms, NetFactors, no_net_factors, net_factors, NetBranches, no_net_branches, net_branches, NetUpdate, net_set, net_choose, NetUpdates, no_net_updates, net_updates, NetUpdateBranches, no_net_update_branches, net_update_branches}
use Rattle.cif_net_model.specs.Net.{NetAlg, NetStored, Net}
use Rattle.cif_net_model.specs.Inline.{defined_by}
use Rattle.cif_net_model.specs.Listing.{NetChoice, all_hold}
use Rattle.cif_net_model.specs.Meaning.{type_range}
use Rattle.cif_net_model.specs.Table.{carried_type}
use Rattle.cif_net_model.specs.Facts.{is_type, stored_stands}
use Rattle.st_ast.specs.declared.tree.StTy.{StTy}
use Rattle.st_ast.specs.declared.tree.StTy.TheVariants as ty
use Rattle.plc_model.specs.Face.{VariableFace, alg_face, range_of}
use Rattle.plc_frame.specs.Faces.{alg_face_of, is_boolean as is_bool_type}
use Rattle.plc_frame.specs.Small.{are_small, is_small}
use Rattle.plc_frame.specs.Events.{choices_of, done_face}
use Rattle.plc_frame.proofs.Declaring.{Sound}
use Rattle.plc_frame.proofs.Spelling.{FaceSpelled}
use Rattle.plc_expr.specs.Sorts.{branches_types, factors_types, form_types, is_bool_type as is_bool_sent, is_boolean, list_types, own_types, terms_types, type_by}
use Rattle.plc_event_model.specs.Own.{bodies_types, choice_types, conditions_types, net_faces, event_vars, faces_sent, if_face, new_face, new_face_of, new_type, range_face, range_faces, sent_faces, sent_types, tests_range, updates_types, update_types}
use Rattle.plc_event_model.specs.Sends.{event_type}
use Rattle.plc_event_model.specs.Keeps.{asked}
use Rattle.plc_event_model.specs.Parts.{done_faces, event_faces, needs_done}
use Rattle.plc_event_model.specs.ProgramParts.{defined_types, shown_faces}
use Rattle.plc_gen_laws.proofs.Literals.{first-spelled, type-spelled}
use Rattle.plc_gen_laws.proofs.OwnNames.{faces_of}

-- it starts in its type, and its declaration has a spelling
pub record Good (x : VariableFace) : Type 0 where
  pub sound : Sound x
  pub spelled : FaceSpelled x

abbrev pub AllGood : List VariableFace → Type 0
AllGood xs = AllByRecursion Good xs

pub all-both : {A : Type 0} (P : A → Type 0) (xs ys : List A) → AllByRecursion P xs → AllByRecursion P ys → AllByRecursion P (xs ++ ys)
all-both P [] ys a b = b
all-both P (x ∷ xs) ys a b = (a.0, all-both P xs ys a.1 b)

-- ---- own variables of expressions

abbrev Plain : StTy → Type 0
Plain u = Good (if_face u)

abbrev AllPlain : List StTy → Type 0
AllPlain us = AllByRecursion Plain us

type-plain : (b : Bool) → Plain (type_by b)
type-plain true = record { sound = record { type = refl; first = refl }; spelled = record { type = refl; first = refl } }
type-plain false = record { sound = record { type = refl; first = refl }; spelled = record { type = refl; first = refl } }

module _ (n : Net) (r : Option Ty) where
  two : (us vs : List StTy) → AllPlain us → AllPlain vs → AllPlain (us ++ vs)
  two us vs a b = all-both Plain us vs a b

  mutual
    expr-plain : (e : NetExpr) → AllPlain (own_types n r e)
    expr-plain (net_expr f at) = form-plain f

    form-plain : (f : NetForm) → AllPlain (form_types n r f)
    form-plain (n_minus e) = expr-plain e
    form-plain (n_plus e) = expr-plain e
    form-plain (n_not e) = expr-plain e
    form-plain (n_abs e) = expr-plain e
    form-plain (n_min a b) = two (own_types n r a) (own_types n r b) (expr-plain a) (expr-plain b)
    form-plain (n_max a b) = two (own_types n r a) (own_types n r b) (expr-plain a) (expr-plain b)
    form-plain (n_sum e es) = two (own_types n r e) (terms_types n r es) (expr-plain e) (terms-plain es)
    form-plain (n_product e es) = two (own_types n r e) (factors_types n r es) (expr-plain e) (factors-plain es)
    form-plain (n_compare a op b) = two (own_types n r a) (own_types n r b) (expr-plain a) (expr-plain b)
    form-plain (n_and es) = list-plain es
    form-plain (n_or es) = list-plain es
    form-plain (n_implies a b) = two (own_types n r a) (own_types n r b) (expr-plain a) (expr-plain b)
    form-plain (n_iff a b) = two (own_types n r a) (own_types n r b) (expr-plain a) (expr-plain b)
    form-plain (n_if bs e) = (type-plain (is_boolean n r e), two (branches_types n r bs) (own_types n r e) (branches-plain bs) (expr-plain e))
    form-plain f = tt

    terms-plain : (es : NetTerms) → AllPlain (terms_types n r es)
    terms-plain no_net_terms = tt
    terms-plain (net_terms m e es) = two (own_types n r e) (terms_types n r es) (expr-plain e) (terms-plain es)

    factors-plain : (es : NetFactors) → AllPlain (factors_types n r es)
    factors-plain no_net_factors = tt
    factors-plain (net_factors op e es) = two (own_types n r e) (factors_types n r es) (expr-plain e) (factors-plain es)

    list-plain : (es : NetExprs) → AllPlain (list_types n r es)
    list-plain no_net_exprs = tt
    list-plain (net_exprs e es) = two (own_types n r e) (list_types n r es) (expr-plain e) (list-plain es)

    branches-plain : (bs : NetBranches) → AllPlain (branches_types n r bs)
    branches-plain no_net_branches = tt
    branches-plain (net_branches c e bs) =
        two (own_types n r c) (own_types n r e ++ branches_types n r bs) (expr-plain c) (two (own_types n r e) (branches_types n r bs) (expr-plain e) (branches-plain bs))

  conditions-plain : (bs : NetUpdateBranches) → AllPlain (conditions_types n r bs)
  conditions-plain no_net_update_branches = tt
  conditions-plain (net_update_branches c us bs) = two (own_types n r c) (conditions_types n r bs) (expr-plain c) (conditions-plain bs)

  mutual
    updates-plain : (us : NetUpdates) → AllPlain (updates_types n r us)
    updates-plain no_net_updates = tt
    updates-plain (net_updates u us) = two (updates_types n r us) (update_types n r u) (updates-plain us) (update-plain u)

    update-plain : (u : NetUpdate) → AllPlain (update_types n r u)
    update-plain (net_set v e) = expr-plain e
    update-plain (net_choose bs us) =
        two (conditions_types n r bs) (bodies_types n r bs ++ updates_types n r us) (conditions-plain bs) (two (bodies_types n r bs) (updates_types n r us) (bodies-plain bs) (updates-plain us))

    bodies-plain : (bs : NetUpdateBranches) → AllPlain (bodies_types n r bs)
    bodies-plain no_net_update_branches = tt
    bodies-plain (net_update_branches c us bs) = two (updates_types n r us) (bodies_types n r bs) (updates-plain us) (bodies-plain bs)

sent-plain : (n : Net) (e : Option NetExpr) → AllPlain (sent_types n e)
sent-plain n None = tt
sent-plain n (Some e) = expr-plain n None e

choices-plain : (n : Net) (cs : List NetChoice) → AllPlain (flat_map (choice_types n) cs)
choices-plain n [] = tt
choices-plain n (c ∷ cs) =
    let kept : List StTy = own_types n None (all_hold (asked n c)) in
    all-both Plain (choice_types n c) (flat_map (choice_types n) cs)
    (all-both Plain (own_types n None c.test) (sent_types n c.sent ++ (updates_types n (carried_type n c) c.writes ++ kept)) (expr-plain n None c.test)
    (all-both Plain (sent_types n c.sent) (updates_types n (carried_type n c) c.writes ++ kept) (sent-plain n c.sent)
    (all-both Plain (updates_types n (carried_type n c) c.writes) kept (updates-plain n (carried_type n c) c.writes) (expr-plain n None (all_hold (asked n c)))))) (choices-plain n cs)

ifs-good : (us : List StTy) → AllPlain us → AllGood (map if_face us)
ifs-good [] h = tt
ifs-good (u ∷ us) h = (h.0, ifs-good us h.1)

-- ---- algebraic variables

defined-plain : (n : Net) (as' : List NetAlg) → AllPlain (defined_types n as')
defined-plain n [] = tt
defined-plain n (a ∷ as') = all-both Plain (own_types n None (defined_by a)) (defined_types n as') (expr-plain n None (defined_by a)) (defined-plain n as')

pub shown-good : (n : Net) → AllGood (shown_faces n)
shown-good n = ifs-good (defined_types n n.algs) (defined-plain n n.algs)

-- FALSE or 0
pub algs-good : (as' : List NetAlg) → AllGood (map alg_face (map alg_face_of as'))
algs-good [] = tt
algs-good (a ∷ as') = (go (is_bool_type a.type_of), algs-good as')
  where
    go : (b : Bool) → Good (record { path = a.path; ty = if b then ty.Bool else ty.Lint; first = pos 0 })
    go true = record { sound = record { type = refl; first = refl }; spelled = record { type = refl; first = refl } }
    go false = record { sound = record { type = refl; first = refl }; spelled = record { type = refl; first = refl } }

-- ---- new values

wide : (lo hi z : ℤ) → is_type (t.Int lo hi) ≡ true → in_range (type_range (t.Int lo hi)) z ≡ true → IsTrue (in_range (range_of ty.Lint) z)
wide lo hi z h g = grind (arith, ints)

new-good : (y : Ty) (z : ℤ) (path : Text) → is_type y ≡ true → is_small y ≡ true → in_range (type_range y) z ≡ true → Good (record { path = path; ty = new_type y; first = z })
new-good t.Bool z path h small inside = record { sound = record { type = refl; first = inside }; spelled = record { type = refl; first = refl } }
new-good (t.Int lo hi) z path h small inside =
    record { sound = record { type = refl; first = wide lo hi z h inside }; spelled = record { type = refl; first = first-spelled (t.Int lo hi) z h small inside } }
new-good (t.Enum size) z path h small inside =
    record { sound = record { type = upward size z inside; first = inside }; spelled = record { type = type-spelled (t.Enum size) h small; first = first-spelled (t.Enum size) z h small inside } }
  where
    upward : (size : ℕ) (z : ℤ) → (int_le (pos 0) z && int_le z (pos size -ℤ pos 1)) ≡ true → int_le (pos 0) (pos size -ℤ pos 1) ≡ true
    upward size z g = grind (arith, ints)

module _ (n : Net) (vars : list_all stored_stands n.vars ≡ true) (small : are_small n.vars ≡ true) where
  new-face-good : (v : ℕ) → Good (new_face n v)
  new-face-good v = go (slice_get n.vars v) refl
    where
      go : (o : Option NetStored) → slice_get n.vars v ≡ o → Good (new_face_of o)
      go None at = record { sound = record { type = refl; first = refl }; spelled = record { type = refl; first = refl } }
      go (Some d) at =
          let stands : stored_stands d ≡ true = all-at stored_stands n.vars v d vars at in
          new-good d.type_of d.first (codes "new_" ++ d.path) (and-left _ _ (and-left _ _ stands)) (all-at (λ (q : NetStored). is_small q.type_of) n.vars v d small at) (and-right _ _ stands)

  news-good : (vs : List ℕ) → AllGood (map (new_face n) vs)
  news-good [] = tt
  news-good (v ∷ vs) = (new-face-good v, news-good vs)

  bool-good : (x : VariableFace) → Good x → (b : Bool) → AllGood (if b then x ∷ [] else [])
  bool-good x h true = (h, tt)
  bool-good x h false = tt

  flag-good : (path : Text) → Good (record { path = path; ty = ty.Bool; first = pos 0 })
  flag-good path = record { sound = record { type = refl; first = refl }; spelled = record { type = refl; first = refl } }

  -- FALSE or 0
  sent-good : (t : Option Ty) → AllGood (faces_sent t)
  sent-good None = tt
  sent-good (Some u) = (go (is_bool_sent u), tt)
    where
      go : (b : Bool) → Good (record { path = codes "sent"; ty = type_by b; first = pos 0 })
      go true = record { sound = record { type = refl; first = refl }; spelled = record { type = refl; first = refl } }
      go false = record { sound = record { type = refl; first = refl }; spelled = record { type = refl; first = refl } }

  event-good : (cs : List NetChoice) → AllGood (event_faces n cs)
  event-good cs =
      let ifs : List VariableFace = map if_face (flat_map (choice_types n) cs) in
      all-both Good (done_faces n cs) (net_faces n cs) (bool-good done_face (flag-good (codes "done")) (needs_done n cs))
      (all-both Good (range_faces n cs) (map (new_face n) (event_vars cs) ++ (sent_faces n cs ++ ifs)) (bool-good range_face (flag-good (codes "in_range")) (tests_range n cs))
      (all-both Good (map (new_face n) (event_vars cs)) (sent_faces n cs ++ ifs) (news-good (event_vars cs))
      (all-both Good (sent_faces n cs) ifs (sent-good (event_type n cs)) (ifs-good (flat_map (choice_types n) cs) (choices-plain n cs)))))

  pub faces-good : (cs : List NetChoice) (es : List ℕ) → AllGood (faces_of n cs es)
  faces-good cs [] = tt
  faces-good cs (e ∷ es) = all-both Good (event_faces n (choices_of cs e)) (faces_of n cs es) (event-good (choices_of cs e)) (faces-good cs es)

pub all-sound : (xs : List VariableFace) → AllGood xs → AllByRecursion Sound xs
all-sound [] h = tt
all-sound (x ∷ xs) h = (h.0.sound, all-sound xs h.1)

pub all-spelled : (xs : List VariableFace) → AllGood xs → AllByRecursion FaceSpelled xs
all-spelled [] h = tt
all-spelled (x ∷ xs) h = (h.0.spelled, all-spelled xs h.1)
