-- The variables that the updates of a net assign are those that the source's updates name, and no two updates of one list
-- assign one variable.
use Rattle.std.proofs.Common.{◌≡◌, ℕ, inl, inr, List, [], ◌∷◌, ◌++◌, map, refl, sym, ◌∙◌, ap, subst}
use Rattle.std.specs.Prelude.{slice_get}
use Rattle.std.proofs.lemmas.List.{map-append}
use Rattle.cif_ast.specs.Tree.{UpdateTree, assignment, selection, UpdateTrees, no_updates, updates, UpdateBranches, no_update_branches, update_branches}
use Rattle.cif_ast.specs.declared.names.Name.{Name}
use Rattle.cif_system.specs.Words.{Member, Before}
use Rattle.cif_system.proofs.Lists.{some-same}
use Rattle.cif_system.proofs.Picks.{append-left, append-right}
use Rattle.cif_system.proofs.Distinct.{member-append}
use Rattle.cif_net_model.specs.Exprs.{Written, writes_all, writes_by, writes_in, targets}
use Rattle.cif_source.specs.Source.{EdgeTree, disc_decl, Source, list_of_updates}
use Rattle.cif_source.specs.Components.{Component, declared}
use Rattle.cif_source.specs.Lookup.{reached}
use Rattle.cif_source.specs.Objects.{components_of, Declared, variables}
use Rattle.cif_source.specs.BodyRules.{edges_of, targets_of_all, targets_of, targets_of_branches, lists_in_all, lists_in, lists_in_branches, lists_of}
use Rattle.cif_inst_model.specs.Flat.{variable_number, net_updates_of, net_update_of, net_update_branches_of}
use Rattle.cif_inst_bodies.specs.Denoted.{DenotesVariable}
use Rattle.cif_inst_bodies.proofs.OwnLaws.{assigned-once}
use Rattle.cif_inst_laws.proofs.Sound.{IsSound, own, once, as-body}
use Rattle.cif_inst_laws.proofs.Finding.{variable-denoted, variable-there}
use Rattle.cif_inst_laws.proofs.Uses.{variable-used}
use Rattle.cif_inst_laws.proofs.Tests.{contained}

-- ---- numbers of names

abbrev assigned : List Written → List ℕ
assigned ws = map (λ (w : Written). w.var) ws

module _ (c : Component) where
  mutual
    pub targets-are : (us : UpdateTrees) → targets (net_updates_of c us) ≡ map (variable_number c) (targets_of_all us)
    targets-are no_updates = refl
    targets-are (updates u us) =
        map-append (λ (w : Written). w.var) (writes_by (net_update_of c u)) (writes_all (net_updates_of c us))
        ∙ ap (λ xs. xs ++ assigned (writes_all (net_updates_of c us))) (one-are u)
        ∙ ap (λ xs. map (variable_number c) (targets_of u) ++ xs) (targets-are us)
        ∙ sym (map-append (variable_number c) (targets_of u) (targets_of_all us))

    one-are : (u : UpdateTree) → assigned (writes_by (net_update_of c u)) ≡ map (variable_number c) (targets_of u)
    one-are (assignment nm e) = refl
    one-are (selection bs us) =
        map-append (λ (w : Written). w.var) (writes_in (net_update_branches_of c bs)) (writes_all (net_updates_of c us))
        ∙ ap (λ xs. xs ++ assigned (writes_all (net_updates_of c us))) (branches-are bs)
        ∙ ap (λ xs. map (variable_number c) (targets_of_branches bs) ++ xs) (targets-are us)
        ∙ sym (map-append (variable_number c) (targets_of_branches bs) (targets_of_all us))

    branches-are : (bs : UpdateBranches) → assigned (writes_in (net_update_branches_of c bs)) ≡ map (variable_number c) (targets_of_branches bs)
    branches-are no_update_branches = refl
    branches-are (update_branches cs us bs) =
        map-append (λ (w : Written). w.var) (writes_all (net_updates_of c us)) (writes_in (net_update_branches_of c bs))
        ∙ ap (λ xs. xs ++ assigned (writes_in (net_update_branches_of c bs))) (targets-are us)
        ∙ ap (λ xs. map (variable_number c) (targets_of_all us) ++ xs) (branches-are bs)
        ∙ sym (map-append (variable_number c) (targets_of_all us) (targets_of_branches bs))

-- ---- lists within lists

-- what an update of a list assigns, the list assigns
pub update-assigns : (us : UpdateTrees) (u : UpdateTree) (nm : Name) → Member u (list_of_updates us) → Member nm (targets_of u) → Member nm (targets_of_all us)
update-assigns no_updates u nm m k = absurd m
update-assigns (updates v us) u nm m k =
    elim m [
      | inl w ↦ append-left nm (targets_of v) (targets_of_all us) (subst (λ x. Member nm (targets_of x)) w k)
      | inr w ↦ append-right nm (targets_of v) (targets_of_all us) (update-assigns us u nm w k)
    ]

-- and one of its updates does
pub assigning-update : (us : UpdateTrees) (nm : Name) → Member nm (targets_of_all us) → (u : UpdateTree) × Member u (list_of_updates us) × Member nm (targets_of u)
assigning-update no_updates nm m = absurd m
assigning-update (updates u us) nm m =
    elim (member-append nm (targets_of u) (targets_of_all us) m) [
      | inl w ↦ (u, inl refl, w)
      | inr w ↦ let rest = assigning-update us nm w in (rest.0, inr rest.1, rest.2)
    ]

-- what a list within updates assigns, these assign
mutual
  pub inner-all : (us vs : UpdateTrees) (nm : Name) → Member vs (lists_in_all us) → Member nm (targets_of_all vs) → Member nm (targets_of_all us)
  inner-all no_updates vs nm m k = absurd m
  inner-all (updates u us) vs nm m k =
      elim (member-append vs (lists_in u) (lists_in_all us) m) [
        | inl w ↦ append-left nm (targets_of u) (targets_of_all us) (inner-one u vs nm w k)
        | inr w ↦ append-right nm (targets_of u) (targets_of_all us) (inner-all us vs nm w k)
      ]

  inner-one : (u : UpdateTree) (vs : UpdateTrees) (nm : Name) → Member vs (lists_in u) → Member nm (targets_of_all vs) → Member nm (targets_of u)
  inner-one (assignment x e) vs nm m k = absurd m
  inner-one (selection bs us) vs nm m k =
      elim (member-append vs (lists_in_branches bs) (us ∷ lists_in_all us) m) [
        | inl w ↦ append-left nm (targets_of_branches bs) (targets_of_all us) (inner-branches bs vs nm w k)
        | inr w ↦ append-right nm (targets_of_branches bs) (targets_of_all us) (elim w [
          | inl v ↦ subst (λ x. Member nm (targets_of_all x)) v k
          | inr v ↦ inner-all us vs nm v k
        ])
      ]

  inner-branches : (bs : UpdateBranches) (vs : UpdateTrees) (nm : Name) → Member vs (lists_in_branches bs) → Member nm (targets_of_all vs) → Member nm (targets_of_branches bs)
  inner-branches no_update_branches vs nm m k = absurd m
  inner-branches (update_branches cs us bs) vs nm m k =
      elim m [
        | inl w ↦ append-left nm (targets_of_all us) (targets_of_branches bs) (subst (λ x. Member nm (targets_of_all x)) w k)
        | inr w ↦ elim (member-append vs (lists_in_all us) (lists_in_branches bs) w) [
          | inl v ↦ append-left nm (targets_of_all us) (targets_of_branches bs) (inner-all us vs nm v k)
          | inr v ↦ append-right nm (targets_of_all us) (targets_of_branches bs) (inner-branches bs vs nm v k)
        ]
      ]

before-first : {A : Type 0} (x y : A) (xs : List A) → Before x y xs → Member x xs × Member y xs
before-first x y [] b = absurd b
before-first x y (z ∷ zs) b =
    elim b [
      | inl w ↦ (inl w.0, inr w.1)
      | inr w ↦ let rest = before-first x y zs w in (inr rest.0, inr rest.1)
    ]

-- ---- one variable is assigned once

-- no two updates of the list assign one variable
abbrev pub IsApart : Component → UpdateTrees → Type 0
IsApart c us = (earlier later : UpdateTree) → Before earlier later (list_of_updates us) → (x y : Name) → Member x (targets_of earlier) → Member y (targets_of later) → variable_number c x ≡ variable_number c y → ⊥

abbrev pub SameDeclared : Declared → Declared → Type 0
SameDeclared d e = d ≡ e

module _ (t : Source) (h : IsSound t) where
  -- names of one number denote one variable
  pub one-variable : (c d : Component) (x y : Name) (k : DenotesVariable t c x) (l : DenotesVariable t d y) → variable_number c x ≡ variable_number d y
      → SameDeclared (k.place, disc_decl k.type_of k.ident k.first) (l.place, disc_decl l.type_of l.ident l.first)
  one-variable c d x y k l same =
      some-same (k.place, disc_decl k.type_of k.ident k.first) (l.place, disc_decl l.type_of l.ident l.first)
      (sym (variable-there t h c x k) ∙ ap (slice_get (variables t)) same ∙ variable-there t h d y l)

  module _ (c : Component) (m : Member c (components_of t)) (e : EdgeTree) (k : Member e (edges_of c)) where
    pub leads : (nm : Name) → Member nm (targets_of_all e.updates) → DenotesVariable t c nm
    leads nm i = variable-denoted t h c m nm (variable-used c e k nm i)

    assigned-by : (vs : UpdateTrees) → Member vs (lists_of e) → (nm : Name) → Member nm (targets_of_all vs) → Member nm (targets_of_all e.updates)
    assigned-by vs i nm j =
        elim i [
          | inl w ↦ subst (λ x. Member nm (targets_of_all x)) w j
          | inr w ↦ inner-all e.updates vs nm w j
        ]

    pub lists-apart : (vs : UpdateTrees) → Member vs (lists_of e) → IsApart c vs
    lists-apart vs i earlier later order x y p q same =
        let two = before-first earlier later (list_of_updates vs) order in
        let first = leads x (assigned-by vs i x (update-assigns vs earlier x two.0 p)) in
        let second = leads y (assigned-by vs i y (update-assigns vs later y two.1 q)) in
        let one = one-variable c c x y first second same in
        assigned-once t (own t h) c (as-body t h c m) e k (once t h) vs i y.at
        (record {
          earlier = earlier;
          later = later;
          order = order;
          earlier_name = x;
          later_name = y;
          earlier_assigns = contained (targets_of earlier) x p;
          later_assigns = contained (targets_of later) y q;
          later_at = refl;
          variable = (first.place, declared (disc_decl first.type_of first.ident first.first));
          earlier_found = first.is_found;
          later_found = second.is_found ∙ ap (λ (d : Declared). reached (d.0, declared d.1)) (sym one);
        })
        (assigned-by vs i x (update-assigns vs earlier x two.0 p)) (assigned-by vs i y (update-assigns vs later y two.1 q))
