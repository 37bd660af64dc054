-- The updates of a net's edge stand: each assigned variable is there, each value has its kind, and no two updates of a list
-- assign one variable.
use Rattle.std.proofs.Common.{◌≡◌, ℕ, true, inl, inr, List, [], ◌∷◌, ◌++◌, map, Option, Some, None, refl, sym, ◌∙◌, ap, subst}
use Rattle.std.specs.Prelude.{◌&&◌, flat_map, slice_get}
use Rattle.cif_base.specs.declared.types.Ty.{Ty}
use Rattle.cif_ast.specs.Tree.{Tree, Trees, no_trees, trees, UpdateTree, assignment, selection, UpdateTrees, no_updates, updates, UpdateBranches, no_update_branches, update_branches}
use Rattle.cif_ast.specs.Throughout.{HoldsInTree, HoldsInWholes, HoldsInUpdateTree, HoldsInUpdateTrees, HoldsInUpdateBranches}
use Rattle.cif_ast.specs.SmallNumbers.{small_parts}
use Rattle.cif_ast.specs.declared.names.Name.{Name}
use Rattle.cif_system.specs.Words.{Member}
use Rattle.cif_system.proofs.Picks.{append-left, append-right}
use Rattle.cif_system.proofs.Distinct.{member-append, member-map}
use Rattle.cif_net_expr.specs.Tree.{no_net_updates, net_updates}
use Rattle.cif_net_model.specs.Kinds as net
use Rattle.cif_net_model.specs.Kinds.{has_type, fits, fits_type}
use Rattle.cif_net_model.specs.Exprs.{targets}
use Rattle.cif_net_model.specs.Facts.{are_apart, var_kind, assigns_kind, updates_stand, update_stands, branches_stand}
use Rattle.cif_source.specs.Source.{TypeTree, disc_decl, Source, list_of_trees}
use Rattle.cif_source.specs.Components.{Component}
use Rattle.cif_source.specs.Lookup.{found}
use Rattle.cif_source.specs.Objects.{components_of, variables}
use Rattle.cif_source.specs.Kinds.{Kind, bool_kind, type_kind, kind_at, kind_of, demand}
use Rattle.cif_source.specs.Constants.{types_of}
use Rattle.cif_source.specs.Demands.{demanded, asked_for, updates_demands, update_demands, branches_demands}
use Rattle.cif_source.specs.BodyRules.{targets_of_all, targets_of, targets_of_branches, lists_in_all, lists_in, lists_in_branches}
use Rattle.cif_inst_model.specs.Flat.{net_of_source, net_stored, variable_number, net_updates_of, net_update_of, net_update_branches_of}
use Rattle.cif_inst_model.specs.Translation.{conjunction, net_of, net_list, net_guard}
use Rattle.cif_inst_model.specs.Types.{net_type}
use Rattle.cif_inst_bodies.specs.Denoted.{DenotesVariable}
use Rattle.cif_inst_laws.specs.Kinds.{AreMet, IsCarried, IsReceived, net_kind}
use Rattle.cif_inst_laws.proofs.ExprLaws.{is_valued, kind-told}
use Rattle.cif_inst_laws.proofs.TypeLaws.{written}
use Rattle.cif_inst_laws.proofs.NameLaws.{get-map}
use Rattle.cif_inst_laws.proofs.Sound.{IsSound}
use Rattle.cif_inst_laws.proofs.Finding.{variable-there}
use Rattle.cif_inst_laws.proofs.Demanded.{met-left, met-right, met-each}
use Rattle.cif_inst_laws.proofs.Assigning.{IsApart, targets-are, assigning-update}
use Rattle.cif_inst_laws.proofs.Tests.{both, apart-none}

-- expressions of components keep their kinds in the net, in updates with what is received, and so do sent values
pub record KeepExpressions (t : Source) : Type 0 where
  pub expressions : (c : Component) (k : Kind) (e : Tree) → Member c (components_of t) → AreMet c (asked_for c k e) → HoldsInTree small_parts e → fits (net_of_source t) None (net_kind k) (net_of c e) ≡ true
  pub guards : (c : Component) (at : ℕ) (all : List Tree) → Member c (components_of t) → ((e : Tree) → Member e all → AreMet c (asked_for c bool_kind e)) → ((e : Tree) → Member e all → HoldsInTree small_parts e)
      → fits (net_of_source t) None net.bool_kind (net_guard c at all) ≡ true
  pub values : (c : Component) (r : Kind) (o : Option Ty) (k : Kind) (e : Tree) → Member c (components_of t) → IsReceived (net_of_source t) r o → AreMet c (demanded c r k e) → HoldsInTree small_parts e
      → fits (net_of_source t) o (net_kind k) (net_of c e) ≡ true
  pub conditions : (c : Component) (r : Kind) (o : Option Ty) (all : List Tree) → Member c (components_of t) → IsReceived (net_of_source t) r o → ((e : Tree) → Member e all → AreMet c (demanded c r bool_kind e))
      → ((e : Tree) → Member e all → HoldsInTree small_parts e) → fits (net_of_source t) o net.bool_kind (conjunction (net_list c all)) ≡ true
  pub sent : (c : Component) (ty : Ty) (k : Kind) (e : Tree) → Member c (components_of t) → IsCarried (net_of_source t) (Some ty) → has_type ty (net_kind k) ≡ true → AreMet c (asked_for c k e) → HoldsInTree small_parts e
      → fits_type (net_of_source t) ty (net_of c e) ≡ true

-- and so do types
pub record KeepKinds (t : Source) : Type 0 where
  pub types : (c : Component) → Member c (components_of t) → (x : TypeTree) → Member x (types_of c) → is_valued (type_kind c x) ≡ true → net.kind_of (net_type c x).type_of (net_type c x).literals ≡ net_kind (type_kind c x)
  pub expressions : KeepExpressions t

whole-holds : (cs : Trees) → HoldsInWholes small_parts cs → (e : Tree) → Member e (list_of_trees cs) → HoldsInTree small_parts e
whole-holds no_trees h e m = absurd m
whole-holds (trees x cs) h e m =
    elim m [
      | inl w ↦ subst (HoldsInTree small_parts) (sym w) h.0
      | inr w ↦ whole-holds cs h.2 e w
    ]

-- `?` has the kind r, and what is received has the type o
module _ (t : Source) (h : IsSound t) (kept : KeepKinds t) (c : Component) (m : Member c (components_of t)) (r : Kind) (o : Option Ty) (is : IsReceived (net_of_source t) r o) where
  -- no two updates of the list assign one variable, and so it is with the lists within
  abbrev AllApart : UpdateTrees → Type 0
  AllApart us = (vs : UpdateTrees) → Member vs (us ∷ lists_in_all us) → IsApart c vs

  abbrev AllLead : List Name → Type 0
  AllLead nms = (nm : Name) → Member nm nms → DenotesVariable t c nm

  -- a value has the kind of its variable
  value-fits : (nm : Name) (e : Tree) → DenotesVariable t c nm → AreMet c (demanded c r (kind_at (found c nm)) e) → HoldsInTree small_parts e
      → assigns_kind (net_of_source t) o (var_kind (slice_get (map net_stored (variables t)) (variable_number c nm))) (net_of c e) ≡ true
  value-fits nm e l met small =
      let there : slice_get (map net_stored (variables t)) (variable_number c nm) ≡ Some (net_stored (l.place, disc_decl l.type_of l.ident l.first)) =
      get-map net_stored (variables t) (variable_number c nm) (l.place, disc_decl l.type_of l.ident l.first) (variable-there t h c nm l) in
      let same : kind_at (found c nm) ≡ type_kind l.place l.type_of = ap kind_at l.is_found in
      let told = kind-told (kind_of c r e) (kind_at (found c nm)) (met (demand r (kind_at (found c nm)) e) (inl refl)) in
      let valued : is_valued (type_kind l.place l.type_of) ≡ true = ap is_valued (sym same ∙ sym told.1) ∙ told.0 in
      ap (λ v. assigns_kind (net_of_source t) o (var_kind v) (net_of c e)) there
      ∙ ap (λ k. fits (net_of_source t) o k (net_of c e)) (kept.types l.place l.is_listed l.type_of (written l.place (disc_decl l.type_of l.ident l.first) l.type_of l.is_declared (inl refl)) valued ∙ ap net_kind (sym same))
      ∙ kept.expressions.values c r o (kind_at (found c nm)) e m is met small

  -- an update and those after it assign different variables
  first-apart : (u : UpdateTree) (us : UpdateTrees) → IsApart c (updates u us) → are_apart (targets (net_updates (net_update_of c u) no_net_updates)) (targets (net_updates_of c us)) ≡ true
  first-apart u us apart =
      apart-none (targets (net_updates (net_update_of c u) no_net_updates)) (targets (net_updates_of c us)) (λ v i j.
      let x = member-map (variable_number c) v (targets_of u ++ []) (subst (Member v) (targets-are c (updates u no_updates)) i) in
      let y = member-map (variable_number c) v (targets_of_all us) (subst (Member v) (targets-are c us) j) in
      let w = assigning-update us y.0 y.1 in
      apart u w.0 (inl (refl, w.1)) x.0 y.0 (elim (member-append x.0 (targets_of u) [] x.1) [ inl g ↦ g | inr g ↦ absurd g ]) w.2 (sym x.2 ∙ y.2))

  mutual
    pub updates-stand : (us : UpdateTrees) → AreMet c (updates_demands c r us) → HoldsInUpdateTrees small_parts us → AllLead (targets_of_all us) → AllApart us → updates_stand (net_of_source t) o (net_updates_of c us) ≡ true
    updates-stand no_updates met small lead apart = refl
    updates-stand (updates u us) met small lead apart =
        both (update_stands (net_of_source t) o (net_update_of c u) && are_apart (targets (net_updates (net_update_of c u) no_net_updates)) (targets (net_updates_of c us))) (updates_stand (net_of_source t) o (net_updates_of c us))
        (both (update_stands (net_of_source t) o (net_update_of c u)) (are_apart (targets (net_updates (net_update_of c u) no_net_updates)) (targets (net_updates_of c us)))
        (update-stands u (met-left c (update_demands c r u) (updates_demands c r us) met) small.0 (λ nm i. lead nm (append-left nm (targets_of u) (targets_of_all us) i))
        (λ vs i. apart vs (inr (append-left vs (lists_in u) (lists_in_all us) i))))
        (first-apart u us (apart (updates u us) (inl refl))))
        (updates-stand us (met-right c (update_demands c r u) (updates_demands c r us) met) small.1 (λ nm i. lead nm (append-right nm (targets_of u) (targets_of_all us) i))
        (λ vs i. elim i [
          | inl w ↦ subst (IsApart c) (sym w) (λ earlier later order. apart (updates u us) (inl refl) earlier later (inr order))
          | inr w ↦ apart vs (inr (append-right vs (lists_in u) (lists_in_all us) w))
        ]))

    update-stands : (u : UpdateTree) → AreMet c (update_demands c r u) → HoldsInUpdateTree small_parts u → AllLead (targets_of u) → ((vs : UpdateTrees) → Member vs (lists_in u) → IsApart c vs) → update_stands (net_of_source t) o (net_update_of c u) ≡ true
    update-stands (assignment nm e) met small lead apart = value-fits nm e (lead nm (inl refl)) met small.1
    update-stands (selection bs us) met small lead apart =
        both (branches_stand (net_of_source t) o (net_update_branches_of c bs)) (updates_stand (net_of_source t) o (net_updates_of c us))
        (branches-stand bs (met-left c (branches_demands c r bs) (updates_demands c r us) met) small.0 (λ nm i. lead nm (append-left nm (targets_of_branches bs) (targets_of_all us) i))
        (λ vs i. apart vs (append-left vs (lists_in_branches bs) (us ∷ lists_in_all us) i)))
        (updates-stand us (met-right c (branches_demands c r bs) (updates_demands c r us) met) small.1 (λ nm i. lead nm (append-right nm (targets_of_branches bs) (targets_of_all us) i))
        (λ vs i. apart vs (append-right vs (lists_in_branches bs) (us ∷ lists_in_all us) i)))

    branches-stand : (bs : UpdateBranches) → AreMet c (branches_demands c r bs) → HoldsInUpdateBranches small_parts bs → AllLead (targets_of_branches bs) → ((vs : UpdateTrees) → Member vs (lists_in_branches bs) → IsApart c vs)
        → branches_stand (net_of_source t) o (net_update_branches_of c bs) ≡ true
    branches-stand no_update_branches met small lead apart = refl
    branches-stand (update_branches cs us bs) met small lead apart =
        let asked = flat_map (demanded c r bool_kind) (list_of_trees cs) in
        let front = met-left c (asked ++ updates_demands c r us) (branches_demands c r bs) met in
        both (fits (net_of_source t) o net.bool_kind (conjunction (net_list c (list_of_trees cs))) && updates_stand (net_of_source t) o (net_updates_of c us)) (branches_stand (net_of_source t) o (net_update_branches_of c bs))
        (both (fits (net_of_source t) o net.bool_kind (conjunction (net_list c (list_of_trees cs)))) (updates_stand (net_of_source t) o (net_updates_of c us))
        (kept.expressions.conditions c r o (list_of_trees cs) m is (met-each c (demanded c r bool_kind) (list_of_trees cs) (met-left c asked (updates_demands c r us) front)) (whole-holds cs small.1))
        (updates-stand us (met-right c asked (updates_demands c r us) front) small.2 (λ nm i. lead nm (append-left nm (targets_of_all us) (targets_of_branches bs) i))
        (λ vs i. apart vs (elim i [ inl w ↦ inl w | inr w ↦ inr (append-left vs (lists_in_all us) (lists_in_branches bs) w) ]))))
        (branches-stand bs (met-right c (asked ++ updates_demands c r us) (branches_demands c r bs) met) small.3 (λ nm i. lead nm (append-right nm (targets_of_all us) (targets_of_branches bs) i))
        (λ vs i. apart vs (inr (append-right vs (lists_in_all us) (lists_in_branches bs) i))))
