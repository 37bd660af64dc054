-- Each expression of a made source has the kind that its position asks for, and each event is used as it is declared.
use Rattle.std.proofs.Common.{◌≡◌, ℕ, zero, suc, ◌<◌, ◌⊎◌, Bool, true, false, List, [], ◌∷◌, ◌++◌, refl, sym, ap, subst, ◌∙◌, codes, inl, inr}
use Rattle.std.specs.Prelude.{flat_map, IsTrue}
use Rattle.std.specs.List.{Any, AllByRecursion}
use Rattle.cif_ast.specs.Tree.{Tree}
use Rattle.cif_source.specs.Source.{UseTree, EdgeTree, bool_type, range_type, InstanceTree, tree_at, list_of_items}
use Rattle.cif_source.specs.Components.{Component, whole}
use Rattle.cif_source.specs.Lookup.{found, definition_found}
use Rattle.cif_source.specs.Objects.{decls_of, item_decls}
use Rattle.cif_source.specs.Constants.{Bounds, bounds_of}
use Rattle.cif_source.specs.Kinds.{Demand, kind_of, same_kind, bool_kind, int_kind, type_kind_within, kind_at}
use Rattle.cif_source.specs.Demands.{demands, asked_for, decl_demands, argument_demands, Argument, arguments_in, arguments_at, is_unfit, is_unfit_for, event_channel}
use Rattle.cif_source.specs.Scoping.{instances_of}
use Rattle.cif_source.specs.BodyRules.{edges_of, BadValue, BadUse, BadArgument, MismatchDue}
use Rattle.cif_maker.specs.Draws.{next_of}
use Rattle.cif_maker.specs.MadeText.{numbered}
use Rattle.cif_maker_laws.specs.MadeTree.{name_at, dotted_at}
use Rattle.cif_maker_laws.proofs.Bodies.{not_false, any_none, each-append, flat_twice, made, at_of, need_at_of, plant_of, items_for}
use Rattle.cif_maker_laws.proofs.NoSubject.{whole_bounds}
use Rattle.cif_maker_laws.proofs.Lookups.{IsShort}
use Rattle.cif_maker_laws.proofs.Names.{in_no_body_below, each_item_below, next_small, s_found, idle_found, whole_instances}

-- ---- kinds of types

numbers_kind : (n : ℕ) (c : Component) (lower upper : Tree) → type_kind_within n c (range_type lower upper) ≡ int_kind
numbers_kind zero c lower upper = refl
numbers_kind (suc n) c lower upper = refl

truths_kind : (n : ℕ) (c : Component) → type_kind_within n c bool_type ≡ bool_kind
truths_kind zero c = refl
truths_kind (suc n) c = refl

module _ (seed size : ℕ) (short : IsShort size) where
  -- ---- kinds of names

  n_kind : (i k : ℕ) → kind_at (found (plant_of seed size i) (name_at (codes "n") k)) ≡ int_kind
  n_kind i k = numbers_kind _ (plant_of seed size i) _ _

  s_kind : (i k : ℕ) → i < size → kind_at (found (plant_of seed size i) (name_at (numbered (codes "s") i) k)) ≡ bool_kind
  s_kind i k l = ap kind_at (s_found seed size short i k l) ∙ truths_kind _ (whole (made seed size))

  idle_kind : (j k l : ℕ) → j < size → kind_at (found (whole (made seed size)) (dotted_at (numbered (codes "A") j) (codes "idle") k l)) ≡ bool_kind
  idle_kind j k l m = ap kind_at (idle_found seed size short j k l m)

  -- ---- kinds of expressions

  Fits : Component → Demand → Type 0
  Fits c d = same_kind (kind_of c d.received_kind d.value) d.kind ≡ true

  plant_fits : (i : ℕ) → i < size → AllByRecursion (Fits (plant_of seed size i)) (demands (plant_of seed size i))
  unfolding Fits
  plant_fits i l =
      let at : ℕ → ℕ = at_of seed size i in (
        refl,
        (
          refl,
          (
            ap (same_kind int_kind) (n_kind i 0),
            (
              refl,
              (
                ap (λ k. same_kind k bool_kind) (s_kind i (at 21) l),
                (
                  refl,
                  (
                    ap (λ k. same_kind k int_kind) (n_kind i (at 23)),
                    (
                      refl,
                      (
                        ap (same_kind int_kind) (n_kind i (at 27)),
                        (ap (λ k. same_kind k int_kind) (n_kind i (at 29)), (refl, tt)),
                      ),
                    ),
                  ),
                ),
              ),
            ),
          ),
        ),
      )

  -- the predicate of each second line
  whole_fits : AllByRecursion (Fits (whole (made seed size))) (demands (whole (made seed size)))
  unfolding Fits
  whole_fits =
      let c = whole (made seed size) in
      let of_bounds : List Demand = flat_map (asked_for c int_kind) (flat_map (λ (b : Bounds). b.0 ∷ b.1 ∷ []) (bounds_of c)) in
      let of_decls : List Demand = flat_map (decl_demands c) (decls_of c) in
      let of_arguments : List Demand = flat_map (argument_demands c) (arguments_in c) in
      let no_bound : of_bounds ≡ [] = ap (λ bs. flat_map (asked_for c int_kind) (flat_map (λ (b : Bounds). b.0 ∷ b.1 ∷ []) bs)) (whole_bounds seed size) in
      let no_argument : of_arguments ≡ [] = ap (λ is. flat_map (argument_demands c) (flat_map (λ (i : InstanceTree). arguments_at i (definition_found c i)) is)) (whole_instances seed size short) in
      let by_items : of_decls ≡ flat_map (λ x. flat_map (decl_demands c) (item_decls x)) (list_of_items (made seed size)) = flat_twice (decl_demands c) item_decls (list_of_items (made seed size)) in
      each-append (Fits c) (of_bounds ++ of_decls ++ of_arguments) []
      (each-append (Fits c) (of_bounds ++ of_decls) of_arguments
      (each-append (Fits c) of_bounds of_decls (subst (AllByRecursion (Fits c)) (sym no_bound) tt)
      (subst (AllByRecursion (Fits c)) (sym by_items) (each_item_below seed size short (Fits c) (λ x. flat_map (decl_demands c) (item_decls x)) block)))
      (subst (AllByRecursion (Fits c)) (sym no_argument) tt)) tt
    where
      block : (b : Bool) (i : ℕ) → i < size → AllByRecursion (Fits (whole (made seed size))) (flat_map (λ x. flat_map (decl_demands (whole (made seed size))) (item_decls x)) (items_for seed size b i))
      block true i l = (ap (λ k. same_kind k bool_kind) (idle_kind (next_of size i) (need_at_of seed size i 3) (need_at_of seed size i 5) (next_small size i l)), tt)
      block false i l = tt

  -- ---- the rule

  unfit : (c : Component) (at : ℕ) (ds : List Demand) → AllByRecursion (Fits c) ds → AllByRecursion (λ d. (tree_at d.value ≡ at) × (same_kind (kind_of c d.received_kind d.value) d.kind ≡ false) → ⊥) ds
  unfolding Fits
  unfit c at [] h = tt
  unfit c at (d ∷ ds) h = ((λ w. not_false (same_kind (kind_of c d.received_kind d.value) d.kind) h.0 w.1), unfit c at ds h.1)

  no_bad_value : (c : Component) (at : ℕ) → AllByRecursion (Fits c) (demands c) → BadValue c at → ⊥
  no_bad_value c at h a = any_none (λ d. (tree_at d.value ≡ at) × (same_kind (kind_of c d.received_kind d.value) d.kind ≡ false)) (demands c) (unfit c at (demands c) h) a

  no_bad_argument : (c : Component) (at : ℕ) → instances_of c ≡ [] → BadArgument c at → ⊥
  no_bad_argument c at e a = any_none (Wrong c) [] tt (subst (λ is. Any (Wrong c) (flat_map (λ (i : InstanceTree). arguments_at i (definition_found c i)) is)) e a)
    where
      Wrong : Component → Argument → Type 0
      Wrong c a = (tree_at a.value ≡ at) × IsTrue (is_unfit_for c a.definition a.value a.param)

  pub all_fit : (at : ℕ) → MismatchDue (made seed size) at → ⊥
  all_fit at = in_no_body_below seed size short (λ c. BadValue c at ⊎ BadUse c at ⊎ BadArgument c at) top plant
    where
      Unused : Component → UseTree → Type 0
      Unused c u = (u.name.at ≡ at) × IsTrue (is_unfit u.role (event_channel c u.name))

      top : BadValue (whole (made seed size)) at ⊎ BadUse (whole (made seed size)) at ⊎ BadArgument (whole (made seed size)) at → ⊥
      top (inl a) = no_bad_value (whole (made seed size)) at whole_fits a
      top (inr (inl a)) = any_none (Unused (whole (made seed size))) [] tt a
      top (inr (inr a)) = no_bad_argument (whole (made seed size)) at (whole_instances seed size short) a

      plant : (i : ℕ) → i < size → BadValue (plant_of seed size i) at ⊎ BadUse (plant_of seed size i) at ⊎ BadArgument (plant_of seed size i) at → ⊥
      plant i l (inl a) = no_bad_value (plant_of seed size i) at (plant_fits i l) a
      plant i l (inr (inl a)) =
          any_none (Unused (plant_of seed size i)) (flat_map (λ (e : EdgeTree). e.uses) (edges_of (plant_of seed size i)))
          ((λ h. let w : false ≡ true = h.1 in cc), ((λ h. let w : false ≡ true = h.1 in cc), tt)) a
      plant i l (inr (inr a)) = no_bad_argument (plant_of seed size i) at refl a
