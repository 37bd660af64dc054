-- The algebraic variables of the net of a source stand: each has a type, and a definition of its kind, or one for each location of its
-- automaton.
use Rattle.std.proofs.Common.{◌≡◌, Bool, true, false, inl, inr, List, [], ◌∷◌, length, map, Option, Some, None, refl, sym, ◌∙◌, ap, subst, arith}
use Rattle.std.specs.Prelude.{◌&&◌, nat_eq, nat_lt, slice_get, filter_map, if◌then◌else◌}
use Rattle.std.specs.List.{list_all}
use Rattle.std.specs.Option.{option_to_list}
use Rattle.std.specs.Cmp.Lexicographic as words
use Rattle.cif_ast.specs.Tree.{Tree}
use Rattle.cif_ast.specs.Throughout.{HoldsInTree}
use Rattle.cif_ast.specs.SmallNumbers.{small_parts}
use Rattle.cif_ast.specs.declared.names.Ident.{Ident}
use Rattle.cif_system.specs.Words.{Member}
use Rattle.cif_system.proofs.Lists.{some-same, none-some, map-length, slice_get-below}
use Rattle.cif_system.proofs.Distinct.{member-append, member-map}
use Rattle.cif_net_expr.specs.Tree.{NetExpr}
use Rattle.cif_net_model.specs.Net.{AlgValue, one_value, by_loc}
use Rattle.cif_net_model.specs.Kinds as net
use Rattle.cif_net_model.specs.Kinds.{places_of, fits}
use Rattle.cif_net_model.specs.Facts.{is_type, literals_fit, alg_stands}
use Rattle.cif_source.specs.Source.{Text, TypeTree, EquationTree, LocationTree, DeclTree, type_decl, enum_decl, event_decl, const_decl, alg_decl, input_decl, disc_decl, equation_decl, invariant_decl, marked_decl, Source}
use Rattle.cif_source.specs.Components.{Component, as_written, specification_of, same_text}
use Rattle.cif_source.specs.Lookup.{at_entry, in_scope}
use Rattle.cif_source.specs.Objects.{components_of, decls_of, locs_in, locs_of, automaton_number}
use Rattle.cif_source.specs.Value.{equation_for, decl_equation_for, own_definitions, location_definitions}
use Rattle.cif_source.specs.Kinds.{no_kind, type_kind, kind_at, kind_of, demand}
use Rattle.cif_source.specs.Demands.{asked_for, equation_demands}
use Rattle.cif_inst_model.specs.Flat.{net_of_source, net_auto, net_alg, net_alg_value, net_definition, location_name}
use Rattle.cif_inst_model.specs.Translation.{net_of}
use Rattle.cif_inst_model.specs.Types.{net_type}
use Rattle.cif_inst_model.specs.Small.{HasSmallParts}
use Rattle.cif_inst_model.proofs.RuleLaws.{all-from}
use Rattle.cif_inst_model.proofs.OwnLaws.{alg-found}
use Rattle.cif_inst_bodies.proofs.Alike.{body-written}
use Rattle.cif_inst_laws.specs.Kinds.{AreMet}
use Rattle.cif_inst_laws.proofs.SoundLaws as fits
use Rattle.cif_inst_laws.proofs.ExprLaws.{is_valued, kind-told}
use Rattle.cif_inst_laws.proofs.TypeLaws.{written}
use Rattle.cif_inst_laws.proofs.NameLaws.{automaton-at}
use Rattle.cif_inst_laws.proofs.Sound.{IsSound, decl-written, as-body, scopes, defined}
use Rattle.cif_inst_laws.proofs.Tests.{both, lt-true, eq-true, kept-from}
use Rattle.cif_inst_laws.proofs.Defined.{located-once, some-automaton}
use Rattle.cif_inst_laws.proofs.Demanded.{met-left, decl-met, equation-met}
use Rattle.cif_inst_laws.proofs.Updates.{KeepKinds}
use Rattle.cif_inst_laws.proofs.Types.{type-stands}

-- ---- lists

only-one : {A : Type 0} (o : Option A) (x : A) → Member x (option_to_list o) → o ≡ Some x
only-one None x m = absurd m
only-one (Some y) x m = elim m [ inl w ↦ ap Some (sym w) | inr w ↦ absurd w ]

-- ---- equations for a name

equation-told : (x : Text) (q : EquationTree) (d : Tree) → equation_for x q ≡ Some d → (q.name.text ≡ x) × (q.value ≡ d)
equation-told x q d h =
    (elim (same_text q.name.text x) as (λ b. same_text q.name.text x ≡ b → (if b then Some q.value else None) ≡ Some d → (q.name.text ≡ x) × (q.value ≡ d)) [
      | true ↦ λ e g. (words.same_text q.name.text x (sym e), some-same q.value d g)
      | false ↦ λ e g. absurd (none-some d g)
    ]) refl h

decl-equation-told : (x : Text) (d : DeclTree) (e : Tree) → decl_equation_for x d ≡ Some e → (q : EquationTree) × (d ≡ equation_decl q) × (equation_for x q ≡ Some e)
decl-equation-told x (equation_decl q) e h = (q, refl, h)
decl-equation-told x (type_decl n ty) e h = absurd (none-some e h)
decl-equation-told x (enum_decl n ls) e h = absurd (none-some e h)
decl-equation-told x (event_decl k c n) e h = absurd (none-some e h)
decl-equation-told x (const_decl ty n v) e h = absurd (none-some e h)
decl-equation-told x (alg_decl ty n v) e h = absurd (none-some e h)
decl-equation-told x (input_decl ty n) e h = absurd (none-some e h)
decl-equation-told x (disc_decl ty n v) e h = absurd (none-some e h)
decl-equation-told x (invariant_decl i) e h = absurd (none-some e h)
decl-equation-told x (marked_decl p) e h = absurd (none-some e h)

module _ (t : Source) (h : IsSound t) (s : fits.IsSound t) (small : HasSmallParts t) (kept : KeepKinds t) (c : Component) (m : Member c (components_of t)) where
  -- a location of a component stands in it as written
  location-written : (l : LocationTree) → Member l (locs_of c) → Member l (locs_of (as_written c))
  location-written l k = subst (λ b. Member l (locs_in b)) (sym (body-written c)) k

  module _ (x : TypeTree) (n : Ident) (e : Option Tree) (k : Member (alg_decl x n e) (decls_of c)) where
    -- ---- kinds

    abbrev kind : net.Kind
    kind = net.kind_of (net_type c x).type_of (net_type c x).literals

    abbrev Fits : Tree → Type 0
    Fits d = fits (net_of_source t) None kind (net_of c d) ≡ true

    -- what is asked for the kind of the variable has it in the net
    kind-fits : (d : Tree) → AreMet c (asked_for c (type_kind c x) d) → HoldsInTree small_parts d → Fits d
    kind-fits d met few =
        let told = kind-told (kind_of c no_kind d) (type_kind c x) (met (demand no_kind (type_kind c x) d) (inl refl)) in
        let valued : is_valued (type_kind c x) ≡ true = ap is_valued (sym told.1) ∙ told.0 in
        ap (λ q. fits (net_of_source t) None q (net_of c d)) (kept.types c m x (written c (alg_decl x n e) x k (inl refl)) valued)
        ∙ kept.expressions.expressions c (type_kind c x) d m met few

    -- an equation is asked for the kind of what the scope finds
    own-kind : kind_at (in_scope c n.text) ≡ type_kind c x
    own-kind = ap (λ o. kind_at (at_entry c o)) (alg-found c x n e (scopes t h c m) k)

    equation-fits : (q : EquationTree) (d : Tree) → equation_for n.text q ≡ Some d → AreMet c (equation_demands c q) → HoldsInTree small_parts q.value → Fits d
    equation-fits q d is met few =
        let told = equation-told n.text q d is in
        let same : kind_at (in_scope c q.name.text) ≡ type_kind c x = ap (λ w. kind_at (in_scope c w)) told.0 ∙ own-kind in
        subst Fits told.1 (kind-fits q.value (subst (λ j. AreMet c (asked_for c j q.value)) same met) few)

    -- ---- definitions

    declared-fits : (d : Tree) → e ≡ Some d → Fits d
    declared-fits d is =
        let there : Member (alg_decl x n (Some d)) (decls_of c) = subst (λ v. Member (alg_decl x n v) (decls_of c)) is k in
        kind-fits d (met-left c (asked_for c (type_kind c x) d) [] (decl-met t h c m (alg_decl x n (Some d)) there))
        (small.declared (as_written c) (as-body t h c m) x n d (decl-written c (alg_decl x n (Some d)) there))

    own-fits : (d : Tree) → Member d (own_definitions c n.text e) → Fits d
    own-fits d i =
        elim (member-append d (option_to_list e) (filter_map (decl_equation_for n.text) (decls_of c)) i) [
          | inl w ↦ declared-fits d (only-one e d w)
          | inr w ↦
              let y = kept-from (decl_equation_for n.text) d (decls_of c) w in
              let q = decl-equation-told n.text y.0 d y.2 in
              let there : Member (equation_decl q.0) (decls_of c) = subst (λ z. Member z (decls_of c)) q.1 y.1 in
              equation-fits q.0 d q.2 (decl-met t h c m (equation_decl q.0) there) (small.equations (as_written c) (as-body t h c m) q.0 (decl-written c (equation_decl q.0) there))
        ]

    located-fits : (l : LocationTree) → Member l (locs_of c) → (d : Tree) → Member d (location_definitions n.text l) → Fits d
    located-fits l i d j =
        let q = kept-from (equation_for n.text) d l.equations j in
        equation-fits q.0 d q.2 (equation-met t h c m l i q.0 q.1) (small.located (as_written c) (as-body t h c m) l (location-written l i) q.0 q.1)

    -- ---- the value

    abbrev value_fits : AlgValue → Bool
    value_fits v = elim v [
      | one_value d ↦ fits (net_of_source t) None kind d
      | by_loc j ds ↦ nat_lt j (length (net_of_source t).autos) && nat_eq (length ds) (places_of (slice_get (net_of_source t).autos j)) && list_all (fits (net_of_source t) None kind) ds
    ]

    definition-fits : (ds : List Tree) → length ds ≡ 1 → ((d : Tree) → Member d ds → Fits d) → fits (net_of_source t) None kind (net_definition c ds) ≡ true
    definition-fits [] one each = absurd (omega (arith, one))
    definition-fits (d ∷ ds) one each = each d (inl refl)

    abbrev located : LocationTree → NetExpr
    located l = net_definition c (location_definitions n.text l)

    located-stand : own_definitions c n.text e ≡ [] → value_fits (by_loc (automaton_number (specification_of c) c) (map located (locs_of c))) ≡ true
    located-stand none =
        let autos = (net_of_source t).autos in
        let number = automaton_number (specification_of c) c in
        let at = automaton-at t s c m (some-automaton t (defined t h) c m x n e k none) in
        both (nat_lt number (length autos) && nat_eq (length (map located (locs_of c))) (places_of (slice_get autos number))) (list_all (fits (net_of_source t) None kind) (map located (locs_of c)))
        (both (nat_lt number (length autos)) (nat_eq (length (map located (locs_of c))) (places_of (slice_get autos number)))
        (lt-true number (length autos) (slice_get-below autos number (net_auto c) at))
        (eq-true (length (map located (locs_of c))) (places_of (slice_get autos number)) (map-length located (locs_of c) ∙ sym (ap places_of at ∙ map-length location_name (locs_of c)))))
        (all-from (fits (net_of_source t) None kind) (map located (locs_of c)) (λ y i.
        let l = member-map located y (locs_of c) i in
        ap (fits (net_of_source t) None kind) l.2 ∙ definition-fits (location_definitions n.text l.0) (located-once t (defined t h) c m x n e k none l.0 l.1) (located-fits l.0 l.1)))

    value-stands : value_fits (net_alg_value c n.text e) ≡ true
    value-stands =
        (elim (own_definitions c n.text e) as (λ ds. own_definitions c n.text e ≡ ds → value_fits (elim ds [ [] ↦ by_loc (automaton_number (specification_of c) c) (map located (locs_of c)) | d ∷ ds ↦ one_value (net_of c d) ]) ≡ true) [
          | [] ↦ λ none. located-stand none
          | d ∷ ds ↦ λ is. own-fits d (subst (Member d) (sym is) (inl refl))
        ]) refl

    -- it has a type, as many literals as that has, and a value of its kind, or one for each location of its automaton
    pub alg-stands : alg_stands (net_of_source t) (net_alg (c, alg_decl x n e)) ≡ true
    alg-stands =
        let typed = type-stands t s c m (alg_decl x n e) k x (inl refl) in
        both (is_type (net_type c x).type_of && literals_fit (net_type c x).type_of (net_type c x).literals) (value_fits (net_alg_value c n.text e))
        (both (is_type (net_type c x).type_of) (literals_fit (net_type c x).type_of (net_type c x).literals) typed.0 typed.1)
        value-stands
