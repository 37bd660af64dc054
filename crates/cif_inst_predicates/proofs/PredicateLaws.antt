-- The exclusions and the state invariants that are made are those of the net of a source.
use Rattle.std.proofs.Common.{◌≡◌, ℕ, Bool, true, false, inl, inr, List, [], ◌∷◌, append-nil, map, Some, refl, sym, ◌∙◌, ap}
use Rattle.std.specs.Prelude.{flat_map, filter_map, option_map}
use Rattle.std.specs.List.{cons_option}
use Rattle.cif_ast.specs.Tree.{Tree}
use Rattle.cif_ast.specs.declared.names.Name.{Name}
use Rattle.cif_system.specs.Words.{Member}
use Rattle.cif_system.proofs.Picks.{append-left, append-right, map-member, at-member}
use Rattle.cif_source.specs.Source.{InvariantTree, always, needs, disables, DeclTree, type_decl, enum_decl, event_decl, const_decl, alg_decl, input_decl, disc_decl, equation_decl, invariant_decl, marked_decl, Source}
use Rattle.cif_source.specs.Components.{Component}
use Rattle.cif_source.specs.Lookup.{denotes}
use Rattle.cif_source.specs.Objects.{components_of, decls_of}
use Rattle.cif_source.specs.Step.{event_at}
use Rattle.cif_source.specs.Uses.{decl_uses, value_uses, asking, event_asked}
use Rattle.cif_inst_model.specs.Flat.{event_number, predicate_at, exclusion_of, net_exclusions, net_invariants, net_of_source}
use Rattle.cif_inst_laws.proofs.Uses.{decl-used}
use Rattle.cif_inst_components.specs.Numbers.{IsNumber}
use Rattle.cif_inst_names.specs.Looking.{or_whole, source_for, component_at}
use Rattle.cif_inst_names.specs.declared.looking.Looking.{Looking}
use Rattle.cif_inst_paths.specs.Names.{AreMatchedNames}
use Rattle.cif_inst_paths.specs.Rows.{RowTree, rows_of}
use Rattle.cif_inst_paths.proofs.SoundLaws.{names-sound}
use Rattle.cif_inst_paths.proofs.EventNameLaws.{event-use, used-numbered}
use Rattle.cif_inst_predicates.specs.Predicates.{exclusion_by, stated_exclusions, stated_invariants}
use Rattle.cif_inst_predicates.specs.Stated.{decl_stated, rows_stated}
use Rattle.cif_inst_predicates.proofs.StatedLaws.{stated-as}

-- where each name has the number of an event, there is an exclusion of each
excluded-are : (c : Component) (p : Tree) (allows : Bool) (nms : List Name) → ((nm : Name) → Member nm nms → event_at (denotes c nm) ≡ Some (event_number c nm))
    → map (exclusion_by c p allows) nms ≡ filter_map (exclusion_of c p allows) nms
excluded-are c p allows [] h = refl
excluded-are c p allows (nm ∷ nms) h =
    ap (λ xs. exclusion_by c p allows nm ∷ xs) (excluded-are c p allows nms (λ x m. h x (inr m)))
    ∙ ap (λ o. cons_option (option_map (λ e. record { event = e; pred = predicate_at c p; allows = allows }) o) (filter_map (exclusion_of c p allows) nms)) (sym (h nm (inl refl)))

module _ (l : Looking) (h : AreMatchedNames l) where
  abbrev t : Source
  t = source_for l

  -- a name of an event that a component states has its number
  named : (k : ℕ) (c : Component) → IsNumber t k c → (i : InvariantTree) → Member (invariant_decl i) (decls_of c) → (nm : Name) → Member (event-use nm) (decl_uses (invariant_decl i))
      → event_at (denotes c nm) ≡ Some (event_number c nm)
  named k c at i m nm u = (used-numbered t (names-sound l h) c (at-member (components_of t) k c at) nm (decl-used c (invariant_decl i) m (event-use nm) u)).number

  here : (k : ℕ) (c : Component) → IsNumber t k c → component_at l k ≡ c
  here k c at = ap (or_whole t) at

  decl-exclusions : (k : ℕ) (c : Component) → IsNumber t k c → (d : DeclTree) → Member d (decls_of c) → flat_map (stated_exclusions l) (decl_stated k d) ≡ net_exclusions (c, d)
  decl-exclusions k c at (invariant_decl (always p)) m = refl
  decl-exclusions k c at (invariant_decl (needs nms p)) m =
      append-nil (map (exclusion_by (component_at l k) p true) nms)
      ∙ ap (λ (x : Component). map (exclusion_by x p true) nms) (here k c at)
      ∙ excluded-are c p true nms (λ nm w. named k c at (needs nms p) m nm (append-left (event-use nm) (asking event_asked nms) (value_uses p) (map-member event-use nm nms w)))
  decl-exclusions k c at (invariant_decl (disables p nms)) m =
      append-nil (map (exclusion_by (component_at l k) p false) nms)
      ∙ ap (λ (x : Component). map (exclusion_by x p false) nms) (here k c at)
      ∙ excluded-are c p false nms (λ nm w. named k c at (disables p nms) m nm (append-right (event-use nm) (value_uses p) (asking event_asked nms) (map-member event-use nm nms w)))
  decl-exclusions k c at (type_decl n ty) m = refl
  decl-exclusions k c at (enum_decl n ls) m = refl
  decl-exclusions k c at (event_decl x y n) m = refl
  decl-exclusions k c at (const_decl ty n e) m = refl
  decl-exclusions k c at (alg_decl ty n e) m = refl
  decl-exclusions k c at (input_decl ty n) m = refl
  decl-exclusions k c at (disc_decl ty n e) m = refl
  decl-exclusions k c at (equation_decl q) m = refl
  decl-exclusions k c at (marked_decl e) m = refl

  decl-invariants : (k : ℕ) (c : Component) → IsNumber t k c → (d : DeclTree) → Member d (decls_of c) → flat_map (stated_invariants l) (decl_stated k d) ≡ net_invariants (c, d)
  decl-invariants k c at (invariant_decl (always p)) m = ap (λ (x : Component). net_invariants (x, invariant_decl (always p))) (here k c at)
  decl-invariants k c at (invariant_decl (needs nms p)) m = refl
  decl-invariants k c at (invariant_decl (disables p nms)) m = refl
  decl-invariants k c at (type_decl n ty) m = refl
  decl-invariants k c at (enum_decl n ls) m = refl
  decl-invariants k c at (event_decl x y n) m = refl
  decl-invariants k c at (const_decl ty n e) m = refl
  decl-invariants k c at (alg_decl ty n e) m = refl
  decl-invariants k c at (input_decl ty n) m = refl
  decl-invariants k c at (disc_decl ty n e) m = refl
  decl-invariants k c at (equation_decl q) m = refl
  decl-invariants k c at (marked_decl e) m = refl

  module _ (rows : List RowTree) (are : rows ≡ rows_of t) where
    pub exclusions_are : flat_map (stated_exclusions l) (rows_stated 0 rows) ≡ (net_of_source t).exclusions
    exclusions_are = ap (λ (rs : List RowTree). flat_map (stated_exclusions l) (rows_stated 0 rs)) are ∙ stated-as t (stated_exclusions l) net_exclusions decl-exclusions

    pub invariants_are : flat_map (stated_invariants l) (rows_stated 0 rows) ≡ (net_of_source t).invariants
    invariants_are = ap (λ (rs : List RowTree). flat_map (stated_invariants l) (rows_stated 0 rs)) are ∙ stated-as t (stated_invariants l) net_invariants decl-invariants
