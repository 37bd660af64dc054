-- The exclusions and the state invariants of the net of a source stand: the event is one of the net, and the predicate is a boolean.
use Rattle.std.proofs.Common.{◌≡◌, ℕ, Bool, true, false, inl, inr, List, [], length, map, Some, None, refl, sym, ◌∙◌, ap, subst, arith}
use Rattle.std.specs.Prelude.{nat_lt, option_map}
use Rattle.cif_ast.specs.declared.names.Name.{Name}
use Rattle.cif_system.specs.Words.{Member}
use Rattle.cif_system.proofs.Lists.{some-same, map-length}
use Rattle.cif_system.proofs.Picks.{append-left, append-right, map-member}
use Rattle.cif_net_expr.specs.Tree.{NetExpr, net_expr}
use Rattle.cif_net_model.specs.Net.{NetExclusion, NetInvariant}
use Rattle.cif_net_model.specs.Exprs.{placed}
use Rattle.cif_net_model.specs.Kinds as net
use Rattle.cif_net_model.specs.Kinds.{fits}
use Rattle.cif_net_model.specs.Facts.{exclusion_stands, invariant_stands}
use Rattle.cif_source.specs.Source.{always, needs, disables, InvariantTree, DeclTree, type_decl, enum_decl, event_decl, const_decl, alg_decl, input_decl, disc_decl, equation_decl, invariant_decl, marked_decl, Source, tree_at}
use Rattle.cif_source.specs.Components.{Component, as_written}
use Rattle.cif_source.specs.Objects.{components_of, decls_of, events}
use Rattle.cif_source.specs.Uses.{event_asked, asking, invariant_uses, value_uses}
use Rattle.cif_source.specs.Kinds.{bool_kind}
use Rattle.cif_source.specs.Demands.{predicate_of}
use Rattle.cif_inst_model.specs.Flat.{net_of_source, net_event, event_number, predicate_at, exclusion_of, net_exclusions, net_invariants}
use Rattle.cif_inst_model.specs.Translation.{net_of}
use Rattle.cif_inst_laws.specs.Forms.{HasSmallArguments}
use Rattle.cif_inst_laws.proofs.Sound.{IsSound, decl-written, as-body}
use Rattle.cif_inst_laws.proofs.Finding.{event-use, Numbered, numbered}
use Rattle.cif_inst_laws.proofs.Uses.{decl-used}
use Rattle.cif_inst_laws.proofs.Demanded.{decl-met}
use Rattle.cif_inst_laws.proofs.Updates.{KeepExpressions}
use Rattle.cif_inst_laws.proofs.Tests.{both, lt-true, kept-from}

-- the events of an exclusion
abbrev names_of : InvariantTree → List Name
names_of (always p) = []
names_of (needs nms p) = nms
names_of (disables p nms) = nms

name-used : (i : InvariantTree) (nm : Name) → Member nm (names_of i) → Member (event-use nm) (invariant_uses i)
name-used (always p) nm m = absurd m
name-used (needs nms p) nm m = append-left (event-use nm) (asking event_asked nms) (value_uses p) (map-member event-use nm nms m)
name-used (disables p nms) nm m = append-right (event-use nm) (value_uses p) (asking event_asked nms) (map-member event-use nm nms m)

module _ (t : Source) (h : IsSound t) (few : HasSmallArguments t) (kept : KeepExpressions t) (c : Component) (m : Member c (components_of t)) where
  placed-fits : (at : ℕ) (e : NetExpr) → fits (net_of_source t) None net.bool_kind (placed at e) ≡ fits (net_of_source t) None net.bool_kind e
  placed-fits at (net_expr f k) = refl

  module _ (i : InvariantTree) (k : Member (invariant_decl i) (decls_of c)) where
    predicate-fits : fits (net_of_source t) None net.bool_kind (predicate_at c (predicate_of i)) ≡ true
    predicate-fits =
        placed-fits (tree_at (predicate_of i)) (net_of c (predicate_of i))
        ∙ kept.expressions c bool_kind (predicate_of i) m (decl-met t h c m (invariant_decl i) k)
        (few.predicates (as_written c) (as-body t h c m) i (decl-written c (invariant_decl i) k))

    name-numbered : (nm : Name) → Member nm (names_of i) → Numbered t h c nm
    name-numbered nm j = numbered t h c m nm (decl-used c (invariant_decl i) k (event-use nm) (name-used i nm j))

    -- the exclusion for a name
    excludes : (allows : Bool) (nm : Name) → Member nm (names_of i) → (x : NetExclusion) → exclusion_of c (predicate_of i) allows nm ≡ Some x → exclusion_stands (net_of_source t) x ≡ true
    excludes allows nm j x is =
        let event = name-numbered nm j in
        let made : ℕ → NetExclusion = λ e. record { event = e; pred = predicate_at c (predicate_of i); allows = allows } in
        let same : made (event_number c nm) ≡ x = some-same (made (event_number c nm)) x (sym (ap (option_map made) event.number) ∙ is) in
        subst (λ y. exclusion_stands (net_of_source t) y ≡ true) same
        (both (nat_lt (event_number c nm) (length (map net_event (events t)))) (fits (net_of_source t) None net.bool_kind (predicate_at c (predicate_of i)))
        (lt-true (event_number c nm) (length (map net_event (events t))) (omega (arith, event.below, map-length net_event (events t))))
        predicate-fits)

  pub exclusion-stands : (d : DeclTree) → Member d (decls_of c) → (x : NetExclusion) → Member x (net_exclusions (c, d)) → exclusion_stands (net_of_source t) x ≡ true
  exclusion-stands (invariant_decl (needs nms p)) k x j = let nm = kept-from (exclusion_of c p true) x nms j in excludes (needs nms p) k true nm.0 nm.1 x nm.2
  exclusion-stands (invariant_decl (disables p nms)) k x j = let nm = kept-from (exclusion_of c p false) x nms j in excludes (disables p nms) k false nm.0 nm.1 x nm.2
  exclusion-stands (invariant_decl (always p)) k x j = absurd j
  exclusion-stands (type_decl n ty) k x j = absurd j
  exclusion-stands (enum_decl n ls) k x j = absurd j
  exclusion-stands (event_decl y z n) k x j = absurd j
  exclusion-stands (const_decl ty n e) k x j = absurd j
  exclusion-stands (alg_decl ty n e) k x j = absurd j
  exclusion-stands (input_decl ty n) k x j = absurd j
  exclusion-stands (disc_decl ty n e) k x j = absurd j
  exclusion-stands (equation_decl q) k x j = absurd j
  exclusion-stands (marked_decl p) k x j = absurd j

  pub invariant-stands : (d : DeclTree) → Member d (decls_of c) → (x : NetInvariant) → Member x (net_invariants (c, d)) → invariant_stands (net_of_source t) x ≡ true
  invariant-stands (invariant_decl (always p)) k x j =
      elim j [
        | inl w ↦ subst (λ y. invariant_stands (net_of_source t) y ≡ true) (sym w) (predicate-fits (always p) k)
        | inr w ↦ absurd w
      ]
  invariant-stands (invariant_decl (needs nms p)) k x j = absurd j
  invariant-stands (invariant_decl (disables p nms)) k x j = absurd j
  invariant-stands (type_decl n ty) k x j = absurd j
  invariant-stands (enum_decl n ls) k x j = absurd j
  invariant-stands (event_decl y z n) k x j = absurd j
  invariant-stands (const_decl ty n e) k x j = absurd j
  invariant-stands (alg_decl ty n e) k x j = absurd j
  invariant-stands (input_decl ty n) k x j = absurd j
  invariant-stands (disc_decl ty n e) k x j = absurd j
  invariant-stands (equation_decl q) k x j = absurd j
  invariant-stands (marked_decl p) k x j = absurd j
