-- The state invariants that are asked after a choice, together and each, are boolean, name no algebraic variable, divide by no 0,
-- stay in 64 bits, and are no deeper than a net allows.
use Rattle.std.proofs.Common.{◌≡◌, ℕ, ◌+◌, true, inl, inr, List, [], ◌∷◌, map, flat_map, Option, Some, None, refl}
use Rattle.std.specs.Prelude.{option_map, slice_get}
use Rattle.std.specs.List.{cons_option, list_all}
use Rattle.cif_system.specs.Words.{Member}
use Rattle.cif_system.proofs.Picks.{append-left, append-right, at-member, map-member}
use Rattle.cif_net_expr.specs.Tree.{NetExpr}
use Rattle.cif_net_model.specs.Net.{NetExclusion, NetInvariant, Net}
use Rattle.cif_net_model.specs.Counts.{most_depth}
use Rattle.cif_net_model.specs.Exprs.{alg_exprs, all_edges, edge_exprs, other_exprs}
use Rattle.cif_net_model.specs.Facts.{invariant_stands, is_net}
use Rattle.cif_net_model.specs.Interval.{truths}
use Rattle.cif_net_model.specs.Listing.{NetChoice, all_hold}
use Rattle.cif_net_model.specs.Reads.{names_no_alg}
use Rattle.cif_net_model.specs.Rules.{Evaluated, edge_evaluated, is_plain}
use Rattle.cif_net_model.proofs.Passing.{all-member, and-left, and-right}
use Rattle.cif_net_model.proofs.PlainLaws.{plain-expr}
use Rattle.cif_net_laws.proofs.Received.{and-true}
use Rattle.cif_net_laws.proofs.Sound.{AllSound, Sound, deep, sound-all}
use Rattle.plc_frame.proofs.Choosing.{all-filter}
use Rattle.plc_event_model.specs.Keeps.{asked, depends, invariants_at}

module _ (n : Net) (plain : is_plain n ≡ true) where
  abbrev at_truths : NetExpr → Evaluated
  at_truths e = record { value = e; received = truths }

  is-other : (i : NetInvariant) → Member i n.invariants → Member i.pred (other_exprs n)
  is-other i m =
      append-right i.pred (map (λ (x : NetExclusion). x.pred) n.exclusions) _
      (append-left i.pred (map (λ (q : NetInvariant). q.pred) n.invariants) (flat_map alg_exprs n.algs) (map-member (λ (q : NetInvariant). q.pred) i n.invariants m))

  one-sound : (i : NetInvariant) → Member i n.invariants → Sound n truths most_depth i.pred
  one-sound i m =
      let net : is_net n ≡ true = and-left _ _ (and-left _ _ (and-left _ _ plain)) in
      record {
        kind = all-member (invariant_stands n) n.invariants i (and-right _ _ (and-left _ _ net)) m;
        plain = plain-expr n (at_truths i.pred) plain (append-right _ (flat_map (edge_evaluated n) (all_edges n)) _ (map-member at_truths i.pred (other_exprs n) (is-other i m)));
        deep = deep n plain i.pred (append-right i.pred (flat_map edge_exprs (all_edges n)) (other_exprs n) (is-other i m));
      }

  named : (is : List NetInvariant) → ((i : NetInvariant) → Member i is → Member i n.invariants) → list_all (λ (i : NetInvariant). names_no_alg i.pred) is ≡ true
  named [] inside = refl
  named (i ∷ is) inside = and-true (and-left _ _ (and-left _ _ (one-sound i (inside i (inl refl))).plain)) (named is (λ j m. inside j (inr m)))

  -- no state invariant names an algebraic variable
  pub invariants-named : list_all (λ (i : NetInvariant). names_no_alg i.pred) n.invariants ≡ true
  invariants-named = named n.invariants (λ i m. m)

  all-sound : (ks : List ℕ) → AllSound n truths most_depth (invariants_at n ks)
  all-sound [] = tt
  all-sound (k ∷ ks) = by (slice_get n.invariants k) refl (all-sound ks)
    where
      by : (o : Option NetInvariant) → slice_get n.invariants k ≡ o → AllSound n truths most_depth (invariants_at n ks)
          → AllSound n truths most_depth (cons_option (option_map (λ (i : NetInvariant). i.pred) o) (invariants_at n ks))
      by None at rest = rest
      by (Some i) at rest = (one-sound i (at-member n.invariants k i at), rest)

  pub asked-sound : (c : NetChoice) → AllSound n truths most_depth (asked n c)
  asked-sound c = all-filter (Sound n truths most_depth) (depends n c) (invariants_at n c.invariants) (all-sound c.invariants)

  -- the one test of all of them
  pub kept-sound : (c : NetChoice) → Sound n truths (most_depth + 1) (all_hold (asked n c))
  kept-sound c = sound-all n truths most_depth (asked n c) (asked-sound c)
