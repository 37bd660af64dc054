-- In a net in which algebraic variables are replaced by their definitions expressions are plain, where those of the net divide
-- by no 0 and stay in 64 bits.
use Rattle.std.proofs.Common.{◌≡◌, Bool, true, false, not, ◌&&◌, List, [], ◌∷◌, ◌++◌, map, inl, inr, refl, ◌∙◌, ap}
use Rattle.std.specs.Prelude.{flat_map}
use Rattle.std.specs.List.{list_all}
use Rattle.cif_system.specs.Words.{Member}
use Rattle.cif_system.proofs.Picks.{append-right, map-member, flat_map-member}
use Rattle.cif_net_expr.specs.Tree.{NetExpr}
use Rattle.cif_net_model.specs.Counts.{is_too_large}
use Rattle.cif_net_model.specs.Exprs.{alg_exprs, all_edges, other_exprs}
use Rattle.cif_net_model.specs.Facts.{is_net}
use Rattle.cif_net_model.specs.Inline.{replaced, net_replaced, Unfolds}
use Rattle.cif_net_model.specs.Interval.{range_of, declared_ranges, truths}
use Rattle.cif_net_model.specs.Net.{NetAlg, NetExclusion, NetInvariant, Net}
use Rattle.cif_net_model.specs.Parts.{parts, is_narrow, part_divides, divides, is_narrow_expr}
use Rattle.cif_net_model.specs.Rules.{Evaluated, edge_evaluated, evaluated, is_plain_expr, invariant_keeps, is_plain}
use Rattle.cif_net_model.proofs.Passing.{and-left, and-right, all-member}
use Rattle.cif_net_laws.proofs.Cleared.{is_clean, ranges-same, replaced-clean}
use Rattle.cif_net_laws.proofs.Freed.{evaluated-free}
use Rattle.cif_net_laws.proofs.Lists.{and-both, pass-each, all-more}
use Rattle.cif_net_laws.proofs.Settled.{Settled, settled}
use Rattle.cif_net_laws.proofs.Sizes.{too_large-same}
use Rattle.cif_net_laws.proofs.Standing.{net-stands}
use Rattle.cif_net_laws.proofs.Written.{evaluated_replaced, evaluated-written}

both-tests : {A : Type 0} (u v : A → Bool) (xs : List A) → list_all u xs ≡ true → list_all v xs ≡ true → list_all (λ x. u x && v x) xs ≡ true
both-tests u v [] h k = refl
both-tests u v (x ∷ xs) h k = and-both (u x && v x) _ (and-both (u x) (v x) (and-left (u x) _ h) (and-left (v x) _ k)) (both-tests u v xs (and-right _ _ h) (and-right _ _ k))

pass-map : {A B : Type 0} (f : A → B) (u : B → Bool) (xs : List A) → ((x : A) → Member x xs → u (f x) ≡ true) → list_all u (map f xs) ≡ true
pass-map f u [] h = refl
pass-map f u (x ∷ xs) h = and-both _ _ (h x (inl refl)) (pass-map f u xs (λ y m. h y (inr m)))

module _ (n p : Net) (net : is_net n ≡ true) (s : Settled n p)
    (divide : list_all (λ (x : Evaluated). divides (declared_ranges n x.received) x.value) (evaluated n) ≡ true)
    (narrow : list_all (λ (x : Evaluated). is_narrow_expr (declared_ranges n x.received) x.value) (evaluated n) ≡ true) where
  abbrev q : Net
  q = net_replaced s.by n

  clean : (x : Evaluated) → Member x (evaluated n) → list_all (is_clean (declared_ranges n x.received)) (parts x.value) ≡ true
  clean x m =
      both-tests (part_divides (declared_ranges n x.received)) (λ e. is_narrow (range_of (declared_ranges n x.received) e)) (parts x.value)
      (all-member (λ (x : Evaluated). divides (declared_ranges n x.received) x.value) (evaluated n) x divide m)
      (all-member (λ (x : Evaluated). is_narrow_expr (declared_ranges n x.received) x.value) (evaluated n) x narrow m)

  definition-member : (a : NetAlg) → Member a n.algs → (e : NetExpr) → Member e (alg_exprs a) → Member (record { value = e; received = truths }) (evaluated n)
  definition-member a m e i =
      append-right (record { value = e; received = truths }) (flat_map (edge_evaluated n) (all_edges n)) (map (λ e. record { value = e; received = truths }) (other_exprs n))
      (map-member (λ e. record { value = e; received = truths }) e (other_exprs n)
      (append-right e (map (λ (x : NetExclusion). x.pred) n.exclusions) (map (λ (i : NetInvariant). i.pred) n.invariants ++ flat_map alg_exprs n.algs)
      (append-right e (map (λ (i : NetInvariant). i.pred) n.invariants) (flat_map alg_exprs n.algs)
      (flat_map-member alg_exprs a n.algs e m i))))

  definitions-clean : (a : NetAlg) → Member a n.algs → list_all (λ e. list_all (is_clean (declared_ranges n truths)) (parts e)) (alg_exprs a) ≡ true
  definitions-clean a m = pass-each (λ e. list_all (is_clean (declared_ranges n truths)) (parts e)) (alg_exprs a) (λ e i. clean (record { value = e; received = truths }) (definition-member a m e i))

  expr-plain : (x : Evaluated) → Member x (evaluated n) → is_plain_expr q (evaluated_replaced s.by n x) ≡ true
  expr-plain x m =
      let c : list_all (is_clean (declared_ranges n x.received)) (parts (replaced s.by x.value)) ≡ true = replaced-clean n p net s x.received definitions-clean x.value (clean x m) in
      let same : declared_ranges q x.received ≡ declared_ranges n x.received = ranges-same n p net s x.received in
      and-both _ _
      (and-both _ _ (evaluated-free n p net s x m)
      (ap (λ g. divides g (replaced s.by x.value)) same ∙ all-more (is_clean (declared_ranges n x.received)) (part_divides (declared_ranges n x.received)) (λ e t. and-left _ _ t) (parts (replaced s.by x.value)) c))
      (ap (λ g. is_narrow_expr g (replaced s.by x.value)) same ∙ all-more (is_clean (declared_ranges n x.received)) (λ e. is_narrow (range_of (declared_ranges n x.received) e)) (λ e t. and-right _ _ t) (parts (replaced s.by x.value)) c)

  pub all-plain : list_all (is_plain_expr q) (evaluated q) ≡ true
  all-plain = ap (list_all (is_plain_expr q)) (evaluated-written s.by n) ∙ pass-map (evaluated_replaced s.by n) (is_plain_expr q) (evaluated n) expr-plain

pub is-net : (n p : Net) → is_net n ≡ true → Unfolds n p → is_net p ≡ true
is-net n p net u = let s = settled n p net u in ap is_net s.whole ∙ net-stands n p net s

pub plain-exprs : (n p : Net) → is_net n ≡ true → Unfolds n p
    → list_all (λ (x : Evaluated). divides (declared_ranges n x.received) x.value) (evaluated n) ≡ true
    → list_all (λ (x : Evaluated). is_narrow_expr (declared_ranges n x.received) x.value) (evaluated n) ≡ true
    → list_all (is_plain_expr p) (evaluated p) ≡ true
plain-exprs n p net u divide narrow =
    let s = settled n p net u in
    ap (λ q. list_all (is_plain_expr q) (evaluated q)) s.whole ∙ all-plain n p net s divide narrow

-- where its state invariants read no input and hold in the initial state, and the net is not too large
pub plain : (n p : Net) → is_net n ≡ true → list_all (invariant_keeps p) p.invariants ≡ true → Unfolds n p
    → list_all (λ (x : Evaluated). divides (declared_ranges n x.received) x.value) (evaluated n) ≡ true
    → list_all (λ (x : Evaluated). is_narrow_expr (declared_ranges n x.received) x.value) (evaluated n) ≡ true
    → is_too_large n ≡ false → is_plain p ≡ true
plain n p net keep u divide narrow small =
    let s = settled n p net u in
    and-both _ _ (and-both _ _ (and-both _ _ (is-net n p net u) (plain-exprs n p net u divide narrow)) keep) (ap (λ q. not (is_too_large q)) s.whole ∙ ap not (too_large-same n p net s ∙ small))
