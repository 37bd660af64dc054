-- The state invariants of a net in which algebraic variables are replaced are those of the net.
use Rattle.std.proofs.Common.{◌≡◌, true, List, [], ◌∷◌, map, refl, ◌∙◌, ap, sym, subst}
use Rattle.std.specs.List.{AllZip}
use Rattle.cif_system.specs.System.{initial}
use Rattle.cif_net_expr.specs.Tree.{NetExpr}
use Rattle.cif_net_model.specs.Facts.{is_net}
use Rattle.cif_net_model.specs.Inline.{replaced, net_replaced, Unfolds}
use Rattle.cif_net_model.specs.Meaning.{true_in, system_of_net}
use Rattle.cif_net_model.specs.Net.{NetInvariant, Net}
use Rattle.cif_net_model.specs.Rules.{holds_first}
use Rattle.cif_net_laws.specs.Invariants.{IsInvariantOf}
use Rattle.cif_net_laws.proofs.Means.{system-same, true-same}
use Rattle.cif_net_laws.proofs.Reading.{reads-same}
use Rattle.cif_net_laws.proofs.Settled.{Settled, settled}

pairs : {A B : Type 0} (R : A → B → Type 0) (f : A → B) → ((x : A) → R x (f x)) → (xs : List A) → AllZip R xs (map f xs)
pairs R f h [] = tt
pairs R f h (x ∷ xs) = (h x, pairs R f h xs)

module _ (n p : Net) (s : Settled n p) where
  abbrev q : Net
  q = net_replaced s.by n

  holds-same : (e : NetExpr) → holds_first q (replaced s.by e) ≡ holds_first n e
  holds-same e = ap (λ y. true_in q (initial y) (replaced s.by e)) (system-same n p s) ∙ true-same n p s (initial (system_of_net n)) e

  kept : AllZip (IsInvariantOf n q) n.invariants q.invariants
  kept = pairs (IsInvariantOf n q) (λ (i : NetInvariant). record i { pred = replaced s.by i.pred }) (λ i. record { at = refl; reads = reads-same n p s i.pred; holds = holds-same i.pred }) n.invariants

pub keep-invariants : (n p : Net) → is_net n ≡ true → Unfolds n p → AllZip (IsInvariantOf n p) n.invariants p.invariants
keep-invariants n p net u = let s = settled n p net u in subst (λ (x : Net). AllZip (IsInvariantOf n x) n.invariants x.invariants) (sym s.whole) (kept n p s)
