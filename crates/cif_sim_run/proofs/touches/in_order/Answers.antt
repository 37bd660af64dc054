use Rattle.std.proofs.Common.{ℕ, List, sym, subst, ◌∙◌, arith}
use Rattle.std.specs.List.{Contains}
use Rattle.std.proofs.lemmas.Bool.Decides.{nat_tests}
use Rattle.std.proofs.lemmas.Cmp.{nat_cmp_total}
use Rattle.std.proofs.lemmas.List.Filters.{dedup_is}
use Rattle.std.proofs.lemmas.List.Kept.{Contains-dedup_nat, IsStrictlySortedBy-dedup}
use Rattle.std.proofs.lemmas.List.Sorted.{Contains-permutation}
use Rattle.cif_script.specs.Touches.{Ascend}
use Rattle.cif_sim_run.proofs.Ordered.{ascends}
use Rattle.cif_sim_run.proofs.touches.in_order.Goals as goal

pub returns : goal.returns
returns c =
    let is = c.from_vec.ensures ∙ dedup_is _ _ _ c.dedup.ensures.filtered in
    record {
      ascend = subst (λ (ks : List ℕ). Ascend 0 ks) (sym is) (ascends _ (IsStrictlySortedBy-dedup nat_cmp_total (λ x y. grind (arith, nat_tests)) _ c.sort_unstable.ensures.sorted));
      each = λ k h.
          subst (λ (ks : List ℕ). Contains ks k) (sym is)
          (Contains-dedup_nat _ k (Contains-permutation _ _ k c.sort_unstable.ensures.permutation (subst (λ (ks : List ℕ). Contains ks k) (sym c.into_vec-numbers.ensures) h)));
    }
