-- Counts that stop on the way are those that stop at the end.
use Rattle.std.proofs.Common.{◌≡◌, ℕ, ◌+◌, ◌*◌, sym, ◌∙◌, ap, arith}
use Rattle.cif_net_model.proofs.CountLaws.{stop-mul}
use Rattle.cif_alg.specs.declared.weighed.Weighed.{Weighed}
use Rattle.cif_alg.specs.Weighed.{cut, weighed, with_one, paired, all_nodes}

cut-add_left : (a b : ℕ) → cut (cut a + b) ≡ cut (a + b)
cut-add_left a b = omega arith

pub cut-add : (a b : ℕ) → cut (cut a + cut b) ≡ cut (a + b)
cut-add a b = omega arith

cut-mul : (a b : ℕ) → cut (cut a * cut b) ≡ cut (a * b)
cut-mul a b = sym (stop-mul a b 1000001 (omega arith))

same-weighed : (a b c d : ℕ) → a ≡ c → b ≡ d → let x : Weighed = record { count = a; nodes = b } in x ≡ record { count = c; nodes = d }
same-weighed a b c d p q = ap (λ n. record { count = n; nodes = b }) p ∙ ap (λ n. record { count = c; nodes = n }) q

pub one_more : (w c n : ℕ) → with_one (cut w) (weighed c n) ≡ weighed (c + 1) (n + w)
one_more w c n = same-weighed _ _ _ _ (cut-add_left c 1) (cut-add n w)

pub pairs : (r w c n : ℕ) → paired (weighed r w) (weighed c n) ≡ weighed (r * c) (w * c + r * n)
pairs r w c n =
    same-weighed _ _ _ _ (cut-mul r c)
    (ap (λ k. cut (k + cut (cut r * cut n))) (cut-mul w c) ∙ ap (λ k. cut (cut (w * c) + k)) (cut-mul r n) ∙ cut-add (w * c) (r * n))

pub all-weighed : (b r w : ℕ) → all_nodes (cut (1 + cut b)) (weighed r w) ≡ cut (r * (1 + b) + w)
all-weighed b r w =
    let one : cut (1 + cut b) ≡ cut (1 + b) = omega arith in
    ap (λ k. all_nodes k (weighed r w)) one ∙ ap (λ k. cut (k + cut w)) (cut-mul r (1 + b)) ∙ cut-add (r * (1 + b)) w
