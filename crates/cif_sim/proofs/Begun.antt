-- The places where the choices of the first events begin.
use Rattle.std.proofs.Common.{◌≡◌, ℕ, zero, suc, ◌+◌, ◌≤◌, inl, inr, List, [], ◌∷◌, ◌++◌, length, Some, refl, sym, ap, subst, ◌∙◌, arith, length-append}
use Rattle.std.specs.Prelude.{slice_get}
use Rattle.std.proofs.lemmas.Bool.{cases_lt}
use Rattle.cif_system.specs.System.{System}
use Rattle.cif_net.specs.declared.guarded.Guarded.{Guarded}
use Rattle.cif_sim.specs.Starts.{choices_below}
use Rattle.cif_sim.proofs.Listed.{below-first, meant}
use Rattle.cif_sim.proofs.Segments.{get-front}

-- those of the events up to number e, and the last of them
pub record Begun (m : System) (starts : List ℕ) (next e : ℕ) : Type 0 where
  pub begins : next ≡ choices_below m e
  pub long : length starts ≡ e + 1
  pub at : (k : ℕ) → k ≤ e → slice_get starts k ≡ Some (choices_below m k)

get-last : (xs : List ℕ) (k y : ℕ) → k ≡ length xs → slice_get (xs ++ y ∷ []) k ≡ Some y
get-last [] zero y h = refl
get-last [] (suc k) y h = absurd (omega (arith, h))
get-last (x ∷ xs) zero y h = absurd (omega (arith, h))
get-last (x ∷ xs) (suc k) y h = get-last xs k y (omega (arith, h))

pub begun-none : (g : Guarded) (starts : List ℕ) → starts ≡ 0 ∷ [] → Begun (meant g) starts 0 0
begun-none g starts is = subst (λ xs. Begun (meant g) xs 0 0) (sym is) record { begins = sym (below-first g); long = refl; at = at }
  where
    at : (k : ℕ) → k ≤ 0 → slice_get (0 ∷ []) k ≡ Some (choices_below (meant g) k)
    at zero h = ap Some (sym (below-first g))
    at (suc k) h = absurd (omega (arith, h))

pub begun-more : (m : System) (e : ℕ) (starts : List ℕ) (next end : ℕ) (more : List ℕ) → Begun m starts next e → end ≡ choices_below m (suc e) → more ≡ starts ++ end ∷ [] → Begun m more end (e + 1)
begun-more m e starts next end more b is pushed = subst (λ xs. Begun m xs end (e + 1)) (sym pushed) record {
  begins = is ∙ ap (choices_below m) last;
  long = omega (arith, length-append starts (end ∷ []), b.long);
  at = at;
}
  where
    last : suc e ≡ e + 1
    last = omega arith

    at : (k : ℕ) → k ≤ e + 1 → slice_get (starts ++ end ∷ []) k ≡ Some (choices_below m k)
    at k h =
        elim (cases_lt e k) [
          | inl less ↦
              let same : k ≡ suc e = omega (arith, h, less) in
              get-last starts k end (omega (arith, same, b.long)) ∙ ap Some (is ∙ ap (choices_below m) (sym same))
          | inr more ↦ get-front starts (end ∷ []) k (omega (arith, more, b.long)) ∙ b.at k more
        ]
