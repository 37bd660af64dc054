-- A loop that reads a list of values that stand for trees, also where each turn puts what it reads behind the list itself.
use Rattle.std.proofs.Common.{◌≡◌, ℕ, max, ◌+◌, ◌-◌, ◌<◌, true, List, [], ◌∷◌, ◌++◌, map, Some, None, refl, sym, ap, ◌∙◌}
use Rattle.std.proofs.lemmas.List.{map-append}
use Rattle.grammar.specs.Reader.{Read, Reader, and_then, starts, many_from, Deep, deep_from, level, above, chained}
use Rattle.grammar.specs.Loops.{after, deep_after}
use Rattle.grammar.proofs.Loops.{after_step, after_fail, deep_step}
use Rattle.st_read.specs.Gives.{onto}

module _ {X T A : Type 0} (view : X → A) (code : T → ℕ) (ks : List ℕ) where
  pub seen_step : (r : Reader T A) (front : List X) (n at : ℕ) (ts us : List T) (x : X) → at < n → starts code ks ts ≡ true → r ts ≡ Some (view x, us)
      → after (map view front) (many_from code ks r (n - at) ts) ≡ after (map view (front ++ x ∷ [])) (many_from code ks r (n - (at + 1)) us)
  seen_step r front n at ts us x l s e =
      after_step code ks r (map view front) n at ts us (view x) l s e
      ∙ ap (λ all. after all (many_from code ks r (n - (at + 1)) us)) (sym (map-append view front (x ∷ [])))

  pub seen_deep_step : (r : Deep T A) (front : List X) (d n at : ℕ) (ts us : List T) (x : X) (e : ℕ) → at < n → starts code ks ts ≡ true → r ts ≡ Some ((view x, e), us)
      → deep_after (map view front) d (deep_from code ks r (n - at) ts) ≡ deep_after (map view (front ++ x ∷ [])) (max d e) (deep_from code ks r (n - (at + 1)) us)
  seen_deep_step r front d n at ts us x e l s g =
      deep_step code ks r (map view front) d n at ts us (view x) e l s g
      ∙ ap (λ all. deep_after all (max d e) (deep_from code ks r (n - (at + 1)) us)) (sym (map-append view front (x ∷ [])))

-- ---- what is read goes behind a list

pub onto_read : {X T A : Type 0} (view : X → A) (front all : List X) (x : X) (read : Read T A) (us : List T) → all ≡ front ++ x ∷ [] → read ≡ Some (view x, us)
    → onto (map view front) read ≡ Some (map view all, us)
onto_read view front all x read us e f = ap (onto (map view front)) f ∙ ap (λ as'. Some (as', us)) (sym (map-append view front (x ∷ [])) ∙ ap (map view) (sym e))

onto_some : {T A : Type 0} (front more : List A) (read : Read T A) (us : List T) → onto front read ≡ Some (more, us) → (a : A) × (read ≡ Some (a, us)) × (more ≡ front ++ a ∷ [])
onto_some front more None us e = absurd cc
onto_some {T = T} {A = A} front more (Some p) us e =
    let same : (front ++ p.0 ∷ [], p.1) ≡ (more, us) = cc in
    (p.0, ap (λ (w : List A × List T). Some (p.0, w.1)) same, sym (ap (λ (w : List A × List T). w.0) same))

onto_none : {T A : Type 0} (front : List A) (read : Read T A) → onto front read ≡ None → read ≡ None
onto_none front None e = refl
onto_none front (Some p) e = absurd cc

module _ {T A : Type 0} (code : T → ℕ) (ks : List ℕ) (r : Reader T A) where
  pub onto_step : (front more : List A) (n at : ℕ) (ts us : List T) → at < n → starts code ks ts ≡ true → onto front (r ts) ≡ Some (more, us)
      → after front (many_from code ks r (n - at) ts) ≡ after more (many_from code ks r (n - (at + 1)) us)
  onto_step front more n at ts us l s e =
      let m = onto_some front more (r ts) us e in
      after_step code ks r front n at ts us m.0 l s m.1 ∙ ap (λ (all : List A). after all (many_from code ks r (n - (at + 1)) us)) (sym m.2)

  pub onto_fail : (front : List A) (n at : ℕ) (ts : List T) → at < n → starts code ks ts ≡ true → onto front (r ts) ≡ None → after front (many_from code ks r (n - at) ts) ≡ None
  onto_fail front n at ts l s e = after_fail code ks r front n at ts l s (onto_none front (r ts) e)

pub seen_chained : {X T A B : Type 0} (view : X → B) (limit : ℕ) (make : A → List B → A) (first : A × ℕ) (all : List X) (e : ℕ) (ts : List T) → (all ≡ [] → ⊥)
    → chained limit make first (map view all, e) ts ≡ and_then (level limit first.0 first.1 ts) (λ p us. Some (above make p (map view all, e), us))
seen_chained view limit make first [] e ts h = absurd (h refl)
seen_chained view limit make first (x ∷ xs) e ts h = refl
