-- An answer to a list of demands, put together from answers to its parts.
use Rattle.std.proofs.Common.{◌≡◌, ℕ, Bool, true, false, ◌&&◌, ◌⊎◌, inl, inr, List, [], ◌∷◌, ◌++◌, Option, Some, None, refl, sym, ap, subst, ◌∙◌}
use Rattle.std.specs.Prelude.{Result, Ok, Err}
use Rattle.std.specs.List.{list_all}
use Rattle.cif_system.specs.Words.{Member}
use Rattle.cif_system.proofs.Lists.{some-same, none-some}
use Rattle.cif_system.proofs.Picks.{and-left, and-right, append-left, append-right}
use Rattle.cif_source.specs.Source.{tree_at}
use Rattle.cif_source.specs.Components.{Component}
use Rattle.cif_source.proofs.ComponentLaws.{append-cases}
use Rattle.cif_source.proofs.Elements.{to-any}
use Rattle.cif_source.specs.Kinds.{Demand}
use Rattle.cif_types_kinds.specs.Met.{is_met, AreMet, Checks}
use Rattle.cif_types_kinds.specs.Faults.{unless, or_later, Tells}
use Rattle.cif_types_kinds.specs.declared.error.KindErr.{KindErr}
use Rattle.cif_types_kinds.specs.declared.error.KindErr.TheVariants.{Mismatch, Memory}

-- ---- elements

both-true : (a b : Bool) → a ≡ true → b ≡ true → (a && b) ≡ true
both-true a b h g = ap (λ x. x && b) h ∙ g

module _ {A : Type 0} (p : A → Bool) where
  all-join : (xs ys : List A) → list_all p xs ≡ true → list_all p ys ≡ true → list_all p (xs ++ ys) ≡ true
  all-join [] ys h g = g
  all-join (x ∷ xs) ys h g = both-true (p x) (list_all p (xs ++ ys)) (and-left (p x) (list_all p xs) h) (all-join xs ys (and-right (p x) (list_all p xs) h) g)

  all-left : (xs ys : List A) → list_all p (xs ++ ys) ≡ true → list_all p xs ≡ true
  all-left [] ys h = refl
  all-left (x ∷ xs) ys h = both-true (p x) (list_all p xs) (and-left (p x) (list_all p (xs ++ ys)) h) (all-left xs ys (and-right (p x) (list_all p (xs ++ ys)) h))

  all-right : (xs ys : List A) → list_all p (xs ++ ys) ≡ true → list_all p ys ≡ true
  all-right [] ys h = h
  all-right (x ∷ xs) ys h = all-right xs ys (and-right (p x) (list_all p (xs ++ ys)) h)

-- ---- the later of two

later-none : (o p : Option ℕ) → or_later o p ≡ None → (o ≡ None) × (p ≡ None)
later-none None p h = (refl, h)
later-none (Some x) p h = absurd (none-some x (sym h))

later-some : (o p : Option ℕ) (at : ℕ) → or_later o p ≡ Some at → (o ≡ Some at) ⊎ (p ≡ Some at)
later-some None p at h = inr h
later-some (Some x) p at h = inl h

pub later-end : (o : Option ℕ) → or_later o None ≡ o
later-end None = refl
later-end (Some x) = refl

pub later-assoc : (o p q : Option ℕ) → or_later (or_later o p) q ≡ or_later o (or_later p q)
later-assoc None p q = refl
later-assoc (Some x) p q = refl

-- ---- answers

module _ (c : Component) where
  abbrev pub BreaksThere : List Demand → ℕ → Type 0
  BreaksThere ds at = (d : Demand) × Member d ds × (tree_at d.value ≡ at) × (is_met c d ≡ false)

  wider : (xs ys : List Demand) (at : ℕ) → ((d : Demand) → Member d xs → Member d ys) → BreaksThere xs at → BreaksThere ys at
  wider xs ys at f b = (b.0, f b.0 b.1, b.2, b.3)

  pub record Answers (o : Option ℕ) (ds : List Demand) : Type 0 where
    pub met : o ≡ None → AreMet c ds
    pub broken : (at : ℕ) → o ≡ Some at → BreaksThere ds at

  pub nothing : Answers None []
  nothing = record { met = λ h. refl; broken = λ at h. absurd (none-some at h) }

  pub one : (d : Demand) → Answers (unless (is_met c d) (tree_at d.value)) (d ∷ [])
  one d = record {
    met = λ h.
        (elim (is_met c d) as (λ b. unless b (tree_at d.value) ≡ None → (b && true) ≡ true) [
          | true ↦ λ g. refl
          | false ↦ λ g. absurd (none-some (tree_at d.value) (sym g))
        ]) h;
    broken = λ at h.
        (elim (is_met c d) as (λ b. is_met c d ≡ b → unless b (tree_at d.value) ≡ Some at → BreaksThere (d ∷ []) at) [
          | true ↦ λ e g. absurd (none-some at g)
          | false ↦ λ e g. (d, inl refl, some-same (tree_at d.value) at g, e)
        ]) refl h;
  }

  pub regrouped : (o p : Option ℕ) (xs ys : List Demand) → o ≡ p → xs ≡ ys → Answers o xs → Answers p ys
  regrouped o p xs ys e f a = subst (λ q. Answers q ys) e (subst (λ (zs : List Demand). Answers o zs) f a)

  pub next : (o p : Option ℕ) (xs ys : List Demand) → Answers o xs → Answers p ys → Answers (or_later o p) (xs ++ ys)
  next o p xs ys a b = record {
    met = λ h. let both = later-none o p h in all-join (is_met c) xs ys (a.met both.0) (b.met both.1);
    broken = λ at h.
        elim (later-some o p at h) [
          | inl w ↦ wider xs (xs ++ ys) at (λ d m. append-left d xs ys m) (a.broken at w)
          | inr w ↦ wider ys (xs ++ ys) at (λ d m. append-right d xs ys m) (b.broken at w)
        ];
  }

  pub swapped : (o : Option ℕ) (xs ys : List Demand) → Answers o (xs ++ ys) → Answers o (ys ++ xs)
  swapped o xs ys a = record {
    met = λ h. all-join (is_met c) ys xs (all-right (is_met c) xs ys (a.met h)) (all-left (is_met c) xs ys (a.met h));
    broken = λ at h.
        wider (xs ++ ys) (ys ++ xs) at
        (λ d m. elim (append-cases d xs ys m) [ inl w ↦ append-right d ys xs w | inr w ↦ append-left d ys xs w ])
        (a.broken at h);
  }

  -- an operand is read before it is asked
  pub asked : (o : Option ℕ) (d : Demand) (ds : List Demand) → Answers o ds → Answers (or_later o (unless (is_met c d) (tree_at d.value))) (d ∷ ds)
  asked o d ds a = swapped (or_later o (unless (is_met c d) (tree_at d.value))) ds (d ∷ []) (next o (unless (is_met c d) (tree_at d.value)) ds (d ∷ []) a (one d))

  -- a demand within the list comes first
  pub moved : (o : Option ℕ) (d : Demand) (xs ys : List Demand) → Answers o (xs ++ d ∷ ys) → Answers o (d ∷ xs ++ ys)
  moved o d xs ys a = record {
    met = λ h.
        let right : list_all (is_met c) (d ∷ ys) ≡ true = all-right (is_met c) xs (d ∷ ys) (a.met h) in
        both-true (is_met c d) (list_all (is_met c) (xs ++ ys)) (and-left (is_met c d) (list_all (is_met c) ys) right)
        (all-join (is_met c) xs ys (all-left (is_met c) xs (d ∷ ys) (a.met h)) (and-right (is_met c d) (list_all (is_met c) ys) right));
    broken = λ at h.
        wider (xs ++ d ∷ ys) (d ∷ xs ++ ys) at
        (λ e m.
        elim (append-cases e xs (d ∷ ys) m) [
          | inl w ↦ inr (append-left e xs ys w)
          | inr w ↦ elim w [ inl u ↦ inl u | inr u ↦ inr (append-right e xs ys u) ]
        ])
        (a.broken at h);
  }

  pub turned : (o : Option ℕ) (d e : Demand) (ds : List Demand) → Answers o (d ∷ e ∷ ds) → Answers o (e ∷ d ∷ ds)
  turned o d e ds a = moved o e (d ∷ []) ds a

  -- two operands
  pub two : (o p : Option ℕ) (d e : Demand) (xs ys : List Demand) → Answers o xs → Answers p ys
      → Answers (or_later (or_later o (unless (is_met c d) (tree_at d.value))) (or_later p (unless (is_met c e) (tree_at e.value)))) (d ∷ e ∷ xs ++ ys)
  two o p d e xs ys a b =
      let all = or_later (or_later o (unless (is_met c d) (tree_at d.value))) (or_later p (unless (is_met c e) (tree_at e.value))) in
      turned all e d (xs ++ ys)
      (moved all e (d ∷ xs) ys
      (next (or_later o (unless (is_met c d) (tree_at d.value))) (or_later p (unless (is_met c e) (tree_at e.value))) (d ∷ xs) (e ∷ ys) (asked o d xs a) (asked p e ys b)))

  -- a demand that is broken ends the reading
  pub stopped : (o p q : Option ℕ) (d : Demand) (xs ys zs ws : List Demand) → is_met c d ≡ false → Answers o xs → Answers p ys
      → Answers (or_later o (or_later (or_later p (Some (tree_at d.value))) q)) ((((xs ++ ys) ++ zs) ++ ws) ++ d ∷ [])
  stopped o p q d xs ys zs ws bad a b = record {
    met = λ h. absurd (never o p h);
    broken = λ at h. told at (split o p at h);
  }
    where
      never : (o p : Option ℕ) → or_later o (or_later (or_later p (Some (tree_at d.value))) q) ≡ None → ⊥
      never None None h = none-some (tree_at d.value) (sym h)
      never None (Some x) h = none-some x (sym h)
      never (Some x) p h = none-some x (sym h)

      split : (o p : Option ℕ) (at : ℕ) → or_later o (or_later (or_later p (Some (tree_at d.value))) q) ≡ Some at → (o ≡ Some at) ⊎ ((p ≡ Some at) ⊎ (tree_at d.value ≡ at))
      split None None at h = inr (inr (some-same (tree_at d.value) at h))
      split None (Some x) at h = inr (inl h)
      split (Some x) p at h = inl h

      told : (at : ℕ) → (o ≡ Some at) ⊎ ((p ≡ Some at) ⊎ (tree_at d.value ≡ at)) → BreaksThere ((((xs ++ ys) ++ zs) ++ ws) ++ d ∷ []) at
      told at w =
          elim w [
            | inl e ↦ wider xs ((((xs ++ ys) ++ zs) ++ ws) ++ d ∷ []) at (λ x m. front x (append-left x xs ys m)) (a.broken at e)
            | inr v ↦
                elim v [
                  | inl e ↦ wider ys ((((xs ++ ys) ++ zs) ++ ws) ++ d ∷ []) at (λ x m. front x (append-right x xs ys m)) (b.broken at e)
                  | inr e ↦ (d, append-right d (((xs ++ ys) ++ zs) ++ ws) (d ∷ []) (inl refl), e, bad)
                ]
          ]
        where
          front : (x : Demand) → Member x (xs ++ ys) → Member x ((((xs ++ ys) ++ zs) ++ ws) ++ d ∷ [])
          front x m = append-left x (((xs ++ ys) ++ zs) ++ ws) (d ∷ []) (append-left x ((xs ++ ys) ++ zs) ws (append-left x (xs ++ ys) zs m))

  -- what an answer says of a result
  pub checks : {A : Type 0} (o : Option ℕ) (ds : List Demand) (r : Result A KindErr) → Answers o ds → Tells r o → Checks c ds r
  checks o ds (Ok x) a h = a.met h
  checks o ds (Err (Mismatch at)) a h =
      let b = a.broken at h in
      to-any (λ (d : Demand). (tree_at d.value ≡ at) × (is_met c d ≡ false)) b.0 ds b.1 (b.2, b.3)
  checks o ds (Err Memory) a h = tt
