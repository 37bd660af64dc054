-- What the searches for a node that reaches itself keep, and what they show when no node waits.
use Rattle.std.proofs.Common.{◌≡◌, ◌≢◌, ℕ, zero, suc, ◌+◌, ◌<◌, ◌≤◌, cond, ◌⊎◌, inl, inr, List, [], ◌∷◌, ◌++◌, length, take, Option, Some, None, refl, sym, ◌∙◌, ap, subst, arith}
use Rattle.std.specs.Prelude.{slice_get, slice_set, slice_index_or}
use Rattle.std.proofs.Math.ListN.{length-set, length-append}
use Rattle.std.proofs.lemmas.Option.{slice_get-get_or}
use Rattle.std.proofs.lemmas.Bool.{eq-eqb, ne_eqb}
use Rattle.cif_system.specs.Words.{Member, Chain, one, more}
use Rattle.cif_system.proofs.Lists.{none-some, some-same}
use Rattle.cif_order.specs.Graph.{needs_of, Needs}
use Rattle.cif_order.specs.Spread.{IsMet, AreMet, IsKnown, IsSpread, StaysSpread, IsDone, is_unmet, unmet, visits_left}
use Rattle.cif_order.proofs.Lists.{same-or-other, member-left, member-last, member-push, written-same, get-within, written, kept, chain-push, member-take, member-take-suc, member-get}

-- the first needs of a node that has waited are met
pub record IsMeeting (needs : List (List ℕ)) (start node count : ℕ) (met : List (Option ℕ)) (waiting : List ℕ) (most : ℕ) : Type 0 where
  pub spread : IsSpread needs start met (node ∷ waiting)
  pub partly : AreMet start met (take count (needs_of needs node))
  pub fewer : visits_left start met waiting ≤ most

-- ---- a node that is met

met-still : (start : ℕ) (met : List (Option ℕ)) (y x : ℕ) → y < length met → IsMet start met x → IsMet start (slice_set met y (Some start)) x
met-still start met y x inside h = elim (same-or-other x y) [
  | inl e ↦ subst (IsMet start (slice_set met y (Some start))) (sym e) (written-same met y (Some start) inside)
  | inr n ↦ kept met y x (Some start) (Some start) h n
]

written-again : (met : List (Option ℕ)) (y : ℕ) (m : Option ℕ) → slice_get met y ≡ Some m → slice_set met y m ≡ met
written-again [] y m h = refl
written-again (k ∷ met) zero m h = let e : k ≡ m = some-same k m h in cc
written-again (k ∷ met) (suc y) m h = ap (λ l. k ∷ l) (written-again met y m h)

pub spread-first : (needs : List (List ℕ)) (start node y : ℕ) (met : List (Option ℕ)) (waiting : List ℕ) → IsSpread needs start met (node ∷ waiting)
    → Chain (Needs needs) start y → y ≢ start → y < length met → IsSpread needs start (slice_set met y (Some start)) (node ∷ (waiting ++ y ∷ []))
spread-first needs start node y met waiting s chain differs inside = record {
  sized = length-set met y (Some start) ∙ s.sized;
  earlier = λ x t h. elim (written met y x (Some start) (Some t) h) [
    | inl w ↦ let e : start ≡ t = some-same start t w.1 in omega arith
    | inr w ↦ s.earlier x t w.1
  ];
  away = λ h. elim (written met y start (Some start) (Some start) h) [ inl w ↦ differs (sym w.0) | inr w ↦ s.away w.1 ];
  reached = λ x h. elim (written met y x (Some start) (Some start) h) [
    | inl w ↦ subst (Chain (Needs needs) start) (sym w.0) chain
    | inr w ↦ s.reached x w.1
  ];
  known = λ x m. elim m [
    | inl e ↦ still x (s.known x (inl e))
    | inr v ↦ elim (member-push x y waiting v) [
      | inl w ↦ still x (s.known x (inr w))
      | inr e ↦ inr (subst (IsMet start new) (sym e) at_y)
    ]
  ];
  spread = λ x k. elim k [
    | inl e ↦ wider x (s.spread x (inl e))
    | inr h ↦ elim (written met y x (Some start) (Some start) h) [
      | inl w ↦ inl (inr (subst (λ v. Member v (waiting ++ y ∷ [])) (sym w.0) (member-last y waiting)))
      | inr w ↦ wider x (s.spread x (inr w.1))
    ]
  ];
}
  where
    new : List (Option ℕ)
    new = slice_set met y (Some start)

    at_y : IsMet start (slice_set met y (Some start)) y
    at_y = written-same met y (Some start) inside

    still : (x : ℕ) → IsKnown start met x → IsKnown start (slice_set met y (Some start)) x
    still x k = elim k [ inl e ↦ inl e | inr h ↦ inr (met-still start met y x inside h) ]

    wider : (x : ℕ) → Member x (node ∷ waiting) ⊎ AreMet start met (needs_of needs x)
        → Member x (node ∷ (waiting ++ y ∷ [])) ⊎ AreMet start (slice_set met y (Some start)) (needs_of needs x)
    wider x w = elim w [
      | inl m ↦ inl (elim m [ inl e ↦ inl e | inr v ↦ inr (member-left x waiting (y ∷ []) v) ])
      | inr a ↦ inr (λ z m. met-still start met y z inside (a z m))
    ]

-- ---- how many visits are left

unmet-written : (start : ℕ) (met : List (Option ℕ)) (y : ℕ) (m : Option ℕ) → slice_get met y ≡ Some m → unmet start (slice_set met y (Some start)) + is_unmet start m ≡ unmet start met
unmet-written start [] y m h = absurd (none-some m h)
unmet-written start (k ∷ met) zero m h =
    let e : k ≡ m = some-same k m h in
    let f : is_unmet start k ≡ is_unmet start m = ap (is_unmet start) e in
    let g : is_unmet start (Some start) ≡ 0 = ap (λ b. cond b 0 1) (eq-eqb start start refl) in
    omega (arith, f, g)
unmet-written start (k ∷ met) (suc y) m h = omega (arith, unmet-written start met y m h)

is_unmet-other : (start : ℕ) (m : Option ℕ) → m ≢ Some start → is_unmet start m ≡ 1
is_unmet-other start None differs = refl
is_unmet-other start (Some s) differs = ap (λ b. cond b 0 1) (ne_eqb s start (λ e. differs (ap Some e)))

-- ---- the needs of one node

-- a need of a node that has waited is reached
pub need-reached : (needs : List (List ℕ)) (start node y : ℕ) (met : List (Option ℕ)) (waiting : List ℕ) → IsSpread needs start met (node ∷ waiting) → Needs needs node y
    → Chain (Needs needs) start y
need-reached needs start node y met waiting s need = elim (s.known node (inl refl)) [
  | inl e ↦ one (subst (λ w. Needs needs w y) e need)
  | inr h ↦ chain-push (Needs needs) start node y (s.reached node h) need
]

-- whether a node is met
met-or-other : (start : ℕ) (met : List (Option ℕ)) (y : ℕ) → y < length met → IsMet start met y ⊎ ((m : Option ℕ) × (slice_get met y ≡ Some m) × (m ≢ Some start))
met-or-other start [] y h = absurd (omega arith)
met-or-other start (None ∷ met) zero h = inr (None, refl, λ e. cc)
met-or-other start (Some s ∷ met) zero h = elim (same-or-other s start) [ inl e ↦ inl (ap (λ t. Some (Some t)) e) | inr n ↦ inr (Some s, refl, λ e. n (some-same s start e)) ]
met-or-other start (m ∷ met) (suc y) h = met-or-other start met y (omega arith)

pub meeting-more : (needs : List (List ℕ)) (start node count y most : ℕ) (met met' : List (Option ℕ)) (waiting waiting' : List ℕ) → IsMeeting needs start node count met waiting most
    → slice_get (needs_of needs node) count ≡ Some y → y ≢ start → y < length needs → met' ≡ slice_set met y (Some start)
    → (IsMet start met y → waiting' ≡ waiting) → ((IsMet start met y → ⊥) → waiting' ≡ waiting ++ y ∷ []) → IsMeeting needs start node (count + 1) met' waiting' most
meeting-more needs start node count y most met met' waiting waiting' g at differs inside written_met again first =
    let e : suc count ≡ count + 1 = omega arith in
    subst (λ n. IsMeeting needs start node n met' waiting' most) e (elim (met-or-other start met y within) [
      | inl h ↦
          let same : met' ≡ met = written_met ∙ written-again met y (Some start) h in
          subst (λ v. IsMeeting needs start node (suc count) v waiting' most) (sym same) (subst (λ v. IsMeeting needs start node (suc count) met v most) (sym (again h)) (record {
            spread = g.spread;
            partly = λ z m. elim (member-take-suc z y count (needs_of needs node) at m) [ inl w ↦ g.partly z w | inr w ↦ subst (IsMet start met) (sym w) h ];
            fewer = g.fewer;
          }))
      | inr h ↦
          let longer : waiting' ≡ waiting ++ y ∷ [] = first (λ w. h.2 (some-same h.0 (Some start) (sym h.1 ∙ w))) in
          subst (λ v. IsMeeting needs start node (suc count) v waiting' most) (sym written_met) (subst (λ v. IsMeeting needs start node (suc count) (slice_set met y (Some start)) v most) (sym longer) (record {
            spread = spread-first needs start node y met waiting g.spread (need-reached needs start node y met waiting g.spread (member-get y count (needs_of needs node) at)) differs within;
            partly = λ z m. elim (member-take-suc z y count (needs_of needs node) at m) [
              | inl w ↦ met-still start met y z within (g.partly z w)
              | inr w ↦ subst (IsMet start (slice_set met y (Some start))) (sym w) (written-same met y (Some start) within)
            ];
            fewer = omega (arith, g.fewer, unmet-written start met y h.0 h.1, is_unmet-other start h.0 h.2, length-append waiting (y ∷ []));
          }))
    ])
  where
    within : y < length met
    within = let s = g.spread.sized in omega (arith, s)

pub meeting-all : (needs : List (List ℕ)) (start node count most : ℕ) (met : List (Option ℕ)) (waiting : List ℕ) → IsMeeting needs start node count met waiting most
    → length (needs_of needs node) ≤ count → StaysSpread needs start met waiting most
meeting-all needs start node count most met waiting g all = record {
  spread = record {
    sized = s.sized;
    earlier = s.earlier;
    away = s.away;
    reached = s.reached;
    known = λ x m. s.known x (inr m);
    spread = λ x k. elim (s.spread x k) [
      | inl m ↦ elim m [
        | inl e ↦ inr (λ y n. g.partly y (member-take y count (needs_of needs node) all (subst (λ v. Member y (needs_of needs v)) e n)))
        | inr w ↦ inl w
      ]
      | inr a ↦ inr a
    ];
  };
  fewer = g.fewer;
}
  where
    s : IsSpread needs start met (node ∷ waiting)
    s = g.spread

-- ---- the nodes that wait

pub spread-taken : (needs : List (List ℕ)) (start node : ℕ) (met : List (Option ℕ)) (waiting : List ℕ) → IsSpread needs start met (waiting ++ node ∷ []) → IsSpread needs start met (node ∷ waiting)
spread-taken needs start node met waiting s = record {
  sized = s.sized;
  earlier = s.earlier;
  away = s.away;
  reached = s.reached;
  known = λ x m. elim m [
    | inl e ↦ s.known x (subst (λ v. Member v (waiting ++ node ∷ [])) (sym e) (member-last node waiting))
    | inr w ↦ s.known x (member-left x waiting (node ∷ []) w)
  ];
  spread = λ x k. elim (s.spread x k) [
    | inl m ↦ elim (member-push x node waiting m) [ inl w ↦ inl (inr w) | inr e ↦ inl (inl e) ]
    | inr a ↦ inr a
  ];
}

-- what is known is closed under needs where no node waits
chain-met : (needs : List (List ℕ)) (start : ℕ) (met : List (Option ℕ)) → IsSpread needs start met [] → (x y : ℕ) → IsKnown start met x → Chain (Needs needs) x y → IsMet start met y
chain-met needs start met s x y k (one r) = elim (s.spread x k) [ inl m ↦ absurd m | inr a ↦ a y r ]
chain-met needs start met s x y k (more {y = z} r c) = elim (s.spread x k) [ inl m ↦ absurd m | inr a ↦ chain-met needs start met s z y (inr (a z r)) c ]

pub spread-done : (needs : List (List ℕ)) (start : ℕ) (met : List (Option ℕ)) (waiting : List ℕ) → IsSpread needs start met waiting → waiting ≡ [] → IsDone needs start met
spread-done needs start met waiting s empty = record {
  sized = s.sized;
  earlier = s.earlier;
  none = λ c. s.away (chain-met needs start met (subst (IsSpread needs start met) empty s) start start (inl refl) c);
}

-- ---- places

pub waiting-inside : (needs : List (List ℕ)) (start x : ℕ) (met : List (Option ℕ)) (waiting : List ℕ) → IsSpread needs start met waiting → start < length needs → Member x waiting → x < length needs
waiting-inside needs start x met waiting s inside m = elim (s.known x m) [
  | inl e ↦ omega (arith, e)
  | inr h ↦ let w = get-within met x (Some start) h in let l = s.sized in omega (arith, w, l)
]

pub need-read : (list ys : List ℕ) (k : ℕ) → list ≡ ys → k < length list → slice_get ys k ≡ Some (slice_index_or list k 0)
need-read list ys k e h = subst (λ zs. slice_get zs k ≡ Some (slice_index_or list k 0)) e (slice_get-get_or list k 0 h)
