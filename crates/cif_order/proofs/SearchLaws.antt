-- What the steps of the search keep.
use Rattle.std.proofs.Common.{◌≡◌, ◌≢◌, ℕ, zero, suc, ◌+◌, ◌<◌, ◌≤◌, inl, inr, List, [], ◌∷◌, ◌++◌, length, take, Some, refl, sym, ◌∙◌, ap, subst, arith}
use Rattle.std.specs.Prelude.{slice_get, slice_set}
use Rattle.std.proofs.Math.ListN.{length-set}
use Rattle.cif_system.specs.Words.{Member, Before, Chain, one}
use Rattle.cif_system.proofs.Lists.{none-some, some-same}
use Rattle.cif_order.specs.Graph.{needs_of, Needs}
use Rattle.cif_order.specs.Search.{IsSound, AreKept, GoesOn, steps_of, steps_left}
use Rattle.cif_order.specs.declared.search.Mark.{Mark}
use Rattle.cif_order.specs.declared.search.Mark.TheVariants.{New, Open, Done}
use Rattle.cif_order.proofs.Lists.{same-or-other, member-left, member-last, member-push, before-left, before-last, before-push, distinct-push, distinct-front, distinct-apart, written-same, get-within, written, kept, chain-push, member-take, member-take-suc, member-get}

-- two nodes with different marks are two
apart : (marks : List Mark) (x y : ℕ) (m n : Mark) → slice_get marks x ≡ Some m → slice_get marks y ≡ Some n → m ≢ n → x ≢ y
apart marks x y m n h g differ e = differ (some-same m n cc)

-- each node on the path reaches the last one, or is it
pub leads-last : (needs : List (List ℕ)) (marks : List Mark) (front order : List ℕ) (x y z : ℕ) → IsSound needs marks (front ++ x ∷ []) order → Needs needs x y → Member z (front ++ x ∷ []) → Chain (Needs needs) z y
leads-last needs marks front order x y z s need m = elim (member-push z x front m) [
  | inl w ↦ chain-push (Needs needs) z x y (s.chained z x (before-last z x front w)) need
  | inr e ↦ one (subst (λ w. Needs needs w y) (sym e) need)
]

pub sound-open : (needs : List (List ℕ)) (marks : List Mark) (path order : List ℕ) (z : ℕ) → IsSound needs marks path order → slice_get marks z ≡ Some New
    → ((x : ℕ) → Member x path → Chain (Needs needs) x z) → IsSound needs (slice_set marks z (Open 0)) (path ++ z ∷ []) order
sound-open needs marks path order z s new leads = record {
  sized = length-set marks z (Open 0) ∙ s.sized;
  opened = λ x m. elim (member-push x z path m) [
    | inl w ↦ let o = s.opened x w in (o.0, kept marks z x (Open 0) (Open o.0) o.1 (apart marks x z (Open o.0) New o.1 new (λ e. cc)))
    | inr e ↦ (0, subst (λ w. slice_get (slice_set marks z (Open 0)) w ≡ Some (Open 0)) (sym e) at_z)
  ];
  on_path = λ x k h. elim (written marks z x (Open 0) (Open k) h) [
    | inl w ↦ subst (λ y. Member y (path ++ z ∷ [])) (sym w.0) (member-last z path)
    | inr w ↦ member-left x path (z ∷ []) (s.on_path x k w.1)
  ];
  done = λ x m. stays x (s.done x m);
  listed = λ x h. elim (written marks z x (Open 0) Done h) [ inl w ↦ absurd (let e = w.1 in cc) | inr w ↦ s.listed x w.1 ];
  path_once = distinct-push z path s.path_once (λ m. let o = s.opened z m in apart marks z z (Open o.0) New o.1 new (λ e. cc) refl);
  order_once = s.order_once;
  chained = λ x y b. elim (before-push x y z path b) [ inl c ↦ s.chained x y c | inr p ↦ subst (Chain (Needs needs) x) (sym p.1) (leads x p.0) ];
  partly = λ x k y h m. elim (written marks z x (Open 0) (Open k) h) [
    | inl w ↦ let e : k ≡ 0 = (let f = w.1 in cc) in absurd (subst (λ j. Member y (take j (needs_of needs x))) e m)
    | inr w ↦ stays y (s.partly x k y w.1 m)
  ];
  after = s.after;
}
  where
    at_z : slice_get (slice_set marks z (Open 0)) z ≡ Some (Open 0)
    at_z = written-same marks z (Open 0) (get-within marks z New new)

    stays : (x : ℕ) → slice_get marks x ≡ Some Done → slice_get (slice_set marks z (Open 0)) x ≡ Some Done
    stays x h = kept marks z x (Open 0) Done h (apart marks x z Done New h new (λ e. cc))

pub sound-advance : (needs : List (List ℕ)) (marks : List Mark) (path order : List ℕ) (z k y : ℕ) → IsSound needs marks path order → slice_get marks z ≡ Some (Open k)
    → slice_get (needs_of needs z) k ≡ Some y → slice_get marks y ≡ Some Done → IsSound needs (slice_set marks z (Open (suc k))) path order
sound-advance needs marks path order z k y s at need is_done = record {
  sized = length-set marks z (Open (suc k)) ∙ s.sized;
  opened = λ x m. elim (same-or-other x z) [
    | inl e ↦ (suc k, subst (λ w. slice_get (slice_set marks z (Open (suc k))) w ≡ Some (Open (suc k))) (sym e) (written-same marks z (Open (suc k)) (get-within marks z (Open k) at)))
    | inr n ↦ let o = s.opened x m in (o.0, kept marks z x (Open (suc k)) (Open o.0) o.1 n)
  ];
  on_path = λ x j h. elim (written marks z x (Open (suc k)) (Open j) h) [
    | inl w ↦ subst (λ v. Member v path) (sym w.0) (s.on_path z k at)
    | inr w ↦ s.on_path x j w.1
  ];
  done = λ x m. stays x (s.done x m);
  listed = λ x h. elim (written marks z x (Open (suc k)) Done h) [ inl w ↦ absurd (let e = w.1 in cc) | inr w ↦ s.listed x w.1 ];
  path_once = s.path_once;
  order_once = s.order_once;
  chained = s.chained;
  partly = λ x j w h m. elim (written marks z x (Open (suc k)) (Open j) h) [
    | inl p ↦
        let e : j ≡ suc k = (let f = p.1 in cc) in
        let m' : Member w (take (suc k) (needs_of needs z)) = subst (λ i. Member w (take i (needs_of needs z))) e (subst (λ v. Member w (take j (needs_of needs v))) p.0 m) in
        elim (member-take-suc w y k (needs_of needs z) need m') [
          | inl v ↦ stays w (s.partly z k w at v)
          | inr v ↦ stays w (subst (λ u. slice_get marks u ≡ Some Done) (sym v) is_done)
        ]
    | inr p ↦ stays w (s.partly x j w p.1 m)
  ];
  after = s.after;
}
  where
    stays : (x : ℕ) → slice_get marks x ≡ Some Done → slice_get (slice_set marks z (Open (suc k))) x ≡ Some Done
    stays x h = kept marks z x (Open (suc k)) Done h (apart marks x z Done (Open k) h at (λ e. cc))

pub sound-finish : (needs : List (List ℕ)) (marks : List Mark) (front order : List ℕ) (z k : ℕ) → IsSound needs marks (front ++ z ∷ []) order → slice_get marks z ≡ Some (Open k)
    → length (needs_of needs z) ≤ k → IsSound needs (slice_set marks z Done) front (order ++ z ∷ [])
sound-finish needs marks front order z k s at all = record {
  sized = length-set marks z Done ∙ s.sized;
  opened = λ x m. let o = s.opened x (member-left x front (z ∷ []) m) in (o.0, kept marks z x Done (Open o.0) o.1 (λ e. distinct-apart z front s.path_once (subst (λ w. Member w front) e m)));
  on_path = λ x j h. elim (written marks z x Done (Open j) h) [
    | inl w ↦ absurd (let e = w.1 in cc)
    | inr w ↦ elim (member-push x z front (s.on_path x j w.1)) [ inl m ↦ m | inr e ↦ absurd (w.0 e) ]
  ];
  done = λ x m. elim (member-push x z order m) [ inl w ↦ stays x (s.done x w) | inr e ↦ subst (λ w. slice_get (slice_set marks z Done) w ≡ Some Done) (sym e) at_z ];
  listed = λ x h. elim (written marks z x Done Done h) [
    | inl w ↦ subst (λ v. Member v (order ++ z ∷ [])) (sym w.0) (member-last z order)
    | inr w ↦ member-left x order (z ∷ []) (s.listed x w.1)
  ];
  path_once = distinct-front front (z ∷ []) s.path_once;
  order_once = distinct-push z order s.order_once (λ m. apart marks z z Done (Open k) (s.done z m) at (λ e. cc) refl);
  chained = λ x y b. s.chained x y (before-left x y front (z ∷ []) b);
  partly = λ x j y h m. elim (written marks z x Done (Open j) h) [ inl w ↦ absurd (let e = w.1 in cc) | inr w ↦ stays y (s.partly x j y w.1 m) ];
  after = λ x y m need. elim (member-push x z order m) [
    | inl w ↦ before-left y x order (z ∷ []) (s.after x y w need)
    | inr e ↦
        let need' : Needs needs z y = subst (λ w. Needs needs w y) e need in
        let m' : Member y order = s.listed y (s.partly z k y at (member-take y k (needs_of needs z) all need')) in
        subst (λ w. Before y w (order ++ z ∷ [])) (sym e) (before-last y z order m')
  ];
}
  where
    at_z : slice_get (slice_set marks z Done) z ≡ Some Done
    at_z = written-same marks z Done (get-within marks z (Open k) at)

    stays : (x : ℕ) → slice_get marks x ≡ Some Done → slice_get (slice_set marks z Done) x ≡ Some Done
    stays x h = kept marks z x Done Done h (apart marks x z Done (Open k) h at (λ e. cc))

-- ---- what is new, and how many steps are left

-- a written mark that isn't new makes no node new
kept-written : (marks : List Mark) (z : ℕ) (m : Mark) → m ≢ New → AreKept marks (slice_set marks z m)
kept-written marks z m differ x h = elim (written marks z x m New h) [ inl w ↦ absurd (differ w.1) | inr w ↦ w.1 ]

steps-written : (needs : List (List ℕ)) (marks : List Mark) (z : ℕ) (m n : Mark) → slice_get marks z ≡ Some m → z < length needs
    → steps_of (length (needs_of needs z)) n < steps_of (length (needs_of needs z)) m → steps_left needs (slice_set marks z n) < steps_left needs marks
steps-written [] marks z m n h inside less = absurd (omega arith)
steps-written (ys ∷ needs) [] z m n h inside less = absurd (none-some m h)
steps-written (ys ∷ needs) (k ∷ marks) zero m n h inside less =
    let e : k ≡ m = some-same k m h in
    let e' : steps_of (length ys) k ≡ steps_of (length ys) m = ap (steps_of (length ys)) e in omega (arith, less, e')
steps-written (ys ∷ needs) (k ∷ marks) (suc z) m n h inside less = omega (arith, steps-written needs marks z m n h (omega arith) less)

-- ---- the last node of the path

pub last-open : (needs : List (List ℕ)) (marks : List Mark) (front path order : List ℕ) (z : ℕ) (m : Mark) → IsSound needs marks path order → path ≡ front ++ z ∷ []
    → slice_get marks z ≡ Some m → (k : ℕ) × (m ≡ Open k)
last-open needs marks front path order z m s e at =
    let o = s.opened z (subst (Member z) (sym e) (member-last z front)) in (o.0, some-same m (Open o.0) (sym at ∙ o.1))

pub last-inside : (needs : List (List ℕ)) (marks : List Mark) (front path order : List ℕ) (z : ℕ) → IsSound needs marks path order → path ≡ front ++ z ∷ [] → z < length marks
last-inside needs marks front path order z s e = let o = s.opened z (subst (Member z) (sym e) (member-last z front)) in get-within marks z (Open o.0) o.1

-- ---- the steps

pub open-goes : (needs : List (List ℕ)) (marks : List Mark) (front path order : List ℕ) (z k y : ℕ) → IsSound needs marks path order → path ≡ front ++ z ∷ []
    → slice_get (needs_of needs z) k ≡ Some y → slice_get marks y ≡ Some New → y < length needs → GoesOn needs marks (slice_set marks y (Open 0)) (path ++ y ∷ []) order
open-goes needs marks front path order z k y s e f new inside = record {
  sound = sound-open needs marks path order y s new (λ x m. leads-last needs marks front order z y x (subst (λ p. IsSound needs marks p order) e s) (member-get y k (needs_of needs z) f) (subst (Member x) e m));
  kept = kept-written marks y (Open 0) (λ w. cc);
  falls = steps-written needs marks y New (Open 0) new inside (omega arith);
}

pub advance-goes : (needs : List (List ℕ)) (marks : List Mark) (path order : List ℕ) (z k y : ℕ) → IsSound needs marks path order → slice_get marks z ≡ Some (Open k)
    → slice_get (needs_of needs z) k ≡ Some y → slice_get marks y ≡ Some Done → GoesOn needs marks (slice_set marks z (Open (k + 1))) path order
advance-goes needs marks path order z k y s at f is_done =
    let e : suc k ≡ k + 1 = omega arith in
    let below : k < length (needs_of needs z) = get-within (needs_of needs z) k y f in
    let go : GoesOn needs marks (slice_set marks z (Open (suc k))) path order = record {
      sound = sound-advance needs marks path order z k y s at f is_done;
      kept = kept-written marks z (Open (suc k)) (λ w. cc);
      falls = steps-written needs marks z (Open k) (Open (suc k)) at (let h = get-within marks z (Open k) at in omega (arith, s.sized)) (omega arith);
    } in
    subst (λ j. GoesOn needs marks (slice_set marks z (Open j)) path order) e go

pub finish-goes : (needs : List (List ℕ)) (marks : List Mark) (front path order : List ℕ) (z k : ℕ) → IsSound needs marks path order → path ≡ front ++ z ∷ []
    → slice_get marks z ≡ Some (Open k) → length (needs_of needs z) ≤ k → GoesOn needs marks (slice_set marks z Done) front (order ++ z ∷ [])
finish-goes needs marks front path order z k s e at all = record {
  sound = sound-finish needs marks front order z k (subst (λ p. IsSound needs marks p order) e s) at all;
  kept = kept-written marks z Done (λ w. cc);
  falls = steps-written needs marks z (Open k) Done at (let h = get-within marks z (Open k) at in omega (arith, s.sized)) (omega arith);
}

-- a need that is open closes a circle
pub open-cycle : (needs : List (List ℕ)) (marks : List Mark) (front path order : List ℕ) (z k y j : ℕ) → IsSound needs marks path order → path ≡ front ++ z ∷ []
    → slice_get (needs_of needs z) k ≡ Some y → slice_get marks y ≡ Some (Open j) → Chain (Needs needs) y y
open-cycle needs marks front path order z k y j s e f at =
    leads-last needs marks front order z y y (subst (λ p. IsSound needs marks p order) e s) (member-get y k (needs_of needs z) f) (subst (Member y) e (s.on_path y j at))

-- ---- a first node

pub record Begun (needs : List (List ℕ)) (old new : List Mark) (path order : List ℕ) (root : ℕ) : Type 0 where
  pub sound : IsSound needs new path order
  pub kept : AreKept old new
  pub begun : slice_get new root ≡ Some New → ⊥

pub root-opens : (needs : List (List ℕ)) (marks : List Mark) (path order : List ℕ) (root : ℕ) → IsSound needs marks path order → path ≡ [] → slice_get marks root ≡ Some New
    → Begun needs marks (slice_set marks root (Open 0)) (path ++ root ∷ []) order root
root-opens needs marks path order root s empty new = record {
  sound = sound-open needs marks path order root s new (λ x m. absurd (subst (Member x) empty m));
  kept = kept-written marks root (Open 0) (λ w. cc);
  begun = λ h. let w = written-same marks root (Open 0) (get-within marks root New new) in let e : Open 0 ≡ New = some-same (Open 0) New (sym w ∙ h) in absurd cc;
}
