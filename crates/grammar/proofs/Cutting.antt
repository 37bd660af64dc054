-- Cutting gives the pieces of a text, each the longest at its place, and no others.
use Rattle.std.proofs.Common.{◌≡◌, ◌==◌, nat_le, ℕ, zero, suc, ◌+◌, ◌≤◌, Bool, true, false, cond, ◌&&◌, ◌||◌, List, [], ◌∷◌, ◌++◌, length, Option, Some, None, refl, sym, ap, subst, ◌∙◌, arith, inl, inr, eqb-true, eq-eqb, leb-true}
use Rattle.std.proofs.lemmas.Bool.{or_left, or_right}
use Rattle.std.proofs.lemmas.List.{length-append}
use Rattle.grammar.specs.Pieces.{Text, Kinds, ◌∣◌, IsLongest, Pieces, Cut, Cutter, with_piece, then_cut, cut_from, cut_all, head_is, either_cut, run_of, AllAre, run, run_cut, after_byte, one_text, with_byte, after_cut, strip, or_else, text_cut, none_longer, falling, heads_are, IsClosed, closed, close_at, longer_by, closed_of, closed_cut}
use Rattle.grammar.proofs.Texts.{and_left, and_right}
use Rattle.grammar.proofs.Plain.{if_some}

pub record Cuts {P : Type 0} (f : ℕ → Bool) (r : Kinds P) (c : Cutter P) : Type 0 where
  pub begins : (p : P) (x : Text) → r p x → (b : ℕ) × (t : Text) × (x ≡ b ∷ t) × (f b ≡ true)
  pub same : (p q : P) (x : Text) → r p x → r q x → p ≡ q
  pub found : (text : Text) (k : Cut P) → c text ≡ Some k → r k.piece k.bytes × IsLongest r k.bytes text × (text ≡ k.bytes ++ k.rest)
  pub none : (text : Text) → c text ≡ None → (q : P) (y z : Text) → r q y → text ≡ y ++ z → ⊥

-- ---- the pieces of a text

pub split_same : (x y r s : Text) → x ++ r ≡ y ++ s → length x ≡ length y → (x ≡ y) × (r ≡ s)
split_same [] [] r s e l = (refl, e)
split_same [] (b ∷ y) r s e l = absurd (omega arith)
split_same (a ∷ x) [] r s e l = absurd (omega arith)
split_same (a ∷ x) (b ∷ y) r s e l =
    let heads : a ≡ b = cc in
    let tails : x ++ r ≡ y ++ s = cc in
    let lengths : length x ≡ length y = omega arith in
    let m = split_same x y r s tails lengths in
    let front : x ≡ y = m.0 in
    (cc, m.1)

cut_pieces : {P : Type 0} {f : ℕ → Bool} {r : Kinds P} {c : Cutter P} → Cuts f r c → (n : ℕ) (text : Text) (ps : List P) → cut_from c n text ≡ Some ps → Pieces r ps text
unfolding cut_from
cut_pieces {r = r} h n [] ps e = let none : [] ≡ ps = cc in subst (λ u. Pieces r u []) none refl
cut_pieces h zero (b ∷ text) ps e = absurd cc
cut_pieces {P = P} {r = r} {c = c} h (suc n) (b ∷ text) ps e = go (c (b ∷ text)) refl e (λ rest more g. cut_pieces h n rest more g)
  where
    go : (o : Option (Cut P)) → c (b ∷ text) ≡ o → then_cut (cut_from c n) o ≡ Some ps → ((rest : Text) (more : List P) → cut_from c n rest ≡ Some more → Pieces r more rest) → Pieces r ps (b ∷ text)
    go None is g ih = absurd cc
    go (Some k) is g ih = last (cut_from c n k.rest) refl g
      where
        last : (o : Option (List P)) → cut_from c n k.rest ≡ o → with_piece k.piece o ≡ Some ps → Pieces r ps (b ∷ text)
        last None was g = absurd cc
        last (Some more) was g =
            let m = h.found (b ∷ text) k is in
            let value : k.piece ∷ more ≡ ps = cc in
            subst (λ u. Pieces r u (b ∷ text)) value (k.bytes, k.rest, m.0, m.1, m.2, ih k.rest more was)

pieces_cut : {P : Type 0} {f : ℕ → Bool} {r : Kinds P} {c : Cutter P} → Cuts f r c → (n : ℕ) (text : Text) (ps : List P) → length text ≤ n → Pieces r ps text → cut_from c n text ≡ Some ps
unfolding cut_from
pieces_cut h n [] [] l d = refl
pieces_cut h n (b ∷ text) [] l d = absurd cc
pieces_cut h n [] (p ∷ ps) l d = absurd (let s = h.begins p d.0 d.2 in let e : [] ≡ d.0 ++ d.1 = d.4 in let g : d.0 ≡ s.0 ∷ s.1 = s.2 in let w : [] ≡ (s.0 ∷ s.1) ++ d.1 = e ∙ ap (λ u. u ++ d.1) g in cc)
pieces_cut h zero (b ∷ text) (p ∷ ps) l d = absurd (omega arith)
pieces_cut {P = P} {r = r} {c = c} h (suc n) (b ∷ text) (p ∷ ps) l d = go (c (b ∷ text)) refl (λ rest less more. pieces_cut h n rest ps less more)
  where
    go : (o : Option (Cut P)) → c (b ∷ text) ≡ o → ((rest : Text) → length rest ≤ n → Pieces r ps rest → cut_from c n rest ≡ Some ps) → then_cut (cut_from c n) (c (b ∷ text)) ≡ Some (p ∷ ps)
    go None is ih = absurd (h.none (b ∷ text) is p d.0 d.1 d.2 d.4)
    go (Some k) is ih =
        let m = h.found (b ∷ text) k is in
        let upper = m.1 p d.0 d.1 d.2 d.4 in
        let lower = d.3 k.piece k.bytes k.rest m.0 m.2 in
        let parts = split_same d.0 k.bytes d.1 k.rest (sym d.4 ∙ m.2) (omega arith) in
        let piece = h.same k.piece p k.bytes m.0 (subst (λ u. r p u) parts.0 d.2) in
        let more : Pieces r ps k.rest = subst (λ u. Pieces r ps u) parts.1 d.5 in
        let s = h.begins k.piece k.bytes m.0 in
        let len : length (b ∷ text) ≡ length k.bytes + length k.rest = ap (λ (u : Text). length u) m.2 ∙ length-append k.bytes k.rest in
        let first : length k.bytes ≡ length (s.0 ∷ s.1) = ap (λ (u : Text). length u) s.2 in
        let rest = ih k.rest (omega arith) more in
        rw (is, rest) (ap (λ q. Some (q ∷ ps)) piece)

-- One list of pieces, and it is found.
pub cut_iff : {P : Type 0} {f : ℕ → Bool} {r : Kinds P} {c : Cutter P} → Cuts f r c → (text : Text) (ps : List P) → (cut_all c text ≡ Some ps → Pieces r ps text) × (Pieces r ps text → cut_all c text ≡ Some ps)
unfolding cut_all
cut_iff h text ps = (cut_pieces h (length text) text ps, pieces_cut h (length text) text ps (omega arith))

-- ---- choices

head_of : (f : ℕ → Bool) (text y z : Text) (b : ℕ) (t : Text) → text ≡ y ++ z → y ≡ b ∷ t → head_is f text ≡ f b
head_of f text y z b t e g = ap (head_is f) (e ∙ ap (λ u. u ++ z) g)

pub either_cuts : {P : Type 0} {f g : ℕ → Bool} {r s : Kinds P} {c d : Cutter P} → Cuts f r c → ((b : ℕ) → f b ≡ true → g b ≡ true → ⊥) → Cuts g s d
    → Cuts (λ b. f b || g b) (r ∣ s) (either_cut f c d)
either_cuts {P = P} {f = f} {g = g} {r = r} {s = s} {c = c} {d = d} h apart k = record {
  begins = begins_either;
  same = same_either;
  found = λ text w e. elim (if_some (head_is f text) (c text) (d text) (Some w) e) [
    | inl u ↦ let m = h.found text w u.1 in (inl m.0, longest_left text w u.0 m.1, m.2)
    | inr u ↦ let m = k.found text w u.1 in (inr m.0, longest_right text w u.0 m.1, m.2)
  ];
  none = λ text e. elim (if_some (head_is f text) (c text) (d text) None e) [
    | inl u ↦ none_left text u.0 u.1
    | inr u ↦ none_right text u.0 u.1
  ];
}
  where
    begins_either : (p : P) (x : Text) → (r ∣ s) p x → (b : ℕ) × (t : Text) × (x ≡ b ∷ t) × ((f b || g b) ≡ true)
    begins_either p x (inl w) = let m = h.begins p x w in (m.0, m.1, m.2, or_left (f m.0) (g m.0) m.3)
    begins_either p x (inr w) = let m = k.begins p x w in (m.0, m.1, m.2, or_right (f m.0) (g m.0) m.3)

    not_both : (p q : P) (x : Text) → r p x → s q x → ⊥
    not_both p q x w u = let m = h.begins p x w in let n = k.begins q x u in
        let heads : m.0 ∷ m.1 ≡ n.0 ∷ n.1 = sym m.2 ∙ n.2 in
        let same_head : m.0 ≡ n.0 = cc in apart m.0 m.3 (ap g same_head ∙ n.3)

    same_either : (p q : P) (x : Text) → (r ∣ s) p x → (r ∣ s) q x → p ≡ q
    same_either p q x (inl w) (inl u) = h.same p q x w u
    same_either p q x (inl w) (inr u) = absurd (not_both p q x w u)
    same_either p q x (inr w) (inl u) = absurd (not_both q p x u w)
    same_either p q x (inr w) (inr u) = k.same p q x w u

    right_head : (text : Text) (q : P) (y z : Text) → s q y → text ≡ y ++ z → head_is f text ≡ true → ⊥
    right_head text q y z w e t = let m = k.begins q y w in apart m.0 (sym (head_of f text y z m.0 m.1 e m.2) ∙ t) m.3

    left_head : (text : Text) (q : P) (y z : Text) → r q y → text ≡ y ++ z → head_is f text ≡ false → ⊥
    left_head text q y z w e t = let m = h.begins q y w in let a : f m.0 ≡ false = sym (head_of f text y z m.0 m.1 e m.2) ∙ t in let b : f m.0 ≡ true = m.3 in cc

    longest_left : (text : Text) (w : Cut P) → head_is f text ≡ true → IsLongest r w.bytes text → IsLongest (r ∣ s) w.bytes text
    longest_left text w t m q y z (inl u) e = m q y z u e
    longest_left text w t m q y z (inr u) e = absurd (right_head text q y z u e t)

    longest_right : (text : Text) (w : Cut P) → head_is f text ≡ false → IsLongest s w.bytes text → IsLongest (r ∣ s) w.bytes text
    longest_right text w t m q y z (inl u) e = absurd (left_head text q y z u e t)
    longest_right text w t m q y z (inr u) e = m q y z u e

    none_left : (text : Text) → head_is f text ≡ true → c text ≡ None → (q : P) (y z : Text) → (r ∣ s) q y → text ≡ y ++ z → ⊥
    none_left text t n q y z (inl u) e = h.none text n q y z u e
    none_left text t n q y z (inr u) e = right_head text q y z u e t

    none_right : (text : Text) → head_is f text ≡ false → d text ≡ None → (q : P) (y z : Text) → (r ∣ s) q y → text ≡ y ++ z → ⊥
    none_right text t n q y z (inl u) e = left_head text q y z u e t
    none_right text t n q y z (inr u) e = k.none text n q y z u e

-- ---- runs

run_all : (g : ℕ → Bool) (text : Text) → AllAre g (run_of g text).0 × (text ≡ (run_of g text).0 ++ (run_of g text).1)
run_all g [] = (tt, refl)
run_all g (b ∷ text) = go (g b) refl (run_all g text)
  where
    go : (a : Bool) → g b ≡ a → AllAre g (run_of g text).0 × (text ≡ (run_of g text).0 ++ (run_of g text).1) → AllAre g (run_of g (b ∷ text)).0 × (b ∷ text ≡ (run_of g (b ∷ text)).0 ++ (run_of g (b ∷ text)).1)
    go true is ih = rw is ((is, ih.0), ap (λ u. b ∷ u) ih.1)
    go false is ih = rw is (tt, refl)

run_longest : (g : ℕ → Bool) (t text z : Text) → AllAre g t → text ≡ t ++ z → length t ≤ length (run_of g text).0
run_longest g [] text z d e = omega arith
run_longest g (b ∷ t) [] z d e = absurd cc
run_longest g (b ∷ t) (a ∷ text) z d e =
    let head : a ≡ b = cc in
    let tail : text ≡ t ++ z = cc in
    let is : g a ≡ true = ap g head ∙ d.0 in
    let ih = run_longest g t text z d.1 tail in
    rw is (omega (arith, ih))

pub run_cuts : {P : Type 0} (f g : ℕ → Bool) (make : Text → P) → Cuts f (run f g make) (run_cut f g make)
run_cuts {P = P} f g make = record {
  begins = λ p x d. (d.0, d.1, d.4, d.2);
  same = λ p q x d e. d.5 ∙ ap make (sym d.4 ∙ e.4) ∙ sym e.5;
  found = run_found;
  none = run_none;
}
  where
    run_found : (text : Text) (k : Cut P) → run_cut f g make text ≡ Some k → run f g make k.piece k.bytes × IsLongest (run f g make) k.bytes text × (text ≡ k.bytes ++ k.rest)
    run_found [] k e = absurd cc
    run_found (b ∷ text) k e = elim (if_some (f b) (Some (record { piece = make (b ∷ (run_of g text).0); bytes = b ∷ (run_of g text).0; rest = (run_of g text).1 })) None (Some k) e) [
      | inl u ↦
          let same : record { piece = make (b ∷ (run_of g text).0); bytes = b ∷ (run_of g text).0; rest = (run_of g text).1 } ≡ k = cc in
          let all = run_all g text in
          subst (λ (c : Cut P). run f g make c.piece c.bytes × IsLongest (run f g make) c.bytes (b ∷ text) × (b ∷ text ≡ c.bytes ++ c.rest)) same
          ((b, (run_of g text).0, u.0, all.0, refl, refl), longest, ap (λ v. b ∷ v) all.1)
      | inr u ↦ absurd (let w = u.1 in cc)
    ]
      where
        longest : IsLongest (run f g make) (b ∷ (run_of g text).0) (b ∷ text)
        longest q y z d w =
            let whole : b ∷ text ≡ (d.0 ∷ d.1) ++ z = w ∙ ap (λ v. v ++ z) d.4 in
            let tail : text ≡ d.1 ++ z = cc in
            let ih = run_longest g d.1 text z d.3 tail in
            let len : length y ≡ length (d.0 ∷ d.1) = ap (λ (v : Text). length v) d.4 in
            omega arith

    run_none : (text : Text) → run_cut f g make text ≡ None → (q : P) (y z : Text) → run f g make q y → text ≡ y ++ z → ⊥
    run_none [] e q y z d w = let whole : [] ≡ (d.0 ∷ d.1) ++ z = w ∙ ap (λ v. v ++ z) d.4 in cc
    run_none (b ∷ text) e q y z d w =
        let whole : b ∷ text ≡ (d.0 ∷ d.1) ++ z = w ∙ ap (λ v. v ++ z) d.4 in
        let head : b ≡ d.0 = cc in
        let is : f b ≡ true = ap f head ∙ d.2 in
        let no : cond (f b) (Some _) None ≡ None = e in
        elim (if_some (f b) (Some (record { piece = make (b ∷ (run_of g text).0); bytes = b ∷ (run_of g text).0; rest = (run_of g text).1 })) None None e) [ inl u ↦ let v = u.1 in cc | inr u ↦ let v = u.0 in cc ]

-- ---- a byte, and then a piece

pub after_cuts : {P : Type 0} {f : ℕ → Bool} {r : Kinds P} {c : Cutter P} (b : ℕ) → Cuts f r c → Cuts (λ a. a == b) (after_byte b r) (after_cut b c)
after_cuts {P = P} {f = f} {r = r} {c = c} b h = record {
  begins = λ p x d. (b, d.0, d.2, search (eq-eqb));
  same = λ p q x d e. let tails : b ∷ d.0 ≡ b ∷ e.0 = sym d.2 ∙ e.2 in let tail : d.0 ≡ e.0 = cc in h.same p q e.0 (subst (λ u. r p u) tail d.1) e.1;
  found = after_found;
  none = after_none;
}
  where
    after_found : (text : Text) (k : Cut P) → after_cut b c text ≡ Some k → after_byte b r k.piece k.bytes × IsLongest (after_byte b r) k.bytes text × (text ≡ k.bytes ++ k.rest)
    after_found [] k e = absurd cc
    after_found (a ∷ text) k e = elim (if_some (a == b) (with_byte a (c text)) None (Some k) e) [
      | inl u ↦ go (c text) refl u.1 (let same : a ≡ b = search (eqb-true, u.0) in same)
      | inr u ↦ absurd (let w = u.1 in cc)
    ]
      where
        go : (o : Option (Cut P)) → c text ≡ o → with_byte a o ≡ Some k → a ≡ b → after_byte b r k.piece k.bytes × IsLongest (after_byte b r) k.bytes (a ∷ text) × (a ∷ text ≡ k.bytes ++ k.rest)
        go None is w same = absurd cc
        go (Some m) is w same =
            let law = h.found text m is in
            let value : record { piece = m.piece; bytes = a ∷ m.bytes; rest = m.rest } ≡ k = cc in
            subst (λ (n : Cut P). after_byte b r n.piece n.bytes × IsLongest (after_byte b r) n.bytes (a ∷ text) × (a ∷ text ≡ n.bytes ++ n.rest)) value (
              (m.bytes, law.0, ap (λ v. v ∷ m.bytes) same),
              (λ q y z d g. let whole : a ∷ text ≡ (b ∷ d.0) ++ z = g ∙ ap (λ v. v ++ z) d.2 in let tail : text ≡ d.0 ++ z = cc in let ih = law.1 q d.0 z d.1 tail in
                  let len : length y ≡ length (b ∷ d.0) = ap (λ (v : Text). length v) d.2 in omega arith),
              ap (λ v. a ∷ v) law.2,
            )

    after_none : (text : Text) → after_cut b c text ≡ None → (q : P) (y z : Text) → after_byte b r q y → text ≡ y ++ z → ⊥
    after_none [] e q y z d g = let whole : [] ≡ (b ∷ d.0) ++ z = g ∙ ap (λ v. v ++ z) d.2 in cc
    after_none (a ∷ text) e q y z d g =
        let whole : a ∷ text ≡ (b ∷ d.0) ++ z = g ∙ ap (λ v. v ++ z) d.2 in
        let head : a ≡ b = cc in
        let tail : text ≡ d.0 ++ z = cc in
        let is : (a == b) ≡ true = search (eq-eqb, head) in
        elim (if_some (a == b) (with_byte a (c text)) None None e) [
          | inl u ↦ go (c text) refl u.1 tail
          | inr u ↦ let w = u.0 in cc
        ]
      where
        go : (o : Option (Cut P)) → c text ≡ o → with_byte a o ≡ None → text ≡ d.0 ++ z → ⊥
        go None is w t = h.none text is q d.0 z d.1 t
        go (Some m) is w t = cc

-- ---- one of some texts, the longer ones first

strip_some : (s text rest : Text) → strip s text ≡ Some rest → text ≡ s ++ rest
strip_some [] text rest e = cc
strip_some (a ∷ s) [] rest e = absurd cc
strip_some (a ∷ s) (b ∷ text) rest e = elim (if_some (a == b) (strip s text) None (Some rest) e) [
  | inl u ↦ let same : a ≡ b = search (eqb-true, u.0) in let ih = strip_some s text rest u.1 in cc
  | inr u ↦ absurd (let w = u.1 in cc)
]

strip_none : (s text rest : Text) → strip s text ≡ None → text ≡ s ++ rest → ⊥
strip_none [] text rest e g = cc
strip_none (a ∷ s) [] rest e g = cc
strip_none (a ∷ s) (b ∷ text) rest e g =
    let head : a ≡ b = cc in
    let tail : text ≡ s ++ rest = cc in
    let is : (a == b) ≡ true = search (eq-eqb, head) in
    elim (if_some (a == b) (strip s text) None None e) [ inl u ↦ strip_none s text rest u.1 tail | inr u ↦ let w = u.0 in cc ]

text_begins : {P : Type 0} (f : ℕ → Bool) (ss : List Text) (make : Text → P) → heads_are f ss ≡ true → (p : P) (x : Text) → one_text ss make p x → (b : ℕ) × (t : Text) × (x ≡ b ∷ t) × (f b ≡ true)
text_begins f [] make e p x d = absurd d
text_begins f ([] ∷ ss) make e p x d = absurd cc
text_begins f ((b ∷ s) ∷ ss) make e p x (inl d) = (b, s, d.0, and_left (f b) (heads_are f ss) e)
text_begins f ((b ∷ s) ∷ ss) make e p x (inr d) = text_begins f ss make (and_right (f b) (heads_are f ss) e) p x d

pub text_made : {P : Type 0} (ss : List Text) (make : Text → P) (p : P) (x : Text) → one_text ss make p x → p ≡ make x
text_made [] make p x d = absurd d
text_made (s ∷ ss) make p x (inl d) = d.1 ∙ ap make (sym d.0)
text_made (s ∷ ss) make p x (inr d) = text_made ss make p x d

text_short : {P : Type 0} (n : ℕ) (ss : List Text) (make : Text → P) → none_longer n ss ≡ true → (p : P) (x : Text) → one_text ss make p x → length x ≤ n
text_short n [] make e p x d = absurd d
text_short n (s ∷ ss) make e p x (inl d) = let small : length s ≤ n = leb-true (length s) n (and_left (nat_le (length s) n) (none_longer n ss) e) in let len = ap (λ (v : Text). length v) d.0 in omega arith
text_short n (s ∷ ss) make e p x (inr d) = text_short n ss make (and_right (nat_le (length s) n) (none_longer n ss) e) p x d

text_found : {P : Type 0} (ss : List Text) (make : Text → P) → falling ss ≡ true → (text : Text) (k : Cut P) → text_cut ss make text ≡ Some k
    → one_text ss make k.piece k.bytes × IsLongest (one_text ss make) k.bytes text × (text ≡ k.bytes ++ k.rest)
text_found [] make e text k g = absurd cc
text_found {P = P} (s ∷ ss) make e text k g = go (strip s text) refl g (λ w. text_found ss make (and_right (none_longer (length s) ss) (falling ss) e) text k w)
  where
    go : (o : Option Text) → strip s text ≡ o → or_else (make s) s o (text_cut ss make text) ≡ Some k
        → (text_cut ss make text ≡ Some k → one_text ss make k.piece k.bytes × IsLongest (one_text ss make) k.bytes text × (text ≡ k.bytes ++ k.rest))
        → one_text (s ∷ ss) make k.piece k.bytes × IsLongest (one_text (s ∷ ss) make) k.bytes text × (text ≡ k.bytes ++ k.rest)
    go None is w ih = let m = ih w in (inr m.0, longest, m.2)
      where
        longest : IsLongest (one_text (s ∷ ss) make) k.bytes text
        longest q y z (inl d) t = absurd (strip_none s text z is (t ∙ ap (λ v. v ++ z) d.0))
        longest q y z (inr d) t = (ih w).1 q y z d t
    go (Some rest) is w ih =
        let value : record { piece = make s; bytes = s; rest = rest } ≡ k = cc in
        subst (λ (n : Cut P). one_text (s ∷ ss) make n.piece n.bytes × IsLongest (one_text (s ∷ ss) make) n.bytes text × (text ≡ n.bytes ++ n.rest)) value (inl (refl, refl), longest, strip_some s text rest is)
      where
        longest : IsLongest (one_text (s ∷ ss) make) s text
        longest q y z (inl d) t = let len = ap (λ (v : Text). length v) d.0 in omega arith
        longest q y z (inr d) t = text_short (length s) ss make (and_left (none_longer (length s) ss) (falling ss) e) q y d

text_none_step : {P : Type 0} (s : Text) (ss : List Text) (make : Text → P) (text : Text) (o : Option Text) → strip s text ≡ o → or_else (make s) s o (text_cut ss make text) ≡ None
    → (q : P) (y z : Text) → (text_cut ss make text ≡ None → one_text ss make q y → ⊥) → one_text (s ∷ ss) make q y → text ≡ y ++ z → ⊥
text_none_step s ss make text None is w q y z ih (inl d) g = strip_none s text z is (g ∙ ap (λ v. v ++ z) d.0)
text_none_step s ss make text None is w q y z ih (inr d) g = ih w d
text_none_step s ss make text (Some rest) is w q y z ih d g = cc

text_none : {P : Type 0} (ss : List Text) (make : Text → P) (text : Text) → text_cut ss make text ≡ None → (q : P) (y z : Text) → one_text ss make q y → text ≡ y ++ z → ⊥
text_none [] make text e q y z d g = d
text_none (s ∷ ss) make text e q y z d g = text_none_step s ss make text (strip s text) refl e q y z (λ w u. text_none ss make text w q y z u g) d g

pub text_cuts : {P : Type 0} (f : ℕ → Bool) (ss : List Text) (make : Text → P) → heads_are f ss ≡ true → falling ss ≡ true → Cuts f (one_text ss make) (text_cut ss make)
text_cuts f ss make e g = record {
  begins = text_begins f ss make e;
  same = λ p q x d w. text_made ss make p x d ∙ sym (text_made ss make q x w);
  found = text_found ss make g;
  none = text_none ss make;
}

-- ---- up to a first pair of bytes

longer_closed : (a b c d : ℕ) (x : Text) (text rest : Text) → (c == a && d == b) ≡ false → IsClosed a b x → d ∷ text ≡ x ++ rest → IsClosed a b (c ∷ x)
longer_closed a b c d [] text rest n w e = absurd w
longer_closed a b c d (f ∷ x) text rest n w e = let head : d ≡ f = cc in inr (ap (λ g. c == a && g == b) (sym head) ∙ n, w)

closed_step : (a b c d : ℕ) (text : Text) (p : Text × Text) → (c == a && d == b) ≡ false → (o : Option (Text × Text)) → close_at a b (d ∷ text) ≡ o → longer_by c o ≡ Some p
    → ((q : Text × Text) → close_at a b (d ∷ text) ≡ Some q → IsClosed a b q.0 × (d ∷ text ≡ q.0 ++ q.1)) → IsClosed a b p.0 × (c ∷ d ∷ text ≡ p.0 ++ p.1)
closed_step a b c d text p n None is e ih = absurd cc
closed_step a b c d text p n (Some q) is e ih =
    let m = ih q is in
    let same : (c ∷ q.0, q.1) ≡ p = cc in
    subst (λ (r : Text × Text). IsClosed a b r.0 × (c ∷ d ∷ text ≡ r.0 ++ r.1)) same (longer_closed a b c d q.0 text q.1 n m.0 m.1, ap (λ v. c ∷ v) m.1)

-- what is closed is found, whatever follows
closes : (a b : ℕ) (y z : Text) → IsClosed a b y → close_at a b (y ++ z) ≡ Some (y, z)
closes a b [] z w = absurd w
closes a b (c ∷ []) z w = absurd w
closes a b (c ∷ d ∷ y) z (inl w) = rw (w.1, w.0) refl
closes a b (c ∷ d ∷ y) z (inr w) = rw (w.0, closes a b (d ∷ y) z w.1) refl

closed_some : (a b : ℕ) (text : Text) (p : Text × Text) → close_at a b text ≡ Some p → IsClosed a b p.0 × (text ≡ p.0 ++ p.1)
closed_some a b [] p e = absurd cc
closed_some a b (c ∷ []) p e = absurd cc
closed_some a b (c ∷ d ∷ text) p e = elim (if_some (c == a && d == b) (Some (c ∷ d ∷ [], text)) (longer_by c (close_at a b (d ∷ text))) (Some p) e) [
  | inl u ↦ let same : (c ∷ d ∷ [], text) ≡ p = cc in subst (λ (q : Text × Text). IsClosed a b q.0 × (c ∷ d ∷ text ≡ q.0 ++ q.1)) same (inl (u.0, refl), refl)
  | inr u ↦ closed_step a b c d text p u.0 (close_at a b (d ∷ text)) refl u.1 (closed_some a b (d ∷ text))
]

pub closed_cuts : {P : Type 0} (opener a b : ℕ) (piece : P) → Cuts (λ c. c == opener) (closed opener a b piece) (closed_cut opener a b piece)
closed_cuts {P = P} opener a b piece = record {
  begins = λ p x d. (opener, d.0, d.2, search (eq-eqb));
  same = λ p q x d e. d.3 ∙ sym e.3;
  found = closed_found;
  none = closed_none;
}
  where
    front : (c : ℕ) (text y t z : Text) → y ≡ opener ∷ t → c ∷ text ≡ y ++ z → (c ≡ opener) × (text ≡ t ++ z)
    front c text y t z e g = let whole : c ∷ text ≡ (opener ∷ t) ++ z = g ∙ ap (λ v. v ++ z) e in (cc, cc)

    closed_found : (text : Text) (k : Cut P) → closed_cut opener a b piece text ≡ Some k → closed opener a b piece k.piece k.bytes × IsLongest (closed opener a b piece) k.bytes text × (text ≡ k.bytes ++ k.rest)
    closed_found [] k e = absurd cc
    closed_found (c ∷ text) k e = elim (if_some (c == opener) (closed_of opener piece (close_at a b text)) None (Some k) e) [
      | inl u ↦ go (close_at a b text) refl u.1 (let same : c ≡ opener = search (eqb-true, u.0) in same)
      | inr u ↦ absurd (let w = u.1 in cc)
    ]
      where
        go : (o : Option (Text × Text)) → close_at a b text ≡ o → closed_of opener piece o ≡ Some k → c ≡ opener
            → closed opener a b piece k.piece k.bytes × IsLongest (closed opener a b piece) k.bytes (c ∷ text) × (c ∷ text ≡ k.bytes ++ k.rest)
        go None is w same = absurd cc
        go (Some q) is w same =
            let m = closed_some a b text q is in
            let value : record { piece = piece; bytes = opener ∷ q.0; rest = q.1 } ≡ k = cc in
            subst (λ (n : Cut P). closed opener a b piece n.piece n.bytes × IsLongest (closed opener a b piece) n.bytes (c ∷ text) × (c ∷ text ≡ n.bytes ++ n.rest)) value
            ((q.0, m.0, refl, refl), longest, ap (λ v. v ∷ text) same ∙ ap (λ v. opener ∷ v) m.1)
          where
            longest : IsLongest (closed opener a b piece) (opener ∷ q.0) (c ∷ text)
            longest r y z d g =
                let f = front c text y d.0 z d.2 g in
                let other : Some (d.0, z) ≡ Some q = sym (closes a b d.0 z d.1) ∙ ap (close_at a b) (sym f.1) ∙ is in
                let pair : (d.0, z) ≡ q = cc in
                let same_text : d.0 ≡ q.0 = ap (λ (v : Text × Text). v.0) pair in
                let len : length y ≡ length (opener ∷ d.0) = ap (λ (v : Text). length v) d.2 in
                let len_2 : length d.0 ≡ length q.0 = ap (λ (v : Text). length v) same_text in
                omega arith

    closed_none : (text : Text) → closed_cut opener a b piece text ≡ None → (q : P) (y z : Text) → closed opener a b piece q y → text ≡ y ++ z → ⊥
    closed_none [] e q y z d g = let whole : [] ≡ (opener ∷ d.0) ++ z = g ∙ ap (λ v. v ++ z) d.2 in cc
    closed_none (c ∷ text) e q y z d g =
        let f = front c text y d.0 z d.2 g in
        let is : (c == opener) ≡ true = search (eq-eqb, f.0) in
        let reads : close_at a b text ≡ Some (d.0, z) = ap (close_at a b) f.1 ∙ closes a b d.0 z d.1 in
        elim (if_some (c == opener) (closed_of opener piece (close_at a b text)) None None e) [
          | inl u ↦ let w : closed_of opener piece (close_at a b text) ≡ None = u.1 in let v = ap (closed_of opener piece) reads in cc
          | inr u ↦ let w = u.0 in cc
        ]
