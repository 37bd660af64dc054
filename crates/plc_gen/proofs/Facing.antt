-- The declarations of own variables one after another, and the names of new values that are kept.
use Rattle.std.proofs.Common.{◌≡◌, ℕ, zero, suc, ◌+◌, ◌<◌, ◌≤◌, Bool, true, false, ◌||◌, List, [], ◌∷◌, ◌++◌, map, length, take, drop, get_or, nat_eq, Some, slice_get, refl, sym, ap, ap₂, ◌∙◌, arith, if◌then◌else◌}
use Rattle.std.proofs.lemmas.Bool.Decides.{nat_tests}
use Rattle.std.proofs.lemmas.List.{append-nil, append_assoc, drop_all, take_all, take_more}
use Rattle.cif_net_model.specs.Facts.{has}
use Rattle.cif_net_model.specs.Net.{Net}
use Rattle.st_ast.specs.declared.tree.StVar.{StVar}
use Rattle.st_ast.specs.declared.tree.StClass.TheVariants as class
use Rattle.plc_model.specs.declared.letter.Letter.TheVariants as letter
use Rattle.plc_model.specs.Face.{VariableFace, declaration}
use Rattle.plc_model.specs.Names.{name_for}
use Rattle.plc_event_model.specs.Own.{new_face, place_in}
use Rattle.plc_event_model.proofs.Targets.{has-append}
use Rattle.plc_expr_walk.proofs.Joining.{drop-item}
use Rattle.plc_event.specs.Writers.{Keeps}
use Rattle.plc_gen.specs.Outlines.{NamesNew, StandOnce, declared_from}
use Rattle.plc_event.specs.Writers.{new_names_of}
use Rattle.plc_event.specs.declared.writing.NewTexts.{NewTexts}

-- ---- declarations

-- variables that are declared one after another are numbered so
pub declared-both : (j : ℕ) (xs ys : List VariableFace) → declared_from j (xs ++ ys) ≡ declared_from j xs ++ declared_from (j + length xs) ys
declared-both j [] ys = let e : j ≡ j + 0 = omega arith in ap (λ k. declared_from k ys) e
declared-both j (x ∷ xs) ys =
    let e : j + 1 + length xs ≡ j + suc (length xs) = omega arith in
    ap (λ vs. declaration letter.T class.Plain (j, x) ∷ vs) (declared-both (j + 1) xs ys ∙ ap (λ k. declared_from (j + 1) xs ++ declared_from k ys) e)

module _ {A : Type 0} (face : A → VariableFace) (all : List A) (i : ℕ) (x : A) (within : i < length all) (item : x ≡ get_or all i x) where
  -- one more is declared of those that are left
  pub declared-more : (j next : ℕ) (old new : List StVar) → new ≡ old ++ declaration letter.T class.Plain (j, face x) ∷ [] → next ≡ j + 1
      → new ++ declared_from next (map face (drop (i + 1) all)) ≡ old ++ declared_from j (map face (drop i all))
  declared-more j next old new is next_is =
      ap₂ (λ vs k. vs ++ declared_from k (map face (drop (i + 1) all))) is next_is
      ∙ append_assoc old (declaration letter.T class.Plain (j, face x) ∷ []) (declared_from (j + 1) (map face (drop (i + 1) all)))
      ∙ ap (λ (ys : List A). old ++ declared_from j (map face ys)) (sym (drop-item all i x within item))

  pub counted-more : (j next : ℕ) → next ≡ j + 1 → next + length (drop (i + 1) all) ≡ j + length (drop i all)
  counted-more j next next_is = let head = ap (λ (ys : List A). length ys) (drop-item all i x within item) in omega arith

module _ {A : Type 0} (face : A → VariableFace) (all : List A) (i : ℕ) (past : length all ≤ i) where
  pub declared-end : (j : ℕ) (old : List StVar) → old ++ declared_from j (map face (drop i all)) ≡ old
  declared-end j old = ap (λ (ys : List A). old ++ declared_from j (map face ys)) (drop_all i all past) ∙ append-nil old

  pub counted-end : (j : ℕ) → j + length (drop i all) ≡ j
  counted-end j = let end = ap (λ (ys : List A). length ys) (drop_all i all past) in omega arith

-- from four parts
declared-four : (first : ℕ) (ps qs rs us : List VariableFace) (b c d : ℕ) (vb vc vd all : List StVar) → b ≡ first + length ps → c ≡ b + length qs → d ≡ c + length rs
    → vb ≡ [] ++ declared_from first ps → vc ≡ vb ++ declared_from b qs → vd ≡ vc ++ declared_from c rs → all ≡ vd ++ declared_from d us
    → all ≡ declared_from first (ps ++ (qs ++ (rs ++ us)))
declared-four first ps qs rs us b c d vb vc vd all b_is c_is d_is vb_is vc_is vd_is all_is =
    all_is
    ∙ ap (λ vs. vs ++ declared_from d us) (vd_is ∙ ap (λ vs. vs ++ declared_from c rs) (vc_is ∙ ap (λ vs. vs ++ declared_from b qs) vb_is))
    ∙ append_assoc (declared_from first ps ++ declared_from b qs) (declared_from c rs) (declared_from d us)
    ∙ append_assoc (declared_from first ps) (declared_from b qs) (declared_from c rs ++ declared_from d us)
    ∙ ap (λ k. declared_from first ps ++ (declared_from b qs ++ (declared_from c rs ++ declared_from k us))) d_is
    ∙ ap (λ vs. declared_from first ps ++ (declared_from b qs ++ vs)) (sym (declared-both c rs us))
    ∙ ap (λ k. declared_from first ps ++ (declared_from b qs ++ declared_from k (rs ++ us))) c_is
    ∙ ap (λ vs. declared_from first ps ++ vs) (sym (declared-both b qs (rs ++ us)))
    ∙ ap (λ k. declared_from first ps ++ declared_from k (qs ++ (rs ++ us))) b_is
    ∙ sym (declared-both first ps (qs ++ (rs ++ us)))

-- the variables of an event, from their five parts
pub declared-all : (first : ℕ) (ps qs rs ts us : List VariableFace) (b c d e : ℕ) (vb vc vd ve all : List StVar) → b ≡ first + length ps → c ≡ b + length qs → d ≡ c + length rs → e ≡ d + length ts
    → vb ≡ [] ++ declared_from first ps → vc ≡ vb ++ declared_from b qs → vd ≡ vc ++ declared_from c rs → ve ≡ vd ++ declared_from d ts → all ≡ ve ++ declared_from e us
    → all ≡ declared_from first (ps ++ (qs ++ (rs ++ (ts ++ us))))
declared-all first ps qs rs ts us b c d e vb vc vd ve all b_is c_is d_is e_is vb_is vc_is vd_is ve_is all_is =
    declared-four first ps qs rs (ts ++ us) b c d vb vc vd all b_is c_is d_is vb_is vc_is vd_is
    (all_is ∙ ap (λ vs. vs ++ declared_from e us) ve_is ∙ append_assoc vd (declared_from d ts) (declared_from e us)
    ∙ ap (λ k. vd ++ (declared_from d ts ++ declared_from k us)) e_is ∙ ap (λ vs. vd ++ vs) (sym (declared-both d ts us)))

-- ---- names of new values

get-item : (xs : List ℕ) (i x : ℕ) → i < length xs → x ≡ get_or xs i x → slice_get xs i ≡ Some x
get-item [] i x h e = absurd (omega (arith, h))
get-item (y ∷ xs) zero x h e = ap Some (sym e)
get-item (y ∷ xs) (suc i) x h e = get-item xs i x (omega (arith, h)) e

module _ (n : Net) (k : ℕ) (vars : List ℕ) where
  -- the first of the variables have the names of their new values
  abbrev pub FirstNamed : ℕ → NewTexts → Type 0
  FirstNamed i x = (v : ℕ) → has (take i vars) v ≡ true → (new_names_of x).next v ≡ name_for letter.T (k + place_in vars v) (new_face n v).path

  pub none-named : (x : NewTexts) → FirstNamed 0 x
  none-named x v h = absurd cc

  pub one-named : (i u next : ℕ) (old new : NewTexts) → i < length vars → u ≡ get_or vars i u → StandOnce vars → FirstNamed i old → next ≡ k + i
      → Keeps old new u (name_for letter.T next (new_face n u).path) → FirstNamed (i + 1) new
  one-named i u next old new within item apart so next_is keeps v h = go (nat_eq v u) refl
    where
      or-first : (a : Bool) → (a || (false || false)) ≡ true → a ≡ true
      or-first true e = refl
      or-first false e = absurd cc

      taken : has (take (i + 1) vars) v ≡ (has (take i vars) v || (nat_eq v u || false))
      taken = ap (λ ys. has ys v) (take_more vars i u within ∙ ap (λ y. take i vars ++ y ∷ []) (sym item)) ∙ has-append (take i vars) (u ∷ []) v

      go : (b : Bool) → nat_eq v u ≡ b → (new_names_of new).next v ≡ name_for letter.T (k + place_in vars v) (new_face n v).path
      go true is =
          let same : u ≡ v = grind (arith, nat_tests) in
          keeps.next v ∙ ap (λ t. if t then name_for letter.T next (new_face n u).path else (new_names_of old).next v) is
          ∙ ap (λ j. name_for letter.T j (new_face n u).path) (next_is ∙ ap (λ p. k + p) (sym (apart i u (get-item vars i u within item))))
          ∙ ap (λ a. name_for letter.T (k + place_in vars a) (new_face n a).path) same
      go false is =
          keeps.next v ∙ ap (λ t. if t then name_for letter.T next (new_face n u).path else (new_names_of old).next v) is
          ∙ so v (or-first (has (take i vars) v) (ap (λ b. has (take i vars) v || (b || false)) (sym is) ∙ sym taken ∙ h))

  pub all-named : (i : ℕ) (x : NewTexts) → length vars ≤ i → FirstNamed i x → NamesNew n k vars x
  all-named i x past so v h = so v (ap (λ ys. has ys v) (take_all i vars past) ∙ h)
