-- What a list of cases comes to is one thing.
use Rattle.std.proofs.Common.{◌≡◌, ℕ, suc, List, [], ◌∷◌, ◌++◌, length, refl, sym, ap, subst, ◌∙◌}
use Rattle.grammar.specs.Pieces.{Text}
use Rattle.st_ast.specs.Tree.{Program}
use Rattle.st_ast.specs.Exec.{Outcome}
use Rattle.st_ast.specs.Scan.{start_memory}
use Rattle.plc_tables.specs.Scans.{AllEnd, ComesTo}
use Rattle.plc_tables.proofs.EndingLaws.{comes_once, ended_stops_none}
use Rattle.cif_batch.specs.CaseTexts.{AllCasesEnd, AreCaseTexts, Case, FirstStopped}

module _ (p : Program) where
  pub one_texts : (cases : List Case) (a b : List Text) → AreCaseTexts p cases a → AreCaseTexts p cases b → a ≡ b
  one_texts cases a b h k = h.texts_are ∙ sym k.texts_are

  -- a case behind others of a list that ends, ends
  ends_behind : (before : List Case) (c : Case) (after : List Case) → AllCasesEnd p (before ++ c ∷ after) → AllEnd p c
  ends_behind [] c after h = h.0
  ends_behind (x ∷ before) c after h = ends_behind before c after h.1

  pub not_both : (cases : List Case) → AllCasesEnd p cases → (n r : ℕ) (o : Outcome) → FirstStopped p cases n r o → ⊥
  not_both cases all n r o f =
      ended_stops_none p (start_memory p) f.case r o (ends_behind f.before f.case f.after (subst (AllCasesEnd p) f.split all)) f.comes f.stops

  -- two divisions of a list at cases that stop, after cases that end, are one
  one_place : (a b : List Case) (c d : Case) (x y : List Case) → a ++ c ∷ x ≡ b ++ d ∷ y → AllCasesEnd p a → AllCasesEnd p b → (AllEnd p c → ⊥) → (AllEnd p d → ⊥)
      → (length a ≡ length b) × (c ≡ d)
  one_place [] [] c d x y e h k f g = (refl, cc)
  one_place [] (z ∷ b) c d x y e h k f g = absurd (f (let same : z ≡ c = cc in subst (AllEnd p) same k.0))
  one_place (z ∷ a) [] c d x y e h k f g = absurd (g (let same : z ≡ d = cc in subst (AllEnd p) same h.0))
  one_place (z ∷ a) (w ∷ b) c d x y e h k f g =
      let tail : a ++ c ∷ x ≡ b ++ d ∷ y = cc in
      let rest = one_place a b c d x y tail h.1 k.1 f g in
      (ap suc rest.0, rest.1)

  pub one_stop : (cases : List Case) (n m r s : ℕ) (o q : Outcome) → FirstStopped p cases n r o → FirstStopped p cases m s q → (n ≡ m) × (r ≡ s) × (o ≡ q)
  one_stop cases n m r s o q f g =
      let place = one_place f.before g.before f.case g.case f.after g.after (sym f.split ∙ g.split) f.ended g.ended
      (λ all. ended_stops_none p (start_memory p) f.case r o all f.comes f.stops) (λ all. ended_stops_none p (start_memory p) g.case s q all g.comes g.stops) in
      let once = comes_once p (start_memory p) f.case r s o q f.comes (subst (λ (c : Case). ComesTo p (start_memory p) c s q) (sym place.1) g.comes) f.stops g.stops in
      (f.number_is ∙ ap suc place.0 ∙ sym g.number_is, once.0, once.1)
