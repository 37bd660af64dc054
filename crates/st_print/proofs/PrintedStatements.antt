-- The printed marks of a statement that has a spelling derive it.
use Rattle.std.proofs.Common.{◌≡◌, ◌&&◌, ℕ, zero, suc, ◌+◌, true, false, List, [], ◌∷◌, Option, Some, None, map, refl, ap, subst, inl, inr}
use Rattle.std.specs.Prelude.{codes}
use Rattle.grammar.specs.Lang.{◌&◌, many, optional}
use Rattle.grammar.specs.Pieces.{Text}
use Rattle.st_ast.specs.Tokens.{Token, kind_of_word}
use Rattle.st_ast.specs.declared.kinds.TokenKind.{TokenKind}
use Rattle.st_ast.specs.declared.kinds.TokenKind.TheVariants as kinds
use Rattle.st_ast.specs.Grammar.{word, expression, second, without_word, assignment, guarded, conditional, repetition, statement}
use Rattle.st_ast.specs.Parts.{branches_of, other_of}
use Rattle.st_ast.specs.Spelled.{is_word_text, is_name, is_whole_expr, has_branches, is_stm, are_stms, are_branches, is_other}
use Rattle.st_ast.specs.Tree.{Expr, Stm, Stms, Branches, Other, assign, choice, loop, no_stms, stms, no_branches, branches, no_other, other, stms_of}
use Rattle.st_print.specs.Layout.{Mark, expr_marks, stm_marks, stms_marks, branches_marks, other_marks}
use Rattle.st_print.specs.Layout as mark
use Rattle.st_print.proofs.Derived.{Derives, both_derive, map_derives, none_derives, more_derive, absent_derives, present_derives, line_derives}
use Rattle.st_print.proofs.PrintedExpressions.{parts, word_token, sign_token, word_derives, sign_derives, identifier_derives, whole_derives}

-- ---- lists

abbrev pub list_of : Stms → List Stm
list_of no_stms = []
list_of (stms s ss) = s ∷ list_of ss

pub stms_of-list_of : (ss : Stms) → stms_of (list_of ss) ≡ ss
stms_of-list_of no_stms = refl
stms_of-list_of (stms s ss) = ap (λ r. stms s r) (stms_of-list_of ss)

-- further branches, each with its ELSIF
abbrev elsifs_of : Branches → List (Token × (Expr × Stms))
elsifs_of no_branches = []
elsifs_of (branches c ss bs) = (word_token (codes "ELSIF"), (c, ss)) ∷ elsifs_of bs

branches_of-elsifs_of : (bs : Branches) → branches_of (map second (elsifs_of bs)) ≡ bs
branches_of-elsifs_of no_branches = refl
branches_of-elsifs_of (branches c ss bs) = ap (λ r. branches c ss r) (branches_of-elsifs_of bs)

-- what stands after ELSE, with that
abbrev else_of : Other → Option (Token × List Stm)
else_of no_other = None
else_of (other ss) = Some (word_token (codes "ELSE"), list_of ss)

other_of-else_of : (o : Other) → other_of (without_word (else_of o)) ≡ o
other_of-else_of no_other = refl
other_of-else_of (other ss) = ap (λ r. other r) (stms_of-list_of ss)

-- ---- forms

assignment_derives : (x : Text) (e : Expr) (k : ℕ) → is_name x ≡ true → Derives expression e (λ ms. expr_marks e ms)
    → Derives assignment (assign x e) (λ ms. stm_marks k (assign x e) ms)
assignment_derives x e k is h = line_derives k (map_derives (λ ((x, (s, (e, end))) : Text × (Token × (Expr × Token))). assign x e)
    (both_derive (identifier_derives x is) (both_derive (sign_derives kinds.Assigns (codes ":=") refl refl) (both_derive h (sign_derives kinds.Semicolon (codes ";") refl refl)))))

assign_derives : (n : ℕ) (x : Text) (e : Expr) (k : ℕ) → is_name x ≡ true → Derives expression e (λ ms. expr_marks e ms)
    → Derives (statement n) (assign x e) (λ ms. stm_marks k (assign x e) ms)
unfolding statement
assign_derives zero x e k is h = let d = assignment_derives x e k is h in record { text = d.text; derived = d.derived; is = d.is; good = d.good }
assign_derives (suc n) x e k is h = let d = assignment_derives x e k is h in record { text = d.text; derived = inl d.derived; is = d.is; good = d.good }

-- what is the line of a closing word
closing_derives : (k : ℕ) (kind : TokenKind) (w : Text) → kind_of_word w ≡ kind → is_word_text w ≡ true
    → Derives (word kind & word kinds.Semicolon) (word_token w, sign_token (codes ";")) (λ ms. mark.line k ∷ mark.word w ∷ mark.sign (codes ";") ∷ ms)
closing_derives k kind w is good = line_derives k (both_derive (word_derives kind w is good) (sign_derives kinds.Semicolon (codes ";") refl refl))

module _ (n k : ℕ) where
  -- the statements inside a form
  abbrev Inner : Stms → Type 0
  Inner ss = Derives (many (statement n)) (list_of ss) (λ ms. stms_marks (k + 1) ss ms)

  guarded_derives : (kind : TokenKind) (w : Text) (c : Expr) (ss : Stms) → kind_of_word w ≡ kind → is_word_text w ≡ true → Derives expression c (λ ms. expr_marks c ms) → Inner ss
      → Derives (guarded (many (statement n)) kind) (c, ss) (λ ms. expr_marks c (mark.word w ∷ stms_marks (k + 1) ss ms))
  guarded_derives kind w c ss is good h inner =
      subst (λ (r : Stms). Derives (guarded (many (statement n)) kind) (c, r) (λ ms. expr_marks c (mark.word w ∷ stms_marks (k + 1) ss ms))) (stms_of-list_of ss)
      (map_derives (λ ((c, (w, ss)) : Expr × (Token × List Stm)). (c, stms_of ss)) (both_derive h (both_derive (word_derives kind w is good) inner)))

  loop_derives : (c : Expr) (ss : Stms) → Derives expression c (λ ms. expr_marks c ms) → Inner ss → Derives (statement (suc n)) (loop c ss) (λ ms. stm_marks k (loop c ss) ms)
  unfolding statement
  loop_derives c ss h inner =
      let d : Derives (repetition (many (statement n))) (loop c ss) (λ ms. stm_marks k (loop c ss) ms) =
      line_derives k (map_derives (λ ((w, ((c, ss), end)) : Token × ((Expr × Stms) × (Token × Token))). loop c ss)
      (both_derive (word_derives kinds.While (codes "WHILE") refl refl)
      (both_derive (guarded_derives kinds.Do (codes "DO") c ss refl refl h inner)
      (closing_derives k kinds.EndWhile (codes "END_WHILE") refl refl)))) in
      record { text = d.text; derived = inr (inr d.derived); is = d.is; good = d.good }

  -- IF with its further branches and what stands after ELSE
  choice_derives : (c : Expr) (ss : Stms) (bs : Branches) (o : Other) → Derives expression c (λ ms. expr_marks c ms) → Inner ss
      → Derives (many (word kinds.Elsif & guarded (many (statement n)) kinds.Then)) (elsifs_of bs) (λ ms. branches_marks (codes "ELSIF") k bs ms)
      → Derives (optional (word kinds.Else & many (statement n))) (else_of o) (λ ms. other_marks k o ms)
      → Derives (statement (suc n)) (choice (branches c ss bs) o) (λ ms. stm_marks k (choice (branches c ss bs) o) ms)
  unfolding statement
  choice_derives c ss bs o h inner more last =
      let d : Derives (conditional (many (statement n))) (choice (branches c ss (branches_of (map second (elsifs_of bs)))) (other_of (without_word (else_of o)))) (λ ms. stm_marks k (choice (branches c ss bs) o) ms) =
      line_derives k (map_derives (λ ((w, (b, (bs, (o, end)))) : Token × ((Expr × Stms) × (List (Token × (Expr × Stms)) × (Option (Token × List Stm) × (Token × Token))))). choice (branches_of (b ∷ map second bs)) (other_of (without_word o)))
      (both_derive (word_derives kinds.If (codes "IF") refl refl)
      (both_derive (guarded_derives kinds.Then (codes "THEN") c ss refl refl h inner)
      (both_derive more (both_derive last (closing_derives k kinds.EndIf (codes "END_IF") refl refl)))))) in
      let e = subst (λ r. Derives (conditional (many (statement n))) (choice (branches c ss r) (other_of (without_word (else_of o)))) (λ ms. stm_marks k (choice (branches c ss bs) o) ms)) (branches_of-elsifs_of bs) d in
      let f = subst (λ r. Derives (conditional (many (statement n))) (choice (branches c ss bs) r) (λ ms. stm_marks k (choice (branches c ss bs) o) ms)) (other_of-else_of o) e in
      record { text = f.text; derived = inr (inl f.derived); is = f.is; good = f.good }

-- ---- every statement that has a spelling

mutual
  stm_derives : (n k : ℕ) (s : Stm) → is_stm n s ≡ true → Derives (statement n) s (λ ms. stm_marks k s ms)
  stm_derives n k (assign x e) r =
      let s = parts (is_name x) (is_whole_expr e) r in
      assign_derives n x e k s.0 (whole_derives e s.1)
  stm_derives zero k (choice bs o) r = let wrong = parts (has_branches bs) false r in let is : false ≡ true = wrong.1 in absurd cc
  stm_derives (suc n) k (choice no_branches o) r = absurd cc
  stm_derives (suc n) k (choice (branches c ss bs) o) r =
      let s = parts (is_whole_expr c && (are_stms n ss && are_branches n bs)) (is_other n o) r in
      let t = parts (is_whole_expr c) (are_stms n ss && are_branches n bs) s.0 in
      let u = parts (are_stms n ss) (are_branches n bs) t.1 in
      choice_derives n k c ss bs o (whole_derives c t.0) (stms_derive n (k + 1) ss u.0) (elsifs_derive n k bs u.1) (else_derives n k o s.1)
  stm_derives zero k (loop c ss) r = let wrong = parts (is_whole_expr c) false r in let is : false ≡ true = wrong.1 in absurd cc
  stm_derives (suc n) k (loop c ss) r =
      let s = parts (is_whole_expr c) (are_stms n ss) r in
      loop_derives n k c ss (whole_derives c s.0) (stms_derive n (k + 1) ss s.1)

  pub stms_derive : (n k : ℕ) (ss : Stms) → are_stms n ss ≡ true → Derives (many (statement n)) (list_of ss) (λ ms. stms_marks k ss ms)
  stms_derive n k no_stms r = none_derives
  stms_derive n k (stms s ss) r =
      let t = parts (is_stm n s) (are_stms n ss) r in
      more_derive (stm_derives n k s t.0) (stms_derive n k ss t.1)

  elsifs_derive : (n k : ℕ) (bs : Branches) → are_branches n bs ≡ true
      → Derives (many (word kinds.Elsif & guarded (many (statement n)) kinds.Then)) (elsifs_of bs) (λ ms. branches_marks (codes "ELSIF") k bs ms)
  elsifs_derive n k no_branches r = none_derives
  elsifs_derive n k (branches c ss bs) r =
      let s = parts (is_whole_expr c) (are_stms n ss && are_branches n bs) r in
      let t = parts (are_stms n ss) (are_branches n bs) s.1 in
      more_derive (line_derives k (both_derive (word_derives kinds.Elsif (codes "ELSIF") refl refl)
      (guarded_derives n k kinds.Then (codes "THEN") c ss refl refl (whole_derives c s.0) (stms_derive n (k + 1) ss t.0))))
      (elsifs_derive n k bs t.1)

  else_derives : (n k : ℕ) (o : Other) → is_other n o ≡ true → Derives (optional (word kinds.Else & many (statement n))) (else_of o) (λ ms. other_marks k o ms)
  else_derives n k no_other r = absent_derives
  else_derives n k (other ss) r =
      present_derives (line_derives k (both_derive (word_derives kinds.Else (codes "ELSE") refl refl) (stms_derive n (k + 1) ss r)))
