-- What a text derives has a spelling.
use Rattle.std.proofs.Common.{◌≡◌, ◌==◌, ◌&&◌, ◌||◌, ◌≤◌, ℕ, zero, suc, ℤ, pos, negsuc, Bool, true, false, List, [], ◌∷◌, ◌++◌, map, Option, Some, None, refl, sym, subst, arith, inl, inr, leb-true, le-leb}
use Rattle.std.specs.Prelude.{neg_ℤ}
use Rattle.std.proofs.lemmas.Bool.{and_from}
use Rattle.grammar.specs.Pieces.{Text}
use Rattle.grammar.specs.Lang.{Lang, ◌&◌, ◌∣◌, ◌<$>◌, many, some, optional, flat}
use Rattle.grammar.proofs.Texts.{and_left, and_right}
use Rattle.st_ast.specs.Tokens.{Token}
use Rattle.st_ast.specs.declared.kinds.TokenKind.{TokenKind}
use Rattle.st_ast.specs.declared.kinds.TokenKind.TheVariants as kinds
use Rattle.st_ast.specs.declared.tree.StVar.{StVar}
use Rattle.st_ast.specs.declared.tree.StLit.{StLit}
use Rattle.st_ast.specs.declared.tree.StClass.{StClass}
use Rattle.st_ast.specs.declared.tree.StClass.TheVariants as class
use Rattle.st_ast.specs.Tree.{Expr, Exprs, Factors, Terms, exprs_of, Stm, Stms, stms_of, Program}
use Rattle.st_ast.specs.Parts.{factors_of, terms_of, branches_of, other_of}
use Rattle.st_ast.specs.ReadsAs.{Derives}
use Rattle.st_ast.specs.Grammar.{code, second, word, identifier, natural, products, sums, mul_of, is_minus, after_kind, Level, at_or, at_xor, at_and, at_equal, at_order, at_sum, at_product, at_unary, one_argument, two_arguments, three_arguments, prim, unary, operands, multiplied, summed, ordered, equated, conjunction, exclusion, disjunction, level, max_depth, below, expression, without_word, assignment, guarded, conditional, repetition, statement, signed, first_value, subrange_of, value_of_init, type_use, declaration, block_of, block, whole}
use Rattle.st_read.proofs.ProperTokens.{IsProper, AreProper, proper_left, proper_right, tokens_proper}
use Rattle.st_ast.specs.Spelled.{is_name, has_literal, has_signed_literal, place_of_level, holds_level, inside, has_factors, has_terms, has_two, is_expr, are_factors, are_terms, are_exprs, is_whole_expr, is_stm, are_stms, are_branches, is_other, is_type_spelled, is_first_spelled, is_declaration, are_declarations, is_spelled}

-- ---- what holds of all that a language derives from such tokens

pub record Gives {A : Type 0} (P : A → Type 0) (p : Lang Token A) : Type 0 where
  pub give : (a : A) (x : List Token) → p a x → AreProper x → P a

abbrev Any : {A : Type 0} → A → Type 0
Any a = Unit {0}

any_gives : {A : Type 0} {p : Lang Token A} → Gives Any p
any_gives = record { give = λ a x d all. tt }

both_give : {A B : Type 0} {P : A → Type 0} {Q : B → Type 0} {p : Lang Token A} {q : Lang Token B} → Gives P p → Gives Q q → Gives (λ v. P v.0 × Q v.1) (p & q)
both_give h k = record {
  give = λ v x d all.
      let parts = subst (λ us. AreProper us) d.4 all in
      (h.give v.0 d.0 d.2 (proper_left d.0 d.1 parts), k.give v.1 d.1 d.3 (proper_right d.0 d.1 parts));
}

map_gives : {A B : Type 0} {P : A → Type 0} {p : Lang Token A} → Gives P p → (Q : B → Type 0) (make : A → B) → ((a : A) → P a → Q (make a)) → Gives Q (make <$> p)
map_gives h Q make step = record { give = λ b x d all. subst Q (sym d.2) (step d.0 (h.give d.0 x d.1 all)) }

either_give : {A : Type 0} {P : A → Type 0} {p q : Lang Token A} → Gives P p → Gives P q → Gives P (p ∣ q)
either_give {P = P} {p = p} {q = q} h k = record { give = either }
  where
    either : (a : _) (x : List Token) → (p ∣ q) a x → AreProper x → P a
    either a x (inl d) all = h.give a x d all
    either a x (inr d) all = k.give a x d all

abbrev Each : {A : Type 0} → (A → Type 0) → List A → Type 0
Each P [] = Unit {0}
Each P (a ∷ more) = P a × Each P more

many_give : {A : Type 0} {P : A → Type 0} {p : Lang Token A} → Gives P p → Gives (Each P) (many p)
many_give {A = A} {P = P} {p = p} h = record { give = each }
  where
    each : (as' : List A) (x : List Token) → many p as' x → AreProper x → Each P as'
    each [] x d all = tt
    each (a ∷ more) x d all =
        let parts = subst (λ us. AreProper us) d.4 all in
        (h.give a d.0 d.2 (proper_left d.0 d.1 parts), each more d.1 d.3 (proper_right d.0 d.1 parts))

abbrev OneOrMore : {A : Type 0} → (A → Type 0) → List A → Type 0
OneOrMore P [] = ⊥
OneOrMore P (a ∷ more) = P a × Each P more

some_give : {A : Type 0} {P : A → Type 0} {p : Lang Token A} → Gives P p → Gives (OneOrMore P) (some p)
some_give {A = A} {P = P} {p = p} h = record { give = each }
  where
    each : (as' : List A) (x : List Token) → some p as' x → AreProper x → OneOrMore P as'
    each [] x d all = d
    each (a ∷ more) x d all = (many_give {p = p} h).give (a ∷ more) x d all

abbrev IfSome : {A : Type 0} → (A → Type 0) → Option A → Type 0
IfSome P None = Unit {0}
IfSome P (Some a) = P a

optional_gives : {A : Type 0} {P : A → Type 0} {p : Lang Token A} → Gives P p → Gives (IfSome P) (optional p)
optional_gives {A = A} {P = P} {p = p} h = record { give = one }
  where
    one : (o : Option A) (x : List Token) → optional p o x → AreProper x → IfSome P o
    one None x d all = tt
    one (Some a) x d all = h.give a x d all

-- ---- names and numbers

one_kind : (b : Bool) → (b || false) ≡ true → b ≡ true
one_kind true e = refl
one_kind false e = e

token_gives : (kind : TokenKind) → Gives (λ (t : Token). ((code kind == code t.kind) ≡ true) × IsProper t) (word kind)
token_gives kind = record {
  give = λ t x d all. let one = subst (λ us. AreProper us) d.1 all in (one_kind (code kind == code t.kind) d.0, one.0);
}

identifier_gives : Gives (λ w. is_name w ≡ true) identifier
identifier_gives = map_gives (token_gives kinds.Name) (λ w. is_name w ≡ true) _ (λ t h. h.1.name h.0)

natural_gives : Gives (λ z. has_literal z ≡ true) natural
natural_gives = map_gives (token_gives kinds.Literal) (λ z. has_literal z ≡ true) _ (λ t h. h.1.number h.0)

-- ---- expressions

-- a part of a form
abbrev IsPart : ℕ → Level → Expr → Type 0
IsPart n l e = inside n (λ k. is_expr k l e) ≡ true

inside_both : (n : ℕ) (a b : ℕ → Bool) → inside n a ≡ true → inside n b ≡ true → inside n (λ k. a k && b k) ≡ true
inside_both zero a b h k = h
inside_both (suc n) a b h k = and_from (a n) (b n) h k

-- an expression of every level from one on up
abbrev IsOf : ℕ → Level → Expr → Type 0
IsOf n own e = (l : Level) → holds_level l own ≡ true → is_expr n l e ≡ true

-- an operand with the token before it
abbrev IsOperand : ℕ → Level → Token × Expr → Type 0
IsOperand n l v = Unit {0} × IsPart n l v.1

abbrev factors_from : List (Token × Expr) → Factors
factors_from more = factors_of (map (λ (o : TokenKind × Expr). (mul_of o.0, o.1)) (map after_kind more))

abbrev terms_from : List (Token × Expr) → Terms
terms_from more = terms_of (map (λ (o : TokenKind × Expr). (is_minus o.0, o.1)) (map after_kind more))

abbrev exprs_from : List (Token × Expr) → Exprs
exprs_from more = exprs_of (map second (map after_kind more))

each_factor : (n : ℕ) (more : List (Token × Expr)) → Each (IsOperand (suc n) at_unary) more → are_factors n (factors_from more) ≡ true
each_factor n [] h = refl
each_factor n (v ∷ more) h = and_from (is_expr n at_unary v.1) (are_factors n (factors_from more)) h.0.1 (each_factor n more h.1)

each_term : (n : ℕ) (more : List (Token × Expr)) → Each (IsOperand (suc n) at_product) more → are_terms n (terms_from more) ≡ true
each_term n [] h = refl
each_term n (v ∷ more) h = and_from (is_expr n at_product v.1) (are_terms n (terms_from more)) h.0.1 (each_term n more h.1)

each_expr : (n : ℕ) (l : Level) (more : List (Token × Expr)) → Each (IsOperand (suc n) l) more → are_exprs n l (exprs_from more) ≡ true
each_expr n l [] h = refl
each_expr n l (v ∷ more) h = and_from (is_expr n l v.1) (are_exprs n l (exprs_from more)) h.0.1 (each_expr n l more h.1)

product_parts : (n : ℕ) (e : Expr) (more : List (Token × Expr)) → IsPart n at_unary e → OneOrMore (IsOperand n at_unary) more
    → inside n (λ k. has_factors (factors_from more) && (is_expr k at_unary e && are_factors k (factors_from more))) ≡ true
product_parts n e [] h s = absurd s
product_parts zero e (v ∷ more) h s = absurd cc
product_parts (suc n) e (v ∷ more) h s = and_from (is_expr n at_unary e) (are_factors n (factors_from (v ∷ more))) h (each_factor n (v ∷ more) s)

sum_parts : (n : ℕ) (e : Expr) (more : List (Token × Expr)) → IsPart n at_product e → OneOrMore (IsOperand n at_product) more
    → inside n (λ k. has_terms (terms_from more) && (is_expr k at_product e && are_terms k (terms_from more))) ≡ true
sum_parts n e [] h s = absurd s
sum_parts zero e (v ∷ more) h s = absurd cc
sum_parts (suc n) e (v ∷ more) h s = and_from (is_expr n at_product e) (are_terms n (terms_from (v ∷ more))) h (each_term n (v ∷ more) s)

joined_parts : (n : ℕ) (l : Level) (e : Expr) (more : List (Token × Expr)) → IsPart n l e → OneOrMore (IsOperand n l) more
    → inside n (λ k. has_two (exprs_of (e ∷ map second (map after_kind more))) && are_exprs k l (exprs_of (e ∷ map second (map after_kind more)))) ≡ true
joined_parts n l e [] h s = absurd s
joined_parts zero l e (v ∷ more) h s = absurd cc
joined_parts (suc n) l e (v ∷ more) h s = and_from (is_expr n l e) (are_exprs n l (exprs_from (v ∷ more))) h (each_expr n l (v ∷ more) s)

holds_next : (l a b : Level) → place_of_level a ≤ place_of_level b → holds_level l a ≡ true → holds_level l b ≡ true
holds_next l a b h r =
    let le = leb-true (place_of_level l) (place_of_level a) r in
    le-leb (place_of_level l) (place_of_level b) (omega (arith, le, h))

-- what is of one level is of the one above it
narrower : (n : ℕ) (a b : Level) → place_of_level a ≤ place_of_level b → (p : Lang Token Expr) → Gives (IsOf n b) p → Gives (IsOf n a) p
narrower n a b h p g = record { give = λ e x d all l r. g.give e x d all l (holds_next l a b h r) }

module _ (n : ℕ) (inner : Level → Lang Token Expr) (h : (l : Level) → Gives (IsPart n l) (inner l)) where
  one_gives : Gives (IsPart n at_or) (one_argument inner)
  one_gives = map_gives (both_give any_gives (both_give (h at_or) any_gives)) (IsPart n at_or) _ (λ v w. w.1.0)

  two_give : Gives (λ v. IsPart n at_or v.0 × IsPart n at_or v.1) (two_arguments inner)
  two_give = map_gives (both_give any_gives (both_give (h at_or) (both_give any_gives (both_give (h at_or) any_gives))))
      (λ v. IsPart n at_or v.0 × IsPart n at_or v.1) _ (λ v w. (w.1.0, w.1.1.1.0))

  three_give : Gives (λ v. IsPart n at_or v.0 × (IsPart n at_or v.1.0 × IsPart n at_or v.1.1)) (three_arguments inner)
  three_give = map_gives (both_give any_gives (both_give (h at_or) (both_give any_gives (both_give (h at_or) (both_give any_gives (both_give (h at_or) any_gives))))))
      (λ v. IsPart n at_or v.0 × (IsPart n at_or v.1.0 × IsPart n at_or v.1.1)) _ (λ v w. (w.1.0, (w.1.1.1.0, w.1.1.1.1.1.0)))

  prim_gives : Gives (IsOf n at_unary) (prim inner)
  prim_gives = either_give (map_gives any_gives (IsOf n at_unary) _ (λ v w l r. refl)) (either_give (map_gives any_gives (IsOf n at_unary) _ (λ v w l r. refl))
      (either_give (map_gives natural_gives (IsOf n at_unary) _ (λ v w l r. w)) (either_give (map_gives identifier_gives (IsOf n at_unary) _ (λ v w l r. w))
      (either_give (map_gives one_gives (IsOf n at_unary) _ (λ v w l r. w))
      (either_give (map_gives (both_give any_gives one_gives) (IsOf n at_unary) _ (λ v w l r. w.1))
      (either_give (map_gives (both_give any_gives two_give) (IsOf n at_unary) _ (λ v w l r. inside_both n (λ k. is_expr k at_or v.1.0) (λ k. is_expr k at_or v.1.1) w.1.0 w.1.1))
      (either_give (map_gives (both_give any_gives two_give) (IsOf n at_unary) _ (λ v w l r. inside_both n (λ k. is_expr k at_or v.1.0) (λ k. is_expr k at_or v.1.1) w.1.0 w.1.1))
      (map_gives (both_give any_gives three_give) (IsOf n at_unary) _ (λ v w l r. inside_both n (λ k. is_expr k at_or v.1.0) (λ k. is_expr k at_or v.1.1.0 && is_expr k at_or v.1.1.1) w.1.0
      (inside_both n (λ k. is_expr k at_or v.1.1.0) (λ k. is_expr k at_or v.1.1.1) w.1.1.0 w.1.1.1))))))))))

  unary_gives : Gives (IsOf n at_unary) (unary inner)
  unary_gives = either_give (map_gives (both_give any_gives (h at_unary)) (IsOf n at_unary) _ (λ v w l r. w.1))
      (either_give (map_gives (both_give any_gives (h at_unary)) (IsOf n at_unary) _ (λ v w l r. w.1)) prim_gives)

  operands_give : (l : Level) (ks : List TokenKind) → Gives (λ v. IsPart n l v.0 × OneOrMore (IsOperand n l) v.1) (operands inner l ks)
  operands_give l ks = both_give (h l) (some_give (both_give any_gives (h l)))

  multiplied_gives : Gives (IsOf n at_product) (multiplied inner)
  multiplied_gives = either_give (narrower n at_product at_unary (omega arith) (unary inner) unary_gives)
      (map_gives (operands_give at_unary products) (IsOf n at_product) _ (λ v w l r. and_from (holds_level l at_product) _ r (product_parts n v.0 v.1 w.0 w.1)))

  summed_gives : Gives (IsOf n at_sum) (summed inner)
  summed_gives = either_give (narrower n at_sum at_product (omega arith) (multiplied inner) multiplied_gives)
      (map_gives (operands_give at_product sums) (IsOf n at_sum) _ (λ v w l r. and_from (holds_level l at_sum) _ r (sum_parts n v.0 v.1 w.0 w.1)))

  ordered_gives : Gives (IsOf n at_order) (ordered inner)
  ordered_gives = either_give (narrower n at_order at_sum (omega arith) (summed inner) summed_gives)
      (map_gives (both_give (h at_sum) (both_give any_gives (h at_sum))) (IsOf n at_order) _
      (λ v w l r. and_from (holds_level l at_order) _ r (inside_both n (λ k. is_expr k at_sum v.0) (λ k. is_expr k at_sum v.1.1) w.0 w.1.1)))

  equated_gives : Gives (IsOf n at_equal) (equated inner)
  equated_gives = either_give (narrower n at_equal at_order (omega arith) (ordered inner) ordered_gives)
      (map_gives (both_give (h at_order) (both_give any_gives (h at_order))) (IsOf n at_equal) _
      (λ v w l r. and_from (holds_level l at_equal) _ r (inside_both n (λ k. is_expr k at_order v.0) (λ k. is_expr k at_order v.1.1) w.0 w.1.1)))

  conjunction_gives : Gives (IsOf n at_and) (conjunction inner)
  conjunction_gives = either_give (narrower n at_and at_equal (omega arith) (equated inner) equated_gives)
      (map_gives (operands_give at_equal (kinds.And ∷ [])) (IsOf n at_and) _ (λ v w l r. and_from (holds_level l at_and) _ r (joined_parts n at_equal v.0 v.1 w.0 w.1)))

  exclusion_gives : Gives (IsOf n at_xor) (exclusion inner)
  exclusion_gives = either_give (narrower n at_xor at_and (omega arith) (conjunction inner) conjunction_gives)
      (map_gives (operands_give at_and (kinds.Xor ∷ [])) (IsOf n at_xor) _ (λ v w l r. and_from (holds_level l at_xor) _ r (joined_parts n at_and v.0 v.1 w.0 w.1)))

  disjunction_gives : Gives (IsOf n at_or) (disjunction inner)
  disjunction_gives = either_give (narrower n at_or at_xor (omega arith) (exclusion inner) exclusion_gives)
      (map_gives (operands_give at_xor (kinds.Or ∷ [])) (IsOf n at_or) _ (λ v w l r. and_from (holds_level l at_or) _ r (joined_parts n at_xor v.0 v.1 w.0 w.1)))

  level_gives : (l : Level) → Gives (λ e. is_expr n l e ≡ true) (level inner l)
  level_gives at_or = record { give = λ e x d all. disjunction_gives.give e x d all at_or refl }
  level_gives at_xor = record { give = λ e x d all. exclusion_gives.give e x d all at_xor refl }
  level_gives at_and = record { give = λ e x d all. conjunction_gives.give e x d all at_and refl }
  level_gives at_equal = record { give = λ e x d all. equated_gives.give e x d all at_equal refl }
  level_gives at_order = record { give = λ e x d all. ordered_gives.give e x d all at_order refl }
  level_gives at_sum = record { give = λ e x d all. summed_gives.give e x d all at_sum refl }
  level_gives at_product = record { give = λ e x d all. multiplied_gives.give e x d all at_product refl }
  level_gives at_unary = record { give = λ e x d all. unary_gives.give e x d all at_unary refl }

below_gives : (n : ℕ) (l : Level) → Gives (IsPart n l) (below n l)
unfolding below
below_gives zero l = record { give = λ e x d all. absurd d }
below_gives (suc n) l = record { give = λ e x d all. (level_gives n (below n) (below_gives n) l).give e x d all }

expression_gives : Gives (λ e. is_whole_expr e ≡ true) expression
unfolding expression
expression_gives = record { give = λ e x d all. (level_gives max_depth (below max_depth) (below_gives max_depth) at_or).give e x d all }

-- ---- statements

assignment_gives : (n : ℕ) → Gives (λ s. is_stm n s ≡ true) assignment
assignment_gives n = map_gives (both_give identifier_gives (both_give any_gives (both_give expression_gives any_gives))) (λ s. is_stm n s ≡ true) _
    (λ v w. and_from (is_name v.0) (is_whole_expr v.1.1.0) w.0 w.1.1.0)

each_stm : (n : ℕ) (ss : List Stm) → Each (λ s. is_stm n s ≡ true) ss → are_stms n (stms_of ss) ≡ true
each_stm n [] h = refl
each_stm n (s ∷ ss) h = and_from (is_stm n s) (are_stms n (stms_of ss)) h.0 (each_stm n ss h.1)

-- a condition and its statements
abbrev IsGuarded : ℕ → Expr × Stms → Type 0
IsGuarded n g = (is_whole_expr g.0 ≡ true) × (are_stms n g.1 ≡ true)

each_branch : (n : ℕ) (bs : List (Token × (Expr × Stms))) → Each (λ (b : Token × (Expr × Stms)). Unit {0} × IsGuarded n b.1) bs → are_branches n (branches_of (map second bs)) ≡ true
each_branch n [] h = refl
each_branch n (b ∷ bs) h = and_from (is_whole_expr b.1.0) (are_stms n b.1.1 && are_branches n (branches_of (map second bs))) h.0.1.0
    (and_from (are_stms n b.1.1) (are_branches n (branches_of (map second bs))) h.0.1.1 (each_branch n bs h.1))

last_part : (n : ℕ) (o : Option (Token × List Stm)) → IfSome (λ (w : Token × List Stm). Unit {0} × Each (λ s. is_stm n s ≡ true) w.1) o → is_other n (other_of (without_word o)) ≡ true
last_part n None h = refl
last_part n (Some w) h = each_stm n w.1 h.1

module _ (n : ℕ) (body : Lang Token (List Stm)) (b : Gives (Each (λ s. is_stm n s ≡ true)) body) where
  guarded_gives : (kind : TokenKind) → Gives (IsGuarded n) (guarded body kind)
  guarded_gives kind = map_gives (both_give expression_gives (both_give any_gives b)) (IsGuarded n) _ (λ v w. (w.0, each_stm n v.1.1 w.1.1))

  conditional_gives : Gives (λ s. is_stm (suc n) s ≡ true) (conditional body)
  conditional_gives = map_gives (both_give any_gives (both_give (guarded_gives kinds.Then) (both_give (many_give (both_give any_gives (guarded_gives kinds.Then)))
      (both_give (optional_gives (both_give any_gives b)) any_gives)))) (λ s. is_stm (suc n) s ≡ true) _
      (λ v w. and_from (are_branches n (branches_of (v.1.0 ∷ map second v.1.1.0))) (is_other n (other_of (without_word v.1.1.1.0)))
      (and_from (is_whole_expr v.1.0.0) (are_stms n v.1.0.1 && are_branches n (branches_of (map second v.1.1.0))) w.1.0.0
      (and_from (are_stms n v.1.0.1) (are_branches n (branches_of (map second v.1.1.0))) w.1.0.1 (each_branch n v.1.1.0 w.1.1.0)))
      (last_part n v.1.1.1.0 w.1.1.1.0))

  repetition_gives : Gives (λ s. is_stm (suc n) s ≡ true) (repetition body)
  repetition_gives = map_gives (both_give any_gives (both_give (guarded_gives kinds.Do) any_gives)) (λ s. is_stm (suc n) s ≡ true) _
      (λ v w. and_from (is_whole_expr v.1.0.0) (are_stms n v.1.0.1) w.1.0.0 w.1.0.1)

statement_gives : (n : ℕ) → Gives (λ s. is_stm n s ≡ true) (statement n)
unfolding statement
statement_gives zero = record { give = λ s x d all. (assignment_gives zero).give s x d all }
statement_gives (suc n) =
    let b : Gives (Each (λ s. is_stm n s ≡ true)) (many (statement n)) = many_give (statement_gives n) in
    let one : Gives (λ s. is_stm (suc n) s ≡ true) (assignment ∣ conditional (many (statement n)) ∣ repetition (many (statement n))) =
    either_give (assignment_gives (suc n)) (either_give (conditional_gives n (many (statement n)) b) (repetition_gives n (many (statement n)) b)) in
    record { give = λ s x d all. one.give s x d all }

-- ---- declarations

negated : (z : ℤ) → has_literal z ≡ true → has_signed_literal (neg_ℤ z) ≡ true
negated (pos zero) h = refl
negated (pos (suc n)) h = h
negated (negsuc n) h = absurd cc

unsigned : (z : ℤ) → has_literal z ≡ true → has_signed_literal z ≡ true
unsigned (pos n) h = h
unsigned (negsuc n) h = absurd cc

signed_gives : Gives (λ z. has_signed_literal z ≡ true) signed
signed_gives = either_give (map_gives (both_give any_gives natural_gives) (λ z. has_signed_literal z ≡ true) _ (λ v w. negated v.1 w.1))
    (record { give = λ z x d all. unsigned z (natural_gives.give z x d all) })

first_value_gives : Gives (λ (v : StLit). is_first_spelled (Some v) ≡ true) first_value
first_value_gives = either_give (map_gives any_gives (λ (v : StLit). is_first_spelled (Some v) ≡ true) _ (λ v w. refl))
    (either_give (map_gives any_gives (λ (v : StLit). is_first_spelled (Some v) ≡ true) _ (λ v w. refl)) (map_gives signed_gives (λ (v : StLit). is_first_spelled (Some v) ≡ true) _ (λ v w. w)))

abbrev Subrange : Type 0
Subrange = Token × (ℤ × (Token × (ℤ × Token)))

abbrev IsSubrange : Subrange → Type 0
IsSubrange v = Unit {0} × ((has_signed_literal v.1.0 ≡ true) × (Unit {0} × ((has_signed_literal v.1.1.1.0 ≡ true) × Unit {0})))

subrange_spelled : (o : Option Subrange) → IfSome IsSubrange o → is_type_spelled (subrange_of o) ≡ true
subrange_spelled None h = refl
subrange_spelled (Some v) h = and_from (has_signed_literal v.1.0) (has_signed_literal v.1.1.1.0) h.1.0 h.1.1.1.0

type_gives : Gives (λ t. is_type_spelled t ≡ true) type_use
type_gives = either_give (map_gives any_gives (λ t. is_type_spelled t ≡ true) _ (λ v w. refl))
    (map_gives (both_give any_gives (optional_gives (both_give any_gives (both_give signed_gives (both_give any_gives (both_give signed_gives any_gives)))))) (λ t. is_type_spelled t ≡ true) _
    (λ v w. subrange_spelled v.1 w.1))

init_spelled : (o : Option (Token × StLit)) → IfSome (λ (v : Token × StLit). Unit {0} × (is_first_spelled (Some v.1) ≡ true)) o → is_first_spelled (value_of_init o) ≡ true
init_spelled None h = refl
init_spelled (Some v) h = h.1

declaration_gives : (k : StClass) → Gives (λ v. is_declaration v ≡ true) (declaration k)
declaration_gives k = map_gives (both_give identifier_gives (both_give any_gives (both_give type_gives (both_give (optional_gives (both_give any_gives first_value_gives)) any_gives)))) (λ v. is_declaration v ≡ true) _
    (λ v w. and_from (is_name v.0) (is_type_spelled v.1.1.0 && (is_first_spelled (value_of_init v.1.1.1.0) && true)) w.0
    (and_from (is_type_spelled v.1.1.0) (is_first_spelled (value_of_init v.1.1.1.0) && true) w.1.1.0
    (and_from (is_first_spelled (value_of_init v.1.1.1.0)) true (init_spelled v.1.1.1.0 w.1.1.1.0) refl)))

each_declaration : (vs : List StVar) → Each (λ v. is_declaration v ≡ true) vs → are_declarations vs ≡ true
each_declaration [] h = refl
each_declaration (v ∷ vs) h = and_from (is_declaration v) (are_declarations vs) h.0 (each_declaration vs h.1)

block_of_gives : (kind : TokenKind) (k : StClass) → Gives (λ vs. are_declarations vs ≡ true) (block_of kind k)
block_of_gives kind k = map_gives (both_give any_gives (both_give (many_give (declaration_gives k)) any_gives)) (λ vs. are_declarations vs ≡ true) _ (λ v w. each_declaration v.1.0 w.1.0)

block_gives : Gives (λ vs. are_declarations vs ≡ true) block
block_gives = either_give (block_of_gives kinds.Var class.Plain)
    (either_give (map_gives (both_give any_gives (block_of_gives kinds.Constant class.Constant)) (λ vs. are_declarations vs ≡ true) _ (λ v w. w.1))
    (either_give (block_of_gives kinds.VarInput class.Input) (block_of_gives kinds.VarOutput class.Output)))

declarations_append : (us vs : List StVar) → are_declarations us ≡ true → are_declarations vs ≡ true → are_declarations (us ++ vs) ≡ true
declarations_append [] vs h k = k
declarations_append (u ∷ us) vs h k = and_from (is_declaration u) (are_declarations (us ++ vs)) (and_left (is_declaration u) (are_declarations us) h)
    (declarations_append us vs (and_right (is_declaration u) (are_declarations us) h) k)

each_block : (vss : List (List StVar)) → Each (λ vs. are_declarations vs ≡ true) vss → are_declarations (flat vss) ≡ true
each_block [] h = refl
each_block (vs ∷ vss) h = declarations_append vs (flat vss) h.0 (each_block vss h.1)

-- ---- programs

pub whole_gives : Gives (λ p. is_spelled p ≡ true) whole
unfolding whole
whole_gives = map_gives (both_give any_gives (both_give identifier_gives (both_give (many_give block_gives) (both_give (many_give (statement_gives max_depth)) any_gives)))) (λ p. is_spelled p ≡ true) _
    (λ v w. and_from (is_name v.1.0) (are_declarations (flat v.1.1.0) && are_stms max_depth (stms_of v.1.1.1.0)) w.1.0
    (and_from (are_declarations (flat v.1.1.0)) (are_stms max_depth (stms_of v.1.1.1.0)) (each_block v.1.1.0 w.1.1.0) (each_stm max_depth v.1.1.1.0 w.1.1.1.0)))

-- a program that a text derives has a spelling
pub derived_is_spelled : (text : Text) (p : Program) → Derives text p → is_spelled p ≡ true
derived_is_spelled text p d = whole_gives.give p d.tokens d.derived (tokens_proper text d.tokens d.are_tokens)
