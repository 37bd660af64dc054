-- The programs that are read: no token of theirs is outside the grammar, and they have no more variables and statements
-- than their texts have bytes.
use Rattle.std.proofs.Common.{◌≡◌, ◌≤◌, ◌+◌, ℕ, zero, suc, true, false, List, [], ◌∷◌, ◌++◌, length, map, Option, Some, None, refl, sym, ap, subst, ◌∙◌, arith, inl, inr, filter_map}
use Rattle.std.proofs.lemmas.List.{length-append}
use Rattle.grammar.specs.Pieces.{Text, Pieces}
use Rattle.grammar.specs.Lang.{Lang, has, ◌&◌, ◌∣◌, ◌<$>◌, many, some, optional, flat}
use Rattle.st_ast.specs.Tokens.{Token, Piece, blank, comment, sign, piece, token_of}
use Rattle.st_ast.specs.declared.kinds.TokenKind.{TokenKind}
use Rattle.st_ast.specs.declared.kinds.TokenKind.TheVariants as kinds
use Rattle.st_ast.specs.Tokens as tokens
use Rattle.st_ast.specs.Tree.{Expr, Stm, Stms, stms_of, Program}
use Rattle.st_ast.specs.View.{branches_of, other_of}
use Rattle.st_ast.specs.Checks.{stm_count, stms_count, branches_count, other_count}
use Rattle.st_ast.specs.Grammar.{code, sort, second, word, word_of, identifier, natural, products, sums, orders, equalities, Level, at_or, at_xor, at_and, at_equal, at_order, at_sum, at_product, at_unary, one_argument, two_arguments, three_arguments, prim, unary, operands, multiplied, summed, ordered, equated, conjunction, exclusion, disjunction, level, max_depth, below, expression, without_word, assignment, guarded, conditional, repetition, statement, signed, first_value, type_use, declaration, block_of, block, whole}
use Rattle.st_read.proofs.CuttingLaws.{piece_cuts}
use Rattle.st_ast.specs.ReadsAs.{Derives}
use Rattle.st_ast.specs.declared.tree.StVar.{StVar}
use Rattle.st_ast.specs.declared.tree.StClass.{StClass}
use Rattle.st_ast.specs.declared.tree.StClass.TheVariants as class

-- no token is outside the grammar
abbrev pub Inside : List Token → Type 0
Inside [] = Unit {0}
Inside (t ∷ ts) = (t.kind ≡ kinds.Outside → ⊥) × Inside ts

inside_both : (xs ys : List Token) → Inside xs → Inside ys → Inside (xs ++ ys)
inside_both [] ys h k = k
inside_both (x ∷ xs) ys h k = (h.0, inside_both xs ys h.1 k)

-- ---- sizes of what a language derives, at most the number of the tokens, of which none is outside

abbrev Fits : {A : Type 0} → (A → ℕ) → Lang Token A → Type 0
Fits {A = A} size p = (a : A) (x : List Token) → p a x → (size a ≤ length x) × Inside x

abbrev free : {A : Type 0} → A → ℕ
free a = 0

not_outside : (ks : List TokenKind) (t : Token) → has (map code ks) (code kinds.Outside) ≡ false → has (map code ks) (sort t) ≡ true → t.kind ≡ kinds.Outside → ⊥
not_outside ks t e h is =
    let g : has (map code ks) (code kinds.Outside) ≡ true = ap (λ (k : TokenKind). has (map code ks) (code k)) (sym is) ∙ h in
    let wrong : true ≡ false = sym g ∙ e in
    cc

word_of_fits : (ks : List TokenKind) → has (map code ks) (code kinds.Outside) ≡ false → Fits (λ t. 1) (word_of ks)
word_of_fits ks e t x d =
    let one : length x ≡ 1 = ap (λ (ts : List Token). length ts) d.1 in
    (omega arith, subst (λ (ts : List Token). Inside ts) (sym d.1) (not_outside ks t e d.0, tt))

word_fits : (kind : TokenKind) → has (code kind ∷ []) (code kinds.Outside) ≡ false → Fits (λ t. 1) (word kind)
word_fits kind e = word_of_fits (kind ∷ []) e

both_fits : {A B : Type 0} {f : A → ℕ} {g : B → ℕ} {p : Lang Token A} {q : Lang Token B} → Fits f p → Fits g q → Fits (λ v. f v.0 + g v.1) (p & q)
both_fits h k v x d =
    let m = h v.0 d.0 d.2 in
    let n = k v.1 d.1 d.3 in
    let len : length x ≡ length d.0 + length d.1 = ap (λ (ts : List Token). length ts) d.4 ∙ length-append d.0 d.1 in
    (omega (arith, m.0, n.0, len), subst (λ (ts : List Token). Inside ts) (sym d.4) (inside_both d.0 d.1 m.1 n.1))

map_fits : {A B : Type 0} {f : A → ℕ} {p : Lang Token A} → Fits f p → (g : B → ℕ) (make : A → B) → ((a : A) → g (make a) ≤ f a) → Fits g (make <$> p)
map_fits h g make l b x d =
    let m = h d.0 x d.1 in
    let less = l d.0 in
    let same : g b ≡ g (make d.0) = ap g d.2 in
    (omega (arith, m.0, less, same), m.1)

either_fits : {A : Type 0} {f : A → ℕ} {p q : Lang Token A} → Fits f p → Fits f q → Fits f (p ∣ q)
either_fits h k a x (inl d) = h a x d
either_fits h k a x (inr d) = k a x d

abbrev total : {A : Type 0} → (A → ℕ) → List A → ℕ
total f [] = 0
total f (a ∷ more) = f a + total f more

many_fits : {A : Type 0} {f : A → ℕ} {p : Lang Token A} → Fits f p → Fits (total f) (many p)
many_fits h [] x d =
    let len : length x ≡ 0 = ap (λ (ts : List Token). length ts) d in
    (omega arith, subst (λ (ts : List Token). Inside ts) (sym d) tt)
many_fits {p = p} h (a ∷ more) x d =
    let m = h a d.0 d.2 in
    let n = many_fits {p = p} h more d.1 d.3 in
    let len : length x ≡ length d.0 + length d.1 = ap (λ (ts : List Token). length ts) d.4 ∙ length-append d.0 d.1 in
    (omega (arith, m.0, n.0, len), subst (λ (ts : List Token). Inside ts) (sym d.4) (inside_both d.0 d.1 m.1 n.1))

some_fits : {A : Type 0} {f : A → ℕ} {p : Lang Token A} → Fits f p → Fits (total f) (some p)
some_fits h [] x d = absurd d
some_fits {p = p} h (a ∷ more) x d = many_fits {p = p} h (a ∷ more) x d

abbrev within : {A : Type 0} → (A → ℕ) → Option A → ℕ
within f None = 0
within f (Some a) = f a

optional_fits : {A : Type 0} {f : A → ℕ} {p : Lang Token A} → Fits f p → Fits (within f) (optional p)
optional_fits h None x d =
    let len : length x ≡ 0 = ap (λ (ts : List Token). length ts) d in
    (omega arith, subst (λ (ts : List Token). Inside ts) (sym d) tt)
optional_fits h (Some a) x d = h a x d

-- where sizes don't matter
plain_fits : {A B : Type 0} {f : A → ℕ} {p : Lang Token A} {make : A → B} → Fits f p → Fits free (make <$> p)
plain_fits h b x d = let m = h d.0 x d.1 in (omega arith, m.1)

-- ---- expressions

identifier_fits : Fits free identifier
identifier_fits = plain_fits (word_fits kinds.Name refl)

natural_fits : Fits free natural
natural_fits = plain_fits (word_fits kinds.Literal refl)

module _ (inner : Level → Lang Token Expr) (h : (l : Level) → Fits free (inner l)) where
  one_fits : Fits free (one_argument inner)
  one_fits = plain_fits (both_fits (word_fits kinds.Open refl) (both_fits (h at_or) (word_fits kinds.Close refl)))

  two_fits : Fits free (two_arguments inner)
  two_fits = plain_fits (both_fits (word_fits kinds.Open refl) (both_fits (h at_or) (both_fits (word_fits kinds.Comma refl) (both_fits (h at_or) (word_fits kinds.Close refl)))))

  three_fits : Fits free (three_arguments inner)
  three_fits = plain_fits (both_fits (word_fits kinds.Open refl) (both_fits (h at_or) (both_fits (word_fits kinds.Comma refl)
      (both_fits (h at_or) (both_fits (word_fits kinds.Comma refl) (both_fits (h at_or) (word_fits kinds.Close refl)))))))

  prim_fits : Fits free (prim inner)
  prim_fits = either_fits (plain_fits (word_fits kinds.True refl)) (either_fits (plain_fits (word_fits kinds.False refl))
      (either_fits (plain_fits natural_fits) (either_fits (plain_fits identifier_fits) (either_fits (plain_fits one_fits)
      (either_fits (plain_fits (both_fits (word_fits kinds.Abs refl) one_fits)) (either_fits (plain_fits (both_fits (word_fits kinds.Min refl) two_fits))
      (either_fits (plain_fits (both_fits (word_fits kinds.Max refl) two_fits)) (plain_fits (both_fits (word_fits kinds.Sel refl) three_fits)))))))))

  unary_fits : Fits free (unary inner)
  unary_fits = either_fits (plain_fits (both_fits (word_fits kinds.Dash refl) (h at_unary)))
      (either_fits (plain_fits (both_fits (word_fits kinds.Not refl) (h at_unary))) prim_fits)

  operands_fits : (l : Level) (ks : List TokenKind) → has (map code ks) (code kinds.Outside) ≡ false → Fits {A = Expr × List (Token × Expr)} (λ v. 0 + total (λ w. 1 + 0) v.1) (operands inner l ks)
  operands_fits l ks e = both_fits (h l) (some_fits (both_fits (word_of_fits ks e) (h l)))

  multiplied_fits : Fits free (multiplied inner)
  multiplied_fits = either_fits unary_fits (plain_fits (operands_fits at_unary products refl))

  summed_fits : Fits free (summed inner)
  summed_fits = either_fits multiplied_fits (plain_fits (operands_fits at_product sums refl))

  ordered_fits : Fits free (ordered inner)
  ordered_fits = either_fits summed_fits (plain_fits (both_fits (h at_sum) (both_fits (word_of_fits orders refl) (h at_sum))))

  equated_fits : Fits free (equated inner)
  equated_fits = either_fits ordered_fits (plain_fits (both_fits (h at_order) (both_fits (word_of_fits equalities refl) (h at_order))))

  conjunction_fits : Fits free (conjunction inner)
  conjunction_fits = either_fits equated_fits (plain_fits (operands_fits at_equal (kinds.And ∷ []) refl))

  exclusion_fits : Fits free (exclusion inner)
  exclusion_fits = either_fits conjunction_fits (plain_fits (operands_fits at_and (kinds.Xor ∷ []) refl))

  disjunction_fits : Fits free (disjunction inner)
  disjunction_fits = either_fits exclusion_fits (plain_fits (operands_fits at_xor (kinds.Or ∷ []) refl))

  level_fits : (l : Level) → Fits free (level inner l)
  level_fits at_or = disjunction_fits
  level_fits at_xor = exclusion_fits
  level_fits at_and = conjunction_fits
  level_fits at_equal = equated_fits
  level_fits at_order = ordered_fits
  level_fits at_sum = summed_fits
  level_fits at_product = multiplied_fits
  level_fits at_unary = unary_fits

below_fits : (n : ℕ) (l : Level) → Fits free (below n l)
unfolding below
below_fits zero l e x d = absurd d
below_fits (suc n) l e x d = level_fits (below n) (below_fits n) l e x d

expression_fits : Fits free expression
unfolding expression
expression_fits = disjunction_fits (below max_depth) (below_fits max_depth)

-- ---- statements

assignment_fits : Fits stm_count assignment
assignment_fits = map_fits (both_fits identifier_fits (both_fits (word_fits kinds.Assigns refl) (both_fits expression_fits (word_fits kinds.Semicolon refl)))) stm_count _ (λ v. omega arith)

stms_total : (ss : List Stm) → stms_count (stms_of ss) ≡ total stm_count ss
stms_total [] = refl
stms_total (s ∷ ss) = ap (λ n. stm_count s + n) (stms_total ss)

abbrev guarded_size : Expr × Stms → ℕ
guarded_size g = stms_count g.1

branches_small : (ws : List (Token × (Expr × Stms))) → branches_count (branches_of (map second ws)) ≤ total (λ w. 1 + guarded_size w.1) ws
branches_small [] = omega arith
branches_small (w ∷ ws) = let m = branches_small ws in omega (arith, m)

other_small : (o : Option (Token × List Stm)) → other_count (other_of (without_word o)) ≤ within (λ w. 1 + total stm_count w.1) o
other_small None = omega arith
other_small (Some w) = let e = stms_total w.1 in omega (arith, e)

module _ (body : Lang Token (List Stm)) (b : Fits (total stm_count) body) where
  guarded_fits : (kind : TokenKind) → has (code kind ∷ []) (code kinds.Outside) ≡ false → Fits guarded_size (guarded body kind)
  guarded_fits kind e = map_fits (both_fits expression_fits (both_fits (word_fits kind e) b)) guarded_size _ (λ v. let m = stms_total v.1.1 in omega (arith, m))

  conditional_fits : Fits stm_count (conditional body)
  conditional_fits = map_fits (both_fits (word_fits kinds.If refl) (both_fits (guarded_fits kinds.Then refl) (both_fits (many_fits (both_fits (word_fits kinds.Elsif refl) (guarded_fits kinds.Then refl)))
      (both_fits (optional_fits (both_fits (word_fits kinds.Else refl) b)) (both_fits (word_fits kinds.EndIf refl) (word_fits kinds.Semicolon refl)))))) stm_count _
      (λ v. let m = branches_small v.1.1.0 in let n = other_small v.1.1.1.0 in omega (arith, m, n))

  repetition_fits : Fits stm_count (repetition body)
  repetition_fits = map_fits (both_fits (word_fits kinds.While refl) (both_fits (guarded_fits kinds.Do refl) (both_fits (word_fits kinds.EndWhile refl) (word_fits kinds.Semicolon refl)))) stm_count _ (λ v. omega arith)

statement_fits : (n : ℕ) → Fits stm_count (statement n)
unfolding statement
statement_fits zero s x d = assignment_fits s x d
statement_fits (suc n) s x d =
    let b : Fits (total stm_count) (many (statement n)) = many_fits (statement_fits n) in
    either_fits assignment_fits (either_fits (conditional_fits (many (statement n)) b) (repetition_fits (many (statement n)) b)) s x d

-- ---- declarations

signed_fits : Fits free signed
signed_fits = either_fits (plain_fits (both_fits (word_fits kinds.Dash refl) natural_fits)) natural_fits

first_value_fits : Fits free first_value
first_value_fits = either_fits (plain_fits (word_fits kinds.True refl)) (either_fits (plain_fits (word_fits kinds.False refl)) (plain_fits signed_fits))

type_use_fits : Fits free type_use
type_use_fits = either_fits (plain_fits (word_fits kinds.Bool refl)) (plain_fits (both_fits (word_fits kinds.Lint refl)
    (optional_fits (both_fits (word_fits kinds.Open refl) (both_fits signed_fits (both_fits (word_fits kinds.Dots refl) (both_fits signed_fits (word_fits kinds.Close refl))))))))

abbrev one_each : StVar → ℕ
one_each v = 1

declaration_fits : (k : StClass) → Fits one_each (declaration k)
declaration_fits k = map_fits (both_fits identifier_fits (both_fits (word_fits kinds.Colon refl) (both_fits type_use_fits
    (both_fits (optional_fits (both_fits (word_fits kinds.Assigns refl) first_value_fits)) (word_fits kinds.Semicolon refl))))) one_each _ (λ v. omega arith)

length_total : (vs : List StVar) → length vs ≡ total one_each vs
length_total [] = refl
length_total (v ∷ vs) = let m = length_total vs in omega (arith, m)

block_of_fits : (kind : TokenKind) (k : StClass) → has (code kind ∷ []) (code kinds.Outside) ≡ false → Fits (λ vs. length vs) (block_of kind k)
block_of_fits kind k e = map_fits (both_fits (word_fits kind e) (both_fits (many_fits (declaration_fits k)) (word_fits kinds.EndVar refl))) (λ vs. length vs) _
    (λ v. let m = length_total v.1.0 in omega (arith, m))

block_fits : Fits (λ (vs : List StVar). length vs) block
block_fits = either_fits (block_of_fits kinds.Var class.Plain refl)
    (either_fits (map_fits (both_fits (word_fits kinds.Var refl) (block_of_fits kinds.Constant class.Constant refl)) (λ vs. length vs) _ (λ v. omega arith))
    (either_fits (block_of_fits kinds.VarInput class.Input refl) (block_of_fits kinds.VarOutput class.Output refl)))

flat_total : (vss : List (List StVar)) → length (flat vss) ≡ total (λ vs. length vs) vss
flat_total [] = refl
flat_total (vs ∷ vss) = length-append vs (flat vss) ∙ ap (λ n. length vs + n) (flat_total vss)

-- ---- programs

abbrev program_size : Program → ℕ
program_size p = length p.vars + stms_count p.body

pub whole_fits : (p : Program) (ts : List Token) → whole p ts → (length p.vars + stms_count p.body ≤ length ts) × Inside ts
unfolding whole
whole_fits = map_fits (both_fits (word_fits kinds.Program refl) (both_fits identifier_fits (both_fits (many_fits block_fits) (both_fits (many_fits (statement_fits max_depth)) (word_fits kinds.EndProgram refl))))) program_size _
    (λ v. let m = flat_total v.1.1.0 in let n = stms_total v.1.1.1.0 in omega (arith, m, n))

-- ---- the programs of a text

-- pieces number at most the bytes
pieces_small : (ps : List Piece) (text : Text) → Pieces piece ps text → length ps ≤ length text
pieces_small [] text d = omega arith
pieces_small (p ∷ ps) text d =
    let s = piece_cuts.begins p d.0 d.2 in
    let ih = pieces_small ps d.1 d.5 in
    let bytes : length d.0 ≡ length (s.0 ∷ s.1) = ap (λ (u : Text). length u) s.2 in
    let len : length text ≡ length d.0 + length d.1 = ap (λ (u : Text). length u) d.4 ∙ length-append d.0 d.1 in
    omega arith

tokens_small : (ps : List Piece) → length (filter_map token_of ps) ≤ length ps
tokens_small [] = omega arith
tokens_small (blank ∷ ps) = let m = tokens_small ps in omega arith
tokens_small (comment ∷ ps) = let m = tokens_small ps in omega arith
tokens_small (tokens.word w ∷ ps) = let m = tokens_small ps in omega arith
tokens_small (tokens.number d ∷ ps) = let m = tokens_small ps in omega arith
tokens_small (sign s ∷ ps) = let m = tokens_small ps in omega arith

pub program_small : (text : Text) (p : Program) → Derives text p → (length p.vars ≤ length text) × (stms_count p.body ≤ length text)
program_small text p d =
    let m = whole_fits p d.tokens d.derived in
    let size = m.0 in
    let are : length d.tokens ≡ length (filter_map token_of d.are_tokens.pieces) = ap (λ (ts : List Token). length ts) d.are_tokens.are in
    let few = tokens_small d.are_tokens.pieces in
    let short = pieces_small d.are_tokens.pieces text d.are_tokens.cut in
    (omega arith, omega arith)
