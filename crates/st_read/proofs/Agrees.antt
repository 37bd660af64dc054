-- What is read is what the grammar derives.
use Rattle.std.proofs.Common.{◌≡◌, ℕ, zero, suc, ◌+◌, ◌≤◌, ◌<◌, true, false, List, [], ◌∷◌, ◌++◌, map, Option, refl, ap, ◌∙◌, arith, inl, inr, None}
use Rattle.grammar.specs.Lang.{Lang, ◌&◌, ◌∣◌, ◌<$>◌, many, optional, flat}
use Rattle.grammar.specs.Reader.{Reader, Deep, one_at, flat_at, inside, many_at, both_at, deep_both}
use Rattle.grammar.specs.Sets.{apart}
use Rattle.grammar.proofs.Laws.{Takes}
use Rattle.grammar.proofs.Plain.{one_takes, map_takes, both_takes, either_takes, optional_takes, many_takes, wider, same}
use Rattle.grammar.proofs.Depth.{Nests, IsBelow, flat_nests, deep_map_nests, deep_both_nests, deep_either_nests, inside_nests, none_nests, chain_nests, suffix_nests, whole_takes}
use Rattle.st_ast.specs.Tokens.{Token}
use Rattle.st_ast.specs.declared.kinds.TokenKind.{TokenKind}
use Rattle.st_ast.specs.declared.kinds.TokenKind.TheVariants as kinds
use Rattle.st_ast.specs.Tree.{Expr, number, named, paren, Stm, Stms, choice, stms_of, Program}
use Rattle.st_ast.specs.View.{branches_of, other_of}
use Rattle.st_ast.specs.Grammar.{sort, second, middle, text_of, word, identifier, natural, after_kind, Level, at_or, at_xor, at_and, at_equal, at_order, at_sum, at_product, at_unary, one_argument, two_arguments, three_arguments, prim, unary, multiplied, summed, ordered, equated, conjunction, exclusion, disjunction, level, max_depth, below, expression, without_word, assignment, guarded, conditional, repetition, statement, signed, first_value, type_use, value_of_init, declaration, block_of, block, whole}
use Rattle.st_ast.specs.declared.tree.StVar.{StVar}
use Rattle.st_ast.specs.declared.tree.StLit.{StLit}
use Rattle.st_ast.specs.declared.tree.StLit.TheVariants as lit
use Rattle.st_ast.specs.declared.tree.StClass.{StClass}
use Rattle.st_ast.specs.declared.tree.StClass.TheVariants as class
use Rattle.st_read.specs.Reading.{max_calls, codes_of, first, word_at, flat_word, identifier_at, natural_of, natural_at, truth_of, negation_of, complement_of, absolute_of, least_of, greatest_of, selection_of, two_of, three_of, one_argument_at, two_arguments_at, three_arguments_at, function_at, prim_at, unary_from, operators, made_at, other_at, others_at, joined_at, level_at, levels, unary_at, expression_at, assign_of, assignment_at, guarded_of, choice_of, loop_of, guarded_at, elsif_at, elsifs_at, branches_at, else_at, conditional_at, repetition_at, statement_first, statement_at, statements_at, opposite_of, signed_at, bool_of, first_value_at, bool_type, number_type, subrange_at, type_at, variable_of, init_at, declaration_at, ended_variables, rest_at, block_of_at, plain_at, block_at, block_first, variables_at, made_of, program_at}
use Rattle.grammar.proofs.Loops.{flat_after_none}
use Rattle.st_read.proofs.Mapped.{reads_same, deep_reads_same, many_mapped, joined_first, chain_mapped, single_mapped}

-- ---- what each level begins with, and what makes it go on

abbrev function_first : List ℕ
function_first = codes_of (kinds.Abs ∷ kinds.Min ∷ kinds.Max ∷ kinds.Sel ∷ [])

abbrev prim_first : List ℕ
prim_first = codes_of (kinds.True ∷ kinds.False ∷ kinds.Literal ∷ kinds.Name ∷ kinds.Open ∷ []) ++ function_first

-- what begins an expression
abbrev pub unary_first : List ℕ
unary_first = codes_of (kinds.Dash ∷ kinds.Not ∷ []) ++ prim_first

-- what makes so many levels go on
abbrev goes_on : ℕ → List ℕ
goes_on zero = []
goes_on (suc l) = codes_of (operators l) ++ goes_on l

-- what makes an expression go on
abbrev pub or_goes : List ℕ
or_goes = goes_on levels

-- ---- names and numbers

pub identifier_takes : Takes sort false (first kinds.Name) [] identifier identifier_at
unfolding identifier_at
identifier_takes = map_takes text_of (one_takes sort (first kinds.Name))

pub natural_takes : Takes sort false (first kinds.Literal) [] natural natural_at
unfolding natural_at
natural_takes = map_takes natural_of (one_takes sort (first kinds.Literal))

-- ---- what stands alone or in parentheses

module _ (bound : ℕ) where
  abbrev pub Level_law : List ℕ → (ℕ → Lang Token Expr) → Deep Token Expr → Type 0
  Level_law goes_on p r = Nests sort max_depth bound false unary_first goes_on p r

  word_nests : (kind : TokenKind) → Nests sort max_depth bound false (first kind) [] (λ n. word kind) (flat_word kind)
  word_nests kind = flat_nests (one_takes sort (first kind))

  module _ (within : Deep Token Expr) (w : Level_law or_goes (λ n. below n at_or) within) where
    one_nests : Nests sort max_depth bound false (first kinds.Open) [] (λ n. one_argument (below n)) (one_argument_at within)
    unfolding one_argument_at
    one_nests = deep_map_nests middle (deep_both_nests (word_nests kinds.Open) refl (deep_both_nests w refl (word_nests kinds.Close)))

    two_nests : Nests sort max_depth bound false (first kinds.Open) [] (λ n. two_arguments (below n)) (two_arguments_at within)
    unfolding two_arguments_at
    two_nests = deep_map_nests two_of (deep_both_nests (word_nests kinds.Open) refl (deep_both_nests w refl
        (deep_both_nests (word_nests kinds.Comma) refl (deep_both_nests w refl (word_nests kinds.Close)))))

    three_nests : Nests sort max_depth bound false (first kinds.Open) [] (λ n. three_arguments (below n)) (three_arguments_at within)
    unfolding three_arguments_at
    three_nests = deep_map_nests three_of (deep_both_nests (word_nests kinds.Open) refl (deep_both_nests w refl
        (deep_both_nests (word_nests kinds.Comma) refl (deep_both_nests w refl
        (deep_both_nests (word_nests kinds.Comma) refl (deep_both_nests w refl (word_nests kinds.Close)))))))

    -- each function begins with a word of its own
    functions : Level → ℕ → Lang Token Expr
    functions l n = absolute_of <$> word kinds.Abs & one_argument (below n)
        ∣ least_of <$> word kinds.Min & two_arguments (below n)
        ∣ greatest_of <$> word kinds.Max & two_arguments (below n)
        ∣ selection_of <$> word kinds.Sel & three_arguments (below n)

    function_nests : Nests sort max_depth bound false function_first [] (functions at_or) (function_at within)
    unfolding function_at functions
    function_nests = deep_either_nests (deep_map_nests absolute_of (deep_both_nests (word_nests kinds.Abs) refl one_nests)) refl
        (deep_either_nests (deep_map_nests least_of (deep_both_nests (word_nests kinds.Min) refl two_nests)) refl
        (deep_either_nests (deep_map_nests greatest_of (deep_both_nests (word_nests kinds.Max) refl two_nests)) refl
        (deep_map_nests selection_of (deep_both_nests (word_nests kinds.Sel) refl three_nests))))

    prim_nests : Nests sort max_depth bound false prim_first [] (λ n. prim (below n)) (prim_at within)
    unfolding prim_at functions
    prim_nests = deep_either_nests (deep_map_nests (truth_of true) (word_nests kinds.True)) refl
        (deep_either_nests (deep_map_nests (truth_of false) (word_nests kinds.False)) refl
        (deep_either_nests (deep_map_nests number (flat_nests natural_takes)) refl
        (deep_either_nests (deep_map_nests named (flat_nests identifier_takes)) refl
        (deep_either_nests (deep_map_nests paren one_nests) refl
        function_nests))))

    pub unary_nests : (operand : Deep Token Expr) → Level_law [] (λ n. below n at_unary) operand → Level_law [] (λ n. unary (below n)) (unary_from within operand)
    unfolding unary_from
    unary_nests operand u = deep_either_nests (deep_map_nests negation_of (deep_both_nests (word_nests kinds.Dash) refl u)) refl
        (deep_either_nests (deep_map_nests complement_of (deep_both_nests (word_nests kinds.Not) refl u)) refl prim_nests)

-- ---- the levels of operators

-- what stands inside a form of a level is the level itself, at less depth
below_is : (l : Level) → IsBelow (λ n. level (below n) l) (λ n. below n l)
unfolding below
below_is l = record { nothing = λ a x d. d; opens = λ m a x d. d; closes = λ m a x d. d }

-- an operator of a level and an operand inside
abbrev tail_at : ℕ → Deep Token Expr → Deep Token (Token × Expr)
tail_at l r = deep_both (flat_at (one_at sort (codes_of (operators l)))) (inside max_depth r)

module _ (bound : ℕ) (c : bound ≤ max_depth + 1) where
  deeper : (l : Level) (goes : List ℕ) (r : Deep Token Expr) → Level_law bound goes (λ n. level (below n) l) r → Level_law bound goes (λ n. below n l) (inside max_depth r)
  deeper l goes r h = inside_nests bound (λ n. below n l) (below_is l) (omega arith) c h

  module _ (u : Deep Token Expr) (h : Level_law bound [] (λ n. unary (below n)) u) where
    -- the reader of so many levels
    abbrev up : ℕ → Deep Token Expr
    up l = level_at l u

    product_nests : Level_law bound (goes_on 1) (λ n. multiplied (below n)) (up 1)
    unfolding level_at joined_at others_at other_at
    product_nests = deep_reads_same (chain_mapped sort (codes_of (operators 0)) max_depth after_kind (up 0) (tail_at 0 (up 0)) (made_at 0))
        (chain_nests (λ e more. made_at 0 e (map after_kind more)) (λ n. below n at_unary) (goes_on 1) (below_is at_unary) c h refl refl
        (deep_both_nests (flat_nests (one_takes sort (codes_of (operators 0)))) refl (deeper at_unary [] (up 0) h)) refl refl)

    sum_nests : Level_law bound (goes_on 2) (λ n. summed (below n)) (up 2)
    unfolding level_at joined_at others_at other_at
    sum_nests = deep_reads_same (chain_mapped sort (codes_of (operators 1)) max_depth after_kind (up 1) (tail_at 1 (up 1)) (made_at 1))
        (chain_nests (λ e more. made_at 1 e (map after_kind more)) (λ n. below n at_product) (goes_on 2) (below_is at_product) c product_nests refl refl
        (deep_both_nests (flat_nests (one_takes sort (codes_of (operators 1)))) refl (deeper at_product (goes_on 1) (up 1) product_nests)) refl refl)

    order_nests : Level_law bound (goes_on 3) (λ n. ordered (below n)) (up 3)
    unfolding level_at joined_at others_at other_at
    order_nests = deep_reads_same (single_mapped sort (codes_of (operators 2)) max_depth after_kind (up 2) (tail_at 2 (up 2)) (made_at 2))
        (suffix_nests (λ e v. made_at 2 e (after_kind v ∷ [])) (λ n. below n at_sum) (goes_on 3) (below_is at_sum) c sum_nests refl
        (deep_both_nests (flat_nests (one_takes sort (codes_of (operators 2)))) refl (deeper at_sum (goes_on 2) (up 2) sum_nests)) refl refl)

    equal_nests : Level_law bound (goes_on 4) (λ n. equated (below n)) (up 4)
    unfolding level_at joined_at others_at other_at
    equal_nests = deep_reads_same (single_mapped sort (codes_of (operators 3)) max_depth after_kind (up 3) (tail_at 3 (up 3)) (made_at 3))
        (suffix_nests (λ e v. made_at 3 e (after_kind v ∷ [])) (λ n. below n at_order) (goes_on 4) (below_is at_order) c order_nests refl
        (deep_both_nests (flat_nests (one_takes sort (codes_of (operators 3)))) refl (deeper at_order (goes_on 3) (up 3) order_nests)) refl refl)

    and_nests : Level_law bound (goes_on 5) (λ n. conjunction (below n)) (up 5)
    unfolding level_at joined_at others_at other_at
    and_nests = deep_reads_same (chain_mapped sort (codes_of (operators 4)) max_depth after_kind (up 4) (tail_at 4 (up 4)) (made_at 4))
        (chain_nests (λ e more. made_at 4 e (map after_kind more)) (λ n. below n at_equal) (goes_on 5) (below_is at_equal) c equal_nests refl refl
        (deep_both_nests (flat_nests (one_takes sort (codes_of (operators 4)))) refl (deeper at_equal (goes_on 4) (up 4) equal_nests)) refl refl)

    xor_nests : Level_law bound (goes_on 6) (λ n. exclusion (below n)) (up 6)
    unfolding level_at joined_at others_at other_at
    xor_nests = deep_reads_same (chain_mapped sort (codes_of (operators 5)) max_depth after_kind (up 5) (tail_at 5 (up 5)) (made_at 5))
        (chain_nests (λ e more. made_at 5 e (map after_kind more)) (λ n. below n at_and) (goes_on 6) (below_is at_and) c and_nests refl refl
        (deep_both_nests (flat_nests (one_takes sort (codes_of (operators 5)))) refl (deeper at_and (goes_on 5) (up 5) and_nests)) refl refl)

    pub or_nests : Level_law bound or_goes (λ n. disjunction (below n)) (up levels)
    unfolding level_at joined_at others_at other_at
    or_nests = deep_reads_same (chain_mapped sort (codes_of (operators 6)) max_depth after_kind (up 6) (tail_at 6 (up 6)) (made_at 6))
        (chain_nests (λ e more. made_at 6 e (map after_kind more)) (λ n. below n at_xor) or_goes (below_is at_xor) c xor_nests refl refl
        (deep_both_nests (flat_nests (one_takes sort (codes_of (operators 6)))) refl (deeper at_xor (goes_on 6) (up 6) xor_nests)) refl refl)

pub unary_at_nests : (bound : ℕ) → bound ≤ max_depth + 1 → Level_law bound [] (λ n. unary (below n)) (unary_at bound)
unfolding unary_at
unary_at_nests zero c = none_nests (λ n. unary (below n))
unary_at_nests (suc n) c =
    let less_fuel : n ≤ max_depth + 1 = omega arith in
    let h = unary_at_nests n less_fuel in
    unary_nests (suc n) (inside max_depth (level_at levels (unary_at n))) (inside_nests (suc n) (λ m. below m at_or) (below_is at_or) (omega arith) c (or_nests n less_fuel (unary_at n) h))
    (inside max_depth (unary_at n)) (inside_nests (suc n) (λ m. below m at_unary) (below_is at_unary) (omega arith) c h)

or_law : Nests sort max_depth max_calls false unary_first or_goes (λ n. disjunction (below n)) (level_at levels (unary_at max_calls))
or_law = let c : max_calls ≤ max_depth + 1 = omega arith in or_nests max_calls c (unary_at max_calls) (unary_at_nests max_calls c)

pub expression_takes : Takes sort false unary_first or_goes expression expression_at
unfolding expression expression_at
expression_takes = let c : max_depth < max_calls = omega arith in whole_takes c or_law

-- ---- statements

pub assignment_takes : Takes sort false (first kinds.Name) [] assignment assignment_at
unfolding assignment_at
assignment_takes = map_takes assign_of (both_takes identifier_takes refl (both_takes (one_takes sort (first kinds.Assigns)) refl
    (both_takes expression_takes refl (one_takes sort (first kinds.Semicolon)))))

module _ (body : Lang Token (List Stm)) (body_at : Reader Token (List Stm)) (b : Takes sort true statement_first statement_first body body_at) where
  guarded_takes : (kind : TokenKind) → apart (first kind) or_goes ≡ true → Takes sort false unary_first statement_first (guarded body kind) (guarded_at body_at kind)
  unfolding guarded_at
  guarded_takes kind e = map_takes guarded_of (both_takes expression_takes e (both_takes (one_takes sort (first kind)) refl b))

  elsifs_takes : Takes sort true (first kinds.Elsif) (first kinds.Elsif ++ statement_first) (map second <$> many (word kinds.Elsif & guarded body kinds.Then)) (elsifs_at body_at)
  unfolding elsif_at
  elsifs_takes = reads_same (many_mapped sort (first kinds.Elsif) second (both_at (word_at kinds.Elsif) (guarded_at body_at kinds.Then)))
      (map_takes (map second) (many_takes refl (both_takes (one_takes sort (first kinds.Elsif)) refl (guarded_takes kinds.Then refl))))

  else_takes : Takes sort true (first kinds.Else) (first kinds.Else ++ statement_first) (without_word <$> optional (word kinds.Else & body)) (else_at body_at)
  unfolding else_at
  else_takes = map_takes without_word (optional_takes (both_takes (one_takes sort (first kinds.Else)) refl b))

  abbrev chosen : Token × ((Expr × Stms) × (List (Expr × Stms) × (Option (List Stm) × (Token × Token)))) → Stm
  chosen v = choice_of (v.0, (v.1.0 ∷ v.1.1.0, v.1.1.1))

  -- with the words before the parts dropped
  abbrev stripped : Lang Token Stm
  stripped = chosen <$> word kinds.If & guarded body kinds.Then & (map second <$> many (word kinds.Elsif & guarded body kinds.Then)) & (without_word <$> optional (word kinds.Else & body)) & word kinds.EndIf & word kinds.Semicolon

  conditional-stripped : (s : Stm) (x : List Token) → conditional body s x → stripped s x
  conditional-stripped s x ((v0, (v1, (v2, (v3, v4)))), (a, b, d, (a1, b1, d1, (a2, b2, d2, (a3, b3, d3, d4, e3), e2), e1), e), is) =
      ((v0, (v1, (map second v2, (without_word v3, v4)))), (a, b, d, (a1, b1, d1, (a2, b2, (v2, d2, refl), (a3, b3, (v3, d3, refl), d4, e3), e2), e1), e), is)

  stripped-conditional : (s : Stm) (x : List Token) → stripped s x → conditional body s x
  stripped-conditional s x ((v0, (v1, (v2, (v3, v4)))), (a, b, d, (a1, b1, d1, (a2, b2, (w2, d2, is2), (a3, b3, (w3, d3, is3), d4, e3), e2), e1), e), is) = (
    (v0, (v1, (w2, (w3, v4)))),
    (a, b, d, (a1, b1, d1, (a2, b2, d2, (a3, b3, d3, d4, e3), e2), e1), e),
    is ∙ ap (λ (bs : List (Expr × Stms)). choice (branches_of (v1 ∷ bs)) (other_of v3)) is2
        ∙ ap (λ (o : Option (List Stm)). choice (branches_of (v1 ∷ map second w2)) (other_of o)) is3,
  )

  conditional_takes : Takes sort false (first kinds.If) [] (conditional body) (conditional_at body_at)
  unfolding conditional_at branches_at
  conditional_takes = reads_same (joined_first (word_at kinds.If) (guarded_at body_at kinds.Then) (elsifs_at body_at) (both_at (else_at body_at) (both_at (word_at kinds.EndIf) (word_at kinds.Semicolon))) (λ p. p.0 ∷ p.1) choice_of)
      (same conditional-stripped stripped-conditional
      (map_takes chosen (both_takes (one_takes sort (first kinds.If)) refl (both_takes (guarded_takes kinds.Then refl) refl
      (both_takes elsifs_takes refl (both_takes else_takes refl
      (both_takes (one_takes sort (first kinds.EndIf)) refl (one_takes sort (first kinds.Semicolon)))))))))

  repetition_takes : Takes sort false (first kinds.While) [] (repetition body) (repetition_at body_at)
  unfolding repetition_at
  repetition_takes = map_takes loop_of (both_takes (one_takes sort (first kinds.While)) refl (both_takes (guarded_takes kinds.Do refl) refl
      (both_takes (one_takes sort (first kinds.EndWhile)) refl (one_takes sort (first kinds.Semicolon)))))

pub statement_takes : (n : ℕ) → Takes sort false statement_first [] (statement n) (statement_at n)
unfolding statement statement_at
statement_takes zero = wider statement_first [] refl refl assignment_takes
statement_takes (suc n) = either_takes assignment_takes refl
    (either_takes (conditional_takes (many (statement n)) (many_at sort statement_first (statement_at n)) (many_takes refl (statement_takes n))) refl
    (repetition_takes (many (statement n)) (many_at sort statement_first (statement_at n)) (many_takes refl (statement_takes n))))

-- any number of statements
pub statements_takes : (n : ℕ) → Takes sort true statement_first statement_first (many (statement n)) (statements_at n)
statements_takes n = many_takes refl (statement_takes n)

-- ---- declarations

signed_takes : Takes sort false (codes_of (kinds.Dash ∷ kinds.Literal ∷ [])) [] signed signed_at
unfolding signed_at
signed_takes = either_takes (map_takes opposite_of (both_takes (one_takes sort (first kinds.Dash)) refl natural_takes)) refl natural_takes

first_value_takes : Takes sort false (codes_of (kinds.True ∷ kinds.False ∷ kinds.Dash ∷ kinds.Literal ∷ [])) [] first_value first_value_at
unfolding first_value_at
first_value_takes = either_takes (map_takes (bool_of true) (one_takes sort (first kinds.True))) refl
    (either_takes (map_takes (bool_of false) (one_takes sort (first kinds.False))) refl
    (map_takes lit.Int signed_takes))

subrange_takes : Takes sort true (first kinds.Open) (first kinds.Open) (optional (word kinds.Open & signed & word kinds.Dots & signed & word kinds.Close)) subrange_at
unfolding subrange_at
subrange_takes = optional_takes (both_takes (one_takes sort (first kinds.Open)) refl (both_takes signed_takes refl
    (both_takes (one_takes sort (first kinds.Dots)) refl (both_takes signed_takes refl (one_takes sort (first kinds.Close))))))

type_takes : Takes sort false (codes_of (kinds.Bool ∷ kinds.Lint ∷ [])) (first kinds.Open) type_use type_at
unfolding type_at
type_takes = either_takes (map_takes bool_type (one_takes sort (first kinds.Bool))) refl
    (map_takes number_type (both_takes (one_takes sort (first kinds.Lint)) refl subrange_takes))

init_takes : Takes sort true (first kinds.Assigns) (first kinds.Assigns) (value_of_init <$> optional (word kinds.Assigns & first_value)) init_at
unfolding init_at
init_takes = map_takes value_of_init (optional_takes (both_takes (one_takes sort (first kinds.Assigns)) refl first_value_takes))

-- with the sign before the first value dropped
abbrev valued : StClass → Lang Token StVar
valued k = variable_of k <$> identifier & word kinds.Colon & type_use & (value_of_init <$> optional (word kinds.Assigns & first_value)) & word kinds.Semicolon

declaration-valued : (k : StClass) (v : StVar) (x : List Token) → declaration k v x → valued k v x
declaration-valued k v x ((v0, (v1, (v2, (v3, v4)))), (a, b, d, (a1, b1, d1, (a2, b2, d2, (a3, b3, d3, d4, e3), e2), e1), e), is) =
    ((v0, (v1, (v2, (value_of_init v3, v4)))), (a, b, d, (a1, b1, d1, (a2, b2, d2, (a3, b3, (v3, d3, refl), d4, e3), e2), e1), e), is)

valued-declaration : (k : StClass) (v : StVar) (x : List Token) → valued k v x → declaration k v x
valued-declaration k v x ((v0, (v1, (v2, (v3, v4)))), (a, b, d, (a1, b1, d1, (a2, b2, d2, (a3, b3, (w3, d3, is3), d4, e3), e2), e1), e), is) = (
  (v0, (v1, (v2, (w3, v4)))),
  (a, b, d, (a1, b1, d1, (a2, b2, d2, (a3, b3, d3, d4, e3), e2), e1), e),
  is ∙ ap (λ (o : Option StLit). record { name = v0; class = k; ty = v2; init = o; at = None }) is3,
)

pub declaration_takes : (k : StClass) → Takes sort false (first kinds.Name) [] (declaration k) (declaration_at k)
unfolding declaration_at
declaration_takes k = same (declaration-valued k) (valued-declaration k) (map_takes (variable_of k) (both_takes identifier_takes refl (both_takes (one_takes sort (first kinds.Colon)) refl
    (both_takes type_takes refl (both_takes init_takes refl (one_takes sort (first kinds.Semicolon)))))))

-- a block after its first word
abbrev rest : StClass → Lang Token (List StVar)
rest k = ended_variables <$> many (declaration k) & word kinds.EndVar

rest_takes : (k : StClass) → Takes sort false (codes_of (kinds.Name ∷ kinds.EndVar ∷ [])) [] (rest k) (rest_at k)
unfolding rest_at
rest_takes k = map_takes ended_variables (both_takes (many_takes refl (declaration_takes k)) refl (one_takes sort (first kinds.EndVar)))

abbrev opened : TokenKind → StClass → Lang Token (List StVar)
opened kind k = second <$> word kind & rest k

block-opened : (kind : TokenKind) (k : StClass) (vs : List StVar) (x : List Token) → block_of kind k vs x → opened kind k vs x
block-opened kind k vs x ((w, (us, e)), (a, b, d, more, is), eq) = ((w, us), (a, b, d, ((us, e), more, refl), is), eq)

opened-block : (kind : TokenKind) (k : StClass) (vs : List StVar) (x : List Token) → opened kind k vs x → block_of kind k vs x
opened-block kind k vs x ((w, us), (a, b, d, ((ws, e), more, same_list), is), eq) = ((w, (ws, e)), (a, b, d, more, is), eq ∙ same_list)

block_of_takes : (kind : TokenKind) (k : StClass) → Takes sort false (first kind) [] (block_of kind k) (block_of_at kind k)
unfolding block_of_at
block_of_takes kind k = same (block-opened kind k) (opened-block kind k) (map_takes second (both_takes (one_takes sort (first kind)) refl (rest_takes k)))

-- what stands after VAR
abbrev plain : Lang Token (List StVar)
plain = block_of kinds.Constant class.Constant ∣ rest class.Plain

plain_takes : Takes sort false (codes_of (kinds.Constant ∷ kinds.Name ∷ kinds.EndVar ∷ [])) [] plain plain_at
unfolding plain_at
plain_takes = either_takes (block_of_takes kinds.Constant class.Constant) refl (rest_takes class.Plain)

abbrev factored : Lang Token (List StVar)
factored = second <$> word kinds.Var & plain ∣ block_of kinds.VarInput class.Input ∣ block_of kinds.VarOutput class.Output

block-factored : (vs : List StVar) (x : List Token) → block vs x → factored vs x
block-factored vs x (inl d) =
    let o = block-opened kinds.Var class.Plain vs x d in
    inl ((o.0.0, o.0.1), (o.1.0, o.1.1, o.1.2, inr o.1.3, o.1.4), o.2)
block-factored vs x (inr (inl d)) = inl ((d.0.0, d.0.1), (d.1.0, d.1.1, d.1.2, inl d.1.3, d.1.4), d.2)
block-factored vs x (inr (inr d)) = inr d

factored-block : (vs : List StVar) (x : List Token) → factored vs x → block vs x
factored-block vs x (inl ((w, us), (a, b, d, inl more, is), eq)) = inr (inl ((w, us), (a, b, d, more, is), eq))
factored-block vs x (inl ((w, us), (a, b, d, inr more, is), eq)) = inl (opened-block kinds.Var class.Plain vs x ((w, us), (a, b, d, more, is), eq))
factored-block vs x (inr d) = inr (inr d)

pub block_takes : Takes sort false block_first [] block block_at
unfolding block_at
block_takes = same block-factored factored-block
    (either_takes (map_takes second (both_takes (one_takes sort (first kinds.Var)) refl plain_takes)) refl
    (either_takes (block_of_takes kinds.VarInput class.Input) refl (block_of_takes kinds.VarOutput class.Output)))

-- ---- programs

variables_takes : Takes sort true block_first block_first (flat <$> many block) variables_at
unfolding variables_at
variables_takes = reads_same (λ ts. flat_after_none (many_at sort block_first block_at ts)) (map_takes flat (many_takes refl block_takes))

-- with the declarations of all blocks as one list
abbrev flattened : Lang Token Program
flattened = made_of <$> word kinds.Program & identifier & (flat <$> many block) & many (statement max_depth) & word kinds.EndProgram

whole-flattened : (p : Program) (x : List Token) → whole p x → flattened p x
unfolding whole
whole-flattened p x ((v0, (v1, (v2, (v3, v4)))), (a, b, d, (a1, b1, d1, (a2, b2, d2, (a3, b3, d3, d4, e3), e2), e1), e), is) =
    ((v0, (v1, (flat v2, (v3, v4)))), (a, b, d, (a1, b1, d1, (a2, b2, (v2, d2, refl), (a3, b3, d3, d4, e3), e2), e1), e), is)

flattened-whole : (p : Program) (x : List Token) → flattened p x → whole p x
unfolding whole
flattened-whole p x ((v0, (v1, (v2, (v3, v4)))), (a, b, d, (a1, b1, d1, (a2, b2, (w2, d2, is2), (a3, b3, d3, d4, e3), e2), e1), e), is) = (
  (v0, (v1, (w2, (v3, v4)))),
  (a, b, d, (a1, b1, d1, (a2, b2, d2, (a3, b3, d3, d4, e3), e2), e1), e),
  is ∙ ap (λ (vars : List StVar). record { name = v1; vars = vars; body = stms_of v3 }) is2,
)

pub program_takes : Takes sort false (first kinds.Program) [] whole program_at
unfolding program_at
program_takes = same whole-flattened flattened-whole (map_takes made_of (both_takes (one_takes sort (first kinds.Program)) refl (both_takes identifier_takes refl (both_takes variables_takes refl
    (both_takes (statements_takes max_depth) refl (one_takes sort (first kinds.EndProgram)))))))
