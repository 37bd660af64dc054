-- Worked examples of blocks of declarations as they are read, by computation: from the text to the program. That what is
-- read so is what the grammar derives, and nothing else is, are the laws `pieces_found` of `st_read` and `read_derives` and
-- `none_derives` of `st_read`.
use Rattle.std.proofs.Common.{◌≡◌, pos, negsuc, true, List, [], ◌∷◌, Some, None, refl}
use Rattle.std.specs.Prelude.{codes, map, Option, filter_map}
use Rattle.grammar.specs.Pieces.{Text, cut_from, cut_all, rest_after}
use Rattle.grammar.specs.Reader.{one_at, many_from, deep_from}
use Rattle.st_read.specs.Cutting.{piece_cut}
use Rattle.st_ast.specs.Tokens.{Piece, token_of}
use Rattle.st_ast.specs.Tree.{no_stms, Program}
use Rattle.st_ast.specs.declared.tree.StVar.{StVar}
use Rattle.st_ast.specs.declared.tree.StTy.TheVariants as ty
use Rattle.st_ast.specs.declared.tree.StLit.TheVariants as lit
use Rattle.st_ast.specs.declared.tree.StClass.{StClass}
use Rattle.st_ast.specs.declared.tree.StClass.TheVariants as class
use Rattle.st_read.specs.Reading.{program_of, program_at, variables_at, block_at, plain_at, block_of_at, rest_at, declaration_at, init_at, type_at, subrange_at, first_value_at, signed_at, natural_at, identifier_at, statement_at, assignment_at, expression_at, level_at, joined_at, unary_at, unary_from, prim_at, others_at}

abbrev read_pieces : Option (List Piece) → Option Program
read_pieces None = None
read_pieces (Some ps) = program_of (filter_map token_of ps)

-- the program that a text reads as, before its names and types are looked at
abbrev read_text : Text → Option Program
read_text text = read_pieces (cut_all piece_cut text)

abbrev with_variables : List StVar → Option Program
with_variables vars = Some (record { name = codes "P"; vars = vars; body = no_stms })

abbrev truth_variable : Text → StClass → StVar
truth_variable name k = record { name = name; class = k; ty = ty.Bool; init = None; at = None }

each_block_gives_its_class : map read_text (
    codes "PROGRAM P END_PROGRAM"
    ∷ codes "PROGRAM P VAR a : BOOL; b : BOOL; END_VAR END_PROGRAM"
    ∷ codes "PROGRAM P VAR CONSTANT c : BOOL; END_VAR END_PROGRAM"
    ∷ codes "PROGRAM P VAR_INPUT i : BOOL; END_VAR END_PROGRAM"
    ∷ codes "PROGRAM P VAR_OUTPUT o : BOOL; END_VAR END_PROGRAM"
    ∷ []) ≡
    with_variables []
    ∷ with_variables (truth_variable (codes "a") class.Plain ∷ truth_variable (codes "b") class.Plain ∷ [])
    ∷ with_variables (truth_variable (codes "c") class.Constant ∷ [])
    ∷ with_variables (truth_variable (codes "i") class.Input ∷ [])
    ∷ with_variables (truth_variable (codes "o") class.Output ∷ [])
    ∷ []
unfolding program_of program_at variables_at block_at plain_at block_of_at rest_at declaration_at init_at first_value_at type_at subrange_at signed_at natural_at identifier_at statement_at assignment_at one_at many_from cut_all cut_from piece_cut rest_after
each_block_gives_its_class = refl

blocks_come_in_any_order : read_text (codes "PROGRAM P VAR_OUTPUT o : BOOL; END_VAR VAR END_VAR VAR_INPUT i : BOOL; END_VAR VAR_OUTPUT p : BOOL; END_VAR END_PROGRAM")
    ≡ with_variables (truth_variable (codes "o") class.Output ∷ truth_variable (codes "i") class.Input ∷ truth_variable (codes "p") class.Output ∷ [])
unfolding program_of program_at variables_at block_at plain_at block_of_at rest_at declaration_at init_at first_value_at type_at subrange_at signed_at natural_at identifier_at statement_at assignment_at one_at many_from cut_all cut_from piece_cut rest_after
blocks_come_in_any_order = refl

types_and_first_values : read_text (codes "PROGRAM P VAR a : BOOL := TRUE; n : LINT := 2; m : LINT (-2 .. 3) := -1; END_VAR END_PROGRAM")
    ≡ with_variables (
    record { name = codes "a"; class = class.Plain; ty = ty.Bool; init = Some (lit.Bool true); at = None }
    ∷ record { name = codes "n"; class = class.Plain; ty = ty.Lint; init = Some (lit.Int (pos 2)); at = None }
    ∷ record { name = codes "m"; class = class.Plain; ty = ty.Range (negsuc 1) (pos 3); init = Some (lit.Int (negsuc 0)); at = None }
    ∷ [])
unfolding program_of program_at variables_at block_at plain_at block_of_at rest_at declaration_at init_at first_value_at type_at subrange_at signed_at natural_at identifier_at statement_at assignment_at one_at many_from cut_all cut_from piece_cut rest_after
types_and_first_values = refl

-- a constant input, a block behind a statement, a block without its end, a declaration without `;`
no_such_blocks : map read_text (
    codes "PROGRAM P VAR_INPUT CONSTANT i : BOOL; END_VAR END_PROGRAM"
    ∷ codes "PROGRAM P x := TRUE; VAR END_VAR END_PROGRAM"
    ∷ codes "PROGRAM P VAR a : BOOL; END_PROGRAM"
    ∷ codes "PROGRAM P VAR a : BOOL END_VAR END_PROGRAM"
    ∷ []) ≡ None ∷ None ∷ None ∷ None ∷ []
unfolding program_of program_at variables_at block_at plain_at block_of_at rest_at declaration_at init_at first_value_at type_at subrange_at signed_at natural_at identifier_at statement_at assignment_at one_at many_from cut_all cut_from piece_cut rest_after expression_at level_at joined_at unary_at unary_from prim_at others_at deep_from
no_such_blocks = refl
