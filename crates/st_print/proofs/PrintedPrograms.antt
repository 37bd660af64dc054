-- The printed text of a program that has a spelling derives it.
use Rattle.std.proofs.Common.{◌≡◌, ◌&&◌, true, List, [], ◌∷◌, refl, sym, subst, ◌∙◌, append-nil, Result, Ok, Err}
use Rattle.std.specs.Prelude.{codes, IfOk}
use Rattle.grammar.specs.Lang.{flat}
use Rattle.grammar.specs.Pieces.{Text}
use Rattle.st_ast.specs.Tokens.{Token}
use Rattle.st_ast.specs.declared.kinds.TokenKind.TheVariants as kinds
use Rattle.st_ast.specs.declared.tree.StVar.{StVar}
use Rattle.st_ast.specs.Grammar.{whole, max_depth}
use Rattle.st_ast.specs.ReadsAs as reads
use Rattle.st_ast.specs.Spelled.{is_name, are_stms, are_declarations, is_spelled}
use Rattle.st_ast.specs.Tree.{Stm, Stms, stms_of, Program}
use Rattle.st_read.proofs.Whole.{one_derives}
use Rattle.st_print.specs.Layout.{Mark, variables_marks, stms_marks, program_marks, printed}
use Rattle.st_print.specs.Layout as mark
use Rattle.st_print.specs.Marks.{tokens_of}
use Rattle.st_print.proofs.Derived.{Derives, both_derive, map_derives, line_derives}
use Rattle.st_print.proofs.PrintedExpressions.{parts, word_derives, identifier_derives}
use Rattle.st_print.proofs.PrintedStatements.{list_of, stms_of-list_of, stms_derive}
use Rattle.st_print.proofs.PrintedVariables.{variables_derive, flat-blocks_of}
use Rattle.st_print.proofs.MarksLaws.{marks-tokens}

-- the marks but for the last line break
abbrev marks_before : Program → List Mark → List Mark
marks_before p ms = mark.word (codes "PROGRAM") ∷ mark.word p.name ∷ variables_marks p.vars (stms_marks 0 p.body (mark.line 0 ∷ mark.word (codes "END_PROGRAM") ∷ ms))

whole_derives : (p : Program) → is_spelled p ≡ true → Derives whole p (λ ms. marks_before p ms)
unfolding whole
whole_derives p r =
    let s = parts (is_name p.name) (are_declarations p.vars && are_stms max_depth p.body) r in
    let t = parts (are_declarations p.vars) (are_stms max_depth p.body) s.1 in
    let d = both_derive (word_derives kinds.Program (codes "PROGRAM") refl refl) (both_derive (identifier_derives p.name s.0)
    (both_derive (variables_derive p.vars t.0) (both_derive (stms_derive max_depth 0 p.body t.1) (line_derives 0 (word_derives kinds.EndProgram (codes "END_PROGRAM") refl refl))))) in
    let e = map_derives (λ ((w, (x, (blocks, (ss, end)))) : Token × (Text × (List (List StVar) × (List Stm × Token)))). record { name = x; vars = flat blocks; body = stms_of ss }) d in
    let f = subst (λ (vs : List StVar). Derives whole (record { name = p.name; vars = vs; body = stms_of (list_of p.body) }) (λ ms. marks_before p ms)) (flat-blocks_of p.vars) e in
    subst (λ (ss : Stms). Derives whole (record { name = p.name; vars = p.vars; body = ss }) (λ ms. marks_before p ms)) (stms_of-list_of p.body) f

pub printed_derives : (p : Program) → is_spelled p ≡ true → reads.Derives (printed p) p
printed_derives p r =
    let d = whole_derives p r in
    record {
      tokens = tokens_of (program_marks p);
      are_tokens = marks-tokens (program_marks p) (d.good (mark.line 0 ∷ []) (refl, tt));
      derived = subst (λ ts. whole p ts) (sym (d.is (mark.line 0 ∷ []) ∙ append-nil d.text)) d.derived;
    }

-- it reads as the program, and as no other
pub reads_back : (p : Program) → is_spelled p ≡ true → reads.ReadsBack (printed p) p
reads_back p r =
    let d = printed_derives p r in
    record {
      derives = d;
      reads = λ e. record { derives = d; checked = e };
      derives_no_other = λ q other. one_derives (printed p) q p other d;
      reads_as_no_other = λ q other. one_derives (printed p) q p other.derives d;
    }

pub read_again : {V E : Type 0} (items : V → Text) (p : Program) → is_spelled p ≡ true → (r : Result V E) → IfOk r (λ t. items t ≡ printed p) → IfOk r (λ t. reads.ReadsBack (items t) p)
read_again items p s (Ok t) e = subst (λ u. reads.ReadsBack u p) (sym e) (reads_back p s)
read_again items p s (Err e) h = tt
