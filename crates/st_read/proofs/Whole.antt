-- A list of tokens derives at most one program, and a text reads as at most one.
use Rattle.std.proofs.Common.{◌≡◌, List, [], ◌∷◌, Some, None, refl, sym, ap, subst, ◌∙◌, append-nil}
use Rattle.grammar.specs.Pieces.{Text}
use Rattle.grammar.specs.Reader.{Read}
use Rattle.st_ast.specs.Tokens.{Token}
use Rattle.st_ast.specs.Tree.{Program}
use Rattle.st_ast.specs.Grammar.{whole}
use Rattle.st_ast.specs.ReadsAs.{Derives, ReadsAsProgram}
use Rattle.st_read.proofs.CuttingLaws.{token_lists_agree}
use Rattle.st_read.specs.Reading.{program_at, ended, finished, program_of}
use Rattle.st_read.proofs.Agrees.{program_takes}

finished_some : (read : Read Token Program) (p : Program) → finished read ≡ Some p → read ≡ Some (p, [])
finished_some None p g = absurd cc
finished_some (Some q) p g = go q.1 refl g
  where
    go : (us : List Token) → q.1 ≡ us → ended q.0 us ≡ Some p → Some q ≡ Some (p, [])
    go [] is g = let same : q.0 ≡ p = cc in ap (λ us. Some (q.0, us)) is ∙ ap (λ (v : Program). Some (v, [])) same
    go (t ∷ us) is g = absurd cc

-- the tokens that are read derive the program
pub read_derives : (ts : List Token) (p : Program) → program_of ts ≡ Some p → whole p ts
unfolding program_of
read_derives ts p g =
    let s = program_takes.sound ts p [] (finished_some (program_at ts) p g) in
    subst (λ us. whole p us) (sym (s.2 ∙ append-nil s.0)) s.1

-- the program that the tokens derive is read
pub derived_reads : (ts : List Token) (p : Program) → whole p ts → program_of ts ≡ Some p
unfolding program_of
derived_reads ts p d = ap finished (ap program_at (sym (append-nil ts)) ∙ program_takes.complete p ts [] d refl)

-- tokens of which no program is read derive none
pub none_derives : (ts : List Token) → program_of ts ≡ None → (p : Program) → whole p ts → ⊥
none_derives ts e p d = let r = derived_reads ts p d in absurd cc

pub one_derivation : (ts : List Token) (p q : Program) → whole p ts → whole q ts → p ≡ q
one_derivation ts p q d e = let a = derived_reads ts p d in let b = derived_reads ts q e in cc

-- a text derives at most one program
pub one_derives : (text : Text) (p q : Program) → Derives text p → Derives text q → p ≡ q
one_derives text p q d e =
    let same = token_lists_agree text e.tokens d.tokens e.are_tokens d.are_tokens in
    one_derivation d.tokens p q d.derived (subst (λ ts. whole q ts) same e.derived)

pub one-program : (text : Text) (p q : Program) → ReadsAsProgram text p → ReadsAsProgram text q → p ≡ q
one-program text p q d e = one_derives text p q d.derives e.derives
