use Rattle.std.proofs.Common.{rules, subst, sym, refl, string_bytes}
use Rattle.cif_generate.specs.Words.{IsGenerate}
use Rattle.cif_run.proofs.WordLaws.{two_and_more}
use Rattle.cif_generate.proofs.words.read_words.Goals as goal

pub returns-in_ok-bounds-in-len2-up-clause-some : goal.returns-in_ok-bounds-in-len2-up-clause-some
returns-in_ok-bounds-in-len2-up-clause-some c =
    subst (λ ws. IsGenerate ws (record { file = c.as_str-in-len2-up.result.now; unc = c.in_ok-bounds-in-len2-up.bounds.unc; con = c.in_ok-bounds-in-len2-up.bounds.con }))
    (sym (two_and_more string_bytes c.args.words.now _ _ _ _ c.command-item.is c.file-item.is c.as_str.ensures.value c.as_str-in-len2-up.ensures.value
    c.in-len2-up.len_at_least))
    (search rules, search rules, refl, c.in_ok-bounds-in-len2-up.ensures.some)
