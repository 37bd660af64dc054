use Rattle.std.proofs.Common.{rules, subst, sym, refl, string_bytes}
use Rattle.cif_check.specs.Words.{IsCheck}
use Rattle.cif_check.specs.Checks.{check_of}
use Rattle.cif_run.proofs.WordLaws.{two_texts}
use Rattle.cif_check.proofs.words.read_words.Goals as goal

pub returns-else-is_empty-clause-some : goal.returns-else-is_empty-clause-some
returns-else-is_empty-clause-some c =
    subst (λ ws. IsCheck ws (check_of record { file = c.as_str-in-len2.result }))
    (sym (two_texts string_bytes c.args.words.now _ _ _ _ c.command-item.is c.file-item.is c.as_str.ensures.value c.as_str-in-len2.ensures.value
    c.in-len2.len_at_least c.in-len2.len_below))
    (search rules, search rules, refl)
