use Rattle.std.proofs.Common.{rules, subst, sym, refl, string_bytes}
use Rattle.cif_batch_command.specs.Words.{IsBatch}
use Rattle.cif_batch_command.specs.Batches.{batch_of}
use Rattle.cif_run.proofs.WordLaws.{three_texts}
use Rattle.cif_batch_command.proofs.words.read_words.Goals as goal

pub returns-else-is_empty-2-clause-some : goal.returns-else-is_empty-2-clause-some
returns-else-is_empty-2-clause-some c =
    subst (λ ws. IsBatch ws (batch_of record { st = c.as_str-in-len3.result; cases = c.as_str-in-len3-2.result }))
    (sym (three_texts string_bytes c.args.words.now _ _ _ _ _ _ c.command-item.is c.st-item.is c.cases-item.is c.as_str.ensures.value
    c.as_str-in-len3.ensures.value c.as_str-in-len3-2.ensures.value c.in-len3.len_at_least c.in-len3.len_below))
    (search rules, search rules, search rules, refl, refl)
