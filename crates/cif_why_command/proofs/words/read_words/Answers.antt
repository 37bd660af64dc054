use Rattle.std.proofs.Common.{rules, subst, sym, refl, string_bytes}
use Rattle.cif_why_command.specs.Words.{IsWhy}
use Rattle.cif_why_command.specs.Requests.{why_of}
use Rattle.cif_run.proofs.WordLaws.{four_texts}
use Rattle.cif_why_command.proofs.words.read_words.Goals as goal

pub returns-else-is_empty-2-clause-some : goal.returns-else-is_empty-2-clause-some
returns-else-is_empty-2-clause-some c =
    subst (λ ws. IsWhy ws (why_of record { file = c.as_str-in-len4.result; script = c.as_str-in-len4-2.result; event = c.as_str-in-len4-3.result }))
    (sym (four_texts string_bytes c.args.words.now _ _ _ _ _ _ _ _ c.command-item.is c.file-item.is c.script-item.is c.event-item.is c.as_str.ensures.value
    c.as_str-in-len4.ensures.value c.as_str-in-len4-2.ensures.value c.as_str-in-len4-3.ensures.value c.in-len4.len_at_least c.in-len4.len_below))
    (search rules, search rules, search rules, refl, refl, refl)
