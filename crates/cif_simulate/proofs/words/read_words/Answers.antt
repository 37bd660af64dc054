use Rattle.std.proofs.Common.{subst, string_bytes}
use Rattle.cif_simulate.specs.Words.{IsSimulate}
use Rattle.cif_run.proofs.WordLaws.{three_texts, four_texts}
use Rattle.cif_simulate.proofs.words.read_words.Goals as goal

pub returns-in-len3-clause-none : goal.returns-in-len3-clause-none
returns-in-len3-clause-none c e q h =
    c.of_script.ensures.none e q (subst (λ ws. IsSimulate ws q)
    (three_texts string_bytes c.args.words.now _ _ _ _ _ _ c.command-item.is c.file-item.is c.script-item.is
    c.as_str.ensures.value c.as_str-in-len3.ensures.value c.as_str-in-len3-2.ensures.value c.in-len3.len_at_least c.in-len3.len_below) h)

pub returns-in-len4-clause-none : goal.returns-in-len4-clause-none
returns-in-len4-clause-none c e q h =
    c.of_first.ensures.none e q (subst (λ ws. IsSimulate ws q)
    (four_texts string_bytes c.args.words.now _ _ _ _ _ _ _ _ c.command-item-then-words-lt5.is c.file-item-then-words-lt5.is c.option-item.is c.number-item.is
    c.as_str-in-len4.ensures.value c.as_str-in-len4-2.ensures.value c.as_str-in-len4-3.ensures.value c.as_str-in-len4-4.ensures.value c.in-len4.len_at_least c.in-len4.len_below) h)
