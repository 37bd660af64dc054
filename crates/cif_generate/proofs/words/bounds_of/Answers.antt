use Rattle.std.proofs.Common.{subst, string_bytes}
use Rattle.cif_generate.specs.Words.{AreOptions}
use Rattle.cif_run.proofs.WordLaws.{two_texts, four_texts}
use Rattle.cif_generate.proofs.words.bounds_of.Goals as goal

pub returns-in-len2-clause-none : goal.returns-in-len2-clause-none
returns-in-len2-clause-none c e unc con h =
    c.one_option.ensures.none e unc con (subst (λ ws. AreOptions ws unc con)
    (two_texts string_bytes c.args.words.now _ _ _ _ c.option-item.is c.number-item.is c.as_str.ensures.value c.as_str-in-len2.ensures.value c.in-len2.len_at_least c.in-len2.len_below) h)

pub returns-in-len4-clause-none : goal.returns-in-len4-clause-none
returns-in-len4-clause-none c e unc con h =
    c.two_options.ensures.none e unc con (subst (λ ws. AreOptions ws unc con)
    (four_texts string_bytes c.args.words.now _ _ _ _ _ _ _ _ c.first-item.is c.number-item-then-words-lt5.is c.second-item.is c.other-item.is
    c.as_str-in-len4.ensures.value c.as_str-in-len4-2.ensures.value c.as_str-in-len4-3.ensures.value c.as_str-in-len4-4.ensures.value c.in-len4.len_at_least c.in-len4.len_below) h)
