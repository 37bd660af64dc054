use Rattle.std.proofs.Common.{refl}
use Rattle.grammar.specs.Classes.{letter, digit, wordy}
use Rattle.cif_lex.specs.Cutting.{found_of, reserved_word, slash_found, triple_of, double_of, sign_of}
use Rattle.cif_accept.proofs.ReadingLaws.{computed_tokens}
use Rattle.cif_accept.proofs.laws.these_tokens_are_read.Goals as goal

pub returns : goal.returns
unfolding found_of letter digit wordy reserved_word slash_found triple_of double_of sign_of
returns c = computed_tokens refl
