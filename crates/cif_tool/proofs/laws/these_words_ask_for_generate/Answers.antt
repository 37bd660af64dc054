use Rattle.std.proofs.Common.{refl, inl, arith}
use Rattle.std.specs.Fmt.{digits}
use Rattle.cif_tool.proofs.laws.these_words_ask_for_generate.Goals as goal

pub returns : goal.returns
unfolding digits
returns c = (refl, λ e. cc, refl, inl (refl, (refl, omega arith, omega arith), refl))
