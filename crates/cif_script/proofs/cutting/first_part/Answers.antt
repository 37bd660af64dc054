use Rattle.std.proofs.Common.{◌∙◌, rules, add-one}
use Rattle.std.proofs.lemmas.List.{take_rest}
use Rattle.cif_script.proofs.Splits.{split_at, split_whole}
use Rattle.cif_script.proofs.cutting.first_part.Goals as goal

pub returns-in-Some : goal.returns-in-Some
returns-in-Some c = split_at 32 c.args.line.now c.in-Some.blank (search rules) (search rules) (search rules) ∙ simp (take_rest, add-one)

pub returns-in-None : goal.returns-in-None
returns-in-None c = split_whole 32 c.args.line.now (search rules)
