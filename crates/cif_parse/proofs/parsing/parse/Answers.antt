use Rattle.std.proofs.Common.{rules}
use Rattle.cif_parse.proofs.Whole.{tree_read, same_tree, none_read, not_read_none, too_deep_none}
use Rattle.cif_parse.proofs.CountedSources.{tree_countable, tree_small, tree_shallow}
use Rattle.cif_parse.proofs.parsing.parse.Goals as goal

pub returns-in-Ok-clause-countable : goal.returns-in-Ok-clause-countable
returns-in-Ok-clause-countable c short =
    tree_countable c.args.text.now c.in-Ok.spec (tree_read c.args.text.now c.args.tokens.now c.in-Ok.spec c.requires c.in-Ok.ensures) short

pub returns-in-Ok-clause-small : goal.returns-in-Ok-clause-small
returns-in-Ok-clause-small c short =
    tree_small c.args.text.now c.in-Ok.spec (tree_read c.args.text.now c.args.tokens.now c.in-Ok.spec c.requires c.in-Ok.ensures) short

pub returns-in-Ok-clause-shallow : goal.returns-in-Ok-clause-shallow
returns-in-Ok-clause-shallow c =
    tree_shallow c.args.text.now c.in-Ok.spec (tree_read c.args.text.now c.args.tokens.now c.in-Ok.spec c.requires c.in-Ok.ensures)

pub returns-in-Ok-clause-complete : goal.returns-in-Ok-clause-complete
returns-in-Ok-clause-complete c spec r =
    same_tree c.args.text.now c.args.tokens.now c.in-Ok.spec spec c.requires c.in-Ok.ensures r

pub returns-in-Err-NotRead-clause-refused : goal.returns-in-Err-NotRead-clause-refused
returns-in-Err-NotRead-clause-refused c =
    none_read c.args.text.now c.args.tokens.now c.place.result c.requires (not_read_none _ c.in-Err-NotRead.left _ (search rules) c.in-Err-NotRead.ensures) c.place.ensures

pub returns-in-Err-NotRead-clause-complete : goal.returns-in-Err-NotRead-clause-complete
returns-in-Err-NotRead-clause-complete c spec r =
    let n = none_read c.args.text.now c.args.tokens.now c.place.result c.requires (not_read_none _ c.in-Err-NotRead.left _ (search rules) c.in-Err-NotRead.ensures) c.place.ensures in
    absurd (n.no_tree spec r)

pub returns-in-Err-TooDeep-clause-refused : goal.returns-in-Err-TooDeep-clause-refused
returns-in-Err-TooDeep-clause-refused c =
    none_read c.args.text.now c.args.tokens.now c.place-in-Err-TooDeep.result c.requires (too_deep_none _ _ (search rules) c.in-Err-TooDeep.ensures) c.place-in-Err-TooDeep.ensures

pub returns-in-Err-TooDeep-clause-complete : goal.returns-in-Err-TooDeep-clause-complete
returns-in-Err-TooDeep-clause-complete c spec r =
    let n = none_read c.args.text.now c.args.tokens.now c.place-in-Err-TooDeep.result c.requires (too_deep_none _ _ (search rules) c.in-Err-TooDeep.ensures) c.place-in-Err-TooDeep.ensures in
    absurd (n.no_tree spec r)
