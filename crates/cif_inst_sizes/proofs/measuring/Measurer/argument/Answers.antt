use Rattle.std.proofs.Common.{sym, ◌∙◌}
use Rattle.cif_inst_names.proofs.NameLaws.{component-is}
use Rattle.cif_inst_sizes.specs.Weights.{source_by, home}
use Rattle.cif_inst_sizes.proofs.ResolveLaws.{argument-resolves}
use Rattle.cif_inst_sizes.proofs.measuring.Measurer.argument.Goals as goal

pub returns-in-Some-number : goal.returns-in-Some-number
returns-in-Some-number c all arguments =
    let m = c.args.self.now in
    let l = m.looking.now in
    argument-resolves l c.requires.names m.component c.args.name.now c.in-Some.place _ c.in-Some-Value.field-0-0 c.in-Some-Value.field-0-1 c.in-Some-Value.field-0-2 m.weights.now.firsts c.in-Some-number.number
    (c.in-Some.ensures (source_by m) (home m) c.requires.names.scopes c.requires.names.components (component-is l m.component c.requires.component))
    (sym c.given.ensures ∙ c.in-Some-Value.is) c.in-Some-Value.field-0-is c.in-Some-number.ensures all arguments
