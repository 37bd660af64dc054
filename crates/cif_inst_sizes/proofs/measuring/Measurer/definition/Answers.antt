use Rattle.std.proofs.Common.{map, inr}
use Rattle.cif_inst_parameters.specs.Given.{given_items}
use Rattle.cif_inst_sizes.specs.Weights.{source_by, home}
use Rattle.cif_inst_sizes.proofs.ResolveLaws.{inside, object-resolves}
use Rattle.cif_inst_sizes.proofs.measuring.Measurer.definition.Goals as goal

pub meaning-requires-clause-component : goal.meaning-requires-clause-component
meaning-requires-clause-component c = inside c.args.self.now.looking.now c.requires.names c.args.self.now.component c.len.result c.len.ensures c.if-self-len.false

pub argument-requires-clause-component : goal.argument-requires-clause-component
argument-requires-clause-component c = inside c.args.self.now.looking.now c.requires.names c.args.self.now.component c.len.result c.len.ensures c.if-self-len.false

pub returns-in-Object : goal.returns-in-Object
returns-in-Object c =
    let m = c.args.self.now in
    object-resolves (source_by m) m.weights.now.count (home m) c.args.name.now c.in-Object.object (map given_items m.looking.now.given.now) m.weights.now.firsts c.in-Object.ensures c.variable.result c.variable.ensures

pub returns-in_ok-argument-in-Given : goal.returns-in_ok-argument-in-Given
returns-in_ok-argument-in-Given c = λ all are. inr (c.in_ok-argument-in-Given.ensures all are)
