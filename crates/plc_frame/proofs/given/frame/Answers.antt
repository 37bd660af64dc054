use Rattle.std.proofs.Common.{◌≡◌, true, map, sym, subst, arith}
use Rattle.cif_net.specs.View.{net_tree}
use Rattle.st_ast.specs.Parts.{program_of_parts, view_stmts}
use Rattle.st_ast.specs.Spelled.{is_spelled}
use Rattle.st_ast.specs.Tree.{Program}
use Rattle.plc_frame.specs.Given.{framed_program, part_tree}
use Rattle.plc_frame.specs.Makes.{Makes}
use Rattle.plc_frame.proofs.GivenLaws.{given-makes}
use Rattle.plc_frame.proofs.ScanLaws.{given-is}
use Rattle.plc_frame.proofs.given.frame.Goals as goal

pub invariant_of-result : goal.invariant_of-result
invariant_of-result c =
    let same : program_of_parts c.in_ok-name.name c.in_ok-vars.vars c.in_ok-body.body ≡ framed_program (net_tree c.args.net.now) (map part_tree c.args.parts) (part_tree c.args.shown) c.args.bounds.unc c.args.bounds.con =
    given-is (net_tree c.args.net.now) (map part_tree c.args.parts) (part_tree c.args.shown) c.in_ok-own.field-0.own (map view_stmts c.in_ok-own.field-0.bodies) c.args.bounds.unc c.args.bounds.con c.in_ok-faces.faces
    c.in_ok-name.name c.in_ok-vars.vars c.in_ok-body.body c.in_ok-own.ensures.own c.in_ok-own.ensures.bodies c.in_ok-faces.ensures c.in_ok-name.ensures c.in_ok-vars.ensures c.in_ok-body.ensures in
    record { spelled = subst (λ (p : Program). is_spelled p ≡ true) (sym same) c.requires.fits.spelled }

pub returns-clause-text : goal.returns-clause-text
returns-clause-text c =
    given-is (net_tree c.args.net.now) (map part_tree c.args.parts) (part_tree c.args.shown) c.in_ok-own.field-0.own (map view_stmts c.in_ok-own.field-0.bodies) c.args.bounds.unc c.args.bounds.con c.in_ok-faces.faces
    c.in_ok-name.name c.in_ok-vars.vars c.in_ok-body.body c.in_ok-own.ensures.own c.in_ok-own.ensures.bodies c.in_ok-faces.ensures c.in_ok-name.ensures c.in_ok-vars.ensures c.in_ok-body.ensures

pub returns-clause-makes : goal.returns-clause-makes
returns-clause-makes c =
    let same : program_of_parts c.in_ok-name.name c.in_ok-vars.vars c.in_ok-body.body ≡ framed_program (net_tree c.args.net.now) (map part_tree c.args.parts) (part_tree c.args.shown) c.args.bounds.unc c.args.bounds.con =
    given-is (net_tree c.args.net.now) (map part_tree c.args.parts) (part_tree c.args.shown) c.in_ok-own.field-0.own (map view_stmts c.in_ok-own.field-0.bodies) c.args.bounds.unc c.args.bounds.con c.in_ok-faces.faces
    c.in_ok-name.name c.in_ok-vars.vars c.in_ok-body.body c.in_ok-own.ensures.own c.in_ok-own.ensures.bodies c.in_ok-faces.ensures c.in_ok-name.ensures c.in_ok-vars.ensures c.in_ok-body.ensures in
    subst (Makes (net_tree c.args.net.now) c.args.bounds.unc c.args.bounds.con) (sym same)
    (given-makes (net_tree c.args.net.now) (map part_tree c.args.parts) (part_tree c.args.shown) c.args.bounds.unc c.args.bounds.con c.args.net.now.fits c.requires.fits (omega (arith, c.requires.unc, c.requires.con)))
