use Rattle.std.proofs.Common.{◌≡◌, ◌∙◌, FitsSigned, Some, ap, length, rules, sym, w64}
use Rattle.std.proofs.lemmas.Int.{to_z-of_z}
use Rattle.st_ast.specs.Interface.{is_output, numbers_of}
use Rattle.st_scan.proofs.Outputs.{output-value}
use Rattle.st_scan.proofs.machine.Machine.output.Goals as goal

pub returns : goal.returns
returns c =
    let memory = c.args.self.now.memory in
    let vars = c.args.self.now.program.vars in
    let long : length memory ≡ length vars = search rules in
    let are : c.outputs.result.now ≡ numbers_of is_output 0 vars = search rules in
    let fits : FitsSigned w64 c.value.result = search rules in
    output-value vars c.outputs.result.now c.args.k are c.requires memory c.value.result long c.value.ensures
    ∙ ap Some (sym (to_z-of_z w64 c.value.result fits))
