use Rattle.std.proofs.Common.{◌≡◌, ◌++◌, map, drop}
use Rattle.cif_source.specs.Source.{EquationTree, equation_tree}
use Rattle.cif_source.specs.Uses.{left_side}
use Rattle.cif_scope_uses.specs.Views.{own_name_of}
use Rattle.cif_scope_uses.proofs.own_names.add_equations.Given as goal

abbrev pub invariant-loop-equation : goal.invariant-loop-equation
invariant-loop-equation l = map own_name_of l.found.items ++ map (λ (q : EquationTree). left_side q.name) (map equation_tree (drop l.equation-index l.all)) ≡ map own_name_of l.fn.found.items ++ map (λ (q : EquationTree). left_side q.name) (map equation_tree l.all)
