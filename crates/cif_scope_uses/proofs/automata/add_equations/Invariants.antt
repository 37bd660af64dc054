use Rattle.std.proofs.Common.{◌≡◌, ◌++◌, map, flat_map, drop}
use Rattle.cif_source.specs.Source.{EquationTree, equation_tree}
use Rattle.cif_source.specs.Uses.{value_uses}
use Rattle.cif_scope_uses.specs.Views.{use_of}
use Rattle.cif_scope_uses.proofs.automata.add_equations.Given as goal

abbrev pub invariant-loop-equation : goal.invariant-loop-equation
invariant-loop-equation l = map use_of l.found.items ++ flat_map (λ (q : EquationTree). value_uses q.value) (map equation_tree (drop l.equation-index l.all)) ≡ map use_of l.fn.found.items ++ flat_map (λ (q : EquationTree). value_uses q.value) (map equation_tree l.all)
