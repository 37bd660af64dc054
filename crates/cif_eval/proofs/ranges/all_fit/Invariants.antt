use Rattle.std.proofs.Common.{◌≡◌, ℕ, ℤ, drop, map}
use Rattle.std.specs.Prelude.{slice_get}
use Rattle.std.specs.List.{list_all}
use Rattle.cif_system.specs.Step.{fits_variable}
use Rattle.cif_net_model.specs.Meaning.{stored_in}
use Rattle.cif_net.specs.View.{var_tree}
use Rattle.cif_eval.proofs.ranges.all_fit.Given as goal

abbrev pub invariant-loop-variable : goal.invariant-loop-variable
invariant-loop-variable l =
    list_all (λ (w : ℕ × ℤ). fits_variable (slice_get (map stored_in (map var_tree l.vars)) w.0) w.1) (drop l.variable-index l.pairs)
    ≡ list_all (λ (w : ℕ × ℤ). fits_variable (slice_get (map stored_in (map var_tree l.vars)) w.0) w.1) l.pairs
