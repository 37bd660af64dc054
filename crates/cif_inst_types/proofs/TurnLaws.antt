-- One name of a type more.
use Rattle.std.proofs.Common.{◌≡◌, ℕ, suc, ◌+◌, ◌-◌, ◌<◌, sym, ap, ◌∙◌, arith}
use Rattle.cif_source.specs.Source.{TypeTree}
use Rattle.cif_inst_constants.specs.declared.ranges.Types.{Types}
use Rattle.cif_inst_types.specs.Leaves.{further, type_step, on_step, type_in}

module _ (x : Types) where
  one-turn : (n turn k : ℕ) (ty : TypeTree) → turn < n → type_in x (n - turn) k ty ≡ on_step (type_in x (n - (turn + 1))) (type_step x k ty)
  one-turn n turn k ty l = let once : n - turn ≡ suc (n - (turn + 1)) = omega arith in ap (λ m. type_in x m k ty) once

  pub turn-further : (n turn k j : ℕ) (ty next : TypeTree) → turn < n → further j next ≡ type_step x k ty → type_in x (n - turn) k ty ≡ type_in x (n - (turn + 1)) j next
  turn-further n turn k j ty next l e = one-turn n turn k ty l ∙ ap (on_step (type_in x (n - (turn + 1)))) (sym e)
