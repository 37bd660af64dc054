-- One name of a type more.
use Rattle.std.proofs.Common.{◌≡◌, ℕ, suc, ◌+◌, ◌-◌, ◌<◌, ℤ, List, sym, ap, ◌∙◌, arith}
use Rattle.cif_source.specs.Source.{TypeTree}
use Rattle.cif_scope.specs.declared.scopes.Scopes.{Scopes}
use Rattle.cif_inst_constants.specs.Slots.{Slot}
use Rattle.cif_inst_constants.specs.Walked.{StepTree, further, type_step, on_step, walked}

module _ (s : Scopes) (ns : List (List ℕ)) (vs : List ℤ) (rows : List (List Slot)) where
  one-turn : (n turn k : ℕ) (ty : TypeTree) → turn < n → walked s ns vs rows (n - turn) k ty ≡ on_step (walked s ns vs rows (n - (turn + 1))) (type_step s ns vs rows k ty)
  one-turn n turn k ty l = let once : n - turn ≡ suc (n - (turn + 1)) = omega arith in ap (λ m. walked s ns vs rows m k ty) once

  pub turn-further : (n turn k j : ℕ) (ty next : TypeTree) (x : StepTree) → turn < n → x ≡ type_step s ns vs rows k ty → x ≡ further j next → walked s ns vs rows (n - turn) k ty ≡ walked s ns vs rows (n - (turn + 1)) j next
  turn-further n turn k j ty next x l e h = one-turn n turn k ty l ∙ ap (on_step (walked s ns vs rows (n - (turn + 1)))) (sym e ∙ h)
