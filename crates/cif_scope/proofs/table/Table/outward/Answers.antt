use Rattle.std.proofs.Common.{◌≡◌, ℕ, suc, ◌+◌, ◌-◌, ◌<◌, length, Option, Some, None, refl, sym, ap, ◌∙◌, arith}
use Rattle.cif_source.specs.Source.{Text}
use Rattle.cif_scope.specs.declared.looked.Looked.TheVariants.{At, Missing}
use Rattle.cif_scope.specs.declared.table.Table.{Table}
use Rattle.cif_scope.specs.Looks.{look_out, here_or, further_out, slot_at, outer_at}
use Rattle.cif_scope.proofs.table.Table.outward.Goals as goal

cases : (o : Option ℕ) → ((k : ℕ) → o ≡ Some k → ⊥) → o ≡ None
cases None h = refl
cases (Some k) h = absurd (h k refl)

-- one more body outward
once : (tb : Table) (n turn k : ℕ) (x : Text) → turn < n
    → look_out tb (n - turn) k x ≡ here_or k (slot_at tb k x) (further_out (λ j. look_out tb (n - (turn + 1)) j x) (outer_at tb k))
once tb n turn k x l = let e : n - turn ≡ suc (n - (turn + 1)) = omega arith in ap (λ m. look_out tb m k x) e

here : (tb : Table) (n turn k s : ℕ) (x : Text) (o : Option ℕ) → turn < n → o ≡ slot_at tb k x → o ≡ Some s → look_out tb (n - turn) k x ≡ At k s
here tb n turn k s x o l e f = once tb n turn k x l ∙ ap (λ q. here_or k q (further_out (λ j. look_out tb (n - (turn + 1)) j x) (outer_at tb k))) (sym e ∙ f)

out : (tb : Table) (n turn k : ℕ) (x : Text) (o p : Option ℕ) → turn < n → o ≡ slot_at tb k x → o ≡ None → p ≡ outer_at tb k → look_out tb (n - turn) k x ≡ further_out (λ j. look_out tb (n - (turn + 1)) j x) p
out tb n turn k x o p l e f g =
    once tb n turn k x l ∙ ap (λ q. here_or k q (further_out (λ j. look_out tb (n - (turn + 1)) j x) (outer_at tb k))) (sym e ∙ f) ∙ ap (further_out (λ j. look_out tb (n - (turn + 1)) j x)) (sym g)

over : (tb : Table) (n turn k : ℕ) (x : Text) → n ≡ turn → look_out tb (n - turn) k x ≡ Missing
over tb n turn k x h = let e : n - turn ≡ 0 = omega arith in ap (λ m. look_out tb m k x) e

pub returns-in-Some : goal.returns-in-Some
returns-in-Some c =
    let less : c.loop-turn._turn < length c.args.self.now.scopes = omega (arith, c.loop-turn-test.true, c.len-turn-end.ensures) in
    sym (c.loop-turn.invariant ∙ here c.args.self.now (length c.args.self.now.scopes) c.loop-turn._turn c.loop-turn.at c.in-Some.slot c.args.text.now c.slot.result less c.slot.ensures c.in-Some.is)

pub returns-in-None : goal.returns-in-None
returns-in-None c =
    let less : c.loop-turn._turn < length c.args.self.now.scopes = omega (arith, c.loop-turn-test.true, c.len-turn-end.ensures) in
    sym (c.loop-turn.invariant ∙ out c.args.self.now (length c.args.self.now.scopes) c.loop-turn._turn c.loop-turn.at c.args.text.now c.slot.result None less c.slot.ensures (cases c.slot.result c.in_default.not-Some) (sym c.in-None.is ∙ c.outer.ensures))

pub loop-turn-preserved : goal.loop-turn-preserved
loop-turn-preserved c =
    let less : c.loop-turn._turn < length c.args.self.now.scopes = omega (arith, c.loop-turn-test.true, c.len-turn-end.ensures) in
    c.loop-turn.invariant ∙ out c.args.self.now (length c.args.self.now.scopes) c.loop-turn._turn c.loop-turn.at c.args.text.now c.slot.result (Some c.in-Some-outer.outer) less c.slot.ensures (cases c.slot.result c.in_default.not-Some) (sym c.in-Some-outer.is ∙ c.outer.ensures)
