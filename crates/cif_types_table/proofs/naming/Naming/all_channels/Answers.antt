use Rattle.std.proofs.Common.{ℕ, ◌+◌, [], ◌∷◌, ◌++◌, List, drop, sym, ap, ◌∙◌, append_assoc}
use Rattle.cif_scope.proofs.Places.{drop-item}
use Rattle.cif_types_kinds.specs.declared.kind.Channel.{Channel}
use Rattle.cif_types_table.specs.declared.layout.Slot.{Slot}
use Rattle.cif_types_table.specs.Types.{body_channels, all_channels}
use Rattle.cif_types_table.proofs.naming.Naming.all_channels.Goals as goal

pub loop-body-preserved : goal.loop-body-preserved
loop-body-preserved c =
    let slots : List (List Slot) = c.args.self.now.slots.now in
    let k : ℕ = c.loop-body.body in
    let own : List Slot → List Channel = body_channels c.args.self.now.scopes.now slots c.args.kinds.now k in
    let later : List (List Channel) = all_channels c.args.self.now.scopes.now slots c.args.kinds.now (k + 1) (drop (k + 1) slots) in
    ap (λ (l : List (List Channel)). l ++ later)
    (c.in_ok-push.ensures.ok ∙ ap (λ (x : List Channel). c.loop-body.all ++ x ∷ [])
    (c.in_ok-body_channels.ensures ∙ ap (λ n. body_channels c.args.self.now.scopes.now slots c.args.kinds.now n c.as_slice.result.now) c.in_ok-number.ensures.is ∙ ap own c.as_slice.ensures))
    ∙ append_assoc c.loop-body.all (own c.row-item.result ∷ []) later
    ∙ ap (λ (rs : List (List Slot)). c.loop-body.all ++ all_channels c.args.self.now.scopes.now slots c.args.kinds.now k rs) (sym (drop-item slots k c.row-item.result c.loop-body-test.true c.row-item.is))
    ∙ c.loop-body.invariant
