use Rattle.std.proofs.Common.{◌≡◌, List, [], ◌∷◌, ◌++◌, length, subst, sym}
use Rattle.std.specs.Prelude.{All}
use Rattle.std.proofs.lemmas.List.Elements.{All-push}
use Rattle.plc_rows.specs.declared.row.Row.{Row}
use Rattle.lib_cases.proofs.tables.rows.Goals as goal

-- what is so of all items, and of one more
one_more : {X : Type 0} (P : X → Type 0) (xs : List X) (x : X) (ys : List X) → All P xs → P x → ys ≡ xs ++ x ∷ [] → All P ys
one_more P xs x ys h p e = subst (All P) (sym e) (All-push P xs x h p)

pub loop-field-preserved : goal.loop-field-preserved
loop-field-preserved c = one_more (λ (row : Row). length row.cells ≡ c.args.count) c.loop-field.all c.in_ok-row.field-0 c.push.new.self
    c.loop-field.invariant c.in_ok-row.ensures c.in_ok-push.ensures.ok
