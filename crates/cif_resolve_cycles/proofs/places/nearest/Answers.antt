use Rattle.std.proofs.Common.{◌≡◌, ℕ, suc, ◌+◌, ◌-◌, ◌<◌, length, List, Option, Some, None, refl, sym, ap, ◌∙◌, arith}
use Rattle.cif_scope.specs.declared.table.Table.{Table}
use Rattle.cif_scope.specs.Looks.{outer_at}
use Rattle.cif_resolve_cycles.specs.Bodies.{place_at, or_further, from_outer, nearest}
use Rattle.cif_resolve_cycles.proofs.places.nearest.Goals as goal

-- one body further out
further : (tb : Table) (places : List (Option ℕ)) (n turn k : ℕ) (o p : Option ℕ) → turn < n → o ≡ place_at places k → ((j : ℕ) → o ≡ Some j → ⊥) → p ≡ outer_at tb k
    → nearest tb places (n - turn) k ≡ from_outer (λ j. nearest tb places (n - (turn + 1)) j) p
further tb places n turn k (Some j) p l e f g = absurd (f j refl)
further tb places n turn k None p l e f g =
    let once : n - turn ≡ suc (n - (turn + 1)) = omega arith in
    ap (λ m. nearest tb places m k) once
    ∙ ap (λ q. or_further q (from_outer (λ j. nearest tb places (n - (turn + 1)) j) (outer_at tb k))) (sym e)
    ∙ ap (from_outer (λ j. nearest tb places (n - (turn + 1)) j)) (sym g)

pub loop-turn-preserved : goal.loop-turn-preserved
loop-turn-preserved c =
    c.loop-turn.invariant
    ∙ further c.args.scopes.now.table c.args.places.now (length c.args.scopes.now.table.scopes) c.loop-turn._turn c.loop-turn.at c.place_at.result c.outer.result (omega arith) c.place_at.ensures c.in_default.not-Some c.outer.ensures
    ∙ ap (from_outer (λ j. nearest c.args.scopes.now.table c.args.places.now (length c.args.scopes.now.table.scopes - (c.loop-turn._turn + 1)) j)) c.in_ok-at.was
