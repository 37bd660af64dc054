-- What is promised of expressions holds where their own variables stand one after another.
use Rattle.std.proofs.Common.{◌≡◌, ℕ, ◌+◌, ◌-◌, ◌<◌, ◌≤◌, List, length, Ok, arith}
use Rattle.std.specs.Prelude.{slice_get}
use Rattle.cif_net_expr.specs.Tree.{NetExpr}
use Rattle.st_ast.specs.Values.{Memory}
use Rattle.st_ast.specs.declared.tree.StVar.{StVar}
use Rattle.plc_expr.specs.Texts.{Naming, temps}
use Rattle.cif_net_model.specs.Safe.{Setting}
use Rattle.plc_expr.specs.Held.{OwnPlaces, IsBeside}
use Rattle.plc_expr.proofs.Values.{text-value}
use Rattle.plc_expr.proofs.Memories.{held-same}
use Rattle.plc_expr.proofs.Running.{prepares as statements-prepare}
use Rattle.plc_event_model.specs.Asked.{Promises}

pub promised : (vars : List StVar) (w : Naming) (x : Setting) (base low count : ℕ) → low ≤ count → OwnPlaces vars w base low (count - low) → Promises vars w x base low count
promised vars w x base low count few own = record {
  prepares = λ e k turns m reads room safe lo top.
      statements-prepare vars w x base low (count - low) k e turns m own (omega (arith, few, room)) lo (omega (arith, few, top))
      (λ o g. reads o (λ j out. g.others j (λ h. let past : base + count ≤ j = out h in omega (arith, few, past)))) safe;
  held_kept = λ e k m after lo top same h.
      held-same vars w x base low (count - low) own m after k e lo (omega (arith, few, top)) (λ j p q. same (base + j) (omega (arith, p)) (omega (arith, q))) h;
  valued = λ e k m reads safe h. text-value vars m w x k e reads safe h;
}
