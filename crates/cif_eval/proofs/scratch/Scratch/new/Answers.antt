use Rattle.std.proofs.Common.{◌∙◌, ap, sym, subst}
use Rattle.std.specs.Prelude.{slice_get}
use Rattle.cif_system.specs.System.{IsState}
use Rattle.cif_net.specs.View.{net_tree}
use Rattle.cif_net_model.proofs.First.{first-state}
use Rattle.cif_eval.specs.Choices.{system_of}
use Rattle.cif_eval.proofs.Facts.{net-of-plain}
use Rattle.cif_eval.proofs.scratch.Scratch.new.Goals as goal

pub returns : goal.returns
returns c = record {
  next = subst (IsState (system_of c.args.guarded.now)) (sym c.in_ok-next.ensures) (first-state (net_tree c.args.guarded.now.plain.net) (net-of-plain (net_tree c.args.guarded.now.plain.net) c.args.guarded.now.plain.plain));
  room = λ k choice at. c.in_ok-pairs.ensures k choice (ap (λ xs. slice_get xs k) c.as_slice.ensures ∙ at);
}
