-- The net that is loaded of a source is one that programs are written for.
use Rattle.std.proofs.Common.{◌≡◌, true, ◌∙◌, IfOk}
use Rattle.std.specs.Prelude.{Result, Ok, Err}
use Rattle.grammar.specs.Pieces.{Text}
use Rattle.cif_net.specs.View.{net_tree}
use Rattle.cif_net.specs.declared.guarded.Guarded.{Guarded}
use Rattle.cif_net_model.specs.Nesting.{is_shallow}
use Rattle.cif_generate.proofs.ProgramLaws.{read-shallow}
use Rattle.cif_generate.proofs.UnfoldedLaws.{shallow-unfolded}
use Rattle.cif_front.specs.Loads.{Loads}
use Rattle.cif_front.specs.declared.error.LoadErr.{LoadErr}

pub loads_shallow : (text : Text) (r : Result Guarded LoadErr) → IfOk r (λ g. Loads text g) → IfOk r (λ g. is_shallow (net_tree g.plain.net) ≡ true)
loads_shallow text (Ok g) l = shallow-unfolded _ (net_tree g.plain.net) l.2.unfolds ∙ read-shallow text l.0 l.1
loads_shallow text (Err e) l = tt
