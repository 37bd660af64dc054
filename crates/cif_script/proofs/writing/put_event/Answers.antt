use Rattle.std.proofs.Common.{◌++◌, sym, ap, ◌∙◌}
use Rattle.std.proofs.lemmas.List.{append-nil}
use Rattle.cif_net_model.specs.Net.{NetEvent}
use Rattle.cif_net.specs.Parts.{event_tree}
use Rattle.grammar.specs.Pieces.{Text}
use Rattle.cif_script.proofs.Listing.{no_path, nothing_there, path_at}
use Rattle.cif_script.proofs.writing.put_event.Goals as goal

pub returns-in_ok-extend_from_slice : goal.returns-in_ok-extend_from_slice
returns-in_ok-extend_from_slice c =
    c.in_ok-extend_from_slice.ensures.items
    ∙ ap (λ (t : Text). c.args.into.now.items ++ t)
    (c.as_slice.ensures ∙ path_at event_tree (λ (e : NetEvent). e.path) c.args.net.now.events c.args.event c.in-Some.event.now c.in-Some.ensures.value)

pub returns-in_default : goal.returns-in_default
returns-in_default c =
    sym (append-nil c.args.into.now.items)
    ∙ ap (λ (t : Text). c.args.into.now.items ++ t)
    (no_path event_tree (λ (e : NetEvent). e.path) c.args.net.now.events c.args.event (nothing_there c.get.result _ c.in_default.not-Some c.get.ensures.value))
