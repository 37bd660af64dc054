use Rattle.std.proofs.Common.{sym, ◌∙◌, ap}
use Rattle.cif_source.specs.Source.{type_tree, channel_tree}
use Rattle.cif_net_model.specs.Net.{net_chan_of}
use Rattle.cif_inst_model.specs.Types.{NetType, net_channel}
use Rattle.cif_inst.specs.Typing.{typed_source, typed_component}
use Rattle.cif_inst.proofs.TypingLaws.{home_listed, home_body}
use Rattle.cif_inst.proofs.events.net_chan.Goals as goal

pub returns-in_ok-made-in-Of : goal.returns-in_ok-made-in-Of
returns-in_ok-made-in-Of c =
    let k = c.args.found.now.component in
    let is = ap channel_tree c.in-Of.is in
    ap (λ (x : NetType). net_chan_of x.type_of)
    (c.in_ok-made-in-Of.ensures (typed_source c.args.typing.now) (typed_component c.args.typing.now k) c.requires.home.types.typed (home_listed c.args.typing.now k c.requires.home)
    (home_body c.args.typing.now k c.body_number-body.result c.requires.home c.body_number-body.ensures) (c.requires.written (type_tree c.in-Of.ty) is))
    ∙ sym (ap (net_channel (typed_component c.args.typing.now k)) is)
