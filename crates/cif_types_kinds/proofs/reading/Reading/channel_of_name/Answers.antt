use Rattle.std.proofs.Common.{◌∙◌, ap}
use Rattle.cif_types_kinds.specs.Tables.{channel_for}
use Rattle.cif_types_kinds.specs.Readings.{lists_in}
use Rattle.cif_types_kinds.proofs.NameLaws.{body_scope, name_channel}
use Rattle.cif_types_kinds.proofs.reading.Reading.channel_of_name.Goals as goal

pub find-requires : goal.find-requires
find-requires c = body_scope c.args.self.now c.requires

pub returns : goal.returns
returns c =
    ap (channel_for (lists_in c.args.self.now)) c.channel_found.ensures
    ∙ name_channel c.args.self.now c.args.name.now c.in_ok-found.found c.requires (λ t d h is. c.in_ok-found.ensures t d h is)
