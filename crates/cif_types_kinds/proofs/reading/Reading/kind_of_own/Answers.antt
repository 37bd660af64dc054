use Rattle.std.proofs.Common.{◌∙◌, ap}
use Rattle.cif_types_kinds.specs.Tables.{kind_for}
use Rattle.cif_types_kinds.specs.Readings.{lists_in}
use Rattle.cif_types_kinds.proofs.NameLaws.{own_kind}
use Rattle.cif_types_kinds.proofs.reading.Reading.kind_of_own.Goals as goal

pub returns : goal.returns
returns c =
    ap (kind_for (lists_in c.args.self.now)) c.kind_owned.ensures
    ∙ own_kind c.args.self.now c.args.name.now.text c.own-slot.result c.requires c.own-slot.ensures
