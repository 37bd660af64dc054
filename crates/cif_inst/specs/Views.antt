-- Helper of the code: what the types of `src/` mean.
use Rattle.cif_source.specs.Source.{type_tree, channel_tree}
use Rattle.cif_inst_types.specs.Types.{given_tree}
use Rattle.cif_ast.specs.declared.declarations.Class.{Class as SourceClass}
use Rattle.cif_ast.specs.declared.declarations.Class.TheVariants as source_class
use Rattle.cif_net.specs.declared.events.Class.{Class}
use Rattle.cif_net.specs.declared.events.Class.TheVariants as class
use Rattle.cif_inst.specs.Declarations.{DatumTree}
use Rattle.cif_inst.specs.Events.{EventTree}
use Rattle.cif_inst.specs.declared.declarations.Datum.{Datum}
use Rattle.cif_inst.specs.declared.events.EventDatum.{EventDatum}

abbrev pub datum_tree : Datum → DatumTree
datum_tree d = record { component = d.component; prefix = d.prefix.now; name = d.name.now; type_of = type_tree d.ty.now; value = given_tree d.value }

abbrev pub event_datum : EventDatum → EventTree
event_datum e = record { component = e.component; prefix = e.prefix.now; class = e.class; chan = channel_tree e.chan.now; name = e.name.now }

abbrev pub class_for : SourceClass → Class
class_for source_class.Plain = class.Plain
class_for source_class.Con = class.Con
class_for source_class.Unc = class.Unc
