-- The kinds of a source as those of its net, and what it means that expressions have the kinds that are asked of them.
use Rattle.std.specs.Prelude.{◌≡◌, ◌≢◌, true, List, Option, Some}
use Rattle.cif_base.specs.declared.types.Ty.{Ty}
use Rattle.cif_system.specs.Words.{Member}
use Rattle.cif_net_model.specs.Net.{net_chan_of, NetEvent, Net}
use Rattle.cif_net_model.specs.Kinds as net
use Rattle.cif_net_model.specs.Kinds.{received_fits}
use Rattle.cif_source.specs.Components.{Component}
use Rattle.cif_source.specs.Kinds.{Kind, bool_kind, int_kind, no_kind, enum_kind, same_kind, kind_of, Demand}

-- what has no kind has none in a net either, and is asked for nowhere
abbrev pub net_kind : Kind → net.Kind
net_kind bool_kind = net.bool_kind
net_kind int_kind = net.int_kind
net_kind (enum_kind ls) = net.enum_kind ls
net_kind no_kind = net.int_kind

-- each expression has the kind that its position asks for
abbrev pub AreMet : Component → List Demand → Type 0
AreMet c ds = (d : Demand) → Member d ds → same_kind (kind_of c d.received_kind d.value) d.kind ≡ true

-- what is received in the net, where there is something: a channel of the net has its type
abbrev pub IsCarried : Net → Option Ty → Type 0
IsCarried n r = (ty : Ty) → r ≡ Some ty → (e : NetEvent) × Member e n.events × (e.chan ≡ net_chan_of ty)

-- where a `?` has a kind, what is received has it
pub record IsReceived (n : Net) (k : Kind) (r : Option Ty) : Type 0 where
  pub takes : k ≢ no_kind → received_fits (net_kind k) r ≡ true
  pub carried : IsCarried n r
