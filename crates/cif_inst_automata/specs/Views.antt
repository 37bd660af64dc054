-- Helper of the code: the role of an edge as the type of the net.
use Rattle.cif_system.specs.System.{Role, syncing, sending, receiving}
use Rattle.cif_source.specs.Source.{RoleTree}
use Rattle.cif_source.specs.Step.{role_of}
use Rattle.cif_net.specs.declared.automata.NetRole.{NetRole}
use Rattle.cif_net.specs.declared.automata.NetRole.TheVariants as role

abbrev pub role_back : Role → NetRole
role_back syncing = role.Sync
role_back sending = role.Send
role_back receiving = role.Recv

abbrev pub role_for : RoleTree → NetRole
role_for r = role_back (role_of r)
