-- Types whose numbers have literals in a program.
use Rattle.std.specs.Prelude.{Bool, true, nat_le, List}
use Rattle.std.specs.List.{list_all}
use Rattle.cif_base.specs.declared.types.Ty.{Ty}
use Rattle.cif_base.specs.declared.types.Ty.TheVariants as t
use Rattle.cif_net_model.specs.Net.{NetStored}

-- an enumeration has at most as many literals as a u32 counts
abbrev pub is_small : Ty → Bool
is_small t.Bool = true
is_small (t.Int lo hi) = true
is_small (t.Enum size) = nat_le size 4294967295

abbrev pub are_small : List NetStored → Bool
are_small xs = list_all (λ (v : NetStored). is_small v.type_of) xs
