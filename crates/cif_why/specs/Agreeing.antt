-- Whether a choice agrees with an event, by what automata can do.
use Rattle.std.specs.Prelude.{ℕ, Bool, ◌&&◌, nat_eq, List}
use Rattle.std.specs.List.{list_all}
use Rattle.cif_net_model.specs.Listing.{NetChoice}
use Rattle.cif_why.specs.Openings.{move_ready}
use Rattle.cif_why.specs.declared.openings.Opening.{Opening}

abbrev pub is_agreeing : List Opening → ℕ → NetChoice → Bool
is_agreeing os e c = nat_eq c.event e && list_all (move_ready os) c.moves
