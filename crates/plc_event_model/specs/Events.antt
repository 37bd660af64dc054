-- What is written for a choice, as the statements of an event have it.
use Rattle.std.specs.Prelude.{ℕ, ◌+◌, Bool, not, ◌&&◌, nat_eq, length, is_none, List, [], ◌∷◌}
use Rattle.cif_net_model.specs.Net.{Net}
use Rattle.cif_net_model.specs.Listing.{NetChoice}
use Rattle.cif_net_model.specs.Table.{carried_type}
use Rattle.plc_frame.specs.Events.{Written, moves_text}
use Rattle.plc_expr.specs.Texts.{Naming, temps, text, before}
use Rattle.plc_event_model.specs.Writes.{NewNames, any_tested, updates_temps}
use Rattle.plc_event_model.specs.Acts.{act, stored}
use Rattle.plc_event_model.specs.Sends.{sends, sent_temps}
use Rattle.plc_event_model.specs.Keeps.{asked, where_kept}
use Rattle.plc_event_model.specs.Own.{choice_temps}

-- its test alone says whether there is a step, and nothing stands before the test
abbrev pub is_bare : Net → NetChoice → Bool
is_bare n c = is_none c.sent && not (any_tested n c.writes) && nat_eq (length (asked n c)) 0 && nat_eq (temps c.test) 0

-- The own variables of its expressions are numbered from k.
abbrev pub choice_written : Net → Naming → NewNames → ℕ → NetChoice → Written
choice_written n w y k c = record {
  before = before w k c.test;
  test = text w k c.test;
  act = λ marks. sends w (k + temps c.test) c.sent (carried_type n c)
      (act n w y (k + temps c.test + sent_temps c.sent) c.writes
      (where_kept n w y (k + temps c.test + sent_temps c.sent + updates_temps c.writes) c (stored w y c.writes (moves_text n c.moves marks))));
  is_bare = is_bare n c;
}

-- one choice after the other
abbrev pub all_written : Net → Naming → NewNames → ℕ → List NetChoice → List Written
all_written n w y k [] = []
all_written n w y k (c ∷ cs) = choice_written n w y k c ∷ all_written n w y (k + choice_temps n c) cs
