-- Helper of the code: choices in the order of their events.
use Rattle.std.specs.Prelude.{ℕ, suc, ◌≤◌, nat_eq, List, [], ◌∷◌, if◌then◌else◌}
use Rattle.cif_net_model.specs.Listing.{NetChoice}

-- each event is at least the one before it, and the first one at least e
abbrev pub Ascending : ℕ → List NetChoice → Type 0
Ascending e [] = Unit {0}
Ascending e (c ∷ cs) = (e ≤ c.event) × Ascending c.event cs

-- how many at the front are choices of e
abbrev pub leading : ℕ → List NetChoice → ℕ
leading e [] = 0
leading e (c ∷ cs) = if nat_eq c.event e then suc (leading e cs) else 0
