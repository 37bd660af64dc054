-- Helper of the code: what a choice may change, as marks, and which state invariants depend on that.
use Rattle.std.specs.Prelude.{◌≡◌, ℕ, Bool, false, List, map, Option, Some, None, option_map, slice_get}
use Rattle.std.specs.List.{list_any}
use Rattle.cif_net_expr.specs.Tree.{NetExpr}
use Rattle.cif_net_model.specs.Listing.{NetChoice}
use Rattle.cif_net_model.specs.Net.{NetInvariant, Net}
use Rattle.cif_net_model.specs.Reads.{Read, a_var, a_place, names_in}
use Rattle.plc_event_model.specs.Keeps.{may_change}
use Rattle.plc_event.specs.Marked.{is_marked}
use Rattle.plc_event.specs.declared.changes.Changes.{Changes}

-- ---- marks

abbrev pub is_changed : Changes → Read → Bool
is_changed x (a_var v) = is_marked x.variables.round x.variables.last v
is_changed x (a_place k) = is_marked x.places.round x.places.last k
is_changed x _ = false

-- they say what the choice may change
abbrev pub MarksChanges : Net → NetChoice → Changes → Type 0
MarksChanges n c x = (q : Read) → is_changed x q ≡ may_change n c q

-- ---- invariants by their numbers

abbrev pub predicate_at : Net → ℕ → Option NetExpr
predicate_at n k = option_map (λ (i : NetInvariant). i.pred) (slice_get n.invariants k)

-- one that is there and names something that is marked
abbrev pub is_dependent : Net → Changes → ℕ → Bool
is_dependent n x k = elim (predicate_at n k) [ None ↦ false | Some e ↦ list_any (is_changed x) (names_in e) ]

-- the invariants with these numbers, all of which are there
abbrev pub AreNumbered : Net → List ℕ → List NetExpr → Type 0
AreNumbered n ks es = map (predicate_at n) ks ≡ map (λ e. Some e) es
