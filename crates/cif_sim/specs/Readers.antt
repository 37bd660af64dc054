-- The events that read a variable, an input or a place.
use Rattle.std.specs.Prelude.{◌≡◌, ℕ, Bool, true, nat_eq, List, [], length, map, flat_map, Some, slice_get, unwrap_or}
use Rattle.std.specs.List.{AllByRecursion, list_any}
use Rattle.cif_net_model.specs.Net.{NetInvariant}
use Rattle.cif_net_model.specs.Reads.{Read, a_var, an_input, an_alg, a_place, the_received, names_in}
use Rattle.cif_net.specs.View.{choice_tree, invariant_tree}
use Rattle.cif_net.specs.declared.guarded.Guarded.{Guarded}
use Rattle.cif_net.specs.declared.listing.Choice.{Choice}
use Rattle.cif_sim.specs.Names.{choice_reads}
use Rattle.cif_sim.specs.declared.readers.Readers.{Readers}

-- the list with this number, if there is one
abbrev pub list_at : List (List ℕ) → ℕ → List ℕ
list_at lists k = unwrap_or (slice_get lists k) []

abbrev pub is_listed : List (List ℕ) → ℕ → ℕ → Bool
is_listed lists k e = list_any (nat_eq e) (list_at lists k)

-- event e is among those that read this
abbrev pub is_read : Readers → Read → ℕ → Bool
is_read t (a_var k) e = is_listed t.vars k e
is_read t (an_input k) e = is_listed t.inputs k e
is_read t (an_alg k) e = true
is_read t (a_place k) e = is_listed t.places k e
is_read t the_received e = true

abbrev pub IsReadAt : Readers → ℕ → Read → Type 0
IsReadAt t e x = is_read t x e ≡ true

-- nothing is lost
abbrev pub KeepsLists : (old new : List (List ℕ)) → Type 0
KeepsLists old new = (k e : ℕ) → is_listed old k e ≡ true → is_listed new k e ≡ true

abbrev pub Keeps : (old new : Readers) → Type 0
Keeps old new = (x : Read) (e : ℕ) → is_read old x e ≡ true → is_read new x e ≡ true

-- each of these choices is read
abbrev pub AreReadBy : Readers → List Choice → Type 0
AreReadBy t cs = (k : ℕ) (c : Choice) → slice_get cs k ≡ Some c → AllByRecursion (IsReadAt t c.event) (choice_reads (choice_tree c))

abbrev pub predicate_names : List NetInvariant → List Read
predicate_names is = flat_map (λ (i : NetInvariant). names_in i.pred) is

-- the event of each choice reads what that names, and what state invariants name is read by the number behind the last event
pub record AreReaders (g : Guarded) (t : Readers) : Type 0 where
  pub choices : AreReadBy t g.choices
  pub invariants : AllByRecursion (IsReadAt t (length g.plain.net.events)) (predicate_names (map invariant_tree g.plain.net.invariants))
