-- For each event the automata that have it in one way, as code finds them.
use Rattle.std.specs.Prelude.{ℕ, nat_eq, List, [], ◌∷◌, map, replicate, slice_index_or, if◌then◌else◌}
use Rattle.std.specs.List.{range_with_len}
use Rattle.cif_system.specs.System.{Role, sending, receiving}
use Rattle.cif_system.specs.Step.{same_role}
use Rattle.cif_net_model.specs.Listing.{NetRoles, numbers_of}
use Rattle.cif_net.specs.declared.automata.NetEdge.{NetEdge}
use Rattle.cif_net.specs.declared.automata.Auto.{Auto}
use Rattle.cif_net.specs.View.{role_of}
use Rattle.cif_sync.specs.Buckets.{each_noted}

-- the events of the edges in a role
abbrev pub events_in : Role → List NetEdge → List ℕ
events_in p [] = []
events_in p (x ∷ xs) = if same_role p (role_of x.role) then x.event ∷ events_in p xs else events_in p xs

abbrev pub noted_by : (Auto → List ℕ) → (events : ℕ) → List Auto → List (List ℕ)
noted_by f events autos = each_noted 0 (map f autos) (replicate events [])

abbrev pub alphabets : ℕ → List Auto → List (List ℕ)
alphabets events autos = noted_by (λ (a : Auto). a.alphabet) events autos

abbrev pub monitored : ℕ → List Auto → List (List ℕ)
monitored events autos = noted_by (λ (a : Auto). a.monitors) events autos

abbrev pub used : Role → ℕ → List Auto → List (List ℕ)
used p events autos = noted_by (λ (a : Auto). events_in p a.edges) events autos

-- the roles in one event
abbrev pub roles_at : (syncs monitors sends receives : List (List ℕ)) → ℕ → NetRoles
roles_at syncs monitors sends receives e = record {
  syncs = slice_index_or syncs e [];
  monitors = slice_index_or monitors e [];
  sends = slice_index_or sends e [];
  receives = slice_index_or receives e [];
}

-- the roles in all events
abbrev pub roles_by_event : ℕ → List Auto → List NetRoles
roles_by_event events autos =
    map (roles_at (alphabets events autos) (monitored events autos) (used sending events autos) (used receiving events autos)) (range_with_len 0 events)

-- for each event the places at which it stands in a list
abbrev pub places_in : (count : ℕ) → (events : List ℕ) → List (List ℕ)
places_in count events = map (λ e. numbers_of (nat_eq e) events) (range_with_len 0 count)
