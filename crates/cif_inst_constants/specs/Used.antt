-- The bodies that components have, by the numbers of components.
use Rattle.std.specs.Prelude.{ℕ, zero, suc, ◌+◌, Bool, true, false, List, [], ◌∷◌, ◌++◌, length, replicate, Option, Some, None, slice_get, slice_set}
use Rattle.std.specs.Option.{option_or}
use Rattle.cif_scope.specs.declared.scopes.Scopes.{Scopes}
use Rattle.cif_scope.specs.Written.{WrittenBody, body_of_written}
use Rattle.cif_inst_components.specs.declared.components.Component.{Component}
use Rattle.cif_inst_components.specs.declared.components.Components.{Components}
use Rattle.cif_inst_constants.specs.declared.using.Body.{Body}

-- ---- marks

abbrev pub or_false : Option Bool → Bool
or_false None = false
or_false (Some b) = b

-- whether body k is marked
abbrev pub is_used : List Bool → ℕ → Bool
is_used used k = or_false (slice_get used k)

-- with the body of a component marked
abbrev pub mark_at : List Bool → Option Component → List Bool
mark_at used None = used
mark_at used (Some c) = slice_set used c.body true

-- with those of the first n components
abbrev pub marked_to : List Component → List Bool → ℕ → List Bool
marked_to all used zero = used
marked_to all used (suc n) = mark_at (marked_to all used n) (slice_get all n)

-- for each body whether it is that of a component
abbrev pub used_bodies : Scopes → Components → List Bool
used_bodies s cs = marked_to cs.all (replicate (length s.table.scopes) false) (length cs.all)

-- ---- bodies with their numbers

pub record NumberedBody : Type 0 where
  pub number : ℕ
  pub written : WrittenBody

abbrev pub numbered_of : Body → NumberedBody
numbered_of b = record { number = b.number; written = body_of_written b.written }

abbrev pub if_used : Bool → ℕ → WrittenBody → List NumberedBody
if_used true k w = record { number = k; written = w } ∷ []
if_used false k w = []

-- where the first of these bodies has a fault that has one
abbrev pub first_in : (NumberedBody → Option ℕ) → List NumberedBody → Option ℕ
first_in fault [] = None
first_in fault (b ∷ bs) = option_or (fault b) (first_in fault bs)

-- the marked ones of the bodies from body k on
abbrev pub used_from : List Bool → ℕ → List WrittenBody → List NumberedBody
used_from used k [] = []
used_from used k (w ∷ ws) = if_used (is_used used k) k w ++ used_from used (k + 1) ws
