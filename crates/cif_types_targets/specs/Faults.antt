-- The first assigned variable that breaks a rule, and what the answers say of a source.
use Rattle.std.specs.Prelude.{ℕ, ◌+◌, false, nat_eq, List, [], ◌∷◌, Option, Some, None, if◌then◌else◌}
use Rattle.std.specs.Option.{option_or}
use Rattle.std.specs.Map.{lookup}
use Rattle.indexmap.specs.IndexMap.{insert_entry}
use Rattle.cif_ast.specs.Tree.{UpdateTrees}
use Rattle.cif_ast.specs.declared.names.Name.{Name}
use Rattle.cif_source.specs.Source.{SourceBody, Source}
use Rattle.cif_source.specs.BodyRules.{NotOwnDue, AssignedTwiceDue}
use Rattle.cif_scope.specs.declared.looked.Looked.{Looked}
use Rattle.cif_scope.specs.declared.looked.Looked.TheVariants.{At, Missing, Blocked}
use Rattle.cif_scope.specs.declared.scopes.Scopes.{Scopes}
use Rattle.cif_scope.specs.Looks.{look}
use Rattle.cif_scope.specs.Written.{WrittenBody}
use Rattle.cif_types_targets.specs.declared.error.TargetErr.{TargetErr}
use Rattle.cif_types_targets.specs.declared.error.TargetErr.TheVariants.{NotOwn, AssignedTwice, Memory}
use Rattle.cif_types_targets.specs.Assigned.{AssignedName, assigned_by, body_lists}

-- ---- where a name leads

abbrev pub own_at : ℕ → Looked → Option ℕ
own_at k (At j s) = if nat_eq j k then Some s else None
own_at k Missing = None
own_at k Blocked = None

-- the slot of body k to which a name in it leads through components as written
abbrev pub own_slot : Scopes → ℕ → Name → Option ℕ
own_slot sc k nm = own_at k (look sc.table sc.definitions false k nm)

-- ---- one list

-- for slots the number of the update that assigns them
abbrev pub Marked : Type 0
Marked = List (ℕ × ℕ)

abbrev pub mark_of : Marked → ℕ → Option ℕ
mark_of ms s = lookup (nat_eq s) ms

abbrev pub fault_with : AssignedName → Option ℕ → Option TargetErr
fault_with a None = None
fault_with a (Some i) = if nat_eq i a.update then None else Some (AssignedTwice a.name.at)

abbrev pub mark_fault : Marked → ℕ → AssignedName → Option TargetErr
mark_fault ms s a = fault_with a (mark_of ms s)

abbrev pub marked_with : Marked → ℕ → AssignedName → Option ℕ → Marked
marked_with ms s a None = insert_entry nat_eq ms s a.update
marked_with ms s a (Some i) = ms

abbrev pub marked : Marked → ℕ → AssignedName → Marked
marked ms s a = marked_with ms s a (mark_of ms s)

-- of a name that leads to that slot, and of what comes after it
abbrev pub slot_fault : Marked → AssignedName → (Marked → Option TargetErr) → Option ℕ → Option TargetErr
slot_fault ms a rest None = Some (NotOwn a.name.at)
slot_fault ms a rest (Some s) = option_or (mark_fault ms s a) (rest (marked ms s a))

-- in order, with the marks so far
abbrev pub assigned_fault : Scopes → ℕ → Marked → List AssignedName → Option TargetErr
assigned_fault sc k ms [] = None
assigned_fault sc k ms (a ∷ rest) = slot_fault ms a (λ n. assigned_fault sc k n rest) (own_slot sc k a.name)

abbrev pub list_fault : Scopes → ℕ → UpdateTrees → Option TargetErr
list_fault sc k us = assigned_fault sc k [] (assigned_by 0 us)

-- ---- lists, bodies

abbrev pub lists_fault : Scopes → ℕ → List UpdateTrees → Option TargetErr
lists_fault sc k [] = None
lists_fault sc k (us ∷ rest) = option_or (list_fault sc k us) (lists_fault sc k rest)

abbrev pub body_fault : Scopes → ℕ → SourceBody → Option TargetErr
body_fault sc k b = lists_fault sc k (body_lists b)

-- that of the bodies from body k on
abbrev pub faults_from : Scopes → ℕ → List WrittenBody → Option TargetErr
faults_from sc k [] = None
faults_from sc k (w ∷ ws) = option_or (body_fault sc k w.body) (faults_from sc (k + 1) ws)

-- ---- answers

-- the rule of the error is broken at the place that it tells; of want of memory nothing is said
abbrev pub due : Source → TargetErr → Type 0
due t (NotOwn at) = NotOwnDue t at
due t (AssignedTwice at) = AssignedTwiceDue t at
due t Memory = Unit {0}
