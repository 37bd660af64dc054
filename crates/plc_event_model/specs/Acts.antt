-- What a choice does whose test holds: the new values are computed beside the old ones, and where all of them are in range
-- they are stored, and the automata move.
use Rattle.std.specs.Prelude.{ℕ, true, not, List, [], ◌∷◌, map, filter, if◌then◌else◌}
use Rattle.cif_net_expr.specs.Tree.{net_set, net_choose, NetUpdates, no_net_updates, net_updates}
use Rattle.cif_net_model.specs.Net.{Net}
use Rattle.cif_net_model.specs.Exprs.{targets}
use Rattle.cif_net_model.specs.Facts.{has}
use Rattle.st_ast.specs.Tree.{truth, named, Stm, Stms, assign, no_stms, stms, append, stms_of, no_branches, branches}
use Rattle.plc_expr.specs.Texts.{Naming}
use Rattle.plc_event_model.specs.Writes.{NewNames, any_tested, chosen, writes}

-- ---- variables

-- each number once, in the order of the list, but for those that were seen
abbrev pub once : List ℕ → List ℕ → List ℕ
once seen [] = []
once seen (v ∷ vs) = if has seen v then once seen vs else v ∷ once (v ∷ seen) vs

-- the variables that are assigned, under a condition or not
abbrev pub assigned_vars : NetUpdates → List ℕ
assigned_vars us = once [] (targets us)

-- those that are assigned under no condition
abbrev pub surely_set : NetUpdates → List ℕ
surely_set no_net_updates = []
surely_set (net_updates (net_set v e) us) = v ∷ surely_set us
surely_set (net_updates (net_choose bs other) us) = surely_set us

-- those whose new value may be the old one
abbrev pub may_stay : NetUpdates → List ℕ
may_stay us = filter (λ v. not (has (surely_set us) v)) (assigned_vars us)

-- ---- statements

-- a new value starts as the old one
abbrev pub copy : Naming → NewNames → ℕ → Stm
copy w y v = assign (y.next v) (named (w.variable v))

abbrev pub store : Naming → NewNames → ℕ → Stm
store w y v = assign (w.variable v) (named (y.next v))

-- the new values
abbrev pub computed : Net → Naming → NewNames → ℕ → NetUpdates → Stms
computed n w y k us = append (stms_of (map (copy w y) (may_stay us))) (writes n w y k us)

-- the new values are stored, and then other statements
abbrev pub stored : Naming → NewNames → NetUpdates → Stms → Stms
stored w y us rest = append (stms_of (map (store w y) (assigned_vars us))) rest

-- The new values are computed, and where all of them are in range other statements follow. Without one that is tested there is
-- nothing to ask of them, and without updates nothing to compute.
abbrev pub act : Net → Naming → NewNames → ℕ → NetUpdates → Stms → Stms
act n w y k us body =
    if any_tested n us
    then stms (assign y.in_range (truth true)) (append (computed n w y k us) (chosen (branches (named y.in_range) body no_branches) no_stms))
    else append (computed n w y k us) body
