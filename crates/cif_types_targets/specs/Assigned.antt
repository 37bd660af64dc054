-- The names that lists of updates assign, and the lists of a body.
use Rattle.std.specs.Prelude.{ℕ, ◌+◌, List, [], ◌++◌, map, flat_map}
use Rattle.cif_ast.specs.Tree.{UpdateTrees, no_updates, updates}
use Rattle.cif_ast.specs.declared.names.Name.{Name}
use Rattle.cif_source.specs.Source.{LocationTree, SourceBody, group_body, automaton_body}
use Rattle.cif_source.specs.BodyRules.{targets_of, lists_of}

-- a name that is assigned, and the number of the update of the list in which it is
pub record AssignedName : Type 0 where
  pub update : ℕ
  pub name : Name

abbrev pub numbered : ℕ → Name → AssignedName
numbered k nm = record { update = k; name = nm }

-- those of a list whose updates are numbered from k on
abbrev pub assigned_by : ℕ → UpdateTrees → List AssignedName
assigned_by k no_updates = []
assigned_by k (updates u us) = map (numbered k) (targets_of u) ++ assigned_by (k + 1) us

abbrev pub location_lists : LocationTree → List UpdateTrees
location_lists l = flat_map lists_of l.edges

abbrev pub body_lists : SourceBody → List UpdateTrees
body_lists (group_body is) = []
body_lists (automaton_body a) = flat_map location_lists a.locs
