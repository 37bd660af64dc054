-- The bodies of a source as written, without what they stand in, and the definitions of their instances by numbers.
use Rattle.std.specs.Prelude.{ℕ, ◌+◌, false, List, [], ◌∷◌, ◌++◌, map, flat_map, Option, Some, None}
use Rattle.cif_ast.specs.View.{view_items}
use Rattle.cif_source.specs.Source.{ParamTree, param_tree, InstanceTree, SourceItem, decl_item, component_item, definition_item, instance_item, SourceBody, group_body, automaton_body, automaton_tree, source_items, Source, no_source, source}
use Rattle.cif_source.specs.Objects.{items_in}
use Rattle.cif_scope.specs.declared.scope.What.{What}
use Rattle.cif_scope.specs.declared.scope.What.TheVariants as what
use Rattle.cif_scope.specs.declared.looked.Looked.{Looked}
use Rattle.cif_scope.specs.declared.looked.Looked.TheVariants.{At, Missing, Blocked}
use Rattle.cif_scope.specs.declared.table.Table.{Table}
use Rattle.cif_scope.specs.declared.written.Written.{Written}
use Rattle.cif_scope.specs.declared.written.Inside.{Inside}
use Rattle.cif_scope.specs.declared.written.Inside.TheVariants as inside
use Rattle.cif_scope.specs.Looks.{Definitions, what_at, look}

-- parameters and a body
pub record WrittenBody : Type 0 where
  pub params : List ParamTree
  pub body : SourceBody

abbrev pub written_body : List ParamTree → SourceBody → WrittenBody
written_body ps b = record { params = ps; body = b }

abbrev mutual
  pub written_in : Source → List WrittenBody
  written_in no_source = []
  written_in (source i is) = written_at i ++ written_in is

  pub written_at : SourceItem → List WrittenBody
  written_at (decl_item d) = []
  written_at (component_item n b) = written_body [] b ∷ written_under b
  written_at (definition_item n ps b) = written_body ps b ∷ written_under b
  written_at (instance_item i) = []

  pub written_under : SourceBody → List WrittenBody
  written_under (group_body is) = written_in is
  written_under (automaton_body a) = []

-- all bodies, in text order
abbrev pub written_bodies : Source → List WrittenBody
written_bodies t = written_body [] (group_body t) ∷ written_in t

-- ---- those that the code refers to

abbrev pub inside_of : Inside → SourceBody
inside_of (inside.Group items) = group_body (source_items (view_items items.now))
inside_of (inside.Automaton a) = automaton_body (automaton_tree a.now)

abbrev pub body_of_written : Written → WrittenBody
body_of_written w = written_body (map param_tree w.params.now) (inside_of w.inside)

-- ---- definitions of instances

abbrev pub definition_what : Option What → Option ℕ
definition_what None = None
definition_what (Some (what.Definition k n)) = Some k
definition_what (Some (what.Declared d)) = None
definition_what (Some (what.Literal j)) = None
definition_what (Some (what.Location j)) = None
definition_what (Some (what.Component j)) = None
definition_what (Some (what.Instance j)) = None
definition_what (Some (what.Parameter p)) = None

abbrev pub definition_looked : Table → Looked → Option ℕ
definition_looked tb (At k s) = definition_what (what_at tb k s)
definition_looked tb Missing = None
definition_looked tb Blocked = None

-- the definition of an instance of body k
abbrev pub definition_by : Table → ℕ → InstanceTree → Option ℕ
definition_by tb k i = definition_looked tb (look tb [] false k i.def)

abbrev pub item_definitions : Table → ℕ → SourceItem → List (Option ℕ)
item_definitions tb k (decl_item d) = []
item_definitions tb k (component_item n b) = []
item_definitions tb k (definition_item n ps b) = []
item_definitions tb k (instance_item i) = definition_by tb k i ∷ []

abbrev pub definitions_in : Table → ℕ → SourceBody → List (Option ℕ)
definitions_in tb k b = flat_map (item_definitions tb k) (items_in b)

-- those of the bodies from body k on
abbrev pub definitions_from : Table → ℕ → List WrittenBody → Definitions
definitions_from tb k [] = []
definitions_from tb k (w ∷ ws) = definitions_in tb k w.body ∷ definitions_from tb (k + 1) ws
