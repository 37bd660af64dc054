-- Helper of the code: the outer components by numbers, one after the other.
use Rattle.std.specs.Prelude.{ℕ, false, List, [], ◌∷◌, ◌++◌, map, flat_map, Option, Some, None, slice_get}
use Rattle.std.specs.Borrow.{Bor}
use Rattle.std.specs.Global.{Vec}
use Rattle.cif_ast.specs.declared.names.Name.{Name}
use Rattle.cif_source.specs.Source.{SourceItem, decl_item, component_item, definition_item, instance_item, SourceBody}
use Rattle.cif_source.specs.Objects.{items_in}
use Rattle.cif_scope.specs.Looks as looks
use Rattle.cif_scope.specs.Written.{WrittenBody}
use Rattle.cif_scope.specs.declared.scope.What.{What}
use Rattle.cif_scope.specs.declared.scope.What.TheVariants as what
use Rattle.cif_scope.specs.declared.scopes.Scopes.{Scopes}
use Rattle.cif_inst_components.specs.declared.components.Component.{Component}
use Rattle.cif_inst_components.specs.declared.components.Place.{Place}
use Rattle.cif_inst_components.specs.Finding.{Finder, and_then, look}

-- the names that references stand for
abbrev pub name_now : Bor Name → Name
name_now n = n.now

abbrev pub names_now : Vec (Bor Name) → List Name
names_now ns = map name_now ns.items

abbrev pub item_names : SourceItem → List Name
item_names (decl_item d) = []
item_names (component_item n b) = []
item_names (definition_item n ps b) = []
item_names (instance_item i) = i.def ∷ []

-- the names of the definitions of a body's instances
abbrev pub names_inside : SourceBody → List Name
names_inside b = flat_map item_names (items_in b)

abbrev pub definition_names : WrittenBody → List Name
definition_names w = names_inside w.body

abbrev pub definition_name : List (List Name) → (body instance : ℕ) → Option Name
definition_name names k r = and_then (slice_get names k) (λ of_body. slice_get of_body r)

abbrev pub component_of : Place → ℕ
component_of p = p.component

-- where the definition of instance r of body k is found from component j
abbrev pub outer_of_instance : Finder → List (List Name) → (j k r : ℕ) → Option ℕ
outer_of_instance f names j k r =
    and_then (definition_name names k r) (λ nm. and_then (look f false j nm) (λ p. Some (component_of p)))

-- of what stands at a place of body k
abbrev pub outer_for : Finder → List (List Name) → (k : ℕ) → Place → Option What → Option ℕ
outer_for f names k p None = None
outer_for f names k p (Some (what.Instance r)) = outer_of_instance f names p.component k r
outer_for f names k p (Some (what.Component j)) = Some p.component
outer_for f names k p (Some (what.Declared d)) = Some p.component
outer_for f names k p (Some (what.Literal j)) = Some p.component
outer_for f names k p (Some (what.Location j)) = Some p.component
outer_for f names k p (Some (what.Definition j n)) = Some p.component
outer_for f names k p (Some (what.Parameter q)) = Some p.component

abbrev pub outer_at_place : Finder → List (List Name) → Place → Option ℕ
outer_at_place f names p =
    and_then (slice_get f.all p.component) (λ (c : Component). outer_for f names c.body p (looks.what_at f.scopes.table c.body p.slot))

abbrev pub outer_of : Finder → List (List Name) → Component → Option ℕ
outer_of f names c = and_then c.stands (λ p. outer_at_place f names p)

-- those of the components to come, given those of the ones before
abbrev pub outers_from : Scopes → List (List Name) → List Component → List Place → List (Option ℕ) → List Component → List (Option ℕ)
outers_from s names all children done [] = done
outers_from s names all children done (c ∷ cs) =
    let here = outer_of (record { scopes = s; all = all; outers = done; children = children }) names c in
    outers_from s names all children (done ++ here ∷ []) cs

abbrev pub all_outers : Scopes → List (List Name) → List Component → List Place → List (Option ℕ)
all_outers s names all children = outers_from s names all children [] all
