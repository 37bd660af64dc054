-- What instances pass to the parameters of their definitions, by numbers.
use Rattle.std.specs.Prelude.{ℕ, List, [], ◌∷◌, map, flat_map, Option, Some, None, option_map, slice_get}
use Rattle.std.specs.Borrow.{Bor}
use Rattle.std.specs.Global.{Vec}
use Rattle.cif_ast.specs.Tree.{Tree}
use Rattle.cif_ast.specs.View.{view}
use Rattle.cif_ast.specs.declared.components.Inst.{Inst}
use Rattle.cif_ast.specs.declared.declarations.Param.{Param}
use Rattle.cif_source.specs.Source.{ParamTree, param_tree, InstanceTree, instance_tree, SourceItem, decl_item, component_item, definition_item, instance_item, SourceBody}
use Rattle.cif_source.specs.Objects.{items_in}
use Rattle.cif_scope.specs.Looks.{what_at}
use Rattle.cif_scope.specs.Written.{WrittenBody}
use Rattle.cif_scope.specs.declared.scope.What.{What}
use Rattle.cif_scope.specs.declared.scope.What.TheVariants as what
use Rattle.cif_scope.specs.declared.scopes.Scopes.{Scopes}
use Rattle.cif_inst_components.specs.declared.components.Component.{Component}
use Rattle.cif_inst_components.specs.declared.components.Place.{Place}
use Rattle.cif_inst_parameters.specs.declared.passing.Passed as code

-- what follows where there is something
abbrev pub and_then : {A B : Type 0} → Option A → (A → Option B) → Option B
and_then None f = None
and_then (Some x) f = f x

-- the trees that references stand for
abbrev pub instance_now : Bor Inst → InstanceTree
instance_now i = instance_tree i.now

abbrev pub instances_now : Vec (Bor Inst) → List InstanceTree
instances_now is = map instance_now is.items

abbrev pub params_now : Bor (List Param) → List ParamTree
params_now ps = map param_tree ps.now

abbrev pub item_instances : SourceItem → List InstanceTree
item_instances (decl_item d) = []
item_instances (component_item n b) = []
item_instances (definition_item n ps b) = []
item_instances (instance_item i) = i ∷ []

-- the instances of a body, in text order
abbrev pub instances_inside : SourceBody → List InstanceTree
instances_inside b = flat_map item_instances (items_in b)

abbrev pub body_instances : WrittenBody → List InstanceTree
body_instances w = instances_inside w.body

abbrev pub instance_at : List (List InstanceTree) → (body instance : ℕ) → Option InstanceTree
instance_at all k r = and_then (slice_get all k) (λ of_body. slice_get of_body r)

abbrev pub params_at : List WrittenBody → ℕ → Option (List ParamTree)
params_at ws k = option_map (λ (w : WrittenBody). w.params) (slice_get ws k)

-- the parameters and the arguments for them, and the component that gives these
pub record Passed : Type 0 where
  pub giver : ℕ
  pub params : List ParamTree
  pub args : List Tree

abbrev pub passed_now : code.Passed → Passed
passed_now p = record { giver = p.giver; params = map param_tree p.params.now; args = map view p.args.now }

module _ (s : Scopes) (all : List Component) (ws : List WrittenBody) (instances : List (List InstanceTree)) where
  -- what instance r of body k passes to a definition with these parameters
  abbrev pub passed_by : (giver k r : ℕ) → List ParamTree → Option Passed
  passed_by giver k r ps = option_map (λ (i : InstanceTree). record { giver = giver; params = ps; args = i.args }) (instance_at instances k r)

  -- what stands at that place of body k passes to a component with the body `own`
  abbrev pub passed_of : (own k : ℕ) → Place → Option What → Option Passed
  passed_of own k p None = None
  passed_of own k p (Some (what.Instance r)) = and_then (params_at ws own) (passed_by p.component k r)
  passed_of own k p (Some (what.Component j)) = None
  passed_of own k p (Some (what.Declared d)) = None
  passed_of own k p (Some (what.Literal j)) = None
  passed_of own k p (Some (what.Location j)) = None
  passed_of own k p (Some (what.Definition j n)) = None
  passed_of own k p (Some (what.Parameter q)) = None

  abbrev pub passed_at : (own : ℕ) → Place → Option Passed
  passed_at own p = and_then (slice_get all p.component) (λ (g : Component). passed_of own g.body p (what_at s.table g.body p.slot))

  -- what component k is passed
  abbrev pub passed_to : ℕ → Option Passed
  passed_to k = and_then (slice_get all k) (λ (c : Component). and_then c.stands (passed_at c.body))
