-- The classes of events and of event parameters, from what is said of the slots of bodies.
use Rattle.std.specs.Prelude.{ℕ, Bool, true, false, List, [], Option, Some, None, option_map, slice_get}
use Rattle.cif_ast.specs.declared.declarations.Class.{Class}
use Rattle.cif_ast.specs.declared.declarations.Class.TheVariants as class
use Rattle.cif_ast.specs.declared.declarations.Param.{Param}
use Rattle.cif_source.specs.Source.{ParamTree, event_param, alg_param, location_param, param_tree}
use Rattle.cif_scope.specs.declared.scope.Sort.{Sort}
use Rattle.cif_scope.specs.declared.scope.Sort.TheVariants as sort
use Rattle.cif_scope.specs.declared.scope.ParamSort.TheVariants as param
use Rattle.cif_scope.specs.declared.scope.What.{What}
use Rattle.cif_scope.specs.declared.scope.What.TheVariants as what
use Rattle.cif_scope.specs.declared.scopes.Scopes.{Scopes}
use Rattle.cif_scope.specs.declared.scopes.Found.{Found}
use Rattle.cif_scope.specs.declared.written.Written.{Written}
use Rattle.cif_scope.specs.Looks.{what_at}

-- the parameters of body k, where there is one
abbrev pub params_at : List Written → ℕ → List Param
params_at all k = elim (slice_get all k) [ None ↦ [] | Some w ↦ w.params.now ]

-- the class of an event parameter
abbrev pub param_class : Option ParamTree → Option Class
param_class None = None
param_class (Some (event_param k h n)) = Some k
param_class (Some (alg_param ty n)) = None
param_class (Some (location_param n)) = None

abbrev pub sort_class : Sort → Option Class
sort_class sort.Type = None
sort_class sort.Enum = None
sort_class (sort.Event k) = Some k
sort_class sort.Constant = None
sort_class sort.Algebraic = None
sort_class sort.Input = None
sort_class sort.Discrete = None

-- the class of what is said to be an event or an event parameter; the parameter there has the class p
abbrev pub class_in : Option Class → Option What → Option Class
class_in p None = None
class_in p (Some (what.Declared d)) = sort_class d
class_in p (Some (what.Parameter param.Event)) = p
class_in p (Some (what.Parameter param.Algebraic)) = None
class_in p (Some (what.Parameter param.Location)) = None
class_in p (Some (what.Literal j)) = None
class_in p (Some (what.Location j)) = None
class_in p (Some (what.Component j)) = None
class_in p (Some (what.Definition j n)) = None
class_in p (Some (what.Instance j)) = None

-- the class in a slot of body k
abbrev pub class_at : Scopes → List Written → ℕ → ℕ → Option Class
class_at s all k i = class_in (param_class (option_map param_tree (slice_get (params_at all k) i))) (what_at s.table k i)

abbrev pub class_found : Scopes → List Written → Option Found → Option Class
class_found s all None = None
class_found s all (Some f) = class_at s all f.body f.slot

-- the class that a parameter asks for; `event` asks for none
abbrev pub has_class : Class → Option Class → Bool
has_class class.Plain k = true
has_class class.Con k = elim k [ None ↦ false | Some j ↦ elim j [ class.Plain ↦ false | class.Con ↦ true | class.Unc ↦ false ] ]
has_class class.Unc k = elim k [ None ↦ false | Some j ↦ elim j [ class.Plain ↦ false | class.Con ↦ false | class.Unc ↦ true ] ]
