-- What the code finds for a name is what the name stands for.
use Rattle.std.proofs.Common.{◌≡◌, ℕ, ◌<◌, inl, List, length, map, Option, Some, None, Result, Ok, Err, IfOk, sym, ◌∙◌, ap, arith}
use Rattle.std.specs.Borrow.{Bor}
use Rattle.cif_ast.specs.View.{view}
use Rattle.cif_ast.specs.declared.expressions.Expr.{Expr}
use Rattle.cif_ast.specs.declared.names.Name.{Name}
use Rattle.cif_base.specs.declared.memory.Memory.{Memory}
use Rattle.cif_net_expr.specs.Tree.{net_expr}
use Rattle.cif_source.specs.Source.{Source}
use Rattle.cif_source.specs.Components.{Component}
use Rattle.cif_source.specs.Lookup.{found}
use Rattle.cif_source.specs.Objects.{components_of}
use Rattle.cif_scope.proofs.Places.{beside-length}
use Rattle.cif_inst_components.specs.Numbers.{IsComponent, Finds}
use Rattle.cif_inst_components.specs.declared.components.Place.{Place}
use Rattle.cif_inst_model.specs.Translation.{net_of}
use Rattle.cif_inst_parameters.specs.declared.given.Given.{Given}
use Rattle.cif_inst_parameters.specs.declared.given.Given.TheVariants.{Value}
use Rattle.cif_inst_parameters.specs.Given.{given_items, placed_at}
use Rattle.cif_inst_parameters.specs.Following.{given_at}
use Rattle.cif_inst_names.specs.Looking.{AreNamesOf, source_for, component_at, component_of, or_whole}
use Rattle.cif_inst_names.specs.Objects.{object_form, MeansObject}
use Rattle.cif_inst_names.specs.declared.looking.Looking.{Looking}
use Rattle.cif_inst_names.specs.declared.objects.Object.{Object}
use Rattle.cif_inst_names.proofs.NameLaws.{value_means}
use Rattle.cif_inst_sizes.specs.Definitions.{DefinitionTree}
use Rattle.cif_inst_sizes.specs.Naming.{argument_number, AreArguments, IsVariableNumber, IsArgument, Resolves}

pub inside : (l : Looking) → AreNamesOf l → (k n : ℕ) → n ≡ length l.components.now.all → k < n → k < length (components_of (source_for l))
inside l are k n is less =
    let size : length l.components.now.all ≡ length (components_of (source_for l)) = beside-length (IsComponent (source_for l)) (components_of (source_for l)) l.components.now.all are.components.all in
    omega (arith, is, less, size)

variable-resolves : (t : Source) (count : ℕ) (c : Component) (nm : Name) (o : Object) → MeansObject c nm o → (n : Option ℕ) → IsVariableNumber count o n → (all : List DefinitionTree) → Resolves t count all c nm n
variable-resolves t count c nm o m None is all = record { meant = o; is_other = is; in_net = m.in_net }
variable-resolves t count c nm o m (Some n) is all = inl (record { below = is.1; in_net = λ at. m.in_net at ∙ ap (λ x. net_expr (object_form x) at) is.0 })

-- a name that means an object
pub object-resolves : (t : Source) (count : ℕ) (c : Component) (nm : Name) (o : Object) (given : List (List Given)) (firsts : List ℕ) → MeansObject c nm o → (r : Result (Option ℕ) Memory) → IfOk r (IsVariableNumber count o)
    → IfOk r (λ n. (all : List DefinitionTree) → AreArguments given firsts all → Resolves t count all c nm n)
object-resolves t count c nm o given firsts m (Ok n) is = λ all are. variable-resolves t count c nm o m n is all
object-resolves t count c nm o given firsts m (Err e) is = tt

-- a name that means what is given at a place
pub argument-resolves : (l : Looking) → AreNamesOf l → (k : ℕ) (nm : Name) (p : Place) (x : Given) (giver : ℕ) (value : Bor Expr) (round : Option ℕ) (firsts : List ℕ) (n : ℕ)
    → Finds (source_for l) (found (component_at l k) nm) (Some p) → given_at (map given_items l.given.now) p ≡ Some x → x ≡ Value giver value round → argument_number firsts p ≡ Some n
    → (all : List DefinitionTree) → AreArguments (map given_items l.given.now) firsts all → IsArgument (source_for l) all (component_at l k) nm n
argument-resolves l are k nm p x giver value round firsts n finds there is number all arguments =
    let m = value_means l are k nm p finds x giver value round there is in
    let home : component_of (source_for l) giver ≡ m.home = ap (or_whole (source_for l)) m.is_number in
    record {
      giver = giver;
      value = view value.now;
      round = round;
      is_there = arguments p (Value giver value round) n (there ∙ ap Some is) number;
      in_net = λ at. m.in_net at ∙ ap (λ h. placed_at round (net_of h (view value.now))) (sym home);
    }
