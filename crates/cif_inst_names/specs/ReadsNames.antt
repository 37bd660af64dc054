-- Helpers of the code: what names are read in, which stays closed in the walks over expressions and updates, and a function value
-- that reads names.
use Rattle.std.specs.Prelude.{◌≡◌, ◌<◌, ℕ, length, Result, IfOk}
use Rattle.std.specs.Borrow.{Bor}
use Rattle.std.specs.declared.alloc.Global.{Global}
use Rattle.cif_base.specs.declared.memory.Memory.{Memory}
use Rattle.cif_ast.specs.View as ast
use Rattle.cif_ast.specs.declared.names.Name.{Name}
use Rattle.cif_source.specs.Components.{Component}
use Rattle.cif_source.specs.Objects.{components_of}
use Rattle.cif_net_expr.specs.Tree as net
use Rattle.cif_net_expr.specs.declared.expressions.NetExpr.{NetExpr}
use Rattle.cif_net_expr.specs.View.{view}
use Rattle.cif_inst_model.specs.Translation.{net_name, net_with}
use Rattle.cif_inst_parameters.specs.Given.{placed_at}
use Rattle.cif_inst_names.specs.Looking.{AreNamesOf, source_for, component_at}
use Rattle.cif_inst_names.specs.Objects.{object_form}
use Rattle.cif_inst_names.specs.declared.looking.Looking.{Looking}
use Rattle.cif_inst_names.specs.declared.objects.Meaning.{Meaning}
use Rattle.cif_inst_names.specs.declared.objects.Meaning.TheVariants as meaning

-- component k
unfoldable pub home : Looking → ℕ → Component
home l k = component_at l k

-- what a name in component k stands for at a place
unfoldable pub name_in : Looking → ℕ → Name → ℕ → net.NetExpr
name_in l k nm at = net_name (component_at l k) nm at

-- names are those of a source, and component k is one of its
unfoldable pub IsHome : Looking → ℕ → Type 0
IsHome l k = AreNamesOf l × (k < length (components_of (source_for l)))

-- what is read for a name that has a meaning
abbrev pub IsRead : Looking → ℕ → Name → Meaning → Type 0
IsRead l k nm (meaning.Object o) = (at : ℕ) → name_in l k nm at ≡ net.net_expr (object_form o) at
IsRead l k nm (meaning.Given p giver value round) =
    IsHome l giver × ((at : ℕ) → name_in l k nm at ≡ placed_at round (net_with (name_in l giver) (ast.view value.now)))

-- a function value that reads the names of a component, through so many arguments
pub record Reads (looking : Bor Looking) (component left : ℕ) (pre : Global → Bor Looking → ℕ → Bor Name → ℕ → ℕ → Type 0)
    (post : Global → Bor Looking → ℕ → Bor Name → ℕ → ℕ → Result NetExpr Memory → Type 0) : Type 0 where
  pub callable : (alloc : Global) (name : Bor Name) (at : ℕ) → pre alloc looking component name at left
  pub reads : (alloc : Global) (name : Bor Name) (at : ℕ) (r : Result NetExpr Memory) → post alloc looking component name at left r
      → IfOk r (λ x. view x ≡ name_in looking.now component name.now at)

unfoldable pub ReadsNames : Bor Looking → (component left : ℕ) → (Global → Bor Looking → ℕ → Bor Name → ℕ → ℕ → Type 0)
    → (Global → Bor Looking → ℕ → Bor Name → ℕ → ℕ → Result NetExpr Memory → Type 0) → Type 0
ReadsNames looking component left pre post = Reads looking component left pre post
