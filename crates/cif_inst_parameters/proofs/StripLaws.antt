-- What an expression in parentheses becomes, and that none are left round it.
use Rattle.std.proofs.Common.{◌≡◌, ℕ, false, Option, Some, None, refl, ◌∙◌, ap}
use Rattle.cif_ast.specs.Tree.{Tree, node, truth, number, named, received, paren, negative, positive, negation, absolute, least, greatest, sum, product, comparison, all_of, any_of, implication, equivalence, choice}
use Rattle.cif_ast.specs.declared.names.Name.{Name}
use Rattle.cif_net_expr.specs.Tree.{NetExpr, net_expr}
use Rattle.cif_net_model.specs.Exprs.{placed}
use Rattle.cif_source.specs.Components.{Component}
use Rattle.cif_source.specs.Lookup.{found}
use Rattle.cif_system.proofs.Lists.{none-some}
use Rattle.cif_inst_model.specs.Translation.{net_of}
use Rattle.cif_source.specs.Uses.{bare_name}
use Rattle.cif_inst_parameters.specs.Stripping.{stripped, parentheses_at}
use Rattle.cif_inst_parameters.specs.Following.{outermost}
use Rattle.cif_inst_parameters.specs.Given.{placed_at, has_argument, IsPlain}

placed-again : (at : ℕ) (o : Option ℕ) (e : NetExpr) → placed at (placed_at o e) ≡ placed at e
placed-again at None e = refl
placed-again at (Some k) (net_expr f j) = refl

pub placed-outermost : (a b : Option ℕ) (e : NetExpr) → placed_at a (placed_at b e) ≡ placed_at (outermost a b) e
placed-outermost None b e = refl
placed-outermost (Some at) b e = placed-again at b e

-- it has the place of the outermost parentheses
pub strip-net : (c : Component) (e : Tree) → net_of c e ≡ placed_at (parentheses_at e) (net_of c (stripped e))
strip-net c (node (paren e) at) = ap (placed at) (strip-net c e) ∙ placed-again at (parentheses_at e) (net_of c (stripped e))
strip-net c (node (truth b) at) = refl
strip-net c (node (number z) at) = refl
strip-net c (node (named nm) at) = refl
strip-net c (node received at) = refl
strip-net c (node (negative e) at) = refl
strip-net c (node (positive e) at) = refl
strip-net c (node (negation e) at) = refl
strip-net c (node (absolute e) at) = refl
strip-net c (node (least a b) at) = refl
strip-net c (node (greatest a b) at) = refl
strip-net c (node (sum e es) at) = refl
strip-net c (node (product e es) at) = refl
strip-net c (node (comparison a op b) at) = refl
strip-net c (node (all_of es) at) = refl
strip-net c (node (any_of es) at) = refl
strip-net c (node (implication a b) at) = refl
strip-net c (node (equivalence a b) at) = refl
strip-net c (node (choice bs e) at) = refl

-- no parentheses are left
pub strip-plain : (c : Component) (e : Tree) → ((nm : Name) → bare_name (stripped e) ≡ Some nm → has_argument (found c nm) ≡ false) → IsPlain c (stripped e)
strip-plain c (node (paren e) at) h = strip-plain c e h
strip-plain c (node (named nm) at) h = h nm refl
strip-plain c (node (truth b) at) h = tt
strip-plain c (node (number z) at) h = tt
strip-plain c (node received at) h = tt
strip-plain c (node (negative e) at) h = tt
strip-plain c (node (positive e) at) h = tt
strip-plain c (node (negation e) at) h = tt
strip-plain c (node (absolute e) at) h = tt
strip-plain c (node (least a b) at) h = tt
strip-plain c (node (greatest a b) at) h = tt
strip-plain c (node (sum e es) at) h = tt
strip-plain c (node (product e es) at) h = tt
strip-plain c (node (comparison a op b) at) h = tt
strip-plain c (node (all_of es) at) h = tt
strip-plain c (node (any_of es) at) h = tt
strip-plain c (node (implication a b) at) h = tt
strip-plain c (node (equivalence a b) at) h = tt
strip-plain c (node (choice bs e) at) h = tt

pub bare-is : (e : Tree) (nm : Name) → bare_name e ≡ Some nm → (at : ℕ) × (e ≡ node (named nm) at)
bare-is (node (named n) at) nm h = (at, (λ k. node (named (same k)) at))
  where
    same : n ≡ nm
    same = cc
bare-is (node _ at) nm h = absurd (none-some nm h)
