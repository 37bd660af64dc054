-- An argument is unfit for its parameter where it does not fit.
use Rattle.std.proofs.Common.{◌≡◌, ℕ, Bool, true, false, ◌&&◌, Option, Some, refl, sym, ap, ◌∙◌}
use Rattle.std.specs.Prelude.{not, ◌||◌, option_map}
use Rattle.cif_ast.specs.Tree.{Tree, node, Shape, truth, number, named, received, paren, negative, positive, negation, absolute, least, greatest, sum, product, comparison, all_of, any_of, implication, equivalence, choice}
use Rattle.cif_ast.specs.declared.names.Name.{Name}
use Rattle.cif_ast.specs.declared.declarations.Class.{Class}
use Rattle.cif_ast.specs.declared.declarations.Param.{Param}
use Rattle.cif_source.specs.Source.{tree_at, ParamTree, param_tree, event_param, alg_param, location_param}
use Rattle.cif_source.specs.Components.{Component, parameter}
use Rattle.cif_source.specs.Lookup.{reached, found}
use Rattle.cif_source.specs.Demands.{ChannelKind, same_channel, channel_kind, channel_at, event_channel, has_asked_class, is_unfit_for}
use Rattle.cif_types_kinds.specs.Faults.{unless}
use Rattle.cif_source.specs.Uses.{bare_shape, bare_name}
use Rattle.cif_types_arguments.specs.Arguments.{fits, fits_event, fault_told}

not-both : (a b : Bool) → (not a || not b) ≡ not (a && b)
not-both true b = refl
not-both false b = refl

not-not : (a : Bool) → not (not a) ≡ a
not-not true = refl
not-not false = refl

unfit-shape : (c d : Component) (i at : ℕ) (form : Shape) (p : ParamTree) → is_unfit_for c d (node form at) p ≡ not (fits c (channel_at (reached (d, parameter i p))) p (bare_shape form))
unfit-shape c d i at (truth b) (event_param k h n) = refl
unfit-shape c d i at (truth b) (alg_param ty n) = refl
unfit-shape c d i at (truth b) (location_param n) = refl
unfit-shape c d i at (number z) (event_param k h n) = refl
unfit-shape c d i at (number z) (alg_param ty n) = refl
unfit-shape c d i at (number z) (location_param n) = refl
unfit-shape c d i at (named nm) (event_param k h n) = not-both (same_channel (event_channel c nm) (channel_kind d h)) (has_asked_class k (found c nm))
unfit-shape c d i at (named nm) (alg_param ty n) = refl
unfit-shape c d i at (named nm) (location_param n) = refl
unfit-shape c d i at received (event_param k h n) = refl
unfit-shape c d i at received (alg_param ty n) = refl
unfit-shape c d i at received (location_param n) = refl
unfit-shape c d i at (paren e) (event_param k h n) = refl
unfit-shape c d i at (paren e) (alg_param ty n) = refl
unfit-shape c d i at (paren e) (location_param n) = refl
unfit-shape c d i at (negative e) (event_param k h n) = refl
unfit-shape c d i at (negative e) (alg_param ty n) = refl
unfit-shape c d i at (negative e) (location_param n) = refl
unfit-shape c d i at (positive e) (event_param k h n) = refl
unfit-shape c d i at (positive e) (alg_param ty n) = refl
unfit-shape c d i at (positive e) (location_param n) = refl
unfit-shape c d i at (negation e) (event_param k h n) = refl
unfit-shape c d i at (negation e) (alg_param ty n) = refl
unfit-shape c d i at (negation e) (location_param n) = refl
unfit-shape c d i at (absolute e) (event_param k h n) = refl
unfit-shape c d i at (absolute e) (alg_param ty n) = refl
unfit-shape c d i at (absolute e) (location_param n) = refl
unfit-shape c d i at (least a b) (event_param k h n) = refl
unfit-shape c d i at (least a b) (alg_param ty n) = refl
unfit-shape c d i at (least a b) (location_param n) = refl
unfit-shape c d i at (greatest a b) (event_param k h n) = refl
unfit-shape c d i at (greatest a b) (alg_param ty n) = refl
unfit-shape c d i at (greatest a b) (location_param n) = refl
unfit-shape c d i at (sum e es) (event_param k h n) = refl
unfit-shape c d i at (sum e es) (alg_param ty n) = refl
unfit-shape c d i at (sum e es) (location_param n) = refl
unfit-shape c d i at (product e es) (event_param k h n) = refl
unfit-shape c d i at (product e es) (alg_param ty n) = refl
unfit-shape c d i at (product e es) (location_param n) = refl
unfit-shape c d i at (comparison a op b) (event_param k h n) = refl
unfit-shape c d i at (comparison a op b) (alg_param ty n) = refl
unfit-shape c d i at (comparison a op b) (location_param n) = refl
unfit-shape c d i at (all_of es) (event_param k h n) = refl
unfit-shape c d i at (all_of es) (alg_param ty n) = refl
unfit-shape c d i at (all_of es) (location_param n) = refl
unfit-shape c d i at (any_of es) (event_param k h n) = refl
unfit-shape c d i at (any_of es) (alg_param ty n) = refl
unfit-shape c d i at (any_of es) (location_param n) = refl
unfit-shape c d i at (implication a b) (event_param k h n) = refl
unfit-shape c d i at (implication a b) (alg_param ty n) = refl
unfit-shape c d i at (implication a b) (location_param n) = refl
unfit-shape c d i at (equivalence a b) (event_param k h n) = refl
unfit-shape c d i at (equivalence a b) (alg_param ty n) = refl
unfit-shape c d i at (equivalence a b) (location_param n) = refl
unfit-shape c d i at (choice bs e) (event_param k h n) = refl
unfit-shape c d i at (choice bs e) (alg_param ty n) = refl
unfit-shape c d i at (choice bs e) (location_param n) = refl

-- the parameter's type is read in its definition d
pub unfit-is : (c d : Component) (i : ℕ) (e : Tree) (p : ParamTree) → fits c (channel_at (reached (d, parameter i p))) p (bare_name e) ≡ not (is_unfit_for c d e p)
unfit-is c d i (node form at) p = sym (not-not (fits c (channel_at (reached (d, parameter i p))) p (bare_shape form))) ∙ ap not (sym (unfit-shape c d i at form p))

-- the event that a name finds, by what is sent along it and whether it has the class
pub event_fits : (c : Component) (h g : ChannelKind) (k : Class) (nm : Name) (same has : Bool) → same ≡ same_channel g h → g ≡ event_channel c nm → has ≡ has_asked_class k (found c nm) → (same && has) ≡ fits_event c h k nm
event_fits c h g k nm same has e is f = ap (λ x. x && has) e ∙ ap (λ (x : ChannelKind). same_channel x h && has) is ∙ ap (λ x. same_channel (event_channel c nm) h && x) f

-- an argument that does not fit its parameter is told
pub misfit_told : (c : Component) (h g : ChannelKind) (o : Option Param) (p : Param) (e : Tree) (b : Bool) → o ≡ Some p → g ≡ h → b ≡ fits c g (param_tree p) (bare_name e) → b ≡ false
    → fault_told c h (option_map param_tree o) e ≡ Some (tree_at e)
misfit_told c h g o p e b is same fit misfit =
    ap (λ x. fault_told c h (option_map param_tree x) e) is ∙ ap (λ (x : ChannelKind). unless (fits c x (param_tree p) (bare_name e)) (tree_at e)) (sym same) ∙ ap (λ x. unless x (tree_at e)) (sym fit ∙ misfit)
