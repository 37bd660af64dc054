-- What `view` and its kin give, one level at a time, at values as the code builds them.
-- `views` has all of these equations.
use Rattle.std.proofs.Common.{◌≡◌, ℕ, ℤ, Bool, List}
use Rattle.cif_ast.specs.Tree.{node, truth, number, named, received, paren, negative, positive, negation, absolute, least, greatest, sum, product, comparison, all_of, any_of, implication, equivalence, choice, assignment, selection, declaration, component, definition, instance, group, automaton}
use Rattle.cif_ast.specs.View.{view, view_form, view_term, view_factor, view_branch, view_exprs, view_terms, view_factors, view_branches, view_update, view_update_branch, view_updates, view_update_branches, view_item, view_items, view_body, view_comp, view_def}
use Rattle.cif_ast.specs.declared.names.Ident.{Ident}
use Rattle.cif_ast.specs.declared.names.Name.{Name}
use Rattle.cif_ast.specs.declared.expressions.MulOp.{MulOp}
use Rattle.cif_ast.specs.declared.expressions.CmpOp.{CmpOp}
use Rattle.cif_ast.specs.declared.expressions.Expr.{Expr, roll-Expr}
use Rattle.cif_ast.specs.declared.expressions.Term.{Term, roll-Term}
use Rattle.cif_ast.specs.declared.expressions.Factor.{Factor, roll-Factor}
use Rattle.cif_ast.specs.declared.expressions.Branch.{Branch, roll-Branch}
use Rattle.cif_ast.specs.declared.expressions.Form.{Form}
use Rattle.cif_ast.specs.declared.expressions.Form.TheVariants as form
use Rattle.cif_ast.specs.declared.expressions.Form.TheFolds as forms
use Rattle.cif_ast.specs.declared.edges.Update.{Update}
use Rattle.cif_ast.specs.declared.edges.UpdateBranch.{UpdateBranch, roll-UpdateBranch}
use Rattle.cif_ast.specs.declared.edges.Update.TheVariants as update
use Rattle.cif_ast.specs.declared.edges.Update.TheFolds as change
use Rattle.cif_ast.specs.declared.declarations.Decl.{Decl}
use Rattle.cif_ast.specs.declared.declarations.Param.{Param}
use Rattle.cif_ast.specs.declared.components.AutoBody.{AutoBody}
use Rattle.cif_ast.specs.declared.components.Inst.{Inst}
use Rattle.cif_ast.specs.declared.components.Body.{Body}
use Rattle.cif_ast.specs.declared.components.Body.TheVariants as body
use Rattle.cif_ast.specs.declared.components.Body.TheFolds as bodies
use Rattle.cif_ast.specs.declared.components.Item.{Item}
use Rattle.cif_ast.specs.declared.components.Item.TheVariants as item
use Rattle.cif_ast.specs.declared.components.Comp.{roll-Comp}
use Rattle.cif_ast.specs.declared.components.Def.{roll-Def}

-- ---- expressions

pub view-expr : (f : Form) (at : ℕ) → view (roll-Expr (record { form = f; at = at })) ≡ node (view_form f) at
view-expr f at = search (forms.the_lemmas)

pub view_form-Bool : (b : Bool) → view_form (form.Bool b) ≡ truth b
view_form-Bool b = search (forms.the_lemmas)

pub view_form-Int : (z : ℤ) → view_form (form.Int z) ≡ number z
view_form-Int z = search (forms.the_lemmas)

pub view_form-Named : (n : Name) → view_form (form.Named n) ≡ named n
view_form-Named n = search (forms.the_lemmas)

pub view_form-Received : view_form form.Received ≡ received
view_form-Received = search (forms.the_lemmas)

pub view_form-Paren : (e : Expr) → view_form (form.Paren e) ≡ paren (view e)
view_form-Paren e = search (forms.the_lemmas)

pub view_form-Neg : (e : Expr) → view_form (form.Neg e) ≡ negative (view e)
view_form-Neg e = search (forms.the_lemmas)

pub view_form-Plus : (e : Expr) → view_form (form.Plus e) ≡ positive (view e)
view_form-Plus e = search (forms.the_lemmas)

pub view_form-Not : (e : Expr) → view_form (form.Not e) ≡ negation (view e)
view_form-Not e = search (forms.the_lemmas)

pub view_form-Abs : (e : Expr) → view_form (form.Abs e) ≡ absolute (view e)
view_form-Abs e = search (forms.the_lemmas)

pub view_form-Min : (a : Expr) (b : Expr) → view_form (form.Min a b) ≡ least (view a) (view b)
view_form-Min a b = search (forms.the_lemmas)

pub view_form-Max : (a : Expr) (b : Expr) → view_form (form.Max a b) ≡ greatest (view a) (view b)
view_form-Max a b = search (forms.the_lemmas)

pub view_form-Sum : (e : Expr) (ts : List Term) → view_form (form.Sum e ts) ≡ sum (view e) (view_terms ts)
view_form-Sum e ts = search (forms.the_lemmas)

pub view_form-Product : (e : Expr) (fs : List Factor) → view_form (form.Product e fs) ≡ product (view e) (view_factors fs)
view_form-Product e fs = search (forms.the_lemmas)

pub view_form-Compare : (a : Expr) (op : CmpOp) (b : Expr) → view_form (form.Compare a op b) ≡ comparison (view a) op (view b)
view_form-Compare a op b = search (forms.the_lemmas)

pub view_form-And : (es : List Expr) → view_form (form.And es) ≡ all_of (view_exprs es)
view_form-And es = search (forms.the_lemmas)

pub view_form-Or : (es : List Expr) → view_form (form.Or es) ≡ any_of (view_exprs es)
view_form-Or es = search (forms.the_lemmas)

pub view_form-Implies : (a : Expr) (b : Expr) → view_form (form.Implies a b) ≡ implication (view a) (view b)
view_form-Implies a b = search (forms.the_lemmas)

pub view_form-Iff : (a : Expr) (b : Expr) → view_form (form.Iff a b) ≡ equivalence (view a) (view b)
view_form-Iff a b = search (forms.the_lemmas)

pub view_form-If : (bs : List Branch) (e : Expr) → view_form (form.If bs e) ≡ choice (view_branches bs) (view e)
view_form-If bs e = search (forms.the_lemmas)

pub view-term : (minus : Bool) (e : Expr) → view_term (roll-Term (record { minus = minus; value = e })) ≡ (minus, view e)
view-term minus e = search (forms.the_lemmas)

pub view-factor : (op : MulOp) (e : Expr) → view_factor (roll-Factor (record { op = op; value = e })) ≡ (op, view e)
view-factor op e = search (forms.the_lemmas)

pub view-branch : (cs : List Expr) (e : Expr) → view_branch (roll-Branch (record { conds = cs; value = e })) ≡ (view_exprs cs, view e)
view-branch cs e = search (forms.the_lemmas)

-- ---- updates

pub view_update-Set : (x : Name) (e : Expr) → view_update (update.Set x e) ≡ assignment x (view e)
view_update-Set x e = search (change.the_lemmas)

pub view_update-If : (bs : List UpdateBranch) (us : List Update) → view_update (update.If bs us) ≡ selection (view_update_branches bs) (view_updates us)
view_update-If bs us = search (change.the_lemmas)

pub view-update_branch : (cs : List Expr) (us : List Update) → view_update_branch (roll-UpdateBranch (record { conds = cs; updates = us })) ≡ (view_exprs cs, view_updates us)
view-update_branch cs us = search (change.the_lemmas)

-- ---- items

pub view_item-Decl : (d : Decl) → view_item (item.Decl d) ≡ declaration d
view_item-Decl d = search (bodies.the_lemmas)

pub view_item-Comp : (name : Ident) (b : Body) → view_item (item.Comp (roll-Comp (record { name = name; body = b }))) ≡ component name (view_body b)
view_item-Comp name b = search (bodies.the_lemmas)

pub view_item-Def : (name : Ident) (params : List Param) (b : Body) → view_item (item.Def (roll-Def (record { name = name; params = params; body = b }))) ≡ definition name params (view_body b)
view_item-Def name params b = search (bodies.the_lemmas)

pub view_item-Inst : (i : Inst) → view_item (item.Inst i) ≡ instance i
view_item-Inst i = search (bodies.the_lemmas)

pub view_body-Group : (is : List Item) → view_body (body.Group is) ≡ group (view_items is)
view_body-Group is = search (bodies.the_lemmas)

pub view_body-Auto : (a : AutoBody) → view_body (body.Auto a) ≡ automaton a
view_body-Auto a = search (bodies.the_lemmas)

pub view-comp : (name : Ident) (b : Body) → view_comp (roll-Comp (record { name = name; body = b })) ≡ (name, view_body b)
view-comp name b = search (bodies.the_lemmas)

pub view-def : (name : Ident) (params : List Param) (b : Body) → view_def (roll-Def (record { name = name; params = params; body = b })) ≡ (name, params, view_body b)
view-def name params b = search (bodies.the_lemmas)

pub ruleset views = (view-expr, view_form-Bool, view_form-Int, view_form-Named, view_form-Received, view_form-Paren, view_form-Neg, view_form-Plus, view_form-Not, view_form-Abs, view_form-Min, view_form-Max, view_form-Sum, view_form-Product, view_form-Compare, view_form-And, view_form-Or, view_form-Implies, view_form-Iff, view_form-If, view-term, view-factor, view-branch, view_update-Set, view_update-If, view-update_branch, view_item-Decl, view_item-Comp, view_item-Def, view_item-Inst, view_body-Group, view_body-Auto, view-comp, view-def)
