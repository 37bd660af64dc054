-- The trees of `src/` as plain data, on which definitions stand. `View` ties them to the types of `src/`.
use Rattle.std.specs.Prelude.{ℕ, ℤ, Bool, List}
use Rattle.cif_ast.specs.declared.names.Ident.{Ident}
use Rattle.cif_ast.specs.declared.names.Name.{Name}
use Rattle.cif_ast.specs.declared.expressions.MulOp.{MulOp}
use Rattle.cif_ast.specs.declared.expressions.CmpOp.{CmpOp}
use Rattle.cif_ast.specs.declared.declarations.Decl.{Decl}
use Rattle.cif_ast.specs.declared.declarations.Param.{Param}
use Rattle.cif_ast.specs.declared.components.AutoBody.{AutoBody}
use Rattle.cif_ast.specs.declared.components.Inst.{Inst}

mutual
  -- an expression: its form, and where it begins
  pub data Tree : Type 0 where
    node : (form : Shape) (at : ℕ) → Tree

  pub data Shape : Type 0 where
    truth : Bool → Shape
    number : ℤ → Shape
    named : Name → Shape
    received : Shape
    paren : Tree → Shape
    negative : Tree → Shape
    positive : Tree → Shape
    negation : Tree → Shape
    absolute : Tree → Shape
    least : Tree → Tree → Shape
    greatest : Tree → Tree → Shape
    sum : Tree → Terms → Shape
    product : Tree → Factors → Shape
    comparison : Tree → CmpOp → Tree → Shape
    all_of : Trees → Shape
    any_of : Trees → Shape
    implication : Tree → Tree → Shape
    equivalence : Tree → Tree → Shape
    choice : Branches → Tree → Shape

  pub data Trees : Type 0 where
    no_trees : Trees
    trees : Tree → Trees → Trees

  -- true: subtracted
  pub data Terms : Type 0 where
    no_terms : Terms
    terms : Bool → Tree → Terms → Terms

  pub data Factors : Type 0 where
    no_factors : Factors
    factors : MulOp → Tree → Factors → Factors

  -- conditions and a value
  pub data Branches : Type 0 where
    no_branches : Branches
    branches : Trees → Tree → Branches → Branches

mutual
  pub data UpdateTree : Type 0 where
    assignment : Name → Tree → UpdateTree
    selection : UpdateBranches → UpdateTrees → UpdateTree

  pub data UpdateTrees : Type 0 where
    no_updates : UpdateTrees
    updates : UpdateTree → UpdateTrees → UpdateTrees

  -- conditions and updates
  pub data UpdateBranches : Type 0 where
    no_update_branches : UpdateBranches
    update_branches : Trees → UpdateTrees → UpdateBranches → UpdateBranches

mutual
  pub data ItemTree : Type 0 where
    declaration : Decl → ItemTree
    component : Ident → BodyTree → ItemTree
    definition : Ident → List Param → BodyTree → ItemTree
    instance : Inst → ItemTree

  pub data ItemTrees : Type 0 where
    no_items : ItemTrees
    items : ItemTree → ItemTrees → ItemTrees

  pub data BodyTree : Type 0 where
    group : ItemTrees → BodyTree
    automaton : AutoBody → BodyTree
