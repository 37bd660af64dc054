-- The types that a body writes and the values of its constants and variables, as references into the tree.
use Rattle.std.specs.Prelude.{List, ◌++◌, flat_map}
use Rattle.std.specs.Borrow.{Bor}
use Rattle.cif_ast.specs.Tree.{Tree}
use Rattle.cif_ast.specs.View.{view}
use Rattle.cif_ast.specs.declared.declarations.Decl.{Decl}
use Rattle.cif_ast.specs.declared.declarations.TypeUse.{TypeUse}
use Rattle.cif_source.specs.Source.{TypeTree, type_tree, DeclTree, decl_tree}
use Rattle.cif_source.specs.Objects.{decls_in}
use Rattle.cif_source.specs.Constants.{param_types, decl_types, decl_constants}
use Rattle.cif_scope.specs.Written.{WrittenBody}
use Rattle.cif_types_constancy.specs.declared.collecting.Typed.{Typed}

abbrev pub decl_of : Bor Decl → DeclTree
decl_of d = decl_tree d.now

abbrev pub type_of : Bor TypeUse → TypeTree
type_of ty = type_tree ty.now

abbrev pub typed_of : Typed → TypeTree × Tree
typed_of v = (type_tree v.ty.now, view v.value.now)

-- those of its parameters too
abbrev pub types_in : WrittenBody → List TypeTree
types_in w = flat_map param_types w.params ++ flat_map decl_types (decls_in w.body)

-- the values of constants and the first values of variables
abbrev pub values_in : WrittenBody → List (TypeTree × Tree)
values_in w = flat_map decl_constants (decls_in w.body)
