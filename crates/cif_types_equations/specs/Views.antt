-- Helper of the code: what references into the tree stand for.
use Rattle.cif_ast.specs.declared.declarations.Decl.{Decl}
use Rattle.cif_source.specs.Source.{DeclTree, decl_tree}
use denote.Ref.{Bor}

abbrev pub decl_of : Bor Decl → DeclTree
decl_of d = decl_tree d.now
