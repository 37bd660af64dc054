-- What the program of a source shows: its automata, variables, inputs and algebraic variables under their paths.
use Rattle.std.specs.Prelude.{pos, [], false, map, length, Option, None}
use Rattle.cif_ast.specs.Tree.{Tree}
use Rattle.cif_ast.specs.declared.names.Ident.{Ident}
use Rattle.st_ast.specs.declared.tree.StTy.TheVariants as st
use Rattle.plc_model.specs.Face.{AutomatonFace, VariableFace, AlgFace, Face}
use Rattle.plc_frame.specs.Faces.{st_type, is_boolean}
use Rattle.cif_source.specs.Source.{TypeTree, alg_decl, input_decl, disc_decl, Source}
use Rattle.cif_source.specs.Components.{Component, path_of}
use Rattle.cif_source.specs.Objects.{automata, variables, inputs, algs, Declared, locs_of}
use Rattle.cif_source.specs.Types.{first_of_type}
use Rattle.cif_source.specs.Step.{first_place}
use Rattle.cif_inst_model.specs.Types.{net_type}
use Rattle.cif_inst_model.specs.Flat.{dotted, own_path}

abbrev pub automaton_face : Component → AutomatonFace
automaton_face a = record { path = dotted (path_of a); places = length (locs_of a); first = first_place a }

-- a variable or an input of a component, of a type, with its first value where one is declared
abbrev pub variable_face : Component → Ident → TypeTree → Option Tree → VariableFace
variable_face c n t e = record { path = own_path c n; ty = st_type (net_type c t).type_of; first = first_of_type c t e }

abbrev pub declared_face : Declared → VariableFace
declared_face (c, disc_decl t n e) = variable_face c n t e
declared_face (c, input_decl t n) = variable_face c n t None
declared_face _ = record { path = []; ty = st.Range (pos 0) (pos 0); first = pos 0 }

abbrev pub algebraic_face : Declared → AlgFace
algebraic_face (c, alg_decl t n e) = record { path = own_path c n; boolean = is_boolean (net_type c t).type_of }
algebraic_face _ = record { path = []; boolean = false }

abbrev pub face_of : Source → Face
face_of t = record {
  automata = map automaton_face (automata t);
  variables = map declared_face (variables t);
  inputs = map declared_face (inputs t);
  algs = map algebraic_face (algs t);
}
