-- What the program of a net shows: its automata, variables, inputs and algebraic variables under their paths.
use Rattle.std.specs.Prelude.{pos, ◌-ℤ◌, Bool, true, false, map, length}
use Rattle.cif_base.specs.declared.types.Ty.{Ty}
use Rattle.cif_base.specs.declared.types.Ty.TheVariants as ty
use Rattle.cif_net_model.specs.Net.{NetAuto, NetStored, NetAlg, Net}
use Rattle.st_ast.specs.declared.tree.StTy.{StTy}
use Rattle.st_ast.specs.declared.tree.StTy.TheVariants as st
use Rattle.plc_model.specs.Face.{AutomatonFace, VariableFace, AlgFace, Face}

-- the numbers of a type; a literal of an enumeration is its place
abbrev pub st_type : Ty → StTy
st_type ty.Bool = st.Bool
st_type (ty.Int lo hi) = st.Range lo hi
st_type (ty.Enum size) = st.Range (pos 0) (pos size -ℤ pos 1)

abbrev pub is_boolean : Ty → Bool
is_boolean ty.Bool = true
is_boolean _ = false

abbrev pub auto_face : NetAuto → AutomatonFace
auto_face a = record { path = a.path; places = length a.locs; first = a.first }

abbrev pub stored_face : NetStored → VariableFace
stored_face v = record { path = v.path; ty = st_type v.type_of; first = v.first }

abbrev pub alg_face_of : NetAlg → AlgFace
alg_face_of a = record { path = a.path; boolean = is_boolean a.type_of }

abbrev pub face_of_net : Net → Face
face_of_net n = record {
  automata = map auto_face n.autos;
  variables = map stored_face n.vars;
  inputs = map stored_face n.inputs;
  algs = map alg_face_of n.algs;
}
