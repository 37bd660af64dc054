-- What the programs of worked sources show, each by computing.
use Rattle.std.proofs.Common.{◌≡◌, pos, [], ◌∷◌, refl}
use Rattle.std.specs.Prelude.{codes, false, neg_ℤ}
use Rattle.st_ast.specs.declared.tree.StTy.TheVariants as st
use Rattle.cif_source.proofs.Rows.{two_classes, counter}
use Rattle.cif_inst_model.proofs.Trees.{channel, cube}
use Rattle.cif_generate.specs.Shown.{face_of}

-- an automaton of two places, which starts in the first
two_places_are_shown : face_of two_classes ≡ record { automata = record { path = codes "A"; places = 2; first = 0 } ∷ []; variables = []; inputs = []; algs = [] }
two_places_are_shown = refl

-- a variable from 0 to 10
a_variable_is_shown : (face_of counter).variables ≡ record { path = codes "a.n"; ty = st.Range (pos 0) (pos 10); first = pos 0 } ∷ []
a_variable_is_shown = refl

-- three automata, of which the last has a variable from 0 to 4
three_automata_are_shown : face_of channel ≡ record {
  automata = record { path = codes "S"; places = 1; first = 0 } ∷ record { path = codes "T"; places = 1; first = 0 } ∷ record { path = codes "R"; places = 1; first = 0 } ∷ [];
  variables = record { path = codes "R.v"; ty = st.Range (pos 0) (pos 4); first = pos 0 } ∷ [];
  inputs = [];
  algs = [];
}
three_automata_are_shown = refl

-- an input of 32 bits, and an algebraic variable that is no boolean
an_input_is_shown : face_of cube ≡ record {
  automata = [];
  variables = [];
  inputs = record { path = codes "i"; ty = st.Range (neg_ℤ (pos 2147483648)) (pos 2147483647); first = pos 0 } ∷ [];
  algs = record { path = codes "w"; boolean = false } ∷ [];
}
an_input_is_shown = refl
