-- The net of a source shows what the source shows.
use Rattle.std.proofs.Common.{◌≡◌, List, [], ◌∷◌, map, refl}
use Rattle.cif_system.proofs.Lists.{map-length}
use Rattle.plc_frame.specs.Faces.{auto_face, stored_face, alg_face_of, face_of_net}
use Rattle.cif_source.specs.Source.{type_decl, enum_decl, event_decl, const_decl, alg_decl, input_decl, disc_decl, equation_decl, invariant_decl, marked_decl, Source}
use Rattle.cif_source.specs.Components.{Component, path_of}
use Rattle.cif_source.specs.Objects.{automata, variables, inputs, algs, Declared, locs_of}
use Rattle.cif_source.specs.Step.{first_place}
use Rattle.cif_inst_model.specs.Flat.{dotted, location_name, net_auto, net_stored, net_alg, net_of_source}
use Rattle.cif_generate.specs.Shown.{automaton_face, declared_face, algebraic_face, face_of}

fused : {A B C : Type 0} (f : A → B) (g : B → C) (k : A → C) (xs : List A) → ((x : A) → g (f x) ≡ k x) → map g (map f xs) ≡ map k xs
fused f g k [] h = refl
fused f g k (x ∷ xs) h = λ i. h x i ∷ fused f g k xs h i

automaton-same : (a : Component) → auto_face (net_auto a) ≡ automaton_face a
automaton-same a = λ i. record { path = dotted (path_of a); places = map-length location_name (locs_of a) i; first = first_place a }

stored-same : (d : Declared) → stored_face (net_stored d) ≡ declared_face d
stored-same (c, type_decl n ty) = refl
stored-same (c, enum_decl n ls) = refl
stored-same (c, event_decl k h n) = refl
stored-same (c, const_decl ty n e) = refl
stored-same (c, alg_decl ty n e) = refl
stored-same (c, input_decl ty n) = refl
stored-same (c, disc_decl ty n e) = refl
stored-same (c, equation_decl q) = refl
stored-same (c, invariant_decl i) = refl
stored-same (c, marked_decl p) = refl

algebraic-same : (d : Declared) → alg_face_of (net_alg d) ≡ algebraic_face d
algebraic-same (c, type_decl n ty) = refl
algebraic-same (c, enum_decl n ls) = refl
algebraic-same (c, event_decl k h n) = refl
algebraic-same (c, const_decl ty n e) = refl
algebraic-same (c, alg_decl ty n e) = refl
algebraic-same (c, input_decl ty n) = refl
algebraic-same (c, disc_decl ty n e) = refl
algebraic-same (c, equation_decl q) = refl
algebraic-same (c, invariant_decl i) = refl
algebraic-same (c, marked_decl p) = refl

pub face-same : (t : Source) → face_of_net (net_of_source t) ≡ face_of t
face-same t = λ i. record {
  automata = fused net_auto auto_face automaton_face (automata t) automaton-same i;
  variables = fused net_stored stored_face declared_face (variables t) stored-same i;
  inputs = fused net_stored stored_face declared_face (inputs t) stored-same i;
  algs = fused net_alg alg_face_of algebraic_face (algs t) algebraic-same i;
}
