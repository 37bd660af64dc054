-- What a net keeps, as far as its program needs it.
use Rattle.std.proofs.Common.{◌≡◌, ℕ, zero, suc, ◌+◌, ◌-◌, ◌^◌, ◌<◌, ◌≤◌, ℤ, pos, Bool, true, false, ◌&&◌, List, [], ◌∷◌, map, length, Some, refl, sym, ap, subst, ◌∙◌, arith, le-leb}
use Rattle.std.specs.Prelude.{IsTrue, ◌-ℤ◌, int_le, nat_eq, nat_le, nat_lt, slice_get, sum}
use Rattle.std.specs.List.{AllZip, list_all}
use Rattle.std.proofs.lemmas.Int.{ints}
use Rattle.std.proofs.lemmas.Bool.Decides.{nat_tests}
use Rattle.std.proofs.lemmas.List.Sums.{sum_by-cons}
use Rattle.cif_base.specs.declared.types.Ty.{Ty}
use Rattle.cif_base.specs.declared.types.Ty.TheVariants as t
use Rattle.cif_system.specs.System.{AllFit, Automaton, Edge, EndsInside, IsState, Range, State, Stored, in_range, initial}
use Rattle.cif_system.proofs.Picks.{all-at, and-left, and-right, map-at}
use Rattle.cif_net_model.specs.Net.{NetAlg, NetAuto, NetEdge, NetStored, Net}
use Rattle.cif_net_model.specs.Meaning.{automaton_in, defined_value, edge_meant, stored_in, system_of_net, type_range}
use Rattle.cif_net_model.specs.Facts as facts
use Rattle.cif_net_model.specs.Facts.{alg_stands, are_all_apart, auto_stands, auto_targets, edge_stands, exclusion_stands, invariant_stands, is_net, stored_stands, things}
use Rattle.cif_net_model.specs.Kinds.{places_of}
use Rattle.st_ast.specs.Checks.{is_type}
use Rattle.st_ast.specs.Tokens.{greatest}
use Rattle.st_ast.specs.declared.tree.StTy.TheVariants as ty
use Rattle.plc_model.specs.Face.{AutomatonFace, VariableFace, IsFaceOf, range_of, stored_of}
use Rattle.plc_frame.specs.Faces.{alg_face_of, auto_face, face_of_net, st_type, stored_face}
use Rattle.plc_frame.proofs.Declaring.{AllSound}
use Rattle.plc_frame.proofs.Moving.{EndsWithin, faces}

-- ---- the tests of a net

pub record Standing (n : Net) : Type 0 where
  pub few : length n.autos < 2 ^ 32
  pub few_inputs : length n.inputs < 2 ^ 32
  pub few_vars : length n.vars < 2 ^ 32
  pub few_algs : length n.algs < 2 ^ 32
  pub autos : list_all (auto_stands n) n.autos ≡ true
  pub inputs : list_all stored_stands n.inputs ≡ true
  pub vars : list_all stored_stands n.vars ≡ true
  pub algs : list_all (alg_stands n) n.algs ≡ true
  pub invariants : list_all (invariant_stands n) n.invariants ≡ true

-- the parts of a conjunction of nine
nine : (a b c d e f g h i : Bool) → (a && b && c && d && e && f && g && h && i) ≡ true → (a ≡ true) × (c ≡ true) × (d ≡ true) × (e ≡ true) × (f ≡ true)
nine true b true true true true g h i all = (refl, refl, refl, refl, refl)
nine false b c d e f g h i all = absurd cc
nine true true false d e f g h i all = absurd cc
nine true false c d e f g h i all = absurd cc
nine true true true false e f g h i all = absurd cc
nine true true true true false f g h i all = absurd cc
nine true true true true true false g h i all = absurd cc

pub standing : (n : Net) → is_net n ≡ true → Standing n
standing n h =
    let parts = nine (nat_le (things n) 100000) (list_all facts.event_stands n.events) (list_all stored_stands n.inputs) (list_all stored_stands n.vars) (list_all (auto_stands n) n.autos) (list_all (alg_stands n) n.algs)
    (list_all (exclusion_stands n) n.exclusions) (list_all (invariant_stands n) n.invariants) (are_all_apart (map auto_targets n.autos)) h in
    let size : nat_le (things n) 100000 ≡ true = parts.0 in
    let few : things n ≤ 100000 = grind (arith, nat_tests) in
    record {
      few = omega (arith, few);
      few_inputs = omega (arith, few);
      few_vars = omega (arith, few);
      few_algs = omega (arith, few);
      autos = parts.3;
      inputs = parts.1;
      vars = parts.2;
      algs = parts.4;
      invariants = and-right _ _ (and-left _ _ h);
    }

-- no automaton has more places than all have locations and edges
places-below : (xs : List NetAuto) (k : ℕ) → places_of (slice_get xs k) ≤ sum (map (λ (a : NetAuto). length a.locs + length a.edges) xs)
places-below [] k = omega arith
places-below (a ∷ xs) zero =
    let s : sum (map (λ (b : NetAuto). length b.locs + length b.edges) (a ∷ xs)) ≡ length a.locs + length a.edges + sum (map (λ (b : NetAuto). length b.locs + length b.edges) xs) =
    sum_by-cons (λ x. x) (length a.locs + length a.edges) (map (λ (b : NetAuto). length b.locs + length b.edges) xs) in
    let here : places_of (slice_get (a ∷ xs) 0) ≡ length a.locs = refl in
    omega (arith, s, here)
places-below (a ∷ xs) (suc k) =
    let s : sum (map (λ (b : NetAuto). length b.locs + length b.edges) (a ∷ xs)) ≡ length a.locs + length a.edges + sum (map (λ (b : NetAuto). length b.locs + length b.edges) xs) =
    sum_by-cons (λ x. x) (length a.locs + length a.edges) (map (λ (b : NetAuto). length b.locs + length b.edges) xs) in
    let r : places_of (slice_get (a ∷ xs) (suc k)) ≤ sum (map (λ (b : NetAuto). length b.locs + length b.edges) xs) = places-below xs k in
    omega (arith, s, r)

-- no automaton has more places than there are literals
pub few-places : (n : Net) → is_net n ≡ true → (k : ℕ) → places_of (slice_get n.autos k) ≤ greatest
few-places n h k =
    let size : nat_le (things n) 100000 ≡ true = and-left _ _ (and-left _ _ (and-left _ _ (and-left _ _ (and-left _ _ (and-left _ _ (and-left _ _ (and-left _ _ h))))))) in
    let few : things n ≤ 100000 = grind (arith, nat_tests) in
    let one = places-below n.autos k in
    omega (arith, few, one)

below-tested : (j k : ℕ) → nat_lt j k ≡ true → j < k
below-tested j k h = grind (arith, nat_tests)

edge-inside : (n : Net) (a : NetAuto) (x : NetEdge) → edge_stands n a x ≡ true → x.to < length a.locs
edge-inside n a x h = below-tested x.to (length a.locs) (and-right _ _ (and-left _ _ (and-left _ _ (and-left _ _ (and-left _ _ (and-left _ _ (and-left _ _ h)))))))

pub ends-within : (n : Net) → Standing n → EndsWithin n
ends-within n h k a at j x is =
    let stands : auto_stands n a ≡ true = all-at (auto_stands n) n.autos k a h.autos at in
    edge-inside n a x (all-at (edge_stands n a) a.edges j x (and-right _ _ stands) is)

pub ends-inside : (n : Net) → Standing n → EndsInside (system_of_net n)
ends-inside n h k a at j x is =
    let b = map-at (automaton_in n) n.autos k a at in
    let y = map-at (edge_meant n) b.0.edges j x (subst (λ (d : Automaton). slice_get d.edges j ≡ Some x) b.2 is) in
    let inside = ends-within n h k b.0 b.1 j y.0 y.1 in
    subst (λ (d : Automaton). x.to < d.places) (sym b.2) (subst (λ (z : Edge). z.to < length b.0.locs) (sym y.2) inside)

-- ---- faces

pub first-inside : (n : Net) (a : NetAuto) → auto_stands n a ≡ true → a.first < length a.locs
first-inside n a h = below-tested a.first (length a.locs) (and-left _ _ (and-left _ _ (and-left _ _ h)))

place-sound : (places first : ℕ) → first < places → (is_type (ty.Range (pos 0) (pos (places - 1))) ≡ true) × IsTrue (in_range (range_of (ty.Range (pos 0) (pos (places - 1)))) (pos first))
place-sound places first h =
    let a = le-leb 0 (places - 1) (omega arith) in
    let b = le-leb 0 first (omega arith) in
    let c = le-leb first (places - 1) (omega (arith, h)) in
    (a, rw (b, c) refl)

all-places : (n : Net) (xs : List NetAuto) → list_all (auto_stands n) xs ≡ true → AllSound (faces xs)
all-places n [] h = tt
all-places n (a ∷ xs) h =
    let s = place-sound (length a.locs) a.first (first-inside n a (and-left _ _ h)) in
    (record { type = s.0; first = s.1 }, all-places n xs (and-right _ _ h))

type-sound : (y : Ty) (z : ℤ) → facts.is_type y ≡ true → in_range (type_range y) z ≡ true → (is_type (st_type y) ≡ true) × IsTrue (in_range (range_of (st_type y)) z)
type-sound t.Bool z h g = (refl, g)
type-sound (t.Int lo hi) z h g = (and-right _ _ h, g)
type-sound (t.Enum size) z h g = (between size z g, g)
  where
    between : (size : ℕ) (z : ℤ) → (int_le (pos 0) z && int_le z (pos size -ℤ pos 1)) ≡ true → int_le (pos 0) (pos size -ℤ pos 1) ≡ true
    between size z g = grind (arith, ints)

all-stored : (xs : List NetStored) → list_all stored_stands xs ≡ true → AllSound (map stored_face xs)
all-stored [] h = tt
all-stored (v ∷ xs) h =
    let stands : stored_stands v ≡ true = and-left _ _ h in
    let s = type-sound v.type_of v.first (and-left _ _ (and-left _ _ stands)) (and-right _ _ stands) in
    (record { type = s.0; first = s.1 }, all-stored xs (and-right _ _ h))

pub places-sound : (n : Net) → Standing n → AllSound (faces n.autos)
places-sound n h = all-places n n.autos h.autos

pub vars-sound : (n : Net) → Standing n → AllSound (map stored_face n.vars)
vars-sound n h = all-stored n.vars h.vars

pub inputs-sound : (n : Net) → Standing n → AllSound (map stored_face n.inputs)
inputs-sound n h = all-stored n.inputs h.inputs

-- ---- the face is the system's

face-places : (n : Net) (xs : List NetAuto) → map (λ (a : AutomatonFace). a.places) (map auto_face xs) ≡ map (λ (a : Automaton). a.places) (map (automaton_in n) xs)
face-places n [] = refl
face-places n (a ∷ xs) = ap (λ r. length a.locs ∷ r) (face-places n xs)

face-firsts : (n : Net) (xs : List NetAuto) → map (λ (a : AutomatonFace). a.first) (map auto_face xs) ≡ map (λ (a : Automaton). a.first) (map (automaton_in n) xs)
face-firsts n [] = refl
face-firsts n (a ∷ xs) = ap (λ r. a.first ∷ r) (face-firsts n xs)

abbrev stored_with : ℤ → Range → Stored
stored_with z r = record { range = r; first = z }

same-range : (y : Ty) → range_of (st_type y) ≡ type_range y
same-range t.Bool = refl
same-range (t.Int lo hi) = refl
same-range (t.Enum size) = refl

stored-same : (v : NetStored) → stored_of (stored_face v) ≡ stored_in v
stored-same v = ap (stored_with v.first) (same-range v.type_of)

all-stored-same : (xs : List NetStored) → map stored_of (map stored_face xs) ≡ map stored_in xs
all-stored-same [] = refl
all-stored-same (v ∷ xs) = ap (λ u. u ∷ map stored_of (map stored_face xs)) (stored-same v) ∙ ap (λ r. stored_in v ∷ r) (all-stored-same xs)

same-length : {A B D : Type 0} (f : A → B) (g : A → D) (xs : List A) → length (map f xs) ≡ length (map g xs)
same-length f g [] = refl
same-length f g (x ∷ xs) = ap suc (same-length f g xs)

pub face-is : (n : Net) → IsFaceOf (face_of_net n) (system_of_net n)
face-is n = record {
  places = face-places n n.autos;
  first_places = face-firsts n n.autos;
  variables = all-stored-same n.vars;
  inputs = all-stored-same n.inputs;
  algs = same-length alg_face_of (λ (a : NetAlg) (s : State). defined_value n s a) n.algs;
}

-- ---- first values and states

pub first-places : (n : Net) (xs : List NetAuto) → map (λ (x : VariableFace). x.first) (faces xs) ≡ map pos (map (λ (a : Automaton). a.first) (map (automaton_in n) xs))
first-places n [] = refl
first-places n (a ∷ xs) = ap (λ r. pos a.first ∷ r) (first-places n xs)

pub first-values : (xs : List NetStored) → map (λ (x : VariableFace). x.first) (map stored_face xs) ≡ map (λ (v : Stored). v.first) (map stored_in xs)
first-values [] = refl
first-values (v ∷ xs) = ap (λ r. v.first ∷ r) (first-values xs)

initial-places : (n : Net) (xs : List NetAuto) → list_all (auto_stands n) xs ≡ true → AllZip (λ (a : Automaton) k. suc k ≤ a.places) (map (automaton_in n) xs) (map (λ (a : Automaton). a.first) (map (automaton_in n) xs))
initial-places n [] h = tt
initial-places n (a ∷ xs) h = (first-inside n a (and-left _ _ h), initial-places n xs (and-right _ _ h))

initial-values : (xs : List NetStored) → list_all stored_stands xs ≡ true → AllFit (map stored_in xs) (map (λ (v : Stored). v.first) (map stored_in xs))
initial-values [] h = tt
initial-values (v ∷ xs) h =
    let stands : stored_stands v ≡ true = and-left _ _ h in
    (and-right _ _ stands, initial-values xs (and-right _ _ h))

pub initial-is : (n : Net) → Standing n → IsState (system_of_net n) (initial (system_of_net n))
initial-is n h = record { places = initial-places n n.autos h.autos; values = initial-values n.vars h.vars; inputs = initial-values n.inputs h.inputs }

-- the places and values of a state are in the types of their variables
pub fit-places : (n : Net) (xs : List NetAuto) (ls : List ℕ) → AllZip (λ (a : Automaton) k. suc k ≤ a.places) (map (automaton_in n) xs) ls → AllZip (λ (x : VariableFace) z. IsTrue (in_range (range_of x.ty) z)) (faces xs) (map pos ls)
fit-places n [] [] h = tt
fit-places n [] (l ∷ ls) h = absurd h
fit-places n (a ∷ xs) [] h = absurd h
fit-places n (a ∷ xs) (l ∷ ls) h =
    let inside : l < length a.locs = h.0 in
    ((place-sound (length a.locs) l inside).1, fit-places n xs ls h.1)

fit-type : (y : Ty) (z : ℤ) → IsTrue (in_range (type_range y) z) → IsTrue (in_range (range_of (st_type y)) z)
fit-type t.Bool z h = h
fit-type (t.Int lo hi) z h = h
fit-type (t.Enum size) z h = h

pub fit-values : (xs : List NetStored) (zs : List ℤ) → AllFit (map stored_in xs) zs → AllZip (λ (x : VariableFace) z. IsTrue (in_range (range_of x.ty) z)) (map stored_face xs) zs
fit-values [] [] h = tt
fit-values [] (z ∷ zs) h = absurd h
fit-values (v ∷ xs) [] h = absurd h
fit-values (v ∷ xs) (z ∷ zs) h = (fit-type v.type_of z h.0, fit-values xs zs h.1)

-- ---- what there is none of

pub none-of : {A : Type 0} (xs : List A) → nat_eq (length xs) 0 ≡ true → xs ≡ []
none-of [] h = refl
none-of (x ∷ xs) h = absurd (some-length (length xs) h)
  where
    some-length : (k : ℕ) → nat_eq (suc k) 0 ≡ true → ⊥
    some-length k e = grind (arith, nat_tests)
