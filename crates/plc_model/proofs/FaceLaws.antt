-- A memory stands for one state, and what a memory stands for depends on the variables of that state alone.
use Rattle.std.proofs.Common.{◌≡◌, ◌≢◌, ◌==◌, ℕ, zero, suc, ◌+◌, ◌<◌, ℤ, pos, Bool, true, false, ◌&&◌, cond, List, [], ◌∷◌, map, length, Option, Some, None, get_or, refl, sym, ap, subst, ◌∙◌, arith, eqb-true, eq-eqb}
use Rattle.std.specs.Prelude.{IsTrue, option_map, slice_get, slice_set}
use Rattle.std.specs.List.{enumerate_from, AllZip}
use Rattle.std.specs.Char.{to_ascii_lowercase}
use Rattle.grammar.specs.Pieces.{Text}
use Rattle.grammar.proofs.Texts.{and_left, and_right}
use Rattle.cif_system.specs.System.{State, System, in_range}
use Rattle.cif_system.proofs.Lists.{some-same, none-some}
use Rattle.st_ast.specs.Tree.{Program}
use Rattle.st_ast.specs.Names.{same_name, place_of, declared}
use Rattle.st_ast.specs.Values.{Memory}
use Rattle.st_ast.specs.Exec.{type_of, type_at}
use Rattle.st_ast.specs.declared.tree.StVar.{StVar}
use Rattle.st_ast.specs.declared.tree.StClass.{StClass}
use Rattle.st_ast.specs.declared.tree.StClass.TheVariants as class
use Rattle.st_ast.specs.declared.tree.StTy.{StTy}
use Rattle.plc_model.specs.declared.letter.Letter.{Letter}
use Rattle.plc_model.specs.declared.letter.Letter.TheVariants as letter
use Rattle.plc_model.specs.Names.{name_for}
use Rattle.plc_model.specs.Face.{Face, VariableFace, head_of, IsDeclared, HoldsAt, StateOf, range_of, places_of}
use Rattle.plc_model.proofs.NameLaws.{false-true}

-- ---- lists

pub slice_get-set_same : {A : Type 0} (xs : List A) (k : ℕ) (x : A) → k < length xs → slice_get (slice_set xs k x) k ≡ Some x
slice_get-set_same [] k x h = absurd (omega arith)
slice_get-set_same (y ∷ xs) zero x h = refl
slice_get-set_same (y ∷ xs) (suc k) x h = slice_get-set_same xs k x (omega arith)

pub slice_get-set_other : {A : Type 0} (xs : List A) (k j : ℕ) (x : A) → j ≢ k → slice_get (slice_set xs k x) j ≡ slice_get xs j
slice_get-set_other [] k j x h = refl
slice_get-set_other (y ∷ xs) zero zero x h = absurd (h refl)
slice_get-set_other (y ∷ xs) zero (suc j) x h = refl
slice_get-set_other (y ∷ xs) (suc k) zero x h = refl
slice_get-set_other (y ∷ xs) (suc k) (suc j) x h = slice_get-set_other xs k j x (λ e. h (ap suc e))

pub get_or-of : (xs : List ℤ) (k : ℕ) (z d : ℤ) → slice_get xs k ≡ Some z → get_or xs k d ≡ z
get_or-of [] k z d e = absurd (none-some z e)
get_or-of (x ∷ xs) zero z d e = some-same x z e
get_or-of (x ∷ xs) (suc k) z d e = get_or-of xs k z d e

pub slice_get-of : (xs : List ℤ) (k : ℕ) (d : ℤ) → k < length xs → slice_get xs k ≡ Some (get_or xs k d)
slice_get-of [] k d h = absurd (omega arith)
slice_get-of (x ∷ xs) zero d h = refl
slice_get-of (x ∷ xs) (suc k) d h = slice_get-of xs k d (omega arith)

pub below : {A : Type 0} (xs : List A) (k : ℕ) (x : A) → slice_get xs k ≡ Some x → k < length xs
below [] k x e = absurd (none-some x e)
below (y ∷ xs) zero x e = omega arith
below (y ∷ xs) (suc k) x e = let rest = below xs k x e in omega (arith, rest)

pub pairwise-length : {A B : Type 0} (R : A → B → Type 0) (xs : List A) (ys : List B) → AllZip R xs ys → length xs ≡ length ys
pairwise-length R [] [] h = refl
pairwise-length R [] (y ∷ ys) h = absurd h
pairwise-length R (x ∷ xs) [] h = absurd h
pairwise-length R (x ∷ xs) (y ∷ ys) h = ap suc (pairwise-length R xs ys h.1)

-- where R tells the second from the first, there is one list
pairwise-one : {A B : Type 0} (R : A → B → Type 0) → ((x : A) (y z : B) → R x y → R x z → y ≡ z) → (xs : List A) (ys zs : List B) → AllZip R xs ys → AllZip R xs zs → ys ≡ zs
pairwise-one R one [] [] [] h g = refl
pairwise-one R one [] [] (z ∷ zs) h g = absurd g
pairwise-one R one [] (y ∷ ys) zs h g = absurd h
pairwise-one R one (x ∷ xs) [] zs h g = absurd h
pairwise-one R one (x ∷ xs) (y ∷ ys) [] h g = absurd g
pairwise-one R one (x ∷ xs) (y ∷ ys) (z ∷ zs) h g =
    ap (λ w. w ∷ ys) (one x y z h.0 g.0) ∙ ap (λ ws. z ∷ ws) (pairwise-one R one xs ys zs h.1 g.1)

-- ---- one state

holds-one : (p : Program) (m : Memory) (l : Letter) (x : ℕ × VariableFace) (y z : ℤ) → HoldsAt p m l x y → HoldsAt p m l x z → y ≡ z
holds-one p m l x y z h g = some-same y z (sym h.holds ∙ g.holds)

natural : ℤ → ℕ
natural (pos n) = n
natural _ = 0

map-natural : (ks : List ℕ) → map natural (map pos ks) ≡ ks
unfolding natural
map-natural [] = refl
map-natural (k ∷ ks) = ap (λ r. k ∷ r) (map-natural ks)

pub one-state : (face : Face) (sys : System) (p : Program) (m : Memory) (s t : State) → StateOf face sys p m s → StateOf face sys p m t → s ≡ t
one-state face sys p m s t a b =
    let locs : s.locs ≡ t.locs = sym (map-natural s.locs) ∙ ap (map natural) (pairwise-one (HoldsAt p m letter.L) (holds-one p m letter.L) (enumerate_from 0 (places_of face)) (map pos s.locs) (map pos t.locs) a.places b.places) ∙ map-natural t.locs in
    let vals : s.vals ≡ t.vals = pairwise-one (HoldsAt p m letter.V) (holds-one p m letter.V) (enumerate_from 0 face.variables) s.vals t.vals a.values b.values in
    let ins : s.ins ≡ t.ins = pairwise-one (HoldsAt p m letter.H) (holds-one p m letter.H) (enumerate_from 0 face.inputs) s.ins t.ins a.inputs b.inputs in
    ap (λ (x : List ℕ). record { locs = x; vals = s.vals; ins = s.ins }) locs ∙ ap (λ (x : List ℤ). record { locs = t.locs; vals = x; ins = s.ins }) vals ∙ ap (λ (x : List ℤ). record { locs = t.locs; vals = t.vals; ins = x }) ins

-- ---- names

and-true : (a b : Bool) → a ≡ true → b ≡ true → (a && b) ≡ true
and-true a b x y = rw x y

pub same_name-sym : (x y : Text) → same_name x y ≡ true → same_name y x ≡ true
same_name-sym [] [] e = refl
same_name-sym [] (b ∷ y) e = e
same_name-sym (a ∷ x) [] e = e
same_name-sym (a ∷ x) (b ∷ y) e =
    and-true (to_ascii_lowercase b == to_ascii_lowercase a) (same_name y x)
    (eq-eqb (to_ascii_lowercase b) (to_ascii_lowercase a) (sym (eqb-true (to_ascii_lowercase a) (to_ascii_lowercase b) (and_left (to_ascii_lowercase a == to_ascii_lowercase b) (same_name x y) e))))
    (same_name-sym x y (and_right (to_ascii_lowercase a == to_ascii_lowercase b) (same_name x y) e))

pub same_name-trans : (x y z : Text) → same_name x y ≡ true → same_name y z ≡ true → same_name x z ≡ true
same_name-trans [] [] z e h = h
same_name-trans [] (b ∷ y) z e h = false-true false refl e
same_name-trans (a ∷ x) [] z e h = false-true false refl e
same_name-trans (a ∷ x) (b ∷ y) [] e h = h
same_name-trans (a ∷ x) (b ∷ y) (c ∷ z) e h =
    and-true (to_ascii_lowercase a == to_ascii_lowercase c) (same_name x z)
    (eq-eqb (to_ascii_lowercase a) (to_ascii_lowercase c) (eqb-true (to_ascii_lowercase a) (to_ascii_lowercase b) (and_left (to_ascii_lowercase a == to_ascii_lowercase b) (same_name x y) e) ∙ eqb-true (to_ascii_lowercase b) (to_ascii_lowercase c) (and_left (to_ascii_lowercase b == to_ascii_lowercase c) (same_name y z) h)))
    (same_name-trans x y z (and_right (to_ascii_lowercase a == to_ascii_lowercase b) (same_name x y) e) (and_right (to_ascii_lowercase b == to_ascii_lowercase c) (same_name y z) h))

pub declared-name : (vars : List StVar) (x : Text) (v : StVar) → declared vars x ≡ Some v → same_name v.name x ≡ true
declared-name [] x v e = absurd (none-some v e)
declared-name (u ∷ vars) x v e = go (same_name u.name x) refl e (declared-name vars x v)
  where
    go : (b : Bool) → same_name u.name x ≡ b → slice_get (u ∷ vars) (cond b 0 (suc (place_of vars x))) ≡ Some v → (declared vars x ≡ Some v → same_name v.name x ≡ true) → same_name v.name x ≡ true
    go true is e rest = subst (λ (w : StVar). same_name w.name x ≡ true) (some-same u v e) is
    go false is e rest = rest e

-- names that differ stand at places that differ, where one is declared
pub places-differ : (vars : List StVar) (x y : Text) (v : StVar) → declared vars x ≡ Some v → same_name x y ≡ false → place_of vars x ≢ place_of vars y
places-differ vars x y v at_x apart same =
    let at_y : declared vars y ≡ Some v = ap (slice_get vars) (sym same) ∙ at_x in
    false-true (same_name x y) apart (same_name-trans x v.name y (same_name-sym v.name x (declared-name vars x v at_x)) (declared-name vars y v at_y))

-- ---- declared variables

pub record Declared (vars : List StVar) (x : Text) (t : StTy) : Type 0 where
  pub variable : StVar
  pub at : declared vars x ≡ Some variable
  pub class_is : variable.class ≡ class.Plain
  pub type_is : variable.ty ≡ t

pub declared-of : (vars : List StVar) (x : Text) (t : StTy) → IsDeclared vars x t → Declared vars x t
declared-of vars x t h = go (declared vars x) refl h
  where
    go : (o : Option StVar) → declared vars x ≡ o → option_map head_of o ≡ Some (x, (class.Plain, t)) → Declared vars x t
    go None is e = absurd (none-some (x, (class.Plain, t)) e)
    go (Some v) is e =
        let all : head_of v ≡ (x, (class.Plain, t)) = some-same (head_of v) (x, (class.Plain, t)) e in
        record { variable = v; at = is; class_is = ap (λ (h : Text × (StClass × StTy)). h.1.0) all; type_is = ap (λ (h : Text × (StClass × StTy)). h.1.1) all }

pub declared-type : (vars : List StVar) (x : Text) (t : StTy) → IsDeclared vars x t → type_at vars (place_of vars x) ≡ t
declared-type vars x t h = let d = declared-of vars x t h in ap type_of d.at ∙ d.type_is

-- ---- what the memory holds

-- holding carries over where the variables of this letter have not changed
pub hold-kept : (p : Program) (m after : Memory) (l : Letter)
    → ((k : ℕ) (path : Text) (t : StTy) → IsDeclared p.vars (name_for l k path) t → slice_get after (place_of p.vars (name_for l k path)) ≡ slice_get m (place_of p.vars (name_for l k path)))
    → (k : ℕ) (xs : List VariableFace) (zs : List ℤ) → AllZip (HoldsAt p m l) (enumerate_from k xs) zs → AllZip (HoldsAt p after l) (enumerate_from k xs) zs
hold-kept p m after l same k [] [] h = tt
hold-kept p m after l same k [] (z ∷ zs) h = absurd h
hold-kept p m after l same k (x ∷ xs) [] h = absurd h
hold-kept p m after l same k (x ∷ xs) (z ∷ zs) h = (
  record { is_declared = h.0.is_declared; holds = same k x.path x.ty h.0.is_declared ∙ h.0.holds },
  hold-kept p m after l same (k + 1) xs zs h.1,
)

abbrev pub Kept : Program → Memory → Memory → Letter → Type 0
Kept p m after l = (k : ℕ) (path : Text) (t : StTy) → IsDeclared p.vars (name_for l k path) t → slice_get after (place_of p.vars (name_for l k path)) ≡ slice_get m (place_of p.vars (name_for l k path))

pub state-kept : (face : Face) (sys : System) (p : Program) (m after : Memory) (s : State) → Kept p m after letter.L → Kept p m after letter.V → Kept p m after letter.H → StateOf face sys p m s → StateOf face sys p after s
state-kept face sys p m after s kept_l kept_v kept_h st = record {
  places = hold-kept p m after letter.L kept_l 0 (places_of face) (map pos s.locs) st.places;
  values = hold-kept p m after letter.V kept_v 0 face.variables s.vals st.values;
  inputs = hold-kept p m after letter.H kept_h 0 face.inputs s.ins st.inputs;
  is_state = st.is_state;
}

-- a write to another variable keeps those of a letter
pub set-keeps : (p : Program) (m : Memory) (x : Text) (z : ℤ) (l : Letter) → ((k : ℕ) (path : Text) → same_name (name_for l k path) x ≡ false) → Kept p m (slice_set m (place_of p.vars x) z) l
set-keeps p m x z l apart k path t is_there =
    let d = declared-of p.vars (name_for l k path) t is_there in
    slice_get-set_other m (place_of p.vars x) (place_of p.vars (name_for l k path)) z (places-differ p.vars (name_for l k path) x d.variable d.at (apart k path))

-- ---- types

abbrev pub Typed : List StVar → Memory → Type 0
Typed vars m = AllZip (λ (v : StVar) z. IsTrue (in_range (range_of v.ty) z)) vars m

pub typed-set : (vars : List StVar) (m : Memory) (k : ℕ) (z : ℤ) (v : StVar) → slice_get vars k ≡ Some v → IsTrue (in_range (range_of v.ty) z) → Typed vars m → Typed vars (slice_set m k z)
typed-set [] m k z v e fits h = absurd (none-some v e)
typed-set (u ∷ vars) [] k z v e fits h = absurd h
typed-set (u ∷ vars) (y ∷ m) zero z v e fits h = (subst (λ (w : StVar). IsTrue (in_range (range_of w.ty) z)) (sym (some-same u v e)) fits, h.1)
typed-set (u ∷ vars) (y ∷ m) (suc k) z v e fits h = (h.0, typed-set vars m k z v e fits h.1)

pub typed-written : (vars : List StVar) (m : Memory) (x : Text) (t : StTy) (z : ℤ) → IsDeclared vars x t → IsTrue (in_range (range_of t) z) → Typed vars m → Typed vars (slice_set m (place_of vars x) z)
typed-written vars m x t z is fits h =
    let d = declared-of vars x t is in
    typed-set vars m (place_of vars x) z d.variable d.at (subst (λ u. IsTrue (in_range (range_of u) z)) (sym d.type_is) fits) h
