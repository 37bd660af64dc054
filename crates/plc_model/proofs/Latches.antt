-- The latches take over the inputs: from a memory that stands for a state, and into which a row was stored, they lead to one
-- that stands for the state with the row as its inputs.
use Rattle.std.proofs.Common.{◌≡◌, ℕ, zero, suc, ◌+◌, ◌^◌, ◌<◌, ◌≤◌, ℤ, pos, Bool, true, false, ◌||◌, cond, List, [], ◌∷◌, ◌++◌, filter, map, length, Some, Ok, get_or, inl, inr, refl, sym, ap, subst, ◌∙◌, arith, not}
use Rattle.std.specs.Prelude.{IsTrue, slice_get, slice_set}
use Rattle.std.specs.List.{AllByRecursion, enumerate_from, list_any, AllZip}
use Rattle.std.proofs.lemmas.List.{get_or-set_other}
use Rattle.grammar.specs.Pieces.{Text}
use Rattle.cif_system.specs.Words.{Member}
use Rattle.cif_system.specs.System.{AllFit, State, Stored, System, in_range}
use Rattle.cif_system.specs.Scan.{with_inputs}
use Rattle.cif_system.proofs.Lists.{some-same}
use Rattle.st_ast.specs.Tree.{Program, named, stms_of}
use Rattle.st_ast.specs.Names.{same_name, place_of}
use Rattle.st_ast.specs.Values.{Memory}
use Rattle.st_ast.specs.Exec.{Ended, is_within, exec, exec_one}
use Rattle.st_ast.specs.Scan.{store_row}
use Rattle.st_ast.specs.Interface.{is_input, inputs_of}
use Rattle.st_ast.specs.Checks.{CheckFault, duplicate, unless, variable_faults, variables_faults, check_faults}
use Rattle.st_ast.specs.declared.tree.StVar.{StVar}
use Rattle.st_ast.specs.declared.tree.StClass.TheVariants as class
use Rattle.st_ast.specs.declared.tree.StTy.{StTy}
use Rattle.st_ast.specs.declared.tree.StTy.TheVariants as ty
use Rattle.st_ast.proofs.Runs.{cons_runs, assign_runs}
use Rattle.st_ast.proofs.NameLaws.{same_name_self}
use Rattle.plc_model.specs.declared.letter.Letter.{Letter}
use Rattle.plc_model.specs.declared.letter.Letter.TheVariants as letter
use Rattle.plc_model.specs.Names.{name_for}
use Rattle.plc_model.specs.Face.{Face, VariableFace, declaration, IsDeclared, HasInterface, HoldsAt, StateOf, AreInTypes, range_of, stored_of, IsFaceOf}
use Rattle.plc_model.specs.Frame.{latch, latches_of}
use Rattle.plc_model.proofs.NameLaws.{letters-differ, names-differ}
use Rattle.plc_model.proofs.FaceLaws.{slice_get-set_same, slice_get-set_other, below, pairwise-length, places-differ, declared-of, declared-type, hold-kept, Kept, Typed, typed-written}

-- ---- lists

pub pairwise-wider : {A B : Type 0} (R Q : A → B → Type 0) → ((x : A) (y : B) → R x y → Q x y) → (xs : List A) (ys : List B) → AllZip R xs ys → AllZip Q xs ys
pairwise-wider R Q wider [] [] h = tt
pairwise-wider R Q wider [] (y ∷ ys) h = absurd h
pairwise-wider R Q wider (x ∷ xs) [] h = absurd h
pairwise-wider R Q wider (x ∷ xs) (y ∷ ys) h = (wider x y h.0, pairwise-wider R Q wider xs ys h.1)

pairwise-map : {A B D : Type 0} (f : A → B) (R : B → D → Type 0) (xs : List A) (ys : List D) → AllZip R (map f xs) ys → AllZip (λ x y. R (f x) y) xs ys
pairwise-map f R [] [] h = tt
pairwise-map f R [] (y ∷ ys) h = absurd h
pairwise-map f R (x ∷ xs) [] h = absurd h
pairwise-map f R (x ∷ xs) (y ∷ ys) h = (h.0, pairwise-map f R xs ys h.1)

pairwise-none : {A B : Type 0} (R Q : A → B → Type 0) (xs : List A) → AllZip R xs [] → AllZip Q xs []
pairwise-none R Q [] h = tt
pairwise-none R Q (x ∷ xs) h = absurd h

all-filter : {A : Type 0} (P : A → Type 0) (f : A → Bool) (xs : List A) → AllByRecursion P xs → AllByRecursion P (filter f xs)
all-filter P f [] h = tt
all-filter P f (x ∷ xs) h = go (f x) (all-filter P f xs h.1)
  where
    go : (b : Bool) → AllByRecursion P (filter f xs) → AllByRecursion P (cond b (x ∷ filter f xs) (filter f xs))
    go true rest = (h.0, rest)
    go false rest = rest

append-none_left : {A : Type 0} (xs ys : List A) → xs ++ ys ≡ [] → xs ≡ []
append-none_left [] ys e = refl
append-none_left (x ∷ xs) ys e = cc

append-none_right : {A : Type 0} (xs ys : List A) → xs ++ ys ≡ [] → ys ≡ []
append-none_right [] ys e = e
append-none_right (x ∷ xs) ys e = cc

member-left : {A : Type 0} (x : A) (xs ys : List A) → Member x xs → Member x (xs ++ ys)
member-left x [] ys h = absurd h
member-left x (y ∷ xs) ys (inl e) = inl e
member-left x (y ∷ xs) ys (inr h) = inr (member-left x xs ys h)

member-last : {A : Type 0} (x : A) (xs : List A) → Member x (xs ++ x ∷ [])
member-last x [] = inl refl
member-last x (y ∷ xs) = inr (member-last x xs)

or-left : (a b : Bool) → (a || b) ≡ false → a ≡ false
or-left true b e = e
or-left false b e = refl

or-right : (a b : Bool) → (a || b) ≡ false → b ≡ false
or-right true b e = cc
or-right false b e = e

any-none : {A : Type 0} (f : A → Bool) (xs : List A) (x : A) → list_any f xs ≡ false → Member x xs → f x ≡ false
any-none f [] x e h = absurd h
any-none f (y ∷ xs) x e (inl is) = subst (λ z. f z ≡ false) (sym is) (or-left (f y) (list_any f xs) e)
any-none f (y ∷ xs) x e (inr h) = any-none f xs x (or-right (f y) (list_any f xs) e) h

-- ---- variables of a program that breaks no check

-- no two have the same name
abbrev pub Differ : List StVar → Type 0
Differ [] = Unit {0}
Differ (v ∷ vars) = AllByRecursion (λ (w : StVar). same_name v.name w.name ≡ false) vars × Differ vars

not_declared : (b : Bool) (f : CheckFault) → unless (not b) f ≡ [] → b ≡ false
not_declared true f e = cc
not_declared false f e = refl

record Apart (before vars : List StVar) : Type 0 where
  earlier : (u : StVar) → Member u before → AllByRecursion (λ (w : StVar). same_name u.name w.name ≡ false) vars
  differ : Differ vars

checked-apart : (before : List StVar) (k : ℕ) (vars : List StVar) → variables_faults before k vars ≡ [] → Apart before vars
checked-apart before k [] e = record { earlier = λ u w. tt; differ = tt }
checked-apart before k (v ∷ vars) e =
    let own : variable_faults before k v ≡ [] = append-none_left (variable_faults before k v) (variables_faults (before ++ v ∷ []) (suc k) vars) e in
    let rest = checked-apart (before ++ v ∷ []) (suc k) vars (append-none_right (variable_faults before k v) (variables_faults (before ++ v ∷ []) (suc k) vars) e) in
    let free : list_any (λ (u : StVar). same_name u.name v.name) before ≡ false =
    not_declared (list_any (λ (u : StVar). same_name u.name v.name) before) (duplicate k) (append-none_left (unless (not (list_any (λ (u : StVar). same_name u.name v.name) before)) (duplicate k)) _ own) in
    record {
      earlier = λ u w. (any-none (λ (x : StVar). same_name x.name v.name) before u free w, rest.earlier u (member-left u before (v ∷ []) w));
      differ = (rest.earlier v (member-last v before), rest.differ);
    }

pub checked-differ : (p : Program) → check_faults p ≡ [] → Differ p.vars
checked-differ p e = (checked-apart [] 0 p.vars (append-none_left (variables_faults [] 0 p.vars) _ e)).differ

-- ---- a stored row

store-other : (vars : List StVar) (row : List ℤ) (m : Memory) (k : ℕ) (v : StVar) → slice_get vars k ≡ Some v → is_input v.class ≡ false → slice_get (store_row vars row m) k ≡ slice_get m k
store-other [] row m k v e off = refl
store-other (u ∷ vars) row [] k v e off = refl
store-other (u ∷ vars) [] (x ∷ m) k v e off = refl
store-other (u ∷ vars) (z ∷ row) (x ∷ m) zero v e off = go (is_input u.class) (subst (λ (w : StVar). is_input w.class ≡ false) (sym (some-same u v e)) off)
  where
    go : (b : Bool) → b ≡ false → slice_get (cond b (z ∷ store_row vars row m) (x ∷ store_row vars (z ∷ row) m)) 0 ≡ Some x
    go true e = cc
    go false e = refl
store-other (u ∷ vars) (z ∷ row) (x ∷ m) (suc k) v e off = go (is_input u.class) (store-other vars row m k v e off) (store-other vars (z ∷ row) m k v e off)
  where
    go : (b : Bool) → slice_get (store_row vars row m) k ≡ slice_get m k → slice_get (store_row vars (z ∷ row) m) k ≡ slice_get m k
        → slice_get (cond b (z ∷ store_row vars row m) (x ∷ store_row vars (z ∷ row) m)) (suc k) ≡ slice_get (x ∷ m) (suc k)
    go true taken passed = taken
    go false taken passed = passed

typed-store : (vars : List StVar) (row : List ℤ) (m : Memory) → Typed vars m → Typed (inputs_of vars) row → Typed vars (store_row vars row m)
typed-store [] row m h g = h
typed-store (u ∷ vars) row [] h g = h
typed-store (u ∷ vars) [] (x ∷ m) h g = h
typed-store (u ∷ vars) (z ∷ row) (x ∷ m) h g = go (is_input u.class) g (typed-store vars row m h.1) (typed-store vars (z ∷ row) m h.1)
  where
    go : (b : Bool) → Typed (cond b (u ∷ inputs_of vars) (inputs_of vars)) (z ∷ row) → (Typed (inputs_of vars) row → Typed vars (store_row vars row m))
        → (Typed (inputs_of vars) (z ∷ row) → Typed vars (store_row vars (z ∷ row) m)) → Typed (u ∷ vars) (cond b (z ∷ store_row vars row m) (x ∷ store_row vars (z ∷ row) m))
    go true g taken passed = (g.0, taken g.1)
    go false g taken passed = (h.0, passed g)

-- each of the variables holds its number
abbrev Reads : List StVar → Memory → List StVar → List ℤ → Type 0
Reads vars m vs zs = AllZip (λ (v : StVar) z. get_or m (place_of vars v.name) (pos 0) ≡ z) vs zs

reads-later : (u : StVar) (vars : List StVar) (x : ℤ) (m : Memory) (vs : List StVar) (zs : List ℤ) → AllByRecursion (λ (w : StVar). same_name u.name w.name ≡ false) vs → Reads vars m vs zs → Reads (u ∷ vars) (x ∷ m) vs zs
reads-later u vars x m [] [] apart h = tt
reads-later u vars x m [] (z ∷ zs) apart h = absurd h
reads-later u vars x m (v ∷ vs) [] apart h = absurd h
reads-later u vars x m (v ∷ vs) (z ∷ zs) apart h = (
  ap (λ b. get_or (x ∷ m) (cond b 0 (suc (place_of vars v.name))) (pos 0)) apart.0 ∙ h.0,
  reads-later u vars x m vs zs apart.1 h.1,
)

reads-first : (u : StVar) (vars : List StVar) (z : ℤ) (m : Memory) → get_or (z ∷ m) (place_of (u ∷ vars) u.name) (pos 0) ≡ z
reads-first u vars z m = ap (λ b. get_or (z ∷ m) (cond b 0 (suc (place_of vars u.name))) (pos 0)) (same_name_self u.name)

store-reads : (vars : List StVar) (row : List ℤ) (m : Memory) → Differ vars → Typed vars m → Typed (inputs_of vars) row → Reads vars (store_row vars row m) (inputs_of vars) row
store-reads [] [] m d h g = tt
store-reads [] (z ∷ row) m d h g = absurd g
store-reads (u ∷ vars) row [] d h g = absurd h
store-reads (u ∷ vars) [] (x ∷ m) d h g = pairwise-none (λ (v : StVar) z. IsTrue (in_range (range_of v.ty) z)) (λ (v : StVar) z. get_or (x ∷ m) (place_of (u ∷ vars) v.name) (pos 0) ≡ z) (inputs_of (u ∷ vars)) g
store-reads (u ∷ vars) (z ∷ row) (x ∷ m) d h g =
    go (is_input u.class) g (store-reads vars row m d.1 h.1) (store-reads vars (z ∷ row) m d.1 h.1) (all-filter (λ (w : StVar). same_name u.name w.name ≡ false) (λ (v : StVar). is_input v.class) vars d.0)
  where
    go : (b : Bool) → Typed (cond b (u ∷ inputs_of vars) (inputs_of vars)) (z ∷ row) → (Typed (inputs_of vars) row → Reads vars (store_row vars row m) (inputs_of vars) row)
        → (Typed (inputs_of vars) (z ∷ row) → Reads vars (store_row vars (z ∷ row) m) (inputs_of vars) (z ∷ row)) → AllByRecursion (λ (w : StVar). same_name u.name w.name ≡ false) (inputs_of vars)
        → Reads (u ∷ vars) (cond b (z ∷ store_row vars row m) (x ∷ store_row vars (z ∷ row) m)) (cond b (u ∷ inputs_of vars) (inputs_of vars)) (z ∷ row)
    go true g taken passed apart = (reads-first u vars z (store_row vars row m), reads-later u vars z (store_row vars row m) (inputs_of vars) row apart (taken g.1))
    go false g taken passed apart = reads-later u vars x (store_row vars (z ∷ row) m) (inputs_of vars) (z ∷ row) apart (passed g)

-- ---- the latches

within-type : (t : StTy) (z : ℤ) → IsTrue (in_range (range_of t) z) → is_within t z ≡ true
within-type ty.Bool z h = refl
within-type ty.Lint z h = refl
within-type (ty.Range lo hi) z h = h

letter_apart : letter.H ≡ letter.I → ⊥
letter_apart e = cc

-- each of these inputs, from number k on, has its H variable
abbrev Latchable : Program → ℕ → List VariableFace → Type 0
Latchable p k xs = AllByRecursion (λ (x : ℕ × VariableFace). IsDeclared p.vars (name_for letter.H x.0 x.1.path) x.1.ty) (enumerate_from k xs)

hold-latchable : (p : Program) (m : Memory) (k : ℕ) (xs : List VariableFace) (zs : List ℤ) → AllZip (HoldsAt p m letter.H) (enumerate_from k xs) zs → Latchable p k xs
hold-latchable p m k [] zs h = tt
hold-latchable p m k (x ∷ xs) [] h = absurd h
hold-latchable p m k (x ∷ xs) (z ∷ zs) h = (h.0.is_declared, hold-latchable p m (k + 1) xs zs h.1)

-- the inputs from number k on hold the row
abbrev InputsHold : Program → Memory → ℕ → List VariableFace → List ℤ → Type 0
InputsHold p m k xs row = AllZip (λ (x : ℕ × VariableFace) z. get_or m (place_of p.vars (name_for letter.I x.0 x.1.path)) (pos 0) ≡ z) (enumerate_from k xs) row

-- the row is in their types
abbrev RowFits : ℕ → List VariableFace → List ℤ → Type 0
RowFits k xs row = AllZip (λ (x : ℕ × VariableFace) z. IsTrue (in_range (range_of x.1.ty) z)) (enumerate_from k xs) row

module _ (p : Program) where
  -- what the latches from number k on do
  record Latched (k : ℕ) (xs : List VariableFace) (row : List ℤ) (n : ℕ) (m : Memory) : Type 0 where
    after : Memory
    ends : exec p.vars (stms_of (map latch (enumerate_from k xs))) n m ≡ Ended n after
    typed : Typed p.vars after
    hold : AllZip (HoldsAt p after letter.H) (enumerate_from k xs) row
    others : (y : Text) → ((j : ℕ) (path : Text) → k ≤ j → j < 2 ^ 64 → same_name (name_for letter.H j path) y ≡ false) → slice_get after (place_of p.vars y) ≡ slice_get m (place_of p.vars y)

  module _ (k : ℕ) (x : VariableFace) (z : ℤ) (n : ℕ) (m : Memory) (is : IsDeclared p.vars (name_for letter.H k x.path) x.ty) where
    place : ℕ
    place = place_of p.vars (name_for letter.H k x.path)

    one_runs : get_or m (place_of p.vars (name_for letter.I k x.path)) (pos 0) ≡ z → IsTrue (in_range (range_of x.ty) z) → exec_one p.vars (latch (k, x)) n m ≡ Ended n (slice_set m (place_of p.vars (name_for letter.H k x.path)) z)
    one_runs read fits =
        assign_runs p.vars (name_for letter.H k x.path) (named (name_for letter.I k x.path)) (place_of p.vars (name_for letter.H k x.path)) z n m refl (ap Ok read)
        (ap (λ t. is_within t z) (declared-type p.vars (name_for letter.H k x.path) x.ty is) ∙ within-type x.ty z fits)

    one_leaves : (y : Text) → same_name (name_for letter.H k x.path) y ≡ false → slice_get (slice_set m (place_of p.vars (name_for letter.H k x.path)) z) (place_of p.vars y) ≡ slice_get m (place_of p.vars y)
    one_leaves y apart =
        let d = declared-of p.vars (name_for letter.H k x.path) x.ty is in
        slice_get-set_other m (place_of p.vars (name_for letter.H k x.path)) (place_of p.vars y) z (λ e. places-differ p.vars (name_for letter.H k x.path) y d.variable d.at apart (sym e))

    one_keeps_inputs : (j : ℕ) (xs : List VariableFace) (row : List ℤ) → InputsHold p m j xs row → InputsHold p (slice_set m (place_of p.vars (name_for letter.H k x.path)) z) j xs row
    one_keeps_inputs j xs row h =
        let d = declared-of p.vars (name_for letter.H k x.path) x.ty is in
        pairwise-wider (λ (y : ℕ × VariableFace) w. get_or m (place_of p.vars (name_for letter.I y.0 y.1.path)) (pos 0) ≡ w)
        (λ (y : ℕ × VariableFace) w. get_or (slice_set m (place_of p.vars (name_for letter.H k x.path)) z) (place_of p.vars (name_for letter.I y.0 y.1.path)) (pos 0) ≡ w)
        (λ y w read. get_or-set_other m (place_of p.vars (name_for letter.H k x.path)) (place_of p.vars (name_for letter.I y.0 y.1.path)) z (pos 0)
        (λ e. places-differ p.vars (name_for letter.H k x.path) (name_for letter.I y.0 y.1.path) d.variable d.at (letters-differ letter.H letter.I k y.0 x.path y.1.path letter_apart) (sym e)) ∙ read)
        (enumerate_from j xs) row h

  latched : (k : ℕ) (xs : List VariableFace) (row : List ℤ) (n : ℕ) (m : Memory) → k + length xs < 2 ^ 64 → Latchable p k xs → InputsHold p m k xs row → RowFits k xs row → Typed p.vars m → Latched k xs row n m
  latched k [] [] n m few can read fits typed = record { after = m; ends = refl; typed = typed; hold = tt; others = λ y apart. refl }
  latched k [] (z ∷ row) n m few can read fits typed = absurd read
  latched k (x ∷ xs) [] n m few can read fits typed = absurd read
  latched k (x ∷ xs) (z ∷ row) n m few can read fits typed =
      let d = declared-of p.vars (name_for letter.H k x.path) x.ty can.0 in
      let next : Memory = slice_set m (place_of p.vars (name_for letter.H k x.path)) z in
      let typed_next = typed-written p.vars m (name_for letter.H k x.path) x.ty z can.0 fits.0 typed in
      let rest = latched (k + 1) xs row n next (omega (arith, few)) can.1 (one_keeps_inputs k x z n m can.0 (k + 1) xs row read.1) fits.1 typed_next in
      let room : place_of p.vars (name_for letter.H k x.path) < length m =
      let inside = below p.vars (place_of p.vars (name_for letter.H k x.path)) d.variable d.at in
      let long = pairwise-length (λ (v : StVar) z. IsTrue (in_range (range_of v.ty) z)) p.vars m typed in omega (arith, inside, long) in
      record {
        after = rest.after;
        ends = cons_runs p.vars (latch (k, x)) (stms_of (map latch (enumerate_from (k + 1) xs))) n n m next (one_runs k x z n m can.0 read.0 fits.0) ∙ rest.ends;
        typed = rest.typed;
        hold = (
          record {
            is_declared = can.0;
            holds = rest.others (name_for letter.H k x.path) (λ j path above small. names-differ letter.H letter.H j k path x.path small (omega (arith, few)) (inr (λ e. omega (arith, above, e))))
                ∙ slice_get-set_same m (place_of p.vars (name_for letter.H k x.path)) z room;
          },
          rest.hold,
        );
        others = λ y apart. rest.others y (λ j path above small. apart j path (omega (arith, above)) small) ∙ one_leaves k x z n m can.0 y (apart k x.path (omega arith) (omega (arith, few)));
      }

-- ---- from a stored row

-- the declared inputs, from number k on, as they are numbered
fits-inputs : (k : ℕ) (xs : List VariableFace) (row : List ℤ) → AllZip (λ (v : Stored) z. IsTrue (in_range v.range z)) (map stored_of xs) row → RowFits k xs row
fits-inputs k [] [] h = tt
fits-inputs k [] (z ∷ row) h = absurd h
fits-inputs k (x ∷ xs) [] h = absurd h
fits-inputs k (x ∷ xs) (z ∷ row) h = (h.0, fits-inputs (k + 1) xs row h.1)

fits-declared : (xs : List (ℕ × VariableFace)) (row : List ℤ) → AllZip (λ (x : ℕ × VariableFace) z. IsTrue (in_range (range_of x.1.ty) z)) xs row → Typed (map (declaration letter.I class.Input) xs) row
fits-declared [] [] h = tt
fits-declared [] (z ∷ row) h = absurd h
fits-declared (x ∷ xs) [] h = absurd h
fits-declared (x ∷ xs) (z ∷ row) h = (h.0, fits-declared xs row h.1)

module _ (face : Face) (sys : System) (p : Program) (interface : HasInterface face p) (is_face : IsFaceOf face sys) (checked : check_faults p ≡ []) (few : length face.inputs < 2 ^ 32) where
  pub record Taken (n : ℕ) (row : List ℤ) (m : Memory) (s : State) : Type 0 where
    pub after : Memory
    pub ends : exec p.vars (latches_of face) n (store_row p.vars row m) ≡ Ended n after
    pub typed : AreInTypes p after
    pub state : StateOf face sys p after (with_inputs s row)

  pub inputs-taken : (n : ℕ) (row : List ℤ) (m : Memory) (s : State) → AllFit sys.inputs row → StateOf face sys p m s → AreInTypes p m → Taken n row m s
  inputs-taken n row m s in_range st typed =
      let fits : RowFits 0 face.inputs row = fits-inputs 0 face.inputs row (subst (λ (vs : List Stored). AllFit vs row) (sym is_face.inputs) in_range) in
      let typed_row : Typed (inputs_of p.vars) row = subst (λ (vs : List StVar). Typed vs row) (sym interface.inputs) (fits-declared (enumerate_from 0 face.inputs) row fits) in
      let stored : Memory = store_row p.vars row m in
      let reads : InputsHold p stored 0 face.inputs row =
      pairwise-map (declaration letter.I class.Input) (λ (v : StVar) z. get_or stored (place_of p.vars v.name) (pos 0) ≡ z) (enumerate_from 0 face.inputs) row
      (subst (λ (vs : List StVar). Reads p.vars stored vs row) interface.inputs (store-reads p.vars row m (checked-differ p checked) typed typed_row)) in
      let l = latched p 0 face.inputs row n stored (omega (arith, few)) (hold-latchable p m 0 face.inputs s.ins st.inputs) reads fits (typed-store p.vars row m typed typed_row) in
      record {
        after = l.after;
        ends = l.ends;
        typed = l.typed;
        state = record {
          places = hold-kept p m l.after letter.L (kept l.after l.others letter.L (λ e. cc)) 0 _ _ st.places;
          values = hold-kept p m l.after letter.V (kept l.after l.others letter.V (λ e. cc)) 0 _ _ st.values;
          inputs = l.hold;
          is_state = record { places = st.is_state.places; values = st.is_state.values; inputs = in_range };
        };
      }
    where
      kept : (after : Memory) → ((y : Text) → ((j : ℕ) (path : Text) → 0 ≤ j → j < 2 ^ 64 → same_name (name_for letter.H j path) y ≡ false) → slice_get after (place_of p.vars y) ≡ slice_get (store_row p.vars row m) (place_of p.vars y))
          → (l : Letter) → (letter.H ≡ l → ⊥) → Kept p m after l
      kept after others l apart k path t is =
          let d = declared-of p.vars (name_for l k path) t is in
          others (name_for l k path) (λ j way above small. letters-differ letter.H l j k way path apart)
          ∙ store-other p.vars row m (place_of p.vars (name_for l k path)) d.variable d.at (ap is_input d.class_is)
