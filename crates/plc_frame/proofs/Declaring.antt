-- The variables of a program that stand in blocks, one for each letter: no two have the same name, each is found by its name,
-- and each starts with its first value.
use Rattle.std.proofs.Common.{◌≡◌, ℕ, zero, suc, ◌+◌, ◌-◌, ◌^◌, ◌<◌, ◌≤◌, ℤ, pos, negsuc, Bool, true, false, ◌&&◌, ◌||◌, not, List, [], ◌∷◌, ◌++◌, map, filter, length, Option, Some, None, inr, refl, sym, ap, subst, ◌∙◌, arith, le-leb}
use Rattle.std.specs.Prelude.{IsTrue, int_le, nat_le, option_map, slice_get, if◌then◌else◌}
use Rattle.std.specs.List.{AllByRecursion, AllZip, enumerate_from, list_any}
use Rattle.std.proofs.lemmas.Int.{ints}
use Rattle.std.proofs.lemmas.Bool.Decides.{nat_tests}
use Rattle.std.proofs.lemmas.List.{append_assoc}
use Rattle.std.proofs.lemmas.List.Folds.{list_any-append}
use Rattle.grammar.specs.Pieces.{Text}
use Rattle.cif_system.specs.System.{in_range}
use Rattle.cif_system.proofs.Lists.{none-some, some-same}
use Rattle.cif_system.proofs.Picks.{and-left, and-right}
use Rattle.st_ast.specs.Tree.{Program}
use Rattle.st_ast.specs.Names.{declared, place_of, same_name}
use Rattle.st_ast.specs.Values.{is_true, of_bool}
use Rattle.st_ast.specs.Scan.{first_of, first_or, start_memory, value_of_literal}
use Rattle.st_ast.specs.Checks.{CheckFault, duplicate, init_range, is_type, starts_well, unless, variable_faults, variables_faults}
use Rattle.st_ast.specs.Spelled.{are_declarations, is_first_spelled}
use Rattle.st_ast.specs.Tokens.{greatest}
use Rattle.st_ast.specs.declared.tree.StLit.{StLit}
use Rattle.st_ast.specs.declared.tree.StLit.TheVariants as lit
use Rattle.st_ast.specs.declared.tree.StVar.{StVar}
use Rattle.st_ast.specs.declared.tree.StClass.{StClass}
use Rattle.st_ast.specs.declared.tree.StClass.TheVariants as class
use Rattle.st_ast.specs.declared.tree.StTy.{StTy}
use Rattle.st_ast.specs.declared.tree.StTy.TheVariants as ty
use Rattle.st_ast.proofs.NameLaws.{same_name_self}
use Rattle.plc_model.specs.declared.letter.Letter.{Letter}
use Rattle.plc_model.specs.Names.{name_for}
use Rattle.plc_model.specs.Face.{VariableFace, HoldsAt, head_of, declaration, declarations, literal_of, range_of}
use Rattle.plc_model.proofs.NameLaws.{letters-differ, names-differ}
use Rattle.plc_model.proofs.FaceLaws.{Typed}
use Rattle.plc_frame.specs.Variables.{Block, variables_of}
use Rattle.plc_frame.specs.Given.{Section, all_variables}
use Rattle.plc_frame.proofs.Choosing.{filter-append}
use Rattle.plc_frame.proofs.Writing.{name_of}

-- ---- faces

-- the type has numbers, and the first value is one of them
pub record Sound (x : VariableFace) : Type 0 where
  pub type : is_type x.ty ≡ true
  pub first : IsTrue (in_range (range_of x.ty) x.first)

truth-first : (z : ℤ) → (int_le (pos 0) z && int_le z (pos 1)) ≡ true → of_bool (is_true z) ≡ z
truth-first (pos zero) h = refl
truth-first (pos (suc n)) h = let e : n ≡ 0 = grind (arith, ints) in ap (λ k. pos (suc k)) (sym e)
truth-first (negsuc n) h = absurd cc

-- the literal has the first value
literal-is : (t : StTy) (z : ℤ) → IsTrue (in_range (range_of t) z) → value_of_literal (literal_of t z) ≡ z
literal-is ty.Bool z h = truth-first z h
literal-is ty.Lint z h = refl
literal-is (ty.Range lo hi) z h = refl

literal-fits : (t : StTy) (z : ℤ) → IsTrue (in_range (range_of t) z) → starts_well t (Some (literal_of t z)) ≡ true
literal-fits ty.Bool z h = refl
literal-fits ty.Lint z h = refl
literal-fits (ty.Range lo hi) z h = h

abbrev pub AllSound : List VariableFace → Type 0
AllSound xs = AllByRecursion Sound xs

-- ---- no two variables have the same name

-- none of the variables has this letter and a number from k on
abbrev Clear : List StVar → Letter → ℕ → Type 0
Clear before l k = (j : ℕ) (path : Text) → k ≤ j → j < 2 ^ 64 → list_any (λ (u : StVar). same_name u.name (name_for l j path)) before ≡ false

abbrev AllClear : List StVar → List Block → Type 0
AllClear before bs = AllByRecursion (λ (b : Block). Clear before b.letter 0) bs

or-none : (a b : Bool) → a ≡ false → b ≡ false → (a || b) ≡ false
or-none a b x y = rw x y

clear-pushed : (before : List StVar) (v : StVar) (l : Letter) (k i : ℕ) → i ≤ k → Clear before l i → ((j : ℕ) (path : Text) → k ≤ j → j < 2 ^ 64 → same_name v.name (name_for l j path) ≡ false) → Clear (before ++ v ∷ []) l k
clear-pushed before v l k i later clear apart j path above small =
    list_any-append (λ (u : StVar). same_name u.name (name_for l j path)) before (v ∷ [])
    ∙ or-none _ _ (clear j path (omega (arith, later, above)) small) (or-none _ _ (apart j path above small) refl)

-- a block's letter is none of the others'
abbrev Other : Letter → List Block → Type 0
Other l bs = AllByRecursion (λ (b : Block). l ≡ b.letter → ⊥) bs

all-pushed : (before : List StVar) (l : Letter) (k : ℕ) (x : VariableFace) (c : StClass) (bs : List Block) → Other l bs → AllClear before bs → AllClear (before ++ declaration l c (k, x) ∷ []) bs
all-pushed before l k x c [] other clear = tt
all-pushed before l k x c (b ∷ bs) other clear = (
  clear-pushed before (declaration l c (k, x)) b.letter 0 0 (omega arith) clear.0 (λ j path above small. letters-differ l b.letter k j x.path path other.0),
  all-pushed before l k x c bs other.1 clear.1,
)

one-fault : (before : List StVar) (j : ℕ) (l : Letter) (c : StClass) (k : ℕ) (x : VariableFace) → Sound x → list_any (λ (u : StVar). same_name u.name (name_for l k x.path)) before ≡ false
    → variable_faults before j (declaration l c (k, x)) ≡ []
one-fault before j l c k x sound free = rw (free, sound.type, literal-fits x.ty x.first sound.first) refl

block-faults : (before : List StVar) (j : ℕ) (l : Letter) (c : StClass) (k : ℕ) (xs : List VariableFace) (bs : List Block) → k + length xs < 2 ^ 64 → AllSound xs → Clear before l k → Other l bs → AllClear before bs
    → ((all : List StVar) (i : ℕ) → AllClear all bs → variables_faults all i (variables_of bs) ≡ []) → variables_faults before j (map (declaration l c) (enumerate_from k xs) ++ variables_of bs) ≡ []
block-faults before j l c k [] bs few sound clear other all rest = rest before j all
block-faults before j l c k (x ∷ xs) bs few sound clear other all rest =
    ap (λ fs. fs ++ variables_faults (before ++ declaration l c (k, x) ∷ []) (suc j) (map (declaration l c) (enumerate_from (k + 1) xs) ++ variables_of bs))
    (one-fault before j l c k x sound.0 (clear k x.path (omega arith) (omega (arith, few))))
    ∙ block-faults (before ++ declaration l c (k, x) ∷ []) (suc j) l c (k + 1) xs bs (omega (arith, few)) sound.1
    (clear-pushed before (declaration l c (k, x)) l (k + 1) k (omega arith) clear (λ i path above small. names-differ l l k i x.path path (omega (arith, few)) small (inr (λ e. omega (arith, above, e)))))
    other (all-pushed before l k x c bs other all) rest

-- each block has a letter of its own, few variables, and sound ones
abbrev pub AreBlocks : List Block → Type 0
AreBlocks [] = Unit {0}
AreBlocks (b ∷ bs) = Other b.letter bs × (length b.faces < 2 ^ 64) × AllSound b.faces × AreBlocks bs

blocks-faults : (before : List StVar) (j : ℕ) (bs : List Block) → AreBlocks bs → AllClear before bs → variables_faults before j (variables_of bs) ≡ []
blocks-faults before j [] h clear = refl
blocks-faults before j (b ∷ bs) h clear =
    block-faults before j b.letter b.class 0 b.faces bs (omega (arith, h.1)) h.2 clear.0 h.0 clear.1 (λ all i c. blocks-faults all i bs h.3 c)

nothing-clear : (bs : List Block) → AllClear [] bs
nothing-clear [] = tt
nothing-clear (b ∷ bs) = ((λ j path above small. refl), nothing-clear bs)

pub variables-checked : (bs : List Block) → AreBlocks bs → variables_faults [] 0 (variables_of bs) ≡ []
variables-checked bs h = blocks-faults [] 0 bs h (nothing-clear bs)

-- ---- each is found by its name

declared-skip : (v : StVar) (vars : List StVar) (x : Text) → same_name v.name x ≡ false → declared (v ∷ vars) x ≡ declared vars x
declared-skip v vars x h = ap (λ b. slice_get (v ∷ vars) (if b then 0 else suc (place_of vars x))) h

declared-hit : (v : StVar) (vars : List StVar) (x : Text) → same_name v.name x ≡ true → declared (v ∷ vars) x ≡ Some v
declared-hit v vars x h = ap (λ b. slice_get (v ∷ vars) (if b then 0 else suc (place_of vars x))) h

-- a variable of this letter and class
pub record IsOf (l : Letter) (c : StClass) (v : StVar) : Type 0 where
  pub number : ℕ
  pub path : Text
  pub name : v.name ≡ name_for l number path
  pub class : v.class ≡ c

abbrev pub AllOf : Letter → StClass → List StVar → Type 0
AllOf l c vs = AllByRecursion (IsOf l c) vs

pub declared-of : (l : Letter) (c : StClass) (k : ℕ) (xs : List VariableFace) → AllOf l c (map (declaration l c) (enumerate_from k xs))
declared-of l c k [] = tt
declared-of l c k (x ∷ xs) = (record { number = k; path = x.path; name = refl; class = refl }, declared-of l c (k + 1) xs)

-- no name is found among variables of another letter
skip-others : (l : Letter) (c : StClass) (vs rest : List StVar) (t : Letter) (k : ℕ) (path : Text) → (l ≡ t → ⊥) → AllOf l c vs → declared (vs ++ rest) (name_for t k path) ≡ declared rest (name_for t k path)
skip-others l c [] rest t k path other all = refl
skip-others l c (v ∷ vs) rest t k path other all =
    declared-skip v (vs ++ rest) (name_for t k path) (ap (λ x. same_name x (name_for t k path)) all.0.name ∙ letters-differ l t all.0.number k all.0.path path other)
    ∙ skip-others l c vs rest t k path other all.1

block-hit : (l : Letter) (c : StClass) (j : ℕ) (ys : List VariableFace) (rest : List StVar) (k : ℕ) (x : VariableFace) → j + length ys < 2 ^ 64 → slice_get ys k ≡ Some x
    → declared (map (declaration l c) (enumerate_from j ys) ++ rest) (name_for l (j + k) x.path) ≡ Some (declaration l c (j + k, x))
block-hit l c j [] rest k x few at = absurd (none-some x at)
block-hit l c j (y ∷ ys) rest zero x few at =
    let same : y ≡ x = some-same y x at in
    let number : j ≡ j + 0 = omega arith in
    subst (λ i. declared (map (declaration l c) (enumerate_from j (y ∷ ys)) ++ rest) (name_for l i x.path) ≡ Some (declaration l c (i, x))) number
    (subst (λ (u : VariableFace). declared (map (declaration l c) (enumerate_from j (y ∷ ys)) ++ rest) (name_for l j u.path) ≡ Some (declaration l c (j, u))) same
    (declared-hit (declaration l c (j, y)) (map (declaration l c) (enumerate_from (j + 1) ys) ++ rest) (name_for l j y.path) (same_name_self (name_for l j y.path))))
block-hit l c j (y ∷ ys) rest (suc k) x few at =
    let number : (j + 1) + k ≡ j + suc k = omega arith in
    let inside : k < length ys = below-length ys k x at in
    declared-skip (declaration l c (j, y)) (map (declaration l c) (enumerate_from (j + 1) ys) ++ rest) (name_for l (j + suc k) x.path)
    (names-differ l l j (j + suc k) y.path x.path (omega (arith, few)) (omega (arith, few, inside)) (inr (λ e. omega (arith, e))))
    ∙ subst (λ i. declared (map (declaration l c) (enumerate_from (j + 1) ys) ++ rest) (name_for l i x.path) ≡ Some (declaration l c (i, x))) number
    (block-hit l c (j + 1) ys rest k x (omega (arith, few)) at)
  where
    below-length : (ys : List VariableFace) (k : ℕ) (x : VariableFace) → slice_get ys k ≡ Some x → k < length ys
    below-length [] k x e = absurd (none-some x e)
    below-length (y ∷ ys) zero x e = omega arith
    below-length (y ∷ ys) (suc k) x e = let rest = below-length ys k x e in omega (arith, rest)

-- each of these, from number k on, is declared by its name
abbrev pub AllDeclared : List StVar → Letter → StClass → ℕ → List VariableFace → Type 0
AllDeclared vars l c k xs = AllByRecursion (λ (x : ℕ × VariableFace). declared vars (name_of l x) ≡ Some (declaration l c x)) (enumerate_from k xs)

by-number : (vars : List StVar) (l : Letter) (c : StClass) (i : ℕ) (xs : List VariableFace) → ((k : ℕ) (x : VariableFace) → slice_get xs k ≡ Some x → declared vars (name_for l (i + k) x.path) ≡ Some (declaration l c (i + k, x)))
    → AllDeclared vars l c i xs
by-number vars l c i [] h = tt
by-number vars l c i (x ∷ xs) h =
    let first : i + 0 ≡ i = omega arith in (
      subst (λ j. declared vars (name_for l j x.path) ≡ Some (declaration l c (j, x))) first (h 0 x refl),
      by-number vars l c (i + 1) xs (λ k y e. let number : i + suc k ≡ (i + 1) + k = omega arith in subst (λ j. declared vars (name_for l j y.path) ≡ Some (declaration l c (j, y))) number (h (suc k) y e)),
    )

front-declared : (l : Letter) (c : StClass) (xs : List VariableFace) (rest : List StVar) → length xs < 2 ^ 64 → AllDeclared (declarations l c xs ++ rest) l c 0 xs
front-declared l c xs rest few = by-number (declarations l c xs ++ rest) l c 0 xs (λ k x at. block-hit l c 0 xs rest k x (omega (arith, few)) at)

-- behind variables of another letter
later-declared : (s : Section) (rest : List StVar) (l : Letter) (c : StClass) (k : ℕ) (xs : List VariableFace) → (s.letter ≡ l → ⊥) → AllOf s.letter s.class s.variables → AllDeclared rest l c k xs
    → AllDeclared (s.variables ++ rest) l c k xs
later-declared s rest l c k [] other of all = tt
later-declared s rest l c k (x ∷ xs) other of all = (
  skip-others s.letter s.class s.variables rest l k x.path other of ∙ all.0,
  later-declared s rest l c (k + 1) xs other of all.1,
)

-- each section has a letter of its own, and variables of that letter and of its class
abbrev pub AreSections : List Section → Type 0
AreSections [] = Unit {0}
AreSections (s ∷ ss) = AllByRecursion (λ (u : Section). s.letter ≡ u.letter → ⊥) ss × AllOf s.letter s.class s.variables × AreSections ss

all-section : (P : Section → Type 0) (ss : List Section) (k : ℕ) (s : Section) → AllByRecursion P ss → slice_get ss k ≡ Some s → P s
all-section P [] k s h e = absurd (none-some s e)
all-section P (u ∷ ss) zero s h e = subst P (some-same u s e) h.0
all-section P (u ∷ ss) (suc k) s h e = all-section P ss k s h.1 e

-- the variables at the front of a section are found by their names
pub section-declared : (ss : List Section) (k : ℕ) (s : Section) (xs : List VariableFace) (more : List StVar) → AreSections ss → slice_get ss k ≡ Some s → length xs < 2 ^ 64
    → s.variables ≡ declarations s.letter s.class xs ++ more → AllDeclared (all_variables ss) s.letter s.class 0 xs
section-declared [] k s xs more h e few is = absurd (none-some s e)
section-declared (u ∷ ss) zero s xs more h e few is =
    let same : u ≡ s = some-same u s e in
    subst (λ (vs : List StVar). AllDeclared vs s.letter s.class 0 xs)
    (sym (ap (λ (w : Section). w.variables ++ all_variables ss) same ∙ ap (λ vs. vs ++ all_variables ss) is ∙ append_assoc (declarations s.letter s.class xs) more (all_variables ss)))
    (front-declared s.letter s.class xs (more ++ all_variables ss) few)
section-declared (u ∷ ss) (suc k) s xs more h e few is =
    later-declared u (all_variables ss) s.letter s.class 0 xs (all-section (λ (w : Section). u.letter ≡ w.letter → ⊥) ss k s h.0 e) h.1 (section-declared ss k s xs more h.2 e few is)

-- by its number
pub declared-at : (vars : List StVar) (l : Letter) (c : StClass) (i : ℕ) (xs : List VariableFace) (k : ℕ) (x : VariableFace) → AllDeclared vars l c i xs → slice_get xs k ≡ Some x
    → declared vars (name_for l (i + k) x.path) ≡ Some (declaration l c (i + k, x))
declared-at vars l c i [] k x all at = absurd (none-some x at)
declared-at vars l c i (y ∷ xs) zero x all at =
    let number : i ≡ i + 0 = omega arith in
    subst (λ j. declared vars (name_for l j x.path) ≡ Some (declaration l c (j, x))) number
    (subst (λ (u : VariableFace). declared vars (name_for l i u.path) ≡ Some (declaration l c (i, u))) (some-same y x at) all.0)
declared-at vars l c i (y ∷ xs) (suc k) x all at =
    let number : (i + 1) + k ≡ i + suc k = omega arith in
    subst (λ j. declared vars (name_for l j x.path) ≡ Some (declaration l c (j, x))) number (declared-at vars l c (i + 1) xs k x all.1 at)

-- ---- first values

get-map : {A B : Type 0} (f : A → B) (xs : List A) (k : ℕ) → slice_get (map f xs) k ≡ option_map f (slice_get xs k)
get-map f [] k = refl
get-map f (x ∷ xs) zero = refl
get-map f (x ∷ xs) (suc k) = get-map f xs k

-- the memory of the declarations holds the first values
pub starts-held : (p : Program) (l : Letter) (k : ℕ) (xs : List VariableFace) → AllSound xs → AllDeclared p.vars l class.Plain k xs
    → AllZip (HoldsAt p (start_memory p) l) (enumerate_from k xs) (map (λ (x : VariableFace). x.first) xs)
starts-held p l k [] sound all = tt
starts-held p l k (x ∷ xs) sound all = (
  record {
    is_declared = ap (option_map head_of) all.0;
    holds = get-map first_of p.vars (place_of p.vars (name_for l k x.path)) ∙ ap (option_map first_of) all.0 ∙ ap Some (literal-is x.ty x.first sound.0.first);
  },
  starts-held p l (k + 1) xs sound.1 all.1,
)

-- a variable that breaks no check and has a spelling starts in its type
starts-in : (t : StTy) (o : Option StLit) → is_type t ≡ true → starts_well t o ≡ true → is_first_spelled o ≡ true → IsTrue (in_range (range_of t) (first_or t o))
starts-in ty.Bool None h g f = refl
starts-in ty.Lint None h g f = refl
starts-in (ty.Range lo hi) None h g f = low-inside lo hi h
  where
    low-inside : (lo hi : ℤ) → int_le lo hi ≡ true → (int_le lo lo && int_le lo hi) ≡ true
    low-inside lo hi h = grind (arith, ints)
starts-in ty.Bool (Some (lit.Bool true)) h g f = refl
starts-in ty.Bool (Some (lit.Bool false)) h g f = refl
starts-in ty.Bool (Some (lit.Int z)) h g f = absurd cc
starts-in ty.Lint (Some (lit.Bool b)) h g f = absurd cc
starts-in ty.Lint (Some (lit.Int (pos n))) h g f = small n f
  where
    small : (n : ℕ) → nat_le n greatest ≡ true → (int_le (negsuc (2 ^ 63 - 1)) (pos n) && int_le (pos n) (pos (2 ^ 63 - 1))) ≡ true
    small n f = let few : n ≤ greatest = grind (arith, nat_tests) in let top = le-leb n (2 ^ 63 - 1) (omega (arith, few)) in rw top refl
starts-in ty.Lint (Some (lit.Int (negsuc n))) h g f = small n f
  where
    small : (n : ℕ) → nat_le (suc n) greatest ≡ true → (int_le (negsuc (2 ^ 63 - 1)) (negsuc n) && int_le (negsuc n) (pos (2 ^ 63 - 1))) ≡ true
    small n f = let few : suc n ≤ greatest = grind (arith, nat_tests) in let top = le-leb n (2 ^ 63 - 1) (omega (arith, few)) in rw top refl
starts-in (ty.Range lo hi) (Some (lit.Bool b)) h g f = absurd cc
starts-in (ty.Range lo hi) (Some (lit.Int z)) h g f = g

pub append-none-left : {A : Type 0} (xs ys : List A) → xs ++ ys ≡ [] → xs ≡ []
append-none-left [] ys e = refl
append-none-left (x ∷ xs) ys e = absurd cc

append-none-right : {A : Type 0} (xs ys : List A) → xs ++ ys ≡ [] → ys ≡ []
append-none-right [] ys e = e
append-none-right (x ∷ xs) ys e = absurd cc

unless-none : (b : Bool) (f : CheckFault) → unless b f ≡ [] → b ≡ true
unless-none true f e = refl
unless-none false f e = cc

pub checked-typed : (before : List StVar) (k : ℕ) (vars : List StVar) → variables_faults before k vars ≡ [] → are_declarations vars ≡ true → Typed vars (map first_of vars)
checked-typed before k [] e g = tt
checked-typed before k (v ∷ vars) e g =
    let own : variable_faults before k v ≡ [] = append-none-left (variable_faults before k v) (variables_faults (before ++ v ∷ []) (suc k) vars) e in
    let fits : (is_type v.ty && starts_well v.ty v.init) ≡ true =
    unless-none (is_type v.ty && starts_well v.ty v.init) (init_range k) (append-none-right (unless (not (list_any (λ (u : StVar). same_name u.name v.name) before)) (duplicate k)) _ own) in (
      starts-in v.ty v.init (and-left _ _ fits) (and-right _ _ fits) (and-left _ _ (and-right _ _ (and-right _ _ (and-left _ _ g)))),
      checked-typed (before ++ v ∷ []) (suc k) vars (append-none-right (variable_faults before k v) (variables_faults (before ++ v ∷ []) (suc k) vars) e) (and-right _ _ g),
    )

-- ---- the variables of a class

kept-all : (f : StClass → Bool) (l : Letter) (c : StClass) (vs : List StVar) → AllOf l c vs → f c ≡ true → filter (λ (v : StVar). f v.class) vs ≡ vs
kept-all f l c [] of h = refl
kept-all f l c (v ∷ vs) of h = let is = ap f of.0.class ∙ h in rw is (ap (λ r. v ∷ r) (kept-all f l c vs of.1 h))

kept-none : (f : StClass → Bool) (l : Letter) (c : StClass) (vs : List StVar) → AllOf l c vs → f c ≡ false → filter (λ (v : StVar). f v.class) vs ≡ []
kept-none f l c [] of h = refl
kept-none f l c (v ∷ vs) of h = let is = ap f of.0.class ∙ h in rw is (kept-none f l c vs of.1 h)

-- the variables of the sections whose class passes
abbrev pub passing : (StClass → Bool) → List Section → List StVar
passing f [] = []
passing f (s ∷ ss) = if f s.class then s.variables ++ passing f ss else passing f ss

pub variables-passing : (f : StClass → Bool) (ss : List Section) → AreSections ss → filter (λ (v : StVar). f v.class) (all_variables ss) ≡ passing f ss
variables-passing f [] h = refl
variables-passing f (s ∷ ss) h =
    filter-append (λ (v : StVar). f v.class) s.variables (all_variables ss) ∙ go (f s.class) refl (variables-passing f ss h.2)
  where
    go : (t : Bool) → f s.class ≡ t → filter (λ (v : StVar). f v.class) (all_variables ss) ≡ passing f ss
        → filter (λ (v : StVar). f v.class) s.variables ++ filter (λ (v : StVar). f v.class) (all_variables ss) ≡ (if t then s.variables ++ passing f ss else passing f ss)
    go true is rest = ap (λ r. r ++ filter (λ (v : StVar). f v.class) (all_variables ss)) (kept-all f s.letter s.class s.variables h.1 is) ∙ ap (λ r. s.variables ++ r) rest
    go false is rest = ap (λ r. r ++ filter (λ (v : StVar). f v.class) (all_variables ss)) (kept-none f s.letter s.class s.variables h.1 is) ∙ rest
