-- The frame round statements that have a spelling has one, and so have declarations whose types and first values have literals.
use Rattle.std.proofs.Common.{◌≡◌, ◌==◌, ℕ, ◌+◌, ◌-◌, ◌<◌, ◌≤◌, Bool, true, false, ◌&&◌, List, [], ◌∷◌, ◌++◌, length, map, Some, refl, ap, arith, le-leb}
use Rattle.std.specs.Prelude.{nat_le}
use Rattle.std.specs.List.{AllByRecursion, enumerate_from, list_all}
use Rattle.grammar.specs.Pieces.{Text, AllAre}
use Rattle.grammar.specs.Bytes.{begins_word, is_wordy}
use Rattle.cif_system.proofs.Picks.{and-left, and-right}
use Rattle.cif_net_model.specs.Net.{NetAuto}
use Rattle.st_ast.specs.Tokens.{greatest, kind_of_word}
use Rattle.st_ast.specs.Grammar.{code}
use Rattle.st_ast.specs.declared.kinds.TokenKind.TheVariants as kinds
use Rattle.st_ast.specs.Spelled.{are_declarations, are_stms, is_declaration, is_first_spelled, is_type_spelled, is_name, is_stm, is_whole_expr}
use Rattle.st_ast.specs.Tree.{Stms, append, no_stms, stms, stms_of}
use Rattle.st_ast.specs.declared.tree.StVar.{StVar}
use Rattle.st_ast.specs.declared.tree.StClass.{StClass}
use Rattle.plc_model.specs.declared.letter.Letter.{Letter}
use Rattle.plc_model.specs.Names.{IsIdentifier, name_for}
use Rattle.plc_model.specs.Face.{VariableFace, declaration, literal_of, place_face}
use Rattle.plc_model.specs.Frame.{frame, goes_on, loop_of, one_more_round, one_round, tries_of}
use Rattle.plc_model.proofs.NameLaws.{name-identifier}
use Rattle.plc_frame.specs.Variables.{Block, shown_by, variables_of}
use Rattle.plc_frame.specs.Faces.{auto_face}

-- ---- names

all-wordy : (w : Text) → AllAre is_wordy w → list_all is_wordy w ≡ true
all-wordy [] h = refl
all-wordy (b ∷ w) h = rw h.0 (all-wordy w h.1)

pub both-true : (a b : Bool) → a ≡ true → b ≡ true → (a && b) ≡ true
both-true a b x y = rw x y

never : {A : Type 0} → false ≡ true → A
never h = absurd cc

identifier-spelled : (w : Text) → IsIdentifier w → is_name w ≡ true
identifier-spelled [] h = never h.begins
identifier-spelled (b ∷ w) h =
    both-true (begins_word b && list_all is_wordy w) (code kinds.Name == code (kind_of_word (b ∷ w))) (both-true (begins_word b) (list_all is_wordy w) h.begins (all-wordy w h.bytes.1))
    (ap (λ k. code kinds.Name == code k) h.kind)

pub name-spelled : (l : Letter) (k : ℕ) (path : Text) → is_name (name_for l k path) ≡ true
name-spelled l k path = identifier-spelled (name_for l k path) (name-identifier l k path)

-- ---- statements

pub append-spelled : (d : ℕ) (a b : Stms) → are_stms d a ≡ true → are_stms d b ≡ true → are_stms d (append a b) ≡ true
append-spelled d no_stms b h g = g
append-spelled d (stms s ss) b h g = both-true (is_stm d s) (are_stms d (append ss b)) (and-left _ _ h) (append-spelled d ss b (and-right _ _ h) g)

-- ---- the frame

tries-spelled : (d : ℕ) (body : ℕ → Stms) (es : List ℕ) → ((e : ℕ) → are_stms d (body e) ≡ true) → are_stms d (tries_of body es) ≡ true
tries-spelled d body [] h = refl
tries-spelled d body (e ∷ es) h = append-spelled d (body e) (tries_of body es) (h e) (tries-spelled d body es h)

round-spelled : (tries : Stms) → are_stms 399 tries ≡ true → are_stms 399 (one_round tries) ≡ true
round-spelled tries h = append-spelled 399 tries (stms one_more_round no_stms) h refl

condition-spelled : (bound : ℕ) → bound ≤ greatest → is_whole_expr (goes_on bound) ≡ true
condition-spelled bound le = let e : nat_le bound greatest ≡ true = le-leb bound greatest le in rw e refl

loop-spelled : (bound : ℕ) (tries : Stms) → bound ≤ greatest → are_stms 399 tries ≡ true → are_stms 400 (loop_of bound tries) ≡ true
loop-spelled bound tries le h =
    both-true (is_whole_expr (goes_on bound) && are_stms 399 (one_round tries)) true
    (both-true (is_whole_expr (goes_on bound)) (are_stms 399 (one_round tries)) (condition-spelled bound le) (round-spelled tries h)) refl

pub frame-spelled : (latches : Stms) (body : ℕ → Stms) (first second : List ℕ) (U C : ℕ) (outputs : Stms) → U ≤ greatest → C ≤ greatest → are_stms 400 latches ≡ true
    → ((e : ℕ) → are_stms 399 (body e) ≡ true) → are_stms 400 outputs ≡ true → are_stms 400 (frame latches body first second U C outputs) ≡ true
frame-spelled latches body first second U C outputs u c l b o =
    append-spelled 400 latches (append (loop_of U (tries_of body first)) (append (loop_of C (tries_of body second)) outputs)) l
    (append-spelled 400 (loop_of U (tries_of body first)) (append (loop_of C (tries_of body second)) outputs) (loop-spelled U (tries_of body first) u (tries-spelled 399 body first b))
    (append-spelled 400 (loop_of C (tries_of body second)) outputs (loop-spelled C (tries_of body second) c (tries-spelled 399 body second b)) o))

pub copies-spelled : (to from : Letter) (d k : ℕ) (xs : List VariableFace) → are_stms d (stms_of (map (shown_by to from) (enumerate_from k xs))) ≡ true
copies-spelled to from d k [] = refl
copies-spelled to from d k (x ∷ xs) =
    both-true (is_name (name_for to k x.path) && is_name (name_for from k x.path)) (are_stms d (stms_of (map (shown_by to from) (enumerate_from (k + 1) xs))))
    (both-true (is_name (name_for to k x.path)) (is_name (name_for from k x.path)) (name-spelled to k x.path) (name-spelled from k x.path)) (copies-spelled to from d (k + 1) xs)

-- ---- declarations

-- the bounds of the type and the first value have literals
pub record FaceSpelled (x : VariableFace) : Type 0 where
  pub type : is_type_spelled x.ty ≡ true
  pub first : is_first_spelled (Some (literal_of x.ty x.first)) ≡ true

faces-spelled : (l : Letter) (c : StClass) (k : ℕ) (xs : List VariableFace) (rest : List StVar) → AllByRecursion FaceSpelled xs → are_declarations rest ≡ true → are_declarations (map (declaration l c) (enumerate_from k xs) ++ rest) ≡ true
faces-spelled l c k [] rest h g = g
faces-spelled l c k (x ∷ xs) rest h g =
    both-true (is_declaration (declaration l c (k, x))) (are_declarations (map (declaration l c) (enumerate_from (k + 1) xs) ++ rest))
    (both-true (is_name (name_for l k x.path)) (is_type_spelled x.ty && (is_first_spelled (Some (literal_of x.ty x.first)) && true)) (name-spelled l k x.path)
    (both-true (is_type_spelled x.ty) (is_first_spelled (Some (literal_of x.ty x.first)) && true) h.0.type (both-true (is_first_spelled (Some (literal_of x.ty x.first))) true h.0.first refl)))
    (faces-spelled l c (k + 1) xs rest h.1 g)

pub blocks-spelled : (bs : List Block) → AllByRecursion (λ (b : Block). AllByRecursion FaceSpelled b.faces) bs → are_declarations (variables_of bs) ≡ true
blocks-spelled [] h = refl
blocks-spelled (b ∷ bs) h = faces-spelled b.letter b.class 0 b.faces (variables_of bs) h.0 (blocks-spelled bs h.1)

pub place-face-spelled : (a : NetAuto) → a.first < length a.locs → length a.locs ≤ greatest → FaceSpelled (place_face (auto_face a))
place-face-spelled a inside few =
    let top : nat_le (length a.locs - 1) greatest ≡ true = le-leb (length a.locs - 1) greatest (omega (arith, few)) in
    let first : nat_le a.first greatest ≡ true = le-leb a.first greatest (omega (arith, inside, few)) in
    record { type = both-true true (nat_le (length a.locs - 1) greatest) refl top; first = first }
