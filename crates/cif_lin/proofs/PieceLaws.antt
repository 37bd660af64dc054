-- A product in which automata that take no part are left out.
use Rattle.std.proofs.Common.{◌≡◌, ℕ, ◌+◌, Bool, true, false, List, [], ◌∷◌, ◌++◌, map, filter, flat_map, filter_map, zip, Option, Some, None, refl, sym, ◌∙◌, ap, if◌then◌else◌}
use Rattle.std.specs.List.{cons_option, enumerate_from, AllByRecursion}
use Rattle.cif_system.specs.Step.{Choice}
use Rattle.cif_system.specs.Choices.{product_of}
use Rattle.cif_net_expr.specs.Tree.{NetExpr}
use Rattle.cif_net_model.specs.Net.{NetEdge, NetAuto, Net}
use Rattle.cif_net_model.specs.Listing.{NetMove, NetChoice, move_if, edge_at, edges_taken, move_test, choice_test, linear_choice}
use Rattle.cif_lin.specs.Pieces.{Piece, no_piece, beside, joined, choice_of}

-- ---- lists

pub map-map : {A B C : Type 0} (f : B → C) (g : A → B) (xs : List A) → map f (map g xs) ≡ map (λ x. f (g x)) xs
map-map f g [] = refl
map-map f g (x ∷ xs) = ap (λ ys. f (g x) ∷ ys) (map-map f g xs)

pub map-same : {A B : Type 0} (f g : A → B) → ((x : A) → f x ≡ g x) → (xs : List A) → map f xs ≡ map g xs
map-same f g h [] = refl
map-same f g h (x ∷ xs) = ap (λ y. y ∷ map f xs) (h x) ∙ ap (λ ys. g x ∷ ys) (map-same f g h xs)

pub map-append : {A B : Type 0} (f : A → B) (xs ys : List A) → map f (xs ++ ys) ≡ map f xs ++ map f ys
map-append f [] ys = refl
map-append f (x ∷ xs) ys = ap (λ zs. f x ∷ zs) (map-append f xs ys)

pub append-nil : {A : Type 0} (xs : List A) → xs ++ [] ≡ xs
append-nil [] = refl
append-nil (x ∷ xs) = ap (λ ys. x ∷ ys) (append-nil xs)

pub map-spread : {A B C : Type 0} (f : B → C) (g : A → List B) (xs : List A) → map f (flat_map g xs) ≡ flat_map (λ x. map f (g x)) xs
map-spread f g [] = refl
map-spread f g (x ∷ xs) = map-append f (g x) (flat_map g xs) ∙ ap (λ ys. map f (g x) ++ ys) (map-spread f g xs)

pub spread-map : {A B C : Type 0} (f : B → List C) (g : A → B) (xs : List A) → flat_map f (map g xs) ≡ flat_map (λ x. f (g x)) xs
spread-map f g [] = refl
spread-map f g (x ∷ xs) = ap (λ ys. f (g x) ++ ys) (spread-map f g xs)

pub spread-same : {A B : Type 0} (f g : A → List B) → ((x : A) → f x ≡ g x) → (xs : List A) → flat_map f xs ≡ flat_map g xs
spread-same f g h [] = refl
spread-same f g h (x ∷ xs) = ap (λ ys. ys ++ flat_map f xs) (h x) ∙ ap (λ ys. g x ++ ys) (spread-same f g h xs)

-- ---- a product of pieces

-- one option of each key, and what it adds
pub product-made : {K O : Type 0} (f : K → List O) (g : K × O → Piece) (ks : List K)
    → map (λ ch. map g (zip ks ch)) (product_of (map f ks)) ≡ product_of (map (λ k. map (λ o. g (k, o)) (f k)) ks)
product-made f g [] = refl
product-made {O = O} f g (k ∷ ks) =
    let rest : List (List O) = product_of (map f ks) in
    let h : List O → List Piece = λ ch. map g (zip ks ch) in
    map-spread (λ ch. map g (zip (k ∷ ks) ch)) (λ x. map (λ ys. x ∷ ys) rest) (f k)
    ∙ spread-same (λ x. map (λ ch. map g (zip (k ∷ ks) ch)) (map (λ ys. x ∷ ys) rest)) (λ x. map (λ ps. g (k, x) ∷ ps) (product_of (map (λ k. map (λ o. g (k, o)) (f k)) ks)))
    (λ x. map-map (λ ch. map g (zip (k ∷ ks) ch)) (λ ys. x ∷ ys) rest ∙ sym (map-map (λ ps. g (k, x) ∷ ps) h rest) ∙ ap (map (λ ps. g (k, x) ∷ ps)) (product-made f g ks))
    (f k)
    ∙ sym (spread-map (λ p. map (λ ps. p ∷ ps) (product_of (map (λ k. map (λ o. g (k, o)) (f k)) ks))) (λ o. g (k, o)) (f k))

-- what a product's lists are together
abbrev pub sums : List (List Piece) → List Piece
sums pss = map joined (product_of pss)

sums-cons : (ps : List Piece) (pss : List (List Piece)) → sums (ps ∷ pss) ≡ flat_map (λ p. map (beside p) (sums pss)) ps
sums-cons ps pss =
    map-spread joined (λ x. map (λ ys. x ∷ ys) (product_of pss)) ps
    ∙ spread-same (λ x. map joined (map (λ ys. x ∷ ys) (product_of pss))) (λ p. map (beside p) (sums pss))
    (λ x. map-map joined (λ ys. x ∷ ys) (product_of pss) ∙ sym (map-map (beside x) joined (product_of pss))) ps

map-id : (f : Piece → Piece) → ((p : Piece) → f p ≡ p) → (ps : List Piece) → map f ps ≡ ps
map-id f h [] = refl
map-id f h (p ∷ ps) = ap (λ x. x ∷ map f ps) (h p) ∙ ap (λ xs. p ∷ xs) (map-id f h ps)

-- keys that add nothing are left out
pub sums-of_parties : {K : Type 0} (g : K → List Piece) (p : K → Bool) (ks : List K) → AllByRecursion (λ k. p k ≡ false → g k ≡ no_piece ∷ []) ks
    → sums (map g ks) ≡ sums (map g (filter p ks))
sums-of_parties g p [] h = refl
sums-of_parties g p (k ∷ ks) h = by (p k) refl (sums-of_parties g p ks h.1)
  where
    by : (b : Bool) → p k ≡ b → sums (map g ks) ≡ sums (map g (filter p ks)) → sums (map g (k ∷ ks)) ≡ sums (map g (if b then k ∷ filter p ks else filter p ks))
    by true e r = sums-cons (g k) (map g ks) ∙ ap (λ s. flat_map (λ q. map (beside q) s) (g k)) r ∙ sym (sums-cons (g k) (map g (filter p ks)))
    by false e r =
        ap (λ x. sums (x ∷ map g ks)) (h.0 e) ∙ sums-cons (no_piece ∷ []) (map g ks) ∙ append-nil (map (beside no_piece) (sums (map g ks)))
        ∙ map-id (beside no_piece) (λ q. refl) (sums (map g ks)) ∙ r

-- ---- a choice from its pieces

abbrev pub list_if : {A : Type 0} → Option A → List A
list_if None = []
list_if (Some x) = x ∷ []

-- what an automaton adds
abbrev pub piece : ℕ → (ℕ × NetAuto) × Option ℕ → Piece
piece e m = record { moves = list_if (move_if e m); tests = move_test e m; edges = list_if (edge_at (m.0.1, m.1)) }

if-cons : {A : Type 0} (o : Option A) (xs : List A) → cons_option o xs ≡ list_if o ++ xs
if-cons None xs = refl
if-cons (Some x) xs = refl

-- the parts of all automata from number i on
pieces-moves : (e i : ℕ) (ds : List NetAuto) (ch : Choice) → filter_map (move_if e) (zip (enumerate_from i ds) ch) ≡ (joined (map (piece e) (zip (enumerate_from i ds) ch))).moves
pieces-moves e i [] ch = refl
pieces-moves e i (a ∷ ds) [] = refl
pieces-moves e i (a ∷ ds) (o ∷ ch) = if-cons (move_if e ((i, a), o)) (filter_map (move_if e) (zip (enumerate_from (i + 1) ds) ch)) ∙ ap (λ ms. list_if (move_if e ((i, a), o)) ++ ms) (pieces-moves e (i + 1) ds ch)

pieces-tests : (e i : ℕ) (ds : List NetAuto) (ch : Choice) → flat_map (move_test e) (zip (enumerate_from i ds) ch) ≡ (joined (map (piece e) (zip (enumerate_from i ds) ch))).tests
pieces-tests e i [] ch = refl
pieces-tests e i (a ∷ ds) [] = refl
pieces-tests e i (a ∷ ds) (o ∷ ch) = ap (λ ts. move_test e ((i, a), o) ++ ts) (pieces-tests e (i + 1) ds ch)

pieces-edges : (e i : ℕ) (ds : List NetAuto) (ch : Choice) → filter_map edge_at (zip ds ch) ≡ (joined (map (piece e) (zip (enumerate_from i ds) ch))).edges
pieces-edges e i [] ch = refl
pieces-edges e i (a ∷ ds) [] = refl
pieces-edges e i (a ∷ ds) (o ∷ ch) = if-cons (edge_at (a, o)) (filter_map edge_at (zip ds ch)) ∙ ap (λ xs. list_if (edge_at (a, o)) ++ xs) (pieces-edges e (i + 1) ds ch)

pub choice-made : (n : Net) (e : ℕ) (ch : Choice) → linear_choice n (e, ch) ≡ choice_of e (joined (map (piece e) (zip (enumerate_from 0 n.autos) ch)))
choice-made n e ch =
    let all : Piece = joined (map (piece e) (zip (enumerate_from 0 n.autos) ch)) in
    let made : List NetMove → List NetExpr → List NetEdge → NetChoice = λ ms ts xs. choice_of e (record { moves = ms; tests = ts; edges = xs }) in
    ap (λ ms. made ms (choice_test n e ch) (edges_taken n ch)) (pieces-moves e 0 n.autos ch)
    ∙ ap (λ ts. made all.moves ts (edges_taken n ch)) (pieces-tests e 0 n.autos ch)
    ∙ ap (λ xs. made all.moves all.tests xs) (pieces-edges e 0 n.autos ch)
