-- One more draw, plant or row.
use Rattle.std.proofs.Common.{◌≡◌, ℕ, zero, suc, ◌+◌, ◌*◌, List, [], ◌++◌, refl, sym, ap, ◌∙◌, arith, codes, add-one}
use Rattle.std.specs.Prelude.{◌&&◌, nat_eq, nat_lt, if◌then◌else◌, flat_map, decimal, ◌%◌, ◌/◌}
use Rattle.std.specs.List.{range_with_len}
use Rattle.std.proofs.lemmas.List.{append_assoc, append-nil}
use Rattle.std.proofs.lemmas.Grind.{flat_map-append}
use Rattle.grammar.specs.Pieces.{Text}
use Rattle.cif_maker.specs.Draws.{stepped, after_draws, draw, next_of, numbers_below, made_rows_number}
use Rattle.cif_maker.specs.MadeText.{concatenated, plant_pieces, need_pieces, truth_text, cell_text, row_text, plant_text, need_text, block_text, blocks_text, input_name, made_rows_text}

-- draws after draws
pub drawn_on : (j k seed : ℕ) → after_draws k (after_draws j seed) ≡ after_draws (j + k) seed
drawn_on j zero seed = let e : j ≡ j + 0 = omega arith in ap (λ n. after_draws n seed) e
drawn_on j (suc k) seed = let e : suc (j + k) ≡ j + suc k = omega arith in ap stepped (drawn_on j k seed) ∙ ap (λ n. after_draws n seed) e

range_next : {A : Type 0} (f : ℕ → List A) (a n : ℕ) → flat_map f (range_with_len a (suc n)) ≡ flat_map f (range_with_len a n) ++ f (a + n)
range_next f a zero = let e : a ≡ a + 0 = omega arith in append-nil (f a) ∙ ap f e
range_next f a (suc n) =
    let e : (a + 1) + n ≡ a + suc n = omega arith in
    ap (λ x. f a ++ x) (range_next f (a + 1) n ∙ ap (λ k. flat_map f (range_with_len (a + 1) n) ++ f k) e)
    ∙ sym (append_assoc (f a) (flat_map f (range_with_len (a + 1) n)) (f (a + suc n)))

-- a list for each number below one more
pub next_number : {A : Type 0} (f : ℕ → List A) (n : ℕ) → flat_map f (numbers_below (n + 1)) ≡ flat_map f (numbers_below n) ++ f n
next_number f n =
    let e : 0 + n ≡ n = omega arith in
    ap (λ k. flat_map f (range_with_len 0 k)) (add-one n) ∙ range_next f 0 n ∙ ap (λ k. flat_map f (range_with_len 0 n) ++ f k) e

pub one_more : (f : ℕ → Text) (n : ℕ) (head before after : Text) → before ≡ head ++ flat_map f (numbers_below n) → after ≡ before ++ f n
    → after ≡ head ++ flat_map f (numbers_below (n + 1))
one_more f n head before after e g =
    g ∙ ap (λ x. x ++ f n) e ∙ append_assoc head (flat_map f (numbers_below n)) (f n) ∙ ap (λ x. head ++ x) (sym (next_number f n))

range_same : {A : Type 0} (f g : ℕ → List A) (a n : ℕ) → ((i : ℕ) → f i ≡ g i) → flat_map f (range_with_len a n) ≡ flat_map g (range_with_len a n)
range_same f g a zero h = refl
range_same f g a (suc n) h = ap (λ x. x ++ flat_map f (range_with_len (a + 1) n)) (h a) ∙ ap (λ x. g a ++ x) (range_same f g (a + 1) n h)

-- a text that grew by three lists of pieces
pub three_parts : (t u v w : Text) (p q r : List Text) → u ≡ t ++ concatenated p → v ≡ u ++ concatenated q → w ≡ v ++ concatenated r → w ≡ t ++ concatenated (p ++ (q ++ r))
three_parts t u v w p q r e f g =
    g ∙ ap (λ x. x ++ concatenated r) (f ∙ ap (λ x. x ++ concatenated q) e)
    ∙ ap (λ x. x ++ concatenated r) (append_assoc t (concatenated p) (concatenated q))
    ∙ append_assoc t (concatenated p ++ concatenated q) (concatenated r)
    ∙ ap (λ x. t ++ x) (append_assoc (concatenated p) (concatenated q) (concatenated r)
    ∙ ap (λ x. concatenated p ++ x) (sym (flat_map-append (λ (t : Text). t) q r))
    ∙ sym (flat_map-append (λ (t : Text). t) p (q ++ r)))

-- one more block, from the two numbers drawn for it
module _ (seed size n d e a b : ℕ) (before middle after : Text)
    (start : d ≡ after_draws (2 * n) seed) (first : a ≡ stepped d / 65536) (second : b ≡ stepped (stepped d) / 65536) where
  once : stepped d ≡ after_draws (suc (2 * n)) seed
  once = ap stepped start

  twice : stepped (stepped d) ≡ after_draws (suc (2 * n + 1)) seed
  twice = ap stepped (once ∙ ap (λ k. after_draws k seed) (sym (add-one (2 * n))))

  pub next_state : e ≡ stepped (stepped d) → e ≡ after_draws (2 * (n + 1)) seed
  next_state h = let k : suc (2 * n + 1) ≡ 2 * (n + 1) = omega arith in h ∙ twice ∙ ap (λ k. after_draws k seed) k

  pub next_block : before ≡ blocks_text seed size n → middle ≡ before ++ concatenated (plant_pieces n (1 + a % 9))
      → after ≡ middle ++ (if nat_eq (b % 2) 1 && nat_lt 1 size then concatenated (need_pieces n (next_of size n)) else [])
      → after ≡ blocks_text seed size (n + 1)
  next_block f g h =
      h ∙ ap (λ x. middle ++ (if nat_eq (x % 2) 1 && nat_lt 1 size then concatenated (need_pieces n (next_of size n)) else [])) (second ∙ ap (λ x. x / 65536) twice)
      ∙ ap (λ x. x ++ need_text seed size n) (g ∙ ap (λ x. x ++ plant_of a) f ∙ ap (λ x. blocks_text seed size n ++ plant_of x) (first ∙ ap (λ x. x / 65536) once))
      ∙ append_assoc (blocks_text seed size n) (plant_text seed n) (need_text seed size n)
      ∙ sym (next_number (block_text seed size) n)
    where
      plant_of : ℕ → Text
      plant_of x = concatenated (plant_pieces n (1 + x % 9))

-- one more row
cell_drawn : (seed size r i : ℕ) → truth_text (draw (after_draws (2 * size + r * size) seed) i % 2) ≡ cell_text seed size r i
cell_drawn seed size r i =
    ap (λ x. truth_text (x / 65536 % 2)) (drawn_on (2 * size + r * size) (suc i) seed ∙ ap (λ k. after_draws k seed) (sum (2 * size) (r * size)))
  where
    sum : (a b : ℕ) → (a + b) + suc i ≡ suc (a + (b + i))
    sum a b = omega arith

pub next_after : (start i d e : ℕ) → d ≡ after_draws i start → e ≡ stepped d → e ≡ after_draws (i + 1) start
next_after start i d e f g = g ∙ ap stepped f ∙ ap (λ k. after_draws k start) (sym (add-one i))

pub cell_written : (start i d drawn : ℕ) (cell : Text) → d ≡ after_draws i start → drawn ≡ stepped d / 65536 → cell ≡ truth_text (drawn % 2) → cell ≡ truth_text (draw start i % 2)
cell_written start i d drawn cell e f g = g ∙ ap (λ x. truth_text (x % 2)) (f ∙ ap (λ x. stepped x / 65536) e)

pub line_ended : (before number cells after : Text) → after ≡ ((before ++ number) ++ cells) ++ codes "\n" → after ≡ before ++ (number ++ cells ++ codes "\n")
line_ended before number cells after e = e ∙ ap (λ x. x ++ codes "\n") (append_assoc before number cells) ∙ append_assoc before (number ++ cells) (codes "\n")

pub next_row_state : (seed size r d e : ℕ) → d ≡ after_draws (2 * size + r * size) seed → e ≡ after_draws size d → e ≡ after_draws (2 * size + (r + 1) * size) seed
next_row_state seed size r d e start h =
    let k : (2 * size + r * size) + size ≡ 2 * size + (r + 1) * size = omega arith in
    h ∙ ap (λ x. after_draws size x) start ∙ drawn_on (2 * size + r * size) size seed ∙ ap (λ k. after_draws k seed) k

pub next_row : (seed size r d : ℕ) (head before after : Text) → d ≡ after_draws (2 * size + r * size) seed
    → before ≡ head ++ flat_map (row_text seed size) (numbers_below r)
    → after ≡ before ++ (decimal (r + 1) ++ flat_map (λ i. truth_text (draw d i % 2)) (numbers_below size) ++ codes "\n")
    → after ≡ head ++ flat_map (row_text seed size) (numbers_below (r + 1))
next_row seed size r d head before after start f g =
    one_more (row_text seed size) r head before after f (g ∙ ap (λ x. before ++ (decimal (r + 1) ++ flat_map (λ i. truth_text (draw x i % 2)) (numbers_below size) ++ codes "\n")) start
    ∙ ap (λ x. before ++ (decimal (r + 1) ++ x ++ codes "\n")) (range_same (λ i. truth_text (draw (after_draws (2 * size + r * size) seed) i % 2)) (cell_text seed size r) 0 size (cell_drawn seed size r))
    ∙ ap (λ k. before ++ (decimal k ++ flat_map (cell_text seed size r) (numbers_below size) ++ codes "\n")) (add-one r))

hundred : 100 ≡ made_rows_number
unfolding made_rows_number
hundred = refl

pub all_rows : (seed size r : ℕ) (text : Text) → r ≡ 100
    → text ≡ (codes "scan" ++ flat_map input_name (numbers_below size) ++ codes "\n") ++ flat_map (row_text seed size) (numbers_below r)
    → text ≡ made_rows_text seed size
all_rows seed size r text e f = f ∙ ap (λ k. (codes "scan" ++ flat_map input_name (numbers_below size) ++ codes "\n") ++ flat_map (row_text seed size) (numbers_below k)) (e ∙ hundred)
