-- The numbers that are drawn from a seed, and what they decide of a made source and of its rows.
use Rattle.std.specs.Prelude.{ℕ, zero, suc, ◌+◌, ◌*◌, ◌/◌, ◌%◌, nat_eq, nat_lt, ℤ, pos, Bool, ◌&&◌, List, map}
use Rattle.std.specs.List.{range_with_len}

-- the state of the generator after one step
abbrev pub stepped : ℕ → ℕ
stepped s = (s * 1103515245 + 12345) % 2147483648

-- after k steps from the seed
abbrev pub after_draws : (k seed : ℕ) → ℕ
after_draws zero seed = seed
after_draws (suc k) seed = stepped (after_draws k seed)

-- the draw k, counted from 0
abbrev pub draw : (seed k : ℕ) → ℕ
draw seed k = after_draws (suc k) seed / 65536

-- the upper limit of the variable of plant i
abbrev pub most_of : (seed i : ℕ) → ℕ
most_of seed i = 1 + draw seed (2 * i) % 9

-- the plant after plant i, the first after the last
abbrev pub next_of : (size i : ℕ) → ℕ
next_of size i = (i + 1) % size

-- whether plant i needs the next one
abbrev pub has_need : (seed size i : ℕ) → Bool
has_need seed size i = nat_eq (draw seed (2 * i + 1) % 2) 1 && nat_lt 1 size

abbrev pub numbers_below : ℕ → List ℕ
numbers_below n = range_with_len 0 n

-- the number of rows of a made source
unfoldable pub made_rows_number : ℕ
made_rows_number = 100

-- the value of input i in row r, counted from 0
abbrev pub made_cell : (seed size r i : ℕ) → ℕ
made_cell seed size r i = draw seed (2 * size + (r * size + i)) % 2

abbrev pub made_row : (seed size r : ℕ) → List ℤ
made_row seed size r = map (λ i. pos (made_cell seed size r i)) (numbers_below size)

abbrev pub made_rows : (seed size : ℕ) → List (List ℤ)
made_rows seed size = map (made_row seed size) (numbers_below made_rows_number)
