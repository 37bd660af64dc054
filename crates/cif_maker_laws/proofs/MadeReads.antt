-- The text of a made source reads as its tree.
use Rattle.std.proofs.Common.{◌≡◌, ℕ, zero, suc, ◌+◌, ◌*◌, ◌%◌, ◌≤◌, ◌<◌, ◌^◌, Bool, true, false, ◌&&◌, List, [], ◌∷◌, ◌++◌, length, drop, refl, sym, ap, subst, ◌∙◌, arith, codes}
use Rattle.std.specs.Prelude.{map, decimal, if◌then◌else◌, flat_map}
use Rattle.std.specs.List.{range_with_len}
use Rattle.std.proofs.lemmas.List.{length-append, append_assoc, map-append}
use Rattle.grammar.specs.Pieces.{Text}
use Rattle.grammar.specs.Lang.{Lang, many, flat}
use Rattle.grammar.proofs.Texts.{and_left, and_right}
use Rattle.grammar.proofs.Decimals.{decimal-value}
use Rattle.cif_lex.specs.Tokens.{number_of, Tokens}
use Rattle.cif_ast.specs.declared.components.Item.{Item}
use Rattle.cif_ast.specs.declared.components.Spec.{Spec}
use Rattle.cif_parse.specs.Grammar.{item, specification, Reads}
use Rattle.cif_maker.specs.Draws.{draw, has_need, most_of, next_of, numbers_below}
use Rattle.cif_maker.specs.MadeText.{concatenated, numbered, place, plant_pieces, need_pieces, plant_text, need_text, block_text, blocks_text, made_text}
use Rattle.cif_maker.proofs.Counting.{next_number}
use Rattle.cif_maker_laws.specs.Written.{Written, AreWritten, text_of, tokens_of, ends_before, are_apart}
use Rattle.cif_maker_laws.specs.MadeTree.{block_place, need_place}
use Rattle.cif_maker_laws.specs.MadeSpec.{plant_spec, need_spec, block_spec, made_spec}
use Rattle.cif_maker_laws.proofs.Pieces.{written_tokens}
use Rattle.cif_maker_laws.proofs.MadePieces.{plant_chunks, need_chunks, plant_bytes, need_bytes, written-append, plant_is_written, plant_is_apart, need_written, need_apart}
use Rattle.cif_maker_laws.proofs.Places.{text-append, text_flat, tokens-append, placed, all_placed, stands, named_there}
use Rattle.cif_maker_laws.proofs.Deriving.{need_is}
use Rattle.cif_maker_laws.proofs.Blocks.{single, plant_derived}

-- ---- the number of a variable

drawn_small : (x : ℕ) → (0 < 1 + x % 9) × (1 + x % 9 < 10)
drawn_small x = (omega arith, omega arith)

most_small : (seed i : ℕ) → (0 < most_of seed i) × (most_of seed i < 10)
most_small seed i = drawn_small (draw seed (2 * i))

small_value : (n : ℕ) → n < 10 → number_of (decimal n) ≡ n
unfolding number_of
small_value n l = let big : 10 < 10 ^ 64 = omega arith in decimal-value n (omega arith)

-- ---- the pieces of a line, and of two

abbrev plant_of : (seed i : ℕ) → List Written
plant_of seed i = flat (plant_chunks i (decimal (most_of seed i)))

abbrev need_where : (b : Bool) (i j : ℕ) → List Written
need_where b i j = if b then flat (need_chunks i j) else []

abbrev block_written : (seed size i : ℕ) → List Written
block_written seed size i = plant_of seed i ++ need_where (has_need seed size i) i (next_of size i)

plant_text_is : (seed i : ℕ) → text_of (plant_of seed i) ≡ plant_text seed i
plant_text_is seed i = text_flat (plant_chunks i (decimal (most_of seed i))) ∙ ap concatenated (plant_bytes i (most_of seed i))

need_text_is : (b : Bool) (i j : ℕ) → text_of (need_where b i j) ≡ (if b then concatenated (need_pieces i j) else [])
need_text_is true i j = text_flat (need_chunks i j) ∙ ap concatenated (need_bytes i j)
need_text_is false i j = refl

block_text_is : (seed size i : ℕ) → text_of (block_written seed size i) ≡ block_text seed size i
block_text_is seed size i =
    text-append (plant_of seed i) (need_where (has_need seed size i) i (next_of size i))
    ∙ ap (λ t. t ++ text_of (need_where (has_need seed size i) i (next_of size i))) (plant_text_is seed i)
    ∙ ap (λ t. plant_text seed i ++ t) (need_text_is (has_need seed size i) i (next_of size i))

need_where_written : (b : Bool) (i j : ℕ) → AreWritten (need_where b i j)
need_where_written true i j = need_written i j
need_where_written false i j = tt

need_where_apart : (b : Bool) (i j : ℕ) (rest : Text) → are_apart (need_where b i j) rest ≡ true
need_where_apart true i j rest = need_apart i j rest
need_where_apart false i j rest = refl

and_both : (a b : Bool) → a ≡ true → b ≡ true → (a && b) ≡ true
and_both a b e g = rw (e, g) refl

apart-append : (xs ys : List Written) (rest : Text) → are_apart xs (text_of ys ++ rest) ≡ true → are_apart ys rest ≡ true → are_apart (xs ++ ys) rest ≡ true
apart-append [] ys rest e g = g
apart-append (x ∷ xs) ys rest e g =
    let whole : text_of (xs ++ ys) ++ rest ≡ text_of xs ++ (text_of ys ++ rest) = ap (λ t. t ++ rest) (text-append xs ys) ∙ append_assoc (text_of xs) (text_of ys) rest in
    let first = and_left (ends_before x.form (text_of xs ++ (text_of ys ++ rest))) (are_apart xs (text_of ys ++ rest)) e in
    let others = and_right (ends_before x.form (text_of xs ++ (text_of ys ++ rest))) (are_apart xs (text_of ys ++ rest)) e in
    and_both (ends_before x.form (text_of (xs ++ ys) ++ rest)) (are_apart (xs ++ ys) rest) (ap (ends_before x.form) whole ∙ first) (apart-append xs ys rest others g)

block_is_written : (seed size i : ℕ) → AreWritten (block_written seed size i)
block_is_written seed size i =
    let small = most_small seed i in
    written-append (plant_of seed i) (need_where (has_need seed size i) i (next_of size i)) (plant_is_written i (most_of seed i) small.0 small.1)
    (need_where_written (has_need seed size i) i (next_of size i))

block_is_apart : (seed size i : ℕ) (rest : Text) → are_apart (block_written seed size i) rest ≡ true
block_is_apart seed size i rest =
    let small = most_small seed i in
    let need = need_where (has_need seed size i) i (next_of size i) in
    apart-append (plant_of seed i) need rest (plant_is_apart i (most_of seed i) (text_of need ++ rest) small.0 small.1) (need_where_apart (has_need seed size i) i (next_of size i) rest)

all_written : (seed size : ℕ) (ns : List ℕ) → AreWritten (flat_map (block_written seed size) ns)
all_written seed size [] = tt
all_written seed size (n ∷ ns) = written-append (block_written seed size n) (flat_map (block_written seed size) ns) (block_is_written seed size n) (all_written seed size ns)

all_apart : (seed size : ℕ) (ns : List ℕ) (rest : Text) → are_apart (flat_map (block_written seed size) ns) rest ≡ true
all_apart seed size [] rest = refl
all_apart seed size (n ∷ ns) rest =
    let more = flat_map (block_written seed size) ns in
    apart-append (block_written seed size n) more rest (block_is_apart seed size n (text_of more ++ rest)) (all_apart seed size ns rest)

all_text : (seed size : ℕ) (ns : List ℕ) → text_of (flat_map (block_written seed size) ns) ≡ flat_map (block_text seed size) ns
all_text seed size [] = refl
all_text seed size (n ∷ ns) =
    text-append (block_written seed size n) (flat_map (block_written seed size) ns)
    ∙ ap (λ t. t ++ text_of (flat_map (block_written seed size) ns)) (block_text_is seed size n)
    ∙ ap (λ t. block_text seed size n ++ t) (all_text seed size ns)

-- ---- what they derive

many-append : {T A : Type 0} (p : Lang T A) (as' bs : List A) (x y : List T) → many p as' x → many p bs y → many p (as' ++ bs) (x ++ y)
many-append p [] bs x y d e = subst (λ u. many p bs (u ++ y)) (sym d) e
many-append p (a ∷ as') bs x y d e = (d.0, d.1 ++ y, d.2, many-append p as' bs d.1 y d.3 e, ap (λ u. u ++ y) d.4 ∙ append_assoc d.0 d.1 y)

-- items of lists one after the other, and their tokens
joined : (text : Text) (as' bs : List Item) (at next : ℕ) (xs ys : List Written) → at + length (text_of xs) ≡ next
    → many (item text 101) (map single as') (tokens_of at xs) → many (item text 101) (map single bs) (tokens_of next ys) → many (item text 101) (map single (as' ++ bs)) (tokens_of at (xs ++ ys))
joined text as' bs at next xs ys e d g =
    let tokens : tokens_of at (xs ++ ys) ≡ tokens_of at xs ++ tokens_of next ys = tokens-append at xs ys ∙ ap (λ n. tokens_of at xs ++ tokens_of n ys) e in
    subst (λ ts. many (item text 101) (map single (as' ++ bs)) ts) (sym tokens)
    (subst (λ is. many (item text 101) is (tokens_of at xs ++ tokens_of next ys)) (sym (map-append single as' bs))
    (many-append (item text 101) (map single as') (map single bs) (tokens_of at xs) (tokens_of next ys) d g))

module _ (text after : Text) (at : ℕ → ℕ) (i j : ℕ) (there : (k : ℕ) → drop (at k) text ≡ concatenated (drop k (need_pieces i j)) ++ after) where
  need_item_is : item text 101 (single (need_spec i j at)) (placed at 0 (need_chunks i j))
  need_item_is =
      need_is text _ _ _ _ _ _ _ (numbered (codes "c") i) (numbered (codes "A") j) (codes "idle")
      (named_there text after at (need_pieces i j) there 1 (numbered (codes "c") i) (drop 2 (need_pieces i j)) refl refl)
      (named_there text after at (need_pieces i j) there 3 (numbered (codes "A") j) (drop 4 (need_pieces i j)) refl refl)
      (named_there text after at (need_pieces i j) there 5 (codes "idle") (drop 6 (need_pieces i j)) refl refl)

  need_derived : many (item text 101) (map single (need_spec i j at ∷ [])) (placed at 0 (need_chunks i j))
  need_derived = (placed at 0 (need_chunks i j), [], need_item_is, refl, refl)

need_where_derived : (b : Bool) (text before after : Text) (from i j : ℕ) → length before ≡ from → text ≡ before ++ ((if b then concatenated (need_pieces i j) else []) ++ after)
    → many (item text 101) (map single (if b then need_spec i j (place from (need_pieces i j)) ∷ [] else [])) (tokens_of from (need_where b i j))
need_where_derived true text before after from i j e g =
    let ps = need_pieces i j in
    subst (λ ts. many (item text 101) (map single (need_spec i j (place from ps) ∷ [])) ts) (sym (all_placed from (need_chunks i j) ps (need_bytes i j)))
    (need_derived text after (place from ps) i j
    (λ k. ap (λ n. drop (place n ps k) text) (sym e) ∙ ap (λ t. drop (place (length before) ps k) t) g ∙ stands before after ps k))
need_where_derived false text before after from i j e g = refl

block_derived : (text after : Text) (seed size i : ℕ) → text ≡ blocks_text seed size i ++ (block_text seed size i ++ after)
    → many (item text 101) (map single (block_spec seed size i)) (tokens_of (block_place seed size i) (block_written seed size i))
block_derived text after seed size i e =
    let most = most_of seed i in
    let small = most_small seed i in
    let few : most ≤ 2147483647 = let less = small.1 in omega arith in
    let before = blocks_text seed size i in
    let from = block_place seed size i in
    let ps = plant_pieces i most in
    let at : ℕ → ℕ = place from ps in
    let j = next_of size i in
    let b = has_need seed size i in
    let need = need_text seed size i in
    let lines : text ≡ before ++ (plant_text seed i ++ (need ++ after)) = e ∙ ap (λ t. before ++ t) (append_assoc (plant_text seed i) need after) in
    let there : (k : ℕ) → drop (at k) text ≡ concatenated (drop k ps) ++ (need ++ after) = λ k. ap (λ t. drop (at k) t) lines ∙ stands before (need ++ after) ps k in
    let plant : many (item text 101) (map single (plant_spec i most at)) (tokens_of from (plant_of seed i)) =
    subst (λ ts. many (item text 101) (map single (plant_spec i most at)) ts) (sym (all_placed from (plant_chunks i (decimal most)) ps (plant_bytes i most)))
    (plant_derived text (need ++ after) at i most (small_value most small.1) few there) in
    joined text (plant_spec i most at) (if b then need_spec i j (place (need_place seed size i) (need_pieces i j)) ∷ [] else []) from (need_place seed size i) (plant_of seed i) (need_where b i j)
    (ap (λ t. from + length t) (plant_text_is seed i)) plant
    (need_where_derived b text (before ++ plant_text seed i) after (need_place seed size i) i j (length-append before (plant_text seed i))
    (lines ∙ sym (append_assoc before (plant_text seed i) (need ++ after))))

next_place : (seed size a : ℕ) → block_place seed size a + length (text_of (block_written seed size a)) ≡ block_place seed size (a + 1)
next_place seed size a =
    ap (λ t. block_place seed size a + length t) (block_text_is seed size a) ∙ sym (length-append (blocks_text seed size a) (block_text seed size a))
    ∙ ap (λ (t : Text). length t) (sym (next_number (block_text seed size) a))

blocks_derived : (text : Text) (seed size a n : ℕ) → text ≡ blocks_text seed size a ++ flat_map (block_text seed size) (range_with_len a n)
    → many (item text 101) (map single (flat_map (block_spec seed size) (range_with_len a n))) (tokens_of (block_place seed size a) (flat_map (block_written seed size) (range_with_len a n)))
blocks_derived text seed size a zero e = refl
blocks_derived text seed size a (suc n) e =
    let after = flat_map (block_text seed size) (range_with_len (a + 1) n) in
    let next : text ≡ blocks_text seed size (a + 1) ++ after =
    e ∙ sym (append_assoc (blocks_text seed size a) (block_text seed size a) after) ∙ ap (λ t. t ++ after) (sym (next_number (block_text seed size) a)) in
    joined text (block_spec seed size a) (flat_map (block_spec seed size) (range_with_len (a + 1) n)) (block_place seed size a) (block_place seed size (a + 1)) (block_written seed size a)
    (flat_map (block_written seed size) (range_with_len (a + 1) n)) (next_place seed size a) (block_derived text after seed size a e) (blocks_derived text seed size (a + 1) n next)

singles_flat : (xs : List Item) → flat (map single xs) ≡ xs
singles_flat [] = refl
singles_flat (x ∷ xs) = ap (λ ys. x ∷ ys) (singles_flat xs)

made_text_tokens : (seed size : ℕ) → Tokens (made_text seed size) (tokens_of 0 (flat_map (block_written seed size) (numbers_below size)))
made_text_tokens seed size =
    let ns = numbers_below size in
    subst (λ t. Tokens t (tokens_of 0 (flat_map (block_written seed size) ns))) (all_text seed size ns)
    (written_tokens (flat_map (block_written seed size) ns) (all_written seed size ns) (all_apart seed size ns []))

made_text_derives : (seed size : ℕ) → specification (made_text seed size) (made_spec seed size) (tokens_of 0 (flat_map (block_written seed size) (numbers_below size)))
unfolding specification
made_text_derives seed size = (
  map single (flat_map (block_spec seed size) (numbers_below size)),
  blocks_derived (made_text seed size) seed size 0 size refl,
  ap (λ is. let s : Spec = record { items = is } in s) (sym (singles_flat (flat_map (block_spec seed size) (numbers_below size)))),
)

pub made_text_reads : (seed size : ℕ) → Reads (made_text seed size) (made_spec seed size)
made_text_reads seed size =
    record { tokens = tokens_of 0 (flat_map (block_written seed size) (numbers_below size)); are_tokens = made_text_tokens seed size; derived = made_text_derives seed size }
