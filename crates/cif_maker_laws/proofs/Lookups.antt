-- What the names of a made source find.
use Rattle.std.proofs.Common.{◌≡◌, ◌≢◌, ◌==◌, ℕ, zero, suc, ◌+◌, ◌≤◌, ◌<◌, ◌^◌, Bool, true, false, List, [], ◌∷◌, ◌++◌, Some, None, refl, sym, ap, ◌∙◌, arith, codes, eqb-true, eq-eqb}
use Rattle.std.specs.Prelude.{flat_map, find, option_map, decimal}
use Rattle.std.specs.List.{range_with_len}
use Rattle.std.proofs.lemmas.Bool.Decides.{nat_tests}
use Rattle.grammar.specs.Pieces.{same}
use Rattle.grammar.specs.Bytes.{digits_from}
use Rattle.grammar.proofs.Texts.{same_is, same_self, same_equal}
use Rattle.grammar.proofs.Decimals.{decimal-value}
use Rattle.cif_ast.specs.declared.names.Ident.{Ident}
use Rattle.cif_ast.specs.declared.declarations.Class.TheVariants as class
use Rattle.cif_source.specs.Source.{event_decl, input_decl, bool_type, no_type, automaton_body}
use Rattle.cif_source.specs.Components.{whole, Entry, declared, inner, Entries, scope_of, item_entries, same_text, entry_named}
use Rattle.cif_maker.specs.Draws.{has_need, most_of}
use Rattle.cif_maker.specs.MadeText.{numbered}
use Rattle.cif_maker_laws.specs.MadeTree.{ident_at, plant_body}
use Rattle.cif_maker_laws.proofs.Bodies.{made, at_of, items_for, by_blocks}

-- ---- letters and numbers

-- the size of each number that is written
abbrev pub IsShort : ℕ → Type 0
IsShort n = n < 10 ^ 64

pub decimals_same : (i j : ℕ) → IsShort i → IsShort j → decimal i ≡ decimal j → i ≡ j
decimals_same i j h k e = sym (decimal-value i h) ∙ ap (digits_from 0) e ∙ decimal-value j k

pub same_number : (i : ℕ) → same_text (decimal i) (decimal i) ≡ true
same_number i = same_is (decimal i) (decimal i) ∙ same_self (decimal i)

pub other_number : (i j : ℕ) → IsShort i → IsShort j → i ≢ j → same_text (decimal i) (decimal j) ≡ false
other_number i j h k n = go (same (decimal i) (decimal j)) refl
  where
    go : (x : Bool) → same (decimal i) (decimal j) ≡ x → same_text (decimal i) (decimal j) ≡ false
    go true e = absurd (n (decimals_same i j h k (same_equal (decimal i) (decimal j) e)))
    go false e = same_is (decimal i) (decimal j) ∙ e

-- ---- the first that passes a test, among lists for numbers

find-left : {A : Type 0} (p : A → Bool) (xs ys : List A) (x : A) → find p xs ≡ Some x → find p (xs ++ ys) ≡ Some x
find-left p [] ys x e = absurd cc
find-left p (y ∷ xs) ys x e = go (p y) refl (find-left p xs ys x)
  where
    go : (b : Bool) → p y ≡ b → (find p xs ≡ Some x → find p (xs ++ ys) ≡ Some x) → find p (y ∷ (xs ++ ys)) ≡ Some x
    go true h more = rw h (rw h at e)
    go false h more = rw h (more (rw h at e))

find-right : {A : Type 0} (p : A → Bool) (xs ys : List A) → find p xs ≡ None → find p (xs ++ ys) ≡ find p ys
find-right p [] ys e = refl
find-right p (y ∷ xs) ys e = go (p y) refl (find-right p xs ys)
  where
    go : (b : Bool) → p y ≡ b → (find p xs ≡ None → find p (xs ++ ys) ≡ find p ys) → find p (y ∷ (xs ++ ys)) ≡ find p ys
    go true h more = absurd (let w = rw h at e in cc)
    go false h more = rw h (more (rw h at e))

pub found_in_range : {A : Type 0} (p : A → Bool) (f : ℕ → List A) (i : ℕ) (x : A) → find p (f i) ≡ Some x
    → (a n : ℕ) → ((j : ℕ) → j < a + n → i ≢ j → find p (f j) ≡ None) → a ≤ i → i < a + n → find p (flat_map f (range_with_len a n)) ≡ Some x
found_in_range p f i x e a zero h l u = absurd (omega arith)
found_in_range p f i x e a (suc n) h l u = go (i == a) refl (found_in_range p f i x e (a + 1) n)
  where
    go : (b : Bool) → (i == a) ≡ b
        → (((j : ℕ) → j < (a + 1) + n → i ≢ j → find p (f j) ≡ None) → a + 1 ≤ i → i < (a + 1) + n → find p (flat_map f (range_with_len (a + 1) n)) ≡ Some x)
        → find p (f a ++ flat_map f (range_with_len (a + 1) n)) ≡ Some x
    go true g more = let is : i ≡ a = search (eqb-true, g) in find-left p (f a) (flat_map f (range_with_len (a + 1) n)) x (ap (λ k. find p (f k)) (sym is) ∙ e)
    go false g more =
        let isnt : i ≢ a = λ w. let yes : (i == a) ≡ true = search (eq-eqb, w) in cc in
        let later : a + 1 ≤ i = grind (arith, nat_tests) in
        find-right p (f a) (flat_map f (range_with_len (a + 1) n)) (h a (omega arith) isnt) ∙ more (λ j m. h j (omega arith)) later (omega arith)

-- ---- what the specification declares

module _ (seed size : ℕ) where
  abbrev pub entries_for : Bool → ℕ → Entries
  entries_for b i = flat_map item_entries (items_for seed size b i)

  pub all_entries : scope_of (whole (made seed size)) ≡ flat_map (λ i. entries_for (has_need seed size i) i) (range_with_len 0 size)
  all_entries = by_blocks seed size item_entries

  below : (n m : ℕ) → n < m → IsShort m → IsShort n
  below n m l s = omega arith

  -- uncontrollable
  abbrev pub uncontrollable_entry : ℕ → Entry
  uncontrollable_entry i = declared (event_decl class.Unc no_type (ident_at (numbered (codes "u") i) (at_of seed size i 1)))

  uncontrollable_here : (b : Bool) (i : ℕ) → find (λ e. same_text e.0.text (numbered (codes "u") i)) (entries_for b i) ≡ Some (ident_at (numbered (codes "u") i) (at_of seed size i 1), uncontrollable_entry i)
  uncontrollable_here true i = rw (same_number i) refl
  uncontrollable_here false i = rw (same_number i) refl

  uncontrollable_elsewhere : (b : Bool) (i j : ℕ) → same_text (decimal j) (decimal i) ≡ false → find (λ e. same_text e.0.text (numbered (codes "u") i)) (entries_for b j) ≡ None
  uncontrollable_elsewhere true i j e = rw e refl
  uncontrollable_elsewhere false i j e = rw e refl

  pub uncontrollable_declared : IsShort size → (i : ℕ) → i < size → entry_named (numbered (codes "u") i) (scope_of (whole (made seed size))) ≡ Some (uncontrollable_entry i)
  uncontrollable_declared short i l =
      ap (λ es. option_map (λ e. e.1) (find (λ (e : Ident × Entry). same_text e.0.text (numbered (codes "u") i)) es)) all_entries
      ∙ ap (option_map (λ (e : Ident × Entry). e.1)) (found_in_range (λ e. same_text e.0.text (numbered (codes "u") i)) (λ j. entries_for (has_need seed size j) j) i
      (ident_at (numbered (codes "u") i) (at_of seed size i 1), uncontrollable_entry i) (uncontrollable_here (has_need seed size i) i) 0 size
      (λ j m w. uncontrollable_elsewhere (has_need seed size j) i j (other_number j i (below j size (omega arith) short) (below i size l short) (λ e. w (sym e)))) (omega arith) (omega arith))

  -- controllable
  abbrev pub controllable_entry : ℕ → Entry
  controllable_entry i = declared (event_decl class.Con no_type (ident_at (numbered (codes "c") i) (at_of seed size i 3)))

  controllable_here : (b : Bool) (i : ℕ) → find (λ e. same_text e.0.text (numbered (codes "c") i)) (entries_for b i) ≡ Some (ident_at (numbered (codes "c") i) (at_of seed size i 3), controllable_entry i)
  controllable_here true i = rw (same_number i) refl
  controllable_here false i = rw (same_number i) refl

  controllable_elsewhere : (b : Bool) (i j : ℕ) → same_text (decimal j) (decimal i) ≡ false → find (λ e. same_text e.0.text (numbered (codes "c") i)) (entries_for b j) ≡ None
  controllable_elsewhere true i j e = rw e refl
  controllable_elsewhere false i j e = rw e refl

  pub controllable_declared : IsShort size → (i : ℕ) → i < size → entry_named (numbered (codes "c") i) (scope_of (whole (made seed size))) ≡ Some (controllable_entry i)
  controllable_declared short i l =
      ap (λ es. option_map (λ e. e.1) (find (λ (e : Ident × Entry). same_text e.0.text (numbered (codes "c") i)) es)) all_entries
      ∙ ap (option_map (λ (e : Ident × Entry). e.1)) (found_in_range (λ e. same_text e.0.text (numbered (codes "c") i)) (λ j. entries_for (has_need seed size j) j) i
      (ident_at (numbered (codes "c") i) (at_of seed size i 3), controllable_entry i) (controllable_here (has_need seed size i) i) 0 size
      (λ j m w. controllable_elsewhere (has_need seed size j) i j (other_number j i (below j size (omega arith) short) (below i size l short) (λ e. w (sym e)))) (omega arith) (omega arith))

  -- sensor
  abbrev pub sensor_entry : ℕ → Entry
  sensor_entry i = declared (input_decl bool_type (ident_at (numbered (codes "s") i) (at_of seed size i 5)))

  sensor_here : (b : Bool) (i : ℕ) → find (λ e. same_text e.0.text (numbered (codes "s") i)) (entries_for b i) ≡ Some (ident_at (numbered (codes "s") i) (at_of seed size i 5), sensor_entry i)
  sensor_here true i = rw (same_number i) refl
  sensor_here false i = rw (same_number i) refl

  sensor_elsewhere : (b : Bool) (i j : ℕ) → same_text (decimal j) (decimal i) ≡ false → find (λ e. same_text e.0.text (numbered (codes "s") i)) (entries_for b j) ≡ None
  sensor_elsewhere true i j e = rw e refl
  sensor_elsewhere false i j e = rw e refl

  pub sensor_declared : IsShort size → (i : ℕ) → i < size → entry_named (numbered (codes "s") i) (scope_of (whole (made seed size))) ≡ Some (sensor_entry i)
  sensor_declared short i l =
      ap (λ es. option_map (λ e. e.1) (find (λ (e : Ident × Entry). same_text e.0.text (numbered (codes "s") i)) es)) all_entries
      ∙ ap (option_map (λ (e : Ident × Entry). e.1)) (found_in_range (λ e. same_text e.0.text (numbered (codes "s") i)) (λ j. entries_for (has_need seed size j) j) i
      (ident_at (numbered (codes "s") i) (at_of seed size i 5), sensor_entry i) (sensor_here (has_need seed size i) i) 0 size
      (λ j m w. sensor_elsewhere (has_need seed size j) i j (other_number j i (below j size (omega arith) short) (below i size l short) (λ e. w (sym e)))) (omega arith) (omega arith))

  -- plant
  abbrev pub plant_entry : ℕ → Entry
  plant_entry i = inner (ident_at (numbered (codes "A") i) (at_of seed size i 7)) (automaton_body (plant_body i (most_of seed i) (at_of seed size i)))

  plant_here : (b : Bool) (i : ℕ) → find (λ e. same_text e.0.text (numbered (codes "A") i)) (entries_for b i) ≡ Some (ident_at (numbered (codes "A") i) (at_of seed size i 7), plant_entry i)
  plant_here true i = rw (same_number i) refl
  plant_here false i = rw (same_number i) refl

  plant_elsewhere : (b : Bool) (i j : ℕ) → same_text (decimal j) (decimal i) ≡ false → find (λ e. same_text e.0.text (numbered (codes "A") i)) (entries_for b j) ≡ None
  plant_elsewhere true i j e = rw e refl
  plant_elsewhere false i j e = rw e refl

  pub plant_declared : IsShort size → (i : ℕ) → i < size → entry_named (numbered (codes "A") i) (scope_of (whole (made seed size))) ≡ Some (plant_entry i)
  plant_declared short i l =
      ap (λ es. option_map (λ e. e.1) (find (λ (e : Ident × Entry). same_text e.0.text (numbered (codes "A") i)) es)) all_entries
      ∙ ap (option_map (λ (e : Ident × Entry). e.1)) (found_in_range (λ e. same_text e.0.text (numbered (codes "A") i)) (λ j. entries_for (has_need seed size j) j) i
      (ident_at (numbered (codes "A") i) (at_of seed size i 7), plant_entry i) (plant_here (has_need seed size i) i) 0 size
      (λ j m w. plant_elsewhere (has_need seed size j) i j (other_number j i (below j size (omega arith) short) (below i size l short) (λ e. w (sym e)))) (omega arith) (omega arith))
