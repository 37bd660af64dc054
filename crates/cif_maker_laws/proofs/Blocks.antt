-- What the tokens of the lines of a made source derive.
use Rattle.std.proofs.Common.{◌≡◌, ℕ, suc, ◌≤◌, List, [], ◌∷◌, ◌++◌, take, drop, refl, arith, codes}
use Rattle.std.specs.Prelude.{map, decimal}
use Rattle.grammar.specs.Pieces.{Text}
use Rattle.grammar.specs.Lang.{many}
use Rattle.cif_lex.specs.declared.token.Token.{Token}
use Rattle.cif_lex.specs.Tokens.{number_of}
use Rattle.cif_ast.specs.declared.components.Item.{Item}
use Rattle.cif_parse.specs.Grammar.{item}
use Rattle.cif_parse.specs.Trees as tree
use Rattle.cif_maker.specs.MadeText.{concatenated, numbered, plant_pieces}
use Rattle.cif_maker_laws.specs.MadeSpec.{plant_spec, variable_of_plant, idle_location, busy_location, edge_to_busy, edge_to_idle}
use Rattle.cif_maker_laws.proofs.MadePieces.{plant_chunks}
use Rattle.cif_maker_laws.proofs.Places.{placed, span_at, named_there, number_there}
use Rattle.cif_maker_laws.proofs.Deriving.{Names, Numbers, uncontrollable_is, controllable_is, input_is, disc_is}
use Rattle.cif_maker_laws.proofs.Plants.{short_edge_is, long_edge_is, one_edge_location_is, initial_location_is, plant_is}

abbrev pub single : Item → List Item
single x = x ∷ []

module _ (text after : Text) (at : ℕ → ℕ) (i most : ℕ) (digits : number_of (decimal most) ≡ most) (few : most ≤ 2147483647)
    (there : (k : ℕ) → drop (at k) text ≡ concatenated (drop k (plant_pieces i most)) ++ after) where
  abbrev pieces : List Text
  pieces = plant_pieces i most

  abbrev all_tokens : List Token
  all_tokens = placed at 0 (plant_chunks i (decimal most))

  u_name : (k : ℕ) → drop k pieces ≡ numbered (codes "u") i ∷ drop (suc k) pieces → Names text (span_at (at k) (numbered (codes "u") i)) (numbered (codes "u") i)
  u_name k e = named_there text after at pieces there k (numbered (codes "u") i) (drop (suc k) pieces) e refl

  c_name : (k : ℕ) → drop k pieces ≡ numbered (codes "c") i ∷ drop (suc k) pieces → Names text (span_at (at k) (numbered (codes "c") i)) (numbered (codes "c") i)
  c_name k e = named_there text after at pieces there k (numbered (codes "c") i) (drop (suc k) pieces) e refl

  s_name : (k : ℕ) → drop k pieces ≡ numbered (codes "s") i ∷ drop (suc k) pieces → Names text (span_at (at k) (numbered (codes "s") i)) (numbered (codes "s") i)
  s_name k e = named_there text after at pieces there k (numbered (codes "s") i) (drop (suc k) pieces) e refl

  plant_name : Names text (span_at (at 7) (numbered (codes "A") i)) (numbered (codes "A") i)
  plant_name = named_there text after at pieces there 7 (numbered (codes "A") i) (drop 8 pieces) refl refl

  n_name : (k : ℕ) → drop k pieces ≡ codes "n" ∷ drop (suc k) pieces → Names text (span_at (at k) (codes "n")) (codes "n")
  n_name k e = named_there text after at pieces there k (codes "n") (drop (suc k) pieces) e refl

  idle_name : (k : ℕ) → drop k pieces ≡ codes "idle" ∷ drop (suc k) pieces → Names text (span_at (at k) (codes "idle")) (codes "idle")
  idle_name k e = named_there text after at pieces there k (codes "idle") (drop (suc k) pieces) e refl

  busy_name : (k : ℕ) → drop k pieces ≡ codes "busy" ∷ drop (suc k) pieces → Names text (span_at (at k) (codes "busy")) (codes "busy")
  busy_name k e = named_there text after at pieces there k (codes "busy") (drop (suc k) pieces) e refl

  zero_number : (k : ℕ) → drop k pieces ≡ codes "0" ∷ drop (suc k) pieces → Numbers text (span_at (at k) (codes "0")) 0
  unfolding number_of
  zero_number k e = number_there text after at pieces there k (codes "0") (drop (suc k) pieces) 0 e refl (omega arith)

  one_number : Numbers text (span_at (at 31) (codes "1")) 1
  unfolding number_of
  one_number = number_there text after at pieces there 31 (codes "1") (drop 32 pieces) 1 refl refl (omega arith)

  most_number : (k : ℕ) → drop k pieces ≡ decimal most ∷ drop (suc k) pieces → Numbers text (span_at (at k) (decimal most)) most
  most_number k e = number_there text after at pieces there k (decimal most) (drop (suc k) pieces) most e digits few

  pub plant_derived : many (item text 101) (map single (plant_spec i most at)) all_tokens
  unfolding tree.is_automaton
  plant_derived = (
    take 3 all_tokens,
    drop 3 all_tokens,
    uncontrollable_is text _ _ _ (numbered (codes "u") i) (u_name 1 refl),
    (
      take 3 (drop 3 all_tokens),
      drop 6 all_tokens,
      controllable_is text _ _ _ (numbered (codes "c") i) (c_name 3 refl),
      (
        take 4 (drop 6 all_tokens),
        drop 10 all_tokens,
        input_is text _ _ _ _ (numbered (codes "s") i) (s_name 5 refl),
        (
          drop 10 all_tokens,
          [],
          plant_is text _ _ _ _ (numbered (codes "A") i) (variable_of_plant i most at) (idle_location i most at) (busy_location i most at)
              (take 11 (drop 13 all_tokens)) (take 24 (drop 24 all_tokens)) (take 8 (drop 48 all_tokens)) plant_name
              (disc_is text _ _ _ _ _ _ _ _ _ _ _ 0 most 0 (codes "n") (zero_number 9 refl) (most_number 11 refl) (n_name 13 refl) (zero_number 15 refl))
              (initial_location_is text _ _ _ _ _ _ _ (codes "idle") (edge_to_busy i most at) (take 17 (drop 31 all_tokens)) (idle_name 17 refl)
              (long_edge_is text _ _ _ _ _ _ _ _ _ _ _ _ _ _ _ _ _ (numbered (codes "u") i) (numbered (codes "s") i) (codes "n") (codes "busy") most 1
              (u_name 19 refl) (s_name 21 refl) (n_name 23 refl) (most_number 25 refl) (n_name 27 refl) (n_name 29 refl) one_number (busy_name 33 refl)))
              (one_edge_location_is text _ _ _ (codes "busy") (edge_to_idle i most at) (take 5 (drop 51 all_tokens)) (busy_name 35 refl)
              (short_edge_is text _ _ _ _ _ (numbered (codes "c") i) (codes "idle") (c_name 37 refl) (idle_name 39 refl)))
              refl,
          refl,
          refl,
        ),
        refl,
      ),
      refl,
    ),
    refl,
  )
