-- The names of a net as a generator has them name alike what is there.
use Rattle.std.proofs.Common.{◌≡◌, ℕ, zero, suc, ◌+◌, ◌<◌, pos, true, List, [], ◌∷◌, map, length, Option, slice_get, sym, ap, ◌∙◌, arith}
use Rattle.std.specs.Prelude.{is_some}
use Rattle.std.specs.List.{enumerate_from}
use Rattle.grammar.specs.Pieces.{Text}
use Rattle.cif_base.specs.declared.types.Ty.{Ty}
use Rattle.cif_net_model.specs.Net.{NetAuto, NetStored, Net}
use Rattle.cif_net_model.specs.Reads.{Read, a_var, an_input, an_alg, a_place, the_received}
use Rattle.st_ast.specs.Tree.{equal, named, number}
use Rattle.plc_model.specs.declared.letter.Letter.{Letter}
use Rattle.plc_model.specs.declared.letter.Letter.TheVariants as letter
use Rattle.plc_model.specs.Names.{name_for}
use Rattle.plc_frame.specs.Places.{path_in}
use Rattle.plc_expr.specs.Held.{IsThere}
use Rattle.plc_expr.specs.Written.{located_text, name_at, naming_of}
use Rattle.plc_expr.specs.declared.names.Names.{Names}
use Rattle.plc_expr.specs.declared.names.PlaceText.{PlaceText}
use Rattle.plc_event_model.specs.Own.{net_naming, path_of}
use Rattle.plc_expr_walk.specs.Alike.{IsAlike}
use Rattle.plc_event.specs.After.{AreSame}
use Rattle.plc_event.specs.Names.{AreNames, place_text, stored_name}

-- the name with a number, of those that are numbered from j
stored-at : (l : Letter) (vs : List NetStored) (j k : ℕ) → k < length vs → name_at (map (stored_name l) (enumerate_from j vs)) k ≡ name_for l (j + k) (path_of vs k)
stored-at l [] j k h = absurd (omega (arith, h))
stored-at l (v ∷ vs) j zero h = let e : j ≡ j + 0 = omega arith in ap (λ i. name_for l i v.path) e
stored-at l (v ∷ vs) j (suc k) h = let e : j + 1 + k ≡ j + suc k = omega arith in stored-at l vs (j + 1) k (omega (arith, h)) ∙ ap (λ i. name_for l i (path_of vs k)) e

located-at : (xs : List NetAuto) (j k p : ℕ) → k < length xs → located_text (slice_get (map place_text (enumerate_from j xs)) k) p ≡ equal (named (name_for letter.L (j + k) (path_in xs k))) true (number (pos p))
located-at [] j k p h = absurd (omega (arith, h))
located-at (a ∷ xs) j zero p h = let e : j ≡ j + 0 = omega arith in ap (λ i. equal (named (name_for letter.L i a.path)) true (number (pos p))) e
located-at (a ∷ xs) j (suc k) p h =
    let e : j + 1 + k ≡ j + suc k = omega arith in
    located-at xs (j + 1) k p (omega (arith, h)) ∙ ap (λ i. equal (named (name_for letter.L i (path_in xs k))) true (number (pos p))) e

module _ (n : Net) (names : Names) (are : AreNames n names) (received : Text) where
  -- what is received has this name, where something is
  module _ (r : Option Ty) (same : is_some r ≡ true → names.received ≡ received) where
    pub names-alike : (q : Read) → IsThere n r q → IsAlike (naming_of names) (net_naming n received) q
    names-alike (a_var k) h =
        let e : 0 + k ≡ k = omega arith in
        ap (λ xs. name_at xs k) are.variables ∙ stored-at letter.V n.vars 0 k h ∙ ap (λ i. name_for letter.V i (path_of n.vars k)) e
    names-alike (an_input k) h =
        let e : 0 + k ≡ k = omega arith in
        ap (λ xs. name_at xs k) are.inputs ∙ stored-at letter.H n.inputs 0 k h ∙ ap (λ i. name_for letter.H i (path_of n.inputs k)) e
    names-alike (an_alg k) h = tt
    names-alike (a_place k) h =
        let e : 0 + k ≡ k = omega arith in
        λ p. ap (λ (xs : List PlaceText). located_text (slice_get xs k) p) are.places ∙ located-at n.autos 0 k p h
        ∙ ap (λ i. equal (named (name_for letter.L i (path_in n.autos k))) true (number (pos p))) e
    names-alike the_received h = same h

  pub own-alike : (k : ℕ) → (naming_of names).own k ≡ (net_naming n received).own k
  own-alike k = ap (name_for letter.T k) are.own

-- ---- two tables of names

-- names of the same net are the same
pub same_names : (n : Net) (x names : Names) → AreNames n x → AreNames n names → AreSame x names
same_names n x names a b = record {
  places = λ k. ap (λ (xs : List PlaceText). slice_get xs k) (a.places ∙ sym b.places);
  variables = λ v. ap (λ xs. name_at xs v) (a.variables ∙ sym b.variables);
  inputs = a.inputs ∙ sym b.inputs;
  own = a.own ∙ sym b.own;
}

-- also where what is received has another name
pub same_still : (n : Net) (x old new : Names) → AreSame x old → AreNames n old → AreNames n new → AreSame x new
same_still n x old new same a b = record {
  places = λ k. same.places k ∙ ap (λ (xs : List PlaceText). slice_get xs k) (a.places ∙ sym b.places);
  variables = λ v. same.variables v ∙ ap (λ xs. name_at xs v) (a.variables ∙ sym b.variables);
  inputs = same.inputs ∙ a.inputs ∙ sym b.inputs;
  own = same.own ∙ a.own ∙ sym b.own;
}
