-- The naming that the names of a generator stand for.
use Rattle.std.specs.Prelude.{ℕ, pos, true, false, nat_eq, List, [], Option, Some, None, slice_get}
use Rattle.grammar.specs.Pieces.{Text}
use Rattle.st_ast.specs.Tree.{Expr, truth, number, named, equal}
use Rattle.plc_model.specs.Names.{name_for}
use Rattle.plc_model.specs.declared.letter.Letter.TheVariants as letter
use Rattle.plc_expr.specs.Texts.{Naming}
use Rattle.plc_expr.specs.declared.names.Names.{Names}
use Rattle.plc_expr.specs.declared.names.PlaceText.{PlaceText}
use Rattle.plc_expr.specs.declared.names.PlaceText.TheVariants as place

-- that an automaton is in the place p
abbrev pub located_text : Option PlaceText → ℕ → Expr
located_text None p = truth false
located_text (Some (place.Held x)) p = equal (named x) true (number (pos p))
located_text (Some (place.Known q)) p = truth (nat_eq q p)

-- the name with this number, and the empty one past the last
abbrev pub name_at : List Text → ℕ → Text
name_at xs k = elim (slice_get xs k) [ None ↦ [] | Some x ↦ x ]

abbrev pub naming_of : Names → Naming
naming_of names = record {
  located = λ a p. located_text (slice_get names.places a) p;
  variable = λ k. name_at names.variables k;
  input = λ k. name_at names.inputs k;
  received = names.received;
  own = λ k. name_for letter.T k names.own;
}
