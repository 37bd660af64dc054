-- The part of an event whose choices have data: its own variables, and its statements.
use Rattle.std.specs.Prelude.{◌≡◌, ℕ, ◌+◌, ◌≤◌, ◌<◌, ◌^◌, Bool, false, nat_lt, List, [], ◌∷◌, ◌++◌, map, length, Some, slice_get, if◌then◌else◌}
use Rattle.std.specs.List.{list_all, enumerate_from}
use Rattle.cif_net_model.specs.Net.{Net}
use Rattle.cif_net_model.specs.Listing.{NetChoice}
use Rattle.st_ast.specs.Tree.{Program}
use Rattle.st_ast.specs.Names.{place_of}
use Rattle.plc_model.specs.declared.letter.Letter.TheVariants as letter
use Rattle.plc_model.specs.Names.{name_for}
use Rattle.plc_model.specs.Face.{VariableFace, IsDeclared}
use Rattle.plc_model.specs.Frame.{Part}
use Rattle.plc_frame.specs.Events.{done_face, event_text, own_name}
use Rattle.plc_expr.specs.Texts.{Naming}
use Rattle.plc_event_model.specs.Own.{choice_temps, net_faces, net_naming, first_if, new_names, sent_name}
use Rattle.plc_event_model.specs.Events.{all_written, is_bare}

-- several choices of which one is not bare need a mark of the event's own
abbrev pub needs_done : Net → List NetChoice → Bool
needs_done n cs = if list_all (is_bare n) cs then false else nat_lt 1 (length cs)

abbrev pub done_faces : Net → List NetChoice → List VariableFace
done_faces n cs = if needs_done n cs then done_face ∷ [] else []

-- all own variables of an event
abbrev pub event_faces : Net → List NetChoice → List VariableFace
event_faces n cs = done_faces n cs ++ net_faces n cs

-- the number of the first one beside the mark, where the first one has the number j
abbrev pub event_first : Net → List NetChoice → ℕ → ℕ
event_first n cs j = j + length (done_faces n cs)

-- the number of the first own variable of an expression
abbrev pub ifs_from : Net → List NetChoice → ℕ → ℕ
ifs_from n cs j = first_if n cs (event_first n cs j)

-- how the expressions of the event's choices are written
abbrev pub event_naming : Net → List NetChoice → ℕ → Naming
event_naming n cs j = net_naming n (sent_name n cs (event_first n cs j))

abbrev pub event_part : Net → ℕ → List NetChoice → Part
event_part n j cs = record {
  own = map own_name (enumerate_from j (event_faces n cs));
  body = event_text (own_name (j, done_face)) (all_written n (event_naming n cs j) (new_names n cs (event_first n cs j)) (ifs_from n cs j) cs);
}

-- how many own variables the expressions of the choices have
abbrev pub all_temps : Net → List NetChoice → ℕ
all_temps n [] = 0
all_temps n (c ∷ cs) = choice_temps n c + all_temps n cs

-- These variables are declared with their types, numbered from j: the one with a number stands so many places after `base`.
pub record AreDeclared (p : Program) (base j : ℕ) (faces : List VariableFace) : Type 0 where
  pub above : 2 ≤ j
  pub small : j + length faces < 2 ^ 32
  pub inside : base + (j + length faces) ≤ length p.vars
  pub each : (i : ℕ) (x : VariableFace) → slice_get faces i ≡ Some x → IsDeclared p.vars (name_for letter.T (j + i) x.path) x.ty
  pub place : (i : ℕ) (x : VariableFace) → slice_get faces i ≡ Some x → place_of p.vars (name_for letter.T (j + i) x.path) ≡ base + (j + i)
