-- The own variables of the statements of an event: the mark that its new values are in range, the new value of each variable
-- that one of its choices assigns, what is sent, and the values of the `if`s in its expressions. Their names say what they hold.
use Rattle.std.specs.Prelude.{ℕ, suc, ◌+◌, pos, Bool, List, [], ◌∷◌, ◌++◌, map, flat_map, length, nat_eq, Option, Some, None, slice_get, codes, if◌then◌else◌}
use Rattle.std.specs.List.{list_any}
use Rattle.cif_base.specs.declared.types.Ty.{Ty}
use Rattle.cif_net_expr.specs.Tree.{NetExpr, NetUpdate, net_set, net_choose, NetUpdates, no_net_updates, net_updates, NetUpdateBranches, no_net_update_branches, net_update_branches}
use Rattle.cif_net_model.specs.Net.{NetStored, Net}
use Rattle.cif_net_model.specs.Exprs.{targets}
use Rattle.cif_net_model.specs.Listing.{NetChoice, all_hold}
use Rattle.cif_net_model.specs.Table.{carried_type}
use Rattle.grammar.specs.Pieces.{Text}
use Rattle.st_ast.specs.declared.tree.StTy.{StTy}
use Rattle.st_ast.specs.declared.tree.StTy.TheVariants as ty
use Rattle.plc_model.specs.declared.letter.Letter.TheVariants as letter
use Rattle.plc_model.specs.Names.{name_for}
use Rattle.plc_model.specs.Face.{VariableFace}
use Rattle.plc_frame.specs.Faces.{st_type}
use Rattle.plc_frame.specs.Places.{is_in_place}
use Rattle.plc_expr.specs.Texts.{Naming, temps}
use Rattle.plc_expr.specs.Sorts.{is_bool_type, own_types, type_by}
use Rattle.plc_event_model.specs.Writes.{NewNames, is_tested, any_tested, updates_temps}
use Rattle.plc_event_model.specs.Acts.{once}
use Rattle.plc_event_model.specs.Sends.{event_type, sent_temps}
use Rattle.plc_event_model.specs.Keeps.{asked, kept_temps}

-- ---- the variables of the net

abbrev pub path_of : List NetStored → ℕ → Text
path_of vs k = elim (slice_get vs k) [ None ↦ [] | Some v ↦ v.path ]

-- the variable that holds a discrete variable, and the one that holds a latched input
abbrev pub variable_name : Net → ℕ → Text
variable_name n k = name_for letter.V k (path_of n.vars k)

abbrev pub input_name : Net → ℕ → Text
input_name n k = name_for letter.H k (path_of n.inputs k)

-- ---- faces

abbrev pub range_face : VariableFace
range_face = record { path = codes "in_range"; ty = ty.Bool; first = pos 0 }

-- a new value is any integer before it is tested, and else of the variable's type
abbrev pub new_type : Ty → StTy
new_type t = if is_tested t then ty.Lint else st_type t

abbrev pub new_face_of : Option NetStored → VariableFace
new_face_of None = record { path = codes "new"; ty = ty.Lint; first = pos 0 }
new_face_of (Some v) = record { path = codes "new_" ++ v.path; ty = new_type v.type_of; first = v.first }

abbrev pub new_face : Net → ℕ → VariableFace
new_face n v = new_face_of (slice_get n.vars v)

-- a sent value is BOOL, or any integer before it is tested
abbrev pub sent_type : Ty → StTy
sent_type t = type_by (is_bool_type t)

abbrev pub sent_face : Ty → VariableFace
sent_face t = record { path = codes "sent"; ty = sent_type t; first = pos 0 }

abbrev pub if_face : StTy → VariableFace
if_face t = record { path = codes "if"; ty = t; first = pos 0 }

-- ---- the own variables of a choice's expressions, in the order of the statements

abbrev pub choice_temps : Net → NetChoice → ℕ
choice_temps n c = temps c.test + (sent_temps c.sent + (updates_temps c.writes + kept_temps n c))

abbrev pub sent_types : Net → Option NetExpr → List StTy
sent_types n None = []
sent_types n (Some e) = own_types n None e

abbrev pub conditions_types : Net → Option Ty → NetUpdateBranches → List StTy
conditions_types n r no_net_update_branches = []
conditions_types n r (net_update_branches c us bs) = own_types n r c ++ conditions_types n r bs

abbrev mutual
  -- r is the type of the received value
  pub updates_types : Net → Option Ty → NetUpdates → List StTy
  updates_types n r no_net_updates = []
  updates_types n r (net_updates u us) = updates_types n r us ++ update_types n r u

  pub update_types : Net → Option Ty → NetUpdate → List StTy
  update_types n r (net_set v e) = own_types n r e
  update_types n r (net_choose bs us) = conditions_types n r bs ++ (bodies_types n r bs ++ updates_types n r us)

  pub bodies_types : Net → Option Ty → NetUpdateBranches → List StTy
  bodies_types n r no_net_update_branches = []
  bodies_types n r (net_update_branches c us bs) = updates_types n r us ++ bodies_types n r bs

abbrev pub choice_types : Net → NetChoice → List StTy
choice_types n c = own_types n None c.test ++ (sent_types n c.sent ++ (updates_types n (carried_type n c) c.writes ++ own_types n None (all_hold (asked n c))))

-- ---- the own variables of an event

-- each variable that one of the choices assigns
abbrev pub event_vars : List NetChoice → List ℕ
event_vars cs = once [] (flat_map (λ (c : NetChoice). targets c.writes) cs)

abbrev pub tests_range : Net → List NetChoice → Bool
tests_range n cs = list_any (λ (c : NetChoice). any_tested n c.writes) cs

abbrev pub range_faces : Net → List NetChoice → List VariableFace
range_faces n cs = if tests_range n cs then range_face ∷ [] else []

-- one for what is sent, where the event carries values
abbrev pub faces_sent : Option Ty → List VariableFace
faces_sent None = []
faces_sent (Some t) = sent_face t ∷ []

abbrev pub sent_faces : Net → List NetChoice → List VariableFace
sent_faces n cs = faces_sent (event_type n cs)

-- beside the mark that a choice was made
abbrev pub net_faces : Net → List NetChoice → List VariableFace
net_faces n cs = range_faces n cs ++ (map (new_face n) (event_vars cs) ++ (sent_faces n cs ++ map if_face (flat_map (choice_types n) cs)))

-- ---- names, where the first of these variables has the number j

-- where a number stands in a list, and the list's length where it does not
abbrev pub place_in : List ℕ → ℕ → ℕ
place_in [] v = 0
place_in (u ∷ vs) v = if nat_eq v u then 0 else suc (place_in vs v)

abbrev pub new_names : Net → List NetChoice → ℕ → NewNames
new_names n cs j = record {
  in_range = name_for letter.T j range_face.path;
  next = λ v. name_for letter.T (j + length (range_faces n cs) + place_in (event_vars cs) v) (new_face n v).path;
}

-- the number of what is sent
abbrev pub sent_number : Net → List NetChoice → ℕ → ℕ
sent_number n cs j = j + length (range_faces n cs) + length (event_vars cs)

abbrev pub sent_name : Net → List NetChoice → ℕ → Text
sent_name n cs j = name_for letter.T (sent_number n cs j) (codes "sent")

-- the number of the first `if`
abbrev pub first_if : Net → List NetChoice → ℕ → ℕ
first_if n cs j = sent_number n cs j + length (sent_faces n cs)

-- names before a step; the received value has a name of its own, and an own variable of an expression that of its number
abbrev pub net_naming : Net → Text → Naming
net_naming n received = record {
  located = is_in_place n;
  variable = variable_name n;
  input = input_name n;
  received = received;
  own = λ k. name_for letter.T k (codes "if");
}
