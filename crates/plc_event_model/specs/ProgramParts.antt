-- The parts of all events of a net, and the part that shows its algebraic variables. The own variables of an event are
-- numbered after those of the events before it, those of the algebraic variables after those of all events, and the numbers 0
-- and 1 are those of the mark that something fired and of the counter of rounds.
use Rattle.std.specs.Prelude.{◌≡◌, ℕ, ◌+◌, ◌≤◌, true, List, [], ◌∷◌, ◌++◌, map, flat_map, length, None}
use Rattle.std.specs.List.{enumerate_from, range_with_len}
use Rattle.cif_net_model.specs.Net.{NetAlg, Net}
use Rattle.cif_net_model.specs.Inline.{defined_by}
use Rattle.cif_net_model.specs.Rules.{is_plain}
use Rattle.cif_net_model.specs.Listing.{NetChoice}
use Rattle.cif_net_model.specs.Table.{IsGuarded}
use Rattle.st_ast.specs.Scan.{turns_of_scan}
use Rattle.st_ast.specs.Tokens.{greatest}
use Rattle.st_ast.specs.Tree.{Stms, append, assign, no_stms, stms, Program}
use Rattle.st_ast.specs.declared.tree.StVar.{StVar}
use Rattle.st_ast.specs.declared.tree.StTy.{StTy}
use Rattle.st_ast.specs.declared.tree.StClass.TheVariants as class
use Rattle.plc_model.specs.declared.letter.Letter.TheVariants as letter
use Rattle.plc_model.specs.Names.{name_for}
use Rattle.plc_model.specs.Face.{VariableFace, declaration}
use Rattle.plc_model.specs.Frame.{fired}
use Rattle.plc_frame.specs.Events.{choices_of}
use Rattle.plc_frame.specs.Given.{EventPart, own_variables, framed_program}
use Rattle.plc_frame.specs.Small.{are_small}
use Rattle.plc_expr.specs.Sorts.{own_types}
use Rattle.plc_expr.specs.Texts.{Naming, before, temps, text}
use Rattle.plc_event_model.specs.Own.{net_naming, if_face}
use Rattle.plc_event_model.specs.Parts.{event_faces, event_part}

-- ---- parts

-- the part of an event with these choices, whose own variables are numbered from j
abbrev pub part_for : Net → ℕ → List NetChoice → EventPart
part_for n j cs = record {
  own = map (declaration letter.T class.Plain) (enumerate_from j (event_faces n cs));
  body = (event_part n j cs).body;
}

-- one event after the other
abbrev pub parts_from : Net → List NetChoice → ℕ → (events : List ℕ) → List EventPart
parts_from n cs j [] = []
parts_from n cs j (e ∷ es) = part_for n j (choices_of cs e) ∷ parts_from n cs (j + length (event_faces n (choices_of cs e))) es

abbrev pub net_parts : Net → List NetChoice → List EventPart
net_parts n cs = parts_from n cs 2 (range_with_len 0 (length n.events))

-- ---- algebraic variables

-- the types of the own variables of these definitions, in order
abbrev pub defined_types : Net → List NetAlg → List StTy
defined_types n as' = flat_map (λ (a : NetAlg). own_types n None (defined_by a)) as'

-- The R variable of each, numbered from i, takes over the value of its definition; the own variables are numbered from k.
abbrev pub shown_text : Naming → (i k : ℕ) → List NetAlg → Stms
shown_text w i k [] = no_stms
shown_text w i k (a ∷ as') =
    append (before w k (defined_by a)) (stms (assign (name_for letter.R i a.path) (text w k (defined_by a))) (shown_text w (i + 1) (k + temps (defined_by a)) as'))

abbrev pub shown_faces : Net → List VariableFace
shown_faces n = map if_face (defined_types n n.algs)

-- the part that shows them, whose own variables are numbered from j
abbrev pub shown_part : Net → ℕ → EventPart
shown_part n j = record {
  own = map (declaration letter.T class.Plain) (enumerate_from j (shown_faces n));
  body = shown_text (net_naming n fired) 0 j n.algs;
}

-- ---- the program

-- the number behind the own variables of all events
abbrev pub shown_first : Net → List NetChoice → ℕ
shown_first n cs = 2 + length (own_variables (net_parts n cs))

-- the own variables of all parts
abbrev pub all_own : Net → List NetChoice → List StVar
all_own n cs = own_variables (net_parts n cs) ++ (shown_part n (shown_first n cs)).own

abbrev pub net_program : Net → List NetChoice → ℕ → ℕ → Program
net_program n cs U C = framed_program n (net_parts n cs) (shown_part n (shown_first n cs)) U C

-- ---- which nets have such a program

-- A plain net with the choices of all its events, whose enumerations are numbered in 32 bits. The own variables of all parts are
-- numbered in 31 bits, and a scan has turns for all rounds.
pub record HasParts (n : Net) (cs : List NetChoice) (U C : ℕ) : Type 0 where
  pub plain : is_plain n ≡ true
  pub guarded : IsGuarded n cs
  pub small_variables : are_small n.vars ≡ true
  pub small_inputs : are_small n.inputs ≡ true
  pub few_own : length (all_own n cs) ≤ 2147483646
  pub turns : U + C ≤ turns_of_scan
  pub unc : U ≤ greatest
  pub con : C ≤ greatest
