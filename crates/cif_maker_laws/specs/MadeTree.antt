-- The source that a made text reads as, with the place of each name and expression.
use Rattle.std.specs.Prelude.{ℕ, ◌+◌, pos, true, false, List, [], ◌∷◌, ◌++◌, flat_map, length, Some, None, codes, if◌then◌else◌}
use Rattle.grammar.specs.Pieces.{Text}
use Rattle.cif_ast.specs.Tree.{Tree, node, number, named, sum, comparison, all_of, trees, no_trees, terms, no_terms, updates, no_updates, assignment}
use Rattle.cif_ast.specs.declared.names.Ident.{Ident}
use Rattle.cif_ast.specs.declared.names.Name.{Name}
use Rattle.cif_ast.specs.declared.declarations.Class.TheVariants as class
use Rattle.cif_ast.specs.declared.expressions.CmpOp.TheVariants as compare
use Rattle.cif_source.specs.Source.{AutomatonTree, DeclTree, disc_decl, event_decl, input_decl, invariant_decl, needs, EdgeTree, LocationTree, Source, no_source, source, SourceItem, component_item, decl_item, automaton_body, UseTree, syncs, bool_type, range_type, no_type}
use Rattle.cif_maker.specs.Draws.{has_need, most_of, next_of, numbers_below}
use Rattle.cif_maker.specs.MadeText.{numbered, plant_pieces, need_pieces, place, plant_text, blocks_text}

abbrev pub source_of_list : List SourceItem → Source
source_of_list [] = no_source
source_of_list (i ∷ is) = source i (source_of_list is)

abbrev pub ident_at : Text → ℕ → Ident
ident_at t at = record { text = t; at = at }

abbrev pub name_at : Text → ℕ → Name
name_at t at = record { from_root = false; parts = ident_at t at ∷ []; at = at }

abbrev pub dotted_at : (a b : Text) (at b_at : ℕ) → Name
dotted_at a b at b_at = record { from_root = false; parts = ident_at a at ∷ ident_at b b_at ∷ []; at = at }

abbrev pub name_tree : Text → ℕ → Tree
name_tree t at = node (named (name_at t at)) at

abbrev pub number_tree : ℕ → ℕ → Tree
number_tree z at = node (number (pos z)) at

-- an event that an edge synchronises on
abbrev pub use_of : Text → ℕ → UseTree
use_of t at = record { name = name_at t at; role = syncs }

-- ---- plant i, whose variable goes up to `most`; piece k of its line stands at `at k`

module _ (i most : ℕ) (at : ℕ → ℕ) where
  abbrev pub uncontrollable : Text
  uncontrollable = numbered (codes "u") i

  abbrev pub controllable : Text
  controllable = numbered (codes "c") i

  abbrev pub sensor : Text
  sensor = numbered (codes "s") i

  -- s and n < most
  abbrev pub guard : Tree
  guard = node (all_of (trees (name_tree sensor (at 21))
      (trees (node (comparison (name_tree (codes "n") (at 23)) compare.Lt (number_tree most (at 25))) (at 23)) no_trees))) (at 21)

  -- n + 1
  abbrev pub increased : Tree
  increased = node (sum (name_tree (codes "n") (at 29)) (terms false (number_tree 1 (at 31)) no_terms)) (at 29)

  abbrev pub to_busy : EdgeTree
  to_busy = record {
    uses = use_of uncontrollable (at 19) ∷ [];
    guards = guard ∷ [];
    updates = updates (assignment (name_at (codes "n") (at 27)) increased) no_updates;
    target = Some (ident_at (codes "busy") (at 33));
  }

  abbrev pub to_idle : EdgeTree
  to_idle = record { uses = use_of controllable (at 37) ∷ []; guards = []; updates = no_updates; target = Some (ident_at (codes "idle") (at 39)) }

  abbrev pub idle : LocationTree
  idle = record { name = Some (ident_at (codes "idle") (at 17)); initial = true; marked = []; equations = []; edges = to_busy ∷ [] }

  abbrev pub busy : LocationTree
  busy = record { name = Some (ident_at (codes "busy") (at 35)); initial = false; marked = []; equations = []; edges = to_idle ∷ [] }

  abbrev pub variable : DeclTree
  variable = disc_decl (range_type (number_tree 0 (at 9)) (number_tree most (at 11))) (ident_at (codes "n") (at 13)) (Some (number_tree 0 (at 15)))

  abbrev pub plant_body : AutomatonTree
  plant_body = record { decls = variable ∷ []; alphabet = None; monitor = None; locs = idle ∷ busy ∷ [] }

  abbrev pub plant_items : List SourceItem
  plant_items =
      decl_item (event_decl class.Unc no_type (ident_at uncontrollable (at 1)))
      ∷ decl_item (event_decl class.Con no_type (ident_at controllable (at 3)))
      ∷ decl_item (input_decl bool_type (ident_at sensor (at 5)))
      ∷ component_item (ident_at (numbered (codes "A") i) (at 7)) (automaton_body plant_body) ∷ []

-- ---- plant i needs plant j idle

module _ (i j : ℕ) (at : ℕ → ℕ) where
  abbrev pub idle_of_next : Tree
  idle_of_next = node (named (dotted_at (numbered (codes "A") j) (codes "idle") (at 3) (at 5))) (at 3)

  abbrev pub need_item : SourceItem
  need_item = decl_item (invariant_decl (needs (name_at (numbered (codes "c") i) (at 1) ∷ []) idle_of_next))

-- ---- the whole

-- where block i begins
abbrev pub block_place : (seed size i : ℕ) → ℕ
block_place seed size i = length (blocks_text seed size i)

-- where its second line begins
abbrev pub need_place : (seed size i : ℕ) → ℕ
need_place seed size i = block_place seed size i + length (plant_text seed i)

abbrev pub block_items : (seed size i : ℕ) → List SourceItem
block_items seed size i =
    plant_items i (most_of seed i) (place (block_place seed size i) (plant_pieces i (most_of seed i)))
    ++ (if has_need seed size i then need_item i (next_of size i) (place (need_place seed size i) (need_pieces i (next_of size i))) ∷ [] else [])

abbrev pub made_source : (seed size : ℕ) → Source
made_source seed size = source_of_list (flat_map (block_items seed size) (numbers_below size))
