-- The tree that a made text reads as, in the types of the reader.
use Rattle.std.specs.Prelude.{ℕ, pos, true, false, List, [], ◌∷◌, ◌++◌, flat_map, Some, None, codes, if◌then◌else◌}
use Rattle.grammar.specs.Pieces.{Text}
use Rattle.cif_ast.specs.declared.names.Name.{Name}
use Rattle.cif_ast.specs.declared.declarations.Class.TheVariants as class
use Rattle.cif_ast.specs.declared.declarations.Chan.TheVariants as chan
use Rattle.cif_ast.specs.declared.declarations.TypeUse.TheVariants as type
use Rattle.cif_ast.specs.declared.declarations.Decl.{Decl}
use Rattle.cif_ast.specs.declared.declarations.Decl.TheVariants as decl
use Rattle.cif_ast.specs.declared.declarations.Inv.TheVariants as inv
use Rattle.cif_ast.specs.declared.expressions.Expr.{Expr, roll-Expr}
use Rattle.cif_ast.specs.declared.expressions.Term.{roll-Term}
use Rattle.cif_ast.specs.declared.expressions.Form.{Form}
use Rattle.cif_ast.specs.declared.expressions.Form.TheVariants as form
use Rattle.cif_ast.specs.declared.expressions.CmpOp.TheVariants as compare
use Rattle.cif_ast.specs.declared.edges.Update.TheVariants as update
use Rattle.cif_ast.specs.declared.edges.EventUse.{EventUse}
use Rattle.cif_ast.specs.declared.edges.Role.TheVariants as role
use Rattle.cif_ast.specs.declared.edges.Edge.{Edge}
use Rattle.cif_ast.specs.declared.edges.Loc.{Loc}
use Rattle.cif_ast.specs.declared.components.Body.TheVariants as body
use Rattle.cif_ast.specs.declared.components.AutoBody.{AutoBody}
use Rattle.cif_ast.specs.declared.components.Comp.{roll-Comp}
use Rattle.cif_ast.specs.declared.components.Item.{Item}
use Rattle.cif_ast.specs.declared.components.Item.TheVariants as item
use Rattle.cif_ast.specs.declared.components.Spec.{Spec}
use Rattle.cif_maker.specs.Draws.{has_need, most_of, next_of, numbers_below}
use Rattle.cif_maker.specs.MadeText.{numbered, plant_pieces, need_pieces, place}
use Rattle.cif_maker_laws.specs.MadeTree.{ident_at, name_at, dotted_at, block_place, need_place}

abbrev pub expression : Form → ℕ → Expr
expression form at = roll-Expr (record { form = form; at = at })

abbrev pub named_at : Name → ℕ → Expr
named_at n at = expression (form.Named n) at

-- a name of one part
abbrev pub simple_at : Text → ℕ → Expr
simple_at t at = named_at (name_at t at) at

abbrev pub number_at : ℕ → ℕ → Expr
number_at n at = expression (form.Int (pos n)) at

-- x < n
abbrev pub less_at : (x : Text) (n x_at n_at : ℕ) → Expr
less_at x n x_at n_at = expression (form.Compare (simple_at x x_at) compare.Lt (number_at n n_at)) x_at

-- c and x < n
abbrev pub guard_at : (c x : Text) (n c_at x_at n_at : ℕ) → Expr
guard_at c x n c_at x_at n_at = expression (form.And (simple_at c c_at ∷ less_at x n x_at n_at ∷ [])) c_at

-- x + n
abbrev pub sum_at : (x : Text) (n x_at n_at : ℕ) → Expr
sum_at x n x_at n_at = expression (form.Sum (simple_at x x_at) (roll-Term (record { minus = false; value = number_at n n_at }) ∷ [])) x_at

abbrev pub use_at : Text → ℕ → EventUse
use_at t at = record { name = name_at t at; role = role.Sync }

-- ---- plant i, whose variable goes up to `most`; piece k of its line stands at `at k`

module _ (i most : ℕ) (at : ℕ → ℕ) where
  abbrev pub edge_to_busy : Edge
  edge_to_busy = record {
    uses = use_at (numbered (codes "u") i) (at 19) ∷ [];
    guards = guard_at (numbered (codes "s") i) (codes "n") most (at 21) (at 23) (at 25) ∷ [];
    updates = update.Set (name_at (codes "n") (at 27)) (sum_at (codes "n") 1 (at 29) (at 31)) ∷ [];
    target = Some (ident_at (codes "busy") (at 33));
  }

  abbrev pub edge_to_idle : Edge
  edge_to_idle = record { uses = use_at (numbered (codes "c") i) (at 37) ∷ []; guards = []; updates = []; target = Some (ident_at (codes "idle") (at 39)) }

  abbrev pub idle_location : Loc
  idle_location = record { name = Some (ident_at (codes "idle") (at 17)); initial = true; marked = []; equations = []; edges = edge_to_busy ∷ [] }

  abbrev pub busy_location : Loc
  busy_location = record { name = Some (ident_at (codes "busy") (at 35)); initial = false; marked = []; equations = []; edges = edge_to_idle ∷ [] }

  abbrev pub variable_of_plant : Decl
  variable_of_plant = decl.Disc (type.Range (number_at 0 (at 9)) (number_at most (at 11))) (ident_at (codes "n") (at 13)) (Some (number_at 0 (at 15)))

  abbrev pub automaton_of_plant : AutoBody
  automaton_of_plant = record { decls = variable_of_plant ∷ []; alphabet = None; monitor = None; locs = idle_location ∷ busy_location ∷ [] }

  abbrev pub plant_spec : List Item
  plant_spec =
      item.Decl (decl.Event class.Unc chan.No (ident_at (numbered (codes "u") i) (at 1)))
      ∷ item.Decl (decl.Event class.Con chan.No (ident_at (numbered (codes "c") i) (at 3)))
      ∷ item.Decl (decl.Input type.Bool (ident_at (numbered (codes "s") i) (at 5)))
      ∷ item.Comp (roll-Comp (record { name = ident_at (numbered (codes "A") i) (at 7); body = body.Auto automaton_of_plant })) ∷ []

-- ---- plant i needs plant j idle

module _ (i j : ℕ) (at : ℕ → ℕ) where
  abbrev pub need_spec : Item
  need_spec = item.Decl (decl.Inv (inv.Needs (name_at (numbered (codes "c") i) (at 1) ∷ [])
      (named_at (dotted_at (numbered (codes "A") j) (codes "idle") (at 3) (at 5)) (at 3))))

-- ---- the whole

abbrev pub block_spec : (seed size i : ℕ) → List Item
block_spec seed size i =
    plant_spec i (most_of seed i) (place (block_place seed size i) (plant_pieces i (most_of seed i)))
    ++ (if has_need seed size i then need_spec i (next_of size i) (place (need_place seed size i) (need_pieces i (next_of size i))) ∷ [] else [])

abbrev pub made_spec : (seed size : ℕ) → Spec
made_spec seed size = record { items = flat_map (block_spec seed size) (numbers_below size) }
