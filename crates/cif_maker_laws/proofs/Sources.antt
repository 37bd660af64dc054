-- The source of the made tree.
use Rattle.std.proofs.Common.{◌≡◌, ℕ, pos, Bool, true, false, List, [], ◌∷◌, ◌++◌, Option, Some, None, refl, ap, ◌∙◌, codes}
use Rattle.std.specs.Prelude.{map, flat_map, if◌then◌else◌}
use Rattle.std.proofs.lemmas.List.{map-append}
use Rattle.grammar.specs.Pieces.{Text}
use Rattle.cif_ast.specs.Tree.{Tree, node, named, sum, comparison, all_of, trees, no_trees, terms, no_terms, UpdateTree, updates, no_updates, assignment}
use Rattle.cif_ast.specs.View.{view, view_terms, view_update, view_item, view_items}
use Rattle.cif_ast.specs.declared.names.Ident.{Ident}
use Rattle.cif_ast.specs.declared.names.Name.{Name}
use Rattle.cif_ast.specs.declared.declarations.Class.TheVariants as class
use Rattle.cif_ast.specs.declared.declarations.Chan.TheVariants as chan
use Rattle.cif_ast.specs.declared.declarations.TypeUse.TheVariants as type
use Rattle.cif_ast.specs.declared.declarations.Decl.{Decl}
use Rattle.cif_ast.specs.declared.declarations.Decl.TheVariants as decl
use Rattle.cif_ast.specs.declared.declarations.Inv.TheVariants as inv
use Rattle.cif_ast.specs.declared.expressions.Expr.{Expr}
use Rattle.cif_ast.specs.declared.expressions.Term.{Term, roll-Term}
use Rattle.cif_ast.specs.declared.expressions.Form.TheVariants as form
use Rattle.cif_ast.specs.declared.expressions.CmpOp.TheVariants as compare
use Rattle.cif_ast.specs.declared.edges.Update.TheVariants as update
use Rattle.cif_ast.specs.declared.components.Body.TheVariants as body
use Rattle.cif_ast.specs.declared.components.Comp.{roll-Comp}
use Rattle.cif_ast.specs.declared.components.Item.{Item}
use Rattle.cif_ast.specs.declared.components.Item.TheVariants as item
use Rattle.cif_ast.proofs.ViewLemmas.{view-expr, view_form-Int, view_form-Named, view_form-Compare, view_form-And, view_form-Sum, view-term, view_update-Set, view_item-Decl, view_item-Comp, view_body-Auto}
use Rattle.cif_source.specs.Source.{SourceItem, decl_item, component_item, automaton_body, AutomatonTree, DeclTree, disc_decl, invariant_decl, needs, range_type, EdgeTree, UseTree, source, edge_tree, decl_tree, automaton_tree, source_item, source_body, source_items, source_of}
use Rattle.cif_maker.specs.Draws.{has_need, most_of, next_of, numbers_below}
use Rattle.cif_maker.specs.MadeText.{numbered, plant_pieces, need_pieces, place}
use Rattle.cif_maker_laws.specs.MadeTree.{source_of_list, ident_at, name_at, dotted_at, name_tree, number_tree, use_of, guard, to_busy, busy, variable, plant_body, plant_items, need_item, block_place, need_place, block_items, made_source}
use Rattle.cif_maker_laws.specs.MadeSpec.{named_at, simple_at, number_at, less_at, guard_at, sum_at, edge_to_busy, variable_of_plant, automaton_of_plant, plant_spec, need_spec, block_spec, made_spec}

seen : Item → SourceItem
seen x = source_item (view_item x)

items_seen : (xs : List Item) → source_items (view_items xs) ≡ source_of_list (map seen xs)
unfolding seen
items_seen [] = refl
items_seen (x ∷ xs) = ap (source (source_item (view_item x))) (items_seen xs)

-- ---- expressions, one form at a time

number_seen : (n at : ℕ) → view (number_at n at) ≡ number_tree n at
number_seen n at = view-expr (form.Int (pos n)) at ∙ ap (λ s. node s at) (view_form-Int (pos n))

named_seen : (n : Name) (at : ℕ) → view (named_at n at) ≡ node (named n) at
named_seen n at = view-expr (form.Named n) at ∙ ap (λ s. node s at) (view_form-Named n)

less_seen : (x : Text) (n x_at n_at : ℕ) → view (less_at x n x_at n_at) ≡ node (comparison (name_tree x x_at) compare.Lt (number_tree n n_at)) x_at
less_seen x n x_at n_at =
    view-expr (form.Compare (simple_at x x_at) compare.Lt (number_at n n_at)) x_at
    ∙ ap (λ s. node s x_at) (view_form-Compare (simple_at x x_at) compare.Lt (number_at n n_at)
    ∙ ap (λ a. comparison a compare.Lt (view (number_at n n_at))) (named_seen (name_at x x_at) x_at)
    ∙ ap (λ b. comparison (name_tree x x_at) compare.Lt b) (number_seen n n_at))

guard_seen : (c x : Text) (n c_at x_at n_at : ℕ) → view (guard_at c x n c_at x_at n_at)
    ≡ node (all_of (trees (name_tree c c_at) (trees (node (comparison (name_tree x x_at) compare.Lt (number_tree n n_at)) x_at) no_trees))) c_at
guard_seen c x n c_at x_at n_at =
    view-expr (form.And (simple_at c c_at ∷ less_at x n x_at n_at ∷ [])) c_at
    ∙ ap (λ s. node s c_at) (view_form-And (simple_at c c_at ∷ less_at x n x_at n_at ∷ [])
    ∙ ap (λ a. all_of (trees a (trees (view (less_at x n x_at n_at)) no_trees))) (named_seen (name_at c c_at) c_at)
    ∙ ap (λ b. all_of (trees (name_tree c c_at) (trees b no_trees))) (less_seen x n x_at n_at))

sum_seen : (x : Text) (n x_at n_at : ℕ) → view (sum_at x n x_at n_at) ≡ node (sum (name_tree x x_at) (terms false (number_tree n n_at) no_terms)) x_at
sum_seen x n x_at n_at =
    let rest : List Term = roll-Term (record { minus = false; value = number_at n n_at }) ∷ [] in
    view-expr (form.Sum (simple_at x x_at) rest) x_at
    ∙ ap (λ s. node s x_at) (view_form-Sum (simple_at x x_at) rest
    ∙ ap (λ a. sum a (view_terms rest)) (named_seen (name_at x x_at) x_at)
    ∙ ap (λ (t : Bool × Tree). sum (name_tree x x_at) (terms t.0 t.1 no_terms)) (view-term false (number_at n n_at))
    ∙ ap (λ b. sum (name_tree x x_at) (terms false b no_terms)) (number_seen n n_at))

-- ---- a plant

abbrev edge_with : List UseTree → Tree → UpdateTree → Option Ident → EdgeTree
edge_with us g u target = record { uses = us; guards = g ∷ []; updates = updates u no_updates; target = target }

abbrev body_with : (i most : ℕ) (at : ℕ → ℕ) → DeclTree → EdgeTree → AutomatonTree
body_with i most at d e = record {
  decls = d ∷ [];
  alphabet = None;
  monitor = None;
  locs = record { name = Some (ident_at (codes "idle") (at 17)); initial = true; marked = []; equations = []; edges = e ∷ [] } ∷ busy i most at ∷ [];
}

module _ (i most : ℕ) (at : ℕ → ℕ) where
  to_busy_seen : edge_tree (edge_to_busy i most at) ≡ to_busy i most at
  to_busy_seen =
      let us : List UseTree = use_of (numbered (codes "u") i) (at 19) ∷ [] in
      let target : Option Ident = Some (ident_at (codes "busy") (at 33)) in
      let n : Name = name_at (codes "n") (at 27) in
      let next : Expr = sum_at (codes "n") 1 (at 29) (at 31) in
      ap (λ g. edge_with us g (view_update (update.Set n next)) target) (guard_seen (numbered (codes "s") i) (codes "n") most (at 21) (at 23) (at 25))
      ∙ ap (λ u. edge_with us (guard i most at) u target) (view_update-Set n next ∙ ap (assignment n) (sum_seen (codes "n") 1 (at 29) (at 31)))

  variable_seen : decl_tree (variable_of_plant i most at) ≡ variable i most at
  variable_seen =
      let n : Ident = ident_at (codes "n") (at 13) in
      ap (λ a. disc_decl (range_type a (view (number_at most (at 11)))) n (Some (view (number_at 0 (at 15))))) (number_seen 0 (at 9))
      ∙ ap (λ b. disc_decl (range_type (number_tree 0 (at 9)) b) n (Some (view (number_at 0 (at 15))))) (number_seen most (at 11))
      ∙ ap (λ v. disc_decl (range_type (number_tree 0 (at 9)) (number_tree most (at 11))) n (Some v)) (number_seen 0 (at 15))

  body_seen : automaton_tree (automaton_of_plant i most at) ≡ plant_body i most at
  body_seen =
      ap (λ d. body_with i most at d (edge_tree (edge_to_busy i most at))) variable_seen
      ∙ ap (λ e. body_with i most at (variable i most at) e) to_busy_seen

  plant_item_seen : seen (item.Comp (roll-Comp (record { name = ident_at (numbered (codes "A") i) (at 7); body = body.Auto (automaton_of_plant i most at) })))
      ≡ component_item (ident_at (numbered (codes "A") i) (at 7)) (automaton_body (plant_body i most at))
  unfolding seen
  plant_item_seen =
      let name : Ident = ident_at (numbered (codes "A") i) (at 7) in
      ap source_item (view_item-Comp name (body.Auto (automaton_of_plant i most at)))
      ∙ ap (λ b. component_item name (source_body b)) (view_body-Auto (automaton_of_plant i most at))
      ∙ ap (λ t. component_item name (automaton_body t)) body_seen

decl_seen : (d : Decl) → seen (item.Decl d) ≡ decl_item (decl_tree d)
unfolding seen
decl_seen d = ap source_item (view_item-Decl d)

plant_seen : (i most : ℕ) (at : ℕ → ℕ) → map seen (plant_spec i most at) ≡ plant_items i most at
plant_seen i most at =
    let u : Decl = decl.Event class.Unc chan.No (ident_at (numbered (codes "u") i) (at 1)) in
    let c : Decl = decl.Event class.Con chan.No (ident_at (numbered (codes "c") i) (at 3)) in
    let s : Decl = decl.Input type.Bool (ident_at (numbered (codes "s") i) (at 5)) in
    let p : Item = item.Comp (roll-Comp (record { name = ident_at (numbered (codes "A") i) (at 7); body = body.Auto (automaton_of_plant i most at) })) in
    ap (λ x. x ∷ seen (item.Decl c) ∷ seen (item.Decl s) ∷ seen p ∷ []) (decl_seen u)
    ∙ ap (λ x. decl_item (decl_tree u) ∷ x ∷ seen (item.Decl s) ∷ seen p ∷ []) (decl_seen c)
    ∙ ap (λ x. decl_item (decl_tree u) ∷ decl_item (decl_tree c) ∷ x ∷ seen p ∷ []) (decl_seen s)
    ∙ ap (λ x. decl_item (decl_tree u) ∷ decl_item (decl_tree c) ∷ decl_item (decl_tree s) ∷ x ∷ []) (plant_item_seen i most at)

-- ---- a need

need_seen : (i j : ℕ) (at : ℕ → ℕ) → seen (need_spec i j at) ≡ need_item i j at
need_seen i j at =
    let c : List Name = name_at (numbered (codes "c") i) (at 1) ∷ [] in
    let n : Name = dotted_at (numbered (codes "A") j) (codes "idle") (at 3) (at 5) in
    decl_seen (decl.Inv (inv.Needs c (named_at n (at 3)))) ∙ ap (λ p. decl_item (invariant_decl (needs c p))) (named_seen n (at 3))

-- ---- all

perhaps_seen : (b : Bool) (x : Item) (y : SourceItem) → seen x ≡ y → map seen (if b then x ∷ [] else []) ≡ (if b then y ∷ [] else [])
perhaps_seen true x y e = ap (λ z. z ∷ []) e
perhaps_seen false x y e = refl

block_seen : (seed size i : ℕ) → map seen (block_spec seed size i) ≡ block_items seed size i
block_seen seed size i =
    let most = most_of seed i in
    let at : ℕ → ℕ = place (block_place seed size i) (plant_pieces i most) in
    let j = next_of size i in
    let need_at : ℕ → ℕ = place (need_place seed size i) (need_pieces i j) in
    map-append seen (plant_spec i most at) (if has_need seed size i then need_spec i j need_at ∷ [] else [])
    ∙ ap (λ xs. xs ++ map seen (if has_need seed size i then need_spec i j need_at ∷ [] else [])) (plant_seen i most at)
    ∙ ap (λ xs. plant_items i most at ++ xs) (perhaps_seen (has_need seed size i) (need_spec i j need_at) (need_item i j need_at) (need_seen i j need_at))

all_seen : (f : ℕ → List Item) (g : ℕ → List SourceItem) → ((i : ℕ) → map seen (f i) ≡ g i) → (ns : List ℕ) → map seen (flat_map f ns) ≡ flat_map g ns
all_seen f g h [] = refl
all_seen f g h (n ∷ ns) = map-append seen (f n) (flat_map f ns) ∙ ap (λ xs. xs ++ map seen (flat_map f ns)) (h n) ∙ ap (λ xs. g n ++ xs) (all_seen f g h ns)

pub made_spec_seen : (seed size : ℕ) → source_of (made_spec seed size) ≡ made_source seed size
made_spec_seen seed size =
    items_seen (flat_map (block_spec seed size) (numbers_below size))
    ∙ ap source_of_list (all_seen (block_spec seed size) (block_items seed size) (block_seen seed size) (numbers_below size))
