-- The text of the state invariants that are tested after a choice, and the statements where they hold.
use Rattle.std.proofs.Common.{◌≡◌, ℕ, suc, ◌+◌, ◌<◌, ◌≤◌, Bool, true, false, ◌↔◌, IsTrue, List, [], ◌∷◌, ◌++◌, map, length, get_or, drop, Option, Some, refl, sym, ap, ap₂, ◌∙◌, arith}
use Rattle.std.specs.Prelude.{option_map, slice_get}
use Rattle.std.proofs.lemmas.Option.{slice_get-map}
use Rattle.std.specs.List.{AllByRecursion, cons_option}
use Rattle.std.proofs.lemmas.List.{append-nil, append_assoc, drop_all, map-append}
use Rattle.cif_net_expr.specs.Tree.{NetExpr}
use Rattle.cif_net_model.specs.Listing.{NetChoice, all_hold, exprs_of}
use Rattle.cif_net_model.specs.Net.{NetInvariant, Net}
use Rattle.cif_net_model.specs.Reads.{Read, names_in}
use Rattle.cif_net_expr.specs.View.{view}
use Rattle.cif_net.specs.Parts.{invariant_tree}
use Rattle.cif_net.specs.View.{net_tree}
use Rattle.cif_net.specs.declared.net.Net as plain
use Rattle.cif_net.specs.declared.predicates.Invariant.{Invariant}
use Rattle.st_ast.specs.Tree.{Stms, append}
use Rattle.st_ast.specs.View.{view_expr}
use Rattle.st_ast.specs.declared.tree.StExpr.{StExpr}
use Rattle.plc_expr.specs.Texts.{Naming, before, list_before, list_temps, temps, text, texts}
use Rattle.plc_expr.specs.Written.{naming_of}
use Rattle.plc_expr.specs.declared.names.Names.{Names}
use Rattle.plc_frame.specs.Events.{tested}
use Rattle.plc_event_model.specs.Keeps.{after_naming, asked, invariants_at, where_hold, where_kept}
use Rattle.plc_event_model.specs.Writes.{NewNames}
use Rattle.plc_expr_walk.specs.Alike.{IsAlike}
use Rattle.plc_expr_walk.proofs.Alike.{same-before, same-text}
use Rattle.plc_expr_walk.proofs.Joining.{append-none, drop-item, moved}
use Rattle.plc_event.specs.After.{AreAfter}
use Rattle.plc_event.specs.Changed.{predicate_at}
use Rattle.plc_event.proofs.Aftering.{all-alike, own-after}

all-reads : (P : Read → Type 0) → ((q : Read) → P q) → (qs : List Read) → AllByRecursion P qs
all-reads P f [] = tt
all-reads P f (q ∷ qs) = (f q, all-reads P f qs)

-- ---- one invariant after the other

pub predicate-there : (net : plain.Net) (x : ℕ) (i : Invariant) → Some i ≡ slice_get net.invariants x → predicate_at (net_tree net) x ≡ Some (view i.pred)
predicate-there net x i is =
    ap (λ (o : Option NetInvariant). option_map (λ (j : NetInvariant). j.pred) o) (slice_get-map invariant_tree net.invariants x ∙ ap (λ (o : Option Invariant). option_map invariant_tree o) (sym is))

module _ (n : Net) (numbers : List ℕ) (i x : ℕ) (e : NetExpr) (within : i < length numbers) (item : x ≡ get_or numbers i x) (there : predicate_at n x ≡ Some e) where
  pub invariant-head : invariants_at n (drop i numbers) ≡ e ∷ invariants_at n (drop (i + 1) numbers)
  invariant-head = ap (invariants_at n) (drop-item numbers i x within item) ∙ ap (λ (o : Option NetExpr). cons_option o (invariants_at n (drop (i + 1) numbers))) there

  abbrev left : List NetExpr
  left = invariants_at n (drop (i + 1) numbers)

  module _ (w : Naming) where
    pub invariant-text : (k next : ℕ) (all new : List StExpr) (one : StExpr) → view_expr one ≡ text w k e → next ≡ k + temps e → new ≡ all ++ one ∷ []
        → map view_expr new ++ texts w next (exprs_of left) ≡ map view_expr all ++ texts w k (exprs_of (invariants_at n (drop i numbers)))
    invariant-text k next all new one one_is next_is new_is =
        ap (λ (xs : List StExpr). map view_expr xs ++ texts w next (exprs_of left)) new_is
        ∙ ap (λ xs. xs ++ texts w next (exprs_of left)) (map-append view_expr all (one ∷ []))
        ∙ append_assoc (map view_expr all) (view_expr one ∷ []) (texts w next (exprs_of left))
        ∙ ap₂ (λ d j. map view_expr all ++ (d ∷ texts w j (exprs_of left))) one_is next_is
        ∙ ap (λ es. map view_expr all ++ texts w k (exprs_of es)) (sym invariant-head)

    pub invariant-before : (k next : ℕ) (old new : Stms) → next ≡ k + temps e → new ≡ append old (before w k e)
        → append new (list_before w next (exprs_of left)) ≡ append old (list_before w k (exprs_of (invariants_at n (drop i numbers))))
    invariant-before k next old new next_is new_is =
        moved old new (before w k e) (list_before w next (exprs_of left)) (list_before w k (exprs_of (invariants_at n (drop i numbers)))) new_is
        (ap (λ es. list_before w k (exprs_of es)) invariant-head ∙ ap (λ j. append (before w k e) (list_before w j (exprs_of left))) (sym next_is))

  pub invariant-next : (k next : ℕ) → next ≡ k + temps e → next + list_temps (exprs_of left) ≡ k + list_temps (exprs_of (invariants_at n (drop i numbers)))
  invariant-next k next next_is = let head = ap (λ es. list_temps (exprs_of es)) invariant-head in omega arith

module _ (n : Net) (numbers : List ℕ) (i : ℕ) (past : length numbers ≤ i) where
  pub no-invariant-left : invariants_at n (drop i numbers) ≡ []
  no-invariant-left = ap (invariants_at n) (drop_all i numbers past)

  pub text-done : (w : Naming) (k : ℕ) (all : List StExpr) → map view_expr all ++ texts w k (exprs_of (invariants_at n (drop i numbers))) ≡ map view_expr all
  text-done w k all = ap (λ es. map view_expr all ++ texts w k (exprs_of es)) no-invariant-left ∙ append-nil (map view_expr all)

  pub next-done : (k : ℕ) → k + list_temps (exprs_of (invariants_at n (drop i numbers))) ≡ k
  next-done k = let end = ap (λ es. list_temps (exprs_of es)) no-invariant-left in omega arith

  pub before-done : (w : Naming) (k : ℕ) (old : Stms) → append old (list_before w k (exprs_of (invariants_at n (drop i numbers)))) ≡ old
  before-done w k old = ap (λ es. append old (list_before w k (exprs_of es))) no-invariant-left ∙ append-none old

-- ---- whether there are any

pub none-found : (xs : List ℕ) (k : ℕ) (b : Bool) → length xs ≡ k → (IsTrue b ↔ (xs ≡ [])) → b ≡ true → k ≡ 0
none-found xs k b same h on = sym same ∙ ap (λ (ys : List ℕ). length ys) (h.0 (go b on))
  where
    go : (d : Bool) → d ≡ true → IsTrue d
    go true e = refl
    go false e = absurd cc

pub some-found : (xs : List ℕ) (k : ℕ) (b : Bool) → length xs ≡ k → (IsTrue b ↔ (xs ≡ [])) → b ≡ false → (j : ℕ) × (k ≡ suc j)
some-found [] k b same h off = let t : IsTrue b = h.1 refl in absurd cc
some-found (x ∷ xs) k b same h off = (length xs, sym same)

-- ---- where they hold

-- there are none
pub none-tested : (n : Net) (w : Naming) (y : NewNames) (k : ℕ) (c : NetChoice) (ss : Stms) → length (asked n c) ≡ 0 → ss ≡ where_kept n w y k c ss
none-tested n w y k c ss none = go (asked n c) none
  where
    go : (es : List NetExpr) → length es ≡ 0 → ss ≡ where_hold (after_naming n w y c) k es ss
    go [] h = refl
    go (e ∷ es) h = absurd (omega (arith, h))

pub no-temps-kept : (n : Net) (c : NetChoice) (k : ℕ) → length (asked n c) ≡ 0 → k ≡ k + temps (all_hold (asked n c))
no-temps-kept n c k none = let e = go (asked n c) none in omega arith
  where
    go : (es : List NetExpr) → length es ≡ 0 → temps (all_hold es) ≡ 0
    go [] h = refl
    go (e ∷ es) h = absurd (omega (arith, h))

-- there are some
module _ (n : Net) (names : Names) (y : NewNames) (c : NetChoice) (x : Names) (after : AreAfter n names y c x) (k : ℕ) (ss : Stms) where
  abbrev w : Naming
  w = after_naming n (naming_of names) y c

  hold-text : (e : NetExpr) → text (naming_of x) k e ≡ text w k e
  hold-text e = same-text (naming_of x) w (own-after n names y c x after) k e (all-reads (IsAlike (naming_of x) w) (all-alike n names y c x after) (names_in e))

  hold-before : (e : NetExpr) → before (naming_of x) k e ≡ before w k e
  hold-before e = same-before (naming_of x) w (own-after n names y c x after) k e (all-reads (IsAlike (naming_of x) w) (all-alike n names y c x after) (names_in e))

  some-hold : (es : List NetExpr) (count : ℕ) → length es ≡ suc count → append (before (naming_of x) k (all_hold es)) (tested (text (naming_of x) k (all_hold es)) ss) ≡ where_hold w k es ss
  some-hold [] count h = absurd (omega (arith, h))
  some-hold (e ∷ es) count h = ap₂ (λ bs d. append bs (tested d ss)) (hold-before (all_hold (e ∷ es))) (hold-text (all_hold (e ∷ es)))

  pub kept-written : (es : List NetExpr) (count : ℕ) → es ≡ asked n c → length (asked n c) ≡ suc count → (all : Stms)
      → all ≡ append (before (naming_of x) k (all_hold es)) (tested (text (naming_of x) k (all_hold es)) ss) → all ≡ where_kept n (naming_of names) y k c ss
  kept-written es count es_is some all all_is =
      all_is ∙ some-hold es count (ap (λ (ds : List NetExpr). length ds) es_is ∙ some) ∙ ap (λ ds. where_hold w k ds ss) es_is
