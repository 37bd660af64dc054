-- What is asked of the variables that the statements of a choice have for themselves.
use Rattle.std.specs.Prelude.{◌≡◌, ◌≢◌, ℕ, ◌+◌, ◌≤◌, ◌<◌, ◌^◌, true, false, List, length, Option, Some, slice_get}
use Rattle.cif_base.specs.declared.types.Ty.{Ty}
use Rattle.cif_system.specs.Words.{Member}
use Rattle.cif_net_expr.specs.Tree.{NetUpdates}
use Rattle.cif_net_model.specs.Net.{NetStored, Net}
use Rattle.cif_net_model.specs.Exprs.{targets}
use Rattle.cif_net_model.specs.Facts.{has}
use Rattle.grammar.specs.Pieces.{Text}
use Rattle.st_ast.specs.Tree.{Program}
use Rattle.st_ast.specs.Names.{same_name, place_of}
use Rattle.st_ast.specs.declared.tree.StTy.{StTy}
use Rattle.st_ast.specs.declared.tree.StTy.TheVariants as ty
use Rattle.plc_model.specs.declared.letter.Letter.TheVariants as letter
use Rattle.plc_model.specs.Names.{name_for}
use Rattle.plc_model.specs.Face.{IsDeclared}
use Rattle.plc_expr.specs.Texts.{Naming}
use Rattle.plc_event_model.specs.Writes.{NewNames, any_tested}
use Rattle.plc_event_model.specs.Own.{new_type, sent_type}

-- It is one of the event's own variables, declared with this type. Its number is neither that of the mark nor that of the
-- counter.
pub record IsTemp (p : Program) (own : List Text) (x : Text) (t : StTy) : Type 0 where
  pub number : ℕ
  pub path : Text
  pub above : 2 ≤ number
  pub small : number < 2 ^ 32
  pub name : x ≡ name_for letter.T number path
  pub is_declared : IsDeclared p.vars x t
  pub among : Member x own

-- the new value of a variable has such a variable
pub record IsNew (n : Net) (p : Program) (own : List Text) (y : NewNames) (v : ℕ) : Type 0 where
  pub stored : NetStored
  pub at : slice_get n.vars v ≡ Some stored
  pub temp : IsTemp p own (y.next v) (new_type stored.type_of)

-- There is one for the new value of each assigned variable, one for the mark where a new value is tested, one for what is
-- received where the event has such a type, and one for each `if` of an expression, these at the places from `base` on. Each
-- has a name of its own.
pub record OwnStand (n : Net) (p : Program) (own : List Text) (w : Naming) (y : NewNames) (base low count : ℕ) (t : Option Ty) (us : NetUpdates) : Type 0 where
  pub next : (v : ℕ) → has (targets us) v ≡ true → IsNew n p own y v
  pub next_apart : (v u : ℕ) → has (targets us) v ≡ true → has (targets us) u ≡ true → v ≢ u → same_name (y.next v) (y.next u) ≡ false
  pub next_own : (v k : ℕ) → has (targets us) v ≡ true → low ≤ k → k < count → same_name (y.next v) (w.own k) ≡ false
  pub mark : any_tested n us ≡ true → IsTemp p own y.in_range ty.Bool
  pub mark_apart : (v : ℕ) → any_tested n us ≡ true → has (targets us) v ≡ true → same_name y.in_range (y.next v) ≡ false
  pub mark_own : (k : ℕ) → any_tested n us ≡ true → low ≤ k → k < count → same_name y.in_range (w.own k) ≡ false
  pub sent : (u : Ty) → t ≡ Some u → IsTemp p own w.received (sent_type u)
  pub sent_next : (u : Ty) (v : ℕ) → t ≡ Some u → has (targets us) v ≡ true → same_name w.received (y.next v) ≡ false
  pub sent_mark : (u : Ty) → t ≡ Some u → any_tested n us ≡ true → same_name w.received y.in_range ≡ false
  pub sent_own : (u : Ty) (k : ℕ) → t ≡ Some u → low ≤ k → k < count → same_name w.received (w.own k) ≡ false
  pub own_type : ℕ → StTy
  pub own_temp : (k : ℕ) → low ≤ k → k < count → IsTemp p own (w.own k) (own_type k)
  pub own_places : (k : ℕ) → low ≤ k → k < count → place_of p.vars (w.own k) ≡ base + k
  pub own_inside : base + count ≤ length p.vars
