-- A flat net of automata as plain data: numbers stand for names, and places in the text stand beside what is told of
-- there (CIF 3 language reference, "Automata", "Expressions").
use Rattle.std.specs.Prelude.{ℕ, ℤ, Bool, List, Option}
use Rattle.cif_base.specs.declared.types.Ty.{Ty}
use Rattle.cif_system.specs.System.{Class, Role}
use Rattle.cif_net_expr.specs.Tree.{NetExpr, NetUpdates}

-- the bytes of a text
abbrev pub Text : Type 0
Text = List ℕ

-- no channel, a void one, or one for values of a type
pub data NetChan : Type 0 where
  no_net_chan void_net_chan : NetChan
  net_chan_of : Ty → NetChan

-- An edge for one event. `places` says where its values stand: the sent value, and then the assigned names.
pub record NetEdge : Type 0 where
  pub event : ℕ
  pub role : Role
  pub from : ℕ
  pub to : ℕ
  pub guard : NetExpr
  pub sent : Option NetExpr
  pub updates : NetUpdates
  pub places : List ℕ

-- `locs` are the names of the locations, empty for one without a name.
pub record NetAuto : Type 0 where
  pub path : Text
  pub locs : List Text
  pub first : ℕ
  pub alphabet : List ℕ
  pub monitors : List ℕ
  pub edges : List NetEdge

pub record NetEvent : Type 0 where
  pub path : Text
  pub class : Class
  pub chan : NetChan

-- a discrete variable or an input; `literals` is empty where the type is no enumeration
pub record NetStored : Type 0 where
  pub path : Text
  pub type_of : Ty
  pub first : ℤ
  pub literals : List Text

-- one expression, or one for each location of an automaton
pub data AlgValue : Type 0 where
  one_value : NetExpr → AlgValue
  by_loc : (auto : ℕ) (values : List NetExpr) → AlgValue

pub record NetAlg : Type 0 where
  pub path : Text
  pub type_of : Ty
  pub literals : List Text
  pub value : AlgValue

-- the event needs the predicate where `allows` is true, and else the predicate disables it
pub record NetExclusion : Type 0 where
  pub event : ℕ
  pub pred : NetExpr
  pub allows : Bool

-- a state invariant, and where it stands
pub record NetInvariant : Type 0 where
  pub pred : NetExpr
  pub at : ℕ

pub record Net : Type 0 where
  pub autos : List NetAuto
  pub events : List NetEvent
  pub inputs : List NetStored
  pub vars : List NetStored
  pub algs : List NetAlg
  pub exclusions : List NetExclusion
  pub invariants : List NetInvariant
