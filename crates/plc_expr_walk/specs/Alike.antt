-- When two ways of naming name alike what an expression names.
use Rattle.std.specs.Prelude.{◌≡◌, ℕ, List}
use Rattle.std.specs.List.{AllByRecursion}
use Rattle.cif_net_model.specs.Reads.{Read, a_var, an_input, an_alg, a_place, the_received}
use Rattle.plc_expr.specs.Texts.{Naming}

abbrev pub IsAlike : Naming → Naming → Read → Type 0
IsAlike w v (a_var k) = w.variable k ≡ v.variable k
IsAlike w v (an_input k) = w.input k ≡ v.input k
IsAlike w v (an_alg k) = Unit {0}
IsAlike w v (a_place a) = (p : ℕ) → w.located a p ≡ v.located a p
IsAlike w v the_received = w.received ≡ v.received

-- what is named is named alike, and so is each own variable
abbrev pub AreAlike : Naming → Naming → List Read → Type 0
AreAlike w v qs = AllByRecursion (IsAlike w v) qs × ((k : ℕ) → w.own k ≡ v.own k)
