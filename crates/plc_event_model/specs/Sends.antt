-- What a choice sends over its event (CIF 3 language reference, "Channels"). Its value goes to a variable of its own, which the
-- updates read, and an integer is tested against the range of the channel before any of them is evaluated.
use Rattle.std.specs.Prelude.{ℕ, ℤ, pos, Bool, true, List, [], ◌∷◌, Option, Some, None, option_map, if◌then◌else◌}
use Rattle.cif_base.specs.declared.types.Ty.{Ty}
use Rattle.cif_system.specs.System.{State, Range, in_range}
use Rattle.cif_net_expr.specs.Tree.{NetExpr}
use Rattle.cif_net_model.specs.Net.{Net}
use Rattle.cif_net_model.specs.Meaning.{type_range, value_in}
use Rattle.cif_net_model.specs.Listing.{NetChoice}
use Rattle.cif_net_model.specs.Table.{carried_type}
use Rattle.grammar.specs.Pieces.{Text}
use Rattle.st_ast.specs.Tree.{Expr, named, order, all_of, exprs, no_exprs, Stms, assign, stms, append}
use Rattle.st_ast.specs.declared.tree.StOrder.TheVariants as cmp
use Rattle.plc_frame.specs.Events.{tested}
use Rattle.plc_expr.specs.Texts.{Naming, number_text, temps, text, before}
use Rattle.plc_event_model.specs.Writes.{is_tested}

-- ---- statements

-- the own variables of the sent expression
abbrev pub sent_temps : Option NetExpr → ℕ
sent_temps None = 0
sent_temps (Some e) = temps e

-- `lo <= name AND name <= hi`
abbrev pub lies_in : Text → Range → Expr
lies_in name r = all_of (exprs (order (number_text r.lo) cmp.Le (named name)) (exprs (order (named name) cmp.Le (number_text r.hi)) no_exprs))

-- where the value is in the range of the channel; a boolean and a literal of an enumeration are so by their kinds
abbrev pub where_fits : Text → Ty → Stms → Stms
where_fits name t ss = if is_tested t then tested (lies_in name (type_range t)) ss else ss

-- The value is sent over a channel of this type, and then other statements. The own variables of its expression are numbered
-- from k.
abbrev pub sends : Naming → ℕ → Option NetExpr → Option Ty → Stms → Stms
sends w k None t ss = ss
sends w k (Some e) None ss = ss
sends w k (Some e) (Some t) ss = append (before w k e) (stms (assign w.received (text w k e)) (where_fits w.received t ss))

-- ---- values

-- the value that the choice sends in a state, if it sends one
abbrev pub sent_in : Net → State → NetChoice → Option ℤ
sent_in n s c = option_map (value_in n s (pos 0)) c.sent

-- what its updates receive
abbrev pub received_in : Net → State → NetChoice → ℤ
received_in n s c = elim (sent_in n s c) [ None ↦ pos 0 | Some z ↦ z ]

-- such a value is in the range of the channel
abbrev pub carries : Option Ty → Option ℤ → Bool
carries None z = true
carries (Some t) None = true
carries (Some t) (Some z) = in_range (type_range t) z

abbrev pub sends_fit : Net → State → NetChoice → Bool
sends_fit n s c = carries (carried_type n c) (sent_in n s c)

-- ---- events

-- the type of what is sent over the event of these choices
abbrev pub event_type : Net → List NetChoice → Option Ty
event_type n [] = None
event_type n (c ∷ cs) = carried_type n c
