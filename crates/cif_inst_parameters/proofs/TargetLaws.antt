-- What a name finds, and whether that is a parameter, by what is said of the slot there.
use Rattle.std.proofs.Common.{◌≡◌, Option, Some, sym, ◌∙◌, ap, subst}
use Rattle.std.specs.Prelude.{option_map}
use Rattle.cif_source.specs.Source.{Source}
use Rattle.cif_source.specs.Components.{Component, as_written, Entry, declared, literal, location, inner, definition, instance, parameter}
use Rattle.cif_source.specs.Lookup.{Reached, reached, missing, blocked}
use Rattle.cif_scope.specs.declared.scope.What.{What}
use Rattle.cif_scope.specs.Looks.{what_at}
use Rattle.cif_scope.specs.Tables.{IsWhat}
use Rattle.cif_scope.proofs.FindLaws.{what-of}
use Rattle.cif_inst_components.specs.declared.components.Component.{Component as Row}
use Rattle.cif_inst_components.specs.declared.components.Place.{Place}
use Rattle.cif_inst_components.specs.Numbers.{Finds}
use Rattle.cif_inst_components.proofs.FindChildren.{row-for}
use Rattle.cif_inst_parameters.specs.declared.following.Target.{Target}
use Rattle.cif_inst_parameters.specs.declared.following.Follower.{Follower}
use Rattle.cif_inst_parameters.specs.Passing.{and_then}
use Rattle.cif_inst_parameters.specs.Following.{is_parameter, target, target_at, LooksIn, leads_to_parameter, FindsTarget}

what-parameter : (t : Source) (c d : Component) (e : Entry) (w : What) → IsWhat t c e w → is_parameter w ≡ leads_to_parameter (reached (d, e))
what-parameter t c d (declared x) w h = ap is_parameter h.1
what-parameter t c d (literal k ls) w h = ap is_parameter h
what-parameter t c d (location k) w h = ap is_parameter h
what-parameter t c d (inner n b) w h = ap is_parameter h.1
what-parameter t c d (definition n ps b) w h = ap is_parameter h.1
what-parameter t c d (instance i) w h = ap is_parameter h.1
what-parameter t c d (parameter k p) w h = ap is_parameter h

pub found-target : (t : Source) (f : Follower) → LooksIn t f → (r : Reached) (p : Place) → Finds t r (Some p) → (o : Option Target) → o ≡ target_at f.scopes.now f.components.now.all p → FindsTarget t r o
found-target t f looks missing p h o e = absurd h
found-target t f looks blocked p h o e = absurd h
found-target t f looks (reached (c, e)) p h o same =
    let s = f.scopes.now in
    let cs = f.components.now in
    let r = row-for t s looks.scopes looks.components.few cs.all looks.components.all p.component c h.0 in
    let w = what-of t s.table looks.scopes.numbers.table looks.scopes.numbers.indexed r.0.body p.slot c e r.2.body h.1 in
    let is : o ≡ Some (target p (is_parameter w.0)) =
    same ∙ ap (λ z. and_then z (λ (x : Row). option_map (λ y. target p (is_parameter y)) (what_at s.table x.body p.slot))) r.1 ∙ ap (option_map (λ y. target p (is_parameter y))) w.1 in
    subst (FindsTarget t (reached (c, e))) (sym is) (h, what-parameter t (as_written c) c e w.0 w.2)
