use Rattle.std.proofs.Common.{◌≡◌, ℕ, suc, ◌<◌, ◌++◌, List, ◌∷◌, length, get_or, drop, drop-cons, sym, ap, ◌∙◌, subst, Some, None}
use Rattle.std.specs.Prelude.{filter_map}
use Rattle.std.specs.List.{cons_option}
use Rattle.cif_system.specs.Words.{AreDistinct}
use Rattle.cif_inst_components.specs.declared.components.Component.{Component}
use Rattle.cif_inst_components.specs.declared.components.Place.{Place}
use Rattle.cif_inst_components.specs.Children.{place_in}
use Rattle.cif_inst_components.specs.Numbers.{stands_of}
use Rattle.cif_inst_components.proofs.ChildLaws.{found-none}
use Rattle.cif_inst_components.proofs.numbering.children_of.Goals as goal

-- the place of the next component is none of those before
fresh : (all : List Component) (i : ℕ) (c : Component) (q : Place) (children : List Place) → i < length all → (get_or all i c).stands ≡ Some q → AreDistinct (filter_map stands_of all)
    → children ++ filter_map stands_of (drop i all) ≡ filter_map stands_of all → place_in children q ≡ None
fresh all i c q children l s d h =
    let rest : List Place = filter_map stands_of (drop (suc i) all) in
    let next : filter_map stands_of (drop i all) ≡ q ∷ rest = ap (filter_map stands_of) (drop-cons all i c l) ∙ ap (λ o. cons_option o rest) s in
    found-none children rest q (subst (λ qs. AreDistinct qs) (sym h ∙ ap (λ qs. children ++ qs) next) d)

pub add-requires : goal.add-requires
add-requires c =
    fresh c.args.all.now c.loop-component.component-index (record { body = 0; stands = None }) c.in-Some.stands c.loop-component.children c.loop-component-test.true c.in-Some.is c.requires c.loop-component.invariant
