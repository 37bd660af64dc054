use Rattle.std.proofs.Common.{rules, ◌≡◌, ◌++◌, ℕ, ◌+◌, ◌∙◌, length, List, [], ◌∷◌, refl, ap, None, arith}
use Rattle.std.specs.Prelude.{reverse}
use Rattle.cif_source.specs.Objects.{most_objects}
use Rattle.cif_inst_components.specs.declared.components.Component.{Component}
use Rattle.cif_inst_components.specs.Sizes.{stop}
use Rattle.cif_inst_components.specs.Listing as listing
use Rattle.cif_inst_components.proofs.ListSteps.{component, from_waiting, listed-start, listed-more}
use Rattle.cif_inst_components.proofs.ListSizes.{stop-more}
use Rattle.cif_inst_components.proofs.listing.listed.Goals as goal

size-one : (size n : ℕ) → size ≡ n → size + 1 ≡ 1 + n
size-one size n h = omega arith

pub loop-count-init : goal.loop-count-init
loop-count-init c =
    let pushed : c.push.new.self ≡ component 0 None ∷ [] = search rules in
    let waits : c.wait_for.new.waiting.items ≡ listing.waiting_in c.args.bodies.now.kids.now 0 0 most_objects = search rules in
    record {
      all = ap (λ (l : List Component). l ++ listing.rest c.args.bodies.now.kids.now (length l) (reverse c.wait_for.new.waiting.items)) pushed
          ∙ listed-start c.args.bodies.now.kids.now c.wait_for.new.waiting.items waits;
      within = omega (arith, c.with_more-count.ensures);
      counted = c.with_more-count.ensures ∙ stop-more c.args.bodies.now.sizes.now [] c.push.new.self (component 0 None) c.size_of.result 0 (stop (1 + c.size_of.result)) refl (size-one c.size_of.result _ c.size_of.ensures) pushed refl;
    }

pub loop-count-preserved : goal.loop-count-preserved
loop-count-preserved c =
    let pushed : c.push-in-loop-count.new.self ≡ c.loop-count.all ++ from_waiting c.in-Some.next ∷ [] = search rules in
    let old : c.loop-count.waiting.items ≡ c.pop.new.self.items ++ c.in-Some.next ∷ [] = search rules in
    let number : c.in_ok-component.component ≡ length c.loop-count.all = search rules in
    let waits : c.wait_for-in-loop-count.new.waiting.items ≡ c.pop.new.self.items ++ listing.waiting_in c.args.bodies.now.kids.now c.in_ok-component.component c.in-Some.next.body c.in-Some.next.depth = search rules in
    record {
      all = listed-more c.args.bodies.now.kids.now (listing.listed c.args.bodies.now.kids.now) c.loop-count.all c.push-in-loop-count.new.self c.loop-count.waiting.items c.pop.new.self.items
          c.wait_for-in-loop-count.new.waiting.items c.in-Some.next c.in_ok-component.component number old waits pushed c.loop-count.invariant.all;
      within = omega (arith, c.with_more-count-in-loop-count.ensures);
      counted = stop-more c.args.bodies.now.sizes.now c.loop-count.all c.push-in-loop-count.new.self (from_waiting c.in-Some.next) c.size_of-in-loop-count.result c.loop-count.count
          c.with_more-count-in-loop-count.result c.loop-count.invariant.counted (size-one c.size_of-in-loop-count.result _ c.size_of-in-loop-count.ensures) pushed c.with_more-count-in-loop-count.ensures;
    }
