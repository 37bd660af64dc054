use Rattle.std.proofs.Common.{◌≡◌, List, map, sym, ap, subst, ◌∙◌, ◌+◌, length}
use Rattle.std.specs.List.{AllByRecursion}
use Rattle.cif_net.specs.View.{choice_tree, net_tree}
use Rattle.cif_net.specs.declared.listing.Choice.{Choice}
use Rattle.plc_frame.specs.Given.{EventPart, FrameFits, own_variables, part_tree}
use Rattle.plc_event_model.specs.ProgramParts.{HasParts, net_parts, shown_first, shown_part}
use Rattle.plc_gen.specs.Named.{IsNamedChoice}
use Rattle.plc_gen.specs.Order.{Ascending}
use Rattle.plc_gen.proofs.Fitting.{algs-there, all-there, has-parts, if-ok, in-order}
use Rattle.plc_gen.proofs.program.emit_fitting.Goals as goal

pub all_parts-requires-clause-named : goal.all_parts-requires-clause-named
all_parts-requires-clause-named c =
    subst (λ (cs : List Choice). AllByRecursion (IsNamedChoice (net_tree c.args.guarded.now.plain.net)) (map choice_tree cs)) (sym c.as_slice.ensures) (all-there c.args.guarded.now)

pub all_parts-requires-clause-ascending : goal.all_parts-requires-clause-ascending
all_parts-requires-clause-ascending c = subst (λ (cs : List Choice). Ascending 0 (map choice_tree cs)) (sym c.as_slice.ensures) (in-order c.args.guarded.now)

pub shown_part_of-requires-clause-named : goal.shown_part_of-requires-clause-named
shown_part_of-requires-clause-named c = algs-there c.args.guarded.now

pub frame-requires-clause-fits : goal.frame-requires-clause-fits
frame-requires-clause-fits c =
    let n = net_tree c.args.guarded.now.plain.net in
    let cs = map choice_tree c.args.guarded.now.choices in
    let parts_is : map part_tree c.in_ok-parts.field-0.parts ≡ net_parts n cs = c.in_ok-parts.ensures.parts ∙ ap (λ (ds : List Choice). net_parts n (map choice_tree ds)) c.as_slice.ensures in
    let next_is : c.in_ok-parts.field-0.next ≡ shown_first n cs = c.in_ok-parts.ensures.next ∙ ap (λ (ps : List EventPart). 2 + length (own_variables ps)) parts_is in
    let shown_is : part_tree c.into_inner-shown.result ≡ shown_part n (shown_first n cs) = ap part_tree c.into_inner-shown.ensures ∙ c.in_ok-made.ensures ∙ ap (shown_part n) next_is in
    let last_is : c.in_ok-last.last ≡ shown_first n cs + length (shown_part n (shown_first n cs)).own =
    c.in_ok-last.ensures ∙ ap (λ k. c.in_ok-parts.field-0.next + k) (c.len.ensures ∙ ap (λ (p : EventPart). length p.own) shown_is) ∙ ap (λ j. j + length (shown_part n (shown_first n cs)).own) next_is in
    let has : HasParts n cs c.args.bounds.unc c.args.bounds.con =
    has-parts c.args.guarded.now c.args.bounds.unc c.args.bounds.con c.in_ok-last.last c.in_ok-names.ensures.small_variables c.in_ok-names.ensures.small_inputs c.requires.unc c.requires.con last_is
    c.if-last-gt-MOST_OWN.false in
    subst (λ (q : EventPart). FrameFits n c.args.bounds.unc c.args.bounds.con (map part_tree c.in_ok-parts.field-0.parts) q) (sym shown_is)
    (subst (λ (ps : List EventPart). FrameFits n c.args.bounds.unc c.args.bounds.con ps (shown_part n (shown_first n cs))) (sym parts_is) (c.requires.fits has))

pub returns-clause-parts : goal.returns-clause-parts
returns-clause-parts c =
    let n = net_tree c.args.guarded.now.plain.net in
    let cs = map choice_tree c.args.guarded.now.choices in
    let parts_is : map part_tree c.in_ok-parts.field-0.parts ≡ net_parts n cs = c.in_ok-parts.ensures.parts ∙ ap (λ (ds : List Choice). net_parts n (map choice_tree ds)) c.as_slice.ensures in
    let next_is : c.in_ok-parts.field-0.next ≡ shown_first n cs = c.in_ok-parts.ensures.next ∙ ap (λ (ps : List EventPart). 2 + length (own_variables ps)) parts_is in
    let shown_is : part_tree c.into_inner-shown.result ≡ shown_part n (shown_first n cs) = ap part_tree c.into_inner-shown.ensures ∙ c.in_ok-made.ensures ∙ ap (shown_part n) next_is in
    let last_is : c.in_ok-last.last ≡ shown_first n cs + length (shown_part n (shown_first n cs)).own =
    c.in_ok-last.ensures ∙ ap (λ k. c.in_ok-parts.field-0.next + k) (c.len.ensures ∙ ap (λ (p : EventPart). length p.own) shown_is) ∙ ap (λ j. j + length (shown_part n (shown_first n cs)).own) next_is in
    let has : HasParts n cs c.args.bounds.unc c.args.bounds.con =
    has-parts c.args.guarded.now c.args.bounds.unc c.args.bounds.con c.in_ok-last.last c.in_ok-names.ensures.small_variables c.in_ok-names.ensures.small_inputs c.requires.unc c.requires.con last_is
    c.if-last-gt-MOST_OWN.false in
    if-ok c.frame.result (HasParts n cs c.args.bounds.unc c.args.bounds.con) has
