use Rattle.std.proofs.Common.{List, map, reverse, sym, ap, ◌∙◌}
use Rattle.std.proofs.lemmas.List.{reverse-reverse}
use Rattle.cif_system.specs.System.{con, unc}
use Rattle.cif_system.specs.Step.{same_class}
use Rattle.cif_net.specs.declared.events.Class.{Class}
use Rattle.cif_net.specs.declared.events.Event.{Event}
use Rattle.cif_net.specs.View.{class_of, event_tree}
use Rattle.st_ast.specs.View.{view_stmts}
use Rattle.st_ast.specs.declared.tree.Stmt.{Stmt}
use Rattle.plc_frame.specs.Tries.{class_bodies}
use Rattle.plc_frame.proofs.LoopLaws.{bodies-done, bodies-left, bodies-taken}
use Rattle.plc_frame.proofs.tries.class_bodies.Goals.{in-Unc+in_ok-append-in-Unc, in-Con+in_ok-append-in-Con, in-Plain}
use Rattle.plc_frame.proofs.tries.class_bodies.Goals as goal

pub loop-event-preserved : goal.loop-event-preserved
loop-event-preserved c =
    elim c.match-event.branch [
      | in-Unc+in_ok-append-in-Unc w ↦ record {
        unc = bodies-taken unc c.as_slice-event-items.result.now c.loop-event.event-index c.event-item.result c.loop-event.unc c.last_body-body.result c.match-event.unc _ _ c.loop-event-test.true c.event-item.is
            (ap (λ (k : Class). same_class unc (class_of k)) w.in-Unc.is) c.last_body-body.ensures.body c.last_body-body.ensures.rest (w.unc-is ∙ w.in_ok-append-in-Unc.ensures)
            ∙ c.loop-event.invariant.unc;
        con = bodies-left con c.as_slice-event-items.result.now c.loop-event.event-index c.event-item.result c.loop-event.con c.match-event.con _ _ c.loop-event-test.true c.event-item.is
            (ap (λ (k : Class). same_class con (class_of k)) w.in-Unc.is) c.last_body-body.ensures.rest w.con-is
            ∙ c.loop-event.invariant.con;
      }
      | in-Con+in_ok-append-in-Con w ↦ record {
        unc = bodies-left unc c.as_slice-event-items.result.now c.loop-event.event-index c.event-item.result c.loop-event.unc c.match-event.unc _ _ c.loop-event-test.true c.event-item.is
            (ap (λ (k : Class). same_class unc (class_of k)) w.in-Con.is) c.last_body-body.ensures.rest w.unc-is
            ∙ c.loop-event.invariant.unc;
        con = bodies-taken con c.as_slice-event-items.result.now c.loop-event.event-index c.event-item.result c.loop-event.con c.last_body-body.result c.match-event.con _ _ c.loop-event-test.true c.event-item.is
            (ap (λ (k : Class). same_class con (class_of k)) w.in-Con.is) c.last_body-body.ensures.body c.last_body-body.ensures.rest (w.con-is ∙ w.in_ok-append-in-Con.ensures)
            ∙ c.loop-event.invariant.con;
      }
      | in-Plain w ↦ record {
        unc = bodies-left unc c.as_slice-event-items.result.now c.loop-event.event-index c.event-item.result c.loop-event.unc c.match-event.unc _ _ c.loop-event-test.true c.event-item.is
            (ap (λ (k : Class). same_class unc (class_of k)) w.in-Plain.is) c.last_body-body.ensures.rest w.unc-is
            ∙ c.loop-event.invariant.unc;
        con = bodies-left con c.as_slice-event-items.result.now c.loop-event.event-index c.event-item.result c.loop-event.con c.match-event.con _ _ c.loop-event-test.true c.event-item.is
            (ap (λ (k : Class). same_class con (class_of k)) w.in-Plain.is) c.last_body-body.ensures.rest w.con-is
            ∙ c.loop-event.invariant.con;
      }
    ]

pub returns-clause-unc : goal.returns-clause-unc
returns-clause-unc c =
    sym (bodies-done unc c.as_slice-event-items.result.now c.loop-event.event-index c.loop-event.unc (map view_stmts (reverse c.loop-event.bodies)) c.loop-event-test.false)
    ∙ c.loop-event.invariant.unc
    ∙ ap (λ (es : List Event). class_bodies unc (map event_tree es) (map view_stmts (reverse c.reverse.new.self))) c.as_slice-event-items.ensures
    ∙ ap (λ (ls : List (List Stmt)). class_bodies unc (map event_tree c.args.net.now.events) (map view_stmts ls)) (ap reverse c.reverse.ensures ∙ reverse-reverse c.args.bodies)

pub returns-clause-con : goal.returns-clause-con
returns-clause-con c =
    sym (bodies-done con c.as_slice-event-items.result.now c.loop-event.event-index c.loop-event.con (map view_stmts (reverse c.loop-event.bodies)) c.loop-event-test.false)
    ∙ c.loop-event.invariant.con
    ∙ ap (λ (es : List Event). class_bodies con (map event_tree es) (map view_stmts (reverse c.reverse.new.self))) c.as_slice-event-items.ensures
    ∙ ap (λ (ls : List (List Stmt)). class_bodies con (map event_tree c.args.net.now.events) (map view_stmts ls)) (ap reverse c.reverse.ensures ∙ reverse-reverse c.args.bodies)
