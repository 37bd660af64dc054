use Rattle.std.proofs.Common.{◌≡◌, suc, ◌+◌, ◌++◌, ◌∷◌, [], map, ap, ◌∙◌, arith}
use Rattle.cif_scope.specs.Written.{body_of_written}
use Rattle.cif_inst_numbers.specs.Counting.{plus, all_ranks_to, all_counts_to}
use Rattle.cif_inst_numbers.proofs.bodies.all_bodies.Goals as goal

pub loop-body-preserved : goal.loop-body-preserved
loop-body-preserved c =
    let next : suc c.loop-body.body ≡ c.loop-body.body + 1 = omega arith in
    record {
      ranks = c.in_ok-push.ensures.ok ∙ (λ i. c.loop-body.invariant.ranks i ++ c.in_ok-one.ensures.ranks i ∷ []) ∙ ap (all_ranks_to c.args.scopes.now) next;
      counts =
          c.in_ok-push-2.ensures.ok
          ∙ (λ i. c.loop-body.invariant.counts i ++ (c.in_ok-plus.ensures.is ∙ (λ j. plus (c.in_ok-one.ensures.counts j) (c.automaton.ensures j))) i ∷ [])
          ∙ ap (all_counts_to c.args.scopes.now (map body_of_written c.args.written.now)) next;
    }
