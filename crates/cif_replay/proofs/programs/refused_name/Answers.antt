use Rattle.std.proofs.Common.{◌≡◌, ℕ, Some, sym, ap, ◌∙◌}
use Rattle.st_ast.specs.Tree.{Program}
use Rattle.st_ast.specs.ReadsAs.{Derives}
use Rattle.cif_replay.specs.Told.{variable_of_check}
use Rattle.cif_replay.specs.Replaying.{name_at}
use Rattle.cif_replay.proofs.ReplayLemmas.{on_ok, named_in}
use Rattle.cif_replay.proofs.programs.refused_name.Goals as goal

pub returns-in-Ok : goal.returns-in-Ok
returns-in-Ok c =
    on_ok (λ name. name ≡ name_at c.as_slice.result.now c.in-Some.number)
    (λ name. (p : Program) (k : ℕ) → Derives c.args.text.now p → variable_of_check c.args.error ≡ Some k → name ≡ name_at p.vars k) c.name_of.result
    (λ name n. named_in c.args.text.now c.in-Ok.program c.args.error c.in-Some.number name (sym c.variable_of.ensures ∙ c.in-Some.is) c.in-Ok.ensures.read
    (n ∙ ap (λ vs. name_at vs c.in-Some.number) c.as_slice.ensures)) c.name_of.ensures
