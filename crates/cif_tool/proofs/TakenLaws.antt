-- What `replay` makes of a text that `generate` wrote.
use Rattle.std.proofs.Common.{ℕ, ℤ, List, sym, subst}
use Rattle.grammar.specs.Pieces.{Text}
use Rattle.st_ast.specs.Tree.{Program}
use Rattle.st_ast.specs.ReadsAs.{ReadsAsProgram}
use Rattle.plc_back.specs.Texts.{TakesInRange}
use Rattle.plc_back.proofs.TextLaws.{makes}
use Rattle.cif_source.specs.Source.{Source}
use Rattle.cif_generate.specs.Meaning.{IsTextOf, meant_by}
use Rattle.cif_generate.proofs.GenerateLaws.{made_of}
use Rattle.cif_replay.specs.Replaying.{AllEnd}
use Rattle.cif_replay.proofs.ReplayLemmas.{refused_reads_none}
use Rattle.plc_rows.proofs.InRange.{in_range}
use Rattle.plc_model.specs.Scans.{AreRows}
use Rattle.cif_tool.specs.Laws.{IsTaken}

pub taken : (unc con : ℕ) (t : Source) (text : Text) → IsTextOf unc con t text → IsTaken (meant_by t) text
taken unc con t text h =
    let made = made_of unc con t h.net text h.stands (makes h.net unc con text h.of_net) in
    let ends : (p : Program) → ReadsAsProgram text p → (rows : List (List ℤ)) → AreRows (meant_by t) rows → AllEnd p rows =
    λ p reads rows are. subst (λ (q : Program). AllEnd q rows) (sym (made.3 p reads)) (made.2.never_faults rows are) in
    record {
      reads = (made.0, made.1, tt, made.3);
      accepted = λ why refused. refused_reads_none text why refused made.0 made.1;
      scanned = ends;
      replayed = λ p reads file rows of. ends p reads rows
          (subst (λ (q : Program). TakesInRange (meant_by t) q) (sym (made.3 p reads)) made.2.rows_in_range rows (in_range p.vars file rows of));
    }
