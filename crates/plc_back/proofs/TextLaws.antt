-- The text that is written for a net reads as one program, which makes the net's scans.
use Rattle.std.proofs.Common.{ℕ, sym, subst}
use Rattle.grammar.specs.Pieces.{Text}
use Rattle.cif_system.specs.System.{System}
use Rattle.cif_net_model.specs.Net.{Net}
use Rattle.cif_net_model.specs.Listing.{guarded_of}
use Rattle.cif_net_model.specs.Meaning.{system_of_net}
use Rattle.st_ast.specs.ReadsAs.{ReadsBack}
use Rattle.st_ast.specs.Tree.{Program}
use Rattle.st_print.proofs.PrintedPrograms.{reads_back}
use Rattle.plc_model.specs.Face.{Face}
use Rattle.plc_model.proofs.ScanLaws.{exact-first, exact-legal}
use Rattle.plc_frame.specs.Faces.{face_of_net}
use Rattle.plc_frame.specs.Makes as frame
use Rattle.plc_frame.proofs.Facts.{face-is}
use Rattle.plc_event_model.specs.ProgramParts.{net_program}
use Rattle.plc_gen_laws.proofs.Whole.{program-spelled}
use Rattle.plc_gen_laws.proofs.FitLaws.{fitted-makes}
use Rattle.plc_back.specs.Texts.{Makes, TheProgram}
use Rattle.plc_back.specs.Written.{IsTextOf}
use Rattle.plc_back.proofs.RangeLaws.{takes}

module _ (n : Net) (U C : ℕ) (text : Text) (h : IsTextOf n U C text) where
  abbrev face : Face
  face = face_of_net n

  abbrev sys : System
  sys = system_of_net n

  abbrev program : Program
  program = net_program n (guarded_of n) U C

  made : frame.Makes n U C program
  made = fitted-makes n (guarded_of n) U C h.has.parts h.has.shallow

  back : ReadsBack text program
  back = subst (λ t. ReadsBack t program) (sym h.is) (reads_back program (program-spelled n (guarded_of n) U C h.has.parts h.has.shallow))

  all-made : Makes U C face sys text program
  all-made = record {
    interface = made.interface;
    starts = made.starts;
    first_steps = exact-first face sys program U C made.exact;
    never_faults = made.exact.0;
    legal = exact-legal face sys program U C made.exact;
    exact = made.exact;
    outputs = made.shown;
    types = made.typed;
    rows_in_range = takes face sys program made.interface (face-is n);
    layout = h.is;
  }

  pub makes : TheProgram text (Makes U C (face_of_net n) (system_of_net n) text)
  makes = (program, back.reads made.checked, all-made, back.reads_as_no_other)
