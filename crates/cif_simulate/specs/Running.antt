-- Helper of the code: what the run of a script over a net may write.
use Rattle.grammar.specs.Pieces.{Text}
use Rattle.cif_system.specs.System.{System}
use Rattle.cif_sim_model.specs.Names.{Names}
use Rattle.cif_run.specs.Works.{Work}
use Rattle.cif_simulate.specs.Simulates.{IsRunText, IsScriptText, IsStopText}

abbrev pub script_work : Names → System → (script : Text) → Work
script_work names m script = record {
  asks = λ i. ⊥;
  writes = IsRunText names m script;
  parts = IsScriptText names m script;
  ends = λ s name. ⊥;
  halts = IsStopText names m script;
  whole_begins = λ text h. h.1;
  halted_begins = λ s text h. h.1;
}
