-- Each clause is one line from a law of the commands.
use Rattle.std.proofs.Common.{List, map, string_bytes}
use Rattle.grammar.specs.Pieces.{Text}
use Rattle.cif_system.specs.System.{initial}
use Rattle.cif_sim_model.proofs.RunLaws.{first-runs, scripts-make}
use Rattle.cif_why_model.proofs.Holding.{reasons-hold}
use Rattle.cif_sim_names.specs.Sources.{names_of, told_of}
use Rattle.plc_model.specs.Face.{HasInterface}
use Rattle.plc_model.specs.Scans.{NeverFaults, RunsFirstSteps, ScansLegally, ScansExactly, ShowsOutputs, StaysTyped}
use Rattle.plc_back.specs.Texts.{IsLayoutOf}
use Rattle.cif_run.specs.declared.status.Status.TheVariants as status
use Rattle.cif_run.specs.Works.{Reading, Writing, reading, writing}
use Rattle.cif_run.proofs.CallLaws as call
use Rattle.cif_source.specs.Step.{system_of}
use Rattle.cif_generate.specs.Meaning.{AreClassed, StartsInitial, meant_by, shown_of}
use Rattle.cif_generate.proofs.GenerateLaws as generates
use Rattle.cif_replay.proofs.ReplayLaws as replays
use Rattle.cif_batch_command.proofs.BatchLaws as batches
use Rattle.cif_simulate.proofs.SimulateLaws as simulates
use Rattle.cif_why_command.proofs.ByEvent as event
use Rattle.cif_why_command.proofs.SourceLaws.{read_explains}
use Rattle.cif_why_command.proofs.WhyLaws as whys
use Rattle.cif_tool.specs.Commands.{replay, batch, simulate, why}
use Rattle.cif_tool.specs.Asks.{tool_work}
use Rattle.cif_tool.proofs.ToolLaws as tool
use Rattle.cif_tool.proofs.running.tool.Given.{Over}
use Rattle.cif_tool.proofs.running.tool.Goals as goal

-- what the call began and ended with
abbrev texts : (g : Over) → goal.After-report g → List Text
texts g c = map string_bytes c.args.words.now

abbrev files_of : (g : Over) → goal.After-report g → Reading
files_of g c = reading (g.F.Files.content c.args.files.now) (g.F.Files.faults c.args.files.now) (g.F.Files.faults c.run_words-ended.new.files) (g.F.Files.most c.run_words-ended.new.files)

abbrev out_of : (g : Over) → goal.After-report g → Writing
out_of g c = writing (g.O.Sink.written c.args.out.now) (g.O.Sink.written c.run_words-ended.new.out) (g.O.Sink.faults c.args.out.now) (g.O.Sink.faults c.run_words-ended.new.out)

pub returns-clause-program : goal.returns-clause-program
returns-clause-program g c = tool.promised (texts g c) (files_of g c) (out_of g c) c.run_words-ended.result c.run_words-ended.ensures.came c.report.result c.report.ensures.unless_memory
    (λ m t text. HasInterface (shown_of t)) (λ m t text p made. made.interface)

pub returns-clause-starts_initial : goal.returns-clause-starts_initial
returns-clause-starts_initial g c = tool.promised (texts g c) (files_of g c) (out_of g c) c.run_words-ended.result c.run_words-ended.ensures.came c.report.result c.report.ensures.unless_memory
    (λ m t text. StartsInitial (shown_of t) (meant_by t)) (λ m t text p made. made.starts)

pub returns-clause-runs_first_steps : goal.returns-clause-runs_first_steps
returns-clause-runs_first_steps g c = tool.promised (texts g c) (files_of g c) (out_of g c) c.run_words-ended.result c.run_words-ended.ensures.came c.report.result c.report.ensures.unless_memory
    (λ m t text. RunsFirstSteps (shown_of t) (meant_by t)) (λ m t text p made. made.first_steps)

pub returns-clause-never_faults : goal.returns-clause-never_faults
returns-clause-never_faults g c = tool.promised (texts g c) (files_of g c) (out_of g c) c.run_words-ended.result c.run_words-ended.ensures.came c.report.result c.report.ensures.unless_memory
    (λ m t text. NeverFaults (meant_by t)) (λ m t text p made. made.never_faults)

pub returns-clause-scans_legally : goal.returns-clause-scans_legally
returns-clause-scans_legally g c = tool.promised (texts g c) (files_of g c) (out_of g c) c.run_words-ended.result c.run_words-ended.ensures.came c.report.result c.report.ensures.unless_memory
    (λ m t text. ScansLegally m.unc m.con (shown_of t) (meant_by t)) (λ m t text p made. made.legal)

pub returns-clause-scans_exactly : goal.returns-clause-scans_exactly
returns-clause-scans_exactly g c = tool.promised (texts g c) (files_of g c) (out_of g c) c.run_words-ended.result c.run_words-ended.ensures.came c.report.result c.report.ensures.unless_memory
    (λ m t text. ScansExactly m.unc m.con (shown_of t) (meant_by t)) (λ m t text p made. made.exact)

pub returns-clause-shows_outputs : goal.returns-clause-shows_outputs
returns-clause-shows_outputs g c = tool.promised (texts g c) (files_of g c) (out_of g c) c.run_words-ended.result c.run_words-ended.ensures.came c.report.result c.report.ensures.unless_memory
    (λ m t text. ShowsOutputs (shown_of t) (meant_by t)) (λ m t text p made. made.outputs)

pub returns-clause-stays_typed : goal.returns-clause-stays_typed
returns-clause-stays_typed g c = tool.promised (texts g c) (files_of g c) (out_of g c) c.run_words-ended.result c.run_words-ended.ensures.came c.report.result c.report.ensures.unless_memory
    (λ m t text. StaysTyped (meant_by t)) (λ m t text p made. made.types)

pub returns-clause-laid_out : goal.returns-clause-laid_out
returns-clause-laid_out g c = tool.promised (texts g c) (files_of g c) (out_of g c) c.run_words-ended.result c.run_words-ended.ensures.came c.report.result c.report.ensures.unless_memory
    (λ m t text. IsLayoutOf text) (λ m t text p made. made.layout)

pub returns-clause-classed : goal.returns-clause-classed
returns-clause-classed g c = tool.generated (texts g c) (files_of g c) (out_of g c) c.run_words-ended.result c.run_words-ended.ensures.came c.report.result c.report.ensures.unless_memory
    (λ m t text. AreClassed t) (λ m t text. generates.classed m.unc m.con t text)

pub returns-clause-usage : goal.returns-clause-usage
returns-clause-usage g c = tool.usage (texts g c) (files_of g c) (out_of g c) c.run_words-ended.result c.run_words-ended.ensures.came c.report.result c.report.ensures.unless_memory

pub returns-clause-no_command_is_usage : goal.returns-clause-no_command_is_usage
returns-clause-no_command_is_usage g c = tool.no_command (texts g c) (files_of g c) (out_of g c) c.run_words-ended.result c.run_words-ended.ensures.came c.report.result c.report.ensures.unless_memory

pub returns-clause-refused : goal.returns-clause-refused
returns-clause-refused g c = tool.refused (texts g c) (files_of g c) (out_of g c) c.run_words-ended.result c.run_words-ended.ensures.came c.report.result c.report.ensures.unless_memory

pub returns-clause-too_many_choices : goal.returns-clause-too_many_choices
returns-clause-too_many_choices g c = tool.too_many_choices (texts g c) (files_of g c) (out_of g c) c.run_words-ended.result c.run_words-ended.ensures.came c.report.result c.report.ensures.unless_memory

pub returns-clause-unclassed : goal.returns-clause-unclassed
returns-clause-unclassed g c = tool.unclassed (texts g c) (files_of g c) (out_of g c) c.run_words-ended.result c.run_words-ended.ensures.came c.report.result c.report.ensures.unless_memory

pub returns-clause-unclassed_is_told : goal.returns-clause-unclassed_is_told
returns-clause-unclassed_is_told g c = tool.unclassed_is_told (texts g c) (files_of g c) (out_of g c) c.run_words-ended.result c.run_words-ended.ensures.came c.report.result c.report.ensures.unless_memory

pub returns-clause-checked : goal.returns-clause-checked
returns-clause-checked g c = tool.checked (texts g c) (files_of g c) (out_of g c) c.run_words-ended.result c.run_words-ended.ensures.came c.report.result c.report.ensures.unless_memory

pub returns-clause-program_refused : goal.returns-clause-program_refused
returns-clause-program_refused g c = tool.program_refused (texts g c) (files_of g c) (out_of g c) c.run_words-ended.result c.run_words-ended.ensures.came c.report.result c.report.ensures.unless_memory

pub returns-clause-rows_refused : goal.returns-clause-rows_refused
returns-clause-rows_refused g c = tool.rows_refused (texts g c) (files_of g c) (out_of g c) c.run_words-ended.result c.run_words-ended.ensures.came c.report.result c.report.ensures.unless_memory

pub returns-clause-scan_fault : goal.returns-clause-scan_fault
returns-clause-scan_fault g c = tool.scan_fault (texts g c) (files_of g c) (out_of g c) c.run_words-ended.result c.run_words-ended.ensures.came c.report.result c.report.ensures.unless_memory

pub returns-clause-budget : goal.returns-clause-budget
returns-clause-budget g c = tool.budget (texts g c) (files_of g c) (out_of g c) c.run_words-ended.result c.run_words-ended.ensures.came c.report.result c.report.ensures.unless_memory

pub returns-clause-read_fault : goal.returns-clause-read_fault
returns-clause-read_fault g c = call.read_fault (tool_work (texts g c) (g.F.Files.content c.args.files.now)) (files_of g c) (out_of g c) c.run_words-ended.result c.run_words-ended.ensures.came c.report.result c.report.ensures.unless_memory

pub returns-clause-write_fault : goal.returns-clause-write_fault
returns-clause-write_fault g c = call.write_fault (tool_work (texts g c) (g.F.Files.content c.args.files.now)) (files_of g c) (out_of g c) c.run_words-ended.result c.run_words-ended.ensures.came c.report.result c.report.ensures.unless_memory

pub returns-clause-too_big : goal.returns-clause-too_big
returns-clause-too_big g c = call.too_big (tool_work (texts g c) (g.F.Files.content c.args.files.now)) (files_of g c) (out_of g c) c.run_words-ended.result c.run_words-ended.ensures.came c.report.result c.report.ensures.unless_memory

pub returns-clause-output : goal.returns-clause-output
returns-clause-output g c = call.output (tool_work (texts g c) (g.F.Files.content c.args.files.now)) (files_of g c) (out_of g c) c.run_words-ended.result c.run_words-ended.ensures.came c.report.result c.report.ensures.unless_memory

pub returns-clause-longer_is_too_big : goal.returns-clause-longer_is_too_big
returns-clause-longer_is_too_big g c file bytes names sure = tool.longer_is_too_big (texts g c) (files_of g c) (out_of g c) c.run_words-ended.result c.run_words-ended.ensures.came c.report.result c.report.ensures.unless_memory file bytes names sure

pub returns-clause-other_text_is_refused : goal.returns-clause-other_text_is_refused
returns-clause-other_text_is_refused g c file bytes names sure = tool.other_text_is_refused (texts g c) (files_of g c) (out_of g c) c.run_words-ended.result c.run_words-ended.ensures.came c.report.result c.report.ensures.unless_memory file bytes names sure

pub returns-clause-source_is_done : goal.returns-clause-source_is_done
returns-clause-source_is_done g c file bytes names sure = tool.source_is_done (texts g c) (files_of g c) (out_of g c) c.run_words-ended.result c.run_words-ended.ensures.came c.report.result c.report.ensures.unless_memory file bytes names sure

pub returns-clause-longer_program_is_too_big : goal.returns-clause-longer_program_is_too_big
returns-clause-longer_program_is_too_big g c x st names sure = tool.longer_program_is_too_big (texts g c) (files_of g c) (out_of g c) c.run_words-ended.result c.run_words-ended.ensures.came c.report.result c.report.ensures.unless_memory x names.0 st names.1 sure

pub returns-clause-other_program_is_refused : goal.returns-clause-other_program_is_refused
returns-clause-other_program_is_refused g c x st names sure = tool.other_program_is_refused (texts g c) (files_of g c) (out_of g c) c.run_words-ended.result c.run_words-ended.ensures.came c.report.result c.report.ensures.unless_memory x names.0 st names.1 sure

pub returns-clause-longer_rows_are_too_big : goal.returns-clause-longer_rows_are_too_big
returns-clause-longer_rows_are_too_big g c x st rows names quiet fits = tool.longer_second_is_too_big (texts g c) (files_of g c) (out_of g c) c.run_words-ended.result c.run_words-ended.ensures.came c.report.result c.report.ensures.unless_memory x names.0 st names.1 quiet.0 rows names.2 quiet.1 fits

pub returns-clause-other_rows_are_refused : goal.returns-clause-other_rows_are_refused
returns-clause-other_rows_are_refused g c x st rows names quiet fits short p reads = replays.other_rows_are_refused x (files_of g c) (out_of g c) c.run_words-ended.result
    (tool.of_command (texts g c) (files_of g c) (out_of g c) c.run_words-ended.result c.run_words-ended.ensures.came c.report.result c.report.ensures.unless_memory replay x names.0) c.report.result c.report.ensures.unless_memory st names.1 quiet.0 rows names.2 quiet.1 fits short p reads

pub returns-clause-stopped_scan_is_told : goal.returns-clause-stopped_scan_is_told
returns-clause-stopped_scan_is_told g c x st rows names quiet fits short p reads rs are = replays.stopped_scan_is_told x (files_of g c) (out_of g c) c.run_words-ended.result
    (tool.of_command (texts g c) (files_of g c) (out_of g c) c.run_words-ended.result c.run_words-ended.ensures.came c.report.result c.report.ensures.unless_memory replay x names.0) c.report.result c.report.ensures.unless_memory st names.1 quiet.0 rows names.2 quiet.1 fits short p reads rs are

pub returns-clause-replay_is_done : goal.returns-clause-replay_is_done
returns-clause-replay_is_done g c x st rows names quiet fits short still p reads rs are all = replays.replay_is_done x (files_of g c) (out_of g c) c.run_words-ended.result
    (tool.of_command (texts g c) (files_of g c) (out_of g c) c.run_words-ended.result c.run_words-ended.ensures.came c.report.result c.report.ensures.unless_memory replay x names.0) c.report.result c.report.ensures.unless_memory st names.1 quiet.0 rows names.2 quiet.1 fits short p reads rs are still all

pub returns-clause-replayed : goal.returns-clause-replayed
returns-clause-replayed g c done x is = replays.replayed x (files_of g c) (out_of g c) c.run_words-ended.result
    (tool.of_command (texts g c) (files_of g c) (out_of g c) c.run_words-ended.result c.run_words-ended.ensures.came c.report.result c.report.ensures.unless_memory replay x is) c.report.result c.report.ensures.unless_memory done

pub returns-clause-told : goal.returns-clause-told
returns-clause-told g c = (c.run_words-ended.result, c.run_words-ended.ensures.came, c.report.ensures.tells)

pub returns-clause-usage_reads_nothing : goal.returns-clause-usage_reads_nothing
returns-clause-usage_reads_nothing g c is = c.run_words-ended.ensures.nothing_read (call.came_to (tool_work (texts g c) (g.F.Files.content c.args.files.now)) (files_of g c) (out_of g c) c.run_words-ended.result c.run_words-ended.ensures.came c.report.result c.report.ensures.unless_memory status.Usage (λ z. cc) is)

pub returns-clause-stopped : goal.returns-clause-stopped
returns-clause-stopped g c = tool.stopped_at (texts g c) (files_of g c) (out_of g c) c.run_words-ended.result c.run_words-ended.ensures.came c.report.result c.report.ensures.unless_memory

pub returns-clause-stopped_script_is_told : goal.returns-clause-stopped_script_is_told
returns-clause-stopped_script_is_told g c file script bytes us names sure short t reads known = tool.stopped_script_is_told (texts g c) (files_of g c) (out_of g c) c.run_words-ended.result c.run_words-ended.ensures.came c.report.result c.report.ensures.unless_memory file script bytes us names sure short t reads known

pub returns-clause-script_is_done : goal.returns-clause-script_is_done
returns-clause-script_is_done g c file script bytes us names sure short t reads known = tool.script_is_done (texts g c) (files_of g c) (out_of g c) c.run_words-ended.result c.run_words-ended.ensures.came c.report.result c.report.ensures.unless_memory file script bytes us names sure short t reads known

pub returns-clause-longer_script_is_too_big : goal.returns-clause-longer_script_is_too_big
returns-clause-longer_script_is_too_big g c file script bytes us names sure short t reads known = tool.longer_script_is_too_big (texts g c) (files_of g c) (out_of g c) c.run_words-ended.result c.run_words-ended.ensures.came c.report.result c.report.ensures.unless_memory file script bytes us names sure short t reads known

pub returns-clause-simulated : goal.returns-clause-simulated
returns-clause-simulated g c done q is = simulates.simulated q (files_of g c) (out_of g c) c.run_words-ended.result
    (tool.of_command (texts g c) (files_of g c) (out_of g c) c.run_words-ended.result c.run_words-ended.ensures.came c.report.result c.report.ensures.unless_memory simulate q is) c.report.result c.report.ensures.unless_memory done

pub returns-clause-simulated_first : goal.returns-clause-simulated_first
returns-clause-simulated_first g c done q is = simulates.simulated_first q (files_of g c) (out_of g c) c.run_words-ended.result
    (tool.of_command (texts g c) (files_of g c) (out_of g c) c.run_words-ended.result c.run_words-ended.ensures.came c.report.result c.report.ensures.unless_memory simulate q is) c.report.result c.report.ensures.unless_memory done

pub returns-clause-stopped_run_is_written : goal.returns-clause-stopped_run_is_written
returns-clause-stopped_run_is_written g c k reason stops q is = simulates.stopped q (files_of g c) (out_of g c) c.run_words-ended.result
    (tool.of_command (texts g c) (files_of g c) (out_of g c) c.run_words-ended.result c.run_words-ended.ensures.came c.report.result c.report.ensures.unless_memory simulate q is) c.report.result c.report.ensures.unless_memory k reason stops

pub returns-clause-part_of_run_is_written : goal.returns-clause-part_of_run_is_written
returns-clause-part_of_run_is_written g c = tool.part_of_run (texts g c) (files_of g c) (out_of g c) c.run_words-ended.result c.run_words-ended.ensures.came c.report.result c.report.ensures.unless_memory

pub returns-clause-part_at_want_of_memory : goal.returns-clause-part_at_want_of_memory
returns-clause-part_at_want_of_memory g c = tool.part_at_memory (texts g c) (files_of g c) (out_of g c) c.run_words-ended.result c.run_words-ended.ensures.came c.report.result c.report.ensures.unless_memory

pub returns-clause-script_steps_are_steps : goal.returns-clause-script_steps_are_steps
returns-clause-script_steps_are_steps g c t script = scripts-make (names_of t) (system_of t) script

pub returns-clause-first_steps_are_lowest : goal.returns-clause-first_steps_are_lowest
returns-clause-first_steps_are_lowest g c t steps = first-runs (system_of t) (initial (system_of t)) steps

pub returns-clause-explained : goal.returns-clause-explained
returns-clause-explained g c done q is = whys.explained_so q (files_of g c) (out_of g c) c.run_words-ended.result
    (tool.of_command (texts g c) (files_of g c) (out_of g c) c.run_words-ended.result c.run_words-ended.ensures.came c.report.result c.report.ensures.unless_memory why q is) c.report.result c.report.ensures.unless_memory done

pub returns-clause-stopped_why_writes_nothing : goal.returns-clause-stopped_why_writes_nothing
returns-clause-stopped_why_writes_nothing g c k reason stops q is = (whys.stopped q (files_of g c) (out_of g c) c.run_words-ended.result
    (tool.of_command (texts g c) (files_of g c) (out_of g c) c.run_words-ended.result c.run_words-ended.ensures.came c.report.result c.report.ensures.unless_memory why q is) c.report.result c.report.ensures.unless_memory k reason stops).1

pub returns-clause-no_event : goal.returns-clause-no_event
returns-clause-no_event g c = tool.no_event (texts g c) (files_of g c) (out_of g c) c.run_words-ended.result c.run_words-ended.ensures.came c.report.result c.report.ensures.unless_memory

pub returns-clause-no_event_is_told : goal.returns-clause-no_event_is_told
returns-clause-no_event_is_told g c q bytes is told sure short t reads = event.no_event_is_told q (files_of g c) (out_of g c) c.run_words-ended.result
    (tool.of_command (texts g c) (files_of g c) (out_of g c) c.run_words-ended.result c.run_words-ended.ensures.came c.report.result c.report.ensures.unless_memory why q is) c.report.result c.report.ensures.unless_memory bytes told sure short t reads

pub returns-clause-reasons_hold : goal.returns-clause-reasons_hold
returns-clause-reasons_hold g c t = reasons-hold (system_of t) (told_of t)

pub returns-clause-all_reasons_are_told : goal.returns-clause-all_reasons_are_told
returns-clause-all_reasons_are_told g c bytes short t reads = (read_explains bytes short t reads).all_are_told

pub returns-clause-enabled_where_none : goal.returns-clause-enabled_where_none
returns-clause-enabled_where_none g c bytes short t reads = (read_explains bytes short t reads).none_means_step

pub returns-clause-none_where_enabled : goal.returns-clause-none_where_enabled
returns-clause-none_where_enabled g c bytes short t reads = (read_explains bytes short t reads).step_means_none

pub returns-clause-other_cases_are_refused : goal.returns-clause-other_cases_are_refused
returns-clause-other_cases_are_refused g c b st cases names quiet fits short p reads = batches.other_cases_are_refused b (files_of g c) (out_of g c) c.run_words-ended.result
    (tool.of_command (texts g c) (files_of g c) (out_of g c) c.run_words-ended.result c.run_words-ended.ensures.came c.report.result c.report.ensures.unless_memory batch b names.0) c.report.result c.report.ensures.unless_memory st names.1 quiet.0 cases names.2 quiet.1 fits short p reads

pub returns-clause-stopped_case_is_told : goal.returns-clause-stopped_case_is_told
returns-clause-stopped_case_is_told g c b st cases names quiet fits short p reads cs are = batches.stopped_case_is_told b (files_of g c) (out_of g c) c.run_words-ended.result
    (tool.of_command (texts g c) (files_of g c) (out_of g c) c.run_words-ended.result c.run_words-ended.ensures.came c.report.result c.report.ensures.unless_memory batch b names.0) c.report.result c.report.ensures.unless_memory st names.1 quiet.0 cases names.2 quiet.1 fits short p reads cs are

pub returns-clause-batch_is_done : goal.returns-clause-batch_is_done
returns-clause-batch_is_done g c b st cases names quiet fits short still p reads cs are all = batches.batch_is_done b (files_of g c) (out_of g c) c.run_words-ended.result
    (tool.of_command (texts g c) (files_of g c) (out_of g c) c.run_words-ended.result c.run_words-ended.ensures.came c.report.result c.report.ensures.unless_memory batch b names.0) c.report.result c.report.ensures.unless_memory st names.1 quiet.0 cases names.2 quiet.1 fits short p reads cs are still all

pub returns-clause-batched : goal.returns-clause-batched
returns-clause-batched g c done b is = batches.batched b (files_of g c) (out_of g c) c.run_words-ended.result
    (tool.of_command (texts g c) (files_of g c) (out_of g c) c.run_words-ended.result c.run_words-ended.ensures.came c.report.result c.report.ensures.unless_memory batch b is) c.report.result c.report.ensures.unless_memory done
