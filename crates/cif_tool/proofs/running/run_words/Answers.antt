-- What the command came to that the words ask for.
use Rattle.std.proofs.Common.{map, string_bytes}
use Rattle.cif_run.specs.Works.{reading, writing}
use Rattle.cif_check.specs.Checks.{check_of}
use Rattle.cif_generate.specs.Generates.{generate_of}
use Rattle.cif_replay.specs.Replays.{replay_of}
use Rattle.cif_batch_command.specs.Batches.{batch_of}
use Rattle.cif_simulate.specs.Requests.{simulate_of}
use Rattle.cif_why_command.specs.Requests.{why_of}
use Rattle.cif_tool.specs.Commands.{check, generate, replay, batch, simulate, why}
use Rattle.cif_tool.proofs.ToolLaws.{command_comes, not_usage}
use Rattle.cif_tool.proofs.running.run_words.Goals as goal

pub returns-in-Some-clause-came : goal.returns-in-Some-clause-came
returns-in-Some-clause-came g c =
    command_comes (map string_bytes c.args.words.now) check (check_of c.in-Some.asked) c.in-Some.ensures.some
    (reading (g.F.Files.content c.args.files.now) (g.F.Files.faults c.args.files.now) (g.F.Files.faults c.check.new.files) (g.F.Files.most c.check.new.files))
    (writing (g.O.Sink.written c.args.out.now) (g.O.Sink.written c.check.new.out) (g.O.Sink.faults c.args.out.now) (g.O.Sink.faults c.check.new.out))
    c.check.result c.check.ensures.came

pub returns-in-Some-clause-nothing_read : goal.returns-in-Some-clause-nothing_read
returns-in-Some-clause-nothing_read g c is =
    absurd (not_usage check (check_of c.in-Some.asked)
    (reading (g.F.Files.content c.args.files.now) (g.F.Files.faults c.args.files.now) (g.F.Files.faults c.check.new.files) (g.F.Files.most c.check.new.files))
    (writing (g.O.Sink.written c.args.out.now) (g.O.Sink.written c.check.new.out) (g.O.Sink.faults c.args.out.now) (g.O.Sink.faults c.check.new.out))
    c.check.result c.check.ensures.came is)

pub returns-in-Some-read_words-clause-came : goal.returns-in-Some-read_words-clause-came
returns-in-Some-read_words-clause-came g c =
    command_comes (map string_bytes c.args.words.now) generate (generate_of c.in-Some-read_words.asked) c.in-Some-read_words.ensures.some
    (reading (g.F.Files.content c.args.files.now) (g.F.Files.faults c.args.files.now) (g.F.Files.faults c.generate.new.files) (g.F.Files.most c.generate.new.files))
    (writing (g.O.Sink.written c.args.out.now) (g.O.Sink.written c.generate.new.out) (g.O.Sink.faults c.args.out.now) (g.O.Sink.faults c.generate.new.out))
    c.generate.result c.generate.ensures.came

pub returns-in-Some-read_words-clause-nothing_read : goal.returns-in-Some-read_words-clause-nothing_read
returns-in-Some-read_words-clause-nothing_read g c is =
    absurd (not_usage generate (generate_of c.in-Some-read_words.asked)
    (reading (g.F.Files.content c.args.files.now) (g.F.Files.faults c.args.files.now) (g.F.Files.faults c.generate.new.files) (g.F.Files.most c.generate.new.files))
    (writing (g.O.Sink.written c.args.out.now) (g.O.Sink.written c.generate.new.out) (g.O.Sink.faults c.args.out.now) (g.O.Sink.faults c.generate.new.out))
    c.generate.result c.generate.ensures.came is)

pub returns-in-Some-read_words-2-clause-came : goal.returns-in-Some-read_words-2-clause-came
returns-in-Some-read_words-2-clause-came g c =
    command_comes (map string_bytes c.args.words.now) replay (replay_of c.in-Some-read_words-2.asked) c.in-Some-read_words-2.ensures.some
    (reading (g.F.Files.content c.args.files.now) (g.F.Files.faults c.args.files.now) (g.F.Files.faults c.replay.new.files) (g.F.Files.most c.replay.new.files))
    (writing (g.O.Sink.written c.args.out.now) (g.O.Sink.written c.replay.new.out) (g.O.Sink.faults c.args.out.now) (g.O.Sink.faults c.replay.new.out))
    c.replay.result c.replay.ensures.came

pub returns-in-Some-read_words-2-clause-nothing_read : goal.returns-in-Some-read_words-2-clause-nothing_read
returns-in-Some-read_words-2-clause-nothing_read g c is =
    absurd (not_usage replay (replay_of c.in-Some-read_words-2.asked)
    (reading (g.F.Files.content c.args.files.now) (g.F.Files.faults c.args.files.now) (g.F.Files.faults c.replay.new.files) (g.F.Files.most c.replay.new.files))
    (writing (g.O.Sink.written c.args.out.now) (g.O.Sink.written c.replay.new.out) (g.O.Sink.faults c.args.out.now) (g.O.Sink.faults c.replay.new.out))
    c.replay.result c.replay.ensures.came is)

pub returns-in-Some-read_words-3-clause-came : goal.returns-in-Some-read_words-3-clause-came
returns-in-Some-read_words-3-clause-came g c =
    command_comes (map string_bytes c.args.words.now) batch (batch_of c.in-Some-read_words-3.asked) c.in-Some-read_words-3.ensures.some
    (reading (g.F.Files.content c.args.files.now) (g.F.Files.faults c.args.files.now) (g.F.Files.faults c.batch.new.files) (g.F.Files.most c.batch.new.files))
    (writing (g.O.Sink.written c.args.out.now) (g.O.Sink.written c.batch.new.out) (g.O.Sink.faults c.args.out.now) (g.O.Sink.faults c.batch.new.out))
    c.batch.result c.batch.ensures.came

pub returns-in-Some-read_words-3-clause-nothing_read : goal.returns-in-Some-read_words-3-clause-nothing_read
returns-in-Some-read_words-3-clause-nothing_read g c is =
    absurd (not_usage batch (batch_of c.in-Some-read_words-3.asked)
    (reading (g.F.Files.content c.args.files.now) (g.F.Files.faults c.args.files.now) (g.F.Files.faults c.batch.new.files) (g.F.Files.most c.batch.new.files))
    (writing (g.O.Sink.written c.args.out.now) (g.O.Sink.written c.batch.new.out) (g.O.Sink.faults c.args.out.now) (g.O.Sink.faults c.batch.new.out))
    c.batch.result c.batch.ensures.came is)

pub returns-in-Some-read_words-4-clause-came : goal.returns-in-Some-read_words-4-clause-came
returns-in-Some-read_words-4-clause-came g c =
    command_comes (map string_bytes c.args.words.now) simulate (simulate_of c.in-Some-read_words-4.asked) c.in-Some-read_words-4.ensures.some
    (reading (g.F.Files.content c.args.files.now) (g.F.Files.faults c.args.files.now) (g.F.Files.faults c.simulate.new.files) (g.F.Files.most c.simulate.new.files))
    (writing (g.O.Sink.written c.args.out.now) (g.O.Sink.written c.simulate.new.out) (g.O.Sink.faults c.args.out.now) (g.O.Sink.faults c.simulate.new.out))
    c.simulate.result c.simulate.ensures.came

pub returns-in-Some-read_words-4-clause-nothing_read : goal.returns-in-Some-read_words-4-clause-nothing_read
returns-in-Some-read_words-4-clause-nothing_read g c is =
    absurd (not_usage simulate (simulate_of c.in-Some-read_words-4.asked)
    (reading (g.F.Files.content c.args.files.now) (g.F.Files.faults c.args.files.now) (g.F.Files.faults c.simulate.new.files) (g.F.Files.most c.simulate.new.files))
    (writing (g.O.Sink.written c.args.out.now) (g.O.Sink.written c.simulate.new.out) (g.O.Sink.faults c.args.out.now) (g.O.Sink.faults c.simulate.new.out))
    c.simulate.result c.simulate.ensures.came is)

pub returns-in-Some-read_words-5-clause-came : goal.returns-in-Some-read_words-5-clause-came
returns-in-Some-read_words-5-clause-came g c =
    command_comes (map string_bytes c.args.words.now) why (why_of c.in-Some-read_words-5.asked) c.in-Some-read_words-5.ensures.some
    (reading (g.F.Files.content c.args.files.now) (g.F.Files.faults c.args.files.now) (g.F.Files.faults c.why.new.files) (g.F.Files.most c.why.new.files))
    (writing (g.O.Sink.written c.args.out.now) (g.O.Sink.written c.why.new.out) (g.O.Sink.faults c.args.out.now) (g.O.Sink.faults c.why.new.out))
    c.why.result c.why.ensures.came

pub returns-in-Some-read_words-5-clause-nothing_read : goal.returns-in-Some-read_words-5-clause-nothing_read
returns-in-Some-read_words-5-clause-nothing_read g c is =
    absurd (not_usage why (why_of c.in-Some-read_words-5.asked)
    (reading (g.F.Files.content c.args.files.now) (g.F.Files.faults c.args.files.now) (g.F.Files.faults c.why.new.files) (g.F.Files.most c.why.new.files))
    (writing (g.O.Sink.written c.args.out.now) (g.O.Sink.written c.why.new.out) (g.O.Sink.faults c.args.out.now) (g.O.Sink.faults c.why.new.out))
    c.why.result c.why.ensures.came is)
