use Rattle.std.specs.Prelude.{string_bytes}
use Rattle.cif_maker.specs.MadeText.{declaration_pieces, idle_pieces, busy_pieces}
use Rattle.cif_maker.proofs.Counting.{three_parts}
use Rattle.cif_maker.proofs.source.put_plant.Goals as goal

pub returns : goal.returns
returns c =
    three_parts (string_bytes c.args.text.now) (string_bytes c.write.new.self) (string_bytes c.write-2.new.self) (string_bytes c.write-3.new.self)
    (declaration_pieces c.args.i c.args.most) (idle_pieces c.args.i c.args.most) (busy_pieces c.args.i)
    c.in_ok-write.ensures.bytes c.in_ok-write-2.ensures.bytes c.in_ok-write-3.ensures.bytes
