use Rattle.std.proofs.Common.{◌≡◌, ◌∙◌}
use Rattle.plc_names.proofs.OnePass.{name-parts}
use Rattle.plc_names.proofs.name.name_of.Goals as goal

pub returns : goal.returns
returns c =
    name-parts c.args.letter c.args.number c.byte_of.result c.args.path.now c.new-name.result c.push.new.self c.push_slice.new.self c.push-2.new.self c.push_slice-2.new.self
    c.as_bytes.result.now c.as_slice.result.now c.without_last.result.now c.or_letter.result.now
    c.new-name.ensures c.byte_of.ensures c.in_ok-push.ensures.ok (c.as_bytes.ensures.value ∙ c.format.ensures.text) c.in_ok-push_slice.ensures.ok c.in_ok-push-2.ensures.ok
    (c.as_slice.ensures ∙ c.in_ok-kept.ensures) c.without_last.ensures c.or_letter.ensures c.in_ok-push_slice-2.ensures.ok
