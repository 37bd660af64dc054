use Rattle.std.proofs.Common.{List, map, ap, ◌∙◌}
use Rattle.st_ast.specs.Tree.{stms_of}
use Rattle.plc_model.specs.declared.letter.Letter.TheVariants as letter
use Rattle.plc_frame.specs.Variables.{all_shown_by}
use Rattle.plc_frame.specs.Shown.{face_tree}
use Rattle.plc_frame.specs.declared.faces.Shown.{Shown}
use Rattle.cif_net.specs.View.{net_tree}
use Rattle.plc_frame.proofs.ScanLaws.{outputs-are}
use Rattle.plc_frame.proofs.scan.outputs.Goals as goal

pub returns : goal.returns
returns c =
    outputs-are (net_tree c.args.net.now) c.args.faces.now c.in_ok-all.all c.in_ok-copies.field-0 c.append.new.self c.requires
    (c.in_ok-all.ensures ∙ ap (λ (xs : List Shown). stms_of (all_shown_by letter.P letter.L (map face_tree xs))) c.as_slice.ensures)
    (c.in_ok-copies.ensures ∙ ap (λ (xs : List Shown). stms_of (all_shown_by letter.Q letter.V (map face_tree xs))) c.as_slice-2.ensures)
    c.in_ok-append.ensures
