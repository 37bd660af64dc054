use Rattle.std.proofs.Common.{◌++◌, [], map, ◌∙◌, ap}
use Rattle.cif_ast.specs.View.{view}
use Rattle.cif_source.specs.Uses.{args_uses}
use Rattle.cif_scope_uses.specs.Views.{use_of}
use Rattle.cif_inst_sizes.proofs.GrowLaws.{names-added}
use Rattle.cif_inst_sizes.proofs.needs.add_names.Goals as goal

pub returns : goal.returns
returns c =
    names-added c.args.found.now.items c.add_arg_uses.new.found.items (view c.args.value.now)
    (c.in_ok-add_arg_uses.ensures ∙ ap (λ es. map use_of c.args.found.now.items ++ args_uses (map view es) []) c.from_ref.ensures.value)
