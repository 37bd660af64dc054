use Rattle.std.proofs.Common.{◌∙◌, ap, map, sym}
use Rattle.cif_net.specs.View.{auto_tree, edge_tree}
use Rattle.cif_why.specs.Leaving.{edge_there}
use Rattle.cif_why.proofs.leaving.leaving_at.Goals as goal

pub leaving-requires : goal.leaving-requires
leaving-requires c = c.requires (edge_tree c.in-Some.edge.now) (sym (c.in-Some.ensures ∙ ap (λ xs. edge_there (map auto_tree xs) c.args.auto c.args.edge) c.as_slice.ensures))
