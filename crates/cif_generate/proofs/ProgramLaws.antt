-- The net of a source is one that programs are written for.
use Rattle.std.proofs.Common.{◌≡◌, true, ap, ◌∙◌}
use Rattle.grammar.specs.Pieces.{Text}
use Rattle.cif_parse.proofs.CountedSources.{tree_shallow}
use Rattle.cif_source.specs.Source.{Source}
use Rattle.cif_inst_model.specs.Flat.{net_of_source}
use Rattle.cif_net_model.specs.Nesting.{is_shallow}
use Rattle.cif_inst_laws.proofs.NestingLaws.{shallow-nets}
use Rattle.cif_front.specs.Loads.{ReadsAsSource}

pub read-shallow : (text : Text) (t : Source) → ReadsAsSource text t → is_shallow (net_of_source t) ≡ true
read-shallow text t h =
    ap (λ u. is_shallow (net_of_source u)) h.is
    ∙ shallow-nets h.tree (tree_shallow text h.tree h.read)
