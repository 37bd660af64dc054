-- What a guarded net keeps of its choices.
use Rattle.std.proofs.Common.{◌≡◌, map, ◌∙◌, ap}
use Rattle.std.proofs.Math.Logic.{∥∥₁_elim}
use Rattle.std.proofs.Props.{props}
use Rattle.cif_net_model.specs.Meaning.{system_of_net}
use Rattle.cif_net_model.specs.Listing.{full_choices, listed}
use Rattle.cif_net_model.proofs.ListingLaws.{guarded-each}
use Rattle.cif_net.specs.declared.guarded.Guarded.{Guarded}
use Rattle.cif_net.specs.View.{net_tree, choice_tree}

pub choices-listed : (g : Guarded) → full_choices (net_tree g.plain.net) (map choice_tree g.choices) ≡ listed (system_of_net (net_tree g.plain.net))
choices-listed g =
    ∥∥₁_elim g.listed (hlevel props) (λ e. ap (full_choices (net_tree g.plain.net)) e ∙ guarded-each (net_tree g.plain.net))
