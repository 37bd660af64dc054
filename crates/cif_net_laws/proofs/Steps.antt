-- What a guarded net keeps of its choices.
use Rattle.std.proofs.Common.{◌≡◌, map, sym, subst}
use Rattle.std.proofs.Math.Logic.{∥∥₁_elim}
use Rattle.cif_net_model.specs.Listing.{guarded_of, linear_of}
use Rattle.cif_net_model.specs.Table.{IsGuarded, IsLinear}
use Rattle.cif_net.specs.declared.guarded.Guarded.{Guarded}
use Rattle.cif_net.specs.declared.plain.Plain.{Plain}
use Rattle.cif_net.specs.View.{net_tree, choice_tree}
use Rattle.cif_net_laws.proofs.Sets.{choices-set}
use Rattle.cif_net_laws.proofs.Stands.{guarded-stands, linear-stands}

pub choices-are : (g : Guarded) → map choice_tree g.choices ≡ guarded_of (net_tree g.plain.net)
choices-are g = ∥∥₁_elim g.listed (choices-set (map choice_tree g.choices) (guarded_of (net_tree g.plain.net))) (λ e. e)

pub guarded-steps : (g : Guarded) → IsGuarded (net_tree g.plain.net) (map choice_tree g.choices)
guarded-steps g = subst (IsGuarded (net_tree g.plain.net)) (sym (choices-are g)) (guarded-stands (net_tree g.plain.net) g.plain.plain)

pub linear-steps : (plain : Plain) → IsLinear (net_tree plain.net) (linear_of (net_tree plain.net))
linear-steps plain = linear-stands (net_tree plain.net) plain.plain
