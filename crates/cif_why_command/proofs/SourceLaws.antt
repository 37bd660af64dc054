-- What the laws of reasons say of the source in a file.
use Rattle.std.proofs.Common.{◌≡◌, ◌+◌, ◌<◌, ◌≤◌, ◌^◌, length, arith}
use Rattle.grammar.specs.Pieces.{Text}
use Rattle.cif_parse.proofs.CountedSources.{tree_countable, tree_small}
use Rattle.cif_source.specs.Source.{Source}
use Rattle.cif_source.specs.Step.{system_of}
use Rattle.cif_net.specs.View.{net_tree}
use Rattle.cif_net.specs.declared.guarded.Guarded.{Guarded}
use Rattle.cif_front.specs.Loads.{ReadsAsSource}
use Rattle.cif_run.specs.Works.{Content}
use Rattle.cif_accept.specs.Accepts.{IsLoaded, source_limit}
use Rattle.cif_sim_names.specs.Nets.{told_of_net}
use Rattle.cif_sim_names.specs.Sources.{told_of}
use Rattle.cif_why_laws.specs.Acceptable.{IsAcceptable}
use Rattle.cif_why_laws.specs.Reasons.{ExplainsSteps}
use Rattle.cif_why_laws.proofs.Sources.{explains-steps, net-tells}

-- a source that a short text reads as is acceptable
read_acceptable : (bytes : Text) (t : Source) → length bytes ≤ source_limit → ReadsAsSource bytes t → IsAcceptable t
read_acceptable bytes t short h =
    let few : length bytes + 1 < 2 ^ 31 = omega (arith, short) in
    record { tree = h.tree; is = h.is; countable = tree_countable bytes h.tree h.read few; small = tree_small bytes h.tree h.read few; keeps = h.keeps }

-- what is told of the net of the source in the file is what is told of the source
pub net_told : (content : Content) (file : Text) (g : Guarded) (l : IsLoaded content file g) → told_of_net (net_tree g.plain.net) ≡ told_of l.0
net_told content file g l = net-tells l.0 (net_tree g.plain.net) (read_acceptable l.1.0 l.0 l.1.2 l.1.3) l.2.unfolds

-- the reasons of a source are those why its events have no step
pub read_explains : (bytes : Text) → length bytes ≤ source_limit → (t : Source) → ReadsAsSource bytes t → ExplainsSteps (system_of t) (told_of t)
read_explains bytes short t h = explains-steps t (read_acceptable bytes t short h)
