-- What it means that a flat net represents a source.
use Rattle.std.specs.Prelude.{◌≡◌}
use Rattle.cif_net_model.specs.Net.{Net}
use Rattle.cif_net_model.specs.Meaning.{system_of_net}
use Rattle.cif_source.specs.Source.{Source}
use Rattle.cif_source.specs.Step.{system_of}
use Rattle.cif_inst_model.specs.Flat.{net_of_source}

pub record Represents (n : Net) (t : Source) : Type 0 where
  -- its paths, numbers, types, classes, first places and first values are the source's, and so are its expressions, with
  -- their places
  pub translated : n ≡ net_of_source t
  -- it has the source's choices in their order, its steps and its outputs
  pub meaning : system_of_net n ≡ system_of t
