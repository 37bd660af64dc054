-- What a source keeps that has a net.
use Rattle.cif_source.specs.Source.{Source}
use Rattle.cif_scope.specs.Scopes.{KeepsScoping}
use Rattle.cif_types.specs.Kinds.{KeepsKinds}
use Rattle.cif_inst.specs.Net.{KeepsInstances}

-- the rules on scopes, on kinds and on instances
pub record KeepsSource (t : Source) : Type 0 where
  pub names : KeepsScoping t
  pub kinds : KeepsKinds t
  pub objects : KeepsInstances t
