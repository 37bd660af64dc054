-- What a text reads as that is loaded, and what is loaded of it.
use Rattle.std.specs.Prelude.{◌≡◌}
use Rattle.grammar.specs.Pieces.{Text}
use Rattle.cif_ast.specs.declared.components.Spec.{Spec}
use Rattle.cif_parse.specs.Grammar.{Reads as ReadsAsTree}
use Rattle.cif_source.specs.Source.{Source, source_of}
use Rattle.cif_source.specs.Step.{system_of}
use Rattle.cif_net.specs.declared.guarded.Guarded.{Guarded}
use Rattle.cif_net.specs.View.{net_tree}
use Rattle.cif_net_model.specs.Inline.{Unfolds}
use Rattle.cif_net_model.specs.Meaning.{system_of_net}
use Rattle.cif_net_model.specs.Net.{Net}
use Rattle.cif_inst_model.specs.Flat.{net_of_source}
use Rattle.cif_inst_model.specs.WellFormed.{Refusal, Broken}

-- the text reads as a source, which breaks no rule
pub record ReadsAsSource (text : Text) (t : Source) : Type 0 where
  pub tree : Spec
  pub read : ReadsAsTree text tree
  pub is : t ≡ source_of tree
  pub keeps : (r : Refusal) → Broken t r → ⊥

-- the net is that of the source, with each algebraic variable replaced by its definition, and it means what the source does
pub record Stands (n : Net) (t : Source) : Type 0 where
  -- its paths, numbers, types, classes, first places and first values are the source's, and so are its expressions but for
  -- the names of algebraic variables
  pub unfolds : Unfolds (net_of_source t) n
  -- it has the source's choices in their order, its steps and its outputs
  pub meaning : system_of_net n ≡ system_of t

-- the net, whose choices the type keeps, is that of the source, which breaks no rule
pub record IsLoadedFrom (t : Source) (g : Guarded) : Type 0 where
  pub keeps : (r : Refusal) → Broken t r → ⊥
  pub stands : Stands (net_tree g.plain.net) t

-- the net is that of the source that the text reads as
abbrev pub Loads : Text → Guarded → Type 0
Loads text g = (t : Source) × ReadsAsSource text t × Stands (net_tree g.plain.net) t
