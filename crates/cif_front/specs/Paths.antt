-- What a refusal names: an algebraic variable that depends on itself, by its path.
use Rattle.std.specs.Prelude.{◌≡◌, ◌⊎◌, ℕ, [], Some, None, slice_get}
use Rattle.grammar.specs.Pieces.{Text}
use Rattle.cif_ast.specs.declared.components.Spec.{Spec}
use Rattle.cif_parse.specs.Grammar.{Reads as ReadsAsTree}
use Rattle.cif_source.specs.Source.{Source, source_of}
use Rattle.cif_source.specs.Objects.{algs}
use Rattle.cif_inst_model.specs.Flat.{net_alg}
use Rattle.cif_net_model.specs.Net.{Net}
use Rattle.cif_alg.specs.declared.error.AlgErr.{AlgErr}
use Rattle.cif_alg.specs.declared.error.AlgErr.TheVariants as alg
use Rattle.cif_refusal.specs.declared.refusal.Refusal.TheVariants as refusal
use Rattle.cif_front.specs.declared.error.LoadErr.{LoadErr}
use Rattle.cif_front.specs.declared.error.LoadErr.TheVariants as load
use Rattle.cif_front.specs.declared.error.Unloaded.{Unloaded}
use Rattle.cif_front.specs.Dues.{alg_refusal}

-- the path of the algebraic variable with that number
abbrev pub alg_path : Source → (number : ℕ) → Text
alg_path t number = elim (slice_get (algs t) number) [ None ↦ [] | Some d ↦ (net_alg d).path ]

-- no algebraic variable is told of
abbrev pub NamesNothing : LoadErr → Type 0
NamesNothing (load.Refused (refusal.AlgCycle number)) = ⊥
NamesNothing _ = Unit {0}

-- the path is that of the algebraic variable of the source that is told of, if one is
abbrev pub NamesOf : Source → LoadErr → (path : Text) → Type 0
NamesOf t (load.Refused (refusal.AlgCycle number)) path = path ≡ alg_path t number
NamesOf t _ path = Unit {0}

-- the same of the source that a text reads as
abbrev pub NamesIn : Text → LoadErr → (path : Text) → Type 0
NamesIn text (load.Refused (refusal.AlgCycle number)) path = (tree : Spec) × ReadsAsTree text tree × (path ≡ alg_path (source_of tree) number)
NamesIn text _ path = Unit {0}

-- ---- of a net

abbrev pub path_in : Net → (number : ℕ) → Text
path_in n number = elim (slice_get n.algs number) [ None ↦ [] | Some a ↦ a.path ]

abbrev pub NamesFor : Net → AlgErr → (path : Text) → Type 0
NamesFor n (alg.Cycle number) path = path ≡ path_in n number
NamesFor n _ path = Unit {0}

-- the refusal of a net by this error, or want of memory
abbrev pub IsRefusedNet : Net → AlgErr → Unloaded → Type 0
IsRefusedNet n e r = ((r.why ≡ alg_refusal e) × NamesFor n e r.path) ⊎ (r.why ≡ load.Memory)
