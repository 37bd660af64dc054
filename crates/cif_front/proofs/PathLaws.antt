-- Which refusals tell of an algebraic variable, and by which path.
use Rattle.std.proofs.Common.{◌≡◌, ℕ, zero, suc, List, [], ◌∷◌, map, Some, None, refl, ◌∙◌, ap}
use Rattle.std.specs.Prelude.{slice_get}
use Rattle.grammar.specs.Pieces.{Text}
use Rattle.cif_ast.specs.declared.components.Spec.{Spec}
use Rattle.cif_parse.specs.Grammar.{Reads as ReadsAsTree}
use Rattle.cif_lex.specs.declared.error.LexErr.{LexErr}
use Rattle.cif_lex.specs.declared.error.LexErr.TheVariants as lex
use Rattle.cif_parse.specs.declared.error.ParseErr.{ParseErr}
use Rattle.cif_parse.specs.declared.error.ParseErr.TheVariants as parse
use Rattle.cif_scope.specs.declared.error.ScopeErr.{ScopeErr}
use Rattle.cif_scope.specs.declared.error.ScopeErr.TheVariants as scope
use Rattle.cif_types.specs.declared.error.TypeErr.{TypeErr}
use Rattle.cif_types.specs.declared.error.TypeErr.TheVariants as type
use Rattle.cif_inst.specs.declared.error.InstErr.{InstErr}
use Rattle.cif_inst.specs.declared.error.InstErr.TheVariants as inst
use Rattle.cif_alg.specs.declared.error.AlgErr.{AlgErr}
use Rattle.cif_alg.specs.declared.error.AlgErr.TheVariants as alg
use Rattle.cif_alg.specs.Keeps.{KeepsExpressions, due}
use Rattle.cif_lin.specs.declared.error.LinErr.{LinErr}
use Rattle.cif_lin.specs.declared.error.LinErr.TheVariants as lin
use Rattle.cif_net_model.specs.Net.{Net}
use Rattle.cif_source.specs.Source.{Source, source_of}
use Rattle.cif_source.specs.Objects.{Declared, algs}
use Rattle.cif_inst_model.specs.Flat.{net_alg, net_of_source}
use Rattle.cif_front.specs.Dues.{lex_refusal, parse_refusal, scope_refusal, type_refusal, inst_refusal, alg_refusal, lin_refusal}
use Rattle.cif_front.specs.Paths.{path_in, NamesNothing, NamesOf, NamesIn, NamesFor}
use Rattle.cif_refusal.specs.declared.refusal.Refusal.TheVariants as refusal
use Rattle.cif_front.specs.declared.error.LoadErr.{LoadErr}
use Rattle.cif_front.specs.declared.error.LoadErr.TheVariants as load

-- ---- refusals that tell of none

pub lex_silent : (e : LexErr) → NamesNothing (lex_refusal e)
lex_silent (lex.BadByte at) = tt
lex_silent (lex.NumberTooBig at) = tt
lex_silent (lex.OpenComment at) = tt
lex_silent lex.Memory = tt

pub parse_silent : (e : ParseErr) → NamesNothing (parse_refusal e)
parse_silent (parse.NotRead at) = tt
parse_silent parse.Memory = tt

pub scope_silent : (e : ScopeErr) → NamesNothing (scope_refusal e)
scope_silent (scope.Unknown at) = tt
scope_silent (scope.Duplicate at first) = tt
scope_silent (scope.WrongKind at) = tt
scope_silent (scope.DefinitionCycle at) = tt
scope_silent scope.Memory = tt

pub type_silent : (e : TypeErr) → NamesNothing (type_refusal e)
type_silent (type.Mismatch at) = tt
type_silent (type.NotConstant at) = tt
type_silent (type.Initials at count) = tt
type_silent (type.NotOwn at) = tt
type_silent (type.AssignedTwice at) = tt
type_silent (type.Equations at count) = tt
type_silent type.Memory = tt

pub inst_silent : (e : InstErr) → NamesNothing (inst_refusal e)
inst_silent (inst.AlphabetLacks at) = tt
inst_silent (inst.RoleMixed at) = tt
inst_silent (inst.TooManyObjects count) = tt
inst_silent (inst.ConstantRange at) = tt
inst_silent (inst.TooLarge nodes depth) = tt
inst_silent inst.Memory = tt

pub lin_silent : (e : LinErr) → NamesNothing (lin_refusal e)
lin_silent (lin.TooManyChoices count) = tt
lin_silent lin.Memory = tt

-- ---- so whatever path stands beside them

pub silent_of : (t : Source) (why : LoadErr) (path : Text) → NamesNothing why → NamesOf t why path
silent_of t (load.Refused (refusal.AlgCycle number)) path h = absurd h
silent_of t (load.Refused _) path h = tt
silent_of t _ path h = tt

pub silent_in : (text : Text) (why : LoadErr) (path : Text) → NamesNothing why → NamesIn text why path
silent_in text (load.Refused (refusal.AlgCycle number)) path h = absurd h
silent_in text (load.Refused _) path h = tt
silent_in text _ path h = tt

-- ---- a path of the source is one of the text

pub named_in : (text : Text) (tree : Spec) → ReadsAsTree text tree → (why : LoadErr) (path : Text) → NamesOf (source_of tree) why path → NamesIn text why path
named_in text tree read (load.Refused (refusal.AlgCycle number)) path h = (tree, read, h)
named_in text tree read (load.Refused _) path h = tt
named_in text tree read _ path h = tt

-- ---- the path in the net is that in the source

path-same : (ds : List Declared) (k : ℕ)
    → ◌≡◌ {A = Text} (elim (slice_get (map net_alg ds) k) [ None ↦ [] | Some a ↦ a.path ]) (elim (slice_get ds k) [ None ↦ [] | Some d ↦ (net_alg d).path ])
path-same [] k = refl
path-same (d ∷ ds) zero = refl
path-same (d ∷ ds) (suc k) = path-same ds k

pub error_named : (t : Source) (n : Net) → n ≡ net_of_source t → (e : AlgErr) (path : Text) → NamesFor n e path → NamesOf t (alg_refusal e) path
error_named t n is (alg.Cycle number) path h = h ∙ ap (λ m. path_in m number) is ∙ path-same (algs t) number
error_named t n is (alg.ZeroDivisor at) path h = tt
error_named t n is (alg.TooWide at) path h = tt
error_named t n is (alg.InvariantReadsInput at) path h = tt
error_named t n is (alg.InvariantFalse at) path h = tt
error_named t n is (alg.TooLarge nodes depth) path h = tt
error_named t n is alg.Memory path h = tt

-- ---- what is left to be told where the expressions keep their rules tells of none

pub settled_silent : (n : Net) → KeepsExpressions n → (e : AlgErr) → due n e → NamesNothing (alg_refusal e)
settled_silent n kept (alg.Cycle number) h = absurd (kept.acyclic number h)
settled_silent n kept (alg.ZeroDivisor at) h = tt
settled_silent n kept (alg.TooWide at) h = tt
settled_silent n kept (alg.InvariantReadsInput at) h = tt
settled_silent n kept (alg.InvariantFalse at) h = tt
settled_silent n kept (alg.TooLarge nodes depth) h = tt
settled_silent n kept alg.Memory h = tt
