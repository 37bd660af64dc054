-- Which refusal of a text is due.
use Rattle.std.specs.Prelude.{ℕ, Option, Some, None}
use Rattle.grammar.specs.Pieces.{Text}
use Rattle.cif_lex.specs.Tokens.{BadByteDue, NumberTooBigDue, OpenCommentDue}
use Rattle.cif_lex.specs.declared.error.LexErr.{LexErr}
use Rattle.cif_lex.specs.declared.error.LexErr.TheVariants as lex
use Rattle.cif_ast.specs.declared.components.Spec.{Spec}
use Rattle.cif_parse.specs.Grammar.{Reads as ReadsAsTree, NotReadDue}
use Rattle.cif_parse.specs.declared.error.ParseErr.{ParseErr}
use Rattle.cif_parse.specs.declared.error.ParseErr.TheVariants as parse
use Rattle.cif_scope.specs.declared.error.ScopeErr.{ScopeErr}
use Rattle.cif_scope.specs.declared.error.ScopeErr.TheVariants as scope
use Rattle.cif_types.specs.declared.error.TypeErr.{TypeErr}
use Rattle.cif_types.specs.declared.error.TypeErr.TheVariants as type
use Rattle.cif_inst.specs.declared.error.InstErr.{InstErr}
use Rattle.cif_inst.specs.declared.error.InstErr.TheVariants as inst
use Rattle.cif_alg.specs.declared.error.AlgErr.{AlgErr}
use Rattle.cif_alg.specs.declared.error.AlgErr.TheVariants as alg
use Rattle.cif_lin.specs.declared.error.LinErr.{LinErr}
use Rattle.cif_lin.specs.declared.error.LinErr.TheVariants as lin
use Rattle.cif_source.specs.Source.{Source, source_of}
use Rattle.cif_inst_model.specs.WellFormed as rule
use Rattle.cif_inst_model.specs.WellFormed.{Due}
use Rattle.cif_refusal.specs.declared.refusal.Refusal.{Refusal}
use Rattle.cif_refusal.specs.declared.refusal.Refusal.TheVariants as refusal
use Rattle.cif_front.specs.declared.error.LoadErr.{LoadErr}
use Rattle.cif_front.specs.declared.error.LoadErr.TheVariants as load

-- ---- why a source is not loaded, by the error of a phase

abbrev pub lex_refusal : LexErr → LoadErr
lex_refusal lex.Memory = load.Memory
lex_refusal (lex.BadByte at) = load.Refused (refusal.BadByte at)
lex_refusal (lex.NumberTooBig at) = load.Refused (refusal.NumberTooBig at)
lex_refusal (lex.OpenComment at) = load.Refused (refusal.OpenComment at)

abbrev pub parse_refusal : ParseErr → LoadErr
parse_refusal parse.Memory = load.Memory
parse_refusal (parse.NotRead at) = load.Refused (refusal.NotRead at)

abbrev pub scope_refusal : ScopeErr → LoadErr
scope_refusal scope.Memory = load.Memory
scope_refusal (scope.Unknown at) = load.Refused (refusal.Unknown at)
scope_refusal (scope.Duplicate at first) = load.Refused (refusal.Duplicate at first)
scope_refusal (scope.WrongKind at) = load.Refused (refusal.WrongKind at)
scope_refusal (scope.DefinitionCycle at) = load.Refused (refusal.DefinitionCycle at)

abbrev pub type_refusal : TypeErr → LoadErr
type_refusal type.Memory = load.Memory
type_refusal (type.Mismatch at) = load.Refused (refusal.Mismatch at)
type_refusal (type.NotConstant at) = load.Refused (refusal.NotConstant at)
type_refusal (type.Initials at count) = load.Refused (refusal.Initials at count)
type_refusal (type.NotOwn at) = load.Refused (refusal.NotOwn at)
type_refusal (type.AssignedTwice at) = load.Refused (refusal.AssignedTwice at)
type_refusal (type.Equations at count) = load.Refused (refusal.Equations at count)

abbrev pub inst_refusal : InstErr → LoadErr
inst_refusal inst.Memory = load.Memory
inst_refusal (inst.AlphabetLacks at) = load.Refused (refusal.AlphabetLacks at)
inst_refusal (inst.RoleMixed at) = load.Refused (refusal.RoleMixed at)
inst_refusal (inst.TooManyObjects count) = load.Refused (refusal.TooManyObjects count)
inst_refusal (inst.ConstantRange at) = load.Refused (refusal.ConstantRange at)
inst_refusal (inst.TooLarge nodes depth) = load.Refused (refusal.TooLarge nodes depth)

abbrev pub alg_refusal : AlgErr → LoadErr
alg_refusal alg.Memory = load.Memory
alg_refusal (alg.Cycle number) = load.Refused (refusal.AlgCycle number)
alg_refusal (alg.ZeroDivisor at) = load.Refused (refusal.ZeroDivisor at)
alg_refusal (alg.TooWide at) = load.Refused (refusal.TooWide at)
alg_refusal (alg.InvariantReadsInput at) = load.Refused (refusal.InvariantReadsInput at)
alg_refusal (alg.InvariantFalse at) = load.Refused (refusal.InvariantFalse at)
alg_refusal (alg.TooLarge nodes depth) = load.Refused (refusal.TooLarge nodes depth)

abbrev pub lin_refusal : LinErr → LoadErr
lin_refusal lin.Memory = load.Memory
lin_refusal (lin.TooManyChoices count) = load.TooManyChoices count

-- ---- the rule that a refusal of a source with a tree tells of

abbrev pub rule_of : Refusal → Option rule.Refusal
rule_of (refusal.Unknown at) = Some (rule.unknown at)
rule_of (refusal.Duplicate at first) = Some (rule.duplicate at first)
rule_of (refusal.WrongKind at) = Some (rule.wrong_kind at)
rule_of (refusal.DefinitionCycle at) = Some (rule.definition_cycle at)
rule_of (refusal.Mismatch at) = Some (rule.mismatch at)
rule_of (refusal.NotConstant at) = Some (rule.not_constant at)
rule_of (refusal.Initials at count) = Some (rule.initials at count)
rule_of (refusal.NotOwn at) = Some (rule.not_own at)
rule_of (refusal.AssignedTwice at) = Some (rule.assigned_twice at)
rule_of (refusal.Equations at count) = Some (rule.equations at count)
rule_of (refusal.AlphabetLacks at) = Some (rule.alphabet_lacks at)
rule_of (refusal.RoleMixed at) = Some (rule.role_mixed at)
rule_of (refusal.TooManyObjects count) = Some (rule.too_many_objects count)
rule_of (refusal.ConstantRange at) = Some (rule.constant_range at)
rule_of (refusal.AlgCycle number) = Some (rule.alg_cycle number)
rule_of (refusal.ZeroDivisor at) = Some (rule.zero_divisor at)
rule_of (refusal.TooWide at) = Some (rule.too_wide at)
rule_of (refusal.InvariantReadsInput at) = Some (rule.invariant_reads_input at)
rule_of (refusal.InvariantFalse at) = Some (rule.invariant_false at)
rule_of (refusal.TooLarge nodes depth) = Some (rule.too_large nodes depth)
rule_of _ = None

-- ---- which are due

abbrev pub HasRule : (rule.Refusal → Type 0) → Option rule.Refusal → Type 0
HasRule P None = ⊥
HasRule P (Some r) = P r

-- of a source: it tells of a rule, and is due; of want of memory nothing is said
abbrev pub IsDueOf : Source → LoadErr → Type 0
IsDueOf t (load.Refused why) = HasRule (Due t) (rule_of why)
IsDueOf t (load.TooManyChoices count) = Due t (rule.too_many_choices count)
IsDueOf t load.Memory = Unit {0}

-- the text reads as a source, of which the refusal is due
pub record SourceDue (text : Text) (r : rule.Refusal) : Type 0 where
  pub tree : Spec
  pub read : ReadsAsTree text tree
  pub due : Due (source_of tree) r

-- why the text reads as no source that breaks no rule
abbrev pub IsRefused : Text → Refusal → Type 0
IsRefused text (refusal.BadByte at) = BadByteDue text at
IsRefused text (refusal.NumberTooBig at) = NumberTooBigDue text at
IsRefused text (refusal.OpenComment at) = OpenCommentDue text at
IsRefused text (refusal.NotRead at) = NotReadDue text at
IsRefused text why = HasRule (SourceDue text) (rule_of why)

-- the choices of all its events are too many
abbrev pub HasTooMany : Text → (count : ℕ) → Type 0
HasTooMany text count = SourceDue text (rule.too_many_choices count)

-- of a text
abbrev pub IsDue : Text → LoadErr → Type 0
IsDue text (load.Refused why) = IsRefused text why
IsDue text (load.TooManyChoices count) = HasTooMany text count
IsDue text load.Memory = Unit {0}
