-- Why a source is not loaded, by the status, and that a text that is refused reads as no source that breaks no rule.
use Rattle.std.proofs.Common.{◌≡◌, ℕ, Option, Some, None, sym, ◌∙◌, ap, subst}
use Rattle.grammar.specs.Pieces.{Text}
use Rattle.cif_lex.specs.declared.error.LexErr.TheVariants as lex
use Rattle.cif_lex.proofs.TokenLaws.{refused_has_none}
use Rattle.cif_parse.proofs.Whole.{reads_one}
use Rattle.cif_source.specs.Source.{Source, source_of}
use Rattle.cif_inst_model.specs.WellFormed as rule
use Rattle.cif_inst_model.specs.WellFormed.{Broken}
use Rattle.cif_refusal.specs.declared.refusal.Refusal.{Refusal}
use Rattle.cif_refusal.specs.declared.refusal.Refusal.TheVariants as refusal
use Rattle.cif_front.specs.declared.error.LoadErr.{LoadErr}
use Rattle.cif_front.specs.declared.error.LoadErr.TheVariants as load
use Rattle.cif_front.specs.Dues.{HasRule, HasTooMany, IsDue, IsRefused, SourceDue, rule_of}
use Rattle.cif_front.specs.Loads.{ReadsAsSource}
use Rattle.cif_front.specs.Paths.{NamesIn}
use Rattle.cif_run.specs.declared.status.Status.{Status}
use Rattle.cif_accept.specs.Accepts.{SourceEnds}
use Rattle.cif_accept.specs.Refusals.{status_of}

-- ---- statuses

module _ (text name : Text) where
  ends : (e : LoadErr) → IsDue text e → NamesIn text e name → SourceEnds text (status_of e) name
  ends (load.Refused why) h p = (h, p)
  ends (load.TooManyChoices count) h p = h
  ends load.Memory h p = tt

pub due_ends : (text name : Text) (e : LoadErr) (s : Status) → s ≡ status_of e → IsDue text e → NamesIn text e name → SourceEnds text s name
due_ends text name e s is h p = subst (λ x. SourceEnds text x name) (sym is) (ends text name e h p)

-- ---- a text that is refused reads as no source that breaks no rule

module _ (text : Text) (t : Source) (reads : ReadsAsSource text t) where
  pub source_keeps : (r : rule.Refusal) → SourceDue text r → ⊥
  source_keeps r h =
      let same : source_of reads.tree ≡ source_of h.tree = ap source_of (reads_one text reads.tree h.tree reads.read h.read) in
      reads.keeps r (subst (λ u. Broken u r) (sym (reads.is ∙ same)) h.due.broken)

  pub too_many_none : (count : ℕ) → HasTooMany text count → ⊥
  too_many_none count h = source_keeps (rule.too_many_choices count) h

  rule_kept : (o : Option rule.Refusal) → HasRule (SourceDue text) o → ⊥
  rule_kept None h = h
  rule_kept (Some r) h = source_keeps r h

  pub refused_reads_none : (why : Refusal) → IsRefused text why → ⊥
  refused_reads_none (refusal.BadByte at) h = refused_has_none text (lex.BadByte at) h (λ e. cc) reads.read.tokens reads.read.are_tokens
  refused_reads_none (refusal.NumberTooBig at) h = refused_has_none text (lex.NumberTooBig at) h (λ e. cc) reads.read.tokens reads.read.are_tokens
  refused_reads_none (refusal.OpenComment at) h = refused_has_none text (lex.OpenComment at) h (λ e. cc) reads.read.tokens reads.read.are_tokens
  refused_reads_none (refusal.NotRead at) h = h.no_tree reads.tree reads.read
  refused_reads_none why h = rule_kept (rule_of why) h

-- a text reads as one source at most
pub one_source : (text : Text) (t u : Source) → ReadsAsSource text t → ReadsAsSource text u → t ≡ u
one_source text t u h g = h.is ∙ ap source_of (reads_one text h.tree g.tree h.read g.read) ∙ sym g.is
