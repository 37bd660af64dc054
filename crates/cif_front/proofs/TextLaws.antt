-- Why a refusal of a text is due, and what a loaded net is of.
use Rattle.std.proofs.Common.{refl}
use Rattle.grammar.specs.Pieces.{Text}
use Rattle.cif_lex.specs.Tokens.{RefusalDue}
use Rattle.cif_lex.specs.declared.error.LexErr.{LexErr}
use Rattle.cif_lex.specs.declared.error.LexErr.TheVariants as lex
use Rattle.cif_ast.specs.declared.components.Spec.{Spec}
use Rattle.cif_parse.specs.Grammar.{Reads as ReadsAsTree, ParseRefusalDue}
use Rattle.cif_parse.specs.declared.error.ParseErr.{ParseErr}
use Rattle.cif_parse.specs.declared.error.ParseErr.TheVariants as parse
use Rattle.cif_net.specs.declared.guarded.Guarded.{Guarded}
use Rattle.cif_source.specs.Source.{source_of}
use Rattle.cif_inst_model.specs.WellFormed.{Due}
use Rattle.cif_refusal.specs.declared.refusal.Refusal.{Refusal}
use Rattle.cif_refusal.specs.declared.refusal.Refusal.TheVariants as refusal
use Rattle.cif_front.specs.declared.error.LoadErr.{LoadErr}
use Rattle.cif_front.specs.declared.error.LoadErr.TheVariants as load
use Rattle.cif_front.specs.Dues.{HasRule, IsDue, IsDueOf, IsRefused, lex_refusal, parse_refusal, rule_of}
use Rattle.cif_front.specs.Loads.{IsLoadedFrom, Loads}

pub lex_due : (text : Text) (e : LexErr) → RefusalDue text e → IsDue text (lex_refusal e)
lex_due text (lex.BadByte at) h = h
lex_due text (lex.NumberTooBig at) h = h
lex_due text (lex.OpenComment at) h = h
lex_due text lex.Memory h = tt

pub parse_due : (text : Text) (e : ParseErr) → ParseRefusalDue text e → IsDue text (parse_refusal e)
parse_due text (parse.NotRead at) h = h
parse_due text parse.Memory h = tt

module _ (text : Text) (tree : Spec) (read : ReadsAsTree text tree) where
  rule-refused : (why : Refusal) → HasRule (Due (source_of tree)) (rule_of why) → IsRefused text why
  rule-refused (refusal.BadByte at) h = absurd h
  rule-refused (refusal.NumberTooBig at) h = absurd h
  rule-refused (refusal.OpenComment at) h = absurd h
  rule-refused (refusal.NotRead at) h = absurd h
  rule-refused why h = record { tree = tree; read = read; due = h }

  -- what is due of the source is due of the text
  pub source_due : (e : LoadErr) → IsDueOf (source_of tree) e → IsDue text e
  source_due (load.Refused why) h = rule-refused why h
  source_due (load.TooManyChoices count) h = record { tree = tree; read = read; due = h }
  source_due load.Memory h = tt

  pub source_loaded : (g : Guarded) → IsLoadedFrom (source_of tree) g → Loads text g
  source_loaded g h = (source_of tree, record { tree = tree; read = read; is = refl; keeps = h.keeps }, h.stands)
