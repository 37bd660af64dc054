-- The net that is made is the net of the source, and so a net that represents it, where the nets of sources are nets that
-- represent them.
use Rattle.std.proofs.Common.{◌≡◌, ℕ, true, List, map, sym, ◌∙◌, ap, subst}
use Rattle.cif_net_model.specs.Facts.{is_net}
use Rattle.cif_source.specs.Source.{Source}
use Rattle.cif_source.specs.Objects as objects
use Rattle.cif_source.specs.InstanceRules.{TooManyObjectsDue, ConstantRangeDue}
use Rattle.cif_inst_components.specs.declared.error.ComponentsErr.{ComponentsErr}
use Rattle.cif_inst_components.specs.declared.error.ComponentsErr.TheVariants as components
use Rattle.cif_inst_components.specs.Numbers as numbers
use Rattle.cif_types.specs.Kinds.{KeepsKinds}
use Rattle.cif_inst_constants.specs.Constants.{ConstDue}
use Rattle.cif_inst_constants.specs.declared.error.ConstErr.{ConstErr}
use Rattle.cif_inst_constants.specs.declared.error.ConstErr.TheVariants as constant
use Rattle.cif_net.specs.declared.automata.Auto.{Auto}
use Rattle.cif_net.specs.declared.events.Event.{Event}
use Rattle.cif_net.specs.declared.data.Input.{Input}
use Rattle.cif_net.specs.declared.data.Var.{Var}
use Rattle.cif_net.specs.declared.data.Alg.{Alg}
use Rattle.cif_net.specs.declared.predicates.Exclusion.{Exclusion}
use Rattle.cif_net.specs.declared.predicates.Invariant.{Invariant}
use Rattle.cif_net.specs.Parts.{auto_tree, event_tree, input_tree, var_tree, alg_tree, exclusion_tree, invariant_tree, net_of_parts}
use Rattle.cif_inst_model.specs.Flat.{net_alg, net_of_source}
use Rattle.cif_inst_model.specs.Represents.{Represents}
use Rattle.cif_inst_model.specs.Small.{HasSmallParts}
use Rattle.cif_inst_model.specs.WellFormed.{KeepsBefore, algebraic}
use Rattle.cif_inst_laws.specs.Forms.{HasSmallArguments}
use Rattle.cif_inst_names.specs.Looking.{source_for, AreNamesOf}
use Rattle.cif_inst_names.specs.declared.looking.Looking.{Looking}
use Rattle.cif_inst_paths.specs.Names.{AreMatchedNames}
use Rattle.cif_inst_paths.specs.Rows.{RowTree, rows_of}
use Rattle.cif_inst.specs.Events.{all_events}
use Rattle.cif_inst.specs.Algebraic.{rows_algs}
use Rattle.cif_inst.specs.Variables.{all_stored}
use Rattle.cif_inst.specs.declared.declarations.Sort.TheVariants as sort
use Rattle.cif_inst_automata.specs.Rules as automata
use Rattle.cif_inst_automata.specs.Rules.{KeepsAlphabets}
use Rattle.cif_inst_automata.specs.declared.error.AutomataErr.{AutomataErr}
use Rattle.cif_inst_automata.specs.declared.error.AutomataErr.TheVariants as automaton
use Rattle.cif_inst.specs.Net.{due, of_automata, of_components, of_constants, KeepsInstances}
use Rattle.cif_inst.specs.declared.error.InstErr.{InstErr}
use Rattle.cif_inst.proofs.EventLaws.{events-are}
use Rattle.cif_inst.proofs.AlgebraicLaws.{algs-are}
use Rattle.cif_inst.proofs.VariableLaws.{inputs-are, variables-are}
use Rattle.cif_inst.proofs.RuleLaws.{kept_before}

-- ---- the net

-- the parts are those of the source's net
pub record IsMade (l : Looking) (rows : List RowTree) (autos : List Auto) (all : List Event) (ins : List Input) (vars : List Var) (algs : List Alg) (exclusions : List Exclusion) (invariants : List Invariant) : Type 0 where
  pub names : AreMatchedNames l
  pub kinds : KeepsKinds (source_for l)
  pub kept : KeepsInstances (source_for l)
  pub of_source : rows ≡ rows_of (source_for l)
  pub made : map auto_tree autos ≡ (net_of_source (source_for l)).autos
  pub declared : map event_tree all ≡ all_events (source_for l) rows
  pub read : map input_tree ins ≡ all_stored (source_for l) sort.Input rows
  pub stored : map var_tree vars ≡ all_stored (source_for l) sort.Discrete rows
  pub defined : map alg_tree algs ≡ rows_algs (source_for l) 0 rows
  pub excluded : map exclusion_tree exclusions ≡ (net_of_source (source_for l)).exclusions
  pub kept_always : map invariant_tree invariants ≡ (net_of_source (source_for l)).invariants

pub matched_names : (l : Looking) → AreNamesOf l → KeepsKinds (source_for l) → AreMatchedNames l
matched_names l names kinds = record { names = names; matched = kinds.mismatch }

pub kept_rules : (t : Source) → KeepsAlphabets t → ((count : ℕ) → TooManyObjectsDue t count → ⊥) → ((at : ℕ) → ConstantRangeDue t at → ⊥) → KeepsInstances t
kept_rules t kept few ranges = record { alphabets = kept.alphabets; roles = kept.roles; few = few; ranges = ranges }

-- a source that keeps its rules has a net
pub source_fits : (l : Looking) → AreMatchedNames l → KeepsKinds (source_for l) → KeepsInstances (source_for l)
    → ((t : Source) → KeepsBefore t algebraic → HasSmallParts t → HasSmallArguments t → is_net (net_of_source t) ≡ true) → HasSmallParts (source_for l) → HasSmallArguments (source_for l)
    → is_net (net_of_source (source_for l)) ≡ true
source_fits l names kinds kept nets small few = nets (source_for l) (kept_before (source_for l) names.names.scopes.rules kinds kept) small few

module _ (l : Looking) (rows : List RowTree) (autos : List Auto) (all : List Event) (ins : List Input) (vars : List Var) (algs : List Alg) (exclusions : List Exclusion) (invariants : List Invariant)
    (m : IsMade l rows autos all ins vars algs exclusions invariants) where
  its-algs : map alg_tree algs ≡ map net_alg (objects.algs (source_for l))
  its-algs = m.defined ∙ ap (rows_algs (source_for l) 0) m.of_source ∙ algs-are (source_for l) m.names.names.components.few m.kinds.single

  its-net : net_of_parts autos all ins vars algs exclusions invariants ≡ net_of_source (source_for l)
  its-net = λ i. record {
    autos = m.made i;
    events = (m.declared ∙ ap (all_events (source_for l)) m.of_source ∙ events-are (source_for l)) i;
    inputs = (m.read ∙ ap (all_stored (source_for l) sort.Input) m.of_source ∙ inputs-are (source_for l)) i;
    vars = (m.stored ∙ ap (all_stored (source_for l) sort.Discrete) m.of_source ∙ variables-are (source_for l)) i;
    algs = its-algs i;
    exclusions = m.excluded i;
    invariants = m.kept_always i;
  }

  its-rules : KeepsBefore (source_for l) algebraic
  its-rules = kept_before (source_for l) m.names.names.scopes.rules m.kinds m.kept

  pub fits_with : ((t : Source) → KeepsBefore t algebraic → HasSmallParts t → HasSmallArguments t → is_net (net_of_source t) ≡ true) → HasSmallParts (source_for l) → HasSmallArguments (source_for l)
      → is_net (net_of_parts autos all ins vars algs exclusions invariants) ≡ true
  fits_with nets small few = ap is_net its-net ∙ source_fits l m.names m.kinds m.kept nets small few

  pub represents_with : ((t : Source) → KeepsBefore t algebraic → Represents (net_of_source t) t)
      → Represents (net_of_parts autos all ins vars algs exclusions invariants) (source_for l)
  represents_with nets = subst (λ x. Represents x (source_for l)) (sym its-net) (nets (source_for l) its-rules)

-- ---- refusals

-- a refusal of the number of objects is due
pub components_due : (t : Source) (c : ComponentsErr) (e : InstErr) → e ≡ of_components c → numbers.due t c → due t e
components_due t (components.TooManyObjects count) e is h = subst (due t) (sym is) h
components_due t components.Memory e is h = subst (due t) (sym is) tt

-- and one of constants
pub constants_due : (t : Source) (c : ConstErr) (e : InstErr) → e ≡ of_constants c → ConstDue t c → due t e
constants_due t (constant.ConstantRange at) e is h = subst (due t) (sym is) h
constants_due t constant.Memory e is h = subst (due t) (sym is) tt

-- and one of automata
pub automata_due : (t : Source) (a : AutomataErr) (e : InstErr) → e ≡ of_automata a → automata.due t a → due t e
automata_due t (automaton.AlphabetLacks at) e is h = subst (due t) (sym is) h
automata_due t (automaton.RoleMixed at) e is h = subst (due t) (sym is) h
automata_due t automaton.Memory e is h = subst (due t) (sym is) tt
