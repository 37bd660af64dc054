-- Expressions, conditions, guards and sent values of a source keep their kinds in the net.
use Rattle.std.proofs.Common.{◌≡◌, ℕ, true, inl, inr, List, [], ◌∷◌, Option, Some, None, refl}
use Rattle.cif_base.specs.declared.types.Ty.{Ty}
use Rattle.cif_ast.specs.Tree.{Tree}
use Rattle.cif_ast.specs.Throughout.{HoldsInTree}
use Rattle.cif_ast.specs.SmallNumbers.{small_parts}
use Rattle.cif_system.specs.Words.{Member}
use Rattle.cif_system.proofs.Lists.{none-some}
use Rattle.cif_net_model.specs.Net.{Net}
use Rattle.cif_net_model.specs.Kinds as net
use Rattle.cif_net_model.specs.Kinds.{fits, all_fit, has_type, fits_type}
use Rattle.cif_source.specs.Source.{Source}
use Rattle.cif_source.specs.Components.{Component}
use Rattle.cif_source.specs.Objects.{components_of}
use Rattle.cif_source.specs.Kinds.{Kind, bool_kind, no_kind}
use Rattle.cif_source.specs.Demands.{demanded, asked_for}
use Rattle.cif_inst_model.specs.Flat.{net_of_source}
use Rattle.cif_inst_model.specs.Small.{HasSmallParts}
use Rattle.cif_inst_model.specs.Translation.{conjunction, net_of, net_list, net_guard, net_name}
use Rattle.cif_inst_model.specs.WellFormed.{KeepsBefore, algebraic}
use Rattle.cif_inst_laws.specs.Kinds.{net_kind, AreMet, IsCarried, IsReceived}
use Rattle.cif_inst_laws.specs.Forms.{HasSmallArguments}
use Rattle.cif_inst_laws.proofs.KindLaws.{type-takes}
use Rattle.cif_inst_laws.proofs.ExprLaws.{all-and, conjunction-fits, expr-fits}
use Rattle.cif_inst_laws.proofs.SoundLaws.{sound}
use Rattle.cif_inst_laws.proofs.NameLaws.{nothing-received, name-fits}

-- no value is received
pub none-received : (n : Net) → IsReceived n no_kind None
none-received n = nothing-received n None (λ ty is. absurd (none-some ty is))

module _ (t : Source) (c : Component) (keeps : KeepsBefore t algebraic) (small : HasSmallParts t) (few : HasSmallArguments t) (m : Member c (components_of t)) where
  -- ---- where `?` has the kind r, and what is received the type o

  module _ (r : Kind) (o : Option Ty) (is : IsReceived (net_of_source t) r o) where
    pub demanded-fit : (k : Kind) (e : Tree) → AreMet c (demanded c r k e) → HoldsInTree small_parts e → fits (net_of_source t) o (net_kind k) (net_of c e) ≡ true
    demanded-fit k e = expr-fits (net_of_source t) c r o is (net_name c) (name-fits t (sound t keeps small few) o is.carried c m) k e

    abbrev AllMet : List Tree → Type 0
    AllMet all = (e : Tree) → Member e all → AreMet c (demanded c r bool_kind e)

    abbrev AllSmall : List Tree → Type 0
    AllSmall all = (e : Tree) → Member e all → HoldsInTree small_parts e

    list-fits : (all : List Tree) → AllMet all → AllSmall all → all_fit (net_of_source t) o (net_list c all) ≡ true
    list-fits [] met numbers = refl
    list-fits (e ∷ es) met numbers =
        all-and (fits (net_of_source t) o net.bool_kind (net_of c e)) (all_fit (net_of_source t) o (net_list c es))
        (demanded-fit bool_kind e (met e (inl refl)) (numbers e (inl refl)))
        (list-fits es (λ d i. met d (inr i)) (λ d i. numbers d (inr i)))

    pub all-fit : (all : List Tree) → AllMet all → AllSmall all → fits (net_of_source t) o net.bool_kind (conjunction (net_list c all)) ≡ true
    all-fit all met numbers = conjunction-fits (net_of_source t) o (net_list c all) (list-fits all met numbers)

  -- ---- where nothing is received

  pub expressions-fit : (k : Kind) (e : Tree) → AreMet c (asked_for c k e) → HoldsInTree small_parts e → fits (net_of_source t) None (net_kind k) (net_of c e) ≡ true
  expressions-fit = demanded-fit no_kind None (none-received (net_of_source t))

  pub conditions-fit : (all : List Tree) → AllMet no_kind None (none-received (net_of_source t)) all → AllSmall no_kind None (none-received (net_of_source t)) all
      → fits (net_of_source t) None net.bool_kind (conjunction (net_list c all)) ≡ true
  conditions-fit = all-fit no_kind None (none-received (net_of_source t))

  pub guards-fit : (at : ℕ) (all : List Tree) → AllMet no_kind None (none-received (net_of_source t)) all → AllSmall no_kind None (none-received (net_of_source t)) all
      → fits (net_of_source t) None net.bool_kind (net_guard c at all) ≡ true
  guards-fit at [] met numbers = refl
  guards-fit at (e ∷ es) met numbers = conditions-fit (e ∷ es) met numbers

  -- ---- values that are sent

  pub sent-fit : (ty : Ty) (k : Kind) (e : Tree) → IsCarried (net_of_source t) (Some ty) → has_type ty (net_kind k) ≡ true → AreMet c (asked_for c k e) → HoldsInTree small_parts e → fits_type (net_of_source t) ty (net_of c e) ≡ true
  sent-fit ty k e carried takes met numbers = type-takes (net_of_source t) ty carried (net_of c e) (net_kind k) takes (expressions-fit k e met numbers)
