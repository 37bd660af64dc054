-- The value of an expression, where its names have the values of constants.
use Rattle.std.proofs.Common.{◌≡◌, ℕ, zero, suc, ℤ, pos, List, length, refl, sym, ◌∙◌}
use Rattle.cif_system.specs.Words.{Member}
use Rattle.cif_ast.specs.declared.names.Name.{Name}
use Rattle.cif_ast.specs.Tree.{Tree, node, named}
use Rattle.cif_source.specs.Source.{Source}
use Rattle.cif_source.specs.Components.{Component, specification_of, as_written}
use Rattle.cif_source.specs.Objects.{components_of, of_sort, is_const}
use Rattle.cif_source.specs.Uses.{names_in}
use Rattle.cif_source.specs.Value.{value_with, constant_within, constant}
use Rattle.cif_source.specs.InstanceRules.{is_faulty}
use Rattle.cif_scope.specs.declared.scopes.Scopes.{Scopes}
use Rattle.cif_scope.specs.Tables.{IsBody}
use Rattle.cif_inst_bodies.specs.Constancy.{HasConstantNames}
use Rattle.cif_inst_constants.specs.Outcomes.{unless_faulty, evaluated, outcome}
use Rattle.cif_inst_constants.specs.Named.{table_value}
use Rattle.cif_inst_constants.specs.Constants.{HasValues}
use Rattle.cif_inst_constants.proofs.Meanings.{name_within, constant_name}
use Rattle.cif_inst_constants.proofs.FaultLaws.{computed_is}
use Rattle.cif_inst_constants.proofs.Congruence.{same-computed}

pub within-value : (n : ℕ) (c : Component) (e : Tree) → constant_within n c e ≡ value_with (name_within n c) (pos 0) e
within-value zero c e = refl
within-value (suc n) c e = refl

-- where names have the same values, so do expressions
pub evaluated-same : (f g : Name → ℤ) (e : Tree) → ((nm : Name) → Member nm (names_in e) → f nm ≡ g nm) → evaluated f e ≡ evaluated g e
evaluated-same f g e h = sym (computed_is f e) ∙ same-computed f g e h ∙ computed_is g e

abbrev count_for : Component → ℕ
count_for c = length (of_sort is_const (specification_of c))

outcome-evaluated : (c : Component) (e : Tree) → outcome c e ≡ evaluated (constant_name c) e
outcome-evaluated c e = λ i. unless_faulty (is_faulty (λ x. within-value (count_for c) c x i) e) (within-value (count_for c) c e i)

-- the value of a name is that of the constant expression which it is
pub name-constant : (c : Component) (nm : Name) → constant c (node (named nm) nm.at) ≡ constant_name c nm
name-constant c nm = within-value (count_for c) c (node (named nm) nm.at)

pub constant-evaluated : (c : Component) (e : Tree) → evaluated (constant_name c) e ≡ outcome c e
constant-evaluated c e = sym (outcome-evaluated c e)

pub value-is : (t : Source) (s : Scopes) (ns : List (List ℕ)) (vs : List ℤ) (k : ℕ) (c : Component) (e : Tree) → HasValues t s ns vs → Member c (components_of t) → IsBody t k (as_written c) → HasConstantNames c e
    → evaluated (table_value s ns vs k) e ≡ outcome c e
value-is t s ns vs k c e h listed own names =
    evaluated-same (table_value s ns vs k) (constant_name c) e (λ nm m. h k c listed own nm (names nm m) ∙ name-constant c nm) ∙ constant-evaluated c e
