-- What a source that keeps its rules and has small parts gives: few components, declared once, with constants in
-- their ranges and small numbers, and names that find entries of components.
use Rattle.std.proofs.Common.{◌≡◌, ℕ, ◌≤◌, List, length, sym, subst, arith}
use Rattle.std.specs.Prelude.{filter_map}
use Rattle.cif_ast.specs.Tree.{Tree}
use Rattle.cif_ast.specs.Throughout.{HoldsInTree}
use Rattle.cif_ast.specs.SmallNumbers.{AreFewLiterals, small_parts}
use Rattle.cif_ast.specs.declared.names.Ident.{Ident}
use Rattle.cif_ast.specs.declared.names.Name.{Name}
use Rattle.cif_system.specs.Words.{Member}
use Rattle.cif_source.specs.Source.{enum_decl, InstanceTree, Source}
use Rattle.cif_source.specs.Components.{Component, specification_of, as_written}
use Rattle.cif_source.specs.Lookup.{ScopeEntry, reached, found}
use Rattle.cif_source.specs.Objects.{components_of, most_objects, items_in, decls_in, decls_of}
use Rattle.cif_source.specs.Scoping.{UnknownDue, DuplicateDue, WrongKindDue, as_instance, instances_of}
use Rattle.cif_source.proofs.ReachLaws.{frames-listed, found-listed}
use Rattle.cif_source.specs.BodyRules.{MismatchDue}
use Rattle.cif_source.specs.InstanceRules.{ConstantRangeDue}
use Rattle.cif_inst_model.specs.Small.{HasSmallParts}
use Rattle.cif_inst_model.specs.WellFormed.{unknown, duplicate, wrong_kind, mismatch, too_many_objects, constant_range, KeepsBefore, algebraic}
use Rattle.cif_inst_model.proofs.RuleLaws.{few-kept}
use Rattle.cif_inst_model.proofs.SingleLaws.{scopes-single}
use Rattle.cif_inst_model.proofs.DistinctLaws.{ScopesAreSingle}
use Rattle.cif_inst_bodies.specs.Entries.{IsOf}
use Rattle.cif_inst_bodies.proofs.Alike.{body-written}
use Rattle.cif_inst_bodies.proofs.Bodies.{found-good, components-written}
use Rattle.cif_inst_laws.specs.Forms.{HasSmallArguments}

-- ---- what the premises give

pub record IsSound (t : Source) : Type 0 where
  pub few : length (components_of t) ≤ most_objects
  pub known : (at : ℕ) → UnknownDue t at → ⊥
  pub single : (at first : ℕ) → DuplicateDue t at first → ⊥
  pub sorts : (at : ℕ) → WrongKindDue t at → ⊥
  pub matched : (at : ℕ) → MismatchDue t at → ⊥
  pub ranges : (at : ℕ) → ConstantRangeDue t at → ⊥
  pub literals : (c : Component) → Member c (components_of t) → (n : Ident) (ls : List Ident) → Member (enum_decl n ls) (decls_of c) → AreFewLiterals ls
  pub arguments : (c : Component) → Member c (components_of t) → (i : InstanceTree) → Member i (instances_of c) → (e : Tree) → Member e i.args → HoldsInTree small_parts e

pub sound : (t : Source) → KeepsBefore t algebraic → HasSmallParts t → HasSmallArguments t → IsSound t
sound t keeps small few = record {
  few = few-kept t (λ count. keeps (too_many_objects count) (omega arith));
  known = λ at. keeps (unknown at) (omega arith);
  single = λ at first. keeps (duplicate at first) (omega arith);
  sorts = λ at. keeps (wrong_kind at) (omega arith);
  matched = λ at. keeps (mismatch at) (omega arith);
  ranges = λ at. keeps (constant_range at) (omega arith);
  literals = λ c m n ls k. small.literals (as_written c) (components-written t c m) n ls (subst (λ b. Member (enum_decl n ls) (decls_in b)) (sym (body-written c)) k);
  arguments = λ c m i k. few.given (as_written c) (components-written t c m) i (subst (λ b. Member i (filter_map as_instance (items_in b))) (sym (body-written c)) k);
}

module _ (t : Source) (s : IsSound t) where
  pub scopes : ScopesAreSingle t
  scopes = scopes-single t s.few s.single

  pub root : (c : Component) → Member c (components_of t) → specification_of c ≡ t
  root c m = (frames-listed t s.few c m).0

  -- ---- what names find

  -- it is in a component, and declared there
  pub record IsFound (x : ScopeEntry) : Type 0 where
    pub home : Member x.0 (components_of t)
    pub own : IsOf x.0 x.1

  pub found-is : (c : Component) → Member c (components_of t) → (nm : Name) (y : ScopeEntry) → found c nm ≡ reached y → IsFound y
  found-is c m nm y h = record { home = found-listed t s.few c m nm y h; own = (found-good t c (components-written t c m) nm y h).1 }
