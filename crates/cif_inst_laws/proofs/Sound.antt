-- A source that keeps its rules up to those on algebraic variables: what each rule gives.
use Rattle.std.proofs.Common.{◌≡◌, ℕ, ◌≤◌, length, sym, subst, arith}
use Rattle.std.specs.Prelude.{flat_map}
use Rattle.cif_system.specs.Words.{Member}
use Rattle.cif_source.specs.Source.{EdgeTree, LocationTree, DeclTree, Source}
use Rattle.cif_source.specs.Components.{Component, specification_of, as_written}
use Rattle.cif_source.specs.Objects.{components_of, most_objects, bodies, decls_in, decls_of, locs_in}
use Rattle.cif_source.specs.Scoping.{UnknownDue, DuplicateDue, WrongKindDue}
use Rattle.cif_source.proofs.ReachLaws.{frames-listed}
use Rattle.cif_source.specs.BodyRules.{edges_of, MismatchDue, InitialsDue, NotOwnDue, AssignedTwiceDue, EquationsDue}
use Rattle.cif_source.specs.InstanceRules.{AlphabetLacksDue, RoleMixedDue, TooManyObjectsDue, ConstantRangeDue}
use Rattle.cif_inst_model.specs.WellFormed.{unknown, duplicate, wrong_kind, mismatch, initials, not_own, assigned_twice, equations, alphabet_lacks, role_mixed, too_many_objects, constant_range, algebraic, KeepsBefore}
use Rattle.cif_inst_model.proofs.RuleLaws.{few-kept}
use Rattle.cif_inst_model.proofs.DistinctLaws.{ScopesAreSingle}
use Rattle.cif_inst_model.proofs.SingleLaws.{scopes-single}
use Rattle.cif_inst_bodies.proofs.Alike.{body-written}
use Rattle.cif_inst_bodies.proofs.Bodies.{components-written}

-- an edge of a component is one of its body as written
pub edge-written : (c : Component) (e : EdgeTree) → Member e (edges_of c) → Member e (edges_of (as_written c))
edge-written c e k = subst (λ b. Member e (flat_map (λ (l : LocationTree). l.edges) (locs_in b))) (sym (body-written c)) k

-- and so is a declaration
pub decl-written : (c : Component) (d : DeclTree) → Member d (decls_of c) → Member d (decls_of (as_written c))
decl-written c d k = subst (λ b. Member d (decls_in b)) (sym (body-written c)) k

abbrev pub IsSound : Source → Type 0
IsSound t = KeepsBefore t algebraic

module _ (t : Source) (h : IsSound t) where
  -- ---- rules

  pub known : (at : ℕ) → UnknownDue t at → ⊥
  known at = h (unknown at) (omega arith)

  pub single : (at first : ℕ) → DuplicateDue t at first → ⊥
  single at first = h (duplicate at first) (omega arith)

  pub sorts : (at : ℕ) → WrongKindDue t at → ⊥
  sorts at = h (wrong_kind at) (omega arith)

  pub matched : (at : ℕ) → MismatchDue t at → ⊥
  matched at = h (mismatch at) (omega arith)

  pub begun : (at count : ℕ) → InitialsDue t at count → ⊥
  begun at count = h (initials at count) (omega arith)

  pub own : (at : ℕ) → NotOwnDue t at → ⊥
  own at = h (not_own at) (omega arith)

  pub once : (at : ℕ) → AssignedTwiceDue t at → ⊥
  once at = h (assigned_twice at) (omega arith)

  pub defined : (at count : ℕ) → EquationsDue t at count → ⊥
  defined at count = h (equations at count) (omega arith)

  pub alphabets : (at : ℕ) → AlphabetLacksDue t at → ⊥
  alphabets at = h (alphabet_lacks at) (omega arith)

  pub unmixed : (at : ℕ) → RoleMixedDue t at → ⊥
  unmixed at = h (role_mixed at) (omega arith)

  pub sizes : (count : ℕ) → TooManyObjectsDue t count → ⊥
  sizes count = h (too_many_objects count) (omega arith)

  pub ranges : (at : ℕ) → ConstantRangeDue t at → ⊥
  ranges at = h (constant_range at) (omega arith)

  -- ---- components

  pub few : length (components_of t) ≤ most_objects
  few = few-kept t sizes

  pub root : (c : Component) → Member c (components_of t) → specification_of c ≡ t
  root c m = (frames-listed t few c m).0

  pub as-body : (c : Component) → Member c (components_of t) → Member (as_written c) (bodies t)
  as-body = components-written t

  -- no scope declares a name twice
  pub scopes : ScopesAreSingle t
  scopes = scopes-single t few single
