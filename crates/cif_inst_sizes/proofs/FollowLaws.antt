-- What holds of all that names may stand for holds of what a name stands for.
use Rattle.std.proofs.Common.{ℕ, true, false, List, [], ◌∷◌, Option, Some, None}
use Rattle.std.specs.Prelude.{slice_get}
use Rattle.cif_ast.specs.Tree.{Tree, node, Shape, truth, number, named, received, paren, negative, positive, negation, absolute, least, greatest, sum, product, comparison, all_of, any_of, implication, equivalence, choice}
use Rattle.cif_ast.specs.declared.declarations.Class.{Class}
use Rattle.cif_ast.specs.declared.names.Ident.{Ident}
use Rattle.cif_ast.specs.declared.names.Name.{Name}
use Rattle.cif_source.specs.Source.{ChannelTree, ParamTree, event_param, alg_param, location_param}
use Rattle.cif_source.specs.Components.{Component, whole, part, blank, copy, scope_of, Entry, declared, literal, location, inner, definition, instance, parameter, entry_named}
use Rattle.cif_source.specs.Lookup.{ScopeEntry, Reached, reached, missing, blocked, in_scope, go_on, inside, found, ended, by_name, by_argument, by_entry, follow_from, follow}

module _ {R : Type 0} (P : R → Type 0) (thing : ScopeEntry → R) (nothing : R) (argument : (Name → R) → Component → Tree → R)
    (things : (x : ScopeEntry) → P (thing x)) (none : P nothing) (arguments : (name : Name → R) (g : Component) (e : Tree) → P (argument name g e)) where
  ended-all : (r : Reached) → P (ended thing nothing r)
  ended-all (reached x) = things x
  ended-all missing = none
  ended-all blocked = none

  by_name-all : (go : Ident → List Ident → R) → ((p : Ident) (ps : List Ident) → P (go p ps)) → (c : Component) (nm : Name) → P (by_name thing nothing go c nm)
  by_name-all go h c nm =
      elim nm.parts as (λ qs. P (elim qs [ [] ↦ nothing | p ∷ ps ↦ elim nm.from_root [ true ↦ ended thing nothing (found c nm) | false ↦ go p ps ] ])) [
        | [] ↦ none
        | p ∷ ps ↦ elim nm.from_root as (λ b. P (elim b [ true ↦ ended thing nothing (found c nm) | false ↦ go p ps ])) [ true ↦ ended-all (found c nm) | false ↦ h p ps ]
      ]

  module _ (value : Tree → R) (name : Name → R) (values : (e : Tree) → P (value e)) (names : (nm : Name) → P (name nm)) where
    event-all : (k : Class) (h : ChannelTree) (n : Ident) (at : ℕ) (f : Shape) → P (by_argument nothing value name (event_param k h n) (Some (node f at)))
    event-all k h n at (named nm) = names nm
    event-all k h n at (truth b) = none
    event-all k h n at (number z) = none
    event-all k h n at received = none
    event-all k h n at (paren e) = none
    event-all k h n at (negative e) = none
    event-all k h n at (positive e) = none
    event-all k h n at (negation e) = none
    event-all k h n at (absolute e) = none
    event-all k h n at (least a b) = none
    event-all k h n at (greatest a b) = none
    event-all k h n at (sum e es) = none
    event-all k h n at (product e es) = none
    event-all k h n at (comparison a op b) = none
    event-all k h n at (all_of es) = none
    event-all k h n at (any_of es) = none
    event-all k h n at (implication a b) = none
    event-all k h n at (equivalence a b) = none
    event-all k h n at (choice bs e) = none

    location-all : (n : Ident) (at : ℕ) (f : Shape) → P (by_argument nothing value name (location_param n) (Some (node f at)))
    location-all n at (named nm) = names nm
    location-all n at (truth b) = none
    location-all n at (number z) = none
    location-all n at received = none
    location-all n at (paren e) = none
    location-all n at (negative e) = none
    location-all n at (positive e) = none
    location-all n at (negation e) = none
    location-all n at (absolute e) = none
    location-all n at (least a b) = none
    location-all n at (greatest a b) = none
    location-all n at (sum e es) = none
    location-all n at (product e es) = none
    location-all n at (comparison a op b) = none
    location-all n at (all_of es) = none
    location-all n at (any_of es) = none
    location-all n at (implication a b) = none
    location-all n at (equivalence a b) = none
    location-all n at (choice bs e) = none

    argument-all : (p : ParamTree) (o : Option Tree) → P (by_argument nothing value name p o)
    argument-all p None = none
    argument-all (alg_param ty n) (Some e) = values e
    argument-all (event_param k h n) (Some (node f at)) = event-all k h n at f
    argument-all (location_param n) (Some (node f at)) = location-all n at f

  entry-all : (choose : ℕ → ParamTree → R) → ((k : ℕ) (p : ParamTree) → P (choose k p)) → (c : Component) (e : Entry) (ps : List Ident) → P (by_entry thing nothing choose c e ps)
  entry-all choose h c (parameter k p) [] = h k p
  entry-all choose h c (parameter k p) (q ∷ qs) = none
  entry-all choose h c (declared d) ps = ended-all (inside (c, declared d) ps)
  entry-all choose h c (literal k ls) ps = ended-all (inside (c, literal k ls) ps)
  entry-all choose h c (location k) ps = ended-all (inside (c, location k) ps)
  entry-all choose h c (inner n b) ps = ended-all (inside (c, inner n b) ps)
  entry-all choose h c (definition n qs b) ps = ended-all (inside (c, definition n qs b) ps)
  entry-all choose h c (instance i) ps = ended-all (inside (c, instance i) ps)

  either-all : (o : Option Entry) (outer : R) (here : Entry → R) → P outer → ((e : Entry) → P (here e)) → P (elim o [ None ↦ outer | Some e ↦ here e ])
  either-all None outer here p q = p
  either-all (Some e) outer here p q = q e

  from-all : (c : Component) (p : Ident) (ps : List Ident) → P (follow_from thing nothing argument c p ps)
  from-all (whole is) p ps = ended-all (go_on (λ x. inside x ps) (in_scope (whole is) p.text))
  from-all (part o n b) p ps =
      either-all (entry_named p.text (scope_of (part o n b))) (follow_from thing nothing argument o p ps) (λ e. ended thing nothing (inside (part o n b, e) ps)) (from-all o p ps) (λ e. ended-all (inside (part o n b, e) ps))
  from-all (blank o n qs b) p ps =
      either-all (entry_named p.text (scope_of (blank o n qs b))) (follow_from thing nothing argument o p ps) (λ e. ended thing nothing (inside (blank o n qs b, e) ps)) (from-all o p ps)
      (λ e. ended-all (inside (blank o n qs b, e) ps))
  from-all (copy o n qs b g i) p ps =
      let name : Name → R = by_name thing nothing (follow_from thing nothing argument g) g in
      let choose : ℕ → ParamTree → R = λ k q. by_argument nothing (argument name g) name q (slice_get i.args k) in
      either-all (entry_named p.text (scope_of (copy o n qs b g i))) (follow_from thing nothing argument o p ps) (λ e. by_entry thing nothing choose (copy o n qs b g i) e ps) (from-all o p ps)
      (λ e. entry-all choose (λ k q. argument-all (argument name g) name (λ v. arguments name g v) (λ nm. by_name-all (follow_from thing nothing argument g) (from-all g) g nm) q (slice_get i.args k)) (copy o n qs b g i) e ps)

  pub follow-all : (c : Component) (nm : Name) → P (follow thing nothing argument c nm)
  follow-all c nm = by_name-all (follow_from thing nothing argument c) (from-all c) c nm
