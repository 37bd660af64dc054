-- A name denotes what is found, and a parameter of an instance what its argument denotes in the giving component.
use Rattle.std.proofs.Common.{◌≡◌, ℕ, Bool, true, false, cond, not, List, [], ◌∷◌, find, Option, Some, None, refl, sym, ◌∙◌, ap, subst, ℤ, pos}
use Rattle.std.specs.Prelude.{option_map, slice_get}
use Rattle.std.specs.List.{list_all}
use Rattle.cif_ast.specs.Tree.{Tree, node, named}
use Rattle.cif_ast.specs.declared.names.Ident.{Ident}
use Rattle.cif_ast.specs.declared.names.Name.{Name}
use Rattle.cif_source.specs.Source.{Text, ParamTree, alg_param, TypeTree, InstanceTree, SourceItem, decl_item, component_item, definition_item, instance_item, SourceBody, group_body, automaton_body, Source, list_of_items}
use Rattle.cif_source.specs.Components.{Component, whole, part, blank, copy, specification_of, body_of, scope_of, body_entries, Entry, Entries, declared, literal, location, inner, definition, instance, parameter, entry_named, same_text, item_entries}
use Rattle.cif_source.specs.Lookup.{ScopeEntry, Reached, reached, missing, blocked, at_entry, in_scope, in_body, go_on, or_outward, outward, opened, in_opened, passed, inside, found, ended, Object, thing, given, denotes, stands_for_argument, by_argument, by_entry, follow_from, follow}
use Rattle.cif_source.specs.Value.{value_by, value_with, object_value}
use Rattle.cif_system.specs.System.{State}
use Rattle.cif_system.proofs.Lists.{some-same, none-some, false-true}
use Rattle.cif_system.proofs.Picks.{and-left, and-right}
use Rattle.cif_source.proofs.EntryLaws.{entry_passes, all-flat, all-decl, all-automaton}
use Rattle.cif_source.proofs.ReachLaws.{reached-same}

abbrev pub is_parameter : Entry → Bool
is_parameter (parameter k p) = true
is_parameter _ = false

abbrev pub is_own : Entry → Bool
is_own e = not (is_parameter e)

-- no body declares a parameter

own-item : (i : SourceItem) → list_all (entry_passes is_own) (item_entries i) ≡ true
own-item (decl_item d) = all-decl is_own (λ x. refl) (λ k ls. refl) (λ k. refl) d
own-item (component_item n b) = refl
own-item (definition_item n ps b) = refl
own-item (instance_item i) = refl

pub own-body : (b : SourceBody) → list_all (entry_passes is_own) (body_entries b) ≡ true
own-body (group_body is) = all-flat (entry_passes is_own) item_entries (list_of_items is) own-item
own-body (automaton_body a) = all-automaton is_own (λ x. refl) (λ k ls. refl) (λ k. refl) a.decls a.locs

find-own : (p : Ident × Entry → Bool) (xs : Entries) (e : Entry) → list_all (entry_passes is_own) xs ≡ true → option_map (λ x. x.1) (find p xs) ≡ Some e → is_parameter e ≡ false
find-own p [] e h g = absurd (none-some e g)
find-own p (x ∷ xs) e h g =
    (elim (p x) as (λ b. option_map (λ (y : Ident × Entry). y.1) (cond b (Some x) (find p xs)) ≡ Some e → is_parameter e ≡ false) [
      | true ↦ λ i. not-true (is_parameter e) (subst (λ y. not (is_parameter y) ≡ true) (some-same x.1 e i) (and-left (is_own x.1) (list_all (entry_passes is_own) xs) h))
      | false ↦ λ i. find-own p xs e (and-right (is_own x.1) (list_all (entry_passes is_own) xs) h) i
    ]) g
  where
    not-true : (b : Bool) → not b ≡ true → b ≡ false
    not-true true h = absurd (false-true refl h)
    not-true false h = refl

pub in_body-own : (c : Component) (t : Text) (x : ScopeEntry) → in_body c t ≡ reached x → is_parameter x.1 ≡ false
in_body-own c t x h =
    (elim (entry_named t (body_entries (body_of c))) as (λ o. entry_named t (body_entries (body_of c)) ≡ o → at_entry c o ≡ reached x → is_parameter x.1 ≡ false) [
      | None ↦ λ i g. cc
      | Some e ↦ λ i g. subst (λ y. is_parameter y ≡ false) (entry-same (c, e) x g) (find-own (λ y. same_text y.0.text t) (body_entries (body_of c)) e (own-body (body_of c)) i)
    ]) refl h
  where
    entry_of : Reached → Entry → Entry
    entry_of (reached y) e = y.1
    entry_of _ e = e

    entry-same : (y z : ScopeEntry) → reached y ≡ reached z → y.1 ≡ z.1
    entry-same y z g = ap (λ r. entry_of r y.1) g

pub passed-own : (y : ScopeEntry) (t : Text) (x : ScopeEntry) → passed y t ≡ reached x → is_parameter x.1 ≡ false
passed-own (c, inner n b) t x h = in_body-own (part c n b) t x h
passed-own (c, instance i) t x h =
    (elim (opened c i) as (λ o. in_opened o t ≡ reached x → is_parameter x.1 ≡ false) [
      | None ↦ λ g. cc
      | Some d ↦ λ g. in_body-own d t x g
    ]) h
passed-own (c, declared d) t x h = cc
passed-own (c, literal k ls) t x h = cc
passed-own (c, location k) t x h = cc
passed-own (c, definition n ps b) t x h = cc
passed-own (c, parameter k p) t x h = cc

-- past its first part a name leads to no parameter
pub inside-own : (x : ScopeEntry) (p : Ident) (ps : List Ident) (y : ScopeEntry) → inside x (p ∷ ps) ≡ reached y → is_parameter y.1 ≡ false
inside-own x p [] y h =
    (elim (passed x p.text) as (λ r. passed x p.text ≡ r → go_on (λ z. inside z []) r ≡ reached y → is_parameter y.1 ≡ false) [
      | reached z ↦ λ i g. subst (λ (w : ScopeEntry). is_parameter w.1 ≡ false) (reached-same z y g) (passed-own x p.text z i)
      | missing ↦ λ i g. cc
      | blocked ↦ λ i g. cc
    ]) refl h
inside-own x p (q ∷ ps) y h =
    (elim (passed x p.text) as (λ r. go_on (λ z. inside z (q ∷ ps)) r ≡ reached y → is_parameter y.1 ≡ false) [
      | reached z ↦ λ g. inside-own z q ps y g
      | missing ↦ λ g. cc
      | blocked ↦ λ g. cc
    ]) h

-- what a place means: an argument, where a parameter of an instance stands there
module _ {R : Type 0} (thing : ScopeEntry → R) (nothing : R) (argument : (Name → R) → Component → Tree → R) where
  abbrev pub met_at : Component → Entry → R
  met_at (copy o n ps b g i) (parameter k p) =
      by_argument nothing (argument (follow thing nothing argument g) g) (follow thing nothing argument g) p (slice_get i.args k)
  met_at c e = thing (c, e)

  abbrev pub met : Reached → R
  met (reached x) = met_at x.0 x.1
  met missing = nothing
  met blocked = nothing

  pub met_at-own : (c : Component) (e : Entry) → is_parameter e ≡ false → met_at c e ≡ thing (c, e)
  met_at-own (copy o n ps b g i) (parameter k p) h = absurd (false-true h refl)
  met_at-own (copy o n ps b g i) (declared d) h = refl
  met_at-own (copy o n ps b g i) (literal k ls) h = refl
  met_at-own (copy o n ps b g i) (location k) h = refl
  met_at-own (copy o n ps b g i) (inner m c) h = refl
  met_at-own (copy o n ps b g i) (definition m qs c) h = refl
  met_at-own (copy o n ps b g i) (instance j) h = refl
  met_at-own (whole is) e h = refl
  met_at-own (part o n b) e h = refl
  met_at-own (blank o n ps b) e h = refl

  pub met_at-place : (x : ScopeEntry) → stands_for_argument x ≡ false → met_at x.0 x.1 ≡ thing x
  met_at-place (copy o n ps b g i, parameter k p) h = absurd (false-true h refl)
  met_at-place (copy o n ps b g i, declared d) h = refl
  met_at-place (copy o n ps b g i, literal k ls) h = refl
  met_at-place (copy o n ps b g i, location k) h = refl
  met_at-place (copy o n ps b g i, inner m c) h = refl
  met_at-place (copy o n ps b g i, definition m qs c) h = refl
  met_at-place (copy o n ps b g i, instance j) h = refl
  met_at-place (whole is, e) h = refl
  met_at-place (part o n b, e) h = refl
  met_at-place (blank o n ps b, e) h = refl

  -- past its first part a name leads to no parameter
  pub inside-met : (x : ScopeEntry) (p : Ident) (ps : List Ident) → met (inside x (p ∷ ps)) ≡ ended thing nothing (inside x (p ∷ ps))
  inside-met x p [] =
      (elim (passed x p.text) as (λ r. passed x p.text ≡ r → met (go_on (λ y. inside y []) r) ≡ ended thing nothing (go_on (λ y. inside y []) r)) [
        | reached y ↦ λ h. met_at-own y.0 y.1 (passed-own x p.text y h)
        | missing ↦ λ h. refl
        | blocked ↦ λ h. refl
      ]) refl
  inside-met x p (q ∷ ps) =
      elim (passed x p.text) as (λ r. met (go_on (λ y. inside y (q ∷ ps)) r) ≡ ended thing nothing (go_on (λ y. inside y (q ∷ ps)) r)) [
        | reached y ↦ inside-met y q ps
        | missing ↦ refl
        | blocked ↦ refl
      ]

  inside-plain : (c : Component) (e : Entry) (ps : List Ident) → met_at c e ≡ thing (c, e) → ended thing nothing (inside (c, e) ps) ≡ met (inside (c, e) ps)
  inside-plain c e [] h = sym h
  inside-plain c e (p ∷ ps) h = sym (inside-met (c, e) p ps)

  inside-entry : (o : Component) (n : Ident) (qs : List ParamTree) (b : SourceBody) (g : Component) (i : InstanceTree) (e : Entry) (ps : List Ident)
      → by_entry thing nothing (λ k q. by_argument nothing (argument (follow thing nothing argument g) g) (follow thing nothing argument g) q (slice_get i.args k)) (copy o n qs b g i) e ps
      ≡ met (inside (copy o n qs b g i, e) ps)
  inside-entry o n qs b g i (parameter k p) [] = refl
  inside-entry o n qs b g i (parameter k p) (q ∷ ps) = refl
  inside-entry o n qs b g i (declared d) ps = inside-plain (copy o n qs b g i) (declared d) ps refl
  inside-entry o n qs b g i (literal k ls) ps = inside-plain (copy o n qs b g i) (literal k ls) ps refl
  inside-entry o n qs b g i (location k) ps = inside-plain (copy o n qs b g i) (location k) ps refl
  inside-entry o n qs b g i (inner m c) ps = inside-plain (copy o n qs b g i) (inner m c) ps refl
  inside-entry o n qs b g i (definition m rs c) ps = inside-plain (copy o n qs b g i) (definition m rs c) ps refl
  inside-entry o n qs b g i (instance j) ps = inside-plain (copy o n qs b g i) (instance j) ps refl

  root-met : (is : Source) (p : Ident) (ps : List Ident)
      → ended thing nothing (go_on (λ x. inside x ps) (in_scope (whole is) p.text)) ≡ met (go_on (λ x. inside x ps) (in_scope (whole is) p.text))
  root-met is p ps =
      elim (entry_named p.text (scope_of (whole is))) as (λ o. ended thing nothing (go_on (λ x. inside x ps) (at_entry (whole is) o)) ≡ met (go_on (λ x. inside x ps) (at_entry (whole is) o))) [
        | None ↦ refl
        | Some e ↦ inside-plain (whole is) e ps refl
      ]

  pub follow_from-met : (c : Component) (p : Ident) (ps : List Ident) → follow_from thing nothing argument c p ps ≡ met (go_on (λ x. inside x ps) (outward c p.text))
  follow_from-met (whole is) p ps = root-met is p ps
  follow_from-met (part o n b) p ps =
      elim (entry_named p.text (scope_of (part o n b))) as (λ r.
      (elim r [ None ↦ follow_from thing nothing argument o p ps | Some e ↦ ended thing nothing (inside (part o n b, e) ps) ])
      ≡ met (go_on (λ x. inside x ps) (or_outward (at_entry (part o n b) r) (outward o p.text)))) [
        | None ↦ follow_from-met o p ps
        | Some e ↦ inside-plain (part o n b) e ps refl
      ]
  follow_from-met (blank o n qs b) p ps =
      elim (entry_named p.text (scope_of (blank o n qs b))) as (λ r.
      (elim r [ None ↦ follow_from thing nothing argument o p ps | Some e ↦ ended thing nothing (inside (blank o n qs b, e) ps) ])
      ≡ met (go_on (λ x. inside x ps) (or_outward (at_entry (blank o n qs b) r) (outward o p.text)))) [
        | None ↦ follow_from-met o p ps
        | Some e ↦ inside-plain (blank o n qs b) e ps refl
      ]
  follow_from-met (copy o n qs b g i) p ps =
      elim (entry_named p.text (scope_of (copy o n qs b g i))) as (λ r.
      (elim r [
        | None ↦ follow_from thing nothing argument o p ps
        | Some e ↦ by_entry thing nothing (λ k q. by_argument nothing (argument (follow thing nothing argument g) g) (follow thing nothing argument g) q (slice_get i.args k)) (copy o n qs b g i) e ps
      ])
      ≡ met (go_on (λ x. inside x ps) (or_outward (at_entry (copy o n qs b g i) r) (outward o p.text)))) [
        | None ↦ follow_from-met o p ps
        | Some e ↦ inside-entry o n qs b g i e ps
      ]

  abbrev name_of : Bool → List Ident → ℕ → Name
  name_of r ps at = record { from_root = r; parts = ps; at = at }

  follow-parts : (c : Component) (r : Bool) (ps : List Ident) (at : ℕ) → follow thing nothing argument c (name_of r ps at) ≡ met (found c (name_of r ps at))
  follow-parts c true [] at = refl
  follow-parts c false [] at = refl
  follow-parts c true (p ∷ ps) at = root-met (specification_of c) p ps
  follow-parts c false (p ∷ ps) at = follow_from-met c p ps

  -- a name is followed to what is found, and from a parameter of an instance to its argument where the instance stands
  pub follow-met : (c : Component) (nm : Name) → follow thing nothing argument c nm ≡ met (found c nm)
  follow-met c nm = follow-parts c nm.from_root nm.parts nm.at

-- the value of an alg parameter is that of its argument in the component that gave it
pub value-parameter : (s : State) (r : ℤ) (defined : Component → Tree → ℤ) (c : Component) (nm : Name) (at k : ℕ)
    (o g : Component) (n : Ident) (qs : List ParamTree) (b : SourceBody) (i : InstanceTree) (ty : TypeTree) (m : Ident) (e : Tree)
    → found c nm ≡ reached (copy o n qs b g i, parameter k (alg_param ty m)) → slice_get i.args k ≡ Some e
    → value_by s r defined c (node (named nm) at) ≡ value_by s r defined g e
value-parameter s r defined c nm at k o g n qs b i ty m e h arg =
    follow-met (object_value s defined) (pos 0) (λ name d a. value_with name r a) c nm
    ∙ ap (met (object_value s defined) (pos 0) (λ name d a. value_with name r a)) h
    ∙ ap (by_argument (pos 0) (λ a. value_with (follow (object_value s defined) (pos 0) (λ name d f. value_with name r f) g) r a) (follow (object_value s defined) (pos 0) (λ name d f. value_with name r f) g) (alg_param ty m)) arg

abbrev thing_of : ScopeEntry → Option Object
thing_of x = Some (thing x.0 x.1)

-- a name denotes what it finds
pub denotes-found : (c : Component) (nm : Name) (x : ScopeEntry) → found c nm ≡ reached x → stands_for_argument x ≡ false → denotes c nm ≡ Some (thing x.0 x.1)
denotes-found c nm x h own =
    follow-met thing_of None (λ name g e. Some (given g e)) c nm ∙ ap (met thing_of None (λ name g e. Some (given g e))) h ∙ met_at-place thing_of None (λ name g e. Some (given g e)) x own

-- at a parameter of an instance it denotes what the argument denotes where the instance stands
pub denotes-argument : (c : Component) (nm : Name) (k : ℕ) (p : ParamTree) (o g : Component) (n : Ident) (qs : List ParamTree) (b : SourceBody) (i : InstanceTree)
    → found c nm ≡ reached (copy o n qs b g i, parameter k p) → denotes c nm ≡ by_argument None (λ e. Some (given g e)) (denotes g) p (slice_get i.args k)
denotes-argument c nm k p o g n qs b i h = follow-met thing_of None (λ name d e. Some (given d e)) c nm ∙ ap (met thing_of None (λ name d e. Some (given d e))) h
