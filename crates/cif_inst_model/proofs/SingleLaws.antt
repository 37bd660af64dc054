-- A listed component, as written, is a body of the source: so where no body declares a name twice, no component does.
use Rattle.std.proofs.Common.{◌≡◌, ℕ, ◌≤◌, Bool, true, false, inl, inr, List, [], ◌∷◌, length, Some, refl, sym, ◌∙◌, ap, subst}
use Rattle.std.specs.List.{list_all, list_any}
use Rattle.std.specs.Option.{option_to_list}
use Rattle.std.specs.Cmp.Lexicographic as words
use Rattle.cif_ast.specs.declared.names.Ident.{Ident}
use Rattle.cif_system.specs.Words.{Member}
use Rattle.cif_system.proofs.Lists.{some-same, none-some, false-true}
use Rattle.cif_system.proofs.Picks.{or-cases}
use Rattle.cif_source.specs.Source.{Source, ParamTree, SourceBody, InstanceTree, SourceItem, decl_item, component_item, definition_item, instance_item}
use Rattle.cif_system.specs.Words.{Before}
use Rattle.cif_source.specs.Components.{Component, whole, part, blank, copy, as_written, body_of, scope_of, same_text, declared, literal, location, inner, definition, instance, parameter}
use Rattle.cif_source.specs.Lookup.{Reached, reached, missing, blocked, opened_at, definition_found}
use Rattle.cif_source.specs.Objects.{components_of, children, child_of, items_in, most_objects, bodies, automata}
use Rattle.cif_source.specs.Scoping.{DuplicateDue, DeclaresTwice}
use Rattle.cif_source.proofs.ComponentLaws.{children-parent}
use Rattle.cif_source.proofs.ReachLaws.{children-cases, below-parent}
use Rattle.cif_source.specs.InstanceRules.{TooManyObjectsDue, ConstantRangeDue}
use Rattle.cif_inst_model.specs.Flat.{net_of_source}
use Rattle.cif_inst_model.specs.Represents.{Represents}
use Rattle.cif_inst_model.proofs.SystemLaws.{names_all}
use Rattle.cif_inst_model.proofs.FoundLaws.{flat-cases}
use Rattle.cif_inst_model.proofs.KeptLaws.{has_twice}
use Rattle.cif_inst_model.proofs.PathLaws.{names}
use Rattle.cif_inst_model.proofs.RuleLaws.{member-any, few-kept}
use Rattle.cif_inst_model.proofs.DistinctLaws.{flat-from, ScopesAreSingle, listed-represented}
use Rattle.cif_inst_model.proofs.WrittenLaws.{bodies-closed, parent-listed, outer-listed}

-- ---- children

not-opened-part : (p o : Component) (n : Ident) (b : SourceBody) (j : InstanceTree) (r : Reached) → Member (part o n b) (option_to_list (opened_at p j r)) → ⊥
not-opened-part p o n b j missing m = m
not-opened-part p o n b j blocked m = m
not-opened-part p o n b j (reached (d, declared x)) m = m
not-opened-part p o n b j (reached (d, literal k ls)) m = m
not-opened-part p o n b j (reached (d, location k)) m = m
not-opened-part p o n b j (reached (d, inner k c)) m = m
not-opened-part p o n b j (reached (d, instance k)) m = m
not-opened-part p o n b j (reached (d, parameter k q)) m = m
not-opened-part p o n b j (reached (d, definition k ps c)) m = elim m [ inl w ↦ cc | inr w ↦ w ]

not-opened-blank : (p o : Component) (n : Ident) (qs : List ParamTree) (b : SourceBody) (j : InstanceTree) (r : Reached) → opened_at p j r ≡ Some (blank o n qs b) → ⊥
not-opened-blank p o n qs b j missing h = none-some _ h
not-opened-blank p o n qs b j blocked h = none-some _ h
not-opened-blank p o n qs b j (reached (d, declared x)) h = none-some _ h
not-opened-blank p o n qs b j (reached (d, literal k ls)) h = none-some _ h
not-opened-blank p o n qs b j (reached (d, location k)) h = none-some _ h
not-opened-blank p o n qs b j (reached (d, inner k c)) h = none-some _ h
not-opened-blank p o n qs b j (reached (d, instance k)) h = none-some _ h
not-opened-blank p o n qs b j (reached (d, parameter k q)) h = none-some _ h
not-opened-blank p o n qs b j (reached (d, definition k ps c)) h = let same : copy d k ps c p j ≡ blank o n qs b = some-same _ _ h in cc

written-item : (o : Component) (n : Ident) (b : SourceBody) (i : SourceItem) → Member (part o n b) (option_to_list (child_of o i)) → component_item n b ≡ i
written-item o n b (decl_item d) m = absurd m
written-item o n b (definition_item k ps c) m = absurd m
written-item o n b (component_item k c) m = elim m [ inl w ↦ ap (back (component_item k c)) w | inr w ↦ absurd w ]
  where
    back : SourceItem → Component → SourceItem
    back i (part o n b) = component_item n b
    back i _ = i
written-item o n b (instance_item j) m = absurd (not-opened-part o o n b j (definition_found o j) m)

part-written : (o : Component) (n : Ident) (b : SourceBody) → Member (part o n b) (children o) → Member (component_item n b) (items_in (body_of o))
part-written o n b m =
    let i = flat-cases (λ i. option_to_list (child_of o i)) (part o n b) (items_in (body_of o)) (flat-from (child_of o) (part o n b) (items_in (body_of o)) m) in
    subst (λ x. Member x (items_in (body_of o))) (sym (written-item o n b i.0 i.2)) i.1

-- ---- as written

written-body : (c : Component) → body_of c ≡ body_of (as_written c)
written-body (whole is) = refl
written-body (part o n b) = refl
written-body (blank o n ps b) = refl
written-body (copy o n ps b g i) = refl

written-scope : (c : Component) → scope_of (as_written c) ≡ scope_of c
written-scope (whole is) = refl
written-scope (part o n b) = refl
written-scope (blank o n ps b) = refl
written-scope (copy o n ps b g i) = refl

module _ (t : Source) (few : length (components_of t) ≤ most_objects) where
  pub written-listed : (c : Component) → Member c (components_of t) → Member (as_written c) (bodies t)
  written-listed (whole is) k =
      elim (below-parent most_objects (whole t) (whole is) k) [
        | inl w ↦ inl w
        | inr w ↦ absurd (none-some w.0 (children-parent w.0 (whole is) w.2))
      ]
  written-listed (part o n b) k =
      let up = parent-listed t few (part o n b) o refl k in
      bodies-closed t (as_written o) (component_item n b) (written-listed o up.0) (subst (λ x. Member (component_item n b) (items_in x)) (written-body o) (part-written o n b up.1))
  written-listed (blank o n ps b) k =
      let up = parent-listed t few (blank o n ps b) o refl k in
      elim (children-cases o (blank o n ps b) up.1) [
        | inl v ↦ absurd (not-part v.0 v.1 v.2)
        | inr v ↦ absurd (not-opened-blank o o n ps b v.0 (definition_found o v.0) v.1)
      ]
    where
      not-part : (m : Ident) (c : SourceBody) → blank o n ps b ≡ part o m c → ⊥
      not-part m c h = cc
  written-listed (copy o n ps b g i) k =
      let outer = outer-listed t few o g n ps b i k in
      bodies-closed t (as_written o) (definition_item n ps b) (written-listed o outer.0.0) (subst (λ x. Member (definition_item n ps b) (items_in x)) (written-body o) outer.1)

-- ---- names that are declared twice

any-found : {A : Type 0} (p : A → Bool) (xs : List A) → list_any p xs ≡ true → (y : A) × Member y xs × (p y ≡ true)
any-found p [] h = absurd (false-true refl h)
any-found p (x ∷ xs) h =
    elim (or-cases (p x) (list_any p xs) h) [
      | inl w ↦ (x, inl refl, w)
      | inr w ↦ let rest = any-found p xs w in (rest.0, inr rest.1, rest.2)
    ]

twice-found : (xs : List Ident) → has_twice xs ≡ true → (x : Ident) × (y : Ident) × Before x y xs × (x.text ≡ y.text)
twice-found [] h = absurd (false-true refl h)
twice-found (x ∷ xs) h =
    elim (or-cases (list_any (λ (y : Ident). same_text x.text y.text) xs) (has_twice xs) h) [
      | inl w ↦ let y = any-found (λ (y : Ident). same_text x.text y.text) xs w in (x, y.0, inl (refl, y.1), words.same_text x.text y.0.text (sym y.2))
      | inr w ↦ let rest = twice-found xs w in (rest.0, rest.1, inr rest.2, rest.3)
    ]

-- where no body declares a name twice, no scope of a component does
pub scopes-single : (t : Source) → length (components_of t) ≤ most_objects → ((at first : ℕ) → DuplicateDue t at first → ⊥) → ScopesAreSingle t
scopes-single t few none c k =
    (elim (has_twice (names (scope_of c))) as (λ b. has_twice (names (scope_of c)) ≡ b → b ≡ false) [
      | true ↦ λ h.
          let two = twice-found (names (scope_of (as_written c))) (ap (λ es. has_twice (names es)) (written-scope c) ∙ h) in
          absurd (none two.1.at two.0.at (member-any (λ d. DeclaresTwice d two.1.at two.0.at) (as_written c) (bodies t) (written-listed t few c k)
          (record { earlier = two.0; later = two.1; order = two.2; same = two.3; first_at = refl; later_at = refl })))
      | false ↦ λ h. refl
    ]) refl

-- The net of a source represents it, where objects are not too many, constant expressions keep their rule, no name is
-- declared twice, and events and assigned names denote events and variables.
pub source-represented : (t : Source) → ((count : ℕ) → TooManyObjectsDue t count → ⊥) → ((at : ℕ) → ConstantRangeDue t at → ⊥) → ((at first : ℕ) → DuplicateDue t at first → ⊥)
    → list_all names_all (automata t) ≡ true → Represents (net_of_source t) t
source-represented t sizes ranges single named = listed-represented t sizes ranges (scopes-single t (few-kept t sizes) single) named
