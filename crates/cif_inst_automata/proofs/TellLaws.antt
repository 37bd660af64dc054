-- What is found outside an alphabet breaks the rule on alphabets, and where nothing is found the rule is kept.
use Rattle.std.proofs.Common.{◌≡◌, ℕ, ◌+◌, ◌<◌, true, false, inl, inr, List, [], ◌∷◌, length, map, Some, None, refl, sym, ◌∙◌, ap, subst}
use Rattle.std.specs.Prelude.{IsTrue}
use Rattle.cif_ast.specs.declared.names.Name.{Name}
use Rattle.cif_system.specs.Words.{Member}
use Rattle.cif_system.proofs.Lists.{false-true, none-some, slice_get-below, filter-member, filter-passes}
use Rattle.cif_source.specs.Source.{SourceBody, group_body, automaton_body}
use Rattle.cif_source.specs.Components.{Component, body_of}
use Rattle.cif_source.specs.Objects.{components_of, automata, is_automaton}
use Rattle.cif_source.specs.InstanceRules.{is_lacking, AlphabetLacksDue}
use Rattle.cif_inst_components.specs.Numbers.{IsNumber}
use Rattle.cif_inst_model.proofs.RuleLaws.{member-any}
use Rattle.cif_inst_model.proofs.StandingLaws.{any-member}
use Rattle.cif_inst_names.specs.Looking.{or_whole, source_for, component_at}
use Rattle.cif_inst_names.specs.declared.looking.Looking.{Looking}
use Rattle.cif_inst_paths.specs.Names.{AreMatchedNames}
use Rattle.cif_inst_paths.specs.Rows.{RowTree, row_for, rows_of}
use Rattle.cif_inst_automata.specs.Alphabets.{body_lacks, rows_lacks}
use Rattle.cif_inst_paths.proofs.SoundLaws.{component-listed, From, from-here, from-next, all-components}
use Rattle.cif_inst_automata.proofs.UseLaws.{automaton-listed}
use Rattle.cif_inst_automata.proofs.LackLaws.{LacksAt, asked_names, or-told, or-first, or-second, automaton-told, automaton-kept}
use Rattle.cif_inst_automata.proofs.AutomatonLaws.{sound, edges}

module _ (l : Looking) (h : AreMatchedNames l) where
  body-told : (k : ℕ) → k < length (components_of (source_for l)) → (b : SourceBody) → body_of (component_at l k) ≡ b → (at : ℕ) → body_lacks l k b ≡ Some at → (is_automaton b ≡ true) × LacksAt at (component_at l k)
  body-told k below (group_body is) e at g = absurd (none-some at g)
  body-told k below (automaton_body a) e at g = (refl, automaton-told l k (source_for l) (sound l h) (component-listed (source_for l) k below) a e (edges l h k below a e) at g)

  body-kept : (k : ℕ) → k < length (components_of (source_for l)) → (b : SourceBody) → body_of (component_at l k) ≡ b → body_lacks l k b ≡ None → is_automaton b ≡ true → (nm : Name) → Member nm (asked_names (component_at l k)) → is_lacking (component_at l k) nm ≡ false
  body-kept k below (group_body is) e g a = absurd (false-true refl a)
  body-kept k below (automaton_body x) e g a = automaton-kept l k (source_for l) (sound l h) (component-listed (source_for l) k below) x e (edges l h k below x e) g

  rows-told : (cs : List Component) (k : ℕ) → From (source_for l) cs k → (at : ℕ) → rows_lacks l k (map row_for cs) ≡ Some at → (c : Component) × Member c cs × (is_automaton (body_of c) ≡ true) × LacksAt at c
  rows-told [] k from at g = absurd (none-some at g)
  rows-told (c ∷ cs) k from at g =
      let here : IsNumber (source_for l) k c = from-here (source_for l) c cs k from in
      let same : component_at l k ≡ c = ap (or_whole (source_for l)) here in
      let below : k < length (components_of (source_for l)) = slice_get-below (components_of (source_for l)) k c here in
      elim (or-told (body_lacks l k (body_of c)) (rows_lacks l (k + 1) (map row_for cs)) at g) [
        | inl w ↦
            let own = body-told k below (body_of c) (ap body_of same) at w in
            (c, inl refl, own.0, subst (LacksAt at) same own.1)
        | inr w ↦ let rest = rows-told cs (k + 1) (from-next (source_for l) c cs k from) at w in (rest.0, inr rest.1, rest.2, rest.3)
      ]

  rows-kept : (cs : List Component) (k : ℕ) → From (source_for l) cs k → rows_lacks l k (map row_for cs) ≡ None → (c : Component) → Member c cs → is_automaton (body_of c) ≡ true → (nm : Name) → Member nm (asked_names c) → is_lacking c nm ≡ false
  rows-kept [] k from g x m a = absurd m
  rows-kept (c ∷ cs) k from g x m a =
      let here : IsNumber (source_for l) k c = from-here (source_for l) c cs k from in
      let same : component_at l k ≡ c = ap (or_whole (source_for l)) here in
      let below : k < length (components_of (source_for l)) = slice_get-below (components_of (source_for l)) k c here in
      elim m [
        | inl w ↦ λ nm y.
            let first = or-first (body_lacks l k (body_of c)) (rows_lacks l (k + 1) (map row_for cs)) g in
            let own = body-kept k below (body_of c) (ap body_of same) first (ap (λ y. is_automaton (body_of y)) (sym w) ∙ a) nm (subst (λ y. Member nm (asked_names y)) (w ∙ sym same) y) in
            ap (λ y. is_lacking y nm) (w ∙ sym same) ∙ own
        | inr w ↦ rows-kept cs (k + 1) (from-next (source_for l) c cs k from) (or-second (body_lacks l k (body_of c)) (rows_lacks l (k + 1) (map row_for cs)) g) x w a
      ]

  -- the event that is found is outside an alphabet
  pub lacks-due : (rows : List RowTree) (at : ℕ) → rows ≡ rows_of (source_for l) → rows_lacks l 0 rows ≡ Some at → AlphabetLacksDue (source_for l) at
  lacks-due rows at r g =
      let c = rows-told (components_of (source_for l)) 0 (all-components (source_for l)) at (sym (ap (rows_lacks l 0) r) ∙ g) in
      member-any (LacksAt at) c.0 (automata (source_for l)) (filter-member (λ c. is_automaton (body_of c)) (components_of (source_for l)) c.0 c.1 c.2) c.3

  -- where none is found no alphabet lacks an event
  pub lacks-none : (rows : List RowTree) → rows ≡ rows_of (source_for l) → rows_lacks l 0 rows ≡ None → (at : ℕ) → AlphabetLacksDue (source_for l) at → ⊥
  lacks-none rows r g at due =
      let c = any-member (LacksAt at) (automata (source_for l)) due in
      let nm = any-member (λ (x : Name). (x.at ≡ at) × IsTrue (is_lacking c.0 x)) (asked_names c.0) c.2 in
      false-true (rows-kept (components_of (source_for l)) 0 (all-components (source_for l)) (sym (ap (rows_lacks l 0) r) ∙ g) c.0 (automaton-listed (source_for l) c.0 c.1) (filter-passes (λ c. is_automaton (body_of c)) (components_of (source_for l)) c.0 c.1) nm.0 nm.1) nm.2.1
