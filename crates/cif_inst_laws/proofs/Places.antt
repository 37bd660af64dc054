-- What holds of each thing that a component declares, and passes from what names find in the component that gave an argument
-- to the parameter, holds of all that names find.
use Rattle.std.proofs.Common.{◌≡◌, ℕ, ◌≤◌, Bool, true, false, List, [], ◌∷◌, length, Some, refl, sym, ◌∙◌, subst}
use Rattle.std.specs.Prelude.{slice_get}
use Rattle.cif_ast.specs.declared.names.Ident.{Ident}
use Rattle.cif_ast.specs.declared.names.Name.{Name}
use Rattle.cif_system.specs.Words.{Member}
use Rattle.cif_system.proofs.Lists.{none-some}
use Rattle.cif_source.specs.Source.{Text, ParamTree, InstanceTree, SourceBody, Source}
use Rattle.cif_source.specs.Components.{Component, whole, part, blank, copy, specification_of, Entry, parameter}
use Rattle.cif_source.specs.Lookup.{ScopeEntry, Reached, reached, missing, blocked, in_scope, go_on, or_outward, outward, inside, found}
use Rattle.cif_source.specs.Objects.{components_of, most_objects}
use Rattle.cif_source.proofs.NameLaws.{is_parameter, in_body-own, inside-own}
use Rattle.cif_source.proofs.ReachLaws.{frames-listed, found-listed}
use Rattle.cif_source.proofs.ComponentLaws.{head-below}
use Rattle.cif_inst_model.proofs.WrittenLaws.{parent-listed, outer-listed}
use Rattle.cif_inst_bodies.specs.Entries.{IsOf}
use Rattle.cif_inst_bodies.proofs.Entries.{in_scope-is}
use Rattle.cif_inst_bodies.proofs.Bodies.{found-good, components-written}
use Rattle.cif_inst_bodies.proofs.ArgumentLaws.{no-blank}

module _ (t : Source) (few : length (components_of t) ≤ most_objects) (P : Component → Entry → Type 0) where
  abbrev Listed : Component → Type 0
  Listed c = Member c (components_of t)

  -- it holds of what names find
  abbrev pub HoldsOfNames : Component → Type 0
  HoldsOfNames c = (nm : Name) (x : ScopeEntry) → found c nm ≡ reached x → P x.0 x.1

  -- of a thing that a component declares
  abbrev pub HoldsOfThings : Type 0
  HoldsOfThings = (c : Component) (e : Entry) → Listed c → IsOf c e → is_parameter e ≡ false → P c e

  -- of a parameter, where it holds of the names of the component that gave its argument
  abbrev pub HoldsOfParameters : Type 0
  HoldsOfParameters = (o g : Component) (n : Ident) (ps : List ParamTree) (b : SourceBody) (i : InstanceTree) → Listed (copy o n ps b g i) → Listed g → HoldsOfNames g
      → (k : ℕ) (p : ParamTree) → slice_get ps k ≡ Some p → P (copy o n ps b g i) (parameter k p)

  module _ (things : HoldsOfThings) (parameters : HoldsOfParameters) where
    abbrev Outward : Component → Type 0
    Outward c = (s : Text) (x : ScopeEntry) → outward c s ≡ reached x → P x.0 x.1

    root-holds : (c : Component) → Listed c → (s : Text) (x : ScopeEntry) → in_scope (whole (specification_of c)) s ≡ reached x → P x.0 x.1
    root-holds c l s x h =
        let place = in_scope-is (whole (specification_of c)) s x h in
        let root : Listed (whole (specification_of c)) = subst (λ r. Listed (whole r)) (sym (frames-listed t few c l).0) (head-below most_objects (whole t)) in
        things x.0 x.1 (subst Listed (sym place.0) root) place.1 (in_body-own (whole (specification_of c)) s x h)

    going : (r : Reached) → ((z : ScopeEntry) → r ≡ reached z → P z.0 z.1) → (ps : List Ident) (x : ScopeEntry) → Listed x.0 → IsOf x.0 x.1 → go_on (λ y. inside y ps) r ≡ reached x → P x.0 x.1
    going (reached z) first [] x l m h = first x h
    going (reached z) first (q ∷ qs) x l m h = things x.0 x.1 l m (inside-own z q qs x h)
    going missing first ps x l m h = cc
    going blocked first ps x l m h = cc

    abbrev name_of : Bool → List Ident → ℕ → Name
    name_of r ps at = record { from_root = r; parts = ps; at = at }

    parts-hold : (c : Component) → Listed c → Outward c → (r : Bool) (ps : List Ident) (at : ℕ) (x : ScopeEntry) → Listed x.0 → IsOf x.0 x.1 → found c (name_of r ps at) ≡ reached x → P x.0 x.1
    parts-hold c l out true [] at x k m h = cc
    parts-hold c l out false [] at x k m h = cc
    parts-hold c l out true (p ∷ ps) at x k m h = going (in_scope (whole (specification_of c)) p.text) (root-holds c l p.text) ps x k m h
    parts-hold c l out false (p ∷ ps) at x k m h = going (outward c p.text) (out p.text) ps x k m h

    names-hold : (c : Component) → Listed c → Outward c → HoldsOfNames c
    names-hold c l out nm x h = parts-hold c l out nm.from_root nm.parts nm.at x (found-listed t few c l nm x h) (found-good t c (components-written t c l) nm x h).1 h

    -- ---- scopes outward

    abbrev Declares : Component → Type 0
    Declares c = (e : Entry) → IsOf c e → P c e

    frame-holds : (c o : Component) → Declares c → Outward o → (s : Text) (x : ScopeEntry) → or_outward (in_scope c s) (outward o s) ≡ reached x → P x.0 x.1
    frame-holds c o own up s x h =
        (elim (in_scope c s) as (λ r. in_scope c s ≡ r → or_outward r (outward o s) ≡ reached x → P x.0 x.1) [
          | reached z ↦ λ i k.
              let place = in_scope-is c s x (i ∙ k) in
              subst (λ d. P d x.1) (sym place.0) (own x.1 (subst (λ d. IsOf d x.1) place.0 place.1))
          | missing ↦ λ i k. up s x k
          | blocked ↦ λ i k. cc
        ]) refl h

    part-holds : (o : Component) (n : Ident) (b : SourceBody) → Listed (part o n b) → Declares (part o n b)
    part-holds o n b l (parameter k q) m = absurd (none-some q m)
    part-holds o n b l e m = things (part o n b) e l m refl

    copy-holds : (o g : Component) (n : Ident) (ps : List ParamTree) (b : SourceBody) (i : InstanceTree) → Listed (copy o n ps b g i) → Listed g → Outward g → Declares (copy o n ps b g i)
    copy-holds o g n ps b i l giver out (parameter k p) m = parameters o g n ps b i l giver (names-hold g giver out) k p m
    copy-holds o g n ps b i l giver out e m = things (copy o n ps b g i) e l m refl

    outward-holds : (c : Component) → Listed c → Outward c
    outward-holds (whole is) l s x h = root-holds (whole is) l s x h
    outward-holds (part o n b) l s x h = frame-holds (part o n b) o (part-holds o n b l) (outward-holds o (parent-listed t few (part o n b) o refl l).0) s x h
    outward-holds (blank o n ps b) l s x h = absurd (no-blank t o n ps b l)
    outward-holds (copy o n ps b g i) l s x h =
        let giver : Listed g = (parent-listed t few (copy o n ps b g i) g refl l).0 in
        frame-holds (copy o n ps b g i) o (copy-holds o g n ps b i l giver (outward-holds g giver)) (outward-holds o (outer-listed t few o g n ps b i l).0.0) s x h

    -- it holds of all that the names of a component find
    pub holds-of-names : (c : Component) → Listed c → HoldsOfNames c
    holds-of-names c l = names-hold c l (outward-holds c l)
