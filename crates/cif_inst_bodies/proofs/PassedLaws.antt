-- Where a source keeps its rules on names and kinds, what a name leads to is a thing of a component, or a parameter that
-- stands for one, through however many instances it is passed on.
use Rattle.std.proofs.Common.{◌≡◌, ℕ, ◌≤◌, Bool, true, false, List, [], ◌∷◌, length, Option, Some, None, refl, sym, ◌∙◌, ap, subst}
use Rattle.std.specs.Prelude.{slice_get}
use Rattle.cif_ast.specs.Tree.{Tree, node, named}
use Rattle.cif_ast.specs.declared.names.Ident.{Ident}
use Rattle.cif_ast.specs.declared.names.Name.{Name}
use Rattle.cif_system.specs.Words.{Member}
use Rattle.cif_system.proofs.Lists.{none-some}
use Rattle.cif_source.specs.Source.{Text, ParamTree, InstanceTree, SourceBody, Source}
use Rattle.cif_source.specs.Components.{Component, whole, part, blank, copy, specification_of, Entry, parameter}
use Rattle.cif_source.specs.Lookup.{ScopeEntry, Reached, reached, missing, blocked, in_scope, go_on, or_outward, outward, inside, found, Object, thing, given, by_argument, follow}
use Rattle.cif_source.specs.Objects.{components_of, most_objects}
use Rattle.cif_source.specs.Uses.{Asked, is_asked}
use Rattle.cif_source.specs.Scoping.{UnknownDue, WrongKindDue}
use Rattle.cif_source.proofs.NameLaws.{is_parameter, in_body-own, met, met_at, met_at-own, follow-met, inside-own}
use Rattle.cif_source.proofs.ReachLaws.{frames-listed, found-listed}
use Rattle.cif_source.proofs.ComponentLaws.{head-below}
use Rattle.cif_source.specs.BodyRules.{MismatchDue}
use Rattle.cif_inst_model.proofs.WrittenLaws.{parent-listed, outer-listed}
use Rattle.cif_inst_bodies.specs.Arguments.{IsNameFor, IsArgumentFor}
use Rattle.cif_inst_bodies.specs.Entries.{IsOf}
use Rattle.cif_inst_bodies.proofs.Entries.{in_scope-is}
use Rattle.cif_inst_bodies.proofs.Bodies.{found-good, components-written}
use Rattle.cif_inst_bodies.proofs.ArgumentLaws.{no-blank, parameter-argument}

-- ---- what places mean

abbrev pub thing_of : ScopeEntry → Option Object
thing_of x = Some (thing x.0 x.1)

abbrev pub given_of : (Name → Option Object) → Component → Tree → Option Object
given_of name g e = Some (given g e)

-- what a place means
abbrev pub met_of : Component → Entry → Option Object
met_of c e = met_at thing_of None given_of c e

-- ---- things of one sort

-- a name stands as the argument for each parameter of the sort
abbrev pub IsNamed : Asked → Type 0
IsNamed asks = (k : ℕ) (p : ParamTree) (d g : Component) (e : Tree) → is_asked asks (parameter k p) ≡ true → IsArgumentFor d p g e → IsNameFor asks g e

-- and is followed there
abbrev pub IsFollowed : Asked → Type 0
IsFollowed asks = (k : ℕ) (p : ParamTree) → is_asked asks (parameter k p) ≡ true → (value : Tree → Option Object) (name : Name → Option Object) (nm : Name) (at : ℕ) → by_argument None value name p (Some (node (named nm) at)) ≡ name nm

module _ (t : Source) (few : length (components_of t) ≤ most_objects) (asks : Asked) where
  abbrev Listed : Component → Type 0
  Listed c = Member c (components_of t)

  -- what a listed component declares, of the sort
  pub record IsThing (o : Option Object) : Type 0 where
    pub place : Component
    pub entry : Entry
    pub is_listed : Listed place
    pub is_of : IsOf place entry
    pub is_sort : is_asked asks entry ≡ true
    pub is_own : is_parameter entry ≡ false
    pub is_thing : o ≡ Some (thing place entry)

  own-thing : (c : Component) (e : Entry) → Listed c → IsOf c e → is_asked asks e ≡ true → is_parameter e ≡ false → IsThing (met_of c e)
  own-thing c e l m a p = record { place = c; entry = e; is_listed = l; is_of = m; is_sort = a; is_own = p; is_thing = met_at-own thing_of None given_of c e p }

  own-place : (x : ScopeEntry) → Listed x.0 → IsOf x.0 x.1 → is_asked asks x.1 ≡ true → is_parameter x.1 ≡ false → IsThing (met_of x.0 x.1)
  own-place x = own-thing x.0 x.1

  -- ---- names

  -- what is found outward, of the sort, is one of these
  abbrev Outward : Component → Type 0
  Outward c = (s : Text) (x : ScopeEntry) → outward c s ≡ reached x → is_asked asks x.1 ≡ true → IsThing (met_of x.0 x.1)

  root-thing : (c : Component) → Listed c → (s : Text) (x : ScopeEntry) → in_scope (whole (specification_of c)) s ≡ reached x → is_asked asks x.1 ≡ true → IsThing (met_of x.0 x.1)
  root-thing c l s x h a =
      let place = in_scope-is (whole (specification_of c)) s x h in
      let root : Listed (whole (specification_of c)) = subst (λ r. Listed (whole r)) (sym (frames-listed t few c l).0) (head-below most_objects (whole t)) in
      own-place x (subst Listed (sym place.0) root) place.1 a (in_body-own (whole (specification_of c)) s x h)

  going : (r : Reached) → ((z : ScopeEntry) → r ≡ reached z → is_asked asks z.1 ≡ true → IsThing (met_of z.0 z.1))
      → (ps : List Ident) (x : ScopeEntry) → Listed x.0 → IsOf x.0 x.1 → go_on (λ y. inside y ps) r ≡ reached x → is_asked asks x.1 ≡ true → IsThing (met_of x.0 x.1)
  going (reached z) first [] x l m h a = first x h a
  going (reached z) first (q ∷ qs) x l m h a = own-place x l m a (inside-own z q qs x h)
  going missing first ps x l m h a = cc
  going blocked first ps x l m h a = cc

  abbrev name_of : Bool → List Ident → ℕ → Name
  name_of r ps at = record { from_root = r; parts = ps; at = at }

  parts-thing : (c : Component) → Listed c → Outward c → (r : Bool) (ps : List Ident) (at : ℕ) (x : ScopeEntry) → Listed x.0 → IsOf x.0 x.1 → found c (name_of r ps at) ≡ reached x → is_asked asks x.1 ≡ true → IsThing (met_of x.0 x.1)
  parts-thing c l out true [] at x k m h a = cc
  parts-thing c l out false [] at x k m h a = cc
  parts-thing c l out true (p ∷ ps) at x k m h a = going (in_scope (whole (specification_of c)) p.text) (root-thing c l p.text) ps x k m h a
  parts-thing c l out false (p ∷ ps) at x k m h a = going (outward c p.text) (out p.text) ps x k m h a

  names-thing : (c : Component) → Listed c → Outward c → (nm : Name) (x : ScopeEntry) → found c nm ≡ reached x → is_asked asks x.1 ≡ true → IsThing (met_of x.0 x.1)
  names-thing c l out nm x h a = parts-thing c l out nm.from_root nm.parts nm.at x (found-listed t few c l nm x h) (found-good t c (components-written t c l) nm x h).1 h a

  -- ---- scopes outward

  -- so is what the scope of a component declares
  abbrev Declares : Component → Type 0
  Declares c = (e : Entry) → IsOf c e → is_asked asks e ≡ true → IsThing (met_of c e)

  frame-thing : (c o : Component) → Declares c → Outward o → (s : Text) (x : ScopeEntry) → or_outward (in_scope c s) (outward o s) ≡ reached x → is_asked asks x.1 ≡ true → IsThing (met_of x.0 x.1)
  frame-thing c o own up s x h a =
      (elim (in_scope c s) as (λ r. in_scope c s ≡ r → or_outward r (outward o s) ≡ reached x → IsThing (met_of x.0 x.1)) [
        | reached z ↦ λ i k.
            let place = in_scope-is c s x (i ∙ k) in
            subst (λ d. IsThing (met_of d x.1)) (sym place.0) (own x.1 (subst (λ d. IsOf d x.1) place.0 place.1) a)
        | missing ↦ λ i k. up s x k a
        | blocked ↦ λ i k. cc
      ]) refl h

  part-declares : (o : Component) (n : Ident) (b : SourceBody) → Listed (part o n b) → Declares (part o n b)
  part-declares o n b l (parameter k q) m a = absurd (none-some q m)
  part-declares o n b l e m a = own-thing (part o n b) e l m a refl

  module _ (known : (at : ℕ) → UnknownDue t at → ⊥) (sorts : (at : ℕ) → WrongKindDue t at → ⊥) (matched : (at : ℕ) → MismatchDue t at → ⊥) (passes : IsNamed asks) (follows : IsFollowed asks) where
    argument-thing : (o g : Component) (n : Ident) (ps : List ParamTree) (b : SourceBody) (i : InstanceTree) → Listed g → Outward g → (k : ℕ) (p : ParamTree) → is_asked asks (parameter k p) ≡ true
        → (e : Tree) → slice_get i.args k ≡ Some e → IsNameFor asks g e → IsThing (met_of (copy o n ps b g i) (parameter k p))
    argument-thing o g n ps b i l out k p a e at is =
        subst IsThing
        (sym (ap (by_argument None (λ x. Some (given g x)) (follow thing_of None given_of g) p) (at ∙ ap Some is.is_bare)
        ∙ follows k p a (λ x. Some (given g x)) (follow thing_of None given_of g) is.name is.at
        ∙ follow-met thing_of None given_of g is.name
        ∙ ap (met thing_of None given_of) is.is_found))
        (names-thing g l out is.name is.place is.is_found is.is_sort)

    copy-declares : (o g : Component) (n : Ident) (ps : List ParamTree) (b : SourceBody) (i : InstanceTree) → Listed (copy o n ps b g i) → Listed g → Outward g → Declares (copy o n ps b g i)
    copy-declares o g n ps b i l lg out (parameter k p) at a =
        let e = parameter-argument t known sorts matched o g n ps b i l k p at in
        argument-thing o g n ps b i lg out k p a e.0 e.1 (passes k p (copy o n ps b g i) g e.0 a e.3)
    copy-declares o g n ps b i l lg out e at a = own-thing (copy o n ps b g i) e l at a refl

    outward-things : (c : Component) → Listed c → Outward c
    outward-things (whole is) l s x h a = root-thing (whole is) l s x h a
    outward-things (part o n b) l s x h a = frame-thing (part o n b) o (part-declares o n b l) (outward-things o (parent-listed t few (part o n b) o refl l).0) s x h a
    outward-things (blank o n ps b) l s x h a = absurd (no-blank t o n ps b l)
    outward-things (copy o n ps b g i) l s x h a =
        let giver : Listed g = (parent-listed t few (copy o n ps b g i) g refl l).0 in
        frame-thing (copy o n ps b g i) o (copy-declares o g n ps b i l giver (outward-things g giver)) (outward-things o (outer-listed t few o g n ps b i l).0.0) s x h a

    -- what a name leads to, where that is of the sort
    pub leads-to : (c : Component) → Listed c → (nm : Name) (x : ScopeEntry) → found c nm ≡ reached x → is_asked asks x.1 ≡ true → IsThing (met_of x.0 x.1)
    leads-to c l nm x h a = names-thing c l (outward-things c l) nm x h a
