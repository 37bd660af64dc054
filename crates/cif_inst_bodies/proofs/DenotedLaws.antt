-- Where a source keeps its rules on names and kinds, a name that a component uses as an event, a variable, a location or a value
-- denotes one.
use Rattle.std.proofs.Common.{◌≡◌, ℕ, ◌<◌, ◌≤◌, Bool, true, false, length, Some, None, refl, sym, ◌∙◌, ap, subst}
use Rattle.std.proofs.lemmas.Cmp.{nat_list_eq_equiv}
use Rattle.cif_ast.specs.declared.names.Ident.{Ident}
use Rattle.cif_ast.specs.declared.names.Name.{Name}
use Rattle.cif_ast.specs.declared.declarations.Class.{Class}
use Rattle.cif_system.specs.Words.{Member}
use Rattle.cif_system.proofs.Lists.{false-true, none-some, filter-member}
use Rattle.cif_source.specs.Source.{Text, ChannelTree, DeclTree, TypeTree, event_decl, const_decl, alg_decl, input_decl, disc_decl, event_param, alg_param, location_param, Source}
use Rattle.cif_source.specs.Components.{Component, whole, part, blank, copy, Entry, declared, literal, location, parameter}
use Rattle.cif_source.specs.Lookup.{ScopeEntry, reached, found, thing, given, denotes, by_argument, follow}
use Rattle.cif_source.specs.Objects.{components_of, most_objects, decls_of, Declared, declarations, declares, of_sort, events, variables, is_event, is_variable, is_declared, number_in}
use Rattle.cif_source.specs.Step.{event_at, variable_at}
use Rattle.cif_source.specs.Uses.{uses, event_asked, variable_asked, location_asked, value_asked, is_asked}
use Rattle.cif_source.specs.Scoping.{UnknownDue, WrongKindDue}
use Rattle.cif_source.proofs.NameLaws.{is_parameter, met, met_at-own, follow-met}
use Rattle.cif_source.proofs.ReachLaws.{frames-listed, found-listed}
use Rattle.cif_source.specs.Kinds.{Kind, bool_kind, int_kind, no_kind, enum_kind, same_kind, type_kind, kind_at, kind_of}
use Rattle.cif_source.specs.BodyRules.{MismatchDue}
use Rattle.cif_inst_model.proofs.FoundLaws.{declaration-listed}
use Rattle.cif_inst_model.proofs.KeptLaws.{member-passes}
use Rattle.cif_inst_model.proofs.PositionLaws.{position-below}
use Rattle.cif_inst_bodies.specs.Denoted.{DenotesEvent, DenotesVariable, DenotesLocation, is_valued, DenotesValue}
use Rattle.cif_inst_bodies.specs.Entries.{IsOf}
use Rattle.cif_inst_bodies.proofs.Bodies.{found-good, components-written}
use Rattle.cif_inst_model.proofs.PathLaws.{path-told}
use Rattle.cif_inst_bodies.proofs.PassedLaws.{thing_of, given_of, met_of, IsNamed, IsFollowed, leads-to}
use Rattle.cif_inst_bodies.proofs.NumberLaws.{declared-as}
use Rattle.cif_inst_bodies.proofs.ArgumentLaws.{asked, given-by, no-blank, parameter-argument}

-- ---- sorts of things

event-named : IsNamed event_asked
event-named k (event_param x h n) d g e a m = m
event-named k (alg_param ty n) d g e a m = cc
event-named k (location_param n) d g e a m = cc

event-followed : IsFollowed event_asked
event-followed k (event_param x h n) a value name nm at = refl
event-followed k (alg_param ty n) a value name nm at = cc
event-followed k (location_param n) a value name nm at = cc

location-named : IsNamed location_asked
location-named k (location_param n) d g e a m = m
location-named k (alg_param ty n) d g e a m = cc
location-named k (event_param x h n) d g e a m = cc

location-followed : IsFollowed location_asked
location-followed k (location_param n) a value name nm at = refl
location-followed k (alg_param ty n) a value name nm at = cc
location-followed k (event_param x h n) a value name nm at = cc

event-entry : (e : Entry) → is_asked event_asked e ≡ true → is_parameter e ≡ false → (k : Class) × (h : ChannelTree) × (n : Ident) × (e ≡ declared (event_decl k h n))
event-entry (declared (event_decl k h n)) a p = (k, h, n, refl)
event-entry (parameter k q) a p = absurd (false-true p refl)
event-entry _ a p = cc

location-entry : (e : Entry) → is_asked location_asked e ≡ true → is_parameter e ≡ false → (k : ℕ) × (e ≡ location k)
location-entry (location k) a p = (k, refl)
location-entry (parameter k q) a p = absurd (false-true p refl)
location-entry _ a p = cc

valued : (e : Entry) → is_asked value_asked e ≡ true → is_parameter e ≡ false → is_valued e ≡ true
valued (declared (const_decl ty n e)) a p = refl
valued (declared (alg_decl ty n e)) a p = refl
valued (declared (input_decl ty n)) a p = refl
valued (declared (disc_decl ty n e)) a p = refl
valued (literal k ls) a p = refl
valued (location k) a p = refl
valued (parameter k q) a p = absurd (false-true p refl)
valued _ a p = cc

-- kinds that are told to be the same are one
kind-told : (j k : Kind) → same_kind j k ≡ true → j ≡ k
kind-told bool_kind bool_kind h = refl
kind-told int_kind int_kind h = refl
kind-told (enum_kind xs) (enum_kind ys) h = ap enum_kind (path-told xs ys h)
kind-told _ _ h = cc

module _ (t : Source) (few : length (components_of t) ≤ most_objects) where
  abbrev Listed : Component → Type 0
  Listed c = Member c (components_of t)

  -- a declaration of a listed component has a number below that of all of its sort
  number-below : (sort : DeclTree → Bool) (c : Component) (d : DeclTree) → Listed c → Member d (decls_of c) → sort d ≡ true → (x : Text) → declares x d ≡ true → number_in (of_sort sort t) c x < length (of_sort sort t)
  number-below sort c d l m is x h =
      position-below (is_declared c x) (of_sort sort t)
      (member-passes (is_declared c x) (of_sort sort t) (c, d) (filter-member (λ (e : Declared). sort e.1) (declarations t) (c, d) (declaration-listed t few c d l m) is) (declared-as c d x h))

  -- ---- variables

  variable-at : (c : Component) (nm : Name) → Listed c → (d : Component) (e : Entry) → found c nm ≡ reached (d, e) → Listed d → IsOf d e → is_asked variable_asked e ≡ true → DenotesVariable t c nm
  variable-at c nm l d (declared (disc_decl ty n v)) h k m a =
      let denoted : denotes c nm ≡ Some (thing d (declared (disc_decl ty n v))) = follow-met thing_of None given_of c nm ∙ ap (met thing_of None given_of) h ∙ met_at-own thing_of None given_of d (declared (disc_decl ty n v)) refl in
      record {
        place = d;
        type_of = ty;
        ident = n;
        first = v;
        is_listed = k;
        is_declared = m;
        is_found = h;
        is_denoted = denoted;
        variable = number_in (variables t) d n.text;
        is_variable = ap variable_at denoted ∙ ap (λ s. Some (number_in (variables s) d n.text)) (frames-listed t few d k).0;
        is_below = number-below is_variable d (disc_decl ty n v) k m refl n.text (nat_list_eq_equiv.refl n.text);
      }
  variable-at c nm l d _ h k m a = cc

  -- a name that is used as a variable denotes one
  pub variable-names : ((at : ℕ) → UnknownDue t at → ⊥) → ((at : ℕ) → WrongKindDue t at → ⊥) → (c : Component) → Listed c → (nm : Name) → Member (record { name = nm; asks = variable_asked }) (uses c) → DenotesVariable t c nm
  variable-names known sorts c l nm m =
      let x = asked t known sorts c (components-written t c l) (record { name = nm; asks = variable_asked }) m in
      variable-at c nm l x.0.0 x.0.1 x.1 (found-listed t few c l nm x.0 x.1) (found-good t c (components-written t c l) nm x.0 x.1).1 x.2

  module _ (known : (at : ℕ) → UnknownDue t at → ⊥) (sorts : (at : ℕ) → WrongKindDue t at → ⊥) (matched : (at : ℕ) → MismatchDue t at → ⊥) where
    -- ---- events

    denoted : (c : Component) (nm : Name) (x : ScopeEntry) → found c nm ≡ reached x → denotes c nm ≡ met_of x.0 x.1
    denoted c nm x h = follow-met thing_of None given_of c nm ∙ ap (met thing_of None given_of) h

    event-is : (c : Component) (nm : Name) (d : Component) (e : Entry) → Listed d → IsOf d e → is_asked event_asked e ≡ true → is_parameter e ≡ false → denotes c nm ≡ Some (thing d e) → DenotesEvent t c nm
    event-is c nm d (declared (event_decl k h n)) l m a p is = record {
      place = d;
      class = k;
      channel = h;
      ident = n;
      is_listed = l;
      is_declared = m;
      is_denoted = is;
      event = number_in (events t) d n.text;
      is_event = ap event_at is ∙ ap (λ s. Some (number_in (events s) d n.text)) (frames-listed t few d l).0;
      is_below = number-below is_event d (event_decl k h n) l m refl n.text (nat_list_eq_equiv.refl n.text);
    }
    event-is c nm d (parameter k q) l m a p is = absurd (false-true p refl)
    event-is c nm d _ l m a p is = cc

    -- a name that is used as an event denotes one
    pub event-names : (c : Component) → Listed c → (nm : Name) → Member (record { name = nm; asks = event_asked }) (uses c) → DenotesEvent t c nm
    event-names c l nm m =
        let x = asked t known sorts c (components-written t c l) (record { name = nm; asks = event_asked }) m in
        let is = leads-to t few event_asked known sorts matched event-named event-followed c l nm x.0 x.1 x.2 in
        event-is c nm is.place is.entry is.is_listed is.is_of is.is_sort is.is_own (denoted c nm x.0 x.1 ∙ is.is_thing)

    -- ---- locations

    location-is : (c : Component) (nm : Name) (d : Component) (e : Entry) → Listed d → IsOf d e → is_asked location_asked e ≡ true → is_parameter e ≡ false → denotes c nm ≡ Some (thing d e) → DenotesLocation t c nm
    location-is c nm d (location k) l m a p is = record { place = d; number = k; is_listed = l; is_below = m; is_denoted = is }
    location-is c nm d (parameter k q) l m a p is = absurd (false-true p refl)
    location-is c nm d _ l m a p is = cc

    -- a name that is used as a location denotes one
    pub location-names : (c : Component) → Listed c → (nm : Name) → Member (record { name = nm; asks = location_asked }) (uses c) → DenotesLocation t c nm
    location-names c l nm m =
        let x = asked t known sorts c (components-written t c l) (record { name = nm; asks = location_asked }) m in
        let is = leads-to t few location_asked known sorts matched location-named location-followed c l nm x.0 x.1 x.2 in
        location-is c nm is.place is.entry is.is_listed is.is_of is.is_sort is.is_own (denoted c nm x.0 x.1 ∙ is.is_thing)

    -- ---- values

    value-argument : (c : Component) (nm : Name) (d : Component) (k : ℕ) (ty : TypeTree) (n : Ident) → found c nm ≡ reached (d, parameter k (alg_param ty n)) → Listed d → IsOf d (parameter k (alg_param ty n)) → DenotesValue t c nm
    value-argument c nm (whole is) k ty n h l m = absurd (none-some (alg_param ty n) m)
    value-argument c nm (part o x b) k ty n h l m = absurd (none-some (alg_param ty n) m)
    value-argument c nm (blank o x ps b) k ty n h l m = absurd (no-blank t o x ps b l)
    value-argument c nm (copy o x ps b g i) k ty n h l m =
        let e = parameter-argument t known sorts matched o g x ps b i l k (alg_param ty n) m in
        record {
          object = given g e.0;
          is_denoted = denoted c nm (copy o x ps b g i, parameter k (alg_param ty n)) h ∙ ap (by_argument None (λ y. Some (given g y)) (follow thing_of None given_of g) (alg_param ty n)) e.1;
          has_value = (given-by t o g x ps b i l).giver;
          has_kind = kind-told (kind_of g no_kind e.0) (type_kind (copy o x ps b g i) ty) e.3 ∙ sym (ap kind_at h);
        }

    value-location : (c : Component) → Listed c → (nm : Name) (d : Component) (k : ℕ) (n : Ident) → found c nm ≡ reached (d, parameter k (location_param n)) → DenotesValue t c nm
    value-location c l nm d k n h =
        let is = leads-to t few location_asked known sorts matched location-named location-followed c l nm (d, parameter k (location_param n)) h refl in
        let at = location-entry is.entry is.is_sort is.is_own in
        record {
          object = thing is.place (location at.0);
          is_denoted = denoted c nm (d, parameter k (location_param n)) h ∙ is.is_thing ∙ ap (λ (e : Entry). Some (thing is.place e)) at.1;
          has_value = (is.is_listed, subst (IsOf is.place) at.1 is.is_of, refl);
          has_kind = sym (ap kind_at h);
        }

    value-own : (c : Component) (nm : Name) (d : Component) (e : Entry) → found c nm ≡ reached (d, e) → Listed d → IsOf d e → is_asked value_asked e ≡ true → is_parameter e ≡ false → DenotesValue t c nm
    value-own c nm d e h l m a p = record {
      object = thing d e;
      is_denoted = denoted c nm (d, e) h ∙ met_at-own thing_of None given_of d e p;
      has_value = (l, m, valued e a p);
      has_kind = sym (ap kind_at h);
    }

    value-is : (c : Component) → Listed c → (nm : Name) (d : Component) (e : Entry) → found c nm ≡ reached (d, e) → Listed d → IsOf d e → is_asked value_asked e ≡ true → DenotesValue t c nm
    value-is c l nm d (parameter k (alg_param ty n)) h ld m a = value-argument c nm d k ty n h ld m
    value-is c l nm d (parameter k (location_param n)) h ld m a = value-location c l nm d k n h
    value-is c l nm d (parameter k (event_param x y n)) h ld m a = cc
    value-is c l nm d e h ld m a = value-own c nm d e h ld m a refl

    -- a name that is used as a value denotes what has one
    pub value-names : (c : Component) → Listed c → (nm : Name) → Member (record { name = nm; asks = value_asked }) (uses c) → DenotesValue t c nm
    value-names c l nm m =
        let x = asked t known sorts c (components-written t c l) (record { name = nm; asks = value_asked }) m in
        value-is c l nm x.0.0 x.0.1 x.1 (found-listed t few c l nm x.0 x.1) (found-good t c (components-written t c l) nm x.0 x.1).1 x.2
