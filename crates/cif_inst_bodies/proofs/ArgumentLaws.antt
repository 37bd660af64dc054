-- Where a source keeps its rules on names and kinds, each parameter of an instance has its argument, which for an event or a
-- location is a bare name that leads to one.
use Rattle.std.proofs.Common.{◌≡◌, ℕ, zero, suc, ◌<◌, Bool, true, false, ◌⊎◌, inl, inr, List, [], ◌∷◌, ◌++◌, length, Some, None, refl, sym, ◌∙◌, ap, subst, arith}
use Rattle.std.specs.Prelude.{slice_get, flat_map, filter_map, zip, not, nat_eq}
use Rattle.std.specs.List.{cons_option}
use Rattle.std.proofs.lemmas.Option.{slice_get_cases}
use Rattle.std.proofs.lemmas.Bool.Decides.{nat_tests}
use Rattle.cif_ast.specs.Tree.{Tree, node, named}
use Rattle.cif_ast.specs.declared.names.Ident.{Ident}
use Rattle.cif_ast.specs.declared.names.Name.{Name}
use Rattle.cif_ast.specs.declared.declarations.Class.{Class}
use Rattle.cif_system.specs.Words.{Member}
use Rattle.cif_system.proofs.Lists.{some-same, none-some, slice_get-below}
use Rattle.cif_system.proofs.Picks.{append-left, append-right, map-member, flat_map-member, at-member, zip-at}
use Rattle.cif_source.specs.Source.{ChannelTree, ParamTree, event_param, alg_param, location_param, InstanceTree, SourceItem, decl_item, component_item, definition_item, instance_item, SourceBody, group_body, automaton_body, Source, list_of_items, tree_at}
use Rattle.cif_source.specs.Components.{Component, whole, part, blank, copy, stands_in, body_of, params_of, as_written, Entry, declared, literal, location, inner, definition, instance, parameter}
use Rattle.cif_source.specs.Lookup.{ScopeEntry, Reached, reached, missing, blocked, opened, opened_at, definition_found, found}
use Rattle.cif_source.specs.Objects.{components_of, child_of, items_in, most_objects, bodies, decls_of, locs_of}
use Rattle.cif_source.specs.Uses.{Use, Asked, event_asked, location_asked, definition_asked, asking, arg_uses, args_uses, params_at, item_uses, body_uses, param_uses, uses, is_asked, sought}
use Rattle.cif_source.specs.Scoping.{is_missing, is_wrong, UnknownDue, UnknownName, UnknownOwn, WrongKindDue, WrongName, WrongOwn, WrongCount, as_instance, instances_of, has_wrong_count}
use Rattle.cif_source.specs.Kinds.{no_kind, int_kind, same_kind, type_kind, kind_of, demand}
use Rattle.cif_source.specs.Constants.{bound_values}
use Rattle.cif_source.specs.Demands.{asked_for, decl_demands, argument_demands, location_demands, Argument, arguments_at, arguments_in, is_unfit_for}
use Rattle.cif_source.specs.BodyRules.{MismatchDue, BadValue, BadUse, BadArgument}
use Rattle.cif_source.proofs.ReachLaws.{below-parent}
use Rattle.cif_inst_model.proofs.RuleLaws.{member-any}
use Rattle.cif_inst_bodies.specs.Arguments.{IsNameFor, IsArgumentFor}
use Rattle.cif_inst_bodies.proofs.Alike.{written, twice, body-written, definition-written}
use Rattle.cif_inst_bodies.proofs.Bodies.{IsWritten, components-written}
use Rattle.cif_inst_bodies.proofs.KindLaws.{type-same}
use Rattle.cif_inst_bodies.proofs.DemandLaws.{demands-met, unfit-same}
use Rattle.cif_inst_bodies.proofs.UseLaws.{uses-written, sought-same}

-- ---- instances that stand in a component

abbrev definition_at : Component → Reached
definition_at (copy o n ps b g i) = reached (o, definition n ps b)
definition_at _ = missing

abbrev instance_at : InstanceTree → Component → InstanceTree
instance_at j (copy o n ps b g i) = i
instance_at j _ = j

-- the component is an instance of what was found
pub record IsCopy (c : Component) (j : InstanceTree) (r : Reached) (d : Component) : Type 0 where
  pub outer : Component
  pub name : Ident
  pub params : List ParamTree
  pub body : SourceBody
  pub is_found : r ≡ reached (outer, definition name params body)
  pub is_copy : d ≡ copy outer name params body c j

pub opened_at-is : (c : Component) (j : InstanceTree) (r : Reached) (d : Component) → opened_at c j r ≡ Some d → IsCopy c j r d
opened_at-is c j (reached (o, definition n ps b)) d h = record { outer = o; name = n; params = ps; body = b; is_found = refl; is_copy = sym (some-same (copy o n ps b c j) d h) }
opened_at-is c j (reached (o, declared x)) d h = absurd (none-some d h)
opened_at-is c j (reached (o, literal k ls)) d h = absurd (none-some d h)
opened_at-is c j (reached (o, location k)) d h = absurd (none-some d h)
opened_at-is c j (reached (o, inner m e)) d h = absurd (none-some d h)
opened_at-is c j (reached (o, instance k)) d h = absurd (none-some d h)
opened_at-is c j (reached (o, parameter k p)) d h = absurd (none-some d h)
opened_at-is c j missing d h = absurd (none-some d h)
opened_at-is c j blocked d h = absurd (none-some d h)

-- a child is written there, or is an instance that stands there
abbrev IsPart : Component → Component → Type 0
IsPart c d = (n : Ident) × (b : SourceBody) × (d ≡ part c n b)

abbrev IsInstance : Component → List SourceItem → Component → Type 0
IsInstance c is d = (j : InstanceTree) × Member (instance_item j) is × IsCopy c j (definition_found c j) d

later : (c : Component) (x : SourceItem) (is : List SourceItem) (d : Component) → IsPart c d ⊎ IsInstance c is d → IsPart c d ⊎ IsInstance c (x ∷ is) d
later c x is d h = elim h [ inl w ↦ inl w | inr w ↦ inr (w.0, inr w.1, w.2) ]

child-is : (c : Component) (is : List SourceItem) (d : Component) → Member d (filter_map (child_of c) is) → IsPart c d ⊎ IsInstance c is d
child-is c [] d m = absurd m
child-is c (decl_item x ∷ is) d m = later c (decl_item x) is d (child-is c is d m)
child-is c (definition_item n ps b ∷ is) d m = later c (definition_item n ps b) is d (child-is c is d m)
child-is c (component_item n b ∷ is) d m = elim m [ inl w ↦ inl (n, b, w) | inr w ↦ later c (component_item n b) is d (child-is c is d w) ]
child-is c (instance_item j ∷ is) d m =
    (elim (opened c j) as (λ o. opened c j ≡ o → Member d (cons_option o (filter_map (child_of c) is)) → IsPart c d ⊎ IsInstance c (instance_item j ∷ is) d) [
      | None ↦ λ h g. later c (instance_item j) is d (child-is c is d g)
      | Some x ↦ λ h g. elim g [
        | inl w ↦ inr (j, inl refl, opened_at-is c j (definition_found c j) d (h ∙ ap Some (sym w)))
        | inr w ↦ later c (instance_item j) is d (child-is c is d w)
      ]
    ]) refl m

-- an instance that stands in a listed component, where its definition was found
pub record IsGiven (t : Source) (o g : Component) (n : Ident) (ps : List ParamTree) (b : SourceBody) (i : InstanceTree) : Type 0 where
  pub giver : Member g (components_of t)
  pub item : Member (instance_item i) (items_in (body_of g))
  pub opens : definition_found g i ≡ reached (o, definition n ps b)

copy-given : (t : Source) (o g : Component) (n : Ident) (ps : List ParamTree) (b : SourceBody) (i : InstanceTree) (p : Component) → Member p (components_of t) → IsInstance p (items_in (body_of p)) (copy o n ps b g i) → IsGiven t o g n ps b i
copy-given t o g n ps b i p m v =
    let c = v.2.is_copy in
    let place : g ≡ p = some-same g p (ap stands_in c) in
    let same : i ≡ v.0 = ap (instance_at i) c in
    record {
      giver = subst (λ q. Member q (components_of t)) (sym place) m;
      item = subst (λ q. Member (instance_item i) (items_in (body_of q))) (sym place) (subst (λ j. Member (instance_item j) (items_in (body_of p))) (sym same) v.1);
      opens = (λ k. definition_found (place k) (same k)) ∙ v.2.is_found ∙ sym (ap definition_at c);
    }

module _ (t : Source) where
  pub given-by : (o g : Component) (n : Ident) (ps : List ParamTree) (b : SourceBody) (i : InstanceTree) → Member (copy o n ps b g i) (components_of t) → IsGiven t o g n ps b i
  given-by o g n ps b i m =
      elim (below-parent most_objects (whole t) (copy o n ps b g i) m) [
        | inl w ↦ absurd (none-some g (sym (ap stands_in w)))
        | inr w ↦ elim (child-is w.0 (items_in (body_of w.0)) (copy o n ps b g i) w.2) [
          | inl v ↦ absurd (not-part w.0 v.0 v.1 v.2)
          | inr v ↦ copy-given t o g n ps b i w.0 w.1 v
        ]
      ]
    where
      not-part : (p : Component) (m : Ident) (c : SourceBody) → copy o n ps b g i ≡ part p m c → ⊥
      not-part p m c h = cc

  -- a component is no definition
  pub no-blank : (o : Component) (n : Ident) (ps : List ParamTree) (b : SourceBody) → Member (blank o n ps b) (components_of t) → ⊥
  no-blank o n ps b m =
      elim (below-parent most_objects (whole t) (blank o n ps b) m) [
        | inl w ↦ none-some o (sym (ap stands_in w))
        | inr w ↦ elim (child-is w.0 (items_in (body_of w.0)) (blank o n ps b) w.2) [
          | inl v ↦ not-part w.0 v.0 v.1 v.2
          | inr v ↦ not-copy v.2.outer v.2.name v.2.params v.2.body w.0 v.0 v.2.is_copy
        ]
      ]
    where
      not-part : (p : Component) (m : Ident) (c : SourceBody) → blank o n ps b ≡ part p m c → ⊥
      not-part p m c h = cc

      not-copy : (q : Component) (m : Ident) (qs : List ParamTree) (c : SourceBody) (p : Component) (j : InstanceTree) → blank o n ps b ≡ copy q m qs c p j → ⊥
      not-copy q m qs c p j h = cc

-- ---- names that are used

missing-written : (r : Reached) → is_missing r ≡ is_missing (written r)
missing-written (reached x) = refl
missing-written missing = refl
missing-written blocked = refl

wrong-written : (sort : Entry → Bool) (r : Reached) → is_wrong sort r ≡ is_wrong sort (written r)
wrong-written sort (reached x) = refl
wrong-written sort missing = refl
wrong-written sort blocked = refl

abbrev Leads : Component → Use → Type 0
Leads c u = (x : ScopeEntry) × (sought c u ≡ reached x) × (is_asked u.asks x.1 ≡ true)

module _ (t : Source) (known : (at : ℕ) → UnknownDue t at → ⊥) (sorts : (at : ℕ) → WrongKindDue t at → ⊥) where
  -- a name that a component uses leads to what is asked for
  pub asked : (c : Component) → IsWritten t c → (u : Use) → Member u (uses c) → Leads c u
  asked c w u m =
      (elim (sought c u) as (λ r. sought c u ≡ r → Leads c u) [
        | missing ↦ λ e. absurd (known u.name.at (member-any (λ d. UnknownName d u.name.at ⊎ UnknownOwn d u.name.at) (as_written c) (bodies t) w
            (inl (member-any (λ (v : Use). (v.name.at ≡ u.name.at) × (is_missing (sought (as_written c) v) ≡ true)) u (uses (as_written c)) used (refl, sym (same-missing c u) ∙ ap is_missing e)))))
        | blocked ↦ λ e. absurd (wrong (ap (is_wrong (is_asked u.asks)) e))
        | reached x ↦ λ e. (x, e, sort x e)
      ]) refl
    where
      used : Member u (uses (as_written c))
      used = subst (Member u) (uses-written c) m

      same-missing : (c : Component) (u : Use) → is_missing (sought c u) ≡ is_missing (sought (as_written c) u)
      same-missing c u = missing-written (sought c u) ∙ ap is_missing (sought-same c (as_written c) (sym (twice c)) u) ∙ sym (missing-written (sought (as_written c) u))

      same-wrong : (sort : Entry → Bool) → is_wrong sort (sought c u) ≡ is_wrong sort (sought (as_written c) u)
      same-wrong sort = wrong-written sort (sought c u) ∙ ap (is_wrong sort) (sought-same c (as_written c) (sym (twice c)) u) ∙ sym (wrong-written sort (sought (as_written c) u))

      wrong : is_wrong (is_asked u.asks) (sought c u) ≡ true → ⊥
      wrong g =
          sorts u.name.at (member-any (λ d. WrongName d u.name.at ⊎ WrongOwn d u.name.at ⊎ WrongCount d u.name.at) (as_written c) (bodies t) w
          (inl (member-any (λ (v : Use). (v.name.at ≡ u.name.at) × (is_wrong (is_asked v.asks) (sought (as_written c) v) ≡ true)) u (uses (as_written c)) used (refl, sym (same-wrong (is_asked u.asks)) ∙ g))))

      sort : (x : ScopeEntry) → sought c u ≡ reached x → is_asked u.asks x.1 ≡ true
      sort x e =
          (elim (is_asked u.asks x.1) as (λ b. is_asked u.asks x.1 ≡ b → b ≡ true) [
            | true ↦ λ g. refl
            | false ↦ λ g. absurd (wrong (ap (is_wrong (is_asked u.asks)) e ∙ ap not g))
          ]) refl

-- ---- arguments are used

args-used : (es : List Tree) (ps : List ParamTree) (k : ℕ) (e : Tree) (p : ParamTree) (u : Use) → slice_get es k ≡ Some e → slice_get ps k ≡ Some p → Member u (arg_uses e p) → Member u (args_uses es ps)
args-used [] ps k e p u h g m = absurd (none-some e h)
args-used (x ∷ es) [] k e p u h g m = absurd (none-some p g)
args-used (x ∷ es) (q ∷ ps) zero e p u h g m =
    append-left u (arg_uses x q) (args_uses es ps) (subst (λ y. Member u (arg_uses y q)) (sym (some-same x e h)) (subst (λ r. Member u (arg_uses e r)) (sym (some-same q p g)) m))
args-used (x ∷ es) (q ∷ ps) (suc k) e p u h g m = append-right u (arg_uses x q) (args_uses es ps) (args-used es ps k e p u h g m)

item-used : (c : Component) (b : SourceBody) (x : SourceItem) → Member x (items_in b) → (u : Use) → Member u (item_uses c x) → Member u (body_uses c b)
item-used c (group_body is) x m u k = flat_map-member (item_uses c) x (list_of_items is) u m k
item-used c (automaton_body a) x m u k = absurd m

instance-more : (i : InstanceTree) (x : SourceItem) (is : List SourceItem) → Member i (filter_map as_instance is) → Member i (filter_map as_instance (x ∷ is))
instance-more i (instance_item j) is m = inr m
instance-more i (decl_item d) is m = m
instance-more i (component_item n b) is m = m
instance-more i (definition_item n ps b) is m = m

instance-in : (i : InstanceTree) (is : List SourceItem) → Member (instance_item i) is → Member i (filter_map as_instance is)
instance-in i [] m = absurd m
instance-in i (x ∷ is) m =
    elim m [
      | inl w ↦ subst (λ y. Member i (filter_map as_instance (y ∷ is))) w (inl refl)
      | inr w ↦ instance-more i x is (instance-in i is w)
    ]

-- ---- arguments

abbrev IsBare : Tree → Type 0
IsBare e = (nm : Name) × (at : ℕ) × (e ≡ node (named nm) at)

-- what fits a parameter for an event or a location is a bare name
event-bare : (c d : Component) (e : Tree) (k : Class) (h : ChannelTree) (n : Ident) → is_unfit_for c d e (event_param k h n) ≡ false → IsBare e
event-bare c d (node (named nm) at) k h n w = (nm, at, refl)
event-bare c d (node _ at) k h n w = cc

location-bare : (c d : Component) (e : Tree) (n : Ident) → is_unfit_for c d e (location_param n) ≡ false → IsBare e
location-bare c d (node (named nm) at) n w = (nm, at, refl)
location-bare c d (node _ at) n w = cc

element : {A : Type 0} → (xs : List A) → (k : ℕ) → k < length xs → (x : A) × (slice_get xs k ≡ Some x)
element xs k h = elim (slice_get_cases xs k).1 [ inl w ↦ (w.0, w.2) | inr w ↦ absurd (omega (arith, w.0, h)) ]

module _ (t : Source) (known : (at : ℕ) → UnknownDue t at → ⊥) (sorts : (at : ℕ) → WrongKindDue t at → ⊥) (o g : Component) (n : Ident) (ps : List ParamTree) (b : SourceBody) (i : InstanceTree) (given : IsGiven t o g n ps b i) where
  home : IsWritten t g
  home = components-written t g given.giver

  opens-written : definition_found (as_written g) i ≡ reached (as_written o, definition n ps b)
  opens-written = sym (definition-written g i) ∙ ap written given.opens

  stands : Member i (instances_of (as_written g))
  stands = instance-in i (items_in (body_of (as_written g))) (subst (λ c. Member (instance_item i) (items_in c)) (sym (body-written g)) given.item)

  pub counted : length i.args ≡ length ps
  counted =
      (elim (nat_eq (length i.args) (length ps)) as (λ e. nat_eq (length i.args) (length ps) ≡ e → length i.args ≡ length ps) [
        | true ↦ λ h. grind (arith, nat_tests)
        | false ↦ λ h. absurd (sorts i.name.at (member-any (λ c. WrongName c i.name.at ⊎ WrongOwn c i.name.at ⊎ WrongCount c i.name.at) (as_written g) (bodies t) home
            (inr (inr (member-any (λ (j : InstanceTree). (j.name.at ≡ i.name.at) × (has_wrong_count j (definition_found (as_written g) j) ≡ true)) i (instances_of (as_written g)) stands
            (refl, ap (has_wrong_count i) opens-written ∙ ap not h))))))
      ]) refl

  used : (k : ℕ) (e : Tree) (p : ParamTree) → slice_get i.args k ≡ Some e → slice_get ps k ≡ Some p → (u : Use) → Member u (arg_uses e p) → Member u (uses g)
  used k e p he hp u m =
      append-right u (flat_map param_uses (params_of g)) (body_uses g (body_of g))
      (item-used g (body_of g) (instance_item i) given.item u
      (append-right u (asking definition_asked (i.def ∷ [])) (args_uses i.args (params_at (definition_found g i)))
      (subst (λ r. Member u (args_uses i.args (params_at r))) (sym given.opens) (args-used i.args ps k e p u he hp m))))

  named-for : (asks : Asked) (nm : Name) (at : ℕ) → Member (record { name = nm; asks = asks }) (uses g) → ((c : Component) → sought c (record { name = nm; asks = asks }) ≡ found c nm) → IsNameFor asks g (node (named nm) at)
  named-for asks nm at m same =
      let x = asked t known sorts g home (record { name = nm; asks = asks }) m in
      record { name = nm; at = at; is_bare = refl; place = x.0; is_found = sym (same g) ∙ x.1; is_sort = x.2 }

  module _ (matched : (at : ℕ) → MismatchDue t at → ⊥) where
    abbrev argument_of : Tree → ParamTree → Argument
    argument_of e p = record { value = e; param = p; definition = blank (as_written o) n ps b }

    fits : (k : ℕ) (e : Tree) (p : ParamTree) → slice_get i.args k ≡ Some e → slice_get ps k ≡ Some p → is_unfit_for (as_written g) (blank (as_written o) n ps b) e p ≡ false
    fits k e p he hp =
        (elim (is_unfit_for (as_written g) (blank (as_written o) n ps b) e p) as (λ x. is_unfit_for (as_written g) (blank (as_written o) n ps b) e p ≡ x → x ≡ false) [
          | false ↦ λ h. refl
          | true ↦ λ h. absurd (matched (tree_at e) (member-any (λ c. BadValue c (tree_at e) ⊎ BadUse c (tree_at e) ⊎ BadArgument c (tree_at e)) (as_written g) (bodies t) home
              (inr (inr (member-any (λ (a : Argument). (tree_at a.value ≡ tree_at e) × (is_unfit_for (as_written g) a.definition a.value a.param ≡ true)) (argument_of e p) (arguments_in (as_written g)) here (refl, h))))))
        ]) refl
      where
        at_it : Member (argument_of e p) (arguments_at i (definition_found (as_written g) i))
        at_it =
            subst (λ r. Member (argument_of e p) (arguments_at i r)) (sym opens-written)
            (map-member (λ (x : Tree × ParamTree). argument_of x.0 x.1) (e, p) (zip i.args ps) (at-member (zip i.args ps) k (e, p) (zip-at i.args ps k e p he hp)))

        here : Member (argument_of e p) (arguments_in (as_written g))
        here = flat_map-member (λ j. arguments_at j (definition_found (as_written g) j)) i (instances_of (as_written g)) (argument_of e p) stands at_it

    -- with the definition as it was found
    abbrev argument_here : Tree → ParamTree → Argument
    argument_here e p = record { value = e; param = p; definition = blank o n ps b }

    stands-here : (k : ℕ) (e : Tree) (p : ParamTree) → slice_get i.args k ≡ Some e → slice_get ps k ≡ Some p → Member (argument_here e p) (arguments_in g)
    stands-here k e p he hp =
        flat_map-member (λ j. arguments_at j (definition_found g j)) i (instances_of g) (argument_here e p) (instance-in i (items_in (body_of g)) given.item)
        (subst (λ r. Member (argument_here e p) (arguments_at i r)) (sym given.opens)
        (map-member (λ (x : Tree × ParamTree). argument_here x.0 x.1) (e, p) (zip i.args ps) (at-member (zip i.args ps) k (e, p) (zip-at i.args ps k e p he hp))))

    argued : (k : ℕ) (e : Tree) (p : ParamTree) → slice_get i.args k ≡ Some e → slice_get ps k ≡ Some p → IsArgumentFor (copy o n ps b g i) p g e
    argued k e (alg_param ty m) he hp =
        ap (same_kind (kind_of g no_kind e)) (sym (type-same (blank o n ps b) (copy o n ps b g i) refl ty))
        ∙ demands-met t matched g home (demand no_kind (type_kind (blank o n ps b) ty) e)
        (append-left (demand no_kind (type_kind (blank o n ps b) ty) e)
        (flat_map (asked_for g int_kind) (bound_values g) ++ flat_map (decl_demands g) (decls_of g) ++ flat_map (argument_demands g) (arguments_in g)) (flat_map (location_demands g) (locs_of g))
        (append-right (demand no_kind (type_kind (blank o n ps b) ty) e) (flat_map (asked_for g int_kind) (bound_values g) ++ flat_map (decl_demands g) (decls_of g)) (flat_map (argument_demands g) (arguments_in g))
        (flat_map-member (argument_demands g) (argument_here e (alg_param ty m)) (arguments_in g) (demand no_kind (type_kind (blank o n ps b) ty) e) (stands-here k e (alg_param ty m) he hp) (inl refl))))
    argued k e (event_param c h m) he hp =
        let bare = event-bare (as_written g) (blank (as_written o) n ps b) e c h m (fits k e (event_param c h m) he hp) in
        subst (IsNameFor event_asked g) (sym bare.2) (named-for event_asked bare.0 bare.1 (used k (node (named bare.0) bare.1) (event_param c h m) (he ∙ ap Some bare.2) hp (record { name = bare.0; asks = event_asked }) (inl refl)) (λ d. refl))
    argued k e (location_param m) he hp =
        let bare = location-bare (as_written g) (blank (as_written o) n ps b) e m (fits k e (location_param m) he hp) in
        subst (IsNameFor location_asked g) (sym bare.2) (named-for location_asked bare.0 bare.1 (used k (node (named bare.0) bare.1) (location_param m) (he ∙ ap Some bare.2) hp (record { name = bare.0; asks = location_asked }) (inl refl)) (λ d. refl))

    -- the argument for a parameter
    pub argument : (k : ℕ) (p : ParamTree) → slice_get ps k ≡ Some p → (e : Tree) × (slice_get i.args k ≡ Some e) × (is_unfit_for g (copy o n ps b g i) e p ≡ false) × IsArgumentFor (copy o n ps b g i) p g e
    argument k p hp =
        let e = element i.args k (omega (arith, counted, slice_get-below ps k p hp)) in
        (e.0, e.1, unfit-same g (as_written g) (copy o n ps b g i) (blank (as_written o) n ps b) (sym (twice g)) (ap (λ w. blank w n ps b) (sym (twice o))) e.0 p ∙ fits k e.0 p e.1 hp, argued k e.0 p e.1 hp)

pub parameter-argument : (t : Source) → ((at : ℕ) → UnknownDue t at → ⊥) → ((at : ℕ) → WrongKindDue t at → ⊥) → ((at : ℕ) → MismatchDue t at → ⊥)
    → (o g : Component) (n : Ident) (ps : List ParamTree) (b : SourceBody) (i : InstanceTree) → Member (copy o n ps b g i) (components_of t)
    → (k : ℕ) (p : ParamTree) → slice_get ps k ≡ Some p → (e : Tree) × (slice_get i.args k ≡ Some e) × (is_unfit_for g (copy o n ps b g i) e p ≡ false) × IsArgumentFor (copy o n ps b g i) p g e
parameter-argument t known sorts matched o g n ps b i m = argument t known sorts o g n ps b i (given-by t o g n ps b i m) matched
