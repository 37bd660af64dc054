-- What an argument stands for, where it is known what is given for the components before.
use Rattle.std.proofs.Common.{◌≡◌, ℕ, zero, suc, ◌+◌, ◌<◌, ◌≤◌, Bool, true, false, ◌⊎◌, inl, inr, List, [], ◌∷◌, ◌++◌, length, map, Option, Some, None, refl, sym, ◌∙◌, ap, subst, arith, pos}
use Rattle.std.specs.Prelude.{slice_get, unwrap_or}
use Rattle.std.specs.Borrow.{Bor}
use Rattle.std.specs.List.{enumerate_from, list_all}
use Rattle.std.proofs.lemmas.List.{length-map}
use Rattle.cif_ast.specs.Tree.{Tree, node, named}
use Rattle.cif_ast.specs.View.{view}
use Rattle.cif_ast.specs.declared.expressions.Expr.{Expr}
use Rattle.cif_ast.specs.declared.declarations.Class.{Class}
use Rattle.cif_ast.specs.declared.names.Ident.{Ident}
use Rattle.cif_ast.specs.declared.names.Name.{Name}
use Rattle.cif_system.proofs.Lists.{some-same, none-some, false-true}
use Rattle.cif_system.proofs.Picks.{and-left, and-right}
use Rattle.cif_net_expr.specs.Tree.{NetExpr, net_expr, n_number}
use Rattle.cif_source.specs.Source.{ChannelTree, TypeTree, event_decl, ParamTree, event_param, alg_param, location_param, InstanceTree, SourceBody, Source}
use Rattle.cif_source.specs.Components.{Component, whole, part, blank, copy, body_of, params_of, body_entries, param_name, Entry, Entries, declared, literal, location, inner, definition, instance, parameter}
use Rattle.cif_source.specs.Lookup.{ScopeEntry, Reached, reached, missing, blocked, found, by_argument, follow, Object, thing, given, denotes}
use Rattle.cif_source.specs.Uses.{Asked, event_asked, location_asked, is_asked, bare_name}
use Rattle.cif_source.proofs.NameLaws.{is_parameter, is_own, own-body, met, met_at-own, follow-met}
use Rattle.cif_scope.specs.declared.scopes.Scopes.{Scopes}
use Rattle.cif_scope.specs.Scopes.{AreScopesOf, IsEntry}
use Rattle.cif_inst_components.specs.declared.components.Components.{Components}
use Rattle.cif_inst_components.specs.declared.components.Place.{Place}
use Rattle.cif_inst_components.specs.Numbers.{IsNumber, AreComponentsOf}
use Rattle.cif_inst_components.proofs.FindChildren.{row-for}
use Rattle.cif_inst_model.specs.Translation.{net_object, net_name, net_of, net_with}
use Rattle.cif_inst_bodies.specs.Arguments.{IsNameFor, IsArgumentFor}
use Rattle.cif_inst_parameters.specs.declared.following.Target.{Target}
use Rattle.cif_inst_parameters.specs.declared.following.Follower.{Follower}
use Rattle.cif_inst_parameters.specs.declared.given.Given.{Given}
use Rattle.cif_inst_parameters.specs.declared.given.Given.TheVariants.{Named, Value}
use Rattle.cif_inst_parameters.specs.Given.{given_items, is_event, is_location, IsNamed, placed_at, has_argument, IsValue, IsGiven}
use Rattle.cif_inst_parameters.specs.Stripping.{stripped, parentheses_at}
use Rattle.cif_inst_parameters.specs.Passing.{and_then}
use Rattle.cif_inst_parameters.specs.Following.{leads_to_parameter, FindsTarget, FindsBare, given_at, named_at, named_by, outermost, with_parentheses, valued_at, valued_by, followed_by, AreKnown, FollowsFrom}
use Rattle.cif_inst_parameters.proofs.StripLaws.{placed-outermost, strip-net, strip-plain, bare-is}
use Rattle.cif_inst_parameters.proofs.EarlyLaws.{found-before}

-- ---- the slot of a parameter is its place

abbrev is_own_entry : Ident × Entry → Bool
is_own_entry x = is_own x.1

all-at : {A : Type 0} (p : A → Bool) (xs : List A) (k : ℕ) (x : A) → list_all p xs ≡ true → slice_get xs k ≡ Some x → p x ≡ true
all-at p [] k x h g = absurd (none-some x g)
all-at p (y ∷ xs) zero x h g = ap p (sym (some-same y x g)) ∙ and-left (p y) (list_all p xs) h
all-at p (y ∷ xs) (suc k) x h g = all-at p xs k x (and-right (p y) (list_all p xs) h) g

abbrev place_of : ℕ → Entry → ℕ
place_of k (parameter j q) = j
place_of k _ = k

abbrev param_of : ParamTree → Entry → ParamTree
param_of p (parameter j q) = q
param_of p _ = p

params-at : (from : ℕ) (ps : List ParamTree) (es : Entries) (s : ℕ) (n : Ident) (k : ℕ) (p : ParamTree) → list_all is_own_entry es ≡ true
    → slice_get (map (λ (x : ℕ × ParamTree). (param_name x.1, parameter x.0 x.1)) (enumerate_from from ps) ++ es) s ≡ Some (n, parameter k p) → (k ≡ from + s) × (slice_get ps s ≡ Some p)
params-at from [] es s n k p own h = absurd (false-true refl (all-at is_own_entry es s (n, parameter k p) own h))
params-at from (q ∷ ps) es zero n k p own h =
    let same = some-same (param_name q, parameter from q) (n, parameter k p) h in
    let place : from ≡ k = ap (λ (x : Ident × Entry). place_of from x.1) same in
    (omega arith, ap (λ (x : Ident × Entry). Some (param_of q x.1)) same)
params-at from (q ∷ ps) es (suc s) n k p own h =
    let rest = params-at (from + 1) ps es s n k p own h in
    let place : k ≡ from + 1 + s = rest.0 in
    (omega arith, rest.1)

slot-is : (c : Component) (k : ℕ) (p : ParamTree) (s : ℕ) → IsEntry c (parameter k p) s → (k ≡ s) × (slice_get (params_of c) s ≡ Some p)
slot-is c k p s h =
    let at = params-at 0 (params_of c) (body_entries (body_of c)) s h.0 k p (own-body (body_of c)) h.1 in
    let place : k ≡ 0 + s = at.0 in
    (omega arith, at.1)

-- ---- a name of a parameter is followed to the argument

leads-parameter : (c : Component) (e : Entry) → leads_to_parameter (reached (c, e)) ≡ is_parameter e
leads-parameter c (declared d) = refl
leads-parameter c (literal k ls) = refl
leads-parameter c (location k) = refl
leads-parameter c (inner n b) = refl
leads-parameter c (definition n ps b) = refl
leads-parameter c (instance i) = refl
leads-parameter c (parameter k p) = refl

no-argument : (c : Component) (e : Entry) → is_parameter e ≡ false → has_argument (reached (c, e)) ≡ false
no-argument c (parameter k p) h = absurd (false-true h refl)
no-argument (copy o n ps b g i) (declared d) h = refl
no-argument (copy o n ps b g i) (literal k ls) h = refl
no-argument (copy o n ps b g i) (location k) h = refl
no-argument (copy o n ps b g i) (inner m c) h = refl
no-argument (copy o n ps b g i) (definition m qs c) h = refl
no-argument (copy o n ps b g i) (instance j) h = refl
no-argument (whole is) e h = refl
no-argument (part o n b) e h = refl
no-argument (blank o n ps b) e h = refl

module _ {R : Type 0} (thing : ScopeEntry → R) (nothing : R) (argument : (Name → R) → Component → Tree → R) where
  follow-argument : (c : Component) (nm : Name) (k : ℕ) (p : ParamTree) (o g : Component) (n : Ident) (ps : List ParamTree) (b : SourceBody) (i : InstanceTree) (e : Tree)
      → found c nm ≡ reached (copy o n ps b g i, parameter k p) → slice_get i.args k ≡ Some e
      → follow thing nothing argument c nm ≡ by_argument nothing (argument (follow thing nothing argument g) g) (follow thing nothing argument g) p (Some e)
  follow-argument c nm k p o g n ps b i e h a =
      follow-met thing nothing argument c nm ∙ ap (met thing nothing argument) h ∙ ap (by_argument nothing (argument (follow thing nothing argument g) g) (follow thing nothing argument g) p) a

  follow-own : (c : Component) (nm : Name) (d : Component) (e : Entry) → found c nm ≡ reached (d, e) → is_parameter e ≡ false → follow thing nothing argument c nm ≡ thing (d, e)
  follow-own c nm d e h own = follow-met thing nothing argument c nm ∙ ap (met thing nothing argument) h ∙ met_at-own thing nothing argument d e own

abbrev thing_of : ScopeEntry → Option Object
thing_of x = Some (thing x.0 x.1)

abbrev given_of : (Name → Option Object) → Component → Tree → Option Object
given_of name g e = Some (given g e)

abbrev object_at : ScopeEntry → ℕ → NetExpr
object_at x at = net_expr (net_object x) at

abbrev nothing_at : ℕ → NetExpr
nothing_at at = net_expr (n_number (pos 0)) at

abbrev argument_at : (Name → ℕ → NetExpr) → Component → Tree → ℕ → NetExpr
argument_at name g a at = net_with name a

-- an argument for such a parameter is a name to follow
abbrev IsFollowed : ParamTree → Type 1
IsFollowed p = (R : Type 0) (nothing : R) (value : Tree → R) (name : Name → R) (nm : Name) (at : ℕ) → by_argument nothing value name p (Some (node (named nm) at)) ≡ name nm

module _ (t : Source) (s : Scopes) (cs : Components) (scopes : AreScopesOf t s) (are : AreComponentsOf t cs) (all : List (List Given)) (known : AreKnown t all) where
  -- ---- what is given for a parameter

  not-blank : (k : ℕ) (o : Component) (n : Ident) (ps : List ParamTree) (b : SourceBody) → IsNumber t k (blank o n ps b) → ⊥
  not-blank k o n ps b h = (row-for t s scopes are.few cs.all are.all k (blank o n ps b) h).2.stands

  record IsKnown (q : Place) (g : Component) (i : InstanceTree) (k : ℕ) (p : ParamTree) : Type 0 where
    value : Tree
    result : Given
    is_argument : slice_get i.args k ≡ Some value
    is_at : given_at all q ≡ Some result
    is_given : IsGiven t p g value result

  parameter-given : (q : Place) (o g : Component) (n : Ident) (ps : List ParamTree) (b : SourceBody) (i : InstanceTree) (k : ℕ) (p : ParamTree)
      → IsNumber t q.component (copy o n ps b g i) → q.component < length all → IsEntry (copy o n ps b g i) (parameter k p) q.slot → IsKnown q g i k p
  parameter-given q o g n ps b i k p num less entry =
      let slot = slot-is (copy o n ps b g i) k p q.slot entry in
      let row = known q.component (copy o n ps b g i) less num in
      let one = row.2.1 q.slot p slot.1 in
      record {
        value = one.0;
        result = one.1;
        is_argument = ap (slice_get i.args) slot.0 ∙ one.2;
        is_at = ap (λ o. and_then o (λ (xs : List Given). slice_get xs q.slot)) row.1 ∙ one.3;
        is_given = one.4;
      }

  -- ---- what is found

  record Meets (c : Component) (e : Entry) (x : Target) : Type 0 where
    is_number : IsNumber t x.place.component c
    is_entry : IsEntry c e x.place.slot
    is_sort : x.is_parameter ≡ is_parameter e

  reached-target : (c : Component) (e : Entry) (l : Option Target) → FindsTarget t (reached (c, e)) l → (x : Target) × (l ≡ Some x) × Meets c e x
  reached-target c e None h = absurd h
  reached-target c e (Some x) h = (x, refl, record { is_number = h.0.0; is_entry = h.0.1; is_sort = h.1 ∙ leads-parameter c e })

  module _ (j : ℕ) (g : Component) (own : IsNumber t j g) (below : j < length all) where
    -- a parameter that a name finds is one of those that are known
    known-parameter : (nm : Name) (c : Component) (k : ℕ) (p : ParamTree) (x : Target) → found g nm ≡ reached (c, parameter k p) → Meets c (parameter k p) x
        → (o h : Component) × (n : Ident) × (ps : List ParamTree) × (b : SourceBody) × (i : InstanceTree) × (c ≡ copy o n ps b h i) × IsKnown x.place h i k p
    known-parameter nm (whole is) k p x h m = absurd (none-some p (slot-is (whole is) k p x.place.slot m.is_entry).1)
    known-parameter nm (part o n b) k p x h m = absurd (none-some p (slot-is (part o n b) k p x.place.slot m.is_entry).1)
    known-parameter nm (blank o n ps b) k p x h m = absurd (not-blank x.place.component o n ps b m.is_number)
    known-parameter nm (copy o n ps b d i) k p x h m =
        let low : x.place.component ≤ j = found-before t s cs scopes are j g nm o d n ps b i k p x.place.component own h m.is_number in
        (o, d, n, ps, b, i, refl, parameter-given x.place o d n ps b i k p m.is_number (omega arith) m.is_entry)

    -- ---- an argument for an event or a location

    module _ (asks : Asked) (sort : Entry → Bool) (plain : (e : Entry) → is_asked asks e ≡ true → is_parameter e ≡ false → sort e ≡ true)
        (followed : (k : ℕ) (p : ParamTree) → is_asked asks (parameter k p) ≡ true → IsFollowed p)
        (passed : (k : ℕ) (p : ParamTree) → is_asked asks (parameter k p) ≡ true → (h : Component) (e : Tree) (x : Given) → IsGiven t p h e x → (q : Place) × (x ≡ Named q) × IsNamed sort t h e q) where
      abbrev IsResult : Name → ℕ → Target → Type 0
      IsResult nm at x = (q : Place) × (named_at all x.is_parameter x.place ≡ Some (Named q)) × IsNamed sort t g (node (named nm) at) q

      by-parameter : (nm : Name) (at : ℕ) (k : ℕ) (p : ParamTree) (x : Target) (o h : Component) (n : Ident) (ps : List ParamTree) (b : SourceBody) (i : InstanceTree)
          → found g nm ≡ reached (copy o n ps b h i, parameter k p) → is_asked asks (parameter k p) ≡ true → x.is_parameter ≡ true → IsKnown x.place h i k p → IsResult nm at x
      by-parameter nm at k p x o h n ps b i f sorted is w =
          let further = passed k p sorted h w.value w.result w.is_given in
          let last = further.2 in
          let leads = last.leads in
          let bare : slice_get i.args k ≡ Some (node (named last.name) last.at) = w.is_argument ∙ ap Some last.is_bare in (
            further.0,
            ap (λ z. named_at all z x.place) is ∙ w.is_at ∙ ap Some further.1,
            record {
              name = nm;
              at = at;
              is_bare = refl;
              leads = record {
                home = leads.home;
                entry = leads.entry;
                is_number = leads.is_number;
                is_entry = leads.is_entry;
                denoted = follow-argument thing_of None given_of g nm k p o h n ps b i (node (named last.name) last.at) f bare
                    ∙ followed k p sorted (Option Object) None (given_of (denotes h) h) (denotes h) last.name last.at ∙ leads.denoted;
                in_net = λ z. ap (λ (r : ℕ → NetExpr). r z)
                    (follow-argument object_at nothing_at argument_at g nm k p o h n ps b i (node (named last.name) last.at) f bare
                    ∙ followed k p sorted (ℕ → NetExpr) nothing_at (argument_at (net_name h) h) (net_name h) last.name last.at) ∙ leads.in_net z;
              };
              is_sort = last.is_sort;
            },
          )

      by-own : (nm : Name) (at : ℕ) (c : Component) (e : Entry) (x : Target) → found g nm ≡ reached (c, e) → is_asked asks e ≡ true → is_parameter e ≡ false → Meets c e x → IsResult nm at x
      by-own nm at c e x f sorted free m = (
        x.place,
        ap (λ z. named_at all z x.place) (m.is_sort ∙ free),
        record {
          name = nm;
          at = at;
          is_bare = refl;
          leads = record {
            home = c;
            entry = e;
            is_number = m.is_number;
            is_entry = m.is_entry;
            denoted = follow-own thing_of None given_of g nm c e f free;
            in_net = λ z. ap (λ (r : ℕ → NetExpr). r z) (follow-own object_at nothing_at argument_at g nm c e f free);
          };
          is_sort = plain e sorted free;
        },
      )

      by-copy : (nm : Name) (at : ℕ) (c : Component) (k : ℕ) (p : ParamTree) (x : Target) → found g nm ≡ reached (c, parameter k p) → is_asked asks (parameter k p) ≡ true → Meets c (parameter k p) x → IsResult nm at x
      by-copy nm at c k p x f sorted m =
          let w = known-parameter nm c k p x f m in
          by-parameter nm at k p x w.0 w.1 w.2 w.3 w.4 w.5 (f ∙ ap (λ d. reached (d, parameter k p)) w.6) sorted m.is_sort w.7

      by-entry : (nm : Name) (at : ℕ) (c : Component) (e : Entry) (x : Target) → found g nm ≡ reached (c, e) → is_asked asks e ≡ true → Meets c e x → IsResult nm at x
      by-entry nm at c (parameter k p) x f sorted m = by-copy nm at c k p x f sorted m
      by-entry nm at c (declared d) x f sorted m = by-own nm at c (declared d) x f sorted refl m
      by-entry nm at c (literal k ls) x f sorted m = by-own nm at c (literal k ls) x f sorted refl m
      by-entry nm at c (location k) x f sorted m = by-own nm at c (location k) x f sorted refl m
      by-entry nm at c (inner n b) x f sorted m = by-own nm at c (inner n b) x f sorted refl m
      by-entry nm at c (definition n ps b) x f sorted m = by-own nm at c (definition n ps b) x f sorted refl m
      by-entry nm at c (instance i) x f sorted m = by-own nm at c (instance i) x f sorted refl m

      named-given : (e : Tree) (l : Option Target) → IsNameFor asks g e → FindsBare t g (bare_name (stripped e)) l → (q : Place) × (named_by all l ≡ Some (Named q)) × IsNamed sort t g e q
      named-given e l f h =
          let finds : FindsTarget t (found g f.name) l = subst (λ (z : Tree). FindsBare t g (bare_name (stripped z)) l) f.is_bare h in
          let x = reached-target f.place.0 f.place.1 l (subst (λ r. FindsTarget t r l) f.is_found finds) in
          let y = by-entry f.name f.at f.place.0 f.place.1 x.0 f.is_found f.is_sort x.2 in
          (y.0, ap (named_by all) x.1 ∙ y.1, subst (λ (z : Tree). IsNamed sort t g z y.0) (sym f.is_bare) y.2)

    event-given : (e : Tree) (l : Option Target) → IsNameFor event_asked g e → FindsBare t g (bare_name (stripped e)) l → (q : Place) × (named_by all l ≡ Some (Named q)) × IsNamed is_event t g e q
    event-given e l f h = named-given event_asked is_event plain followed passed e l f h
      where
        plain : (e : Entry) → is_asked event_asked e ≡ true → is_parameter e ≡ false → is_event e ≡ true
        plain (declared (event_decl c h n)) a b = refl
        plain (parameter k p) a b = absurd (false-true b refl)
        plain _ a b = cc

        followed : (k : ℕ) (p : ParamTree) → is_asked event_asked (parameter k p) ≡ true → IsFollowed p
        followed k (event_param c h n) a = λ r nothing value name nm at. refl
        followed k (location_param n) a = absurd (false-true refl a)
        followed k (alg_param ty n) a = absurd (false-true refl a)

        passed : (k : ℕ) (p : ParamTree) → is_asked event_asked (parameter k p) ≡ true → (h : Component) (e : Tree) (x : Given) → IsGiven t p h e x → (q : Place) × (x ≡ Named q) × IsNamed is_event t h e q
        passed k (event_param c m n) a h e (Named q) w = (q, refl, w)
        passed k (event_param c m n) a h e (Value r v z) w = absurd w
        passed k (location_param n) a h e x w = absurd (false-true refl a)
        passed k (alg_param ty n) a h e x w = absurd (false-true refl a)

    location-given : (e : Tree) (l : Option Target) → IsNameFor location_asked g e → FindsBare t g (bare_name (stripped e)) l → (q : Place) × (named_by all l ≡ Some (Named q)) × IsNamed is_location t g e q
    location-given e l f h = named-given location_asked is_location plain followed passed e l f h
      where
        plain : (e : Entry) → is_asked location_asked e ≡ true → is_parameter e ≡ false → is_location e ≡ true
        plain (location k) a b = refl
        plain (parameter k p) a b = absurd (false-true b refl)
        plain _ a b = cc

        followed : (k : ℕ) (p : ParamTree) → is_asked location_asked (parameter k p) ≡ true → IsFollowed p
        followed k (location_param n) a = λ r nothing value name nm at. refl
        followed k (event_param c h n) a = absurd (false-true refl a)
        followed k (alg_param ty n) a = absurd (false-true refl a)

        passed : (k : ℕ) (p : ParamTree) → is_asked location_asked (parameter k p) ≡ true → (h : Component) (e : Tree) (x : Given) → IsGiven t p h e x → (q : Place) × (x ≡ Named q) × IsNamed is_location t h e q
        passed k (location_param n) a h e (Named q) w = (q, refl, w)
        passed k (location_param n) a h e (Value r v z) w = absurd w
        passed k (event_param c m n) a h e x w = absurd (false-true refl a)
        passed k (alg_param ty n) a h e x w = absurd (false-true refl a)

    -- ---- an argument for an `alg` parameter

    module _ (e : Tree) (v : Bor Expr) (shown : view v.now ≡ stripped e) where
      plain-value : ((nm : Name) → bare_name (stripped e) ≡ Some nm → has_argument (found g nm) ≡ false) → IsValue t g e j (view v.now) (parentheses_at e)
      plain-value h =
          subst (λ w. IsValue t g e j w (parentheses_at e)) (sym shown)
          (record { home = g; is_number = own; is_plain = strip-plain g e h; in_net = strip-net g e })

      abbrev IsSome : Option Target → Type 0
      IsSome l = (x : Given) × (valued_by all (parentheses_at e) l ≡ Some x) × ((ty : TypeTree) (n : Ident) → IsGiven t (alg_param ty n) g e x)

      abbrev IsNone : Name → Option Target → Type 0
      IsNone nm l = (valued_by all (parentheses_at e) l ≡ None) × (has_argument (found g nm) ≡ false)

      alg-value : (nm : Name) (k : ℕ) (ty : TypeTree) (m : Ident) (x : Target) (o h : Component) (n : Ident) (ps : List ParamTree) (b : SourceBody) (i : InstanceTree)
          → bare_name (stripped e) ≡ Some nm → found g nm ≡ reached (copy o n ps b h i, parameter k (alg_param ty m)) → x.is_parameter ≡ true → (a : Tree) (r : Given)
          → slice_get i.args k ≡ Some a → given_at all x.place ≡ Some r → IsGiven t (alg_param ty m) h a r → IsSome (Some x)
      alg-value nm k ty m x o h n ps b i named_e f is a (Named q) arg at w = absurd w
      alg-value nm k ty m x o h n ps b i named_e f is a (Value giver value round) arg at w =
          let bare = bare-is (stripped e) nm named_e in
          let named_net : net_of g (stripped e) ≡ net_of h a =
          ap (net_of g) bare.1 ∙ ap (λ (r : ℕ → NetExpr). r bare.0) (follow-argument object_at nothing_at argument_at g nm k (alg_param ty m) o h n ps b i a f arg) in (
            Value giver value (outermost (parentheses_at e) round),
            ap (λ z. valued_at all (parentheses_at e) z x.place) is ∙ ap (λ z. and_then z (with_parentheses (parentheses_at e))) at,
            λ uy um. record {
              home = w.home;
              is_number = w.is_number;
              is_plain = w.is_plain;
              in_net = strip-net g e ∙ ap (placed_at (parentheses_at e)) (named_net ∙ w.in_net) ∙ placed-outermost (parentheses_at e) round (net_of w.home (view value.now));
            },
          )

      other-value : (x : Target) (r : Given) → x.is_parameter ≡ true → given_at all x.place ≡ Some r → ((q : Place) × (r ≡ Named q)) → valued_by all (parentheses_at e) (Some x) ≡ None
      other-value x r is at h =
          ap (λ z. valued_at all (parentheses_at e) z x.place) is ∙ ap (λ z. and_then z (with_parentheses (parentheses_at e))) (at ∙ ap Some h.1)

      event-named : (h : Component) (a : Tree) (r : Given) (c : Class) (y : ChannelTree) (m : Ident) → IsGiven t (event_param c y m) h a r → (q : Place) × (r ≡ Named q)
      event-named h a (Named q) c y m w = (q, refl)
      event-named h a (Value k z i) c y m w = absurd w

      location-named : (h : Component) (a : Tree) (r : Given) (m : Ident) → IsGiven t (location_param m) h a r → (q : Place) × (r ≡ Named q)
      location-named h a (Named q) m w = (q, refl)
      location-named h a (Value k z i) m w = absurd w

      parameter-value : (nm : Name) (k : ℕ) (p : ParamTree) (x : Target) (o h : Component) (n : Ident) (ps : List ParamTree) (b : SourceBody) (i : InstanceTree)
          → bare_name (stripped e) ≡ Some nm → found g nm ≡ reached (copy o n ps b h i, parameter k p) → x.is_parameter ≡ true → IsKnown x.place h i k p → IsSome (Some x) ⊎ IsNone nm (Some x)
      parameter-value nm k (alg_param ty m) x o h n ps b i named_e f is w =
          inl (alg-value nm k ty m x o h n ps b i named_e f is w.value w.result w.is_argument w.is_at w.is_given)
      parameter-value nm k (event_param c y m) x o h n ps b i named_e f is w =
          inr (other-value x w.result is w.is_at (event-named h w.value w.result c y m w.is_given), ap has_argument f)
      parameter-value nm k (location_param m) x o h n ps b i named_e f is w =
          inr (other-value x w.result is w.is_at (location-named h w.value w.result m w.is_given), ap has_argument f)

      own-value : (nm : Name) (c : Component) (d : Entry) (x : Target) → found g nm ≡ reached (c, d) → is_parameter d ≡ false → Meets c d x → IsSome (Some x) ⊎ IsNone nm (Some x)
      own-value nm c d x f free m = inr (ap (λ z. valued_at all (parentheses_at e) z x.place) (m.is_sort ∙ free), ap has_argument f ∙ no-argument c d free)

      entry-value : (nm : Name) (c : Component) (d : Entry) (x : Target) → bare_name (stripped e) ≡ Some nm → found g nm ≡ reached (c, d) → Meets c d x → IsSome (Some x) ⊎ IsNone nm (Some x)
      entry-value nm c (parameter k p) x named_e f m =
          let w = known-parameter nm c k p x f m in
          parameter-value nm k p x w.0 w.1 w.2 w.3 w.4 w.5 named_e (f ∙ ap (λ d. reached (d, parameter k p)) w.6) m.is_sort w.7
      entry-value nm c (declared d) x named_e f m = own-value nm c (declared d) x f refl m
      entry-value nm c (literal k ls) x named_e f m = own-value nm c (literal k ls) x f refl m
      entry-value nm c (location k) x named_e f m = own-value nm c (location k) x f refl m
      entry-value nm c (inner n b) x named_e f m = own-value nm c (inner n b) x f refl m
      entry-value nm c (definition n ps b) x named_e f m = own-value nm c (definition n ps b) x f refl m
      entry-value nm c (instance i) x named_e f m = own-value nm c (instance i) x f refl m

      not-found : (nm : Name) (r : Reached) (l : Option Target) → found g nm ≡ r → has_argument r ≡ false → ((x : Target) → FindsTarget t r (Some x) → ⊥) → FindsTarget t r l → IsSome l ⊎ IsNone nm l
      not-found nm r None f free h w = inr (refl, ap has_argument f ∙ free)
      not-found nm r (Some x) f free h w = absurd (h x w)

      name-value : (nm : Name) (l : Option Target) → bare_name (stripped e) ≡ Some nm → (r : Reached) → found g nm ≡ r → FindsTarget t r l → IsSome l ⊎ IsNone nm l
      name-value nm l named_e missing f w = not-found nm missing l f refl (λ x h. h.0) w
      name-value nm l named_e blocked f w = not-found nm blocked l f refl (λ x h. h.0) w
      name-value nm l named_e (reached (c, d)) f w =
          let x = reached-target c d l w in
          subst (λ (o : Option Target). IsSome o ⊎ IsNone nm o) (sym x.1) (entry-value nm c d x.0 named_e f x.2)

      value-given : (ty : TypeTree) (n : Ident) (l : Option Target) → FindsBare t g (bare_name (stripped e)) l
          → IsGiven t (alg_param ty n) g e (unwrap_or (valued_by all (parentheses_at e) l) (Value j v (parentheses_at e)))
      value-given ty n l h =
          (elim (bare_name (stripped e)) as (λ o. bare_name (stripped e) ≡ o → FindsBare t g o l → IsGiven t (alg_param ty n) g e (unwrap_or (valued_by all (parentheses_at e) l) (Value j v (parentheses_at e)))) [
            | None ↦ λ named_e w.
                subst (λ (z : Option Target). IsGiven t (alg_param ty n) g e (unwrap_or (valued_by all (parentheses_at e) z) (Value j v (parentheses_at e)))) (sym w)
                (plain-value (λ nm f. absurd (none-some nm (sym named_e ∙ f))))
            | Some nm ↦ λ named_e w. elim (name-value nm l named_e (found g nm) refl w) [
              | inl y ↦ subst (λ (z : Option Given). IsGiven t (alg_param ty n) g e (unwrap_or z (Value j v (parentheses_at e)))) (sym y.1) (y.2 ty n)
              | inr y ↦
                  subst (λ (z : Option Given). IsGiven t (alg_param ty n) g e (unwrap_or z (Value j v (parentheses_at e)))) (sym y.0)
                  (plain-value (λ z f. subst (λ (w : Name). has_argument (found g w) ≡ false) (some-same nm z (sym named_e ∙ f)) y.1))
            ]
          ]) refl h

    -- ---- an argument for a parameter

    given-for : (d : Component) (p : ParamTree) (e : Tree) (v : Bor Expr) (l : Option Target) → IsArgumentFor d p g e → view v.now ≡ stripped e → FindsBare t g (bare_name (stripped e)) l
        → IsGiven t p g e (unwrap_or (followed_by all p (parentheses_at e) l) (Value j v (parentheses_at e)))
    given-for d (event_param c y m) e v l f shown h =
        let q = event-given e l f h in
        subst (λ (z : Option Given). IsGiven t (event_param c y m) g e (unwrap_or z (Value j v (parentheses_at e)))) (sym q.1) q.2
    given-for d (location_param m) e v l f shown h =
        let q = location-given e l f h in
        subst (λ (z : Option Given). IsGiven t (location_param m) g e (unwrap_or z (Value j v (parentheses_at e)))) (sym q.1) q.2
    given-for d (alg_param ty m) e v l f shown h = value-given e v shown ty m l h

-- what the code gives
pub argument-given : (t : Source) (f : Follower) (j : ℕ) (g : Component) → FollowsFrom t f j g → (d : Component) (p : ParamTree) (e : Tree) → IsArgumentFor d p g e
    → (v : Bor Expr) → view v.now ≡ stripped e → (at : Option ℕ) → at ≡ parentheses_at e → (l : Option Target) → FindsBare t g (bare_name (view v.now)) l
    → (o : Option Given) → o ≡ followed_by (map given_items f.given.now) p at l → (r : Given) → r ≡ unwrap_or o (Value j v at) → IsGiven t p g e r
argument-given t f j g from d p e fits v shown at place l h o followed r result =
    let all : List (List Given) = map given_items f.given.now in
    let below : j < length all = omega (arith, length-map f.given.now given_items, from.is_known) in
    let finds : FindsBare t g (bare_name (stripped e)) l = subst (λ (z : Tree). FindsBare t g (bare_name z) l) shown h in
    subst (IsGiven t p g e) (sym (result ∙ ap (λ z. unwrap_or o (Value j v z)) place ∙ ap (λ z. unwrap_or z (Value j v (parentheses_at e))) (followed ∙ ap (λ z. followed_by all p z l) place)))
    (given-for t f.scopes.now f.components.now from.looks.scopes from.looks.components all from.known j g from.is_number below d p e v l fits shown finds)
