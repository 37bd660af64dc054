-- What a name finds by numbers is what it stands for in the net.
use Rattle.std.proofs.Common.{◌≡◌, ℕ, zero, suc, ◌<◌, List, [], ◌∷◌, length, map, Bool, false, pos, Option, Some, None, refl, sym, ◌∙◌, ap, subst, arith}
use Rattle.std.specs.Prelude.{slice_get, unwrap_or}
use Rattle.std.specs.Borrow.{Bor}
use Rattle.cif_ast.specs.Tree.{Tree, node, named}
use Rattle.cif_ast.specs.View.{view}
use Rattle.cif_ast.specs.declared.expressions.Expr.{Expr}
use Rattle.cif_ast.specs.declared.names.Ident.{Ident}
use Rattle.cif_ast.specs.declared.names.Name.{Name}
use Rattle.cif_system.proofs.Lists.{slice_get-below}
use Rattle.cif_net_expr.specs.Tree.{NetExpr, net_expr, n_number}
use Rattle.cif_source.specs.Source.{ParamTree, event_param, alg_param, location_param, SourceBody, InstanceTree, Source}
use Rattle.cif_source.specs.Components.{Component, whole, part, blank, copy, as_written, Entry, parameter}
use Rattle.cif_source.specs.Lookup.{ScopeEntry, Reached, reached, missing, blocked, found, by_argument, follow, Object, thing, given, denotes}
use Rattle.cif_source.specs.Objects.{components_of}
use Rattle.cif_source.specs.Step.{event_at, variable_at}
use Rattle.cif_source.proofs.NameLaws.{is_parameter, met, met_at-own, follow-met}
use Rattle.cif_scope.specs.Scopes.{IsEntry}
use Rattle.cif_scope.specs.Looks.{what_at}
use Rattle.cif_scope.specs.Tables.{IsBody, IsWhat}
use Rattle.cif_scope.specs.declared.scope.What.{What}
use Rattle.cif_scope.proofs.FindLaws.{what-of}
use Rattle.cif_inst_components.specs.declared.components.Component.{Component as Row}
use Rattle.cif_inst_components.specs.Numbers as numbers
use Rattle.cif_inst_components.specs.Numbers.{IsNumber, Finds}
use Rattle.cif_inst_components.specs.declared.components.Place.{Place}
use Rattle.cif_inst_components.proofs.FindChildren.{row-for}
use Rattle.cif_inst_model.specs.Flat.{event_number, variable_number}
use Rattle.cif_inst_model.specs.Translation.{net_object, net_name, net_with, net_of}
use Rattle.cif_inst_parameters.specs.declared.given.Given.{Given}
use Rattle.cif_inst_parameters.specs.declared.given.Given.TheVariants.{Named, Value}
use Rattle.cif_inst_parameters.specs.Following.{given_at}
use Rattle.cif_inst_parameters.specs.Given.{given_items, IsNamed, IsGiven, placed_at}
use Rattle.cif_inst_parameters.specs.Passing.{and_then}
use Rattle.cif_inst_names.specs.Looking.{or_whole, source_for, component_at, AreNamesOf}
use Rattle.cif_inst_names.specs.Objects.{object_form, object_event, object_variable, StandsFor, meant_event, meant_variable, MeansObject, MeansGiven, Means}
use Rattle.cif_inst_names.specs.ReadsNames.{name_in, IsHome, IsRead}
use Rattle.cif_inst_names.specs.declared.looking.Looking.{Looking}
use Rattle.cif_inst_names.specs.declared.objects.Meaning.{Meaning}
use Rattle.cif_inst_names.specs.declared.objects.Meaning.TheVariants as meaning
use Rattle.cif_inst_names.specs.declared.objects.Object as code
use Rattle.cif_inst_names.specs.declared.objects.Object.TheVariants as object
use Rattle.cif_inst_names.proofs.EntryLaws.{IsArgument, NotBlank, own-entry, given-entry}

abbrev thing_at : ScopeEntry → ℕ → NetExpr
thing_at x at = net_expr (net_object x) at

abbrev nothing_at : ℕ → NetExpr
nothing_at at = net_expr (n_number (pos 0)) at

abbrev argument_at : (Name → ℕ → NetExpr) → Component → Tree → ℕ → NetExpr
argument_at name g a at = net_with name a

abbrev thing_of : ScopeEntry → Option Object
thing_of x = Some (thing x.0 x.1)

abbrev given_of : (Name → Option Object) → Component → Tree → Option Object
given_of name g e = Some (given g e)

abbrev event_in : Option Object → ℕ
event_in o = unwrap_or (event_at o) 0

abbrev variable_in : Option Object → ℕ
variable_in o = unwrap_or (variable_at o) 0

-- the object of the net is what the name becomes and denotes
means-by : (c : Component) (nm : Name) (o : code.Object) (r : ℕ → NetExpr) (q : Option Object) → net_name c nm ≡ r → denotes c nm ≡ q
    → ((at : ℕ) → r at ≡ net_expr (object_form o) at) → event_in q ≡ object_event o → variable_in q ≡ object_variable o → MeansObject c nm o
means-by c nm o r q net den form event variable = record {
  in_net = λ at. ap (λ (f : ℕ → NetExpr). f at) net ∙ form at;
  event = ap event_in den ∙ event;
  variable = ap variable_in den ∙ variable;
}

stands-by : (c : Component) (nm : Name) (d : Component) (e : Entry) (o : code.Object) → net_name c nm ≡ thing_at (d, e) → denotes c nm ≡ thing_of (d, e) → StandsFor d e o → MeansObject c nm o
stands-by c nm d e o net den s = means-by c nm o (thing_at (d, e)) (thing_of (d, e)) net den (λ at. ap (λ f. net_expr f at) (sym s.form)) (sym s.event) (sym s.variable)

nothing-by : (c : Component) (nm : Name) (r : Reached) → found c nm ≡ r → met thing_at nothing_at argument_at r ≡ nothing_at → met thing_of None given_of r ≡ None → MeansObject c nm object.Nothing
nothing-by c nm r f net den =
    means-by c nm object.Nothing nothing_at None (follow-met thing_at nothing_at argument_at c nm ∙ ap (met thing_at nothing_at argument_at) f ∙ net)
    (follow-met thing_of None given_of c nm ∙ ap (met thing_of None given_of) f ∙ den) (λ at. refl) refl refl

-- a name that finds nothing
pub nothing-found : (t : Source) (c : Component) (nm : Name) (r : Reached) → found c nm ≡ r → Finds t r None → MeansObject c nm object.Nothing
nothing-found t c nm missing f h = nothing-by c nm missing f refl refl
nothing-found t c nm blocked f h = nothing-by c nm blocked f refl refl
nothing-found t c nm (reached (d, e)) f h = absurd h

-- what a name finds, by numbers
pub place-found : (t : Source) (r : Reached) (p : Place) → Finds t r (Some p) → (d : Component) × (e : Entry) × (r ≡ reached (d, e)) × IsNumber t p.component d × IsEntry d e p.slot
place-found t missing p h = absurd h
place-found t blocked p h = absurd h
place-found t (reached (d, e)) p h = (d, e, refl, h.0, h.1)

-- a name that finds no parameter
pub own-means : (c : Component) (nm : Name) (d : Component) (e : Entry) (o : code.Object) → found c nm ≡ reached (d, e) → is_parameter e ≡ false → StandsFor d e o → MeansObject c nm o
own-means c nm d e o f own s =
    stands-by c nm d e o (follow-met thing_at nothing_at argument_at c nm ∙ ap (met thing_at nothing_at argument_at) f ∙ met_at-own thing_at nothing_at argument_at d e own)
    (follow-met thing_of None given_of c nm ∙ ap (met thing_of None given_of) f ∙ met_at-own thing_of None given_of d e own) s

-- ---- a name that finds a parameter of an instance

module _ {R : Type 0} (thing : ScopeEntry → R) (nothing : R) (argument : (Name → R) → Component → Tree → R) where
  -- it is the argument where the instance stands
  argument-met : (t : Source) (c : Component) (nm : Name) (d : Component) (e : Entry) (x : Given) → found c nm ≡ reached (d, e) → (a : IsArgument t d e x)
      → follow thing nothing argument c nm
      ≡ by_argument nothing (argument (follow thing nothing argument a.giver) a.giver) (follow thing nothing argument a.giver) a.param (Some a.value)
  argument-met t c nm d e x f a =
      follow-met thing nothing argument c nm
      ∙ ap (met thing nothing argument) (f ∙ ap (λ z. reached (z, e)) a.is_copy ∙ ap (λ z. reached (copy a.outer a.name a.params a.body a.giver a.instance, z)) a.is_entry)
      ∙ ap (by_argument nothing (argument (follow thing nothing argument a.giver) a.giver) (follow thing nothing argument a.giver) a.param) a.is_value

  -- an argument that is a name is followed
  pub named-met : (g : Component) (p : ParamTree) (v : Tree) (name : Name) (at : ℕ) → v ≡ node (named name) at
      → by_argument nothing (argument (follow thing nothing argument g) g) (follow thing nothing argument g) p (Some (node (named name) at)) ≡ follow thing nothing argument g name
      → by_argument nothing (argument (follow thing nothing argument g) g) (follow thing nothing argument g) p (Some v) ≡ follow thing nothing argument g name
  named-met g p v name at bare h = ap (λ z. by_argument nothing (argument (follow thing nothing argument g) g) (follow thing nothing argument g) p (Some z)) bare ∙ h

module _ (t : Source) (c : Component) (nm : Name) (d : Component) (e : Entry) (f : found c nm ≡ reached (d, e)) where
  leads-means : (sort : Entry → Bool) (x : Given) (q : Place) (o : code.Object) (a : IsArgument t d e x) (w : IsNamed sort t a.giver a.value q)
      → ((R : Type 0) (nothing : R) (value : Tree → R) (name : Name → R) (m : Name) (at : ℕ) → by_argument nothing value name a.param (Some (node (named m) at)) ≡ name m)
      → ((h : Component) (i : Entry) → IsNumber t q.component h → IsEntry h i q.slot → StandsFor h i o) → MeansObject c nm o
  leads-means sort x q o a w followed object_is =
      let leads = w.leads in
      let net : net_name c nm ≡ net_name a.giver w.name =
      argument-met thing_at nothing_at argument_at t c nm d e x f a ∙ named-met thing_at nothing_at argument_at a.giver a.param a.value w.name w.at w.is_bare (followed _ _ _ _ w.name w.at) in
      let den : denotes c nm ≡ denotes a.giver w.name =
      argument-met thing_of None given_of t c nm d e x f a ∙ named-met thing_of None given_of a.giver a.param a.value w.name w.at w.is_bare (followed _ _ _ _ w.name w.at) in
      stands-by c nm leads.home leads.entry o (net ∙ (λ i at. leads.in_net at i)) (den ∙ leads.denoted) (object_is leads.home leads.entry leads.is_number leads.is_entry)

  -- for an event or a location
  named-means : (x : Given) (q : Place) (o : code.Object) → x ≡ Named q → IsArgument t d e x → ((h : Component) (i : Entry) → IsNumber t q.component h → IsEntry h i q.slot → StandsFor h i o) → MeansObject c nm o
  named-means x q o is a object_is = go a.param refl (subst (IsGiven t a.param a.giver a.value) is a.is_given)
    where
      go : (p : ParamTree) → a.param ≡ p → IsGiven t p a.giver a.value (Named q) → MeansObject c nm o
      go (event_param k h n) s w = leads-means _ x q o a w (λ R nothing value name m at. ap (λ z. by_argument nothing value name z (Some (node (named m) at))) s) object_is
      go (location_param n) s w = leads-means _ x q o a w (λ R nothing value name m at. ap (λ z. by_argument nothing value name z (Some (node (named m) at))) s) object_is
      go (alg_param ty n) s w = absurd w

  -- for an `alg` parameter
  value-means : (x : Given) (giver : ℕ) (value : Bor Expr) (round : Option ℕ) → x ≡ Value giver value round → IsArgument t d e x → MeansGiven t c nm giver (view value.now) round
  value-means x giver value round is a = go a.param refl (subst (IsGiven t a.param a.giver a.value) is a.is_given)
    where
      go : (p : ParamTree) → a.param ≡ p → IsGiven t p a.giver a.value (Value giver value round) → MeansGiven t c nm giver (view value.now) round
      go (event_param k h n) s w = absurd w
      go (location_param n) s w = absurd w
      go (alg_param ty n) s w =
          let net : net_name c nm ≡ argument_at (net_name a.giver) a.giver a.value =
          argument-met thing_at nothing_at argument_at t c nm d e x f a
          ∙ ap (λ p. by_argument nothing_at (argument_at (net_name a.giver) a.giver) (net_name a.giver) p (Some a.value)) s in
          let den : denotes c nm ≡ Some (given a.giver a.value) =
          argument-met thing_of None given_of t c nm d e x f a
          ∙ ap (λ p. by_argument None (given_of (denotes a.giver) a.giver) (denotes a.giver) p (Some a.value)) s in
          record {
            home = w.home;
            is_number = w.is_number;
            in_net = λ at. ap (λ (r : ℕ → NetExpr). r at) net ∙ w.in_net;
            event = ap event_in den;
            variable = ap variable_in den;
          }

-- ---- by what they are looked up in

at-or : (t : Source) (cs : List Component) (k : ℕ) → k < length cs → slice_get cs k ≡ Some (or_whole t (slice_get cs k))
at-or t [] k h = absurd (omega (arith, h))
at-or t (c ∷ cs) zero h = refl
at-or t (c ∷ cs) (suc k) h = at-or t cs k (omega (arith, h))

pub component-is : (l : Looking) (k : ℕ) → k < length (components_of (source_for l)) → IsNumber (source_for l) k (component_at l k)
component-is l k h = at-or (source_for l) (components_of (source_for l)) k h

-- what stands at a place
abbrev pub StandsAt : Looking → Place → code.Object → Type 0
StandsAt l p o = (c : Component) (e : Entry) → AreNamesOf l → IsNumber (source_for l) p.component c → IsEntry c e p.slot → StandsFor c e o

module _ (l : Looking) (h : AreNamesOf l) (k : ℕ) (nm : Name) (p : Place) (finds : Finds (source_for l) (found (component_at l k) nm) (Some p)) where
  row : (d : Component) → IsNumber (source_for l) p.component d → NotBlank d
  row d is = go d _ (row-for (source_for l) l.scopes.now h.scopes h.components.few l.components.now.all h.components.all p.component d is).2.stands
    where
      go : (d : Component) (o : Option Place) → numbers.StandsAt (source_for l) d o → NotBlank d
      go (whole is) o s = tt
      go (part p n b) o s = tt
      go (blank p n ps b) o s = s
      go (copy p n ps b g i) o s = tt

  given-row : (d : Component) (gs : List Given) → slice_get (map given_items l.given.now) p.component ≡ Some gs → given_at (map given_items l.given.now) p ≡ slice_get gs p.slot
  given-row d gs at = ap (λ o. and_then o (λ (xs : List Given). slice_get xs p.slot)) at

  pub none-means : (o : code.Object) → given_at (map given_items l.given.now) p ≡ None → StandsAt l p o → MeansObject (component_at l k) nm o
  none-means o none object_is =
      let w = place-found (source_for l) (found (component_at l k) nm) p finds in
      let gs = h.given p.component w.0 w.3 in
      own-means (component_at l k) nm w.0 w.1 o w.2
      (own-entry (source_for l) w.0 w.1 p.slot gs.0 (row w.0 w.3) gs.2 w.4 (sym (given-row w.0 gs.0 gs.1) ∙ none)) (object_is w.0 w.1 h w.3 w.4)

  pub named_means : (x : Given) (q : Place) (o : code.Object) → given_at (map given_items l.given.now) p ≡ Some x → x ≡ Named q → StandsAt l q o → MeansObject (component_at l k) nm o
  named_means x q o some is object_is =
      let w = place-found (source_for l) (found (component_at l k) nm) p finds in
      let gs = h.given p.component w.0 w.3 in
      named-means (source_for l) (component_at l k) nm w.0 w.1 w.2 x q o is
      (given-entry (source_for l) w.0 w.1 p.slot gs.0 x gs.2 w.4 (sym (given-row w.0 gs.0 gs.1) ∙ some)) (λ c e. object_is c e h)

  pub value_means : (x : Given) (giver : ℕ) (value : Bor Expr) (round : Option ℕ) → given_at (map given_items l.given.now) p ≡ Some x → x ≡ Value giver value round
      → MeansGiven (source_for l) (component_at l k) nm giver (view value.now) round
  value_means x giver value round some is =
      let w = place-found (source_for l) (found (component_at l k) nm) p finds in
      let gs = h.given p.component w.0 w.3 in
      value-means (source_for l) (component_at l k) nm w.0 w.1 w.2 x giver value round is
      (given-entry (source_for l) w.0 w.1 p.slot gs.0 x gs.2 w.4 (sym (given-row w.0 gs.0 gs.1) ∙ some))

-- ---- what stands at a place

-- the component there, and what is said of the slot
pub record IsPlace (l : Looking) (p : Place) (c : Component) (e : Entry) : Type 0 where
  pub row : Row
  pub what : What
  pub is_row : slice_get l.components.now.all p.component ≡ Some row
  pub is_body : IsBody (source_for l) row.body (as_written c)
  pub at : what_at l.scopes.now.table row.body p.slot ≡ Some what
  pub is_what : IsWhat (source_for l) (as_written c) e what

pub place-is : (l : Looking) → AreNamesOf l → (p : Place) (c : Component) (e : Entry) → IsNumber (source_for l) p.component c → IsEntry c e p.slot → IsPlace l p c e
place-is l h p c e num entry =
    let r = row-for (source_for l) l.scopes.now h.scopes h.components.few l.components.now.all h.components.all p.component c num in
    let w = what-of (source_for l) l.scopes.now.table h.scopes.numbers.table h.scopes.numbers.indexed r.0.body p.slot c e r.2.body entry in
    record { row = r.0; what = w.0; is_row = r.1; is_body = r.2.body; at = w.1; is_what = w.2 }

-- ---- what a name means

pub event-meant : (t : Source) (c : Component) (nm : Name) (m : Meaning) → Means t c nm m → meant_event m ≡ event_number c nm
event-meant t c nm (meaning.Object o) w = sym w.event
event-meant t c nm (meaning.Given p giver value round) w = sym w.event

pub variable-meant : (t : Source) (c : Component) (nm : Name) (m : Meaning) → Means t c nm m → meant_variable m ≡ variable_number c nm
variable-meant t c nm (meaning.Object o) w = sym w.variable
variable-meant t c nm (meaning.Given p giver value round) w = sym w.variable

-- ---- in the walks

pub names-in : (l : Looking) (k : ℕ) → name_in l k ≡ net_name (component_at l k)
unfolding name_in
names-in l k = λ i nm at. net_name (component_at l k) nm at

pub home-names : (l : Looking) (k : ℕ) → IsHome l k → AreNamesOf l
unfolding IsHome
home-names l k h = h.0

pub home-below : (l : Looking) (k : ℕ) → IsHome l k → k < length (components_of (source_for l))
unfolding IsHome
home-below l k h = h.1

pub home-is : (l : Looking) (k : ℕ) → AreNamesOf l → k < length (components_of (source_for l)) → IsHome l k
unfolding IsHome
home-is l k h b = (h, b)

-- what is read for a name
pub read-by : (l : Looking) (k : ℕ) (nm : Name) → IsHome l k → (m : Meaning) → Means (source_for l) (component_at l k) nm m → IsRead l k nm m
unfolding name_in
read-by l k nm h (meaning.Object o) w = λ at. w.in_net at
read-by l k nm h (meaning.Given p giver value round) w = (
  home-is l giver (home-names l k h) (slice_get-below (components_of (source_for l)) giver w.home w.is_number),
  λ at. w.in_net at
      ∙ ap (placed_at round)
      (ap (λ o. net_with (net_name (or_whole (source_for l) o)) (view value.now)) (sym w.is_number) ∙ ap (λ name. net_with name (view value.now)) (sym (names-in l giver))),
)
