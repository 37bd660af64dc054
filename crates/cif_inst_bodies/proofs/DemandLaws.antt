-- In components that are written as one body, positions ask for the same: so the rule on kinds holds of each component.
use Rattle.std.proofs.Common.{◌≡◌, true, false, ◌⊎◌, inl, List, [], ◌∷◌, ◌++◌, refl, sym, ◌∙◌, ap, subst}
use Rattle.std.specs.Prelude.{ℕ, flat_map, zip, not, ◌||◌}
use Rattle.std.specs.Option.{option_to_list}
use Rattle.std.proofs.lemmas.Grind.{flat_map-append}
use Rattle.std.proofs.lemmas.List.Folds.{flat_map-map}
use Rattle.cif_ast.specs.declared.declarations.Class.{Class}
use Rattle.cif_ast.specs.declared.declarations.Class.TheVariants as class
use Rattle.cif_ast.specs.Tree.{Tree, node, named, UpdateTree, assignment, selection, UpdateTrees, no_updates, updates, UpdateBranches, no_update_branches, update_branches}
use Rattle.cif_ast.specs.declared.names.Name.{Name}
use Rattle.cif_system.specs.Words.{Member}
use Rattle.cif_source.specs.Source.{Text, ChannelTree, no_type, void_type, value_type, RoleTree, syncs, sends, receives, UseTree, EdgeTree, EquationTree, LocationTree, DeclTree, event_decl, const_decl, alg_decl, disc_decl, equation_decl, invariant_decl, marked_decl, ParamTree, event_param, alg_param, location_param, InstanceTree, Source, TypeTree, list_of_trees, tree_at}
use Rattle.cif_source.specs.Components.{Component, whole, part, blank, copy, as_written, body_of, declared, definition, parameter}
use Rattle.cif_source.specs.Lookup.{Reached, reached, missing, blocked, found, in_scope, definition_found}
use Rattle.cif_source.specs.Objects.{bodies, decls_in, locs_in}
use Rattle.cif_source.specs.Scoping.{instances_of}
use Rattle.cif_source.specs.Kinds.{Kind, bool_kind, int_kind, no_kind, same_kind, type_kind, kind_at, kind_of, Demand, demand}
use Rattle.cif_source.specs.Constants.{bound_values}
use Rattle.cif_source.specs.Demands.{demanded, asked_for, ChannelKind, not_channel, void_channel, channel_for, channel_kind, channel_at, event_channel, sent_demands, use_demands, received_by, carried_kind, one_kind, edge_received, updates_demands, update_demands, branches_demands, edge_demands, equation_demands, location_demands, predicate_of, decl_demands, Argument, arguments_at, arguments_in, argument_demands, demands, same_channel, has_asked_class, is_unfit_for}
use Rattle.cif_source.specs.BodyRules.{MismatchDue, BadValue, BadUse, BadArgument}
use Rattle.cif_inst_model.proofs.RuleLaws.{member-any}
use Rattle.cif_inst_bodies.specs.Alike.{AreWrittenAlike}
use Rattle.cif_inst_bodies.proofs.Alike.{written, twice, body-written, in_scope-written, definition-written, found-alike}
use Rattle.cif_inst_bodies.proofs.KindLaws.{type-written, type-same, kind_at-same, kind-same, operands-same, asked-same}

-- ---- parts of a component

pub body-same : (c d : Component) → AreWrittenAlike c d → body_of c ≡ body_of d
body-same c d h = sym (body-written c) ∙ ap body_of h ∙ body-written d

bounds-written : (c : Component) → bound_values (as_written c) ≡ bound_values c
bounds-written (whole is) = refl
bounds-written (part o n b) = refl
bounds-written (blank o n ps b) = refl
bounds-written (copy o n ps b g i) = refl

bounds-same : (c d : Component) → AreWrittenAlike c d → bound_values c ≡ bound_values d
bounds-same c d h = sym (bounds-written c) ∙ ap bound_values h ∙ bounds-written d

instances-written : (c : Component) → instances_of (as_written c) ≡ instances_of c
instances-written (whole is) = refl
instances-written (part o n b) = refl
instances-written (blank o n ps b) = refl
instances-written (copy o n ps b g i) = refl

instances-same : (c d : Component) → AreWrittenAlike c d → instances_of c ≡ instances_of d
instances-same c d h = sym (instances-written c) ∙ ap instances_of h ∙ instances-written d

-- ---- channels

channel_kind-written : (c : Component) (h : ChannelTree) → channel_kind c h ≡ channel_kind (as_written c) h
channel_kind-written c no_type = refl
channel_kind-written c void_type = refl
channel_kind-written c (value_type ty) = ap channel_for (type-written c ty)

channel_at-written : (r : Reached) → channel_at r ≡ channel_at (written r)
channel_at-written (reached (c, declared (event_decl k h n))) = channel_kind-written c h
channel_at-written (reached (c, parameter i (event_param k h n))) = channel_kind-written c h
channel_at-written _ = refl

-- ---- what positions ask for

module _ (c d : Component) (h : AreWrittenAlike c d) where
  demanded-same : (r k : Kind) (e : Tree) → demanded c r k e ≡ demanded d r k e
  demanded-same r k e = λ i. demand r k e ∷ operands-same c d h r e i

  asked-kinds : (j k : Kind) → j ≡ k → (e : Tree) → asked_for c j e ≡ asked_for d k e
  asked-kinds j k same e = λ i. demand no_kind (same i) e ∷ operands-same c d h no_kind e i

  pub channel-same : (nm : Name) → event_channel c nm ≡ event_channel d nm
  channel-same nm = channel_at-written (found c nm) ∙ ap channel_at (found-alike c d nm h) ∙ sym (channel_at-written (found d nm))

  sent-by : (k : ChannelKind) (e : Tree) → sent_demands c k e ≡ sent_demands d k e
  sent-by (channel_for k) e = asked-same c d h k e
  sent-by not_channel e = operands-same c d h no_kind e
  sent-by void_channel e = operands-same c d h no_kind e

  sent-same : (nm : Name) (e : Tree) → sent_demands c (event_channel c nm) e ≡ sent_demands d (event_channel d nm) e
  sent-same nm e = sent-by (event_channel c nm) e ∙ ap (λ k. sent_demands d k e) (channel-same nm)

  use-by : (nm : Name) (r : RoleTree) → use_demands c (record { name = nm; role = r }) ≡ use_demands d (record { name = nm; role = r })
  use-by nm syncs = refl
  use-by nm (sends e) = λ i. flat_map (λ x. sent-same nm x i) (option_to_list e)
  use-by nm receives = refl

  use-same : (u : UseTree) → use_demands c u ≡ use_demands d u
  use-same u = use-by u.name u.role

  received-by : (nm : Name) (r : RoleTree) → received_by c (record { name = nm; role = r }) ≡ received_by d (record { name = nm; role = r })
  received-by nm syncs = refl
  received-by nm (sends e) = refl
  received-by nm receives = ap carried_kind (channel-same nm)

  pub received-same : (us : List UseTree) → edge_received c us ≡ edge_received d us
  received-same [] = refl
  received-same (u ∷ []) = received-by u.name u.role
  received-same (u ∷ v ∷ us) = λ i. one_kind (received-by u.name u.role i) (received-same (v ∷ us) i)

  mutual
    updates-same : (r : Kind) (us : UpdateTrees) → updates_demands c r us ≡ updates_demands d r us
    updates-same r no_updates = refl
    updates-same r (updates u us) = λ i. update-same r u i ++ updates-same r us i

    update-same : (r : Kind) (u : UpdateTree) → update_demands c r u ≡ update_demands d r u
    update-same r (assignment nm e) = λ i. demand r (kind_at-same (found c nm) (found d nm) (found-alike c d nm h) i) e ∷ operands-same c d h r e i
    update-same r (selection bs us) = λ i. branches-same r bs i ++ updates-same r us i

    branches-same : (r : Kind) (bs : UpdateBranches) → branches_demands c r bs ≡ branches_demands d r bs
    branches-same r no_update_branches = refl
    branches-same r (update_branches cs us bs) = λ i. flat_map (λ e. demanded-same r bool_kind e i) (list_of_trees cs) ++ updates-same r us i ++ branches-same r bs i

  edge-same : (e : EdgeTree) → edge_demands c e ≡ edge_demands d e
  edge-same e =
      let all : updates_demands c (edge_received c e.uses) e.updates ≡ updates_demands d (edge_received d e.uses) e.updates = updates-same (edge_received c e.uses) e.updates ∙ ap (λ r. updates_demands d r e.updates) (received-same e.uses) in
      λ i. flat_map (λ u. use-same u i) e.uses ++ flat_map (λ g. asked-same c d h bool_kind g i) e.guards ++ all i

  scope-same : (s : Text) → kind_at (in_scope c s) ≡ kind_at (in_scope d s)
  scope-same s = kind_at-same (in_scope c s) (in_scope d s) (in_scope-written c s ∙ ap (λ w. in_scope w s) h ∙ sym (in_scope-written d s))

  equation-same : (q : EquationTree) → equation_demands c q ≡ equation_demands d q
  equation-same q = asked-kinds (kind_at (in_scope c q.name.text)) (kind_at (in_scope d q.name.text)) (scope-same q.name.text) q.value

  location-same : (l : LocationTree) → location_demands c l ≡ location_demands d l
  location-same l = λ i. flat_map (λ p. asked-same c d h bool_kind p i) l.marked ++ flat_map (λ q. equation-same q i) l.equations ++ flat_map (λ e. edge-same e i) l.edges

  typed-same : (ty : TypeTree) (e : Tree) → asked_for c (type_kind c ty) e ≡ asked_for d (type_kind d ty) e
  typed-same ty e = asked-kinds (type_kind c ty) (type_kind d ty) (type-same c d h ty) e

  decl-same : (x : DeclTree) → decl_demands c x ≡ decl_demands d x
  decl-same (const_decl ty n e) = typed-same ty e
  decl-same (alg_decl ty n e) = λ i. flat_map (λ v. typed-same ty v i) (option_to_list e)
  decl-same (disc_decl ty n e) = λ i. flat_map (λ v. typed-same ty v i) (option_to_list e)
  decl-same (equation_decl q) = equation-same q
  decl-same (invariant_decl x) = asked-same c d h bool_kind (predicate_of x)
  decl-same (marked_decl p) = asked-same c d h bool_kind p
  decl-same _ = refl

  -- ---- arguments

  abbrev argument_in : Component → Tree × ParamTree → Argument
  argument_in b x = record { value = x.0; param = x.1; definition = b }

  argument-by : (a b : Component) → AreWrittenAlike a b → (e : Tree) (p : ParamTree) → argument_demands c (argument_in a (e, p)) ≡ argument_demands d (argument_in b (e, p))
  argument-by a b k e (event_param x y n) = operands-same c d h no_kind e
  argument-by a b k e (alg_param ty n) = asked-kinds (type_kind a ty) (type_kind b ty) (type-same a b k ty) e
  argument-by a b k e (location_param n) = operands-same c d h no_kind e

  arguments-by : (j : InstanceTree) (r : Reached) → flat_map (argument_demands c) (arguments_at j r) ≡ flat_map (argument_demands d) (arguments_at j (written r))
  arguments-by j (reached (o, definition n ps b)) =
      flat_map-map (argument_demands c) (argument_in (blank o n ps b)) (zip j.args ps)
      ∙ (λ i. flat_map (λ x. argument-by (blank o n ps b) (blank (as_written o) n ps b) (ap (λ w. blank w n ps b) (sym (twice o))) x.0 x.1 i) (zip j.args ps))
      ∙ sym (flat_map-map (argument_demands d) (argument_in (blank (as_written o) n ps b)) (zip j.args ps))
  arguments-by j _ = refl

flat-flat : {A B C : Type 0} (f : B → List C) (g : A → List B) (xs : List A) → flat_map f (flat_map g xs) ≡ flat_map (λ x. flat_map f (g x)) xs
flat-flat f g [] = refl
flat-flat f g (x ∷ xs) = flat_map-append f (g x) (flat_map g xs) ∙ ap (λ ys. flat_map f (g x) ++ ys) (flat-flat f g xs)

abbrev instance_demands : Component → InstanceTree → List Demand
instance_demands c j = flat_map (argument_demands c) (arguments_at j (definition_found c j))

instance-same : (c d : Component) → AreWrittenAlike c d → (j : InstanceTree) → instance_demands c j ≡ instance_demands d j
instance-same c d h j =
    arguments-by c d h j (definition_found c j)
    ∙ ap (λ r. flat_map (argument_demands d) (arguments_at j r)) (definition-written c j ∙ ap (λ w. definition_found w j) h ∙ sym (definition-written d j))
    ∙ sym (arguments-by d d refl j (definition_found d j))

arguments-same : (c d : Component) → AreWrittenAlike c d → flat_map (argument_demands c) (arguments_in c) ≡ flat_map (argument_demands d) (arguments_in d)
arguments-same c d h =
    flat-flat (argument_demands c) (λ j. arguments_at j (definition_found c j)) (instances_of c)
    ∙ (λ i. flat_map (λ j. instance-same c d h j i) (instances-same c d h i))
    ∙ sym (flat-flat (argument_demands d) (λ j. arguments_at j (definition_found d j)) (instances_of d))

-- ---- all

pub demands-same : (c d : Component) → AreWrittenAlike c d → demands c ≡ demands d
demands-same c d h = λ i.
    flat_map (λ e. asked-same c d h int_kind e i) (bounds-same c d h i)
    ++ flat_map (λ x. decl-same c d h x i) (decls_in (body-same c d h i))
    ++ arguments-same c d h i
    ++ flat_map (λ l. location-same c d h l i) (locs_in (body-same c d h i))

-- an expression of a component has the kind that its position asks for
pub demands-met : (t : Source) → ((at : ℕ) → MismatchDue t at → ⊥) → (c : Component) → Member (as_written c) (bodies t) → (x : Demand) → Member x (demands c) → same_kind (kind_of c x.received_kind x.value) x.kind ≡ true
demands-met t matched c w x m =
    (elim (same_kind (kind_of c x.received_kind x.value) x.kind) as (λ b. same_kind (kind_of c x.received_kind x.value) x.kind ≡ b → b ≡ true) [
      | true ↦ λ g. refl
      | false ↦ λ g. absurd (matched (tree_at x.value) (member-any (λ d. BadValue d (tree_at x.value) ⊎ BadUse d (tree_at x.value) ⊎ BadArgument d (tree_at x.value)) (as_written c) (bodies t) w
          (inl (member-any (λ (y : Demand). (tree_at y.value ≡ tree_at x.value) × (same_kind (kind_of (as_written c) y.received_kind y.value) y.kind ≡ false)) x (demands (as_written c))
          (subst (Member x) (demands-same c (as_written c) (sym (twice c))) m)
          (refl, ap (λ k. same_kind k x.kind) (sym (kind-same c (as_written c) (sym (twice c)) x.received_kind x.value)) ∙ g)))))
    ]) refl

-- ---- arguments that fit

class-written : (k : Class) (r : Reached) → has_asked_class k r ≡ has_asked_class k (written r)
class-written class.Plain r = refl
class-written class.Con (reached x) = refl
class-written class.Unc (reached x) = refl
class-written k missing = refl
class-written k blocked = refl

class-same : (c d : Component) → AreWrittenAlike c d → (k : Class) (nm : Name) → has_asked_class k (found c nm) ≡ has_asked_class k (found d nm)
class-same c d h k nm = class-written k (found c nm) ∙ ap (has_asked_class k) (found-alike c d nm h) ∙ sym (class-written k (found d nm))

channel_kind-same : (c d : Component) → AreWrittenAlike c d → (h : ChannelTree) → channel_kind c h ≡ channel_kind d h
channel_kind-same c d a h = channel_kind-written c h ∙ ap (λ w. channel_kind w h) a ∙ sym (channel_kind-written d h)

pub unfit-same : (c c' : Component) (d d' : Component) → AreWrittenAlike c c' → AreWrittenAlike d d' → (e : Tree) (p : ParamTree) → is_unfit_for c d e p ≡ is_unfit_for c' d' e p
unfit-same c c' d d' h k (node (named nm) at) (event_param x y n) = λ i. not (same_channel (channel-same c c' h nm i) (channel_kind-same d d' k y i)) || not (class-same c c' h x nm i)
unfit-same c c' d d' h k (node _ at) (event_param x y n) = refl
unfit-same c c' d d' h k (node (named nm) at) (location_param n) = refl
unfit-same c c' d d' h k (node _ at) (location_param n) = refl
unfit-same c c' d d' h k e (alg_param ty n) = refl
