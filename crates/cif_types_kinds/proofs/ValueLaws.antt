-- What is told of types, declarations, edges and locations answers what they are asked.
use Rattle.std.proofs.Common.{◌≡◌, ℕ, Bool, true, false, inl, inr, List, [], ◌∷◌, ◌++◌, Option, Some, None, refl, sym, ap, subst, ◌∙◌, append-nil}
use Rattle.std.specs.Prelude.{flat_map, unwrap_or, if◌then◌else◌}
use Rattle.std.specs.Option.{option_to_list}
use Rattle.cif_system.specs.Words.{Member}
use Rattle.cif_ast.specs.Tree.{Tree, Trees, no_trees, trees, UpdateTree, assignment, selection, UpdateTrees, no_updates, updates, UpdateBranches, no_update_branches, update_branches}
use Rattle.cif_source.specs.Source.{TypeTree, bool_type, int_type, range_type, named_type, no_type, void_type, value_type, RoleTree, syncs, sends, receives, UseTree, EdgeTree, LocationTree, DeclTree, type_decl, enum_decl, event_decl, const_decl, alg_decl, input_decl, disc_decl, equation_decl, invariant_decl, marked_decl, ParamTree, event_param, alg_param, location_param, list_of_trees}
use Rattle.cif_source.specs.Components.{Component}
use Rattle.cif_source.specs.Lookup.{in_scope, found}
use Rattle.cif_source.specs.Kinds.{Kind, bool_kind, int_kind, no_kind, enum_kind, same_kind, kind_at, type_kind, Demand}
use Rattle.cif_source.specs.Constants.{param_types, decl_types, Bounds, bounds_in}
use Rattle.cif_source.specs.Demands.{demanded, asked_for, ChannelKind, not_channel, void_channel, channel_for, event_channel, sent_demands, use_demands, received_by, one_kind, edge_received, updates_demands, update_demands, branches_demands, edge_demands, equation_demands, location_demands, predicate_of, optional_demands, decl_demands}
use Rattle.cif_types_kinds.specs.Faults.{or_later, truth_fault}
use Rattle.cif_types_kinds.specs.Values.{first_told, value_told, optional_told, type_told, param_told, decl_type_told, decl_told, sent_told, optional_sent_told, use_told, received_from, updates_told, update_told, update_branches_told, edge_told, equation_told, location_told}
use Rattle.cif_types_kinds.proofs.SameLaws.{names-told}
use Rattle.cif_types_kinds.proofs.MetLaws.{Answers, nothing, next, regrouped, later-end, later-assoc}
use Rattle.cif_types_kinds.proofs.FaultLaws.{operand-one, tree-answers}

-- ---- lists

pub firsts : {A : Type 0} (c : Component) (f : A → Option ℕ) (g : A → List Demand) (xs : List A) → ((x : A) → Member x xs → Answers c (f x) (g x)) → Answers c (first_told f xs) (flat_map g xs)
firsts c f g [] h = nothing c
firsts c f g (x ∷ xs) h = next c (f x) (first_told f xs) (g x) (flat_map g xs) (h x (inl refl)) (firsts c f g xs (λ y m. h y (inr m)))

pub first-append : {A : Type 0} (f : A → Option ℕ) (xs ys : List A) → first_told f (xs ++ ys) ≡ or_later (first_told f xs) (first_told f ys)
first-append f [] ys = refl
first-append f (x ∷ xs) ys = ap (or_later (f x)) (first-append f xs ys) ∙ sym (later-assoc (f x) (first_told f xs) (first_told f ys))

pub first-flat : {A B : Type 0} (f : B → Option ℕ) (g : A → List B) (h : A → Option ℕ) (xs : List A) → ((x : A) → h x ≡ first_told f (g x)) → first_told h xs ≡ first_told f (flat_map g xs)
first-flat f g h [] e = refl
first-flat f g h (x ∷ xs) e = ap (λ o. or_later o (first_told h xs)) (e x) ∙ ap (or_later (first_told f (g x))) (first-flat f g h xs e) ∙ sym (first-append f (g x) (flat_map g xs))

pub value-answers : (c : Component) (r k : Kind) (e : Tree) → Answers c (value_told c r k e) (demanded c r k e)
value-answers c r k e = operand-one c r k e (tree-answers c r e)

-- ---- types

abbrev pub pair_of : Bounds → List Tree
pair_of b = b.0 ∷ b.1 ∷ []

module _ (c : Component) where
  abbrev pub bounds_asked : List TypeTree → List Demand
  bounds_asked ts = flat_map (asked_for c int_kind) (flat_map pair_of (flat_map bounds_in ts))

  pub types-answer : (ts : List TypeTree) → Answers c (first_told (type_told c no_kind) ts) (bounds_asked ts)
  types-answer [] = nothing c
  types-answer (bool_type ∷ ts) = types-answer ts
  types-answer (int_type ∷ ts) = types-answer ts
  types-answer (named_type nm ∷ ts) = types-answer ts
  types-answer (range_type l u ∷ ts) =
      subst (λ o. Answers c o (bounds_asked (range_type l u ∷ ts))) (sym (later-assoc (value_told c no_kind int_kind l) (value_told c no_kind int_kind u) (first_told (type_told c no_kind) ts)))
      (next c (value_told c no_kind int_kind l) (or_later (value_told c no_kind int_kind u) (first_told (type_told c no_kind) ts)) (asked_for c int_kind l) (asked_for c int_kind u ++ bounds_asked ts) (value-answers c no_kind int_kind l)
      (next c (value_told c no_kind int_kind u) (first_told (type_told c no_kind) ts) (asked_for c int_kind u) (bounds_asked ts) (value-answers c no_kind int_kind u) (types-answer ts)))

  one-type : (r : Kind) (ty : TypeTree) → type_told c r ty ≡ first_told (type_told c r) (ty ∷ [])
  one-type r ty = sym (later-end (type_told c r ty))

  pub param-types : (r : Kind) (p : ParamTree) → param_told c r p ≡ first_told (type_told c r) (param_types p)
  param-types r (event_param k no_type n) = refl
  param-types r (event_param k void_type n) = refl
  param-types r (event_param k (value_type ty) n) = one-type r ty
  param-types r (alg_param ty n) = one-type r ty
  param-types r (location_param n) = refl

  pub decl-types : (r : Kind) (d : DeclTree) → decl_type_told c r d ≡ first_told (type_told c r) (decl_types d)
  decl-types r (type_decl n ty) = one-type r ty
  decl-types r (enum_decl n ls) = refl
  decl-types r (event_decl k no_type n) = refl
  decl-types r (event_decl k void_type n) = refl
  decl-types r (event_decl k (value_type ty) n) = one-type r ty
  decl-types r (const_decl ty n e) = one-type r ty
  decl-types r (alg_decl ty n e) = one-type r ty
  decl-types r (input_decl ty n) = one-type r ty
  decl-types r (disc_decl ty n e) = one-type r ty
  decl-types r (equation_decl q) = refl
  decl-types r (invariant_decl i) = refl
  decl-types r (marked_decl p) = refl

  -- ---- declarations

  pub optional-answers : (k : Kind) (e : Option Tree) → Answers c (optional_told c no_kind k e) (optional_demands c k e)
  optional-answers k None = nothing c
  optional-answers k (Some e) = regrouped c (value_told c no_kind k e) (value_told c no_kind k e) (asked_for c k e) (asked_for c k e ++ []) refl (sym (append-nil (asked_for c k e))) (value-answers c no_kind k e)

  -- what the declaration declares has the kind of its type in the scope
  abbrev pub HasOwnKind : DeclTree → Type 0
  HasOwnKind (type_decl n ty) = Unit {0}
  HasOwnKind (enum_decl n ls) = Unit {0}
  HasOwnKind (event_decl k h n) = Unit {0}
  HasOwnKind (const_decl ty n e) = kind_at (in_scope c n.text) ≡ type_kind c ty
  HasOwnKind (alg_decl ty n e) = kind_at (in_scope c n.text) ≡ type_kind c ty
  HasOwnKind (input_decl ty n) = Unit {0}
  HasOwnKind (disc_decl ty n e) = kind_at (in_scope c n.text) ≡ type_kind c ty
  HasOwnKind (equation_decl q) = Unit {0}
  HasOwnKind (invariant_decl i) = Unit {0}
  HasOwnKind (marked_decl p) = Unit {0}

  pub decl-answers : (d : DeclTree) → HasOwnKind d → Answers c (decl_told c no_kind d) (decl_demands c d)
  decl-answers (type_decl n ty) h = nothing c
  decl-answers (enum_decl n ls) h = nothing c
  decl-answers (event_decl k g n) h = nothing c
  decl-answers (const_decl ty n e) h = subst (λ k. Answers c (value_told c no_kind k e) (asked_for c (type_kind c ty) e)) (sym h) (value-answers c no_kind (type_kind c ty) e)
  decl-answers (alg_decl ty n e) h = subst (λ k. Answers c (optional_told c no_kind k e) (optional_demands c (type_kind c ty) e)) (sym h) (optional-answers (type_kind c ty) e)
  decl-answers (input_decl ty n) h = nothing c
  decl-answers (disc_decl ty n e) h = subst (λ k. Answers c (optional_told c no_kind k e) (optional_demands c (type_kind c ty) e)) (sym h) (optional-answers (type_kind c ty) e)
  decl-answers (equation_decl q) h = value-answers c no_kind (kind_at (in_scope c q.name.text)) q.value
  decl-answers (invariant_decl i) h = value-answers c no_kind bool_kind (predicate_of i)
  decl-answers (marked_decl p) h = value-answers c no_kind bool_kind p

  -- ---- events

  sent-answers : (h : ChannelKind) (e : Tree) → Answers c (sent_told c no_kind h e) (sent_demands c h e)
  sent-answers (channel_for k) e = value-answers c no_kind k e
  sent-answers void_channel e = tree-answers c no_kind e
  sent-answers not_channel e = tree-answers c no_kind e

  role-answers : (h : ChannelKind) (ro : RoleTree)
      → Answers c (elim ro [ syncs ↦ None | sends e ↦ optional_sent_told c no_kind h e | receives ↦ None ]) (elim ro [ syncs ↦ [] | sends e ↦ flat_map (sent_demands c h) (option_to_list e) | receives ↦ [] ])
  role-answers h syncs = nothing c
  role-answers h receives = nothing c
  role-answers h (sends None) = nothing c
  role-answers h (sends (Some e)) = regrouped c (sent_told c no_kind h e) (sent_told c no_kind h e) (sent_demands c h e) (sent_demands c h e ++ []) refl (sym (append-nil (sent_demands c h e))) (sent-answers h e)

  use-answers : (u : UseTree) → Answers c (use_told c no_kind u) (use_demands c u)
  use-answers u = role-answers (event_channel c u.name) u.role

-- ---- what an edge receives

one-same : (j k : Kind) → same_kind j k ≡ true → j ≡ k
one-same bool_kind bool_kind h = refl
one-same int_kind int_kind h = refl
one-same (enum_kind xs) (enum_kind ys) h = ap enum_kind (names-told xs ys h)
one-same bool_kind int_kind h = cc
one-same bool_kind no_kind h = cc
one-same bool_kind (enum_kind ys) h = cc
one-same int_kind bool_kind h = cc
one-same int_kind no_kind h = cc
one-same int_kind (enum_kind ys) h = cc
one-same no_kind bool_kind h = cc
one-same no_kind int_kind h = cc
one-same no_kind no_kind h = cc
one-same no_kind (enum_kind ys) h = cc
one-same (enum_kind xs) bool_kind h = cc
one-same (enum_kind xs) int_kind h = cc
one-same (enum_kind xs) no_kind h = cc

none-right : (j : Kind) → one_kind j no_kind ≡ no_kind
none-right bool_kind = refl
none-right int_kind = refl
none-right no_kind = refl
none-right (enum_kind xs) = refl

-- one kind of three, whichever two come first
one-assoc : (i j k : Kind) → one_kind (one_kind i j) k ≡ one_kind i (one_kind j k)
one-assoc i j k =
    (elim (same_kind i j) as (λ b. same_kind i j ≡ b → one_kind (if b then i else no_kind) k ≡ one_kind i (one_kind j k)) [
      | true ↦ λ h. first (one-same i j h)
      | false ↦ λ h. second h
    ]) refl
  where
    first : i ≡ j → one_kind i k ≡ one_kind i (one_kind j k)
    first e =
        (elim (same_kind j k) as (λ b. same_kind j k ≡ b → one_kind i k ≡ one_kind i (if b then j else no_kind)) [
          | true ↦ λ g. ap (one_kind i) (sym (one-same j k g))
          | false ↦ λ g. ap (λ (b : Bool). if b then i else no_kind) (ap (λ x. same_kind x k) e ∙ g) ∙ sym (none-right i)
        ]) refl

    second : same_kind i j ≡ false → no_kind ≡ one_kind i (one_kind j k)
    second h =
        (elim (same_kind j k) as (λ b. no_kind ≡ one_kind i (if b then j else no_kind)) [
          | true ↦ sym (ap (λ (b : Bool). if b then i else no_kind) h)
          | false ↦ sym (none-right i)
        ])

from-some : (c : Component) (k : Kind) (us : List UseTree) (u : UseTree) → unwrap_or (received_from c (Some k) (u ∷ us)) no_kind ≡ one_kind k (edge_received c (u ∷ us))
from-some c k [] u = refl
from-some c k (v ∷ us) u = from-some c (one_kind k (received_by c u)) us v ∙ one-assoc k (received_by c u) (edge_received c (v ∷ us))

pub received-is : (c : Component) (us : List UseTree) → unwrap_or (received_from c None us) no_kind ≡ edge_received c us
received-is c [] = refl
received-is c (u ∷ []) = refl
received-is c (u ∷ v ∷ us) = from-some c (received_by c u) us v

-- ---- updates

conditions-answer : (c : Component) (r : Kind) (cs : Trees) → Answers c (truth_fault c r cs) (flat_map (demanded c r bool_kind) (list_of_trees cs))
conditions-answer c r no_trees = nothing c
conditions-answer c r (trees e es) =
    next c (value_told c r bool_kind e) (truth_fault c r es) (demanded c r bool_kind e) (flat_map (demanded c r bool_kind) (list_of_trees es)) (value-answers c r bool_kind e) (conditions-answer c r es)

mutual
  pub updates-answer : (c : Component) (r : Kind) (us : UpdateTrees) → Answers c (updates_told c r us) (updates_demands c r us)
  updates-answer c r no_updates = nothing c
  updates-answer c r (updates u us) = next c (update_told c r u) (updates_told c r us) (update_demands c r u) (updates_demands c r us) (update-answers c r u) (updates-answer c r us)

  update-answers : (c : Component) (r : Kind) (u : UpdateTree) → Answers c (update_told c r u) (update_demands c r u)
  update-answers c r (assignment nm e) = value-answers c r (kind_at (found c nm)) e
  update-answers c r (selection bs us) =
      next c (update_branches_told c r bs) (updates_told c r us) (branches_demands c r bs) (updates_demands c r us) (update_branches-answer c r bs) (updates-answer c r us)

  update_branches-answer : (c : Component) (r : Kind) (bs : UpdateBranches) → Answers c (update_branches_told c r bs) (branches_demands c r bs)
  update_branches-answer c r no_update_branches = nothing c
  update_branches-answer c r (update_branches cs us bs) =
      subst (λ o. Answers c o (branches_demands c r (update_branches cs us bs))) (later-assoc (truth_fault c r cs) (updates_told c r us) (update_branches_told c r bs))
      (next c (or_later (truth_fault c r cs) (updates_told c r us)) (update_branches_told c r bs)
      (flat_map (demanded c r bool_kind) (list_of_trees cs) ++ updates_demands c r us) (branches_demands c r bs)
      (next c (truth_fault c r cs) (updates_told c r us) (flat_map (demanded c r bool_kind) (list_of_trees cs)) (updates_demands c r us) (conditions-answer c r cs) (updates-answer c r us))
      (update_branches-answer c r bs))

-- ---- edges and locations

module _ (c : Component) where
  pub three : (o p q : Option ℕ) (xs ys zs : List Demand) → Answers c o xs → Answers c p ys → Answers c q zs → Answers c (or_later o (or_later p q)) ((xs ++ ys) ++ zs)
  three o p q xs ys zs x y z = subst (λ u. Answers c u ((xs ++ ys) ++ zs)) (later-assoc o p q) (next c (or_later o p) q (xs ++ ys) zs (next c o p xs ys x y) z)

  edge-answers : (e : EdgeTree) → Answers c (edge_told c no_kind e) (edge_demands c e)
  edge-answers e =
      three (first_told (use_told c no_kind) e.uses) (first_told (value_told c no_kind bool_kind) e.guards) (updates_told c (unwrap_or (received_from c None e.uses) no_kind) e.updates)
      (flat_map (use_demands c) e.uses) (flat_map (asked_for c bool_kind) e.guards) (updates_demands c (edge_received c e.uses) e.updates)
      (firsts c (use_told c no_kind) (use_demands c) e.uses (λ u m. use-answers c u))
      (firsts c (value_told c no_kind bool_kind) (asked_for c bool_kind) e.guards (λ g m. value-answers c no_kind bool_kind g))
      (subst (λ k. Answers c (updates_told c k e.updates) (updates_demands c (edge_received c e.uses) e.updates)) (sym (received-is c e.uses)) (updates-answer c (edge_received c e.uses) e.updates))

  pub location-answers : (l : LocationTree) → Answers c (location_told c no_kind l) (location_demands c l)
  location-answers l =
      three (first_told (value_told c no_kind bool_kind) l.marked) (first_told (equation_told c no_kind) l.equations) (first_told (edge_told c no_kind) l.edges)
      (flat_map (asked_for c bool_kind) l.marked) (flat_map (equation_demands c) l.equations) (flat_map (edge_demands c) l.edges)
      (firsts c (value_told c no_kind bool_kind) (asked_for c bool_kind) l.marked (λ p m. value-answers c no_kind bool_kind p))
      (firsts c (equation_told c no_kind) (equation_demands c) l.equations (λ q m. value-answers c no_kind (kind_at (in_scope c q.name.text)) q.value))
      (firsts c (edge_told c no_kind) (edge_demands c) l.edges (λ e m. edge-answers e))
