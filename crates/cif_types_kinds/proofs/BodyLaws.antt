-- What is told of a body answers all that its expressions are asked.
use Rattle.std.proofs.Common.{◌≡◌, ℕ, inl, List, ◌++◌, Option, refl, sym, ap, subst, ◌∙◌, append-nil}
use Rattle.std.specs.Prelude.{Result, flat_map, filter_map}
use Rattle.cif_system.specs.Words.{Member}
use Rattle.cif_ast.specs.declared.names.Ident.{Ident}
use Rattle.cif_source.specs.Source.{DeclTree, type_decl, enum_decl, event_decl, const_decl, alg_decl, input_decl, disc_decl, equation_decl, invariant_decl, marked_decl, ParamTree, decl_item, component_item, definition_item, instance_item, SourceBody, group_body, automaton_body, Source, no_source, source, list_of_items}
use Rattle.cif_source.specs.Components.{Component, params_of, body_of, decl_entries, declared}
use Rattle.cif_source.specs.Lookup.{reached, at_entry, in_scope, definition_found}
use Rattle.cif_source.specs.Objects.{item_decls, items_in, decls_in, decls_of, locs_in}
use Rattle.cif_source.specs.Scoping.{as_instance}
use Rattle.cif_source.specs.Kinds.{Kind, no_kind, kind_at, Demand}
use Rattle.cif_source.specs.Constants.{param_types, decl_types}
use Rattle.cif_source.specs.Demands.{demands, decl_demands, location_demands, argument_demands, arguments_at}
use Rattle.cif_scope.specs.Written.{WrittenBody}
use Rattle.cif_scope.specs.Tables.{IsBody}
use Rattle.cif_scope.specs.Scopes.{AreNumbered}
use Rattle.cif_scope.specs.declared.scopes.Scopes.{Scopes}
use Rattle.cif_types_kinds.specs.declared.error.KindErr.{KindErr}
use Rattle.cif_types_kinds.specs.declared.table.KindTable.{KindTable}
use Rattle.cif_types_kinds.specs.declared.reading.Reading.{Reading}
use Rattle.cif_types_kinds.specs.Tables.{AreKindsIn}
use Rattle.cif_types_kinds.specs.Readings.{source_for, IsReading, IsWrittenIn, component_in, received_in}
use Rattle.cif_types_kinds.specs.Met.{Checks}
use Rattle.cif_types_kinds.specs.Faults.{or_later, Tells}
use Rattle.cif_types_kinds.specs.Values.{first_told, type_told, param_told, decl_type_told, decl_told, location_told, instances_told, decls_told, group_told, automaton_told, inside_told, body_told}
use Rattle.cif_types_kinds.proofs.MetLaws.{Answers, checks, later-assoc}
use Rattle.cif_types_kinds.proofs.NameLaws.{body-is}
use Rattle.cif_types_kinds.proofs.EntryLaws.{declared-found}
use Rattle.cif_types_kinds.proofs.ValueLaws.{firsts, first-append, first-flat, bounds_asked, types-answer, param-types, decl-types, HasOwnKind, decl-answers, location-answers, three}
use Rattle.cif_types_kinds.proofs.ArgumentLaws.{arguments_in_items, all-instances}

decls-flat : (f : DeclTree → Option ℕ) (is : Source) → decls_told f is ≡ first_told f (flat_map item_decls (list_of_items is))
decls-flat f no_source = refl
decls-flat f (source (decl_item d) is) = ap (or_later (f d)) (decls-flat f is)
decls-flat f (source (component_item n b) is) = decls-flat f is
decls-flat f (source (definition_item n ps b) is) = decls-flat f is
decls-flat f (source (instance_item i) is) = decls-flat f is

-- ---- declarations have their kinds in the scope

module _ (t : Source) (s : Scopes) (k : ℕ) (c : Component) (num : AreNumbered t s) (own : IsBody t k c) where
  own-kind : (d : DeclTree) (n : Ident) → Member d (decls_of c) → Member (n, declared d) (decl_entries d) → kind_at (in_scope c n.text) ≡ kind_at (reached (c, declared d))
  own-kind d n m w = ap (λ o. kind_at (at_entry c o)) (declared-found t s.table k c num.table num.indexed own d n (declared d) m w)

  has-own-kind : (d : DeclTree) → Member d (decls_of c) → HasOwnKind c d
  has-own-kind (type_decl n ty) m = tt
  has-own-kind (enum_decl n ls) m = tt
  has-own-kind (event_decl j h n) m = tt
  has-own-kind (const_decl ty n e) m = own-kind (const_decl ty n e) n m (inl refl)
  has-own-kind (alg_decl ty n e) m = own-kind (alg_decl ty n e) n m (inl refl)
  has-own-kind (input_decl ty n) m = tt
  has-own-kind (disc_decl ty n e) m = own-kind (disc_decl ty n e) n m (inl refl)
  has-own-kind (equation_decl q) m = tt
  has-own-kind (invariant_decl i) m = tt
  has-own-kind (marked_decl p) m = tt

-- ---- a body

-- what the expressions of the body b with these parameters are asked, in the component c
abbrev asked_in : Component → List ParamTree → SourceBody → List Demand
asked_in c ps b =
    ((bounds_asked c (flat_map param_types ps ++ flat_map decl_types (decls_in b)) ++ flat_map (decl_demands c) (decls_in b))
    ++ flat_map (argument_demands c) (flat_map (λ i. arguments_at i (definition_found c i)) (filter_map as_instance (items_in b))))
    ++ flat_map (location_demands c) (locs_in b)

module _ (t : Source) (s : Scopes) (tb : KindTable) (k : ℕ) (c : Component) (num : AreNumbered t s) (are : AreKindsIn t tb) (own : IsBody t k c) where
  types-told : (ps : List ParamTree) (ds : List DeclTree)
      → Answers c (or_later (first_told (param_told c no_kind) ps) (first_told (decl_type_told c no_kind) ds)) (bounds_asked c (flat_map param_types ps ++ flat_map decl_types ds))
  types-told ps ds =
      subst (λ o. Answers c o (bounds_asked c (flat_map param_types ps ++ flat_map decl_types ds)))
      (first-append (type_told c no_kind) (flat_map param_types ps) (flat_map decl_types ds)
      ∙ ap (λ o. or_later o (first_told (type_told c no_kind) (flat_map decl_types ds))) (sym (first-flat (type_told c no_kind) param_types (param_told c no_kind) ps (param-types c no_kind)))
      ∙ ap (or_later (first_told (param_told c no_kind) ps)) (sym (first-flat (type_told c no_kind) decl_types (decl_type_told c no_kind) ds (decl-types c no_kind))))
      (types-answer c (flat_map param_types ps ++ flat_map decl_types ds))

  decls-told : (ds : List DeclTree) → ((d : DeclTree) → Member d ds → HasOwnKind c d) → Answers c (first_told (decl_told c no_kind) ds) (flat_map (decl_demands c) ds)
  decls-told ds h = firsts c (decl_told c no_kind) (decl_demands c) ds (λ d m. decl-answers c d (h d m))

  -- the types of all, the values of declarations, and what else there is
  joined : (ps : List ParamTree) (ds : List DeclTree) (rest : Option ℕ) (xs : List Demand) → ((d : DeclTree) → Member d ds → HasOwnKind c d) → Answers c rest xs
      → Answers c (or_later (first_told (param_told c no_kind) ps) (or_later (first_told (decl_type_told c no_kind) ds) (or_later (first_told (decl_told c no_kind) ds) rest)))
      ((bounds_asked c (flat_map param_types ps ++ flat_map decl_types ds) ++ flat_map (decl_demands c) ds) ++ xs)
  joined ps ds rest xs h a =
      subst (λ o. Answers c o ((bounds_asked c (flat_map param_types ps ++ flat_map decl_types ds) ++ flat_map (decl_demands c) ds) ++ xs))
      (later-assoc (first_told (param_told c no_kind) ps) (first_told (decl_type_told c no_kind) ds) (or_later (first_told (decl_told c no_kind) ds) rest))
      (three c (or_later (first_told (param_told c no_kind) ps) (first_told (decl_type_told c no_kind) ds)) (first_told (decl_told c no_kind) ds) rest
      (bounds_asked c (flat_map param_types ps ++ flat_map decl_types ds)) (flat_map (decl_demands c) ds) xs (types-told ps ds) (decls-told ds h) a)

  abbrev decls_asked : List ParamTree → List DeclTree → List Demand
  decls_asked ps ds = bounds_asked c (flat_map param_types ps ++ flat_map decl_types ds) ++ flat_map (decl_demands c) ds

  abbrev group_asked : List ParamTree → Source → List Demand
  group_asked ps is = decls_asked ps (flat_map item_decls (list_of_items is)) ++ flat_map (argument_demands c) (arguments_in_items t s tb num are c is)

  body-answers : (ps : List ParamTree) (b : SourceBody) → body_of c ≡ b → Answers c (or_later (first_told (param_told c no_kind) ps) (inside_told s tb c no_kind k b)) (asked_in c ps b)
  body-answers ps (group_body is) e =
      subst (λ (xs : List Demand). Answers c (or_later (first_told (param_told c no_kind) ps) (group_told s tb c no_kind k is)) xs) (sym (append-nil (group_asked ps is)))
      (subst (λ o. Answers c o (group_asked ps is)) (sym (ap (or_later (first_told (param_told c no_kind) ps)) (flat (decls_told (decl_type_told c no_kind) is) (first_told (decl_type_told c no_kind) (flat_map item_decls (list_of_items is))) (decls_told (decl_told c no_kind) is) (first_told (decl_told c no_kind) (flat_map item_decls (list_of_items is))) (instances_told s tb c no_kind k 0 is) (decls-flat (decl_type_told c no_kind) is) (decls-flat (decl_told c no_kind) is))))
      (joined ps (flat_map item_decls (list_of_items is)) (instances_told s tb c no_kind k 0 is) (flat_map (argument_demands c) (arguments_in_items t s tb num are c is))
      (λ d m. has-own-kind t s k c num own d (subst (λ x. Member d (decls_in x)) (sym e) m))
      (all-instances t s tb num are c k is own (ap (λ x. filter_map as_instance (items_in x)) e))))
    where
      flat : (o q p u v : Option ℕ) → o ≡ q → p ≡ u → or_later o (or_later p v) ≡ or_later q (or_later u v)
      flat o q p u v f g = ap (λ x. or_later x (or_later p v)) f ∙ ap (λ x. or_later q (or_later x v)) g
  body-answers ps (automaton_body a) e =
      subst (λ (xs : List Demand). Answers c (or_later (first_told (param_told c no_kind) ps) (automaton_told c no_kind a)) (xs ++ flat_map (location_demands c) a.locs)) (sym (append-nil (decls_asked ps a.decls)))
      (joined ps a.decls (first_told (location_told c no_kind) a.locs) (flat_map (location_demands c) a.locs)
      (λ d m. has-own-kind t s k c num own d (subst (λ x. Member d (decls_in x)) (sym e) m))
      (firsts c (location_told c no_kind) (location_demands c) a.locs (λ l m. location-answers c l)))

  told-in : {A : Type 0} (r : Kind) (w : WrittenBody) (x : Result A KindErr) → r ≡ no_kind → w.params ≡ params_of c → w.body ≡ body_of c → Tells x (body_told s tb c r k w)
      → Tells x (or_later (first_told (param_told c no_kind) (params_of c)) (inside_told s tb c no_kind k (body_of c)))
  told-in r w x none params body told =
      subst (λ b. Tells x (or_later (first_told (param_told c no_kind) (params_of c)) (inside_told s tb c no_kind k b))) body
      (subst (λ ps. Tells x (or_later (first_told (param_told c no_kind) ps) (inside_told s tb c no_kind k w.body))) params
      (subst (λ j. Tells x (body_told s tb c j k w)) none told))

  checked-in : {A : Type 0} (x : Result A KindErr) → Tells x (or_later (first_told (param_told c no_kind) (params_of c)) (inside_told s tb c no_kind k (body_of c))) → Checks c (demands c) x
  checked-in x told = checks c (or_later (first_told (param_told c no_kind) (params_of c)) (inside_told s tb c no_kind k (body_of c))) (asked_in c (params_of c) (body_of c)) x (body-answers (params_of c) (body_of c) refl) told

-- where nothing is received, what is told of a body says whether its demands are met
pub body_checked : {A : Type 0} (r : Reading) (w : WrittenBody) (x : Result A KindErr) → IsReading r → received_in r ≡ no_kind → IsWrittenIn r w
    → Tells x (body_told r.scopes.now r.table.now (component_in r) (received_in r) r.body w) → Checks (component_in r) (demands (component_in r)) x
body_checked r w x h none is told =
    checked-in (source_for r) r.scopes.now r.table.now r.body (component_in r) h.scopes h.kinds (body-is r h) x
    (told-in (source_for r) r.scopes.now r.table.now r.body (component_in r) h.scopes h.kinds (body-is r h) (received_in r) w x none is.params is.body told)
