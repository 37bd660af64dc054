-- The number at the slot of a constant is its place among the constants of the marked bodies.
use Rattle.std.proofs.Common.{◌≡◌, ℕ, zero, suc, ◌+◌, ◌-◌, ◌<◌, ◌≤◌, Bool, true, false, List, [], ◌∷◌, ◌++◌, append_assoc, append-nil, map, length, drop, length-append, add-one, inl, inr, refl, sym, ap, subst, ◌∙◌, arith, Option, Some, None}
use Rattle.std.specs.Prelude.{slice_get, flat_map, filter_map, option_map}
use Rattle.std.specs.List.{enumerate_from, cons_option}
use Rattle.std.proofs.lemmas.Grind.{flat_map-append}
use Rattle.std.proofs.Math.Seq.{drop-length}
use Rattle.cif_system.proofs.Lists.{some-same, none-some, slice_get-below}
use Rattle.cif_order.proofs.Lists.{same-or-other}
use Rattle.cif_ast.specs.declared.names.Ident.{Ident}
use Rattle.cif_ast.specs.Tree.{Tree}
use Rattle.cif_source.specs.Source.{DeclTree, type_decl, enum_decl, event_decl, const_decl, alg_decl, input_decl, disc_decl, equation_decl, invariant_decl, marked_decl, TypeTree, ParamTree, LocationTree, decl_item, component_item, definition_item, instance_item, SourceBody, group_body, automaton_body, Source, no_source, source, list_of_items}
use Rattle.cif_source.specs.Components.{Component, body_of, params_of, scope_of, Entry, Entries, declared, literal, location, inner, definition, instance, parameter, decl_entries, location_entry, item_entries, body_entries, param_name}
use Rattle.cif_source.specs.Objects.{bodies, decls_in}
use Rattle.cif_scope.specs.declared.scope.ScopeName.{ScopeName}
use Rattle.cif_scope.specs.declared.scope.Sort.{Sort}
use Rattle.cif_scope.specs.declared.scope.What.{What}
use Rattle.cif_scope.specs.declared.scopes.Scopes.{Scopes}
use Rattle.cif_scope.specs.Tables.{IsBody, Beside, IsSort, IsName, IsWhat, IsScope}
use Rattle.cif_scope.specs.Looks.{names_in, names_at, what_at}
use Rattle.cif_scope.specs.Written.{WrittenBody, written_bodies}
use Rattle.cif_scope.proofs.Places.{beside-at, beside-length}
use Rattle.cif_scope.proofs.BodyLaws.{row-of}
use Rattle.cif_scope.proofs.DefinitionLaws.{IsWritten, bodies-written}
use Rattle.cif_resolve_cycles.proofs.NumberLaws.{get-front, get-rest, length-push, get-pushed, below-other}
use Rattle.cif_resolve_cycles.proofs.Graphs.{at-below}
use Rattle.cif_inst_constants.specs.Numbers.{sort_unit, unit_of, count_to, body_count, row_to, count_if, total_to, rows_to, numbers_of, number_in, or_zero, number_at}
use Rattle.cif_inst_constants.specs.Nodes.{Node, decl_nodes, body_nodes, nodes_in}
use Rattle.cif_inst_constants.specs.Used.{is_used, if_used, used_from}
use Rattle.cif_inst_constants.proofs.UsedLaws.{IsMarked}

-- ---- constants among entries

abbrev decl_unit : DeclTree → ℕ
decl_unit d = length (decl_nodes 0 d)

abbrev pub entry_nodes : ℕ → Ident × Entry → List Node
entry_nodes k (n, declared d) = decl_nodes k d
entry_nodes k (n, literal i ls) = []
entry_nodes k (n, location i) = []
entry_nodes k (n, inner m b) = []
entry_nodes k (n, definition m ps b) = []
entry_nodes k (n, instance i) = []
entry_nodes k (n, parameter i p) = []

abbrev scope_nodes : ℕ → Entries → List Node
scope_nodes k es = flat_map (entry_nodes k) es

literal-nodes : (k i : ℕ) (all ls : List Ident) → scope_nodes k (map (λ (x : ℕ × Ident). (x.1, literal x.0 all)) (enumerate_from i ls)) ≡ []
literal-nodes k i all [] = refl
literal-nodes k i all (l ∷ ls) = literal-nodes k (i + 1) all ls

decl-nodes : (k : ℕ) (d : DeclTree) → scope_nodes k (decl_entries d) ≡ decl_nodes k d
decl-nodes k (type_decl n ty) = refl
decl-nodes k (enum_decl n ls) = literal-nodes k 0 ls ls
decl-nodes k (event_decl c h n) = refl
decl-nodes k (const_decl ty n e) = refl
decl-nodes k (alg_decl ty n e) = refl
decl-nodes k (input_decl ty n) = refl
decl-nodes k (disc_decl ty n e) = refl
decl-nodes k (equation_decl q) = refl
decl-nodes k (invariant_decl i) = refl
decl-nodes k (marked_decl p) = refl

decls-nodes : (k : ℕ) (ds : List DeclTree) → scope_nodes k (flat_map decl_entries ds) ≡ flat_map (decl_nodes k) ds
decls-nodes k [] = refl
decls-nodes k (d ∷ ds) =
    flat_map-append (entry_nodes k) (decl_entries d) (flat_map decl_entries ds)
    ∙ ap (λ l. l ++ scope_nodes k (flat_map decl_entries ds)) (decl-nodes k d) ∙ ap (λ l. decl_nodes k d ++ l) (decls-nodes k ds)

locations-nodes : (k i : ℕ) (ls : List LocationTree) → scope_nodes k (filter_map location_entry (enumerate_from i ls)) ≡ []
locations-nodes k i [] = refl
locations-nodes k i (l ∷ ls) = go l.name (locations-nodes k (i + 1) ls)
  where
    go : (o : Option Ident) → scope_nodes k (filter_map location_entry (enumerate_from (i + 1) ls)) ≡ [] → scope_nodes k (cons_option (option_map (λ n. (n, location i)) o) (filter_map location_entry (enumerate_from (i + 1) ls))) ≡ []
    go None h = h
    go (Some n) h = h

items-nodes : (k : ℕ) (is : Source) → scope_nodes k (flat_map item_entries (list_of_items is)) ≡ flat_map (decl_nodes k) (decls_in (group_body is))
items-nodes k no_source = refl
items-nodes k (source (decl_item d) is) =
    flat_map-append (entry_nodes k) (decl_entries d) (flat_map item_entries (list_of_items is))
    ∙ ap (λ l. l ++ scope_nodes k (flat_map item_entries (list_of_items is))) (decl-nodes k d) ∙ ap (λ l. decl_nodes k d ++ l) (items-nodes k is)
items-nodes k (source (component_item n b) is) = items-nodes k is
items-nodes k (source (definition_item n ps b) is) = items-nodes k is
items-nodes k (source (instance_item i) is) = items-nodes k is

append-none : (xs ys : List Node) → ys ≡ [] → xs ++ ys ≡ xs
append-none [] ys h = h
append-none (x ∷ xs) ys h = ap (λ l. x ∷ l) (append-none xs ys h)

body-nodes : (k : ℕ) (b : SourceBody) → scope_nodes k (body_entries b) ≡ flat_map (decl_nodes k) (decls_in b)
body-nodes k (group_body is) = items-nodes k is
body-nodes k (automaton_body a) =
    flat_map-append (entry_nodes k) (flat_map decl_entries a.decls) (filter_map location_entry (enumerate_from 0 a.locs))
    ∙ append-none (scope_nodes k (flat_map decl_entries a.decls)) (scope_nodes k (filter_map location_entry (enumerate_from 0 a.locs))) (locations-nodes k 0 a.locs)
    ∙ decls-nodes k a.decls

params-nodes : (k i : ℕ) (ps : List ParamTree) (es : Entries) → scope_nodes k (map (λ (x : ℕ × ParamTree). (param_name x.1, parameter x.0 x.1)) (enumerate_from i ps) ++ es) ≡ scope_nodes k es
params-nodes k i [] es = refl
params-nodes k i (p ∷ ps) es = params-nodes k (i + 1) ps es

nodes-of : (k : ℕ) (c : Component) → scope_nodes k (scope_of c) ≡ flat_map (decl_nodes k) (decls_in (body_of c))
nodes-of k c = params-nodes k 0 (params_of c) (body_entries (body_of c)) ∙ body-nodes k (body_of c)

-- ---- places among entries

abbrev pub entry_unit : Ident × Entry → ℕ
entry_unit e = length (entry_nodes 0 e)

abbrev unit_at : Entries → ℕ → ℕ
unit_at [] j = 0
unit_at (e ∷ es) zero = entry_unit e
unit_at (e ∷ es) (suc j) = unit_at es j

abbrev before : Entries → ℕ → ℕ
before [] j = 0
before (e ∷ es) zero = 0
before (e ∷ es) (suc j) = entry_unit e + before es j

before-first : (es : Entries) → before es 0 ≡ 0
before-first [] = refl
before-first (e ∷ es) = refl

before-next : (es : Entries) (j : ℕ) → before es (suc j) ≡ before es j + unit_at es j
before-next [] j = refl
before-next (e ∷ es) zero = let h : before es 0 ≡ 0 = before-first es in omega arith
before-next (e ∷ es) (suc j) = let h : before es (suc j) ≡ before es j + unit_at es j = before-next es j in omega arith

decl-units : (k : ℕ) (d : DeclTree) → length (decl_nodes k d) ≡ decl_unit d
decl-units k (type_decl n ty) = refl
decl-units k (enum_decl n ls) = refl
decl-units k (event_decl c h n) = refl
decl-units k (const_decl ty n e) = refl
decl-units k (alg_decl ty n e) = refl
decl-units k (input_decl ty n) = refl
decl-units k (disc_decl ty n e) = refl
decl-units k (equation_decl q) = refl
decl-units k (invariant_decl i) = refl
decl-units k (marked_decl p) = refl

entry-units : (k : ℕ) (e : Ident × Entry) → length (entry_nodes k e) ≡ entry_unit e
entry-units k (n, declared d) = decl-units k d
entry-units k (n, literal i ls) = refl
entry-units k (n, location i) = refl
entry-units k (n, inner m b) = refl
entry-units k (n, definition m ps b) = refl
entry-units k (n, instance i) = refl
entry-units k (n, parameter i p) = refl

-- past the front
get-past : (xs ys : List Node) (m i : ℕ) → m ≡ length xs + i → slice_get (xs ++ ys) m ≡ slice_get ys i
get-past xs ys m i e =
    let least : length xs ≤ m = omega arith in
    let rest : m - length xs ≡ i = omega arith in
    get-rest xs ys m least ∙ ap (slice_get ys) rest

nodes-length : (k : ℕ) (es : Entries) → length (scope_nodes k es) ≡ before es (length es)
nodes-length k [] = refl
nodes-length k (e ∷ es) =
    let a : length (scope_nodes k (e ∷ es)) ≡ length (entry_nodes k e) + length (scope_nodes k es) = length-append (entry_nodes k e) (scope_nodes k es) in
    let b : length (entry_nodes k e) ≡ entry_unit e = entry-units k e in
    let d : length (scope_nodes k es) ≡ before es (length es) = nodes-length k es in
    omega arith

node-at : (k : ℕ) (es : Entries) (j : ℕ) (m : Ident) (ty : TypeTree) (n : Ident) (e : Tree) → slice_get es j ≡ Some (m, declared (const_decl ty n e)) → slice_get (scope_nodes k es) (before es j) ≡ Some (record { body = k; decl = const_decl ty n e; value = e })
node-at k [] j m ty n e h = absurd (none-some (m, declared (const_decl ty n e)) h)
node-at k (x ∷ es) zero m ty n e h = ap (λ (y : Ident × Entry). slice_get (entry_nodes k y ++ scope_nodes k es) 0) (some-same x (m, declared (const_decl ty n e)) h)
node-at k (x ∷ es) (suc j) m ty n e h =
    let b : length (entry_nodes k x) ≡ entry_unit x = entry-units k x in
    let past : entry_unit x + before es j ≡ length (entry_nodes k x) + before es j = omega arith in
    get-past (entry_nodes k x) (scope_nodes k es) (entry_unit x + before es j) (before es j) past ∙ node-at k es j m ty n e h

-- ---- places among the names of scopes

sort-unit : (d : DeclTree) (s : Sort) → IsSort d s → sort_unit s ≡ decl_unit d
sort-unit (type_decl n ty) s h = ap sort_unit h
sort-unit (enum_decl n ls) s h = ap sort_unit h
sort-unit (event_decl k c n) s h = ap sort_unit h
sort-unit (const_decl ty n e) s h = ap sort_unit h
sort-unit (alg_decl ty n e) s h = ap sort_unit h
sort-unit (input_decl ty n) s h = ap sort_unit h
sort-unit (disc_decl ty n e) s h = ap sort_unit h
sort-unit (equation_decl q) s h = absurd h
sort-unit (invariant_decl i) s h = absurd h
sort-unit (marked_decl p) s h = absurd h

pub what-unit : (t : Source) (c : Component) (n : Ident) (e : Entry) (w : What) → IsWhat t c e w → unit_of (Some w) ≡ entry_unit (n, e)
what-unit t c n (declared d) w h = ap (λ v. unit_of (Some v)) h.1 ∙ sort-unit d h.0 h.2
what-unit t c n (literal k ls) w h = ap (λ v. unit_of (Some v)) h
what-unit t c n (location k) w h = ap (λ v. unit_of (Some v)) h
what-unit t c n (inner m b) w h = ap (λ v. unit_of (Some v)) h.1
what-unit t c n (definition m ps b) w h = ap (λ v. unit_of (Some v)) h.1
what-unit t c n (instance i) w h = ap (λ v. unit_of (Some v)) h.1
what-unit t c n (parameter k p) w h = ap (λ v. unit_of (Some v)) h

names-unit : (t : Source) (c : Component) (es : Entries) (ns : List ScopeName) (j : ℕ) → Beside (IsName t c) es ns → unit_of (option_map (λ (n : ScopeName). n.what) (slice_get ns j)) ≡ unit_at es j
names-unit t c [] [] j h = refl
names-unit t c [] (n ∷ ns) j h = absurd h
names-unit t c (e ∷ es) [] j h = absurd h
names-unit t c (e ∷ es) (n ∷ ns) zero h = what-unit t c e.0 e.1 n.what h.0.1
names-unit t c (e ∷ es) (n ∷ ns) (suc j) h = names-unit t c es ns j h.1

row-length : (s : Scopes) (k more n : ℕ) → length (row_to s k more n) ≡ n
row-length s k more zero = refl
row-length s k more (suc n) = length-push (row_to s k more n) (more + count_to s k n) ∙ ap suc (row-length s k more n)

row-at : (s : Scopes) (k more n j : ℕ) → j < n → slice_get (row_to s k more n) j ≡ Some (more + count_to s k j)
row-at s k more zero j l = absurd (omega arith)
row-at s k more (suc n) j l = elim (same-or-other j n) [
  | inl e ↦ subst (λ i. slice_get (row_to s k more n ++ (more + count_to s k n) ∷ []) i ≡ Some (more + count_to s k i)) (sym e) (get-pushed (row_to s k more n) (more + count_to s k n) n (row-length s k more n))
  | inr e ↦
      let less : j < n = below-other j n l e in
      let inside : j < length (row_to s k more n) = let long = row-length s k more n in omega arith in
      get-front (row_to s k more n) ((more + count_to s k n) ∷ []) j inside ∙ row-at s k more n j less
]

module _ (s : Scopes) (used : List Bool) where
  abbrev row_for : ℕ → List ℕ
  row_for n = row_to s n (total_to s used n) (length (names_at s.table n))

  rows-length : (n : ℕ) → length (rows_to s used n) ≡ n
  rows-length zero = refl
  rows-length (suc n) = length-push (rows_to s used n) (row_for n) ∙ ap suc (rows-length n)

  rows-at : (n k : ℕ) → k < n → slice_get (rows_to s used n) k ≡ Some (row_for k)
  rows-at zero k l = absurd (omega arith)
  rows-at (suc n) k l = elim (same-or-other k n) [
    | inl e ↦ subst (λ i. slice_get (rows_to s used n ++ row_for n ∷ []) i ≡ Some (row_for i)) (sym e) (get-pushed (rows_to s used n) (row_for n) n (rows-length n))
    | inr e ↦
        let less : k < n = below-other k n l e in
        let inside : k < length (rows_to s used n) = let long = rows-length n in omega arith in
        get-front (rows_to s used n) (row_for n ∷ []) k inside ∙ rows-at n k less
  ]

-- ---- all bodies

module _ (t : Source) (s : Scopes) (used : List Bool) (are : IsMarked t s used) where
  names-are : (k : ℕ) (c : Component) → IsBody t k c → Beside (IsName t c) (scope_of c) (names_at s.table k)
  names-are k c own = let r = row-of t s.table.scopes are.numbers.table k c own in subst (λ o. Beside (IsName t c) (scope_of c) (names_in o)) (sym r.1) r.2.names

  count-is : (k : ℕ) (c : Component) → IsBody t k c → (j : ℕ) → count_to s k j ≡ before (scope_of c) j
  count-is k c own zero = sym (before-first (scope_of c))
  count-is k c own (suc j) =
      let a : count_to s k j ≡ before (scope_of c) j = count-is k c own j in
      let b : unit_of (what_at s.table k j) ≡ unit_at (scope_of c) j = names-unit t c (scope_of c) (names_at s.table k) j (names-are k c own) in
      let d : before (scope_of c) (suc j) ≡ before (scope_of c) j + unit_at (scope_of c) j = before-next (scope_of c) j in
      omega arith

  pub body-count : (k : ℕ) (c : Component) → IsBody t k c → body_count s k ≡ length (flat_map (decl_nodes k) (decls_in (body_of c)))
  body-count k c own =
      ap (count_to s k) (beside-length (IsName t c) (scope_of c) (names_at s.table k) (names-are k c own)) ∙ count-is k c own (length (scope_of c))
      ∙ sym (nodes-length k (scope_of c)) ∙ ap length (nodes-of k c)

  abbrev ws : List WrittenBody
  ws = written_bodies t

  bodies-long : length ws ≡ length (bodies t)
  bodies-long = beside-length IsWritten (bodies t) ws (bodies-written t)

  written-at : (k : ℕ) (c : Component) → IsBody t k c → (w : WrittenBody) × (slice_get ws k ≡ Some w) × IsWritten c w
  written-at k c own = beside-at IsWritten (bodies t) ws k c (bodies-written t) own

  split-off : (vs : List WrittenBody) (k : ℕ) (w : WrittenBody) → slice_get vs k ≡ Some w → drop k vs ≡ w ∷ drop (suc k) vs
  split-off [] k w h = absurd (none-some w h)
  split-off (v ∷ vs) zero w h = ap (λ x. x ∷ vs) (some-same v w h)
  split-off (v ∷ vs) (suc k) w h = split-off vs k w h

  abbrev own_nodes : ℕ → WrittenBody → List Node
  own_nodes k w = flat_map (decl_nodes k) (decls_in w.body)

  abbrev nodes_if : Bool → ℕ → WrittenBody → List Node
  nodes_if b k w = nodes_in (if_used b k w)

  if-count : (b : Bool) (k : ℕ) (w : WrittenBody) → length (nodes_if b k w) ≡ count_if b (length (own_nodes k w))
  if-count true k w = ap length (append-nil (own_nodes k w))
  if-count false k w = refl

  -- those of the bodies from body k on
  abbrev rest_from : ℕ → List WrittenBody → List Node
  rest_from k vs = nodes_in (used_from used k vs)

  abbrev pub nodes : List Node
  nodes = rest_from 0 ws

  split-nodes : (k : ℕ) (w : WrittenBody) → slice_get ws k ≡ Some w → rest_from k (drop k ws) ≡ nodes_if (is_used used k) k w ++ rest_from (suc k) (drop (suc k) ws)
  split-nodes k w h =
      ap (rest_from k) (split-off ws k w h)
      ∙ flat_map-append body_nodes (if_used (is_used used k) k w) (used_from used (k + 1) (drop (suc k) ws))
      ∙ ap (λ i. nodes_if (is_used used k) k w ++ rest_from i (drop (suc k) ws)) (add-one k)

  -- the constants before body k
  fronts : (k : ℕ) → k ≤ length ws → (front : List Node) × (nodes ≡ front ++ rest_from k (drop k ws)) × (length front ≡ total_to s used k)
  fronts zero l = ([], refl, refl)
  fronts (suc k) l =
      let less : k ≤ length ws = omega arith in
      let below : k < length (bodies t) = let e = bodies-long in omega arith in
      let c = at-below (bodies t) k below in
      let w = written-at k c.0 c.1 in
      let f = fronts k less in
      let more : List Node = nodes_if (is_used used k) k w.0 in
      let count : body_count s k ≡ length (own_nodes k w.0) = body-count k c.0 c.1 ∙ ap (λ b. length (flat_map (decl_nodes k) (decls_in b))) w.2.1 in
      let long : length more ≡ count_if (is_used used k) (body_count s k) = if-count (is_used used k) k w.0 ∙ ap (count_if (is_used used k)) (sym count) in
      let total : length (f.0 ++ more) ≡ total_to s used k + count_if (is_used used k) (body_count s k) = length-append (f.0) more ∙ (λ i. f.2 i + long i) in (
        f.0 ++ more,
        f.1 ∙ ap (λ l. f.0 ++ l) (split-nodes k w.0 w.1) ∙ sym (append_assoc f.0 more (rest_from (suc k) (drop (suc k) ws))),
        total,
      )

  pub nodes-count : length nodes ≡ total_to s used (length ws)
  nodes-count =
      let all : length ws ≤ length ws = omega arith in
      let f = fronts (length ws) all in
      ap length (f.1 ∙ ap (λ vs. f.0 ++ rest_from (length ws) vs) (drop-length ws) ∙ append-nil f.0) ∙ f.2

  -- what stands at the number of a constant
  pub node-of : (k : ℕ) (c : Component) (j : ℕ) (m : Ident) (ty : TypeTree) (n : Ident) (e : Tree) → is_used used k ≡ true → IsBody t k c → slice_get (scope_of c) j ≡ Some (m, declared (const_decl ty n e))
      → slice_get nodes (number_at (numbers_of s used) k j) ≡ Some (record { body = k; decl = const_decl ty n e; value = e })
  node-of k c j m ty n e marked own at =
      let below : k < length (bodies t) = slice_get-below (bodies t) k c own in
      let inside : k < length s.table.scopes = let long = beside-length (IsScope t) (bodies t) s.table.scopes are.numbers.table in omega arith in
      let slot : j < length (names_at s.table k) = let long = beside-length (IsName t c) (scope_of c) (names_at s.table k) (names-are k c own) in let l = slice_get-below (scope_of c) j (m, declared (const_decl ty n e)) at in omega (arith, long, l) in
      let number : number_at (numbers_of s used) k j ≡ total_to s used k + before (scope_of c) j =
      ap (λ o. number_in o j) (rows-at s used (length s.table.scopes) k inside) ∙ ap or_zero (row-at s k (total_to s used k) (length (names_at s.table k)) j slot) ∙ ap (λ i. total_to s used k + i) (count-is k c own j) in
      let most : k ≤ length ws = let long = bodies-long in omega arith in
      let f = fronts k most in
      let w = written-at k c own in
      let rest : List Node = rest_from (suc k) (drop (suc k) ws) in
      let own_is : scope_nodes k (scope_of c) ≡ own_nodes k w.0 = nodes-of k c ∙ ap (λ b. flat_map (decl_nodes k) (decls_in b)) w.2.1 in
      let here : slice_get (own_nodes k w.0) (before (scope_of c) j) ≡ Some (record { body = k; decl = const_decl ty n e; value = e }) = ap (λ (l : List Node). slice_get l (before (scope_of c) j)) (sym own_is) ∙ node-at k (scope_of c) j m ty n e at in
      let past : total_to s used k + before (scope_of c) j ≡ length f.0 + before (scope_of c) j = ap (λ i. i + before (scope_of c) j) (sym f.2) in
      ap (slice_get nodes) number
      ∙ ap (λ (l : List Node). slice_get l (total_to s used k + before (scope_of c) j)) (f.1 ∙ ap (λ l. f.0 ++ l) (split-nodes k w.0 w.1))
      ∙ get-past f.0 (nodes_if (is_used used k) k w.0 ++ rest) (total_to s used k + before (scope_of c) j) (before (scope_of c) j) past
      ∙ ap (λ (l : List Node). slice_get (l ++ rest) (before (scope_of c) j)) (ap (λ b. nodes_if b k w.0) marked ∙ append-nil (own_nodes k w.0))
      ∙ get-front (own_nodes k w.0) rest (before (scope_of c) j) (slice_get-below (own_nodes k w.0) (before (scope_of c) j) (record { body = k; decl = const_decl ty n e; value = e }) here)
      ∙ here
