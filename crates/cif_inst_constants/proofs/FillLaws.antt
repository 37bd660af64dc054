-- The values that constants get one after the other are their values.
use Rattle.std.proofs.Common.{◌≡◌, ◌≢◌, ℕ, zero, suc, ◌<◌, ℤ, Bool, true, false, List, [], ◌∷◌, ◌++◌, append_assoc, length, refl, sym, ap, subst, ◌∙◌, arith, Option, Some, None, inl, inr, append-nil}
use Rattle.std.specs.Prelude.{slice_get, slice_set, Result, Ok, Err}
use Rattle.cif_system.specs.Words.{Member, AreDistinct, Before}
use Rattle.cif_system.proofs.Lists.{some-same, none-some, slice_get-below, map-length}
use Rattle.cif_system.proofs.Picks.{at-member, append-right}
use Rattle.cif_system.proofs.Distinct.{member-append, member-flat_map}
use Rattle.cif_ast.specs.declared.names.Ident.{Ident}
use Rattle.cif_ast.specs.declared.names.Name.{Name}
use Rattle.cif_ast.specs.Tree.{Tree}
use Rattle.cif_source.specs.Source.{DeclTree, type_decl, enum_decl, event_decl, const_decl, alg_decl, input_decl, disc_decl, equation_decl, invariant_decl, marked_decl, TypeTree, Source, tree_at}
use Rattle.cif_source.specs.Components.{Component, as_written, specification_of}
use Rattle.cif_source.specs.Lookup.{found}
use Rattle.cif_source.specs.Objects.{components_of, bodies, decls_in, decls_of, of_sort, is_const}
use Rattle.cif_source.specs.Scoping.{is_wrong}
use Rattle.cif_source.specs.BodyRules.{is_constant}
use Rattle.cif_source.specs.Value.{constant_within, constant}
use Rattle.cif_source.specs.InstanceRules.{is_faulty}
use Rattle.cif_order.specs.Graph.{Needs, IsOrder, IsRank}
use Rattle.cif_order.proofs.Lists.{written-same, written-other}
use Rattle.cif_scope.specs.declared.scopes.Scopes.{Scopes}
use Rattle.cif_scope.specs.Tables.{IsBody}
use Rattle.cif_scope.specs.Written.{written_bodies}
use Rattle.cif_scope.proofs.BodyLaws.{body-root, root-written}
use Rattle.cif_inst_bodies.proofs.Bodies.{components-written}
use Rattle.cif_inst_bodies.proofs.Constants.{constant-same}
use Rattle.cif_inst_constants.specs.Outcomes.{unless_faulty, evaluated, outcome}
use Rattle.cif_inst_constants.specs.Named.{or_zero, value_at, table_value}
use Rattle.cif_inst_constants.specs.Nodes.{Node, decl_nodes, body_nodes, node_needs, node_value, filled_by, filled_at, filled_on, filled}
use Rattle.cif_inst_constants.specs.Used.{used_from}
use Rattle.cif_inst_constants.specs.Constants.{HasValues}
use Rattle.cif_inst_constants.proofs.Meanings.{defined_within, name_within, constant_name}
use Rattle.cif_inst_constants.proofs.ValueLaws.{evaluated-same, name-constant, constant-evaluated}
use Rattle.cif_inst_constants.proofs.UsedLaws.{IsMarked}
use Rattle.cif_inst_constants.proofs.OwnLaws.{own-component}
use Rattle.cif_inst_constants.proofs.FoundLaws.{found-stands, agrees, looks}
use Rattle.cif_inst_constants.proofs.NodeLaws.{nodes}
use Rattle.cif_inst_constants.proofs.CountLaws.{constants-within}
use Rattle.cif_inst_constants.proofs.ReachedLaws.{numbers, followed, IsNode, IsFoundNode, found-value}
use Rattle.cif_inst_constants.proofs.RankLaws.{graph, value-need, node-constant, stable-below}

-- ---- constants are declared in components

-- a constant of a component with this value
pub record IsConstant (t : Source) (x : Node) : Type 0 where
  pub component : Component
  pub listed : Member component (components_of t)
  pub own : IsBody t x.body (as_written component)
  pub ty : TypeTree
  pub name : Ident
  pub is : x.decl ≡ const_decl ty name x.value
  pub declares : Member (const_decl ty name x.value) (decls_of component)

-- the constant whose value stands there is faulty
pub record IsFaultyAt (t : Source) (at : ℕ) : Type 0 where
  pub component : Component
  pub listed : Member component (components_of t)
  pub ty : TypeTree
  pub name : Ident
  pub value : Tree
  pub declares : Member (const_decl ty name value) (decls_of component)
  pub stands : tree_at value ≡ at
  pub faulty : is_faulty (constant component) value ≡ true

abbrev IsDeclNode : ℕ → DeclTree → Node → Type 0
IsDeclNode k d x = (ty : TypeTree) × (n : Ident) × (e : Tree) × (d ≡ const_decl ty n e) × (x ≡ record { body = k; decl = const_decl ty n e; value = e })

decl-node : (k : ℕ) (d : DeclTree) (x : Node) → Member x (decl_nodes k d) → IsDeclNode k d x
decl-node k (const_decl ty n e) x m = elim m [ inl h ↦ (ty, n, e, refl, h) | inr h ↦ absurd h ]
decl-node k (type_decl n ty) x m = absurd m
decl-node k (enum_decl n ls) x m = absurd m
decl-node k (event_decl c h n) x m = absurd m
decl-node k (alg_decl ty n e) x m = absurd m
decl-node k (input_decl ty n) x m = absurd m
decl-node k (disc_decl ty n e) x m = absurd m
decl-node k (equation_decl q) x m = absurd m
decl-node k (invariant_decl i) x m = absurd m
decl-node k (marked_decl p) x m = absurd m

pub nodes-sound : (t : Source) (s : Scopes) (used : List Bool) (are : IsMarked t s used) (x : Node) → Member x (nodes t s used are) → IsConstant t x
nodes-sound t s used are x m =
    let b = member-flat_map body_nodes x (used_from used 0 (written_bodies t)) m in
    let c = own-component t s used are b.0 b.1 in
    let d = member-flat_map (decl_nodes b.0.number) x (decls_in b.0.written.body) b.2 in
    let n = decl-node b.0.number d.0 x d.2 in
    let value : x.value ≡ n.2 = ap (λ (y : Node). y.value) n.4 in
    let inside : Member (const_decl n.0 n.1 n.2) (decls_of c.component) = subst (λ e. Member (const_decl n.0 n.1 n.2) (decls_in e)) (sym c.body) (subst (λ y. Member y (decls_in b.0.written.body)) n.3 d.1) in
    record {
      component = c.component;
      listed = c.listed;
      own = subst (λ i. IsBody t i (as_written c.component)) (sym (ap (λ (y : Node). y.body) n.4)) c.own;
      ty = n.0;
      name = n.1;
      is = ap (λ (y : Node). y.decl) n.4 ∙ ap (const_decl n.0 n.1) (sym value);
      declares = subst (λ v. Member (const_decl n.0 n.1 v) (decls_of c.component)) (sym value) inside;
    }

-- ---- orders

before-later : (l m : ℕ) (xs : List ℕ) → Before l m xs → Member m xs
before-later l m [] b = absurd b
before-later l m (x ∷ xs) b = elim b [ inl h ↦ inr h.1 | inr h ↦ inr (before-later l m xs h) ]

before-front : (l m : ℕ) (front ms : List ℕ) → AreDistinct (front ++ m ∷ ms) → Before l m (front ++ m ∷ ms) → Member l front
before-front l m [] ms d b = elim b [ inl h ↦ absurd (d.0 h.1) | inr h ↦ absurd (d.0 (before-later l m ms h)) ]
before-front l m (z ∷ zs) ms d b = elim b [ inl h ↦ inl h.0 | inr h ↦ inr (before-front l m zs ms d.1 h) ]

front-other : (l m : ℕ) (front ms : List ℕ) → AreDistinct (front ++ m ∷ ms) → Member l front → l ≢ m
front-other l m [] ms d g e = absurd g
front-other l m (z ∷ zs) ms d g e = elim g [
  | inl h ↦ d.0 (subst (λ i. Member i (zs ++ m ∷ ms)) (sym e ∙ h) (append-right m zs (m ∷ ms) (inl refl)))
  | inr h ↦ front-other l m zs ms d.1 h e
]

set-length : {A : Type 0} (xs : List A) (k : ℕ) (x : A) → length (slice_set xs k x) ≡ length xs
set-length [] k x = refl
set-length (y ∷ xs) zero x = refl
set-length (y ∷ xs) (suc k) x = ap suc (set-length xs k x)

-- ---- one after the other

module _ (t : Source) (s : Scopes) (used : List Bool) (are : IsMarked t s used) (order : List ℕ) (is : IsOrder (graph t s used are) order) (rank : ℕ → ℕ) (ranked : IsRank (graph t s used are) rank) where
  abbrev pub all_nodes : List Node
  all_nodes = nodes t s used are

  abbrev pub its_numbers : List (List ℕ)
  its_numbers = numbers t s used are

  abbrev pub count : ℕ
  count = length (of_sort is_const t)

  graph-long : length (graph t s used are) ≡ length all_nodes
  graph-long = map-length (node_needs s its_numbers) all_nodes

  -- constant m has its value
  abbrev pub IsDone : List ℤ → ℕ → Type 0
  IsDone vs m = (k : ℕ) (d : Component) (ty : TypeTree) (n : Ident) (e : Tree) → IsNode t s used are m k d ty n e → value_at vs m ≡ constant_within count d e

  node-below : (m k : ℕ) (d : Component) (ty : TypeTree) (n : Ident) (e : Tree) → IsNode t s used are m k d ty n e → rank m < count
  node-below m k d ty n e h =
      let below : m < length all_nodes = slice_get-below all_nodes m (record { body = k; decl = const_decl ty n e; value = e }) h.at in
      let inside : m < length (graph t s used are) = let long = graph-long in omega (arith, below, long) in
      let within = constants-within t s used are in
      let long = graph-long in
      omega (arith, ranked.within m inside, long, within)

  root-is : (k : ℕ) (c : Component) → IsBody t k (as_written c) → specification_of c ≡ t
  root-is k c own = sym (root-written c) ∙ body-root t s.table.scopes are.numbers.table (as_written c) k own

  name-done : (vs : List ℤ) (k : ℕ) (c : Component) → Member c (components_of t) → IsBody t k (as_written c) → (nm : Name) → is_wrong is_constant (found c nm) ≡ false
      → ((m k2 : ℕ) (d : Component) (ty : TypeTree) (n : Ident) (e : Tree) → IsFoundNode t s used are (looks t s are.numbers k nm) m d ty n e → IsDone vs m)
      → table_value s its_numbers vs k nm ≡ constant_name c nm
  name-done vs k c listed own nm right done =
      found-value t s used are (defined_within count) vs (found c nm) (looks t s are.numbers k nm) right (found-stands t are.few c listed nm) (agrees t s are.numbers k c own nm)
      (λ m d ty n e at node. done m node.0 d ty n e node node.0 d ty n e node.2 ∙ stable-below t s used are rank ranked count m node.0 d ty n e node.2 (node-below m node.0 d ty n e node.2))
      ∙ sym (followed (defined_within count) c nm right)
      ∙ ap (λ u. name_within (length (of_sort is_const u)) c nm) (sym (root-is k c own))

  node-outcome : (vs : List ℤ) (m k : ℕ) (d : Component) (ty : TypeTree) (n : Ident) (e : Tree) → IsNode t s used are m k d ty n e → ((l : ℕ) → Needs (graph t s used are) m l → IsDone vs l)
      → evaluated (table_value s its_numbers vs k) e ≡ outcome d e
  node-outcome vs m k d ty n e h done =
      evaluated-same (table_value s its_numbers vs k) (constant_name d) e
      (λ nm member. name-done vs k d h.listed h.own nm (node-constant t s used are m k d ty n e h nm member) (λ l i c x y z node. done l (value-need t s used are m k l d ty n e nm h member node.1)))
      ∙ constant-evaluated d e

  constant-count : (k : ℕ) (d : Component) (e : Tree) → IsBody t k (as_written d) → constant_within count d e ≡ constant d e
  constant-count k d e own = ap (λ u. constant_within (length (of_sort is_const u)) d e) (sym (root-is k d own))

  abbrev pub Answer : Result (List ℤ) ℕ → Type 0
  Answer (Ok out) = (m : ℕ) → m < length all_nodes → IsDone out m
  Answer (Err at) = IsFaultyAt t at

  abbrev pub AreDone : List ℤ → List ℕ → Type 0
  AreDone vs ms = (m : ℕ) → Member m ms → IsDone vs m

  done-more : (vs : List ℤ) (front : List ℕ) (m : ℕ) → AreDone vs front → IsDone vs m → AreDone vs (front ++ m ∷ [])
  done-more vs front m h g l member = elim (member-append l front (m ∷ []) member) [
    | inl i ↦ h l i
    | inr i ↦ elim i [ inl e ↦ subst (λ j. IsDone vs j) (sym e) g | inr f ↦ absurd f ]
  ]

  set-done : (vs : List ℤ) (front ms : List ℕ) (m k : ℕ) (d : Component) (ty : TypeTree) (n : Ident) (e : Tree) → order ≡ front ++ m ∷ ms → length vs ≡ length all_nodes → AreDone vs front → IsNode t s used are m k d ty n e
      → AreDone (slice_set vs m (constant d e)) (front ++ m ∷ [])
  set-done vs front ms m k d ty n e o long done h =
      done-more (slice_set vs m (constant d e)) front m
      (λ l member i c x y z g. ap or_zero (written-other vs m l (constant d e) (front-other l m front ms (subst (λ (ns : List ℕ). AreDistinct ns) o is.once) member)) ∙ done l member i c x y z g)
      (λ i c x y z g.
      let below : m < length vs = omega (arith, long, slice_get-below all_nodes m (record { body = k; decl = const_decl ty n e; value = e }) h.at) in
      let same : record { body = k; decl = const_decl ty n e; value = e } ≡ record { body = i; decl = const_decl x y z; value = z } = some-same (record { body = k; decl = const_decl ty n e; value = e }) (record { body = i; decl = const_decl x y z; value = z }) (sym h.at ∙ g.at) in
      let body : k ≡ i = ap (λ (u : Node). u.body) same in
      let value : e ≡ z = ap (λ (u : Node). u.value) same in
      let alike : as_written d ≡ as_written c = some-same (as_written d) (as_written c) (sym h.own ∙ ap (slice_get (bodies t)) body ∙ g.own) in
      ap or_zero (written-same vs m (constant d e) below)
      ∙ constant-same t are.constancy d c alike (components-written t d h.listed) e (node-constant t s used are m k d ty n e h)
      ∙ ap (constant c) value ∙ sym (constant-count i c z g.own))

  abbrev node_by : ℕ → Option Node
  node_by m = slice_get all_nodes m

  abbrev all_filled : List ℤ → List ℕ → Result (List ℤ) ℕ
  all_filled vs ms = filled s its_numbers node_by vs ms

  -- what follows, where the constants so far are done
  abbrev Goes : List ℕ → List ℕ → Type 0
  Goes front ms = (us : List ℤ) → length us ≡ length all_nodes → AreDone us front → Answer (all_filled us ms)

  node-answer : (m : ℕ) (ms front : List ℕ) (vs : List ℤ) (x : Node) (c : IsConstant t x) → order ≡ front ++ m ∷ ms → length vs ≡ length all_nodes → AreDone vs front → Goes (front ++ m ∷ []) ms → IsNode t s used are m x.body c.component c.ty c.name x.value
      → (p : Option ℤ) → p ≡ outcome c.component x.value → Answer (filled_on (filled_by x vs m p) (λ us. all_filled us ms))
  node-answer m ms front vs x c o long done more h p e =
      (elim (is_faulty (constant c.component) x.value) as (λ b. is_faulty (constant c.component) x.value ≡ b → p ≡ unless_faulty b (constant c.component x.value) → Answer (filled_on (filled_by x vs m p) (λ us. all_filled us ms))) [
        | true ↦ λ f told. subst (λ (q : Option ℤ). Answer (filled_on (filled_by x vs m q) (λ us. all_filled us ms))) (sym told) (record {
          component = c.component;
          listed = c.listed;
          ty = c.ty;
          name = c.name;
          value = x.value;
          declares = c.declares;
          stands = refl;
          faulty = f;
        })
        | false ↦ λ f told. subst (λ (q : Option ℤ). Answer (filled_on (filled_by x vs m q) (λ us. all_filled us ms))) (sym told)
            (more (slice_set vs m (constant c.component x.value)) (set-length vs m (constant c.component x.value) ∙ long)
            (set-done vs front ms m x.body c.component c.ty c.name x.value o long done h))
      ]) refl e

  step-at : (m : ℕ) (ms front : List ℕ) (vs : List ℤ) → order ≡ front ++ m ∷ ms → length vs ≡ length all_nodes → AreDone vs front → Goes (front ++ m ∷ []) ms
      → (q : Option Node) → slice_get all_nodes m ≡ q → Answer (filled_on (filled_at s its_numbers vs m q) (λ us. all_filled us ms))
  step-at m ms front vs o long done more None h = more vs long (done-more vs front m done (λ k d ty n e g. absurd (none-some (record { body = k; decl = const_decl ty n e; value = e }) (sym h ∙ g.at))))
  step-at m ms front vs o long done more (Some x) h =
      let c = nodes-sound t s used are x (at-member all_nodes m x h) in
      let at : IsNode t s used are m x.body c.component c.ty c.name x.value =
      record {
        listed = c.listed;
        own = c.own;
        declares = c.declares;
        at = h ∙ ap (λ d. Some (record { body = x.body; decl = d; value = x.value })) c.is;
      } in
      node-answer m ms front vs x c o long done more at (node_value s its_numbers vs x)
      (node-outcome vs m x.body c.component c.ty c.name x.value at
      (λ l need. done l (before-front l m front ms (subst (λ (ns : List ℕ). AreDistinct ns) o is.once) (subst (λ (ns : List ℕ). Before l m ns) o (is.after m l need)))))

  pub fill-is : (rest front : List ℕ) (vs : List ℤ) → order ≡ front ++ rest → length vs ≡ length all_nodes → AreDone vs front → Answer (all_filled vs rest)
  fill-is [] front vs o long done = λ m below. done m (subst (λ (ns : List ℕ). Member m ns) (o ∙ append-nil front) (is.each m (let l = graph-long in omega (arith, below, l))))
  fill-is (m ∷ ms) front vs o long done = step-at m ms front vs o long done (λ us l d. fill-is ms (front ++ m ∷ []) us (o ∙ sym (append_assoc front (m ∷ []) ms)) l d) (slice_get all_nodes m) refl

  pub has-values : (out : List ℤ) → ((m : ℕ) → m < length all_nodes → IsDone out m) → HasValues t s its_numbers out
  has-values out done k c listed own nm right =
      name-done out k c listed own nm right (λ m i d ty n e found. done m (slice_get-below all_nodes m (record { body = found.0; decl = const_decl ty n e; value = e }) found.2.at))
      ∙ sym (name-constant c nm)
