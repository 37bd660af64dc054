-- A row is that of a component: its prefix is its path, and what is inside is its body.
use Rattle.std.proofs.Common.{◌≡◌, ℕ, zero, suc, ◌+◌, ◌≤◌, ◌<◌, List, [], ◌∷◌, ◌++◌, length, map, take, Option, Some, None, refl, sym, ◌∙◌, ap, subst, arith, append_assoc}
use Rattle.std.specs.Prelude.{flat_map, slice_get, Result, IfOk}
use Rattle.std.proofs.lemmas.List.{map-append}
use Rattle.cif_ast.specs.declared.names.Ident.{Ident}
use Rattle.cif_system.proofs.Lists.{some-same, none-some, slice_get-below}
use Rattle.cif_source.specs.Source.{Text, Source}
use Rattle.cif_source.specs.Components.{Component, whole, part, blank, copy, as_written, body_of, scope_of, stands_in, Path, path_of, Entry}
use Rattle.cif_source.specs.Objects.{bodies, components_of}
use Rattle.cif_scope.specs.declared.scope.Scope.{Scope}
use Rattle.cif_scope.specs.declared.scope.ScopeName.{ScopeName}
use Rattle.cif_scope.specs.Looks.{names_in, names_at}
use Rattle.cif_scope.specs.Tables.{IsBody, IsScope, IsName}
use Rattle.cif_scope.specs.Written.{WrittenBody, inside_of, body_of_written, written_bodies}
use Rattle.cif_scope.proofs.Places.{beside-at, beside-length}
use Rattle.cif_scope.proofs.BodyLaws.{scope-written}
use Rattle.cif_scope.proofs.LookLaws.{get-map}
use Rattle.cif_scope.proofs.DefinitionLaws.{IsWritten, bodies-written}
use Rattle.cif_inst_components.specs.declared.components.Component.{Component as Numbered}
use Rattle.cif_inst_components.specs.declared.components.Place.{Place}
use Rattle.cif_inst_components.specs.declared.components.Components.{Components}
use Rattle.cif_inst_components.specs.Numbers.{IsNumber, IsComponent, StandsAt, AreComponentsOf}
use Rattle.cif_inst_components.proofs.FindChildren.{row-for, stands-before, standing-back, standing_of}
use Rattle.cif_inst_model.specs.Flat.{dotted}
use Rattle.cif_inst_names.specs.Looking.{component_of}
use Rattle.cif_inst_paths.specs.Rows.{RowTree, inner, prefix_of, row_for, rows_of, body_number, place_of, stands_at, body_or, body_in, AreBodiesOf}
use Rattle.cif_inst_paths.specs.Views.{row_tree}
use Rattle.cif_inst_paths.specs.declared.rows.Bodies.{Bodies}
use Rattle.cif_inst_paths.specs.declared.rows.Row.{Row}
use Rattle.cif_inst_paths.proofs.CalledLaws.{path-standing}
use Rattle.cif_inst_paths.proofs.SoundLaws.{component-is, body-numbered}

-- ---- prefixes

-- each name with a dot behind it
abbrev dots : Path → Text
dots p = flat_map (λ x. x ++ 46 ∷ []) p

append-empty : (xs : Text) → xs ++ [] ≡ xs
append-empty [] = refl
append-empty (y ∷ ys) = ap (λ zs. y ∷ zs) (append-empty ys)

pub dots-step : (p : Path) (x : Text) → dots (p ++ x ∷ []) ≡ (dots p ++ x) ++ 46 ∷ []
dots-step [] x = append-empty (x ++ 46 ∷ [])
dots-step (y ∷ p) x =
    ap (λ z. (y ++ 46 ∷ []) ++ z) (dots-step p x)
    ∙ sym (append_assoc (y ++ 46 ∷ []) (dots p ++ x) (46 ∷ []))
    ∙ ap (λ z. z ++ 46 ∷ []) (sym (append_assoc (y ++ 46 ∷ []) (dots p) x))

pub dots-dotted : (p : Path) (x : Text) → dotted (p ++ x ∷ []) ≡ dots p ++ x
dots-dotted [] x = refl
dots-dotted (y ∷ []) x = sym (append_assoc y (46 ∷ []) x) ∙ ap (λ z. z ++ x) (sym (append-empty (y ++ 46 ∷ [])))
dots-dotted (y ∷ z ∷ p) x =
    ap (λ w. y ++ 46 ∷ w) (dots-dotted (z ∷ p) x)
    ∙ sym (append_assoc y (46 ∷ []) (dots (z ∷ p) ++ x))
    ∙ sym (append_assoc (y ++ 46 ∷ []) (dots (z ∷ p)) x)

-- ---- the first elements of a list

take-next : {A : Type 0} (xs : List A) (k : ℕ) (x : A) → slice_get xs k ≡ Some x → take (k + 1) xs ≡ take k xs ++ x ∷ []
take-next xs k x h = ap (λ j. take j xs) (let e : k + 1 ≡ suc k = omega arith in e) ∙ next xs k h
  where
    next : {A : Type 0} {x : A} (xs : List A) (k : ℕ) → slice_get xs k ≡ Some x → take (suc k) xs ≡ take k xs ++ x ∷ []
    next {x = x} [] k h = absurd (none-some x h)
    next {x = x} (y ∷ xs) zero h = ap (λ z. z ∷ []) (some-same y x h)
    next (y ∷ xs) (suc k) h = ap (λ l. y ∷ l) (next xs k h)

take-past : {A : Type 0} (xs : List A) (k : ℕ) → length xs ≤ k → take k xs ≡ xs
take-past [] zero h = refl
take-past [] (suc k) h = refl
take-past (x ∷ xs) zero h = absurd (omega (arith, h))
take-past (x ∷ xs) (suc k) h = ap (λ l. x ∷ l) (take-past xs k (omega (arith, h)))

-- an early element stands in the beginning
take-early : {A : Type 0} (xs : List A) (k j : ℕ) (x : A) → j < k → slice_get xs j ≡ Some x → slice_get (take k xs) j ≡ Some x
take-early [] k j x l h = absurd (none-some x h)
take-early (y ∷ xs) zero j x l h = absurd (omega (arith, l))
take-early (y ∷ xs) (suc k) zero x l h = h
take-early (y ∷ xs) (suc k) (suc j) x l h = take-early xs k j x (omega (arith, l)) h

get-mapped : {A B : Type 0} (f : A → B) (xs : List A) (k : ℕ) (y : B) → slice_get (map f xs) k ≡ Some y → (x : A) × (slice_get xs k ≡ Some x) × (f x ≡ y)
get-mapped f [] k y h = absurd (none-some y h)
get-mapped f (x ∷ xs) zero y h = (x, refl, some-same (f x) y h)
get-mapped f (x ∷ xs) (suc k) y h = get-mapped f xs k y h

-- ---- components by their numbers

body-written : (c : Component) → body_of (as_written c) ≡ body_of c
body-written (whole is) = refl
body-written (part o n b) = refl
body-written (blank o n ps b) = refl
body-written (copy o n ps b g i) = refl

-- what stands under a name of g
record Stands (t : Source) (b : Bodies) (k : ℕ) (q : Place) : Type 0 where
  giver : Component
  is_number : IsNumber t q.component giver
  before : q.component < k
  scope : Scope
  is_scope : slice_get b.scopes.now.table.scopes (body_number b.components.now.all q.component) ≡ Some scope
  name : ScopeName
  is_name : slice_get scope.names q.slot ≡ Some name
  prefix : prefix_of (component_of t k) ≡ inner (prefix_of giver) name.name

module _ (t : Source) (b : Bodies) (h : AreBodiesOf t b) where
  abbrev all : List Numbered
  all = b.components.now.all

  numbered : (k : ℕ) (c : Component) → IsNumber t k c → (r : Numbered) × (slice_get all k ≡ Some r) × IsComponent t c r
  numbered k c own = row-for t b.scopes.now h.scopes h.components.few all h.components.all k c own

  its-body : (k : ℕ) (c : Component) → IsNumber t k c → IsBody t (body_number all k) (as_written c)
  its-body = body-numbered t all h.components.all

  inside-is : (k : ℕ) (c : Component) → IsNumber t k c → body_in (map body_of_written b.written.now) (body_number all k) ≡ body_of c
  inside-is k c own =
      let w = beside-at IsWritten (bodies t) (written_bodies t) (body_number all k) (as_written c) (bodies-written t) (its-body k c own) in
      ap (λ (ws : List WrittenBody). body_in ws (body_number all k)) h.written ∙ ap body_or w.1 ∙ sym w.2.1 ∙ body-written c

  scope-for : (k : ℕ) (c : Component) → IsNumber t k c → (s : Scope) × (slice_get b.scopes.now.table.scopes (body_number all k) ≡ Some s) × IsScope t (as_written c) s
  scope-for k c own = beside-at (IsScope t) (bodies t) b.scopes.now.table.scopes (body_number all k) (as_written c) h.scopes.numbers.table (its-body k c own)

  -- a component that stands in none is the specification
  root-prefix : (c : Component) → StandsAt t c None → prefix_of c ≡ []
  root-prefix (whole is) s = refl
  root-prefix (part o n x) s = absurd (none-some s.0 s.1)
  root-prefix (blank o n ps x) s = absurd s
  root-prefix (copy o n ps x g i) s = absurd (none-some s.0 s.1)

  parent : (d g : Component) (e : Entry) → standing_of d ≡ Some (g, e) → stands_in d ≡ Some g
  parent (whole is) g e s = absurd (none-some (g, e) s)
  parent (part o n x) g e s = ap (λ (y : Component × Entry). Some y.0) (some-same _ (g, e) s)
  parent (blank o n ps x) g e s = absurd (none-some (g, e) s)
  parent (copy o n ps x q i) g e s = ap (λ (y : Component × Entry). Some y.0) (some-same _ (g, e) s)

  module _ (k : ℕ) (below : k < length (components_of t)) where
    abbrev own : Component
    own = component_of t k

    stands : (q : Place) → StandsAt t own (Some q) → Stands t b k q
    stands q s =
        let x = standing-back t own q s in
        let scope = scope-for q.component x.0 x.3 in
        let names = scope.2.names in
        let n = beside-at (IsName t (as_written x.0)) (scope_of (as_written x.0)) scope.0.names q.slot (x.4.0, x.1) names (ap (λ es. slice_get es q.slot) (scope-written x.0) ∙ x.4.1) in
        record {
          giver = x.0;
          is_number = x.3;
          before = stands-before t b.scopes.now h.scopes h.components.few all h.components.all q.component k x.0 own x.3 (component-is t k below) (parent own x.0 x.1 x.2);
          scope = scope.0;
          is_scope = scope.1;
          name = n.0;
          is_name = n.1;
          prefix =
              ap dots (path-standing own x.0 x.1 x.4.0 q.slot x.2 x.4.1)
              ∙ dots-step (path_of x.0) x.4.0.text
              ∙ ap (λ (m : Ident). inner (prefix_of x.0) m) (sym n.2.0);
        }

    standing : StandsAt t own (stands_at all k)
    standing = let x = numbered k own (component-is t k below) in subst (StandsAt t own) (sym (ap place_of x.1)) x.2.stands

    placed : (q : Place) → stands_at all k ≡ Some q → Stands t b k q
    placed q is = stands q (subst (StandsAt t own) is standing)

    -- the row of the component in which it stands is there, if those before are
    there : (rows : List Row) (q : Place) → map row_tree rows ≡ map row_for (take k (components_of t)) → (s : Stands t b k q) → (r : Row) × (slice_get rows q.component ≡ Some r) × (row_tree r ≡ row_for s.giver)
    there rows q are s =
        let early : slice_get (map row_for (take k (components_of t))) q.component ≡ Some (row_for s.giver) =
        get-map row_for (take k (components_of t)) q.component s.giver (take-early (components_of t) k q.component s.giver s.before s.is_number) in
        get-mapped row_tree rows q.component (row_for s.giver) (ap (λ xs. slice_get xs q.component) are ∙ early)

    pub row_before : (rows : List Row) (q : Place) → map row_tree rows ≡ map row_for (take k (components_of t)) → stands_at all k ≡ Some q → q.component < length rows
    row_before rows q are is = let r = there rows q are (placed q is) in slice_get-below rows q.component r.0 r.1

    pub scope_there : (q : Place) → stands_at all k ≡ Some q → body_number all q.component < length b.scopes.now.table.scopes
    scope_there q is = let s = placed q is in slice_get-below b.scopes.now.table.scopes (body_number all q.component) s.scope s.is_scope

    pub name_there : (q : Place) → stands_at all k ≡ Some q → q.slot < length (names_at b.scopes.now.table (body_number all q.component))
    name_there q is =
        let s = placed q is in
        subst (λ (o : Option Scope). q.slot < length (names_in o)) (sym s.is_scope) (slice_get-below s.scope.names q.slot s.name s.is_name)

    -- the prefix is made from that of the component in which it stands
    pub prefix_told : {E : Type 0} (rows : List Row) (q : Place) (p : Result Text E) → map row_tree rows ≡ map row_for (take k (components_of t)) → stands_at all k ≡ Some q
        → ((x : Row) (n : ScopeName) → slice_get rows q.component ≡ Some x → slice_get (names_at b.scopes.now.table (body_number all q.component)) q.slot ≡ Some n → IfOk p (λ y. y ≡ inner x.prefix n.name))
        → IfOk p (λ y. y ≡ prefix_of own)
    prefix_told rows q p are is made =
        let s = placed q is in
        let row = there rows q are s in
        subst (λ (z : Text). IfOk p (λ y. y ≡ z)) (ap (λ (x : RowTree). inner x.0 s.name.name) row.2 ∙ sym s.prefix)
        (made row.0 s.name row.1 (ap (λ (o : Option Scope). slice_get (names_in o) q.slot) s.is_scope ∙ s.is_name))

    -- and the specification has none
    pub prefix_root : stands_at all k ≡ None → [] ≡ prefix_of own
    prefix_root is = sym (root-prefix own (subst (StandsAt t own) is standing))

    -- one row more
    pub row_pushed : (rows more : List Row) (row : Row) → map row_tree rows ≡ map row_for (take k (components_of t)) → more ≡ rows ++ row ∷ [] → row_tree row ≡ row_for own
        → map row_tree more ≡ map row_for (take (k + 1) (components_of t))
    row_pushed rows more row are pushed is =
        ap (map row_tree) pushed
        ∙ map-append row_tree rows (row ∷ [])
        ∙ (λ i. are i ++ is i ∷ [])
        ∙ sym (ap (map row_for) (take-next (components_of t) k own (component-is t k below)) ∙ map-append row_for (take k (components_of t)) (own ∷ []))

    pub row_made : (row : Row) → row.prefix ≡ prefix_of own → inside_of row.inside ≡ body_in (map body_of_written b.written.now) (body_number all k) → row_tree row ≡ row_for own
    row_made row prefix inside = λ i. (prefix i, (inside ∙ inside-is k own (component-is t k below)) i)

-- ---- all rows

module _ (t : Source) (cs : Components) (are : AreComponentsOf t cs) (n end : ℕ) (counted : n ≡ length cs.all) (ends : end ≡ n) where
  as-many : end ≡ length (components_of t)
  as-many = ends ∙ counted ∙ beside-length (IsComponent t) (components_of t) cs.all are.all

  pub number_below : (k : ℕ) → k < end → k < length (components_of t)
  number_below k below = subst (λ m. k < m) as-many below

  pub rows_whole : (rows : List Row) (k : ℕ) → end ≤ k → map row_tree rows ≡ map row_for (take k (components_of t)) → map row_tree rows ≡ rows_of t
  rows_whole rows k past made = made ∙ ap (map row_for) (take-past (components_of t) k (subst (λ m. m ≤ k) as-many past))
