-- What names reach from a listed component: places in listed components, whose declarations are declared there.
use Rattle.std.proofs.Common.{◌≡◌, ℕ, ◌≤◌, inl, inr, List, [], ◌∷◌, length, map, Some, None, refl, sym, ◌∙◌, ap, subst}
use Rattle.std.specs.Prelude.{option_map, flat_map, filter_map}
use Rattle.std.specs.List.{cons_option, enumerate_from}
use Rattle.cif_ast.specs.declared.names.Ident.{Ident}
use Rattle.cif_system.specs.Words.{Member}
use Rattle.cif_system.proofs.Lists.{some-same, none-some}
use Rattle.cif_system.proofs.Picks.{flat_map-member, map-member}
use Rattle.cif_source.specs.Source.{Text, ParamTree, DeclTree, type_decl, enum_decl, event_decl, const_decl, alg_decl, input_decl, disc_decl, equation_decl, invariant_decl, marked_decl, LocationTree, SourceBody, InstanceTree, SourceItem, decl_item, component_item, definition_item, instance_item, group_body, automaton_body, Source, list_of_items}
use Rattle.cif_system.specs.Words.{Before}
use Rattle.cif_source.specs.Components.{Component, stands_in, whole, part, blank, copy, specification_of, body_of, params_of, Entry, Entries, declared, literal, location, inner, definition, instance, parameter, item_entries, body_entries, decl_entries, location_entry, param_name, param_entries, scope_of, entry_named, same_text}
use Rattle.cif_source.specs.Lookup.{ScopeEntry, reached, missing, blocked, at_entry, in_scope, in_body, go_on, or_outward, outward, opened, in_opened, passed, inside}
use Rattle.cif_source.specs.Objects.{components_of, most_objects, declarations, decls_of, decls_in, item_decls}
use Rattle.cif_source.proofs.ComponentLaws.{append-cases, components-follow, head-below}
use Rattle.cif_source.proofs.ReachLaws.{Good, in_scope-in, inside-good, frames-listed, find-entry, reached-same}

-- ---- entries of declarations

abbrev pub IsIn : List DeclTree → Entry → Type 0
IsIn ds (declared d) = Member d ds
IsIn ds _ = Unit {0}

literals-in : (ds : List DeclTree) (ls : List Ident) (xs : List (ℕ × Ident)) (n : Ident) (e : Entry) → Member {A = Ident × Entry} (n, e) (map (λ x. (x.1, literal x.0 ls)) xs) → IsIn ds e
literals-in ds ls [] n e m = absurd m
literals-in ds ls (x ∷ xs) n e m = elim m [ inl w ↦ subst (IsIn ds) (sym (ap (λ y. y.1) w)) tt | inr w ↦ literals-in ds ls xs n e w ]

one-in : (ds : List DeclTree) (d : DeclTree) (k n : Ident) (e : Entry) → Member d ds → Member {A = Ident × Entry} (n, e) ((k, declared d) ∷ []) → IsIn ds e
one-in ds d k n e h m = elim m [ inl w ↦ subst (IsIn ds) (sym (ap (λ y. y.1) w)) h | inr w ↦ absurd w ]

decl-in : (ds : List DeclTree) (d : DeclTree) (n : Ident) (e : Entry) → Member d ds → Member (n, e) (decl_entries d) → IsIn ds e
decl-in ds (type_decl k t) n e h m = one-in ds (type_decl k t) k n e h m
decl-in ds (enum_decl k ls) n e h m =
    elim m [
      | inl w ↦ subst (IsIn ds) (sym (ap (λ y. y.1) w)) h
      | inr w ↦ literals-in ds ls (enumerate_from 0 ls) n e w
    ]
decl-in ds (event_decl c x k) n e h m = one-in ds (event_decl c x k) k n e h m
decl-in ds (const_decl t k v) n e h m = one-in ds (const_decl t k v) k n e h m
decl-in ds (alg_decl t k v) n e h m = one-in ds (alg_decl t k v) k n e h m
decl-in ds (input_decl t k) n e h m = one-in ds (input_decl t k) k n e h m
decl-in ds (disc_decl t k v) n e h m = one-in ds (disc_decl t k v) k n e h m
decl-in ds (equation_decl q) n e h m = absurd m
decl-in ds (invariant_decl i) n e h m = absurd m
decl-in ds (marked_decl p) n e h m = absurd m

pub flat-cases : {A B : Type 0} → (f : A → List B) → (y : B) → (xs : List A) → Member y (flat_map f xs) → (x : A) × Member x xs × Member y (f x)
flat-cases f y [] m = absurd m
flat-cases f y (x ∷ xs) m =
    elim (append-cases y (f x) (flat_map f xs) m) [
      | inl w ↦ (x, inl refl, w)
      | inr w ↦ let rest = flat-cases f y xs w in (rest.0, inr rest.1, rest.2)
    ]

item-in : (is : List SourceItem) (i : SourceItem) (n : Ident) (e : Entry) → Member i is → Member (n, e) (item_entries i) → IsIn (flat_map item_decls is) e
item-in is (decl_item d) n e h m = decl-in (flat_map item_decls is) d n e (flat_map-member item_decls (decl_item d) is d h (inl refl)) m
item-in is (component_item k b) n e h m = elim m [ inl w ↦ subst (IsIn (flat_map item_decls is)) (sym (ap (λ y. y.1) w)) tt | inr w ↦ absurd w ]
item-in is (definition_item k ps b) n e h m = elim m [ inl w ↦ subst (IsIn (flat_map item_decls is)) (sym (ap (λ y. y.1) w)) tt | inr w ↦ absurd w ]
item-in is (instance_item j) n e h m = elim m [ inl w ↦ subst (IsIn (flat_map item_decls is)) (sym (ap (λ y. y.1) w)) tt | inr w ↦ absurd w ]

locations-in : (ds : List DeclTree) (ls : List (ℕ × LocationTree)) (n : Ident) (e : Entry) → Member (n, e) (filter_map location_entry ls) → IsIn ds e
locations-in ds [] n e m = absurd m
locations-in ds ((k, l) ∷ ls) n e m =
    (elim l.name as (λ o. Member (n, e) (cons_option (option_map (λ x. (x, location k)) o) (filter_map location_entry ls)) → IsIn ds e) [
      | None ↦ λ w. locations-in ds ls n e w
      | Some x ↦ λ w. elim w [ inl v ↦ subst (IsIn ds) (sym (ap (λ y. y.1) v)) tt | inr v ↦ locations-in ds ls n e v ]
    ]) m

body-in : (b : SourceBody) (n : Ident) (e : Entry) → Member (n, e) (body_entries b) → IsIn (decls_in b) e
body-in (group_body is) n e m =
    let i = flat-cases item_entries (n, e) (list_of_items is) m in
    item-in (list_of_items is) i.0 n e i.1 i.2
body-in (automaton_body a) n e m =
    elim (append-cases (n, e) (flat_map decl_entries a.decls) (filter_map location_entry (enumerate_from 0 a.locs)) m) [
      | inl w ↦ let d = flat-cases decl_entries (n, e) a.decls w in decl-in a.decls d.0 n e d.1 d.2
      | inr w ↦ locations-in a.decls (enumerate_from 0 a.locs) n e w
    ]

params-in : (ds : List DeclTree) (ps : List (ℕ × ParamTree)) (n : Ident) (e : Entry) → Member {A = Ident × Entry} (n, e) (map (λ x. (param_name x.1, parameter x.0 x.1)) ps) → IsIn ds e
params-in ds [] n e m = absurd m
params-in ds (p ∷ ps) n e m = elim m [ inl w ↦ subst (IsIn ds) (sym (ap (λ y. y.1) w)) tt | inr w ↦ params-in ds ps n e w ]

-- ---- what is found is declared

abbrev pub IsDeclared : ScopeEntry → Type 0
IsDeclared x = IsIn (decls_of x.0) x.1

at-declared : (c : Component) (xs : Entries) → ((n : Ident) (e : Entry) → Member (n, e) xs → IsIn (decls_of c) e) → (s : Text) (x : ScopeEntry) → at_entry c (entry_named s xs) ≡ reached x → IsDeclared x
at-declared c xs all s x h =
    (elim (entry_named s xs) as (λ o. entry_named s xs ≡ o → at_entry c o ≡ reached x → IsDeclared x) [
      | None ↦ λ i g. cc
      | Some e ↦ λ i g. let f = find-entry (λ y. same_text y.0.text s) xs e i in subst IsDeclared (reached-same (c, e) x g) (all f.0 e f.1)
    ]) refl h

in_body-declared : (c : Component) (s : Text) (x : ScopeEntry) → in_body c s ≡ reached x → IsDeclared x
in_body-declared c s x h = at-declared c (body_entries (body_of c)) (body-in (body_of c)) s x h

in_scope-declared : (c : Component) (s : Text) (x : ScopeEntry) → in_scope c s ≡ reached x → IsDeclared x
in_scope-declared c s x h =
    at-declared c (scope_of c)
    (λ n e m. elim (append-cases (n, e) (param_entries (params_of c)) (body_entries (body_of c)) m) [
      | inl w ↦ params-in (decls_of c) (enumerate_from 0 (params_of c)) n e w
      | inr w ↦ body-in (body_of c) n e w
    ]) s x h

or-declared : (c o : Component) → ((s : Text) (x : ScopeEntry) → outward o s ≡ reached x → IsDeclared x) → (s : Text) (x : ScopeEntry) → or_outward (in_scope c s) (outward o s) ≡ reached x → IsDeclared x
or-declared c o up s x h =
    (elim (in_scope c s) as (λ r. in_scope c s ≡ r → or_outward r (outward o s) ≡ reached x → IsDeclared x) [
      | reached z ↦ λ i k. in_scope-declared c s x (i ∙ k)
      | missing ↦ λ i k. up s x k
      | blocked ↦ λ i k. cc
    ]) refl h

outward-declared : (c : Component) (s : Text) (x : ScopeEntry) → outward c s ≡ reached x → IsDeclared x
outward-declared (whole is) s x h = in_scope-declared (whole is) s x h
outward-declared (part o n b) s x h = or-declared (part o n b) o (outward-declared o) s x h
outward-declared (blank o n ps b) s x h = or-declared (blank o n ps b) o (outward-declared o) s x h
outward-declared (copy o n ps b g i) s x h = or-declared (copy o n ps b g i) o (outward-declared o) s x h

passed-declared : (x : ScopeEntry) (s : Text) (y : ScopeEntry) → passed x s ≡ reached y → IsDeclared y
passed-declared (c, inner n b) s y h = in_body-declared (part c n b) s y h
passed-declared (c, instance i) s y h =
    (elim (opened c i) as (λ o. in_opened o s ≡ reached y → IsDeclared y) [
      | None ↦ λ k. cc
      | Some d ↦ λ k. in_body-declared d s y k
    ]) h
passed-declared (c, declared d) s y h = cc
passed-declared (c, literal k ls) s y h = cc
passed-declared (c, location k) s y h = cc
passed-declared (c, definition n qs b) s y h = cc
passed-declared (c, parameter k q) s y h = cc

inside-declared : (x : ScopeEntry) (ps : List Ident) (y : ScopeEntry) → IsDeclared x → inside x ps ≡ reached y → IsDeclared y
inside-declared x [] y d h = subst IsDeclared (reached-same x y h) d
inside-declared x (p ∷ ps) y d h =
    (elim (passed x p.text) as (λ r. passed x p.text ≡ r → go_on (λ z. inside z ps) r ≡ reached y → IsDeclared y) [
      | reached z ↦ λ i k. inside-declared z ps y (passed-declared x p.text z i) k
      | missing ↦ λ i k. cc
      | blocked ↦ λ i k. cc
    ]) refl h

-- ---- from listed components

before-member : {A : Type 0} → (x y : A) → (xs : List A) → Before x y xs → Member x xs
before-member x y [] b = absurd b
before-member x y (z ∷ zs) b = elim b [ inl w ↦ inl w.0 | inr w ↦ inr (before-member x y zs w) ]

module _ (t : Source) (few : length (components_of t) ≤ most_objects) where
  -- the component is listed
  abbrev pub Home : Component → Type 0
  Home c = Member c (components_of t)

  -- the place lies in a listed component and stands there, and a declaration is declared there
  abbrev pub Ok : ScopeEntry → Type 0
  Ok x = Good t few x × IsDeclared x

  pub outward-ok : (c : Component) → Home c → (s : Text) (y : ScopeEntry) → outward c s ≡ reached y → Ok y
  outward-ok c home s y h = ((frames-listed t few c home).1 s y h, outward-declared c s y h)

  pub root-ok : (c : Component) → Home c → (s : Text) (y : ScopeEntry) → in_scope (whole (specification_of c)) s ≡ reached y → Ok y
  root-ok c home s y h =
      let root : specification_of c ≡ t = (frames-listed t few c home).0 in
      let inn = in_scope-in (whole (specification_of c)) s y h in
      let same : y.0 ≡ whole t = inn.0 ∙ ap whole root in
      ((subst (λ d. Member d (components_of t)) (sym same) (head-below most_objects (whole t)), inn.1), in_scope-declared (whole (specification_of c)) s y h)

  pub inside-ok : (x : ScopeEntry) → Ok x → (ps : List Ident) (y : ScopeEntry) → inside x ps ≡ reached y → Ok y
  inside-ok x ok ps y h = (inside-good t few x ps y ok.0 h, inside-declared x ps y ok.1 h)

  pub giver-home : (o g : Component) (n : Ident) (ps : List ParamTree) (b : SourceBody) (i : InstanceTree) (e : Entry) → Ok (copy o n ps b g i, e) → Home g
  giver-home o g n ps b i e ok =
      elim (components-follow t (copy o n ps b g i) ok.0.0) [
        | inl w ↦ absurd (none-some g (sym (ap stands_in w)))
        | inr w ↦ subst (λ d. Member d (components_of t)) (sym (some-same g w.0 w.1)) (before-member w.0 (copy o n ps b g i) (components_of t) w.2)
      ]

  -- what is declared in a listed component is a declaration of the source
  pub declaration-listed : (c : Component) (d : DeclTree) → Home c → Member d (decls_of c) → Member (c, d) (declarations t)
  declaration-listed c d home m = flat_map-member (λ c. map (λ d. (c, d)) (decls_of c)) c (components_of t) (c, d) home (map-member (λ d. (c, d)) d (decls_of c) m)
