-- What stands in a component is what stands in its body by numbers.
use Rattle.std.proofs.Common.{◌≡◌, ℕ, zero, suc, ◌+◌, ◌<◌, ◌≤◌, List, [], ◌∷◌, ◌++◌, length, take, refl, sym, ap, ◌∙◌, subst, arith, ◌⊎◌, length-append, Option, Some, None, inl, inr}
use Rattle.std.specs.Prelude.{map, flat_map, filter_map, option_map, slice_get, unwrap_or}
use Rattle.std.specs.List.{cons_option, enumerate_from}
use Rattle.std.specs.Option.{option_to_list}
use Rattle.std.proofs.lemmas.Bool.{cases_lt}
use Rattle.std.proofs.lemmas.List.{take_all}
use Rattle.std.proofs.lemmas.Option.{slice_get_cases}
use Rattle.std.proofs.lemmas.List.Elements.{filter_map-append}
use Rattle.cif_ast.specs.declared.names.Ident.{Ident}
use Rattle.cif_system.proofs.Lists.{some-same, none-some, slice_get-below}
use Rattle.cif_source.specs.Source.{LocationTree, DeclTree, type_decl, enum_decl, event_decl, const_decl, alg_decl, input_decl, disc_decl, equation_decl, invariant_decl, marked_decl, ParamTree, InstanceTree, SourceItem, decl_item, component_item, definition_item, instance_item, SourceBody, group_body, automaton_body, Source, list_of_items}
use Rattle.cif_source.specs.Components.{Component, part, as_written, body_of, params_of, scope_of, body_entries, param_entries, item_entries, decl_entries, location_entry, param_name, Entry, declared, literal, location, inner, definition, instance, parameter}
use Rattle.cif_source.specs.Lookup.{opened, definition_found}
use Rattle.cif_source.specs.Objects.{bodies, children, child_of, items_in}
use Rattle.cif_source.specs.Scoping.{instances_of}
use Rattle.cif_scope.specs.declared.scope.What.{What}
use Rattle.cif_scope.specs.declared.scopes.Scopes.{Scopes}
use Rattle.cif_scope.specs.Tables.{IsBody, Beside, IsWhat, IsName}
use Rattle.cif_scope.specs.Looks.{names_in, names_at, definition_at, definition_in}
use Rattle.cif_scope.specs.Scopes.{Defines, IsDefinitionOf, IsEntry, AreNumbered}
use Rattle.cif_scope.proofs.Places.{beside-at, beside-append, beside-length, sits-left, sits-right, sits-whole}
use Rattle.cif_scope.proofs.BodyLaws.{row-of, scope-written}
use Rattle.cif_scope.proofs.WrittenLaws.{written, definition-written}
use Rattle.cif_scope.proofs.FindLaws.{what-of, MayOpen, opens}
use Rattle.cif_inst_components.specs.declared.kids.Kid.{Kid}
use Rattle.cif_inst_components.specs.Kids.{kid_body, kid_at, kids_to, kids_of, all_to, all_kids, kids_in}
use Rattle.cif_inst_components.specs.Listing.{place}
use Rattle.cif_inst_components.specs.Numbers.{IsNumber, StandsAt}

-- ---- the children of a component are those of its entries

-- what an entry stands for, if that is a component
abbrev pub standing : Component → Entry → Option Component
standing c (inner n b) = Some (part c n b)
standing c (instance i) = opened c i
standing c (declared d) = None
standing c (literal k ls) = None
standing c (location k) = None
standing c (definition n ps b) = None
standing c (parameter k p) = None

abbrev pub standing_at : Component → Ident × Entry → Option Component
standing_at c x = standing c x.1

literals-none : (c : Component) (all : List Ident) (k : ℕ) (ls : List Ident) → filter_map (standing_at c) (map (λ x. (x.1, literal x.0 all)) (enumerate_from k ls)) ≡ []
literals-none c all k [] = refl
literals-none c all k (l ∷ ls) = literals-none c all (k + 1) ls

decl-none : (c : Component) (d : DeclTree) → filter_map (standing_at c) (decl_entries d) ≡ []
decl-none c (type_decl n ty) = refl
decl-none c (enum_decl n ls) = literals-none c ls 0 ls
decl-none c (event_decl k h n) = refl
decl-none c (const_decl ty n e) = refl
decl-none c (alg_decl ty n e) = refl
decl-none c (input_decl ty n) = refl
decl-none c (disc_decl ty n e) = refl
decl-none c (equation_decl q) = refl
decl-none c (invariant_decl i) = refl
decl-none c (marked_decl p) = refl

decls-none : (c : Component) (ds : List DeclTree) → filter_map (standing_at c) (flat_map decl_entries ds) ≡ []
decls-none c [] = refl
decls-none c (d ∷ ds) =
    filter_map-append (standing_at c) (decl_entries d) (flat_map decl_entries ds)
    ∙ ap (λ xs. xs ++ filter_map (standing_at c) (flat_map decl_entries ds)) (decl-none c d) ∙ decls-none c ds

locations-none : (c : Component) (k : ℕ) (ls : List LocationTree) → filter_map (standing_at c) (filter_map location_entry (enumerate_from k ls)) ≡ []
locations-none c k [] = refl
locations-none c k (l ∷ ls) =
    elim l.name as (λ o. filter_map (standing_at c) (filter_map location_entry ((k, record l { name = o }) ∷ enumerate_from (k + 1) ls)) ≡ []) [
      | None ↦ locations-none c (k + 1) ls
      | Some n ↦ locations-none c (k + 1) ls
    ]

params-none : (c : Component) (k : ℕ) (ps : List ParamTree) → filter_map (standing_at c) (map (λ x. (param_name x.1, parameter x.0 x.1)) (enumerate_from k ps)) ≡ []
params-none c k [] = refl
params-none c k (p ∷ ps) = params-none c (k + 1) ps

automaton-none : (c : Component) (ds : List DeclTree) (ls : List LocationTree) → filter_map (standing_at c) (flat_map decl_entries ds ++ filter_map location_entry (enumerate_from 0 ls)) ≡ []
automaton-none c ds ls =
    filter_map-append (standing_at c) (flat_map decl_entries ds) (filter_map location_entry (enumerate_from 0 ls))
    ∙ ap (λ xs. xs ++ filter_map (standing_at c) (filter_map location_entry (enumerate_from 0 ls))) (decls-none c ds) ∙ locations-none c 0 ls

cons-front : {A : Type 0} (o : Option A) (xs : List A) → cons_option o [] ++ xs ≡ cons_option o xs
cons-front None xs = refl
cons-front (Some x) xs = refl

item-standing : (c : Component) (i : SourceItem) → filter_map (standing_at c) (item_entries i) ≡ cons_option (child_of c i) []
item-standing c (decl_item d) = decl-none c d
item-standing c (component_item n b) = refl
item-standing c (definition_item n ps b) = refl
item-standing c (instance_item i) = refl

items-standing : (c : Component) (is : List SourceItem) → filter_map (standing_at c) (flat_map item_entries is) ≡ filter_map (child_of c) is
items-standing c [] = refl
items-standing c (i ∷ is) =
    filter_map-append (standing_at c) (item_entries i) (flat_map item_entries is)
    ∙ ap (λ xs. xs ++ filter_map (standing_at c) (flat_map item_entries is)) (item-standing c i)
    ∙ cons-front (child_of c i) (filter_map (standing_at c) (flat_map item_entries is))
    ∙ ap (cons_option (child_of c i)) (items-standing c is)

body-standing : (c : Component) (b : SourceBody) → filter_map (standing_at c) (body_entries b) ≡ filter_map (child_of c) (items_in b)
body-standing c (group_body is) = items-standing c (list_of_items is)
body-standing c (automaton_body a) = automaton-none c a.decls a.locs

children-are : (c : Component) → filter_map (standing_at c) (scope_of c) ≡ children c
children-are c =
    filter_map-append (standing_at c) (param_entries (params_of c)) (body_entries (body_of c))
    ∙ ap (λ xs. xs ++ filter_map (standing_at c) (body_entries (body_of c))) (params-none c 0 (params_of c))
    ∙ body-standing c (body_of c)

-- ---- slot by slot

take-next : {A : Type 0} (xs : List A) (k : ℕ) (x : A) → slice_get xs k ≡ Some x → take (suc k) xs ≡ take k xs ++ x ∷ []
take-next [] k x h = absurd (none-some x h)
take-next (y ∷ xs) zero x h = ap (λ z. z ∷ []) (some-same y x h)
take-next (y ∷ xs) (suc k) x h = ap (λ l. y ∷ l) (take-next xs k x h)

get-there : {A : Type 0} (xs : List A) (k : ℕ) → k < length xs → (x : A) × (slice_get xs k ≡ Some x)
get-there xs k l = elim (slice_get_cases xs k).1 [ inl h ↦ (h.0, h.2) | inr h ↦ absurd (omega (arith, h.0)) ]

get-left : {A : Type 0} (xs ys : List A) (k : ℕ) (x : A) → slice_get xs k ≡ Some x → slice_get (xs ++ ys) k ≡ Some x
get-left xs ys k x h = let e : 0 + k ≡ k = omega arith in subst (λ j. slice_get (xs ++ ys) j ≡ Some x) e (sits-left (xs ++ ys) 0 xs ys (sits-whole (xs ++ ys)) k x h)

get-right : {A : Type 0} (xs ys : List A) (k : ℕ) (x : A) → slice_get ys k ≡ Some x → slice_get (xs ++ ys) (length xs + k) ≡ Some x
get-right xs ys k x h =
    let e : (0 + length xs) + k ≡ length xs + k = omega arith in
    subst (λ j. slice_get (xs ++ ys) j ≡ Some x) e (sits-right (xs ++ ys) 0 (length xs) xs ys refl (sits-whole (xs ++ ys)) k x h)

-- ---- the kids of all bodies

module _ (s : Scopes) where
  pub all-long : (n : ℕ) → length (all_to s n) ≡ n
  all-long zero = refl
  all-long (suc n) = length-append (all_to s n) (kids_of s n ∷ []) ∙ omega (arith, all-long n)

  pub all-get : (n k : ℕ) → k < n → slice_get (all_to s n) k ≡ Some (kids_of s k)
  all-get zero k l = absurd (omega arith)
  all-get (suc n) k l = go (cases_lt k n) (all-get n k)
    where
      go : (k < n) ⊎ (n ≤ k) → (k < n → slice_get (all_to s n) k ≡ Some (kids_of s k)) → slice_get (all_to s n ++ kids_of s n ∷ []) k ≡ Some (kids_of s k)
      go (inl h) ih = get-left (all_to s n) (kids_of s n ∷ []) k (kids_of s k) (ih h)
      go (inr h) ih =
          let e : n ≡ k = omega arith in
          let f : length (all_to s n) + 0 ≡ k = omega (arith, all-long n) in
          subst (λ j. slice_get (all_to s n ++ kids_of s n ∷ []) k ≡ Some (kids_of s j)) e
          (subst (λ j. slice_get (all_to s n ++ kids_of s n ∷ []) j ≡ Some (kids_of s n)) f (get-right (all_to s n) (kids_of s n ∷ []) 0 (kids_of s n) refl))

module _ (t : Source) (s : Scopes) (are : AreNumbered t s) where
  -- the kid is the child, with the body and the place
  pub record IsKid (c d : Component) (k : Kid) : Type 0 where
    pub body : IsBody t k.body (as_written d)
    pub stands : (at : ℕ) → IsNumber t at c → StandsAt t d (Some (place at k.slot))

  abbrev kid_from : (k slot : ℕ) → Option What → List Kid
  kid_from k slot w = option_to_list (option_map (λ j. record { slot = slot; body = j }) (kid_body s k w))

  -- the kid of an instance
  instance-kid : (c : Component) (i : InstanceTree) (k slot : ℕ) (d : Option ℕ) → IsEntry c (instance i) slot → MayOpen t s.table are.table are.indexed s.definitions are.definitions c i d
      → Beside (IsKid c) (cons_option (opened c i) []) (option_to_list (option_map (λ j. record { slot = slot; body = j }) d))
  instance-kid c i k slot d e (inl h) =
      subst (λ x. Beside (IsKid c) (cons_option (opened c i) []) (option_to_list (option_map (λ j. record { slot = slot; body = j }) x))) (sym h.0)
      (subst (λ o. Beside (IsKid c) (cons_option o []) []) (sym h.1) tt)
  instance-kid c i k slot d e (inr h) =
      subst (λ x. Beside (IsKid c) (cons_option (opened c i) []) (option_to_list (option_map (λ j. record { slot = slot; body = j }) x))) (sym h.1)
      (subst (λ o. Beside (IsKid c) (cons_option o []) (record { slot = slot; body = h.0 } ∷ [])) (sym h.2.4)
      (record { body = h.2.5; stands = λ at m. (place at slot, refl, m, e) }, tt))

  kid-of : (c : Component) (e : Entry) (k slot : ℕ) (w : What) → IsBody t k (as_written c) → IsEntry c e slot → IsWhat t (as_written c) e w
      → Beside (IsKid c) (cons_option (standing c e) []) (kid_from k slot (Some w))
  kid-of c (inner n b) k slot w own e h =
      subst (λ x. Beside (IsKid c) (part c n b ∷ []) (kid_from k slot (Some x))) (sym h.1)
      (record { body = h.2; stands = λ at m. (place at slot, refl, m, e) }, tt)
  kid-of c (instance i) k slot w own e h =
      let row = beside-at (λ d ds. Beside (IsDefinitionOf t d) (instances_of d) ds) (bodies t) s.definitions k (as_written c) are.definitions own in
      let one = beside-at (IsDefinitionOf t (as_written c)) (instances_of (as_written c)) row.0 h.0 i row.2 h.2 in
      let at : definition_at s.definitions k h.0 ≡ one.0 =
      ap (λ o. elim o [ None ↦ None | Some ds ↦ definition_in ds h.0 ]) row.1 ∙ ap (λ o. elim o [ None ↦ None | Some d ↦ d ]) one.1 in
      let defines : Defines t (written (definition_found c i)) one.0 = subst (λ q. Defines t q one.0) (sym (definition-written c i)) one.2 in
      subst (λ x. Beside (IsKid c) (cons_option (opened c i) []) (kid_from k slot (Some x))) (sym h.1)
      (subst (λ o. Beside (IsKid c) (cons_option (opened c i) []) (option_to_list (option_map (λ j. record { slot = slot; body = j }) o))) (sym at)
      (instance-kid c i k slot one.0 e (opens t s.table are.table are.indexed s.definitions are.definitions c i one.0 (definition_found c i) refl defines)))
  kid-of c (declared d) k slot w own e h = subst (λ x. Beside (IsKid c) [] (kid_from k slot (Some x))) (sym h.1) tt
  kid-of c (literal j ls) k slot w own e h = subst (λ x. Beside (IsKid c) [] (kid_from k slot (Some x))) (sym h) tt
  kid-of c (location j) k slot w own e h = subst (λ x. Beside (IsKid c) [] (kid_from k slot (Some x))) (sym h) tt
  kid-of c (definition n ps b) k slot w own e h = subst (λ x. Beside (IsKid c) [] (kid_from k slot (Some x))) (sym h.1) tt
  kid-of c (parameter j p) k slot w own e h = subst (λ x. Beside (IsKid c) [] (kid_from k slot (Some x))) (sym h) tt

  kid-at : (c : Component) (x : Ident × Entry) (k slot : ℕ) → IsBody t k (as_written c) → slice_get (scope_of c) slot ≡ Some x
      → Beside (IsKid c) (cons_option (standing_at c x) []) (kid_at s k slot)
  kid-at c x k slot own e =
      let w = what-of t s.table are.table are.indexed k slot c x.1 own (x.0, e) in
      subst (λ o. Beside (IsKid c) (cons_option (standing_at c x) []) (kid_from k slot o)) (sym w.1) (kid-of c x.1 k slot w.0 own (x.0, e) w.2)

  -- the first n slots
  kids-to : (c : Component) (k n : ℕ) → IsBody t k (as_written c) → n ≤ length (scope_of c) → Beside (IsKid c) (filter_map (standing_at c) (take n (scope_of c))) (kids_to s k n)
  kids-to c k zero own l = tt
  kids-to c k (suc n) own l =
      let x = get-there (scope_of c) n (omega arith) in
      subst (λ es. Beside (IsKid c) (filter_map (standing_at c) es) (kids_to s k n ++ kid_at s k n)) (sym (take-next (scope_of c) n x.0 x.1))
      (subst (λ ds. Beside (IsKid c) ds (kids_to s k n ++ kid_at s k n)) (sym (filter_map-append (standing_at c) (take n (scope_of c)) (x.0 ∷ [])))
      (beside-append (IsKid c) (filter_map (standing_at c) (take n (scope_of c))) (cons_option (standing_at c x.0) []) (kids_to s k n) (kid_at s k n)
      (kids-to c k n own (omega arith)) (kid-at c x.0 k n own x.1)))

  names-long : (c : Component) (k : ℕ) → IsBody t k (as_written c) → length (names_at s.table k) ≡ length (scope_of c)
  names-long c k own =
      let r = row-of t s.table.scopes are.table k (as_written c) own in
      ap (λ o. length (names_in o)) r.1 ∙ beside-length (IsName t (as_written c)) (scope_of (as_written c)) r.0.names r.2.names ∙ ap length (scope-written c)

  kids-of : (c : Component) (k : ℕ) → IsBody t k (as_written c) → Beside (IsKid c) (children c) (kids_of s k)
  kids-of c k own =
      subst (λ n. Beside (IsKid c) (children c) (kids_to s k n)) (sym (names-long c k own))
      (subst (λ ds. Beside (IsKid c) ds (kids_to s k (length (scope_of c)))) (ap (filter_map (standing_at c)) (take_all (length (scope_of c)) (scope_of c) (omega arith)) ∙ children-are c)
      (kids-to c k (length (scope_of c)) own (omega arith)))

  kids-are : (k : ℕ) (c : Component) → IsBody t k (as_written c) → kids_in (all_kids s) k ≡ kids_of s k
  kids-are k c own =
      let r = row-of t s.table.scopes are.table k (as_written c) own in
      ap (λ o. unwrap_or o []) (all-get s (length s.table.scopes) k (slice_get-below s.table.scopes k r.0 r.1))

  pub kids-beside : (c : Component) (k : ℕ) → IsBody t k (as_written c) → Beside (IsKid c) (children c) (kids_in (all_kids s) k)
  kids-beside c k own = subst (λ ks. Beside (IsKid c) (children c) ks) (sym (kids-are k c own)) (kids-of c k own)
