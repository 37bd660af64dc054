-- Where no scope of a component declares a name twice, components have different paths, and so have algebraic variables.
use Rattle.std.proofs.Common.{◌≡◌, ℕ, zero, suc, Bool, true, false, inl, inr, List, [], ◌∷◌, ◌++◌, length, Option, Some, None, refl, sym, ◌∙◌, ap, subst, arith}
use Rattle.std.specs.Prelude.{◌||◌, flat_map, filter_map}
use Rattle.std.specs.List.{cons_option, list_all, list_any, enumerate_from}
use Rattle.std.specs.Option.{option_to_list}
use Rattle.std.specs.Cmp.Lexicographic as words
use Rattle.std.proofs.lemmas.Cmp.{nat_list_eq_equiv}
use Rattle.std.proofs.lemmas.List.{length-append}
use Rattle.cif_ast.specs.declared.names.Ident.{Ident}
use Rattle.cif_system.specs.Words.{Member}
use Rattle.cif_system.proofs.Lists.{false-true}
use Rattle.cif_system.proofs.Picks.{and-left, and-right, or-cases, flat_map-member}
use Rattle.cif_source.specs.Source.{Text, Source, DeclTree, type_decl, enum_decl, event_decl, const_decl, alg_decl, input_decl, disc_decl, equation_decl, invariant_decl, marked_decl, SourceItem, decl_item, component_item, definition_item, instance_item, SourceBody, group_body, automaton_body, InstanceTree, list_of_items}
use Rattle.cif_source.specs.Components.{Component, whole, body_of, params_of, path_of, same_text, Entries, inner, definition, instance, parameter, declared, literal, location, item_entries, decl_entries, body_entries, param_entries, scope_of, location_entry}
use Rattle.cif_source.specs.Lookup.{Reached, reached, missing, blocked, opened_at, definition_found}
use Rattle.cif_source.specs.Objects.{components_of, most_objects, children, child_of, items_in, item_decls, decls_in, decls_of, automata, Declared, declarations, algs, is_alg, declares}
use Rattle.cif_source.proofs.ComponentLaws.{children-parent}
use Rattle.cif_source.proofs.ReachLaws.{below-parent}
use Rattle.cif_source.specs.InstanceRules.{TooManyObjectsDue, ConstantRangeDue}
use Rattle.cif_inst_model.specs.Flat.{net_of_source}
use Rattle.cif_inst_model.specs.Represents.{Represents}
use Rattle.cif_inst_model.proofs.SystemLaws.{names_all}
use Rattle.cif_inst_model.proofs.KeptLaws.{has_twice, or-left, or-right}
use Rattle.cif_inst_model.proofs.PathLaws.{names, names-append, not-twice-right, one-named, last_name, path-below, path-told}
use Rattle.cif_inst_model.proofs.OwnLaws.{alg-found}
use Rattle.cif_inst_model.proofs.RepresentsLaws.{IsFound, filter-from, net-represents}
use Rattle.cif_inst_model.proofs.RuleLaws.{few-kept, constants-kept, declaration-cases}
use Rattle.cif_inst_model.proofs.ValueLaws.{AlgsDiffer}

-- ---- lists

not-empty : {A : Type 0} (xs : List A) (y : A) → [] ≡ xs ++ y ∷ [] → ⊥
not-empty [] y h = cc
not-empty (x ∷ xs) y h = cc

append-last : {A : Type 0} (xs ys : List A) (x y : A) → xs ++ x ∷ [] ≡ ys ++ y ∷ [] → (xs ≡ ys) × (x ≡ y)
append-last [] [] x y h = (refl, cc)
append-last [] (z ∷ zs) x y h = absurd (not-empty zs y (let t : [] ≡ zs ++ y ∷ [] = cc in t))
append-last (z ∷ zs) [] x y h = absurd (not-empty zs x (let t : [] ≡ zs ++ x ∷ [] = cc in t))
append-last (a ∷ xs) (b ∷ ys) x y h =
    let heads : a ≡ b = cc in
    let tails : xs ++ x ∷ [] ≡ ys ++ y ∷ [] = cc in
    let rest = append-last xs ys x y tails in
    (ap (λ z. z ∷ xs) heads ∙ ap (λ zs. b ∷ zs) rest.0, rest.1)

any-left : {A : Type 0} (p : A → Bool) (xs ys : List A) → list_any p xs ≡ true → list_any p (xs ++ ys) ≡ true
any-left p [] ys h = absurd (false-true refl h)
any-left p (x ∷ xs) ys h =
    (elim (p x) as (λ b. (b || list_any p xs) ≡ true → (b || list_any p (xs ++ ys)) ≡ true) [
      | true ↦ λ g. refl
      | false ↦ λ g. any-left p xs ys g
    ]) h

twice-left : (xs ys : List Ident) → has_twice xs ≡ true → has_twice (xs ++ ys) ≡ true
twice-left [] ys h = absurd (false-true refl h)
twice-left (x ∷ xs) ys h =
    elim (or-cases (list_any (λ (y : Ident). same_text x.text y.text) xs) (has_twice xs) h) [
      | inl w ↦ or-left _ _ (any-left (λ (y : Ident). same_text x.text y.text) xs ys w)
      | inr w ↦ or-right (list_any (λ (y : Ident). same_text x.text y.text) (xs ++ ys)) (has_twice (xs ++ ys)) (twice-left xs ys w)
    ]

not-twice-left : (xs ys : List Ident) → has_twice (xs ++ ys) ≡ false → has_twice xs ≡ false
not-twice-left xs ys h =
    (elim (has_twice xs) as (λ b. has_twice xs ≡ b → b ≡ false) [
      | true ↦ λ i. absurd (false-true h (twice-left xs ys i))
      | false ↦ λ i. refl
    ]) refl

pub flat-from : {A B : Type 0} (h : A → Option B) (y : B) (xs : List A) → Member y (filter_map h xs) → Member y (flat_map (λ a. option_to_list (h a)) xs)
flat-from h y [] m = absurd m
flat-from h y (x ∷ xs) m =
    (elim (h x) as (λ o. Member y (cons_option o (filter_map h xs)) → Member y (option_to_list o ++ flat_map (λ a. option_to_list (h a)) xs)) [
      | None ↦ λ k. flat-from h y xs k
      | Some z ↦ λ k. elim k [ inl w ↦ inl w | inr w ↦ inr (flat-from h y xs w) ]
    ]) m

alone-in : {B : Type 0} (o : Option B) (b c : B) → Member b (option_to_list o) → Member c (option_to_list o) → b ≡ c
alone-in None b c k l = absurd k
alone-in (Some x) b c k l = elim k [ inl w ↦ elim l [ inl v ↦ w ∙ sym v | inr v ↦ absurd v ] | inr w ↦ absurd w ]

-- ---- children

opened-name : (p c : Component) (j : InstanceTree) (r : Reached) → Member c (option_to_list (opened_at p j r)) → j.name.text ≡ last_name c
opened-name p c j (reached (o, definition n ps b)) m = elim m [ inl w ↦ ap last_name (sym w) | inr w ↦ absurd w ]
opened-name p c j missing m = absurd m
opened-name p c j blocked m = absurd m
opened-name p c j (reached (d, declared x)) m = absurd m
opened-name p c j (reached (d, literal k ls)) m = absurd m
opened-name p c j (reached (d, location k)) m = absurd m
opened-name p c j (reached (d, inner n b)) m = absurd m
opened-name p c j (reached (d, instance i)) m = absurd m
opened-name p c j (reached (d, parameter k q)) m = absurd m

child-named : (p : Component) (x : Text) (i : SourceItem) (c : Component) → Member c (option_to_list (child_of p i)) → last_name c ≡ x → (m : Ident) × Member m (names (item_entries i)) × (m.text ≡ x)
child-named p x (decl_item d) c m is = absurd m
child-named p x (definition_item n ps b) c m is = absurd m
child-named p x (component_item n b) c m is = elim m [ inl w ↦ (n, inl refl, ap last_name (sym w) ∙ is) | inr w ↦ absurd w ]
child-named p x (instance_item j) c m is = (j.name, inl refl, opened-name p c j (definition_found p j) m ∙ is)

children-in : (p : Component) (b : SourceBody) → has_twice (names (body_entries b)) ≡ false → (c d : Component)
    → Member c (filter_map (child_of p) (items_in b)) → Member d (filter_map (child_of p) (items_in b)) → last_name c ≡ last_name d → c ≡ d
children-in p (group_body is) h c d k l same =
    one-named item_entries (λ i. option_to_list (child_of p i)) (λ e. last_name e ≡ last_name d) (last_name d) (child-named p (last_name d)) (λ i b c. alone-in (child_of p i) b c)
    (list_of_items is) h c d (flat-from (child_of p) c (list_of_items is) k) (flat-from (child_of p) d (list_of_items is) l) same refl
children-in p (automaton_body a) h c d k l same = absurd k

body-single : (c : Component) → has_twice (names (scope_of c)) ≡ false → has_twice (names (body_entries (body_of c))) ≡ false
body-single c h = not-twice-right (names (param_entries (params_of c))) (names (body_entries (body_of c))) (ap has_twice (sym (names-append (param_entries (params_of c)) (body_entries (body_of c)))) ∙ h)

-- no scope of a component declares a name twice
abbrev pub ScopesAreSingle : Source → Type 0
ScopesAreSingle t = (c : Component) → Member c (components_of t) → has_twice (names (scope_of c)) ≡ false

module _ (t : Source) (single : ScopesAreSingle t) where
  meet : (c d : Component)
      → ((p q : Component) → Member p (components_of t) → Member q (components_of t) → suc (length (path_of p)) ≡ length (path_of c) → path_of p ≡ path_of q → p ≡ q)
      → Member c (components_of t) → Member d (components_of t) → path_of c ≡ path_of d → c ≡ d
  meet c d parents k l same =
      elim (below-parent most_objects (whole t) c k) [
        | inl w ↦ elim (below-parent most_objects (whole t) d l) [
          | inl v ↦ w ∙ sym v
          | inr v ↦ absurd (not-empty (path_of v.0) (last_name d) (sym (ap path_of w) ∙ same ∙ path-below d v.0 (children-parent v.0 d v.2)))
        ]
        | inr w ↦ elim (below-parent most_objects (whole t) d l) [
          | inl v ↦ absurd (not-empty (path_of w.0) (last_name c) (sym (ap path_of v) ∙ sym same ∙ path-below c w.0 (children-parent w.0 c w.2)))
          | inr v ↦
              let up : path_of c ≡ path_of w.0 ++ last_name c ∷ [] = path-below c w.0 (children-parent w.0 c w.2) in
              let apart = append-last (path_of w.0) (path_of v.0) (last_name c) (last_name d) (sym up ∙ same ∙ path-below d v.0 (children-parent v.0 d v.2)) in
              let shorter : suc (length (path_of w.0)) ≡ length (path_of c) = omega (arith, ap length up, length-append (path_of w.0) (last_name c ∷ [])) in
              let one_parent : w.0 ≡ v.0 = parents w.0 v.0 w.1 v.1 shorter apart.0 in
              children-in w.0 (body_of w.0) (body-single w.0 (single w.0 w.1)) c d w.2 (subst (λ p. Member d (children p)) (sym one_parent) v.2) apart.1
        ]
      ]

  by-length : (n : ℕ) (c d : Component) → length (path_of c) ≡ n → Member c (components_of t) → Member d (components_of t) → path_of c ≡ path_of d → c ≡ d
  by-length zero c d h = meet c d (λ p q i j e s. absurd (omega (arith, e, h)))
  by-length (suc n) c d h = meet c d (λ p q i j e s. by-length n p q (omega (arith, e, h)) i j s)

  -- components of one path are one
  pub paths-differ : (c d : Component) → Member c (components_of t) → Member d (components_of t) → path_of c ≡ path_of d → c ≡ d
  paths-differ c d = by-length (length (path_of c)) c d refl

-- ---- declarations

first-named : (x : Text) (es : Entries) → (elim es [ [] ↦ false | e ∷ more ↦ same_text e.0.text x ]) ≡ true → (m : Ident) × Member m (names es) × (m.text ≡ x)
first-named x [] h = absurd (false-true refl h)
first-named x (e ∷ es) h = (e.0, inl refl, words.same_text e.0.text x (sym h))

item-named : (x : Text) (i : SourceItem) (d : DeclTree) → Member d (item_decls i) → declares x d ≡ true → (m : Ident) × Member m (names (item_entries i)) × (m.text ≡ x)
item-named x (decl_item b) d m is = elim m [ inl w ↦ first-named x (decl_entries b) (ap (declares x) (sym w) ∙ is) | inr w ↦ absurd w ]
item-named x (component_item n b) d m is = absurd m
item-named x (definition_item n ps b) d m is = absurd m
item-named x (instance_item j) d m is = absurd m

alone-decl : (i : SourceItem) (b c : DeclTree) → Member b (item_decls i) → Member c (item_decls i) → b ≡ c
alone-decl (decl_item d) b c k l = elim k [ inl w ↦ elim l [ inl v ↦ w ∙ sym v | inr v ↦ absurd v ] | inr w ↦ absurd w ]
alone-decl (component_item n b) c d k l = absurd k
alone-decl (definition_item n ps b) c d k l = absurd k
alone-decl (instance_item j) c d k l = absurd k

only-decl : (d b c : DeclTree) → Member b (d ∷ []) → Member c (d ∷ []) → b ≡ c
only-decl d b c k l = elim k [ inl w ↦ elim l [ inl v ↦ w ∙ sym v | inr v ↦ absurd v ] | inr w ↦ absurd w ]

-- no two declarations of a body declare one name
pub declared-once : (x : Text) (b : SourceBody) → has_twice (names (body_entries b)) ≡ false → (d e : DeclTree) → Member d (decls_in b) → Member e (decls_in b) → declares x d ≡ true → declares x e ≡ true → d ≡ e
declared-once x (group_body is) h d e k l = one-named item_entries item_decls (λ d. declares x d ≡ true) x (item-named x) alone-decl (list_of_items is) h d e k l
declared-once x (automaton_body a) h d e k l =
    one-named decl_entries (λ d. d ∷ []) (λ d. declares x d ≡ true) x
    (λ b d m is. elim m [ inl w ↦ first-named x (decl_entries b) (ap (declares x) (sym w) ∙ is) | inr w ↦ absurd w ])
    only-decl a.decls
    (not-twice-left (names (flat_map decl_entries a.decls)) (names (filter_map location_entry (enumerate_from 0 a.locs))) (ap has_twice (sym (names-append (flat_map decl_entries a.decls) (filter_map location_entry (enumerate_from 0 a.locs)))) ∙ h))
    d e (flat_map-member (λ d. d ∷ []) d a.decls d k (inl refl)) (flat_map-member (λ d. d ∷ []) e a.decls e l (inl refl))

-- no two algebraic variables have one path
pub algs-differ : (t : Source) → ScopesAreSingle t → AlgsDiffer t
algs-differ t single c x n e d m k same =
    let here = declaration-cases t (c, alg_decl x n e) (filter-from (λ d. is_alg d.1) (declarations t) (c, alg_decl x n e) m) in
    let there = declaration-cases t d (filter-from (λ d. is_alg d.1) (declarations t) d k) in
    let home : d.0 ≡ c = paths-differ t single d.0 c there.0 here.0 (path-told (path_of d.0) (path_of c) (and-right (declares n.text d.1) _ same)) in
    let one_decl : d.1 ≡ alg_decl x n e =
    declared-once n.text (body_of c) (body-single c (single c here.0)) d.1 (alg_decl x n e) (subst (λ p. Member d.1 (decls_of p)) home there.1) here.1 (and-left (declares n.text d.1) _ same) (nat_list_eq_equiv.refl n.text) in
    λ i. (home i, one_decl i)

-- the name of each algebraic variable is found where it is declared
algs-found : (t : Source) → ScopesAreSingle t → (d : Declared) → Member d (algs t) → IsFound d
algs-found t single (c, alg_decl x n e) m =
    let here = declaration-cases t (c, alg_decl x n e) (filter-from (λ d. is_alg d.1) (declarations t) (c, alg_decl x n e) m) in
    alg-found c x n e (single c here.0) here.1
algs-found t single (c, type_decl n x) m = tt
algs-found t single (c, enum_decl n ls) m = tt
algs-found t single (c, event_decl k x n) m = tt
algs-found t single (c, const_decl x n e) m = tt
algs-found t single (c, input_decl x n) m = tt
algs-found t single (c, disc_decl x n e) m = tt
algs-found t single (c, equation_decl q) m = tt
algs-found t single (c, invariant_decl i) m = tt
algs-found t single (c, marked_decl p) m = tt

-- the net of a source represents it, where no scope of a component declares a name twice
pub listed-represented : (t : Source) → ((count : ℕ) → TooManyObjectsDue t count → ⊥) → ((at : ℕ) → ConstantRangeDue t at → ⊥) → ScopesAreSingle t
    → list_all names_all (automata t) ≡ true → Represents (net_of_source t) t
listed-represented t sizes ranges single named =
    net-represents t (record { few = few-kept t sizes; constants = constants-kept t ranges; named = named; differ = algs-differ t single; found = algs-found t single })
