-- The entries of a scope that are declarations: what they are numbered among, and that each stands under its own name.
use Rattle.std.proofs.Common.{◌≡◌, ℕ, ◌+◌, true, false, inl, inr, List, [], ◌∷◌, ◌++◌, Option, Some, None, refl, sym, ◌∙◌, ap, subst}
use Rattle.std.specs.Prelude.{flat_map, filter, filter_map, map}
use Rattle.std.specs.List.{enumerate_from}
use Rattle.std.proofs.lemmas.List.Elements.{filter-append, filter_map-append}
use Rattle.std.proofs.lemmas.List.{append-nil}
use Rattle.cif_ast.specs.declared.names.Ident.{Ident}
use Rattle.cif_system.specs.Words.{Member}
use Rattle.cif_system.proofs.Lists.{some-same, none-some, false-true}
use Rattle.cif_system.proofs.Distinct.{member-append, member-map, member-flat_map}
use Rattle.cif_source.specs.Source.{Text, DeclTree, type_decl, enum_decl, event_decl, const_decl, alg_decl, input_decl, disc_decl, equation_decl, invariant_decl, marked_decl, ParamTree, LocationTree, SourceItem, decl_item, component_item, definition_item, instance_item, SourceBody, group_body, automaton_body, Source, list_of_items}
use Rattle.cif_source.specs.Components.{Component, body_of, params_of, scope_of, param_name, param_entries, body_entries, decl_entries, location_entry, item_entries, Entry, Entries, declared, literal, location, inner, definition, instance, parameter, same_text}
use Rattle.cif_source.specs.Objects.{item_decls, decls_in, decls_of, declares}
use Rattle.cif_scope.specs.declared.scope.Sort.{Sort}
use Rattle.cif_scope.specs.declared.scope.What.{What}
use Rattle.cif_scope.specs.declared.scope.What.TheVariants as what
use Rattle.cif_scope.specs.Tables.{IsWhat, IsSort}
use Rattle.cif_inst_numbers.specs.declared.counts.Counted.{Counted}
use Rattle.cif_inst_numbers.specs.declared.counts.Counted.TheVariants.{Event, Input, Variable, Algebraic}
use Rattle.cif_inst_numbers.specs.declared.counts.Counts.{Counts}
use Rattle.cif_inst_numbers.specs.Counting.{counted_what, none, one, of, plus}
use Rattle.cif_inst_numbers.specs.Numbers.{is_counted, declaration, declared_by}

-- ---- what a declaration is numbered among

pub by-counted : (P : Counted → Type 0) → P Event → P Input → P Variable → P Algebraic → (q : Counted) → P q
by-counted P e i v a Event = e
by-counted P e i v a Input = i
by-counted P e i v a Variable = v
by-counted P e i v a Algebraic = a

abbrev pub counted_decl : DeclTree → Option Counted
counted_decl (event_decl k h n) = Some Event
counted_decl (input_decl ty n) = Some Input
counted_decl (disc_decl ty n e) = Some Variable
counted_decl (alg_decl ty n e) = Some Algebraic
counted_decl _ = None

abbrev pub counted_entry : Entry → Option Counted
counted_entry (declared d) = counted_decl d
counted_entry _ = None

sort-counted : (d : DeclTree) (s : Sort) → IsSort d s → counted_what (Some (what.Declared s)) ≡ counted_decl d
sort-counted (type_decl n ty) s h = ap (λ x. counted_what (Some (what.Declared x))) h
sort-counted (enum_decl n ls) s h = ap (λ x. counted_what (Some (what.Declared x))) h
sort-counted (event_decl k x n) s h = ap (λ x. counted_what (Some (what.Declared x))) h
sort-counted (const_decl ty n e) s h = ap (λ x. counted_what (Some (what.Declared x))) h
sort-counted (alg_decl ty n e) s h = ap (λ x. counted_what (Some (what.Declared x))) h
sort-counted (input_decl ty n) s h = ap (λ x. counted_what (Some (what.Declared x))) h
sort-counted (disc_decl ty n e) s h = ap (λ x. counted_what (Some (what.Declared x))) h
sort-counted (equation_decl q) s h = absurd h
sort-counted (invariant_decl i) s h = absurd h
sort-counted (marked_decl p) s h = absurd h

pub what-counted : (t : Source) (c : Component) (e : Entry) (w : What) → IsWhat t c e w → counted_what (Some w) ≡ counted_entry e
what-counted t c (declared d) w h = ap (λ x. counted_what (Some x)) h.1 ∙ sort-counted d h.0 h.2
what-counted t c (literal k ls) w h = ap (λ x. counted_what (Some x)) h
what-counted t c (location k) w h = ap (λ x. counted_what (Some x)) h
what-counted t c (inner n b) w h = ap (λ x. counted_what (Some x)) h.1
what-counted t c (definition n ps b) w h = ap (λ x. counted_what (Some x)) h.1
what-counted t c (instance i) w h = ap (λ x. counted_what (Some x)) h.1
what-counted t c (parameter k p) w h = ap (λ x. counted_what (Some x)) h

-- ---- counts

pub of-none : (q : Counted) → of q none ≡ 0
of-none = by-counted (λ q. of q none ≡ 0) refl refl refl refl

pub one-automata : (o : Option Counted) → (one o).automata ≡ 0
one-automata None = refl
one-automata (Some Event) = refl
one-automata (Some Input) = refl
one-automata (Some Variable) = refl
one-automata (Some Algebraic) = refl

pub of-plus : (c d : Counts) (q : Counted) → of q (plus c d) ≡ of q c + of q d
of-plus c d = by-counted (λ q. of q (plus c d) ≡ of q c + of q d) refl refl refl refl

abbrev CountsOne : Ident → DeclTree → Counted → Type 0
CountsOne n d q = of q (one (counted_decl d)) ≡ declared_by q ((n, declared d) ∷ [])

decl-one : (n : Ident) (d : DeclTree) (q : Counted) → CountsOne n d q
decl-one n (type_decl m ty) = by-counted (CountsOne n (type_decl m ty)) refl refl refl refl
decl-one n (enum_decl m ls) = by-counted (CountsOne n (enum_decl m ls)) refl refl refl refl
decl-one n (event_decl k h m) = by-counted (CountsOne n (event_decl k h m)) refl refl refl refl
decl-one n (const_decl ty m e) = by-counted (CountsOne n (const_decl ty m e)) refl refl refl refl
decl-one n (alg_decl ty m e) = by-counted (CountsOne n (alg_decl ty m e)) refl refl refl refl
decl-one n (input_decl ty m) = by-counted (CountsOne n (input_decl ty m)) refl refl refl refl
decl-one n (disc_decl ty m e) = by-counted (CountsOne n (disc_decl ty m e)) refl refl refl refl
decl-one n (equation_decl x) = by-counted (CountsOne n (equation_decl x)) refl refl refl refl
decl-one n (invariant_decl i) = by-counted (CountsOne n (invariant_decl i)) refl refl refl refl
decl-one n (marked_decl p) = by-counted (CountsOne n (marked_decl p)) refl refl refl refl

pub entry-one : (n : Ident) (e : Entry) (q : Counted) → of q (one (counted_entry e)) ≡ declared_by q ((n, e) ∷ [])
entry-one n (declared d) q = decl-one n d q
entry-one n (literal k ls) q = of-none q
entry-one n (location k) q = of-none q
entry-one n (inner m b) q = of-none q
entry-one n (definition m ps b) q = of-none q
entry-one n (instance i) q = of-none q
entry-one n (parameter k p) q = of-none q

-- ---- a declaration that passes the test of a sort is of that sort

abbrev IsAmong : DeclTree → Counted → Type 0
IsAmong d q = is_counted q d ≡ true → counted_decl d ≡ Some q

no : {A : Type 0} → false ≡ true → A
no h = absurd (false-true refl h)

pub among : (d : DeclTree) (q : Counted) → IsAmong d q
among (type_decl n ty) = by-counted (IsAmong (type_decl n ty)) no no no no
among (enum_decl n ls) = by-counted (IsAmong (enum_decl n ls)) no no no no
among (event_decl k x n) = by-counted (IsAmong (event_decl k x n)) (λ h. refl) no no no
among (const_decl ty n e) = by-counted (IsAmong (const_decl ty n e)) no no no no
among (alg_decl ty n e) = by-counted (IsAmong (alg_decl ty n e)) no no no (λ h. refl)
among (input_decl ty n) = by-counted (IsAmong (input_decl ty n)) no (λ h. refl) no no
among (disc_decl ty n e) = by-counted (IsAmong (disc_decl ty n e)) no no (λ h. refl) no
among (equation_decl x) = by-counted (IsAmong (equation_decl x)) no no no no
among (invariant_decl i) = by-counted (IsAmong (invariant_decl i)) no no no no
among (marked_decl p) = by-counted (IsAmong (marked_decl p)) no no no no

abbrev Passes : DeclTree → Counted → Type 0
Passes d q = is_counted q d ≡ true

pub passes : (d : DeclTree) (q : Counted) → counted_decl d ≡ Some q → is_counted q d ≡ true
passes (event_decl k x n) q h = subst (Passes (event_decl k x n)) (some-same Event q h) refl
passes (input_decl ty n) q h = subst (Passes (input_decl ty n)) (some-same Input q h) refl
passes (disc_decl ty n e) q h = subst (Passes (disc_decl ty n e)) (some-same Variable q h) refl
passes (alg_decl ty n e) q h = subst (Passes (alg_decl ty n e)) (some-same Algebraic q h) refl
passes (type_decl n ty) q h = absurd (none-some q h)
passes (enum_decl n ls) q h = absurd (none-some q h)
passes (const_decl ty n e) q h = absurd (none-some q h)
passes (equation_decl x) q h = absurd (none-some q h)
passes (invariant_decl i) q h = absurd (none-some q h)
passes (marked_decl p) q h = absurd (none-some q h)

-- ---- the declarations of a body are those of its scope

literals-none : (all : List Ident) (xs : List (ℕ × Ident)) → filter_map declaration (map (λ x. (x.1, literal x.0 all)) xs) ≡ []
literals-none all [] = refl
literals-none all (x ∷ xs) = literals-none all xs

params-none : (xs : List (ℕ × ParamTree)) → filter_map declaration (map (λ x. (param_name x.1, parameter x.0 x.1)) xs) ≡ []
params-none [] = refl
params-none (x ∷ xs) = params-none xs

locations-none : (ls : List (ℕ × LocationTree)) → filter_map declaration (filter_map location_entry ls) ≡ []
locations-none [] = refl
locations-none ((k, l) ∷ ls) =
    elim l.name as (λ o. filter_map declaration (filter_map location_entry ((k, record l { name = o }) ∷ ls)) ≡ []) [
      | None ↦ locations-none ls
      | Some n ↦ locations-none ls
    ]

-- those of a sort among entries
abbrev pub sorted : Counted → Entries → List DeclTree
sorted q es = filter (is_counted q) (filter_map declaration es)

pub sorted-append : (q : Counted) (es fs : Entries) → sorted q (es ++ fs) ≡ sorted q es ++ sorted q fs
sorted-append q es fs = ap (filter (is_counted q)) (filter_map-append declaration es fs) ∙ filter-append (is_counted q) (filter_map declaration es) (filter_map declaration fs)

decl-sorted : (q : Counted) (d : DeclTree) → sorted q (decl_entries d) ≡ filter (is_counted q) (d ∷ [])
decl-sorted q (type_decl n ty) = refl
decl-sorted q (enum_decl n ls) = ap (λ ds. filter (is_counted q) (enum_decl n ls ∷ ds)) (literals-none ls (enumerate_from 0 ls))
decl-sorted q (event_decl k h n) = refl
decl-sorted q (const_decl ty n e) = refl
decl-sorted q (alg_decl ty n e) = refl
decl-sorted q (input_decl ty n) = refl
decl-sorted q (disc_decl ty n e) = refl
decl-sorted q (equation_decl x) = by-counted (λ q. sorted q (decl_entries (equation_decl x)) ≡ filter (is_counted q) (equation_decl x ∷ [])) refl refl refl refl q
decl-sorted q (invariant_decl i) = by-counted (λ q. sorted q (decl_entries (invariant_decl i)) ≡ filter (is_counted q) (invariant_decl i ∷ [])) refl refl refl refl q
decl-sorted q (marked_decl p) = by-counted (λ q. sorted q (decl_entries (marked_decl p)) ≡ filter (is_counted q) (marked_decl p ∷ [])) refl refl refl refl q

decls-sorted : (q : Counted) (ds : List DeclTree) → sorted q (flat_map decl_entries ds) ≡ filter (is_counted q) ds
decls-sorted q [] = refl
decls-sorted q (d ∷ ds) =
    sorted-append q (decl_entries d) (flat_map decl_entries ds)
    ∙ ap (λ xs. xs ++ sorted q (flat_map decl_entries ds)) (decl-sorted q d)
    ∙ ap (λ xs. filter (is_counted q) (d ∷ []) ++ xs) (decls-sorted q ds)
    ∙ sym (filter-append (is_counted q) (d ∷ []) ds)

item-sorted : (q : Counted) (i : SourceItem) → sorted q (item_entries i) ≡ filter (is_counted q) (item_decls i)
item-sorted q (decl_item d) = decl-sorted q d
item-sorted q (component_item n b) = refl
item-sorted q (definition_item n ps b) = refl
item-sorted q (instance_item i) = refl

items-sorted : (q : Counted) (is : List SourceItem) → sorted q (flat_map item_entries is) ≡ filter (is_counted q) (flat_map item_decls is)
items-sorted q [] = refl
items-sorted q (i ∷ is) =
    sorted-append q (item_entries i) (flat_map item_entries is)
    ∙ ap (λ xs. xs ++ sorted q (flat_map item_entries is)) (item-sorted q i)
    ∙ ap (λ xs. filter (is_counted q) (item_decls i) ++ xs) (items-sorted q is)
    ∙ sym (filter-append (is_counted q) (item_decls i) (flat_map item_decls is))

body-sorted : (q : Counted) (b : SourceBody) → sorted q (body_entries b) ≡ filter (is_counted q) (decls_in b)
body-sorted q (group_body is) = items-sorted q (list_of_items is)
body-sorted q (automaton_body a) =
    sorted-append q (flat_map decl_entries a.decls) (filter_map location_entry (enumerate_from 0 a.locs))
    ∙ ap (λ ds. sorted q (flat_map decl_entries a.decls) ++ filter (is_counted q) ds) (locations-none (enumerate_from 0 a.locs))
    ∙ append-nil (sorted q (flat_map decl_entries a.decls))
    ∙ decls-sorted q a.decls

pub scope-sorted : (q : Counted) (c : Component) → sorted q (scope_of c) ≡ filter (is_counted q) (decls_of c)
scope-sorted q c =
    sorted-append q (param_entries (params_of c)) (body_entries (body_of c))
    ∙ ap (λ ds. filter (is_counted q) ds ++ sorted q (body_entries (body_of c))) (params-none (enumerate_from 0 (params_of c)))
    ∙ body-sorted q (body_of c)

-- ---- a declaration stands under its own name

abbrev pub IsNamed : Ident × Entry → Type 0
IsNamed (n, declared d) = (x : Text) → declares x d ≡ same_text n.text x
IsNamed (n, _) = Unit {0}

decl-named : (d : DeclTree) (x : Ident × Entry) → Member x (decl_entries d) → IsNamed x
decl-named (type_decl n ty) x m = elim m [ inl w ↦ subst IsNamed (sym w) (λ y. refl) | inr w ↦ absurd w ]
decl-named (enum_decl n ls) x m =
    elim m [
      | inl w ↦ subst IsNamed (sym w) (λ y. refl)
      | inr w ↦ let y = member-map (λ (z : ℕ × Ident). (z.1, literal z.0 ls)) x (enumerate_from 0 ls) w in subst IsNamed (sym y.2) tt
    ]
decl-named (event_decl k h n) x m = elim m [ inl w ↦ subst IsNamed (sym w) (λ y. refl) | inr w ↦ absurd w ]
decl-named (const_decl ty n e) x m = elim m [ inl w ↦ subst IsNamed (sym w) (λ y. refl) | inr w ↦ absurd w ]
decl-named (alg_decl ty n e) x m = elim m [ inl w ↦ subst IsNamed (sym w) (λ y. refl) | inr w ↦ absurd w ]
decl-named (input_decl ty n) x m = elim m [ inl w ↦ subst IsNamed (sym w) (λ y. refl) | inr w ↦ absurd w ]
decl-named (disc_decl ty n e) x m = elim m [ inl w ↦ subst IsNamed (sym w) (λ y. refl) | inr w ↦ absurd w ]
decl-named (equation_decl q) x m = absurd m
decl-named (invariant_decl i) x m = absurd m
decl-named (marked_decl p) x m = absurd m

locations-named : (ls : List (ℕ × LocationTree)) (x : Ident × Entry) → Member x (filter_map location_entry ls) → IsNamed x
locations-named [] x m = absurd m
locations-named ((k, l) ∷ ls) x m =
    (elim l.name as (λ o. Member x (filter_map location_entry ((k, record l { name = o }) ∷ ls)) → IsNamed x) [
      | None ↦ λ g. locations-named ls x g
      | Some n ↦ λ g. elim g [ inl w ↦ subst IsNamed (sym w) tt | inr w ↦ locations-named ls x w ]
    ]) m

item-named : (i : SourceItem) (x : Ident × Entry) → Member x (item_entries i) → IsNamed x
item-named (decl_item d) x m = decl-named d x m
item-named (component_item n b) x m = elim m [ inl w ↦ subst IsNamed (sym w) tt | inr w ↦ absurd w ]
item-named (definition_item n ps b) x m = elim m [ inl w ↦ subst IsNamed (sym w) tt | inr w ↦ absurd w ]
item-named (instance_item i) x m = elim m [ inl w ↦ subst IsNamed (sym w) tt | inr w ↦ absurd w ]

body-named : (b : SourceBody) (x : Ident × Entry) → Member x (body_entries b) → IsNamed x
body-named (group_body is) x m = let i = member-flat_map item_entries x (list_of_items is) m in item-named i.0 x i.2
body-named (automaton_body a) x m =
    elim (member-append x (flat_map decl_entries a.decls) (filter_map location_entry (enumerate_from 0 a.locs)) m) [
      | inl w ↦ let d = member-flat_map decl_entries x a.decls w in decl-named d.0 x d.2
      | inr w ↦ locations-named (enumerate_from 0 a.locs) x w
    ]

pub scope-named : (c : Component) (x : Ident × Entry) → Member x (scope_of c) → IsNamed x
scope-named c x m =
    elim (member-append x (param_entries (params_of c)) (body_entries (body_of c)) m) [
      | inl w ↦ let y = member-map (λ (z : ℕ × ParamTree). (param_name z.1, parameter z.0 z.1)) x (enumerate_from 0 (params_of c)) w in subst IsNamed (sym y.2) tt
      | inr w ↦ body-named (body_of c) x w
    ]
