-- A listed component, as written, is a body of the source.
use Rattle.std.proofs.Common.{◌≡◌, ℕ, ◌≤◌, Bool, true, false, inl, inr, List, [], ◌∷◌, ◌++◌, length, map, Some, None, refl, sym, ◌∙◌, ap, subst}
use Rattle.std.specs.Prelude.{option_map, flat_map, filter_map}
use Rattle.std.specs.List.{cons_option, enumerate_from}
use Rattle.cif_ast.specs.declared.names.Ident.{Ident}
use Rattle.cif_ast.specs.declared.names.Name.{Name}
use Rattle.cif_system.specs.Words.{Member}
use Rattle.cif_system.proofs.Lists.{some-same, none-some}
use Rattle.cif_system.proofs.Picks.{append-left, append-right}
use Rattle.cif_source.specs.Source.{Text, ParamTree, DeclTree, type_decl, enum_decl, event_decl, const_decl, alg_decl, input_decl, disc_decl, equation_decl, invariant_decl, marked_decl, LocationTree, SourceBody, InstanceTree, SourceItem, decl_item, component_item, definition_item, instance_item, group_body, automaton_body, Source, no_source, source, list_of_items}
use Rattle.cif_source.specs.Components.{Component, stands_in, whole, part, blank, copy, specification_of, body_of, params_of, Entry, Entries, declared, literal, location, inner, definition, instance, parameter, item_entries, body_entries, decl_entries, location_entry, param_name, param_entries, scope_of, entry_named, same_text}
use Rattle.cif_source.specs.Lookup.{ScopeEntry, Reached, reached, missing, blocked, at_entry, in_scope, in_body, go_on, or_outward, outward, looked_up, inside_written, definition_found}
use Rattle.cif_source.specs.Objects.{components_of, children, items_in, most_objects, bodies, bodies_in, bodies_at, bodies_under}
use Rattle.cif_source.proofs.ComponentLaws.{append-cases, children-parent, components-closed, head-below}
use Rattle.cif_source.proofs.ReachLaws.{Good, in_body-in, in_scope-in, frames-listed, children-cases, below-parent, opened-found, find-entry, reached-same}
use Rattle.cif_inst_model.proofs.FoundLaws.{flat-cases}

-- ---- definitions stand in their bodies

abbrev pub StandsIn : SourceBody → Entry → Type 0
StandsIn b (definition n ps d) = Member (definition_item n ps d) (items_in b)
StandsIn b _ = Unit {0}

one-stands : (b : SourceBody) (d : DeclTree) (k n : Ident) (e : Entry) → Member {A = Ident × Entry} (n, e) ((k, declared d) ∷ []) → StandsIn b e
one-stands b d k n e m = elim m [ inl w ↦ subst (StandsIn b) (sym (ap (λ y. y.1) w)) tt | inr w ↦ absurd w ]

literals-stand : (b : SourceBody) (ls : List Ident) (xs : List (ℕ × Ident)) (n : Ident) (e : Entry) → Member {A = Ident × Entry} (n, e) (map (λ x. (x.1, literal x.0 ls)) xs) → StandsIn b e
literals-stand b ls [] n e m = absurd m
literals-stand b ls (x ∷ xs) n e m = elim m [ inl w ↦ subst (StandsIn b) (sym (ap (λ y. y.1) w)) tt | inr w ↦ literals-stand b ls xs n e w ]

decl-stands : (b : SourceBody) (d : DeclTree) (n : Ident) (e : Entry) → Member {A = Ident × Entry} (n, e) (decl_entries d) → StandsIn b e
decl-stands b (enum_decl k ls) n e m = elim m [ inl w ↦ subst (StandsIn b) (sym (ap (λ y. y.1) w)) tt | inr w ↦ literals-stand b ls (enumerate_from 0 ls) n e w ]
decl-stands b (type_decl k x) n e m = one-stands b (type_decl k x) k n e m
decl-stands b (event_decl a h k) n e m = one-stands b (event_decl a h k) k n e m
decl-stands b (const_decl x k v) n e m = one-stands b (const_decl x k v) k n e m
decl-stands b (alg_decl x k v) n e m = one-stands b (alg_decl x k v) k n e m
decl-stands b (input_decl x k) n e m = one-stands b (input_decl x k) k n e m
decl-stands b (disc_decl x k v) n e m = one-stands b (disc_decl x k v) k n e m
decl-stands b (equation_decl q) n e m = absurd m
decl-stands b (invariant_decl i) n e m = absurd m
decl-stands b (marked_decl p) n e m = absurd m

locations-stand : (b : SourceBody) (ls : List (ℕ × LocationTree)) (n : Ident) (e : Entry) → Member {A = Ident × Entry} (n, e) (filter_map location_entry ls) → StandsIn b e
locations-stand b [] n e m = absurd m
locations-stand b ((k, l) ∷ ls) n e m =
    (elim l.name as (λ o. Member {A = Ident × Entry} (n, e) (cons_option (option_map (λ x. (x, location k)) o) (filter_map location_entry ls)) → StandsIn b e) [
      | None ↦ λ w. locations-stand b ls n e w
      | Some x ↦ λ w. elim w [ inl v ↦ subst (StandsIn b) (sym (ap (λ y. y.1) v)) tt | inr v ↦ locations-stand b ls n e v ]
    ]) m

params-stand : (b : SourceBody) (ps : List (ℕ × ParamTree)) (n : Ident) (e : Entry) → Member {A = Ident × Entry} (n, e) (map (λ x. (param_name x.1, parameter x.0 x.1)) ps) → StandsIn b e
params-stand b [] n e m = absurd m
params-stand b (p ∷ ps) n e m = elim m [ inl w ↦ subst (StandsIn b) (sym (ap (λ y. y.1) w)) tt | inr w ↦ params-stand b ps n e w ]

item-stands : (is : Source) (i : SourceItem) (n : Ident) (e : Entry) → Member i (list_of_items is) → Member {A = Ident × Entry} (n, e) (item_entries i) → StandsIn (group_body is) e
item-stands is (decl_item d) n e h m = decl-stands (group_body is) d n e m
item-stands is (component_item k b) n e h m = elim m [ inl w ↦ subst (StandsIn (group_body is)) (sym (ap (λ y. y.1) w)) tt | inr w ↦ absurd w ]
item-stands is (definition_item k ps b) n e h m = elim m [ inl w ↦ subst (StandsIn (group_body is)) (sym (ap (λ y. y.1) w)) h | inr w ↦ absurd w ]
item-stands is (instance_item j) n e h m = elim m [ inl w ↦ subst (StandsIn (group_body is)) (sym (ap (λ y. y.1) w)) tt | inr w ↦ absurd w ]

body-stands : (b : SourceBody) (n : Ident) (e : Entry) → Member {A = Ident × Entry} (n, e) (body_entries b) → StandsIn b e
body-stands (group_body is) n e m = let i = flat-cases item_entries (n, e) (list_of_items is) m in item-stands is i.0 n e i.1 i.2
body-stands (automaton_body a) n e m =
    elim (append-cases (n, e) (flat_map decl_entries a.decls) (filter_map location_entry (enumerate_from 0 a.locs)) m) [
      | inl w ↦ let d = flat-cases decl_entries (n, e) a.decls w in decl-stands (automaton_body a) d.0 n e d.2
      | inr w ↦ locations-stand (automaton_body a) (enumerate_from 0 a.locs) n e w
    ]

abbrev pub IsDefined : ScopeEntry → Type 0
IsDefined x = StandsIn (body_of x.0) x.1

at-defined : (c : Component) (xs : Entries) → ((n : Ident) (e : Entry) → Member (n, e) xs → StandsIn (body_of c) e) → (s : Text) (x : ScopeEntry) → at_entry c (entry_named s xs) ≡ reached x → IsDefined x
at-defined c xs all s x h =
    (elim (entry_named s xs) as (λ o. entry_named s xs ≡ o → at_entry c o ≡ reached x → IsDefined x) [
      | None ↦ λ i g. cc
      | Some e ↦ λ i g. let f = find-entry (λ y. same_text y.0.text s) xs e i in subst IsDefined (reached-same (c, e) x g) (all f.0 e f.1)
    ]) refl h

in_body-defined : (c : Component) (s : Text) (x : ScopeEntry) → in_body c s ≡ reached x → IsDefined x
in_body-defined c s x h = at-defined c (body_entries (body_of c)) (body-stands (body_of c)) s x h

in_scope-defined : (c : Component) (s : Text) (x : ScopeEntry) → in_scope c s ≡ reached x → IsDefined x
in_scope-defined c s x h =
    at-defined c (scope_of c)
    (λ n e m. elim (append-cases (n, e) (param_entries (params_of c)) (body_entries (body_of c)) m) [
      | inl w ↦ params-stand (body_of c) (enumerate_from 0 (params_of c)) n e w
      | inr w ↦ body-stands (body_of c) n e w
    ]) s x h

or-defined : (c o : Component) → ((s : Text) (x : ScopeEntry) → outward o s ≡ reached x → IsDefined x) → (s : Text) (x : ScopeEntry) → or_outward (in_scope c s) (outward o s) ≡ reached x → IsDefined x
or-defined c o up s x h =
    (elim (in_scope c s) as (λ r. in_scope c s ≡ r → or_outward r (outward o s) ≡ reached x → IsDefined x) [
      | reached z ↦ λ i k. in_scope-defined c s x (i ∙ k)
      | missing ↦ λ i k. up s x k
      | blocked ↦ λ i k. cc
    ]) refl h

outward-defined : (c : Component) (s : Text) (x : ScopeEntry) → outward c s ≡ reached x → IsDefined x
outward-defined (whole is) s x h = in_scope-defined (whole is) s x h
outward-defined (part o n b) s x h = or-defined (part o n b) o (outward-defined o) s x h
outward-defined (blank o n ps b) s x h = or-defined (blank o n ps b) o (outward-defined o) s x h
outward-defined (copy o n ps b g i) s x h = or-defined (copy o n ps b g i) o (outward-defined o) s x h

-- ---- bodies

-- what is written in a body is a body
abbrev pub BodyOf : Component → SourceItem → List Component → Type 0
BodyOf c (component_item n b) cs = Member (part c n b) cs
BodyOf c (definition_item n ps b) cs = Member (blank c n ps b) cs
BodyOf c _ cs = Unit {0}

body-more : (c : Component) (i : SourceItem) (xs ys : List Component) → ((d : Component) → Member d xs → Member d ys) → BodyOf c i xs → BodyOf c i ys
body-more c (component_item n b) xs ys f m = f (part c n b) m
body-more c (definition_item n ps b) xs ys f m = f (blank c n ps b) m
body-more c (decl_item d) xs ys f m = tt
body-more c (instance_item j) xs ys f m = tt

at-body : (c : Component) (i : SourceItem) → BodyOf c i (bodies_at c i)
at-body c (component_item n b) = inl refl
at-body c (definition_item n ps b) = inl refl
at-body c (decl_item d) = tt
at-body c (instance_item j) = tt

own-bodies : (c : Component) (is : Source) (i : SourceItem) → Member i (list_of_items is) → BodyOf c i (bodies_in c is)
own-bodies c no_source i m = absurd m
own-bodies c (source j is) i m =
    elim m [
      | inl w ↦ body-more c i (bodies_at c j) (bodies_at c j ++ bodies_in c is) (λ d k. append-left d (bodies_at c j) (bodies_in c is) k) (subst (λ x. BodyOf c i (bodies_at c x)) w (at-body c i))
      | inr w ↦ body-more c i (bodies_in c is) (bodies_at c j ++ bodies_in c is) (λ d k. append-right d (bodies_at c j) (bodies_in c is) k) (own-bodies c is i w)
    ]

under-bodies : (c : Component) (b : SourceBody) (i : SourceItem) → Member i (items_in b) → BodyOf c i (bodies_under c b)
under-bodies c (group_body is) i m = own-bodies c is i m
under-bodies c (automaton_body a) i m = absurd m

mutual
  in-closed : (c : Component) (is : Source) (w : Component) (i : SourceItem) → Member w (bodies_in c is) → Member i (items_in (body_of w)) → BodyOf w i (bodies_in c is)
  in-closed c no_source w i m k = absurd m
  in-closed c (source j is) w i m k =
      elim (append-cases w (bodies_at c j) (bodies_in c is) m) [
        | inl v ↦ body-more w i (bodies_at c j) (bodies_at c j ++ bodies_in c is) (λ d g. append-left d (bodies_at c j) (bodies_in c is) g) (at-closed c j w i v k)
        | inr v ↦ body-more w i (bodies_in c is) (bodies_at c j ++ bodies_in c is) (λ d g. append-right d (bodies_at c j) (bodies_in c is) g) (in-closed c is w i v k)
      ]

  at-closed : (c : Component) (j : SourceItem) (w : Component) (i : SourceItem) → Member w (bodies_at c j) → Member i (items_in (body_of w)) → BodyOf w i (bodies_at c j)
  at-closed c (decl_item d) w i m k = absurd m
  at-closed c (instance_item s) w i m k = absurd m
  at-closed c (component_item n b) w i m k =
      elim m [
        | inl v ↦ body-more w i (bodies_under (part c n b) b) (part c n b ∷ bodies_under (part c n b) b) (λ d g. inr g)
            (subst (λ x. BodyOf x i (bodies_under (part c n b) b)) (sym v) (under-bodies (part c n b) b i (subst (λ x. Member i (items_in (body_of x))) v k)))
        | inr v ↦ body-more w i (bodies_under (part c n b) b) (part c n b ∷ bodies_under (part c n b) b) (λ d g. inr g) (under-closed (part c n b) b w i v k)
      ]
  at-closed c (definition_item n ps b) w i m k =
      elim m [
        | inl v ↦ body-more w i (bodies_under (blank c n ps b) b) (blank c n ps b ∷ bodies_under (blank c n ps b) b) (λ d g. inr g)
            (subst (λ x. BodyOf x i (bodies_under (blank c n ps b) b)) (sym v) (under-bodies (blank c n ps b) b i (subst (λ x. Member i (items_in (body_of x))) v k)))
        | inr v ↦ body-more w i (bodies_under (blank c n ps b) b) (blank c n ps b ∷ bodies_under (blank c n ps b) b) (λ d g. inr g) (under-closed (blank c n ps b) b w i v k)
      ]

  under-closed : (c : Component) (b : SourceBody) (w : Component) (i : SourceItem) → Member w (bodies_under c b) → Member i (items_in (body_of w)) → BodyOf w i (bodies_under c b)
  under-closed c (group_body is) w i m k = in-closed c is w i m k
  under-closed c (automaton_body a) w i m k = absurd m

pub bodies-closed : (t : Source) (w : Component) (i : SourceItem) → Member w (bodies t) → Member i (items_in (body_of w)) → BodyOf w i (bodies t)
bodies-closed t w i m k =
    elim m [
      | inl v ↦ body-more w i (bodies_in (whole t) t) (bodies t) (λ d g. inr g) (subst (λ x. BodyOf x i (bodies_in (whole t) t)) (sym v) (own-bodies (whole t) t i (subst (λ x. Member i (items_in (body_of x))) v k)))
      | inr v ↦ body-more w i (bodies_in (whole t) t) (bodies t) (λ d g. inr g) (in-closed (whole t) t w i v k)
    ]

-- ---- listed components

module _ (t : Source) (few : length (components_of t) ≤ most_objects) where
  abbrev pub Fine : ScopeEntry → Type 0
  Fine x = Good t few x × IsDefined x

  inside-fine : (x : ScopeEntry) (ps : List Ident) (y : ScopeEntry) → Fine x → inside_written x ps ≡ reached y → Fine y
  inside-fine x [] y f h = subst (λ z. Fine z) (reached-same x y h) f
  inside-fine (c, inner n b) (p ∷ ps) y f h =
      (elim (in_body (part c n b) p.text) as (λ r. in_body (part c n b) p.text ≡ r → go_on (λ z. inside_written z ps) r ≡ reached y → Fine y) [
        | reached z ↦ λ i k.
            let inn = in_body-in (part c n b) p.text z i in
            inside-fine z ps y ((subst (λ d. Member d (components_of t)) (sym inn.0) (components-closed t c (part c n b) few f.0.0 f.0.1), inn.1), in_body-defined (part c n b) p.text z i) k
        | missing ↦ λ i k. cc
        | blocked ↦ λ i k. cc
      ]) refl h
  inside-fine (c, declared d) (p ∷ ps) y f h = cc
  inside-fine (c, literal k ls) (p ∷ ps) y f h = cc
  inside-fine (c, location k) (p ∷ ps) y f h = cc
  inside-fine (c, definition n qs b) (p ∷ ps) y f h = cc
  inside-fine (c, instance i) (p ∷ ps) y f h = cc
  inside-fine (c, parameter k q) (p ∷ ps) y f h = cc

  going : (r : Reached) → ((z : ScopeEntry) → r ≡ reached z → Fine z) → (ps : List Ident) (y : ScopeEntry) → go_on (λ x. inside_written x ps) r ≡ reached y → Fine y
  going (reached z) f ps y h = inside-fine z ps y (f z refl) h
  going missing f ps y h = cc
  going blocked f ps y h = cc

  abbrev named_of : Bool → List Ident → ℕ → Name
  named_of r ps at = record { from_root = r; parts = ps; at = at }

  looked-fine : (c : Component) → Member c (components_of t) → (r : Bool) (ps : List Ident) (at : ℕ) (y : ScopeEntry) → looked_up inside_written c (named_of r ps at) ≡ reached y → Fine y
  looked-fine c k true [] at y h = cc
  looked-fine c k false [] at y h = cc
  looked-fine c k true (p ∷ ps) at y h =
      going (in_scope (whole (specification_of c)) p.text)
      (λ z i.
      let inn = in_scope-in (whole (specification_of c)) p.text z i in
      ((subst (λ d. Member d (components_of t)) (sym (inn.0 ∙ ap whole (frames-listed t few c k).0)) (head-below most_objects (whole t)), inn.1), in_scope-defined (whole (specification_of c)) p.text z i)) ps y h
  looked-fine c k false (p ∷ ps) at y h = going (outward c p.text) (λ z i. ((frames-listed t few c k).1 p.text z i, outward-defined c p.text z i)) ps y h

  found-fine : (c : Component) → Member c (components_of t) → (i : InstanceTree) (y : ScopeEntry) → definition_found c i ≡ reached y → Fine y
  found-fine c k i y h = looked-fine c k i.def.from_root i.def.parts i.def.at y h

  pub parent-listed : (c o : Component) → stands_in c ≡ Some o → Member c (components_of t) → Member o (components_of t) × Member c (children o)
  parent-listed c o h k =
      elim (below-parent most_objects (whole t) c k) [
        | inl w ↦ absurd (none-some o (sym (ap stands_in w) ∙ h))
        | inr w ↦
            let same : w.0 ≡ o = some-same w.0 o (sym (children-parent w.0 c w.2) ∙ h) in
            (subst (λ d. Member d (components_of t)) same w.1, subst (λ d. Member c (children d)) same w.2)
      ]

  -- the outer component of an instance is listed, and the definition stands there
  pub outer-listed : (o g : Component) (n : Ident) (ps : List ParamTree) (b : SourceBody) (i : InstanceTree) → Member (copy o n ps b g i) (components_of t) → Fine (o, definition n ps b)
  outer-listed o g n ps b i k =
      let up = parent-listed (copy o n ps b g i) g refl k in
      elim (children-cases g (copy o n ps b g i) up.1) [
        | inl v ↦ absurd (not-part o n ps b g i g v.0 v.1 v.2)
        | inr v ↦ found-fine g up.0 v.0 (o, definition n ps b) (opened-found g v.0 (definition_found g v.0) o g n ps b i v.1)
      ]
    where
      not-part : (o : Component) (n : Ident) (ps : List ParamTree) (b : SourceBody) (g : Component) (i : InstanceTree) (p : Component) (m : Ident) (e : SourceBody) → copy o n ps b g i ≡ part p m e → ⊥
      not-part o n ps b g i p m e h = cc
