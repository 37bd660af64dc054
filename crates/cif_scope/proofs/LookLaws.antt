-- Looking a name up in scopes by numbers is looking it up in the components.
use Rattle.std.proofs.Common.{◌≡◌, ℕ, zero, suc, ◌+◌, ◌<◌, Bool, true, false, cond, List, [], ◌∷◌, ◌++◌, map, find, refl, sym, ap, subst, ◌∙◌, arith, Option, Some, None, inl, inr}
use Rattle.std.specs.Prelude.{slice_get, option_map}
use Rattle.std.specs.List.{enumerate_from}
use Rattle.grammar.proofs.Texts.{same_is, same_equal}
use Rattle.cif_system.specs.Words.{Member, AreDistinct}
use Rattle.cif_system.proofs.Picks.{append-right}
use Rattle.std.proofs.lemmas.List.{map-append}
use Rattle.cif_system.proofs.Lists.{some-same, none-some}
use Rattle.cif_ast.specs.declared.names.Ident.{Ident}
use Rattle.cif_source.specs.Source.{Text, ParamTree, Source}
use Rattle.cif_source.specs.Components.{Component, whole, part, blank, copy, body_of, params_of, as_written, scope_of, body_entries, param_entries, param_name, Entry, Entries, declared, literal, location, inner, definition, instance, parameter, entry_named, same_text}
use Rattle.cif_source.specs.Lookup.{Reached, reached, missing, blocked, at_entry, in_scope, or_outward, outward}
use Rattle.cif_source.proofs.NameLaws.{is_parameter, in_body-own}
use Rattle.cif_scope.specs.declared.scope.What.{What}
use Rattle.cif_scope.specs.declared.scope.ScopeName.{ScopeName}
use Rattle.cif_scope.specs.declared.scope.Scope.{Scope}
use Rattle.cif_scope.specs.declared.looked.Looked.{Looked}
use Rattle.cif_scope.specs.declared.looked.Looked.TheVariants.{At, Missing, Blocked}
use Rattle.cif_scope.specs.declared.table.Table.{Table}
use Rattle.cif_scope.specs.Places.{slot_in}
use Rattle.cif_scope.specs.Tables.{IsBody, Beside, IsWhat, IsName, IsOuter, IsTable}
use Rattle.cif_scope.specs.Looks.{text_of, texts_of, slot_among, slot_at, outer_in, outer_at, what_at, names_in, further_out, here_or, look_out, unless_parameter, at_own, look_inside}
use Rattle.cif_scope.specs.Scopes.{IsIndexed, IsEntry}
use Rattle.cif_scope.proofs.Places.{beside-at}
use Rattle.cif_scope.proofs.BodyLaws.{height, row-of, body-written, scope-written}

pub get-map : {A B : Type 0} (f : A → B) (xs : List A) (k : ℕ) (x : A) → slice_get xs k ≡ Some x → slice_get (map f xs) k ≡ Some (f x)
get-map f [] k x h = absurd (none-some x h)
get-map f (y ∷ xs) zero x h = ap (λ z. Some (f z)) (some-same y x h)
get-map f (y ∷ xs) (suc k) x h = get-map f xs k x h

-- ---- what is declared under a name

-- the entry, and the slot in which it stands
abbrev pub Slotted : Entries → Option Entry → Option ℕ → Type 0
Slotted es None None = Unit {0}
Slotted es (Some e) (Some s) = (n : Ident) × (slice_get es s ≡ Some (n, e))
Slotted es None (Some s) = ⊥
Slotted es (Some e) None = ⊥

slotted-more : (es : Entries) (x : Ident × Entry) (o : Option Entry) (s : Option ℕ) → Slotted es o s → Slotted (x ∷ es) o (option_map suc s)
slotted-more es x None None h = tt
slotted-more es x (Some e) (Some s) h = h
slotted-more es x None (Some s) h = absurd h
slotted-more es x (Some e) None h = absurd h

pub slotted : (t : Source) (c : Component) (es : Entries) (ns : List ScopeName) (x : Text) → Beside (IsName t c) es ns → Slotted es (entry_named x es) (slot_in (map text_of ns) x)
slotted t c [] [] x h = tt
slotted t c [] (n ∷ ns) x h = absurd h
slotted t c (e ∷ es) [] x h = absurd h
slotted t c (e ∷ es) (n ∷ ns) x h =
    let text : n.name.text ≡ e.0.text = ap (λ (i : Ident). i.text) h.0.0 in
    subst (λ y. Slotted (e ∷ es) (entry_named x (e ∷ es)) (cond (same_text y x) (Some 0) (option_map suc (slot_in (map text_of ns) x)))) (sym text)
    (go (same_text e.0.text x) (slotted t c es ns x h.1))
  where
    go : (b : Bool) → Slotted es (entry_named x es) (slot_in (map text_of ns) x)
        → Slotted (e ∷ es) (option_map (λ y. y.1) (cond b (Some e) (find (λ y. same_text y.0.text x) es))) (cond b (Some 0) (option_map suc (slot_in (map text_of ns) x)))
    go true ih = (e.0, refl)
    go false ih = slotted-more es e (entry_named x es) (slot_in (map text_of ns) x) ih

-- ---- outward

-- where a name leads, and by numbers
abbrev pub Agrees : Source → Reached → Looked → Type 0
Agrees t (reached (d, e)) (At k s) = IsBody t k (as_written d) × IsEntry d e s
Agrees t (reached (d, e)) Missing = ⊥
Agrees t (reached (d, e)) Blocked = ⊥
Agrees t missing (At k s) = ⊥
Agrees t missing Missing = Unit {0}
Agrees t missing Blocked = ⊥
Agrees t blocked (At k s) = ⊥
Agrees t blocked Missing = ⊥
Agrees t blocked Blocked = Unit {0}

or-missing : (r : Reached) → or_outward r missing ≡ r
or-missing (reached x) = refl
or-missing missing = refl
or-missing blocked = refl

module _ (t : Source) (tb : Table) (table : IsTable t tb.scopes) (ix : IsIndexed tb) where
  names-of : (k : ℕ) (s : Scope) → slice_get tb.scopes k ≡ Some s → slice_get tb.names k ≡ Some (texts_of s)
  names-of k s h = ap (λ l. slice_get l k) ix.names ∙ get-map texts_of tb.scopes k s h

  pub slot-is : (k : ℕ) (c : Component) (x : Text) → IsBody t k c → Slotted (scope_of c) (entry_named x (scope_of c)) (slot_at tb k x)
  slot-is k c x h =
      let r = row-of t tb.scopes table k c h in
      subst (λ o. Slotted (scope_of c) (entry_named x (scope_of c)) (slot_among o x)) (sym (names-of k r.0 r.1)) (slotted t c (scope_of c) r.0.names x r.2.names)

  pub what-is : (k s : ℕ) (c : Component) (e : Entry) → IsBody t k c → IsEntry c e s → (w : What) × (what_at tb k s ≡ Some w) × IsWhat t c e w
  what-is k s c e h g =
      let r = row-of t tb.scopes table k c h in
      let n = beside-at (IsName t c) (scope_of c) r.0.names s (g.0, e) r.2.names g.1 in
      (n.0.what, ap (λ o. option_map (λ (m : ScopeName). m.what) (slice_get (names_in o) s)) r.1 ∙ ap (option_map (λ (m : ScopeName). m.what)) n.1, n.2.1)

  here-is : (k : ℕ) (c : Component) (o : Option Entry) (s : Option ℕ) (r : Reached) (rest : Looked) → IsBody t k c → Slotted (scope_of c) o s → Agrees t r rest
      → Agrees t (or_outward (at_entry c o) r) (here_or k s rest)
  here-is k c None None r rest own h a = a
  here-is k c (Some e) (Some s) r rest own h a = (own ∙ ap Some (sym (body-written t tb.scopes table c k own)), h)
  here-is k c None (Some s) r rest own h a = absurd h
  here-is k c (Some e) None r rest own h a = absurd h

  outward-is : (k n : ℕ) (c : Component) (x : Text) (r : Reached) → IsBody t k c → ((o : Option ℕ) → IsOuter t c o → Agrees t r (further_out (λ j. look_out tb n j x) o))
      → Agrees t (or_outward (in_scope c x) r) (look_out tb (suc n) k x)
  outward-is k n c x r own rest =
      let row = row-of t tb.scopes table k c own in
      let outer : outer_at tb k ≡ row.0.outer = ap outer_in row.1 in
      subst (λ o. Agrees t (or_outward (in_scope c x) r) (here_or k (slot_at tb k x) (further_out (λ j. look_out tb n j x) o))) (sym outer)
      (here-is k c (entry_named x (scope_of c)) (slot_at tb k x) r (further_out (λ j. look_out tb n j x) row.0.outer) own (slot-is k c x own) (rest row.0.outer row.2.outer))

  go-out : (n : ℕ) (p : Component) (x : Text) → ((j : ℕ) → IsBody t j p → Agrees t (outward p x) (look_out tb n j x)) → (o : Option ℕ) → ((k : ℕ) × (o ≡ Some k) × IsBody t k p)
      → Agrees t (outward p x) (further_out (λ j. look_out tb n j x) o)
  go-out n p x go o h = subst (λ q. Agrees t (outward p x) (further_out (λ j. look_out tb n j x) q)) (sym h.1) (go h.0 h.2)

  pub look-is : (c : Component) (n k : ℕ) (x : Text) → height c < n → IsBody t k c → Agrees t (outward c x) (look_out tb n k x)
  look-is c zero k x small own = absurd (omega arith)
  look-is (whole is) (suc n) k x small own =
      subst (λ r. Agrees t r (look_out tb (suc n) k x)) (or-missing (in_scope (whole is) x))
      (outward-is k n (whole is) x missing own (λ o e. subst (λ q. Agrees t missing (further_out (λ j. look_out tb n j x) q)) (sym e.0) tt))
  look-is (part p m b) (suc n) k x small own = let less : height p < n = omega arith in outward-is k n (part p m b) x (outward p x) own (go-out n p x (λ j g. look-is p n j x less g))
  look-is (blank p m ps b) (suc n) k x small own = let less : height p < n = omega arith in outward-is k n (blank p m ps b) x (outward p x) own (go-out n p x (λ j g. look-is p n j x less g))
  look-is (copy p m ps b g i) (suc n) k x small own = absurd (row-of t tb.scopes table k (copy p m ps b g i) own).2.outer

-- ---- in a body, parameters excluded

abbrev called : Text → Ident × Entry → Bool
called x e = same_text e.0.text x

find-append-none : {A : Type 0} (p : A → Bool) (xs ys : List A) → find p xs ≡ None → find p (xs ++ ys) ≡ find p ys
find-append-none p [] ys h = refl
find-append-none p (x ∷ xs) ys h = go (p x) h (find-append-none p xs ys)
  where
    go : (b : Bool) → cond b (Some x) (find p xs) ≡ None → (find p xs ≡ None → find p (xs ++ ys) ≡ find p ys) → cond b (Some x) (find p (xs ++ ys)) ≡ find p ys
    go true h ih = absurd (none-some x (sym h))
    go false h ih = ih h

find-append-some : {A : Type 0} (p : A → Bool) (xs ys : List A) (z : A) → find p xs ≡ Some z → find p (xs ++ ys) ≡ Some z
find-append-some p [] ys z h = absurd (none-some z h)
find-append-some p (x ∷ xs) ys z h = go (p x) h (find-append-some p xs ys z)
  where
    go : (b : Bool) → cond b (Some x) (find p xs) ≡ Some z → (find p xs ≡ Some z → find p (xs ++ ys) ≡ Some z) → cond b (Some x) (find p (xs ++ ys)) ≡ Some z
    go true h ih = h
    go false h ih = ih h

params-found : (p : Ident × Entry → Bool) (k : ℕ) (ps : List ParamTree) (z : Ident × Entry) → find p (map (λ x. (param_name x.1, parameter x.0 x.1)) (enumerate_from k ps)) ≡ Some z
    → (j : ℕ) × (q : ParamTree) × (z.1 ≡ parameter j q)
params-found p k [] z h = absurd (none-some z h)
params-found p k (q ∷ ps) z h = go (p (param_name q, parameter k q)) h (params-found p (k + 1) ps z)
  where
    go : (b : Bool) → cond b (Some (param_name q, parameter k q)) (find p (map (λ x. (param_name x.1, parameter x.0 x.1)) (enumerate_from (k + 1) ps))) ≡ Some z
        → (find p (map (λ x. (param_name x.1, parameter x.0 x.1)) (enumerate_from (k + 1) ps)) ≡ Some z → (j : ℕ) × (r : ParamTree) × (z.1 ≡ parameter j r))
        → (j : ℕ) × (r : ParamTree) × (z.1 ≡ parameter j r)
    go true h ih = (k, q, ap (λ (e : Ident × Entry). e.1) (sym (some-same (param_name q, parameter k q) z h)))
    go false h ih = ih h

abbrev text_named : Ident × Entry → Text
text_named e = e.0.text

pub same-text : (x y : Text) → same_text x y ≡ true → x ≡ y
same-text x y h = same_equal x y (sym (same_is x y) ∙ h)

found-member : (x : Text) (es : Entries) (z : Ident × Entry) → find (called x) es ≡ Some z → Member x (map text_named es)
found-member x [] z h = absurd (none-some z h)
found-member x (e ∷ es) z h = go (same_text e.0.text x) refl h (found-member x es z)
  where
    go : (b : Bool) → same_text e.0.text x ≡ b → cond b (Some e) (find (called x) es) ≡ Some z → (find (called x) es ≡ Some z → Member x (map text_named es)) → Member x (map text_named (e ∷ es))
    go true g h ih = inl (sym (same-text e.0.text x g))
    go false g h ih = inr (ih h)

distinct-apart : (x : Text) (xs ys : List Text) → AreDistinct (xs ++ ys) → Member x xs → Member x ys → ⊥
distinct-apart x [] ys d m n = m
distinct-apart x (y ∷ xs) ys d m n = elim m [ inl e ↦ d.0 (append-right y xs ys (subst (λ z. Member z ys) e n)) | inr w ↦ distinct-apart x xs ys d.1 w n ]

pub beside-texts : (t : Source) (c : Component) (es : Entries) (ns : List ScopeName) → Beside (IsName t c) es ns → map text_of ns ≡ map text_named es
beside-texts t c [] [] h = refl
beside-texts t c [] (n ∷ ns) h = absurd h
beside-texts t c (e ∷ es) [] h = absurd h
beside-texts t c (e ∷ es) (n ∷ ns) h = ap (λ (i : Ident). i.text ∷ map text_of ns) h.0.0 ∙ ap (λ (l : List Text). e.0.text ∷ l) (beside-texts t c es ns h.1)

-- what a body declares under a name, by numbers
abbrev pub Owned : Component → ℕ → Option Entry → Looked → Type 0
Owned d k None l = l ≡ Missing
Owned d k (Some e) l = (s : ℕ) × (l ≡ At k s) × IsEntry d e s

plain-what : (t : Source) (c : Component) (k s : ℕ) (e : Entry) (w : What) → IsWhat t c e w → is_parameter e ≡ false → unless_parameter k s (Some w) ≡ At k s
plain-what t c k s (declared d) w h p = ap (λ v. unless_parameter k s (Some v)) h.1
plain-what t c k s (literal j ls) w h p = ap (λ v. unless_parameter k s (Some v)) h
plain-what t c k s (location j) w h p = ap (λ v. unless_parameter k s (Some v)) h
plain-what t c k s (inner n b) w h p = ap (λ v. unless_parameter k s (Some v)) h.1
plain-what t c k s (definition n ps b) w h p = ap (λ v. unless_parameter k s (Some v)) h.1
plain-what t c k s (instance i) w h p = ap (λ v. unless_parameter k s (Some v)) h.1
plain-what t c k s (parameter j q) w h p = absurd cc

param-what : (t : Source) (c : Component) (k s j : ℕ) (q : ParamTree) (e : Entry) (w : What) → IsWhat t c e w → e ≡ parameter j q → unless_parameter k s (Some w) ≡ Missing
param-what t c k s j q e w h p = let g : IsWhat t c (parameter j q) w = subst (λ f. IsWhat t c f w) p h in ap (λ v. unless_parameter k s (Some v)) g

module _ (t : Source) (tb : Table) (table : IsTable t tb.scopes) (ix : IsIndexed tb) (d : Component) (k : ℕ) (own : IsBody t k (as_written d)) (x : Text) where
  abbrev front : Entries
  front = param_entries (params_of d)

  abbrev rest : Entries
  rest = body_entries (body_of d)

  slotted-here : Slotted (scope_of d) (entry_named x (scope_of d)) (slot_at tb k x)
  slotted-here = subst (λ (es : Entries). Slotted es (entry_named x es) (slot_at tb k x)) (scope-written d) (slot-is t tb table ix k (as_written d) x own)

  what-here : (s : ℕ) (e : Entry) → IsEntry d e s → (w : What) × (what_at tb k s ≡ Some w) × IsWhat t (as_written d) e w
  what-here s e h = what-is t tb table ix k s (as_written d) e own (h.0, ap (λ (es : Entries). slice_get es s) (scope-written d) ∙ h.1)

  apart : Member x (map text_named front) → Member x (map text_named rest) → ⊥
  apart m n =
      let r = row-of t tb.scopes table k (as_written d) own in
      let texts : texts_of r.0 ≡ map text_named (front ++ rest) = beside-texts t (as_written d) (scope_of (as_written d)) r.0.names r.2.names ∙ ap (λ (es : Entries). map text_named es) (scope-written d) in
      let two : map text_named (front ++ rest) ≡ map text_named front ++ map text_named rest = map-append text_named front rest in
      distinct-apart x (map text_named front) (map text_named rest) (subst (λ (l : List Text). AreDistinct l) (texts ∙ two) (ix.distinct k r.0 r.1)) m n

  entry-is : (z : Ident × Entry) (o : Option ℕ) → Slotted (scope_of d) (Some z.1) o → slot_at tb k x ≡ o → (s : ℕ) × (slot_at tb k x ≡ Some s) × IsEntry d z.1 s
  entry-is z None h e = absurd h
  entry-is z (Some s) h e = (s, e, h)

  scope-find : (o : Option (Ident × Entry)) → find (called x) (front ++ rest) ≡ o → Slotted (scope_of d) (option_map (λ e. e.1) o) (slot_at tb k x)
  scope-find o h = subst (λ q. Slotted (scope_of d) (option_map (λ e. e.1) q) (slot_at tb k x)) h slotted-here

  none-slot : (o : Option ℕ) → slot_at tb k x ≡ o → Slotted (scope_of d) None o → look_inside tb k x ≡ Missing
  none-slot None e h = ap (at_own tb k) e
  none-slot (Some s) e h = absurd h

  owned-body : (z : Ident × Entry) → find (called x) front ≡ None → find (called x) rest ≡ Some z → Owned d k (Some z.1) (look_inside tb k x)
  owned-body z h g =
      let s = entry-is z (slot_at tb k x) (scope-find (Some z) (find-append-none (called x) front rest h ∙ g)) refl in
      let w = what-here s.0 z.1 s.2 in
      let plain : is_parameter z.1 ≡ false = in_body-own d x (d, z.1) (ap (λ o. at_entry d (option_map (λ (e : Ident × Entry). e.1) o)) g) in
      (s.0, ap (at_own tb k) s.1 ∙ ap (unless_parameter k s.0) w.1 ∙ plain-what t (as_written d) k s.0 z.1 w.0 w.2 plain, s.2)

  owned-param : (z : Ident × Entry) → find (called x) front ≡ Some z → look_inside tb k x ≡ Missing
  owned-param z h =
      let s = entry-is z (slot_at tb k x) (scope-find (Some z) (find-append-some (called x) front rest z h)) refl in
      let w = what-here s.0 z.1 s.2 in
      let p = params-found (called x) 0 (params_of d) z h in
      ap (at_own tb k) s.1 ∙ ap (unless_parameter k s.0) w.1 ∙ param-what t (as_written d) k s.0 p.0 p.1 z.1 w.0 w.2 p.2

  owned : (a b : Option (Ident × Entry)) → find (called x) front ≡ a → find (called x) rest ≡ b → Owned d k (option_map (λ e. e.1) b) (look_inside tb k x)
  owned None None h g = none-slot (slot_at tb k x) refl (scope-find None (find-append-none (called x) front rest h ∙ g))
  owned None (Some z) h g = owned-body z h g
  owned (Some z) None h g = owned-param z h
  owned (Some z) (Some y) h g = absurd (apart (found-member x front z h) (found-member x rest y g))

  pub own-is : Owned d k (entry_named x rest) (look_inside tb k x)
  own-is = owned (find (called x) front) (find (called x) rest) refl refl
