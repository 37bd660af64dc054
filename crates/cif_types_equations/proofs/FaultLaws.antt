-- The first algebraic variable that is found breaks the rule, and where none is found none breaks it.
use Rattle.std.proofs.Common.{◌≡◌, ◌≢◌, ℕ, ◌+◌, Bool, true, false, cond, List, [], ◌∷◌, ◌++◌, map, length, refl, sym, ap, subst, ◌∙◌, Option, Some, None, zero-add, length-append, arith}
use Rattle.std.specs.Prelude.{nat_eq, filter_map}
use Rattle.std.specs.Option.{option_or, option_to_list}
use Rattle.std.specs.List.{Any, Contains}
use Rattle.std.proofs.lemmas.Bool.Decides.{nat_tests}
use Rattle.cif_ast.specs.Tree.{Tree}
use Rattle.cif_ast.specs.declared.names.Ident.{Ident}
use Rattle.cif_system.specs.Words.{Member}
use Rattle.cif_system.proofs.Lists.{some-same, none-some}
use Rattle.cif_source.specs.Source.{Text, DeclTree, type_decl, enum_decl, event_decl, const_decl, alg_decl, input_decl, disc_decl, equation_decl, invariant_decl, marked_decl, LocationTree, AutomatonTree, SourceBody, group_body, automaton_body, Source}
use Rattle.cif_source.specs.Components.{Component, body_of}
use Rattle.cif_source.specs.Objects.{bodies, decls_of}
use Rattle.cif_source.specs.Value.{decl_equation_for, own_definitions, location_definitions}
use Rattle.cif_source.specs.BodyRules.{alg_of, algs_of, definition_counts, EquationsDue}
use Rattle.cif_scope.specs.Tables.{Beside}
use Rattle.cif_scope.specs.Written.{WrittenBody, written_bodies}
use Rattle.cif_scope.proofs.DefinitionLaws.{IsWritten, bodies-written}
use Rattle.cif_types_equations.specs.declared.error.EquationErr.{EquationErr}
use Rattle.cif_types_equations.specs.declared.error.EquationErr.TheVariants.{Equations, Memory}
use Rattle.cif_types_equations.specs.Tallies.{Tallied, tally_in, decls_tallied}
use Rattle.cif_types_equations.specs.Counts.{value_count, unless_one, first_some, equation_count, location_other, first_other, other_count}
use Rattle.cif_types_equations.specs.Faults.{body_tallied, told, alg_fault, decl_fault, body_fault, fault_in, due}
use Rattle.cif_types_equations.proofs.TallyLaws.{decls-tallied, locations-tallied, placed_from}
use Rattle.cif_types_equations.proofs.CountLaws.{other-is}
use Rattle.cif_source.proofs.Elements.{from-any, to-any, from-contains, to-contains}
use Rattle.cif_types_equations.proofs.ElementLaws.{later-nothing, first-told, first-none, from-kept, to-kept}

-- ---- one variable

-- a variable's own definitions, in a body with these declarations
abbrev own_of : List DeclTree → Text → Option Tree → ℕ
own_of ds x e = length (option_to_list e ++ filter_map (decl_equation_for x) ds)

value-is : (e : Option Tree) (qs : List Tree) → value_count e + length qs ≡ length (option_to_list e ++ qs)
value-is None qs = zero-add (length qs)
value-is (Some v) qs = omega arith

plain-own : (ds : List DeclTree) (x : Text) → (tally_in (decls_tallied [] ds) x).own ≡ length (filter_map (decl_equation_for x) ds)
plain-own ds x = ap (λ t. t.own) (decls-tallied x ds []) ∙ zero-add (length (filter_map (decl_equation_for x) ds))

own-is : (b : SourceBody) (ds : List DeclTree) (x : Text) → (tally_in (body_tallied b ds) x).own ≡ length (filter_map (decl_equation_for x) ds)
own-is (group_body is) ds x = plain-own ds x
own-is (automaton_body a) ds x = ap (λ t. t.own) (locations-tallied x a.locs 0 (decls_tallied [] ds)) ∙ plain-own ds x

placed-is : (a : AutomatonTree) (ds : List DeclTree) (x : Text) → (tally_in (body_tallied (automaton_body a) ds) x).placed ≡ placed_from x 0 a.locs (Some 0)
placed-is a ds x = ap (λ t. t.placed) (locations-tallied x a.locs 0 (decls_tallied [] ds)) ∙ ap (λ t. placed_from x 0 a.locs t.placed) (decls-tallied x ds [])

-- the numbers of its definitions
abbrev counts_in : SourceBody → ℕ → Text → List ℕ
counts_in (group_body is) n x = n ∷ []
counts_in (automaton_body a) n x = map (λ (l : LocationTree). n + equation_count x l.equations) a.locs

locations-other : (n : ℕ) (x : Text) (ls : List LocationTree) → first_other n x ls ≡ first_some unless_one (map (λ (l : LocationTree). n + equation_count x l.equations) ls)
locations-other n x [] = refl
locations-other n x (l ∷ ls) = ap (option_or (location_other n x l)) (locations-other n x ls)

other-first : (b : SourceBody) (ds : List DeclTree) (n : ℕ) (x : Text) → other_count b (tally_in (body_tallied b ds) x) n x ≡ first_some unless_one (counts_in b n x)
other-first (group_body is) ds n x = sym (later-nothing (unless_one n))
other-first (automaton_body a) ds n x = other-is x n a (tally_in (body_tallied (automaton_body a) ds) x) (placed-is a ds x) ∙ locations-other n x a.locs

locations-counted : (own : List Tree) (x : Text) (ls : List LocationTree) → map (λ (l : LocationTree). length own + equation_count x l.equations) ls ≡ map (λ (l : LocationTree). length (own ++ location_definitions x l)) ls
locations-counted own x [] = refl
locations-counted own x (l ∷ ls) = let e = sym (length-append own (location_definitions x l)) in ap (λ n. n ∷ map (λ (m : LocationTree). length own + equation_count x m.equations) ls) e ∙ ap (λ ns. length (own ++ location_definitions x l) ∷ ns) (locations-counted own x ls)

counts-are : (c : Component) (b : SourceBody) (x : Text) (e : Option Tree) → body_of c ≡ b → counts_in b (length (own_definitions c x e)) x ≡ definition_counts c x e
counts-are c b x e h = go b ∙ ap (λ d. counts d) (sym h)
  where
    counts : SourceBody → List ℕ
    counts d = elim d [
      | group_body is ↦ length (own_definitions c x e) ∷ []
      | automaton_body a ↦ map (λ l. length (own_definitions c x e ++ location_definitions x l)) a.locs
    ]

    go : (d : SourceBody) → counts_in d (length (own_definitions c x e)) x ≡ counts d
    go (group_body is) = refl
    go (automaton_body a) = locations-counted (own_definitions c x e) x a.locs

module _ (c : Component) where
  abbrev tallies : Tallied
  tallies = body_tallied (body_of c) (decls_of c)

  abbrev counts : Ident × Option Tree → List ℕ
  counts a = definition_counts c a.0.text a.1

  alg-is : (n : Ident) (e : Option Tree) → alg_fault tallies (body_of c) n e ≡ told n.at (first_some unless_one (counts (n, e)))
  alg-is n e =
      let own : value_count e + (tally_in tallies n.text).own ≡ length (own_definitions c n.text e) = ap (λ m. value_count e + m) (own-is (body_of c) (decls_of c) n.text) ∙ value-is e (filter_map (decl_equation_for n.text) (decls_of c)) in
      ap (told n.at) (
      ap (λ m. other_count (body_of c) (tally_in tallies n.text) m n.text) own ∙ other-first (body_of c) (decls_of c) (length (own_definitions c n.text e)) n.text
      ∙ ap (first_some unless_one) (counts-are c (body_of c) n.text e refl)
      )

  -- the fault of a declaration is that of its algebraic variable
  abbrev fault : DeclTree → Option EquationErr
  fault d = decl_fault tallies (body_of c) d

  abbrev alg_told : Ident × Option Tree → Option EquationErr
  alg_told a = told a.0.at (first_some unless_one (counts a))

  decl-told : (d : DeclTree) (e : EquationErr) → fault d ≡ Some e → (a : Ident × Option Tree) × (alg_of d ≡ Some a) × (alg_told a ≡ Some e)
  decl-told (alg_decl ty n v) e h = ((n, v), refl, sym (alg-is n v) ∙ h)
  decl-told (type_decl n ty) e h = absurd (none-some e h)
  decl-told (enum_decl n ls) e h = absurd (none-some e h)
  decl-told (event_decl k ch n) e h = absurd (none-some e h)
  decl-told (const_decl ty n v) e h = absurd (none-some e h)
  decl-told (input_decl ty n) e h = absurd (none-some e h)
  decl-told (disc_decl ty n v) e h = absurd (none-some e h)
  decl-told (equation_decl q) e h = absurd (none-some e h)
  decl-told (invariant_decl i) e h = absurd (none-some e h)
  decl-told (marked_decl p) e h = absurd (none-some e h)

  decl-none : (d : DeclTree) (a : Ident × Option Tree) → alg_of d ≡ Some a → fault d ≡ None → alg_told a ≡ None
  decl-none (alg_decl ty n v) a e h = ap alg_told (sym (some-same (n, v) a e)) ∙ sym (alg-is n v) ∙ h
  decl-none (type_decl n ty) a e h = absurd (none-some a e)
  decl-none (enum_decl n ls) a e h = absurd (none-some a e)
  decl-none (event_decl k ch n) a e h = absurd (none-some a e)
  decl-none (const_decl ty n v) a e h = absurd (none-some a e)
  decl-none (input_decl ty n) a e h = absurd (none-some a e)
  decl-none (disc_decl ty n v) a e h = absurd (none-some a e)
  decl-none (equation_decl q) a e h = absurd (none-some a e)
  decl-none (invariant_decl i) a e h = absurd (none-some a e)
  decl-none (marked_decl p) a e h = absurd (none-some a e)

  -- ---- a body

  abbrev Breaks : ℕ → ℕ → Type 0
  Breaks at count = (a : Ident × Option Tree) × Member a (algs_of c) × (a.0.at ≡ at) × Member count (counts a) × (count ≢ 1)

  one-kept : (k : ℕ) → unless_one k ≡ None → k ≡ 1
  one-kept k h = go (nat_eq k 1) refl h
    where
      is : nat_eq k 1 ≡ true → k ≡ 1
      is e = grind (arith, nat_tests)

      go : (b : Bool) → nat_eq k 1 ≡ b → cond b None (Some k) ≡ None → k ≡ 1
      go true e g = is e
      go false e g = absurd (none-some k (sym g))

  one-told : (j k : ℕ) → unless_one j ≡ Some k → (j ≡ k) × (k ≢ 1)
  one-told j k h = go (nat_eq j 1) refl h
    where
      not-one : nat_eq j 1 ≡ false → j ≡ k → k ≢ 1
      not-one e f g = let o : j ≡ 1 = f ∙ g in let t : nat_eq j 1 ≡ true = ap (λ z. nat_eq z 1) o in absurd cc

      go : (b : Bool) → nat_eq j 1 ≡ b → cond b None (Some j) ≡ Some k → (j ≡ k) × (k ≢ 1)
      go true e g = absurd (none-some k g)
      go false e g = let f = some-same j k g in (f, not-one e f)

  told-parts : (at : ℕ) (o : Option ℕ) (e : EquationErr) → told at o ≡ Some e → (k : ℕ) × (o ≡ Some k) × (Equations at k ≡ e)
  told-parts at None e h = absurd (none-some e h)
  told-parts at (Some k) e h = (k, refl, some-same (Equations at k) e h)

  told-none : (at : ℕ) (o : Option ℕ) → told at o ≡ None → o ≡ None
  told-none at None h = refl
  told-none at (Some k) h = absurd (none-some (Equations at k) (sym h))

  -- what is told of it is so
  abbrev Told : EquationErr → Type 0
  Told (Equations at count) = Breaks at count
  Told Memory = Unit {0}

  body-told : (e : EquationErr) → body_fault (body_of c) ≡ Some e → Told e
  body-told e h =
      let d = first-told fault (decls_of c) e h in
      let a = decl-told d.0 e d.2 in
      let k = told-parts a.0.0.at (first_some unless_one (counts a.0)) e a.2 in
      let n = first-told unless_one (counts a.0) k.0 k.1 in
      let one = one-told n.0 k.0 n.2 in
      subst Told k.2 (a.0, to-kept alg_of (decls_of c) d.0 a.0 d.1 a.1, refl, subst (λ m. Member m (counts a.0)) one.0 n.1, one.1)

  body-none : (at count : ℕ) → body_fault (body_of c) ≡ None → Breaks at count → ⊥
  body-none at count h w =
      let d = from-kept alg_of (decls_of c) w.0 w.1 in
      let none = told-none w.0.0.at (first_some unless_one (counts w.0)) (decl-none d.0 w.0 d.2 (first-none fault (decls_of c) d.0 h d.1)) in
      w.4 (one-kept count (first-none unless_one (counts w.0) count none w.3))

-- ---- all bodies

faults-same : (cs : List Component) (ws : List WrittenBody) → Beside IsWritten cs ws → first_some (λ c. body_fault (body_of c)) cs ≡ fault_in ws
faults-same [] [] h = refl
faults-same [] (w ∷ ws) h = absurd h
faults-same (c ∷ cs) [] h = absurd h
faults-same (c ∷ cs) (w ∷ ws) h = ap (λ b. option_or (body_fault b) (first_some (λ d. body_fault (body_of d)) cs)) h.0.1 ∙ ap (option_or (body_fault w.body)) (faults-same cs ws h.1)

abbrev SourceBreaks : Source → ℕ → ℕ → Type 0
SourceBreaks t at count = (c : Component) × Member c (bodies t) × Breaks c at count

broken-due : (t : Source) (at count : ℕ) → SourceBreaks t at count → EquationsDue t at count
broken-due t at count w =
    let a = w.2 in
    let P : Ident × Option Tree → Type 0 = λ z. (z.0.at ≡ at) × Contains (definition_counts w.0 z.0.text z.1) count × (count ≢ 1) in
    to-any (λ c. Any (λ (z : Ident × Option Tree). (z.0.at ≡ at) × Contains (definition_counts c z.0.text z.1) count × (count ≢ 1)) (algs_of c)) w.0 (bodies t) w.1
    (to-any P a.0 (algs_of w.0) a.1 (a.2, to-contains (counts w.0 a.0) count a.3, a.4))

due-broken : (t : Source) (at count : ℕ) → EquationsDue t at count → SourceBreaks t at count
due-broken t at count h =
    let c = from-any (λ c. Any (λ (z : Ident × Option Tree). (z.0.at ≡ at) × Contains (definition_counts c z.0.text z.1) count × (count ≢ 1)) (algs_of c)) (bodies t) h in
    let a = from-any (λ (z : Ident × Option Tree). (z.0.at ≡ at) × Contains (definition_counts c.0 z.0.text z.1) count × (count ≢ 1)) (algs_of c.0) c.2 in
    (c.0, c.1, (a.0, a.1, a.2.0, from-contains (counts c.0 a.0) count a.2.1, a.2.2))

told-due : (t : Source) (c : Component) (e : EquationErr) → Member c (bodies t) → Told c e → due t e
told-due t c (Equations at count) m h = broken-due t at count (c, m, h)
told-due t c Memory m h = tt

abbrev all-same : (t : Source) → first_some (λ c. body_fault (body_of c)) (bodies t) ≡ fault_in (written_bodies t)
all-same t = faults-same (bodies t) (written_bodies t) (bodies-written t)

pub fault-due : (t : Source) (f : Option EquationErr) (e : EquationErr) → f ≡ fault_in (written_bodies t) → f ≡ Some e → due t e
fault-due t f e h g =
    let c = first-told (λ c. body_fault (body_of c)) (bodies t) e (all-same t ∙ sym h ∙ g) in
    told-due t c.0 e c.1 (body-told c.0 e c.2)

pub none-due : (t : Source) (f : Option EquationErr) → f ≡ fault_in (written_bodies t) → f ≡ None → (at count : ℕ) → EquationsDue t at count → ⊥
none-due t f h g at count w =
    let b = due-broken t at count w in
    body-none b.0 at count (first-none (λ c. body_fault (body_of c)) (bodies t) b.0 (all-same t ∙ sym h ∙ g) b.1) b.2
