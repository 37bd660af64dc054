-- The tables give the numbers of declarations and automata.
use Rattle.std.proofs.Common.{◌≡◌, ℕ, zero, suc, ◌+◌, ◌<◌, ◌≤◌, Bool, true, List, [], ◌∷◌, length, take, Option, Some, None, refl, sym, ◌∙◌, ap, subst, arith}
use Rattle.std.specs.Prelude.{◌^◌, slice_get, unwrap_or}
use Rattle.std.proofs.lemmas.Cmp.{nat_list_eq_equiv}
use Rattle.std.proofs.lemmas.List.{take_all}
use Rattle.cif_ast.specs.declared.names.Ident.{Ident}
use Rattle.cif_system.specs.Words.{AreDistinct}
use Rattle.cif_system.proofs.Lists.{some-same, none-some, slice_get-below}
use Rattle.cif_system.proofs.Picks.{at-member}
use Rattle.cif_source.specs.Source.{Text, DeclTree, type_decl, enum_decl, event_decl, const_decl, alg_decl, input_decl, disc_decl, equation_decl, invariant_decl, marked_decl, Source}
use Rattle.cif_source.specs.Components.{Component, as_written, body_of, path_of, scope_of, Entry, declared, literal, location, inner, definition, instance, parameter}
use Rattle.cif_source.specs.Objects.{components_of, of_sort, is_event, is_input, is_variable, is_alg, events, inputs, variables, algs, declares, number_in, automaton_number, is_automaton}
use Rattle.cif_scope.specs.declared.scopes.Scopes.{Scopes}
use Rattle.cif_scope.specs.Tables.{IsBody, Beside}
use Rattle.cif_scope.specs.Scopes.{AreScopesOf, IsEntry}
use Rattle.cif_scope.specs.Written.{written_bodies}
use Rattle.cif_scope.proofs.Places.{beside-at, beside-length}
use Rattle.cif_scope.proofs.LookLaws.{same-text}
use Rattle.cif_inst_components.specs.declared.components.Component.{Component as Row}
use Rattle.cif_inst_components.specs.declared.components.Components.{Components}
use Rattle.cif_inst_components.specs.Numbers.{AreComponentsOf, IsNumber, IsComponent}
use Rattle.cif_inst_components.proofs.FindChildren.{row-for, single}
use Rattle.cif_inst_components.proofs.FindSingle.{texts, scope-distinct}
use Rattle.cif_inst_model.proofs.DistinctLaws.{paths-differ}
use Rattle.cif_inst_model.proofs.SingleLaws.{scopes-single}
use Rattle.cif_inst_numbers.specs.declared.counts.Counted.{Counted}
use Rattle.cif_inst_numbers.specs.declared.counts.Counted.TheVariants.{Event, Input, Variable, Algebraic}
use Rattle.cif_inst_numbers.specs.declared.counts.Counts.{Counts}
use Rattle.cif_inst_numbers.specs.declared.numbers.Numbers.{Numbers}
use Rattle.cif_inst_numbers.specs.declared.numbers.Numbered.{Numbered}
use Rattle.cif_inst_numbers.specs.Counting.{of, none, counts_at, before, firsts_to, counted_at, rank_in, rank_at, all_ranks, all_counts, AreFew}
use Rattle.cif_inst_numbers.specs.Numbers.{is_counted, declared_by, AreCountsOf, AreCounts, AreNumbersOf, IsNumbered}
use Rattle.cif_inst_numbers.proofs.Lists.{take-none, take-next, get-there, grown-at}
use Rattle.cif_inst_numbers.proofs.Entries.{counted_entry, passes, scope-named}
use Rattle.cif_inst_numbers.proofs.Ranks.{position-is, position-within}
use Rattle.cif_inst_numbers.proofs.Positions.{StandsAlone, declared_count, count-kept, count-within, stands-at, picked-at}
use Rattle.cif_inst_numbers.proofs.BodyLaws.{counts-none, counts-plus, counted-is, ranks-at, counts-at}

-- ---- what the first components declare

count-at : (bodies : List Counts) (rows : List Row) (n : ℕ) (r : Row) (counts : Counts) → slice_get rows n ≡ Some r → slice_get bodies r.body ≡ Some counts → counts_at bodies (slice_get rows n) ≡ counts
count-at bodies rows n r counts h g = ap (counts_at bodies) h ∙ ap (λ o. unwrap_or o none) g

module _ (t : Source) (bodies : List Counts) (each : (k : ℕ) (c : Component) → IsBody t k (as_written c) → (counts : Counts) × (slice_get bodies k ≡ Some counts) × AreCountsOf (c ∷ []) counts) (cs : List Component) (rows : List Row) (beside : Beside (IsComponent t) cs rows) where
  before-are : (n : ℕ) → n ≤ length cs → AreCountsOf (take n cs) (before bodies rows n)
  before-are zero l = subst (λ x. AreCountsOf x none) (sym (take-none cs)) counts-none
  before-are (suc n) l =
      let c = get-there cs n (omega (arith, l)) in
      let r = beside-at (IsComponent t) cs rows n c.0 beside c.1 in
      let here = each r.0.body c.0 r.2.body in
      subst (λ x. AreCountsOf x (before bodies rows (suc n))) (sym (take-next cs n c.0 c.1))
      (counts-plus (take n cs) (c.0 ∷ []) (before bodies rows n) (counts_at bodies (slice_get rows n)) (before-are n (omega (arith, l)))
      (subst (λ x. AreCountsOf (c.0 ∷ []) x) (sym (count-at bodies rows n r.0 here.0 r.1 here.1)) here.2))

-- ---- what number_objects gives

module _ (t : Source) (s : Scopes) (are : AreScopesOf t s) (cs : Components) (all : AreComponentsOf t cs) where
  pub row-at : (k : ℕ) (c : Component) → IsNumber t k c → (r : Row) × (slice_get cs.all k ≡ Some r) × IsComponent t c r
  row-at k c h = row-for t s are all.few cs.all all.all k c h

  pub apart : (j k : ℕ) (c d : Component) → IsNumber t j c → IsNumber t k d → path_of c ≡ path_of d → j ≡ k
  apart j k c d h g same =
      let one : c ≡ d = paths-differ t (scopes-single t all.few are.rules.single) c d (at-member (components_of t) j c h) (at-member (components_of t) k d g) same in
      single t s are all.few cs.all all.all j k d (subst (λ x. IsNumber t j x) one h) g

  pub names-apart : (k : ℕ) (c : Component) → IsNumber t k c → AreDistinct (texts (scope_of c))
  names-apart k c h = let r = row-at k c h in scope-distinct t s.table c r.0.body are.numbers.table are.numbers.indexed r.2.body

  abbrev bodies : List Counts
  bodies = all_counts s (written_bodies t)

  before-of : (n : ℕ) → n ≤ length (components_of t) → AreCountsOf (take n (components_of t)) (before bodies cs.all n)
  before-of = before-are t bodies (counts-at t s are.numbers) (components_of t) cs.all all.all

  components-long : length cs.all ≡ length (components_of t)
  components-long = beside-length (IsComponent t) (components_of t) cs.all all.all

  pub numbers-are : (r : Numbers) → r.ranks ≡ all_ranks s → r.firsts ≡ firsts_to bodies cs.all (length cs.all) → r.total ≡ before bodies cs.all (length cs.all) → AreFew r.total → AreNumbersOf t r
  numbers-are r ranks firsts total few = record {
    apart = apart;
    ranks = λ k c own. let row = ranks-at t s are.numbers k c own in (row.0, ap (λ x. slice_get x k) ranks ∙ row.1, row.2);
    firsts = λ k c own.
        let below : k < length (components_of t) = slice_get-below (components_of t) k c own in
        (before bodies cs.all k, ap (λ x. slice_get x k) firsts ∙ grown-at (firsts_to bodies cs.all) (before bodies cs.all) refl (λ j. refl) (length cs.all) k (omega (arith, below, components-long)), before-of k (omega (arith, below)));
    total =
        subst (λ x. AreCountsOf x r.total) (take_all (length (components_of t)) (components_of t) (omega arith))
        (subst (λ x. AreCountsOf (take (length (components_of t)) (components_of t)) x) (sym (total ∙ ap (before bodies cs.all) components-long)) (before-of (length (components_of t)) (omega arith)));
    few = few;
  }

-- ---- what the numbers give

abbrev pub has_automaton : Component → Bool
has_automaton c = is_automaton (body_of c)

module _ (t : Source) (r : Numbers) (h : AreNumbersOf t r) where
  stands-alone : (k : ℕ) (c : Component) → IsNumber t k c → StandsAlone (components_of t) k c
  stands-alone k c own j d at same = h.apart j k d c at own same

  pub automaton-is : (k : ℕ) (c : Component) → IsNumber t k c → is_automaton (body_of c) ≡ true → (first : Counts) × (slice_get r.firsts k ≡ Some first) × (first.automata ≡ automaton_number t c)
  automaton-is k c own is =
      let f = h.firsts k c own in
      (f.0, f.1, f.2.automata ∙ sym (picked-at has_automaton (components_of t) k c (stands-alone k c own) own is))

  pub total-are : AreCounts t r.total
  total-are = record {
    events = h.total.declared Event ∙ sym (count-kept is_event (components_of t));
    inputs = h.total.declared Input ∙ sym (count-kept is_input (components_of t));
    variables = h.total.declared Variable ∙ sym (count-kept is_variable (components_of t));
    algs = h.total.declared Algebraic ∙ sym (count-kept is_alg (components_of t));
    automata = h.total.automata;
  }

  -- a declaration of a sort, in a slot of a component
  module _ (k slot : ℕ) (c : Component) (own : IsNumber t k c) (single : AreDistinct (texts (scope_of c))) (q : Counted) (n : Ident) (d : DeclTree) (at : slice_get (scope_of c) slot ≡ Some (n, declared d)) (is : is_counted q d ≡ true) where
    pub rank-few : declared_count (is_counted q) (take k (components_of t)) + declared_by q (take slot (scope_of c)) < 2 ^ 32
    rank-few = omega (arith, count-within (is_counted q) (components_of t) k c own, position-within q n d is c slot at, h.total.declared q, h.few q)

    pub number-is : (x : Text) → declares x d ≡ true → declared_count (is_counted q) (take k (components_of t)) + declared_by q (take slot (scope_of c)) ≡ number_in (of_sort (is_counted q) t) c x
    number-is x named =
        let name : n.text ≡ x = same-text n.text x (sym (scope-named c (n, declared d) (at-member (scope_of c) slot (n, declared d) at) x) ∙ named) in
        sym (stands-at (is_counted q) (components_of t) k c n.text (declared_by q (take slot (scope_of c))) (stands-alone k c own) own (position-is q n d is c slot single at) (position-within q n d is c slot at))
        ∙ ap (number_in (of_sort (is_counted q) t) c) name

-- ---- by cases on what is declared

-- the number is that of each declaration of the sort which the entry is
abbrev IsNumberOf : Source → Component → Entry → Counted → ℕ → Type 0
IsNumberOf t c e q v = (d : DeclTree) (x : Text) → e ≡ declared d → is_counted q d ≡ true → declares x d ≡ true → v ≡ number_in (of_sort (is_counted q) t) c x

-- an entry of a sort is a declaration of that sort
sorted-entry : (e : Entry) (q : Counted) → counted_entry e ≡ Some q → (d : DeclTree) × (e ≡ declared d) × (is_counted q d ≡ true)
sorted-entry (declared d) q h = (d, refl, passes d q h)
sorted-entry (literal k ls) q h = absurd (none-some q h)
sorted-entry (location k) q h = absurd (none-some q h)
sorted-entry (inner n b) q h = absurd (none-some q h)
sorted-entry (definition n ps b) q h = absurd (none-some q h)
sorted-entry (instance i) q h = absurd (none-some q h)
sorted-entry (parameter k p) q h = absurd (none-some q h)

module _ (t : Source) (c : Component) where
  pub numbered-none : (e : Entry) → counted_entry e ≡ None → IsNumbered t c e None
  numbered-none (declared (event_decl k x n)) h = absurd (none-some Event (sym h))
  numbered-none (declared (input_decl ty n)) h = absurd (none-some Input (sym h))
  numbered-none (declared (disc_decl ty n e)) h = absurd (none-some Variable (sym h))
  numbered-none (declared (alg_decl ty n e)) h = absurd (none-some Algebraic (sym h))
  numbered-none (declared (type_decl n ty)) h = refl
  numbered-none (declared (enum_decl n ls)) h = refl
  numbered-none (declared (const_decl ty n e)) h = refl
  numbered-none (declared (equation_decl q)) h = refl
  numbered-none (declared (invariant_decl i)) h = refl
  numbered-none (declared (marked_decl p)) h = refl
  numbered-none (literal k ls) h = refl
  numbered-none (location k) h = refl
  numbered-none (inner n b) h = refl
  numbered-none (definition n ps b) h = refl
  numbered-none (instance i) h = refl
  numbered-none (parameter k p) h = refl

  of-its-sort : (e : Entry) (p q : Counted) (v w : ℕ) → Some p ≡ Some q → IsNumberOf t c e q v → (IsNumberOf t c e p v → v ≡ w) → ◌≡◌ {A = Option Numbered} (Some (record { among = q; number = v })) (Some (record { among = p; number = w }))
  of-its-sort e p q v w same is law =
      let one : p ≡ q = some-same p q same in
      let number : v ≡ w = law (subst (λ x. IsNumberOf t c e x v) (sym one) is) in
      λ i. Some (record { among = sym one i; number = number i })

  pub numbered-some : (e : Entry) (q : Counted) (v : ℕ) → counted_entry e ≡ Some q → IsNumberOf t c e q v → IsNumbered t c e (Some (record { among = q; number = v }))
  numbered-some (declared (event_decl k x n)) q v h is = of-its-sort (declared (event_decl k x n)) Event q v (number_in (events t) c n.text) h is (λ g. g (event_decl k x n) n.text refl refl (nat_list_eq_equiv.refl n.text))
  numbered-some (declared (input_decl ty n)) q v h is = of-its-sort (declared (input_decl ty n)) Input q v (number_in (inputs t) c n.text) h is (λ g. g (input_decl ty n) n.text refl refl (nat_list_eq_equiv.refl n.text))
  numbered-some (declared (disc_decl ty n e)) q v h is = of-its-sort (declared (disc_decl ty n e)) Variable q v (number_in (variables t) c n.text) h is (λ g. g (disc_decl ty n e) n.text refl refl (nat_list_eq_equiv.refl n.text))
  numbered-some (declared (alg_decl ty n e)) q v h is = of-its-sort (declared (alg_decl ty n e)) Algebraic q v (number_in (algs t) c n.text) h is (λ g. g (alg_decl ty n e) n.text refl refl (nat_list_eq_equiv.refl n.text))
  numbered-some (declared (type_decl n ty)) q v h is = absurd (none-some q h)
  numbered-some (declared (enum_decl n ls)) q v h is = absurd (none-some q h)
  numbered-some (declared (const_decl ty n e)) q v h is = absurd (none-some q h)
  numbered-some (declared (equation_decl x)) q v h is = absurd (none-some q h)
  numbered-some (declared (invariant_decl i)) q v h is = absurd (none-some q h)
  numbered-some (declared (marked_decl p)) q v h is = absurd (none-some q h)
  numbered-some (literal k ls) q v h is = absurd (none-some q h)
  numbered-some (location k) q v h is = absurd (none-some q h)
  numbered-some (inner n b) q v h is = absurd (none-some q h)
  numbered-some (definition n ps b) q v h is = absurd (none-some q h)
  numbered-some (instance i) q v h is = absurd (none-some q h)
  numbered-some (parameter k p) q v h is = absurd (none-some q h)

module _ (t : Source) (s : Scopes) (are : AreScopesOf t s) (cs : Components) (all : AreComponentsOf t cs) (r : Numbers) (h : AreNumbersOf t r) where
  -- what is numbered in a slot
  pub counted-here : (k slot : ℕ) (c : Component) (e : Entry) (row : Row) → IsNumber t k c → IsEntry c e slot → slice_get cs.all k ≡ Some row → counted_at s row.body slot ≡ counted_entry e
  counted-here k slot c e row own at here =
      let is = row-at t s are cs all k c own in
      ap (λ (x : Row). counted_at s x.body slot) (some-same row is.0 (sym here ∙ is.1)) ∙ counted-is t s are.numbers is.0.body slot c at.0 e is.2.body at.1

  -- the tables lead to its number, which is below 2^32
  pub numbered-here : (k slot : ℕ) (c : Component) (e : Entry) (row : Row) (q : Counted) (o : Option ℕ) → IsNumber t k c → IsEntry c e slot → slice_get cs.all k ≡ Some row → counted_entry e ≡ Some q
      → ((first : Counts) (rank : ℕ) → slice_get r.firsts k ≡ Some first → rank_at r.ranks row.body slot ≡ Some rank → of q first + rank < 2 ^ 32 → o ≡ Some (of q first + rank))
      → (v : ℕ) × (o ≡ Some v) × IsNumbered t c e (Some (record { among = q; number = v }))
  numbered-here k slot c e row q o own at here sort law =
      let d = sorted-entry e q sort in
      let is = row-at t s are cs all k c own in
      let place : slice_get (scope_of c) slot ≡ Some (at.0, declared d.0) = at.1 ∙ ap (λ x. Some (at.0, x)) d.1 in
      let single : AreDistinct (texts (scope_of c)) = names-apart t s are cs all k c own in
      let body : row.body ≡ is.0.body = ap (λ (x : Row). x.body) (some-same row is.0 (sym here ∙ is.1)) in
      let first = h.firsts k c own in
      let ranks = h.ranks is.0.body c is.2.body in
      let rank : ℕ = declared_by q (take slot (scope_of c)) in
      let rank-is : rank_at r.ranks row.body slot ≡ Some rank = ap (λ b. rank_at r.ranks b slot) body ∙ ap (λ o. rank_in o slot) ranks.1 ∙ ranks.2 q slot at.0 d.0 place d.2 in
      let few : of q first.0 + rank < 2 ^ 32 = subst (λ x. x + rank < 2 ^ 32) (sym (first.2.declared q)) (rank-few t r h k slot c own single q at.0 d.0 place d.2) in (
        of q first.0 + rank,
        law first.0 rank first.1 rank-is few,
        numbered-some t c e q (of q first.0 + rank) sort (λ b x same passes named.
            ap (λ y. y + rank) (first.2.declared q)
            ∙ number-is t r h k slot c own single q at.0 b (at.1 ∙ ap (λ y. Some (at.0, y)) same) passes x named),
      )
