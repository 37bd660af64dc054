-- The tables of bodies are what their declarations say.
use Rattle.std.proofs.Common.{◌≡◌, ℕ, zero, suc, ◌+◌, ◌<◌, ◌≤◌, Bool, true, false, cond, List, [], ◌∷◌, ◌++◌, length, length-append, take, Some, refl, sym, ◌∙◌, ap, arith}
use Rattle.std.specs.Prelude.{filter, slice_get}
use Rattle.std.proofs.lemmas.List.{take_all, append-nil}
use Rattle.std.proofs.lemmas.List.Elements.{filter-append}
use Rattle.cif_ast.specs.declared.names.Ident.{Ident}
use Rattle.cif_system.proofs.Lists.{slice_get-below}
use Rattle.cif_source.specs.Source.{Source}
use Rattle.cif_source.specs.Components.{Component, whole, part, blank, copy, as_written, body_of, scope_of, Entry, Entries, declared}
use Rattle.cif_source.specs.Objects.{bodies, decls_of, is_automaton}
use Rattle.cif_scope.specs.declared.scopes.Scopes.{Scopes}
use Rattle.cif_scope.specs.Tables.{IsBody, IsName}
use Rattle.cif_scope.specs.Scopes.{AreNumbered}
use Rattle.cif_scope.specs.Looks.{names_in}
use Rattle.cif_scope.specs.Written.{written_bodies}
use Rattle.cif_scope.proofs.Places.{beside-at, beside-length}
use Rattle.cif_scope.proofs.BodyLaws.{row-of, scope-written}
use Rattle.cif_scope.proofs.FindLaws.{what-of}
use Rattle.cif_scope.proofs.DefinitionLaws.{IsWritten, bodies-written}
use Rattle.cif_inst_numbers.specs.declared.counts.Counted.{Counted}
use Rattle.cif_inst_numbers.specs.declared.counts.Counted.TheVariants.{Event, Input, Variable, Algebraic}
use Rattle.cif_inst_numbers.specs.declared.counts.Counts.{Counts}
use Rattle.cif_inst_numbers.specs.Counting.{counted_what, none, one, of, plus, rank, counted_at, counts_to, ranks_to, name_count, counts_of, ranks_of, automaton_count, automaton_at, all_ranks_to, all_ranks, body_counts, all_counts_to, all_counts}
use Rattle.cif_inst_numbers.specs.Numbers.{is_counted, declared_by, AreRanks, AreCountsOf}
use Rattle.cif_inst_numbers.proofs.Lists.{take-next, get-there, grown-at}
use Rattle.cif_inst_numbers.proofs.Entries.{counted_entry, what-counted, among, of-none, of-plus, one-automata, entry-one, sorted, sorted-append, scope-sorted}
use Rattle.cif_inst_numbers.proofs.Positions.{count-append}

declared-append : (q : Counted) (es fs : Entries) → declared_by q (es ++ fs) ≡ declared_by q es + declared_by q fs
declared-append q es fs = ap length (sorted-append q es fs) ∙ length-append (sorted q es) (sorted q fs)

body-written : (c : Component) → body_of (as_written c) ≡ body_of c
body-written (whole is) = refl
body-written (part o n b) = refl
body-written (blank o n ps b) = refl
body-written (copy o n ps b g i) = refl

-- ---- counts of components

abbrev has_automaton : Component → Bool
has_automaton c = is_automaton (body_of c)

pub counts-none : AreCountsOf [] none
counts-none = record { declared = λ q. of-none q; automata = refl }

pub counts-plus : (cs ds : List Component) (f g : Counts) → AreCountsOf cs f → AreCountsOf ds g → AreCountsOf (cs ++ ds) (plus f g)
counts-plus cs ds f g h k = record {
  declared = λ q. of-plus f g q ∙ omega (arith, h.declared q, k.declared q, count-append (is_counted q) cs ds);
  automata = omega (arith, h.automata, k.automata, ap length (filter-append has_automaton cs ds), length-append (filter has_automaton cs) (filter has_automaton ds));
}

automaton-none : (b : Bool) (q : Counted) → of q (automaton_count b) ≡ 0
automaton-none true Event = refl
automaton-none true Input = refl
automaton-none true Variable = refl
automaton-none true Algebraic = refl
automaton-none false q = of-none q

automaton-one : (c : Component) → (automaton_count (is_automaton (body_of c))).automata ≡ length (filter has_automaton (c ∷ []))
automaton-one c = elim (is_automaton (body_of c)) as (λ b. (automaton_count b).automata ≡ length (cond b (c ∷ []) [])) [ true ↦ refl | false ↦ refl ]

-- ---- a body

module _ (t : Source) (s : Scopes) (are : AreNumbered t s) where
  names-long : (k : ℕ) (c : Component) → IsBody t k (as_written c) → name_count s k ≡ length (scope_of c)
  names-long k c own =
      let r = row-of t s.table.scopes are.table k (as_written c) own in
      ap (λ o. length (names_in o)) r.1 ∙ beside-length (IsName t (as_written c)) (scope_of (as_written c)) r.0.names r.2.names ∙ ap length (scope-written c)

  -- what a name is numbered among
  pub counted-is : (k slot : ℕ) (c : Component) (n : Ident) (e : Entry) → IsBody t k (as_written c) → slice_get (scope_of c) slot ≡ Some (n, e) → counted_at s k slot ≡ counted_entry e
  counted-is k slot c n e own at =
      let w = what-of t s.table are.table are.indexed k slot c e own (n, at) in
      ap counted_what w.1 ∙ what-counted t (as_written c) e w.0 w.2

  counts-are : (k : ℕ) (c : Component) (q : Counted) → IsBody t k (as_written c) → (n : ℕ) → n ≤ length (scope_of c) → of q (counts_to s k n) ≡ declared_by q (take n (scope_of c))
  counts-are k c q own zero l = of-none q
  counts-are k c q own (suc n) l =
      let x = get-there (scope_of c) n (omega (arith, l)) in
      let here : of q (one (counted_at s k n)) ≡ declared_by q (x.0 ∷ []) = ap (λ o. of q (one o)) (counted-is k n c x.0.0 x.0.1 own x.1) ∙ entry-one x.0.0 x.0.1 q in
      of-plus (counts_to s k n) (one (counted_at s k n)) q
      ∙ omega (arith, counts-are k c q own n (omega (arith, l)), here, ap (declared_by q) (take-next (scope_of c) n x.0 x.1), declared-append q (take n (scope_of c)) (x.0 ∷ []))

  no-automata : (k n : ℕ) → (counts_to s k n).automata ≡ 0
  no-automata k zero = refl
  no-automata k (suc n) = omega (arith, no-automata k n, one-automata (counted_at s k n))

  ranks-are : (k : ℕ) (c : Component) → IsBody t k (as_written c) → AreRanks c (ranks_of s k)
  ranks-are k c own q slot n d at is =
      let below : slot < name_count s k = omega (arith, slice_get-below (scope_of c) slot (n, declared d) at, names-long k c own) in
      grown-at (ranks_to s k) (λ j. rank (counts_to s k j) (counted_at s k j)) refl (λ j. refl) (name_count s k) slot below
      ∙ ap (λ o. Some (rank (counts_to s k slot) o)) (counted-is k slot c n (declared d) own at ∙ among d q is)
      ∙ ap Some (counts-are k c q own slot (omega (arith, slice_get-below (scope_of c) slot (n, declared d) at)))

  body-below : (k : ℕ) (c : Component) → IsBody t k (as_written c) → k < length s.table.scopes
  body-below k c own = let r = row-of t s.table.scopes are.table k (as_written c) own in slice_get-below s.table.scopes k r.0 r.1

  -- the table of ranks
  pub ranks-at : (k : ℕ) (c : Component) → IsBody t k (as_written c) → (ranks : List ℕ) × (slice_get (all_ranks s) k ≡ Some ranks) × AreRanks c ranks
  ranks-at k c own =
      (ranks_of s k, grown-at (all_ranks_to s) (ranks_of s) refl (λ j. refl) (length s.table.scopes) k (body-below k c own), ranks-are k c own)

  body-counts : (k : ℕ) (c : Component) → IsBody t k (as_written c) → AreCountsOf (c ∷ []) (body_counts s (written_bodies t) k)
  body-counts k c own =
      let w = beside-at IsWritten (bodies t) (written_bodies t) k (as_written c) (bodies-written t) own in
      let test : automaton_at (slice_get (written_bodies t) k) ≡ automaton_count (is_automaton (body_of c)) =
      ap automaton_at w.1 ∙ ap (λ b. automaton_count (is_automaton b)) (sym w.2.1 ∙ body-written c) in
      record {
        declared = λ q.
            let all : of q (counts_of s k) ≡ length (filter (is_counted q) (decls_of c)) =
            ap (λ n. of q (counts_to s k n)) (names-long k c own) ∙ counts-are k c q own (length (scope_of c)) (omega arith)
            ∙ ap (declared_by q) (take_all (length (scope_of c)) (scope_of c) (omega arith)) ∙ ap length (scope-sorted q c) in
            let none_here : of q (automaton_at (slice_get (written_bodies t) k)) ≡ 0 = ap (of q) test ∙ automaton-none (is_automaton (body_of c)) q in
            of-plus (counts_of s k) (automaton_at (slice_get (written_bodies t) k)) q
            ∙ omega (arith, all, none_here, ap (λ ds. length (filter (is_counted q) ds)) (append-nil (decls_of c)));
        automata = omega (arith, no-automata k (name_count s k), ap (λ (x : Counts). x.automata) test, automaton-one c);
      }

  -- the table of counts
  pub counts-at : (k : ℕ) (c : Component) → IsBody t k (as_written c) → (counts : Counts) × (slice_get (all_counts s (written_bodies t)) k ≡ Some counts) × AreCountsOf (c ∷ []) counts
  counts-at k c own =
      (body_counts s (written_bodies t) k, grown-at (all_counts_to s (written_bodies t)) (body_counts s (written_bodies t)) refl (λ j. refl) (length s.table.scopes) k (body-below k c own), body-counts k c own)
