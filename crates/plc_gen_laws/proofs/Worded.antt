-- The statements of the part of an event have a spelling, where the updates of its choices nest no deeper than is allowed, and so
-- have those that show the algebraic variables.
use Rattle.std.proofs.Common.{◌≡◌, ℕ, zero, suc, ◌+◌, ◌<◌, ◌≤◌, pos, Bool, true, false, ◌&&◌, List, [], ◌∷◌, length, Option, Some, None, refl, subst, arith, le-leb, if◌then◌else◌}
use Rattle.std.specs.Prelude.{codes, nat_eq, nat_le, option_and_then, slice_get}
use Rattle.std.specs.List.{AllByRecursion}
use Rattle.grammar.specs.Pieces.{Text}
use Rattle.cif_net_expr.specs.Tree.{NetExpr}
use Rattle.cif_net_model.specs.Net.{NetAlg, NetAuto, NetEdge, NetStored, Net}
use Rattle.cif_net_model.specs.Counts.{alg_measures, no_form}
use Rattle.cif_net_model.specs.Unfolding.{at_or as or_none}
use Rattle.cif_net_model.specs.Inline.{defined_by}
use Rattle.cif_net_model.specs.Kinds.{Kind, bool_kind, kind_of, places_of}
use Rattle.cif_net_model.specs.Exprs.{targets}
use Rattle.cif_net_model.specs.Facts.{has}
use Rattle.cif_net_model.specs.Listing.{NetChoice, NetMove, all_hold}
use Rattle.cif_net_model.specs.Table.{carried_type}
use Rattle.st_ast.specs.Tokens.{greatest}
use Rattle.st_ast.specs.Grammar.{at_or}
use Rattle.st_ast.specs.Spelled.{are_branches, are_stms, is_expr, is_name, is_type_spelled, is_whole_expr}
use Rattle.st_ast.specs.Tree.{Expr, truth, number, named, complement, equal, Stms, assign, stms, append, no_branches, branches}
use Rattle.plc_model.specs.declared.letter.Letter.TheVariants as letter
use Rattle.plc_model.specs.Names.{name_for}
use Rattle.plc_model.specs.Frame.{fired}
use Rattle.plc_frame.specs.Faces.{st_type}
use Rattle.plc_frame.specs.Places.{path_in, place_name}
use Rattle.plc_frame.specs.Events.{Written, all_bare, alone, chain, chain_branches, done_face, event_text, marks, marks_with, move_text, moves_text, own_name, parts_text, tested, unless_done}
use Rattle.plc_frame.proofs.Moving.{EndsWithin, edge_stands}
use Rattle.plc_frame.proofs.Spelling.{append-spelled, both-true, name-spelled}
use Rattle.plc_expr.specs.Texts.{Naming, before, temps, text}
use Rattle.plc_expr.specs.Sorts.{NamesAreSpelled}
use Rattle.plc_expr.proofs.Spelling.{statements-spelled, text-spelled}
use Rattle.plc_event_model.specs.Writes.{NewNames, updates_temps}
use Rattle.plc_event_model.specs.Own.{choice_temps, net_naming, event_vars, new_face, new_names, path_of, place_in, range_face, range_faces, sent_name, sent_number}
use Rattle.plc_event_model.specs.Events.{all_written, choice_written}
use Rattle.plc_event_model.specs.Parts.{event_first, event_part, event_naming, ifs_from}
use Rattle.plc_event_model.specs.Acts.{act, stored}
use Rattle.plc_event_model.specs.Keeps.{after_naming, asked, taken_edge, where_hold, where_kept}
use Rattle.plc_event_model.specs.Sends.{sent_temps}
use Rattle.plc_event_model.specs.Definitions.{IsDefinition}
use Rattle.plc_event_model.specs.ProgramParts.{shown_text}
use Rattle.plc_gen_laws.proofs.Nested.{Shallow}
use Rattle.plc_gen_laws.proofs.Spelled.{act-spelled, before-spelled, sends-spelled, stored-spelled, whole-spelled}
use Rattle.plc_gen_laws.proofs.Told.{Told}

-- ---- events

-- at each depth
abbrev pub Always : Stms → Type 0
Always ss = (d : ℕ) → are_stms d ss ≡ true

-- What is written for a choice: the statements before its test nest no deeper than an IF.
pub record WrittenSpelled (w : Written) : Type 0 where
  pub before : (d : ℕ) → 1 ≤ d → are_stms d w.before ≡ true
  pub test : is_whole_expr w.test ≡ true
  pub act : (rest : Stms) → Always rest → (d : ℕ) → 397 ≤ d → are_stms d (w.act rest) ≡ true

tested-spelled : (d : ℕ) (c : Expr) (ss : Stms) → is_whole_expr c ≡ true → are_stms d ss ≡ true → are_stms (suc d) (tested c ss) ≡ true
tested-spelled d c ss h g =
    both-true (are_branches d (branches c ss no_branches) && true) true
    (both-true (are_branches d (branches c ss no_branches)) true (both-true (is_whole_expr c) (are_stms d ss && true) h (both-true (are_stms d ss) true g refl)) refl) refl

-- where conditions hold, other statements that nest one deeper
where-spelled : (w : Naming) (d k : ℕ) (es : List NetExpr) (ss : Stms) → is_whole_expr (text w k (all_hold es)) ≡ true → are_stms (suc d) (before w k (all_hold es)) ≡ true → Always ss → are_stms (suc d) (where_hold w k es ss) ≡ true
where-spelled w d k [] ss h b all = all (suc d)
where-spelled w d k (e ∷ es) ss h b all =
    append-spelled (suc d) (before w k (all_hold (e ∷ es))) (tested (text w k (all_hold (e ∷ es))) ss) b (tested-spelled d (text w k (all_hold (e ∷ es))) ss h (all d))

marks-spelled : Always marks
marks-spelled d = refl

alone-spelled : (w : Written) → WrittenSpelled w → are_stms 399 (alone w) ≡ true
alone-spelled w h = append-spelled 399 w.before (tested w.test (w.act marks)) (h.before 399 (omega arith)) (tested-spelled 398 w.test (w.act marks) h.test (h.act marks marks-spelled 398 (omega arith)))

chain-branches-spelled : (ws : List Written) → AllByRecursion WrittenSpelled ws → are_branches 398 (chain_branches ws) ≡ true
chain-branches-spelled [] h = refl
chain-branches-spelled (w ∷ ws) h =
    both-true (is_whole_expr w.test) (are_stms 398 (w.act marks) && are_branches 398 (chain_branches ws)) h.0.test
    (both-true (are_stms 398 (w.act marks)) (are_branches 398 (chain_branches ws)) (h.0.act marks marks-spelled 398 (omega arith)) (chain-branches-spelled ws h.1))

chain-spelled : (w : Written) (ws : List Written) → AllByRecursion WrittenSpelled (w ∷ ws) → are_stms 399 (chain (w ∷ ws)) ≡ true
chain-spelled w ws h = let b = chain-branches-spelled (w ∷ ws) h in rw b refl

module _ (done : Text) (done_name : is_name done ≡ true) where
  with-spelled : Always (marks_with done)
  with-spelled d = both-true (is_name done && true) true (both-true (is_name done) true done_name refl) refl

  parts-spelled : (ws : List Written) → AllByRecursion WrittenSpelled ws → are_stms 399 (parts_text done ws) ≡ true
  parts-spelled [] h = refl
  parts-spelled (w ∷ ws) h =
      append-spelled 399 (unless_done done w) (parts_text done ws)
      (tested-spelled 398 (complement (named done)) (append w.before (tested w.test (w.act (marks_with done)))) done_name
      (append-spelled 398 w.before (tested w.test (w.act (marks_with done))) (h.0.before 398 (omega arith))
      (tested-spelled 397 w.test (w.act (marks_with done)) h.0.test (h.0.act (marks_with done) with-spelled 397 (omega arith)))))
      (parts-spelled ws h.1)

  event-spelled : (ws : List Written) → AllByRecursion WrittenSpelled ws → are_stms 399 (event_text done ws) ≡ true
  event-spelled [] h = refl
  event-spelled (w ∷ []) h = alone-spelled w h.0
  event-spelled (w ∷ v ∷ ws) h = go (all_bare (w ∷ v ∷ ws))
    where
      go : (b : Bool) → are_stms 399 (if b then chain (w ∷ v ∷ ws) else stms (assign done (truth false)) (parts_text done (w ∷ v ∷ ws))) ≡ true
      go true = chain-spelled w (v ∷ ws) h
      go false =
          both-true (is_name done && true) (are_stms 399 (parts_text done (w ∷ v ∷ ws))) (both-true (is_name done) true done_name refl) (parts-spelled (w ∷ v ∷ ws) h)

-- ---- choices

module _ (n : Net) (small : (k : ℕ) → places_of (slice_get n.autos k) ≤ greatest) where
  located-spelled : (a p : ℕ) → p < places_of (slice_get n.autos a) → (d : ℕ) → 1 ≤ d → is_expr d at_or (equal (named (place_name n a)) true (number (pos p))) ≡ true
  located-spelled a p inside zero deep = absurd (omega (arith, deep))
  located-spelled a p inside (suc d) deep =
      let few = small a in
      both-true (is_name (place_name n a)) (nat_le p greatest) (name-spelled letter.L a (path_in n.autos a)) (le-leb p greatest (omega (arith, few, inside)))

  names-spelled : (received : Text) → is_name received ≡ true → NamesAreSpelled (net_naming n received) n
  names-spelled received is = record {
    located = located-spelled;
    variable = λ k. name-spelled letter.V k (path_of n.vars k);
    input = λ k. name-spelled letter.H k (path_of n.inputs k);
    received = is;
    own = λ k. name-spelled letter.T k (codes "if");
  }

  -- the statements that show the algebraic variables
  pub shown-spelled : (i k : ℕ) (as' : List NetAlg) → AllByRecursion (IsDefinition n) as' → are_stms 400 (shown_text (net_naming n fired) i k as') ≡ true
  shown-spelled i k [] defs = refl
  shown-spelled i k (a ∷ as') defs =
      let e : NetExpr = defined_by a in
      let w : Naming = net_naming n fired in
      let kind : Kind = kind_of a.type_of a.literals in
      let low = defs.0.low in
      append-spelled 400 (before w k e) (stms (assign (name_for letter.R i a.path) (text w k e)) (shown_text w (i + 1) (k + temps e) as'))
      (statements-spelled w n None kind e (or_none no_form (alg_measures n)) k 400 (names-spelled fired refl) defs.0.fit (omega (arith, low)) (omega arith))
      (both-true (is_name (name_for letter.R i a.path) && is_whole_expr (text w k e)) (are_stms 400 (shown_text w (i + 1) (k + temps e) as'))
      (both-true (is_name (name_for letter.R i a.path)) (is_whole_expr (text w k e)) (name-spelled letter.R i a.path)
      (text-spelled w n None kind e (or_none no_form (alg_measures n)) k 400 (names-spelled fired refl) defs.0.fit (omega (arith, low))))
      (shown-spelled (i + 1) (k + temps e) as' defs.1))

  module _ (within : EndsWithin n) where
    move-spelled : (d : ℕ) (m : NetMove) (ss : Stms) → are_stms d ss ≡ true → are_stms d (move_text n m ss) ≡ true
    move-spelled d m ss all = by-auto (slice_get n.autos m.auto) refl
      where
        by-edge : (a : NetAuto) → slice_get n.autos m.auto ≡ Some a → (o : Option NetEdge) → option_and_then (slice_get a.edges) m.edge ≡ o
            → are_stms d (elim o [ None ↦ ss | Some x ↦ stms (assign (place_name n m.auto) (number (pos x.to))) ss ]) ≡ true
        by-edge a is None e = all
        by-edge a is (Some x) e =
            let found = edge_stands a m.edge x e in
            let inside = within m.auto a is found.0 x found.1 in
            let few : length a.locs ≤ greatest = subst (λ (o : Option NetAuto). places_of o ≤ greatest) is (small m.auto) in
            let fine : nat_le x.to greatest ≡ true = le-leb x.to greatest (omega (arith, inside, few)) in
            both-true (is_name (place_name n m.auto) && nat_le x.to greatest) (are_stms d ss)
            (both-true (is_name (place_name n m.auto)) (nat_le x.to greatest) (name-spelled letter.L m.auto (path_in n.autos m.auto)) fine) all

        by-auto : (o : Option NetAuto) → slice_get n.autos m.auto ≡ o
            → are_stms d (elim (option_and_then (λ (a : NetAuto). option_and_then (slice_get a.edges) m.edge) o) [ None ↦ ss | Some x ↦ stms (assign (place_name n m.auto) (number (pos x.to))) ss ]) ≡ true
        by-auto None is = all
        by-auto (Some a) is = by-edge a is (option_and_then (slice_get a.edges) m.edge) refl

    moves-spelled : (d : ℕ) (ms : List NetMove) (ss : Stms) → are_stms d ss ≡ true → are_stms d (moves_text n ms ss) ≡ true
    moves-spelled d [] ss all = all
    moves-spelled d (m ∷ ms) ss all = move-spelled d m (moves_text n ms ss) (moves-spelled d ms ss all)

    module _ (types : (v : ℕ) (d : NetStored) → slice_get n.vars v ≡ Some d → is_type_spelled (st_type d.type_of) ≡ true) (ds : List NetChoice) (j : ℕ) where
      abbrev w : Naming
      w = event_naming n ds j

      names : NamesAreSpelled w n
      names = names-spelled (sent_name n ds (event_first n ds j)) (name-spelled letter.T (sent_number n ds (event_first n ds j)) (codes "sent"))

      abbrev y : NewNames
      y = new_names n ds (event_first n ds j)

      mark-name : is_name y.in_range ≡ true
      mark-name = name-spelled letter.T (event_first n ds j) range_face.path

      next-name : (v : ℕ) → is_name (y.next v) ≡ true
      next-name v = name-spelled letter.T (event_first n ds j + length (range_faces n ds) + place_in (event_vars ds) v) (new_face n v).path

      -- ---- names after a choice

      after-located : (c : NetChoice) (a p : ℕ) → p < places_of (slice_get n.autos a) → (d : ℕ) → 1 ≤ d → is_expr d at_or ((after_naming n w y c).located a p) ≡ true
      after-located c a p inside d deep = by (taken_edge n c a)
        where
          by : (o : Option NetEdge) → is_expr d at_or (elim o [ None ↦ w.located a p | Some x ↦ truth (nat_eq x.to p) ]) ≡ true
          by None = located-spelled a p inside d deep
          by (Some x) = refl

      after-variable : (c : NetChoice) (v : ℕ) → is_name ((after_naming n w y c).variable v) ≡ true
      after-variable c v = by (has (targets c.writes) v)
        where
          by : (b : Bool) → is_name (if b then y.next v else w.variable v) ≡ true
          by true = next-name v
          by false = names.variable v

      after-names : (c : NetChoice) → NamesAreSpelled (after_naming n w y c) n
      after-names c = record { located = after-located c; variable = after-variable c; input = names.input; received = names.received; own = names.own }

      -- ---- what a choice does

      -- where the state invariants hold that are asked
      kept-spelled : (c : NetChoice) (k : ℕ) (ss : Stms) → Told n c → Always ss → (d : ℕ) → are_stms (suc d) (where_kept n w y k c ss) ≡ true
      kept-spelled c k ss t all d =
          let low = t.kept_low in
          where-spelled (after_naming n w y c) d k (asked n c) ss
          (text-spelled (after_naming n w y c) n None bool_kind (all_hold (asked n c)) (or_none no_form (alg_measures n)) k 400 (after-names c) t.kept (omega (arith, low)))
          (statements-spelled (after_naming n w y c) n None bool_kind (all_hold (asked n c)) (or_none no_form (alg_measures n)) k (suc d) (after-names c) t.kept (omega (arith, low)) (omega arith)) all

      -- what the choice does where it sends its value, if it sends one, and that is in range
      acts-spelled : (c : NetChoice) (k j : ℕ) (ss : Stms) → Told n c → Shallow c.writes → Always ss → (d : ℕ) → 396 ≤ d → are_stms d (act n w y k c.writes (where_kept n w y j c ss)) ≡ true
      acts-spelled c k j ss t shallow all zero deep = absurd (omega (arith, deep))
      acts-spelled c k j ss t shallow all (suc zero) deep = absurd (omega (arith, deep))
      acts-spelled c k j ss t shallow all (suc (suc d)) deep =
          act-spelled n (carried_type n c) w names y mark-name next-name types (suc d) c.writes k (where_kept n w y j c ss) (omega (arith, deep, shallow)) t.writes t.writes_low
          (kept-spelled c j ss t all (suc d)) (kept-spelled c j ss t all d)

      written-spelled : (c : NetChoice) (k : ℕ) → Told n c → Shallow c.writes → WrittenSpelled (choice_written n w y k c)
      written-spelled c k t shallow = record {
        before = λ d deep. before-spelled n None w names y mark-name next-name types d bool_kind k c.test t.test t.test_low deep;
        test = whole-spelled n None w names y mark-name next-name types bool_kind k c.test t.test t.test_low;
        act = at-depth;
      }
        where
          at-depth : (rest : Stms) → Always rest → (d : ℕ) → 397 ≤ d → are_stms d ((choice_written n w y k c).act rest) ≡ true
          at-depth rest all zero deep = absurd (omega (arith, deep))
          at-depth rest all (suc d) deep =
              let i : ℕ = k + temps c.test + sent_temps c.sent in
              let j : ℕ = i + updates_temps c.writes in
              let after : Stms = stored w y c.writes (moves_text n c.moves rest) in
              let always : Always after = λ q. stored-spelled n (carried_type n c) w names y mark-name next-name types q c.writes (moves_text n c.moves rest) (moves-spelled q c.moves rest (all q)) in
              sends-spelled n w names d (k + temps c.test) c.sent (carried_type n c) (act n w y i c.writes (where_kept n w y j c after)) t.sent t.sent_low t.carried
              (acts-spelled c i j after t shallow always (suc d) (omega (arith, deep))) (acts-spelled c i j after t shallow always d (omega (arith, deep)))

      all-written : (cs : List NetChoice) (k : ℕ) → AllByRecursion (Told n) cs → AllByRecursion (λ (c : NetChoice). Shallow c.writes) cs → AllByRecursion WrittenSpelled (all_written n w y k cs)
      all-written [] k t shallow = tt
      all-written (c ∷ cs) k t shallow = (written-spelled c k t.0 shallow.0, all-written cs (k + choice_temps n c) t.1 shallow.1)

      pub part-spelled : AllByRecursion (Told n) ds → AllByRecursion (λ (c : NetChoice). Shallow c.writes) ds → are_stms 399 (event_part n j ds).body ≡ true
      part-spelled t shallow =
          event-spelled (own_name (j, done_face)) (name-spelled letter.T j done_face.path) (all_written n w y (ifs_from n ds j) ds) (all-written ds (ifs_from n ds j) t shallow)
