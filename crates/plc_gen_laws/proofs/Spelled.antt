-- The statements of updates, and those that send a value, have a spelling, where those of their expressions have one. Those of
-- updates nest as deep as the updates do.
use Rattle.std.proofs.Common.{◌≡◌, ℕ, zero, suc, ◌+◌, ◌≤◌, max, ℤ, pos, negsuc, Bool, true, false, ◌&&◌, List, [], ◌∷◌, map, Option, Some, None, refl, arith, if◌then◌else◌}
use Rattle.std.specs.Prelude.{option_to_list, slice_get}
use Rattle.std.specs.List.{AllByRecursion}
use Rattle.cif_base.specs.declared.types.Ty.{Ty}
use Rattle.cif_base.specs.declared.types.Ty.TheVariants as t
use Rattle.cif_system.specs.System.{Range}
use Rattle.cif_system.proofs.Picks.{and-left, and-right}
use Rattle.cif_net_expr.specs.Tree.{NetExpr, NetUpdate, net_set, net_choose, NetUpdates, no_net_updates, net_updates, NetUpdateBranches, no_net_update_branches, net_update_branches}
use Rattle.cif_net_model.specs.Net.{NetStored, Net}
use Rattle.cif_net_model.specs.Counts.{alg_measures, no_form}
use Rattle.cif_net_model.specs.Unfolding.{at_or as or_none}
use Rattle.cif_net_model.specs.Exprs.{updates_exprs, update_exprs, branches_exprs}
use Rattle.cif_net_model.specs.Facts.{assigns_kind, branches_stand, is_type, update_stands, updates_stand, var_kind}
use Rattle.cif_net_model.specs.Kinds.{Kind, bool_kind, fits, has_type, kind_of, kinds_in}
use Rattle.cif_net_model.specs.Table.{sent_stands}
use Rattle.cif_net_model.specs.Meaning.{type_range}
use Rattle.cif_net_model.proofs.PlainLaws.{never}
use Rattle.cif_net_model.proofs.ValueLaws.{all-parts}
use Rattle.grammar.specs.Pieces.{Text}
use Rattle.st_ast.specs.Grammar.{at_sum}
use Rattle.st_ast.specs.Spelled.{are_branches, are_stms, has_signed_literal, is_expr, is_name, is_other, is_type_spelled, is_whole_expr}
use Rattle.st_ast.specs.Tree.{named, truth, Stms, stms_of, Branches, assign, no_stms, stms, append, no_branches, branches}
use Rattle.plc_frame.specs.Faces.{st_type}
use Rattle.plc_frame.proofs.Spelling.{append-spelled, both-true}
use Rattle.plc_expr.specs.Texts.{Naming, number_text, temps, text, before}
use Rattle.plc_expr.specs.Sorts.{NamesAreSpelled}
use Rattle.plc_expr.proofs.Spelling.{statements-spelled, text-spelled}
use Rattle.plc_event_model.specs.Writes.{NewNames, any_tested, is_tested, stays_in, range_test, otherwise, chosen, conditions_before, writes, write, write_branches, conditions_temps, updates_temps, bodies_temps}
use Rattle.plc_event_model.specs.Acts.{act, assigned_vars, computed, copy, may_stay, store, stored}
use Rattle.plc_event_model.specs.Sends.{lies_in, sends, where_fits}
use Rattle.plc_event_model.proofs.Keeping.{some-kind}
use Rattle.cif_net_model.specs.Nesting.{branches_depth, update_depth, updates_depth}
use Rattle.plc_gen_laws.proofs.Literals.{type-spelled}
use Rattle.plc_gen_laws.proofs.Told.{IsLow}

-- ---- numbers

signed-spelled : (z : ℤ) → has_signed_literal z ≡ true → is_expr 398 at_sum (number_text z) ≡ true
signed-spelled (pos k) h = h
signed-spelled (negsuc k) h = h

stays-spelled : (mark x : Text) (r : Range) → is_name mark ≡ true → is_name x ≡ true → has_signed_literal r.lo ≡ true → has_signed_literal r.hi ≡ true → is_whole_expr (stays_in mark x r) ≡ true
stays-spelled mark x r m n lo hi = let a = signed-spelled r.lo lo in let b = signed-spelled r.hi hi in rw (m, n, a, b) refl

lies-spelled : (x : Text) (r : Range) → is_name x ≡ true → has_signed_literal r.lo ≡ true → has_signed_literal r.hi ≡ true → is_whole_expr (lies_in x r) ≡ true
lies-spelled x r n lo hi = let a = signed-spelled r.lo lo in let b = signed-spelled r.hi hi in rw (n, a, b) refl

-- ---- an IF

chosen-spelled : (d : ℕ) (bs : Branches) (ss : Stms) → are_branches d bs ≡ true → are_stms d ss ≡ true → are_stms (suc d) ss ≡ true → are_stms (suc d) (chosen bs ss) ≡ true
chosen-spelled d no_branches ss b h g = g
chosen-spelled d (branches c rs bs) ss b h g =
    both-true (are_branches d (branches c rs bs) && is_other d (otherwise ss)) true (both-true (are_branches d (branches c rs bs)) (is_other d (otherwise ss)) b (other-spelled ss h)) refl
  where
    other-spelled : (qs : Stms) → are_stms d qs ≡ true → is_other d (otherwise qs) ≡ true
    other-spelled no_stms h = refl
    other-spelled (stms s qs) h = h

-- ---- updates

module _ (n : Net) (received : Option Ty) (w : Naming) (names : NamesAreSpelled w n) (y : NewNames) (mark_name : is_name y.in_range ≡ true) (next_name : (v : ℕ) → is_name (y.next v) ≡ true)
    (types : (v : ℕ) (d : NetStored) → slice_get n.vars v ≡ Some d → is_type_spelled (st_type d.type_of) ≡ true) where
  abbrev AllLow : List NetExpr → Type 0
  AllLow es = AllByRecursion (IsLow n) es

  pub whole-spelled : (kind : Kind) (k : ℕ) (e : NetExpr) → fits n received kind e ≡ true → IsLow n e → is_whole_expr (text w k e) ≡ true
  whole-spelled kind k e h low = text-spelled w n received kind e (or_none no_form (alg_measures n)) k 400 names h (omega (arith, low))

  pub before-spelled : (d : ℕ) (kind : Kind) (k : ℕ) (e : NetExpr) → fits n received kind e ≡ true → IsLow n e → 1 ≤ d → are_stms d (before w k e) ≡ true
  before-spelled d kind k e h low deep = statements-spelled w n received kind e (or_none no_form (alg_measures n)) k d names h (omega (arith, low)) deep

  range-spelled : (d v : ℕ) (q : NetStored) (b : Bool) → is_tested q.type_of ≡ b → is_type_spelled (st_type q.type_of) ≡ true
      → are_stms d (if b then stms (assign y.in_range (stays_in y.in_range (y.next v) (type_range q.type_of))) no_stms else no_stms) ≡ true
  range-spelled d v q false is h = refl
  range-spelled d v q true is h = go q.type_of is h
    where
      go : (u : Ty) → is_tested u ≡ true → is_type_spelled (st_type u) ≡ true → are_stms d (stms (assign y.in_range (stays_in y.in_range (y.next v) (type_range u))) no_stms) ≡ true
      go t.Bool is h = never is
      go (t.Int lo hi) is h =
          both-true (is_name y.in_range && is_whole_expr (stays_in y.in_range (y.next v) (type_range (t.Int lo hi)))) true
          (both-true (is_name y.in_range) (is_whole_expr (stays_in y.in_range (y.next v) (type_range (t.Int lo hi)))) mark_name
          (stays-spelled y.in_range (y.next v) (type_range (t.Int lo hi)) mark_name (next_name v) (and-left _ _ h) (and-right _ _ h))) refl
      go (t.Enum size) is h = never is

  set-spelled : (d v k : ℕ) (e : NetExpr) → 1 ≤ d → assigns_kind n received (var_kind (slice_get n.vars v)) e ≡ true → IsLow n e → are_stms d (write n w y k (net_set v e)) ≡ true
  set-spelled d v k e deep h low = go (slice_get n.vars v) refl h
    where
      go : (o : Option NetStored) → slice_get n.vars v ≡ o → assigns_kind n received (var_kind o) e ≡ true → are_stms d (append (before w k e) (stms (assign (y.next v) (text w k e)) (range_test y v o))) ≡ true
      go None at h = never h
      go (Some q) at h =
          append-spelled d (before w k e) (stms (assign (y.next v) (text w k e)) (range_test y v (Some q))) (before-spelled d (kind_of q.type_of q.literals) k e h low deep)
          (both-true (is_name (y.next v) && is_whole_expr (text w k e)) (are_stms d (range_test y v (Some q)))
          (both-true (is_name (y.next v)) (is_whole_expr (text w k e)) (next_name v) (whole-spelled (kind_of q.type_of q.literals) k e h low))
          (range-spelled d v q (is_tested q.type_of) refl (types v q at)))

  conditions-spelled : (d : ℕ) (bs : NetUpdateBranches) (k : ℕ) → 1 ≤ d → branches_stand n received bs ≡ true → AllLow (branches_exprs bs) → are_stms d (conditions_before w k bs) ≡ true
  conditions-spelled d no_net_update_branches k deep h low = refl
  conditions-spelled d (net_update_branches c us bs) k deep h low =
      let r = all-parts (IsLow n) (updates_exprs us) (branches_exprs bs) low.1 in
      append-spelled d (before w k c) (conditions_before w (k + temps c) bs) (before-spelled d bool_kind k c (and-left _ _ (and-left _ _ h)) low.0 deep)
      (conditions-spelled d bs (k + temps c) deep (and-right _ _ h) r.1)

  mutual
    pub writes-spelled : (us : NetUpdates) (d k : ℕ) → updates_depth us + 1 ≤ d → updates_stand n received us ≡ true → AllLow (updates_exprs us) → are_stms d (writes n w y k us) ≡ true
    writes-spelled no_net_updates d k deep h low = refl
    writes-spelled (net_updates u us) d k deep h low =
        let top : max (update_depth u) (updates_depth us) + 1 ≤ d = deep in
        let r = all-parts (IsLow n) (update_exprs u) (updates_exprs us) low in
        append-spelled d (writes n w y k us) (write n w y (k + updates_temps us) u) (writes-spelled us d k (omega (arith, top)) (and-right _ _ h) r.1)
        (write-spelled u d (k + updates_temps us) (omega (arith, top)) (and-left _ _ (and-left _ _ h)) r.0)

    write-spelled : (u : NetUpdate) (d k : ℕ) → update_depth u + 1 ≤ d → update_stands n received u ≡ true → AllLow (update_exprs u) → are_stms d (write n w y k u) ≡ true
    write-spelled (net_set v e) d k deep h low = set-spelled d v k e (omega (arith, deep)) h low.0
    write-spelled (net_choose bs us) zero k deep h low = absurd (omega (arith, deep))
    write-spelled (net_choose bs us) (suc d) k deep h low =
        let top : suc (max (branches_depth bs) (updates_depth us)) + 1 ≤ suc d = deep in
        let r = all-parts (IsLow n) (branches_exprs bs) (updates_exprs us) low in
        append-spelled (suc d) (conditions_before w k bs) (chosen (write_branches n w y k (k + conditions_temps bs) bs) (writes n w y (k + conditions_temps bs + bodies_temps bs) us))
        (conditions-spelled (suc d) bs k (omega arith) (and-left _ _ h) r.0)
        (chosen-spelled d (write_branches n w y k (k + conditions_temps bs) bs) (writes n w y (k + conditions_temps bs + bodies_temps bs) us)
        (branches-spelled bs d k (k + conditions_temps bs) (omega (arith, top)) (and-left _ _ h) r.0)
        (writes-spelled us d (k + conditions_temps bs + bodies_temps bs) (omega (arith, top)) (and-right _ _ h) r.1)
        (writes-spelled us (suc d) (k + conditions_temps bs + bodies_temps bs) (omega (arith, top)) (and-right _ _ h) r.1))

    branches-spelled : (bs : NetUpdateBranches) (d k j : ℕ) → branches_depth bs + 1 ≤ d → branches_stand n received bs ≡ true → AllLow (branches_exprs bs) → are_branches d (write_branches n w y k j bs) ≡ true
    branches-spelled no_net_update_branches d k j deep h low = refl
    branches-spelled (net_update_branches c us bs) d k j deep h low =
        let top : max (updates_depth us) (branches_depth bs) + 1 ≤ d = deep in
        let r = all-parts (IsLow n) (updates_exprs us) (branches_exprs bs) low.1 in
        both-true (is_whole_expr (text w k c)) (are_stms d (writes n w y j us) && are_branches d (write_branches n w y (k + temps c) (j + updates_temps us) bs))
        (whole-spelled bool_kind k c (and-left _ _ (and-left _ _ h)) low.0)
        (both-true (are_stms d (writes n w y j us)) (are_branches d (write_branches n w y (k + temps c) (j + updates_temps us) bs))
        (writes-spelled us d j (omega (arith, top)) (and-right _ _ (and-left _ _ h)) r.0)
        (branches-spelled bs d (k + temps c) (j + updates_temps us) (omega (arith, top)) (and-right _ _ h) r.1))

  -- ---- the whole

  copies-spelled : (d : ℕ) (is : List ℕ) → are_stms d (stms_of (map (copy w y) is)) ≡ true
  copies-spelled d [] = refl
  copies-spelled d (i ∷ is) =
      both-true (is_name (y.next i) && is_name (w.variable i)) (are_stms d (stms_of (map (copy w y) is))) (both-true (is_name (y.next i)) (is_name (w.variable i)) (next_name i) (names.variable i)) (copies-spelled d is)

  stores-spelled : (d : ℕ) (is : List ℕ) → are_stms d (stms_of (map (store w y) is)) ≡ true
  stores-spelled d [] = refl
  stores-spelled d (i ∷ is) =
      both-true (is_name (w.variable i) && is_name (y.next i)) (are_stms d (stms_of (map (store w y) is))) (both-true (is_name (w.variable i)) (is_name (y.next i)) (names.variable i) (next_name i)) (stores-spelled d is)

  -- storing the new values has a spelling, where what follows has one
  pub stored-spelled : (d : ℕ) (us : NetUpdates) (rest : Stms) → are_stms d rest ≡ true → are_stms d (stored w y us rest) ≡ true
  stored-spelled d us rest all = append-spelled d (stms_of (map (store w y) (assigned_vars us))) rest (stores-spelled d (assigned_vars us)) all

  -- so has what the choice does, where what follows the new values has one at two depths
  pub act-spelled : (d : ℕ) (us : NetUpdates) (k : ℕ) (body : Stms) → updates_depth us + 1 ≤ suc d → updates_stand n received us ≡ true → AllLow (updates_exprs us) → are_stms (suc d) body ≡ true → are_stms d body ≡ true
      → are_stms (suc d) (act n w y k us body) ≡ true
  act-spelled d us k body deep h low all inside = go (any_tested n us)
    where
      computed-spelled : are_stms (suc d) (computed n w y k us) ≡ true
      computed-spelled = append-spelled (suc d) (stms_of (map (copy w y) (may_stay us))) (writes n w y k us) (copies-spelled (suc d) (may_stay us)) (writes-spelled us (suc d) k deep h low)

      one-branch : are_branches d (branches (named y.in_range) body no_branches) ≡ true
      one-branch = both-true (is_name y.in_range) (are_stms d body && true) mark_name (both-true (are_stms d body) true inside refl)

      go : (b : Bool) → are_stms (suc d) (if b then stms (assign y.in_range (truth true)) (append (computed n w y k us) (chosen (branches (named y.in_range) body no_branches) no_stms))
          else append (computed n w y k us) body) ≡ true
      go false = append-spelled (suc d) (computed n w y k us) body computed-spelled all
      go true =
          both-true (is_name y.in_range && true) (are_stms (suc d) (append (computed n w y k us) (chosen (branches (named y.in_range) body no_branches) no_stms)))
          (both-true (is_name y.in_range) true mark_name refl)
          (append-spelled (suc d) (computed n w y k us) (chosen (branches (named y.in_range) body no_branches) no_stms) computed-spelled
          (chosen-spelled d (branches (named y.in_range) body no_branches) no_stms one-branch refl refl))

-- ---- what is sent

module _ (n : Net) (w : Naming) (names : NamesAreSpelled w n) where
  where-spelled : (d : ℕ) (u : Ty) (ss : Stms) → is_type u ≡ true → are_stms (suc d) ss ≡ true → are_stms d ss ≡ true → are_stms (suc d) (where_fits w.received u ss) ≡ true
  where-spelled d t.Bool ss h all inside = all
  where-spelled d (t.Int lo hi) ss h all inside =
      let bounds = type-spelled (t.Int lo hi) h refl in
      let test = lies-spelled w.received (type_range (t.Int lo hi)) names.received (and-left _ _ bounds) (and-right _ _ bounds) in
      chosen-spelled d (branches (lies_in w.received (type_range (t.Int lo hi))) ss no_branches) no_stms
      (both-true (is_whole_expr (lies_in w.received (type_range (t.Int lo hi)))) (are_stms d ss && true) test (both-true (are_stms d ss) true inside refl)) refl refl
  where-spelled d (t.Enum size) ss h all inside = all

  -- sending has a spelling, where what follows it has one at two depths
  pub sends-spelled : (d k : ℕ) (e : Option NetExpr) (u : Option Ty) (ss : Stms) → sent_stands n u e ≡ true → AllByRecursion (IsLow n) (option_to_list e) → ((v : Ty) → u ≡ Some v → is_type v ≡ true)
      → are_stms (suc d) ss ≡ true → are_stms d ss ≡ true → are_stms (suc d) (sends w k e u ss) ≡ true
  sends-spelled d k None u ss stands low types all inside = all
  sends-spelled d k (Some e) None ss stands low types all inside = all
  sends-spelled d k (Some e) (Some v) ss stands low types all inside =
      let q = some-kind (λ kind. has_type v kind && fits n None kind e) (kinds_in n) stands in
      let fit = and-right _ _ q.1 in
      let few = low.0 in
      append-spelled (suc d) (before w k e) (stms (assign w.received (text w k e)) (where_fits w.received v ss))
      (statements-spelled w n None q.0 e (or_none no_form (alg_measures n)) k (suc d) names fit (omega (arith, few)) (omega arith))
      (both-true (is_name w.received && is_whole_expr (text w k e)) (are_stms (suc d) (where_fits w.received v ss))
      (both-true (is_name w.received) (is_whole_expr (text w k e)) names.received (text-spelled w n None q.0 e (or_none no_form (alg_measures n)) k 400 names fit (omega (arith, few))))
      (where-spelled d v ss (types v refl) all inside))
