-- The statements of updates break no check, where those of their expressions don't.
use Rattle.std.proofs.Common.{◌≡◌, ℕ, ◌+◌, ℤ, pos, negsuc, Bool, true, false, ◌&&◌, ◌||◌, List, [], ◌∷◌, ◌++◌, map, length, Option, Some, None, refl, sym, ap, subst, ◌∙◌, arith, nat_eq, not, filter, cond, eq-eqb, if◌then◌else◌}
use Rattle.std.specs.Prelude.{slice_get, is_some, option_map, option_to_list}
use Rattle.std.specs.List.{AllByRecursion}
use Rattle.cif_base.specs.declared.types.Ty.{Ty}
use Rattle.cif_base.specs.declared.types.Ty.TheVariants as cif_ty
use Rattle.cif_system.specs.System.{Range}
use Rattle.cif_net_expr.specs.Tree.{NetExpr, NetUpdate, net_set, net_choose, NetUpdates, no_net_updates, net_updates, NetUpdateBranches, no_net_update_branches, net_update_branches}
use Rattle.cif_net_model.specs.Net.{NetStored, Net}
use Rattle.cif_net_model.specs.Exprs.{targets, updates_exprs, update_exprs, branches_exprs}
use Rattle.cif_net_model.specs.Facts.{assigns_kind, branches_stand, has, update_stands, updates_stand, var_kind}
use Rattle.cif_net_model.specs.Kinds.{Kind, bool_kind, enum_kind, int_kind, fits, has_type, is_bool, kind_of, kinds_in}
use Rattle.cif_net_model.specs.Table.{sent_stands}
use Rattle.cif_net_model.specs.Meaning.{type_range}
use Rattle.cif_net_model.specs.Reads.{names_no_alg}
use Rattle.cif_net_model.proofs.Passing.{and-left, and-right}
use Rattle.cif_net_model.proofs.PlainLaws.{never}
use Rattle.grammar.specs.Pieces.{Text}
use Rattle.st_ast.specs.Tree.{Expr, named, truth, Stms, stms_of, Branches, assign, no_stms, stms, append, no_branches, branches}
use Rattle.st_ast.specs.Checks.{sort_of_type, knows_conditions, boolean_conditions, is_same_sort, stm_faults, branches_faults, other_faults, stms_count}
use Rattle.st_ast.specs.declared.tree.StVar.{StVar}
use Rattle.st_ast.specs.declared.tree.StTy.{StTy}
use Rattle.st_ast.specs.declared.tree.StTy.TheVariants as ty
use Rattle.plc_frame.specs.Faces.{st_type}
use Rattle.plc_frame.proofs.Checking.{AllChecked, all-checked, checked-append}
use Rattle.plc_expr.specs.Texts.{Naming, number_text, temps, text, before}
use Rattle.plc_expr.specs.Sorts.{AreOwn, HasSort, OwnIs, is_bool_type, own_types, sort_by}
use Rattle.plc_event_model.specs.Writes.{NewNames, any_tested, is_tested, tests, tests_stored, stays_in, range_test, otherwise, chosen, conditions_before, writes, write, write_branches, conditions_temps, updates_temps, bodies_temps}
use Rattle.plc_event_model.specs.Acts.{act, assigned_vars, computed, copy, may_stay, store, stored, surely_set}
use Rattle.plc_event_model.specs.Sends.{lies_in, sends, where_fits}
use Rattle.plc_event_model.specs.Own.{new_type, sent_type, sent_types, updates_types, update_types, conditions_types, bodies_types}
use Rattle.plc_event_model.proofs.Keeping.{some-kind}
use Rattle.plc_event_model.proofs.Parts.{conditions-length, updates-length, bodies-length}
use Rattle.plc_event_model.proofs.Targets.{all_vars, assigned-has, by_vars, in_vars, has-append, targets-are}

module _ (vars : List StVar) where
  abbrev Clean : Stms → Type 0
  Clean ss = AllChecked vars ss

  pub sort-of-new : (t : Ty) → sort_of_type (new_type t) ≡ sort_by (is_bool_type t)
  sort-of-new cif_ty.Bool = refl
  sort-of-new (cif_ty.Int lo hi) = refl
  sort-of-new (cif_ty.Enum size) = refl

  sort-same : (b : Bool) → is_same_sort (Some (sort_by b)) (Some (sort_by b)) ≡ true
  sort-same true = refl
  sort-same false = refl

  -- an assignment of one sort
  set-clean : (x : Text) (e : Expr) (t : StTy) (b : Bool) → OwnIs vars x t → sort_of_type t ≡ sort_by b → HasSort vars e b → (k : ℕ) → stm_faults vars k (assign x e) ≡ []
  set-clean x e t b own same h k =
      let s : sort_of_type own.variable.ty ≡ sort_by b = ap sort_of_type own.type_is ∙ same in
      let at = own.is_declared in
      let known = h.0 in
      let sort = h.1 in
      let q = sort-same b in
      let can = own.can in
      rw (at, known, sort, s, q, can) refl

  literal-sort : (z : ℤ) → HasSort vars (number_text z) false
  literal-sort (pos n) = (refl, refl)
  literal-sort (negsuc n) = (refl, refl)

  pub name-sort : (x : Text) (t : StTy) (b : Bool) → OwnIs vars x t → sort_of_type t ≡ sort_by b → HasSort vars (named x) b
  name-sort x t b own same = (ap is_some own.is_declared, ap (option_map (λ (v : StVar). sort_of_type v.ty)) own.is_declared ∙ ap Some (ap sort_of_type own.type_is ∙ same))

  stays-sort : (mark x : Text) (r : Range) (t : StTy) → OwnIs vars mark ty.Bool → OwnIs vars x t → sort_of_type t ≡ sort_by false → HasSort vars (stays_in mark x r) true
  stays-sort mark x r t m own same =
      let a = name-sort mark ty.Bool true m refl in
      let b = name-sort x t false own same in
      let l = literal-sort r.lo in
      let h = literal-sort r.hi in
      let a0 = a.0 in let a1 = a.1 in let b0 = b.0 in let b1 = b.1 in let l0 = l.0 in let l1 = l.1 in let h0 = h.0 in let h1 = h.1 in
      (rw (a0, l0, b0, h0) refl, rw (a1, l1, b1, h1) refl)

  -- ---- an IF

  record BranchesClean (bs : Branches) : Type 0 where
    known : knows_conditions vars bs ≡ true
    are_boolean : boolean_conditions vars bs ≡ true
    no_faults : (j : ℕ) → branches_faults vars j bs ≡ []

  other-clean : (ss : Stms) → Clean ss → (j : ℕ) → other_faults vars j (otherwise ss) ≡ []
  other-clean no_stms h j = refl
  other-clean (stms s ss) h j = all-checked vars j (stms s ss) h

  chosen-clean : (bs : Branches) (ss : Stms) → BranchesClean bs → Clean ss → Clean (chosen bs ss)
  chosen-clean no_branches ss b h = h
  chosen-clean (branches c ts bs) ss b h = (
    (λ j. let p = b.known in let q = b.are_boolean in let f = b.no_faults (j + 1) in let l = other-clean ss h in rw (p, q, f) (l _)),
    tt,
  )

  branch-clean : (c : Expr) (ss : Stms) (bs : Branches) → HasSort vars c true → Clean ss → BranchesClean bs → BranchesClean (branches c ss bs)
  branch-clean c ss bs h clean b =
      let known = h.0 in let sort = h.1 in let p = b.known in let q = b.are_boolean in
      record {
        known = rw known p;
        are_boolean = rw sort q;
        no_faults = λ j. let f = all-checked vars j ss clean in rw f (b.no_faults (j + stms_count ss));
      }

-- ---- updates

module _ (n : Net) (received : Option Ty) (vars : List StVar) (w : Naming) (y : NewNames) (own_length : (e : NetExpr) → length (own_types n received e) ≡ temps e) (V : ℕ → Type 0)
    (text_sort : (kind : Kind) (k : ℕ) (e : NetExpr) → fits n received kind e ≡ true → names_no_alg e ≡ true → AreOwn vars w k (own_types n received e) → HasSort vars (text w k e) (is_bool kind))
    (before_clean : (kind : Kind) (k : ℕ) (e : NetExpr) → fits n received kind e ≡ true → names_no_alg e ≡ true → AreOwn vars w k (own_types n received e) → AllChecked vars (before w k e))
    (next_own : (i : ℕ) (d : NetStored) → V i → slice_get n.vars i ≡ Some d → OwnIs vars (y.next i) (new_type d.type_of)) (mark_own : (i : ℕ) → V i → tests n i ≡ true → OwnIs vars y.in_range ty.Bool) where
  abbrev Own : ℕ → List StTy → Type 0
  Own k ts = AreOwn vars w k ts

  own-parts : (k : ℕ) (ts us : List StTy) (c : ℕ) → length ts ≡ c → Own k (ts ++ us) → Own k ts × Own (k + c) us
  own-parts k [] us c e o = (tt, subst (λ i. Own i us) (omega (arith, e)) o)
  own-parts k (t ∷ ts) us c e o = let r = own-parts (k + 1) ts us (length ts) refl o.1 in ((o.0, r.0), subst (λ i. Own i us) (omega (arith, e)) r.1)

  abbrev NoAlgs : List NetExpr → Type 0
  NoAlgs es = AllByRecursion (λ e. names_no_alg e ≡ true) es

  some-parts : (es fs : List NetExpr) → NoAlgs (es ++ fs) → NoAlgs es × NoAlgs fs
  some-parts [] fs h = (tt, h)
  some-parts (e ∷ es) fs h = let r = some-parts es fs h.1 in ((h.0, r.0), r.1)

  kind-bool : (t : Ty) (ls : List (List ℕ)) → is_bool (kind_of t ls) ≡ is_bool_type t
  kind-bool cif_ty.Bool ls = refl
  kind-bool (cif_ty.Int lo hi) ls = refl
  kind-bool (cif_ty.Enum size) ls = refl

  new-clean : (i k : ℕ) (e : NetExpr) → V i → Own k (own_types n received e) → assigns_kind n received (var_kind (slice_get n.vars i)) e ≡ true → names_no_alg e ≡ true → AllChecked vars (write n w y k (net_set i e))
  new-clean i k e here o h none = go (slice_get n.vars i) refl h
    where
      test-clean : (d : NetStored) → slice_get n.vars i ≡ Some d → (b : Bool) → is_tested d.type_of ≡ b
          → AllChecked vars (if b then stms (assign y.in_range (stays_in y.in_range (y.next i) (type_range d.type_of))) no_stms else no_stms)
      test-clean d at false is = tt
      test-clean d at true is =
          let mark = mark_own i here (ap tests_stored at ∙ is) in
          let integer_type : sort_of_type (new_type d.type_of) ≡ sort_by false = sort-of-new vars d.type_of ∙ ap sort_by (tested-integer d.type_of is) in
          (set-clean vars y.in_range (stays_in y.in_range (y.next i) (type_range d.type_of)) ty.Bool true mark refl (stays-sort vars y.in_range (y.next i) (type_range d.type_of) (new_type d.type_of) mark (next_own i d here at) integer_type), tt)
        where
          tested-integer : (t : Ty) → is_tested t ≡ true → is_bool_type t ≡ false
          tested-integer cif_ty.Bool h = never h
          tested-integer (cif_ty.Int lo hi) h = refl
          tested-integer (cif_ty.Enum size) h = refl

      go : (q : Option NetStored) → slice_get n.vars i ≡ q → assigns_kind n received (var_kind q) e ≡ true → AllChecked vars (append (before w k e) (stms (assign (y.next i) (text w k e)) (range_test y i q)))
      go None at h = never h
      go (Some d) at h =
          let kind : Kind = kind_of d.type_of d.literals in
          checked-append vars (before w k e) (stms (assign (y.next i) (text w k e)) (range_test y i (Some d))) (before_clean kind k e h none o) (
            set-clean vars (y.next i) (text w k e) (new_type d.type_of) (is_bool_type d.type_of) (next_own i d here at) (sort-of-new vars d.type_of)
                (subst (λ b. HasSort vars (text w k e) b) (kind-bool d.type_of d.literals) (text_sort kind k e h none o)),
            test-clean d at (is_tested d.type_of) refl,
          )

  conditions-clean : (bs : NetUpdateBranches) (k : ℕ) → Own k (conditions_types n received bs) → branches_stand n received bs ≡ true → NoAlgs (branches_exprs bs) → AllChecked vars (conditions_before w k bs)
  conditions-clean no_net_update_branches k o h none = tt
  conditions-clean (net_update_branches c us bs) k o h none =
      let q = own-parts k (own_types n received c) (conditions_types n received bs) (temps c) (own_length c) o in
      let r = some-parts (updates_exprs us) (branches_exprs bs) none.1 in
      checked-append vars (before w k c) (conditions_before w (k + temps c) bs) (before_clean bool_kind k c (and-left _ _ (and-left _ _ h)) none.0 q.0) (conditions-clean bs (k + temps c) q.1 (and-right _ _ h) r.1)

  in-left : (a b : Bool) → a ≡ true → (a || b) ≡ true
  in-left true b h = refl
  in-left false b h = never h

  in-right : (a b : Bool) → b ≡ true → (a || b) ≡ true
  in-right true b h = refl
  in-right false b h = h

  mutual
    pub writes-clean : (us : NetUpdates) (k : ℕ) → ((i : ℕ) → has (all_vars us) i ≡ true → V i) → Own k (updates_types n received us) → updates_stand n received us ≡ true → NoAlgs (updates_exprs us) → AllChecked vars (writes n w y k us)
    writes-clean no_net_updates k is o h none = tt
    writes-clean (net_updates u us) k is o h none =
        let q = own-parts k (updates_types n received us) (update_types n received u) (updates_temps us) (updates-length n received own_length us) o in
        let r = some-parts (update_exprs u) (updates_exprs us) none in
        checked-append vars (writes n w y k us) (write n w y (k + updates_temps us) u)
        (writes-clean us k (λ i e. is i (has-append (by_vars u) (all_vars us) i ∙ in-right _ _ e)) q.0 (and-right _ _ h) r.1)
        (write-clean u (k + updates_temps us) (λ i e. is i (has-append (by_vars u) (all_vars us) i ∙ in-left _ _ e)) q.1 (and-left _ _ (and-left _ _ h)) r.0)

    write-clean : (u : NetUpdate) (k : ℕ) → ((i : ℕ) → has (by_vars u) i ≡ true → V i) → Own k (update_types n received u) → update_stands n received u ≡ true → NoAlgs (update_exprs u) → AllChecked vars (write n w y k u)
    write-clean (net_set i e) k is o h none = new-clean i k e (is i (in-left _ _ (eq-eqb i i refl))) o h none.0
    write-clean (net_choose bs us) k is o h none =
        let q = own-parts k (conditions_types n received bs) (bodies_types n received bs ++ updates_types n received us) (conditions_temps bs) (conditions-length n received own_length bs) o in
        let r = own-parts (k + conditions_temps bs) (bodies_types n received bs) (updates_types n received us) (bodies_temps bs) (bodies-length n received own_length bs) q.1 in
        let m = some-parts (branches_exprs bs) (updates_exprs us) none in
        checked-append vars (conditions_before w k bs) (chosen (write_branches n w y k (k + conditions_temps bs) bs) (writes n w y (k + conditions_temps bs + bodies_temps bs) us))
        (conditions-clean bs k q.0 (and-left _ _ h) m.0)
        (chosen-clean vars (write_branches n w y k (k + conditions_temps bs) bs) (writes n w y (k + conditions_temps bs + bodies_temps bs) us)
        (branches-clean bs k (k + conditions_temps bs) (λ i e. is i (has-append (in_vars bs) (all_vars us) i ∙ in-left _ _ e)) q.0 r.0 (and-left _ _ h) m.0)
        (writes-clean us (k + conditions_temps bs + bodies_temps bs) (λ i e. is i (has-append (in_vars bs) (all_vars us) i ∙ in-right _ _ e)) r.1 (and-right _ _ h) m.1))

    branches-clean : (bs : NetUpdateBranches) (k j : ℕ) → ((i : ℕ) → has (in_vars bs) i ≡ true → V i) → Own k (conditions_types n received bs) → Own j (bodies_types n received bs) → branches_stand n received bs ≡ true
        → NoAlgs (branches_exprs bs) → BranchesClean vars (write_branches n w y k j bs)
    branches-clean no_net_update_branches k j is o g h none = record { known = refl; are_boolean = refl; no_faults = λ i. refl }
    branches-clean (net_update_branches c us bs) k j is o g h none =
        let q = own-parts k (own_types n received c) (conditions_types n received bs) (temps c) (own_length c) o in
        let r = own-parts j (updates_types n received us) (bodies_types n received bs) (updates_temps us) (updates-length n received own_length us) g in
        let m = some-parts (updates_exprs us) (branches_exprs bs) none.1 in
        branch-clean vars (text w k c) (writes n w y j us) (write_branches n w y (k + temps c) (j + updates_temps us) bs) (text_sort bool_kind k c (and-left _ _ (and-left _ _ h)) none.0 q.0)
        (writes-clean us j (λ i e. is i (has-append (all_vars us) (in_vars bs) i ∙ in-left _ _ e)) r.0 (and-right _ _ (and-left _ _ h)) m.0)
        (branches-clean bs (k + temps c) (j + updates_temps us) (λ i e. is i (has-append (all_vars us) (in_vars bs) i ∙ in-right _ _ e)) q.1 r.1 (and-right _ _ h) m.1)

  -- ---- the whole

  module _ (there : (i : ℕ) → V i → (d : NetStored) × (slice_get n.vars i ≡ Some d)) (variable_own : (i : ℕ) (d : NetStored) → V i → slice_get n.vars i ≡ Some d → OwnIs vars (w.variable i) (st_type d.type_of)) where
    sort-of-stored : (t : Ty) → sort_of_type (st_type t) ≡ sort_by (is_bool_type t)
    sort-of-stored cif_ty.Bool = refl
    sort-of-stored (cif_ty.Int lo hi) = refl
    sort-of-stored (cif_ty.Enum size) = refl

    copies-clean : (is : List ℕ) → ((i : ℕ) → has is i ≡ true → V i) → AllChecked vars (stms_of (map (copy w y) is))
    copies-clean [] all = tt
    copies-clean (i ∷ is) all =
        let here = all i (in-left _ _ (eq-eqb i i refl)) in
        let q = there i here in (
          set-clean vars (y.next i) (named (w.variable i)) (new_type q.0.type_of) (is_bool_type q.0.type_of) (next_own i q.0 here q.1) (sort-of-new vars q.0.type_of)
              (name-sort vars (w.variable i) (st_type q.0.type_of) (is_bool_type q.0.type_of) (variable_own i q.0 here q.1) (sort-of-stored q.0.type_of)),
          copies-clean is (λ k h. all k (in-right _ _ h)),
        )

    stores-clean : (is : List ℕ) → ((i : ℕ) → has is i ≡ true → V i) → AllChecked vars (stms_of (map (store w y) is))
    stores-clean [] all = tt
    stores-clean (i ∷ is) all =
        let here = all i (in-left _ _ (eq-eqb i i refl)) in
        let q = there i here in (
          set-clean vars (w.variable i) (named (y.next i)) (st_type q.0.type_of) (is_bool_type q.0.type_of) (variable_own i q.0 here q.1) (sort-of-stored q.0.type_of)
              (name-sort vars (y.next i) (new_type q.0.type_of) (is_bool_type q.0.type_of) (next_own i q.0 here q.1) (sort-of-new vars q.0.type_of)),
          stores-clean is (λ k h. all k (in-right _ _ h)),
        )

    -- storing the new values breaks no check, where what follows doesn't
    pub stored-clean : (us : NetUpdates) (rest : Stms) → ((i : ℕ) → has (targets us) i ≡ true → V i) → AllChecked vars rest → AllChecked vars (stored w y us rest)
    stored-clean us rest is clean = checked-append vars (stms_of (map (store w y) (assigned_vars us))) rest (stores-clean (assigned_vars us) (λ i e. is i (sym (assigned-has us i) ∙ e))) clean

    -- nor does what the choice does, where what follows the new values doesn't
    pub act-clean : (us : NetUpdates) (k : ℕ) (body : Stms) → ((i : ℕ) → has (targets us) i ≡ true → V i) → (any_tested n us ≡ true → OwnIs vars y.in_range ty.Bool) → Own k (updates_types n received us) → updates_stand n received us ≡ true
        → NoAlgs (updates_exprs us) → AllChecked vars body → AllChecked vars (act n w y k us body)
    act-clean us k body is mark o h none clean = go (any_tested n us) refl
      where
        may-stay-is : (i : ℕ) → has (may_stay us) i ≡ true → V i
        may-stay-is i e = is i (sym (assigned-has us i) ∙ filtered (assigned_vars us) e)
          where
            filtered : (vs : List ℕ) → has (filter (λ v. not (has (surely_set us) v)) vs) i ≡ true → has vs i ≡ true
            filtered [] e = e
            filtered (v ∷ vs) e = pick (not (has (surely_set us) v)) e (filtered vs)
              where
                pick : (b : Bool) → has (cond b (v ∷ filter (λ q. not (has (surely_set us) q)) vs) (filter (λ q. not (has (surely_set us) q)) vs)) i ≡ true
                    → (has (filter (λ q. not (has (surely_set us) q)) vs) i ≡ true → has vs i ≡ true) → has (v ∷ vs) i ≡ true
                pick true e rest = either (nat_eq i v) e
                  where
                    either : (c : Bool) → (c || has (filter (λ q. not (has (surely_set us) q)) vs) i) ≡ true → (c || has vs i) ≡ true
                    either true e = refl
                    either false e = rest e
                pick false e rest = in-right _ _ (rest e)

        computed-clean : AllChecked vars (computed n w y k us)
        computed-clean =
            checked-append vars (stms_of (map (copy w y) (may_stay us))) (writes n w y k us) (copies-clean (may_stay us) may-stay-is)
            (writes-clean us k (λ i e. is i (subst (λ vs. has vs i ≡ true) (sym (targets-are us)) e)) o h none)

        go : (b : Bool) → any_tested n us ≡ b
            → AllChecked vars (if b then stms (assign y.in_range (truth true)) (append (computed n w y k us) (chosen (branches (named y.in_range) body no_branches) no_stms))
            else append (computed n w y k us) body)
        go false t = checked-append vars (computed n w y k us) body computed-clean clean
        go true t = (
          set-clean vars y.in_range (truth true) ty.Bool true (mark t) refl (refl, refl),
          checked-append vars (computed n w y k us) (chosen (branches (named y.in_range) body no_branches) no_stms) computed-clean
              (chosen-clean vars (branches (named y.in_range) body no_branches) no_stms
              (branch-clean vars (named y.in_range) body no_branches (name-sort vars y.in_range ty.Bool true (mark t) refl) clean
              record { known = refl; are_boolean = refl; no_faults = λ i. refl }) tt),
        )

-- ---- what is sent

pub sort-of-sent : (t : Ty) → sort_of_type (sent_type t) ≡ sort_by (is_bool_type t)
sort-of-sent cif_ty.Bool = refl
sort-of-sent (cif_ty.Int lo hi) = refl
sort-of-sent (cif_ty.Enum size) = refl

module _ (n : Net) (vars : List StVar) (w : Naming)
    (text_sort : (kind : Kind) (k : ℕ) (e : NetExpr) → fits n None kind e ≡ true → names_no_alg e ≡ true → AreOwn vars w k (own_types n None e) → HasSort vars (text w k e) (is_bool kind))
    (before_clean : (kind : Kind) (k : ℕ) (e : NetExpr) → fits n None kind e ≡ true → names_no_alg e ≡ true → AreOwn vars w k (own_types n None e) → AllChecked vars (before w k e)) where
  -- a value of the type may have that kind alone
  sort-of-kind : (t : Ty) (k : Kind) → has_type t k ≡ true → is_bool k ≡ is_bool_type t
  sort-of-kind cif_ty.Bool bool_kind h = refl
  sort-of-kind cif_ty.Bool int_kind h = never h
  sort-of-kind cif_ty.Bool (enum_kind ls) h = never h
  sort-of-kind (cif_ty.Int lo hi) bool_kind h = never h
  sort-of-kind (cif_ty.Int lo hi) int_kind h = refl
  sort-of-kind (cif_ty.Int lo hi) (enum_kind ls) h = never h
  sort-of-kind (cif_ty.Enum size) bool_kind h = never h
  sort-of-kind (cif_ty.Enum size) int_kind h = never h
  sort-of-kind (cif_ty.Enum size) (enum_kind ls) h = refl

  lies-sort : (x : Text) (r : Range) (t : StTy) → OwnIs vars x t → sort_of_type t ≡ sort_by false → HasSort vars (lies_in x r) true
  lies-sort x r t own same =
      let b = name-sort vars x t false own same in
      let l = literal-sort vars r.lo in
      let h = literal-sort vars r.hi in
      let b0 = b.0 in let b1 = b.1 in let l0 = l.0 in let l1 = l.1 in let h0 = h.0 in let h1 = h.1 in
      (rw (l0, b0, h0) refl, rw (l1, b1, h1) refl)

  where-clean : (t : Ty) (ss : Stms) → OwnIs vars w.received (sent_type t) → AllChecked vars ss → AllChecked vars (where_fits w.received t ss)
  where-clean cif_ty.Bool ss own clean = clean
  where-clean (cif_ty.Int lo hi) ss own clean =
      chosen-clean vars (branches (lies_in w.received (type_range (cif_ty.Int lo hi))) ss no_branches) no_stms
      (branch-clean vars (lies_in w.received (type_range (cif_ty.Int lo hi))) ss no_branches (lies-sort w.received (type_range (cif_ty.Int lo hi)) ty.Lint own refl) clean
      record { known = refl; are_boolean = refl; no_faults = λ i. refl }) tt
  where-clean (cif_ty.Enum size) ss own clean = clean

  -- sending breaks no check, where what follows it doesn't
  pub sends-clean : (e : Option NetExpr) (t : Option Ty) (k : ℕ) (ss : Stms) → ((u : Ty) → t ≡ Some u → OwnIs vars w.received (sent_type u)) → AreOwn vars w k (sent_types n e) → sent_stands n t e ≡ true
      → AllByRecursion (λ d. names_no_alg d ≡ true) (option_to_list e) → AllChecked vars ss → AllChecked vars (sends w k e t ss)
  sends-clean None t k ss own ifs stands names clean = clean
  sends-clean (Some e) None k ss own ifs stands names clean = clean
  sends-clean (Some e) (Some t) k ss own ifs stands names clean =
      let q = some-kind (λ kind. has_type t kind && fits n None kind e) (kinds_in n) stands in
      checked-append vars (before w k e) (stms (assign w.received (text w k e)) (where_fits w.received t ss)) (before_clean q.0 k e (and-right _ _ q.1) names.0 ifs) (
        set-clean vars w.received (text w k e) (sent_type t) (is_bool_type t) (own t refl) (sort-of-sent t)
            (subst (λ b. HasSort vars (text w k e) b) (sort-of-kind t q.0 (and-left _ _ q.1)) (text_sort q.0 k e (and-right _ _ q.1) names.0 ifs)),
        where-clean t ss (own t refl) clean,
      )
