-- The statements of the part of an event, and those that show the algebraic variables, break no check, where their own variables
-- are declared one after another.
use Rattle.std.proofs.Common.{◌≡◌, ℕ, suc, ◌+◌, ◌<◌, Bool, true, false, ◌||◌, List, [], ◌∷◌, ◌++◌, map, flat_map, length, Option, Some, None, nat_eq, refl, sym, ap, subst, ◌∙◌, arith, eqb-true, if◌then◌else◌}
use Rattle.std.specs.Prelude.{option_map, slice_get}
use Rattle.std.specs.List.{AllByRecursion, list_any}
use Rattle.std.proofs.lemmas.Option.{slice_get-map}
use Rattle.cif_system.proofs.Lists.{map-length, none-some}
use Rattle.cif_net_expr.specs.Tree.{NetExpr}
use Rattle.cif_base.specs.declared.types.Ty.{Ty}
use Rattle.cif_base.specs.declared.types.Ty.TheVariants as cif_ty
use Rattle.cif_net_model.specs.Net.{NetAlg, NetAuto, NetEdge, NetStored, Net}
use Rattle.cif_net_model.specs.Exprs.{targets}
use Rattle.cif_net_model.specs.Inline.{defined_by}
use Rattle.cif_net_model.specs.Facts.{has}
use Rattle.cif_net_model.specs.Kinds.{Kind, bool_kind, fits, is_bool, kind_of, places_of}
use Rattle.cif_net_model.specs.Listing.{NetChoice, all_hold}
use Rattle.cif_net_model.specs.Reads.{names_no_alg}
use Rattle.cif_net_model.specs.Table.{carried_type}
use Rattle.st_ast.specs.Tree.{Expr, named, truth, Stms, assign, no_stms, stms}
use Rattle.st_ast.specs.Names.{declared}
use Rattle.st_ast.specs.Checks.{can_be_assigned, is_same_sort, sort_of_type, stm_faults}
use Rattle.st_ast.specs.declared.tree.StVar.{StVar}
use Rattle.st_ast.specs.declared.tree.StClass.{StClass}
use Rattle.st_ast.specs.declared.tree.StClass.TheVariants as class
use Rattle.st_ast.specs.declared.tree.StTy.{StTy}
use Rattle.st_ast.specs.declared.tree.StTy.TheVariants as ty
use Rattle.plc_model.specs.declared.letter.Letter.{Letter}
use Rattle.plc_model.specs.declared.letter.Letter.TheVariants as letter
use Rattle.grammar.specs.Pieces.{Text}
use Rattle.plc_model.specs.Names.{name_for}
use Rattle.plc_model.specs.Face.{VariableFace, IsDeclared, alg_face, declaration, place_face}
use Rattle.plc_model.specs.Frame.{fired}
use Rattle.plc_frame.specs.Faces.{alg_face_of, auto_face, is_boolean as is_bool_type, st_type}
use Rattle.plc_frame.specs.Places.{place_name}
use Rattle.plc_frame.specs.Events.{done_face, moves_text, own_name}
use Rattle.plc_frame.proofs.Checking.{AllChecked, checked-append}
use Rattle.plc_frame.proofs.Declaring.{AllDeclared, declared-at}
use Rattle.plc_expr.specs.Texts.{Naming, before, temps, text}
use Rattle.plc_expr.specs.Sorts.{AreOwn, HasSort, NamesHaveSorts, OwnIs, is_bool_type as is_bool_sent, own_types, sort_by}
use Rattle.plc_expr.proofs.Checking.{AllChecked as ExprChecked, expr-checked, text-sorted}
use Rattle.plc_expr.proofs.Sorting.{own-both, types-length}
use Rattle.plc_event_model.specs.Writes.{NewNames, any_tested, updates_temps}
use Rattle.plc_event_model.specs.Acts.{act, stored}
use Rattle.plc_event_model.specs.Keeps.{after_naming, asked, taken_edge, where_kept}
use Rattle.plc_event_model.specs.Sends.{event_type, sent_temps}
use Rattle.plc_event_model.specs.Own.{choice_temps, choice_types, net_faces, net_naming, event_vars, faces_sent, if_face, new_face, new_face_of, new_names, new_type, place_in, range_face, range_faces, sent_face, sent_faces, sent_number, sent_type, sent_types, tests_range, updates_types, variable_name}
use Rattle.plc_event_model.specs.Events.{all_written, choice_written}
use Rattle.plc_event_model.specs.Parts.{event_first, event_part, done_faces, event_faces, event_naming, ifs_from, needs_done}
use Rattle.plc_event_model.proofs.Clean.{act-clean, name-sort, sends-clean, sort-of-new, sort-of-sent, stored-clean}
use Rattle.plc_event_model.proofs.Parts.{choice-length, mark-is, sent-length, updates-length}
use Rattle.plc_event_model.proofs.Targets.{has-append, once-all, target-there, tested-any}
use Rattle.plc_event_model.specs.Definitions.{IsDefinition}
use Rattle.plc_event_model.specs.ProgramParts.{defined_types, shown_text}
use Rattle.plc_gen_laws.proofs.Stating.{WrittenChecked, event-checked, moves-checked, where-checked}
use Rattle.plc_gen_laws.proofs.Told.{Told}

-- ---- lists

in-left : (a b : Bool) → a ≡ true → (a || b) ≡ true
in-left true b h = refl
in-left false b h = absurd cc

in-right : (a b : Bool) → b ≡ true → (a || b) ≡ true
in-right true b h = refl
in-right false b h = h

-- a variable of the list stands where it is found
position-at : (vs : List ℕ) (v : ℕ) → has vs v ≡ true → slice_get vs (place_in vs v) ≡ Some v
position-at [] v h = absurd cc
position-at (u ∷ vs) v h = go (nat_eq v u) refl (λ q. position-at vs v q)
  where
    other : (a b : Bool) → a ≡ false → (a || b) ≡ true → b ≡ true
    other true b e h = absurd cc
    other false b e h = h

    go : (b : Bool) → nat_eq v u ≡ b → (has vs v ≡ true → slice_get vs (place_in vs v) ≡ Some v) → slice_get (u ∷ vs) (if b then 0 else suc (place_in vs v)) ≡ Some v
    go true e rest = ap Some (sym (eqb-true v u e))
    go false e rest = rest (other (nat_eq v u) (has vs v) e h)

pub declared-parts : (vars : List StVar) (l : Letter) (c : StClass) (j : ℕ) (xs ys : List VariableFace) → AllDeclared vars l c j (xs ++ ys) → AllDeclared vars l c j xs × AllDeclared vars l c (j + length xs) ys
declared-parts vars l c j [] ys h = (tt, subst (λ i. AllDeclared vars l c i ys) (omega arith) h)
declared-parts vars l c j (x ∷ xs) ys h =
    let r = declared-parts vars l c (j + 1) xs ys h.1 in
    ((h.0, r.0), subst (λ i. AllDeclared vars l c i ys) (omega arith) r.1)

own-at : (vars : List StVar) (k : ℕ) (x : VariableFace) → declared vars (name_for letter.T k x.path) ≡ Some (declaration letter.T class.Plain (k, x)) → OwnIs vars (name_for letter.T k x.path) x.ty
own-at vars k x at = record { variable = declaration letter.T class.Plain (k, x); is_declared = at; type_is = refl; can = refl }

-- none of the statements breaks a check, by the same words in two crates
same-checked : (vars : List StVar) (ss : Stms) → ExprChecked vars ss → AllChecked vars ss
same-checked vars no_stms h = tt
same-checked vars (stms s ss) h = (h.0, same-checked vars ss h.1)

-- ---- an event

module _ (n : Net) (vars : List StVar) (names : NamesHaveSorts vars (net_naming n fired) n None) (values : (i : ℕ) (d : NetStored) → slice_get n.vars i ≡ Some d → OwnIs vars (variable_name n i) (st_type d.type_of))
    (places : (k : ℕ) (a : NetAuto) → slice_get n.autos k ≡ Some a → declared vars (place_name n k) ≡ Some (declaration letter.L class.Plain (k, place_face (auto_face a)))) (mark : IsDeclared vars fired ty.Bool) where
  abbrev w : Naming
  w = net_naming n fired

  -- the own variables have the same names whatever the received value has
  ifs-own : (k : ℕ) (us : List StTy) → AllDeclared vars letter.T class.Plain k (map if_face us) → AreOwn vars w k us
  ifs-own k [] h = tt
  ifs-own k (u ∷ us) h = (own-at vars k (if_face u) h.0, ifs-own (k + 1) us h.1)

  own_length : (r : Option Ty) (e : NetExpr) → length (own_types n r e) ≡ temps e
  own_length r e = types-length n r e

  module _ (ds : List NetChoice) (j : ℕ) (all : AllDeclared vars letter.T class.Plain j (event_faces n ds)) where
    abbrev first : ℕ
    first = event_first n ds j

    abbrev y : NewNames
    y = new_names n ds (event_first n ds j)

    -- how its expressions are written
    abbrev v : Naming
    v = event_naming n ds j

    abbrev news : List VariableFace
    news = map (new_face n) (event_vars ds)

    abbrev ifs : List VariableFace
    ifs = map if_face (flat_map (choice_types n) ds)

    dones : AllDeclared vars letter.T class.Plain j (done_faces n ds) × AllDeclared vars letter.T class.Plain first (net_faces n ds)
    dones = declared-parts vars letter.T class.Plain j (done_faces n ds) (net_faces n ds) all

    ranges : AllDeclared vars letter.T class.Plain first (range_faces n ds) × AllDeclared vars letter.T class.Plain (first + length (range_faces n ds)) (news ++ (sent_faces n ds ++ ifs))
    ranges = declared-parts vars letter.T class.Plain first (range_faces n ds) (news ++ (sent_faces n ds ++ ifs)) dones.1

    others : AllDeclared vars letter.T class.Plain (first + length (range_faces n ds)) news × AllDeclared vars letter.T class.Plain (first + length (range_faces n ds) + length news) (sent_faces n ds ++ ifs)
    others = declared-parts vars letter.T class.Plain (first + length (range_faces n ds)) news (sent_faces n ds ++ ifs) ranges.1

    sents : AllDeclared vars letter.T class.Plain (sent_number n ds first) (sent_faces n ds) × AllDeclared vars letter.T class.Plain (sent_number n ds first + length (sent_faces n ds)) ifs
    sents = declared-parts vars letter.T class.Plain (sent_number n ds first) (sent_faces n ds) ifs
        (subst (λ l. AllDeclared vars letter.T class.Plain (first + length (range_faces n ds) + l) (sent_faces n ds ++ ifs)) (map-length (new_face n) (event_vars ds)) others.1)

    sent-own : (t : Ty) → event_type n ds ≡ Some t → OwnIs vars v.received (sent_type t)
    sent-own t is = own-at vars (sent_number n ds first) (sent_face t) (subst (λ o. AllDeclared vars letter.T class.Plain (sent_number n ds first) (faces_sent o)) is sents.0).0

    done-own : needs_done n ds ≡ true → OwnIs vars (own_name (j, done_face)) ty.Bool
    done-own t = own-at vars j done_face (subst (λ b. AllDeclared vars letter.T class.Plain j (if b then done_face ∷ [] else [])) t dones.0).0

    range-own : tests_range n ds ≡ true → OwnIs vars y.in_range ty.Bool
    range-own t = own-at vars first range_face (subst (λ b. AllDeclared vars letter.T class.Plain first (if b then range_face ∷ [] else [])) t ranges.0).0

    next-own : (i : ℕ) (d : NetStored) → has (event_vars ds) i ≡ true → slice_get n.vars i ≡ Some d → OwnIs vars (y.next i) (new_type d.type_of)
    next-own i d here at =
        subst (λ u. OwnIs vars (y.next i) u) (ap (λ o. (new_face_of o).ty) at)
        (own-at vars (first + length (range_faces n ds) + place_in (event_vars ds) i) (new_face n i)
        (declared-at vars letter.T class.Plain (first + length (range_faces n ds)) news (place_in (event_vars ds) i) (new_face n i) others.0
        (slice_get-map (new_face n) (event_vars ds) (place_in (event_vars ds) i) ∙ ap (option_map (new_face n)) (position-at (event_vars ds) i here))))

    all-own : AreOwn vars v (ifs_from n ds j) (flat_map (choice_types n) ds)
    all-own = same-own (ifs_from n ds j) (flat_map (choice_types n) ds) (ifs-own (ifs_from n ds j) (flat_map (choice_types n) ds) sents.1)
      where
        same-own : (k : ℕ) (us : List StTy) → AreOwn vars w k us → AreOwn vars v k us
        same-own k [] o = tt
        same-own k (u ∷ us) o = (o.0, same-own (k + 1) us o.1)

    -- ---- its choices

    -- the names, where something of this type is received
    module _ (r : Option Ty) (received : (t : Ty) → r ≡ Some t → OwnIs vars v.received (sent_type t)) where
      event-names : NamesHaveSorts vars v n r
      event-names = record {
        located = names.located;
        variable = names.variable;
        input = names.input;
        received = λ t is. name-sort vars v.received (sent_type t) (is_bool_sent t) (received t is) (sort-of-sent t);
      }

      text-sort : (kind : Kind) (k : ℕ) (e : NetExpr) → fits n r kind e ≡ true → names_no_alg e ≡ true → AreOwn vars v k (own_types n r e) → HasSort vars (text v k e) (is_bool kind)
      text-sort kind k e h none o = text-sorted vars v n r kind k e event-names h none o

      before-clean : (kind : Kind) (k : ℕ) (e : NetExpr) → fits n r kind e ≡ true → names_no_alg e ≡ true → AreOwn vars v k (own_types n r e) → AllChecked vars (before v k e)
      before-clean kind k e h none o = same-checked vars (before v k e) (expr-checked vars v n r event-names kind k e h none o)

    none-received : (t : Ty) → None ≡ Some t → OwnIs vars v.received (sent_type t)
    none-received t is = absurd (none-some t is)

    module _ (c : NetChoice) (t : Told n c) (sub : (i : ℕ) → has (targets c.writes) i ≡ true → has (event_vars ds) i ≡ true) (tests : any_tested n c.writes ≡ true → tests_range n ds ≡ true)
        (carried : carried_type n c ≡ event_type n ds) where
      abbrev r : Option Ty
      r = carried_type n c

      what-received : (u : Ty) → carried_type n c ≡ Some u → OwnIs vars v.received (sent_type u)
      what-received u is = sent-own u (sym carried ∙ is)

      -- ---- names after it

      after-located : (a p : ℕ) → p < places_of (slice_get n.autos a) → HasSort vars ((after_naming n v y c).located a p) true
      after-located a p inside = by (taken_edge n c a)
        where
          by : (o : Option NetEdge) → HasSort vars (elim o [ None ↦ v.located a p | Some x ↦ truth (nat_eq x.to p) ]) true
          by None = names.located a p inside
          by (Some x) = (refl, refl)

      after-variable : (i : ℕ) (d : NetStored) → slice_get n.vars i ≡ Some d → HasSort vars (named ((after_naming n v y c).variable i)) (is_bool_sent d.type_of)
      after-variable i d at = by (has (targets c.writes) i) refl
        where
          by : (b : Bool) → has (targets c.writes) i ≡ b → HasSort vars (named (if b then y.next i else v.variable i)) (is_bool_sent d.type_of)
          by true here = name-sort vars (y.next i) (new_type d.type_of) (is_bool_sent d.type_of) (next-own i d (sub i here) at) (sort-of-new vars d.type_of)
          by false here = names.variable i d at

      after-names : NamesHaveSorts vars (after_naming n v y c) n None
      after-names = record { located = after-located; variable = after-variable; input = names.input; received = λ u is. absurd (none-some u is) }

      -- its own variables have the names that they have before
      after-own : (k : ℕ) (us : List StTy) → AreOwn vars v k us → AreOwn vars (after_naming n v y c) k us
      after-own k [] o = tt
      after-own k (u ∷ us) o = (o.0, after-own (k + 1) us o.1)

      -- ---- its statements

      stored-checked : (rest : Stms) → AllChecked vars rest → AllChecked vars (stored v y c.writes rest)
      stored-checked rest clean =
          stored-clean n r vars v y (own_length r) (λ i. has (targets c.writes) i ≡ true) (text-sort r what-received) (before-clean r what-received)
          (λ i d here at. next-own i d (sub i here) at) (λ i here is. range-own (tests (tested-any n i is c.writes here)))
          (λ i here. target-there n r i c.writes t.writes here) (λ i d here at. values i d at) c.writes rest (λ i h. h) clean

      act-checked : (k : ℕ) (body : Stms) → AreOwn vars v k (updates_types n (carried_type n c) c.writes) → AllChecked vars body → AllChecked vars (act n v y k c.writes body)
      act-checked k body o clean =
          act-clean n r vars v y (own_length r) (λ i. has (targets c.writes) i ≡ true) (text-sort r what-received) (before-clean r what-received)
          (λ i d here at. next-own i d (sub i here) at) (λ i here is. range-own (tests (tested-any n i is c.writes here)))
          (λ i here. target-there n r i c.writes t.writes here) (λ i d here at. values i d at) c.writes k body (λ i h. h) (λ is. range-own (tests is)) o t.writes t.writes_names clean

      kept-checked : (k : ℕ) (ss : Stms) → AreOwn vars v k (own_types n None (all_hold (asked n c))) → AllChecked vars ss → AllChecked vars (where_kept n v y k c ss)
      kept-checked k ss o clean =
          let all : NetExpr = all_hold (asked n c) in
          let own = after-own k (own_types n None all) o in
          where-checked vars (after_naming n v y c) k (asked n c) ss
          (same-checked vars (before (after_naming n v y c) k all) (expr-checked vars (after_naming n v y c) n None after-names bool_kind k all t.kept t.kept_names own))
          (text-sorted vars (after_naming n v y c) n None bool_kind k all after-names t.kept t.kept_names own) clean

      written-checked : (k : ℕ) → AreOwn vars v k (choice_types n c) → WrittenChecked vars (choice_written n v y k c)
      written-checked k o =
          let kept : List StTy = own_types n None (all_hold (asked n c)) in
          let q = own-both vars v k (temps c.test) (own_types n None c.test) (sent_types n c.sent ++ (updates_types n r c.writes ++ kept)) (own_length None c.test) o in
          let s = own-both vars v (k + temps c.test) (sent_temps c.sent) (sent_types n c.sent) (updates_types n r c.writes ++ kept) (sent-length n own_length c.sent) q.1 in
          let j : ℕ = k + temps c.test + sent_temps c.sent in
          let u = own-both vars v j (updates_temps c.writes) (updates_types n r c.writes) kept (updates-length n r (own_length r) c.writes) s.1 in
          record {
            before = before-clean None none-received bool_kind k c.test t.test t.test_names q.0;
            test = text-sort None none-received bool_kind k c.test t.test t.test_names q.0;
            act = λ rest clean.
                let after : Stms = stored v y c.writes (moves_text n c.moves rest) in
                sends-clean n vars v (text-sort None none-received) (before-clean None none-received) c.sent r (k + temps c.test) (act n v y j c.writes (where_kept n v y (j + updates_temps c.writes) c after))
                what-received s.0 t.sent t.sent_names
                (act-checked j (where_kept n v y (j + updates_temps c.writes) c after) u.0
                (kept-checked (j + updates_temps c.writes) after u.1 (stored-checked (moves_text n c.moves rest) (moves-checked vars n places c.moves rest clean))));
          }

    all-checked : (cs : List NetChoice) (k : ℕ) → AllByRecursion (Told n) cs → ((i : ℕ) → has (flat_map (λ (c : NetChoice). targets c.writes) cs) i ≡ true → has (event_vars ds) i ≡ true)
        → (list_any (λ (c : NetChoice). any_tested n c.writes) cs ≡ true → tests_range n ds ≡ true) → AllByRecursion (λ (c : NetChoice). carried_type n c ≡ event_type n ds) cs
        → AreOwn vars v k (flat_map (choice_types n) cs) → AllByRecursion (WrittenChecked vars) (all_written n v y k cs)
    all-checked [] k t sub tests carried o = tt
    all-checked (c ∷ cs) k t sub tests carried o =
        let q = own-both vars v k (choice_temps n c) (choice_types n c) (flat_map (choice_types n) cs) (choice-length n own_length c) o in (
          written-checked c t.0 (λ i h. sub i (has-append (targets c.writes) (flat_map (λ (d : NetChoice). targets d.writes) cs) i ∙ in-left _ _ h)) (λ is. tests (in-left _ _ is)) carried.0 k q.0,
          all-checked cs (k + choice_temps n c) t.1 (λ i h. sub i (has-append (targets c.writes) (flat_map (λ (d : NetChoice). targets d.writes) cs) i ∙ in-right _ _ h)) (λ is. tests (in-right _ _ is)) carried.1 q.1,
        )

    pub part-checked : AllByRecursion (Told n) ds → AllByRecursion (λ (c : NetChoice). carried_type n c ≡ event_type n ds) ds → AllChecked vars (event_part n j ds).body
    part-checked t carried =
        event-checked vars mark (own_name (j, done_face)) (all_written n v y (ifs_from n ds j) ds)
        (all-checked ds (ifs_from n ds j) t (λ i h. once-all (flat_map (λ (c : NetChoice). targets c.writes) ds) i ∙ h) (λ is. is) carried all-own)
        (λ is. done-own (sym (mark-is n v y (ifs_from n ds j) ds) ∙ is))

  -- ---- the algebraic variables

  same-sort : (b : Bool) → is_same_sort (Some (sort_by b)) (Some (sort_by b)) ≡ true
  same-sort true = refl
  same-sort false = refl

  alg-sort : (y : Ty) (ls : List (List ℕ)) → sort_of_type (if is_bool_type y then ty.Bool else ty.Lint) ≡ sort_by (is_bool (kind_of y ls))
  alg-sort cif_ty.Bool ls = refl
  alg-sort (cif_ty.Int lo hi) ls = refl
  alg-sort (cif_ty.Enum size) ls = refl

  assign-checked : (x : Text) (e : Expr) (v : StVar) (b : Bool) → declared vars x ≡ Some v → can_be_assigned (Some v) ≡ true → sort_of_type v.ty ≡ sort_by b → HasSort vars e b → (k : ℕ) → stm_faults vars k (assign x e) ≡ []
  assign-checked x e v b at can same h k =
      let known = h.0 in
      let sort = h.1 in
      let q = same-sort b in
      rw (at, known, sort, same, q, can) refl

  shown-checked : (i k : ℕ) (as' : List NetAlg) → AllByRecursion (IsDefinition n) as' → AllDeclared vars letter.R class.Output i (map alg_face (map alg_face_of as')) → AreOwn vars w k (defined_types n as')
      → AllChecked vars (shown_text w i k as')
  shown-checked i k [] defs at own = tt
  shown-checked i k (a ∷ as') defs at own =
      let e : NetExpr = defined_by a in
      let kind : Kind = kind_of a.type_of a.literals in
      let d = defs.0 in
      let q = own-both vars w k (temps e) (own_types n None e) (defined_types n as') (own_length None e) own in
      checked-append vars (before w k e) (stms (assign (name_for letter.R i a.path) (text w k e)) (shown_text w (i + 1) (k + temps e) as'))
      (same-checked vars (before w k e) (expr-checked vars w n None names kind k e d.fit d.names q.0)) (
        (λ j. assign-checked (name_for letter.R i a.path) (text w k e) (declaration letter.R class.Output (i, alg_face (alg_face_of a))) (is_bool kind) at.0 refl (alg-sort a.type_of a.literals)
            (text-sorted vars w n None kind k e names d.fit d.names q.0) j),
        shown-checked (i + 1) (k + temps e) as' defs.1 at.1 q.1,
      )

  pub algs-checked : (k : ℕ) (as' : List NetAlg) → AllByRecursion (IsDefinition n) as' → AllDeclared vars letter.R class.Output 0 (map alg_face (map alg_face_of as')) → AllDeclared vars letter.T class.Plain k (map if_face (defined_types n as'))
      → AllChecked vars (shown_text (net_naming n fired) 0 k as')
  algs-checked k as' defs at own = shown-checked 0 k as' defs at (ifs-own k (defined_types n as') own)
