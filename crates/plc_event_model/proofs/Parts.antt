-- The part of an event whose choices have data tries the event.
use Rattle.std.proofs.Common.{◌≡◌, ℕ, suc, ◌+◌, ◌<◌, ◌≤◌, Bool, true, false, ◌&&◌, ◌||◌, List, [], ◌∷◌, ◌++◌, length, flat_map, Option, Some, None, nat_eq, inr, refl, sym, ap, subst, ◌∙◌, arith, if◌then◌else◌}
use Rattle.std.specs.Prelude.{codes, nat_lt, slice_get}
use Rattle.std.specs.List.{AllByRecursion, list_all, list_any}
use Rattle.std.proofs.lemmas.List.{length-append}
use Rattle.grammar.specs.Pieces.{Text}
use Rattle.cif_base.specs.declared.types.Ty.{Ty}
use Rattle.cif_net_expr.specs.Tree.{NetExpr, NetUpdate, net_set, net_choose, NetUpdates, no_net_updates, net_updates, NetUpdateBranches, no_net_update_branches, net_update_branches}
use Rattle.cif_net_model.specs.Net.{NetInvariant, NetStored, Net}
use Rattle.cif_net_model.specs.Exprs.{targets}
use Rattle.cif_net_model.specs.Facts.{channel_of, has, is_net}
use Rattle.cif_net_model.specs.Shown.{channel_type}
use Rattle.cif_net_model.specs.Listing.{NetChoice, all_hold}
use Rattle.cif_net_model.specs.Meaning.{system_of_net}
use Rattle.cif_net_model.specs.Reads.{names_no_alg}
use Rattle.cif_net_model.specs.Table.{IsGuarded, carried_type, choice_stands}
use Rattle.cif_net_model.proofs.Passing.{and-left, and-right}
use Rattle.st_ast.specs.Tree.{Program}
use Rattle.st_ast.specs.declared.tree.StTy.{StTy}
use Rattle.st_ast.specs.declared.tree.StTy.TheVariants as ty
use Rattle.plc_model.specs.declared.letter.Letter.TheVariants as letter
use Rattle.plc_model.specs.Face.{IsDeclared}
use Rattle.plc_model.specs.Frame.{TriesEvent, fired}
use Rattle.plc_model.proofs.NameLaws.{names-differ}
use Rattle.plc_frame.specs.Faces.{face_of_net}
use Rattle.plc_frame.specs.Events.{all_bare, choices_of, done_face, needs_mark, own_name}
use Rattle.plc_frame.proofs.Choosing.{all-filter, all-of}
use Rattle.cif_net_model.specs.Safe.{Setting}
use Rattle.plc_expr.specs.Texts.{Naming, temps}
use Rattle.plc_expr.specs.Sorts.{own_types}
use Rattle.plc_event_model.specs.Writes.{NewNames, any_tested, conditions_temps, updates_temps, update_temps, bodies_temps}
use Rattle.plc_event_model.specs.Asked.{Promises}
use Rattle.plc_event_model.specs.Sends.{event_type, sent_temps}
use Rattle.plc_event_model.specs.Keeps.{asked}
use Rattle.plc_event_model.specs.Own.{net_faces, new_face, range_face, range_faces, choice_temps, choice_types, conditions_types, updates_types, update_types, bodies_types, event_vars, new_names, place_in, sent_number, sent_types, tests_range}
use Rattle.plc_event_model.specs.Declared.{OwnStand}
use Rattle.plc_event_model.specs.Events.{all_written, is_bare}
use Rattle.plc_event_model.specs.Parts.{AreDeclared, all_temps, event_first, event_part, done_faces, event_faces, event_naming, ifs_from, needs_done}
use Rattle.plc_event_model.specs.Ready.{AllFrom, ChoiceStands, DoneStands, IsReadyChoice}
use Rattle.plc_event_model.proofs.Targets.{has-append, once-all, target-there}
use Rattle.plc_event_model.proofs.Laying.{own_names, first_own, end_own, faces-length, stands, temp-named}
use Rattle.plc_event_model.proofs.Trying.{of-event}
use Rattle.plc_event_model.proofs.Whole.{events-tried}

-- ---- types of own variables

module _ (n : Net) (r : Option Ty) (own_length : (e : NetExpr) → length (own_types n r e) ≡ temps e) where
  pub conditions-length : (bs : NetUpdateBranches) → length (conditions_types n r bs) ≡ conditions_temps bs
  conditions-length no_net_update_branches = refl
  conditions-length (net_update_branches c us bs) =
      length-append (own_types n r c) (conditions_types n r bs)
      ∙ ap (λ q. q + length (conditions_types n r bs)) (own_length c) ∙ ap (λ q. temps c + q) (conditions-length bs)

  mutual
    pub updates-length : (us : NetUpdates) → length (updates_types n r us) ≡ updates_temps us
    updates-length no_net_updates = refl
    updates-length (net_updates u us) =
        length-append (updates_types n r us) (update_types n r u)
        ∙ ap (λ q. q + length (update_types n r u)) (updates-length us) ∙ ap (λ q. updates_temps us + q) (update-length u)

    update-length : (u : NetUpdate) → length (update_types n r u) ≡ update_temps u
    update-length (net_set v e) = own_length e
    update-length (net_choose bs us) =
        length-append (conditions_types n r bs) (bodies_types n r bs ++ updates_types n r us)
        ∙ ap (λ q. q + length (bodies_types n r bs ++ updates_types n r us)) (conditions-length bs)
        ∙ ap (λ q. conditions_temps bs + q) (length-append (bodies_types n r bs) (updates_types n r us)
        ∙ ap (λ q. q + length (updates_types n r us)) (bodies-length bs) ∙ ap (λ q. bodies_temps bs + q) (updates-length us))

    pub bodies-length : (bs : NetUpdateBranches) → length (bodies_types n r bs) ≡ bodies_temps bs
    bodies-length no_net_update_branches = refl
    bodies-length (net_update_branches c us bs) =
        length-append (updates_types n r us) (bodies_types n r bs)
        ∙ ap (λ q. q + length (bodies_types n r bs)) (updates-length us) ∙ ap (λ q. updates_temps us + q) (bodies-length bs)

module _ (n : Net) (own_length : (r : Option Ty) (e : NetExpr) → length (own_types n r e) ≡ temps e) where
  pub sent-length : (e : Option NetExpr) → length (sent_types n e) ≡ sent_temps e
  sent-length None = refl
  sent-length (Some e) = own_length None e

  pub choice-length : (c : NetChoice) → length (choice_types n c) ≡ choice_temps n c
  choice-length c =
      let us : List StTy = updates_types n (carried_type n c) c.writes in
      let ks : List StTy = own_types n None (all_hold (asked n c)) in
      length-append (own_types n None c.test) (sent_types n c.sent ++ (us ++ ks)) ∙ ap (λ q. q + length (sent_types n c.sent ++ (us ++ ks))) (own_length None c.test)
      ∙ ap (λ q. temps c.test + q) (length-append (sent_types n c.sent) (us ++ ks) ∙ ap (λ q. q + length (us ++ ks)) (sent-length c.sent)
      ∙ ap (λ q. sent_temps c.sent + q) (length-append us ks ∙ ap (λ q. q + length ks) (updates-length n (carried_type n c) (own_length (carried_type n c)) c.writes)
      ∙ ap (λ q. updates_temps c.writes + q) (own_length None (all_hold (asked n c)))))

  pub types-length : (cs : List NetChoice) → length (flat_map (choice_types n) cs) ≡ all_temps n cs
  types-length [] = refl
  types-length (c ∷ cs) =
      length-append (choice_types n c) (flat_map (choice_types n) cs)
      ∙ ap (λ q. q + length (flat_map (choice_types n) cs)) (choice-length c) ∙ ap (λ q. choice_temps n c + q) (types-length cs)

-- ---- lists of choices

any-right : (a b : Bool) → b ≡ true → (a || b) ≡ true
any-right true b e = refl
any-right false b e = e

any-left : (a b : Bool) → a ≡ true → (a || b) ≡ true
any-left true b e = refl
any-left false b e = absurd cc

module _ (n : Net) (p : Program) (base j : ℕ) (cs : List NetChoice) (d : AreDeclared p base j (event_faces n cs)) (count_is : length (flat_map (choice_types n) cs) ≡ all_temps n cs)
    (vars_there : (v : ℕ) → has (event_vars cs) v ≡ true → (q : NetStored) × (slice_get n.vars v ≡ Some q)) where
  abbrev low : ℕ
  low = first_own n p base j cs d count_is vars_there

  abbrev count : ℕ
  count = end_own n p base j cs d count_is vars_there

  abbrev own : List Text
  own = own_names n p base j cs d count_is vars_there

  -- the choices from some place on stand
  all-stand : (ds : List NetChoice) (k : ℕ) → ((v : ℕ) → has (flat_map (λ (c : NetChoice). targets c.writes) ds) v ≡ true → has (event_vars cs) v ≡ true)
      → (list_any (λ (c : NetChoice). any_tested n c.writes) ds ≡ true → tests_range n cs ≡ true) → low ≤ k → k + all_temps n ds ≤ count → AllByRecursion (λ (c : NetChoice). carried_type n c ≡ event_type n cs) ds
      → AllFrom n (IsReadyChoice n p (event_naming n cs j) (new_names n cs (event_first n cs j)) base) k ds
      → AllFrom n (ChoiceStands n p own (event_naming n cs j) (new_names n cs (event_first n cs j)) base low count) k ds
  all-stand [] k sub tests from room carried ready = tt
  all-stand (c ∷ ds) k sub tests from room carried ready = (
    record {
      variables = subst (λ t. OwnStand n p own (event_naming n cs j) (new_names n cs (event_first n cs j)) base low count t c.writes) (sym carried.0)
          (stands n p base j cs d count_is vars_there c.writes
          (λ v h. sub v (has-append (targets c.writes) (flat_map (λ (q : NetChoice). targets q.writes) ds) v ∙ any-left _ _ h))
          (λ t. tests (any-left _ _ t)));
      ready = ready.0;
      from = from;
      room = omega (arith, room);
    },
    all-stand ds (k + choice_temps n c) (λ v h. sub v (has-append (targets c.writes) (flat_map (λ (q : NetChoice). targets q.writes) ds) v ∙ any-right _ _ h)) (λ t. tests (any-right _ _ t))
        (omega (arith, from)) (omega (arith, room)) carried.1 ready.1,
  )

  -- ---- the mark that a choice was made

  place-most : (vs : List ℕ) (v : ℕ) → place_in vs v ≤ length vs
  place-most [] v = omega arith
  place-most (u ∷ vs) v = let rest = place-most vs v in go (nat_eq v u) rest
    where
      go : (b : Bool) → place_in vs v ≤ length vs → (if b then 0 else suc (place_in vs v)) ≤ suc (length vs)
      go true r = omega arith
      go false r = omega (arith, r)

  one-done : needs_done n cs ≡ true → length (done_faces n cs) ≡ 1
  one-done t = ap (λ b. length (if b then done_face ∷ [] else [])) t

  done-stands : needs_done n cs ≡ true → DoneStands p own (event_naming n cs j) (new_names n cs (event_first n cs j)) low count (own_name (j, done_face))
  done-stands t =
      let one = one-done t in
      let small = d.small in
      let long = faces-length n p base j cs d count_is vars_there in
      let first : slice_get (event_faces n cs) 0 ≡ Some done_face = ap (λ b. slice_get ((if b then done_face ∷ [] else []) ++ net_faces n cs) 0) t in
      record {
        variable = temp-named n p base j cs d count_is vars_there 0 j done_face first (omega arith);
        no_mark = names-differ letter.T letter.T j (event_first n cs j) done_face.path range_face.path (omega (arith, small)) (omega (arith, small, long)) (inr (λ e. omega (arith, e, one)));
        no_next = λ v.
            let most = place-most (event_vars cs) v in
            names-differ letter.T letter.T j (event_first n cs j + length (range_faces n cs) + place_in (event_vars cs) v) done_face.path (new_face n v).path
            (omega (arith, small)) (omega (arith, small, long, most)) (inr (λ e. omega (arith, e, one)));
        no_sent = names-differ letter.T letter.T j (sent_number n cs (event_first n cs j)) done_face.path (codes "sent") (omega (arith, small)) (omega (arith, small, long)) (inr (λ e. omega (arith, e, one)));
        no_own = λ k from below_k.
            names-differ letter.T letter.T j k done_face.path (codes "if") (omega (arith, small)) (omega (arith, small, long, below_k)) (inr (λ e. omega (arith, e, one, from)));
      }

-- ---- the statements

module _ (n : Net) (w : Naming) (y : NewNames) where
  bare-is : (k : ℕ) (cs : List NetChoice) → all_bare (all_written n w y k cs) ≡ list_all (is_bare n) cs
  bare-is k [] = refl
  bare-is k (c ∷ cs) = ap (λ b. is_bare n c && b) (bare-is (k + choice_temps n c) cs)

  written-length : (k : ℕ) (cs : List NetChoice) → length (all_written n w y k cs) ≡ length cs
  written-length k [] = refl
  written-length k (c ∷ cs) = ap suc (written-length (k + choice_temps n c) cs)

  pub mark-is : (k : ℕ) (cs : List NetChoice) → needs_mark (all_written n w y k cs) ≡ needs_done n cs
  mark-is k cs = ap (λ b. if b then false else nat_lt 1 (length (all_written n w y k cs))) (bare-is k cs) ∙ ap (λ l. if list_all (is_bare n) cs then false else nat_lt 1 l) (written-length k cs)

-- the variables of choices that stand are there
module _ (n : Net) (v : ℕ) where
  pub vars-there : (cs : List NetChoice) → AllByRecursion (λ (c : NetChoice). choice_stands n c ≡ true) cs → has (flat_map (λ (c : NetChoice). targets c.writes) cs) v ≡ true → (q : NetStored) × (slice_get n.vars v ≡ Some q)
  vars-there [] all h = absurd cc
  vars-there (c ∷ cs) all h = go (has (targets c.writes) v) refl (vars-there cs all.1)
    where
      other : (a b : Bool) → a ≡ false → (a || b) ≡ true → b ≡ true
      other true b e h = absurd cc
      other false b e h = h

      go : (b : Bool) → has (targets c.writes) v ≡ b → (has (flat_map (λ (q : NetChoice). targets q.writes) cs) v ≡ true → (q : NetStored) × (slice_get n.vars v ≡ Some q)) → (q : NetStored) × (slice_get n.vars v ≡ Some q)
      go true e rest = target-there n (carried_type n c) v c.writes (and-right _ _ (and-left _ _ (and-left _ _ all.0))) e
      go false e rest = rest (other (has (targets c.writes) v) (has (flat_map (λ (q : NetChoice). targets q.writes) cs) v) e (sym (has-append (targets c.writes) (flat_map (λ (q : NetChoice). targets q.writes) cs) v) ∙ h))

-- choices of one event have one type
pub one-type : (n : Net) (e : ℕ) (cs : List NetChoice) → AllByRecursion (λ (c : NetChoice). c.event ≡ e) cs → AllByRecursion (λ (c : NetChoice). carried_type n c ≡ event_type n cs) cs
one-type n e [] h = tt
one-type n e (c ∷ cs) h = (refl, each cs h.1)
  where
    each : (ds : List NetChoice) → AllByRecursion (λ (d : NetChoice). d.event ≡ e) ds → AllByRecursion (λ (d : NetChoice). carried_type n d ≡ carried_type n c) ds
    each [] g = tt
    each (d ∷ ds) g = (ap (λ i. channel_type (channel_of n i)) (g.0 ∙ sym h.0), each ds g.1)

module _ (n : Net) (cs : List NetChoice) (p : Program) (base j e : ℕ) where
  abbrev here : List NetChoice
  here = choices_of cs e

  -- the part of the event tries it
  pub parts-tried : is_net n ≡ true → IsGuarded n cs → list_all (λ (i : NetInvariant). names_no_alg i.pred) n.invariants ≡ true → e < length n.events
      → IsDeclared p.vars fired ty.Bool → AreDeclared p base j (event_faces n (choices_of cs e)) → ((r : Option Ty) (x : NetExpr) → length (own_types n r x) ≡ temps x)
      → ((v : Naming) (x : Setting) → v.own ≡ (event_naming n (choices_of cs e) j).own → Promises p.vars v x base (ifs_from n (choices_of cs e) j) (ifs_from n (choices_of cs e) j + all_temps n (choices_of cs e)))
      → AllFrom n (IsReadyChoice n p (event_naming n (choices_of cs e) j) (new_names n (choices_of cs e) (event_first n (choices_of cs e) j)) base) (ifs_from n (choices_of cs e) j) (choices_of cs e)
      → TriesEvent (face_of_net n) (system_of_net n) p (event_part n j (choices_of cs e)) e
  parts-tried is guarded free within mark declared own_length promised ready =
      let count_is = types-length n own_length here in
      let there = λ (v : ℕ) (h : has (event_vars here) v ≡ true).
      vars-there n v here (all-filter (λ (c : NetChoice). choice_stands n c ≡ true) (λ (c : NetChoice). nat_eq c.event e) cs (all-of (λ (c : NetChoice). choice_stands n c ≡ true) cs guarded.stands))
      (sym (once-all (flat_map (λ (c : NetChoice). targets c.writes) here) v) ∙ h) in
      events-tried n cs p (own_names n p base j here declared count_is there) (event_naming n here j) (new_names n here (event_first n here j)) base (ifs_from n here j) (ifs_from n here j + all_temps n here) (ifs_from n here j) e (own_name (j, done_face))
      is guarded free within mark (λ v. refl) promised
      (all-stand n p base j here declared count_is there here (ifs_from n here j) (λ v h. once-all (flat_map (λ (c : NetChoice). targets c.writes) here) v ∙ h) (λ t. t) (omega arith) (omega arith)
      (one-type n e here (of-event cs e)) ready)
      (λ t. done-stands n p base j here declared count_is there (sym (mark-is n (event_naming n here j) (new_names n here (event_first n here j)) (ifs_from n here j) here) ∙ t))
