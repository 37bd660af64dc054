-- The new values are stored: each assigned variable takes over its new value, and the others keep theirs.
use Rattle.std.proofs.Common.{◌≡◌, ◌≢◌, ℕ, zero, suc, ◌+◌, ◌^◌, ◌<◌, ℤ, pos, Bool, true, false, ◌||◌, List, [], ◌∷◌, ◌++◌, map, length, Option, Some, Ok, nat_eq, inr, refl, sym, ap, subst, ◌∙◌, arith, eqb-true, if◌then◌else◌}
use Rattle.std.specs.Prelude.{IsTrue, slice_get, slice_set, option_map}
use Rattle.std.specs.List.{AllByRecursion, enumerate_from}
use Rattle.std.proofs.lemmas.Bool.{eqb-false}
use Rattle.std.proofs.lemmas.List.{get_or-set_other}
use Rattle.std.proofs.lemmas.Option.{slice_get-map}
use Rattle.grammar.specs.Pieces.{Text}
use Rattle.cif_base.specs.declared.types.Ty.{Ty}
use Rattle.cif_system.specs.System.{State, in_range}
use Rattle.cif_system.proofs.Lists.{none-some, some-same}
use Rattle.cif_net_expr.specs.Tree.{NetUpdates}
use Rattle.cif_net_model.specs.Net.{NetStored, Net}
use Rattle.cif_net_model.specs.Exprs.{targets}
use Rattle.cif_net_model.specs.Facts.{has}
use Rattle.cif_net_model.specs.Meaning.{type_range, system_of_net}
use Rattle.st_ast.specs.Tree.{Program, named, stms_of}
use Rattle.st_ast.specs.Names.{same_name, place_of}
use Rattle.st_ast.specs.Values.{Memory}
use Rattle.st_ast.specs.Exec.{Ended, exec, is_within}
use Rattle.st_ast.specs.declared.tree.StVar.{StVar}
use Rattle.st_ast.proofs.Runs.{assign_runs, cons_runs}
use Rattle.plc_model.specs.declared.letter.Letter.TheVariants as letter
use Rattle.plc_model.specs.Names.{name_for}
use Rattle.plc_model.specs.Face.{VariableFace, StateOf, range_of, places_of}
use Rattle.plc_model.specs.Frame.{WritesOnly, fired, names_of, writable}
use Rattle.plc_model.proofs.NameLaws.{letters-differ, names-differ}
use Rattle.plc_model.proofs.FaceLaws.{Typed, below, declared-of, declared-type, pairwise-length, places-differ, slice_get-set_other, slice_get-set_same, typed-written}
use Rattle.plc_frame.specs.Faces.{face_of_net, st_type, stored_face}
use Rattle.plc_frame.proofs.Writing.{Among, name_of, among-left, among-right, names-among, writes-none, writes-one, writes-then}
use Rattle.plc_expr.specs.Texts.{Naming}
use Rattle.plc_expr.specs.Held.{held_at}
use Rattle.plc_event_model.specs.Writes.{NewNames}
use Rattle.plc_event_model.specs.Acts.{store}
use Rattle.plc_event_model.specs.Declared.{OwnStand}
use Rattle.plc_event_model.specs.Own.{variable_name}
use Rattle.plc_event_model.proofs.Taking.{variable-at, range-is, within-is, has-first, has-rest, self}

all-at : (P : ℕ × VariableFace → Type 0) (i : ℕ) (xs : List VariableFace) (k : ℕ) (x : VariableFace) → AllByRecursion P (enumerate_from i xs) → slice_get xs k ≡ Some x → P (i + k, x)
all-at P i [] k x all e = absurd (none-some x e)
all-at P i (z ∷ xs) zero x all e = subst (λ j. P (j, x)) (omega arith) (subst (λ (u : VariableFace). P (i, u)) (some-same z x e) all.0)
all-at P i (z ∷ xs) (suc k) x all e = subst (λ j. P (j, x)) (omega arith) (all-at P (i + 1) xs k x all.1 e)

module _ (n : Net) (p : Program) (own : List Text) (w : Naming) (y : NewNames) (base low count : ℕ) (us : NetUpdates) (carried : Option Ty) (o : OwnStand n p own w y base low count carried us)
    (named_so : (v : ℕ) → w.variable v ≡ variable_name n v) (few : length n.vars < 2 ^ 32) (s : State) (m0 : Memory) (st : StateOf (face_of_net n) (system_of_net n) p m0 s)
    (f : ℕ → ℤ) (ranged : (v : ℕ) (d : NetStored) → slice_get n.vars v ≡ Some d → in_range (type_range d.type_of) (f v) ≡ true) where
  abbrev pub place_v : ℕ → ℕ
  place_v v = place_of p.vars (variable_name n v)

  -- the new values are there
  abbrev pub HaveNew : Memory → Type 0
  HaveNew m = (v : ℕ) → has (targets us) v ≡ true → held_at p.vars m (y.next v) ≡ f v

  pub record Stored (vs : List ℕ) (turns : ℕ) (b : Memory) : Type 0 where
    pub after : Memory
    pub ends : exec p.vars (stms_of (map (store w y) vs)) turns b ≡ Ended turns after
    pub typed : Typed p.vars after
    pub writes : WritesOnly (writable (face_of_net n) own) p.vars b after
    pub taken : (v : ℕ) (d : NetStored) → slice_get n.vars v ≡ Some d → slice_get after (place_v v) ≡ (if has vs v then Some (f v) else slice_get b (place_v v))
    pub others : (x : Text) → ((k : ℕ) (path : Text) → same_name (name_for letter.V k path) x ≡ false) → slice_get after (place_of p.vars x) ≡ slice_get b (place_of p.vars x)

  among-v : (v : ℕ) (d : NetStored) → slice_get n.vars v ≡ Some d → Among (variable_name n v) (writable (face_of_net n) own)
  among-v v d at =
      let zero-plus : 0 + v ≡ v = omega arith in
      let x = variable-at n p s m0 v d at st in
      subst (λ z. Among z (writable (face_of_net n) own)) (ap (λ k. name_for letter.V k d.path) zero-plus ∙ sym x.name)
      (all-at (λ z. Among (name_of letter.V z) (writable (face_of_net n) own)) 0 (face_of_net n).variables v (stored_face d)
      (names-among letter.V (face_of_net n).variables (writable (face_of_net n) own)
      (λ z a. among-left z (names_of letter.L (places_of (face_of_net n)) ++ names_of letter.V (face_of_net n).variables) (fired ∷ own)
      (among-right z (names_of letter.L (places_of (face_of_net n))) (names_of letter.V (face_of_net n).variables) a)))
      (slice_get-map stored_face n.vars v ∙ ap (option_map stored_face) at))

  -- a new value is not stored over another
  next-apart : (u v : ℕ) (d : NetStored) → slice_get n.vars u ≡ Some d → has (targets us) v ≡ true → place_of p.vars (y.next v) ≢ place_v u
  next-apart u v d at i =
      let new = o.next v i in
      let x = variable-at n p s m0 u d at st in
      let q = declared-of p.vars (y.next v) _ new.temp.is_declared in
      places-differ p.vars (y.next v) (variable_name n u) q.variable q.at
      (subst (λ z. same_name z (variable_name n u) ≡ false) (sym new.temp.name)
      (subst (λ z. same_name (name_for letter.T new.temp.number new.temp.path) z ≡ false) (sym x.name)
      (letters-differ letter.T letter.V new.temp.number u new.temp.path d.path (λ e. cc))))

  -- two variables have two places
  variables-apart : (u v : ℕ) (d e : NetStored) → slice_get n.vars u ≡ Some d → slice_get n.vars v ≡ Some e → u ≢ v → place_v v ≢ place_v u
  variables-apart u v d e at_u at_v other =
      let x = variable-at n p s m0 u d at_u st in
      let z = variable-at n p s m0 v e at_v st in
      let q = declared-of p.vars (variable_name n v) _ z.is_declared in
      let small_u = below n.vars u d at_u in
      let small_v = below n.vars v e at_v in
      places-differ p.vars (variable_name n v) (variable_name n u) q.variable q.at
      (subst (λ a. same_name a (variable_name n u) ≡ false) (sym z.name)
      (subst (λ a. same_name (name_for letter.V v e.path) a ≡ false) (sym x.name)
      (names-differ letter.V letter.V v u e.path d.path (omega (arith, small_v, few)) (omega (arith, small_u, few)) (inr (λ h. other (sym h))))))

  pub stores-run : (vs : List ℕ) → ((v : ℕ) → has vs v ≡ true → has (targets us) v ≡ true) → (turns : ℕ) (b : Memory) → Typed p.vars b → HaveNew b → Stored vs turns b
  stores-run [] all turns b typed new = record {
    after = b;
    ends = refl;
    typed = typed;
    writes = writes-none (writable (face_of_net n) own) p.vars b;
    taken = λ v d at. refl;
    others = λ x apart. refl;
  }
  stores-run (u ∷ vs) all turns b typed new =
      let i = all u (has-first u vs u (self u)) in
      let d = o.next u i in
      let x = variable-at n p s m0 u d.stored d.at st in
      let b1 : Memory = slice_set b (place_v u) (f u) in
      let fits = ranged u d.stored d.at in
      let rest = stores-run vs (λ v e. all v (has-rest u vs v e)) turns b1
      (typed-written p.vars b (variable_name n u) (st_type d.stored.type_of) (f u) x.is_declared (range-is d.stored.type_of (f u) ∙ fits) typed)
      (λ v j. get_or-set_other b (place_v u) (place_of p.vars (y.next v)) (f u) (pos 0) (next-apart u v d.stored d.at j) ∙ new v j) in
      let q = declared-of p.vars (variable_name n u) (st_type d.stored.type_of) x.is_declared in
      let inside = below p.vars (place_v u) q.variable q.at in
      let long = pairwise-length (λ (v : StVar) z. IsTrue (in_range (range_of v.ty) z)) p.vars b typed in
      let room : place_v u < length b = omega (arith, inside, long) in
      record {
        after = rest.after;
        ends = cons_runs p.vars (store w y u) (stms_of (map (store w y) vs)) turns turns b b1
            (assign_runs p.vars (w.variable u) (named (y.next u)) (place_v u) (f u) turns b (ap (place_of p.vars) (named_so u)) (ap Ok (new u i))
            (ap (λ t. is_within t (f u)) (declared-type p.vars (variable_name n u) (st_type d.stored.type_of) x.is_declared) ∙ within-is d.stored.type_of (f u) fits))
            ∙ rest.ends;
        typed = rest.typed;
        writes = writes-then (writable (face_of_net n) own) p.vars b b1 rest.after (writes-one (writable (face_of_net n) own) p.vars b (variable_name n u) (f u) (among-v u d.stored d.at)) rest.writes;
        taken = λ v e at. taken-then u v d.stored e d.at at (has vs v) (slice_get rest.after (place_v v)) b room (rest.taken v e at);
        others = λ z apart.
            rest.others z apart
            ∙ slice_get-set_other b (place_v u) (place_of p.vars z) (f u)
            (λ h. places-differ p.vars (variable_name n u) z q.variable q.at (subst (λ a. same_name a z ≡ false) (sym x.name) (apart u d.stored.path)) (sym h));
      }
    where
      taken-then : (u v : ℕ) (d e : NetStored) → slice_get n.vars u ≡ Some d → slice_get n.vars v ≡ Some e → (c : Bool) (found : Option ℤ) (b : Memory) → place_v u < length b
          → found ≡ (if c then Some (f v) else slice_get (slice_set b (place_v u) (f u)) (place_v v)) → found ≡ (if nat_eq v u || c then Some (f v) else slice_get b (place_v v))
      taken-then u v d e at_u at_v true found b room h = h ∙ ap (λ t. if t then Some (f v) else slice_get b (place_v v)) (either (nat_eq v u))
        where
          either : (t : Bool) → true ≡ (t || true)
          either true = refl
          either false = refl
      taken-then u v d e at_u at_v false found b room h = go (nat_eq v u) refl
        where
          go : (t : Bool) → nat_eq v u ≡ t → found ≡ (if t || false then Some (f v) else slice_get b (place_v v))
          go true is =
              let same : v ≡ u = eqb-true v u is in
              h ∙ ap (λ k. slice_get (slice_set b (place_v u) (f u)) (place_v k)) same ∙ slice_get-set_same b (place_v u) (f u) room ∙ ap (λ k. Some (f k)) (sym same)
          go false is = h ∙ slice_get-set_other b (place_v u) (place_v v) (f u) (variables-apart u v d e at_u at_v (λ q. eqb-false v u is (sym q)))
