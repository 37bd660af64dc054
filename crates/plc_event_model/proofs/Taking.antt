-- How old values become new ones: they are copied into the variables of the new values beforehand, and the new values are
-- stored at last.
use Rattle.std.proofs.Common.{◌≡◌, ℕ, ◌+◌, ℤ, pos, Bool, true, false, ◌||◌, List, [], ◌∷◌, map, Option, Some, None, Ok, nat_eq, refl, sym, ap, subst, ◌∙◌, arith, eq-eqb, eqb-true}
use Rattle.std.specs.Prelude.{slice_get, slice_set, slice_index_or, option_map}
use Rattle.std.specs.List.{list_all}
use Rattle.std.proofs.lemmas.Int.{ints}
use Rattle.std.proofs.lemmas.Bool.{eqb-false}
use Rattle.std.proofs.lemmas.List.{get_or-set_same, get_or-set_other}
use Rattle.std.proofs.lemmas.Option.{slice_get-map}
use Rattle.grammar.specs.Pieces.{Text}
use Rattle.cif_base.specs.declared.types.Ty.{Ty}
use Rattle.cif_base.specs.declared.types.Ty.TheVariants as cif_ty
use Rattle.cif_system.specs.System.{State, in_range}
use Rattle.cif_system.proofs.Picks.{at-member}
use Rattle.cif_net_expr.specs.Tree.{NetUpdates}
use Rattle.cif_net_model.specs.Net.{NetStored, Net}
use Rattle.cif_net_model.specs.Exprs.{targets}
use Rattle.cif_net_model.specs.Facts.{has, is_type, stored_stands}
use Rattle.cif_net_model.specs.Interval.{stored_range}
use Rattle.cif_net_model.specs.Meaning.{type_range, system_of_net}
use Rattle.cif_net_model.proofs.Orders.{Lies, test-from_lies}
use Rattle.cif_net_model.proofs.Passing.{all-member, and-left}
use Rattle.cif_net_model.proofs.PlainLaws.{fit-at}
use Rattle.st_ast.specs.Tree.{Program, named, stms_of}
use Rattle.st_ast.specs.Names.{place_of}
use Rattle.st_ast.specs.Values.{Memory, value_of}
use Rattle.st_ast.specs.Exec.{Ended, exec, is_within}
use Rattle.st_ast.proofs.Runs.{assign_runs, cons_runs}
use Rattle.plc_model.specs.declared.letter.Letter.TheVariants as letter
use Rattle.plc_model.specs.Names.{name_for}
use Rattle.plc_model.specs.Face.{IsDeclared, StateOf, range_of}
use Rattle.plc_model.proofs.FaceLaws.{get_or-of}
use Rattle.plc_frame.specs.Faces.{face_of_net, st_type, stored_face}
use Rattle.plc_frame.proofs.Writing.{hold-at}
use Rattle.plc_expr.specs.Texts.{Naming}
use Rattle.plc_expr.specs.Held.{held_at}
use Rattle.plc_event_model.specs.Writes.{NewNames, is_tested, any_tested}
use Rattle.plc_event_model.specs.Acts.{copy}
use Rattle.plc_event_model.specs.Asked.{setting_of, IsFit, CanTake, Promises, Receives}
use Rattle.plc_event_model.specs.Declared.{OwnStand}
use Rattle.plc_event_model.specs.Own.{variable_name}
use Rattle.plc_event_model.proofs.Memories.{Assigned, Tested, IsLater, later-state, IsReady, grounds}
use Rattle.plc_event_model.proofs.Writing.{Grounds}
use Rattle.plc_event_model.proofs.Targets.{or-left, or-right}

-- ---- types

pub range-is : (t : Ty) (z : ℤ) → in_range (range_of (st_type t)) z ≡ in_range (type_range t) z
range-is cif_ty.Bool z = refl
range-is (cif_ty.Int lo hi) z = refl
range-is (cif_ty.Enum size) z = refl

pub within-is : (t : Ty) (z : ℤ) → in_range (type_range t) z ≡ true → is_within (st_type t) z ≡ true
within-is cif_ty.Bool z h = refl
within-is (cif_ty.Int lo hi) z h = h
within-is (cif_ty.Enum size) z h = h

-- a value of the range can be taken for a new one
old-fits : (t : Ty) (z : ℤ) → is_type t ≡ true → in_range (type_range t) z ≡ true → IsFit (is_tested t) (type_range t) z
old-fits cif_ty.Bool z h g = g
old-fits (cif_ty.Int lo hi) z h g = grind (arith, ints)
old-fits (cif_ty.Enum size) z h g = g

module _ (n : Net) (p : Program) (s : State) where
  abbrev pub old : ℕ → ℤ
  old v = slice_index_or s.vals v (pos 0)

  -- the variable of the state
  pub record IsVariable (m : Memory) (v : ℕ) (d : NetStored) : Type 0 where
    pub name : variable_name n v ≡ name_for letter.V v d.path
    pub is_declared : IsDeclared p.vars (variable_name n v) (st_type d.type_of)
    pub holds : slice_get m (place_of p.vars (variable_name n v)) ≡ Some (old v)

  pub variable-at : (m : Memory) (v : ℕ) (d : NetStored) → slice_get n.vars v ≡ Some d → StateOf (face_of_net n) (system_of_net n) p m s → IsVariable m v d
  variable-at m v d at st =
      let held = hold-at p letter.V m 0 (face_of_net n).variables s.vals v (stored_face d) st.values (slice_get-map stored_face n.vars v ∙ ap (option_map stored_face) at) in
      let zero-plus : 0 + v ≡ v = omega arith in
      let name : variable_name n v ≡ name_for letter.V v d.path = ap (λ (o : Option NetStored). name_for letter.V v (elim o [ None ↦ [] | Some e ↦ e.path ])) at in
      let same : name_for letter.V (0 + v) d.path ≡ variable_name n v = ap (λ k. name_for letter.V k d.path) zero-plus ∙ sym name in
      record {
        name = name;
        is_declared = subst (λ x. IsDeclared p.vars x (st_type d.type_of)) same held.is_declared;
        holds = subst (λ x. slice_get m (place_of p.vars x) ≡ Some (old v)) same held.holds;
      }

  pub old-in : (m : Memory) (v : ℕ) (d : NetStored) → slice_get n.vars v ≡ Some d → StateOf (face_of_net n) (system_of_net n) p m s → in_range (type_range d.type_of) (old v) ≡ true
  old-in m v d at st = test-from_lies (type_range d.type_of) (old v) (subst (λ o. Lies (stored_range o) (old v)) at (fit-at n.vars s.vals v st.is_state.values))

-- ---- tests of lists

pub has-first : (u : ℕ) (vs : List ℕ) (v : ℕ) → nat_eq v u ≡ true → has (u ∷ vs) v ≡ true
has-first u vs v e = ap (λ b. b || has vs v) e

pub has-rest : (u : ℕ) (vs : List ℕ) (v : ℕ) → has vs v ≡ true → has (u ∷ vs) v ≡ true
has-rest u vs v e = go (nat_eq v u)
  where
    go : (b : Bool) → (b || has vs v) ≡ true
    go true = refl
    go false = e

has-none : (u : ℕ) (vs : List ℕ) (v : ℕ) → nat_eq v u ≡ false → has vs v ≡ false → has (u ∷ vs) v ≡ false
has-none u vs v e h = ap (λ b. b || has vs v) e ∙ h

pub self : (v : ℕ) → nat_eq v v ≡ true
self v = eq-eqb v v refl

module _ (n : Net) (p : Program) (own : List Text) (w : Naming) (y : NewNames) (base low count : ℕ) (us : NetUpdates) (carried : Option Ty) (o : OwnStand n p own w y base low count carried us)
    (named_so : (v : ℕ) → w.variable v ≡ variable_name n v) (stored_stand : list_all stored_stands n.vars ≡ true) where
  -- ---- copies

  module _ (s : State) (m0 : Memory) (st : StateOf (face_of_net n) (system_of_net n) p m0 s) where
    abbrev IsAfter : Memory → Type 0
    IsAfter m = IsLater n p own w y base low count us m0 m

    -- What copies of old values come to: the others keep theirs.
    pub record Copied (vs : List ℕ) (turns : ℕ) (m : Memory) : Type 0 where
      pub after : Memory
      pub ends : exec p.vars (stms_of (map (copy w y) vs)) turns m ≡ Ended turns after
      pub later : IsAfter after
      pub copied : (v : ℕ) → has (targets us) v ≡ true → has vs v ≡ true → held_at p.vars after (y.next v) ≡ old n p s v
      pub stayed : (v : ℕ) → has (targets us) v ≡ true → has vs v ≡ false → held_at p.vars after (y.next v) ≡ held_at p.vars m (y.next v)
      pub mark : any_tested n us ≡ true → held_at p.vars after y.in_range ≡ held_at p.vars m y.in_range

    module _ (r : ℤ) (got : Receives p.vars w carried r m0) (promised : Promises p.vars w (setting_of n s r) base low count) where
      abbrev g : Grounds n s r p.vars w y base low count (IsLater n p own w y base low count us m0) (IsReady n p own w y base low count us carried o s carried r m0 st got (λ t e. e) stored_stand promised) (Assigned n p own w y base low count us) (Tested n p own w y base low count us)
      g = grounds n p own w y base low count us carried o s carried r m0 st got (λ t e. e) stored_stand promised

      takes-old : (v : ℕ) → has (targets us) v ≡ true → CanTake (slice_get n.vars v) (old n p s v)
      takes-old v i =
          let new = o.next v i in
          subst (λ c. CanTake c (old n p s v)) (sym new.at)
          (old-fits new.stored.type_of (old n p s v) (and-left _ _ (and-left _ _ (all-member stored_stands n.vars new.stored stored_stand (at-member n.vars v new.stored new.at))))
          (old-in n p s m0 v new.stored new.at st))

      reads-old : (m : Memory) (v : ℕ) → has (targets us) v ≡ true → IsAfter m → value_of p.vars (named (w.variable v)) m ≡ Ok (old n p s v)
      reads-old m v i h =
          let new = o.next v i in
          let x = variable-at n p s m v new.stored new.at (later-state n p own w y base low count us carried o m0 m s h st) in
          ap (λ z. value_of p.vars (named z) m) (named_so v) ∙ ap Ok (get_or-of m (place_of p.vars (variable_name n v)) (old n p s v) (pos 0) x.holds)

      -- the first of the list, or one of the others
      copied-then : (u : ℕ) (vs : List ℕ) (v : ℕ) (m1 after : Memory) → has (u ∷ vs) v ≡ true → (has vs v ≡ true → held_at p.vars after (y.next v) ≡ old n p s v)
          → (has vs v ≡ false → held_at p.vars after (y.next v) ≡ held_at p.vars m1 (y.next v)) → held_at p.vars m1 (y.next u) ≡ old n p s u → held_at p.vars after (y.next v) ≡ old n p s v
      copied-then u vs v m1 after e inside stays here = go (has vs v) refl
        where
          only : (a b : Bool) → (a || b) ≡ true → b ≡ false → a ≡ true
          only true b e q = refl
          only false b e q = absurd cc

          go : (b : Bool) → has vs v ≡ b → held_at p.vars after (y.next v) ≡ old n p s v
          go true q = inside q
          go false q =
              let same : v ≡ u = eqb-true v u (only (nat_eq v u) (has vs v) e q) in
              stays q ∙ ap (λ k. held_at p.vars m1 (y.next k)) same ∙ here ∙ ap (old n p s) (sym same)

      pub copies-run : (vs : List ℕ) → ((v : ℕ) → has vs v ≡ true → has (targets us) v ≡ true) → (turns : ℕ) (m : Memory) → IsAfter m → Copied vs turns m
      copies-run [] all turns m h = record { after = m; ends = refl; later = h; copied = λ v i e. absurd cc; stayed = λ v i e. refl; mark = λ t. refl }
      copies-run (u ∷ vs) all turns m h =
          let i = all u (has-first u vs u (self u)) in
          let m1 : Memory = slice_set m (place_of p.vars (y.next u)) (old n p s u) in
          let rest = copies-run vs (λ v e. all v (has-rest u vs v e)) turns m1 (g.next_kept u (old n p s u) m i (takes-old u i) h) in
          let here : held_at p.vars m1 (y.next u) ≡ old n p s u = get_or-set_same m (place_of p.vars (y.next u)) (old n p s u) (pos 0) (g.next_room u m i h) in
          record {
            after = rest.after;
            ends = cons_runs p.vars (copy w y u) (stms_of (map (copy w y) vs)) turns turns m m1
                (assign_runs p.vars (y.next u) (named (w.variable u)) (place_of p.vars (y.next u)) (old n p s u) turns m refl (reads-old m u i h) (g.next_type u (old n p s u) i (takes-old u i)))
                ∙ rest.ends;
            later = rest.later;
            copied = λ v j e. copied-then u vs v m1 rest.after e (rest.copied v j) (λ q. rest.stayed v j q) here;
            stayed = λ v j e. rest.stayed v j (or-right _ _ e) ∙ get_or-set_other m (place_of p.vars (y.next u)) (place_of p.vars (y.next v)) (old n p s u) (pos 0) (g.next_apart v u j i (eqb-false v u (or-left _ _ e)));
            mark = λ t. rest.mark t ∙ get_or-set_other m (place_of p.vars (y.next u)) (place_of p.vars y.in_range) (old n p s u) (pos 0) (g.mark_apart u t i);
          }
