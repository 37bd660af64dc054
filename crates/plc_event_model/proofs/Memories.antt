-- The memories between the statements of a choice: only its own variables have changed, and all variables are in their types.
use Rattle.std.proofs.Common.{◌≡◌, ◌≢◌, ℕ, ◌+◌, ◌-◌, ◌^◌, ◌<◌, ◌≤◌, ℤ, pos, Bool, true, false, List, length, Option, Some, None, inl, inr, refl, sym, ap, subst, ◌∙◌, arith, [], ◌∷◌, ◌++◌}
use Rattle.std.specs.Prelude.{IsTrue, codes, slice_get, slice_set}
use Rattle.std.specs.List.{list_all, list_any}
use Rattle.grammar.specs.Pieces.{Text}
use Rattle.cif_base.specs.declared.types.Ty.{Ty}
use Rattle.cif_base.specs.declared.types.Ty.TheVariants as cif_ty
use Rattle.cif_system.specs.System.{State, in_range}
use Rattle.cif_net_expr.specs.Tree.{NetExpr, NetUpdates}
use Rattle.cif_net_model.specs.Net.{NetStored, Net}
use Rattle.cif_net_model.specs.Kinds.{in_32_bits}
use Rattle.cif_net_model.specs.Exprs.{targets}
use Rattle.cif_net_model.specs.Facts.{has, is_type, stored_stands}
use Rattle.cif_net_model.specs.Meaning.{type_range, system_of_net}
use Rattle.cif_net_model.proofs.Passing.{all-member, and-left, and-right}
use Rattle.cif_system.specs.Words.{Member}
use Rattle.cif_system.proofs.Picks.{at-member}
use Rattle.st_ast.specs.Tree.{Program}
use Rattle.st_ast.specs.Names.{same_name, place_of, declared}
use Rattle.st_ast.specs.Values.{Memory, of_bool}
use Rattle.st_ast.specs.Exec.{is_within}
use Rattle.st_ast.specs.declared.tree.StVar.{StVar}
use Rattle.st_ast.specs.declared.tree.StTy.{StTy}
use Rattle.st_ast.specs.declared.tree.StTy.TheVariants as ty
use Rattle.plc_model.specs.declared.letter.Letter.{Letter}
use Rattle.plc_model.specs.declared.letter.Letter.TheVariants as letter
use Rattle.plc_model.specs.Names.{name_for}
use Rattle.plc_model.specs.Face.{IsDeclared, StateOf, range_of, places_of}
use Rattle.plc_model.specs.Frame.{WritesOnly, fired, names_of, writable}
use Rattle.plc_model.proofs.NameLaws.{false-true, letters-differ, names-differ}
use Rattle.plc_model.proofs.FaceLaws.{Kept, Typed, below, declared-name, declared-of, declared-type, pairwise-length, places-differ, slice_get-set_other, state-kept, typed-written}
use Rattle.plc_model.proofs.Framed.{truth_in_type}
use Rattle.plc_frame.specs.Faces.{face_of_net}
use Rattle.plc_frame.proofs.Making.{fired_is}
use Rattle.plc_frame.proofs.Writing.{Among, among-first, among-rest, among-right}
use Rattle.plc_expr.specs.Texts.{Naming, temps}
use Rattle.cif_net_model.specs.Safe.{Setting, IsSafe}
use Rattle.plc_expr.specs.Held.{Reads, Prepares}
use Rattle.plc_event_model.specs.Writes.{NewNames, is_tested, any_tested}
use Rattle.plc_event_model.specs.Declared.{IsTemp, OwnStand}
use Rattle.plc_event_model.specs.Asked.{setting_of, IsFit, CanTake, KeepsTypes, Promises, Receives}
use Rattle.plc_event_model.specs.Own.{new_type, sent_type}
use Rattle.plc_event_model.proofs.Writing.{Grounds, same-at}
use Rattle.plc_event_model.proofs.Targets.{tested-any}

-- ---- types of new values

new-within : (t : Ty) (z : ℤ) → IsFit (is_tested t) (type_range t) z → is_within (new_type t) z ≡ true
new-within cif_ty.Bool z h = refl
new-within (cif_ty.Int lo hi) z h = refl
new-within (cif_ty.Enum size) z h = h

new-typed : (t : Ty) (z : ℤ) → IsFit (is_tested t) (type_range t) z → IsTrue (in_range (range_of (new_type t)) z)
new-typed cif_ty.Bool z h = h
new-typed (cif_ty.Int lo hi) z h = h
new-typed (cif_ty.Enum size) z h = h

bounds-stand : (d : NetStored) → stored_stands d ≡ true → is_tested d.type_of ≡ true → (in_32_bits (type_range d.type_of).lo ≡ true) × (in_32_bits (type_range d.type_of).hi ≡ true)
bounds-stand d h is = go d.type_of (and-left _ _ (and-left _ _ h)) is
  where
    go : (t : Ty) → is_type t ≡ true → is_tested t ≡ true → (in_32_bits (type_range t).lo ≡ true) × (in_32_bits (type_range t).hi ≡ true)
    go cif_ty.Bool h is = absurd cc
    go (cif_ty.Int lo hi) h is = (and-left _ _ (and-left _ _ h), and-right _ _ (and-left _ _ h))
    go (cif_ty.Enum size) h is = absurd cc

-- ---- the own variables of a choice

-- ---- names

among-own : (x : Text) (names : List Text) → Member x names → Among x names
among-own x [] m = absurd m
among-own x (z ∷ names) (inl e) = subst (λ q. Among q (z ∷ names)) (sym e) (among-first z names)
among-own x (z ∷ names) (inr m) = among-rest x z names (among-own x names m)

pub among-temp : (n : Net) (p : Program) (own : List Text) (x : Text) (t : StTy) → IsTemp p own x t → Among x (writable (face_of_net n) own)
among-temp n p own x t h =
    among-right x (names_of letter.L (places_of (face_of_net n)) ++ names_of letter.V (face_of_net n).variables) (fired ∷ own) (among-rest x fired own (among-own x own h.among))

-- the marks of the generator have other numbers
pub number-apart : (p : Program) (own : List Text) (i : ℕ) (path x : Text) (t : StTy) (h : IsTemp p own x t) → i < 2 ^ 64 → i ≢ h.number → same_name (name_for letter.T i path) x ≡ false
number-apart p own i path x t h small other =
    let less = h.small in
    subst (λ z. same_name (name_for letter.T i path) z ≡ false) (sym h.name) (names-differ letter.T letter.T i h.number path h.path small (omega (arith, less)) (inr other))

pub fired-temp : (p : Program) (own : List Text) (x : Text) (t : StTy) → IsTemp p own x t → same_name fired x ≡ false
fired-temp p own x t h = let high = h.above in subst (λ z. same_name z x ≡ false) fired_is (number-apart p own 0 (codes "fired") x t h (omega arith) (λ e. omega (arith, e, high)))

module _ (n : Net) (p : Program) (own : List Text) (w : Naming) (y : NewNames) (base low count : ℕ) (us : NetUpdates) where
  abbrev pub Assigned : ℕ → Type 0
  Assigned v = has (targets us) v ≡ true

  abbrev pub Tested : Type 0
  Tested = any_tested n us ≡ true

  -- none of them stands at this place
  pub record IsOther (j : ℕ) : Type 0 where
    pub no_mark : Tested → j ≢ place_of p.vars y.in_range
    pub no_next : (v : ℕ) → Assigned v → j ≢ place_of p.vars (y.next v)
    pub no_own : (k : ℕ) → low ≤ k → k < count → j ≢ base + k

  -- a memory after the first one
  pub record IsLater (m0 m : Memory) : Type 0 where
    pub typed : Typed p.vars m
    pub others : (j : ℕ) → IsOther j → slice_get m j ≡ slice_get m0 j

  module _ (carried : Option Ty) (o : OwnStand n p own w y base low count carried us) where
    -- the place of a variable of another name
    pub other-at : (x : Text) (v : StVar) → declared p.vars x ≡ Some v → (Tested → same_name x y.in_range ≡ false) → ((u : ℕ) → Assigned u → same_name x (y.next u) ≡ false)
        → ((k : ℕ) → low ≤ k → k < count → same_name x (w.own k) ≡ false) → IsOther (place_of p.vars x)
    other-at x v at a b c = record {
      no_mark = λ t. places-differ p.vars x y.in_range v at (a t);
      no_next = λ u i. places-differ p.vars x (y.next u) v at (b u i);
      no_own = λ k from below e. places-differ p.vars x (w.own k) v at (c k from below) (e ∙ sym (o.own_places k from below));
    }

    temp-apart : (l : Letter) → (l ≡ letter.T → ⊥) → (i : ℕ) (path x : Text) (t : StTy) → IsTemp p own x t → same_name (name_for l i path) x ≡ false
    temp-apart l other i path x t h = subst (λ z. same_name (name_for l i path) z ≡ false) (sym h.name) (letters-differ l letter.T i h.number path h.path other)

    -- variables of other letters are others
    pub other-letter : (l : Letter) → (l ≡ letter.T → ⊥) → (i : ℕ) (path : Text) (t : StTy) → IsDeclared p.vars (name_for l i path) t → IsOther (place_of p.vars (name_for l i path))
    other-letter l apart i path t is =
        let d = declared-of p.vars (name_for l i path) t is in
        other-at (name_for l i path) d.variable d.at (λ q. temp-apart l apart i path y.in_range ty.Bool (o.mark q))
        (λ u q. temp-apart l apart i path (y.next u) (new_type (o.next u q).stored.type_of) (o.next u q).temp)
        (λ k from below. temp-apart l apart i path (w.own k) (o.own_type k) (o.own_temp k from below))

    pub fired-other : IsDeclared p.vars fired ty.Bool → IsOther (place_of p.vars fired)
    fired-other is =
        let d = declared-of p.vars fired ty.Bool is in
        other-at fired d.variable d.at (λ q. fired-temp p own y.in_range ty.Bool (o.mark q)) (λ u q. fired-temp p own (y.next u) (new_type (o.next u q).stored.type_of) (o.next u q).temp)
        (λ k from below. fired-temp p own (w.own k) (o.own_type k) (o.own_temp k from below))

    -- what may be written has been written alone
    pub writes-own : (m0 m : Memory) → IsLater m0 m → WritesOnly (writable (face_of_net n) own) p.vars m0 m
    writes-own m0 m h k v at free = h.others k record {
      no_mark = λ t e. not-named k v y.in_range ty.Bool (o.mark t) at free e;
      no_next = λ u q e. not-named k v (y.next u) (new_type (o.next u q).stored.type_of) (o.next u q).temp at free e;
      no_own = λ i from below e. not-named k v (w.own i) (o.own_type i) (o.own_temp i from below) at free (e ∙ sym (o.own_places i from below));
    }
      where
        not-named : (k : ℕ) (v : StVar) (x : Text) (t : StTy) → IsTemp p own x t → slice_get p.vars k ≡ Some v → list_any (same_name v.name) (writable (face_of_net n) own) ≡ false
            → k ≢ place_of p.vars x
        not-named k v x t h at free e =
            false-true (same_name v.name x) (among-temp n p own x t h v.name free) (declared-name p.vars x v (ap (slice_get p.vars) (sym e) ∙ at))

    pub later-kept : (m0 m : Memory) → IsLater m0 m → (l : Letter) → (l ≡ letter.T → ⊥) → Kept p m0 m l
    later-kept m0 m h l apart i path t is = h.others (place_of p.vars (name_for l i path)) (other-letter l apart i path t is)

    -- a later memory stands for the same state
    pub later-state : (m0 m : Memory) (s : State) → IsLater m0 m → StateOf (face_of_net n) (system_of_net n) p m0 s → StateOf (face_of_net n) (system_of_net n) p m s
    later-state m0 m s h st =
        state-kept (face_of_net n) (system_of_net n) p m0 m s (later-kept m0 m h letter.L (λ e. cc)) (later-kept m0 m h letter.V (λ e. cc)) (later-kept m0 m h letter.H (λ e. cc)) st

    -- and so is the one for what is received
    pub received-other : (t : Ty) → carried ≡ Some t → IsOther (place_of p.vars w.received)
    received-other t is =
        let d = declared-of p.vars w.received (sent_type t) (o.sent t is).is_declared in
        other-at w.received d.variable d.at (o.sent_mark t is) (λ u q. o.sent_next t u is q) (λ k from below. o.sent_own t k is from below)

    room : (x : Text) (t : StTy) (m : Memory) → IsTemp p own x t → Typed p.vars m → place_of p.vars x < length m
    room x t m h typed =
        let d = declared-of p.vars x t h.is_declared in
        let inside = below p.vars (place_of p.vars x) d.variable d.at in
        let long = pairwise-length (λ (v : StVar) z. IsTrue (in_range (range_of v.ty) z)) p.vars m typed in omega (arith, inside, long)

    apart-places : (x z : Text) (t : StTy) → IsTemp p own x t → same_name x z ≡ false → place_of p.vars x ≢ place_of p.vars z
    apart-places x z t h apart = let d = declared-of p.vars x t h.is_declared in places-differ p.vars x z d.variable d.at apart

    -- the own variables of expressions are there
    pub own-inside : (m0 m : Memory) → IsLater m0 m → base + count ≤ length m
    own-inside m0 m h =
        let few = o.own_inside in
        let long = pairwise-length (λ (v : StVar) z. IsTrue (in_range (range_of v.ty) z)) p.vars m h.typed in omega (arith, few, long)

    -- a place that none of them has lies before or behind them
    pub past-own : (j : ℕ) → ((k : ℕ) → low ≤ k → k < count → j ≢ base + k) → base + low ≤ j → base + count ≤ j
    past-own j apart above = let b : low ≤ j - base → j - base < count → j ≢ base + (j - base) = apart (j - base) in grind (arith, b, above)

    pub past-some : (j k c : ℕ) → ((i : ℕ) → low ≤ i → i < count → j ≢ base + i) → low ≤ k → k + c ≤ count → base + k ≤ j → base + k + c ≤ j
    past-some j k c apart from few above = let b : low ≤ j - base → j - base < count → j ≢ base + (j - base) = apart (j - base) in grind (arith, b, above, from, few)

    pub next-own : (v k : ℕ) → Assigned v → low ≤ k → k < count → place_of p.vars (y.next v) ≢ base + k
    next-own v k i from below_k e =
        let new = o.next v i in
        apart-places (y.next v) (w.own k) (new_type new.stored.type_of) new.temp (o.next_own v k i from below_k) (e ∙ sym (o.own_places k from below_k))

    -- ---- what is promised of expressions

    module _ (s : State) (receives : Option Ty) (r : ℤ) (m0 : Memory) (st : StateOf (face_of_net n) (system_of_net n) p m0 s) (got : Receives p.vars w receives r m0) (only : (t : Ty) → receives ≡ Some t → carried ≡ Some t)
        (stored_stand : list_all stored_stands n.vars ≡ true) (promised : Promises p.vars w (setting_of n s r) base low count) where
      abbrev x : Setting
      x = setting_of n s r

      -- The expression is safe, its names are read from each memory that stands for the state and holds what is received, and
      -- its own variables keep their types.
      abbrev pub IsReady : ℕ → NetExpr → Type 0
      IsReady k e =
          IsSafe x e × ((m : Memory) → StateOf (face_of_net n) (system_of_net n) p m s → Receives p.vars w receives r m → Reads p.vars w x m e)
          × KeepsTypes p.vars w x base k e

      -- what is received stays where it is
      receives-on : (m a : Memory) → ((j : ℕ) → IsOther j → slice_get a j ≡ slice_get m j) → Receives p.vars w receives r m → Receives p.vars w receives r a
      receives-on m a same = go receives only
        where
          go : (t : Option Ty) → ((u : Ty) → t ≡ Some u → carried ≡ Some u) → Receives p.vars w t r m → Receives p.vars w t r a
          go None is h = tt
          go (Some u) is h = same-at a m (place_of p.vars w.received) (pos 0) (same (place_of p.vars w.received) (received-other u (is u refl))) ∙ h

      received-later : (m : Memory) → IsLater m0 m → Receives p.vars w receives r m
      received-later m h = receives-on m0 m h.others got

      reads-later : (m : Memory) (k : ℕ) (e : NetExpr) → IsLater m0 m → IsReady k e → Reads p.vars w x m e
      reads-later m k e h is = is.1 m (later-state m0 m s h st) (received-later m h)

      -- whatever the own variables of expressions hold
      reads-beside : (m a : Memory) (k : ℕ) (e : NetExpr) → IsLater m0 m → IsReady k e → ((j : ℕ) → (base + low ≤ j → base + count ≤ j) → slice_get a j ≡ slice_get m j) → Reads p.vars w x a e
      reads-beside m a k e h is same =
          is.1 a (state-kept (face_of_net n) (system_of_net n) p m a s (kept letter.L (λ q. cc)) (kept letter.V (λ q. cc)) (kept letter.H (λ q. cc)) (later-state m0 m s h st))
          (receives-on m a (λ j apart. same j (past j apart)) (received-later m h))
        where
          past : (j : ℕ) → IsOther j → base + low ≤ j → base + count ≤ j
          past j apart above = past-own j apart.no_own above

          kept : (l : Letter) → (l ≡ letter.T → ⊥) → Kept p m a l
          kept l other i path t at = same (place_of p.vars (name_for l i path)) (past (place_of p.vars (name_for l i path)) (other-letter l other i path t at))

      prepared-later : (e : NetExpr) (k turns : ℕ) (m : Memory) → IsReady k e → (low ≤ k) × (k + temps e ≤ count) → IsLater m0 m → (q : Prepares p.vars w x base k e turns m) → IsLater m0 q.after
      prepared-later e k turns m is few h q = record {
        typed = is.2 turns m h.typed (reads-later m k e h is) q;
        others = λ j apart. q.beside.others j (λ above. past-some j k (temps e) apart.no_own few.0 few.1 above) ∙ h.others j apart;
      }

      next-later : (v : ℕ) (z : ℤ) (m : Memory) → Assigned v → CanTake (slice_get n.vars v) z → IsLater m0 m → IsLater m0 (slice_set m (place_of p.vars (y.next v)) z)
      next-later v z m i takes h =
          let new = o.next v i in
          record {
            typed = typed-written p.vars m (y.next v) (new_type new.stored.type_of) z new.temp.is_declared
                (new-typed new.stored.type_of z (subst (λ c. CanTake c z) new.at takes)) h.typed;
            others = λ j apart. slice_get-set_other m (place_of p.vars (y.next v)) j z (apart.no_next v i) ∙ h.others j apart;
          }

      mark-later : (b : Bool) (m : Memory) → Tested → IsLater m0 m → IsLater m0 (slice_set m (place_of p.vars y.in_range) (of_bool b))
      mark-later b m t h = record {
        typed = typed-written p.vars m y.in_range ty.Bool (of_bool b) (o.mark t).is_declared (truth_in_type b) h.typed;
        others = λ j apart. slice_get-set_other m (place_of p.vars y.in_range) j (of_bool b) (apart.no_mark t) ∙ h.others j apart;
      }

      pub grounds : Grounds n s r p.vars w y base low count (IsLater m0) IsReady Assigned Tested
      grounds = record {
        prepares = λ e k turns m is few h. promised.prepares e k turns m (λ a same. reads-beside m a k e h is same) (own-inside m0 m h) is.0 few.0 few.1;
        prepared_kept = prepared-later;
        held_kept = λ e k m after is few same held. promised.held_kept e k m after few.0 few.1 same held;
        valued = λ e k m is h held. promised.valued e k m (reads-later m k e h is) is.0 held;
        next_room = λ v m i h. let new = o.next v i in room (y.next v) (new_type new.stored.type_of) m new.temp h.typed;
        next_apart = λ v u i j other. let new = o.next v i in apart-places (y.next v) (y.next u) (new_type new.stored.type_of) new.temp (o.next_apart v u i j other);
        next_own = next-own;
        next_type = λ v z i takes.
            let new = o.next v i in
            ap (λ t. is_within t z) (declared-type p.vars (y.next v) (new_type new.stored.type_of) new.temp.is_declared)
            ∙ new-within new.stored.type_of z (subst (λ c. CanTake c z) new.at takes);
        next_kept = next-later;
        marked = λ v i is. tested-any n v is us i;
        mark_room = λ m t h. room y.in_range ty.Bool m (o.mark t) h.typed;
        mark_apart = λ v t i. apart-places y.in_range (y.next v) ty.Bool (o.mark t) (o.mark_apart v t i);
        mark_own = λ k t from below e. apart-places y.in_range (w.own k) ty.Bool (o.mark t) (o.mark_own k t from below) (e ∙ sym (o.own_places k from below));
        mark_type = λ b t. ap (λ q. is_within q (of_bool b)) (declared-type p.vars y.in_range ty.Bool (o.mark t).is_declared);
        mark_kept = mark-later;
        bounds = λ v d at is. bounds-stand d (all-member stored_stands n.vars d stored_stand (at-member n.vars v d at)) is;
      }
