-- Writes to variables by name: what they keep, and which variables hold what after them.
use Rattle.std.proofs.Common.{◌≡◌, ◌≢◌, ℕ, zero, suc, ◌+◌, ◌^◌, ◌<◌, ℤ, pos, Bool, true, false, ◌||◌, List, [], ◌∷◌, ◌++◌, map, length, Some, get_or, inr, refl, sym, ap, subst, ◌∙◌, arith}
use Rattle.std.specs.Prelude.{slice_get, slice_set}
use Rattle.std.specs.List.{AllByRecursion, AllZip, enumerate_from, list_any}
use Rattle.std.proofs.lemmas.List.Folds.{list_any-append}
use Rattle.grammar.specs.Pieces.{Text}
use Rattle.cif_system.proofs.Lists.{some-same, none-some}
use Rattle.st_ast.specs.Tree.{Program}
use Rattle.st_ast.specs.Names.{same_name, place_of}
use Rattle.st_ast.specs.Values.{Memory}
use Rattle.st_ast.specs.declared.tree.StVar.{StVar}
use Rattle.plc_model.specs.declared.letter.Letter.{Letter}
use Rattle.plc_model.specs.Names.{name_for}
use Rattle.plc_model.specs.Face.{VariableFace, HoldsAt}
use Rattle.plc_model.specs.Frame.{WritesOnly, names_of}
use Rattle.plc_model.proofs.NameLaws.{false-true, names-differ}
use Rattle.plc_model.proofs.FaceLaws.{slice_get-set_other, places-differ, declared-name, declared-of}

-- ---- what may be written

-- the name is one of these: what is the same as none of them is not the same as it
abbrev pub Among : Text → List Text → Type 0
Among x names = (w : Text) → list_any (same_name w) names ≡ false → same_name w x ≡ false

or-left : (a b : Bool) → (a || b) ≡ false → a ≡ false
or-left false b h = refl
or-left true b h = h

or-right : (a b : Bool) → (a || b) ≡ false → b ≡ false
or-right false b h = h
or-right true b h = false-true true h refl

pub among-first : (x : Text) (names : List Text) → Among x (x ∷ names)
among-first x names w h = or-left (same_name w x) (list_any (same_name w) names) h

pub among-rest : (x y : Text) (names : List Text) → Among x names → Among x (y ∷ names)
among-rest x y names a w h = a w (or-right (same_name w y) (list_any (same_name w) names) h)

pub among-left : (x : Text) (names more : List Text) → Among x names → Among x (names ++ more)
among-left x names more a w h = a w (or-left (list_any (same_name w) names) (list_any (same_name w) more) (sym (list_any-append (same_name w) names more) ∙ h))

pub among-right : (x : Text) (names more : List Text) → Among x more → Among x (names ++ more)
among-right x names more a w h = a w (or-right (list_any (same_name w) names) (list_any (same_name w) more) (sym (list_any-append (same_name w) names more) ∙ h))

abbrev pub name_of : Letter → ℕ × VariableFace → Text
name_of l x = name_for l x.0 x.1.path

-- each of the variables has its name among these
abbrev pub AllAmong : Letter → List Text → ℕ → List VariableFace → Type 0
AllAmong l names k xs = AllByRecursion (λ (x : ℕ × VariableFace). Among (name_of l x) names) (enumerate_from k xs)

all-among : (l : Letter) (k : ℕ) (xs : List VariableFace) (names : List Text) → ((x : Text) → Among x (map (name_of l) (enumerate_from k xs)) → Among x names) → AllAmong l names k xs
all-among l k [] names wider = tt
all-among l k (x ∷ xs) names wider = (
  wider (name_for l k x.path) (among-first (name_for l k x.path) (map (name_of l) (enumerate_from (k + 1) xs))),
  all-among l (k + 1) xs names (λ y a. wider y (among-rest y (name_for l k x.path) (map (name_of l) (enumerate_from (k + 1) xs)) a)),
)

pub names-among : (l : Letter) (xs : List VariableFace) (names : List Text) → ((x : Text) → Among x (names_of l xs) → Among x names) → AllAmong l names 0 xs
names-among l xs names wider = all-among l 0 xs names wider

pub writes-none : (names : List Text) (vars : List StVar) (m : Memory) → WritesOnly names vars m m
writes-none names vars m k v at free = refl

pub writes-then : (names : List Text) (vars : List StVar) (a b d : Memory) → WritesOnly names vars a b → WritesOnly names vars b d → WritesOnly names vars a d
writes-then names vars a b d first second k v at free = second k v at free ∙ first k v at free

pub writes-one : (names : List Text) (vars : List StVar) (m : Memory) (x : Text) (z : ℤ) → Among x names → WritesOnly names vars m (slice_set m (place_of vars x) z)
writes-one names vars m x z among k v at free = slice_get-set_other m (place_of vars x) k z apart
  where
    apart : k ≢ place_of vars x
    apart same = false-true (same_name v.name x) (among v.name free) (declared-name vars x v (ap (slice_get vars) (sym same) ∙ at))

-- ---- what variables hold

module _ (p : Program) (l : Letter) where
  pub hold-at : (m : Memory) (i : ℕ) (xs : List VariableFace) (zs : List ℤ) (k : ℕ) (x : VariableFace) → AllZip (HoldsAt p m l) (enumerate_from i xs) zs
      → slice_get xs k ≡ Some x → HoldsAt p m l (i + k, x) (get_or zs k (pos 0))
  hold-at m i [] zs k x h e = absurd (none-some x e)
  hold-at m i (y ∷ xs) [] k x h e = absurd h
  hold-at m i (y ∷ xs) (z ∷ zs) zero x h e =
      subst (λ j. HoldsAt p m l (j, x) z) (omega arith) (subst (λ (u : VariableFace). HoldsAt p m l (i, u) z) (some-same y x e) h.0)
  hold-at m i (y ∷ xs) (z ∷ zs) (suc k) x h e =
      subst (λ j. HoldsAt p m l (j, x) (get_or zs k (pos 0))) (omega arith) (hold-at m (i + 1) xs zs k x h.1 e)

  -- a write to one of the variables before these
  pub hold-set : (m : Memory) (i : ℕ) (path : Text) (z : ℤ) (j : ℕ) (xs : List VariableFace) (zs : List ℤ) → i < j → j + length xs < 2 ^ 64
      → AllZip (HoldsAt p m l) (enumerate_from j xs) zs → AllZip (HoldsAt p (slice_set m (place_of p.vars (name_for l i path)) z) l) (enumerate_from j xs) zs
  hold-set m i path z j [] [] h few hold = tt
  hold-set m i path z j [] (y ∷ zs) h few hold = absurd hold
  hold-set m i path z j (x ∷ xs) [] h few hold = absurd hold
  hold-set m i path z j (x ∷ xs) (y ∷ zs) h few hold =
      let d = declared-of p.vars (name_for l j x.path) x.ty hold.0.is_declared in
      let apart = names-differ l l j i x.path path (omega (arith, few)) (omega (arith, h, few)) (inr (λ e. omega (arith, h, e))) in (
        record {
          is_declared = hold.0.is_declared;
          holds = slice_get-set_other m (place_of p.vars (name_for l i path)) (place_of p.vars (name_for l j x.path)) z
              (places-differ p.vars (name_for l j x.path) (name_for l i path) d.variable d.at apart) ∙ hold.0.holds;
        },
        hold-set m i path z (j + 1) xs zs (omega (arith, h)) (omega (arith, few)) hold.1,
      )
