-- The first event without a class.
use Rattle.std.proofs.Common.{◌≡◌, ℕ, zero, suc, ◌+◌, ◌<◌, Bool, true, false, IsTrue, List, [], ◌∷◌, map, Some, None, Result, Err, refl, subst, arith}
use Rattle.std.specs.Prelude.{slice_get, if◌then◌else◌}
use Rattle.cif_system.specs.System.{plain}
use Rattle.cif_system.proofs.Lists.{false-true}
use Rattle.cif_system.specs.Step.{has_class, same_class}
use Rattle.cif_net_model.specs.Net.{Net, NetEvent}
use Rattle.cif_net_model.specs.Meaning.{event_in}
use Rattle.plc_back.specs.Written.{AreClassed, IsFirstUnclassed, first_unclassed}
use Rattle.plc_back.specs.declared.error.ProfileErr.{ProfileErr}
use Rattle.plc_back.specs.declared.error.ProfileErr.TheVariants.{Unclassed}

-- the event at a place of the list has no class
abbrev IsPlainAt : List NetEvent → ℕ → Type 0
IsPlainAt es e = IsTrue (has_class plain (slice_get (map event_in es) e))

some-number : (j k : ℕ) → Some j ≡ Some k → j ≡ k
some-number j k e = cc

-- nothing is found from here on
none-from : (k : ℕ) (es : List NetEvent) → first_unclassed k es ≡ None → (e : ℕ) → IsPlainAt es e → ⊥
none-from k [] h e is = absurd (false-true refl is)
none-from k (x ∷ es) h e is = go (same_class plain x.class) refl h (none-from (k + 1) es) e is
  where
    at : same_class plain x.class ≡ false → ((e : ℕ) → IsPlainAt es e → ⊥) → (e : ℕ) → IsPlainAt (x ∷ es) e → ⊥
    at q rest zero p = absurd (false-true q p)
    at q rest (suc e) p = rest e p

    go : (t : Bool) → same_class plain x.class ≡ t → (if t then Some k else first_unclassed (k + 1) es) ≡ None
        → (first_unclassed (k + 1) es ≡ None → (e : ℕ) → IsPlainAt es e → ⊥) → (e : ℕ) → IsPlainAt (x ∷ es) e → ⊥
    go true q g rest = absurd cc
    go false q g rest = at q (rest g)

-- an event is found, which is some places from here, and none before it has no class
record FoundFrom (k : ℕ) (es : List NetEvent) (e : ℕ) : Type 0 where
  places : ℕ
  is : e ≡ k + places
  unclassed : IsPlainAt es places
  before : (j : ℕ) → j < places → IsPlainAt es j → ⊥

found-from : (k : ℕ) (es : List NetEvent) (e : ℕ) → first_unclassed k es ≡ Some e → FoundFrom k es e
found-from k [] e h = absurd cc
found-from k (x ∷ es) e h = go (same_class plain x.class) refl h (found-from (k + 1) es e)
  where
    before : same_class plain x.class ≡ false → (f : FoundFrom (k + 1) es e) (j : ℕ) → j < suc f.places → IsPlainAt (x ∷ es) j → ⊥
    before q f zero below is = absurd (false-true q is)
    before q f (suc j) below is = f.before j (omega (arith, below)) is

    later : same_class plain x.class ≡ false → FoundFrom (k + 1) es e → FoundFrom k (x ∷ es) e
    later q f = record { places = suc f.places; is = let w = f.is in omega (arith, w); unclassed = f.unclassed; before = before q f }

    go : (t : Bool) → same_class plain x.class ≡ t → (if t then Some k else first_unclassed (k + 1) es) ≡ Some e → (first_unclassed (k + 1) es ≡ Some e → FoundFrom (k + 1) es e)
        → FoundFrom k (x ∷ es) e
    go true q g rest = record {
      places = 0;
      is = let w = some-number k e g in omega (arith, w);
      unclassed = q;
      before = λ j below is. absurd (omega (arith, below));
    }
    go false q g rest = later q (rest g)

pub none-unclassed : (n : Net) → first_unclassed 0 n.events ≡ None → AreClassed n
none-unclassed n h e is = none-from 0 n.events h e is

pub first-unclassed : (n : Net) (e : ℕ) → first_unclassed 0 n.events ≡ Some e → IsFirstUnclassed n e
first-unclassed n e h =
    let f = found-from 0 n.events e h in
    let same : f.places ≡ e = let w = f.is in omega (arith, w) in
    subst (IsFirstUnclassed n) same (f.unclassed, f.before)

-- the event that is told
pub told_event : {V : Type 0} (found event : ℕ) → ◌≡◌ {A = Result V ProfileErr} (Err (Unclassed found)) (Err (Unclassed event)) → found ≡ event
told_event found event same = cc
