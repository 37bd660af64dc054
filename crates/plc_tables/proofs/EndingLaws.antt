-- Scans over rows come to one thing: they end, or one of them is the first that does not.
use Rattle.std.proofs.Common.{◌≡◌, ℕ, zero, suc, ℤ, List, [], ◌∷◌, length, refl, sym, ap, subst, ◌∙◌, arith}
use Rattle.st_ast.specs.Tree.{Program}
use Rattle.st_ast.specs.Values.{Memory}
use Rattle.st_ast.specs.Exec.{Outcome, Ended, Faulted, OutOfTurns}
use Rattle.st_ast.specs.Scan.{scan_of, later_memories, when_ended}
use Rattle.st_scan.specs.Endings.{stopped}
use Rattle.st_scan.specs.declared.error.ScanErr.{ScanErr}
use Rattle.st_scan.specs.declared.error.ScanErr.TheVariants as scan
use Rattle.plc_tables.specs.Scans.{ComesTo}

-- a scan that does not end
abbrev pub Stopped : Outcome → Type 0
Stopped o = (left : ℕ) (m : Memory) → o ≡ Ended left m → ⊥

pub stopped_stops : (e : ScanErr) → Stopped (stopped e)
stopped_stops scan.Overflow left m e = absurd cc
stopped_stops scan.ZeroDivide left m e = absurd cc
stopped_stops (scan.SubrangeLeft k z) left m e = absurd cc
stopped_stops scan.Budget left m e = absurd cc

pub out_of_turns_stops : Stopped OutOfTurns
out_of_turns_stops left m e = absurd cc

-- the first scan that does not end is one
pub comes_once : (p : Program) (m : Memory) (rs : List (List ℤ)) (j k : ℕ) (a b : Outcome) → ComesTo p m rs j a → ComesTo p m rs k b → Stopped a → Stopped b → (j ≡ k) × (a ≡ b)
comes_once p m [] j k a b h g s t = absurd h
comes_once p m (r ∷ rs) zero k a b h g s t = absurd h
comes_once p m (r ∷ rs) (suc j) zero a b h g s t = absurd g
comes_once p m (r ∷ rs) (suc zero) (suc zero) a b h g s t = (refl, sym h ∙ g)
comes_once p m (r ∷ rs) (suc zero) (suc (suc k)) a b h g s t = absurd (s g.0 g.1 (sym h ∙ g.2))
comes_once p m (r ∷ rs) (suc (suc j)) (suc zero) a b h g s t = absurd (t h.0 h.1 (sym g ∙ h.2))
comes_once p m (r ∷ rs) (suc (suc j)) (suc (suc k)) a b h g s t =
    let ends : Ended h.0 h.1 ≡ Ended g.0 g.1 = sym h.2 ∙ g.2 in
    let same : h.1 ≡ g.1 = cc in
    let rest = comes_once p h.1 rs (suc j) (suc k) a b h.3 (subst (λ (x : Memory). ComesTo p x rs (suc k) b) (sym same) g.3) s t in
    (ap suc rest.0, rest.1)

-- where all scans end, none stops
pub ended_stops_none : (p : Program) (m : Memory) (rs : List (List ℤ)) (k : ℕ) (o : Outcome) → length (later_memories p m rs) ≡ length rs → ComesTo p m rs k o → Stopped o → ⊥
ended_stops_none p m [] k o all h s = h
ended_stops_none p m (r ∷ rs) zero o all h s = h
ended_stops_none p m (r ∷ rs) (suc zero) o all h s = go (scan_of p m r) refl all
  where
    go : (x : Outcome) → scan_of p m r ≡ x → length (when_ended x (λ after. after ∷ later_memories p after rs)) ≡ suc (length rs) → ⊥
    go (Ended left after) is e = s left after (sym h ∙ is)
    go (Faulted f) is e = absurd (omega arith)
    go OutOfTurns is e = absurd (omega arith)
ended_stops_none p m (r ∷ rs) (suc (suc k)) o all h s =
    let ends : later_memories p m (r ∷ rs) ≡ h.1 ∷ later_memories p h.1 rs = ap (λ x. when_ended x (λ after. after ∷ later_memories p after rs)) h.2 in
    let more : suc (length (later_memories p h.1 rs)) ≡ suc (length rs) = sym (ap (λ (ms : List Memory). length ms) ends) ∙ all in
    ended_stops_none p h.1 rs (suc k) o (omega arith) h.3 s

-- errors that stop a scan in one way are one
pub one_stop : (a b : ScanErr) → stopped a ≡ stopped b → a ≡ b
one_stop scan.Overflow scan.Overflow e = refl
one_stop scan.Overflow scan.ZeroDivide e = absurd cc
one_stop scan.Overflow (scan.SubrangeLeft k z) e = absurd cc
one_stop scan.Overflow scan.Budget e = absurd cc
one_stop scan.ZeroDivide scan.Overflow e = absurd cc
one_stop scan.ZeroDivide scan.ZeroDivide e = refl
one_stop scan.ZeroDivide (scan.SubrangeLeft k z) e = absurd cc
one_stop scan.ZeroDivide scan.Budget e = absurd cc
one_stop (scan.SubrangeLeft k z) scan.Overflow e = absurd cc
one_stop (scan.SubrangeLeft k z) scan.ZeroDivide e = absurd cc
one_stop (scan.SubrangeLeft k z) (scan.SubrangeLeft j y) e = cc
one_stop (scan.SubrangeLeft k z) scan.Budget e = absurd cc
one_stop scan.Budget scan.Overflow e = absurd cc
one_stop scan.Budget scan.ZeroDivide e = absurd cc
one_stop scan.Budget (scan.SubrangeLeft k z) e = absurd cc
one_stop scan.Budget scan.Budget e = refl
