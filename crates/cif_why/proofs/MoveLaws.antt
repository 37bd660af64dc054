-- The state after moves, what is marked in it, and the state that is restored from it.
use Rattle.std.proofs.Common.{◌≡◌, ℤ, pos, Bool, true, false, List, [], ◌∷◌, map, refl, sym, ap, subst, ◌∙◌, arith, if◌then◌else◌}
use Rattle.cif_system.specs.System.{State}
use Rattle.cif_net_model.proofs.ValueLaws.{ap-two}
use Rattle.cif_net_model.specs.Listing.{NetMove}
use Rattle.cif_net_model.specs.Net.{Net, NetAuto, NetEdge, NetInvariant}
use Rattle.cif_eval.specs.Within.{within}
use Rattle.cif_eval.specs.Writes.{written}
use Rattle.cif_why_model.specs.Telling.{pair_of}
use Rattle.cif_why.specs.Breaking.{AreSafeAfter, AreSafePreds, IsSafeAssigning, all_stored, falsified, moves_assigned, moves_falsified}
use Rattle.cif_why.specs.Leaving.{IsSafeEdge, Sending}
use Rattle.cif_why.specs.Numbering.{numbered_tree}
use Rattle.cif_why.specs.Restoring.{movers, pair_in, restored_state, variable_in}
use Rattle.cif_why.specs.declared.numbering.Numbered.{Numbered}
use Rattle.cif_why.proofs.RestoreLaws.{state-restored, variables}

pairs-in : (xs : List Numbered) → map pair_in xs ≡ map pair_of (map numbered_tree xs)
pairs-in [] = refl
pairs-in (x ∷ xs) = ap (λ ws. pair_in x ∷ ws) (pairs-in xs)

variables-in : (xs : List Numbered) → map variable_in xs ≡ variables (map pair_in xs)
variables-in [] = refl
variables-in (x ∷ xs) = ap (λ ks. variable_in x ∷ ks) (variables-in xs)

pub restored-again : (autos : List NetAuto) (ms : List NetMove) (xs : List Numbered) (s t u w : State) → t ≡ s → u ≡ written autos ms (map pair_in xs) t → w ≡ restored_state (movers ms) (map variable_in xs) s u → w ≡ s
restored-again autos ms xs s t u w own wrote back =
    back
    ∙ ap-two (λ ks q. restored_state (movers ms) ks s q) (variables-in xs) (wrote ∙ ap (written autos ms (map pair_in xs)) own)
    ∙ state-restored autos ms (map pair_in xs) s

module _ (n : Net) (s : State) (r : ℤ) (ms : List NetMove) (xs : List Numbered) (are : map numbered_tree xs ≡ moves_assigned n.autos s r ms) where
  pub wrote-is : (t u : State) → t ≡ s → u ≡ written n.autos ms (map pair_in xs) t → u ≡ written n.autos ms (map pair_of (moves_assigned n.autos s r ms)) s
  wrote-is t u own wrote = wrote ∙ ap-two (λ ws q. written n.autos ms ws q) (pairs-in xs ∙ ap (map pair_of) are) own

  pub safe-after : AreSafeAfter n s r ms → (b : Bool) → b ≡ all_stored n.vars (map numbered_tree xs) → b ≡ true → (t u : State) → t ≡ s → u ≡ written n.autos ms (map pair_in xs) t → (is : List NetInvariant) → is ≡ n.invariants
      → AreSafePreds (within u (pos 0)) is
  safe-after preds b b_is b_holds t u own wrote is same =
      subst (λ qs. AreSafePreds (within u (pos 0)) qs) (sym same)
      (subst (λ q. AreSafePreds (within q (pos 0)) n.invariants) (sym (wrote-is t u own wrote)) (preds (ap (all_stored n.vars) (sym are) ∙ sym b_is ∙ b_holds)))

  pub none-marked : (b : Bool) → b ≡ all_stored n.vars (map numbered_tree xs) → b ≡ false → (marks : List Bool) → marks ≡ moves_falsified n s r ms marks
  none-marked b b_is b_fails marks =
      sym (ap (λ z. if z then falsified (within (written n.autos ms (map pair_of (moves_assigned n.autos s r ms)) s) (pos 0)) 0 n.invariants marks else marks) (ap (all_stored n.vars) (sym are) ∙ sym b_is ∙ b_fails))

  pub all-marked : (b : Bool) → b ≡ all_stored n.vars (map numbered_tree xs) → b ≡ true → (t u : State) → t ≡ s → u ≡ written n.autos ms (map pair_in xs) t → (is : List NetInvariant) → is ≡ n.invariants → (old new : List Bool)
      → new ≡ falsified (within u (pos 0)) 0 is old → new ≡ moves_falsified n s r ms old
  all-marked b b_is b_holds t u own wrote is same old new marked =
      marked
      ∙ ap-two (λ q qs. falsified (within q (pos 0)) 0 qs old) (wrote-is t u own wrote) same
      ∙ sym (ap (λ z. if z then falsified (within (written n.autos ms (map pair_of (moves_assigned n.autos s r ms)) s) (pos 0)) 0 n.invariants old else old) (ap (all_stored n.vars) (sym are) ∙ sym b_is ∙ b_holds))

pub safe-assigning : (s : State) (t : Sending) (y : NetEdge) → t.fits ≡ true → IsSafeEdge s t y → IsSafeAssigning s t.received y
safe-assigning s t y fits w = record { updates = w.updates fits; few = let f = w.few in omega (arith, f) }
