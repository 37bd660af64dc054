use Rattle.std.proofs.Common.{◌≡◌, ℕ, suc, ◌+◌, ◌-◌, ◌<◌, length, Option, Some, None, refl, sym, ap, ◌∙◌, arith}
use Rattle.cif_source.specs.Source.{Text}
use Rattle.cif_inst_components.specs.Finding.{Finder, finder, and_then, look_out, here_or, slot_at, outer_at}
use Rattle.cif_inst_components.specs.Listing.{place}
use Rattle.cif_inst_components.proofs.finding.Finder.outward.Goals as goal

cases : {A : Type 0} (o : Option A) → ((k : A) → o ≡ Some k → ⊥) → o ≡ None
cases None h = refl
cases (Some k) h = absurd (h k refl)

module _ (f : Finder) (x : Text) where
  -- one more component outward
  once : (n turn k : ℕ) → turn < n
      → look_out f (n - turn) k x ≡ here_or f k (slot_at f.scopes f.all k x) (and_then (outer_at f.all f.outers k) (λ j. look_out f (n - (turn + 1)) j x))
  once n turn k l = let e : n - turn ≡ suc (n - (turn + 1)) = omega arith in ap (λ m. look_out f m k x) e

  here : (n turn k s : ℕ) (o : Option ℕ) → turn < n → o ≡ slot_at f.scopes f.all k x → o ≡ Some s → look_out f (n - turn) k x ≡ Some (place k s)
  here n turn k s o l e g =
      once n turn k l ∙ ap (λ q. here_or f k q (and_then (outer_at f.all f.outers k) (λ j. look_out f (n - (turn + 1)) j x))) (sym e ∙ g)

  out : (n turn k : ℕ) (o p : Option ℕ) → turn < n → o ≡ slot_at f.scopes f.all k x → o ≡ None → p ≡ outer_at f.all f.outers k
      → look_out f (n - turn) k x ≡ and_then p (λ j. look_out f (n - (turn + 1)) j x)
  out n turn k o p l e g h =
      once n turn k l ∙ ap (λ q. here_or f k q (and_then (outer_at f.all f.outers k) (λ j. look_out f (n - (turn + 1)) j x))) (sym e ∙ g)
      ∙ ap (λ q. and_then q (λ j. look_out f (n - (turn + 1)) j x)) (sym h)

pub returns-in-Some : goal.returns-in-Some
returns-in-Some c =
    let less : c.loop-turn._turn < length c.args.self.now.scopes.now.table.scopes = omega arith in
    sym (c.loop-turn.invariant ∙ here (finder c.args.self.now) c.args.text.now (length c.args.self.now.scopes.now.table.scopes) c.loop-turn._turn c.loop-turn.at c.in-Some.slot c.slot.result less c.slot.ensures c.in-Some.is)

pub returns-in_err-at : goal.returns-in_err-at
returns-in_err-at c =
    let less : c.loop-turn._turn < length c.args.self.now.scopes.now.table.scopes = omega arith in
    c.from_residual.ensures
    ∙ sym (c.loop-turn.invariant ∙ out (finder c.args.self.now) c.args.text.now (length c.args.self.now.scopes.now.table.scopes) c.loop-turn._turn c.loop-turn.at c.slot.result None less c.slot.ensures (cases c.slot.result c.in_default.not-Some) (c.in_err-at.ensures))

pub loop-turn-preserved : goal.loop-turn-preserved
loop-turn-preserved c =
    let less : c.loop-turn._turn < length c.args.self.now.scopes.now.table.scopes = omega arith in
    c.loop-turn.invariant
    ∙ out (finder c.args.self.now) c.args.text.now (length c.args.self.now.scopes.now.table.scopes) c.loop-turn._turn c.loop-turn.at c.slot.result (Some c.in_ok-at.at) less c.slot.ensures (cases c.slot.result c.in_default.not-Some) (c.in_ok-at.ensures)
