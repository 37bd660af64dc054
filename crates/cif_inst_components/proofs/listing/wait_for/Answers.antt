use Rattle.std.proofs.Common.{◌≡◌, ◌++◌, ℕ, zero, suc, List, [], None, sym, ap, ◌∙◌, arith, append-nil}
use Rattle.std.proofs.lemmas.Bool.Decides.{nat_tests}
use Rattle.std.proofs.lemmas.Option.{slice_get_past}
use Rattle.std.specs.Prelude.{slice_get, unwrap_or}
use Rattle.cif_inst_components.specs.declared.kids.Kid.{Kid}
use Rattle.cif_inst_components.specs.declared.listing.Waiting.{Waiting}
use Rattle.cif_inst_components.specs.Listing.{waiting_for, waiting_in}
use Rattle.cif_inst_components.proofs.listing.wait_for.Goals as goal

none-waits : (all : List (List Kid)) (parent b depth : ℕ) (ws : List Waiting) → slice_get all b ≡ None → ws ≡ ws ++ waiting_in all parent b depth
none-waits all parent b zero ws h = sym (append-nil ws)
none-waits all parent b (suc n) ws h = sym (append-nil ws) ∙ ap (λ (xs : List Kid). ws ++ waiting_for parent n xs) (sym (ap (λ o. unwrap_or o []) h))

pub returns-in-None : goal.returns-in-None
returns-in-None c = none-waits c.args.all.now c.args.component c.args.body c.args.depth c.args.waiting.now.items (slice_get_past c.args.all.now c.args.body (grind (arith, nat_tests, c.in-None.ensures.lookup)))
