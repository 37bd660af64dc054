use Rattle.std.proofs.Common.{◌≡◌, ◌+◌, ℕ, List, true, false, Some, cond, drop, map, sym, ap, ◌∙◌, arith}
use Rattle.std.specs.Prelude.{option_map}
use Rattle.std.proofs.lemmas.List.{drop_all}
use Rattle.cif_net.specs.declared.events.Event.{Event}
use Rattle.grammar.specs.Pieces.{Text, same}
use Rattle.grammar.proofs.Texts.{same_is}
use Rattle.cif_script.proofs.Finding.{found, found_next}
use Rattle.cif_why_command.proofs.explaining.number_of_path.Goals as goal

abbrev path_of : Event → Text
path_of e = e.path

pub returns-then-eq-clause-first : goal.returns-then-eq-clause-first
returns-then-eq-clause-first c =
    let x = c.index-events-number.result in
    let w = c.args.path.now in
    let k = c.loop-number.number in
    let here : same x.path w ≡ true = ap (λ (y : List ℕ). same y w) (sym c.as_slice.ensures) ∙ sym (same_is c.as_slice.result.now w) ∙ sym c.if-eq.ensures in
    ap (λ b. option_map (λ (y : ℕ × Text). y.0) (cond b (Some (k, x.path)) (found w (k + 1) (map path_of (drop (k + 1) c.args.events.now))))) (sym here)
    ∙ ap (option_map (λ (y : ℕ × Text). y.0)) (sym (found_next path_of w c.args.events.now k x (omega arith) c.index-events-number.is))
    ∙ ap (option_map (λ (y : ℕ × Text). y.0)) c.loop-number.invariant

pub loop-number-preserved : goal.loop-number-preserved
loop-number-preserved c =
    let x = c.index-events-number.result in
    let w = c.args.path.now in
    let k = c.loop-number.number in
    let other : same x.path w ≡ false = ap (λ (y : List ℕ). same y w) (sym c.as_slice.ensures) ∙ sym (same_is c.as_slice.result.now w) ∙ sym c.if-eq.ensures in
    ap (λ b. cond b (Some (k, x.path)) (found w (k + 1) (map path_of (drop (k + 1) c.args.events.now)))) (sym other)
    ∙ sym (found_next path_of w c.args.events.now k x (omega arith) c.index-events-number.is) ∙ c.loop-number.invariant

pub returns-clause-first : goal.returns-clause-first
returns-clause-first c =
    ap (λ es. option_map (λ (y : ℕ × Text). y.0) (found c.args.path.now c.loop-number.number (map path_of es))) (sym (drop_all c.loop-number.number c.args.events.now (omega arith)))
    ∙ ap (option_map (λ (y : ℕ × Text). y.0)) c.loop-number.invariant
