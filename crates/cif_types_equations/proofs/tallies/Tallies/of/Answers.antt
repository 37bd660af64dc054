use Rattle.std.proofs.Common.{◌∙◌, sym, ap, ℕ, List, Option, unwrap_or}
use Rattle.std.specs.Prelude.{nat_eq}
use Rattle.std.specs.Option.{option_copied}
use Rattle.std.specs.Map.{lookup}
use Rattle.std.specs.Cmp.Lexicographic.{pointwise}
use Rattle.cif_types_equations.specs.Tallies.{Tallied, no_tally}
use Rattle.cif_types_equations.specs.declared.tallies.Tally.{Tally}
use Rattle.cif_types_equations.proofs.MapLaws.{found-is}
use Rattle.cif_types_equations.proofs.tallies.Tallies.of.Goals as goal

pub returns-in-Some : goal.returns-in-Some
returns-in-Some c =
    ap (λ (o : Option Tally). unwrap_or o no_tally) (
    ap option_copied (sym c.in-Some.is) ∙ c.get.ensures.value ∙ found-is (λ k. k.items) c.as_slice.result.now c.self.inside.tallies.entries
    ∙ ap (λ (ts : Tallied). lookup (λ y. pointwise nat_eq c.as_slice.result.now y) ts) c.self.view_is
    ∙ ap (λ (x : List ℕ). lookup (λ y. pointwise nat_eq x y) c.args.self.now) c.as_slice.ensures
    )

pub returns-in-None : goal.returns-in-None
returns-in-None c =
    ap (λ (o : Option Tally). unwrap_or o no_tally) (
    ap option_copied (sym c.in-None.is) ∙ c.get.ensures.value ∙ found-is (λ k. k.items) c.as_slice.result.now c.self.inside.tallies.entries
    ∙ ap (λ (ts : Tallied). lookup (λ y. pointwise nat_eq c.as_slice.result.now y) ts) c.self.view_is
    ∙ ap (λ (x : List ℕ). lookup (λ y. pointwise nat_eq x y) c.args.self.now) c.as_slice.ensures
    )
