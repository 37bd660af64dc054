use Rattle.std.proofs.Common.{◌∙◌, ap, ℕ, List}
use Rattle.std.specs.Prelude.{map}
use Rattle.cif_types_equations.specs.Tallies.{Tallied, with_tally}
use Rattle.cif_types_equations.proofs.MapLaws.{put-is}
use Rattle.cif_types_equations.proofs.tallies.Tallies.put.Goals as goal

pub returns : goal.returns
returns c =
    ap (λ es. map (λ e. (e.0.items, e.1)) es) c.in_ok-insert.ensures.entries ∙ put-is (λ k. k.items) c.in_ok-key.key c.args.tally c.self.inside.tallies.entries
    ∙ ap (λ (ts : Tallied). with_tally ts c.in_ok-key.key.items c.args.tally) c.self.view_is
    ∙ ap (λ (x : List ℕ). with_tally c.args.self.now x c.args.tally) (c.in_ok-key.ensures.items ∙ c.as_slice.ensures)
