use Rattle.std.proofs.Common.{◌≡◌, ◌++◌, ℤ, arith, subst, w64}
use Rattle.std.specs.Prelude.{OnOk}
use Rattle.std.specs.Fmt.{signed_decimal}
use Rattle.std.proofs.lemmas.Int.{to_z_pos}
use Rattle.cif_why_lines.proofs.values.put_place.Goals as goal

pub returns : goal.returns
returns c =
    subst (λ (z : ℤ). OnOk c.put_int.result (c.put_int.new.into.items ≡ c.args.into.now.items ++ signed_decimal z)) (to_z_pos w64 c.args.place (omega arith)) c.put_int.ensures.ok
