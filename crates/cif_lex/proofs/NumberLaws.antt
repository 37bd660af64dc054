-- The value of a number, digit by digit.
use Rattle.std.proofs.Common.{◌≡◌, ℕ, suc, ◌+◌, ◌-◌, ◌*◌, ◌≤◌, ◌<◌, false, nat_le, [], ◌∷◌, length, get_or, drop, drop-cons, sym, arith}
use Rattle.std.proofs.lemmas.Bool.Decides.{nat_tests}
use Rattle.grammar.specs.Pieces.{Text}
use Rattle.grammar.proofs.Decimals.{grows}
use Rattle.grammar.specs.Bytes.{digits_from}

big_test : (n m : ℕ) → m < n → nat_le n m ≡ false
big_test n m l = grind (arith, nat_tests)

-- a number that is too big stays so
grown_big : (most n : ℕ) (bs : Text) → most < n → nat_le (digits_from n bs) most ≡ false
grown_big most n bs l = let m = grows n bs in big_test (digits_from n bs) most (omega arith)

-- so does one whose next digit makes it too big
pub too_big_now : (most n i : ℕ) (ds : Text) → i < length ds → digits_from 0 ds ≡ digits_from n (drop i ds) → most < 10 * n + (get_or ds i 0 - 48) → false ≡ nat_le (digits_from 0 ds) most
too_big_now most n i ds l e g = rw (e, drop-cons ds i 0) (sym (grown_big most (10 * n + (get_or ds i 0 - 48)) (drop (suc i) ds) g))
