-- How a printer goes from one mark to the next.
use Rattle.std.proofs.Common.{◌≡◌, ℕ, ◌+◌, ◌*◌, ℤ, pos, negsuc, List, [], ◌∷◌, ◌++◌, false, replicate, sym, append_assoc, add-one, arith}
use Rattle.std.proofs.lemmas.List.{replicate-append-replicate}
use Rattle.std.specs.Fmt.{signed_decimal}
use Rattle.grammar.specs.Pieces.{Text}
use Rattle.st_print.specs.Layout.{Mark, gap, spelled, fresh_after, number_marks}
use Rattle.st_print.specs.Printing.{so_far}
use Rattle.st_print.specs.declared.printer.Printer.{Printer}

pub so_far-mark : (p q : Printer) (m : Mark) → q.bytes.items ≡ p.bytes.items ++ spelled p.fresh m → q.fresh ≡ fresh_after m
    → (ms : List Mark) → so_far p (m ∷ ms) ≡ so_far q ms
unfolding so_far
so_far-mark p q m written fresh ms = rw (written, fresh, append_assoc)

pub so_far-number : (p q : Printer) (z : ℤ) → q.bytes.items ≡ p.bytes.items ++ (gap p.fresh ++ signed_decimal z) → q.fresh ≡ false
    → (ms : List Mark) → so_far p (number_marks z ms) ≡ so_far q ms
unfolding so_far
so_far-number p q (pos n) written fresh ms = rw (written, fresh) (simp append_assoc)
so_far-number p q (negsuc n) written fresh ms = rw (written, fresh) (simp (append_assoc, add-one))

-- a blank where one is due, and then a text
pub written-twice : (a b c x y : Text) → b ≡ a ++ x → c ≡ b ++ y → c ≡ a ++ (x ++ y)
written-twice a b c x y first second = rw (second, first, append_assoc)

-- two blanks more
pub blanks-more : (n : ℕ) → replicate {A = ℕ} (2 * (n + 1)) 32 ≡ replicate {A = ℕ} (2 * n) 32 ++ (32 ∷ 32 ∷ [])
blanks-more n = let e : 2 * (n + 1) ≡ 2 * n + 2 = omega arith in rw e (sym (replicate-append-replicate {A = ℕ} (2 * n) 2 32))
