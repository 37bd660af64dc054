-- What a sink has after a part of a text.
use Rattle.std.proofs.Common.{◌≡◌, ℕ, ◌+◌, ◌≤◌, [], ◌++◌, length, take, Option, Some, None, refl, sym, ◌∙◌, ap, arith, length-append}
use Rattle.std.proofs.lemmas.List.{append-nil, take-append-le}
use Rattle.std.proofs.Math.Seq.{take-append-add, take-append_seam}
use Rattle.grammar.specs.Pieces.{Text}
use Rattle.cif_io.specs.Written.{grown}
use Rattle.cif_io.proofs.Growth.{grown-grown}

-- a sink that got a beginning of the text
abbrev pub Part : Text → Option Text → Option Text → Type 0
Part text old new = (n : ℕ) × (n ≤ length text) × (new ≡ grown old (take n text))

pub grown-nothing : (told : Option Text) → grown told [] ≡ told
grown-nothing None = refl
grown-nothing (Some w) = ap Some (append-nil w)

-- nothing was written
pub part-nothing : (text : Text) (old new : Option Text) → new ≡ old → Part text old new
part-nothing text old new h = (0, omega arith, h ∙ sym (grown-nothing old))

-- what was written before
pub part-done : (text done left : Text) (old new : Option Text) → text ≡ done ++ left → new ≡ grown old done → Part text old new
part-done text done left old new h g =
    (length done, grind (arith, length-append {A = ℕ} done left, ap length h), g ∙ ap (grown old) (sym (ap (take (length done)) h ∙ take-append_seam done left)))

-- a part of a line behind what was written before
pub part-behind : (text done line left : Text) (old now new : Option Text) → text ≡ done ++ (line ++ left) → now ≡ grown old done
    → Part line now new → Part text old new
part-behind text done line left old now new h g part =
    let n = part.0 in
    let piece : take (length done + n) text ≡ done ++ take n line =
    ap (take (length done + n)) h ∙ take-append-add done (line ++ left) n ∙ ap (λ t. done ++ t) (take-append-le n line left part.1) in (
      length done + n,
      (let long = part.1 in grind (arith, length-append {A = ℕ} done (line ++ left), length-append {A = ℕ} line left, ap length h)),
      part.2 ∙ ap (λ told. grown told (take n line)) g ∙ grown-grown old done (take n line) ∙ ap (grown old) (sym piece),
    )

-- the whole line behind what was written before
pub whole-behind : (done line : Text) (old now new : Option Text) → now ≡ grown old done → new ≡ grown now line → new ≡ grown old (done ++ line)
whole-behind done line old now new g h = h ∙ ap (λ told. grown told line) g ∙ grown-grown old done line

-- a part of what stands behind the first line
pub part-after : (first rest : Text) (old now new : Option Text) → now ≡ grown old first → Part rest now new → Part (first ++ rest) old new
part-after first rest old now new g part =
    part-behind (first ++ rest) first rest [] old now new (ap (λ t. first ++ t) (sym (append-nil rest))) g part

-- a part of the first line
pub part-of-first : (first rest : Text) (old new : Option Text) → Part first old new → Part (first ++ rest) old new
part-of-first first rest old new part =
    part-behind (first ++ rest) [] first rest old old new refl (sym (grown-nothing old)) part
