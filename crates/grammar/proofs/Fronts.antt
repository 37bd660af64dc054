-- What stands at the front of a text: nothing of no class, and a fault where a test of what is found there fails.
use Rattle.std.proofs.Common.{◌≡◌, Bool, true, false, [], ◌∷◌, Result, Ok, Err, if◌then◌else◌, refl}
use Rattle.grammar.specs.Pieces.{Text, run_of}
use Rattle.grammar.specs.Bytes.{none_of}

pub none_run : (text : Text) → run_of none_of text ≡ ([], text)
none_run [] = refl
none_run (b ∷ text) = refl

-- what is Ok where a test holds, and a fault elsewhere
abbrev pub where_so : {A F : Type 0} → Bool → A → F → Result A F
where_so b x e = if b then Ok x else Err e

pub so_where_ok : {A F : Type 0} (b : Bool) (x y : A) (e : F) → where_so b x e ≡ Ok y → (b ≡ true) × (x ≡ y)
so_where_ok true x y e g = (refl, cc)
so_where_ok false x y e g = absurd cc

pub not_where_err : {A F : Type 0} (b : Bool) (x : A) (e f : F) → where_so b x e ≡ Err f → (b ≡ false) × (f ≡ e)
not_where_err true x e f g = absurd cc
not_where_err false x e f g = (refl, cc)
