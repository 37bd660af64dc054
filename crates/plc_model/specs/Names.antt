-- The names of the variables of a generated program: a letter, the number of what the variable stands for, `_`, and the
-- path of that in the source, tidied so that the name is an identifier (IEC 61131-3, "Identifiers").
use Rattle.std.specs.Prelude.{◌≡◌, ℕ, Bool, true, false, not, ◌&&◌, ◌==◌, [], ◌∷◌, ◌++◌, take, codes, decimal, if◌then◌else◌}
use Rattle.grammar.specs.Pieces.{Text, AllAre, head_is}
use Rattle.grammar.specs.Bytes.{begins_word, is_wordy}
use Rattle.st_ast.specs.Tokens.{kind_of_word}
use Rattle.st_ast.specs.declared.kinds.TokenKind.TheVariants as kinds
use Rattle.plc_model.specs.declared.letter.Letter.{Letter}
use Rattle.plc_model.specs.declared.letter.Letter.TheVariants as letter

abbrev pub text_of : Letter → Text
text_of letter.I = codes "I"
text_of letter.H = codes "H"
text_of letter.L = codes "L"
text_of letter.V = codes "V"
text_of letter.P = codes "P"
text_of letter.Q = codes "Q"
text_of letter.R = codes "R"
text_of letter.T = codes "T"

-- the byte `_`
abbrev pub underscore : ℕ
underscore = 95

-- an ASCII letter or digit
abbrev pub is_kept : ℕ → Bool
is_kept b = is_wordy b && not (b == underscore)

-- each run of other bytes becomes one `_`; whether the byte before is in such a run
abbrev pub runs_joined : Bool → Text → Text
runs_joined in_run [] = []
runs_joined in_run (b ∷ w) = if is_kept b then b ∷ runs_joined false w
    else (if in_run then runs_joined true w else underscore ∷ runs_joined true w)

-- without a first `_`
abbrev pub front_trimmed : Text → Text
front_trimmed [] = []
front_trimmed (b ∷ w) = if b == underscore then w else b ∷ w

-- without a last `_`
abbrev pub end_trimmed : Text → Text
end_trimmed [] = []
end_trimmed (b ∷ []) = if b == underscore then [] else b ∷ []
end_trimmed (b ∷ d ∷ w) = b ∷ end_trimmed (d ∷ w)

-- `x` where nothing is left
abbrev pub or_x : Text → Text
or_x [] = codes "x"
or_x (b ∷ w) = b ∷ w

-- the most bytes of a path that stand in a name
abbrev pub most_bytes : ℕ
most_bytes = 40

-- Each run of bytes that aren't ASCII letters or digits becomes one `_`, a first and a last `_` go, the text is cut, and a
-- last `_` goes again.
abbrev pub tidied : Text → Text
tidied path = or_x (end_trimmed (take most_bytes (end_trimmed (front_trimmed (runs_joined false path)))))

abbrev pub name_for : Letter → ℕ → Text → Text
name_for l k path = text_of l ++ (decimal k ++ (underscore ∷ tidied path))

-- an identifier, and no reserved word
pub record IsIdentifier (w : Text) : Type 0 where
  pub begins : head_is begins_word w ≡ true
  pub bytes : AllAre is_wordy w
  pub kind : kind_of_word w ≡ kinds.Name
