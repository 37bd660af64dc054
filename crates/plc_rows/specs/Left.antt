-- Helper of the code: what a reader has left, as records.
use Rattle.std.specs.Prelude.{◌≡◌, ⊤, ℕ, Bool, true, false, List, [], ◌∷◌, Some, None}
use Rattle.std.specs.Borrow.{Bor}
use Rattle.grammar.specs.Pieces.{Text}
use Rattle.csv.specs.Machine.{Read, next_record}
use Rattle.csv.specs.Reading.{Ready, default_config, source_of}
use Rattle.csv.specs.declared.parser.State.{State}
use Rattle.csv.specs.declared.reader.Reader.{Reader}
use Rattle.csv.specs.declared.reader.Trim.TheVariants as trim

-- these are all the records of a text from a state on
unfoldable pub AllRecords : State → Text → List (List Text) → Type 0
AllRecords s text [] = next_record default_config s [] [] text ≡ None
AllRecords s text (r ∷ rs) = (p : Read) × (next_record default_config s [] [] text ≡ Some p) × (r ≡ p.0) × AllRecords p.1 p.2 rs

-- a reader of a text in memory has these records left
unfoldable pub Left : Reader (Bor (List ℕ)) → List (List Text) → Type 0
Left reader rs = (reader.trim ≡ trim.None) × Ready reader × (reader.config ≡ default_config)
    × (text : Text) × (source_of (λ (s : Bor (List ℕ)). Some s.now) reader ≡ Some text) × AllRecords reader.state text rs

-- a read found the first of these records, which leaves the others, or found none where there are none
unfoldable pub Next : Bool → List Text → Reader (Bor (List ℕ)) → List (List Text) → Type 0
Next false fields after [] = ⊤
Next false fields after (r ∷ rs) = ⊥
Next true fields after [] = ⊥
Next true fields after (r ∷ rs) = (fields ≡ r) × Left after rs
