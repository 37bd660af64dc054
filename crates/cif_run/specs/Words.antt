-- The words of a command line.
use Rattle.std.specs.Prelude.{List, [], ◌∷◌}
use Rattle.grammar.specs.Pieces.{Text}

-- the word that names the command
abbrev pub command_word : List Text → Text
command_word [] = []
command_word (w ∷ ws) = w
