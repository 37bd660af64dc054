-- The name that a status tells (`IsNamedBy`). The rest helps the code: why a part of a replay gave nothing, by the status that it leads
-- to.
use Rattle.std.specs.Prelude.{◌≡◌, ℕ, ℤ, List, Some}
use Rattle.grammar.specs.Pieces.{Text}
use Rattle.st_ast.specs.Tree.{Program}
use Rattle.st_ast.specs.Exec.{OutOfTurns}
use Rattle.st_ast.specs.Scan.{start_memory}
use Rattle.st_ast.specs.ReadsAs.{Derives}
use Rattle.st_scan.specs.Endings.{stopped}
use Rattle.st_scan.specs.declared.error.ScanErr.TheVariants as scan
use Rattle.cif_run.specs.declared.status.Status.{Status}
use Rattle.cif_run.specs.declared.status.Status.TheVariants as status
use Rattle.cif_replay.specs.Told.{variable_of}
use Rattle.cif_replay.specs.Replaying.{ComesTo, IsStRefused, name_at}

-- a text is no program
abbrev pub StEnds : Text → Status → Type 0
StEnds bytes (status.StRefused why) = IsStRefused bytes why
StEnds bytes status.Memory = Unit {0}
StEnds bytes _ = ⊥

-- a scan over these rows stops
abbrev pub ScanEnds : Program → List (List ℤ) → Status → Type 0
ScanEnds p rows (status.ScanFault k e) = (e ≡ scan.Budget → ⊥) × ComesTo p (start_memory p) rows k (stopped e)
ScanEnds p rows (status.Budget k) = ComesTo p (start_memory p) rows k OutOfTurns
ScanEnds p rows status.Memory = Unit {0}
ScanEnds p rows _ = ⊥

-- the name is that of the variable that the status tells of
abbrev pub IsNamed : Program → Status → Text → Type 0
IsNamed p s name = (k : ℕ) → variable_of s ≡ Some k → name ≡ name_at p.vars k

-- the same in every program that the text derives
abbrev pub IsNamedBy : Text → Status → Text → Type 0
IsNamedBy text s name = (p : Program) → Derives text p → IsNamed p s name
