-- What is refused of alphabets breaks their rule, and where nothing is refused both rules are kept.
use Rattle.std.proofs.Common.{◌≡◌, List, None}
use Rattle.cif_inst_names.specs.Looking.{source_for}
use Rattle.cif_inst_names.specs.declared.looking.Looking.{Looking}
use Rattle.cif_inst_paths.specs.Names.{AreMatchedNames}
use Rattle.cif_inst_paths.specs.Rows.{RowTree, rows_of}
use Rattle.cif_inst_automata.specs.Alphabets.{rows_alphabets, rows_lacks, tells}
use Rattle.cif_inst_automata.specs.Roles.{first_mixed}
use Rattle.cif_inst_automata.specs.Rules.{due, KeepsAlphabets}
use Rattle.cif_inst_automata.specs.declared.alphabets.Alphabet.{Alphabet}
use Rattle.cif_inst_automata.specs.declared.error.AutomataErr.{AutomataErr}
use Rattle.cif_inst_automata.specs.declared.error.AutomataErr.TheVariants.{AlphabetLacks, RoleMixed, Memory}
use Rattle.cif_inst_automata.proofs.TellLaws.{lacks-due, lacks-none}
use Rattle.cif_inst_automata.proofs.MixedLaws.{roles_kept}

pub lacks_refused : (l : Looking) (rows : List RowTree) (e : AutomataErr) → AreMatchedNames l → rows ≡ rows_of (source_for l) → tells e (rows_lacks l 0 rows) → due (source_for l) e
lacks_refused l rows (AlphabetLacks at) h r told = lacks-due l h rows at r told
lacks_refused l rows (RoleMixed at) h r told = absurd told
lacks_refused l rows Memory h r told = tt

pub alphabets_kept : (l : Looking) (rows : List RowTree) (all : List Alphabet) → AreMatchedNames l → rows ≡ rows_of (source_for l) → all ≡ rows_alphabets l 0 rows → rows_lacks l 0 rows ≡ None → first_mixed all ≡ None
    → KeepsAlphabets (source_for l)
alphabets_kept l rows all names are found inside single = record { alphabets = lacks-none l names rows are inside; roles = roles_kept l names all rows found are single }
