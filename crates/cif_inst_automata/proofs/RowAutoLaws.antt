-- One automaton more among the components.
use Rattle.std.proofs.Common.{◌≡◌, ℕ, ◌+◌, ◌<◌, List, [], ◌∷◌, ◌++◌, length, map, drop, get_or, append_assoc, Option, None, sym, ◌∙◌, ap, subst}
use Rattle.cif_scope.specs.Written.{inside_of}
use Rattle.cif_inst_names.specs.declared.looking.Looking.{Looking}
use Rattle.cif_inst_paths.specs.Rows.{RowTree}
use Rattle.cif_inst_paths.specs.Views.{row_tree}
use Rattle.cif_scope.proofs.Places.{drop-item}
use Rattle.cif_inst_automata.specs.Alphabets.{body_alphabets, rows_alphabets, body_lacks, rows_lacks, tells}
use Rattle.cif_inst_automata.specs.declared.alphabets.Alphabet.{Alphabet}
use Rattle.cif_inst_automata.specs.declared.error.AutomataErr.{AutomataErr}
use Rattle.cif_inst_automata.proofs.AutomatonLaws.{or_tells, or_none}
use Rattle.cif_inst_paths.specs.declared.rows.Row.{Row}

-- ---- past a component

module _ (l : Looking) (rows : List Row) (i : ℕ) (r : Row) (below : i < length rows) (is : r ≡ get_or rows i r) where
  abbrev rest : List RowTree
  rest = map row_tree (drop (i + 1) rows)

  here : map row_tree (drop i rows) ≡ row_tree r ∷ rest
  here = ap (map row_tree) (drop-item rows i r below is)

  pub alphabet_added : (before after : List Alphabet) (x : Alphabet) (all : List Alphabet) → after ≡ before ++ x ∷ [] → x ∷ [] ≡ body_alphabets l i (inside_of r.inside)
      → before ++ rows_alphabets l i (map row_tree (drop i rows)) ≡ all → after ++ rows_alphabets l (i + 1) rest ≡ all
  alphabet_added before after x all pushed made h =
      ap (λ ys. ys ++ rows_alphabets l (i + 1) rest) pushed
      ∙ append_assoc before (x ∷ []) (rows_alphabets l (i + 1) rest)
      ∙ ap (λ ys. before ++ (ys ++ rows_alphabets l (i + 1) rest)) made
      ∙ ap (λ rs. before ++ rows_alphabets l i rs) (sym here)
      ∙ h

  pub no_alphabet_added : (before all : List Alphabet) → body_alphabets l i (inside_of r.inside) ≡ []
      → before ++ rows_alphabets l i (map row_tree (drop i rows)) ≡ all → before ++ rows_alphabets l (i + 1) rest ≡ all
  no_alphabet_added before all none h = ap (λ ys. before ++ (ys ++ rows_alphabets l (i + 1) rest)) (sym none) ∙ ap (λ rs. before ++ rows_alphabets l i rs) (sym here) ∙ h

  pub lacks_passed : (all : Option ℕ) → body_lacks l i (inside_of r.inside) ≡ None → rows_lacks l i (map row_tree (drop i rows)) ≡ all → rows_lacks l (i + 1) rest ≡ all
  lacks_passed all none h = sym (or_none (body_lacks l i (inside_of r.inside)) (rows_lacks l (i + 1) rest) none) ∙ ap (rows_lacks l i) (sym here) ∙ h

  pub lacks_told : (e : AutomataErr) (all : Option ℕ) → tells e (body_lacks l i (inside_of r.inside)) → rows_lacks l i (map row_tree (drop i rows)) ≡ all → tells e all
  lacks_told e all told h = subst (tells e) (ap (rows_lacks l i) (sym here) ∙ h) (or_tells e (body_lacks l i (inside_of r.inside)) (rows_lacks l (i + 1) rest) told)
