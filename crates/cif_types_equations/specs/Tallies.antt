-- What is tallied of a name: how many equations of the component define it, and in how many locations it has exactly one so far.
use Rattle.std.specs.Prelude.{ℕ, ◌+◌, nat_eq, List, [], ◌∷◌, Option, Some, None, unwrap_or, if◌then◌else◌}
use Rattle.std.specs.Map.{lookup}
use Rattle.cif_source.specs.Source.{Text, DeclTree, type_decl, enum_decl, event_decl, const_decl, alg_decl, input_decl, disc_decl, equation_decl, invariant_decl, marked_decl, EquationTree, LocationTree}
use Rattle.cif_source.specs.Components.{same_text}
use Rattle.cif_types_equations.specs.declared.tallies.Tally.{Tally}

-- names with their tallies
abbrev pub Tallied : Type 0
Tallied = List (Text × Tally)

abbrev pub no_tally : Tally
no_tally = record { own = 0; placed = Some 0 }

abbrev pub tally_in : Tallied → Text → Tally
tally_in ts x = unwrap_or (lookup (λ y. same_text x y) ts) no_tally

-- the tallies, with that of x
abbrev pub with_tally : Tallied → Text → Tally → Tallied
with_tally [] x t = (x, t) ∷ []
with_tally (e ∷ es) x t = if same_text x e.0 then (e.0, t) ∷ es else e ∷ with_tally es x t

-- ---- equations of the component

abbrev pub owned : Tally → Tally
owned t = record { own = t.own + 1; placed = t.placed }

abbrev pub own_tallied : Tallied → Text → Tallied
own_tallied ts x = with_tally ts x (owned (tally_in ts x))

abbrev pub decl_tallied : Tallied → DeclTree → Tallied
decl_tallied ts (type_decl n ty) = ts
decl_tallied ts (enum_decl n ls) = ts
decl_tallied ts (event_decl k h n) = ts
decl_tallied ts (const_decl ty n e) = ts
decl_tallied ts (alg_decl ty n e) = ts
decl_tallied ts (input_decl ty n) = ts
decl_tallied ts (disc_decl ty n e) = ts
decl_tallied ts (equation_decl q) = own_tallied ts q.name.text
decl_tallied ts (invariant_decl i) = ts
decl_tallied ts (marked_decl p) = ts

abbrev pub decls_tallied : Tallied → List DeclTree → Tallied
decls_tallied ts [] = ts
decls_tallied ts (d ∷ ds) = decls_tallied (decl_tallied ts d) ds

-- ---- equations of locations

-- one more equation, at location k: it goes on where each location before k has one, and location k has none so far
abbrev pub follows : ℕ → Option ℕ → Option ℕ
follows k None = None
follows k (Some n) = if nat_eq n k then Some (k + 1) else None

abbrev pub placed_at : ℕ → Tally → Tally
placed_at k t = record { own = t.own; placed = follows k t.placed }

abbrev pub equation_tallied : Tallied → ℕ → Text → Tallied
equation_tallied ts k x = with_tally ts x (placed_at k (tally_in ts x))

abbrev pub equations_tallied : Tallied → ℕ → List EquationTree → Tallied
equations_tallied ts k [] = ts
equations_tallied ts k (q ∷ qs) = equations_tallied (equation_tallied ts k q.name.text) k qs

-- those of the locations from location k on
abbrev pub locations_tallied : Tallied → ℕ → List LocationTree → Tallied
locations_tallied ts k [] = ts
locations_tallied ts k (l ∷ ls) = locations_tallied (equations_tallied ts k l.equations) (k + 1) ls
