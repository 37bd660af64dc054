-- The first algebraic variable with another number of definitions than one, and what the answers say of a source.
use Rattle.std.specs.Prelude.{ℕ, ◌+◌, [], List, Option, Some, None}
use Rattle.cif_ast.specs.Tree.{Tree}
use Rattle.cif_ast.specs.declared.names.Ident.{Ident}
use Rattle.cif_source.specs.Source.{DeclTree, type_decl, enum_decl, event_decl, const_decl, alg_decl, input_decl, disc_decl, equation_decl, invariant_decl, marked_decl, SourceBody, group_body, automaton_body, Source}
use Rattle.cif_source.specs.Objects.{decls_in}
use Rattle.cif_source.specs.BodyRules.{EquationsDue}
use Rattle.cif_scope.specs.Written.{WrittenBody}
use Rattle.cif_types_equations.specs.declared.error.EquationErr.{EquationErr}
use Rattle.cif_types_equations.specs.declared.error.EquationErr.TheVariants.{Equations, Memory}
use Rattle.cif_types_equations.specs.Tallies.{Tallied, tally_in, decls_tallied, locations_tallied}
use Rattle.cif_types_equations.specs.Counts.{value_count, first_some, other_count}

-- of a body with these declarations
abbrev pub body_tallied : SourceBody → List DeclTree → Tallied
body_tallied (group_body is) ds = decls_tallied [] ds
body_tallied (automaton_body a) ds = locations_tallied (decls_tallied [] ds) 0 a.locs

abbrev pub told : ℕ → Option ℕ → Option EquationErr
told at None = None
told at (Some k) = Some (Equations at k)

abbrev pub alg_fault : Tallied → SourceBody → Ident → Option Tree → Option EquationErr
alg_fault ts b n e = told n.at (other_count b (tally_in ts n.text) (value_count e + (tally_in ts n.text).own) n.text)

abbrev pub decl_fault : Tallied → SourceBody → DeclTree → Option EquationErr
decl_fault ts b (type_decl n ty) = None
decl_fault ts b (enum_decl n ls) = None
decl_fault ts b (event_decl k h n) = None
decl_fault ts b (const_decl ty n e) = None
decl_fault ts b (alg_decl ty n e) = alg_fault ts b n e
decl_fault ts b (input_decl ty n) = None
decl_fault ts b (disc_decl ty n e) = None
decl_fault ts b (equation_decl q) = None
decl_fault ts b (invariant_decl i) = None
decl_fault ts b (marked_decl p) = None

-- that of a body, in the order of its declarations
abbrev pub body_fault : SourceBody → Option EquationErr
body_fault b = first_some (decl_fault (body_tallied b (decls_in b)) b) (decls_in b)

-- that of a source, in text order
abbrev pub fault_in : List WrittenBody → Option EquationErr
fault_in ws = first_some (λ (w : WrittenBody). body_fault w.body) ws

-- ---- answers

-- the rule of the error is broken, with its fields; of want of memory nothing is said
abbrev pub due : Source → EquationErr → Type 0
due t (Equations at count) = EquationsDue t at count
due t Memory = Unit {0}
