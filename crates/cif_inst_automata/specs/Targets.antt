-- Helper of the code: the places to which edges lead, by the names of scopes.
use Rattle.std.specs.Prelude.{ℕ, Option, Some, None}
use Rattle.cif_ast.specs.declared.names.Ident.{Ident}
use Rattle.cif_scope.specs.declared.scope.What.{What}
use Rattle.cif_scope.specs.declared.scope.What.TheVariants as what
use Rattle.cif_scope.specs.declared.scopes.Scopes.{Scopes}
use Rattle.cif_scope.specs.Looks.{slot_at, what_at}
use Rattle.cif_inst_names.specs.declared.looking.Looking.{Looking}
use Rattle.cif_inst_paths.specs.Rows.{body_number}

abbrev pub place_in : Option What → ℕ → ℕ
place_in None count = count
place_in (Some (what.Location p)) count = p
place_in (Some (what.Declared d)) count = count
place_in (Some (what.Literal j)) count = count
place_in (Some (what.Component j)) count = count
place_in (Some (what.Definition j k)) count = count
place_in (Some (what.Instance j)) count = count
place_in (Some (what.Parameter p)) count = count

abbrev pub place_at : Scopes → ℕ → Option ℕ → ℕ → ℕ
place_at s k None count = count
place_at s k (Some j) count = place_in (what_at s.table k j) count

-- the place of the location of body k with that name, or else the count
abbrev pub named_place : Scopes → ℕ → Ident → ℕ → ℕ
named_place s k n count = place_at s k (slot_at s.table k n.text) count

-- and of component k
abbrev pub target_place : Looking → ℕ → Ident → ℕ → ℕ
target_place l k n count = named_place l.scopes.now (body_number l.components.now.all k) n count
