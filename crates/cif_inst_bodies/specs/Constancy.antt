-- What it means that an expression is constant where it stands.
use Rattle.std.specs.Prelude.{◌≡◌, false}
use Rattle.cif_ast.specs.Tree.{Tree}
use Rattle.cif_ast.specs.declared.names.Name.{Name}
use Rattle.cif_system.specs.Words.{Member}
use Rattle.cif_source.specs.Components.{Component}
use Rattle.cif_source.specs.Lookup.{found}
use Rattle.cif_source.specs.Uses.{names_in}
use Rattle.cif_source.specs.Scoping.{is_wrong}
use Rattle.cif_source.specs.BodyRules.{is_constant}

-- each name in it leads to a constant or a literal, or is declared nowhere
abbrev pub HasConstantNames : Component → Tree → Type 0
HasConstantNames c e = (nm : Name) → Member nm (names_in e) → is_wrong is_constant (found c nm) ≡ false
