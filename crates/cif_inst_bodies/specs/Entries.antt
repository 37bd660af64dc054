-- What the entries of a scope are in its body.
use Rattle.std.specs.Prelude.{◌≡◌, ◌<◌, List, length, Some, slice_get}
use Rattle.cif_ast.specs.declared.names.Ident.{Ident}
use Rattle.cif_system.specs.Words.{Member}
use Rattle.cif_source.specs.Source.{ParamTree, enum_decl, SourceBody, component_item, definition_item, instance_item}
use Rattle.cif_source.specs.Components.{Component, body_of, params_of, Entry, declared, literal, location, inner, definition, instance, parameter}
use Rattle.cif_source.specs.Objects.{decls_in, items_in, locs_in}

-- a declaration, component, definition or instance of the body, a literal at its place in an enumeration of the body, a
-- location at its place, or one of the parameters at its place
abbrev pub IsIn : List ParamTree → SourceBody → Entry → Type 0
IsIn ps b (declared d) = Member d (decls_in b)
IsIn ps b (literal k ls) = (n : Ident) × Member (enum_decl n ls) (decls_in b) × (k < length ls)
IsIn ps b (location k) = k < length (locs_in b)
IsIn ps b (inner n c) = Member (component_item n c) (items_in b)
IsIn ps b (definition n qs c) = Member (definition_item n qs c) (items_in b)
IsIn ps b (instance i) = Member (instance_item i) (items_in b)
IsIn ps b (parameter k p) = slice_get ps k ≡ Some p

-- it is one of what the scope of the component declares
abbrev pub IsOf : Component → Entry → Type 0
IsOf c e = IsIn (params_of c) (body_of c) e
