-- The tree that each form of a declaration stands for.
use Rattle.std.specs.Prelude.{◌==◌, List, [], ◌∷◌, Option, Some, None, if◌then◌else◌}
use Rattle.cif_lex.specs.declared.token.Token.{Token}
use Rattle.cif_lex.specs.declared.token.TokenKind.TheVariants.{Reserved}
use Rattle.cif_lex.specs.declared.token.Word.TheVariants as w
use Rattle.cif_ast.specs.declared.names.Ident.{Ident}
use Rattle.cif_ast.specs.declared.names.Name.{Name}
use Rattle.cif_ast.specs.declared.expressions.Expr.{Expr}
use Rattle.cif_ast.specs.declared.declarations.Class.{Class}
use Rattle.cif_ast.specs.declared.declarations.Class.TheVariants as class
use Rattle.cif_ast.specs.declared.declarations.Chan.{Chan}
use Rattle.cif_ast.specs.declared.declarations.Chan.TheVariants as channel
use Rattle.cif_ast.specs.declared.declarations.TypeUse.{TypeUse}
use Rattle.cif_ast.specs.declared.declarations.TypeUse.TheVariants as type
use Rattle.cif_ast.specs.declared.declarations.Decl.{Decl}
use Rattle.cif_ast.specs.declared.declarations.Decl.TheVariants as decl
use Rattle.cif_ast.specs.declared.declarations.Inv.{Inv}
use Rattle.cif_ast.specs.declared.declarations.Inv.TheVariants as inv
use Rattle.cif_ast.specs.declared.declarations.Param.{Param}
use Rattle.cif_ast.specs.declared.declarations.Param.TheVariants as param
use Rattle.cif_parse_expr.specs.TokenKinds.{code}

abbrev pub bounds : Token × (Expr × (Token × (Expr × Token))) → Expr × Expr
bounds (left, (lower, (dots, (upper, right)))) = (lower, upper)

abbrev pub integer : Option (Expr × Expr) → TypeUse
integer None = type.Int
integer (Some (lower, upper)) = type.Range lower upper

abbrev pub class_of : Token → Class
class_of t =
    if code t.kind == code (Reserved w.Controllable) then class.Con
    else (if code t.kind == code (Reserved w.Uncontrollable) then class.Unc else class.Plain)

abbrev pub channel_or : Option Chan → Chan
channel_or None = channel.No
channel_or (Some c) = c

-- ---- declarations

abbrev pub named_type : Ident × (Token × TypeUse) → Decl
named_type (name, (is, ty)) = decl.TypeName name ty

abbrev pub enumeration : Token × (Ident × (Token × (List Ident × Token))) → Decl
enumeration (word, (name, (is, (literals, end)))) = decl.Enum name literals

abbrev pub event : Class → Chan → Ident → Decl
event k c name = decl.Event k c name

abbrev pub constant : TypeUse → Ident × (Token × Expr) → Decl
constant ty (name, (is, value)) = decl.Const ty name value

abbrev pub algebraic : TypeUse → Ident × Option Expr → Decl
algebraic ty (name, value) = decl.Alg ty name value

abbrev pub discrete : TypeUse → Ident × Option Expr → Decl
discrete ty (name, value) = decl.Disc ty name value

abbrev pub input : TypeUse → Ident → Decl
input ty name = decl.Input ty name

abbrev pub equation : Token × (Ident × (Token × (Expr × Token))) → Decl
equation (word, (name, (is, (value, end)))) = decl.Equation name value

-- ---- invariants

abbrev pub single : {A : Type 0} → A → List A
single a = a ∷ []

abbrev pub needs : List Name × (Token × Expr) → Inv
needs (events, (word, p)) = inv.Needs events p

abbrev pub disables : Expr × (Token × List Name) → Inv
disables (p, (word, events)) = inv.Disables p events

-- a predicate alone, or with the events that it disables
abbrev pub state_or : Expr → Option (List Name) → Inv
state_or p None = inv.State p
state_or p (Some events) = inv.Disables p events

-- ---- parameters

abbrev pub event_parameter : Class → Chan → Ident → Param
event_parameter k c name = param.Event k c name

abbrev pub algebraic_parameter : TypeUse → Ident → Param
algebraic_parameter ty name = param.Alg ty name

abbrev pub location_parameter : Ident → Param
location_parameter name = param.Location name

abbrev pub given : {A : Type 0} → Option (List A) → List A
given None = []
given (Some all) = all
