-- Helper of the code: the first name in an expression that is no constant and no literal, by where names lead.
use Rattle.std.specs.Prelude.{ℕ, Bool, true, false, not, List, [], ◌∷◌, ◌+◌, Option, Some, None, if◌then◌else◌}
use Rattle.std.specs.Option.{option_or}
use Rattle.cif_ast.specs.Tree.{Tree, node, Shape, truth, number, named, received, paren, negative, positive, negation, absolute, least, greatest, sum, product, comparison, all_of, any_of, implication, equivalence, choice, Trees, no_trees, trees, Terms, no_terms, terms, Factors, no_factors, factors, Branches, no_branches, branches}
use Rattle.cif_ast.specs.declared.names.Name.{Name}
use Rattle.cif_source.specs.Source.{TypeTree, bool_type, int_type, range_type, named_type}
use Rattle.cif_scope.specs.declared.scope.Sort.{Sort}
use Rattle.cif_scope.specs.declared.scope.Sort.TheVariants as sort
use Rattle.cif_scope.specs.declared.scope.What.{What}
use Rattle.cif_scope.specs.declared.scope.What.TheVariants as what
use Rattle.cif_scope.specs.declared.looked.Looked.{Looked}
use Rattle.cif_scope.specs.declared.looked.Looked.TheVariants.{At, Missing, Blocked}
use Rattle.cif_scope.specs.declared.scopes.Scopes.{Scopes}
use Rattle.cif_scope.specs.Looks.{what_at, look}
use Rattle.cif_scope.specs.Written.{WrittenBody}
use Rattle.cif_types_constancy.specs.Collected.{types_in, values_in}

-- ---- a name

abbrev pub is_constant_sort : Sort → Bool
is_constant_sort sort.Constant = true
is_constant_sort _ = false

abbrev pub is_constant_what : What → Bool
is_constant_what (what.Declared s) = is_constant_sort s
is_constant_what (what.Literal k) = true
is_constant_what _ = false

abbrev pub is_constant_slot : Option What → Bool
is_constant_slot None = false
is_constant_slot (Some w) = is_constant_what w

-- a name that is declared nowhere breaks another rule
abbrev pub is_wrong_by : Scopes → Looked → Bool
is_wrong_by s (At k j) = not (is_constant_slot (what_at s.table k j))
is_wrong_by s Missing = false
is_wrong_by s Blocked = true

-- a name in body k
abbrev pub is_wrong_name : Scopes → ℕ → Name → Bool
is_wrong_name s k nm = is_wrong_by s (look s.table s.definitions true k nm)

-- ---- the place of the first wrong name

abbrev mutual
  pub unfit : (Name → Bool) → Tree → Option ℕ
  unfit wrong (node form at) = shape_unfit wrong form

  pub shape_unfit : (Name → Bool) → Shape → Option ℕ
  shape_unfit wrong (truth b) = None
  shape_unfit wrong (number z) = None
  shape_unfit wrong (named nm) = if wrong nm then Some nm.at else None
  shape_unfit wrong received = None
  shape_unfit wrong (paren e) = unfit wrong e
  shape_unfit wrong (negative e) = unfit wrong e
  shape_unfit wrong (positive e) = unfit wrong e
  shape_unfit wrong (negation e) = unfit wrong e
  shape_unfit wrong (absolute e) = unfit wrong e
  shape_unfit wrong (least a b) = option_or (unfit wrong a) (unfit wrong b)
  shape_unfit wrong (greatest a b) = option_or (unfit wrong a) (unfit wrong b)
  shape_unfit wrong (sum e es) = option_or (unfit wrong e) (terms_unfit wrong es)
  shape_unfit wrong (product e es) = option_or (unfit wrong e) (factors_unfit wrong es)
  shape_unfit wrong (comparison a op b) = option_or (unfit wrong a) (unfit wrong b)
  shape_unfit wrong (all_of es) = trees_unfit wrong es
  shape_unfit wrong (any_of es) = trees_unfit wrong es
  shape_unfit wrong (implication a b) = option_or (unfit wrong a) (unfit wrong b)
  shape_unfit wrong (equivalence a b) = option_or (unfit wrong a) (unfit wrong b)
  shape_unfit wrong (choice bs e) = option_or (branches_unfit wrong bs) (unfit wrong e)

  pub terms_unfit : (Name → Bool) → Terms → Option ℕ
  terms_unfit wrong no_terms = None
  terms_unfit wrong (terms minus e es) = option_or (unfit wrong e) (terms_unfit wrong es)

  pub factors_unfit : (Name → Bool) → Factors → Option ℕ
  factors_unfit wrong no_factors = None
  factors_unfit wrong (factors op e es) = option_or (unfit wrong e) (factors_unfit wrong es)

  pub trees_unfit : (Name → Bool) → Trees → Option ℕ
  trees_unfit wrong no_trees = None
  trees_unfit wrong (trees e es) = option_or (unfit wrong e) (trees_unfit wrong es)

  pub branches_unfit : (Name → Bool) → Branches → Option ℕ
  branches_unfit wrong no_branches = None
  branches_unfit wrong (branches cs e bs) = option_or (option_or (trees_unfit wrong cs) (unfit wrong e)) (branches_unfit wrong bs)

-- ---- of a body, and of the bodies from body k on

abbrev pub type_unfit : (Name → Bool) → TypeTree → Option ℕ
type_unfit wrong bool_type = None
type_unfit wrong int_type = None
type_unfit wrong (range_type lower upper) = option_or (unfit wrong lower) (unfit wrong upper)
type_unfit wrong (named_type nm) = None

abbrev pub types_unfit : (Name → Bool) → List TypeTree → Option ℕ
types_unfit wrong [] = None
types_unfit wrong (t ∷ ts) = option_or (type_unfit wrong t) (types_unfit wrong ts)

abbrev pub values_unfit : (Name → Bool) → List (TypeTree × Tree) → Option ℕ
values_unfit wrong [] = None
values_unfit wrong (v ∷ vs) = option_or (unfit wrong v.1) (values_unfit wrong vs)

abbrev pub body_unfit : Scopes → ℕ → WrittenBody → Option ℕ
body_unfit s k w = option_or (types_unfit (is_wrong_name s k) (types_in w)) (values_unfit (is_wrong_name s k) (values_in w))

abbrev pub unfit_from : Scopes → ℕ → List WrittenBody → Option ℕ
unfit_from s k [] = None
unfit_from s k (w ∷ ws) = option_or (body_unfit s k w) (unfit_from s (k + 1) ws)
