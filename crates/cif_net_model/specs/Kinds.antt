-- Which kind an expression of a net has: boolean, integer or that of an enumeration (CIF 3 language reference, "Types").
use Rattle.std.specs.Prelude.{ℕ, ℤ, pos, neg_ℤ, int_lt, int_le, Bool, true, false, ◌&&◌, nat_eq, nat_lt, List, [], ◌∷◌, ◌++◌, map, length, flat_map, Option, Some, None, slice_get, bytes_eq, replicate, if◌then◌else◌}
use Rattle.std.specs.List.{list_any}
use Rattle.cif_base.specs.declared.types.Ty.{Ty}
use Rattle.cif_base.specs.declared.types.Ty.TheVariants as ty
use Rattle.cif_net_expr.specs.Tree.{CmpOp, eq, ne, NetExpr, net_expr, NetForm, n_truth, n_number, n_loc, n_var, n_input, n_alg, n_received, n_minus, n_plus, n_not, n_abs, n_min, n_max, n_sum, n_product, n_compare, n_and, n_or, n_implies, n_iff, n_if, NetExprs, no_net_exprs, net_exprs, NetTerms, no_net_terms, net_terms, NetFactors, no_net_factors, net_factors, NetBranches, no_net_branches, net_branches}
use Rattle.cif_net_model.specs.Net.{Text, NetChan, net_chan_of, NetAuto, NetEvent, NetStored, NetAlg, Net}
use Rattle.std.specs.Cmp.Lexicographic.{pointwise}

-- two enumerations are one type where their literals have the same names in the same order
pub data Kind : Type 0 where
  bool_kind int_kind : Kind
  enum_kind : (literals : List Text) → Kind

abbrev pub is_bool : Kind → Bool
is_bool bool_kind = true
is_bool _ = false

abbrev pub is_int : Kind → Bool
is_int int_kind = true
is_int _ = false

abbrev pub same_texts : List Text → List Text → Bool
same_texts = pointwise bytes_eq

abbrev pub same_kind : Kind → Kind → Bool
same_kind bool_kind bool_kind = true
same_kind int_kind int_kind = true
same_kind (enum_kind xs) (enum_kind ys) = same_texts xs ys
same_kind _ _ = false

abbrev pub kind_of : Ty → List Text → Kind
kind_of ty.Bool ls = bool_kind
kind_of (ty.Int lo hi) ls = int_kind
kind_of (ty.Enum size) ls = enum_kind ls

-- a value of the kind may be one of the type
abbrev pub has_type : Ty → Kind → Bool
has_type ty.Bool bool_kind = true
has_type (ty.Int lo hi) int_kind = true
has_type (ty.Enum size) (enum_kind ls) = nat_eq (length ls) size
has_type _ _ = false

abbrev pub in_32_bits : ℤ → Bool
in_32_bits z = int_le (neg_ℤ (pos 2147483648)) z && int_le z (pos 2147483647)

-- a whole number as an integer, or as a literal
abbrev pub number_fits : Kind → ℤ → Bool
number_fits bool_kind z = false
number_fits int_kind z = in_32_bits z
number_fits (enum_kind ls) z = in_32_bits z && int_le (pos 0) z && int_lt z (pos (length ls))

abbrev pub places_of : Option NetAuto → ℕ
places_of None = 0
places_of (Some a) = length a.locs

abbrev pub stored_fits : Kind → Option NetStored → Bool
stored_fits k None = false
stored_fits k (Some v) = same_kind k (kind_of v.type_of v.literals)

abbrev pub alg_fits : Kind → Option NetAlg → Bool
alg_fits k None = false
alg_fits k (Some a) = same_kind k (kind_of a.type_of a.literals)

abbrev pub received_fits : Kind → Option Ty → Bool
received_fits k None = false
received_fits k (Some t) = has_type t k

-- a channel does not tell the names of literals
abbrev pub channel_kinds : NetChan → List Kind
channel_kinds (net_chan_of t) = elim t [ ty.Enum size ↦ enum_kind (replicate size []) ∷ [] | _ ↦ [] ]
channel_kinds _ = []

-- the kinds that expressions of a net may have
abbrev pub kinds_in : Net → List Kind
kinds_in n =
    bool_kind ∷ int_kind ∷ (map (λ (v : NetStored). kind_of v.type_of v.literals) (n.inputs ++ n.vars)
    ++ (map (λ (a : NetAlg). kind_of a.type_of a.literals) n.algs
    ++ flat_map (λ (e : NetEvent). channel_kinds e.chan) n.events))

abbrev pub is_equality : CmpOp → Bool
is_equality eq = true
is_equality ne = true
is_equality _ = false

-- The expression has the kind, what it names is there, and its numbers are in 32 bits. The type is that of the received
-- value, where there is one. Two operands of an equality have one kind.
abbrev mutual
  pub fits : Net → Option Ty → Kind → NetExpr → Bool
  fits n r k (net_expr f at) = form_fits n r k f

  pub form_fits : Net → Option Ty → Kind → NetForm → Bool
  form_fits n r k (n_truth b) = is_bool k
  form_fits n r k (n_number z) = number_fits k z
  form_fits n r k (n_loc a p) = is_bool k && nat_lt p (places_of (slice_get n.autos a))
  form_fits n r k (n_var v) = stored_fits k (slice_get n.vars v)
  form_fits n r k (n_input v) = stored_fits k (slice_get n.inputs v)
  form_fits n r k (n_alg v) = alg_fits k (slice_get n.algs v)
  form_fits n r k n_received = received_fits k r
  form_fits n r k (n_minus e) = is_int k && fits n r int_kind e
  form_fits n r k (n_plus e) = is_int k && fits n r int_kind e
  form_fits n r k (n_not e) = is_bool k && fits n r bool_kind e
  form_fits n r k (n_abs e) = is_int k && fits n r int_kind e
  form_fits n r k (n_min a b) = is_int k && fits n r int_kind a && fits n r int_kind b
  form_fits n r k (n_max a b) = is_int k && fits n r int_kind a && fits n r int_kind b
  form_fits n r k (n_sum e es) = is_int k && fits n r int_kind e && terms_fit n r es
  form_fits n r k (n_product e es) = is_int k && fits n r int_kind e && factors_fit n r es
  form_fits n r k (n_compare a op b) =
      is_bool k && (if is_equality op then list_any (λ q. fits n r q a && fits n r q b) (kinds_in n) else fits n r int_kind a && fits n r int_kind b)
  form_fits n r k (n_and es) = is_bool k && all_fit n r es
  form_fits n r k (n_or es) = is_bool k && all_fit n r es
  form_fits n r k (n_implies a b) = is_bool k && fits n r bool_kind a && fits n r bool_kind b
  form_fits n r k (n_iff a b) = is_bool k && fits n r bool_kind a && fits n r bool_kind b
  form_fits n r k (n_if bs e) = branches_fit n r k bs && fits n r k e

  pub terms_fit : Net → Option Ty → NetTerms → Bool
  terms_fit n r no_net_terms = true
  terms_fit n r (net_terms m e es) = fits n r int_kind e && terms_fit n r es

  pub factors_fit : Net → Option Ty → NetFactors → Bool
  factors_fit n r no_net_factors = true
  factors_fit n r (net_factors op e es) = fits n r int_kind e && factors_fit n r es

  pub all_fit : Net → Option Ty → NetExprs → Bool
  all_fit n r no_net_exprs = true
  all_fit n r (net_exprs e es) = fits n r bool_kind e && all_fit n r es

  pub branches_fit : Net → Option Ty → Kind → NetBranches → Bool
  branches_fit n r k no_net_branches = true
  branches_fit n r k (net_branches c e bs) = fits n r bool_kind c && fits n r k e && branches_fit n r k bs

-- the expression is one of a kind that the type takes
abbrev pub fits_type : Net → Ty → NetExpr → Bool
fits_type n t e = list_any (λ k. has_type t k && fits n None k e) (kinds_in n)
