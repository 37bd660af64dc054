-- The value of a boolean is 0 or 1, and that of an enumeration is the place of a literal.
use Rattle.std.proofs.Common.{◌≡◌, ℕ, ℤ, pos, ◌-ℤ◌, Bool, true, false, ◌&&◌, List, [], ◌∷◌, ◌++◌, length, Option, Some, None, refl, sym, ◌∙◌, slice_get, slice_index_or, arith}
use Rattle.std.specs.List.{list_all}
use Rattle.std.proofs.lemmas.Int.{ints}
use Rattle.std.proofs.lemmas.Bool.Decides.{nat_tests}
use Rattle.cif_base.specs.declared.types.Ty.{Ty}
use Rattle.cif_base.specs.declared.types.Ty.TheVariants as ty
use Rattle.cif_system.specs.System.{Range, State}
use Rattle.cif_net_expr.specs.Tree.{NetExpr, net_expr, NetForm, n_truth, n_number, n_loc, n_var, n_input, n_alg, n_received, n_minus, n_plus, n_not, n_abs, n_min, n_max, n_sum, n_product, n_compare, n_and, n_or, n_implies, n_iff, n_if, NetBranches, no_net_branches, net_branches}
use Rattle.cif_net_model.specs.Net.{Text, NetStored, Net}
use Rattle.cif_net_model.specs.Value.{of_bool, net_value, net_form_value, net_cases}
use Rattle.cif_net_model.specs.Meaning.{type_range}
use Rattle.cif_net_model.specs.Interval.{between, truths, stored_range}
use Rattle.cif_net_model.specs.Kinds.{Kind, bool_kind, int_kind, enum_kind, is_bool, is_int, same_texts, same_kind, kind_of, has_type, number_fits, stored_fits, received_fits, fits, form_fits, branches_fit}
use Rattle.cif_net_model.specs.Facts.{literals_fit}
use Rattle.cif_net_model.specs.Reads.{alg_passes, names_in, form_names, branch_names}
use Rattle.cif_net_model.proofs.Orders.{Lies}
use Rattle.cif_net_model.proofs.Passing.{and-left, and-right, both-pass, bool-holds, chosen}
use Rattle.cif_net_model.proofs.PlainLaws.{never}

abbrev pub kind_range : Kind → Range
kind_range (enum_kind ls) = between (pos 0) (pos (length ls) -ℤ pos 1)
kind_range k = truths

bool-lies : (k : Kind) (b : Bool) → is_bool k ≡ true → Lies (kind_range k) (of_bool b)
bool-lies bool_kind b h = bool-holds b
bool-lies int_kind b h = never h
bool-lies (enum_kind ls) b h = never h

number-lies : (k : Kind) (v : ℤ) → is_int k ≡ false → number_fits k v ≡ true → Lies (kind_range k) v
number-lies bool_kind v i h = never h
number-lies int_kind v i h = never (sym i)
number-lies (enum_kind ls) v i h = grind (arith, ints)

same-length : (xs ys : List Text) → same_texts xs ys ≡ true → length xs ≡ length ys
same-length [] [] h = refl
same-length [] (y ∷ ys) h = never h
same-length (x ∷ xs) [] h = never h
same-length (x ∷ xs) (y ∷ ys) h = omega (arith, same-length xs ys (and-right _ _ h))

kind-lies : (k : Kind) (t : Ty) (ls : List Text) (y : ℤ) → is_int k ≡ false → same_kind k (kind_of t ls) ≡ true → literals_fit t ls ≡ true → Lies (type_range t) y → Lies (kind_range k) y
kind-lies bool_kind ty.Bool ls y i h f l = l
kind-lies bool_kind (ty.Int lo hi) ls y i h f l = never h
kind-lies bool_kind (ty.Enum size) ls y i h f l = never h
kind-lies int_kind t ls y i h f l = never (sym i)
kind-lies (enum_kind xs) ty.Bool ls y i h f l = never h
kind-lies (enum_kind xs) (ty.Int lo hi) ls y i h f l = never h
kind-lies (enum_kind xs) (ty.Enum size) ls y i h f l = let e : length xs ≡ length ls = same-length xs ls h in let g : length ls ≡ size = grind (arith, nat_tests) in omega (arith, ints)

pub type-lies : (k : Kind) (t : Ty) (y : ℤ) → is_int k ≡ false → has_type t k ≡ true → Lies (type_range t) y → Lies (kind_range k) y
type-lies bool_kind ty.Bool y i h l = l
type-lies bool_kind (ty.Int lo hi) y i h l = never h
type-lies bool_kind (ty.Enum size) y i h l = never h
type-lies int_kind t y i h l = never (sym i)
type-lies (enum_kind xs) ty.Bool y i h l = never h
type-lies (enum_kind xs) (ty.Int lo hi) y i h l = never h
type-lies (enum_kind xs) (ty.Enum size) y i h l = let e : length xs ≡ size = grind (arith, nat_tests) in omega (arith, ints)

-- the other way: what lies so is of the type
pub lies-type : (k : Kind) (t : Ty) (y : ℤ) → is_int k ≡ false → has_type t k ≡ true → Lies (kind_range k) y → Lies (type_range t) y
lies-type bool_kind ty.Bool y i h l = l
lies-type bool_kind (ty.Int lo hi) y i h l = never h
lies-type bool_kind (ty.Enum size) y i h l = never h
lies-type int_kind t y i h l = never (sym i)
lies-type (enum_kind xs) ty.Bool y i h l = never h
lies-type (enum_kind xs) (ty.Int lo hi) y i h l = never h
lies-type (enum_kind xs) (ty.Enum size) y i h l = let e : length xs ≡ size = grind (arith, nat_tests) in omega (arith, ints)

stored-lies : (k : Kind) (o : Option NetStored) (y : ℤ) → is_int k ≡ false → stored_fits k o ≡ true → ((w : NetStored) → o ≡ Some w → literals_fit w.type_of w.literals ≡ true) → Lies (stored_range o) y → Lies (kind_range k) y
stored-lies k None y i h f l = never h
stored-lies k (Some w) y i h f l = kind-lies k w.type_of w.literals y i h (f w refl) l

received-lies : (k : Kind) (o : Option Ty) (y : ℤ) → is_int k ≡ false → received_fits k o ≡ true → ((t : Ty) → o ≡ Some t → Lies (type_range t) y) → Lies (kind_range k) y
received-lies k None y i h f = never h
received-lies k (Some t) y i h f = type-lies k t y i h (f t refl)

no-int : {A : Type 0} (k : Kind) (b : Bool) → is_int k ≡ false → (is_int k && b) ≡ true → A
no-int k b i h = never (sym i ∙ and-left _ b h)

module _ (n : Net) (alg : ℕ → ℤ) (s : State) (r : Option Ty) (z : ℤ)
    (vars : (k : ℕ) → Lies (stored_range (slice_get n.vars k)) (slice_index_or s.vals k (pos 0)))
    (inputs : (k : ℕ) → Lies (stored_range (slice_get n.inputs k)) (slice_index_or s.ins k (pos 0)))
    (received : (t : Ty) → r ≡ Some t → Lies (type_range t) z)
    (var-literals : (k : ℕ) (w : NetStored) → slice_get n.vars k ≡ Some w → literals_fit w.type_of w.literals ≡ true)
    (input-literals : (k : ℕ) (w : NetStored) → slice_get n.inputs k ≡ Some w → literals_fit w.type_of w.literals ≡ true)
    (k : Kind) (i : is_int k ≡ false) where
  mutual
    pub value-kind : (e : NetExpr) → list_all (alg_passes (λ j. false)) (names_in e) ≡ true → fits n r k e ≡ true → Lies (kind_range k) (net_value alg s z e)
    value-kind (net_expr f at) p h = form-kind f p h

    form-kind : (f : NetForm) → list_all (alg_passes (λ j. false)) (form_names f) ≡ true → form_fits n r k f ≡ true → Lies (kind_range k) (net_form_value alg s z f)
    form-kind (n_truth b) p h = bool-lies k b h
    form-kind (n_number v) p h = number-lies k v i h
    form-kind (n_loc a q) p h = bool-lies k _ (and-left _ _ h)
    form-kind (n_var v) p h = stored-lies k (slice_get n.vars v) _ i h (var-literals v) (vars v)
    form-kind (n_input v) p h = stored-lies k (slice_get n.inputs v) _ i h (input-literals v) (inputs v)
    form-kind (n_alg v) p h = never p
    form-kind n_received p h = received-lies k r z i h received
    form-kind (n_minus e) p h = no-int k _ i h
    form-kind (n_plus e) p h = no-int k _ i h
    form-kind (n_not e) p h = bool-lies k _ (and-left _ _ h)
    form-kind (n_abs e) p h = no-int k _ i h
    form-kind (n_min a b) p h = no-int k _ i (and-left _ _ h)
    form-kind (n_max a b) p h = no-int k _ i (and-left _ _ h)
    form-kind (n_sum e es) p h = no-int k _ i (and-left _ _ h)
    form-kind (n_product e es) p h = no-int k _ i (and-left _ _ h)
    form-kind (n_compare a op b) p h = bool-lies k _ (and-left _ _ h)
    form-kind (n_and es) p h = bool-lies k _ (and-left _ _ h)
    form-kind (n_or es) p h = bool-lies k _ (and-left _ _ h)
    form-kind (n_implies a b) p h = bool-lies k _ (and-left _ _ (and-left _ _ h))
    form-kind (n_iff a b) p h = bool-lies k _ (and-left _ _ (and-left _ _ h))
    form-kind (n_if bs e) p h =
        let ps = both-pass (alg_passes (λ j. false)) (branch_names bs) (names_in e) p in
        cases-kind bs ps.0 (and-left _ _ h) _ (value-kind e ps.1 (and-right _ _ h))

    cases-kind : (bs : NetBranches) → list_all (alg_passes (λ j. false)) (branch_names bs) ≡ true → branches_fit n r k bs ≡ true → (y : ℤ) → Lies (kind_range k) y → Lies (kind_range k) (net_cases alg s z y bs)
    cases-kind no_net_branches p h y l = l
    cases-kind (net_branches c e bs) p h y l =
        let ps = both-pass (alg_passes (λ j. false)) (names_in c) (names_in e ++ branch_names bs) p in
        let qs = both-pass (alg_passes (λ j. false)) (names_in e) (branch_names bs) ps.1 in
        chosen (kind_range k) _ _ _ (value-kind e qs.0 (and-right _ _ (and-left _ _ h))) (cases-kind bs qs.1 (and-right _ _ h) y l)
