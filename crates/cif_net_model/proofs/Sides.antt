-- What the kinds of an expression say of its operands.
use Rattle.std.proofs.Common.{◌≡◌, ℤ, Bool, true, false, ◌&&◌, ◌||◌, List, [], ◌∷◌, refl, sym, if◌then◌else◌}
use Rattle.std.specs.Prelude.{Option}
use Rattle.std.specs.List.{list_any}
use Rattle.cif_base.specs.declared.types.Ty.{Ty}
use Rattle.cif_net_expr.specs.Tree.{CmpOp, eq, ne, lt, le, gt, ge, NetExpr, n_compare}
use Rattle.cif_net_model.specs.Net.{Net}
use Rattle.cif_net_model.specs.Kinds.{Kind, bool_kind, int_kind, enum_kind, in_32_bits, is_bool, is_equality, number_fits, kinds_in, fits, form_fits}
use Rattle.cif_net_model.proofs.Passing.{and-left, and-right}
use Rattle.cif_net_model.proofs.PlainLaws.{never}

any-holds : {A : Type 0} (p : A → Bool) (xs : List A) → list_any p xs ≡ true → (y : A) × (p y ≡ true)
any-holds p [] h = never h
any-holds p (y ∷ ys) h = by (p y) refl (any-holds p ys) h
  where
    by : (b : Bool) → p y ≡ b → (list_any p ys ≡ true → (z : _) × (p z ≡ true)) → (b || list_any p ys) ≡ true → (z : _) × (p z ≡ true)
    by true e go k = (y, e)
    by false e go k = go k

-- both sides of a comparison have one kind, which is no boolean one where their order is asked
pub record OneKind (n : Net) (r : Option Ty) (op : CmpOp) (a b : NetExpr) : Type 0 where
  pub kind : Kind
  pub left : fits n r kind a ≡ true
  pub right : fits n r kind b ≡ true
  pub ordered : is_equality op ≡ false → is_bool kind ≡ false

kinds-fit : (n : Net) (r : Option Ty) (op : CmpOp) (a b : NetExpr) → (if is_equality op then list_any (λ q. fits n r q a && fits n r q b) (kinds_in n) else fits n r int_kind a && fits n r int_kind b) ≡ true
    → OneKind n r op a b
kinds-fit n r eq a b h = let w = any-holds (λ q. fits n r q a && fits n r q b) (kinds_in n) h in record { kind = w.0; left = and-left _ _ w.1; right = and-right _ _ w.1; ordered = λ e. never (sym e) }
kinds-fit n r ne a b h = let w = any-holds (λ q. fits n r q a && fits n r q b) (kinds_in n) h in record { kind = w.0; left = and-left _ _ w.1; right = and-right _ _ w.1; ordered = λ e. never (sym e) }
kinds-fit n r lt a b h = record { kind = int_kind; left = and-left _ _ h; right = and-right _ _ h; ordered = λ e. refl }
kinds-fit n r le a b h = record { kind = int_kind; left = and-left _ _ h; right = and-right _ _ h; ordered = λ e. refl }
kinds-fit n r gt a b h = record { kind = int_kind; left = and-left _ _ h; right = and-right _ _ h; ordered = λ e. refl }
kinds-fit n r ge a b h = record { kind = int_kind; left = and-left _ _ h; right = and-right _ _ h; ordered = λ e. refl }

pub sides-fit : (n : Net) (r : Option Ty) (k : Kind) (op : CmpOp) (a b : NetExpr) → form_fits n r k (n_compare a op b) ≡ true → OneKind n r op a b
sides-fit n r k op a b h = kinds-fit n r op a b (and-right _ _ h)

pub number-small : (k : Kind) (z : ℤ) → number_fits k z ≡ true → in_32_bits z ≡ true
number-small bool_kind z h = never h
number-small int_kind z h = h
number-small (enum_kind ls) z h = and-left _ _ (and-left _ _ h)
