-- What is found through names of types, from the body that a component is written as, is the type of the net that the type of
-- the component becomes.
use Rattle.std.proofs.Common.{◌≡◌, ℕ, zero, suc, inl, inr, length, add-one, refl, sym, ap, ◌∙◌}
use Rattle.std.specs.Prelude.{slice_get, map, Result, Ok, Err, IfOk}
use Rattle.cif_base.specs.declared.memory.Memory.{Memory}
use Rattle.cif_base.specs.declared.types.Ty.TheVariants as net_ty
use Rattle.cif_ast.specs.declared.names.Ident.{Ident}
use Rattle.cif_system.specs.Words.{Member}
use Rattle.cif_source.specs.Source.{TypeTree, bool_type, int_type, range_type, named_type, type_decl, Source}
use Rattle.cif_source.specs.Components.{Component, as_written, Entry, Entries, declared}
use Rattle.cif_source.specs.Lookup.{ScopeEntry, Reached, reached, missing, blocked, found}
use Rattle.cif_source.specs.Objects.{declarations}
use Rattle.cif_source.specs.Constants.{types_of}
use Rattle.cif_scope.specs.declared.looked.Looked.{Looked}
use Rattle.cif_scope.specs.declared.looked.Looked.TheVariants.{At, Missing, Blocked}
use Rattle.cif_scope.specs.Tables.{IsBody}
use Rattle.cif_scope.specs.Scopes.{IsEntry}
use Rattle.cif_scope.proofs.BodyLaws.{scope-written}
use Rattle.cif_scope.proofs.LookLaws.{Agrees}
use Rattle.cif_inst_constants.specs.Slots.{row_of, decl_at}
use Rattle.cif_inst_constants.specs.Typed.{IsTyped}
use Rattle.cif_inst_constants.specs.declared.ranges.Types.{Types}
use Rattle.cif_inst_constants.proofs.FoundLaws.{Stands, found-stands, looks, agrees}
use Rattle.cif_inst_constants.proofs.RowLaws.{entry_slot, slot-is}
use Rattle.cif_inst_model.specs.Types.{NetType, plain_type, type_at, type_by, type_within, net_type}
use Rattle.cif_inst_bodies.specs.Entries.{IsOf}
use Rattle.cif_inst_bodies.proofs.Bodies.{written-root, components-written}
use Rattle.cif_inst_types.specs.declared.types.NetTy.{NetTy}
use Rattle.cif_inst_types.specs.declared.types.Leaf.{Leaf}
use Rattle.cif_inst_types.specs.Leaves.{leaf_view, no_type, decl_step, found_step, type_step, on_step, type_in}
use Rattle.cif_inst_types.specs.Types.{net_type_of}
use Rattle.cif_inst_types.proofs.ConstantLaws.{IsAt, value-in, declared-type, bound-constant}

-- the declaration in the slot of an entry of a component
pub entry-slot : (t : Source) (x : Types) (turns : ℕ) → IsTyped t x turns → (k j : ℕ) (c : Component) (e : Entry) → IsBody t k (as_written c) → (at : IsEntry c e j) → decl_at (map row_of x.rows.now) k j ≡ entry_slot (at.0, e)
entry-slot t x turns h k j c e own at = ap (λ rows. decl_at rows k j) h.rows ∙ slot-is t k j (as_written c) at.0 e own (ap (λ (es : Entries). slice_get es j) (scope-written c) ∙ at.1)

module _ (t : Source) (x : Types) (turns : ℕ) (h : IsTyped t x turns) where
  -- what the rest of the way gives, is the rest of the type
  abbrev Agree : (ℕ → TypeTree → NetType) → (Component → TypeTree → NetType) → Type 0
  Agree go more = (k : ℕ) (c : Component) → IsAt t k c → (ty : TypeTree) → Member ty (types_of c) → go k ty ≡ more c ty

  module _ (go : ℕ → TypeTree → NetType) (more : Component → TypeTree → NetType) (same : Agree go more) where
    entry-type : (k : ℕ) (n : Ident) (c : Component) (e : Entry) → IsAt t k c → IsOf c e → on_step go (decl_step k (entry_slot (n, e))) ≡ type_at more (reached (c, e))
    entry-type k n c (declared (type_decl m ty)) at is = same k c at ty (declared-type c (type_decl m ty) ty is (inl refl))
    entry-type k n c e at is = refl

    found-type : (r : Reached) (l : Looked) → ((y : ScopeEntry) → r ≡ reached y → Stands t y) → Agrees t r l → on_step go (found_step (map row_of x.rows.now) l) ≡ type_at more r
    found-type (reached (c, e)) (At k j) stands a =
        ap (λ o. on_step go (decl_step k o)) (entry-slot t x turns h k j c e a.0 a.1)
        ∙ entry-type k a.1.0 c e ((stands (c, e) refl).0, a.0) (stands (c, e) refl).1
    found-type (reached y) Missing stands a = absurd a
    found-type (reached y) Blocked stands a = absurd a
    found-type missing (At k j) stands a = absurd a
    found-type missing Missing stands a = refl
    found-type missing Blocked stands a = absurd a
    found-type blocked (At k j) stands a = absurd a
    found-type blocked Missing stands a = absurd a
    found-type blocked Blocked stands a = refl

    one-step : Agree (λ k ty. on_step go (type_step x k ty)) (type_by more)
    one-step k c at bool_type m = refl
    one-step k c at int_type m = refl
    one-step k c at (range_type l u) m = λ i.
        plain_type (net_ty.Int (value-in t x turns h k c at l (bound-constant c l u l m (inl refl)) i) (value-in t x turns h k c at u (bound-constant c l u u m (inr (inl refl))) i))
    one-step k c at (named_type nm) m = found-type (found c nm) (looks t x.scopes.now h.numbers k nm) (found-stands t h.few c at.0 nm) (agrees t x.scopes.now h.numbers k c at.1 nm)

  walked-is : (n : ℕ) → Agree (type_in x (suc n)) (type_within n)
  walked-is zero k c at ty m = one-step (type_in x zero) (λ d u. no_type) (λ i d o u g. refl) k c at ty m
  walked-is (suc n) k c at ty m = one-step (type_in x (suc n)) (type_within n) (walked-is n) k c at ty m

  pub type-is : (k : ℕ) (c : Component) → IsAt t k c → (ty : TypeTree) → Member ty (types_of c) → type_in x turns k ty ≡ net_type c ty
  type-is k c at ty m =
      ap (λ n. type_in x n k ty) (h.counted ∙ add-one (length (declarations t)))
      ∙ walked-is (length (declarations t)) k c at ty m
      ∙ ap (λ u. type_within (length (declarations u)) c ty) (sym (written-root t c (components-written t c at.0)))

  pub type-told : (k : ℕ) (c : Component) (u : TypeTree) (r : Result NetTy Memory) (l : Leaf) → IsAt t k c → Member u (types_of c)
      → leaf_view l ≡ type_in x turns k u → IfOk r (λ y. net_type_of y ≡ leaf_view l) → IfOk r (λ y. net_type_of y ≡ net_type c u)
  type-told k c u (Ok y) l at m e g = g ∙ e ∙ type-is k c at u m
  type-told k c u (Err y) l at m e g = tt
