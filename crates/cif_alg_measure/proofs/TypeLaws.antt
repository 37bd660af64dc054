-- The ranges of types of a net are those that are declared.
use Rattle.std.proofs.Common.{◌≡◌, ℕ, zero, suc, pos, ◌-ℤ◌, true, List, [], ◌∷◌, map, Some, None, slice_get, refl, ap, if◌then◌else◌, int_le, nat_lt, arith}
use Rattle.std.specs.List.{list_all}
use Rattle.std.proofs.lemmas.Int.{ints}
use Rattle.std.proofs.lemmas.Bool.Decides.{nat_tests}
use Rattle.cif_base.specs.Bounds as bounds
use Rattle.cif_base.specs.declared.types.Ty.{Ty}
use Rattle.cif_base.specs.declared.types.Ty.TheVariants as ty
use Rattle.cif_system.proofs.Picks.{at-member}
use Rattle.cif_net_model.specs.Net.{NetChan, no_net_chan, void_net_chan, net_chan_of, NetEdge, NetStored, Net}
use Rattle.cif_net_model.specs.Meaning.{type_range}
use Rattle.cif_net_model.specs.Interval.{as_range, stored_range}
use Rattle.cif_net_model.specs.Facts.{is_type, event_stands, stored_stands, channel_of, is_net}
use Rattle.cif_net_model.specs.Shown.{channel_range}
use Rattle.cif_net_model.proofs.Passing.{and-left, and-right, all-member}
use Rattle.cif_net.specs.declared.data.Input.{Input}
use Rattle.cif_net.specs.declared.data.Var.{Var}
use Rattle.cif_net.specs.View.{var_tree, input_tree}
use Rattle.cif_alg_measure.specs.Meanings.{table_range}
use Rattle.cif_alg_measure.specs.TypeBounds.{type_bounds, channel_bounds, received_bounds}

some_number : (size : ℕ) → nat_lt 0 size ≡ true → int_le (pos 0) (pos size -ℤ pos 1) ≡ true
some_number size h = grind (arith, ints, nat_tests)

type-is : (t : Ty) → is_type t ≡ true → as_range (type_bounds t) ≡ type_range t
type-is ty.Bool h = refl
type-is (ty.Int lo hi) h = ap (λ b. as_range (if b then bounds.between lo hi else bounds.between (pos 0) (pos 0))) (and-right _ _ h)
type-is (ty.Enum size) h = ap (λ b. as_range (if b then bounds.between (pos 0) (pos size -ℤ pos 1) else bounds.between (pos 0) (pos 0))) (some_number size h)

-- ---- what a net stores

stored-type : (v : NetStored) → stored_stands v ≡ true → as_range (type_bounds v.type_of) ≡ type_range v.type_of
stored-type v h = type-is v.type_of (and-left _ _ (and-left _ _ h))

pub vars-are : (vs : List Var) → list_all stored_stands (map var_tree vs) ≡ true → (k : ℕ) → table_range (map (λ (v : Var). type_bounds v.ty) vs) k ≡ stored_range (slice_get (map var_tree vs) k)
vars-are [] h k = refl
vars-are (v ∷ vs) h zero = stored-type (var_tree v) (and-left _ _ h)
vars-are (v ∷ vs) h (suc k) = vars-are vs (and-right _ _ h) k

pub inputs-are : (vs : List Input) → list_all stored_stands (map input_tree vs) ≡ true → (k : ℕ) → table_range (map (λ (v : Input). type_bounds v.ty) vs) k ≡ stored_range (slice_get (map input_tree vs) k)
inputs-are [] h k = refl
inputs-are (v ∷ vs) h zero = stored-type (input_tree v) (and-left _ _ h)
inputs-are (v ∷ vs) h (suc k) = inputs-are vs (and-right _ _ h) k

module _ (n : Net) (net : is_net n ≡ true) where
  pub vars-stand : list_all stored_stands n.vars ≡ true
  vars-stand = and-right _ _ (and-left _ _ (and-left _ _ (and-left _ _ (and-left _ _ (and-left _ _ net)))))

  pub inputs-stand : list_all stored_stands n.inputs ≡ true
  inputs-stand = and-right _ _ (and-left _ _ (and-left _ _ (and-left _ _ (and-left _ _ (and-left _ _ (and-left _ _ net))))))

  events-stand : list_all event_stands n.events ≡ true
  events-stand = and-right _ _ (and-left _ _ (and-left _ _ (and-left _ _ (and-left _ _ (and-left _ _ (and-left _ _ (and-left _ _ net)))))))

  -- ---- what an edge receives

  chan-is : (c : NetChan) → elim c [ net_chan_of t ↦ is_type t | _ ↦ true ] ≡ true → as_range (channel_bounds c) ≡ channel_range c
  chan-is no_net_chan h = refl
  chan-is void_net_chan h = refl
  chan-is (net_chan_of t) h = type-is t h

  pub received-is : (x : NetEdge) → as_range (received_bounds n.events x) ≡ channel_range (channel_of n x.event)
  received-is x =
      elim (slice_get n.events x.event) as (λ o. slice_get n.events x.event ≡ o
      → as_range (elim o [ None ↦ channel_bounds no_net_chan | Some e ↦ channel_bounds e.chan ]) ≡ channel_range (elim o [ None ↦ no_net_chan | Some e ↦ e.chan ])) [
        | None ↦ λ s. refl
        | Some e ↦ λ s. chan-is e.chan (all-member event_stands n.events e events-stand (at-member n.events x.event e s))
      ] refl
