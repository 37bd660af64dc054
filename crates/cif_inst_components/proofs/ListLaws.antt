-- The components that are listed are those of the source, in their order.
use Rattle.std.proofs.Common.{◌≡◌, ℕ, zero, suc, ◌+◌, List, [], ◌∷◌, length, refl, sym, subst, arith, Option, Some, None}
use Rattle.std.specs.Prelude.{flat_map, slice_get}
use Rattle.cif_source.specs.Source.{Source}
use Rattle.cif_source.specs.Components as source
use Rattle.cif_source.specs.Components.{whole, as_written}
use Rattle.cif_source.specs.Objects.{children, components_below, components_of, most_objects}
use Rattle.cif_scope.specs.declared.scopes.Scopes.{Scopes}
use Rattle.cif_scope.specs.Tables.{IsBody, Beside}
use Rattle.cif_scope.specs.Scopes.{AreNumbered}
use Rattle.cif_scope.proofs.Places.{beside-append, beside-length, sits-left, sits-right, sits-head, sits-tail, sits-whole}
use Rattle.cif_inst_components.specs.declared.components.Component.{Component}
use Rattle.cif_inst_components.specs.declared.components.Place.{Place}
use Rattle.cif_inst_components.specs.declared.kids.Kid.{Kid}
use Rattle.cif_inst_components.specs.Kids.{all_kids, kids_in}
use Rattle.cif_inst_components.specs.Listing.{place, chain, below, listed}
use Rattle.cif_inst_components.specs.Numbers.{IsNumber, StandsAt, IsComponent}
use Rattle.cif_inst_components.proofs.KidLaws.{IsKid, kids-beside}

module _ (t : Source) (s : Scopes) (are : AreNumbered t s) where
  -- the components stand in the list of all from number k on
  abbrev From : ℕ → List source.Component → Type 0
  From k cs = (j : ℕ) (c : source.Component) → slice_get cs j ≡ Some c → IsNumber t (k + j) c

  -- what is listed for a component, whose number, body and place are known, is right
  abbrev Lists : ℕ → Type 0
  Lists n = (c : source.Component) (at b : ℕ) (p : Option Place) → IsBody t b (as_written c) → StandsAt t c p → From at (components_below n c)
      → Beside (IsComponent t) (components_below n c) (below (all_kids s) n at p b)

  chain-lists : (n : ℕ) (lists : Lists n) (c : source.Component) (parent : ℕ) → IsNumber t parent c → (ds : List source.Component) (ks : List Kid) (at : ℕ) → Beside (IsKid t s are c) ds ks
      → From at (flat_map (components_below n) ds) → Beside (IsComponent t) (flat_map (components_below n) ds) (chain (below (all_kids s) n) at parent ks)
  chain-lists n lists c parent own [] [] at h f = tt
  chain-lists n lists c parent own [] (k ∷ ks) at h f = absurd h
  chain-lists n lists c parent own (d ∷ ds) [] at h f = absurd h
  chain-lists n lists c parent own (d ∷ ds) (k ∷ ks) at h f =
      let here : List Component = below (all_kids s) n at (Some (place parent k.slot)) k.body in
      let first : Beside (IsComponent t) (components_below n d) here =
      lists d at k.body (Some (place parent k.slot)) h.0.body (h.0.stands parent own) (sits-left (components_of t) at (components_below n d) (flat_map (components_below n) ds) f) in
      let long : length (components_below n d) ≡ length here = sym (beside-length (IsComponent t) (components_below n d) here first) in
      beside-append (IsComponent t) (components_below n d) (flat_map (components_below n) ds) here (chain (below (all_kids s) n) (at + length here) parent ks) first
      (chain-lists n lists c parent own ds ks (at + length here) h.1 (sits-right (components_of t) at (length here) (components_below n d) (flat_map (components_below n) ds) long f))

  lists : (n : ℕ) → Lists n
  lists zero c at b p own stands f = (record { body = own; stands = stands }, tt)
  lists (suc n) c at b p own stands f =
      let number : IsNumber t at c = sits-head (components_of t) at c (flat_map (components_below n) (children c)) f in
      let e : at + 1 ≡ suc at = omega arith in (
        record { body = own; stands = stands },
        chain-lists n (lists n) c at number (children c) (kids_in (all_kids s) b) (suc at) (kids-beside t s are c b own)
            (subst (λ k. From k (flat_map (components_below n) (children c))) e (sits-tail (components_of t) at c (flat_map (components_below n) (children c)) f)),
      )

  -- the list is that of the components
  pub all-is : Beside (IsComponent t) (components_of t) (listed (all_kids s))
  unfolding listed
  all-is = lists most_objects (whole t) 0 0 None refl refl (sits-whole (components_of t))
