-- The bodies that are marked are those of components as they are written.
use Rattle.std.proofs.Common.{◌≡◌, ℕ, zero, suc, ◌+◌, Bool, true, false, inl, inr, List, [], ◌∷◌, Option, Some, None, refl, sym, ap, subst, ◌∙◌, arith}
use Rattle.std.specs.Prelude.{slice_get}
use Rattle.cif_system.specs.Words.{Member}
use Rattle.cif_system.proofs.Lists.{some-same, none-some}
use Rattle.cif_system.proofs.Picks.{append-left, append-right}
use Rattle.cif_system.proofs.Distinct.{member-append}
use Rattle.cif_source.specs.Source.{Source}
use Rattle.cif_source.specs.Components.{Component, as_written, body_of, params_of}
use Rattle.cif_source.specs.Objects.{components_of, bodies}
use Rattle.cif_scope.specs.declared.scopes.Scopes.{Scopes}
use Rattle.cif_scope.specs.Tables.{IsBody, Beside}
use Rattle.cif_scope.specs.Written.{WrittenBody, written_bodies}
use Rattle.cif_scope.proofs.Places.{Sits, sits-head, sits-tail, sits-whole, beside-at}
use Rattle.cif_scope.proofs.DefinitionLaws.{IsWritten, bodies-written}
use Rattle.cif_inst_bodies.proofs.Alike.{body-written, params-written}
use Rattle.cif_types_constancy.proofs.Firsts.{or-told, or-none}
use Rattle.cif_resolve_cycles.proofs.Graphs.{member-at}
use Rattle.cif_inst_constants.specs.Used.{NumberedBody, first_in, is_used, if_used, used_from}
use Rattle.cif_inst_constants.proofs.UsedLaws.{IsMarked, marked-component}

-- ---- the first fault

pub first-told : (fault : NumberedBody → Option ℕ) (bs : List NumberedBody) (at : ℕ) → first_in fault bs ≡ Some at → (b : NumberedBody) × Member b bs × (fault b ≡ Some at)
first-told fault [] at h = absurd (none-some at h)
first-told fault (b ∷ bs) at h = elim (or-told (fault b) (first_in fault bs) at h) [
  | inl g ↦ (b, inl refl, g)
  | inr g ↦ let w = first-told fault bs at g in (w.0, inr w.1, w.2)
]

pub first-none : (fault : NumberedBody → Option ℕ) (bs : List NumberedBody) (b : NumberedBody) → first_in fault bs ≡ None → Member b bs → fault b ≡ None
first-none fault [] b h m = absurd m
first-none fault (d ∷ bs) b h m =
    let w = or-none (fault d) (first_in fault bs) h in
    elim m [ inl e ↦ ap fault e ∙ w.0 | inr g ↦ first-none fault bs b w.1 g ]

-- ---- the body of a component

pub record IsOwn (t : Source) (b : NumberedBody) : Type 0 where
  pub component : Component
  pub listed : Member component (components_of t)
  pub own : IsBody t b.number (as_written component)
  pub params : params_of component ≡ b.written.params
  pub body : body_of component ≡ b.written.body

if-own : (b : NumberedBody) (x : Bool) (k : ℕ) (w : WrittenBody) → Member b (if_used x k w) → (x ≡ true) × (b ≡ record { number = k; written = w })
if-own b true k w m = elim m [ inl e ↦ (refl, e) | inr g ↦ absurd g ]
if-own b false k w m = absurd m

own-if : (x : Bool) (k : ℕ) (w : WrittenBody) → x ≡ true → Member (record { number = k; written = w }) (if_used x k w)
own-if true k w h = inl refl
own-if false k w h = cc

module _ (t : Source) (used : List Bool) where
  -- a marked body, as it is written
  abbrev IsMarkedBody : NumberedBody → Type 0
  IsMarkedBody b = (d : Component) × IsBody t b.number d × IsWritten d b.written × (is_used used b.number ≡ true)

  own-in : (cs : List Component) (ws : List WrittenBody) (k : ℕ) (b : NumberedBody) → Beside IsWritten cs ws → Sits (bodies t) k cs → Member b (used_from used k ws) → IsMarkedBody b
  own-in [] [] k b h g m = absurd m
  own-in [] (w ∷ ws) k b h g m = absurd h
  own-in (c ∷ cs) [] k b h g m = absurd h
  own-in (c ∷ cs) (w ∷ ws) k b h g m = elim (member-append b (if_used (is_used used k) k w) (used_from used (k + 1) ws) m) [
    | inl i ↦ let e = if-own b (is_used used k) k w i in subst IsMarkedBody (sym e.1) (c, sits-head (bodies t) k c cs g, h.0, e.0)
    | inr i ↦ own-in cs ws (k + 1) b h.1 (sits-tail (bodies t) k c cs g) i
  ]

  in-own : (ws : List WrittenBody) (k j i : ℕ) (w : WrittenBody) → i ≡ k + j → slice_get ws j ≡ Some w → is_used used i ≡ true → Member (record { number = i; written = w }) (used_from used k ws)
  in-own [] k j i w e h g = absurd (none-some w h)
  in-own (v ∷ ws) k zero i w e h g =
      let same : k ≡ i = omega arith in
      append-left (record { number = i; written = w }) (if_used (is_used used k) k v) (used_from used (k + 1) ws)
      (subst (λ (x : NumberedBody). Member x (if_used (is_used used k) k v)) (λ q. record { number = same q; written = some-same v w h q }) (own-if (is_used used k) k v (ap (is_used used) same ∙ g)))
  in-own (v ∷ ws) k (suc j) i w e h g =
      let next : i ≡ (k + 1) + j = omega arith in
      append-right (record { number = i; written = w }) (if_used (is_used used k) k v) (used_from used (k + 1) ws) (in-own ws (k + 1) j i w next h g)

module _ (t : Source) (s : Scopes) (used : List Bool) (are : IsMarked t s used) where
  abbrev own_bodies : List NumberedBody
  own_bodies = used_from used 0 (written_bodies t)

  pub own-component : (b : NumberedBody) → Member b own_bodies → IsOwn t b
  own-component b m =
      let d = own-in t used (bodies t) (written_bodies t) 0 b (bodies-written t) (sits-whole (bodies t)) m in
      let c = marked-component t s used are b.number d.3 in
      let same : as_written c.0 ≡ d.0 = some-same (as_written c.0) d.0 (sym c.2 ∙ d.1) in
      record {
        component = c.0;
        listed = c.1;
        own = c.2;
        params = sym (params-written c.0) ∙ ap params_of same ∙ d.2.0;
        body = sym (body-written c.0) ∙ ap body_of same ∙ d.2.1;
      }

  -- a component with its body, which is marked
  pub component-own : (c : Component) → Member c (components_of t) → (b : NumberedBody) × Member b own_bodies × IsBody t b.number (as_written c) × (params_of c ≡ b.written.params) × (body_of c ≡ b.written.body)
  component-own c listed =
      let at = member-at (components_of t) c listed in
      let k = beside-at (λ (d : Component) (i : ℕ). IsBody t i (as_written d)) (components_of t) are.own at.0 c are.beside at.1 in
      let w = beside-at IsWritten (bodies t) (written_bodies t) k.0 (as_written c) (bodies-written t) k.2 in
      let whole : k.0 ≡ 0 + k.0 = omega arith in (
        record { number = k.0; written = w.0 },
        in-own t used (written_bodies t) 0 k.0 k.0 w.0 whole w.1 (are.each k.0 c listed k.2),
        k.2,
        sym (params-written c) ∙ w.2.0,
        sym (body-written c) ∙ w.2.1,
      )
