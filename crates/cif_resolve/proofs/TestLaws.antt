-- A name breaks a rule exactly where it does by numbers.
use Rattle.std.proofs.Common.{◌≡◌, ℕ, Bool, true, false, not, List, [], ◌∷◌, refl, sym, ap, subst, ◌∙◌, length, Option, Some, None}
use Rattle.cif_source.specs.Source.{DeclTree, type_decl, enum_decl, event_decl, const_decl, alg_decl, input_decl, disc_decl, equation_decl, invariant_decl, marked_decl, ParamTree, event_param, alg_param, location_param, Source}
use Rattle.cif_source.specs.Components.{Component, Entry, declared, literal, location, inner, definition, instance, parameter, as_written, scope_of, entry_named}
use Rattle.cif_source.specs.Lookup.{Reached, reached, missing, blocked, at_entry, found, looked_up, inside_written}
use Rattle.cif_source.specs.Uses.{Asked, event_asked, location_asked, type_asked, definition_asked, variable_asked, value_asked, any_asked, Use, is_asked, sought, definition_sought, OwnName, target, left_side, own_ident, is_own_asked}
use Rattle.cif_source.specs.Scoping.{is_missing, is_wrong}
use Rattle.cif_scope.specs.declared.scope.Sort.{Sort}
use Rattle.cif_scope.specs.declared.scope.Sort.TheVariants as sort
use Rattle.cif_scope.specs.declared.scope.What.{What}
use Rattle.cif_scope.specs.declared.scope.What.TheVariants as what
use Rattle.cif_scope.specs.declared.looked.Looked.{Looked}
use Rattle.cif_scope.specs.declared.looked.Looked.TheVariants.{At, Missing, Blocked}
use Rattle.cif_scope.specs.declared.scopes.Scopes.{Scopes}
use Rattle.cif_scope.specs.Tables.{IsBody, IsSort, IsWhat, param_sort}
use Rattle.cif_scope.specs.Looks.{what_at, slot_at, look}
use Rattle.cif_scope.specs.Scopes.{AreNumbered, IsEntry}
use Rattle.cif_resolve.specs.Tests.{sort_fits, fits, own_fits, unless_missing, definition_sought_by, sought_by, is_unknown, misfits, is_misfit, own_misfits, fault_of, used_fault, own_fault_at, own_fault}
use Rattle.cif_resolve.specs.Faults.{use_told, own_told}
use Rattle.cif_scope.proofs.LookLaws.{Agrees, Slotted, slot-is, what-is}
use Rattle.cif_scope.proofs.FindLaws.{what-of, written-is, found-is}

sort-fits : (a : Asked) (d : DeclTree) (s : Sort) → IsSort d s → sort_fits a s ≡ is_asked a (declared d)
sort-fits a (type_decl n ty) s h = ap (sort_fits a) h ∙ elim a as (λ b. sort_fits b sort.Type ≡ is_asked b (declared (type_decl n ty))) [ event_asked ↦ refl | location_asked ↦ refl | type_asked ↦ refl | definition_asked ↦ refl | variable_asked ↦ refl | value_asked ↦ refl | any_asked ↦ refl ]
sort-fits a (enum_decl n ls) s h = ap (sort_fits a) h ∙ elim a as (λ b. sort_fits b sort.Enum ≡ is_asked b (declared (enum_decl n ls))) [ event_asked ↦ refl | location_asked ↦ refl | type_asked ↦ refl | definition_asked ↦ refl | variable_asked ↦ refl | value_asked ↦ refl | any_asked ↦ refl ]
sort-fits a (event_decl k c n) s h = ap (sort_fits a) h ∙ elim a as (λ b. sort_fits b (sort.Event k) ≡ is_asked b (declared (event_decl k c n))) [ event_asked ↦ refl | location_asked ↦ refl | type_asked ↦ refl | definition_asked ↦ refl | variable_asked ↦ refl | value_asked ↦ refl | any_asked ↦ refl ]
sort-fits a (const_decl ty n e) s h = ap (sort_fits a) h ∙ elim a as (λ b. sort_fits b sort.Constant ≡ is_asked b (declared (const_decl ty n e))) [ event_asked ↦ refl | location_asked ↦ refl | type_asked ↦ refl | definition_asked ↦ refl | variable_asked ↦ refl | value_asked ↦ refl | any_asked ↦ refl ]
sort-fits a (alg_decl ty n e) s h = ap (sort_fits a) h ∙ elim a as (λ b. sort_fits b sort.Algebraic ≡ is_asked b (declared (alg_decl ty n e))) [ event_asked ↦ refl | location_asked ↦ refl | type_asked ↦ refl | definition_asked ↦ refl | variable_asked ↦ refl | value_asked ↦ refl | any_asked ↦ refl ]
sort-fits a (input_decl ty n) s h = ap (sort_fits a) h ∙ elim a as (λ b. sort_fits b sort.Input ≡ is_asked b (declared (input_decl ty n))) [ event_asked ↦ refl | location_asked ↦ refl | type_asked ↦ refl | definition_asked ↦ refl | variable_asked ↦ refl | value_asked ↦ refl | any_asked ↦ refl ]
sort-fits a (disc_decl ty n e) s h = ap (sort_fits a) h ∙ elim a as (λ b. sort_fits b sort.Discrete ≡ is_asked b (declared (disc_decl ty n e))) [ event_asked ↦ refl | location_asked ↦ refl | type_asked ↦ refl | definition_asked ↦ refl | variable_asked ↦ refl | value_asked ↦ refl | any_asked ↦ refl ]
sort-fits a (equation_decl q) s h = absurd h
sort-fits a (invariant_decl i) s h = absurd h
sort-fits a (marked_decl p) s h = absurd h

param-fits : (a : Asked) (k : ℕ) (p : ParamTree) → fits a (what.Parameter (param_sort p)) ≡ is_asked a (parameter k p)
param-fits a k (event_param c h n) = elim a as (λ b. fits b (what.Parameter (param_sort (event_param c h n))) ≡ is_asked b (parameter k (event_param c h n))) [ event_asked ↦ refl | location_asked ↦ refl | type_asked ↦ refl | definition_asked ↦ refl | variable_asked ↦ refl | value_asked ↦ refl | any_asked ↦ refl ]
param-fits a k (alg_param ty n) = elim a as (λ b. fits b (what.Parameter (param_sort (alg_param ty n))) ≡ is_asked b (parameter k (alg_param ty n))) [ event_asked ↦ refl | location_asked ↦ refl | type_asked ↦ refl | definition_asked ↦ refl | variable_asked ↦ refl | value_asked ↦ refl | any_asked ↦ refl ]
param-fits a k (location_param n) = elim a as (λ b. fits b (what.Parameter (param_sort (location_param n))) ≡ is_asked b (parameter k (location_param n))) [ event_asked ↦ refl | location_asked ↦ refl | type_asked ↦ refl | definition_asked ↦ refl | variable_asked ↦ refl | value_asked ↦ refl | any_asked ↦ refl ]

what-fits : (t : Source) (c : Component) (a : Asked) (e : Entry) (w : What) → IsWhat t c e w → fits a w ≡ is_asked a e
what-fits t c a (declared d) w h = ap (fits a) h.1 ∙ sort-fits a d h.0 h.2
what-fits t c a (literal k ls) w h = ap (fits a) h ∙ elim a as (λ b. fits b (what.Literal k) ≡ is_asked b (literal k ls)) [ event_asked ↦ refl | location_asked ↦ refl | type_asked ↦ refl | definition_asked ↦ refl | variable_asked ↦ refl | value_asked ↦ refl | any_asked ↦ refl ]
what-fits t c a (location k) w h = ap (fits a) h ∙ elim a as (λ b. fits b (what.Location k) ≡ is_asked b (location k)) [ event_asked ↦ refl | location_asked ↦ refl | type_asked ↦ refl | definition_asked ↦ refl | variable_asked ↦ refl | value_asked ↦ refl | any_asked ↦ refl ]
what-fits t c a (inner n b) w h = ap (fits a) h.1 ∙ elim a as (λ x. fits x (what.Component h.0) ≡ is_asked x (inner n b)) [ event_asked ↦ refl | location_asked ↦ refl | type_asked ↦ refl | definition_asked ↦ refl | variable_asked ↦ refl | value_asked ↦ refl | any_asked ↦ refl ]
what-fits t c a (definition n ps b) w h = ap (fits a) h.1 ∙ elim a as (λ x. fits x (what.Definition h.0 (length ps)) ≡ is_asked x (definition n ps b)) [ event_asked ↦ refl | location_asked ↦ refl | type_asked ↦ refl | definition_asked ↦ refl | variable_asked ↦ refl | value_asked ↦ refl | any_asked ↦ refl ]
what-fits t c a (instance i) w h = ap (fits a) h.1 ∙ elim a as (λ b. fits b (what.Instance h.0) ≡ is_asked b (instance i)) [ event_asked ↦ refl | location_asked ↦ refl | type_asked ↦ refl | definition_asked ↦ refl | variable_asked ↦ refl | value_asked ↦ refl | any_asked ↦ refl ]
what-fits t c a (parameter k p) w h = ap (fits a) h ∙ param-fits a k p

own-sort-fits : (n : OwnName) (d : DeclTree) (s : Sort) → IsSort d s → own_fits n (what.Declared s) ≡ is_own_asked n (declared d)
own-sort-fits n (type_decl m ty) s h = ap (λ r. own_fits n (what.Declared r)) h ∙ elim n as (λ b. own_fits b (what.Declared sort.Type) ≡ is_own_asked b (declared (type_decl m ty))) [ target i ↦ refl | left_side i ↦ refl ]
own-sort-fits n (enum_decl m ls) s h = ap (λ r. own_fits n (what.Declared r)) h ∙ elim n as (λ b. own_fits b (what.Declared sort.Enum) ≡ is_own_asked b (declared (enum_decl m ls))) [ target i ↦ refl | left_side i ↦ refl ]
own-sort-fits n (event_decl k c m) s h = ap (λ r. own_fits n (what.Declared r)) h ∙ elim n as (λ b. own_fits b (what.Declared (sort.Event k)) ≡ is_own_asked b (declared (event_decl k c m))) [ target i ↦ refl | left_side i ↦ refl ]
own-sort-fits n (const_decl ty m e) s h = ap (λ r. own_fits n (what.Declared r)) h ∙ elim n as (λ b. own_fits b (what.Declared sort.Constant) ≡ is_own_asked b (declared (const_decl ty m e))) [ target i ↦ refl | left_side i ↦ refl ]
own-sort-fits n (alg_decl ty m e) s h = ap (λ r. own_fits n (what.Declared r)) h ∙ elim n as (λ b. own_fits b (what.Declared sort.Algebraic) ≡ is_own_asked b (declared (alg_decl ty m e))) [ target i ↦ refl | left_side i ↦ refl ]
own-sort-fits n (input_decl ty m) s h = ap (λ r. own_fits n (what.Declared r)) h ∙ elim n as (λ b. own_fits b (what.Declared sort.Input) ≡ is_own_asked b (declared (input_decl ty m))) [ target i ↦ refl | left_side i ↦ refl ]
own-sort-fits n (disc_decl ty m e) s h = ap (λ r. own_fits n (what.Declared r)) h ∙ elim n as (λ b. own_fits b (what.Declared sort.Discrete) ≡ is_own_asked b (declared (disc_decl ty m e))) [ target i ↦ refl | left_side i ↦ refl ]
own-sort-fits n (equation_decl q) s h = absurd h
own-sort-fits n (invariant_decl i) s h = absurd h
own-sort-fits n (marked_decl p) s h = absurd h

own-fits : (t : Source) (c : Component) (n : OwnName) (e : Entry) (w : What) → IsWhat t c e w → own_fits n w ≡ is_own_asked n e
own-fits t c n (declared d) w h = ap (own_fits n) h.1 ∙ own-sort-fits n d h.0 h.2
own-fits t c n (literal k ls) w h = ap (own_fits n) h ∙ elim n as (λ b. own_fits b (what.Literal k) ≡ is_own_asked b (literal k ls)) [ target i ↦ refl | left_side i ↦ refl ]
own-fits t c n (location k) w h = ap (own_fits n) h ∙ elim n as (λ b. own_fits b (what.Location k) ≡ is_own_asked b (location k)) [ target i ↦ refl | left_side i ↦ refl ]
own-fits t c n (inner m b) w h = ap (own_fits n) h.1 ∙ elim n as (λ x. own_fits x (what.Component h.0) ≡ is_own_asked x (inner m b)) [ target i ↦ refl | left_side i ↦ refl ]
own-fits t c n (definition m ps b) w h = ap (own_fits n) h.1 ∙ elim n as (λ x. own_fits x (what.Definition h.0 (length ps)) ≡ is_own_asked x (definition m ps b)) [ target i ↦ refl | left_side i ↦ refl ]
own-fits t c n (instance j) w h = ap (own_fits n) h.1 ∙ elim n as (λ b. own_fits b (what.Instance h.0) ≡ is_own_asked b (instance j)) [ target i ↦ refl | left_side i ↦ refl ]
own-fits t c n (parameter k p) w h = ap (own_fits n) h ∙ elim n as (λ b. own_fits b (what.Parameter (param_sort p)) ≡ is_own_asked b (parameter k p)) [ target i ↦ refl | left_side i ↦ refl ]

module _ (t : Source) (s : Scopes) (are : AreNumbered t s) where
  unknown-is : (r : Reached) (l : Looked) → Agrees t r l → is_unknown l ≡ is_missing r
  unknown-is (reached (o, e)) (At k j) h = refl
  unknown-is (reached (o, e)) Missing h = absurd h
  unknown-is (reached (o, e)) Blocked h = absurd h
  unknown-is missing (At k j) h = absurd h
  unknown-is missing Missing h = refl
  unknown-is missing Blocked h = absurd h
  unknown-is blocked (At k j) h = absurd h
  unknown-is blocked Missing h = absurd h
  unknown-is blocked Blocked h = refl

  misfit-is : (a : Asked) (r : Reached) (l : Looked) → Agrees t r l → is_misfit s a l ≡ is_wrong (is_asked a) r
  misfit-is a (reached (o, e)) (At k j) h = let w = what-of t s.table are.table are.indexed k j o e h.0 h.1 in ap (misfits a) w.1 ∙ ap not (what-fits t (as_written o) a e w.0 w.2)
  misfit-is a (reached (o, e)) Missing h = absurd h
  misfit-is a (reached (o, e)) Blocked h = absurd h
  misfit-is a missing (At k j) h = absurd h
  misfit-is a missing Missing h = refl
  misfit-is a missing Blocked h = absurd h
  misfit-is a blocked (At k j) h = absurd h
  misfit-is a blocked Missing h = absurd h
  misfit-is a blocked Blocked h = refl

  unless-is : (r q : Reached) (l m : Looked) → Agrees t r l → Agrees t q m → Agrees t (elim r [ missing ↦ missing | _ ↦ q ]) (unless_missing l m)
  unless-is (reached (o, e)) q (At k j) m h g = g
  unless-is (reached (o, e)) q Missing m h g = absurd h
  unless-is (reached (o, e)) q Blocked m h g = absurd h
  unless-is missing q (At k j) m h g = absurd h
  unless-is missing q Missing m h g = tt
  unless-is missing q Blocked m h g = absurd h
  unless-is blocked q (At k j) m h g = absurd h
  unless-is blocked q Missing m h g = absurd h
  unless-is blocked q Blocked m h g = g

  module _ (c : Component) (k : ℕ) (own : IsBody t k c) where
    sought-is : (u : Use) → Agrees t (sought c u) (sought_by s k u)
    sought-is u =
        elim u.asks as (λ x. Agrees t (elim x [ definition_asked ↦ definition_sought c u.name | _ ↦ found c u.name ])
        (elim x [ definition_asked ↦ definition_sought_by s k u.name | _ ↦ look s.table s.definitions true k u.name ])) [
          | event_asked ↦ through
          | location_asked ↦ through
          | type_asked ↦ through
          | definition_asked ↦ unless-is (found c u.name) (looked_up inside_written c u.name) (look s.table s.definitions true k u.name) (look s.table s.definitions false k u.name) through (written-is t s.table are.table are.indexed s.definitions c k u.name own)
          | variable_asked ↦ through
          | value_asked ↦ through
          | any_asked ↦ through
        ]
      where
        through : Agrees t (found c u.name) (look s.table s.definitions true k u.name)
        through = found-is t s.table are.table are.indexed s.definitions are.definitions c k u.name own

    pub used-told : (u : Use) → used_fault s k u ≡ use_told c u
    used-told u =
        ap (λ b. fault_of u.name.at b (is_misfit s u.asks (sought_by s k u))) (unknown-is (sought c u) (sought_by s k u) (sought-is u))
        ∙ ap (fault_of u.name.at (is_missing (sought c u))) (misfit-is u.asks (sought c u) (sought_by s k u) (sought-is u))

    pub own-told : (n : OwnName) → own_fault s k n ≡ own_told c n
    own-told n = go (entry_named (own_ident n).text (scope_of c)) (slot_at s.table k (own_ident n).text) (slot-is t s.table are.table are.indexed k c (own_ident n).text own)
      where
        go : (o : Option Entry) (j : Option ℕ) → Slotted (scope_of c) o j → own_fault_at s k n j ≡ fault_of (own_ident n).at (is_missing (at_entry c o)) (is_wrong (is_own_asked n) (at_entry c o))
        go None None h = refl
        go (Some e) (Some j) h =
            let w = what-is t s.table are.table are.indexed k j c e own h in
            ap (λ o. fault_of (own_ident n).at false (own_misfits n o)) w.1 ∙ ap (λ b. fault_of (own_ident n).at false (not b)) (own-fits t c n e w.0 w.2)
        go None (Some j) h = absurd h
        go (Some e) None h = absurd h
