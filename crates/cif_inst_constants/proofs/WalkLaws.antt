-- What is found through names of types is the range of the type.
use Rattle.std.proofs.Common.{◌≡◌, ℕ, zero, suc, ◌≤◌, ℤ, pos, Bool, true, false, List, length, inl, refl, sym, ap, ◌∙◌}
use Rattle.std.specs.Prelude.{slice_get, flat_map, unwrap_or}
use Rattle.cif_system.specs.Words.{Member}
use Rattle.cif_system.specs.System.{Range}
use Rattle.cif_system.proofs.Picks.{append-right, flat_map-member}
use Rattle.cif_ast.specs.Tree.{Tree}
use Rattle.cif_ast.specs.declared.names.Ident.{Ident}
use Rattle.cif_source.specs.Source.{TypeTree, bool_type, int_type, range_type, named_type, type_decl, enum_decl, event_decl, const_decl, alg_decl, input_decl, disc_decl, equation_decl, invariant_decl, marked_decl, Source}
use Rattle.cif_source.specs.Components.{Component, as_written, specification_of, params_of, Entry, declared, literal, location, inner, definition, instance, parameter}
use Rattle.cif_source.specs.Lookup.{ScopeEntry, Reached, reached, missing, blocked, found}
use Rattle.cif_source.specs.Objects.{components_of, most_objects, decls_of, declarations}
use Rattle.cif_source.specs.Value.{constant}
use Rattle.cif_source.specs.Types.{from_to, range_at, range_by, range_within, range_of}
use Rattle.cif_source.specs.Constants.{param_types, decl_types, types_of}
use Rattle.cif_source.specs.InstanceRules.{is_faulty}
use Rattle.cif_scope.specs.declared.looked.Looked.{Looked}
use Rattle.cif_scope.specs.declared.looked.Looked.TheVariants.{At, Missing, Blocked}
use Rattle.cif_scope.specs.declared.scopes.Scopes.{Scopes}
use Rattle.cif_scope.specs.Tables.{IsBody}
use Rattle.cif_scope.specs.Scopes.{AreNumbered, IsEntry}
use Rattle.cif_scope.proofs.BodyLaws.{body-root, scope-written, root-written}
use Rattle.cif_scope.proofs.LookLaws.{Agrees}
use Rattle.cif_inst_bodies.specs.Constancy.{HasConstantNames}
use Rattle.cif_inst_constants.specs.Outcomes.{unless_faulty}
use Rattle.cif_inst_constants.specs.Constants.{HasValues}
use Rattle.cif_inst_constants.proofs.FoundLaws.{Stands, found-stands, agrees, looks}
use Rattle.cif_inst_constants.proofs.ValueLaws.{value-is}
use Rattle.cif_inst_constants.specs.Walked.{bound, decl_step, found_step, type_step, on_step, walked}
use Rattle.cif_inst_constants.proofs.RowLaws.{all_rows, entry_slot, slot-is}

-- the type for which a name is declared is one of the types of its component
named-type : (c : Component) (n : Ident) (ty : TypeTree) → Member (type_decl n ty) (decls_of c) → Member ty (types_of c)
named-type c n ty m = append-right ty (flat_map param_types (params_of c)) (flat_map decl_types (decls_of c)) (flat_map-member decl_types (type_decl n ty) (decls_of c) ty m (inl refl))

-- the bounds of a type are constant, and have values
abbrev pub IsSoundBound : Component → Tree → Type 0
IsSoundBound c e = HasConstantNames c e × (is_faulty (constant c) e ≡ false)

abbrev pub IsSound : Component → TypeTree → Type 0
IsSound c (range_type l u) = IsSoundBound c l × IsSoundBound c u
IsSound c bool_type = Unit {0}
IsSound c int_type = Unit {0}
IsSound c (named_type nm) = Unit {0}

unless-sound : (b : Bool) (z : ℤ) → b ≡ false → unwrap_or (unless_faulty b z) (pos 0) ≡ z
unless-sound true z h = cc
unless-sound false z h = refl

module _ (t : Source) (s : Scopes) (ns : List (List ℕ)) (vs : List ℤ) (are : AreNumbered t s) (few : length (components_of t) ≤ most_objects) (values : HasValues t s ns vs)
    (sound : (c : Component) → Member c (components_of t) → (ty : TypeTree) → Member ty (types_of c) → IsSound c ty) where
  abbrev walk : ℕ → ℕ → TypeTree → Range
  walk n k ty = walked s ns vs (all_rows t) n k ty

  bound-is : (k : ℕ) (c : Component) (e : Tree) → Member c (components_of t) → IsBody t k (as_written c) → IsSoundBound c e → bound s ns vs k e ≡ constant c e
  bound-is k c e listed own h = ap (λ o. unwrap_or o (pos 0)) (value-is t s ns vs k c e values listed own h.0) ∙ unless-sound (is_faulty (constant c) e) (constant c e) h.1

  -- what the rest of the way gives, is the rest of the range
  abbrev Agree : (ℕ → TypeTree → Range) → (Component → TypeTree → Range) → Type 0
  Agree go more = (k : ℕ) (c : Component) → Member c (components_of t) → IsBody t k (as_written c) → (ty : TypeTree) → IsSound c ty → go k ty ≡ more c ty

  slot-step : (go : ℕ → TypeTree → Range) (k j : ℕ) (d : Component) (e : Entry) → IsBody t k (as_written d) → (at : IsEntry d e j) → on_step go (found_step (all_rows t) (At k j)) ≡ on_step go (decl_step k (entry_slot (at.0, e)))
  slot-step go k j d e own at = ap (λ x. on_step go (decl_step k x)) (slot-is t k j (as_written d) at.0 e own (ap (λ es. slice_get es j) (scope-written d) ∙ at.1))

  found-range : (go : ℕ → TypeTree → Range) (more : Component → TypeTree → Range) → Agree go more → (r : Reached) (l : Looked) → ((x : ScopeEntry) → r ≡ reached x → Stands t x) → Agrees t r l → on_step go (found_step (all_rows t) l) ≡ range_at more r
  found-range go more same (reached (d, declared (type_decl n ty))) (At k j) stands h =
      let here = stands (d, declared (type_decl n ty)) refl in
      slot-step go k j d (declared (type_decl n ty)) h.0 h.1 ∙ same k d here.0 h.0 ty (sound d here.0 ty (named-type d n ty here.1))
  found-range go more same (reached (d, declared (enum_decl n ls))) (At k j) stands h = slot-step go k j d (declared (enum_decl n ls)) h.0 h.1
  found-range go more same (reached (d, declared (event_decl c x n))) (At k j) stands h = slot-step go k j d (declared (event_decl c x n)) h.0 h.1
  found-range go more same (reached (d, declared (const_decl ty n e))) (At k j) stands h = slot-step go k j d (declared (const_decl ty n e)) h.0 h.1
  found-range go more same (reached (d, declared (alg_decl ty n e))) (At k j) stands h = slot-step go k j d (declared (alg_decl ty n e)) h.0 h.1
  found-range go more same (reached (d, declared (input_decl ty n))) (At k j) stands h = slot-step go k j d (declared (input_decl ty n)) h.0 h.1
  found-range go more same (reached (d, declared (disc_decl ty n e))) (At k j) stands h = slot-step go k j d (declared (disc_decl ty n e)) h.0 h.1
  found-range go more same (reached (d, declared (equation_decl q))) (At k j) stands h = slot-step go k j d (declared (equation_decl q)) h.0 h.1
  found-range go more same (reached (d, declared (invariant_decl i))) (At k j) stands h = slot-step go k j d (declared (invariant_decl i)) h.0 h.1
  found-range go more same (reached (d, declared (marked_decl p))) (At k j) stands h = slot-step go k j d (declared (marked_decl p)) h.0 h.1
  found-range go more same (reached (d, literal i ls)) (At k j) stands h = slot-step go k j d (literal i ls) h.0 h.1
  found-range go more same (reached (d, location i)) (At k j) stands h = slot-step go k j d (location i) h.0 h.1
  found-range go more same (reached (d, inner n b)) (At k j) stands h = slot-step go k j d (inner n b) h.0 h.1
  found-range go more same (reached (d, definition n ps b)) (At k j) stands h = slot-step go k j d (definition n ps b) h.0 h.1
  found-range go more same (reached (d, instance i)) (At k j) stands h = slot-step go k j d (instance i) h.0 h.1
  found-range go more same (reached (d, parameter i p)) (At k j) stands h = slot-step go k j d (parameter i p) h.0 h.1
  found-range go more same (reached (d, x)) Missing stands h = absurd h
  found-range go more same (reached (d, x)) Blocked stands h = absurd h
  found-range go more same missing (At k j) stands h = absurd h
  found-range go more same missing Missing stands h = refl
  found-range go more same missing Blocked stands h = absurd h
  found-range go more same blocked (At k j) stands h = absurd h
  found-range go more same blocked Missing stands h = absurd h
  found-range go more same blocked Blocked stands h = refl

  one-step : (go : ℕ → TypeTree → Range) (more : Component → TypeTree → Range) → Agree go more → Agree (λ k ty. on_step go (type_step s ns vs (all_rows t) k ty)) (range_by more)
  one-step go more same k c listed own bool_type h = refl
  one-step go more same k c listed own int_type h = refl
  one-step go more same k c listed own (range_type l u) h = λ i. from_to (bound-is k c l listed own h.0 i) (bound-is k c u listed own h.1 i)
  one-step go more same k c listed own (named_type nm) h = found-range go more same (found c nm) (looks t s are k nm) (found-stands t few c listed nm) (agrees t s are k c own nm)

  walked-is : (n : ℕ) → Agree (walk (suc n)) (range_within n)
  walked-is zero k c listed own ty h = one-step (walk zero) (λ d x. from_to (pos 0) (pos 0)) (λ i d m o x g. refl) k c listed own ty h
  walked-is (suc n) k c listed own ty h = one-step (walk (suc n)) (range_within n) (walked-is n) k c listed own ty h

  root-is : (k : ℕ) (c : Component) → IsBody t k (as_written c) → specification_of c ≡ t
  root-is k c own = sym (root-written c) ∙ body-root t s.table.scopes are.table (as_written c) k own

  pub range-is : (k : ℕ) (c : Component) → Member c (components_of t) → IsBody t k (as_written c) → (ty : TypeTree) → IsSound c ty → walk (suc (length (declarations t))) k ty ≡ range_of c ty
  range-is k c listed own ty h = walked-is (length (declarations t)) k c listed own ty h ∙ ap (λ u. range_within (length (declarations u)) c ty) (sym (root-is k c own))
