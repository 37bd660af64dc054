-- The tallies of a name are those of its own equations, whatever other names have.
use Rattle.std.proofs.Common.{◌≡◌, ℕ, suc, ◌+◌, Bool, true, false, cond, List, [], ◌∷◌, length, refl, sym, ap, ◌∙◌, Option, Some, None, unwrap_or, add-zero, arith}
use Rattle.std.specs.Prelude.{nat_eq, filter_map}
use Rattle.std.specs.List.{cons_option}
use Rattle.std.specs.Map.{lookup}
use Rattle.std.specs.Cmp.Lexicographic.{pointwise, same_text}
use Rattle.grammar.proofs.Texts.{same_is, same_flip}
use Rattle.cif_source.specs.Source.{Text, DeclTree, type_decl, enum_decl, event_decl, const_decl, alg_decl, input_decl, disc_decl, equation_decl, invariant_decl, marked_decl, EquationTree, LocationTree}
use Rattle.cif_source.specs.Value.{decl_equation_for}
use Rattle.cif_types_equations.specs.declared.tallies.Tally.{Tally}
use Rattle.cif_types_equations.specs.Tallies.{Tallied, no_tally, tally_in, with_tally, owned, own_tallied, decls_tallied, follows, placed_at, equation_tallied, equations_tallied, locations_tallied}

abbrev same : Text → Text → Bool
same x y = pointwise nat_eq x y

flip : (x y : Text) → same x y ≡ same y x
flip x y = same_is x y ∙ same_flip x y ∙ sym (same_is y x)

equal : (x y : Text) → same x y ≡ true → x ≡ y
equal x y h = same_text x y (sym h)

module _ (x y : Text) (t : Tally) where
  taken : (v : Tally) (o : Option Tally) (b : Bool) → unwrap_or (cond b (Some t) o) no_tally ≡ cond b t (unwrap_or (cond b (Some v) o) no_tally)
  taken v o true = refl
  taken v o false = refl

  only : (b : Bool) → unwrap_or (cond b (Some t) None) no_tally ≡ cond b t no_tally
  only true = refl
  only false = refl

  -- what is looked up among entries that begin with e
  abbrev first : Tally → Bool → Tallied → Tally
  first v b es = unwrap_or (cond b (Some v) (lookup (λ z. same y z) es)) no_tally

  step : (e : Text × Tally) (es : Tallied) (a : Bool) → same x e.0 ≡ a → (b : Bool) → same y e.0 ≡ b → tally_in (with_tally es x t) y ≡ cond (same x y) t (tally_in es y)
      → tally_in (cond a ((e.0, t) ∷ es) (e ∷ with_tally es x t)) y ≡ cond (same x y) t (tally_in (e ∷ es) y)
  step e es true p b r h =
      let q : same y e.0 ≡ same x y = ap (same y) (sym (equal x e.0 p)) ∙ flip y x in
      ap (λ c. first t c es) q ∙ taken e.1 (lookup (λ z. same y z) es) (same x y) ∙ ap (λ c. cond (same x y) t (first e.1 c es)) (sym q)
  step e es false p true r h =
      let q : same x y ≡ false = ap (same x) (equal y e.0 r) ∙ p in
      ap (λ c. first e.1 c (with_tally es x t)) r ∙ sym (ap (λ c. cond c t (tally_in (e ∷ es) y)) q ∙ ap (λ c. first e.1 c es) r)
  step e es false p false r h = ap (λ c. first e.1 c (with_tally es x t)) r ∙ h ∙ sym (ap (λ c. cond (same x y) t (first e.1 c es)) r)

  -- one name is put, and another one keeps what it had
  pub tally-with : (ts : Tallied) → tally_in (with_tally ts x t) y ≡ cond (same x y) t (tally_in ts y)
  tally-with [] = ap (λ b. unwrap_or (cond b (Some t) None) no_tally) (flip y x) ∙ only (same x y)
  tally-with (e ∷ es) = step e es (same x e.0) refl (same y e.0) refl (tally-with es)

module _ (y : Text) where
  -- with the component's equations for y among these
  abbrev owning : Tally → List DeclTree → Tally
  owning t ds = record { own = t.own + length (filter_map (decl_equation_for y) ds); placed = t.placed }

  -- an equation of the component
  abbrev further : Tally → Bool → EquationTree → List DeclTree → Tally
  further t b q ds = record { own = t.own + length (cons_option (cond b (Some q.value) None) (filter_map (decl_equation_for y) ds)); placed = t.placed }

  one : (t : Tally) (q : EquationTree) (ds : List DeclTree) → owning (owned t) ds ≡ further t true q ds
  one t q ds = let e : (t.own + 1) + length (filter_map (decl_equation_for y) ds) ≡ t.own + suc (length (filter_map (decl_equation_for y) ds)) = omega arith in ap (λ n. let u : Tally = record { own = n; placed = t.placed } in u) e

  own-step : (ts : Tallied) (q : EquationTree) (ds : List DeclTree) (b : Bool) → same q.name.text y ≡ b → owning (cond b (owned (tally_in ts q.name.text)) (tally_in ts y)) ds ≡ further (tally_in ts y) b q ds
  own-step ts q ds true p = ap (λ z. owning (owned (tally_in ts z)) ds) (equal q.name.text y p) ∙ one (tally_in ts y) q ds
  own-step ts q ds false p = refl

  own-tallied : (ts : Tallied) (q : EquationTree) (ds : List DeclTree) → owning (tally_in (own_tallied ts q.name.text) y) ds ≡ owning (tally_in ts y) (equation_decl q ∷ ds)
  own-tallied ts q ds = ap (λ t. owning t ds) (tally-with q.name.text y (owned (tally_in ts q.name.text)) ts) ∙ own-step ts q ds (same q.name.text y) refl

  pub decls-tallied : (ds : List DeclTree) (ts : Tallied) → tally_in (decls_tallied ts ds) y ≡ owning (tally_in ts y) ds
  decls-tallied [] ts = ap (λ n. let t : Tally = record { own = n; placed = (tally_in ts y).placed } in t) (sym (add-zero (tally_in ts y).own))
  decls-tallied (equation_decl q ∷ ds) ts = decls-tallied ds (own_tallied ts q.name.text) ∙ own-tallied ts q ds
  decls-tallied (type_decl n ty ∷ ds) ts = decls-tallied ds ts
  decls-tallied (enum_decl n ls ∷ ds) ts = decls-tallied ds ts
  decls-tallied (event_decl k h n ∷ ds) ts = decls-tallied ds ts
  decls-tallied (const_decl ty n e ∷ ds) ts = decls-tallied ds ts
  decls-tallied (alg_decl ty n e ∷ ds) ts = decls-tallied ds ts
  decls-tallied (input_decl ty n ∷ ds) ts = decls-tallied ds ts
  decls-tallied (disc_decl ty n e ∷ ds) ts = decls-tallied ds ts
  decls-tallied (invariant_decl i ∷ ds) ts = decls-tallied ds ts
  decls-tallied (marked_decl p ∷ ds) ts = decls-tallied ds ts

  -- ---- equations of locations

  abbrev pub placed_in : ℕ → List EquationTree → Option ℕ → Option ℕ
  placed_in k [] p = p
  placed_in k (q ∷ qs) p = placed_in k qs (cond (same q.name.text y) (follows k p) p)

  abbrev placing : Tally → Option ℕ → Tally
  placing t p = record { own = t.own; placed = p }

  placed-step : (ts : Tallied) (k : ℕ) (q : EquationTree) (b : Bool) → same q.name.text y ≡ b
      → cond b (placed_at k (tally_in ts q.name.text)) (tally_in ts y) ≡ placing (tally_in ts y) (cond b (follows k (tally_in ts y).placed) (tally_in ts y).placed)
  placed-step ts k q true p = ap (λ z. placed_at k (tally_in ts z)) (equal q.name.text y p)
  placed-step ts k q false p = refl

  equation-tallied : (ts : Tallied) (k : ℕ) (q : EquationTree) → tally_in (equation_tallied ts k q.name.text) y ≡ placing (tally_in ts y) (cond (same q.name.text y) (follows k (tally_in ts y).placed) (tally_in ts y).placed)
  equation-tallied ts k q = tally-with q.name.text y (placed_at k (tally_in ts q.name.text)) ts ∙ placed-step ts k q (same q.name.text y) refl

  equations-tallied : (qs : List EquationTree) (k : ℕ) (ts : Tallied) → tally_in (equations_tallied ts k qs) y ≡ placing (tally_in ts y) (placed_in k qs (tally_in ts y).placed)
  equations-tallied [] k ts = refl
  equations-tallied (q ∷ qs) k ts = equations-tallied qs k (equation_tallied ts k q.name.text) ∙ ap (λ t. placing t (placed_in k qs t.placed)) (equation-tallied ts k q)

  -- those of the locations from location k on
  abbrev pub placed_from : ℕ → List LocationTree → Option ℕ → Option ℕ
  placed_from k [] p = p
  placed_from k (l ∷ ls) p = placed_from (k + 1) ls (placed_in k l.equations p)

  pub locations-tallied : (ls : List LocationTree) (k : ℕ) (ts : Tallied) → tally_in (locations_tallied ts k ls) y ≡ placing (tally_in ts y) (placed_from k ls (tally_in ts y).placed)
  locations-tallied [] k ts = refl
  locations-tallied (l ∷ ls) k ts = locations-tallied ls (k + 1) (equations_tallied ts k l.equations) ∙ ap (λ t. placing t (placed_from (k + 1) ls t.placed)) (equations-tallied l.equations k ts)
