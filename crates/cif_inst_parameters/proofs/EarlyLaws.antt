-- A parameter that a name finds belongs to an instance that stands no later than the component in which the name is.
use Rattle.std.proofs.Common.{◌≡◌, ℕ, zero, suc, ◌<◌, ◌≤◌, Bool, true, false, List, [], ◌∷◌, refl, sym, ◌∙◌, subst, arith}
use Rattle.cif_ast.specs.declared.names.Ident.{Ident}
use Rattle.cif_ast.specs.declared.names.Name.{Name}
use Rattle.cif_system.proofs.Lists.{false-true}
use Rattle.cif_source.specs.Source.{Text, ParamTree, InstanceTree, SourceBody, Source}
use Rattle.cif_source.specs.Components.{Component, whole, part, blank, copy, specification_of, declared, literal, location, inner, definition, instance, parameter}
use Rattle.cif_source.specs.Lookup.{ScopeEntry, Reached, reached, missing, blocked, in_scope, in_body, go_on, or_outward, outward, looked_up, inside_written, inside, found}
use Rattle.cif_source.proofs.ReachLaws.{in_scope-in, in_body-in, reached-same}
use Rattle.cif_source.proofs.NameLaws.{is_parameter, inside-own}
use Rattle.cif_scope.specs.declared.scopes.Scopes.{Scopes}
use Rattle.cif_scope.specs.Scopes.{AreScopesOf}
use Rattle.cif_inst_components.specs.declared.components.Components.{Components}
use Rattle.cif_inst_components.specs.Numbers.{IsNumber, AreComponentsOf}
use Rattle.cif_inst_components.proofs.FindChildren.{row-for, single, listed, stands-before}
use Rattle.cif_inst_components.proofs.FindLaws.{Early, early-more}
use Rattle.cif_inst_bodies.proofs.ArgumentLaws.{given-by}

module _ (t : Source) (m : ℕ) where
  in-early : (c : Component) (x : ScopeEntry) → Early t m c → x.0 ≡ c → Early t m x.0
  in-early c x early h = subst (Early t m) (sym h) early

  inside_written-early : (x : ScopeEntry) (ps : List Ident) (y : ScopeEntry) → Early t m x.0 → inside_written x ps ≡ reached y → Early t m y.0
  inside_written-early x [] y early h = subst (λ (z : ScopeEntry). Early t m z.0) (reached-same x y h) early
  inside_written-early (c, inner n b) (p ∷ ps) y early h =
      (elim (in_body (part c n b) p.text) as (λ r. in_body (part c n b) p.text ≡ r → go_on (λ z. inside_written z ps) r ≡ reached y → Early t m y.0) [
        | reached z ↦ λ i k. inside_written-early z ps y (in-early (part c n b) z early (in_body-in (part c n b) p.text z i).0) k
        | missing ↦ λ i k. cc
        | blocked ↦ λ i k. cc
      ]) refl h
  inside_written-early (c, declared d) (p ∷ ps) y early h = cc
  inside_written-early (c, literal k ls) (p ∷ ps) y early h = cc
  inside_written-early (c, location k) (p ∷ ps) y early h = cc
  inside_written-early (c, definition n qs b) (p ∷ ps) y early h = cc
  inside_written-early (c, instance i) (p ∷ ps) y early h = cc
  inside_written-early (c, parameter k q) (p ∷ ps) y early h = cc

  outer-early : (c o : Component) (s : Text) (x : ScopeEntry) → Early t m c → ((z : ScopeEntry) → outward o s ≡ reached z → Early t m z.0)
      → or_outward (in_scope c s) (outward o s) ≡ reached x → Early t m x.0
  outer-early c o s x early up h =
      (elim (in_scope c s) as (λ r. in_scope c s ≡ r → or_outward r (outward o s) ≡ reached x → Early t m x.0) [
        | reached z ↦ λ i k. in-early c x early (in_scope-in c s x (i ∙ k)).0
        | missing ↦ λ i k. up x k
        | blocked ↦ λ i k. cc
      ]) refl h

  outward-early : (c : Component) (s : Text) (x : ScopeEntry) → Early t m c → outward c s ≡ reached x → Early t m x.0
  outward-early (whole is) s x early h = in-early (whole is) x early (in_scope-in (whole is) s x h).0
  outward-early (part o n b) s x early h = outer-early (part o n b) o s x early (λ z k. outward-early o s z early k) h
  outward-early (blank o n ps b) s x early h = outer-early (blank o n ps b) o s x early (λ z k. outward-early o s z early k) h
  outward-early (copy o n ps b g i) s x early h = outer-early (copy o n ps b g i) o s x early (λ z k. outward-early o s z early.1 k) h

  abbrev name_of : Bool → List Ident → ℕ → Name
  name_of r ps at = record { from_root = r; parts = ps; at = at }

  going : (r : Reached) → ((z : ScopeEntry) → r ≡ reached z → Early t m z.0) → (ps : List Ident) (y : ScopeEntry) → go_on (λ x. inside_written x ps) r ≡ reached y → Early t m y.0
  going (reached z) early ps y h = inside_written-early z ps y (early z refl) h
  going missing early ps y h = cc
  going blocked early ps y h = cc

  written-parts : (c : Component) → Early t m c → (r : Bool) (ps : List Ident) (at : ℕ) (y : ScopeEntry) → looked_up inside_written c (name_of r ps at) ≡ reached y → Early t m y.0
  written-parts c early true [] at y h = cc
  written-parts c early false [] at y h = cc
  written-parts c early true (p ∷ ps) at y h =
      going (in_scope (whole (specification_of c)) p.text) (λ z i. in-early (whole (specification_of c)) z tt (in_scope-in (whole (specification_of c)) p.text z i).0) ps y h
  written-parts c early false (p ∷ ps) at y h = going (outward c p.text) (λ z i. outward-early c p.text z early i) ps y h

  -- a name that is followed through components as written
  written-early : (c : Component) → Early t m c → (nm : Name) (y : ScopeEntry) → looked_up inside_written c nm ≡ reached y → Early t m y.0
  written-early c early nm y h = written-parts c early nm.from_root nm.parts nm.at y h

  ending : (r : Reached) → ((z : ScopeEntry) → r ≡ reached z → Early t m z.0) → (ps : List Ident) (y : ScopeEntry) → is_parameter y.1 ≡ true → go_on (λ x. inside x ps) r ≡ reached y → Early t m y.0
  ending (reached z) early [] y own h = subst (λ (w : ScopeEntry). Early t m w.0) (reached-same z y h) (early z refl)
  ending (reached z) early (p ∷ ps) y own h = absurd (false-true (inside-own z p ps y h) own)
  ending missing early ps y own h = cc
  ending blocked early ps y own h = cc

  found-parts : (c : Component) → Early t m c → (r : Bool) (ps : List Ident) (at : ℕ) (y : ScopeEntry) → is_parameter y.1 ≡ true → found c (name_of r ps at) ≡ reached y → Early t m y.0
  found-parts c early true [] at y own h = cc
  found-parts c early false [] at y own h = cc
  found-parts c early true (p ∷ ps) at y own h =
      ending (in_scope (whole (specification_of c)) p.text) (λ z i. in-early (whole (specification_of c)) z tt (in_scope-in (whole (specification_of c)) p.text z i).0) ps y own h
  found-parts c early false (p ∷ ps) at y own h = ending (outward c p.text) (λ z i. outward-early c p.text z early i) ps y own h

  -- a name that finds a parameter
  found-early : (c : Component) → Early t m c → (nm : Name) (y : ScopeEntry) → is_parameter y.1 ≡ true → found c nm ≡ reached y → Early t m y.0
  found-early c early nm y own h = found-parts c early nm.from_root nm.parts nm.at y own h

module _ (t : Source) (s : Scopes) (cs : Components) (scopes : AreScopesOf t s) (are : AreComponentsOf t cs) where
  -- an instance outward of a component stands no later
  frames-early : (n k : ℕ) (c : Component) → k < n → IsNumber t k c → Early t (suc k) c
  frames-early zero k c less own = absurd (omega arith)
  frames-early (suc n) k (whole is) less own = tt
  frames-early (suc n) k (part p m b) less own =
      let q = (row-for t s scopes are.few cs.all are.all k (part p m b) own).2.stands in
      let before : q.0.component < k = stands-before t s scopes are.few cs.all are.all q.0.component k p (part p m b) q.2 own refl in
      early-more t (suc q.0.component) (suc k) p (omega arith) (frames-early n q.0.component p (omega arith) q.2)
  frames-early (suc n) k (blank p m ps b) less own = absurd (row-for t s scopes are.few cs.all are.all k (blank p m ps b) own).2.stands
  frames-early (suc n) k (copy o m ps b g i) less own =
      let q = (row-for t s scopes are.few cs.all are.all k (copy o m ps b g i) own).2.stands in
      let before : q.0.component < k = stands-before t s scopes are.few cs.all are.all q.0.component k g (copy o m ps b g i) q.2 own refl in
      let giver : Early t (suc k) g = early-more t (suc q.0.component) (suc k) g (omega arith) (frames-early n q.0.component g (omega arith) q.2) in
      let given = given-by t o g m ps b i (listed t s scopes are.few cs.all are.all k (copy o m ps b g i) own) in (
        λ l f. let same : l ≡ k = single t s scopes are.few cs.all are.all l k (copy o m ps b g i) f own in omega arith,
        written-early t (suc k) g giver i.def (o, definition m ps b) given.opens,
      )

  -- the instance of which a name finds a parameter stands no later than the component in which the name is
  pub found-before : (k : ℕ) (c : Component) (nm : Name) (o g : Component) (n : Ident) (ps : List ParamTree) (b : SourceBody) (i : InstanceTree) (j : ℕ) (p : ParamTree) (l : ℕ)
      → IsNumber t k c → found c nm ≡ reached (copy o n ps b g i, parameter j p) → IsNumber t l (copy o n ps b g i) → l ≤ k
  found-before k c nm o g n ps b i j p l own h num =
      let early = found-early t (suc k) c (frames-early (suc k) k c (omega arith) own) nm (copy o n ps b g i, parameter j p) refl h in
      let less : l < suc k = early.0 l num in
      omega arith
