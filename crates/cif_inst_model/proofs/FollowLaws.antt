-- Two readings of names that are related where they end are related at each name.
use Rattle.std.proofs.Common.{◌≡◌, ℕ, Bool, true, false, List, [], ◌∷◌, Option, Some, None, refl}
use Rattle.std.specs.Prelude.{slice_get}
use Rattle.cif_ast.specs.Tree.{Tree, node, named}
use Rattle.cif_ast.specs.declared.names.Ident.{Ident}
use Rattle.cif_ast.specs.declared.names.Name.{Name}
use Rattle.cif_source.specs.Source.{Text, ParamTree, event_param, alg_param, location_param, SourceBody, InstanceTree}
use Rattle.cif_source.specs.Components.{Component, whole, part, blank, copy, specification_of, scope_of, entry_named, Entry, declared, literal, location, inner, definition, instance, parameter}
use Rattle.cif_source.specs.Lookup.{ScopeEntry, Reached, reached, missing, blocked, at_entry, ended, by_name, by_argument, by_entry, follow_from, follow, inside, go_on, or_outward, outward, in_scope, found}

-- `Ok` holds of the places that names lead to from components of which `Home` holds
module _ {R Q : Type 0} (Rel : R → Q → Type 0) (Ok : ScopeEntry → Type 0) (Home : Component → Type 0)
    (outward-ok : (c : Component) → Home c → (x : Text) (y : ScopeEntry) → outward c x ≡ reached y → Ok y)
    (root-ok : (c : Component) → Home c → (x : Text) (y : ScopeEntry) → in_scope (whole (specification_of c)) x ≡ reached y → Ok y)
    (inside-ok : (x : ScopeEntry) → Ok x → (ps : List Ident) (y : ScopeEntry) → inside x ps ≡ reached y → Ok y)
    (giver-home : (o g : Component) (n : Ident) (ps : List ParamTree) (b : SourceBody) (i : InstanceTree) (e : Entry) → Ok (copy o n ps b g i, e) → Home g)
    (thing : ScopeEntry → R) (nothing : R) (argument : (Name → R) → Component → Tree → R)
    (thing' : ScopeEntry → Q) (nothing' : Q) (argument' : (Name → Q) → Component → Tree → Q)
    (things : (x : ScopeEntry) → Ok x → Rel (thing x) (thing' x)) (nothings : Rel nothing nothing')
    (arguments : (g : Component) → Home g → (name : Name → R) (name' : Name → Q) → ((nm : Name) → Rel (name nm) (name' nm)) → (a : Tree) → Rel (argument name g a) (argument' name' g a)) where
  abbrev AreOk : Reached → Type 0
  AreOk r = (y : ScopeEntry) → r ≡ reached y → Ok y

  going : (r : Reached) → AreOk r → (ps : List Ident) → AreOk (go_on (λ x. inside x ps) r)
  going (reached z) ok ps y h = inside-ok z (ok z refl) ps y h
  going missing ok ps y h = cc
  going blocked ok ps y h = cc

  abbrev named_of : Bool → List Ident → ℕ → Name
  named_of r ps at = record { from_root = r; parts = ps; at = at }

  found-parts : (c : Component) → Home c → (r : Bool) (ps : List Ident) (at : ℕ) → AreOk (found c (named_of r ps at))
  found-parts c home true [] at y h = cc
  found-parts c home false [] at y h = cc
  found-parts c home true (p ∷ ps) at y h = going (in_scope (whole (specification_of c)) p.text) (root-ok c home p.text) ps y h
  found-parts c home false (p ∷ ps) at y h = going (outward c p.text) (outward-ok c home p.text) ps y h

  ended-related : (r : Reached) → AreOk r → Rel (ended thing nothing r) (ended thing' nothing' r)
  ended-related (reached x) ok = things x (ok x refl)
  ended-related missing ok = nothings
  ended-related blocked ok = nothings

  by_name-related : (go : Ident → List Ident → R) (go' : Ident → List Ident → Q) → ((p : Ident) (ps : List Ident) → Rel (go p ps) (go' p ps)) → (c : Component) → Home c → (nm : Name)
      → Rel (by_name thing nothing go c nm) (by_name thing' nothing' go' c nm)
  by_name-related go go' h c home nm =
      let ok : AreOk (found c nm) = found-parts c home nm.from_root nm.parts nm.at in
      elim nm.parts as (λ qs. Rel (elim qs [ [] ↦ nothing | p ∷ ps ↦ elim nm.from_root [ true ↦ ended thing nothing (found c nm) | false ↦ go p ps ] ])
      (elim qs [ [] ↦ nothing' | p ∷ ps ↦ elim nm.from_root [ true ↦ ended thing' nothing' (found c nm) | false ↦ go' p ps ] ])) [
        | [] ↦ nothings
        | p ∷ ps ↦ elim nm.from_root as (λ b. Rel (elim b [ true ↦ ended thing nothing (found c nm) | false ↦ go p ps ]) (elim b [ true ↦ ended thing' nothing' (found c nm) | false ↦ go' p ps ])) [
          | true ↦ ended-related (found c nm) ok
          | false ↦ h p ps
        ]
      ]

  by_argument-related : (value : Tree → R) (value' : Tree → Q) (name : Name → R) (name' : Name → Q) → ((e : Tree) → Rel (value e) (value' e)) → ((nm : Name) → Rel (name nm) (name' nm))
      → (p : ParamTree) (o : Option Tree) → Rel (by_argument nothing value name p o) (by_argument nothing' value' name' p o)
  by_argument-related value value' name name' v n p None = nothings
  by_argument-related value value' name name' v n (alg_param t m) (Some e) = v e
  by_argument-related value value' name name' v n (event_param k h m) (Some (node (named nm) at)) = n nm
  by_argument-related value value' name name' v n (location_param m) (Some (node (named nm) at)) = n nm
  by_argument-related value value' name name' v n (event_param k h m) (Some (node _ at)) = nothings
  by_argument-related value value' name name' v n (location_param m) (Some (node _ at)) = nothings

  inside-related : (x : ScopeEntry) (ps : List Ident) → Ok x → Rel (ended thing nothing (inside x ps)) (ended thing' nothing' (inside x ps))
  inside-related x ps ok = ended-related (inside x ps) (inside-ok x ok ps)

  by_entry-related : (f : ℕ → ParamTree → R) (f' : ℕ → ParamTree → Q) → ((k : ℕ) (p : ParamTree) → Rel (f k p) (f' k p)) → (c : Component) (e : Entry) (ps : List Ident) → Ok (c, e)
      → Rel (by_entry thing nothing f c e ps) (by_entry thing' nothing' f' c e ps)
  by_entry-related f f' h c (parameter k p) [] ok = h k p
  by_entry-related f f' h c (parameter k p) (q ∷ qs) ok = nothings
  by_entry-related f f' h c (declared d) ps ok = inside-related (c, declared d) ps ok
  by_entry-related f f' h c (literal k ls) ps ok = inside-related (c, literal k ls) ps ok
  by_entry-related f f' h c (location k) ps ok = inside-related (c, location k) ps ok
  by_entry-related f f' h c (inner n b) ps ok = inside-related (c, inner n b) ps ok
  by_entry-related f f' h c (definition n qs b) ps ok = inside-related (c, definition n qs b) ps ok
  by_entry-related f f' h c (instance i) ps ok = inside-related (c, instance i) ps ok

  follow_from-related : (c : Component) (p : Ident) (ps : List Ident) → AreOk (outward c p.text) → Rel (follow_from thing nothing argument c p ps) (follow_from thing' nothing' argument' c p ps)
  follow_from-related (whole is) p ps ok = ended-related (go_on (λ x. inside x ps) (in_scope (whole is) p.text)) (going (in_scope (whole is) p.text) ok ps)
  follow_from-related (part o n b) p ps ok =
      (elim (entry_named p.text (scope_of (part o n b))) as (λ r.
      AreOk (or_outward (at_entry (part o n b) r) (outward o p.text))
      → Rel (elim r [ None ↦ follow_from thing nothing argument o p ps | Some e ↦ ended thing nothing (inside (part o n b, e) ps) ])
      (elim r [ None ↦ follow_from thing' nothing' argument' o p ps | Some e ↦ ended thing' nothing' (inside (part o n b, e) ps) ])) [
        | None ↦ λ h. follow_from-related o p ps h
        | Some e ↦ λ h. inside-related (part o n b, e) ps (h (part o n b, e) refl)
      ]) ok
  follow_from-related (blank o n qs b) p ps ok =
      (elim (entry_named p.text (scope_of (blank o n qs b))) as (λ r.
      AreOk (or_outward (at_entry (blank o n qs b) r) (outward o p.text))
      → Rel (elim r [ None ↦ follow_from thing nothing argument o p ps | Some e ↦ ended thing nothing (inside (blank o n qs b, e) ps) ])
      (elim r [ None ↦ follow_from thing' nothing' argument' o p ps | Some e ↦ ended thing' nothing' (inside (blank o n qs b, e) ps) ])) [
        | None ↦ λ h. follow_from-related o p ps h
        | Some e ↦ λ h. inside-related (blank o n qs b, e) ps (h (blank o n qs b, e) refl)
      ]) ok
  follow_from-related (copy o n qs b g i) p ps ok =
      (elim (entry_named p.text (scope_of (copy o n qs b g i))) as (λ r.
      AreOk (or_outward (at_entry (copy o n qs b g i) r) (outward o p.text))
      → Rel (elim r [
        | None ↦ follow_from thing nothing argument o p ps
        | Some e ↦ by_entry thing nothing (λ k q. by_argument nothing (argument (follow thing nothing argument g) g) (follow thing nothing argument g) q (slice_get i.args k)) (copy o n qs b g i) e ps
      ])
      (elim r [
        | None ↦ follow_from thing' nothing' argument' o p ps
        | Some e ↦ by_entry thing' nothing' (λ k q. by_argument nothing' (argument' (follow thing' nothing' argument' g) g) (follow thing' nothing' argument' g) q (slice_get i.args k)) (copy o n qs b g i) e ps
      ])) [
        | None ↦ λ h. follow_from-related o p ps h
        | Some e ↦ λ h.
            let home : Home g = giver-home o g n qs b i e (h (copy o n qs b g i, e) refl) in
            let names : (nm : Name) → Rel (follow thing nothing argument g nm) (follow thing' nothing' argument' g nm) = λ nm.
            by_name-related (follow_from thing nothing argument g) (follow_from thing' nothing' argument' g) (λ q qs. follow_from-related g q qs (outward-ok g home q.text)) g home nm in
            by_entry-related _ _
            (λ k q. by_argument-related (argument (follow thing nothing argument g) g) (argument' (follow thing' nothing' argument' g) g) (follow thing nothing argument g) (follow thing' nothing' argument' g)
            (arguments g home (follow thing nothing argument g) (follow thing' nothing' argument' g) names) names q (slice_get i.args k))
            (copy o n qs b g i) e ps (h (copy o n qs b g i, e) refl)
      ]) ok

  pub follow-related : (c : Component) → Home c → (nm : Name) → Rel (follow thing nothing argument c nm) (follow thing' nothing' argument' c nm)
  follow-related c home nm =
      by_name-related (follow_from thing nothing argument c) (follow_from thing' nothing' argument' c) (λ p ps. follow_from-related c p ps (outward-ok c home p.text)) c home nm
