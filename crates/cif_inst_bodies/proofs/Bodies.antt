-- The components of a source, as written, are its bodies, and so are the components to which names lead.
use Rattle.std.proofs.Common.{◌≡◌, ℕ, zero, suc, Bool, true, false, ◌⊎◌, inl, inr, List, [], ◌∷◌, Option, Some, None, refl, sym, ◌∙◌, ap, subst}
use Rattle.std.specs.Prelude.{filter_map}
use Rattle.std.specs.List.{cons_option}
use Rattle.cif_ast.specs.declared.names.Ident.{Ident}
use Rattle.cif_ast.specs.declared.names.Name.{Name}
use Rattle.cif_system.specs.Words.{Member}
use Rattle.cif_system.proofs.Lists.{some-same, none-some}
use Rattle.cif_source.specs.Source.{Text, ParamTree, SourceBody, InstanceTree, SourceItem, decl_item, component_item, definition_item, instance_item, group_body, automaton_body, Source, no_source, source}
use Rattle.cif_source.specs.Components.{Component, whole, part, blank, copy, specification_of, body_of, as_written, declared, literal, location, inner, definition, instance, parameter}
use Rattle.cif_source.specs.Lookup.{ScopeEntry, Reached, reached, missing, blocked, in_scope, in_body, go_on, or_outward, outward, looked_up, inside_written, definition_found, opened, opened_at, in_opened, passed, inside, found}
use Rattle.cif_source.specs.Objects.{components_below, components_of, children, child_of, items_in, most_objects, bodies, bodies_in, bodies_at, bodies_under}
use Rattle.cif_source.proofs.ComponentLaws.{append-cases, flat-cases}
use Rattle.cif_system.proofs.Picks.{append-left, append-right}
use Rattle.cif_source.proofs.ReachLaws.{reached-same}
use Rattle.cif_inst_model.proofs.WrittenLaws.{BodyOf, bodies-closed}
use Rattle.cif_inst_bodies.proofs.Alike.{root-written, body-written}
use Rattle.cif_inst_bodies.specs.Entries.{IsOf}
use Rattle.cif_inst_bodies.proofs.Entries.{In, in_body-is, in_scope-is}

-- ---- outer bodies

-- the component in which its body is written
abbrev pub outer_of : Component → Option Component
outer_of (whole is) = None
outer_of (part o n b) = Some o
outer_of (blank o n ps b) = Some o
outer_of (copy o n ps b g i) = Some o

-- its outer component is c, or is in the list
abbrev HasOuter : Component → List Component → Component → Type 0
HasOuter c cs d = (o : Component) × (outer_of d ≡ Some o) × ((o ≡ c) ⊎ Member o cs)

wider : (c d : Component) (cs ds : List Component) → ((e : Component) → Member e cs → Member e ds) → HasOuter c cs d → HasOuter c ds d
wider c d cs ds more h = (h.0, h.1, elim h.2 [ inl w ↦ inl w | inr w ↦ inr (more h.0 w) ])

-- what lies in a body has an outer component there
deeper : (c e d : Component) (cs : List Component) → HasOuter e cs d → HasOuter c (e ∷ cs) d
deeper c e d cs h = (h.0, h.1, inr h.2)

mutual
  in-outer : (c : Component) (is : Source) (d : Component) → Member d (bodies_in c is) → HasOuter c (bodies_in c is) d
  in-outer c no_source d m = absurd m
  in-outer c (source i is) d m =
      elim (append-cases d (bodies_at c i) (bodies_in c is) m) [
        | inl w ↦ wider c d (bodies_at c i) (bodies_in c (source i is)) (λ e k. append-left e (bodies_at c i) (bodies_in c is) k) (at-outer c i d w)
        | inr w ↦ wider c d (bodies_in c is) (bodies_in c (source i is)) (λ e k. append-right e (bodies_at c i) (bodies_in c is) k) (in-outer c is d w)
      ]

  at-outer : (c : Component) (i : SourceItem) (d : Component) → Member d (bodies_at c i) → HasOuter c (bodies_at c i) d
  at-outer c (decl_item x) d m = absurd m
  at-outer c (instance_item j) d m = absurd m
  at-outer c (component_item n b) d m = elim m [ inl w ↦ (c, ap outer_of w, inl refl) | inr w ↦ deeper c (part c n b) d (bodies_under (part c n b) b) (under-outer (part c n b) b d w) ]
  at-outer c (definition_item n ps b) d m =
      elim m [ inl w ↦ (c, ap outer_of w, inl refl) | inr w ↦ deeper c (blank c n ps b) d (bodies_under (blank c n ps b) b) (under-outer (blank c n ps b) b d w) ]

  under-outer : (c : Component) (b : SourceBody) (d : Component) → Member d (bodies_under c b) → HasOuter c (bodies_under c b) d
  under-outer c (group_body is) d m = in-outer c is d m
  under-outer c (automaton_body a) d m = absurd m

module _ (t : Source) where
  outer-body : (d o : Component) → outer_of d ≡ Some o → Member d (bodies t) → Member o (bodies t)
  outer-body d o h m =
      elim m [
        | inl w ↦ absurd (none-some o (sym (ap outer_of w) ∙ h))
        | inr w ↦
            let out = in-outer (whole t) t d w in
            subst (λ e. Member e (bodies t)) (some-same out.0 o (sym out.1 ∙ h)) out.2
      ]

  body-root : (c : Component) → Member c (bodies t) → specification_of c ≡ t
  body-root (whole is) m =
      elim m [
        | inl w ↦ ap specification_of w
        | inr w ↦ let out = in-outer (whole t) t (whole is) w in absurd (none-some out.0 out.1)
      ]
  body-root (part o n b) m = body-root o (outer-body (part o n b) o refl m)
  body-root (blank o n ps b) m = body-root o (outer-body (blank o n ps b) o refl m)
  body-root (copy o n ps b g i) m = body-root o (outer-body (copy o n ps b g i) o refl m)

  -- ---- what names reach

  -- as written the component is a body
  abbrev pub IsWritten : Component → Type 0
  IsWritten c = Member (as_written c) (bodies t)

  -- the place lies in such a component, whose scope declares it
  abbrev pub Good : ScopeEntry → Type 0
  Good x = IsWritten x.0 × IsOf x.0 x.1

  pub written-root : (c : Component) → IsWritten c → specification_of c ≡ t
  written-root c m = sym (root-written c) ∙ body-root (as_written c) m

  in-good : (c : Component) (x : ScopeEntry) → IsWritten c → In c x → Good x
  in-good c x m h = (subst IsWritten (sym h.0) m, h.1)

  -- what is written in a body as written
  inner-written : (c : Component) (i : SourceItem) → IsWritten c → Member i (items_in (body_of c)) → BodyOf (as_written c) i (bodies t)
  inner-written c i m h = bodies-closed t (as_written c) i m (subst (λ b. Member i (items_in b)) (sym (body-written c)) h)

  part-written : (c : Component) (n : Ident) (b : SourceBody) → Good (c, inner n b) → IsWritten (part c n b)
  part-written c n b g = inner-written c (component_item n b) g.0 g.1

  copy-written : (o : Component) (n : Ident) (ps : List ParamTree) (b : SourceBody) (c : Component) (i : InstanceTree) → Good (o, definition n ps b) → IsWritten (copy o n ps b c i)
  copy-written o n ps b c i g = inner-written o (definition_item n ps b) g.0 g.1

  frame-good : (c o : Component) → IsWritten c → ((s : Text) (x : ScopeEntry) → outward o s ≡ reached x → Good x) → (s : Text) (x : ScopeEntry) → or_outward (in_scope c s) (outward o s) ≡ reached x → Good x
  frame-good c o m up s x h =
      (elim (in_scope c s) as (λ r. in_scope c s ≡ r → or_outward r (outward o s) ≡ reached x → Good x) [
        | reached z ↦ λ i k. in-good c x m (in_scope-is c s x (i ∙ k))
        | missing ↦ λ i k. up s x k
        | blocked ↦ λ i k. cc
      ]) refl h

  outward-good : (c : Component) → IsWritten c → (s : Text) (x : ScopeEntry) → outward c s ≡ reached x → Good x
  outward-good (whole is) m s x h = in-good (whole is) x m (in_scope-is (whole is) s x h)
  outward-good (part o n b) m s x h = frame-good (part o n b) o m (outward-good o (outer-body (as_written (part o n b)) (as_written o) refl m)) s x h
  outward-good (blank o n ps b) m s x h = frame-good (blank o n ps b) o m (outward-good o (outer-body (as_written (blank o n ps b)) (as_written o) refl m)) s x h
  outward-good (copy o n ps b g i) m s x h = frame-good (copy o n ps b g i) o m (outward-good o (outer-body (as_written (copy o n ps b g i)) (as_written o) refl m)) s x h

  root-good : (c : Component) → IsWritten c → (s : Text) (x : ScopeEntry) → in_scope (whole (specification_of c)) s ≡ reached x → Good x
  root-good c m s x h = in-good (whole (specification_of c)) x (subst (λ is. Member (whole is) (bodies t)) (sym (written-root c m)) (inl refl)) (in_scope-is (whole (specification_of c)) s x h)

  going : (further : ScopeEntry → List Ident → Reached) → ((x : ScopeEntry) (ps : List Ident) (y : ScopeEntry) → Good x → further x ps ≡ reached y → Good y)
      → (r : Reached) → ((z : ScopeEntry) → r ≡ reached z → Good z) → (ps : List Ident) (y : ScopeEntry) → go_on (λ x. further x ps) r ≡ reached y → Good y
  going further f (reached z) good ps y h = f z ps y (good z refl) h
  going further f missing good ps y h = cc
  going further f blocked good ps y h = cc

  abbrev name_of : Bool → List Ident → ℕ → Name
  name_of r ps at = record { from_root = r; parts = ps; at = at }

  parts-good : (further : ScopeEntry → List Ident → Reached) → ((x : ScopeEntry) (ps : List Ident) (y : ScopeEntry) → Good x → further x ps ≡ reached y → Good y)
      → (c : Component) → IsWritten c → (r : Bool) (ps : List Ident) (at : ℕ) (y : ScopeEntry) → looked_up further c (name_of r ps at) ≡ reached y → Good y
  parts-good further f c m true [] at y h = cc
  parts-good further f c m false [] at y h = cc
  parts-good further f c m true (p ∷ ps) at y h = going further f (in_scope (whole (specification_of c)) p.text) (root-good c m p.text) ps y h
  parts-good further f c m false (p ∷ ps) at y h = going further f (outward c p.text) (outward-good c m p.text) ps y h

  inside_written-good : (x : ScopeEntry) (ps : List Ident) (y : ScopeEntry) → Good x → inside_written x ps ≡ reached y → Good y
  inside_written-good x [] y g h = subst Good (reached-same x y h) g
  inside_written-good (c, inner n b) (p ∷ ps) y g h =
      (elim (in_body (part c n b) p.text) as (λ r. in_body (part c n b) p.text ≡ r → go_on (λ z. inside_written z ps) r ≡ reached y → Good y) [
        | reached z ↦ λ i k. inside_written-good z ps y (in-good (part c n b) z (part-written c n b g) (in_body-is (part c n b) p.text z i)) k
        | missing ↦ λ i k. cc
        | blocked ↦ λ i k. cc
      ]) refl h
  inside_written-good (c, declared d) (p ∷ ps) y g h = cc
  inside_written-good (c, literal k ls) (p ∷ ps) y g h = cc
  inside_written-good (c, location k) (p ∷ ps) y g h = cc
  inside_written-good (c, definition n qs b) (p ∷ ps) y g h = cc
  inside_written-good (c, instance i) (p ∷ ps) y g h = cc
  inside_written-good (c, parameter k q) (p ∷ ps) y g h = cc

  pub definition-good : (c : Component) → IsWritten c → (i : InstanceTree) (y : ScopeEntry) → definition_found c i ≡ reached y → Good y
  definition-good c m i y h = parts-good inside_written inside_written-good c m i.def.from_root i.def.parts i.def.at y h

  -- an instance that opens is written as its definition
  opened_at-written : (c : Component) (i : InstanceTree) (r : Reached) → ((y : ScopeEntry) → r ≡ reached y → Good y) → (d : Component) → opened_at c i r ≡ Some d → IsWritten d
  opened_at-written c i (reached (o, definition n ps b)) good d h = subst IsWritten (some-same (copy o n ps b c i) d h) (copy-written o n ps b c i (good (o, definition n ps b) refl))
  opened_at-written c i (reached (o, declared x)) good d h = absurd (none-some d h)
  opened_at-written c i (reached (o, literal k ls)) good d h = absurd (none-some d h)
  opened_at-written c i (reached (o, location k)) good d h = absurd (none-some d h)
  opened_at-written c i (reached (o, inner n b)) good d h = absurd (none-some d h)
  opened_at-written c i (reached (o, instance j)) good d h = absurd (none-some d h)
  opened_at-written c i (reached (o, parameter k p)) good d h = absurd (none-some d h)
  opened_at-written c i missing good d h = absurd (none-some d h)
  opened_at-written c i blocked good d h = absurd (none-some d h)

  opened-written : (c : Component) → IsWritten c → (i : InstanceTree) (d : Component) → opened c i ≡ Some d → IsWritten d
  opened-written c m i d h = opened_at-written c i (definition_found c i) (definition-good c m i) d h

  passed-good : (x : ScopeEntry) (s : Text) (y : ScopeEntry) → Good x → passed x s ≡ reached y → Good y
  passed-good (c, inner n b) s y g h = in-good (part c n b) y (part-written c n b g) (in_body-is (part c n b) s y h)
  passed-good (c, instance i) s y g h =
      (elim (opened c i) as (λ o. opened c i ≡ o → in_opened o s ≡ reached y → Good y) [
        | None ↦ λ j k. cc
        | Some d ↦ λ j k. in-good d y (opened-written c g.0 i d j) (in_body-is d s y k)
      ]) refl h
  passed-good (c, declared d) s y g h = cc
  passed-good (c, literal k ls) s y g h = cc
  passed-good (c, location k) s y g h = cc
  passed-good (c, definition n qs b) s y g h = cc
  passed-good (c, parameter k q) s y g h = cc

  inside-good : (x : ScopeEntry) (ps : List Ident) (y : ScopeEntry) → Good x → inside x ps ≡ reached y → Good y
  inside-good x [] y g h = subst Good (reached-same x y h) g
  inside-good x (p ∷ ps) y g h =
      (elim (passed x p.text) as (λ r. passed x p.text ≡ r → go_on (λ z. inside z ps) r ≡ reached y → Good y) [
        | reached z ↦ λ i k. inside-good z ps y (passed-good x p.text z g i) k
        | missing ↦ λ i k. cc
        | blocked ↦ λ i k. cc
      ]) refl h

  -- from a body as written a name leads to an entry of a body as written
  pub found-good : (c : Component) → IsWritten c → (nm : Name) (y : ScopeEntry) → found c nm ≡ reached y → Good y
  found-good c m nm y h = parts-good inside inside-good c m nm.from_root nm.parts nm.at y h

  -- ---- components

  child-written : (c : Component) → IsWritten c → (is : List SourceItem) → ((i : SourceItem) → Member i is → Member i (items_in (body_of c))) → (d : Component) → Member d (filter_map (child_of c) is) → IsWritten d
  child-written c m [] all d k = absurd k
  child-written c m (decl_item x ∷ is) all d k = child-written c m is (λ i h. all i (inr h)) d k
  child-written c m (definition_item n ps b ∷ is) all d k = child-written c m is (λ i h. all i (inr h)) d k
  child-written c m (component_item n b ∷ is) all d k =
      elim k [
        | inl w ↦ subst IsWritten (sym w) (inner-written c (component_item n b) m (all (component_item n b) (inl refl)))
        | inr w ↦ child-written c m is (λ i h. all i (inr h)) d w
      ]
  child-written c m (instance_item j ∷ is) all d k =
      (elim (opened c j) as (λ o. opened c j ≡ o → Member d (cons_option o (filter_map (child_of c) is)) → IsWritten d) [
        | None ↦ λ h g. child-written c m is (λ i w. all i (inr w)) d g
        | Some x ↦ λ h g. elim g [
          | inl w ↦ opened-written c m j d (h ∙ ap Some (sym w))
          | inr w ↦ child-written c m is (λ i v. all i (inr v)) d w
        ]
      ]) refl k

  below-written : (n : ℕ) (c : Component) → IsWritten c → (d : Component) → Member d (components_below n c) → IsWritten d
  below-written zero c m d k = elim k [ inl w ↦ subst IsWritten (sym w) m | inr w ↦ absurd w ]
  below-written (suc n) c m d k =
      elim k [
        | inl w ↦ subst IsWritten (sym w) m
        | inr w ↦
            let y = flat-cases n d (children c) w in
            below-written n y.0 (child-written c m (items_in (body_of c)) (λ i h. h) y.0 y.1) d y.2
      ]

  -- a component, as written, is a body
  pub components-written : (c : Component) → Member c (components_of t) → Member (as_written c) (bodies t)
  components-written c k = below-written most_objects (whole t) (inl refl) c k

  pub names-stay-written : (c : Component) → Member (as_written c) (bodies t) → (nm : Name) (x : ScopeEntry) → found c nm ≡ reached x → Member (as_written x.0) (bodies t) × IsOf x.0 x.1
  names-stay-written c m nm x h = found-good c m nm x h
