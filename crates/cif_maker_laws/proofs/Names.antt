-- Each name of a made source finds what its position asks for.
use Rattle.std.proofs.Common.{◌≡◌, ℕ, zero, suc, ◌+◌, ◌<◌, ◌⊎◌, Bool, true, false, not, List, [], ◌∷◌, ◌++◌, Option, Some, None, refl, sym, ap, subst, ◌∙◌, arith, codes, inl, inr}
use Rattle.std.specs.Prelude.{flat_map, filter_map, IsTrue, ◌%◌}
use Rattle.std.specs.List.{Any, AllByRecursion, range_with_len}
use Rattle.cif_ast.specs.declared.names.Name.{Name}
use Rattle.cif_source.specs.Source.{SourceItem, DeclTree, InstanceTree, list_of_items}
use Rattle.cif_source.specs.Components.{Component, whole, Entry, location, scope_of, entry_named}
use Rattle.cif_source.specs.Lookup.{ScopeEntry, reached, at_entry, go_on, inside, found, definition_found}
use Rattle.cif_source.specs.Objects.{bodies, decls_of, item_decls}
use Rattle.cif_source.specs.Uses.{Use, Asked, event_asked, value_asked, uses, item_uses, sought, is_asked, OwnName, own_names, own_ident, own_sought, is_own_asked, decl_own_names}
use Rattle.cif_source.specs.Scoping.{is_missing, is_wrong, UnknownName, UnknownOwn, UnknownDue, WrongName, WrongOwn, WrongCount, WrongKindDue, as_instance, instances_of, has_wrong_count}
use Rattle.cif_maker.specs.Draws.{has_need, next_of}
use Rattle.cif_maker.specs.MadeText.{numbered}
use Rattle.cif_maker_laws.specs.MadeTree.{name_at, dotted_at}
use Rattle.cif_maker_laws.proofs.Bodies.{not_true, any_none, each-append, made, made_bodies, at_of, need_at_of, plant_of, items_for, by_blocks, each_item}
use Rattle.cif_maker_laws.proofs.Lookups.{IsShort, uncontrollable_entry, controllable_entry, sensor_entry, uncontrollable_declared, controllable_declared, sensor_declared, plant_declared}

-- ---- numbers in a range

pub each_in_range : {A : Type 0} (P : A → Type 0) (f : ℕ → List A) (a n : ℕ) → ((i : ℕ) → i < a + n → AllByRecursion P (f i)) → AllByRecursion P (flat_map f (range_with_len a n))
each_in_range P f a zero h = tt
each_in_range P f a (suc n) h = each-append P (f a) (flat_map f (range_with_len (a + 1) n)) (h a (omega arith)) (each_in_range P f (a + 1) n (λ i l. h i (omega arith)))

pub next_small : (size i : ℕ) → i < size → next_of size i < size
next_small zero i l = absurd (omega arith)
next_small (suc n) i l = go (i + 1)
  where
    go : (k : ℕ) → k % suc n < suc n
    go k = omega arith

module _ (seed size : ℕ) (short : IsShort size) where
  -- what is refused of the whole and of each plant below the size is refused
  pub in_no_body_below : (P : Component → Type 0) → (P (whole (made seed size)) → ⊥) → ((i : ℕ) → i < size → P (plant_of seed size i) → ⊥) → Any P (bodies (made seed size)) → ⊥
  in_no_body_below P top each a =
      any_none P (whole (made seed size) ∷ flat_map (λ i. plant_of seed size i ∷ []) (range_with_len 0 size))
      (top, each_in_range (λ c. P c → ⊥) (λ i. plant_of seed size i ∷ []) 0 size (λ i l. (each i (omega arith), tt)))
      (subst (λ cs. Any P cs) (made_bodies seed size) a)

  pub each_item_below : {A : Type 0} (P : A → Type 0) (f : SourceItem → List A) → ((b : Bool) (i : ℕ) → i < size → AllByRecursion P (flat_map f (items_for seed size b i))) → AllByRecursion P (flat_map f (list_of_items (made seed size)))
  each_item_below P f h = subst (λ xs. AllByRecursion P xs) (sym (by_blocks seed size f))
      (each_in_range P (λ i. flat_map f (items_for seed size (has_need seed size i) i)) 0 size (λ i l. h (has_need seed size i) i (omega arith)))

  -- ---- what names find

  -- what the specification declares is found there
  in_whole : (e : Entry) (o : Option Entry) → o ≡ Some e → go_on (λ y. inside y []) (at_entry (whole (made seed size)) o) ≡ reached (whole (made seed size), e)
  in_whole e o h = ap (λ p. go_on (λ y. inside y []) (at_entry (whole (made seed size)) p)) h

  pub u_found : (i k : ℕ) → i < size → found (plant_of seed size i) (name_at (numbered (codes "u") i) k) ≡ reached (whole (made seed size), uncontrollable_entry seed size i)
  u_found i k l = in_whole (uncontrollable_entry seed size i) (entry_named (numbered (codes "u") i) (scope_of (whole (made seed size)))) (uncontrollable_declared seed size short i l)

  pub c_found : (i k : ℕ) → i < size → found (plant_of seed size i) (name_at (numbered (codes "c") i) k) ≡ reached (whole (made seed size), controllable_entry seed size i)
  c_found i k l = in_whole (controllable_entry seed size i) (entry_named (numbered (codes "c") i) (scope_of (whole (made seed size)))) (controllable_declared seed size short i l)

  pub s_found : (i k : ℕ) → i < size → found (plant_of seed size i) (name_at (numbered (codes "s") i) k) ≡ reached (whole (made seed size), sensor_entry seed size i)
  s_found i k l = in_whole (sensor_entry seed size i) (entry_named (numbered (codes "s") i) (scope_of (whole (made seed size)))) (sensor_declared seed size short i l)

  pub c_found_above : (i k : ℕ) → i < size → found (whole (made seed size)) (name_at (numbered (codes "c") i) k) ≡ reached (whole (made seed size), controllable_entry seed size i)
  c_found_above i k l = in_whole (controllable_entry seed size i) (entry_named (numbered (codes "c") i) (scope_of (whole (made seed size)))) (controllable_declared seed size short i l)

  -- the location of the next plant
  pub idle_found : (j k l : ℕ) → j < size → found (whole (made seed size)) (dotted_at (numbered (codes "A") j) (codes "idle") k l) ≡ reached (plant_of seed size j, location 0)
  idle_found j k l m = ap (λ p. go_on (λ y. inside y (record { text = codes "idle"; at = l } ∷ [])) (at_entry (whole (made seed size)) p)) (plant_declared seed size short j m)

  -- ---- names of all scopes

  Fine : Component → Use → Type 0
  Fine c u = (is_missing (sought c u) ≡ false) × (is_wrong (is_asked u.asks) (sought c u) ≡ false)

  fine : (c : Component) (nm : Name) (a : Asked) (p : ScopeEntry) → found c nm ≡ reached p → sought c (record { name = nm; asks = a }) ≡ found c nm → is_asked a p.1 ≡ true → Fine c (record { name = nm; asks = a })
  unfolding Fine
  fine c nm a p e g h = (ap is_missing (g ∙ e), ap (is_wrong (is_asked a)) (g ∙ e) ∙ ap not h)

  plant_uses_fine : (i : ℕ) → i < size → AllByRecursion (Fine (plant_of seed size i)) (uses (plant_of seed size i))
  unfolding Fine
  plant_uses_fine i l =
      let c = plant_of seed size i in
      let at : ℕ → ℕ = at_of seed size i in (
        fine c (name_at (numbered (codes "u") i) (at 19)) event_asked (whole (made seed size), uncontrollable_entry seed size i) (u_found i (at 19) l) refl refl,
        (
          fine c (name_at (numbered (codes "s") i) (at 21)) value_asked (whole (made seed size), sensor_entry seed size i) (s_found i (at 21) l) refl refl,
          (
            (refl, refl),
            (
              (refl, refl),
              (
                (refl, refl),
                (fine c (name_at (numbered (codes "c") i) (at 37)) event_asked (whole (made seed size), controllable_entry seed size i) (c_found i (at 37) l) refl refl, tt),
              ),
            ),
          ),
        ),
      )

  whole_uses_fine : AllByRecursion (Fine (whole (made seed size))) (uses (whole (made seed size)))
  whole_uses_fine = each_item_below (Fine (whole (made seed size))) (item_uses (whole (made seed size))) block
    where
      block : (b : Bool) (i : ℕ) → i < size → AllByRecursion (Fine (whole (made seed size))) (flat_map (item_uses (whole (made seed size))) (items_for seed size b i))
      block true i l =
          let c = whole (made seed size) in
          let at : ℕ → ℕ = need_at_of seed size i in
          let j = next_of size i in (
            fine c (name_at (numbered (codes "c") i) (at 1)) event_asked (whole (made seed size), controllable_entry seed size i) (c_found_above i (at 1) l) refl refl,
            (fine c (dotted_at (numbered (codes "A") j) (codes "idle") (at 3) (at 5)) value_asked (plant_of seed size j, location 0) (idle_found j (at 3) (at 5) (next_small size i l)) refl refl, tt),
          )
      block false i l = tt

  -- ---- names of the own scope

  OwnFine : Component → OwnName → Type 0
  OwnFine c n = (is_missing (own_sought c n) ≡ false) × (is_wrong (is_own_asked n) (own_sought c n) ≡ false)

  plant_own_fine : (i : ℕ) → AllByRecursion (OwnFine (plant_of seed size i)) (own_names (plant_of seed size i))
  unfolding OwnFine
  plant_own_fine i = ((refl, refl), ((refl, refl), tt))

  no_own : (ds : List DeclTree) → AllByRecursion (λ d. decl_own_names d ≡ []) ds → flat_map decl_own_names ds ≡ []
  no_own [] h = refl
  no_own (d ∷ ds) h = ap (λ u. u ++ flat_map decl_own_names ds) h.0 ∙ no_own ds h.1

  whole_own : own_names (whole (made seed size)) ≡ []
  whole_own = ap (λ u. u ++ []) (no_own (decls_of (whole (made seed size))) (each_item seed size (λ d. decl_own_names d ≡ []) item_decls block))
    where
      block : (b : Bool) (i : ℕ) → AllByRecursion (λ d. decl_own_names d ≡ []) (flat_map item_decls (items_for seed size b i))
      block true i = (refl, (refl, (refl, (refl, tt))))
      block false i = (refl, (refl, (refl, tt)))

  -- ---- the rules

  none_due : {A : Type 0} (xs : List A) (Fits : A → Type 0) (test : A → Bool) (place : A → ℕ) (at : ℕ) → ((x : A) → Fits x → test x ≡ false) → AllByRecursion Fits xs → Any (λ x. (place x ≡ at) × IsTrue (test x)) xs → ⊥
  none_due {A = A} xs Fits test place at off h a = any_none (λ x. (place x ≡ at) × IsTrue (test x)) xs (each xs h) a
    where
      each : (xs : List A) → AllByRecursion Fits xs → AllByRecursion (λ x. (place x ≡ at) × IsTrue (test x) → ⊥) xs
      each [] h = tt
      each (x ∷ xs) h = ((λ w. not_true (test x) (off x h.0) w.1), each xs h.1)

  pub all_known : (at : ℕ) → UnknownDue (made seed size) at → ⊥
  unfolding Fine OwnFine
  all_known at = in_no_body_below (λ c. UnknownName c at ⊎ UnknownOwn c at) top plant
    where
      names : (c : Component) → AllByRecursion (Fine c) (uses c) → UnknownName c at → ⊥
      names c h = none_due (uses c) (Fine c) (λ u. is_missing (sought c u)) (λ u. u.name.at) at (λ u f. f.0) h

      own : (c : Component) → AllByRecursion (OwnFine c) (own_names c) → UnknownOwn c at → ⊥
      own c h = none_due (own_names c) (OwnFine c) (λ n. is_missing (own_sought c n)) (λ n. (own_ident n).at) at (λ n f. f.0) h

      top : UnknownName (whole (made seed size)) at ⊎ UnknownOwn (whole (made seed size)) at → ⊥
      top (inl a) = names (whole (made seed size)) whole_uses_fine a
      top (inr a) = own (whole (made seed size)) (subst (λ ns. AllByRecursion (OwnFine (whole (made seed size))) ns) (sym whole_own) tt) a

      plant : (i : ℕ) → i < size → UnknownName (plant_of seed size i) at ⊎ UnknownOwn (plant_of seed size i) at → ⊥
      plant i l (inl a) = names (plant_of seed size i) (plant_uses_fine i l) a
      plant i l (inr a) = own (plant_of seed size i) (plant_own_fine i) a

  -- ---- no instances

  no_instance : (xs : List SourceItem) → AllByRecursion (λ x. as_instance x ≡ None) xs → filter_map as_instance xs ≡ []
  no_instance [] h = refl
  no_instance (x ∷ xs) h = rw h.0 (no_instance xs h.1)

  just : SourceItem → List SourceItem
  just x = x ∷ []

  themselves : (xs : List SourceItem) → flat_map just xs ≡ xs
  unfolding just
  themselves [] = refl
  themselves (x ∷ xs) = ap (λ u. x ∷ u) (themselves xs)

  pub whole_instances : instances_of (whole (made seed size)) ≡ []
  unfolding just
  whole_instances = no_instance (list_of_items (made seed size)) (subst (λ xs. AllByRecursion (λ x. as_instance x ≡ None) xs) (themselves (list_of_items (made seed size)))
      (each_item seed size (λ x. as_instance x ≡ None) just block))
    where
      block : (b : Bool) (i : ℕ) → AllByRecursion (λ x. as_instance x ≡ None) (flat_map just (items_for seed size b i))
      block true i = (refl, (refl, (refl, (refl, (refl, tt)))))
      block false i = (refl, (refl, (refl, (refl, tt))))

  pub all_of_their_sort : (at : ℕ) → WrongKindDue (made seed size) at → ⊥
  unfolding Fine OwnFine
  all_of_their_sort at = in_no_body_below (λ c. WrongName c at ⊎ WrongOwn c at ⊎ WrongCount c at) top plant
    where
      names : (c : Component) → AllByRecursion (Fine c) (uses c) → WrongName c at → ⊥
      names c h = none_due (uses c) (Fine c) (λ u. is_wrong (is_asked u.asks) (sought c u)) (λ u. u.name.at) at (λ u f. f.1) h

      own : (c : Component) → AllByRecursion (OwnFine c) (own_names c) → WrongOwn c at → ⊥
      own c h = none_due (own_names c) (OwnFine c) (λ n. is_wrong (is_own_asked n) (own_sought c n)) (λ n. (own_ident n).at) at (λ n f. f.1) h

      counts : (c : Component) → instances_of c ≡ [] → WrongCount c at → ⊥
      counts c e a = any_none (Wrong c) [] tt (subst (λ is. Any (Wrong c) is) e a)
        where
          Wrong : Component → InstanceTree → Type 0
          Wrong c i = (i.name.at ≡ at) × IsTrue (has_wrong_count i (definition_found c i))

      top : WrongName (whole (made seed size)) at ⊎ WrongOwn (whole (made seed size)) at ⊎ WrongCount (whole (made seed size)) at → ⊥
      top (inl a) = names (whole (made seed size)) whole_uses_fine a
      top (inr (inl a)) = own (whole (made seed size)) (subst (λ ns. AllByRecursion (OwnFine (whole (made seed size))) ns) (sym whole_own) tt) a
      top (inr (inr a)) = counts (whole (made seed size)) whole_instances a

      plant : (i : ℕ) → i < size → WrongName (plant_of seed size i) at ⊎ WrongOwn (plant_of seed size i) at ⊎ WrongCount (plant_of seed size i) at → ⊥
      plant i l (inl a) = names (plant_of seed size i) (plant_uses_fine i l) a
      plant i l (inr (inl a)) = own (plant_of seed size i) (plant_own_fine i) a
      plant i l (inr (inr a)) = counts (plant_of seed size i) refl a
