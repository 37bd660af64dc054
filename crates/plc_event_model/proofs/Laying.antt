-- The own variables of an event, which stand one after another, are as the statements of its choices ask for them.
use Rattle.std.proofs.Common.{◌≡◌, ◌≢◌, ℕ, zero, suc, ◌+◌, ◌-◌, ◌<◌, ◌≤◌, Bool, true, false, ◌||◌, List, [], ◌∷◌, ◌++◌, map, length, flat_map, Option, Some, None, nat_eq, inl, inr, refl, sym, ap, subst, ◌∙◌, arith, eqb-true, if◌then◌else◌}
use Rattle.std.specs.Prelude.{codes, slice_get, option_map}
use Rattle.std.specs.List.{enumerate_from}
use Rattle.std.proofs.lemmas.List.{length-append}
use Rattle.std.proofs.lemmas.Option.{slice_get-map}
use Rattle.grammar.specs.Pieces.{Text}
use Rattle.cif_base.specs.declared.types.Ty.{Ty}
use Rattle.cif_system.specs.Words.{Member}
use Rattle.cif_system.proofs.Lists.{map-length, none-some, some-same}
use Rattle.cif_net_expr.specs.Tree.{NetUpdates}
use Rattle.cif_net_model.specs.Net.{NetStored, Net}
use Rattle.cif_net_model.specs.Exprs.{targets}
use Rattle.cif_net_model.specs.Facts.{has}
use Rattle.cif_net_model.specs.Listing.{NetChoice}
use Rattle.st_ast.specs.Tree.{Program}
use Rattle.st_ast.specs.Names.{same_name, place_of}
use Rattle.st_ast.specs.declared.tree.StTy.{StTy}
use Rattle.st_ast.specs.declared.tree.StTy.TheVariants as ty
use Rattle.plc_model.specs.declared.letter.Letter.TheVariants as letter
use Rattle.plc_model.specs.Names.{name_for}
use Rattle.plc_model.specs.Face.{VariableFace, IsDeclared}
use Rattle.plc_model.proofs.NameLaws.{names-differ}
use Rattle.plc_model.proofs.FaceLaws.{below}
use Rattle.plc_frame.specs.Events.{own_name}
use Rattle.plc_expr.specs.Texts.{Naming}
use Rattle.plc_event_model.specs.Writes.{NewNames, any_tested}
use Rattle.plc_event_model.specs.Sends.{event_type}
use Rattle.plc_event_model.specs.Own.{choice_types, net_faces, event_vars, faces_sent, if_face, new_face, new_face_of, new_names, place_in, range_face, range_faces, sent_face, sent_faces, sent_number, tests_range}
use Rattle.plc_event_model.specs.Declared.{IsTemp, IsNew, OwnStand}
use Rattle.plc_event_model.proofs.Kept.{Declares}
use Rattle.plc_event_model.specs.Parts.{AreDeclared, all_temps, event_first, done_faces, event_faces, event_naming, ifs_from}

-- ---- lists

get-left : {A : Type 0} (xs ys : List A) (i : ℕ) (x : A) → slice_get xs i ≡ Some x → slice_get (xs ++ ys) i ≡ Some x
get-left [] ys i x e = absurd (none-some x e)
get-left (z ∷ xs) ys zero x e = e
get-left (z ∷ xs) ys (suc i) x e = get-left xs ys i x e

get-right : {A : Type 0} (xs ys : List A) (i : ℕ) → slice_get (xs ++ ys) (length xs + i) ≡ slice_get ys i
get-right [] ys i = let e : 0 + i ≡ i = omega arith in ap (slice_get ys) e
get-right (z ∷ xs) ys i = let e : suc (length xs) + i ≡ suc (length xs + i) = omega arith in ap (slice_get (z ∷ (xs ++ ys))) e ∙ get-right xs ys i

get-below : {A : Type 0} (xs : List A) (i : ℕ) → i < length xs → (x : A) × (slice_get xs i ≡ Some x)
get-below [] i h = absurd (omega (arith, h))
get-below (x ∷ xs) zero h = (x, refl)
get-below (x ∷ xs) (suc i) h = get-below xs i (omega (arith, h))

-- a variable of the list stands where it is found
position-at : (vs : List ℕ) (v : ℕ) → has vs v ≡ true → slice_get vs (place_in vs v) ≡ Some v
position-at [] v h = absurd cc
position-at (u ∷ vs) v h = go (nat_eq v u) refl (λ q. position-at vs v q)
  where
    go : (b : Bool) → nat_eq v u ≡ b → (has vs v ≡ true → slice_get vs (place_in vs v) ≡ Some v)
        → slice_get (u ∷ vs) (if b then 0 else suc (place_in vs v)) ≡ Some v
    go true e rest = ap Some (sym (eqb-true v u e))
    go false e rest = rest (other (nat_eq v u) (has vs v) e h)
      where
        other : (a b : Bool) → a ≡ false → (a || b) ≡ true → b ≡ true
        other true b e h = absurd cc
        other false b e h = h

member-at : (j : ℕ) (xs : List VariableFace) (i : ℕ) (x : VariableFace) → slice_get xs i ≡ Some x → Member (name_for letter.T (j + i) x.path) (map own_name (enumerate_from j xs))
member-at j [] i x e = absurd (none-some x e)
member-at j (z ∷ xs) zero x e = let q : j + 0 ≡ j = omega arith in inl (ap (λ k. name_for letter.T k x.path) q ∙ ap (λ (q : VariableFace). name_for letter.T j q.path) (sym (some-same z x e)))
member-at j (z ∷ xs) (suc i) x e = inr (subst (λ k. Member (name_for letter.T k x.path) (map own_name (enumerate_from (j + 1) xs))) (omega arith) (member-at (j + 1) xs i x e))

-- ---- the variables of an event

module _ (n : Net) (p : Program) (base j : ℕ) (cs : List NetChoice) (d : AreDeclared p base j (event_faces n cs)) (count_is : length (flat_map (choice_types n) cs) ≡ all_temps n cs)
    (vars_there : (v : ℕ) → has (event_vars cs) v ≡ true → (q : NetStored) × (slice_get n.vars v ≡ Some q)) where
  abbrev pub own_names : List Text
  own_names = map own_name (enumerate_from j (event_faces n cs))

  abbrev pub naming : Naming
  naming = event_naming n cs j

  abbrev pub new : NewNames
  new = new_names n cs (event_first n cs j)

  abbrev pub first_own : ℕ
  first_own = ifs_from n cs j

  abbrev pub end_own : ℕ
  end_own = first_own + all_temps n cs

  temp-at : (i : ℕ) (x : VariableFace) → slice_get (event_faces n cs) i ≡ Some x → IsTemp p own_names (name_for letter.T (j + i) x.path) x.ty
  temp-at i x at =
      let above = d.above in
      let small = d.small in
      let inside = below (event_faces n cs) i x at in
      record {
        number = j + i;
        path = x.path;
        above = omega (arith, above);
        small = omega (arith, small, inside);
        name = refl;
        is_declared = d.each i x at;
        among = member-at j (event_faces n cs) i x at;
      }

  -- where the parts begin
  abbrev dones : ℕ
  dones = length (done_faces n cs)

  abbrev ranges : ℕ
  ranges = length (range_faces n cs)

  abbrev news : ℕ
  news = length (event_vars cs)

  abbrev sents : ℕ
  sents = length (sent_faces n cs)

  -- the values of the `if`s
  abbrev ifs : List VariableFace
  ifs = map if_face (flat_map (choice_types n) cs)

  news-length : length (map (new_face n) (event_vars cs)) ≡ news
  news-length = map-length (new_face n) (event_vars cs)

  -- the mark that new values are in range
  range-at : tests_range n cs ≡ true → slice_get (event_faces n cs) (dones + 0) ≡ Some range_face
  range-at t =
      get-right (done_faces n cs) (net_faces n cs) 0
      ∙ get-left (range_faces n cs) (map (new_face n) (event_vars cs) ++ (sent_faces n cs ++ ifs)) 0 range_face
      (ap (λ b. slice_get (if b then range_face ∷ [] else []) 0) t)

  new-at : (v : ℕ) → has (event_vars cs) v ≡ true → slice_get (event_faces n cs) (dones + (ranges + place_in (event_vars cs) v)) ≡ Some (new_face n v)
  new-at v h =
      get-right (done_faces n cs) (net_faces n cs) (ranges + place_in (event_vars cs) v)
      ∙ get-right (range_faces n cs) (map (new_face n) (event_vars cs) ++ (sent_faces n cs ++ ifs)) (place_in (event_vars cs) v)
      ∙ get-left (map (new_face n) (event_vars cs)) (sent_faces n cs ++ ifs) (place_in (event_vars cs) v) (new_face n v)
      (slice_get-map (new_face n) (event_vars cs) (place_in (event_vars cs) v) ∙ ap (option_map (new_face n)) (position-at (event_vars cs) v h))

  -- past the new values
  behind-news : (i : ℕ) → slice_get (event_faces n cs) (dones + (ranges + (news + i))) ≡ slice_get (sent_faces n cs ++ ifs) i
  behind-news i =
      get-right (done_faces n cs) (net_faces n cs) (ranges + (news + i))
      ∙ get-right (range_faces n cs) (map (new_face n) (event_vars cs) ++ (sent_faces n cs ++ ifs)) (news + i)
      ∙ ap (λ q. slice_get (map (new_face n) (event_vars cs) ++ (sent_faces n cs ++ ifs)) (q + i)) (sym news-length)
      ∙ get-right (map (new_face n) (event_vars cs)) (sent_faces n cs ++ ifs) i

  -- what is sent
  sent-at : (t : Ty) → event_type n cs ≡ Some t → slice_get (event_faces n cs) (dones + (ranges + (news + 0))) ≡ Some (sent_face t)
  sent-at t is = behind-news 0 ∙ ap (λ u. slice_get (faces_sent u ++ ifs) 0) is

  one-sent : (t : Ty) → event_type n cs ≡ Some t → sents ≡ 1
  one-sent t is = ap (λ u. length (faces_sent u)) is

  if-at : (i : ℕ) (t : StTy) → slice_get (flat_map (choice_types n) cs) i ≡ Some t → slice_get (event_faces n cs) (dones + (ranges + (news + (sents + i)))) ≡ Some (if_face t)
  if-at i t at =
      behind-news (sents + i) ∙ get-right (sent_faces n cs) ifs i
      ∙ slice_get-map if_face (flat_map (choice_types n) cs) i ∙ ap (option_map if_face) at

  -- ---- names

  pub temp-named : (i k : ℕ) (x : VariableFace) → slice_get (event_faces n cs) i ≡ Some x → j + i ≡ k → IsTemp p own_names (name_for letter.T k x.path) x.ty
  temp-named i k x at e = subst (λ q. IsTemp p own_names (name_for letter.T q x.path) x.ty) e (temp-at i x at)

  -- two numbers of own variables make two names
  apart : (i k : ℕ) (x z : VariableFace) → slice_get (event_faces n cs) i ≡ Some x → slice_get (event_faces n cs) k ≡ Some z → (a b : ℕ) → j + i ≡ a → j + k ≡ b → i ≢ k
      → same_name (name_for letter.T a x.path) (name_for letter.T b z.path) ≡ false
  apart i k x z at_i at_k a b e q other =
      let small = d.small in
      let in_i = below (event_faces n cs) i x at_i in
      let in_k = below (event_faces n cs) k z at_k in
      names-differ letter.T letter.T a b x.path z.path (omega (arith, small, in_i, e)) (omega (arith, small, in_k, q)) (inr (λ h. other (omega (arith, h, e, q))))

  types-below : (k : ℕ) → first_own ≤ k → k < end_own → (t : StTy) × (slice_get (flat_map (choice_types n) cs) (k - first_own) ≡ Some t)
  types-below k from below_k = get-below (flat_map (choice_types n) cs) (k - first_own) (omega (arith, count_is, from, below_k))

  pub faces-length : length (event_faces n cs) ≡ dones + (ranges + (news + (sents + all_temps n cs)))
  faces-length =
      length-append (done_faces n cs) (net_faces n cs)
      ∙ ap (λ q. dones + q) (length-append (range_faces n cs) (map (new_face n) (event_vars cs) ++ (sent_faces n cs ++ ifs)))
      ∙ ap (λ q. dones + (ranges + q)) (length-append (map (new_face n) (event_vars cs)) (sent_faces n cs ++ ifs))
      ∙ ap (λ q. dones + (ranges + (q + length (sent_faces n cs ++ ifs)))) news-length
      ∙ ap (λ q. dones + (ranges + (news + q))) (length-append (sent_faces n cs) ifs)
      ∙ ap (λ q. dones + (ranges + (news + (sents + q)))) (map-length if_face (flat_map (choice_types n) cs) ∙ count_is)

  module _ (us : NetUpdates) (sub : (v : ℕ) → has (targets us) v ≡ true → has (event_vars cs) v ≡ true) (tests : any_tested n us ≡ true → tests_range n cs ≡ true) where
    is-new : (v : ℕ) → has (targets us) v ≡ true → IsNew n p own_names new v
    is-new v h =
        let q = vars_there v (sub v h) in
        record {
          stored = q.0;
          at = q.1;
          temp = subst (λ t. IsTemp p own_names (new.next v) t) (ap (λ o. (new_face_of o).ty) q.1)
              (temp-named (dones + (ranges + place_in (event_vars cs) v)) (event_first n cs j + ranges + place_in (event_vars cs) v) (new_face n v) (new-at v (sub v h)) (omega arith));
        }

    one-place : (v u : ℕ) → has (event_vars cs) v ≡ true → has (event_vars cs) u ≡ true → v ≢ u → place_in (event_vars cs) v ≢ place_in (event_vars cs) u
    one-place v u h g other e = other (some-same v u (sym (position-at (event_vars cs) v h) ∙ ap (slice_get (event_vars cs)) e ∙ position-at (event_vars cs) u g))

    place-below : (v : ℕ) → has (event_vars cs) v ≡ true → place_in (event_vars cs) v < news
    place-below v h = below (event_vars cs) (place_in (event_vars cs) v) v (position-at (event_vars cs) v h)

    one-range : tests_range n cs ≡ true → ranges ≡ 1
    one-range t = ap (λ b. length (if b then range_face ∷ [] else [])) t

    pub stands : OwnStand n p own_names naming new base first_own end_own (event_type n cs) us
    stands = record {
      next = is-new;
      next_apart = λ v u h g other.
          apart (dones + (ranges + place_in (event_vars cs) v)) (dones + (ranges + place_in (event_vars cs) u)) (new_face n v) (new_face n u) (new-at v (sub v h)) (new-at u (sub u g))
          (event_first n cs j + ranges + place_in (event_vars cs) v) (event_first n cs j + ranges + place_in (event_vars cs) u) (omega arith) (omega arith)
          (let o = one-place v u (sub v h) (sub u g) other in λ e. o (omega (arith, e)));
      next_own = λ v k h from below_k.
          let t = types-below k from below_k in
          let in_v = place-below v (sub v h) in
          apart (dones + (ranges + place_in (event_vars cs) v)) (dones + (ranges + (news + (sents + (k - first_own))))) (new_face n v) (if_face t.0) (new-at v (sub v h)) (if-at (k - first_own) t.0 t.1)
          (event_first n cs j + ranges + place_in (event_vars cs) v) k (omega arith) (omega (arith, from)) (λ e. omega (arith, e, in_v));
      mark = λ t. temp-named (dones + 0) (event_first n cs j) range_face (range-at (tests t)) (omega arith);
      mark_apart = λ v t h.
          let one = one-range (tests t) in
          apart (dones + 0) (dones + (ranges + place_in (event_vars cs) v)) range_face (new_face n v) (range-at (tests t)) (new-at v (sub v h))
          (event_first n cs j) (event_first n cs j + ranges + place_in (event_vars cs) v) (omega arith) (omega arith) (λ e. omega (arith, e, one));
      mark_own = λ k t from below_k.
          let one = one-range (tests t) in
          let q = types-below k from below_k in
          apart (dones + 0) (dones + (ranges + (news + (sents + (k - first_own))))) range_face (if_face q.0) (range-at (tests t)) (if-at (k - first_own) q.0 q.1)
          (event_first n cs j) k (omega arith) (omega (arith, from)) (λ e. omega (arith, e, one));
      sent = λ t is. temp-named (dones + (ranges + (news + 0))) (sent_number n cs (event_first n cs j)) (sent_face t) (sent-at t is) (omega arith);
      sent_next = λ t v is h.
          let in_v = place-below v (sub v h) in
          apart (dones + (ranges + (news + 0))) (dones + (ranges + place_in (event_vars cs) v)) (sent_face t) (new_face n v) (sent-at t is) (new-at v (sub v h))
          (sent_number n cs (event_first n cs j)) (event_first n cs j + ranges + place_in (event_vars cs) v) (omega arith) (omega arith) (λ e. omega (arith, e, in_v));
      sent_mark = λ t is tested.
          let one = one-range (tests tested) in
          apart (dones + (ranges + (news + 0))) (dones + 0) (sent_face t) range_face (sent-at t is) (range-at (tests tested))
          (sent_number n cs (event_first n cs j)) (event_first n cs j) (omega arith) (omega arith) (λ e. omega (arith, e, one));
      sent_own = λ t k is from below_k.
          let one = one-sent t is in
          let q = types-below k from below_k in
          apart (dones + (ranges + (news + 0))) (dones + (ranges + (news + (sents + (k - first_own))))) (sent_face t) (if_face q.0) (sent-at t is) (if-at (k - first_own) q.0 q.1)
          (sent_number n cs (event_first n cs j)) k (omega arith) (omega (arith, from)) (λ e. omega (arith, e, one));
      own_type = λ k. elim (slice_get (flat_map (choice_types n) cs) (k - first_own)) [ None ↦ ty.Bool | Some t ↦ t ];
      own_temp = λ k from below_k.
          let q = types-below k from below_k in
          subst (λ t. IsTemp p own_names (naming.own k) t) (ap (λ (o : Option StTy). elim o [ None ↦ ty.Bool | Some t ↦ t ]) (sym q.1))
          (temp-named (dones + (ranges + (news + (sents + (k - first_own))))) k (if_face q.0) (if-at (k - first_own) q.0 q.1) (omega (arith, from)));
      own_places = λ k from below_k.
          let q = types-below k from below_k in
          let e : j + (dones + (ranges + (news + (sents + (k - first_own))))) ≡ k = omega (arith, from) in
          subst (λ i. place_of p.vars (name_for letter.T i (codes "if")) ≡ base + i) e (d.place (dones + (ranges + (news + (sents + (k - first_own))))) (if_face q.0) (if-at (k - first_own) q.0 q.1));
      own_inside = let inside = d.inside in omega (arith, inside, faces-length);
    }

  -- the own variables of the expressions are declared one after another
  declares-from : (ts : List StTy) (i : ℕ) → ((a : ℕ) (t : StTy) → slice_get ts a ≡ Some t → slice_get (flat_map (choice_types n) cs) (i + a) ≡ Some t) → Declares p.vars naming base (first_own + i) ts
  declares-from [] i at = tt
  declares-from (t ∷ ts) i at =
      let here : slice_get (flat_map (choice_types n) cs) i ≡ Some t = (let q : i + 0 ≡ i = omega arith in ap (slice_get (flat_map (choice_types n) cs)) (sym q)) ∙ at 0 t refl in
      let e : j + (dones + (ranges + (news + (sents + i)))) ≡ first_own + i = omega arith in (
        (
          subst (λ k. IsDeclared p.vars (name_for letter.T k (codes "if")) t) e (d.each (dones + (ranges + (news + (sents + i)))) (if_face t) (if-at i t here)),
          subst (λ k. place_of p.vars (name_for letter.T k (codes "if")) ≡ base + k) e (d.place (dones + (ranges + (news + (sents + i)))) (if_face t) (if-at i t here)),
        ),
        subst (λ k. Declares p.vars naming base k ts) (omega arith)
            (declares-from ts (i + 1) (λ a u is. (let q : i + 1 + a ≡ i + suc a = omega arith in ap (slice_get (flat_map (choice_types n) cs)) q) ∙ at (suc a) u is)),
      )

  pub declares-ifs : Declares p.vars naming base first_own (flat_map (choice_types n) cs)
  declares-ifs = subst (λ k. Declares p.vars naming base k (flat_map (choice_types n) cs)) (omega arith)
      (declares-from (flat_map (choice_types n) cs) 0 (λ a t is. (let q : 0 + a ≡ a = omega arith in ap (slice_get (flat_map (choice_types n) cs)) q) ∙ is))
