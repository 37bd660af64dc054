-- The own variables of all events are declared one after another, and the part of each event is that of its choices.
use Rattle.std.proofs.Common.{◌≡◌, ℕ, zero, suc, ◌+◌, ◌-◌, ◌<◌, ◌≤◌, List, [], ◌∷◌, ◌++◌, map, length, flat_map, Some, refl, sym, ap, subst, ◌∙◌, arith}
use Rattle.std.specs.Prelude.{slice_get}
use Rattle.std.specs.List.{enumerate_from, range_with_len}
use Rattle.std.proofs.lemmas.List.{length-append}
use Rattle.grammar.specs.Pieces.{Text}
use Rattle.cif_system.proofs.Lists.{none-some, some-same}
use Rattle.cif_net_model.specs.Net.{Net}
use Rattle.cif_net_model.specs.Listing.{NetChoice}
use Rattle.st_ast.specs.Tree.{Stms}
use Rattle.st_ast.specs.declared.tree.StVar.{StVar}
use Rattle.st_ast.specs.declared.tree.StClass.TheVariants as class
use Rattle.plc_model.specs.declared.letter.Letter.TheVariants as letter
use Rattle.plc_model.specs.Face.{VariableFace, declaration}
use Rattle.plc_model.specs.Frame.{Part, part_of}
use Rattle.plc_frame.specs.Events.{choices_of, own_name}
use Rattle.plc_frame.specs.Given.{asked, own_variables}
use Rattle.plc_event_model.specs.Parts.{event_part, event_faces}
use Rattle.plc_event_model.specs.ProgramParts.{parts_from}
use Rattle.plc_gen_laws.proofs.Places.{get-left, get-right}

-- ---- lists

-- the declarations of own variables that are numbered from j
abbrev pub owns : ℕ → List VariableFace → List StVar
owns j xs = map (declaration letter.T class.Plain) (enumerate_from j xs)

pub owns-append : (j : ℕ) (xs ys : List VariableFace) → owns j (xs ++ ys) ≡ owns j xs ++ owns (j + length xs) ys
owns-append j [] ys = let e : j ≡ j + 0 = omega arith in ap (λ i. owns i ys) e
owns-append j (x ∷ xs) ys =
    let e : (j + 1) + length xs ≡ j + suc (length xs) = omega arith in
    ap (λ r. declaration letter.T class.Plain (j, x) ∷ r) (owns-append (j + 1) xs ys ∙ ap (λ i. owns (j + 1) xs ++ owns i ys) e)

pub owns-length : (j : ℕ) (xs : List VariableFace) → length (owns j xs) ≡ length xs
owns-length j [] = refl
owns-length j (x ∷ xs) = ap suc (owns-length (j + 1) xs)

owns-names : (j : ℕ) (xs : List VariableFace) → map (λ (v : StVar). v.name) (owns j xs) ≡ map own_name (enumerate_from j xs)
owns-names j [] = refl
owns-names j (x ∷ xs) = ap (λ r. own_name (j, x) ∷ r) (owns-names (j + 1) xs)

pub range-at : (k len i : ℕ) → i < len → slice_get (range_with_len k len) i ≡ Some (k + i)
range-at k zero i h = absurd (omega (arith, h))
range-at k (suc len) zero h = let e : k ≡ k + 0 = omega arith in ap Some e
range-at k (suc len) (suc i) h = let e : (k + 1) + i ≡ k + suc i = omega arith in range-at (k + 1) len i (omega (arith, h)) ∙ ap Some e

-- ---- events

module _ (n : Net) (cs : List NetChoice) where
  -- the own variables of an event
  abbrev faces_at : ℕ → List VariableFace
  faces_at e = event_faces n (choices_of cs e)

  -- those of these events, one after the other
  abbrev pub faces_of : List ℕ → List VariableFace
  faces_of es = flat_map (λ e. event_faces n (choices_of cs e)) es

  pub own-are : (j : ℕ) (es : List ℕ) → own_variables (parts_from n cs j es) ≡ owns j (faces_of es)
  own-are j [] = refl
  own-are j (e ∷ es) = ap (λ r. owns j (faces_at e) ++ r) (own-are (j + length (faces_at e)) es) ∙ sym (owns-append j (faces_at e) (faces_of es))

  -- The part of the event is that of its choices, whose own variables have numbers from some one on and stand so among all.
  pub record HasPart (j : ℕ) (es : List ℕ) (i e : ℕ) : Type 0 where
    pub number : ℕ
    pub from : j ≤ number
    pub room : number + length (event_faces n (choices_of cs e)) ≤ j + length (faces_of es)
    pub is : part_of (map asked (parts_from n cs j es)) i ≡ event_part n number (choices_of cs e)
    pub among : (a b : ℕ) (x : VariableFace) → slice_get (event_faces n (choices_of cs e)) a ≡ Some x → j + b ≡ number + a → slice_get (faces_of es) b ≡ Some x

  abbrev with_own : List Text → Stms → Part
  with_own o ss = record { own = o; body = ss }

  pub has-part : (j : ℕ) (es : List ℕ) (i e : ℕ) → slice_get es i ≡ Some e → HasPart j es i e
  has-part j [] i e at = absurd (none-some e at)
  has-part j (d ∷ es) zero e at = subst (HasPart j (d ∷ es) 0) (some-same d e at) first
    where
      first : HasPart j (d ∷ es) 0 d
      first = record {
        number = j;
        from = omega arith;
        room = let long = length-append (faces_at d) (faces_of es) in omega (arith, long);
        is = ap (λ o. with_own o (event_part n j (choices_of cs d)).body) (owns-names j (faces_at d));
        among = λ a b x is q.
            let same : a ≡ b = omega (arith, q) in
            get-left (faces_at d) (faces_of es) b x (subst (λ i. slice_get (faces_at d) i ≡ Some x) same is);
      }
  has-part j (d ∷ es) (suc i) e at =
      let rest = has-part (j + length (faces_at d)) es i e at in
      let long = length-append (faces_at d) (faces_of es) in
      let from = rest.from in
      let room = rest.room in
      record {
        number = rest.number;
        from = omega (arith, from);
        room = omega (arith, room, long);
        is = rest.is;
        among = λ a b x is q.
            let split : b ≡ length (faces_at d) + (b - length (faces_at d)) = omega (arith, q, from) in
            ap (slice_get (faces_of (d ∷ es))) split ∙ get-right (faces_at d) (faces_of es) (b - length (faces_at d))
            ∙ rest.among a (b - length (faces_at d)) x is (omega (arith, q, from));
      }
