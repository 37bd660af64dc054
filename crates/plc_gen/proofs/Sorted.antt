-- Choices in the order of their events: those of each event stand together, and those of a net stand so.
use Rattle.std.proofs.Common.{◌≡◌, ◌≢◌, ℕ, zero, suc, ◌+◌, ◌<◌, ◌≤◌, Bool, true, false, cond, List, [], ◌∷◌, ◌++◌, map, length, flat_map, take, drop, nat_eq, refl, sym, ap, ap₂, subst, ◌∙◌, arith, if◌then◌else◌}
use Rattle.std.specs.List.{range_with_len}
use Rattle.std.proofs.lemmas.Bool.Decides.{nat_tests}
use Rattle.std.proofs.lemmas.List.{map-append}
use Rattle.cif_system.specs.Choices.{choices}
use Rattle.cif_system.specs.Step.{Choice}
use Rattle.cif_system.specs.System.{System}
use Rattle.cif_net_model.specs.Listing.{NetChoice, full_choices, listed}
use Rattle.cif_net_model.specs.Net.{Net}
use Rattle.plc_frame.specs.Events.{choices_of}
use Rattle.plc_frame.specs.Given.{EventPart}
use Rattle.plc_event_model.specs.Parts.{event_faces}
use Rattle.plc_event_model.specs.ProgramParts.{part_for, parts_from}
use Rattle.plc_gen.specs.Order.{Ascending, leading}

-- ---- the choices of one event

is-same : (a b : ℕ) → nat_eq a b ≡ true → a ≡ b
is-same a b h = grind (arith, nat_tests)

is-other : (a b : ℕ) → nat_eq a b ≡ false → a ≢ b
is-other a b h = grind (arith, nat_tests)

no-same : (a b : ℕ) → a < b → nat_eq b a ≡ false
no-same a b h = grind (arith, nat_tests)

no-less : (a b : ℕ) → a < b → nat_eq a b ≡ false
no-less a b h = grind (arith, nat_tests)

pub weaker : (d e : ℕ) (cs : List NetChoice) → d ≤ e → Ascending e cs → Ascending d cs
weaker d e [] h a = tt
weaker d e (c ∷ cs) h a = let b = a.0 in (omega (arith, h, b), a.1)

-- there are none of an earlier event
none-earlier : (e d : ℕ) (cs : List NetChoice) → e < d → Ascending d cs → choices_of cs e ≡ []
none-earlier e d [] h a = refl
none-earlier e d (c ∷ cs) h a =
    let b = a.0 in
    ap (λ t. cond t (c ∷ choices_of cs e) (choices_of cs e)) (no-same e c.event (omega (arith, h, b)))
    ∙ none-earlier e c.event cs (omega (arith, h, b)) a.1

-- those of the least event stand in front
pub here-is : (e : ℕ) (cs : List NetChoice) → Ascending e cs → choices_of cs e ≡ take (leading e cs) cs
here-is e [] a = refl
here-is e (c ∷ cs) a = go (nat_eq c.event e) refl (here-is e cs)
  where
    go : (b : Bool) → nat_eq c.event e ≡ b → (Ascending e cs → choices_of cs e ≡ take (leading e cs) cs)
        → cond b (c ∷ choices_of cs e) (choices_of cs e) ≡ take (if b then suc (leading e cs) else 0) (c ∷ cs)
    go true is rest = ap (λ ds. c ∷ ds) (rest (subst (λ d. Ascending d cs) (is-same c.event e is) a.1))
    go false is rest = let b = a.0 in let other = is-other c.event e is in none-earlier e c.event cs (omega (arith, b, other)) a.1

-- what is left is of later events
pub later-ascends : (e : ℕ) (cs : List NetChoice) → Ascending e cs → Ascending (e + 1) (drop (leading e cs) cs)
later-ascends e [] a = tt
later-ascends e (c ∷ cs) a = go (nat_eq c.event e) refl (later-ascends e cs)
  where
    go : (b : Bool) → nat_eq c.event e ≡ b → (Ascending e cs → Ascending (e + 1) (drop (leading e cs) cs)) → Ascending (e + 1) (drop (if b then suc (leading e cs) else 0) (c ∷ cs))
    go true is rest = rest (subst (λ d. Ascending d cs) (is-same c.event e is) a.1)
    go false is rest = let b = a.0 in let other = is-other c.event e is in (omega (arith, b, other), a.1)

-- and has all choices of these
pub later-has : (e d : ℕ) (cs : List NetChoice) → e < d → choices_of cs d ≡ choices_of (drop (leading e cs) cs) d
later-has e d [] h = refl
later-has e d (c ∷ cs) h = go (nat_eq c.event e) refl (later-has e d cs h)
  where
    go : (b : Bool) → nat_eq c.event e ≡ b → choices_of cs d ≡ choices_of (drop (leading e cs) cs) d → choices_of (c ∷ cs) d ≡ choices_of (drop (if b then suc (leading e cs) else 0) (c ∷ cs)) d
    go true is rest =
        ap (λ t. cond t (c ∷ choices_of cs d) (choices_of cs d)) (ap (λ k. nat_eq k d) (is-same c.event e is) ∙ no-less e d h)
        ∙ rest
    go false is rest = refl

-- the parts of later events are those of what is left
pub parts-later : (n : Net) (cs ds : List NetChoice) (m e j : ℕ) → ((d : ℕ) → e ≤ d → choices_of cs d ≡ choices_of ds d) → parts_from n cs j (range_with_len e m) ≡ parts_from n ds j (range_with_len e m)
parts-later n cs ds zero e j same = refl
parts-later n cs ds (suc m) e j same =
    ap₂ (λ (x : EventPart) (xs : List EventPart). x ∷ xs) (ap (part_for n j) (same e (omega arith)))
    (parts-later n cs ds m (e + 1) (j + length (event_faces n (choices_of cs e))) (λ d h. same d (omega (arith, h)))
    ∙ ap (λ k. parts_from n ds (j + length (event_faces n k)) (range_with_len (e + 1) m)) (same e (omega arith)))

-- ---- the choices of a net

abbrev Climbs : ℕ → List ℕ → Type 0
Climbs e [] = Unit {0}
Climbs e (x ∷ xs) = (e ≤ x) × Climbs x xs

climbs-from : (d e : ℕ) (xs : List ℕ) → d ≤ e → Climbs e xs → Climbs d xs
climbs-from d e [] h a = tt
climbs-from d e (x ∷ xs) h a = let b = a.0 in (omega (arith, h, b), a.1)

abbrev event_in : ℕ × Choice → ℕ
event_in p = p.0

block : (d e : ℕ) (chs : List Choice) (rest : List ℕ) → d ≤ e → Climbs e rest → Climbs d (map event_in (map (λ ch. (e, ch)) chs) ++ rest)
block d e [] rest h a = climbs-from d e rest h a
block d e (ch ∷ chs) rest h a = (h, block e e chs rest (omega arith) a)

listed-climb : (m : System) (len d e : ℕ) → d ≤ e → Climbs d (map event_in (flat_map (λ k. map (λ ch. (k, ch)) (choices m k)) (range_with_len e len)))
listed-climb m zero d e h = tt
listed-climb m (suc len) d e h =
    subst (Climbs d) (sym (map-append event_in (map (λ ch. (e, ch)) (choices m e)) (flat_map (λ k. map (λ ch. (k, ch)) (choices m k)) (range_with_len (e + 1) len))))
    (block d e (choices m e) (map event_in (flat_map (λ k. map (λ ch. (k, ch)) (choices m k)) (range_with_len (e + 1) len))) h (listed-climb m len e (e + 1) (omega arith)))

ascend : (n : Net) (e : ℕ) (cs : List NetChoice) → Climbs e (map event_in (full_choices n cs)) → Ascending e cs
ascend n e [] a = tt
ascend n e (c ∷ cs) a = (a.0, ascend n c.event cs a.1)

pub listed-ascend : (n : Net) (m : System) (cs : List NetChoice) → full_choices n cs ≡ listed m → Ascending 0 cs
listed-ascend n m cs is = ascend n 0 cs (subst (λ (xs : List (ℕ × Choice)). Climbs 0 (map event_in xs)) (sym is) (listed-climb m (length m.events) 0 0 (omega arith)))
