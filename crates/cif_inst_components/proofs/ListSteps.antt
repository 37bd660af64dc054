-- The steps of listing components: one is listed, and what stands in it waits.
use Rattle.std.proofs.Common.{◌≡◌, ℕ, zero, suc, ◌+◌, List, [], ◌∷◌, ◌++◌, length, map, Some, None, Option, refl, sym, ap, ◌∙◌, arith, append_assoc, append-nil, length-append}
use Rattle.std.specs.Prelude.{reverse}
use Rattle.std.proofs.lemmas.List.{reverse-append, reverse-reverse}
use Rattle.cif_source.specs.Objects.{most_objects}
use Rattle.cif_inst_components.specs.declared.components.Component.{Component}
use Rattle.cif_inst_components.specs.declared.components.Place.{Place}
use Rattle.cif_inst_components.specs.declared.kids.Kid.{Kid}
use Rattle.cif_inst_components.specs.declared.listing.Waiting.{Waiting}
use Rattle.cif_inst_components.specs.Kids.{kids_in}
use Rattle.cif_inst_components.specs.Listing.{place, chain, below, listed, kid_waiting, waiting_in, rest}

abbrev pub component : ℕ → Option Place → Component
component b p = record { body = b; stands = p }

-- what a component that waits becomes
abbrev pub from_waiting : Waiting → Component
from_waiting x = component x.body (Some x.stands)

module _ (kids : List (List Kid)) where
  -- what is listed for those that stand in a component
  abbrev pub inside : (n at b : ℕ) → List Component
  inside zero at b = []
  inside (suc n) at b = chain (below kids n) (suc at) at (kids_in kids b)

  pub below-is : (n at : ℕ) (p : Option Place) (b : ℕ) → below kids n at p b ≡ component b p ∷ inside n at b
  below-is zero at p b = refl
  below-is (suc n) at p b = refl

  rest-kids : (d parent at : ℕ) (xs : List Kid) (ws : List Waiting)
      → rest kids at (map (kid_waiting parent d) xs ++ ws) ≡ chain (below kids d) at parent xs ++ rest kids (at + length (chain (below kids d) at parent xs)) ws
  rest-kids d parent at [] ws = let e : at ≡ at + 0 = omega arith in ap (λ k. rest kids k ws) e
  rest-kids d parent at (x ∷ xs) ws = go (below kids d at (Some (place parent x.slot)) x.body) (λ k. rest-kids d parent k xs ws)
    where
      go : (here : List Component)
          → ((k : ℕ) → rest kids k (map (kid_waiting parent d) xs ++ ws) ≡ chain (below kids d) k parent xs ++ rest kids (k + length (chain (below kids d) k parent xs)) ws)
          → here ++ rest kids (at + length here) (map (kid_waiting parent d) xs ++ ws)
          ≡ (here ++ chain (below kids d) (at + length here) parent xs) ++ rest kids (at + length (here ++ chain (below kids d) (at + length here) parent xs)) ws
      go here ih =
          let more : List Component = chain (below kids d) (at + length here) parent xs in
          let e : (at + length here) + length more ≡ at + length (here ++ more) = omega (arith, length-append here more) in
          ap (λ l. here ++ l) (ih (at + length here)) ∙ sym (append_assoc here more (rest kids ((at + length here) + length more) ws))
          ∙ ap (λ k. (here ++ more) ++ rest kids k ws) e

  rest-inside : (n at b : ℕ) (ws : List Waiting) → rest kids (suc at) (reverse (waiting_in kids at b n) ++ ws) ≡ inside n at b ++ rest kids (suc at + length (inside n at b)) ws
  rest-inside zero at b ws = let e : suc at ≡ suc at + 0 = omega arith in ap (λ k. rest kids k ws) e
  rest-inside (suc n) at b ws =
      ap (λ l. rest kids (suc at) (l ++ ws)) (reverse-reverse (map (kid_waiting at n) (kids_in kids b))) ∙ rest-kids n at (suc at) (kids_in kids b) ws

  below-rest : (n at : ℕ) (p : Option Place) (b : ℕ) (ws : List Waiting)
      → below kids n at p b ++ rest kids (at + length (below kids n at p b)) ws ≡ component b p ∷ rest kids (suc at) (reverse (waiting_in kids at b n) ++ ws)
  below-rest n at p b ws =
      ap (λ l. l ++ rest kids (at + length l) ws) (below-is n at p b)
      ∙ (let e : at + suc (length (inside n at b)) ≡ suc at + length (inside n at b) = omega arith in ap (λ k. component b p ∷ (inside n at b ++ rest kids k ws)) e)
      ∙ ap (λ l. component b p ∷ l) (sym (rest-inside n at b ws))

  -- one component more
  pub listed-more : (whole all more : List Component) (old front new : List Waiting) (x : Waiting) (k : ℕ) → k ≡ length all → old ≡ front ++ x ∷ []
      → new ≡ front ++ waiting_in kids k x.body x.depth → more ≡ all ++ from_waiting x ∷ []
      → all ++ rest kids (length all) (reverse old) ≡ whole → more ++ rest kids (length more) (reverse new) ≡ whole
  listed-more whole all more old front new x k at is waits next h =
      let length-more : length more ≡ suc k = ap length next ∙ omega (arith, length-append all (from_waiting x ∷ []), at) in
      let turned : reverse new ≡ reverse (waiting_in kids k x.body x.depth) ++ reverse front = ap reverse waits ∙ reverse-append front (waiting_in kids k x.body x.depth) in
      let first : reverse old ≡ x ∷ reverse front = ap reverse is ∙ reverse-append front (x ∷ []) in
      ap (λ m. more ++ rest kids m (reverse new)) length-more ∙ ap (λ w. more ++ rest kids (suc k) w) turned
      ∙ ap (λ l. l ++ rest kids (suc k) (reverse (waiting_in kids k x.body x.depth) ++ reverse front)) next
      ∙ append_assoc all (from_waiting x ∷ []) (rest kids (suc k) (reverse (waiting_in kids k x.body x.depth) ++ reverse front))
      ∙ ap (λ l. all ++ l) (sym (below-rest x.depth k (Some x.stands) x.body (reverse front)))
      ∙ ap (λ m. all ++ rest kids m (x ∷ reverse front)) at ∙ ap (λ w. all ++ rest kids (length all) w) (sym first) ∙ h

  start : (n : ℕ) → component 0 None ∷ rest kids 1 (reverse (waiting_in kids 0 0 n)) ≡ below kids n 0 None 0
  start n =
      ap (λ w. component 0 None ∷ rest kids 1 w) (sym (append-nil (reverse (waiting_in kids 0 0 n)))) ∙ sym (below-rest n 0 None 0 []) ∙ append-nil (below kids n 0 None 0)

  pub listed-start : (ws : List Waiting) → ws ≡ waiting_in kids 0 0 most_objects → component 0 None ∷ rest kids 1 (reverse ws) ≡ listed kids
  unfolding listed
  listed-start ws h = ap (λ l. component 0 None ∷ rest kids 1 (reverse l)) h ∙ start most_objects
