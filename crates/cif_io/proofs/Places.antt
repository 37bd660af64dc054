-- Files in memory by their places.
use Rattle.std.proofs.Common.{◌≡◌, ◌≢◌, ◌<◌, ◌∙◌, ℕ, List, [], Option, None, Some, IsSome, length, get_or, set, get_or-set_other, refl, sym, ap}
use Rattle.std.specs.Prelude.{slice_get, option_and_then}
use Rattle.std.specs.Option.{option_map, option_map_or}
use Rattle.std.specs.Str.{bytes_eq}
use Rattle.std.proofs.lemmas.Option.{slice_get_read}
use Rattle.std.proofs.lemmas.List.Quantifiers.{position-Some}
use Rattle.std.proofs.lemmas.Slice.Eq.{bytes_eq-Decides}
use Rattle.cif_io.specs.Shelf.{Shelf, place, content_of, faults_of}
use Rattle.cif_io.specs.declared.memory_files.MemFile.{MemFile}

-- the place of a name in the files that a search went over
place-in : (searched files : List MemFile) (name : List ℕ) (at : ℕ) → searched ≡ files
    → Some at ≡ place searched name → place files name ≡ Some at
place-in searched files name at same found = ap (λ fs. place fs name) (sym same) ∙ sym found

-- the file at the place of a name has that name's content
pub content-at : (searched inside files : List MemFile) (name : List ℕ) (at : ℕ) (f : MemFile)
    → searched ≡ inside → inside ≡ files → Some at ≡ place searched name → at < length searched
    → f ≡ get_or inside at f → content_of files name ≡ Some f.bytes
content-at searched inside files name at f same_inside same found within is =
    let read : slice_get files at ≡ Some f =
    slice_get_read files (length searched) at f (ap length (same_inside ∙ same)) within (is ∙ ap (λ fs. get_or fs at f) same) in
    ap (λ o. option_map (λ g. g.bytes) (option_and_then (slice_get files) o))
    (place-in searched files name at (same_inside ∙ same) found)
    ∙ ap (option_map (λ g. g.bytes)) read

-- the file at the place of a name has that name
name-at : (files : List MemFile) (name : List ℕ) (at : ℕ) (d : MemFile) → place files name ≡ Some at
    → (get_or files at d).name ≡ name
name-at files name at d found =
    (bytes_eq-Decides (get_or files at d).name name).0 (position-Some (λ f. bytes_eq f.name name) files at d found).1

-- two names have two places
place-differs : (files : List MemFile) (a b : List ℕ) (i j : ℕ) → a ≢ b → place files a ≡ Some i
    → place files b ≡ Some j → i ≢ j
place-differs files a b i j other at_a at_b same =
    let d : MemFile = record { name = []; bytes = [] } in
    other (sym (name-at files a i d at_a)
    ∙ ap (λ k. (get_or files k d).name) same
    ∙ name-at files b j d at_b)

-- a write of the count at the place of one name leaves the count of another held name, whose place is `o`
other-count-at : (s : Shelf) (name n : List ℕ) (at v after : ℕ) → place s.files name ≡ Some at → n ≢ name
    → (o : Option ℕ) → place s.files n ≡ o → IsSome o
    → option_map_or (λ k. get_or (set s.counts at v) k 0) o after ≡ option_map_or (λ k. get_or s.counts k 0) o s.calls
other-count-at s name n at v after found other None here held = cc
other-count-at s name n at v after found other (Some j) here held =
    get_or-set_other s.counts at j v 0 (place-differs s.files n name j at other here found)

-- that, at the place that a search found
pub other-count : (s : Shelf) (searched files : List MemFile) (counts : List ℕ) (name n : List ℕ) (at v after : ℕ)
    → searched ≡ files → files ≡ s.files → counts ≡ s.counts → Some at ≡ place searched name → n ≢ name
    → IsSome (place s.files n)
    → option_map_or (λ k. get_or (set counts at v) k 0) (place files n) after ≡ faults_of s n
other-count s searched files counts name n at v after same_inside same same_counts found other held =
    ap (λ fs. option_map_or (λ k. get_or (set counts at v) k 0) (place fs n) after) same
    ∙ ap (λ cs. option_map_or (λ k. get_or (set cs at v) k 0) (place s.files n) after) same_counts
    ∙ other-count-at s name n at v after (place-in searched s.files name at (same_inside ∙ same) found) other
    (place s.files n) refl held
