-- How many declarations the components of a source have is how many the code counts.
use Rattle.std.proofs.Common.{◌≡◌, ℕ, zero, suc, ◌+◌, ◌≤◌, List, [], ◌∷◌, length, map, flat_map, drop, length-append, refl, sym, ap, ◌∙◌, arith, Some}
use Rattle.std.specs.Prelude.{slice_get, option_map}
use Rattle.std.proofs.Math.Seq.{drop-length}
use Rattle.std.proofs.lemmas.Option.{slice_get-map}
use Rattle.cif_system.proofs.Lists.{some-same, none-some, map-length}
use Rattle.cif_source.specs.Source.{DeclTree, Source}
use Rattle.cif_source.specs.Components.{Component, as_written}
use Rattle.cif_source.specs.Objects.{components_of, bodies, decls_in, decls_of, Declared, declarations}
use Rattle.cif_scope.specs.Tables.{Beside}
use Rattle.cif_scope.specs.Written.{written_bodies}
use Rattle.cif_scope.proofs.Places.{beside-at}
use Rattle.cif_scope.proofs.DefinitionLaws.{IsWritten, bodies-written}
use Rattle.cif_resolve_cycles.proofs.Graphs.{at-below}
use Rattle.cif_inst_bodies.proofs.Alike.{body-written}
use Rattle.cif_inst_components.specs.declared.components.Component.{Component as Row}
use Rattle.cif_inst_components.specs.declared.components.Components.{Components}
use Rattle.cif_inst_components.specs.Numbers.{IsComponent, AreComponentsOf}
use Rattle.cif_inst_constants.specs.Numbers.{or_zero}
use Rattle.cif_inst_constants.specs.Turns.{declaration_count, count_of, counted_to}

-- ---- from the first one on

module _ (counts : List ℕ) where
  abbrev sum_of : List Row → ℕ
  sum_of [] = 0
  sum_of (r ∷ rs) = count_of counts (Some r) + sum_of rs

  drop-one : (rs : List Row) (n : ℕ) (r : Row) → slice_get rs n ≡ Some r → sum_of (drop n rs) ≡ count_of counts (Some r) + sum_of (drop (suc n) rs)
  drop-one [] n r h = absurd (none-some r h)
  drop-one (q ∷ rs) zero r h = ap (λ x. count_of counts (Some x) + sum_of rs) (some-same q r h)
  drop-one (q ∷ rs) (suc n) r h = drop-one rs n r h

  counted-rest : (rs : List Row) (n : ℕ) → n ≤ length rs → counted_to counts rs n + sum_of (drop n rs) ≡ sum_of rs
  counted-rest rs zero l = let e : 0 + sum_of rs ≡ sum_of rs = omega arith in e
  counted-rest rs (suc n) l =
      let r = at-below rs n (omega (arith, l)) in
      let less : n ≤ length rs = omega (arith, l) in
      let rest : counted_to counts rs n + sum_of (drop n rs) ≡ sum_of rs = counted-rest rs n less in
      let one : sum_of (drop n rs) ≡ count_of counts (Some r.0) + sum_of (drop (suc n) rs) = drop-one rs n r.0 r.1 in
      let here : count_of counts (slice_get rs n) ≡ count_of counts (Some r.0) = ap (count_of counts) r.1 in
      omega (arith, rest, one, here)

  counted-all : (rs : List Row) → counted_to counts rs (length rs) ≡ sum_of rs
  counted-all rs =
      let all : length rs ≤ length rs = omega arith in
      let rest : counted_to counts rs (length rs) + sum_of (drop (length rs) rs) ≡ sum_of rs = counted-rest rs (length rs) all in
      let none : sum_of (drop (length rs) rs) ≡ 0 = ap sum_of (drop-length rs) in
      omega (arith, rest, none)

-- ---- the declarations of components

abbrev paired : Component → DeclTree → Declared
paired c d = (c, d)

abbrev all_declared : List Component → List Declared
all_declared cs = flat_map (λ (c : Component). map (paired c) (decls_of c)) cs

abbrev all_counts : Source → List ℕ
all_counts t = map declaration_count (written_bodies t)

body-count : (t : Source) (c : Component) (r : Row) → IsComponent t c r → count_of (all_counts t) (Some r) ≡ length (decls_of c)
body-count t c r h =
    let w = beside-at IsWritten (bodies t) (written_bodies t) r.body (as_written c) (bodies-written t) h.body in
    ap or_zero (slice_get-map declaration_count (written_bodies t) r.body ∙ ap (option_map declaration_count) w.1)
    ∙ ap (λ b. length (decls_in b)) (sym w.2.1 ∙ body-written c)

sum-declared : (t : Source) (cs : List Component) (rs : List Row) → Beside (IsComponent t) cs rs → sum_of (all_counts t) rs ≡ length (all_declared cs)
sum-declared t [] [] h = refl
sum-declared t [] (r ∷ rs) h = absurd h
sum-declared t (c ∷ cs) [] h = absurd h
sum-declared t (c ∷ cs) (r ∷ rs) h =
    ap (λ n. n + sum_of (all_counts t) rs) (body-count t c r h.0 ∙ sym (map-length (paired c) (decls_of c)))
    ∙ ap (λ n. length (map (paired c) (decls_of c)) + n) (sum-declared t cs rs h.1)
    ∙ sym (length-append (map (paired c) (decls_of c)) (all_declared cs))

pub declarations-counted : (t : Source) (cs : Components) → AreComponentsOf t cs → counted_to (map declaration_count (written_bodies t)) cs.all (length cs.all) ≡ length (declarations t)
declarations-counted t cs all = counted-all (all_counts t) cs.all ∙ sum-declared t (components_of t) cs.all all.all
