-- What components state stands in their declarations, in the order of the source.
use Rattle.std.proofs.Common.{◌≡◌, ℕ, ◌+◌, ◌<◌, inl, inr, List, [], ◌∷◌, ◌++◌, length, map, refl, sym, ◌∙◌, ap, subst}
use Rattle.std.specs.Prelude.{flat_map}
use Rattle.std.proofs.lemmas.Grind.{flat_map-append}
use Rattle.cif_system.specs.Words.{Member}
use Rattle.cif_system.proofs.Lists.{slice_get-below}
use Rattle.cif_system.proofs.Distinct.{member-append}
use Rattle.cif_source.specs.Source.{DeclTree, type_decl, enum_decl, event_decl, const_decl, alg_decl, input_decl, disc_decl, equation_decl, invariant_decl, marked_decl, decl_item, component_item, definition_item, instance_item, SourceBody, group_body, automaton_body, Source, no_source, source, list_of_items}
use Rattle.cif_source.specs.Components.{Component, body_of}
use Rattle.cif_source.specs.Objects.{components_of, item_decls, decls_in, decls_of, Declared, declarations}
use Rattle.cif_inst_model.proofs.FoundLaws.{flat-cases}
use Rattle.cif_inst_components.specs.Numbers.{IsNumber}
use Rattle.cif_inst_names.specs.Looking.{source_for}
use Rattle.cif_inst_names.specs.declared.looking.Looking.{Looking}
use Rattle.cif_inst_paths.specs.Rows.{RowTree, row_for, rows_of}
use Rattle.cif_inst_paths.proofs.SoundLaws.{From, from-here, from-next, all-components}
use Rattle.cif_inst_predicates.specs.Stated.{StatedTree, decl_stated, items_stated, body_stated, rows_stated, StandBelow}

-- ---- of a body

items-decls : (k : ℕ) (is : Source) → items_stated k is ≡ flat_map (decl_stated k) (flat_map item_decls (list_of_items is))
items-decls k no_source = refl
items-decls k (source (decl_item d) is) = ap (λ xs. decl_stated k d ++ xs) (items-decls k is)
items-decls k (source (component_item n b) is) = items-decls k is
items-decls k (source (definition_item n ps b) is) = items-decls k is
items-decls k (source (instance_item j) is) = items-decls k is

body-decls : (k : ℕ) (b : SourceBody) → body_stated k b ≡ flat_map (decl_stated k) (decls_in b)
body-decls k (group_body is) = items-decls k is
body-decls k (automaton_body a) = refl

-- ---- what is made of each

-- g makes of what is stated what f has for its declaration
module _ {B : Type 0} (t : Source) (g : StatedTree → List B) (f : Declared → List B)
    (same : (k : ℕ) (c : Component) → IsNumber t k c → (d : DeclTree) → Member d (decls_of c) → flat_map g (decl_stated k d) ≡ f (c, d)) where
  abbrev own : Component → List Declared
  own c = map (λ d. (c, d)) (decls_of c)

  decls-as : (k : ℕ) (c : Component) → IsNumber t k c → (ds : List DeclTree) → ((d : DeclTree) → Member d ds → Member d (decls_of c))
      → flat_map g (flat_map (decl_stated k) ds) ≡ flat_map f (map (λ d. (c, d)) ds)
  decls-as k c at [] within = refl
  decls-as k c at (d ∷ ds) within =
      flat_map-append g (decl_stated k d) (flat_map (decl_stated k) ds)
      ∙ ap (λ xs. xs ++ flat_map g (flat_map (decl_stated k) ds)) (same k c at d (within d (inl refl)))
      ∙ ap (λ xs. f (c, d) ++ xs) (decls-as k c at ds (λ x m. within x (inr m)))

  rows-as : (cs : List Component) (k : ℕ) → From t cs k → flat_map g (rows_stated k (map row_for cs)) ≡ flat_map f (flat_map own cs)
  rows-as [] k from = refl
  rows-as (c ∷ cs) k from =
      flat_map-append g (body_stated k (body_of c)) (rows_stated (k + 1) (map row_for cs))
      ∙ ap (λ xs. xs ++ flat_map g (rows_stated (k + 1) (map row_for cs))) (ap (flat_map g) (body-decls k (body_of c)) ∙ decls-as k c (from-here t c cs k from) (decls_of c) (λ d m. m))
      ∙ ap (λ xs. flat_map f (own c) ++ xs) (rows-as cs (k + 1) (from-next t c cs k from))
      ∙ sym (flat_map-append f (own c) (flat_map own cs))

  pub stated-as : flat_map g (rows_stated 0 (rows_of t)) ≡ flat_map f (declarations t)
  stated-as = rows-as (components_of t) 0 (all-components t)

-- ---- where each one stands

decl-number : (k : ℕ) (d : DeclTree) (s : StatedTree) → Member s (decl_stated k d) → s.0 ≡ k
decl-number k (invariant_decl i) s m = elim m [ inl w ↦ ap (λ (x : StatedTree). x.0) w | inr w ↦ absurd w ]
decl-number k (type_decl n ty) s m = absurd m
decl-number k (enum_decl n ls) s m = absurd m
decl-number k (event_decl c h n) s m = absurd m
decl-number k (const_decl ty n e) s m = absurd m
decl-number k (alg_decl ty n e) s m = absurd m
decl-number k (input_decl ty n) s m = absurd m
decl-number k (disc_decl ty n e) s m = absurd m
decl-number k (equation_decl q) s m = absurd m
decl-number k (marked_decl e) s m = absurd m

body-number : (k : ℕ) (b : SourceBody) (s : StatedTree) → Member s (body_stated k b) → s.0 ≡ k
body-number k b s m = let d = flat-cases (decl_stated k) s (decls_in b) (subst (Member s) (body-decls k b) m) in decl-number k d.0 s d.2

rows-below : (t : Source) (cs : List Component) (k : ℕ) → From t cs k → (s : StatedTree) → Member s (rows_stated k (map row_for cs)) → s.0 < length (components_of t)
rows-below t [] k from s m = absurd m
rows-below t (c ∷ cs) k from s m =
    elim (member-append s (body_stated k (body_of c)) (rows_stated (k + 1) (map row_for cs)) m) [
      | inl w ↦ subst (λ j. j < length (components_of t)) (sym (body-number k (body_of c) s w)) (slice_get-below (components_of t) k c (from-here t c cs k from))
      | inr w ↦ rows-below t cs (k + 1) (from-next t c cs k from) s w
    ]

pub stand_below : (l : Looking) (rows : List RowTree) → rows ≡ rows_of (source_for l) → StandBelow l (rows_stated 0 rows)
stand_below l rows are s m = rows-below (source_for l) (components_of (source_for l)) 0 (all-components (source_for l)) s (subst (λ (rs : List RowTree). Member s (rows_stated 0 rs)) are m)
