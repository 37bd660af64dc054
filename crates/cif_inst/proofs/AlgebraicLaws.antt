-- The algebraic variables that are made are those of the net of a source that keeps its rules.
use Rattle.std.proofs.Common.{◌≡◌, ℕ, ◌+◌, ◌≤◌, ◌<◌, true, List, [], ◌∷◌, ◌++◌, length, map, get_or, Option, Some, None, refl, sym, ◌∙◌, ap, subst}
use Rattle.std.specs.Prelude.{filter, filter_map}
use Rattle.std.specs.Option.{option_to_list}
use Rattle.cif_ast.specs.Tree.{Tree}
use Rattle.cif_ast.specs.declared.names.Ident.{Ident}
use Rattle.cif_system.specs.Words.{Member}
use Rattle.cif_system.proofs.Lists.{false-true}
use Rattle.cif_net_model.specs.Net.{AlgValue, one_value, by_loc, NetAlg}
use Rattle.cif_source.specs.Source.{Text, TypeTree, LocationTree, DeclTree, type_decl, enum_decl, event_decl, const_decl, alg_decl, input_decl, disc_decl, equation_decl, invariant_decl, marked_decl, SourceBody, group_body, automaton_body, Source}
use Rattle.cif_source.specs.Components.{Component, specification_of, body_of, path_of}
use Rattle.cif_source.specs.Objects.{components_of, most_objects, decls_in, decls_of, locs_in, locs_of, is_automaton, automaton_number, is_alg, algs}
use Rattle.cif_source.specs.Value.{decl_equation_for, own_definitions, location_definitions}
use Rattle.cif_source.proofs.ReachLaws.{frames-listed}
use Rattle.cif_source.specs.BodyRules.{EquationsDue}
use Rattle.cif_scope.specs.Written.{inside_of}
use Rattle.cif_inst_model.specs.Flat.{net_alg, net_alg_value, net_definition}
use Rattle.cif_inst_model.specs.Translation.{net_of}
use Rattle.cif_inst_model.specs.Types.{net_type}
use Rattle.cif_inst_laws.proofs.Defined.{some-automaton}
use Rattle.cif_inst_names.specs.Looking.{component_of}
use Rattle.cif_inst.specs.Algebraic.{definition_or, definition_in, alg_value, alg_with, home_number, body_algs, rows_algs, HaveTypes, IsBodyOf}
use Rattle.cif_inst.specs.Declarations.{DatumTree, datum, decl_data, body_data}
use Rattle.cif_inst.specs.Equations.{Values, value_for, or_else, body_added, location_added}
use Rattle.cif_inst_paths.specs.Rows.{prefix_of, row_for, rows_of}
use Rattle.cif_inst.specs.Typing.{typed_source, AreTypesOf}
use Rattle.cif_inst_paths.specs.Views.{row_tree}
use Rattle.cif_inst.specs.declared.declarations.Sort.TheVariants as sort
use Rattle.cif_inst_paths.specs.declared.rows.Row.{Row}
use Rattle.cif_inst.specs.declared.typing.Typing.{Typing}
use Rattle.cif_inst.proofs.DeclarationLaws.{made, data-are, IsDatum, IsOf, body-member, datum-below, datum-typed}
use Rattle.cif_inst.proofs.EquationLaws.{first_of, location-kept, body-kept}
use Rattle.cif_inst_paths.proofs.RowBodyLaws.{row_below, row_written}
use Rattle.cif_inst_paths.proofs.RowLaws.{dots-dotted}

-- ---- one definition

first-defined : (c : Component) (ds : List Tree) → definition_or c (first_of ds) ≡ net_definition c ds
first-defined c [] = refl
first-defined c (d ∷ ds) = refl

module _ (c : Component) (x : Text) (e : Option Tree) where
  located-is : (ls : List LocationTree) → map (definition_in c x) (map location_added ls) ≡ map (λ l. net_definition c (location_definitions x l)) ls
  located-is [] = refl
  located-is (l ∷ ls) =
      let here : definition_in c x (location_added l) ≡ net_definition c (location_definitions x l) = ap (definition_or c) (location-kept x l) ∙ first-defined c (location_definitions x l) in
      λ i. here i ∷ located-is ls i

  first-own : (o : Option Tree) (ds : List Tree) → or_else o (first_of ds) ≡ first_of (option_to_list o ++ ds)
  first-own None ds = refl
  first-own (Some d) ds = refl

  own-is : or_else e (value_for x (body_added (body_of c))) ≡ first_of (own_definitions c x e)
  own-is = ap (or_else e) (body-kept x (body_of c)) ∙ first-own e (filter_map (decl_equation_for x) (decls_of c))

  abbrev located : ℕ → AlgValue
  located k = by_loc k (map (λ l. net_definition c (location_definitions x l)) (locs_of c))

  abbrev by_first : ℕ → Option Tree → AlgValue
  by_first k o = elim o [ Some d ↦ one_value (net_of c d) | None ↦ located k ]

  abbrev by_list : List Tree → AlgValue
  by_list ds = elim ds [ [] ↦ located (automaton_number (specification_of c) c) | d ∷ ds ↦ one_value (net_of c d) ]

  -- one of its own, or else one for each location, whose automaton has the number
  by-own : (k : ℕ) (ds : List Tree) → (ds ≡ [] → k ≡ automaton_number (specification_of c) c) → by_first k (first_of ds) ≡ by_list ds
  by-own k [] number = ap located (number refl)
  by-own k (d ∷ ds) number = refl

  pub value-is : (k : ℕ) → (own_definitions c x e ≡ [] → k ≡ automaton_number (specification_of c) c) → alg_value c k (body_added (body_of c)) (map location_added (locs_of c)) x e ≡ net_alg_value c x e
  value-is k number =
      (λ i. let v : AlgValue = elim (own-is i) [ Some d ↦ one_value (net_of c d) | None ↦ by_loc k (located-is (locs_of c) i) ] in v)
      ∙ by-own k (own_definitions c x e) number

-- ---- those of a source

automaton-numbered : (t : Source) (k : ℕ) (b : SourceBody) → is_automaton b ≡ true → home_number t k b ≡ automaton_number t (component_of t k)
automaton-numbered t k (group_body is) h = absurd (false-true refl h)
automaton-numbered t k (automaton_body a) h = refl

-- of component k, which has these equations
abbrev alg_at : Source → ℕ → Component → DatumTree → NetAlg
alg_at t k c = alg_with t (home_number t k (body_of c)) (body_added (body_of c)) (map location_added (locs_of c))

rows-made : (t : Source) (cs : List Component) (k : ℕ) → rows_algs t k (map row_for cs) ≡ made sort.Algebraic (alg_at t) k cs
rows-made t [] k = refl
rows-made t (c ∷ cs) k = ap (λ xs. body_algs t k (prefix_of c) (body_of c) ++ xs) (rows-made t cs (k + 1))

module _ (t : Source) (few : length (components_of t) ≤ most_objects) (single : (at count : ℕ) → EquationsDue t at count → ⊥) where
  module _ (k : ℕ) (c : Component) (same : component_of t k ≡ c) (m : Member c (components_of t)) where
    alg-is : (n : Ident) (ty : TypeTree) (e : Option Tree) → Member (alg_decl ty n e) (decls_of c) → alg_at t k c (datum k (prefix_of c) n ty e) ≡ net_alg (c, alg_decl ty n e)
    alg-is n ty e i =
        let number : own_definitions c n.text e ≡ [] → home_number t k (body_of c) ≡ automaton_number (specification_of c) c =
        λ none. automaton-numbered t k (body_of c) (some-automaton t single c m ty n e i none) ∙ ap (automaton_number t) same ∙ ap (λ s. automaton_number s c) (sym (frames-listed t few c m).0) in
        let value : alg_value (component_of t k) (home_number t k (body_of c)) (body_added (body_of c)) (map location_added (locs_of c)) n.text e ≡ net_alg_value c n.text e =
        ap (λ d. alg_value d (home_number t k (body_of c)) (body_added (body_of c)) (map location_added (locs_of c)) n.text e) same ∙ value-is c n.text e (home_number t k (body_of c)) number in
        λ j. record {
          path = sym (dots-dotted (path_of c) n.text) j;
          type_of = (net_type (same j) ty).type_of;
          literals = (net_type (same j) ty).literals;
          value = value j;
        }

    one-alg : (d : DeclTree) → Member d (decls_of c) → map (alg_at t k c) (decl_data sort.Algebraic k (prefix_of c) d) ≡ map net_alg (map (λ d. (c, d)) (filter is_alg (d ∷ [])))
    one-alg (alg_decl ty n e) i = ap (λ x. x ∷ []) (alg-is n ty e i)
    one-alg (event_decl k h n) i = refl
    one-alg (type_decl n ty) i = refl
    one-alg (enum_decl n ls) i = refl
    one-alg (const_decl ty n e) i = refl
    one-alg (input_decl ty n) i = refl
    one-alg (disc_decl ty n e) i = refl
    one-alg (equation_decl q) i = refl
    one-alg (invariant_decl j) i = refl
    one-alg (marked_decl p) i = refl

  pub algs-are : rows_algs t 0 (rows_of t) ≡ map net_alg (algs t)
  algs-are = rows-made t (components_of t) 0 ∙ data-are t sort.Algebraic is_alg net_alg (alg_at t) one-alg

-- ---- where they stand

-- the body of a listed component is its own
pub row_stands : (y : Typing) (rows : List Row) (place k : ℕ) (row : Row) → AreTypesOf y → map row_tree rows ≡ rows_of (typed_source y) → place < length rows → row ≡ get_or rows place row → k ≡ place
    → IsBodyOf y k (inside_of row.inside)
row_stands y rows place k row types are below is same =
    subst (λ j. IsBodyOf y j (inside_of row.inside)) (sym same)
    (record {
      home = record { types = types; below = row_below (typed_source y) rows are place below };
      body = row_written (typed_source y) rows are place row below is;
    })

pub body_types : (y : Typing) (k : ℕ) (p : Text) (b : SourceBody) → IsBodyOf y k b → HaveTypes y (body_data sort.Algebraic k p b)
body_types y k p b h d m =
    let place : IsDatum (typed_source y) sort.Algebraic d = record {
      number = k;
      below = h.home.below;
      prefix = p;
      found = subst (λ c. IsOf sort.Algebraic k p (decls_in c) d) (sym h.body) (body-member sort.Algebraic k p b d m);
    } in
    record {
      home = record { types = h.home.types; below = datum-below (typed_source y) sort.Algebraic d place };
      written = datum-typed (typed_source y) sort.Algebraic d place;
    }

-- ---- those of a component more

pub algs_added : (t : Source) (k : ℕ) (p : Text) (b : SourceBody) (before after : List NetAlg) (number : ℕ) (own : Values) (located : List Values) (ds : List DatumTree) → after ≡ before ++ map (alg_with t number own located) ds
    → number ≡ home_number t k b → own ≡ body_added b → located ≡ map location_added (locs_in b) → ds ≡ body_data sort.Algebraic k p b → after ≡ before ++ body_algs t k p b
algs_added t k p b before after number own located ds added numbered owned placed found = added ∙ λ i. before ++ map (alg_with t (numbered i) (owned i) (placed i)) (found i)
