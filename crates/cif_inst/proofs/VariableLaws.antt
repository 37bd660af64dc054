-- The variables and the inputs that are made are those of the net of a source.
use Rattle.std.proofs.Common.{◌≡◌, ℕ, true, List, [], ◌∷◌, ◌++◌, map, Option, None, refl, sym, ◌∙◌, ap}
use Rattle.std.specs.Prelude.{ℤ, filter}
use Rattle.cif_ast.specs.Tree.{Tree}
use Rattle.cif_ast.specs.declared.names.Ident.{Ident}
use Rattle.cif_source.specs.Source.{Text, TypeTree, DeclTree, type_decl, enum_decl, event_decl, const_decl, alg_decl, input_decl, disc_decl, equation_decl, invariant_decl, marked_decl, Source}
use Rattle.cif_source.specs.Components.{Component, path_of}
use Rattle.cif_source.specs.Objects.{components_of, Declared, is_input, is_variable, inputs, variables}
use Rattle.cif_source.specs.Types.{first_of_type}
use Rattle.cif_inst_model.specs.Flat.{stored_by, net_stored}
use Rattle.cif_inst_model.specs.Types.{net_type}
use Rattle.cif_inst_types.specs.Types.{net_type_of}
use Rattle.cif_inst_types.specs.declared.types.NetTy.{NetTy}
use Rattle.cif_inst_names.specs.Looking.{component_of}
use Rattle.cif_inst.specs.Declarations.{DatumTree, datum, decl_data, rows_data}
use Rattle.cif_inst_paths.specs.Rows.{prefix_of, rows_of}
use Rattle.cif_inst.specs.Typing.{typed_source, AreTypesOf}
use Rattle.cif_inst.specs.Variables.{stored_in, stored, all_stored, StandAll}
use Rattle.cif_inst.specs.declared.declarations.Sort.{Sort}
use Rattle.cif_inst.specs.declared.declarations.Sort.TheVariants as sort
use Rattle.cif_inst.specs.declared.typing.Typing.{Typing}
use Rattle.cif_inst_paths.proofs.RowLaws.{dots-dotted}
use Rattle.cif_inst.proofs.DeclarationLaws.{is_stored, made-all, data-are, data-member, datum-constant}
use Rattle.cif_inst.proofs.TypingLaws.{has_type}

-- ---- those of a source

module _ (t : Source) (k : ℕ) (c : Component) (same : component_of t k ≡ c) where
  stored-is : (n : Ident) (ty : TypeTree) (e : Option Tree) → stored t (datum k (prefix_of c) n ty e) ≡ stored_by c n ty e
  stored-is n ty e = λ i. record {
    path = sym (dots-dotted (path_of c) n.text) i;
    type_of = (net_type (same i) ty).type_of;
    first = first_of_type (same i) ty e;
    literals = (net_type (same i) ty).literals;
  }

  abbrev becomes : (DeclTree → List Declared) → Sort → DeclTree → Type 0
  becomes kept s d = map (stored t) (decl_data s k (prefix_of c) d) ≡ map net_stored (kept d)

  one-variable : (d : DeclTree) → becomes (λ d. map (λ d. (c, d)) (filter is_variable (d ∷ []))) sort.Discrete d
  one-variable (disc_decl ty n e) = ap (λ x. x ∷ []) (stored-is n ty e)
  one-variable (event_decl k h n) = refl
  one-variable (type_decl n ty) = refl
  one-variable (enum_decl n ls) = refl
  one-variable (const_decl ty n e) = refl
  one-variable (alg_decl ty n e) = refl
  one-variable (input_decl ty n) = refl
  one-variable (equation_decl q) = refl
  one-variable (invariant_decl i) = refl
  one-variable (marked_decl e) = refl

  one-input : (d : DeclTree) → becomes (λ d. map (λ d. (c, d)) (filter is_input (d ∷ []))) sort.Input d
  one-input (input_decl ty n) = ap (λ x. x ∷ []) (stored-is n ty None)
  one-input (event_decl k h n) = refl
  one-input (type_decl n ty) = refl
  one-input (enum_decl n ls) = refl
  one-input (const_decl ty n e) = refl
  one-input (alg_decl ty n e) = refl
  one-input (disc_decl ty n e) = refl
  one-input (equation_decl q) = refl
  one-input (invariant_decl i) = refl
  one-input (marked_decl e) = refl

pub variables-are : (t : Source) → all_stored t sort.Discrete (rows_of t) ≡ map net_stored (variables t)
variables-are t = made-all sort.Discrete (stored t) (components_of t) 0 ∙ data-are t sort.Discrete is_variable net_stored (λ k c. stored t) (λ k c same m d i. one-variable t k c same d)

pub inputs-are : (t : Source) → all_stored t sort.Input (rows_of t) ≡ map net_stored (inputs t)
inputs-are t = made-all sort.Input (stored t) (components_of t) 0 ∙ data-are t sort.Input is_input net_stored (λ k c. stored t) (λ k c same m d i. one-input t k c same d)

-- ---- one of them

-- the value is kept in 64 bits
pub stored_kept : (c : Component) (d : DatumTree) (path : Text) (x : NetTy) (first kept : ℤ) → kept ≡ first → path ≡ d.prefix ++ d.name.text → net_type_of x ≡ net_type c d.type_of → first ≡ first_of_type c d.type_of d.value
    → record { path = path; type_of = x.ty; first = kept; literals = x.literals } ≡ stored_in c d
stored_kept c d path x first kept same named typed valued = λ i. record { path = named i; type_of = (typed i).type_of; first = (same ∙ valued) i; literals = (typed i).literals }

-- those that are found stand in their components
pub stand_all : (y : Typing) (s : Sort) → AreTypesOf y → is_stored s ≡ true → StandAll y (rows_data s 0 (rows_of (typed_source y)))
stand_all y s types h d m = record { place = has_type y s types d m; valued = datum-constant (typed_source y) s d (data-member (typed_source y) s d m) h }
