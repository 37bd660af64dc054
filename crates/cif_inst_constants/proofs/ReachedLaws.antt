-- What a name that is constant finds, and its value.
use Rattle.std.proofs.Common.{◌≡◌, ℕ, ℤ, pos, Bool, false, List, refl, ap, ◌∙◌, Some}
use Rattle.std.specs.Prelude.{slice_get}
use Rattle.cif_system.proofs.Lists.{false-true}
use Rattle.cif_system.specs.Words.{Member}
use Rattle.cif_ast.specs.declared.names.Ident.{Ident}
use Rattle.cif_ast.specs.declared.names.Name.{Name}
use Rattle.cif_ast.specs.Tree.{Tree}
use Rattle.cif_source.specs.Source.{const_decl, TypeTree, Source}
use Rattle.cif_source.specs.Components.{Component, as_written, Entry, declared, literal, location, inner, definition, instance, parameter}
use Rattle.cif_source.specs.Lookup.{ScopeEntry, Reached, reached, missing, blocked, found, follow, ended}
use Rattle.cif_source.specs.Objects.{components_of, decls_of}
use Rattle.cif_source.specs.Scoping.{is_wrong}
use Rattle.cif_source.specs.Value.{value_with, constant_object}
use Rattle.cif_source.proofs.NameLaws.{is_parameter, met, met_at-own, follow-met}
use Rattle.cif_source.specs.BodyRules.{is_constant}
use Rattle.cif_scope.specs.declared.scope.What.{What}
use Rattle.cif_scope.specs.declared.scope.What.TheVariants as what
use Rattle.cif_scope.specs.declared.scope.Sort.TheVariants as sort
use Rattle.cif_scope.specs.declared.looked.Looked.{Looked}
use Rattle.cif_scope.specs.declared.looked.Looked.TheVariants.{At, Missing, Blocked}
use Rattle.cif_scope.specs.declared.scopes.Scopes.{Scopes}
use Rattle.cif_scope.specs.Tables.{IsBody, IsWhat}
use Rattle.cif_scope.specs.Looks.{what_at}
use Rattle.cif_scope.specs.Scopes.{IsEntry}
use Rattle.cif_scope.proofs.BodyLaws.{scope-written}
use Rattle.cif_scope.proofs.LookLaws.{Agrees}
use Rattle.cif_scope.proofs.FindLaws.{what-of}
use Rattle.cif_inst_constants.specs.Numbers.{unit_of, numbers_of, number_at, number_if, number_found}
use Rattle.cif_inst_constants.specs.Named.{value_at, what_value, looked_value}
use Rattle.cif_inst_constants.proofs.UsedLaws.{IsMarked}
use Rattle.cif_inst_constants.proofs.FoundLaws.{Stands}
use Rattle.cif_inst_constants.proofs.NodeLaws.{nodes, node-of}

abbrev pub constant_argument : (Name → ℤ) → Component → Tree → ℤ
constant_argument name g a = value_with name (pos 0) a

-- a name that leads to a constant or a literal, or nowhere, is followed to what is found
module _ (defined : Component → Tree → ℤ) where
  abbrev met_by : Reached → ℤ
  met_by r = met (constant_object defined) (pos 0) constant_argument r

  ended-own : (d : Component) (e : Entry) → is_parameter e ≡ false → met_by (reached (d, e)) ≡ constant_object defined (d, e)
  ended-own d e h = met_at-own (constant_object defined) (pos 0) constant_argument d e h

  ended-met : (r : Reached) → is_wrong is_constant r ≡ false → met_by r ≡ ended (constant_object defined) (pos 0) r
  ended-met (reached (d, declared x)) h = ended-own d (declared x) refl
  ended-met (reached (d, literal i ls)) h = ended-own d (literal i ls) refl
  ended-met (reached (d, location i)) h = ended-own d (location i) refl
  ended-met (reached (d, inner n b)) h = ended-own d (inner n b) refl
  ended-met (reached (d, definition n ps b)) h = ended-own d (definition n ps b) refl
  ended-met (reached (d, instance i)) h = ended-own d (instance i) refl
  ended-met (reached (d, parameter i p)) h = absurd (false-true h refl)
  ended-met missing h = refl
  ended-met blocked h = refl

  pub followed : (c : Component) (nm : Name) → is_wrong is_constant (found c nm) ≡ false → follow (constant_object defined) (pos 0) constant_argument c nm ≡ ended (constant_object defined) (pos 0) (found c nm)
  followed c nm h = follow-met (constant_object defined) (pos 0) constant_argument c nm ∙ ended-met (found c nm) h

module _ (t : Source) (s : Scopes) (used : List Bool) (are : IsMarked t s used) where
  -- ---- constants that are found

  abbrev pub numbers : List (List ℕ)
  numbers = numbers_of s used

  -- number m is that of a constant with this value which the component d declares
  pub record IsNode (m k : ℕ) (d : Component) (ty : TypeTree) (n : Ident) (e : Tree) : Type 0 where
    pub listed : Member d (components_of t)
    pub own : IsBody t k (as_written d)
    pub declares : Member (const_decl ty n e) (decls_of d)
    pub at : slice_get (nodes t s used are) m ≡ Some (record { body = k; decl = const_decl ty n e; value = e })

  abbrev pub IsFoundNode : Looked → ℕ → Component → TypeTree → Ident → Tree → Type 0
  IsFoundNode l m d ty n e = (k : ℕ) × (number_found s numbers l ≡ Some m) × IsNode m k d ty n e

  what-at : (k j : ℕ) (d : Component) (e : Entry) → IsBody t k (as_written d) → IsEntry d e j → (w : What) × (what_at s.table k j ≡ Some w) × IsWhat t (as_written d) e w
  what-at k j d e own at = what-of t s.table are.numbers.table are.numbers.indexed k j d e own at

  pub found-node : (k j : ℕ) (d : Component) (ty : TypeTree) (n : Ident) (e : Tree) → Stands t (d, declared (const_decl ty n e)) → IsBody t k (as_written d) → IsEntry d (declared (const_decl ty n e)) j → IsFoundNode (At k j) (number_at numbers k j) d ty n e
  found-node k j d ty n e stands own at =
      let w = what-at k j d (declared (const_decl ty n e)) own at in
      let is : what_at s.table k j ≡ Some (what.Declared sort.Constant) = w.1 ∙ ap Some w.2.1 ∙ ap (λ x. Some (what.Declared x)) w.2.2 in (
        k,
        ap (λ o. number_if (unit_of o) (number_at numbers k j)) is,
        record {
          listed = stands.0;
          own = own;
          declares = stands.1;
          at = node-of t s used are k (as_written d) j at.0 ty n e (are.each k d stands.0 own) own (ap (λ es. slice_get es j) (scope-written d) ∙ at.1);
        },
      )

  -- the value that the table gives what is found is its value, where that of a constant that is found is
  pub found-value : (defined : Component → Tree → ℤ) (vs : List ℤ) (r : Reached) (l : Looked) → is_wrong is_constant r ≡ false → ((x : ScopeEntry) → r ≡ reached x → Stands t x) → Agrees t r l
      → ((m : ℕ) (d : Component) (ty : TypeTree) (n : Ident) (e : Tree) → r ≡ reached (d, declared (const_decl ty n e)) → IsFoundNode l m d ty n e → value_at vs m ≡ defined d e)
      → looked_value s numbers vs l ≡ ended (constant_object defined) (pos 0) r
  found-value defined vs (reached (d, declared (const_decl ty n e))) (At k j) right stands h same =
      let w = what-at k j d (declared (const_decl ty n e)) h.0 h.1 in
      let m : ℕ = number_at numbers k j in
      let is : what_at s.table k j ≡ Some (what.Declared sort.Constant) = w.1 ∙ ap Some w.2.1 ∙ ap (λ x. Some (what.Declared x)) w.2.2 in
      ap (what_value vs m) is ∙ same m d ty n e refl (found-node k j d ty n e (stands (d, declared (const_decl ty n e)) refl) h.0 h.1)
  found-value defined vs (reached (d, literal i ls)) (At k j) right stands h same = let w = what-at k j d (literal i ls) h.0 h.1 in ap (what_value vs (number_at numbers k j)) (w.1 ∙ ap Some w.2)
  found-value defined vs (reached (d, x)) (At k j) right stands h same = absurd (false-true right refl)
  found-value defined vs (reached (d, x)) Missing right stands h same = absurd h
  found-value defined vs (reached (d, x)) Blocked right stands h same = absurd h
  found-value defined vs missing (At k j) right stands h same = absurd h
  found-value defined vs missing Missing right stands h same = refl
  found-value defined vs missing Blocked right stands h same = refl
  found-value defined vs blocked (At k j) right stands h same = absurd h
  found-value defined vs blocked Missing right stands h same = refl
  found-value defined vs blocked Blocked right stands h same = refl
