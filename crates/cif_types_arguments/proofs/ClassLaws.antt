-- What is said of the class of what a name finds is its class.
use Rattle.std.proofs.Common.{◌≡◌, ℕ, zero, suc, ◌+◌, true, List, [], ◌∷◌, ◌++◌, map, Option, Some, None, refl, sym, ap, ◌∙◌}
use Rattle.std.specs.Prelude.{option_map, slice_get}
use Rattle.std.specs.List.{enumerate_from, list_all}
use Rattle.std.proofs.lemmas.Option.{slice_get-map}
use Rattle.cif_system.proofs.Lists.{some-same, none-some, false-true}
use Rattle.cif_system.proofs.Picks.{all-at}
use Rattle.cif_ast.specs.declared.names.Ident.{Ident}
use Rattle.cif_ast.specs.declared.names.Name.{Name}
use Rattle.cif_ast.specs.declared.declarations.Class.{Class}
use Rattle.cif_ast.specs.declared.declarations.Class.TheVariants as class
use Rattle.cif_source.specs.Source.{type_decl, enum_decl, event_decl, const_decl, alg_decl, input_decl, disc_decl, equation_decl, invariant_decl, marked_decl, ParamTree, event_param, alg_param, location_param, param_tree, Source}
use Rattle.cif_source.specs.Components.{Component, as_written, params_of, body_of, scope_of, body_entries, param_name, Entry, Entries, declared, literal, location, inner, definition, instance, parameter}
use Rattle.cif_source.specs.Lookup.{Reached, reached, missing, blocked, found}
use Rattle.cif_source.specs.Objects.{bodies}
use Rattle.cif_source.proofs.NameLaws.{is_own, own-body}
use Rattle.cif_source.specs.Demands.{has_asked_class}
use Rattle.cif_scope.specs.declared.scope.What.{What}
use Rattle.cif_scope.specs.declared.scopes.Scopes.{Scopes}
use Rattle.cif_scope.specs.declared.scopes.Found.{Found}
use Rattle.cif_scope.specs.declared.written.Written.{Written}
use Rattle.cif_scope.specs.Tables.{IsBody, IsWhat}
use Rattle.cif_scope.specs.Scopes.{AreNumbered, Finds}
use Rattle.cif_scope.specs.Written.{WrittenBody, written_bodies, body_of_written}
use Rattle.cif_scope.proofs.BodyLaws.{scope-written}
use Rattle.cif_scope.proofs.DefinitionLaws.{IsWritten, bodies-written}
use Rattle.cif_scope.proofs.FindLaws.{what-of}
use Rattle.cif_scope.proofs.Places.{beside-at}
use Rattle.cif_types_kinds.specs.declared.reading.Reading.{Reading}
use Rattle.cif_types_kinds.specs.Readings.{source_for, component_in, IsReading}
use Rattle.cif_types_kinds.proofs.NameLaws.{body-is}
use Rattle.cif_types_arguments.specs.Classes.{params_at, param_class, sort_class, class_in, class_found, has_class}
use Rattle.cif_types_arguments.specs.Arguments.{AreWrittenIn}

-- ---- the class that is asked

-- the class of an event or an event parameter
class_of_reached : Reached → Option Class
class_of_reached (reached (c, declared (type_decl n ty))) = None
class_of_reached (reached (c, declared (enum_decl n ls))) = None
class_of_reached (reached (c, declared (event_decl j h n))) = Some j
class_of_reached (reached (c, declared (const_decl ty n e))) = None
class_of_reached (reached (c, declared (alg_decl ty n e))) = None
class_of_reached (reached (c, declared (input_decl ty n))) = None
class_of_reached (reached (c, declared (disc_decl ty n e))) = None
class_of_reached (reached (c, declared (equation_decl q))) = None
class_of_reached (reached (c, declared (invariant_decl i))) = None
class_of_reached (reached (c, declared (marked_decl p))) = None
class_of_reached (reached (c, literal i ls)) = None
class_of_reached (reached (c, location i)) = None
class_of_reached (reached (c, inner n b)) = None
class_of_reached (reached (c, definition n ps b)) = None
class_of_reached (reached (c, instance i)) = None
class_of_reached (reached (c, parameter i (event_param j h n))) = Some j
class_of_reached (reached (c, parameter i (alg_param ty n))) = None
class_of_reached (reached (c, parameter i (location_param n))) = None
class_of_reached missing = None
class_of_reached blocked = None

asked : (k : Class) (q : Reached) → has_asked_class k q ≡ has_class k (class_of_reached q)
unfolding class_of_reached
asked class.Plain q = refl
asked class.Con (reached (c, declared (type_decl n ty))) = refl
asked class.Con (reached (c, declared (enum_decl n ls))) = refl
asked class.Con (reached (c, declared (event_decl class.Plain h n))) = refl
asked class.Con (reached (c, declared (event_decl class.Con h n))) = refl
asked class.Con (reached (c, declared (event_decl class.Unc h n))) = refl
asked class.Con (reached (c, declared (const_decl ty n e))) = refl
asked class.Con (reached (c, declared (alg_decl ty n e))) = refl
asked class.Con (reached (c, declared (input_decl ty n))) = refl
asked class.Con (reached (c, declared (disc_decl ty n e))) = refl
asked class.Con (reached (c, declared (equation_decl q))) = refl
asked class.Con (reached (c, declared (invariant_decl i))) = refl
asked class.Con (reached (c, declared (marked_decl p))) = refl
asked class.Con (reached (c, literal i ls)) = refl
asked class.Con (reached (c, location i)) = refl
asked class.Con (reached (c, inner n b)) = refl
asked class.Con (reached (c, definition n ps b)) = refl
asked class.Con (reached (c, instance i)) = refl
asked class.Con (reached (c, parameter i (event_param class.Plain h n))) = refl
asked class.Con (reached (c, parameter i (event_param class.Con h n))) = refl
asked class.Con (reached (c, parameter i (event_param class.Unc h n))) = refl
asked class.Con (reached (c, parameter i (alg_param ty n))) = refl
asked class.Con (reached (c, parameter i (location_param n))) = refl
asked class.Con missing = refl
asked class.Con blocked = refl
asked class.Unc (reached (c, declared (type_decl n ty))) = refl
asked class.Unc (reached (c, declared (enum_decl n ls))) = refl
asked class.Unc (reached (c, declared (event_decl class.Plain h n))) = refl
asked class.Unc (reached (c, declared (event_decl class.Con h n))) = refl
asked class.Unc (reached (c, declared (event_decl class.Unc h n))) = refl
asked class.Unc (reached (c, declared (const_decl ty n e))) = refl
asked class.Unc (reached (c, declared (alg_decl ty n e))) = refl
asked class.Unc (reached (c, declared (input_decl ty n))) = refl
asked class.Unc (reached (c, declared (disc_decl ty n e))) = refl
asked class.Unc (reached (c, declared (equation_decl q))) = refl
asked class.Unc (reached (c, declared (invariant_decl i))) = refl
asked class.Unc (reached (c, declared (marked_decl p))) = refl
asked class.Unc (reached (c, literal i ls)) = refl
asked class.Unc (reached (c, location i)) = refl
asked class.Unc (reached (c, inner n b)) = refl
asked class.Unc (reached (c, definition n ps b)) = refl
asked class.Unc (reached (c, instance i)) = refl
asked class.Unc (reached (c, parameter i (event_param class.Plain h n))) = refl
asked class.Unc (reached (c, parameter i (event_param class.Con h n))) = refl
asked class.Unc (reached (c, parameter i (event_param class.Unc h n))) = refl
asked class.Unc (reached (c, parameter i (alg_param ty n))) = refl
asked class.Unc (reached (c, parameter i (location_param n))) = refl
asked class.Unc missing = refl
asked class.Unc blocked = refl

-- ---- parameters

-- a parameter among the entries of a scope
param-there : (m : ℕ) (ps : List ParamTree) (es : Entries) (i : ℕ) (n : Ident) (j : ℕ) (p : ParamTree) → list_all (λ (y : Ident × Entry). is_own y.1) es ≡ true
    → slice_get (map (λ (x : ℕ × ParamTree). (param_name x.1, parameter x.0 x.1)) (enumerate_from m ps) ++ es) i ≡ Some (n, parameter j p) → slice_get ps i ≡ Some p
param-there m [] es i n j p own h = absurd (false-true refl (all-at (λ (y : Ident × Entry). is_own y.1) es i (n, parameter j p) own h))
param-there m (q ∷ ps) es zero n j p own h = ap (λ (x : Ident × Entry). Some (param_in x.1)) (some-same (param_name q, parameter m q) (n, parameter j p) h)
  where
    param_in : Entry → ParamTree
    param_in (parameter k r) = r
    param_in _ = q
param-there m (q ∷ ps) es (suc i) n j p own h = param-there (m + 1) ps es i n j p own h

module _ (t : Source) (all : List Written) (are : map body_of_written all ≡ written_bodies t) where
  -- the parameters of body k
  pub params-are : (k : ℕ) (c : Component) → IsBody t k c → map param_tree (params_at all k) ≡ params_of c
  params-are k c own =
      let w = beside-at IsWritten (bodies t) (written_bodies t) k c (bodies-written t) own in
      at (slice_get all k) w.0 (sym (slice_get-map body_of_written all k) ∙ ap (λ (ws : List WrittenBody). slice_get ws k) are ∙ w.1) ∙ sym w.2.0
    where
      at : (o : Option Written) (b : WrittenBody) → option_map body_of_written o ≡ Some b → map param_tree (elim o [ None ↦ [] | Some w ↦ w.params.now ]) ≡ b.params
      at None b h = absurd (none-some b h)
      at (Some w) b h = ap (λ (x : WrittenBody). x.params) (some-same (body_of_written w) b h)

  pub get-param : (k i : ℕ) (c : Component) (n : Ident) (j : ℕ) (p : ParamTree) → IsBody t k c → slice_get (scope_of c) i ≡ Some (n, parameter j p)
      → option_map param_tree (slice_get (params_at all k) i) ≡ Some p
  get-param k i c n j p own h =
      sym (slice_get-map param_tree (params_at all k) i) ∙ ap (λ (ps : List ParamTree). slice_get ps i) (params-are k c own)
      ∙ param-there 0 (params_of c) (body_entries (body_of c)) i n j p (own-body (body_of c)) h

-- ---- what is found

-- what is said of an entry of d, where k is the class of the parameter there
module _ (t : Source) (c d : Component) where
  said : (e : Entry) (w : What) (k : Option Class) → IsWhat t c e w → ((i : ℕ) (q : ParamTree) → e ≡ parameter i q → k ≡ param_class (Some q)) → class_in k (Some w) ≡ class_of_reached (reached (d, e))
  unfolding class_of_reached
  said (declared (type_decl n ty)) w g is f = ap (λ x. class_in g (Some x)) is.1 ∙ ap sort_class is.2
  said (declared (enum_decl n ls)) w g is f = ap (λ x. class_in g (Some x)) is.1 ∙ ap sort_class is.2
  said (declared (event_decl j h n)) w g is f = ap (λ x. class_in g (Some x)) is.1 ∙ ap sort_class is.2
  said (declared (const_decl ty n e)) w g is f = ap (λ x. class_in g (Some x)) is.1 ∙ ap sort_class is.2
  said (declared (alg_decl ty n e)) w g is f = ap (λ x. class_in g (Some x)) is.1 ∙ ap sort_class is.2
  said (declared (input_decl ty n)) w g is f = ap (λ x. class_in g (Some x)) is.1 ∙ ap sort_class is.2
  said (declared (disc_decl ty n e)) w g is f = ap (λ x. class_in g (Some x)) is.1 ∙ ap sort_class is.2
  said (declared (equation_decl q)) w g is f = absurd is.2
  said (declared (invariant_decl i)) w g is f = absurd is.2
  said (declared (marked_decl p)) w g is f = absurd is.2
  said (literal i ls) w g is f = ap (λ x. class_in g (Some x)) is
  said (location i) w g is f = ap (λ x. class_in g (Some x)) is
  said (inner n b) w g is f = ap (λ x. class_in g (Some x)) is.1
  said (definition n ps b) w g is f = ap (λ x. class_in g (Some x)) is.1
  said (instance i) w g is f = ap (λ x. class_in g (Some x)) is.1
  said (parameter i (event_param j h n)) w g is f = ap (λ x. class_in g (Some x)) is ∙ f i (event_param j h n) refl
  said (parameter i (alg_param ty n)) w g is f = ap (λ x. class_in g (Some x)) is
  said (parameter i (location_param n)) w g is f = ap (λ x. class_in g (Some x)) is

module _ (t : Source) (s : Scopes) (all : List Written) (num : AreNumbered t s) (are : map body_of_written all ≡ written_bodies t) where
  found-class : (q : Reached) (f : Option Found) → Finds t q f → class_found s all f ≡ class_of_reached q
  unfolding class_of_reached
  found-class missing None h = refl
  found-class blocked None h = refl
  found-class missing (Some g) h = absurd h
  found-class blocked (Some g) h = absurd h
  found-class (reached (d, e)) None h = absurd h
  found-class (reached (d, e)) (Some g) h =
      let w = what-of t s.table num.table num.indexed g.body g.slot d e h.body h.slot in
      ap (class_in (param_class (option_map param_tree (slice_get (params_at all g.body) g.slot)))) w.1
      ∙ said t (as_written d) d e w.0 (param_class (option_map param_tree (slice_get (params_at all g.body) g.slot))) w.2
      (λ i p is. ap param_class (get-param t all are g.body g.slot (as_written d) h.slot.0 i p h.body
      (ap (λ (es : Entries). slice_get es g.slot) (scope-written d) ∙ h.slot.1 ∙ ap (λ (x : Entry). Some (h.slot.0, x)) is)))

-- the class of what a name finds is the one that is asked
pub is_asked : (r : Reading) (all : List Written) (nm : Name) (f : Option Found) (k : Class) → IsReading r → AreWrittenIn r all
    → ((t : Source) (c : Component) → AreNumbered t r.scopes.now → IsBody t r.body c → Finds t (found c nm) f) → has_class k (class_found r.scopes.now all f) ≡ has_asked_class k (found (component_in r) nm)
is_asked r all nm f k h are finds =
    ap (has_class k) (found-class (source_for r) r.scopes.now all h.scopes are (found (component_in r) nm) f (finds (source_for r) (component_in r) h.scopes (body-is r h)))
    ∙ sym (asked k (found (component_in r) nm))
