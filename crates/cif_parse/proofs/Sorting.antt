-- One element of a location or of a body more behind those that are sorted.
use Rattle.std.proofs.Common.{◌≡◌, List, [], ◌∷◌, ◌++◌, Bool, true, false, ◌||◌, Option, Some, None, refl, sym, ap, ◌∙◌, append_assoc, append-nil}
use Rattle.std.specs.List.{list_any, last_or}
use Rattle.cif_ast.specs.declared.names.Name.{Name}
use Rattle.cif_ast.specs.declared.expressions.Expr.{Expr}
use Rattle.cif_ast.specs.declared.declarations.Decl.{Decl}
use Rattle.cif_parse.specs.declared.elements.Element.{Element}
use Rattle.cif_parse.specs.declared.elements.Element.TheVariants as element
use Rattle.cif_parse.specs.declared.bodies.BodyElement.{BodyElement}
use Rattle.cif_parse.specs.declared.bodies.BodyElement.TheVariants as body_element
use Rattle.cif_parse.specs.Trees.{is_initial, markings_of, equations_of, edges_of, declarations_of, alphabets_of, monitors_of}

or_assoc : (a b c : Bool) → (a || (b || c)) ≡ ((a || b) || c)
or_assoc true b c = refl
or_assoc false b c = refl

or_false : (a : Bool) → (a || false) ≡ a
or_false true = refl
or_false false = refl

pub initial_last : (es : List Element) (e : Element) → list_any is_initial (es ++ e ∷ []) ≡ (list_any is_initial es || is_initial e)
initial_last [] e = or_false (is_initial e)
initial_last (f ∷ es) e = ap (λ b. is_initial f || b) (initial_last es e) ∙ or_assoc (is_initial f) (list_any is_initial es) (is_initial e)

pub markings_last : (es : List Element) (e : Element) → markings_of (es ++ e ∷ []) ≡ markings_of es ++ markings_of (e ∷ [])
markings_last [] e = refl
markings_last (element.Initial ∷ es) e = markings_last es e
markings_last (element.Marked ps ∷ es) e = ap (λ u. ps ++ u) (markings_last es e) ∙ sym (append_assoc ps (markings_of es) (markings_of (e ∷ [])))
markings_last (element.Equation q ∷ es) e = markings_last es e
markings_last (element.Edge q ∷ es) e = markings_last es e

pub equations_last : (es : List Element) (e : Element) → equations_of (es ++ e ∷ []) ≡ equations_of es ++ equations_of (e ∷ [])
equations_last [] e = refl
equations_last (element.Initial ∷ es) e = equations_last es e
equations_last (element.Marked ps ∷ es) e = equations_last es e
equations_last (element.Equation q ∷ es) e = ap (λ u. q ∷ u) (equations_last es e)
equations_last (element.Edge q ∷ es) e = equations_last es e

pub edges_last : (es : List Element) (e : Element) → edges_of (es ++ e ∷ []) ≡ edges_of es ++ edges_of (e ∷ [])
edges_last [] e = refl
edges_last (element.Initial ∷ es) e = edges_last es e
edges_last (element.Marked ps ∷ es) e = edges_last es e
edges_last (element.Equation q ∷ es) e = edges_last es e
edges_last (element.Edge q ∷ es) e = ap (λ u. q ∷ u) (edges_last es e)

pub declarations_last : (ps : List BodyElement) (p : BodyElement) → declarations_of (ps ++ p ∷ []) ≡ declarations_of ps ++ declarations_of (p ∷ [])
declarations_last [] p = refl
declarations_last (body_element.Decls ds ∷ ps) p = ap (λ u. ds ++ u) (declarations_last ps p) ∙ sym (append_assoc ds (declarations_of ps) (declarations_of (p ∷ [])))
declarations_last (body_element.Alphabet ns ∷ ps) p = declarations_last ps p
declarations_last (body_element.Monitor ns ∷ ps) p = declarations_last ps p

pub alphabets_last : (ps : List BodyElement) (p : BodyElement) → alphabets_of (ps ++ p ∷ []) ≡ alphabets_of ps ++ alphabets_of (p ∷ [])
alphabets_last [] p = refl
alphabets_last (body_element.Decls ds ∷ ps) p = alphabets_last ps p
alphabets_last (body_element.Alphabet ns ∷ ps) p = ap (λ u. ns ∷ u) (alphabets_last ps p)
alphabets_last (body_element.Monitor ns ∷ ps) p = alphabets_last ps p

pub monitors_last : (ps : List BodyElement) (p : BodyElement) → monitors_of (ps ++ p ∷ []) ≡ monitors_of ps ++ monitors_of (p ∷ [])
monitors_last [] p = refl
monitors_last (body_element.Decls ds ∷ ps) p = monitors_last ps p
monitors_last (body_element.Alphabet ns ∷ ps) p = monitors_last ps p
monitors_last (body_element.Monitor ns ∷ ps) p = ap (λ u. ns ∷ u) (monitors_last ps p)

last_behind : {A : Type 0} (o : Option A) (all : List A) (a : A) → last_or o (all ++ a ∷ []) ≡ Some a
last_behind o [] a = refl
last_behind o (b ∷ more) a = last_behind (Some b) more a

-- ---- by what stands behind

pub initial_behind : (es : List Element) → list_any is_initial (es ++ element.Initial ∷ []) ≡ true
initial_behind es = initial_last es element.Initial ∙ or_true (list_any is_initial es)
  where
    or_true : (a : Bool) → (a || true) ≡ true
    or_true true = refl
    or_true false = refl

-- an element that is no `initial` doesn't change whether there is one
pub same_initial : (es : List Element) (e : Element) → is_initial e ≡ false → list_any is_initial (es ++ e ∷ []) ≡ list_any is_initial es
same_initial es e h = initial_last es e ∙ ap (λ b. list_any is_initial es || b) h ∙ or_false (list_any is_initial es)

pub marked_behind : (es : List Element) (ps : List Expr) → markings_of (es ++ element.Marked ps ∷ []) ≡ markings_of es ++ ps
marked_behind es ps = markings_last es (element.Marked ps) ∙ ap (λ u. markings_of es ++ u) (append-nil ps)

pub same_markings : (es : List Element) (e : Element) → markings_of (e ∷ []) ≡ [] → markings_of (es ++ e ∷ []) ≡ markings_of es
same_markings es e h = markings_last es e ∙ ap (λ u. markings_of es ++ u) h ∙ append-nil (markings_of es)

pub same_equations : (es : List Element) (e : Element) → equations_of (e ∷ []) ≡ [] → equations_of (es ++ e ∷ []) ≡ equations_of es
same_equations es e h = equations_last es e ∙ ap (λ u. equations_of es ++ u) h ∙ append-nil (equations_of es)

pub same_edges : (es : List Element) (e : Element) → edges_of (e ∷ []) ≡ [] → edges_of (es ++ e ∷ []) ≡ edges_of es
same_edges es e h = edges_last es e ∙ ap (λ u. edges_of es ++ u) h ∙ append-nil (edges_of es)

pub declared_behind : (ps : List BodyElement) (ds : List Decl) → declarations_of (ps ++ body_element.Decls ds ∷ []) ≡ declarations_of ps ++ ds
declared_behind ps ds = declarations_last ps (body_element.Decls ds) ∙ ap (λ u. declarations_of ps ++ u) (append-nil ds)

pub same_declarations : (ps : List BodyElement) (p : BodyElement) → declarations_of (p ∷ []) ≡ [] → declarations_of (ps ++ p ∷ []) ≡ declarations_of ps
same_declarations ps p h = declarations_last ps p ∙ ap (λ u. declarations_of ps ++ u) h ∙ append-nil (declarations_of ps)

pub only_alphabet : (ps : List BodyElement) (ns : List Name) → last_or None (alphabets_of (ps ++ body_element.Alphabet ns ∷ [])) ≡ Some ns
only_alphabet ps ns = ap (last_or None) (alphabets_last ps (body_element.Alphabet ns)) ∙ last_behind None (alphabets_of ps) ns

pub same_alphabet : (ps : List BodyElement) (p : BodyElement) → alphabets_of (p ∷ []) ≡ [] → last_or None (alphabets_of (ps ++ p ∷ [])) ≡ last_or None (alphabets_of ps)
same_alphabet ps p h = ap (last_or None) (alphabets_last ps p ∙ ap (λ u. alphabets_of ps ++ u) h ∙ append-nil (alphabets_of ps))

pub only_monitor : (ps : List BodyElement) (ns : List Name) → last_or None (monitors_of (ps ++ body_element.Monitor ns ∷ [])) ≡ Some ns
only_monitor ps ns = ap (last_or None) (monitors_last ps (body_element.Monitor ns)) ∙ last_behind None (monitors_of ps) ns

pub same_monitor : (ps : List BodyElement) (p : BodyElement) → monitors_of (p ∷ []) ≡ [] → last_or None (monitors_of (ps ++ p ∷ [])) ≡ last_or None (monitors_of ps)
same_monitor ps p h = ap (last_or None) (monitors_last ps p ∙ ap (λ u. monitors_of ps ++ u) h ∙ append-nil (monitors_of ps))
