-- How many scopes there are, and a scope that is written behind others.
use Rattle.std.proofs.Common.{◌≡◌, ℕ, ◌+◌, List, [], ◌∷◌, ◌++◌, length, length-append, append_assoc, refl, ap, ◌∙◌, arith, Option, Some}
use Rattle.std.specs.Prelude.{slice_set}
use Rattle.cif_source.specs.Source.{ParamTree, SourceItem, decl_item, component_item, definition_item, instance_item, SourceBody, group_body, automaton_body, Source, no_source, source}
use Rattle.cif_scope.specs.declared.scope.Scope.{Scope}
use Rattle.cif_scope.specs.declared.scope.ScopeName.{ScopeName}
use Rattle.cif_scope.specs.Drafts.{count_in, count_at, count_under, next_instance, item_names, names_in, scope, scopes_in, scopes_at, scopes_from}

mutual
  pub scopes_in-count : (o k : ℕ) (is : Source) → length (scopes_in o k is) ≡ count_in is
  scopes_in-count o k no_source = refl
  scopes_in-count o k (source i is) =
      let first : length (scopes_at o k i) ≡ count_at i = scopes_at-count o k i in
      let rest : length (scopes_in o (k + count_at i) is) ≡ count_in is = scopes_in-count o (k + count_at i) is in
      length-append (scopes_at o k i) (scopes_in o (k + count_at i) is) ∙ omega arith

  pub scopes_at-count : (o k : ℕ) (i : SourceItem) → length (scopes_at o k i) ≡ count_at i
  scopes_at-count o k (decl_item d) = refl
  scopes_at-count o k (component_item n b) = scopes_from-count (Some o) k [] b
  scopes_at-count o k (definition_item n ps b) = scopes_from-count (Some o) k ps b
  scopes_at-count o k (instance_item i) = refl

  pub scopes_from-count : (o : Option ℕ) (k : ℕ) (ps : List ParamTree) (b : SourceBody) → length (scopes_from o k ps b) ≡ 1 + count_under b
  scopes_from-count o k ps (group_body is) = let rest : length (scopes_in k (k + 1) is) ≡ count_in is = scopes_in-count k (k + 1) is in omega arith
  scopes_from-count o k ps (automaton_body a) = refl

-- one written behind others
pub set-behind : {A : Type 0} (front rest : List A) (x y : A) → slice_set ((front ++ x ∷ []) ++ rest) (length front) y ≡ front ++ y ∷ rest
set-behind [] rest x y = refl
set-behind (z ∷ front) rest x y = ap (λ zs. z ∷ zs) (set-behind front rest x y)

-- the scope of a group, which is written after those in it
pub group-written : (front pushed after out : List Scope) (at own : ℕ) (x : Scope) (outer : Option ℕ) (params given names : List ScopeName) (is : Source)
    → at ≡ length front → own ≡ at → pushed ≡ front ++ x ∷ [] → given ≡ params → names ≡ given ++ names_in (length pushed) 0 is
    → after ≡ pushed ++ scopes_in own (length pushed) is → out ≡ slice_set after at (scope outer names)
    → out ≡ front ++ scope outer (params ++ names_in (length front + 1) 0 is) ∷ scopes_in (length front) (length front + 1) is
group-written front pushed after out at own x outer params given names is e-at e-own e-pushed e-given e-names e-after e-out =
    let long : length pushed ≡ length front + 1 = ap (λ (l : List Scope). length l) e-pushed ∙ length-append front (x ∷ []) in
    let all-names : names ≡ params ++ names_in (length front + 1) 0 is = e-names ∙ ap (λ n. given ++ names_in n 0 is) long ∙ ap (λ (ns : List ScopeName). ns ++ names_in (length front + 1) 0 is) e-given in
    let inside : after ≡ (front ++ x ∷ []) ++ scopes_in (length front) (length front + 1) is =
    e-after ∙ ap (λ (l : List Scope). l ++ scopes_in own (length pushed) is) e-pushed ∙ ap (λ n. (front ++ x ∷ []) ++ scopes_in n (length pushed) is) (e-own ∙ e-at)
    ∙ ap (λ n. (front ++ x ∷ []) ++ scopes_in (length front) n is) long in
    e-out ∙ ap (λ n. slice_set after n (scope outer names)) e-at ∙ ap (λ (l : List Scope). slice_set l (length front) (scope outer names)) inside
    ∙ set-behind front (scopes_in (length front) (length front + 1) is) x (scope outer names)
    ∙ ap (λ (ns : List ScopeName). front ++ scope outer ns ∷ scopes_in (length front) (length front + 1) is) all-names

-- one more item
pub scopes-step : (o : ℕ) (front more : List Scope) (i : SourceItem) (is : Source) → more ≡ front ++ scopes_at o (length front) i
    → more ++ scopes_in o (length more) is ≡ front ++ scopes_in o (length front) (source i is)
scopes-step o front more i is e =
    let long : length more ≡ length front + count_at i = ap (λ (l : List Scope). length l) e ∙ length-append front (scopes_at o (length front) i) ∙ ap (λ n. length front + n) (scopes_at-count o (length front) i) in
    ap (λ n. more ++ scopes_in o n is) long ∙ ap (λ (l : List Scope). l ++ scopes_in o (length front + count_at i) is) e
    ∙ append_assoc front (scopes_at o (length front) i) (scopes_in o (length front + count_at i) is)

pub names-step : (o : ℕ) (front more : List Scope) (names further : List ScopeName) (r s : ℕ) (i : SourceItem) (is : Source) → more ≡ front ++ scopes_at o (length front) i
    → further ≡ names ++ item_names (length front) r i → s ≡ next_instance r i
    → further ++ names_in (length more) s is ≡ names ++ names_in (length front) r (source i is)
names-step o front more names further r s i is e f g =
    let long : length more ≡ length front + count_at i = ap (λ (l : List Scope). length l) e ∙ length-append front (scopes_at o (length front) i) ∙ ap (λ n. length front + n) (scopes_at-count o (length front) i) in
    ap (λ n. further ++ names_in n s is) long ∙ ap (λ n. further ++ names_in (length front + count_at i) n is) g
    ∙ ap (λ (l : List ScopeName). l ++ names_in (length front + count_at i) (next_instance r i) is) f
    ∙ append_assoc names (item_names (length front) r i) (names_in (length front + count_at i) (next_instance r i) is)
