-- Variables are checked one by one, with the keys of those before.
use Rattle.std.proofs.Common.{◌≡◌, ℕ, suc, ◌+◌, ◌<◌, Bool, true, false, cond, not, ◌&&◌, List, [], ◌∷◌, ◌++◌, length, take, drop, get_or, drop-cons, take-suc, add-one, Some, refl, sym, ap, ◌∙◌}
use Rattle.std.specs.List.{list_any}
use Rattle.std.proofs.lemmas.List.{map-append}
use Rattle.grammar.specs.Pieces.{Text}
use Rattle.st_ast.specs.Checks.{CheckFault, duplicate, init_range, unless, is_type, starts_well, variables_faults}
use Rattle.st_ast.specs.Names.{same_name}
use Rattle.st_ast.specs.declared.tree.StVar.{StVar}
use Rattle.st_check.specs.Keys.{key, keys_of, is_among}
use Rattle.st_check.specs.Told.{first}
use Rattle.st_check.proofs.Places.{among_vars}

drop_item : {A : Type 0} (xs : List A) (i : ℕ) (x : A) → i < length xs → x ≡ get_or xs i x → drop i xs ≡ x ∷ drop (i + 1) xs
drop_item xs i x l e = drop-cons xs i x l ∙ ap (λ y. y ∷ drop (suc i) xs) (sym e) ∙ ap (λ n. x ∷ drop n xs) (sym (add-one i))

take_item : {A : Type 0} (xs : List A) (i : ℕ) (x : A) → i < length xs → x ≡ get_or xs i x → take (i + 1) xs ≡ take i xs ++ x ∷ []
take_item xs i x l e = ap (λ n. take n xs) (add-one i) ∙ take-suc xs i x l ∙ ap (λ y. take i xs ++ y ∷ []) (sym e)

keys_more : (vs : List StVar) (v : StVar) → keys_of (vs ++ v ∷ []) ≡ keys_of vs ++ key v.name ∷ []
keys_more vs v = map-append (λ (u : StVar). key u.name) vs (v ∷ [])

is_new : (names : List Text) (before : List StVar) (v : StVar) (b : Bool) → names ≡ keys_of before → not (is_among names (key v.name)) ≡ b
    → not (list_any (λ (u : StVar). same_name u.name v.name) before) ≡ b
is_new names before v b is e = ap not (sym (among_vars before v.name)) ∙ ap (λ ks. not (is_among ks (key v.name))) (sym is) ∙ e

module _ (vars : List StVar) (i : ℕ) (v : StVar) (names : List Text) where
  opened : i < length vars → v ≡ get_or vars i v → variables_faults (take i vars) i (drop i vars) ≡ variables_faults (take i vars) i (v ∷ drop (i + 1) vars)
  opened l e = ap (λ vs. variables_faults (take i vars) i vs) (drop_item vars i v l e)

  faults_of : (a b : Bool) → List CheckFault
  faults_of a b = (unless a (duplicate i) ++ unless b (init_range i)) ++ variables_faults (take i vars ++ v ∷ []) (suc i) (drop (i + 1) vars)

  stands : (a b : Bool) → i < length vars → v ≡ get_or vars i v → names ≡ keys_of (take i vars) → not (is_among names (key v.name)) ≡ a → (is_type v.ty && starts_well v.ty v.init) ≡ b
      → variables_faults (take i vars) i (drop i vars) ≡ faults_of a b
  unfolding faults_of
  stands a b l e is new well =
      opened l e
      ∙ ap (λ c. (unless c (duplicate i) ++ unless (is_type v.ty && starts_well v.ty v.init) (init_range i)) ++ variables_faults (take i vars ++ v ∷ []) (suc i) (drop (i + 1) vars)) (is_new names (take i vars) v a is new)
      ∙ ap (λ c. (unless a (duplicate i) ++ unless c (init_range i)) ++ variables_faults (take i vars ++ v ∷ []) (suc i) (drop (i + 1) vars)) well

  -- an earlier variable has the name
  pub stands_twice : i < length vars → v ≡ get_or vars i v → names ≡ keys_of (take i vars) → not (is_among names (key v.name)) ≡ false
      → first (variables_faults (take i vars) i (drop i vars)) ≡ Some (duplicate i)
  unfolding faults_of
  stands_twice l e is new = ap first (stands false (is_type v.ty && starts_well v.ty v.init) l e is new refl)

  -- the type, or the first value, is not one
  pub starts_badly : i < length vars → v ≡ get_or vars i v → names ≡ keys_of (take i vars) → not (is_among names (key v.name)) ≡ true → (is_type v.ty && starts_well v.ty v.init) ≡ false
      → first (variables_faults (take i vars) i (drop i vars)) ≡ Some (init_range i)
  unfolding faults_of
  starts_badly l e is new well = ap first (stands true false l e is new well)

  -- a variable that breaks no check
  pub goes_on : i < length vars → v ≡ get_or vars i v → names ≡ keys_of (take i vars) → not (is_among names (key v.name)) ≡ true → (is_type v.ty && starts_well v.ty v.init) ≡ true
      → variables_faults (take (i + 1) vars) (i + 1) (drop (i + 1) vars) ≡ variables_faults (take i vars) i (drop i vars)
  unfolding faults_of
  goes_on l e is new well =
      ap (λ n. variables_faults (take (i + 1) vars) n (drop (i + 1) vars)) (add-one i)
      ∙ ap (λ vs. variables_faults vs (suc i) (drop (i + 1) vars)) (take_item vars i v l e)
      ∙ sym (stands true true l e is new well)

  -- the keys with one more name
  pub keys_grow : (more : List Text) → i < length vars → v ≡ get_or vars i v → names ≡ keys_of (take i vars) → not (is_among names (key v.name)) ≡ true
      → more ≡ cond (is_among names (key v.name)) names (names ++ key v.name ∷ []) → more ≡ keys_of (take (i + 1) vars)
  keys_grow more l e is new grows =
      grows ∙ go (is_among names (key v.name)) new ∙ ap (λ ks. ks ++ key v.name ∷ []) is ∙ sym (keys_more (take i vars) v) ∙ ap keys_of (sym (take_item vars i v l e))
    where
      go : (b : Bool) → not b ≡ true → cond b names (names ++ key v.name ∷ []) ≡ names ++ key v.name ∷ []
      go true n = absurd cc
      go false n = refl
