-- The column of a name, by the variable that has the name when the case of letters is ignored: the names of a checked
-- program differ even so.
use Rattle.std.proofs.Common.{◌≡◌, ◌<◌, ℕ, suc, ◌+◌, Bool, true, false, not, ◌||◌, ◌&&◌, List, [], ◌∷◌, ◌++◌, length, get_or, Option, Some, None, refl, sym, ap, subst, ◌∙◌, arith}
use Rattle.std.specs.Prelude.{slice_get, codes, if◌then◌else◌}
use Rattle.std.specs.List.{list_any}
use Rattle.std.proofs.lemmas.Option.{slice_get_read, get_or_from_slice_get}
use Rattle.std.proofs.lemmas.Bool.{false≢true}
use Rattle.grammar.specs.Pieces.{Text, same}
use Rattle.grammar.proofs.Texts.{same_equal}
use Rattle.st_ast.specs.Checks.{CheckFault, duplicate, init_range, unless, is_type, starts_well, variable_faults, variables_faults}
use Rattle.st_ast.specs.Names.{same_name, place_of}
use Rattle.st_ast.specs.Interface.{is_input, inputs_of}
use Rattle.st_ast.specs.declared.tree.StVar.{StVar}
use Rattle.st_ast.proofs.NameLaws.{same_name_self}
use Rattle.st_check.specs.Told.{IsPlace}
use Rattle.plc_rows.specs.Columns.{columns_from, input_column, column_of}
use Rattle.plc_rows.specs.declared.header.Column.TheVariants as column
use Rattle.plc_rows.proofs.Checking.{was_false, no_front, no_back, any_more, either_left, either_right}
use Rattle.plc_rows.proofs.Remaining.{one_some}

one_name : (x y : Text) → same x y ≡ true → same_name x y ≡ true
one_name x y e = subst (λ (w : Text). same_name x w ≡ true) (same_equal x y e) (same_name_self x)

nothing_told : (b : Bool) (f : CheckFault) → unless b f ≡ [] → b ≡ true
nothing_told true f e = refl
nothing_told false f e = absurd cc

-- ---- the variables

later_differs : (before : List StVar) (k : ℕ) (v : StVar) (vs : List StVar) → variables_faults before k (v ∷ vs) ≡ [] → list_any (λ (u : StVar). same_name u.name v.name) before ≡ false
later_differs before k v vs e =
    was_false _ (nothing_told (not (list_any (λ (u : StVar). same_name u.name v.name) before)) (duplicate k)
    (no_front (unless (not (list_any (λ (u : StVar). same_name u.name v.name) before)) (duplicate k)) (unless (is_type v.ty && starts_well v.ty v.init) (init_range k))
    (no_front (variable_faults before k v) (variables_faults (before ++ v ∷ []) (suc k) vs) e)))

goes_on : (before : List StVar) (k : ℕ) (v : StVar) (vs : List StVar) → variables_faults before k (v ∷ vs) ≡ [] → variables_faults (before ++ v ∷ []) (suc k) vs ≡ []
goes_on before k v vs e = no_back (variable_faults before k v) (variables_faults (before ++ v ∷ []) (suc k) vs) e

module _ (f : Text) where
  -- a name that a variable before these has is that of none of them
  none_later : (before : List StVar) (k : ℕ) (vs : List StVar) → variables_faults before k vs ≡ [] → list_any (λ (u : StVar). same_name u.name f) before ≡ true
      → list_any (λ (v : StVar). same v.name f) vs ≡ false
  none_later before k [] e h = refl
  none_later before k (v ∷ vs) e h = go (same v.name f) refl (none_later (before ++ v ∷ []) (suc k) vs (goes_on before k v vs e) (any_more (λ (u : StVar). same_name u.name f) before v ∙ either_left (list_any (λ (u : StVar). same_name u.name f) before) (same_name v.name f) h))
    where
      go : (b : Bool) → same v.name f ≡ b → list_any (λ (v : StVar). same v.name f) vs ≡ false → (b || list_any (λ (v : StVar). same v.name f) vs) ≡ false
      go true is rest = absurd (false≢true (sym (later_differs before k v vs e) ∙ subst (λ (w : Text). list_any (λ (u : StVar). same_name u.name w) before ≡ true) (sym (same_equal v.name f is)) h))
      go false is rest = rest

  after : (before : List StVar) (k : ℕ) (v : StVar) (vs : List StVar) → variables_faults before k (v ∷ vs) ≡ [] → same_name v.name f ≡ true → list_any (λ (v : StVar). same v.name f) vs ≡ false
  after before k v vs e h =
      none_later (before ++ v ∷ []) (suc k) vs (goes_on before k v vs e) (any_more (λ (u : StVar). same_name u.name f) before v ∙ either_right (list_any (λ (u : StVar). same_name u.name f) before) (same_name v.name f) h)

  -- where no variable has the spelling, no input has it
  no_column : (rank : ℕ) (vs : List StVar) → list_any (λ (v : StVar). same v.name f) vs ≡ false → input_column rank (inputs_of vs) f ≡ None
  no_column rank [] e = refl
  no_column rank (v ∷ vs) e = go (same v.name f) refl (is_input v.class) refl e (λ r. no_column r vs)
    where
      go : (b : Bool) → same v.name f ≡ b → (i : Bool) → is_input v.class ≡ i → (b || list_any (λ (v : StVar). same v.name f) vs) ≡ false
          → ((r : ℕ) → list_any (λ (v : StVar). same v.name f) vs ≡ false → input_column r (inputs_of vs) f ≡ None) → input_column rank (inputs_of (v ∷ vs)) f ≡ None
      go true is i of e none = absurd cc
      go false is true of e none = rw of (rw is (none (rank + 1) e))
      go false is false of e none = rw of (none rank e)

  unnamed : (v : StVar) → same_name v.name f ≡ false → same v.name f ≡ false
  unnamed v e = go (same v.name f) refl
    where
      go : (b : Bool) → same v.name f ≡ b → b ≡ false
      go true q = absurd (false≢true (sym e ∙ one_name v.name f q))
      go false q = refl

  none_named : (vs : List StVar) → place_of vs f ≡ length vs → list_any (λ (v : StVar). same v.name f) vs ≡ false
  none_named [] e = refl
  none_named (v ∷ vs) e = go (same_name v.name f) refl e (none_named vs)
    where
      go : (b : Bool) → same_name v.name f ≡ b → (if b then 0 else suc (place_of vs f)) ≡ suc (length vs)
          → (place_of vs f ≡ length vs → list_any (λ (v : StVar). same v.name f) vs ≡ false) → (same v.name f || list_any (λ (v : StVar). same v.name f) vs) ≡ false
      go true is e none = absurd (omega (arith, e))
      go false is e none = rw (unnamed v is) (none (omega (arith, e)))

  -- the variable of the name has another spelling
  none_spelled : (before : List StVar) (k : ℕ) (vs : List StVar) (v : StVar) → variables_faults before k vs ≡ [] → slice_get vs (place_of vs f) ≡ Some v → same v.name f ≡ false
      → list_any (λ (v : StVar). same v.name f) vs ≡ false
  none_spelled before k [] v e at n = refl
  none_spelled before k (u ∷ us) v e at n = go (same_name u.name f) refl at (λ there. none_spelled (before ++ u ∷ []) (suc k) us v (goes_on before k u us e) there n)
    where
      go : (b : Bool) → same_name u.name f ≡ b → slice_get (u ∷ us) (if b then 0 else suc (place_of us f)) ≡ Some v
          → (slice_get us (place_of us f) ≡ Some v → list_any (λ (v : StVar). same v.name f) us ≡ false) → (same u.name f || list_any (λ (v : StVar). same v.name f) us) ≡ false
      go true is at none =
          let here : same u.name f ≡ false = ap (λ (w : StVar). same w.name f) (one_some at) ∙ n in
          rw here (after before k u us e is)
      go false is at none = rw (unnamed u is) (none at)

  -- it has this spelling
  found_column : (before : List StVar) (k rank : ℕ) (vs : List StVar) (v : StVar) → variables_faults before k vs ≡ [] → slice_get vs (place_of vs f) ≡ Some v → same v.name f ≡ true
      → slice_get (columns_from rank vs) (place_of vs f) ≡ Some (input_column rank (inputs_of vs) f)
  found_column before k rank [] v e at is = absurd cc
  found_column before k rank (u ∷ us) v e at is =
      go (same_name u.name f) refl (is_input u.class) refl at (λ r there. found_column (before ++ u ∷ []) (suc k) r us v (goes_on before k u us e) there is)
    where
      go : (b : Bool) → same_name u.name f ≡ b → (i : Bool) → is_input u.class ≡ i → slice_get (u ∷ us) (if b then 0 else suc (place_of us f)) ≡ Some v
          → ((r : ℕ) → slice_get us (place_of us f) ≡ Some v → slice_get (columns_from r us) (place_of us f) ≡ Some (input_column r (inputs_of us) f))
          → slice_get (columns_from rank (u ∷ us)) (if b then 0 else suc (place_of us f)) ≡ Some (input_column rank (inputs_of (u ∷ us)) f)
      go true q true of at more = let here : same u.name f ≡ true = ap (λ (w : StVar). same w.name f) (one_some at) ∙ is in rw of (rw here refl)
      go true q false of at more = let none : input_column rank (inputs_of us) f ≡ None = no_column rank us (after before k u us e q) in rw of (rw none refl)
      go false q true of at more = let here : same u.name f ≡ false = unnamed u q in rw of (rw here (more (rank + 1) at))
      go false q false of at more = rw of (more rank at)

  -- ---- what is told of the name, which is not `scan`

  module _ (vars : List StVar) (apart : same f (codes "scan") ≡ false) where
    pub not_declared : (found : Option ℕ) → IsPlace vars f found → found ≡ None → None ≡ column_of vars f
    not_declared found p e = sym (rw apart (no_column 0 vars (none_named vars (subst (λ (o : Option ℕ). IsPlace vars f o) e p))))

    module _ (checked : variables_faults [] 0 vars ≡ []) (found : Option ℕ) (p : IsPlace vars f found) (number : ℕ) (is : found ≡ Some number) (v : StVar) (at : v ≡ get_or vars number v) where
      placed : IsPlace vars f (Some number)
      placed = subst (λ (o : Option ℕ). IsPlace vars f o) is p

      there : slice_get vars (place_of vars f) ≡ Some v
      there = ap (slice_get vars) placed.0 ∙ slice_get_read vars (length vars) number v refl placed.1 at

      pub otherwise_spelled : same v.name f ≡ false → None ≡ column_of vars f
      otherwise_spelled n = sym (rw apart (no_column 0 vars (none_spelled [] 0 vars v checked there n)))

      pub column_found : same v.name f ≡ true → get_or (columns_from 0 vars) number None ≡ column_of vars f
      column_found same =
          get_or_from_slice_get (columns_from 0 vars) number (column_of vars f) None
          (ap (slice_get (columns_from 0 vars)) (sym placed.0) ∙ found_column [] 0 0 vars v checked there same ∙ ap Some (sym (rw apart refl)))

pub number_fits : (vars : List StVar) (f : Text) (found : Option ℕ) (number : ℕ) → IsPlace vars f found → found ≡ Some number → number < length vars
number_fits vars f found number p e = (subst (λ (o : Option ℕ). IsPlace vars f o) e p).1

pub as_many_columns : (rank : ℕ) (vs : List StVar) → length (columns_from rank vs) ≡ length vs
as_many_columns rank [] = refl
as_many_columns rank (v ∷ vs) = go (is_input v.class) (as_many_columns (rank + 1) vs) (as_many_columns rank vs)
  where
    go : (b : Bool) → length (columns_from (rank + 1) vs) ≡ length vs → length (columns_from rank vs) ≡ length vs
        → length (if b then Some (column.Input rank v.ty) ∷ columns_from (rank + 1) vs else None ∷ columns_from rank vs) ≡ suc (length vs)
    go true p q = ap suc p
    go false p q = ap suc q
