-- The paths of a net, and the names that a line gives.
use Rattle.std.proofs.Common.{◌≡◌, ℕ, zero, suc, ◌+◌, ◌≤◌, ◌<◌, ◌^◌, Bool, true, false, cond, List, [], ◌∷◌, get_or, length, map, Option, Some, None, refl, sym, ap, ◌∙◌, arith}
use Rattle.std.specs.Prelude.{find, nat_le, option_map, slice_get}
use Rattle.std.specs.List.{enumerate_from}
use Rattle.std.proofs.lemmas.Bool.Decides.{nat_tests}
use Rattle.cif_system.proofs.Lists.{map-length, none-some, slice_get-below, some-same}
use Rattle.cif_system.proofs.Picks.{and-left}
use Rattle.cif_net_model.specs.Net.{NetEvent}
use Rattle.cif_net_model.specs.Facts.{things}
use Rattle.cif_net.specs.Parts.{event_tree, input_tree}
use Rattle.cif_net.specs.View.{net_tree}
use Rattle.cif_net.specs.declared.data.Input.{Input}
use Rattle.cif_net.specs.declared.events.Event.{Event}
use Rattle.cif_net.specs.declared.net.Net.{Net}
use Rattle.grammar.specs.Pieces.{Text, same}
use Rattle.cif_sim_model.specs.Names.{Names, ValueNames}
use Rattle.cif_sim_model.specs.Script.{fires, number_of}
use Rattle.cif_sim_names.specs.Nets.{names_of_net, stored_names}
use Rattle.cif_script.specs.Numbers.{Finds, FindsNames, Numbered, first_number, input_paths, number_at}

-- ---- paths of a net

event_paths : (es : List Event) → map (λ (e : Event). e.path) es ≡ map (λ (e : NetEvent). e.path) (map event_tree es)
event_paths [] = refl
event_paths (e ∷ es) = ap (λ ps. e.path ∷ ps) (event_paths es)

input_paths_same : (is : List Input) → map (λ (i : Input). i.path) is ≡ map (λ (v : ValueNames). v.path) (map stored_names (map input_tree is))
input_paths_same [] = refl
input_paths_same (i ∷ is) = ap (λ ps. i.path ∷ ps) (input_paths_same is)

pub finds_names : (net : Net) (events inputs : List Numbered) → Finds (map (λ (e : Event). e.path) net.events) events → Finds (map (λ (i : Input). i.path) net.inputs) inputs
    → FindsNames (names_of_net (net_tree net)) events inputs
finds_names net events inputs h g = record {
  of_events = λ t. h t ∙ ap (λ (ps : List Text). first_number ps t) (event_paths net.events);
  of_inputs = λ t. g t ∙ ap (λ (ps : List Text). first_number ps t) (input_paths_same net.inputs);
}

-- ---- numbers of a net

net-kept : (net : Net) → nat_le (things (net_tree net)) 100000 ≡ true
net-kept net =
    and-left _ _ (and-left _ _ (and-left _ _ (and-left _ _ (and-left _ _ (and-left _ _ (and-left _ _ (and-left _ _ net.fits)))))))

pub few_events : (net : Net) → length net.events < 2 ^ 32
few_events net =
    let h : nat_le (things (net_tree net)) 100000 ≡ true = net-kept net in
    let k : things (net_tree net) ≤ 100000 = grind (arith, nat_tests) in
    let m : length (map event_tree net.events) ≡ length net.events = map-length event_tree net.events in
    omega arith

pub few_inputs : (net : Net) → length net.inputs < 2 ^ 32
few_inputs net =
    let h : nat_le (things (net_tree net)) 100000 ≡ true = net-kept net in
    let k : things (net_tree net) ≤ 100000 = grind (arith, nat_tests) in
    let m : length (map input_tree net.inputs) ≡ length net.inputs = map-length input_tree net.inputs in
    omega arith

-- ---- what has a number

module _ {A : Type 0} (f : A → Text) (t : Text) where
  abbrev from : ℕ → List A → Option (ℕ × A)
  from k xs = find (λ x. same (f x.1) t) (enumerate_from k xs)

  number_from : (k : ℕ) (xs : List A) → option_map (λ x. x.0) (find (λ x. same x.1 t) (enumerate_from k (map f xs))) ≡ option_map (λ x. x.0) (from k xs)
  number_from k [] = refl
  number_from k (x ∷ xs) = by (same (f x) t) (number_from (k + 1) xs)
    where
      by : (b : Bool) → option_map (λ x. x.0) (find (λ x. same x.1 t) (enumerate_from (k + 1) (map f xs))) ≡ option_map (λ x. x.0) (from (k + 1) xs)
          → option_map (λ y. y.0) (cond b (Some (k, f x)) (find (λ x. same x.1 t) (enumerate_from (k + 1) (map f xs)))) ≡ option_map (λ y. y.0) (cond b (Some (k, x)) (from (k + 1) xs))
      by true h = refl
      by false h = h

  abbrev At : ℕ → List A → (n : ℕ) → Type 0
  At k xs n = (x : A) × (j : ℕ) × (n ≡ k + j) × (from k xs ≡ Some (n, x)) × (slice_get xs j ≡ Some x)

  at_from : (k : ℕ) (xs : List A) (n : ℕ) → option_map (λ x. x.0) (from k xs) ≡ Some n → At k xs n
  at_from k [] n h = absurd (none-some n h)
  at_from k (x ∷ xs) n h = by (same (f x) t) h (at_from (k + 1) xs n)
    where
      by : (b : Bool) → option_map (λ y. y.0) (cond b (Some (k, x)) (from (k + 1) xs)) ≡ Some n → (option_map (λ x. x.0) (from (k + 1) xs) ≡ Some n → At (k + 1) xs n)
          → (y : A) × (j : ℕ) × (n ≡ k + j) × (cond b (Some (k, x)) (from (k + 1) xs) ≡ Some (n, y)) × (slice_get (x ∷ xs) j ≡ Some y)
      by true e more = let same_n : k ≡ n = cc in (x, 0, omega arith, ap (λ m. Some (m, x)) same_n, refl)
      by false e more = let r = more e in (r.0, suc r.1, omega (arith, r.2), r.3, r.4)

  -- the thing with the number that is found by its path
  pub at_number : (xs : List A) (n : ℕ) → first_number (map f xs) t ≡ Some n → (x : A) × (number_of f t xs ≡ Some (n, x)) × (slice_get xs n ≡ Some x)
  at_number xs n h =
      let r = at_from 0 xs n (sym (number_from 0 xs) ∙ h) in
      let e : r.1 ≡ n = omega (arith, r.2) in
      (r.0, r.3, ap (slice_get xs) (sym e) ∙ r.4)

  pub no_number : (xs : List A) → first_number (map f xs) t ≡ None → number_of f t xs ≡ None
  no_number xs h = by (from 0 xs) (sym (number_from 0 xs) ∙ h)
    where
      by : (o : Option (ℕ × A)) → option_map (λ x. x.0) o ≡ None → o ≡ None
      by None e = refl
      by (Some x) e = absurd cc

-- ---- the parts of a line

-- an event that is fired
pub fired : (o : Option (ℕ × Text)) → option_map (λ e. fires e.0) o ≡ option_map fires (option_map (λ x. x.0) o)
fired None = refl
fired (Some x) = refl

module _ (net : Net) (names : Names) (inputs : List Numbered) (name : Text) (view : names_of_net (net_tree net) ≡ names) (finds : Finds (input_paths (names_of_net (net_tree net))) inputs) where
  abbrev inputs_named : List Input → List ValueNames
  inputs_named is = map stored_names (map input_tree is)

  abbrev pub path_of : ValueNames → Text
  path_of v = v.path

  -- no input has the path
  pub no_input : number_at inputs name ≡ None → number_of path_of name names.inputs ≡ None
  no_input h = ap (λ (n : Names). number_of path_of name n.inputs) (sym view) ∙ no_number path_of name (inputs_named net.inputs) (sym (finds name) ∙ h)

  pub input_below : (n : ℕ) → number_at inputs name ≡ Some n → n < length net.inputs
  input_below n h =
      let r = at_number path_of name (inputs_named net.inputs) n (sym (finds name) ∙ h) in
      let below : n < length (inputs_named net.inputs) = slice_get-below (inputs_named net.inputs) n r.0 r.2 in
      omega (arith, below, map-length stored_names (map input_tree net.inputs), map-length input_tree net.inputs)

  stored_at : (is : List Input) (n : ℕ) (x : Input) → n < length is → x ≡ get_or is n x → slice_get (inputs_named is) n ≡ Some (stored_names (input_tree x))
  stored_at [] n x l e = absurd (omega arith)
  stored_at (i ∷ is) zero x l e = ap (λ y. Some (stored_names (input_tree y))) (sym e)
  stored_at (i ∷ is) (suc n) x l e = stored_at is n x (omega arith) e

  -- the input with the path
  pub input_found : (n : ℕ) (x : Input) → number_at inputs name ≡ Some n → x ≡ get_or net.inputs n x → number_of path_of name names.inputs ≡ Some (n, stored_names (input_tree x))
  input_found n x h e =
      let r = at_number path_of name (inputs_named net.inputs) n (sym (finds name) ∙ h) in
      let same_input : r.0 ≡ stored_names (input_tree x) = some-same _ _ (sym r.2 ∙ stored_at net.inputs n x (input_below n h) e) in
      ap (λ (m : Names). number_of path_of name m.inputs) (sym view) ∙ r.1 ∙ ap (λ v. Some (n, v)) same_input
