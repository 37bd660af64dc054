-- The values of edges by their numbers.
use Rattle.std.proofs.Common.{◌≡◌, ℕ, zero, suc, true, false, List, [], ◌∷◌, ◌++◌, map, Option, None, Some, refl, sym, ap, ◌∙◌, append_assoc}
use Rattle.std.specs.Prelude.{is_some, option_and_then, option_map, option_to_list, slice_get}
use Rattle.std.specs.List.{zip}
use Rattle.grammar.specs.Pieces.{Text}
use Rattle.cif_net_model.specs.Exprs.{targets}
use Rattle.cif_net_model.specs.Net.{Net, NetAuto, NetEdge}
use Rattle.cif_why_model.specs.Lines.{value_at}
use Rattle.cif_why_model.specs.Told.{AutomatonTold, EdgeTold}
use Rattle.cif_sim_names.specs.Nets.{event_path_in, net_edge_told, told_of_net, value_told, variable_path_in}
use Rattle.cif_why_lines.specs.Targets.{target_path, targets_of, value_of_auto, value_of_edge, value_with}
use Rattle.cif_why_lines.specs.declared.targets.Target.{Target}
use Rattle.cif_why_lines.specs.declared.targets.Target.TheVariants.{Event, Variable}

-- ---- the sent value comes first

module _ {L M : Type 0} (f : L → M) (event : ℕ) (others : List Target) where
  abbrev pub with_sent : Option L → List Target
  with_sent s = map (λ e. Event event) (option_to_list (option_map f s)) ++ others

  pub nothing_sent : (s : Option L) (k : ℕ) → is_some s ≡ false → slice_get others k ≡ slice_get (with_sent s) k
  nothing_sent None k h = refl
  nothing_sent (Some e) k h = absurd cc

  pub sent_first : (s : Option L) → is_some s ≡ true → Some (Event event) ≡ slice_get (with_sent s) 0
  sent_first None h = absurd cc
  sent_first (Some e) h = refl

  pub sent_before : (s : Option L) (k : ℕ) → is_some s ≡ true → slice_get others k ≡ slice_get (with_sent s) (suc k)
  sent_before None k h = absurd cc
  sent_before (Some e) k h = refl

-- ---- places and paths

module _ (n : Net) where
  no_target : (p : Option ℕ) → None ≡ value_with n p None
  no_target None = refl
  no_target (Some p) = refl

  both-at : (ps : List ℕ) (ts : List Target) (k : ℕ) → slice_get (map value_told (zip ps (map (target_path n) ts))) k ≡ value_with n (slice_get ps k) (slice_get ts k)
  both-at [] ts zero = refl
  both-at [] ts (suc k) = refl
  both-at (p ∷ ps) [] zero = refl
  both-at (p ∷ ps) [] (suc k) = no_target (slice_get ps k)
  both-at (p ∷ ps) (t ∷ ts) zero = refl
  both-at (p ∷ ps) (t ∷ ts) (suc k) = both-at ps ts k

  paths-same : {E : Type 0} (event : ℕ) (es : List E) (vs : List ℕ) → map (λ e. event_path_in n event) es ++ map (variable_path_in n) vs ≡ map (target_path n) (map (λ e. Event event) es ++ map (λ v. Variable v) vs)
  paths-same {E = E} event [] [] = refl
  paths-same {E = E} event [] (v ∷ vs) = ap (λ ts. variable_path_in n v ∷ ts) (paths-same {E = E} event [] vs)
  paths-same {E = E} event (e ∷ es) vs = ap (λ ts. event_path_in n event ∷ ts) (paths-same {E = E} event es vs)

  pub value-at : (x : NetEdge) (k : ℕ) → value_of_edge n x k ≡ value_with n (slice_get x.places k) (slice_get (targets_of x) k)
  value-at x k = ap (λ ts. slice_get (map value_told (zip x.places ts)) k) (paths-same x.event (option_to_list x.sent) (targets x.updates)) ∙ both-at x.places (targets_of x) k

-- ---- a thing by its number

module _ {A B C : Type 0} (f : A → B) (g : B → Option C) where
  pub mapped-at : (xs : List A) (k : ℕ) → option_and_then g (slice_get (map f xs) k) ≡ option_and_then (λ x. g (f x)) (slice_get xs k)
  mapped-at [] zero = refl
  mapped-at [] (suc k) = refl
  mapped-at (x ∷ xs) zero = refl
  mapped-at (x ∷ xs) (suc k) = mapped-at xs k

  pub there-at : (xs : List A) (k : ℕ) (x : A) → Some x ≡ slice_get xs k → g (f x) ≡ option_and_then g (slice_get (map f xs) k)
  there-at xs k x h = ap (option_and_then (λ y. g (f y))) h ∙ sym (mapped-at xs k)

  pub nothing-at : (xs : List A) (k : ℕ) → None ≡ slice_get xs k → None ≡ option_and_then g (slice_get (map f xs) k)
  nothing-at xs k h = ap (option_and_then (λ y. g (f y))) h ∙ sym (mapped-at xs k)

abbrev pub automaton_told : Net → NetAuto → AutomatonTold
automaton_told n a = record { path = a.path; edges = map (net_edge_told n) a.edges }

-- the value that is named by these numbers
pub values-same : (n : Net) (k j number : ℕ) → value_at (told_of_net n) k j number ≡ option_and_then (λ (a : NetAuto). value_of_auto n a j number) (slice_get n.autos k)
values-same n k j number =
    mapped-at (automaton_told n) (λ (a : AutomatonTold). option_and_then (λ (x : EdgeTold). slice_get x.values number) (slice_get a.edges j)) n.autos k
    ∙ (λ i. option_and_then (λ (a : NetAuto). mapped-at (net_edge_told n) (λ (x : EdgeTold). slice_get x.values number) a.edges j i) (slice_get n.autos k))

pub value_parts : (old a k b p : Text) → (((old ++ a) ++ k) ++ b) ++ p ≡ old ++ (((a ++ k) ++ b) ++ p)
value_parts old a k b p = simp append_assoc
