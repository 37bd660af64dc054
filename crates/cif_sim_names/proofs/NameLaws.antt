-- The net of a source, and the one in which algebraic variables are replaced, are told by the names of the source.
use Rattle.std.proofs.Common.{◌≡◌, ℕ, List, [], ◌∷◌, map, refl, ◌∙◌, ap}
use Rattle.cif_net_expr.specs.Tree.{NetExpr}
use Rattle.cif_net_model.specs.Net.{NetEvent, Net}
use Rattle.cif_net_model.specs.Inline.{auto_replaced, net_replaced, Unfolds}
use Rattle.cif_source.specs.Source.{type_decl, enum_decl, event_decl, const_decl, alg_decl, input_decl, disc_decl, equation_decl, invariant_decl, marked_decl, Source}
use Rattle.cif_source.specs.Objects.{automata, events, variables, inputs, Declared}
use Rattle.cif_inst_model.specs.Flat.{net_auto, net_event, net_stored, net_of_source}
use Rattle.cif_sim_names.specs.Nets.{auto_names, stored_names, names_of_net}
use Rattle.cif_sim_names.specs.Sources.{automaton_names, declared_names, declared_path, names_of}

fused : {A B C : Type 0} (f : A → B) (g : B → C) (k : A → C) (xs : List A) → ((x : A) → g (f x) ≡ k x) → map g (map f xs) ≡ map k xs
fused f g k [] h = refl
fused f g k (x ∷ xs) h = λ i. h x i ∷ fused f g k xs h i

pub stored-same : (d : Declared) → stored_names (net_stored d) ≡ declared_names d
stored-same (c, type_decl n ty) = refl
stored-same (c, enum_decl n ls) = refl
stored-same (c, event_decl k h n) = refl
stored-same (c, const_decl ty n e) = refl
stored-same (c, alg_decl ty n e) = refl
stored-same (c, input_decl ty n) = refl
stored-same (c, disc_decl ty n e) = refl
stored-same (c, equation_decl q) = refl
stored-same (c, invariant_decl i) = refl
stored-same (c, marked_decl p) = refl

pub event-same : (d : Declared) → (net_event d).path ≡ declared_path d
event-same (c, type_decl n ty) = refl
event-same (c, enum_decl n ls) = refl
event-same (c, event_decl k h n) = refl
event-same (c, const_decl ty n e) = refl
event-same (c, alg_decl ty n e) = refl
event-same (c, input_decl ty n) = refl
event-same (c, disc_decl ty n e) = refl
event-same (c, equation_decl q) = refl
event-same (c, invariant_decl i) = refl
event-same (c, marked_decl p) = refl

pub names-same : (t : Source) → names_of_net (net_of_source t) ≡ names_of t
names-same t = λ i. record {
  automata = fused net_auto auto_names automaton_names (automata t) (λ a. refl) i;
  events = fused net_event (λ (e : NetEvent). e.path) declared_path (events t) event-same i;
  variables = fused net_stored stored_names declared_names (variables t) stored-same i;
  inputs = fused net_stored stored_names declared_names (inputs t) stored-same i;
}

pub names-unfolded : (n p : Net) → Unfolds n p → names_of_net p ≡ names_of_net n
names-unfolded n p u = ap names_of_net u.whole ∙ replaced-same u.by
  where
    replaced-same : (by : ℕ → NetExpr) → names_of_net (net_replaced by n) ≡ names_of_net n
    replaced-same by = λ i. record (names_of_net n) { automata = fused (auto_replaced by) auto_names auto_names n.autos (λ a. refl) i }
