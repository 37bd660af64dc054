-- No two automata of a net assign one variable: each assigns those that it declares.
use Rattle.std.proofs.Common.{◌≡◌, ℕ, true, inl, inr, List, [], ◌∷◌, map, refl, sym, ◌∙◌, ap, subst}
use Rattle.std.specs.List.{list_all}
use Rattle.cif_ast.specs.declared.names.Name.{Name}
use Rattle.cif_system.specs.Words.{Member, AreDistinct}
use Rattle.cif_system.proofs.Distinct.{member-map, member-flat_map, filter-distinct}
use Rattle.cif_net_model.specs.Net.{NetEdge}
use Rattle.cif_net_model.specs.Exprs.{targets}
use Rattle.cif_net_model.specs.Facts.{are_apart, auto_targets, are_all_apart}
use Rattle.cif_source.specs.Source.{EdgeTree, Source}
use Rattle.cif_source.specs.Components.{Component, body_of}
use Rattle.cif_source.specs.Objects.{components_of, Declared, automata, is_automaton, event_edges}
use Rattle.cif_source.specs.BodyRules.{edges_of, targets_of_all, LeadsElsewhere}
use Rattle.cif_inst_model.specs.Flat.{net_auto, net_edge, variable_number}
use Rattle.cif_inst_model.proofs.RuleLaws.{all-from}
use Rattle.cif_inst_bodies.specs.Denoted.{DenotesVariable}
use Rattle.cif_inst_bodies.proofs.OwnLaws.{assigned-own}
use Rattle.cif_inst_laws.proofs.Sound.{IsSound, own, scopes, as-body}
use Rattle.cif_inst_laws.proofs.Forms.{automaton-home, edge-of}
use Rattle.cif_inst_laws.proofs.Distinct.{components-distinct}
use Rattle.cif_inst_laws.proofs.Assigning.{targets-are, one-variable, leads}
use Rattle.cif_inst_laws.proofs.Tests.{both, apart-none}

-- a name that an automaton assigns
record Assigned (c : Component) (v : ℕ) : Type 0 where
  name : Name
  edge : EdgeTree
  is_edge : Member edge (edges_of c)
  is_target : Member name (targets_of_all edge.updates)
  number : v ≡ variable_number c name

auto-target : (c : Component) (v : ℕ) → Member v (auto_targets (net_auto c)) → Assigned c v
auto-target c v m =
    let x = member-flat_map (λ (x : NetEdge). targets x.updates) v (map (net_edge c) (event_edges c)) m in
    let w = member-map (net_edge c) x.0 (event_edges c) x.1 in
    let nm = member-map (variable_number c) v (targets_of_all w.0.edge.updates) (subst (Member v) (targets-are c w.0.edge.updates) (subst (λ (y : NetEdge). Member v (targets y.updates)) w.2 x.2)) in
    record { name = nm.0; edge = w.0.edge; is_edge = edge-of c w.0 w.1; is_target = nm.1; number = nm.2 }

module _ (t : Source) (h : IsSound t) where
  -- a variable that a component assigns is its own
  its-own : (c : Component) → Member c (components_of t) → (v : ℕ) (a : Assigned c v) → (l : DenotesVariable t c a.name) → (l.place ≡ c → ⊥) → ⊥
  its-own c m v a l other =
      assigned-own t (own t h) c (as-body t h c m) a.edge a.is_edge a.name a.is_target (subst (LeadsElsewhere c) (sym l.is_found) other)

  two-apart : (c d : Component) → Member c (components_of t) → Member d (components_of t) → (c ≡ d → ⊥) → are_apart (auto_targets (net_auto c)) (auto_targets (net_auto d)) ≡ true
  two-apart c d m k other =
      apart-none (auto_targets (net_auto c)) (auto_targets (net_auto d)) (λ v i j.
      let x = auto-target c v i in
      let y = auto-target d v j in
      let first = leads t h c m x.edge x.is_edge x.name x.is_target in
      let second = leads t h d k y.edge y.is_edge y.name y.is_target in
      let one = one-variable t h c d x.name y.name first second (sym x.number ∙ y.number) in
      let place : first.place ≡ second.place = ap (λ (e : Declared). e.0) one in
      its-own c m v x first (λ p. its-own d k v y second (λ q. other (sym p ∙ place ∙ q))))

  listed-apart : (cs : List Component) → AreDistinct cs → ((c : Component) → Member c cs → Member c (components_of t)) → are_all_apart (map auto_targets (map net_auto cs)) ≡ true
  listed-apart [] distinct home = refl
  listed-apart (c ∷ cs) distinct home =
      both (list_all (are_apart (auto_targets (net_auto c))) (map auto_targets (map net_auto cs))) (are_all_apart (map auto_targets (map net_auto cs)))
      (all-from (are_apart (auto_targets (net_auto c))) (map auto_targets (map net_auto cs)) (λ ys i.
      let a = member-map auto_targets ys (map net_auto cs) i in
      let d = member-map net_auto a.0 cs a.1 in
      ap (are_apart (auto_targets (net_auto c))) (a.2 ∙ ap auto_targets d.2)
      ∙ two-apart c d.0 (home c (inl refl)) (home d.0 (inr d.1)) (λ same. distinct.0 (subst (λ x. Member x cs) (sym same) d.1))))
      (listed-apart cs distinct.1 (λ d i. home d (inr i)))

  pub autos-apart : are_all_apart (map auto_targets (map net_auto (automata t))) ≡ true
  autos-apart =
      listed-apart (automata t) (filter-distinct (λ c. is_automaton (body_of c)) (components_of t) (components-distinct t (scopes t h)))
      (automaton-home t)
