-- The edge of a net means what the source's edge means, where the expressions have the same values and each name denotes
-- what its position asks for.
use Rattle.std.proofs.Common.{◌≡◌, ℕ, ℤ, pos, Bool, true, false, List, [], ◌∷◌, Option, Some, None, refl, ◌∙◌, ap}
use Rattle.std.specs.Prelude.{length, ◌++◌, if◌then◌else◌, option_map, unwrap_or, ◌&&◌}
use Rattle.std.specs.List.{list_all}
use Rattle.cif_ast.specs.Tree.{Tree, UpdateTree, assignment, selection, UpdateTrees, no_updates, updates, UpdateBranches, no_update_branches, update_branches}
use Rattle.cif_ast.specs.declared.names.Name.{Name}
use Rattle.cif_system.specs.System.{State}
use Rattle.cif_net_model.specs.Net.{Net}
use Rattle.cif_net_model.specs.Unfolding.{at_or}
use Rattle.cif_net_model.specs.Value.{net_all}
use Rattle.cif_net_model.specs.Meaning.{edge_meant, value_in, true_in, alg_values, net_assigned_all, net_assigned_by, net_assigned_in}
use Rattle.cif_net_model.proofs.Passing.{and-left, and-right, both-pass}
use Rattle.cif_source.specs.Source.{RoleTree, syncs, sends, receives, list_of_trees}
use Rattle.cif_source.specs.Components.{Component}
use Rattle.cif_source.specs.Lookup.{denotes}
use Rattle.cif_source.specs.Objects.{EventEdge}
use Rattle.cif_source.specs.Value.{value_of, is_true}
use Rattle.cif_source.specs.Step.{event_at, variable_at, edge_for, holds, sent_by, assigned_all, assigned_by, assigned_in}
use Rattle.cif_source.specs.BodyRules.{targets_of_all, targets_of, targets_of_branches}
use Rattle.cif_inst_model.specs.Translation.{conjunction, net_of, net_list, net_guard}
use Rattle.cif_inst_model.specs.Flat.{variable_number, net_updates_of, net_update_of, net_update_branches_of, sent_tree, net_edge}
use Rattle.cif_inst_model.proofs.TranslationLaws.{conjunction-value}

-- ---- names that denote what is asked

abbrev pub is_some : {A : Type 0} → Option A → Bool
is_some None = false
is_some (Some x) = true

abbrev pub names_event : Component → Name → Bool
names_event c nm = is_some (event_at (denotes c nm))

abbrev pub names_variable : Component → Name → Bool
names_variable c nm = is_some (variable_at (denotes c nm))

-- the edge's event and its assigned variables are there
abbrev pub names_its_objects : Component → EventEdge → Bool
names_its_objects a w = names_event a w.event_use.name && list_all (names_variable a) (targets_of_all w.edge.updates)

pub number-found : (o : Option ℕ) → is_some o ≡ true → Some (unwrap_or o 0) ≡ o
number-found None h = absurd cc
number-found (Some k) h = refl

-- ---- values

-- the net's expressions have the values of the component's
abbrev pub SameValues : Net → Component → Type 0
SameValues n c = (e : Tree) (s : State) (r : ℤ) → value_in n s r (net_of c e) ≡ value_of c e s r

module _ (n : Net) (c : Component) (same : SameValues n c) (s : State) (r : ℤ) where
  conditions-same : (es : List Tree) → net_all (at_or (pos 0) (alg_values n s r (length n.algs))) s r (net_list c es) ≡ list_all (λ e. is_true (value_of c e s r)) es
  conditions-same [] = refl
  conditions-same (e ∷ es) =
      ap (λ z. is_true z && net_all (at_or (pos 0) (alg_values n s r (length n.algs))) s r (net_list c es)) (same e s r)
      ∙ ap (λ b. is_true (value_of c e s r) && b) (conditions-same es)

  pub conjunction-same : (es : List Tree) → is_true (value_in n s r (conjunction (net_list c es))) ≡ list_all (λ e. is_true (value_of c e s r)) es
  conjunction-same es = conjunction-value (at_or (pos 0) (alg_values n s r (length n.algs))) s r (net_list c es) ∙ conditions-same es

  mutual
    pub updates-same : (us : UpdateTrees) → list_all (names_variable c) (targets_of_all us) ≡ true → net_assigned_all n s r (net_updates_of c us) ≡ assigned_all c s r us
    updates-same no_updates h = refl
    updates-same (updates u us) h =
        let p = both-pass (names_variable c) (targets_of u) (targets_of_all us) h in
        ap (λ ws. ws ++ net_assigned_all n s r (net_updates_of c us)) (update-same u p.0) ∙ ap (λ ws. assigned_by c s r u ++ ws) (updates-same us p.1)

    update-same : (u : UpdateTree) → list_all (names_variable c) (targets_of u) ≡ true → net_assigned_by n s r (net_update_of c u) ≡ assigned_by c s r u
    update-same (assignment nm e) h =
        ap (λ z. (variable_number c nm, z) ∷ []) (same e s r)
        ∙ ap (λ (o : Option ℕ). elim o [ None ↦ [] | Some k ↦ (k, value_of c e s r) ∷ [] ]) (number-found (variable_at (denotes c nm)) (and-left _ _ h))
    update-same (selection bs us) h =
        let p = both-pass (names_variable c) (targets_of_branches bs) (targets_of_all us) h in
        ap (λ ws. net_assigned_in n s r ws (net_update_branches_of c bs)) (updates-same us p.1) ∙ branches-same bs (assigned_all c s r us) p.0

    branches-same : (bs : UpdateBranches) (other : List (ℕ × ℤ)) → list_all (names_variable c) (targets_of_branches bs) ≡ true
        → net_assigned_in n s r other (net_update_branches_of c bs) ≡ assigned_in c s r other bs
    branches-same no_update_branches other h = refl
    branches-same (update_branches cs us bs) other h =
        let p = both-pass (names_variable c) (targets_of_all us) (targets_of_branches bs) h in
        ap (λ b. if b then net_assigned_all n s r (net_updates_of c us) else net_assigned_in n s r other (net_update_branches_of c bs)) (conjunction-same (list_of_trees cs))
        ∙ ap (λ ws. if list_all (λ e. is_true (value_of c e s r)) (list_of_trees cs) then ws else net_assigned_in n s r other (net_update_branches_of c bs)) (updates-same us p.0)
        ∙ ap (λ ws. if list_all (λ e. is_true (value_of c e s r)) (list_of_trees cs) then assigned_all c s r us else ws) (branches-same bs other p.1)

module _ (n : Net) (c : Component) (same : SameValues n c) (s : State) where
  pub guard-same : (at : ℕ) (es : List Tree) → true_in n s (net_guard c at es) ≡ list_all (λ g. holds c g s) es
  guard-same at [] = refl
  guard-same at (e ∷ es) = conjunction-same n c same s (pos 0) (e ∷ es)

  pub sent-same : (role : RoleTree) → option_map (value_in n s (pos 0)) (option_map (net_of c) (sent_tree role)) ≡ sent_by c role s
  sent-same syncs = refl
  sent-same (sends None) = refl
  sent-same (sends (Some e)) = ap Some (same e s (pos 0))
  sent-same receives = refl

-- the net's edge means the same
pub edge-same : (n : Net) (a : Component) (w : EventEdge) → SameValues n a → names_its_objects a w ≡ true → edge_meant n (net_edge a w) ≡ edge_for a w
edge-same n a w same h =
    λ i. record {
      event = number-found (event_at (denotes a w.event_use.name)) (and-left _ _ h) i;
      role = (edge_for a w).role;
      from = w.from;
      to = (edge_for a w).to;
      guard = λ s. guard-same n a same s w.event_use.name.at w.edge.guards i;
      sent = λ s. sent-same n a same s w.event_use.role i;
      assigned = λ s r. updates-same n a same s r w.edge.updates (and-right _ _ h) i;
    }
