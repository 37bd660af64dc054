-- What is told of the net of a source is what is told of the source, where names denote variables and values are the same.
use Rattle.std.proofs.Common.{◌≡◌, ℕ, zero, suc, ◌+◌, ℤ, Bool, true, false, List, [], ◌∷◌, ◌++◌, length, map, Option, Some, None, refl, sym, ◌∙◌, ap, length-append}
use Rattle.std.specs.Prelude.{slice_get, option_map, option_and_then, option_to_list, unwrap_or, is_some, if◌then◌else◌}
use Rattle.std.specs.List.{list_all}
use Rattle.cif_ast.specs.Tree.{UpdateTree, assignment, selection, UpdateTrees, no_updates, updates, UpdateBranches, no_update_branches, update_branches}
use Rattle.cif_ast.specs.declared.names.Name.{Name}
use Rattle.cif_system.specs.System.{State}
use Rattle.cif_system.proofs.Lists.{map-length}
use Rattle.cif_system.proofs.Picks.{and-left, and-right}
use Rattle.cif_net_model.specs.Net.{NetStored, Net}
use Rattle.cif_net_model.specs.Exprs.{Written, writes_all, writes_by, writes_in}
use Rattle.cif_net_model.specs.Meaning.{value_in}
use Rattle.cif_net_model.specs.Value.{is_true}
use Rattle.cif_net_model.proofs.Passing.{both-pass}
use Rattle.cif_source.specs.BodyRules.{targets_of, targets_of_all, targets_of_branches}
use Rattle.cif_source.specs.Source.{list_of_trees}
use Rattle.cif_source.specs.Components.{Component}
use Rattle.cif_source.specs.Lookup.{denotes}
use Rattle.cif_source.specs.Step.{variable_at}
use Rattle.cif_source.specs.Value as source
use Rattle.cif_inst_model.specs.Flat.{net_updates_of, net_update_of, net_update_branches_of, variable_number}
use Rattle.cif_inst_model.specs.Translation.{conjunction, net_list}
use Rattle.cif_inst_model.proofs.EdgeLaws.{SameValues, names_variable, number-found, conjunction-same}
use Rattle.cif_why_model.specs.Told.{Assigned}
use Rattle.cif_sim_names.specs.Nets.{net_numbered_all, net_numbered_by, net_numbered_in}
use Rattle.cif_sim_names.specs.Sources.{numbered_all, numbered_by, numbered_in}

-- ---- as many right sides

module _ (c : Component) where
  mutual
    pub count-all : (us : UpdateTrees) → length (writes_all (net_updates_of c us)) ≡ length (targets_of_all us)
    count-all no_updates = refl
    count-all (updates u us) =
        length-append (writes_by (net_update_of c u)) (writes_all (net_updates_of c us))
        ∙ (λ i. count-by u i + count-all us i) ∙ sym (length-append (targets_of u) (targets_of_all us))

    pub count-by : (u : UpdateTree) → length (writes_by (net_update_of c u)) ≡ length (targets_of u)
    count-by (assignment nm e) = refl
    count-by (selection bs us) =
        length-append (writes_in (net_update_branches_of c bs)) (writes_all (net_updates_of c us))
        ∙ (λ i. count-in bs i + count-all us i) ∙ sym (length-append (targets_of_branches bs) (targets_of_all us))

    pub count-in : (bs : UpdateBranches) → length (writes_in (net_update_branches_of c bs)) ≡ length (targets_of_branches bs)
    count-in no_update_branches = refl
    count-in (update_branches cs us bs) =
        length-append (writes_all (net_updates_of c us)) (writes_in (net_update_branches_of c bs))
        ∙ (λ i. count-all us i + count-in bs i) ∙ sym (length-append (targets_of_all us) (targets_of_branches bs))

-- ---- the same values by number

module _ (n : Net) (c : Component) (same : SameValues n c) (s : State) (r : ℤ) where
  mutual
    pub numbered-same : (us : UpdateTrees) (k : ℕ) → list_all (names_variable c) (targets_of_all us) ≡ true → net_numbered_all n s r k (net_updates_of c us) ≡ numbered_all c s r k us
    numbered-same no_updates k h = refl
    numbered-same (updates u us) k h =
        ap (λ j. net_numbered_by n s r k (net_update_of c u) ++ net_numbered_all n s r (k + j) (net_updates_of c us)) (count-by c u)
        ∙ (λ i. update-numbered u k (both-pass (names_variable c) (targets_of u) (targets_of_all us) h).0 i
        ++ numbered-same us (k + length (targets_of u)) (both-pass (names_variable c) (targets_of u) (targets_of_all us) h).1 i)

    update-numbered : (u : UpdateTree) (k : ℕ) → list_all (names_variable c) (targets_of u) ≡ true → net_numbered_by n s r k (net_update_of c u) ≡ numbered_by c s r k u
    update-numbered (assignment nm e) k h =
        ap (λ z. record { number = k; variable = variable_number c nm; value = z } ∷ []) (same e s r)
        ∙ ap (λ (o : Option ℕ). map (λ v. record { number = k; variable = v; value = source.value_of c e s r }) (option_to_list o)) (number-found (variable_at (denotes c nm)) (and-left _ _ h))
    update-numbered (selection bs us) k h =
        ap (λ j. net_numbered_in n s r k (net_numbered_all n s r (k + j) (net_updates_of c us)) (net_update_branches_of c bs)) (count-in c bs)
        ∙ ap (λ ws. net_numbered_in n s r k ws (net_update_branches_of c bs)) (numbered-same us (k + length (targets_of_branches bs)) (both-pass (names_variable c) (targets_of_branches bs) (targets_of_all us) h).1)
        ∙ branches-numbered bs k (numbered_all c s r (k + length (targets_of_branches bs)) us) (both-pass (names_variable c) (targets_of_branches bs) (targets_of_all us) h).0

    branches-numbered : (bs : UpdateBranches) (k : ℕ) (other : List Assigned) → list_all (names_variable c) (targets_of_branches bs) ≡ true
        → net_numbered_in n s r k other (net_update_branches_of c bs) ≡ numbered_in c s r k other bs
    branches-numbered no_update_branches k other h = refl
    branches-numbered (update_branches cs us bs) k other h =
        ap (λ b. if b then net_numbered_all n s r k (net_updates_of c us) else net_numbered_in n s r (k + length (writes_all (net_updates_of c us))) other (net_update_branches_of c bs)) (conjunction-same n c same s r (list_of_trees cs))
        ∙ ap (λ ws. if list_all (λ e. is_true (source.value_of c e s r)) (list_of_trees cs) then ws else net_numbered_in n s r (k + length (writes_all (net_updates_of c us))) other (net_update_branches_of c bs))
        (numbered-same us k (both-pass (names_variable c) (targets_of_all us) (targets_of_branches bs) h).0)
        ∙ ap (λ ws. if list_all (λ e. is_true (source.value_of c e s r)) (list_of_trees cs) then numbered_all c s r k us else ws)
        (ap (λ j. net_numbered_in n s r (k + j) other (net_update_branches_of c bs)) (count-all c us)
        ∙ branches-numbered bs (k + length (targets_of_all us)) other (both-pass (names_variable c) (targets_of_all us) (targets_of_branches bs) h).1)
