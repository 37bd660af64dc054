-- The names that a list of updates assigns have the numbers of their updates.
use Rattle.std.proofs.Common.{◌≡◌, ℕ, zero, suc, ◌+◌, ◌≤◌, inl, inr, List, [], ◌∷◌, ◌++◌, map, refl, sym, ap, subst, ◌∙◌, Some, arith}
use Rattle.std.specs.Prelude.{slice_get}
use Rattle.cif_ast.specs.Tree.{UpdateTree, UpdateTrees, no_updates, updates}
use Rattle.cif_ast.specs.declared.names.Name.{Name}
use Rattle.cif_system.specs.Words.{Member}
use Rattle.cif_system.proofs.Lists.{some-same, none-some}
use Rattle.cif_system.proofs.Distinct.{member-map}
use Rattle.cif_system.proofs.Picks.{append-left, append-right, map-member}
use Rattle.cif_source.specs.Source.{list_of_updates}
use Rattle.cif_source.proofs.ComponentLaws.{append-cases}
use Rattle.cif_source.specs.BodyRules.{targets_of, targets_of_all}
use Rattle.cif_types_targets.specs.Assigned.{AssignedName, numbered, assigned_by}
use Rattle.cif_types_targets.proofs.ListLaws.{Rising}

-- the update in which a name is
pub record Placed (us : UpdateTrees) (n : ℕ) (a : AssignedName) : Type 0 where
  pub place : ℕ
  pub update : UpdateTree
  pub number : a.update ≡ n + place
  pub stands : slice_get (list_of_updates us) place ≡ Some update
  pub assigns : Member a.name (targets_of update)

pub assigned-in : (us : UpdateTrees) (n : ℕ) (a : AssignedName) → Member a (assigned_by n us) → Placed us n a
assigned-in no_updates n a m = absurd m
assigned-in (updates u us) n a m =
    elim (append-cases a (map (numbered n) (targets_of u)) (assigned_by (n + 1) us) m) [
      | inl w ↦
          let t = member-map (numbered n) a (targets_of u) w in
          record { place = 0; update = u; number = ap (λ (b : AssignedName). b.update) t.2 ∙ omega arith; stands = refl; assigns = subst (λ nm. Member nm (targets_of u)) (sym (ap (λ (b : AssignedName). b.name) t.2)) t.1 }
      | inr w ↦ let p = assigned-in us (n + 1) a w in record { place = suc p.place; update = p.update; number = omega (arith, p.number); stands = p.stands; assigns = p.assigns }
    ]

pub in-assigned : (us : UpdateTrees) (n j : ℕ) (u : UpdateTree) (nm : Name) → slice_get (list_of_updates us) j ≡ Some u → Member nm (targets_of u) → Member (numbered (n + j) nm) (assigned_by n us)
in-assigned no_updates n j u nm h m = absurd (none-some u h)
in-assigned (updates v us) n zero u nm h m =
    let number : n ≡ n + 0 = omega arith in
    subst (λ k. Member (numbered k nm) (assigned_by n (updates v us))) number
    (append-left (numbered n nm) (map (numbered n) (targets_of v)) (assigned_by (n + 1) us) (map-member (numbered n) nm (targets_of v) (subst (λ w. Member nm (targets_of w)) (sym (some-same v u h)) m)))
in-assigned (updates v us) n (suc j) u nm h m =
    let number : (n + 1) + j ≡ n + suc j = omega arith in
    subst (λ k. Member (numbered k nm) (assigned_by n (updates v us))) number
    (append-right (numbered ((n + 1) + j) nm) (map (numbered n) (targets_of v)) (assigned_by (n + 1) us) (in-assigned us (n + 1) j u nm h m))

assigned-least : (us : UpdateTrees) (n : ℕ) (a : AssignedName) → Member a (assigned_by n us) → n ≤ a.update
assigned-least us n a m = let p = assigned-in us n a m in omega (arith, p.number)

rising-more : (nms : List Name) (n : ℕ) (rest : List AssignedName) → ((b : AssignedName) → Member b rest → n ≤ b.update) → Rising rest → Rising (map (numbered n) nms ++ rest)
rising-more [] n rest h r = r
rising-more (nm ∷ nms) n rest h r = (
  λ b m. elim (append-cases b (map (numbered n) nms) rest m) [
    | inl w ↦ let t = member-map (numbered n) b nms w in let same : b.update ≡ n = ap (λ (c : AssignedName). c.update) t.2 in omega (arith, same)
    | inr w ↦ h b w
  ],
  rising-more nms n rest h r,
)

pub assigned-rising : (us : UpdateTrees) (n : ℕ) → Rising (assigned_by n us)
assigned-rising no_updates n = tt
assigned-rising (updates u us) n = rising-more (targets_of u) n (assigned_by (n + 1) us) (λ b m. let l = assigned-least us (n + 1) b m in omega (arith, l)) (assigned-rising us (n + 1))

-- it is among all names that the list assigns
pub assigned-among : (us : UpdateTrees) (n : ℕ) (a : AssignedName) → Member a (assigned_by n us) → Member a.name (targets_of_all us)
assigned-among no_updates n a m = absurd m
assigned-among (updates u us) n a m =
    elim (append-cases a (map (numbered n) (targets_of u)) (assigned_by (n + 1) us) m) [
      | inl w ↦
          let t = member-map (numbered n) a (targets_of u) w in
          append-left a.name (targets_of u) (targets_of_all us) (subst (λ nm. Member nm (targets_of u)) (sym (ap (λ (b : AssignedName). b.name) t.2)) t.1)
      | inr w ↦ append-right a.name (targets_of u) (targets_of_all us) (assigned-among us (n + 1) a w)
    ]

pub among-assigned : (us : UpdateTrees) (n : ℕ) (nm : Name) → Member nm (targets_of_all us) → (j : ℕ) × Member (numbered j nm) (assigned_by n us)
among-assigned no_updates n nm m = absurd m
among-assigned (updates u us) n nm m =
    elim (append-cases nm (targets_of u) (targets_of_all us) m) [
      | inl w ↦ (n, append-left (numbered n nm) (map (numbered n) (targets_of u)) (assigned_by (n + 1) us) (map-member (numbered n) nm (targets_of u) w))
      | inr w ↦ let t = among-assigned us (n + 1) nm w in (t.0, append-right (numbered t.0 nm) (map (numbered n) (targets_of u)) (assigned_by (n + 1) us) t.1)
    ]
