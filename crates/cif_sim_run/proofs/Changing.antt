-- What a step may have changed, and what is shown of it.
use Rattle.std.proofs.Common.{◌≡◌, ℕ, zero, suc, ◌<◌, List, [], ◌∷◌, length, Some, refl, sym, ap, subst, ◌∙◌, arith}
use Rattle.std.specs.Prelude.{slice_get}
use Rattle.cif_system.specs.System.{State}
use Rattle.cif_net.specs.View.{choice_tree}
use Rattle.cif_net.specs.declared.guarded.Guarded.{Guarded}
use Rattle.cif_net.specs.declared.listing.Choice.{Choice}
use Rattle.cif_script.specs.Touches.{DifferWithin, SameBut}
use Rattle.cif_script.specs.declared.touched.Touched.{Touched}
use Rattle.cif_sim.specs.Stays.{StaysBut}
use Rattle.cif_sim.specs.Tried.{Fires, after_at}
use Rattle.cif_sim.proofs.Staying.{choice-stays}
use Rattle.cif_sim_run.specs.Left.{Shows}
use Rattle.cif_sim_run.specs.Made.{AreInOrder, ChangedBy, IsTouchedBy, IsWithin}
use Rattle.cif_sim_run.specs.declared.made.Made.{Made}
use Rattle.cif_sim_run.specs.declared.made.Made.TheVariants.{Idle, Set, Fire}

some-at : {A : Type 0} (xs : List A) (k : ℕ) → k < length xs → (x : A) × (slice_get xs k ≡ Some x)
some-at [] k h = absurd (omega (arith, h))
some-at (x ∷ xs) zero h = (x, refl)
some-at (x ∷ xs) (suc k) h = some-at xs k (omega (arith, h))

-- the choice that fires leaves all else
pub fired-by : (g : Guarded) (s t : State) (e k : ℕ) → Fires g s e k t → ChangedBy g k s t
unfolding after_at
fired-by g s t e k f =
    let c = some-at g.choices k f.makes.listed in
    record {
      choice = c.0;
      listed = c.1;
      stays = subst (StaysBut (choice_tree c.0) s) (sym f.after) (choice-stays g k c.0 c.1 s f.valid);
    }

changed-shown : (g h : Guarded) (k : ℕ) (s t before after : State) → g ≡ h → Shows before s → after ≡ t → ChangedBy g k s t → ChangedBy h k before after
changed-shown g h k s t before after same shown is by =
    subst (λ x. ChangedBy x k before after) same
    record {
      choice = by.choice;
      listed = by.listed;
      stays = subst (StaysBut (choice_tree by.choice) before) (sym is) record {
        places = λ i h. ap (λ xs. slice_get xs i) shown.0 ∙ by.stays.places i h;
        values = λ i h. ap (λ xs. slice_get xs i) shown.1 ∙ by.stays.values i h;
      };
    }

-- of the state before what is shown is enough
pub within-shown : (g h : Guarded) (s t before after : State) (a : Made) → g ≡ h → Shows before s → after ≡ t → IsWithin g a s t → IsWithin h a before after
within-shown g h s t before after Idle same shown is w = tt
within-shown g h s t before after (Set input value) same shown is w = tt
within-shown g h s t before after (Fire f) same shown is w = changed-shown g h f.choice s t before after same shown is w

others : {A : Type 0} (ks js : List ℕ) (xs ys : List A) → AreInOrder ks js → SameBut ks xs ys → SameBut js xs ys
others ks js xs ys order same k h = same k (λ c. h (order.each k c))

-- what a choice may change is what its table has
pub differ-within : (g : Guarded) (k : ℕ) (x : Touched) (s t : State) → ((c : Choice) → slice_get g.choices k ≡ Some c → IsTouchedBy (choice_tree c) x) → ChangedBy g k s t → DifferWithin x s t
differ-within g k x s t of by =
    let is = of by.choice by.listed in
    record {
      autos = is.autos.ascend;
      vars = is.vars.ascend;
      places = others _ x.autos s.locs t.locs is.autos by.stays.places;
      values = others _ x.vars s.vals t.vals is.vars by.stays.values;
    }
