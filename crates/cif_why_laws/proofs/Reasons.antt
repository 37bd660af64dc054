-- The reasons of a system of which each event is in one role, and of whose edges all is told.
use Rattle.std.proofs.Common.{◌≡◌, ℕ, [], Option, Some, None, refl}
use Rattle.std.specs.Prelude.{is_some, if◌then◌else◌}
use Rattle.grammar.specs.Pieces.{Text}
use Rattle.cif_system.specs.System.{State, System}
use Rattle.cif_system.specs.Step.{Step}
use Rattle.cif_system.specs.Choices.{first_step}
use Rattle.cif_system.proofs.ScanLaws.{first_step-none, first_step-step}
use Rattle.cif_why_model.specs.Parties.{HasOneRole}
use Rattle.cif_why_model.specs.Reasons.{all_reasons, reasons_of}
use Rattle.cif_why_model.specs.Telling.{TellsOf}
use Rattle.cif_why_model.specs.Told.{Told}
use Rattle.cif_why_model.proofs.Enough.{no-reason}
use Rattle.cif_why_model.proofs.Holding.{reasons-hold}
use Rattle.cif_why_model.proofs.Telling.{all-told}
use Rattle.cif_why_laws.specs.Reasons.{HasNoStep, ExplainsSteps}

module _ (names : ℕ → Text) (m : System) (t : Told) (one : (e : ℕ) → HasOneRole m e) (told : TellsOf names m t) where
  no-first-step : (s : State) (e : ℕ) → HasNoStep m s e → first_step m s e ≡ None
  no-first-step s e none = by (first_step m s e) (first_step-step m s e)
    where
      by : (o : Option State) → ((next : State) → o ≡ Some next → Step m s e next) → o ≡ None
      by None step = refl
      by (Some next) step = absurd (none next (step next refl))

  no-reason-left : (s : State) (e : ℕ) (next : State) → Step m s e next → reasons_of m t s e ≡ []
  no-reason-left s e next step = by (first_step m s e) (first_step-none m s e)
    where
      by : (o : Option State) → (o ≡ None → (next : State) → Step m s e next → ⊥) → (if is_some o then [] else all_reasons m t s e) ≡ []
      by None none = absurd (none refl next step)
      by (Some other) none = refl

  pub explains : ExplainsSteps m t
  explains = record {
    none_means_step = λ s e h. let f = no-reason names m t s e (one e) told h in (f.0, first_step-step m s e f.0 f.1);
    step_means_none = no-reason-left;
    each_holds = reasons-hold m t;
    all_are_told = λ s e r none. all-told names m t s e r told (no-first-step s e none);
  }
