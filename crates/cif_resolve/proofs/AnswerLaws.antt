-- The answers of the check by numbers.
use Rattle.std.proofs.Common.{◌≡◌, sym, ◌∙◌, Option, Some, None}
use Rattle.std.specs.Prelude.{Result, Ok, Err, OnOk}
use Rattle.cif_base.specs.declared.memory.Memory.{Memory}
use Rattle.cif_source.specs.Source.{Source}
use Rattle.cif_source.specs.Components.{Component}
use Rattle.cif_scope.specs.declared.scopes.Scopes.{Scopes}
use Rattle.cif_scope.specs.declared.error.ScopeErr.{ScopeErr}
use Rattle.cif_scope.specs.Scopes.{AreNumbered}
use Rattle.cif_scope.specs.Written.{written_bodies}
use Rattle.cif_resolve.specs.Bodies.{faults_from}
use Rattle.cif_resolve.specs.Faults.{ScopeDue, KeepsNames}
use Rattle.cif_resolve.proofs.BodyLaws.{all-told}
use Rattle.cif_resolve.proofs.FaultLaws.{told-due, none-fit}

pub checked-due : (t : Source) (s : Scopes) (f : Option ScopeErr) (e : ScopeErr) → AreNumbered t s → f ≡ faults_from s (written_bodies t) 0 (written_bodies t) → f ≡ Some e → ScopeDue t e
checked-due t s f e are g h = told-due t e (sym (all-told t s are) ∙ sym g ∙ h)

pub checked-fit : (t : Source) (s : Scopes) (f : Option ScopeErr) → AreNumbered t s → f ≡ faults_from s (written_bodies t) 0 (written_bodies t) → f ≡ None → KeepsNames t
checked-fit t s f are g h = none-fit t (sym (all-told t s are) ∙ sym g ∙ h)

-- what holds for each component holds for one
pub for-one : (r : Result (Unit {0}) Memory) (P : Component → Type 0) (c : Component) → OnOk r ((d : Component) → P d) → OnOk r (P c)
for-one (Ok u) P c h = h c
for-one (Err e) P c h = h
