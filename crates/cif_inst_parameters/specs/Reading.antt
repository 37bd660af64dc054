-- Helper of the code: what the arguments of a source are read from.
use Rattle.std.specs.Prelude.{◌≡◌, ℕ, map}
use Rattle.cif_source.specs.Source.{Source}
use Rattle.cif_source.specs.BodyRules.{MismatchDue}
use Rattle.cif_scope.specs.Written.{body_of_written, written_bodies}
use Rattle.cif_inst_parameters.specs.declared.following.Follower.{Follower}
use Rattle.cif_inst_parameters.specs.declared.passing.Bodies.{Bodies}
use Rattle.cif_inst_parameters.specs.Given.{given_items}
use Rattle.cif_inst_parameters.specs.Following.{LooksIn, AreKnown}
use Rattle.cif_inst_parameters.specs.Passing.{instances_now, body_instances}

-- its bodies and their instances, and what is given for the first components
pub record ReadsFrom (t : Source) (f : Follower) (b : Bodies) : Type 0 where
  pub looks : LooksIn t f
  pub known : AreKnown t (map given_items f.given.now)
  pub written : map body_of_written b.written.now ≡ written_bodies t
  pub instances : map instances_now b.instances.now ≡ map body_instances (written_bodies t)
  pub matched : (at : ℕ) → MismatchDue t at → ⊥
