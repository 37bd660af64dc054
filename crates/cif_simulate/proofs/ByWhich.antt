-- What kind of command `simulate` is, by the run that it is asked for.
use Rattle.std.proofs.Common.{◌≡◌, ℕ, refl, subst, inl}
use Rattle.grammar.specs.Pieces.{Text}
use Rattle.cif_sim_names.specs.Sources.{names_of}
use Rattle.cif_source.specs.Step.{system_of}
use Rattle.cif_run.specs.Works.{Content}
use Rattle.cif_run.proofs.CallLaws.{IsWithin}
use Rattle.cif_accept.specs.Accepts.{no_ends, source_work}
use Rattle.cif_accept.proofs.OverSource.{IsOverSource}
use Rattle.cif_simulate.specs.Words.{Simulate, Which, by_script, by_first}
use Rattle.cif_simulate.specs.Simulates.{IsFirstText, asks_by, halts_by, parts_by, simulate_work, writes_by}
use Rattle.cif_simulate.proofs.OverScript.{IsOverScript, Tells, over_source}

-- beside a refusal it tells nothing of the source
abbrev pub tells_nothing : Tells
tells_nothing t s = ⊥

pub is_over_script : (x : Simulate) (content : Content) (script : Text) → x.which ≡ by_script script
    → IsOverScript (simulate_work x content) content x.file script tells_nothing
is_over_script x content script which = record {
  asks = λ i h. subst (λ w. asks_by content x.file w i) which h;
  ends = λ s name h. inl h;
  parts = λ text h. let q = subst (λ w. parts_by content x.file w text) which h in (q.0, q.1, (q.2.0, q.2.1, q.2.2, tt));
  writes = λ text h. let q = subst (λ w. writes_by content x.file w text) which h in (q.0, q.1, (q.2.0, q.2.1, q.2.2, q.2.3.0));
  halts = λ s text h. let q = subst (λ w. halts_by content x.file w s text) which h in (q.0, q.1, (q.2.0, q.2.1, q.2.2, q.2.3.0));
}

pub first_over_source : (x : Simulate) (content : Content) (steps : ℕ) → x.which ≡ by_first steps → IsOverSource (simulate_work x content) content x.file
first_over_source x content steps which = record {
  asks = λ i h. inl (subst (λ w. asks_by content x.file w i) which h);
  ends = λ s name h. inl h;
  parts = λ text h. let q = subst (λ w. parts_by content x.file w text) which h in (q.0, q.1, tt);
}

pub is_over_source : (x : Simulate) (content : Content) → IsOverSource (simulate_work x content) content x.file
is_over_source x content = by x.which refl
  where
    by : (w : Which) → x.which ≡ w → IsOverSource (simulate_work x content) content x.file
    by (by_script script) is = over_source (simulate_work x content) content x.file script tells_nothing (is_over_script x content script is)
    by (by_first steps) is = first_over_source x content steps is

-- steps of the first events are the work of a command over the source alone
pub first_within : (x : Simulate) (content : Content) (steps : ℕ) → x.which ≡ by_first steps
    → IsWithin (simulate_work x content) (source_work content x.file (λ t. IsFirstText (names_of t) (system_of t) steps) no_ends)
first_within x content steps which = record {
  asks = λ i h. subst (λ w. asks_by content x.file w i) which h;
  writes = λ text h. subst (λ w. writes_by content x.file w text) which h;
  parts = λ text h. subst (λ w. parts_by content x.file w text) which h;
  ends = λ s name h. inl h;
  halts = λ s text h. subst (λ w. halts_by content x.file w s text) which h;
}
