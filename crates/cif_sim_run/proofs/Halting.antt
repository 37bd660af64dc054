-- How a run ends where a write failed.
use Rattle.std.proofs.Common.{◌≡◌, ◌≤◌, inl, inr, ◌++◌, ℕ, Option, Err, Ok, refl, sym, subst, arith}
use Rattle.std.specs.Prelude.{Result, IfErr, OnOk}
use Rattle.std.specs.Result.{IsErrAnd}
use Rattle.grammar.specs.Pieces.{Text}
use Rattle.cif_io.specs.Faults.{Rose}
use Rattle.cif_io.specs.declared.sink.SinkErr.{SinkErr}
use Rattle.cif_io.specs.declared.sink.SinkErr.TheVariants as sink
use Rattle.cif_sim_model.specs.Simulation.{StopCause}
use Rattle.cif_sim_run.specs.Halts.{GrewByPart, HaltsIn, HaltsSilently, cause, halt_of, writing}
use Rattle.cif_sim_run.specs.declared.halt.Halt.{Halt}
use Rattle.cif_sim_run.specs.declared.halt.Halt.TheVariants.{Stopped, Failed, Memory}
use Rattle.cif_io.specs.Written.{grown}
use Rattle.cif_sim_run.proofs.Growing.{part-after, part-nothing, whole-behind}

pub if-err : {T E : Type 0} (r : Result T E) (e : E) (P : E → Type 0) → IsErrAnd r (λ x. x ≡ e) → P e → IfErr r P
if-err (Ok x) e P h p = absurd h
if-err (Err x) e P h p = subst P (sym h) p

pub rose-later : (a b c : ℕ) → a ≤ b → Rose b c → Rose a c
rose-later a b c h (inl less) = inl (omega (arith, h, less))
rose-later a b c h (inr end) = inr end

pub halts-of : (stops : ℕ → StopCause → Type 0) (text : Text) (old new : Option Text) (f f' : ℕ) (e : SinkErr)
    → (e ≡ sink.Failed → Rose f f') → GrewByPart text old new → HaltsIn stops text (writing old new f f') (halt_of e)
halts-of stops text old new f f' sink.Failed rose part = (rose refl, part)
halts-of stops text old new f f' sink.Memory rose part = part

-- want of memory before anything was written
pub wants-memory : (r : Result (Unit {0}) Halt) (stops : ℕ → StopCause → Type 0) (text : Text) (old : Option Text) (f : ℕ) → IsErrAnd r (λ e. e ≡ Memory) → IfErr r (HaltsIn stops text (writing old old f f))
wants-memory r stops text old f h = if-err r Memory (HaltsIn stops text (writing old old f f)) h (part-nothing text old old refl)

-- the same end by other words for the lines at which it may stop
pub halts-silently : (stops other : ℕ → StopCause → Type 0) (e : Halt) → ((j : ℕ) (why : StopCause) → other j why → stops j why) → HaltsSilently other e → HaltsSilently stops e
halts-silently stops other (Stopped line why) h old = h line (cause why) old
halts-silently stops other Failed h old = old
halts-silently stops other Memory h old = old

-- an end behind the first line
pub halts-behind : (stops other : ℕ → StopCause → Type 0) (first rest : Text) (old now new : Option Text) (f f1 f2 : ℕ) (e : Halt)
    → ((j : ℕ) (why : StopCause) → other j why → stops j why) → now ≡ grown old first → f ≤ f1
    → HaltsIn other rest (writing now new f1 f2) e → HaltsIn stops (first ++ rest) (writing old new f f2) e
halts-behind stops other first rest old now new f f1 f2 (Stopped line why) h g le ended = (h line (cause why) ended.0, whole-behind first rest old now new g ended.1)
halts-behind stops other first rest old now new f f1 f2 Failed h g le ended = (rose-later f f1 f2 le ended.0, part-after first rest old now new g ended.1)
halts-behind stops other first rest old now new f f1 f2 Memory h g le ended = part-after first rest old now new g ended

-- ---- results that are handed on

pub on-ok : {T E : Type 0} (r : Result T E) (P Q : Type 0) → (P → Q) → OnOk r P → OnOk r Q
on-ok (Ok x) P Q f h = f h
on-ok (Err e) P Q f h = tt

pub on-err : {T E : Type 0} (r : Result T E) (P Q : E → Type 0) → ((e : E) → P e → Q e) → IfErr r P → IfErr r Q
on-err (Ok x) P Q f h = tt
on-err (Err e) P Q f h = f e h

pub err-kept : {T E : Type 0} (r : Result T E) (P : Type 0) → P → IfErr r (λ _. P)
err-kept (Ok x) P h = tt
err-kept (Err e) P h = h
