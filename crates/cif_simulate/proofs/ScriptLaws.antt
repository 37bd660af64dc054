-- How the run of a script over the net of a source is an end of a command.
use Rattle.std.proofs.Common.{◌≡◌, ◌≤◌, length, Option, subst, ◌∙◌, inl, inr}
use Rattle.grammar.specs.Pieces.{Text}
use Rattle.cif_system.specs.System.{System}
use Rattle.cif_sim_model.specs.Names.{Names}
use Rattle.cif_sim_names.specs.Sources.{names_of}
use Rattle.cif_sim_names.proofs.NameLaws.{names-same, names-unfolded}
use Rattle.cif_source.specs.Source.{Source}
use Rattle.cif_source.specs.Step.{system_of}
use Rattle.cif_inst_model.specs.Flat.{net_of_source}
use Rattle.cif_net.specs.View.{net_tree}
use Rattle.cif_net.specs.declared.guarded.Guarded.{Guarded}
use Rattle.cif_front.specs.Loads.{Stands}
use Rattle.cif_eval.specs.Choices as fire
use Rattle.cif_sim_run.specs.Left.{names_in}
use Rattle.cif_run.specs.declared.ended.Ended.{Ended}
use Rattle.cif_run.specs.Groups.{group_of}
use Rattle.cif_run.specs.Works.{Comes, Holds, Reading, Work, Writing}
use Rattle.cif_run.proofs.CallLaws.{IsWithin, within_comes}
use Rattle.cif_run.proofs.FileLaws.{earlier_ends, file_stops}
use Rattle.cif_simulate.specs.Scripts.{CameOver, script_input, script_limit}

-- what is so by the names and the system of the net is so by those of its source
pub of_net : (g : Guarded) (t : Source) (P : Names → System → Type 0) → Stands (net_tree g.plain.net) t → P (names_in g) (fire.system_of g) → P (names_of t) (system_of t)
of_net g t P stands h =
    let same : names_in g ≡ names_of t = names-unfolded (net_of_source t) (net_tree g.plain.net) stands.unfolds ∙ names-same t in
    subst (λ (n : Names). P n (system_of t)) same (subst (λ (m : System). P (names_in g) m) stands.meaning h)

-- a run over the bytes of a file, taken as a slice
pub read_over : (v : Text → Work) (script : Text) (c : Reading) (o : Writing) (e : Ended) (bytes slice : Text) → slice ≡ bytes
    → Holds (c.content script) bytes → length bytes ≤ script_limit → ((d : Reading) → Comes (v slice) d o e) → CameOver v script c o e
read_over v script c o e bytes slice is holds short came = inr (bytes, holds, short, subst (λ b. (d : Reading) → Comes (v b) d o e) is came)

-- A command that asks for a script, and does over its bytes what another work does, comes to its end with that. The counts of the
-- script's file are those from a later moment on.
pub script_comes : (w : Work) (v : Text → Work) (script : Text) (c : Reading) (o : Writing) (e : Ended) → w.asks (script_input script)
    → ((bytes : Text) → Holds (c.content script) bytes → length bytes ≤ script_limit → IsWithin (v bytes) w)
    → (d : Reading) → d.content script ≡ c.content script → c.faults script ≤ d.faults script
    → d.faults_after script ≡ c.faults_after script → d.most_after script ≡ c.most_after script
    → CameOver v script d o e → Comes w c o e
script_comes w v script c o e asks within d same more after most (inl h) =
    inl (
      file_stops w c (script_input script) e (group_of e.status) asks
          (earlier_ends c d (script_input script) e.limit (group_of e.status) same more after most h.0),
      h.1,
    )
script_comes w v script c o e asks within d same more after most (inr h) =
    within_comes (v h.0) w (within h.0 (subst (λ (told : Option Text). Holds told h.0) same h.1) h.2) c o e (h.3 c)
