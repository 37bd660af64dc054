-- What `generate` promises: what is promised of the text of a net is said of the source, and each promise then of a call that came
-- to its end, where the answer is the status of that end or want of memory.
use Rattle.std.proofs.Common.{◌≡◌, ℕ, zero, suc, ◌⊎◌, true, false, List, [], ◌∷◌, map, Some, None, refl, sym, ap, ◌∙◌, subst, inl, inr, length, ◌≤◌, ◌<◌, nat_lt, arith}
use Rattle.std.specs.Prelude.{slice_get, IsTrue}
use Rattle.std.proofs.lemmas.Bool.Decides.{nat_tests}
use Rattle.grammar.specs.Pieces.{Text}
use Rattle.cif_io.specs.Faults.{Rose}
use Rattle.cif_system.specs.System.{plain}
use Rattle.cif_system.specs.Step.{is_of}
use Rattle.cif_source.specs.Objects.{Declared, events}
use Rattle.cif_net.specs.View.{net_tree}
use Rattle.cif_net.specs.declared.guarded.Guarded.{Guarded}
use Rattle.cif_net_model.specs.Meaning.{system_of_net}
use Rattle.cif_net_model.specs.Net.{Net}
use Rattle.cif_inst_model.specs.Flat.{net_event, net_of_source}
use Rattle.cif_inst_model.specs.NetRules.{UnclassedDue}
use Rattle.st_ast.specs.Tree.{Program}
use Rattle.plc_frame.specs.Faces.{face_of_net}
use Rattle.cif_net_model.specs.Nesting.{is_shallow}
use Rattle.plc_back.specs.Texts.{Makes, TheProgram}
use Rattle.plc_back.specs.Written as written
use Rattle.plc_back.specs.Written.{IsFirstUnclassed}
use Rattle.cif_run.specs.declared.status.Status.{Status}
use Rattle.cif_run.specs.declared.status.Status.TheVariants as status
use Rattle.cif_run.specs.declared.status.ProfileWhy.TheVariants as profile
use Rattle.cif_run.specs.declared.ended.Ended.{Ended}
use Rattle.cif_run.specs.Groups.{IsUnlessMemory, group_of}
use Rattle.cif_run.specs.Works.{Comes, Content, Reading, StopsIn, Writing}
use Rattle.cif_run.proofs.CallLaws.{answers, ended_so, written as wrote}
use Rattle.cif_source.specs.Source.{Source}
use Rattle.cif_front.specs.Loads.{ReadsAsSource, Stands}
use Rattle.cif_accept.specs.Accepts.{IsLoaded, SourceIs, source_limit}
use Rattle.cif_accept.proofs.AcceptLaws.{TellsItsOwn, told_of}
use Rattle.cif_generate.specs.Words.{Generate}
use Rattle.cif_generate.specs.Meaning.{AreClassed, IsWrittenFor, event_path, meant_by, shown_of}
use Rattle.cif_generate.specs.Generates.{Writes, generate_work, is_unclassed}
use Rattle.cif_generate.specs.Told.{IsTold, TellsOf, path_in}
use Rattle.cif_generate.proofs.FaceLaws.{face-same}
use Rattle.cif_generate.proofs.UnfoldedLaws.{face-unfolded, shallow-unfolded}
use Rattle.cif_generate.proofs.ProgramLaws.{read-shallow}

-- ---- texts

-- what makes the scans of a net of the source makes those of the source
pub made_of : (U C : ℕ) (t : Source) (n : Net) (text : Text) → Stands n t → TheProgram text (Makes U C (face_of_net n) (system_of_net n) text)
    → TheProgram text (Makes U C (shown_of t) (meant_by t) text)
made_of U C t n text stands made =
    subst (λ f. TheProgram text (Makes U C f (meant_by t) text)) (face-unfolded (net_of_source t) n stands.unfolds ∙ face-same t)
    (subst (λ s. TheProgram text (Makes U C (face_of_net n) s text)) stands.meaning made)

pub classed : (U C : ℕ) (t : Source) (text : Text) → IsWrittenFor U C t text → AreClassed t
classed U C t text h event due =
    h.text_of.of_net.classed event (subst (λ s. IsTrue (is_of s plain event)) (sym h.text_of.stands.meaning) due.0)

-- ---- the net of the source in the file

path-same : (ds : List Declared) (k : ℕ)
    → ◌≡◌ {A = Text} (elim (slice_get (map net_event ds) k) [ None ↦ [] | Some e ↦ e.path ]) (elim (slice_get ds k) [ None ↦ [] | Some d ↦ (net_event d).path ])
path-same [] k = refl
path-same (d ∷ ds) zero = refl
path-same (d ∷ ds) (suc k) = path-same ds k

module _ (content : Content) (file : Text) (g : Guarded) (l : IsLoaded content file g) where
  pub loaded_shallow : is_shallow (net_tree g.plain.net) ≡ true
  loaded_shallow = shallow-unfolded (net_of_source l.0) (net_tree g.plain.net) l.2.unfolds ∙ read-shallow l.1.0 l.0 l.1.3

  pub loaded_text : (U C : ℕ) (text : Text) → written.IsTextOf (net_tree g.plain.net) U C text
      → TheProgram text (Makes U C (face_of_net (net_tree g.plain.net)) (system_of_net (net_tree g.plain.net)) text) → (t : Source) × SourceIs content file t × IsWrittenFor U C t text
  loaded_text U C text h made = (
    l.0,
    l.1,
    record {
      text_of = record { net = net_tree g.plain.net; stands = l.2; of_net = h };
      makes = made_of U C l.0 (net_tree g.plain.net) text l.2 made;
    },
  )

  first_due : (event : ℕ) → IsFirstUnclassed (net_tree g.plain.net) event → UnclassedDue l.0 event
  first_due event h = (
    subst (λ s. IsTrue (is_of s plain event)) l.2.meaning h.0,
    λ k below due. h.1 k below (subst (λ s. IsTrue (is_of s plain k)) (sym l.2.meaning) due),
  )

  path_is : (event : ℕ) → path_in (net_tree g.plain.net) event ≡ event_path l.0 event
  path_is event = ap (λ n. path_in n event) l.2.unfolds.whole ∙ path-same (events l.0) event

  -- the command ends so over a source with an event without a class
  pub unclassed_stops : (q : Generate) → q.file ≡ file → (event : ℕ) → IsFirstUnclassed (net_tree g.plain.net) event → (c : Reading) (e : Ended)
      → IsTold (net_tree g.plain.net) event e → StopsIn (generate_work q content) c e (group_of e.status)
  unclassed_stops q this event first c e told = go e.status refl told
    where
      source : SourceIs content q.file l.0
      source = subst (λ f. SourceIs content f l.0) (sym this) l.1

      go : (s : Status) → e.status ≡ s → TellsOf (net_tree g.plain.net) event e.variable s → StopsIn (generate_work q content) c e (group_of e.status)
      go (status.OutsideProfile (profile.Unclassed k)) is h =
          subst (λ s. StopsIn (generate_work q content) c e (group_of s)) (sym is)
          (inr (
            l.0,
            source,
            subst (λ s. is_unclassed l.0 s e.variable) (sym is)
                (subst (λ j. UnclassedDue l.0 j × (e.variable ≡ event_path l.0 j)) (sym h.0) (first_due event first, h.1 ∙ path_is event)),
          ))
      go (status.OutsideProfile (profile.TooManyChoices n)) is h = absurd h
      go status.Memory is h = subst (λ s. StopsIn (generate_work q content) c e (group_of s)) (sym is) tt
      go _ is h = absurd h

-- ---- calls

order : (k m : ℕ) → (k < m) ⊎ ((m < k) ⊎ (k ≡ m))
order k m =
    (elim (nat_lt k m) as (λ b. nat_lt k m ≡ b → (k < m) ⊎ ((m < k) ⊎ (k ≡ m))) [
      | true ↦ λ h. inl (grind (arith, nat_tests))
      | false ↦ λ h.
          (elim (nat_lt m k) as (λ b. nat_lt m k ≡ b → (k < m) ⊎ ((m < k) ⊎ (k ≡ m))) [
            | true ↦ λ g. inr (inl (grind (arith, nat_tests)))
            | false ↦ λ g. inr (inr (grind (arith, nat_tests)))
          ]) refl
    ]) refl

-- it tells of nothing but events without a class besides what the source is refused for
pub tells_own : TellsItsOwn is_unclassed
tells_own = record { refused = λ t why name h. h; many = λ t count name h. h }

module _ (g : Generate) (c : Reading) (o : Writing) (e : Ended) (came : Comes (generate_work g c.content) c o e) (r : Status) (same : IsUnlessMemory r e.status) where
  pub writes : (P : Source → Text → Type 0) → ((t : Source) (text : Text) → IsWrittenFor g.unc g.con t text → P t text)
      → r ≡ status.Done → Writes c.content g.file o.old o.new P
  writes P from q =
      let w = wrote (generate_work g c.content) c o e came r same q in (w.1.0, w.1.1, (w.0, w.2, from w.1.0 w.0 w.1.2))

  -- one of the promises on the program
  pub promised : (P : Source → Text → Program → Type 0)
      → ((t : Source) (text : Text) (p : Program) → Makes g.unc g.con (shown_of t) (meant_by t) text p → P t text p)
      → r ≡ status.Done → Writes c.content g.file o.old o.new (λ t text. TheProgram text (P t text))
  promised P from = writes (λ t text. TheProgram text (P t text))
      (λ t text h. (h.makes.0, h.makes.1, from t text h.makes.0 h.makes.2, h.makes.3))

  pub unclassed : (event : ℕ) → r ≡ status.OutsideProfile (profile.Unclassed event) → (t : Source) × SourceIs c.content g.file t × UnclassedDue t event
  unclassed event q = elim (ended_so (generate_work g c.content) c o e came r same (status.OutsideProfile (profile.Unclassed event)) (λ z. cc) refl q) [
    | inl h ↦ absurd h
    | inr h ↦ (h.0, h.1, h.2.0)
  ]

  -- an event without a class is told
  pub unclassed_is_told : (bytes : Text) → c.content g.file ≡ Some bytes → (Rose (c.faults g.file) (c.faults_after g.file) → ⊥) → length bytes ≤ source_limit
      → (t : Source) → ReadsAsSource bytes t → (event : ℕ) → UnclassedDue t event → IsUnlessMemory r (status.OutsideProfile (profile.Unclassed event))
  unclassed_is_told bytes told sure short t reads event due =
      told_of g.file (IsWrittenFor g.unc g.con) is_unclassed c o e came r same bytes told sure short t reads
      (IsUnlessMemory r (status.OutsideProfile (profile.Unclassed event)))
      (λ h. this e.status refl h)
      (λ text h. classed g.unc g.con t text h event due)
      (λ m. inr m)
    where
      same_event : (k : ℕ) → UnclassedDue t k → k ≡ event
      same_event k other = elim (order k event) [
        | inl h ↦ absurd (due.1 k h other.0)
        | inr h ↦ elim h [ inl w ↦ absurd (other.1 event w due.0) | inr w ↦ w ]
      ]

      this : (s : Status) → e.status ≡ s → is_unclassed t s e.variable → IsUnlessMemory r (status.OutsideProfile (profile.Unclassed event))
      this (status.OutsideProfile (profile.Unclassed k)) is h =
          answers (generate_work g c.content) c o e came r same (status.OutsideProfile (profile.Unclassed event))
          (is ∙ ap (λ n. status.OutsideProfile (profile.Unclassed n)) (same_event k h.0))
      this (status.OutsideProfile (profile.TooManyChoices n)) is h = absurd h
      this _ is h = absurd h
