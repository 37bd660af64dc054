-- Words ask for at most one command, by the commands' names, and for at most one thing.
use Rattle.std.proofs.Common.{◌≡◌, List, Some, refl, sym, ap, subst, ◌∙◌, inl, inr}
use Rattle.grammar.specs.Pieces.{Text}
use Rattle.cif_run.specs.Words.{command_word}
use Rattle.cif_run.specs.Works.{Content}
use Rattle.cif_run.proofs.CallLaws.{IsWithin}
use Rattle.cif_check.proofs.WordLemmas.{check_named, one_check}
use Rattle.cif_generate.proofs.WordLemmas.{generate_named, one_generate}
use Rattle.cif_replay.proofs.WordLemmas.{replay_named, one_replay}
use Rattle.cif_batch_command.proofs.WordLemmas.{batch_named, one_batch}
use Rattle.cif_simulate.proofs.WordLemmas.{simulate_named, one_simulate}
use Rattle.cif_why_command.proofs.WordLemmas.{why_named, one_why}
use Rattle.cif_tool.specs.Commands.{Command, check, generate, replay, batch, simulate, why, name_of, command_of, Request, IsFor, work_of}
use Rattle.cif_tool.specs.Asks.{Asked, IsAsked, tool_work}

-- each name is that of one command
names_differ : (k : Command) → command_of (name_of k) ≡ Some k
names_differ check = refl
names_differ generate = refl
names_differ replay = refl
names_differ batch = refl
names_differ simulate = refl
names_differ why = refl

-- the first word is the command's name
named : (k : Command) (words : List Text) (q : Request k) → IsFor k words q → command_word words ≡ name_of k
named check words q h = check_named words q h
named generate words q h = generate_named words q h
named replay words q h = replay_named words q h
named batch words q h = batch_named words q h
named simulate words q h = simulate_named words q h
named why words q h = why_named words q h

one_request : (k : Command) (words : List Text) (p q : Request k) → IsFor k words p → IsFor k words q → p ≡ q
one_request check words p q h g = one_check words p q h g
one_request generate words p q h g = one_generate words p q h g
one_request replay words p q h g = one_replay words p q h g
one_request batch words p q h g = one_batch words p q h g
one_request simulate words p q h g = one_simulate words p q h g
one_request why words p q h g = one_why words p q h g

one_command : (j k : Command) (words : List Text) (p : Request j) (q : Request k) → IsFor j words p → IsFor k words q → k ≡ j
one_command j k words p q h g =
    let same : Some k ≡ Some j =
    sym (names_differ k) ∙ ap command_of (sym (named k words q g)) ∙ ap command_of (named j words p h) ∙ names_differ j in
    cc

-- what is so of what the words ask for is so of this
pub so_of : (words : List Text) (k : Command) (q : Request k) → IsFor k words q → (P : (j : Command) → Request j → Type 0) → (a : Asked) → IsAsked words a
    → P a.command a.request → P k q
so_of words k q is P a asked h =
    subst (λ j. (p : Request j) → IsFor j words p → P j p → P k q) (one_command a.command k words a.request q asked is)
    (λ p g w. subst (λ x. P k x) (one_request k words p q g is) w) a.request asked h

-- what the command does, the tool does, and the other way round
pub within_tool : (words : List Text) (content : Content) (a : Asked) → IsAsked words a → IsWithin (work_of a.command a.request content) (tool_work words content)
within_tool words content a is = record {
  asks = λ i h. (a, is, h);
  writes = λ text h. (a, is, h);
  parts = λ text h. (a, is, h);
  ends = λ s name h. inl (a, is, h);
  halts = λ s text h. (a, is, h);
}

pub of_tool : (words : List Text) (content : Content) (k : Command) (q : Request k) → IsFor k words q → IsWithin (tool_work words content) (work_of k q content)
of_tool words content k q is = record {
  asks = λ i h. so_of words k q is (λ j p. (work_of j p content).asks i) h.0 h.1 h.2;
  writes = λ text h. so_of words k q is (λ j p. (work_of j p content).writes text) h.0 h.1 h.2;
  parts = λ text h. so_of words k q is (λ j p. (work_of j p content).parts text) h.0 h.1 h.2;
  ends = λ s name h. elim h [
    | inl x ↦ so_of words k q is (λ j p. (work_of j p content).ends s name) x.0 x.1 x.2
    | inr x ↦ absurd (x.1 (record { command = k; request = q }) is)
  ];
  halts = λ s text h. so_of words k q is (λ j p. (work_of j p content).halts s text) h.0 h.1 h.2;
}
