-- The statements of an event try it, from what a net and its table of choices keep.
use Rattle.std.proofs.Common.{◌≡◌, ℕ, zero, suc, ◌+◌, ◌<◌, true, ◌&&◌, List, [], ◌∷◌, length, Some, None, subst, arith}
use Rattle.std.specs.Prelude.{nat_eq, slice_get}
use Rattle.std.specs.List.{AllByRecursion, list_all, range_with_len}
use Rattle.grammar.specs.Pieces.{Text}
use Rattle.cif_base.specs.declared.types.Ty.{Ty}
use Rattle.cif_system.specs.System.{State}
use Rattle.cif_system.proofs.Lists.{map-length, none-some, some-same}
use Rattle.cif_net_model.specs.Net.{NetChan, no_net_chan, void_net_chan, net_chan_of, NetEvent, NetInvariant, Net}
use Rattle.cif_net_model.specs.Facts.{event_stands, is_net, is_type}
use Rattle.cif_net_model.specs.Shown.{channel_type}
use Rattle.cif_net_model.proofs.Passing.{and-left, and-right}
use Rattle.cif_net_model.specs.Listing.{NetChoice}
use Rattle.cif_net_model.specs.Meaning.{event_in, system_of_net, true_in}
use Rattle.cif_net_model.specs.Reads.{names_no_alg}
use Rattle.cif_net_model.specs.Table.{IsGuarded, MovesParties, SendsAndAssigns, agrees_in, permitted_in}
use Rattle.st_ast.specs.Tree.{Program}
use Rattle.st_ast.specs.declared.tree.StTy.TheVariants as ty
use Rattle.plc_model.specs.Face.{IsDeclared}
use Rattle.plc_model.specs.Frame.{TriesEvent, fired}
use Rattle.plc_frame.specs.Faces.{face_of_net}
use Rattle.plc_frame.specs.Events.{choices_of, event_text, needs_mark}
use Rattle.plc_frame.proofs.Choosing.{all-filter, all-of}
use Rattle.plc_frame.proofs.Facts.{ends-inside, ends-within, standing}
use Rattle.plc_frame.proofs.Making.{Ready}
use Rattle.cif_net_model.specs.Safe.{Setting}
use Rattle.plc_expr.specs.Texts.{Naming}
use Rattle.plc_event_model.specs.Writes.{NewNames}
use Rattle.plc_event_model.specs.Asked.{Promises}
use Rattle.plc_event_model.specs.Own.{variable_name, choice_temps}
use Rattle.plc_event_model.specs.Events.{all_written}
use Rattle.plc_event_model.specs.Ready.{AllFrom, ChoiceStands, DoneStands}
use Rattle.plc_event_model.proofs.Acting.{IsGuardedChoice}
use Rattle.plc_event_model.proofs.Trying.{event-tried}

-- what the table tells of a choice
record IsListed (n : Net) (c : NetChoice) : Type 0 where
  parties : MovesParties n c
  tests : (s : State) → true_in n s c.test ≡ (agrees_in n s c && permitted_in n s c)
  values : (s : State) → SendsAndAssigns n s c
  all : c.invariants ≡ range_with_len 0 (length n.invariants)

all-listed : (n : Net) (cs : List NetChoice) → IsGuarded n cs → AllByRecursion (IsListed n) cs
all-listed n cs g = all-of (IsListed n) cs (λ k c at. record { parties = g.parties k c at; tests = λ s. g.tests k c s at; values = λ s. g.values k c s at; all = g.all k c at })

pub events-stand : (n : Net) → is_net n ≡ true → list_all event_stands n.events ≡ true
events-stand n net = and-right _ _ (and-left _ _ (and-left _ _ (and-left _ _ (and-left _ _ (and-left _ _ (and-left _ _ (and-left _ _ net)))))))

-- the type of a channel is a type
pub carried-stands : (events : List NetEvent) (e : ℕ) (t : Ty) → list_all event_stands events ≡ true → channel_type (elim (slice_get events e) [ None ↦ no_net_chan | Some x ↦ x.chan ]) ≡ Some t → is_type t ≡ true
carried-stands [] e t h is = absurd (none-some t is)
carried-stands (x ∷ events) (suc e) t h is = carried-stands events e t (and-right _ _ h) is
carried-stands (x ∷ events) zero t h is = go x.chan (and-left _ _ h) is
  where
    go : (k : NetChan) → (elim k [ net_chan_of u ↦ is_type u | _ ↦ true ]) ≡ true → channel_type k ≡ Some t → is_type t ≡ true
    go no_net_chan h is = absurd (none-some t is)
    go void_net_chan h is = absurd (none-some t is)
    go (net_chan_of u) h is = subst (λ v. is_type v ≡ true) (some-same u t is) h

module _ (n : Net) (net : is_net n ≡ true) (free : list_all (λ (i : NetInvariant). names_no_alg i.pred) n.invariants ≡ true) (P : ℕ → NetChoice → Type 0) where
  together : (k : ℕ) (cs : List NetChoice) → AllByRecursion (IsListed n) cs → AllFrom n P k cs → AllFrom n (λ i c. IsGuardedChoice n c × P i c) k cs
  together k [] all stand = tt
  together k (c ∷ cs) all stand = (
    (
      record {
        parties = all.0.parties;
        tests = all.0.tests;
        values = all.0.values;
        carried = λ t is. carried-stands n.events c.event t (events-stand n net) is;
        all = all.0.all;
        free = free;
      },
      stand.0,
    ),
    together (k + choice_temps n c) cs all.1 stand.1,
  )

module _ (n : Net) (cs : List NetChoice) (p : Program) (own : List Text) (w : Naming) (y : NewNames) (base low count k e : ℕ) (done : Text) where
  pub events-tried : is_net n ≡ true → IsGuarded n cs → list_all (λ (i : NetInvariant). names_no_alg i.pred) n.invariants ≡ true → e < length n.events
      → IsDeclared p.vars fired ty.Bool → ((v : ℕ) → w.variable v ≡ variable_name n v) → ((v : Naming) (x : Setting) → v.own ≡ w.own → Promises p.vars v x base low count)
      → AllFrom n (ChoiceStands n p own w y base low count) k (choices_of cs e) → (needs_mark (all_written n w y k (choices_of cs e)) ≡ true → DoneStands p own w y low count done)
      → TriesEvent (face_of_net n) (system_of_net n) p (record { own = own; body = event_text done (all_written n w y k (choices_of cs e)) }) e
  events-tried is guarded free below mark named_so promised stand marked =
      let net = standing n is in
      let ready : Ready n p = record { mark = mark; few = net.few; within = ends-within n net; inside = ends-inside n net } in
      event-tried n p own w y base low count named_so net.vars net.few_vars ready promised e cs done k guarded.each (let long = map-length event_in n.events in omega (arith, below, long))
      (together n is free (ChoiceStands n p own w y base low count) k (choices_of cs e) (all-filter (IsListed n) (λ (c : NetChoice). nat_eq c.event e) cs (all-listed n cs guarded)) stand) marked
