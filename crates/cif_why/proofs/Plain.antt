-- What the reasons need of a plain net of the code and of one of its states.
use Rattle.std.proofs.Common.{◌≡◌, ℕ, zero, suc, ◌^◌, ◌<◌, ◌≤◌, true, List, [], ◌∷◌, length, map, Some, refl, arith}
use Rattle.std.specs.Prelude.{nat_le, option_map, slice_get}
use Rattle.std.proofs.lemmas.Bool.Decides.{nat_tests}
use Rattle.std.proofs.lemmas.Option.{slice_get-map}
use Rattle.cif_system.specs.System.{Class}
use Rattle.cif_system.specs.Step.{is_channel_of}
use Rattle.cif_system.proofs.Lists.{map-length}
use Rattle.cif_net_model.specs.Facts.{is_net, things}
use Rattle.cif_net_model.specs.Meaning.{channel_in, event_in}
use Rattle.cif_net_model.specs.Net.{Net}
use Rattle.cif_net_model.proofs.Passing.{and-left}
use Rattle.cif_net.specs.View.{auto_tree, chan_of, event_tree, exclusion_tree, invariant_tree, net_tree}
use Rattle.cif_net.specs.declared.events.Event.{Event}
use Rattle.cif_net.specs.declared.events.NetChan.TheVariants as chan
use Rattle.cif_net.specs.declared.events.NetChan.{NetChan}
use Rattle.cif_net.specs.declared.plain.Plain.{Plain}
use Rattle.cif_net_laws.proofs.Sound.{net-of}
use Rattle.cif_why.specs.Channels.{is_chan}

pub at-most : (n : Net) → is_net n ≡ true → things n ≤ 100000
at-most n h =
    let b : nat_le (things n) 100000 ≡ true = and-left _ _ (and-left _ _ (and-left _ _ (and-left _ _ (and-left _ _ (and-left _ _ (and-left _ _ (and-left _ _ h))))))) in
    below (things n) 100000 b
  where
    below : (a b : ℕ) → nat_le a b ≡ true → a ≤ b
    below a b h = grind (arith, nat_tests)

pub few-autos : (p : Plain) → length p.net.autos < 2 ^ 32
few-autos p = let q = at-most (net_tree p.net) (net-of (net_tree p.net) p.plain) in let r = map-length auto_tree p.net.autos in omega (arith, q, r)

pub few-exclusions : (p : Plain) → length p.net.exclusions < 2 ^ 32
few-exclusions p = let q = at-most (net_tree p.net) (net-of (net_tree p.net) p.plain) in let r = map-length exclusion_tree p.net.exclusions in omega (arith, q, r)

pub few-invariants : (p : Plain) → length p.net.invariants < 2 ^ 32
few-invariants p = let q = at-most (net_tree p.net) (net-of (net_tree p.net) p.plain) in let r = map-length invariant_tree p.net.invariants in omega (arith, q, r)

pub at_mapped : {A B : Type 0} (f : A → B) (xs : List A) (k : ℕ) → slice_get (map f xs) k ≡ option_map f (slice_get xs k)
at_mapped f xs k = slice_get-map f xs k

pub channel-is : (events : List Event) (k : ℕ) → is_chan (option_map (λ (e : Event). e.chan) (slice_get events k)) ≡ is_channel_of (slice_get (map event_in (map event_tree events)) k)
channel-is [] k = refl
channel-is (x ∷ events) zero = go (event_in (event_tree x)).class x.chan
  where
    go : (p : Class) (c : NetChan) → is_chan (Some c) ≡ is_channel_of (Some (record { class = p; channel = channel_in (chan_of c) }))
    go p chan.No = refl
    go p chan.Void = refl
    go p (chan.Of t) = refl
channel-is (x ∷ events) (suc k) = channel-is events k
