-- What a listed choice is made of: one that sends and another that receives for a channel, and none of both else.
use Rattle.std.proofs.Common.{◌≡◌, ◌⊎◌, ℕ, ◌+◌, ◌<◌, ◌≤◌, Bool, true, false, ◌||◌, inl, inr, List, [], ◌∷◌, length, map, refl, ◌∙◌, ap, subst, arith}
use Rattle.std.specs.Prelude.{flat_map, nat_eq, if◌then◌else◌}
use Rattle.std.specs.List.{list_all, list_any, enumerate_from}
use Rattle.std.proofs.lemmas.Bool.Decides.{nat_tests}
use Rattle.cif_system.specs.Words.{Member}
use Rattle.cif_system.specs.System.{sending, receiving}
use Rattle.cif_system.specs.Step.{Choice, Numbered, is_channel, is_party, has_edge, numbered}
use Rattle.cif_system.specs.Choices.{channel_choices, choices, having, options, options_between, plain_choices, product_of}
use Rattle.cif_system.proofs.Distinct.{member-flat_map, member-filter}
use Rattle.cif_system.proofs.Picks.{and-left, and-right, true-or-right}
use Rattle.cif_system.proofs.Lists.{filter-passes, map-length}
use Rattle.cif_net_model.specs.Net.{NetAuto, Net}
use Rattle.cif_net_model.specs.Meaning.{automaton_in, system_of_net}
use Rattle.cif_net_model.specs.Facts.{auto_stands, is_net}
use Rattle.cif_net_laws.proofs.Parties.{Parts, parts}

pub record Picked (n : Net) (e : ℕ) (ch : Choice) : Type 0 where
  pub from : ℕ
  pub to : ℕ
  pub apart : nat_eq from to ≡ false
  pub party : list_any (is_party e) (map (automaton_in n) n.autos) ≡ true
  pub each : Parts e from to 0 n.autos ch
  pub ends : ((is_channel (system_of_net n) e ≡ true) × from < length n.autos × to < length n.autos) ⊎ ((is_channel (system_of_net n) e ≡ false) × length n.autos ≤ from × length n.autos ≤ to)

numbered-below : {A : Type 0} (k : ℕ) (xs : List A) (z : ℕ × A) → Member z (enumerate_from k xs) → z.0 < k + length xs
numbered-below k [] z m = absurd m
numbered-below k (x ∷ xs) z (inl w) = let q : z.0 ≡ k = ap (λ v. v.0) w in omega (arith, q)
numbered-below k (x ∷ xs) z (inr m) = omega (arith, numbered-below (k + 1) xs z m)

numbered-any : {A : Type 0} (p : A → Bool) (k : ℕ) (xs : List A) (z : ℕ × A) → Member z (enumerate_from k xs) → p z.1 ≡ true → list_any p xs ≡ true
numbered-any p k [] z m h = absurd m
numbered-any p k (x ∷ xs) z (inl w) h = ap (λ b. b || list_any p xs) (subst (λ v. p v ≡ true) (ap (λ v. v.1) w) h)
numbered-any p k (x ∷ xs) z (inr m) h = ap (λ b. p x || b) (numbered-any p (k + 1) xs z m h) ∙ true-or-right (p x)

pub autos-stand : (n : Net) → is_net n ≡ true → list_all (auto_stands n) n.autos ≡ true
autos-stand n h = and-right _ _ (and-left _ _ (and-left _ _ (and-left _ _ (and-left _ _ h))))

module _ (n : Net) (e : ℕ) where
  -- where no number is that of the one that sends or receives
  none-between : (i j k : ℕ) (ds : List NetAuto) → k + length ds ≤ i → i < j → map (options e) (map (automaton_in n) ds) ≡ map (options_between e i j) (enumerate_from k (map (automaton_in n) ds))
  none-between i j k [] h g = refl
  none-between i j k (a ∷ ds) h g =
      let p : nat_eq k i ≡ false = grind (arith, nat_tests) in
      let q : nat_eq k j ≡ false = grind (arith, nat_tests) in
      rw p (rw q (ap (λ xs. options e (automaton_in n a) ∷ xs) (none-between i j (k + 1) ds (omega (arith, h)) g)))

  module _ (net : is_net n ≡ true) (ch : Choice) where
    plain : is_channel (system_of_net n) e ≡ false → Member ch (plain_choices (system_of_net n) e) → Picked n e ch
    plain c = by (list_any (is_party e) (map (automaton_in n) n.autos)) refl
      where
        by : (b : Bool) → list_any (is_party e) (map (automaton_in n) n.autos) ≡ b → Member ch (if b then product_of (map (options e) (map (automaton_in n) n.autos)) else []) → Picked n e ch
        by true q m =
            let i : ℕ = length n.autos in
            record {
              from = i;
              to = i + 1;
              apart = grind (arith, nat_tests);
              party = q;
              each = parts n e i (i + 1) 0 n.autos ch (autos-stand n net) (subst (λ xss. Member ch (product_of xss)) (none-between i (i + 1) 0 n.autos (omega arith) (omega arith)) m);
              ends = inr (c, omega arith, omega arith);
            }
        by false q m = absurd m

    channel : is_channel (system_of_net n) e ≡ true → Member ch (channel_choices (system_of_net n) e) → Picked n e ch
    channel c m =
        let m1 = member-flat_map (λ (i : Numbered). flat_map (λ (j : Numbered). if nat_eq i.0 j.0 then [] else product_of (map (options_between e i.0 j.0) (numbered (system_of_net n)))) (having receiving (system_of_net n) e)) ch (having sending (system_of_net n) e) m in
        let m2 = member-flat_map (λ (j : Numbered). if nat_eq m1.0.0 j.0 then [] else product_of (map (options_between e m1.0.0 j.0) (numbered (system_of_net n)))) ch (having receiving (system_of_net n) e) m1.2 in
        by m1.0 m2.0 m1.1 m2.1 (nat_eq m1.0.0 m2.0.0) refl m2.2
      where
        long : (z : Numbered) → Member z (numbered (system_of_net n)) → z.0 < length n.autos
        long z w = let g = map-length (automaton_in n) n.autos in omega (arith, numbered-below 0 (map (automaton_in n) n.autos) z w, g)

        by : (i j : Numbered) → Member i (having sending (system_of_net n) e) → Member j (having receiving (system_of_net n) e) → (b : Bool) → nat_eq i.0 j.0 ≡ b
            → Member ch (if b then [] else product_of (map (options_between e i.0 j.0) (numbered (system_of_net n)))) → Picked n e ch
        by i j p q true r w = absurd w
        by i j p q false r w = record {
          from = i.0;
          to = j.0;
          apart = r;
          party =
              numbered-any (is_party e) 0 (map (automaton_in n) n.autos) i (member-filter (λ (a : Numbered). has_edge sending e a.1) i (numbered (system_of_net n)) p)
              (ap (λ b. i.1.synchronises e || b || has_edge receiving e i.1) (filter-passes (λ (a : Numbered). has_edge sending e a.1) (numbered (system_of_net n)) i p) ∙ ap (λ b. b || has_edge receiving e i.1) (true-or-right (i.1.synchronises e)));
          each = parts n e i.0 j.0 0 n.autos ch (autos-stand n net) w;
          ends = inl (
            c,
            long i (member-filter (λ (a : Numbered). has_edge sending e a.1) i (numbered (system_of_net n)) p),
            long j (member-filter (λ (a : Numbered). has_edge receiving e a.1) j (numbered (system_of_net n)) q),
          );
        }

    pub picked : Member ch (choices (system_of_net n) e) → Picked n e ch
    picked = by (is_channel (system_of_net n) e) refl
      where
        by : (b : Bool) → is_channel (system_of_net n) e ≡ b → Member ch (if b then channel_choices (system_of_net n) e else plain_choices (system_of_net n) e) → Picked n e ch
        by true c m = channel c m
        by false c m = plain c m
