-- Sources that break rules on algebraic variables, intervals and state invariants, with the refusals that are due, and
-- sources in the profile.
use Rattle.std.proofs.Common.{◌≡◌, ℕ, zero, suc, ◌≤◌, ◌<◌, lit≤, Bool, true, false, [], ◌∷◌, length, inl, inr, refl, arith}
use Rattle.std.specs.Prelude.{filter, IsTrue}
use Rattle.cif_system.specs.System.{plain}
use Rattle.cif_system.specs.Step.{is_of}
use Rattle.cif_system.specs.Words.{one, more}
use Rattle.cif_net_model.specs.Rules.{is_plain}
use Rattle.cif_net_model.proofs.CycleLaws.{acyclic-by_number}
use Rattle.cif_source.specs.Step.{system_of}
use Rattle.cif_source.proofs.Rows.{two_classes}
use Rattle.cif_source.proofs.Cell.{cell_tree}
use Rattle.cif_inst_model.specs.Flat.{net_of_source}
use Rattle.cif_inst_model.specs.NetRules.{UnclassedDue}
use Rattle.cif_inst_model.specs.WellFormed.{alg_cycle, zero_divisor, too_wide, invariant_reads_input, invariant_false, Due, IsWellFormed, IsInProfile}
use Rattle.cif_inst_model.proofs.KeptLaws.{kept-before}
use Rattle.cif_inst_model.proofs.ProfileLaws.{in-profile}
use Rattle.cif_inst_model.proofs.Trees.{division, safe_division, circular, never, cube, reading, classless}

one-role : (b : Bool) → length (filter (λ b. b) (b ∷ false ∷ false ∷ [])) ≤ 1
one-role true = lit≤ tt
one-role false = lit≤ tt

-- a divisor that may be 0
division_divides_by_0 : Due division (zero_divisor 98)
division_divides_by_0 = record {
  broken = (acyclic-by_number (net_of_source division) refl, _, _, inr (inl refl), inl refl, refl, refl);
  first_phase = kept-before division (record {
    known = refl;
    single = refl;
    used = refl;
    straight = refl;
    matched = refl;
    fixed = refl;
    started = refl;
    own = (tt, ((λ h. h refl, tt), tt));
    assigned = refl;
    defined = refl;
    alphabets = refl;
    roles = (λ e. one-role _, tt);
    few = lit≤ tt;
    ranges = refl;
  });
}

division_is_not_well_formed : IsWellFormed division → ⊥
division_is_not_well_formed h = h (zero_divisor 98) (omega arith) division_divides_by_0.broken

safe_division_is_plain : is_plain (net_of_source safe_division) ≡ true
safe_division_is_plain = refl

-- p and q need one another
p_needs_itself : Due circular (alg_cycle 0)
p_needs_itself = record {
  broken = (more (_, refl, inl refl) (one (_, refl, inl refl)), λ k h c. absurd (omega (arith, h)));
  first_phase = kept-before circular (record { known = refl; single = refl; used = refl; straight = refl; matched = refl; fixed = refl; started = refl; own = (tt, tt); assigned = refl; defined = refl; alphabets = refl; roles = tt; few = lit≤ tt; ranges = refl });
}

-- a state invariant that does not hold at first
never_holds : Due never (invariant_false 10)
never_holds = record {
  broken = (acyclic-by_number (net_of_source never) refl, _, inl refl, refl, refl, refl);
  first_phase = kept-before never (record { known = refl; single = refl; used = refl; straight = refl; matched = refl; fixed = refl; started = refl; own = (tt, tt); assigned = refl; defined = refl; alphabets = refl; roles = tt; few = lit≤ tt; ranges = refl });
}

-- three factors of 32 bits leave 64 bits at the last
cube_is_too_wide : Due cube (too_wide 25)
cube_is_too_wide = record {
  broken = (acyclic-by_number (net_of_source cube) refl, _, _, inl refl, inr (inr (inr (inl refl))), refl, refl);
  first_phase = kept-before cube (record { known = refl; single = refl; used = refl; straight = refl; matched = refl; fixed = refl; started = refl; own = (tt, tt); assigned = refl; defined = refl; alphabets = refl; roles = tt; few = lit≤ tt; ranges = refl });
}

-- a state invariant that depends on an input
i_is_an_input : Due reading (invariant_reads_input 24)
i_is_an_input = record {
  broken = (acyclic-by_number (net_of_source reading) refl, _, inl refl, refl, refl);
  first_phase = kept-before reading (record { known = refl; single = refl; used = refl; straight = refl; matched = refl; fixed = refl; started = refl; own = (tt, tt); assigned = refl; defined = refl; alphabets = refl; roles = tt; few = lit≤ tt; ranges = refl });
}

-- e and f have no class, and e is the lower
e_has_no_class : UnclassedDue classless 1
e_has_no_class = (refl, lower)
  where
    lower : (k : ℕ) → k < 1 → IsTrue (is_of (system_of classless) plain k) → ⊥
    lower zero h c = cc
    lower (suc k) h c = absurd (omega (arith, h))

-- two classes
two_classes_is_in_the_profile : IsInProfile two_classes
two_classes_is_in_the_profile = in-profile two_classes (record {
  kept = record { known = refl; single = refl; used = refl; straight = refl; matched = refl; fixed = refl; started = refl; own = (tt, (tt, tt)); assigned = refl; defined = refl; alphabets = refl; roles = (λ e. one-role _, tt); few = lit≤ tt; ranges = refl };
  acyclic = refl;
  divides = refl;
  narrow = refl;
  invariants = refl;
  small = refl;
  choices = lit≤ tt;
  classes = refl;
})

-- a feed cell
the_cell_is_in_the_profile : IsInProfile cell_tree
the_cell_is_in_the_profile = in-profile cell_tree (record {
  kept = record { known = refl; single = refl; used = refl; straight = refl; matched = refl; fixed = refl; started = refl; own = (tt, (tt, (tt, ((λ h. h refl, tt), tt)))); assigned = refl; defined = refl; alphabets = refl; roles = (λ e. one-role _, (λ e. one-role _, (λ e. one-role _, (λ e. one-role _, (λ e. one-role _, (λ e. one-role _, tt)))))); few = lit≤ tt; ranges = refl };
  acyclic = refl;
  divides = refl;
  narrow = refl;
  invariants = refl;
  small = refl;
  choices = lit≤ tt;
  classes = refl;
})
