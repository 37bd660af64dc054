-- What a guarded net has so that its program can be made of parts.
use Rattle.std.proofs.Common.{◌≡◌, ℕ, zero, suc, ◌+◌, ◌≤◌, true, false, List, [], ◌∷◌, map, length, Some, None, Result, Ok, Err, IfOk, slice_get, refl, subst, arith}
use Rattle.std.specs.List.{AllByRecursion, list_all}
use Rattle.std.proofs.lemmas.List.{length-append}
use Rattle.cif_net_model.specs.Listing.{NetChoice}
use Rattle.cif_net_model.specs.Meaning.{system_of_net}
use Rattle.cif_net_model.specs.Inline.{defined_by}
use Rattle.cif_net_model.specs.Kinds.{kind_of}
use Rattle.cif_net_model.specs.Net.{NetAlg, Net}
use Rattle.cif_net.specs.View.{choice_tree, net_tree}
use Rattle.cif_net.specs.declared.guarded.Guarded.{Guarded}
use Rattle.cif_net_laws.proofs.Steps.{guarded-steps}
use Rattle.plc_frame.specs.Given.{own_variables}
use Rattle.plc_frame.specs.Small.{are_small}
use Rattle.plc_frame.proofs.Choosing.{all-of}
use Rattle.plc_expr.proofs.There.{there}
use Rattle.plc_event_model.specs.Definitions.{IsDefinition}
use Rattle.plc_event_model.specs.ProgramParts.{HasParts, net_parts, shown_first, shown_part}
use Rattle.plc_event_model.proofs.Defined.{all-defined}
use Rattle.plc_gen.specs.Named.{IsNamedAlg, IsNamedChoice}
use Rattle.plc_gen.specs.Order.{Ascending}
use Rattle.plc_gen.proofs.Sorted.{listed-ascend}
use Rattle.plc_gen.proofs.Stand.{choice-named}

pub if-ok : {A E : Type 0} (r : Result A E) (P : Type 0) → P → IfOk r (λ x. P)
if-ok (Ok x) P p = p
if-ok (Err e) P p = tt

-- ---- a guarded net

module _ (g : Guarded) where
  abbrev n : Net
  n = net_tree g.plain.net

  abbrev cs : List NetChoice
  cs = map choice_tree g.choices

  pub in-order : Ascending 0 cs
  in-order = listed-ascend n (system_of_net n) cs (guarded-steps g).each

  pub all-there : AllByRecursion (IsNamedChoice n) cs
  all-there = all-of (IsNamedChoice n) cs (λ k c at. choice-named n g.plain.plain c ((guarded-steps g).stands k c at))

  each-there : (as' : List NetAlg) → AllByRecursion (IsDefinition n) as' → AllByRecursion (IsNamedAlg n) as'
  each-there [] h = tt
  each-there (a ∷ as') h =
      (there n None (kind_of a.type_of a.literals) (defined_by a) h.0.fit h.0.names, each-there as' h.1)

  pub algs-there : AllByRecursion (IsNamedAlg n) n.algs
  algs-there = each-there n.algs (all-defined n g.plain.plain)

  pub has-parts : (U C last : ℕ) → are_small n.vars ≡ true → are_small n.inputs ≡ true → U ≤ 10000 → C ≤ 10000
      → last ≡ shown_first n cs + length (shown_part n (shown_first n cs)).own → last ≤ 2147483648 → HasParts n cs U C
  has-parts U C last vars inputs unc con last_is most = record {
    plain = g.plain.plain;
    guarded = guarded-steps g;
    small_variables = vars;
    small_inputs = inputs;
    few_own = let both = length-append (own_variables (net_parts n cs)) (shown_part n (shown_first n cs)).own in omega (arith, last_is, most, both);
    turns = omega (arith, unc, con);
    unc = omega (arith, unc);
    con = omega (arith, con);
  }
