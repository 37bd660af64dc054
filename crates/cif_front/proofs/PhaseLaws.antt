-- What each phase keeps of a source, and why its refusal is due.
use Rattle.std.proofs.Common.{◌≡◌, ℕ, ◌≤◌, ◌<◌, refl, ◌∙◌, ap, subst, arith}
use Rattle.cif_system.specs.Words.{Exceeds}
use Rattle.cif_system.specs.Choices.{all_choices}
use Rattle.cif_net_model.specs.Net.{Net}
use Rattle.cif_net_model.specs.Counts.{most_choices}
use Rattle.cif_net_model.specs.Inline.{Unfolds}
use Rattle.cif_net_model.specs.Meaning.{system_of_net}
use Rattle.cif_net_model.specs.Rules.{AlgCycle, ZeroDivisor, TooWide, InvariantReadsInput, InvariantFalse, TooLarge}
use Rattle.cif_source.specs.Source.{Source}
use Rattle.cif_scope.specs.Scopes.{AreScopesOf, KeepsScoping}
use Rattle.cif_scope.specs.declared.error.ScopeErr.{ScopeErr}
use Rattle.cif_scope.specs.declared.error.ScopeErr.TheVariants as scope
use Rattle.cif_scope.specs.declared.scopes.Scopes.{Scopes}
use Rattle.cif_resolve.specs.Faults.{ScopeDue}
use Rattle.cif_types.specs.Kinds as types
use Rattle.cif_types.specs.declared.error.TypeErr.{TypeErr}
use Rattle.cif_types.specs.declared.error.TypeErr.TheVariants as type
use Rattle.cif_inst.specs.Net as insts
use Rattle.cif_inst.specs.declared.error.InstErr.{InstErr}
use Rattle.cif_inst.specs.declared.error.InstErr.TheVariants as inst
use Rattle.cif_alg.specs.Keeps as algs
use Rattle.cif_alg.specs.declared.error.AlgErr.{AlgErr}
use Rattle.cif_alg.specs.declared.error.AlgErr.TheVariants as alg
use Rattle.cif_lin.specs.declared.error.LinErr.{LinErr}
use Rattle.cif_lin.specs.declared.error.LinErr.TheVariants as lin
use Rattle.cif_inst_model.specs.Flat.{net_of_source}
use Rattle.cif_inst_model.specs.Represents.{Represents}
use Rattle.cif_inst_model.specs.WellFormed.{Refusal, unknown, duplicate, wrong_kind, definition_cycle, mismatch, not_constant, initials, not_own, assigned_twice, equations, alphabet_lacks, role_mixed, too_many_objects, constant_range, alg_cycle, zero_divisor, too_wide, invariant_reads_input, invariant_false, too_large, too_many_choices, Broken, Phase, phase, order, scope as scopes, kinds, instances, algebraic, choices, KeepsBefore}
use Rattle.cif_front.specs.Kept.{KeepsSource}
use Rattle.cif_front.specs.Loads.{Stands}
use Rattle.cif_front.specs.Dues.{IsDueOf, scope_refusal, type_refusal, inst_refusal, alg_refusal, lin_refusal}

module _ (t : Source) where
  -- in the first k phases, where these keep their rules
  kept-in : (k : ℕ) → (0 < k → KeepsScoping t) → (1 < k → types.KeepsKinds t) → (2 < k → insts.KeepsInstances t) → (3 < k → algs.KeepsAlgebraic (net_of_source t))
      → (4 < k → (count : ℕ) → Broken t (too_many_choices count) → ⊥) → (r : Refusal) → order (phase r) < k → Broken t r → ⊥
  kept-in k names types objects plain few (unknown at) h b = (names h).known at b
  kept-in k names types objects plain few (duplicate at first) h b = (names h).single at first b
  kept-in k names types objects plain few (wrong_kind at) h b = (names h).fitting at b
  kept-in k names types objects plain few (definition_cycle at) h b = (names h).acyclic at b
  kept-in k names types objects plain few (mismatch at) h b = (types h).mismatch at b
  kept-in k names types objects plain few (not_constant at) h b = (types h).constant at b
  kept-in k names types objects plain few (initials at count) h b = (types h).started at count b
  kept-in k names types objects plain few (not_own at) h b = (types h).own at b
  kept-in k names types objects plain few (assigned_twice at) h b = (types h).once at b
  kept-in k names types objects plain few (equations at count) h b = (types h).single at count b
  kept-in k names types objects plain few (alphabet_lacks at) h b = (objects h).alphabets at b
  kept-in k names types objects plain few (role_mixed at) h b = (objects h).roles at b
  kept-in k names types objects plain few (too_many_objects count) h b = (objects h).few count b
  kept-in k names types objects plain few (constant_range at) h b = (objects h).ranges at b
  kept-in k names types objects plain few (alg_cycle alg) h b = (plain h).acyclic alg b
  kept-in k names types objects plain few (zero_divisor at) h b = (plain h).divides at b
  kept-in k names types objects plain few (too_wide at) h b = (plain h).narrow at b
  kept-in k names types objects plain few (invariant_reads_input at) h b = (plain h).free at b
  kept-in k names types objects plain few (invariant_false at) h b = (plain h).holds at b
  kept-in k names types objects plain few (too_large nodes depth) h b = (plain h).small nodes depth b
  kept-in k names types objects plain few (too_many_choices count) h b = few h count b

  before_names : KeepsBefore t scopes
  before_names r h b = absurd (omega (arith, h))

  before_kinds : KeepsScoping t → KeepsBefore t kinds
  before_kinds names r = kept-in 1 (λ h. names) (λ h. absurd (omega (arith, h))) (λ h. absurd (omega (arith, h))) (λ h. absurd (omega (arith, h))) (λ h. absurd (omega (arith, h))) r

  before_instances : KeepsScoping t → types.KeepsKinds t → KeepsBefore t instances
  before_instances names types r = kept-in 2 (λ h. names) (λ h. types) (λ h. absurd (omega (arith, h))) (λ h. absurd (omega (arith, h))) (λ h. absurd (omega (arith, h))) r

  pub source_kept : (s : Scopes) → AreScopesOf t s → types.KeepsKinds t → insts.KeepsInstances t → KeepsSource t
  source_kept s names types objects = record { names = names.rules; kinds = types; objects = objects }

  before_algebraic : KeepsSource t → KeepsBefore t algebraic
  before_algebraic kept r = kept-in 3 (λ h. kept.names) (λ h. kept.kinds) (λ h. kept.objects) (λ h. absurd (omega (arith, h))) (λ h. absurd (omega (arith, h))) r

  -- ---- names

  pub scope_due : (e : ScopeErr) → ScopeDue t e → IsDueOf t (scope_refusal e)
  scope_due (scope.Unknown at) h = record { broken = h; first_phase = before_names }
  scope_due (scope.Duplicate at first) h = record { broken = h; first_phase = before_names }
  scope_due (scope.WrongKind at) h = record { broken = h; first_phase = before_names }
  scope_due (scope.DefinitionCycle at) h = record { broken = h; first_phase = before_names }
  scope_due scope.Memory h = tt

  -- ---- kinds

  pub type_due : (s : Scopes) → AreScopesOf t s → (e : TypeErr) → types.due t e → IsDueOf t (type_refusal e)
  type_due s names (type.Mismatch at) h = record { broken = h; first_phase = before_kinds names.rules }
  type_due s names (type.NotConstant at) h = record { broken = h; first_phase = before_kinds names.rules }
  type_due s names (type.Initials at count) h = record { broken = h; first_phase = before_kinds names.rules }
  type_due s names (type.NotOwn at) h = record { broken = h; first_phase = before_kinds names.rules }
  type_due s names (type.AssignedTwice at) h = record { broken = h; first_phase = before_kinds names.rules }
  type_due s names (type.Equations at count) h = record { broken = h; first_phase = before_kinds names.rules }
  type_due s names type.Memory h = tt

  -- ---- instances

  pub inst_due : (s : Scopes) → AreScopesOf t s → types.KeepsKinds t → (e : InstErr) → insts.due t e → IsDueOf t (inst_refusal e)
  inst_due s names typed (inst.AlphabetLacks at) h = record { broken = h; first_phase = before_instances names.rules typed }
  inst_due s names typed (inst.RoleMixed at) h = record { broken = h; first_phase = before_instances names.rules typed }
  inst_due s names typed (inst.TooManyObjects count) h = record { broken = h; first_phase = before_instances names.rules typed }
  inst_due s names typed (inst.ConstantRange at) h = record { broken = h; first_phase = before_instances names.rules typed }
  inst_due s names typed (inst.TooLarge nodes depth) h = record { broken = h.1; first_phase = before_algebraic (source_kept s names typed h.0) }
  inst_due s names typed inst.Memory h = tt

  -- ---- the net

  before_choices : KeepsSource t → algs.KeepsAlgebraic (net_of_source t) → KeepsBefore t choices
  before_choices kept plain r = kept-in 4 (λ h. kept.names) (λ h. kept.kinds) (λ h. kept.objects) (λ h. plain) (λ h. absurd (omega (arith, h))) r

  last : (r : Refusal) → order (phase r) < 5
  last r = below (phase r)
    where
      below : (p : Phase) → order p < 5
      below scopes = omega arith
      below kinds = omega arith
      below instances = omega arith
      below algebraic = omega arith
      below choices = omega arith

  module _ (n : Net) (r : Represents n t) where
    pub plain_kept : algs.KeepsAlgebraic n → algs.KeepsAlgebraic (net_of_source t)
    plain_kept h = subst algs.KeepsAlgebraic r.translated h

    pub alg_due : KeepsSource t → (e : AlgErr) → algs.due n e → IsDueOf t (alg_refusal e)
    alg_due kept (alg.Cycle number) h = record { broken = subst (λ m. AlgCycle m number) r.translated h; first_phase = before_algebraic kept }
    alg_due kept (alg.ZeroDivisor at) h = record { broken = subst (λ m. ZeroDivisor m at) r.translated h; first_phase = before_algebraic kept }
    alg_due kept (alg.TooWide at) h = record { broken = subst (λ m. TooWide m at) r.translated h; first_phase = before_algebraic kept }
    alg_due kept (alg.InvariantReadsInput at) h = record { broken = subst (λ m. InvariantReadsInput m at) r.translated h; first_phase = before_algebraic kept }
    alg_due kept (alg.InvariantFalse at) h = record { broken = subst (λ m. InvariantFalse m at) r.translated h; first_phase = before_algebraic kept }
    alg_due kept (alg.TooLarge nodes depth) h = record { broken = subst (λ m. TooLarge m nodes depth) r.translated h; first_phase = before_algebraic kept }
    alg_due kept alg.Memory h = tt

    -- what is made of it stands for the source
    pub unfolded_stands : (p : Net) → Unfolds n p → system_of_net p ≡ system_of_net n → Stands p t
    unfolded_stands p u same = record { unfolds = subst (λ m. Unfolds m p) r.translated u; meaning = same ∙ r.meaning }

  -- ---- choices

  module _ (p : Net) (s : Stands p t) where
    few-kept : all_choices (system_of_net p) ≤ most_choices → (count : ℕ) → Broken t (too_many_choices count) → ⊥
    few-kept few count h = let over = h.0 in let few_of = subst (λ y. all_choices y ≤ most_choices) s.meaning few in absurd (omega (arith, over, few_of))

    pub all_kept : KeepsSource t → algs.KeepsAlgebraic (net_of_source t) → all_choices (system_of_net p) ≤ most_choices → (q : Refusal) → Broken t q → ⊥
    all_kept kept plain few q b = kept-in 5 (λ h. kept.names) (λ h. kept.kinds) (λ h. kept.objects) (λ h. plain) (λ h. few-kept few) q (last q) b

    pub lin_due : KeepsSource t → algs.KeepsAlgebraic (net_of_source t) → (e : LinErr) → ((count : ℕ) → e ≡ lin.TooManyChoices count → Exceeds most_choices (all_choices (system_of_net p)) count)
        → IsDueOf t (lin_refusal e)
    lin_due kept plain (lin.TooManyChoices count) h = record {
      broken = subst (λ y. Exceeds most_choices (all_choices y) count) s.meaning (h count refl);
      first_phase = before_choices kept plain;
    }
    lin_due kept plain lin.Memory h = tt
