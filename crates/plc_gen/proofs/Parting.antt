-- The part of an event, from its outline, the names, and its statements.
use Rattle.std.proofs.Common.{◌≡◌, ℕ, ◌+◌, true, List, length, flat_map, refl, sym, ap, ap₂, subst, ◌∙◌}
use Rattle.std.specs.List.{AllByRecursion}
use Rattle.grammar.specs.Pieces.{Text}
use Rattle.cif_net_model.specs.Exprs.{targets}
use Rattle.cif_net_model.specs.Facts.{has}
use Rattle.cif_net_model.specs.Listing.{NetChoice}
use Rattle.cif_net_model.specs.Net.{Net}
use Rattle.cif_net_model.specs.Reads.{a_var}
use Rattle.std.specs.Prelude.{None, ◌||◌, Bool, false, [], ◌∷◌, ◌<◌, codes}
use Rattle.st_ast.specs.Tree.{Stms}
use Rattle.st_ast.specs.declared.tree.StVar.{StVar}
use Rattle.plc_model.specs.declared.letter.Letter.TheVariants as letter
use Rattle.plc_model.specs.Names.{name_for}
use Rattle.plc_expr.specs.Texts.{Naming}
use Rattle.plc_expr.specs.Written.{naming_of}
use Rattle.plc_expr.specs.declared.names.Names.{Names}
use Rattle.plc_frame.specs.Events.{done_face, event_text, own_name}
use Rattle.plc_event_model.specs.Events.{all_written}
use Rattle.plc_event_model.specs.Own.{choice_types, event_vars, new_names, range_face, tests_range}
use Rattle.plc_event_model.specs.Parts.{event_first, event_naming, needs_done}
use Rattle.plc_event_model.specs.Sends.{event_type}
use Rattle.plc_event_model.specs.Writes.{NewNames}
use Rattle.plc_event_model.proofs.Targets.{has-append, once-all}
use Rattle.plc_event_model.specs.ProgramParts.{part_for}
use Rattle.plc_event.specs.Names.{AreNames}
use Rattle.plc_gen.specs.Named.{IsNamedChoice}
use Rattle.plc_gen.specs.Outlines.{IsOutline, NamesNew, declared_from, done_if, outlined_faces, outlined_ifs, outlined_new, outlined_sent}
use Rattle.plc_event.specs.Writers.{new_names_of}
use Rattle.plc_gen.specs.declared.faces.Outline.{Outline}
use Rattle.plc_event.specs.declared.writing.NewTexts.{NewTexts}
use Rattle.plc_gen.proofs.Agreeing.{all-same}
use Rattle.plc_gen.proofs.Namings.{names-alike, own-alike}

-- what the choices assign is there
targets-in : (n : Net) (cs : List NetChoice) → AllByRecursion (IsNamedChoice n) cs → (v : ℕ) → has (flat_map (λ (c : NetChoice). targets c.writes) cs) v ≡ true → v < length n.vars
targets-in n [] all v h = absurd cc
targets-in n (c ∷ cs) all v h = go (has (targets c.writes) v) refl (targets-in n cs all.1 v)
  where
    other : (a b : Bool) → a ≡ false → (a || b) ≡ true → b ≡ true
    other true b e h = absurd cc
    other false b e h = h

    go : (b : Bool) → has (targets c.writes) v ≡ b → (has (flat_map (λ (d : NetChoice). targets d.writes) cs) v ≡ true → v < length n.vars) → v < length n.vars
    go true is rest = all.0.targets_there v is
    go false is rest =
        rest (other (has (targets c.writes) v) (has (flat_map (λ (d : NetChoice). targets d.writes) cs) v) is (sym (has-append (targets c.writes) (flat_map (λ (d : NetChoice). targets d.writes) cs) v) ∙ h))

module _ (n : Net) (cs : List NetChoice) (first : ℕ) where
  abbrev expected : Outline
  expected = record { has_mark = needs_done n cs; tests_range = tests_range n cs; vars = event_vars cs; sent = event_type n cs; types = flat_map (choice_types n) cs }

  outline-is : (x : Outline) → IsOutline n cs x → x ≡ expected
  outline-is x is = λ i. record { has_mark = is.has_mark i; tests_range = is.tests i; vars = is.vars i; sent = is.sent i; types = is.types i }

  abbrev naming : Naming
  naming = event_naming n cs first

  abbrev new_ones : NewNames
  new_ones = new_names n cs (event_first n cs first)

  module _ (x : Outline) (names : Names) (new : NewTexts) (is : IsOutline n cs x) (are : AreNames n names) (all : AllByRecursion (IsNamedChoice n) cs)
      (named : NamesNew n (outlined_new first x) x.vars new) (mark : new.in_range ≡ name_for letter.T (first + length (done_if x.has_mark)) range_face.path) (received : names.received ≡ name_for letter.T (outlined_sent first x) (codes "sent")) where
    received-is : names.received ≡ naming.received
    received-is = received ∙ ap (λ (o : Outline). name_for letter.T (outlined_sent first o) (codes "sent")) (outline-is x is)

    mark-is : (new_names_of new).in_range ≡ new_ones.in_range
    mark-is = mark ∙ ap (λ (o : Outline). name_for letter.T (first + length (done_if o.has_mark)) range_face.path) (outline-is x is)

    named-is : NamesNew n (outlined_new first expected) (event_vars cs) new
    named-is = subst (λ (o : Outline). NamesNew n (outlined_new first o) o.vars new) (outline-is x is) named

    new-alike : (v : ℕ) → has (flat_map (λ (c : NetChoice). targets c.writes) cs) v ≡ true
        → ((new_names_of new).next v ≡ new_ones.next v) × ((naming_of names).variable v ≡ naming.variable v)
    new-alike v h = (
      named-is v (once-all (flat_map (λ (c : NetChoice). targets c.writes) cs) v ∙ h),
      names-alike n names are naming.received None (λ e. received-is) (a_var v) (targets-in n cs all v h),
    )

    body-is : (ifs : ℕ) (done : Text) (body : Stms) → ifs ≡ outlined_ifs first x → done ≡ own_name (first, done_face)
        → body ≡ event_text done (all_written n (naming_of names) (new_names_of new) ifs cs) → body ≡ (part_for n first cs).body
    body-is ifs done body ifs_is done_is is_body =
        is_body
        ∙ ap₂ (λ d k. event_text d (all_written n (naming_of names) (new_names_of new) k cs)) done_is (ifs_is ∙ ap (outlined_ifs first) (outline-is x is))
        ∙ ap (event_text (own_name (first, done_face)))
        (all-same n (naming_of names) naming (new_names_of new) new_ones (λ r q there. names-alike n names are naming.received r (λ e. received-is) q there) received-is (own-alike n names are naming.received) mark-is (outlined_ifs first expected) cs all new-alike)

    pub part-is : (ifs : ℕ) (done : Text) (own : List StVar) (body : Stms) → ifs ≡ outlined_ifs first x → done ≡ own_name (first, done_face)
        → own ≡ declared_from first (outlined_faces n x) → body ≡ event_text done (all_written n (naming_of names) (new_names_of new) ifs cs)
        → record { own = own; body = body } ≡ part_for n first cs
    part-is ifs done own body ifs_is done_is own_is is_body =
        let a : own ≡ (part_for n first cs).own = own_is ∙ ap (λ (o : Outline). declared_from first (outlined_faces n o)) (outline-is x is) in
        let b : body ≡ (part_for n first cs).body = body-is ifs done body ifs_is done_is is_body in
        λ i. record { own = a i; body = b i }
