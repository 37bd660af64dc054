-- What the names of a component that are used as events and as variables denote, by their numbers.
use Rattle.std.proofs.Common.{◌≡◌, ◌<◌, length, Some, refl, sym, ◌∙◌, ap, arith}
use Rattle.std.specs.Prelude.{slice_get, unwrap_or}
use Rattle.std.proofs.lemmas.Cmp.{nat_list_eq_equiv}
use Rattle.cif_ast.specs.declared.names.Name.{Name}
use Rattle.cif_system.specs.Words.{Member}
use Rattle.cif_source.specs.Source.{disc_decl, Source}
use Rattle.cif_source.specs.Components.{Component}
use Rattle.cif_source.specs.Lookup.{denotes}
use Rattle.cif_source.specs.Objects.{components_of, events, variables, is_variable, number_in}
use Rattle.cif_source.specs.Step.{event_at, variable_at}
use Rattle.cif_source.specs.Uses.{Use, uses, event_asked, variable_asked}
use Rattle.cif_inst_model.specs.Flat.{event_number, variable_number}
use Rattle.cif_inst_bodies.specs.Denoted.{DenotesVariable}
use Rattle.cif_inst_bodies.proofs.NumberLaws.{stands-at-number}
use Rattle.cif_inst_bodies.proofs.DenotedLaws.{event-names, variable-names}
use Rattle.cif_inst_laws.proofs.Sound.{IsSound, known, single, sorts, matched, few, root}

abbrev pub event-use : Name → Use
event-use nm = record { name = nm; asks = event_asked }

abbrev pub variable-use : Name → Use
variable-use nm = record { name = nm; asks = variable_asked }

module _ (t : Source) (h : IsSound t) where
  -- ---- events

  -- a name of an event, with the number of the event
  pub record Numbered (c : Component) (nm : Name) : Type 0 where
    pub number : event_at (denotes c nm) ≡ Some (event_number c nm)
    pub below : event_number c nm < length (events t)

  pub numbered : (c : Component) → Member c (components_of t) → (nm : Name) → Member (event-use nm) (uses c) → Numbered c nm
  numbered c m nm k =
      let e = event-names t (few t h) (known t h) (sorts t h) (matched t h) c m nm k in
      let is : event_number c nm ≡ e.event = ap (λ o. unwrap_or o 0) e.is_event in
      record { number = e.is_event ∙ ap Some (sym is); below = omega (arith, is, e.is_below) }

  -- ---- variables

  pub variable-denoted : (c : Component) → Member c (components_of t) → (nm : Name) → Member (variable-use nm) (uses c) → DenotesVariable t c nm
  variable-denoted c m nm k = variable-names t (few t h) (known t h) (sorts t h) c m nm k

  pub variable-named : (c : Component) (nm : Name) → DenotesVariable t c nm → variable_at (denotes c nm) ≡ Some (variable_number c nm)
  variable-named c nm v = v.is_variable ∙ ap (λ o. Some (unwrap_or o 0)) (sym v.is_variable)

  -- what stands at the number of a name that denotes a variable
  pub variable-there : (c : Component) (nm : Name) (v : DenotesVariable t c nm) → slice_get (variables t) (variable_number c nm) ≡ Some (v.place, disc_decl v.type_of v.ident v.first)
  variable-there c nm v =
      ap (λ o. slice_get (variables t) (unwrap_or o 0)) (ap variable_at v.is_denoted ∙ ap (λ s. Some (number_in (variables s) v.place v.ident.text)) (root t h v.place v.is_listed))
      ∙ stands-at-number t (few t h) (single t h) is_variable v.place (disc_decl v.type_of v.ident v.first) v.is_listed v.is_declared refl v.ident.text (nat_list_eq_equiv.refl v.ident.text)
