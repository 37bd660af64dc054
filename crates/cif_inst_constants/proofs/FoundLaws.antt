-- Where the names of a component lead, by numbers.
use Rattle.std.proofs.Common.{◌≡◌, ℕ, ◌≤◌, true, length, sym, ap, subst, ◌∙◌}
use Rattle.std.specs.Prelude.{slice_get}
use Rattle.cif_ast.specs.declared.names.Name.{Name}
use Rattle.cif_source.specs.Source.{Source}
use Rattle.cif_source.specs.Components.{Component, as_written, scope_of, Entry}
use Rattle.cif_source.specs.Lookup.{ScopeEntry, Reached, reached, missing, blocked, found}
use Rattle.cif_source.specs.Objects.{components_of, most_objects}
use Rattle.cif_source.proofs.ReachLaws.{found-listed}
use Rattle.cif_system.specs.Words.{Member}
use Rattle.cif_scope.specs.declared.looked.Looked.{Looked}
use Rattle.cif_scope.specs.declared.looked.Looked.TheVariants.{At, Missing, Blocked}
use Rattle.cif_scope.specs.declared.scopes.Scopes.{Scopes}
use Rattle.cif_scope.specs.Tables.{IsBody}
use Rattle.cif_scope.specs.Looks.{look}
use Rattle.cif_scope.specs.Scopes.{AreNumbered, IsEntry}
use Rattle.cif_scope.proofs.BodyLaws.{scope-written}
use Rattle.cif_scope.proofs.LookLaws.{Agrees}
use Rattle.cif_scope.proofs.FindLaws.{found-is}
use Rattle.cif_inst_bodies.specs.Alike.{AreWrittenAlike, AreAlike}
use Rattle.cif_inst_bodies.specs.Entries.{IsOf}
use Rattle.cif_inst_bodies.proofs.Alike.{twice, names-alike}
use Rattle.cif_inst_bodies.proofs.Bodies.{components-written, found-good}

entry-alike : (d e : Component) (x y : Entry) (j : ℕ) → AreWrittenAlike d e → x ≡ y → IsEntry e y j → IsEntry d x j
entry-alike d e x y j a same h =
    subst (λ z. IsEntry d z j) (sym same) (h.0, ap (λ es. slice_get es j) (sym (scope-written d) ∙ ap scope_of a ∙ scope-written e) ∙ h.1)

agrees-alike : (t : Source) (r q : Reached) (l : Looked) → AreAlike r q → Agrees t q l → Agrees t r l
agrees-alike t (reached (d, x)) (reached (e, y)) (At k j) a h = (subst (λ z. IsBody t k z) (sym a.0) h.0, entry-alike d e x y j a.0 a.1 h.1)
agrees-alike t (reached x) (reached y) Missing a h = absurd h
agrees-alike t (reached x) (reached y) Blocked a h = absurd h
agrees-alike t (reached x) missing l a h = absurd a
agrees-alike t (reached x) blocked l a h = absurd a
agrees-alike t missing (reached y) l a h = absurd a
agrees-alike t missing missing l a h = h
agrees-alike t missing blocked l a h = absurd a
agrees-alike t blocked (reached y) l a h = absurd a
agrees-alike t blocked missing l a h = absurd a
agrees-alike t blocked blocked l a h = h

-- the place lies in a component, whose scope declares it
abbrev pub Stands : Source → ScopeEntry → Type 0
Stands t x = Member x.0 (components_of t) × IsOf x.0 x.1

-- where a name of a component leads
pub found-stands : (t : Source) → length (components_of t) ≤ most_objects → (c : Component) → Member c (components_of t) → (nm : Name) (x : ScopeEntry) → found c nm ≡ reached x → Stands t x
found-stands t few c listed nm x h = (found-listed t few c listed nm x h, (found-good t c (components-written t c listed) nm x h).1)

module _ (t : Source) (s : Scopes) (are : AreNumbered t s) where
  abbrev pub looks : ℕ → Name → Looked
  looks k nm = look s.table s.definitions true k nm

  -- from the body that a component is written as, a name leads to where it leads from the component
  pub agrees : (k : ℕ) (c : Component) → IsBody t k (as_written c) → (nm : Name) → Agrees t (found c nm) (looks k nm)
  agrees k c own nm =
      agrees-alike t (found c nm) (found (as_written c) nm) (looks k nm) (names-alike c (as_written c) nm (sym (twice c)))
      (found-is t s.table are.table are.indexed s.definitions are.definitions (as_written c) k nm own)
