-- Components that are written as one body write the same names, and what is sought under them is the same.
use Rattle.std.proofs.Common.{◌≡◌, ◌++◌, refl, sym, ◌∙◌, ap}
use Rattle.std.specs.Prelude.{flat_map, [], ◌∷◌}
use Rattle.cif_ast.specs.declared.names.Name.{Name}
use Rattle.cif_source.specs.Source.{SourceItem, instance_item, SourceBody, group_body, automaton_body, list_of_items}
use Rattle.cif_source.specs.Components.{Component, body_of, as_written, definition}
use Rattle.cif_source.specs.Lookup.{Reached, reached, missing, blocked, looked_up, inside_written, definition_found, found}
use Rattle.cif_source.specs.Uses.{Use, Asked, definition_asked, asking, args_uses, params_at, item_uses, body_uses, param_uses, uses, definition_sought, sought}
use Rattle.cif_inst_bodies.specs.Alike.{AreWrittenAlike, AreAlike}
use Rattle.cif_inst_bodies.proofs.Alike.{written, body-written, params-written, definition-written, looked-written, found-alike, alike-places}

-- ---- names that are written

params_at-written : (r : Reached) → params_at r ≡ params_at (written r)
params_at-written (reached (o, definition n ps b)) = refl
params_at-written _ = refl

item-uses : (c : Component) (x : SourceItem) → item_uses c x ≡ item_uses (as_written c) x
item-uses c (instance_item j) = ap (λ ps. asking definition_asked (j.def ∷ []) ++ args_uses j.args ps) (params_at-written (definition_found c j) ∙ ap params_at (definition-written c j))
item-uses c _ = refl

body-uses : (c : Component) (b : SourceBody) → body_uses c b ≡ body_uses (as_written c) b
body-uses c (group_body is) = λ i. flat_map (λ x. item-uses c x i) (list_of_items is)
body-uses c (automaton_body a) = refl

pub uses-written : (c : Component) → uses c ≡ uses (as_written c)
uses-written c = λ i. flat_map param_uses (sym (params-written c) i) ++ (ap (body_uses c) (sym (body-written c)) ∙ body-uses c (body_of (as_written c))) i

pub uses-same : (c d : Component) → AreWrittenAlike c d → uses c ≡ uses d
uses-same c d h = uses-written c ∙ ap uses h ∙ sym (uses-written d)

-- ---- what is sought

abbrev unless_missing : Reached → Reached → Reached
unless_missing r q = elim r [ missing ↦ missing | _ ↦ q ]

unless-written : (r q : Reached) → written (unless_missing r q) ≡ unless_missing (written r) (written q)
unless-written (reached x) q = refl
unless-written missing q = refl
unless-written blocked q = refl

definitions-sought : (c d : Component) (nm : Name) → AreWrittenAlike c d → written (definition_sought c nm) ≡ written (definition_sought d nm)
definitions-sought c d nm h =
    let looked : written (looked_up inside_written c nm) ≡ written (looked_up inside_written d nm) = looked-written c nm ∙ ap (λ w. looked_up inside_written w nm) h ∙ sym (looked-written d nm) in
    unless-written (found c nm) (looked_up inside_written c nm) ∙ (λ i. unless_missing (found-alike c d nm h i) (looked i)) ∙ sym (unless-written (found d nm) (looked_up inside_written d nm))

sought-by : (c d : Component) → AreWrittenAlike c d → (nm : Name) (a : Asked) → written (sought c (record { name = nm; asks = a })) ≡ written (sought d (record { name = nm; asks = a }))
sought-by c d h nm definition_asked = definitions-sought c d nm h
sought-by c d h nm _ = found-alike c d nm h

pub sought-same : (c d : Component) → AreWrittenAlike c d → (u : Use) → written (sought c u) ≡ written (sought d u)
sought-same c d h u = sought-by c d h u.name u.asks

pub sought-alike : (c d : Component) → AreWrittenAlike c d → (u : Use) → AreAlike (sought c u) (sought d u)
sought-alike c d h u = alike-places (sought c u) (sought d u) (sought-same c d h u)
