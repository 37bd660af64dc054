-- The events that are made are those of the net of a source.
use Rattle.std.proofs.Common.{◌≡◌, ℕ, ◌+◌, ◌<◌, ◌≤◌, inl, inr, List, [], ◌∷◌, ◌++◌, append-nil, length, map, get_or, drop, refl, sym, ◌∙◌, ap, subst}
use Rattle.std.specs.Prelude.{flat_map, filter}
use Rattle.std.proofs.lemmas.List.{map-append, drop_all}
use Rattle.cif_system.specs.Words.{Member}
use Rattle.cif_system.proofs.Lists.{slice_get-below}
use Rattle.cif_system.proofs.Picks.{append-left, append-right}
use Rattle.cif_system.proofs.Distinct.{member-append}
use Rattle.cif_net_model.specs.Net.{NetEvent}
use Rattle.cif_source.specs.Source.{Text, TypeTree, ChannelTree, value_type, DeclTree, type_decl, enum_decl, event_decl, const_decl, alg_decl, input_decl, disc_decl, equation_decl, invariant_decl, marked_decl, decl_item, component_item, definition_item, instance_item, SourceBody, group_body, automaton_body, Source, no_source, source, list_of_items}
use Rattle.cif_source.specs.Components.{Component, body_of, params_of, path_of}
use Rattle.cif_source.specs.Objects.{components_of, item_decls, decls_in, decls_of, is_event, events as events_of, Declared}
use Rattle.cif_source.specs.Step.{class_of}
use Rattle.cif_source.specs.Constants.{param_types, channel_types, decl_types, types_of}
use Rattle.cif_inst_model.specs.Flat.{net_event}
use Rattle.cif_inst_model.specs.Types.{net_channel}
use Rattle.cif_inst_model.proofs.NumberLaws.{kept-all, append-kept}
use Rattle.cif_inst_names.specs.Looking.{or_whole, component_of}
use Rattle.cif_inst.specs.Events.{EventTree, decl_events, decls_events, items_events, body_events, rows_events, made_event, all_events, StandsIn, StandAll}
use Rattle.cif_inst_paths.specs.Rows.{prefix_of, row_for, rows_of}
use Rattle.cif_inst.specs.Typing.{typed_source, typed_component, AreTypesOf}
use Rattle.cif_inst_paths.specs.Views.{row_tree}
use Rattle.cif_inst.specs.Views.{event_datum}
use Rattle.cif_inst.specs.declared.events.EventDatum.{EventDatum}
use Rattle.cif_inst_paths.specs.declared.rows.Row.{Row}
use Rattle.cif_inst.specs.declared.typing.Typing.{Typing}
use Rattle.cif_inst_paths.proofs.RowLaws.{dots-dotted}
use Rattle.cif_inst_paths.proofs.SoundLaws.{From, from-here, from-next, all-components}
use Rattle.cif_inst_paths.proofs.LoopLaws.{listed_at, made_more}

-- ---- of a body

items-decls : (k : ℕ) (p : Text) (is : Source) → items_events k p is ≡ decls_events k p (flat_map item_decls (list_of_items is))
items-decls k p no_source = refl
items-decls k p (source (decl_item d) is) = ap (λ xs. decl_events k p d ++ xs) (items-decls k p is)
items-decls k p (source (component_item n b) is) = items-decls k p is
items-decls k p (source (definition_item n ps b) is) = items-decls k p is
items-decls k p (source (instance_item j) is) = items-decls k p is

body-decls : (k : ℕ) (p : Text) (b : SourceBody) → body_events k p b ≡ decls_events k p (decls_in b)
body-decls k p (group_body is) = items-decls k p is
body-decls k p (automaton_body a) = refl

-- ---- in the net

abbrev own_events : Component → List Declared
own_events c = map (λ d. (c, d)) (filter is_event (decls_of c))

module _ (t : Source) where
  abbrev made : List EventTree → List NetEvent
  made es = map (made_event t) es

  one-event : (k : ℕ) (c : Component) → component_of t k ≡ c → (d : DeclTree) → made (decl_events k (prefix_of c) d) ≡ map net_event (map (λ d. (c, d)) (filter is_event (d ∷ [])))
  one-event k c is (event_decl a h n) = λ i. record { path = sym (dots-dotted (path_of c) n.text) i; class = class_of a; chan = net_channel (is i) h } ∷ []
  one-event k c is (type_decl n ty) = refl
  one-event k c is (enum_decl n ls) = refl
  one-event k c is (const_decl ty n e) = refl
  one-event k c is (alg_decl ty n e) = refl
  one-event k c is (input_decl ty n) = refl
  one-event k c is (disc_decl ty n e) = refl
  one-event k c is (equation_decl q) = refl
  one-event k c is (invariant_decl i) = refl
  one-event k c is (marked_decl p) = refl

  decls-made : (k : ℕ) (c : Component) → component_of t k ≡ c → (ds : List DeclTree) → made (decls_events k (prefix_of c) ds) ≡ map net_event (map (λ d. (c, d)) (filter is_event ds))
  decls-made k c is [] = refl
  decls-made k c is (d ∷ ds) =
      map-append (made_event t) (decl_events k (prefix_of c) d) (decls_events k (prefix_of c) ds)
      ∙ ap (λ xs. xs ++ made (decls_events k (prefix_of c) ds)) (one-event k c is d)
      ∙ ap (λ xs. map net_event (map (λ d. (c, d)) (filter is_event (d ∷ []))) ++ xs) (decls-made k c is ds)
      ∙ sym (map-append net_event (map (λ d. (c, d)) (filter is_event (d ∷ []))) (map (λ d. (c, d)) (filter is_event ds)))
      ∙ ap (map net_event) (sym (map-append (λ d. (c, d)) (filter is_event (d ∷ [])) (filter is_event ds)))
      ∙ ap (λ xs. map net_event (map (λ d. (c, d)) xs)) (sym (append-kept is_event (d ∷ []) ds))

  rows-made : (cs : List Component) (k : ℕ) → From t cs k → made (rows_events k (map row_for cs)) ≡ map net_event (flat_map own_events cs)
  rows-made [] k from = refl
  rows-made (c ∷ cs) k from =
      map-append (made_event t) (body_events k (prefix_of c) (body_of c)) (rows_events (k + 1) (map row_for cs))
      ∙ ap (λ xs. xs ++ made (rows_events (k + 1) (map row_for cs)))
      (ap made (body-decls k (prefix_of c) (body_of c)) ∙ decls-made k c (ap (or_whole t) (from-here t c cs k from)) (decls_of c))
      ∙ ap (λ xs. map net_event (own_events c) ++ xs) (rows-made cs (k + 1) (from-next t c cs k from))
      ∙ sym (map-append net_event (own_events c) (flat_map own_events cs))

  pub events-are : all_events t (rows_of t) ≡ map net_event (events_of t)
  events-are = rows-made (components_of t) 0 (all-components t) ∙ ap (map net_event) (sym (kept-all (components_of t)))

-- ---- where each one stands

-- it is of component k, and the type of its values is one of these
record Announces (k : ℕ) (types : List TypeTree) (e : EventTree) : Type 0 where
  pub component : e.component ≡ k
  pub typed : (ty : TypeTree) → e.chan ≡ value_type ty → Member ty types

channel-typed : (h : ChannelTree) (ty : TypeTree) → h ≡ value_type ty → Member ty (channel_types h)
channel-typed h ty is = subst (λ x. Member ty (channel_types x)) (sym is) (inl refl)

decl-announces : (k : ℕ) (p : Text) (d : DeclTree) (e : EventTree) → Member e (decl_events k p d) → Announces k (decl_types d) e
decl-announces k p (event_decl c h n) e m =
    elim m [
      | inl w ↦ record { component = ap (λ (x : EventTree). x.component) w; typed = λ ty is. channel-typed h ty (sym (ap (λ (x : EventTree). x.chan) w) ∙ is) }
      | inr w ↦ absurd w
    ]
decl-announces k p (type_decl n ty) e m = absurd m
decl-announces k p (enum_decl n ls) e m = absurd m
decl-announces k p (const_decl ty n x) e m = absurd m
decl-announces k p (alg_decl ty n x) e m = absurd m
decl-announces k p (input_decl ty n) e m = absurd m
decl-announces k p (disc_decl ty n x) e m = absurd m
decl-announces k p (equation_decl q) e m = absurd m
decl-announces k p (invariant_decl i) e m = absurd m
decl-announces k p (marked_decl x) e m = absurd m

decls-announce : (k : ℕ) (p : Text) (ds : List DeclTree) (e : EventTree) → Member e (decls_events k p ds) → Announces k (flat_map decl_types ds) e
decls-announce k p [] e m = absurd m
decls-announce k p (d ∷ ds) e m =
    elim (member-append e (decl_events k p d) (decls_events k p ds) m) [
      | inl w ↦ let x = decl-announces k p d e w in record { component = x.component; typed = λ ty is. append-left ty (decl_types d) (flat_map decl_types ds) (x.typed ty is) }
      | inr w ↦ let x = decls-announce k p ds e w in record { component = x.component; typed = λ ty is. append-right ty (decl_types d) (flat_map decl_types ds) (x.typed ty is) }
    ]

module _ (y : Typing) (types : AreTypesOf y) where
  body-stands : (k : ℕ) → k < length (components_of (typed_source y)) → (p : Text) (e : EventTree) → Member e (body_events k p (body_of (typed_component y k))) → StandsIn y e
  body-stands k below p e m =
      let c : Component = typed_component y k in
      let x : Announces k (flat_map decl_types (decls_of c)) e = decls-announce k p (decls_of c) e (subst (Member e) (body-decls k p (body_of c)) m) in record {
        home = record { types = types; below = subst (λ j. j < length (components_of (typed_source y))) (sym x.component) below };
        written = λ ty is. subst (λ j. Member ty (types_of (typed_component y j))) (sym x.component) (append-right ty (flat_map param_types (params_of c)) (flat_map decl_types (decls_of c)) (x.typed ty is));
      }

  rows-stand : (cs : List Component) (k : ℕ) → From (typed_source y) cs k → StandAll y (rows_events k (map row_for cs))
  rows-stand [] k from e m = absurd m
  rows-stand (c ∷ cs) k from e m =
      let here = from-here (typed_source y) c cs k from in
      let same : typed_component y k ≡ c = ap (or_whole (typed_source y)) here in
      elim (member-append e (body_events k (prefix_of c) (body_of c)) (rows_events (k + 1) (map row_for cs)) m) [
        | inl w ↦ body-stands k (slice_get-below (components_of (typed_source y)) k c here) (prefix_of c) e (subst (λ d. Member e (body_events k (prefix_of c) (body_of d))) (sym same) w)
        | inr w ↦ rows-stand cs (k + 1) (from-next (typed_source y) c cs k from) e w
      ]

  pub all_stand : StandAll y (rows_events 0 (rows_of (typed_source y)))
  all_stand = rows-stand (components_of (typed_source y)) 0 (all-components (typed_source y))

-- ---- where the loop over components has ended

pub all_found : (es : List EventTree) (rows : List Row) (i : ℕ) → length rows ≤ i → es ++ rows_events i (map row_tree (drop i rows)) ≡ rows_events 0 (map row_tree rows) → es ≡ rows_events 0 (map row_tree rows)
all_found es rows i past h = sym (append-nil es) ∙ ap (λ (rs : List Row). es ++ rows_events i (map row_tree rs)) (sym (drop_all i rows past)) ∙ h

-- ---- one of those that are found

pub event_listed : (found : List EventDatum) (i : ℕ) (e : EventDatum) → i < length found → e ≡ get_or found i e → Member (event_datum e) (map event_datum found)
event_listed found i e below is = listed_at event_datum found i e below is

pub event_more : {B : Type 0} (make : EventTree → B) (found : List EventDatum) (i : ℕ) (e : EventDatum) (before after all : List B) → i < length found → e ≡ get_or found i e → after ≡ before ++ make (event_datum e) ∷ []
    → before ++ map make (map event_datum (drop i found)) ≡ all → after ++ map make (map event_datum (drop (i + 1) found)) ≡ all
event_more make found i e before after all below is added h = made_more event_datum found i e below is make before after all added h
