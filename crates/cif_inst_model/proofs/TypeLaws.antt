-- The type that a source's type becomes has its numbers, and what is declared becomes an event, a variable or an input that
-- means the same.
use Rattle.std.proofs.Common.{◌≡◌, ℕ, zero, suc, refl, ap, None}
use Rattle.std.specs.Prelude.{length}
use Rattle.cif_net_model.specs.Meaning.{type_range, channel_in, event_in, stored_in}
use Rattle.cif_system.specs.System.{Range, value_channel}
use Rattle.cif_source.specs.Source.{TypeTree, bool_type, int_type, range_type, named_type, ChannelTree, no_type, void_type, value_type, type_decl, enum_decl, event_decl, const_decl, alg_decl, input_decl, disc_decl, equation_decl, invariant_decl, marked_decl}
use Rattle.cif_source.specs.Components.{Component, specification_of, declared, literal, location, inner, definition, instance, parameter}
use Rattle.cif_source.specs.Lookup.{Reached, reached, missing, blocked, found}
use Rattle.cif_source.specs.Objects.{Declared, declarations}
use Rattle.cif_source.specs.Types.{range_of, range_within, range_by, range_at, first_of_type}
use Rattle.cif_source.specs.Step.{class_of, channel_of, event_for, stored_for}
use Rattle.cif_inst_model.specs.Types.{NetType, type_at, type_by, type_within, net_type, net_channel}
use Rattle.cif_inst_model.specs.Flat.{net_event, net_stored}

at-same : (f : Component → TypeTree → NetType) (g : Component → TypeTree → Range) → ((c : Component) (t : TypeTree) → type_range (f c t).type_of ≡ g c t)
    → (r : Reached) → type_range (type_at f r).type_of ≡ range_at g r
at-same f g h missing = refl
at-same f g h blocked = refl
at-same f g h (reached (c, declared (type_decl n t))) = h c t
at-same f g h (reached (c, declared (enum_decl n ls))) = refl
at-same f g h (reached (c, declared (event_decl k x n))) = refl
at-same f g h (reached (c, declared (const_decl t n e))) = refl
at-same f g h (reached (c, declared (alg_decl t n e))) = refl
at-same f g h (reached (c, declared (input_decl t n))) = refl
at-same f g h (reached (c, declared (disc_decl t n e))) = refl
at-same f g h (reached (c, declared (equation_decl q))) = refl
at-same f g h (reached (c, declared (invariant_decl i))) = refl
at-same f g h (reached (c, declared (marked_decl p))) = refl
at-same f g h (reached (c, literal k ls)) = refl
at-same f g h (reached (c, location k)) = refl
at-same f g h (reached (c, inner n b)) = refl
at-same f g h (reached (c, definition n ps b)) = refl
at-same f g h (reached (c, instance i)) = refl
at-same f g h (reached (c, parameter k p)) = refl

by-same : (f : Component → TypeTree → NetType) (g : Component → TypeTree → Range) → ((c : Component) (t : TypeTree) → type_range (f c t).type_of ≡ g c t)
    → (c : Component) (t : TypeTree) → type_range (type_by f c t).type_of ≡ range_by g c t
by-same f g h c bool_type = refl
by-same f g h c int_type = refl
by-same f g h c (range_type lower upper) = refl
by-same f g h c (named_type nm) = at-same f g h (found c nm)

within-same : (n : ℕ) (c : Component) (t : TypeTree) → type_range (type_within n c t).type_of ≡ range_within n c t
within-same zero c t = by-same _ _ (λ d u. refl) c t
within-same (suc n) c t = by-same (type_within n) (range_within n) (within-same n) c t

pub range-same : (c : Component) (t : TypeTree) → type_range (net_type c t).type_of ≡ range_of c t
range-same c t = within-same (length (declarations (specification_of c))) c t

channel-same : (c : Component) (h : ChannelTree) → channel_in (net_channel c h) ≡ channel_of c h
channel-same c no_type = refl
channel-same c void_type = refl
channel-same c (value_type t) = ap value_channel (range-same c t)

pub event-same : (d : Declared) → event_in (net_event d) ≡ event_for d
event-same (c, event_decl k h n) = λ i. record { class = class_of k; channel = channel-same c h i }
event-same (c, type_decl n t) = refl
event-same (c, enum_decl n ls) = refl
event-same (c, const_decl t n e) = refl
event-same (c, alg_decl t n e) = refl
event-same (c, input_decl t n) = refl
event-same (c, disc_decl t n e) = refl
event-same (c, equation_decl q) = refl
event-same (c, invariant_decl i) = refl
event-same (c, marked_decl p) = refl

pub stored-same : (d : Declared) → stored_in (net_stored d) ≡ stored_for d
stored-same (c, disc_decl t n e) = λ i. record { range = range-same c t i; first = first_of_type c t e }
stored-same (c, input_decl t n) = λ i. record { range = range-same c t i; first = first_of_type c t None }
stored-same (c, event_decl k h n) = refl
stored-same (c, type_decl n t) = refl
stored-same (c, enum_decl n ls) = refl
stored-same (c, const_decl t n e) = refl
stored-same (c, alg_decl t n e) = refl
stored-same (c, equation_decl q) = refl
stored-same (c, invariant_decl i) = refl
stored-same (c, marked_decl p) = refl
