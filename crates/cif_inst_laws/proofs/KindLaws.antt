-- Kinds of a net: equal kinds, the kinds that a net has, and that an expression of an enumeration that no part of the net has
-- is one of the literals of a channel, or an integer too.
use Rattle.std.proofs.Common.{◌≡◌, ℕ, pos, ℤ, Bool, true, false, inl, inr, List, [], ◌∷◌, ◌++◌, map, length, Option, Some, None, refl, sym, ◌∙◌, ap, subst, arith}
use Rattle.std.specs.Prelude.{◌&&◌, bytes_eq, slice_get, flat_map, int_le, int_lt, nat_eq, replicate}
use Rattle.std.specs.List.{list_any}
use Rattle.std.specs.Cmp.Lexicographic as words
use Rattle.std.proofs.lemmas.Bool.Decides.{nat_tests}
use Rattle.std.proofs.lemmas.Cmp.{nat_list_eq_equiv}
use Rattle.std.proofs.lemmas.List.{length-replicate}
use Rattle.cif_base.specs.declared.types.Ty.{Ty}
use Rattle.cif_base.specs.declared.types.Ty.TheVariants as ty
use Rattle.cif_system.specs.Words.{Member}
use Rattle.cif_system.proofs.Lists.{false-true}
use Rattle.cif_system.proofs.Picks.{and-left, and-right, or-cases, at-member, map-member, append-left, append-right, flat_map-member}
use Rattle.cif_net_expr.specs.Tree.{NetExpr, net_expr, NetForm, n_truth, n_number, n_loc, n_var, n_input, n_alg, n_received, n_minus, n_plus, n_not, n_abs, n_min, n_max, n_sum, n_product, n_compare, n_and, n_or, n_implies, n_iff, n_if, NetBranches, no_net_branches, net_branches}
use Rattle.cif_net_model.specs.Net.{Text, net_chan_of, NetEvent, NetStored, NetAlg, Net}
use Rattle.cif_net_model.specs.Kinds.{Kind, bool_kind, int_kind, enum_kind, same_texts, same_kind, kind_of, has_type, in_32_bits, number_fits, stored_fits, alg_fits, received_fits, channel_kinds, kinds_in, fits, form_fits, branches_fit, fits_type}
use Rattle.cif_inst_model.proofs.KeptLaws.{member-passes}
use Rattle.cif_inst_laws.specs.Kinds.{IsCarried}

-- ---- equal kinds

pub texts-self : (xs : List Text) → same_texts xs xs ≡ true
texts-self [] = refl
texts-self (x ∷ xs) = ap (λ b. b && same_texts xs xs) (nat_list_eq_equiv.refl x) ∙ texts-self xs

pub kind-self : (k : Kind) → same_kind k k ≡ true
kind-self bool_kind = refl
kind-self int_kind = refl
kind-self (enum_kind ls) = texts-self ls

-- ---- the kinds of a net

abbrev pub has_kind : Net → Kind → Bool
has_kind n k = list_any (same_kind k) (kinds_in n)

abbrev pub stored_kind : NetStored → Kind
stored_kind v = kind_of v.type_of v.literals

abbrev pub alg_kind : NetAlg → Kind
alg_kind a = kind_of a.type_of a.literals

later : (n : Net) (k j : Kind) → Member j (map stored_kind (n.inputs ++ n.vars) ++ (map alg_kind n.algs ++ flat_map (λ (e : NetEvent). channel_kinds e.chan) n.events)) → same_kind k j ≡ true → has_kind n k ≡ true
later n k j m same = member-passes (same_kind k) (kinds_in n) j (inr (inr m)) same

stored-there : (n : Net) (k : Kind) (xs : List NetStored) (i : ℕ) → ((v : NetStored) → Member v xs → Member v (n.inputs ++ n.vars)) → stored_fits k (slice_get xs i) ≡ true → has_kind n k ≡ true
stored-there n k xs i inside h =
    (elim (slice_get xs i) as (λ o. slice_get xs i ≡ o → stored_fits k o ≡ true → has_kind n k ≡ true) [
      | None ↦ λ at f. absurd (false-true refl f)
      | Some v ↦ λ at f. later n k (stored_kind v) (append-left (stored_kind v) (map stored_kind (n.inputs ++ n.vars)) (map alg_kind n.algs ++ flat_map (λ (e : NetEvent). channel_kinds e.chan) n.events) (map-member stored_kind v (n.inputs ++ n.vars) (inside v (at-member xs i v at)))) f
    ]) refl h

var-there : (n : Net) (k : Kind) (i : ℕ) → stored_fits k (slice_get n.vars i) ≡ true → has_kind n k ≡ true
var-there n k i h = stored-there n k n.vars i (λ v m. append-right v n.inputs n.vars m) h

input-there : (n : Net) (k : Kind) (i : ℕ) → stored_fits k (slice_get n.inputs i) ≡ true → has_kind n k ≡ true
input-there n k i h = stored-there n k n.inputs i (λ v m. append-left v n.inputs n.vars m) h

alg-there : (n : Net) (k : Kind) (i : ℕ) → alg_fits k (slice_get n.algs i) ≡ true → has_kind n k ≡ true
alg-there n k i h =
    (elim (slice_get n.algs i) as (λ o. slice_get n.algs i ≡ o → alg_fits k o ≡ true → has_kind n k ≡ true) [
      | None ↦ λ at f. absurd (false-true refl f)
      | Some a ↦ λ at f. later n k (alg_kind a)
          (append-right (alg_kind a) (map stored_kind (n.inputs ++ n.vars)) (map alg_kind n.algs ++ flat_map (λ (e : NetEvent). channel_kinds e.chan) n.events)
          (append-left (alg_kind a) (map alg_kind n.algs) (flat_map (λ (e : NetEvent). channel_kinds e.chan) n.events) (map-member alg_kind a n.algs (at-member n.algs i a at)))) f
    ]) refl h

-- the literals of a channel are told by their number alone
abbrev nameless : ℕ → Kind
nameless size = enum_kind (replicate size [])

channel-there : (n : Net) (e : NetEvent) (size : ℕ) → Member e n.events → e.chan ≡ net_chan_of (ty.Enum size) → Member (nameless size) (kinds_in n)
channel-there n e size m h =
    inr (inr (append-right (nameless size) (map stored_kind (n.inputs ++ n.vars)) (map alg_kind n.algs ++ flat_map (λ (e : NetEvent). channel_kinds e.chan) n.events)
    (append-right (nameless size) (map alg_kind n.algs) (flat_map (λ (e : NetEvent). channel_kinds e.chan) n.events)
    (flat_map-member (λ (e : NetEvent). channel_kinds e.chan) e n.events (nameless size) m (subst (λ c. Member (nameless size) (channel_kinds c)) (sym h) (inl refl))))))

-- ---- an enumeration that no part of the net has

-- what is of it is of each kind that has its numbers and what is received of it
module _ (n : Net) (r : Option Ty) (ls : List Text) (k : Kind) (none : has_kind n (enum_kind ls) ≡ false) (numbers : (z : ℤ) → number_fits (enum_kind ls) z ≡ true → number_fits k z ≡ true)
    (values : received_fits (enum_kind ls) r ≡ true → received_fits k r ≡ true) where
  mutual
    expr-other : (e : NetExpr) → fits n r (enum_kind ls) e ≡ true → fits n r k e ≡ true
    expr-other (net_expr f at) h = form-other f h

    form-other : (f : NetForm) → form_fits n r (enum_kind ls) f ≡ true → form_fits n r k f ≡ true
    form-other (n_truth b) h = absurd (false-true refl h)
    form-other (n_number z) h = numbers z h
    form-other (n_loc a p) h = absurd (false-true refl h)
    form-other (n_var v) h = absurd (false-true none (var-there n (enum_kind ls) v h))
    form-other (n_input v) h = absurd (false-true none (input-there n (enum_kind ls) v h))
    form-other (n_alg v) h = absurd (false-true none (alg-there n (enum_kind ls) v h))
    form-other n_received h = values h
    form-other (n_minus e) h = absurd (false-true refl h)
    form-other (n_plus e) h = absurd (false-true refl h)
    form-other (n_not e) h = absurd (false-true refl h)
    form-other (n_abs e) h = absurd (false-true refl h)
    form-other (n_min a b) h = absurd (false-true refl h)
    form-other (n_max a b) h = absurd (false-true refl h)
    form-other (n_sum e es) h = absurd (false-true refl h)
    form-other (n_product e es) h = absurd (false-true refl h)
    form-other (n_compare a op b) h = absurd (false-true refl h)
    form-other (n_and es) h = absurd (false-true refl h)
    form-other (n_or es) h = absurd (false-true refl h)
    form-other (n_implies a b) h = absurd (false-true refl h)
    form-other (n_iff a b) h = absurd (false-true refl h)
    form-other (n_if bs e) h =
        ap (λ b. b && fits n r k e) (branches-other bs (and-left (branches_fit n r (enum_kind ls) bs) (fits n r (enum_kind ls) e) h))
        ∙ expr-other e (and-right (branches_fit n r (enum_kind ls) bs) (fits n r (enum_kind ls) e) h)

    branches-other : (bs : NetBranches) → branches_fit n r (enum_kind ls) bs ≡ true → branches_fit n r k bs ≡ true
    branches-other no_net_branches h = refl
    branches-other (net_branches c e bs) h =
        let two = and-left (fits n r bool_kind c && fits n r (enum_kind ls) e) (branches_fit n r (enum_kind ls) bs) h in
        ap (λ b. b && fits n r k e && branches_fit n r k bs) (and-left (fits n r bool_kind c) (fits n r (enum_kind ls) e) two)
        ∙ ap (λ b. b && branches_fit n r k bs) (expr-other e (and-right (fits n r bool_kind c) (fits n r (enum_kind ls) e) two))
        ∙ branches-other bs (and-right (fits n r bool_kind c && fits n r (enum_kind ls) e) (branches_fit n r (enum_kind ls) bs) h)

-- ---- kinds that the net has

any-found : {A : Type 0} (p : A → Bool) (xs : List A) → list_any p xs ≡ true → (y : A) × Member y xs × (p y ≡ true)
any-found p [] h = absurd (false-true refl h)
any-found p (x ∷ xs) h =
    elim (or-cases (p x) (list_any p xs) h) [
      | inl w ↦ (x, inl refl, w)
      | inr w ↦ let rest = any-found p xs w in (rest.0, inr rest.1, rest.2)
    ]

texts-told : (xs ys : List Text) → same_texts xs ys ≡ true → xs ≡ ys
texts-told [] [] h = refl
texts-told [] (y ∷ ys) h = absurd (false-true refl h)
texts-told (x ∷ xs) [] h = absurd (false-true refl h)
texts-told (x ∷ xs) (y ∷ ys) h = ap (λ z. z ∷ xs) (words.same_text x y (sym (and-left _ (same_texts xs ys) h))) ∙ ap (λ zs. y ∷ zs) (texts-told xs ys (and-right (bytes_eq x y) (same_texts xs ys) h))

enum-told : (ls : List Text) (k : Kind) → same_kind (enum_kind ls) k ≡ true → enum_kind ls ≡ k
enum-told ls bool_kind h = absurd (false-true refl h)
enum-told ls int_kind h = absurd (false-true refl h)
enum-told ls (enum_kind ks) h = ap enum_kind (texts-told ls ks h)

eq-told : (a b : ℕ) → nat_eq a b ≡ true → a ≡ b
eq-told a b h = grind (arith, nat_tests)

-- a kind that the net has and that takes all that the kind k takes, also what is received of the type o
record StandIn (n : Net) (o : Option Ty) (k : Kind) : Type 0 where
  kind : Kind
  there : Member kind (kinds_in n)
  fits_too : (r : Option Ty) → ((j : Kind) → received_fits j r ≡ true → r ≡ o) → (e : NetExpr) → fits n r k e ≡ true → fits n r kind e ≡ true
  takes : received_fits k o ≡ true → received_fits kind o ≡ true

module _ (n : Net) (o : Option Ty) (carried : IsCarried n o) where
  itself : (k : Kind) → Member k (kinds_in n) → StandIn n o k
  itself k m = record { kind = k; there = m; fits_too = λ r only e h. h; takes = λ h. h }

  module _ (ls : List Text) (none : has_kind n (enum_kind ls) ≡ false) where
    as-number : received_fits (enum_kind ls) o ≡ false → StandIn n o (enum_kind ls)
    as-number other = record {
      kind = int_kind;
      there = inr (inl refl);
      fits_too = λ r only. expr-other n r ls int_kind none
          (λ z h. and-left (in_32_bits z) (int_le (pos 0) z) (and-left (in_32_bits z && int_le (pos 0) z) (int_lt z (pos (length ls))) h))
          (λ h. absurd (false-true other (subst (λ x. received_fits (enum_kind ls) x ≡ true) (only (enum_kind ls) h) h)));
      takes = λ h. absurd (false-true other h);
    }

    as-nameless : (t : Ty) → o ≡ Some t → has_type t (enum_kind ls) ≡ true → StandIn n o (enum_kind ls)
    as-nameless ty.Bool is h = absurd (false-true refl h)
    as-nameless (ty.Int lo hi) is h = absurd (false-true refl h)
    as-nameless (ty.Enum size) is h =
        let e = carried (ty.Enum size) is in
        let same : length ls ≡ length (replicate {A = Text} size []) = eq-told (length ls) size h ∙ sym (length-replicate size []) in
        let takes : received_fits (nameless size) o ≡ true = ap (received_fits (nameless size)) is ∙ ap (λ m. nat_eq m size) (sym same) ∙ h in
        record {
          kind = nameless size;
          there = channel-there n e.0 size e.1 e.2;
          fits_too = λ r only. expr-other n r ls (nameless size) none
              (λ z g. subst (λ m. (in_32_bits z && int_le (pos 0) z && int_lt z (pos m)) ≡ true) same g)
              (λ g. subst (λ x. received_fits (nameless size) x ≡ true) (sym (only (enum_kind ls) g)) takes);
          takes = λ g. takes;
        }

    as-other : (x : Option Ty) → o ≡ x → StandIn n o (enum_kind ls)
    as-other None is = as-number (ap (received_fits (enum_kind ls)) is)
    as-other (Some t) is =
        (elim (has_type t (enum_kind ls)) as (λ b. has_type t (enum_kind ls) ≡ b → StandIn n o (enum_kind ls)) [
          | true ↦ λ h. as-nameless t is h
          | false ↦ λ h. as-number (ap (received_fits (enum_kind ls)) is ∙ h)
        ]) refl

  stand-in : (k : Kind) → StandIn n o k
  stand-in bool_kind = itself bool_kind (inl refl)
  stand-in int_kind = itself int_kind (inr (inl refl))
  stand-in (enum_kind ls) =
      (elim (has_kind n (enum_kind ls)) as (λ x. has_kind n (enum_kind ls) ≡ x → StandIn n o (enum_kind ls)) [
        | true ↦ λ there.
            let q = any-found (same_kind (enum_kind ls)) (kinds_in n) there in
            itself (enum_kind ls) (subst (λ k. Member k (kinds_in n)) (sym (enum-told ls q.0 q.2)) q.1)
        | false ↦ λ none. as-other ls none o refl
      ]) refl

-- ---- two operands of one kind

both : (a b : Bool) → a ≡ true → b ≡ true → (a && b) ≡ true
both a b h g = ap (λ x. x && b) h ∙ g

abbrev pub both_fit : Net → Option Ty → NetExpr → NetExpr → Kind → Bool
both_fit n r a b q = fits n r q a && fits n r q b

-- they have one that the net has
pub one-fits : (n : Net) (r : Option Ty) → IsCarried n r → (a b : NetExpr) (k : Kind) → fits n r k a ≡ true → fits n r k b ≡ true → list_any (both_fit n r a b) (kinds_in n) ≡ true
one-fits n r carried a b k h g =
    let q = stand-in n r carried k in
    member-passes (both_fit n r a b) (kinds_in n) q.kind q.there
    (both (fits n r q.kind a) (fits n r q.kind b) (q.fits_too r (λ j f. refl) a h) (q.fits_too r (λ j f. refl) b g))

-- ---- values of a channel

-- a value has one of those that the type of its channel takes
pub type-takes : (n : Net) (t : Ty) → IsCarried n (Some t) → (e : NetExpr) (k : Kind) → has_type t k ≡ true → fits n None k e ≡ true → fits_type n t e ≡ true
type-takes n t carried e k h g =
    let q = stand-in n (Some t) carried k in
    member-passes (λ j. has_type t j && fits n None j e) (kinds_in n) q.kind q.there
    (both (has_type t q.kind) (fits n None q.kind e) (q.takes h) (q.fits_too None (λ j f. absurd (false-true refl f)) e g))
