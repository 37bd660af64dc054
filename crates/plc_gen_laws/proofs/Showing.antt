-- The statements that show the algebraic variables do what the frame asks of them: from a memory that stands for a state they
-- end, keep all types, and write own variables and R variables alone, which then hold the values of the definitions.
use Rattle.std.proofs.Common.{◌≡◌, ◌≢◌, ℕ, zero, suc, ◌+◌, ◌-◌, ◌^◌, ◌<◌, ◌≤◌, ℤ, pos, Bool, true, false, List, [], ◌∷◌, map, length, Option, Some, None, Ok, inr, refl, sym, ap, subst, ◌∙◌, arith, if◌then◌else◌}
use Rattle.std.specs.Prelude.{IsTrue, codes, slice_get, slice_set}
use Rattle.std.specs.List.{AllByRecursion}
use Rattle.std.proofs.lemmas.List.{length-append}
use Rattle.grammar.specs.Pieces.{Text}
use Rattle.cif_base.specs.declared.types.Ty.{Ty}
use Rattle.cif_base.specs.declared.types.Ty.TheVariants as cif_ty
use Rattle.cif_system.specs.System.{IsState, State, in_range}
use Rattle.cif_system.proofs.Lists.{none-some}
use Rattle.cif_net_expr.specs.Tree.{NetExpr}
use Rattle.cif_net_model.specs.Net.{NetAlg, Net}
use Rattle.cif_net_model.specs.Facts.{is_net}
use Rattle.cif_net_model.specs.Inline.{defined_by}
use Rattle.cif_net_model.specs.Kinds.{Kind, bool_kind, fits, kind_of}
use Rattle.cif_net_model.specs.Listing.{NetChoice}
use Rattle.cif_net_model.specs.Meaning.{defined_value, system_of_net, type_range}
use Rattle.cif_net_model.specs.Reads.{names_no_alg}
use Rattle.cif_net_model.proofs.Passing.{and-left}
use Rattle.st_ast.specs.Tree.{Program, assign, stms}
use Rattle.st_ast.specs.Names.{declared, place_of}
use Rattle.st_ast.specs.Values.{Memory, value_of}
use Rattle.st_ast.specs.Exec.{Ended, exec, exec_one, is_within, type_of}
use Rattle.st_ast.specs.declared.tree.StVar.{StVar}
use Rattle.st_ast.specs.declared.tree.StClass.TheVariants as class
use Rattle.st_ast.specs.declared.tree.StTy.TheVariants as ty
use Rattle.st_ast.proofs.Runs.{append_runs, assign_runs, cons_runs}
use Rattle.plc_model.specs.declared.letter.Letter.{Letter}
use Rattle.plc_model.specs.declared.letter.Letter.TheVariants as letter
use Rattle.plc_model.specs.Names.{name_for}
use Rattle.plc_model.specs.Face.{StateOf, alg_face, declaration, range_of}
use Rattle.plc_model.specs.Frame.{fired}
use Rattle.plc_model.proofs.NameLaws.{letters-differ, names-differ}
use Rattle.plc_model.proofs.FaceLaws.{Typed, below, pairwise-length, places-differ, slice_get-set_other, slice_get-set_same, state-kept, typed-set}
use Rattle.plc_frame.specs.Faces.{alg_face_of, face_of_net, is_boolean as is_bool_type}
use Rattle.plc_frame.specs.Given.{AlgsHold, KeepsOthers, ShowsAlgs, asked}
use Rattle.plc_frame.proofs.Declaring.{AllDeclared}
use Rattle.plc_frame.proofs.Facts.{Standing, standing}
use Rattle.plc_frame.proofs.Framing.{algs-declared}
use Rattle.plc_expr.specs.Held.{Prepares}
use Rattle.cif_net_model.specs.Safe.{HasBits, IsSafe, Setting, value_at}
use Rattle.plc_expr.specs.Sorts.{own_types}
use Rattle.plc_expr.specs.Texts.{Naming, before, temps, text}
use Rattle.plc_expr.proofs.Sorting.{bool-by, types-length}
use Rattle.plc_expr.proofs.There.{there}
use Rattle.plc_event_model.specs.Asked.{Promises, setting_of}
use Rattle.plc_event_model.specs.Own.{net_naming}
use Rattle.plc_event_model.specs.Ready.{IsReady}
use Rattle.plc_event_model.proofs.Kept.{Declares, declares-parts}
use Rattle.plc_event_model.proofs.Promised.{promised}
use Rattle.plc_event_model.proofs.Readying.{bits, ready-expr, truths}
use Rattle.plc_event_model.specs.Definitions.{IsDefinition}
use Rattle.plc_event_model.specs.ProgramParts.{HasParts, all_own, net_parts, net_program, defined_types, shown_first, shown_part, shown_text}
use Rattle.plc_event_model.proofs.Defined.{all-defined}
use Rattle.plc_gen_laws.proofs.Declared.{first_place, own-letters, shown-declares, shown-last, vars-length}
use Rattle.plc_gen_laws.proofs.Free.{algs-free, own-places}

-- ---- lists and numbers

some-below : {A : Type 0} (xs : List A) (k : ℕ) → k < length xs → (a : A) × (slice_get xs k ≡ Some a)
some-below [] k h = absurd (omega (arith, h))
some-below (a ∷ xs) zero h = (a, refl)
some-below (a ∷ xs) (suc k) h = some-below xs k (omega (arith, h))

-- a place that is none of those of own variables, and not below some of them, is behind these
past : (j base low count k c : ℕ) → (low ≤ j - base → j - base < count → j ≢ base + (j - base)) → low ≤ k → k + c ≤ count → base + k ≤ j → base + k + c ≤ j
past j base low count k c apart from room above = grind (arith, apart, above, from, room)

-- each number is of the type of an R variable, as far as an assignment asks
within-alg : (b : Bool) (z : ℤ) → is_within (if b then ty.Bool else ty.Lint) z ≡ true
within-alg true z = refl
within-alg false z = refl

-- ---- one program, in one state

module _ (n : Net) (p : Program) (base low count : ℕ) (s : State) (is_state : IsState (system_of_net n) s) (few : low ≤ count)
    (places : (k : ℕ) → low ≤ k → k < count → place_of p.vars ((net_naming n fired).own k) ≡ base + k) (room : base + count ≤ length p.vars)
    (kept : Promises p.vars (net_naming n fired) (setting_of n s (pos 0)) base low count)
    (ready : (kind : Kind) (k : ℕ) (e : NetExpr) → Declares p.vars (net_naming n fired) base k (own_types n None e) → fits n None kind e ≡ true → names_no_alg e ≡ true → IsSafe (setting_of n s (pos 0)) e
    → IsReady n p (net_naming n fired) base s None (pos 0) k e)
    (all_bits : (e : NetExpr) → names_no_alg e ≡ true → IsSafe (setting_of n s (pos 0)) e → HasBits (value_at (setting_of n s (pos 0)) e))
    (all_truths : (e : NetExpr) → names_no_alg e ≡ true → fits n None bool_kind e ≡ true → IsTrue (in_range (range_of ty.Bool) (value_at (setting_of n s (pos 0)) e))) where
  abbrev w : Naming
  w = net_naming n fired

  abbrev x : Setting
  x = setting_of n s (pos 0)

  abbrev St : Memory → Type 0
  St m = StateOf (face_of_net n) (system_of_net n) p m s

  -- no variable of another letter stands where an own variable does
  apart : (l : Letter) → (l ≡ letter.T → ⊥) → (i : ℕ) (path : Text) (k : ℕ) → low ≤ k → k < count → place_of p.vars (name_for l i path) ≢ base + k
  apart l other i path k from below same =
      let v = some-below p.vars (base + k) (omega (arith, room, below)) in
      places-differ p.vars (w.own k) (name_for l i path) v.0 (ap (slice_get p.vars) (places k from below) ∙ v.1) (letters-differ letter.T l k i (codes "if") path (λ e. other (sym e)))
      (places k from below ∙ sym same)

  beyond : (l : Letter) → (l ≡ letter.T → ⊥) → (i : ℕ) (path : Text) (k c : ℕ) → low ≤ k → k + c ≤ count → base + k ≤ place_of p.vars (name_for l i path) → base + k + c ≤ place_of p.vars (name_for l i path)
  beyond l other i path k c from top above =
      past (place_of p.vars (name_for l i path)) base low count k c (λ a b. apart l other i path (place_of p.vars (name_for l i path) - base) a b) from top above

  -- a memory in which variables of the letters R and T alone have changed stands for the same state
  state-others : (m o : Memory) → KeepsOthers p m o → St m → St o
  state-others m o same st =
      state-kept (face_of_net n) (system_of_net n) p m o s (λ i path t is. same letter.L (λ e. cc) (λ e. cc) i path) (λ i path t is. same letter.V (λ e. cc) (λ e. cc) i path)
      (λ i path t is. same letter.H (λ e. cc) (λ e. cc) i path) st

  long : (m : Memory) → Typed p.vars m → length p.vars ≡ length m
  long m typed = pairwise-length (λ (v : StVar) z. IsTrue (in_range (range_of v.ty) z)) p.vars m typed

  -- the value is of the type of the R variable
  alg-fits : (a : NetAlg) → IsDefinition n a → IsTrue (in_range (range_of (alg_face (alg_face_of a)).ty) (value_at (setting_of n s (pos 0)) (defined_by a)))
  alg-fits a d = go a.type_of d.fit
    where
      go : (t : Ty) → fits n None (kind_of t a.literals) (defined_by a) ≡ true → IsTrue (in_range (range_of (if is_bool_type t then ty.Bool else ty.Lint)) (value_at (setting_of n s (pos 0)) (defined_by a)))
      go cif_ty.Bool fit = all_truths (defined_by a) d.names fit
      go (cif_ty.Int lo hi) fit = all_bits (defined_by a) d.names (d.safe s is_state)
      go (cif_ty.Enum size) fit = all_bits (defined_by a) d.names (d.safe s is_state)

  module _ (t : ℕ) where
    -- ---- one algebraic variable

    -- what the statements before its text do
    record Prepared (k : ℕ) (a : NetAlg) (m : Memory) : Type 0 where
      after : Memory
      ends : exec p.vars (before w k (defined_by a)) t m ≡ Ended t after
      typed : Typed p.vars after
      others : (l : Letter) → (l ≡ letter.T → ⊥) → (i : ℕ) (path : Text) → slice_get after (place_of p.vars (name_for l i path)) ≡ slice_get m (place_of p.vars (name_for l i path))
      value : value_of p.vars (text w k (defined_by a)) after ≡ Ok (value_at x (defined_by a))

    prepared : (k : ℕ) (a : NetAlg) (m : Memory) → IsDefinition n a → Declares p.vars w base k (own_types n None (defined_by a)) → low ≤ k → k + temps (defined_by a) ≤ count → Typed p.vars m → St m → Prepared k a m
    prepared k a m d own from top typed st =
        let e : NetExpr = defined_by a in
        let is = ready (kind_of a.type_of a.literals) k e own d.fit d.names (d.safe s is_state) in
        let same = long m typed in
        let q : Prepares p.vars w x base k e t m =
        kept.prepares e k t m
        (λ o beside. is.1 o (state-others m o (λ l no_r no_t i path. beside (place_of p.vars (name_for l i path)) (λ above. let b = beyond l no_t i path low (count - low) (omega arith) (omega (arith, few)) above in omega (arith, b, few))) st) tt)
        (omega (arith, room, same)) is.0 from top in
        let others : (l : Letter) → (l ≡ letter.T → ⊥) → (i : ℕ) (path : Text) → slice_get q.after (place_of p.vars (name_for l i path)) ≡ slice_get m (place_of p.vars (name_for l i path)) =
        λ l other i path. q.beside.others (place_of p.vars (name_for l i path)) (λ above. beyond l other i path k (temps e) from top above) in
        record {
          after = q.after;
          ends = q.runs;
          typed = is.2 t m typed (is.1 m st tt) q;
          others = others;
          value = kept.valued e k q.after (is.1 q.after (state-others m q.after (λ l no_r no_t i path. others l no_t i path) st) tt) is.0 q.held;
        }

    record Shown (i k : ℕ) (a : NetAlg) (m : Memory) : Type 0 where
      between : Memory
      begins : exec p.vars (before w k (defined_by a)) t m ≡ Ended t between
      after : Memory
      ends : exec_one p.vars (assign (name_for letter.R i a.path) (text w k (defined_by a))) t between ≡ Ended t after
      typed : Typed p.vars after
      others : KeepsOthers p m after
      earlier : (j : ℕ) (path : Text) → j < i → slice_get after (place_of p.vars (name_for letter.R j path)) ≡ slice_get m (place_of p.vars (name_for letter.R j path))
      holds : slice_get after (place_of p.vars (name_for letter.R i a.path)) ≡ Some (defined_value n s a)

    shown : (i k : ℕ) (a : NetAlg) (m : Memory) → IsDefinition n a → declared p.vars (name_for letter.R i a.path) ≡ Some (declaration letter.R class.Output (i, alg_face (alg_face_of a))) → i < 2 ^ 64
        → Prepared k a m → Shown i k a m
    shown i k a m d at small q =
        let z : ℤ = value_at x (defined_by a) in
        let name : Text = name_for letter.R i a.path in
        let decl : StVar = declaration letter.R class.Output (i, alg_face (alg_face_of a)) in
        let inside = below p.vars (place_of p.vars name) decl at in
        let same = long q.after q.typed in
        record {
          between = q.after;
          begins = q.ends;
          after = slice_set q.after (place_of p.vars name) z;
          ends = assign_runs p.vars name (text w k (defined_by a)) (place_of p.vars name) z t q.after refl q.value (ap (λ o. is_within (type_of o) z) at ∙ within-alg (is_bool_type a.type_of) z);
          typed = typed-set p.vars q.after (place_of p.vars name) z decl at (alg-fits a d) q.typed;
          others = λ l no_r no_t j path.
              slice_get-set_other q.after (place_of p.vars name) (place_of p.vars (name_for l j path)) z
              (λ e. places-differ p.vars name (name_for l j path) decl at (letters-differ letter.R l i j a.path path (λ r. no_r (sym r))) (sym e))
              ∙ q.others l no_t j path;
          earlier = λ j path before.
              slice_get-set_other q.after (place_of p.vars name) (place_of p.vars (name_for letter.R j path)) z
              (λ e. places-differ p.vars name (name_for letter.R j path) decl at (names-differ letter.R letter.R i j a.path path small (omega (arith, before, small)) (inr (λ r. omega (arith, r, before)))) (sym e))
              ∙ q.others letter.R (λ r. cc) j path;
          holds = slice_get-set_same q.after (place_of p.vars name) z (omega (arith, inside, same)) ∙ ap Some (d.value s);
        }

    -- ---- all of them

    record Ran (i k : ℕ) (as' : List NetAlg) (m : Memory) : Type 0 where
      after : Memory
      ends : exec p.vars (shown_text w i k as') t m ≡ Ended t after
      typed : Typed p.vars after
      others : KeepsOthers p m after
      earlier : (j : ℕ) (path : Text) → j < i → slice_get after (place_of p.vars (name_for letter.R j path)) ≡ slice_get m (place_of p.vars (name_for letter.R j path))
      shows : AlgsHold p after i (map alg_face (map alg_face_of as')) (map (λ (f : State → ℤ). f s) (map (λ (a : NetAlg) (u : State). defined_value n u a) as'))

    ran : (i k : ℕ) (as' : List NetAlg) (m : Memory) → AllByRecursion (IsDefinition n) as' → AllDeclared p.vars letter.R class.Output i (map alg_face (map alg_face_of as')) → Declares p.vars w base k (defined_types n as')
        → low ≤ k → k + length (defined_types n as') ≤ count → i + length as' < 2 ^ 64 → Typed p.vars m → St m → Ran i k as' m
    ran i k [] m defs at own from top small typed st = record { after = m; ends = refl; typed = typed; others = λ l no_r no_t j path. refl; earlier = λ j path before. refl; shows = tt }
    ran i k (a ∷ as') m defs at own from top small typed st =
        let e : NetExpr = defined_by a in
        let parts = declares-parts p.vars w base k (own_types n None e) (defined_types n as') own in
        let size = types-length n None e in
        let both = length-append (own_types n None e) (defined_types n as') in
        let one = shown i k a m defs.0 at.0 (omega (arith, small)) (prepared k a m defs.0 parts.0 from (omega (arith, top, size, both)) typed st) in
        let rest = ran (i + 1) (k + temps e) as' one.after defs.1 at.1 (subst (λ l. Declares p.vars w base (k + l) (defined_types n as')) size parts.1) (omega (arith, from)) (omega (arith, top, size, both)) (omega (arith, small))
        one.typed (state-others m one.after one.others st) in
        record {
          after = rest.after;
          ends = append_runs p.vars (before w k e) (stms (assign (name_for letter.R i a.path) (text w k e)) (shown_text w (i + 1) (k + temps e) as')) t t m one.between one.begins
              ∙ cons_runs p.vars (assign (name_for letter.R i a.path) (text w k e)) (shown_text w (i + 1) (k + temps e) as') t t one.between one.after one.ends
              ∙ rest.ends;
          typed = rest.typed;
          others = λ l no_r no_t j path. rest.others l no_r no_t j path ∙ one.others l no_r no_t j path;
          earlier = λ j path before. rest.earlier j path (omega (arith, before)) ∙ one.earlier j path before;
          shows = (rest.earlier i a.path (omega arith) ∙ one.holds, rest.shows);
        }

-- ---- the program of a net

module _ (n : Net) (cs : List NetChoice) (U C : ℕ) (parts : HasParts n cs U C) where
  abbrev p : Program
  p = net_program n cs U C

  net : is_net n ≡ true
  net = and-left _ _ (and-left _ _ (and-left _ _ parts.plain))

  facts : Standing n
  facts = standing n net

  abbrev low : ℕ
  low = shown_first n cs

  abbrev count : ℕ
  count = shown_first n cs + length (defined_types n n.algs)

  r-declared : AllDeclared (net_program n cs U C).vars letter.R class.Output 0 (map alg_face (map alg_face_of n.algs))
  r-declared =
      algs-declared n (all_own n cs) (map asked (net_parts n cs)) (shown_part n (shown_first n cs)).body U C net parts.plain (own-letters n cs U C parts.few_own)

  none-typed : (u : Ty) → None ≡ Some u → in_range (type_range u) (pos 0) ≡ true
  none-typed u h = absurd (none-some u h)

  pub algs-shown : ShowsAlgs n (net_program n cs U C) (shown_part n (shown_first n cs)).body
  algs-shown t m s st =
      let w : Naming = net_naming n fired in
      let own = shown-declares n cs U C parts.few_own in
      let types = defined_types n n.algs in
      let last = shown-last n cs U C parts.few_own in
      let inside = vars-length n cs U C parts.few_own in
      let few = facts.few_algs in
      let stand = own-places p.vars w (first_place n) low types (length types) refl own (algs-free n n.algs) in
      let length_is = λ (r : Option Ty) (e : NetExpr). types-length n r e in
      let told = λ (r : Option Ty) (k : Kind) (e : NetExpr) (fit : fits n r k e ≡ true) (passes : names_no_alg e ≡ true). bool-by n r k e fit passes in
      let named = λ (r : Option Ty) (k : Kind) (e : NetExpr) (fit : fits n r k e ≡ true) (passes : names_no_alg e ≡ true). there n r k e fit passes in
      let r = ran n p (first_place n) low count s st.state.is_state (omega arith) (λ k from below. stand.place k from below) (omega (arith, last, inside))
      (promised p.vars w (setting_of n s (pos 0)) (first_place n) low count (omega arith) (own-places p.vars w (first_place n) low types (count - low) (omega arith) own (algs-free n n.algs)))
      (λ kind k e d fit passes safe.
      ready-expr n facts parts.small_variables parts.small_inputs p fired (first_place n) length_is told named s st.state.is_state None (pos 0) refl none-typed kind k e d fit (passes, safe))
      (λ e passes safe. bits n facts parts.small_variables parts.small_inputs p fired (first_place n) length_is told named s st.state.is_state None (pos 0) refl none-typed e passes safe)
      (λ e passes fit. truths n facts parts.small_variables parts.small_inputs p fired (first_place n) length_is told named s st.state.is_state None (pos 0) refl none-typed e passes fit)
      t 0 low n.algs m (all-defined n parts.plain) r-declared own (omega arith) (omega arith) (omega (arith, few)) st.typed st.state in
      (r.after, r.ends, r.typed, r.others, r.shows)
