-- What is read is what the grammar of declarations and parameters derives.
use Rattle.std.proofs.Common.{◌≡◌, ℕ, List, [], ◌∷◌, ◌++◌, true, false, not, Option, Some, None, refl, sym, ap, subst, ◌∙◌, append_assoc, append-nil, inl, inr}
use Rattle.grammar.specs.Pieces.{Text}
use Rattle.grammar.specs.Lang.{Lang, ◌&◌, ◌∣◌, ◌<$>◌, ◌▹◌, optional, many, has, flat}
use Rattle.grammar.specs.Reader.{Reader, starts, both_at}
use Rattle.grammar.specs.Sets.{apart, covers}
use Rattle.grammar.proofs.Laws.{Takes, Begins, Stops, apart-has, covers-has}
use Rattle.grammar.proofs.Plain.{one_takes, map_takes, both_takes, either_takes, when_takes, optional_takes, bind_takes, same, wider, stops_part, stops_before, starts_apart, starts_with, begins_more, many_begins}
use Rattle.cif_lex.specs.declared.token.Token.{Token}
use Rattle.cif_lex.specs.declared.token.TokenKind.TheVariants.{Id, Reserved, Sign}
use Rattle.cif_lex.specs.declared.token.Word.TheVariants as w
use Rattle.cif_lex.specs.declared.token.Mark.TheVariants as m
use Rattle.cif_ast.specs.declared.names.Ident.{Ident}
use Rattle.cif_ast.specs.declared.names.Name.{Name}
use Rattle.cif_ast.specs.declared.declarations.Class.{Class}
use Rattle.cif_ast.specs.declared.declarations.Chan.{Chan}
use Rattle.cif_ast.specs.declared.declarations.Chan.TheVariants as chan
use Rattle.cif_ast.specs.declared.declarations.TypeUse.{TypeUse}
use Rattle.cif_ast.specs.declared.declarations.TypeUse.TheVariants as type
use Rattle.cif_ast.specs.declared.declarations.Decl.{Decl}
use Rattle.cif_ast.specs.declared.declarations.Decl.TheVariants as decl
use Rattle.cif_ast.specs.declared.declarations.Inv.{Inv}
use Rattle.cif_ast.specs.declared.declarations.Inv.TheVariants as inv
use Rattle.cif_parse_expr.specs.TokenKinds.{sort, codes_of, word, sign}
use Rattle.cif_parse_expr.specs.Trees.{second, middle}
use Rattle.cif_parse_expr.specs.Grammar.{ident, name, names, separated, IsExpr}
use Rattle.cif_parse_expr.specs.Reading.{first, first_word, first_sign, word_at, name_at, expr_at, separated_at}
use Rattle.cif_parse_expr.proofs.Agrees.{un_first, un_goes, expr_goes, ident_takes, name_takes}
use Rattle.cif_parse_expr.proofs.Whole.{expr_takes}
use Rattle.cif_parse_expr.proofs.PartLaws.{separated_takes, ids_takes, names_takes}
use Rattle.cif_parse_decl.specs.Trees as tree
use Rattle.cif_parse_decl.specs.Grammar as g
use Rattle.cif_parse_decl.specs.Reading as r
use Rattle.cif_parse_decl.specs.Reading.{is_bare, is_labelled, is_component, leaves, type_first, class_first, kind_first, plain_first, parameter_first}
use Rattle.cif_parse_decl.proofs.SightLaws.{channel_not_bare, names_bare, expr_not_before, name_not_before, name_before, other_not_before, not_labelled, labelled}

pub kind_takes : Takes sort false kind_first [] g.kind r.kind_at
unfolding r.kind_at
kind_takes = one_takes sort kind_first

event_word_takes : Takes sort false class_first [] g.event_word r.event_word_at
unfolding r.event_word_at
event_word_takes = map_takes tree.class_of (one_takes sort class_first)

abbrev named_goes : List ℕ
named_goes = codes_of (Id ∷ Sign m.Dot ∷ Sign m.Comma ∷ [])

module _ (text : Text) where
  -- ---- types

  type_takes : Takes sort false type_first (codes_of (Sign m.OpenBracket ∷ Sign m.Dot ∷ [])) (g.type_use text) (r.type_at text)
  unfolding r.type_at r.integer_at r.bounds_at
  type_takes = wider type_first (codes_of (Sign m.OpenBracket ∷ Sign m.Dot ∷ [])) refl refl
      (either_takes (map_takes (λ t. type.Bool) (one_takes sort (first_word w.Bool))) refl
      (either_takes (map_takes (λ v. tree.integer v.1) (both_takes (one_takes sort (first_word w.Int)) refl (optional_takes (map_takes tree.bounds
      (both_takes (one_takes sort (first_sign m.OpenBracket)) refl (both_takes (expr_takes text) refl (both_takes (one_takes sort (first_sign m.Range)) refl (both_takes (expr_takes text) refl (one_takes sort (first_sign m.CloseBracket)))))))))) refl
      (map_takes type.Named (name_takes text))))

  channel_takes : Takes sort false (codes_of (Reserved w.Bool ∷ Reserved w.Int ∷ Sign m.Dot ∷ Id ∷ Reserved w.Void ∷ [])) (codes_of (Sign m.OpenBracket ∷ Sign m.Dot ∷ [])) (g.channel text) (r.channel_at text)
  unfolding r.channel_at
  channel_takes = either_takes (map_takes chan.Of type_takes) refl (map_takes (λ t. chan.Void) (one_takes sort (first_word w.Void)))

  -- The conditions are on sets alone, and hold by computation where these are given.
  typed_takes : {A : Type 0} {goes_on : List ℕ} {p : TypeUse → Lang Token A} {q : TypeUse → Reader Token A} (goes_2 : List ℕ)
      → apart (first_sign m.Comma) goes_on ≡ true → apart (first_sign m.Comma) (goes_on ++ []) ≡ true → covers goes_2 ((first_sign m.Comma ++ (goes_on ++ [])) ++ goes_on) ≡ true → covers goes_2 (goes_2 ++ []) ≡ true
      → ((ty : TypeUse) → Takes sort false (first Id) goes_on (p ty) (q ty)) → Takes sort false type_first goes_2 (g.typed text p) (r.typed_at text q)
  unfolding r.typed_at
  typed_takes goes_2 a b c d h = wider type_first goes_2 refl d (bind_takes type_takes refl (λ ty. separated_takes m.Comma (first Id) goes_2 refl a b refl c (h ty)))

  made_takes : {A : Type 0} (make : Ident → A) → Takes sort false (first Id) [] (make <$> ident text) (r.made_at text make)
  unfolding r.made_at
  made_takes make = map_takes make (ident_takes text)

  made_list_takes : {A : Type 0} (make : Ident → A) → Takes sort false (first Id) (first_sign m.Comma) (separated m.Comma (make <$> ident text)) (separated_at m.Comma (r.made_at text make))
  made_list_takes make = separated_takes m.Comma (first Id) (first_sign m.Comma) refl refl refl refl refl (made_takes make)

  -- ---- events

  abbrev channel_or_none : {A : Type 0} → (Chan → Ident → A) → Lang Token (List A)
  channel_or_none make = (g.channel text ▹ λ c. separated m.Comma (make c <$> ident text)) ∣ separated m.Comma (make chan.No <$> ident text)

  channelled_takes : {A : Type 0} (make : Chan → Ident → A)
      → Takes sort false (codes_of (Reserved w.Bool ∷ Reserved w.Int ∷ Sign m.Dot ∷ Id ∷ Reserved w.Void ∷ [])) named_goes (g.channelled text make) (r.channelled_at text make)
  unfolding r.channelled_at
  channelled_takes {A = A} make = wider (codes_of (Reserved w.Bool ∷ Reserved w.Int ∷ Sign m.Dot ∷ Id ∷ Reserved w.Void ∷ [])) named_goes refl refl
      (same there back (when_takes (λ ts. not (is_bare ts)) named_goes refl refl
      (bind_takes channel_takes refl (λ c. made_list_takes (make c))) (made_list_takes (make chan.No)) on off))
    where
      on : (a : List A) (x rest : List Token) → (g.channel text ▹ λ c. separated m.Comma (make c <$> ident text)) a x → Stops sort named_goes rest → not (is_bare (x ++ rest)) ≡ true
      on a x rest (c, x1, y, d, q, e) s =
          let far = channel_not_bare text c x1 y rest d ((made_list_takes (make c)).begins a y q) in
          let whole : x ++ rest ≡ x1 ++ (y ++ rest) = ap (λ u. u ++ rest) e ∙ append_assoc x1 y rest in
          ap not (ap is_bare whole ∙ far)

      off : (a : List A) (x rest : List Token) → separated m.Comma (make chan.No <$> ident text) a x → Stops sort named_goes rest → not (is_bare (x ++ rest)) ≡ false
      off a x rest d s = ap not (names_bare text (make chan.No) a x rest d s)

      there : (a : List A) (x : List Token) → g.channelled text make a x → channel_or_none make a x
      there a x (None, x1, y, d, q, e) = inr (subst (λ u. separated m.Comma (make chan.No <$> ident text) a u) (sym (e ∙ ap (λ u. u ++ y) d)) q)
      there a x (Some c, x1, y, d, q, e) = inl (c, x1, y, d, q, e)

      back : (a : List A) (x : List Token) → channel_or_none make a x → g.channelled text make a x
      back a x (inl d) = (Some d.0, d.1, d.2, d.3, d.4, d.5)
      back a x (inr d) = (None, [], x, refl, d, refl)

  classed_takes : {A : Type 0} (make : Class → Chan → Ident → A) → Takes sort false class_first named_goes (g.classed text make) (r.classed_at text make)
  unfolding r.classed_at
  classed_takes make = wider class_first named_goes refl refl (bind_takes event_word_takes refl (λ k. channelled_takes (make k)))

  -- ---- declarations

  valued_takes : Takes sort false (first Id) expr_goes (g.valued text) (r.valued_at text)
  unfolding r.valued_at
  valued_takes = wider (first Id) expr_goes refl refl (both_takes (ident_takes text) refl (both_takes (one_takes sort (first_sign m.Equal)) refl (expr_takes text)))

  perhaps_valued_takes : Takes sort false (first Id) (first_sign m.Equal ++ expr_goes) (g.perhaps_valued text) (r.perhaps_valued_at text)
  unfolding r.perhaps_valued_at r.value_at
  perhaps_valued_takes = wider (first Id) (first_sign m.Equal ++ expr_goes) refl refl
      (both_takes (ident_takes text) refl (optional_takes (map_takes second (both_takes (one_takes sort (first_sign m.Equal)) refl (expr_takes text)))))

  named_type_takes : Takes sort false (first Id) (codes_of (Sign m.OpenBracket ∷ Sign m.Dot ∷ [])) (tree.named_type <$> ident text & sign m.Equal & g.type_use text) (r.named_type_at text)
  unfolding r.named_type_at
  named_type_takes = wider (first Id) (codes_of (Sign m.OpenBracket ∷ Sign m.Dot ∷ [])) refl refl (map_takes tree.named_type (both_takes (ident_takes text) refl (both_takes (one_takes sort (first_sign m.Equal)) refl type_takes)))

  type_declaration_takes : Takes sort false (first_word w.«Type») [] (g.type_declaration text) (r.type_declaration_at text)
  unfolding r.type_declaration_at
  type_declaration_takes = map_takes middle (both_takes (one_takes sort (first_word w.«Type»)) refl
      (both_takes (separated_takes m.Comma (first Id) (codes_of (Sign m.Comma ∷ Sign m.OpenBracket ∷ Sign m.Dot ∷ [])) refl refl refl refl refl named_type_takes) refl (one_takes sort (first_sign m.Semicolon))))

  enum_declaration_takes : Takes sort false (first_word w.Enum) [] (g.enum_declaration text) (r.enum_declaration_at text)
  unfolding r.enum_declaration_at
  enum_declaration_takes = map_takes (λ v. tree.single (tree.enumeration v)) (both_takes (one_takes sort (first_word w.Enum)) refl (both_takes (ident_takes text) refl
      (both_takes (one_takes sort (first_sign m.Equal)) refl (both_takes (ids_takes text) refl (one_takes sort (first_sign m.Semicolon))))))

  event_declaration_takes : Takes sort false class_first [] (g.event_declaration text) (r.event_declaration_at text)
  unfolding r.event_declaration_at
  event_declaration_takes = map_takes (λ v. v.0) (both_takes (classed_takes tree.event) refl (one_takes sort (first_sign m.Semicolon)))

  const_declaration_takes : Takes sort false (first_word w.Const) [] (g.const_declaration text) (r.const_declaration_at text)
  unfolding r.const_declaration_at r.constant_at
  const_declaration_takes = map_takes middle (both_takes (one_takes sort (first_word w.Const)) refl
      (both_takes (typed_takes (first_sign m.Comma ++ expr_goes) refl refl refl refl (λ ty. map_takes (tree.constant ty) valued_takes)) refl (one_takes sort (first_sign m.Semicolon))))

  alg_declaration_takes : Takes sort false (first_word w.Alg) [] (g.alg_declaration text) (r.alg_declaration_at text)
  unfolding r.alg_declaration_at r.algebraic_at
  alg_declaration_takes = map_takes middle (both_takes (one_takes sort (first_word w.Alg)) refl
      (both_takes (typed_takes (codes_of (Sign m.Comma ∷ Sign m.Equal ∷ []) ++ expr_goes) refl refl refl refl (λ ty. map_takes (tree.algebraic ty) perhaps_valued_takes)) refl (one_takes sort (first_sign m.Semicolon))))

  pub disc_declaration_takes : Takes sort false (first_word w.Disc) [] (g.disc_declaration text) (r.disc_declaration_at text)
  unfolding r.disc_declaration_at r.discrete_at
  disc_declaration_takes = map_takes middle (both_takes (one_takes sort (first_word w.Disc)) refl
      (both_takes (typed_takes (codes_of (Sign m.Comma ∷ Sign m.Equal ∷ []) ++ expr_goes) refl refl refl refl (λ ty. map_takes (tree.discrete ty) perhaps_valued_takes)) refl (one_takes sort (first_sign m.Semicolon))))

  input_declaration_takes : Takes sort false (first_word w.Input) [] (g.input_declaration text) (r.input_declaration_at text)
  unfolding r.input_declaration_at
  input_declaration_takes = map_takes middle (both_takes (one_takes sort (first_word w.Input)) refl
      (both_takes (typed_takes (first_sign m.Comma) refl refl refl refl (λ ty. made_takes (tree.input ty))) refl (one_takes sort (first_sign m.Semicolon))))

  equation_takes : Takes sort false (first_word w.Equation) [] (g.equation text) (r.equation_at text)
  unfolding r.equation_at
  equation_takes = map_takes (λ v. tree.single (tree.equation v)) (both_takes (one_takes sort (first_word w.Equation)) refl (both_takes (ident_takes text) refl
      (both_takes (one_takes sort (first_sign m.Equal)) refl (both_takes (expr_takes text) refl (one_takes sort (first_sign m.Semicolon))))))

  marked_declaration_takes : Takes sort false (first_word w.Marked) [] (g.marked_declaration text) (r.marked_declaration_at text)
  unfolding r.marked_declaration_at r.marking_at
  marked_declaration_takes = map_takes middle (both_takes (one_takes sort (first_word w.Marked)) refl
      (both_takes (separated_takes m.Comma un_first (first_sign m.Comma ++ expr_goes) refl refl refl refl refl (map_takes decl.Marked (expr_takes text))) refl (one_takes sort (first_sign m.Semicolon))))

  -- ---- invariants

  braced_takes : Takes sort false (first_sign m.OpenBrace) [] (middle <$> sign m.OpenBrace & names text & sign m.CloseBrace) (r.braced_at text)
  unfolding r.braced_at
  braced_takes = map_takes middle (both_takes (one_takes sort (first_sign m.OpenBrace)) refl (both_takes (names_takes text) refl (one_takes sort (first_sign m.CloseBrace))))

  single_takes : Takes sort false (codes_of (Sign m.Dot ∷ Id ∷ [])) un_goes (tree.single <$> name text) (r.single_at text)
  unfolding r.single_at
  single_takes = map_takes tree.single (name_takes text)

  events_takes : Takes sort false (codes_of (Sign m.OpenBrace ∷ Sign m.Dot ∷ Id ∷ [])) un_goes (g.events text) (r.events_at text)
  unfolding r.events_at
  events_takes = same (λ a x d. elim d [ inl e ↦ inr e | inr e ↦ inl e ]) (λ a x d. elim d [ inl e ↦ inr e | inr e ↦ inl e ]) (either_takes braced_takes refl single_takes)

  needs_takes : Takes sort false (first_word w.Needs) expr_goes (word w.Needs & IsExpr text) (both_at (word_at w.Needs) (expr_at text))
  needs_takes = both_takes (one_takes sort (first_word w.Needs)) refl (expr_takes text)

  abbrev inv_first : List ℕ
  inv_first = codes_of (Sign m.Dot ∷ Id ∷ Sign m.OpenBrace ∷ []) ++ un_first

  abbrev inv_goes : List ℕ
  inv_goes = codes_of (Reserved w.Needs ∷ Reserved w.Disables ∷ []) ++ expr_goes

  abbrev single_needs : Lang Token Inv
  single_needs = tree.needs <$> (tree.single <$> name text) & word w.Needs & IsExpr text

  abbrev braced_needs : Lang Token Inv
  braced_needs = tree.needs <$> (middle <$> sign m.OpenBrace & names text & sign m.CloseBrace) & word w.Needs & IsExpr text

  abbrev predicate : Lang Token Inv
  predicate = (λ v. tree.state_or v.0 v.1) <$> IsExpr text & optional (second <$> word w.Disables & g.events text)

  predicate_takes : Takes sort false un_first (codes_of (Reserved w.Disables ∷ []) ++ expr_goes) predicate (r.predicate_at text)
  unfolding r.predicate_at r.disabled_at
  predicate_takes = wider un_first (codes_of (Reserved w.Disables ∷ []) ++ expr_goes) refl refl
      (map_takes (λ v. tree.state_or v.0 v.1) (both_takes (expr_takes text) refl (optional_takes (map_takes second (both_takes (one_takes sort (first_word w.Disables)) refl events_takes)))))

  disabled_begins : (o : Option (List Name)) (y : List Token) → optional (second <$> word w.Disables & g.events text) o y → Begins sort true (first_word w.Disables) y
  disabled_begins None y d = subst (λ u. Begins sort true (first_word w.Disables) u) (sym d) refl
  disabled_begins (Some all) y d = first_of y d.1.0 d.1.1 ((one_takes sort (first_word w.Disables)).begins d.0.0 d.1.0 d.1.2) d.1.4
    where
      first_of : (y u v : List Token) → Begins sort false (first_word w.Disables) u → y ≡ u ++ v → Begins sort true (first_word w.Disables) y
      first_of y [] v b e = absurd cc
      first_of y (t ∷ u) v b e = subst (λ x. Begins sort true (first_word w.Disables) x) (sym e) b

  -- a predicate, with `disables` or without, doesn't begin with a name before one of these
  predicate_not_before : (ks : List ℕ) (a : Inv) (x rest : List Token) → apart ks expr_goes ≡ true → apart (first_word w.Disables) ks ≡ true → predicate a x
      → Stops sort expr_goes rest → Stops sort ks rest → leaves ks (name_at text (x ++ rest)) ≡ false
  predicate_not_before ks a x rest away other (v, (x1, y, d, o, e), made) s z =
      let b = disabled_begins v.1 y o in
      let whole : x ++ rest ≡ x1 ++ (y ++ rest) = ap (λ u. u ++ rest) e ∙ append_assoc x1 y rest in
      let far = stops_empty expr_goes y rest refl b s in
      let none = stops_empty ks y rest other b z in
      ap (λ u. leaves ks (name_at text u)) whole ∙ expr_not_before text ks v.0 x1 (y ++ rest) away d far none
    where
      stops_empty : (js : List ℕ) (y rest : List Token) → apart (first_word w.Disables) js ≡ true → Begins sort true (first_word w.Disables) y → Stops sort js rest → Stops sort js (y ++ rest)
      stops_empty js y rest e b s = stops_before sort true (first_word w.Disables) js [] y rest e b s

  abbrev three : Lang Token Inv
  three = single_needs ∣ braced_needs ∣ predicate

  three_of : (a : Inv) (x : List Token) → g.invariant text a x → three a x
  three_of a x (inl (e, d, made)) = inr (inr ((e, None), (x, [], d, refl, sym (append-nil x)), made))
  three_of a x (inr (inl (v, (x1, y, inl d, more, e), made))) = inl (v, (x1, y, d, more, e), made)
  three_of a x (inr (inl (v, (x1, y, inr d, more, e), made))) = inr (inl (v, (x1, y, d, more, e), made))
  three_of a x (inr (inr (v, (x1, y, d, more, e), made))) = inr (inr ((v.0, Some v.1.1), (x1, y, d, (v.1, more, refl), e), made))

  of_three : (a : Inv) (x : List Token) → three a x → g.invariant text a x
  of_three a x (inl (v, (x1, y, d, more, e), made)) = inr (inl (v, (x1, y, inl d, more, e), made))
  of_three a x (inr (inl (v, (x1, y, d, more, e), made))) = inr (inl (v, (x1, y, inr d, more, e), made))
  of_three a x (inr (inr ((p, None), (x1, y, d, o, e), made))) =
      inl (p, subst (λ u. IsExpr text p u) (sym (e ∙ ap (λ u. x1 ++ u) o ∙ append-nil x1)) d, made)
  of_three a x (inr (inr ((p, Some all), (x1, y, d, (v, more, is), e), made))) =
      inr (inr ((p, v), (x1, y, d, more, e), made ∙ ap (λ u. inv.Disables p u) is))

  three_takes : Takes sort false inv_first inv_goes three (r.invariant_at text)
  unfolding r.invariant_at r.needs_at
  three_takes = wider inv_first inv_goes refl refl (when_takes (λ ts. leaves (first_word w.Needs) (name_at text ts)) inv_goes refl refl
      (map_takes tree.needs (both_takes single_takes refl needs_takes))
      (either_takes (map_takes tree.needs (both_takes braced_takes refl needs_takes)) refl predicate_takes) on off)
    where
      on : (a : Inv) (x rest : List Token) → single_needs a x → Stops sort inv_goes rest → leaves (first_word w.Needs) (name_at text (x ++ rest)) ≡ true
      on a x rest (v, (x1, y, (n, d, one), more, e), made) s =
          let b = needs_takes.begins v.1 y more in
          let whole : x ++ rest ≡ x1 ++ (y ++ rest) = ap (λ u. u ++ rest) e ∙ append_assoc x1 y rest in
          ap (λ u. leaves (first_word w.Needs) (name_at text u)) whole
          ∙ name_before text (first_word w.Needs) n x1 (y ++ rest) d (starts_apart sort (first_word w.Needs) un_goes y rest refl b) (starts_with sort (first_word w.Needs) y rest b)

      off : (a : Inv) (x rest : List Token) → (braced_needs ∣ predicate) a x → Stops sort inv_goes rest → leaves (first_word w.Needs) (name_at text (x ++ rest)) ≡ false
      off a x rest (inl (v, (x1, y, d, more, e), made)) s =
          other_not_before text (first_word w.Needs) (first_sign m.OpenBrace) x rest refl (begins_more sort (first_sign m.OpenBrace) x x1 y (braced_takes.begins v.0 x1 d) e)
      off a x rest (inr d) s = predicate_not_before (first_word w.Needs) a x rest refl refl d (stops_part sort inv_goes expr_goes rest refl s) (stops_part sort inv_goes (first_word w.Needs) rest refl s)

  invariant_takes : Takes sort false inv_first inv_goes (g.invariant text) (r.invariant_at text)
  invariant_takes = same three_of of_three three_takes

  -- ---- invariants with a label

  abbrev named_inv_goes : List ℕ
  named_inv_goes = first_sign m.Colon ++ inv_goes

  abbrev label_or_none : Lang Token Inv
  label_or_none = (λ v. v.1.1) <$> ident text & sign m.Colon & g.invariant text ∣ g.invariant text

  invariant_not_labelled : (a : Inv) (x rest : List Token) → three a x → Stops sort named_inv_goes rest → is_labelled (x ++ rest) ≡ false
  invariant_not_labelled a x rest (inl (v, (x1, y, (n, d, one), more, e), made)) s =
      let b = needs_takes.begins v.1 y more in
      let whole : x ++ rest ≡ x1 ++ (y ++ rest) = ap (λ u. u ++ rest) e ∙ append_assoc x1 y rest in
      not_labelled text (x ++ rest) (ap (λ u. leaves (first_sign m.Colon) (name_at text u)) whole
      ∙ name_not_before text (first_sign m.Colon) n x1 (y ++ rest) refl d (starts_apart sort (first_word w.Needs) un_goes y rest refl b) (starts_apart sort (first_word w.Needs) (first_sign m.Colon) y rest refl b))
  invariant_not_labelled a x rest (inr (inl (v, (x1, y, d, more, e), made))) s =
      not_labelled text (x ++ rest) (other_not_before text (first_sign m.Colon) (first_sign m.OpenBrace) x rest refl (begins_more sort (first_sign m.OpenBrace) x x1 y (braced_takes.begins v.0 x1 d) e))
  invariant_not_labelled a x rest (inr (inr d)) s =
      not_labelled text (x ++ rest) (predicate_not_before (first_sign m.Colon) a x rest refl refl d (stops_part sort named_inv_goes expr_goes rest refl s) (stops_part sort named_inv_goes (first_sign m.Colon) rest refl s))

  labelled_of : (a : Inv) (x : List Token) → g.named_invariant text a x → label_or_none a x
  labelled_of a x ((None, i), (x1, y, o, d, e), made) = inr (subst (λ u. g.invariant text u x) (sym made) (subst (λ u. g.invariant text i u) (sym (e ∙ ap (λ u. u ++ y) o)) d))
  labelled_of a x ((Some (n, c), i), (x1, y, (x2, x3, d, k, f), q, e), made) =
      inl ((n, (c, i)), (x2, x3 ++ y, d, (x3, y, k, q, refl), e ∙ ap (λ u. u ++ y) f ∙ append_assoc x2 x3 y), made)

  of_labelled : (a : Inv) (x : List Token) → label_or_none a x → g.named_invariant text a x
  of_labelled a x (inl ((n, (c, i)), (x2, z, d, (x3, y, k, q, f), e), made)) =
      ((Some (n, c), i), (x2 ++ x3, y, (x2, x3, d, k, refl), q, e ∙ ap (λ u. x2 ++ u) f ∙ sym (append_assoc x2 x3 y)), made)
  of_labelled a x (inr d) = ((None, a), ([], x, refl, d, refl), refl)

  named_invariant_takes : Takes sort false inv_first named_inv_goes (g.named_invariant text) (r.named_invariant_at text)
  unfolding r.named_invariant_at r.labelled_at
  named_invariant_takes = same labelled_of of_labelled (wider inv_first named_inv_goes refl refl (when_takes is_labelled named_inv_goes refl refl
      (map_takes (λ v. v.1.1) (both_takes (ident_takes text) refl (both_takes (one_takes sort (first_sign m.Colon)) refl invariant_takes))) invariant_takes on off))
    where
      on : (a : Inv) (x rest : List Token) → ((λ v. v.1.1) <$> ident text & sign m.Colon & g.invariant text) a x → Stops sort named_inv_goes rest → is_labelled (x ++ rest) ≡ true
      on a x rest (v, (x1, y, d, (y1, y2, c, q, f), e), made) s =
          let b = begins_more sort (first_sign m.Colon) y y1 y2 ((one_takes sort (first_sign m.Colon)).begins v.1.0 y1 c) f in
          let whole : x ++ rest ≡ x1 ++ (y ++ rest) = ap (λ u. u ++ rest) e ∙ append_assoc x1 y rest in
          ap is_labelled whole ∙ labelled text v.0 x1 y rest d b

      off : (a : Inv) (x rest : List Token) → g.invariant text a x → Stops sort named_inv_goes rest → is_labelled (x ++ rest) ≡ false
      off a x rest d s = invariant_not_labelled a x rest (three_of a x d) s

  invariants_takes : Takes sort false (first_word w.Invariant) [] (g.invariants text) (r.invariants_at text)
  unfolding r.invariants_at r.named_declared_at
  invariants_takes = map_takes middle (both_takes (one_takes sort (first_word w.Invariant)) refl
      (both_takes (separated_takes m.Comma inv_first (first_sign m.Comma ++ named_inv_goes) refl refl refl refl refl (map_takes decl.Inv named_invariant_takes)) refl (one_takes sort (first_sign m.Semicolon))))

  abbrev unnamed_invariants : Lang Token (List Decl)
  unnamed_invariants = (λ v. v.0) <$> separated m.Comma (decl.Inv <$> g.invariant text) & sign m.Semicolon

  pub unnamed_invariants_takes : Takes sort false inv_first [] unnamed_invariants (r.unnamed_invariants_at text)
  unfolding r.unnamed_invariants_at r.declared_at
  unnamed_invariants_takes = wider inv_first [] refl refl (map_takes (λ v. v.0)
      (both_takes (separated_takes m.Comma inv_first (first_sign m.Comma ++ inv_goes) refl refl refl refl refl (map_takes decl.Inv invariant_takes)) refl (one_takes sort (first_sign m.Semicolon))))

  abbrev after_kind : Lang Token (List Decl)
  after_kind = second <$> g.kind & (g.invariants text ∣ unnamed_invariants)

  of_kind : (a : List Decl) (x : List Token) → after_kind a x → g.kind_invariants text a x
  of_kind a x (v, (x1, y, k, inl d, e), made) = inl (v, (x1, y, k, d, e), made)
  of_kind a x (v, (x1, y, k, inr (u, d, f), e), made) = inr ((v.0, u), (x1, y, k, d, e), made ∙ f)

  kind_of : (a : List Decl) (x : List Token) → g.kind_invariants text a x → after_kind a x
  kind_of a x (inl (v, (x1, y, k, d, e), made)) = (v, (x1, y, k, inl d, e), made)
  kind_of a x (inr (v, (x1, y, k, d, e), made)) = ((v.0, v.1.0), (x1, y, k, inr (v.1, d, refl), e), made)

  pub kind_invariants_takes : Takes sort false kind_first [] (g.kind_invariants text) (r.kind_invariants_at text)
  unfolding r.kind_invariants_at
  kind_invariants_takes = same kind_of of_kind (map_takes second (both_takes kind_takes refl (either_takes invariants_takes refl unnamed_invariants_takes)))

  -- what follows the first of them begins with a comma, or with a semicolon where it is the last
  after_first : (more : List Decl) (z u rest : List Token) → many (second <$> sign m.Comma & (decl.Inv <$> g.invariant text)) more z → Begins sort false (first_sign m.Semicolon) u
      → (ks : List ℕ) → apart (codes_of (Sign m.Comma ∷ Sign m.Semicolon ∷ [])) ks ≡ true → Stops sort ks (z ++ (u ++ rest))
  after_first more z u rest d b ks e = go z (many_begins sort (first_sign m.Comma) (second <$> sign m.Comma & (decl.Inv <$> g.invariant text)) comma_first more z d)
    where
      comma_first : (a : Decl) (x : List Token) → (second <$> sign m.Comma & (decl.Inv <$> g.invariant text)) a x → Begins sort false (first_sign m.Comma) x
      comma_first a x (v, (x1, y, c, q, f), made) = begins_more sort (first_sign m.Comma) x x1 y ((one_takes sort (first_sign m.Comma)).begins v.0 x1 c) f

      semicolon : (u : List Token) → Begins sort false (first_sign m.Semicolon) u → Stops sort ks (u ++ rest)
      semicolon [] b = absurd cc
      semicolon (t ∷ u) b = apart-has (codes_of (Sign m.Comma ∷ Sign m.Semicolon ∷ [])) ks (sort t) e (covers-has (codes_of (Sign m.Comma ∷ Sign m.Semicolon ∷ [])) (first_sign m.Semicolon) (sort t) refl b)

      go : (z : List Token) → Begins sort true (first_sign m.Comma) z → Stops sort ks (z ++ (u ++ rest))
      go [] c = semicolon u b
      go (t ∷ z) c = apart-has (codes_of (Sign m.Comma ∷ Sign m.Semicolon ∷ [])) ks (sort t) e (covers-has (codes_of (Sign m.Comma ∷ Sign m.Semicolon ∷ [])) (first_sign m.Comma) (sort t) refl c)

  no_component : (t : Token) (ts : List Token) → has kind_first (sort t) ≡ true → starts sort (codes_of (Reserved w.Automaton ∷ Reserved w.Def ∷ [])) ts ≡ false → is_labelled ts ≡ false → is_component (t ∷ ts) ≡ false
  unfolding is_component
  no_component t ts k a b = let first_no = apart-has kind_first (first_word w.Automaton) (sort t) refl k in rw (first_no, a, b) refl

  -- invariants after a kind are no component
  pub invariants_no_component : (a : List Decl) (x rest : List Token) → g.kind_invariants text a x → is_component (x ++ rest) ≡ false
  invariants_no_component a x rest (inl (v, (x1, y, k, d, e), made)) =
      let b = invariants_takes.begins v.1 y d in
      let whole : x ++ rest ≡ v.0 ∷ (y ++ rest) = ap (λ u. u ++ rest) (e ∙ ap (λ u. u ++ y) k.1) in
      ap is_component whole ∙ no_component v.0 (y ++ rest) k.0 (starts_apart sort (first_word w.Invariant) (codes_of (Reserved w.Automaton ∷ Reserved w.Def ∷ [])) y rest refl b) (not_id y rest b)
    where
      not_id : (y rest : List Token) → Begins sort false (first_word w.Invariant) y → is_labelled (y ++ rest) ≡ false
      not_id y rest b = not_labelled text (y ++ rest) (other_not_before text (first_sign m.Colon) (first_word w.Invariant) y rest refl b)
  invariants_no_component a x rest (inr (v, (x1, y, k, (y1, y2, (p, (z1, z2, (i, one, is), more, f2), made2), semi, f), e), made)) =
      let b = (map_takes decl.Inv invariant_takes).begins p.0 z1 (i, one, is) in
      let whole : x ++ rest ≡ v.0 ∷ (y ++ rest) = ap (λ u. u ++ rest) (e ∙ ap (λ u. u ++ y) k.1) in
      let inner : y ++ rest ≡ z1 ++ (z2 ++ (y2 ++ rest)) = ap (λ u. u ++ rest) (f ∙ ap (λ u. u ++ y2) f2) ∙ append_assoc (z1 ++ z2) y2 rest ∙ append_assoc z1 z2 (y2 ++ rest) in
      let far = after_first p.1 z2 y2 rest more ((one_takes sort (first_sign m.Semicolon)).begins v.1.1 y2 semi) named_inv_goes refl in
      let label = invariant_not_labelled i z1 (z2 ++ (y2 ++ rest)) (three_of i z1 one) far in
      ap is_component (whole ∙ ap (λ u. v.0 ∷ u) inner)
      ∙ no_component v.0 (z1 ++ (z2 ++ (y2 ++ rest))) k.0 (starts_apart sort inv_first (codes_of (Reserved w.Automaton ∷ Reserved w.Def ∷ [])) z1 (z2 ++ (y2 ++ rest)) refl b) label

  -- ---- all

  pub plain_declaration_takes : Takes sort false plain_first [] (g.plain_declaration text) (r.plain_declaration_at text)
  unfolding r.plain_declaration_at
  plain_declaration_takes = wider plain_first [] refl refl
      (either_takes type_declaration_takes refl (either_takes enum_declaration_takes refl (either_takes event_declaration_takes refl (either_takes const_declaration_takes refl
      (either_takes alg_declaration_takes refl (either_takes input_declaration_takes refl (either_takes equation_takes refl (either_takes invariants_takes refl marked_declaration_takes))))))))

  pub declaration_takes : Takes sort false (plain_first ++ kind_first) [] (g.declaration text) (r.declaration_at text)
  unfolding r.declaration_at
  declaration_takes = either_takes plain_declaration_takes refl kind_invariants_takes

  -- ---- parameters

  parameter_takes : Takes sort false parameter_first named_goes (g.parameter text) (r.parameter_at text)
  unfolding r.parameter_at r.alg_parameter_at r.location_parameter_at
  parameter_takes = wider parameter_first named_goes refl refl (either_takes (classed_takes tree.event_parameter) refl
      (either_takes (map_takes second (both_takes (one_takes sort (first_word w.Alg)) refl (typed_takes (first_sign m.Comma) refl refl refl refl (λ ty. made_takes (tree.algebraic_parameter ty))))) refl
      (map_takes second (both_takes (one_takes sort (first_word w.Location)) refl (made_list_takes tree.location_parameter)))))

  pub parameters_takes : Takes sort false (first_sign m.OpenParen) [] (g.parameters text) (r.parameters_at text)
  unfolding r.parameters_at r.parameter_list_at
  parameters_takes = map_takes (λ v. tree.given v.1.0) (both_takes (one_takes sort (first_sign m.OpenParen)) refl
      (both_takes (optional_takes (map_takes flat (separated_takes m.Semicolon parameter_first (first_sign m.Semicolon ++ named_goes) refl refl refl refl refl parameter_takes))) refl (one_takes sort (first_sign m.CloseParen))))
