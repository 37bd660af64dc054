-- What the first tokens say where one is not enough.
use Rattle.std.proofs.Common.{◌≡◌, ℕ, List, [], ◌∷◌, ◌++◌, Bool, true, false, not, ◌&&◌, Some, None, refl, ap, ◌∙◌, inl, inr}
use Rattle.grammar.specs.Pieces.{Text}
use Rattle.grammar.specs.Lang.{◌&◌, ◌<$>◌}
use Rattle.grammar.specs.Reader.{Read, starts}
use Rattle.grammar.specs.Sets.{apart, covers}
use Rattle.grammar.proofs.Laws.{Begins, Stops, apart-has, covers-has}
use Rattle.grammar.proofs.Plain.{one_takes, stops_part, begins_more, many_begins, one_front, starts_with}
use Rattle.cif_lex.specs.declared.token.Token.{Token}
use Rattle.cif_lex.specs.declared.token.TokenKind.TheVariants.{Id, Sign}
use Rattle.cif_lex.specs.declared.token.Word.TheVariants as w
use Rattle.cif_lex.specs.declared.token.Mark.TheVariants as m
use Rattle.cif_ast.specs.declared.names.Ident.{Ident}
use Rattle.cif_ast.specs.declared.names.Name.{Name}
use Rattle.cif_ast.specs.declared.expressions.Expr.{Expr}
use Rattle.cif_ast.specs.declared.declarations.TypeUse.{TypeUse}
use Rattle.cif_ast.specs.declared.declarations.Chan.{Chan}
use Rattle.cif_parse_expr.specs.TokenKinds.{sort, codes_of, sign}
use Rattle.cif_parse_expr.specs.Trees as form
use Rattle.cif_parse_expr.specs.Grammar.{ident, name, separated, IsExpr}
use Rattle.cif_parse_expr.specs.Reading.{first, first_word, first_sign, name_at}
use Rattle.cif_parse_expr.proofs.Agrees.{part_takes, name_takes, un_goes, expr_goes}
use Rattle.cif_parse_expr.proofs.Whole.{expr_takes}
use Rattle.cif_parse_decl.specs.Grammar.{type_use, channel}
use Rattle.cif_parse_decl.specs.Reading.{is_bare, is_labelled, leaves}

-- ---- an identifier, and no type

first_not : (ks : List ℕ) (x rest : List Token) → apart ks (first Id) ≡ true → Begins sort false ks x → is_bare (x ++ rest) ≡ false
unfolding is_bare
first_not ks [] rest e b = absurd cc
first_not ks (t ∷ x) rest e b = let no = apart-has ks (first Id) (sort t) e b in rw no refl

second_not : (t : Token) (rest : List Token) → starts sort (codes_of (Id ∷ Sign m.Dot ∷ [])) rest ≡ true → is_bare (t ∷ rest) ≡ false
unfolding is_bare
second_not t rest e = go (starts sort (first Id) (t ∷ []))
  where
    go : (a : Bool) → (a && not (starts sort (codes_of (Id ∷ Sign m.Dot ∷ [])) rest)) ≡ false
    go true = rw e refl
    go false = refl

dot_or_id : (z x rest : List Token) → Begins sort true (first_sign m.Dot) z → Begins sort false (first Id) x → starts sort (codes_of (Id ∷ Sign m.Dot ∷ [])) (z ++ (x ++ rest)) ≡ true
dot_or_id [] [] rest b c = absurd cc
dot_or_id [] (t ∷ x) rest b c = covers-has (codes_of (Id ∷ Sign m.Dot ∷ [])) (first Id) (sort t) refl c
dot_or_id (t ∷ z) x rest b c = covers-has (codes_of (Id ∷ Sign m.Dot ∷ [])) (first_sign m.Dot) (sort t) refl b

comma_or_end : (z rest : List Token) → Begins sort true (first_sign m.Comma) z → Stops sort (codes_of (Id ∷ Sign m.Dot ∷ Sign m.Comma ∷ [])) rest → starts sort (codes_of (Id ∷ Sign m.Dot ∷ [])) (z ++ rest) ≡ false
comma_or_end [] rest b s = stops_part sort (codes_of (Id ∷ Sign m.Dot ∷ Sign m.Comma ∷ [])) (codes_of (Id ∷ Sign m.Dot ∷ [])) rest refl s
comma_or_end (t ∷ z) rest b s = apart-has (first_sign m.Comma) (codes_of (Id ∷ Sign m.Dot ∷ [])) (sort t) refl b

module _ (text : Text) where
  name_not_bare : (n : Name) (x y rest : List Token) → name text n x → Begins sort false (first Id) y → is_bare (x ++ (y ++ rest)) ≡ false
  name_not_bare n x y rest ((Some dot, parts), (x1, x2, d, l, e), g) b =
      let begins : Begins sort false (first_sign m.Dot) x = begins_more sort (first_sign m.Dot) x x1 x2 ((one_takes sort (first_sign m.Dot)).begins dot x1 d) e in
      first_not (first_sign m.Dot) x (y ++ rest) refl begins
  name_not_bare n x y rest ((None, parts), (x1, x2, d, (v, (z1, z2, (tok, i, same), k, f), h), e), g) b =
      let dots = many_begins sort (first_sign m.Dot) (form.second <$> sign m.Dot & ident text) (part_takes text).begins v.1 z2 k in
      let front : x ≡ tok ∷ z2 = e ∙ ap (λ u. u ++ x2) d ∙ f ∙ ap (λ u. u ++ z2) i.1 in
      rw front (second_not tok (z2 ++ (y ++ rest)) (dot_or_id z2 y rest dots b))

  type_not_bare : (ty : TypeUse) (x y rest : List Token) → type_use text ty x → Begins sort false (first Id) y → is_bare (x ++ (y ++ rest)) ≡ false
  type_not_bare ty x y rest (inl d) b = first_not (first_word w.Bool) x (y ++ rest) refl ((one_takes sort (first_word w.Bool)).begins d.0 x d.1)
  type_not_bare ty x y rest (inr (inl (v, d, g))) b =
      first_not (first_word w.Int) x (y ++ rest) refl (begins_more sort (first_word w.Int) x d.0 d.1 ((one_takes sort (first_word w.Int)).begins v.0 d.0 d.2) d.4)
  type_not_bare ty x y rest (inr (inr (n, d, g))) b = name_not_bare n x y rest d b

  pub channel_not_bare : (c : Chan) (x y rest : List Token) → channel text c x → Begins sort false (first Id) y → is_bare (x ++ (y ++ rest)) ≡ false
  channel_not_bare c x y rest (inl (ty, d, g)) b = type_not_bare ty x y rest d b
  channel_not_bare c x y rest (inr (t, d, g)) b = first_not (first_word w.Void) x (y ++ rest) refl ((one_takes sort (first_word w.Void)).begins t x d)

  -- names with commas between them, each made into something
  pub names_bare : {A : Type 0} (make : Ident → A) (all : List A) (x rest : List Token) → separated m.Comma (make <$> ident text) all x
      → Stops sort (codes_of (Id ∷ Sign m.Dot ∷ Sign m.Comma ∷ [])) rest → is_bare (x ++ rest) ≡ true
  unfolding is_bare
  names_bare make all x rest (v, (z1, z2, (i, (tok, one, same), made), k, f), h) s =
      let next : (a : _) (u : List Token) → (form.second <$> sign m.Comma & (make <$> ident text)) a u → Begins sort false (first_sign m.Comma) u
      = λ a u d. begins_more sort (first_sign m.Comma) u d.1.0 d.1.1 ((one_takes sort (first_sign m.Comma)).begins d.0.0 d.1.0 d.1.2) d.1.4 in
      let commas = many_begins sort (first_sign m.Comma) (form.second <$> sign m.Comma & (make <$> ident text)) next v.1 z2 k in
      let front : x ≡ tok ∷ z2 = f ∙ ap (λ u. u ++ z2) one.1 in
      let after = comma_or_end z2 rest commas s in
      rw (front, one.0, after) refl

  -- ---- a name before a token of these kinds, and no expression

  -- a name is an expression
  name_is : (n : Name) (x : List Token) → name text n x → IsExpr text (form.named n) x
  unfolding IsExpr
  name_is n x d = inl (inl (inl (inl (inl (inl (inr (inr (inr (inr (inr (inr (inl (n, d, refl)))))))))))))

  stops_other : (ks : List ℕ) (u : List Token) → apart ks expr_goes ≡ true → starts sort ks u ≡ true → Stops sort expr_goes u
  stops_other ks [] e b = absurd cc
  stops_other ks (t ∷ u) e b = apart-has ks expr_goes (sort t) e b

  -- an expression that stops before none of these doesn't begin with a name before one
  pub expr_not_before : (ks : List ℕ) (e : Expr) (x rest : List Token) → apart ks expr_goes ≡ true → IsExpr text e x → Stops sort expr_goes rest → Stops sort ks rest → leaves ks (name_at text (x ++ rest)) ≡ false
  expr_not_before ks e x rest away d s z = go (name_at text (x ++ rest)) refl
    where
      go : (o : Read Token Name) → name_at text (x ++ rest) ≡ o → leaves ks o ≡ false
      go None is = refl
      go (Some p) is = last (starts sort ks p.1) refl
        where
          last : (b : Bool) → starts sort ks p.1 ≡ b → b ≡ false
          last false u = refl
          last true u =
              let k = (name_takes text).sound (x ++ rest) p.0 p.1 is in
              let same = one_front (expr_takes text) e (form.named p.0) x k.0 rest p.1 d (name_is p.0 k.0 k.1) s (stops_other ks p.1 away u) k.2 in
              let left : starts sort ks rest ≡ starts sort ks p.1 = ap (starts sort ks) same.1 in
              cc

  -- nor does a name
  pub name_not_before : (ks : List ℕ) (n : Name) (x rest : List Token) → apart ks un_goes ≡ true → name text n x → Stops sort un_goes rest → Stops sort ks rest → leaves ks (name_at text (x ++ rest)) ≡ false
  name_not_before ks n x rest away d s z = rw ((name_takes text).complete n x rest d s) z

  pub name_before : (ks : List ℕ) (n : Name) (x rest : List Token) → name text n x → Stops sort un_goes rest → starts sort ks rest ≡ true → leaves ks (name_at text (x ++ rest)) ≡ true
  name_before ks n x rest d s b = rw ((name_takes text).complete n x rest d s) b

  -- what begins with none of the tokens of a name isn't read as one
  pub other_not_before : (ks first_1 : List ℕ) (x rest : List Token) → apart first_1 (codes_of (Sign m.Dot ∷ Id ∷ [])) ≡ true → Begins sort false first_1 x → leaves ks (name_at text (x ++ rest)) ≡ false
  other_not_before ks first_1 [] rest e b = absurd cc
  other_not_before ks first_1 (t ∷ x) rest e b = go (name_at text (t ∷ (x ++ rest))) refl
    where
      front : (u v : List Token) → Begins sort false (codes_of (Sign m.Dot ∷ Id ∷ [])) u → t ∷ (x ++ rest) ≡ u ++ v → ⊥
      front [] v c f = absurd cc
      front (s ∷ u) v c f =
          let same : t ≡ s = cc in
          let no = apart-has first_1 (codes_of (Sign m.Dot ∷ Id ∷ [])) (sort t) e b in
          let code : sort t ≡ sort s = ap sort same in
          cc

      go : (o : Read Token Name) → name_at text (t ∷ (x ++ rest)) ≡ o → leaves ks o ≡ false
      go None is = refl
      go (Some p) is = let k = (name_takes text).sound (t ∷ (x ++ rest)) p.0 p.1 is in absurd (front k.0 p.1 ((name_takes text).begins p.0 k.0 k.1) k.2)

  -- ---- a label

  label_before : (ts : List Token) → is_labelled ts ≡ true → leaves (first_sign m.Colon) (name_at text ts) ≡ true
  unfolding is_labelled
  label_before [] e = absurd cc
  label_before (t ∷ ts) e = go (starts sort (first Id) (t ∷ [])) refl (starts sort (first_sign m.Colon) ts) refl e
    where
      go : (a : Bool) → starts sort (first Id) (t ∷ []) ≡ a → (b : Bool) → starts sort (first_sign m.Colon) ts ≡ b → (a && b) ≡ true → leaves (first_sign m.Colon) (name_at text (t ∷ ts)) ≡ true
      go false f b g h = absurd cc
      go true f false g h = absurd cc
      go true f true g h =
          let one_name : name text (form.name (None, form.ident text t ∷ [])) (t ∷ []) =
          ((None, form.ident text t ∷ []), ([], t ∷ [], refl, ((form.ident text t, []), (t ∷ [], [], (t, (f, refl), refl), refl, refl), refl), refl), refl) in
          name_before (first_sign m.Colon) (form.name (None, form.ident text t ∷ [])) (t ∷ []) ts one_name (stops_goes ts g) g
        where
          stops_goes : (u : List Token) → starts sort (first_sign m.Colon) u ≡ true → Stops sort un_goes u
          stops_goes [] b = absurd cc
          stops_goes (s ∷ u) b = apart-has (first_sign m.Colon) un_goes (sort s) refl b

  pub not_labelled : (ts : List Token) → leaves (first_sign m.Colon) (name_at text ts) ≡ false → is_labelled ts ≡ false
  not_labelled ts e = go (is_labelled ts) refl
    where
      go : (b : Bool) → is_labelled ts ≡ b → b ≡ false
      go false f = refl
      go true f = let l = label_before ts f in cc

  pub labelled : (i : Ident) (x y rest : List Token) → ident text i x → Begins sort false (first_sign m.Colon) y → is_labelled (x ++ (y ++ rest)) ≡ true
  unfolding is_labelled
  labelled i x y rest (t, one, g) b = rw (one.1, one.0, starts_with sort (first_sign m.Colon) y rest b) refl
