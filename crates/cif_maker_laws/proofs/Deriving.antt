-- What tokens derive, form by form, from what they are spelled.
use Rattle.std.proofs.Common.{◌≡◌, ℕ, true, false, List, [], ◌∷◌, ◌++◌, Some, None, refl, sym, ap, inl, inr}
use Rattle.grammar.specs.Pieces.{Text}
use Rattle.grammar.specs.Lang.{Lang}
use Rattle.cif_base.specs.declared.types.Span.{Span}
use Rattle.cif_lex.specs.declared.token.Token.{Token}
use Rattle.cif_lex.specs.declared.token.TokenKind.{TokenKind}
use Rattle.cif_lex.specs.declared.token.TokenKind.TheVariants.{Id, Reserved, Number, Sign}
use Rattle.cif_lex.specs.declared.token.Word.{Word}
use Rattle.cif_lex.specs.declared.token.Word.TheVariants as w
use Rattle.cif_lex.specs.declared.token.Mark.{Mark}
use Rattle.cif_lex.specs.declared.token.Mark.TheVariants as m
use Rattle.cif_ast.specs.declared.declarations.Class.TheVariants as class
use Rattle.cif_ast.specs.declared.declarations.Chan.TheVariants as chan
use Rattle.cif_ast.specs.declared.declarations.TypeUse.TheVariants as type
use Rattle.cif_ast.specs.declared.declarations.Decl.{Decl}
use Rattle.cif_ast.specs.declared.declarations.Decl.TheVariants as decl
use Rattle.cif_ast.specs.declared.declarations.Inv.TheVariants as inv
use Rattle.cif_ast.specs.declared.expressions.Expr.{Expr}
use Rattle.cif_ast.specs.declared.expressions.Term.{roll-Term}
use Rattle.cif_ast.specs.declared.components.Item.TheVariants as items
use Rattle.cif_maker_laws.specs.MadeTree.{ident_at, name_at, dotted_at}
use Rattle.cif_maker_laws.specs.MadeSpec.{named_at, simple_at, number_at, less_at, guard_at, sum_at}
use Rattle.cif_parse_expr.specs.Spelling.{spelling, value, is_small}
use Rattle.cif_parse_expr.specs.Trees as tree
use Rattle.cif_parse_expr.specs.Grammar.{Level, at_cmp, ident, name, prim, below, IsExpr}
use Rattle.cif_parse_decl.specs.Grammar.{disc_declaration}
use Rattle.cif_parse.specs.Grammar.{item}

abbrev pub tok : TokenKind → Span → Token
tok k s = record { kind = k; span = s }

abbrev pub word_tok : Word → Span → Token
word_tok k s = tok (Reserved k) s

abbrev pub sign_tok : Mark → Span → Token
sign_tok k s = tok (Sign k) s

module _ (text : Text) where
  -- the identifier there is spelled so
  abbrev pub Names : Span → Text → Type 0
  Names s x = spelling text (tok Id s) ≡ x

  -- the number there is this one
  abbrev pub Numbers : Span → ℕ → Type 0
  Numbers s n = (is_small text (tok Number s) ≡ true) × (value text (tok Number s) ≡ n)

  pub ident_is : (s : Span) (x : Text) → Names s x → ident text (ident_at x s.from) (tok Id s ∷ [])
  ident_is s x e = (tok Id s, (refl, refl), ap (λ (t : Text). ident_at t s.from) (sym e))

  pub name_is : (s : Span) (x : Text) → Names s x → name text (name_at x s.from) (tok Id s ∷ [])
  name_is s x e = (
    (None, ident_at x s.from ∷ []),
    (
      [],
      tok Id s ∷ [],
      refl,
      ((ident_at x s.from, []), (tok Id s ∷ [], [], ident_is s x e, refl, refl), refl),
      refl,
    ),
    refl,
  )

  -- ---- expressions

  module _ (inner : Level → Lang Token Expr) where
    pub prim_named : (s : Span) (x : Text) → Names s x → prim text inner (simple_at x s.from) (tok Id s ∷ [])
    prim_named s x e = inr (inr (inr (inl (name_at x s.from, name_is s x e, refl))))

    pub prim_number : (s : Span) (n : ℕ) → Numbers s n → prim text inner (number_at n s.from) (tok Number s ∷ [])
    prim_number s n e = inr (inr (inl (tok Number s, (e.0, (refl, refl)), ap (λ (k : ℕ). number_at k s.from) (sym e.1))))

  pub number_is : (s : Span) (n : ℕ) → Numbers s n → IsExpr text (number_at n s.from) (tok Number s ∷ [])
  unfolding IsExpr
  number_is s n e = inl (inl (inl (inl (inl (inl (inr (inr (inr (prim_number (below text 100) s n e)))))))))

  named_is : (s : Span) (x : Text) → Names s x → IsExpr text (simple_at x s.from) (tok Id s ∷ [])
  unfolding IsExpr
  named_is s x e = inl (inl (inl (inl (inl (inl (inr (inr (inr (prim_named (below text 100) s x e)))))))))

  compared_named : (s : Span) (x : Text) → Names s x → below text 100 at_cmp (simple_at x s.from) (tok Id s ∷ [])
  unfolding below
  compared_named s x e = inl (inl (inl (inr (inr (inr (prim_named (below text 99) s x e))))))

  -- x < n
  less_is : (s t r : Span) (x : Text) (n : ℕ) → Names s x → Numbers r n
      → below text 100 at_cmp (less_at x n s.from r.from) (tok Id s ∷ sign_tok m.Less t ∷ tok Number r ∷ [])
  unfolding below tree.place
  less_is s t r x n e g =
      inr (
        (simple_at x s.from, (sign_tok m.Less t, number_at n r.from)),
        (
          tok Id s ∷ [],
          sign_tok m.Less t ∷ tok Number r ∷ [],
          inl (inl (inr (inr (inr (prim_named (below text 98) s x e))))),
          (sign_tok m.Less t ∷ [], tok Number r ∷ [], (refl, refl), inl (inl (inr (inr (inr (prim_number (below text 98) r n g))))), refl),
          refl,
        ),
        refl,
      )

  -- c and x < n
  pub guard_is : (s a u t r : Span) (c x : Text) (n : ℕ) → Names s c → Names u x → Numbers r n
      → IsExpr text (guard_at c x n s.from u.from r.from)
      (tok Id s ∷ word_tok w.And a ∷ tok Id u ∷ sign_tok m.Less t ∷ tok Number r ∷ [])
  unfolding IsExpr tree.place
  guard_is s a u t r c x n e g h =
      let less : Expr = less_at x n u.from r.from in
      let right : List Token = tok Id u ∷ sign_tok m.Less t ∷ tok Number r ∷ [] in
      inl (inl (inr (
        (simple_at c s.from, less ∷ []),
        (
          tok Id s ∷ [],
          word_tok w.And a ∷ right,
          compared_named s c e,
          (
            word_tok w.And a ∷ right,
            [],
            ((word_tok w.And a, less), (word_tok w.And a ∷ [], right, (refl, refl), less_is u t r x n g h, refl), refl),
            refl,
            refl,
          ),
          refl,
        ),
        refl,
      )))

  -- x + n
  pub sum_is : (s t r : Span) (x : Text) (n : ℕ) → Names s x → Numbers r n
      → IsExpr text (sum_at x n s.from r.from)
      (tok Id s ∷ sign_tok m.Plus t ∷ tok Number r ∷ [])
  unfolding IsExpr below tree.place
  sum_is s t r x n e g =
      inl (inl (inl (inl (inr (
        (simple_at x s.from, roll-Term (record { minus = false; value = number_at n r.from }) ∷ []),
        (
          tok Id s ∷ [],
          sign_tok m.Plus t ∷ tok Number r ∷ [],
          inl (inr (inr (inr (prim_named (below text 99) s x e)))),
          (
            sign_tok m.Plus t ∷ tok Number r ∷ [],
            [],
            ((sign_tok m.Plus t, number_at n r.from), (sign_tok m.Plus t ∷ [], tok Number r ∷ [], (refl, refl), inl (inr (inr (inr (prim_number (below text 99) r n g)))), refl), refl),
            refl,
            refl,
          ),
          refl,
        ),
        refl,
      )))))

  -- a . b
  pub dotted_is : (s d t : Span) (x y : Text) → Names s x → Names t y
      → IsExpr text (named_at (dotted_at x y s.from t.from) s.from)
      (tok Id s ∷ sign_tok m.Dot d ∷ tok Id t ∷ [])
  unfolding IsExpr
  dotted_is s d t x y e g =
      let after : List Token = sign_tok m.Dot d ∷ tok Id t ∷ [] in
      inl (inl (inl (inl (inl (inl (inr (inr (inr (inr (inr (inr (inl (
        dotted_at x y s.from t.from,
        (
          (None, ident_at x s.from ∷ ident_at y t.from ∷ []),
          (
            [],
            tok Id s ∷ after,
            refl,
            (
              (ident_at x s.from, ident_at y t.from ∷ []),
              (
                tok Id s ∷ [],
                after,
                ident_is s x e,
                (after, [], ((sign_tok m.Dot d, ident_at y t.from), (sign_tok m.Dot d ∷ [], tok Id t ∷ [], (refl, refl), ident_is t y g, refl), refl), refl, refl),
                refl,
              ),
              refl,
            ),
            refl,
          ),
          refl,
        ),
        refl,
      )))))))))))))

  -- ---- declarations

  -- uncontrollable x ;
  pub uncontrollable_is : (s t r : Span) (x : Text) → Names t x
      → item text 101 (items.Decl (decl.Event class.Unc chan.No (ident_at x t.from)) ∷ []) (word_tok w.Uncontrollable s ∷ tok Id t ∷ sign_tok m.Semicolon r ∷ [])
  unfolding item
  uncontrollable_is s t r x e =
      let d : Decl = decl.Event class.Unc chan.No (ident_at x t.from) in
      inl (
        d ∷ [],
        inl (inr (inr (inl (
          (d ∷ [], sign_tok m.Semicolon r),
          (
            word_tok w.Uncontrollable s ∷ tok Id t ∷ [],
            sign_tok m.Semicolon r ∷ [],
            (
              class.Unc,
              word_tok w.Uncontrollable s ∷ [],
              tok Id t ∷ [],
              (word_tok w.Uncontrollable s, (refl, refl), refl),
              (None, [], tok Id t ∷ [], refl, ((d, []), (tok Id t ∷ [], [], (ident_at x t.from, ident_is t x e, refl), refl, refl), refl), refl),
              refl,
            ),
            (refl, refl),
            refl,
          ),
          refl,
        )))),
        refl,
      )

  -- controllable x ;
  pub controllable_is : (s t r : Span) (x : Text) → Names t x
      → item text 101 (items.Decl (decl.Event class.Con chan.No (ident_at x t.from)) ∷ []) (word_tok w.Controllable s ∷ tok Id t ∷ sign_tok m.Semicolon r ∷ [])
  unfolding item
  controllable_is s t r x e =
      let d : Decl = decl.Event class.Con chan.No (ident_at x t.from) in
      inl (
        d ∷ [],
        inl (inr (inr (inl (
          (d ∷ [], sign_tok m.Semicolon r),
          (
            word_tok w.Controllable s ∷ tok Id t ∷ [],
            sign_tok m.Semicolon r ∷ [],
            (
              class.Con,
              word_tok w.Controllable s ∷ [],
              tok Id t ∷ [],
              (word_tok w.Controllable s, (refl, refl), refl),
              (None, [], tok Id t ∷ [], refl, ((d, []), (tok Id t ∷ [], [], (ident_at x t.from, ident_is t x e, refl), refl, refl), refl), refl),
              refl,
            ),
            (refl, refl),
            refl,
          ),
          refl,
        )))),
        refl,
      )

  -- input bool x ;
  pub input_is : (s b t r : Span) (x : Text) → Names t x
      → item text 101 (items.Decl (decl.Input type.Bool (ident_at x t.from)) ∷ []) (word_tok w.Input s ∷ word_tok w.Bool b ∷ tok Id t ∷ sign_tok m.Semicolon r ∷ [])
  unfolding item
  input_is s b t r x e =
      let d : Decl = decl.Input type.Bool (ident_at x t.from) in
      let end : List Token = sign_tok m.Semicolon r ∷ [] in
      inl (
        d ∷ [],
        inl (inr (inr (inr (inr (inr (inl (
          (word_tok w.Input s, (d ∷ [], sign_tok m.Semicolon r)),
          (
            word_tok w.Input s ∷ [],
            word_tok w.Bool b ∷ tok Id t ∷ end,
            (refl, refl),
            (
              word_tok w.Bool b ∷ tok Id t ∷ [],
              end,
              (
                type.Bool,
                word_tok w.Bool b ∷ [],
                tok Id t ∷ [],
                inl (word_tok w.Bool b, (refl, refl), refl),
                ((d, []), (tok Id t ∷ [], [], (ident_at x t.from, ident_is t x e, refl), refl, refl), refl),
                refl,
              ),
              (refl, refl),
              refl,
            ),
            refl,
          ),
          refl,
        ))))))),
        refl,
      )

  -- requirement c needs a . b ;
  pub need_is : (s c n a d b r : Span) (x y z : Text) → Names c x → Names a y → Names b z
      → item text 101 (items.Decl (decl.Inv (inv.Needs (name_at x c.from ∷ [])
      (named_at (dotted_at y z a.from b.from) a.from))) ∷ [])
      (word_tok w.Requirement s ∷ tok Id c ∷ word_tok w.Needs n ∷ tok Id a ∷ sign_tok m.Dot d ∷ tok Id b ∷ sign_tok m.Semicolon r ∷ [])
  unfolding item
  need_is s c n a d b r x y z e g h =
      let p : Expr = named_at (dotted_at y z a.from b.from) a.from in
      let right : List Token = tok Id a ∷ sign_tok m.Dot d ∷ tok Id b ∷ [] in
      let whole : List Token = tok Id c ∷ word_tok w.Needs n ∷ right in
      let end : List Token = sign_tok m.Semicolon r ∷ [] in
      let one : Decl = decl.Inv (inv.Needs (name_at x c.from ∷ []) p) in
      inl (
        one ∷ [],
        inr (inr (
          (word_tok w.Requirement s, (one ∷ [], sign_tok m.Semicolon r)),
          (
            word_tok w.Requirement s ∷ [],
            whole ++ end,
            (refl, refl),
            (
              whole,
              end,
              (
                (one, []),
                (
                  whole,
                  [],
                  (
                    inv.Needs (name_at x c.from ∷ []) p,
                    inr (inl (
                      (name_at x c.from ∷ [], (word_tok w.Needs n, p)),
                      (
                        tok Id c ∷ [],
                        word_tok w.Needs n ∷ right,
                        inl (name_at x c.from, name_is c x e, refl),
                        (word_tok w.Needs n ∷ [], right, (refl, refl), dotted_is a d b y z g h, refl),
                        refl,
                      ),
                      refl,
                    )),
                    refl,
                  ),
                  refl,
                  refl,
                ),
                refl,
              ),
              (refl, refl),
              refl,
            ),
            refl,
          ),
          refl,
        )),
        refl,
      )

  -- disc int [ k .. n ] x = v ;
  pub disc_is : (s i l k o n c x q v r : Span) (lower upper start : ℕ) (t : Text) → Numbers k lower → Numbers n upper → Names x t → Numbers v start
      → disc_declaration text (decl.Disc (type.Range (number_at lower k.from) (number_at upper n.from)) (ident_at t x.from) (Some (number_at start v.from)) ∷ [])
      (word_tok w.Disc s ∷ word_tok w.Int i ∷ sign_tok m.OpenBracket l ∷ tok Number k ∷ sign_tok m.Range o ∷ tok Number n ∷ sign_tok m.CloseBracket c
      ∷ tok Id x ∷ sign_tok m.Equal q ∷ tok Number v ∷ sign_tok m.Semicolon r ∷ [])
  disc_is s i l k o n c x q v r lower upper start t ek en ex ev =
      let low : Expr = number_at lower k.from in
      let high : Expr = number_at upper n.from in
      let d : Decl = decl.Disc (type.Range low high) (ident_at t x.from) (Some (number_at start v.from)) in
      let upto : List Token = tok Number n ∷ sign_tok m.CloseBracket c ∷ [] in
      let range : List Token = sign_tok m.OpenBracket l ∷ tok Number k ∷ sign_tok m.Range o ∷ upto in
      let valued : List Token = tok Id x ∷ sign_tok m.Equal q ∷ tok Number v ∷ [] in
      let end : List Token = sign_tok m.Semicolon r ∷ [] in (
        (word_tok w.Disc s, (d ∷ [], sign_tok m.Semicolon r)),
        (
          word_tok w.Disc s ∷ [],
          (word_tok w.Int i ∷ range) ++ valued ++ end,
          (refl, refl),
          (
            (word_tok w.Int i ∷ range) ++ valued,
            end,
            (
              type.Range low high,
              word_tok w.Int i ∷ range,
              valued,
              inr (inl (
                (word_tok w.Int i, Some (low, high)),
                (
                  word_tok w.Int i ∷ [],
                  range,
                  (refl, refl),
                  (
                    (sign_tok m.OpenBracket l, (low, (sign_tok m.Range o, (high, sign_tok m.CloseBracket c)))),
                    (
                      sign_tok m.OpenBracket l ∷ [],
                      tok Number k ∷ sign_tok m.Range o ∷ upto,
                      (refl, refl),
                      (
                        tok Number k ∷ [],
                        sign_tok m.Range o ∷ upto,
                        number_is k lower ek,
                        (
                          sign_tok m.Range o ∷ [],
                          upto,
                          (refl, refl),
                          (tok Number n ∷ [], sign_tok m.CloseBracket c ∷ [], number_is n upper en, (refl, refl), refl),
                          refl,
                        ),
                        refl,
                      ),
                      refl,
                    ),
                    refl,
                  ),
                  refl,
                ),
                refl,
              )),
              (
                (d, []),
                (
                  valued,
                  [],
                  (
                    (ident_at t x.from, Some (number_at start v.from)),
                    (
                      tok Id x ∷ [],
                      sign_tok m.Equal q ∷ tok Number v ∷ [],
                      ident_is x t ex,
                      ((sign_tok m.Equal q, number_at start v.from), (sign_tok m.Equal q ∷ [], tok Number v ∷ [], (refl, refl), number_is v start ev, refl), refl),
                      refl,
                    ),
                    refl,
                  ),
                  refl,
                  refl,
                ),
                refl,
              ),
              refl,
            ),
            (refl, refl),
            refl,
          ),
          refl,
        ),
        refl,
      )
