-- What the tokens of a plant with two locations derive.
use Rattle.std.proofs.Common.{◌≡◌, ℕ, true, false, List, [], ◌∷◌, ◌++◌, Some, None, refl, inl, inr}
use Rattle.grammar.specs.Pieces.{Text}
use Rattle.cif_base.specs.declared.types.Span.{Span}
use Rattle.cif_lex.specs.declared.token.Token.{Token}
use Rattle.cif_lex.specs.declared.token.TokenKind.TheVariants.{Id, Number}
use Rattle.cif_lex.specs.declared.token.Word.TheVariants as w
use Rattle.cif_lex.specs.declared.token.Mark.TheVariants as m
use Rattle.cif_ast.specs.declared.declarations.Decl.{Decl}
use Rattle.cif_ast.specs.declared.expressions.Expr.{Expr}
use Rattle.cif_ast.specs.declared.edges.Update.{Update}
use Rattle.cif_ast.specs.declared.edges.Update.TheVariants as update
use Rattle.cif_ast.specs.declared.edges.Edge.{Edge}
use Rattle.cif_ast.specs.declared.edges.Loc.{Loc}
use Rattle.cif_ast.specs.declared.components.AutoBody.{AutoBody}
use Rattle.cif_ast.specs.declared.components.Body.TheVariants as body
use Rattle.cif_ast.specs.declared.components.Comp.{roll-Comp}
use Rattle.cif_ast.specs.declared.components.Item.TheVariants as items
use Rattle.cif_parse.specs.declared.elements.Element.TheVariants as elements
use Rattle.cif_parse.specs.declared.bodies.BodyElement.TheVariants as body_elements
use Rattle.cif_parse.specs.Trees as tree
use Rattle.cif_parse.specs.Grammar.{update, event_use, edge, element, location, item}
use Rattle.cif_parse_decl.specs.Grammar.{disc_declaration}
use Rattle.cif_maker_laws.specs.MadeTree.{ident_at, name_at}
use Rattle.cif_maker_laws.specs.MadeSpec.{guard_at, sum_at, use_at}
use Rattle.cif_maker_laws.proofs.Deriving.{tok, word_tok, sign_tok, Names, Numbers, ident_is, name_is, guard_is, sum_is}

module _ (text : Text) where
  use_is : (s : Span) (x : Text) → Names text s x → event_use text (use_at x s.from) (tok Id s ∷ [])
  use_is s x e = ((name_at x s.from, None), (tok Id s ∷ [], [], name_is text s x e, refl, refl), refl)

  -- : edge c goto l ;
  pub short_edge_is : (e c g l r : Span) (x y : Text) → Names text c x → Names text l y
      → element text (elements.Edge (record { uses = use_at x c.from ∷ []; guards = []; updates = []; target = Some (ident_at y l.from) }))
      (word_tok w.Edge e ∷ tok Id c ∷ word_tok w.Goto g ∷ tok Id l ∷ sign_tok m.Semicolon r ∷ [])
  short_edge_is e c g l r x y ex ey =
      let goes : List Token = word_tok w.Goto g ∷ tok Id l ∷ [] in
      let end : List Token = sign_tok m.Semicolon r ∷ [] in
      inr (inr (inr (
        record { uses = use_at x c.from ∷ []; guards = []; updates = []; target = Some (ident_at y l.from) },
        (
          (word_tok w.Edge e, (use_at x c.from ∷ [], ([], ([], Some (ident_at y l.from))))),
          (
            word_tok w.Edge e ∷ [],
            tok Id c ∷ (goes ++ end),
            (refl, refl),
            (
              tok Id c ∷ [],
              goes ++ end,
              ((use_at x c.from, []), (tok Id c ∷ [], [], use_is c x ex, refl, refl), refl),
              (
                [],
                goes ++ end,
                (None, refl, refl),
                (
                  ([], (Some (ident_at y l.from), sign_tok m.Semicolon r)),
                  (
                    [],
                    goes ++ end,
                    (None, refl, refl),
                    (
                      goes,
                      end,
                      ((word_tok w.Goto g, ident_at y l.from), (word_tok w.Goto g ∷ [], tok Id l ∷ [], (refl, refl), ident_is text l y ey, refl), refl),
                      (refl, refl),
                      refl,
                    ),
                    refl,
                  ),
                  refl,
                ),
                refl,
              ),
              refl,
            ),
            refl,
          ),
          refl,
        ),
        refl,
      )))

  -- edge c when s and x < n do x := x + k goto l ;
  pub long_edge_is : (e c h s a u t n d v q o p k g l r : Span) (event sensor x y : Text) (most step : ℕ)
      → Names text c event → Names text s sensor → Names text u x → Numbers text n most → Names text v x → Names text o x → Numbers text k step → Names text l y
      → element text (elements.Edge (record {
        uses = use_at event c.from ∷ [];
        guards = guard_at sensor x most s.from u.from n.from ∷ [];
        updates = update.Set (name_at x v.from) (sum_at x step o.from k.from) ∷ [];
        target = Some (ident_at y l.from);
      }))
      (word_tok w.Edge e ∷ tok Id c ∷ word_tok w.When h ∷ tok Id s ∷ word_tok w.And a ∷ tok Id u ∷ sign_tok m.Less t ∷ tok Number n
      ∷ word_tok w.«Do» d ∷ tok Id v ∷ sign_tok m.Assign q ∷ tok Id o ∷ sign_tok m.Plus p ∷ tok Number k
      ∷ word_tok w.Goto g ∷ tok Id l ∷ sign_tok m.Semicolon r ∷ [])
  unfolding update
  long_edge_is e c h s a u t n d v q o p k g l r event sensor x y most step ec es eu en ev eo ek el =
      let guards : List Token = tok Id s ∷ word_tok w.And a ∷ tok Id u ∷ sign_tok m.Less t ∷ tok Number n ∷ [] in
      let summed : List Token = tok Id o ∷ sign_tok m.Plus p ∷ tok Number k ∷ [] in
      let sets : List Token = tok Id v ∷ sign_tok m.Assign q ∷ summed in
      let goes : List Token = word_tok w.Goto g ∷ tok Id l ∷ [] in
      let end : List Token = sign_tok m.Semicolon r ∷ [] in
      let guard : Expr = guard_at sensor x most s.from u.from n.from in
      let value : Expr = sum_at x step o.from k.from in
      let set : Update = update.Set (name_at x v.from) value in
      let last : List Token = (word_tok w.«Do» d ∷ sets) ++ (goes ++ end) in
      inr (inr (inr (
        record { uses = use_at event c.from ∷ []; guards = guard ∷ []; updates = set ∷ []; target = Some (ident_at y l.from) },
        (
          (word_tok w.Edge e, (use_at event c.from ∷ [], (guard ∷ [], (set ∷ [], Some (ident_at y l.from))))),
          (
            word_tok w.Edge e ∷ [],
            tok Id c ∷ ((word_tok w.When h ∷ guards) ++ last),
            (refl, refl),
            (
              tok Id c ∷ [],
              (word_tok w.When h ∷ guards) ++ last,
              ((use_at event c.from, []), (tok Id c ∷ [], [], use_is c event ec, refl, refl), refl),
              (
                word_tok w.When h ∷ guards,
                last,
                (
                  Some (guard ∷ []),
                  (
                    (word_tok w.When h, guard ∷ []),
                    (
                      word_tok w.When h ∷ [],
                      guards,
                      (refl, refl),
                      ((guard, []), (guards, [], guard_is text s a u t n sensor x most es eu en, refl, refl), refl),
                      refl,
                    ),
                    refl,
                  ),
                  refl,
                ),
                (
                  (set ∷ [], (Some (ident_at y l.from), sign_tok m.Semicolon r)),
                  (
                    word_tok w.«Do» d ∷ sets,
                    goes ++ end,
                    (
                      Some (set ∷ []),
                      (
                        (word_tok w.«Do» d, set ∷ []),
                        (
                          word_tok w.«Do» d ∷ [],
                          sets,
                          (refl, refl),
                          (
                            (set, []),
                            (
                              sets,
                              [],
                              inl (
                                (name_at x v.from, (sign_tok m.Assign q, value)),
                                (
                                  tok Id v ∷ [],
                                  sign_tok m.Assign q ∷ summed,
                                  name_is text v x ev,
                                  (sign_tok m.Assign q ∷ [], summed, (refl, refl), sum_is text o p k x step eo ek, refl),
                                  refl,
                                ),
                                refl,
                              ),
                              refl,
                              refl,
                            ),
                            refl,
                          ),
                          refl,
                        ),
                        refl,
                      ),
                      refl,
                    ),
                    (
                      goes,
                      end,
                      ((word_tok w.Goto g, ident_at y l.from), (word_tok w.Goto g ∷ [], tok Id l ∷ [], (refl, refl), ident_is text l y el, refl), refl),
                      (refl, refl),
                      refl,
                    ),
                    refl,
                  ),
                  refl,
                ),
                refl,
              ),
              refl,
            ),
            refl,
          ),
          refl,
        ),
        refl,
      )))

  -- location x : and one edge
  pub one_edge_location_is : (l x c : Span) (name : Text) (edge : Edge) (ts : List Token) → Names text x name → element text (elements.Edge edge) ts
      → location text (record { name = Some (ident_at name x.from); initial = false; marked = []; equations = []; edges = edge ∷ [] })
      (word_tok w.Location l ∷ tok Id x ∷ sign_tok m.Colon c ∷ (ts ++ []))
  unfolding tree.location_of
  one_edge_location_is l x c name edge ts ex d = (
    (word_tok w.Location l, (Some (ident_at name x.from), elements.Edge edge ∷ [])),
    (
      word_tok w.Location l ∷ [],
      tok Id x ∷ sign_tok m.Colon c ∷ (ts ++ []),
      (refl, refl),
      (
        tok Id x ∷ [],
        sign_tok m.Colon c ∷ (ts ++ []),
        ident_is text x name ex,
        inr ((sign_tok m.Colon c, elements.Edge edge ∷ []), (sign_tok m.Colon c ∷ [], ts ++ [], (refl, refl), (ts, [], d, refl, refl), refl), refl),
        refl,
      ),
      refl,
    ),
    refl,
  )

  -- location x : initial ; marked ; and one edge
  pub initial_location_is : (l x c i s k t : Span) (name : Text) (edge : Edge) (ts : List Token) → Names text x name → element text (elements.Edge edge) ts
      → location text (record { name = Some (ident_at name x.from); initial = true; marked = []; equations = []; edges = edge ∷ [] })
      (word_tok w.Location l ∷ tok Id x ∷ sign_tok m.Colon c ∷ word_tok w.Initial i ∷ sign_tok m.Semicolon s ∷ word_tok w.Marked k ∷ sign_tok m.Semicolon t ∷ (ts ++ []))
  unfolding tree.location_of
  initial_location_is l x c i s k t name edge ts ex d =
      let marks : List Token = word_tok w.Marked k ∷ sign_tok m.Semicolon t ∷ [] in
      let starts : List Token = word_tok w.Initial i ∷ sign_tok m.Semicolon s ∷ [] in
      let all : List Token = starts ++ (marks ++ (ts ++ [])) in (
        (word_tok w.Location l, (Some (ident_at name x.from), elements.Initial ∷ elements.Marked [] ∷ elements.Edge edge ∷ [])),
        (
          word_tok w.Location l ∷ [],
          tok Id x ∷ sign_tok m.Colon c ∷ all,
          (refl, refl),
          (
            tok Id x ∷ [],
            sign_tok m.Colon c ∷ all,
            ident_is text x name ex,
            inr (
              (sign_tok m.Colon c, elements.Initial ∷ elements.Marked [] ∷ elements.Edge edge ∷ []),
              (
                sign_tok m.Colon c ∷ [],
                all,
                (refl, refl),
                (
                  starts,
                  marks ++ (ts ++ []),
                  inl (
                    (word_tok w.Initial i, (None, sign_tok m.Semicolon s)),
                    (
                      word_tok w.Initial i ∷ [],
                      sign_tok m.Semicolon s ∷ [],
                      (refl, refl),
                      ([], sign_tok m.Semicolon s ∷ [], refl, (refl, refl), refl),
                      refl,
                    ),
                    refl,
                  ),
                  (
                    marks,
                    ts ++ [],
                    inr (inl (
                      (word_tok w.Marked k, ([], sign_tok m.Semicolon t)),
                      (
                        word_tok w.Marked k ∷ [],
                        sign_tok m.Semicolon t ∷ [],
                        (refl, refl),
                        ([], sign_tok m.Semicolon t ∷ [], (None, refl, refl), (refl, refl), refl),
                        refl,
                      ),
                      refl,
                    )),
                    (ts, [], d, refl, refl),
                    refl,
                  ),
                  refl,
                ),
                refl,
              ),
              refl,
            ),
            refl,
          ),
          refl,
        ),
        refl,
      )

  -- plant x : one variable, two locations, end
  pub plant_is : (p x c n : Span) (name : Text) (d : Decl) (a b : Loc) (ds first second : List Token) → Names text x name
      → disc_declaration text (d ∷ []) ds → location text a first → location text b second
      → tree.is_automaton (body_elements.Decls (d ∷ []) ∷ [], a ∷ b ∷ []) ≡ true
      → item text 101 (items.Comp (roll-Comp (record { name = ident_at name x.from; body = body.Auto (record { decls = d ∷ []; alphabet = None; monitor = None; locs = a ∷ b ∷ [] }) })) ∷ [])
      (word_tok w.Plant p ∷ tok Id x ∷ sign_tok m.Colon c ∷ (((ds ++ []) ++ (first ++ (second ++ []))) ++ word_tok w.End n ∷ []))
  unfolding item tree.automaton_of
  plant_is p x c n name d a b ds first second ex dd da db named =
      let auto : AutoBody = record { decls = d ∷ []; alphabet = None; monitor = None; locs = a ∷ b ∷ [] } in
      let inner : List Token = (ds ++ []) ++ (first ++ (second ++ [])) in
      let end : List Token = word_tok w.End n ∷ [] in
      inr (inl (
        items.Comp (roll-Comp (record { name = ident_at name x.from; body = body.Auto auto })),
        inr (
          (word_tok w.Plant p, (ident_at name x.from, body.Auto auto)),
          (
            word_tok w.Plant p ∷ [],
            tok Id x ∷ sign_tok m.Colon c ∷ (inner ++ end),
            inr ((word_tok w.Plant p, None), (word_tok w.Plant p ∷ [], [], (refl, refl), refl, refl), refl),
            (
              tok Id x ∷ [],
              sign_tok m.Colon c ∷ (inner ++ end),
              ident_is text x name ex,
              (
                (sign_tok m.Colon c, (auto, word_tok w.End n)),
                (
                  sign_tok m.Colon c ∷ [],
                  inner ++ end,
                  (refl, refl),
                  (
                    inner,
                    end,
                    (
                      (body_elements.Decls (d ∷ []) ∷ [], a ∷ b ∷ []),
                      (
                        named,
                        (
                          ds ++ [],
                          first ++ (second ++ []),
                          (ds, [], inr (inl (d ∷ [], dd, refl)), refl, refl),
                          ((a, b ∷ []), (first, second ++ [], da, (second, [], db, refl, refl), refl), refl),
                          refl,
                        ),
                      ),
                      refl,
                    ),
                    (refl, refl),
                    refl,
                  ),
                  refl,
                ),
                refl,
              ),
              refl,
            ),
            refl,
          ),
          refl,
        ),
        refl,
      ))
