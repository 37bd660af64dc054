-- What is read is what the grammar of a source derives.
use Rattle.std.proofs.Common.{◌≡◌, ℕ, zero, suc, List, [], ◌∷◌, ◌++◌, Bool, true, false, ◌||◌, map, Some, None, refl, sym, ap, subst, ◌∙◌, append_assoc, inl, inr}
use Rattle.grammar.specs.Pieces.{Text}
use Rattle.grammar.specs.Lang.{Lang, ◌&◌, ◌∣◌, ◌<$>◌, many, list, such_that, nothing, optional, has, flat}
use Rattle.grammar.specs.Reader.{Reader, none_at, starts}
use Rattle.grammar.proofs.Laws.{Takes, Begins, covers-has}
use Rattle.grammar.proofs.Plain.{one_takes, map_takes, both_takes, either_takes, when_takes, optional_takes, many_takes, list_takes, such_takes, nothing_takes, same, wider, begins_more, begins_wider, starts_with}
use Rattle.cif_lex.specs.declared.token.Token.{Token}
use Rattle.cif_lex.specs.declared.token.TokenKind.TheVariants.{Id, Reserved, Sign}
use Rattle.cif_lex.specs.declared.token.Word.TheVariants as w
use Rattle.cif_lex.specs.declared.token.Mark.TheVariants as m
use Rattle.cif_ast.specs.declared.edges.Update.{Update}
use Rattle.cif_ast.specs.declared.edges.Role.TheVariants as roles
use Rattle.cif_ast.specs.declared.edges.Loc.{Loc}
use Rattle.cif_ast.specs.declared.components.Body.{Body}
use Rattle.cif_ast.specs.declared.components.Item.{Item}
use Rattle.cif_ast.specs.declared.components.Item.TheVariants as item
use Rattle.cif_parse_expr.specs.TokenKinds.{sort, codes_of, word, sign}
use Rattle.cif_parse_expr.specs.Trees.{second}
use Rattle.cif_parse_expr.specs.Grammar.{ident, names, separated}
use Rattle.cif_parse_expr.specs.Reading.{first, first_word, first_sign, separated_at}
use Rattle.cif_parse_expr.proofs.Agrees.{expr_goes, ident_takes, name_takes}
use Rattle.cif_parse_expr.proofs.Whole.{expr_takes}
use Rattle.cif_parse_expr.proofs.PartLaws.{separated_takes, names_takes, expr_list_takes}
use Rattle.cif_parse_decl.specs.Trees.{single, given}
use Rattle.cif_parse_decl.specs.Grammar.{declaration, plain_declaration, kind_invariants, disc_declaration, parameters}
use Rattle.cif_parse_decl.specs.Reading.{kind_first, is_labelled, is_component}
use Rattle.cif_parse_decl.proofs.SightLaws.{labelled}
use Rattle.cif_parse_decl.proofs.Agrees.{kind_takes, plain_declaration_takes, kind_invariants_takes, declaration_takes, disc_declaration_takes, parameters_takes, invariants_no_component}
use Rattle.cif_parse.specs.declared.elements.Element.TheVariants as elements
use Rattle.cif_parse.specs.declared.bodies.BodyElement.{BodyElement}
use Rattle.cif_parse.specs.declared.bodies.BodyElement.TheVariants as body_elements
use Rattle.cif_parse.specs.Trees as tree
use Rattle.cif_parse.specs.Grammar as g
use Rattle.cif_parse.specs.Reading as r
use Rattle.cif_parse.specs.Reading.{name_first, expr_first, element_first, body_element_first, item_first, nested_first}

-- ---- updates

abbrev update_first : List ℕ
update_first = name_first ++ first_word w.If

abbrev update_goes : List ℕ
update_goes = first_sign m.Comma ++ expr_goes

module _ (text : Text) where
  set_takes : Takes sort false name_first expr_goes (g.set text) (r.set_at text)
  unfolding r.set_at
  set_takes = wider name_first expr_goes refl refl (map_takes tree.set (both_takes (name_takes text) refl (both_takes (one_takes sort (first_sign m.Assign)) refl (expr_takes text))))

  module _ (inner : Lang Token (List Update)) (s : Reader Token (List Update)) (h : Takes sort false update_first update_goes inner s) where
    update_branch_takes : Takes sort false expr_first update_goes (g.update_branch text inner) (r.update_branch_at text s)
    unfolding r.update_branch_at
    update_branch_takes = wider expr_first update_goes refl refl (map_takes tree.update_branch (both_takes (expr_list_takes text) refl (both_takes (one_takes sort (first_sign m.Colon)) refl h)))

    choice_takes : Takes sort false (first_word w.If) [] (g.choice text inner) (r.choice_at text s)
    unfolding r.choice_at r.update_branches_at r.other_branch_at r.other_updates_at
    choice_takes = map_takes tree.choice (both_takes (one_takes sort (first_word w.If)) refl
        (both_takes (list_takes update_branch_takes refl refl (map_takes second (both_takes (one_takes sort (first_word w.Elif)) refl update_branch_takes))) refl
        (both_takes (map_takes given (optional_takes (map_takes second (both_takes (one_takes sort (first_word w.Else)) refl h)))) refl (one_takes sort (first_word w.End)))))

  one_of_takes : (form : Lang Token Update) (s : Reader Token Update) → Takes sort false (first_word w.If) [] form s → Takes sort false update_first expr_goes (g.set text ∣ form) (r.update_at text s)
  unfolding r.update_at
  one_of_takes form s h = wider update_first expr_goes refl refl (either_takes set_takes refl h)

several_takes : {p : Lang Token Update} {s : Reader Token Update} → Takes sort false update_first expr_goes p s → Takes sort false update_first update_goes (separated m.Comma p) (separated_at m.Comma s)
several_takes h = separated_takes m.Comma update_first update_goes refl refl refl refl refl h

one_update_takes : (text : Text) (n : ℕ) → Takes sort false update_first expr_goes (g.update text n) (r.one_update_at text n)
unfolding g.update r.one_update_at
one_update_takes text zero = same (λ a x d. inl d) (λ a x d. elim d [ inl e ↦ e | inr e ↦ absurd e ])
    (one_of_takes text nothing none_at (nothing_takes sort false (first_word w.If) [] nothing (λ a x d. d)))
one_update_takes text (suc n) = one_of_takes text (g.choice text (g.updates text n)) (r.choice_at text (separated_at m.Comma (r.one_update_at text n)))
    (choice_takes text (g.updates text n) (separated_at m.Comma (r.one_update_at text n)) (several_takes (one_update_takes text n)))

pub updates_takes : (text : Text) (n : ℕ) → Takes sort false update_first update_goes (g.updates text n) (r.updates_at text n)
unfolding r.updates_at
updates_takes text n = several_takes (one_update_takes text n)

module _ (text : Text) where
  -- ---- edges

  abbrev role_first : List ℕ
  role_first = codes_of (Sign m.Exclamation ∷ Sign m.Question ∷ [])

  abbrev use_goes : List ℕ
  use_goes = role_first ++ expr_first ++ expr_goes

  role_takes : Takes sort false role_first (expr_first ++ expr_goes) (g.role text) (r.role_at text)
  unfolding r.role_at r.send_at
  role_takes = wider role_first (expr_first ++ expr_goes) refl refl
      (either_takes (map_takes (λ v. roles.Send v.1) (both_takes (one_takes sort (first_sign m.Exclamation)) refl (optional_takes (expr_takes text)))) refl
      (map_takes (λ t. roles.Recv) (one_takes sort (first_sign m.Question))))

  event_use_takes : Takes sort false name_first use_goes (g.event_use text) (r.event_use_at text)
  unfolding r.event_use_at
  event_use_takes = wider name_first use_goes refl refl (map_takes tree.event_use (both_takes (name_takes text) refl (optional_takes role_takes)))

  edge_takes : Takes sort false (first_word w.Edge) [] (g.edge text) (r.edge_at text)
  unfolding r.edge_at r.edge_end_at r.guards_at r.actions_at r.target_at
  edge_takes = map_takes tree.edge (both_takes (one_takes sort (first_word w.Edge)) refl
      (both_takes (separated_takes m.Comma name_first (first_sign m.Comma ++ use_goes) refl refl refl refl refl event_use_takes) refl
      (both_takes (map_takes given (optional_takes (map_takes second (both_takes (one_takes sort (first_word w.When)) refl (expr_list_takes text))))) refl
      (map_takes (λ v. (v.0, v.1.0)) (both_takes (map_takes given (optional_takes (map_takes second (both_takes (one_takes sort (first_word w.Do)) refl (updates_takes text 100))))) refl
      (both_takes (optional_takes (map_takes second (both_takes (one_takes sort (first_word w.Goto)) refl (ident_takes text)))) refl (one_takes sort (first_sign m.Semicolon))))))))

  -- ---- locations

  element_takes : Takes sort false element_first [] (g.element text) (r.element_at text)
  unfolding r.element_at r.initial_at r.marked_at r.equation_at
  element_takes = wider element_first [] refl refl
      (either_takes (map_takes (λ v. elements.Initial) (both_takes (one_takes sort (first_word w.Initial)) refl (both_takes (optional_takes (one_takes sort (first_word w.True))) refl (one_takes sort (first_sign m.Semicolon))))) refl
      (either_takes (map_takes (λ v. elements.Marked v.1.0) (both_takes (one_takes sort (first_word w.Marked)) refl (both_takes (map_takes given (optional_takes (expr_list_takes text))) refl (one_takes sort (first_sign m.Semicolon))))) refl
      (either_takes (map_takes tree.equation (both_takes (one_takes sort (first_word w.Equation)) refl (both_takes (ident_takes text) refl (both_takes (one_takes sort (first_sign m.Equal)) refl (both_takes (expr_takes text) refl (one_takes sort (first_sign m.Semicolon))))))) refl
      (map_takes elements.Edge edge_takes))))

  location_takes : Takes sort false (first_word w.Location) element_first (g.location text) (r.location_at text)
  unfolding r.location_at r.elements_at
  location_takes = wider (first_word w.Location) element_first refl refl (map_takes tree.location (both_takes (one_takes sort (first_word w.Location)) refl (both_takes (optional_takes (ident_takes text)) refl
      (either_takes (map_takes (λ t. []) (one_takes sort (first_sign m.Semicolon))) refl (map_takes second (both_takes (one_takes sort (first_sign m.Colon)) refl (many_takes refl element_takes)))))))

  -- ---- automata

  abbrev body_element_by_word : Lang Token BodyElement
  body_element_by_word = body_elements.Decls <$> disc_declaration text
      ∣ (λ v. body_elements.Alphabet v.1.0) <$> word w.Alphabet & (given <$> optional (names text)) & sign m.Semicolon
      ∣ (λ v. body_elements.Monitor v.1.0) <$> word w.Monitor & (given <$> optional (names text)) & sign m.Semicolon
      ∣ body_elements.Decls <$> declaration text

  body_element_takes : Takes sort false body_element_first [] (g.body_element text) (r.body_element_at text)
  unfolding r.body_element_at r.alphabet_at r.monitor_at
  body_element_takes = wider body_element_first [] refl refl (same {p = body_element_by_word}
      (λ a x d. elim d [ inl e ↦ inr (inr (inr e)) | inr e ↦ elim e [ inl f ↦ inl f | inr f ↦ elim f [ inl k ↦ inr (inl k) | inr k ↦ inr (inr (inl k)) ] ] ])
      (λ a x d. elim d [ inl e ↦ inr (inl e) | inr e ↦ elim e [ inl f ↦ inr (inr (inl f)) | inr f ↦ elim f [ inl k ↦ inr (inr (inr k)) | inr k ↦ inl k ] ] ])
      (either_takes (map_takes body_elements.Decls (disc_declaration_takes text)) refl
      (either_takes (map_takes (λ v. body_elements.Alphabet v.1.0) (both_takes (one_takes sort (first_word w.Alphabet)) refl (both_takes (map_takes given (optional_takes (names_takes text))) refl (one_takes sort (first_sign m.Semicolon))))) refl
      (either_takes (map_takes (λ v. body_elements.Monitor v.1.0) (both_takes (one_takes sort (first_word w.Monitor)) refl (both_takes (map_takes given (optional_takes (names_takes text))) refl (one_takes sort (first_sign m.Semicolon))))) refl
      (map_takes body_elements.Decls (declaration_takes text))))))

  some_of : (all : List Loc) (x : List Token) → such_that tree.has_one (many (g.location text)) all x → list (g.location text) (g.location text) all x
  some_of [] x d = absurd (let e = d.0 in cc)
  some_of (a ∷ more) x d = ((a, more), d.1, refl)

  of_some : (all : List Loc) (x : List Token) → list (g.location text) (g.location text) all x → such_that tree.has_one (many (g.location text)) all x
  of_some all x (v, d, made) = subst (λ u. such_that tree.has_one (many (g.location text)) u x) (sym made) (refl, d)

  locations_takes : Takes sort true (first_word w.Location) (first_word w.Location ++ element_first) (list (g.location text) (g.location text)) (r.locations_at text)
  unfolding r.locations_at
  locations_takes = same of_some some_of (such_takes tree.has_one (many_takes refl location_takes))

  abbrev body_goes : List ℕ
  body_goes = first_word w.Location ++ element_first ++ body_element_first

  automaton_body_takes : Takes sort true (first_word w.Location ++ body_element_first) body_goes (g.automaton_body text) (r.automaton_body_at text)
  unfolding r.automaton_body_at r.body_parts_at
  automaton_body_takes = wider (first_word w.Location ++ body_element_first) body_goes refl refl (map_takes tree.automaton_body (such_takes tree.is_automaton
      (both_takes (many_takes refl body_element_takes) refl locations_takes)))

  automaton_end_takes : Takes sort false (first_sign m.Colon) [] (g.automaton_end text) (r.automaton_end_at text)
  unfolding r.automaton_end_at
  automaton_end_takes = map_takes tree.body_of_automaton (both_takes (one_takes sort (first_sign m.Colon)) refl (both_takes automaton_body_takes refl (one_takes sort (first_word w.End))))

automaton_takes : Takes sort false (first_word w.Automaton ++ kind_first) (first_word w.Automaton) g.automaton r.automaton_at
unfolding r.automaton_at
automaton_takes = either_takes (one_takes sort (first_word w.Automaton)) refl (map_takes (λ v. v.0) (both_takes kind_takes refl (optional_takes (one_takes sort (first_word w.Automaton)))))

-- ---- components

module _ (text : Text) where
  abbrev named_end : Lang Token Body → Lang Token Item
  named_end ending = tree.component_end <$> ident text & ending

  abbrev defined_end : Lang Token Body → Lang Token Item
  defined_end ending = tree.definition_end <$> word w.Def & ident text & parameters text & ending

  component_end_takes : (ending : Lang Token Body) (s : Reader Token Body) → Takes sort false (first_sign m.Colon) [] ending s
      → Takes sort false (codes_of (Reserved w.Def ∷ Id ∷ [])) [] (defined_end ending ∣ named_end ending) (r.component_end_at text s)
  unfolding r.component_end_at r.defined_end_at r.named_end_at
  component_end_takes ending s h = either_takes
      (map_takes tree.definition_end (both_takes (one_takes sort (first_word w.Def)) refl (both_takes (ident_takes text) refl (both_takes (parameters_takes text) refl h)))) refl
      (map_takes tree.component_end (both_takes (ident_takes text) refl h))

  instance_takes : Takes sort false (first Id) [] (g.instance text) (r.instance_at text)
  unfolding r.instance_at r.arguments_at
  instance_takes = map_takes tree.instance (both_takes (ident_takes text) refl (both_takes (one_takes sort (first_sign m.Colon)) refl (both_takes (name_takes text) refl
      (both_takes (one_takes sort (first_sign m.OpenParen)) refl
      (map_takes (λ v. v.0) (both_takes (map_takes given (optional_takes (expr_list_takes text))) refl (both_takes (one_takes sort (first_sign m.CloseParen)) refl (one_takes sort (first_sign m.Semicolon)))))))))

  -- what begins with `group`, and what begins with the words of an automaton
  abbrev by_head : Lang Token (List Item) → Lang Token Item
  by_head inner = second <$> word w.Group & (defined_end (g.group_end text inner) ∣ named_end (g.group_end text inner))
      ∣ second <$> g.automaton & (defined_end (g.automaton_end text) ∣ named_end (g.automaton_end text))

  abbrev nested : Lang Token (List Item) → Lang Token Item
  nested inner = g.component text inner ∣ g.definition text inner

  module _ (inner : Lang Token (List Item)) (s : Reader Token (List Item)) (h : Takes sort true item_first item_first inner s) where
    group_end_takes : Takes sort false (first_sign m.Colon) [] (g.group_end text inner) (r.group_end_at text s)
    unfolding r.group_end_at
    group_end_takes = map_takes tree.group_body (both_takes (one_takes sort (first_sign m.Colon)) refl (both_takes h refl (one_takes sort (first_word w.End))))

    nested_of : (a : Item) (x : List Token) → by_head inner a x → nested inner a x
    nested_of a x (inl (v, (x1, y, k, inl (u, (y1, y2, d, more, f), is), e), made)) = inr (inl ((v.0, u), (x1, y, k, (y1, y2, d, more, f), e), made ∙ is))
    nested_of a x (inl (v, (x1, y, k, inr (u, d, is), e), made)) = inl (inl ((v.0, u), (x1, y, k, d, e), made ∙ is))
    nested_of a x (inr (v, (x1, y, k, inl (u, (y1, y2, d, more, f), is), e), made)) = inr (inr ((v.0, u), (x1, y, k, (y1, y2, d, more, f), e), made ∙ is))
    nested_of a x (inr (v, (x1, y, k, inr (u, d, is), e), made)) = inl (inr ((v.0, u), (x1, y, k, d, e), made ∙ is))

    head_of : (a : Item) (x : List Token) → nested inner a x → by_head inner a x
    head_of a x (inl (inl (v, (x1, y, k, d, e), made))) = inl ((v.0, tree.component_end v.1), (x1, y, k, inr (v.1, d, refl), e), made)
    head_of a x (inl (inr (v, (x1, y, k, d, e), made))) = inr ((v.0, tree.component_end v.1), (x1, y, k, inr (v.1, d, refl), e), made)
    head_of a x (inr (inl (v, (x1, y, k, d, e), made))) = inl ((v.0, tree.definition_end v.1), (x1, y, k, inl (v.1, d, refl), e), made)
    head_of a x (inr (inr (v, (x1, y, k, d, e), made))) = inr ((v.0, tree.definition_end v.1), (x1, y, k, inl (v.1, d, refl), e), made)

    nested_takes : Takes sort false nested_first [] (nested inner) (r.nested_at text s)
    unfolding r.nested_at r.group_at r.automaton_item_at
    nested_takes = same head_of nested_of (wider nested_first [] refl refl
        (either_takes (map_takes second (both_takes (one_takes sort (first_word w.Group)) refl (component_end_takes (g.group_end text inner) (r.group_end_at text s) group_end_takes))) refl
        (map_takes second (both_takes automaton_takes refl (component_end_takes (g.automaton_end text) (r.automaton_end_at text) (automaton_end_takes text))))))

    second_shows : (t : Token) (ts : List Token) → (starts sort (codes_of (Reserved w.Automaton ∷ Reserved w.Def ∷ [])) ts || is_labelled ts) ≡ true → is_component (t ∷ ts) ≡ true
    unfolding is_component
    second_shows t ts h = go (starts sort (first_word w.Automaton) (t ∷ []))
      where
        go : (b : Bool) → (b || (starts sort (codes_of (Reserved w.Automaton ∷ Reserved w.Def ∷ [])) ts || is_labelled ts)) ≡ true
        go true = refl
        go false = h

    first_shows : (t : Token) (ts : List Token) → has (first_word w.Automaton) (sort t) ≡ true → is_component (t ∷ ts) ≡ true
    unfolding is_component
    first_shows t ts h = rw h refl

    end_shows : (a : Item) (ending : Lang Token Body) (y rest : List Token) → ((b : Body) (z : List Token) → ending b z → Begins sort false (first_sign m.Colon) z)
        → (defined_end ending ∣ named_end ending) a y → (starts sort (codes_of (Reserved w.Automaton ∷ Reserved w.Def ∷ [])) (y ++ rest) || is_labelled (y ++ rest)) ≡ true
    end_shows a ending y rest colon (inl (v, (y1, y2, d, more, f), made)) =
        let b = begins_more sort (first_word w.Def) y y1 y2 ((one_takes sort (first_word w.Def)).begins v.0 y1 d) f in
        rw (starts_with sort (codes_of (Reserved w.Automaton ∷ Reserved w.Def ∷ [])) y rest (begins_wider sort false (codes_of (Reserved w.Automaton ∷ Reserved w.Def ∷ [])) (first_word w.Def) y refl b)) refl
    end_shows a ending y rest colon (inr (v, (y1, y2, i, d, f), made)) =
        let whole : y ++ rest ≡ y1 ++ (y2 ++ rest) = ap (λ u. u ++ rest) f ∙ append_assoc y1 y2 rest in
        let l = ap is_labelled whole ∙ labelled text v.0 y1 y2 rest i (colon v.1 y2 d) in
        rw l (go (starts sort (codes_of (Reserved w.Automaton ∷ Reserved w.Def ∷ [])) (y ++ rest)))
      where
        go : (b : Bool) → (b || true) ≡ true
        go true = refl
        go false = refl

    head_shows : (a : Item) (x rest : List Token) → by_head inner a x → is_component (x ++ rest) ≡ true
    head_shows a x rest (inl (v, (x1, y, k, d, e), made)) =
        let whole : x ++ rest ≡ v.0 ∷ (y ++ rest) = ap (λ u. u ++ rest) (e ∙ ap (λ u. u ++ y) k.1) in
        ap is_component whole ∙ second_shows v.0 (y ++ rest) (end_shows v.1 (g.group_end text inner) y rest group_end_takes.begins d)
    head_shows a x rest (inr (v, (x1, y, inl k, d, e), made)) =
        let whole : x ++ rest ≡ v.0 ∷ (y ++ rest) = ap (λ u. u ++ rest) (e ∙ ap (λ u. u ++ y) k.1) in
        ap is_component whole ∙ first_shows v.0 (y ++ rest) k.0
    head_shows a x rest (inr (v, (x1, y, inr ((p, None), (z1, z2, k, o, f), is), d, e), made)) =
        let whole : x ++ rest ≡ p ∷ (y ++ rest) = ap (λ u. u ++ rest) (e ∙ ap (λ u. u ++ y) (f ∙ ap (λ u. u ++ z2) k.1 ∙ ap (λ u. p ∷ u) o)) in
        ap is_component whole ∙ second_shows p (y ++ rest) (end_shows v.1 (g.automaton_end text) y rest (automaton_end_takes text).begins d)
    head_shows a x rest (inr (v, (x1, y, inr ((p, Some t), (z1, z2, k, o, f), is), d, e), made)) =
        let whole : x ++ rest ≡ p ∷ (t ∷ (y ++ rest)) = ap (λ u. u ++ rest) (e ∙ ap (λ u. u ++ y) (f ∙ ap (λ u. u ++ z2) k.1 ∙ ap (λ u. p ∷ u) o.1)) in
        let after : has (codes_of (Reserved w.Automaton ∷ Reserved w.Def ∷ [])) (sort t) ≡ true = covers-has (codes_of (Reserved w.Automaton ∷ Reserved w.Def ∷ [])) (first_word w.Automaton) (sort t) refl o.0 in
        ap is_component whole ∙ second_shows p (t ∷ (y ++ rest)) (rw after refl)

    nested_shows : (a : Item) (x rest : List Token) → nested inner a x → is_component (x ++ rest) ≡ true
    nested_shows a x rest d = head_shows a x rest (head_of a x d)

  -- ---- items

  abbrev by_first : Lang Token Item → Lang Token (List Item)
  by_first form = map item.Decl <$> plain_declaration text ∣ single <$> g.instance text ∣ single <$> form ∣ map item.Decl <$> kind_invariants text

  abbrev one_item : Lang Token Item → Lang Token (List Item)
  one_item form = map item.Decl <$> declaration text ∣ single <$> form ∣ single <$> g.instance text

  item_of : (form : Lang Token Item) (a : List Item) (x : List Token) → by_first form a x → one_item form a x
  item_of form a x (inl (ds, d, made)) = inl (ds, inl d, made)
  item_of form a x (inr (inl d)) = inr (inr d)
  item_of form a x (inr (inr (inl d))) = inr (inl d)
  item_of form a x (inr (inr (inr (ds, d, made)))) = inl (ds, inr d, made)

  first_of : (form : Lang Token Item) (a : List Item) (x : List Token) → one_item form a x → by_first form a x
  first_of form a x (inl (ds, inl d, made)) = inl (ds, d, made)
  first_of form a x (inl (ds, inr d, made)) = inr (inr (inr (ds, d, made)))
  first_of form a x (inr (inl d)) = inr (inr (inl d))
  first_of form a x (inr (inr d)) = inr (inl d)

  item_over_takes : (form : Lang Token Item) (s : Reader Token Item) → Takes sort false nested_first [] form s → ((a : Item) (x rest : List Token) → form a x → is_component (x ++ rest) ≡ true)
      → Takes sort false item_first [] (one_item form) (r.item_over text s)
  unfolding r.item_over
  item_over_takes form s h shows = wider item_first [] refl refl (same (first_of form) (item_of form)
      (either_takes (map_takes (map item.Decl) (plain_declaration_takes text)) refl (either_takes (map_takes single instance_takes) refl
      (when_takes is_component [] refl refl (map_takes single h) (map_takes (map item.Decl) (kind_invariants_takes text))
      (λ a x rest d z. shows d.0 x rest d.1) (λ a x rest d z. invariants_no_component text d.0 x rest d.1)))))

  -- an item of the grammar, with components and definitions in one
  one_of : (inner : Lang Token (List Item)) (a : List Item) (x : List Token)
      → (map item.Decl <$> declaration text ∣ single <$> g.component text inner ∣ single <$> g.definition text inner ∣ single <$> g.instance text) a x → one_item (nested inner) a x
  one_of inner a x (inl d) = inl d
  one_of inner a x (inr (inl (i, d, made))) = inr (inl (i, inl d, made))
  one_of inner a x (inr (inr (inl (i, d, made)))) = inr (inl (i, inr d, made))
  one_of inner a x (inr (inr (inr d))) = inr (inr d)

  of_one : (inner : Lang Token (List Item)) (a : List Item) (x : List Token) → one_item (nested inner) a x
      → (map item.Decl <$> declaration text ∣ single <$> g.component text inner ∣ single <$> g.definition text inner ∣ single <$> g.instance text) a x
  of_one inner a x (inl d) = inl d
  of_one inner a x (inr (inl (i, inl d, made))) = inr (inl (i, d, made))
  of_one inner a x (inr (inl (i, inr d, made))) = inr (inr (inl (i, d, made)))
  of_one inner a x (inr (inr d)) = inr (inr (inr d))

all_items_takes : {p : Lang Token (List Item)} {s : Reader Token (List Item)} → Takes sort false item_first [] p s → Takes sort true item_first item_first (flat <$> many p) (r.all_items_at s)
unfolding r.all_items_at
all_items_takes h = map_takes flat (wider item_first item_first refl refl (many_takes refl h))

item_takes : (text : Text) (n : ℕ) → Takes sort false item_first [] (g.item text n) (r.item_at text n)
unfolding g.item r.item_at
item_takes text zero = same (λ a x d. elim d [ inl e ↦ inl e | inr e ↦ inr (inr e) ]) (λ a x d. elim d [ inl e ↦ inl e | inr e ↦ elim e [ inl f ↦ absurd f.1 | inr f ↦ inr f ] ])
    (item_over_takes text nothing none_at (nothing_takes sort false nested_first [] nothing (λ a x d. d)) (λ a x rest d. absurd d))
item_takes text (suc n) = let h = all_items_takes (item_takes text n) in
    same (one_of text (flat <$> many (g.item text n))) (of_one text (flat <$> many (g.item text n)))
    (item_over_takes text (nested text (flat <$> many (g.item text n))) (r.nested_at text (r.all_items_at (r.item_at text n)))
    (nested_takes text (flat <$> many (g.item text n)) (r.all_items_at (r.item_at text n)) h) (nested_shows text (flat <$> many (g.item text n)) (r.all_items_at (r.item_at text n)) h))

pub items_takes : (text : Text) (n : ℕ) → Takes sort true item_first item_first (flat <$> many (g.item text n)) (r.items_at text n)
unfolding r.items_at
items_takes text n = all_items_takes (item_takes text n)
