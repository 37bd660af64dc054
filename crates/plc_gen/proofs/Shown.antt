-- The statements that show the algebraic variables, put together one after the other, and under the names of the net.
use Rattle.std.proofs.Common.{◌≡◌, ℕ, ◌+◌, ◌<◌, ◌≤◌, List, [], ◌∷◌, ◌++◌, true, Option, None, drop, get_or, length, map, sym, ap, ◌∙◌}
use Rattle.std.specs.Prelude.{is_some}
use Rattle.std.specs.List.{AllByRecursion}
use Rattle.std.proofs.lemmas.List.{append_assoc, drop_all}
use Rattle.grammar.specs.Pieces.{Text}
use Rattle.cif_base.specs.declared.types.Ty.{Ty}
use Rattle.cif_net.specs.View.{alg_tree}
use Rattle.cif_net.specs.declared.data.Alg.{Alg}
use Rattle.plc_expr.specs.Sorts.{own_types}
use Rattle.plc_expr_walk.proofs.Joining.{append-assoc, append-none, drop-item, view_append}
use Rattle.cif_net_expr.specs.Tree.{NetExpr}
use Rattle.cif_net_model.specs.Inline.{defined_by}
use Rattle.cif_net_model.specs.Net.{NetAlg, Net}
use Rattle.cif_net_model.specs.Reads.{Read, names_in}
use Rattle.cif_net_model.proofs.PlainLaws.{never}
use Rattle.st_ast.specs.Tree.{Stm, Stms, append, assign, no_stms, stms}
use Rattle.st_ast.specs.View.{view_stmt, view_stmts}
use Rattle.st_ast.specs.declared.tree.Stmt.{Stmt}
use Rattle.st_ast.specs.declared.tree.StVar.{StVar}
use Rattle.st_ast.specs.declared.tree.StTy.{StTy}
use Rattle.plc_model.specs.declared.letter.Letter.TheVariants as letter
use Rattle.plc_model.specs.Frame.{fired}
use Rattle.plc_model.specs.Names.{name_for}
use Rattle.plc_expr.specs.Held.{IsThere}
use Rattle.plc_expr.specs.Texts.{Naming, before, temps, text}
use Rattle.plc_expr.specs.Written.{naming_of}
use Rattle.plc_expr.specs.declared.names.Names.{Names}
use Rattle.plc_frame.specs.Given.{EventPart}
use Rattle.plc_event_model.specs.Own.{net_naming, if_face}
use Rattle.plc_expr_walk.specs.Alike.{IsAlike}
use Rattle.plc_expr_walk.proofs.Alike.{same-before, same-text}
use Rattle.plc_event_model.specs.ProgramParts.{defined_types, shown_part, shown_text}
use Rattle.plc_event.specs.Names.{AreNames}
use Rattle.plc_gen.specs.Named.{IsNamedAlg}
use Rattle.plc_gen.specs.Outlines.{declared_from}
use Rattle.plc_gen.proofs.Namings.{names-alike, own-alike}

-- ---- one more variable

one-more : (done before : Stms) (s : Stm) (left : Stms) → append (append done (append before (stms s no_stms))) left ≡ append done (append before (stms s left))
one-more done before s left = append-assoc done (append before (stms s no_stms)) left ∙ ap (append done) (append-assoc before (stms s no_stms) left)

module _ (algs : List Alg) (at : ℕ) (alg : Alg) (within : at < length algs) (item : alg ≡ get_or algs at alg) (v : NetExpr) (v_is : v ≡ defined_by (alg_tree alg)) where
  left-is : map alg_tree (drop at algs) ≡ alg_tree alg ∷ map alg_tree (drop (at + 1) algs)
  left-is = ap (map alg_tree) (drop-item algs at alg within item)

  -- its own variables
  pub types-more : (n : Net) (old new : List StTy) → new ≡ old ++ own_types n None v → new ++ defined_types n (map alg_tree (drop (at + 1) algs)) ≡ old ++ defined_types n (map alg_tree (drop at algs))
  types-more n old new new_is =
      let rest = defined_types n (map alg_tree (drop (at + 1) algs)) in
      ap (λ ts. ts ++ rest) new_is
      ∙ append_assoc old (own_types n None v) rest
      ∙ ap (λ e. old ++ (own_types n None e ++ rest)) v_is
      ∙ ap (λ as'. old ++ defined_types n as') (sym left-is)

  -- its statements
  pub shown-more : (w : Naming) (number k next : ℕ) (path : Text) (old new : Stms) → number ≡ at → path ≡ (alg_tree alg).path → next ≡ k + temps v
      → new ≡ append old (append (before w k v) (stms (assign (name_for letter.R number path) (text w k v)) no_stms))
      → append new (shown_text w (at + 1) next (map alg_tree (drop (at + 1) algs))) ≡ append old (shown_text w at k (map alg_tree (drop at algs)))
  shown-more w number k next path old new number_is path_is next_is new_is =
      let rest : ℕ → Stms = λ j. shown_text w (at + 1) j (map alg_tree (drop (at + 1) algs)) in
      ap (λ ss. append ss (rest next)) new_is
      ∙ one-more old (before w k v) (assign (name_for letter.R number path) (text w k v)) (rest next)
      ∙ ap (λ j. append old (append (before w k v) (stms (assign (name_for letter.R number path) (text w k v)) (rest j)))) next_is
      ∙ ap (λ i. append old (append (before w k v) (stms (assign (name_for letter.R i path) (text w k v)) (rest (k + temps v))))) number_is
      ∙ ap (λ q. append old (append (before w k v) (stms (assign (name_for letter.R at q) (text w k v)) (rest (k + temps v))))) path_is
      ∙ ap (λ e. append old (append (before w k e) (stms (assign (name_for letter.R at (alg_tree alg).path) (text w k e)) (rest (k + temps e))))) v_is
      ∙ ap (λ as'. append old (shown_text w at k as')) (sym left-is)

-- its statements stand behind those before
pub one-shown : (old mid new : List Stmt) (first : Stms) (s : Stmt) (t : Stm) → new ≡ mid ++ s ∷ [] → view_stmts mid ≡ append (view_stmts old) first → view_stmt s ≡ t → view_stmts new ≡ append (view_stmts old) (append first (stms t no_stms))
one-shown old mid new first s t new_is mid_is is =
    ap view_stmts new_is
    ∙ view_append mid (s ∷ [])
    ∙ ap (λ ss. append ss (stms (view_stmt s) no_stms)) mid_is
    ∙ append-assoc (view_stmts old) first (stms (view_stmt s) no_stms)
    ∙ ap (λ q. append (view_stmts old) (append first (stms q no_stms))) is

-- nothing is left behind the last one
pub none-left : (w : Naming) (at k : ℕ) (algs : List Alg) (ss : Stms) → length algs ≤ at → append ss (shown_text w at k (map alg_tree (drop at algs))) ≡ ss
none-left w at k algs ss past = ap (λ as'. append ss (shown_text w at k (map alg_tree as'))) (drop_all at algs past) ∙ append-none ss

-- ---- under the names of the net

module _ (n : Net) (names : Names) (are : AreNames n names) where
  abbrev w : Naming
  w = naming_of names

  abbrev v : Naming
  v = net_naming n fired

  -- nothing is received
  abbrev nothing : Option Ty
  nothing = None

  nothing-same : is_some nothing ≡ true → names.received ≡ fired
  nothing-same h = never h

  alike : (qs : List Read) → AllByRecursion (IsThere n None) qs → AllByRecursion (IsAlike w v) qs
  alike [] h = tt
  alike (q ∷ qs) h = (names-alike n names are fired None nothing-same q h.0, alike qs h.1)

  same-shown : (i k : ℕ) (as' : List NetAlg) → AllByRecursion (IsNamedAlg n) as' → shown_text w i k as' ≡ shown_text v i k as'
  same-shown i k [] h = λ j. no_stms
  same-shown i k (a ∷ as') h =
      let e : NetExpr = defined_by a in
      let b = same-before w v (own-alike n names are fired) k e (alike (names_in e) h.0) in
      let t = same-text w v (own-alike n names are fired) k e (alike (names_in e) h.0) in
      let rest = same-shown (i + 1) (k + temps e) as' h.1 in
      λ j. append (b j) (stms (assign (name_for letter.R i a.path) (t j)) (rest j))

  abbrev part_with : List StVar → Stms → EventPart
  part_with own body = record { own = own; body = body }

  -- what is made of these types and statements is the part
  pub shown-is : (first : ℕ) (own : List StVar) (types : List StTy) (body : Stms) → AllByRecursion (IsNamedAlg n) n.algs → own ≡ declared_from first (map if_face types) → types ≡ defined_types n n.algs
      → body ≡ shown_text w 0 first n.algs → part_with own body ≡ shown_part n first
  shown-is first own types body named own_is types_is body_is =
      let all : own ≡ declared_from first (map if_face (defined_types n n.algs)) = own_is ∙ ap (λ ts. declared_from first (map if_face ts)) types_is in
      let text : body ≡ shown_text v 0 first n.algs = body_is ∙ same-shown 0 first n.algs named in
      λ i. part_with (all i) (text i)
