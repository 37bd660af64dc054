-- The statements before the text of a form, from those before the texts of its parts.
use Rattle.std.proofs.Common.{◌≡◌, ℕ, ◌+◌, Result, Ok, Err, OnOk, sym, ap, ap₂, ◌∙◌}
use Rattle.grammar.specs.Pieces.{Text}
use Rattle.cif_net_expr.specs.Tree.{NetExpr, NetForm, NetBranches, n_if}
use Rattle.st_ast.specs.Tree.{Expr, Branches, Stms, append, no_stms, stms}
use Rattle.plc_expr.specs.Texts.{Naming, before, branches_before, branches_temps, branches_text, case_text, form_before, text}
use Rattle.plc_expr_walk.proofs.Joining.{append-assoc, append-none}

on-ok : {A E : Type 0} (r : Result A E) (P : Type 0) → P → OnOk r P
on-ok (Ok x) P p = p
on-ok (Err e) P p = tt

on-ok-map : {A E : Type 0} (r : Result A E) (P Q : Type 0) → (P → Q) → OnOk r P → OnOk r Q
on-ok-map (Ok x) P Q f p = f p
on-ok-map (Err e) P Q f p = tt

module _ {A E : Type 0} (r : Result A E) (w : Naming) (k : ℕ) (f g : NetForm) (is : f ≡ g) (old : Stms) where
  -- before a leaf stands nothing
  pub leaf-added : form_before w k g ≡ no_stms → OnOk r (old ≡ append old (form_before w k f))
  leaf-added none = on-ok r (old ≡ append old (form_before w k f)) (sym (append-none old) ∙ ap (append old) (sym (ap (form_before w k) is ∙ none)))

  -- those of a first part, and then those of the others, which are numbered on
  pub two-added : (first : Stms) (n next : ℕ) (others : ℕ → Stms) (half new : Stms) → form_before w k g ≡ append first (others (k + n))
      → half ≡ append old first → next ≡ k + n → new ≡ append half (others next) → OnOk r (new ≡ append old (form_before w k f))
  two-added first n next others half new whole half_is next_is new_is =
      on-ok r (new ≡ append old (form_before w k f))
      (new_is
      ∙ ap (λ h. append h (others next)) half_is
      ∙ append-assoc old first (others next)
      ∙ ap (λ j. append old (append first (others j))) next_is
      ∙ ap (append old) (sym (ap (form_before w k) is ∙ whole)))

  -- those of the branches and of the last value, and then the statement that sets the variable
  pub if-added : (bs : NetBranches) (e : NetExpr) (name : Text) (j next : ℕ) (cases : Branches) (value : Expr) (start half most new : Stms) → g ≡ n_if bs e
      → start ≡ old → name ≡ w.own k → j ≡ k + 1 → half ≡ append start (branches_before w j bs) → next ≡ j + branches_temps bs → cases ≡ branches_text w name j bs
      → most ≡ append half (before w next e) → value ≡ text w next e
      → OnOk r (new ≡ append most (stms (case_text name cases value) no_stms)) → OnOk r (new ≡ append old (form_before w k f))
  if-added bs e name j next cases value start half most new form start_is name_is j_is half_is next_is cases_is most_is value_is =
      let last : ℕ → Text → Stms = λ i x. stms (case_text x (branches_text w x (k + 1) bs) (text w i e)) no_stms in
      let at : next ≡ k + 1 + branches_temps bs = next_is ∙ ap (λ i. i + branches_temps bs) j_is in
      let case_is : stms (case_text name cases value) no_stms ≡ last next name =
      ap₂ (λ c v. stms (case_text name c v) no_stms) (cases_is ∙ ap (λ i. branches_text w name i bs) j_is) value_is in
      on-ok-map r (new ≡ append most (stms (case_text name cases value) no_stms)) (new ≡ append old (form_before w k f))
      (λ new_is.
      new_is
      ∙ ap₂ append (most_is ∙ ap (λ h. append h (before w next e)) (half_is ∙ ap₂ (λ s i. append s (branches_before w i bs)) start_is j_is)) case_is
      ∙ append-assoc (append old (branches_before w (k + 1) bs)) (before w next e) (last next name)
      ∙ append-assoc old (branches_before w (k + 1) bs) (append (before w next e) (last next name))
      ∙ ap₂ (λ i x. append old (append (branches_before w (k + 1) bs) (append (before w i e) (last i x)))) at name_is
      ∙ ap (append old) (sym (ap (form_before w k) (is ∙ form))))
