-- What code makes is the program of the net.
use Rattle.std.proofs.Common.{◌≡◌, ℕ, zero, suc, ◌+◌, ◌<◌, ◌≤◌, ◌^◌, true, List, [], ◌∷◌, ◌++◌, map, length, get_or, refl, sym, ap, subst, ◌∙◌, arith}
use Rattle.std.specs.Prelude.{codes, nat_le, sum}
use Rattle.std.proofs.lemmas.Bool.Decides.{nat_tests}
use Rattle.std.proofs.lemmas.List.{append-nil, append_assoc}
use Rattle.std.proofs.lemmas.List.Sums.{sum_by-cons}
use Rattle.cif_system.specs.System.{Class, con, unc}
use Rattle.cif_system.specs.Scan.{of_class}
use Rattle.cif_system.proofs.Lists.{map-length}
use Rattle.cif_system.proofs.Picks.{and-left}
use Rattle.cif_net_model.specs.Net as n
use Rattle.cif_net_model.specs.Facts.{things}
use Rattle.cif_net_model.specs.Meaning.{system_of_net}
use Rattle.cif_net.specs.declared.automata.Auto.{Auto}
use Rattle.cif_net.specs.declared.net.Net.{Net}
use Rattle.cif_net.specs.View.{auto_tree, net_tree}
use Rattle.grammar.specs.Pieces.{Text}
use Rattle.st_ast.specs.Tree.{Program, Stms, append, stms_of}
use Rattle.st_ast.specs.View.{program_of_parts, view_stmts}
use Rattle.st_ast.specs.declared.tree.Stmt.{Stmt}
use Rattle.st_ast.specs.declared.tree.StVar.{StVar}
use Rattle.st_ast.specs.declared.tree.StClass.TheVariants as class
use Rattle.plc_model.specs.declared.letter.Letter.TheVariants as letter
use Rattle.plc_model.specs.Face.{VariableFace, alg_face, algs_of, declarations, places_of, place_face}
use Rattle.plc_model.specs.Frame.{Part, framed, latches_of, loop_of, part_of, tries_of}
use Rattle.plc_frame.specs.Variables.{all_shown_by, mark_and_counter, outputs_of}
use Rattle.plc_frame.specs.Faces.{alg_face_of, auto_face, face_of_net, stored_face}
use Rattle.plc_frame.specs.Shown.{AreFaces, declared_by, declared_for, face_tree}
use Rattle.plc_frame.specs.Given.{EventPart, all_variables, asked, body_of, framed_program, own_variables, program_with, sections_of}
use Rattle.plc_frame.specs.Tries.{class_bodies, scan_text}
use Rattle.plc_frame.specs.declared.faces.Faces.{Faces}
use Rattle.plc_frame.specs.declared.faces.Shown.{Shown}
use Rattle.plc_frame.proofs.Building.{append-assoc, view_append}
use Rattle.plc_frame.proofs.Framing.{stms_of-append}
use Rattle.plc_frame.proofs.TryLaws.{bodies-are}

-- ---- sizes

net-kept : (net : Net) → things (net_tree net) ≤ 100000
net-kept net =
    let h : nat_le (things (net_tree net)) 100000 ≡ true =
    and-left _ _ (and-left _ _ (and-left _ _ (and-left _ _ (and-left _ _ (and-left _ _ (and-left _ _ (and-left _ _ net.fits))))))) in
    grind (arith, nat_tests)

locs-of : (xs : List Auto) (k : ℕ) (a : Auto) → k < length xs → a ≡ get_or xs k a
    → length a.locs ≤ sum (map (λ (b : n.NetAuto). length b.locs + length b.edges) (map auto_tree xs))
locs-of [] k a h e = absurd (omega (arith, h))
locs-of (b ∷ xs) zero a h e =
    let s : sum (map (λ (c : n.NetAuto). length c.locs + length c.edges) (map auto_tree (b ∷ xs))) ≡ length b.locs + length (auto_tree b).edges + sum (map (λ (c : n.NetAuto). length c.locs + length c.edges) (map auto_tree xs)) =
    sum_by-cons (λ x. x) (length b.locs + length (auto_tree b).edges) (map (λ (c : n.NetAuto). length c.locs + length c.edges) (map auto_tree xs)) in
    let same : length a.locs ≡ length b.locs = ap (λ (c : Auto). length c.locs) e in
    omega (arith, s, same)
locs-of (b ∷ xs) (suc k) a h e =
    let s : sum (map (λ (c : n.NetAuto). length c.locs + length c.edges) (map auto_tree (b ∷ xs))) ≡ length b.locs + length (auto_tree b).edges + sum (map (λ (c : n.NetAuto). length c.locs + length c.edges) (map auto_tree xs)) =
    sum_by-cons (λ x. x) (length b.locs + length (auto_tree b).edges) (map (λ (c : n.NetAuto). length c.locs + length c.edges) (map auto_tree xs)) in
    let r = locs-of xs k a (omega (arith, h)) e in
    omega (arith, s, r)

-- no automaton of a net has many locations
pub few-locs : (net : Net) (xs : List Auto) (k : ℕ) (a : Auto) → xs ≡ net.autos → k < length xs → a ≡ get_or xs k a → length a.locs < 2 ^ 32
few-locs net xs k a same h e =
    let all : things (net_tree net) ≤ 100000 = net-kept net in
    let one : length a.locs ≤ sum (map (λ (b : n.NetAuto). length b.locs + length b.edges) (net_tree net).autos) =
    subst (λ (ys : List Auto). length a.locs ≤ sum (map (λ (b : n.NetAuto). length b.locs + length b.edges) (map auto_tree ys))) same (locs-of xs k a h e) in
    omega (arith, all, one)

-- a list that is shown is as long as what it shows
shown-length : (xs : List Shown) (ys : List VariableFace) → map face_tree xs ≡ ys → length xs ≡ length ys
shown-length xs ys h = sym (map-length face_tree xs) ∙ ap length h

pub few-places-shown : (net : Net) (xs : List Shown) → map face_tree xs ≡ places_of (face_of_net (net_tree net)) → length xs < 2 ^ 32
few-places-shown net xs h =
    let all : things (net_tree net) ≤ 100000 = net-kept net in
    let a = shown-length xs (places_of (face_of_net (net_tree net))) h in
    let b = map-length place_face (map auto_face (net_tree net).autos) in
    let c = map-length auto_face (net_tree net).autos in
    omega (arith, all, a, b, c)

pub few-variables-shown : (net : Net) (xs : List Shown) → map face_tree xs ≡ (face_of_net (net_tree net)).variables → length xs < 2 ^ 32
few-variables-shown net xs h =
    let all : things (net_tree net) ≤ 100000 = net-kept net in
    let a = shown-length xs (face_of_net (net_tree net)).variables h in
    let b = map-length stored_face (net_tree net).vars in
    omega (arith, all, a, b)

pub few-inputs-shown : (net : Net) (xs : List Shown) → map face_tree xs ≡ (face_of_net (net_tree net)).inputs → length xs < 2 ^ 32
few-inputs-shown net xs h =
    let all : things (net_tree net) ≤ 100000 = net-kept net in
    let a = shown-length xs (face_of_net (net_tree net)).inputs h in
    let b = map-length stored_face (net_tree net).inputs in
    omega (arith, all, a, b)

pub few-algs-shown : (net : Net) (xs : List Shown) → map face_tree xs ≡ algs_of (face_of_net (net_tree net)) → length xs < 2 ^ 32
few-algs-shown net xs h =
    let all : things (net_tree net) ≤ 100000 = net-kept net in
    let a = shown-length xs (algs_of (face_of_net (net_tree net))) h in
    let b = map-length alg_face (map alg_face_of (net_tree net).algs) in
    let c = map-length alg_face_of (net_tree net).algs in
    omega (arith, all, a, b, c)

-- ---- outputs

pub outputs-are : (x : n.Net) (f : Faces) (a b all : List Stmt) → AreFaces x f → view_stmts a ≡ stms_of (all_shown_by letter.P letter.L (map face_tree f.places))
    → view_stmts b ≡ stms_of (all_shown_by letter.Q letter.V (map face_tree f.variables)) → all ≡ a ++ b → view_stmts all ≡ outputs_of (face_of_net x)
outputs-are x f a b all h p q is =
    ap (λ (ss : List Stmt). view_stmts ss) is
    ∙ view_append a b
    ∙ ap (λ ss. append ss (view_stmts b)) p
    ∙ ap (append (stms_of (all_shown_by letter.P letter.L (map face_tree f.places)))) q
    ∙ ap (λ (ys : List VariableFace). append (stms_of (all_shown_by letter.P letter.L ys)) (stms_of (all_shown_by letter.Q letter.V (map face_tree f.variables)))) h.places
    ∙ ap (λ (ys : List VariableFace). append (stms_of (all_shown_by letter.P letter.L (places_of (face_of_net x)))) (stms_of (all_shown_by letter.Q letter.V ys))) h.variables
    ∙ sym (stms_of-append (all_shown_by letter.P letter.L (places_of (face_of_net x))) (all_shown_by letter.Q letter.V (face_of_net x).variables))

-- ---- the program

laid : (a b c d e : Stms) → append (append (append (append a b) c) d) e ≡ append a (append b (append c (append d e)))
laid a b c d e = append-assoc (append (append a b) c) d e ∙ append-assoc (append a b) c (append d e) ∙ append-assoc a b (append c (append d e))

sections : (a b c d o e f g r : List StVar) → a ++ b ++ c ++ d ++ o ++ e ++ f ++ g ++ r ≡ a ++ (b ++ (c ++ ((d ++ o) ++ (e ++ (f ++ (g ++ (r ++ [])))))))
sections a b c d o e f g r =
    ap (λ s. s ++ e ++ f ++ g ++ r) (append_assoc (a ++ b ++ c) d o)
    ∙ append_assoc (a ++ b ++ c ++ (d ++ o) ++ e ++ f) g r
    ∙ append_assoc (a ++ b ++ c ++ (d ++ o) ++ e) f (g ++ r)
    ∙ append_assoc (a ++ b ++ c ++ (d ++ o)) e (f ++ (g ++ r))
    ∙ append_assoc (a ++ b ++ c) (d ++ o) (e ++ (f ++ (g ++ r)))
    ∙ append_assoc (a ++ b) c ((d ++ o) ++ (e ++ (f ++ (g ++ r))))
    ∙ append_assoc a b (c ++ ((d ++ o) ++ (e ++ (f ++ (g ++ r)))))
    ∙ ap (λ s. a ++ (b ++ (c ++ ((d ++ o) ++ (e ++ (f ++ (g ++ s))))))) (sym (append-nil r))

module _ (x : n.Net) (parts : List Part) where
  abbrev tried : Class → Stms
  tried k = tries_of (λ e. (part_of parts e).body) (of_class (system_of_net x) k)

  scan-is : (bodies : List Stms) (shown : Stms) (U C : ℕ) → bodies ≡ map (λ (q : Part). q.body) parts
      → scan_text x bodies shown U C ≡ framed (face_of_net x) (system_of_net x) parts U C (append (outputs_of (face_of_net x)) shown)
  scan-is bodies shown U C are =
      ap (λ bs. scan_text x bs shown U C) are
      ∙ ap (λ ss. append (append (append (append (latches_of (face_of_net x)) (loop_of U ss)) (loop_of C (class_bodies con x.events (map (λ (q : Part). q.body) parts)))) (outputs_of (face_of_net x))) shown) (bodies-are x parts unc)
      ∙ ap (λ ss. append (append (append (append (latches_of (face_of_net x)) (loop_of U (tried unc))) (loop_of C ss)) (outputs_of (face_of_net x))) shown) (bodies-are x parts con)
      ∙ laid (latches_of (face_of_net x)) (loop_of U (tried unc)) (loop_of C (tried con)) (outputs_of (face_of_net x)) shown

  variables-are : (f : Faces) (own : List StVar) → AreFaces x f → declared_for f own ≡ all_variables (sections_of (face_of_net x) own)
  variables-are f own h =
      ap (λ (xs : List VariableFace). declared_by own xs (map face_tree f.variables) (map face_tree f.inputs) (map face_tree f.algs)) h.places
      ∙ ap (λ (xs : List VariableFace). declared_by own (places_of (face_of_net x)) xs (map face_tree f.inputs) (map face_tree f.algs)) h.variables
      ∙ ap (λ (xs : List VariableFace). declared_by own (places_of (face_of_net x)) (face_of_net x).variables xs (map face_tree f.algs)) h.inputs
      ∙ ap (λ (xs : List VariableFace). declared_by own (places_of (face_of_net x)) (face_of_net x).variables (face_of_net x).inputs xs) h.algs
      ∙ sections (declarations letter.L class.Plain (places_of (face_of_net x))) (declarations letter.V class.Plain (face_of_net x).variables)
      (declarations letter.H class.Plain (face_of_net x).inputs) (declarations letter.T class.Plain mark_and_counter) own
      (declarations letter.I class.Input (face_of_net x).inputs) (declarations letter.P class.Output (places_of (face_of_net x)))
      (declarations letter.Q class.Output (face_of_net x).variables) (declarations letter.R class.Output (algs_of (face_of_net x)))

  abbrev made_of : Text → List StVar → Stms → Program
  made_of name vars body = record { name = name; vars = vars; body = body }

  -- what code puts together is the frame round the parts
  pub program-is : (own : List StVar) (bodies : List Stms) (shown : Stms) (U C : ℕ) (f : Faces) (name : Text) (vars : List StVar) (body : List Stmt) → bodies ≡ map (λ (q : Part). q.body) parts
      → AreFaces x f → name ≡ codes "CifScan" → vars ≡ declared_for f own → view_stmts body ≡ scan_text x bodies shown U C → program_of_parts name vars body ≡ program_with x own parts shown U C
  program-is own bodies shown U C f name vars body are h a b d =
      ap (λ w. made_of w vars (view_stmts body)) a
      ∙ ap (λ v. made_of (codes "CifScan") v (view_stmts body)) (b ∙ variables-are f own h)
      ∙ ap (made_of (codes "CifScan") (all_variables (sections_of (face_of_net x) own))) (d ∙ scan-is bodies shown U C are)

-- ---- the programs

-- what code puts together from given parts
pub given-is : (x : n.Net) (parts : List EventPart) (shown : EventPart) (own : List StVar) (bodies : List Stms) (U C : ℕ) (f : Faces) (name : Text) (vars : List StVar) (body : List Stmt)
    → own ≡ own_variables parts ++ shown.own → bodies ≡ map body_of parts → AreFaces x f → name ≡ codes "CifScan" → vars ≡ declared_for f own → view_stmts body ≡ scan_text x bodies shown.body U C
    → program_of_parts name vars body ≡ framed_program x parts shown U C
given-is x parts shown own bodies U C f name vars body own_are are h a b d =
    program-is x (map asked parts) own bodies shown.body U C f name vars body (are ∙ asked-bodies parts) h a b d
    ∙ ap (λ (vs : List StVar). program_with x vs (map asked parts) shown.body U C) own_are
  where
    asked-bodies : (qs : List EventPart) → map body_of qs ≡ map (λ (q : Part). q.body) (map asked qs)
    asked-bodies [] = refl
    asked-bodies (q ∷ qs) = ap (λ r. q.body ∷ r) (asked-bodies qs)
