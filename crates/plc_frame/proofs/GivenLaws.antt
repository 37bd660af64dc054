-- The program round given statements meets what the law of the frame asks.
use Rattle.std.proofs.Common.{◌≡◌, ℕ, zero, suc, ◌+◌, ◌≤◌, true, ◌&&◌, List, [], ◌∷◌, ◌++◌, map, arith}
use Rattle.std.specs.List.{AllByRecursion}
use Rattle.cif_system.proofs.Picks.{and-left, and-right}
use Rattle.cif_net_model.specs.Net.{Net}
use Rattle.cif_net_model.proofs.ValueLaws.{all-parts}
use Rattle.cif_net_model.specs.Facts.{is_net}
use Rattle.st_ast.specs.Checks.{stms_faults, variables_faults}
use Rattle.st_ast.specs.Scan.{turns_of_scan}
use Rattle.st_ast.specs.Spelled.{are_declarations, are_stms, is_name}
use Rattle.st_ast.specs.Tree.{Program}
use Rattle.st_ast.specs.declared.tree.StVar.{StVar}
use Rattle.st_ast.specs.declared.tree.StClass.TheVariants as class
use Rattle.plc_model.specs.declared.letter.Letter.TheVariants as letter
use Rattle.plc_model.specs.Frame.{IsOwnName, part_of}
use Rattle.plc_frame.specs.Given.{EventPart, FrameFits, IsOwnVariable, asked, framed_program, own_variables}
use Rattle.plc_frame.specs.Makes.{Makes}
use Rattle.plc_frame.proofs.Declaring.{AllOf, append-none-left, checked-typed}
use Rattle.plc_frame.proofs.Framing.{framed-makes}

-- variables of the letter T
own-of : (vs : List StVar) → AllByRecursion IsOwnVariable vs → AllOf letter.T class.Plain vs
own-of [] h = tt
own-of (v ∷ vs) h = (record { number = h.0.number; path = h.0.path; name = h.0.name; class = h.0.is_plain }, own-of vs h.1)

names-own : (vs : List StVar) → AllByRecursion IsOwnVariable vs → AllByRecursion IsOwnName (map (λ (v : StVar). v.name) vs)
names-own [] h = tt
names-own (v ∷ vs) h =
    let top = h.0.to in
    ((h.0.number, h.0.path, h.0.from, omega (arith, top), h.0.name), names-own vs h.1)

part-own : (parts : List EventPart) → AllByRecursion IsOwnVariable (own_variables parts) → (e : ℕ) → AllByRecursion IsOwnName (part_of (map asked parts) e).own
part-own [] h e = tt
part-own (x ∷ parts) h zero = names-own x.own (all-parts IsOwnVariable x.own (own_variables parts) h).0
part-own (x ∷ parts) h (suc e) = part-own parts (all-parts IsOwnVariable x.own (own_variables parts) h).1 e

-- statements that fit make a program with exact scans
pub given-makes : (n : Net) (parts : List EventPart) (shown : EventPart) (U C : ℕ) → is_net n ≡ true → FrameFits n U C parts shown → U + C ≤ turns_of_scan → Makes n U C (framed_program n parts shown U C)
given-makes n parts shown U C net fits turns =
    let p : Program = framed_program n parts shown U C in
    framed-makes n (own_variables parts ++ shown.own) (map asked parts) shown.body U C net fits.plain (own-of (own_variables parts ++ shown.own) fits.own) turns fits.checked
    (checked-typed [] 0 p.vars (append-none-left (variables_faults [] 0 p.vars) (stms_faults p.vars 0 p.body) fits.checked)
    (and-left (are_declarations p.vars) (are_stms 400 p.body) (and-right (is_name p.name) (are_declarations p.vars && are_stms 400 p.body) fits.spelled)))
    (part-own parts (all-parts IsOwnVariable (own_variables parts) shown.own fits.own).0) fits.events fits.shows
