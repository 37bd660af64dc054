-- A text reads as the tree that is read, and as no other.
use Rattle.std.proofs.Common.{◌≡◌, ℕ, ◌≤◌, length, List, [], ◌∷◌, Option, Some, None, refl, sym, ap, subst, ◌∙◌, append-nil}
use Rattle.grammar.specs.Pieces.{Text}
use Rattle.grammar.specs.Lang.{many, flat}
use Rattle.grammar.specs.Reader.{Read}
use Rattle.cif_lex.specs.Tokens.{Tokens}
use Rattle.cif_lex.specs.declared.token.Token.{Token}
use Rattle.cif_lex.proofs.TokenLaws.{token_lists_agree}
use Rattle.cif_ast.specs.declared.components.Item.{Item}
use Rattle.cif_ast.specs.declared.components.Spec.{Spec}
use Rattle.cif_parse_expr.specs.declared.error.ReadError.{ReadError}
use Rattle.cif_parse_expr.specs.declared.error.ReadError.TheVariants.{NotRead, TooDeep}
use Rattle.cif_parse_expr.specs.Gives.{Fails}
use Rattle.cif_parse.specs.Trees as tree
use Rattle.cif_parse.specs.Grammar.{item, specification, Reads, NotReadDue}
use Rattle.cif_parse.specs.Reading.{items_at, ended, finished, specification_at}
use Rattle.cif_parse.proofs.Agrees.{items_takes}

finished_some : (read : Read Token (List Item)) (s : Spec) → finished read ≡ Some s → (is : List Item) × (read ≡ Some (is, [])) × (tree.specification is ≡ s)
finished_some None s e = absurd cc
finished_some (Some p) s e = go p.1 refl e
  where
    go : (us : List Token) → p.1 ≡ us → ended p.0 us ≡ Some s → (is : List Item) × (Some p ≡ Some (is, [])) × (tree.specification is ≡ s)
    go [] f e = (p.0, ap (λ us. Some (p.0, us)) f, let same : tree.specification p.0 ≡ s = cc in same)
    go (t ∷ us) f e = absurd cc

pub read_derives : (text : Text) (ts : List Token) (s : Spec) → specification_at text ts ≡ Some s → specification text s ts
unfolding specification_at specification
read_derives text ts s e =
    let r = finished_some (items_at text 101 ts) s e in
    let m = (items_takes text 101).sound ts r.0 [] r.1 in
    let all = m.1 in
    (all.0, subst (λ us. many (item text 101) all.0 us) (sym (m.2 ∙ append-nil m.0)) all.1, sym r.2 ∙ ap tree.specification all.2)

pub derived_reads : (text : Text) (ts : List Token) (s : Spec) → specification text s ts → specification_at text ts ≡ Some s
unfolding specification_at specification
derived_reads text ts s d =
    let c = (items_takes text 101).complete (flat d.0) ts [] (d.0, d.1, refl) refl in
    ap finished (ap (items_at text 101) (sym (append-nil ts)) ∙ c) ∙ ap Some (sym d.2)

-- A text reads as at most one tree.
pub reads_one : (text : Text) (a b : Spec) → Reads text a → Reads text b → a ≡ b
reads_one text a b r s =
    let same = token_lists_agree text r.tokens s.tokens r.are_tokens s.are_tokens in
    let first = derived_reads text r.tokens a r.derived in
    let other = derived_reads text s.tokens b s.derived in
    let there : specification_at text r.tokens ≡ specification_at text s.tokens = ap (specification_at text) same in
    cc

-- ---- by the tokens of the text

pub tree_read : (text : Text) (ts : List Token) (s : Spec) → Tokens text ts → specification_at text ts ≡ Some s → Reads text s
tree_read text ts s t e = record { tokens = ts; are_tokens = t; derived = read_derives text ts s e }

pub other_read : (text : Text) (ts : List Token) (s : Spec) → Tokens text ts → Reads text s → specification_at text ts ≡ Some s
other_read text ts s t r =
    let same : r.tokens ≡ ts = token_lists_agree text r.tokens ts r.are_tokens t in
    subst (λ us. specification_at text us ≡ Some s) same (derived_reads text r.tokens s r.derived)

pub none_read : (text : Text) (ts : List Token) (at : ℕ) → Tokens text ts → specification_at text ts ≡ None → at ≤ length text → NotReadDue text at
none_read text ts at t e l = record { tokens = ts; are_tokens = t; no_tree = λ s r. let f = other_read text ts s t r in cc; within = l }

pub same_tree : (text : Text) (ts : List Token) (a b : Spec) → Tokens text ts → specification_at text ts ≡ Some a → Reads text b → a ≡ b
same_tree text ts a b t e r = let f = other_read text ts b t r in cc

-- ---- by the errors

pub not_read_none : {Y : Type 0} (e : ReadError) (left : ℕ) (read : Option Y) → e ≡ NotRead left → Fails e read → read ≡ None
not_read_none e left read is h = subst (λ f. Fails f read) is h

pub too_deep_none : {Y : Type 0} (e : ReadError) (read : Option Y) → e ≡ TooDeep → Fails e read → read ≡ None
too_deep_none e read is h = subst (λ f. Fails f read) is h
