-- The printed marks of variables that have a spelling derive them.
use Rattle.std.proofs.Common.{◌≡◌, ◌&&◌, ◌+◌, ℤ, pos, negsuc, Bool, true, false, List, [], ◌∷◌, ◌++◌, Option, Some, None, refl, sym, ap, subst, ◌∙◌, add-one, inl, inr}
use Rattle.std.specs.Prelude.{codes, nat_le, neg_ℤ, if◌then◌else◌}
use Rattle.grammar.specs.Lang.{Lang, ◌&◌, ◌∣◌, ◌<$>◌, many, optional, flat}
use Rattle.grammar.specs.Pieces.{Text}
use Rattle.st_ast.specs.Tokens.{Token, kind_of_word, greatest}
use Rattle.st_ast.specs.declared.kinds.TokenKind.{TokenKind}
use Rattle.st_ast.specs.declared.kinds.TokenKind.TheVariants as kinds
use Rattle.st_ast.specs.declared.tree.Address.{Address}
use Rattle.st_ast.specs.declared.tree.StVar.{StVar}
use Rattle.st_ast.specs.declared.tree.StTy.{StTy}
use Rattle.st_ast.specs.declared.tree.StTy.TheVariants as ty
use Rattle.st_ast.specs.declared.tree.StLit.{StLit}
use Rattle.st_ast.specs.declared.tree.StLit.TheVariants as lit
use Rattle.st_ast.specs.declared.tree.StClass.{StClass}
use Rattle.st_ast.specs.declared.tree.StClass.TheVariants as class
use Rattle.st_ast.specs.Grammar.{word, natural, signed, first_value, subrange_of, type_use, value_of_init, declaration, middle, second, block_of, constants, block}
use Rattle.st_ast.specs.Spelled.{is_word_text, is_name, has_signed_literal, is_type_spelled, is_first_spelled, is_without_address, is_declaration, are_declarations}
use Rattle.st_print.specs.Layout.{Mark, number_marks, truth_marks, type_marks, init_marks, declaration_marks, block_marks, same_class, end_marks, further_marks, variables_marks}
use Rattle.st_print.specs.Layout as mark
use Rattle.st_print.proofs.Derived.{Derives, both_derive, map_derives, left_derives, right_derives, none_derives, absent_derives, present_derives, line_derives, front_derives, end_derives, before_derives, first_derives}
use Rattle.st_print.proofs.PrintedExpressions.{parts, word_token, sign_token, word_derives, sign_derives, dash_derives, identifier_derives, natural_derives}

-- ---- numbers, types and first values

signed_derives : (z : ℤ) → has_signed_literal z ≡ true → Derives signed z (λ ms. number_marks z ms)
signed_derives (pos n) r = right_derives (natural_derives n r)
signed_derives (negsuc n) r =
    let small : nat_le (n + 1) greatest ≡ true = subst (λ k. nat_le k greatest ≡ true) (sym (add-one n)) r in
    left_derives (subst (λ z. Derives ((λ ((s, z) : Token × ℤ). neg_ℤ z) <$> word kinds.Dash & natural) z (λ ms. mark.dash ∷ mark.digits (n + 1) ∷ ms)) (ap (λ k. neg_ℤ (pos k)) (add-one n))
    (map_derives (λ ((s, z) : Token × ℤ). neg_ℤ z) (both_derive dash_derives (natural_derives (n + 1) small))))

abbrev Subrange : Type 0
Subrange = Token × (ℤ × (Token × (ℤ × Token)))

type_derives : (t : StTy) → is_type_spelled t ≡ true → Derives type_use t (λ ms. type_marks t ms)
type_derives ty.Bool r = left_derives (map_derives (λ (t : Token). ty.Bool) (word_derives kinds.Bool (codes "BOOL") refl refl))
type_derives ty.Lint r = right_derives (map_derives (λ ((w, o) : Token × Option Subrange). subrange_of o) (both_derive (word_derives kinds.Lint (codes "LINT") refl refl) absent_derives))
type_derives (ty.Range lo hi) r =
    let s = parts (has_signed_literal lo) (has_signed_literal hi) r in
    right_derives (map_derives (λ ((w, o) : Token × Option Subrange). subrange_of o) (both_derive (word_derives kinds.Lint (codes "LINT") refl refl)
    (present_derives (both_derive (sign_derives kinds.Open (codes "(") refl refl) (both_derive (signed_derives lo s.0)
    (both_derive (sign_derives kinds.Dots (codes "..") refl refl) (both_derive (signed_derives hi s.1) (sign_derives kinds.Close (codes ")") refl refl))))))))

first_derives_literal : (v : StLit) → is_first_spelled (Some v) ≡ true → Derives first_value v (λ ms. mark.literal_marks v ms)
first_derives_literal (lit.Bool true) r = left_derives (map_derives (λ (t : Token). lit.Bool true) (word_derives kinds.True (codes "TRUE") refl refl))
first_derives_literal (lit.Bool false) r = right_derives (left_derives (map_derives (λ (t : Token). lit.Bool false) (word_derives kinds.False (codes "FALSE") refl refl)))
first_derives_literal (lit.Int z) r = right_derives (right_derives (map_derives lit.Int (signed_derives z r)))

-- a first value with the sign before it
abbrev assigned : Option StLit → Option (Token × StLit)
assigned None = None
assigned (Some v) = Some (sign_token (codes ":="), v)

assigned_same : (o : Option StLit) → value_of_init (assigned o) ≡ o
assigned_same None = refl
assigned_same (Some v) = refl

init_derives : (o : Option StLit) → is_first_spelled o ≡ true → Derives (optional (word kinds.Assigns & first_value)) (assigned o) (λ ms. init_marks o ms)
init_derives None r = absent_derives
init_derives (Some v) r = present_derives (both_derive (sign_derives kinds.Assigns (codes ":=") refl refl) (first_derives_literal v r))

-- ---- declarations

no_address : (o : Option Address) → is_without_address o ≡ true → None ≡ o
no_address None r = refl
no_address (Some a) r = absurd cc

declared_same : (k : StClass) (v : StVar) → k ≡ v.class → is_without_address v.at ≡ true
    → record { name = v.name; class = k; ty = v.ty; init = value_of_init (assigned v.init); at = None } ≡ v
declared_same k v is none =
    ap (λ (i : Option StLit). record { name = v.name; class = k; ty = v.ty; init = i; at = None }) (assigned_same v.init)
    ∙ ap (λ (c : StClass). record { name = v.name; class = c; ty = v.ty; init = v.init; at = None }) is
    ∙ ap (λ (a : Option Address). record { name = v.name; class = v.class; ty = v.ty; init = v.init; at = a }) (no_address v.at none)

declaration_derives : (k : StClass) (v : StVar) → k ≡ v.class → is_declaration v ≡ true → Derives (declaration k) v (λ ms. declaration_marks v ms)
declaration_derives k v is r =
    let s = parts (is_name v.name) (is_type_spelled v.ty && (is_first_spelled v.init && is_without_address v.at)) r in
    let t = parts (is_type_spelled v.ty) (is_first_spelled v.init && is_without_address v.at) s.1 in
    let u = parts (is_first_spelled v.init) (is_without_address v.at) t.1 in
    subst (λ w. Derives (declaration k) w (λ ms. declaration_marks v ms)) (declared_same k v is u.1)
    (line_derives 1 (map_derives (λ ((x, (s, (t, (o, end)))) : Text × (Token × (StTy × (Option (Token × StLit) × Token)))). record { name = x; class = k; ty = t; init = value_of_init o; at = None })
    (both_derive (identifier_derives v.name s.0) (both_derive (sign_derives kinds.Colon (codes ":") refl refl) (both_derive (type_derives v.ty t.0)
    (both_derive (init_derives v.init u.0) (sign_derives kinds.Semicolon (codes ";") refl refl)))))))

-- ---- blocks

same_class-equal : (a b : StClass) → same_class a b ≡ true → a ≡ b
same_class-equal class.Plain class.Plain r = refl
same_class-equal class.Plain class.Constant r = absurd cc
same_class-equal class.Plain class.Input r = absurd cc
same_class-equal class.Plain class.Output r = absurd cc
same_class-equal class.Constant class.Plain r = absurd cc
same_class-equal class.Constant class.Constant r = refl
same_class-equal class.Constant class.Input r = absurd cc
same_class-equal class.Constant class.Output r = absurd cc
same_class-equal class.Input class.Plain r = absurd cc
same_class-equal class.Input class.Constant r = absurd cc
same_class-equal class.Input class.Input r = refl
same_class-equal class.Input class.Output r = absurd cc
same_class-equal class.Output class.Plain r = absurd cc
same_class-equal class.Output class.Constant r = absurd cc
same_class-equal class.Output class.Input r = absurd cc
same_class-equal class.Output class.Output r = refl

-- the further variables of an open block of a class, and the blocks after it
abbrev grouped : Bool → StVar → List StVar × List (List StVar) → List StVar × List (List StVar) → List StVar × List (List StVar)
grouped true v same other = (v ∷ same.0, same.1)
grouped false v same other = ([], (v ∷ other.0) ∷ other.1)

abbrev groups : StClass → List StVar → List StVar × List (List StVar)
groups k [] = ([], [])
groups k (v ∷ vs) = grouped (same_class k v.class) v (groups k vs) (groups v.class vs)

abbrev Open : StClass → List StVar → List (List StVar) → (List Mark → List Mark) → Type 0
Open k vs blocks marks = Derives ((many (declaration k) & word kinds.EndVar) & many block) ((vs, word_token (codes "END_VAR")), blocks) marks

-- a block and the blocks after it
block_and_more : {vs : List StVar} {blocks : List (List StVar)} {f : List Mark → List Mark} → Derives (block & many block) (vs, blocks) f → Derives (many block) (vs ∷ blocks) f
block_and_more h = record { text = h.text; derived = h.derived; is = h.is; good = h.good }

-- the first of two, as one of a choice
first_left : {A C : Type 0} (p q : Lang Token A) (r : Lang Token C) {a : A} {c : C} {f : List Mark → List Mark} → Derives (p & r) (a, c) f → Derives ((p ∣ q) & r) (a, c) f
first_left p q r h = record { text = h.text; derived = (h.derived.0, h.derived.1, inl h.derived.2, h.derived.3, h.derived.4); is = h.is; good = h.good }

first_right : {A C : Type 0} (p q : Lang Token A) (r : Lang Token C) {a : A} {c : C} {f : List Mark → List Mark} → Derives (q & r) (a, c) f → Derives ((p ∣ q) & r) (a, c) f
first_right p q r h = record { text = h.text; derived = (h.derived.0, h.derived.1, inr h.derived.2, h.derived.3, h.derived.4); is = h.is; good = h.good }

abbrev middle_of_block : Token × (List StVar × Token) → List StVar
middle_of_block v = middle v

-- the variables of a block, and its end
abbrev inner_of : StClass → Lang Token (List StVar × Token)
inner_of k = many (declaration k) & word kinds.EndVar

-- the blocks that are given by a choice after the first
abbrev not_plain : Lang Token (List StVar)
not_plain = constants ∣ block_of kinds.VarInput class.Input ∣ block_of kinds.VarOutput class.Output

abbrev not_constant : Lang Token (List StVar)
not_constant = block_of kinds.VarInput class.Input ∣ block_of kinds.VarOutput class.Output

-- a block with its first word
with_word : (k : StClass) (kind : TokenKind) (w : Text) (vs : List StVar) (blocks : List (List StVar)) (f : List Mark → List Mark) → kind_of_word w ≡ kind → is_word_text w ≡ true → Open k vs blocks f
    → Derives (block_of kind k & many block) (vs, blocks) (λ ms. mark.word w ∷ f ms)
with_word k kind w vs blocks f is good h =
    first_derives (word kind & inner_of k) (many block) middle_of_block (before_derives (inner_of k) (many block) (word_derives kind w is good) h)

block_derives : (k : StClass) (vs : List StVar) (blocks : List (List StVar)) (f : List Mark → List Mark) → Open k vs blocks f → Derives (many block) (vs ∷ blocks) (λ ms. block_marks k (f ms))
block_derives class.Plain vs blocks f h =
    block_and_more (first_left (block_of kinds.Var class.Plain) not_plain (many block) (line_derives 0 (with_word class.Plain kinds.Var (codes "VAR") vs blocks f refl refl h)))
block_derives class.Constant vs blocks f h =
    block_and_more (first_right (block_of kinds.Var class.Plain) not_plain (many block) (first_left constants not_constant (many block)
    (first_derives (word kinds.Var & block_of kinds.Constant class.Constant) (many block) (λ (v : Token × List StVar). second v)
    (before_derives (block_of kinds.Constant class.Constant) (many block) (line_derives 0 (word_derives kinds.Var (codes "VAR") refl refl))
    (with_word class.Constant kinds.Constant (codes "CONSTANT") vs blocks f refl refl h)))))
block_derives class.Input vs blocks f h =
    block_and_more (first_right (block_of kinds.Var class.Plain) not_plain (many block) (first_right constants not_constant (many block)
    (first_left (block_of kinds.VarInput class.Input) (block_of kinds.VarOutput class.Output) (many block) (line_derives 0 (with_word class.Input kinds.VarInput (codes "VAR_INPUT") vs blocks f refl refl h)))))
block_derives class.Output vs blocks f h =
    block_and_more (first_right (block_of kinds.Var class.Plain) not_plain (many block) (first_right constants not_constant (many block)
    (first_right (block_of kinds.VarInput class.Input) (block_of kinds.VarOutput class.Output) (many block) (line_derives 0 (with_word class.Output kinds.VarOutput (codes "VAR_OUTPUT") vs blocks f refl refl h)))))

end_of_block : Derives (word kinds.EndVar) (word_token (codes "END_VAR")) (λ ms. end_marks ms)
end_of_block = line_derives 0 (word_derives kinds.EndVar (codes "END_VAR") refl refl)

abbrev Further : StClass → List StVar → Type 0
Further k vs = Open k (groups k vs).0 (groups k vs).1 (λ ms. further_marks k vs ms)

-- a variable that begins a block
opened : (v : StVar) (vs : List StVar) → is_declaration v ≡ true → Further v.class vs
    → Derives (many block) ((v ∷ (groups v.class vs).0) ∷ (groups v.class vs).1) (λ ms. block_marks v.class (declaration_marks v (further_marks v.class vs ms)))
opened v vs r h = block_derives v.class _ _ _ (front_derives (word kinds.EndVar) (many block) (declaration_derives v.class v refl r) h)

-- one more variable, of the open block or of another class
further_one : (k : StClass) (v : StVar) (vs : List StVar) (b : Bool) → same_class k v.class ≡ b → is_declaration v ≡ true → Further k vs → Further v.class vs
    → Open k (grouped b v (groups k vs) (groups v.class vs)).0 (grouped b v (groups k vs) (groups v.class vs)).1
    (λ ms. if b then declaration_marks v (further_marks k vs ms) else end_marks (block_marks v.class (declaration_marks v (further_marks v.class vs ms))))
further_one k v vs true is r h other = front_derives (word kinds.EndVar) (many block) (declaration_derives k v (same_class-equal k v.class is) r) h
further_one k v vs false is r h other = end_derives end_of_block (opened v vs r other)

further_derive : (k : StClass) (vs : List StVar) → are_declarations vs ≡ true → Further k vs
further_derive k [] r = end_derives end_of_block none_derives
further_derive k (v ∷ vs) r =
    let s = parts (is_declaration v) (are_declarations vs) r in
    further_one k v vs (same_class k v.class) refl s.0 (further_derive k vs s.1) (further_derive v.class vs s.1)

-- one block for each longest run of variables of one class
abbrev pub blocks_of : List StVar → List (List StVar)
blocks_of [] = []
blocks_of (v ∷ vs) = (v ∷ (groups v.class vs).0) ∷ (groups v.class vs).1

pub variables_derive : (vs : List StVar) → are_declarations vs ≡ true → Derives (many block) (blocks_of vs) (λ ms. variables_marks vs ms)
variables_derive [] r = none_derives
variables_derive (v ∷ vs) r =
    let s = parts (is_declaration v) (are_declarations vs) r in
    opened v vs s.0 (further_derive v.class vs s.1)

flat-groups : (k : StClass) (vs : List StVar) → (groups k vs).0 ++ flat (groups k vs).1 ≡ vs
flat-groups k [] = refl
flat-groups k (v ∷ vs) = go (same_class k v.class) (ap (λ us. v ∷ us) (flat-groups k vs)) (ap (λ us. v ∷ us) (flat-groups v.class vs))
  where
    go : (b : Bool) → v ∷ ((groups k vs).0 ++ flat (groups k vs).1) ≡ v ∷ vs → v ∷ ((groups v.class vs).0 ++ flat (groups v.class vs).1) ≡ v ∷ vs
        → (grouped b v (groups k vs) (groups v.class vs)).0 ++ flat (grouped b v (groups k vs) (groups v.class vs)).1 ≡ v ∷ vs
    go true same other = same
    go false same other = other

pub flat-blocks_of : (vs : List StVar) → flat (blocks_of vs) ≡ vs
flat-blocks_of [] = refl
flat-blocks_of (v ∷ vs) = ap (λ us. v ∷ us) (flat-groups v.class vs)
