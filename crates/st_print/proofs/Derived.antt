-- Marks whose tokens derive a tree, built up as the grammar is.
use Rattle.std.proofs.Common.{◌≡◌, ℕ, List, [], ◌∷◌, ◌++◌, Some, None, refl, sym, ap, ◌∙◌, append_assoc, inl, inr}
use Rattle.grammar.specs.Lang.{Lang, ◌&◌, ◌∣◌, ◌<$>◌, many, some, optional}
use Rattle.st_ast.specs.Tokens.{Token}
use Rattle.st_print.specs.Layout.{Mark}
use Rattle.st_print.specs.Layout as mark
use Rattle.st_print.specs.Marks.{tokens_of, AreMarks}

-- The marks put before others have tokens that derive the tree, and are spelled well where the others are.
pub record Derives {A : Type 0} (p : Lang Token A) (a : A) (marks : List Mark → List Mark) : Type 0 where
  pub text : List Token
  pub derived : p a text
  pub is : (ms : List Mark) → tokens_of (marks ms) ≡ text ++ tokens_of ms
  pub good : (ms : List Mark) → AreMarks ms → AreMarks (marks ms)

pub both_derive : {A B : Type 0} {p : Lang Token A} {q : Lang Token B} {a : A} {b : B} {f g : List Mark → List Mark} → Derives p a f → Derives q b g
    → Derives (p & q) (a, b) (λ ms. f (g ms))
both_derive {g = g} h k = record {
  text = h.text ++ k.text;
  derived = (h.text, k.text, h.derived, k.derived, refl);
  is = λ ms. h.is (g ms) ∙ ap (λ ts. h.text ++ ts) (k.is ms) ∙ sym (append_assoc h.text k.text (tokens_of ms));
  good = λ ms m. h.good (g ms) (k.good ms m);
}

pub map_derives : {A B : Type 0} {p : Lang Token A} {a : A} {marks : List Mark → List Mark} (f : A → B) → Derives p a marks → Derives (f <$> p) (f a) marks
map_derives {a = a} f h = record { text = h.text; derived = (a, h.derived, refl); is = h.is; good = h.good }

pub left_derives : {A : Type 0} {p q : Lang Token A} {a : A} {marks : List Mark → List Mark} → Derives p a marks → Derives (p ∣ q) a marks
left_derives h = record { text = h.text; derived = inl h.derived; is = h.is; good = h.good }

pub right_derives : {A : Type 0} {p q : Lang Token A} {a : A} {marks : List Mark → List Mark} → Derives q a marks → Derives (p ∣ q) a marks
right_derives h = record { text = h.text; derived = inr h.derived; is = h.is; good = h.good }

pub none_derives : {A : Type 0} {p : Lang Token A} → Derives (many p) [] (λ ms. ms)
none_derives = record { text = []; derived = refl; is = λ ms. refl; good = λ ms m. m }

pub more_derive : {A : Type 0} {p : Lang Token A} {a : A} {as' : List A} {f g : List Mark → List Mark} → Derives p a f → Derives (many p) as' g
    → Derives (many p) (a ∷ as') (λ ms. f (g ms))
more_derive {g = g} h k = record {
  text = h.text ++ k.text;
  derived = (h.text, k.text, h.derived, k.derived, refl);
  is = λ ms. h.is (g ms) ∙ ap (λ ts. h.text ++ ts) (k.is ms) ∙ sym (append_assoc h.text k.text (tokens_of ms));
  good = λ ms m. h.good (g ms) (k.good ms m);
}

pub some_derive : {A : Type 0} {p : Lang Token A} {a : A} {as' : List A} {marks : List Mark → List Mark} → Derives (many p) (a ∷ as') marks → Derives (some p) (a ∷ as') marks
some_derive h = record { text = h.text; derived = h.derived; is = h.is; good = h.good }

pub absent_derives : {A : Type 0} {p : Lang Token A} → Derives (optional p) None (λ ms. ms)
absent_derives = record { text = []; derived = refl; is = λ ms. refl; good = λ ms m. m }

pub present_derives : {A : Type 0} {p : Lang Token A} {a : A} {marks : List Mark → List Mark} → Derives p a marks → Derives (optional p) (Some a) marks
present_derives h = record { text = h.text; derived = h.derived; is = h.is; good = h.good }

-- a line break before
pub line_derives : {A : Type 0} {p : Lang Token A} {a : A} {marks : List Mark → List Mark} (k : ℕ) → Derives p a marks → Derives p a (λ ms. mark.line k ∷ marks ms)
line_derives k h = record { text = h.text; derived = h.derived; is = h.is; good = λ ms m. (refl, h.good ms m) }

-- ---- lists that end within others

-- one more at the front of a list with an end, before what follows
pub front_derives : {A B C : Type 0} {p : Lang Token A} (q : Lang Token B) (r : Lang Token C) {a : A} {as' : List A} {b : B} {c : C} {f g : List Mark → List Mark}
    → Derives p a f → Derives ((many p & q) & r) ((as', b), c) g → Derives ((many p & q) & r) ((a ∷ as', b), c) (λ ms. f (g ms))
front_derives q r {g = g} h k =
    let inner = k.derived.2 in
    record {
      text = h.text ++ k.text;
      derived = (
        (h.text ++ inner.0) ++ inner.1,
        k.derived.1,
        (h.text ++ inner.0, inner.1, (h.text, inner.0, h.derived, inner.2, refl), inner.3, refl),
        k.derived.3,
        ap (λ ts. h.text ++ ts) (k.derived.4 ∙ ap (λ ts. ts ++ k.derived.1) inner.4 ∙ append_assoc inner.0 inner.1 k.derived.1)
            ∙ sym (append_assoc (h.text ++ inner.0) inner.1 k.derived.1 ∙ append_assoc h.text inner.0 (inner.1 ++ k.derived.1)),
      );
      is = λ ms. h.is (g ms) ∙ ap (λ ts. h.text ++ ts) (k.is ms) ∙ sym (append_assoc h.text k.text (tokens_of ms));
      good = λ ms m. h.good (g ms) (k.good ms m);
    }

-- a list with an end, before what follows
pub end_derives : {A B C : Type 0} {p : Lang Token A} {q : Lang Token B} {r : Lang Token C} {b : B} {c : C} {f g : List Mark → List Mark}
    → Derives q b f → Derives r c g → Derives ((many p & q) & r) (([], b), c) (λ ms. f (g ms))
end_derives {g = g} h k = record {
  text = h.text ++ k.text;
  derived = (h.text, k.text, ([], h.text, refl, h.derived, refl), k.derived, refl);
  is = λ ms. h.is (g ms) ∙ ap (λ ts. h.text ++ ts) (k.is ms) ∙ sym (append_assoc h.text k.text (tokens_of ms));
  good = λ ms m. h.good (g ms) (k.good ms m);
}

-- something before the first of two
pub before_derives : {A B C : Type 0} {p : Lang Token A} (q : Lang Token B) (r : Lang Token C) {a : A} {b : B} {c : C} {f g : List Mark → List Mark}
    → Derives p a f → Derives (q & r) (b, c) g → Derives ((p & q) & r) ((a, b), c) (λ ms. f (g ms))
before_derives q r {g = g} h k = record {
  text = h.text ++ k.text;
  derived = (
    h.text ++ k.derived.0,
    k.derived.1,
    (h.text, k.derived.0, h.derived, k.derived.2, refl),
    k.derived.3,
    ap (λ ts. h.text ++ ts) k.derived.4 ∙ sym (append_assoc h.text k.derived.0 k.derived.1),
  );
  is = λ ms. h.is (g ms) ∙ ap (λ ts. h.text ++ ts) (k.is ms) ∙ sym (append_assoc h.text k.text (tokens_of ms));
  good = λ ms m. h.good (g ms) (k.good ms m);
}

-- the first of two, made into another tree
pub first_derives : {A B C : Type 0} (p : Lang Token A) (r : Lang Token C) {a : A} {c : C} {f : List Mark → List Mark} (make : A → B) → Derives (p & r) (a, c) f
    → Derives ((make <$> p) & r) (make a, c) f
first_derives p r {a = a} make h = record {
  text = h.text;
  derived = (h.derived.0, h.derived.1, (a, h.derived.2, refl), h.derived.3, h.derived.4);
  is = h.is;
  good = h.good;
}
