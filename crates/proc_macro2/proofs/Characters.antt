-- Tokens that are printed as characters.
use Rattle.std.proofs.Common.{◌≡◌, ℕ, List, [], ◌∷◌, ◌++◌, refl, sym, subst}
use Rattle.std.specs.Prelude.{Bool, true, false, ◌||◌, ◌==◌}
use Rattle.std.specs.List.{flat_map, list_any}
use Rattle.std.proofs.lemmas.Bool.{and_from, and_parts, eqb-true}
use Rattle.std.proofs.lemmas.List.{append-nil}
use lib.Utf8.{scalar, scalars}
use Rattle.rust_leaf.specs.Leaf.{AreCharacters}
use Rattle.rust_leaf.specs.Mark.{is_mark, marks}
use Rattle.proc_macro2.specs.declared.delimiter.Delimiter.TheVariants as delimiter
use Rattle.proc_macro2.specs.Token.{Delimiter, Token}
use Rattle.proc_macro2.specs.Printed.{closing, is_apart, opening, shown, space, text}

pub characters_append : (cs ds : List ℕ) → AreCharacters cs → AreCharacters ds → AreCharacters (cs ++ ds)
characters_append [] ds a b = b
characters_append (c ∷ cs) ds a b = let (first, rest) =
    and_parts (scalar c) (scalars cs) a in and_from _ _ first (characters_append cs ds rest b)

pub characters_front : (cs ds : List ℕ) → AreCharacters (cs ++ ds) → AreCharacters cs
characters_front [] ds a = refl
characters_front (c ∷ cs) ds a = let (first, rest) =
    and_parts (scalar c) (scalars (cs ++ ds)) a in and_from _ _ first (characters_front cs ds rest)

pub characters_back : (cs ds : List ℕ) → AreCharacters (cs ++ ds) → AreCharacters ds
characters_back [] ds a = a
characters_back (c ∷ cs) ds a = characters_back cs ds (and_parts (scalar c) (scalars (cs ++ ds)) a).1

-- a text of one token
pub characters_one : (cs : List ℕ) → AreCharacters cs → AreCharacters (cs ++ [])
characters_one cs a = subst AreCharacters (sym (append-nil cs)) a

pub opening_characters : (d : Delimiter) → AreCharacters (opening d)
opening_characters delimiter.Parenthesis = refl
opening_characters delimiter.Brace = refl
opening_characters delimiter.Bracket = refl
opening_characters delimiter.None = refl

pub closing_characters : (d : Delimiter) → AreCharacters (closing d)
closing_characters delimiter.Parenthesis = refl
closing_characters delimiter.Brace = refl
closing_characters delimiter.Bracket = refl
closing_characters delimiter.None = refl

among : (ms : List ℕ) (c : ℕ) → scalars ms ≡ true → list_any (λ mark. mark == c) ms ≡ true → scalar c ≡ true
among [] c a e = absurd (cc)
among (m ∷ ms) c a e = by (λ h. among ms c (and_parts _ _ a).1 h) (m == c) refl e
  where
    by : (list_any (λ mark. mark == c) ms ≡ true → scalar c ≡ true) → (b : Bool) → (m == c) ≡ b
        → (b || list_any (λ mark. mark == c) ms) ≡ true → scalar c ≡ true
    by others true s e = subst (λ n. scalar n ≡ true) (eqb-true m c s) (and_parts _ _ a).0
    by others false s e = others e

pub mark_characters : (c : ℕ) → is_mark c ≡ true → AreCharacters (c ∷ [])
unfolding is_mark
mark_characters c m = and_from _ _ (among marks c refl m) refl

space_characters : (b : Bool) → AreCharacters (space b)
space_characters true = refl
space_characters false = refl

-- what is printed of tokens is characters, where each token is printed as characters
pub text_characters : (ts : List Token) → AreCharacters (flat_map shown ts) → AreCharacters (text ts)
text_characters [] a = refl
text_characters (t ∷ []) a = characters_front (shown t) [] a
text_characters (t ∷ u ∷ us) a =
    characters_append (shown t) (space (is_apart t u) ++ text (u ∷ us))
    (characters_front (shown t) (flat_map shown (u ∷ us)) a)
    (characters_append (space (is_apart t u)) (text (u ∷ us)) (space_characters (is_apart t u))
    (text_characters (u ∷ us) (characters_back (shown t) (flat_map shown (u ∷ us)) a)))
