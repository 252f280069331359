-- What may stand before all other tokens, and what hinders it: a raw form that ends in a joint mark.
use Rattle.std.specs.Prelude.{◌≡◌, ℕ, Bool, true, false, ◌&&◌, not, ◌==◌, List, [], ◌∷◌, ◌++◌}
use Rattle.proc_macro2.specs.Token.{Token, Punct}
use Rattle.rust_leaf.specs.declared.punct.Spacing.TheVariants.{Joint}
use Rattle.proc_macro2.specs.Spacing.{quote, begin_comment, IsWellSpaced}
use Rattle.syn_grammar.specs.Tree.{Tree, Pair, First, Second, Again, Final, More, Group, Called, Verbatim, Node, Whole}
use Rattle.syn_grammar.specs.Tree.{Alone, Front, Back, Infix, flat}
use Rattle.syn_grammar.specs.Gram.{Gram, mark, seq, alt, star, many, group, judged, dropped, called}

-- The last of the tokens is no joint mark.
abbrev pub ends_apart : List Token → Bool
ends_apart [] = true
ends_apart (Punct c Joint ∷ []) = false
ends_apart (t ∷ ts) = ends_apart ts

-- No raw form in a tree ends in a joint mark.
abbrev pub RawsEndApart : Tree → Type 0
RawsEndApart (Pair x y) = RawsEndApart x × RawsEndApart y
RawsEndApart (First x) = RawsEndApart x
RawsEndApart (Second x) = RawsEndApart x
RawsEndApart (Again x y) = RawsEndApart x × RawsEndApart y
RawsEndApart (Final x) = RawsEndApart x
RawsEndApart (More x c spacing y) = RawsEndApart x × RawsEndApart y
RawsEndApart (Group d x) = RawsEndApart x
RawsEndApart (Called n x) = RawsEndApart x
RawsEndApart (Verbatim x) = ends_apart (flat x) ≡ true
RawsEndApart (Node k x) = RawsEndApart x
RawsEndApart (Whole x) = RawsEndApart x
RawsEndApart (Alone k y) = RawsEndApart y
RawsEndApart (Front k y x) = RawsEndApart y × RawsEndApart x
RawsEndApart (Back l k y) = RawsEndApart l × RawsEndApart y
RawsEndApart (Infix l k y r) = RawsEndApart l × RawsEndApart y × RawsEndApart r
RawsEndApart _ = Unit {0}

-- marks of which none is a quote, and no two begin a comment
abbrev pub calm_marks : ℕ → List ℕ → Bool
calm_marks c [] = not (c == quote)
calm_marks c (d ∷ ds) = not (c == quote) && (not (begin_comment c d) && calm_marks d ds)

-- all marks of an entry
abbrev pub calm_entry : Gram → Bool
calm_entry (mark c cs) = calm_marks c cs
calm_entry (seq a b) = calm_entry a && calm_entry b
calm_entry (alt t a b) = calm_entry a && calm_entry b
calm_entry (star t g) = calm_entry g
calm_entry (many e c g) = not (c == quote) && calm_entry g
calm_entry (group d g) = calm_entry g
calm_entry (judged v g) = calm_entry g
calm_entry (dropped g) = calm_entry g
calm_entry (called n g) = calm_entry g
calm_entry _ = true

-- well spaced before all that is
abbrev pub MayPrecede : List Token → Type 0
MayPrecede ts = (s : List Token) → IsWellSpaced s → IsWellSpaced (ts ++ s)
