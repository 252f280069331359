-- How a tree stands in a stream that it is put into: a literal that begins with a minus as an
-- Alone - and the rest, both with its span, anything else as it is.
use Rattle.std.specs.Prelude.{ℕ, if◌then◌else◌, List, [], ◌∷◌, drop}
use Rattle.rust_map.specs.declared.span.Span.{Span}
use Rattle.rust_leaf.specs.Leaf.{literal_span, literal_text}
use Rattle.rust_leaf.specs.Minus.{minus, starts_with_minus}
use Rattle.proc_macro2.specs.Token.{Literal, Punct, Alone, Spanned}
use Rattle.proc_macro2.specs.Flat.{spanned, tree_tokens}
use Rattle.proc_macro2.specs.declared.tree.TokenTree.{TokenTree}
use Rattle.proc_macro2.specs.declared.tree.TokenTree.TheVariants as tree

-- a literal, by its text
abbrev pub literal_entered : List ℕ → Span → List Spanned
literal_entered cs span = if starts_with_minus cs
    then spanned (Punct minus Alone) span ∷ spanned (Literal (drop 1 cs)) span ∷ []
    else spanned (Literal cs) span ∷ []

-- a tree
abbrev pub entered : TokenTree → List Spanned
entered (tree.Literal l) = literal_entered (literal_text l) (literal_span l)
entered (tree.Group g) = tree_tokens (tree.Group g)
entered (tree.Ident i) = tree_tokens (tree.Ident i)
entered (tree.Punct p) = tree_tokens (tree.Punct p)
