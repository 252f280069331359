-- Where a tree stands, and the spans of a group's delimiters.
use Rattle.std.specs.Prelude.{List, [], ◌∷◌}
use Rattle.rust_map.specs.Spans.{first_of, last_of}
use Rattle.rust_map.specs.declared.span.Span.{Span}
use Rattle.rust_leaf.specs.Leaf.{ident_span, ident_text, literal_span, literal_text, punct_char, punct_spacing}
use Rattle.rust_leaf.specs.Leaf.{punct_span}
use Rattle.proc_macro2.specs.Token.{Ident, Literal, Punct, Spanned}
use Rattle.proc_macro2.specs.Flat.{group_tokens, spanned}
use Rattle.proc_macro2.specs.declared.group.DelimSpan.{DelimSpan}
use Rattle.proc_macro2.specs.declared.tree.TokenTree.{TokenTree}
use Rattle.proc_macro2.specs.declared.tree.TokenTree.TheVariants as tree

-- where a tree stands
abbrev pub tree_span : TokenTree → Span
tree_span (tree.Group g) = g.span
tree_span (tree.Ident i) = ident_span i
tree_span (tree.Punct p) = punct_span p
tree_span (tree.Literal l) = literal_span l

-- the tokens of a tree that is placed elsewhere, the trees inside a group staying where they are
abbrev pub tokens_at : TokenTree → Span → List Spanned
tokens_at (tree.Group g) span = group_tokens (record g { span = span })
tokens_at (tree.Ident i) span = spanned (Ident (ident_text i)) span ∷ []
tokens_at (tree.Punct p) span = spanned (Punct (punct_char p) (punct_spacing p)) span ∷ []
tokens_at (tree.Literal l) span = spanned (Literal (literal_text l)) span ∷ []

-- the spans of a group that stands there, and of its delimiters
abbrev pub delim_span_of : Span → DelimSpan
delim_span_of span = record { join = span; opening = first_of span; closing = last_of span }
