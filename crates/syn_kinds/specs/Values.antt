-- The tokens of kinds.
use Rattle.std.specs.Prelude.{ℕ, zero, suc, List, [], ◌∷◌, ◌++◌, codes}
use Rattle.rust_map.specs.declared.span.Span.{Span}
use Rattle.rust_leaf.specs.declared.punct.Spacing.{Spacing}
use Rattle.rust_leaf.specs.declared.punct.Spacing.TheVariants.{Alone, Joint}
use Rattle.proc_macro2.specs.Token.{Spanned}
use Rattle.proc_macro2.specs.declared.delimiter.Delimiter.{Delimiter}
use Rattle.proc_macro2.specs.Token as token
use Rattle.proc_macro2.specs.declared.delimiter.Delimiter.TheVariants as delimiter
use Rattle.proc_macro2.specs.Flat.{spanned}

-- an identifier of that text
abbrev pub word_tokens : List ℕ → Span → List Spanned
word_tokens text span = spanned (token.Ident text) span ∷ []

-- a mark is joint where another one follows
abbrev pub spacing_before : List ℕ → Spacing
spacing_before [] = Alone
spacing_before (c ∷ cs) = Joint

-- marks, each with its span: all but the last are joint
abbrev pub marks_tokens : List ℕ → List Span → List Spanned
marks_tokens [] spans = []
marks_tokens (c ∷ cs) [] = []
marks_tokens (c ∷ cs) (span ∷ spans) = spanned (token.Punct c (spacing_before cs)) span ∷ marks_tokens cs spans

-- the delimiters of each kind: parentheses, braces, brackets
abbrev pub delimiter_of : ℕ → Delimiter
delimiter_of zero = delimiter.Parenthesis
delimiter_of (suc zero) = delimiter.Brace
delimiter_of (suc (suc n)) = delimiter.Bracket

-- how a message shows them
abbrev pub shown_delimiters : ℕ → List ℕ
shown_delimiters zero = codes "parentheses"
shown_delimiters (suc zero) = codes "curly braces"
shown_delimiters (suc (suc n)) = codes "square brackets"

-- a group: both of its delimiters carry the span of all of it
abbrev pub enclosed : Delimiter → Span → List Spanned → List Spanned
enclosed d span inside = spanned (token.Opens d) span ∷ inside ++ spanned (token.Closes d) span ∷ []
