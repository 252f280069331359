-- Tokens. A group is its opening token, its tokens and its closing token, all in one list.
use Rattle.std.specs.Prelude.{ℕ, List, map}
use Rattle.rust_map.specs.declared.span.Span.{Span}
pub use Rattle.proc_macro2.specs.declared.delimiter.Delimiter.{Delimiter}
pub use Rattle.proc_macro2.specs.declared.delimiter.Delimiter.TheVariants.{Parenthesis, Brace, Bracket}
pub use Rattle.rust_leaf.specs.declared.punct.Spacing.{Spacing}
pub use Rattle.rust_leaf.specs.declared.punct.Spacing.TheVariants.{Alone, Joint}

-- an identifier or a keyword is known by its printed text, a literal by its text, and a punctuation mark by its
-- character and its spacing
pub data Token : Type 0 where
  Opens : (delimiter : Delimiter) → Token
  Closes : (delimiter : Delimiter) → Token
  Ident : (chars : List ℕ) → Token
  Literal : (chars : List ℕ) → Token
  Punct : (char : ℕ) (spacing : Spacing) → Token

-- a token, and where it stands
pub record Spanned : Type 0 where
  pub token : Token
  pub span : Span

-- the tokens alone
abbrev pub plain : List Spanned → List Token
plain ts = map (λ s. s.token) ts
