-- The tokens of members, and what they show.
use Rattle.std.specs.Prelude.{ℕ, List, [], ◌∷◌, ◌⊎◌}
use Rattle.std.proofs.Common.{inl, inr}
use Rattle.std.specs.Fmt.{decimal}
use Rattle.rust_leaf.specs.Leaf.{ident_span, ident_text}
use Rattle.rust_map.specs.declared.span.Span.{Span}
use Rattle.proc_macro2.specs.Flat.{spanned}
use Rattle.proc_macro2.specs.Token.{Ident, Literal, Spanned}
use Rattle.syn_leaf.specs.declared.member.Index.{Index}
use Rattle.syn_leaf.specs.declared.member.Member.{Member}
use Rattle.syn_leaf.specs.declared.member.Member.TheVariants.{Named, Unnamed}

-- a number in plain decimal, without a suffix
abbrev pub number_tokens : Index → List Spanned
number_tokens i = spanned (Literal (decimal i.index)) i.span ∷ []

-- a name, or a number
abbrev pub member_tokens : Member → List Spanned
member_tokens (Named i) = spanned (Ident (ident_text i)) (ident_span i) ∷ []
member_tokens (Unnamed i) = number_tokens i

-- what tells two members apart: a name's text and place, or a number and its place
abbrev pub Shown : Type 0
Shown = (List ℕ × Span) ⊎ Index

abbrev pub shown : Member → Shown
shown (Named i) = inl (ident_text i, ident_span i)
shown (Unnamed i) = inr i
