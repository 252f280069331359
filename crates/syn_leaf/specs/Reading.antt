-- What literals and members are read from.
use Rattle.std.specs.Prelude.{◌≡◌, ◌<◌, ◌↔◌, ◌^◌, ◌||◌, ℕ, Bool, false, List, [], ◌∷◌, Some, codes}
use Rattle.rust_map.specs.declared.span.Span.{Span}
use Rattle.rust_lex.specs.declared.piece.LiteralKind.{LiteralKind}
use Rattle.rust_lex.specs.declared.piece.LiteralKind.TheVariants.{Int}
use Rattle.rust_leaf.specs.Leaf.{ident_span, ident_text}
use Rattle.proc_macro2.specs.Flat.{spanned}
use Rattle.proc_macro2.specs.Token.{Token, Spanned, Ident, Literal}
use Rattle.rust_leaf.specs.Keywords.{is_reserved}
use Rattle.syn_kinds.specs.Stands.{word_stands}
use Rattle.syn_leaf.specs.Integers.{int_suffix, int_value}
use Rattle.syn_leaf.specs.Kinds.{IsKind}
use Rattle.syn_leaf.specs.Lits.{lit_kind, lit_text, lit_token}
use Rattle.syn_leaf.specs.declared.lit.Lit.{Lit}
use Rattle.syn_leaf.specs.declared.lit.Lit.TheVariants as lit
use Rattle.syn_leaf.specs.declared.member.Index.{Index}
use Rattle.syn_leaf.specs.declared.member.Member.{Member}
use Rattle.syn_leaf.specs.declared.member.Member.TheVariants.{Named, Unnamed}

-- true or false stands there
abbrev pub bool_stands : List Token → Bool
bool_stands ts = word_stands (codes "true") ts || word_stands (codes "false") ts

-- no literal of the class stands first
abbrev pub LacksClass : LiteralKind → List Spanned → Type 0
LacksClass kind ts = (text : List ℕ) (span : Span) (us : List Spanned) → ts ≡ spanned (Literal text) span ∷ us
    → IsKind kind text → ⊥

-- the literal has the class that its text has, if it is no word
abbrev pub IsOwnKind : Lit → Type 0
IsOwnKind (lit.Bool l) = Unit {0}
IsOwnKind x = (kind : LiteralKind) → (lit_kind x ≡ Some kind) ↔ IsKind kind (lit_text x)

-- a literal is read from one token: true and false are identifiers
abbrev pub ReadsLit : List Spanned → Lit → List Spanned → Type 0
ReadsLit ts x us = (ts ≡ lit_token x ∷ us) × IsOwnKind x

-- the digits of an integer, without a suffix, write the number, which is below 2 ^ 32
abbrev pub IsPlain : List ℕ → ℕ → Type 0
IsPlain text number = (int_suffix text ≡ []) × (int_value text ≡ number) × (number < 2 ^ 32)

-- an index is read from such an integer
abbrev pub IsIndexText : List ℕ → ℕ → Type 0
IsIndexText text number = IsKind Int text × IsPlain text number

abbrev pub ReadsIndex : List Spanned → Index → List Spanned → Type 0
ReadsIndex ts x us = (text : List ℕ) × (ts ≡ spanned (Literal text) x.span ∷ us) × IsIndexText text x.index

abbrev pub LacksIndex : List Spanned → Type 0
LacksIndex ts = (text : List ℕ) (span : Span) (us : List Spanned) → ts ≡ spanned (Literal text) span ∷ us
    → (number : ℕ) → IsIndexText text number → ⊥

-- a member is read from a name, or from an index
abbrev pub ReadsMember : List Spanned → Member → List Spanned → Type 0
ReadsMember ts (Named i) us =
    (ts ≡ spanned (Ident (ident_text i)) (ident_span i) ∷ us) × (is_reserved (ident_text i) ≡ false)
ReadsMember ts (Unnamed i) us = ReadsIndex ts i us
