-- Tokens that are read as literals, and those that aren't.
use Rattle.std.proofs.Common.{◌≡◌, ℕ, List, [], ◌∷◌, length, sym, ap, subst, ◌∙◌, arith}
use Rattle.std.specs.Prelude.{Bool, true, false, ◌==◌}
use Rattle.rust_map.specs.declared.span.Span.{Span}
use Rattle.rust_lex.specs.declared.piece.LiteralKind.{LiteralKind}
use Rattle.proc_macro2.specs.Flat.{spanned}
use Rattle.proc_macro2.specs.Token.{Token, Spanned, Opens, Closes, Ident, Literal, Punct, plain}
use Rattle.syn_kinds.specs.Stands.{literal_stands}
use Rattle.syn_leaf.specs.Kinds.{IsKind}
use Rattle.std.specs.Prelude.{◌↔◌, Some}
use Rattle.std.proofs.lemmas.Bool.{eqb-true}
use Rattle.std.specs.Str.{chars, IsUtf8}
use lib.Utf8.{encodes}
use Rattle.std.proofs.lemmas.Str.{chars-nil, encodes-chars}
use Rattle.rust_lex.specs.declared.piece.LiteralKind.TheVariants.{Int}
use Rattle.syn_leaf.specs.Lits.{lit_kind, lit_text, lit_token}
use Rattle.syn_leaf.specs.declared.lit.Lit.{Lit}
use Rattle.syn_leaf.specs.declared.lit.Lit.TheVariants as lit
use Rattle.syn_leaf.specs.Reading.{IsOwnKind, IsPlain, LacksClass, LacksIndex, ReadsLit}

-- the text of the literal that stands first
text_of : Token → List ℕ
text_of (Literal cs) = cs
text_of (Opens d) = []
text_of (Closes d) = []
text_of (Ident cs) = []
text_of (Punct c spacing) = []

first_text : List Spanned → List ℕ
first_text [] = []
first_text (t ∷ ts) = text_of t.token

pub same_literal : (a b : List ℕ) (s t : Span) (ts us vs : List Spanned) → ts ≡ spanned (Literal a) s ∷ us
    → ts ≡ spanned (Literal b) t ∷ vs → a ≡ b
unfolding text_of first_text
same_literal a b s t ts us vs e f = ap first_text (sym e ∙ f)

pub no_literal : (k : LiteralKind) (ts : List Spanned) → literal_stands (plain ts) ≡ false → LacksClass k ts
no_literal k ts e text span us f h =
    let g : true ≡ false = sym (ap (λ vs. literal_stands (plain vs)) f) ∙ e in cc

pub other_class : (k : LiteralKind) (a : List ℕ) (s : Span) (ts us : List Spanned) → (IsKind k a → ⊥)
    → ts ≡ spanned (Literal a) s ∷ us → LacksClass k ts
other_class k a s ts us n e text span vs f h =
    n (subst (IsKind k) (sym (same_literal a text s span ts us vs e f)) h)

-- a literal token is read as its literal
own_kind : (x : Lit) (a : List ℕ) (s : Span) → lit_token x ≡ spanned (Literal a) s
    → ((kind : LiteralKind) → (lit_kind x ≡ Some kind) ↔ IsKind kind (lit_text x)) → IsOwnKind x
own_kind (lit.Bool l) a s e h = tt
own_kind (lit.Str l) a s e h = h
own_kind (lit.ByteStr l) a s e h = h
own_kind (lit.CStr l) a s e h = h
own_kind (lit.Byte l) a s e h = h
own_kind (lit.Char l) a s e h = h
own_kind (lit.Int l) a s e h = h
own_kind (lit.Float l) a s e h = h
own_kind (lit.Verbatim l) a s e h = h

pub lit_read : (x : Lit) (a : List ℕ) (s : Span) (ts us : List Spanned) → ts ≡ spanned (Literal a) s ∷ us
    → lit_token x ≡ spanned (Literal a) s → lit_text x ≡ a
    → ((kind : LiteralKind) → (lit_kind x ≡ Some kind) ↔ IsKind kind a) → ReadsLit ts x us
lit_read x a s ts us r e t h = (
  r ∙ ap (λ v. v ∷ us) (sym e),
  own_kind x a s e (λ kind. subst (λ cs. (lit_kind x ≡ Some kind) ↔ IsKind kind cs) (sym t) (h kind)),
)

-- no index is read from what is no integer, and from an integer that is none
pub no_index : (ts : List Spanned) → LacksClass Int ts → LacksIndex ts
no_index ts h text span us e number i = h text span us e i.0

pub other_index : (a : List ℕ) (s : Span) (ts us : List Spanned) → ((number : ℕ) → IsPlain a number → ⊥)
    → ts ≡ spanned (Literal a) s ∷ us → LacksIndex ts
other_index a s ts us n e text span vs f number i =
    n number (subst (λ cs. IsPlain cs number) (sym (same_literal a text s span ts us vs e f)) i.1)

-- a suffix is none exactly where its text is empty
pub no_suffix : (r : Bool) (bs suffix : List ℕ) → r ≡ (length bs == 0) → r ≡ true → chars bs ≡ suffix → suffix ≡ []
no_suffix r [] suffix l t e = sym e ∙ chars-nil
no_suffix r (b ∷ bs) suffix l t e =
    let h : length (b ∷ bs) ≡ 0 = eqb-true _ 0 (sym l ∙ t) in absurd (omega (arith, h))

pub some_suffix : (r : Bool) (bs suffix : List ℕ) → IsUtf8 bs → r ≡ (length bs == 0) → r ≡ false → chars bs ≡ suffix
    → suffix ≡ [] → ⊥
some_suffix r bs suffix u l n e z =
    let h : bs ≡ [] = sym (encodes-chars bs u) ∙ ap encodes (e ∙ z) in
    let g : true ≡ false = sym (ap (λ (v : List ℕ). length v == 0) h) ∙ sym l ∙ n in cc
