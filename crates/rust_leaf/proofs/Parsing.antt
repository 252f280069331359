-- The one literal that a text is.
use Rattle.std.proofs.Common.{◌≡◌, ℕ, arith, List, [], ◌∷◌, ◌++◌, refl, sym, ap, ◌∙◌, subst, inl, inr, ⊎_elim}
use Rattle.std.proofs.Common.{length, drop}
use Rattle.std.specs.Prelude.{Bool, true, false, ◌↔◌, IsTrue, Option, Some, None, is_some, encode_utf8_all}
use Rattle.std.specs.Str.{chars, IsUtf8}
use Rattle.std.proofs.lemmas.List.{append-nil, length-drop}
use Rattle.std.proofs.lemmas.Str.{encodes-chars}
use Rattle.rust_lex.specs.Cover.{NoPieceAt}
use Rattle.rust_lex.specs.Piece.{Piece, FitsAt, IsLiteral}
use Rattle.rust_lex.specs.Places.{rest_at, between_places, IsPlace, IsBehind}
use Rattle.rust_leaf.specs.Minus.{minus}
use Rattle.rust_leaf.specs.Parse.{IsNegative, IsLiteralText, is_number_kind, literal_of}
use Rattle.rust_lex.specs.declared.piece.LiteralKind.{LiteralKind}
use Rattle.rust_lex.specs.declared.piece.PieceKind.{PieceKind}
use Rattle.rust_lex.specs.declared.piece.PieceKind.TheVariants.{FrontMark, White, Comment, Doc, Open, Close, Mark}
use Rattle.rust_lex.specs.declared.piece.PieceKind.TheVariants.{Ident, Literal}
use Rattle.rust_lex.proofs.OneCover.{one_piece}
use Rattle.rust_lex.proofs.Pieces.{between_joined}
use Rattle.rust_lex.proofs.PlacesLemmas.{first_place, rest_end}

abbrev piece : PieceKind → List ℕ → Piece
piece kind cs = record { kind = kind; chars = cs }

-- a place before no rest is the text's end
at_end : (bytes : List ℕ) (end : ℕ) → IsPlace bytes end → rest_at bytes end ≡ [] → end ≡ length bytes
at_end bytes end p e =
    let none : drop end bytes ≡ [] = sym (encodes-chars (drop end bytes) p.cut) ∙ ap encode_utf8_all e in
    let l = ap length none in
    let w = p.within in
    omega (arith, length-drop end bytes)

-- the piece at a text's front and what follows it
joined : (bytes : List ℕ) (end : ℕ) → IsUtf8 bytes → IsBehind bytes 0 end
    → chars bytes ≡ between_places bytes 0 end ++ rest_at bytes end
joined bytes end u b = between_joined bytes 0 end (first_place bytes u) b

-- where the text is one literal, it is the piece that stands at the front
only : (bytes : List ℕ) (k : PieceKind) (end : ℕ) (kind : LiteralKind) → IsUtf8 bytes
    → FitsAt 0 k (between_places bytes 0 end) (rest_at bytes end) → IsBehind bytes 0 end
    → IsLiteral kind (chars bytes) []
    → (k ≡ Literal kind) × (end ≡ length bytes)
only bytes k end kind u f b l =
    let both = sym (joined bytes end u b) ∙ sym (append-nil (chars bytes)) in
    let (same, rests) = one_piece 0 (piece k (between_places bytes 0 end)) (piece (Literal kind) (chars bytes))
    (rest_at bytes end) [] f l both in
    (ap (λ p. p.kind) same, at_end bytes end b.place rests)

-- a literal that ends where the text does is the text
whole : (bytes : List ℕ) (kind : LiteralKind) (end : ℕ) → IsUtf8 bytes
    → FitsAt 0 (Literal kind) (between_places bytes 0 end) (rest_at bytes end) → IsBehind bytes 0 end
    → end ≡ length bytes
    → IsLiteral kind (chars bytes) []
whole bytes kind end u f b e =
    let rest : rest_at bytes end ≡ [] = rest_end bytes end (omega arith) in
    let all : between_places bytes 0 end ≡ chars bytes = sym (append-nil _)
    ∙ ap (λ r. between_places bytes 0 end ++ r) (sym rest)
    ∙ sym (joined bytes end u b) in
    subst (λ r. IsLiteral kind (chars bytes) r) rest (subst (λ cs. IsLiteral kind cs (rest_at bytes end)) all f)

-- which literal the text is, if any: by the piece at its front, where this ends with the text
abbrev IsKind : List ℕ → Option LiteralKind → Type 0
IsKind text result = (kind : LiteralKind) → (result ≡ Some kind) ↔ IsLiteral kind text []

found : (bytes : List ℕ) (k : PieceKind) (end : ℕ) → IsUtf8 bytes
    → FitsAt 0 k (between_places bytes 0 end) (rest_at bytes end)
    → IsBehind bytes 0 end → end ≡ length bytes → (kind : LiteralKind) → literal_of k ≡ Some kind
    → IsLiteral kind (chars bytes) []
found bytes (Literal l) end u f b e kind s = let same : l ≡ kind =
    cc in subst (λ x. IsLiteral x (chars bytes) []) same (whole bytes l end u f b e)
found bytes FrontMark end u f b e kind s = cc
found bytes White end u f b e kind s = cc
found bytes Comment end u f b e kind s = cc
found bytes (Doc d) end u f b e kind s = cc
found bytes (Open d) end u f b e kind s = cc
found bytes (Close d) end u f b e kind s = cc
found bytes Mark end u f b e kind s = cc
found bytes Ident end u f b e kind s = cc

pub kind_is : (bytes : List ℕ) (k : PieceKind) (end : ℕ) (result : Option LiteralKind) → IsUtf8 bytes
    → FitsAt 0 k (between_places bytes 0 end) (rest_at bytes end) → IsBehind bytes 0 end → end ≡ length bytes
    → result ≡ literal_of k → IsKind (chars bytes) result
kind_is bytes k end result u f b e r kind = (
  λ s. found bytes k end u f b e kind (sym r ∙ s),
  λ l. r ∙ ap literal_of (only bytes k end kind u f b l).0,
)

pub no_kind : (bytes : List ℕ) (k : PieceKind) (end : ℕ) → IsUtf8 bytes
    → FitsAt 0 k (between_places bytes 0 end) (rest_at bytes end) → IsBehind bytes 0 end → (end ≡ length bytes → ⊥)
    → IsKind (chars bytes) None
no_kind bytes k end u f b other kind = (
  λ s. cc,
  λ l. absurd (other (only bytes k end kind u f b l).1),
)

pub no_piece : (bytes : List ℕ) (result : Option LiteralKind) → NoPieceAt 0 (chars bytes) → result ≡ None
    → IsKind (chars bytes) result
no_piece bytes result none r kind = (
  λ s. cc,
  λ l. absurd (none (Literal kind) (chars bytes) [] (sym (append-nil (chars bytes))) l),
)

-- a minus, and behind it a number
pub negative_is : (text number : List ℕ) (result : Option LiteralKind) (kind : LiteralKind) (negative : Bool)
    → text ≡ minus ∷ number → IsKind number result → result ≡ Some kind → negative ≡ is_number_kind kind
    → IsTrue negative ↔ IsNegative text
negative_is text number result kind negative e h r n = (
  λ t. (kind, number, e, (h kind).0 r, sym n ∙ t),
  λ (k, other, f, l, t). (
      let same : other ≡ number = cc in
      let found : result ≡ Some k = (h k).1 (subst (λ x. IsLiteral k x []) same l) in
      let kinds : k ≡ kind = cc in
      n ∙ ap is_number_kind (sym kinds) ∙ t
      ),
)

pub no_literal : (text number : List ℕ) (result : Option LiteralKind) → text ≡ minus ∷ number → IsKind number result
    → result ≡ None → IsTrue false ↔ IsNegative text
no_literal text number result e h r = (
  λ t. cc,
  λ (k, other, f, l, t). (
      let same : other ≡ number = cc in
      let found : result ≡ Some k = (h k).1 (subst (λ x. IsLiteral k x []) same l) in
      cc
      ),
)

-- one of the two, or none
pub unsigned_is : (text : List ℕ) (result : Option LiteralKind) (answer : Bool) → IsKind text result
    → answer ≡ is_some result → answer ≡ true → IsTrue answer ↔ IsLiteralText text
unsigned_is text (Some k) answer h e t = (λ _. inl (k, (h k).0 refl), λ _. t)
unsigned_is text None answer h e t = cc

pub signed_is : (text : List ℕ) (result : Option LiteralKind) (answer negative : Bool) → IsKind text result
    → answer ≡ is_some result → answer ≡ false → IsTrue negative ↔ IsNegative text
    → IsTrue negative ↔ IsLiteralText text
signed_is text None answer negative h e t n = (
  λ t. inr (n.0 t),
  λ l. ⊎_elim (λ (k, u). (let some = (h k).1 u in cc)) (λ m. n.1 m) l,
)
signed_is text (Some k) answer negative h e t n = cc
