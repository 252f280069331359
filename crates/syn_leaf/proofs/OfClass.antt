-- A literal of a class stays one where its text does, and begins with no minus.
use Rattle.std.proofs.Common.{◌≡◌, ℕ, zero, suc, List, [], ◌∷◌, ◌++◌, refl, sym, ap, subst, ◌∙◌}
use Rattle.std.specs.Prelude.{Bool, true, false, ◌==◌, ◌↔◌, IsTrue, if◌then◌else◌, drop}
use Rattle.std.proofs.lemmas.Bool.{eqb-true, eq-eqb, false≢true}
use Rattle.rust_map.specs.declared.span.Span.{Span}
use Rattle.syn_kinds.specs.Stands.{literal_stands}
use Rattle.syn_leaf.specs.Kinds.{IsKind, is_found, is_kind, kind_number, kind_stands}
use Rattle.syn_leaf.specs.Reading.{LacksClass}
use Rattle.syn_leaf.proofs.Texts.{both_ways}
use Rattle.rust_lex.specs.declared.piece.LiteralKind.{LiteralKind}
use Rattle.rust_leaf.specs.Minus.{minus, starts_with_minus}
use Rattle.proc_macro2.specs.Entered.{literal_entered}
use Rattle.proc_macro2.specs.Flat.{spanned}
use Rattle.proc_macro2.specs.Token.{Token, Spanned, Opens, Closes, Ident, Literal, Punct, Alone, plain}
use Rattle.rust_lex.specs.Chars as lex
use Rattle.rust_lex.specs.Piece.{begins_mark}
use Rattle.rust_lex.specs.declared.piece.PieceKind.TheVariants as piece
use Rattle.rust_lex.specs.Scan.{Scanned, Nowhere, Ends, scan}
use Rattle.rust_lex.specs.Piece.{IsLiteral}
use Rattle.rust_lex.specs.declared.piece.LiteralKind.TheVariants as kinds
use Rattle.rust_lex.proofs.Sound.{sound}
use Rattle.std.proofs.lemmas.List.{append-nil}
use Rattle.rust_lex.proofs.Complete.{complete, mark_scanned}
use Rattle.std.proofs.lemmas.Grind.{not_there}

-- a minus is a mark, and no literal begins with one
minus_begins : (cs : List ℕ) → begins_mark (minus ∷ cs) ≡ true
unfolding lex.is_mark_but_tick
minus_begins cs = refl

unsigned : (k : LiteralKind) (cs : List ℕ) → IsKind k (minus ∷ cs) → ⊥
unfolding IsKind
unsigned k cs l =
    let found = complete (piece.Literal k) (minus ∷ cs) [] l in
    let same : Ends piece.Mark (cs ++ [])
    ≡ Ends (piece.Literal k) [] = sym (mark_scanned minus (cs ++ []) (minus_begins (cs ++ []))) ∙ found in
    cc

pub class_stays : (k : LiteralKind) (old new : List ℕ) → new ≡ old → ∥ IsKind k old ∥₁ → ∥ IsKind k new ∥₁
class_stays k old new e t = subst (λ (cs : List ℕ). ∥ IsKind k cs ∥₁) (sym e) t

no_minus : (k : LiteralKind) (cs : List ℕ) → ∥ IsKind k cs ∥₁ → starts_with_minus cs ≡ false
no_minus k [] t = refl
no_minus k (c ∷ cs) t = by_first (c == minus) refl
  where
    by_first : (b : Bool) → (c == minus) ≡ b → (c == minus) ≡ false
    by_first false e = e
    by_first true e = absurd (not_there t (λ l. unsigned k cs (subst
        (λ (d : ℕ). IsKind k (d ∷ cs)) (eqb-true c minus e) l)))

-- it is put into a stream as it stands
pub entered_class : (k : LiteralKind) (cs : List ℕ) (s : Span) → ∥ IsKind k cs ∥₁
    → literal_entered cs s ≡ spanned (Literal cs) s ∷ []
entered_class k cs s t =
    ap (λ v. if v then spanned (Punct minus Alone) s ∷ spanned (Literal (drop 1 cs)) s ∷ [] else spanned
    (Literal cs) s ∷ []) (no_minus k cs t)

-- the test of a kind says what the definition says
numbered : ℕ → LiteralKind
numbered zero = kinds.Str
numbered (suc zero) = kinds.ByteStr
numbered (suc (suc zero)) = kinds.CStr
numbered (suc (suc (suc zero))) = kinds.Byte
numbered (suc (suc (suc (suc zero)))) = kinds.Char
numbered (suc (suc (suc (suc (suc zero))))) = kinds.Int
numbered (suc (suc (suc (suc (suc (suc n)))))) = kinds.Float

back : (k : LiteralKind) → numbered (kind_number k) ≡ k
unfolding numbered
back kinds.Str = refl
back kinds.ByteStr = refl
back kinds.CStr = refl
back kinds.Byte = refl
back kinds.Char = refl
back kinds.Int = refl
back kinds.Float = refl

scanned : (k : LiteralKind) (cs : List ℕ) → IsKind k cs → scan cs ≡ Ends (piece.Literal k) []
unfolding IsKind
scanned k cs l = ap scan (sym (append-nil cs)) ∙ complete (piece.Literal k) cs [] l

found : (k : LiteralKind) (cs : List ℕ) → scan cs ≡ Ends (piece.Literal k) [] → IsKind k cs
unfolding IsKind
found k cs e =
    let f = sound cs [] (piece.Literal k) e in
    subst (λ ds. IsLiteral k ds []) (sym (f.joined ∙ append-nil f.chars)) f.fits

by_scan : (k : LiteralKind) (cs : List ℕ) (s : Scanned) → scan cs ≡ s → is_found k s ≡ true → IsKind k cs
by_scan k cs (Ends (piece.Literal j) []) e h =
    let same : j ≡ k = sym (back j) ∙ ap numbered (eqb-true (kind_number j) (kind_number k) h) ∙ back k in
    subst (λ x. IsKind x cs) same (found j cs e)
by_scan k cs (Ends (piece.Literal j) (c ∷ rest)) e h = cc
by_scan k cs Nowhere e h = cc
by_scan k cs (Ends piece.FrontMark rest) e h = cc
by_scan k cs (Ends piece.White rest) e h = cc
by_scan k cs (Ends piece.Comment rest) e h = cc
by_scan k cs (Ends (piece.Doc d) rest) e h = cc
by_scan k cs (Ends (piece.Open d) rest) e h = cc
by_scan k cs (Ends (piece.Close d) rest) e h = cc
by_scan k cs (Ends piece.Mark rest) e h = cc
by_scan k cs (Ends piece.Ident rest) e h = cc

pub tested : (k : LiteralKind) (cs : List ℕ) → (is_kind k cs ≡ true) ↔ IsKind k cs
unfolding is_kind
tested k cs = (
  λ h. by_scan k cs (scan cs) refl h,
  λ l. ap (is_found k) (scanned k cs l) ∙ eq-eqb (kind_number k) (kind_number k) refl,
)

pub same_test : (k : LiteralKind) (cs : List ℕ) (r : Bool) → IsTrue r ↔ IsKind k cs → r ≡ is_kind k cs
same_test k cs r f = both_ways r (is_kind k cs) (λ h. (tested k cs).1 (f.0 h)) (λ h. f.1 ((tested k cs).0 h))

-- a text of which it is known that it is a literal of a kind is one
pub kind_had : (k : LiteralKind) (cs : List ℕ) → ∥ IsKind k cs ∥₁ → IsKind k cs
kind_had k cs t = by (is_kind k cs) refl
  where
    by : (b : Bool) → is_kind k cs ≡ b → IsKind k cs
    by true e = (tested k cs).0 e
    by false e = absurd (not_there t (λ l. false≢true (sym e ∙ (tested k cs).1 l)))

-- a literal of a kind stands first exactly where one is read
pub first_is : (k : LiteralKind) (text : List ℕ) (span : Span) (ts us : List Spanned)
    → ts ≡ spanned (Literal text) span ∷ us → kind_stands k (plain ts) ≡ is_kind k text
first_is k text span ts us e = ap (λ v. kind_stands k (plain v)) e

pub none_first : (k : LiteralKind) (ts : List Token) → literal_stands ts ≡ false → kind_stands k ts ≡ false
none_first k [] e = refl
none_first k (Literal cs ∷ ts) e = cc
none_first k (Opens d ∷ ts) e = refl
none_first k (Closes d ∷ ts) e = refl
none_first k (Ident cs ∷ ts) e = refl
none_first k (Punct c spacing ∷ ts) e = refl

lacked : (k : LiteralKind) (ts : List Spanned) → kind_stands k (plain ts) ≡ false → LacksClass k ts
lacked k ts h text span us e l = false≢true (sym h ∙ first_is k text span ts us e ∙ (tested k text).1 l)

literal_first : (k : LiteralKind) (cs : List ℕ) (s : Span) (ts us : List Spanned) → LacksClass k ts
    → ts ≡ spanned (Literal cs) s ∷ us → (b : Bool) → is_kind k cs ≡ b → kind_stands k (plain ts) ≡ false
literal_first k cs s ts us h e true i = absurd (h cs s us e ((tested k cs).0 i))
literal_first k cs s ts us h e false i = first_is k cs s ts us e ∙ i

by_token : (k : LiteralKind) (p : Token) (s : Span) (ts us : List Spanned) → LacksClass k ts → ts ≡ spanned p s ∷ us
    → kind_stands k (plain ts) ≡ false
by_token k (Literal cs) s ts us h e = literal_first k cs s ts us h e (is_kind k cs) refl
by_token k (Opens d) s ts us h e = ap (λ x. kind_stands k (plain x)) e
by_token k (Closes d) s ts us h e = ap (λ x. kind_stands k (plain x)) e
by_token k (Ident cs) s ts us h e = ap (λ x. kind_stands k (plain x)) e
by_token k (Punct c spacing) s ts us h e = ap (λ x. kind_stands k (plain x)) e

none_stands : (k : LiteralKind) (ts : List Spanned) → LacksClass k ts → kind_stands k (plain ts) ≡ false
none_stands k [] h = refl
none_stands k (t ∷ us) h = by_token k t.token t.span (t ∷ us) us h refl

pub peeked : (k : LiteralKind) (ts : List Spanned) → (kind_stands k (plain ts) ≡ false) ↔ LacksClass k ts
peeked k ts = (lacked k ts, none_stands k ts)
