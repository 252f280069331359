-- What is printed of well spaced tokens is read back.
use Rattle.std.proofs.Common.{◌≡◌, ℕ, List, [], ◌∷◌, ◌++◌, append_assoc, refl, sym, ap, ap₂, ◌∙◌, subst, ⊎_elim}
use Rattle.std.specs.Prelude.{Bool, true, false, not, ◌&&◌, ◌||◌, ◌==◌, is_some, IsTrue}
use Rattle.std.proofs.lemmas.Bool.{and_right, cases_Bool, eqb-true, or_parts, not-false, not-true}
use Rattle.std.proofs.lemmas.List.{append-nil}
use Rattle.rust_leaf.specs.declared.punct.Spacing.{Spacing}
use Rattle.rust_leaf.specs.declared.punct.Spacing.TheVariants.{Alone, Joint}
use Rattle.rust_leaf.specs.Mark.{is_mark as is_punctuation}
use Rattle.rust_lex.specs.Chars.{is_digit, begins, is_slash_or_star}
use Rattle.rust_lex.specs.declared.group_marks.GroupMarks.TheVariants as lex
use Rattle.rust_escape.specs.declared.mode.Mode.{Mode}
use Rattle.rust_escape.specs.declared.mode.Mode.TheVariants as modes
use Rattle.rust_lex.specs.declared.piece.PieceKind.{PieceKind}
use Rattle.rust_lex.specs.declared.piece.PieceKind.TheVariants.{White, Open, Close, Mark}
use Rattle.rust_lex.specs.declared.piece.PieceKind.TheVariants as kinds
use Rattle.rust_lex.specs.Quoted.{opening_of, IsTail}
use Rattle.rust_lex.specs.Word.{begins_lifetime}
use Rattle.rust_lex.specs.Piece.{Piece, Fits, begins_mark}
use Rattle.rust_lex.specs.Scan.{begins_char, is_joint}
use Rattle.rust_lex.specs.Cover.{onto, AreFit, AreFitFront, IsCover}
use Rattle.rust_lex.proofs.Sound.{front_fits}
use Rattle.rust_lex.proofs.Units.{single_whole}
use Rattle.rust_lex.specs.Chars.{is_white}
use Rattle.proc_macro2.specs.declared.delimiter.Delimiter.TheVariants as delimiter
use Rattle.proc_macro2.specs.Token.{Token, Opens, Closes, Ident, Literal, Punct}
use Rattle.proc_macro2.specs.Pieces.{spacing_of}
use Rattle.proc_macro2.proofs.Followed.{tokens_before}
use Rattle.proc_macro2.specs.Printed.{shown, hugs, is_hugged, opens_brace, closes_brace, is_apart, space, text}
use Rattle.proc_macro2.specs.Spacing.{is_character, follows_quote, follows_mark, may_stand, IsWellSpaced}
use Rattle.rust_lex.specs.Calm.{IsCalm}
use Rattle.proc_macro2.specs.Leaf.{IsLeaf, AreLeaves}
use Rattle.rust_leaf.specs.Parse.{IsLiteralLeaf}
use Rattle.laws_lexer.specs.Read.{IsReadAs}
use Rattle.rust_lex.proofs.Alone.{ident_calm, literal_calm}
use Rattle.laws_lexer.proofs.Marks.{mark_or_quote, mark_before, quote_before, mark_calm, alone_calm, joint_mark}
use Rattle.laws_lexer.proofs.Marks.{joint_char}
use Rattle.laws_lexer.proofs.Lifetimes.{lifetime_word, lifetime_string}
use Rattle.laws_lexer.proofs.Plain.{plain_of, cover_tokens}

-- whether a space stands behind a token, and what is printed there
abbrev apart : Token → List Token → Bool
apart t [] = false
apart t (u ∷ us) = is_apart t u

abbrev behind : Token → List Token → List ℕ
behind t ts = space (apart t ts) ++ text ts

text_behind : (t : Token) (ts : List Token) → text (t ∷ ts) ≡ shown t ++ behind t ts
text_behind t [] = sym (append-nil (shown t))
text_behind t (u ∷ us) = refl

-- a closing token that stands close begins a calm text
calm_closing : (u : Token) (us : List Token) → is_hugged u ≡ true → IsTrue (may_stand u us) → IsCalm (text (u ∷ us))
calm_closing (Opens d) us h m = cc
calm_closing (Closes delimiter.Parenthesis) us h m = subst IsCalm
    (sym (text_behind (Closes delimiter.Parenthesis) us)) refl
calm_closing (Closes delimiter.Brace) us h m = cc
calm_closing (Closes delimiter.Bracket) us h m = subst IsCalm (sym (text_behind (Closes delimiter.Bracket) us)) refl
calm_closing (Closes delimiter.None) us h m = cc
calm_closing (Ident cs) us h m = cc
calm_closing (Literal cs) us h m = cc
calm_closing (Punct c spacing) us h m = cc

calm_behind : (t : Token) (ts : List Token) → hugs t ≡ false → IsWellSpaced ts → IsCalm (behind t ts)
calm_behind t [] h w = tt
calm_behind t (u ∷ us) h w =
    ⊎_elim
    (λ y. subst (λ b. IsCalm (space b ++ text (u ∷ us))) (sym y) refl)
    (λ n.
    let (_, m) = or_parts (opens_brace t || closes_brace u) (not (hugs t) && not (is_hugged u)) n in
    let k : not (is_hugged u) ≡ false = rw h at m in
    subst (λ b. IsCalm (space b ++ text (u ∷ us))) (sym n) (calm_closing u us (not-false _ k) w.0))
    (cases_Bool (is_apart t u))

-- a character literal is found behind a mark
char_opener : (o : Mode) (tail rest : List ℕ) → IsTail o tail → is_character ((opening_of o ++ tail) ++ rest) ≡ true →
    begins_char ((opening_of o ++ tail) ++ rest) ≡ true
char_opener modes.Char tail rest i h = ap is_some (single_whole modes.Char tail rest i)
char_opener modes.Byte tail rest i h = cc
char_opener modes.Str tail rest i h = cc
char_opener modes.ByteStr tail rest i h = cc
char_opener modes.CStr tail rest i h = cc
char_opener modes.RawStr tail rest i h = cc
char_opener modes.RawByteStr tail rest i h = cc
char_opener modes.RawCStr tail rest i h = cc

no_number : (cs rest : List ℕ) → begins is_digit cs ≡ true → is_character (cs ++ rest) ≡ true → ⊥
unfolding is_digit
no_number [] rest d h = cc
no_number (c ∷ cs) rest d h =
    let e : is_digit 39 ≡ true = subst (λ x. is_digit x ≡ true) (eqb-true c 39 h) d in cc

character_more : (cs rest : List ℕ) → is_character cs ≡ true → is_character (cs ++ rest) ≡ true
character_more [] rest h = cc
character_more (c ∷ cs) rest h = h

char_begins : (cs rest : List ℕ) → IsLiteralLeaf cs → is_character cs ≡ true → begins_char (cs ++ rest) ≡ true
char_begins cs rest (kind, (body, suffix, e, b, s)) h =
    let more : is_character (body ++ (suffix ++ rest)) ≡ true = ap is_character (sym (append_assoc body suffix rest)
    ∙ ap (λ x. x ++ rest) (sym e)) ∙ character_more cs rest h in
    let same : cs ++ rest ≡ body ++ (suffix ++ rest) = ap (λ x. x ++ rest) e ∙ append_assoc body suffix rest in
    ap begins_char same ∙ ⊎_elim
    (λ (o, inside, _, f, i). rw f (char_opener o inside (suffix ++ rest) i (rw f at more)))
    (λ n. absurd (no_number body (suffix ++ rest) n.0 more))
    b

-- what is printed of a sign begins with a mark
quote_front : (ts : List Token) → follows_quote ts ≡ true → AreLeaves ts → IsWellSpaced ts →
    begins_lifetime (behind (Punct 39 Joint) ts) ≡ true
quote_front [] f a w = cc
quote_front (Ident cs ∷ ts) f a w =
    let calm = calm_behind (Ident cs) ts refl w.1 in
    ap begins_lifetime (text_behind (Ident cs) ts) ∙ lifetime_word cs (behind (Ident cs) ts)
    (ident_calm cs [] (behind (Ident cs) ts) a.0 calm) calm
quote_front (Literal cs ∷ ts) f a w = ap begins_lifetime (text_behind (Literal cs) ts)
    ∙ lifetime_string cs (behind (Literal cs) ts) f
quote_front (Opens d ∷ ts) f a w = cc
quote_front (Closes d ∷ ts) f a w = cc
quote_front (Punct c spacing ∷ ts) f a w = cc

character_front : (cs rest : List ℕ) → is_character cs ≡ true → begins is_slash_or_star (cs ++ rest) ≡ false
character_front [] rest h = cc
character_front (c ∷ cs) rest h = rw (eqb-true c 39 h) refl

no_comment : (c : ℕ) (ts : List Token) → follows_mark c ts ≡ true →
    (c == 47 && begins is_slash_or_star (behind (Punct c Joint) ts)) ≡ false
no_comment c [] f = cc
no_comment c (Punct d spacing ∷ ts) f = ap (λ r. c == 47 && begins is_slash_or_star r)
    (text_behind (Punct d spacing) ts) ∙ not-true _ f
no_comment c (Literal cs ∷ ts) f = and_right (c == 47) (begins is_slash_or_star (text (Literal cs ∷ ts)))
    (ap (begins is_slash_or_star) (text_behind (Literal cs) ts) ∙ character_front cs (behind (Literal cs) ts) f)
no_comment c (Opens d ∷ ts) f = cc
no_comment c (Closes d ∷ ts) f = cc
no_comment c (Ident cs ∷ ts) f = cc

not_quote : (c : ℕ) → not (c == 39) ≡ true → (c == 39) ≡ false
not_quote c h = not-true _ h

sign_front : (c : ℕ) (s : Spacing) (ts : List Token) → is_punctuation c ≡ true → IsTrue (may_stand (Punct c s) ts) →
    AreLeaves ts → IsWellSpaced ts → begins_mark (c ∷ behind (Punct c s) ts) ≡ true
sign_front c Alone ts h m a w = mark_calm c (behind (Punct c Alone) ts) (mark_or_quote c h (not_quote c m))
    (calm_behind (Punct c Alone) ts refl w)
sign_front c Joint ts h m a w =
    ⊎_elim
    (λ q.
    let f : follows_quote ts ≡ true = rw q at m in
    subst (λ d. begins_mark (d ∷ behind (Punct d Joint) ts) ≡ true) (sym (eqb-true c 39 q))
    (quote_before (behind (Punct 39 Joint) ts) (quote_front ts f a w)))
    (λ q. let f : follows_mark c ts ≡ true = rw q at m in mark_before c (behind (Punct c Joint) ts)
    (mark_or_quote c h q) (no_comment c ts f))
    (cases_Bool (c == 39))

sign_text : (c : ℕ) (s : Spacing) (ts : List Token) → is_punctuation c ≡ true → IsTrue (may_stand (Punct c s) ts) →
    AreLeaves ts → IsWellSpaced ts → begins_mark (text (Punct c s ∷ ts)) ≡ true
sign_text c s ts h m a w = ap begins_mark (text_behind (Punct c s) ts) ∙ sign_front c s ts h m a w

-- a sign stands as it is spaced
follows_joint : (c : ℕ) (ts : List Token) → follows_mark c ts ≡ true → AreLeaves ts → IsWellSpaced ts →
    is_joint (c ∷ behind (Punct c Joint) ts) ≡ true
follows_joint c [] f a w = cc
follows_joint c (Punct d s ∷ ts) f a w = joint_mark c (text (Punct d s ∷ ts)) (sign_text d s ts a.0 w.0 a.1 w.1)
follows_joint c (Literal cs ∷ ts) f a w = joint_char c (text (Literal cs ∷ ts))
    (ap begins_char (text_behind (Literal cs) ts) ∙ char_begins cs (behind (Literal cs) ts) a.0 f)
follows_joint c (Opens d ∷ ts) f a w = cc
follows_joint c (Closes d ∷ ts) f a w = cc
follows_joint c (Ident cs ∷ ts) f a w = cc

quote_joint : (rest : List ℕ) (c : ℕ) → (c == 39) ≡ true → is_joint (c ∷ rest) ≡ true
quote_joint rest c q = rw q refl

sign_spacing : (c : ℕ) (s : Spacing) (ts : List Token) → IsTrue (may_stand (Punct c s) ts) → AreLeaves ts →
    IsWellSpaced ts → spacing_of (is_joint (c ∷ behind (Punct c s) ts)) ≡ s
sign_spacing c Alone ts m a w = ap spacing_of (alone_calm c (behind (Punct c Alone) ts) (not_quote c m)
    (calm_behind (Punct c Alone) ts refl w))
sign_spacing c Joint ts m a w =
    ⊎_elim
    (λ q. ap spacing_of (quote_joint (behind (Punct c Joint) ts) c q))
    (λ q. let f : follows_mark c ts ≡ true = rw q at m in ap spacing_of (follows_joint c ts f a w))
    (cases_Bool (c == 39))

-- a token stands as a piece before what is printed behind it
record Stands (t : Token) (rest : List ℕ) : Type 0 where
  kind : PieceKind
  fits : Fits kind (shown t) rest
  tokens_are : tokens_before kind (shown t) rest ≡ t ∷ []

stands : (t : Token) (ts : List Token) → IsLeaf t → IsTrue (may_stand t ts) → AreLeaves ts → IsWellSpaced ts →
    Stands t (behind t ts)
stands (Opens delimiter.Parenthesis) ts h m a w = record { kind = Open lex.Parenthesis; fits = refl; tokens_are = refl }
stands (Opens delimiter.Brace) ts h m a w = record { kind = Open lex.Brace; fits = refl; tokens_are = refl }
stands (Opens delimiter.Bracket) ts h m a w = record { kind = Open lex.Bracket; fits = refl; tokens_are = refl }
stands (Opens delimiter.None) ts h m a w = cc
stands (Closes delimiter.Parenthesis) ts h m a w = record {
  kind = Close lex.Parenthesis;
  fits = refl;
  tokens_are = refl;
}
stands (Closes delimiter.Brace) ts h m a w = record { kind = Close lex.Brace; fits = refl; tokens_are = refl }
stands (Closes delimiter.Bracket) ts h m a w = record { kind = Close lex.Bracket; fits = refl; tokens_are = refl }
stands (Closes delimiter.None) ts h m a w = cc
stands (Ident cs) ts h m a w = record {
  kind = kinds.Ident;
  fits = ident_calm cs [] (behind (Ident cs) ts) h
      (calm_behind (Ident cs) ts refl w);
  tokens_are = refl;
}
stands (Literal cs) ts (kind, h) m a w = record {
  kind = kinds.Literal kind;
  fits = literal_calm kind cs [] (behind (Literal cs) ts) h (calm_behind (Literal cs) ts refl w);
  tokens_are = refl;
}
stands (Punct c s) ts h m a w = record {
  kind = Mark;
  fits = (c, refl, sign_front c s ts h m a w);
  tokens_are = ap (λ s. Punct c s ∷ []) (sign_spacing c s ts m a w);
}

-- the pieces of printed tokens
record Laid (ts : List Token) (printed : List ℕ) : Type 0 where
  pieces : List Piece
  joined : onto pieces [] ≡ printed
  fit : AreFit pieces []
  tokens_are : plain_of pieces [] ≡ ts

abbrev piece : PieceKind → List ℕ → Piece
piece k cs = record { kind = k; chars = cs }

laid_gap : (b : Bool) (ts : List Token) (printed : List ℕ) → Laid ts printed → Laid ts (space b ++ printed)
unfolding is_white
laid_gap false ts printed l = l
laid_gap true ts printed l = record {
  pieces = piece White (32 ∷ []) ∷ l.pieces;
  joined = ap (λ r. 32 ∷ r) l.joined;
  fit = (refl, l.fit);
  tokens_are = l.tokens_are;
}

laid_on : (t : Token) (ts : List Token) (rest : List ℕ) → Stands t rest → Laid ts rest → Laid (t ∷ ts) (shown t ++ rest)
laid_on t ts rest s l = record {
  pieces = piece s.kind (shown t) ∷ l.pieces;
  joined = ap (λ r. shown t ++ r) l.joined;
  fit = (subst (λ r. Fits s.kind (shown t) r) (sym l.joined) s.fits, l.fit);
  tokens_are = ap₂ (λ x y. x ++ y) (ap (tokens_before s.kind (shown t)) l.joined ∙ s.tokens_are) l.tokens_are;
}

laid : (ts : List Token) → AreLeaves ts → IsWellSpaced ts → Laid ts (text ts)
laid [] a w = record { pieces = []; joined = refl; fit = tt; tokens_are = refl }
laid (t ∷ ts) a w =
    subst (Laid (t ∷ ts)) (sym (text_behind t ts))
    (laid_on t ts (behind t ts) (stands t ts a.0 w.0 a.1 w.1) (laid_gap (apart t ts) ts (text ts) (laid ts a.1 w.1)))

at_front : (ps : List Piece) → AreFit ps [] → AreFitFront ps []
at_front [] f = tt
at_front (p ∷ ps) f = (front_fits p.kind p.chars (onto ps []) f.0, f.1)

-- the text of well spaced tokens has a cover, whose tokens they are
pub reads_back : (ts : List Token) → AreLeaves ts → IsWellSpaced ts → IsReadAs (text ts) ts
reads_back ts a w =
    let l = laid ts a w in
    let cover : IsCover (text ts) l.pieces = record { joined = sym l.joined; fit = at_front l.pieces l.fit } in
    record { pieces = l.pieces; cover = cover; tokens_are = cover_tokens 0 (text ts) l.pieces cover ∙ l.tokens_are }
