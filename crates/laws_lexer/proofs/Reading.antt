-- What is read of a text is well spaced.
use Rattle.std.proofs.Common.{◌≡◌, ℕ, List, [], ◌∷◌, ◌++◌, append_assoc, refl, sym, ap, ◌∙◌, subst, ⊎_elim}
use Rattle.std.specs.Prelude.{Bool, true, false, not, ◌⊎◌, ◌&&◌, ◌==◌, is_some, IsTrue}
use Rattle.std.proofs.lemmas.Bool.{and_parts, cases_Bool, eqb-true, or_cases, not-true}
use Rattle.rust_lex.specs.Chars.{is_mark_but_tick, is_digit, begins, is_slash_or_star}
use Rattle.rust_lex.specs.declared.group_marks.GroupMarks.{GroupMarks}
use Rattle.rust_lex.specs.declared.group_marks.GroupMarks.TheVariants as lex
use Rattle.rust_escape.specs.declared.mode.Mode.{Mode}
use Rattle.rust_escape.specs.declared.mode.Mode.TheVariants as modes
use Rattle.rust_lex.specs.declared.piece.DocKind.{DocKind}
use Rattle.rust_lex.specs.declared.piece.DocKind.TheVariants as doc
use Rattle.rust_lex.specs.declared.piece.LiteralKind.{LiteralKind}
use Rattle.rust_lex.specs.declared.piece.LiteralKind.TheVariants.{Char}
use Rattle.rust_lex.specs.declared.piece.PieceKind.{PieceKind}
use Rattle.rust_lex.specs.declared.piece.PieceKind.TheVariants.{FrontMark, White, Comment, Doc, Open, Close, Mark}
use Rattle.rust_lex.specs.declared.piece.PieceKind.TheVariants as kinds
use Rattle.rust_lex.specs.Quoted.{opening_of}
use Rattle.rust_lex.specs.QuotedScan.{past_char}
use Rattle.rust_lex.specs.Word.{begins_lifetime}
use Rattle.rust_lex.specs.Piece.{Piece, Fits, FitsFront, IsLiteral, begins_mark}
use Rattle.rust_lex.specs.Cover.{onto, AreFit, AreFitFront}
use Rattle.rust_lex.specs.Scan.{begins_char, is_joint}
use Rattle.rust_lex.proofs.Joints.{mark_kind, char_kind}
use Rattle.rust_lex.proofs.Scans.{tick_no_mark}
use Rattle.proc_macro2.specs.Token.{Token, Punct, Alone, Joint}
use Rattle.proc_macro2.specs.Pieces.{doc_text, doc_marks, doc_group, delimiter_of, spacing_of, head}
use Rattle.proc_macro2.proofs.Followed.{tokens_before}
use Rattle.proc_macro2.specs.Spacing.{is_character, is_visible, begin_comment, follows_quote, follows_mark, may_stand}
use Rattle.proc_macro2.specs.Spacing.{IsWellSpaced}
use Rattle.laws_lexer.specs.Read.{IsReadAs}
use Rattle.laws_lexer.proofs.Lifetimes.{lifetime_kind, lifetime_literal}
use Rattle.laws_lexer.proofs.Marks.{joint_mark, joint_char, alone_before}
use Rattle.laws_lexer.proofs.Plain.{plain_of, cover_tokens}

opening_more : (o : Mode) (inside rest : List ℕ) → is_character ((opening_of o ++ inside) ++ rest) ≡
    is_character (opening_of o ++ inside)
opening_more modes.Char inside rest = refl
opening_more modes.Byte inside rest = refl
opening_more modes.Str inside rest = refl
opening_more modes.ByteStr inside rest = refl
opening_more modes.CStr inside rest = refl
opening_more modes.RawStr inside rest = refl
opening_more modes.RawByteStr inside rest = refl
opening_more modes.RawCStr inside rest = refl

digit_more : (cs rest : List ℕ) → begins is_digit cs ≡ true → is_character (cs ++ rest) ≡ is_character cs
digit_more [] rest h = cc
digit_more (c ∷ cs) rest h = refl

literal_more : (kind : LiteralKind) (cs rest : List ℕ) → IsLiteral kind cs rest →
    is_character (cs ++ rest) ≡ is_character cs
literal_more kind cs rest (body, suffix, e, b, s) =
    let more : (t : List ℕ) → is_character (body ++ t) ≡ is_character body = λ t. ⊎_elim
    (λ (o, inside, _, f, i). rw f (opening_more o inside t))
    (λ n. digit_more body t n.0)
    b in
    ap is_character (ap (λ x. x ++ rest) e ∙ append_assoc body suffix rest) ∙ more (suffix ++ rest) ∙ sym (more suffix)
    ∙ ap is_character (sym e)

char_begins : (text : List ℕ) → begins_char text ≡ true → is_character text ≡ true
char_begins [] h = cc
char_begins (c ∷ cs) h = let (q, _) = and_parts (c == 39) (is_some (past_char modes.Char cs)) h in q

nothing_lives : begins_lifetime [] ≡ false
unfolding begins_lifetime
nothing_lives = refl

-- what stands first among the tokens behind '
quote_tokens : (ps : List Piece) → AreFit ps [] → begins_lifetime (onto ps []) ≡ true →
    follows_quote (plain_of ps []) ≡ true
quote_tokens [] f h = let n = nothing_lives in cc
quote_tokens (p ∷ ps) f h =
    at_front p.kind p.chars f.0 h (lifetime_kind p.kind p.chars (onto ps []) f.0 h)
  where
    at_front : (k : PieceKind) (cs : List ℕ) → Fits k cs (onto ps []) → begins_lifetime (cs ++ onto ps []) ≡ true →
        (k ≡ kinds.Ident) ⊎ ((l : LiteralKind) × (k ≡ kinds.Literal l)) →
        follows_quote (tokens_before k cs (onto ps []) ++ plain_of ps []) ≡ true
    at_front kinds.Ident cs f h e = refl
    at_front (kinds.Literal kind) cs f h e = lifetime_literal kind cs (onto ps []) f h
    at_front k cs f h e = ⊎_elim (λ e. cc) (λ (l, e). cc) e

begun_comment : (c d : ℕ) (rest : List ℕ) → (c == 39) ≡ false → begins_mark (c ∷ (d ∷ rest)) ≡ true →
    begin_comment c d ≡ false
begun_comment c d rest q h =
    ⊎_elim
    (λ m. let (_, n) = and_parts (is_mark_but_tick c) (not (c == 47 && begins is_slash_or_star (d ∷ rest))) m in
    not-true _ n)
    (λ m. let (k, _) = and_parts (c == 39) (begins_lifetime (d ∷ rest)) m in cc)
    (or_cases (is_mark_but_tick c && not (c == 47 && begins is_slash_or_star (d ∷ rest)))
    (c == 39 && begins_lifetime (d ∷ rest)) h)

-- and behind another joint mark
mark_tokens : (c : ℕ) (ps : List Piece) → AreFit ps [] → (c == 39) ≡ false → begins_mark (c ∷ onto ps []) ≡ true →
    begins_mark (onto ps []) ≡ true → follows_mark c (plain_of ps []) ≡ true
mark_tokens c [] f q m h = cc
mark_tokens c (p ∷ ps) f q m h =
    at_front p.kind p.chars f.0 m h (mark_kind p.kind p.chars (onto ps []) f.0 h)
  where
    at_front : (k : PieceKind) (cs : List ℕ) → Fits k cs (onto ps []) → begins_mark (c ∷ (cs ++ onto ps [])) ≡ true →
        begins_mark (cs ++ onto ps []) ≡ true → k ≡ Mark →
        follows_mark c (tokens_before k cs (onto ps []) ++ plain_of ps []) ≡ true
    at_front Mark cs (d, e, _) m h s =
        let b : begins_mark (c ∷ (d ∷ onto ps [])) ≡ true = subst (λ x. begins_mark (c ∷ (x ++ onto ps [])) ≡
        true) e m in
        ap not (ap (λ x. begin_comment c (head x)) e ∙ begun_comment c d (onto ps []) q b)
    at_front k cs f m h s = cc

char_tokens : (c : ℕ) (ps : List Piece) → AreFit ps [] → begins_char (onto ps []) ≡ true →
    follows_mark c (plain_of ps []) ≡ true
char_tokens c [] f h = cc
char_tokens c (p ∷ ps) f h =
    at_front p.kind p.chars f.0 h (char_kind p.kind p.chars (onto ps []) f.0 h)
  where
    at_front : (k : PieceKind) (cs : List ℕ) → Fits k cs (onto ps []) → begins_char (cs ++ onto ps []) ≡ true →
        k ≡ kinds.Literal Char → follows_mark c (tokens_before k cs (onto ps []) ++ plain_of ps []) ≡ true
    at_front (kinds.Literal kind) cs f h s = sym (literal_more kind cs (onto ps []) f)
        ∙ char_begins (cs ++ onto ps []) h
    at_front k cs f h s = cc

begun_quote : (rest : List ℕ) → begins_mark (39 ∷ rest) ≡ true → begins_lifetime rest ≡ true
begun_quote rest h = let n = tick_no_mark 39 refl in ⊎_elim
    (λ m. let (k, _) = and_parts (is_mark_but_tick 39) (not (39 == 47 && begins is_slash_or_star rest)) m in cc)
    (λ m. m)
    (or_cases (is_mark_but_tick 39 && not (39 == 47 && begins is_slash_or_star rest)) (39 == 39 && begins_lifetime rest)
    h)

quote_stands : (ps : List Piece) → AreFit ps [] → begins_mark (39 ∷ onto ps []) ≡ true →
    IsTrue (may_stand (Punct 39 (spacing_of (is_joint (39 ∷ onto ps [])))) (plain_of ps []))
quote_stands ps f m = quote_tokens ps f (begun_quote (onto ps []) m)

as_spaced : (c : ℕ) (joint : Bool) (text : List ℕ) (ts : List Token) → is_joint (c ∷ text) ≡ joint →
    IsTrue (may_stand (Punct c (spacing_of joint)) ts) →
    IsTrue (may_stand (Punct c (spacing_of (is_joint (c ∷ text)))) ts)
as_spaced c joint text ts e m = subst (λ b. IsTrue (may_stand (Punct c (spacing_of b)) ts)) (sym e) m

joint_stands : (c : ℕ) (ts : List Token) → (c == 39) ≡ false → follows_mark c ts ≡ true →
    IsTrue (may_stand (Punct c Joint) ts)
joint_stands c ts q f = rw q f

alone_stands : (c : ℕ) (ts : List Token) → (c == 39) ≡ false → IsTrue (may_stand (Punct c Alone) ts)
alone_stands c ts q = ap not q

other_stands : (c : ℕ) (ps : List Piece) → AreFit ps [] → (c == 39) ≡ false → begins_mark (c ∷ onto ps []) ≡ true →
    IsTrue (may_stand (Punct c (spacing_of (is_joint (c ∷ onto ps [])))) (plain_of ps []))
other_stands c ps f q m =
    ⊎_elim
    (λ h. as_spaced c true (onto ps []) (plain_of ps []) (joint_mark c (onto ps []) h)
    (joint_stands c (plain_of ps []) q (mark_tokens c ps f q m h)))
    (λ h. ⊎_elim
    (λ k. as_spaced c true (onto ps []) (plain_of ps []) (joint_char c (onto ps []) k)
    (joint_stands c (plain_of ps []) q (char_tokens c ps f k)))
    (λ k. as_spaced c false (onto ps []) (plain_of ps []) (alone_before c (onto ps []) q h k)
    (alone_stands c (plain_of ps []) q))
    (cases_Bool (begins_char (onto ps []))))
    (cases_Bool (begins_mark (onto ps [])))

sign_stands : (c : ℕ) (ps : List Piece) → AreFit ps [] → begins_mark (c ∷ onto ps []) ≡ true →
    IsTrue (may_stand (Punct c (spacing_of (is_joint (c ∷ onto ps [])))) (plain_of ps []))
sign_stands c ps f m =
    ⊎_elim
    (λ q. let P : ℕ → Type 0 = λ d. begins_mark (d ∷ onto ps []) ≡ true →
    IsTrue (may_stand (Punct d (spacing_of (is_joint (d ∷ onto ps [])))) (plain_of ps [])) in
    subst P (sym (eqb-true c 39 q)) (quote_stands ps f) m)
    (λ q. other_stands c ps f q m)
    (cases_Bool (c == 39))

visible : (d : GroupMarks) → is_visible (delimiter_of d) ≡ true
visible lex.Parenthesis = refl
visible lex.Brace = refl
visible lex.Bracket = refl

doc_spaced : (kind : DocKind) (text : List ℕ) (ts : List Token) → IsWellSpaced ts →
    IsWellSpaced ((doc_marks kind ++ doc_group text) ++ ts)
doc_spaced doc.OuterLine text ts w = (refl, (refl, (refl, (refl, (refl, (refl, w))))))
doc_spaced doc.InnerLine text ts w = (refl, (refl, (refl, (refl, (refl, (refl, (refl, w)))))))
doc_spaced doc.OuterBlock text ts w = (refl, (refl, (refl, (refl, (refl, (refl, w))))))
doc_spaced doc.InnerBlock text ts w = (refl, (refl, (refl, (refl, (refl, (refl, (refl, w)))))))

with_front : (ps : List Piece) → AreFit ps [] → IsWellSpaced (plain_of ps []) → (k : PieceKind) (cs : List ℕ) →
    Fits k cs (onto ps []) → IsWellSpaced (tokens_before k cs (onto ps []) ++ plain_of ps [])
with_front ps f w FrontMark cs h = w
with_front ps f w White cs h = w
with_front ps f w Comment cs h = w
with_front ps f w (Doc kind) cs h = doc_spaced kind (doc_text kind cs) (plain_of ps []) w
with_front ps f w (Open d) cs h = (visible d, w)
with_front ps f w (Close d) cs h = (visible d, w)
with_front ps f w Mark cs (c, e, m) = subst (λ x. IsWellSpaced (tokens_before Mark x (onto ps []) ++ plain_of ps []))
    (sym e) (sign_stands c ps f m, w)
with_front ps f w kinds.Ident cs h = (refl, w)
with_front ps f w (kinds.Literal kind) cs h = (refl, w)

read_spaced : (ps : List Piece) → AreFit ps [] → IsWellSpaced (plain_of ps [])
read_spaced [] f = tt
read_spaced (p ∷ ps) f = with_front ps f.1 (read_spaced ps f.1) p.kind p.chars f.0

front_spaced : (ps : List Piece) → AreFitFront ps [] → IsWellSpaced (plain_of ps [])
front_spaced [] f = tt
front_spaced (p ∷ ps) f = at_front p.kind p.chars f.0
  where
    at_front : (k : PieceKind) (cs : List ℕ) → FitsFront k cs (onto ps []) →
        IsWellSpaced (tokens_before k cs (onto ps []) ++ plain_of ps [])
    at_front FrontMark cs h = read_spaced ps f.1
    at_front White cs h = with_front ps f.1 (read_spaced ps f.1) White cs h
    at_front Comment cs h = with_front ps f.1 (read_spaced ps f.1) Comment cs h
    at_front (Doc kind) cs h = with_front ps f.1 (read_spaced ps f.1) (Doc kind) cs h
    at_front (Open d) cs h = with_front ps f.1 (read_spaced ps f.1) (Open d) cs h
    at_front (Close d) cs h = with_front ps f.1 (read_spaced ps f.1) (Close d) cs h
    at_front Mark cs h = with_front ps f.1 (read_spaced ps f.1) Mark cs h
    at_front kinds.Ident cs h = with_front ps f.1 (read_spaced ps f.1) kinds.Ident cs h
    at_front (kinds.Literal kind) cs h = with_front ps f.1 (read_spaced ps f.1) (kinds.Literal kind) cs h

pub is_spaced : (text : List ℕ) (ts : List Token) → IsReadAs text ts → IsWellSpaced ts
is_spaced text ts r = subst IsWellSpaced (sym (cover_tokens 0 text r.pieces r.cover)
    ∙ r.tokens_are) (front_spaced r.pieces r.cover.fit)
