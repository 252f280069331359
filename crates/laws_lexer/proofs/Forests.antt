-- A text that is read as matched tokens has no lexical fault, and a forest is what its text is read as.
use Rattle.std.proofs.Common.{◌≡◌, ℕ, zero, suc, ◌+◌, List, [], ◌∷◌, ◌++◌, length, map, refl, sym, ap, ap₂, ◌∙◌, subst}
use Rattle.std.proofs.Common.{⊎_elim}
use Rattle.std.specs.Prelude.{◌↔◌, Option, Some, None, option_and_then}
use Rattle.std.proofs.lemmas.Bool.{cases_Bool}
use Rattle.rust_lex.specs.declared.group_marks.GroupMarks.{GroupMarks}
use Rattle.rust_lex.specs.declared.piece.DocKind.{DocKind}
use Rattle.rust_lex.specs.declared.piece.DocKind.TheVariants as doc
use Rattle.rust_lex.specs.declared.piece.PieceKind.{PieceKind}
use Rattle.rust_lex.specs.declared.piece.PieceKind.TheVariants.{FrontMark, White, Comment, Doc, Open, Close, Mark}
use Rattle.rust_lex.specs.declared.piece.PieceKind.TheVariants.{Ident, Literal}
use Rattle.rust_lex.specs.Piece.{Piece, Fits, FitsAt, closing}
use Rattle.rust_lex.specs.Cover.{onto, AreFit, AreFitFront, IsCover}
use Rattle.rust_lex.proofs.OneCover.{one_piece, one_cover, none_empty}
use Rattle.rust_lex.proofs.Sound.{front_fits}
use Rattle.proc_macro2.specs.declared.delimiter.Delimiter.{Delimiter}
use Rattle.proc_macro2.specs.Token.{Token, Spanned, plain}
use Rattle.proc_macro2.specs.Groups.{same_delimiter, groups_behind, groups_open, IsMatched}
use Rattle.proc_macro2.specs.Groups as groups
use Rattle.proc_macro2.specs.Pieces.{doc_marks, doc_group, doc_text, delimiter_of, edged}
use Rattle.proc_macro2.proofs.Followed.{tokens_before, tokens_onto}
use Rattle.proc_macro2.specs.Forest.{IsForest, Opening, openings_closed, open_behind, openings, count, IsStray}
use Rattle.proc_macro2.specs.Forest.{IsUnmatched, IsUnclosed, IsFaultBehind}
use Rattle.proc_macro2.specs.Printed.{text}
use Rattle.proc_macro2.specs.Spacing.{IsWellSpaced}
use Rattle.proc_macro2.specs.Leaf.{AreLeaves}
use Rattle.rust_leaf.specs.Leaf.{AreCharacters}
use Rattle.laws_lexer.specs.Read.{IsReadAs}
use Rattle.laws_lexer.proofs.Plain.{plain_of, plain_tokens, cover_tokens, one_reading}
use Rattle.laws_lexer.proofs.Printing.{reads_back}
use Rattle.laws_lexer.proofs.Reading.{is_spaced}
use Rattle.laws_lexer.proofs.ReadLeaves.{are_leaves}

abbrev piece : PieceKind → List ℕ → Piece
piece k cs = record { kind = k; chars = cs }

-- a forest is what its text is read as
pub plain_edges : (ss : List Spanned) → plain (map edged ss) ≡ plain ss
plain_edges [] = refl
plain_edges (s ∷ ss) = ap (λ us. s.token ∷ us) (plain_edges ss)

pub forest_read : (base : ℕ) (text : List ℕ) (stream : List Spanned) → IsForest base text stream →
    IsReadAs text (plain stream)
forest_read base text stream f = record {
  pieces = f.pieces;
  cover = f.cover;
  tokens_are = cover_tokens 0 text f.pieces f.cover ∙ sym (cover_tokens base text f.pieces f.cover)
      ∙ ap plain f.tokens_are ∙ plain_edges stream;
}

-- the groups that are open behind tokens, their places aside
abbrev open_of : List Delimiter → List Token → Option (List Delimiter)
open_of ds [] = Some ds
open_of ds (t ∷ ts) = option_and_then (λ es. open_of es ts) (groups_behind ds t)

then_same : (o : Option (List Delimiter)) (f g : List Delimiter → Option (List Delimiter)) →
    ((ds : List Delimiter) → f ds ≡ g ds) → option_and_then f o ≡ option_and_then g o
then_same None f g e = refl
then_same (Some ds) f g e = e ds

open_plain : (ds : List Delimiter) (ss : List Spanned) → groups_open ds ss ≡ open_of ds (plain ss)
open_plain ds [] = refl
open_plain ds (s ∷ ss) = then_same (groups_behind ds s.token) (λ es. groups_open es ss) (λ es. open_of es (plain ss))
    (λ es. open_plain es ss)

-- and those that are open behind pieces
abbrev delimiters : List Opening → List Delimiter
delimiters os = map (λ o. o.delimiter) os

abbrev delimiters_in : Option (List Opening) → Option (List Delimiter)
delimiters_in None = None
delimiters_in (Some os) = Some (delimiters os)

closed_same : (os : List Opening) (d : Delimiter) → groups.groups_closed (delimiters os) d ≡
    delimiters_in (openings_closed os d)
closed_same [] d = refl
closed_same (o ∷ os) d =
    ⊎_elim (λ y. rw y refl) (λ y. rw y refl) (cases_Bool (same_delimiter o.delimiter d))

doc_open : (kind : DocKind) (text : List ℕ) (ds : List Delimiter) (ts : List Token) →
    open_of ds ((doc_marks kind ++ doc_group text) ++ ts) ≡ open_of ds ts
doc_open doc.OuterLine text ds ts = refl
doc_open doc.InnerLine text ds ts = refl
doc_open doc.OuterBlock text ds ts = refl
doc_open doc.InnerBlock text ds ts = refl

open_same : (os : List Opening) (n : ℕ) (ps : List Piece) (rest : List ℕ) →
    open_of (delimiters os) (plain_of ps rest) ≡ delimiters_in (openings os n ps)
open_same os n [] rest = refl
open_same os n (p ∷ ps) rest = behind p.kind p.chars (λ qs m. open_same qs m ps rest)
  where
    past_closing : (o : Option (List Opening)) (m : ℕ) → ((qs : List Opening) (m : ℕ) →
        open_of (delimiters qs) (plain_of ps rest) ≡ delimiters_in (openings qs m ps))
        → option_and_then (λ es. open_of es (plain_of ps rest)) (delimiters_in o) ≡
        delimiters_in (option_and_then (λ qs. openings qs m ps) o)
    past_closing None m on = refl
    past_closing (Some qs) m on = on qs m

    behind : (k : PieceKind) (cs : List ℕ) → ((qs : List Opening) (m : ℕ) →
        open_of (delimiters qs) (plain_of ps rest) ≡ delimiters_in (openings qs m ps))
        → open_of (delimiters os) (tokens_before k cs (onto ps rest) ++ plain_of ps rest) ≡
        delimiters_in (option_and_then (λ qs. openings qs (n + length cs) ps) (open_behind os k n))
    behind FrontMark cs on = on os (n + length cs)
    behind White cs on = on os (n + length cs)
    behind Comment cs on = on os (n + length cs)
    behind (Doc kind) cs on = doc_open kind (doc_text kind cs) (delimiters os) (plain_of ps rest)
        ∙ on os (n + length cs)
    behind (Open d) cs on = on (record { delimiter = delimiter_of d; at = n } ∷ os) (n + length cs)
    behind (Close d) cs on = ap (option_and_then (λ es. open_of es (plain_of ps rest)))
        (closed_same os (delimiter_of d)) ∙ past_closing (openings_closed os (delimiter_of d)) (n + length cs) on
    behind Mark cs on = on os (n + length cs)
    behind Ident cs on = on os (n + length cs)
    behind (Literal kind) cs on = on os (n + length cs)

-- pieces that reach some place of a text are the first ones of its cover
abbrev AreFitAt : ℕ → List Piece → Type 0
AreFitAt at [] = Unit {0}
AreFitAt at (p ∷ ps) = FitsAt at p.kind p.chars (onto ps []) × AreFit ps []

record Split (ps qs : List Piece) (at : ℕ) (rest : List ℕ) : Type 0 where
  others : List Piece
  joined : ps ≡ qs ++ others
  rest_is : rest ≡ onto others []
  fit : AreFitAt at others

fits_at : (at : ℕ) (k : PieceKind) (cs rest : List ℕ) → Fits k cs rest → FitsAt at k cs rest
fits_at zero k cs rest f = front_fits k cs rest f
fits_at (suc n) k cs rest f = f

all_at : (at : ℕ) (ps : List Piece) → AreFit ps [] → AreFitAt at ps
all_at at [] f = tt
all_at at (p ∷ ps) f = (fits_at at p.kind p.chars (onto ps []) f.0, f.1)

split : (ps qs : List Piece) (at : ℕ) (rest : List ℕ) → AreFit ps [] → AreFit qs rest → onto ps [] ≡ onto qs rest →
    Split ps qs at rest
split ps [] at rest f g e = record { others = ps; joined = refl; rest_is = sym e; fit = all_at at ps f }
split [] (q ∷ qs) at rest f g e = absurd (none_empty 1 q (onto qs rest) g.0 e)
split (p ∷ ps) (q ∷ qs) at rest f g e =
    let (same, rests) = one_piece 1 p q (onto ps []) (onto qs rest) f.0 g.0 e in
    let more = split ps qs at rest f.1 g.1 rests in
    record {
      others = more.others;
      joined = ap₂ (λ x xs. x ∷ xs) same more.joined;
      rest_is = more.rest_is;
      fit = more.fit;
    }

front_at : (ps : List Piece) → AreFitFront ps [] → AreFitAt 0 ps
front_at [] f = tt
front_at (p ∷ ps) f = f

split_front : (ps qs : List Piece) (rest : List ℕ) → AreFitFront ps [] → AreFitFront qs rest →
    onto ps [] ≡ onto qs rest → Split ps qs (count qs) rest
split_front ps [] rest f g e = record { others = ps; joined = refl; rest_is = sym e; fit = front_at ps f }
split_front [] (q ∷ qs) rest f g e = absurd (none_empty 0 q (onto qs rest) g.0 e)
split_front (p ∷ ps) (q ∷ qs) rest f g e =
    let (same, rests) = one_piece 0 p q (onto ps []) (onto qs rest) f.0 g.0 e in
    let more = split ps qs (count (q ∷ qs)) rest f.1 g.1 rests in
    record {
      others = more.others;
      joined = ap₂ (λ x xs. x ∷ xs) same more.joined;
      rest_is = more.rest_is;
      fit = more.fit;
    }

-- the groups that are open behind more pieces
record OpenOn (os : List Opening) (n : ℕ) (qs others : List Piece) (gs : List Opening) : Type 0 where
  at : ℕ
  same : openings os n (qs ++ others) ≡ openings gs at others

open_on : (os : List Opening) (n : ℕ) (qs others : List Piece) (gs : List Opening) → openings os n qs ≡ Some gs →
    OpenOn os n qs others gs
open_on os n [] others gs e = let same : os ≡ gs = cc in record { at = n; same = ap (λ x. openings x n others) same }
open_on os n (q ∷ qs) others gs e = on (open_behind os q.kind n)
    (λ es h. open_on es (n + length q.chars) qs others gs h) e refl
  where
    on : (o : Option (List Opening)) → ((es : List Opening) → openings es (n + length q.chars) qs ≡ Some gs →
        OpenOn es (n + length q.chars) qs others gs)
        → option_and_then (λ es. openings es (n + length q.chars) qs) o ≡ Some gs → open_behind os q.kind n ≡ o →
        OpenOn os n (q ∷ qs) others gs
    on None more e h = cc
    on (Some es) more e h = let k = more es e in record {
      at = k.at;
      same = ap (option_and_then (λ es. openings es (n + length q.chars) (qs ++ others))) h ∙ k.same;
    }

-- matched tokens leave no group open, and close none that isn't open
matched_open : (ps : List Piece) (stream : List Spanned) → plain (tokens_onto 0 ps []) ≡ plain stream →
    IsMatched stream → delimiters_in (openings [] 0 ps) ≡ Some []
matched_open ps stream e m = sym (open_same [] 0 ps []) ∙ ap (open_of []) (sym (plain_tokens 0 ps []) ∙ e)
    ∙ sym (open_plain [] stream) ∙ m

close_at : (at : ℕ) (d : GroupMarks) (rest : List ℕ) → FitsAt at (Close d) (closing d ∷ []) rest
close_at zero d rest = refl
close_at (suc n) d rest = refl

closes_none : (gs : List Opening) (m : ℕ) (p : Piece) (ps : List Piece) (d : GroupMarks) → p.kind ≡ Close d →
    openings_closed gs (delimiter_of d) ≡ None → openings gs m (p ∷ ps) ≡ None
closes_none gs m p ps d k e = ap (option_and_then (λ qs. openings qs (m + length p.chars) ps))
    (ap (λ k. open_behind gs k m) k ∙ e)

no_stray : (text : List ℕ) (ps : List Piece) (n : ℕ) → IsCover text ps → IsStray text n → ⊥
no_stray text ps n c f =
    let s = split_front ps f.pieces f.rest c.fit f.reaches.covers.fit (sym c.joined ∙ f.reaches.covers.joined) in
    next s.others s.rest_is s.fit
  where
    next : (others : List Piece) → f.rest ≡ onto others [] → AreFitAt (count f.pieces) others → ⊥
    next [] e g = f.more e
    next (p ∷ others) e g = f.none p.kind p.chars (onto others []) e g.0

no_unmatched : (text : List ℕ) (ps : List Piece) (n : ℕ) → IsCover text ps →
    delimiters_in (openings [] 0 ps) ≡ Some [] → IsUnmatched text n → ⊥
no_unmatched text ps n c m f =
    let s = split_front ps f.pieces (closing f.delimiter ∷ f.rest) c.fit f.reaches.covers.fit (sym c.joined
    ∙ f.reaches.covers.joined) in
    next s.others s.rest_is s.fit (ap (λ qs. delimiters_in (openings [] 0 qs)) (sym s.joined) ∙ m)
  where
    next : (others : List Piece) → closing f.delimiter ∷ f.rest ≡ onto others [] → AreFitAt (count f.pieces) others →
        delimiters_in (openings [] 0 (f.pieces ++ others)) ≡ Some [] → ⊥
    next [] e g m = cc
    next (p ∷ others) e g m =
        let (same, _) = one_piece (count f.pieces) p (piece (Close f.delimiter) (closing f.delimiter ∷ []))
        (onto others []) f.rest g.0 (close_at (count f.pieces) f.delimiter f.rest) (sym e) in
        let k = open_on [] 0 f.pieces (p ∷ others) f.groups f.reaches.opened in
        let none = k.same ∙ closes_none f.groups k.at p others f.delimiter (ap (λ q. q.kind) same) f.wrong in
        let wrong : None ≡ Some [] = ap delimiters_in (sym none) ∙ m in
        cc

no_unclosed : (text : List ℕ) (ps : List Piece) (n : ℕ) → IsCover text ps → delimiters_in (openings [] 0 ps) ≡ Some [] →
    IsUnclosed text n → ⊥
no_unclosed text ps n c m f =
    let same = one_cover text ps f.pieces c f.reaches.covers in
    let wrong : Some (delimiters (f.innermost ∷ f.others)) ≡ Some [] = ap delimiters_in (sym f.reaches.opened)
    ∙ ap (λ qs. delimiters_in (openings [] 0 qs)) (sym same) ∙ m in
    cc

-- a text that is read as matched tokens has no lexical fault
pub no_fault : (text : List ℕ) (stream : List Spanned) (n : ℕ) → IsReadAs text (plain stream) → IsMatched stream →
    IsFaultBehind text n → ⊥
no_fault text stream n r m f =
    let opened = matched_open r.pieces stream (plain_tokens 0 r.pieces [] ∙ sym (cover_tokens 0 text r.pieces r.cover)
    ∙ r.tokens_are) m in
    ⊎_elim (λ s. no_stray text r.pieces n r.cover s)
    (λ f. ⊎_elim (λ u. no_unmatched text r.pieces n r.cover opened u)
    (λ u. no_unclosed text r.pieces n r.cover opened u) f)
    f

pub forest_spaced : (base : ℕ) (text : List ℕ) (stream : List Spanned) → AreCharacters text →
    IsForest base text stream → AreLeaves (plain stream) × IsWellSpaced (plain stream)
forest_spaced base text stream c f =
    let r = forest_read base text stream f in
    (are_leaves text (plain stream) c r, is_spaced text (plain stream) r)

pub same_forest : (base : ℕ) (stream read : List Spanned) → AreLeaves (plain stream) →
    IsForest base (text (plain stream)) read → IsWellSpaced (plain stream) ↔ (plain read ≡ plain stream)
same_forest base stream read a f =
    let r = forest_read base (text (plain stream)) read f in (
      λ w. one_reading (text (plain stream)) (plain read) (plain stream) r (reads_back (plain stream) a w),
      λ e. subst IsWellSpaced e (is_spaced (text (plain stream)) (plain read) r),
    )

pub spaced_no_fault : (stream : List Spanned) (n : ℕ) → AreLeaves (plain stream) → IsMatched stream →
    IsWellSpaced (plain stream) → IsFaultBehind (text (plain stream)) n → ⊥
spaced_no_fault stream n a m w f = no_fault (text (plain stream)) stream n (reads_back (plain stream) a w) m f
