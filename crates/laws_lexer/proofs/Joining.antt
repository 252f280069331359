-- The cover and the forest of two texts that a line feed joins.
use Rattle.std.proofs.Common.{◌≡◌, ℕ, ◌+◌, List, [], ◌∷◌, ◌++◌, length, append_assoc, refl, sym, ap, ap₂, ◌∙◌}
use Rattle.std.proofs.Common.{subst, ⊎_elim}
use Rattle.std.specs.Prelude.{true, false, Option, Some, None}
use Rattle.std.proofs.lemmas.Bool.{cases_Bool}
use Rattle.rust_lex.specs.Chars.{begins, is_white}
use Rattle.rust_lex.specs.Cover.{onto, AreFit, AreFitFront}
use Rattle.rust_lex.specs.FileCover.{IsFileCover, is_front_mark}
use Rattle.rust_lex.specs.Piece.{Piece, Fits, FitsFront}
use Rattle.rust_lex.proofs.Feeds.{fit_before_feed, fit_front_before_feed, onto_rest}
use Rattle.rust_lex.specs.Shebang.{begins_shebang}
use Rattle.rust_lex.proofs.FileCovers.{front_feed, shebang_feed, without_mark}
use Rattle.proc_macro2.specs.FileForest.{IsFileForest, NoShebang}
use Rattle.proc_macro2.specs.Forest.{IsForest}
use Rattle.proc_macro2.specs.Pieces.{head, mark_spacing, piece_tokens, span_at, tokens_of}
use Rattle.proc_macro2.specs.Token.{Spanned, Token, plain}
use Rattle.proc_macro2.proofs.Covering.{onto_append}
use Rattle.proc_macro2.proofs.GroupLemmas.{matched_append}
use Rattle.proc_macro2.proofs.Total.{forest_or_fault}
use Rattle.laws_lexer.specs.Joined.{joined, feed}
use Rattle.laws_lexer.specs.Read.{IsReadAs}
use Rattle.laws_lexer.proofs.Forests.{forest_read, no_fault, plain_edges}
use Rattle.laws_lexer.proofs.Plain.{one_reading, plain_edged}

-- pieces one behind the other
fit_append : (ps qs : List Piece) → AreFit ps (onto qs []) → AreFit qs [] → AreFit (ps ++ qs) []
fit_append [] qs f g = g
fit_append (p ∷ ps) qs f g = (subst (Fits p.kind p.chars) (sym (onto_append ps qs [])) f.0, fit_append ps qs f.1 g)

joined_onto : (ps qs : List Piece) → onto (ps ++ feed ∷ qs) [] ≡ onto ps [] ++ 10 ∷ onto qs []
joined_onto ps qs = onto_append ps (feed ∷ qs) [] ∙ onto_rest ps (10 ∷ onto qs [])

white_feed : is_white 10 ≡ true
unfolding is_white
white_feed = refl

joined_fit : (ps qs : List Piece) → AreFit ps [] → AreFit qs [] → AreFit (ps ++ feed ∷ qs) []
joined_fit ps qs f g = fit_append ps (feed ∷ qs) (fit_before_feed ps (onto qs []) f) (white_feed, g)

joined_front : (ps qs : List Piece) → AreFitFront ps [] → AreFit qs [] → AreFitFront (ps ++ feed ∷ qs) []
joined_front [] qs f g = (white_feed, g)
joined_front (p ∷ ps) qs f g =
    let front = fit_front_before_feed (p ∷ ps) (onto qs []) f in (
      subst (FitsFront p.kind p.chars) (sym (onto_append ps (feed ∷ qs) [])) front.0,
      fit_append ps (feed ∷ qs) front.1 (white_feed, g),
    )

-- a text without a byte order mark and a shebang is what its pieces join to
pub joined_covers : (first second mark line : List ℕ) (ps qs : List Piece) → IsFileCover first mark line ps
    → IsFileCover second [] [] qs → IsFileCover (joined first second) mark line (ps ++ feed ∷ qs)
joined_covers first second mark line ps qs f g =
    let rest : onto (ps ++ feed ∷ qs) [] ≡ onto ps [] ++ 10 ∷ second =
    joined_onto ps qs ∙ ap (λ t. onto ps [] ++ 10 ∷ t) (sym g.front.joined) in
    record {
      front = rw rest (front_feed first mark line (onto ps []) second f.front);
      fit = joined_fit ps qs f.fit g.fit;
    }

-- the tokens of pieces, their places aside
abbrev bare : List Piece → List Token
bare [] = []
bare (p ∷ ps) = piece_tokens p.kind p.chars (mark_spacing (head p.chars) ps) ++ bare ps

plain_bare : (position : ℕ) (ps : List Piece) → plain (tokens_of position ps) ≡ bare ps
plain_bare position [] = refl
plain_bare position (p ∷ ps) =
    let ts = piece_tokens p.kind p.chars (mark_spacing (head p.chars) ps) in
    plain_edged (span_at position (length p.chars)) ts (tokens_of (position + length p.chars) ps)
    ∙ ap (λ us. ts ++ us) (plain_bare (position + length p.chars) ps)

-- a mark is spaced before a line feed as before the end
spacing_feed : (c : ℕ) (ps qs : List Piece) → mark_spacing c (ps ++ feed ∷ qs) ≡ mark_spacing c ps
spacing_feed c [] qs = refl
spacing_feed c (p ∷ ps) qs = refl

bare_joined : (ps qs : List Piece) → bare (ps ++ feed ∷ qs) ≡ bare ps ++ bare qs
bare_joined [] qs = refl
bare_joined (p ∷ ps) qs =
    let ts = piece_tokens p.kind p.chars (mark_spacing (head p.chars) ps) in
    ap₂ (λ s us. piece_tokens p.kind p.chars s ++ us) (spacing_feed (head p.chars) ps qs) (bare_joined ps qs)
    ∙ sym (append_assoc ts (bare ps) (bare qs))

plain_append : (ts us : List Spanned) → plain (ts ++ us) ≡ plain ts ++ plain us
plain_append [] us = refl
plain_append (t ∷ ts) us = ap (λ vs. t.token ∷ vs) (plain_append ts us)

-- what joined texts are read as
joined_read : (at behind : ℕ) (first second : List ℕ) (ts us : List Spanned) → IsForest at first ts
    → IsForest behind second us → begins is_front_mark second ≡ false
    → IsReadAs (joined first second) (plain (ts ++ us))
joined_read at behind first second ts us f g none =
    let fit = without_mark g.pieces second g.cover.fit g.cover.joined none in
    record {
      pieces = f.pieces ++ feed ∷ g.pieces;
      cover = record {
        joined = ap (λ t. t ++ 10 ∷ second) f.cover.joined ∙ ap (λ t. onto f.pieces [] ++ 10 ∷ t) g.cover.joined
            ∙ sym (joined_onto f.pieces g.pieces);
        fit = joined_front f.pieces g.pieces f.cover.fit fit;
      };
      tokens_are = plain_bare 0 (f.pieces ++ feed ∷ g.pieces) ∙ bare_joined f.pieces g.pieces
          ∙ ap₂ (λ xs ys. xs ++ ys)
          (sym (plain_bare at f.pieces) ∙ ap plain f.tokens_are ∙ plain_edges ts)
          (sym (plain_bare behind g.pieces) ∙ ap plain g.tokens_are ∙ plain_edges us)
          ∙ sym (plain_append ts us);
    }

pub joined_forest : (at behind whole : ℕ) (first second : List ℕ) (ts us : List Spanned) → IsForest at first ts
    → IsForest behind second us → begins is_front_mark second ≡ false
    → (read : List Spanned) × IsForest whole (joined first second) read × (plain read ≡ plain ts ++ plain us)
joined_forest at behind whole first second ts us f g none =
    let text = joined first second in
    let r = joined_read at behind first second ts us f g none in
    ⊎_elim
    (λ (read, h). (
      read,
      h,
      one_reading text (plain read) (plain (ts ++ us)) (forest_read whole text read h) r
          ∙ plain_append ts us,
    ))
    (λ (place, (n, fault, _)). absurd
    (no_fault text (ts ++ us) n r (matched_append ts us f.matched g.matched) fault))
    (forest_or_fault whole text)

-- a text without a shebang has none where a line feed follows it
no_shebang : (first second : List ℕ) → NoShebang first → NoShebang (joined first second)
no_shebang [] second none = shebang_feed [] second
no_shebang (c ∷ cs) second none =
    ⊎_elim
    (λ y. let behind : begins_shebang cs ≡ false = rw y at none in rw y (shebang_feed cs second ∙ behind))
    (λ n. let whole : begins_shebang (c ∷ cs) ≡ false = rw n at none in
    rw n (shebang_feed (c ∷ cs) second ∙ whole))
    (cases_Bool (is_front_mark c))

pub joined_file_forest : (at behind whole : ℕ) (first second : List ℕ) (shebang : Option (List ℕ))
    (ts us : List Spanned) → IsFileForest at first shebang ts → IsFileForest behind second None us
    → begins is_front_mark second ≡ false
    → (read : List Spanned) × IsFileForest whole (joined first second) shebang read ×
    (plain read ≡ plain ts ++ plain us)
joined_file_forest at behind whole first second None ts us f g none =
    let (read, h, same) = joined_forest at behind whole first second ts us f.1 g.1 none in
    (read, (no_shebang first second f.0, h), same)
joined_file_forest at behind whole first second (Some line) ts us f g none =
    let s = f.shebang in
    let (read, h, same) =
    joined_forest (at + f.count) behind (whole + f.count) f.rest second ts us f.forest g.1 none in (
      read,
      record {
        rest = joined f.rest second;
        count = f.count;
        shebang = record {
          mark = s.mark;
          front = front_feed first s.mark line f.rest second s.front;
          is_some = s.is_some;
          counted = s.counted;
        };
        forest = h;
      },
      same,
    )
