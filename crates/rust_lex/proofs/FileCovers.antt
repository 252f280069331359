-- A file has at most one front, and at most one cover; and its front is the same where a line feed follows the file.
use Rattle.std.proofs.Common.{◌≡◌, ℕ, List, [], ◌∷◌, ◌++◌, append_assoc, refl, sym, ap, ◌∙◌, subst, inl, inr, ⊎_elim}
use Rattle.std.specs.Prelude.{true, false, not, ◌&&◌, ◌||◌, ◌==◌, ◌⊎◌, ◌↔◌}
use Rattle.std.proofs.lemmas.Bool.{and_from, and_parts, and_right, cases_Bool, eqb-true, not-false}
use Rattle.std.proofs.lemmas.List.{append_cancel_left, append_cancel_right}
use Rattle.rust_lex.specs.Chars.{begins, is_not_feed, is_slash_or_star, is_white, past}
use Rattle.rust_lex.specs.Cover.{onto, AreFit, AreFitFront, IsCover}
use Rattle.rust_lex.specs.Piece.{Piece, PieceKind, Fits, FitsFront, FrontMark, White, Comment, Doc, Open, Close, Mark}
use Rattle.rust_lex.specs.Piece.{Ident, Literal}
use Rattle.rust_lex.specs.Shebang.{IsShebang, begins_command, begins_shebang, is_gap}
use Rattle.rust_lex.specs.FileCover.{FileFront, IsFileCover, is_front_mark, mark_pieces}
use Rattle.rust_lex.proofs.Ends.{past_all}
use Rattle.rust_lex.proofs.Feeds.{begins_feed, past_feed}
use Rattle.rust_lex.proofs.OneCover.{one_list}
use Rattle.rust_lex.proofs.Sound.{front_fits}

-- a command stands too where its line is followed by another
command_before : (cs rest : List ℕ) → begins is_not_feed rest ≡ false → begins_command cs ≡ true
    → begins_command (cs ++ rest) ≡ true
command_before [] rest ends h = cc
command_before (c ∷ []) [] ends h = h
command_before (c ∷ []) (d ∷ rest) ends h =
    subst (λ d. begins_command (c ∷ d ∷ rest) ≡ true) (sym (eqb-true d 10 (not-false (d == 10) ends))) h
command_before (c ∷ d ∷ cs) rest ends h = h

-- and the gap before it is the same
gap_before : (cs rest : List ℕ) → begins_command (past is_gap cs) ≡ true
    → past is_gap (cs ++ rest) ≡ past is_gap cs ++ rest
gap_before [] rest h = cc
gap_before (c ∷ cs) rest h =
    ⊎_elim
    (λ y. let more : begins_command (past is_gap cs) ≡ true = rw y at h in rw y (gap_before cs rest more))
    (λ n. rw n refl)
    (cases_Bool (is_gap c))

-- a text that begins with a shebang line begins as a shebang
pub shebang_begins : (line rest : List ℕ) → IsShebang line rest → begins_shebang (line ++ rest) ≡ true
shebang_begins [] rest (h, passes, ends) = cc
shebang_begins (a ∷ []) rest (h, passes, ends) = cc
shebang_begins (a ∷ b ∷ cs) rest (h, passes, ends) =
    let (marks, command) = and_parts (a == 35 && b == 33) (begins_command (past is_gap cs)) h in
    and_from _ _ marks
    (rw (gap_before cs rest command) (command_before (past is_gap cs) rest ends command))

-- what is behind the shebang of a text
pub behind_shebang : (line rest : List ℕ) → IsShebang line rest → past is_not_feed (line ++ rest) ≡ rest
behind_shebang line rest (h, passes, ends) = past_all is_not_feed line rest passes ends

-- two marks in front of one text are the same
one_mark : (text mark other : List ℕ) (rest rests : List ℕ) → text ≡ mark ++ rest → text ≡ other ++ rests
    → (mark ≡ 65279 ∷ []) ⊎ (mark ≡ []) × (begins is_front_mark text ≡ false)
    → (other ≡ 65279 ∷ []) ⊎ (other ≡ []) × (begins is_front_mark text ≡ false) → mark ≡ other
one_mark text mark other rest rests e f a b =
    ⊎_elim
    (λ m. ⊎_elim
    (λ o. m ∙ sym o)
    (λ o. absurd
    (let marked : begins is_front_mark text ≡ true = ap (begins is_front_mark) (e ∙ ap (λ x. x ++ rest) m) in cc))
    b)
    (λ m. ⊎_elim
    (λ o. absurd
    (let marked : begins is_front_mark text ≡ true = ap (begins is_front_mark) (f ∙ ap (λ x. x ++ rests) o) in cc))
    (λ o. m.0 ∙ sym o.0)
    b)
    a

-- and two lines behind it, with what is behind each
one_line : (line other rest rests : List ℕ) → line ++ rest ≡ other ++ rests
    → IsShebang line rest ⊎ (line ≡ []) × (begins_shebang rest ≡ false)
    → IsShebang other rests ⊎ (other ≡ []) × (begins_shebang rests ≡ false) → (line ≡ other) × (rest ≡ rests)
one_line line other rest rests e a b =
    ⊎_elim
    (λ s. ⊎_elim
    (λ t.
    let same : rest ≡ rests =
    sym (behind_shebang line rest s) ∙ ap (past is_not_feed) e ∙ behind_shebang other rests t in
    (append_cancel_right line other rests (ap (λ x. line ++ x) (sym same) ∙ e), same))
    (λ n. absurd (let begun : begins_shebang rests ≡ true =
    sym (ap begins_shebang (e ∙ ap (λ x. x ++ rests) n.0)) ∙ shebang_begins line rest s in cc))
    b)
    (λ n. ⊎_elim
    (λ t. absurd (let begun : begins_shebang rest ≡ true =
    sym (ap begins_shebang (sym e ∙ ap (λ x. x ++ rest) n.0)) ∙ shebang_begins other rests t in cc))
    (λ m. (n.0 ∙ sym m.0, sym (ap (λ x. x ++ rest) n.0) ∙ e ∙ ap (λ x. x ++ rests) m.0))
    b)
    a

-- a text has at most one front
pub one_front : (text m l rest n k rests : List ℕ) → FileFront text m l rest → FileFront text n k rests
    → (m ≡ n) × (l ≡ k) × (rest ≡ rests)
one_front text m l rest n k rests f g =
    let marks : m ≡ n = one_mark text m n (l ++ rest) (k ++ rests) f.joined g.joined f.marked g.marked in
    let behind : l ++ rest ≡ k ++ rests =
    append_cancel_left n (l ++ rest) (k ++ rests) (ap (λ x. x ++ (l ++ rest)) (sym marks) ∙ sym f.joined ∙ g.joined) in
    let (lines, same) = one_line l k rest rests behind f.lined g.lined in
    (marks, lines, same)

pub one_file_cover : (text m l n k : List ℕ) (ps qs : List Piece) → IsFileCover text m l ps → IsFileCover text n k qs
    → (m ≡ n) × (l ≡ k) × (ps ≡ qs)
one_file_cover text m l n k ps qs f g =
    let (marks, lines, same) = one_front text m l (onto ps []) n k (onto qs []) f.front g.front in
    (marks, lines, one_list ps qs f.fit g.fit same)

-- before a line feed, whatever follows that, no more is a shebang
command_feed : (cs more : List ℕ) → begins_command (cs ++ 10 ∷ more) ≡ begins_command cs
command_feed [] more = refl
command_feed (c ∷ cs) more =
    ap (λ b. is_not_feed c && not (c == 91 || (c == 47 && b))) (begins_feed is_slash_or_star cs more refl)

gap_stops : is_gap 10 ≡ false
gap_stops = and_right (is_white 10) false refl

pub shebang_feed : (cs more : List ℕ) → begins_shebang (cs ++ 10 ∷ more) ≡ begins_shebang cs
shebang_feed [] [] = refl
shebang_feed [] (d ∷ more) = refl
shebang_feed (a ∷ []) more = ap (λ b. b && begins_command (past is_gap more)) (and_right (a == 35) false refl)
shebang_feed (a ∷ b ∷ cs) more = ap (λ c. (a == 35 && b == 33) && c)
    (ap begins_command (past_feed is_gap cs more gap_stops) ∙ command_feed (past is_gap cs) more)

-- the front of a text is that of the text, a line feed and more
pub front_feed : (text mark line rest more : List ℕ) → FileFront text mark line rest
    → FileFront (text ++ 10 ∷ more) mark line (rest ++ 10 ∷ more)
front_feed text mark line rest more f = record {
  joined = ap (λ t. t ++ 10 ∷ more) f.joined ∙ append_assoc mark (line ++ rest) (10 ∷ more)
      ∙ ap (λ t. mark ++ t) (append_assoc line rest (10 ∷ more));
  marked = ⊎_elim (λ m. inl m) (λ m. inr (m.0, begins_feed is_front_mark text more refl ∙ m.1)) f.marked;
  lined = ⊎_elim
      (λ (begun, one, ends). inl (begun, one, begins_feed is_not_feed rest more refl ∙ ends))
      (λ n. inr (n.0, shebang_feed rest more ∙ n.1))
      f.lined;
}

-- pieces within a text fit at its front
at_front : (ps : List Piece) → AreFit ps [] → AreFitFront ps []
at_front [] f = tt
at_front (p ∷ ps) f = (front_fits p.kind p.chars (onto ps []) f.0, f.1)

-- those at the front of a text without a byte order mark fit within a text
pub without_mark : (ps : List Piece) (text : List ℕ) → AreFitFront ps [] → text ≡ onto ps []
    → begins is_front_mark text ≡ false → AreFit ps []
without_mark [] text f e none = tt
without_mark (p ∷ ps) text f e none = (
  ⊎_elim
      (λ k. absurd
      (let is : p.chars ≡ 65279 ∷ [] = subst (λ x. FitsFront x p.chars (onto ps [])) k f.0 in
      let marked : begins is_front_mark text ≡ true =
      ap (begins is_front_mark) (e ∙ ap (λ cs. cs ++ onto ps []) is) in cc))
      (λ g. g)
      (front_cases p.kind p.chars (onto ps []) f.0),
  f.1,
)
  where
    front_cases : (k : PieceKind) (cs rest : List ℕ) → FitsFront k cs rest → (k ≡ FrontMark) ⊎ Fits k cs rest
    front_cases FrontMark cs rest h = inl refl
    front_cases White cs rest h = inr h
    front_cases Comment cs rest h = inr h
    front_cases (Doc kind) cs rest h = inr h
    front_cases (Open d) cs rest h = inr h
    front_cases (Close d) cs rest h = inr h
    front_cases Mark cs rest h = inr h
    front_cases Ident cs rest h = inr h
    front_cases (Literal kind) cs rest h = inr h

-- without a shebang the cover of a file is the cover of its text
abbrev IsMark : List ℕ → List ℕ → Type 0
IsMark text mark = (mark ≡ 65279 ∷ []) ⊎ (mark ≡ []) × (begins is_front_mark text ≡ false)

to_cover : (text mark : List ℕ) (ps : List Piece) → IsMark text mark → text ≡ mark ++ onto ps [] → AreFit ps []
    → IsCover text (mark_pieces mark ++ ps)
to_cover text [] ps is joined fit = record { joined = joined; fit = at_front ps fit }
to_cover text (c ∷ cs) ps is joined fit =
    ⊎_elim (λ m. record { joined = joined; fit = (m, fit) }) (λ n. let e = n.0 in cc) is

from_cover : (text mark : List ℕ) (ps : List Piece) → IsMark text mark → IsCover text (mark_pieces mark ++ ps)
    → (text ≡ mark ++ onto ps []) × AreFit ps []
from_cover text [] ps is cover =
    ⊎_elim
    (λ m. cc)
    (λ n. (cover.joined, without_mark ps text cover.fit cover.joined n.1))
    is
from_cover text (c ∷ cs) ps is cover = (cover.joined, cover.fit.1)

pub without_shebang : (text mark rest : List ℕ) → FileFront text mark [] rest → (ps : List Piece)
    → IsFileCover text mark [] ps ↔ IsCover text (mark_pieces mark ++ ps)
without_shebang text mark rest front ps = (
  λ file. to_cover text mark ps file.front.marked file.front.joined file.fit,
  λ cover.
      let (joined, fit) = from_cover text mark ps front.marked cover in
      let behind : rest ≡ onto ps [] =
      append_cancel_left mark rest (onto ps []) (sym front.joined ∙ joined) in
      record { front = subst (FileFront text mark []) behind front; fit = fit },
)
