-- The forest of a shebang and printed tokens behind it.
use Rattle.std.proofs.Common.{◌≡◌, ℕ, ◌+◌, List, [], ◌∷◌, ◌++◌, length, refl, sym, ap, ◌∙◌, subst, ⊎_elim, inl, inr}
use Rattle.std.proofs.Common.{append_assoc}
use Rattle.std.proofs.lemmas.Bool.{and_parts, cases_Bool, eqb-true}
use Rattle.std.proofs.lemmas.List.{append-nil}
use Rattle.std.specs.Prelude.{true, false, ◌&&◌, ◌==◌, ◌≢◌, Option, Some, None, IsTrue}
use Rattle.rust_leaf.specs.Mark.{is_mark}
use Rattle.rust_lex.specs.Chars.{begins, is_not_feed, is_white, passes, past}
use Rattle.rust_lex.specs.FileCover.{is_front_mark}
use Rattle.rust_lex.specs.Piece.{Fits}
use Rattle.rust_lex.specs.Shebang.{IsShebang, begins_command, begins_shebang, is_gap}
use Rattle.rust_lex.specs.declared.piece.PieceKind.{PieceKind}
use Rattle.rust_lex.specs.declared.piece.PieceKind.TheVariants as piece
use Rattle.rust_lex.proofs.FileCovers.{without_mark}
use Rattle.rust_lex.proofs.OneCover.{none_empty}
use Rattle.proc_macro2.specs.declared.delimiter.Delimiter.TheVariants as delimiter
use Rattle.proc_macro2.specs.FileForest.{HasShebang, IsFileForest, NoShebang}
use Rattle.proc_macro2.specs.Forest.{IsForest}
use Rattle.proc_macro2.specs.Groups.{IsMatched}
use Rattle.proc_macro2.specs.Leaf.{AreLeaves, IsLeaf}
use Rattle.proc_macro2.specs.Printed.{shown}
use Rattle.proc_macro2.specs.Printed as printed
use Rattle.proc_macro2.specs.Spacing.{IsWellSpaced, may_stand}
use Rattle.proc_macro2.specs.Token.{Token, Opens, Closes, Ident, Literal, Punct, Spanned, plain}
use Rattle.laws_lexer.proofs.Exactly.{forest_back}
use Rattle.laws_programs.specs.Program.{shebang_text}
use Rattle.laws_programs.proofs.Shebangs.{unmarked}

-- no token begins with a byte order mark
leaf_unmarked : (k : PieceKind) (cs rest : List ℕ) → Fits k cs [] → begins is_front_mark (cs ++ rest) ≡ false
leaf_unmarked k [] rest f = absurd (none_empty 1 (record { kind = k; chars = [] }) [] f refl)
leaf_unmarked k (c ∷ cs) rest f = unmarked (record { kind = k; chars = c ∷ cs } ∷ []) (f, tt)

mark_unmarked : (c : ℕ) → is_mark c ≡ true → is_front_mark c ≡ false
unfolding is_mark
mark_unmarked c h =
    ⊎_elim
    (λ y. let wrong : is_mark 65279 ≡ true = subst (λ d. is_mark d ≡ true) (eqb-true c 65279 y) h in cc)
    (λ n. n)
    (cases_Bool (is_front_mark c))

shown_unmarked : (t : Token) (ts : List Token) (rest : List ℕ) → IsLeaf t → IsTrue (may_stand t ts)
    → begins is_front_mark (shown t ++ rest) ≡ false
shown_unmarked (Opens delimiter.Parenthesis) ts rest l m = refl
shown_unmarked (Opens delimiter.Brace) ts rest l m = refl
shown_unmarked (Opens delimiter.Bracket) ts rest l m = refl
shown_unmarked (Opens delimiter.None) ts rest l m = cc
shown_unmarked (Closes delimiter.Parenthesis) ts rest l m = refl
shown_unmarked (Closes delimiter.Brace) ts rest l m = refl
shown_unmarked (Closes delimiter.Bracket) ts rest l m = refl
shown_unmarked (Closes delimiter.None) ts rest l m = cc
shown_unmarked (Ident cs) ts rest l m = leaf_unmarked piece.Ident cs rest l
shown_unmarked (Literal cs) ts rest (kind, l) m = leaf_unmarked (piece.Literal kind) cs rest l
shown_unmarked (Punct c spacing) ts rest l m = mark_unmarked c l

text_unmarked : (ts : List Token) → AreLeaves ts → IsWellSpaced ts → begins is_front_mark (printed.text ts) ≡ false
text_unmarked [] a w = refl
text_unmarked (t ∷ []) a w =
    ap (begins is_front_mark) (sym (append-nil (shown t))) ∙ shown_unmarked t [] [] a.0 w.0
text_unmarked (t ∷ u ∷ us) a w = shown_unmarked t (u ∷ us) _ a.0 w.0

-- behind a line feed
behind_feed : (base : ℕ) (text : List ℕ) (ss : List Spanned) → IsForest (base + 1) text ss
    → begins is_front_mark text ≡ false → IsForest base (10 ∷ text) ss
unfolding is_white
behind_feed base text ss f n = record {
  pieces = record { kind = piece.White; chars = 10 ∷ [] } ∷ f.pieces;
  cover = record {
    joined = ap (λ cs. 10 ∷ cs) f.cover.joined;
    fit = (refl, without_mark f.pieces text f.cover.fit f.cover.joined n);
  };
  tokens_are = f.tokens_are;
  matched = f.matched;
  paired = f.paired;
}

-- a shebang and a line feed are the front of what follows
line_unmarked : (line rest : List ℕ) → begins_shebang line ≡ true → begins is_front_mark (line ++ rest) ≡ false
line_unmarked [] rest h = cc
line_unmarked (a ∷ []) rest h = cc
line_unmarked (a ∷ b ∷ cs) rest h =
    let (both, command) = and_parts (a == 35 && b == 33) (begins_command (past is_gap cs)) h in
    let hash = eqb-true a 35 (and_parts (a == 35) (b == 33) both).0 in
    ap is_front_mark hash

-- What a shebang is by itself, if there is one: a text that a file has in front.
abbrev pub IsLine : Option (List ℕ) → Type 0
IsLine None = Unit {0}
IsLine (Some line) = (begins_shebang line ≡ true) × (passes is_not_feed line ≡ true) × (line ≢ [])

pub is_line : (base : ℕ) (text : List ℕ) (s : Option (List ℕ)) (ss : List Spanned) → IsFileForest base text s ss
    → IsLine s
is_line base text None ss f = tt
is_line base text (Some line) ss f =
    let s : IsShebang line f.rest =
    ⊎_elim (λ s. s) (λ n. absurd (f.shebang.is_some n.0)) f.shebang.front.lined in
    (s.0, s.1, f.shebang.is_some)

line_shebang : (line text : List ℕ) → IsLine (Some line)
    → HasShebang ((line ++ 10 ∷ []) ++ text) line (10 ∷ text) (length line)
line_shebang line text (begun, whole, some) = record {
  mark = [];
  front = record {
    joined = append_assoc line (10 ∷ []) text;
    marked = inr
        (refl, ap (begins is_front_mark) (append_assoc line (10 ∷ []) text) ∙ line_unmarked line (10 ∷ text) begun);
    lined = inl (begun, whole, refl);
  };
  is_some = some;
  counted = refl;
}

-- the printed text of well spaced leaves in matched groups has them as its tokens, behind a shebang too
pub printed_forest : (s : Option (List ℕ)) (stream : List Spanned) → IsLine s
    → (s ≡ None → (read : List Spanned) → IsForest 0 (printed.text (plain stream)) read
    → plain read ≡ plain stream → NoShebang (printed.text (plain stream)))
    → AreLeaves (plain stream) → IsMatched stream → IsWellSpaced (plain stream)
    → (read : List Spanned) × IsFileForest 0 (shebang_text s ++ printed.text (plain stream)) s read
    × (plain read ≡ plain stream)
printed_forest None stream l none a m w =
    let (read, forest, same) = (forest_back 0 stream a m).0 w in
    (read, (none refl read forest same, forest), same)
printed_forest (Some line) stream l none a m w =
    let (read, forest, same) = (forest_back (0 + length line + 1) stream a m).0 w in (
      read,
      record {
        rest = 10 ∷ printed.text (plain stream);
        count = length line;
        shebang = line_shebang line (printed.text (plain stream)) l;
        forest = behind_feed (0 + length line) (printed.text (plain stream)) read forest
            (text_unmarked (plain stream) a w);
      },
      same,
    )
