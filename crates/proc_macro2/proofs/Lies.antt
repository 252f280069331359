-- The tokens of a text's forest lie where the text does, and a map that the text was put into holds their spans.
use Rattle.std.proofs.Common.{◌≡◌, ℕ, ◌+◌, ◌-◌, ◌<◌, ◌≤◌, List, [], ◌∷◌, ◌++◌, length, map, refl, sym, ap, subst}
use Rattle.std.proofs.Common.{arith, length-append}
use Rattle.std.specs.Prelude.{Bool, true, false, nat_lt, if◌then◌else◌, IsTrue, Option, None, Some}
use Rattle.std.proofs.lemmas.Bool.{ltb-true}
use Rattle.rust_map.specs.Sources.{Sources, spot, is_held, next_position, next_span, next_spot, spot_part, with_text}
use Rattle.rust_map.specs.Spans.{span_from, span_part}
use Rattle.rust_map.specs.declared.span.Span.{Span}
use Rattle.rust_map.proofs.SpotLemmas.{held_by_spot, part_lies, same_span}
use Rattle.rust_lex.specs.Cover.{onto}
use Rattle.rust_lex.specs.Piece.{Piece}
use Rattle.proc_macro2.specs.Token.{Token, Opens, Closes, Ident, Literal, Punct, Spanned}
use Rattle.proc_macro2.specs.Pieces.{edge, edged, edged_at, head, mark_spacing, span_at, piece_tokens, tokens_of}
use Rattle.proc_macro2.specs.Forest.{ArePaired, IsForest}
use Rattle.proc_macro2.specs.Held.{are_held}
use Rattle.proc_macro2.specs.FileForest.{IsFileForest}
use Rattle.proc_macro2.proofs.Shebangs.{shebang_length}

-- a span lies between two positions
pub record Lies (low high : ℕ) (span : Span) : Type 0 where
  pub starts : low ≤ span.start
  pub ordered : span.start ≤ span.end
  pub ends : span.end ≤ high

abbrev pub AllLie : ℕ → ℕ → List Spanned → Type 0
AllLie low high [] = Unit {0}
AllLie low high (s ∷ ss) = Lies low high s.span × AllLie low high ss

both_lie : (low high : ℕ) (ss ts : List Spanned) → AllLie low high ss → AllLie low high ts → AllLie low high (ss ++ ts)
both_lie low high [] ts l m = m
both_lie low high (s ∷ ss) ts l m = (l.0, both_lie low high ss ts l.1 m)

-- the first and the last character of a stretch of so many lie in it
first_lies : (low high p n : ℕ) (b : Bool) → (b ≡ true → p < p + n) → low ≤ p → p + n ≤ high
    → Lies low high (if b then span_from p (p + 1) else span_from p (p + n))
first_lies low high p n true t l h = let some : p < p + n =
    t refl in record { starts = l; ordered = omega arith; ends = omega arith }
first_lies low high p n false t l h = record { starts = l; ordered = omega arith; ends = h }

last_lies : (low high p n : ℕ) (b : Bool) → (b ≡ true → p < p + n) → low ≤ p → p + n ≤ high
    → Lies low high (if b then span_from (p + n - 1) (p + n) else span_from p (p + n))
last_lies low high p n true t l h = let some : p < p + n =
    t refl in record { starts = omega arith; ordered = omega arith; ends = h }
last_lies low high p n false t l h = record { starts = l; ordered = omega arith; ends = h }

edge_lies : (low high p n : ℕ) (t : Token) → low ≤ p → p + n ≤ high → Lies low high (edge t (span_at p n))
edge_lies low high p n (Opens d) l h = first_lies low high p n (nat_lt p (p + n)) (λ e. ltb-true p (p + n) e) l h
edge_lies low high p n (Closes d) l h = last_lies low high p n (nat_lt p (p + n)) (λ e. ltb-true p (p + n) e) l h
edge_lies low high p n (Ident cs) l h = record { starts = l; ordered = omega arith; ends = h }
edge_lies low high p n (Literal cs) l h = record { starts = l; ordered = omega arith; ends = h }
edge_lies low high p n (Punct c spacing) l h = record { starts = l; ordered = omega arith; ends = h }

edges_lie : (low high p n : ℕ) (ts : List Token) → low ≤ p → p + n ≤ high → AllLie low high (edged_at (span_at p n) ts)
edges_lie low high p n [] l h = tt
edges_lie low high p n (t ∷ ts) l h = (edge_lies low high p n t l h, edges_lie low high p n ts l h)

-- the tokens of pieces lie where the pieces do
tokens_lie : (low high p : ℕ) (ps : List Piece) → low ≤ p → p + length (onto ps []) ≤ high
    → AllLie low high (tokens_of p ps)
tokens_lie low high p [] l h = tt
tokens_lie low high p (x ∷ ps) l h =
    let ts : List Token = piece_tokens x.kind x.chars (mark_spacing (head x.chars) ps) in
    let n : length (onto (x ∷ ps) []) ≡ length x.chars + length (onto ps []) = length-append x.chars (onto ps []) in
    both_lie low high (edged_at (span_at p (length x.chars)) ts) (tokens_of (p + length x.chars) ps)
    (edges_lie low high p (length x.chars) ts l (omega arith))
    (tokens_lie low high (p + length x.chars) ps (omega arith) (omega arith))

-- the tokens themselves lie where the characters stand
pub forest_lies : (base : ℕ) (text : List ℕ) (ss : List Spanned) → IsForest base text ss
    → AllLie base (base + length text) (map edged ss)
forest_lies base text ss f =
    let all : length text ≡ length (onto f.pieces []) = ap length f.cover.joined in
    subst (AllLie base (base + length text)) f.tokens_are
    (tokens_lie base (base + length text) base f.pieces (omega arith) (omega arith))

-- what is known of the span of a group that is open: where it starts
record IsOpened (low : ℕ) (span : Span) : Type 0 where
  pub starts : low ≤ span.start
  pub ordered : span.start ≤ span.«end»

abbrev AreOpened : ℕ → List Span → Type 0
AreOpened low [] = Unit {0}
AreOpened low (x ∷ xs) = IsOpened low x × AreOpened low xs

-- and where it is closed: where it ends
abbrev AreEnded : ℕ → List Span → Type 0
AreEnded high [] = Unit {0}
AreEnded high (x ∷ xs) = (x.«end» ≤ high) × AreEnded high xs

opened_by : (low high : ℕ) (b : Bool) (span : Span) → nat_lt span.start span.«end» ≡ b
    → Lies low high (if b then span_from span.start (span.start + 1) else span) → IsOpened low span
opened_by low high true span e l = let some = ltb-true _ _ e in let starts =
    l.starts in record { starts = starts; ordered = omega arith }
opened_by low high false span e l = record { starts = l.starts; ordered = l.ordered }

ended_by : (low high : ℕ) (b : Bool) (span : Span) → nat_lt span.start span.«end» ≡ b
    → Lies low high (if b then span_from (span.«end» - 1) span.«end» else span) → span.«end» ≤ high
ended_by low high true span e l = l.ends
ended_by low high false span e l = l.ends

abbrev AllIn : ℕ → ℕ → List Spanned → Type 0
AllIn low high [] = Unit {0}
AllIn low high (s ∷ ss) = Lies low high s.span × AllIn low high ss

-- what pairing says of a token with this span, before others
abbrev PairedAt : Span → List Span → List Spanned → Token → Type 0
PairedAt span xs ss t = elim t [
  | Opens d ↦ ArePaired (span ∷ xs) ss
  | Closes d ↦ elim xs [ [] ↦ ⊥ | x ∷ ys ↦ (x ≡ span) × ArePaired ys ss ]
  | Ident cs ↦ ArePaired xs ss
  | Literal cs ↦ ArePaired xs ss
  | Punct c spacing ↦ ArePaired xs ss
]

-- tokens whose own places lie between two positions have their spans there too, where both tokens of a group carry one
spans_lie : (low high : ℕ) (xs : List Span) (ss : List Spanned) → AreOpened low xs → AllLie low high (map edged ss)
    → ArePaired xs ss → AllIn low high ss × AreEnded high xs
spans_lie low high xs [] o l p = (tt, subst (AreEnded high) (sym p) tt)
spans_lie low high xs (s ∷ ss) o l p = by (λ ys o q. spans_lie low high ys ss o l.1 q) s.token l.0 p
  where
    leaf : AllIn low high ss × AreEnded high xs → Lies low high s.span
        → (Lies low high s.span × AllIn low high ss) × AreEnded high xs
    leaf (rest, ends) h = ((h, rest), ends)

    by : ((ys : List Span) → AreOpened low ys → ArePaired ys ss → AllIn low high ss × AreEnded high ys) → (t : Token)
        → Lies low high (edge t s.span) → PairedAt s.span xs ss t
        → (Lies low high s.span × AllIn low high ss) × AreEnded high xs
    by more (Opens d) h q =
        let first = opened_by low high _ s.span refl h in
        let (rest, ends) = more (s.span ∷ xs) (first, o) q in
        ((record { starts = first.starts; ordered = first.ordered; ends = ends.0 }, rest), ends.1)
    by more (Closes d) h q = closes xs o q
      where
        closes : (ys : List Span) → AreOpened low ys → PairedAt s.span ys ss (Closes d)
            → (Lies low high s.span × AllIn low high ss) × AreEnded high ys
        closes [] o q = absurd q
        closes (y ∷ ys) o q =
            let (rest, ends) = more ys o.1 q.1 in
            let first : IsOpened low s.span = subst (IsOpened low) q.0 o.0 in
            let last = ended_by low high _ s.span refl h in (
              (record { starts = first.starts; ordered = first.ordered; ends = last }, rest),
              (subst (λ (x : Span). x.«end» ≤ high) (sym q.0) last, ends),
            )
    by more (Ident cs) h q = leaf (more xs o q) h
    by more (Literal cs) h q = leaf (more xs o q) h
    by more (Punct c spacing) h q = leaf (more xs o q) h

-- wider bounds
all_wider : (bottom low high top : ℕ) (ss : List Spanned) → bottom ≤ low → high ≤ top → AllIn low high ss
    → AllIn bottom top ss
all_wider bottom low high top [] b t l = tt
all_wider bottom low high top (s ∷ ss) b t l =
    let starts = l.0.starts in
    let ends = l.0.ends in (
      record { starts = omega arith; ordered = l.0.ordered; ends = omega arith },
      all_wider bottom low high top ss b t l.1,
    )

-- the text was put into the map
module _ (sources : Sources) (text : List ℕ)
    (there : spot (with_text sources text) (next_span sources text) ≡ Some (next_spot sources text)) where
  abbrev pub grown : Sources
  grown = with_text sources text

  abbrev pub base : ℕ
  base = next_position sources

  pub spot_of : (span : Span) → Lies base (base + length text) span
      → spot grown span ≡ Some (spot_part (next_spot sources text) (span.start - base) (span.end - base))
  spot_of span l =
      let starts = l.starts in
      let ordered = l.ordered in
      let ends = l.ends in
      let e : span_part (next_span sources text) (span.start - base) (span.end - base) ≡ span =
      same_span _ _ _ _ (omega arith) (omega arith) in
      subst (λ x. spot grown x ≡ Some (spot_part (next_spot sources text) (span.start - base) (span.end - base))) e
      (part_lies (next_span sources text) (span.start - base) (span.end - base) (omega arith) (omega arith) grown
      (next_spot sources text) there)

  pub held_span : (span : Span) → Lies base (base + length text) span → IsTrue (is_held grown span)
  held_span span l = held_by_spot grown span _ (spot_of span l)

  all_held : (ss : List Spanned) → AllIn base (base + length text) ss → IsTrue (are_held grown ss)
  all_held [] l = refl
  all_held (s ∷ ss) l = rw (held_span s.span l.0) (all_held ss l.1)

  forest_held : (ss : List Spanned) → IsForest base text ss → IsTrue (are_held grown ss)
  forest_held ss f = all_held ss (spans_lie base (base + length text) [] ss tt (forest_lies base text ss f) f.paired).0

  -- so are those of what stands behind its front
  behind_held : (rest : List ℕ) (count : ℕ) (ss : List Spanned) → length text ≡ count + length rest
      → IsForest (base + count) rest ss → IsTrue (are_held grown ss)
  behind_held rest count ss l f =
      let low = base + count in
      all_held ss
      (all_wider base low (low + length rest) (base + length text) ss (omega arith) (omega arith)
      (spans_lie low (low + length rest) [] ss tt (forest_lies low rest ss f) f.paired).0)

-- the map that a text was put into holds its tokens
pub given_held : (old new : Sources) (text : List ℕ) (ss : List Spanned)
    → spot new (next_span old text) ≡ Some (next_spot old text) → new ≡ with_text old text
    → IsForest (next_position old) text ss → IsTrue (are_held new ss)
given_held old new text ss there more forest =
    subst (λ (m : Sources). IsTrue (are_held m ss)) (sym more)
    (forest_held old text (subst (λ (m : Sources). spot m (next_span old text) ≡ Some (next_spot old text)) more
    there) ss forest)

-- those of a file too
pub given_file_held : (old new : Sources) (text : List ℕ) (shebang : Option (List ℕ)) (ss : List Spanned)
    → spot new (next_span old text) ≡ Some (next_spot old text) → new ≡ with_text old text
    → IsFileForest (next_position old) text shebang ss → IsTrue (are_held new ss)
given_file_held old new text None ss there more file = given_held old new text ss there more file.1
given_file_held old new text (Some line) ss there more file =
    subst (λ (m : Sources). IsTrue (are_held m ss)) (sym more)
    (behind_held old text (subst (λ (m : Sources). spot m (next_span old text) ≡ Some (next_spot old text)) more there)
    file.rest file.count ss (shebang_length text line file.rest file.count file.shebang) file.forest)
