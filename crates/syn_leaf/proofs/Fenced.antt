-- Texts by their first and their last quote.
use Rattle.std.proofs.Common.{◌≡◌, ℕ, ◌+◌, ◌<◌, ◌≤◌, List, [], ◌∷◌, ◌++◌, refl, sym, ap, ◌∙◌, subst, take, drop, arith}
use Rattle.std.proofs.Common.{length, get_or}
use Rattle.std.specs.Prelude.{Bool, true, false, ◌==◌, ◌||◌, Option, Some, None, MatchOption}
use denote.Ref.{Bor}
use Rattle.std.specs.Char.{encode_utf8, IsScalar}
use Rattle.std.specs.Str.{chars, IsUtf8, IsCharBoundary, NoCharPasses, NonePass}
use Rattle.std.specs.Str.Pattern.{HasCharAt, FindsChar, RFindsChar}
use Rattle.std.proofs.lemmas.Bool.{or_parts, false≢true, eq-eqb}
use Rattle.std.proofs.lemmas.List.{take-append-drop, length-drop}
use Rattle.std.proofs.lemmas.Str.{chars-append, chars_past_char, chars_from_encodes, IsUtf8-append, IsUtf8-encode}
use Rattle.std.proofs.lemmas.Str.{IsUtf8-take, IsUtf8-drop, IsCharBoundary-before_ascii}
use Rattle.std.proofs.lemmas.Str.Pattern.{drop_at_char}
use Rattle.syn_leaf.specs.Quoted.{has, IsFenced}

-- a text in which no character is the quote has none
none_has : (c : ℕ) (cs : List ℕ) → NonePass (λ d. d == c) cs → has c cs ≡ false
none_has c [] n = refl
none_has c (d ∷ cs) n = rw n.0 (none_has c cs n.1)

pub lacks : (c : ℕ) (bs : List ℕ) → IsUtf8 bs → NoCharPasses (λ d. d == c) bs → has c (chars bs) ≡ false
lacks c bs u (cs, e, n) = subst (λ xs. has c xs ≡ false) (chars_from_encodes cs bs u e) (none_has c cs n)

pub around : (c i j : ℕ) (bs front back : List ℕ) → IsScalar c → IsUtf8 front → IsUtf8 back → front ≡ take i bs
    → back ≡ drop j bs → drop i bs ≡ encode_utf8 c ++ drop j bs → chars bs ≡ chars front ++ c ∷ chars back
around c i j bs front back s u v f b e =
    let whole : bs ≡ front ++ (encode_utf8 c ++ back) =
    sym (take-append-drop i bs) ∙ ap (λ x. take i bs ++ x) (e ∙ ap (λ x. encode_utf8 c ++ x) (sym b))
    ∙ ap (λ x. x ++ (encode_utf8 c ++ back)) (sym f) in
    ap chars whole ∙ chars-append front (encode_utf8 c ++ back) u
    ∙ ap (λ x. chars front ++ x) (chars_past_char (encode_utf8 c ++ back) back c
    (IsUtf8-append (encode_utf8 c) back (IsUtf8-encode c s) v) refl)

-- where a quote stands, one is had
pub had : (c : ℕ) (xs ys : List ℕ) → has c (xs ++ c ∷ ys) ≡ true
had c [] ys = rw (eq-eqb c c refl) refl
had c (x ∷ xs) ys = by (x == c) (had c xs ys)
  where
    by : (b : Bool) → has c (xs ++ c ∷ ys) ≡ true → (b || has c (xs ++ c ∷ ys)) ≡ true
    by true h = refl
    by false h = h

apart : (c : ℕ) (xs ys zs : List ℕ) → zs ≡ xs ++ c ∷ ys → has c zs ≡ false → ⊥
apart c xs ys zs e h = false≢true (sym h ∙ ap (has c) e ∙ had c xs ys)

-- a text is split at its first quote in one way
pub first_split : (c : ℕ) (xs ys us vs : List ℕ) → xs ++ c ∷ ys ≡ us ++ c ∷ vs → has c xs ≡ false → has c us ≡ false
    → (xs ≡ us) × (ys ≡ vs)
first_split c [] ys [] vs e h k = let tails : ys ≡ vs = cc in (refl, tails)
first_split c [] ys (u ∷ us) vs e h k =
    let same : u ≡ c = cc in absurd (apart c [] us (u ∷ us) (ap (λ x. x ∷ us) same) k)
first_split c (x ∷ xs) ys [] vs e h k =
    let same : x ≡ c = cc in absurd (apart c [] xs (x ∷ xs) (ap (λ y. y ∷ xs) same) h)
first_split c (x ∷ xs) ys (u ∷ us) vs e h k =
    let same : x ≡ u = cc in
    let tails : xs ++ c ∷ ys ≡ us ++ c ∷ vs = cc in
    let more = first_split c xs ys us vs tails (or_parts (x == c) (has c xs) h).1 (or_parts (u == c) (has c us) k).1 in
    (rw (same, more.0) refl, more.1)

-- and at its last one
pub last_split : (c : ℕ) (xs ys us vs : List ℕ) → xs ++ c ∷ ys ≡ us ++ c ∷ vs → has c ys ≡ false → has c vs ≡ false
    → (xs ≡ us) × (ys ≡ vs)
last_split c [] ys [] vs e h k = let tails : ys ≡ vs = cc in (refl, tails)
last_split c [] ys (u ∷ us) vs e h k =
    let tails : ys ≡ us ++ c ∷ vs = cc in absurd (apart c us vs ys tails h)
last_split c (x ∷ xs) ys [] vs e h k =
    let tails : vs ≡ xs ++ c ∷ ys = cc in absurd (apart c xs ys vs tails k)
last_split c (x ∷ xs) ys (u ∷ us) vs e h k =
    let same : x ≡ u = cc in
    let tails : xs ++ c ∷ ys ≡ us ++ c ∷ vs = cc in
    let more = last_split c xs ys us vs tails h k in
    (rw (same, more.0) refl, more.1)

-- a text has one first quote and one last one
pub one_fenced : (c : ℕ) (text o i l p j m : List ℕ) → IsFenced c text o i l → IsFenced c text p j m
    → (o ≡ p) × (i ≡ j) × (l ≡ m)
one_fenced c text o i l p j m f g =
    let first = first_split c o (i ++ c ∷ l) p (j ++ c ∷ m) (sym f.joined ∙ g.joined) f.first g.first in
    let last = last_split c i l j m first.1 f.last g.last in
    (first.0, last.0, last.1)

-- where a text has two quotes, a search finds them
pub no_first : (c : ℕ) (text o i l : List ℕ) → IsFenced c text o i l → has c text ≡ false → ⊥
no_first c text o i l f h = apart c o (i ++ c ∷ l) text f.joined h

pub no_last : (c : ℕ) (text front rest o i l : List ℕ) → IsFenced c text o i l → text ≡ front ++ c ∷ rest
    → has c front ≡ false → has c rest ≡ false → ⊥
no_last c text front rest o i l f e h k =
    let same = first_split c o (i ++ c ∷ l) front rest (sym f.joined ∙ e) f.first h in
    apart c i l rest (sym same.1) k

pub both : (c : ℕ) (text front rest i l : List ℕ) → text ≡ front ++ c ∷ rest → has c front ≡ false
    → rest ≡ i ++ c ∷ l → has c l ≡ false → IsFenced c text front i l
both c text front rest i l e h f k = record { joined = e ∙ ap (λ x. front ++ c ∷ x) f; first = h; last = k }

-- a text may be cut around a character of ASCII
edges : (c i j : ℕ) (bs : List ℕ) → IsUtf8 bs → c < 128 → HasCharAt c bs i j → IsUtf8 (take i bs) × IsUtf8 (drop j bs)
edges c i j bs u l h =
    let more : length (drop i bs) ≡ length (c ∷ drop j bs) = ap length (drop_at_char c bs i j h l) in
    let within : i < length bs = omega (arith, more, length-drop i bs) in
    let first : get_or bs i 0 < 128 = omega (arith, h.byte l) in (
      IsUtf8-take bs i u (IsCharBoundary-before_ascii bs i within first),
      IsUtf8-drop bs j u (subst (IsCharBoundary bs) (sym h.ends) h.after),
    )

abbrev Parted : ℕ → List ℕ → List ℕ → List ℕ → Type 0
Parted c text front back = text ≡ front ++ c ∷ back

parted : (c i j : ℕ) (bs front back : List ℕ) → IsScalar c → c < 128 → IsUtf8 bs → HasCharAt c bs i j
    → front ≡ take i bs → back ≡ drop j bs → Parted c (chars bs) (chars front) (chars back)
parted c i j bs front back s l u h f b =
    let cuts = edges c i j bs u l h in
    around c i j bs front back s (subst IsUtf8 (sym f) cuts.0) (subst IsUtf8 (sym b) cuts.1) f b h.split

abbrev Splits : (List ℕ → Option (ℕ × ℕ) → Type 0) → List ℕ → List ℕ → List ℕ → Type 0
Splits F bs front back = (i : ℕ) × (j : ℕ) × F bs (Some (i, j)) × (front ≡ take i bs) × (back ≡ drop j bs) × (i ≤ j)
    × (length front ≡ i) × (length back + j ≡ length bs)

pub at_first : (c : ℕ) (bs : List ℕ) (r : Option (Bor (List ℕ) × Bor (List ℕ))) → IsScalar c → c < 128 → IsUtf8 bs
    → MatchOption r (FindsChar c bs None) (λ x. Splits (FindsChar c) bs x.0.now x.1.now)
    → MatchOption r (has c (chars bs) ≡ false)
    (λ x. (chars bs ≡ chars x.0.now ++ c ∷ chars x.1.now) × (has c (chars x.0.now) ≡ false))
at_first c bs None s l u n = lacks c bs u n
at_first c bs (Some x) s l u (i, j, (n, h), f, b, on, front, back) = (
  parted c i j bs x.0.now x.1.now s l u h f b,
  lacks c x.0.now (subst IsUtf8 (sym f) (edges c i j bs u l h).0) (subst (NoCharPasses (λ d. d == c)) (sym f) n),
)

pub at_last : (c : ℕ) (bs : List ℕ) (r : Option (Bor (List ℕ) × Bor (List ℕ))) → IsScalar c → c < 128 → IsUtf8 bs
    → MatchOption r (RFindsChar c bs None) (λ x. Splits (RFindsChar c) bs x.0.now x.1.now)
    → MatchOption r (has c (chars bs) ≡ false)
    (λ x. (chars bs ≡ chars x.0.now ++ c ∷ chars x.1.now) × (has c (chars x.1.now) ≡ false))
at_last c bs None s l u n = lacks c bs u n
at_last c bs (Some x) s l u (i, j, (n, h), f, b, on, front, back) = (
  parted c i j bs x.0.now x.1.now s l u h f b,
  lacks c x.1.now (subst IsUtf8 (sym b) (edges c i j bs u l h).1) (subst (NoCharPasses (λ d. d == c)) (sym b) n),
)
