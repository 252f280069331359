-- Lines and columns.
use Rattle.std.proofs.Common.{◌≡◌, ℕ, zero, suc, ◌+◌, ◌-◌, ◌≤◌, ◌<◌, arith, List, [], ◌∷◌, ◌++◌, refl, sym, ap, ◌∙◌}
use Rattle.std.proofs.Common.{length, take, get_or, append_assoc, inl, inr, true, false}
use Rattle.std.specs.Prelude.{if◌then◌else◌, nat_le, count_by, reverse, not, cond}
use Rattle.std.specs.List.{take_while}
use Rattle.std.proofs.lemmas.List.{reverse-append}
use Rattle.std.proofs.lemmas.List.Sums.{take_while-cons, sum_by_push}
use Rattle.std.proofs.lemmas.List.{append-nil}
use Rattle.std.proofs.lemmas.Bool.{ne_eqb, cases_eq, cases_lt, lt-leb, le-leb}
use Rattle.std.proofs.lemmas.List.{get_or_default}
use Rattle.std.specs.List.Sorted.{IsNonDecreasingBy, IsPartitionPoint}
use Rattle.rust_map.specs.declared.place.LineColumn.{LineColumn}
use Rattle.rust_map.specs.Places.{is_line_feed, place_behind, place_of}
use Rattle.rust_map.specs.Tables.{line_starts_from, line_starts_of}

pub starts_nil : (count : ℕ) → line_starts_from count [] ≡ []
unfolding line_starts_from
starts_nil count = refl

pub starts_one : (count c : ℕ) (rest next_rest : List ℕ) → rest ≡ c ∷ next_rest → c ≡ 10 → line_starts_from count rest
    ≡ (count + 1) ∷ line_starts_from (count + 1) next_rest
unfolding line_starts_from
starts_one count c rest next_rest e h = rw (e, h) refl

pub starts_none : (count c : ℕ) (rest next_rest : List ℕ) → rest ≡ c ∷ next_rest → (c ≡ 10 → ⊥)
    → line_starts_from count rest ≡ line_starts_from (count + 1) next_rest
unfolding line_starts_from
starts_none count c rest next_rest e h = rw (e, ne_eqb c 10 h) refl

-- one character on
pub place_on : LineColumn → ℕ → LineColumn
place_on place c = if is_line_feed c then (record { line = place.line + 1; column = 0 }) else
    (record { line = place.line; column = place.column + 1 })

abbrev place_made : ℕ → ℕ → LineColumn
place_made l k = record { line = l; column = k }

same_parts : (l m j k : ℕ) → l ≡ m → j ≡ k → place_made l j ≡ place_made m k
same_parts l m j k e f = rw (e, f) refl

lines_one : (front : List ℕ) (c : ℕ) → count_by is_line_feed (front ++ c ∷ [])
    ≡ count_by is_line_feed front + cond (is_line_feed c) 1 0
lines_one front c = sum_by_push (λ d. cond (is_line_feed d) 1 0) front c

column_one : (front : List ℕ) (c : ℕ) → take_while (λ d. not (is_line_feed d)) (reverse (front ++ c ∷ []))
    ≡ cond (not (is_line_feed c)) (c ∷ take_while (λ d. not (is_line_feed d)) (reverse front)) []
column_one front c = ap (λ l. take_while (λ d. not (is_line_feed d)) l) (reverse-append front (c ∷ [])) ∙
    take_while-cons (λ d. not (is_line_feed d)) c (reverse front)

place_of_parts : (l m : ℕ) (xs ys : List ℕ) → l ≡ m → xs ≡ ys → let p : LineColumn =
    record { line = l; column = length xs } in let q : LineColumn = record { line = m; column = length ys } in p ≡ q
place_of_parts l m xs ys e f = rw (e, f) refl

pub place_behind_one : (front : List ℕ) (c : ℕ) → place_behind (front ++ c ∷ []) ≡ place_on (place_behind front) c
unfolding place_on
place_behind_one front c =
    place_of_parts _ _ _ _ (ap (λ n. 1 + n) (lines_one front c)) (column_one front c) ∙
    elim (is_line_feed c) as (λ b. place_made (1 + (count_by is_line_feed front + cond b 1 0))
    (length (cond (not b) (c ∷ take_while (λ d. not (is_line_feed d)) (reverse front)) []))
    ≡ (if b then place_made (1 + count_by is_line_feed front + 1) 0 else place_made
    (1 + count_by is_line_feed front) (length (take_while (λ d. not (is_line_feed d)) (reverse front)) + 1))) [
      | true ↦ same_parts _ _ _ _ (omega arith) refl
      | false ↦ same_parts _ _ _ _ (omega arith) (omega arith)
    ]

pub places_on : LineColumn → List ℕ → LineColumn
places_on place [] = place
places_on place (c ∷ cs) = places_on (place_on place c) cs

pub places_plain : (place : LineColumn) (c : ℕ) (cs : List ℕ) → (c ≡ 10 → ⊥) → places_on place (c ∷ cs)
    ≡ places_on (place_made place.line (place.column + 1)) cs
unfolding places_on place_on
places_plain place c cs n = rw (ne_eqb c 10 n) refl

pub place_behind_more : (more front : List ℕ) → place_behind (front ++ more) ≡ places_on (place_behind front) more
unfolding places_on
place_behind_more [] front = ap place_behind (append-nil front)
place_behind_more (c ∷ cs) front =
    ap place_behind (sym (append_assoc front (c ∷ []) cs)) ∙
    (place_behind_more cs (front ++ c ∷ []) ∙ ap (λ p. places_on p cs) (place_behind_one front c))

-- the place of the k-th character, by the starts of the lines that follow
pub look : ℕ → ℕ → List ℕ → ℕ → LineColumn
look line from [] k = record { line = line; column = k - from }
look line from (s ∷ ss) k = if nat_le s k then look (line + 1) s ss k else record { line = line; column = k - from }

-- no line begins up to here
pub look_low : (text : List ℕ) (count line from k : ℕ) → k ≤ count → look line from (line_starts_from count text) k
    ≡ record { line = line; column = k - from }
unfolding look line_starts_from
look_low [] count line from k h = refl
look_low (c ∷ cs) count line from k h =
    elim (cases_eq c 10) [
      | inl e ↦ let f : nat_le (count + 1) k ≡ false = lt-leb _ _ (omega arith) in rw (e, f) refl
      | inr n ↦ rw (ne_eqb c 10 n) (look_low cs (count + 1) line from k (omega arith))
    ]

pub look_is : (text : List ℕ) (count line from k : ℕ) → from ≤ count → count ≤ k → k ≤ count + length text
    → look line from (line_starts_from count text) k
    ≡ places_on (record { line = line; column = count - from }) (take (k - count) text)
unfolding look line_starts_from places_on place_on
look_is [] count line from k low mid high =
    let z : k - count ≡ 0 = omega arith in
    rw z (same_parts _ _ _ _ refl (omega arith))
look_is (c ∷ cs) count line from k low mid high =
    elim (cases_lt count k) [
      | inl more ↦
          let m : k - count ≡ suc (k - (count + 1)) = omega arith in
          elim (cases_eq c 10) [
            | inl e ↦
                let f : nat_le (count + 1) k ≡ true = le-leb _ _ (omega arith) in
                let z : count + 1 - (count + 1) ≡ 0 = omega arith in
                let rest = look_is cs (count + 1) (line + 1) (count + 1) k (omega arith) (omega arith) (omega arith) in
                rw (m, e, f) (rw z at rest)
            | inr n ↦
                let z : count - from + 1 ≡ count + 1 - from = omega arith in
                let plain = places_plain (place_made line (count - from)) c (take (k - (count + 1)) cs) n ∙ ap
                (λ j. places_on (place_made line j) (take (k - (count + 1)) cs)) z in
                rw (m, plain, ne_eqb c 10 n)
                (look_is cs (count + 1) line from k (omega arith) (omega arith) (omega arith))
          ]
      | inr none ↦
          let e : k ≡ count = omega arith in
          let z : k - count ≡ 0 = omega arith in
          rw (z, look_low (c ∷ cs) count line from k (omega arith)) (rw e refl)
    ]

-- the place after the first k characters, by the table of lines
pub look_place : (text : List ℕ) (k : ℕ) → k ≤ length text → look 1 0 (line_starts_from 0 text) k ≡ place_of text k
look_place text k h =
    let z : k - 0 ≡ k = omega arith in
    let found = look_is text 0 1 0 k (omega arith) (omega arith) (omega arith) in
    rw z at found ∙ sym (place_behind_more (take k text) [])

-- the look-up at the place where the starts go past k
pub look_at : (starts : List ℕ) (i line from k : ℕ) → i ≤ length starts → ((j : ℕ) → j < i → get_or starts j 0 ≤ k)
    → ((j : ℕ) → i ≤ j → j < length starts → k < get_or starts j 0) → look line from starts k
    ≡ place_made (line + i) (k - get_or (from ∷ starts) i 0)
unfolding look
look_at [] zero line from k within low high = same_parts _ _ _ _ (omega arith) refl
look_at [] (suc i) line from k within low high = absurd (omega arith)
look_at (s ∷ ss) zero line from k within low high =
    let f : nat_le s k ≡ false = lt-leb _ _ (high 0 (omega arith) (omega arith)) in
    rw f (same_parts _ _ _ _ (omega arith) refl)
look_at (s ∷ ss) (suc i) line from k within low high =
    let f : nat_le s k ≡ true = le-leb _ _ (low 0 (omega arith)) in
    let rest = look_at ss i (line + 1) s k (omega arith) (λ j l. low (suc j) (omega arith))
    (λ j l m. high (suc j) (omega arith) (omega arith)) in
    rw f (rest ∙ same_parts _ _ _ _ (omega arith) refl)

-- the starts of lines lie behind the characters before them
pub starts_behind : (text : List ℕ) (count j d : ℕ) → j < length (line_starts_from count text)
    → count < get_or (line_starts_from count text) j d
unfolding line_starts_from
starts_behind [] count j d h = absurd (omega arith)
starts_behind (c ∷ cs) count zero d h =
    elim (is_line_feed c) as (λ b. zero < length
    (if b then (count + 1) ∷ line_starts_from (count + 1) cs else line_starts_from (count + 1) cs)
    → count < get_or (if b then (count + 1) ∷ line_starts_from (count + 1) cs else line_starts_from (count + 1) cs)
    zero d) [
      | true ↦ λ l. omega arith
      | false ↦ λ l. let more = starts_behind cs (count + 1) zero d l in omega arith
    ] h
starts_behind (c ∷ cs) count (suc j) d h =
    elim (is_line_feed c) as (λ b. suc j < length
    (if b then (count + 1) ∷ line_starts_from (count + 1) cs else line_starts_from (count + 1) cs)
    → count < get_or (if b then (count + 1) ∷ line_starts_from (count + 1) cs else line_starts_from (count + 1) cs)
    (suc j) d) [
      | true ↦ λ l. let more = starts_behind cs (count + 1) j d (omega arith) in omega arith
      | false ↦ λ l. let more = starts_behind cs (count + 1) (suc j) d l in omega arith
    ] h

-- the starts of lines ascend
pub starts_ascend : (text : List ℕ) (count i j d : ℕ) → i ≤ j → j < length (line_starts_from count text)
    → get_or (line_starts_from count text) i d ≤ get_or (line_starts_from count text) j d
unfolding line_starts_from
starts_ascend [] count i j d h = λ l. absurd (omega arith)
starts_ascend (c ∷ cs) count zero zero d h = λ l. omega arith
starts_ascend (c ∷ cs) count (suc i) zero d h = λ l. absurd (omega arith)
starts_ascend (c ∷ cs) count zero (suc j) d h =
    elim (is_line_feed c) as (λ b. suc j < length
    (if b then (count + 1) ∷ line_starts_from (count + 1) cs else line_starts_from (count + 1) cs)
    → get_or (if b then (count + 1) ∷ line_starts_from (count + 1) cs else line_starts_from (count + 1) cs) zero d ≤
    get_or (if b then (count + 1) ∷ line_starts_from (count + 1) cs else line_starts_from (count + 1) cs) (suc j) d) [
      | true ↦ λ l. let more = starts_behind cs (count + 1) j d (omega arith) in omega arith
      | false ↦ λ l. starts_ascend cs (count + 1) zero (suc j) d h l
    ]
starts_ascend (c ∷ cs) count (suc i) (suc j) d h =
    elim (is_line_feed c) as (λ b. suc j < length
    (if b then (count + 1) ∷ line_starts_from (count + 1) cs else line_starts_from (count + 1) cs)
    → get_or (if b then (count + 1) ∷ line_starts_from (count + 1) cs else line_starts_from (count + 1) cs) (suc i)
    d ≤ get_or (if b then (count + 1) ∷ line_starts_from (count + 1) cs else line_starts_from (count + 1) cs)
    (suc j) d) [
      | true ↦ λ l. starts_ascend cs (count + 1) i j d (omega arith) (omega arith)
      | false ↦ λ l. starts_ascend cs (count + 1) (suc i) (suc j) d h l
    ]

-- the table of lines of a text ascends
ascend : (text : List ℕ) (i j d : ℕ) → i ≤ j → j < length (line_starts_of text)
    → get_or (line_starts_of text) i d ≤ get_or (line_starts_of text) j d
ascend text zero j d h l = omega arith
ascend text (suc i) zero d h l = absurd (omega arith)
ascend text (suc i) (suc j) d h l = starts_ascend text 0 i j d (omega arith) (omega arith)

pub ascend_table : (text starts : List ℕ) → starts ≡ line_starts_of text → IsNonDecreasingBy (λ s. s) starts
ascend_table text starts e = rw e (λ i j d h l. ascend text i j d h l)

-- what the look-up of the k-th character reads, where i lines begin up to it, the last at this start
pub record IsLookedUp (text : List ℕ) (k i start : ℕ) : Type 0 where
  pub behind : start ≤ k
  pub place : place_made i (k - start) ≡ place_of text k

-- a line begins up to each character
pub some_line : (text starts : List ℕ) (k i : ℕ) → starts ≡ line_starts_of text
    → IsPartitionPoint (λ s. s ≤ k) (λ s. k < s) starts i → 0 < i
some_line text starts k zero table point =
    let first = rw table at (point.1 0 0 (omega arith)) in
    let over : k < 0 = first (omega arith) in
    absurd (omega arith)
some_line text starts k (suc i) table point = omega arith

pub place_by_table : (text starts : List ℕ) (k i start : ℕ) → starts ≡ line_starts_of text → k ≤ length text
    → i ≤ length starts → IsPartitionPoint (λ s. s ≤ k) (λ s. k < s) starts i → start ≡ get_or starts (i - 1) start
    → IsLookedUp text k i start
unfolding look
place_by_table text starts k zero start table there within point found =
    absurd (omega (arith, some_line text starts k zero table point))
place_by_table text starts k (suc i) start table there within point found =
    let read : start ≡ get_or starts i start = (let z : suc i - 1 ≡ i = omega arith in rw z at found) in
    let default = get_or_default starts i start 0 (omega arith) in
    let at = look_at starts (suc i) 0 0 k within (λ j l. point.0 j 0 (omega arith) l) (λ j l m. point.1 j 0 l m) in
    let f : nat_le 0 k ≡ true = le-leb _ _ (omega arith) in
    let opened : look 0 0 (line_starts_of text) k ≡ look 1 0 (line_starts_from 0 text) k = rw f refl in
    let is : look 0 0 starts k ≡ place_of text k = ap (λ t. look 0 0 t k) table ∙ (opened ∙ look_place text k there) in
    let low : get_or starts i 0 ≤ k = point.0 i 0 (omega arith) (omega arith) in
    record {
      behind = omega arith;
      place = same_parts _ _ _ _ (omega arith) (ap (λ s. k - s) (read ∙ default)) ∙ (sym at ∙ is);
    }
