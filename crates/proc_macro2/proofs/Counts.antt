-- The line and the column, one character on.
use Rattle.std.proofs.Common.{◌≡◌, ℕ, zero, suc, ◌+◌, ◌≤◌, ◌<◌, arith, List, [], ◌∷◌, ◌++◌, refl, sym, ap, ap₂, ◌∙◌}
use Rattle.std.proofs.Common.{length, take, drop, add-one, length-drop, ⊎_elim}
use Rattle.std.proofs.lemmas.Bool.{cases_lt, ne_eqb, eq-eqb}
use Rattle.std.specs.Prelude.{Bool, true, false, cond, ◌==◌, not, count_by, reverse}
use Rattle.std.specs.List.{take_while, prefix_len}
use Rattle.std.specs.Str.{chars, IsUtf8}
use Rattle.std.proofs.lemmas.List.{reverse-append}
use Rattle.std.proofs.lemmas.List.Sums.{sum_by_push}
use Rattle.rust_map.specs.Places.{is_line_feed, place_behind, place_of}
use Rattle.rust_map.specs.declared.place.LineColumn.{LineColumn}
use Rattle.rust_lex.specs.Places.{rest_at, IsPlace, IsBehind}
use Rattle.rust_lex.proofs.PlacesLemmas.{first_place, rest_end}

abbrev pub line_column : ℕ → ℕ → LineColumn
line_column line column = record { line = line; column = column }

-- the line and the column behind so many characters, and where the next one begins
pub record Counts (bytes : List ℕ) (passed at line column : ℕ) : Type 0 where
  pub there : place_of (chars bytes) passed ≡ line_column line column
  pub rest : drop passed (chars bytes) ≡ rest_at bytes at
  pub place : IsPlace bytes at
  pub few_lines : line ≤ passed + 1
  pub few_columns : column ≤ passed

count_more : (front : List ℕ) (c : ℕ)
    → count_by is_line_feed (front ++ c ∷ []) ≡ count_by is_line_feed front + cond (c == 10) 1 0
count_more front c = sum_by_push (λ d. cond (is_line_feed d) 1 0) front c

column_more : (front : List ℕ) (c : ℕ)
    → length (take_while (λ d. not (is_line_feed d)) (reverse (front ++ c ∷ [])))
    ≡ cond (c == 10) 0 (length (take_while (λ d. not (is_line_feed d)) (reverse front)) + 1)
column_more front c = rw (reverse-append front (c ∷ [])) (here (c == 10))
  where
    here : (b : Bool) → length
        (take (cond (not b) (1 + prefix_len (λ d. not (is_line_feed d)) (reverse front)) 0) (c ∷ reverse front))
        ≡ cond b 0 (length (take_while (λ d. not (is_line_feed d)) (reverse front)) + 1)
    here true = refl
    here false =
        let n = prefix_len (λ d. not (is_line_feed d)) (reverse front) in
        let e : 1 + n ≡ suc n = omega arith in
        ap (λ m. length (take m (c ∷ reverse front))) e ∙ sym (add-one (length (take n (reverse front))))

place_more : (front : List ℕ) (c : ℕ)
    → place_behind (front ++ c ∷ [])
    ≡ cond (c == 10) (line_column ((place_behind front).line + 1) 0)
    (line_column (place_behind front).line ((place_behind front).column + 1))
place_more front c =
    ap₂ line_column (ap (λ n. 1 + n) (count_more front c)) (column_more front c) ∙ here (c == 10)
  where
    here : (b : Bool) → line_column (1 + (count_by is_line_feed front + cond b 1 0))
        (cond b 0 ((place_behind front).column + 1))
        ≡ cond b (line_column ((place_behind front).line + 1) 0)
        (line_column (place_behind front).line ((place_behind front).column + 1))
    here true = ap (λ n. line_column n 0) (omega arith)
    here false = ap (λ n. line_column n ((place_behind front).column + 1)) (omega arith)

pub counts_none : (bytes : List ℕ) → IsUtf8 bytes → Counts bytes 0 0 1 0
counts_none bytes u = record
    { there = refl; rest = refl; place = first_place bytes u; few_lines = omega arith; few_columns = omega arith }

-- one character more at the front
pub record IsNext (cs rest : List ℕ) (n c : ℕ) : Type 0 where
  pub front : take n cs ++ c ∷ [] ≡ take (n + 1) cs
  pub behind : drop (n + 1) cs ≡ rest

next_suc : (n : ℕ) (cs rest : List ℕ) (c : ℕ) → drop n cs ≡ c ∷ rest
    → (take n cs ++ c ∷ [] ≡ take (suc n) cs) × (drop (suc n) cs ≡ rest)
next_suc zero [] rest c e = cc
next_suc zero (d ∷ cs) rest c e = let same : d ≡ c = cc in let more : cs ≡ rest =
    cc in (ap (λ x. x ∷ []) (sym same), more)
next_suc (suc n) [] rest c e = cc
next_suc (suc n) (d ∷ cs) rest c e = let (f, b) = next_suc n cs rest c e in (ap (λ x. d ∷ x) f, b)

pub next_of : (n : ℕ) (cs rest : List ℕ) (c : ℕ) → drop n cs ≡ c ∷ rest → IsNext cs rest n c
next_of n cs rest c e =
    let (f, b) = next_suc n cs rest c e in
    record { front = f ∙ ap (λ m. take m cs) (sym (add-one n)); behind = ap (λ m. drop m cs) (add-one n) ∙ b }

abbrev counted : Bool → ℕ → ℕ → LineColumn
counted b line column = cond b (line_column (line + 1) 0) (line_column line (column + 1))

counts_on : (bytes : List ℕ) (n at next c line column : ℕ) → Counts bytes n at line column
    → rest_at bytes at ≡ c ∷ rest_at bytes next
    → (place_of (chars bytes) (n + 1) ≡ counted (c == 10) line column)
    × (drop (n + 1) (chars bytes) ≡ rest_at bytes next)
counts_on bytes n at next c line column k e =
    let on = next_of n (chars bytes) (rest_at bytes next) c (k.rest ∙ e) in (
      ap place_behind (sym on.front) ∙ place_more (take n (chars bytes)) c
          ∙ ap (λ p. counted (c == 10) p.line p.column) k.there,
      on.behind,
    )

pub counts_feed : (bytes : List ℕ) (n at next c line column : ℕ) → Counts bytes n at line column
    → rest_at bytes at ≡ c ∷ rest_at bytes next → IsBehind bytes at next → c ≡ 10
    → Counts bytes (n + 1) next (line + 1) 0
counts_feed bytes n at next c line column k e b h =
    let (there, rest) = counts_on bytes n at next c line column k e in
    record {
      there = there ∙ ap (λ t. counted t line column) (eq-eqb c 10 h);
      rest = rest;
      place = b.place;
      few_lines = (let f = k.few_lines in omega arith);
      few_columns = omega arith;
    }

pub counts_other : (bytes : List ℕ) (n at next c line column : ℕ) → Counts bytes n at line column
    → rest_at bytes at ≡ c ∷ rest_at bytes next → IsBehind bytes at next → (c ≡ 10 → ⊥)
    → Counts bytes (n + 1) next line (column + 1)
counts_other bytes n at next c line column k e b h =
    let (there, rest) = counts_on bytes n at next c line column k e in
    record {
      there = there ∙ ap (λ t. counted t line column) (ne_eqb c 10 h);
      rest = rest;
      place = b.place;
      few_lines = (let f = k.few_lines in omega arith);
      few_columns = (let f = k.few_columns in omega arith);
    }

-- where characters are left, bytes are
pub more_here : (bytes : List ℕ) (n at line column : ℕ) → Counts bytes n at line column → n < length (chars bytes)
    → at < length bytes
more_here bytes n at line column k h =
    let e : length (drop n (chars bytes)) ≡ length (rest_at bytes at) = ap length k.rest in
    ⊎_elim
    (λ l. l)
    (λ l. absurd (let z : length (rest_at bytes at)
    ≡ 0 = ap length (rest_end bytes at l) in omega (arith, length-drop n (chars bytes))))
    (cases_lt at (length bytes))
