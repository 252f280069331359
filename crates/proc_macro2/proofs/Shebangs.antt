-- The shebang in front of a text.
use Rattle.std.proofs.Common.{◌≡◌, ℕ, ◌+◌, ◌-◌, arith, List, [], ◌∷◌, ◌++◌, length, length-append}
use Rattle.std.proofs.Common.{refl, sym, ap, ◌∙◌, subst, ⊎_elim, inl, inr, take, drop}
use Rattle.std.specs.Prelude.{Bool, true, false, ◌&&◌, ◌==◌, ◌⊎◌}
use Rattle.std.specs.Str.{chars, IsUtf8}
use Rattle.std.proofs.lemmas.Bool.{and_from, and_parts, cases_Bool, eqb-true, not-false}
use Rattle.std.proofs.Math.Nat.{eq-or-lt_of_le}
use Rattle.std.proofs.lemmas.List.{append_cancel_right}
use Rattle.rust_lex.specs.Chars.{begins, is_not_feed, is_white, passes, past}
use Rattle.rust_lex.specs.FileCover.{is_front_mark}
use Rattle.rust_lex.specs.Shebang.{begins_command, begins_shebang, is_gap}
use Rattle.rust_lex.proofs.Ends.{passed}
use Rattle.rust_lex.proofs.FileCovers.{one_front, shebang_begins}
use Rattle.rust_lex.proofs.Pieces.{between_joined}
use Rattle.rust_lex.specs.Ended.{IsFrom}
use Rattle.rust_lex.specs.Places.{IsPlace, between_places, rest_at}
use Rattle.proc_macro2.specs.FileForest.{HasShebang, NoShebang, behind_mark}

-- no command begins at the end of a line
no_gap : (white same_line : Bool) → same_line ≡ false → (white && same_line) ≡ false
no_gap true same_line e = e
no_gap false same_line e = refl

no_command : (rest : List ℕ) → begins is_not_feed rest ≡ false → begins_command (past is_gap rest) ≡ false
no_command [] e = refl
no_command (c ∷ cs) e =
    let gap : is_gap c ≡ false = no_gap (is_white c) (is_not_feed c) e in
    rw gap (rw e refl)

-- what begins a command before a rest begins one alone, where a line ends between them
command_alone : (cs rest : List ℕ) → begins is_not_feed rest ≡ false → begins_command (past is_gap (cs ++ rest)) ≡ true
    → begins_command (past is_gap cs) ≡ true
command_alone [] rest e h = (let none = no_command rest e in cc)
command_alone (c ∷ cs) rest e h =
    ⊎_elim
    (λ y. let more : begins_command (past is_gap (cs ++ rest)) ≡ true = rw y at h in
    rw y (command_alone cs rest e more))
    (λ n. let begun : begins_command (c ∷ (cs ++ rest)) ≡ true = rw n at h in rw n (alone c cs rest e begun))
    (cases_Bool (is_gap c))
  where
    alone : (c : ℕ) (cs rest : List ℕ) → begins is_not_feed rest ≡ false → begins_command (c ∷ (cs ++ rest)) ≡ true
        → begins_command (c ∷ cs) ≡ true
    alone c [] [] e h = h
    alone c [] (d ∷ rest) e h =
        subst (λ d. begins_command (c ∷ d ∷ rest) ≡ true) (eqb-true d 10 (not-false (d == 10) e)) h
    alone c (d ∷ cs) rest e h = h

-- and so does a shebang
shebang_alone : (line rest : List ℕ) → begins is_not_feed rest ≡ false → begins_shebang (line ++ rest) ≡ true
    → begins_shebang line ≡ true
shebang_alone [] [] e h = h
shebang_alone [] (a ∷ []) e h = h
shebang_alone [] (a ∷ b ∷ cs) e h =
    let (marks, command) = and_parts (a == 35 && b == 33) (begins_command (past is_gap cs)) h in
    let hash = eqb-true a 35 (and_parts (a == 35) (b == 33) marks).0 in
    let feed : true ≡ false = ap is_not_feed (sym hash) ∙ e in
    cc
shebang_alone (a ∷ []) [] e h = h
shebang_alone (a ∷ []) (b ∷ cs) e h =
    let (marks, command) = and_parts (a == 35 && b == 33) (begins_command (past is_gap cs)) h in
    let bang = eqb-true b 33 (and_parts (a == 35) (b == 33) marks).1 in
    let feed : true ≡ false = ap is_not_feed (sym bang) ∙ e in
    cc
shebang_alone (a ∷ b ∷ cs) rest e h =
    let (marks, command) = and_parts (a == 35 && b == 33) (begins_command (past is_gap (cs ++ rest))) h in
    and_from _ _ marks (command_alone cs rest e command)

-- a text is its byte order mark, or nothing, and what is behind it
pub record Marked (text : List ℕ) : Type 0 where
  pub mark : List ℕ
  pub joined : text ≡ mark ++ behind_mark text
  pub marked : (mark ≡ 65279 ∷ []) ⊎ (mark ≡ []) × (begins is_front_mark text ≡ false)

pub marked_of : (text : List ℕ) → Marked text
marked_of [] = record { mark = []; joined = refl; marked = inr (refl, refl) }
marked_of (c ∷ cs) =
    ⊎_elim
    (λ y. record { mark = 65279 ∷ []; joined = rw (y, eqb-true c 65279 y) refl; marked = inl refl })
    (λ n. record { mark = []; joined = rw n refl; marked = inr (refl, n) })
    (cases_Bool (is_front_mark c))

-- a shebang that stands behind the mark of a text is the text's
pub has_shebang : (text line rest : List ℕ) (count : ℕ) → begins_shebang (behind_mark text) ≡ true
    → behind_mark text ≡ line ++ rest → rest ≡ past is_not_feed (behind_mark text)
    → length text ≡ count + length rest
    → HasShebang text line rest count
has_shebang text line rest count begun joined past_line lengths =
    let m = marked_of text in
    let p = passed is_not_feed (behind_mark text) in
    let front : p.front ≡ line =
    append_cancel_right p.front line rest (ap (λ r. p.front ++ r) past_line ∙ sym p.joined ∙ joined) in
    let stops : begins is_not_feed rest ≡ false = ap (begins is_not_feed) past_line ∙ p.stops in
    let alone : begins_shebang line ≡ true =
    shebang_alone line rest stops (ap begins_shebang (sym joined) ∙ begun) in
    let whole : text ≡ m.mark ++ (line ++ rest) = m.joined ∙ ap (λ r. m.mark ++ r) joined in
    record {
      mark = m.mark;
      front = record {
        joined = whole;
        marked = m.marked;
        lined = inl (alone, ap (passes is_not_feed) (sym front) ∙ p.pass, stops);
      };
      is_some = λ none. (let begun : begins_shebang [] ≡ true = ap begins_shebang (sym none) ∙ alone in cc);
      counted =
          let all : length text ≡ length (m.mark ++ (line ++ rest)) = ap length whole in
          omega (
            arith,
            lengths,
            all,
            length-append m.mark (line ++ rest),
            length-append line rest,
            length-append m.mark line,
          );
    }

-- a text with a shebang begins with one
pub shebang_there : (text line rest : List ℕ) (count : ℕ) → HasShebang text line rest count → NoShebang text → ⊥
shebang_there text line rest count h none =
    let m = marked_of text in
    ⊎_elim
    (λ s. (let begun : begins_shebang (behind_mark text) ≡ true =
    ap begins_shebang (behind text h.mark (line ++ rest) h.front.joined h.front.marked) ∙ shebang_begins line rest s in
    cc))
    (λ n. h.is_some n.0)
    h.front.lined
  where
    behind : (text mark rest : List ℕ) → text ≡ mark ++ rest
        → (mark ≡ 65279 ∷ []) ⊎ (mark ≡ []) × (begins is_front_mark text ≡ false) → behind_mark text ≡ rest
    behind text mark rest e h = ⊎_elim
        (λ y. ap behind_mark (e ∙ ap (λ m. m ++ rest) y))
        (λ n. unmarked text n.1 ∙ e ∙ ap (λ m. m ++ rest) n.0)
        h
      where
        unmarked : (text : List ℕ) → begins is_front_mark text ≡ false → behind_mark text ≡ text
        unmarked [] n = refl
        unmarked (c ∷ cs) n = rw n refl

-- a text has one shebang
pub one_shebang : (text line other rest rests : List ℕ) (count counts : ℕ) → HasShebang text line rest count
    → HasShebang text other rests counts → (line ≡ other) × (rest ≡ rests) × (count ≡ counts)
one_shebang text line other rest rests count counts h k =
    let (marks, lines, same) = one_front text h.mark line rest k.mark other rests h.front k.front in
    (lines, same, h.counted ∙ ap length (ap (λ m. m ++ line) marks ∙ ap (λ l. k.mark ++ l) lines) ∙ sym k.counted)

-- as many characters as a text has stand before what is behind its shebang, and there
pub shebang_length : (text line rest : List ℕ) (count : ℕ) → HasShebang text line rest count
    → length text ≡ count + length rest
shebang_length text line rest count h =
    let all : length text ≡ length (h.mark ++ (line ++ rest)) = ap length h.front.joined in
    let counted = h.counted in
    omega (arith, length-append h.mark (line ++ rest), length-append line rest, length-append h.mark line)

-- the characters between a place and one that is no earlier, and then the rest
from_joined : (bytes : List ℕ) (at end : ℕ) → IsPlace bytes at → IsFrom bytes at end → rest_at bytes at
    ≡ between_places bytes at end ++ rest_at bytes end
unfolding chars
from_joined bytes at end p f =
    ⊎_elim
    (λ same.
    let none : end - at ≡ 0 = omega arith in
    ap (rest_at bytes) same ∙ ap (λ n. chars (take n (drop at bytes)) ++ rest_at bytes end) (sym none))
    (λ less. between_joined bytes at end p (record { place = f.place; on = less }))
    (eq-or-lt_of_le f.on)

-- the shebang that is found in the bytes of a text
pub script_found : (bytes shebang rest front : List ℕ) (start end count : ℕ) → IsUtf8 bytes → IsPlace bytes start
    → rest_at bytes start ≡ behind_mark (chars bytes) → begins_shebang (rest_at bytes start) ≡ true
    → rest_at bytes end ≡ past is_not_feed (rest_at bytes start) → IsFrom bytes start end
    → shebang ≡ take (end - start) (drop start bytes) → rest ≡ drop end bytes → front ≡ take (end - 0) (drop 0 bytes)
    → count ≡ length (chars front)
    → HasShebang (chars bytes) (chars shebang) (chars rest) count
script_found bytes shebang rest front start end count u p behind begun past_line f line_is rest_is front_is count_is =
    let here : IsPlace bytes 0 = record { within = omega arith; cut = u } in
    let before = from_joined bytes 0 end here (record { place = f.place; on = omega arith }) in
    let lengths : length (chars bytes) ≡ length (between_places bytes 0 end ++ rest_at bytes end) = ap length before in
    let counted : count ≡ length (between_places bytes 0 end) = count_is ∙ ap (λ x. length (chars x)) front_is in
    let rest_at_end : chars rest ≡ rest_at bytes end = ap chars rest_is in
    has_shebang (chars bytes) (chars shebang) (chars rest) count (ap begins_shebang (sym behind) ∙ begun)
    (sym behind ∙ from_joined bytes start end p f ∙ ap (λ x. chars x ++ rest_at bytes end) (sym line_is)
    ∙ ap (λ x. chars shebang ++ chars x) (sym rest_is))
    (rest_at_end ∙ past_line ∙ ap (past is_not_feed) behind)
    (let same = ap length rest_at_end in
    omega (arith, length-append (between_places bytes 0 end) (rest_at bytes end)))
