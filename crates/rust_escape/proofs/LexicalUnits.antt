-- To the lexer too, a unit that stands at the front of a text is found, and what is found is one.
use Rattle.std.proofs.Common.{◌≡◌, ℕ, List, [], ◌∷◌, ◌++◌, refl, sym, ap, ◌∙◌, subst, ⊎_elim}
use Rattle.std.specs.Prelude.{Bool, true, false, ◌||◌, ◌&&◌, ◌==◌, if◌then◌else◌, Option, Some, None, not}
use Rattle.std.proofs.lemmas.Bool.{and_parts, and_from, and_left, and_right, cases_Bool, or_cases, or_left}
use Rattle.std.proofs.lemmas.Bool.{or_right, or_from, eqb-true, cond-true, cond-false, false≢true, not-true}
use Rattle.std.proofs.lemmas.Bool.{not_from_false}
use Rattle.rust_escape.specs.Chars.{begins, passes, is_blank, is_line_feed}
use Rattle.rust_escape.specs.Escape.{IsEscape, simple, byte, unicode}
use Rattle.rust_escape.specs.Mode.{Mode, Char, Byte, Str, RawStr, ByteStr, RawByteStr, CStr, RawCStr}
use Rattle.rust_escape.specs.Mode.{in_double_quotes, is_raw}
use Rattle.rust_escape.specs.Scan.{Scanned, Malformed, Reads}
use Rattle.rust_escape.specs.Scan as scan
use Rattle.rust_escape.specs.LexicalScan.{past_lines, skipped, begins_line_end, lexical_slash, lexical_scan}
use Rattle.rust_escape.specs.Unit.{Rule, Lexical, IsUnit, plain, escape, skip, return, is_plain, is_skipped}
use Rattle.rust_escape.specs.Unit.{are_returns_paired, return_value, NoUnit}
use Rattle.rust_escape.specs.Value.{Value, Character}
use Rattle.rust_escape.proofs.Complete.{apart, escape_read, simple_apart}
use Rattle.rust_escape.proofs.Sound.{chosen, passed_test, escape_found}

begins_on : (p : ℕ → Bool) (cs rest : List ℕ) → begins p cs ≡ true → begins p (cs ++ rest) ≡ true
begins_on p [] rest h = cc
begins_on p (c ∷ cs) rest h = h

line_end_on : (cs rest : List ℕ) → begins_line_end cs ≡ true → begins_line_end (cs ++ rest) ≡ true
line_end_on [] rest h = cc
line_end_on (c ∷ cs) rest h = h

return_apart : (c : ℕ) → is_blank c ≡ false → (c == 13) ≡ false
return_apart c h = ⊎_elim (λ y. let e : is_blank c
    ≡ true = ap is_blank (eqb-true c 13 y) in absurd (false≢true (sym h ∙ e))) (λ n. n) (cases_Bool (c == 13))

pub lines_blank : (c : ℕ) (cs : List ℕ) → (c == 13) ≡ false → is_blank c ≡ true → past_lines (c ∷ cs) ≡ past_lines cs
unfolding past_lines
lines_blank c cs n a = cond-false (c == 13) (if begins is_line_feed cs then past_lines cs else None) _ n ∙ cond-true
    (is_blank c) (past_lines cs) (Some (c ∷ cs)) a

pub lines_other : (c : ℕ) (cs : List ℕ) → is_blank c ≡ false → past_lines (c ∷ cs) ≡ Some (c ∷ cs)
unfolding past_lines
lines_other c cs a = cond-false (c == 13) (if begins is_line_feed cs then past_lines cs else None) _ (return_apart c a)
    ∙ cond-false (is_blank c) (past_lines cs) (Some (c ∷ cs)) a

feed_apart : (c : ℕ) → is_blank c ≡ false → (c == 10) ≡ false
feed_apart c h = ⊎_elim (λ y. let e : is_blank c
    ≡ true = ap is_blank (eqb-true c 10 y) in absurd (false≢true (sym h ∙ e))) (λ n. n) (cases_Bool (c == 10))

-- found
lines_read : (cs rest : List ℕ) → passes is_blank cs ≡ true → are_returns_paired cs ≡ true → begins is_blank rest
    ≡ false → past_lines (cs ++ rest) ≡ Some rest
unfolding past_lines
lines_read [] [] h p s = refl
lines_read [] (c ∷ rest) h p s = lines_other c rest s
lines_read (c ∷ cs) rest h p s =
    let (a, b) = and_parts (is_blank c) (passes is_blank cs) h in
    let (k, more) = and_parts (not (c == 13) || begins is_line_feed cs) (are_returns_paired cs) p in
    ⊎_elim
    (λ y. let f : begins is_line_feed cs
    ≡ true = ⊎_elim (λ n. absurd (false≢true (sym (not-true (c == 13) n) ∙ y))) (λ f. f)
    (or_cases (not (c == 13)) (begins is_line_feed cs) k) in
    rw (y, begins_on is_line_feed cs rest f) (lines_read cs rest b more s))
    (λ n. lines_blank c (cs ++ rest) n a ∙ lines_read cs rest b more s)
    (cases_Bool (c == 13))

skip_read : (mode : Mode) (cs rest : List ℕ) → in_double_quotes mode ≡ true → is_skipped Lexical cs ≡ true
    → begins is_blank rest ≡ false → lexical_slash mode (cs ++ rest) ≡ Reads None rest
unfolding lexical_slash
skip_read mode cs rest q h s =
    let (a, b) = and_parts (begins_line_end cs) (passes is_blank cs && are_returns_paired cs) h in
    let (blank, paired) = and_parts (passes is_blank cs) (are_returns_paired cs) b in
    rw (q, line_end_on cs rest a, lines_read cs rest blank paired s) refl

-- an escape begins with no line end
escape_apart : (mode : Mode) (cs rest : List ℕ) (v : Value) → IsEscape mode cs v → begins_line_end (cs ++ rest) ≡ false
escape_apart mode _ rest _ (simple {c} {n} e h) = let a = simple_apart c n e in or_from (c == 10) (c == 13) a.2 a.3
escape_apart mode _ rest _ (byte a b h) = refl
escape_apart mode _ rest _ (unicode inner a b c d e f) = refl

slash_escape : (mode : Mode) (cs : List ℕ) → begins_line_end cs ≡ false → lexical_slash mode cs ≡ scan.escape mode cs
unfolding lexical_slash
slash_escape mode cs h = rw (and_right (in_double_quotes mode) (begins_line_end cs) h) refl

plain_apart : (mode : Mode) (c : ℕ) → is_plain Lexical mode c ≡ true → (c == 92 && not (is_raw mode)) ≡ false
plain_apart RawStr c h = and_right (c == 92) false refl
plain_apart RawByteStr c h = and_right (c == 92) false refl
plain_apart RawCStr c h = and_right (c == 92) false refl
plain_apart Char c h = and_left (c == 92) true (apart (is_plain Lexical Char) c 92 h refl)
plain_apart Byte c h = and_left (c == 92) true (apart (is_plain Lexical Byte) c 92 h refl)
plain_apart Str c h = and_left (c == 92) true (apart (is_plain Lexical Str) c 92 h refl)
plain_apart ByteStr c h = and_left (c == 92) true (apart (is_plain Lexical ByteStr) c 92 h refl)
plain_apart CStr c h = and_left (c == 92) true (apart (is_plain Lexical CStr) c 92 h refl)

return_barred : (mode : Mode) → in_double_quotes mode ≡ true → is_plain Lexical mode 13 ≡ false
return_barred Char q = cc
return_barred Byte q = cc
return_barred Str q = refl
return_barred RawStr q = refl
return_barred ByteStr q = refl
return_barred RawByteStr q = refl
return_barred CStr q = refl
return_barred RawCStr q = refl

return_read : (mode : Mode) (rest : List ℕ) → in_double_quotes mode ≡ true → lexical_scan mode (13 ∷ 10 ∷ rest)
    ≡ Reads (return_value mode) (10 ∷ rest)
unfolding lexical_scan
return_read mode rest q = rw (return_barred mode q, q) refl

pub lexical_read : (rule : Rule) (mode : Mode) (cs rest : List ℕ) (v : Option Value) → rule ≡ Lexical
    → IsUnit rule mode cs rest v → lexical_scan mode (cs ++ rest) ≡ Reads v rest
unfolding lexical_scan
lexical_read rule mode _ rest _ e (plain {c = c} h) = let k = rw e at h in rw (plain_apart mode c k, k) refl
lexical_read rule mode _ rest _ e (escape {cs = cs} {value = v} r h) =
    rw (r, slash_escape mode (cs ++ rest) (escape_apart mode cs rest v h)) (escape_read mode cs rest v h)
lexical_read rule mode _ rest _ e (skip {cs = cs} r q h s) = let k = rw e at h in rw r (skip_read mode cs rest q k s)
lexical_read rule mode _ _ _ e (return {rest = rest} q) = return_read mode rest q

pub none_lexical : (mode : Mode) (text : List ℕ) → lexical_scan mode text ≡ Malformed → NoUnit Lexical mode text
none_lexical mode text e cs rest v joined h = let k : lexical_scan mode (cs ++ rest) ≡ Reads v rest =
    lexical_read Lexical mode cs rest v refl h in cc

-- what is found is a unit
record FoundLines (text rest : List ℕ) : Type 0 where
  front : List ℕ
  joined : text ≡ front ++ rest
  blank : passes is_blank front ≡ true
  paired : are_returns_paired front ≡ true
  stops : begins is_blank rest ≡ false
  starts : begins is_line_feed text ≡ true → begins is_line_feed front ≡ true

feed_blank : (c : ℕ) → is_line_feed c ≡ true → is_blank c ≡ true
feed_blank c h = ap is_blank (eqb-true c 10 h)

return_blank : (c : ℕ) → (c == 13) ≡ true → is_blank c ≡ true
return_blank c h = ap is_blank (eqb-true c 13 h)

lines_found : (text rest : List ℕ) → past_lines text ≡ Some rest → FoundLines text rest
unfolding past_lines
lines_found [] rest e = let same : [] ≡ rest =
    cc in subst (λ (r : List ℕ). FoundLines [] r) same
    (record { front = []; joined = refl; blank = refl; paired = refl; stops = refl; starts = λ h. h })
lines_found (c ∷ cs) rest e =
    ⊎_elim
    (λ h. ⊎_elim
    (λ k. let f = lines_found cs rest k.1 in
    record {
      front = c ∷ f.front;
      joined = ap (λ x. c ∷ x) f.joined;
      blank = and_from _ _ (return_blank c h.0) f.blank;
      paired = and_from _ _ (or_right (not (c == 13)) (begins is_line_feed f.front) (f.starts k.0)) f.paired;
      stops = f.stops;
      starts = λ s. s;
    })
    (λ k. cc)
    (chosen (begins is_line_feed cs) _ _ _ h.1))
    (λ h. ⊎_elim
    (λ k. let f = lines_found cs rest k.1 in
    record {
      front = c ∷ f.front;
      joined = ap (λ x. c ∷ x) f.joined;
      blank = and_from _ _ k.0 f.blank;
      paired = and_from _ _ (or_left (not (c == 13)) (begins is_line_feed f.front) (not_from_false (c == 13) h.0))
          f.paired;
      stops = f.stops;
      starts = λ s. s;
    })
    (λ k. let same : c ∷ cs ≡ rest = cc in
    subst (λ (r : List ℕ). FoundLines (c ∷ cs) r) same
    (record {
      front = [];
      joined = refl;
      blank = refl;
      paired = refl;
      stops = k.0;
      starts = λ s. absurd (false≢true (sym k.0 ∙ feed_blank c s));
    }))
    (chosen (is_blank c) _ _ _ h.1))
    (chosen (c == 13) _ _ _ e)

pub record FoundLexical (mode : Mode) (text rest : List ℕ) (value : Option Value) : Type 0 where
  pub chars : List ℕ
  pub joined : text ≡ chars ++ rest
  pub is : IsUnit Lexical mode chars rest value

-- a line end at the front of a text is one at the front of what was passed
no_end : (rest : List ℕ) → begins is_blank rest ≡ false → begins_line_end rest ≡ false
no_end [] h = refl
no_end (c ∷ cs) h = or_from (c == 10) (c == 13) (feed_apart c h) (return_apart c h)

begins_end : (text front rest : List ℕ) → text ≡ front ++ rest → begins_line_end text ≡ true → begins is_blank rest
    ≡ false → begins_line_end front ≡ true
begins_end text [] rest j h s = absurd (false≢true (sym (no_end rest s) ∙ ap begins_line_end (sym j) ∙ h))
begins_end text (c ∷ front) rest j h s = let k : begins_line_end (c ∷ (front ++ rest)) ≡ true =
    ap begins_line_end (sym j) ∙ h in k

skip_found : (mode : Mode) (cs rest : List ℕ) (o : Option (List ℕ)) (v : Option Value) → is_raw mode ≡ false
    → in_double_quotes mode ≡ true → begins_line_end cs ≡ true → past_lines cs ≡ o → skipped o ≡ Reads v rest
    → FoundLexical mode (92 ∷ cs) rest v
skip_found mode cs rest None v r q b l e = cc
skip_found mode cs rest (Some after) v r q b l e =
    let same : after ≡ rest = cc in
    let nothing : None ≡ v = cc in
    let f = lines_found cs after l in
    subst (λ (v : Option Value). FoundLexical mode (92 ∷ cs) rest v) nothing
    (subst (λ (x : List ℕ). FoundLexical mode (92 ∷ cs) x None) same
    (record {
      chars = 92 ∷ f.front;
      joined = ap (λ x. 92 ∷ x) f.joined;
      is = skip r q (and_from _ _ (begins_end cs f.front after f.joined b f.stops) (and_from _ _ f.blank f.paired))
          f.stops;
    }))

slash_found : (mode : Mode) (text rest : List ℕ) (v : Option Value) → is_raw mode ≡ false → lexical_slash mode text
    ≡ Reads v rest → FoundLexical mode (92 ∷ text) rest v
unfolding lexical_slash
slash_found mode text rest v r e =
    ⊎_elim
    (λ h. let (q, b) = and_parts (in_double_quotes mode) (begins_line_end text) h.0 in skip_found mode text rest
    (past_lines text) v r q b refl h.1)
    (λ h. let f = escape_found mode text rest v h.1 in
    subst (λ (v : Option Value). FoundLexical mode (92 ∷ text) rest v) (sym f.same)
    (record { chars = 92 ∷ f.chars; joined = ap (λ x. 92 ∷ x) f.joined; is = escape r f.is }))
    (chosen (in_double_quotes mode && begins_line_end text) _ _ _ e)

return_found : (mode : Mode) (cs rest : List ℕ) (v : Option Value) → in_double_quotes mode ≡ true
    → begins is_line_feed cs ≡ true → return_value mode ≡ v → cs ≡ rest → FoundLexical mode (13 ∷ cs) rest v
return_found mode [] rest v q f e s = cc
return_found mode (c ∷ cs) rest v q f e s =
    subst (λ (v : Option Value). FoundLexical mode (13 ∷ c ∷ cs) rest v) e
    (subst (λ (x : List ℕ). FoundLexical mode (13 ∷ c ∷ cs) x (return_value mode)) s
    (rw (eqb-true c 10 f) (record { chars = 13 ∷ []; joined = refl; is = return q })))

pub lexical_found : (mode : Mode) (text rest : List ℕ) (v : Option Value) → lexical_scan mode text ≡ Reads v rest
    → FoundLexical mode text rest v
unfolding lexical_scan
lexical_found mode [] rest v e = cc
lexical_found mode (c ∷ cs) rest v e =
    ⊎_elim
    (λ h. let (slash, cooked) = and_parts (c == 92) (not (is_raw mode)) h.0 in
    rw (eqb-true c 92 slash) (slash_found mode cs rest v (not-true (is_raw mode) cooked) h.1))
    (λ h. ⊎_elim
    (λ k. let value : Some (Character c) ≡ v = cc in
    let after : cs ≡ rest = cc in
    subst (λ (v : Option Value). FoundLexical mode (c ∷ cs) rest v) value
    (record { chars = c ∷ []; joined = ap (λ x. c ∷ x) after; is = plain k.0 }))
    (λ k. let (test, value, after) = passed_test (c == 13 && (in_double_quotes mode && begins is_line_feed cs)) _ v cs
    rest k.1 in
    let (is_return, more) = and_parts (c == 13) (in_double_quotes mode && begins is_line_feed cs) test in
    let (quoted, feed) = and_parts (in_double_quotes mode) (begins is_line_feed cs) more in
    rw (eqb-true c 13 is_return) (return_found mode cs rest v quoted feed value after))
    (chosen (is_plain Lexical mode c) _ _ _ h.1))
    (chosen (c == 92 && not (is_raw mode)) _ _ _ e)
