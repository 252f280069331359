-- Raw strings: # and a quote, units, and the first quote that as many # follow.
use Rattle.std.proofs.Common.{◌≡◌, ℕ, zero, suc, ◌+◌, ◌≤◌, arith, List, [], ◌∷◌, ◌++◌, append_assoc, refl, sym, ap}
use Rattle.std.proofs.Common.{◌∙◌, subst, ⊎_elim}
use Rattle.std.specs.Prelude.{true, false, ◌&&◌, ◌==◌, nat_le, Option, Some, None, option_to_list}
use Rattle.std.proofs.lemmas.Bool.{and_parts, cases_Bool, or_cases, or_left, or_right, eqb-true, le-leb, leb-true}
use Rattle.std.proofs.lemmas.Bool.{false≢true}
use Rattle.rust_escape.specs.declared.mode.Mode.{Mode}
use Rattle.rust_escape.specs.Mode.{in_double_quotes, is_raw}
use Rattle.rust_escape.specs.Unit.{Rule, Lexical, IsUnit, plain, escape, skip, return, is_plain, return_value}
use Rattle.rust_escape.specs.Unit.{IsInside, empty, more}
use Rattle.rust_escape.specs.declared.value.Value.{Value}
use Rattle.rust_escape.specs.declared.value.Value.TheVariants.{Character}
use Rattle.rust_escape.proofs.OneInside.{inside_before}
use Rattle.rust_lex.specs.Chars.{begins, is_line_feed}
use Rattle.rust_lex.specs.Quoted.{hashes, raw_closing, IsRaw}
use Rattle.rust_lex.specs.QuotedScan.{past_marks, past_close, stands, past_raw, past_hashes}
use Rattle.rust_lex.proofs.Taken.{chosen, Taken, option_cases}
use Rattle.rust_lex.proofs.Units.{FoundTail}

-- n #
marks_past : (n : ℕ) (t : List ℕ) → past_marks n (hashes n ++ t) ≡ Some t
marks_past zero t = refl
marks_past (suc n) t = marks_past n t

marks_found : (n : ℕ) (cs rest : List ℕ) → past_marks n cs ≡ Some rest → cs ≡ hashes n ++ rest
marks_found zero cs rest e = let same : cs ≡ rest = cc in same
marks_found (suc n) [] rest e = cc
marks_found (suc n) (c ∷ cs) rest e =
    ⊎_elim
    (λ h. let is = eqb-true c 35 h.0 in let tails = marks_found n cs rest h.1 in cc)
    (λ h. cc)
    (chosen (c == 35) _ _ _ e)

-- as many # before a quote stand before it already
marks_before : (n : ℕ) (cs t rest : List ℕ) → past_marks n (cs ++ 34 ∷ t) ≡ Some rest
    → (after : List ℕ) × (cs ≡ hashes n ++ after)
marks_before zero cs t rest e = (cs, refl)
marks_before (suc n) [] t rest e = cc
marks_before (suc n) (c ∷ cs) t rest e =
    ⊎_elim
    (λ h. let is = eqb-true c 35 h.0 in let (after, tails) = marks_before n cs t rest h.1 in (after, (cc)))
    (λ h. cc)
    (chosen (c == 35) _ _ _ e)

-- one character on
pub raw_step : (mode : Mode) (n c : ℕ) (cs : List ℕ) → past_close n (c ∷ cs) ≡ None → stands mode c cs ≡ true
    → past_raw mode n (c ∷ cs) ≡ past_raw mode n cs
unfolding past_raw
raw_step mode n c cs o h = rw (o, past_raw) (rw h refl)

pub raw_wrong : (mode : Mode) (n c : ℕ) (cs : List ℕ) → past_close n (c ∷ cs) ≡ None → stands mode c cs ≡ false
    → past_raw mode n (c ∷ cs) ≡ None
unfolding past_raw
raw_wrong mode n c cs o h = rw (o, past_raw) (rw h refl)

pub raw_closed : (mode : Mode) (n c : ℕ) (cs rest : List ℕ) → past_close n (c ∷ cs) ≡ Some rest
    → past_raw mode n (c ∷ cs) ≡ Some rest
unfolding past_raw
raw_closed mode n c cs rest o = rw (o, past_raw) refl

pub raw_end : (mode : Mode) (n : ℕ) → past_raw mode n [] ≡ None
unfolding past_raw
raw_end mode n = refl

raw_cases : (mode : Mode) (n c : ℕ) (cs rest : List ℕ) → past_close n (c ∷ cs) ≡ None → past_raw mode n (c ∷ cs)
    ≡ Some rest → (stands mode c cs ≡ true) × (past_raw mode n cs ≡ Some rest)
raw_cases mode n c cs rest o e =
    ⊎_elim
    (λ h. (h, sym (raw_step mode n c cs o h) ∙ e))
    (λ h. let w = raw_wrong mode n c cs o h in cc)
    (cases_Bool (stands mode c cs))

-- a raw string's unit is one character
record OneCharacter (mode : Mode) (cs rest : List ℕ) : Type 0 where
  char : ℕ
  one : cs ≡ char ∷ []
  may : stands mode char rest ≡ true

raw_unit : (rule : Rule) (mode : Mode) (cs rest : List ℕ) (v : Option Value) → rule ≡ Lexical → is_raw mode ≡ true
    → IsUnit rule mode cs rest v → OneCharacter mode cs rest
raw_unit rule mode _ rest _ l r (plain {c = c} h) = let k =
    rw l at h in record {
      char = c;
      one = refl;
      may = or_left (is_plain Lexical mode c) (c == 13 && begins is_line_feed rest) k;
    }
raw_unit rule mode _ rest _ l r (escape q h) = absurd (false≢true (sym q ∙ r))
raw_unit rule mode _ rest _ l r (skip q d h s) = absurd (false≢true (sym q ∙ r))
raw_unit rule mode _ _ _ l r (return {rest = rest} d) =
    record {
      char = 13;
      one = refl;
      may = or_right (is_plain Lexical mode 13) (13 == 13 && begins is_line_feed (10 ∷ rest)) refl;
    }

-- and a character that may stand is one
record Standing (mode : Mode) (c : ℕ) (cs : List ℕ) : Type 0 where
  value : Option Value
  is : IsUnit Lexical mode (c ∷ []) cs value

returned : (mode : Mode) (c : ℕ) (cs : List ℕ) → in_double_quotes mode ≡ true → c ≡ 13 → begins is_line_feed cs ≡ true
    → Standing mode c cs
returned mode c [] d e f = cc
returned mode c (x ∷ cs) d e f = rw (e, eqb-true x 10 f) (record { value = return_value mode; is = return d })

standing : (mode : Mode) (c : ℕ) (cs : List ℕ) → in_double_quotes mode ≡ true → stands mode c cs ≡ true
    → Standing mode c cs
standing mode c cs d h =
    ⊎_elim
    (λ p. record { value = Some (Character c); is = plain p })
    (λ k. let (a, b) = and_parts (c == 13) (begins is_line_feed cs) k in returned mode c cs d (eqb-true c 13 a) b)
    (or_cases (is_plain Lexical mode c) (c == 13 && begins is_line_feed cs) h)

-- no quote of the inside is followed by n #
abbrev IsUnclosed : ℕ → List ℕ → Type 0
IsUnclosed n inside = (front rest : List ℕ) → inside ≡ front ++ (raw_closing n ++ rest) → ⊥

no_close : (n c : ℕ) (cs t : List ℕ) → IsUnclosed n (c ∷ cs) → past_close n (c ∷ (cs ++ 34 ∷ t)) ≡ None
no_close n c cs t u =
    ⊎_elim
    (λ o. o)
    (λ (r, o). ⊎_elim
    (λ h. let (after, e) = marks_before n cs t r h.1 in let q = eqb-true c 34 h.0 in absurd (u [] after (cc)))
    (λ h. cc)
    (chosen (c == 34) _ _ _ o))
    (option_cases (past_close n (c ∷ (cs ++ 34 ∷ t))))

-- the end of units is found
units_past : (mode : Mode) (n : ℕ) (inside rest t : List ℕ) (values : List Value) → is_raw mode ≡ true → rest
    ≡ raw_closing n ++ t → IsUnclosed n inside → IsInside Lexical mode inside rest values
    → past_raw mode n (inside ++ rest) ≡ Some t
units_past mode n _ rest t _ r e f empty = rw e (raw_closed mode n 34 (hashes n ++ t) t (marks_past n t))
units_past mode n _ rest t _ r e f (more {cs = cs} {inside = inside} {value = v} {values = vs} u i) =
    let k = raw_unit Lexical mode cs (inside ++ rest) v refl r u in
    let c = k.char in
    let fronts : cs ++ inside ≡ c ∷ inside = ap (λ x. x ++ inside) k.one in
    let g : IsUnclosed n (c ∷ inside) = λ front after j. f front after (fronts ∙ j) in
    let later : IsUnclosed n inside = λ front after j. g (c ∷ front) after (ap (λ x. c ∷ x) j) in
    let close : past_close n (c ∷ (inside ++ rest)) ≡ None =
    ap (λ x. past_close n (c ∷ (inside ++ x))) e ∙ no_close n c inside (hashes n ++ t) g in
    ap (λ x. past_raw mode n (x ++ rest)) fronts ∙ raw_step mode n c (inside ++ rest) close k.may ∙ units_past mode n
    inside rest t vs r e later i

-- what is found are units
record FoundRaw (mode : Mode) (n : ℕ) (cs rest : List ℕ) : Type 0 where
  inside : List ℕ
  values : List Value
  joined : cs ≡ inside ++ (raw_closing n ++ rest)
  is : IsInside Lexical mode inside (raw_closing n ++ rest) values
  unclosed : IsUnclosed n inside

-- the first character closes nothing, and what follows it neither
unclosed_on : (n c : ℕ) (cs inside t : List ℕ) → cs ≡ inside ++ t → past_close n (c ∷ cs) ≡ None → IsUnclosed n inside
    → IsUnclosed n (c ∷ inside)
unclosed_on n c cs inside t e o u [] after j =
    let q : c ≡ 34 = cc in
    let tails : inside ≡ hashes n ++ after = cc in
    let all : cs ≡ hashes n ++ (after ++ t) = e ∙ ap (λ x. x ++ t) tails ∙ append_assoc (hashes n) after t in
    let closes : past_close n (c ∷ cs) ≡ Some (after ++ t) = rw (q, all) (marks_past n (after ++ t)) in
    cc
unclosed_on n c cs inside t e o u (f ∷ fs) after j = let tails : inside ≡ fs ++ (raw_closing n ++ after) =
    cc in u fs after tails

raw_found : (mode : Mode) (n : ℕ) (cs rest : List ℕ) → in_double_quotes mode ≡ true → past_raw mode n cs ≡ Some rest
    → FoundRaw mode n cs rest
raw_found mode n [] rest d e = let none = raw_end mode n in cc
raw_found mode n (c ∷ cs) rest d e =
    ⊎_elim
    (λ o.
    let (h, q) = raw_cases mode n c cs rest o e in
    let m = raw_found mode n cs rest d q in
    let s = standing mode c cs d h in
    let unit : IsUnit Lexical mode (c ∷ []) (m.inside ++ (raw_closing n ++ rest)) s.value =
    subst (λ x. IsUnit Lexical mode (c ∷ []) x s.value) m.joined s.is in
    record {
      inside = c ∷ m.inside;
      values = option_to_list s.value ++ m.values;
      joined = ap (λ x. c ∷ x) m.joined;
      is = more unit m.is;
      unclosed = unclosed_on n c cs m.inside (raw_closing n ++ rest) m.joined o m.unclosed;
    })
    (λ (r, o). ⊎_elim
    (λ h.
    let q = raw_closed mode n c cs r o in
    let same : r ≡ rest = cc in
    let tails = marks_found n cs r h.1 in
    let is = eqb-true c 34 h.0 in
    record { inside = []; values = []; joined = rw (is, tails, same) refl; is = empty; unclosed = nothing n })
    (λ h. cc)
    (chosen (c == 34) _ _ _ o))
    (option_cases (past_close n (c ∷ cs)))
  where
    nothing : (n : ℕ) → IsUnclosed n []
    nothing n [] after j = cc
    nothing n (f ∷ fs) after j = cc

-- the # before the first quote
hashes_quote : (mode : Mode) (n c : ℕ) (cs : List ℕ) → c ≡ 34 → nat_le n 255 ≡ true → past_hashes mode n (c ∷ cs)
    ≡ past_raw mode n cs
unfolding past_hashes
hashes_quote mode n c cs e h = rw (e, h) refl

hashes_more : (mode : Mode) (n : ℕ) (cs : List ℕ) → past_hashes mode n (35 ∷ cs) ≡ past_hashes mode (n + 1) cs
unfolding past_hashes
hashes_more mode n cs = refl

hashes_past : (mode : Mode) (n k m : ℕ) (cs : List ℕ) → n + k ≡ m → m ≤ 255 → past_hashes mode n (hashes k ++ 34 ∷ cs)
    ≡ past_raw mode m cs
hashes_past mode n zero m cs e l = let same : n ≡ m =
    omega arith in hashes_quote mode n 34 cs refl (le-leb n 255 (omega arith)) ∙ ap (λ x. past_raw mode x cs) same
hashes_past mode n (suc k) m cs e l =
    hashes_more mode n (hashes k ++ 34 ∷ cs) ∙ hashes_past mode (n + 1) k m cs (omega arith) l

record FoundHashes (mode : Mode) (n : ℕ) (cs rest : List ℕ) : Type 0 where
  count : ℕ
  all : ℕ
  after : List ℕ
  joined : cs ≡ hashes count ++ 34 ∷ after
  sum : n + count ≡ all
  few : all ≤ 255
  found : past_raw mode all after ≡ Some rest

hashes_found : (mode : Mode) (n : ℕ) (cs rest : List ℕ) → past_hashes mode n cs ≡ Some rest → FoundHashes mode n cs rest
unfolding past_hashes
hashes_found mode n [] rest e = cc
hashes_found mode n (c ∷ cs) rest e =
    ⊎_elim
    (λ h.
    let m = hashes_found mode (n + 1) cs rest h.1 in
    let s = m.sum in
    record {
      count = suc m.count;
      all = m.all;
      after = m.after;
      joined = rw (eqb-true c 35 h.0, m.joined) refl;
      sum = omega arith;
      few = m.few;
      found = m.found;
    })
    (λ h. ⊎_elim
    (λ k.
    let (q, l) = and_parts (c == 34) (nat_le n 255) k.0 in
    record {
      count = 0;
      all = n;
      after = cs;
      joined = rw (eqb-true c 34 q) refl;
      sum = omega arith;
      few = leb-true n 255 l;
      found = k.1;
    })
    (λ k. cc)
    (chosen (c == 34 && nat_le n 255) _ _ _ h.1))
    (chosen (c == 35) _ _ _ e)

-- a raw string's end is found
pub raw_whole : (mode : Mode) (cs t : List ℕ) → is_raw mode ≡ true → IsRaw mode cs → past_hashes mode 0 (cs ++ t)
    ≡ Some t
raw_whole mode cs t r k =
    let n = k.count in
    let is : IsInside Lexical mode k.inside (raw_closing n ++ t) k.values =
    inside_before Lexical mode k.inside (raw_closing n) 34 (hashes n) (hashes n ++ t) k.values refl k.is in
    let joined : cs ++ t ≡ hashes n ++ 34 ∷ (k.inside ++ (raw_closing n ++ t)) =
    ap (λ x. x ++ t) k.joined ∙ append_assoc (hashes n) (34 ∷ (k.inside ++ raw_closing n)) t ∙ ap
    (λ x. hashes n ++ 34 ∷ x) (append_assoc k.inside (raw_closing n) t) in
    ap (past_hashes mode 0) joined ∙ hashes_past mode 0 n n (k.inside ++ (raw_closing n ++ t)) (omega arith) k.few ∙
    units_past mode n k.inside (raw_closing n ++ t) t k.values r refl k.unclosed is

-- what is found is one
pub raw_string_found : (mode : Mode) (cs rest : List ℕ) → in_double_quotes mode ≡ true → past_hashes mode 0 cs
    ≡ Some rest → FoundTail (IsRaw mode) cs rest
raw_string_found mode cs rest d e =
    let h = hashes_found mode 0 cs rest e in
    let n = h.all in
    let same : h.count ≡ n = (let s = h.sum in omega arith) in
    let f = raw_found mode n h.after rest d h.found in
    let joined : cs ≡ hashes n ++ 34 ∷ (f.inside ++ (raw_closing n ++ rest)) =
    h.joined ∙ ap (λ x. hashes x ++ 34 ∷ h.after) same ∙ ap (λ x. hashes n ++ 34 ∷ x) f.joined in
    record {
      tail = hashes n ++ 34 ∷ (f.inside ++ raw_closing n);
      joined = joined ∙ sym (append_assoc (hashes n) (34 ∷ (f.inside ++ raw_closing n)) rest ∙ ap
          (λ x. hashes n ++ 34 ∷ x) (append_assoc f.inside (raw_closing n) rest));
      is = record {
        count = n;
        inside = f.inside;
        values = f.values;
        few = h.few;
        joined = refl;
        is = inside_before Lexical mode f.inside (raw_closing n ++ rest) 34 (hashes n ++ rest) (hashes n) f.values
            refl f.is;
        unclosed = f.unclosed;
      };
    }

pub hashes_taken : (mode : Mode) (cs rest : List ℕ) → in_double_quotes mode ≡ true → is_raw mode ≡ true
    → past_hashes mode 0 cs ≡ Some rest → Taken (past_hashes mode 0) cs rest
hashes_taken mode cs rest d r e =
    let f = raw_string_found mode cs rest d e in
    record { front = f.tail; joined = f.joined; stays = λ t. raw_whole mode f.tail t r f.is }
