-- Strings, characters and bytes: units up to the closing quote.
use Rattle.std.proofs.Common.{◌≡◌, ℕ, zero, suc, ◌-◌, ◌<◌, arith, List, [], ◌∷◌, ◌++◌, length, append_assoc, refl}
use Rattle.std.proofs.Common.{sym, ap, ◌∙◌, subst, ⊎_elim, length-append}
use Rattle.std.specs.Prelude.{true, false, ◌==◌, Option, Some, None, option_to_list}
use Rattle.std.proofs.lemmas.Bool.{cases_Bool, eqb-true}
use Rattle.rust_escape.specs.LexicalScan.{lexical_scan}
use Rattle.rust_escape.specs.declared.mode.Mode.{Mode}
use Rattle.rust_escape.specs.Mode.{in_double_quotes, is_raw}
use Rattle.rust_escape.specs.Scan.{Scanned, Malformed, Reads}
use Rattle.rust_escape.specs.Unit.{Rule, Lexical, IsUnit, plain, escape, skip, return, IsInside, empty, more}
use Rattle.rust_escape.specs.declared.value.Value.{Value}
use Rattle.rust_escape.proofs.LexicalUnits.{lexical_read, lexical_found}
use Rattle.rust_escape.proofs.OneInside.{unit_before, inside_before, quote_none}
use Rattle.rust_lex.specs.Ends.{past_one}
use Rattle.rust_lex.specs.Quoted.{IsSingle, IsCooked}
use Rattle.rust_lex.specs.QuotedScan.{behind, past_unit, past_char, past_units}
use Rattle.rust_lex.proofs.Taken.{chosen, Taken, option_cases}

-- a unit has characters
pub unit_long : (rule : Rule) (mode : Mode) (cs rest : List ℕ) (v : Option Value) → IsUnit rule mode cs rest v
    → 0 < length cs
unit_long rule mode _ rest _ (plain h) = omega arith
unit_long rule mode _ rest _ (escape r h) = omega arith
unit_long rule mode _ rest _ (skip r d h s) = omega arith
unit_long rule mode _ _ _ (return d) = omega arith

-- a unit at the front of a text is found
pub unit_past : (mode : Mode) (cs rest : List ℕ) (v : Option Value) → IsUnit Lexical mode cs rest v
    → past_unit mode (cs ++ rest) ≡ Some rest
unfolding past_unit
unit_past mode cs rest v h = ap behind (lexical_read Lexical mode cs rest v refl h)

pub no_unit_past : (mode : Mode) → past_unit mode [] ≡ None
unfolding past_unit lexical_scan
no_unit_past mode = refl

-- and what is found is one
pub record UnitAt (mode : Mode) (text rest : List ℕ) : Type 0 where
  pub chars : List ℕ
  pub value : Option Value
  pub joined : text ≡ chars ++ rest
  pub is : IsUnit Lexical mode chars rest value

behind_reads : (s : Scanned) (rest : List ℕ) → behind s ≡ Some rest → (v : Option Value) × (s ≡ Reads v rest)
behind_reads Malformed rest e = cc
behind_reads (Reads v r) rest e = let same : r ≡ rest = cc in (v, ap (Reads v) same)

pub unit_at : (mode : Mode) (text rest : List ℕ) → past_unit mode text ≡ Some rest → UnitAt mode text rest
unfolding past_unit
unit_at mode text rest e =
    let (v, r) = behind_reads (lexical_scan mode text) rest e in
    let f = lexical_found mode text rest v r in
    record { chars = f.chars; value = v; joined = f.joined; is = f.is }

-- the same where the first character is known
record UnitFrom (mode : Mode) (c : ℕ) (cs rest : List ℕ) : Type 0 where
  front : List ℕ
  value : Option Value
  joined : cs ≡ front ++ rest
  is : IsUnit Lexical mode (c ∷ front) rest value

from_chars : (mode : Mode) (c : ℕ) (cs rest chars : List ℕ) (v : Option Value) → c ∷ cs ≡ chars ++ rest
    → IsUnit Lexical mode chars rest v → UnitFrom mode c cs rest
from_chars mode c cs rest [] v e h = let l = unit_long Lexical mode [] rest v h in absurd (omega arith)
from_chars mode c cs rest (f ∷ fs) v e h =
    let same : f ≡ c = cc in
    let tails : cs ≡ fs ++ rest = cc in
    record { front = fs; value = v; joined = tails; is = subst (λ x. IsUnit Lexical mode (x ∷ fs) rest v) same h }

unit_from : (mode : Mode) (c : ℕ) (cs rest : List ℕ) → past_unit mode (c ∷ cs) ≡ Some rest → UnitFrom mode c cs rest
unit_from mode c cs rest e = let u =
    unit_at mode (c ∷ cs) rest e in from_chars mode c cs rest u.chars u.value u.joined u.is

-- characters and bytes
pub one_is : (d : ℕ) (cs rest : List ℕ) → past_one d cs ≡ Some rest → cs ≡ d ∷ rest
one_is d [] rest e = cc
one_is d (c ∷ cs) rest e =
    ⊎_elim (λ h. let same : cs ≡ rest = cc in let k = eqb-true c d h.0 in cc) (λ h. cc) (chosen (c == d) _ _ _ e)

-- one thing and then another
pub record Both (past_it then_it : List ℕ → Option (List ℕ)) (cs rest : List ℕ) : Type 0 where
  pub between : List ℕ
  pub one : past_it cs ≡ Some between
  pub two : then_it between ≡ Some rest

pub char_both : (mode : Mode) (cs rest : List ℕ) → past_char mode cs ≡ Some rest
    → Both (past_unit mode) (past_one 39) cs rest
unfolding past_char
char_both mode cs rest =
    elim (past_unit mode cs) as
    (λ o. past_unit mode cs ≡ o
    → ◌≡◌ {A = Option (List ℕ)} (elim o [ None ↦ None | Some r ↦ past_one 39 r ]) (Some rest)
    → Both (past_unit mode) (past_one 39) cs rest)
    [ None ↦ λ o e. cc | Some r ↦ λ o e. record { between = r; one = o; two = e } ] refl

pub char_from : (mode : Mode) (cs between rest : List ℕ) → past_unit mode cs ≡ Some between → past_one 39 between
    ≡ Some rest → past_char mode cs ≡ Some rest
unfolding past_char
char_from mode cs between rest e h = rw (e, past_char) h

pub char_none_one : (mode : Mode) (cs : List ℕ) → past_unit mode cs ≡ None → past_char mode cs ≡ None
unfolding past_char
char_none_one mode cs e = rw (e, past_char) refl

pub char_none_two : (mode : Mode) (cs between : List ℕ) → past_unit mode cs ≡ Some between → past_one 39 between ≡ None
    → past_char mode cs ≡ None
unfolding past_char
char_none_two mode cs between e h = rw (e, past_char) h

-- its end is found
pub single_whole : (mode : Mode) (cs t : List ℕ) → IsSingle mode cs → past_char mode (cs ++ t) ≡ Some t
single_whole mode cs t k =
    let unit : IsUnit Lexical mode k.unit (39 ∷ t) k.value =
    unit_before Lexical mode k.unit (39 ∷ []) [] 39 [] t k.value refl k.is in
    rw (k.joined, append_assoc)
    (char_from mode (k.unit ++ 39 ∷ t) (39 ∷ t) t (unit_past mode k.unit (39 ∷ t) k.value unit) refl)

-- what is found is one
pub record FoundTail (P : List ℕ → Type 0) (cs rest : List ℕ) : Type 0 where
  pub tail : List ℕ
  pub joined : cs ≡ tail ++ rest
  pub is : P tail

pub single_found : (mode : Mode) (cs rest : List ℕ) → past_char mode cs ≡ Some rest → FoundTail (IsSingle mode) cs rest
single_found mode cs rest e =
    let b = char_both mode cs rest e in
    let q = one_is 39 b.between rest b.two in
    let u = unit_at mode cs b.between b.one in
    record {
      tail = u.chars ++ 39 ∷ [];
      joined = u.joined ∙ ap (λ x. u.chars ++ x) q ∙ sym (append_assoc u.chars (39 ∷ []) rest);
      is = record {
        unit = u.chars;
        value = u.value;
        joined = refl;
        is = unit_before Lexical mode u.chars b.between [] 39 rest [] u.value q u.is;
      };
    }

pub char_taken : (mode : Mode) (cs rest : List ℕ) → past_char mode cs ≡ Some rest → Taken (past_char mode) cs rest
char_taken mode cs rest e =
    let f = single_found mode cs rest e in
    record { front = f.tail; joined = f.joined; stays = λ t. single_whole mode f.tail t f.is }

-- strings
skipped : (mode : Mode) (f cs : List ℕ) → past_units mode (length f) (f ++ cs) ≡ past_units mode 0 cs
unfolding past_units
skipped mode [] cs = refl
skipped mode (c ∷ f) cs = skipped mode f cs

left : (f rest : List ℕ) → length (f ++ rest) - length rest ≡ length f
left f rest = let l = length-append f rest in omega arith

units_more : (mode : Mode) (c : ℕ) (cs rest : List ℕ) → (c == 34) ≡ false → past_unit mode (c ∷ cs) ≡ Some rest
    → past_units mode 0 (c ∷ cs) ≡ past_units mode 0 rest
unfolding past_units
units_more mode c cs rest n e =
    let k = unit_from mode c cs rest e in
    rw (n, e) (rw k.joined (rw left (skipped mode k.front rest)))

units_close : (mode : Mode) (cs : List ℕ) → past_units mode 0 (34 ∷ cs) ≡ Some cs
unfolding past_units
units_close mode cs = refl

-- no unit of a string that isn't raw begins with the quote
unit_begins : (mode : Mode) (c : ℕ) (cs rest : List ℕ) → in_double_quotes mode ≡ true → is_raw mode ≡ false
    → past_unit mode (c ∷ cs) ≡ Some rest → (c == 34) ≡ false
unfolding past_unit
unit_begins mode c cs rest d r e =
    ⊎_elim
    (λ q. let n : None ≡ Some rest = sym (ap behind (quote_none mode (c ∷ cs) d r q)) ∙ e in cc)
    (λ q. q)
    (cases_Bool (c == 34))

units_step : (mode : Mode) (cs rest : List ℕ) (v : Option Value) → in_double_quotes mode ≡ true → is_raw mode ≡ false
    → IsUnit Lexical mode cs rest v → past_units mode 0 (cs ++ rest) ≡ past_units mode 0 rest
units_step mode [] rest v d r h = let l = unit_long Lexical mode [] rest v h in absurd (omega arith)
units_step mode (c ∷ cs) rest v d r h =
    let e = unit_past mode (c ∷ cs) rest v h in
    units_more mode c (cs ++ rest) rest (unit_begins mode c (cs ++ rest) rest d r e) e

pub inside_past : (mode : Mode) (inside rest after : List ℕ) (values : List Value) → in_double_quotes mode ≡ true
    → is_raw mode ≡ false → rest ≡ 34 ∷ after → IsInside Lexical mode inside rest values
    → past_units mode 0 (inside ++ rest) ≡ Some after
inside_past mode _ rest after _ d r e empty = rw e (units_close mode after)
inside_past mode _ rest after _ d r e (more {cs = cs} {inside = inside} {value = v} {values = vs} u i) =
    ap (past_units mode 0) (append_assoc cs inside rest) ∙ units_step mode cs (inside ++ rest) v d r u ∙ inside_past
    mode inside rest after vs d r e i

-- a string's end is found
pub cooked_whole : (mode : Mode) (cs t : List ℕ) → in_double_quotes mode ≡ true → is_raw mode ≡ false → IsCooked mode cs
    → past_units mode 0 (cs ++ t) ≡ Some t
cooked_whole mode cs t d r k =
    rw (k.joined, append_assoc)
    (inside_past mode k.inside (34 ∷ t) t k.values d r refl
    (inside_before Lexical mode k.inside (34 ∷ []) 34 [] t k.values refl k.is))

-- what is found is a string
pub record FoundInside (mode : Mode) (n : ℕ) (cs rest : List ℕ) : Type 0 where
  pub before : List ℕ
  pub inside : List ℕ
  pub values : List Value
  pub joined : cs ≡ before ++ (inside ++ 34 ∷ rest)
  pub long : length before ≡ n
  pub is : IsInside Lexical mode inside (34 ∷ rest) values

same_front : (f g r s : List ℕ) → f ++ r ≡ g ++ s → length f ≡ length g → (f ≡ g) × (r ≡ s)
same_front [] [] r s e l = (refl, e)
same_front [] (d ∷ g) r s e l = absurd (omega arith)
same_front (c ∷ f) [] r s e l = absurd (omega arith)
same_front (c ∷ f) (d ∷ g) r s e l =
    let heads : c ≡ d = cc in
    let tails : f ++ r ≡ g ++ s = cc in
    let more = same_front f g r s tails (omega arith) in
    let fronts : f ≡ g = more.0 in
    (cc, more.1)

unit_and_more : (mode : Mode) (c : ℕ) (cs r rest : List ℕ) → past_unit mode (c ∷ cs) ≡ Some r
    → FoundInside mode (length cs - length r) cs rest → FoundInside mode 0 (c ∷ cs) rest
unit_and_more mode c cs r rest e k =
    let u = unit_from mode c cs r e in
    let long : length k.before ≡ length u.front = k.long ∙ ap (λ x. length x - length r) u.joined ∙ left u.front r in
    let same = same_front k.before u.front (k.inside ++ 34 ∷ rest) r (sym k.joined ∙ u.joined) long in
    let unit : IsUnit Lexical mode (c ∷ u.front) (k.inside ++ 34 ∷ rest) u.value =
    subst (λ x. IsUnit Lexical mode (c ∷ u.front) x u.value) (sym same.1) u.is in
    record {
      before = [];
      inside = (c ∷ u.front) ++ k.inside;
      values = option_to_list u.value ++ k.values;
      joined = ap (λ x. c ∷ x) (u.joined ∙ ap (λ x. u.front ++ x) (sym same.1) ∙ sym
          (append_assoc u.front k.inside (34 ∷ rest)));
      long = refl;
      is = more unit k.is;
    }

inside_found : (mode : Mode) (n : ℕ) (cs rest : List ℕ) → past_units mode n cs ≡ Some rest → FoundInside mode n cs rest
unfolding past_units
inside_found mode n [] rest e = cc
inside_found mode (suc n) (c ∷ cs) rest e =
    let more = inside_found mode n cs rest e in
    record {
      before = c ∷ more.before;
      inside = more.inside;
      values = more.values;
      joined = ap (λ x. c ∷ x) more.joined;
      long = ap (λ x. suc x) more.long;
      is = more.is;
    }
inside_found mode zero (c ∷ cs) rest e =
    ⊎_elim
    (λ h. let same : cs ≡ rest = cc in record
    { before = []; inside = []; values = []; joined = rw (eqb-true c 34 h.0, same) refl; long = refl; is = empty })
    (λ h. ⊎_elim
    (λ o. let q = rw o at h.1 in cc)
    (λ (r, o). unit_and_more mode c cs r rest o (inside_found mode (length cs - length r) cs rest (rw o at h.1)))
    (option_cases (past_unit mode (c ∷ cs))))
    (chosen (c == 34) _ _ _ e)

-- the inside that is found, and the closing quote
pub record ClosedInside (mode : Mode) (cs rest : List ℕ) : Type 0 where
  pub inside : List ℕ
  pub values : List Value
  pub joined : cs ≡ inside ++ 34 ∷ rest
  pub is : IsInside Lexical mode inside (34 ∷ rest) values

at_once : (front cs rest : List ℕ) → length front ≡ 0 → cs ≡ front ++ rest → cs ≡ rest
at_once [] cs rest l e = e
at_once (c ∷ front) cs rest l e = absurd (omega arith)

pub inside_closed : (mode : Mode) (cs rest : List ℕ) → past_units mode 0 cs ≡ Some rest → ClosedInside mode cs rest
inside_closed mode cs rest e =
    let f = inside_found mode 0 cs rest e in
    record {
      inside = f.inside;
      values = f.values;
      joined = at_once f.before cs (f.inside ++ 34 ∷ rest) f.long f.joined;
      is = f.is;
    }

pub cooked_found : (mode : Mode) (cs rest : List ℕ) → past_units mode 0 cs ≡ Some rest
    → FoundTail (IsCooked mode) cs rest
cooked_found mode cs rest e =
    let f = inside_closed mode cs rest e in
    record {
      tail = f.inside ++ 34 ∷ [];
      joined = f.joined ∙ sym (append_assoc f.inside (34 ∷ []) rest);
      is = record {
        inside = f.inside;
        values = f.values;
        joined = refl;
        is = inside_before Lexical mode f.inside (34 ∷ rest) 34 rest [] f.values refl f.is;
      };
    }
