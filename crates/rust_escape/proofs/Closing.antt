-- What the search for a closing quote keeps.
use Rattle.std.proofs.Common.{◌≡◌, ℕ, ◌≤◌, arith, List, [], ◌∷◌, ◌++◌, append_assoc, refl, sym, ap, ◌∙◌, length}
use Rattle.std.specs.Prelude.{true, false, not, ◌&&◌, ◌==◌, nat_le, nat_lt, Option, Some, Ok, Err, option_to_list}
use Rattle.std.specs.List.{list_all}
use Rattle.std.proofs.lemmas.Bool.{false≢true, and_parts, not-true}
use Rattle.rust_escape.specs.Chars.{begins}
use Rattle.rust_escape.specs.LexicalScan.{is_common, lexical_scan}
use Rattle.rust_escape.specs.Mode.{Mode}
use Rattle.rust_escape.specs.Places.{rest_at, between_places, IsPlace, IsBehind}
use Rattle.rust_escape.specs.Reads.{ReadsUnit, Closes, is_quote}
use Rattle.rust_escape.specs.Scan.{Reads}
use Rattle.rust_escape.specs.Unit.{Lexical, IsUnit, plain, is_plain, NoUnit, IsInside, empty, more}
use Rattle.rust_escape.specs.Value.{Value, Character}
use Rattle.rust_escape.specs.declared.error.EscapeError.{EscapeError}
use Rattle.rust_escape.specs.declared.read.Reading.{Reading}
use Rattle.text_chars.specs.Chars.{narrow}
use Rattle.text_chars.specs.Places.{IsPassed}
use Rattle.rust_escape.proofs.Commons.{common_plain}
use Rattle.rust_escape.proofs.LexicalUnits.{lexical_read}
use Rattle.rust_escape.proofs.PlacesLemmas.{rest_end}

-- one more unit at the front
longer : (mode : Mode) (text cs between rest : List ℕ) (v : Option Value) → text ≡ cs ++ between
    → IsUnit Lexical mode cs between v → Closes mode between rest → Closes mode text rest
longer mode text cs between rest v j h c =
    let h' = rw c.joined at h in
    record {
      inside = cs ++ c.inside;
      values = option_to_list v ++ c.values;
      joined = j ∙ ap (λ x. cs ++ x) c.joined ∙ sym (append_assoc cs c.inside rest);
      is = more h' c.is;
      quote = c.quote;
    }

-- behind a unit the inside goes on
shorter : (mode : Mode) (text cs after inside rest : List ℕ) (v : Option Value) (values : List Value) → text
    ≡ cs ++ after → IsUnit Lexical mode cs after v
    → begins is_quote text ≡ false → begins is_quote rest ≡ true → text ≡ inside ++ rest
    → IsInside Lexical mode inside rest values → Closes mode after rest
shorter mode text cs after _ rest v _ j h n q k empty = absurd (false≢true (sym n ∙ ap (begins is_quote) k ∙ q))
shorter mode text cs after _ rest v _ j h n q k (more {cs = ds} {inside = inside} {value = w} {values = ws} u i) =
    let first : lexical_scan mode (cs ++ after) ≡ Reads v after = lexical_read Lexical mode cs after v refl h in
    let second : lexical_scan mode (ds ++ (inside ++ rest)) ≡ Reads w (inside ++ rest) =
    lexical_read Lexical mode ds (inside ++ rest) w refl u in
    let texts : cs ++ after ≡ ds ++ (inside ++ rest) = sym j ∙ k ∙ append_assoc ds inside rest in
    let reads : Reads v after ≡ Reads w (inside ++ rest) = sym first ∙ ap (lexical_scan mode) texts ∙ second in
    let same : after ≡ inside ++ rest = cc in
    record { inside = inside; values = ws; joined = same; is = i; quote = q }

-- an inside that closes begins with a unit
none_closes : (mode : Mode) (text inside rest : List ℕ) (values : List Value) → NoUnit Lexical mode text
    → begins is_quote text ≡ false → begins is_quote rest ≡ true → text ≡ inside ++ rest
    → IsInside Lexical mode inside rest values → ⊥
none_closes mode text _ rest _ never n q k empty = false≢true (sym n ∙ ap (begins is_quote) k ∙ q)
none_closes mode text _ rest _ never n q k (more {cs = ds} {inside = inside} {value = w} u i) =
    never ds (inside ++ rest) w (k ∙ append_assoc ds inside rest) u

-- from the place on the inside closes where it does from the start on
pub record Seeks (mode : Mode) (bytes : List ℕ) (start at : ℕ) : Type 0 where
  pub place : IsPlace bytes at
  pub on : start ≤ at
  pub back : (rest : List ℕ) → Closes mode (rest_at bytes at) rest → Closes mode (rest_at bytes start) rest
  pub forth : (rest : List ℕ) → Closes mode (rest_at bytes start) rest → Closes mode (rest_at bytes at) rest

pub seeks_start : (mode : Mode) (bytes : List ℕ) (start : ℕ) → IsPlace bytes start → Seeks mode bytes start start
seeks_start mode bytes start p = record { place = p; on = omega arith; back = λ rest c. c; forth = λ rest c. c }

pub closes_here : (mode : Mode) (bytes : List ℕ) (start at c : ℕ) (cs : List ℕ) → Seeks mode bytes start at
    → rest_at bytes at ≡ c ∷ cs → c ≡ 34 → Closes mode (rest_at bytes start) (rest_at bytes at)
closes_here mode bytes start at c cs s e q =
    let quote : begins is_quote (rest_at bytes at) ≡ true = rw (e, q) refl in
    s.back (rest_at bytes at) (record { inside = []; values = []; joined = refl; is = empty; quote = quote })

no_quote : (text : List ℕ) (c : ℕ) (cs : List ℕ) → text ≡ c ∷ cs → (c ≡ 34 → ⊥) → begins is_quote text ≡ false
no_quote text c cs e n = rw e (Rattle.std.proofs.lemmas.Bool.ne_eqb c 34 n)

pub seeks_on : (mode : Mode) (bytes : List ℕ) (start at c : ℕ) (cs : List ℕ) (reading : Reading) (v : Option Value)
    → Seeks mode bytes start at → rest_at bytes at ≡ c ∷ cs → (c ≡ 34 → ⊥)
    → ReadsUnit Lexical mode bytes at reading → reading.value ≡ Ok v → Seeks mode bytes start reading.«end»
seeks_on mode bytes start at c cs reading v s e n r k =
    let u = rw k at r.found in
    let to = reading.«end» in
    let front = between_places bytes at to in
    record {
      place = r.place;
      on = omega (arith, s.on, r.on);
      back = λ rest c. s.back rest (longer mode (rest_at bytes at) front (rest_at bytes to) rest v u.joined u.is c);
      forth = λ rest d. let f = s.forth rest d in
          shorter mode (rest_at bytes at) front (rest_at bytes to) f.inside rest v f.values u.joined u.is
          (no_quote (rest_at bytes at) c cs e n) f.quote f.joined f.is;
    }

-- so it does behind a character that stands for itself
pub seeks_plain : (mode : Mode) (bytes : List ℕ) (start at c next : ℕ) → Seeks mode bytes start at → rest_at bytes at
    ≡ c ∷ rest_at bytes next → (c ≡ 34 → ⊥) → is_plain Lexical mode c ≡ true → IsBehind bytes at next
    → Seeks mode bytes start next
seeks_plain mode bytes start at c next s e n p b =
    let unit : IsUnit Lexical mode (c ∷ []) (rest_at bytes next) (Some (Character c)) = plain p in
    record {
      place = b.place;
      on = omega (arith, s.on, b.on);
      back = λ rest k. s.back rest
          (longer mode (rest_at bytes at) (c ∷ []) (rest_at bytes next) rest (Some (Character c)) e unit k);
      forth = λ rest d. let f = s.forth rest d in
          shorter mode (rest_at bytes at) (c ∷ []) (rest_at bytes next) f.inside rest (Some (Character c)) f.values e
          unit (no_quote (rest_at bytes at) c (rest_at bytes next) e n) f.quote f.joined f.is;
    }

-- insides close alike from the two texts on
record CloseAlike (mode : Mode) (one other : List ℕ) : Type 0 where
  back : (rest : List ℕ) → Closes mode other rest → Closes mode one rest
  forth : (rest : List ℕ) → Closes mode one rest → Closes mode other rest

common_no_quote : (c : ℕ) → is_common c ≡ true → (c == 34) ≡ false
common_no_quote c h =
    let (_, marks) = and_parts (nat_le 32 c && nat_le c 126) (not (c == 34) && not (c == 92)) h in
    not-true (c == 34) (and_parts (not (c == 34)) (not (c == 92)) marks).0

commons_alike : (mode : Mode) (xs text : List ℕ) → list_all (narrow is_common) xs ≡ true
    → CloseAlike mode (xs ++ text) text
commons_alike mode [] text h = record { back = λ rest c. c; forth = λ rest c. c }
commons_alike mode (x ∷ xs) text h =
    let (here, others) = and_parts (narrow is_common x) (list_all (narrow is_common) xs) h in
    let common = (and_parts (nat_lt x 128) (is_common x) here).1 in
    let unit : IsUnit Lexical mode (x ∷ []) (xs ++ text) (Some (Character x)) = plain (common_plain mode x common) in
    let on = commons_alike mode xs text others in
    record {
      back = λ rest c.
          longer mode (x ∷ (xs ++ text)) (x ∷ []) (xs ++ text) rest (Some (Character x)) refl unit (on.back rest c);
      forth = λ rest d. on.forth rest
          (shorter mode (x ∷ (xs ++ text)) (x ∷ []) (xs ++ text) d.inside rest (Some (Character x)) d.values refl unit
          (common_no_quote x common) d.quote d.joined d.is);
    }

-- and behind many characters that stand for themselves in every literal
pub seeks_commons : (mode : Mode) (bytes : List ℕ) (start at end : ℕ) → Seeks mode bytes start at
    → IsPassed (narrow is_common) bytes at end → Seeks mode bytes start end
seeks_commons mode bytes start at end s h =
    let alike = commons_alike mode h.passed (rest_at bytes end) h.pass in
    record {
      place = h.place;
      on = omega (arith, s.on, h.on);
      back = λ rest c. s.back rest (rw h.joined (alike.back rest c));
      forth = λ rest d. alike.forth rest (rw h.joined at (s.forth rest d));
    }

pub closes_nowhere : (mode : Mode) (bytes : List ℕ) (start at c : ℕ) (cs : List ℕ) (reading : Reading)
    (error : EscapeError) → Seeks mode bytes start at → rest_at bytes at ≡ c ∷ cs → (c ≡ 34 → ⊥)
    → ReadsUnit Lexical mode bytes at reading → reading.value ≡ Err error → (rest : List ℕ)
    → Closes mode (rest_at bytes start) rest → ⊥
closes_nowhere mode bytes start at c cs reading error s e n r k rest d =
    let never = rw k at r.found in
    let f = s.forth rest d in
    none_closes mode (rest_at bytes at) f.inside rest f.values never.0 (no_quote (rest_at bytes at) c cs e n) f.quote
    f.joined f.is

ends_empty : (inside rest : List ℕ) → [] ≡ inside ++ rest → begins is_quote rest ≡ true → ⊥
ends_empty [] rest e q = false≢true (ap (begins is_quote) e ∙ q)
ends_empty (c ∷ cs) rest e q = cc

pub closes_never : (mode : Mode) (bytes : List ℕ) (start at : ℕ) → Seeks mode bytes start at → length bytes ≤ at
    → (rest : List ℕ) → Closes mode (rest_at bytes start) rest → ⊥
closes_never mode bytes start at s l rest d = let f =
    s.forth rest d in ends_empty f.inside rest (sym (rest_end bytes at l) ∙ f.joined) f.quote
