-- The values of literals in double quotes.
use Rattle.std.proofs.Common.{◌≡◌, ℕ, arith, List, [], ◌∷◌, ◌++◌, refl, sym, ap, ◌∙◌, subst, ⊎_elim}
use Rattle.std.specs.Prelude.{true, Option, Some, None, IfSome, map, nat_lt, option_to_list}
use Rattle.std.specs.List.{flat_map}
use Rattle.std.proofs.lemmas.Bool.{cases_Bool, lt-ltb, le-ltb, false≢true}
use Rattle.std.proofs.lemmas.Str.{encode_ascii}
use Rattle.rust_escape.specs.Calls.{TakesUnits}
use Rattle.rust_escape.specs.Mode.{is_raw}
use Rattle.rust_escape.specs.Unit.{Rule, Strict, IsUnit, barred, is_plain, plain, escape, skip, return, IsInside}
use Rattle.rust_escape.specs.Unit.{empty, more}
use Rattle.rust_escape.specs.Value.{byte_value, IsCharacter, IsByte}
use Rattle.rust_escape.specs.declared.mode.Mode.{Mode}
use Rattle.rust_escape.specs.declared.mode.Mode.TheVariants.{Str, RawStr, ByteStr, RawByteStr}
use Rattle.rust_escape.specs.declared.value.Value.{Value}
use Rattle.rust_escape.specs.declared.value.Value.TheVariants.{Character, HighByte}
use Rattle.rust_escape.proofs.Values.{takes_texts, takes_bytes}
use Rattle.rust_leaf.specs.Quoted.{cooked, raw, IsQuoted, in_quotes, behind_r}
use Rattle.rust_leaf.specs.Value.{HasValues, IsMalformed, IsStrValue, IsByteStrValue, IsCStrValue, TakesValues}
use Rattle.rust_leaf.specs.Value.{value_bytes, value_rule}
use Rattle.rust_leaf.specs.declared.quoted.Content.{Content}
use Rattle.rust_leaf.specs.declared.quoted.Content.TheVariants.{Text, Bytes, CText}
use Rattle.rust_leaf.proofs.Quotes.{one_inside}
use Rattle.rust_leaf.proofs.Spellings.{one_list}

pub takes_either : (takes : Value → Type 0) (content : Content) (mode : Mode) (text inside : List ℕ)
    → TakesValues takes (cooked content) → TakesValues takes (raw content) → IsQuoted content mode text inside
    → TakesValues takes mode
takes_either takes content _ _ inside t r in_quotes = t
takes_either takes content _ _ inside t r (behind_r n) = r

pub found_none : (content : Content) (mode : Mode) (text inside : List ℕ) → IsQuoted content mode text inside
    → ((values : List Value) → IsInside (value_rule mode) mode inside [] values → ⊥) → IsMalformed content text
found_none content mode text inside q never = ((mode, inside, q), none)
  where
    none : (values : List Value) → HasValues content text values → ⊥
    none values h =
        let (modes, insides) = one_inside content h.mode mode text h.inside inside h.quoted q in
        never values (subst (λ m. IsInside (value_rule m) m inside [] values) modes
        (subst (λ x. IsInside (value_rule h.mode) h.mode x [] values) insides h.units))

-- in a raw inside a carriage return is put too
raw_barred : (rule : Rule) (mode : Mode) → is_raw mode ≡ true → barred rule mode ≡ barred Strict mode
raw_barred rule mode r = rw r refl

raw_plain : (rule : Rule) (mode : Mode) (c : ℕ) → is_raw mode ≡ true → is_plain rule mode c ≡ true
    → is_plain Strict mode c ≡ true
raw_plain rule mode c r h = rw (raw_barred rule mode r) at h

raw_unit : (rule : Rule) (takes : Value → Type 0) (mode : Mode) (cs rest : List ℕ) (o : Option Value)
    → is_raw mode ≡ true → TakesUnits takes mode → takes (Character 13) → IsUnit rule mode cs rest o → IfSome o takes
raw_unit rule takes mode _ rest _ r t f (plain {c = c} h) =
    t (c ∷ []) rest (Character c) (plain (raw_plain rule mode c r h))
raw_unit rule takes mode _ rest _ r t f (escape n h) = absurd (false≢true (sym n ∙ r))
raw_unit rule takes mode _ rest _ r t f (skip n d h s) = tt
raw_unit rule takes mode _ _ _ r t f (return d) = rw r f

raw_values : (takes : Value → Type 0) (mode : Mode) → is_raw mode ≡ true → TakesUnits takes mode → takes (Character 13)
    → TakesValues takes mode
raw_values takes mode r t f cs rest v u = raw_unit (value_rule mode) takes mode cs rest (Some v) r t f u

-- the modes take what is put
pub text_units : TakesValues IsCharacter Str
text_units = takes_texts Str refl

pub raw_text_units : TakesValues IsCharacter RawStr
raw_text_units = raw_values IsCharacter RawStr refl (takes_texts RawStr refl) tt

pub ruleset texts = (text_units, raw_text_units)

-- a byte's value is one byte
byte_first : (v : Value) (vs : List Value) → IsByte v → vs ≡ map byte_value (flat_map value_bytes vs)
    → v ∷ vs ≡ map byte_value (value_bytes v ++ flat_map value_bytes vs)
byte_first (Character c) vs l e = rw (encode_ascii c l, lt-ltb c 128 l) (ap (λ x. Character c ∷ x) e)
byte_first (HighByte b) vs l e = rw (le-ltb b 128 l) (ap (λ x. HighByte b ∷ x) e)

unit_first : (mode : Mode) (cs rest : List ℕ) (v : Option Value) (vs : List Value) → TakesValues IsByte mode
    → IsUnit (value_rule mode) mode cs rest v → vs ≡ map byte_value (flat_map value_bytes vs)
    → option_to_list v ++ vs ≡ map byte_value (flat_map value_bytes (option_to_list v ++ vs))
unit_first mode cs rest None vs t u e = e
unit_first mode cs rest (Some v) vs t u e = byte_first v vs (t cs rest v u) e

each_byte : (mode : Mode) (inside rest : List ℕ) (values : List Value) → TakesValues IsByte mode
    → IsInside (value_rule mode) mode inside rest values → values ≡ map byte_value (flat_map value_bytes values)
each_byte mode _ rest _ t empty = refl
each_byte mode _ rest _ t (more {cs = cs} {inside = inside} {value = v} {values = vs} u i) =
    unit_first mode cs (inside ++ rest) v vs t u (each_byte mode inside rest vs t i)

byte_units : (mode : Mode) (text inside : List ℕ) → IsQuoted Bytes mode text inside → TakesValues IsByte mode
byte_units mode text inside q =
    takes_either IsByte Bytes mode text inside (takes_bytes ByteStr refl)
    (raw_values IsByte RawByteStr refl (takes_bytes RawByteStr refl) (omega arith)) q

pub byte_values : (text bs : List ℕ) (values : List Value) → HasValues Bytes text values
    → bs ≡ flat_map value_bytes values → IsByteStrValue text bs
byte_values text bs values h e =
    let each = each_byte h.mode h.inside [] values (byte_units h.mode text h.inside h.quoted) h.units in
    subst (HasValues Bytes text) (each ∙ ap (map byte_value) (sym e)) h

abbrev pub number_of : Value → ℕ
number_of (Character c) = c
number_of (HighByte b) = b

-- a text's value is one character
character_first : (v : Value) (vs : List Value) → IsCharacter v → vs ≡ map Character (map number_of vs)
    → v ∷ vs ≡ map Character (map number_of (v ∷ vs))
character_first (Character c) vs t e = ap (λ x. Character c ∷ x) e
character_first (HighByte b) vs t e = absurd t

character_on : (mode : Mode) (cs rest : List ℕ) (v : Option Value) (vs : List Value) → TakesValues IsCharacter mode
    → IsUnit (value_rule mode) mode cs rest v → vs ≡ map Character (map number_of vs)
    → option_to_list v ++ vs ≡ map Character (map number_of (option_to_list v ++ vs))
character_on mode cs rest None vs t u e = e
character_on mode cs rest (Some v) vs t u e = character_first v vs (t cs rest v u) e

each_character : (mode : Mode) (inside rest : List ℕ) (values : List Value) → TakesValues IsCharacter mode
    → IsInside (value_rule mode) mode inside rest values → values ≡ map Character (map number_of values)
each_character mode _ rest _ t empty = refl
each_character mode _ rest _ t (more {cs = cs} {inside = inside} {value = v} {values = vs} u i) =
    character_on mode cs (inside ++ rest) v vs t u (each_character mode inside rest vs t i)

pub character_values : (text : List ℕ) (values : List Value) → HasValues Text text values
    → IsStrValue text (map number_of values)
character_values text values h =
    let t = takes_either IsCharacter Text h.mode text h.inside text_units raw_text_units h.quoted in
    subst (HasValues Text text) (each_character h.mode h.inside [] values t h.units) h

-- one literal has one list of values
pub same_values : (content : Content) (text : List ℕ) (values others : List Value) → HasValues content text values
    → HasValues content text others → values ≡ others
same_values content text values others h k =
    let (modes, insides) = one_inside content h.mode k.mode text h.inside k.inside h.quoted k.quoted in
    one_list (value_rule k.mode) k.mode h.inside k.inside values others insides
    (subst (λ m. IsInside (value_rule m) m h.inside [] values) modes h.units) k.units

same_characters : (xs ys : List ℕ) → map Character xs ≡ map Character ys → xs ≡ ys
same_characters [] [] e = refl
same_characters [] (y ∷ ys) e = cc
same_characters (x ∷ xs) [] e = cc
same_characters (x ∷ xs) (y ∷ ys) e =
    let first : Character x ≡ Character y = cc in
    let same : x ≡ y = cc in
    let more : map Character xs ≡ map Character ys = cc in
    rw (same, same_characters xs ys more) refl

pub byte_number : (b : ℕ) → number_of (byte_value b) ≡ b
byte_number b = ⊎_elim (λ y. rw y refl) (λ n. rw n refl) (cases_Bool (nat_lt b 128))

byte_numbers : (bs : List ℕ) → map number_of (map byte_value bs) ≡ bs
byte_numbers [] = refl
byte_numbers (b ∷ bs) = rw (byte_number b, byte_numbers bs) refl

-- one literal has one value
pub one_text : (text xs ys : List ℕ) → IsStrValue text xs → IsStrValue text ys → xs ≡ ys
one_text text xs ys h k = same_characters xs ys (same_values Text text (map Character xs) (map Character ys) h k)

pub one_bytes : (text xs ys : List ℕ) → IsByteStrValue text xs → IsByteStrValue text ys → xs ≡ ys
one_bytes text xs ys h k = sym (byte_numbers xs)
    ∙ ap (map number_of) (same_values Bytes text (map byte_value xs) (map byte_value ys) h k) ∙ byte_numbers ys

pub one_c_bytes : (text xs ys : List ℕ) → IsCStrValue text xs → IsCStrValue text ys → xs ≡ ys
one_c_bytes text xs ys h k = h.bytes
    ∙ ap (λ vs. flat_map value_bytes vs ++ 0 ∷ []) (same_values CText text h.values k.values h.spelled k.spelled)
    ∙ sym k.bytes
