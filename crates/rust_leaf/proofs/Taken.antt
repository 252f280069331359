-- A literal in double quotes that the lexer takes has a value, where it is raw or holds no carriage return.
use Rattle.std.proofs.Common.{◌≡◌, ℕ, List, [], ◌∷◌, ◌++◌, refl, sym, ap, ◌∙◌, subst, ⊎_elim}
use Rattle.std.specs.Prelude.{true, false, ◌==◌, map}
use Rattle.std.specs.List.{flat_map}
use Rattle.std.proofs.lemmas.Bool.{cases_Bool}
use Rattle.rust_escape.specs.Mode.{in_double_quotes, is_raw}
use Rattle.rust_escape.specs.declared.mode.Mode.{Mode}
use Rattle.rust_escape.specs.declared.mode.Mode.TheVariants.{Str, RawStr, ByteStr, RawByteStr, CStr, RawCStr}
use Rattle.rust_escape.specs.declared.value.Value.{Value}
use Rattle.rust_lex.specs.Quoted.{IsCooked, IsRaw, IsTail, hashes, opening_of, literal_kind}
use Rattle.rust_lex.specs.declared.piece.LiteralKind.{LiteralKind}
use Rattle.rust_lex.specs.declared.piece.LiteralKind.TheVariants as kinds
use Rattle.rust_leaf.specs.Quoted.{IsQuoted, in_quotes, behind_r, cooked, raw, fenced}
use Rattle.rust_leaf.specs.Value.{HasValues, IsStrValue, IsByteStrValue, IsCStrValue, IsTaken, value_bytes}
use Rattle.rust_leaf.specs.Value.{has_return, has_barred_return}
use Rattle.rust_leaf.specs.declared.quoted.Content.{Content}
use Rattle.rust_leaf.specs.declared.quoted.Content.TheVariants.{Text, Bytes, CText}
use Rattle.rust_leaf.proofs.Lexed.{any_parts, value_inside}
use Rattle.rust_leaf.proofs.Values.{number_of, character_values, byte_values}

-- a part of a literal holds no more than it
return_within : (front inside back cs : List ℕ) → cs ≡ front ++ (inside ++ back) → has_return cs ≡ false
    → has_return inside ≡ false
return_within front inside back cs e h =
    let (_, k) = any_parts (λ c. c == 13) front (inside ++ back) (ap has_return (sym e) ∙ h) in
    (any_parts (λ c. c == 13) inside back k).0

barred_within : (mode : Mode) (front inside back cs : List ℕ) → cs ≡ front ++ (inside ++ back)
    → has_barred_return mode cs ≡ false → has_barred_return mode inside ≡ false
barred_within mode front inside back cs e h =
    ⊎_elim (λ y. rw y refl) (λ n. let none : has_return cs
    ≡ false = rw n at h in rw n (return_within front inside back cs e none)) (cases_Bool (is_raw mode))

-- both forms
cooked_double : (content : Content) → in_double_quotes (cooked content) ≡ true
cooked_double Text = refl
cooked_double Bytes = refl
cooked_double CText = refl

raw_double : (content : Content) → in_double_quotes (raw content) ≡ true
raw_double Text = refl
raw_double Bytes = refl
raw_double CText = refl

raw_none : (content : Content) (cs : List ℕ) → has_barred_return (raw content) cs ≡ false
raw_none Text cs = refl
raw_none Bytes cs = refl
raw_none CText cs = refl

abbrev SomeValues : Content → List ℕ → Type 0
SomeValues content cs = (values : List Value) × HasValues content cs values

of_cooked : (content : Content) (cs tail : List ℕ) → cs ≡ opening_of (cooked content) ++ tail
    → IsCooked (cooked content) tail → has_barred_return (cooked content) cs ≡ false → SomeValues content cs
of_cooked content cs tail e t h =
    let mode = cooked content in
    let whole : cs ≡ opening_of mode ++ (t.inside ++ 34 ∷ []) = e ∙ ap (λ x. opening_of mode ++ x) t.joined in
    let none = barred_within mode (opening_of mode) t.inside (34 ∷ []) cs whole h in (
      t.values,
      record {
        mode = mode;
        inside = t.inside;
        quoted = subst (λ x. IsQuoted content mode x t.inside) (sym whole) in_quotes;
        units = value_inside mode t.inside [] t.values (cooked_double content) none t.is;
      },
    )

of_raw : (content : Content) (cs tail : List ℕ) → cs ≡ opening_of (raw content) ++ tail → IsRaw (raw content) tail
    → SomeValues content cs
of_raw content cs tail e t =
    let mode = raw content in
    let whole : cs ≡ opening_of mode ++ fenced t.count t.inside = e ∙ ap (λ x. opening_of mode ++ x) t.joined in (
      t.values,
      record {
        mode = mode;
        inside = t.inside;
        quoted = subst (λ x. IsQuoted content mode x t.inside) (sym whole) (behind_r t.count);
        units = value_inside mode t.inside (hashes t.count) t.values (raw_double content) (raw_none content t.inside)
            t.is;
      },
    )

-- each kind
abbrev kind_of : Content → LiteralKind
kind_of Text = kinds.Str
kind_of Bytes = kinds.ByteStr
kind_of CText = kinds.CStr

of_mode : (content : Content) (mode : Mode) (cs tail : List ℕ) → kind_of content ≡ literal_kind mode
    → cs ≡ opening_of mode ++ tail → IsTail mode tail → has_barred_return mode cs ≡ false → SomeValues content cs
of_mode Text Str cs tail k e t h = of_cooked Text cs tail e t h
of_mode Text RawStr cs tail k e t h = of_raw Text cs tail e t
of_mode Text _ cs tail k e t h = cc
of_mode Bytes ByteStr cs tail k e t h = of_cooked Bytes cs tail e t h
of_mode Bytes RawByteStr cs tail k e t h = of_raw Bytes cs tail e t
of_mode Bytes _ cs tail k e t h = cc
of_mode CText CStr cs tail k e t h = of_cooked CText cs tail e t h
of_mode CText RawCStr cs tail k e t h = of_raw CText cs tail e t
of_mode CText _ cs tail k e t h = cc

pub taken_text : (cs : List ℕ) → IsTaken kinds.Str cs → (xs : List ℕ) × IsStrValue cs xs
taken_text cs ((mode, tail, k, e, t), h) = let (values, v) =
    of_mode Text mode cs tail k e t h in (map number_of values, character_values cs values v)

pub taken_bytes : (cs : List ℕ) → IsTaken kinds.ByteStr cs → (xs : List ℕ) × IsByteStrValue cs xs
taken_bytes cs ((mode, tail, k, e, t), h) = let (values, v) =
    of_mode Bytes mode cs tail k e t h in
    (flat_map value_bytes values, byte_values cs (flat_map value_bytes values) values v refl)

pub taken_c_text : (cs : List ℕ) → IsTaken kinds.CStr cs → (xs : List ℕ) × IsCStrValue cs xs
taken_c_text cs ((mode, tail, k, e, t), h) =
    let (values, v) = of_mode CText mode cs tail k e t h in
    (flat_map value_bytes values ++ 0 ∷ [], record { values = values; spelled = v; bytes = refl })
