-- One character on from a place.
use Rattle.std.proofs.Common.{◌≡◌, ℕ, ◌+◌, ◌≤◌, ◌<◌, arith, List, [], ◌∷◌, ◌++◌, sym, ap, ◌∙◌, subst, length, drop}
use Rattle.std.proofs.Common.{get_or, zero-le}
use Rattle.std.specs.Prelude.{encode_utf8}
use Rattle.std.specs.Str.{chars, IsUtf8}
use Rattle.std.specs.Char.{len_utf8}
use Rattle.std.proofs.lemmas.List.{drop_all, drop_more, length-drop, length-append}
use Rattle.std.proofs.lemmas.Str.{chars-nil, chars_past_char, IsUtf8-past_char, drop_past_char, encode_ascii}
use Rattle.std.proofs.lemmas.Str.{length-encode, len_utf8_bounds, len_utf8_ascii}
use Rattle.text_chars.specs.Places.{rest_at, IsPlace, IsBehind}

-- a character stands between two places
pub record IsStep (bytes : List ℕ) (at c next : ℕ) : Type 0 where
  pub rest : rest_at bytes at ≡ c ∷ rest_at bytes next
  pub behind : IsBehind bytes at next

pub step : (bytes rest : List ℕ) (at c : ℕ) → IsPlace bytes at → drop at bytes ≡ encode_utf8 c ++ rest
    → IsStep bytes at c (at + len_utf8 c)
step bytes rest at c p e =
    let past = drop_past_char bytes rest at c e in
    let lens = len_utf8_bounds c in
    let l : length (drop at bytes) ≡ length (encode_utf8 c ++ rest) = ap length e in
    let place : IsPlace bytes (at + len_utf8 c) = record {
      within = omega (arith, length-drop at bytes, length-append (encode_utf8 c) rest, length-encode c);
      cut = subst IsUtf8 (sym past) (IsUtf8-past_char (drop at bytes) rest c p.cut e);
    } in
    record {
      rest = chars_past_char (drop at bytes) rest c p.cut e ∙ ap (λ r. c ∷ chars r) (sym past);
      behind = record { place = place; on = omega arith };
    }

pub ascii_step : (bytes : List ℕ) (at : ℕ) → IsPlace bytes at → at < length bytes → get_or bytes at 0 < 128
    → IsStep bytes at (get_or bytes at 0) (at + 1)
ascii_step bytes at p l h =
    let c = get_or bytes at 0 in
    let e : drop at bytes ≡ encode_utf8 c ++ drop (at + 1) bytes =
    drop_more bytes at 0 l ∙ sym (ap (λ x. x ++ drop (at + 1) bytes) (encode_ascii c h)) in
    subst (λ n. IsStep bytes at c (at + n)) (len_utf8_ascii c h) (step bytes (drop (at + 1) bytes) at c p e)

-- no character is left at the end
pub rest_end : (bytes : List ℕ) (at : ℕ) → length bytes ≤ at → rest_at bytes at ≡ []
rest_end bytes at h = ap chars (drop_all at bytes h) ∙ chars-nil

-- the front of a text
pub first_place : (bytes : List ℕ) → IsUtf8 bytes → IsPlace bytes 0
first_place bytes u = record { within = zero-le; cut = u }
