-- The bytes between two places.
use Rattle.std.proofs.Common.{◌≡◌, ℕ, ◌+◌, ◌-◌, ◌≤◌, arith, List, [], ◌∷◌, ◌++◌, refl, sym, ap, ◌∙◌, subst, length}
use Rattle.std.proofs.Common.{drop, take}
use Rattle.std.specs.Prelude.{true, encode_utf8_all}
use Rattle.std.specs.Str.{chars, IsUtf8}
use Rattle.std.proofs.lemmas.List.{drop-drop, length-drop, length-append, take-append-drop}
use Rattle.std.proofs.lemmas.Str.{chars-append, IsUtf8-take, IsCharBoundary-from_drop, encodes-chars}
use Rattle.std.proofs.lemmas.Str.{encodes-append, scalars-chars, chars-encodes}
use Rattle.std.proofs.lemmas.Bool.{and_parts, and_from}
use Rattle.std.proofs.Math.Seq.{take-append_seam}
use lib.Utf8.{scalar, scalars}
use Rattle.rust_escape.specs.Places.{rest_at, IsPlace, IsBehind, byte_length, between_places}

-- the characters between two places, and then the rest
pub between_joined : (bytes : List ℕ) (at end : ℕ) → IsPlace bytes at → IsBehind bytes at end → rest_at bytes at
    ≡ between_places bytes at end ++ rest_at bytes end
between_joined bytes at end p b =
    let m = end - at in
    let ends : at + m ≡ end = (let h = b.on in omega arith) in
    let rest : drop m (drop at bytes) ≡ drop end bytes = drop-drop m at bytes ∙ ap (λ n. drop n bytes) ends in
    let fits : m ≤ length (drop at bytes) = (let h = b.place.within in omega (arith, length-drop at bytes)) in
    let utf8 : IsUtf8 (take m (drop at bytes)) =
    IsUtf8-take (drop at bytes) m p.cut
    (IsCharBoundary-from_drop (drop at bytes) m fits (subst IsUtf8 (sym rest) b.place.cut)) in
    ap chars (sym (take-append-drop m (drop at bytes))) ∙ chars-append (take m (drop at bytes)) (drop m (drop at bytes))
    utf8 ∙ ap (λ r. between_places bytes at end ++ chars r) rest

byte_length-append : (xs ys : List ℕ) → byte_length (xs ++ ys) ≡ byte_length xs + byte_length ys
byte_length-append xs ys = ap length (encodes-append xs ys) ∙ length-append (encode_utf8_all xs) (encode_utf8_all ys)

-- what is left takes the bytes that are left
pub byte_length-rest : (bytes : List ℕ) (at : ℕ) → IsPlace bytes at → byte_length (rest_at bytes at) ≡ length bytes - at
byte_length-rest bytes at p = ap length (encodes-chars (drop at bytes) p.cut) ∙ length-drop at bytes

-- the characters up to a place take the bytes up to it
pub end_is : (bytes cs : List ℕ) (at to : ℕ) → IsPlace bytes at → IsPlace bytes to → rest_at bytes at
    ≡ cs ++ rest_at bytes to → to ≡ at + byte_length cs
end_is bytes cs at to p q e =
    let a = byte_length-rest bytes at p in
    let b = byte_length-rest bytes to q in
    let s = ap byte_length e ∙ byte_length-append cs (rest_at bytes to) in
    omega (arith, p.within, q.within)

scalars-front : (xs ys : List ℕ) → scalars (xs ++ ys) ≡ true → scalars xs ≡ true
scalars-front [] ys h = refl
scalars-front (x ∷ xs) ys h = let (a, b) =
    and_parts (scalar x) (scalars (xs ++ ys)) h in and_from _ _ a (scalars-front xs ys b)

-- the characters up to a place are those between the two
pub between_is : (bytes cs : List ℕ) (at to : ℕ) → IsPlace bytes at → IsPlace bytes to → rest_at bytes at
    ≡ cs ++ rest_at bytes to → between_places bytes at to ≡ cs
between_is bytes cs at to p q e =
    let ends = end_is bytes cs at to p q e in
    let size : to - at ≡ length (encode_utf8_all cs) = omega arith in
    let all : drop at bytes ≡ encode_utf8_all cs ++ encode_utf8_all (rest_at bytes to) =
    sym (encodes-chars (drop at bytes) p.cut) ∙ ap encode_utf8_all e ∙ encodes-append cs (rest_at bytes to) in
    let front : take (to - at) (drop at bytes) ≡ encode_utf8_all cs =
    rw (size, all) (take-append_seam (encode_utf8_all cs) (encode_utf8_all (rest_at bytes to))) in
    let fine : scalars (cs ++ rest_at bytes to) ≡ true =
    subst (λ (x : List ℕ). scalars x ≡ true) e (scalars-chars (drop at bytes) p.cut) in
    ap chars front ∙ chars-encodes cs (scalars-front cs (rest_at bytes to) fine)
