-- What is written in quotes has the value that was written.
use Rattle.std.proofs.Common.{◌≡◌, ℕ, List, [], ◌∷◌, ◌++◌, codes, sym, ap}
use Rattle.std.specs.Prelude.{true, false, map}
use Rattle.std.specs.List.{flat_map}
use Rattle.std.proofs.Math.Utf8.{scalars}
use Rattle.rust_escape.specs.Unit.{Strict}
use Rattle.rust_escape.specs.declared.mode.Mode.TheVariants.{Str, ByteStr, CStr}
use Rattle.rust_leaf.specs.CString.{Part, part_text, IsCString, has_zero}
use Rattle.rust_leaf.specs.Escaped.{escaped_all, escaped_bytes, string_text, byte_string_text}
use Rattle.rust_leaf.specs.Quoted.{in_quotes}
use Rattle.rust_leaf.specs.Value.{IsStrValue, IsByteStrValue, IsCStrValue, AreBytes}
use Rattle.rust_leaf.proofs.Written.{Spells, bytes_inside, c_inside, part_value, string_inside}

pub string_value : (cs : List ℕ) → scalars cs ≡ true → IsStrValue (string_text cs) cs
string_value cs h = record
    { mode = Str; inside = escaped_all 34 cs; quoted = in_quotes; units = string_inside Strict cs [] h }

pub byte_string_value : (bs : List ℕ) → AreBytes bs → IsByteStrValue (byte_string_text bs) bs
byte_string_value bs h = record
    { mode = ByteStr; inside = escaped_bytes 34 bs; quoted = in_quotes; units = bytes_inside Strict bs [] h }

c_text : (text inside : List ℕ) (ps : List Part) (bs : List ℕ) → text ≡ codes "c\"" ++ inside ++ codes "\""
    → inside ≡ flat_map part_text ps → Spells Strict [] (flat_map part_text ps) (map part_value ps) bs
    → IsCStrValue text (bs ++ 0 ∷ [])
c_text text inside ps bs e f s = record {
  values = map part_value ps;
  spelled = rw (e, f) (record { mode = CStr; inside = flat_map part_text ps; quoted = in_quotes; units = s.units });
  bytes = ap (λ x. x ++ 0 ∷ []) (sym s.bytes);
}

pub c_string_value : (bs text : List ℕ) → AreBytes bs → has_zero bs ≡ false → IsCString bs text
    → IsCStrValue text (bs ++ 0 ∷ [])
c_string_value bs text b z s =
    let w = s.written in
    c_text text s.inside w.parts bs s.quoted w.same (c_inside Strict [] w.parts bs w.read b z)
