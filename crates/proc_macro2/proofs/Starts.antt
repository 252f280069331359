-- A text that begins with another: in bytes just where it does in characters.
use Rattle.std.proofs.Common.{◌≡◌, ℕ, List, [], ◌∷◌, ◌++◌, length, drop, Bool, true, false, ◌==◌, nat_eq, refl, sym}
use Rattle.std.proofs.Common.{ap, ◌∙◌, append_assoc, encode_utf8_all, encode_utf8}
use Rattle.std.specs.List.{starts_with}
use Rattle.std.specs.Str.{chars, IsAscii, IsUtf8}
use Rattle.std.proofs.lemmas.Bool.Decides.{Decides-eqb}
use Rattle.std.proofs.lemmas.Slice.Eq.{starts_is}
use Rattle.std.proofs.lemmas.Str.{cons_from_encodes, encodes-append, encodes-chars, IsUtf8-from_ascii, chars-IsAscii}
use Rattle.std.proofs.lemmas.Bool.{eqb-true, eq-eqb}
use Rattle.proc_macro2.specs.Spacing.{is_character, quote}
use Rattle.proc_macro2.proofs.Standing.{and_true}

-- the bytes of the characters at the front tell those characters
front : (ps cs zs : List ℕ) → encode_utf8_all cs ≡ encode_utf8_all ps ++ zs → (es : List ℕ) × (cs ≡ ps ++ es)
front [] cs zs e = (cs, refl)
front (p ∷ ps) cs zs e =
    let k = cons_from_encodes cs (encode_utf8_all ps ++ zs) p (e ∙ append_assoc (encode_utf8 p) (encode_utf8_all ps) zs)
    in
    let m = front ps k.0 zs k.2 in
    (m.0, k.1 ∙ ap (λ l. p ∷ l) m.1)

same : (a b : Bool) → (a ≡ true → b ≡ true) → (b ≡ true → a ≡ true) → a ≡ b
same true b h k = sym (h refl)
same false true h k = k refl
same false false h k = refl

starts_same : (bs ps : List ℕ) → IsUtf8 bs → IsUtf8 ps
    → starts_with nat_eq bs ps ≡ starts_with nat_eq (chars bs) (chars ps)
starts_same bs ps u v = same (starts_with nat_eq bs ps) (starts_with nat_eq (chars bs) (chars ps)) in_chars in_bytes
  where
    in_chars : starts_with nat_eq bs ps ≡ true → starts_with nat_eq (chars bs) (chars ps) ≡ true
    in_chars h =
        let e : bs ≡ ps ++ drop (length ps) bs = (starts_is Decides-eqb bs ps _ refl).0 h in
        let m = front (chars ps) (chars bs) (drop (length ps) bs)
        (encodes-chars bs u ∙ e ∙ ap (λ l. l ++ drop (length ps) bs) (sym (encodes-chars ps v))) in
        (starts_is Decides-eqb (chars bs) (chars ps) _ refl).1 m.0 m.1

    in_bytes : starts_with nat_eq (chars bs) (chars ps) ≡ true → starts_with nat_eq bs ps ≡ true
    in_bytes h =
        let rest = drop (length (chars ps)) (chars bs) in
        let e : chars bs ≡ chars ps ++ rest = (starts_is Decides-eqb (chars bs) (chars ps) _ refl).0 h in
        (starts_is Decides-eqb bs ps _ refl).1 (encode_utf8_all rest)
        (sym (encodes-chars bs u) ∙ ap encode_utf8_all e ∙ encodes-append (chars ps) rest
        ∙ ap (λ l. l ++ encode_utf8_all rest) (encodes-chars ps v))

pub starts_ascii : (bs ps : List ℕ) → IsUtf8 bs → IsAscii ps
    → starts_with nat_eq bs ps ≡ starts_with nat_eq (chars bs) ps
starts_ascii bs ps u a = starts_same bs ps u (IsUtf8-from_ascii ps a)
    ∙ ap (starts_with nat_eq (chars bs)) (chars-IsAscii ps a)

-- a text that begins with '
pub starts_quote : (cs : List ℕ) → starts_with nat_eq cs (quote ∷ []) ≡ is_character cs
starts_quote [] = refl
starts_quote (c ∷ cs) = and_true (quote == c)
    ∙ same (quote == c) (c == quote) (λ h. eq-eqb c quote (sym (eqb-true quote c h)))
    (λ h. eq-eqb quote c (sym (eqb-true c quote h)))
