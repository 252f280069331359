-- A reserved word is one of those that begin as it does and are as long.
use Rattle.std.proofs.Common.{◌≡◌, ℕ, List, [], ◌∷◌, length, take, refl, sym, ap, ◌∙◌}
use Rattle.std.specs.Prelude.{Bool, true, false, ◌==◌, ◌&&◌, ◌||◌, cond, encode_utf8_all}
use Rattle.std.specs.List.{list_all}
use Rattle.std.specs.Str.{bytes_eq, chars}
use Rattle.std.proofs.lemmas.Bool.{eq-eqb}
use Rattle.std.proofs.lemmas.Slice.Eq.{bytes_eq-Decides}
use Rattle.rust_leaf.specs.Keywords.{is_among, is_reserved, reserved, same_text}
use Rattle.reader_tokens.specs.Such.{is_either, is_such, neither}
use Rattle.reader_tokens.proofs.Nested.{both, both_true}

-- words whose characters are their bytes
abbrev is_plain : List ℕ → Bool
is_plain cs = bytes_eq (encode_utf8_all cs) cs

reserved_plain : list_all is_plain reserved ≡ true
unfolding lib.Utf8.encode
reserved_plain = refl

word_passes : (b n : ℕ) (p : List ℕ → Bool) (w : List ℕ) → is_such b n p w ≡ true → take 1 w ≡ b ∷ [] → n ≡ length w
    → p w ≡ true
word_passes b n p [] h f l = absurd (cc f)
word_passes b n p (c ∷ cs) h f l =
    sym (ap (λ x. cond x (p (c ∷ cs)) true) (both_true (c == b) (length (c ∷ cs) == n) (eq-eqb c b (cc f))
    (eq-eqb (length (c ∷ cs)) n (sym l)))) ∙ h

among_passes : (b n : ℕ) (p : List ℕ → Bool) (ws : List (List ℕ)) (cs : List ℕ) → list_all is_plain ws ≡ true
    → list_all (is_such b n p) ws ≡ true → is_among ws cs ≡ true → take 1 (encode_utf8_all cs) ≡ b ∷ []
    → n ≡ length (encode_utf8_all cs) → p cs ≡ true
among_passes b n p [] cs k h a f l = absurd (cc a)
among_passes b n p (w ∷ ws) cs k h a f l =
    by (same_text w cs) refl
    (λ e. among_passes b n p ws cs ks.1 hs.1 (sym (ap (λ x. x || is_among ws cs) e) ∙ a) f l)
  where
    ks : (is_plain w ≡ true) × (list_all is_plain ws ≡ true)
    ks = both (is_plain w) (list_all is_plain ws) k

    hs : (is_such b n p w ≡ true) × (list_all (is_such b n p) ws ≡ true)
    hs = both (is_such b n p w) (list_all (is_such b n p) ws) h

    by : (t : Bool) → same_text w cs ≡ t → (same_text w cs ≡ false → p cs ≡ true) → p cs ≡ true
    by false e others = others e
    by true e others =
        let is : w ≡ cs = (bytes_eq-Decides w cs).0 e in
        let same : encode_utf8_all cs ≡ w = ap encode_utf8_all (sym is)
        ∙ (bytes_eq-Decides (encode_utf8_all w) w).0 ks.0 in
        ap p (sym is) ∙ word_passes b n p w hs.0 (sym (ap (take 1) same) ∙ f) (l ∙ ap length same)

passes : (b n : ℕ) (p : List ℕ → Bool) (cs : List ℕ) → list_all (is_such b n p) reserved ≡ true
    → take 1 (encode_utf8_all cs) ≡ b ∷ [] → n ≡ length (encode_utf8_all cs) → is_reserved cs ≡ true → p cs ≡ true
unfolding is_reserved
passes b n p cs h f l a = among_passes b n p reserved cs reserved_plain h a f l

one_way : (a b : Bool) → (a ≡ true → b ≡ true) → (b ≡ true → a ≡ true) → a ≡ b
one_way true true f g = refl
one_way false false f g = refl
one_way true false f g = sym (f refl)
one_way false true f g = g refl

pub no_such : (b n : ℕ) (cs : List ℕ) → list_all (is_such b n neither) reserved ≡ true
    → take 1 (encode_utf8_all cs) ≡ b ∷ [] → n ≡ length (encode_utf8_all cs) → false ≡ is_reserved cs
no_such b n cs h f l = one_way false (is_reserved cs) (λ e. cc e) (passes b n neither cs h f l)

is_kept : (one other cs : List ℕ) → (is_reserved one && is_reserved other) ≡ true → is_either one other cs ≡ true
    → is_reserved cs ≡ true
is_kept one other cs r e = by (same_text one cs) refl e
  where
    rs : (is_reserved one ≡ true) × (is_reserved other ≡ true)
    rs = both (is_reserved one) (is_reserved other) r

    by : (t : Bool) → same_text one cs ≡ t → (t || same_text other cs) ≡ true → is_reserved cs ≡ true
    by true h e = ap is_reserved (sym ((bytes_eq-Decides one cs).0 h)) ∙ rs.0
    by false h e = ap is_reserved (sym ((bytes_eq-Decides other cs).0 e)) ∙ rs.1

-- and its characters are its bytes
all_among : (p : List ℕ → Bool) (ws : List (List ℕ)) (cs : List ℕ) → list_all p ws ≡ true → is_among ws cs ≡ true
    → p cs ≡ true
all_among p [] cs h a = absurd (cc a)
all_among p (w ∷ ws) cs h a =
    by (same_text w cs) refl (λ e. all_among p ws cs hs.1 (sym (ap (λ x. x || is_among ws cs) e) ∙ a))
  where
    hs : (p w ≡ true) × (list_all p ws ≡ true)
    hs = both (p w) (list_all p ws) h

    by : (t : Bool) → same_text w cs ≡ t → (same_text w cs ≡ false → p cs ≡ true) → p cs ≡ true
    by false e others = others e
    by true e others = ap p (sym ((bytes_eq-Decides w cs).0 e)) ∙ hs.0

abbrev is_spelt : List ℕ → Bool
is_spelt cs = bytes_eq (chars cs) cs

reserved_spelt : list_all is_spelt reserved ≡ true
unfolding chars
reserved_spelt = refl

spelt : (cs : List ℕ) → is_reserved cs ≡ true → chars cs ≡ cs
unfolding is_reserved
spelt cs a = (bytes_eq-Decides (chars cs) cs).0 (all_among is_spelt reserved cs reserved_spelt a)

pub such : (b n : ℕ) (one other cs : List ℕ) (r : Bool)
    → list_all (is_such b n (is_either one other)) reserved ≡ true → (is_reserved one && is_reserved other) ≡ true
    → take 1 (encode_utf8_all cs) ≡ b ∷ [] → n ≡ length (encode_utf8_all cs)
    → r ≡ is_either (chars one) (chars other) cs → r ≡ is_reserved cs
such b n one other cs r h k f l e =
    e ∙ ap (λ x. is_either x (chars other) cs) (spelt one ks.0) ∙ ap (λ x. is_either one x cs) (spelt other ks.1)
    ∙ one_way (is_either one other cs) (is_reserved cs) (is_kept one other cs k)
    (passes b n (is_either one other) cs h f l)
  where
    ks : (is_reserved one ≡ true) × (is_reserved other ≡ true)
    ks = both (is_reserved one) (is_reserved other) k
