-- The turns and the end of the loop that writes a text between double quotes.
use Rattle.std.proofs.Common.{◌≡◌, ℕ, ◌<◌, ◌≤◌, arith, List, [], ◌∷◌, ◌++◌, refl, sym, ◌∙◌, ap, append_assoc, length}
use Rattle.std.proofs.Common.{inl, inr}
use Rattle.std.specs.Prelude.{Bool, true, false, ◌==◌}
use Rattle.std.specs.Char.{is_ascii, is_ascii_control}
use Rattle.std.specs.List.{list_all}
use Rattle.std.proofs.lemmas.Bool.{and_parts, cases_Bool}
use Rattle.std.proofs.lemmas.Bool.Decides.{nat_tests}
use Rattle.std.proofs.lemmas.List.{append-nil}
use Rattle.rust_escape.specs.LexicalScan.{is_common}
use Rattle.rust_leaf.specs.Escaped.{escaped, escaped_all, is_bare}
use Rattle.rust_lex.proofs.Pieces.{chars_between}
use Rattle.text_chars.specs.Chars.{past}
use Rattle.text_chars.specs.Places.{rest_at, between_places, IsPlace, IsBehind, IsFrom}
use Rattle.text_chars.proofs.Steps.{rest_end}

-- what stands at the front of a text and passes a test, as much as there is
record Front (p : ℕ → Bool) (cs : List ℕ) : Type 0 where
  front : List ℕ
  joined : cs ≡ front ++ past p cs
  pass : list_all p front ≡ true

front_of : (p : ℕ → Bool) (cs : List ℕ) → Front p cs
front_of p [] = record { front = []; joined = refl; pass = refl }
front_of p (c ∷ cs) = elim (cases_Bool (p c)) [
  | inl y ↦
      let r = front_of p cs in
      record { front = c ∷ r.front; joined = rw y (ap (λ x. c ∷ x) r.joined); pass = rw (y, r.pass) refl }
  | inr n ↦ record { front = []; joined = rw n refl; pass = refl }
]

-- a common character stands for itself
common_bare : (c : ℕ) → is_common c ≡ true → is_bare c ≡ true
unfolding is_bare
common_bare c h =
    let ascii : is_ascii c ≡ true = grind (arith, nat_tests) in
    let control : is_ascii_control c ≡ false = grind (arith, nat_tests) in
    rw (ascii, control) refl

common_escaped : (c : ℕ) (next : List ℕ) → is_common c ≡ true → escaped 34 c next ≡ c ∷ []
unfolding escaped
common_escaped c next h =
    let tab : (c == 9) ≡ false = grind (arith, nat_tests) in
    let feed : (c == 10) ≡ false = grind (arith, nat_tests) in
    let return : (c == 13) ≡ false = grind (arith, nat_tests) in
    let slash : (c == 92) ≡ false = grind (arith, nat_tests) in
    let quote : (c == 34) ≡ false = grind (arith, nat_tests) in
    let null : (c == 0) ≡ false = grind (arith, nat_tests) in
    rw (tab, feed, return, slash, quote, null, common_bare c h) refl

commons_escaped : (front rest : List ℕ) → list_all is_common front ≡ true
    → escaped_all 34 (front ++ rest) ≡ front ++ escaped_all 34 rest
commons_escaped [] rest h = refl
commons_escaped (c ∷ cs) rest h =
    let (here, others) = and_parts (is_common c) (list_all is_common cs) h in
    rw (common_escaped c (cs ++ rest) here) (ap (λ x. c ∷ x) (commons_escaped cs rest others))

-- a run of common characters is written
pub run_turn : (bytes out new whole : List ℕ) (at next : ℕ) → out ++ escaped_all 34 (rest_at bytes at) ≡ whole
    → IsPlace bytes at → IsFrom bytes at next → at < next
    → rest_at bytes next ≡ past is_common (rest_at bytes at) → new ≡ out ++ between_places bytes at next
    → new ++ escaped_all 34 (rest_at bytes next) ≡ whole
run_turn bytes out new whole at next w p f l e n =
    let run = front_of is_common (rest_at bytes at) in
    let joined : rest_at bytes at ≡ run.front ++ rest_at bytes next = rw e run.joined in
    let b : IsBehind bytes at next = record { place = f.place; on = l } in
    let is = chars_between bytes run.front at next p b joined in
    ap (λ x. x ++ escaped_all 34 (rest_at bytes next)) (n ∙ ap (λ x. out ++ x) (sym is))
    ∙ append_assoc out run.front (escaped_all 34 (rest_at bytes next))
    ∙ ap (λ x. out ++ x) (sym (commons_escaped run.front (rest_at bytes next) run.pass))
    ∙ ap (λ cs. out ++ escaped_all 34 cs) (sym joined) ∙ w

-- nothing is left
pub text_end : (bytes out whole : List ℕ) (at : ℕ) → length bytes ≤ at
    → out ++ escaped_all 34 (rest_at bytes at) ≡ whole → out ≡ whole
text_end bytes out whole at l w =
    sym (append-nil out) ∙ ap (λ cs. out ++ escaped_all 34 cs) (sym (rest_end bytes at l)) ∙ w
