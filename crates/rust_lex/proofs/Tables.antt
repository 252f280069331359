-- The tables of ASCII are held against the definitions at each character, by computing.
use Rattle.std.proofs.Common.{◌≡◌, ℕ, ◌<◌, List, [], ◌∷◌, get_or, map, refl, sym, ◌∙◌, zero-le}
use Rattle.std.specs.Prelude.{not, ◌||◌, ◌==◌}
use Rattle.std.specs.Char.{is_ascii_alphanumeric}
use Rattle.std.proofs.lemmas.Bool.{agree_below_at}
use Rattle.unicode_ident.proofs.Computing.{unicode_ident}
use Rattle.rust_lex.specs.declared.front.TheConstants.{FRONTS}
use Rattle.rust_lex.specs.declared.walk.TheConstants.{NEXTS}
use Rattle.rust_lex.specs.Chars.{is_digit, is_first, is_mark_but_tick, is_next, is_white}
use Rattle.rust_lex.specs.Scan.{Front, front_by, front_of}
use Rattle.rust_lex.proofs.Fronts.{Each, among_each, in_between, next_ascii, up_from}

each_same : (f g : ℕ → Front) (cs : List ℕ) → map f cs ≡ map g cs → Each (λ d. f d ≡ g d) cs
each_same f g [] e = tt
each_same f g (c ∷ cs) e =
    let here : f c ≡ g c = cc in
    let others : map f cs ≡ map g cs = cc in
    (here, each_same f g cs others)

pub table_front : (c : ℕ) → c < 128 → front_by (get_or FRONTS c 0) ≡ front_of c
unfolding front_of is_white is_first is_mark_but_tick is_digit unicode_ident
table_front c h = among_each (λ d. front_by (get_or FRONTS d 0) ≡ front_of d) (up_from 0 128)
    (each_same (λ d. front_by (get_or FRONTS d 0)) front_of (up_from 0 128) refl) c (in_between 0 128 c zero-le h)

pub table_next : (c : ℕ) → c < 128 → not (get_or NEXTS c 0 == 46) ≡ is_next c
table_next c h =
    agree_below_at (λ k. not (get_or NEXTS k 0 == 46)) (λ k. is_ascii_alphanumeric k || (k == 95)) 128 c refl h
    ∙ sym (next_ascii c h)
