-- A number in plain decimal begins with no minus.
use Rattle.std.proofs.Common.{◌≡◌, ◌<◌, ◌^◌, ℕ, zero, suc, get_or, List, [], ◌∷◌, refl, ap, ◌∙◌, arith}
use Rattle.std.specs.Prelude.{false, if◌then◌else◌, drop}
use Rattle.std.specs.Fmt.{decimal}
use Rattle.std.proofs.lemmas.Fmt.{decimal_digit, first_decimal}
use Rattle.std.proofs.lemmas.Bool.{ne_eqb}
use Rattle.syn_error.proofs.Fronts.{keeps_same, push_keeps}
use Rattle.rust_map.specs.declared.span.Span.{Span}
use Rattle.rust_leaf.specs.Minus.{minus, starts_with_minus}
use Rattle.proc_macro2.specs.Entered.{literal_entered}
use Rattle.proc_macro2.specs.Flat.{spanned}
use Rattle.proc_macro2.specs.Token.{Literal, Punct, Alone}

above : (cs : List ℕ) → 45 < get_or cs 0 0 → starts_with_minus cs ≡ false
above [] h = refl
above (c ∷ cs) h = ne_eqb c 45 (λ e. absurd (omega arith))

no_minus : (n : ℕ) → n < 2 ^ 64 → starts_with_minus (decimal n) ≡ false
no_minus zero h = ap starts_with_minus (decimal_digit 0 (omega arith))
no_minus (suc n) h = above (decimal (suc n)) (omega (arith, first_decimal (suc n) (omega arith) h))

-- a number's literal is put into a stream as it is
pub entered_index : (cs : List ℕ) (n : ℕ) (s t : Span) → n < 2 ^ 32 → cs ≡ decimal n → s ≡ t
    → literal_entered cs s ≡ spanned (Literal (decimal n)) t ∷ []
entered_index cs n s t h e p =
    let b : starts_with_minus cs ≡ false = ap starts_with_minus e ∙ no_minus n (omega arith) in
    ap (λ v. if v then spanned (Punct minus Alone) s ∷ spanned (Literal (drop 1 cs)) s ∷ []
    else spanned (Literal cs) s ∷ []) b
    ∙ ap (λ v. spanned (Literal v) s ∷ []) e ∙ ap (λ q. spanned (Literal (decimal n)) q ∷ []) p

pub ruleset entered = (entered_index, keeps_same, push_keeps)
