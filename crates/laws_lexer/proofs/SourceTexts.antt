-- Where the tokens of a forest stand in its text.
use Rattle.std.proofs.Common.{◌≡◌, ℕ, ◌+◌, ◌-◌, ◌≤◌, List, ◌++◌, length, take, drop, sym, ap, ◌∙◌, arith, length-append}
use Rattle.std.proofs.Common.{take_at, drop_at}
use Rattle.std.specs.Prelude.{Some, option_map}
use Rattle.rust_map.specs.Answers.{source_of}
use Rattle.rust_map.specs.Bytes.{between_counts}
use Rattle.rust_map.specs.Sources.{Sources, next_position, next_span, next_spot, spot, spot_part, with_text}
use Rattle.rust_map.specs.Spans.{span_from}
use Rattle.rust_map.specs.declared.span.Span.{Span}
use Rattle.rust_map.proofs.SpotLemmas.{part_lies, spot_next}
use Rattle.proc_macro2.specs.Pieces.{span_at}

-- a part of the text that is put in is what the map answers of its span
middle : (text front cs rest : List ℕ) (from to : ℕ) → text ≡ front ++ (cs ++ rest) → from ≡ length front →
    to ≡ from + length cs → between_counts text from to ≡ cs
middle text front cs rest from to e f g =
    let n : to - from ≡ length cs = omega arith in
    ap (take (to - from)) (ap (drop from) e ∙ drop_at front (cs ++ rest) from (sym f))
    ∙ take_at cs rest (to - from) (sym n)

pub found_at : (m : Sources) (text front cs rest : List ℕ) (span : Span) → 1 ≤ m.start → text ≡ front ++ (cs ++ rest) →
    span ≡ span_at (next_position m + length front) (length cs) → source_of (with_text m text) span ≡ Some cs
found_at m text front cs rest span positive e f =
    let from = length front in
    let to = length front + length cs in
    let long : length text ≡ from + (length cs + length rest) = ap length e ∙ length-append front (cs ++ rest)
    ∙ ap (λ n. from + n) (length-append cs rest) in
    let lies = part_lies (next_span m text) from to (omega arith) (omega arith) (with_text m text) (next_spot m text)
    (spot_next m text positive) in
    let ends : next_position m + length front + length cs ≡ next_position m + to = omega arith in
    let there : spot (with_text m text) span ≡
    Some (spot_part (next_spot m text) from to) = ap (λ s. spot (with_text m text) s) (f
    ∙ ap (λ n. span_from (next_position m + from) n) ends) ∙ lies in
    ap (λ o. option_map (λ s. between_counts s.text s.from s.to) o) there
    ∙ ap (λ cs. Some cs) (middle text front cs rest (0 + from) (0 + to) e (omega arith) (omega arith))
