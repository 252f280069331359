-- The marks of a punctuation, one behind the other.
use Rattle.std.proofs.Common.{◌≡◌, ℕ, zero, suc, ◌+◌, ◌<◌, ◌≤◌, List, [], ◌∷◌, ◌++◌, length, get_or, drop}
use Rattle.std.proofs.Common.{replicate, arith, refl, sym, ap, ◌∙◌, append_assoc, length-append}
use Rattle.std.proofs.Math.Seq.{drop-cons}
use Rattle.std.proofs.lemmas.List.{append-nil, drop_all, length-replicate, length-take-le, get_or-take}
use Rattle.rust_map.specs.declared.span.Span.{Span}
use Rattle.proc_macro2.specs.Token.{Spacing, Alone, Joint, Spanned}
use Rattle.proc_macro2.specs.Token as token
use Rattle.proc_macro2.specs.Flat.{spanned}
use Rattle.syn_kinds.specs.Table.{marks, sign}
use Rattle.syn_kinds.specs.Values.{marks_tokens, spacing_before}

-- a punctuation has as many marks as it is to have
pub marks_count : (kind count : ℕ) → length (marks kind count) ≡ count
unfolding marks
marks_count kind count =
    length-take-le count (sign kind ++ replicate count 126)
    (omega (arith, length-append (sign kind) (replicate count 126), length-replicate {A = ℕ} count 126))

all_same : (n i d : ℕ) → get_or (replicate n d) i d ≡ d
all_same zero i d = refl
all_same (suc n) zero d = refl
all_same (suc n) (suc i) d = all_same n i d

filled : (cs : List ℕ) (n i d : ℕ) → get_or (cs ++ replicate n d) i d ≡ get_or cs i d
filled [] n i d = all_same n i d
filled (c ∷ cs) n zero d = refl
filled (c ∷ cs) n (suc i) d = filled cs n i d

-- each of them is that of its row, or ~
pub mark_at : (kind count index : ℕ) → index < count → get_or (marks kind count) index 126
    ≡ get_or (sign kind) index 126
unfolding marks
mark_at kind count index below =
    get_or-take count (sign kind ++ replicate count 126) index 126 below ∙ filled (sign kind) count index 126

pub spacing_joint : (cs : List ℕ) (n : ℕ) → n < length cs → spacing_before (drop n cs) ≡ Joint
spacing_joint [] n below = absurd (omega arith)
spacing_joint (c ∷ cs) zero below = refl
spacing_joint (c ∷ cs) (suc n) below = spacing_joint cs n (omega arith)

pub spacing_alone : (cs : List ℕ) (n : ℕ) → length cs ≤ n → spacing_before (drop n cs) ≡ Alone
spacing_alone cs n past = ap spacing_before (drop_all n cs past)

-- one more has been put
pub one_more : (cs : List ℕ) (spans : List Span) (index c : ℕ) (span other : Span) (spacing : Spacing)
    (old new all : List Spanned)
    → index < length cs → index < length spans → c ≡ get_or cs index 126 → span ≡ get_or spans index other
    → spacing ≡ spacing_before (drop (index + 1) cs) → new ≡ old ++ spanned (token.Punct c spacing) span ∷ []
    → old ++ marks_tokens (drop index cs) (drop index spans) ≡ all
    → new ++ marks_tokens (drop (index + 1) cs) (drop (index + 1) spans) ≡ all
one_more cs spans index c span other spacing old new all mark_below span_below is_mark is_span is_spacing put left =
    let next : index + 1 ≡ suc index = omega arith in
    let more : marks_tokens (drop index cs) (drop index spans)
    ≡ spanned (token.Punct c spacing) span ∷ marks_tokens (drop (index + 1) cs) (drop (index + 1) spans) =
    ap (λ ds. marks_tokens ds (drop index spans)) (drop-cons cs index 126 mark_below)
    ∙ ap (λ ss. marks_tokens (get_or cs index 126 ∷ drop (suc index) cs) ss) (drop-cons spans index other span_below)
    ∙ ap (λ n. spanned (token.Punct (get_or cs index 126) (spacing_before (drop n cs))) (get_or spans index other) ∷
    marks_tokens (drop n cs) (drop n spans)) (sym next)
    ∙ ap (λ d. spanned (token.Punct d (spacing_before (drop (index + 1) cs))) (get_or spans index other) ∷ marks_tokens
    (drop (index + 1) cs) (drop (index + 1) spans)) (sym is_mark)
    ∙ ap (λ s. spanned (token.Punct c (spacing_before (drop (index + 1) cs))) s ∷ marks_tokens (drop (index + 1) cs)
    (drop (index + 1) spans)) (sym is_span)
    ∙ ap (λ s. spanned (token.Punct c s) span ∷ marks_tokens (drop (index + 1) cs) (drop (index + 1) spans))
    (sym is_spacing) in
    ap (λ ts. ts ++ marks_tokens (drop (index + 1) cs) (drop (index + 1) spans)) put
    ∙ append_assoc old (spanned (token.Punct c spacing) span ∷ [])
    (marks_tokens (drop (index + 1) cs) (drop (index + 1) spans))
    ∙ ap (λ ts. old ++ ts) (sym more) ∙ left

-- all have been put
pub all_put : (cs : List ℕ) (spans : List Span) (index : ℕ) (new all : List Spanned) → length cs ≤ index
    → new ++ marks_tokens (drop index cs) (drop index spans) ≡ all → new ≡ all
all_put cs spans index new all past left =
    sym (append-nil new) ∙ sym (ap (λ ds. new ++ marks_tokens ds (drop index spans)) (drop_all index cs past)) ∙ left
