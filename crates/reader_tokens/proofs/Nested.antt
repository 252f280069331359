-- Whole entries are nested, and so is what is left of them.
use Rattle.std.proofs.Common.{◌≡◌, ℕ, zero, suc, ◌≤◌, ◌<◌, List, [], ◌∷◌, ◌++◌, length, take, drop, refl, sym, ap}
use Rattle.std.proofs.Common.{◌∙◌, ◌-◌, arith, append_assoc, length-drop, length-take}
use Rattle.std.specs.Prelude.{Bool, true, false, ◌&&◌, ◌==◌, not}
use Rattle.std.proofs.lemmas.List.{append-nil, take-append-drop, take-append-le, drop-append-le}
use Rattle.rust_map.specs.declared.span.Span.{Span}
use Rattle.rust_leaf.specs.Leaf.{literal_text}
use Rattle.rust_leaf.specs.Minus.{starts_with_minus}
use Rattle.proc_macro2.specs.declared.delimiter.Delimiter.{Delimiter}
use Rattle.proc_macro2.specs.Groups.{same_delimiter}
use Rattle.syn_buffer.specs.Entries.{closes_with, laid, is_whole, same_span}
use Rattle.std.proofs.lemmas.Bool.{eqb-true, eq-eqb}
use Rattle.rust_map.specs.Spans.{span_from}
use Rattle.syn_grammar.proofs.Splits.{same_delimiters, delimiter_same}
use Rattle.syn_buffer.specs.declared.entry.Entry.{Entry}
use Rattle.syn_buffer.specs.declared.entry.Entry.TheVariants as entry
use Rattle.reader_tokens.specs.Nested.{is_nested}

pub both : (a b : Bool) → (a && b) ≡ true → (a ≡ true) × (b ≡ true)
both true b e = (refl, e)
both false b e = cc

pub both_true : (a b : Bool) → a ≡ true → b ≡ true → (a && b) ≡ true
both_true true b e f = f
both_true false b e f = cc

-- the mark that closes a group
closes_as : (d e : Delimiter) (s t : Span) (es : List Entry) → closes_with d s (entry.Close e t ∷ es) ≡ true
    → entry.Close e t ≡ entry.Close d s
closes_as d e s t es h =
    let p = both (same_delimiter e d) (same_span t s) h in
    let q = both (t.start == s.start) (t.end == s.end) p.1 in
    let a : e ≡ d = same_delimiters e d p.0 in
    let b : t ≡ s = ap (λ x. span_from x t.end) (eqb-true t.start s.start q.0)
    ∙ ap (span_from s.start) (eqb-true t.end s.end q.1) in
    ap (λ x. entry.Close x t) a ∙ ap (entry.Close d) b

closing : (d : Delimiter) (s : Span) (n : ℕ) (es : List Entry) → closes_with d s (drop n es) ≡ true
    → drop n es ≡ entry.Close d s ∷ drop (suc n) es
closing d s zero [] h = cc
closing d s (suc n) [] h = cc
closing d s zero (entry.Close e t ∷ es) h = ap (λ x. x ∷ es) (closes_as d e s t es h)
closing d s zero (entry.Open e t n ∷ es) h = cc
closing d s zero (entry.Ident i ∷ es) h = cc
closing d s zero (entry.Punct p ∷ es) h = cc
closing d s zero (entry.Literal l ∷ es) h = cc
closing d s (suc n) (e ∷ es) h = closing d s n es h

closes_self : (d : Delimiter) (s : Span) (es : List Entry) → closes_with d s (entry.Close d s ∷ es) ≡ true
closes_self d s es =
    both_true _ _ (delimiter_same d) (both_true _ _ (eq-eqb s.start s.start refl) (eq-eqb s.end s.end refl))

-- enough fuel is as good as any
pub laid_any : (k m : ℕ) (es : List Entry) → laid false k es ≡ true → length es ≤ m → laid false m es ≡ true
laid_any k m [] h l = refl
laid_any zero m (e ∷ es) h l = cc
laid_any (suc k) zero (e ∷ es) h l = absurd (omega arith)
laid_any (suc k) (suc m) (entry.Open d s n ∷ es) h l =
    let p = both (closes_with d s (drop n es)) _ h in
    let q = both (laid false k (take n es)) _ p.1 in
    both_true _ _ p.0 (both_true _ _
    (laid_any k m (take n es) q.0 (omega (arith, length-take n es)))
    (laid_any k m (drop (suc n) es) q.1 (omega (arith, length-drop (suc n) es))))
laid_any (suc k) (suc m) (entry.Close d s ∷ es) h l = cc
laid_any (suc k) (suc m) (entry.Ident i ∷ es) h l = laid_any k m es h (omega arith)
laid_any (suc k) (suc m) (entry.Punct p ∷ es) h l = laid_any k m es h (omega arith)
laid_any (suc k) (suc m) (entry.Literal i ∷ es) h l =
    let p = both (not (starts_with_minus (literal_text i.now))) _ h in
    both_true _ _ p.0 (laid_any k m es p.1 (omega arith))

pub within : (d : Delimiter) (s : Span) (n : ℕ) (es : List Entry) → closes_with d s (drop n es) ≡ true → n < length es
within d s zero [] h = cc
within d s (suc n) [] h = cc
within d s zero (e ∷ es) h = omega arith
within d s (suc n) (e ∷ es) h = omega (arith, within d s n es h)

-- the parts of entries behind a mark that opens a group
pub parts : (d : Delimiter) (s : Span) (n : ℕ) (es : List Entry) → closes_with d s (drop n es) ≡ true
    → es ≡ take n es ++ entry.Close d s ∷ drop (suc n) es
parts d s n es h = sym (take-append-drop n es) ∙ ap (λ x. take n es ++ x) (closing d s n es h)

-- whole entries before nested ones
nested_before : (k : ℕ) (a b : List Entry) → laid false k a ≡ true → is_nested b ≡ true → is_nested (a ++ b) ≡ true
nested_before k [] b h l = l
nested_before zero (e ∷ a) b h l = cc
nested_before (suc k) (entry.Open d s n ∷ a) b h l =
    let p = both (closes_with d s (drop n a)) _ h in
    let q = both (laid false k (take n a)) _ p.1 in
    let w : n < length a = within d s n a p.0 in
    both_true _ _
    (both_true _ _
    (ap is_whole (take-append-le n a b (omega arith))
    ∙ laid_any k (length (take n a)) (take n a) q.0 (omega arith))
    (ap (closes_with d s) (drop-append-le n a b (omega arith) ∙ ap (λ x. x ++ b) (closing d s n a p.0))
    ∙ closes_self d s (drop (suc n) a ++ b)))
    (ap (λ x. is_nested (x ++ b)) (parts d s n a p.0)
    ∙ ap is_nested (append_assoc (take n a) (entry.Close d s ∷ drop (suc n) a) b)
    ∙ nested_before k (take n a) (entry.Close d s ∷ (drop (suc n) a ++ b)) q.0
    (nested_before k (drop (suc n) a) b q.1 l))
nested_before (suc k) (entry.Close d s ∷ a) b h l = cc
nested_before (suc k) (entry.Ident i ∷ a) b h l = nested_before k a b h l
nested_before (suc k) (entry.Punct p ∷ a) b h l = nested_before k a b h l
nested_before (suc k) (entry.Literal i ∷ a) b h l =
    nested_before k a b (both (not (starts_with_minus (literal_text i.now))) _ h).1 l

pub whole_nested : (es : List Entry) → is_whole es ≡ true → is_nested es ≡ true
whole_nested es h = sym (ap is_nested (append-nil es)) ∙ nested_before (length es) es [] h refl

pub nested_tail : (e : Entry) (es : List Entry) → is_nested (e ∷ es) ≡ true → is_nested es ≡ true
nested_tail (entry.Open d s n) es h = (both (is_whole (take n es) && closes_with d s (drop n es)) _ h).1
nested_tail (entry.Close d s) es h = h
nested_tail (entry.Ident i) es h = h
nested_tail (entry.Punct p) es h = h
nested_tail (entry.Literal l) es h = h

pub nested_drop : (n : ℕ) (es : List Entry) → is_nested es ≡ true → is_nested (drop n es) ≡ true
nested_drop zero es h = h
nested_drop (suc n) [] h = refl
nested_drop (suc n) (e ∷ es) h = nested_drop n es (nested_tail e es h)

pub nested_first : (e : Entry) (es fs : List Entry) → es ≡ e ∷ fs → is_nested es ≡ true → is_nested fs ≡ true
nested_first e es fs h n = nested_tail e fs (ap is_nested (sym h) ∙ n)

pub taken_all : (k : ℕ) (es : List Entry) → length es ≤ k → take k es ≡ es
taken_all zero [] h = refl
taken_all (suc k) [] h = refl
taken_all zero (e ∷ es) h = absurd (omega arith)
taken_all (suc k) (e ∷ es) h = ap (λ x. e ∷ x) (taken_all k es (omega arith))

pub nested_behind : (n : ℕ) (es : List Entry) → is_nested es ≡ true
    → is_nested (take (length es - n) (drop n es)) ≡ true
nested_behind n es h = ap is_nested (taken_all (length es - n) (drop n es) (omega (arith, length-drop n es)))
    ∙ nested_drop n es h
