-- Whole entries: what is left of them, and the groups among them, as a run of the grammar sees them.
use Rattle.std.proofs.Common.{◌≡◌, ℕ, zero, suc, ◌+◌, ◌-◌, ◌<◌, ◌≤◌, List, [], ◌∷◌, ◌++◌, length, take, drop, refl, sym}
use Rattle.std.proofs.Common.{ap, ◌∙◌, arith}
use Rattle.std.proofs.Common.{add-one, add-one, append_assoc, length-drop, length-take}
use Rattle.std.proofs.lemmas.List.{append-nil, take_all}
use Rattle.std.specs.Prelude.{Bool, true, false, ◌&&◌, not, cond}
use denote.Ref.{Bor}
use Rattle.rust_leaf.specs.declared.literal.Literal as Literals
use Rattle.rust_map.specs.declared.span.Span.{Span}
use Rattle.rust_leaf.specs.Leaf.{literal_text}
use Rattle.rust_leaf.specs.Minus.{starts_with_minus}
use Rattle.proc_macro2.specs.declared.delimiter.Delimiter.{Delimiter}
use Rattle.proc_macro2.specs.Groups.{same_delimiter}
use Rattle.proc_macro2.specs.Token.{Token, Opens, Closes, Ident, Literal, Punct}
use Rattle.syn_buffer.specs.Entries.{entry_token, closes_with, is_whole, laid, same_span}
use Rattle.syn_buffer.specs.declared.entry.Entry.{Entry}
use Rattle.syn_buffer.specs.declared.entry.Entry.TheVariants as entry
use Rattle.syn_grammar.specs.Gram.{closes_all, is_balanced}
use Rattle.syn_grammar.specs.Run.{Out, Split, Inside, onto, split, Refused, group_at, whole}
use Rattle.syn_grammar.specs.Run.{within as within_group}
use Rattle.syn_grammar.proofs.Splits.{delimiter_same, neutral_raw, same_delimiters}
use Rattle.syn_grammar.proofs.Whole.{and_true}
use Rattle.reader_steps.specs.Answers.{tokens}

both_true : (a b : Bool) → a ≡ true → b ≡ true → (a && b) ≡ true
both_true true b e f = f
both_true false b e f = cc

-- enough fuel is as good as any
laid_any : (k m : ℕ) (es : List Entry) → laid false k es ≡ true → length es ≤ m → laid false m es ≡ true
laid_any k m [] h l = refl
laid_any zero m (e ∷ es) h l = cc
laid_any (suc k) zero (e ∷ es) h l = absurd (omega arith)
laid_any (suc k) (suc m) (entry.Open d s n ∷ es) h l =
    let p = and_true (closes_with d s (drop n es)) _ h in
    let q = and_true (laid false k (take n es)) _ p.1 in
    both_true _ _ p.0 (both_true _ _
    (laid_any k m (take n es) q.0 (omega (arith, length-take n es)))
    (laid_any k m (drop (suc n) es) q.1 (omega (arith, length-drop (suc n) es))))
laid_any (suc k) (suc m) (entry.Close d s ∷ es) h l = cc
laid_any (suc k) (suc m) (entry.Ident i ∷ es) h l = laid_any k m es h (omega arith)
laid_any (suc k) (suc m) (entry.Punct p ∷ es) h l = laid_any k m es h (omega arith)
laid_any (suc k) (suc m) (entry.Literal i ∷ es) h l =
    let p = and_true (not (starts_with_minus (literal_text i.now))) _ h in
    both_true _ _ p.0 (laid_any k m es p.1 (omega arith))

-- the tokens behind one that opens a group: its inside, what closes it, and the others
parts : (d : Delimiter) (s : Span) (n : ℕ) (es : List Entry) → closes_with d s (drop n es) ≡ true
    → tokens es ≡ tokens (take n es) ++ Closes d ∷ tokens (drop (suc n) es)
parts d s zero [] h = cc
parts d s (suc n) [] h = cc
parts d s zero (entry.Close e t ∷ es) h =
    ap (λ c. Closes c ∷ tokens es) (same_delimiters e d (and_true (same_delimiter e d) (same_span t s) h).0)
parts d s zero (entry.Open e t n ∷ es) h = cc
parts d s zero (entry.Ident i ∷ es) h = cc
parts d s zero (entry.Punct p ∷ es) h = cc
parts d s zero (entry.Literal l ∷ es) h = cc
parts d s (suc n) (e ∷ es) h = ap (λ ts. entry_token e ∷ ts) (parts d s n es h)

stands_within : (d : Delimiter) (s : Span) (n : ℕ) (es : List Entry) → closes_with d s (drop n es) ≡ true
    → n < length es
stands_within d s zero [] h = cc
stands_within d s (suc n) [] h = cc
stands_within d s zero (e ∷ es) h = omega arith
stands_within d s (suc n) (e ∷ es) h = omega (arith, stands_within d s n es h)

closes_past : (n k : ℕ) (es : List Entry) (us : List Token) → laid false k es ≡ true
    → closes_all n (tokens es ++ us) ≡ closes_all n us
closes_past n k [] us h = refl
closes_past n zero (e ∷ es) us h = cc
closes_past n (suc k) (entry.Open d s m ∷ es) us h =
    let p = and_true (closes_with d s (drop m es)) _ h in
    let q = and_true (laid false k (take m es)) _ p.1 in
    let rest : List Token = tokens (drop (suc m) es) in
    ap (λ ts. closes_all (suc n) (ts ++ us)) (parts d s m es p.0)
    ∙ ap (closes_all (suc n)) (append_assoc (tokens (take m es)) (Closes d ∷ rest) us)
    ∙ closes_past (suc n) k (take m es) (Closes d ∷ rest ++ us) q.0
    ∙ closes_past n k (drop (suc m) es) us q.1
closes_past n (suc k) (entry.Close d s ∷ es) us h = cc
closes_past n (suc k) (entry.Ident i ∷ es) us h = closes_past n k es us h
closes_past n (suc k) (entry.Punct p ∷ es) us h = closes_past n k es us h
closes_past n (suc k) (entry.Literal i ∷ es) us h =
    closes_past n k es us (and_true (not (starts_with_minus (literal_text i.now))) _ h).1

-- as many groups close as open
pub whole_balanced : (es : List Entry) → is_whole es ≡ true → is_balanced (tokens es) ≡ true
whole_balanced es h =
    ap (closes_all 0) (sym (append-nil (tokens es))) ∙ closes_past 0 (length es) es [] h

split_inside : (xs : List Token) (d : Delimiter) (us : List Token) → is_balanced xs ≡ true
    → split 0 (xs ++ Closes d ∷ us) ≡ Inside xs d us
unfolding split
split_inside xs d us b = (neutral_raw xs b).by 0 (Closes d ∷ us) ∙ ap (λ ts. Inside ts d us) (append-nil xs)

-- what is left behind a literal
pub behind_literal : (l : Bor Literals.Literal) (es : List Entry) → is_whole (entry.Literal l ∷ es) ≡ true → is_whole es
    ≡ true
behind_literal l es h = (and_true (not (starts_with_minus (literal_text l.now))) _ h).1

-- a group that opens: so many entries stand inside, those are whole, and so are the others behind it
pub within : (d : Delimiter) (s : Span) (n : ℕ) (es : List Entry) → is_whole (entry.Open d s n ∷ es) ≡ true
    → n < length es
within d s n es h = stands_within d s n es (and_true (closes_with d s (drop n es)) _ h).0

pub inside_whole : (d : Delimiter) (s : Span) (n : ℕ) (es : List Entry) → is_whole (entry.Open d s n ∷ es) ≡ true
    → is_whole (take n es) ≡ true
inside_whole d s n es h =
    let p = and_true (closes_with d s (drop n es)) _ h in
    let q = and_true (laid false (length es) (take n es)) _ p.1 in
    laid_any (length es) (length (take n es)) (take n es) q.0 (omega arith)

pub behind_whole : (d : Delimiter) (s : Span) (n : ℕ) (es : List Entry) → is_whole (entry.Open d s n ∷ es) ≡ true
    → is_whole (drop (suc n) es) ≡ true
behind_whole d s n es h =
    let p = and_true (closes_with d s (drop n es)) _ h in
    let q = and_true (laid false (length es) (take n es)) _ p.1 in
    laid_any (length es) (length (drop (suc n) es)) (drop (suc n) es) q.1 (omega arith)

-- the run enters it
pub group_enters : (d : Delimiter) (s : Span) (n : ℕ) (es : List Entry) → is_whole (entry.Open d s n ∷ es) ≡ true
    → (f : List Token → Out)
    → group_at d f (tokens (entry.Open d s n ∷ es)) ≡ whole d (tokens (drop (suc n) es)) (f (tokens (take n es)))
unfolding group_at
group_enters d s n es h f =
    let p = and_true (closes_with d s (drop n es)) _ h in
    let us : List Token = tokens (drop (suc n) es) in
    let xs : List Token = tokens (take n es) in
    let e : split 0 (tokens es) ≡ Inside xs d us = ap (split 0) (parts d s n es p.0)
    ∙ split_inside xs d us (whole_balanced (take n es) (inside_whole d s n es h)) in
    ap (λ b. cond b (within_group d f (split 0 (tokens es))) Refused) (delimiter_same d)
    ∙ ap (within_group d f) e
    ∙ ap (λ b. cond b (whole d us (f xs)) Refused) (delimiter_same d)

-- what a slice of the others is
pub others : (es : List Entry) (n : ℕ) → take (length es - (n + 1)) (drop (n + 1) es) ≡ drop (suc n) es
others es n = take_all (length es - (n + 1)) (drop (n + 1) es) (omega (arith, length-drop (n + 1) es))
    ∙ ap (λ k. drop k es) (add-one n)

module _ (wanted : Delimiter) (at es : List Entry) (e : Entry) (d : Delimiter) (s : Span) (n : ℕ) where
  opens : at ≡ e ∷ es → e ≡ entry.Open d s n → at ≡ entry.Open d s n ∷ es
  opens p q = p ∙ ap (λ x. x ∷ es) q

  pub entered : at ≡ e ∷ es → e ≡ entry.Open d s n → same_delimiter d wanted ≡ true → is_whole at ≡ true
      → (f : List Token → Out) → group_at wanted f (tokens at)
      ≡ whole wanted (tokens (take (length es - (n + 1)) (drop (n + 1) es))) (f (tokens (take n es)))
  entered p q same h f =
      let w : d ≡ wanted = same_delimiters d wanted same in
      let a : at ≡ entry.Open d s n ∷ es = opens p q in
      ap (λ x. group_at x f (tokens at)) (sym w) ∙ ap (λ x. group_at d f (tokens x)) a
      ∙ group_enters d s n es (sym (ap is_whole a) ∙ h) f
      ∙ ap (λ x. whole x (tokens (drop (suc n) es)) (f (tokens (take n es)))) w
      ∙ ap (λ x. whole wanted (tokens x) (f (tokens (take n es)))) (sym (others es n))

  pub entered_inside : at ≡ e ∷ es → e ≡ entry.Open d s n → is_whole at ≡ true → is_whole (take n es) ≡ true
  entered_inside p q h = inside_whole d s n es (sym (ap is_whole (opens p q)) ∙ h)

  pub entered_behind : at ≡ e ∷ es → e ≡ entry.Open d s n → is_whole at ≡ true
      → is_whole (take (length es - (n + 1)) (drop (n + 1) es)) ≡ true
  entered_behind p q h = ap is_whole (others es n) ∙ behind_whole d s n es (sym (ap is_whole (opens p q)) ∙ h)

  pub entered_within : at ≡ e ∷ es → e ≡ entry.Open d s n → is_whole at ≡ true → n < length es
  entered_within p q h = within d s n es (sym (ap is_whole (opens p q)) ∙ h)
