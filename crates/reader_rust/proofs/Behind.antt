-- What is left of whole entries behind a form of them is whole.
use Rattle.std.proofs.Common.{◌≡◌, ◌∙◌, ℕ, zero, suc, ◌+◌, ◌-◌, ◌<◌, ◌≤◌, List, [], ◌∷◌, ◌++◌, length, take, drop, refl}
use Rattle.std.proofs.Common.{sym, ap, arith, append_assoc, inl, inr, length-append, length-take}
use Rattle.std.specs.Prelude.{true, false, not}
use Rattle.std.proofs.lemmas.Bool.{cases_lt}
use Rattle.std.proofs.lemmas.List.{drop-append-le, drop-drop, map-append}
use Rattle.std.proofs.Math.Seq.{drop-append_seam}
use Rattle.rust_map.specs.declared.span.Span.{Span}
use Rattle.rust_leaf.specs.Leaf.{literal_text}
use Rattle.rust_leaf.specs.Minus.{starts_with_minus}
use Rattle.proc_macro2.specs.declared.delimiter.Delimiter.{Delimiter}
use Rattle.proc_macro2.specs.Token.{Token, Closes, plain}
use Rattle.syn_grammar.specs.Gram.{closes_all}
use Rattle.reader_steps.specs.Answers.{tokens}
use Rattle.reader_tokens.proofs.Groups.{group_tokens, whole_balanced}
use Rattle.reader_tokens.proofs.Nested.{both, laid_any, parts, within}
use Rattle.syn_buffer.specs.Entries.{closes_with, entry_token, is_whole, laid, spanned_entries}
use Rattle.syn_buffer.specs.declared.entry.Entry.{Entry}
use Rattle.syn_buffer.specs.declared.entry.Entry.TheVariants as entry

-- as many close as are opened
closes_past : (n k : ℕ) (es : List Entry) (ts : List Token) → laid false k es ≡ true →
    closes_all n (tokens es ++ ts) ≡ closes_all n ts
closes_past n k [] ts h = refl
closes_past n zero (e ∷ es) ts h = cc
closes_past n (suc k) (entry.Open d s m ∷ es) ts h =
    let p = both (closes_with d s (drop m es)) _ h in
    let q = both (laid false k (take m es)) _ p.1 in
    ap (λ x. closes_all (suc n) (x ++ ts)) (group_tokens d s m es p.0)
    ∙ ap (closes_all (suc n)) (append_assoc (tokens (take m es)) (Closes d ∷ tokens (drop (suc m) es)) ts)
    ∙ closes_past (suc n) k (take m es) (Closes d ∷ (tokens (drop (suc m) es) ++ ts)) q.0
    ∙ closes_past n k (drop (suc m) es) ts q.1
closes_past n (suc k) (entry.Close d s ∷ es) ts h = cc
closes_past n (suc k) (entry.Ident i ∷ es) ts h = closes_past n k es ts h
closes_past n (suc k) (entry.Punct p ∷ es) ts h = closes_past n k es ts h
closes_past n (suc k) (entry.Literal l ∷ es) ts h =
    closes_past n k es ts (both (not (starts_with_minus (literal_text l.now))) _ h).1

-- what stands behind a mark that opens a group, from inside the group on
from_inside : (d : Delimiter) (s : Span) (n j : ℕ) (es : List Entry) → closes_with d s (drop n es) ≡ true → j ≤ n →
    tokens (drop j es) ≡ tokens (drop j (take n es)) ++ Closes d ∷ tokens (drop (suc n) es)
from_inside d s n j es c l =
    let w : n < length es = within d s n es c in
    ap (λ x. tokens (drop j x)) (parts d s n es c)
    ∙ ap tokens (drop-append-le j (take n es) (entry.Close d s ∷ drop (suc n) es)
    (omega (arith, length-take n es, w, l)))
    ∙ map-append entry_token (drop j (take n es)) (entry.Close d s ∷ drop (suc n) es)

-- and from behind it on
from_behind : (n j : ℕ) (es : List Entry) → n < j → drop j es ≡ drop (j - suc n) (drop (suc n) es)
from_behind n j es l = ap (λ i. drop i es) (omega (arith, l)) ∙ sym (drop-drop (j - suc n) (suc n) es)

-- nothing is open behind some of whole entries, so a mark that closes there closes nothing
never_closes : (k j : ℕ) (es : List Entry) (d : Delimiter) (ts : List Token) → laid false k es ≡ true →
    closes_all 0 (tokens (drop j es) ++ Closes d ∷ ts) ≡ false
never_closes k zero es d ts h = closes_past 0 k es (Closes d ∷ ts) h
never_closes k (suc j) [] d ts h = refl
never_closes zero (suc j) (e ∷ es) d ts h = cc
never_closes (suc k) (suc j) (entry.Open c s n ∷ es) d ts h =
    let p = both (closes_with c s (drop n es)) _ h in
    let q = both (laid false k (take n es)) _ p.1 in
    elim (cases_lt n j) [
      | inl l ↦ ap (λ x. closes_all 0 (tokens x ++ Closes d ∷ ts)) (from_behind n j es l)
          ∙ never_closes k (j - suc n) (drop (suc n) es) d ts q.1
      | inr l ↦ ap (λ x. closes_all 0 (x ++ Closes d ∷ ts)) (from_inside c s n j es p.0 l)
          ∙ ap (closes_all 0) (append_assoc (tokens (drop j (take n es))) (Closes c ∷ tokens (drop (suc n) es))
          (Closes d ∷ ts))
          ∙ never_closes k j (take n es) c (tokens (drop (suc n) es) ++ Closes d ∷ ts) q.0
    ]
never_closes (suc k) (suc j) (entry.Close c s ∷ es) d ts h = cc
never_closes (suc k) (suc j) (entry.Ident i ∷ es) d ts h = never_closes k j es d ts h
never_closes (suc k) (suc j) (entry.Punct p ∷ es) d ts h = never_closes k j es d ts h
never_closes (suc k) (suc j) (entry.Literal l ∷ es) d ts h =
    never_closes k j es d ts (both (not (starts_with_minus (literal_text l.now))) _ h).1

-- what is left of whole entries is whole, if each group is closed in it
whole_left : (k j : ℕ) (es : List Entry) → laid false k es ≡ true → closes_all 0 (tokens (drop j es)) ≡ true →
    is_whole (drop j es) ≡ true
whole_left k zero es h b = laid_any k (length es) es h (omega arith)
whole_left k (suc j) [] h b = refl
whole_left zero (suc j) (e ∷ es) h b = cc
whole_left (suc k) (suc j) (entry.Open d s n ∷ es) h b =
    let p = both (closes_with d s (drop n es)) _ h in
    let q = both (laid false k (take n es)) _ p.1 in
    elim (cases_lt n j) [
      | inl l ↦
          let e = from_behind n j es l in
          ap is_whole e ∙ whole_left k (j - suc n) (drop (suc n) es) q.1 (sym (ap (λ x. closes_all 0 (tokens x)) e) ∙ b)
      | inr l ↦
          let f = never_closes k j (take n es) d (tokens (drop (suc n) es)) q.0 in
          let e = ap (closes_all 0) (from_inside d s n j es p.0 l) in
          cc
    ]
whole_left (suc k) (suc j) (entry.Close d s ∷ es) h b = cc
whole_left (suc k) (suc j) (entry.Ident i ∷ es) h b = whole_left k j es h b
whole_left (suc k) (suc j) (entry.Punct p ∷ es) h b = whole_left k j es h b
whole_left (suc k) (suc j) (entry.Literal l ∷ es) h b =
    whole_left k j es (both (not (starts_with_minus (literal_text l.now))) _ h).1 b

-- the tokens of entries
pub plain_entries : (es : List Entry) → plain (spanned_entries es) ≡ tokens es
plain_entries [] = refl
plain_entries (e ∷ es) = ap (λ ts. entry_token e ∷ ts) (plain_entries es)

pub tokens_length : (es : List Entry) → length (tokens es) ≡ length es
tokens_length [] = refl
tokens_length (e ∷ es) = ap suc (tokens_length es)

tokens_drop : (n : ℕ) (es : List Entry) → tokens (drop n es) ≡ drop n (tokens es)
tokens_drop zero es = refl
tokens_drop (suc n) [] = refl
tokens_drop (suc n) (e ∷ es) = tokens_drop n es

-- what is left behind a form of the entries: so many of them were read, and the others are whole
pub record Left (es others : List Entry) : Type 0 where
  pub within : length others ≤ length es
  pub same : tokens (drop (length es - length others) es) ≡ tokens others
  pub whole : is_whole (drop (length es - length others) es) ≡ true

pub left : (ts : List Token) (es others : List Entry) → ts ++ tokens others ≡ tokens es → is_whole es ≡ true →
    is_whole others ≡ true → Left es others
left ts es others e h r =
    let long : length ts + length others ≡ length es =
    ap (λ n. length ts + n) (sym (tokens_length others)) ∙ sym (length-append ts (tokens others))
    ∙ ap (λ (x : List Token). length x) e ∙ tokens_length es in
    let n : ℕ = length es - length others in
    let count : n ≡ length ts = omega (arith, long) in
    let same : tokens (drop n es) ≡ tokens others =
    tokens_drop n es ∙ ap (drop n) (sym e) ∙ ap (λ k. drop k (ts ++ tokens others)) count
    ∙ drop-append_seam ts (tokens others) in
    record {
      within = omega (arith, long);
      same = same;
      whole = whole_left (length es) n es h (ap (closes_all 0) same ∙ whole_balanced others r);
    }
