-- The tokens of a group: its inside, and what stands behind it.
use Rattle.std.proofs.Common.{◌≡◌, ℕ, zero, suc, ◌<◌, List, [], ◌∷◌, ◌++◌, length, take, drop, refl, sym, ap}
use Rattle.std.proofs.Common.{◌∙◌, arith, append_assoc}
use Rattle.std.proofs.lemmas.List.{append-nil, map-append}
use Rattle.std.specs.Prelude.{true, false, not, Some, ◌&&◌}
use Rattle.rust_map.specs.declared.span.Span.{Span}
use Rattle.rust_leaf.specs.Leaf.{literal_text}
use Rattle.rust_leaf.specs.Minus.{starts_with_minus}
use Rattle.proc_macro2.specs.declared.delimiter.Delimiter.{Delimiter}
use Rattle.proc_macro2.specs.Token.{Token, Closes}
use Rattle.syn_grammar.specs.Gram.{closes_all}
use Rattle.syn_grammar.specs.Look.{past_closing, past_first}
use Rattle.syn_grammar.specs.Run.{Inside, split}
use Rattle.syn_grammar.proofs.Splits.{neutral_raw}
use Rattle.syn_buffer.specs.Entries.{closes_with, entry_token, laid, is_whole}
use Rattle.syn_buffer.specs.declared.entry.Entry.{Entry}
use Rattle.syn_buffer.specs.declared.entry.Entry.TheVariants as entry
use Rattle.reader_tokens.specs.Nested.{is_nested}
use Rattle.reader_tokens.specs.Tokens.{tokens}
use Rattle.reader_tokens.proofs.Nested.{both, laid_any, parts, within}

tokens_append : (a b : List Entry) → tokens (a ++ b) ≡ tokens a ++ tokens b
tokens_append a b = map-append entry_token a b

-- the tokens behind a mark that opens a group
pub group_tokens : (d : Delimiter) (s : Span) (n : ℕ) (es : List Entry) → closes_with d s (drop n es) ≡ true
    → tokens es ≡ tokens (take n es) ++ Closes d ∷ tokens (drop (suc n) es)
group_tokens d s n es h =
    ap tokens (parts d s n es h) ∙ tokens_append (take n es) (entry.Close d s ∷ drop (suc n) es)

-- as many close as are opened
closes_behind : (n k : ℕ) (es : List Entry) (ts : List Token) → laid false k es ≡ true
    → closes_all n (tokens es ++ ts) ≡ closes_all n ts
closes_behind n k [] ts h = refl
closes_behind n zero (e ∷ es) ts h = cc
closes_behind n (suc k) (entry.Open d s m ∷ es) ts h =
    let p = both (closes_with d s (drop m es)) _ h in
    let q = both (laid false k (take m es)) _ p.1 in
    ap (λ x. closes_all (suc n) (x ++ ts)) (group_tokens d s m es p.0)
    ∙ ap (closes_all (suc n)) (append_assoc (tokens (take m es)) (Closes d ∷ tokens (drop (suc m) es)) ts)
    ∙ closes_behind (suc n) k (take m es) (Closes d ∷ (tokens (drop (suc m) es) ++ ts)) q.0
    ∙ closes_behind n k (drop (suc m) es) ts q.1
closes_behind n (suc k) (entry.Close d s ∷ es) ts h = cc
closes_behind n (suc k) (entry.Ident i ∷ es) ts h = closes_behind n k es ts h
closes_behind n (suc k) (entry.Punct p ∷ es) ts h = closes_behind n k es ts h
closes_behind n (suc k) (entry.Literal l ∷ es) ts h =
    closes_behind n k es ts (both (not (starts_with_minus (literal_text l.now))) _ h).1

pub whole_balanced : (es : List Entry) → is_whole es ≡ true → closes_all 0 (tokens es) ≡ true
whole_balanced es h = sym (ap (closes_all 0) (append-nil (tokens es))) ∙ closes_behind 0 (length es) es [] h

-- the inside of a group, as the run of the grammar splits it
pub split_group : (d : Delimiter) (s : Span) (n : ℕ) (es : List Entry) → closes_with d s (drop n es) ≡ true
    → is_whole (take n es) ≡ true → split 0 (tokens es) ≡ Inside (tokens (take n es)) d (tokens (drop (suc n) es))
unfolding split
split_group d s n es h w =
    ap (split 0) (group_tokens d s n es h)
    ∙ (neutral_raw (tokens (take n es)) (whole_balanced (take n es) w)).by 0 (Closes d ∷ tokens (drop (suc n) es))
    ∙ ap (λ x. Inside x d (tokens (drop (suc n) es))) (append-nil (tokens (take n es)))

-- what goes to where open groups close passes whole entries
past_whole : (n k : ℕ) (es : List Entry) (ts : List Token) → laid false k es ≡ true
    → past_closing n (tokens es ++ ts) ≡ past_closing n ts
past_whole n k [] ts h = refl
past_whole n zero (e ∷ es) ts h = cc
past_whole n (suc k) (entry.Open d s m ∷ es) ts h =
    let p = both (closes_with d s (drop m es)) _ h in
    let q = both (laid false k (take m es)) _ p.1 in
    ap (λ x. past_closing (suc n) (x ++ ts)) (group_tokens d s m es p.0)
    ∙ ap (past_closing (suc n)) (append_assoc (tokens (take m es)) (Closes d ∷ tokens (drop (suc m) es)) ts)
    ∙ past_whole (suc n) k (take m es) (Closes d ∷ (tokens (drop (suc m) es) ++ ts)) q.0
    ∙ past_whole n k (drop (suc m) es) ts q.1
past_whole n (suc k) (entry.Close d s ∷ es) ts h = cc
past_whole n (suc k) (entry.Ident i ∷ es) ts h = past_whole n k es ts h
past_whole n (suc k) (entry.Punct p ∷ es) ts h = past_whole n k es ts h
past_whole n (suc k) (entry.Literal l ∷ es) ts h =
    past_whole n k es ts (both (not (starts_with_minus (literal_text l.now))) _ h).1

pub past_group : (d : Delimiter) (s : Span) (n : ℕ) (es : List Entry) → closes_with d s (drop n es) ≡ true
    → is_whole (take n es) ≡ true → past_closing 0 (tokens es) ≡ Some (tokens (drop (suc n) es))
past_group d s n es h w =
    ap (past_closing 0) (group_tokens d s n es h)
    ∙ past_whole 0 (length (take n es)) (take n es) (Closes d ∷ tokens (drop (suc n) es)) w

-- what seeks a mark in no group passes groups whole
first_whole : (c n k : ℕ) (es : List Entry) (ts : List Token) → laid false k es ≡ true
    → past_first c (suc n) (tokens es ++ ts) ≡ past_first c (suc n) ts
first_whole c n k [] ts h = refl
first_whole c n zero (e ∷ es) ts h = cc
first_whole c n (suc k) (entry.Open d s m ∷ es) ts h =
    let p = both (closes_with d s (drop m es)) _ h in
    let q = both (laid false k (take m es)) _ p.1 in
    ap (λ x. past_first c (suc (suc n)) (x ++ ts)) (group_tokens d s m es p.0)
    ∙ ap (past_first c (suc (suc n))) (append_assoc (tokens (take m es)) (Closes d ∷ tokens (drop (suc m) es)) ts)
    ∙ first_whole c (suc n) k (take m es) (Closes d ∷ (tokens (drop (suc m) es) ++ ts)) q.0
    ∙ first_whole c n k (drop (suc m) es) ts q.1
first_whole c n (suc k) (entry.Close d s ∷ es) ts h = cc
first_whole c n (suc k) (entry.Ident i ∷ es) ts h = first_whole c n k es ts h
first_whole c n (suc k) (entry.Punct p ∷ es) ts h = first_whole c n k es ts h
first_whole c n (suc k) (entry.Literal l ∷ es) ts h =
    first_whole c n k es ts (both (not (starts_with_minus (literal_text l.now))) _ h).1

pub first_behind : (c : ℕ) (d : Delimiter) (s : Span) (n : ℕ) (es : List Entry) → closes_with d s (drop n es) ≡ true
    → is_whole (take n es) ≡ true → past_first c 1 (tokens es) ≡ past_first c 0 (tokens (drop (suc n) es))
first_behind c d s n es h w =
    ap (past_first c 1) (group_tokens d s n es h)
    ∙ first_whole c 0 (length (take n es)) (take n es) (Closes d ∷ tokens (drop (suc n) es)) w

-- a group at the front of whole entries
pub record OfWhole (d : Delimiter) (s : Span) (n : ℕ) (es : List Entry) : Type 0 where
  pub within : n < length es
  pub inside : is_whole (take n es) ≡ true
  pub behind : is_whole (drop (suc n) es) ≡ true
  pub tokens : split 0 (tokens es) ≡ Inside (tokens (take n es)) d (tokens (drop (suc n) es))

pub whole_group : (d : Delimiter) (s : Span) (n : ℕ) (es : List Entry) → is_whole (entry.Open d s n ∷ es) ≡ true
    → OfWhole d s n es
whole_group d s n es h =
    let p = both (closes_with d s (drop n es)) _ h in
    let q = both (laid false (length es) (take n es)) _ p.1 in
    let w : is_whole (take n es) ≡ true = laid_any (length es) (length (take n es)) (take n es) q.0 (omega arith) in
    record {
      within = within d s n es p.0;
      inside = w;
      behind = laid_any (length es) (length (drop (suc n) es)) (drop (suc n) es) q.1 (omega arith);
      tokens = split_group d s n es p.0 w;
    }

-- a group at the front of nested entries
pub record OfNested (d : Delimiter) (s : Span) (n : ℕ) (es : List Entry) : Type 0 where
  pub within : n < length es
  pub past : past_closing 0 (tokens es) ≡ Some (tokens (drop (suc n) es))
  pub seeks : (c : ℕ) → past_first c 1 (tokens es) ≡ past_first c 0 (tokens (drop (suc n) es))
  pub nested : is_nested es ≡ true

pub nested_group : (d : Delimiter) (s : Span) (n : ℕ) (es : List Entry) → is_nested (entry.Open d s n ∷ es) ≡ true
    → OfNested d s n es
nested_group d s n es h =
    let p = both (is_whole (take n es) && closes_with d s (drop n es)) (is_nested es) h in
    let q = both (is_whole (take n es)) (closes_with d s (drop n es)) p.0 in
    record {
      within = within d s n es q.1;
      past = past_group d s n es q.1 q.0;
      seeks = λ c. first_behind c d s n es q.1 q.0;
      nested = p.1;
    }

-- the same of entries that are a mark which opens a group, and others
pub opened_nested : (d : Delimiter) (s : Span) (n : ℕ) (at es : List Entry) → at ≡ entry.Open d s n ∷ es
    → is_nested at ≡ true → OfNested d s n es
opened_nested d s n at es e h = nested_group d s n es (sym (ap is_nested e) ∙ h)

pub opened_within : (d : Delimiter) (s : Span) (n : ℕ) (at es : List Entry) → at ≡ entry.Open d s n ∷ es
    → is_nested at ≡ true → n < length es
opened_within d s n at es e h = (opened_nested d s n at es e h).within
