-- Entries each of which is seen.
use Rattle.std.proofs.Common.{◌≡◌, ◌∙◌, ℕ, zero, suc, ◌-◌, arith, List, [], ◌∷◌, ◌++◌, length, take, drop, refl, sym}
use Rattle.std.proofs.Common.{ap}
use Rattle.std.specs.Prelude.{Bool, true, false, ◌&&◌, not, IsTrue, cond, option_map, slice_get, unwrap_or}
use Rattle.std.proofs.lemmas.List.{drop-map, take-append-drop, take-map}
use Rattle.std.proofs.lemmas.List.Folds.{list_all-append}
use Rattle.rust_map.specs.declared.span.Span.{Span}
use Rattle.rust_leaf.specs.Leaf.{literal_text}
use Rattle.rust_leaf.specs.Minus.{starts_with_minus}
use Rattle.proc_macro2.specs.declared.delimiter.Delimiter.{Delimiter}
use Rattle.proc_macro2.specs.Flat.{spanned}
use Rattle.proc_macro2.specs.Token.{Opens, Closes, Spanned}
use Rattle.syn_buffer.specs.Behind.{token_end, tokens_end}
use Rattle.syn_buffer.specs.Entries.{closes_with, entry_end, entry_span, entry_token, is_laid, is_whole, laid, last_end}
use Rattle.syn_buffer.specs.Entries.{spanned_entries, spanned_entry}
use Rattle.syn_buffer.specs.Seen.{all_seen, is_seen, is_visible, seen}
use Rattle.syn_buffer.specs.declared.entry.Entry.{Entry}
use Rattle.syn_buffer.specs.declared.entry.Entry.TheVariants as entry
use Rattle.syn_buffer.proofs.Laid.{both, both_true}

abbrev Seen : List Entry → Type 0
Seen es = IsTrue (all_seen (spanned_entries es))

pub seen_drop : (n : ℕ) (es : List Entry) → IsTrue (all_seen (spanned_entries es)) →
    IsTrue (all_seen (spanned_entries (drop n es)))
seen_drop zero es h = h
seen_drop (suc n) [] h = h
seen_drop (suc n) (e ∷ es) h = seen_drop n es (both (is_seen (entry_token e)) _ h).1

pub seen_take : (n : ℕ) (es : List Entry) → IsTrue (all_seen (spanned_entries es)) →
    IsTrue (all_seen (spanned_entries (take n es)))
seen_take zero es h = refl
seen_take (suc n) [] h = refl
seen_take (suc n) (e ∷ es) h =
    let p = both (is_seen (entry_token e)) _ h in
    both_true _ _ p.0 (seen_take n es p.1)

pub seen_tail : (es t : List Entry) (e : Entry) → es ≡ e ∷ t → IsTrue (all_seen (spanned_entries es)) →
    IsTrue (all_seen (spanned_entries t))
seen_tail es t e p h = (both (is_seen (entry_token e)) _ (sym (ap (λ x. all_seen (spanned_entries x)) p) ∙ h)).1

-- all of them are seen of them
pub seen_all : (ts : List Spanned) → IsTrue (all_seen ts) → seen ts ≡ ts
seen_all [] h = refl
seen_all (t ∷ ts) h =
    let p = both (is_seen t.token) _ h in
    ap (λ b. cond b (t ∷ seen ts) (seen ts)) p.0 ∙ ap (λ us. t ∷ us) (seen_all ts p.1)

-- no invisible group closes among them
laid_whole : (k : ℕ) (es : List Entry) → Seen es → laid true k es ≡ true → laid false k es ≡ true
laid_whole k [] v h = refl
laid_whole zero (e ∷ es) v h = cc
laid_whole (suc k) (entry.Open d s n ∷ es) v h =
    let p = both (closes_with d s (drop n es)) _ h in
    let q = both (laid false k (take n es)) _ p.1 in
    let u : Seen es = (both (is_visible d) _ v).1 in
    both_true _ _ p.0 (both_true _ _ q.0 (laid_whole k (drop (suc n) es) (seen_drop (suc n) es u) q.1))
laid_whole (suc k) (entry.Close d s ∷ es) v h =
    let p = both (not (is_visible d)) _ h in
    absurd (never (is_visible d) (both (is_visible d) _ v).0 p.0)
  where
    never : (b : Bool) → b ≡ true → not b ≡ true → ⊥
    never true e f = cc
    never false e f = cc
laid_whole (suc k) (entry.Ident i ∷ es) v h = laid_whole k es v h
laid_whole (suc k) (entry.Punct p ∷ es) v h = laid_whole k es v h
laid_whole (suc k) (entry.Literal l ∷ es) v h =
    let p = both (not (starts_with_minus (literal_text l.now))) _ h in
    both_true _ _ p.0 (laid_whole k es v p.1)

pub whole_seen : (es : List Entry) → IsTrue (all_seen (spanned_entries es)) → IsTrue (is_laid es) →
    IsTrue (is_whole es)
whole_seen es v h = laid_whole (length es) es v h

-- those of a group
pub group_all_seen : (d : Delimiter) (s : Span) (ts : List Spanned) →
    all_seen (spanned (Opens d) s ∷ ts ++ spanned (Closes d) s ∷ []) ≡ (is_visible d && all_seen ts)
group_all_seen d s ts =
    ap (λ b. is_visible d && b) (list_all-append (λ (t : Spanned). is_seen t.token) ts (spanned (Closes d) s ∷ []))
    ∙ once (is_visible d) (all_seen ts)
  where
    once : (a b : Bool) → (a && (b && (a && true))) ≡ (a && b)
    once false b = refl
    once true false = refl
    once true true = refl

-- of entries so many, and the others
pub parted : (n : ℕ) (es : List Entry) → IsTrue (all_seen (spanned_entries es)) →
    seen (spanned_entries es) ≡ take n (seen (spanned_entries es)) ++ seen (spanned_entries (drop n es))
parted n es h =
    let all : seen (spanned_entries es) ≡ spanned_entries es = seen_all (spanned_entries es) h in
    sym (take-append-drop n (seen (spanned_entries es)))
    ∙ ap (λ ts. take n (seen (spanned_entries es)) ++ ts)
    (ap (drop n) all ∙ drop-map spanned_entry n es ∙ sym (seen_all (spanned_entries (drop n es)) (seen_drop n es h)))

-- where the last of entries ends
entry_ends : (e : Entry) → token_end (entry_token e) (entry_span e) ≡ entry_end e
entry_ends (entry.Open d s n) = refl
entry_ends (entry.Close d s) = refl
entry_ends (entry.Ident i) = refl
entry_ends (entry.Punct p) = refl
entry_ends (entry.Literal l) = refl

pub ends : (none : Span) (es : List Entry) → last_end none es ≡ tokens_end none (spanned_entries es)
ends none [] = refl
ends none (e ∷ []) = sym (entry_ends e)
ends none (e ∷ f ∷ es) =
    let first : Span = token_end (entry_token e) (entry_span e) in
    let before : length (e ∷ f ∷ es) - 1 ≡ suc (length es) = omega arith in
    let behind : length (f ∷ es) - 1 ≡ length es = omega arith in
    ap (λ k. unwrap_or (option_map entry_end (slice_get (e ∷ f ∷ es) k)) none) before
    ∙ any_none none first f es
    ∙ sym (ap (λ k. unwrap_or (option_map entry_end (slice_get (f ∷ es) k)) first) behind)
    ∙ ends first (f ∷ es)
  where
    any_none : (a b : Span) (f : Entry) (es : List Entry) →
        unwrap_or (option_map entry_end (slice_get (f ∷ es) (length es))) a ≡
        unwrap_or (option_map entry_end (slice_get (f ∷ es) (length es))) b
    any_none a b f [] = refl
    any_none a b f (g ∷ es) = any_none a b g es

pub ends_behind : (none : Span) (n : ℕ) (es : List Entry) → IsTrue (all_seen (spanned_entries es)) →
    last_end none (take n es) ≡ tokens_end none (take n (seen (spanned_entries es)))
ends_behind none n es h =
    ends none (take n es)
    ∙ ap (tokens_end none) (sym (take-map spanned_entry n es) ∙ ap (take n) (sym (seen_all (spanned_entries es) h)))
