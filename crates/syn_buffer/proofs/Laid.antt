-- Entries that lie as those of a list do.
use denote.Ref.{Bor}
use Rattle.std.proofs.Common.{◌≡◌, ℕ, zero, suc, ◌+◌, ◌-◌, ◌<◌, ◌≤◌, add-one, get_or, List, [], ◌∷◌, ◌++◌, length}
use Rattle.std.proofs.Common.{take, drop, refl, sym, ap, ◌∙◌, arith, length-drop, length-take, length-append}
use Rattle.std.proofs.Common.{drop-cons}
use Rattle.std.specs.Prelude.{Bool, true, false, ◌&&◌, ◌==◌, not, cond, Some, None, option_and_then, filter, IsTrue}
use Rattle.std.proofs.lemmas.List.{map-append, take_all, take-append-drop, take-append-le, drop-append-le}
use Rattle.std.proofs.lemmas.List.Elements.{filter-append}
use Rattle.std.proofs.lemmas.Bool.{eqb-true, eq-eqb}
use Rattle.std.proofs.Math.Seq.{drop-append_seam, take-append_seam}
use Rattle.rust_map.specs.declared.span.Span.{Span}
use Rattle.rust_map.specs.Spans.{span_from}
use Rattle.rust_leaf.specs.Leaf.{literal_text}
use Rattle.rust_leaf.specs.declared.literal.Literal as Literals
use Rattle.rust_leaf.specs.Minus.{starts_with_minus}
use Rattle.proc_macro2.specs.declared.delimiter.Delimiter.{Delimiter}
use Rattle.proc_macro2.specs.declared.delimiter.Delimiter.TheVariants as delimiter
use Rattle.proc_macro2.specs.Groups.{same_delimiter, groups_open, IsMatched}
use Rattle.proc_macro2.specs.Token.{Token, Opens, Closes, Spanned}
use Rattle.proc_macro2.specs.Flat.{spanned}
use Rattle.proc_macro2.proofs.GroupLemmas.{open_append}
use Rattle.syn_buffer.specs.Seen.{is_visible, is_seen, seen}
use Rattle.syn_buffer.specs.Entries.{entry_token, spanned_entry, spanned_entries, same_span, closes_with, laid}
use Rattle.syn_buffer.specs.Entries.{is_laid, is_whole}
use Rattle.syn_buffer.specs.Heads.{SeenFirst}
use Rattle.syn_buffer.specs.declared.entry.Entry.{Entry}
use Rattle.syn_buffer.specs.declared.entry.Entry.TheVariants as entry

pub both : (a b : Bool) → (a && b) ≡ true → (a ≡ true) × (b ≡ true)
both true b e = (refl, e)
both false b e = cc

pub both_true : (a b : Bool) → a ≡ true → b ≡ true → (a && b) ≡ true
both_true true b e f = f
both_true false b e f = cc

same_true : (a b : Delimiter) → same_delimiter a b ≡ true → a ≡ b
same_true delimiter.Parenthesis delimiter.Parenthesis e = refl
same_true delimiter.Brace delimiter.Brace e = refl
same_true delimiter.Bracket delimiter.Bracket e = refl
same_true delimiter.None delimiter.None e = refl
same_true _ _ e = cc

pub same_self : (d : Delimiter) → same_delimiter d d ≡ true
same_self delimiter.Parenthesis = refl
same_self delimiter.Brace = refl
same_self delimiter.Bracket = refl
same_self delimiter.None = refl

same_spans : (s t : Span) → same_span s t ≡ true → s ≡ t
same_spans s t e =
    let p = both (s.start == t.start) (s.end == t.end) e in
    ap (λ x. span_from x s.end) (eqb-true s.start t.start p.0) ∙ ap (span_from t.start) (eqb-true s.end t.end p.1)

-- enough fuel is as good as any
laid_any : (o : Bool) (k m : ℕ) (es : List Entry) → laid o k es ≡ true → length es ≤ m → laid o m es ≡ true
laid_any o k m [] h l = refl
laid_any o zero m (e ∷ es) h l = cc
laid_any o (suc k) zero (e ∷ es) h l = absurd (omega arith)
laid_any o (suc k) (suc m) (entry.Open d s n ∷ es) h l =
    let p = both (closes_with d s (drop n es)) _ h in
    let q = both (laid false k (take n es)) _ p.1 in
    both_true _ _ p.0 (both_true _ _
    (laid_any false k m (take n es) q.0 (omega (arith, length-take n es)))
    (laid_any o k m (drop (suc n) es) q.1 (omega (arith, length-drop (suc n) es))))
laid_any o (suc k) (suc m) (entry.Close d s ∷ es) h l =
    let p = both (o && not (is_visible d)) _ h in
    both_true _ _ p.0 (laid_any o k m es p.1 (omega arith))
laid_any o (suc k) (suc m) (entry.Ident i ∷ es) h l = laid_any o k m es h (omega arith)
laid_any o (suc k) (suc m) (entry.Punct p ∷ es) h l = laid_any o k m es h (omega arith)
laid_any o (suc k) (suc m) (entry.Literal i ∷ es) h l =
    let p = both (not (starts_with_minus (literal_text i.now))) _ h in
    both_true _ _ p.0 (laid_any o k m es p.1 (omega arith))

-- whole trees lie as what is left does
whole_laid : (k : ℕ) (es : List Entry) → laid false k es ≡ true → laid true k es ≡ true
whole_laid k [] h = refl
whole_laid zero (e ∷ es) h = cc
whole_laid (suc k) (entry.Open d s n ∷ es) h =
    let p = both (closes_with d s (drop n es)) _ h in
    let q = both (laid false k (take n es)) _ p.1 in
    both_true _ _ p.0 (both_true _ _ q.0 (whole_laid k (drop (suc n) es) q.1))
whole_laid (suc k) (entry.Close d s ∷ es) h = cc
whole_laid (suc k) (entry.Ident i ∷ es) h = whole_laid k es h
whole_laid (suc k) (entry.Punct p ∷ es) h = whole_laid k es h
whole_laid (suc k) (entry.Literal i ∷ es) h =
    let p = both (not (starts_with_minus (literal_text i.now))) _ h in
    both_true _ _ p.0 (whole_laid k es p.1)

pub whole_is_laid : (es : List Entry) → is_whole es ≡ true → is_laid es ≡ true
whole_is_laid es h = whole_laid (length es) es h

-- where a group closes
pub closing : (d : Delimiter) (s : Span) (n : ℕ) (es : List Entry) → closes_with d s (drop n es) ≡ true →
    drop n es ≡ entry.Close d s ∷ drop (suc n) es
closing d s n [] h = absurd (none d s n h)
  where
    none : (d : Delimiter) (s : Span) (n : ℕ) → closes_with d s (drop n []) ≡ true → ⊥
    none d s zero h = cc
    none d s (suc n) h = cc
closing d s zero (entry.Close e t ∷ es) h =
    let p = both (same_delimiter e d) (same_span t s) h in
    let a = same_true e d p.0 in
    let b = same_spans t s p.1 in
    cc
closing d s zero (entry.Open e t n ∷ es) h = cc
closing d s zero (entry.Ident i ∷ es) h = cc
closing d s zero (entry.Punct p ∷ es) h = cc
closing d s zero (entry.Literal l ∷ es) h = cc
closing d s (suc n) (e ∷ es) h = closing d s n es h

closing_within : (d : Delimiter) (s : Span) (n : ℕ) (es : List Entry) → closes_with d s (drop n es) ≡ true →
    n < length es
closing_within d s zero [] h = cc
closing_within d s (suc n) [] h = cc
closing_within d s zero (e ∷ es) h = omega arith
closing_within d s (suc n) (e ∷ es) h = omega (arith, closing_within d s n es h)

-- the tokens of a group
grouped : (d : Delimiter) (s : Span) (n : ℕ) (es : List Entry) → closes_with d s (drop n es) ≡ true →
    seen (spanned_entries es)
    ≡ seen (spanned_entries (take n es)) ++ seen (spanned_entries (entry.Close d s ∷ drop (suc n) es))
grouped d s n es h =
    ap (λ xs. seen (spanned_entries xs)) (sym (take-append-drop n es))
    ∙ ap seen (map-append spanned_entry (take n es) (drop n es))
    ∙ filter-append _ (spanned_entries (take n es)) (spanned_entries (drop n es))
    ∙ ap (λ xs. seen (spanned_entries (take n es)) ++ seen (spanned_entries xs)) (closing d s n es h)

-- the marks of a group are seen if it is visible
pub marked : (d : Delimiter) (t : Token) (s : Span) (b : Bool) (ts : List Spanned) → is_seen t ≡ is_visible d →
    is_visible d ≡ b → filter (λ x. is_seen x.token) (spanned t s ∷ ts) ≡ cond b (spanned t s ∷ seen ts) (seen ts)
marked d t s b ts e v = ap (λ c. cond c (spanned t s ∷ seen ts) (seen ts)) (e ∙ v)

-- a mark closes the group that has been opened last
closed_last : (d : Delimiter) (s : Span) (ds : List Delimiter) (ts : List Spanned) →
    groups_open (d ∷ ds) (spanned (Closes d) s ∷ ts) ≡ groups_open ds ts
closed_last d s ds ts = ap (λ b. option_and_then (λ gs. groups_open gs ts) (cond b (Some ds) None)) (same_self d)

abbrev Neutral : List Spanned → Type 0
Neutral ts = (ds : List Delimiter) → groups_open ds ts ≡ Some ds

-- a group whose inside is matched, before tokens that are
group_matched : (d : Delimiter) (s : Span) (n : ℕ) (es : List Entry) (b : Bool) → is_visible d ≡ b →
    closes_with d s (drop n es) ≡ true →
    Neutral (seen (spanned_entries (take n es))) → Neutral (seen (spanned_entries (drop (suc n) es))) →
    Neutral (seen (spanned_entries (entry.Open d s n ∷ es)))
group_matched d s n es true v c inside behind ds =
    ap (groups_open ds) (marked d (Opens d) s true (spanned_entries es) refl v)
    ∙ ap (groups_open (d ∷ ds)) (grouped d s n es c)
    ∙ open_append (d ∷ ds) (d ∷ ds) (seen (spanned_entries (take n es)))
    (seen (spanned_entries (entry.Close d s ∷ drop (suc n) es))) (inside (d ∷ ds))
    ∙ ap (groups_open (d ∷ ds)) (marked d (Closes d) s true (spanned_entries (drop (suc n) es)) refl v)
    ∙ closed_last d s ds (seen (spanned_entries (drop (suc n) es)))
    ∙ behind ds
group_matched d s n es false v c inside behind ds =
    ap (groups_open ds) (marked d (Opens d) s false (spanned_entries es) refl v)
    ∙ ap (groups_open ds) (grouped d s n es c)
    ∙ open_append ds ds (seen (spanned_entries (take n es)))
    (seen (spanned_entries (entry.Close d s ∷ drop (suc n) es))) (inside ds)
    ∙ ap (groups_open ds) (marked d (Closes d) s false (spanned_entries (drop (suc n) es)) refl v)
    ∙ behind ds

pub not_true : (b : Bool) → not b ≡ true → b ≡ false
not_true true e = cc
not_true false e = refl

-- what is seen of entries that lie so is in matched groups
matched_behind : (o : Bool) (k : ℕ) (es : List Entry) → laid o k es ≡ true → Neutral (seen (spanned_entries es))
matched_behind o k [] h ds = refl
matched_behind o zero (e ∷ es) h ds = cc
matched_behind o (suc k) (entry.Open d s n ∷ es) h ds =
    let p = both (closes_with d s (drop n es)) _ h in
    let q = both (laid false k (take n es)) _ p.1 in
    group_matched d s n es (is_visible d) refl p.0 (matched_behind false k (take n es) q.0)
    (matched_behind o k (drop (suc n) es) q.1) ds
matched_behind o (suc k) (entry.Close d s ∷ es) h ds =
    let p = both (o && not (is_visible d)) _ h in
    let v = both o (not (is_visible d)) p.0 in
    ap (groups_open ds) (marked d (Closes d) s false (spanned_entries es) refl (not_true _ v.1))
    ∙ matched_behind o k es p.1 ds
matched_behind o (suc k) (entry.Ident i ∷ es) h ds = matched_behind o k es h ds
matched_behind o (suc k) (entry.Punct p ∷ es) h ds = matched_behind o k es h ds
matched_behind o (suc k) (entry.Literal l ∷ es) h ds =
    matched_behind o k es (both (not (starts_with_minus (literal_text l.now))) _ h).1 ds

pub matched_seen : (es : List Entry) → is_laid es ≡ true → IsMatched (seen (spanned_entries es))
matched_seen es h = matched_behind true (length es) es h []

span_self : (s : Span) → same_span s s ≡ true
span_self s = both_true _ _ (eq-eqb s.start s.start refl) (eq-eqb s.end s.end refl)

pub closes_self : (d : Delimiter) (s : Span) (es : List Entry) → closes_with d s (entry.Close d s ∷ es) ≡ true
closes_self d s es = both_true _ _ (same_self d) (span_self s)

-- entries that lie so, one behind the other
laid_before : (o : Bool) (k m : ℕ) (a b : List Entry) → laid o k a ≡ true → laid o (length b) b ≡ true →
    length a + length b ≤ m → laid o m (a ++ b) ≡ true
laid_before o k m [] b h l f = laid_any o (length b) m b l (omega arith)
laid_before o zero m (e ∷ a) b h l f = cc
laid_before o (suc k) zero (e ∷ a) b h l f = absurd (omega arith)
laid_before o (suc k) (suc m) (entry.Open d s n ∷ a) b h l f =
    let p = both (closes_with d s (drop n a)) _ h in
    let q = both (laid false k (take n a)) _ p.1 in
    let w : n < length a = closing_within d s n a p.0 in
    both_true _ _
    (ap (closes_with d s) (drop-append-le n a b (omega arith) ∙ ap (λ x. x ++ b) (closing d s n a p.0))
    ∙ closes_self d s (drop (suc n) a ++ b))
    (both_true _ _
    (ap (laid false m) (take-append-le n a b (omega arith))
    ∙ laid_any false k m (take n a) q.0 (omega (arith, length-take n a)))
    (ap (laid o m) (drop-append-le (suc n) a b (omega arith))
    ∙ laid_before o k m (drop (suc n) a) b q.1 l (omega (arith, length-drop (suc n) a))))
laid_before o (suc k) (suc m) (entry.Close d s ∷ a) b h l f =
    let p = both (o && not (is_visible d)) _ h in
    both_true _ _ p.0 (laid_before o k m a b p.1 l (omega arith))
laid_before o (suc k) (suc m) (entry.Ident i ∷ a) b h l f = laid_before o k m a b h l (omega arith)
laid_before o (suc k) (suc m) (entry.Punct p ∷ a) b h l f = laid_before o k m a b h l (omega arith)
laid_before o (suc k) (suc m) (entry.Literal i ∷ a) b h l f =
    let p = both (not (starts_with_minus (literal_text i.now))) _ h in
    both_true _ _ p.0 (laid_before o k m a b p.1 l (omega arith))

laid_append : (a b : List Entry) → is_laid a ≡ true → is_laid b ≡ true → is_laid (a ++ b) ≡ true
laid_append a b h l = laid_before true (length a) (length (a ++ b)) a b h l (omega (arith, length-append a b))

pub whole_append : (a b : List Entry) → is_whole a ≡ true → is_whole b ≡ true → is_whole (a ++ b) ≡ true
whole_append a b h l = laid_before false (length a) (length (a ++ b)) a b h l (omega (arith, length-append a b))

-- a group
pub whole_group : (d : Delimiter) (s : Span) (inside : List Entry) → is_whole inside ≡ true →
    is_whole (entry.Open d s (length inside) ∷ inside ++ entry.Close d s ∷ []) ≡ true
whole_group d s inside h =
    let rest : List Entry = inside ++ entry.Close d s ∷ [] in
    let long : length rest ≡ length inside + 1 = length-append inside (entry.Close d s ∷ []) in
    both_true _ _
    (ap (closes_with d s) (drop-append_seam inside (entry.Close d s ∷ [])) ∙ closes_self d s [])
    (both_true _ _
    (ap (laid false (length rest)) (take-append_seam inside (entry.Close d s ∷ []))
    ∙ laid_any false (length inside) (length rest) inside h (omega arith))
    (ap (laid false (length rest)) (drop_one_more inside (entry.Close d s))))
  where
    drop_one_more : (xs : List Entry) (y : Entry) → drop (suc (length xs)) (xs ++ y ∷ []) ≡ []
    drop_one_more [] y = refl
    drop_one_more (x ∷ xs) y = drop_one_more xs y

-- a group that opens there
pub record Opened (d : Delimiter) (s : Span) (n : ℕ) (es : List Entry) : Type 0 where
  pub within : n < length es
  pub closes : closes_with d s (drop n es) ≡ true
  pub inside : is_whole (take n es) ≡ true
  pub behind : is_laid (drop (suc n) es) ≡ true
  pub sees : seen (spanned_entries es)
      ≡ seen (spanned_entries (take n es)) ++ seen (spanned_entries (entry.Close d s ∷ drop (suc n) es))
  pub parts : es ≡ take n es ++ entry.Close d s ∷ drop (suc n) es

pub opened : (d : Delimiter) (s : Span) (n : ℕ) (es : List Entry) → is_laid (entry.Open d s n ∷ es) ≡ true →
    Opened d s n es
opened d s n es h =
    let p = both (closes_with d s (drop n es)) _ h in
    let q = both (laid false (length es) (take n es)) _ p.1 in
    record {
      within = closing_within d s n es p.0;
      closes = p.0;
      inside = laid_any false (length es) (length (take n es)) (take n es) q.0 (omega arith);
      behind = laid_any true (length es) (length (drop (suc n) es)) (drop (suc n) es) q.1 (omega arith);
      sees = grouped d s n es p.0;
      parts = sym (take-append-drop n es) ∙ ap (λ x. take n es ++ x) (closing d s n es p.0);
    }

-- past a mark of an invisible group
pub laid_past : (e : Entry) (es : List Entry) → is_laid (e ∷ es) ≡ true → is_seen (entry_token e) ≡ false →
    is_laid es ≡ true
laid_past (entry.Open d s n) es h v =
    let o = opened d s n es h in
    let close : is_laid (entry.Close d s ∷ drop (suc n) es) ≡ true = both_true _ _ (ap not v) o.behind in
    ap is_laid o.parts
    ∙ laid_append (take n es) (entry.Close d s ∷ drop (suc n) es) (whole_is_laid (take n es) o.inside) close
laid_past (entry.Close d s) es h v = (both (not (is_visible d)) _ h).1
laid_past (entry.Ident i) es h v = cc
laid_past (entry.Punct p) es h v = cc
laid_past (entry.Literal l) es h v = cc

-- past a literal
pub laid_literal : (es t : List Entry) (l : Bor Literals.Literal) → es ≡ entry.Literal l ∷ t → is_laid es ≡ true →
    is_laid t ≡ true
laid_literal es t l e h = (both (not (starts_with_minus (literal_text l.now))) _ (sym (ap is_laid e) ∙ h)).1

-- what is seen of entries past the first of which so many have been passed
pub record Passed (es : List Entry) (n : ℕ) : Type 0 where
  pub within : n ≤ length es
  pub same : seen (spanned_entries (drop n es)) ≡ seen (spanned_entries es)
  pub lies : IsTrue (is_laid (drop n es))

past_mark : (es t : List Entry) (e : Entry) → es ≡ e ∷ t → is_seen (entry_token e) ≡ false → IsTrue (is_laid es) →
    (seen (spanned_entries t) ≡ seen (spanned_entries es)) × IsTrue (is_laid t)
past_mark es t e p v h = (
  sym (ap (λ x. seen (spanned_entries x)) p
      ∙ ap (λ b. cond b (spanned_entry e ∷ seen (spanned_entries t)) (seen (spanned_entries t))) v),
  laid_past e t (sym (ap is_laid p) ∙ h) v,
)

pub none_passed : (es : List Entry) → IsTrue (is_laid es) → Passed es 0
none_passed es h = record { within = omega arith; same = refl; lies = h }

pub one_passed : (es : List Entry) (n : ℕ) (z : Entry) → n < length es →
    is_seen (entry_token (get_or es n z)) ≡ false → Passed es n → Passed es (n + 1)
one_passed es n z l v p =
    let (same, lies) =
    past_mark (drop n es) (drop (n + 1) es) (get_or es n z) (drop-cons es n z l
    ∙ ap (λ k. get_or es n z ∷ drop k es) (sym (add-one n))) v p.lies in
    record { within = omega arith; same = same ∙ p.same; lies = lies }

-- the first entry is seen, if there is one
pub seen_first : (es : List Entry) (n : ℕ) (z : Entry) → n < length es → is_seen (entry_token (get_or es n z)) ≡ true →
    SeenFirst (drop n es)
seen_first [] n z l v = absurd (omega arith)
seen_first (e ∷ es) zero z l v = v
seen_first (e ∷ es) (suc n) z l v = seen_first es n z (omega arith) v

pub seen_end : (es : List Entry) (n : ℕ) → length es ≤ n → SeenFirst (drop n es)
seen_end [] zero l = tt
seen_end [] (suc n) l = tt
seen_end (e ∷ es) zero l = absurd (omega arith)
seen_end (e ∷ es) (suc n) l = seen_end es n (omega arith)

-- what is borrowed of entries from the first that is seen on
pub borrowed : (es : List Entry) (n : ℕ) → take (length es - n) (drop n es) ≡ drop n es
borrowed es n = take_all (length es - n) (drop n es) (omega (arith, length-drop n es))

-- what is borrowed of entries behind a group
pub borrowed_behind : (es : List Entry) (n : ℕ) → take (length es - (n + 1)) (drop (n + 1) es) ≡ drop (suc n) es
borrowed_behind es n = borrowed es (n + 1) ∙ ap (λ k. drop k es) (add-one n)

-- what is seen of a group and of what is behind it
pub group_seen : (d : Delimiter) (s : Span) (n : ℕ) (es : List Entry) → is_visible d ≡ true → Opened d s n es →
    seen (spanned_entries (entry.Open d s n ∷ es)) ≡ spanned (Opens d) s ∷ seen (spanned_entries (take n es))
    ++ spanned (Closes d) s ∷ seen (spanned_entries (drop (suc n) es))
group_seen d s n es v o =
    marked d (Opens d) s true (spanned_entries es) refl v
    ∙ ap (λ x. spanned (Opens d) s ∷ x) (o.sees
    ∙ ap (λ x. seen (spanned_entries (take n es)) ++ x)
    (marked d (Closes d) s true (spanned_entries (drop (suc n) es)) refl v))

pub ruleset settles = (none_passed, one_passed, seen_first, seen_end)
