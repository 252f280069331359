-- Entries that are whole trees and all seen: how many the first of the trees takes.
use Rattle.std.proofs.Common.{◌≡◌, ◌∙◌, ℕ, zero, suc, ◌<◌, ◌≤◌, List, [], ◌∷◌, ◌++◌, length, take, drop, refl, sym}
use Rattle.std.proofs.Common.{ap, subst, arith, length-drop, length-take, length-append}
use Rattle.std.specs.Prelude.{Bool, true, false, not, cond, IsTrue, nat_lt}
use Rattle.std.proofs.lemmas.Bool.{ltb-true, ltb-false}
use Rattle.std.proofs.lemmas.List.{map-append, take-append-drop, length-map}
use Rattle.rust_leaf.specs.Leaf.{literal_text}
use Rattle.rust_leaf.specs.Minus.{starts_with_minus}
use Rattle.rust_map.specs.declared.span.Span.{Span}
use Rattle.proc_macro2.specs.declared.delimiter.Delimiter.{Delimiter}
use Rattle.proc_macro2.specs.Flat.{spanned}
use Rattle.proc_macro2.specs.Groups.{IsMatched}
use Rattle.proc_macro2.specs.Token.{Opens, Closes, Spanned}
use Rattle.syn_buffer.specs.Entries.{closes_with, is_whole, laid, spanned_entries, spanned_entry}
use Rattle.syn_buffer.specs.Groups.{IsGroup}
use Rattle.syn_buffer.specs.Position.{rest}
use Rattle.syn_buffer.specs.Seen.{all_seen, is_seen, seen}
use Rattle.syn_buffer.specs.declared.position.Cursor.{Cursor}
use Rattle.syn_buffer.specs.declared.entry.Entry.{Entry}
use Rattle.syn_buffer.specs.declared.entry.Entry.TheVariants as entry
use Rattle.syn_buffer.proofs.AllSeen.{seen_all, seen_drop, seen_take}
use Rattle.syn_buffer.proofs.Laid.{both, both_true, closing, matched_seen, whole_is_laid}
use Rattle.node_seen.specs.Trees.{IsTree}
use Rattle.node_seen.proofs.Fronts.{front_matched, opened_unmatched}

-- enough fuel is as good as any
whole_any : (k m : ℕ) (es : List Entry) → laid false k es ≡ true → length es ≤ m → laid false m es ≡ true
whole_any k m [] h l = refl
whole_any zero m (e ∷ es) h l = cc
whole_any (suc k) zero (e ∷ es) h l = absurd (omega arith)
whole_any (suc k) (suc m) (entry.Open d s n ∷ es) h l =
    let p = both (closes_with d s (drop n es)) _ h in
    let q = both (laid false k (take n es)) _ p.1 in
    both_true _ _ p.0 (both_true _ _
    (whole_any k m (take n es) q.0 (omega (arith, length-take n es)))
    (whole_any k m (drop (suc n) es) q.1 (omega (arith, length-drop (suc n) es))))
whole_any (suc k) (suc m) (entry.Close d s ∷ es) h l = cc
whole_any (suc k) (suc m) (entry.Ident i ∷ es) h l = whole_any k m es h (omega arith)
whole_any (suc k) (suc m) (entry.Punct p ∷ es) h l = whole_any k m es h (omega arith)
whole_any (suc k) (suc m) (entry.Literal i ∷ es) h l =
    let p = both (not (starts_with_minus (literal_text i.now))) _ h in
    both_true _ _ p.0 (whole_any k m es p.1 (omega arith))

take_less : (j c : ℕ) (es : List Entry) → j ≤ c → take j (take c es) ≡ take j es
take_less zero c es b = refl
take_less (suc j) zero es b = absurd (omega arith)
take_less (suc j) (suc c) [] b = refl
take_less (suc j) (suc c) (e ∷ es) b = ap (λ xs. e ∷ xs) (take_less j c es (omega arith))

-- each group among them is closed by its own mark
pub whole_matched : (es : List Entry) → is_whole es ≡ true → IsTrue (all_seen (spanned_entries es))
    → IsMatched (spanned_entries es)
whole_matched es h v = subst IsMatched (seen_all (spanned_entries es) v) (matched_seen es (whole_is_laid es h))

-- a group that stands first
pub record Group (d : Delimiter) (s : Span) (n : ℕ) (es : List Entry) : Type 0 where
  pub within : n < length es
  pub inside : is_whole (take n es) ≡ true
  pub behind : is_whole (drop (suc n) es) ≡ true
  pub parts : es ≡ take n es ++ entry.Close d s ∷ drop (suc n) es

pub group : (d : Delimiter) (s : Span) (n : ℕ) (es : List Entry) → is_whole (entry.Open d s n ∷ es) ≡ true
    → Group d s n es
group d s n es h =
    let p = both (closes_with d s (drop n es)) _ h in
    let q = both (laid false (length es) (take n es)) _ p.1 in
    let close = closing d s n es p.0 in
    let some = ap (λ (xs : List Entry). length xs) close in
    record {
      within = omega (arith, some, length-drop n es);
      inside = whole_any (length es) (length (take n es)) (take n es) q.0 (omega arith);
      behind = whole_any (length es) (length (drop (suc n) es)) (drop (suc n) es) q.1 (omega arith);
      parts = sym (take-append-drop n es) ∙ ap (λ x. take n es ++ x) close;
    }

-- The first tree takes some of them, and no more than are there; behind it whole trees stand.
pub record First (es : List Entry) (n : ℕ) : Type 0 where
  pub some : 0 < n
  pub within : n ≤ length es
  pub behind : is_whole (drop n es) ≡ true

pub first : (es : List Entry) (n : ℕ) → is_whole es ≡ true → IsTree es n → First es n
first [] n h t = absurd t
first (entry.Open d s c ∷ es) n h t =
    let g = group d s c es h in
    record {
      some = omega (arith, t);
      within = omega (arith, t, g.within);
      behind = ap (λ k. is_whole (drop k (entry.Open d s c ∷ es))) t ∙ g.behind;
    }
first (entry.Close d s ∷ es) n h t = absurd t
first (entry.Ident i ∷ es) n h t =
    record {
      some = omega (arith, t);
      within = omega (arith, t);
      behind = ap (λ k. is_whole (drop k (entry.Ident i ∷ es))) t ∙ h;
    }
first (entry.Punct p ∷ es) n h t =
    record {
      some = omega (arith, t);
      within = omega (arith, t);
      behind = ap (λ k. is_whole (drop k (entry.Punct p ∷ es))) t ∙ h;
    }
first (entry.Literal l ∷ es) n h t =
    let p = both (not (starts_with_minus (literal_text l.now))) _ h in
    record {
      some = omega (arith, t);
      within = omega (arith, t);
      behind = ap (λ k. is_whole (drop k (entry.Literal l ∷ es))) t ∙ p.1;
    }

-- Whole trees end at no place within the first.
pub no_less : (es : List Entry) (n k : ℕ) → is_whole es ≡ true → IsTrue (all_seen (spanned_entries es)) → IsTree es n
    → 0 < k → k ≤ length es → is_whole (drop k es) ≡ true → n ≤ k
no_less [] n k h v t l m w = absurd t
no_less (entry.Close d s ∷ es) n k h v t l m w = absurd t
no_less (entry.Ident i ∷ es) n k h v t l m w = omega (arith, t, l)
no_less (entry.Punct p ∷ es) n k h v t l m w = omega (arith, t, l)
no_less (entry.Literal i ∷ es) n k h v t l m w = omega (arith, t, l)
no_less (entry.Open d s c ∷ es) n zero h v t l m w = absurd (omega (arith, l))
no_less (entry.Open d s c ∷ es) n (suc j) h v t l m w = either (nat_lt c j) refl
  where
    all : List Entry
    all = entry.Open d s c ∷ es

    inner : IsTrue (all_seen (spanned_entries es))
    inner = seen_drop 1 all v

    ends : j ≤ c → ⊥
    ends b =
        let g = group d s c es h in
        let whole : IsMatched (spanned_entries (take (suc j) all) ++ spanned_entries (drop (suc j) all)) =
        subst IsMatched (ap spanned_entries (sym (take-append-drop (suc j) all))
        ∙ map-append spanned_entry (take (suc j) all) (drop (suc j) all)) (whole_matched all h v) in
        let front : IsMatched (spanned_entries (take (suc j) all)) =
        front_matched (spanned_entries (take (suc j) all)) (spanned_entries (drop (suc j) all)) whole
        (whole_matched (drop (suc j) all) w (seen_drop (suc j) all v)) in
        let inside : IsMatched (spanned_entries (take j es) ++ spanned_entries (drop j (take c es))) =
        subst IsMatched (ap spanned_entries (sym (take-append-drop j (take c es)))
        ∙ map-append spanned_entry (take j (take c es)) (drop j (take c es))
        ∙ ap (λ xs. spanned_entries xs ++ spanned_entries (drop j (take c es))) (take_less j c es b))
        (whole_matched (take c es) g.inside (seen_take c es inner)) in
        opened_unmatched d s (spanned_entries (take j es)) (spanned_entries (drop j (take c es))) inside front

    either : (b : Bool) → nat_lt c j ≡ b → n ≤ suc j
    either true e = omega (arith, t, ltb-true c j e)
    either false e = absurd (ends (omega (arith, ltb-false c j e)))

-- what is seen is seen
seen_seen : (ts : List Spanned) → all_seen (seen ts) ≡ true
seen_seen [] = refl
seen_seen (t ∷ ts) = either (seen_seen ts) (is_seen t.token) refl
  where
    either : all_seen (seen ts) ≡ true → (b : Bool) → is_seen t.token ≡ b
        → all_seen (cond b (t ∷ seen ts) (seen ts)) ≡ true
    either more true p = both_true _ _ p more
    either more false p = more

pub seen_rest : (es : List Entry) (c : Cursor) → spanned_entries es ≡ rest c → IsTrue (all_seen (spanned_entries es))
seen_rest es c e = ap all_seen e ∙ seen_seen (spanned_entries c.entries.now)

-- of entries that are seen from a place on, where a group stands, the first tree is that group
pub group_stands : ((ts : List Spanned) (d e : Delimiter) (s t : Span) (i j b c : List Spanned)
    → IsGroup ts d s i b → IsGroup ts e t j c → (i ≡ j) × (b ≡ c))
    → (ts : List Spanned) (d : Delimiter) (s : Span) (inside behind : List Spanned) → IsGroup ts d s inside behind
    → (es : List Entry) (n : ℕ) → spanned_entries es ≡ ts → is_whole es ≡ true → IsTrue (all_seen (spanned_entries es))
    → IsTree es n → length (spanned (Opens d) s ∷ inside ++ spanned (Closes d) s ∷ []) ≡ n
group_stands one ts d s inside behind g [] n e h v t = absurd t
group_stands one ts d s inside behind g (entry.Close k r ∷ es) n e h v t = absurd t
group_stands one ts d s inside behind g (entry.Ident i ∷ es) n e h v t = absurd (cc (e, g.reads))
group_stands one ts d s inside behind g (entry.Punct p ∷ es) n e h v t = absurd (cc (e, g.reads))
group_stands one ts d s inside behind g (entry.Literal l ∷ es) n e h v t = absurd (cc (e, g.reads))
group_stands one ts d s inside behind g (entry.Open k r c ∷ es) n e h v t =
    let o = group k r c es h in
    let inner : IsTrue (all_seen (spanned_entries es)) = seen_drop 1 (entry.Open k r c ∷ es) v in
    let parts : spanned_entries es
    ≡ spanned_entries (take c es) ++ spanned (Closes k) r ∷ spanned_entries (drop (suc c) es) =
    ap spanned_entries o.parts ∙ map-append spanned_entry (take c es) (entry.Close k r ∷ drop (suc c) es) in
    let other : IsGroup ts k r (spanned_entries (take c es)) (spanned_entries (drop (suc c) es)) = record {
      reads = sym e ∙ ap (λ us. spanned (Opens k) r ∷ us) parts;
      whole = whole_matched (take c es) o.inside (seen_take c es inner);
    } in
    let same : inside ≡ spanned_entries (take c es) =
    (one ts d k s r inside (spanned_entries (take c es)) behind (spanned_entries (drop (suc c) es)) g other).0 in
    let long = ap (λ (us : List Spanned). length us) same in
    let as_many = length-map (take c es) spanned_entry in
    omega (arith, t, long, as_many, length-take c es, o.within, length-append inside (spanned (Closes d) s ∷ []))
