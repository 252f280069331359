-- One tree further.
use Rattle.std.proofs.Common.{◌≡◌, ◌∙◌, ℕ, zero, suc, ◌+◌, ◌-◌, ◌<◌, ◌≤◌}
use Rattle.std.proofs.Common.{List, [], ◌∷◌, length, take, drop, refl, sym, ap}
use Rattle.std.proofs.Common.{subst, arith, length-drop}
use Rattle.std.specs.Prelude.{true, IsTrue}
use Rattle.std.proofs.lemmas.List.{drop-map}
use Rattle.proc_macro2.specs.Token.{Spanned}
use Rattle.syn_buffer.specs.Behind.{Passes}
use Rattle.syn_buffer.specs.Entries.{is_whole, spanned_entries, spanned_entry}
use Rattle.syn_buffer.specs.Position.{rest}
use Rattle.syn_buffer.specs.Seen.{all_seen}
use Rattle.syn_buffer.specs.declared.entry.Entry.{Entry}
use Rattle.syn_buffer.specs.declared.position.Cursor.{Cursor}
use Rattle.syn_buffer.proofs.AllSeen.{seen_drop}
use Rattle.node_seen.specs.Trees.{IsTree}
use Rattle.node_seen.proofs.Passing.{dropped, passes_both, taken_both}
use Rattle.node_seen.proofs.Wholes.{first, no_less, seen_rest}

drop_both : (n m : ℕ) (es : List Entry) → drop m (drop n es) ≡ drop (n + m) es
drop_both zero m es =
    let same : m ≡ 0 + m = omega arith in
    ap (λ k. drop k es) same
drop_both (suc n) m [] = none m ∙ sym (none (suc n + m))
  where
    none : (k : ℕ) → drop {A = Entry} k [] ≡ []
    none zero = refl
    none (suc k) = refl
drop_both (suc n) m (e ∷ es) =
    let same : suc (n + m) ≡ suc n + m = omega arith in
    drop_both n m es ∙ ap (λ k. drop k (e ∷ es)) same

-- of entries that are seen from a place on, behind the tree that stands behind p of them
pub record Step (from after : Cursor) (es : List Entry) (count p n : ℕ) : Type 0 where
  pub some : 0 < n
  pub within : p + n ≤ count
  pub left : spanned_entries (drop (p + n) es) ≡ rest after
  pub whole : is_whole (drop (p + n) es) ≡ true
  pub passes : Passes from (take (p + n) (rest from)) after

pub step : (from at after : Cursor) (es : List Entry) (count p n : ℕ) → spanned_entries es ≡ rest from
    → count ≤ length es → is_whole (drop count es) ≡ true → p < count → spanned_entries (drop p es) ≡ rest at
    → is_whole (drop p es) ≡ true → Passes from (take p (rest from)) at → IsTree (drop p es) n
    → Passes at (take n (rest at)) after → Step from after es count p n
step from at after es count p n e l ends m left whole before t behind =
    let xs : List Entry = drop p es in
    let v : IsTrue (all_seen (spanned_entries xs)) = seen_drop p es (seen_rest es from e) in
    let f = first xs n whole t in
    let count_is : p + (count - p) ≡ count = omega (arith, m) in
    let ends_there : is_whole (drop (count - p) xs) ≡ true =
    ap is_whole (drop_both p (count - p) es ∙ ap (λ k. drop k es) count_is) ∙ ends in
    let some : 0 < count - p = omega (arith, m) in
    let fits : count - p ≤ length xs = omega (arith, l, length-drop p es) in
    let less : n ≤ count - p = no_less xs n (count - p) whole v t some fits ends_there in
    let past : drop p (rest from) ≡ rest at =
    ap (λ (ts : List Spanned). drop p ts) (sym e) ∙ drop-map spanned_entry p es ∙ left in
    record {
      some = f.some;
      within = omega (arith, less, m);
      left = ap spanned_entries (sym (drop_both p n es)) ∙ sym (drop-map spanned_entry n xs)
          ∙ ap (λ (ts : List Spanned). drop n ts) left ∙ dropped n (rest at) (rest after) behind.reads;
      whole = ap is_whole (sym (drop_both p n es)) ∙ f.behind;
      passes = subst (λ ts. Passes from ts after) (sym (taken_both p n (rest from) (rest at) past))
          (passes_both from at after (take p (rest from)) (take n (rest at)) before behind);
    }
