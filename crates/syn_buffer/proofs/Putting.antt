-- Entries that are put behind others.
use Rattle.std.proofs.Common.{◌≡◌, ℕ, zero, suc, ◌+◌, ◌-◌, ◌<◌, ◌≤◌, List, [], ◌∷◌, ◌++◌, length, take, get_or, refl}
use Rattle.std.proofs.Common.{sym, ap, ◌∙◌, subst, arith, append_assoc, add-one, length-append, true}
use Rattle.std.proofs.lemmas.List.{map-append, append-nil}
use Rattle.std.proofs.lemmas.List.Folds.{list_all-append}
use Rattle.std.specs.Prelude.{Bool, ◌&&◌}
use Rattle.std.proofs.Math.Seq.{set-append_seam}
use Rattle.std.proofs.Math.ListN.{set}
use Rattle.rust_map.specs.declared.span.Span.{Span}
use Rattle.proc_macro2.specs.declared.delimiter.Delimiter.{Delimiter}
use Rattle.proc_macro2.specs.Token.{Opens, Closes, Spanned}
use Rattle.proc_macro2.specs.Flat.{spanned, tree_tokens, trees_tokens}
use Rattle.proc_macro2.specs.declared.tree.TokenTree.{TokenTree}
use Rattle.syn_buffer.specs.Entries.{spanned_entry, spanned_entries, is_whole}
use Rattle.syn_buffer.specs.Puts.{Puts}
use Rattle.syn_buffer.specs.Seen.{all_seen, is_seen}
use Rattle.syn_buffer.specs.declared.entry.Entry.{Entry}
use Rattle.syn_buffer.specs.declared.entry.Entry.TheVariants as entry
use Rattle.syn_buffer.proofs.Laid.{whole_append, whole_group}

-- a tree has no more tokens than the trees among which it stands
pub part_length : (ts : List TokenTree) (i : ℕ) (d : TokenTree) → i < length ts →
    length (tree_tokens (get_or ts i d)) ≤ length (trees_tokens ts)
part_length [] i d h = absurd (omega arith)
part_length (t ∷ ts) zero d h = omega (arith, length-append (tree_tokens t) (trees_tokens ts))
part_length (t ∷ ts) (suc i) d h =
    omega (arith, part_length ts i d (omega arith), length-append (tree_tokens t) (trees_tokens ts))

-- nothing, and more behind that
pub put_none : (es : List Entry) → Puts es es []
put_none es = record { added = []; behind = sym (append-nil es); tokens_are = refl; lies = refl }

pub put_more : (xs ys zs : List Entry) (ts us : List Spanned) → Puts xs ys ts → Puts ys zs us → Puts xs zs (ts ++ us)
put_more xs ys zs ts us p q = record {
  added = p.added ++ q.added;
  behind = q.behind ∙ ap (λ x. x ++ q.added) p.behind ∙ append_assoc xs p.added q.added;
  tokens_are = map-append spanned_entry p.added q.added ∙ ap (λ x. x ++ spanned_entries q.added) p.tokens_are
      ∙ ap (λ x. ts ++ x) q.tokens_are;
  lies = whole_append p.added q.added p.lies q.lies;
}

-- one entry of a leaf
pub put_one : (xs ys : List Entry) (e : Entry) → ys ≡ xs ++ e ∷ [] → is_whole (e ∷ []) ≡ true →
    Puts xs ys (spanned_entry e ∷ [])
put_one xs ys e p l = record { added = e ∷ []; behind = p; tokens_are = refl; lies = l }

-- a group: its opening mark, which is written again behind its inside, and its closing mark
pub put_group : (d : Delimiter) (s : Span) (xs ys zs vs : List Entry) (ts : List Spanned) →
    ys ≡ xs ++ entry.Open d s 0 ∷ [] → Puts ys zs ts →
    vs ≡ set zs (length xs) (entry.Open d s (length zs - length xs - 1)) ++ entry.Close d s ∷ [] →
    Puts xs vs (spanned (Opens d) s ∷ ts ++ spanned (Closes d) s ∷ [])
put_group d s xs ys zs vs ts b p e =
    let inside = p.added in
    let n : ℕ = length zs - length xs - 1 in
    let whole : zs ≡ xs ++ entry.Open d s 0 ∷ inside =
    p.behind ∙ ap (λ x. x ++ inside) b ∙ append_assoc xs (entry.Open d s 0 ∷ []) inside in
    let count : n ≡ length inside =
    omega (arith, ap (λ (x : List Entry). length x) whole, length-append xs (entry.Open d s 0 ∷ inside)) in
    let close : List Entry = entry.Close d s ∷ [] in
    record {
      added = entry.Open d s (length inside) ∷ inside ++ close;
      behind =
          e ∙ ap (λ x. x ++ close) (ap (λ x. set x (length xs) (entry.Open d s n)) whole
          ∙ set-append_seam xs (entry.Open d s 0) inside (entry.Open d s n)
          ∙ ap (λ k. xs ++ entry.Open d s k ∷ inside) count)
          ∙ append_assoc xs (entry.Open d s (length inside) ∷ inside) close;
      tokens_are =
          ap (λ x. spanned (Opens d) s ∷ x) (map-append spanned_entry inside close
          ∙ ap (λ x. x ++ spanned (Closes d) s ∷ []) p.tokens_are);
      lies = whole_group d s inside p.lies;
    }

-- one tree more
taken_more : (ts : List TokenTree) (i : ℕ) (d : TokenTree) → i < length ts →
    trees_tokens (take (suc i) ts) ≡ trees_tokens (take i ts) ++ tree_tokens (get_or ts i d)
taken_more [] i d h = absurd (omega arith)
taken_more (t ∷ ts) zero d h = append-nil (tree_tokens t)
taken_more (t ∷ ts) (suc i) d h = ap (λ x. tree_tokens t ++ x) (taken_more ts i d (omega arith))
    ∙ sym (append_assoc (tree_tokens t) (trees_tokens (take i ts)) (tree_tokens (get_or ts i d)))

pub put_next : (xs ys zs : List Entry) (ts : List TokenTree) (i : ℕ) (t : TokenTree) → i < length ts →
    t ≡ get_or ts i t → Puts xs ys (trees_tokens (take i ts)) → Puts ys zs (tree_tokens t) →
    Puts xs zs (trees_tokens (take (i + 1) ts))
put_next xs ys zs ts i t h e p q =
    let P : List Spanned → Type 0 = λ us. Puts xs zs us in
    subst P (ap (λ u. trees_tokens (take i ts) ++ tree_tokens u) e ∙ sym (taken_more ts i t h)
    ∙ ap (λ k. trees_tokens (take k ts)) (sym (add-one i)))
    (put_more xs ys zs (trees_tokens (take i ts)) (tree_tokens t) p q)

pub seen_next : (ts : List TokenTree) (i : ℕ) (t : TokenTree) (a b : Bool) → i < length ts → t ≡ get_or ts i t →
    a ≡ all_seen (trees_tokens (take i ts)) → b ≡ all_seen (tree_tokens t) →
    (a && b) ≡ all_seen (trees_tokens (take (i + 1) ts))
seen_next ts i t a b h e p q =
    let whole : trees_tokens (take (i + 1) ts) ≡ trees_tokens (take i ts) ++ tree_tokens t =
    ap (λ k. trees_tokens (take k ts)) (add-one i) ∙ taken_more ts i t h
    ∙ ap (λ u. trees_tokens (take i ts) ++ tree_tokens u) (sym e) in
    ap (λ x. x && b) p ∙ ap (λ x. all_seen (trees_tokens (take i ts)) && x) q
    ∙ sym (ap all_seen whole
    ∙ list_all-append (λ (s : Spanned). is_seen s.token) (trees_tokens (take i ts)) (tree_tokens t))
