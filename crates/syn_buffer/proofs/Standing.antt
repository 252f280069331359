-- The trees of entries.
use denote.Ref.{Bor}
use Rattle.std.proofs.Common.{◌≡◌, ◌+◌, ℕ, zero, suc, List, [], ◌∷◌, ◌++◌, length, take, drop, refl, sym, ap, subst}
use Rattle.std.proofs.Common.{◌∙◌, arith, append_assoc}
use Rattle.std.specs.Prelude.{Bool, true, false, ◌&&◌, not, if◌then◌else◌}
use Rattle.std.proofs.lemmas.List.{map-append, append-nil, drop-drop, take-append-drop}
use Rattle.std.proofs.lemmas.List.Elements.{filter-append}
use Rattle.rust_map.specs.declared.span.Span.{Span}
use Rattle.rust_leaf.specs.Leaf.{ident_span, ident_text, literal_span, literal_text}
use Rattle.rust_leaf.specs.declared.ident.Ident as Idents
use Rattle.rust_leaf.specs.declared.literal.Literal as Literals
use Rattle.rust_leaf.specs.declared.punct.Punct as Puncts
use Rattle.rust_leaf.specs.declared.punct.Spacing.TheVariants.{Alone}
use Rattle.rust_leaf.specs.Minus.{minus, starts_with_minus}
use Rattle.proc_macro2.specs.declared.delimiter.Delimiter.{Delimiter}
use Rattle.proc_macro2.specs.Entered.{entered}
use Rattle.proc_macro2.specs.Flat.{group_tokens, spanned, tree_tokens}
use Rattle.proc_macro2.specs.Token.{Opens, Closes, Ident, Literal, Punct, Spanned}
use Rattle.proc_macro2.specs.declared.tree.Group.{Group}
use Rattle.proc_macro2.specs.declared.tree.TokenTree.{TokenTree}
use Rattle.proc_macro2.specs.declared.tree.TokenTree.TheVariants as tree
use Rattle.syn_buffer.specs.Entries.{closes_with, is_laid, is_whole, laid, spanned_entries, spanned_entry}
use Rattle.syn_buffer.specs.Seen.{is_seen, is_visible, seen}
use Rattle.syn_buffer.specs.Standing.{FirstTree, NoTree, standing, trees_of}
use Rattle.syn_buffer.specs.declared.entry.Entry.{Entry}
use Rattle.syn_buffer.specs.declared.entry.Entry.TheVariants as entry
use Rattle.syn_buffer.proofs.Laid.{Opened, both, closing, marked, not_true, opened}

-- the tokens of a group and of what stands behind it
group_parts : (d : Delimiter) (s : Span) (n : ℕ) (es : List Entry) → closes_with d s (drop n es) ≡ true →
    spanned_entries es ≡ spanned_entries (take n es) ++ spanned (Closes d) s ∷ spanned_entries (drop (suc n) es)
group_parts d s n es c =
    ap spanned_entries (sym (take-append-drop n es) ∙ ap (λ x. take n es ++ x) (closing d s n es c))
    ∙ map-append spanned_entry (take n es) (entry.Close d s ∷ drop (suc n) es)

-- whole trees stand as they are, whatever is open around them and follows
whole_standing : (k : ℕ) (es : List Entry) (m : ℕ) (ts : List Spanned) → laid false k es ≡ true →
    standing m (spanned_entries es ++ ts) ≡ spanned_entries es ++ standing m ts
whole_standing k [] m ts h = refl
whole_standing zero (e ∷ es) m ts h = cc
whole_standing (suc k) (entry.Open d s n ∷ es) m ts h =
    let p = both (closes_with d s (drop n es)) _ h in
    let q = both (laid false k (take n es)) _ p.1 in
    let opening : Spanned = spanned (Opens d) s in
    let close : Spanned = spanned (Closes d) s in
    let inside : List Spanned = spanned_entries (take n es) in
    let behind : List Spanned = spanned_entries (drop (suc n) es) in
    let parts : spanned_entries es ≡ inside ++ close ∷ behind = group_parts d s n es p.0 in
    ap (λ x. opening ∷ x) (
    ap (λ x. standing (suc m) (x ++ ts)) parts
    ∙ ap (standing (suc m)) (append_assoc inside (close ∷ behind) ts)
    ∙ whole_standing k (take n es) (suc m) (close ∷ behind ++ ts) q.0
    ∙ ap (λ x. inside ++ close ∷ x) (whole_standing k (drop (suc n) es) m ts q.1)
    ∙ sym (append_assoc inside (close ∷ behind) (standing m ts))
    ∙ ap (λ x. x ++ standing m ts) (sym parts))
whole_standing (suc k) (entry.Close d s ∷ es) m ts h = cc
whole_standing (suc k) (entry.Ident i ∷ es) m ts h =
    ap (λ x. spanned_entry (entry.Ident i) ∷ x) (whole_standing k es m ts h)
whole_standing (suc k) (entry.Punct p ∷ es) m ts h =
    ap (λ x. spanned_entry (entry.Punct p) ∷ x) (whole_standing k es m ts h)
whole_standing (suc k) (entry.Literal l ∷ es) m ts h =
    ap (λ x. spanned_entry (entry.Literal l) ∷ x)
    (whole_standing k es m ts (both (not (starts_with_minus (literal_text l.now))) _ h).1)

pub whole_trees : (es : List Entry) → is_whole es ≡ true → trees_of es ≡ spanned_entries es
whole_trees es h =
    ap (standing zero) (sym (append-nil (spanned_entries es)))
    ∙ whole_standing (length es) es zero [] h
    ∙ append-nil (spanned_entries es)

-- the first tree is a group
pub first_group : (d : Delimiter) (s : Span) (n : ℕ) (es : List Entry) (g : Group) →
    is_laid (entry.Open d s n ∷ es) ≡ true →
    g.delimiter ≡ d → g.span ≡ s → g.stream ≡ trees_of (take n es) →
    FirstTree (entry.Open d s n ∷ es) (tree.Group g) (n + 2)
first_group d s n es g h is_d is_s is_stream =
    let o : Opened d s n es = opened d s n es h in
    let inside : List Spanned = spanned_entries (take n es) in
    let after : List Spanned = spanned_entries (drop (suc n) es) in
    let close : Spanned = spanned (Closes d) s in
    let stream : g.stream ≡ inside = is_stream ∙ whole_trees (take n es) o.inside in
    let tokens : group_tokens g ≡ spanned (Opens d) s ∷ inside ++ close ∷ [] = cc in
    let parts : spanned_entries es ≡ inside ++ close ∷ after = group_parts d s n es o.closes in
    let two : n + 2 ≡ suc (suc n) = omega arith in
    let behind : drop (suc n) es ≡ drop (n + 2) (entry.Open d s n ∷ es) =
    ap (λ k. drop k (entry.Open d s n ∷ es)) (sym two) in
    let flat : spanned_entries (entry.Open d s n ∷ es) ≡ group_tokens g ++ after =
    ap (λ x. spanned (Opens d) s ∷ x) (parts ∙ sym (append_assoc inside (close ∷ []) after))
    ∙ ap (λ x. x ++ after) (sym tokens) in
    record {
      stands =
          ap (λ x. spanned (Opens d) s ∷ x) (
          ap (standing 1) parts
          ∙ whole_standing (length (take n es)) (take n es) 1 (close ∷ after) o.inside
          ∙ sym (append_assoc inside (close ∷ []) (standing zero after)))
          ∙ ap (λ x. x ++ standing zero after) (sym tokens)
          ∙ ap (λ x. group_tokens g ++ trees_of x) behind;
      sees = ap seen flat ∙ filter-append (λ (x : Spanned). is_seen x.token) (group_tokens g) after
          ∙ ap (λ x. seen (group_tokens g) ++ seen (spanned_entries x)) behind;
      as_it_is = refl;
      lies = ap is_laid (sym behind) ∙ o.behind;
      some = omega arith;
      within = omega (arith, o.within);
    }

-- the first tree is one token
first_leaf : (e : Entry) (es : List Entry) (t : TokenTree) → tree_tokens t ≡ spanned_entry e ∷ [] →
    entered t ≡ tree_tokens t →
    trees_of (e ∷ es) ≡ spanned_entry e ∷ trees_of es →
    seen (spanned_entries (e ∷ es)) ≡ seen (spanned_entry e ∷ []) ++ seen (spanned_entries es) →
    is_laid es ≡ true → FirstTree (e ∷ es) t 1
first_leaf e es t tokens same trees sees h = record {
  stands = trees ∙ ap (λ x. x ++ trees_of es) (sym tokens);
  sees = sees ∙ ap (λ x. seen x ++ seen (spanned_entries es)) (sym tokens);
  as_it_is = same;
  lies = h;
  some = omega arith;
  within = omega arith;
}

pub first_ident : (i : Bor Idents.Ident) (es : List Entry) (x : Idents.Ident) → is_laid (entry.Ident i ∷ es) ≡ true →
    ident_text x ≡ ident_text i.now → ident_span x ≡ ident_span i.now → FirstTree (entry.Ident i ∷ es) (tree.Ident x) 1
first_ident i es x h text span = first_leaf (entry.Ident i) es (tree.Ident x)
    (ap (λ cs. spanned (Ident cs) (ident_span x) ∷ []) text
    ∙ ap (λ s. spanned (Ident (ident_text i.now)) s ∷ []) span) refl refl refl h

pub first_punct : (p : Bor Puncts.Punct) (es : List Entry) → is_laid (entry.Punct p ∷ es) ≡ true →
    FirstTree (entry.Punct p ∷ es) (tree.Punct p.now) 1
first_punct p es h = first_leaf (entry.Punct p) es (tree.Punct p.now) refl refl refl refl h

pub first_literal : (l : Bor Literals.Literal) (es : List Entry) (x : Literals.Literal) →
    is_laid (entry.Literal l ∷ es) ≡ true →
    literal_text x ≡ literal_text l.now → literal_span x ≡ literal_span l.now →
    FirstTree (entry.Literal l ∷ es) (tree.Literal x) 1
first_literal l es x h text span =
    let p = both (not (starts_with_minus (literal_text l.now))) _ h in
    first_leaf (entry.Literal l) es (tree.Literal x)
    (ap (λ cs. spanned (Literal cs) (literal_span x) ∷ []) text
    ∙ ap (λ s. spanned (Literal (literal_text l.now)) s ∷ []) span)
    (ap (λ b. if b then spanned (Punct minus Alone) (literal_span x) ∷ spanned (Literal (drop 1 (literal_text x)))
    (literal_span x) ∷ []
    else spanned (Literal (literal_text x)) (literal_span x) ∷ []) (ap starts_with_minus text ∙ not_true _ p.0))
    refl refl p.1

-- the mark of a group that was entered before is not seen
unseen_close : (o : Bool) (k : ℕ) (d : Delimiter) (s : Span) (es : List Entry) →
    laid o (suc k) (entry.Close d s ∷ es) ≡ true →
    seen (spanned_entries (entry.Close d s ∷ es)) ≡ seen (spanned_entries es)
unseen_close o k d s es h =
    let v = both o (not (is_visible d)) (both (o && not (is_visible d)) _ h).0 in
    marked d (Closes d) s false (spanned_entries es) refl (not_true _ v.1)

unseen_mark : (d : Delimiter) (s : Span) (es : List Entry) → is_laid (entry.Close d s ∷ es) ≡ true →
    seen (spanned_entries (entry.Close d s ∷ es)) ≡ seen (spanned_entries es)
unseen_mark d s es h = unseen_close true (length es) d s es h

-- past a mark of a group that was entered before
pub past_mark : (d : Delimiter) (s : Span) (es : List Entry) (t : TokenTree) (n : ℕ) →
    is_laid (entry.Close d s ∷ es) ≡ true → FirstTree es t n →
    FirstTree (entry.Close d s ∷ es) t (n + 1)
past_mark d s es t n h f =
    let one : n + 1 ≡ suc n = omega arith in
    let P : ℕ → Type 0 = λ k. FirstTree (entry.Close d s ∷ es) t k in
    subst P (sym one) (record {
      stands = f.stands;
      sees = unseen_mark d s es h ∙ f.sees;
      as_it_is = f.as_it_is;
      lies = f.lies;
      some = omega arith;
      within = omega (arith, f.within);
    })

pub no_tree_past : (d : Delimiter) (s : Span) (es : List Entry) → is_laid (entry.Close d s ∷ es) ≡ true → NoTree es →
    NoTree (entry.Close d s ∷ es)
no_tree_past d s es h f = record { none = f.none; unseen = unseen_mark d s es h ∙ f.unseen }

-- what is seen of trees is what is seen of entries
mixed : (xs : List Spanned) (y : Spanned) (us vs : List Spanned) → seen us ≡ seen vs →
    seen (xs ++ y ∷ us) ≡ seen (xs ++ y ∷ vs)
mixed xs y us vs e =
    ap seen (sym (append_assoc xs (y ∷ []) us))
    ∙ filter-append (λ (x : Spanned). is_seen x.token) (xs ++ y ∷ []) us
    ∙ ap (λ x. seen (xs ++ y ∷ []) ++ x) e
    ∙ sym (filter-append (λ (x : Spanned). is_seen x.token) (xs ++ y ∷ []) vs)
    ∙ ap seen (append_assoc xs (y ∷ []) vs)

one_more : (x : Spanned) (us vs : List Spanned) → seen us ≡ seen vs → seen (x ∷ us) ≡ seen (x ∷ vs)
one_more x us vs e = mixed [] x us vs e

seen_standing : (o : Bool) (k : ℕ) (es : List Entry) (m : ℕ) → laid o k es ≡ true →
    seen (standing m (spanned_entries es)) ≡ seen (spanned_entries es)
seen_standing o k [] m h = refl
seen_standing o zero (e ∷ es) m h = cc
seen_standing o (suc k) (entry.Open d s n ∷ es) m h =
    let p = both (closes_with d s (drop n es)) _ h in
    let q = both (laid false k (take n es)) _ p.1 in
    let opening : Spanned = spanned (Opens d) s in
    let close : Spanned = spanned (Closes d) s in
    let inside : List Spanned = spanned_entries (take n es) in
    let behind : List Spanned = spanned_entries (drop (suc n) es) in
    let parts : spanned_entries es ≡ inside ++ close ∷ behind = group_parts d s n es p.0 in
    ap (λ x. seen (opening ∷ x)) (ap (standing (suc m)) parts
    ∙ whole_standing k (take n es) (suc m) (close ∷ behind) q.0)
    ∙ mixed (opening ∷ inside) close (standing m behind) behind (seen_standing o k (drop (suc n) es) m q.1)
    ∙ ap (λ x. seen (opening ∷ x)) (sym parts)
seen_standing o (suc k) (entry.Close d s ∷ es) zero h =
    seen_standing o k es zero (both (o && not (is_visible d)) _ h).1 ∙ sym (unseen_close o k d s es h)
seen_standing o (suc k) (entry.Close d s ∷ es) (suc m) h =
    one_more (spanned (Closes d) s) (standing m (spanned_entries es)) (spanned_entries es)
    (seen_standing o k es m (both (o && not (is_visible d)) _ h).1)
seen_standing o (suc k) (entry.Ident i ∷ es) m h =
    one_more (spanned_entry (entry.Ident i)) (standing m (spanned_entries es)) (spanned_entries es)
    (seen_standing o k es m h)
seen_standing o (suc k) (entry.Punct p ∷ es) m h =
    one_more (spanned_entry (entry.Punct p)) (standing m (spanned_entries es)) (spanned_entries es)
    (seen_standing o k es m h)
seen_standing o (suc k) (entry.Literal l ∷ es) m h =
    one_more (spanned_entry (entry.Literal l)) (standing m (spanned_entries es)) (spanned_entries es)
    (seen_standing o k es m (both (not (starts_with_minus (literal_text l.now))) _ h).1)

pub seen_trees : (es : List Entry) → is_laid es ≡ true → seen (trees_of es) ≡ seen (spanned_entries es)
seen_trees es h = seen_standing true (length es) es zero h

-- one tree more of those that stand there, behind what has been passed
pub tree_more : (es : List Entry) (at n : ℕ) (t : TokenTree) (ts us : List Spanned) → FirstTree (drop at es) t n →
    trees_of es ≡ ts ++ trees_of (drop at es) → us ≡ ts ++ entered t → trees_of es ≡ us ++ trees_of (drop (at + n) es)
tree_more es at n t ts us f e a =
    let rest : List Spanned = trees_of (drop (at + n) es) in
    let behind : trees_of (drop n (drop at es)) ≡ rest = ap trees_of (drop-drop n at es) in
    let first : trees_of (drop at es) ≡ tree_tokens t ++ rest = f.stands ∙ ap (λ x. tree_tokens t ++ x) behind in
    let all : trees_of es ≡ ts ++ (tree_tokens t ++ rest) = e ∙ ap (λ x. ts ++ x) first in
    let put : us ≡ ts ++ tree_tokens t = a ∙ ap (λ x. ts ++ x) f.as_it_is in
    all ∙ sym (append_assoc ts (tree_tokens t) rest) ∙ ap (λ x. x ++ rest) (sym put)

pub laid_more : (es : List Entry) (at n : ℕ) (t : TokenTree) → FirstTree (drop at es) t n →
    is_laid (drop (at + n) es) ≡ true
laid_more es at n t f = ap is_laid (sym (drop-drop n at es)) ∙ f.lies

pub ruleset first_trees = (first_group, first_ident, first_punct, first_literal, past_mark, no_tree_past)
