-- The tokens of a group that is read.
use Rattle.std.proofs.Common.{◌≡◌, ◌∙◌, List, [], ◌∷◌, ◌++◌, refl, sym, ap, append_assoc}
use Rattle.std.specs.Prelude.{Bool, true, false, cond}
use Rattle.std.proofs.lemmas.List.Elements.{filter-append}
use Rattle.rust_map.specs.declared.span.Span.{Span}
use Rattle.proc_macro2.specs.declared.delimiter.Delimiter.{Delimiter}
use Rattle.proc_macro2.specs.declared.tree.Group.{Group}
use Rattle.proc_macro2.specs.Flat.{group_tokens, spanned}
use Rattle.proc_macro2.specs.Token.{Opens, Closes, Spanned}
use Rattle.syn_buffer.specs.Entries.{spanned_entries}
use Rattle.syn_buffer.specs.Groups.{Enters}
use Rattle.syn_buffer.specs.Position.{rest}
use Rattle.syn_buffer.specs.Seen.{is_seen, is_visible, seen}
use Rattle.syn_buffer.specs.declared.position.Cursor.{Cursor}

-- each token that is left is seen
first_seen : (ts : List Spanned) (t : Spanned) (us : List Spanned) → seen ts ≡ t ∷ us → is_seen t.token ≡ true
first_seen [] t us e = cc
first_seen (x ∷ ts) t us e = by_first (λ h. first_seen ts t us h) (is_seen x.token) refl e
  where
    by_first : (seen ts ≡ t ∷ us → is_seen t.token ≡ true) → (b : Bool) → is_seen x.token ≡ b →
        cond b (x ∷ seen ts) (seen ts) ≡ t ∷ us → is_seen t.token ≡ true
    by_first more true p h =
        let head : x ≡ t = cc in
        ap (λ (u : Spanned). is_seen u.token) (sym head) ∙ p
    by_first more false p h = more h

opens_seen : (d : Delimiter) (s : Span) (ts : List Spanned) → is_visible d ≡ true →
    seen (spanned (Opens d) s ∷ ts) ≡ spanned (Opens d) s ∷ seen ts
opens_seen d s ts v = ap (λ b. cond b (spanned (Opens d) s ∷ seen ts) (seen ts)) v

closes_seen : (d : Delimiter) (s : Span) (ts : List Spanned) → is_visible d ≡ true →
    seen (spanned (Closes d) s ∷ ts) ≡ spanned (Closes d) s ∷ seen ts
closes_seen d s ts v = ap (λ b. cond b (spanned (Closes d) s ∷ seen ts) (seen ts)) v

pub group_read : (c inside behind : Cursor) (d : Delimiter) (s : Span) (g : Group) → Enters c d s inside behind →
    g.delimiter ≡ d → g.span ≡ s → seen g.stream ≡ rest inside → rest c ≡ seen (group_tokens g) ++ rest behind
group_read c inside behind d s g e is_d is_s is_stream =
    let v : is_visible d ≡ true =
    first_seen (spanned_entries c.entries.now) (spanned (Opens d) s)
    (rest inside ++ spanned (Closes d) s ∷ rest behind) e.group.reads in
    let close : List Spanned = spanned (Closes d) s ∷ [] in
    let tokens : group_tokens g ≡ spanned (Opens d) s ∷ g.stream ++ close = cc in
    let shown : seen (group_tokens g) ≡ spanned (Opens d) s ∷ rest inside ++ close =
    ap seen tokens
    ∙ opens_seen d s (g.stream ++ close) v
    ∙ ap (λ x. spanned (Opens d) s ∷ x) (filter-append (λ (x : Spanned). is_seen x.token) g.stream close
    ∙ ap (λ x. x ++ seen close) is_stream
    ∙ ap (λ x. rest inside ++ x) (closes_seen d s [] v)) in
    e.group.reads
    ∙ ap (λ x. spanned (Opens d) s ∷ x) (sym (append_assoc (rest inside) close (rest behind)))
    ∙ ap (λ x. x ++ rest behind) (sym shown)
