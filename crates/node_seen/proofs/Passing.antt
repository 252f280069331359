-- Places behind tokens.
use Rattle.std.proofs.Common.{◌≡◌, ◌∙◌, ℕ, zero, suc, ◌+◌, List, [], ◌∷◌, ◌++◌, length, take, drop, refl, sym, ap}
use Rattle.std.proofs.Common.{arith, append_assoc}
use Rattle.std.proofs.lemmas.List.{append_cancel_left, take-append-drop}
use Rattle.rust_map.specs.declared.span.Span.{Span}
use Rattle.proc_macro2.specs.declared.delimiter.Delimiter.{Delimiter}
use Rattle.proc_macro2.specs.Flat.{spanned}
use Rattle.proc_macro2.specs.Token.{Closes, Opens, Spanned}
use Rattle.syn_buffer.specs.Behind.{Passes, token_end, tokens_end}
use Rattle.syn_buffer.specs.Groups.{Enters}
use Rattle.syn_buffer.specs.Position.{Takes, rest}
use Rattle.syn_buffer.specs.declared.position.Cursor.{Cursor}
use Rattle.syn_buffer.proofs.Past.{past_both, past_same}

-- behind no tokens
pub passes_none : (c : Cursor) → Passes c [] c
passes_none c = record { reads = refl; past = past_same c; taken = refl }

ends_append : (none : Span) (xs ys : List Spanned) → tokens_end none (xs ++ ys) ≡ tokens_end (tokens_end none xs) ys
ends_append none [] ys = refl
ends_append none (x ∷ xs) ys = ends_append (token_end x.token x.span) xs ys

-- behind some, and others behind these
pub passes_both : (a b c : Cursor) (xs ys : List Spanned) → Passes a xs b → Passes b ys c → Passes a (xs ++ ys) c
passes_both a b c xs ys p q = record {
  reads = p.reads ∙ ap (λ ts. xs ++ ts) q.reads ∙ sym (append_assoc xs ys (rest c));
  past = past_both a b c p.past q.past;
  taken = q.taken ∙ ap (λ s. tokens_end s ys) p.taken ∙ sym (ends_append a.before xs ys);
}

-- behind one token that is no mark of a group
pub passes_one : (a b : Cursor) (t : Spanned) → token_end t.token t.span ≡ t.span → Takes a t b → Passes a (t ∷ []) b
passes_one a b t e h = record { reads = h.reads; past = h.past; taken = h.taken ∙ sym e }

-- behind a group
pub passes_group : (a inside b : Cursor) (d : Delimiter) (s : Span) → Enters a d s inside b
    → Passes a (spanned (Opens d) s ∷ rest inside ++ spanned (Closes d) s ∷ []) b
passes_group a inside b d s e = record {
  reads = e.group.reads
      ∙ ap (λ ts. spanned (Opens d) s ∷ ts) (sym (append_assoc (rest inside) (spanned (Closes d) s ∷ []) (rest b)));
  past = e.past;
  taken = e.passed ∙ sym (ends_append s (rest inside) (spanned (Closes d) s ∷ []));
}

-- the first of tokens, and then some of those behind
pub taken_both : (n k : ℕ) (ts us : List Spanned) → drop n ts ≡ us → take (n + k) ts ≡ take n ts ++ take k us
taken_both zero k ts us e =
    let same : 0 + k ≡ k = omega arith in
    ap (λ j. take j ts) same ∙ ap (λ xs. take k xs) e
taken_both (suc n) k [] us e = sym (none (suc n + k)) ∙ none k ∙ ap (λ xs. take k xs) e
  where
    none : (k : ℕ) → [] ≡ take {A = Spanned} k []
    none zero = refl
    none (suc k) = refl
taken_both (suc n) k (t ∷ ts) us e =
    let same : suc n + k ≡ suc (n + k) = omega arith in
    ap (λ j. take j (t ∷ ts)) same ∙ ap (λ xs. t ∷ xs) (taken_both n k ts us e)

-- what stands behind the first of tokens
pub dropped : (n : ℕ) (ts us : List Spanned) → ts ≡ take n ts ++ us → drop n ts ≡ us
dropped n ts us e =
    append_cancel_left (take n ts) (drop n ts) us (take-append-drop n ts ∙ e)

-- so many tokens stand first
pub taken_all : (xs ys : List Spanned) → take (length xs) (xs ++ ys) ≡ xs
taken_all [] ys = refl
taken_all (x ∷ xs) ys = ap (λ ts. x ∷ ts) (taken_all xs ys)
