-- Where the last tree of a stream stands.
use Rattle.std.proofs.Common.{◌≡◌, ◌-◌, ◌<◌, suc, List, [], ◌∷◌, ◌++◌, length, get_or, arith, refl, sym, ap, ◌∙◌}
use Rattle.std.proofs.Common.{append_assoc}
use Rattle.rust_map.specs.declared.span.Span.{Span}
use Rattle.proc_macro2.specs.Token.{Spanned, Closes}
use Rattle.proc_macro2.specs.Flat.{spanned, tree_tokens, trees_tokens}
use Rattle.proc_macro2.specs.Trees.{tree_span}
use Rattle.proc_macro2.specs.declared.tree.TokenTree.{TokenTree}
use Rattle.proc_macro2.specs.declared.tree.TokenTree.TheVariants as tree
use Rattle.syn_error.specs.Notes.{last_place, last_place_from}

behind_all : (span : Span) (ts : List Spanned) (t : Spanned) (us : List Spanned) → last_place_from span (ts ++ t ∷ us)
    ≡ last_place_from t.span us
behind_all span [] t us = refl
behind_all span (s ∷ ts) t us = behind_all s.span ts t us

behind_tree : (span : Span) (t : TokenTree) (us : List Spanned) → last_place_from span (tree_tokens t ++ us)
    ≡ last_place_from (tree_span t) us
behind_tree span (tree.Group g) us =
    ap (λ vs. last_place_from g.span vs) (append_assoc g.stream (spanned (Closes g.delimiter) g.span ∷ []) us)
    ∙ behind_all g.span g.stream (spanned (Closes g.delimiter) g.span) us
behind_tree span (tree.Ident i) us = refl
behind_tree span (tree.Punct p) us = refl
behind_tree span (tree.Literal l) us = refl

last_from : (span : Span) (ts : List TokenTree) (t : TokenTree) → 0 < length ts → t ≡ get_or ts (length ts - 1) t
    → tree_span t ≡ last_place_from span (trees_tokens ts)
last_from span [] t below is = absurd (omega arith)
last_from span (u ∷ []) t below is = ap tree_span is ∙ sym (behind_tree span u [])
last_from span (u ∷ v ∷ ts) t below is =
    let count : length (u ∷ v ∷ ts) - 1 ≡ suc (length ts) = omega arith in
    let less : length (v ∷ ts) - 1 ≡ length ts = omega arith in
    let some : 0 < length (v ∷ ts) = omega arith in
    let same : t ≡ get_or (v ∷ ts) (length (v ∷ ts) - 1) t =
    is ∙ ap (λ n. get_or (u ∷ v ∷ ts) n t) count ∙ ap (λ n. get_or (v ∷ ts) n t) (sym less) in
    last_from (tree_span u) (v ∷ ts) t some same ∙ sym (behind_tree span u (trees_tokens (v ∷ ts)))

-- of trees, of which there are some, the last one stands where their last token does
pub last_tree : (ts : List TokenTree) (t : TokenTree) (tokens : List Spanned) → trees_tokens ts ≡ tokens → 0 < length ts
    → t ≡ get_or ts (length ts - 1) t → tree_span t ≡ last_place tokens
last_tree ts t tokens e below is = last_from _ ts t below is ∙ ap last_place e
