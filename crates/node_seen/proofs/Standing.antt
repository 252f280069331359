-- Entries that are whole trees are tokens of trees.
use Rattle.std.proofs.Common.{◌≡◌, ◌∙◌, ℕ, zero, suc, List, [], ◌∷◌, ◌++◌, length, map, take, drop, refl, sym, ap}
use Rattle.std.specs.Prelude.{Bool, true, false, ◌&&◌, not}
use Rattle.std.proofs.lemmas.List.{map-append, take-append-drop}
use Rattle.rust_leaf.specs.Leaf.{literal_text, punct_char}
use Rattle.rust_leaf.specs.Mark.{is_mark}
use Rattle.rust_leaf.specs.Minus.{starts_with_minus}
use Rattle.proc_macro2.specs.Groups.{same_delimiter}
use Rattle.proc_macro2.specs.Token.{Token, Opens, Closes, Ident, Literal, Punct}
use Rattle.proc_macro2.specs.declared.delimiter.Delimiter.{Delimiter}
use Rattle.syn_buffer.specs.Entries.{closes_with, entry_token, is_whole, laid}
use Rattle.syn_buffer.specs.declared.entry.Entry.{Entry}
use Rattle.syn_buffer.specs.declared.entry.Entry.TheVariants as entry
use Rattle.syn_buffer.proofs.Laid.{both, both_true, closing, same_self}
use Rattle.node_shapes.specs.Streams.{are_trees, stand}

-- what stands behind tokens of trees is what decides
behind_trees : (xs : List Token) (es ds : List Delimiter) (ys : List Token) → stand es xs ≡ true
    → stand (es ++ ds) (xs ++ ys) ≡ stand ds ys
behind_trees [] [] ds ys h = refl
behind_trees [] (e ∷ es) ds ys h = cc
behind_trees (Opens d ∷ xs) es ds ys h = behind_trees xs (d ∷ es) ds ys h
behind_trees (Closes d ∷ xs) [] ds ys h = cc
behind_trees (Closes d ∷ xs) (e ∷ es) ds ys h =
    let p = both (same_delimiter e d) _ h in
    ap (λ b. b && stand (es ++ ds) (xs ++ ys)) p.0 ∙ behind_trees xs es ds ys p.1
behind_trees (Ident cs ∷ xs) es ds ys h = behind_trees xs es ds ys h
behind_trees (Literal cs ∷ xs) es ds ys h =
    let p = both (not (starts_with_minus cs)) _ h in
    ap (λ b. b && stand (es ++ ds) (xs ++ ys)) p.0 ∙ behind_trees xs es ds ys p.1
behind_trees (Punct c spacing ∷ xs) es ds ys h =
    let p = both (is_mark c) _ h in
    ap (λ b. b && stand (es ++ ds) (xs ++ ys)) p.0 ∙ behind_trees xs es ds ys p.1

-- each of them
laid_trees : (k : ℕ) (es : List Entry) → laid false k es ≡ true → are_trees (map entry_token es) ≡ true
laid_trees k [] h = refl
laid_trees zero (e ∷ es) h = cc
laid_trees (suc k) (entry.Open d s n ∷ es) h =
    let p = both (closes_with d s (drop n es)) _ h in
    let q = both (laid false k (take n es)) _ p.1 in
    let inside : List Token = map entry_token (take n es) in
    let behind : List Token = map entry_token (drop (suc n) es) in
    let parts : map entry_token es ≡ inside ++ Closes d ∷ behind =
    ap (map entry_token) (sym (take-append-drop n es) ∙ ap (λ x. take n es ++ x) (closing d s n es p.0))
    ∙ map-append entry_token (take n es) (entry.Close d s ∷ drop (suc n) es) in
    ap (stand (d ∷ [])) parts
    ∙ behind_trees inside [] (d ∷ []) (Closes d ∷ behind) (laid_trees k (take n es) q.0)
    ∙ both_true _ _ (same_self d) (laid_trees k (drop (suc n) es) q.1)
laid_trees (suc k) (entry.Close d s ∷ es) h = cc
laid_trees (suc k) (entry.Ident i ∷ es) h = laid_trees k es h
laid_trees (suc k) (entry.Punct p ∷ es) h = both_true _ _ p.now.is_one (laid_trees k es h)
laid_trees (suc k) (entry.Literal l ∷ es) h =
    let p = both (not (starts_with_minus (literal_text l.now))) _ h in
    both_true _ _ p.0 (laid_trees k es p.1)

pub whole_are_trees : (es : List Entry) → is_whole es ≡ true → are_trees (map entry_token es) ≡ true
whole_are_trees es h = laid_trees (length es) es h
