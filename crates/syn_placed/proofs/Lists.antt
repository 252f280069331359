-- The elements of a list with the marks behind them, one by one.
use Rattle.std.specs.Prelude.{slice_get}
use Rattle.std.proofs.Common.{◌≡◌, ℕ, zero, suc, List, [], ◌∷◌, Option, Some, refl}
use Rattle.std.proofs.Common.{ap, length, take, drop, get_or}
use Rattle.proc_macro2.specs.Token.{Token}
use Rattle.syn_buffer.specs.declared.entry.Entry.{Entry}
use Rattle.syn_grammar.specs.Tree.{Tree, flat}
use Rattle.reader_tree.specs.declared.tree.Element.{Element}
use Rattle.syn_placed.specs.Parted.{listed}
use Rattle.syn_placed.specs.Stands.{tokens}

-- the first of entries of which there are some
pub got : (es left : List Entry) (e : Entry) (k : Token) (ks : List Token) → tokens es ≡ k ∷ ks → e ≡ get_or es 0 e
    → left ≡ drop 1 es → es ≡ e ∷ left
got [] left e k ks h i l = cc
got (d ∷ es) left e k ks h i l = let j : e ≡ d = i in let m : left ≡ es = l in cc

got_at : (n : ℕ) (all left : List Entry) (e : Entry) → drop n all ≡ e ∷ left → slice_get all n ≡ Some e
got_at zero [] left e h = cc
got_at zero (d ∷ all) left e h = let i : d ≡ e = cc in ap Some i
got_at (suc n) [] left e h = cc
got_at (suc n) (d ∷ all) left e h = got_at n all left e h

left_at : (n : ℕ) (all left : List Entry) (e : Entry) → drop n all ≡ e ∷ left → drop (suc n) all ≡ left
left_at zero [] left e h = cc
left_at zero (d ∷ all) left e h = let i : all ≡ left = cc in i
left_at (suc n) [] left e h = cc
left_at (suc n) (d ∷ all) left e h = left_at n all left e h

pub listed_more : (x : Element) (xs ys : List Element) (o : Option Tree) (all its left : List Entry) (tree : Tree)
    (e : Entry) → ys ≡ x ∷ xs → tree ≡ x.tree → its ≡ take (length (flat x.tree)) all
    → drop (length (flat x.tree)) all ≡ e ∷ left → listed ys o all ≡ (tree, its, Some e) ∷ listed xs o left
listed_more x xs ys o all its left tree e first is here h =
    let got = got_at (length (flat x.tree)) all left e h in
    let behind = left_at (length (flat x.tree)) all left e h in
    rw (first, is, here, got, behind) refl
