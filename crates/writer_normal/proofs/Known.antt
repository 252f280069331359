-- What is true of every tree.
use Rattle.std.specs.Prelude.{◌≡◌, ℕ, zero, suc, Bool, true, false, not, ◌&&◌, ◌||◌, List, [], ◌∷◌, ◌++◌, map}
use Rattle.std.specs.Prelude.{Option, Some, None, refl, ◌+◌, ◌<◌, length, get_or, drop}
use Rattle.std.proofs.Common.{ap, arith, ◌∙◌, sym, drop-cons}
use Rattle.std.proofs.lemmas.Bool.{eq-eqb}
use Rattle.proc_macro2.specs.Token.{Token, Punct}
use Rattle.rust_leaf.specs.Mark.{is_mark}
use Rattle.rust_leaf.specs.declared.punct.Spacing.{Spacing}
use Rattle.syn_buffer.specs.Entries.{entry_token}
use Rattle.syn_buffer.specs.declared.entry.Entry.{Entry}
use Rattle.syn_buffer.specs.declared.entry.Entry.TheVariants as entries
use Rattle.syn_grammar.specs.Tree.{Tree, flat}
use Rattle.writer_print.specs.Pieces.{piece_token}
use Rattle.writer_print.specs.declared.piece.Piece.{Piece}
use Rattle.reader_table.specs.Ops.{separator_of}
use Rattle.reader_table.specs.Words.{sign_text}
use Rattle.reader_table.specs.declared.op.Separator.{Separator}
use Rattle.reader_table.specs.declared.op.Separator.TheVariants as separators
use Rattle.reader_table.specs.declared.word.Sign.{Sign}
use Rattle.reader_table.specs.declared.word.Sign.TheVariants as signs
use Rattle.reader_tree.specs.declared.tree.Element.{Element}
use Rattle.reader_tree.specs.Forms.{elements, ending, mark_of, seconds, turns}
use Rattle.writer_normal.specs.Marks.{are_known, is_known}
use Rattle.writer_normal.specs.Separators.{has_other, is_mixed}
use Rattle.writer_normal.proofs.Mixing.{mixed_seconds}

-- tokens behind others
and_assoc : (a b c : Bool) → (a && (b && c)) ≡ ((a && b) && c)
and_assoc true b c = refl
and_assoc false b c = refl

pub known_append : (ts us : List Token) → are_known (ts ++ us) ≡ (are_known ts && are_known us)
known_append [] us = refl
known_append (u ∷ ts) us = ap (λ b. is_known u && b) (known_append ts us)
    ∙ and_assoc (is_known u) (are_known ts) (are_known us)

-- the marks of the table, and those of entries
pub sign_known : (s : Sign) (spacing : Spacing) → are_known (flat (mark_of (sign_text s) spacing)) ≡ true
unfolding is_mark
sign_known signs.Not spacing = refl
sign_known _ spacing = refl

entry_known : (e : Entry) → is_known (entry_token e) ≡ true
entry_known (entries.Open d span n) = refl
entry_known (entries.Close d span) = refl
entry_known (entries.Ident i) = refl
entry_known (entries.Punct p) = p.now.is_one
entry_known (entries.Literal l) = refl

pub entries_known : (es : List Entry) → are_known (map entry_token es) ≡ true
entries_known [] = refl
entries_known (e ∷ es) = ap (λ b. b && are_known (map entry_token es)) (entry_known e) ∙ entries_known es

-- elements, and turns
one_separator : (c d : ℕ) (es : List Element) (y : Tree) → c ≡ d → has_other d y ≡ false → has_other d (elements c es y)
    ≡ false
one_separator c d [] y e h = h
one_separator c d (x ∷ es) y e h =
    ap (λ b. not b || has_other d (elements c es y)) (eq-eqb c d e) ∙ one_separator c d es y e h

end_other : {A : Type 0} (d : ℕ) (f : A → Tree) (o : Option A) → has_other d (ending f o) ≡ false
end_other d f None = refl
end_other d f (Some x) = refl

neither : (a b c d : Bool) → (a || b) ≡ false → c ≡ false → (b ≡ false → d ≡ false) → (c || (a || d)) ≡ false
neither true b c d e f g = cc
neither false b true d e f g = cc
neither false b false d e f g = g e

elements_unmixed : (c : ℕ) (es : List Element) (y : Tree) → has_other c y ≡ false
    → is_mixed (turns (map (λ e. e.tree) es)) ≡ false → is_mixed y ≡ false → is_mixed (elements c es y) ≡ false
elements_unmixed c [] y h e f = f
elements_unmixed c (x ∷ es) y h e f =
    neither (is_mixed x.tree) (is_mixed (turns (map (λ e. e.tree) es))) (has_other c (elements c es y))
    (is_mixed (elements c es y)) e (one_separator c c es y refl h) (λ g. elements_unmixed c es y h g f)

both : (a b c : Bool) → (a && b) ≡ true → (b ≡ true → c ≡ true) → (a && c) ≡ true
both true b c e f = f e
both false b c e f = e

separator_known : (s : Separator) → is_mark (separator_of s) ≡ true
unfolding is_mark
separator_known separators.Comma = refl
separator_known separators.Plus = refl

elements_known : (c : ℕ) (es : List Element) (y : Tree) → is_mark c ≡ true
    → are_known (flat (turns (map (λ e. e.tree) es))) ≡ true → are_known (flat y) ≡ true
    → are_known (flat (elements c es y)) ≡ true
elements_known c [] y h e f = f
elements_known c (x ∷ es) y h e f =
    let rest : List Token = flat (turns (map (λ e. e.tree) es)) in
    known_append (flat x.tree) (Punct c x.spacing ∷ flat (elements c es y))
    ∙ ap (λ b. are_known (flat x.tree) && (b && are_known (flat (elements c es y)))) h
    ∙ both (are_known (flat x.tree)) (are_known rest) (are_known (flat (elements c es y)))
    (sym (known_append (flat x.tree) rest) ∙ e) (λ g. elements_known c es y h g f)

pub list_unmixed : {A : Type 0} (s : Separator) (es : List Element) (f : A → Tree) (o : Option A)
    → is_mixed (turns (map (λ e. e.tree) es)) ≡ false → is_mixed (ending f o) ≡ false
    → is_mixed (elements (separator_of s) es (ending f o)) ≡ false
list_unmixed s es f o h e =
    elements_unmixed (separator_of s) es (ending f o) (end_other (separator_of s) f o) h e

pub list_known : {A : Type 0} (s : Separator) (es : List Element) (f : A → Tree) (o : Option A)
    → are_known (flat (turns (map (λ e. e.tree) es))) ≡ true → are_known (flat (ending f o)) ≡ true
    → are_known (flat (elements (separator_of s) es (ending f o))) ≡ true
list_known s es f o h e = elements_known (separator_of s) es (ending f o) (separator_known s) h e

-- what is left behind the first of some
left : {X : Type 0} (xs : List X) (i : ℕ) (x : X) → i < length xs → x ≡ get_or xs i x → drop i xs ≡ x ∷ drop (i + 1) xs
left xs i x h is =
    let next : suc i ≡ i + 1 = omega arith in
    drop-cons xs i x h ∙ ap (λ y. y ∷ drop (suc i) xs) (sym is) ∙ ap (λ j. x ∷ drop j xs) next

unmixed_behind : (x : Tree) (xs ys zs : List Tree) → ys ≡ x ∷ xs → is_mixed x ≡ false
    → is_mixed (turns ys) ≡ is_mixed (turns zs) → is_mixed (turns xs) ≡ is_mixed (turns zs)
unmixed_behind x xs ys zs is e f =
    sym (ap (λ vs. is_mixed (turns vs)) is ∙ ap (λ b. b || is_mixed (turns xs)) e) ∙ f

known_behind : (x : Tree) (xs ys zs : List Tree) → ys ≡ x ∷ xs → are_known (flat x) ≡ true
    → are_known (flat (turns ys)) ≡ are_known (flat (turns zs))
    → are_known (flat (turns xs)) ≡ are_known (flat (turns zs))
known_behind x xs ys zs is e f =
    sym (ap (λ vs. are_known (flat (turns vs))) is ∙ known_append (flat x) (flat (turns xs))
    ∙ ap (λ b. b && are_known (flat (turns xs))) e) ∙ f

pub turn_unmixed : (xs zs : List Tree) (i : ℕ) (x : Tree) → i < length xs → x ≡ get_or xs i x → is_mixed x ≡ false
    → is_mixed (turns (drop i xs)) ≡ is_mixed (turns zs) → is_mixed (turns (drop (i + 1) xs)) ≡ is_mixed (turns zs)
turn_unmixed xs zs i x h is e f = unmixed_behind x (drop (i + 1) xs) (drop i xs) zs (left xs i x h is) e f

pub turn_known : (xs zs : List Tree) (i : ℕ) (x : Tree) → i < length xs → x ≡ get_or xs i x
    → are_known (flat x) ≡ true → are_known (flat (turns (drop i xs))) ≡ are_known (flat (turns zs))
    → are_known (flat (turns (drop (i + 1) xs))) ≡ are_known (flat (turns zs))
turn_known xs zs i x h is e f = known_behind x (drop (i + 1) xs) (drop i xs) zs (left xs i x h is) e f

abbrev pub trees : List Element → List Tree
trees es = map (λ e. e.tree) es

pub element_unmixed : (es : List Element) (zs : List Tree) (i : ℕ) (e : Element) → i < length es → e ≡ get_or es i e
    → is_mixed e.tree ≡ false → is_mixed (turns (trees (drop i es))) ≡ is_mixed (turns zs)
    → is_mixed (turns (trees (drop (i + 1) es))) ≡ is_mixed (turns zs)
element_unmixed es zs i e h is f g =
    unmixed_behind e.tree (trees (drop (i + 1) es)) (trees (drop i es)) zs (ap trees (left es i e h is)) f g

pub element_known : (es : List Element) (zs : List Tree) (i : ℕ) (e : Element) → i < length es → e ≡ get_or es i e
    → are_known (flat e.tree) ≡ true → are_known (flat (turns (trees (drop i es)))) ≡ are_known (flat (turns zs))
    → are_known (flat (turns (trees (drop (i + 1) es)))) ≡ are_known (flat (turns zs))
element_known es zs i e h is f g =
    known_behind e.tree (trees (drop (i + 1) es)) (trees (drop i es)) zs (ap trees (left es i e h is)) f g

-- what is left of tokens behind the first
and_front : (a b : Bool) → (a && b) ≡ true → a ≡ true
and_front true b e = refl
and_front false b e = e

and_back : (a b : Bool) → (a && b) ≡ true → b ≡ true
and_back true b e = e
and_back false b e = cc

known_left : (ps : List Piece) (i : ℕ) (x : Piece) → i < length ps → x ≡ get_or ps i x
    → are_known (map piece_token (drop i ps)) ≡ true
    → (is_known (piece_token x) && are_known (map piece_token (drop (i + 1) ps))) ≡ true
known_left ps i x h is e = sym (ap (λ qs. are_known (map piece_token qs)) (left ps i x h is)) ∙ e

pub piece_known : (ps : List Piece) (i : ℕ) (x : Piece) → i < length ps → x ≡ get_or ps i x
    → are_known (map piece_token (drop i ps)) ≡ true → is_known (piece_token x) ≡ true
piece_known ps i x h is e = and_front _ _ (known_left ps i x h is e)

pub others_known : (ps : List Piece) (i : ℕ) (x : Piece) → i < length ps → x ≡ get_or ps i x
    → are_known (map piece_token (drop i ps)) ≡ true → are_known (map piece_token (drop (i + 1) ps)) ≡ true
others_known ps i x h is e = and_back (is_known (piece_token x)) _ (known_left ps i x h is e)

pub ruleset pieces = (piece_known, others_known)

-- a lifetime's tick, and what stands behind seconds
pub tick_known : is_mark 39 ≡ true
unfolding is_mark
tick_known = refl

pub seconds_unmixed : (n : ℕ) (x : Tree) → is_mixed (seconds n x) ≡ is_mixed x
seconds_unmixed n x = mixed_seconds n x

pub seconds_flat : (n : ℕ) (x : Tree) → flat (seconds n x) ≡ flat x
seconds_flat zero x = refl
seconds_flat (suc n) x = seconds_flat n x

pub ruleset lefts = (turn_unmixed, turn_known, element_unmixed, element_known)

pub ruleset lists = (list_unmixed, list_known)

pub ruleset forms = (sign_known, entries_known, known_append, tick_known, seconds_unmixed, seconds_flat)
