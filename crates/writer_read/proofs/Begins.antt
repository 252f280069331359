-- Whether the first token opens parentheses, by the form of a tree.
use Rattle.std.specs.Prelude.{◌≡◌, ℕ, Bool, true, false, cond, List, [], ◌∷◌, ◌++◌, Option, Some, None, map}
use Rattle.std.specs.Prelude.{◌<◌, length, refl}
use Rattle.std.proofs.Common.{ap, ◌∙◌, sym, arith, get_or, drop, ◌+◌}
use Rattle.std.proofs.lemmas.List.{at_drop_more}
use denote.Param.Weighed.{most}
use Rattle.proc_macro2.specs.Token.{Token, Opens, Punct}
use Rattle.proc_macro2.specs.Groups.{same_delimiter}
use Rattle.proc_macro2.specs.declared.delimiter.Delimiter.{Delimiter}
use Rattle.proc_macro2.specs.declared.delimiter.Delimiter.TheVariants.{Parenthesis}
use Rattle.rust_leaf.specs.declared.punct.Spacing.{Spacing}
use Rattle.syn_buffer.specs.Entries.{entry_token}
use Rattle.syn_buffer.specs.declared.entry.Entry.{Entry}
use Rattle.syn_grammar.specs.Look.{seen, sees}
use Rattle.syn_grammar.specs.Say.{parenthesis}
use Rattle.syn_grammar.specs.Tree.{Tree, flat, marks}
use Rattle.reader_table.specs.Words.{sign_text}
use Rattle.reader_table.specs.declared.word.Sign.{Sign}
use Rattle.reader_table.specs.declared.word.Sign.TheVariants as signs
use Rattle.reader_tree.specs.declared.tree.Element.{Element}
use Rattle.reader_tree.specs.declared.tree.Tree.TheDeep.{size-Tree, size-Element}
use Rattle.reader_tree.specs.Forms.{mark_of, turns, elements}
use Rattle.reader_tree.proofs.Sizes.{element_size, elements_below, tree_size}
use Rattle.writer_rules.specs.Turns.{begun, earlier}
use Rattle.reader_tree.proofs.Flat.{flat_seconds}

pub begun_append : (xs ys : List Token) → begun (xs ++ ys) ≡ earlier (begun xs) (begun ys)
begun_append [] ys = refl
begun_append (x ∷ xs) ys = refl

begun_marks : (c : ℕ) (cs : List ℕ) (spacing : Spacing) → begun (marks c cs spacing) ≡ Some false
begun_marks c [] spacing = refl
begun_marks c (d ∷ ds) spacing = refl

pub begun_sign : (s : Sign) (spacing : Spacing) → begun (flat (mark_of (sign_text s) spacing)) ≡ Some false
begun_sign signs.Not spacing = refl
begun_sign s spacing = refl

-- of elements the first one, or the mark behind it
pub begun_elements : (c : ℕ) (es ds : List Element) (e : Element) (y : Tree) → es ≡ e ∷ ds
    → begun (flat (elements c es y)) ≡ earlier (begun (flat e.tree)) (Some false)
begun_elements c es ds e y h =
    ap (λ xs. begun (flat (elements c xs y))) h
    ∙ begun_append (flat e.tree) (Punct c e.spacing ∷ flat (elements c ds y))

pub begun_none : (c : ℕ) (es : List Element) (y : Tree) → length es ≡ 0
    → begun (flat (elements c es y)) ≡ begun (flat y)
begun_none c [] y h = refl
begun_none c (e ∷ es) y h = absurd (omega (arith, h))

pub ruleset begins = (begun_append, begun_sign, flat_seconds, begun_elements, begun_none)

-- the first of tokens that were read
pub entries_first : (ds es : List Entry) (e : Entry) → ds ≡ e ∷ es
    → Some (sees parenthesis (entry_token e ∷ [])) ≡ begun (map entry_token ds)
entries_first ds es e h = sym (ap (λ xs. begun (map entry_token xs)) h)

pub no_entries : (es : List Entry) → length es ≡ 0 → None ≡ begun (map entry_token es)
no_entries [] h = refl
no_entries (e ∷ es) h = absurd (omega (arith, h))

pub ruleset entries = (entries_first, no_entries)

-- an element is smaller
pub element_below : (c : ℕ) (es ds : List Element) (e : Element) (y x : Tree) → es ≡ e ∷ ds → x ≡ elements c es y
    → size-Tree e.tree < size-Tree x
element_below c es ds e y x h i =
    let most_same = ap (λ (xs : List Element). most (λ d. size-Element d) xs) h in
    omega (arith, most_same, elements_below c es y x i, element_size e, tree_size e.tree)

-- whether a parenthesis is seen
sees_one : (d : Delimiter) (ts : List Token)
    → sees parenthesis (Opens d ∷ ts) ≡ sees parenthesis (Opens d ∷ [])
sees_one d ts = by (same_delimiter d Parenthesis)
  where
    by : (b : Bool) → seen (cond b (Some ts) None) ≡ seen (cond b (Some []) None)
    by true = refl
    by false = refl

sees_first : (x : Token) (ts : List Token) → sees parenthesis (x ∷ ts) ≡ sees parenthesis (x ∷ [])
sees_first (Opens d) ts = sees_one d ts
sees_first x ts = refl

abbrev answered : Option Bool → Bool
answered None = false
answered (Some b) = b

earlier_answered : (o : Option Bool) → earlier o (Some false) ≡ Some (answered o)
earlier_answered None = refl
earlier_answered (Some b) = refl

sees_answered : (ts : List Token) → sees parenthesis ts ≡ answered (begun ts)
sees_answered [] = refl
sees_answered (x ∷ ts) = sees_first x ts

pub sees_begun : (b : Bool) (o : Option Bool) (ts : List Token) → o ≡ begun ts → Some b ≡ earlier o (Some false)
    → b ≡ sees parenthesis ts
sees_begun b o ts e h =
    let same : b ≡ answered o = ap answered (h ∙ earlier_answered o) in
    same ∙ ap answered e ∙ sym (sees_answered ts)

pub ruleset sights = (sees_begun)

-- turns: the first one, or those behind it
pub turn_first : (xs : List Tree) (i : ℕ) (x : Tree) → i < length xs → x ≡ get_or xs i x
    → begun (flat (turns (drop i xs))) ≡ earlier (begun (flat x)) (begun (flat (turns (drop (i + 1) xs))))
turn_first xs i x h e =
    let f : List Tree → Option Bool = λ ys. begun (flat (turns ys)) in
    at_drop_more f xs i x h ∙ ap (λ y. f (y ∷ drop (i + 1) xs)) (sym e)
    ∙ begun_append (flat x) (flat (turns (drop (i + 1) xs)))
