-- Whether the last token closes braces, by the form of a tree.
use Rattle.std.specs.Prelude.{◌≡◌, ℕ, zero, suc, Bool, false, List, [], ◌∷◌, ◌++◌, Option, Some, None, map, refl}
use Rattle.std.proofs.Common.{ap, ◌∙◌, sym, length, arith, get_or, drop, ◌+◌, ◌<◌}
use Rattle.std.proofs.lemmas.List.{at_drop_more}
use Rattle.proc_macro2.specs.Token.{Token, Opens, Closes, Punct}
use Rattle.proc_macro2.specs.declared.delimiter.Delimiter.{Delimiter}
use Rattle.proc_macro2.specs.declared.delimiter.Delimiter.TheVariants.{Brace}
use Rattle.rust_leaf.specs.declared.punct.Spacing.{Spacing}
use Rattle.syn_buffer.specs.Entries.{entry_token}
use Rattle.syn_buffer.specs.declared.entry.Entry.{Entry}
use Rattle.syn_grammar.specs.Tree as t
use Rattle.syn_grammar.specs.Tree.{Tree, flat, marks}
use Rattle.syn_grammar.specs.Statements.{ends_in_braces}
use Rattle.reader_table.specs.Words.{sign_text}
use Rattle.reader_table.specs.declared.word.Sign.{Sign}
use Rattle.reader_table.specs.declared.word.Sign.TheVariants as signs
use Rattle.reader_tree.specs.declared.tree.Element.{Element}
use Rattle.reader_tree.specs.Forms.{mark_of, seconds, turns, elements}
use Rattle.reader_verdicts.specs.Closing.{closes_braces, ending, later}

pub later_assoc : (a b c : Option Bool) → later a (later b c) ≡ later (later a b) c
later_assoc a b None = refl
later_assoc a b (Some c) = refl

pub later_none : (a : Option Bool) → later None a ≡ a
later_none None = refl
later_none (Some a) = refl

pub ending_append : (xs ys : List Token) → ending (xs ++ ys) ≡ later (ending xs) (ending ys)
ending_append [] ys = sym (later_none (ending ys))
ending_append (x ∷ xs) ys =
    ap (later (Some (closes_braces x))) (ending_append xs ys)
    ∙ later_assoc (Some (closes_braces x)) (ending xs) (ending ys)

pub ending_group : (d : Delimiter) (xs : List Token)
    → ending (Opens d ∷ xs ++ Closes d ∷ []) ≡ Some (closes_braces (Closes d))
ending_group d xs = ap (later (Some false)) (ending_append xs (Closes d ∷ []))

ending_marks : (c : ℕ) (cs : List ℕ) (spacing : Spacing) → ending (marks c cs spacing) ≡ Some false
ending_marks c [] spacing = refl
ending_marks c (d ∷ ds) spacing = ap (later (Some false)) (ending_marks d ds spacing)

pub ending_sign : (s : Sign) (spacing : Spacing) → ending (flat (mark_of (sign_text s) spacing)) ≡ Some false
ending_sign signs.Not spacing = refl
ending_sign s spacing = refl

pub flat_seconds : (n : ℕ) (x : Tree) → flat (seconds n x) ≡ flat x
flat_seconds zero x = refl
flat_seconds (suc n) x = flat_seconds n x

-- behind the marks of elements stands what is behind them
pub ending_elements : (c : ℕ) (es : List Element) (y : Tree)
    → ending (flat (elements c es y)) ≡ later (ending (flat (elements c es t.End))) (ending (flat y))
ending_elements c [] y = sym (later_none (ending (flat y)))
ending_elements c (e ∷ es) y =
    ending_append (flat e.tree) (Punct c e.spacing ∷ flat (elements c es y))
    ∙ ap (λ o. later (ending (flat e.tree)) (later (Some false) o)) (ending_elements c es y)
    ∙ ap (later (ending (flat e.tree)))
    (later_assoc (Some false) (ending (flat (elements c es t.End))) (ending (flat y)))
    ∙ later_assoc (ending (flat e.tree)) (later (Some false) (ending (flat (elements c es t.End)))) (ending (flat y))
    ∙ ap (λ o. later o (ending (flat y)))
    (sym (ending_append (flat e.tree) (Punct c e.spacing ∷ flat (elements c es t.End))))

pub ruleset endings =
    (later_none, later_assoc, ending_append, ending_group, ending_sign, flat_seconds, ending_elements)

-- one turn more, behind what was found
pub ending_turn : (xs : List Tree) (i : ℕ) (x : Tree) (o : Option Bool) → i < length xs → x ≡ get_or xs i x
    → later (later o (ending (flat x))) (ending (flat (turns (drop (i + 1) xs))))
    ≡ later o (ending (flat (turns (drop i xs))))
ending_turn xs i x o h e =
    let f : List Tree → Option Bool = λ ys. ending (flat (turns ys)) in
    sym (ap (later o) (at_drop_more f xs i x h ∙ ap (λ y. f (y ∷ drop (i + 1) xs)) (sym e)
    ∙ ending_append (flat x) (flat (turns (drop (i + 1) xs))))
    ∙ later_assoc o (ending (flat x)) (f (drop (i + 1) xs)))

-- behind one element at least a mark is the last token
marks_more : (c : ℕ) (e : Element) (es : List Element) → ending (flat (elements c (e ∷ es) t.End)) ≡ Some false
marks_more c e [] = ending_append (flat e.tree) (Punct c e.spacing ∷ [])
marks_more c e (f ∷ es) =
    ending_append (flat e.tree) (Punct c e.spacing ∷ flat (elements c (f ∷ es) t.End))
    ∙ ap (λ o. later (ending (flat e.tree)) (later (Some false) o)) (marks_more c f es)

pub no_marks : (c : ℕ) (es : List Element) → length es ≡ 0 → None ≡ ending (flat (elements c es t.End))
no_marks c [] h = refl
no_marks c (e ∷ es) h = absurd (omega arith)

pub some_marks : (c : ℕ) (es : List Element) → (length es ≡ 0 → ⊥) → Some false ≡ ending (flat (elements c es t.End))
some_marks c [] h = absurd (h refl)
some_marks c (e ∷ es) h = sym (marks_more c e es)

ending_last : (es : List Entry) (e : Entry)
    → ending (map entry_token (es ++ e ∷ [])) ≡ Some (closes_braces (entry_token e))
ending_last [] e = refl
ending_last (d ∷ es) e = ap (later (Some (closes_braces (entry_token d)))) (ending_last es e)

pub entries_last : (ds es : List Entry) (e : Entry) → ds ≡ es ++ e ∷ []
    → Some (closes_braces (entry_token e)) ≡ ending (map entry_token ds)
entries_last ds es e h = sym (ap (λ xs. ending (map entry_token xs)) h ∙ ending_last es e)

pub no_entries : (es : List Entry) → length es ≡ 0 → None ≡ ending (map entry_token es)
no_entries [] h = refl
no_entries (e ∷ es) h = absurd (omega arith)

-- what an answer says, and of none that it does not
abbrev said : Option Bool → Bool
said None = false
said (Some b) = b

said_later : (a b : Bool) (o : Option Bool) → said (later (Some b) o) ≡ said (later (Some a) (later (Some b) o))
said_later a b None = refl
said_later a b (Some c) = refl

ends_one : (x : Token) → ends_in_braces (x ∷ []) ≡ closes_braces x
ends_one (Closes Brace) = refl
ends_one x = refl

ends_more : (x y : Token) (ys : List Token) → ends_in_braces (x ∷ y ∷ ys) ≡ ends_in_braces (y ∷ ys)
ends_more (Closes Brace) y ys = refl
ends_more x y ys = refl

ends_said : (xs : List Token) → ends_in_braces xs ≡ said (ending xs)
ends_said [] = refl
ends_said (x ∷ []) = ends_one x
ends_said (x ∷ y ∷ ys) =
    ends_more x y ys ∙ ends_said (y ∷ ys) ∙ said_later (closes_braces x) (closes_braces y) (ending ys)

pub ends_some : (xs : List Token) (b : Bool) → Some b ≡ ending xs → b ≡ ends_in_braces xs
ends_some xs b h = sym (ends_said xs ∙ ap said (sym h))

pub ends_none : (xs : List Token) → None ≡ ending xs → false ≡ ends_in_braces xs
ends_none xs h = sym (ends_said xs ∙ ap said (sym h))

pub ruleset ends = (ends_some, ends_none)
