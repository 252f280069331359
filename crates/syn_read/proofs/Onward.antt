-- Readers that go on in the same list.
use Rattle.std.proofs.Common.{◌≡◌, ◌∙◌, ◌-◌, ℕ, List, [], ◌∷◌, ◌++◌, length, drop, ap, subst, sym}
use Rattle.std.proofs.lemmas.List.{map-append}
use Rattle.std.specs.Prelude.{true}
use Rattle.reader_steps.specs.Answers.{tokens}
use Rattle.proc_macro2.specs.Token.{Spanned, Token}
use Rattle.rust_leaf.specs.declared.punct.Spacing.{Spacing}
use Rattle.syn_buffer.specs.Entries.{is_whole, spanned_entries, spanned_entry}
use Rattle.syn_buffer.specs.declared.entry.Entry.{Entry}
use Rattle.syn_grammar.specs.Derives.{Derives}
use Rattle.syn_grammar.specs.Gram.{ref}
use Rattle.syn_grammar.specs.Kind.{Kind}
use Rattle.syn_grammar.specs.Read.{IsDerived}
use Rattle.syn_grammar.specs.Tree.{Tree, flat, marks}
use Rattle.reader_rust.proofs.Behind.{Left, left}
use Rattle.syn_read.specs.Reading.{StandsSign}

-- behind some entries what is left are the last of the tokens, each where it stood
pub passes : (es passed others : List Entry) → es ≡ passed ++ others
    → (ts : List Spanned) × (spanned_entries es ≡ ts ++ spanned_entries others)
passes es passed others e = (spanned_entries passed, ap spanned_entries e ∙ map-append spanned_entry passed others)

-- what is left behind a form that was read of the entries: so many of them were, and the others are whole
pub form_left : (k : Kind) (tree : Tree) (es others : List Entry) → IsDerived k (tokens es) tree (tokens others)
    → is_whole es ≡ true → is_whole others ≡ true → Left es others
form_left k tree es others d w v = left (flat tree) es others d.1 w v

-- and the form was read before those
pub form_read : (k : Kind) (tree : Tree) (es others behind : List Entry) → IsDerived k (tokens es) tree (tokens others)
    → Left es others → behind ≡ drop (length es - length others) es → IsDerived k (tokens es) tree (tokens behind)
form_read k tree es others behind d l e =
    let same : tokens behind ≡ tokens others = ap tokens e ∙ l.same in (
      subst (λ (ts : List Token). Derives tree (ref k) ts) (sym same) d.0,
      ap (λ (ts : List Token). flat tree ++ ts) same ∙ d.1,
    )

-- the same of a punctuation
pub sign_left : (text : List ℕ) (spacing : Spacing) (es others : List Entry)
    → StandsSign text spacing (tokens es) (tokens others) → is_whole es ≡ true → is_whole others ≡ true
    → Left es others
sign_left [] spacing es others h w v = absurd h
sign_left (c ∷ cs) spacing es others h w v = left (marks c cs spacing) es others (sym h) w v

pub sign_stands : (text : List ℕ) (spacing : Spacing) (es others behind : List Entry)
    → StandsSign text spacing (tokens es) (tokens others) → Left es others
    → behind ≡ drop (length es - length others) es → StandsSign text spacing (tokens es) (tokens behind)
sign_stands text spacing es others behind h l e =
    subst (λ (ts : List Token). StandsSign text spacing (tokens es) ts) (sym (ap tokens e ∙ l.same)) h
