-- What seeks a mark that stands in no group.
use denote.Ref.{Bor}
use Rattle.std.proofs.Common.{◌≡◌, ℕ, suc, ◌+◌, ◌-◌, ◌≤◌, List, [], ◌∷◌, length, take, drop, sym, ap, ◌∙◌, arith}
use Rattle.std.proofs.Common.{length-drop}
use Rattle.std.proofs.lemmas.List.{drop-drop}
use Rattle.std.specs.Prelude.{true, ◌==◌, cond, Option, Some, None}
use Rattle.std.proofs.lemmas.Bool.{eq-eqb, ne_eqb}
use Rattle.rust_map.specs.declared.span.Span.{Span}
use Rattle.rust_leaf.specs.Leaf.{punct_char}
use Rattle.rust_leaf.specs.declared.ident.Ident.{Ident}
use Rattle.rust_leaf.specs.declared.literal.Literal.{Literal}
use Rattle.rust_leaf.specs.declared.punct.Punct.{Punct}
use Rattle.proc_macro2.specs.declared.delimiter.Delimiter.{Delimiter}
use Rattle.rust_leaf.specs.declared.punct.Spacing.{Spacing}
use Rattle.proc_macro2.specs.Token as token
use Rattle.proc_macro2.specs.Token.{Token}
use Rattle.syn_grammar.specs.Look.{past_first, past_marks}
use Rattle.syn_buffer.specs.declared.entry.Entry.{Entry}
use Rattle.syn_buffer.specs.declared.entry.Entry.TheVariants as entry
use Rattle.reader_tokens.specs.Marks.{no_mark}
use Rattle.reader_tokens.specs.Nested.{is_nested}
use Rattle.reader_tokens.specs.Tokens.{tokens}
use Rattle.reader_tokens.proofs.Groups.{opened_nested}
use Rattle.reader_tokens.proofs.Marks.{none_marked}
use Rattle.reader_tokens.proofs.Nested.{nested_drop, taken_all}

behind : (d : Delimiter) (s : Span) (n : ℕ) (es : List Entry)
    → drop (n + 2) (entry.Open d s n ∷ es) ≡ drop (suc n) es
behind d s n es = ap (λ k. drop k (entry.Open d s n ∷ es)) (two_more n)
  where
    two_more : (n : ℕ) → n + 2 ≡ suc (suc n)
    two_more n = omega arith

-- at a group
pub seeks_group : (c : ℕ) (d : Delimiter) (s : Span) (n : ℕ) (at es : List Entry) → at ≡ entry.Open d s n ∷ es
    → is_nested at ≡ true → past_first c 0 (tokens at) ≡ past_first c 0 (tokens (drop (n + 2) at))
seeks_group c d s n at es e h =
    ap (λ x. past_first c 0 (tokens x)) e ∙ (opened_nested d s n at es e h).seeks c
    ∙ ap (λ x. past_first c 0 (tokens x)) (sym (ap (drop (n + 2)) e ∙ behind d s n es))

-- at a word, a literal and a mark
pub seeks_ident : (c : ℕ) (i : Bor Ident) (at es : List Entry) → at ≡ entry.Ident i ∷ es
    → past_first c 0 (tokens at) ≡ past_first c 0 (tokens (drop 1 at))
seeks_ident c i at es e =
    ap (λ x. past_first c 0 (tokens x)) e ∙ ap (λ x. past_first c 0 (tokens (drop 1 x))) (sym e)

pub seeks_literal : (c : ℕ) (i : Bor Literal) (at es : List Entry) → at ≡ entry.Literal i ∷ es
    → past_first c 0 (tokens at) ≡ past_first c 0 (tokens (drop 1 at))
seeks_literal c i at es e =
    ap (λ x. past_first c 0 (tokens x)) e ∙ ap (λ x. past_first c 0 (tokens (drop 1 x))) (sym e)

pub seeks_other : (c : ℕ) (p : Bor Punct) (at es : List Entry) → at ≡ entry.Punct p ∷ es → (punct_char p.now ≡ c → ⊥)
    → past_first c 0 (tokens at) ≡ past_first c 0 (tokens (drop 1 at))
seeks_other c p at es e h =
    ap (λ x. past_first c 0 (tokens x)) e
    ∙ ap (λ v. cond v (Some (tokens es)) (past_first c 0 (tokens es))) (ne_eqb (punct_char p.now) c h)
    ∙ ap (λ x. past_first c 0 (tokens (drop 1 x))) (sym e)

-- in what is left behind so many entries
tail : (n : ℕ) (es : List Entry) → take (length es - n) (drop n es) ≡ drop n es
tail n es = taken_all (length es - n) (drop n es) (omega (arith, length-drop n es))

pub tail_nested : (n : ℕ) (es : List Entry) → is_nested es ≡ true
    → is_nested (take (length es - n) (drop n es)) ≡ true
tail_nested n es h = ap is_nested (tail n es) ∙ nested_drop n es h

pub goes_on : (c n m : ℕ) (at : List Entry) → past_first c 0 (tokens at) ≡ past_first c 0 (tokens (drop n at))
    → past_first c 0 (tokens (take (length at - n) (drop n at)))
    ≡ past_first c 0 (tokens (drop m (take (length at - n) (drop n at))))
    → past_first c 0 (tokens at) ≡ past_first c 0 (tokens (drop (n + m) at))
goes_on c n m at h g =
    h ∙ ap (λ x. past_first c 0 (tokens x)) (sym (tail n at)) ∙ g
    ∙ ap (λ x. past_first c 0 (tokens (drop m x))) (tail n at)
    ∙ ap (λ x. past_first c 0 (tokens x)) (drop-drop m n at)

pub further : (n m : ℕ) (at : List Entry) → n ≤ length at → m ≤ length (take (length at - n) (drop n at))
    → n + m ≤ length at
further n m at h g = omega (arith, h, g, ap length (tail n at), length-drop n at)

pub ends_at : (c n : ℕ) (at : List Entry) (w : Option (List Token))
    → past_first c 0 (tokens at) ≡ past_first c 0 (tokens (drop n at))
    → past_first c 0 (tokens (take (length at - n) (drop n at)))
    ≡ past_marks c [] (tokens (take (length at - n) (drop n at)))
    → w ≡ past_marks c [] (tokens (take (length at - n) (drop n at))) → w ≡ past_first c 0 (tokens at)
ends_at c n at w h g f =
    f ∙ sym (h ∙ ap (λ x. past_first c 0 (tokens x)) (sym (tail n at)) ∙ g)

-- where the search ends
pub ends_here : (c : ℕ) (p : Bor Punct) (at es : List Entry) → at ≡ entry.Punct p ∷ es → punct_char p.now ≡ c
    → past_first c 0 (tokens at) ≡ past_marks c [] (tokens at)
ends_here c p at es e h =
    ap (λ x. past_first c 0 (tokens x)) e
    ∙ ap (λ v. cond v (Some (tokens es)) (past_first c 0 (tokens es))) (eq-eqb (punct_char p.now) c h)
    ∙ sym (ap (λ x. past_marks c [] (tokens x)) e
    ∙ ap (λ v. cond v (Some (tokens es)) None) (eq-eqb (punct_char p.now) c h))

pub ends_there : (c : ℕ) (d : Delimiter) (s : Span) (at es : List Entry) → at ≡ entry.Close d s ∷ es
    → past_first c 0 (tokens at) ≡ past_marks c [] (tokens at)
ends_there c d s at es e =
    ap (λ x. past_first c 0 (tokens x)) e ∙ sym (ap (λ x. past_marks c [] (tokens x)) e)

-- whether such a mark stands first
pub none_here : (c : ℕ) (ts : List Token) → no_mark ts → None ≡ past_marks c [] ts
none_here c ts h = sym (none_marked c [] ts h)

pub mark_here : (c d : ℕ) (spacing : Spacing) (ts us : List Token) → ts ≡ token.Punct d spacing ∷ us
    → cond (d == c) (Some us) None ≡ past_marks c [] ts
mark_here c d spacing ts us e = ap (past_marks c []) (sym e)

pub ruleset passes_laws = (seeks_group, seeks_ident, seeks_literal, seeks_other, ends_here, ends_there)

pub ruleset past_first_laws = (tail_nested, goes_on, ends_at, further)
