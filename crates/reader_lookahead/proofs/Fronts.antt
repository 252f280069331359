-- Which form begins is known by the first token, but for words and marks that begin several forms: each look at another
-- one sees nothing.
use Rattle.std.proofs.Common.{Bor, ◌≡◌, ℕ, List, [], ◌∷◌, length, refl, sym, ap, ◌∙◌}
use Rattle.std.specs.Prelude.{Bool, true, false, cond, Some, None}
use Rattle.proc_macro2.specs.Token.{Token, Opens, Closes, Punct}
use Rattle.proc_macro2.specs.declared.delimiter.Delimiter.{Delimiter}
use Rattle.proc_macro2.specs.declared.delimiter.Delimiter.TheVariants as D
use Rattle.rust_leaf.specs.declared.punct.Spacing.{Spacing}
use Rattle.rust_leaf.specs.declared.punct.Spacing.TheVariants.{Alone}
use Rattle.rust_leaf.specs.declared.literal.Literal.{Literal}
use Rattle.rust_map.specs.declared.span.Span.{Span}
use Rattle.syn_buffer.specs.Entries.{entry_token}
use Rattle.syn_buffer.specs.declared.entry.Entry.{Entry}
use Rattle.syn_buffer.specs.declared.entry.Entry.TheVariants as entry
use Rattle.syn_grammar.specs.Forms as f
use Rattle.syn_grammar.specs.Kind as k
use Rattle.syn_grammar.specs.Look.{Look, ◌then◌, ◌or◌, sees}
use Rattle.syn_grammar.specs.Say.{at, marks}
use Rattle.reader_tokens.specs.Tokens.{tokens}
use Rattle.reader_lookahead.proofs.Sees.{then_fails}

-- &raw const, &raw mut
abbrev raw_stands : Look
raw_stands = marks "&" then at "raw" then (at "const" or at "mut")

-- no token, a mark that closes, and a literal
pub none_front : (p : k.Position) (es : List Entry) → length es ≡ 0 → f.front p (tokens es) ≡ None
unfolding f.front
none_front p (e ∷ es) h = absurd (cc h)
none_front p [] h = step p
  where
    step : (p : k.Position) → f.front p [] ≡ None
    step k.Plain = refl
    step k.InCondition = refl
    step k.InArm = refl
    step k.InStatement = refl

pub closing_front : (p : k.Position) (x : Entry) (d : Delimiter) (n : Span) (es fs : List Entry) → es ≡ x ∷ fs
    → x ≡ entry.Close d n → f.front p (tokens es) ≡ None
unfolding f.front
closing_front p x d n es fs e h =
    ap (λ x. f.front p (tokens x)) e ∙ ap (λ x. f.front p (entry_token x ∷ tokens fs)) h ∙ step p
  where
    step : (p : k.Position) → f.front p (Closes d ∷ tokens fs) ≡ None
    step k.Plain = refl
    step k.InCondition = refl
    step k.InArm = refl
    step k.InStatement = refl

pub literal_front : (p : k.Position) (x : Entry) (l : Bor Literal) (es fs : List Entry) → es ≡ x ∷ fs
    → x ≡ entry.Literal l → f.front p (tokens es) ≡ Some k.ExprLit
unfolding f.front
literal_front p x l es fs e h =
    ap (λ x. f.front p (tokens x)) e ∙ ap (λ x. f.front p (entry_token x ∷ tokens fs)) h

-- a group
pub parenthesis_front : (p : k.Position) (d : Delimiter) (ts us : List Token) → ts ≡ Opens d ∷ us → d ≡ D.Parenthesis
    → f.front p ts ≡ Some k.ExprParen
unfolding f.front
parenthesis_front p d ts us e h = ap (f.front p) e ∙ ap (λ x. f.front p (Opens x ∷ us)) h

pub brace_front : (p : k.Position) (d : Delimiter) (ts us : List Token) → ts ≡ Opens d ∷ us → d ≡ D.Brace
    → f.front p ts ≡ Some k.ExprBlock
unfolding f.front
brace_front p d ts us e h = ap (f.front p) e ∙ ap (λ x. f.front p (Opens x ∷ us)) h

pub bare_front : (p : k.Position) (d : Delimiter) (ts us : List Token) → ts ≡ Opens d ∷ us → d ≡ D.None
    → f.front p ts ≡ Some k.ExprGroup
unfolding f.front
bare_front p d ts us e h = ap (f.front p) e ∙ ap (λ x. f.front p (Opens x ∷ us)) h

bracket_front : (p : k.Position) (d : Delimiter) (ts us : List Token) (b : Bool) → ts ≡ Opens d ∷ us
    → d ≡ D.Bracket → b ≡ sees f.repeat_stands ts → f.front p ts ≡ cond b (Some k.ExprRepeat) (Some k.ExprArray)
unfolding f.front
bracket_front p d ts us b e h g =
    ap (f.front p) e ∙ ap (λ x. f.front p (Opens x ∷ us)) h
    ∙ ap (λ x. cond (sees f.repeat_stands (Opens x ∷ us)) (Some k.ExprRepeat) (Some k.ExprArray)) (sym h)
    ∙ ap (λ x. cond (sees f.repeat_stands x) (Some k.ExprRepeat) (Some k.ExprArray)) (sym e)
    ∙ ap (λ x. cond x (Some k.ExprRepeat) (Some k.ExprArray)) (sym g)

pub repeat_front : (p : k.Position) (d : Delimiter) (ts us : List Token) → ts ≡ Opens d ∷ us → d ≡ D.Bracket
    → true ≡ sees f.repeat_stands ts → f.front p ts ≡ Some k.ExprRepeat
repeat_front p d ts us e h g = bracket_front p d ts us true e h g

pub array_front : (p : k.Position) (d : Delimiter) (ts us : List Token) → ts ≡ Opens d ∷ us → d ≡ D.Bracket
    → false ≡ sees f.repeat_stands ts → f.front p ts ≡ Some k.ExprArray
array_front p d ts us e h g = bracket_front p d ts us false e h g

-- a mark that none follows at once
by_mark : (p : k.Position) (c d : ℕ) (s : Spacing) (ts us : List Token) → ts ≡ Punct c s ∷ us → s ≡ Alone → c ≡ d
    → f.front p ts ≡ f.front p (Punct d Alone ∷ us)
by_mark p c d s ts us e h g =
    ap (f.front p) e ∙ ap (λ x. f.front p (Punct c x ∷ us)) h ∙ ap (λ x. f.front p (Punct x Alone ∷ us)) g

pub pound_front : (p : k.Position) (c : ℕ) (s : Spacing) (ts us : List Token) → ts ≡ Punct c s ∷ us → s ≡ Alone
    → c ≡ 35 → f.front p ts ≡ Some k.ExprAttributed
unfolding f.front
pound_front p c s ts us e h g = by_mark p c 35 s ts us e h g ∙ step p
  where
    step : (p : k.Position) → f.front p (Punct 35 Alone ∷ us) ≡ Some k.ExprAttributed
    step k.Plain = refl
    step k.InCondition = refl
    step k.InArm = refl
    step k.InStatement = refl

pub star_front : (p : k.Position) (c : ℕ) (s : Spacing) (ts us : List Token) → ts ≡ Punct c s ∷ us → s ≡ Alone
    → c ≡ 42 → f.front p ts ≡ Some k.ExprUnary
unfolding f.front
star_front p c s ts us e h g = by_mark p c 42 s ts us e h g ∙ step p
  where
    step : (p : k.Position) → f.front p (Punct 42 Alone ∷ us) ≡ Some k.ExprUnary
    step k.Plain = refl
    step k.InCondition = refl
    step k.InArm = refl
    step k.InStatement = refl

pub not_front : (p : k.Position) (c : ℕ) (s : Spacing) (ts us : List Token) → ts ≡ Punct c s ∷ us → s ≡ Alone
    → c ≡ 33 → f.front p ts ≡ Some k.ExprUnary
unfolding f.front
not_front p c s ts us e h g = by_mark p c 33 s ts us e h g ∙ step p
  where
    step : (p : k.Position) → f.front p (Punct 33 Alone ∷ us) ≡ Some k.ExprUnary
    step k.Plain = refl
    step k.InCondition = refl
    step k.InArm = refl
    step k.InStatement = refl

pub minus_front : (p : k.Position) (c : ℕ) (s : Spacing) (ts us : List Token) → ts ≡ Punct c s ∷ us → s ≡ Alone
    → c ≡ 45 → f.front p ts ≡ Some k.ExprUnary
unfolding f.front
minus_front p c s ts us e h g = by_mark p c 45 s ts us e h g ∙ step p
  where
    step : (p : k.Position) → f.front p (Punct 45 Alone ∷ us) ≡ Some k.ExprUnary
    step k.Plain = refl
    step k.InCondition = refl
    step k.InArm = refl
    step k.InStatement = refl

pub less_front : (p : k.Position) (c : ℕ) (s : Spacing) (ts us : List Token) → ts ≡ Punct c s ∷ us → s ≡ Alone
    → c ≡ 60 → f.front p ts ≡ Some k.ExprPath
unfolding f.front
less_front p c s ts us e h g = by_mark p c 60 s ts us e h g ∙ step p
  where
    step : (p : k.Position) → f.front p (Punct 60 Alone ∷ us) ≡ Some k.ExprPath
    step k.Plain = refl
    step k.InCondition = refl
    step k.InArm = refl
    step k.InStatement = refl

-- a closure, and a reference
pub bar_front : (p : k.Position) (c : ℕ) (s : Spacing) (ts us : List Token) (b : Bool) → ts ≡ Punct c s ∷ us
    → s ≡ Alone → c ≡ 124 → b ≡ sees f.typed_closure_stands ts
    → f.front p ts ≡ cond b (Some k.ExprTypedClosure) (Some k.ExprClosure)
unfolding f.front
bar_front p c s ts us b e h g d =
    by_mark p c 124 s ts us e h g ∙ step p
    ∙ ap (λ x. cond (sees f.typed_closure_stands (Punct x Alone ∷ us)) (Some k.ExprTypedClosure) (Some k.ExprClosure))
    (sym g)
    ∙ ap (λ x. cond (sees f.typed_closure_stands (Punct c x ∷ us)) (Some k.ExprTypedClosure) (Some k.ExprClosure))
    (sym h)
    ∙ ap (λ x. cond (sees f.typed_closure_stands x) (Some k.ExprTypedClosure) (Some k.ExprClosure)) (sym e)
    ∙ ap (λ x. cond x (Some k.ExprTypedClosure) (Some k.ExprClosure)) (sym d)
  where
    step : (p : k.Position) → f.front p (Punct 124 Alone ∷ us)
        ≡ cond (sees f.typed_closure_stands (Punct 124 Alone ∷ us)) (Some k.ExprTypedClosure) (Some k.ExprClosure)
    step k.Plain = refl
    step k.InCondition = refl
    step k.InArm = refl
    step k.InStatement = refl

pub and_front : (p : k.Position) (c : ℕ) (s : Spacing) (ts us : List Token) (b : Bool) → ts ≡ Punct c s ∷ us
    → s ≡ Alone → c ≡ 38 → b ≡ sees raw_stands ts → f.front p ts ≡ cond b (Some k.ExprRawAddr) (Some k.ExprReference)
unfolding f.front
and_front p c s ts us b e h g d =
    by_mark p c 38 s ts us e h g ∙ step p
    ∙ ap (λ x. cond (sees raw_stands (Punct x Alone ∷ us)) (Some k.ExprRawAddr) (Some k.ExprReference)) (sym g)
    ∙ ap (λ x. cond (sees raw_stands (Punct c x ∷ us)) (Some k.ExprRawAddr) (Some k.ExprReference)) (sym h)
    ∙ ap (λ x. cond (sees raw_stands x) (Some k.ExprRawAddr) (Some k.ExprReference)) (sym e)
    ∙ ap (λ x. cond x (Some k.ExprRawAddr) (Some k.ExprReference)) (sym d)
  where
    step : (p : k.Position) → f.front p (Punct 38 Alone ∷ us)
        ≡ cond (sees raw_stands (Punct 38 Alone ∷ us)) (Some k.ExprRawAddr) (Some k.ExprReference)
    step k.Plain = refl
    step k.InCondition = refl
    step k.InArm = refl
    step k.InStatement = refl

-- a closure has a type behind its parameters, where one stands behind two bars
pub typed_so : (c : ℕ) (s : Spacing) (ts us : List Token) (b : Bool) → ts ≡ Punct c s ∷ us → s ≡ Alone → c ≡ 124
    → b ≡ sees (f.past_bar then f.past_bar then marks "->") ts → b ≡ sees f.typed_closure_stands ts
typed_so c s ts us b e h g d = d ∙ ap (sees (f.past_bar then f.past_bar then marks "->")) is_bar
    ∙ ap (sees f.typed_closure_stands) (sym is_bar)
  where
    is_bar : ts ≡ Punct 124 Alone ∷ us
    is_bar = e ∙ ap (λ x. Punct c x ∷ us) h ∙ ap (λ x. Punct x Alone ∷ us) g

-- no raw stands behind the mark
pub reference_front : (p : k.Position) (c : ℕ) (s : Spacing) (ts us : List Token) → ts ≡ Punct c s ∷ us → s ≡ Alone
    → c ≡ 38 → false ≡ sees (at "raw") us → f.front p ts ≡ Some k.ExprReference
reference_front p c s ts us e h g d = and_front p c s ts us false e h g none
  where
    is_and : Punct 38 Alone ∷ us ≡ ts
    is_and = sym (e ∙ ap (λ x. Punct c x ∷ us) h ∙ ap (λ x. Punct x Alone ∷ us) g)

    none : false ≡ sees raw_stands ts
    none = then_fails (at "raw") (at "const" or at "mut") us d ∙ ap (sees raw_stands) is_and
