-- Which form goes on from an operand is known by the token behind that, but for marks that begin several forms.
use Rattle.std.proofs.Common.{Bor, ◌≡◌, ℕ, List, [], ◌∷◌, length, refl, sym, ap, ◌∙◌}
use Rattle.std.specs.Prelude.{Bool, true, false, cond, Option, Some, None, codes}
use Rattle.proc_macro2.specs.Token.{Token, Opens, Closes, Ident, Punct}
use Rattle.proc_macro2.specs.declared.delimiter.Delimiter.{Delimiter}
use Rattle.proc_macro2.specs.declared.delimiter.Delimiter.TheVariants as D
use Rattle.rust_leaf.specs.declared.literal.Literal.{Literal}
use Rattle.rust_leaf.specs.declared.punct.Spacing.{Spacing}
use Rattle.rust_leaf.specs.declared.punct.Spacing.TheVariants.{Alone, Joint}
use Rattle.rust_map.specs.declared.span.Span.{Span}
use Rattle.syn_buffer.specs.Entries.{entry_token}
use Rattle.syn_buffer.specs.declared.entry.Entry.{Entry}
use Rattle.syn_buffer.specs.declared.entry.Entry.TheVariants as entry
use Rattle.syn_grammar.specs.Forms as f
use Rattle.syn_grammar.specs.Kind as k
use Rattle.syn_grammar.specs.Look.{Look, an_ident, behind, past_literals, seen, sees, ◌or◌, ◌then◌}
use Rattle.syn_grammar.specs.Say.{at, marks, parenthesis}
use Rattle.syn_grammar.specs.Words.{ends_in_dot, is_ident}
use Rattle.rust_leaf.specs.Keywords.{same_text}
use Rattle.reader_tokens.specs.Marks.{no_word}
use Rattle.reader_tokens.specs.Tokens.{tokens}
use Rattle.reader_tokens.proofs.Leaves.{none_word}
use Rattle.reader_lookahead.proofs.Glances.{no_word_first, word_first}

-- no token, a mark that closes, and a literal
pub none_back : (p : k.Position) (es : List Entry) → length es ≡ 0 → f.back p (tokens es) ≡ None
unfolding f.back
none_back p (e ∷ es) h = absurd (cc h)
none_back p [] h = step p
  where
    step : (p : k.Position) → f.back p [] ≡ None
    step k.Plain = refl
    step k.InCondition = refl
    step k.InArm = refl
    step k.InStatement = refl

pub closing_back : (p : k.Position) (x : Entry) (d : Delimiter) (n : Span) (es fs : List Entry) → es ≡ x ∷ fs
    → x ≡ entry.Close d n → f.back p (tokens es) ≡ None
unfolding f.back
closing_back p x d n es fs e h =
    ap (λ x. f.back p (tokens x)) e ∙ ap (λ x. f.back p (entry_token x ∷ tokens fs)) h ∙ step p
  where
    step : (p : k.Position) → f.back p (Closes d ∷ tokens fs) ≡ None
    step k.Plain = refl
    step k.InCondition = refl
    step k.InArm = refl
    step k.InStatement = refl

pub literal_back : (p : k.Position) (x : Entry) (l : Bor Literal) (es fs : List Entry) → es ≡ x ∷ fs
    → x ≡ entry.Literal l → f.back p (tokens es) ≡ None
unfolding f.back
literal_back p x l es fs e h =
    ap (λ x. f.back p (tokens x)) e ∙ ap (λ x. f.back p (entry_token x ∷ tokens fs)) h ∙ step p
  where
    step : (p : k.Position) → f.back p (entry_token (entry.Literal l) ∷ tokens fs) ≡ None
    step k.Plain = refl
    step k.InCondition = refl
    step k.InArm = refl
    step k.InStatement = refl

-- a word
by_word : (p : k.Position) (w : List ℕ) (us : List Token) (b : Bool) → same_text (codes "as") w ≡ b
    → f.back p (Ident w ∷ us) ≡ cond b (Some k.ExprCast) None
unfolding f.back
by_word p w us b h = step p h
  where
    simple : (b : Bool) → cond (seen (cond b (Some us) None)) (Some k.ExprCast) None ≡ cond b (Some k.ExprCast) None
    simple true = refl
    simple false = refl

    cast : same_text (codes "as") w ≡ b
        → cond (seen (cond (same_text (codes "as") w) (Some us) None)) (Some k.ExprCast) None
        ≡ cond b (Some k.ExprCast) None
    cast h = ap (λ b. cond (seen (cond b (Some us) None)) (Some k.ExprCast) None) h ∙ simple b

    step : (p : k.Position) → same_text (codes "as") w ≡ b → f.back p (Ident w ∷ us) ≡ cond b (Some k.ExprCast) None
    step k.Plain h = cast h
    step k.InCondition h = cast h
    step k.InArm h = cast h
    step k.InStatement h = cast h

pub cast_back : (p : k.Position) (w : List ℕ) (ts us : List Token) → ts ≡ Ident w ∷ us
    → same_text (codes "as") w ≡ true → f.back p ts ≡ Some k.ExprCast
cast_back p w ts us e h = ap (f.back p) e ∙ by_word p w us true h

pub word_back : (p : k.Position) (w : List ℕ) (ts us : List Token) → ts ≡ Ident w ∷ us
    → same_text (codes "as") w ≡ false → f.back p ts ≡ None
word_back p w ts us e h = ap (f.back p) e ∙ by_word p w us false h

-- a group: braces but in a condition
by_group : (p : k.Position) (d c : Delimiter) (ts us : List Token) → ts ≡ Opens d ∷ us → d ≡ c
    → f.back p ts ≡ f.back p (Opens c ∷ us)
by_group p d c ts us e h = ap (f.back p) e ∙ ap (λ x. f.back p (Opens x ∷ us)) h

pub call_back : (p : k.Position) (d : Delimiter) (ts us : List Token) → ts ≡ Opens d ∷ us → d ≡ D.Parenthesis
    → f.back p ts ≡ Some k.ExprCall
unfolding f.back
call_back p d ts us e h = by_group p d D.Parenthesis ts us e h ∙ step p
  where
    step : (p : k.Position) → f.back p (Opens D.Parenthesis ∷ us) ≡ Some k.ExprCall
    step k.Plain = refl
    step k.InCondition = refl
    step k.InArm = refl
    step k.InStatement = refl

pub index_back : (p : k.Position) (d : Delimiter) (ts us : List Token) → ts ≡ Opens d ∷ us → d ≡ D.Bracket
    → f.back p ts ≡ Some k.ExprIndex
unfolding f.back
index_back p d ts us e h = by_group p d D.Bracket ts us e h ∙ step p
  where
    step : (p : k.Position) → f.back p (Opens D.Bracket ∷ us) ≡ Some k.ExprIndex
    step k.Plain = refl
    step k.InCondition = refl
    step k.InArm = refl
    step k.InStatement = refl

pub bare_back : (p : k.Position) (d : Delimiter) (ts us : List Token) → ts ≡ Opens d ∷ us → d ≡ D.None
    → f.back p ts ≡ None
unfolding f.back
bare_back p d ts us e h = by_group p d D.None ts us e h ∙ step p
  where
    step : (p : k.Position) → f.back p (Opens D.None ∷ us) ≡ None
    step k.Plain = refl
    step k.InCondition = refl
    step k.InArm = refl
    step k.InStatement = refl

pub struct_back : (p : k.Position) (d : Delimiter) (ts us : List Token) (o : Option k.Kind) → ts ≡ Opens d ∷ us
    → d ≡ D.Brace → f.back p (Opens D.Brace ∷ us) ≡ o → f.back p ts ≡ o
struct_back p d ts us o e h g = by_group p d D.Brace ts us e h ∙ g

pub brace_plain : (us : List Token) → f.back k.Plain (Opens D.Brace ∷ us) ≡ Some k.ExprStruct
unfolding f.back
brace_plain us = refl

pub brace_condition : (us : List Token) → f.back k.InCondition (Opens D.Brace ∷ us) ≡ None
unfolding f.back
brace_condition us = refl

pub brace_arm : (us : List Token) → f.back k.InArm (Opens D.Brace ∷ us) ≡ Some k.ExprStruct
unfolding f.back
brace_arm us = refl

pub brace_statement : (us : List Token) → f.back k.InStatement (Opens D.Brace ∷ us) ≡ Some k.ExprStruct
unfolding f.back
brace_statement us = refl

-- a mark that none follows at once
by_mark : (p : k.Position) (c d : ℕ) (s t : Spacing) (ts us : List Token) → ts ≡ Punct c s ∷ us → s ≡ t → c ≡ d
    → f.back p ts ≡ f.back p (Punct d t ∷ us)
by_mark p c d s t ts us e h g =
    ap (f.back p) e ∙ ap (λ x. f.back p (Punct c x ∷ us)) h ∙ ap (λ x. f.back p (Punct x t ∷ us)) g

pub assign_back : (p : k.Position) (c : ℕ) (s : Spacing) (ts us : List Token) → ts ≡ Punct c s ∷ us → s ≡ Alone
    → c ≡ 61 → f.back p ts ≡ Some k.ExprAssign
unfolding f.back
assign_back p c s ts us e h g = by_mark p c 61 s Alone ts us e h g ∙ step p
  where
    step : (p : k.Position) → f.back p (Punct 61 Alone ∷ us) ≡ Some k.ExprAssign
    step k.Plain = refl
    step k.InCondition = refl
    step k.InArm = refl
    step k.InStatement = refl

pub plus_back : (p : k.Position) (c : ℕ) (s : Spacing) (ts us : List Token) → ts ≡ Punct c s ∷ us → s ≡ Alone
    → c ≡ 43 → f.back p ts ≡ Some k.ExprSum
unfolding f.back
plus_back p c s ts us e h g = by_mark p c 43 s Alone ts us e h g ∙ step p
  where
    step : (p : k.Position) → f.back p (Punct 43 Alone ∷ us) ≡ Some k.ExprSum
    step k.Plain = refl
    step k.InCondition = refl
    step k.InArm = refl
    step k.InStatement = refl

pub minus_back : (p : k.Position) (c : ℕ) (s : Spacing) (ts us : List Token) → ts ≡ Punct c s ∷ us → s ≡ Alone
    → c ≡ 45 → f.back p ts ≡ Some k.ExprSum
unfolding f.back
minus_back p c s ts us e h g = by_mark p c 45 s Alone ts us e h g ∙ step p
  where
    step : (p : k.Position) → f.back p (Punct 45 Alone ∷ us) ≡ Some k.ExprSum
    step k.Plain = refl
    step k.InCondition = refl
    step k.InArm = refl
    step k.InStatement = refl

pub star_back : (p : k.Position) (c : ℕ) (s : Spacing) (ts us : List Token) → ts ≡ Punct c s ∷ us → s ≡ Alone
    → c ≡ 42 → f.back p ts ≡ Some k.ExprProduct
unfolding f.back
star_back p c s ts us e h g = by_mark p c 42 s Alone ts us e h g ∙ step p
  where
    step : (p : k.Position) → f.back p (Punct 42 Alone ∷ us) ≡ Some k.ExprProduct
    step k.Plain = refl
    step k.InCondition = refl
    step k.InArm = refl
    step k.InStatement = refl

pub slash_back : (p : k.Position) (c : ℕ) (s : Spacing) (ts us : List Token) → ts ≡ Punct c s ∷ us → s ≡ Alone
    → c ≡ 47 → f.back p ts ≡ Some k.ExprProduct
unfolding f.back
slash_back p c s ts us e h g = by_mark p c 47 s Alone ts us e h g ∙ step p
  where
    step : (p : k.Position) → f.back p (Punct 47 Alone ∷ us) ≡ Some k.ExprProduct
    step k.Plain = refl
    step k.InCondition = refl
    step k.InArm = refl
    step k.InStatement = refl

pub less_back : (p : k.Position) (c : ℕ) (s : Spacing) (ts us : List Token) → ts ≡ Punct c s ∷ us → s ≡ Alone
    → c ≡ 60 → f.back p ts ≡ Some k.ExprCompare
unfolding f.back
less_back p c s ts us e h g = by_mark p c 60 s Alone ts us e h g ∙ step p
  where
    step : (p : k.Position) → f.back p (Punct 60 Alone ∷ us) ≡ Some k.ExprCompare
    step k.Plain = refl
    step k.InCondition = refl
    step k.InArm = refl
    step k.InStatement = refl

pub more_back : (p : k.Position) (c : ℕ) (s : Spacing) (ts us : List Token) → ts ≡ Punct c s ∷ us → s ≡ Alone
    → c ≡ 62 → f.back p ts ≡ Some k.ExprCompare
unfolding f.back
more_back p c s ts us e h g = by_mark p c 62 s Alone ts us e h g ∙ step p
  where
    step : (p : k.Position) → f.back p (Punct 62 Alone ∷ us) ≡ Some k.ExprCompare
    step k.Plain = refl
    step k.InCondition = refl
    step k.InArm = refl
    step k.InStatement = refl

-- a mark, whatever follows it
pub comma_back : (p : k.Position) (c : ℕ) (s : Spacing) (ts us : List Token) → ts ≡ Punct c s ∷ us → c ≡ 44
    → f.back p ts ≡ None
unfolding f.back
comma_back p c s ts us e g = by_mark p c 44 s s ts us e refl g ∙ step p s
  where
    step : (p : k.Position) (s : Spacing) → f.back p (Punct 44 s ∷ us) ≡ None
    step k.Plain Alone = refl
    step k.Plain Joint = refl
    step k.InCondition Alone = refl
    step k.InCondition Joint = refl
    step k.InArm Alone = refl
    step k.InArm Joint = refl
    step k.InStatement Alone = refl
    step k.InStatement Joint = refl

pub semi_back : (p : k.Position) (c : ℕ) (s : Spacing) (ts us : List Token) → ts ≡ Punct c s ∷ us → c ≡ 59
    → f.back p ts ≡ None
unfolding f.back
semi_back p c s ts us e g = by_mark p c 59 s s ts us e refl g ∙ step p s
  where
    step : (p : k.Position) (s : Spacing) → f.back p (Punct 59 s ∷ us) ≡ None
    step k.Plain Alone = refl
    step k.Plain Joint = refl
    step k.InCondition Alone = refl
    step k.InCondition Joint = refl
    step k.InArm Alone = refl
    step k.InArm Joint = refl
    step k.InStatement Alone = refl
    step k.InStatement Joint = refl

pub question_back : (p : k.Position) (c : ℕ) (s : Spacing) (ts us : List Token) → ts ≡ Punct c s ∷ us → c ≡ 63
    → f.back p ts ≡ Some k.ExprTry
unfolding f.back
question_back p c s ts us e g = by_mark p c 63 s s ts us e refl g ∙ step p s
  where
    step : (p : k.Position) (s : Spacing) → f.back p (Punct 63 s ∷ us) ≡ Some k.ExprTry
    step k.Plain Alone = refl
    step k.Plain Joint = refl
    step k.InCondition Alone = refl
    step k.InCondition Joint = refl
    step k.InArm Alone = refl
    step k.InArm Joint = refl
    step k.InStatement Alone = refl
    step k.InStatement Joint = refl

-- a dot that none follows at once
by_dot : (p : k.Position) (c : ℕ) (s : Spacing) (ts us : List Token) (a m d : Bool) → ts ≡ Punct c s ∷ us → s ≡ Alone
    → c ≡ 46 → a ≡ sees (f.dot_stands then at "await") ts
    → m ≡ sees (f.dot_stands then an_ident then (parenthesis or marks "::")) ts → d ≡ sees f.dot_stands ts
    → f.back p ts ≡ cond a (Some k.ExprAwait) (cond m (Some k.ExprMethodCall) (cond d (Some k.ExprField) None))
unfolding f.back
by_dot p c s ts us a m d e h g i j l =
    by_mark p c 46 s Alone ts us e h g ∙ step p ∙ ap all (sym is_dot)
    ∙ ap (λ x. cond x (Some k.ExprAwait) (cond (method ts) (Some k.ExprMethodCall)
    (cond (dot ts) (Some k.ExprField) None)))
    (sym i)
    ∙ ap (λ x. cond a (Some k.ExprAwait) (cond x (Some k.ExprMethodCall)
    (cond (dot ts) (Some k.ExprField) None))) (sym j)
    ∙ ap (λ x. cond a (Some k.ExprAwait) (cond m (Some k.ExprMethodCall) (cond x (Some k.ExprField) None))) (sym l)
  where
    dot : List Token → Bool
    dot ts = sees f.dot_stands ts

    method : List Token → Bool
    method ts = sees (f.dot_stands then an_ident then (parenthesis or marks "::")) ts

    all : List Token → Option k.Kind
    all ts = cond (sees (f.dot_stands then at "await") ts) (Some k.ExprAwait)
        (cond (method ts) (Some k.ExprMethodCall) (cond (dot ts) (Some k.ExprField) None))

    is_dot : ts ≡ Punct 46 Alone ∷ us
    is_dot = e ∙ ap (λ x. Punct c x ∷ us) h ∙ ap (λ x. Punct x Alone ∷ us) g

    step : (p : k.Position) → f.back p (Punct 46 Alone ∷ us) ≡ all (Punct 46 Alone ∷ us)
    step k.Plain = refl
    step k.InCondition = refl
    step k.InArm = refl
    step k.InStatement = refl

-- by what stands behind the dot and the numbers that end in one
dot_seen : (c : ℕ) (s : Spacing) (ts us : List Token) → ts ≡ Punct c s ∷ us → s ≡ Alone → c ≡ 46
    → past_literals ends_in_dot us ≡ f.dot_stands ts
dot_seen c s ts us e h g =
    ap (λ x. f.dot_stands (Punct x Alone ∷ us)) (sym g) ∙ ap (λ x. f.dot_stands (Punct c x ∷ us)) (sym h)
    ∙ ap f.dot_stands (sym e)

abbrev calls : Look
calls = an_ident then (parenthesis or marks "::")

pub nothing_back : (p : k.Position) (c : ℕ) (s : Spacing) (ts us : List Token) → ts ≡ Punct c s ∷ us
    → s ≡ Alone → c ≡ 46 → None ≡ past_literals ends_in_dot us → f.back p ts ≡ None
nothing_back p c s ts us e h g n =
    let o : None ≡ f.dot_stands ts = n ∙ dot_seen c s ts us e h g in
    by_dot p c s ts us false false false e h g (ap (λ x. seen (behind x (at "await"))) o)
    (ap (λ x. seen (behind x calls)) o) (ap seen o)

by_behind : (p : k.Position) (c : ℕ) (s : Spacing) (ts us vs : List Token) (a m : Bool) → ts ≡ Punct c s ∷ us
    → s ≡ Alone → c ≡ 46 → Some vs ≡ past_literals ends_in_dot us → a ≡ sees (at "await") vs → m ≡ sees calls vs
    → f.back p ts ≡ cond a (Some k.ExprAwait) (cond m (Some k.ExprMethodCall) (Some k.ExprField))
by_behind p c s ts us vs a m e h g n i j =
    let o : Some vs ≡ f.dot_stands ts = n ∙ dot_seen c s ts us e h g in
    by_dot p c s ts us a m true e h g (i ∙ ap (λ x. seen (behind x (at "await"))) o)
    (j ∙ ap (λ x. seen (behind x calls)) o) (ap seen o)

pub field_back : (p : k.Position) (c : ℕ) (s : Spacing) (ts us vs : List Token) → ts ≡ Punct c s ∷ us
    → s ≡ Alone → c ≡ 46 → Some vs ≡ past_literals ends_in_dot us → no_word vs → f.back p ts ≡ Some k.ExprField
field_back p c s ts us vs e h g n w =
    by_behind p c s ts us vs false false e h g n (no_word_first (λ cs. same_text (codes "await") cs) vs w)
    (no_call vs w)
  where
    no_call : (vs : List Token) → no_word vs → false ≡ sees calls vs
    no_call vs w = ap (λ x. seen (behind x (parenthesis or marks "::"))) (none_word is_ident vs w)

pub await_back : (p : k.Position) (c : ℕ) (s : Spacing) (ts us vs xs : List Token) (w : List ℕ)
    → ts ≡ Punct c s ∷ us → s ≡ Alone → c ≡ 46 → Some vs ≡ past_literals ends_in_dot us → vs ≡ Ident w ∷ xs
    → same_text (codes "await") w ≡ true → f.back p ts ≡ Some k.ExprAwait
await_back p c s ts us vs xs w e h g n i j =
    by_behind p c s ts us vs true (sees calls vs) e h g n
    (word_first (λ cs. same_text (codes "await") cs) w vs xs true i (sym j)) refl

-- a word that isn't await: whether it is an Ident, and arguments stand behind it
by_name : (p : k.Position) (c : ℕ) (s : Spacing) (ts us vs xs : List Token) (w : List ℕ) (b : Bool)
    → ts ≡ Punct c s ∷ us → s ≡ Alone → c ≡ 46 → Some vs ≡ past_literals ends_in_dot us → vs ≡ Ident w ∷ xs
    → same_text (codes "await") w ≡ false → is_ident w ≡ b
    → f.back p ts ≡ cond (seen (behind (cond b (Some xs) None) (parenthesis or marks "::"))) (Some k.ExprMethodCall)
    (Some k.ExprField)
by_name p c s ts us vs xs w b e h g n i j l =
    by_behind p c s ts us vs false (seen (behind (cond b (Some xs) None) (parenthesis or marks "::"))) e h g n
    (word_first (λ cs. same_text (codes "await") cs) w vs xs false i (sym j))
    (ap (λ x. seen (behind (cond x (Some xs) None) (parenthesis or marks "::"))) (sym l)
    ∙ ap (sees calls) (sym i))

pub method_back : (p : k.Position) (c : ℕ) (s : Spacing) (ts us vs xs : List Token) (w : List ℕ)
    → ts ≡ Punct c s ∷ us → s ≡ Alone → c ≡ 46 → Some vs ≡ past_literals ends_in_dot us → vs ≡ Ident w ∷ xs
    → same_text (codes "await") w ≡ false → is_ident w ≡ true → true ≡ sees (parenthesis or marks "::") xs
    → f.back p ts ≡ Some k.ExprMethodCall
method_back p c s ts us vs xs w e h g n i j l m =
    by_name p c s ts us vs xs w true e h g n i j l
    ∙ ap (λ b. cond b (Some k.ExprMethodCall) (Some k.ExprField)) (sym m)

pub uncalled_back : (p : k.Position) (c : ℕ) (s : Spacing) (ts us vs xs : List Token) (w : List ℕ)
    → ts ≡ Punct c s ∷ us → s ≡ Alone → c ≡ 46 → Some vs ≡ past_literals ends_in_dot us → vs ≡ Ident w ∷ xs
    → same_text (codes "await") w ≡ false → is_ident w ≡ true → false ≡ sees (parenthesis or marks "::") xs
    → f.back p ts ≡ Some k.ExprField
uncalled_back p c s ts us vs xs w e h g n i j l m =
    by_name p c s ts us vs xs w true e h g n i j l
    ∙ ap (λ b. cond b (Some k.ExprMethodCall) (Some k.ExprField)) (sym m)

pub reserved_back : (p : k.Position) (c : ℕ) (s : Spacing) (ts us vs xs : List Token) (w : List ℕ)
    → ts ≡ Punct c s ∷ us → s ≡ Alone → c ≡ 46 → Some vs ≡ past_literals ends_in_dot us → vs ≡ Ident w ∷ xs
    → same_text (codes "await") w ≡ false → is_ident w ≡ false → f.back p ts ≡ Some k.ExprField
reserved_back p c s ts us vs xs w e h g n i j l = by_name p c s ts us vs xs w false e h g n i j l

pub percent_back : (p : k.Position) (c : ℕ) (s : Spacing) (ts us : List Token) → ts ≡ Punct c s ∷ us → s ≡ Alone
    → c ≡ 37 → f.back p ts ≡ Some k.ExprProduct
unfolding f.back
percent_back p c s ts us e h g = by_mark p c 37 s Alone ts us e h g ∙ step p
  where
    step : (p : k.Position) → f.back p (Punct 37 Alone ∷ us) ≡ Some k.ExprProduct
    step k.Plain = refl
    step k.InCondition = refl
    step k.InArm = refl
    step k.InStatement = refl

pub and_back : (p : k.Position) (c : ℕ) (s : Spacing) (ts us : List Token) → ts ≡ Punct c s ∷ us → s ≡ Alone
    → c ≡ 38 → f.back p ts ≡ Some k.ExprBitAnd
unfolding f.back
and_back p c s ts us e h g = by_mark p c 38 s Alone ts us e h g ∙ step p
  where
    step : (p : k.Position) → f.back p (Punct 38 Alone ∷ us) ≡ Some k.ExprBitAnd
    step k.Plain = refl
    step k.InCondition = refl
    step k.InArm = refl
    step k.InStatement = refl

pub caret_back : (p : k.Position) (c : ℕ) (s : Spacing) (ts us : List Token) → ts ≡ Punct c s ∷ us → s ≡ Alone
    → c ≡ 94 → f.back p ts ≡ Some k.ExprBitXor
unfolding f.back
caret_back p c s ts us e h g = by_mark p c 94 s Alone ts us e h g ∙ step p
  where
    step : (p : k.Position) → f.back p (Punct 94 Alone ∷ us) ≡ Some k.ExprBitXor
    step k.Plain = refl
    step k.InCondition = refl
    step k.InArm = refl
    step k.InStatement = refl

pub bar_back : (p : k.Position) (c : ℕ) (s : Spacing) (ts us : List Token) → ts ≡ Punct c s ∷ us → s ≡ Alone
    → c ≡ 124 → f.back p ts ≡ Some k.ExprBitOr
unfolding f.back
bar_back p c s ts us e h g = by_mark p c 124 s Alone ts us e h g ∙ step p
  where
    step : (p : k.Position) → f.back p (Punct 124 Alone ∷ us) ≡ Some k.ExprBitOr
    step k.Plain = refl
    step k.InCondition = refl
    step k.InArm = refl
    step k.InStatement = refl

-- two marks of which the second follows at once
by_marks : (p : k.Position) (c d e g : ℕ) (s t : Spacing) (ts us vs : List Token) → ts ≡ Punct c s ∷ us → s ≡ Joint
    → us ≡ Punct d t ∷ vs → c ≡ e → d ≡ g → f.back p ts ≡ f.back p (Punct e Joint ∷ Punct g t ∷ vs)
by_marks p c d e g s t ts us vs h j i m n =
    by_mark p c e s Joint ts us h j m ∙ ap (λ x. f.back p (Punct e Joint ∷ x)) i
    ∙ ap (λ x. f.back p (Punct e Joint ∷ Punct x t ∷ vs)) n

pub equal_back : (p : k.Position) (c d : ℕ) (s t : Spacing) (ts us vs : List Token) → ts ≡ Punct c s ∷ us → s ≡ Joint
    → us ≡ Punct d t ∷ vs → c ≡ 61 → d ≡ 61 → f.back p ts ≡ Some k.ExprCompare
unfolding f.back
equal_back p c d s t ts us vs h j i m n = by_marks p c d 61 61 s t ts us vs h j i m n ∙ step p
  where
    step : (p : k.Position) → f.back p (Punct 61 Joint ∷ Punct 61 t ∷ vs) ≡ Some k.ExprCompare
    step k.Plain = refl
    step k.InCondition = refl
    step k.InArm = refl
    step k.InStatement = refl

pub arrow_back : (p : k.Position) (c d : ℕ) (s t : Spacing) (ts us vs : List Token) → ts ≡ Punct c s ∷ us → s ≡ Joint
    → us ≡ Punct d t ∷ vs → c ≡ 61 → d ≡ 62 → f.back p ts ≡ None
unfolding f.back
arrow_back p c d s t ts us vs h j i m n = by_marks p c d 61 62 s t ts us vs h j i m n ∙ step p
  where
    step : (p : k.Position) → f.back p (Punct 61 Joint ∷ Punct 62 t ∷ vs) ≡ None
    step k.Plain = refl
    step k.InCondition = refl
    step k.InArm = refl
    step k.InStatement = refl

pub unequal_back : (p : k.Position) (c d : ℕ) (s t : Spacing) (ts us vs : List Token) → ts ≡ Punct c s ∷ us → s ≡ Joint
    → us ≡ Punct d t ∷ vs → c ≡ 33 → d ≡ 61 → f.back p ts ≡ Some k.ExprCompare
unfolding f.back
unequal_back p c d s t ts us vs h j i m n = by_marks p c d 33 61 s t ts us vs h j i m n ∙ step p
  where
    step : (p : k.Position) → f.back p (Punct 33 Joint ∷ Punct 61 t ∷ vs) ≡ Some k.ExprCompare
    step k.Plain = refl
    step k.InCondition = refl
    step k.InArm = refl
    step k.InStatement = refl

pub both_back : (p : k.Position) (c d : ℕ) (s t : Spacing) (ts us vs : List Token) → ts ≡ Punct c s ∷ us → s ≡ Joint
    → us ≡ Punct d t ∷ vs → c ≡ 38 → d ≡ 38 → f.back p ts ≡ Some k.ExprAnd
unfolding f.back
both_back p c d s t ts us vs h j i m n = by_marks p c d 38 38 s t ts us vs h j i m n ∙ step p
  where
    step : (p : k.Position) → f.back p (Punct 38 Joint ∷ Punct 38 t ∷ vs) ≡ Some k.ExprAnd
    step k.Plain = refl
    step k.InCondition = refl
    step k.InArm = refl
    step k.InStatement = refl

pub either_back : (p : k.Position) (c d : ℕ) (s t : Spacing) (ts us vs : List Token) → ts ≡ Punct c s ∷ us → s ≡ Joint
    → us ≡ Punct d t ∷ vs → c ≡ 124 → d ≡ 124 → f.back p ts ≡ Some k.ExprOr
unfolding f.back
either_back p c d s t ts us vs h j i m n = by_marks p c d 124 124 s t ts us vs h j i m n ∙ step p
  where
    step : (p : k.Position) → f.back p (Punct 124 Joint ∷ Punct 124 t ∷ vs) ≡ Some k.ExprOr
    step k.Plain = refl
    step k.InCondition = refl
    step k.InArm = refl
    step k.InStatement = refl

-- two marks that no further one follows
pub left_back : (p : k.Position) (c d : ℕ) (s t : Spacing) (ts us : List Token) → ts ≡ Punct c s ∷ Punct d t ∷ us
    → s ≡ Joint → t ≡ Alone → c ≡ 60 → d ≡ 60 → f.back p ts ≡ Some k.ExprShift
unfolding f.back
left_back p c d s t ts us e h i m n =
    by_marks p c d 60 60 s t ts (Punct d t ∷ us) us e h refl m n
    ∙ ap (λ x. f.back p (Punct 60 Joint ∷ Punct 60 x ∷ us)) i ∙ step p
  where
    step : (p : k.Position) → f.back p (Punct 60 Joint ∷ Punct 60 Alone ∷ us) ≡ Some k.ExprShift
    step k.Plain = refl
    step k.InCondition = refl
    step k.InArm = refl
    step k.InStatement = refl

pub no_more_back : (p : k.Position) (c d : ℕ) (s t : Spacing) (ts us : List Token) → ts ≡ Punct c s ∷ Punct d t ∷ us
    → s ≡ Joint → t ≡ Alone → c ≡ 60 → d ≡ 61 → f.back p ts ≡ Some k.ExprCompare
unfolding f.back
no_more_back p c d s t ts us e h i m n =
    by_marks p c d 60 61 s t ts (Punct d t ∷ us) us e h refl m n
    ∙ ap (λ x. f.back p (Punct 60 Joint ∷ Punct 61 x ∷ us)) i ∙ step p
  where
    step : (p : k.Position) → f.back p (Punct 60 Joint ∷ Punct 61 Alone ∷ us) ≡ Some k.ExprCompare
    step k.Plain = refl
    step k.InCondition = refl
    step k.InArm = refl
    step k.InStatement = refl

pub right_back : (p : k.Position) (c d : ℕ) (s t : Spacing) (ts us : List Token) → ts ≡ Punct c s ∷ Punct d t ∷ us
    → s ≡ Joint → t ≡ Alone → c ≡ 62 → d ≡ 62 → f.back p ts ≡ Some k.ExprShift
unfolding f.back
right_back p c d s t ts us e h i m n =
    by_marks p c d 62 62 s t ts (Punct d t ∷ us) us e h refl m n
    ∙ ap (λ x. f.back p (Punct 62 Joint ∷ Punct 62 x ∷ us)) i ∙ step p
  where
    step : (p : k.Position) → f.back p (Punct 62 Joint ∷ Punct 62 Alone ∷ us) ≡ Some k.ExprShift
    step k.Plain = refl
    step k.InCondition = refl
    step k.InArm = refl
    step k.InStatement = refl

pub no_less_back : (p : k.Position) (c d : ℕ) (s t : Spacing) (ts us : List Token) → ts ≡ Punct c s ∷ Punct d t ∷ us
    → s ≡ Joint → t ≡ Alone → c ≡ 62 → d ≡ 61 → f.back p ts ≡ Some k.ExprCompare
unfolding f.back
no_less_back p c d s t ts us e h i m n =
    by_marks p c d 62 61 s t ts (Punct d t ∷ us) us e h refl m n
    ∙ ap (λ x. f.back p (Punct 62 Joint ∷ Punct 61 x ∷ us)) i ∙ step p
  where
    step : (p : k.Position) → f.back p (Punct 62 Joint ∷ Punct 61 Alone ∷ us) ≡ Some k.ExprCompare
    step k.Plain = refl
    step k.InCondition = refl
    step k.InArm = refl
    step k.InStatement = refl
