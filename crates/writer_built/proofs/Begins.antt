-- What the looks of the written grammar see is seen at the first three tokens.
use Rattle.std.proofs.Common.{◌≡◌, ℕ, List, [], ◌∷◌, refl, sym, ap, ◌∙◌}
use Rattle.std.specs.Prelude.{Bool, true, false, not, cond, ◌&&◌, ◌||◌, ◌==◌, Option, Some, None, codes}
use Rattle.proc_macro2.specs.Token.{Token, Opens, Ident, Literal, Punct}
use Rattle.proc_macro2.specs.declared.delimiter.Delimiter.TheVariants.{Brace}
use Rattle.proc_macro2.specs.Groups.{same_delimiter}
use Rattle.rust_leaf.specs.declared.punct.Spacing.TheVariants.{Alone as Apart, Joint}
use Rattle.syn_grammar.specs.Words.{any_text}
use Rattle.rust_leaf.specs.Keywords.{same_text}
use Rattle.syn_grammar.specs.Kind.{Kind, Position, Plain, InCondition, InArm, InStatement, ExprBreak, ExprReturn}
use Rattle.syn_grammar.specs.Kind.{ExprYield, ExprRange, ExprPath}
use Rattle.syn_grammar.specs.Name.{the_label}
use Rattle.syn_grammar.specs.Part.{has}
use Rattle.syn_grammar.specs.Tree.{Tree}
use Rattle.syn_grammar.specs.Look.{Look, seen, sees, behind, first_seen, ◌then◌, ◌or◌, no, a_word, a_quoted, a_lifetime}
use Rattle.syn_grammar.specs.Look.{any_mark, opening, the_mark, the_end}
use Rattle.syn_grammar.specs.Say.{at, marks, brace}
use Rattle.syn_grammar.specs.Forms.{operand_stands, brace_ends, range_ends, range_is_open, has_right, struct_stands}
use Rattle.syn_grammar.specs.Parens.{may_lack, takes_what_follows, is_label, follow}
use Rattle.writer_built.specs.Begins.{front3, one_mark, two_marks, three_marks, lone_mark}
use Rattle.writer_built.specs.Begins.{is_end, begins_as, begins_word, begins_group, begins_brace, begins_literal}
use Rattle.writer_built.specs.Begins.{begins_lifetime, begins_prefix, begins_other, begins_operand, ends_by_mark}
use Rattle.writer_built.specs.Begins.{ends_by_two, ends_range, brace_in, brace_out, takes_next, is_label_next}
use Rattle.writer_built.specs.Begins.{is_taken_next}

-- a look that sees what a test says
record Tells (l : Look) (b : List Token → Bool) : Type 0 where
  is : (ts : List Token) → seen (l ts) ≡ b ts

-- a look for a mark
record TellsMark (text : List ℕ) (b : List Token → Bool) : Type 0 where
  is : (ts : List Token) → seen (the_mark text ts) ≡ b ts

sees_is : {l : Look} {b : List Token → Bool} → Tells l b → (ts : List Token) → seen (l ts) ≡ b ts
sees_is s ts = s.is ts

seen_if : (b : Bool) (ts : List Token) → seen (cond b (Some ts) None) ≡ b
seen_if true ts = refl
seen_if false ts = refl

seen_and : (b : Bool) (o : Option (List Token)) → seen (cond b o None) ≡ (b && seen o)
seen_and true o = refl
seen_and false o = refl

seen_or : (x y : Option (List Token)) → seen (first_seen x y) ≡ (seen x || seen y)
seen_or None y = refl
seen_or (Some ts) y = refl

or_sees : {l m : Look} {b d : List Token → Bool} → Tells l b → Tells m d → Tells (l or m) (λ ts. b ts || d ts)
or_sees {l = l} {m = m} {b = b} {d = d} x y = record {
  is = λ ts. seen_or (l ts) (m ts) ∙ ap (λ v. v || seen (m ts)) (x.is ts) ∙ ap (λ v. b ts || v) (y.is ts);
}

behind_no : (o : Option (List Token)) (m : Look) (ts : List Token)
    → seen (behind (cond (seen o) None (Some ts)) m) ≡ (not (seen o) && seen (m ts))
behind_no None m ts = refl
behind_no (Some us) m ts = refl

no_sees : {l m : Look} {b d : List Token → Bool} → Tells l b → Tells m d
    → Tells (no l then m) (λ ts. not (b ts) && d ts)
no_sees {l = l} {m = m} {b = b} {d = d} x y = record {
  is = λ ts. behind_no (l ts) m ts ∙ ap (λ v. not v && seen (m ts)) (x.is ts) ∙ ap (λ v. not (b ts) && v) (y.is ts);
}

-- marks
and_false : (b : Bool) → (b && false) ≡ false
and_false true = refl
and_false false = refl

one_is : (c : ℕ) (ts : List Token) → seen (the_mark (c ∷ []) ts) ≡ one_mark c ts
one_is c [] = refl
one_is c (Punct d spacing ∷ ts) = seen_if (d == c) ts
one_is c (t ∷ ts) = refl

two_is : (c d : ℕ) (ts : List Token) → seen (the_mark (c ∷ d ∷ []) ts) ≡ two_marks c d ts
two_is c d [] = refl
two_is c d (Punct e Joint ∷ []) = seen_and (e == c) None ∙ and_false (e == c)
two_is c d (Punct e Joint ∷ u ∷ us) =
    seen_and (e == c) (the_mark (d ∷ []) (u ∷ us)) ∙ ap (λ v. (e == c) && v) (one_is d (u ∷ us))
two_is c d (Punct e Apart ∷ []) = refl
two_is c d (Punct e Apart ∷ u ∷ us) = refl
two_is c d (t ∷ []) = refl
two_is c d (t ∷ u ∷ us) = refl

three_is : (c d e : ℕ) (ts : List Token) → seen (the_mark (c ∷ d ∷ e ∷ []) ts) ≡ three_marks c d e ts
three_is c d e [] = refl
three_is c d e (Punct f Joint ∷ []) = seen_and (f == c) None ∙ and_false (f == c)
three_is c d e (Punct f Joint ∷ u ∷ []) =
    seen_and (f == c) (the_mark (d ∷ e ∷ []) (u ∷ [])) ∙ ap (λ v. (f == c) && v) (two_is d e (u ∷ []))
    ∙ and_false (f == c)
three_is c d e (Punct f Joint ∷ u ∷ v ∷ vs) =
    seen_and (f == c) (the_mark (d ∷ e ∷ []) (u ∷ v ∷ vs)) ∙ ap (λ b. (f == c) && b) (two_is d e (u ∷ v ∷ vs))
three_is c d e (Punct f Apart ∷ []) = refl
three_is c d e (Punct f Apart ∷ u ∷ []) = refl
three_is c d e (Punct f Apart ∷ u ∷ v ∷ vs) = refl
three_is c d e (t ∷ []) = refl
three_is c d e (t ∷ u ∷ []) = refl
three_is c d e (t ∷ u ∷ v ∷ vs) = refl

one : (c : ℕ) → Tells (the_mark (c ∷ [])) (one_mark c)
one c = record { is = one_is c }

two : (c d : ℕ) → Tells (the_mark (c ∷ d ∷ [])) (two_marks c d)
two c d = record { is = two_is c d }

three : (c d e : ℕ) → Tells (the_mark (c ∷ d ∷ e ∷ [])) (three_marks c d e)
three c d e = record { is = three_is c d e }

lone : (c d : ℕ) → Tells (no (the_mark (c ∷ d ∷ [])) then the_mark (c ∷ [])) (lone_mark c d)
lone c d = no_sees (two c d) (one c)

-- words, groups, literals and lifetimes
as_is : (ts : List Token) → seen (at "as" ts) ≡ begins_as ts
as_is [] = refl
as_is (Ident cs ∷ ts) = seen_if (same_text (codes "as") cs) ts
as_is (t ∷ ts) = refl

word_is : (ts : List Token) → seen ((no (at "as") then a_word any_text) ts) ≡ begins_word ts
word_is [] = refl
word_is (Ident cs ∷ ts) = go (same_text (codes "as") cs)
  where
    go : (b : Bool) → seen (behind (cond (seen (cond b (Some ts) None)) None (Some (Ident cs ∷ ts))) (a_word any_text))
        ≡ not b
    go true = refl
    go false = refl
word_is (t ∷ ts) = refl

group_is : (ts : List Token) → seen (opening ts) ≡ begins_group ts
group_is [] = refl
group_is (Opens d ∷ ts) = refl
group_is (t ∷ ts) = refl

brace_is : (ts : List Token) → seen (brace ts) ≡ begins_brace ts
brace_is [] = refl
brace_is (Opens d ∷ ts) = seen_if (same_delimiter d Brace) ts
brace_is (t ∷ ts) = refl

literal_is : (ts : List Token) → seen (a_quoted any_text ts) ≡ begins_literal ts
literal_is [] = refl
literal_is (Literal cs ∷ ts) = refl
literal_is (t ∷ ts) = refl

lifetime_is : (ts : List Token) → seen (a_lifetime ts) ≡ begins_lifetime ts
lifetime_is [] = refl
lifetime_is (Punct c Joint ∷ []) = refl
lifetime_is (Punct c Joint ∷ Ident cs ∷ ts) = seen_if (c == 39) ts ∙ sym (and_true (c == 39))
  where
    and_true : (b : Bool) → (b && true) ≡ b
    and_true true = refl
    and_true false = refl
lifetime_is (Punct c Joint ∷ u ∷ ts) = sym (and_false (c == 39))
lifetime_is (Punct c Apart ∷ []) = refl
lifetime_is (Punct c Apart ∷ u ∷ ts) = refl
lifetime_is (t ∷ []) = refl
lifetime_is (t ∷ u ∷ ts) = refl

end_is : (ts : List Token) → seen (the_end ts) ≡ is_end ts
end_is [] = refl
end_is (t ∷ ts) = refl

-- an operand begins there
others : Tells (marks ".." or (no (marks "<=" or marks "<<=") then marks "<") or marks "::" or marks "#") begins_other
others =
    or_sees (two 46 46) (or_sees (no_sees (or_sees (two 60 61) (three 60 60 61)) (one 60))
    (or_sees (two 58 58) (one 35)))

prefixes : Tells ((no (marks "!=") then marks "!") or (no (marks "-=" or marks "->") then marks "-")
    or (no (marks "*=") then marks "*") or (no (marks "|=") then marks "|") or (no (marks "&=") then marks "&")
    or marks ".." or (no (marks "<=" or marks "<<=") then marks "<") or marks "::" or marks "#")
    begins_prefix
prefixes =
    or_sees (lone 33 61) (or_sees (no_sees (or_sees (two 45 61) (two 45 62)) (one 45))
    (or_sees (lone 42 61) (or_sees (lone 124 61) (or_sees (lone 38 61) others))))

words : Tells (no (at "as") then a_word any_text) begins_word
words = record { is = word_is }

groups : Tells opening begins_group
groups = record { is = group_is }

literals : Tells (a_quoted any_text) begins_literal
literals = record { is = literal_is }

lifetimes : Tells a_lifetime begins_lifetime
lifetimes = record { is = lifetime_is }

operands : Tells operand_stands begins_operand
operands = or_sees words (or_sees groups (or_sees literals (or_sees lifetimes prefixes)))

-- a range is open there
or_false : (b : Bool) → (b || false) ≡ b
or_false true = refl
or_false false = refl

-- a look for one of some marks
record TellsAny (texts : List (List ℕ)) (b : List Token → Bool) : Type 0 where
  is : (ts : List Token) → seen (any_mark texts ts) ≡ b ts

last : {text : List ℕ} {b : List Token → Bool} → TellsMark text b → TellsAny (text ∷ []) b
last {text = text} {b = b} x = record {
  is = λ ts. seen_or (the_mark text ts) None ∙ or_false (seen (the_mark text ts)) ∙ x.is ts;
}

more : {text : List ℕ} {texts : List (List ℕ)} {b d : List Token → Bool} → TellsMark text b
    → TellsAny texts d → TellsAny (text ∷ texts) (λ ts. b ts || d ts)
more {text = text} {texts = texts} {b = b} {d = d} x y = record {
  is = λ ts. seen_or (the_mark text ts) (any_mark texts ts) ∙ ap (λ v. v || seen (any_mark texts ts)) (x.is ts)
      ∙ ap (λ v. b ts || v) (y.is ts);
}

m1 : (c : ℕ) → TellsMark (c ∷ []) (one_mark c)
m1 c = record { is = one_is c }

m2 : (c d : ℕ) → TellsMark (c ∷ d ∷ []) (two_marks c d)
m2 c d = record { is = two_is c d }

m3 : (c d e : ℕ) → TellsMark (c ∷ d ∷ e ∷ []) (three_marks c d e)
m3 c d e = record { is = three_is c d e }

by_two : TellsAny (codes "<=" ∷ codes "!=" ∷ codes "-=" ∷ codes "*=" ∷ codes "&=" ∷ codes "|=" ∷ codes "<<=" ∷ [])
    ends_by_two
by_two =
    more (m2 60 61) (more (m2 33 61) (more (m2 45 61) (more (m2 42 61) (more (m2 38 61) (more (m2 124 61)
    (last (m3 60 60 61)))))))

by_any : TellsAny (codes "," ∷ codes ";" ∷ codes "?" ∷ codes "=" ∷ codes "+" ∷ codes "/" ∷ codes "%" ∷ codes "^"
    ∷ codes ">" ∷ codes "<=" ∷ codes "!=" ∷ codes "-=" ∷ codes "*=" ∷ codes "&=" ∷ codes "|=" ∷ codes "<<=" ∷ [])
    ends_by_mark
by_any =
    more (m1 44) (more (m1 59) (more (m1 63) (more (m1 61) (more (m1 43) (more (m1 47) (more (m1 37) (more (m1 94)
    (more (m1 62) by_two))))))))

by_mark : Tells (any_mark (codes "," ∷ codes ";" ∷ codes "?" ∷ codes "=" ∷ codes "+" ∷ codes "/" ∷ codes "%" ∷ codes "^"
    ∷ codes ">" ∷ codes "<=" ∷ codes "!=" ∷ codes "-=" ∷ codes "*=" ∷ codes "&=" ∷ codes "|=" ∷ codes "<<=" ∷ []))
    ends_by_mark
by_mark = record { is = by_any.is }

ends : Tells the_end is_end
ends = record { is = end_is }

ases : Tells (at "as") begins_as
ases = record { is = as_is }

ranges : Tells range_ends ends_range
ranges = or_sees ends (or_sees by_mark (or_sees ases (lone 46 46)))

-- with the brace of a condition
breaks : (p : Position) (ts : List Token) → seen ((no (brace_ends p) then operand_stands) ts)
    ≡ (not (brace_in p ts) && begins_operand ts)
breaks InCondition ts =
    behind_no (brace ts) operand_stands ts ∙ ap (λ v. not v && seen (operand_stands ts)) (brace_is ts)
    ∙ ap (λ v. not (begins_brace ts) && v) (sees_is operands ts)
breaks Plain ts = sees_is operands ts
breaks InArm ts = sees_is operands ts
breaks InStatement ts = sees_is operands ts

in_condition : (p : Position) (ts : List Token) → seen (brace_ends p ts) ≡ brace_in p ts
in_condition InCondition ts = brace_is ts
in_condition Plain ts = refl
in_condition InArm ts = refl
in_condition InStatement ts = refl

opens_range : (p : Position) (ts : List Token) → seen (range_is_open p ts) ≡ (ends_range ts || brace_in p ts)
opens_range p ts =
    seen_or (range_ends ts) (brace_ends p ts) ∙ ap (λ v. v || seen (brace_ends p ts)) (sees_is ranges ts)
    ∙ ap (λ v. ends_range ts || v) (in_condition p ts)

structs : (p : Position) (ts : List Token) → sees (struct_stands p) ts ≡ brace_out p ts
structs InCondition ts = refl
structs Plain ts = brace_is ts
structs InArm ts = brace_is ts
structs InStatement ts = brace_is ts

-- what follows is taken
takes_is : (p : Position) (k : Kind) (ts : List Token) → takes_what_follows p k ts ≡ takes_next p k ts
unfolding has_right may_lack
takes_is p ExprBreak ts = or_false (has_right p ExprBreak ts) ∙ breaks p ts
takes_is p ExprReturn ts = or_false (has_right p ExprReturn ts) ∙ sees_is operands ts
takes_is p ExprYield ts = or_false (has_right p ExprYield ts) ∙ sees_is operands ts
takes_is p ExprRange ts = or_false (has_right p ExprRange ts) ∙ ap not (opens_range p ts)
takes_is p ExprPath ts = structs p ts
takes_is p _ ts = refl

label_is : (k : Kind) (y : Tree) (ts : List Token) → is_label k y ts ≡ is_label_next k (has the_label y) ts
label_is ExprBreak y ts =
    ap (λ v. cond (has the_label y) v (sees a_lifetime ts)) (one_is 58 ts)
    ∙ ap (λ v. cond (has the_label y) (one_mark 58 ts) v) (lifetime_is ts)
label_is _ y ts = refl

taken_is : (p : Position) (k : Kind) (y : Tree) (ts : List Token)
    → (not (may_lack k) || (has_right p k ts && not (is_label k y ts))) ≡ is_taken_next p k (has the_label y) ts
unfolding has_right may_lack
taken_is p ExprBreak y ts =
    ap (λ v. v && not (is_label ExprBreak y ts)) (breaks p ts)
    ∙ ap (λ v. takes_next p ExprBreak ts && not v) (label_is ExprBreak y ts)
taken_is p ExprReturn y ts = ap (λ v. v && true) (sees_is operands ts)
taken_is p ExprYield y ts = ap (λ v. v && true) (sees_is operands ts)
taken_is p ExprRange y ts = ap (λ v. not v && true) (opens_range p ts)
taken_is p _ y ts = refl

-- three tokens say it
brace_three : (a b c : Token) (ts : List Token) → begins_brace (a ∷ b ∷ c ∷ []) ≡ begins_brace (a ∷ b ∷ c ∷ ts)
brace_three (Opens d) b c ts = refl
brace_three _ b c ts = refl

operand_three : (a b c : Token) (ts : List Token) → begins_operand (a ∷ b ∷ c ∷ []) ≡ begins_operand (a ∷ b ∷ c ∷ ts)
operand_three (Ident cs) b c ts = refl
operand_three _ b c ts = refl

range_three : (a b c : Token) (ts : List Token) → ends_range (a ∷ b ∷ c ∷ []) ≡ ends_range (a ∷ b ∷ c ∷ ts)
range_three (Ident cs) b c ts = refl
range_three _ b c ts = refl

in_three : (p : Position) (a b c : Token) (ts : List Token) → brace_in p (a ∷ b ∷ c ∷ []) ≡ brace_in p (a ∷ b ∷ c ∷ ts)
in_three InCondition a b c ts = brace_three a b c ts
in_three _ a b c ts = refl

out_three : (p : Position) (a b c : Token) (ts : List Token)
    → brace_out p (a ∷ b ∷ c ∷ []) ≡ brace_out p (a ∷ b ∷ c ∷ ts)
out_three InCondition a b c ts = refl
out_three Plain a b c ts = brace_three a b c ts
out_three InArm a b c ts = brace_three a b c ts
out_three InStatement a b c ts = brace_three a b c ts

takes_three : (p : Position) (k : Kind) (a b c : Token) (ts : List Token)
    → takes_next p k (a ∷ b ∷ c ∷ []) ≡ takes_next p k (a ∷ b ∷ c ∷ ts)
takes_three p ExprBreak a b c ts =
    ap (λ v. not v && begins_operand (a ∷ b ∷ c ∷ [])) (in_three p a b c ts)
    ∙ ap (λ v. not (brace_in p (a ∷ b ∷ c ∷ ts)) && v) (operand_three a b c ts)
takes_three p ExprReturn a b c ts = operand_three a b c ts
takes_three p ExprYield a b c ts = operand_three a b c ts
takes_three p ExprRange a b c ts =
    ap (λ v. not (v || brace_in p (a ∷ b ∷ c ∷ []))) (range_three a b c ts)
    ∙ ap (λ v. not (ends_range (a ∷ b ∷ c ∷ ts) || v)) (in_three p a b c ts)
takes_three p ExprPath a b c ts = out_three p a b c ts
takes_three p _ a b c ts = refl

takes_front : (p : Position) (k : Kind) (ts : List Token) → takes_next p k (front3 ts) ≡ takes_next p k ts
takes_front p k [] = refl
takes_front p k (a ∷ []) = refl
takes_front p k (a ∷ b ∷ []) = refl
takes_front p k (a ∷ b ∷ c ∷ ts) = takes_three p k a b c ts

-- an operand that is taken is no label
taken_three : (p : Position) (k : Kind) (l : Bool) (a b c : Token) (ts : List Token)
    → is_taken_next p k l (a ∷ b ∷ c ∷ []) ≡ is_taken_next p k l (a ∷ b ∷ c ∷ ts)
taken_three p ExprBreak l a b c ts =
    ap (λ v. v && not (is_label_next ExprBreak l (a ∷ b ∷ c ∷ []))) (takes_three p ExprBreak a b c ts)
taken_three p ExprReturn l a b c ts = ap (λ v. v && true) (takes_three p ExprReturn a b c ts)
taken_three p ExprYield l a b c ts = ap (λ v. v && true) (takes_three p ExprYield a b c ts)
taken_three p ExprRange l a b c ts = ap (λ v. v && true) (takes_three p ExprRange a b c ts)
taken_three p _ l a b c ts = refl

taken_front : (p : Position) (k : Kind) (l : Bool) (ts : List Token) → is_taken_next p k l (front3 ts)
    ≡ is_taken_next p k l ts
taken_front p k l [] = refl
taken_front p k l (a ∷ []) = refl
taken_front p k l (a ∷ b ∷ []) = refl
taken_front p k l (a ∷ b ∷ c ∷ ts) = taken_three p k l a b c ts

lone_front : (c d : ℕ) (ts : List Token) → lone_mark c d (front3 ts) ≡ lone_mark c d ts
lone_front c d [] = refl
lone_front c d (a ∷ []) = refl
lone_front c d (a ∷ b ∷ []) = refl
lone_front c d (a ∷ b ∷ e ∷ ts) = refl

brace_front : (ts : List Token) → begins_brace (front3 ts) ≡ begins_brace ts
brace_front [] = refl
brace_front (a ∷ []) = refl
brace_front (a ∷ b ∷ []) = refl
brace_front (a ∷ b ∷ c ∷ ts) = brace_three a b c ts

pub takes_so : (p : Position) (k : Kind) (hs ts : List Token) → hs ≡ front3 ts → takes_next p k hs
    ≡ takes_what_follows p k ts
takes_so p k hs ts e = ap (takes_next p k) e ∙ takes_front p k ts ∙ sym (takes_is p k ts)

pub taken_so : (p : Position) (k : Kind) (l : Bool) (y : Tree) (hs ts : List Token) → l ≡ has the_label y
    → hs ≡ front3 ts → is_taken_next p k l hs
    ≡ (not (may_lack k) || (has_right p k ts && not (is_label k y ts)))
taken_so p k l y hs ts f e =
    ap (λ b. is_taken_next p k b hs) f ∙ ap (is_taken_next p k (has the_label y)) e
    ∙ taken_front p k (has the_label y) ts ∙ sym (taken_is p k y ts)

pub lesser_so : (hs ts : List Token) → hs ≡ front3 ts → lone_mark 60 61 hs
    ≡ sees (no (marks "<=") then marks "<") ts
lesser_so hs ts e = ap (lone_mark 60 61) e ∙ lone_front 60 61 ts ∙ sym (sees_is (lone 60 61) ts)

-- what follows, but for a struct's braces
follow_is : (ts : List Token) → cond (begins_brace ts) [] (front3 ts) ≡ front3 (follow ts)
follow_is ts = go (begins_brace ts) (brace_is ts)
  where
    go : (b : Bool) → sees brace ts ≡ b → cond b [] (front3 ts) ≡ front3 (follow ts)
    go true e = sym (ap (λ b. front3 (cond b [] ts)) e)
    go false e = sym (ap (λ b. front3 (cond b [] ts)) e)

pub follow_brace : (hs ts : List Token) → hs ≡ front3 ts → begins_brace hs ≡ true → [] ≡ front3 (follow ts)
follow_brace hs ts e h =
    sym (ap (λ b. cond b [] (front3 ts)) (sym (brace_front ts) ∙ ap begins_brace (sym e) ∙ h)) ∙ follow_is ts

pub follow_none : (hs ts : List Token) → hs ≡ front3 ts → begins_brace hs ≡ false → hs ≡ front3 (follow ts)
follow_none hs ts e h =
    e ∙ sym (ap (λ b. cond b [] (front3 ts)) (sym (brace_front ts) ∙ ap begins_brace (sym e) ∙ h)) ∙ follow_is ts

pub ruleset follow_so = (follow_brace, follow_none)
