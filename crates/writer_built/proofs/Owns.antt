-- Own parts in normal form: what is seen in them is seen in what was read.
use Rattle.std.proofs.Common.{◌≡◌, refl}
use Rattle.std.specs.Prelude.{Bool}
use Rattle.syn_grammar.specs.Kind.{Kind, Plain, AMacro, Delimited, ExprIf, ExprMacro}
use Rattle.syn_grammar.specs.Tree.{Tree, Pair, First, Second, Node, Alone, Back}
use Rattle.syn_grammar.specs.Kept.{kept, held}
use Rattle.syn_grammar.specs.Normal.{normal, passed}
use Rattle.syn_grammar.specs.Forms.{is_block_like, is_brace_macro}
use Rattle.writer_read.specs.Formed.{IsFormed}

pub block_own : (k : Kind) (y z : Tree) → is_block_like (Alone k y) ≡ is_block_like (Alone k z)
block_own ExprIf y z = refl
block_own _ y z = refl

-- a macro's call
abbrev called : Tree → Bool
called y = is_brace_macro (Alone ExprMacro y)

abbrev call_of : Tree → Tree → Tree → Tree
call_of p s g = Node AMacro (Pair p (Pair s g))

second_own : (p q s t x : Tree) → IsFormed Plain x
    → called (call_of p s (Node Delimited (Second (normal (kept x)))))
    ≡ called (call_of q t (Node Delimited (Second x)))
second_own p q s t (Back l k y) h = elim h [ ]
second_own p q s t (First x) h = refl
second_own p q s t _ h = refl

group_own : (p q s t x : Tree) → IsFormed Plain x → called (call_of p s (Node Delimited (normal (kept x))))
    ≡ called (call_of q t (Node Delimited x))
group_own p q s t (Back l k y) h = elim h [ ]
group_own p q s t (Second x) h = second_own p q s t x h
group_own p q s t _ h = refl

delimited_own : (p q s t x : Tree) → IsFormed Plain x → called (call_of p s (normal (kept x)))
    ≡ called (call_of q t x)
unfolding held passed
delimited_own p q s t (Back l k y) h = elim h [ ]
delimited_own p q s t (Node Delimited x) h = group_own p q s t x h
delimited_own p q s t (Node _ x) h = refl
delimited_own p q s t _ h = refl

behind_own : (p q x : Tree) → IsFormed Plain x → called (Node AMacro (Pair p (normal (kept x))))
    ≡ called (Node AMacro (Pair q x))
behind_own p q (Back l k y) h = elim h [ ]
behind_own p q (Pair s x) h = delimited_own p q (normal (kept s)) s x h.1
behind_own p q _ h = refl

inside_own : (x : Tree) → IsFormed Plain x → called (Node AMacro (normal (kept x))) ≡ called (Node AMacro x)
inside_own (Back l k y) h = elim h [ ]
inside_own (Pair p x) h = behind_own (normal (kept p)) p x h.1
inside_own _ h = refl

call_own : (x : Tree) → IsFormed Plain x → called (normal (kept x)) ≡ called x
unfolding held passed
call_own (Back l k y) h = elim h [ ]
call_own (Node AMacro x) h = inside_own x h
call_own (Node _ x) h = refl
call_own _ h = refl

pub macro_own : (k : Kind) (y : Tree) → IsFormed Plain y → is_brace_macro (Alone k (normal (kept y)))
    ≡ is_brace_macro (Alone k y)
macro_own ExprMacro y h = call_own y h
macro_own _ y h = refl
