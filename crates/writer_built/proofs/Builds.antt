-- Each form, from what is written of its parts.
use Rattle.std.proofs.Common.{◌≡◌, ℕ, List, [], ◌∷◌, refl, sym, ap, ◌∙◌}
use Rattle.std.specs.Prelude.{zero, suc, Bool, not, ◌&&◌, Option, Some, None}
use Rattle.proc_macro2.specs.Token.{Token}
use Rattle.syn_grammar.specs.Kind.{Kind, Position, Plain}
use Rattle.syn_grammar.specs.Name.{the_label}
use Rattle.syn_grammar.specs.Part.{has}
use Rattle.rust_leaf.specs.declared.punct.Spacing.{Spacing}
use Rattle.syn_grammar.specs.Tree.{Tree, First, Alone, Front, Back, Infix, flat}
use Rattle.syn_grammar.specs.Forms.{is_block_like, is_brace_macro, inside}
use Rattle.syn_grammar.specs.Kept.{kept, held}
use Rattle.syn_grammar.specs.Normal.{normal, passed, stands_behind}
use Rattle.syn_grammar.specs.Parens.{takes_what_follows, begins_in, stands_in, follow}
use Rattle.laws_binding.specs.Written as w
use Rattle.laws_binding.specs.Written.{Written, wrote, write, paren_unless, may_left, may_right, front_of}
use Rattle.laws_binding.specs.Written.{infix_of}
use Rattle.laws_binding.proofs.OnePass.{written}
use Rattle.reader_tree.specs.declared.tree.Element.{Element}
use Rattle.reader_tree.specs.Forms.{mark_of, seconds, turns, elements, ending}
use Rattle.writer_rules.specs.Said.{said, own_said}
use Rattle.writer_read.specs.Formed.{IsFormed, HasFormed}
use Rattle.writer_read.proofs.Bare.{has_made}
use Rattle.writer_built.specs.Asked.{said_in}
use Rattle.writer_built.specs.Behind.{put_behind, first_own, last_behind}
use Rattle.writer_built.proofs.Fielded.{left_of, behind_written}
use Rattle.writer_built.proofs.Owns.{block_own, macro_own}

-- the tokens of an own part
said_is : (y : Tree) → said Plain y ≡ flat (normal (kept y))
unfolding said
said_is y = refl

-- What is given: `own` are the tokens of the own part, `m` is the form by its operands, and `o` that in its place.
pub alone_built : (p : Position) (k : Kind) (ts : List Token) (y : Tree) (o m : Written) (own : List Token)
    (b c t : Bool)
    → own ≡ said Plain y
    → ((z : Tree) → own ≡ flat z → b ≡ is_block_like (Alone k z) → c ≡ is_brace_macro (Alone k z)
    → m ≡ wrote (Alone k z))
    → b ≡ is_block_like (Alone k y) → c ≡ is_brace_macro (Alone k y) → t ≡ takes_what_follows p k ts
    → o ≡ paren_unless (not t) m → IsFormed Plain y → o ≡ write p ts (Alone k (kept y))
alone_built p k ts y o m own b c t d e f g h i formed =
    let z : Tree = normal (kept y) in
    i ∙ ap (λ v. paren_unless (not v) m) h
    ∙ ap (paren_unless (not (takes_what_follows p k ts)))
    (e z (d ∙ said_is y) (f ∙ block_own k y z) (g ∙ sym (macro_own k y formed)))

pub front_built : (p : Position) (k : Kind) (ts : List Token) (y x : Tree) (o m r : Written) (own : List Token)
    → own ≡ said Plain y → ((z : Tree) → own ≡ flat z → m ≡ front_of k z r)
    → ((z : Tree) → has the_label y ≡ has the_label z
    → r ≡ paren_unless (may_right p k z (write (inside p k) ts (kept x))) (write (inside p k) ts (kept x)))
    → o ≡ paren_unless (begins_in p k) m → o ≡ write p ts (Front k (kept y) (kept x))
front_built p k ts y x o m r own d e f h =
    let z : Tree = normal (kept y) in
    h ∙ ap (paren_unless (begins_in p k))
    (e z (d ∙ said_is y) ∙ ap (front_of k z) (f z (sym (has_made the_label Plain y))))

pub back_built : (p : Position) (k : Kind) (ts : List Token) (x y : Tree) (o m l : Written) (own : List Token)
    (b : Bool) (last : w.Last)
    → own ≡ own_said k y → last ≡ last_behind k y → m ≡ put_behind l k own last
    → l ≡ left_of p k (first_own k y) (kept x) → b ≡ (stands_in p k && not (takes_what_follows p k ts))
    → o ≡ paren_unless b m → IsFormed Plain y → o ≡ write p ts (kept (Back x k y))
back_built p k ts x y o m l own b last d e f g h i formed =
    i ∙ ap (λ v. paren_unless v m) h
    ∙ ap (paren_unless (stands_in p k && not (takes_what_follows p k ts)))
    (f ∙ ap (λ us. put_behind l k us last) d ∙ ap (put_behind l k (own_said k y)) e
    ∙ ap (λ v. put_behind v k (own_said k y) (last_behind k y)) g)
    ∙ sym (behind_written p ts k (kept x) y formed)

pub infix_built : (p : Position) (k : Kind) (ts : List Token) (x y u : Tree) (o l r : Written) (own : List Token)
    → own ≡ said Plain y → ((z : Tree) → own ≡ flat z → o ≡ infix_of l k z r)
    → ((z : Tree) → own ≡ flat z
    → l ≡ paren_unless (may_left p k z (write p (follow (flat z)) (kept x))) (write p (follow (flat z)) (kept x)))
    → ((z : Tree) → has the_label y ≡ has the_label z
    → r ≡ paren_unless (may_right p k z (write (inside p k) ts (kept u))) (write (inside p k) ts (kept u)))
    → o ≡ write p ts (Infix (kept x) k (kept y) (kept u))
infix_built p k ts x y u o l r own d e f g =
    let z : Tree = normal (kept y) in
    let is : own ≡ flat z = d ∙ said_is y in
    e z is ∙ ap (λ v. infix_of v k z r) (f z is)
    ∙ ap (infix_of (paren_unless (may_left p k z (write p (follow (flat z)) (kept x)))
    (write p (follow (flat z)) (kept x))) k z) (g z (sym (has_made the_label Plain y)))

-- an operand in its place: what stays is said of the operand itself
pub right_built : (p : Position) (k : Kind) (z : Tree) (o m v : Written) (b : Bool) → b ≡ may_right p k z m → m ≡ v
    → o ≡ paren_unless b m → o ≡ paren_unless (may_right p k z v) v
right_built p k z o m v b e f g =
    g ∙ ap (λ c. paren_unless c m) e ∙ ap (λ n. paren_unless (may_right p k z n) n) f

pub left_built : (p : Position) (k : Kind) (z : Tree) (o m v : Written) (b : Bool) → b ≡ may_left p k z m → m ≡ v
    → o ≡ paren_unless b m → o ≡ paren_unless (may_left p k z v) v
left_built p k z o m v b e f g =
    g ∙ ap (λ c. paren_unless c m) e ∙ ap (λ n. paren_unless (may_left p k z n) n) f

-- what a whole expression is written as
pub whole_said : (p : Position) (x : Tree) (o : Written) → o ≡ write p (stands_behind p) (kept x)
    → o.tokens ≡ said_in p x
unfolding said held passed
whole_said p x o e = ap (λ (w : Written). w.tokens) (e ∙ written (kept x) p (stands_behind p))

-- what is no form
pub unformed_first : (n : ℕ) (x : Tree) → HasFormed (seconds n (First x)) → ⊥
unformed_first zero x h = h
unformed_first (suc n) x h = h

pub unformed_mark : (cs : List ℕ) (spacing : Spacing) → HasFormed (mark_of cs spacing) → ⊥
unformed_mark [] spacing h = h
unformed_mark (c ∷ cs) spacing h = h

pub unformed_turns : (xs : List Tree) → HasFormed (turns xs) → ⊥
unformed_turns [] h = h
unformed_turns (x ∷ xs) h = h

pub unformed_elements : {A : Type 0} (c : ℕ) (es : List Element) (f : A → Tree) (o : Option A)
    → HasFormed (elements c es (ending f o)) → ⊥
unformed_elements c [] f None h = h
unformed_elements c [] f (Some y) h = h
unformed_elements c (e ∷ es) f o h = h

pub ruleset unformed = (unformed_first, unformed_mark, unformed_turns, unformed_elements)
