-- Alternatives and the form of one; a pattern in parentheses, and a tuple.
use Rattle.std.specs.Prelude.{◌≡◌, ◌≢◌, refl, true, false, List, [], ◌∷◌, length}
use Rattle.std.proofs.Common.{inl, inr, subst}
use Rattle.proc_macro2.specs.declared.delimiter.Delimiter.{Delimiter}
use Rattle.syn_grammar.specs.Gram as g
use Rattle.syn_grammar.specs.Kind as k
use Rattle.syn_grammar.specs.Part.{choice}
use Rattle.syn_grammar.specs.Patterns.{one_pattern}
use Rattle.syn_grammar.specs.Table.{table}
use Rattle.syn_grammar.specs.Tree as t
use Rattle.syn_grammar.specs.Tree.{Tree}
use Rattle.reader_tree.specs.Forms.{turns}
use Rattle.syn_pat.specs.Pat.{IsAPattern, alternatives, is_rest_form, is_rest_pattern, lone_rest}
use Rattle.syn_part.specs.Shape.{IsShaped, IsAmong}
use Rattle.syn_part.proofs.Chosen.{choice_is}

-- the form of one alternative is one of theirs
pub one_inside : (x y : Tree) → x ≡ t.Node k.OnePattern y → IsShaped x (g.ref k.OnePattern)
    → IsAmong (choice y) one_pattern
unfolding table
one_inside x y e h =
    let s : IsShaped (t.Node k.OnePattern y) (g.ref k.OnePattern) = subst (λ z. IsShaped z (g.ref k.OnePattern)) e h in
    choice_is y one_pattern s.1

-- behind a mark, or with others behind it, it is no single one
pub marked_alternatives : (m x y : Tree)
    → alternatives (t.First m) x y ≡ t.Node k.Pattern (t.Pair (t.First m) (t.Pair x y))
marked_alternatives m x y = refl

pub several_alternatives : (l x : Tree) (ys : List Tree) → length ys ≢ 0
    → alternatives l x (turns ys) ≡ t.Node k.Pattern (t.Pair l (t.Pair x (turns ys)))
several_alternatives l x [] d = absurd (d refl)
several_alternatives (t.Second t.Nil) x (y ∷ ys) d = refl
several_alternatives l x (y ∷ ys) d = refl

-- what is no lone pattern is a tuple, and so is .. alone
pub rest_listed : (l : Tree) → ((x : Tree) → l ≡ t.Final x → ⊥) → lone_rest l ≡ true
rest_listed (t.Final x) d = absurd (d x refl)
rest_listed l d = refl

pub rest_alone : (l x : Tree) → l ≡ t.Final x → is_rest_pattern x ≡ true → lone_rest l ≡ true
rest_alone l x e r = rw e r

-- the inside of a tuple is a pattern where it is alone
pub lone_pattern : (d : Delimiter) (l x : Tree) → l ≡ t.Final x
    → IsShaped (t.Node k.TuplePattern (t.Group d l)) (g.ref k.TuplePattern) → IsAPattern x
unfolding table
lone_pattern d l x e h =
    let s : IsShaped (t.Node k.TuplePattern (t.Group d (t.Final x))) (g.ref k.TuplePattern) =
    subst (λ z. IsShaped (t.Node k.TuplePattern (t.Group d z)) (g.ref k.TuplePattern)) e h in
    inl s.1.1

rest_among : (y : Tree) → IsAmong (t.Node k.RestPattern y) one_pattern
    → IsShaped (t.Node k.RestPattern y) (g.ref k.RestPattern)
rest_among y (inl (e, s)) = cc
rest_among y (inr (inl (e, s))) = cc
rest_among y (inr (inr (inl (e, s)))) = cc
rest_among y (inr (inr (inr (inl h)))) = h
rest_among y (inr (inr (inr (inr (inl (e, s)))))) = cc
rest_among y (inr (inr (inr (inr (inr (inl (e, s))))))) = cc
rest_among y (inr (inr (inr (inr (inr (inr (inl (e, s)))))))) = cc
rest_among y (inr (inr (inr (inr (inr (inr (inr (inl (e, s))))))))) = cc
rest_among y (inr (inr (inr (inr (inr (inr (inr (inr (e, s))))))))) = cc

-- a form that is not .. is another
pub not_rest : (x : Tree) → IsAmong x one_pattern → (IsShaped x (g.ref k.RestPattern) → ⊥) → is_rest_form x ≡ false
not_rest (t.Node k.RestPattern y) a f = absurd (f (rest_among y a))
not_rest _ a f = refl

pub ruleset several = (marked_alternatives, several_alternatives)

pub ruleset tuples = (rest_listed, rest_alone, lone_pattern)
