-- What was chosen has the shape of one of the alternatives.
use Rattle.std.proofs.Common.{inl, inr}
use Rattle.syn_grammar.specs.Tree.{Tree, AWord, ALiteral, AMark, ALifetime, Raw, Nil, Pair, First, Second, End, Again}
use Rattle.syn_grammar.specs.Tree.{Final, More, Group, Dropped, Called, Node, Whole}
use Rattle.syn_grammar.specs.Gram.{Gram, word, literal, mark, lifetime, raw, nothing, seq, alt, star, many, group}
use Rattle.syn_grammar.specs.Gram.{judged, dropped, called, ref, operand}
use Rattle.syn_grammar.specs.Part.{choice}
use Rattle.syn_part.specs.Shape.{IsShaped, IsAmong}

pub choice_is : (x : Tree) (g : Gram) → IsShaped x g → IsAmong (choice x) g
choice_is (First x) (alt t a b) h = inl (choice_is x a h)
choice_is (Second x) (alt t a b) h = inr (choice_is x b h)
choice_is x (judged v g) h = tt
choice_is (AWord cs) (word p) h = h
choice_is (ALiteral cs) (literal p) h = h
choice_is (AMark c cs spacing) (mark e es) h = h
choice_is (ALifetime cs) lifetime h = h
choice_is (Raw ts) raw h = h
choice_is Nil nothing h = h
choice_is (Pair x y) (seq a b) h = h
choice_is End (star t g) h = h
choice_is (Again x y) (star t g) h = h
choice_is End (many e c g) h = h
choice_is (Final x) (many e c g) h = h
choice_is (More x m spacing y) (many e c g) h = h
choice_is (Group d x) (group e g) h = h
choice_is (Dropped x) (dropped g) h = h
choice_is (Called n x) (called m g) h = h
choice_is (Node k x) (ref l) h = h
choice_is (Whole x) (operand p n) h = h
choice_is _ _ h = absurd h
