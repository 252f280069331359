-- The parts of a sequence, and the alternatives of a choice.
use Rattle.std.specs.Prelude.{ℕ, zero, suc, Bool, true, false, not}
use Rattle.syn_grammar.specs.Gram.{Gram, seq, alt, judged}
use Rattle.syn_grammar.specs.Tree.{Tree, First, Second}

-- it has at least so many parts and one more
abbrev pub is_seq : ℕ → Gram → Bool
is_seq zero a = true
is_seq (suc n) (seq a b) = is_seq n b
is_seq (suc n) _ = false

-- an entry that is a choice, or is judged: what is kept stands in the tree as the first of a choice
abbrev pub may_choose : Gram → Bool
may_choose (alt t a b) = true
may_choose (judged v g) = true
may_choose _ = false

-- it has so many alternatives and one more, of which the last is no choice again
abbrev pub is_choice : ℕ → Gram → Bool
is_choice zero a = not (may_choose a)
is_choice (suc n) (alt t a b) = is_choice n b
is_choice (suc n) _ = false

-- of so many alternatives and one more, that one was chosen: each but the last is a first behind others
abbrev pub among : ℕ → ℕ → Tree → Tree
among zero n x = x
among (suc m) zero x = First x
among (suc m) (suc n) x = Second (among m n x)
