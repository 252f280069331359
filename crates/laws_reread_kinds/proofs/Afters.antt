-- What may follow a kind, of which most is said by looks alone.
use Rattle.std.specs.Prelude.{◌≡◌, Bool, true, false, List, [], ◌∷◌}
use Rattle.std.proofs.Common.{inl}
use Rattle.proc_macro2.specs.Token.{Token}
use Rattle.syn_grammar.specs.Kind.{Kind, AFieldValue, AStatement, AType, Arm, Expression, ImplGenerics, Plain}
use Rattle.syn_grammar.specs.Kind.{InArm, InCondition, InStatement, OneStatement, WithPlus}
use Rattle.syn_grammar.specs.Look.{maybe, sees, the_end}
use Rattle.syn_grammar.specs.Tree.{Tree, Node}
use Rattle.laws_reread_kinds.specs.After.{behind, After}
use Rattle.laws_reread_kinds.specs.Sees.{LacksAll}

-- it is the same of what a node holds
pub after_node : (k : Kind) (x : Tree) (s : List Token) → After k (Node k x) s → After k x s
after_node (Expression Plain) x s a = a
after_node (Expression InCondition) x s a = a
after_node (Expression InArm) x s a = a
after_node (Expression InStatement) x s a = a
after_node (AType WithPlus) x s a = a
after_node ImplGenerics x s a = a
after_node _ x s a = a

-- a look that sees nothing too sees all
no_such : (s : List Token) → sees (maybe the_end) s ≡ false → ⊥
no_such [] e = cc e
no_such (t ∷ ts) e = cc e

-- what the looks don't see may follow
pub suffices : (k : Kind) (x : Tree) (s : List Token) → LacksAll (behind k) s → After k x s
suffices (Expression Plain) x s a = inl a
suffices (Expression InCondition) x s a = a
suffices (Expression InArm) x s a = inl a
suffices (Expression InStatement) x s a = inl a
suffices AStatement x s a = inl a
suffices OneStatement x s a = inl a
suffices Arm x s a = absurd (no_such s a.0)
suffices AFieldValue x s a = inl a
suffices (AType WithPlus) x s a = inl a
suffices ImplGenerics x s a = inl a
suffices _ x s a = a

-- and of these kinds nothing else may
abbrev pub is_by_tokens : Kind → Bool
is_by_tokens (Expression Plain) = false
is_by_tokens (Expression InArm) = false
is_by_tokens (Expression InStatement) = false
is_by_tokens AStatement = false
is_by_tokens OneStatement = false
is_by_tokens Arm = false
is_by_tokens AFieldValue = false
is_by_tokens (AType WithPlus) = false
is_by_tokens ImplGenerics = false
is_by_tokens k = true

pub by_tokens : (k : Kind) (x : Tree) (s : List Token) → is_by_tokens k ≡ true → After k x s → LacksAll (behind k) s
by_tokens (Expression Plain) x s e a = cc
by_tokens (Expression InCondition) x s e a = a
by_tokens (Expression InArm) x s e a = cc
by_tokens (Expression InStatement) x s e a = cc
by_tokens AStatement x s e a = cc
by_tokens OneStatement x s e a = cc
by_tokens Arm x s e a = cc
by_tokens AFieldValue x s e a = cc
by_tokens (AType WithPlus) x s e a = cc
by_tokens ImplGenerics x s e a = cc
by_tokens _ x s e a = a
