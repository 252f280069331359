-- Forms of expressions, as a run reads them: a form's own part, and the operand behind it, if it has one there.
use Rattle.std.specs.Prelude.{◌≡◌, ℕ, Bool, true, false, List, Option, Some, None, Result, Ok, Err}
use Rattle.proc_macro2.specs.Token.{Token}
use Rattle.syn_grammar.specs.Kind.{Kind, Position}
use Rattle.syn_grammar.specs.Tree.{Tree, Alone, Front, Back, Infix}
use Rattle.syn_grammar.specs.Table.{table}
use Rattle.syn_grammar.specs.Forms.{back, chains, front, goes_on, has_right, level, inside}
use Rattle.reader_table.specs.Kinds.{kind_of}
use Rattle.reader_steps.specs.declared.next.Next.{Next}
use Rattle.reader_steps.specs.declared.next.Next.TheVariants as nexts
use Rattle.syn_grammar.specs.Run.{Call, Out, Refused, Got, ◌>>=◌, tower, interp}

-- the operand behind an own part, and what is made of both, or of the own part alone
abbrev pub right_of : (Call → List Token → Out) → (Tree → Tree) → (Tree → Tree → Tree) → Position → Kind → Tree
    → List Token → Bool → Out
right_of call alone both p k y us true = call (tower (inside p k) (level k)) us >>= λ x vs. Got (both y x) vs
right_of call alone both p k y us false = Got (alone y) us

-- an own part of the kind, and its operand
abbrev pub own_of : (Call → List Token → Out) → (Tree → Tree) → (Tree → Tree → Tree) → Position → Kind → List Token
    → Out
own_of call alone both p k ts =
    interp call (table k) ts >>= λ y us. right_of call alone both p k y us (has_right p k us)

-- the form that begins there
abbrev pub begun_at : (Call → List Token → Out) → Position → List Token → Option Kind → Out
begun_at call p ts None = Refused
begun_at call p ts (Some k) = own_of call (Alone k) (Front k) p k ts

abbrev pub begun : (Call → List Token → Out) → Position → List Token → Out
begun call p ts = begun_at call p ts (front p ts)

-- the form of a kind whose left operand has been read
abbrev pub extended : (Call → List Token → Out) → Position → Tree → Kind → List Token → Out
extended call p l k ts = own_of call (Back l k) (Infix l k) p k ts

-- what is made of what was read
abbrev pub made_of : (Tree → Tree) → (Tree → Tree → Tree) → Tree → Option Tree → Tree
made_of alone both y None = alone y
made_of alone both y (Some x) = both y x

-- what goes on from a left operand: nothing, what is not chained with it, or a form of the kind
abbrev pub IsNext : Next → Position → ℕ → Tree → List Token → Type 0
IsNext nexts.Nothing p n l ts = goes_on p n l ts ≡ false
IsNext nexts.Chained p n l ts = (k : Kind) × (back p ts ≡ Some k) × (goes_on p n l ts ≡ true) × (chains l k ≡ true)
IsNext (nexts.Form j) p n l ts =
    (back p ts ≡ Some (kind_of j)) × (goes_on p n l ts ≡ true) × (chains l (kind_of j) ≡ false)
