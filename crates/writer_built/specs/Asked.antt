-- What is written of an expression that was built by hand.
use Rattle.std.specs.Prelude.{◌≡◌, List}
use Rattle.proc_macro2.specs.Token.{Token}
use Rattle.syn_grammar.specs.Kind.{Position, Expression}
use Rattle.syn_grammar.specs.Tree.{Tree, Node, Whole}
use Rattle.syn_grammar.specs.Kept.{kept}
use Rattle.laws_binding.specs.Written.{write}
use Rattle.writer_rules.specs.Said.{said}
use Rattle.writer_read.specs.Formed.{HasFormed}
use Rattle.writer_built.specs.Begins.{front3}
use Rattle.writer_built.specs.Heads.{head_tokens}
use Rattle.writer_built.specs.Kept.{kept_of}
use Rattle.writer_built.specs.declared.head.Head.{Head}
use Rattle.writer_built.specs.declared.operand.Operand.{Operand}

-- the tokens of the normal form of an expression, in a position
abbrev pub said_in : Position → Tree → List Token
said_in p x = said p (Node (Expression p) (Whole x))

-- An operand is a form in a position, before what begins so.
abbrev pub IsWritten : Position → Head → Tree → Operand → Type 0
IsWritten p h x o =
    (ts : List Token) → head_tokens h ≡ front3 ts → HasFormed x → kept_of o ≡ write p ts (kept x)
