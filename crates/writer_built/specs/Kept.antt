-- An operand that is written, and a form's own part: their tokens, and the first of them.
use Rattle.std.specs.Prelude.{◌≡◌, List, map}
use Rattle.proc_macro2.specs.Token.{Token}
use Rattle.laws_binding.specs.Written.{Written}
use Rattle.writer_print.specs.Pieces.{piece_token}
use Rattle.writer_built.specs.Begins.{front3}
use Rattle.writer_built.specs.Heads.{head_tokens}
use Rattle.writer_built.specs.Facts.{facts_of}
use Rattle.writer_built.specs.Ropes.{rope_tokens}
use Rattle.writer_built.specs.declared.operand.Operand.{Operand}
use Rattle.writer_built.specs.declared.operand.Own as own

-- the tokens of an own part
abbrev pub own_tokens : own.Own → List Token
own_tokens o = map piece_token o.pieces.items

-- the first tokens of it that are kept are its first
abbrev pub HasOwnHead : own.Own → Type 0
HasOwnHead o = head_tokens o.head ≡ front3 (own_tokens o)

-- an operand, as the law of one who writes in one pass has it
abbrev pub kept_of : Operand → Written
kept_of o = facts_of (rope_tokens o.rope) o.facts

-- the first tokens of an operand that are kept are its first
abbrev pub HasHead : Operand → Type 0
HasHead o = head_tokens o.head ≡ front3 (rope_tokens o.rope)
