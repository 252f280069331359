-- What a reader of the code answers, beside a run of the grammar.
use Rattle.std.specs.Prelude.{◌≡◌, List, Result, Ok, Err, map}
use Rattle.proc_macro2.specs.Token.{Token}
use Rattle.syn_buffer.specs.Entries.{entry_token}
use Rattle.syn_buffer.specs.declared.entry.Entry.{Entry}
use Rattle.syn_grammar.specs.Tree.{Tree}
use Rattle.syn_grammar.specs.Run.{Out, Late, Refused, Got}
use Rattle.reader_steps.specs.declared.refusal.Refusal.{Refusal}
use Rattle.reader_steps.specs.declared.refusal.Refusal.TheVariants as refusals

-- the tokens that entries are
abbrev pub tokens : List Entry → List Token
tokens es = map entry_token es

-- the tokens are wrong
abbrev pub IsSyntax : Refusal → Type 0
IsSyntax (refusals.Syntax w) = Unit {0}
IsSyntax _ = ⊥

-- a refusal is the run's, unless memory ran out
abbrev pub Fails : Refusal → Out → Type 0
Fails refusals.Memory out = Unit {0}
Fails refusals.Late out = out ≡ Late
Fails (refusals.Syntax w) out = out ≡ Refused

-- what was returned, a tree and what is left, is what a run answers
abbrev pub Gives : {X : Type 0} → (X → Tree) → (X → List Entry) → Result X Refusal → Out → Type 0
Gives tree rest (Ok x) out = out ≡ Got (tree x) (tokens (rest x))
Gives tree rest (Err e) out = Fails e out
