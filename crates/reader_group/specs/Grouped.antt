-- A group of what was read of its inside, as a run of the grammar makes it.
use Rattle.std.specs.Prelude.{◌≡◌, List, [], ◌∷◌, Result, Ok, Err, map}
use Rattle.proc_macro2.specs.Token.{Token}
use Rattle.syn_buffer.specs.Entries.{entry_span, entry_token}
use Rattle.syn_buffer.specs.declared.entry.Entry.{Entry}
use Rattle.syn_grammar.specs.Tree.{Tree}
use Rattle.syn_grammar.specs.Run.{Out, Refused, Got}
use Rattle.reader_group.specs.declared.made.Unmade.{Unmade}
use Rattle.reader_group.specs.declared.made.Unmade.TheVariants as unmades

-- the tokens that entries are
abbrev pub tokens : List Entry → List Token
tokens es = map entry_token es

-- what was returned is what a run answers, where those tokens stand behind the group, unless memory ran out
abbrev pub Groups : List Token → Result Tree Unmade → Out → Type 0
Groups behind (Ok x) out = out ≡ Got x behind
Groups behind (Err unmades.Memory) out = Unit {0}
Groups behind (Err (unmades.Unread s x)) out = out ≡ Refused

-- where tokens are left, the first of them stands there
abbrev pub BeginsThere : Unmade → List Entry → Type 0
BeginsThere unmades.Memory es = Unit {0}
BeginsThere (unmades.Unread s x) [] = ⊥
BeginsThere (unmades.Unread s x) (e ∷ es) = s ≡ entry_span e

-- where tokens are left, that tree was read before them, and is handed back
abbrev pub HandsBack : Unmade → Tree → Type 0
HandsBack unmades.Memory y = Unit {0}
HandsBack (unmades.Unread s x) y = x ≡ y
