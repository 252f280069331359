-- What may follow a name, and what may begin a signature.
use Rattle.std.specs.Prelude.{[]}
use Rattle.reader_lookahead.specs.Words.{signature_words}
use Rattle.syn_grammar.specs.Say.{at}
use Rattle.syn_grammar.specs.Look.{Look, ◌then◌, ◌or◌, a_word, one_of, opening, past_marks}
use Rattle.syn_grammar.specs.Words.{any_text}

-- A macro may be called: the first mark of a :: stands there, or a word before it or before the first mark of a ! .
abbrev pub call_begins : Look
call_begins = past_marks 58 [] or (a_word any_text then (past_marks 58 [] or past_marks 33 []))

-- A name in a pattern may go on: a group opens there, or the first mark of a :: or a .. stands there.
abbrev pub name_goes_on : Look
name_goes_on = opening or past_marks 58 [] or past_marks 46 []

-- A function's signature may begin: one of its words stands there, or const and then one of them.
abbrev pub signature_begins : Look
signature_begins = one_of signature_words or (at "const" then one_of signature_words)
