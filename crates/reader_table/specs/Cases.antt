-- Forms of expressions, and where they are seen, in the words of the written grammar.
use Rattle.std.specs.Prelude.{List, [], ◌∷◌}
use Rattle.syn_grammar.specs.Forms as f
use Rattle.reader_table.specs.Kinds.{kind_of}
use Rattle.reader_table.specs.Looks.{look_of}
use Rattle.reader_table.specs.declared.op.Case.{Case}

abbrev pub cases_of : List Case → List f.Case
cases_of [] = []
cases_of (c ∷ cs) = f.form (kind_of c.kind) (look_of c.look) ∷ cases_of cs
