-- The texts of keywords.
use Rattle.std.specs.Prelude.{ℕ, List, map}
use Rattle.reader_table.specs.Words.{keyword_text}
use Rattle.reader_table.specs.declared.word.Keyword.{Keyword}

abbrev pub texts : List Keyword → List (List ℕ)
texts ks = map keyword_text ks
