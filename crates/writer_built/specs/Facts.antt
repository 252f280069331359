-- What is kept of an operand that is written, as the law of one who writes in one pass has it.
use Rattle.std.specs.Prelude.{List}
use Rattle.proc_macro2.specs.Token.{Token}
use Rattle.laws_binding.specs.Written.{Written, other, a_cast, a_named_field}
use Rattle.laws_binding.specs.Written as w
use Rattle.writer_built.specs.declared.facts.Last.{Last}
use Rattle.writer_built.specs.declared.facts.Last.TheVariants as lasts
use Rattle.writer_built.specs.declared.facts.Facts.{Facts}

-- what it ends with
abbrev pub last_of : Last → w.Last
last_of lasts.Other = other
last_of (lasts.Cast named) = a_cast named
last_of lasts.NamedField = a_named_field

-- the facts of something that has these tokens
abbrev pub facts_of : List Token → Facts → Written
facts_of ts f = record {
  tokens = ts;
  range = f.range;
  postfix = f.postfix;
  path = f.path;
  block = f.block;
  macro = f.called;
  compares = f.compares;
  least = f.least;
  cap = f.cap;
  opened = f.opened;
  last = last_of f.last;
}
