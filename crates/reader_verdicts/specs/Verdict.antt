-- What becomes of what was read, in the words of the written grammar.
use Rattle.syn_grammar.specs.Gram as g
use Rattle.reader_verdicts.specs.declared.verdict.Verdict.{Verdict}
use Rattle.reader_verdicts.specs.declared.verdict.Verdict.TheVariants as verdicts

abbrev pub verdict_kind : Verdict → g.Verdict
verdict_kind verdicts.Keep = g.Keep
verdict_kind verdicts.AsRaw = g.AsRaw
verdict_kind verdicts.Refuse = g.Refuse
