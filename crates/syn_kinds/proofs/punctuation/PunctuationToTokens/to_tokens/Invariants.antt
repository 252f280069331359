use Rattle.std.proofs.Common.{◌≡◌, ◌++◌, drop}
use Rattle.syn_error.specs.Front.{Keeps}
use Rattle.syn_kinds.specs.Table.{marks}
use Rattle.syn_kinds.specs.Values.{marks_tokens}
use Rattle.syn_kinds.proofs.punctuation.PunctuationToTokens.to_tokens.Given as goal

abbrev pub invariant-loop-index : goal.invariant-loop-index
invariant-loop-index g l = record {
  kept : Keeps l.initial.tokens l.tokens;
  left : (let cs = marks g.row.K g.row.N in
      l.tokens ++ marks_tokens (drop l.index cs) (drop l.index l.self.spans)
      ≡ l.initial.tokens ++ marks_tokens cs l.self.spans);
}
