use Rattle.std.proofs.Common.{◌≤◌, List, drop, length}
use Rattle.proc_macro2.specs.Token.{Spanned}
use Rattle.syn_error.specs.Front.{Keeps}
use Rattle.syn_lists.specs.Lists.{separators, values}
use Rattle.syn_lists.specs.Put.{PutsList}
use Rattle.syn_lists.proofs.printed.PunctuatedToTokens.to_tokens.Given as goal

-- the old tokens stand in front, and a print of what is left puts all
abbrev pub invariant-loop-index : goal.invariant-loop-index
invariant-loop-index g l = record {
  kept : Keeps l.initial.tokens l.tokens;
  reached : l.index ≤ length (separators l.self);
  left : (all : List Spanned)
      → PutsList g.T.ToTokens.puts g.P.ToTokens.puts (drop l.index (values l.self)) (drop l.index (separators l.self))
      l.tokens all
      → PutsList g.T.ToTokens.puts g.P.ToTokens.puts (values l.self) (separators l.self) l.initial.tokens all;
}
