use Rattle.std.proofs.Common.{List, drop}
use Rattle.proc_macro2.specs.Token.{Spanned}
use Rattle.syn_error.specs.Front.{Keeps}
use Rattle.syn_error.specs.Tokens.{PutsAll}
use Rattle.syn_error.proofs.to_tokens.VecToTokens.to_tokens.Given as goal

-- the old tokens stand in front, and a print of what is left puts all
abbrev pub invariant-loop-value : goal.invariant-loop-value
invariant-loop-value g l = record {
  kept : Keeps l.initial.tokens l.tokens;
  put : (all : List Spanned) → PutsAll g.T.ToTokens.puts (drop l.value-index l.value-items) l.tokens all
      → PutsAll g.T.ToTokens.puts l.value-items l.initial.tokens all;
}
