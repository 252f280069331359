use Rattle.std.proofs.Common.{◌-◌, length}
use Rattle.rust_lex.proofs.Walks.{WalksWord}
use Rattle.rust_lex.proofs.word.begins_word.Given as goal

abbrev pub invariant-loop-index : goal.invariant-loop-index
invariant-loop-index l = WalksWord l.name l.index l.text l.start l.at

abbrev pub decreases-loop-index : goal.decreases-loop-index
decreases-loop-index l = length l.name - l.index
