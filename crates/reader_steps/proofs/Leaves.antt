-- What the run reads of tokens that are kept as they are.
use Rattle.std.proofs.Common.{◌≡◌, List, [], ◌∷◌, ap, drop, length, refl}
use Rattle.std.specs.Prelude.{true, cond}
use Rattle.syn_buffer.specs.Entries.{is_whole}
use Rattle.syn_buffer.specs.declared.entry.Entry.{Entry}
use Rattle.syn_grammar.specs.Run.{Got, Refused, raw_at}
use Rattle.syn_grammar.specs.Tree.{Raw}
use Rattle.reader_steps.specs.Answers.{tokens}
use Rattle.reader_steps.proofs.Groups.{whole_balanced}

pub raw_read : (es : List Entry) → is_whole es ≡ true → raw_at (tokens es) ≡ Got (Raw (tokens es)) []
unfolding raw_at
raw_read es h = ap (λ b. cond b (Got (Raw (tokens es)) []) Refused) (whole_balanced es h)

pub dropped_all : (es : List Entry) → drop (length es) es ≡ []
dropped_all [] = refl
dropped_all (e ∷ es) = dropped_all es
