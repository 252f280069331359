-- What is made of what was read by all that is pending.
use Rattle.std.specs.Prelude.{◌≡◌, ℕ, ◌+◌, ◌*◌, ◌^◌, List, [], ◌∷◌, ◌++◌, length, Result, Ok, Err}
use Rattle.syn_grammar.specs.Run.{Out, interp, run, whole, wrap}
use Rattle.syn_grammar.specs.Tree.{Node, Pair}
use Rattle.reader_table.specs.Kinds.{kind_of}
use Rattle.reader_table.specs.Ops.{gram_of}
use Rattle.reader_steps.specs.Answers.{Fails, tokens}
use Rattle.reader_steps.specs.Around.{around_of, judged_as}
use Rattle.reader_steps.specs.declared.pending.Pending.{Pending}
use Rattle.reader_steps.specs.declared.pending.Pending.TheVariants as pendings
use Rattle.reader_steps.specs.declared.pending.Spot.{Spot}
use Rattle.reader_steps.specs.declared.refusal.Refusal.{Refusal}

-- what one makes of an answer
abbrev pub made_by : Pending → Out → Out
made_by (pendings.Front x) o = wrap (Pair x) o
made_by (pendings.Around a) o = wrap (around_of a) o
made_by (pendings.Node k at) o = wrap (Node (kind_of k)) o
made_by (pendings.Inside d s b) o = whole d (tokens b.entries.now) o
made_by (pendings.Judged v) o = judged_as v o

-- what all make of it, the last one first
abbrev pub made_by_all : List Pending → Out → Out
made_by_all [] o = o
made_by_all (w ∷ ws) o = made_by w (made_by_all ws o)

-- what the steps say there
abbrev pub says_at : Spot → Out
says_at s = interp (run s.fuel) (gram_of s.steps.now) (tokens s.entries.now)

-- so many calls deep, and then so many steps
abbrev pub weight : ℕ → ℕ → ℕ
weight fuel count = 2 ^ 67 * fuel + 4 * count

-- what these make of what was returned is what a run answers
abbrev pub Makes : {X : Type 0} → (X → Out) → List Pending → Result X Refusal → Out → Type 0
Makes says ws (Ok x) out = out ≡ made_by_all ws (says x)
Makes says ws (Err e) out = Fails e out

-- there is more pending than there was, and that makes what a run answers of what was returned
abbrev pub Leads : {X : Type 0} → (X → Out) → List Pending → List Pending → Result X Refusal → Out → Type 0
Leads says old new r out = (ws : List Pending) × (new ≡ old ++ ws) × Makes says ws r out
