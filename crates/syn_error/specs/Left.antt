-- What an iterator over an error's messages still gives.
use Rattle.std.specs.Prelude.{◌≡◌, ◌<◌, List, [], ◌∷◌, ◌++◌, length, take, drop, map}
use Rattle.std.specs.Prelude.{Option, Some, None, Result, IfOk, MatchOption}
use denote.Ref.{Bor}
use Rattle.syn_error.specs.Notes.{Note}
use Rattle.syn_error.specs.Messages.{note}
use Rattle.syn_error.specs.declared.error.Message.{Message}
use Rattle.syn_error.specs.declared.iter.Iter.{Iter}
use Rattle.syn_error.specs.declared.iter.IntoIter.{IntoIter}

abbrev pub lent_first : Option (Bor Message) → List Note
lent_first None = []
lent_first (Some m) = note m.now ∷ []

abbrev pub iter_left : Iter → List Note
iter_left it = lent_first it.first ++ map note it.others.now

abbrev pub held_first : Option Message → List Note
held_first None = []
held_first (Some m) = note m ∷ []

abbrev pub into_iter_left : IntoIter → List Note
into_iter_left it = held_first it.first ++ map note it.others.items

-- a call gave the first message of what was left as an error of its own, and left the others, or there was none
abbrev pub GivesFirst : {S : Type 0} → (S → List Note) → S → Option (List Note) → S → Type 0
GivesFirst left s r t = MatchOption r ((left s ≡ []) × (left t ≡ []))
    (λ e. (0 < length (left s)) × (e ≡ take 1 (left s)) × (left t ≡ drop 1 (left s)))

-- the same, where there was memory for it; the message is passed in any case
abbrev pub GivesCopy : {S E : Type 0} → (S → List Note) → S → Option (Result (List Note) E) → S → Type 0
GivesCopy left s r t = MatchOption r ((left s ≡ []) × (left t ≡ []))
    (λ c. (0 < length (left s)) × IfOk c (λ e. e ≡ take 1 (left s)) × (left t ≡ drop 1 (left s)))
