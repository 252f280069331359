-- Commands on a fork.
use Rattle.std.proofs.Common.{◌≡◌, ◌∙◌, List, [], ◌∷◌, refl, sym, ap}
use Rattle.std.specs.Prelude.{Option, Some, None}
use Rattle.syn_input.specs.Commands.{Command, advanced, fork_of, ran, ran_all}
use Rattle.syn_input.specs.Input.{first_of_two}
use Rattle.syn_input.specs.declared.input.Leftover.{Leftover}
use Rattle.syn_input.specs.declared.input.ParseBuffer.{ParseBuffer}

first_of_three : (a b c : Option Leftover) → first_of_two (first_of_two a b) c ≡ first_of_two a (first_of_two b c)
first_of_three (Some a) b c = refl
first_of_three None b c = refl

or_none : (a : Option Leftover) → first_of_two a None ≡ a
or_none (Some a) = refl
or_none None = refl

-- the same commands on two streams at one place, of which the one had something left over before
along : (fs : List Command) (input fork : ParseBuffer) →
    ran_all fs (advanced input fork) ≡ advanced input (ran_all fs fork)
along [] input fork = refl
along (f ∷ fs) input fork =
    ap (λ n. ran_all fs (record input { cursor = (f fork.cursor).0; noted = n }))
    (first_of_three input.noted fork.noted (f fork.cursor).1)
    ∙ along fs input (ran f fork)

pub on_a_fork : (fs : List Command) (input : ParseBuffer) →
    advanced input (ran_all fs (fork_of input)) ≡ ran_all fs input
on_a_fork fs input =
    sym (along fs input (fork_of input))
    ∙ ap (λ n. ran_all fs (record input { noted = n })) (or_none input.noted)
