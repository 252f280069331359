-- What is made of what was read is what the run makes of what it reads.
use Rattle.std.proofs.Common.{◌≡◌, ℕ, List, [], ◌∷◌, refl, sym, ap, ◌∙◌}
use Rattle.std.specs.Prelude.{Result, Ok, Err}
use Rattle.std.proofs.lemmas.Result.{err_from_is_err_and}
use Rattle.proc_macro2.specs.Token.{Token}
use Rattle.syn_buffer.specs.declared.entry.Entry.{Entry}
use Rattle.syn_grammar.specs.Tree.{Tree}
use Rattle.syn_grammar.specs.Run.{Out, Late, Refused, Got, ◌>>=◌, wrap}
use Rattle.reader_steps.specs.Answers.{Fails, Gives, IsSyntax, tokens}
use Rattle.reader_steps.specs.declared.refusal.Refusal.{Refusal}
use Rattle.reader_steps.specs.declared.refusal.Refusal.TheVariants as refusals

-- a refusal goes up
pub fails_on : (e : Refusal) (o : Out) (f : Tree → List Token → Out) → Fails e o → Fails e (o >>= f)
fails_on refusals.Memory o f h = tt
fails_on refusals.Late o f h = ap (λ o. o >>= f) h
fails_on (refusals.Syntax w) o f h = ap (λ o. o >>= f) h

-- one run is as good as another that is the same
pub fails_as : (e : Refusal) (o p : Out) → p ≡ o → Fails e o → Fails e p
fails_as refusals.Memory o p s h = tt
fails_as refusals.Late o p s h = s ∙ h
fails_as (refusals.Syntax w) o p s h = s ∙ h

pub gives_as : {X : Type 0} (tree : X → Tree) (rest : X → List Entry) (r : Result X Refusal) (o p : Out) → p ≡ o
    → Gives tree rest r o → Gives tree rest r p
gives_as tree rest (Ok x) o p s h = s ∙ h
gives_as tree rest (Err e) o p s h = fails_as e o p s h

pub got_on : (o : Out) (f : Tree → List Token → Out) (x : Tree) (us : List Token) → o ≡ Got x us → (o >>= f) ≡ f x us
got_on o f x us h = ap (λ o. o >>= f) h

-- tokens that are wrong, where a run refuses
pub syntax_fails : (e : Refusal) (o : Out) → IsSyntax e → o ≡ Refused → Fails e o
syntax_fails (refusals.Syntax w) o h r = r
syntax_fails refusals.Memory o h r = absurd h
syntax_fails refusals.Late o h r = absurd h
