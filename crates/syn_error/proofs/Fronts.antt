-- What stands in front of tokens, and stays there.
use Rattle.std.proofs.Common.{◌≡◌, ◌++◌, List, ap, ◌∙◌}
use Rattle.std.proofs.lemmas.List.{append_assoc}
use Rattle.std.specs.Prelude.{Result, Ok, Err, OnOk, OnErr}
use Rattle.proc_macro2.specs.Token.{Spanned}
use Rattle.syn_error.specs.Front.{Keeps}

-- tokens that are put behind the old ones
pub keeps_added : (old added new : List Spanned) → new ≡ old ++ added → Keeps old new
unfolding Keeps
keeps_added old added new e front (behind, h) =
    (behind ++ added, e ∙ ap (λ ts. ts ++ added) h ∙ append_assoc front behind added)

pub keeps_same : (old new : List Spanned) → new ≡ old → Keeps old new
unfolding Keeps
keeps_same old new e front (behind, h) = (behind, e ∙ h)

-- one print behind the other
pub keeps_both : (old middle new : List Spanned) → Keeps old middle → Keeps middle new → Keeps old new
unfolding Keeps
keeps_both old middle new f g front h = g front (f front h)

-- a push: the tokens are put behind the old ones, or nothing is
pub push_keeps : {A E : Type 0} (result : Result A E) (old added new : List Spanned) → OnOk result (new ≡ old ++ added)
    → OnErr result (new ≡ old) → Keeps old new
push_keeps (Ok x) old added new e f = keeps_added old added new e
push_keeps (Err x) old added new e f = keeps_same old new f
