-- Where nothing is chosen.
use Rattle.std.specs.Prelude.{◌≡◌, Bool, false, List, refl}
use Rattle.std.proofs.Common.{subst, sym}
use Rattle.proc_macro2.specs.Token.{Token}
use Rattle.syn_grammar.specs.Gram.{Gram, never, nothing, alt}
use Rattle.syn_grammar.specs.Tree as t
use Rattle.syn_grammar.specs.Tree.{Tree}
use Rattle.syn_part.specs.Shape.{IsShaped}

-- never has no tree
pub shaped_never : (x : Tree) → IsShaped x never → ⊥
shaped_never t.Nil h = absurd h
shaped_never _ h = absurd h

-- Where nothing is chosen but nothing, or where nothing is refused, that is what stands there.
pub never_or : (x : Tree) (test : List Token → Bool) → IsShaped x (alt test never nothing) → x ≡ t.Second t.Nil
never_or (t.First y) test h = absurd (shaped_never y h)
never_or (t.Second t.Nil) test h = refl
never_or _ test h = absurd h

pub missing_none : (x : Tree) → ((test : List Token → Bool) (a : Gram) → IsShaped x (alt test a nothing) → ⊥)
    → x ≡ t.Second t.Nil → ⊥
missing_none x h e = h (λ ts. false) never (subst (λ y. IsShaped y (alt (λ ts. false) never nothing)) (sym e) tt)
