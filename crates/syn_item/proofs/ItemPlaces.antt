-- That a tree has no safety, in whatever place, if it has not the shape of one; and the text of unsafe.
use Rattle.std.specs.Prelude.{◌≡◌, ℕ, codes, List, Bool, ◌∷◌, [], refl}
use Rattle.std.specs.Str.{chars}
use Rattle.proc_macro2.specs.Token.{Token}
use Rattle.syn_grammar.specs.Kind as k
use Rattle.syn_grammar.specs.Gram as g
use Rattle.syn_grammar.specs.Name as n
use Rattle.syn_grammar.specs.Tree.{Tree}
use Rattle.syn_grammar.specs.Items.{safety}
use Rattle.syn_grammar.specs.Look.{sees, ◌or◌}
use Rattle.syn_grammar.specs.Say.{at}
use Rattle.rust_leaf.specs.Keywords.{is_among, same_text}
use Rattle.syn_part.specs.Shape.{IsShaped}

pub no_safety : (x : Tree) → ((t : List Token → Bool) (p : List ℕ → Bool)
    → IsShaped x (g.alt t (g.called n.the_safety (g.word p)) g.nothing) → ⊥) → (p : k.Place) → IsShaped x (safety p) → ⊥
no_safety x f k.InFile h = f (sees (at "unsafe")) (λ cs. same_text (codes "unsafe") cs) h
no_safety x f k.InForeign h =
    f (sees (at "unsafe" or at "safe")) (λ cs. is_among (codes "unsafe" ∷ codes "safe" ∷ []) cs) h
no_safety x f k.InTrait h = f (sees (at "unsafe")) (λ cs. same_text (codes "unsafe") cs) h
no_safety x f k.InImpl h = f (sees (at "unsafe")) (λ cs. same_text (codes "unsafe") cs) h

-- the word is of one byte a character
pub unsafe_chars : chars (codes "unsafe") ≡ codes "unsafe"
unfolding chars
unsafe_chars = refl
