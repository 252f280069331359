-- That attributes stand together, as it is said of what fits and of what is read.
use Rattle.std.proofs.Common.{◌≡◌, refl, sym}
use Rattle.std.specs.Prelude.{true, false, ◌&&◌}
use Rattle.std.proofs.lemmas.Bool.{false≢true}
use Rattle.syn_grammar.specs.Kind.{Kind, ExprAttributed}
use Rattle.syn_grammar.specs.Tree.{Tree, Front}
use Rattle.laws_reread_expressions.specs.Behind.{is_attributed}
use Rattle.laws_reread_expressions.specs.Formed.{is_attributed_form}
use Rattle.laws_reread_kinds.proofs.Fits.{are_together}

pub apart : (k : Kind) (x : Tree) → (is_attributed k && is_attributed_form x) ≡ false → are_together k x ≡ true
apart ExprAttributed (Front ExprAttributed y x) e = absurd (false≢true (sym e))
apart ExprAttributed (Front _ y x) e = refl
apart ExprAttributed _ e = refl
apart _ x e = refl

pub together : (k : Kind) (x : Tree) → are_together k x ≡ true → (is_attributed k && is_attributed_form x) ≡ false
together ExprAttributed (Front ExprAttributed y x) e = absurd (false≢true e)
together ExprAttributed (Front _ y x) e = refl
together ExprAttributed _ e = refl
together _ x e = refl
