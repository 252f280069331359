-- What stays as it stands in each position: attributes behind attributes, and a path before braces.
use Rattle.std.proofs.Common.{◌≡◌, refl, ap}
use Rattle.std.specs.Prelude.{Bool, true, false, not, ◌||◌}
use Rattle.std.proofs.lemmas.Bool.{false≢true}
use Rattle.syn_grammar.specs.Kind.{Kind, Position, ExprAttributed}
use Rattle.syn_grammar.specs.Tree.{Tree, Front}
use Rattle.syn_grammar.specs.Forms.{level, is_range, within}
use Rattle.syn_grammar.specs.Parens.{parens_unless, may_lack, stays_right, stays_left, is_struct}
use Rattle.syn_grammar.specs.Parens.{with_right}
use Rattle.syn_grammar.proofs.Whole.{and_true}
use Rattle.laws_binding.proofs.Levels.{not_true}

-- what stays behind attributes is no range, so they stay behind others
pub list_stays : (p : Position) (y z x : Tree) → stays_right p ExprAttributed z x ≡ true
    → stays_right p ExprAttributed y (Front ExprAttributed z x) ≡ true
unfolding may_lack
list_stays p y z x s =
    ap not (not_true (is_range x) (and_true (within (level ExprAttributed) x) (not (is_range x)) s).1)

-- it stays, or is put in parentheses
pub made_stays : (p : Position) (y x : Tree) → stays_right p ExprAttributed y (with_right p ExprAttributed y x) ≡ true
unfolding may_lack level
made_stays p y x = go (stays_right p ExprAttributed y x) refl
  where
    go : (b : Bool) → stays_right p ExprAttributed y x ≡ b → stays_right p ExprAttributed y (parens_unless b x) ≡ true
    go true e = e
    go false e = refl

-- what stands before braces stays
or_first : (a b : Bool) → a ≡ true → (a || b) ≡ true
or_first true b e = refl
or_first false b e = absurd (false≢true e)

pub struct_stays : (p : Position) (k : Kind) (y l : Tree) → is_struct k ≡ true → stays_left p k y l ≡ true
struct_stays p k y l s = or_first (is_struct k) _ s
