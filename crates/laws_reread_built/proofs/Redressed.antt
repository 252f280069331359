-- An expression that is printed with some parentheses is printed with others, where these are those of a normal form.
use Rattle.std.proofs.Common.{ℕ, subst, sym, ◌∙◌}
use Rattle.std.specs.Prelude.{zero, suc}
use Rattle.syn_grammar.specs.Tree.{Tree, Alone, Front, Back, Infix}
use Rattle.syn_grammar.specs.Normal.{normal}
use Rattle.laws_reread_built.proofs.Dressed.{Dressed, Round, in_many}
use Rattle.laws_reread_built.proofs.Laid.{Laid, closed, opened}
use Rattle.laws_reread_built.proofs.Parts.{back_laid, back_parts, front_laid, front_parts, infix_laid, infix_parts}
use Rattle.laws_reread_built.proofs.Placed.{Placed, placed_inside, placed_front, placed_back, placed_left, placed_right}

-- the parentheses round a form
open_many : (n : ℕ) (x : Tree) → Laid (in_many n x) → Laid x
open_many zero x l = l
open_many (suc n) x l = open_many n x (opened (in_many n x) l)

close_many : (n : ℕ) (x : Tree) → Placed (in_many n x) → Laid x → Laid (in_many n x)
close_many zero x w l = l
close_many (suc n) x w l =
    closed (in_many n x) w (close_many n x (placed_inside (in_many n x) w) l)

place_many : (n : ℕ) (x : Tree) → Placed (in_many n x) → Placed x
place_many zero x w = w
place_many (suc n) x w = place_many n x (placed_inside (in_many n x) w)

open_round : (x z : Tree) → Round x z → Laid z → Laid x
open_round x z r l = open_many r.0 x (subst Laid r.1 l)

close_round : (x z : Tree) → Round x z → Placed z → Laid x → Laid z
close_round x z r w l = subst Laid (sym r.1) (close_many r.0 x (subst Placed r.1 w) l)

place_round : (x z : Tree) → Round x z → Placed z → Placed x
place_round x z r w = place_many r.0 x (subst Placed r.1 w)

-- each form
pub redressed : (x v w : Tree) → Dressed x v → Dressed x w → Laid v → Placed w → Laid w
redressed (Alone k y) v w d e l i =
    close_round (Alone k (normal y)) w e i (open_round (Alone k (normal y)) v d l)
redressed (Front k y x) v w d e l i =
    let a = front_parts k (normal y) d.0 (open_round (Front k (normal y) d.0) v d.1 l) in
    let j = placed_front k (normal y) e.0 (place_round (Front k (normal y) e.0) w e.1 i) in
    close_round (Front k (normal y) e.0) w e.1 i
    (front_laid k (normal y) e.0 a.own a.has (redressed x d.0 e.0 d.3 e.3 a.right j) (e.2 ∙ sym d.2 ∙ a.together))
redressed (Back x k y) v w d e l i =
    let a = back_parts d.0 k (normal y) (open_round (Back d.0 k (normal y)) v d.1 l) in
    let j = placed_back e.0 k (normal y) (place_round (Back e.0 k (normal y)) w e.1 i) in
    close_round (Back e.0 k (normal y)) w e.1 i
    (back_laid e.0 d.0 k (normal y) a (redressed x d.0 e.0 d.3 e.3 a.left j) (λ s. e.2 s ∙ sym (d.2 s) ∙ a.path s))
redressed (Infix x k y r) v w d e l i =
    let a = infix_parts d.0 k (normal y) d.1 (open_round (Infix d.0 k (normal y) d.1) v d.2 l) in
    let j = place_round (Infix e.0 k (normal y) e.1) w e.2 i in
    close_round (Infix e.0 k (normal y) e.1) w e.2 i
    (infix_laid e.0 k (normal y) e.1 a.own a.has
    (redressed x d.0 e.0 d.3 e.3 a.left (placed_left e.0 k (normal y) e.1 j))
    (redressed r d.1 e.1 d.4 e.4 a.right (placed_right e.0 k (normal y) e.1 j)))
redressed x v w d e l i = close_round x w e i (open_round x v d l)
