-- An expression with own parts in normal form, with parentheses round it and round its operands, or without: so is its
-- normal form, in each place, and so it is with each operand in parentheses.
use Rattle.std.proofs.Common.{◌≡◌, ℕ, List, refl, sym, ap, ◌∙◌}
use Rattle.std.specs.Prelude.{zero, suc, Bool, true, false, not, ◌&&◌}
use Rattle.std.proofs.lemmas.Bool.{false≢true}
use Rattle.proc_macro2.specs.Token.{Token}
use Rattle.syn_grammar.specs.Kind.{Kind, Position, Plain, InCondition, InArm, InStatement, ExprAttributed, ExprPath}
use Rattle.syn_grammar.specs.Tree.{Tree, Alone, Front, Back, Infix, flat}
use Rattle.syn_grammar.specs.Forms.{inside, is_path_form}
use Rattle.syn_grammar.specs.Normal.{normal, formed}
use Rattle.syn_grammar.specs.Parens.{in_parens, parens_unless, takes_what_follows, stays_right, stays_left}
use Rattle.syn_grammar.specs.Parens.{is_struct, begins_in, stands_in, follow, with_right, with_left}
use Rattle.laws_reread_expressions.specs.Behind.{is_attributed}
use Rattle.laws_reread_expressions.specs.Formed.{is_attributed_form}
use Rattle.laws_reread_expressions.proofs.Stands.{path_takes}
use Rattle.laws_reread_built.specs.Spelled.{parenthesized}
use Rattle.laws_reread_built.proofs.Stays.{list_stays, made_stays, struct_stays}

-- in so many parentheses
abbrev pub in_many : ℕ → Tree → Tree
in_many zero x = x
in_many (suc n) x = in_parens (in_many n x)

abbrev pub Round : Tree → Tree → Type 0
Round x z = (n : ℕ) × (z ≡ in_many n x)

-- Attributes stand behind attributes, and a path before braces, as they stand in the expression.
abbrev pub AsListed : Kind → Tree → Tree → Type 0
AsListed k x z = (is_attributed k && is_attributed_form z) ≡ (is_attributed k && is_attributed_form x)

abbrev pub AsPath : Kind → Tree → Tree → Type 0
AsPath k x z = is_struct k ≡ true → is_path_form z ≡ is_path_form x

abbrev pub Dressed : Tree → Tree → Type 0
Dressed (Alone k y) z = Round (Alone k (normal y)) z
Dressed (Front k y x) z = (w : Tree) × Round (Front k (normal y) w) z × AsListed k x w × Dressed x w
Dressed (Back l k y) z = (v : Tree) × Round (Back v k (normal y)) z × AsPath k l v × Dressed l v
Dressed (Infix l k y r) z = (v : Tree) × (w : Tree) × Round (Infix v k (normal y) w) z × Dressed l v × Dressed r w
Dressed x z = Round x z

-- more parentheses
round : (b : Bool) (x z : Tree) → Round x z → Round x (parens_unless b z)
round true x z r = r
round false x z r = (suc r.0, ap in_parens r.1)

more : (b : Bool) (x z : Tree) → Dressed x z → Dressed x (parens_unless b z)
more b (Alone k y) z d = round b (Alone k (normal y)) z d
more b (Front k y x) z d = (d.0, round b (Front k (normal y) d.0) z d.1, d.2, d.3)
more b (Back l k y) z d = (d.0, round b (Back d.0 k (normal y)) z d.1, d.2, d.3)
more b (Infix l k y r) z d = (d.0, d.1, round b (Infix d.0 k (normal y) d.1) z d.2, d.3, d.4)
more b x z d = round b x z d

-- with each operand in parentheses
listed : (k : Kind) (x : Tree)
    → AsListed k x (parens_unless (is_attributed k && is_attributed_form x) (parenthesized x))
listed ExprAttributed (Front ExprAttributed y x) = refl
listed ExprAttributed (Front _ y x) = refl
listed ExprAttributed _ = refl
listed _ x = refl

path : (k : Kind) (l : Tree) → AsPath k l (parens_unless (is_struct k && is_path_form l) (parenthesized l))
path k l s = ap (λ b. is_path_form (parens_unless (b && is_path_form l) (parenthesized l))) s ∙ go l
  where
    go : (l : Tree) → is_path_form (parens_unless (is_path_form l) (parenthesized l)) ≡ is_path_form l
    go (Alone ExprPath y) = refl
    go (Alone _ y) = refl
    go _ = refl

pub dressed_parenthesized : (x : Tree) → Dressed x (parenthesized x)
dressed_parenthesized (Alone k y) = (0, refl)
dressed_parenthesized (Front k y x) =
    let b : Bool = is_attributed k && is_attributed_form x in (
      parens_unless b (parenthesized x),
      (0, refl),
      listed k x,
      more b x (parenthesized x) (dressed_parenthesized x),
    )
dressed_parenthesized (Back l k y) =
    let b : Bool = is_struct k && is_path_form l in (
      parens_unless b (parenthesized l),
      (0, refl),
      path k l,
      more b l (parenthesized l) (dressed_parenthesized l),
    )
dressed_parenthesized (Infix l k y r) = (
  in_parens (parenthesized l),
  in_parens (parenthesized r),
  (0, refl),
  more false l (parenthesized l) (dressed_parenthesized l),
  more false r (parenthesized r) (dressed_parenthesized r),
)
dressed_parenthesized _ = (0, refl)

-- In normal form: attributes behind attributes stay there,
begins : (p : Position) → begins_in p ExprAttributed ≡ true
begins Plain = refl
begins InCondition = refl
begins InArm = refl
begins InStatement = refl

-- and no others come to stand there;
unlisted : (b : Bool) (x : Tree) → is_attributed_form x ≡ false → is_attributed_form (parens_unless b x) ≡ false
unlisted true x e = e
unlisted false x e = refl

unlisted_formed : (x : Tree) (p : Position) (ts : List Token) → is_attributed_form x ≡ false
    → is_attributed_form (formed p ts x) ≡ false
unlisted_formed (Alone k y) p ts e = unlisted _ (Alone k (normal y)) refl
unlisted_formed (Front ExprAttributed y x) p ts e = absurd (false≢true (sym e))
unlisted_formed (Front k y x) p ts e = unlisted _ (Front k (normal y) _) e
unlisted_formed (Back l k y) p ts e = unlisted _ (Back _ k (normal y)) refl
unlisted_formed (Infix l k y r) p ts e = refl
unlisted_formed _ p ts e = e

listed_there : (x y : Tree) (p : Position) (ts : List Token) → is_attributed_form x ≡ true
    → is_attributed_form (with_right p ExprAttributed y (formed p ts x)) ≡ true
unfolding inside
listed_there (Front ExprAttributed z x) y p ts e =
    let v : Tree = Front ExprAttributed (normal z) (with_right p ExprAttributed (normal z) (formed p ts x)) in
    ap (λ b. is_attributed_form (with_right p ExprAttributed y (parens_unless b v))) (begins p)
    ∙ ap (λ b. is_attributed_form (parens_unless b v))
    (list_stays p y (normal z) (with_right p ExprAttributed (normal z) (formed p ts x))
    (made_stays p (normal z) (formed p ts x)))
listed_there (Front _ z x) y p ts e = absurd (false≢true e)
listed_there _ y p ts e = absurd (false≢true e)

listed_so : (x y : Tree) (p : Position) (ts : List Token) (b : Bool) → is_attributed_form x ≡ b
    → is_attributed_form (with_right p ExprAttributed y (formed p ts x)) ≡ b
listed_so x y p ts true e = listed_there x y p ts e
listed_so x y p ts false e =
    unlisted (stays_right p ExprAttributed y (formed p ts x)) (formed p ts x) (unlisted_formed x p ts e)

listed_formed : (k : Kind) (x y : Tree) (p : Position) (ts : List Token)
    → AsListed k x (with_right p k y (formed (inside p k) ts x))
unfolding inside
listed_formed ExprAttributed x y p ts = listed_so x y p ts (is_attributed_form x) refl
listed_formed _ x y p ts = refl

-- and before braces stands the path that stands there.
no_path : (b : Bool) (x : Tree) → is_path_form x ≡ false → is_path_form (parens_unless b x) ≡ false
no_path true x e = e
no_path false x e = refl

path_there : (l : Tree) (p : Position) (ts : List Token) → is_path_form l ≡ true
    → is_path_form (formed p (follow ts) l) ≡ true
path_there (Alone ExprPath w) p ts e =
    ap (λ b. is_path_form (parens_unless (not b) (Alone ExprPath (normal w)))) (path_takes p ts)
path_there (Alone _ w) p ts e = absurd (false≢true e)
path_there _ p ts e = absurd (false≢true e)

no_path_formed : (l : Tree) (p : Position) (ts : List Token) → is_path_form l ≡ false
    → is_path_form (formed p ts l) ≡ false
no_path_formed (Alone ExprPath y) p ts e = absurd (false≢true (sym e))
no_path_formed (Alone k y) p ts e = no_path _ (Alone k (normal y)) e
no_path_formed (Front k y x) p ts e = no_path _ (Front k (normal y) _) refl
no_path_formed (Back l k y) p ts e = no_path _ (Back _ k (normal y)) refl
no_path_formed (Infix l k y r) p ts e = refl
no_path_formed _ p ts e = e

path_so : (l : Tree) (p : Position) (ts : List Token) (b : Bool) → is_path_form l ≡ b
    → is_path_form (formed p (follow ts) l) ≡ b
path_so l p ts true e = path_there l p ts e
path_so l p ts false e = no_path_formed l p (follow ts) e

path_formed : (k : Kind) (l y : Tree) (p : Position) → AsPath k l (with_left p k y (formed p (follow (flat y)) l))
path_formed k l y p s =
    ap (λ b. is_path_form (parens_unless b (formed p (follow (flat y)) l)))
    (struct_stays p k y (formed p (follow (flat y)) l) s)
    ∙ path_so l p (flat y) (is_path_form l) refl

pub dressed_formed : (x : Tree) (p : Position) (ts : List Token) → Dressed x (formed p ts x)
dressed_formed (Alone k y) p ts =
    round (not (takes_what_follows p k ts)) (Alone k (normal y)) (Alone k (normal y)) (0, refl)
dressed_formed (Front k y x) p ts =
    let m : Tree = formed (inside p k) ts x in
    let w : Tree = with_right p k (normal y) m in (
      w,
      round (begins_in p k) (Front k (normal y) w) (Front k (normal y) w) (0, refl),
      listed_formed k x (normal y) p ts,
      more (stays_right p k (normal y) m) x m (dressed_formed x (inside p k) ts),
    )
dressed_formed (Back l k y) p ts =
    let us : List Token = follow (flat (normal y)) in
    let m : Tree = formed p us l in
    let v : Tree = with_left p k (normal y) m in (
      v,
      round (stands_in p k && not (takes_what_follows p k ts)) (Back v k (normal y)) (Back v k (normal y)) (0, refl),
      path_formed k l (normal y) p,
      more (stays_left p k (normal y) m) l m (dressed_formed l p us),
    )
dressed_formed (Infix l k y r) p ts =
    let us : List Token = follow (flat (normal y)) in
    let m : Tree = formed p us l in
    let n : Tree = formed (inside p k) ts r in (
      with_left p k (normal y) m,
      with_right p k (normal y) n,
      (0, refl),
      more (stays_left p k (normal y) m) l m (dressed_formed l p us),
      more (stays_right p k (normal y) n) r n (dressed_formed r (inside p k) ts),
    )
dressed_formed _ p ts = (0, refl)
