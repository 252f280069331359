-- An expression that is in normal form where it stands is settled: none of its operands is put in parentheses, and its
-- own parts are in normal form.
use Rattle.std.proofs.Common.{◌≡◌, ℕ, List, [], ◌∷◌, refl, sym, ap, ◌∙◌, subst}
use Rattle.std.specs.Prelude.{Bool, true, false, not, ◌&&◌, ◌||◌}
use Rattle.std.proofs.lemmas.Bool.{false≢true}
use Rattle.proc_macro2.specs.Token.{Token}
use Rattle.proc_macro2.specs.declared.delimiter.Delimiter.TheVariants.{Parenthesis}
use Rattle.syn_grammar.specs.Kind.{Kind, Position, Plain, Expression, ExprParen, ExprAttributed, ExprAwait, ExprField}
use Rattle.syn_grammar.specs.Kind.{ExprMethodCall}
use Rattle.syn_grammar.specs.Name.{the_indices, the_value}
use Rattle.syn_grammar.specs.Words.{indices}
use Rattle.syn_grammar.specs.Tree.{Tree, ALiteral, Pair, Second, Again, Final, Group, Called, Node, Whole, Alone}
use Rattle.syn_grammar.specs.Tree.{Front, Back, Infix, flat}
use Rattle.syn_grammar.specs.Kept.{dotted, dotted_own, fields_in_front, index_field, index_fields, last_fields}
use Rattle.syn_grammar.specs.Forms.{has_right, level, inside, kind_of, stands_left, chains}
use Rattle.syn_grammar.specs.Parens.{in_parens, parens_unless, may_lack, takes_what_follows, is_label, stays_right}
use Rattle.syn_grammar.specs.Parens.{is_attributed_range, stays_left, is_struct, begins_in, stands_in, follow}
use Rattle.syn_grammar.specs.Normal.{passed, stands_behind, normal, formed}
use Rattle.syn_grammar.proofs.Whole.{and_true}
use Rattle.syn_grammar.proofs.Settled.{Settled}
use Rattle.laws_binding.proofs.Levels.{not_true, paren_left}
use Rattle.laws_reread_expressions.proofs.Begins.{paren_operand}
use Rattle.laws_reread_expressions.proofs.Opened.{paren_right}

abbrev own_of : Tree → Tree
own_of (Alone k y) = y
own_of (Front k y x) = y
own_of (Back l k y) = y
own_of (Infix l k y r) = y
own_of x = x

abbrev right_of : Tree → Tree
right_of (Front k y x) = x
right_of (Infix l k y r) = r
right_of x = x

abbrev left_of : Tree → Tree
left_of (Back l k y) = l
left_of (Infix l k y r) = l
left_of x = x

abbrev is_alone : Tree → Bool
is_alone (Alone k y) = true
is_alone x = false

-- What stands in parentheses stays there.
abbrev IsParen : Tree → Type 0
IsParen z = (w : Tree) × (z ≡ in_parens w)

paren_takes : (p : Position) (ts : List Token) → takes_what_follows p ExprParen ts ≡ false
unfolding may_lack
paren_takes p ts = refl

paren_formed : (p : Position) (ts : List Token) (z : Tree) → IsParen (formed p ts (in_parens z))
unfolding passed stands_behind
paren_formed p ts z =
    (formed Plain [] z, ap (λ b. parens_unless (not b) (in_parens (formed Plain [] z))) (paren_takes p ts))

stays_behind : (m h l a : Bool) → (m ≡ true → h ≡ true) → l ≡ false → a ≡ false
    → ((not m || (h && not l)) && not a) ≡ true
stays_behind true h l a e f g =
    ap (λ b. (b && not l) && not a) (e refl) ∙ ap (λ b. not b && not a) f ∙ ap not g
stays_behind false h l a e f g = ap not g

plain_range : (k : Kind) (x : Tree) → is_attributed_range k (in_parens x) ≡ false
unfolding level
plain_range ExprAttributed x = refl
plain_range _ x = refl

paren_stays_right : (p : Position) (k : Kind) (y z : Tree) → IsParen z → stays_right p k y z ≡ true
paren_stays_right p k y z i =
    subst (λ w. stays_right p k y w ≡ true) (sym i.1)
    (stays_behind (may_lack k) (has_right p k (flat (in_parens i.0))) (is_label k y (flat (in_parens i.0)))
    (is_attributed_range k (in_parens i.0)) (λ m. paren_right p k _ m) (paren_operand k y _).1 (plain_range k i.0))

joined : (s a c : Bool) → (s ≡ false → (a ≡ true) × (c ≡ false)) → (s || (a && (not c && true))) ≡ true
joined true a c h = refl
joined false a c h = ap (λ b. b && (not c && true)) (h refl).0 ∙ ap (λ b. not b && true) (h refl).1

paren_stays_left : (p : Position) (k : Kind) (y z : Tree) → IsParen z → stays_left p k y z ≡ true
unfolding stands_left
paren_stays_left p k y z i =
    subst (λ w. stays_left p k y w ≡ true) (sym i.1)
    (joined (is_struct k) _ (chains (in_parens i.0) k) (λ s. paren_left p k i.0 s))

-- So an operand that is the same in normal form is in no parentheses that were put there.
record Right (p : Position) (k : Kind) (y z x : Tree) : Type 0 where
  same : z ≡ x
  stays : stays_right p k y x ≡ true

right_back : (p q : Position) (k : Kind) (y x : Tree) (ts : List Token) (b : Bool)
    → stays_right p k y (formed q ts x) ≡ b → parens_unless b (formed q ts x) ≡ x → Right p k y (formed q ts x) x
right_back p q k y x ts true i e = record { same = e; stays = subst (λ w. stays_right p k y w ≡ true) e i }
right_back p q k y x ts false i e =
    let s : IsParen (formed q ts x) =
    subst (λ w. IsParen (formed q ts w)) e (paren_formed q ts (formed q ts x)) in
    absurd (false≢true (sym i ∙ paren_stays_right p k y (formed q ts x) s))

record Left (p : Position) (k : Kind) (y z x : Tree) : Type 0 where
  same : z ≡ x
  stays : stays_left p k y x ≡ true

left_back : (p : Position) (k : Kind) (y x : Tree) (ts : List Token) (b : Bool)
    → stays_left p k y (formed p ts x) ≡ b → parens_unless b (formed p ts x) ≡ x → Left p k y (formed p ts x) x
left_back p k y x ts true i e = record { same = e; stays = subst (λ w. stays_left p k y w ≡ true) e i }
left_back p k y x ts false i e =
    let s : IsParen (formed p ts x) =
    subst (λ w. IsParen (formed p ts w)) e (paren_formed p ts (formed p ts x)) in
    absurd (false≢true (sym i ∙ paren_stays_left p k y (formed p ts x) s))

-- each form
alone_settles : (p : Position) (ts : List Token) (k : Kind) (y : Tree) (b : Bool) → takes_what_follows p k ts ≡ b
    → parens_unless (not b) (Alone k (normal y)) ≡ Alone k y → Settled p ts (Alone k y)
alone_settles p ts k y true i e =
    let f : takes_what_follows p ExprParen ts ≡ true =
    subst (λ j. takes_what_follows p j ts ≡ true) (sym (ap kind_of e)) i in
    absurd (false≢true (sym (paren_takes p ts) ∙ f))
alone_settles p ts k y false i e = (ap own_of e, i)

pub settles : (x : Tree) (p : Position) (ts : List Token) → formed p ts x ≡ x → Settled p ts x
settles (Alone k y) p ts e = alone_settles p ts k y (takes_what_follows p k ts) refl e
settles (Front k y x) p ts e = go (λ h. settles x (inside p k) ts h) (begins_in p k) refl e
  where
    z : Tree
    z = formed (inside p k) ts x

    go : (z ≡ x → Settled (inside p k) ts x) → (b : Bool) → begins_in p k ≡ b
        → parens_unless b (Front k (normal y) (parens_unless (stays_right p k (normal y) z) z)) ≡ Front k y x
        → Settled p ts (Front k y x)
    go f false i e = absurd (false≢true (sym (ap is_alone e)))
    go f true i e =
        let n : normal y ≡ y = ap own_of e in
        let r = right_back p (inside p k) k (normal y) x ts (stays_right p k (normal y) z) refl (ap right_of e) in
        (n, i, subst (λ w. stays_right p k w x ≡ true) n r.stays, f r.same)
settles (Back l k y) p ts e =
    go (λ h. settles l p (follow (flat (normal y))) h) (stands_in p k && not (takes_what_follows p k ts)) refl e
  where
    us : List Token
    us = follow (flat (normal y))

    go : (formed p us l ≡ l → Settled p us l) → (b : Bool) → (stands_in p k && not (takes_what_follows p k ts)) ≡ b
        → parens_unless b
        (Back (parens_unless (stays_left p k (normal y) (formed p us l)) (formed p us l)) k (normal y)) ≡ Back l k y
        → Settled p ts (Back l k y)
    go f false i e = absurd (false≢true (sym (ap is_alone e)))
    go f true i e =
        let n : normal y ≡ y = ap own_of e in
        let a = and_true (stands_in p k) (not (takes_what_follows p k ts)) i in
        let r = left_back p k (normal y) l us (stays_left p k (normal y) (formed p us l)) refl (ap left_of e) in (
          n,
          a.0,
          not_true (takes_what_follows p k ts) a.1,
          subst (λ w. stays_left p k w l ≡ true) n r.stays,
          subst (λ w. Settled p (follow (flat w)) l) n (f r.same),
        )
settles (Infix l k y x) p ts e =
    let us : List Token = follow (flat (normal y)) in
    let n : normal y ≡ y = ap own_of e in
    let a = left_back p k (normal y) l us (stays_left p k (normal y) (formed p us l)) refl (ap left_of e) in
    let b =
    right_back p (inside p k) k (normal y) x ts (stays_right p k (normal y) (formed (inside p k) ts x)) refl
    (ap right_of e) in (
      n,
      subst (λ w. stays_left p k w l ≡ true) n a.stays,
      subst (λ w. Settled p (follow (flat w)) l) n (settles l p us a.same),
      subst (λ w. stays_right p k w x ≡ true) n b.stays,
      settles x (inside p k) ts b.same,
    )
settles _ p ts e = tt

-- So what it has in parentheses is in normal form by itself,
abbrev inside_parens : Tree → Tree
inside_parens (Group d (Final (Node k (Whole x)))) = x
inside_parens x = x

pub settled_inside : (x : Tree) → normal (Group Parenthesis (Final (Node (Expression Plain) (Whole x))))
    ≡ Group Parenthesis (Final (Node (Expression Plain) (Whole x))) → formed Plain (stands_behind Plain) x ≡ x
unfolding passed
settled_inside x e = ap inside_parens e

-- and what stands left of its form is settled, though numbers stand between them.
pub record Within (p : Position) (x : Tree) : Type 0 where
  pub behind : List Token
  pub settled : Settled p behind x

fields_within : (texts : List (List ℕ)) (l : Tree) (p : Position) (ts : List Token)
    → Settled p ts (index_fields l texts) → Within p l
fields_within [] l p ts s = record { behind = ts; settled = s }
fields_within (cs ∷ texts) l p ts s =
    let w = fields_within texts (index_field l cs) p ts s in record { behind = _; settled = w.settled.4 }

front_within : (x l : Tree) (p : Position) (ts : List Token) → Settled p ts (fields_in_front l x) → Within p l
front_within (Again (ALiteral cs) x) l p ts s =
    let w = front_within x (index_fields l (indices cs)) p ts s in
    fields_within (indices cs) l p w.behind w.settled
front_within _ l p ts s = record { behind = ts; settled = s }

last_within : (l : Tree) (k : Kind) (d x : Tree) (p : Position) (ts : List Token)
    → Settled p ts (last_fields l k d x) → Within p l
last_within l ExprField d (Second (Called the_value (ALiteral cs))) p ts s = fields_within (indices cs) l p ts s
last_within l _ d x p ts s = record { behind = _; settled = s.4 }

own_within : (l : Tree) (k : Kind) (y : Tree) (p : Position) (ts : List Token)
    → Settled p ts (dotted_own l k y) → Within p l
own_within l k (Pair (Pair d (Called the_indices x)) y) p ts s =
    let w = last_within (fields_in_front l x) k d y p ts s in front_within x l p w.behind w.settled
own_within l k _ p ts s = record { behind = _; settled = s.4 }

pub dotted_within : (l : Tree) (k : Kind) (y : Tree) (p : Position) (ts : List Token) → Settled p ts (dotted l k y)
    → Within p l
dotted_within l ExprField y p ts s = own_within l ExprField y p ts s
dotted_within l ExprMethodCall y p ts s = own_within l ExprMethodCall y p ts s
dotted_within l ExprAwait y p ts s = own_within l ExprAwait y p ts s
dotted_within l _ y p ts s = record { behind = _; settled = s.4 }
