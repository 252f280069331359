-- An expression with each operand in parentheses is in normal form: each stays as it stands.
use Rattle.std.proofs.Common.{◌≡◌, List, [], ◌∷◌, ◌++◌, refl, ap, subst, sym}
use Rattle.std.specs.Prelude.{Bool, true, false, not, ◌&&◌}
use Rattle.std.proofs.lemmas.Bool.{false≢true}
use Rattle.proc_macro2.specs.Token.{Token, Closes}
use Rattle.proc_macro2.specs.declared.delimiter.Delimiter.TheVariants.{Parenthesis}
use Rattle.syn_grammar.specs.Kind.{Kind, Plain, ExprAttributed, ExprBreak, ExprPath, ExprStruct}
use Rattle.syn_grammar.specs.Tree.{Tree, Alone, Front, Back, Infix, flat}
use Rattle.syn_grammar.specs.Forms.{chains, has_right, inside, level, is_path_form}
use Rattle.syn_grammar.specs.Normal.{normal}
use Rattle.syn_grammar.specs.Parens.{in_parens, parens_unless, may_lack, stays_right, stays_left}
use Rattle.syn_grammar.specs.Parens.{is_struct, follow}
use Rattle.syn_grammar.proofs.Settled.{Settled, normal_twice, parens_settled, plain_inside, takes_nothing}
use Rattle.syn_grammar.proofs.Whole.{and_true}
use Rattle.laws_reread_expressions.specs.Behind.{is_attributed}
use Rattle.laws_reread_expressions.specs.Formed.{is_attributed_form}
use Rattle.laws_reread_expressions.proofs.Begins.{paren_operand}
use Rattle.laws_reread_expressions.proofs.Stands.{path_takes}
use Rattle.laws_reread_built.specs.Spelled.{parenthesized}
use Rattle.laws_reread_built.proofs.Stays.{list_stays, struct_stays}

-- an operand in parentheses stays
right_stays : (k : Kind) (y x : Tree) → stays_right Plain k y (in_parens x) ≡ true
unfolding may_lack has_right level
right_stays ExprBreak y x = ap (λ b. not b && true) (paren_operand ExprBreak y (flat x ++ Closes Parenthesis ∷ [])).1
right_stays _ y x = refl

left_stays : (k : Kind) (y x : Tree) → stays_left Plain k y (in_parens x) ≡ true
unfolding level chains
left_stays ExprStruct y x = refl
left_stays _ y x = refl

-- and so do attributes behind attributes
list_right : (k : Kind) (y x : Tree) → (is_attributed k && is_attributed_form x) ≡ true
    → Settled Plain [] (parenthesized x) → stays_right Plain k y (parenthesized x) ≡ true
list_right ExprAttributed y (Front ExprAttributed z x) e s = list_stays Plain y (normal z) _ s.2
list_right ExprAttributed y (Front _ z x) e s = absurd (false≢true e)
list_right ExprAttributed y _ e s = absurd (false≢true e)
list_right _ y x e s = absurd (false≢true e)

-- the operands
record Right (k : Kind) (y x : Tree) : Type 0 where
  stays : stays_right Plain k y x ≡ true
  settled : Settled (inside Plain k) [] x

right : (k : Kind) (y x : Tree) (b : Bool) → (is_attributed k && is_attributed_form x) ≡ b
    → Settled Plain [] (parenthesized x) → Right k y (parens_unless b (parenthesized x))
right k y x true e s = record {
  stays = list_right k y x e s;
  settled = subst (λ p. Settled p [] (parenthesized x)) (sym (plain_inside k)) s;
}
right k y x false e s = record {
  stays = right_stays k y (parenthesized x);
  settled = parens_settled (inside Plain k) [] (parenthesized x) s;
}

record Left (k : Kind) (y x : Tree) : Type 0 where
  stays : stays_left Plain k y x ≡ true
  settled : Settled Plain (follow (flat y)) x

path_settled : (x : Tree) (ts : List Token) → is_path_form x ≡ true → Settled Plain (follow ts) (parenthesized x)
path_settled (Alone ExprPath y) ts e = (normal_twice Plain y, path_takes Plain ts)
path_settled (Alone _ y) ts e = absurd (false≢true e)
path_settled _ ts e = absurd (false≢true e)

left : (k : Kind) (y x : Tree) (b : Bool) → (is_struct k && is_path_form x) ≡ b → Settled Plain [] (parenthesized x)
    → Left k y (parens_unless b (parenthesized x))
left k y x true e s =
    let i = and_true (is_struct k) (is_path_form x) e in
    record { stays = struct_stays Plain k y (parenthesized x) i.0; settled = path_settled x (flat y) i.1 }
left k y x false e s = record {
  stays = left_stays k y (parenthesized x);
  settled = parens_settled Plain (follow (flat y)) (parenthesized x) s;
}

pub settled : (x : Tree) → Settled Plain [] (parenthesized x)
settled (Alone k y) = (normal_twice Plain y, takes_nothing k)
settled (Front k y x) =
    let a = right k (normal y) x (is_attributed k && is_attributed_form x) refl (settled x) in
    (normal_twice Plain y, refl, a.stays, a.settled)
settled (Back l k y) =
    let a = left k (normal y) l (is_struct k && is_path_form l) refl (settled l) in
    (normal_twice Plain y, refl, takes_nothing k, a.stays, a.settled)
settled (Infix l k y r) = (
  normal_twice Plain y,
  left_stays k (normal y) (parenthesized l),
  parens_settled Plain (follow (flat (normal y))) (parenthesized l) (settled l),
  right_stays k (normal y) (parenthesized r),
  parens_settled (inside Plain k) [] (parenthesized r) (settled r),
)
settled _ = tt
