-- Own parts that nothing behind them changes are read wherever their forms may stand, if they are read by themselves.
use Rattle.std.proofs.Common.{◌≡◌, ℕ, List, [], ◌∷◌, ◌++◌, refl, sym, ap, ◌∙◌, subst}
use Rattle.std.specs.Prelude.{Bool, true, false, ◌||◌, Some, codes}
use Rattle.std.proofs.lemmas.Slice.Eq.{bytes_eq-Decides}
use Rattle.std.proofs.lemmas.Bool.{false≢true}
use Rattle.proc_macro2.specs.Token.{Token, Opens, Closes, Ident, Literal}
use Rattle.proc_macro2.specs.declared.delimiter.Delimiter.{Delimiter}
use Rattle.proc_macro2.specs.declared.delimiter.Delimiter.TheVariants as D
use Rattle.rust_leaf.specs.declared.punct.Spacing.TheVariants.{Alone as Apart}
use Rattle.syn_grammar.specs.Kind.{Kind, Position, Plain, InCondition, InArm}
use Rattle.syn_grammar.specs.Kind.{InStatement, ExprLit, ExprParen, ExprGroup, ExprInfer, ExprUnsafe}
use Rattle.syn_grammar.specs.Kind.{ExprTryBlock, ExprReturn, ExprYield, ExprUnary, ExprRange, ExprRangeClosed}
use Rattle.syn_grammar.specs.Kind.{ExprCall, ExprIndex, ExprTry, ExprAssign, ExprOr, ExprAnd, ExprCompare, ExprBitOr}
use Rattle.syn_grammar.specs.Kind.{ExprBitXor, ExprBitAnd, ExprShift, ExprSum, ExprProduct, Body, Block}
use Rattle.syn_grammar.specs.Words.{is_bool}
use Rattle.rust_leaf.specs.Keywords.{same_text}
use Rattle.syn_grammar.specs.Tree.{Tree, AWord, ALiteral, Pair, First, Second, Group, Node, marks, flat}
use Rattle.syn_grammar.specs.Gram.{Gram, word, mark, group, seq, ref}
use Rattle.syn_grammar.specs.Look.{sees}
use Rattle.syn_grammar.specs.Say.{one_sign, lit, brace}
use Rattle.syn_grammar.specs.Forms.{front, back}
use Rattle.syn_grammar.specs.Table.{table}
use Rattle.syn_grammar.specs.Derives.{Derives}
use Rattle.laws_binding.proofs.Sights.{back_same}
use Rattle.laws_reread_expressions.specs.Behind.{no_operand}
use Rattle.laws_reread_expressions.specs.Firm.{is_firm_front, is_firm_behind, IsOwn}
use Rattle.laws_reread_expressions.specs.Formed.{IsFront, IsBehind}
use Rattle.laws_reread_expressions.proofs.Signs.{sign_is, mark_before, signs_before, Each, each_sign}

-- what is seen at tokens that an own part begins with
abbrev Fronts : Kind → List Token → Type 0
Fronts k us =
    (p : Position) (ts : List Token) → (front p (us ++ ts) ≡ Some k) × (sees no_operand (us ++ ts) ≡ false)

abbrev Backs : Kind → List Token → Type 0
Backs k us = (p : Position) (ts : List Token) → back p (us ++ ts) ≡ Some k

-- a punctuation
mark_front : (M : List Token → Type 0) (k : Kind) (c : ℕ) (cs : List ℕ) → table k ≡ mark c cs
    → Fronts k (marks c cs Apart) → (y : Tree) → IsOwn k y → IsFront M k y
mark_front M k c cs e f y o =
    let d : Derives y (mark c cs) [] = subst (λ g. Derives y g []) e o.0 in
    let h : marks c cs Apart ≡ flat y = sym (ap flat (sign_is c cs y [] d o.1)) in
    record {
      begins = λ p ts s m. subst (λ us. front p (us ++ ts) ≡ Some k) h (f p ts).0;
      read = λ ts m. subst (λ g. Derives y g ts) (sym e) (mark_before c cs y [] ts d);
      held = o.1;
      single = λ ts m. subst (λ us. sees no_operand (us ++ ts) ≡ false) h (f Plain ts).1;
    }

mark_behind : (M : List Token → Type 0) (k : Kind) (c : ℕ) (cs : List ℕ) → table k ≡ mark c cs
    → Backs k (marks c cs Apart) → (y : Tree) → IsOwn k y → IsBehind M k y
mark_behind M k c cs e f y o =
    let d : Derives y (mark c cs) [] = subst (λ g. Derives y g []) e o.0 in
    let h : marks c cs Apart ≡ flat y = sym (ap flat (sign_is c cs y [] d o.1)) in
    record {
      goes_on = λ p ts s m. subst (λ us. back p (us ++ ts) ≡ Some k) h (f p ts);
      read = λ ts m. subst (λ g. Derives y g ts) (sym e) (mark_before c cs y [] ts d);
      held = o.1;
    }

-- one of some punctuations
signs_front : (M : List Token → Type 0) (k : Kind) (texts : List (List ℕ)) → table k ≡ one_sign texts
    → Each (Fronts k) texts → (y : Tree) → IsOwn k y → IsFront M k y
signs_front M k texts e f y o =
    let d : Derives y (one_sign texts) [] = subst (λ g. Derives y g []) e o.0 in
    let h = each_sign (Fronts k) texts y [] d o.1 f in
    record {
      begins = λ p ts s m. (h p ts).0;
      read = λ ts m. subst (λ g. Derives y g ts) (sym e) (signs_before texts y [] ts d o.1);
      held = o.1;
      single = λ ts m. (h Plain ts).1;
    }

signs_behind : (M : List Token → Type 0) (k : Kind) (texts : List (List ℕ)) → table k ≡ one_sign texts
    → Each (Backs k) texts → (y : Tree) → IsOwn k y → IsBehind M k y
signs_behind M k texts e f y o =
    let d : Derives y (one_sign texts) [] = subst (λ g. Derives y g []) e o.0 in
    let h = each_sign (Backs k) texts y [] d o.1 f in
    record {
      goes_on = λ p ts s m. h p ts;
      read = λ ts m. subst (λ g. Derives y g ts) (sym e) (signs_before texts y [] ts d o.1);
      held = o.1;
    }

-- a group
group_before : (d : Delimiter) (g : Gram) (y : Tree) (r s : List Token) → Derives y (group d g) r
    → Derives y (group d g) s
group_before d g (Group e x) r s h = h
group_before d g _ r s h = elim h [ ]

group_opens : (d : Delimiter) (g : Gram) (y : Tree) (r : List Token) → Derives y (group d g) r
    → (us : List Token) × (flat y ≡ Opens d ∷ us)
group_opens d g (Group e x) r h = (flat x ++ Closes e ∷ [], ap (λ c. Opens c ∷ flat x ++ Closes e ∷ []) h.0)
group_opens d g _ r h = elim h [ ]

group_front : (M : List Token → Type 0) (k : Kind) (d : Delimiter) (g : Gram) → table k ≡ group d g
    → ((p : Position) (us : List Token) → front p (Opens d ∷ us) ≡ Some k) → (y : Tree) → IsOwn k y → IsFront M k y
group_front M k d g e f y o =
    let h : Derives y (group d g) [] = subst (λ g. Derives y g []) e o.0 in
    let i = group_opens d g y [] h in
    record {
      begins = λ p ts s m. subst (λ us. front p (us ++ ts) ≡ Some k) (sym i.1) (f p (i.0 ++ ts));
      read = λ ts m. subst (λ g. Derives y g ts) (sym e) (group_before d g y [] ts h);
      held = o.1;
      single = λ ts m. ap (λ us. sees no_operand (us ++ ts)) i.1;
    }

group_behind : (M : List Token → Type 0) (k : Kind) (d : Delimiter) (g : Gram) → table k ≡ group d g
    → ((us : List Token) → (back Plain (Opens d ∷ us) ≡ Some k) × (sees brace (Opens d ∷ us) ≡ false)) → (y : Tree)
    → IsOwn k y → IsBehind M k y
group_behind M k d g e f y o =
    let h : Derives y (group d g) [] = subst (λ g. Derives y g []) e o.0 in
    let i = group_opens d g y [] h in
    record {
      goes_on = λ p ts s m. subst (λ us. back p (us ++ ts) ≡ Some k) (sym i.1)
          (back_same p Plain (Opens d ∷ i.0 ++ ts) (f (i.0 ++ ts)).1 ∙ (f (i.0 ++ ts)).0);
      read = λ ts m. subst (λ g. Derives y g ts) (sym e) (group_before d g y [] ts h);
      held = o.1;
    }

-- a word
word_before : (text : List ℕ) (y : Tree) (r s : List Token) → Derives y (word (λ cs. same_text text cs)) r
    → Derives y (word (λ cs. same_text text cs)) s
word_before text (AWord cs) r s h = h
word_before text _ r s h = elim h [ ]

word_is : (text : List ℕ) (y : Tree) (r : List Token) → Derives y (word (λ cs. same_text text cs)) r
    → Ident text ∷ [] ≡ flat y
word_is text (AWord cs) r h = ap (λ w. Ident w ∷ []) ((bytes_eq-Decides text cs).0 h)
word_is text _ r h = elim h [ ]

word_front : (M : List Token → Type 0) (k : Kind) (text : List ℕ) → table k ≡ word (λ cs. same_text text cs)
    → Fronts k (Ident text ∷ []) → (y : Tree) → IsOwn k y → IsFront M k y
word_front M k text e f y o =
    let d : Derives y (word (λ cs. same_text text cs)) [] = subst (λ g. Derives y g []) e o.0 in
    let h = word_is text y [] d in
    record {
      begins = λ p ts s m. subst (λ us. front p (us ++ ts) ≡ Some k) h (f p ts).0;
      read = λ ts m. subst (λ g. Derives y g ts) (sym e) (word_before text y [] ts d);
      held = o.1;
      single = λ ts m. subst (λ us. sees no_operand (us ++ ts) ≡ false) h (f Plain ts).1;
    }

-- a word and a block
block_before : (text : List ℕ) (j : Kind) (d : Delimiter) (g : Gram) → table j ≡ group d g → (y : Tree)
    (r s : List Token) → Derives y (seq (word (λ cs. same_text text cs)) (ref j)) r
    → Derives y (seq (word (λ cs. same_text text cs)) (ref j)) s
block_before text j d g e (Pair x (Node i z)) r s h = (
  word_before text x (flat z ++ r) (flat z ++ s) h.0,
  (
    h.1.0,
    subst (λ a. Derives z a s) (sym (ap table h.1.0 ∙ e))
        (group_before d g z r s (subst (λ a. Derives z a r) (ap table h.1.0 ∙ e) h.1.1)),
  ),
)
block_before text j d g e (Pair x _) r s h = elim h.1 [ ]
block_before text j d g e _ r s h = elim h [ ]

block_is : (text : List ℕ) (j : Kind) (y : Tree) (r : List Token)
    → Derives y (seq (word (λ cs. same_text text cs)) (ref j)) r → (us : List Token) × (flat y ≡ Ident text ∷ us)
block_is text j (Pair x z) r h = (flat z, ap (λ us. us ++ flat z) (sym (word_is text x (flat z ++ r) h.0)))
block_is text j _ r h = elim h [ ]

block_front : (M : List Token → Type 0) (k : Kind) (text : List ℕ) (j : Kind) (d : Delimiter) (g : Gram)
    → table k ≡ seq (word (λ cs. same_text text cs)) (ref j) → table j ≡ group d g → Fronts k (Ident text ∷ [])
    → (y : Tree) → IsOwn k y → IsFront M k y
block_front M k text j d g e i f y o =
    let h : Derives y (seq (word (λ cs. same_text text cs)) (ref j)) [] = subst (λ g. Derives y g []) e o.0 in
    let b = block_is text j y [] h in
    record {
      begins = λ p ts s m. subst (λ us. front p (us ++ ts) ≡ Some k) (sym b.1) (f p (b.0 ++ ts)).0;
      read = λ ts m. subst (λ g. Derives y g ts) (sym e) (block_before text j d g i y [] ts h);
      held = o.1;
      single = λ ts m. subst (λ us. sees no_operand (us ++ ts) ≡ false) (sym b.1) (f Plain (b.0 ++ ts)).1;
    }

-- a literal
bool_is : (cs : List ℕ) (P : List ℕ → Type 0) → is_bool cs ≡ true → P (codes "true") → P (codes "false") → P cs
unfolding is_bool
bool_is cs P e t f = go (same_text (codes "true") cs) (same_text (codes "false") cs) refl refl e
  where
    go : (a b : Bool) → same_text (codes "true") cs ≡ a → same_text (codes "false") cs ≡ b → (a || (b || false)) ≡ true
        → P cs
    go true b i j e = subst P ((bytes_eq-Decides (codes "true") cs).0 i) t
    go false true i j e = subst P ((bytes_eq-Decides (codes "false") cs).0 j) f
    go false false i j e = absurd (false≢true e)

lit_before : (y : Tree) (r s : List Token) → Derives y lit r → Derives y lit s
lit_before (First (ALiteral cs)) r s h = (refl, h.1)
lit_before (First _) r s h = elim h.1 [ ]
lit_before (Second (AWord cs)) r s h = (refl, h.1)
lit_before (Second _) r s h = elim h.1 [ ]
lit_before _ r s h = elim h [ ]

quoted_fronts : (cs : List ℕ) → Fronts ExprLit (Literal cs ∷ [])
unfolding front
quoted_fronts cs p ts = (refl, refl)

true_fronts : Fronts ExprLit (Ident (codes "true") ∷ [])
unfolding front is_bool
true_fronts p ts = (refl, refl)

false_fronts : Fronts ExprLit (Ident (codes "false") ∷ [])
unfolding front is_bool
false_fronts p ts = (refl, refl)

lit_fronts : (y : Tree) (r : List Token) → Derives y lit r → Fronts ExprLit (flat y)
lit_fronts (First (ALiteral cs)) r h = quoted_fronts cs
lit_fronts (First _) r h = elim h.1 [ ]
lit_fronts (Second (AWord cs)) r h = bool_is cs (λ w. Fronts ExprLit (Ident w ∷ [])) h.1 true_fronts false_fronts
lit_fronts (Second _) r h = elim h.1 [ ]
lit_fronts _ r h = elim h [ ]

lit_front : (M : List Token → Type 0) (y : Tree) → IsOwn ExprLit y → IsFront M ExprLit y
unfolding table
lit_front M y o = record {
  begins = λ p ts s m. (lit_fronts y [] o.0 p ts).0;
  read = λ ts m. lit_before y [] ts o.0;
  held = o.1;
  single = λ ts m. (lit_fronts y [] o.0 Plain ts).1;
}

-- behind where a let may stand
star_fronts : Fronts ExprUnary (marks 42 [] Apart)
unfolding front
star_fronts Plain ts = (refl, refl)
star_fronts InCondition ts = (refl, refl)
star_fronts InArm ts = (refl, refl)
star_fronts InStatement ts = (refl, refl)

bang_fronts : Fronts ExprUnary (marks 33 [] Apart)
unfolding front
bang_fronts Plain ts = (refl, refl)
bang_fronts InCondition ts = (refl, refl)
bang_fronts InArm ts = (refl, refl)
bang_fronts InStatement ts = (refl, refl)

minus_fronts : Fronts ExprUnary (marks 45 [] Apart)
unfolding front
minus_fronts Plain ts = (refl, refl)
minus_fronts InCondition ts = (refl, refl)
minus_fronts InArm ts = (refl, refl)
minus_fronts InStatement ts = (refl, refl)

dots_fronts : Fronts ExprRange (marks 46 (46 ∷ []) Apart)
unfolding front
dots_fronts Plain ts = (refl, refl)
dots_fronts InCondition ts = (refl, refl)
dots_fronts InArm ts = (refl, refl)
dots_fronts InStatement ts = (refl, refl)

closed_fronts : Fronts ExprRangeClosed (marks 46 (46 ∷ 61 ∷ []) Apart)
unfolding front
closed_fronts Plain ts = (refl, refl)
closed_fronts InCondition ts = (refl, refl)
closed_fronts InArm ts = (refl, refl)
closed_fronts InStatement ts = (refl, refl)

-- each kind
pub front_part : (M : List Token → Type 0) (k : Kind) (y : Tree) → is_firm_front k ≡ true → IsOwn k y → IsFront M k y
unfolding table front is_bool
front_part M ExprLit y e o = lit_front M y o
front_part M ExprParen y e o = group_front M ExprParen D.Parenthesis _ refl (λ p us. refl) y o
front_part M ExprGroup y e o = group_front M ExprGroup D.None _ refl (λ p us. refl) y o
front_part M ExprInfer y e o = word_front M ExprInfer (codes "_") refl (λ p us. (refl, refl)) y o
front_part M ExprUnsafe y e o =
    block_front M ExprUnsafe (codes "unsafe") Body D.Brace _ refl refl (λ p us. (refl, refl)) y o
front_part M ExprTryBlock y e o =
    block_front M ExprTryBlock (codes "try") Block D.Brace _ refl refl (λ p us. (refl, refl)) y o
front_part M ExprReturn y e o = word_front M ExprReturn (codes "return") refl (λ p us. (refl, refl)) y o
front_part M ExprYield y e o = word_front M ExprYield (codes "yield") refl (λ p us. (refl, refl)) y o
front_part M ExprUnary y e o =
    signs_front M ExprUnary (codes "*" ∷ codes "!" ∷ codes "-" ∷ []) refl
    (star_fronts, (bang_fronts, (minus_fronts, tt))) y o
front_part M ExprRange y e o = mark_front M ExprRange 46 (46 ∷ []) refl dots_fronts y o
front_part M ExprRangeClosed y e o = mark_front M ExprRangeClosed 46 (46 ∷ 61 ∷ []) refl closed_fronts y o
front_part M _ y e o = absurd (false≢true e)

plain_try : (us : List Token) → back Plain (marks 63 [] Apart ++ us) ≡ Some ExprTry
unfolding back
plain_try us = refl

pub behind_part : (M : List Token → Type 0) (k : Kind) (y : Tree) → is_firm_behind k ≡ true → IsOwn k y
    → IsBehind M k y
unfolding table back
behind_part M ExprCall y e o = group_behind M ExprCall D.Parenthesis _ refl (λ us. (refl, refl)) y o
behind_part M ExprIndex y e o = group_behind M ExprIndex D.Bracket _ refl (λ us. (refl, refl)) y o
behind_part M ExprTry y e o =
    mark_behind M ExprTry 63 [] refl
    (λ p us. back_same p Plain (marks 63 [] Apart ++ us) refl ∙ plain_try us) y o
behind_part M ExprRange y e o = mark_behind M ExprRange 46 (46 ∷ []) refl (λ p us. refl) y o
behind_part M ExprRangeClosed y e o = mark_behind M ExprRangeClosed 46 (46 ∷ 61 ∷ []) refl (λ p us. refl) y o
behind_part M ExprAssign y e o =
    signs_behind M ExprAssign (codes "=" ∷ codes "+=" ∷ codes "-=" ∷ codes "*=" ∷ codes "/=" ∷ codes "%=" ∷ codes "^="
    ∷ codes "&=" ∷ codes "|=" ∷ codes "<<=" ∷ codes ">>=" ∷ []) refl (
      λ p us. refl,
      (
        λ p us. refl,
        (
          λ p us. refl,
          (
            λ p us. refl,
            (
              λ p us. refl,
              (
                λ p us. refl,
                (λ p us. refl, (λ p us. refl, (λ p us. refl, (λ p us. refl, (λ p us. refl, tt))))),
              ),
            ),
          ),
        ),
      ),
    ) y o
behind_part M ExprOr y e o = mark_behind M ExprOr 124 (124 ∷ []) refl (λ p us. refl) y o
behind_part M ExprAnd y e o = mark_behind M ExprAnd 38 (38 ∷ []) refl (λ p us. refl) y o
behind_part M ExprCompare y e o =
    signs_behind M ExprCompare (codes "==" ∷ codes "<=" ∷ codes "!=" ∷ codes ">=" ∷ codes "<" ∷ codes ">" ∷ []) refl
    (λ p us. refl, (λ p us. refl, (λ p us. refl, (λ p us. refl, (λ p us. refl, (λ p us. refl, tt)))))) y o
behind_part M ExprBitOr y e o = mark_behind M ExprBitOr 124 [] refl (λ p us. refl) y o
behind_part M ExprBitXor y e o = mark_behind M ExprBitXor 94 [] refl (λ p us. refl) y o
behind_part M ExprBitAnd y e o = mark_behind M ExprBitAnd 38 [] refl (λ p us. refl) y o
behind_part M ExprShift y e o =
    signs_behind M ExprShift (codes "<<" ∷ codes ">>" ∷ []) refl (λ p us. refl, (λ p us. refl, tt)) y o
behind_part M ExprSum y e o =
    signs_behind M ExprSum (codes "+" ∷ codes "-" ∷ []) refl (λ p us. refl, (λ p us. refl, tt)) y o
behind_part M ExprProduct y e o =
    signs_behind M ExprProduct (codes "*" ∷ codes "/" ∷ codes "%" ∷ []) refl
    (λ p us. refl, (λ p us. refl, (λ p us. refl, tt))) y o
behind_part M _ y e o = absurd (false≢true e)
