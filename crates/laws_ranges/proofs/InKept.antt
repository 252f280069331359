-- What is put in parentheses is seen in what was read.
use Rattle.std.proofs.Common.{◌≡◌, List, ◌++◌, refl, sym, ap, ◌∙◌}
use Rattle.std.specs.Prelude.{Bool, true, false, ◌&&◌, ◌||◌, cond}
use Rattle.proc_macro2.specs.Token.{Token}
use Rattle.syn_grammar.specs.Kind.{Kind, Position, ExprAttributed, ExprField, ExprMethodCall, ExprAwait, ExprCast}
use Rattle.syn_grammar.specs.Tree.{Tree, Alone, Front, Back, Infix, flat}
use Rattle.syn_grammar.specs.Table.{table}
use Rattle.syn_grammar.specs.Derives.{Derives, Bound}
use Rattle.syn_grammar.specs.Kept.{attributed, dotted, kept}
use Rattle.syn_grammar.specs.Forms.{level, is_range, takes}
use Rattle.laws_binding.proofs.Shells.{is_dot, undotted, dotted_has, dotted_own}
use Rattle.laws_binding.proofs.Same.{dot_level}
use Rattle.laws_ranges.specs.Shelled.{is_lone_range, is_shelled, has_shell, goes_in}
use Rattle.laws_ranges.specs.Opens.{opens}
use Rattle.laws_ranges.proofs.Parens.{range_split}
use Rattle.laws_ranges.proofs.Dotted.{dotted_by, dotted_is}

pub lone_kept : (x : Tree) → is_lone_range (kept x) ≡ is_lone_range x
unfolding level
lone_kept (Back l ExprField y) =
    dotted_by (λ z. is_lone_range z ≡ false) (λ m w. refl) (kept l) ExprField (kept y) (λ m w. refl)
lone_kept (Back l ExprMethodCall y) =
    dotted_by (λ z. is_lone_range z ≡ false) (λ m w. refl) (kept l) ExprMethodCall (kept y) (λ m w. refl)
lone_kept (Back l ExprAwait y) =
    dotted_by (λ z. is_lone_range z ≡ false) (λ m w. refl) (kept l) ExprAwait (kept y) (λ m w. refl)
lone_kept _ = refl

pub range_kept : (x : Tree) → is_range (kept x) ≡ is_range x
unfolding level
range_kept (Front ExprAttributed y x) = range_kept x
range_kept (Front _ y x) = refl
range_kept (Back l ExprField y) =
    dotted_by (λ z. is_range z ≡ false) (λ m w. refl) (kept l) ExprField (kept y) (λ m w. refl)
range_kept (Back l ExprMethodCall y) =
    dotted_by (λ z. is_range z ≡ false) (λ m w. refl) (kept l) ExprMethodCall (kept y) (λ m w. refl)
range_kept (Back l ExprAwait y) =
    dotted_by (λ z. is_range z ≡ false) (λ m w. refl) (kept l) ExprAwait (kept y) (λ m w. refl)
range_kept _ = refl

pub shelled_kept : (k : Kind) (x : Tree) → is_shelled k (kept x) ≡ is_shelled k x
shelled_kept ExprAttributed x = lone_kept x
shelled_kept _ x = refl

shell_kept : (x : Tree) → has_shell (kept x) ≡ has_shell x
shell_kept (Front ExprAttributed y x) = range_kept x
shell_kept (Front _ y x) = refl
shell_kept (Back l k y) = dotted_is (λ z. has_shell z ≡ false) (λ m j w. refl) (kept l) k (kept y)
shell_kept _ = refl

pub goes_kept : (k : Kind) (x : Tree) → goes_in k (kept x) ≡ goes_in k x
goes_kept k (Front j y x) =
    ap (λ b. cond b (takes (level j) (level k))
    ((takes (level j) (level k) && has_shell (kept x)) || goes_in k (kept x))) (shelled_kept j x)
    ∙ ap (λ b. cond (is_shelled j x) (takes (level j) (level k))
    ((takes (level j) (level k) && b) || goes_in k (kept x))) (shell_kept x)
    ∙ ap (λ b. cond (is_shelled j x) (takes (level j) (level k))
    ((takes (level j) (level k) && has_shell x) || b)) (goes_kept k x)
goes_kept k (Infix l j y r) =
    ap (λ b. (takes (level j) (level k) && b) || goes_in k (kept r)) (shell_kept r)
    ∙ ap (λ b. (takes (level j) (level k) && has_shell r) || b) (goes_kept k r)
goes_kept k (Back l j y) = dotted_is (λ z. goes_in k z ≡ false) (λ m i w. refl) (kept l) j (kept y)
goes_kept k _ = refl

-- the form behind counts by its level
pub goes_level : (j k : Kind) (x : Tree) → level j ≡ level k → goes_in j x ≡ goes_in k x
goes_level j k (Front i y x) e =
    ap (λ n. cond (is_shelled i x) (takes (level i) n) ((takes (level i) n && has_shell x) || goes_in j x)) e
    ∙ ap (λ b. cond (is_shelled i x) (takes (level i) (level k)) ((takes (level i) (level k) && has_shell x) || b))
    (goes_level j k x e)
goes_level j k (Infix l i y r) e =
    ap (λ n. (takes (level i) n && has_shell r) || goes_in j r) e
    ∙ ap (λ b. (takes (level i) (level k) && has_shell r) || b) (goes_level j k r e)
goes_level j k _ e = refl

pub dots_level : (j k : Kind) → is_dot j ≡ true → is_dot k ≡ true → level j ≡ level k
dots_level j k e f = dot_level j e ∙ sym (dot_level k f)

opens_dotted : (l : Tree) (k : Kind) (y : Tree) (r : List Token) → Derives y (table k) r
    → opens (dotted (kept l) k (kept y)) ≡ (goes_in k (kept l) || opens (kept l))
opens_dotted l k y r d = go (is_dot k) refl
  where
    go : (b : Bool) → is_dot k ≡ b → opens (dotted (kept l) k (kept y)) ≡ (goes_in k (kept l) || opens (kept l))
    go false e = ap opens (undotted (kept l) k (kept y) e)
    go true e =
        let o = dotted_own k y r e d in
        ap (λ v. opens (dotted (kept l) k v)) o.is
        ∙ dotted_has (λ j v. opens v ≡ (goes_in k (kept l) || opens (kept l)))
        (λ m. (goes_in ExprField m || opens m) ≡ (goes_in k (kept l) || opens (kept l))) o.back
        (λ m cs q. q) (λ m cs q. q)
        (λ j m f q. ap (λ b. b || opens m) (goes_level j ExprField m (dots_level j ExprField f refl)) ∙ q)
        k (kept l) o.front e
        (ap (λ b. b || opens (kept l)) (goes_level ExprField k (kept l) (dots_level ExprField k refl e)))

pub opens_kept : (x : Tree) (p : Position) (rest : List Token) → Bound p x rest → opens (kept x) ≡ opens x
opens_kept (Back l k y) p rest d =
    opens_dotted l k y rest d.1
    ∙ ap (λ b. b || opens (kept l)) (goes_kept k l) ∙ ap (λ b. goes_in k l || b) (opens_kept l p (flat y ++ rest) d.4)
opens_kept (Infix l k y r) p rest d =
    ap (λ b. b || opens (kept l)) (goes_kept k l)
    ∙ ap (λ b. goes_in k l || b) (opens_kept l p (flat y ++ (flat r ++ rest)) d.4)
opens_kept (Alone k y) p rest d = refl
opens_kept (Front k y x) p rest d = refl
opens_kept _ p rest d = elim d [ ]

-- attributes that are given to what stands left of a form change nothing there
and_no : (b : Bool) → (b && false) ≡ false
and_no true = refl
and_no false = refl

pub no_shell : (x : Tree) → is_range x ≡ false → (is_lone_range x ≡ false) × (has_shell x ≡ false)
no_shell x e = go (is_lone_range x) (has_shell x) (sym (range_split x) ∙ e)
  where
    go : (a b : Bool) → (a || b) ≡ false → (a ≡ false) × (b ≡ false)
    go false false f = (refl, refl)
    go false true f = cc
    go true b f = cc

goes_behind : (k : Kind) (x : Tree) (a : Tree) → is_range x ≡ false → goes_in k (Front ExprAttributed a x)
    ≡ goes_in k x
goes_behind k x a e =
    let n = no_shell x e in
    ap (λ b. cond b (takes (level ExprAttributed) (level k))
    ((takes (level ExprAttributed) (level k) && has_shell x) || goes_in k x)) n.0
    ∙ ap (λ b. (takes (level ExprAttributed) (level k) && b) || goes_in k x) n.1
    ∙ ap (λ b. b || goes_in k x) (and_no (takes (level ExprAttributed) (level k)))

pub goes_given : (k : Kind) (a x : Tree) → is_range x ≡ false → goes_in k (attributed a x) ≡ goes_in k x
goes_given k a (Infix l j y r) e =
    ap (λ b. goes_in k (cond b (Front ExprAttributed a (Infix l j y r)) (Infix (attributed a l) j y r))) e
goes_given k a (Back l ExprCast y) e = refl
goes_given k a (Back l j y) e = goes_behind k (Back l j y) a e
goes_given k a (Front j y x) e = goes_behind k (Front j y x) a e
goes_given k a (Alone j y) e = goes_behind k (Alone j y) a e
goes_given k a x e = goes_behind k x a e
