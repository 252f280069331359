-- An expression whose leftmost form has no attributes: it begins with no #, and in normal form it is one too.
use Rattle.std.proofs.Common.{◌≡◌, ℕ, List, [], ◌∷◌, ◌++◌, refl, sym, ap, ◌∙◌, subst, append_assoc}
use Rattle.std.specs.Prelude.{Bool, true, false, cond, not, ◌&&◌, Option, Some}
use Rattle.proc_macro2.specs.Token.{Token}
use Rattle.rust_leaf.specs.declared.punct.Spacing.{Spacing}
use Rattle.syn_grammar.specs.Kind.{Kind, Position, Plain, OuterAttribute, ExprAttributed, ExprField}
use Rattle.syn_grammar.specs.Kind.{ExprMethodCall, ExprAwait}
use Rattle.syn_grammar.specs.Name.{the_indices, the_value}
use Rattle.syn_grammar.specs.Words.{indices}
use Rattle.syn_grammar.specs.Tree.{Tree, ALiteral, AMark, Pair, Second, Again, Called, Node, Alone, Front, Back}
use Rattle.syn_grammar.specs.Tree.{Infix}
use Rattle.syn_grammar.specs.Tree.{marks as signs, flat}
use Rattle.syn_grammar.specs.Look.{Look, sees}
use Rattle.syn_grammar.specs.Say.{marks}
use Rattle.syn_grammar.specs.Table.{table}
use Rattle.syn_grammar.specs.Forms.{Case, form, first_form, front, fronts, has_right, inside, level}
use Rattle.syn_grammar.specs.Derives.{Derives, Bound}
use Rattle.syn_grammar.specs.Kept.{index_field, index_fields, fields_in_front, last_fields, dotted_own, dotted}
use Rattle.syn_grammar.specs.Kept.{kept}
use Rattle.syn_grammar.specs.Parens.{begins_in, follow, parens_unless, stands_in, stays_left, takes_what_follows}
use Rattle.syn_grammar.specs.Parens.{with_left, with_right}
use Rattle.syn_grammar.specs.Normal.{formed, normal_in}
use Rattle.laws_reread_kinds.specs.Sees.{Lacks}
use Rattle.laws_reread_kinds.proofs.Fits.{is_bare}

-- what is kept
bare_fields : (l : Tree) (texts : List (List ℕ)) → is_bare (index_fields l texts) ≡ is_bare l
bare_fields l [] = refl
bare_fields l (cs ∷ texts) = bare_fields (index_field l cs) texts

bare_in_front : (l x : Tree) → is_bare (fields_in_front l x) ≡ is_bare l
bare_in_front l (Again (ALiteral cs) x) =
    bare_in_front (index_fields l (indices cs)) x ∙ bare_fields l (indices cs)
bare_in_front l _ = refl

bare_last : (l : Tree) (k : Kind) (d x : Tree) → is_bare (last_fields l k d x) ≡ is_bare l
bare_last l ExprField d (Second (Called the_value (ALiteral cs))) = bare_fields l (indices cs)
bare_last l ExprField d _ = refl
bare_last l _ d _ = refl

bare_own : (l : Tree) (k : Kind) (y : Tree) → is_bare (dotted_own l k y) ≡ is_bare l
bare_own l k (Pair (Pair d (Called the_indices x)) y) =
    bare_last (fields_in_front l x) k d y ∙ bare_in_front l x
bare_own l k _ = refl

bare_dotted : (l : Tree) (k : Kind) (y : Tree) → is_bare (dotted l k y) ≡ is_bare l
bare_dotted l ExprField y = bare_own l ExprField y
bare_dotted l ExprMethodCall y = bare_own l ExprMethodCall y
bare_dotted l ExprAwait y = bare_own l ExprAwait y
bare_dotted l _ y = refl

bare_front : (k : Kind) (y x z w : Tree) → is_bare (Front k y x) ≡ is_bare (Front k z w)
bare_front ExprAttributed y x z w = refl
bare_front _ y x z w = refl

pub bare_kept : (x : Tree) → is_bare (kept x) ≡ is_bare x
bare_kept (Front k y x) = bare_front k (kept y) (kept x) y x
bare_kept (Back l k y) = bare_dotted (kept l) k (kept y) ∙ bare_kept l
bare_kept (Infix l k y r) = bare_kept l
bare_kept _ = refl

-- in normal form
bare_unless : (b : Bool) (x : Tree) → is_bare x ≡ true → is_bare (parens_unless b x) ≡ true
bare_unless true x e = e
bare_unless false x e = refl

pub bare_formed : (p : Position) (ts : List Token) (x : Tree) → is_bare x ≡ true → is_bare (formed p ts x) ≡ true
bare_formed p ts (Alone k y) e =
    bare_unless (not (takes_what_follows p k ts)) (Alone k (normal_in Plain y)) refl
bare_formed p ts (Front k y x) e =
    let own = normal_in Plain y in
    let z = with_right p k own (formed (inside p k) ts x) in
    bare_unless (begins_in p k) (Front k own z) (bare_front k own z y x ∙ e)
bare_formed p ts (Back l k y) e =
    let own = normal_in Plain y in
    let z = formed p (follow (flat own)) l in
    bare_unless (stands_in p k && not (takes_what_follows p k ts)) (Back (with_left p k own z) k own)
    (bare_unless (stays_left p k own z) z (bare_formed p (follow (flat own)) l e))
bare_formed p ts (Infix l k y r) e =
    let own = normal_in Plain y in
    let z = formed p (follow (flat own)) l in
    bare_unless (stays_left p k own z) z (bare_formed p (follow (flat own)) l e)
bare_formed p ts _ e = e

-- attributes begin with #
hash_at : (c : ℕ) (cs : List ℕ) (spacing : Spacing) (ts : List Token) → c ≡ 35 → cs ≡ []
    → sees (marks "#") (signs c cs spacing ++ ts) ≡ true
hash_at c cs spacing ts e f =
    subst (λ d. sees (marks "#") (signs d cs spacing ++ ts) ≡ true) (sym e)
    (subst (λ ds. sees (marks "#") (signs 35 ds spacing ++ ts) ≡ true) (sym f) refl)

hash_in : (x : Tree) (r : List Token) → Derives x (table OuterAttribute) r → sees (marks "#") (flat x ++ r) ≡ true
unfolding table
hash_in (Pair (AMark c cs spacing) y) r d =
    subst (λ us. sees (marks "#") us ≡ true) (sym (append_assoc (signs c cs spacing) (flat y) r))
    (hash_at c cs spacing (flat y ++ r) d.0.0 d.0.1)
hash_in (Pair _ y) r d = absurd d.0
hash_in _ r d = absurd d

hash_seen : (y : Tree) (r : List Token) → Derives y (table ExprAttributed) r → sees (marks "#") (flat y ++ r) ≡ true
unfolding table
hash_seen (Pair (Node k x) y) r d =
    subst (λ us. sees (marks "#") us ≡ true) (sym (append_assoc (flat x) (flat y) r))
    (hash_in x (flat y ++ r) (subst (λ j. Derives x (table j) (flat y ++ r)) d.0.0 d.0.1))
hash_seen (Pair _ y) r d = absurd d.0
hash_seen _ r d = absurd d

-- no # was seen
attributed_not : (k : Kind) (y x : Tree) (r : List Token) → Derives y (table k) (flat x ++ r)
    → Lacks (marks "#") (flat y ++ (flat x ++ r)) → is_bare (Front k y x) ≡ true
attributed_not ExprAttributed y x r d e =
    let f : true ≡ false = sym (hash_seen y (flat x ++ r) d) ∙ e in
    cc f
attributed_not _ y x r d e = refl

pub bare_read : (p : Position) (x : Tree) (r : List Token) → Bound p x r → Lacks (marks "#") (flat x ++ r)
    → is_bare x ≡ true
bare_read p (Alone k y) r d e = refl
bare_read p (Front k y x) r d e =
    attributed_not k y x r d.1 (subst (Lacks (marks "#")) (append_assoc (flat y) (flat x) r) e)
bare_read p (Back l k y) r d e =
    bare_read p l (flat y ++ r) d.4 (subst (Lacks (marks "#")) (append_assoc (flat l) (flat y) r) e)
bare_read p (Infix l k y b) r d e =
    bare_read p l (flat y ++ (flat b ++ r)) d.4
    (subst (λ us. Lacks (marks "#") (flat l ++ us)) (append_assoc (flat y) (flat b) r)
    (subst (Lacks (marks "#")) (append_assoc (flat l) (flat y ++ flat b) r) e))
bare_read p _ r d e = absurd d

-- and where it has no attributes, no # stands there
abbrev pub is_attributed : Option Kind → Bool
is_attributed (Some ExprAttributed) = true
is_attributed _ = false

first_is : (k : Kind) (l : Look) (cases : List Case) (ts : List Token) → sees l ts ≡ true
    → first_form (form k l ∷ cases) ts ≡ Some k
first_is k l cases ts e = ap (λ b. cond b (Some k) (first_form cases ts)) e

abbrev pub others_of : List Case → List Case
others_of (c ∷ cs) = cs
others_of [] = []

front_hash : (p : Position) (ts : List Token) → sees (marks "#") ts ≡ true → is_attributed (front p ts) ≡ true
unfolding front
front_hash p ts e = ap is_attributed (first_is ExprAttributed (marks "#") (others_of (fronts p)) ts e)

other_front : (p : Position) (k : Kind) (ts : List Token) → front p ts ≡ Some k → is_attributed (Some k) ≡ false
    → Lacks (marks "#") ts
other_front p k ts e n = go (sees (marks "#") ts) refl
  where
    go : (b : Bool) → sees (marks "#") ts ≡ b → b ≡ false
    go false i = refl
    go true i =
        let f : true ≡ false = sym (front_hash p ts i) ∙ ap is_attributed e ∙ n in
        cc f

alone_not : (p : Position) (k : Kind) (s : List Token) → has_right p k s ≡ false → is_attributed (Some k) ≡ false
unfolding has_right level
alone_not p ExprAttributed s e = cc
alone_not p _ s e = refl

front_not : (k : Kind) (y x : Tree) → is_bare (Front k y x) ≡ true → is_attributed (Some k) ≡ false
front_not ExprAttributed y x e = cc
front_not _ y x e = refl

pub bare_lacks : (p : Position) (x : Tree) (s : List Token) → Bound p x s → is_bare x ≡ true
    → Lacks (marks "#") (flat x ++ s)
bare_lacks p (Alone k y) s d e = other_front p k (flat y ++ s) d.0 (alone_not p k s d.2)
bare_lacks p (Front k y x) s d e =
    subst (Lacks (marks "#")) (sym (append_assoc (flat y) (flat x) s))
    (other_front p k (flat y ++ (flat x ++ s)) d.0 (front_not k y x e))
bare_lacks p (Back l k y) s d e =
    subst (Lacks (marks "#")) (sym (append_assoc (flat l) (flat y) s)) (bare_lacks p l (flat y ++ s) d.4 e)
bare_lacks p (Infix l k y r) s d e =
    subst (Lacks (marks "#")) (sym (append_assoc (flat l) (flat y ++ flat r) s))
    (subst (λ us. Lacks (marks "#") (flat l ++ us)) (sym (append_assoc (flat y) (flat r) s))
    (bare_lacks p l (flat y ++ (flat r ++ s)) d.4 e))
bare_lacks p _ s d e = absurd d
