-- A form behind its left operand, of which numbers behind dots make several: what is written of it.
use Rattle.std.proofs.Common.{◌≡◌, ℕ, List, [], ◌∷◌, ◌++◌, refl, sym, ap, ◌∙◌, append_assoc, arith}
use Rattle.std.proofs.lemmas.List.{append-nil}
use Rattle.std.specs.Prelude.{true, false, not, ◌&&◌, ◌||◌, min}
use Rattle.proc_macro2.specs.Token.{Token}
use Rattle.syn_grammar.specs.Kind.{Kind, Position, Plain, InCondition, InArm, InStatement, ExprField, ExprMethodCall}
use Rattle.syn_grammar.specs.Kind.{ExprAwait}
use Rattle.syn_grammar.specs.Name.{the_indices, the_value, same_part}
use Rattle.syn_grammar.specs.Words.{indices, before_dot, behind_dots, texts_of}
use Rattle.syn_grammar.specs.Tree.{Tree, ALiteral, Pair, Second, End, Again, Called, Back, flat}
use Rattle.syn_grammar.specs.Kept.{index_field, index_fields, fields_in_front, last_fields, dotted, kept}
use Rattle.syn_grammar.specs.Normal.{normal, place_of}
use Rattle.syn_grammar.specs.Forms.{level}
use Rattle.syn_grammar.specs.Parens.{may_lack, takes_what_follows, stands_in, follow}
use Rattle.laws_binding.specs.Written.{Written, Last, other, a_cast, a_named_field, last_of, write, paren_unless}
use Rattle.laws_binding.specs.Written.{may_end, may_left, ends_in, back_of}
use Rattle.writer_rules.specs.Said.{said, fields, front_fields, last_said, own_said}
use Rattle.writer_read.specs.Formed.{IsFormed}
use Rattle.writer_built.specs.Behind.{put_at, put_behind, field_own, last_own, dotted_first, first_own}
use Rattle.writer_built.specs.Behind.{last_behind}

-- the operand before an own part
abbrev pub left_of : Position → Kind → Tree → Tree → Written
left_of p k z l = paren_unless (may_left p k z (write p (follow (flat z)) l)) (write p (follow (flat z)) l)

-- A tree is written so before whatever follows.
abbrev All : Position → Tree → Written → Type 0
All p m u = (us : List Token) → write p us m ≡ u

-- behind some fields
abbrev done : List Token → Written → Written
done rs a = put_behind a ExprField rs other

-- forms behind a dot
record Dot (k : Kind) : Type 0 where
  stands : (p : Position) (ts : List Token) → (stands_in p k && not (takes_what_follows p k ts)) ≡ true
  left : (p : Position) (z : Tree) (v : Written) → may_left p k z v ≡ may_left p ExprField z v
  tight : level k ≡ 16

method_end : (ts : List Token) (l : Last) → may_end ExprMethodCall ts l ≡ may_end ExprField ts l
unfolding level
method_end ts other = refl
method_end ts (a_cast b) = refl
method_end ts a_named_field = refl

await_end : (ts : List Token) (l : Last) → may_end ExprAwait ts l ≡ may_end ExprField ts l
unfolding level
await_end ts other = refl
await_end ts (a_cast b) = refl
await_end ts a_named_field = refl

field_stands : (p : Position) (ts : List Token)
    → (stands_in p ExprField && not (takes_what_follows p ExprField ts)) ≡ true
unfolding may_lack
field_stands Plain ts = refl
field_stands InCondition ts = refl
field_stands InArm ts = refl
field_stands InStatement ts = refl

method_stands : (p : Position) (ts : List Token)
    → (stands_in p ExprMethodCall && not (takes_what_follows p ExprMethodCall ts)) ≡ true
unfolding may_lack
method_stands Plain ts = refl
method_stands InCondition ts = refl
method_stands InArm ts = refl
method_stands InStatement ts = refl

await_stands : (p : Position) (ts : List Token)
    → (stands_in p ExprAwait && not (takes_what_follows p ExprAwait ts)) ≡ true
unfolding may_lack
await_stands Plain ts = refl
await_stands InCondition ts = refl
await_stands InArm ts = refl
await_stands InStatement ts = refl

method_left : (p : Position) (z : Tree) (v : Written) → may_left p ExprMethodCall z v ≡ may_left p ExprField z v
unfolding level
method_left p z v =
    ap (λ b. (v.postfix && (not (ends_in p v) || true)) && (not v.opened && b)) (method_end (flat z) v.last)

await_left : (p : Position) (z : Tree) (v : Written) → may_left p ExprAwait z v ≡ may_left p ExprField z v
unfolding level
await_left p z v =
    ap (λ b. (v.postfix && (not (ends_in p v) || true)) && (not v.opened && b)) (await_end (flat z) v.last)

field_dot : Dot ExprField
unfolding level
field_dot = record { stands = field_stands; left = λ p z v. refl; tight = refl }

method_dot : Dot ExprMethodCall
unfolding level
method_dot = record { stands = method_stands; left = method_left; tight = refl }

await_dot : Dot ExprAwait
unfolding level
await_dot = record { stands = await_stands; left = await_left; tight = refl }

-- behind fields each of them may stand
field_fits : (p : Position) (z : Tree) (a : Written) (rs : List Token) → may_left p ExprField z (done rs a) ≡ true
unfolding level
field_fits Plain z a rs = refl
field_fits InCondition z a rs = refl
field_fits InArm z a rs = refl
field_fits InStatement z a rs = refl

-- fields behind fields
min_twice : (n : ℕ) → min 16 (min 16 n) ≡ min 16 n
min_twice n = omega arith

abbrev made : List Token → ℕ → Last → Written
made ts n l = record {
  tokens = ts;
  range = false;
  postfix = true;
  path = false;
  block = false;
  macro = false;
  compares = false;
  least = n;
  cap = 17;
  opened = false;
  last = l;
}

joined_at : (n : ℕ) (a : Written) (rs ss : List Token) (l : Last) → n ≡ 16
    → put_at (done rs a) n ss l ≡ put_at a n (rs ++ ss) l
unfolding level
joined_at n a rs ss l e =
    ap (λ m. put_at (done rs a) m ss l) e
    ∙ ap (λ ts. made ts (min 16 (min 16 a.least)) l) (append_assoc a.tokens rs ss)
    ∙ ap (λ m. made (a.tokens ++ (rs ++ ss)) m l) (min_twice a.least)
    ∙ ap (λ m. put_at a m (rs ++ ss) l) (sym e)

field_level : level ExprField ≡ 16
unfolding level
field_level = refl

-- a field by its number
field_named : (v : Written) (cs : List ℕ) → back_of v ExprField (field_own cs) ≡ done (flat (field_own cs)) v
unfolding same_part
field_named v cs = refl

field_step : (p : Position) (m : Tree) (u : Written) (cs : List ℕ) → All p m u
    → ((z : Tree) → may_left p ExprField z u ≡ true) → All p (index_field m cs) (done (flat (field_own cs)) u)
field_step p m u cs h f us =
    let z : Tree = field_own cs in
    ap (λ b. paren_unless b (back_of (left_of p ExprField z m) ExprField z)) (field_stands p us)
    ∙ ap (λ w. back_of (paren_unless (may_left p ExprField z w) w) ExprField z) (h (follow (flat z)))
    ∙ ap (λ b. back_of (paren_unless b u) ExprField z) (f z) ∙ field_named u cs

first_field : (p : Position) (l : Tree) (cs : List ℕ)
    → All p (index_field l cs) (done (flat (field_own cs)) (left_of p ExprField (field_own cs) l))
first_field p l cs us =
    let z : Tree = field_own cs in
    ap (λ b. paren_unless b (back_of (left_of p ExprField z l) ExprField z)) (field_stands p us)
    ∙ field_named (left_of p ExprField z l) cs

-- all numbers of a text, and of those in front
texts_step : (p : Position) (texts : List (List ℕ)) (m : Tree) (a : Written) (rs : List Token) → All p m (done rs a)
    → All p (index_fields m texts) (done (rs ++ fields texts) a)
texts_step p [] m a rs h us = h us ∙ ap (λ ss. done ss a) (sym (append-nil rs))
texts_step p (cs ∷ texts) m a rs h us =
    texts_step p texts (index_field m cs) a (rs ++ flat (field_own cs))
    (λ vs. field_step p m (done rs a) cs h (λ z. field_fits p z a rs) vs
    ∙ joined_at (level ExprField) a rs (flat (field_own cs)) other field_level) us
    ∙ ap (λ ss. done ss a) (append_assoc rs (flat (field_own cs)) (fields texts))

first_texts : (p : Position) (l : Tree) (cs : List ℕ) (texts : List (List ℕ))
    → All p (index_fields (index_field l cs) texts)
    (done (fields (cs ∷ texts)) (left_of p ExprField (field_own cs) l))
first_texts p l cs texts =
    texts_step p texts (index_field l cs) (left_of p ExprField (field_own cs) l) (flat (field_own cs))
    (first_field p l cs)

fronts_step : (p q : Position) (x m : Tree) (a : Written) (rs : List Token) → IsFormed q x → All p m (done rs a)
    → All p (fields_in_front m (kept x)) (done (rs ++ front_fields x) a)
fronts_step p q (Again (ALiteral cs) x) m a rs f h us =
    fronts_step p q x (index_fields m (indices cs)) a (rs ++ fields (indices cs)) f.1
    (texts_step p (indices cs) m a rs h) us
    ∙ ap (λ ss. done ss a) (append_assoc rs (fields (indices cs)) (front_fields x))
fronts_step p q (Again (Back l k y) x) m a rs f h us = elim f.0 [ ]
fronts_step p q (Again _ x) m a rs f h us = h us ∙ ap (λ ss. done ss a) (sym (append-nil rs))
fronts_step p q (Back l k y) m a rs f h us = elim f [ ]
fronts_step p q _ m a rs f h us = h us ∙ ap (λ ss. done ss a) (sym (append-nil rs))

-- the last form, where it is no number
abbrev pub own_last : Tree → Tree → Tree
own_last d z = Pair (Pair (normal (kept d)) (Called the_indices End)) (normal (kept z))

pub own_flat : (d z : Tree) → flat (own_last d z) ≡ said Plain d ++ said Plain z
unfolding said
own_flat d z = ap (λ ts. ts ++ flat (normal (kept z))) (append-nil (flat (normal (kept d))))

abbrev last_form : Tree → Kind → Tree → Tree → Tree
last_form m k d z = Back m k (Pair (Pair (kept d) (Called the_indices End)) (kept z))

last_step : (p : Position) (ts : List Token) (k : Kind) (d z m : Tree) (a : Written) (rs : List Token) → Dot k
    → All p m (done rs a)
    → write p ts (last_form m k d z)
    ≡ put_behind a k (rs ++ (said Plain d ++ said Plain z)) (last_of k (own_last d z))
last_step p ts k d z m a rs dot h =
    let y : Tree = own_last d z in
    ap (λ b. paren_unless b (back_of (left_of p k y m) k y)) (dot.stands p ts)
    ∙ ap (λ w. back_of (paren_unless (may_left p k y w) w) k y) (h (follow (flat y)))
    ∙ ap (λ b. back_of (paren_unless b (done rs a)) k y) (dot.left p y (done rs a) ∙ field_fits p y a rs)
    ∙ joined_at (level k) a rs (flat y) (last_of k y) dot.tight
    ∙ ap (λ ss. put_behind a k (rs ++ ss) (last_of k y)) (own_flat d z)

lone_step : (p : Position) (ts : List Token) (k : Kind) (d z l : Tree) → Dot k
    → write p ts (last_form l k d z)
    ≡ put_behind (left_of p k (own_last d z) l) k (said Plain d ++ said Plain z) (last_of k (own_last d z))
lone_step p ts k d z l dot =
    let y : Tree = own_last d z in
    ap (λ b. paren_unless b (back_of (left_of p k y l) k y)) (dot.stands p ts)
    ∙ ap (λ ss. put_behind (left_of p k y l) k ss (last_of k y)) (own_flat d z)

-- what the last form ends with
abbrev last_end : Kind → Tree → Tree → Last
last_end ExprField d (Second (Called the_value (ALiteral cs))) = other
last_end k d z = last_of k (own_last d z)

-- behind fields
field_last : (p q : Position) (ts : List Token) (d z m : Tree) (a : Written) (rs : List Token) → IsFormed q z
    → All p m (done rs a)
    → write p ts (last_fields m ExprField (kept d) (kept z))
    ≡ put_behind a ExprField (rs ++ last_said ExprField d z) (last_end ExprField d z)
unfolding said
field_last p q ts d (Second (Called the_value (ALiteral cs))) m a rs f h = texts_step p (indices cs) m a rs h ts
field_last p q ts d (Second (Called the_value (Back l k y))) m a rs f h = elim f [ ]
field_last p q ts d (Second (Called the_value x)) m a rs f h =
    last_step p ts ExprField d (Second (Called the_value x)) m a rs field_dot h
field_last p q ts d (Second (Back l k y)) m a rs f h = elim f [ ]
field_last p q ts d (Second x) m a rs f h = last_step p ts ExprField d (Second x) m a rs field_dot h
field_last p q ts d (Back l k y) m a rs f h = elim f [ ]
field_last p q ts d x m a rs f h = last_step p ts ExprField d x m a rs field_dot h

-- behind none
field_lone : (p q : Position) (ts : List Token) (d z l : Tree) → IsFormed q z
    → write p ts (last_fields l ExprField (kept d) (kept z))
    ≡ put_behind (left_of p ExprField (last_own ExprField d z) l) ExprField (last_said ExprField d z)
    (last_end ExprField d z)
unfolding said
field_lone p q ts d (Second (Called the_value (ALiteral cs))) l f =
    first_texts p l (before_dot cs) (texts_of (behind_dots cs)) ts
field_lone p q ts d (Second (Called the_value (Back m k y))) l f = elim f [ ]
field_lone p q ts d (Second (Called the_value x)) l f =
    lone_step p ts ExprField d (Second (Called the_value x)) l field_dot
field_lone p q ts d (Second (Back m k y)) l f = elim f [ ]
field_lone p q ts d (Second x) l f = lone_step p ts ExprField d (Second x) l field_dot
field_lone p q ts d (Back m k y) l f = elim f [ ]
field_lone p q ts d x l f = lone_step p ts ExprField d x l field_dot

-- with numbers in front
field_fronts : (p q r : Position) (ts : List Token) (l d x z : Tree) → IsFormed q x → IsFormed r z
    → write p ts (last_fields (fields_in_front l (kept x)) ExprField (kept d) (kept z))
    ≡ put_behind (left_of p ExprField (dotted_first ExprField (Pair (Pair d (Called the_indices x)) z)) l) ExprField
    (front_fields x ++ last_said ExprField d z) (last_end ExprField d z)
field_fronts p q r ts l d (Again (ALiteral cs) x) z f g =
    let a : Written = left_of p ExprField (field_own (before_dot cs)) l in
    field_last p r ts d z (fields_in_front (index_fields l (indices cs)) (kept x)) a
    (fields (indices cs) ++ front_fields x) g
    (fronts_step p q x (index_fields l (indices cs)) a (fields (indices cs)) f.1
    (first_texts p l (before_dot cs) (texts_of (behind_dots cs))))
field_fronts p q r ts l d (Again (Back m k y) x) z f g = elim f.0 [ ]
field_fronts p q r ts l d (Again _ x) z f g = field_lone p r ts d z l g
field_fronts p q r ts l d (Back m k y) z f g = elim f [ ]
field_fronts p q r ts l d _ z f g = field_lone p r ts d z l g

left_same : (p : Position) (k : Kind) (z l : Tree) → Dot k → left_of p k z l ≡ left_of p ExprField z l
left_same p k z l dot =
    let v : Written = write p (follow (flat z)) l in ap (λ b. paren_unless b v) (dot.left p z v)

form_fronts : (k : Kind) → Dot k → ((d z : Tree) → last_own k d z ≡ own_last d z) → (p q : Position)
    (ts : List Token) (l d x z : Tree) → IsFormed q x
    → write p ts (last_form (fields_in_front l (kept x)) k d z)
    ≡ put_behind (left_of p k (dotted_first k (Pair (Pair d (Called the_indices x)) z)) l) k
    (front_fields x ++ (said Plain d ++ said Plain z)) (last_of k (own_last d z))
form_fronts k dot o p q ts l d (Again (ALiteral cs) x) z f =
    let y : Tree = field_own (before_dot cs) in
    let a : Written = left_of p ExprField y l in
    let rs : List Token = fields (indices cs) ++ front_fields x in
    last_step p ts k d z (fields_in_front (index_fields l (indices cs)) (kept x)) a rs dot
    (fronts_step p q x (index_fields l (indices cs)) a (fields (indices cs)) f.1
    (first_texts p l (before_dot cs) (texts_of (behind_dots cs))))
    ∙ ap (λ v. put_behind v k (rs ++ (said Plain d ++ said Plain z)) (last_of k (own_last d z)))
    (sym (left_same p k y l dot))
form_fronts k dot o p q ts l d (Again (Back m j y) x) z f = elim f.0 [ ]
form_fronts k dot o p q ts l d (Again _ x) z f =
    lone_step p ts k d z l dot
    ∙ ap (λ y. put_behind (left_of p k y l) k (said Plain d ++ said Plain z) (last_of k (own_last d z))) (sym (o d z))
form_fronts k dot o p q ts l d (Back m j y) z f = elim f [ ]
form_fronts k dot o p q ts l d _ z f =
    lone_step p ts k d z l dot
    ∙ ap (λ y. put_behind (left_of p k y l) k (said Plain d ++ said Plain z) (last_of k (own_last d z))) (sym (o d z))

end_same : (d x z : Tree) → last_end ExprField d z ≡ last_behind ExprField (Pair (Pair d (Called the_indices x)) z)
unfolding same_part
end_same d x (Second (Called the_value (ALiteral cs))) = refl
end_same d x _ = refl

-- the whole form
field_dots : (p : Position) (ts : List Token) (l y : Tree) → IsFormed Plain y
    → write p ts (dotted l ExprField (kept y))
    ≡ paren_unless (stands_in p ExprField && not (takes_what_follows p ExprField ts))
    (put_behind (left_of p ExprField (first_own ExprField y) l) ExprField (own_said ExprField y)
    (last_behind ExprField y))
unfolding said
field_dots p ts l (Pair (Pair d (Called the_indices x)) z) f =
    let y : Tree = Pair (Pair d (Called the_indices x)) z in
    let v : Written = left_of p ExprField (first_own ExprField y) l in
    field_fronts p (place_of the_indices) Plain ts l d x z f.0.1 f.1
    ∙ ap (put_behind v ExprField (own_said ExprField y)) (end_same d x z)
    ∙ sym (ap (λ b. paren_unless b (put_behind v ExprField (own_said ExprField y) (last_behind ExprField y)))
    (field_stands p ts))
field_dots p ts l (Pair (Pair d (Back m j w)) z) f = elim f.0.1 [ ]
field_dots p ts l (Pair (Back m j w) z) f = elim f.0 [ ]
field_dots p ts l (Back m j w) f = elim f [ ]
field_dots p ts l _ f = refl

method_dots : (p : Position) (ts : List Token) (l y : Tree) → IsFormed Plain y
    → write p ts (dotted l ExprMethodCall (kept y))
    ≡ paren_unless (stands_in p ExprMethodCall && not (takes_what_follows p ExprMethodCall ts))
    (put_behind (left_of p ExprMethodCall (first_own ExprMethodCall y) l) ExprMethodCall (own_said ExprMethodCall y)
    (last_behind ExprMethodCall y))
unfolding said
method_dots p ts l (Pair (Pair d (Called the_indices x)) z) f =
    let y : Tree = Pair (Pair d (Called the_indices x)) z in
    let v : Written = left_of p ExprMethodCall (first_own ExprMethodCall y) l in
    form_fronts ExprMethodCall method_dot (λ d z. refl) p (place_of the_indices) ts l d x z f.0.1
    ∙ sym (ap (λ b. paren_unless b (put_behind v ExprMethodCall (own_said ExprMethodCall y) other))
    (method_stands p ts))
method_dots p ts l (Pair (Pair d (Back m j w)) z) f = elim f.0.1 [ ]
method_dots p ts l (Pair (Back m j w) z) f = elim f.0 [ ]
method_dots p ts l (Back m j w) f = elim f [ ]
method_dots p ts l _ f = refl

await_dots : (p : Position) (ts : List Token) (l y : Tree) → IsFormed Plain y
    → write p ts (dotted l ExprAwait (kept y))
    ≡ paren_unless (stands_in p ExprAwait && not (takes_what_follows p ExprAwait ts))
    (put_behind (left_of p ExprAwait (first_own ExprAwait y) l) ExprAwait (own_said ExprAwait y)
    (last_behind ExprAwait y))
unfolding said
await_dots p ts l (Pair (Pair d (Called the_indices x)) z) f =
    let y : Tree = Pair (Pair d (Called the_indices x)) z in
    let v : Written = left_of p ExprAwait (first_own ExprAwait y) l in
    form_fronts ExprAwait await_dot (λ d z. refl) p (place_of the_indices) ts l d x z f.0.1
    ∙ sym (ap (λ b. paren_unless b (put_behind v ExprAwait (own_said ExprAwait y) other)) (await_stands p ts))
await_dots p ts l (Pair (Pair d (Back m j w)) z) f = elim f.0.1 [ ]
await_dots p ts l (Pair (Back m j w) z) f = elim f.0 [ ]
await_dots p ts l (Back m j w) f = elim f [ ]
await_dots p ts l _ f = refl

pub behind_written : (p : Position) (ts : List Token) (k : Kind) (l y : Tree) → IsFormed Plain y
    → write p ts (dotted l k (kept y)) ≡ paren_unless (stands_in p k && not (takes_what_follows p k ts))
    (put_behind (left_of p k (first_own k y) l) k (own_said k y) (last_behind k y))
unfolding said
behind_written p ts ExprField l y f = field_dots p ts l y f
behind_written p ts ExprMethodCall l y f = method_dots p ts l y f
behind_written p ts ExprAwait l y f = await_dots p ts l y f
behind_written p ts _ l y f = refl
