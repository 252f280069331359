-- The own part of a form behind its left operand, by its parts.
use Rattle.std.proofs.Common.{◌≡◌, ℕ, List, [], ◌∷◌, ◌++◌, refl, sym, ap, ◌∙◌, subst}
use Rattle.std.specs.Prelude.{Bool, true, false, cond, zero, suc, Option, Some, None}
use Rattle.std.proofs.Common.{inl, inr}
use Rattle.std.proofs.lemmas.List.{append-nil}
use Rattle.std.proofs.lemmas.Bool.{false≢true}
use Rattle.proc_macro2.specs.Token.{Token, Literal, Punct}
use Rattle.rust_leaf.specs.declared.punct.Spacing.{Spacing}
use Rattle.rust_leaf.specs.declared.punct.Spacing.TheVariants.{Alone as Apart}
use Rattle.syn_grammar.specs.Kind.{Kind, Plain, ExprField, ExprMethodCall, ExprAwait}
use Rattle.syn_grammar.specs.Name.{the_indices, the_value, the_name}
use Rattle.syn_grammar.specs.Part.{has}
use Rattle.syn_grammar.specs.Words.{indices, before_dot, behind_dots, plain_decimal, texts_of}
use Rattle.syn_grammar.specs.Tree as t
use Rattle.syn_grammar.specs.Tree.{Tree, ALiteral, Pair, Second, Again, Called, Back, flat}
use Rattle.syn_grammar.specs.Kept.{kept}
use Rattle.syn_grammar.specs.Normal.{normal}
use Rattle.reader_tree.specs.declared.tree.Element.{Element}
use Rattle.reader_tree.specs.Forms.{mark_of, seconds, elements, ending}
use Rattle.laws_binding.specs.Written.{other}
use Rattle.laws_binding.specs.Written as w
use Rattle.writer_rules.specs.Said.{said, fields, front_fields, own_said}
use Rattle.writer_rules.specs.Seen.{text_of_literal}
use Rattle.writer_rules.specs.Way.{dotted_of, is_dotted, last_text}
use Rattle.writer_rules.proofs.SeenForms.{some_none}
use Rattle.writer_rules.proofs.WayForms.{dotted_is}
use Rattle.writer_read.proofs.Bare.{has_made}
use Rattle.writer_read.specs.Formed.{IsFormed}
use Rattle.writer_built.specs.Begins.{front2, front3}
use Rattle.writer_built.specs.Behind.{field_own, last_own, dotted_first, first_own, last_behind, is_numbered}
use Rattle.writer_built.specs.Behind.{last_named}
use Rattle.writer_built.specs.Found.{HasNoDot}
use Rattle.writer_built.proofs.Fielded.{own_last, own_flat}

-- numbers in front
pub numbered_some : (x y : Tree) (cs : List ℕ) → Some cs ≡ text_of_literal x → true ≡ is_numbered (Again x y)
numbered_some (ALiteral ds) y cs e = refl
numbered_some x y cs e = absurd (some_none cs e)

pub numbered_none : (x y : Tree) → None ≡ text_of_literal x → false ≡ is_numbered (Again x y)
numbered_none (ALiteral ds) y e = cc
numbered_none x y e = refl

pub numbered_first : (n : ℕ) (x : Tree) → is_numbered (seconds n (t.First x)) ≡ false
numbered_first zero x = refl
numbered_first (suc n) x = refl

pub numbered_mark : (cs : List ℕ) (spacing : Spacing) → is_numbered (mark_of cs spacing) ≡ false
numbered_mark [] spacing = refl
numbered_mark (c ∷ cs) spacing = refl

pub numbered_elements : {A : Type 0} (c : ℕ) (es : List Element) (f : A → Tree) (o : Option A)
    → is_numbered (elements c es (ending f o)) ≡ false
numbered_elements c [] f None = refl
numbered_elements c [] f (Some y) = refl
numbered_elements c (e ∷ es) f o = refl

pub ruleset numbered = (numbered_some, numbered_none, numbered_first, numbered_mark, numbered_elements)

-- no number behind a dot
field_plain : (y : Tree) → None ≡ dotted_of y → own_said ExprField y ≡ said Plain y
field_plain (Pair (Pair d (Called the_indices x)) z) e = absurd (some_none (d, x, z) (sym e))
field_plain y e = refl

method_plain : (y : Tree) → None ≡ dotted_of y → own_said ExprMethodCall y ≡ said Plain y
method_plain (Pair (Pair d (Called the_indices x)) z) e = absurd (some_none (d, x, z) (sym e))
method_plain y e = refl

await_plain : (y : Tree) → None ≡ dotted_of y → own_said ExprAwait y ≡ said Plain y
await_plain (Pair (Pair d (Called the_indices x)) z) e = absurd (some_none (d, x, z) (sym e))
await_plain y e = refl

pub plain_said : (k : Kind) (y : Tree) → HasNoDot k y → own_said k y ≡ said Plain y
plain_said ExprField y (inl e) = absurd (false≢true (sym e))
plain_said ExprField y (inr e) = field_plain y e
plain_said ExprMethodCall y (inl e) = absurd (false≢true (sym e))
plain_said ExprMethodCall y (inr e) = method_plain y e
plain_said ExprAwait y (inl e) = absurd (false≢true (sym e))
plain_said ExprAwait y (inr e) = await_plain y e
plain_said _ y h = refl

field_first : (y : Tree) → None ≡ dotted_of y → first_own ExprField y ≡ normal (kept y)
field_first (Pair (Pair d (Called the_indices x)) z) e = absurd (some_none (d, x, z) (sym e))
field_first y e = refl

method_first : (y : Tree) → None ≡ dotted_of y → first_own ExprMethodCall y ≡ normal (kept y)
method_first (Pair (Pair d (Called the_indices x)) z) e = absurd (some_none (d, x, z) (sym e))
method_first y e = refl

await_first : (y : Tree) → None ≡ dotted_of y → first_own ExprAwait y ≡ normal (kept y)
await_first (Pair (Pair d (Called the_indices x)) z) e = absurd (some_none (d, x, z) (sym e))
await_first y e = refl

pub plain_first : (k : Kind) (y : Tree) → HasNoDot k y → first_own k y ≡ normal (kept y)
plain_first ExprField y (inl e) = absurd (false≢true (sym e))
plain_first ExprField y (inr e) = field_first y e
plain_first ExprMethodCall y (inl e) = absurd (false≢true (sym e))
plain_first ExprMethodCall y (inr e) = method_first y e
plain_first ExprAwait y (inl e) = absurd (false≢true (sym e))
plain_first ExprAwait y (inr e) = await_first y e
plain_first _ y h = refl

field_end : (y : Tree) → None ≡ dotted_of y → last_behind ExprField y ≡ w.last_of ExprField (normal (kept y))
field_end (Pair (Pair d (Called the_indices x)) z) e = absurd (some_none (d, x, z) (sym e))
field_end y e = refl

pub plain_last : (k : Kind) (y : Tree) → HasNoDot k y → last_behind k y ≡ w.last_of k (normal (kept y))
plain_last ExprField y (inl e) = absurd (false≢true (sym e))
plain_last ExprField y (inr e) = field_end y e
plain_last _ y h = refl

-- numbers behind a dot, or what is none
two_front : (a b : Token) (us : List Token) → front2 (front3 (a ∷ b ∷ us)) ≡ a ∷ b ∷ []
two_front a b [] = refl
two_front a b (u ∷ us) = refl

abbrev dotted : Tree → Tree → Tree → Tree
dotted d x z = Pair (Pair d (Called the_indices x)) z

-- by the three forms behind a dot
dot_by : (M : Kind → Type 0) → M ExprField → M ExprMethodCall → M ExprAwait → (k : Kind) → is_dotted k ≡ true → M k
dot_by M a b c ExprField e = a
dot_by M a b c ExprMethodCall e = b
dot_by M a b c ExprAwait e = c
dot_by M a b c k e = absurd (false≢true e)

none_fronts : (x : Tree) → is_numbered x ≡ false → front_fields x ≡ []
none_fronts (Again (ALiteral cs) x) e = cc
none_fronts x e = refl

-- what is put
field_number : (d x z : Tree) (cs : List ℕ) → Some cs ≡ last_text ExprField z
    → own_said ExprField (dotted d x z) ≡ front_fields x ++ fields (indices cs)
field_number d x (Second (Called the_value (ALiteral ds))) cs e =
    let s : ds ≡ cs = cc in ap (λ es. front_fields x ++ fields (indices es)) s
field_number d x z cs e = absurd (some_none cs e)

field_else : (d x z : Tree) → None ≡ last_text ExprField z
    → own_said ExprField (dotted d x z) ≡ front_fields x ++ (said Plain d ++ said Plain z)
field_else d x (Second (Called the_value (ALiteral ds))) e = absurd (some_none ds (sym e))
field_else d x z e = refl

pub number_put : (k : Kind) (d x z : Tree) (cs : List ℕ) → is_dotted k ≡ true → Some cs ≡ last_text k z
    → own_said k (dotted d x z) ≡ front_fields x ++ fields (indices cs)
number_put k d x z cs e f =
    dot_by (λ j. Some cs ≡ last_text j z → own_said j (dotted d x z) ≡ front_fields x ++ fields (indices cs))
    (field_number d x z cs) (λ h. absurd (some_none cs h)) (λ h. absurd (some_none cs h)) k e f

pub else_put : (k : Kind) (d x z : Tree) → is_dotted k ≡ true → None ≡ last_text k z
    → own_said k (dotted d x z) ≡ front_fields x ++ (said Plain d ++ said Plain z)
else_put k d x z e f =
    dot_by (λ j. None ≡ last_text j z
    → own_said j (dotted d x z) ≡ front_fields x ++ (said Plain d ++ said Plain z))
    (field_else d x z) (λ h. refl) (λ h. refl) k e f

-- the first tokens of the first form
any_numbered : (k : Kind) (d x z : Tree) (rs : List Token)
    → ((cs : List ℕ) (u : Tree) → first_own k (dotted d (Again (ALiteral cs) u) z) ≡ field_own (before_dot cs))
    → is_numbered x ≡ true
    → front2 (front3 (front_fields x ++ rs)) ≡ front3 (flat (first_own k (dotted d x z)))
any_numbered k d (Again (ALiteral cs) u) z rs f e =
    two_front (Punct 46 Apart) (Literal (plain_decimal (before_dot cs)))
    ((fields (texts_of (behind_dots cs)) ++ front_fields u) ++ rs) ∙ sym (ap (λ y. front3 (flat y)) (f cs u))
any_numbered k d x z rs f e = cc

pub numbered_head : (k : Kind) (d x z : Tree) (rs : List Token) → is_dotted k ≡ true → is_numbered x ≡ true
    → front2 (front3 (front_fields x ++ rs)) ≡ front3 (flat (first_own k (dotted d x z)))
numbered_head k d x z rs e f =
    dot_by (λ j. front2 (front3 (front_fields x ++ rs)) ≡ front3 (flat (first_own j (dotted d x z))))
    (any_numbered ExprField d x z rs (λ cs u. refl) f) (any_numbered ExprMethodCall d x z rs (λ cs u. refl) f)
    (any_numbered ExprAwait d x z rs (λ cs u. refl) f) k e

lone_first : (k : Kind) (d x z : Tree) → is_dotted k ≡ true → is_numbered x ≡ false
    → first_own k (dotted d x z) ≡ last_own k d z
lone_first k d x z e f =
    dot_by (λ j. first_own j (dotted d x z) ≡ last_own j d z) (go ExprField (λ u. refl) x f)
    (go ExprMethodCall (λ u. refl) x f) (go ExprAwait (λ u. refl) x f) k e
  where
    go : (j : Kind) → ((u : Tree) → first_own j (dotted d u z) ≡ dotted_first j (dotted d u z)) → (u : Tree)
        → is_numbered u ≡ false → first_own j (dotted d u z) ≡ last_own j d z
    go j h (Again (ALiteral cs) u) g = cc
    go j h u g = h u

field_lone : (d z : Tree) (cs : List ℕ) (rs : List Token) → Some cs ≡ last_text ExprField z
    → front2 (front3 (fields (indices cs) ++ rs)) ≡ front3 (flat (last_own ExprField d z))
field_lone d (Second (Called the_value (ALiteral ds))) cs rs e =
    let s : cs ≡ ds = cc in
    two_front (Punct 46 Apart) (Literal (plain_decimal (before_dot cs))) (fields (texts_of (behind_dots cs)) ++ rs)
    ∙ ap (λ es. front3 (flat (field_own (before_dot es)))) s
field_lone d z cs rs e = absurd (some_none cs e)

pub number_head : (k : Kind) (d x z : Tree) (cs : List ℕ) → is_dotted k ≡ true → Some cs ≡ last_text k z
    → front2 (front3 (front_fields x ++ fields (indices cs))) ≡ front3 (flat (first_own k (dotted d x z)))
number_head k d x z cs e f = go (is_numbered x) refl
  where
    last : is_numbered x ≡ false
        → front2 (front3 (front_fields x ++ fields (indices cs))) ≡ front3 (flat (last_own k d z))
    last h =
        ap (λ ts. front2 (front3 (ts ++ fields (indices cs)))) (none_fronts x h)
        ∙ sym (ap (λ ts. front2 (front3 ts)) (append-nil (fields (indices cs))))
        ∙ dot_by (λ j. Some cs ≡ last_text j z
        → front2 (front3 (fields (indices cs) ++ [])) ≡ front3 (flat (last_own j d z)))
        (field_lone d z cs []) (λ g. absurd (some_none cs g)) (λ g. absurd (some_none cs g)) k e f

    go : (b : Bool) → is_numbered x ≡ b
        → front2 (front3 (front_fields x ++ fields (indices cs))) ≡ front3 (flat (first_own k (dotted d x z)))
    go true h = numbered_head k d x z (fields (indices cs)) e h
    go false h = last h ∙ sym (ap (λ y. front3 (flat y)) (lone_first k d x z e h))

else_last : (k : Kind) (d z : Tree) → is_dotted k ≡ true → None ≡ last_text k z → last_own k d z ≡ own_last d z
else_last k d z e f =
    dot_by (λ j. None ≡ last_text j z → last_own j d z ≡ own_last d z) (field_own_last d z) (λ h. refl) (λ h. refl) k
    e f
  where
    field_own_last : (d z : Tree) → None ≡ last_text ExprField z → last_own ExprField d z ≡ own_last d z
    field_own_last d (Second (Called the_value (ALiteral cs))) h = absurd (some_none cs (sym h))
    field_own_last d z h = refl

pub else_head : (k : Kind) (d x z : Tree) → is_dotted k ≡ true → None ≡ last_text k z → is_numbered x ≡ false
    → front3 (front_fields x ++ (said Plain d ++ said Plain z)) ≡ front3 (flat (first_own k (dotted d x z)))
else_head k d x z e f h =
    ap (λ ts. front3 (ts ++ (said Plain d ++ said Plain z))) (none_fronts x h)
    ∙ ap front3 (sym (own_flat d z))
    ∙ sym (ap (λ y. front3 (flat y)) (lone_first k d x z e h ∙ else_last k d z e f))

-- what it ends with
field_last_number : (d x z : Tree) (cs : List ℕ) → Some cs ≡ last_text ExprField z
    → last_behind ExprField (dotted d x z) ≡ other
field_last_number d x (Second (Called the_value (ALiteral ds))) cs e = refl
field_last_number d x z cs e = absurd (some_none cs e)

pub number_end : (k : Kind) (d x z : Tree) (cs : List ℕ) → is_dotted k ≡ true → Some cs ≡ last_text k z
    → other ≡ last_behind k (dotted d x z)
number_end k d x z cs e f =
    sym (dot_by (λ j. Some cs ≡ last_text j z → last_behind j (dotted d x z) ≡ other) (field_last_number d x z cs)
    (λ h. absurd (some_none cs h)) (λ h. absurd (some_none cs h)) k e f)

field_last_else : (d x z : Tree) → None ≡ last_text ExprField z
    → last_named ExprField (has the_name (dotted d x z)) ≡ last_behind ExprField (dotted d x z)
field_last_else d x (Second (Called the_value (ALiteral ds))) e = absurd (some_none ds (sym e))
field_last_else d x z e = ap (last_named ExprField) (sym (has_made the_name Plain (dotted d x z)))

pub else_end : (k : Kind) (d x z : Tree) → is_dotted k ≡ true → None ≡ last_text k z
    → last_named k (has the_name (dotted d x z)) ≡ last_behind k (dotted d x z)
else_end k d x z e f =
    dot_by (λ j. None ≡ last_text j z
    → last_named j (has the_name (dotted d x z)) ≡ last_behind j (dotted d x z))
    (field_last_else d x z) (λ h. refl) (λ h. refl) k e f

-- what stands behind a left operand, from its tokens, the first of its first form's, and what it ends with
pub number_behind : (k : Kind) (d x z y : Tree) (cs : List ℕ) (own first : List Token) (l : w.Last)
    → is_dotted k ≡ true → Some (d, x, z) ≡ dotted_of y → Some cs ≡ last_text k z
    → own ≡ front_fields x ++ fields (indices cs) → first ≡ front2 (front3 (front_fields x ++ fields (indices cs)))
    → l ≡ other → (own ≡ own_said k y) × (first ≡ front3 (flat (first_own k y))) × (l ≡ last_behind k y)
number_behind k d x z y cs own first l e f g h i j =
    subst (λ v. (own ≡ own_said k v) × (first ≡ front3 (flat (first_own k v))) × (l ≡ last_behind k v))
    (sym (dotted_is y d x z f)) (
      h ∙ sym (number_put k d x z cs e g),
      i ∙ number_head k d x z cs e g,
      j ∙ number_end k d x z cs e g,
    )

other_head : (k : Kind) (d x z : Tree) (b : Bool) → is_dotted k ≡ true → None ≡ last_text k z → is_numbered x ≡ b
    → cond b (front2 (front3 (front_fields x ++ (said Plain d ++ said Plain z))))
    (front3 (front_fields x ++ (said Plain d ++ said Plain z))) ≡ front3 (flat (first_own k (dotted d x z)))
other_head k d x z true e f h = numbered_head k d x z (said Plain d ++ said Plain z) e h
other_head k d x z false e f h = else_head k d x z e f h

pub else_behind : (k : Kind) (d x z y : Tree) (own first : List Token) (named : Bool) (l : w.Last)
    → is_dotted k ≡ true → Some (d, x, z) ≡ dotted_of y → None ≡ last_text k z
    → own ≡ front_fields x ++ (said Plain d ++ said Plain z)
    → first ≡ cond (is_numbered x) (front2 (front3 (front_fields x ++ (said Plain d ++ said Plain z))))
    (front3 (front_fields x ++ (said Plain d ++ said Plain z)))
    → l ≡ last_named k named → named ≡ has the_name y
    → (own ≡ own_said k y) × (first ≡ front3 (flat (first_own k y))) × (l ≡ last_behind k y)
else_behind k d x z y own first named l e f g h i j m =
    let is : y ≡ dotted d x z = dotted_is y d x z f in
    subst (λ v. (own ≡ own_said k v) × (first ≡ front3 (flat (first_own k v))) × (l ≡ last_behind k v)) (sym is) (
      h ∙ sym (else_put k d x z e g),
      i ∙ other_head k d x z (is_numbered x) e g refl,
      j ∙ ap (last_named k) (m ∙ ap (has the_name) is) ∙ else_end k d x z e g,
    )

-- its two parts are formed, if it is
pub dot_formed : (d x z y : Tree) → Some (d, x, z) ≡ dotted_of y → IsFormed Plain y
    → IsFormed Plain d × IsFormed Plain z
dot_formed d x z y e h =
    let s : IsFormed Plain (dotted d x z) = subst (λ v. IsFormed Plain v) (dotted_is y d x z e) h in (s.0.0, s.1)

own_is : (y : Tree) → said Plain y ≡ flat (normal (kept y))
unfolding said
own_is y = refl

pub plain_behind : (k : Kind) (y : Tree) (own first : List Token) (l : w.Last) → HasNoDot k y → own ≡ said Plain y
    → first ≡ front3 own → ((z : Tree) → has the_name y ≡ has the_name z → own ≡ flat z → l ≡ w.last_of k z)
    → (own ≡ own_said k y) × (first ≡ front3 (flat (first_own k y))) × (l ≡ last_behind k y)
plain_behind k y own first l h e i f =
    let z : Tree = normal (kept y) in
    let is : own ≡ flat z = e ∙ own_is y in (
      e ∙ sym (plain_said k y h),
      i ∙ ap front3 is ∙ sym (ap (λ u. front3 (flat u)) (plain_first k y h)),
      f z (sym (has_made the_name Plain y)) is ∙ sym (plain_last k y h),
    )
