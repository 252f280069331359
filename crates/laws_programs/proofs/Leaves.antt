-- The tokens of a normal form are leaves, and its groups match.
use Rattle.std.proofs.Common.{◌≡◌, ℕ, List, [], ◌∷◌, ◌++◌, codes, refl, sym, ap, ◌∙◌, append_assoc, subst, inl}
use Rattle.std.specs.Prelude.{true, false, Some}
use Rattle.std.specs.Fmt.{decimal}
use Rattle.std.proofs.lemmas.List.{append-nil}
use Rattle.unicode_ident.proofs.Computing.{unicode_ident}
use Rattle.rust_lex.specs.Chars.{is_first, is_next}
use Rattle.rust_lex.specs.Piece.{IsIdent}
use Rattle.rust_lex.specs.Quoted.{opener_of}
use Rattle.rust_leaf.specs.Mark.{is_mark}
use Rattle.rust_leaf.specs.Parse.{IsLiteralLeaf}
use Rattle.rust_leaf.specs.declared.punct.Spacing.{Spacing}
use Rattle.rust_leaf.specs.declared.punct.Spacing.TheVariants.{Joint}
use Rattle.rust_leaf.proofs.Integers.{integer_literal}
use Rattle.proc_macro2.specs.declared.delimiter.Delimiter.{Delimiter}
use Rattle.proc_macro2.specs.Leaf.{AreLeaves}
use Rattle.proc_macro2.specs.Token.{Token, Opens, Closes, Ident, Literal, Punct}
use Rattle.syn_grammar.specs.Words.{plain_decimal, integer, or_zero}
use Rattle.syn_grammar.specs.Tree.{Tree, AWord, ALiteral, AMark, ALifetime, Raw, Nil, Pair, First, Second, End, Again}
use Rattle.syn_grammar.specs.Tree.{Final, More, Group, Dropped, Called, Verbatim, Hidden, Node, Whole, Alone, Front}
use Rattle.syn_grammar.specs.Tree.{Back, Infix, marks, flat}
use Rattle.syn_grammar.specs.Gram.{Gram, word, literal, mark, lifetime, raw, nothing, seq, alt, star, many, group}
use Rattle.syn_grammar.specs.Gram.{judged, dropped, called, ref, operand}
use Rattle.syn_grammar.specs.Table.{table}
use Rattle.syn_grammar.specs.Derives.{Derives, Bound}
use Rattle.syn_grammar.specs.Kind.{Kind, Position, Plain}
use Rattle.syn_grammar.specs.Forms.{inside}
use Rattle.syn_grammar.specs.Kept.{kept}
use Rattle.syn_grammar.specs.Normal.{apart, normal}
use Rattle.syn_grammar.proofs.Every.{Every, no_row, AnyDelimiter, AnyTurn, in_any, out_any, every_kept, every_normal}
use Rattle.laws_programs.proofs.Stacks.{opened, IsMatching, matching_none, matching_both, matching_word}
use Rattle.laws_programs.proofs.Stacks.{matching_literal, matching_mark, matching_marks, matching_group}
use Rattle.laws_programs.proofs.Stacks.{matching_apart, matching_balanced}

abbrev IsWord : List ℕ → Type 0
IsWord cs = IsIdent cs []

abbrev AreMarks : ℕ → List ℕ → Type 0
AreMarks c [] = is_mark c ≡ true
AreMarks c (d ∷ ds) = (is_mark c ≡ true) × AreMarks d ds

-- however they are spaced
abbrev Marked : ℕ → List ℕ → Spacing → Type 0
Marked c cs spacing = AreMarks c cs

abbrev IsPart : List Token → Type 0
IsPart ts = AreLeaves ts × IsMatching ts

-- each word, literal and mark of a tree is a leaf, and of raw tokens the groups match
abbrev pub Good : Tree → Type 0
Good x = Every false AnyTurn AnyDelimiter IsWord IsLiteralLeaf Marked IsPart IsPart x

-- a node is as good as what stands in it
into : (k : Kind) (x : Tree) → Good x → Good (Node k x)
into k x h = in_any false AnyTurn AnyDelimiter IsWord IsLiteralLeaf Marked IsPart IsPart no_row (λ ts i. i) k x h

inner : (k : Kind) (x : Tree) → Good (Node k x) → Good x
inner k x h = out_any false AnyTurn AnyDelimiter IsWord IsLiteralLeaf Marked IsPart IsPart no_row (λ ts i. i) k x h

-- leaves one behind the other

both : (ts us : List Token) → AreLeaves ts → AreLeaves us → AreLeaves (ts ++ us)
both [] us a b = b
both (t ∷ ts) us a b = (a.0, both ts us a.1 b)

front : (ts us : List Token) → AreLeaves (ts ++ us) → AreLeaves ts
front [] us a = tt
front (t ∷ ts) us a = (a.0, front ts us a.1)

back : (ts us : List Token) → AreLeaves (ts ++ us) → AreLeaves us
back [] us a = a
back (t ∷ ts) us a = back ts us a.1

of_marks : (c : ℕ) (cs : List ℕ) (spacing : Spacing) → AreMarks c cs → AreLeaves (marks c cs spacing)
of_marks c [] spacing h = (h, tt)
of_marks c (d ∷ ds) spacing h = (h.0, of_marks d ds spacing h.1)

are_marks : (c : ℕ) (cs : List ℕ) (spacing : Spacing) → AreLeaves (marks c cs spacing) → AreMarks c cs
are_marks c [] spacing a = a.0
are_marks c (d ∷ ds) spacing a = (a.0, are_marks d ds spacing a.1)

of_apart : (ts : List Token) → AreLeaves ts → AreLeaves (apart ts)
of_apart [] a = tt
of_apart (Punct c spacing ∷ []) a = a
of_apart (Punct c spacing ∷ t ∷ ts) a = (a.0, of_apart (t ∷ ts) a.1)
of_apart (Opens d ∷ ts) a = (tt, of_apart ts a.1)
of_apart (Closes d ∷ ts) a = (tt, of_apart ts a.1)
of_apart (Ident cs ∷ ts) a = (a.0, of_apart ts a.1)
of_apart (Literal cs ∷ ts) a = (a.0, of_apart ts a.1)

-- a good tree's tokens

pub leaves : (x : Tree) → Good x → AreLeaves (flat x)
unfolding is_mark
leaves (AWord cs) h = (h, tt)
leaves (ALiteral cs) h = (h, tt)
leaves (AMark c cs spacing) h = of_marks c cs spacing h
leaves (ALifetime cs) h = (refl, (h, tt))
leaves (Raw ts) h = h.0
leaves Nil h = tt
leaves (Pair x y) h = both (flat x) (flat y) (leaves x h.0) (leaves y h.1)
leaves (First x) h = leaves x h
leaves (Second x) h = leaves x h
leaves End h = tt
leaves (Again x y) h = both (flat x) (flat y) (leaves x h.0) (leaves y h.1)
leaves (Final x) h = leaves x h
leaves (More x c spacing y) h = both (flat x) (Punct c spacing ∷ flat y) (leaves x h.0) (h.1, leaves y h.2)
leaves (Group d x) h = (tt, both (flat x) (Closes d ∷ []) (leaves x h.1) (tt, tt))
leaves (Dropped x) h = leaves x h
leaves (Called n x) h = leaves x h
leaves (Verbatim x) h = h.0
leaves (Hidden x) h = tt
leaves (Node k x) h = leaves x (inner k x h)
leaves (Whole x) h = leaves x h
leaves (Alone k y) h = leaves y h
leaves (Front k y x) h = both (flat y) (flat x) (leaves y h.0) (leaves x h.1)
leaves (Back l k y) h = both (flat l) (flat y) (leaves l h.0) (leaves y h.1)
leaves (Infix l k y r) h =
    both (flat l) (flat y ++ flat r) (leaves l h.0) (both (flat y) (flat r) (leaves y h.1) (leaves r h.2))

pub matching : (x : Tree) → Good x → IsMatching (flat x)
matching (AWord cs) h = matching_word cs
matching (ALiteral cs) h = matching_literal cs
matching (AMark c cs spacing) h = matching_marks c cs spacing
matching (ALifetime cs) h = matching_both (Punct 39 Joint ∷ []) (Ident cs ∷ []) (matching_mark 39 Joint)
    (matching_word cs)
matching (Raw ts) h = h.1
matching Nil h = matching_none
matching (Pair x y) h = matching_both (flat x) (flat y) (matching x h.0) (matching y h.1)
matching (First x) h = matching x h
matching (Second x) h = matching x h
matching End h = matching_none
matching (Again x y) h = matching_both (flat x) (flat y) (matching x h.0) (matching y h.1)
matching (Final x) h = matching x h
matching (More x c spacing y) h =
    matching_both (flat x) (Punct c spacing ∷ flat y) (matching x h.0)
    (matching_both (Punct c spacing ∷ []) (flat y) (matching_mark c spacing) (matching y h.2))
matching (Group d x) h = matching_group d (flat x) (matching x h.1)
matching (Dropped x) h = matching x h
matching (Called n x) h = matching x h
matching (Verbatim x) h = h.1
matching (Hidden x) h = matching_none
matching (Node k x) h = matching x (inner k x h)
matching (Whole x) h = matching x h
matching (Alone k y) h = matching y h
matching (Front k y x) h = matching_both (flat y) (flat x) (matching y h.0) (matching x h.1)
matching (Back l k y) h = matching_both (flat l) (flat y) (matching l h.0) (matching y h.1)
matching (Infix l k y r) h =
    matching_both (flat l) (flat y ++ flat r) (matching l h.0)
    (matching_both (flat y) (flat r) (matching y h.1) (matching r h.2))

-- The tokens are leaves, and stand among others whose groups match.
pub record IsWithin (xs : List Token) : Type 0 where
  pub leaves : AreLeaves xs
  pub before : List Delimiter
  pub behind : List Token
  pub after : List Delimiter
  pub opens : opened before (xs ++ behind) ≡ Some after

within_front : (xs ys : List Token) → IsWithin (xs ++ ys) → IsWithin xs
within_front xs ys w = record {
  leaves = front xs ys w.leaves;
  before = w.before;
  behind = ys ++ w.behind;
  after = w.after;
  opens = sym (ap (opened w.before) (append_assoc xs ys w.behind)) ∙ w.opens;
}

within_back : (xs ys : List Token) → IsMatching xs → IsWithin (xs ++ ys) → IsWithin ys
within_back xs ys m w = record {
  leaves = back xs ys w.leaves;
  before = w.before;
  behind = w.behind;
  after = w.after;
  opens = sym (ap (opened w.before) (append_assoc xs ys w.behind) ∙ m.by w.before (ys ++ w.behind)) ∙ w.opens;
}

within_group : (d : Delimiter) (xs : List Token) → IsWithin (Opens d ∷ xs ++ Closes d ∷ []) → IsWithin xs
within_group d xs w = record {
  leaves = front xs (Closes d ∷ []) w.leaves.1;
  before = d ∷ w.before;
  behind = Closes d ∷ w.behind;
  after = w.after;
  opens = sym (ap (opened (d ∷ w.before)) (append_assoc xs (Closes d ∷ []) w.behind)) ∙ w.opens;
}

-- what is read of such tokens is a good tree

mutual
  pub good : (x : Tree) (g : Gram) (r : List Token) → Derives x g r → IsWithin (flat x) → Good x
  good (AWord cs) (word p) r d w = w.leaves.0
  good (ALiteral cs) (literal p) r d w = w.leaves.0
  good (AMark c cs spacing) (mark e es) r d w = are_marks c cs spacing w.leaves
  good (ALifetime cs) lifetime r d w = w.leaves.1.0
  good (Raw ts) raw r d w = (w.leaves, matching_balanced w.before w.after ts w.behind d.0 w.opens)
  good Nil nothing r d w = tt
  good (Pair x y) (seq a b) r d w =
      let h : Good x = good x a (flat y ++ r) d.0 (within_front (flat x) (flat y) w) in
      (h, good y b r d.1 (within_back (flat x) (flat y) (matching x h) w))
  good (First x) (alt t a b) r d w = good x a r d.1 w
  good (Second x) (alt t a b) r d w = good x b r d.1 w
  good End (star t g) r d w = tt
  good (Again x y) (star t g) r d w =
      let h : Good x = good x g (flat y ++ r) d.1 (within_front (flat x) (flat y) w) in
      (h, good y (star t g) r d.2 (within_back (flat x) (flat y) (matching x h) w))
  good End (many e c g) r d w = tt
  good (Final x) (many e c g) r d w = good x g r d.1 w
  good (More x m spacing y) (many e c g) r d w =
      let h : Good x =
      good x g (Punct m spacing ∷ flat y ++ r) d.2 (within_front (flat x) (Punct m spacing ∷ flat y) w) in
      let v : IsWithin (Punct m spacing ∷ flat y) =
      within_back (flat x) (Punct m spacing ∷ flat y) (matching x h) w in (
        h,
        v.leaves.0,
        good y (many e c g) r d.3 (within_back (Punct m spacing ∷ []) (flat y) (matching_mark m spacing) v),
      )
  good (Group e x) (group f g) r d w = (tt, good x g [] d.1 (within_group e (flat x) w))
  good (First x) (judged v g) r d w = good x g r d.1 w
  good (Verbatim x) (judged v g) r d w = (w.leaves, matching x (good x g r d.1 w))
  good (Dropped x) (dropped g) r d w = good x g r d w
  good (Called n x) (called m g) r d w = good x g r d.1 w
  good (Node k x) (ref l) r d w = into k x (good x (table k) r d.1 w)
  good (Whole x) (operand p n) r d w = good_form x p r d.1 w
  good _ _ r d w = absurd d

  good_form : (x : Tree) (p : Position) (r : List Token) → Bound p x r → IsWithin (flat x) → Good x
  good_form (Alone k y) p r d w = good y (table k) r d.1 w
  good_form (Front k y x) p r d w =
      let h : Good y = good y (table k) (flat x ++ r) d.1 (within_front (flat y) (flat x) w) in
      (h, good_form x (inside p k) r d.4 (within_back (flat y) (flat x) (matching y h) w))
  good_form (Back l k y) p r d w =
      let h : Good l = good_form l p (flat y ++ r) d.4 (within_front (flat l) (flat y) w) in
      (h, good y (table k) r d.1 (within_back (flat l) (flat y) (matching l h) w))
  good_form (Infix l k y z) p r d w =
      let h : Good l = good_form l p (flat y ++ (flat z ++ r)) d.4 (within_front (flat l) (flat y ++ flat z) w) in
      let v : IsWithin (flat y ++ flat z) = within_back (flat l) (flat y ++ flat z) (matching l h) w in
      let i : Good y = good y (table k) (flat z ++ r) d.1 (within_front (flat y) (flat z) v) in
      (h, i, good_form z (inside p k) r d.6 (within_back (flat y) (flat z) (matching y i) v))
  good_form _ p r d w = absurd d

-- what is added

underscore : IsWord (codes "_")
unfolding is_first is_next opener_of unicode_ident
underscore = (refl, inl ((refl, refl), refl))

index : (cs : List ℕ) → IsLiteralLeaf (plain_decimal cs)
unfolding plain_decimal
index cs =
    subst IsLiteralLeaf (append-nil (decimal (or_zero (integer cs)))) (integer_literal (or_zero (integer cs)) [] tt)

colon : AreMarks 58 []
unfolding is_mark
colon = refl

dot : AreMarks 46 []
unfolding is_mark
dot = refl

comma : AreMarks 44 []
unfolding is_mark
comma = refl

part_apart : (ts : List Token) → IsPart ts → IsPart (apart ts)
part_apart ts h = (of_apart ts h.0, matching_apart ts h.1)

-- the normal form of a good tree
pub good_normal : (x : Tree) → Good x → Good (normal (kept x))
good_normal x h =
    every_normal false AnyTurn AnyTurn AnyDelimiter IsWord IsLiteralLeaf Marked IsPart IsPart comma (λ c cs i m. m) tt
    part_apart (λ p a b f i. f i) (λ a b f i. f i) Plain (kept x)
    (every_kept false AnyTurn AnyDelimiter IsWord IsLiteralLeaf Marked IsPart IsPart underscore index colon dot
    (λ c cs i m. m) (λ ts i. i) no_row x h)
