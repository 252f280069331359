-- The tokens of a normal form are well spaced where those that were read are, and no raw form ends in a joint mark.
use Rattle.std.proofs.Common.{◌≡◌, ℕ, List, [], ◌∷◌, ◌++◌, refl, sym, ap, ◌∙◌, subst, append_assoc}
use Rattle.std.specs.Prelude.{Bool, true, false, ◌&&◌, not, ◌==◌, if◌then◌else◌, IsTrue}
use Rattle.std.proofs.lemmas.List.{append-nil}
use Rattle.proc_macro2.specs.Token.{Token, Opens, Closes, Ident, Literal, Punct}
use Rattle.proc_macro2.specs.declared.delimiter.Delimiter.{Delimiter}
use Rattle.rust_leaf.specs.declared.punct.Spacing.{Spacing}
use Rattle.rust_leaf.specs.declared.punct.Spacing.TheVariants.{Alone as Apart, Joint}
use Rattle.proc_macro2.specs.Spacing.{quote, begin_comment, is_visible, follows_mark, follows_quote, may_stand}
use Rattle.proc_macro2.specs.Spacing.{IsWellSpaced}
use Rattle.syn_grammar.specs.Kind.{Kind, Position, Plain, AnItem}
use Rattle.syn_grammar.specs.Tree.{Tree, AWord, ALiteral, AMark, ALifetime, Raw, Nil, Pair, First, Second, End, Again}
use Rattle.syn_grammar.specs.Tree.{Final, More, Group, Dropped, Called, Verbatim, Hidden, Node, Whole, Alone, Front}
use Rattle.syn_grammar.specs.Tree.{Back, Infix, marks, flat}
use Rattle.syn_grammar.specs.Gram.{Gram, word, literal, mark, lifetime, raw, nothing, seq, alt, star, many, group}
use Rattle.syn_grammar.specs.Gram.{judged, dropped, called, ref, operand}
use Rattle.syn_grammar.specs.Table.{table}
use Rattle.syn_grammar.specs.Forms.{inside}
use Rattle.syn_grammar.specs.Derives.{Derives, Bound}
use Rattle.syn_grammar.specs.Calm.{ends_apart, RawsEndApart, calm_marks, calm_entry, MayPrecede}
use Rattle.syn_grammar.specs.Kept.{dotted, held, forget, kept}
use Rattle.syn_grammar.specs.Normal.{apart, normal}
use Rattle.syn_grammar.proofs.Whole.{and_true}
use Rattle.syn_grammar.proofs.Marks.{all_calm}
use Rattle.syn_grammar.proofs.Every.{Every, EveryTurn, AnyText, AnyTurn, is_item, is_row, no_row, item_kind, in_any}
use Rattle.syn_grammar.proofs.Every.{out_node, out_row, every_forget, every_dotted, every_normal}

-- a mark that may stand at an end may stand before all
end_mark : (c : ℕ) (spacing : Spacing) (b : Bool) → (c == quote) ≡ b → IsTrue (may_stand (Punct c spacing) [])
    → (s : List Token) → IsTrue (may_stand (Punct c spacing) s)
end_mark c Apart b e h s = h
end_mark c Joint true e h s = let f : false ≡ true = sym (ap (λ b. if b then false else false) e) ∙ h in cc f
end_mark c Joint false e h s = let f : false ≡ true = sym (ap (λ b. if b then false else false) e) ∙ h in cc f

pub end_any : (t : Token) → IsTrue (may_stand t []) → (s : List Token) → IsTrue (may_stand t s)
end_any (Opens d) h s = h
end_any (Closes d) h s = h
end_any (Ident cs) h s = h
end_any (Literal cs) h s = h
end_any (Punct c spacing) h s = end_mark c spacing (c == quote) refl h s

-- only the next token is seen
next_mark : (c : ℕ) (u : Token) (r s : List Token)
    → may_stand (Punct c Joint) (u ∷ r) ≡ may_stand (Punct c Joint) (u ∷ s)
next_mark c (Opens d) r s = refl
next_mark c (Closes d) r s = refl
next_mark c (Ident cs) r s = refl
next_mark c (Literal cs) r s = refl
next_mark c (Punct d spacing) r s = refl

pub next_any : (t u : Token) (r s : List Token) → may_stand t (u ∷ r) ≡ may_stand t (u ∷ s)
next_any (Opens d) u r s = refl
next_any (Closes d) u r s = refl
next_any (Ident cs) u r s = refl
next_any (Literal cs) u r s = refl
next_any (Punct c Apart) u r s = refl
next_any (Punct c Joint) u r s = next_mark c u r s

pub loose : (ts : List Token) → IsWellSpaced (ts ++ []) → MayPrecede ts
loose [] w s v = v
loose (t ∷ []) w s v = (end_any t w.0 s, v)
loose (t ∷ u ∷ ts) w s v = (sym (next_any t u (ts ++ []) (ts ++ s)) ∙ w.0, loose (u ∷ ts) w.1 s v)

-- the closing mark of a group stands at an end
closes_mark : (c : ℕ) (spacing : Spacing) (b : Bool) (d : Delimiter) (r : List Token) → (c == quote) ≡ b
    → IsTrue (may_stand (Punct c spacing) (Closes d ∷ r)) → IsTrue (may_stand (Punct c spacing) [])
closes_mark c Apart b d r e h = h
closes_mark c Joint true d r e h = let f : false ≡ true = sym (ap (λ b. if b then false else false) e) ∙ h in cc f
closes_mark c Joint false d r e h = let f : false ≡ true = sym (ap (λ b. if b then false else false) e) ∙ h in cc f

pub closes_any : (t : Token) (d : Delimiter) (r : List Token) → IsTrue (may_stand t (Closes d ∷ r))
    → IsTrue (may_stand t [])
closes_any (Opens e) d r h = h
closes_any (Closes e) d r h = h
closes_any (Ident cs) d r h = h
closes_any (Literal cs) d r h = h
closes_any (Punct c spacing) d r h = closes_mark c spacing (c == quote) d r refl h

-- the inside of a group is well spaced by itself
pub cut : (ts : List Token) (d : Delimiter) (r : List Token) → IsWellSpaced (ts ++ Closes d ∷ r)
    → IsWellSpaced (ts ++ [])
cut [] d r w = tt
cut (t ∷ []) d r w = (closes_any t d r w.0, tt)
cut (t ∷ u ∷ ts) d r w = (sym (next_any t u (ts ++ Closes d ∷ r) (ts ++ [])) ∙ w.0, cut (u ∷ ts) d r w.1)

pub spaced_behind : (xs ys : List Token) → IsWellSpaced (xs ++ ys) → IsWellSpaced ys
spaced_behind [] ys w = w
spaced_behind (x ∷ xs) ys w = spaced_behind xs ys w.1

no_quote : (b : Bool) (x y : Bool) → not b ≡ true → y ≡ true → (if b then x else y) ≡ true
no_quote true x y e h = cc
no_quote false x y e h = h

before_marks : (c d : ℕ) (ds : List ℕ) (s : List Token) → not (begin_comment c d) ≡ true
    → follows_mark c (marks d ds Apart ++ s) ≡ true
before_marks c d [] s h = h
before_marks c d (e ∷ es) s h = h

pub marks_precede : (c : ℕ) (cs : List ℕ) → calm_marks c cs ≡ true → MayPrecede (marks c cs Apart)
marks_precede c [] h s v = (h, v)
marks_precede c (d ∷ ds) h s v =
    let a = and_true _ _ h in
    let b = and_true _ _ a.1 in (
      no_quote (c == quote) (follows_quote (marks d ds Apart ++ s)) (follows_mark c (marks d ds Apart ++ s)) a.0
          (before_marks c d ds s b.0),
      marks_precede d ds b.1 s v,
    )

pub both_precede : (xs ys : List Token) → MayPrecede xs → MayPrecede ys → MayPrecede (xs ++ ys)
both_precede xs ys a b s v = subst IsWellSpaced (sym (append_assoc xs ys s)) (a (ys ++ s) (b s v))

-- what is well spaced, and ends in no joint mark, may stand before all
pub last_any : (t : Token) → ends_apart (t ∷ []) ≡ true → (r s : List Token) → IsTrue (may_stand t r)
    → IsTrue (may_stand t s)
last_any (Opens d) e r s h = h
last_any (Closes d) e r s h = h
last_any (Ident cs) e r s h = h
last_any (Literal cs) e r s h = h
last_any (Punct c Apart) e r s h = h
last_any (Punct c Joint) e r s h = cc

pub tail_apart : (t u : Token) (ts : List Token) → ends_apart (t ∷ u ∷ ts) ≡ true → ends_apart (u ∷ ts) ≡ true
tail_apart (Opens d) u ts e = e
tail_apart (Closes d) u ts e = e
tail_apart (Ident cs) u ts e = e
tail_apart (Literal cs) u ts e = e
tail_apart (Punct c Apart) u ts e = e
tail_apart (Punct c Joint) u ts e = e

pub apart_precedes : (ts r : List Token) → ends_apart ts ≡ true → IsWellSpaced (ts ++ r) → MayPrecede ts
apart_precedes [] r e w s v = v
apart_precedes (t ∷ []) r e w s v = (last_any t e r s w.0, v)
apart_precedes (t ∷ u ∷ ts) r e w s v =
    (sym (next_any t u (ts ++ r) (ts ++ s)) ∙ w.0, apart_precedes (u ∷ ts) r (tail_apart t u ts e) w.1 s v)

-- what is asked of trees whose tokens may stand before all: of delimiters that they are printed
abbrev pub Printed : Delimiter → Type 0
Printed d = IsTrue (is_visible d)

-- and of marks that they stand alone
abbrev pub CalmMark : ℕ → List ℕ → Spacing → Type 0
CalmMark c cs spacing = (calm_marks c cs ≡ true) × (spacing ≡ Apart)

-- So they may. Of an element of a row something else may be asked: what lets it stand before those behind it.
module _ (S : Bool) (T : Tree → Tree → Type 0 → Type 0) where
  abbrev E : Tree → Type 0
  E x = Every S T Printed AnyText AnyText CalmMark MayPrecede MayPrecede x

  abbrev R : Tree → Type 0
  R x = EveryTurn S T Printed AnyText AnyText CalmMark MayPrecede MayPrecede x

  item_precedes : (x : Tree) → (E x → MayPrecede (flat x)) → E (Node AnItem x) → MayPrecede (flat x)
  item_precedes (Raw ts) f h = h
  item_precedes (Verbatim x) f h = h
  item_precedes x f h = f h

  node_precedes : (k : Kind) (x : Tree) (b c : Bool) → is_item k ≡ b → is_row k && S ≡ c → (E x → MayPrecede (flat x))
      → (R x → MayPrecede (flat x)) → E (Node k x) → MayPrecede (flat x)
  node_precedes k x false false e g f l h =
      f (out_node S T Printed AnyText AnyText CalmMark MayPrecede MayPrecede k x e g h)
  node_precedes k x false true e g f l h =
      l (out_row S T Printed AnyText AnyText CalmMark MayPrecede MayPrecede k x e g h)
  node_precedes k x true c e g f l h = item_precedes x f (subst (λ i. E (Node i x)) (item_kind k e) h)

  module _ (turn : (x y : Tree) → (E x → MayPrecede (flat x)) → MayPrecede (flat y) → T x y (E x)
      → MayPrecede (flat x ++ flat y)) where
    mutual
      pub every_precedes : (x : Tree) → E x → MayPrecede (flat x)
      every_precedes (AWord cs) h s v = (refl, v)
      every_precedes (ALiteral cs) h s v = (refl, v)
      every_precedes (AMark c cs spacing) h s v =
          subst (λ i. IsWellSpaced (marks c cs i ++ s)) (sym h.1) (marks_precede c cs h.0 s v)
      every_precedes (ALifetime cs) h s v = (refl, (refl, v))
      every_precedes (Raw ts) h s v = h s v
      every_precedes Nil h s v = v
      every_precedes (Pair x y) h s v =
          both_precede (flat x) (flat y) (every_precedes x h.0) (every_precedes y h.1) s v
      every_precedes (First x) h s v = every_precedes x h s v
      every_precedes (Second x) h s v = every_precedes x h s v
      every_precedes End h s v = v
      every_precedes (Again x y) h s v =
          both_precede (flat x) (flat y) (every_precedes x h.0) (every_precedes y h.1) s v
      every_precedes (Final x) h s v = every_precedes x h s v
      every_precedes (More x m spacing y) h s v =
          both_precede (flat x) (Punct m spacing ∷ flat y) (every_precedes x h.0)
          (λ u w. subst (λ i. IsWellSpaced (Punct m i ∷ flat y ++ u)) (sym h.1.1) (h.1.0, every_precedes y h.2 u w)) s v
      every_precedes (Group d x) h s v = (
        h.0,
        subst IsWellSpaced (sym (append_assoc (flat x) (Closes d ∷ []) s))
            (every_precedes x h.1 (Closes d ∷ s) (h.0, v)),
      )
      every_precedes (Dropped x) h s v = every_precedes x h s v
      every_precedes (Called n x) h s v = every_precedes x h s v
      every_precedes (Verbatim x) h s v = h s v
      every_precedes (Hidden x) h s v = v
      every_precedes (Node k x) h s v =
          node_precedes k x (is_item k) (is_row k && S) refl refl (λ i. every_precedes x i)
          (λ i. turns_precede x i) h s v
      every_precedes (Whole x) h s v = every_precedes x h s v
      every_precedes (Alone k y) h s v = every_precedes y h s v
      every_precedes (Front k y x) h s v =
          both_precede (flat y) (flat x) (every_precedes y h.0) (every_precedes x h.1) s v
      every_precedes (Back l k y) h s v =
          both_precede (flat l) (flat y) (every_precedes l h.0) (every_precedes y h.1) s v
      every_precedes (Infix l k y r) h s v =
          both_precede (flat l) (flat y ++ flat r) (every_precedes l h.0)
          (both_precede (flat y) (flat r) (every_precedes y h.1) (every_precedes r h.2)) s v

      turns_precede : (x : Tree) → R x → MayPrecede (flat x)
      turns_precede (First x) h = turns_precede x h
      turns_precede (Again x y) h = turn x y (λ i. every_precedes x i) (turns_precede y h.1) h.0
      turns_precede End h = λ s v. v
      turns_precede _ h = absurd h

-- and where of an element of a row nothing else is asked
abbrev pub Calm : Tree → Type 0
Calm x = Every false AnyTurn Printed AnyText AnyText CalmMark MayPrecede MayPrecede x

pub calm_precedes : (x : Tree) → Calm x → MayPrecede (flat x)
calm_precedes x h = every_precedes false AnyTurn (λ y z f m i. both_precede (flat y) (flat z) (f i) m) x h

-- what is kept

calm_node : (k : Kind) (x : Tree) → Calm (kept x) → Calm (kept (Node k x))
calm_node k x h =
    in_any false AnyTurn Printed AnyText AnyText CalmMark MayPrecede MayPrecede no_row (λ ts i. i) (held k)
    (forget k (kept x)) (every_forget false AnyTurn Printed AnyText AnyText CalmMark MayPrecede MayPrecede tt
    (λ cs. tt) (refl, refl) (refl, refl) k (kept x) h)

calm_dotted : (l : Tree) (k : Kind) (y : Tree) → Calm l → Calm y → Calm (dotted l k y)
calm_dotted l k y h i =
    every_dotted false AnyTurn Printed AnyText AnyText CalmMark MayPrecede MayPrecede tt (λ cs. tt) (refl, refl)
    (refl, refl) l k y h i

mutual
  calm_kept : (x : Tree) (g : Gram) (r : List Token) → calm_entry g ≡ true → Derives x g r → IsWellSpaced (flat x ++ r)
      → RawsEndApart x → Calm (kept x)
  calm_kept (AWord cs) (word p) r c d w e = tt
  calm_kept (ALiteral cs) (literal p) r c d w e = tt
  calm_kept (AMark m ms spacing) (mark n ns) r c d w e =
      (ap (λ k. calm_marks k ms) d.0 ∙ ap (calm_marks n) d.1 ∙ c, refl)
  calm_kept (ALifetime cs) lifetime r c d w e = tt
  calm_kept (Raw ts) raw r c d w e = loose ts (subst (λ q. IsWellSpaced (ts ++ q)) d.1 w)
  calm_kept Nil nothing r c d w e = tt
  calm_kept (Pair x y) (seq a b) r c d w e =
      let h = and_true _ _ c in
      let v = subst IsWellSpaced (append_assoc (flat x) (flat y) r) w in
      (calm_kept x a (flat y ++ r) h.0 d.0 v e.0, calm_kept y b r h.1 d.1 (spaced_behind (flat x) (flat y ++ r) v) e.1)
  calm_kept (First x) (alt t a b) r c d w e = calm_kept x a r (and_true _ _ c).0 d.1 w e
  calm_kept (Second x) (alt t a b) r c d w e = calm_kept x b r (and_true _ _ c).1 d.1 w e
  calm_kept End (star t g) r c d w e = tt
  calm_kept (Again x y) (star t g) r c d w e =
      let v = subst IsWellSpaced (append_assoc (flat x) (flat y) r) w in (
        calm_kept x g (flat y ++ r) c d.1 v e.0,
        calm_kept y (star t g) r c d.2 (spaced_behind (flat x) (flat y ++ r) v) e.1,
      )
  calm_kept End (many f m g) r c d w e = tt
  calm_kept (Final x) (many f m g) r c d w e = calm_kept x g r (and_true _ _ c).1 d.1 w e
  calm_kept (More x m spacing y) (many f n g) r c d w e =
      let h = and_true _ _ c in
      let v = subst IsWellSpaced (append_assoc (flat x) (Punct m spacing ∷ flat y) r) w in (
        calm_kept x g (Punct m spacing ∷ flat y ++ r) h.1 d.2 v e.0,
        (ap (λ k. not (k == quote)) d.1 ∙ h.0, refl),
        calm_kept y (many f n g) r c d.3 (spaced_behind (flat x) (Punct m spacing ∷ flat y ++ r) v).1 e.1,
      )
  calm_kept (Group f x) (group o g) r c d w e =
      let v = subst IsWellSpaced (append_assoc (flat x) (Closes f ∷ []) r) w.1 in
      (w.0, calm_kept x g [] c d.1 (cut (flat x) f r v) e)
  calm_kept (First x) (judged v g) r c d w e = calm_kept x g r c d.1 w e
  calm_kept (Verbatim x) (judged v g) r c d w e = apart_precedes (flat x) r e w
  calm_kept (Dropped x) (dropped g) r c d w e = tt
  calm_kept (Called n x) (called m g) r c d w e = calm_kept x g r c d.1 w e
  calm_kept (Node k x) (ref l) r c d w e = calm_node k x (calm_kept x (table k) r (all_calm k) d.1 w e)
  calm_kept (Whole x) (operand p n) r c d w e = calm_bound x p r d.1 w e
  calm_kept _ _ r c d w e = absurd d

  calm_bound : (x : Tree) (p : Position) (r : List Token) → Bound p x r → IsWellSpaced (flat x ++ r) → RawsEndApart x
      → Calm (kept x)
  calm_bound (Alone k y) p r d w e = calm_kept y (table k) r (all_calm k) d.1 w e
  calm_bound (Front k y x) p r d w e =
      let v = subst IsWellSpaced (append_assoc (flat y) (flat x) r) w in (
        calm_kept y (table k) (flat x ++ r) (all_calm k) d.1 v e.0,
        calm_bound x (inside p k) r d.4 (spaced_behind (flat y) (flat x ++ r) v) e.1,
      )
  calm_bound (Back l k y) p r d w e =
      let v = subst IsWellSpaced (append_assoc (flat l) (flat y) r) w in
      calm_dotted (kept l) k (kept y) (calm_bound l p (flat y ++ r) d.4 v e.0)
      (calm_kept y (table k) r (all_calm k) d.1 (spaced_behind (flat l) (flat y ++ r) v) e.1)
  calm_bound (Infix l k y z) p r d w e =
      let v = subst IsWellSpaced
      (append_assoc (flat l) (flat y ++ flat z) r ∙ ap (λ u. flat l ++ u) (append_assoc (flat y) (flat z) r)) w in
      let u = spaced_behind (flat l) (flat y ++ (flat z ++ r)) v in (
        calm_bound l p (flat y ++ (flat z ++ r)) d.4 v e.0,
        calm_kept y (table k) (flat z ++ r) (all_calm k) d.1 u e.1,
        calm_bound z (inside p k) r d.6 (spaced_behind (flat y) (flat z ++ r) u) e.2,
      )
  calm_bound _ p r d w e = absurd d

-- where all may follow, the last mark stands alone already
last_mark : (c : ℕ) (spacing : Spacing) (b : Bool) → (c == quote) ≡ b → IsTrue (may_stand (Punct c spacing) [])
    → Punct c Apart ∷ [] ≡ Punct c spacing ∷ []
last_mark c Apart b e h = refl
last_mark c Joint true e h = let f : false ≡ true = sym (ap (λ b. if b then false else false) e) ∙ h in cc f
last_mark c Joint false e h = let f : false ≡ true = sym (ap (λ b. if b then false else false) e) ∙ h in cc f

pub apart_same : (ts : List Token) → IsWellSpaced (ts ++ []) → apart ts ≡ ts
apart_same [] w = refl
apart_same (Punct c spacing ∷ []) w = last_mark c spacing (c == quote) refl w.0
apart_same (Punct c spacing ∷ t ∷ ts) w = ap (λ us. Punct c spacing ∷ us) (apart_same (t ∷ ts) w.1)
apart_same (Opens d ∷ ts) w = ap (λ us. Opens d ∷ us) (apart_same ts w.1)
apart_same (Closes d ∷ ts) w = ap (λ us. Closes d ∷ us) (apart_same ts w.1)
apart_same (Ident cs ∷ ts) w = ap (λ us. Ident cs ∷ us) (apart_same ts w.1)
apart_same (Literal cs ∷ ts) w = ap (λ us. Literal cs ∷ us) (apart_same ts w.1)

calm_apart : (ts : List Token) → MayPrecede ts → MayPrecede (apart ts)
calm_apart ts m = subst MayPrecede (sym (apart_same ts (m [] tt))) m

calm_normal : (x : Tree) → Calm x → Calm (normal x)
calm_normal x h =
    every_normal false AnyTurn AnyTurn Printed AnyText AnyText CalmMark MayPrecede MayPrecede (refl, refl)
    (λ c cs i m. (m.0, refl)) refl calm_apart (λ p a b f i. f i) (λ a b f i. f i) Plain x h

-- the tokens of the normal form are well spaced, before all that is
pub normal_spaced : (k : Kind) (x : Tree) (r s : List Token) → Derives x (ref k) r → IsWellSpaced (flat x ++ r)
    → RawsEndApart x → IsWellSpaced s → IsWellSpaced (flat (normal (kept x)) ++ s)
normal_spaced k x r s d w e v = calm_precedes (normal (kept x))
    (calm_normal (kept x) (calm_kept x (ref k) r refl d w e)) s v

pub spaced : (k : Kind) (x : Tree) (r : List Token) → Derives x (ref k) r → IsWellSpaced (flat x ++ r) → RawsEndApart x
    → IsWellSpaced (flat (normal (kept x)))
spaced k x r d w e = subst IsWellSpaced (append-nil (flat (normal (kept x)))) (normal_spaced k x r [] d w e tt)
