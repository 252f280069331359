-- For each tree that is derived there is one that fits its entry, and of which the normal form is kept.
use Rattle.std.proofs.Common.{◌≡◌, List, [], ◌∷◌, ◌++◌, refl, sym, ap, ◌∙◌, subst}
use Rattle.std.specs.Prelude.{not, Bool, true, false, ◌&&◌, ◌||◌}
use Rattle.proc_macro2.specs.Token.{Token, Punct}
use Rattle.rust_leaf.specs.declared.punct.Spacing.TheVariants.{Alone as Apart}
use Rattle.syn_grammar.specs.Kind.{AStatement, Kind, Position, Plain, InCondition, InArm, InStatement, Expression}
use Rattle.syn_grammar.specs.Tree.{Tree, AWord, ALiteral, AMark, ALifetime, Raw, Nil, Pair, First, Second, End}
use Rattle.syn_grammar.specs.Tree.{Again, Final, More, Group, Dropped, Called, Verbatim, Node, Whole, Alone, Front}
use Rattle.syn_grammar.specs.Tree.{Back, Infix, flat}
use Rattle.syn_grammar.specs.Gram.{Gram, word, literal, mark, lifetime, raw, nothing, seq, alt, star, many, group}
use Rattle.syn_grammar.specs.Gram.{judged, dropped, called, ref, operand, Verdict, Keep}
use Rattle.syn_grammar.specs.Forms.{inside}
use Rattle.syn_grammar.specs.Types.{kept_if}
use Rattle.syn_grammar.specs.Table.{table}
use Rattle.syn_grammar.specs.Derives.{Derives, Bound}
use Rattle.syn_grammar.specs.Kept.{held, forget, kept}
use Rattle.syn_grammar.specs.Tidy.{tidy}
use Rattle.syn_grammar.specs.Normal.{place_of, passed, private, apart_item, apart_if, is_enclosed, normal, normal_in}
use Rattle.laws_items.proofs.Places.{kept_raw}
use Rattle.syn_grammar.specs.Look.{sees}
use Rattle.syn_grammar.specs.Say.{brace}
use Rattle.laws_reread_kinds.proofs.Choices.{both_true, is_false}
use Rattle.laws_reread_kinds.proofs.Conditions.{all_braced, begins_in_braces, brace_stands, condition_ends}
use Rattle.laws_reread_kinds.proofs.Conditions.{ends_in_condition, is_braced, is_condition, is_condition_kind}
use Rattle.laws_reread_kinds.specs.Covered.{has_step, has_form_step, is_known, is_form, is_plain_part, is_taken}
use Rattle.laws_reread_kinds.specs.Covered.{all_covered}
use Rattle.laws_reread_kinds.proofs.Fits.{Fits, FitsRaw, IsMeant}

pub record Printed (g : Gram) (z : Tree) : Type 0 where
  pub tree : Tree
  pub fits : Fits tree g
  pub kept_is : kept tree ≡ z

-- an expression stands in its position
abbrev pub IsPlaced : Position → Kind → Type 0
IsPlaced q (Expression p) = q ≡ p
IsPlaced q _ = Unit {0}

-- a verdict that keeps a tree keeps what is printed for it
abbrev pub VerdictLaw : Position → (Tree → Verdict) → Gram → Type 0
VerdictLaw q v g =
    (x w : Tree) (r : List Token) → all_covered x ≡ true → Derives x g r → Fits w g → kept w ≡ normal_in q (kept x)
    → v x ≡ Keep → v w ≡ Keep

-- what it keeps as tokens fits, as it was read
abbrev pub RawLaw : (Tree → Verdict) → Gram → Type 0
RawLaw v g = (x : Tree) (r : List Token) → Derives (Verbatim x) (judged v g) r → FitsRaw v x g

-- a turn is printed as it is, and where its last mark is set apart, as that of a raw item among statements may be
abbrev pub TurnLaw : Gram → Type 0
TurnLaw g = (b : Bool) (x : Tree) → Fits x g → Printed g (apart_if b (kept x))

-- what is to be known of an entry, beside its kinds
abbrev pub EntryLaw : Position → Gram → Type 0
EntryLaw q (seq a b) = EntryLaw q a × EntryLaw q b
EntryLaw q (alt t a b) = EntryLaw q a × EntryLaw q b
EntryLaw q (star t g) = TurnLaw g × EntryLaw q g
EntryLaw q (many e c g) = EntryLaw q g
EntryLaw q (group d g) = EntryLaw q g
EntryLaw q (judged v g) = VerdictLaw q v g × RawLaw v g × EntryLaw q g
EntryLaw q (dropped g) = Fits private g
EntryLaw q (called n g) = EntryLaw (place_of n) g
EntryLaw q (ref k) = IsPlaced q k
EntryLaw q (operand p n) = (q ≡ p) × (n ≡ 0) × (is_known (Expression p) ≡ true)
EntryLaw q _ = Unit {0}

-- and of a kind: its entry, and how what is printed for what it holds is printed for it
pub record KindLaw (k : Kind) : Type 0 where
  pub entry : (q : Position) → IsPlaced q k → EntryLaw (passed k q) (table k)
  pub node : (q : Position) → IsPlaced q k → (x : Tree) (r : List Token) → is_taken k x ≡ true
      → Derives x (table k) r → Printed (table k) (normal_in (passed k q) (kept x))
      → Printed (ref k) (normal_in q (Node (held k) (forget k (kept x))))

-- what is printed for the own parts of an expression's forms
abbrev pub OwnPrinted : Tree → Type 0
OwnPrinted (Alone k y) = Printed (table k) (normal_in Plain (kept y))
OwnPrinted (Front k y x) = Printed (table k) (normal_in Plain (kept y)) × OwnPrinted x
OwnPrinted (Back l k y) = OwnPrinted l × Printed (table k) (normal_in Plain (kept y))
OwnPrinted (Infix l k y r) = OwnPrinted l × Printed (table k) (normal_in Plain (kept y)) × OwnPrinted r
OwnPrinted _ = Unit {0}

-- An expression is printed where the own parts of its forms are, in a condition before a brace.
abbrev pub WholeLaw : Type 0
WholeLaw =
    (p : Position) (x : Tree) (r : List Token) → is_known (Expression p) ≡ true → Derives (Whole x) (operand p 0) r
    → (p ≡ InCondition → sees brace r ≡ true) → all_covered x ≡ true → OwnPrinted x
    → Printed (operand p 0) (normal_in p (kept (Whole x)))

pub unmoved_if : (b : Bool) (x : Tree) → apart_item x ≡ x → apart_if b x ≡ x
unmoved_if true x e = e
unmoved_if false x e = refl

-- a turn that is no raw item among statements
pub unmoved_turn : (b : Bool) (x : Tree) (g : Gram) → Fits x g → apart_item (kept x) ≡ kept x
    → Printed g (apart_if b (kept x))
unmoved_turn b x g f e = record { tree = x; fits = f; kept_is = sym (unmoved_if b (kept x) e) }

-- a form's kind stands in no position
or_right : (a b : Bool) → b ≡ true → (a || b) ≡ true
or_right true b e = refl
or_right false b e = e

pub form_known : (k : Kind) → is_form k ≡ true → is_known k ≡ true
form_known (Expression p) e = cc
form_known AStatement e = cc
form_known k e = or_right (has_step k) (has_form_step k) e

form_placed : (k : Kind) → is_form k ≡ true → IsPlaced Plain k
form_placed (Expression p) e = cc
form_placed _ e = tt

form_ends : (k : Kind) → is_form k ≡ true → is_condition_kind k ≡ false
form_ends (Expression p) e = cc
form_ends _ e = refl

led_by : (a b : Bool) → (not a || b) ≡ true → a ≡ true → b ≡ true
led_by true b e h = e
led_by false b e h = cc h

in_first : (a b : Bool) → a ≡ true → (a || b) ≡ true
in_first true b e = refl
in_first false b e = cc e

-- a brace stands behind it, if it is to
abbrev pub IsBraced : Gram → List Token → Type 0
IsBraced g r = ends_in_condition g ≡ true → sees brace r ≡ true

pub unneeded : (g : Gram) (r : List Token) → ends_in_condition g ≡ false → IsBraced g r
unneeded g r e h =
    let f : true ≡ false = sym h ∙ e in
    cc f

form_braced : (k : Kind) (r : List Token) → is_form k ≡ true → IsBraced (table k) r
form_braced k r e = unneeded (table k) r (condition_ends k ∙ form_ends k e)

node_braced : (j k : Kind) (r : List Token) → k ≡ j → IsBraced (ref j) r → IsBraced (table k) r
node_braced j k r e m h = m (ap is_condition_kind (sym e) ∙ sym (condition_ends k) ∙ h)

form_passed : (k : Kind) → is_form k ≡ true → passed k Plain ≡ Plain
unfolding passed
form_passed (Expression p) e = cc
form_passed _ e = refl

module _ (laws : (k : Kind) → is_known k ≡ true → KindLaw k) (whole : WholeLaw) where
  own_law : (k : Kind) → is_form k ≡ true → EntryLaw Plain (table k)
  own_law k h = subst (λ m. EntryLaw m (table k)) (form_passed k h)
      ((laws k (form_known k h)).entry Plain (form_placed k h))

  mutual
    pub printed : (x : Tree) (g : Gram) (r : List Token) (q : Position) → EntryLaw q g → is_braced g ≡ true
        → IsBraced g r → Derives x g r → all_covered x ≡ true → Printed g (normal_in q (kept x))
    printed (AWord cs) (word p) r q l n m d c = record { tree = AWord cs; fits = d; kept_is = refl }
    printed (ALiteral cs) (literal p) r q l n m d c = record { tree = ALiteral cs; fits = d; kept_is = refl }
    printed (AMark u us spacing) (mark e es) r q l n m d c =
        record { tree = AMark u us Apart; fits = (d.0, d.1, refl); kept_is = refl }
    printed (ALifetime cs) lifetime r q l n m d c = record { tree = ALifetime cs; fits = tt; kept_is = refl }
    printed (Raw ts) raw r q l n m d c = record { tree = Raw ts; fits = d.0; kept_is = refl }
    printed Nil nothing r q l n m d c = record { tree = Nil; fits = tt; kept_is = refl }
    printed (Pair x y) (seq a b) r q l n m d c =
        let h = both_true (all_covered x) (all_covered y) c in
        let u = both_true (not (ends_in_condition a) || begins_in_braces b) (is_braced a && is_braced b) n in
        let v = both_true (is_braced a) (is_braced b) u.1 in
        let o = led_by (ends_in_condition a) (begins_in_braces b) u.0 in
        let i = printed x a (flat y ++ r) q l.0 v.0 (λ e. brace_stands b y r (o e) d.1) d.0 h.0 in
        let j = printed y b r q l.1 v.1 m d.1 h.1 in
        record {
          tree = Pair i.tree j.tree;
          fits = (i.fits, j.fits);
          kept_is = ap (λ z. Pair z (kept j.tree)) i.kept_is ∙ ap (Pair (normal_in q (kept x))) j.kept_is;
        }
    printed (First x) (alt t a b) r q l n m d c =
        let u = both_true (is_braced a) (is_braced b) n in
        let i = printed x a r q l.0 u.0 (λ e. m (in_first (ends_in_condition a) (ends_in_condition b) e)) d.1 c in
        record { tree = First i.tree; fits = ((flat x ++ r, d.0), i.fits); kept_is = ap First i.kept_is }
    printed (Second x) (alt t a b) r q l n m d c =
        let u = both_true (is_braced a) (is_braced b) n in
        let i = printed x b r q l.1 u.1 (λ e. m (or_right (ends_in_condition a) (ends_in_condition b) e)) d.1 c in
        record { tree = Second i.tree; fits = ((flat x ++ r, d.0), i.fits); kept_is = ap Second i.kept_is }
    printed End (star t g) r q l n m d c = record { tree = End; fits = tt; kept_is = refl }
    printed (Again x y) (star t g) r q l n m d c =
        let h = both_true (all_covered x) (all_covered y) c in
        let v = both_true (not (ends_in_condition g)) (is_braced g) n in
        let o = is_false (ends_in_condition g) v.0 in
        let i = printed x g (flat y ++ r) q l.1 v.1 (unneeded g (flat y ++ r) o) d.1 h.0 in
        let j = printed y (star t g) r q l n m d.2 h.1 in
        let b : Bool = is_enclosed (kept y) (normal_in q (kept y)) in
        let u = l.0 b i.tree i.fits in
        record {
          tree = Again u.tree j.tree;
          fits = (u.fits, j.fits);
          kept_is = ap (λ z. Again z (kept j.tree)) (u.kept_is ∙ ap (apart_if b) i.kept_is)
              ∙ ap (Again (apart_if b (normal_in q (kept x)))) j.kept_is;
        }
    printed End (many e z g) r q l n m d c = record { tree = End; fits = tt; kept_is = refl }
    printed (Final x) (many e z g) r q l n m d c =
        let v = both_true (not (ends_in_condition g)) (is_braced g) n in
        let i = printed x g r q l v.1 (unneeded g r (is_false (ends_in_condition g) v.0)) d.1 c in
        record { tree = Final i.tree; fits = i.fits; kept_is = ap Final i.kept_is }
    printed (More x o spacing y) (many e z g) r q l n m d c =
        let h = both_true (all_covered x) (all_covered y) c in
        let v = both_true (not (ends_in_condition g)) (is_braced g) n in
        let us : List Token = Punct o spacing ∷ flat y ++ r in
        let i = printed x g us q l v.1 (unneeded g us (is_false (ends_in_condition g) v.0)) d.2 h.0 in
        let j = printed y (many e z g) r q l n m d.3 h.1 in
        record {
          tree = More i.tree o Apart j.tree;
          fits = (d.1, refl, i.fits, j.fits);
          kept_is = ap (λ w. More w o Apart (kept j.tree)) i.kept_is ∙ ap (More (normal_in q (kept x)) o Apart)
              j.kept_is;
        }
    printed (Group f x) (group e g) r q l n m d c =
        let v = both_true (not (ends_in_condition g)) (is_braced g) n in
        let i = printed x g [] q l v.1 (unneeded g [] (is_false (ends_in_condition g) v.0)) d.1 c in
        record { tree = Group f i.tree; fits = (d.0, i.fits); kept_is = ap (Group f) i.kept_is }
    printed (First x) (judged v g) r q l n m d c =
        let i = printed x g r q l.2 n m d.1 c in
        record {
          tree = First i.tree;
          fits = (l.0 x i.tree r c d.1 i.fits i.kept_is d.0, i.fits);
          kept_is = ap First i.kept_is;
        }
    printed (Verbatim x) (judged v g) r q l n m d c =
        record { tree = Verbatim x; fits = l.1 x r d; kept_is = refl }
    printed (Dropped x) (dropped g) r q l n m d c = record { tree = Dropped private; fits = (refl, l); kept_is = refl }
    printed (Called o x) (called z g) r q l n m d c =
        let i = printed x g r (place_of z) l n m d.1 c in
        record {
          tree = Called z i.tree;
          fits = (refl, i.fits);
          kept_is = ap (Called z) i.kept_is ∙ ap (λ k. Called k (normal_in (place_of k) (kept x))) (sym d.0);
        }
    printed (Node k x) (ref j) r q l n m d c =
        let h = both_true (is_known k) (is_taken k x && all_covered x) c in
        let t = both_true (is_taken k x) (all_covered x) h.1 in
        let law = laws k h.0 in
        let p : IsPlaced q k = subst (IsPlaced q) (sym d.0) l in
        let i =
        printed x (table k) r (passed k q) (law.entry q p) (all_braced k) (node_braced j k r d.0 m) d.1 t.1 in
        subst (λ i. Printed (ref i) (normal_in q (Node (held k) (forget k (kept x))))) d.0
        (law.node q p x r t.0 d.1 i)
    printed (Whole x) (operand p z) r q l n m d c =
        let e : Derives (Whole x) (operand p 0) r = subst (λ i. Derives (Whole x) (operand p i) r) l.1 d in
        subst (λ i. Printed (operand p i) (normal_in q (kept (Whole x)))) (sym l.1)
        (subst (λ i. Printed (operand p 0) (normal_in i (kept (Whole x)))) (sym l.0)
        (whole p x r l.2 e (λ h. m (ap is_condition h)) c (own_printed x p r d.1 c)))
    printed _ _ r q l n m d c = absurd d

    own_printed : (x : Tree) (p : Position) (r : List Token) → Bound p x r → all_covered x ≡ true → OwnPrinted x
    own_printed (Alone k y) p r d c =
        let h = both_true (is_form k) (is_plain_part k (normal (kept y)) && all_covered y) c in
        printed y (table k) r Plain (own_law k h.0) (all_braced k) (form_braced k r h.0) d.1
        (both_true (is_plain_part k (normal (kept y))) (all_covered y) h.1).1
    own_printed (Front k y x) p r d c =
        let h = both_true (is_form k) _ c in
        let e = both_true (is_plain_part k (normal (kept y))) (all_covered y && all_covered x) h.1 in
        let i = both_true (all_covered y) (all_covered x) e.1 in (
          printed y (table k) (flat x ++ r) Plain (own_law k h.0) (all_braced k) (form_braced k (flat x ++ r) h.0) d.1
              i.0,
          own_printed x (inside p k) r d.4 i.1,
        )
    own_printed (Back l k y) p r d c =
        let h = both_true (is_form k) (all_covered l && all_covered y) c in
        let i = both_true (all_covered l) (all_covered y) h.1 in (
          own_printed l p (flat y ++ r) d.4 i.0,
          printed y (table k) r Plain (own_law k h.0) (all_braced k) (form_braced k r h.0) d.1 i.1,
        )
    own_printed (Infix l k y b) p r d c =
        let h = both_true (is_form k) (all_covered y && (all_covered l && all_covered b)) c in
        let i = both_true (all_covered y) (all_covered l && all_covered b) h.1 in
        let j = both_true (all_covered l) (all_covered b) i.1 in (
          own_printed l p (flat y ++ (flat b ++ r)) d.4 j.0,
          printed y (table k) (flat b ++ r) Plain (own_law k h.0) (all_braced k) (form_braced k (flat b ++ r) h.0) d.1
              i.0,
          own_printed b (inside p k) r d.6 j.1,
        )
    own_printed _ p r d c = tt

-- a verdict that keeps nothing as tokens
pub kept_entry : {q : Position} {g : Gram} (p : Tree → Bool) → VerdictLaw q (λ x. kept_if (p x)) g → EntryLaw q g
    → EntryLaw q (judged (λ x. kept_if (p x)) g)
kept_entry {q} {g} p a b = (a, (λ x r d. absurd (kept_raw (p x) d.0)), b)

-- entries of which nothing is to be known: no verdict, no turns, nothing dropped
abbrev pub same_place : Position → Position → Bool
same_place Plain Plain = true
same_place InCondition InCondition = true
same_place InArm InArm = true
same_place InStatement InStatement = true
same_place _ _ = false

place_is : (q p : Position) → same_place q p ≡ true → q ≡ p
place_is Plain Plain e = refl
place_is InCondition InCondition e = refl
place_is InArm InArm e = refl
place_is InStatement InStatement e = refl
place_is Plain _ e = cc
place_is InCondition _ e = cc
place_is InArm _ e = cc
place_is InStatement _ e = cc

abbrev pub is_placed : Position → Kind → Bool
is_placed q (Expression p) = same_place q p
is_placed q _ = true

placed : (q : Position) (k : Kind) → is_placed q k ≡ true → IsPlaced q k
placed q (Expression p) e = place_is q p e
placed q _ e = tt

abbrev pub is_simple : Position → Gram → Bool
is_simple q (seq a b) = is_simple q a && is_simple q b
is_simple q (alt t a b) = is_simple q a && is_simple q b
is_simple q (star t g) = false
is_simple q (many e c g) = is_simple q g
is_simple q (group d g) = is_simple q g
is_simple q (judged v g) = false
is_simple q (dropped g) = false
is_simple q (called n g) = is_simple (place_of n) g
is_simple q (ref k) = is_placed q k
is_simple q (operand p n) = false
is_simple q _ = true

pub simple_law : (q : Position) (g : Gram) → is_simple q g ≡ true → EntryLaw q g
simple_law q (seq a b) e = let h =
    both_true (is_simple q a) (is_simple q b) e in (simple_law q a h.0, simple_law q b h.1)
simple_law q (alt t a b) e = let h =
    both_true (is_simple q a) (is_simple q b) e in (simple_law q a h.0, simple_law q b h.1)
simple_law q (star t g) e = cc
simple_law q (many f c g) e = simple_law q g e
simple_law q (group d g) e = simple_law q g e
simple_law q (judged v g) e = cc
simple_law q (dropped g) e = cc
simple_law q (called n g) e = simple_law (place_of n) g e
simple_law q (ref k) e = placed q k e
simple_law q (operand p n) e = cc
simple_law q _ e = tt

-- a kind that holds what it reads, of which nothing is tidied
pub plain_law : (k : Kind) → is_known k ≡ true → ((x : Tree) → IsMeant k x) → ((x : Tree) → forget k x ≡ x)
    → ((x : Tree) → tidy (held k) x ≡ x)
    → ((q : Position) → passed (held k) q ≡ passed k q)
    → ((q : Position) → IsPlaced q k → EntryLaw (passed k q) (table k)) → KindLaw k
plain_law k h n f t p e = record { entry = e; node = go }
  where
    go : (q : Position) → IsPlaced q k → (x : Tree) (r : List Token) → is_taken k x ≡ true → Derives x (table k) r
        → Printed (table k) (normal_in (passed k q) (kept x))
        → Printed (ref k) (normal_in q (Node (held k) (forget k (kept x))))
    go q l x r m d i =
        record {
          tree = Node k i.tree;
          fits = (refl, h, ap flat (f (kept i.tree)), i.fits, n i.tree);
          kept_is =
              ap (Node (held k)) (f (kept i.tree) ∙ i.kept_is ∙ sym (ap (λ m. normal_in m (kept x)) (p q)) ∙ sym
              (ap (normal_in (passed (held k) q)) (f (kept x)))
              ∙ sym (t (normal_in (passed (held k) q) (forget k (kept x)))));
        }

-- and whose entry is simple
pub simple_kind : (k : Kind) → is_known k ≡ true → ((x : Tree) → IsMeant k x) → ((x : Tree) → forget k x ≡ x)
    → ((x : Tree) → tidy (held k) x ≡ x)
    → ((q : Position) → passed (held k) q ≡ Plain) → ((q : Position) → passed k q ≡ Plain) → is_simple Plain (table k)
    ≡ true → KindLaw k
simple_kind k h n f t p u e =
    plain_law k h n f t (λ q. p q ∙ sym (u q))
    (λ q l. subst (λ m. EntryLaw m (table k)) (sym (u q)) (simple_law Plain (table k) e))
