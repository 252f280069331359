-- An expression that was read gains no parentheses but those of its ranges behind attributes.
use Rattle.std.proofs.Common.{◌≡◌, ℕ, List, [], ◌∷◌, ◌++◌, refl, sym, ap, ◌∙◌, subst, inl, inr}
use Rattle.std.specs.Prelude.{Bool, true, false, not, ◌&&◌, ◌||◌, cond}
use Rattle.proc_macro2.specs.Token.{Token, Ident, Punct, Opens}
use Rattle.proc_macro2.specs.declared.delimiter.Delimiter.TheVariants.{Parenthesis}
use Rattle.rust_leaf.specs.declared.punct.Spacing.TheVariants.{Alone as Apart, Joint}
use Rattle.syn_grammar.specs.Kind.{Kind, Position, Plain, InCondition, Expression, ExprStruct}
use Rattle.syn_grammar.specs.Kind.{ExprField}
use Rattle.syn_grammar.specs.Kind.{ExprPath, ExprAttributed}
use Rattle.syn_grammar.specs.Kind.{ExprBreak}
use Rattle.syn_grammar.specs.Name.{the_label}
use Rattle.syn_grammar.specs.Tree.{Tree, End, Node, Whole, Alone, Front, Back, Infix, flat}
use Rattle.syn_grammar.specs.Part.{has}
use Rattle.syn_grammar.specs.Gram.{ref}
use Rattle.syn_grammar.specs.Look.{sees, a_lifetime}
use Rattle.syn_grammar.specs.Say.{brace, marks}
use Rattle.syn_grammar.specs.Table.{table}
use Rattle.syn_grammar.specs.Derives.{Derives, Bound}
use Rattle.syn_grammar.specs.Kept.{index_field, dotted, kept}
use Rattle.syn_grammar.specs.Normal.{stands_behind, normal, formed}
use Rattle.syn_grammar.specs.Forms.{has_right, level, inside, is_range, takes_postfix, is_path_form}
use Rattle.syn_grammar.specs.Forms.{struct_stands, within}
use Rattle.syn_grammar.specs.Parens.{may_lack, is_attributed_range, takes_braces, takes_what_follows, stays_left}
use Rattle.syn_grammar.specs.Parens.{is_struct, is_ended, stands_in, begins_in, follow, stays_right}
use Rattle.syn_grammar.specs.Parens.{is_label, parens_unless, with_right, with_left, front_form, back_form, infix_form}
use Rattle.laws_binding.specs.Bare.{bare}
use Rattle.laws_binding.proofs.Begun.{Begun, a_lifetime as begun_lifetime, a_literal, colons}
use Rattle.laws_binding.proofs.Turns.{Facts, facts, Turn, is_infix, infix_turns, last_turns}
use Rattle.laws_binding.proofs.Sights.{both, begins, stands, backs_are}
use Rattle.laws_binding.proofs.Shells.{is_dot, undotted, behind_dot, dotted_has, dotted_own}
use Rattle.laws_binding.proofs.Same.{postfix_same, within_same, all_begun}
use Rattle.laws_binding.proofs.Ended.{ended}
use Rattle.laws_binding.proofs.Stays.{Behind, behind_end, behind_turn, behind_whole, whole_path, begun_right}
use Rattle.laws_binding.proofs.Stays.{follow_plain, path_plain, takes_none, braces_none, right_stays}
use Rattle.laws_binding.proofs.Stays.{facts_right, no_colon}
use Rattle.laws_binding.proofs.Fits.{last_kind, infix_kind, takes_top, path_right, struct_true, left_stays, left_edge}
use Rattle.laws_binding.proofs.Fits.{dot_ended, dot_left, dot_stands, dot_takes, dot_postfix, index_value}
use Rattle.laws_binding.proofs.Fits.{struct_path, struct_undotted, infix_no_struct, back_takes}
use Rattle.laws_binding.proofs.Stays.{right_true}
use Rattle.laws_ranges.specs.Shelled.{is_lone_range, is_shelled, goes_in, parens_if, shelled}
use Rattle.laws_ranges.specs.Opens.{opens}
use Rattle.laws_ranges.proofs.Parens.{range_shelled, within_shelled, left_shelled}
use Rattle.laws_ranges.proofs.Starts.{Starts, starts, all_start}

-- Every form stays, and of the operands those that are said to be put in parentheses don't.
abbrev pub Held : Position → List Token → Tree → Type 0
Held p ts (Alone k y) = takes_what_follows p k ts ≡ false
Held p ts (Front k y x) =
    (begins_in p k ≡ true) × (stays_right p k (normal y) (shelled x) ≡ not (is_shelled k x)) × Held (inside p k) ts x
Held p ts (Back l k y) =
    (stands_in p k ≡ true) × (takes_what_follows p k ts ≡ false)
    × (stays_left p k (normal y) (shelled l) ≡ not (goes_in k l)) × Held p (follow (flat (normal y))) l
Held p ts (Infix l k y r) =
    (stays_left p k (normal y) (shelled l) ≡ not (goes_in k l)) × Held p (follow (flat (normal y))) l
    × (stays_right p k (normal y) (shelled r) ≡ true) × Held (inside p k) ts r
Held p ts x = Unit {0}

pub unless_not : (b : Bool) (x : Tree) → parens_unless (not b) x ≡ parens_if b x
unless_not true x = refl
unless_not false x = refl

pub held_formed : (m : Tree) (p : Position) (ts : List Token) → Held p ts m → formed p ts m ≡ shelled m
held_formed (Alone k y) p ts s = ap (λ b. parens_unless (not b) (Alone k (normal y))) s
held_formed (Front k y x) p ts s =
    ap (front_form p k (normal y)) (held_formed x (inside p k) ts s.2)
    ∙ ap (λ b. parens_unless b (Front k (normal y) (with_right p k (normal y) (shelled x)))) s.0
    ∙ ap (λ b. Front k (normal y) (parens_unless b (shelled x))) s.1
    ∙ ap (Front k (normal y)) (unless_not (is_shelled k x) (shelled x))
held_formed (Back l k y) p ts s =
    ap (λ z. back_form p ts z k (normal y)) (held_formed l p (follow (flat (normal y))) s.3)
    ∙ ap (λ b. parens_unless (b && not (takes_what_follows p k ts))
    (Back (with_left p k (normal y) (shelled l)) k (normal y))) s.0
    ∙ ap (λ b. parens_unless (not b) (Back (with_left p k (normal y) (shelled l)) k (normal y))) s.1
    ∙ ap (λ b. Back (parens_unless b (shelled l)) k (normal y)) s.2
    ∙ ap (λ z. Back z k (normal y)) (unless_not (goes_in k l) (shelled l))
held_formed (Infix l k y r) p ts s =
    ap (λ z. infix_form p z k (normal y) (formed (inside p k) ts r)) (held_formed l p (follow (flat (normal y))) s.1)
    ∙ ap (infix_form p (shelled l) k (normal y)) (held_formed r (inside p k) ts s.3)
    ∙ ap (λ b. Infix (parens_unless b (shelled l)) k (normal y) (with_right p k (normal y) (shelled r))) s.0
    ∙ ap (λ b. Infix (parens_unless (not (goes_in k l)) (shelled l)) k (normal y) (parens_unless b (shelled r))) s.2
    ∙ ap (λ z. Infix z k (normal y) (shelled r)) (unless_not (goes_in k l) (shelled l))
held_formed _ p ts s = refl

-- right operands: a lifetime behind break, as the operand begins now
colon_back : (ts us : List Token) → Begun ts us → sees (marks ":") us ≡ false → sees (marks ":") ts ≡ false
colon_back _ _ (colons i j) e = cc
colon_back _ _ (a_literal cs) e = refl
colon_back _ _ _ e = refl

first_lifetime : (cs : List ℕ) (r us : List Token) → Begun (Punct 39 Joint ∷ Ident cs ∷ r) us → sees a_lifetime us
    ≡ true
first_lifetime cs r _ (begun_lifetime _) = refl

lifetime_same : (ts us vs : List Token) → Begun ts us → Begun ts vs → sees a_lifetime us ≡ false
    → sees a_lifetime vs ≡ false
lifetime_same _ us _ b (begun_lifetime {r = r} cs) e = absurd (both _ (first_lifetime cs r us b) e)
lifetime_same _ us _ b (a_literal cs) e = refl
lifetime_same _ us _ b _ e = refl

label_cond : (b : Bool) (ts us vs : List Token) → Begun ts us → Starts ts vs
    → cond b (sees (marks ":") us) (sees a_lifetime us) ≡ false
    → cond b (sees (marks ":") vs) (sees a_lifetime vs) ≡ false
label_cond true ts us vs b (inl s) e = no_colon ts vs s (colon_back ts us b e)
label_cond false ts us vs b (inl s) e = lifetime_same ts us vs b s e
label_cond true ts us vs b (inr o) e = ap (sees (marks ":")) o.is
label_cond false ts us vs b (inr o) e = ap (sees a_lifetime) o.is

label_same : (k : Kind) (y : Tree) (ts us vs : List Token) → Begun ts us → Starts ts vs → is_label k y us ≡ false
    → is_label k y vs ≡ false
label_same ExprBreak y ts us vs b s e = label_cond (has the_label y) ts us vs b s e
label_same _ y ts us vs b s e = refl

starts_right : (ts us : List Token) → Starts ts us → (q : Position) (k : Kind) → may_lack k ≡ true
    → has_right q k ts ≡ true → has_right q k us ≡ true
starts_right ts us (inl b) q k m h = begun_right ts us b q k m h
starts_right ts us (inr o) q k m h =
    ap (has_right q k) o.is
    ∙ facts_right true (Opens Parenthesis ∷ o.others) (record { operand = refl; range = refl; no_brace = refl }) q k m

right_label : (w m h l a : Bool) → (w && ((not m || (h && not l)) && not a)) ≡ true → m ≡ true → l ≡ false
right_label true true true true a e f = cc
right_label true true true false a e f = refl
right_label true true false l a e f = cc
right_label true false h l a e f = cc
right_label false m h l a e f = cc

-- behind a form that is no attributes
right_other : (p q : Position) (k : Kind) (y x : Tree) (rest : List Token) → Derives y (table k) (flat x ++ rest)
    → Bound q x rest → within (level k) x ≡ true → has_right p k (flat x ++ rest) ≡ true
    → ((z : Tree) → is_attributed_range k z ≡ false)
    → stays_right p k (normal (kept y)) (shelled (kept x)) ≡ true
right_other p q k y x rest d e w h a =
    let v = right_stays p q k y x rest d e w h (a x) in
    let l : may_lack k ≡ true → is_label k (normal (kept y)) (flat (bare (kept x))) ≡ false =
    right_label (within (level k) (bare (kept x))) (may_lack k) (has_right p k (flat (bare (kept x))))
    (is_label k (normal (kept y)) (flat (bare (kept x)))) (is_attributed_range k (bare (kept x))) v in
    let s = starts (opens (kept x)) _ _ (all_start x q rest e) in
    right_true (within (level k) (shelled (kept x))) (may_lack k) (has_right p k (flat (shelled (kept x))))
    (is_label k (normal (kept y)) (flat (shelled (kept x)))) (is_attributed_range k (shelled (kept x)))
    (within_shelled (level k) (kept x) (within_same (level k) x q rest e w))
    (λ m. (starts_right _ _ s p k m h, label_same k (normal (kept y)) _ _ _ (all_begun x q rest e) s (l m)))
    (a (shelled (kept x)))

right_attributed : (p q : Position) (y x : Tree) (rest : List Token) → Bound q x rest
    → within (level ExprAttributed) x ≡ true
    → stays_right p ExprAttributed y (shelled (kept x)) ≡ not (is_lone_range (kept x))
unfolding may_lack
right_attributed p q y x rest e w =
    ap (λ b. b && not (is_range (shelled (kept x))))
    (within_shelled (level ExprAttributed) (kept x) (within_same (level ExprAttributed) x q rest e w))
    ∙ ap not (range_shelled (kept x))

right_shelled : (p q : Position) (k : Kind) (y x : Tree) (rest : List Token) → Derives y (table k) (flat x ++ rest)
    → Bound q x rest → within (level k) x ≡ true → has_right p k (flat x ++ rest) ≡ true
    → stays_right p k (normal (kept y)) (shelled (kept x)) ≡ not (is_shelled k (kept x))
right_shelled p q ExprAttributed y x rest d e w h = right_attributed p q (normal (kept y)) x rest e w
right_shelled p q k y x rest d e w h = right_other p q k y x rest d e w h (λ z. refl)

-- behind dots
record Ready (p : Position) (m : Tree) : Type 0 where
  postfix : takes_postfix (bare m) ≡ true
  ended : is_ended ExprField [] (bare m) ≡ true
  stays : (s : List Token) → Held p (Punct 46 Apart ∷ s) m

dot_plain : (k : Kind) → is_dot k ≡ true → is_struct k ≡ false
dot_plain ExprStruct i = cc
dot_plain _ i = refl

dot_stays : (p : Position) (ts : List Token) (k : Kind) (m y : Tree) (s : List Token) → is_dot k ≡ true
    → follow (flat (normal y)) ≡ Punct 46 Apart ∷ s → Ready p m → Held p ts (Back m k y)
dot_stays p ts k m y s i e r = (
  dot_stands p k i,
  dot_takes p k ts i,
  left_shelled p k (normal y) m (dot_plain k i) (dot_left p k (normal y) (bare m) i r.postfix r.ended),
  subst (λ us. Held p us m) (sym e) (r.stays s),
)

dot_form : (p : Position) (ts : List Token) (k : Kind) (m z : Tree) → is_dot k ≡ true → Ready p m
    → Held p ts (Back m k (behind_dot End z))
dot_form p ts k m z i r = dot_stays p ts k m (behind_dot End z) (flat (normal z)) i refl r

index_ready : (p : Position) (m : Tree) (cs : List ℕ) → Ready p m → Ready p (index_field m cs)
unfolding level
index_ready p m cs q = record {
  postfix = refl;
  ended = refl;
  stays = λ s. dot_form p (Punct 46 Apart ∷ s) ExprField m (index_value cs) refl q;
}

-- a path before the braces of a struct
path_stays : (l : Tree) (p : Position) (us : List Token) → is_path_form l ≡ true → Held p (follow us) (kept l)
unfolding may_lack
path_stays (Alone ExprPath y) p us i = path_plain p (follow us) (follow_plain us)
path_stays (Alone _ y) p us i = cc
path_stays _ p us i = cc

path_in : (k : Kind) (l : Tree) → is_path_form l ≡ true → goes_in k (kept l) ≡ false
path_in k (Alone ExprPath y) i = refl
path_in k (Alone _ y) i = cc
path_in k _ i = cc

-- what is known of the left operand: it stays before all that may stand behind it
abbrev LeftStays : Position → Tree → List Token → Type 0
LeftStays p l rest = (us : List Token) → Behind rest us → (is_path_form l ≡ true → sees (struct_stands p) us ≡ false)
    → Held p us (kept l)

struct_stays : (l : Tree) (k : Kind) (y : Tree) (p : Position) (rest ts : List Token) → Bound p (Back l k y) rest
    → Behind rest ts → is_struct k ≡ true → Held p ts (dotted (kept l) k (kept y))
struct_stays l k y p rest ts d b s =
    subst (Held p ts) (sym (undotted (kept l) k (kept y) (struct_undotted k s))) (
      stands p k _ d.0,
      back_takes l k y p rest ts d b,
      struct_true (is_struct k) _ s ∙ ap not (sym (path_in k l (struct_path p k l s d.3.0))),
      path_stays l p (flat (normal (kept y))) (struct_path p k l s d.3.0),
    )

plain_stays : (l : Tree) (k : Kind) (y : Tree) (p : Position) (rest ts : List Token) → Bound p (Back l k y) rest
    → Behind rest ts → LeftStays p l (flat y ++ rest) → is_struct k ≡ false
    → Held p ts (dotted (kept l) k (kept y))
plain_stays l k y p rest ts d b ih s =
    let turn : Turn (flat y ++ rest) (flat (normal (kept y))) =
    (last_turns k (last_kind k p rest (backs_are p k _ d.0) s d.2)).at Plain y rest d.1 in
    let f : Facts (flat y ++ rest) (flat (normal (kept y))) = facts turn in
    let e : is_ended k (flat (normal (kept y))) (bare (kept l)) ≡ true =
    ended l p (flat y ++ rest) (flat (normal (kept y))) k d.4 d.0 s f (left_edge p l k s d.3.0) in
    go (is_dot k) refl f e
  where
    go : (c : Bool) → is_dot k ≡ c → Facts (flat y ++ rest) (flat (normal (kept y)))
        → is_ended k (flat (normal (kept y))) (bare (kept l)) ≡ true → Held p ts (dotted (kept l) k (kept y))
    go false i f e =
        subst (Held p ts) (sym (undotted (kept l) k (kept y) i)) (
          stands p k _ d.0,
          back_takes l k y p rest ts d b,
          left_shelled p k (normal (kept y)) (kept l) s (left_stays p l k (normal (kept y)) _ d.4 d.3 e),
          ih (follow (flat (normal (kept y)))) (behind_turn _ _ f)
              (λ h. path_plain p _ (follow_plain (flat (normal (kept y))))),
        )
    go true i f e =
        let o = dotted_own k y rest i d.1 in
        let ready : Ready p (kept l) = record {
          postfix = postfix_same l p _ d.4 ∙ dot_postfix p k l i d.3.0;
          ended = sym (dot_ended k (flat (normal (kept y))) (bare (kept l)) i) ∙ e;
          stays = λ u. ih (Punct 46 Apart ∷ u)
              (behind_end _ _ (record { operand = refl; range = refl; no_brace = refl })) (λ h. path_plain p _ refl);
        } in
        subst (λ v. Held p ts (dotted (kept l) k v)) (sym o.is)
        (dotted_has (λ j v. Held p ts v) (Ready p) o.back (index_ready p)
        (λ m cs q. dot_form p ts ExprField m (index_value cs) refl q) (λ j m a q. dot_form p ts j m o.back a q)
        k (kept l) o.front i ready)

back_stays : (l : Tree) (k : Kind) (y : Tree) (p : Position) (rest ts : List Token) → Bound p (Back l k y) rest
    → Behind rest ts → LeftStays p l (flat y ++ rest) → Held p ts (dotted (kept l) k (kept y))
back_stays l k y p rest ts d b ih = go (is_struct k) refl
  where
    go : (c : Bool) → is_struct k ≡ c → Held p ts (dotted (kept l) k (kept y))
    go true s = struct_stays l k y p rest ts d b s
    go false s = plain_stays l k y p rest ts d b ih s

infix_stays : (l : Tree) (k : Kind) (y r : Tree) (p : Position) (rest ts : List Token) → Bound p (Infix l k y r) rest
    → LeftStays p l (flat y ++ (flat r ++ rest)) → Held (inside p k) ts (kept r) → Held p ts (kept (Infix l k y r))
infix_stays l k y r p rest ts d ih jh =
    let i : is_infix k ≡ true = infix_kind k p _ (backs_are p k _ d.0) d.2 in
    let n : (is_struct k ≡ false) × ((x : Tree) → is_attributed_range k x ≡ false) = infix_no_struct k i in
    let turn : Turn (flat y ++ (flat r ++ rest)) (flat (normal (kept y))) =
    (infix_turns k i).at p Plain y (flat r ++ rest) _ d.1 (all_begun r (inside p k) rest d.6) d.0 in
    let f : Facts (flat y ++ (flat r ++ rest)) (flat (normal (kept y))) = facts turn in (
      left_shelled p k (normal (kept y)) (kept l) n.0 (left_stays p l k (normal (kept y)) _ d.4 d.3
          (ended l p _ (flat (normal (kept y))) k d.4 d.0 n.0 f (left_edge p l k n.0 d.3.0))),
      ih (follow (flat (normal (kept y)))) (behind_turn _ _ f)
          (λ h. path_plain p _ (follow_plain (flat (normal (kept y))))),
      right_other p (inside p k) k y r rest d.1 d.6 d.5.0 d.2 n.1,
      jh,
    )

stays : (x : Tree) (p : Position) (rest ts : List Token) → Bound p x rest → Behind rest ts
    → (is_path_form x ≡ true → sees (struct_stands p) ts ≡ false) → Held p ts (kept x)
stays (Alone k y) p rest ts d b h =
    takes_none (may_lack k) (has_right p k ts) (takes_braces p k ts) (λ m. b.lacks p k m d.2) (braces_none p ts k y h)
stays (Front k y x) p rest ts d b h = (
  begins p k _ d.0,
  right_shelled p (inside p k) k y x rest d.1 d.4 d.3.0 d.2,
  stays x (inside p k) rest ts d.4 b
      (path_right (inside p k) (level k) x rest ts (takes_top k p _ d.2) d.3.1 b.braces),
)
stays (Back l k y) p rest ts d b h =
    back_stays l k y p rest ts d b (λ us c g. stays l p (flat y ++ rest) us d.4 c g)
stays (Infix l k y x) p rest ts d b h =
    infix_stays l k y x p rest ts d (λ us c g. stays l p (flat y ++ (flat x ++ rest)) us d.4 c g)
    (stays x (inside p k) rest ts d.6 b
    (path_right (inside p k) (level k) x rest ts (takes_top k p _ d.2) d.5.1 b.braces))
stays _ p rest ts d b h = elim d [ ]

-- Behind a condition stands a brace.
pub gains_shells : (p : Position) (x : Tree) (rest : List Token)
    → Derives (Node (Expression p) (Whole x)) (ref (Expression p)) rest → (p ≡ InCondition → sees brace rest ≡ true)
    → formed p (stands_behind p) (kept x) ≡ shelled (kept x)
unfolding table
gains_shells p x rest d h =
    held_formed (kept x) p (stands_behind p)
    (stays x p rest (stands_behind p) d.1.1 (behind_whole p rest h) (λ i. whole_path p))
