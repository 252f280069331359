-- An expression that was read gains no parentheses, attributed ranges aside.
use Rattle.std.proofs.Common.{◌≡◌, ℕ, List, [], ◌∷◌, ◌++◌, refl, sym, ap, ◌∙◌, subst}
use Rattle.std.specs.Prelude.{Bool, true, false}
use Rattle.std.proofs.lemmas.Bool.{false≢true}
use Rattle.proc_macro2.specs.Token.{Token, Punct}
use Rattle.rust_leaf.specs.declared.punct.Spacing.TheVariants.{Alone as Apart}
use Rattle.syn_grammar.specs.Kind.{Kind, Position, Plain, InCondition, Expression}
use Rattle.syn_grammar.specs.Kind.{ExprField}
use Rattle.syn_grammar.specs.Kind.{ExprPath}
use Rattle.syn_grammar.specs.Tree.{Tree, End, Node, Whole, Alone, Front, Back, Infix, flat}
use Rattle.syn_grammar.specs.Gram.{ref}
use Rattle.syn_grammar.specs.Look.{sees}
use Rattle.syn_grammar.specs.Say.{brace}
use Rattle.syn_grammar.specs.Table.{table}
use Rattle.syn_grammar.specs.Derives.{Derives, Bound}
use Rattle.syn_grammar.specs.Kept.{index_field, dotted, kept, held}
use Rattle.syn_grammar.specs.Normal.{passed, stands_behind, normal, normal_in}
use Rattle.syn_grammar.specs.Forms.{has_right, level, inside, takes_postfix, is_path_form}
use Rattle.syn_grammar.specs.Forms.{struct_stands}
use Rattle.syn_grammar.specs.Parens.{may_lack, is_attributed_range, takes_braces}
use Rattle.syn_grammar.specs.Parens.{is_struct, is_ended, follow}
use Rattle.laws_binding.specs.Bare.{bare, HasPlainRanges}
use Rattle.laws_binding.proofs.Turns.{Facts, facts, Turn, is_infix, infix_turns, last_turns}
use Rattle.laws_binding.proofs.Sights.{begins, stands, backs_are}
use Rattle.laws_binding.proofs.Shells.{is_dot, undotted, behind_dot, dotted_has, dotted_own}
use Rattle.laws_binding.proofs.Same.{postfix_same, all_begun}
use Rattle.laws_binding.proofs.Ended.{ended}
use Rattle.laws_binding.proofs.Stays.{Stays, stays_bare, Behind, behind_end, behind_turn, behind_whole, whole_path}
use Rattle.laws_binding.proofs.Stays.{follow_plain, path_plain, takes_none, braces_none, right_stays}
use Rattle.laws_binding.proofs.Fits.{last_kind, infix_kind, takes_top, path_right, struct_true, left_stays, left_edge}
use Rattle.laws_binding.proofs.Fits.{dot_ended, dot_left, dot_stands, dot_takes, dot_postfix, index_value}
use Rattle.laws_binding.proofs.Fits.{struct_path, struct_undotted, infix_no_struct, back_takes}

-- behind dots
record Ready (p : Position) (m : Tree) : Type 0 where
  postfix : takes_postfix (bare m) ≡ true
  ended : is_ended ExprField [] (bare m) ≡ true
  stays : (s : List Token) → Stays p (Punct 46 Apart ∷ s) (bare m)

dot_stays : (p : Position) (ts : List Token) (k : Kind) (m y : Tree) (s : List Token) → is_dot k ≡ true
    → follow (flat y) ≡ Punct 46 Apart ∷ s → Ready p m → Stays p ts (Back (bare m) k y)
dot_stays p ts k m y s i e r = (
  dot_stands p k i,
  dot_takes p k ts i,
  dot_left p k y (bare m) i r.postfix r.ended,
  subst (λ us. Stays p us (bare m)) (sym e) (r.stays s),
)

dot_form : (p : Position) (ts : List Token) (k : Kind) (m z : Tree) → is_dot k ≡ true → Ready p m
    → Stays p ts (bare (Back m k (behind_dot End z)))
dot_form p ts k m z i r = dot_stays p ts k m (normal (behind_dot End z)) (flat (normal z)) i refl r

index_ready : (p : Position) (m : Tree) (cs : List ℕ) → Ready p m → Ready p (index_field m cs)
unfolding level
index_ready p m cs q = record {
  postfix = refl;
  ended = refl;
  stays = λ s. dot_form p (Punct 46 Apart ∷ s) ExprField m (index_value cs) refl q;
}

-- a path before the braces of a struct
path_stays : (l : Tree) (p : Position) (us : List Token) → is_path_form l ≡ true → Stays p (follow us) (bare (kept l))
unfolding may_lack
path_stays (Alone ExprPath y) p us i = path_plain p (follow us) (follow_plain us)
path_stays (Alone _ y) p us i = absurd (false≢true i)
path_stays _ p us i = absurd (false≢true i)

-- what is known of the left operand: it stays before all that may stand behind it
abbrev LeftStays : Position → Tree → List Token → Type 0
LeftStays p l rest = (us : List Token) → Behind rest us → (is_path_form l ≡ true → sees (struct_stands p) us ≡ false)
    → Stays p us (bare (kept l))

struct_stays : (l : Tree) (k : Kind) (y : Tree) (p : Position) (rest ts : List Token) → Bound p (Back l k y) rest
    → Behind rest ts → is_struct k ≡ true → Stays p ts (bare (dotted (kept l) k (kept y)))
struct_stays l k y p rest ts d b s =
    subst (λ v. Stays p ts (bare v)) (sym (undotted (kept l) k (kept y) (struct_undotted k s))) (
      stands p k _ d.0,
      back_takes l k y p rest ts d b,
      struct_true (is_struct k) _ s,
      path_stays l p (flat (normal (kept y))) (struct_path p k l s d.3.0),
    )

plain_stays : (l : Tree) (k : Kind) (y : Tree) (p : Position) (rest ts : List Token) → Bound p (Back l k y) rest
    → Behind rest ts → LeftStays p l (flat y ++ rest) → is_struct k ≡ false
    → Stays p ts (bare (dotted (kept l) k (kept y)))
plain_stays l k y p rest ts d b ih s =
    let turn : Turn (flat y ++ rest) (flat (normal (kept y))) =
    (last_turns k (last_kind k p rest (backs_are p k _ d.0) s d.2)).at Plain y rest d.1 in
    let f : Facts (flat y ++ rest) (flat (normal (kept y))) = facts turn in
    let e : is_ended k (flat (normal (kept y))) (bare (kept l)) ≡ true =
    ended l p (flat y ++ rest) (flat (normal (kept y))) k d.4 d.0 s f (left_edge p l k s d.3.0) in
    go (is_dot k) refl f e
  where
    go : (c : Bool) → is_dot k ≡ c → Facts (flat y ++ rest) (flat (normal (kept y)))
        → is_ended k (flat (normal (kept y))) (bare (kept l)) ≡ true → Stays p ts (bare (dotted (kept l) k (kept y)))
    go false i f e =
        subst (λ v. Stays p ts (bare v)) (sym (undotted (kept l) k (kept y) i)) (
          stands p k _ d.0,
          back_takes l k y p rest ts d b,
          left_stays p l k (normal (kept y)) _ d.4 d.3 e,
          ih (follow (flat (normal (kept y)))) (behind_turn _ _ f)
              (λ h. path_plain p _ (follow_plain (flat (normal (kept y))))),
        )
    go true i f e =
        let o = dotted_own k y rest i d.1 in
        let ready : Ready p (kept l) = record {
          postfix = postfix_same l p _ d.4 ∙ dot_postfix p k l i d.3.0;
          ended = sym (dot_ended k (flat (normal (kept y))) (bare (kept l)) i) ∙ e;
          stays = λ u. ih (Punct 46 Apart ∷ u)
              (behind_end _ _ (record { operand = refl; range = refl; no_brace = refl })) (λ h. path_plain p _ refl);
        } in
        subst (λ v. Stays p ts (bare (dotted (kept l) k v))) (sym o.is)
        (dotted_has (λ j v. Stays p ts (bare v)) (Ready p) o.back (index_ready p)
        (λ m cs q. dot_form p ts ExprField m (index_value cs) refl q) (λ j m a q. dot_form p ts j m o.back a q)
        k (kept l) o.front i ready)

back_stays : (l : Tree) (k : Kind) (y : Tree) (p : Position) (rest ts : List Token) → Bound p (Back l k y) rest
    → Behind rest ts → LeftStays p l (flat y ++ rest) → Stays p ts (bare (dotted (kept l) k (kept y)))
back_stays l k y p rest ts d b ih = go (is_struct k) refl
  where
    go : (c : Bool) → is_struct k ≡ c → Stays p ts (bare (dotted (kept l) k (kept y)))
    go true s = struct_stays l k y p rest ts d b s
    go false s = plain_stays l k y p rest ts d b ih s

infix_stays : (l : Tree) (k : Kind) (y r : Tree) (p : Position) (rest ts : List Token) → Bound p (Infix l k y r) rest
    → LeftStays p l (flat y ++ (flat r ++ rest)) → Stays (inside p k) ts (bare (kept r))
    → Stays p ts (bare (kept (Infix l k y r)))
infix_stays l k y r p rest ts d ih jh =
    let i : is_infix k ≡ true = infix_kind k p _ (backs_are p k _ d.0) d.2 in
    let n : (is_struct k ≡ false) × ((x : Tree) → is_attributed_range k x ≡ false) = infix_no_struct k i in
    let turn : Turn (flat y ++ (flat r ++ rest)) (flat (normal (kept y))) =
    (infix_turns k i).at p Plain y (flat r ++ rest) _ d.1 (all_begun r (inside p k) rest d.6) d.0 in
    let f : Facts (flat y ++ (flat r ++ rest)) (flat (normal (kept y))) = facts turn in (
      left_stays p l k (normal (kept y)) _ d.4 d.3
          (ended l p _ (flat (normal (kept y))) k d.4 d.0 n.0 f (left_edge p l k n.0 d.3.0)),
      ih (follow (flat (normal (kept y)))) (behind_turn _ _ f)
          (λ h. path_plain p _ (follow_plain (flat (normal (kept y))))),
      right_stays p (inside p k) k y r rest d.1 d.6 d.5.0 d.2 (n.1 r),
      jh,
    )

stays : (x : Tree) (p : Position) (rest ts : List Token) → Bound p x rest → Behind rest ts
    → (is_path_form x ≡ true → sees (struct_stands p) ts ≡ false) → HasPlainRanges x → Stays p ts (bare (kept x))
stays (Alone k y) p rest ts d b h r =
    takes_none (may_lack k) (has_right p k ts) (takes_braces p k ts) (λ m. b.lacks p k m d.2) (braces_none p ts k y h)
stays (Front k y x) p rest ts d b h r = (
  begins p k _ d.0,
  right_stays p (inside p k) k y x rest d.1 d.4 d.3.0 d.2 r.0,
  stays x (inside p k) rest ts d.4 b
      (path_right (inside p k) (level k) x rest ts (takes_top k p _ d.2) d.3.1 b.braces) r.1,
)
stays (Back l k y) p rest ts d b h r =
    back_stays l k y p rest ts d b (λ us c g. stays l p (flat y ++ rest) us d.4 c g r)
stays (Infix l k y x) p rest ts d b h r =
    infix_stays l k y x p rest ts d (λ us c g. stays l p (flat y ++ (flat x ++ rest)) us d.4 c g r.0)
    (stays x (inside p k) rest ts d.6 b
    (path_right (inside p k) (level k) x rest ts (takes_top k p _ d.2) d.5.1 b.braces) r.1)
stays _ p rest ts d b h r = elim d [ ]

pub gains_none : (p : Position) (x : Tree) (rest : List Token)
    → Derives (Node (Expression p) (Whole x)) (ref (Expression p)) rest → (p ≡ InCondition → sees brace rest ≡ true)
    → HasPlainRanges x → normal_in p (kept (Node (Expression p) (Whole x)))
    ≡ Node (Expression Plain) (Whole (bare (kept x)))
unfolding table held passed
gains_none p x rest d h r =
    ap (λ z. Node (Expression Plain) (Whole z))
    (stays_bare (kept x) p (stands_behind p)
    (stays x p rest (stands_behind p) d.1.1 (behind_whole p rest h) (λ i. whole_path p) r))
