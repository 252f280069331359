-- An expression that stays as it stands, and whose own parts are read wherever their forms may stand, is read there.
-- (The crate `laws_reread_expressions` has it of own parts in normal form, and of operands that are put in
-- parentheses.)
use Rattle.std.proofs.Common.{◌≡◌, List, [], ◌∷◌, ◌++◌, refl, sym, ap, ◌∙◌, subst, append_assoc, inl}
use Rattle.std.specs.Prelude.{Bool, true, false, not, ◌&&◌, ◌||◌, None, Some}
use Rattle.std.proofs.lemmas.Bool.{false≢true}
use Rattle.proc_macro2.specs.Token.{Token, Opens}
use Rattle.proc_macro2.specs.declared.delimiter.Delimiter.TheVariants.{Parenthesis}
use Rattle.syn_grammar.specs.Kind.{Kind, Position, Plain, InCondition, ExprPath}
use Rattle.syn_grammar.specs.Tree.{Tree, Whole, Alone, Front, Back, Infix, flat}
use Rattle.syn_grammar.specs.Gram.{operand}
use Rattle.syn_grammar.specs.Look.{sees}
use Rattle.syn_grammar.specs.Say.{marks}
use Rattle.syn_grammar.specs.Forms.{back, front, has_right, level, inside, within, is_path_form, may_be_left}
use Rattle.syn_grammar.specs.Forms.{ends_there}
use Rattle.syn_grammar.specs.Forms.{is_dotted, chains, struct_stands}
use Rattle.syn_grammar.specs.Derives.{Derives}
use Rattle.syn_grammar.specs.Normal.{stands_behind}
use Rattle.syn_grammar.specs.Parens.{parens_unless, may_lack, takes_what_follows, is_label, stays_right}
use Rattle.syn_grammar.specs.Parens.{begins_in, stands_in, stays_left, is_struct, is_ended, follow, with_right}
use Rattle.syn_grammar.specs.Table.{table}
use Rattle.syn_grammar.proofs.Whole.{and_true}
use Rattle.laws_binding.specs.Meets.{NoneGoesOn, Meets}
use Rattle.laws_binding.proofs.Levels.{or_false}
use Rattle.laws_binding.proofs.Parted.{bound}
use Rattle.laws_binding.proofs.Sights.{struct_seen}
use Rattle.laws_binding.proofs.Stays.{Stays, begun_right}
use Rattle.laws_reread_expressions.specs.Behind.{no_operand, is_attributed, BeforeOperand, AtEnd, BehindOperand}
use Rattle.laws_reread_expressions.specs.Behind.{MayFollow}
use Rattle.laws_reread_expressions.specs.Formed.{IsFront, IsBehind, may_lack_operand, may_have_operand}
use Rattle.laws_reread_expressions.specs.Formed.{is_attributed_form}
use Rattle.laws_reread_expressions.proofs.Begins.{Starts, own_starts, starts_more, begun_behind, paren_operand}
use Rattle.laws_reread_expressions.proofs.Ends.{LastEnds, Turns, back_turns, infix_turns_of, beside_turn, last_ended}
use Rattle.laws_reread_expressions.proofs.Near.{Beside, beside_inside, no_struct, ends_here, back_meets, infix_meets}
use Rattle.laws_reread_expressions.proofs.Near.{all_within}
use Rattle.laws_reread_expressions.proofs.Opened.{no_label}
use Rattle.laws_reread_expressions.proofs.ReadBack.{follows, quiet_last}
use Rattle.laws_reread_expressions.proofs.Stands.{Stand, lone_begins, lone_right, alone_at, no_hash, have_right}
use Rattle.laws_reread_expressions.proofs.Stands.{stays_label, attributed_is}
use Rattle.laws_reread_expressions.proofs.Stands.{is_no, infix_stands, infix_plain, brace_end, struct_is, path_lone}
use Rattle.laws_reread_expressions.proofs.Turned as T

-- Each own part is read wherever its form may stand, each form has the operands that it can have, before the braces of
-- a struct stands a path, and attributes stand together.
abbrev pub Owned : Tree → Type 0
Owned (Alone k y) = IsFront AtEnd k y × (may_lack_operand k ≡ true)
Owned (Front k y x) =
    IsFront (BeforeOperand k y) k y × (may_have_operand k ≡ true) × (is_attributed k && is_attributed_form x ≡ false)
    × Owned x
Owned (Back l k y) =
    IsBehind (BehindOperand k y) k y × (may_lack_operand k ≡ true) × (is_struct k ≡ true → is_path_form l ≡ true)
    × Owned l
Owned (Infix l k y r) =
    IsBehind (BeforeOperand k y) k y × (may_have_operand k ≡ true) × (is_struct k ≡ false) × Owned l × Owned r
Owned x = ⊥

starts : (x : Tree) → Owned x → Starts (flat x)
starts (Alone k y) f = own_starts AtEnd k y f.0 [] refl
starts (Front k y x) f =
    starts_more (flat y) (flat x)
    (own_starts (BeforeOperand k y) k y f.0 (Opens Parenthesis ∷ []) (paren_operand k y []))
starts (Back l k y) f = starts_more (flat l) (flat y) (starts l f.3)
starts (Infix l k y r) f = starts_more (flat l) (flat y ++ flat r) (starts l f.3)
starts _ f = absurd f

-- what binds it
meets : (x : Tree) (p : Position) (ts : List Token) → Stays p ts x → Meets p x
meets (Front k y x) p ts s =
    ((and_true (within (level k) x) _ s.1).0, meets x (inside p k) ts s.2)
meets (Back l k y) p ts s =
    subst (λ z. Meets p (Back z k y)) (ap (λ b. parens_unless b l) s.2)
    (back_meets p p k y l (inl refl) (meets l p (follow (flat y)) s.3))
meets (Infix l k y r) p ts s =
    subst (λ z. Meets p (Infix l k y z)) (ap (λ b. parens_unless b r) s.2)
    (subst (λ z. Meets p (Infix z k y (with_right p k y r))) (ap (λ b. parens_unless b l) s.0)
    (infix_meets p p k y l r (inl refl) (meets l p (follow (flat y)) s.1) (meets r (inside p k) ts s.3)))
meets _ p ts s = tt

path_alone : (p : Position) (ts rest : List Token) (k : Kind) (y : Tree) → Beside p p ts rest
    → takes_what_follows p k ts ≡ false → is_path_form (Alone k y) ≡ true → sees (struct_stands p) rest ≡ false
unfolding may_lack
path_alone p ts rest ExprPath y b e i = no_struct p p ts rest b e
path_alone p ts rest _ y b e i = absurd (false≢true i)

path_ends : (x : Tree) (p : Position) (ts rest : List Token) → Stays p ts x → Beside p p ts rest
    → is_path_form x ≡ true → sees (struct_stands p) rest ≡ false
path_ends (Alone k y) p ts rest s b i = path_alone p ts rest k y b s i
path_ends _ p ts rest s b i = absurd (false≢true i)

none : (x : Tree) (p : Position) (ts rest : List Token) → Stays p ts x → Beside p p ts rest → back InCondition rest
    ≡ None → NoneGoesOn p x rest
none (Front k y x) p ts rest s b e =
    let c = beside_inside p p ts rest k b in (
      ends_here (level k) (inside p k) x rest e (path_ends x (inside p k) ts rest s.2 c),
      none x (inside p k) ts rest s.2 c e,
    )
none (Infix l k y r) p ts rest s b e =
    let c = beside_inside p p ts rest k b in (
      ends_here (level k) (inside p k) r rest e (path_ends r (inside p k) ts rest s.3 c),
      none r (inside p k) ts rest s.3 c e,
    )
none _ p ts rest s b e = tt

-- the last own part is read before what follows, where it begins its form or goes on with it
abbrev pub Last : List Token → Tree → Type 0
Last rest (Alone k y) =
    ((p : Position) → begins_in p k ≡ true → front p (flat y ++ rest) ≡ Some k) × Derives y (table k) rest
    × (sees no_operand (flat y ++ rest) ≡ false)
Last rest (Front k y x) = Last rest x
Last rest (Back l k y) =
    ((p : Position) → stands_in p k ≡ true → back p (flat y ++ rest) ≡ Some k) × Derives y (table k) rest
Last rest (Infix l k y r) = Last rest r
Last rest x = Unit {0}

last_at : (x : Tree) → Owned x → (rest : List Token) → AtEnd rest → LastEnds rest x → Last rest x
last_at (Alone k y) f rest e le = (λ p s. f.0.begins p rest s e, f.0.read rest e, f.0.single rest e)
last_at (Front k y x) f rest e le = last_at x f.3 rest e le
last_at (Back l k y) f rest e le = (λ p s. f.0.goes_on p rest s (e, le), f.0.read rest (e, le))
last_at (Infix l k y r) f rest e le = last_at r f.4 rest e le
last_at _ f rest e le = absurd f

-- an operand, before what follows it
abbrev Standing : Position → List Token → Tree → Type 0
Standing p ts x = (rest : List Token) → Beside p p ts rest → Last rest x → Stand p x rest

record Right (p : Position) (k : Kind) (y x : Tree) (rest : List Token) : Type 0 where
  stand : Stand (inside p k) x rest
  before : BeforeOperand k y (flat x ++ rest)
  right : has_right p k (flat x ++ rest) ≡ true

right_at : (x : Tree) → Owned x → (p : Position) (k : Kind) (y : Tree) (ts rest : List Token) → Beside p p ts rest
    → may_have_operand k ≡ true → (is_attributed k && is_attributed_form x) ≡ false
    → stays_right p k y x ≡ true → Stays (inside p k) ts x → Standing (inside p k) ts x → Last rest x
    → Right p k y x rest
right_at x f p k y ts rest b l a s t h le =
    let st = h rest (beside_inside p p ts rest k b) le in
    let g = begun_behind (flat x) rest (starts x f) in
    let i = and_true (within (level k) x) _ s in
    let j = and_true (not (may_lack k) || (has_right p k (flat x) && not (is_label k y (flat x)))) _ i.1 in
    record {
      stand = st;
      before = (
        st.single,
        no_label k y (flat x) (flat x ++ rest) g (stays_label k y (flat x) (has_right p k (flat x)) j.0),
        hash st i.0 (is_attributed k) refl,
      );
      right = have_right p k (flat x ++ rest) l (λ m. begun_right (flat x) (flat x ++ rest) g p k m
          (and_true (has_right p k (flat x)) _
          (sym (ap (λ c. not c || (has_right p k (flat x) && not (is_label k y (flat x)))) m) ∙ j.0)).0);
    }
  where
    hash : Stand (inside p k) x rest → within (level k) x ≡ true → (c : Bool) → is_attributed k ≡ c
        → (is_attributed k && sees (marks "#") (flat x ++ rest)) ≡ false
    hash st w true i =
        ap (λ c. c && sees (marks "#") (flat x ++ rest)) i
        ∙ no_hash x (inside p k) rest st.spelled (meets x (inside p k) ts t)
        (subst (λ j. within (level j) x ≡ true) (attributed_is k i) w)
        (sym (ap (λ c. c && is_attributed_form x) i) ∙ a)
    hash st w false i = ap (λ c. c && sees (marks "#") (flat x ++ rest)) i

left_at : (l : Tree) → Owned l → (p : Position) (k : Kind) (y : Tree) (rest : List Token) → Turns (flat y)
    → is_struct k ≡ false
    → back p (flat y ++ rest) ≡ Some k → stays_left p k y l ≡ true → Standing p (follow (flat y)) l
    → Stand p l (flat y ++ rest)
left_at l f p k y rest t s g e h =
    let a = and_true (may_be_left k l && (not (ends_there p l) || is_dotted k)) _ (or_false (is_struct k) _ e s) in
    let b = and_true (not (chains l k)) (is_ended k (flat y) l) a.1 in
    h (flat y ++ rest) (beside_turn p p (flat y) rest (inl refl) t)
    (last_at l f (flat y ++ rest) (T.at_end t.0 (flat y) rest t.1) (last_ended k (flat y) rest t p g l b.1))

-- before the braces of a struct
struct_at : (l : Tree) → Owned l → (p : Position) (k : Kind) (y : Tree) (rest : List Token) → is_struct k ≡ true
    → is_path_form l ≡ true → back p (flat y ++ rest) ≡ Some k → Stand p l (flat y ++ rest)
struct_at (Alone ExprPath w) f p k y rest s i g =
    let b = brace_end (flat y ++ rest)
    (struct_seen p (flat y ++ rest) (subst (λ j. back p (flat y ++ rest) ≡ Some j) (struct_is k s) g)) in
    alone_at p ExprPath w (flat y ++ rest) f.0 f.1 b (path_lone p (flat y ++ rest))
struct_at (Alone _ w) f p k y rest s i g = absurd (false≢true i)
struct_at _ f p k y rest s i g = absurd (false≢true i)

back_standing : (l : Tree) (k : Kind) (y : Tree) → Owned (Back l k y) → (p : Position) (ts : List Token)
    → Stays p ts (Back l k y) → Standing p (follow (flat y)) l → Standing p ts (Back l k y)
back_standing l k y f p ts s h rest b le =
    let i = le.0 p s.0 in
    let a = go i (is_struct k) refl in
    record {
      spelled = (i, le.1, lone_right p p ts rest k b f.1 s.1, f.2, a.spelled);
      single = ap (λ us. sees no_operand us) (append_assoc (flat l) (flat y) rest) ∙ a.single;
    }
  where
    go : back p (flat y ++ rest) ≡ Some k → (c : Bool) → is_struct k ≡ c → Stand p l (flat y ++ rest)
    go i true c = struct_at l f.3 p k y rest c (f.2 c) i
    go i false c = left_at l f.3 p k y rest (back_turns k y f.0 f.1 c) c i s.2 h

pub standing : (x : Tree) → Owned x → (p : Position) (ts : List Token) → Stays p ts x → Standing p ts x
standing (Alone k y) f p ts s =
    λ rest b le. record {
      spelled = (le.0 p (lone_begins k p f.1), le.1, lone_right p p ts rest k b f.1 s);
      single = le.2;
    }
standing (Front k y x) f p ts s =
    λ rest b le.
    let r = right_at x f.3 p k y ts rest b f.1 f.2 s.1 s.2 (standing x f.3 (inside p k) ts s.2) le in
    record {
      spelled = (
        f.0.begins p (flat x ++ rest) s.0 r.before,
        f.0.read (flat x ++ rest) r.before,
        r.right,
        r.stand.spelled,
      );
      single = ap (λ us. sees no_operand us) (append_assoc (flat y) (flat x) rest)
          ∙ f.0.single (flat x ++ rest) r.before;
    }
standing (Back l k y) f p ts s = back_standing l k y f p ts s (standing l f.3 p (follow (flat y)) s.3)
standing (Infix l k y r) f p ts s =
    λ rest b le.
    let n = infix_plain k r _ f.2 (f.0.goes_on Plain (Opens Parenthesis ∷ []) refl (paren_operand k y [])) in
    let a = right_at r f.4 p k y ts rest b f.1 n s.2 s.3 (standing r f.4 (inside p k) ts s.3) le in
    let i = f.0.goes_on p (flat r ++ rest) (infix_stands p k f.2) a.before in
    let c = left_at l f.3 p k y (flat r ++ rest) (infix_turns_of k y f.0 f.1) f.2 i s.0
    (standing l f.3 p (follow (flat y)) s.1) in
    record {
      spelled = (
        i,
        f.0.read (flat r ++ rest) a.before,
        a.right,
        λ t. absurd (is_no (is_struct k) t f.2),
        c.spelled,
        a.stand.spelled,
      );
      single = ap (λ us. sees no_operand us) (append_assoc (flat l) (flat y ++ flat r) rest)
          ∙ ap (λ us. sees no_operand (flat l ++ us)) (append_assoc (flat y) (flat r) rest) ∙ c.single;
    }
standing _ f p ts s = absurd f

-- a whole expression
pub read_whole : (p : Position) (x : Tree) (rest : List Token) → Owned x → Stays p (stands_behind p) x
    → MayFollow p rest → Derives (Whole x) (operand p 0) rest
read_whole p x rest f s m =
    let a = follows p rest m in
    let ts : List Token = stands_behind p in (
      (all_within x, ends_here 0 p x rest a.none (path_ends x p ts rest s a.beside)),
      bound x p rest (meets x p ts s)
          (standing x f p ts s rest a.beside (last_at x f rest a.at_end (quiet_last x rest a.quiet))).spelled
          (none x p ts rest s a.beside a.none),
    )

-- before what stands behind it where it stays as it stands
as_it_stands : (p : Position) (ts : List Token) → Beside p p ts ts
as_it_stands p ts = record {
  near = inl refl;
  behind = record { lacks = λ q k m h. h; braces = λ e. e };
  plain = inl refl;
}

pub read_before : (p : Position) (x : Tree) (rest : List Token) → Owned x → Stays p rest x → Last rest x
    → back InCondition rest ≡ None → Derives (Whole x) (operand p 0) rest
read_before p x rest f s l e =
    let b = as_it_stands p rest in (
      (all_within x, ends_here 0 p x rest e (path_ends x p rest rest s b)),
      bound x p rest (meets x p rest s) (standing x f p rest s rest b l).spelled (none x p rest rest s b e),
    )
