-- The own parts of an expression in normal form are read where they stand.
use Rattle.std.proofs.Common.{◌≡◌, List, [], ◌∷◌, ◌++◌, refl, sym, ap, ◌∙◌, subst, append_assoc, inl, inr}
use Rattle.std.specs.Prelude.{Bool, true, false, not, ◌&&◌, ◌||◌, ◌⊎◌, cond, nat_eq, Option, Some}
use Rattle.std.proofs.lemmas.Bool.{false≢true}
use Rattle.proc_macro2.specs.Token.{Token, Opens, Closes}
use Rattle.proc_macro2.specs.declared.delimiter.Delimiter.TheVariants.{Parenthesis}
use Rattle.syn_grammar.specs.Kind.{Kind, Position, Plain, InCondition, InArm, InStatement, ExprPath, ExprParen}
use Rattle.syn_grammar.specs.Kind.{ExprStruct, ExprAttributed, ExprBreak, ExprLet}
use Rattle.syn_grammar.specs.Tree.{Tree, Alone, Front, Back, Infix, flat}
use Rattle.syn_grammar.specs.Look.{sees}
use Rattle.syn_grammar.specs.Say.{marks, brace}
use Rattle.syn_grammar.specs.Table.{table}
use Rattle.syn_grammar.specs.Normal.{normal, formed}
use Rattle.syn_grammar.specs.Forms.{front, back, has_right, level, inside, within, is_path_form, takes}
use Rattle.syn_grammar.specs.Forms.{takes_postfix, may_be_left, stands_left, is_range, ends_there, is_dotted, chains}
use Rattle.syn_grammar.specs.Parens.{in_parens, parens_unless, may_lack, stays_right, stays_left, is_struct, is_ended}
use Rattle.syn_grammar.specs.Parens.{begins_in, stands_in, takes_what_follows, follow, with_right, with_left, is_label}
use Rattle.syn_grammar.proofs.Whole.{and_true}
use Rattle.laws_binding.specs.Meets.{LeftMeets, Meets}
use Rattle.laws_binding.specs.Spelled.{Spelled}
use Rattle.laws_binding.proofs.Levels.{or_false, not_true}
use Rattle.laws_binding.proofs.Parted.{bound}
use Rattle.laws_binding.proofs.Sights.{struct_seen, is_back, backs_are}
use Rattle.laws_binding.proofs.Stays.{begun_right, follow_plain, path_plain}
use Rattle.laws_reread_expressions.specs.Behind.{no_operand, is_attributed, ends_own, BeforeOperand, AtEnd}
use Rattle.laws_reread_expressions.specs.Formed.{IsFront, may_lack_operand, may_have_operand, ends_by_itself}
use Rattle.laws_reread_expressions.specs.Formed.{is_attributed_form, Formed}
use Rattle.laws_reread_expressions.proofs.Begins.{Starts, starts, unless_starts, own_starts, starts_more, begun_behind}
use Rattle.laws_reread_expressions.proofs.Begins.{not_ended, paren_operand}
use Rattle.laws_reread_expressions.proofs.Ends.{LastEnds, last_nothing, nothing_ends, Turns, back_turns, infix_turns_of}
use Rattle.laws_reread_expressions.proofs.Ends.{beside_turn, beside_nothing, last_ended}
use Rattle.laws_reread_expressions.proofs.Near.{Near, Beside, beside_inside, near_begins, near_stands, near_inside}
use Rattle.laws_reread_expressions.proofs.Near.{meets}
use Rattle.laws_reread_expressions.proofs.Near.{front_meets, back_meets, nothing_goes, nothing_none, all_within}
use Rattle.laws_reread_expressions.proofs.Opened.{nothing_right, no_label, right_same, right_plain, paren_right}
use Rattle.laws_reread_expressions.proofs.Opened.{fixed_right}
use Rattle.laws_reread_expressions.proofs.Turned as T

-- what stands somewhere, and begins with no arrow or the like
pub record Stand (q : Position) (z : Tree) (rest : List Token) : Type 0 where
  pub spelled : Spelled q z rest
  pub single : sees no_operand (flat z ++ rest) ≡ false

-- in parentheses
paren_front : (q : Position) (ts : List Token) → front q (Opens Parenthesis ∷ ts) ≡ Some ExprParen
unfolding front
paren_front q ts = refl

pub paren_stand : (z : Tree) (q : Position) (rest : List Token) → Meets Plain z → Spelled Plain z [] → Starts (flat z)
    → Stand q (in_parens z) rest
unfolding table has_right level
paren_stand z q rest m s b = record {
  spelled = (
    paren_front q ((flat z ++ Closes Parenthesis ∷ []) ++ rest),
    (
      refl,
      (
        not_ended (flat z) [] b,
        (refl, ((all_within z, nothing_goes 0 Plain z), bound z Plain [] m s (nothing_none z Plain))),
        refl,
      ),
    ),
    refl,
  );
  single = refl;
}

-- whether a form has an operand behind it, there
right_near : (p q : Position) (k : Kind) (rest : List Token) → (q ≡ p) ⊎ (sees brace rest ≡ false) → has_right p k rest
    ≡ false → has_right q k rest ≡ false
right_near p q k rest (inl e) h = ap (λ r. has_right r k rest) e ∙ h
right_near p q k rest (inr e) h = right_same q p k rest e ∙ h

or_no : (a b : Bool) → (a || b) ≡ false → a ≡ false
or_no true b e = e
or_no false b e = refl

pub lone_right : (p q : Position) (ts rest : List Token) (k : Kind) → Beside p q ts rest → may_lack_operand k ≡ true
    → takes_what_follows p k ts ≡ false → has_right q k rest ≡ false
lone_right p q ts rest k b l t = go (may_lack k) refl
  where
    go : (c : Bool) → may_lack k ≡ c → has_right q k rest ≡ false
    go true m =
        right_near p q k rest b.plain
        (b.behind.lacks p k m (sym (ap (λ c. c && has_right p k ts) m) ∙ or_no (may_lack k && has_right p k ts) _ t))
    go false m =
        fixed_right q k rest m ∙ ap not (sym (ap (λ c. c || ends_by_itself k) m) ∙ l)

pub lone_begins : (k : Kind) (q : Position) → may_lack_operand k ≡ true → begins_in q k ≡ true
unfolding may_lack level
lone_begins k Plain l = refl
lone_begins k InCondition l = refl
lone_begins k InArm l = refl
lone_begins ExprLet InStatement l = cc
lone_begins _ InStatement l = refl

pub alone_at : (q : Position) (k : Kind) (y : Tree) (rest : List Token) → IsFront AtEnd k y → may_lack_operand k ≡ true
    → AtEnd rest → has_right q k rest ≡ false → Stand q (Alone k y) rest
alone_at q k y rest o l e h = record {
  spelled = (o.begins q rest (lone_begins k q l) e, o.read rest e, h);
  single = o.single rest e;
}

no_right : (q : Position) (k : Kind) → may_lack_operand k ≡ true → has_right q k [] ≡ false
no_right q k l = go (may_lack k) refl
  where
    go : (c : Bool) → may_lack k ≡ c → has_right q k [] ≡ false
    go true m = nothing_right q k m
    go false m = fixed_right q k [] m ∙ ap not (sym (ap (λ c. c || ends_by_itself k) m) ∙ l)

-- an operand that was put in normal form, wherever it stands
abbrev Standing : Position → List Token → Tree → Type 0
Standing p ts x =
    (q : Position) (rest : List Token) → Beside p q ts rest → AtEnd rest → LastEnds rest (formed p ts x)
    → Stand q (formed p ts x) rest

-- and in parentheses
closed : (x : Tree) → Formed x → (p : Position) (ts : List Token) → Standing p ts x → (q : Position)
    (rest : List Token) → Stand q (in_parens (formed p ts x)) rest
closed x f p ts h q rest =
    let z : Tree = formed p ts x in
    paren_stand z q rest (meets x p Plain ts (inr refl))
    (h Plain [] (beside_nothing p ts) refl (last_nothing z)).spelled (starts x f p ts)

-- No attributes stand before attributes.
pub is_no : (b : Bool) → b ≡ true → b ≡ false → ⊥
is_no true e f = false≢true (sym f)
is_no false e f = false≢true e

first_hash : (b : Bool) (o : Option Kind) (k : Kind) → cond b (Some ExprAttributed) o ≡ Some k → is_attributed k ≡ false
    → b ≡ false
first_hash true o k e a = absurd (is_no (is_attributed k) (attributed k e) a)
  where
    attributed : (k : Kind) → Some ExprAttributed ≡ Some k → is_attributed k ≡ true
    attributed k e = cc
first_hash false o k e a = refl

hash_front : (q : Position) (ts : List Token) (k : Kind) → front q ts ≡ Some k → is_attributed k ≡ false
    → sees (marks "#") ts ≡ false
unfolding front
hash_front q ts k e a = first_hash (sees (marks "#") ts) _ k e a

tight : (k : Kind) → takes (level ExprAttributed) (level k) ≡ true → nat_eq (level k) 16 ≡ true
unfolding takes level
tight ExprBreak e = cc
tight _ e = cc

lone_attributed : (q : Position) (k : Kind) (ts : List Token) → has_right q k ts ≡ false → is_attributed k ≡ false
unfolding has_right level
lone_attributed q ExprAttributed ts e = absurd (false≢true (sym e))
lone_attributed q _ ts e = refl

front_attributed : (k : Kind) (y x : Tree) → is_attributed_form (Front k y x) ≡ false → is_attributed k ≡ false
front_attributed ExprAttributed y x e = e
front_attributed _ y x e = refl

postfix_attributed : (l : Tree) → takes_postfix l ≡ true → is_attributed_form l ≡ false
unfolding level
postfix_attributed (Front ExprAttributed y x) e = absurd (false≢true e)
postfix_attributed (Front _ y x) e = refl
postfix_attributed _ e = refl

path_attributed : (l : Tree) → is_path_form l ≡ true → is_attributed_form l ≡ false
path_attributed (Front k y x) e = absurd (false≢true e)
path_attributed _ e = refl

plain_left : (k : Kind) (l : Tree) → is_struct k ≡ false → may_be_left k l
    ≡ cond (nat_eq (level k) 16) (takes_postfix l) (not (is_range l))
plain_left ExprStruct l s = cc
plain_left _ l s = refl

postfix_left : (k : Kind) (l : Tree) → is_struct k ≡ false → nat_eq (level k) 16 ≡ true → may_be_left k l ≡ true
    → takes_postfix l ≡ true
postfix_left k l s n m = sym (ap (λ b. cond b (takes_postfix l) (not (is_range l))) n) ∙ sym (plain_left k l s) ∙ m

left_attributed : (q : Position) (k : Kind) (l : Tree) → LeftMeets q l k → (is_struct k ≡ true → is_path_form l ≡ true)
    → nat_eq (level k) 16 ≡ true → is_attributed_form l ≡ false
unfolding stands_left
left_attributed q k l m h n = go (is_struct k) refl
  where
    go : (b : Bool) → is_struct k ≡ b → is_attributed_form l ≡ false
    go true s = path_attributed l (h s)
    go false s = postfix_attributed l (postfix_left k l s n (and_true (may_be_left k l) _ (m s).0.0).0)

pub no_hash : (z : Tree) (q : Position) (rest : List Token) → Spelled q z rest → Meets q z
    → within (level ExprAttributed) z ≡ true → is_attributed_form z ≡ false → sees (marks "#") (flat z ++ rest) ≡ false
no_hash (Alone k y) q rest s m w a = hash_front q (flat y ++ rest) k s.0 (lone_attributed q k rest s.2)
no_hash (Front k y x) q rest s m w a =
    ap (λ ts. sees (marks "#") ts) (append_assoc (flat y) (flat x) rest)
    ∙ hash_front q (flat y ++ (flat x ++ rest)) k s.0 (front_attributed k y x a)
no_hash (Back l k y) q rest s m w a =
    let b = and_true (takes (level ExprAttributed) (level k)) (within (level ExprAttributed) l) w in
    ap (λ ts. sees (marks "#") ts) (append_assoc (flat l) (flat y) rest)
    ∙ no_hash l q (flat y ++ rest) s.4 m.1 b.1 (left_attributed q k l m.0 s.3 (tight k b.0))
no_hash (Infix l k y r) q rest s m w a =
    let b = and_true (takes (level ExprAttributed) (level k)) (within (level ExprAttributed) l) w in
    ap (λ ts. sees (marks "#") ts) (append_assoc (flat l) (flat y ++ flat r) rest)
    ∙ ap (λ ts. sees (marks "#") (flat l ++ ts)) (append_assoc (flat y) (flat r) rest)
    ∙ no_hash l q (flat y ++ (flat r ++ rest)) s.4 m.1 b.1 (left_attributed q k l m.0 s.3 (tight k b.0))
no_hash _ q rest s m w a = absurd s

-- right operands
record Right (q : Position) (k : Kind) (y w : Tree) (rest : List Token) : Type 0 where
  stand : Stand (inside q k) w rest
  before : BeforeOperand k y (flat w ++ rest)
  right : has_right q k (flat w ++ rest) ≡ true

pub have_right : (q : Position) (k : Kind) (ts : List Token) → may_have_operand k ≡ true
    → (may_lack k ≡ true → has_right q k ts ≡ true) → has_right q k ts ≡ true
have_right q k ts l h = go (may_lack k) refl
  where
    go : (c : Bool) → may_lack k ≡ c → has_right q k ts ≡ true
    go true m = h m
    go false m = fixed_right q k ts m ∙ sym (ap (λ c. c || not (ends_by_itself k)) m) ∙ l

near_right : (p q : Position) (k : Kind) (ts : List Token) → Near p q → has_right p k ts ≡ true
    → has_right q k ts ≡ true
near_right p q k ts (inl e) h = ap (λ r. has_right r k ts) e ∙ h
near_right p q k ts (inr e) h = ap (λ r. has_right r k ts) e ∙ right_plain p k ts h

unlabelled : (k : Kind) (y : Tree) (ts : List Token) → may_lack k ≡ false → is_label k y ts ≡ false
unfolding may_lack
unlabelled ExprBreak y ts m = absurd (false≢true (sym m))
unlabelled _ y ts m = refl

pub stays_label : (k : Kind) (y : Tree) (ts : List Token) (h : Bool)
    → (not (may_lack k) || (h && not (is_label k y ts))) ≡ true → is_label k y ts ≡ false
stays_label k y ts h e = go (may_lack k) refl
  where
    go : (c : Bool) → may_lack k ≡ c → is_label k y ts ≡ false
    go true m = not_true (is_label k y ts)
        (and_true h _ (sym (ap (λ c. not c || (h && not (is_label k y ts))) m) ∙ e)).1
    go false m = unlabelled k y ts m

pub attributed_is : (k : Kind) → is_attributed k ≡ true → k ≡ ExprAttributed
attributed_is ExprAttributed e = refl
attributed_is _ e = absurd (false≢true e)

unless_attributed : (b : Bool) (z : Tree) → is_attributed_form z ≡ false
    → is_attributed_form (parens_unless b z) ≡ false
unless_attributed true z e = e
unless_attributed false z e = refl

same_attributed : (k : Kind) (y x v w : Tree) → is_attributed_form (Front k y x) ≡ is_attributed_form (Front k v w)
same_attributed ExprAttributed y x v w = refl
same_attributed _ y x v w = refl

formed_attributed : (x : Tree) (p : Position) (ts : List Token) → is_attributed_form x ≡ false
    → is_attributed_form (formed p ts x) ≡ false
formed_attributed (Alone k y) p ts e =
    unless_attributed (not (takes_what_follows p k ts)) (Alone k (normal y)) refl
formed_attributed (Front k y x) p ts e =
    let w : Tree = with_right p k (normal y) (formed (inside p k) ts x) in
    unless_attributed (begins_in p k) (Front k (normal y) w) (same_attributed k (normal y) w y x ∙ e)
formed_attributed (Back l k y) p ts e =
    unless_attributed (stands_in p k && not (takes_what_follows p k ts))
    (Back (with_left p k (normal y) (formed p (follow (flat (normal y))) l)) k (normal y)) refl
formed_attributed (Infix l k y r) p ts e = refl
formed_attributed _ p ts e = e

right_at : (x : Tree) → Formed x → (p q : Position) (k : Kind) (y : Tree) (ts rest : List Token) → Beside p q ts rest
    → AtEnd rest → may_have_operand k ≡ true → (is_attributed k && is_attributed_form x) ≡ false
    → Standing (inside p k) ts x → LastEnds rest (with_right p k y (formed (inside p k) ts x))
    → Right q k y (with_right p k y (formed (inside p k) ts x)) rest
right_at x f p q k y ts rest b e l a h le = go (stays_right p k y z) refl le
  where
    z : Tree
    z = formed (inside p k) ts x

    hash : (st : Stand (inside q k) z rest) → within (level k) z ≡ true → (c : Bool) → is_attributed k ≡ c
        → (is_attributed k && sees (marks "#") (flat z ++ rest)) ≡ false
    hash st w true i =
        ap (λ c. c && sees (marks "#") (flat z ++ rest)) i
        ∙ no_hash z (inside q k) rest st.spelled (meets x (inside p k) (inside q k) ts (near_inside p q k b.near))
        (subst (λ j. within (level j) z ≡ true) (attributed_is k i) w)
        (formed_attributed x (inside p k) ts (sym (ap (λ c. c && is_attributed_form x) i) ∙ a))
    hash st w false i = ap (λ c. c && sees (marks "#") (flat z ++ rest)) i

    go : (c : Bool) → stays_right p k y z ≡ c → LastEnds rest (parens_unless c z) → Right q k y (parens_unless c z) rest
    go true s le =
        let st = h (inside q k) rest (beside_inside p q ts rest k b) e le in
        let g = begun_behind (flat z) rest (starts x f (inside p k) ts) in
        let i = and_true (within (level k) z) _ s in
        let j = and_true (not (may_lack k) || (has_right p k (flat z) && not (is_label k y (flat z)))) _ i.1 in
        record {
          stand = st;
          before = (
            st.single,
            no_label k y (flat z) (flat z ++ rest) g (stays_label k y (flat z) (has_right p k (flat z)) j.0),
            hash st i.0 (is_attributed k) refl,
          );
          right = have_right q k (flat z ++ rest) l (λ m. near_right p q k (flat z ++ rest) b.near
              (begun_right (flat z) (flat z ++ rest) g p k m
              (and_true (has_right p k (flat z)) _
              (sym (ap (λ c. not c || (has_right p k (flat z) && not (is_label k y (flat z)))) m) ∙ j.0)).0));
        }
    go false s le = record {
      stand = closed x f (inside p k) ts h (inside q k) rest;
      before = paren_operand k y ((flat z ++ Closes Parenthesis ∷ []) ++ rest);
      right = have_right q k _ l (λ m. paren_right q k ((flat z ++ Closes Parenthesis ∷ []) ++ rest) m);
    }

-- left operands
left_at : (l : Tree) → Formed l → (p q : Position) (k : Kind) (y : Tree) (rest : List Token) → Near p q → Turns (flat y)
    → is_struct k ≡ false → back q (flat y ++ rest) ≡ Some k → Standing p (follow (flat y)) l
    → Stand q (with_left p k y (formed p (follow (flat y)) l)) (flat y ++ rest)
left_at l f p q k y rest n t s g h = go (stays_left p k y m) refl
  where
    m : Tree
    m = formed p (follow (flat y)) l

    go : (c : Bool) → stays_left p k y m ≡ c → Stand q (parens_unless c m) (flat y ++ rest)
    go true e =
        let a = and_true (may_be_left k m && (not (ends_there p m) || is_dotted k)) _ (or_false (is_struct k) _ e s) in
        let b = and_true (not (chains m k)) (is_ended k (flat y) m) a.1 in
        h q (flat y ++ rest) (beside_turn p q (flat y) rest n t) (T.at_end t.0 (flat y) rest t.1)
        (last_ended k (flat y) rest t q g m b.1)
    go false e = closed l f p (follow (flat y)) h q (flat y ++ rest)

-- before the braces of a struct
pub brace_end : (ts : List Token) → sees brace ts ≡ true → AtEnd ts
brace_end [] e = absurd (false≢true e)
brace_end (Opens d ∷ ts) e = refl
brace_end (_ ∷ ts) e = absurd (false≢true e)

pub struct_is : (k : Kind) → is_struct k ≡ true → k ≡ ExprStruct
struct_is ExprStruct s = refl
struct_is _ s = absurd (false≢true s)

pub path_takes : (p : Position) (ts : List Token) → takes_what_follows p ExprPath (follow ts) ≡ false
unfolding may_lack
path_takes p ts = path_plain p (follow ts) (follow_plain ts)

pub path_lone : (q : Position) (ts : List Token) → has_right q ExprPath ts ≡ false
unfolding has_right level
path_lone q ts = refl

path_lacks : may_lack_operand ExprPath ≡ true
unfolding may_lack level
path_lacks = refl

struct_stays : (p : Position) (k : Kind) (y m z : Tree) → is_struct k ≡ true → m ≡ z → with_left p k y m ≡ z
struct_stays p k y m z s e = ap (λ b. parens_unless (b || stays_plain) m) s ∙ e
  where
    stays_plain : Bool
    stays_plain =
        (may_be_left k m && (not (ends_there p m) || is_dotted k))
        && (not (chains m k) && is_ended k (flat y) m)

record Struct (q : Position) (v : Tree) (ts : List Token) : Type 0 where
  stand : Stand q v ts
  path : is_path_form v ≡ true

struct_at : (l : Tree) → Formed l → (p q : Position) (k : Kind) (y : Tree) (rest : List Token) → is_struct k ≡ true
    → is_path_form l ≡ true → back q (flat y ++ rest) ≡ Some k
    → Struct q (with_left p k y (formed p (follow (flat y)) l)) (flat y ++ rest)
struct_at (Alone ExprPath w) f p q k y rest s i g =
    let e : formed p (follow (flat y)) (Alone ExprPath w) ≡ Alone ExprPath (normal w) =
    ap (λ b. parens_unless (not b) (Alone ExprPath (normal w))) (path_takes p (flat y)) in
    let u = struct_stays p k y _ (Alone ExprPath (normal w)) s e in
    let b = brace_end (flat y ++ rest)
    (struct_seen q (flat y ++ rest) (subst (λ j. back q (flat y ++ rest) ≡ Some j) (struct_is k s) g)) in
    subst (λ v. Struct q v (flat y ++ rest)) (sym u) (record {
      stand = alone_at q ExprPath (normal w) (flat y ++ rest) f.0 path_lacks b (path_lone q (flat y ++ rest));
      path = refl;
    })
struct_at (Alone _ w) f p q k y rest s i g = absurd (false≢true i)
struct_at _ f p q k y rest s i g = absurd (false≢true i)

record Before (q : Position) (k : Kind) (v : Tree) (ts : List Token) : Type 0 where
  stand : Stand q v ts
  path : is_struct k ≡ true → is_path_form v ≡ true

before_at : (l : Tree) → Formed l → (p q : Position) (k : Kind) (y : Tree) (rest : List Token) → Near p q
    → (is_struct k ≡ false → Turns (flat y)) → (is_struct k ≡ true → is_path_form l ≡ true)
    → back q (flat y ++ rest) ≡ Some k → Standing p (follow (flat y)) l
    → Before q k (with_left p k y (formed p (follow (flat y)) l)) (flat y ++ rest)
before_at l f p q k y rest n t i g h = go (is_struct k) refl
  where
    go : (b : Bool) → is_struct k ≡ b → Before q k (with_left p k y (formed p (follow (flat y)) l)) (flat y ++ rest)
    go true s = let a = struct_at l f p q k y rest s (i s) g in record { stand = a.stand; path = λ s. a.path }
    go false s = record {
      stand = left_at l f p q k y rest n (t s) s g h;
      path = λ r. absurd (is_no (is_struct k) r s);
    }

pub infix_stands : (q : Position) (k : Kind) → is_struct k ≡ false → stands_in q k ≡ true
infix_stands InCondition ExprStruct s = absurd (false≢true (sym s))
infix_stands InCondition _ s = refl
infix_stands Plain k s = refl
infix_stands InArm k s = refl
infix_stands InStatement k s = refl

-- each form
alone_standing : (k : Kind) (y : Tree) → Formed (Alone k y) → (p : Position) (ts : List Token)
    → Standing p ts (Alone k y)
alone_standing k y f p ts q rest b e le = go (takes_what_follows p k ts) refl
  where
    go : (c : Bool) → takes_what_follows p k ts ≡ c → Stand q (parens_unless (not c) (Alone k (normal y))) rest
    go true t =
        paren_stand (Alone k (normal y)) q rest tt
        (alone_at Plain k (normal y) [] f.0 f.1 refl (no_right Plain k f.1)).spelled
        (own_starts AtEnd k (normal y) f.0 [] refl)
    go false t = alone_at q k (normal y) rest f.0 f.1 e (lone_right p q ts rest k b f.1 t)

front_standing : (k : Kind) (y x : Tree) → Formed (Front k y x) → (p : Position) (ts : List Token)
    → Standing (inside p k) ts x → Standing p ts (Front k y x)
front_standing k y x f p ts h q rest b e le = go (begins_in p k) refl le
  where
    z : Tree
    z = formed (inside p k) ts x

    w : Tree
    w = with_right p k (normal y) z

    at : (s : Position) (us : List Token) → Beside p s ts us → AtEnd us → begins_in s k ≡ true → LastEnds us w
        → Stand s (Front k (normal y) w) us
    at s us b e g le =
        let r = right_at x f.3 p s k (normal y) ts us b e f.1 f.2 h le in
        record {
          spelled = (
            f.0.begins s (flat w ++ us) g r.before,
            f.0.read (flat w ++ us) r.before,
            r.right,
            r.stand.spelled,
          );
          single = ap (λ ts. sees no_operand ts) (append_assoc (flat (normal y)) (flat w) us)
              ∙ f.0.single (flat w ++ us) r.before;
        }

    go : (c : Bool) → begins_in p k ≡ c → LastEnds rest (parens_unless c (Front k (normal y) w))
        → Stand q (parens_unless c (Front k (normal y) w)) rest
    go true g le = at q rest b e (near_begins p q k b.near g) le
    go false g le =
        paren_stand (Front k (normal y) w) q rest
        (front_meets p Plain k (normal y) z
        (meets x (inside p k) (inside Plain k) ts (near_inside p Plain k (inr refl))))
        (at Plain [] (beside_nothing p ts) refl refl (last_nothing w)).spelled
        (starts_more (flat (normal y)) (flat w) (own_starts (BeforeOperand k (normal y)) k (normal y) f.0
        (Opens Parenthesis ∷ []) (paren_operand k (normal y) [])))

back_standing : (l : Tree) (k : Kind) (y : Tree) → Formed (Back l k y) → (p : Position) (ts : List Token)
    → Standing p (follow (flat (normal y))) l → Standing p ts (Back l k y)
back_standing l k y f p ts h q rest b e le = go (stands_in p k && not (takes_what_follows p k ts)) refl le
  where
    us : List Token
    us = follow (flat (normal y))

    m : Tree
    m = formed p us l

    v : Tree
    v = with_left p k (normal y) m

    at : (s : Position) (vs : List Token) → Near p s → AtEnd vs → stands_in s k ≡ true → has_right s k vs ≡ false
        → ends_own k (normal y) vs ≡ true → Stand s (Back v k (normal y)) vs
    at s vs n e g r o =
        let i = f.0.goes_on s vs g (e, o) in
        let a = before_at l f.3 p s k (normal y) vs n (λ j. back_turns k (normal y) f.0 f.1 j) f.2 i h in
        record {
          spelled = (i, f.0.read vs (e, o), r, a.path, a.stand.spelled);
          single = ap (λ ts. sees no_operand ts) (append_assoc (flat v) (flat (normal y)) vs) ∙ a.stand.single;
        }

    go : (c : Bool) → (stands_in p k && not (takes_what_follows p k ts)) ≡ c
        → LastEnds rest (parens_unless c (Back v k (normal y))) → Stand q (parens_unless c (Back v k (normal y))) rest
    go true g le =
        let a = and_true (stands_in p k) (not (takes_what_follows p k ts)) g in
        at q rest b.near e (near_stands p q k b.near a.0)
        (lone_right p q ts rest k b f.1 (not_true (takes_what_follows p k ts) a.1)) le
    go false g le =
        paren_stand (Back v k (normal y)) q rest
        (back_meets p Plain k (normal y) m (inr refl) (meets l p Plain us (inr refl)))
        (at Plain [] (inr refl) refl refl (no_right Plain k f.1) (nothing_ends k (normal y))).spelled
        (starts_more (flat v) (flat (normal y)) (unless_starts (stays_left p k (normal y) m) m (starts l f.3 p us)))

pub infix_plain : (k : Kind) (x : Tree) (ts : List Token) → is_struct k ≡ false → back Plain ts ≡ Some k
    → (is_attributed k && is_attributed_form x) ≡ false
infix_plain k x ts s e = ap (λ b. b && is_attributed_form x) (behind_plain k (backs_are Plain k ts e))
  where
    behind_plain : (k : Kind) → is_back k ≡ true → is_attributed k ≡ false
    behind_plain ExprAttributed b = absurd (false≢true b)
    behind_plain _ b = refl

infix_standing : (l : Tree) (k : Kind) (y r : Tree) → Formed (Infix l k y r) → (p : Position) (ts : List Token)
    → Standing p (follow (flat (normal y))) l → Standing (inside p k) ts r → Standing p ts (Infix l k y r)
infix_standing l k y r f p ts h j q rest b e le =
    let us : List Token = follow (flat (normal y)) in
    let v : Tree = with_left p k (normal y) (formed p us l) in
    let w : Tree = with_right p k (normal y) (formed (inside p k) ts r) in
    let n = infix_plain k r _ f.2
    (f.0.goes_on Plain (Opens Parenthesis ∷ []) refl (paren_operand k (normal y) [])) in
    let a = right_at r f.4 p q k (normal y) ts rest b e f.1 n j le in
    let i = f.0.goes_on q (flat w ++ rest) (infix_stands q k f.2) a.before in
    let c = left_at l f.3 p q k (normal y) (flat w ++ rest) b.near (infix_turns_of k (normal y) f.0 f.1) f.2 i h in
    record {
      spelled = (
        i,
        f.0.read (flat w ++ rest) a.before,
        a.right,
        λ s. absurd (is_no (is_struct k) s f.2),
        c.spelled,
        a.stand.spelled,
      );
      single = ap (λ ts. sees no_operand ts) (append_assoc (flat v) (flat (normal y) ++ flat w) rest)
          ∙ ap (λ ts. sees no_operand (flat v ++ ts)) (append_assoc (flat (normal y)) (flat w) rest) ∙ c.single;
    }

-- all
pub standing : (x : Tree) → Formed x → (p : Position) (ts : List Token) → Standing p ts x
standing (Alone k y) f p ts = alone_standing k y f p ts
standing (Front k y x) f p ts = front_standing k y x f p ts (standing x f.3 (inside p k) ts)
standing (Back l k y) f p ts = back_standing l k y f p ts (standing l f.3 p (follow (flat (normal y))))
standing (Infix l k y r) f p ts =
    infix_standing l k y r f p ts (standing l f.3 p (follow (flat (normal y)))) (standing r f.4 (inside p k) ts)
standing _ f p ts = absurd f
