-- Arrays, repeats, and blocks and conditions behind words and labels begin their forms, whatever stands behind them.
use Rattle.std.proofs.Common.{◌≡◌, ℕ, List, [], ◌∷◌, ◌++◌, refl, sym, ap, ◌∙◌, subst, append_assoc}
use Rattle.std.specs.Prelude.{Bool, true, false, cond, Option, Some, None, codes}
use Prim.Native.String.{String}
use Rattle.std.proofs.lemmas.Slice.Eq.{bytes_eq-Decides}
use Rattle.std.proofs.lemmas.Bool.{false≢true}
use Rattle.proc_macro2.specs.Token.{Token, Opens, Closes, Ident, Punct}
use Rattle.proc_macro2.specs.declared.delimiter.Delimiter.TheVariants.{Brace, Bracket}
use Rattle.rust_leaf.specs.declared.punct.Spacing.{Spacing}
use Rattle.rust_leaf.specs.declared.punct.Spacing.TheVariants.{Alone as Apart, Joint}
use Rattle.syn_grammar.specs.Kind.{Kind, Position, Plain, InCondition, InArm, InStatement, Block, Body, Label}
use Rattle.syn_grammar.specs.Kind.{ExprArray, Expression}
use Rattle.syn_grammar.specs.Kind.{ExprAsync, ExprBlock, ExprConst, ExprForLoop, ExprLoop, ExprRepeat, ExprWhile}
use Rattle.syn_grammar.specs.Words.{is_bool}
use Rattle.rust_leaf.specs.Keywords.{is_reserved, same_text}
use Rattle.syn_grammar.specs.Tree.{Tree, AWord, AMark, ALifetime, Nil, Pair, First, Second, Group, Called, Node}
use Rattle.syn_grammar.specs.Tree.{marks, flat}
use Rattle.syn_grammar.specs.Gram.{Gram, group, ref}
use Rattle.syn_grammar.specs.Look.{a_lifetime, seen, sees, ◌then◌, ◌or◌}
use Rattle.syn_grammar.specs.Say.{◌▸◌, keyword, marks as a_mark}
use Rattle.syn_grammar.specs.Table.{table}
use Rattle.syn_grammar.specs.Derives.{Derives}
use Rattle.syn_grammar.specs.Kept.{kept}
use Rattle.syn_grammar.specs.Normal.{normal}
use Rattle.syn_grammar.specs.Forms.{front}
use Rattle.syn_grammar.specs.Expressions.{expressions, labelled}
use Rattle.laws_reread_expressions.specs.Behind.{no_operand}
use Rattle.laws_reread_expressions.specs.Formed.{IsFront}
use Rattle.laws_reread_kinds.specs.After.{After}
use Rattle.laws_reread_kinds.proofs.Fits.{Fits}
use Rattle.laws_reread_kinds.proofs.Readies.{OwnReady}
use Rattle.laws_reread.proofs.Loops.{NoClosure, pattern_leads}
use Rattle.laws_reread.proofs.Semicolons.{past_semicolon, quiet}

-- whatever stands behind these tokens, the form begins there, and an operand may begin so
abbrev Fronts : Kind → List Token → Type 0
Fronts k us =
    (p : Position) (ts : List Token) → (front p (us ++ ts) ≡ Some k) × (sees no_operand (us ++ ts) ≡ false)

record Tokens (k : Kind) (y : Tree) : Type 0 where
  us : List Token
  is : flat y ≡ us
  fronts : Fronts k us

front_of : (M : List Token → Type 0) (k : Kind) (y : Tree) → ((ts : List Token) → After k y ts) → OwnReady k y
    → flat (normal (kept y)) ≡ flat y → Tokens k y → IsFront M k y
front_of M k y a w h t = record {
  begins = λ p ts s m. ap (λ vs. front p (vs ++ ts)) t.is ∙ (t.fronts p ts).0;
  read = λ ts m. (w ts (a ts)).0;
  held = h;
  single = λ ts m. ap (λ vs. sees no_operand (vs ++ ts)) t.is ∙ (t.fronts Plain ts).1;
}

-- braces
opens_brace : (g : Gram) (x : Tree) → Fits x (group Brace g) → (us : List Token) × (flat x ≡ Opens Brace ∷ us)
opens_brace g (Group e x) f = (flat x ++ Closes e ∷ [], ap (λ d. Opens d ∷ flat x ++ Closes e ∷ []) f.0)
opens_brace g _ f = absurd f

pub body_opens : (x : Tree) → Fits x (ref Body) → (us : List Token) × (flat x ≡ Opens Brace ∷ us)
unfolding table
body_opens (Node k x) f = opens_brace _ x (subst (λ j. Fits x (table j)) f.0 f.3)
body_opens _ f = absurd f

block_opens : (x : Tree) → Fits x (ref Block) → (us : List Token) × (flat x ≡ Opens Brace ∷ us)
unfolding table
block_opens (Node k x) f = opens_brace _ x (subst (λ j. Fits x (table j)) f.0 f.3)
block_opens _ f = absurd f

-- const and async
const_fronts : (us : List Token) → Fronts ExprConst (Ident (codes "const") ∷ Opens Brace ∷ us)
unfolding front is_bool is_reserved
const_fronts us p ts = (refl, refl)

pub word_first : (w : String) (cs : List ℕ) (us : List Token) → same_text (codes w) cs ≡ true
    → Ident cs ∷ us ≡ Ident (codes w) ∷ us
word_first w cs us e = ap (λ v. Ident v ∷ us) (sym ((bytes_eq-Decides (codes w) cs).0 e))

const_tokens : (y : Tree) → Fits y (table ExprConst) → Tokens ExprConst y
unfolding table
const_tokens (Pair (AWord cs) b) f =
    let i = body_opens b f.1 in
    record {
      us = Ident (codes "const") ∷ Opens Brace ∷ i.0;
      is = word_first "const" cs (flat b) f.0 ∙ ap (λ vs. Ident (codes "const") ∷ vs) i.1;
      fronts = const_fronts i.0;
    }
const_tokens (Pair _ b) f = absurd f.0
const_tokens _ f = absurd f

async_fronts : (us : List Token) → Fronts ExprAsync (Ident (codes "async") ∷ Opens Brace ∷ us)
unfolding front is_bool is_reserved
async_fronts us p ts = (refl, refl)

move_fronts : (us : List Token) → Fronts ExprAsync (Ident (codes "async") ∷ Ident (codes "move") ∷ Opens Brace ∷ us)
unfolding front is_bool is_reserved
move_fronts us p ts = (refl, refl)

async_tokens : (y : Tree) → Fits y (table ExprAsync) → Tokens ExprAsync y
unfolding table
async_tokens (Pair (AWord cs) (Pair (Second Nil) b)) f =
    let i = block_opens b f.1.1 in
    record {
      us = Ident (codes "async") ∷ Opens Brace ∷ i.0;
      is = word_first "async" cs (flat b) f.0 ∙ ap (λ vs. Ident (codes "async") ∷ vs) i.1;
      fronts = async_fronts i.0;
    }
async_tokens (Pair (AWord cs) (Pair (First (AWord ds)) b)) f =
    let i = block_opens b f.1.1 in
    record {
      us = Ident (codes "async") ∷ Ident (codes "move") ∷ Opens Brace ∷ i.0;
      is = word_first "async" cs (Ident ds ∷ flat b) f.0
          ∙ ap (λ vs. Ident (codes "async") ∷ vs) (word_first "move" ds (flat b) f.1.0.1)
          ∙ ap (λ vs. Ident (codes "async") ∷ Ident (codes "move") ∷ vs) i.1;
      fronts = move_fronts i.0;
    }
async_tokens (Pair (AWord cs) (Pair (First _) b)) f = absurd f.1.0.1
async_tokens (Pair (AWord cs) (Pair (Second _) b)) f = absurd f.1.0.1
async_tokens (Pair (AWord cs) (Pair _ b)) f = absurd f.1.0
async_tokens (Pair (AWord cs) _) f = absurd f.1
async_tokens (Pair _ b) f = absurd f.0
async_tokens _ f = absurd f

-- blocks and loops, with a label or without
block_fronts : (us : List Token) → Fronts ExprBlock (Opens Brace ∷ us)
unfolding front
block_fronts us p ts = (refl, refl)

abbrev colon : List ℕ → List Token → List Token
colon cs us = Punct 39 Joint ∷ Ident cs ∷ Punct 58 Apart ∷ us

labelled_block : (cs : List ℕ) (us : List Token) → Fronts ExprBlock (colon cs (Opens Brace ∷ us))
unfolding front
labelled_block cs us p ts = (refl, refl)

while_fronts : (us : List Token) → Fronts ExprWhile (Ident (codes "while") ∷ us)
unfolding front is_bool is_reserved
while_fronts us p ts = (refl, refl)

labelled_while : (cs : List ℕ) (us : List Token) → Fronts ExprWhile (colon cs (Ident (codes "while") ∷ us))
unfolding front is_bool is_reserved
labelled_while cs us p ts = (refl, refl)

loop_fronts : (us : List Token) → Fronts ExprLoop (Ident (codes "loop") ∷ us)
unfolding front is_bool is_reserved
loop_fronts us p ts = (refl, refl)

labelled_loop : (cs : List ℕ) (us : List Token) → Fronts ExprLoop (colon cs (Ident (codes "loop") ∷ us))
unfolding front is_bool is_reserved
labelled_loop cs us p ts = (refl, refl)

label_tokens : (x : Tree) → Fits x (ref Label) → (cs : List ℕ) × (flat x ≡ colon cs [])
unfolding table
label_tokens (Node k x) f = go x (subst (λ j. Fits x (table j)) f.0 f.3)
  where
    go : (x : Tree) → Fits x (table Label) → (cs : List ℕ) × (flat x ≡ colon cs [])
    go (Pair (ALifetime cs) (AMark c ds i)) f = (
      cs,
      ap (λ d. Punct 39 Joint ∷ Ident cs ∷ marks d ds i) f.1.0
          ∙ ap (λ es. Punct 39 Joint ∷ Ident cs ∷ marks 58 es i) f.1.1
          ∙ ap (λ j. Punct 39 Joint ∷ Ident cs ∷ Punct 58 j ∷ []) (sym f.1.2),
    )
    go (Pair (ALifetime cs) _) f = absurd f.1
    go (Pair _ z) f = absurd f.0
    go _ f = absurd f
label_tokens _ f = absurd f

-- Behind a label, and without one, P stands.
labelled_by : (P : List Token → Type 0) (x : Tree) (us : List Token) → Fits x labelled → P us
    → ((cs : List ℕ) → P (colon cs us)) → P (flat x ++ us)
labelled_by P (First (Called n x)) us f q r =
    let i = label_tokens x f.1.1 in
    subst (λ vs. P (vs ++ us)) (sym i.1) (r i.0)
labelled_by P (First _) us f q r = absurd f.1
labelled_by P (Second Nil) us f q r = q
labelled_by P (Second _) us f q r = absurd f.1
labelled_by P _ us f q r = absurd f

block_tokens : (y : Tree) → Fits y (table ExprBlock) → Tokens ExprBlock y
unfolding table
block_tokens (Pair l b) f =
    let i = body_opens b f.1 in
    record {
      us = flat l ++ Opens Brace ∷ i.0;
      is = ap (λ vs. flat l ++ vs) i.1;
      fronts = labelled_by (Fronts ExprBlock) l (Opens Brace ∷ i.0) f.0 (block_fronts i.0)
          (λ cs. labelled_block cs i.0);
    }
block_tokens _ f = absurd f

word_tokens : (w : String) (k : Kind) (g : Gram) (y : Tree) → Fits y (labelled ▸ keyword w ▸ g)
    → ((us : List Token) → Fronts k (Ident (codes w) ∷ us))
    → ((cs : List ℕ) (us : List Token) → Fronts k (colon cs (Ident (codes w) ∷ us))) → Tokens k y
word_tokens w k g (Pair l (Pair (AWord cs) b)) f h i = record {
  us = flat l ++ Ident (codes w) ∷ flat b;
  is = ap (λ vs. flat l ++ vs) (word_first w cs (flat b) f.1.0);
  fronts = labelled_by (Fronts k) l (Ident (codes w) ∷ flat b) f.0 (h (flat b)) (λ cs. i cs (flat b));
}
word_tokens w k g (Pair l (Pair _ b)) f h i = absurd f.1.0
word_tokens w k g (Pair l _) f h i = absurd f.1
word_tokens w k g _ f h i = absurd f

loop_tokens : (y : Tree) → Fits y (table ExprLoop) → Tokens ExprLoop y
unfolding table
loop_tokens y f = word_tokens "loop" ExprLoop _ y f loop_fronts labelled_loop

while_tokens : (y : Tree) → Fits y (table ExprWhile) → Tokens ExprWhile y
unfolding table
while_tokens y f = word_tokens "while" ExprWhile _ y f while_fronts labelled_while

-- behind for no lifetimes of a closure begin
for_fronts : (us : List Token) → NoClosure us → (p : Position)
    → (front p (Ident (codes "for") ∷ us) ≡ Some ExprForLoop) × (sees no_operand (Ident (codes "for") ∷ us) ≡ false)
unfolding front is_bool is_reserved
for_fronts us e p = go ((a_mark "<" then (a_lifetime or a_mark ">")) us) refl e
  where
    go : (o : Option (List Token)) → (a_mark "<" then (a_lifetime or a_mark ">")) us ≡ o → seen o ≡ false
        → (front p (Ident (codes "for") ∷ us) ≡ Some ExprForLoop) × (sees no_operand (Ident (codes "for") ∷ us) ≡ false)
    go None i e = (rw i refl, refl)
    go (Some vs) i e = cc e

labelled_for : (cs : List ℕ) (us : List Token) → Fronts ExprForLoop (colon cs (Ident (codes "for") ∷ us))
unfolding front is_bool is_reserved
labelled_for cs us p ts = (refl, refl)

for_tokens : (y : Tree) → Fits y (table ExprForLoop) → Derives y (table ExprForLoop) [] → Tokens ExprForLoop y
unfolding table
for_tokens (Pair l (Pair (AWord cs) (Pair q z))) f d = record {
  us = flat l ++ Ident (codes "for") ∷ (flat q ++ flat z);
  is = ap (λ vs. flat l ++ vs) (word_first "for" cs (flat q ++ flat z) f.1.0);
  fronts = labelled_by (Fronts ExprForLoop) l (Ident (codes "for") ∷ (flat q ++ flat z)) f.0
      (λ p ts. for_fronts ((flat q ++ flat z) ++ ts)
      (subst NoClosure (sym (append_assoc (flat q) (flat z) ts)) (pattern_leads q _ d.1.1.0 (flat z ++ ts))) p)
      (λ cs. labelled_for cs (flat q ++ flat z));
}
for_tokens (Pair l (Pair (AWord cs) _)) f d = absurd f.1.1
for_tokens (Pair l (Pair _ b)) f d = absurd f.1.0
for_tokens (Pair l _) f d = absurd f.1
for_tokens _ f d = absurd f

-- A repeat has a semicolon in its brackets, and an array has none.
abbrev chosen : Bool → Option Kind
chosen b = cond b (Some ExprRepeat) (Some ExprArray)

bracket_front : (b : Bool) (p : Position) (us : List Token) → seen (past_semicolon us) ≡ b
    → front p (Opens Bracket ∷ us) ≡ chosen b
unfolding front
bracket_front b Plain us e = ap chosen e
bracket_front b InCondition us e = ap chosen e
bracket_front b InArm us e = ap chosen e
bracket_front b InStatement us e = ap chosen e

inside_brackets : (us ts : List Token) → ((vs : List Token) → past_semicolon (us ++ vs) ≡ past_semicolon vs)
    → past_semicolon ((us ++ Closes Bracket ∷ []) ++ ts) ≡ None
inside_brackets us ts h =
    ap past_semicolon (append_assoc us (Closes Bracket ∷ []) ts) ∙ h (Closes Bracket ∷ ts)

array_tokens : (y : Tree) → Fits y (table ExprArray) → Derives y (table ExprArray) [] → Tokens ExprArray y
unfolding table
array_tokens (Group e x) f d = record {
  us = Opens Bracket ∷ flat x ++ Closes Bracket ∷ [];
  is = ap (λ c. Opens c ∷ flat x ++ Closes c ∷ []) f.0;
  fronts = λ p ts. (
    bracket_front false p ((flat x ++ Closes Bracket ∷ []) ++ ts)
        (ap seen (inside_brackets (flat x) ts (λ vs. quiet x expressions [] d.1 refl vs))),
    refl,
  );
}
array_tokens _ f d = absurd f

split_seen : (c : ℕ) (cs : List ℕ) (i : Spacing) (us ts : List Token) → c ≡ 59 → cs ≡ []
    → seen (past_semicolon ((marks c cs i ++ us) ++ ts)) ≡ true
split_seen c cs i us ts e f =
    ap (λ d. seen (past_semicolon ((marks d cs i ++ us) ++ ts))) e
    ∙ ap (λ ds. seen (past_semicolon ((marks 59 ds i ++ us) ++ ts))) f

repeat_tokens : (y : Tree) → Fits y (table ExprRepeat) → Derives y (table ExprRepeat) [] → Tokens ExprRepeat y
unfolding table
repeat_tokens (Group e (Pair a (Pair (AMark c cs i) n))) f d = record {
  us = Opens Bracket ∷ (flat a ++ (marks c cs i ++ flat n)) ++ Closes Bracket ∷ [];
  is = ap (λ g. Opens g ∷ (flat a ++ (marks c cs i ++ flat n)) ++ Closes g ∷ []) f.0;
  fronts = λ p ts. (
    bracket_front true p (((flat a ++ (marks c cs i ++ flat n)) ++ Closes Bracket ∷ []) ++ ts)
        (ap (λ us. seen (past_semicolon us))
        (append_assoc (flat a ++ (marks c cs i ++ flat n)) (Closes Bracket ∷ []) ts
        ∙ append_assoc (flat a) (marks c cs i ++ flat n) (Closes Bracket ∷ ts))
        ∙ ap seen (quiet a (ref (Expression Plain)) _ d.1.0 refl ((marks c cs i ++ flat n) ++ Closes Bracket ∷ ts))
        ∙ split_seen c cs i (flat n) (Closes Bracket ∷ ts) f.1.1.0.0 f.1.1.0.1),
    refl,
  );
}
repeat_tokens (Group e (Pair a (Pair _ n))) f d = absurd f.1.1.0
repeat_tokens (Group e (Pair a _)) f d = absurd f.1.1
repeat_tokens (Group e _) f d = absurd f.1
repeat_tokens _ f d = absurd f

-- So each of these is read wherever its form may stand.
abbrev pub is_block : Kind → Bool
is_block ExprArray = true
is_block ExprRepeat = true
is_block ExprBlock = true
is_block ExprAsync = true
is_block ExprConst = true
is_block ExprLoop = true
is_block ExprWhile = true
is_block ExprForLoop = true
is_block k = false

pub block_part : (M : List Token → Type 0) (k : Kind) (y : Tree) → is_block k ≡ true → Fits y (table k) → OwnReady k y
    → flat (normal (kept y)) ≡ flat y → IsFront M k y
block_part M ExprArray y e f w h = front_of M ExprArray y (λ ts. tt) w h (array_tokens y f (w [] tt).0)
block_part M ExprRepeat y e f w h = front_of M ExprRepeat y (λ ts. tt) w h (repeat_tokens y f (w [] tt).0)
block_part M ExprBlock y e f w h = front_of M ExprBlock y (λ ts. tt) w h (block_tokens y f)
block_part M ExprAsync y e f w h = front_of M ExprAsync y (λ ts. tt) w h (async_tokens y f)
block_part M ExprConst y e f w h = front_of M ExprConst y (λ ts. tt) w h (const_tokens y f)
block_part M ExprLoop y e f w h = front_of M ExprLoop y (λ ts. tt) w h (loop_tokens y f)
block_part M ExprWhile y e f w h = front_of M ExprWhile y (λ ts. tt) w h (while_tokens y f)
block_part M ExprForLoop y e f w h = front_of M ExprForLoop y (λ ts. tt) w h (for_tokens y f (w [] tt).0)
block_part M _ y e f w h = absurd (false≢true e)
