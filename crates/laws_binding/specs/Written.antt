-- One who writes an expression in one pass, and keeps of each operand that is written its tokens and ten facts.
use Rattle.std.specs.Prelude.{ℕ, Bool, true, false, not, cond, ◌&&◌, ◌||◌, nat_le, nat_lt, nat_eq, min, List, []}
use Rattle.std.specs.Prelude.{◌∷◌, ◌++◌}
use Rattle.proc_macro2.specs.Token.{Token, Opens, Closes}
use Rattle.proc_macro2.specs.declared.delimiter.Delimiter.TheVariants.{Parenthesis}
use Rattle.syn_grammar.specs.Kind.{Kind, Position, InArm, InStatement, ExprAttributed, ExprStruct, ExprCall}
use Rattle.syn_grammar.specs.Kind.{ExprField, ExprCast}
use Rattle.syn_grammar.specs.Name.{the_name}
use Rattle.syn_grammar.specs.Part.{has}
use Rattle.syn_grammar.specs.Tree.{Tree, Alone, Front, Back, Infix, flat}
use Rattle.syn_grammar.specs.Look.{sees, ◌then◌, no}
use Rattle.syn_grammar.specs.Say.{marks}
use Rattle.syn_grammar.specs.Forms.{has_right, level, inside, kind_of, is_range, takes_postfix, is_path_form}
use Rattle.syn_grammar.specs.Forms.{is_block_like, is_brace_macro, is_dotted}
use Rattle.syn_grammar.specs.Parens.{may_lack, takes_what_follows, is_label, ends_in_name, is_struct, begins_in}
use Rattle.syn_grammar.specs.Parens.{stands_in, follow}
use Rattle.syn_grammar.specs.Normal.{normal}
use Rattle.syn_grammar.specs.Shape.{lowest, least, cap, is_open}

-- What it ends with, if a left operand stands before that: a cast, and whether its type ends in a name, or a field
-- with a name.
pub data Last : Type 0 where
  other : Last
  a_cast : (named : Bool) → Last
  a_named_field : Last

abbrev pub last_of : Kind → Tree → Last
last_of ExprCast y = a_cast (ends_in_name (flat y))
last_of ExprField y = cond (has the_name y) a_named_field other
last_of k y = other

abbrev pub last : Tree → Last
last (Front k y x) = last x
last (Back l k y) = last_of k y
last (Infix l k y r) = last r
last x = other

-- What is kept.
pub record Written : Type 0 where
  pub tokens : List Token
  -- whether it is a range; takes a postfix form; is a path; ends a statement or an arm, by its kind or as a macro with
  -- braces; is a comparison
  pub range : Bool
  pub postfix : Bool
  pub path : Bool
  pub block : Bool
  pub macro : Bool
  pub compares : Bool
  -- the loosest level on the left edge; from which level on no infix form follows; whether no postfix form does; its
  -- end
  pub least : ℕ
  pub cap : ℕ
  pub opened : Bool
  pub last : Last

abbrev pub wrote : Tree → Written
wrote x = record {
  tokens = flat x;
  range = is_range x;
  postfix = takes_postfix x;
  path = is_path_form x;
  block = is_block_like x;
  macro = is_brace_macro x;
  compares = nat_eq (level (kind_of x)) 7;
  least = least x;
  cap = cap x;
  opened = is_open x;
  last = last x;
}

-- Of a form, from what is kept of its operands: in parentheses,
abbrev pub paren_of : Written → Written
paren_of w = record {
  tokens = Opens Parenthesis ∷ w.tokens ++ Closes Parenthesis ∷ [];
  range = false;
  postfix = true;
  path = false;
  block = false;
  macro = false;
  compares = false;
  least = 17;
  cap = 17;
  opened = false;
  last = other;
}

abbrev pub paren_unless : Bool → Written → Written
paren_unless stays w = cond stays w (paren_of w)

-- with an operand behind it; attributes leave what they stand before a range, or a form that ends there,
abbrev pub behind_attributes : Kind → Bool → Bool → Bool
behind_attributes ExprAttributed b c = b
behind_attributes k b c = c

abbrev pub takes_at : ℕ → Bool
takes_at n = nat_eq n 16 || nat_eq n 1

abbrev pub front_of : Kind → Tree → Written → Written
front_of k y w = record {
  tokens = flat y ++ w.tokens;
  range = behind_attributes k w.range (nat_eq (level k) 3);
  postfix = takes_at (level k);
  path = false;
  block = behind_attributes k w.block false;
  macro = behind_attributes k w.macro false;
  compares = nat_eq (level k) 7;
  least = 17;
  cap = min (cond w.range 17 (lowest (level k))) w.cap;
  opened = (nat_lt (level k) 16 && w.postfix) || w.opened;
  last = w.last;
}

-- with one before it,
abbrev pub back_of : Written → Kind → Tree → Written
back_of v k y = record {
  tokens = v.tokens ++ flat y;
  range = nat_eq (level k) 3;
  postfix = takes_at (level k);
  path = false;
  block = false;
  macro = false;
  compares = nat_eq (level k) 7;
  least = min (level k) v.least;
  cap = 17;
  opened = false;
  last = last_of k y;
}

-- with both.
abbrev pub infix_of : Written → Kind → Tree → Written → Written
infix_of v k y w = record {
  tokens = v.tokens ++ (flat y ++ w.tokens);
  range = nat_eq (level k) 3;
  postfix = takes_at (level k);
  path = false;
  block = false;
  macro = false;
  compares = nat_eq (level k) 7;
  least = min (level k) v.least;
  cap = min (cond w.range 17 (lowest (level k))) w.cap;
  opened = (nat_lt (level k) 16 && w.postfix) || w.opened;
  last = w.last;
}

-- An operand that was written stays as it is behind a form,
abbrev pub may_right : Position → Kind → Tree → Written → Bool
may_right p k y w =
    nat_le (lowest (level k)) w.least
    && ((not (may_lack k) || (has_right p k w.tokens && not (is_label k y w.tokens)))
    && not (behind_attributes k w.range false))

-- and before one:
abbrev pub fits_left : Kind → Written → Bool
fits_left ExprStruct w = w.path
fits_left k w = cond (nat_eq (level k) 16) w.postfix (not w.range)

abbrev pub ends_in : Position → Written → Bool
ends_in InArm w = w.block
ends_in InStatement w = w.block || w.macro
ends_in p w = false

abbrev pub may_end : Kind → List Token → Last → Bool
may_end k ts (a_cast named) = not (nat_eq (level k) 16 || (named && sees (no (marks "<=") then marks "<") ts))
may_end ExprCall ts a_named_field = false
may_end k ts l = true

abbrev pub is_over : Kind → List Token → Written → Bool
is_over k ts w =
    cond (nat_eq (level k) 16) (not w.opened) (nat_lt (level k) w.cap) && may_end k ts w.last

abbrev pub may_left : Position → Kind → Tree → Written → Bool
may_left p k y w =
    is_struct k
    || ((fits_left k w && (not (ends_in p w) || is_dotted k))
    && (not (nat_eq (level k) 7 && w.compares) && is_over k (flat y) w))

-- The form of a position, before what follows.
abbrev pub write : Position → List Token → Tree → Written
write p ts (Alone k y) = paren_unless (not (takes_what_follows p k ts)) (wrote (Alone k (normal y)))
write p ts (Front k y x) =
    let w : Written = write (inside p k) ts x in
    paren_unless (begins_in p k) (front_of k (normal y) (paren_unless (may_right p k (normal y) w) w))
write p ts (Back l k y) =
    let v : Written = write p (follow (flat (normal y))) l in
    paren_unless (stands_in p k && not (takes_what_follows p k ts))
    (back_of (paren_unless (may_left p k (normal y) v) v) k (normal y))
write p ts (Infix l k y r) =
    let v : Written = write p (follow (flat (normal y))) l in
    let w : Written = write (inside p k) ts r in
    infix_of (paren_unless (may_left p k (normal y) v) v) k (normal y) (paren_unless (may_right p k (normal y) w) w)
write p ts x = wrote x
