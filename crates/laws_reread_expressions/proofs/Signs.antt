-- Own parts that are a punctuation: they are read whatever stands behind them.
use Rattle.std.proofs.Common.{◌≡◌, ℕ, List, [], ◌∷◌, ◌++◌, refl, sym, ap, ◌∙◌, subst}
use Rattle.std.specs.Prelude.{Bool, true, false, cond, ◌==◌, Option, Some, None}
use Rattle.proc_macro2.specs.Token.{Token, Punct}
use Rattle.rust_leaf.specs.declared.punct.Spacing.{Spacing}
use Rattle.rust_leaf.specs.declared.punct.Spacing.TheVariants.{Alone as Apart, Joint}
use Rattle.syn_grammar.specs.Tree.{Tree, AMark, Nil, First, Second, marks, flat}
use Rattle.syn_grammar.specs.Gram.{mark, never}
use Rattle.syn_grammar.specs.Look.{seen, sees, past_marks, the_mark}
use Rattle.syn_grammar.specs.Say.{one_sign}
use Rattle.syn_grammar.specs.Derives.{Derives}
use Rattle.syn_grammar.specs.Kept.{kept}
use Rattle.syn_grammar.specs.Normal.{normal}

-- its tokens are those of the normal form of what is held of it
abbrev pub Held : Tree → Type 0
Held y = flat (normal (kept y)) ≡ flat y

-- so its last mark stands apart
one_apart : (c : ℕ) (i : Spacing) → Punct c Apart ∷ [] ≡ Punct c i ∷ [] → i ≡ Apart
one_apart c i e = cc

tail_same : (t u : Token) (ts us : List Token) → t ∷ ts ≡ u ∷ us → ts ≡ us
tail_same t u ts us e = cc

apart_is : (c : ℕ) (cs : List ℕ) (i : Spacing) → marks c cs Apart ≡ marks c cs i → i ≡ Apart
apart_is c [] i e = one_apart c i e
apart_is c (d ∷ ds) i e =
    apart_is d ds i (tail_same (Punct c Joint) (Punct c Joint) (marks d ds Apart) (marks d ds i) e)

pub sign_is : (c : ℕ) (cs : List ℕ) (y : Tree) (r : List Token) → Derives y (mark c cs) r → Held y
    → y ≡ AMark c cs Apart
sign_is c cs (AMark d ds i) r e h =
    ap (λ n. AMark n ds i) e.0 ∙ ap (λ ns. AMark c ns i) e.1 ∙ ap (AMark c cs) (apart_is d ds i h)
sign_is c cs _ r e h = elim e [ ]

pub mark_before : (c : ℕ) (cs : List ℕ) (y : Tree) (r s : List Token) → Derives y (mark c cs) r
    → Derives y (mark c cs) s
mark_before c cs (AMark d ds i) r s e = e
mark_before c cs _ r s e = elim e [ ]

pub is_never : (y : Tree) (r : List Token) → Derives y never r → ⊥
is_never Nil r d = elim d [ ]
is_never _ r d = elim d [ ]

-- a test for marks looks at no more than them
cond_seen : (b : Bool) (r s : List Token) → seen (cond b (Some r) None) ≡ seen (cond b (Some s) None)
cond_seen true r s = refl
cond_seen false r s = refl

cond_look : (b : Bool) (o p : Option (List Token)) → seen o ≡ seen p → seen (cond b o None) ≡ seen (cond b p None)
cond_look true o p e = e
cond_look false o p e = refl

past_same : (c : ℕ) (cs : List ℕ) (d : ℕ) (ds : List ℕ) (r s : List Token)
    → sees (past_marks c cs) (marks d ds Apart ++ r) ≡ sees (past_marks c cs) (marks d ds Apart ++ s)
past_same c [] d [] r s = cond_seen (d == c) r s
past_same c [] d (f ∷ fs) r s = cond_seen (d == c) (marks f fs Apart ++ r) (marks f fs Apart ++ s)
past_same c (e ∷ es) d [] r s = refl
past_same c (e ∷ es) d (f ∷ fs) r s =
    cond_look (d == c) (past_marks e es (marks f fs Apart ++ r)) (past_marks e es (marks f fs Apart ++ s))
    (past_same e es f fs r s)

-- one of these punctuations
record IsMarks (ts : List Token) : Type 0 where
  first : ℕ
  others : List ℕ
  are : ts ≡ marks first others Apart

are_marks : (texts : List (List ℕ)) (y : Tree) (r : List Token) → Derives y (one_sign texts) r → Held y
    → IsMarks (flat y)
are_marks [] y r d h = absurd (is_never y r d)
are_marks ([] ∷ texts) (First x) r d h = absurd (is_never x r d.1)
are_marks ((c ∷ cs) ∷ texts) (First x) r d h =
    record { first = c; others = cs; are = ap flat (sign_is c cs x r d.1 h) }
are_marks (text ∷ texts) (Second x) r d h = are_marks texts x r d.1 h
are_marks (text ∷ texts) _ r d h = elim d [ ]

look_same : (text : List ℕ) (ts r s : List Token) → IsMarks ts → sees (the_mark text) (ts ++ r)
    ≡ sees (the_mark text) (ts ++ s)
look_same [] ts r s m = refl
look_same (c ∷ cs) ts r s m =
    subst (λ us. sees (past_marks c cs) (us ++ r) ≡ sees (past_marks c cs) (us ++ s)) (sym m.are)
    (past_same c cs m.first m.others r s)

pub signs_before : (texts : List (List ℕ)) (y : Tree) (r s : List Token) → Derives y (one_sign texts) r → Held y
    → Derives y (one_sign texts) s
signs_before [] y r s d h = absurd (is_never y r d)
signs_before ([] ∷ texts) (First x) r s d h = absurd (is_never x r d.1)
signs_before ((c ∷ cs) ∷ texts) (First x) r s d h = (
  look_same (c ∷ cs) (flat x) s r (record { first = c; others = cs; are = ap flat (sign_is c cs x r d.1 h) }) ∙ d.0,
  mark_before c cs x r s d.1,
)
signs_before (text ∷ texts) (Second x) r s d h = (
  look_same text (flat x) s r (are_marks texts x r d.1 h) ∙ d.0,
  signs_before texts x r s d.1 h,
)
signs_before (text ∷ texts) _ r s d h = elim d [ ]

-- what holds of each of these punctuations holds of it
abbrev pub Each : (List Token → Type 0) → List (List ℕ) → Type 0
Each P [] = Unit {0}
Each P ([] ∷ texts) = Each P texts
Each P ((c ∷ cs) ∷ texts) = P (marks c cs Apart) × Each P texts

pub each_sign : (P : List Token → Type 0) (texts : List (List ℕ)) (y : Tree) (r : List Token)
    → Derives y (one_sign texts) r → Held y → Each P texts → P (flat y)
each_sign P [] y r d h e = absurd (is_never y r d)
each_sign P ([] ∷ texts) (First x) r d h e = absurd (is_never x r d.1)
each_sign P ((c ∷ cs) ∷ texts) (First x) r d h e = subst P (sym (ap flat (sign_is c cs x r d.1 h))) e.0
each_sign P ([] ∷ texts) (Second x) r d h e = each_sign P texts x r d.1 h e
each_sign P ((c ∷ cs) ∷ texts) (Second x) r d h e = each_sign P texts x r d.1 h e.1
each_sign P (text ∷ texts) _ r d h e = elim d [ ]
