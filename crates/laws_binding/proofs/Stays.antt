-- Each operand of an expression that was read stays as it stands.
use Rattle.std.proofs.Common.{◌≡◌, ℕ, List, [], ◌∷◌, ◌++◌, refl, sym, ap, ◌∙◌, subst, inl, inr}
use Rattle.std.specs.Prelude.{Bool, true, false, not, ◌&&◌, ◌||◌, ◌⊎◌, cond, Option, Some, None, codes}
use Rattle.std.proofs.lemmas.Bool.{false≢true}
use Rattle.proc_macro2.specs.Token.{Token, Opens, Ident}
use Rattle.proc_macro2.specs.declared.delimiter.Delimiter.{Delimiter}
use Rattle.proc_macro2.specs.Groups.{same_delimiter}
use Rattle.proc_macro2.specs.declared.delimiter.Delimiter.TheVariants.{Brace}
use Rattle.syn_grammar.specs.Kind.{Kind, Position, Plain, InCondition, InArm, InStatement, ExprPath, ExprAttributed}
use Rattle.syn_grammar.specs.Kind.{ExprBreak, ExprReturn, ExprYield, ExprRange}
use Rattle.syn_grammar.specs.Name.{the_label, same_part}
use Rattle.syn_grammar.specs.Words.{any_text}
use Rattle.rust_leaf.specs.Keywords.{same_text}
use Rattle.syn_grammar.specs.Tree.{Tree, AWord, Nil, Pair, First, Second, Called, Alone, Front, Back, Infix, flat}
use Rattle.syn_grammar.specs.Gram.{Gram, word, lifetime, never, nothing, seq, alt, called}
use Rattle.syn_grammar.specs.Look.{seen, sees, behind, first_seen, a_word, a_lifetime}
use Rattle.syn_grammar.specs.Say.{marks, brace}
use Rattle.syn_grammar.specs.Table.{table}
use Rattle.syn_grammar.specs.Derives.{Derives, Bound}
use Rattle.syn_grammar.specs.Kept.{kept}
use Rattle.syn_grammar.specs.Normal.{stands_behind, normal, formed}
use Rattle.syn_grammar.specs.Forms.{has_right, level, inside, is_path_form, within, operand_stands, range_ends}
use Rattle.syn_grammar.specs.Forms.{brace_ends, struct_stands}
use Rattle.syn_grammar.specs.Parens.{parens_unless, may_lack, takes_braces, takes_what_follows, is_label}
use Rattle.syn_grammar.specs.Parens.{is_attributed_range, stays_right, stays_left, begins_in, stands_in, follow}
use Rattle.syn_grammar.specs.Parens.{with_right, with_left, front_form, back_form, infix_form}
use Rattle.laws_binding.specs.Bare.{bare}
use Rattle.laws_binding.proofs.Leads.{is_nil}
use Rattle.laws_binding.proofs.Begun.{Begun, a_word as begun_word, a_literal, an_opening}
use Rattle.laws_binding.proofs.Begun.{a_lifetime as begun_lifetime, colons}
use Rattle.laws_binding.proofs.Turns.{Begins, Facts}
use Rattle.laws_binding.proofs.Sights.{is_back, both}
use Rattle.laws_binding.proofs.Same.{range_same, within_same, all_begun}

-- no operand is put in parentheses
abbrev pub Stays : Position → List Token → Tree → Type 0
Stays p ts (Alone k y) = takes_what_follows p k ts ≡ false
Stays p ts (Front k y x) = (begins_in p k ≡ true) × (stays_right p k y x ≡ true) × Stays (inside p k) ts x
Stays p ts (Back l k y) =
    (stands_in p k ≡ true) × (takes_what_follows p k ts ≡ false) × (stays_left p k y l ≡ true) × Stays p
    (follow (flat y)) l
Stays p ts (Infix l k y r) =
    (stays_left p k y l ≡ true) × Stays p (follow (flat y)) l × (stays_right p k y r ≡ true) × Stays (inside p k) ts r
Stays p ts x = Unit {0}

pub stays_bare : (x : Tree) (p : Position) (ts : List Token) → Stays p ts (bare x) → formed p ts x ≡ bare x
stays_bare (Alone k y) p ts s = ap (λ b. parens_unless (not b) (Alone k (normal y))) s
stays_bare (Front k y x) p ts s =
    ap (front_form p k (normal y)) (stays_bare x (inside p k) ts s.2)
    ∙ ap (λ b. parens_unless b (Front k (normal y) (with_right p k (normal y) (bare x)))) s.0
    ∙ ap (λ b. Front k (normal y) (parens_unless b (bare x))) s.1
stays_bare (Back l k y) p ts s =
    ap (λ z. back_form p ts z k (normal y)) (stays_bare l p (follow (flat (normal y))) s.3)
    ∙ ap (λ b. parens_unless (b && not (takes_what_follows p k ts))
    (Back (with_left p k (normal y) (bare l)) k (normal y))) s.0
    ∙ ap (λ b. parens_unless (not b) (Back (with_left p k (normal y) (bare l)) k (normal y))) s.1
    ∙ ap (λ b. Back (parens_unless b (bare l)) k (normal y)) s.2
stays_bare (Infix l k y r) p ts s =
    ap (λ z. infix_form p z k (normal y) (formed (inside p k) ts r)) (stays_bare l p (follow (flat (normal y))) s.1)
    ∙ ap (infix_form p (bare l) k (normal y)) (stays_bare r (inside p k) ts s.3)
    ∙ ap (λ b. Infix (parens_unless b (bare l)) k (normal y) (with_right p k (normal y) (bare r))) s.0
    ∙ ap (λ b. Infix (bare l) k (normal y) (parens_unless b (bare r))) s.2
stays_bare _ p ts s = refl

-- whether a form has an operand behind it
none_seen : (o : Option (List Token)) → seen o ≡ false → o ≡ None
none_seen None e = refl
none_seen (Some ts) e = cc

first_none : (o : Option (List Token)) → first_seen o None ≡ o
first_none None = refl
first_none (Some ts) = refl

pub brace_none : (q : Position) (ts : List Token) → sees brace ts ≡ false → brace_ends q ts ≡ None
brace_none Plain ts e = refl
brace_none InCondition ts e = none_seen (brace ts) e
brace_none InArm ts e = refl
brace_none InStatement ts e = refl

not_not : (b : Bool) → not (not b) ≡ b
not_not true = refl
not_not false = refl

pub facts_right : (b : Bool) (ts : List Token) → Begins b ts → (q : Position) (k : Kind) → may_lack k ≡ true
    → has_right q k ts ≡ b
unfolding may_lack has_right
facts_right b ts f q ExprBreak m =
    ap (λ o. seen (behind (cond (seen o) None (Some ts)) operand_stands)) (brace_none q ts f.no_brace) ∙ f.operand
facts_right b ts f q ExprReturn m = f.operand
facts_right b ts f q ExprYield m = f.operand
facts_right b ts f q ExprRange m =
    ap (λ o. not (seen (first_seen (range_ends ts) o))) (brace_none q ts f.no_brace) ∙ ap (λ o. not (seen o))
    (first_none (range_ends ts))
    ∙ ap not f.range ∙ not_not b
facts_right b ts f q _ m = absurd (false≢true m)

cond_seen : (b : Bool) (r s : List Token) → seen (cond b (Some r) None) ≡ seen (cond b (Some s) None)
cond_seen true r s = refl
cond_seen false r s = refl

opening_ends : (q : Position) (d : Delimiter) (r s : List Token) → seen (brace_ends q (Opens d ∷ r))
    ≡ seen (brace_ends q (Opens d ∷ s))
opening_ends Plain d r s = refl
opening_ends InCondition d r s = cond_seen (same_delimiter d Brace) r s
opening_ends InArm d r s = refl
opening_ends InStatement d r s = refl

opening_break : (b : Bool) (d : Delimiter) (r s : List Token)
    → seen (behind (cond b None (Some (Opens d ∷ r))) operand_stands)
    ≡ seen (behind (cond b None (Some (Opens d ∷ s))) operand_stands)
opening_break true d r s = refl
opening_break false d r s = refl

pub opening_right : (d : Delimiter) (q : Position) (k : Kind) (r s : List Token) → may_lack k ≡ true
    → has_right q k (Opens d ∷ r) ≡ has_right q k (Opens d ∷ s)
unfolding may_lack has_right
opening_right d q ExprBreak r s m =
    ap (λ b. seen (behind (cond b None (Some (Opens d ∷ r))) operand_stands)) (opening_ends q d r s)
    ∙ opening_break (seen (brace_ends q (Opens d ∷ s))) d r s
opening_right d q ExprReturn r s m = refl
opening_right d q ExprYield r s m = refl
opening_right d q ExprRange r s m = ap not (opening_ends q d r s)
opening_right d q _ r s m = absurd (false≢true m)

word_begins : (cs : List ℕ) (s : List Token) → same_text (codes "as") cs ≡ false → Begins true (Ident cs ∷ s)
word_begins cs s e = record {
  operand = ap (λ b. seen (first_seen
      (behind (cond (seen (cond b (Some s) None)) None (Some (Ident cs ∷ s))) (a_word any_text)) None)) e;
  range = ap (λ b. seen (first_seen (cond b (Some s) None) None)) e;
  no_brace = refl;
}

pub begun_right : (ts us : List Token) → Begun ts us → (q : Position) (k : Kind) → may_lack k ≡ true → has_right q k ts
    ≡ true → has_right q k us ≡ true
begun_right _ us (begun_word cs e) q k m h = facts_right true us (word_begins cs _ e) q k m
begun_right _ us (an_opening {r = r} {s = s} d) q k m h = sym (opening_right d q k r s m) ∙ h
begun_right _ us (a_literal cs) q k m h =
    facts_right true us (record { operand = refl; range = refl; no_brace = refl }) q k m
begun_right _ us _ q k m h = facts_right true us (record { operand = refl; range = refl; no_brace = refl }) q k m

-- a lifetime behind break
pub no_colon : (ts us : List Token) → Begun ts us → sees (marks ":") ts ≡ false → sees (marks ":") us ≡ false
no_colon _ _ (colons i j) e = cc
no_colon _ _ (a_literal cs) e = refl
no_colon _ _ _ e = refl

pub no_lifetime : (ts us : List Token) → Begun ts us → sees a_lifetime ts ≡ false → sees a_lifetime us ≡ false
no_lifetime _ _ (begun_lifetime cs) e = cc
no_lifetime _ _ (a_literal cs) e = refl
no_lifetime _ _ _ e = refl

is_never : (z : Tree) (r : List Token) → Derives z never r → ⊥
is_never Nil r d = elim d [ ]
is_never _ r d = elim d [ ]

abbrev break_entry : (List ℕ → Bool) → Gram
break_entry p = seq (word p)
    (alt (sees a_lifetime) (seq (called the_label lifetime) (alt (sees (marks ":")) never nothing)) nothing)

label_break : (p : List ℕ → Bool) (y : Tree) (r us : List Token) → Derives y (break_entry p) r → Begun r us
    → is_label ExprBreak (normal (kept y)) us ≡ false
unfolding same_part
label_break p (Pair (AWord cs) (Second v)) r us d b =
    subst (λ v. is_label ExprBreak (normal (kept (Pair (AWord cs) (Second v)))) us ≡ false) (sym (is_nil v r d.1.1))
    (no_lifetime r us b (subst (λ v. sees a_lifetime (flat v ++ r) ≡ false) (is_nil v r d.1.1) d.1.0))
label_break p (Pair (AWord cs) (First (Pair (Called n x) (Second v)))) r us d b =
    subst (λ m. is_label ExprBreak (normal (kept (Pair (AWord cs) (First (Pair (Called m x) (Second v)))))) us ≡ false)
    (sym d.1.1.0.0)
    (no_colon r us b (subst (λ v. sees (marks ":") (flat v ++ r) ≡ false) (is_nil v r d.1.1.1.1) d.1.1.1.0))
label_break p (Pair (AWord cs) (First (Pair (Called n x) (First v)))) r us d b = absurd (is_never v r d.1.1.1.1)
label_break p (Pair (AWord cs) (First (Pair (Called n x) _))) r us d b = elim d.1.1.1 [ ]
label_break p (Pair (AWord cs) (First (Pair _ z))) r us d b = elim d.1.1.0 [ ]
label_break p (Pair (AWord cs) (First _)) r us d b = elim d.1.1 [ ]
label_break p (Pair (AWord cs) _) r us d b = elim d.1 [ ]
label_break p (Pair _ z) r us d b = elim d.0 [ ]
label_break p _ r us d b = elim d [ ]

label_off : (k : Kind) (y : Tree) (r us : List Token) → Derives y (table k) r → Begun r us
    → is_label k (normal (kept y)) us ≡ false
unfolding table
label_off ExprBreak y r us d b = label_break _ y r us d b
label_off _ y r us d b = refl

-- what stands behind, as it was read and as it is
pub record Behind (rest ts : List Token) : Type 0 where
  pub lacks : (q : Position) (k : Kind) → may_lack k ≡ true → has_right q k rest ≡ false → has_right q k ts ≡ false
  pub braces : sees brace ts ≡ true → sees brace rest ≡ true

pub behind_end : (ts us : List Token) → Begins false us → Behind ts us
behind_end ts us f = record {
  lacks = λ q k m h. facts_right false us f q k m;
  braces = λ e. absurd (both _ e f.no_brace);
}

behind_start : (ts us : List Token) → Begins true ts → sees brace us ≡ false → Behind ts us
behind_start ts us f n = record {
  lacks = λ q k m h. absurd (both _ (facts_right true ts f q k m) h);
  braces = λ e. absurd (both _ e n);
}

behind_facts : (ts us : List Token) → Begins false us ⊎ Begins true ts → sees brace us ≡ false → Behind ts us
behind_facts ts us (inl f) n = behind_end ts us f
behind_facts ts us (inr f) n = behind_start ts us f n

pub behind_turn : (ts us : List Token) → Facts ts us → Behind ts (follow us)
behind_turn ts us f = subst (Behind ts) (sym (ap (λ b. cond b [] us) f.no_brace))
    (behind_facts ts us f.begins f.no_brace)

behind_nothing : (ts : List Token) → Behind ts []
behind_nothing ts = behind_end ts [] (record { operand = refl; range = refl; no_brace = refl })

behind_brace : (rest : List Token) → sees brace rest ≡ true → Behind rest (Opens Brace ∷ [])
behind_brace (Opens Brace ∷ r) e = record {
  lacks = λ q k m h. opening_right Brace q k [] r m ∙ h;
  braces = λ f. e;
}
behind_brace (Opens _ ∷ r) e = cc
behind_brace [] e = cc
behind_brace (_ ∷ r) e = cc

pub behind_whole : (p : Position) (rest : List Token) → (p ≡ InCondition → sees brace rest ≡ true)
    → Behind rest (stands_behind p)
unfolding stands_behind
behind_whole Plain rest h = behind_nothing rest
behind_whole InCondition rest h = behind_brace rest (h refl)
behind_whole InArm rest h = behind_nothing rest
behind_whole InStatement rest h = behind_nothing rest

pub whole_path : (p : Position) → sees (struct_stands p) (stands_behind p) ≡ false
unfolding stands_behind
whole_path Plain = refl
whole_path InCondition = refl
whole_path InArm = refl
whole_path InStatement = refl

-- behind a left operand no brace is seen
pub follow_plain : (us : List Token) → sees brace (follow us) ≡ false
follow_plain us = go (sees brace us) refl
  where
    go : (b : Bool) → sees brace us ≡ b → sees brace (cond b [] us) ≡ false
    go true e = refl
    go false e = e

pub path_plain : (p : Position) (ts : List Token) → sees brace ts ≡ false → sees (struct_stands p) ts ≡ false
path_plain Plain ts e = e
path_plain InCondition ts e = refl
path_plain InArm ts e = e
path_plain InStatement ts e = e

-- atoms
pub takes_none : (m h b : Bool) → (m ≡ true → h ≡ false) → b ≡ false → ((m && h) || b) ≡ false
takes_none true h b f e = ap (λ c. c || b) (f refl) ∙ e
takes_none false h b f e = e

pub braces_none : (p : Position) (ts : List Token) (k : Kind) (y : Tree)
    → (is_path_form (Alone k y) ≡ true → sees (struct_stands p) ts ≡ false) → takes_braces p k ts ≡ false
braces_none p ts ExprPath y h = h refl
braces_none p ts _ y h = refl

pub back_braces : (p : Position) (ts : List Token) (k : Kind) → is_back k ≡ true → takes_braces p k ts ≡ false
back_braces p ts ExprPath b = absurd (false≢true b)
back_braces p ts _ b = refl

-- right operands
pub right_true : (w m h l a : Bool) → w ≡ true → (m ≡ true → (h ≡ true) × (l ≡ false)) → a ≡ false
    → (w && ((not m || (h && not l)) && not a)) ≡ true
right_true true true true true a e f g = absurd (both true refl (f refl).1)
right_true true true true false a e f g = ap not g
right_true true true false l a e f g = absurd (both false (f refl).0 refl)
right_true true false h l a e f g = ap not g
right_true false m h l a e f g = cc

range_off : (k : Kind) (x : Tree) (p : Position) (rest : List Token) → Bound p x rest → is_attributed_range k x ≡ false
    → is_attributed_range k (bare (kept x)) ≡ false
range_off ExprAttributed x p rest d e = range_same x p rest d ∙ e
range_off _ x p rest d e = refl

pub right_stays : (p q : Position) (k : Kind) (y x : Tree) (rest : List Token) → Derives y (table k) (flat x ++ rest)
    → Bound q x rest → within (level k) x ≡ true → has_right p k (flat x ++ rest) ≡ true → is_attributed_range k x
    ≡ false → stays_right p k (normal (kept y)) (bare (kept x)) ≡ true
right_stays p q k y x rest d e w h a =
    let b = all_begun x q rest e in
    right_true (within (level k) (bare (kept x))) (may_lack k) (has_right p k (flat (bare (kept x))))
    (is_label k (normal (kept y)) (flat (bare (kept x))))
    (is_attributed_range k (bare (kept x)))
    (within_same (level k) x q rest e w)
    (λ m. (begun_right _ _ b p k m h, label_off k y (flat x ++ rest) _ d b))
    (range_off k x q rest e a)
