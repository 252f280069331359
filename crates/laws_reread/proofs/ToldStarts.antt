-- An expression that is a statement was read only where no item is seen: so it begins, also in normal form, with no
-- word behind which one would be seen.
use Rattle.std.proofs.Common.{◌≡◌, ℕ, List, [], ◌∷◌, ◌++◌, refl, sym, ap, ◌∙◌, subst, append_assoc}
use Rattle.std.specs.Prelude.{Bool, true, false, ◌&&◌, ◌||◌, ◌==◌, not, cond, codes, Some, None}
use Rattle.std.proofs.lemmas.List.{append-nil}
use Rattle.std.proofs.lemmas.Slice.Eq.{bytes_eq-Decides}
use Rattle.std.proofs.lemmas.Bool.{false≢true}
use Rattle.proc_macro2.specs.Token.{Token, Ident, Punct}
use Rattle.rust_leaf.specs.declared.punct.Spacing.{Spacing}
use Rattle.rust_leaf.specs.declared.punct.Spacing.TheVariants.{Alone as Apart, Joint}
use Rattle.syn_grammar.specs.Kind.{Kind, Plain, Position, Style, AMacro, AnyPath, Arguments, ExprField}
use Rattle.syn_grammar.specs.Kind.{ExprMacro}
use Rattle.syn_grammar.specs.Kind.{ExprAnd, ExprAssign, ExprAwait, ExprBitAnd, ExprBitOr, ExprBitXor, ExprCall}
use Rattle.syn_grammar.specs.Kind.{ExprCast, ExprCompare, ExprIndex, ExprMethodCall, ExprOr, ExprProduct, ExprRange}
use Rattle.syn_grammar.specs.Kind.{ExprRangeClosed, ExprShift, ExprStruct, ExprSum, ExprTry}
use Rattle.syn_grammar.specs.Kind.{ExprPath, FieldValues, InExpression, InModule, InStatement}
use Rattle.syn_grammar.specs.Kind.{ParenthesizedArguments, Path, QualifiedPath, Segments}
use Rattle.syn_grammar.specs.Name.{the_indices, the_value}
use Rattle.syn_grammar.specs.Words.{plain_decimal}
use Rattle.syn_grammar.specs.Words.{is_bool, is_name, is_path_keyword, is_plain_name}
use Rattle.rust_leaf.specs.Keywords.{is_among, is_reserved}
use Rattle.rust_leaf.specs.Keywords.{same_text}
use Rattle.syn_grammar.specs.Tree.{Tree, ALiteral, AMark, AWord, Alone, Back, Called, End, First, Front, Group, Infix}
use Rattle.syn_grammar.specs.Tree.{Nil, Node, Pair, Second, Verbatim, marks as signs, flat}
use Rattle.syn_grammar.specs.Look.{first_seen, seen, sees}
use Rattle.syn_grammar.specs.Gram.{Gram, AsRaw, alt, mark, never as none, ref}
use Rattle.syn_grammar.specs.Types.{kept_if}
use Rattle.syn_grammar.specs.Say.{marks}
use Rattle.syn_grammar.specs.Statements.{item_stands}
use Rattle.syn_grammar.specs.Table.{table}
use Rattle.syn_grammar.specs.Derives.{Derives, Bound}
use Rattle.syn_grammar.specs.Kept.{dotted, held, index_field, kept, lone_dot}
use Rattle.syn_grammar.specs.Normal.{formed, normal, normal_in, passed}
use Rattle.syn_grammar.specs.Forms.{back, front, has_right, inside, level}
use Rattle.syn_grammar.specs.Parens.{begins_in, follow, parens_unless, stands_in, stays_left}
use Rattle.syn_grammar.specs.Parens.{takes_what_follows, with_left, with_right}
use Rattle.laws_binding.proofs.Begun.{Begun, a_word, a_literal, an_opening, a_lifetime, a_bang, a_hash, an_and, a_star}
use Rattle.laws_binding.proofs.Begun.{a_minus, a_less, a_bar, dots, colons, begun}
use Rattle.laws_binding.proofs.Leads as Leads
use Rattle.laws_binding.proofs.Shells as Shells
use Rattle.laws_binding.proofs.Sights.{backs_are, is_back}
use Rattle.laws_reread_kinds.specs.Covered.{is_plain_start, no_word, soft_words}
use Rattle.laws_reread_kinds.proofs.Choices.{both_true}

-- These begin what may be a statement, before all that begins with no other word than as; and these before all.
abbrev Starts : List Token → Type 0
Starts us = (vs : List Token) → no_word vs ≡ true → is_plain_start (us ++ vs) ≡ true

abbrev Firm : List Token → Type 0
Firm us = (vs : List Token) → is_plain_start (us ++ vs) ≡ true

-- and these begin with no other word
abbrev Behind : List Token → Type 0
Behind us = (vs : List Token) → no_word (us ++ vs) ≡ true

starts_more : (us vs : List Token) → Starts us → Behind vs → Starts (us ++ vs)
starts_more us vs s b ws h =
    ap is_plain_start (append_assoc us vs ws) ∙ s (vs ++ ws) (b ws)

firm_more : (us vs : List Token) → Firm us → Starts (us ++ vs)
firm_more us vs f ws h = ap is_plain_start (append_assoc us vs ws) ∙ f (vs ++ ws)

-- a word that is none of these four
abbrev is_special : List ℕ → Bool
is_special cs = is_among soft_words cs || same_text (codes "crate") cs

plain_word : (cs : List ℕ) (ts : List Token) → is_special cs ≡ false → is_plain_start (Ident cs ∷ ts) ≡ true
plain_word cs ts e = go (is_among soft_words cs) (same_text (codes "crate") cs) e
  where
    go : (a b : Bool) → (a || b) ≡ false → ((not a || no_word ts) && (not b || sees (marks "::") ts)) ≡ true
    go false false e = refl
    go true b e = absurd (false≢true (sym e))
    go false true e = absurd (false≢true (sym e))

-- a word that is not crate, before others than a word; and any word before ::
soft_word : (cs : List ℕ) (ts : List Token) → same_text (codes "crate") cs ≡ false → no_word ts ≡ true
    → is_plain_start (Ident cs ∷ ts) ≡ true
soft_word cs ts e f = go (is_among soft_words cs) (same_text (codes "crate") cs) e (no_word ts) f
  where
    go : (a b : Bool) → b ≡ false → (c : Bool) → c ≡ true → ((not a || c) && (not b || sees (marks "::") ts)) ≡ true
    go true false e true f = refl
    go false false e true f = refl
    go a true e c f = absurd (false≢true (sym e))
    go a b e false f = absurd (false≢true f)

colon_word : (cs : List ℕ) (i : Spacing) (ts : List Token)
    → is_plain_start (Ident cs ∷ Punct 58 Joint ∷ Punct 58 i ∷ ts) ≡ true
colon_word cs i ts = go (is_among soft_words cs) (same_text (codes "crate") cs)
  where
    go : (a b : Bool) → ((not a || true) && (not b || true)) ≡ true
    go true true = refl
    go true false = refl
    go false true = refl
    go false false = refl

-- An own part in front, but a path and a macro, begins with another word, or none.
abbrev is_named : Kind → Bool
is_named ExprPath = true
is_named ExprMacro = true
is_named k = false

named_or : (b : Bool) (k : Kind) → cond b (Some ExprMacro) (Some ExprPath) ≡ Some k → is_named k ≡ true
named_or true k e = cc
named_or false k e = cc

special_named : (cs : List ℕ) (us : List Token) (k : Kind) → is_special cs ≡ true
    → front InStatement (Ident cs ∷ us) ≡ Some k → is_named k ≡ true
unfolding front is_bool is_reserved is_name is_path_keyword
special_named cs us k h e =
    go (same_text (codes "union") cs) (same_text (codes "auto") cs) (same_text (codes "default") cs)
    (same_text (codes "crate") cs) refl refl refl refl h
  where
    go : (a b c d : Bool) → same_text (codes "union") cs ≡ a → same_text (codes "auto") cs ≡ b
        → same_text (codes "default") cs ≡ c → same_text (codes "crate") cs ≡ d
        → ((a || (b || (c || false))) || d) ≡ true → is_named k ≡ true
    go true b c d f g i j h =
        named_or _ k (subst (λ w. front InStatement (Ident w ∷ us) ≡ Some k)
        (sym ((bytes_eq-Decides (codes "union") cs).0 f)) e)
    go false true c d f g i j h =
        named_or _ k (subst (λ w. front InStatement (Ident w ∷ us) ≡ Some k)
        (sym ((bytes_eq-Decides (codes "auto") cs).0 g)) e)
    go false false true d f g i j h =
        named_or _ k (subst (λ w. front InStatement (Ident w ∷ us) ≡ Some k)
        (sym ((bytes_eq-Decides (codes "default") cs).0 i)) e)
    go false false false true f g i j h =
        named_or _ k (subst (λ w. front InStatement (Ident w ∷ us) ≡ Some k)
        (sym ((bytes_eq-Decides (codes "crate") cs).0 j)) e)
    go false false false false f g i j h = absurd (false≢true h)

not_special : (b : Bool) (h : b ≡ true → ⊥) → b ≡ false
not_special true h = absurd (h refl)
not_special false h = refl

abbrev NoSpecial : List Token → Type 0
NoSpecial ts = (cs : List ℕ) (us : List Token) → ts ≡ Ident cs ∷ us → is_special cs ≡ false

firm_begun : (ts us : List Token) → Begun ts us → sees (marks "#") ts ≡ false → NoSpecial ts → Firm us
firm_begun _ _ (a_word {r} {s} cs e) h n vs = plain_word cs (s ++ vs) (n cs r refl)
firm_begun _ _ (a_literal cs) h n vs = refl
firm_begun _ _ (an_opening d) h n vs = refl
firm_begun _ _ (a_lifetime cs) h n vs = refl
firm_begun _ _ (a_bang i) h n vs = refl
firm_begun _ _ (a_hash i) h n vs = absurd (false≢true (sym h))
firm_begun _ _ (an_and i) h n vs = refl
firm_begun _ _ (a_star i) h n vs = refl
firm_begun _ _ (a_minus i) h n vs = refl
firm_begun _ _ (a_less i) h n vs = refl
firm_begun _ _ (a_bar i) h n vs = refl
firm_begun _ _ (dots i j) h n vs = refl
firm_begun _ _ (colons i j) h n vs = refl

firm_part : (k : Kind) (y : Tree) (r : List Token) → is_named k ≡ false → front InStatement (flat y ++ r) ≡ Some k
    → Derives y (table k) r → sees (marks "#") (flat y ++ r) ≡ false → Firm (flat (normal (kept y)))
firm_part k y r n f d h =
    firm_begun (flat y ++ r) (flat (normal (kept y))) (begun InStatement k y r (flat y ++ r) f d) h
    (λ cs us e. not_special (is_special cs)
    (λ s. false≢true (sym n ∙ special_named cs us k s (sym (ap (front InStatement) e) ∙ f))))

-- A path: behind crate alone stands ::, since an item would be seen else.
crate_item : (cs : List ℕ) (r : List Token) → sees (marks "::") r ≡ false → sees item_stands (Ident cs ∷ r) ≡ false
    → same_text (codes "crate") cs ≡ false
crate_item cs r e f = go (same_text (codes "crate") cs) refl
  where
    seen_there : sees item_stands (Ident (codes "crate") ∷ r) ≡ true
    seen_there = ap (λ b. seen (first_seen (cond b None (Some r)) None)) e

    go : (b : Bool) → same_text (codes "crate") cs ≡ b → b ≡ false
    go false i = refl
    go true i =
        absurd (false≢true (sym (subst (λ w. sees item_stands (Ident w ∷ r) ≡ false)
        (sym ((bytes_eq-Decides (codes "crate") cs).0 i)) f) ∙ seen_there))

plain_crate : (cs : List ℕ) → is_plain_name cs ≡ true → same_text (codes "crate") cs ≡ false
unfolding is_plain_name is_reserved
plain_crate cs e = go (same_text (codes "crate") cs) refl
  where
    go : (b : Bool) → same_text (codes "crate") cs ≡ b → b ≡ false
    go false i = refl
    go true i = absurd (false≢true (subst (λ w. is_plain_name w ≡ true)
        (sym ((bytes_eq-Decides (codes "crate") cs).0 i)) e))

-- what stands behind a name in its path begins with no word
colons_behind : (c : ℕ) (cs : List ℕ) (ts : List Token) → c ≡ 58 → cs ≡ 58 ∷ []
    → signs c cs Apart ++ ts ≡ Punct 58 Joint ∷ Punct 58 Apart ∷ ts
colons_behind c cs ts e f =
    ap (λ d. signs d cs Apart ++ ts) e ∙ ap (λ ds. signs 58 ds Apart ++ ts) f

starts_colons : (w : List ℕ) (c : ℕ) (cs : List ℕ) (ts : List Token) → c ≡ 58 → cs ≡ 58 ∷ []
    → Starts (Ident w ∷ (signs c cs Apart ++ ts))
starts_colons w c cs ts e f vs h =
    ap (λ us. is_plain_start (Ident w ∷ (us ++ vs))) (colons_behind c cs ts e f) ∙ colon_word w Apart (ts ++ vs)

is_plain_startft : (w : List ℕ) (ts : List Token) → same_text (codes "crate") w ≡ false → Behind ts
    → Starts (Ident w ∷ ts)
is_plain_startft w ts e b vs h = soft_word w (ts ++ vs) e (b vs)

mark_behind : (c : ℕ) (cs : List ℕ) (us ts : List Token) → Behind ((signs c cs Apart ++ us) ++ ts)
mark_behind c [] us ts vs = refl
mark_behind c (d ∷ ds) us ts vs = refl

sign_behind : (c : ℕ) (cs : List ℕ) (us : List Token) → Behind (signs c cs Apart ++ us)
sign_behind c [] us vs = refl
sign_behind c (d ∷ ds) us vs = refl

arguments_behind : (a : Tree) (r ts : List Token) → Derives a (table Arguments) r
    → Behind (flat (normal (kept (Node Arguments a))) ++ ts)
unfolding table held passed
arguments_behind (Pair (First (AMark c cs i)) y) r ts d = mark_behind c cs _ ts
arguments_behind (Pair (First _) y) r ts d = absurd d.0.1
arguments_behind (Pair (Second Nil) (Pair (AMark c cs i) y)) r ts d = mark_behind c cs _ ts
arguments_behind (Pair (Second Nil) (Pair _ y)) r ts d = absurd d.1.0
arguments_behind (Pair (Second Nil) _) r ts d = absurd d.1
arguments_behind (Pair (Second _) y) r ts d = absurd d.0.1
arguments_behind (Pair _ y) r ts d = absurd d.0
arguments_behind _ r ts d = absurd d

parenthesized_behind : (a : Tree) (r : List Token) → Derives a (table ParenthesizedArguments) r
    → Behind (flat (normal (kept (Node ParenthesizedArguments a))))
unfolding table held passed
parenthesized_behind (Pair (Group e x) y) r d vs = refl
parenthesized_behind (Pair _ y) r d vs = absurd d.0
parenthesized_behind _ r d vs = absurd d

-- the names of a path
abbrev names : Style → Tree → List Token
names s z = flat (normal (kept (Node (Segments s) z)))

segments_start : (s : Style) (z : Tree) (r : List Token) → Derives z (table (Segments s)) r
    → sees item_stands (flat z ++ r) ≡ false → Starts (names s z)
unfolding table held passed
segments_start s (First (Pair (AWord cs) (First (Pair (AMark c ms i) z)))) r d h =
    starts_colons cs c ms (flat (normal (kept z))) d.1.1.1.0.0 d.1.1.1.0.1
segments_start s (First (Pair (AWord cs) (First (Pair _ z)))) r d h = absurd d.1.1.1.0
segments_start s (First (Pair (AWord cs) (First _))) r d h = absurd d.1.1.1
segments_start s (First (Pair (AWord cs) (Second Nil))) r d h =
    λ vs e. soft_word cs vs (crate_item cs r d.1.1.0 h) e
segments_start s (First (Pair (AWord cs) (Second _))) r d h = absurd d.1.1.1
segments_start s (First (Pair (AWord cs) _)) r d h = absurd d.1.1
segments_start s (First (Pair _ z)) r d h = absurd d.1.0
segments_start s (First _) r d h = absurd d.1
segments_start s (Second (Pair (AWord cs) (First (Pair (Node k a) y)))) r d h =
    subst (λ j. Starts (Ident cs ∷ (flat (normal (kept (Node j a))) ++ flat (normal (kept y))))) (sym d.1.1.1.0.0)
    (is_plain_startft cs (flat (normal (kept (Node Arguments a))) ++ flat (normal (kept y))) (plain_crate cs d.1.0)
    (arguments_behind a (flat y ++ r) (flat (normal (kept y)))
    (subst (λ j. Derives a (table j) (flat y ++ r)) d.1.1.1.0.0 d.1.1.1.0.1)))
segments_start s (Second (Pair (AWord cs) (First (Pair _ y)))) r d h = absurd d.1.1.1.0
segments_start s (Second (Pair (AWord cs) (First _))) r d h = absurd d.1.1.1
segments_start s (Second (Pair (AWord cs) (Second (First (Pair (AMark c ms i) z))))) r d h =
    starts_colons cs c ms (flat (normal (kept z))) d.1.1.1.1.0.0 d.1.1.1.1.0.1
segments_start s (Second (Pair (AWord cs) (Second (First (Pair _ z))))) r d h = absurd d.1.1.1.1.0
segments_start s (Second (Pair (AWord cs) (Second (First _)))) r d h = absurd d.1.1.1.1
segments_start s (Second (Pair (AWord cs) (Second (Second (First (Node k a)))))) r d h =
    subst (λ j. Starts (Ident cs ∷ flat (normal (kept (Node j a))))) (sym d.1.1.1.1.1.0)
    (is_plain_startft cs (flat (normal (kept (Node ParenthesizedArguments a)))) (plain_crate cs d.1.0)
    (parenthesized_behind a r (subst (λ j. Derives a (table j) r) d.1.1.1.1.1.0 d.1.1.1.1.1.1)))
segments_start s (Second (Pair (AWord cs) (Second (Second (First _))))) r d h = absurd d.1.1.1.1.1
segments_start s (Second (Pair (AWord cs) (Second (Second (Second Nil))))) r d h =
    λ vs e. soft_word cs vs (plain_crate cs d.1.0) e
segments_start s (Second (Pair (AWord cs) (Second (Second (Second _))))) r d h = absurd d.1.1.1.1.1
segments_start s (Second (Pair (AWord cs) (Second (Second _)))) r d h = absurd d.1.1.1.1
segments_start s (Second (Pair (AWord cs) (Second _))) r d h = absurd d.1.1.1
segments_start s (Second (Pair (AWord cs) _)) r d h = absurd d.1.1
segments_start s (Second (Pair _ z)) r d h = absurd d.1.0
segments_start s (Second _) r d h = absurd d.1
segments_start s _ r d h = absurd d

-- the path
abbrev pathed : Style → Tree → List Token
pathed s x = flat (normal (kept (Node (Path s) x)))

mark_start : (c b : ℕ) (cs ds : List ℕ) (ts : List Token) → c ≡ b → cs ≡ ds → not (b == 35) ≡ true
    → Starts (signs c cs Apart ++ ts)
mark_start c b [] ds ts e f h vs g = ap (λ n. not (n == 35)) e ∙ h
mark_start c b (m ∷ ms) ds ts e f h vs g = ap (λ n. not (n == 35)) e ∙ h

path_start : (s : Style) (x : Tree) (r : List Token) → Derives x (table (Path s)) r
    → sees item_stands (flat x ++ r) ≡ false → Starts (pathed s x)
unfolding table held passed
path_start s (Pair (First (AMark c cs i)) z) r d h =
    mark_start c 58 cs (58 ∷ []) (flat (normal (kept z))) d.0.1.0 d.0.1.1 refl
path_start s (Pair (First _) z) r d h = absurd d.0.1
path_start s (Pair (Second Nil) (Node k z)) r d h =
    subst (λ j. Starts (flat (normal (kept (Node j z))))) (sym d.1.0)
    (segments_start s z r (subst (λ j. Derives z (table j) r) d.1.0 d.1.1) h)
path_start s (Pair (Second Nil) _) r d h = absurd d.1
path_start s (Pair (Second _) z) r d h = absurd d.0.1
path_start s (Pair _ z) r d h = absurd d.0
path_start s _ r d h = absurd d

qualified_start : (s : Style) (x : Tree) (r : List Token) → Derives x (table (QualifiedPath s)) r
    → Starts (flat (normal (kept (Node (QualifiedPath s) x))))
unfolding table held passed
qualified_start s (Pair (AMark c cs i) z) r d = mark_start c 60 cs [] (flat (normal (kept z))) d.0.0 d.0.1 refl
qualified_start s (Pair _ z) r d = absurd d.0
qualified_start s _ r d = absurd d

any_start : (s : Style) (x : Tree) (r : List Token) → Derives x (table (AnyPath s)) r
    → sees item_stands (flat x ++ r) ≡ false → Starts (flat (normal (kept (Node (AnyPath s) x))))
unfolding table held passed
any_start s (First (Node k x)) r d h =
    subst (λ j. Starts (flat (normal (kept (Node j x))))) (sym d.1.0)
    (qualified_start s x r (subst (λ j. Derives x (table j) r) d.1.0 d.1.1))
any_start s (First _) r d h = absurd d.1
any_start s (Second (Node k x)) r d h =
    subst (λ j. Starts (flat (normal (kept (Node j x))))) (sym d.1.0)
    (path_start s x r (subst (λ j. Derives x (table j) r) d.1.0 d.1.1) h)
any_start s (Second _) r d h = absurd d.1
any_start s _ r d h = absurd d

-- a macro
call_start : (x : Tree) (r : List Token) → Derives x (table AMacro) r → sees item_stands (flat x ++ r) ≡ false
    → Starts (flat (normal (kept (Node AMacro x))))
unfolding table held passed
call_start (Pair (Node k x) (Pair (AMark c cs i) z)) r d h =
    subst (λ j. Starts (flat (normal (kept (Node j x))) ++ (signs c cs Apart ++ flat (normal (kept z))))) (sym d.0.0)
    (starts_more (pathed InModule x) (signs c cs Apart ++ flat (normal (kept z))) (path_start InModule x _ (subst
    (λ j. Derives x (table j) ((signs c cs i ++ flat z) ++ r)) d.0.0 d.0.1)
    (sym (ap (sees item_stands) (append_assoc (flat x) (signs c cs i ++ flat z) r)) ∙ h))
    (sign_behind c cs (flat (normal (kept z)))))
call_start (Pair (Node k x) (Pair _ z)) r d h = absurd d.1.0
call_start (Pair (Node k x) _) r d h = absurd d.1
call_start (Pair _ z) r d h = absurd d.0
call_start _ r d h = absurd d

-- An own part behind an operand begins with no other word than as.
behind_more : (ts us vs : List Token) → Behind us → Behind (us ++ vs)
behind_more ts us vs b ws = ap no_word (append_assoc us vs ws) ∙ b (vs ++ ws)

abbrev Leading : Gram → Type 0
Leading g = Leads.Leads (λ ts us. Behind us) behind_more g

marks_behind : (c : ℕ) (cs : List ℕ) → Behind (signs c cs Apart)
marks_behind c [] vs = refl
marks_behind c (d ∷ ds) vs = refl

-- a punctuation, or one of some
abbrev are_marks : Gram → Bool
are_marks (alt t a b) = are_marks a && are_marks b
are_marks (mark c cs) = true
are_marks none = true
are_marks _ = false

marks_lead : (g : Gram) → are_marks g ≡ true → Leading g
marks_lead (alt t a b) e =
    let h = both_true (are_marks a) (are_marks b) e in
    Leads.alt_leads (λ ts us. Behind us) behind_more (marks_lead a h.0) (marks_lead b h.1)
marks_lead (mark c cs) e = Leads.mark_leads (λ ts us. Behind us) behind_more (λ i r. marks_behind c cs)
marks_lead none e = Leads.never_leads (λ ts us. Behind us) behind_more
marks_lead _ e = absurd (false≢true e)

fields_lead : Leading (ref FieldValues)
unfolding table held passed
fields_lead = Leads.ref_leads (λ ts us. Behind us) behind_more go
  where
    go : (q : Position) (x : Tree) (r : List Token) → Derives x (table FieldValues) r
        → Behind (flat (normal_in q (kept (Node FieldValues x))))
    go q (First (Group e x)) r d vs = refl
    go q (First _) r d vs = absurd d.1
    go q (Verbatim x) r d vs = refused_raw _ d.0
      where
        refused_raw : (b : Bool) → kept_if b ≡ AsRaw
            → no_word (flat (normal_in q (kept (Node FieldValues (Verbatim x)))) ++ vs) ≡ true
        refused_raw true e = cc e
        refused_raw false e = cc e
    go q _ r d vs = absurd d

back_leads : (k : Kind) → is_back k ≡ true → Shells.is_dot k ≡ false → Leading (table k)
unfolding table
back_leads ExprAssign e f = marks_lead _ refl
back_leads ExprCompare e f = marks_lead _ refl
back_leads ExprOr e f = marks_lead _ refl
back_leads ExprAnd e f = marks_lead _ refl
back_leads ExprShift e f = marks_lead _ refl
back_leads ExprBitOr e f = marks_lead _ refl
back_leads ExprBitXor e f = marks_lead _ refl
back_leads ExprBitAnd e f = marks_lead _ refl
back_leads ExprSum e f = marks_lead _ refl
back_leads ExprProduct e f = marks_lead _ refl
back_leads ExprRangeClosed e f = marks_lead _ refl
back_leads ExprRange e f = marks_lead _ refl
back_leads ExprCast e f =
    Leads.seq_leads (λ ts us. Behind us) behind_more
    (Leads.word_leads (λ ts us. Behind us) behind_more (λ cs r h vs. h))
back_leads ExprStruct e f = fields_lead
back_leads ExprCall e f = Leads.group_leads (λ ts us. Behind us) behind_more (λ r s vs. refl)
back_leads ExprIndex e f = Leads.group_leads (λ ts us. Behind us) behind_more (λ r s vs. refl)
back_leads ExprTry e f = marks_lead _ refl
back_leads ExprField e f = absurd (false≢true (sym f))
back_leads ExprMethodCall e f = absurd (false≢true (sym f))
back_leads ExprAwait e f = absurd (false≢true (sym f))
back_leads _ e f = absurd (false≢true e)

part_behind : (k : Kind) (y : Tree) (r ts : List Token) → back InStatement ts ≡ Some k → Shells.is_dot k ≡ false
    → Derives y (table k) r → Behind (flat (normal (kept y)))
part_behind k y r ts e f d = (back_leads k (backs_are InStatement k ts e) f).at Plain y r d

-- In each position, and before all that may follow, it begins so.
abbrev Good : Tree → Type 0
Good x = (p : Position) (ts : List Token) → Starts (flat (formed p ts x))

unless_start : (b : Bool) (z : Tree) → Starts (flat z) → Starts (flat (parens_unless b z))
unless_start true z s = s
unless_start false z s = λ vs e. refl

good_alone : (k : Kind) (y : Tree) → Starts (flat (normal y)) → Good (Alone k y)
good_alone k y s p ts = unless_start (not (takes_what_follows p k ts)) (Alone k (normal y)) s

good_front : (k : Kind) (y x : Tree) → Firm (flat (normal y)) → Good (Front k y x)
good_front k y x f p ts =
    let w : Tree = with_right p k (normal y) (formed (inside p k) ts x) in
    unless_start (begins_in p k) (Front k (normal y) w) (firm_more (flat (normal y)) (flat w) f)

good_left : (p : Position) (k : Kind) (l y : Tree) → Good l
    → Starts (flat (with_left p k (normal y) (formed p (follow (flat (normal y))) l)))
good_left p k l y g =
    let m : Tree = formed p (follow (flat (normal y))) l in
    unless_start (stays_left p k (normal y) m) m (g p (follow (flat (normal y))))

good_back : (l : Tree) (k : Kind) (y : Tree) → Good l → Behind (flat (normal y)) → Good (Back l k y)
good_back l k y g b p ts =
    let m : Tree = with_left p k (normal y) (formed p (follow (flat (normal y))) l) in
    unless_start (stands_in p k && not (takes_what_follows p k ts)) (Back m k (normal y))
    (starts_more (flat m) (flat (normal y)) (good_left p k l y g) b)

good_infix : (l : Tree) (k : Kind) (y r : Tree) → Good l → Behind (flat (normal y)) → Good (Infix l k y r)
good_infix l k y r g b p ts =
    let w : Tree = with_right p k (normal y) (formed (inside p k) ts r) in
    starts_more (flat (with_left p k (normal y) (formed p (follow (flat (normal y))) l))) (flat (normal y) ++ flat w)
    (good_left p k l y g) (behind_more [] (flat (normal y)) (flat w) b)

good_dotted : (l : Tree) (k : Kind) (y : Tree) (r ts : List Token) → back InStatement ts ≡ Some k
    → Derives y (table k) r → Good (kept l) → Good (dotted (kept l) k (kept y))
good_dotted l k y r ts e d g = go (Shells.is_dot k) refl
  where
    go : (b : Bool) → Shells.is_dot k ≡ b → Good (dotted (kept l) k (kept y))
    go false i =
        subst Good (sym (Shells.undotted (kept l) k (kept y) i))
        (good_back (kept l) k (kept y) g (part_behind k y r ts e i d))
    go true i =
        let w = Shells.dotted_own k y r i d in
        subst (λ z. Good (dotted (kept l) k z)) (sym w.is)
        (Shells.dotted_has (λ j z. Good z) Good w.back (λ m cs q. index_good m cs q) (λ m cs q. index_good m cs q)
        (λ j m h q. good_back m j (Shells.behind_dot End w.back) q (λ vs. refl)) k (kept l) w.front i g)
      where
        index_good : (m : Tree) (cs : List ℕ) → Good m → Good (index_field m cs)
        index_good m cs q =
            good_back m ExprField (Pair (Pair lone_dot (Called the_indices End)) (Second (Called the_value
            (ALiteral (plain_decimal cs))))) q (λ vs. refl)

-- an own part in front
own_start : (k : Kind) (y : Tree) (r : List Token) → front InStatement (flat y ++ r) ≡ Some k → Derives y (table k) r
    → sees (marks "#") (flat y ++ r) ≡ false → sees item_stands (flat y ++ r) ≡ false → Starts (flat (normal (kept y)))
unfolding table
own_start ExprPath (Node j x) r f d h i =
    subst (λ l. Starts (flat (normal (kept (Node l x))))) (sym d.0)
    (any_start InExpression x r (subst (λ l. Derives x (table l) r) d.0 d.1) i)
own_start ExprPath _ r f d h i = absurd d
own_start ExprMacro (Node j x) r f d h i =
    subst (λ l. Starts (flat (normal (kept (Node l x))))) (sym d.0)
    (call_start x r (subst (λ l. Derives x (table l) r) d.0 d.1) i)
own_start ExprMacro _ r f d h i = absurd d
own_start k y r f d h i = λ vs e. firm_part k y r refl f d h vs

no_operand : (k : Kind) (y : Tree) (r : List Token) → has_right InStatement k r ≡ true → is_named k ≡ false
unfolding has_right level
no_operand ExprPath y r e = sym e
no_operand ExprMacro y r e = sym e
no_operand _ y r e = refl

no_dot : (k : Kind) (ts : List Token) → has_right InStatement k ts ≡ true → Shells.is_dot k ≡ false
unfolding has_right level
no_dot ExprField ts e = sym e
no_dot ExprMethodCall ts e = sym e
no_dot ExprAwait ts e = sym e
no_dot _ ts e = refl

starts_told : (x : Tree) (q : List Token) → Bound InStatement x q → sees (marks "#") (flat x ++ q) ≡ false
    → sees item_stands (flat x ++ q) ≡ false → Good (kept x)
starts_told (Alone k y) q d h i = good_alone k (kept y) (own_start k y q d.0 d.1 h i)
starts_told (Front k y x) q d h i =
    good_front k (kept y) (kept x)
    (firm_part k y (flat x ++ q) (no_operand k y (flat x ++ q) d.2) d.0 d.1
    (sym (ap (sees (marks "#")) (append_assoc (flat y) (flat x) q)) ∙ h))
starts_told (Back l k y) q d h i =
    good_dotted l k y q _ d.0 d.1
    (starts_told l (flat y ++ q) d.4 (sym (ap (sees (marks "#")) (append_assoc (flat l) (flat y) q)) ∙ h)
    (sym (ap (sees item_stands) (append_assoc (flat l) (flat y) q)) ∙ i))
starts_told (Infix l k y r) q d h i =
    let e : (flat l ++ (flat y ++ flat r)) ++ q ≡ flat l ++ (flat y ++ (flat r ++ q)) =
    append_assoc (flat l) (flat y ++ flat r) q ∙ ap (λ ts. flat l ++ ts) (append_assoc (flat y) (flat r) q) in
    good_infix (kept l) k (kept y) (kept r)
    (starts_told l (flat y ++ (flat r ++ q)) d.4 (sym (ap (sees (marks "#")) e)
    ∙ h) (sym (ap (sees item_stands) e) ∙ i))
    (part_behind k y (flat r ++ q) _ d.0 (no_dot k (flat r ++ q) d.2) d.1)
starts_told _ q d h i = absurd d

pub begins_told : (x : Tree) (q : List Token) → Bound InStatement x q → sees (marks "#") (flat x ++ q) ≡ false
    → sees item_stands (flat x ++ q) ≡ false → is_plain_start (flat (formed InStatement [] (kept x))) ≡ true
begins_told x q d h i =
    let us : List Token = flat (formed InStatement [] (kept x)) in
    sym (ap is_plain_start (append-nil us)) ∙ starts_told x q d h i InStatement [] [] refl
