-- Fields of patterns, told apart by the : behind a name or an index.
use Rattle.std.proofs.Common.{◌≡◌, ℕ, List, [], ◌∷◌, ◌++◌, refl, sym, ap, ◌∙◌, subst, append_assoc}
use Rattle.std.specs.Prelude.{Bool, true, false, cond, codes, Option, Some, None}
use Rattle.proc_macro2.specs.Token.{Token, Literal}
use Rattle.rust_leaf.specs.declared.punct.Spacing.{Spacing}
use Rattle.syn_grammar.specs.Kind.{Expression, Member, Pattern, Plain}
use Rattle.syn_grammar.specs.Name.{the_value}
use Rattle.syn_grammar.specs.Words.{is_index}
use Rattle.syn_grammar.specs.Tree.{Tree, ALiteral, AMark, AWord, Nil, Pair, First, Second, Node, marks as signs, flat}
use Rattle.syn_grammar.specs.Gram.{ref}
use Rattle.syn_grammar.specs.Look.{no, Look, a_quoted, a_word, an_ident, behind as past, first_seen, seen, sees, ◌or◌}
use Rattle.syn_grammar.specs.Look.{◌then◌}
use Rattle.syn_grammar.specs.Say.{◌∶◌, at, ident, keyword, marks, optional, sign, ◌▸◌}
use Rattle.syn_grammar.specs.Table.{table}
use Rattle.syn_grammar.specs.Derives.{Derives}
use Rattle.laws_reread_kinds.specs.Sees.{Lacks}
use Rattle.laws_reread_kinds.proofs.Keywords.{reserved_mut, reserved_ref}
use Rattle.laws_reread_kinds.proofs.Seconds.{word_is_none}

abbrev pub a_member : Look
a_member = an_ident or a_quoted is_index

member_in : (m : Tree) (us : List Token) → Derives m (table Member) us → sees (marks ":") us ≡ true
    → sees (a_member then marks ":") (flat m ++ us) ≡ true
unfolding table
member_in (First (AWord cs)) us d e =
    ap (λ b. seen (past (first_seen (cond b (Some us) None) None) (marks ":"))) d.1 ∙ e
member_in (First _) us d e = absurd d.1
member_in (Second (ALiteral cs)) us d e = ap (λ b. seen (past (cond b (Some us) None) (marks ":"))) d.1 ∙ e
member_in (Second _) us d e = absurd d.1
member_in _ us d e = absurd d

colon_at : (c : ℕ) (cs : List ℕ) (spacing : Spacing) (ts : List Token) → c ≡ 58 → cs ≡ []
    → sees (marks ":") (signs c cs spacing ++ ts) ≡ true
colon_at c cs spacing ts e f =
    subst (λ d. sees (marks ":") (signs d cs spacing ++ ts) ≡ true) (sym e)
    (subst (λ ds. sees (marks ":") (signs 58 ds spacing ++ ts) ≡ true) (sym f) refl)

pub member_seen : (x : Tree) (s : List Token) → Derives x (ref Member ▸ sign ":" ▸ ref Pattern) s
    → sees (a_member then marks ":") (flat x ++ s) ≡ true
member_seen (Pair (Node k m) (Pair (AMark c cs spacing) y)) s d =
    let us = (signs c cs spacing ++ flat y) ++ s in
    subst (λ us. sees (a_member then marks ":") us ≡ true)
    (sym (append_assoc (flat m) (signs c cs spacing ++ flat y) s))
    (member_in m us (subst (λ j. Derives m (table j) us) d.0.0 d.0.1)
    (subst (λ us. sees (marks ":") us ≡ true) (sym (append_assoc (signs c cs spacing) (flat y) s))
    (colon_at c cs spacing (flat y ++ s) d.1.0.0 d.1.0.1)))
member_seen (Pair (Node k m) (Pair _ y)) s d = absurd d.1.0
member_seen (Pair (Node k m) _) s d = absurd d.1
member_seen (Pair _ y) s d = absurd d.0
member_seen _ s d = absurd d

-- a name alone
word_no_literal : (p q : List ℕ → Bool) (ts : List Token) → sees (a_word p) ts ≡ true → Lacks (a_quoted q) ts
word_no_literal p q (Literal cs ∷ ts) e = cc
word_no_literal p q _ e = refl

none_then : (o p : Option (List Token)) (l : Look) → seen o ≡ false → seen p ≡ false
    → seen (past (first_seen o p) l) ≡ false
none_then None None l e f = refl
none_then (Some us) p l e f = cc
none_then None (Some us) l e f = cc

word_lacks : (p : List ℕ → Bool) (ts : List Token) → sees (a_word p) ts ≡ true → Lacks an_ident ts
    → Lacks (a_member then marks ":") ts
word_lacks p ts e f =
    none_then (an_ident ts) ((a_quoted is_index) ts) (marks ":") f (word_no_literal p is_index ts e)

pub no_member_seen : (x : Tree) (s : List Token)
    → Derives x (optional (at "ref") (keyword "ref") ▸ optional (at "mut") (keyword "mut") ▸ ident) s
    → Lacks (marks ":") s → Lacks (a_member then marks ":") (flat x ++ s)
no_member_seen (Pair (First r) y) s d a =
    subst (Lacks (a_member then marks ":")) (sym (append_assoc (flat r) (flat y) s))
    (word_lacks _ (flat r ++ (flat y ++ s)) d.0.0
    (word_is_none (codes "ref") (flat r ++ (flat y ++ s)) reserved_ref d.0.0))
no_member_seen (Pair (Second Nil) (Pair (First m) y)) s d a =
    subst (Lacks (a_member then marks ":")) (sym (append_assoc (flat m) (flat y) s))
    (word_lacks _ (flat m ++ (flat y ++ s)) d.1.0.0
    (word_is_none (codes "mut") (flat m ++ (flat y ++ s)) reserved_mut d.1.0.0))
no_member_seen (Pair (Second Nil) (Pair (Second Nil) (AWord cs))) s d a =
    ap (λ b. seen (past (first_seen (cond b (Some s) None) None) (marks ":"))) d.1.1 ∙ a
no_member_seen (Pair (Second Nil) (Pair (Second Nil) _)) s d a = absurd d.1.1
no_member_seen (Pair (Second Nil) (Pair (Second _) y)) s d a = absurd d.1.0.1
no_member_seen (Pair (Second Nil) (Pair _ y)) s d a = absurd d.1.0
no_member_seen (Pair (Second Nil) _) s d a = absurd d.1
no_member_seen (Pair (Second _) y) s d a = absurd d.0.1
no_member_seen (Pair _ y) s d a = absurd d.0
no_member_seen _ s d a = absurd d

-- of a struct expression: a name alone, or a member with its value
none_of : (o : Option (List Token)) (ts : List Token) → seen o ≡ false → seen (cond (seen o) None (Some ts)) ≡ true
none_of None ts e = refl
none_of (Some us) ts e = cc

some_of : (o : Option (List Token)) (ts : List Token) → seen o ≡ true → seen (cond (seen o) None (Some ts)) ≡ false
some_of (Some us) ts e = refl
some_of None ts e = cc

pub short_seen : (x : Tree) (s : List Token) → Derives x ident s → Lacks (marks ":") s
    → sees (an_ident then no (marks ":")) (flat x ++ s) ≡ true
short_seen (AWord cs) s d a =
    ap (λ b. seen (past (cond b (Some s) None) (no (marks ":")))) d ∙ none_of ((marks ":") s) s a
short_seen _ s d a = absurd d

not_short : (m : Tree) (us : List Token) → Derives m (table Member) us → sees (marks ":") us ≡ true
    → Lacks (an_ident then no (marks ":")) (flat m ++ us)
unfolding table
not_short (First (AWord cs)) us d e =
    ap (λ b. seen (past (cond b (Some us) None) (no (marks ":")))) d.1 ∙ some_of ((marks ":") us) us e
not_short (First _) us d e = absurd d.1
not_short (Second (ALiteral cs)) us d e = refl
not_short (Second _) us d e = absurd d.1
not_short _ us d e = absurd d

pub no_short_seen : (x : Tree) (s : List Token)
    → Derives x (ref Member ▸ sign ":" ▸ the_value ∶ ref (Expression Plain)) s
    → Lacks (an_ident then no (marks ":")) (flat x ++ s)
no_short_seen (Pair (Node k m) (Pair (AMark c cs spacing) y)) s d =
    let us = (signs c cs spacing ++ flat y) ++ s in
    subst (Lacks (an_ident then no (marks ":"))) (sym (append_assoc (flat m) (signs c cs spacing ++ flat y) s))
    (not_short m us (subst (λ j. Derives m (table j) us) d.0.0 d.0.1)
    (subst (λ us. sees (marks ":") us ≡ true) (sym (append_assoc (signs c cs spacing) (flat y) s))
    (colon_at c cs spacing (flat y ++ s) d.1.0.0 d.1.0.1)))
no_short_seen (Pair (Node k m) (Pair _ y)) s d = absurd d.1.0
no_short_seen (Pair (Node k m) _) s d = absurd d.1
no_short_seen (Pair _ y) s d = absurd d.0
no_short_seen _ s d = absurd d
