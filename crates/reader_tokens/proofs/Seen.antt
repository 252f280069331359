-- Whether looks see what they want.
use Rattle.std.proofs.Common.{◌≡◌, ℕ, List, [], ◌∷◌, refl, sym, ap, ◌∙◌}
use Rattle.std.specs.Prelude.{Bool, true, false, ◌==◌, cond, Some, None}
use Rattle.proc_macro2.specs.Groups.{same_delimiter}
use Rattle.proc_macro2.specs.Token.{Token, Opens, Ident, Punct}
use Rattle.proc_macro2.specs.declared.delimiter.Delimiter.{Delimiter}
use Rattle.rust_leaf.specs.declared.punct.Spacing.{Spacing}
use Rattle.rust_leaf.specs.declared.punct.Spacing.TheVariants.{Alone, Joint}
use Rattle.syn_grammar.specs.Look.{Look, a_word, opens, past_marks, seen, sees, the_mark}
use Rattle.reader_tokens.specs.Groups as g
use Rattle.reader_tokens.specs.Marks as m
use Rattle.reader_tokens.proofs.Leaves.{none_word, word_so}
use Rattle.reader_tokens.proofs.Marks as marks
use Rattle.reader_tokens.proofs.Openings.{none_opens, opens_so}

pub there : (a : Look) (ts us : List Token) → Some us ≡ a ts → true ≡ sees a ts
there a ts us h = ap seen h

pub not_there : (a : Look) (ts : List Token) → None ≡ a ts → false ≡ sees a ts
not_there a ts h = ap seen h

seen_so : (b : Bool) (ts : List Token) → b ≡ seen (cond b (Some ts) None)
seen_so true ts = refl
seen_so false ts = refl

-- a word
pub no_word : (p : List ℕ → Bool) (ts : List Token) → m.no_word ts → false ≡ sees (a_word p) ts
no_word p ts h = ap seen (none_word p ts h)

pub word : (p : List ℕ → Bool) (cs : List ℕ) (ts us : List Token) (b : Bool) → ts ≡ Ident cs ∷ us → b ≡ p cs
    → b ≡ sees (a_word p) ts
word p cs ts us b e h = seen_so b us ∙ ap seen (word_so p cs ts us b e h)

-- a group
pub no_group : (d : Delimiter) (ts : List Token) → g.no_opening ts → false ≡ sees (opens d) ts
no_group d ts h = ap seen (none_opens d ts h)

pub group : (d e : Delimiter) (ts us : List Token) (b : Bool) → ts ≡ Opens e ∷ us → b ≡ same_delimiter e d
    → b ≡ sees (opens d) ts
group d e ts us b h f = seen_so b us ∙ ap seen (opens_so d e ts us b h f)

-- a punctuation: no mark, one of no marks, another mark, its last one, and a further one that follows at once or
-- doesn't
pub no_mark : (cs : List ℕ) (ts : List Token) → m.no_mark ts → false ≡ sees (the_mark cs) ts
no_mark cs ts h = ap seen (marks.none_signed cs ts h)

pub no_text : (cs : List ℕ) (ts : List Token) → cs ≡ [] → false ≡ sees (the_mark cs) ts
no_text cs ts h = ap (λ x. sees (the_mark x) ts) (sym h)

by_text : (c : ℕ) (cs ks : List ℕ) (ts : List Token) (b : Bool) → cs ≡ c ∷ ks → b ≡ sees (past_marks c ks) ts
    → b ≡ sees (the_mark cs) ts
by_text c cs ks ts b n h = h ∙ ap (λ x. sees (the_mark x) ts) (sym n)

pub another_mark : (c d : ℕ) (cs ks : List ℕ) (spacing : Spacing) (ts us : List Token) (b : Bool) → cs ≡ c ∷ ks
    → ts ≡ Punct d spacing ∷ us → b ≡ (d == c) → b ≡ false → false ≡ sees (the_mark cs) ts
another_mark c d cs ks spacing ts us b n e f h =
    by_text c cs ks ts false n (ap seen (marks.other_mark c d ks spacing ts us b e f h))

pub last_mark : (c d : ℕ) (cs ks : List ℕ) (spacing : Spacing) (ts us : List Token) (b : Bool) → cs ≡ c ∷ ks
    → ks ≡ [] → ts ≡ Punct d spacing ∷ us → b ≡ (d == c) → b ≡ true → true ≡ sees (the_mark cs) ts
last_mark c d cs ks spacing ts us b n l e f h =
    by_text c cs ks ts true n (ap seen (marks.last_mark c d ks spacing ts us b l e f h))

pub joint_mark : (c d k : ℕ) (cs ks js : List ℕ) (ts us : List Token) (b r : Bool) → cs ≡ c ∷ ks → ks ≡ k ∷ js
    → ts ≡ Punct d Joint ∷ us → b ≡ (d == c) → b ≡ true → r ≡ sees (past_marks k js) us → r ≡ sees (the_mark cs) ts
joint_mark c d k cs ks js ts us b r n l e f h i =
    by_text c cs ks ts r n (i ∙ ap seen (marks.joint_mark c d k ks js ts us b l e f h))

pub lone_mark : (c d k : ℕ) (cs ks js : List ℕ) (ts us : List Token) → cs ≡ c ∷ ks → ks ≡ k ∷ js
    → ts ≡ Punct d Alone ∷ us → false ≡ sees (the_mark cs) ts
lone_mark c d k cs ks js ts us n l e = by_text c cs ks ts false n (ap seen (marks.lone_mark c d k ks js ts us l e))

pub ruleset is_sign_laws = (no_mark, no_text, another_mark, last_mark, joint_mark, lone_mark)
