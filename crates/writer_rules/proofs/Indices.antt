-- The indices of a text, up to its dots and behind them.
use Rattle.std.proofs.Common.{◌≡◌, ℕ, ◌<◌, List, [], ◌∷◌, ◌++◌, refl, sym, ap, ◌∙◌, arith, append_assoc}
use Rattle.std.specs.Prelude.{Bool, true, false, nat_lt, zero, suc, ◌==◌, if◌then◌else◌, Option, Some, None}
use Rattle.std.proofs.lemmas.Bool.Decides.{nat_tests}
use Rattle.std.proofs.lemmas.Bool.{ne_eqb}
use Rattle.std.proofs.lemmas.List.{append-nil}
use Rattle.proc_macro2.specs.Token.{Token, Literal, Punct}
use Rattle.rust_leaf.specs.declared.punct.Spacing.TheVariants.{Alone as Apart}
use Rattle.rust_leaf.specs.declared.punct.Spacing.{Spacing}
use Rattle.syn_grammar.specs.Tree as t
use Rattle.syn_grammar.specs.Tree.{Tree}
use Rattle.reader_tree.specs.declared.tree.Element.{Element}
use Rattle.reader_tree.specs.Forms.{mark_of, seconds, elements, ending}
use Rattle.syn_grammar.specs.Words.{before_dot, behind_dots, indices, integer, is_below, is_index, or_zero}
use Rattle.syn_grammar.specs.Words.{plain_decimal, texts_of}
use Rattle.reader_tokens.specs.Texts.{IsFrom, Reads}
use Rattle.reader_tokens.proofs.Dots.{behind_last, behind_more, index_left, no_index}
use Rattle.writer_rules.specs.Said.{fields, front_fields}
use Rattle.writer_rules.specs.Seen.{text_of_literal}

-- what is left from a dot on, and at the end
pub from_here : (c : ℕ) (cs ds rest : List ℕ) → rest ≡ c ∷ cs → c ≡ 46 → behind_dots rest ≡ behind_dots ds
    → IsFrom ds rest
from_here c cs ds rest e h l = (ap before_dot (e ∙ ap (λ d. d ∷ cs) h), l)

pub from_end : (ds rest : List ℕ) → rest ≡ [] → behind_dots rest ≡ behind_dots ds → IsFrom ds rest
from_end ds rest e l = (ap before_dot e, l)

pub from_behind : (c : ℕ) (cs ds rest : List ℕ) → rest ≡ c ∷ cs → (c ≡ 46 → ⊥) → behind_dots rest ≡ behind_dots ds
    → behind_dots cs ≡ behind_dots ds
from_behind c cs ds rest e h l =
    sym (ap (λ v. if v then before_dot cs ∷ behind_dots cs else behind_dots cs) (ne_eqb c 46 h))
    ∙ ap behind_dots (sym e) ∙ l

pub ruleset from_dots = (from_here, from_end, from_behind)

-- the index that a number below 2 ^ 32 is
less : (n : ℕ) → n < 4294967296 → nat_lt n 4294967296 ≡ true
less n h = grind (arith, nat_tests)

some_value : (n : ℕ) (x : Option ℕ) → n < 4294967296 → x ≡ Some n → n ≡ or_zero x
some_value n x h e = sym (ap or_zero e ∙ ap (λ b. if b then n else 0) (less n h))

no_value : (x : Option ℕ) → is_below 4294967296 x ≡ false → 0 ≡ or_zero x
no_value None h = refl
no_value (Some n) h = sym (ap (λ b. if b then n else 0) h)

pub value_some : (n : ℕ) (ds left : List ℕ) → n < 4294967296 → Reads (integer (before_dot ds)) ds (Some (n, left))
    → n ≡ or_zero (integer (before_dot ds))
value_some n ds left h r = some_value n _ h r.0

pub value_none : (ds : List ℕ) → Reads (integer (before_dot ds)) ds None → 0 ≡ or_zero (integer (before_dot ds))
value_none ds r = no_value (integer (before_dot ds)) r

-- of a whole text
undotted : (cs : List ℕ) → behind_dots cs ≡ [] → before_dot cs ≡ cs
undotted [] h = refl
undotted (c ∷ cs) h = by (c == 46) h (undotted cs)
  where
    by : (v : Bool) → (if v then before_dot cs ∷ behind_dots cs else behind_dots cs) ≡ []
        → (behind_dots cs ≡ [] → before_dot cs ≡ cs) → (if v then [] else c ∷ before_dot cs) ≡ c ∷ cs
    by true g r = cc
    by false g r = ap (λ x. c ∷ x) (r g)

pub whole_some : (n : ℕ) (ds left : List ℕ) → n < 4294967296 → Reads (integer (before_dot ds)) ds (Some (n, left))
    → left ≡ [] → n ≡ or_zero (integer ds)
whole_some n ds left h r e =
    some_value n _ h (ap integer (sym (undotted ds (sym r.1.1 ∙ ap behind_dots e))) ∙ r.0)

pub whole_left : (n c : ℕ) (cs ds left : List ℕ) → Reads (integer (before_dot ds)) ds (Some (n, left)) → left ≡ c ∷ cs
    → 0 ≡ or_zero (integer ds)
unfolding is_index
whole_left n c cs ds left r e = no_value (integer ds) (sym (index_left n c cs ds left r e))

pub whole_none : (ds : List ℕ) → Reads (integer (before_dot ds)) ds None → 0 ≡ or_zero (integer ds)
unfolding is_index
whole_none ds r = no_value (integer ds) (sym (no_index ds r))

pub ruleset wholes = (whole_some, whole_left, whole_none)

-- what is put of a text, up to its first dot and behind it
abbrev field : List ℕ → List Token
field cs = Punct 46 Apart ∷ Literal (plain_decimal cs) ∷ []

pub last_field : (ts us : List Token) (ds left : List ℕ) → IsFrom ds left → left ≡ []
    → ts ≡ us ++ Punct 46 Apart ∷ Literal (plain_decimal (before_dot ds)) ∷ [] → ts ≡ us ++ fields (indices ds)
last_field ts us ds left f e h =
    h ∙ ap (λ x. us ++ fields (before_dot ds ∷ texts_of x)) (ap behind_dots (sym e) ∙ f.1)

pub last_dot : (ts us : List Token) (c : ℕ) (cs ds left : List ℕ) → IsFrom ds left → left ≡ c ∷ cs → cs ≡ []
    → ts ≡ us ++ Punct 46 Apart ∷ Literal (plain_decimal (before_dot ds)) ∷ [] → ts ≡ us ++ fields (indices ds)
last_dot ts us c cs ds left f e g h =
    h ∙ ap (λ x. us ++ fields (before_dot ds ∷ texts_of x)) (behind_last c cs ds left f e g)

pub more_fields : (ts us vs : List Token) (c d : ℕ) (cs ds es left : List ℕ) → IsFrom ds left → left ≡ c ∷ cs
    → cs ≡ d ∷ es → vs ≡ us ++ Punct 46 Apart ∷ Literal (plain_decimal (before_dot ds)) ∷ []
    → ts ≡ vs ++ fields (indices cs) → ts ≡ us ++ fields (indices ds)
more_fields ts us vs c d cs ds es left f e g h i =
    i ∙ ap (λ x. x ++ fields (indices cs)) h
    ∙ append_assoc us (field (before_dot ds)) (fields (indices cs))
    ∙ ap (λ x. us ++ fields (before_dot ds ∷ x)) (behind_more c d cs ds es left f e g)

pub ruleset all_fields = (last_field, last_dot, more_fields)

-- numbers in front
pub fronts_first : (n : ℕ) (x : Tree) → front_fields (seconds n (t.First x)) ≡ []
fronts_first zero x = refl
fronts_first (suc n) x = refl

pub fronts_mark : (cs : List ℕ) (spacing : Spacing) → front_fields (mark_of cs spacing) ≡ []
fronts_mark [] spacing = refl
fronts_mark (c ∷ cs) spacing = refl

pub fronts_elements : {A : Type 0} (c : ℕ) (es : List Element) (f : A → Tree) (o : Option A)
    → front_fields (elements c es (ending f o)) ≡ []
fronts_elements c [] f None = refl
fronts_elements c [] f (Some y) = refl
fronts_elements c (e ∷ es) f o = refl

pub fronts_stop : (x y : Tree) → None ≡ text_of_literal x → front_fields (t.Again x y) ≡ []
fronts_stop (t.ALiteral cs) y e = cc
fronts_stop x y e = refl

pub fronts_more : (x y : Tree) (cs : List ℕ) → Some cs ≡ text_of_literal x
    → front_fields (t.Again x y) ≡ fields (indices cs) ++ front_fields y
fronts_more (t.ALiteral ds) y cs e = let s : ds ≡ cs = cc in ap (λ es. fields (indices es) ++ front_fields y) s
fronts_more x y cs e = cc

pub ruleset fronts = (fronts_stop, fronts_more, fronts_first, fronts_mark, fronts_elements, append_assoc, append-nil)
