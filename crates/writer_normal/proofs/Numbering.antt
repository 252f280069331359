-- Fields by the indices of a text, up to its dots and behind them.
use Rattle.std.proofs.Common.{◌≡◌, ℕ, List, [], ◌∷◌, sym, ap, ◌∙◌}
use Rattle.std.specs.Fmt.{decimal}
use Rattle.syn_grammar.specs.Kept.{index_field, index_fields, lone_dot}
use Rattle.syn_grammar.specs.Kind.{ExprField}
use Rattle.syn_grammar.specs.Name.{the_indices, the_value}
use Rattle.syn_grammar.specs.Tree as t
use Rattle.syn_grammar.specs.Tree.{Tree}
use Rattle.syn_grammar.specs.Words.{before_dot, behind_dots, indices, integer, or_zero, plain_decimal, texts_of}
use Rattle.reader_tokens.specs.Texts.{IsFrom}
use Rattle.reader_tokens.proofs.Dots.{behind_last, behind_more}

abbrev field : Tree → ℕ → Tree
field l n = t.Back l ExprField
    (t.Pair (t.Pair lone_dot (t.Called the_indices t.End)) (t.Second (t.Called the_value (t.ALiteral (decimal n)))))

field_is : (l : Tree) (n : ℕ) (ds : List ℕ) → n ≡ or_zero (integer (before_dot ds))
    → field l n ≡ index_field l (before_dot ds)
unfolding plain_decimal
field_is l n ds e = ap (field l) e

pub last_index : (x l : Tree) (n : ℕ) (ds left : List ℕ) → IsFrom ds left → left ≡ []
    → n ≡ or_zero (integer (before_dot ds)) → x ≡ field l n → x ≡ index_fields l (indices ds)
last_index x l n ds left f e v h =
    h ∙ field_is l n ds v ∙ ap (λ z. index_fields l (before_dot ds ∷ texts_of z)) (ap behind_dots (sym e) ∙ f.1)

pub last_dot : (x l : Tree) (n c : ℕ) (cs ds left : List ℕ) → IsFrom ds left → left ≡ c ∷ cs → cs ≡ []
    → n ≡ or_zero (integer (before_dot ds)) → x ≡ field l n → x ≡ index_fields l (indices ds)
last_dot x l n c cs ds left f e g v h =
    h ∙ field_is l n ds v ∙ ap (λ z. index_fields l (before_dot ds ∷ texts_of z)) (behind_last c cs ds left f e g)

pub more_indices : (x y l : Tree) (n c d : ℕ) (cs ds es left : List ℕ) → IsFrom ds left → left ≡ c ∷ cs
    → cs ≡ d ∷ es → n ≡ or_zero (integer (before_dot ds)) → y ≡ field l n → x ≡ index_fields y (indices cs)
    → x ≡ index_fields l (indices ds)
more_indices x y l n c d cs ds es left f e g v h i =
    i ∙ ap (λ z. index_fields z (indices cs)) (h ∙ field_is l n ds v)
    ∙ ap (index_fields (index_field l (before_dot ds))) (behind_more c d cs ds es left f e g)

pub ruleset all_fields = (last_index, last_dot, more_indices)
