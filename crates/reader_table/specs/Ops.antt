-- What the steps of an entry say, in the words of the written grammar.
use Rattle.std.specs.Prelude.{ℕ, zero, suc, cond, nat_le, List, [], ◌∷◌, length, take, drop}
use Rattle.syn_grammar.specs.Gram as g
use Rattle.syn_grammar.specs.Gram.{Gram}
use Rattle.reader_table.specs.Kinds.{kind_of, position_of}
use Rattle.reader_table.specs.Parts.{part_of}
use Rattle.reader_table.specs.Words.{words_of, literals_of, sign_text}
use Rattle.reader_table.specs.Looks.{test_of}
use Rattle.reader_table.specs.Verdicts.{verdict_of}
use Rattle.reader_table.specs.declared.op.Op.{Op}
use Rattle.reader_table.specs.declared.op.Op.TheVariants as ops
use Rattle.reader_table.specs.declared.op.Separator.{Separator}
use Rattle.reader_table.specs.declared.op.Separator.TheVariants as separators

-- the character of a separator
abbrev pub separator_of : Separator → ℕ
separator_of separators.Comma = 44
separator_of separators.Plus = 43

-- Of steps in a row the first says how many of those behind it each part but the last takes; k bounds their number.
abbrev pub gram_within : ℕ → List Op → Gram
gram_within zero is = g.never
gram_within (suc k) [] = g.never
gram_within (suc k) (ops.Word w ∷ is) = g.word (words_of w)
gram_within (suc k) (ops.Literal w ∷ is) = g.literal (literals_of w)
gram_within (suc k) (ops.Mark s ∷ is) = g.punct (sign_text s)
gram_within (suc k) (ops.Lifetime ∷ is) = g.lifetime
gram_within (suc k) (ops.Raw ∷ is) = g.raw
gram_within (suc k) (ops.Nothing ∷ is) = g.nothing
gram_within (suc k) (ops.Never ∷ is) = g.never
gram_within (suc k) (ops.Seq n ∷ is) =
    cond (nat_le n (length is)) (g.seq (gram_within k (take n is)) (gram_within k (drop n is))) g.never
gram_within (suc k) (ops.Alt t n ∷ is) =
    cond (nat_le n (length is)) (g.alt (test_of t) (gram_within k (take n is)) (gram_within k (drop n is))) g.never
gram_within (suc k) (ops.Star t ∷ is) = g.star (test_of t) (gram_within k is)
gram_within (suc k) (ops.Many t c ∷ is) = g.many (test_of t) (separator_of c) (gram_within k is)
gram_within (suc k) (ops.Group d ∷ is) = g.group d (gram_within k is)
gram_within (suc k) (ops.Judged v ∷ is) = g.judged (verdict_of v) (gram_within k is)
gram_within (suc k) (ops.Dropped ∷ is) = g.dropped (gram_within k is)
gram_within (suc k) (ops.Called n ∷ is) = g.called (part_of n) (gram_within k is)
gram_within (suc k) (ops.Ref j ∷ is) = g.ref (kind_of j)
gram_within (suc k) (ops.Operand p n ∷ is) = g.operand (position_of p) n

-- what an entry says
abbrev pub gram_of : List Op → Gram
gram_of is = gram_within (length is) is
