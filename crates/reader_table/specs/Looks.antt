-- What looks see, in the words of the written grammar.
use Rattle.std.specs.Prelude.{ℕ, zero, suc, Bool, cond, nat_le, None, List, [], ◌∷◌, length, take, drop}
use Rattle.proc_macro2.specs.Token.{Token}
use Rattle.syn_grammar.specs.Look as l
use Rattle.syn_grammar.specs.Look.{◌then◌, ◌or◌}
use Rattle.reader_table.specs.Composites.{composite_of}
use Rattle.reader_table.specs.Words.{words_of, literals_of, sign_text}
use Rattle.reader_table.specs.declared.op.Look.{Look}
use Rattle.reader_table.specs.declared.op.Look.TheVariants as looks
use Rattle.reader_table.specs.declared.op.Test.{Test}
use Rattle.reader_table.specs.declared.op.Test.TheVariants as tests
use Rattle.reader_table.specs.declared.op.Sight.{Sight}
use Rattle.reader_table.specs.declared.op.Sight.TheVariants as sights

abbrev pub nowhere : l.Look
nowhere ts = None

abbrev pub look_of : Look → l.Look
look_of (looks.Word w) = l.a_word (words_of w)
look_of (looks.Quoted w) = l.a_quoted (literals_of w)
look_of (looks.Mark s) = l.the_mark (sign_text s)
look_of looks.Lifetime = l.a_lifetime
look_of (looks.Opens d) = l.opens d
look_of looks.End = l.the_end
look_of looks.Nowhere = nowhere
look_of (looks.Composite c) = composite_of c

abbrev pub test_of : Test → List Token → Bool
test_of (tests.Sees a) = l.sees (look_of a)
test_of (tests.Lacks a) = l.lacks (look_of a)

-- Of steps in a row the first says how many of those behind it each part but the last takes; k bounds their number.
abbrev pub sights_within : ℕ → List Sight → l.Look
sights_within zero is = nowhere
sights_within (suc k) [] = nowhere
sights_within (suc k) (sights.Word w ∷ is) = l.a_word (words_of w)
sights_within (suc k) (sights.Quoted w ∷ is) = l.a_quoted (literals_of w)
sights_within (suc k) (sights.Mark s ∷ is) = l.the_mark (sign_text s)
sights_within (suc k) (sights.Lifetime ∷ is) = l.a_lifetime
sights_within (suc k) (sights.Opens d ∷ is) = l.opens d
sights_within (suc k) (sights.Opening ∷ is) = l.opening
sights_within (suc k) (sights.Closes ∷ is) = l.closes
sights_within (suc k) (sights.Group d ∷ is) = l.a_group d
sights_within (suc k) (sights.PastFirst c ∷ is) = l.past_first c 0
sights_within (suc k) (sights.PastLiterals w ∷ is) = l.past_literals (literals_of w)
sights_within (suc k) (sights.End ∷ is) = l.the_end
sights_within (suc k) (sights.Nowhere ∷ is) = nowhere
sights_within (suc k) (sights.Then n ∷ is) =
    cond (nat_le n (length is)) (sights_within k (take n is) then sights_within k (drop n is)) nowhere
sights_within (suc k) (sights.Or n ∷ is) =
    cond (nat_le n (length is)) (sights_within k (take n is) or sights_within k (drop n is)) nowhere
sights_within (suc k) (sights.Maybe ∷ is) = l.maybe (sights_within k is)
sights_within (suc k) (sights.No ∷ is) = l.no (sights_within k is)
sights_within (suc k) (sights.Repeatedly ∷ is) = l.repeatedly (sights_within k is)

abbrev pub sights_of : List Sight → l.Look
sights_of is = sights_within (length is) is
