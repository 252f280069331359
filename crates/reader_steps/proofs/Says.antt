-- What steps in a row say, one step at a time.
use Rattle.std.proofs.Common.{◌≡◌, ℕ, zero, suc, ◌+◌, ◌<◌, ◌≤◌, List, [], ◌∷◌, length, take, drop, refl, sym, ap, ◌∙◌}
use Rattle.std.proofs.Common.{arith}
use Rattle.std.proofs.Common.{length-drop, length-take}
use Rattle.std.specs.Prelude.{Bool, true, false, cond, nat_le}
use Rattle.proc_macro2.specs.Token.{Token}
use Rattle.syn_grammar.specs.Gram as g
use Rattle.syn_grammar.specs.Gram.{Gram}
use Rattle.reader_table.specs.Looks.{test_of}
use Rattle.reader_table.specs.Ops.{gram_of, gram_within, separator_of}
use Rattle.reader_table.specs.Verdicts.{verdict_of}
use Rattle.reader_table.specs.Parts.{part_of}
use Rattle.reader_table.specs.declared.op.Op.{Op}
use Rattle.reader_table.specs.declared.op.Op.TheVariants as ops
use Rattle.reader_table.specs.declared.op.Test.{Test}

-- any bound that is no less than their number serves
same : (k m : ℕ) (is : List Op) → length is ≤ k → length is ≤ m → gram_within k is ≡ gram_within m is
same zero zero is h l = refl
same zero (suc m) [] h l = refl
same zero (suc m) (i ∷ is) h l = absurd (omega arith)
same (suc k) zero [] h l = refl
same (suc k) zero (i ∷ is) h l = absurd (omega arith)
same (suc k) (suc m) [] h l = refl
same (suc k) (suc m) (ops.Word w ∷ is) h l = refl
same (suc k) (suc m) (ops.Literal w ∷ is) h l = refl
same (suc k) (suc m) (ops.Mark s ∷ is) h l = refl
same (suc k) (suc m) (ops.Lifetime ∷ is) h l = refl
same (suc k) (suc m) (ops.Raw ∷ is) h l = refl
same (suc k) (suc m) (ops.Nothing ∷ is) h l = refl
same (suc k) (suc m) (ops.Never ∷ is) h l = refl
same (suc k) (suc m) (ops.Seq n ∷ is) h l =
    ap (λ a. cond (nat_le n (length is)) (g.seq a (gram_within k (drop n is))) g.never)
    (same k m (take n is) (omega (arith, length-take n is)) (omega (arith, length-take n is)))
    ∙ ap (λ b. cond (nat_le n (length is)) (g.seq (gram_within m (take n is)) b) g.never)
    (same k m (drop n is) (omega (arith, length-drop n is)) (omega (arith, length-drop n is)))
same (suc k) (suc m) (ops.Alt t n ∷ is) h l =
    ap (λ a. cond (nat_le n (length is)) (g.alt (test_of t) a (gram_within k (drop n is))) g.never)
    (same k m (take n is) (omega (arith, length-take n is)) (omega (arith, length-take n is)))
    ∙ ap (λ b. cond (nat_le n (length is)) (g.alt (test_of t) (gram_within m (take n is)) b) g.never)
    (same k m (drop n is) (omega (arith, length-drop n is)) (omega (arith, length-drop n is)))
same (suc k) (suc m) (ops.Star t ∷ is) h l = ap (g.star (test_of t)) (same k m is (omega arith) (omega arith))
same (suc k) (suc m) (ops.Many t c ∷ is) h l =
    ap (g.many (test_of t) (separator_of c)) (same k m is (omega arith) (omega arith))
same (suc k) (suc m) (ops.Group d ∷ is) h l = ap (g.group d) (same k m is (omega arith) (omega arith))
same (suc k) (suc m) (ops.Judged v ∷ is) h l = ap (g.judged (verdict_of v)) (same k m is (omega arith) (omega arith))
same (suc k) (suc m) (ops.Dropped ∷ is) h l = ap g.dropped (same k m is (omega arith) (omega arith))
same (suc k) (suc m) (ops.Called n ∷ is) h l = ap (g.called (part_of n)) (same k m is (omega arith) (omega arith))
same (suc k) (suc m) (ops.Ref j ∷ is) h l = refl
same (suc k) (suc m) (ops.Operand p n ∷ is) h l = refl

within_front : (n : ℕ) (is : List Op) → gram_within (length is) (take n is) ≡ gram_of (take n is)
within_front n is =
    same (length is) (length (take n is)) (take n is) (omega (arith, length-take n is)) (omega arith)

within_back : (n : ℕ) (is : List Op) → gram_within (length is) (drop n is) ≡ gram_of (drop n is)
within_back n is =
    same (length is) (length (drop n is)) (drop n is) (omega (arith, length-drop n is)) (omega arith)

-- a part that takes so many steps, and then another
pub says_seq : (n : ℕ) (is xs ys : List Op) → nat_le n (length is) ≡ true → xs ≡ take n is → ys ≡ drop n is
    → gram_of (ops.Seq n ∷ is) ≡ g.seq (gram_of xs) (gram_of ys)
says_seq n is xs ys h p q =
    ap (λ b. cond b (g.seq (gram_within (length is) (take n is)) (gram_within (length is) (drop n is))) g.never) h
    ∙ ap (λ a. g.seq a (gram_within (length is) (drop n is))) (within_front n is ∙ ap gram_of (sym p))
    ∙ ap (g.seq (gram_of xs)) (within_back n is ∙ ap gram_of (sym q))

pub says_alt : (t : Test) (n : ℕ) (is xs ys : List Op) → nat_le n (length is) ≡ true → xs ≡ take n is → ys ≡ drop n is
    → gram_of (ops.Alt t n ∷ is) ≡ g.alt (test_of t) (gram_of xs) (gram_of ys)
says_alt t n is xs ys h p q =
    ap (λ b. cond b (g.alt (test_of t) (gram_within (length is) (take n is)) (gram_within (length is) (drop n is)))
    g.never) h
    ∙ ap (λ a. g.alt (test_of t) a (gram_within (length is) (drop n is))) (within_front n is ∙ ap gram_of (sym p))
    ∙ ap (g.alt (test_of t) (gram_of xs)) (within_back n is ∙ ap gram_of (sym q))

-- where there aren't so many, nothing is read
pub no_seq : (n : ℕ) (is : List Op) → nat_le n (length is) ≡ false → gram_of (ops.Seq n ∷ is) ≡ g.never
no_seq n is h =
    ap (λ b. cond b (g.seq (gram_within (length is) (take n is)) (gram_within (length is) (drop n is))) g.never) h

pub no_alt : (t : Test) (n : ℕ) (is : List Op) → nat_le n (length is) ≡ false → gram_of (ops.Alt t n ∷ is) ≡ g.never
no_alt t n is h =
    ap (λ b. cond b (g.alt (test_of t) (gram_within (length is) (take n is)) (gram_within (length is) (drop n is)))
    g.never) h
