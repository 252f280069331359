-- Lists that are done from the front.
use Rattle.std.proofs.Common.{◌≡◌, ℕ, ◌+◌, ◌-◌, ◌<◌, List, ◌++◌, length, take, drop, sym, ap, ◌∙◌, subst, arith}
use Rattle.std.proofs.Common.{append_assoc, take-append-drop, length-append, length-drop}
use lib.Seq.{take-append_seam, take-add}
use Rattle.std.specs.Prelude.{Option}
use Rattle.std.proofs.lemmas.List.{take_rest}
use Rattle.std.specs.Io.KnownBytes.{Appends, Consumes}
use Rattle.std.proofs.KnownBytes.{Consumes-trans}
use Rattle.canon_io.specs.Bytes.{AppendsFront}

-- n more are done, and the others stay
pub done_more : (all done rest : List ℕ) (n : ℕ) → all ≡ done ++ rest →
    all ≡ (done ++ take n rest) ++ take (length rest - n) (drop n rest)
done_more all done rest n split =
    split ∙ ap (λ l. done ++ l) (sym (take-append-drop n rest)) ∙ sym (append_assoc done (take n rest) (drop n rest))
    ∙ ap (λ l. (done ++ take n rest) ++ l) (sym (take_rest rest n))

-- where some are left, those that are done are a front
pub AppendsFront-done : (old new : Option (List ℕ)) (all done rest : List ℕ) → all ≡ done ++ rest → 0 < length rest →
    Appends old new done → AppendsFront old new all
AppendsFront-done old new all done rest split more appended =
    let short : length done < length all = omega (arith, ap length split, length-append done rest) in (
      length done,
      short,
      subst (Appends old new) (sym (ap (take (length done)) split
          ∙ take-append_seam done rest)) appended,
    )

-- the first f of xs were consumed, and then n more, which stand behind them in ys
pub Consumes-filled : (a b c : Option (List ℕ)) (xs ys : List ℕ) (f n : ℕ) → take f ys ≡ take f xs
    → Consumes a b (take f xs) → Consumes b c (take n (drop f ys)) → Consumes a c (take (f + n) ys)
Consumes-filled a b c xs ys f n front before read =
    subst (Consumes a c) (ap (λ l. l ++ take n (drop f ys)) (sym front)
    ∙ sym (take-add f n ys)) (Consumes-trans a b c _ _ before read)

-- where none is left of some, n is not 0
pub some_done : (rest : List ℕ) (n : ℕ) → 0 < length rest → length (take (length rest - n) (drop n rest)) ≡ 0 → 0 < n
some_done rest n some none = omega (arith, length-drop n rest, ap length (take_rest rest n))
