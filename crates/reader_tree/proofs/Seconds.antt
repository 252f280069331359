-- Seconds behind seconds.
use Rattle.std.specs.Prelude.{◌≡◌, ◌+◌, ◌-◌, ◌≢◌, ◌≤◌, ℕ, zero, suc, refl}
use Rattle.std.proofs.Common.{ap, arith, sym, ◌∙◌}
use Rattle.syn_grammar.specs.Tree as t
use Rattle.syn_grammar.specs.Tree.{Tree}
use Rattle.reader_tree.specs.Forms.{seconds}

pub seconds_sum : (m n : ℕ) (x : Tree) → seconds (m + n) x ≡ seconds n (seconds m x)
seconds_sum m zero x = let e : m + 0 ≡ m = omega arith in rw e refl
seconds_sum m (suc n) x =
    let e : m + suc n ≡ suc (m + n) = omega arith in
    rw e (ap t.Second (seconds_sum m n x))

pub seconds_inside : (m n : ℕ) (x : Tree) → t.Second (seconds (m + n) x) ≡ seconds n (t.Second (seconds m x))
seconds_inside m n x =
    let e : suc (m + n) ≡ suc m + n = omega arith in
    ap (λ k. seconds k x) e ∙ seconds_sum (suc m) n x

pub seconds_less : (n : ℕ) (x : Tree) → n ≢ 0 → t.Second (seconds (n - 1) x) ≡ seconds n x
seconds_less zero x h = absurd (h refl)
seconds_less (suc n) x h = let e : suc n - 1 ≡ n = omega arith in rw e refl

pub seconds_halved : (h n : ℕ) (x : Tree) → h ≤ n → seconds (n - h) (seconds h x) ≡ seconds n x
seconds_halved h n x le = let e : h + (n - h) ≡ n = omega (arith, le) in sym (seconds_sum h (n - h) x)
    ∙ ap (λ k. seconds k x) e

pub ruleset seconds_again = (seconds_sum, seconds_inside, seconds_less)
