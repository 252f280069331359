use Rattle.std.proofs.Common.{ℕ, List, ◌++◌, length, take, sym, ap, ◌∙◌}
use Rattle.std.proofs.Math.Seq.{take-length}
use Rattle.std.specs.Prelude.{Option, Some, None, Result, Ok, Err, OnErr}
use Rattle.std.specs.Io.KnownBytes.{Appends, Keeps}
use Rattle.canon.proofs.runs.put_page.Goals as goal

-- all of the page was written before
all_written : (old mid new : Option (List ℕ)) (page : List ℕ) → Appends old mid page → Keeps mid new →
    (count : ℕ) × Appends old new (take count page)
all_written None mid new page a k = (0, tt)
all_written (Some xs) None new page a k = absurd a
all_written (Some xs) (Some ys) None page a k = absurd k
all_written (Some xs) (Some ys) (Some zs) page a k =
    (length page, k ∙ a ∙ ap (λ l. xs ++ l) (sym (take-length page)))

on_err : {T E : Type 0} (r : Result T E) (P : Type 0) → P → OnErr r P
on_err (Ok x) P p = tt
on_err (Err e) P p = p

pub returns-in_err-flush_watched-clause-front : goal.returns-in_err-flush_watched-clause-front
returns-in_err-flush_watched-clause-front g c = on_err c.from_residual-in_err-flush_watched.result _
    (all_written _ _ _ c.args.page.now c.in_ok-write_all_watched.ensures.ok c.in_err-flush_watched.ensures.bytes)
