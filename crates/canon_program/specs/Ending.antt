-- What the program's status says of a run.
use Rattle.std.specs.Prelude.{◌≡◌, ℕ, List, Option, Result, IfErr, IfSome, OnOk, map, string_bytes}
use Rattle.canon.specs.JoinedRun.{IsJoinedPage}
use Rattle.canon.specs.Message.{status_of}
use Rattle.canon.specs.Run.{IsOutlinePage, IsPage, IsRunFault, Writes, run_limit}
use Rattle.canon.specs.declared.fault.Fault.{Fault}
use Rattle.canon_program.specs.Files.{IsFilesFault, OfFiles}
use Rattle.canon_program.specs.declared.Asked.{Asked}
use Rattle.canon_program.specs.declared.Asked.TheVariants.{Canonical, Outline, Join, Unknown}

-- The status is that of an outcome: where that is no fault, this was written; else the fault is such a one, and nothing
-- was written, or the writer failed.
pub record EndsBy (IsWritten : Type 0) (IsSuch : Fault → Type 0) (status : ℕ)
    (old new : Option (List ℕ)) : Type 0 where
  pub outcome : Result (Unit {0}) Fault
  pub is : status ≡ status_of outcome
  pub page : OnOk outcome IsWritten
  pub fault : IfErr outcome IsSuch
  pub untouched : IfErr outcome (λ f. (f ≡ Fault.Writing → ⊥) → new ≡ old)

-- a run writes such a page of the reader's bytes, or these are at fault
abbrev pub EndsRun : (List ℕ → List ℕ → Type 0) → ℕ → Option (List ℕ) → Option (List ℕ) → Option (List ℕ)
    → Type 0
EndsRun IsSuch status bytes old new =
    EndsBy (IfSome bytes (λ known. Writes (IsSuch known) old new))
    (λ f. IfSome bytes (λ known. IsRunFault run_limit known f)) status old new

-- the canonical form of what the files hold, joined, is written, or they are at fault
abbrev pub EndsJoin : (List ℕ → Option (List ℕ)) → List (List ℕ) → ℕ → Option (List ℕ) → Option (List ℕ)
    → Type 0
EndsJoin held names status old new =
    EndsBy (OfFiles held names (λ texts. Writes (IsJoinedPage texts) old new)) (IsFilesFault held names) status old new

-- by what was asked for: a run that writes the canonical form, or the outline, or what files are joined to, or none,
-- and then the status is 2 and nothing was written
abbrev pub Ends : (List ℕ → Option (List ℕ)) → Asked → ℕ → Option (List ℕ) → Option (List ℕ)
    → Option (List ℕ) → Type 0
Ends held Canonical status bytes old new = EndsRun (IsPage run_limit) status bytes old new
Ends held Outline status bytes old new = EndsRun (IsOutlinePage run_limit) status bytes old new
Ends held (Join names) status bytes old new = EndsJoin held (map string_bytes names.now) status old new
Ends held Unknown status bytes old new = (status ≡ 2) × (new ≡ old)
