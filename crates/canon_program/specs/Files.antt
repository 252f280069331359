-- What the files that a program joins hold, and what is at fault with them.
use Rattle.std.specs.Prelude.{◌≡◌, ℕ, ◌<◌, ◌≤◌, ◌⊎◌, List, [], ◌∷◌, ◌++◌, length}
use Rattle.std.specs.Prelude.{Option, IfSome}
use Rattle.canon.specs.JoinedRun.{IsJoinedFault}
use Rattle.canon.specs.Run.{run_limit}
use Rattle.canon.specs.declared.fault.Fault.{Fault}
use Rattle.canon.specs.declared.fault.Fault.TheVariants.{MapFull, Memory}
use Rattle.canon.specs.declared.fault.Fault.TheVariants.{Reading}

-- What was read of the files of these names, a text for each: what the file holds, where that is known, and no more
-- than the limit.
abbrev pub AreHeld : (List ℕ → Option (List ℕ)) → List (List ℕ) → List (List ℕ) → Type 0
AreHeld held [] [] = Unit {0}
AreHeld held (name ∷ names) (text ∷ texts) =
    (length text ≤ run_limit) × IfSome (held name) (λ bytes. text ≡ bytes) × AreHeld held names texts
AreHeld held _ _ = ⊥

-- why a file was not read: it has more bytes than the limit; it can't be opened, or reading it failed; or memory was
-- refused
abbrev pub IsFileUnread : Option (List ℕ) → Fault → Type 0
IsFileUnread held MapFull = IfSome held (λ bytes. run_limit < length bytes)
IsFileUnread held Reading = Unit {0}
IsFileUnread held Memory = Unit {0}
IsFileUnread held fault = ⊥

-- The first file that was not read decides: those before it were.
pub record IsFirstUnread (held : List ℕ → Option (List ℕ)) (names : List (List ℕ))
    (fault : Fault) : Type 0 where
  pub before : List (List ℕ)
  pub name : List ℕ
  pub others : List (List ℕ)
  pub split : names ≡ before ++ name ∷ others
  pub texts : List (List ℕ)
  pub are : AreHeld held before texts
  pub is : IsFileUnread (held name) fault

-- what was read of all the files is such that this holds of it
abbrev pub OfFiles : (List ℕ → Option (List ℕ)) → List (List ℕ) → (List (List ℕ) → Type 0) → Type 0
OfFiles held names P = (texts : List (List ℕ)) × AreHeld held names texts × P texts

-- The fault of the files: one was not read; or all were, and the fault is that of their texts.
abbrev pub IsFilesFault : (List ℕ → Option (List ℕ)) → List (List ℕ) → Fault → Type 0
IsFilesFault held names fault =
    IsFirstUnread held names fault ⊎ OfFiles held names (λ texts. IsJoinedFault texts fault)
