-- What texts are joined to, as it is made and as it is said.
use Rattle.std.proofs.Common.{◌≡◌, ℕ, List, [], ◌∷◌, ◌++◌, Bor, refl, sym, ap, ◌∙◌, subst}
use Rattle.std.proofs.lemmas.List.{append-nil}
use Rattle.std.proofs.lemmas.Str.{chars-append, chars-nil}
use Rattle.std.specs.List.{flat_map, join_by}
use Rattle.std.specs.Prelude.{Result, Ok, Err, IfErr, IfOk, OnOk}
use Rattle.std.specs.Result.{IsErrAnd}
use Rattle.std.specs.Str.{chars, IsUtf8}
use Rattle.rust_leaf.proofs.Texts.{ascii_word, chars_behind}
use Rattle.laws_programs.specs.Joined.{joined}
use Rattle.canon.specs.Joined.{texts_of}
use Rattle.canon.specs.JoinedRun.{AreUtf8, bytes_of}
use Rattle.canon.specs.declared.fault.Fault.{Fault}

abbrev behind_line : Bor (List ℕ) → List ℕ
behind_line t = (10 ∷ []) ++ t.now

others : (t : List ℕ) (ts : List (Bor (List ℕ))) → IsUtf8 t → AreUtf8 (bytes_of ts)
    → chars (t ++ flat_map behind_line ts) ≡ joined (chars t ∷ texts_of ts)
others t [] h k = ap chars (append-nil t)
others t (u ∷ us) h k =
    chars-append t (flat_map behind_line (u ∷ us)) h
    ∙ ap (λ cs. chars t ++ cs) (chars_behind (10 ∷ []) (u.now ++ flat_map behind_line us) (ascii_word (10 ∷ []) refl)
    ∙ ap (λ cs. 10 ∷ cs) (others u.now us k.0 k.1))

-- the characters of joined bytes
pub joined_characters : (ts : List (Bor (List ℕ))) → AreUtf8 (bytes_of ts)
    → chars (join_by (λ t. t.now) (10 ∷ []) ts) ≡ joined (texts_of ts)
joined_characters [] h = chars-nil
joined_characters (t ∷ ts) h = others t.now ts h.0 h.1

-- what is said of an outcome

pub error_is : {A : Type 0} (r : Result A Fault) (P : Fault → Type 0) (fault : Fault) → IsErrAnd r P
    → ((f : Fault) → P f → f ≡ fault) → r ≡ Err fault
error_is (Ok x) P fault e h = absurd e
error_is (Err f) P fault e h = ap Err (h f e)

pub ok_as : {A : Type 0} (r : Result A Fault) (P Q : A → Type 0) → IfOk r P → ((x : A) → P x → Q x) → IfOk r Q
ok_as (Ok x) P Q p h = h x p
ok_as (Err f) P Q p h = tt

pub err_as : {A : Type 0} (r : Result A Fault) (P Q : Fault → Type 0) → IfErr r P
    → ((f : Fault) → r ≡ Err f → P f → Q f) → IfErr r Q
err_as (Ok x) P Q p h = tt
err_as (Err f) P Q p h = h f refl p

pub on_ok : {A : Type 0} (r : Result A Fault) (P Q : Type 0) → OnOk r P → ((x : A) → r ≡ Ok x → P → Q) → OnOk r Q
on_ok (Ok x) P Q p h = h x refl p
on_ok (Err f) P Q p h = tt

pub same_fault : {A : Type 0} (r : Result A Fault) (f g : Fault) → r ≡ Err f → r ≡ Err g → f ≡ g
same_fault {A = A} r f g e h = same (sym e ∙ h)
  where
    same : ◌≡◌ {A = Result A Fault} (Err f) (Err g) → f ≡ g
    same e = cc

pub err_here : {A : Type 0} (r : Result A Fault) (P : Fault → Type 0) (f : Fault) → IfErr r P → r ≡ Err f → P f
err_here (Ok x) P f p e = cc
err_here (Err g) P f p e = subst P (same_fault (Err g) g f refl e) p
