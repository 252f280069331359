-- From what was formed of a text to the page of its bytes.
use Rattle.std.proofs.Common.{◌≡◌, ℕ, ◌+◌, ◌^◌, ◌<◌, ◌≤◌, List, [], ◌∷◌, ◌++◌, length}
use Rattle.std.proofs.Common.{refl, sym, ap, ap₂, ◌∙◌, arith, subst}
use Rattle.std.specs.Prelude.{Option, None, Some, Result, Ok, Err, IfErr, IfSome, encode_utf8, encode_utf8_all}
use Rattle.std.specs.Result.{IsErrAnd}
use Rattle.std.specs.Str.{chars, IsUtf8}
use Rattle.std.proofs.lemmas.Str.{encodes-chars, length-le-encodes}
use Rattle.laws_programs.specs.Program.{IsOutput}
use Rattle.canon.specs.Faults.{IsFaultOf}
use Rattle.canon.specs.Outline.{IsOutline}
use Rattle.canon.specs.Run.{IsOutlinePage, IsPage, IsRunFault, rows_text, run_limit}
use Rattle.canon.specs.declared.outlines.Row.{Row}
use Rattle.canon.specs.declared.fault.Fault.{Fault}
use Rattle.canon.specs.declared.fault.Fault.TheVariants.{NotUtf8, Lexical, Syntax, NotFirst, MapFull, Memory}
use Rattle.canon.specs.declared.fault.Fault.TheVariants.{Reading, Writing}

pub line_feed : encode_utf8 10 ≡ 10 ∷ []
unfolding lib.Utf8.encode
line_feed = refl

-- the output and a line feed are the page
pub page_is : (bytes out page : List ℕ) → length bytes ≤ run_limit → IsUtf8 bytes → IsUtf8 out →
    IsOutput (chars bytes) (chars out) → page ≡ out ++ encode_utf8 10 → IsPage run_limit bytes page
page_is bytes out page short utf8 written o e = record {
  short = short;
  text = utf8;
  output = chars out;
  canonical = o;
  is = e ∙ ap₂ (λ x y. x ++ y) (sym (encodes-chars out written)) line_feed;
}

-- the lines of the rows are the page
pub outline_page_is : (bytes page : List ℕ) (rows : List Row) → length bytes ≤ run_limit → IsUtf8 bytes → IsUtf8 page →
    IsOutline (chars bytes) rows → chars page ≡ rows_text rows → IsOutlinePage run_limit bytes page
outline_page_is bytes page rows short utf8 written o e = record {
  short = short;
  text = utf8;
  rows = rows;
  outline = o;
  is = sym (encodes-chars page written) ∙ ap encode_utf8_all e;
}

-- a map of its own has room for a text that is short enough
room : (bytes : List ℕ) → length bytes ≤ run_limit → IsUtf8 bytes → 2 ^ 32 ≤ 1 + length (chars bytes) → ⊥
room bytes short utf8 full =
    omega (arith, full, length-le-encodes (chars bytes), ap length (encodes-chars bytes utf8))

-- a fault of a text that is short enough is the run's
pub run_fault : (bytes : List ℕ) (fault : Fault) → length bytes ≤ run_limit → IsUtf8 bytes →
    IsFaultOf (chars bytes) fault → (fault ≡ MapFull → 2 ^ 32 ≤ 1 + length (chars bytes)) →
    IsRunFault run_limit bytes fault
run_fault bytes (Lexical place) short utf8 f full = (short, utf8, f)
run_fault bytes (Syntax error place) short utf8 f full = (short, utf8, f)
run_fault bytes MapFull short utf8 f full = absurd (room bytes short utf8 (full refl))
run_fault bytes Memory short utf8 f full = tt
run_fault bytes NotUtf8 short utf8 f full = absurd f
run_fault bytes (NotFirst index) short utf8 f full = absurd f
run_fault bytes Reading short utf8 f full = absurd f
run_fault bytes Writing short utf8 f full = absurd f

-- what an error is, it is as one of another kind
pub error_as : {A : Type 0} (r : Result A Fault) (P Q : Fault → Type 0) → IsErrAnd r P → ((f : Fault) → P f → Q f) →
    IfErr r Q
error_as (Ok x) P Q e h = absurd e
error_as (Err f) P Q e h = h f e

-- no more bytes than a limit are no more than the largest
not_past : (limit : ℕ) (bytes : List ℕ) → length bytes ≤ limit → limit ≤ run_limit → run_limit < length bytes → ⊥
not_past limit bytes short most past = omega (arith, past, short, most)

-- a fault of bytes by the largest limit is one by each limit that they keep to
within_limit : (limit : ℕ) (bytes : List ℕ) (fault : Fault) → length bytes ≤ limit → limit ≤ run_limit →
    IsRunFault run_limit bytes fault → IsRunFault limit bytes fault
within_limit limit bytes (Lexical place) short most f = (short, f.1, f.2)
within_limit limit bytes (Syntax error place) short most f = (short, f.1, f.2)
within_limit limit bytes NotUtf8 short most f = (short, f.1)
within_limit limit bytes (NotFirst index) short most f = absurd f
within_limit limit bytes MapFull short most f = absurd (not_past limit bytes short most f)
within_limit limit bytes Memory short most f = tt
within_limit limit bytes Reading short most f = tt
within_limit limit bytes Writing short most f = tt

-- a fault of all bytes that were left is one by the limit that they keep to
pub fault_of_rest : {A : Type 0} (r : Result A Fault) (rest : Option (List ℕ)) (bytes : List ℕ) (limit : ℕ) →
    IfSome rest (λ xs. bytes ≡ xs) → length bytes ≤ limit → limit ≤ run_limit →
    IfErr r (IsRunFault run_limit bytes) → IfErr r (λ f. IfSome rest (λ xs. IsRunFault limit xs f))
fault_of_rest (Ok x) rest bytes limit all short most f = tt
fault_of_rest (Err fault) None bytes limit all short most f = tt
fault_of_rest (Err fault) (Some xs) bytes limit all short most f =
    subst (λ (ys : List ℕ). IsRunFault limit ys fault) all (within_limit limit bytes fault short most f)
