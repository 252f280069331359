-- The forests of files and their lexical faults: each file has one or the other, and one alone.
use Rattle.std.proofs.Common.{◌≡◌, ℕ, ◌+◌, arith, List, ◌++◌, length, length-append, refl, sym, ap, ◌∙◌, subst}
use Rattle.std.proofs.Common.{⊎_elim, inl, inr}
use Rattle.std.specs.Prelude.{true, ◌⊎◌, Option, Some, None}
use Rattle.std.proofs.lemmas.Bool.{cases_Bool}
use Rattle.rust_map.specs.Places.{place_of}
use Rattle.rust_map.specs.declared.place.LineColumn.{LineColumn}
use Rattle.rust_lex.specs.Chars.{is_not_feed, past}
use Rattle.rust_lex.specs.Shebang.{begins_shebang}
use Rattle.rust_lex.proofs.Ends.{passed}
use Rattle.proc_macro2.specs.Token.{Spanned}
use Rattle.proc_macro2.specs.Forest.{IsFaultBehind, IsForest}
use Rattle.proc_macro2.specs.FileForest.{HasShebang, IsFileFaultBehind, IsFileForest, IsFileLexicalFault, NoShebang}
use Rattle.proc_macro2.specs.FileForest.{behind_mark}
use Rattle.proc_macro2.proofs.Halts.{no_forest, one_behind}
use Rattle.proc_macro2.proofs.OneForest.{one_forest}
use Rattle.proc_macro2.proofs.Shebangs.{has_shebang, marked_of, one_shebang, shebang_there}
use Rattle.proc_macro2.proofs.Total.{forest_or_fault}

pub one_file_forest : (base : ℕ) (text : List ℕ) (shebang other : Option (List ℕ)) (ts us : List Spanned)
    → IsFileForest base text shebang ts → IsFileForest base text other us → (shebang ≡ other) × (ts ≡ us)
one_file_forest base text None None ts us f g = (refl, one_forest base text ts us f.1 g.1)
one_file_forest base text None (Some line) ts us f g =
    absurd (shebang_there text line g.rest g.count g.shebang f.0)
one_file_forest base text (Some line) None ts us f g =
    absurd (shebang_there text line f.rest f.count f.shebang g.0)
one_file_forest base text (Some line) (Some other) ts us f g =
    let (lines, rests, counts) = one_shebang text line other f.rest g.rest f.count g.count f.shebang g.shebang in
    let same : IsForest (base + g.count) g.rest ts =
    subst (λ n. IsForest (base + n) g.rest ts) counts (subst (λ r. IsForest (base + f.count) r ts) rests f.forest) in
    (ap (λ l. Some l) lines, one_forest (base + g.count) g.rest ts us same g.forest)

pub no_file_forest : (base : ℕ) (text : List ℕ) (place : LineColumn) (shebang : Option (List ℕ)) (ts : List Spanned)
    → IsFileLexicalFault text place → IsFileForest base text shebang ts → ⊥
no_file_forest base text place None ts (n, fault, e) f =
    ⊎_elim
    (λ a. no_forest base text (place_of text n) ts (n, a.1, refl) f.1)
    (λ a. shebang_there text a.line a.rest a.count a.shebang f.0)
    fault
no_file_forest base text place (Some line) ts (n, fault, e) f =
    ⊎_elim
    (λ a. shebang_there text line f.rest f.count f.shebang a.0)
    (λ a.
    let (lines, rests, counts) = one_shebang text a.line line a.rest f.rest a.count f.count a.shebang f.shebang in
    no_forest (base + f.count) f.rest (place_of f.rest a.behind) ts
    (a.behind, subst (λ r. IsFaultBehind r a.behind) rests a.fault, refl)
    f.forest)
    fault

one_file_behind : (text : List ℕ) (n m : ℕ) → IsFileFaultBehind text n → IsFileFaultBehind text m → n ≡ m
one_file_behind text n m f g =
    ⊎_elim
    (λ a. ⊎_elim
    (λ b. one_behind text n m a.1 b.1)
    (λ b. absurd (shebang_there text b.line b.rest b.count b.shebang a.0))
    g)
    (λ a. ⊎_elim
    (λ b. absurd (shebang_there text a.line a.rest a.count a.shebang b.0))
    (λ b.
    let (lines, rests, counts) = one_shebang text a.line b.line a.rest b.rest a.count b.count a.shebang b.shebang in
    let same = one_behind b.rest a.behind b.behind (subst (λ r. IsFaultBehind r a.behind) rests a.fault) b.fault in
    a.there ∙ ap (λ k. k + a.behind) counts ∙ ap (λ k. b.count + k) same ∙ sym b.there)
    g)
    f

pub one_file_fault : (text : List ℕ) (p q : LineColumn) → IsFileLexicalFault text p → IsFileLexicalFault text q → p ≡ q
one_file_fault text p q (n, f, e) (m, g, h) = e ∙ ap (place_of text) (one_file_behind text n m f g) ∙ sym h

abbrev IsFileAnswered : ℕ → List ℕ → Type 0
IsFileAnswered base text =
    ((shebang : Option (List ℕ)) × (ts : List Spanned) × IsFileForest base text shebang ts)
    ⊎ ((place : LineColumn) × IsFileLexicalFault text place)

-- a text that begins with a shebang has one
record Shebanged (text : List ℕ) : Type 0 where
  pub line : List ℕ
  pub rest : List ℕ
  pub count : ℕ
  pub shebang : HasShebang text line rest count

shebang_of : (text : List ℕ) → begins_shebang (behind_mark text) ≡ true → Shebanged text
shebang_of text begun =
    let m = marked_of text in
    let p = passed is_not_feed (behind_mark text) in
    let rest = past is_not_feed (behind_mark text) in
    let all : length text ≡ length (m.mark ++ behind_mark text) = ap length m.joined in
    let behind : length (behind_mark text) ≡ length (p.front ++ rest) = ap length p.joined in
    record {
      line = p.front;
      rest = rest;
      count = length m.mark + length p.front;
      shebang = has_shebang text p.front rest (length m.mark + length p.front) begun p.joined refl
          (omega (arith, all, behind, length-append m.mark (behind_mark text), length-append p.front rest));
    }

-- the fault of what is behind a shebang is the file's
behind_line : (text : List ℕ) (s : Shebanged text) (behind : ℕ) → IsFaultBehind s.rest behind
    → IsFileFaultBehind text (s.count + behind)
behind_line text s behind fault = inr (record {
  line = s.line;
  rest = s.rest;
  count = s.count;
  shebang = s.shebang;
  behind = behind;
  fault = fault;
  there = refl;
})

with_shebang : (base : ℕ) (text : List ℕ) → Shebanged text → IsFileAnswered base text
with_shebang base text s =
    ⊎_elim
    (λ a. inl (Some s.line, a.0, record { rest = s.rest; count = s.count; shebang = s.shebang; forest = a.1 }))
    (λ a. let n = s.count + a.1.0 in inr (place_of text n, (n, behind_line text s a.1.0 a.1.1, refl)))
    (forest_or_fault (base + s.count) s.rest)

without_shebang : (base : ℕ) (text : List ℕ) → NoShebang text → IsFileAnswered base text
without_shebang base text none =
    ⊎_elim
    (λ a. inl (None, a.0, (none, a.1)))
    (λ a. inr (a.0, (a.1.0, inl (none, a.1.1), a.1.2)))
    (forest_or_fault base text)

pub file_forest_or_fault : (base : ℕ) (text : List ℕ) → IsFileAnswered base text
file_forest_or_fault base text =
    ⊎_elim
    (λ begun. with_shebang base text (shebang_of text begun))
    (λ none. without_shebang base text none)
    (cases_Bool (begins_shebang (behind_mark text)))
