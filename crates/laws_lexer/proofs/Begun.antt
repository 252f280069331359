-- Groups that a text has begun, and groups that it ends further on.
use Rattle.std.proofs.Common.{◌≡◌, ℕ, ◌+◌, List, [], ◌∷◌, ◌++◌, length, sym, ap, ◌∙◌, arith, append_assoc}
use Rattle.std.proofs.Common.{length-append}
use Rattle.rust_map.specs.declared.span.Span.{Span}
use Rattle.proc_macro2.specs.Printed.{closing, opening}
use Rattle.proc_macro2.specs.declared.delimiter.Delimiter.{Delimiter}

-- a group begins in the front of a text whose first character stands at the position base
pub record IsBegun (base : ℕ) (front : List ℕ) (x : Span) (d : Delimiter) : Type 0 where
  pub before : List ℕ
  pub inside : List ℕ
  pub joined : front ≡ before ++ (opening d ++ inside)
  pub start_is : x.start ≡ base + length before

abbrev pub AreBegun : ℕ → List ℕ → List Span → List Delimiter → Type 0
AreBegun base front [] [] = Unit {0}
AreBegun base front [] (d ∷ ds) = ⊥
AreBegun base front (x ∷ xs) [] = ⊥
AreBegun base front (x ∷ xs) (d ∷ ds) = IsBegun base front x d × AreBegun base front xs ds

pub begun_on : (base : ℕ) (front cs : List ℕ) (xs : List Span) (ds : List Delimiter) → AreBegun base front xs ds →
    AreBegun base (front ++ cs) xs ds
begun_on base front cs [] [] b = tt
begun_on base front cs [] (d ∷ ds) b = b
begun_on base front cs (x ∷ xs) [] b = b
begun_on base front cs (x ∷ xs) (d ∷ ds) b =
    let i = b.0 in
    let joined : front ++ cs ≡ i.before ++ (opening d ++ (i.inside ++ cs)) =
    ap (λ f. f ++ cs) i.joined ∙ append_assoc i.before (opening d ++ i.inside) cs
    ∙ ap (λ f. i.before ++ f) (append_assoc (opening d) i.inside cs) in (
      record {
        before = i.before;
        inside = i.inside ++ cs;
        joined = joined;
        start_is = i.start_is;
      },
      begun_on base front cs xs ds b.1,
    )

-- a group ends behind the front of a text
pub record IsEnded (base : ℕ) (text front : List ℕ) (x : Span) (d : Delimiter) : Type 0 where
  pub inside : List ℕ
  pub rest : List ℕ
  pub joined : text ≡ front ++ ((inside ++ closing d) ++ rest)
  pub end_is : x.«end» ≡ base + length front + length (inside ++ closing d)

abbrev pub AreEnded : ℕ → List ℕ → List ℕ → List Span → List Delimiter → Type 0
AreEnded base text front [] ds = Unit {0}
AreEnded base text front (x ∷ xs) [] = Unit {0}
AreEnded base text front (x ∷ xs) (d ∷ ds) = IsEnded base text front x d × AreEnded base text front xs ds

pub ended_back : (base : ℕ) (text front cs : List ℕ) (xs : List Span) (ds : List Delimiter) →
    AreEnded base text (front ++ cs) xs ds → AreEnded base text front xs ds
ended_back base text front cs [] ds b = tt
ended_back base text front cs (x ∷ xs) [] b = tt
ended_back base text front cs (x ∷ xs) (d ∷ ds) b =
    let i = b.0 in
    let whole : cs ++ (i.inside ++ closing d) ≡
    (cs ++ i.inside) ++ closing d = sym (append_assoc cs i.inside (closing d)) in
    let joined : text ≡ front ++ (((cs ++ i.inside) ++ closing d) ++ i.rest) =
    i.joined ∙ append_assoc front cs ((i.inside ++ closing d) ++ i.rest)
    ∙ ap (λ f. front ++ f) (sym (append_assoc cs (i.inside ++ closing d) i.rest) ∙ ap (λ f. f ++ i.rest) whole) in
    let counts : length ((cs ++ i.inside) ++ closing d) ≡
    length cs + length (i.inside ++ closing d) = ap length (sym whole) ∙ length-append cs (i.inside ++ closing d) in
    let ends : x.«end» ≡ base + length front + length ((cs ++ i.inside) ++ closing d) =
    let h = i.end_is in let k = length-append front cs in omega arith in (
      record {
        inside = cs ++ i.inside;
        rest = i.rest;
        joined = joined;
        end_is = ends;
      },
      ended_back base text front cs xs ds b.1,
    )
