-- What the loop over the units of an inside keeps.
use Rattle.std.proofs.Common.{◌≡◌, ℕ, ◌<◌, ◌≤◌, arith, List, [], ◌∷◌, ◌++◌, length, drop, append_assoc, refl, sym}
use Rattle.std.proofs.Common.{ap, ◌∙◌, subst}
use Rattle.std.specs.Prelude.{Option, Some, None, Ok, Err, option_to_list, encode_utf8_all}
use Rattle.std.specs.Str.{chars}
use Rattle.std.proofs.lemmas.List.{append-nil, length-drop}
use Rattle.std.proofs.lemmas.Str.{encodes-chars}
use Rattle.rust_escape.specs.declared.mode.Mode.{Mode}
use Rattle.rust_escape.specs.LexicalScan.{lexical_scan}
use Rattle.rust_escape.specs.Places.{rest_at, between_places, IsPlace}
use Rattle.rust_escape.specs.Reads.{ReadsUnit}
use Rattle.rust_escape.specs.Scan.{Reads, scan}
use Rattle.rust_escape.specs.Unit.{Rule, Strict, Lexical, IsUnit, plain, escape, skip, return, NoUnit, IsInside}
use Rattle.rust_escape.specs.Unit.{empty, more}
use Rattle.rust_escape.specs.declared.value.Value.{Value}
use Rattle.rust_escape.specs.declared.error.EscapeError.{EscapeError}
use Rattle.rust_escape.specs.declared.read.Reading.{Reading}
use Rattle.rust_escape.proofs.Complete.{unit_read}
use Rattle.rust_escape.proofs.LexicalUnits.{lexical_read}
use Rattle.rust_escape.proofs.PlacesLemmas.{rest_end}

-- a unit has characters
unit_filled : (rule : Rule) (mode : Mode) (cs rest : List ℕ) (v : Option Value) → IsUnit rule mode cs rest v → cs ≡ []
    → ⊥
unit_filled rule mode _ rest _ (plain h) e = cc
unit_filled rule mode _ rest _ (escape r h) e = cc
unit_filled rule mode _ rest _ (skip r d h s) e = cc
unit_filled rule mode _ _ _ (return d) e = cc

front_empty : (xs ys : List ℕ) → [] ≡ xs ++ ys → xs ≡ []
front_empty [] ys e = refl
front_empty (x ∷ xs) ys e = cc

-- two units at the front of one text
pub one_unit : (rule : Rule) (mode : Mode) (cs rest ds after : List ℕ) (v w : Option Value) → cs ++ rest ≡ ds ++ after
    → IsUnit rule mode cs rest v → IsUnit rule mode ds after w → (rest ≡ after) × (v ≡ w)
one_unit Strict mode cs rest ds after v w e h k =
    let first : scan mode (cs ++ rest) ≡ Reads v rest = unit_read Strict mode cs rest v refl h in
    let second : scan mode (ds ++ after) ≡ Reads w after = unit_read Strict mode ds after w refl k in
    let both : Reads v rest ≡ Reads w after = sym first ∙ ap (scan mode) e ∙ second in
    let rests : rest ≡ after = cc in
    let values : v ≡ w = cc in
    (rests, values)
one_unit Lexical mode cs rest ds after v w e h k =
    let first : lexical_scan mode (cs ++ rest) ≡ Reads v rest = lexical_read Lexical mode cs rest v refl h in
    let second : lexical_scan mode (ds ++ after) ≡ Reads w after = lexical_read Lexical mode ds after w refl k in
    let both : Reads v rest ≡ Reads w after = sym first ∙ ap (lexical_scan mode) e ∙ second in
    let rests : rest ≡ after = cc in
    let values : v ≡ w = cc in
    (rests, values)

-- one inside spells one list of values
pub one_list : (rule : Rule) (mode : Mode) (xs ys : List ℕ) (vs ws : List Value) → xs ≡ ys → IsInside rule mode xs [] vs
    → IsInside rule mode ys [] ws → vs ≡ ws
one_list rule mode _ _ _ _ e empty empty = refl
one_list rule mode _ _ _ _ e empty (more {cs = ds} {inside = ys} {value = w} u i) =
    absurd (unit_filled rule mode ds (ys ++ []) w u (front_empty ds ys e))
one_list rule mode _ _ _ _ e (more {cs = cs} {inside = xs} {value = v} u i) empty =
    absurd (unit_filled rule mode cs (xs ++ []) v u (front_empty cs xs (sym e)))
one_list rule mode _ _ _ _ e (more {cs = cs} {inside = xs} {value = v} {values = vs} u i)
    (more {cs = ds} {inside = ys} {value = w} {values = ws} t j) =
    let (rests, same) = one_unit rule mode cs (xs ++ []) ds (ys ++ []) v w
    (sym (append_assoc cs xs []) ∙ ap (λ x. x ++ []) e ∙ append_assoc ds ys []) u t in
    let lists = one_list rule mode xs ys vs ws (sym (append-nil xs) ∙ rests ∙ append-nil ys) i j in
    rw (same, lists) refl

-- behind a unit the inside goes on
goes_behind : (rule : Rule) (mode : Mode) (text cs rest : List ℕ) (v : Option Value) (values : List Value)
    → text ≡ cs ++ rest → IsUnit rule mode cs rest v → IsInside rule mode text [] values
    → (others : List Value) × IsInside rule mode rest [] others
goes_behind rule mode _ cs rest v _ e u empty = absurd (unit_filled rule mode cs rest v u (front_empty cs rest e))
goes_behind rule mode _ cs rest v _ e u (more {cs = ds} {inside = inside} {value = w} {values = ws} t i) =
    let (rests, _) = one_unit rule mode cs rest ds (inside ++ []) v w
    (sym e ∙ sym (append-nil (ds ++ inside)) ∙ append_assoc ds inside []) u t in
    (ws, subst (λ x. IsInside rule mode x [] ws) (sym (rests ∙ append-nil inside)) i)

one_more : (rule : Rule) (mode : Mode) (text cs rest : List ℕ) (v : Option Value) (values : List Value)
    → text ≡ cs ++ rest → IsUnit rule mode cs rest v → IsInside rule mode rest [] values
    → IsInside rule mode text [] (option_to_list v ++ values)
one_more rule mode text cs rest v values e u i =
    subst (λ x. IsInside rule mode x [] (option_to_list v ++ values)) (sym e)
    (more (subst (λ x. IsUnit rule mode cs x v) (sym (append-nil rest)) u) i)

-- the values of the units up to the place are held
pub record HasSpelled {S : Type 0} (holds : S → List Value → Type 0) (rule : Rule) (mode : Mode) (bytes : List ℕ)
    (at : ℕ) (out : S) : Type 0 where
  pub place : IsPlace bytes at
  pub done : List Value
  pub held : holds out done
  pub back : (values : List Value) → IsInside rule mode (rest_at bytes at) [] values
      → IsInside rule mode (chars bytes) [] (done ++ values)
  pub forth : (values : List Value) → IsInside rule mode (chars bytes) [] values
      → (others : List Value) × IsInside rule mode (rest_at bytes at) [] others

pub spelled_value : {S : Type 0} (holds : S → List Value → Type 0) (rule : Rule) (mode : Mode) (bytes : List ℕ) (at : ℕ)
    (out next : S) (reading : Reading) (v : Value)
    → HasSpelled holds rule mode bytes at out → ReadsUnit rule mode bytes at reading → reading.value ≡ Ok (Some v)
    → ((values : List Value) → holds out values → holds next (values ++ v ∷ []))
    → HasSpelled holds rule mode bytes reading.«end» next
spelled_value holds rule mode bytes at out next reading v s r e h =
    let u = rw e at r.found in
    let to = reading.«end» in
    record {
      place = r.place;
      done = s.done ++ v ∷ [];
      held = h s.done s.held;
      back = λ values i. subst (IsInside rule mode (chars bytes) []) (sym (append_assoc s.done (v ∷ []) values))
          (s.back (v ∷ values) (one_more rule mode (rest_at bytes at) (between_places bytes at to) (rest_at bytes to)
          (Some v)
          values u.joined u.is i));
      forth = λ values i. let (others, j) =
          s.forth values i in goes_behind rule mode (rest_at bytes at) (between_places bytes at to) (rest_at bytes to)
          (Some v)
          others u.joined u.is j;
    }

pub spelled_skip : {S : Type 0} (holds : S → List Value → Type 0) (rule : Rule) (mode : Mode) (bytes : List ℕ) (at : ℕ)
    (out : S) (reading : Reading)
    → HasSpelled holds rule mode bytes at out → ReadsUnit rule mode bytes at reading → reading.value ≡ Ok None
    → HasSpelled holds rule mode bytes reading.«end» out
spelled_skip holds rule mode bytes at out reading s r e =
    let u = rw e at r.found in
    let to = reading.«end» in
    record {
      place = r.place;
      done = s.done;
      held = s.held;
      back = λ values i. s.back values
          (one_more rule mode (rest_at bytes at) (between_places bytes at to) (rest_at bytes to) None values u.joined
          u.is i);
      forth = λ values i. let (others, j) =
          s.forth values i in goes_behind rule mode (rest_at bytes at) (between_places bytes at to) (rest_at bytes to)
          None
          others u.joined u.is j;
    }

pub spelled_all : {S : Type 0} (holds : S → List Value → Type 0) (rule : Rule) (mode : Mode) (bytes : List ℕ) (at : ℕ)
    (out : S) → HasSpelled holds rule mode bytes at out → length bytes ≤ at
    → (values : List Value) × IsInside rule mode (chars bytes) [] values × holds out values
spelled_all holds rule mode bytes at out s l =
    let i = s.back [] (subst (λ x. IsInside rule mode x [] []) (sym (rest_end bytes at l)) empty) in
    (s.done, subst (IsInside rule mode (chars bytes) []) (append-nil s.done) i, s.held)

-- where no unit stands the inside ends
rest_filled : (bytes : List ℕ) (at : ℕ) → IsPlace bytes at → at < length bytes → rest_at bytes at ≡ [] → ⊥
rest_filled bytes at p l e =
    let k : drop at bytes ≡ [] = sym (encodes-chars (drop at bytes) p.cut) ∙ ap encode_utf8_all e in
    omega (arith, length-drop at bytes, ap length k)

none_inside : (rule : Rule) (mode : Mode) (text : List ℕ) (values : List Value) → NoUnit rule mode text
    → (text ≡ [] → ⊥) → IsInside rule mode text [] values → ⊥
none_inside rule mode _ _ never filled empty = filled refl
none_inside rule mode _ _ never filled (more {cs = ds} {inside = inside} {value = w} u i) =
    never ds (inside ++ []) w (sym (append-nil (ds ++ inside)) ∙ append_assoc ds inside []) u

pub spelled_never : {S : Type 0} (holds : S → List Value → Type 0) (rule : Rule) (mode : Mode) (bytes : List ℕ) (at : ℕ)
    (out : S) (reading : Reading) (error : EscapeError)
    → HasSpelled holds rule mode bytes at out → at < length bytes → ReadsUnit rule mode bytes at reading
    → reading.value ≡ Err error → (values : List Value) → IsInside rule mode (chars bytes) [] values → ⊥
spelled_never holds rule mode bytes at out reading error s l r e values i =
    let never = rw e at r.found in
    let (others, j) = s.forth values i in
    none_inside rule mode (rest_at bytes at) others never.0 (rest_filled bytes at s.place l) j
