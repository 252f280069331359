-- What a text begins with where a mark or a character literal begins it.
use Rattle.std.proofs.Common.{◌≡◌, ℕ, List, [], ◌∷◌, ◌++◌, refl, sym, ap, ◌∙◌, subst, inl, inr, ⊎_elim, append_assoc}
use Rattle.std.specs.Prelude.{Bool, true, false, ◌||◌, ◌==◌, ◌↔◌, IsTrue, is_some, None}
use Rattle.std.proofs.lemmas.Bool.{and_parts, cond_both, eq-eqb, eqb-true, false_from_ne_true, or_cases, or_left}
use Rattle.std.proofs.lemmas.Bool.{or_right}
use Rattle.rust_escape.specs.declared.mode.Mode.TheVariants as modes
use Rattle.rust_lex.specs.Number.{number_kind, base_of, is_split}
use Rattle.rust_lex.specs.Quoted.{LiteralKind}
use Rattle.rust_lex.specs.QuotedScan.{past_char}
use Rattle.rust_lex.specs.Ends.{past_suffix}
use Rattle.rust_lex.specs.Piece.{PieceKind, Mark, Fits, IsLiteral, IsJoint, begins_mark}
use Rattle.rust_lex.specs.declared.piece.PieceKind.TheVariants as kinds
use Rattle.rust_lex.specs.declared.piece.LiteralKind.TheVariants.{Char}
use Rattle.rust_lex.specs.Scan.{Ends, scan, ticked, begins_char, is_joint}
use Rattle.rust_lex.proofs.Characters.{begun_character}
use Rattle.rust_lex.proofs.Complete.{complete, mark_scanned}
use Rattle.rust_lex.proofs.Fronts.{front-tick}
use Rattle.rust_lex.proofs.Sound.{ticked_some}
use Rattle.rust_lex.proofs.Taken.{option_cases}

-- where a text begins with a mark, so does its first piece
pub mark_kind : (k : PieceKind) (cs rest : List ℕ) → Fits k cs rest → begins_mark (cs ++ rest) ≡ true → k ≡ Mark
mark_kind k cs rest f h = at_text (cs ++ rest) (complete k cs rest f) h
  where
    at_text : (text : List ℕ) → scan text ≡ Ends k rest → begins_mark text ≡ true → k ≡ Mark
    at_text [] e h = cc
    at_text (c ∷ ds) e h = let m = mark_scanned c ds h in cc

-- and where it begins with a character literal
scan_tick : (cs : List ℕ) → scan (39 ∷ cs) ≡ ticked cs
scan_tick cs = rw front-tick refl

char_scanned : (c : ℕ) (cs : List ℕ) → begins_char (c ∷ cs) ≡ true
    → (rest : List ℕ) × (scan (c ∷ cs) ≡ Ends (kinds.Literal Char) rest)
char_scanned c cs h =
    let (q, s) = and_parts (c == 39) (is_some (past_char modes.Char cs)) h in
    ⊎_elim
    (λ n. let k : is_some {T = List ℕ} None ≡ true = subst (λ o. is_some {T = List ℕ} o ≡ true) n s in cc)
    (λ (r, e). (past_suffix r, ap (λ d. scan (d ∷ cs)) (eqb-true c 39 q) ∙ scan_tick cs ∙ ticked_some cs r e))
    (option_cases (past_char modes.Char cs))

pub char_kind : (k : PieceKind) (cs rest : List ℕ) → Fits k cs rest → begins_char (cs ++ rest) ≡ true → k
    ≡ kinds.Literal Char
char_kind k cs rest f h = at_text (cs ++ rest) (complete k cs rest f) h
  where
    at_text : (text : List ℕ) → scan text ≡ Ends k rest → begins_char text ≡ true → k ≡ kinds.Literal Char
    at_text [] e h = cc
    at_text (c ∷ ds) e h = let (r, m) = char_scanned c ds h in cc

-- a number is no character
no_number : (cs : List ℕ) → Char ≡ number_kind cs → ⊥
unfolding number_kind
no_number cs e =
    let P : LiteralKind → Type 0 = λ k. Char ≡ k → ⊥ in
    cond_both (base_of cs == 0) _ _ P (λ _. cond_both (is_split cs) _ _ P (λ _ k. cc) (λ _ k. cc)) (λ _ k. cc) e

-- a character literal begins a text, its suffix aside
pub char_begins : (cs rest : List ℕ) → IsLiteral Char cs rest → begins_char (cs ++ rest) ≡ true
char_begins cs rest (body, suffix, e, b, s) =
    ⊎_elim
    (λ q. (begun_character (cs ++ rest)).1
    (body, suffix ++ rest, ap (λ x. x ++ rest) e ∙ append_assoc body suffix rest, q))
    (λ n. absurd (no_number (body ++ (suffix ++ rest)) n.2))
    b

-- the scanner's test of a joint mark says what the definition says
joint_from : (c : ℕ) (cs : List ℕ) → is_joint (c ∷ cs) ≡ true → IsJoint (c ∷ cs)
joint_from c cs h =
    ⊎_elim
    (λ q. inl (eqb-true c 39 q))
    (λ o. ⊎_elim (λ m. inr (inl m)) (λ b. inr (inr ((begun_character cs).0 b)))
    (or_cases (begins_mark cs) (begins_char cs) o))
    (or_cases (c == 39) (begins_mark cs || begins_char cs) h)

from_joint : (c : ℕ) (cs : List ℕ) → IsJoint (c ∷ cs) → is_joint (c ∷ cs) ≡ true
from_joint c cs j =
    let more : (begins_mark cs || begins_char cs) ≡ true → is_joint (c ∷ cs) ≡ true =
    λ h. or_right (c == 39) (begins_mark cs || begins_char cs) h in
    ⊎_elim
    (λ e. or_left (c == 39) (begins_mark cs || begins_char cs) (eq-eqb c 39 e))
    (λ o. ⊎_elim
    (λ m. more (or_left (begins_mark cs) (begins_char cs) m))
    (λ b. more (or_right (begins_mark cs) (begins_char cs) ((begun_character cs).1 b)))
    o)
    j

pub joint_says : (text : List ℕ) (result : Bool) → result ≡ is_joint text → IsTrue result ↔ IsJoint text
joint_says [] result e = (λ h. let n : false ≡ true = sym e ∙ h in cc, λ j. absurd j)
joint_says (c ∷ cs) result e = (λ h. joint_from c cs (sym e ∙ h), λ j. e ∙ from_joint c cs j)

-- and the other way round
pub joint_test : (text : List ℕ) (result : Bool) → IsTrue result ↔ IsJoint text → result ≡ is_joint text
joint_test [] true h = absurd (h.0 refl)
joint_test [] false h = refl
joint_test (c ∷ cs) true h = sym (from_joint c cs (h.0 refl))
joint_test (c ∷ cs) false h =
    sym (false_from_ne_true (is_joint (c ∷ cs)) (λ t. let n : false ≡ true = h.1 (joint_from c cs t) in cc))
