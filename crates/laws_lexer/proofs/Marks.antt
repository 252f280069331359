-- Marks: which they are, and what may follow them.
use Rattle.std.proofs.Common.{◌≡◌, ℕ, List, [], ◌∷◌, refl, sym, ap, ◌∙◌, subst, ⊎_elim}
use Rattle.std.specs.Prelude.{true, false, not, ◌&&◌, ◌||◌, ◌==◌, is_some}
use Rattle.std.proofs.Math.Bool.{or-false}
use Rattle.std.proofs.lemmas.Bool.{and_from, and_left, and_right, or_left, or_right, or_from, or_cases}
use Rattle.std.proofs.lemmas.Bool.{eqb-true}
use Rattle.std.proofs.lemmas.List.Folds.{list_any-append}
use Rattle.rust_lex.specs.Chars.{is_mark_but_tick, begins, is_slash_or_star, marks_but_tick}
use Rattle.rust_escape.specs.declared.mode.Mode.TheVariants as modes
use Rattle.rust_lex.specs.QuotedScan.{past_char}
use Rattle.rust_lex.specs.Word.{begins_lifetime}
use Rattle.rust_lex.specs.Piece.{begins_mark}
use Rattle.rust_lex.specs.Scan.{begins_char, is_joint}
use Rattle.rust_leaf.specs.Mark.{is_mark as is_punctuation}
use Rattle.rust_lex.proofs.Fronts.{among_each}
use Rattle.rust_lex.specs.Calm.{calm, IsCalm}
use Rattle.rust_lex.proofs.Quieter.{Shuns, calm_shuns}

-- the 22 marks are the other 21 and '
pub mark_or_quote : (c : ℕ) → is_punctuation c ≡ true → (c == 39) ≡ false → is_mark_but_tick c ≡ true
unfolding is_mark_but_tick is_punctuation
mark_or_quote c h n =
    ⊎_elim
    (λ m. m)
    (λ q. let e = eqb-true 39 c (sym (or-false (39 == c)) ∙ q) in
    let no : (39 == 39) ≡ false = subst (λ d. (d == 39) ≡ false) (sym e) n in cc)
    (or_cases _ _ (sym (list_any-append (λ d. d == c) marks_but_tick (39 ∷ [])) ∙ h))

-- a mark that begins no comment
pub mark_before : (c : ℕ) (rest : List ℕ) → is_mark_but_tick c ≡ true
    → (c == 47 && begins is_slash_or_star rest) ≡ false →
    begins_mark (c ∷ rest) ≡ true
mark_before c rest h n = or_left (is_mark_but_tick c && not (c == 47 && begins is_slash_or_star rest))
    (c == 39 && begins_lifetime rest) (and_from (is_mark_but_tick c) (not (c == 47 && begins is_slash_or_star rest)) h
    (ap not n))

pub quote_before : (rest : List ℕ) → begins_lifetime rest ≡ true → begins_mark (39 ∷ rest) ≡ true
quote_before rest h = or_right (is_mark_but_tick 39 && not (39 == 47 && begins is_slash_or_star rest))
    (39 == 39 && begins_lifetime rest) h

shuns_mark : Shuns is_mark_but_tick
unfolding is_mark_but_tick
shuns_mark = record { space = refl; round = refl; square = refl }

shuns_slash_or_star : Shuns is_slash_or_star
shuns_slash_or_star = record { space = refl; round = refl; square = refl }

pub mark_calm : (c : ℕ) (calmer : List ℕ) → is_mark_but_tick c ≡ true → IsCalm calmer → begins_mark (c ∷ calmer) ≡ true
mark_calm c calmer h k = mark_before c calmer h (and_right (c == 47) (begins is_slash_or_star calmer)
    (calm_shuns is_slash_or_star calmer shuns_slash_or_star k))

no_mark : (calmer : List ℕ) → IsCalm calmer → begins_mark calmer ≡ false
no_mark [] k = refl
no_mark (c ∷ cs) k = or_from (is_mark_but_tick c && not (c == 47 && begins is_slash_or_star cs))
    (c == 39 && begins_lifetime cs)
    (and_left (is_mark_but_tick c) (not (c == 47 && begins is_slash_or_star cs))
    (calm_shuns is_mark_but_tick (c ∷ cs) shuns_mark k))
    (and_left (c == 39) (begins_lifetime cs) (among_each (λ d. (d == 39) ≡ false) calm (refl, (refl, (refl, tt))) c k))

no_char : (calmer : List ℕ) → IsCalm calmer → begins_char calmer ≡ false
no_char [] k = refl
no_char (c ∷ cs) k = and_left (c == 39) (is_some (past_char modes.Char cs))
    (among_each (λ d. (d == 39) ≡ false) calm (refl, (refl, (refl, tt))) c k)

-- a mark before anything else is alone
pub alone_before : (c : ℕ) (rest : List ℕ) → (c == 39) ≡ false → begins_mark rest ≡ false → begins_char rest ≡ false →
    is_joint (c ∷ rest) ≡ false
alone_before c rest n a b = or_from (c == 39) (begins_mark rest || begins_char rest) n
    (or_from (begins_mark rest) (begins_char rest) a b)

-- so before a calm text
pub alone_calm : (c : ℕ) (calmer : List ℕ) → (c == 39) ≡ false → IsCalm calmer → is_joint (c ∷ calmer) ≡ false
alone_calm c calmer n k = alone_before c calmer n (no_mark calmer k) (no_char calmer k)

-- and one before a mark or a character literal is joint
pub joint_mark : (c : ℕ) (rest : List ℕ) → begins_mark rest ≡ true → is_joint (c ∷ rest) ≡ true
joint_mark c rest h = or_right (c == 39) (begins_mark rest || begins_char rest)
    (or_left (begins_mark rest) (begins_char rest) h)

pub joint_char : (c : ℕ) (rest : List ℕ) → begins_char rest ≡ true → is_joint (c ∷ rest) ≡ true
joint_char c rest h = or_right (c == 39) (begins_mark rest || begins_char rest)
    (or_right (begins_mark rest) (begins_char rest) h)
