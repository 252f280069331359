-- What is an identifier or a literal before some rest is one before any calm text.
use Rattle.std.proofs.Common.{◌≡◌, ℕ, List, [], ◌∷◌, ◌++◌, refl, sym, ap, ◌∙◌, subst, inl, inr, ⊎_elim}
use Rattle.std.specs.Prelude.{codes, Bool, true, false, ◌&&◌, ◌==◌, is_some, Some, None, if◌then◌else◌}
use Rattle.std.proofs.lemmas.Bool.{and_parts, and_right, cases_Bool, eqb-true}
use Rattle.unicode_ident.proofs.Computing.{unicode_ident}
use Rattle.rust_lex.specs.Chars.{is_next, begins, passes, is_quote_or_hash}
use Rattle.rust_escape.specs.declared.mode.Mode.{Mode}
use Rattle.rust_escape.specs.declared.mode.Mode.TheVariants as modes
use Rattle.rust_lex.specs.declared.piece.LiteralKind.{LiteralKind}
use Rattle.rust_lex.specs.Quoted.{opener_of}
use Rattle.rust_lex.specs.Word.{IsWord, begins_word, begins_never_raw}
use Rattle.rust_lex.specs.Piece.{IsIdent, IsLiteral, is_prefixed}
use Rattle.rust_lex.proofs.Fronts.{among_each}
use Rattle.rust_lex.specs.Calm.{calm, IsCalm}
use Rattle.rust_lex.proofs.Quieter.{Shuns, calm_shuns, shuns_next, suffix_quieter, suffix_calm}
use Rattle.rust_lex.proofs.Numbers.{number_quieter}

shuns_quote_or_hash : Shuns is_quote_or_hash
shuns_quote_or_hash = record { space = refl; round = refl; square = refl }

-- prefixes
pub one_prefix : (c d : ℕ) (cs : List ℕ) → is_quote_or_hash d ≡ false → (d == 34) ≡ false → (d == 39) ≡ false
    → (d == 114) ≡ false → is_prefixed (c ∷ d ∷ cs) ≡ false
unfolding opener_of
one_prefix c d cs a b e f =
    rw (a, b, e, f) (rw (
      and_right (c == 114) false refl,
      and_right (c == 98) false refl,
      and_right (c == 99) false refl,
    ) refl)

shorter_prefix : (a b c d e f : Bool) (o p q r s t : Mode) →
    is_some (if a then Some o else
    (if b then Some p else (if c then Some q else
    (if d then Some r else (if e then Some s else (if f then Some t else None)))))) ≡ false →
    is_some (if a then Some o else
    (if b then Some p else (if c then Some q else
    (if false then Some r else (if e then Some s else (if false then Some t else None)))))) ≡ false
shorter_prefix true b c d e f o p q r s t h = h
shorter_prefix false true c d e f o p q r s t h = h
shorter_prefix false false true d e f o p q r s t h = h
shorter_prefix false false false true e f o p q r s t h = cc
shorter_prefix false false false false true f o p q r s t h = h
shorter_prefix false false false false false f o p q r s t h = refl

prefix_calm : (cs rest calmer : List ℕ) → IsWord cs → is_prefixed (cs ++ rest) ≡ false → IsCalm calmer
    → is_prefixed (cs ++ calmer) ≡ false
unfolding opener_of
prefix_calm [] rest calmer w h k = elim w [ ]
prefix_calm (c ∷ []) rest [] w h k = refl
prefix_calm (c ∷ []) rest (d ∷ ds) w h k =
    among_each (λ d. is_prefixed (c ∷ d ∷ ds) ≡ false) calm (
      one_prefix c 32 ds refl refl refl refl,
      (one_prefix c 41 ds refl refl refl refl, (one_prefix c 93 ds refl refl refl refl, tt)),
    ) d k
prefix_calm (c ∷ d ∷ []) rest calmer w h k =
    rw (calm_shuns is_quote_or_hash calmer shuns_quote_or_hash k)
    (rw (and_right (d == 114) false refl) (rw (and_right (c == 98) false refl, and_right (c == 99) false refl)
    (shorter_prefix (c == 114 && is_quote_or_hash d) (c == 98 && d == 34) (c == 98 && d == 39)
    (c == 98 && (d == 114 && begins is_quote_or_hash rest)) (c == 99 && d == 34)
    (c == 99 && (d == 114 && begins is_quote_or_hash rest)) modes.RawStr modes.ByteStr modes.Byte modes.RawByteStr
    modes.CStr modes.RawCStr h)))
prefix_calm (c ∷ d ∷ e ∷ cs) rest calmer w h k = h

-- words that are never raw
word_same : (w cs x y : List ℕ) → passes is_next w ≡ true → begins is_next x ≡ false → begins is_next y ≡ false
    → begins_word w (cs ++ x) ≡ begins_word w (cs ++ y)
word_same [] [] x y p a b = rw (a, b) refl
word_same [] (c ∷ cs) x y p a b = refl
word_same (d ∷ w) [] x y p a b = let (n, _) =
    and_parts (is_next d) (passes is_next w) p in stopped d w x n a ∙ sym (stopped d w y n b)
  where
    stopped : (d : ℕ) (w x : List ℕ) → is_next d ≡ true → begins is_next x ≡ false → begins_word (d ∷ w) x ≡ false
    stopped d w [] n a = refl
    stopped d w (c ∷ x) n a =
        ⊎_elim
        (λ e. let q : is_next c ≡ true = subst (λ z. is_next z ≡ true) (sym (eqb-true c d e)) n in cc)
        (λ e. rw e refl)
        (cases_Bool (c == d))
word_same (d ∷ w) (c ∷ cs) x y p a b = let (_, n) =
    and_parts (is_next d) (passes is_next w) p in ap (λ r. c == d && r) (word_same w cs x y n a b)

pub kept_same : (cs x y : List ℕ) → begins is_next x ≡ false → begins is_next y ≡ false → begins_never_raw (cs ++ x)
    ≡ begins_never_raw (cs ++ y)
unfolding begins_never_raw is_next unicode_ident
kept_same cs x y a b = rw (
  word_same (codes "_") cs x y refl a b,
  word_same (codes "super") cs x y refl a b,
  word_same (codes "self") cs x y refl a b,
  word_same (codes "Self") cs x y refl a b,
  word_same (codes "crate") cs x y refl a b,
) refl

pub ident_calm : (cs rest calmer : List ℕ) → IsIdent cs rest → IsCalm calmer → IsIdent cs calmer
ident_calm cs rest calmer h k =
    let next : begins is_next calmer ≡ false = calm_shuns is_next calmer shuns_next k in (
      next,
      ⊎_elim
          (λ w. inl (w.0, prefix_calm cs rest calmer w.0 w.1 k))
          (λ (name, e, w, kept). inr (name, e, w, sym (kept_same name rest calmer h.0 next) ∙ kept))
          h.1,
    )

pub literal_calm : (kind : LiteralKind) (cs rest calmer : List ℕ) → IsLiteral kind cs rest → IsCalm calmer
    → IsLiteral kind cs calmer
literal_calm kind cs rest calmer (body, suffix, e, b, s) k = (
  body,
  suffix,
  e,
  ⊎_elim (λ q. inl q) (λ n. inr
      (number_quieter kind body (suffix ++ rest) (suffix ++ calmer) (suffix_quieter suffix rest calmer s k) n)) b,
  suffix_calm suffix rest calmer s k,
)
