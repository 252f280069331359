-- A word that is not reserved is none of the reserved ones.
use Rattle.std.proofs.Common.{◌≡◌, ℕ, List, [], ◌∷◌, refl, sym, ap, ◌∙◌}
use Rattle.std.specs.Prelude.{Bool, true, false, ◌||◌, not, codes}
use Rattle.std.proofs.lemmas.Slice.Eq.{bytes_eq-Decides}
use Rattle.syn_grammar.specs.Words.{is_bool, is_ident, is_name, is_path_keyword}
use Rattle.rust_leaf.specs.Keywords.{is_among, is_reserved, same_text}
use Rattle.reader_lookahead.specs.Words.{begins_form, early_words, late_words}

pub either_no : (a b : Bool) → (a || b) ≡ false → (a ≡ false) × (b ≡ false)
either_no true b h = absurd (cc h)
either_no false b h = (refl, h)

kept : (s w : List ℕ) → is_reserved s ≡ true → is_reserved w ≡ false → same_text s w ≡ false
kept s w h g = by (same_text s w) refl
  where
    by : (b : Bool) → same_text s w ≡ b → b ≡ false
    by false e = refl
    by true e = sym h ∙ ap is_reserved ((bytes_eq-Decides s w).0 e) ∙ g

abbrev pub Kept : List (List ℕ) → Type 0
Kept [] = Unit
Kept (s ∷ ss) = (is_reserved s ≡ true) × Kept ss

pub none_among : (ss : List (List ℕ)) (w : List ℕ) → Kept ss → is_reserved w ≡ false → is_among ss w ≡ false
none_among [] w h g = refl
none_among (s ∷ ss) w h g = ap (λ b. b || is_among ss w) (kept s w h.0 g) ∙ none_among ss w h.1 g

-- an Ident is a name, and begins no form by itself
unreserved : (w : List ℕ) → is_ident w ≡ true → is_reserved w ≡ false
unreserved w h = by (is_reserved w) h
  where
    by : (b : Bool) → not b ≡ true → b ≡ false
    by true h = sym h
    by false h = refl

pub ident_name : (w : List ℕ) → is_ident w ≡ true → is_name w ≡ true
unfolding is_name
ident_name w h = ap (λ b. (b || is_path_keyword w) || same_text (codes "Self") w) h

abbrev bool_words : List (List ℕ)
bool_words = codes "true" ∷ codes "false" ∷ []

bool_kept : Kept bool_words
unfolding is_reserved
bool_kept = (refl, (refl, tt))

early_kept : Kept early_words
unfolding is_reserved
early_kept = (refl, (refl, (refl, (refl, (refl, (refl, (refl, tt)))))))

late_kept : Kept late_words
unfolding is_reserved
late_kept = (refl, (refl, (refl, (refl, (refl, (refl, (refl, (refl, (refl, (refl, tt))))))))))

pub no_form : (w : List ℕ) → is_bool w ≡ false → is_among early_words w ≡ false → is_among late_words w ≡ false
    → begins_form w ≡ false
no_form w h g d =
    ap (λ b. b || (is_among early_words w || is_among late_words w)) h
    ∙ ap (λ b. b || is_among late_words w) g ∙ d

pub ident_no_form : (w : List ℕ) → is_ident w ≡ true → begins_form w ≡ false
unfolding is_bool
ident_no_form w h =
    let e : is_reserved w ≡ false = unreserved w h in
    no_form w (none_among bool_words w bool_kept e) (none_among early_words w early_kept e)
    (none_among late_words w late_kept e)
