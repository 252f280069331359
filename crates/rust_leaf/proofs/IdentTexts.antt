-- The texts of identifiers are the identifiers where nothing follows.
use Rattle.std.proofs.Common.{◌≡◌, ℕ, List, [], ◌∷◌, refl, sym, ap, ap₂, ◌∙◌, inl, inr, ⊎_elim}
use Rattle.std.specs.Prelude.{codes, Bool, true, false, not, ◌↔◌, ◌&&◌, ◌||◌, ◌==◌}
use Rattle.std.specs.List.{list_all}
use Rattle.std.specs.Str.{bytes_eq}
use Rattle.std.proofs.Math.Bool.{or-false}
use Rattle.std.proofs.lemmas.Bool.{and_parts, and_from, and_right, or_left, or_right, or_cases, eqb-true, not-true}
use Rattle.std.proofs.lemmas.List.{append-nil}
use Rattle.unicode_ident.proofs.Computing.{unicode_ident}
use Rattle.unicode_ident.specs.Ident.{is_xid_continue}
use Rattle.rust_leaf.specs.Identifier.{is_identifier, is_never_raw, is_raw_identifier, is_ident_text}
use Rattle.rust_lex.specs.Chars.{is_first, is_next, begins, passes, is_quote_or_hash}
use Rattle.rust_lex.specs.Quoted.{opener_of}
use Rattle.rust_lex.specs.Word.{IsWord, IsRawWord, begins_word, begins_never_raw}
use Rattle.rust_lex.specs.Piece.{IsIdent, is_prefixed}
use Rattle.rust_lex.proofs.Fronts.{first-next}
use Rattle.rust_lex.proofs.Quieter.{not_char}

all_pass : (cs : List ℕ) → list_all is_xid_continue cs ≡ passes is_next cs
unfolding is_next
all_pass [] = refl
all_pass (c ∷ cs) = ap (λ b. is_xid_continue c && b) (all_pass cs)

word_is : (cs : List ℕ) → is_identifier cs ≡ true → IsWord cs
unfolding is_first
word_is [] h = cc
word_is (c ∷ cs) h = let (a, b) = and_parts _ (list_all is_xid_continue cs) h in (a, sym (all_pass cs) ∙ b)

identifier_is : (cs : List ℕ) → IsWord cs → is_identifier cs ≡ true
unfolding is_first
identifier_is [] w = elim w [ ]
identifier_is (c ∷ cs) w = and_from _ (list_all is_xid_continue cs) w.0 (all_pass cs ∙ w.1)

word_next : (cs : List ℕ) → IsWord cs → passes is_next cs ≡ true
word_next [] w = elim w [ ]
word_next (c ∷ cs) w = and_from (is_next c) (passes is_next cs) (first-next c w.0) w.1

-- no prefix stands in a word
no_quote : (c : ℕ) → is_next c ≡ true → is_quote_or_hash c ≡ false
unfolding is_next unicode_ident
no_quote c h = rw (not_char is_next c 34 refl h, not_char is_next c 35 refl h) refl

no_quotes : (cs : List ℕ) → passes is_next cs ≡ true → begins is_quote_or_hash cs ≡ false
no_quotes [] h = refl
no_quotes (c ∷ cs) h = let (a, _) = and_parts (is_next c) (passes is_next cs) h in no_quote c a

no_opener : (c d : ℕ) (cs : List ℕ) → is_quote_or_hash d ≡ false → (d == 34) ≡ false → (d == 39) ≡ false
    → begins is_quote_or_hash cs ≡ false → is_prefixed (c ∷ d ∷ cs) ≡ false
unfolding opener_of
no_opener c d cs a b e f =
    rw (a, b, e, f) (rw (and_right (d == 114) false refl)
    (rw (and_right (c == 114) false refl, and_right (c == 98) false refl, and_right (c == 99) false refl) refl))

no_prefix : (cs : List ℕ) → IsWord cs → is_prefixed cs ≡ false
unfolding opener_of is_next unicode_ident
no_prefix [] w = elim w [ ]
no_prefix (c ∷ []) w = refl
no_prefix (c ∷ d ∷ cs) w =
    let (a, b) = and_parts (is_next d) (passes is_next cs) w.1 in
    no_opener c d cs (no_quote d a) (not_char is_next d 34 refl a) (not_char is_next d 39 refl a) (no_quotes cs b)

-- the words that are never raw
word_same : (w cs : List ℕ) → passes is_next cs ≡ true → begins_word w cs ≡ bytes_eq cs w
word_same [] [] h = refl
word_same [] (c ∷ cs) h = let (a, _) = and_parts (is_next c) (passes is_next cs) h in ap not a
word_same (d ∷ w) [] h = refl
word_same (d ∷ w) (c ∷ cs) h = let (_, b) =
    and_parts (is_next c) (passes is_next cs) h in ap (λ r. c == d && r) (word_same w cs b)

kept_same : (cs : List ℕ) → passes is_next cs ≡ true → begins_never_raw cs ≡ is_never_raw cs
unfolding begins_never_raw
kept_same cs h = rw (
  word_same (codes "_") cs h,
  word_same (codes "super") cs h,
  word_same (codes "self") cs h,
  word_same (codes "Self") cs h,
  word_same (codes "crate") cs h,
) (sym (five (bytes_eq cs (95 ∷ [])) (bytes_eq cs (115 ∷ 117 ∷ 112 ∷ 101 ∷ 114 ∷ []))
    (bytes_eq cs (115 ∷ 101 ∷ 108 ∷ 102 ∷ [])) (bytes_eq cs (83 ∷ 101 ∷ 108 ∷ 102 ∷ []))
    (bytes_eq cs (99 ∷ 114 ∷ 97 ∷ 116 ∷ 101 ∷ []))))
  where
    five : (a b c d e : Bool) → (a || (b || (c || (d || (e || false))))) ≡ (a || (b || (c || (d || e))))
    five a b c d e = ap (λ r. a || (b || (c || (d || r)))) (or-false e)

raw_is : (cs : List ℕ) → is_raw_identifier cs ≡ true → IsRawWord cs []
raw_is [] h = cc
raw_is (c ∷ []) h = cc
raw_is (c ∷ d ∷ cs) h =
    let (a, b) = and_parts (c == 114 && d == 35) (is_identifier cs && not (is_never_raw cs)) h in
    let (r, s) = and_parts (c == 114) (d == 35) a in
    let (i, n) = and_parts (is_identifier cs) (not (is_never_raw cs)) b in
    let w = word_is cs i in
    let x = eqb-true c 114 r in
    let y = eqb-true d 35 s in (
      cs,
      ap₂ (λ x y. x ∷ y ∷ cs) x y,
      w,
      ap begins_never_raw (append-nil cs) ∙ kept_same cs (word_next cs w) ∙ not-true _ n,
    )

raw_text : (cs : List ℕ) → IsRawWord cs [] → is_raw_identifier cs ≡ true
raw_text cs (name, e, w, k) =
    ap is_raw_identifier e ∙ and_from (is_identifier name) (not (is_never_raw name)) (identifier_is name w)
    (ap not (sym (kept_same name (word_next name w)) ∙ sym (ap begins_never_raw (append-nil name)) ∙ k))

pub ident_text_is : (cs : List ℕ) → is_ident_text cs ≡ true ↔ IsIdent cs []
ident_text_is cs = (
  λ h. (
    refl,
    ⊎_elim (λ i. let w = word_is cs i in inl (w, ap is_prefixed (append-nil cs) ∙ no_prefix cs w))
        (λ r. inr (raw_is cs r)) (or_cases (is_identifier cs) (is_raw_identifier cs) h),
  ),
  λ h. ⊎_elim (λ w. or_left (is_identifier cs) (is_raw_identifier cs) (identifier_is cs w.0))
      (λ r. or_right (is_identifier cs) (is_raw_identifier cs) (raw_text cs r)) h.1,
)
