-- What literals in quotes begin with.
use Rattle.std.proofs.Common.{◌≡◌, ℕ, arith, List, [], ◌∷◌, ◌++◌, length, refl, sym, ap, ◌∙◌, subst, ⊎_elim, drop}
use Rattle.std.proofs.Common.{inl, inr}
use Rattle.std.specs.Prelude.{true, false, ◌⊎◌, ◌&&◌, ◌==◌, nat_le, Option, Some, None}
use Rattle.std.proofs.lemmas.Bool.{and_parts, cases_Bool, eqb-true, or_cases, false≢true}
use Rattle.rust_escape.specs.declared.mode.Mode.{Mode}
use Rattle.rust_escape.specs.Mode.{in_double_quotes}
use Rattle.rust_escape.specs.declared.mode.Mode.TheVariants as modes
use Rattle.rust_escape.specs.Unit.{Rule, Lexical, IsUnit, plain, escape, skip, return}
use Rattle.rust_escape.specs.declared.value.Value.{Value}
use Rattle.unicode_ident.proofs.Computing.{unicode_ident}
use Rattle.rust_lex.specs.Chars.{is_first, begins, is_quote_or_hash}
use Rattle.rust_lex.specs.Quoted.{opening_of, opener_of}
use Rattle.rust_lex.specs.QuotedScan.{past_char, past_hashes}
use Rattle.rust_lex.specs.Word.{begins_raw_mark, begins_raw_name, begins_lifetime}
use Rattle.rust_lex.proofs.Fronts.{first-next, tick-next}
use Rattle.rust_lex.proofs.Taken.{chosen, option_cases}
use Rattle.rust_lex.proofs.Units.{one_is, char_both, unit_at, unit_long}

-- an opening is what the text begins with
pub opener_found : (cs : List ℕ) (o : Mode) → opener_of cs ≡ Some o → cs
    ≡ opening_of o ++ drop (length (opening_of o)) cs
unfolding opener_of
opener_found [] o e = cc
opener_found (c ∷ []) o e = cc
opener_found (c ∷ d ∷ cs) o e =
    ⊎_elim
    (λ h. let (k, _) = and_parts (c == 114) (is_quote_or_hash d) h.0 in let same : modes.RawStr
    ≡ o = cc in subst (λ o. c ∷ d ∷ cs ≡ opening_of o ++ drop (length (opening_of o)) (c ∷ d ∷ cs)) same
    (ap (λ x. x ∷ d ∷ cs) (eqb-true c 114 k)))
    (λ h. ⊎_elim
    (λ h. let (k, l) = and_parts (c == 98) (d == 34) h.0 in let same : modes.ByteStr
    ≡ o = cc in subst (λ o. c ∷ d ∷ cs ≡ opening_of o ++ drop (length (opening_of o)) (c ∷ d ∷ cs)) same
    (two c d 98 34 cs k l))
    (λ h. ⊎_elim
    (λ h. let (k, l) = and_parts (c == 98) (d == 39) h.0 in let same : modes.Byte
    ≡ o = cc in subst (λ o. c ∷ d ∷ cs ≡ opening_of o ++ drop (length (opening_of o)) (c ∷ d ∷ cs)) same
    (two c d 98 39 cs k l))
    (λ h. ⊎_elim
    (λ h. let (k, l) = and_parts (c == 98) (d == 114 && begins is_quote_or_hash cs) h.0 in let (l, _) = and_parts
    (d == 114) _ l in let same : modes.RawByteStr ≡ o =
    cc in subst (λ o. c ∷ d ∷ cs ≡ opening_of o ++ drop (length (opening_of o)) (c ∷ d ∷ cs)) same
    (two c d 98 114 cs k l))
    (λ h. ⊎_elim
    (λ h. let (k, l) = and_parts (c == 99) (d == 34) h.0 in let same : modes.CStr
    ≡ o = cc in subst (λ o. c ∷ d ∷ cs ≡ opening_of o ++ drop (length (opening_of o)) (c ∷ d ∷ cs)) same
    (two c d 99 34 cs k l))
    (λ h. ⊎_elim
    (λ h. let (k, l) = and_parts (c == 99) (d == 114 && begins is_quote_or_hash cs) h.0 in let (l, _) = and_parts
    (d == 114) _ l in let same : modes.RawCStr ≡ o =
    cc in subst (λ o. c ∷ d ∷ cs ≡ opening_of o ++ drop (length (opening_of o)) (c ∷ d ∷ cs)) same
    (two c d 99 114 cs k l))
    (λ h. cc)
    (chosen _ _ _ _ h.1))
    (chosen _ _ _ _ h.1))
    (chosen _ _ _ _ h.1))
    (chosen _ _ _ _ h.1))
    (chosen _ _ _ _ h.1))
    (chosen _ _ _ _ e)
  where
    two : (c d x y : ℕ) (cs : List ℕ) → (c == x) ≡ true → (d == y) ≡ true → c ∷ d ∷ cs ≡ x ∷ y ∷ cs
    two c d x y cs h k = let e = eqb-true c x h in let f = eqb-true d y k in cc

pub raw_mark_is : (cs : List ℕ) → begins_raw_mark cs ≡ true → cs ≡ 114 ∷ 35 ∷ drop 2 cs
raw_mark_is [] h = cc
raw_mark_is (c ∷ []) h = let (_, k) = and_parts (c == 114) false h in cc
raw_mark_is (c ∷ d ∷ cs) h =
    let (k, l) = and_parts (c == 114) (d == 35 && true) h in
    let (l, _) = and_parts (d == 35) true l in
    let e = eqb-true c 114 k in
    let f = eqb-true d 35 l in
    cc

-- r# begins a prefixed literal, so where none begins there is none
pub no_raw_mark : (cs : List ℕ) → opener_of cs ≡ None → begins_raw_mark cs ≡ false
unfolding opener_of
no_raw_mark cs e =
    ⊎_elim
    (λ h. let s = raw_mark_is cs h in let t : opener_of (114 ∷ 35 ∷ drop 2 cs)
    ≡ None = subst (λ x. opener_of x ≡ None) s e in cc)
    (λ h. h)
    (cases_Bool (begins_raw_mark cs))

-- a raw string goes on with # or its quote
pub hashes_begin : (a : Mode) (n : ℕ) (cs rest : List ℕ) → past_hashes a n cs ≡ Some rest → begins is_quote_or_hash cs
    ≡ true
unfolding past_hashes
hashes_begin a n [] rest e = cc
hashes_begin a n (c ∷ cs) rest e =
    ⊎_elim
    (λ h. rw (eqb-true c 35 h.0) refl)
    (λ h. ⊎_elim
    (λ k. let (q, _) = and_parts (c == 34) (nat_le n 255) k.0 in rw (eqb-true c 34 q) refl)
    (λ k. cc)
    (chosen (c == 34 && nat_le n 255) _ _ _ h.1))
    (chosen (c == 35) _ _ _ e)

not_first : (cs : List ℕ) → begins is_quote_or_hash cs ≡ true → begins is_first cs ≡ false
unfolding is_first unicode_ident
not_first [] h = refl
not_first (c ∷ cs) h =
    ⊎_elim (λ q. rw (eqb-true c 34 q) refl) (λ q. rw (eqb-true c 35 q) refl) (or_cases (c == 34) (c == 35) h)

-- and so isn't a raw identifier
pub hashes_no_name : (a : Mode) (cs rest : List ℕ) → past_hashes a 0 cs ≡ Some rest
    → (begins_raw_mark (114 ∷ cs) && begins_raw_name (drop 2 (114 ∷ cs))) ≡ false
unfolding past_hashes
hashes_no_name a [] rest e = cc
hashes_no_name a (c ∷ cs) rest e =
    ⊎_elim
    (λ h. rw (h.0, not_first cs (hashes_begin a 1 cs rest h.1)) refl)
    (λ h. rw h.0 refl)
    (chosen (c == 35) _ _ _ e)

-- where the mark of a lifetime stands there is no character
single_is : (rule : Rule) (a : Mode) (cs rest : List ℕ) (v : Option Value) (c : ℕ) (text : List ℕ) → in_double_quotes a
    ≡ false → IsUnit rule a cs rest v → c ∷ text ≡ cs ++ rest → (c ≡ 92) ⊎ (text ≡ rest)
single_is rule a _ rest _ c text q (plain h) e = let same : text ≡ rest = cc in inr same
single_is rule a _ rest _ c text q (escape r h) e = let same : c ≡ 92 = cc in inl same
single_is rule a _ rest _ c text q (skip r d h s) e = absurd (false≢true (sym q ∙ d))
single_is rule a _ _ _ c text q (return d) e = absurd (false≢true (sym q ∙ d))

no_lifetime_backslash : (cs : List ℕ) → begins_lifetime (92 ∷ cs) ≡ false
unfolding begins_lifetime is_first unicode_ident
no_lifetime_backslash cs = refl

no_raw_tick : (c : ℕ) (rest : List ℕ) → begins_raw_mark (c ∷ 39 ∷ rest) ≡ false
no_raw_tick c rest = elim (c == 114) as (λ b. (b && false) ≡ false) [ true ↦ refl | false ↦ refl ]

no_lifetime_tick : (c : ℕ) (rest : List ℕ) → begins_lifetime (c ∷ 39 ∷ rest) ≡ false
unfolding begins_lifetime
no_lifetime_tick c rest =
    ⊎_elim
    (λ h. rw (no_raw_tick c rest) (rw (h, first-next c h) (rw tick-next (rw h refl))))
    (λ h. rw (no_raw_tick c rest) (rw h refl))
    (cases_Bool (is_first c))

no_unit : (text between rest : List ℕ) (v : Option Value) → IsUnit Lexical modes.Char text between v → []
    ≡ text ++ between → ⊥
no_unit [] between rest v h e = let l = unit_long Lexical modes.Char [] between v h in absurd (omega arith)
no_unit (c ∷ cs) between rest v h e = cc

no_lifetime : (cs rest : List ℕ) → past_char modes.Char cs ≡ Some rest → begins_lifetime cs ≡ false
no_lifetime [] rest e = let b = char_both modes.Char [] rest e in let u =
    unit_at modes.Char [] b.between b.one in absurd (no_unit u.chars b.between rest u.value u.is u.joined)
no_lifetime (c ∷ cs) rest e =
    let b = char_both modes.Char (c ∷ cs) rest e in
    let u = unit_at modes.Char (c ∷ cs) b.between b.one in
    ⊎_elim
    (λ h. subst (λ x. begins_lifetime (x ∷ cs) ≡ false) (sym h) (no_lifetime_backslash cs))
    (λ h. subst (λ x. begins_lifetime (c ∷ x) ≡ false) (sym (h ∙ one_is 39 b.between rest b.two))
    (no_lifetime_tick c rest))
    (single_is Lexical modes.Char u.chars b.between u.value c cs refl u.is u.joined)

pub lifetime_no_char : (cs : List ℕ) → begins_lifetime cs ≡ true → past_char modes.Char cs ≡ None
lifetime_no_char cs h =
    ⊎_elim
    (λ n. n)
    (λ (rest, e). let f = no_lifetime cs rest e in cc)
    (option_cases (past_char modes.Char cs))
