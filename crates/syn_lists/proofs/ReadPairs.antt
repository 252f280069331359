-- Values and separators that are read in turn.
use Rattle.std.proofs.Common.{◌≡◌, ◌+◌, ◌<◌, length-append, List, [], ◌∷◌, ◌++◌, length, arith, refl, sym, ap, ◌∙◌}
use Rattle.std.proofs.Common.{◌≤◌, subst}
use Rattle.std.proofs.lemmas.List.{length-map}
use Rattle.std.specs.Prelude.{Bool, true, false, cond, filter}
use Rattle.proc_macro2.specs.Token.{Spanned, plain}
use Rattle.syn_buffer.specs.Stands.{end_stands}
use Rattle.syn_buffer.specs.Entries.{spanned_entries, spanned_entry}
use Rattle.syn_buffer.specs.Position.{IsPast, ahead, rest}
use Rattle.syn_buffer.specs.Seen.{is_seen}
use Rattle.syn_buffer.specs.declared.position.Cursor.{Cursor}
use Rattle.syn_lists.specs.ReadLists.{Reading, ReadsPairs}

-- a place past one that is past another is past that
pub past_both : (a b c : Cursor) → IsPast a b → IsPast b c → IsPast a c
past_both a b c p q = record { same_list = q.same_list ∙ p.same_list; further = omega (arith, p.further, q.further) }

pub past_same : (a : Cursor) → IsPast a a
past_same a = record { same_list = refl; further = omega arith }

-- a list that has come to its end, and one that has not
pub at_end : (ts : List Spanned) → end_stands (plain ts) ≡ true → ts ≡ []
at_end [] e = refl
at_end (t ∷ ts) e = cc

pub not_at_end : (ts : List Spanned) → end_stands (plain ts) ≡ false → 0 < length ts
not_at_end [] e = cc
not_at_end (t ∷ ts) e = omega arith

one_more : {X : Type 0} (b : Bool) (x : X) (xs ys : List X) → length ys ≤ length xs
    → length (cond b (x ∷ ys) ys) ≤ length (x ∷ xs)
one_more true x xs ys h = omega arith
one_more false x xs ys h = omega arith

few_pass : {X : Type 0} (p : X → Bool) (xs : List X) → length (filter p xs) ≤ length xs
few_pass p [] = omega arith
few_pass p (x ∷ xs) = one_more (p x) x xs (filter p xs) (few_pass p xs)

-- no more tokens are left at a place than entries
pub few_tokens : (c : Cursor) → length (rest c) ≤ ahead c
few_tokens c =
    omega (
      arith,
      few_pass (λ t. is_seen t.token) (spanned_entries c.entries.now),
      length-map c.entries.now spanned_entry,
    )

module _ {T P : Type 0} (value : Reading T) (separator : Reading P) where
  -- one value and its separator more
  pub pairs_more : (ts : List Spanned) (vs : List T) (ps : List P) (us more rest : List Spanned) (v : T) (p : P)
      → ReadsPairs value separator ts vs ps us → value us v more → separator more p rest
      → ReadsPairs value separator ts (vs ++ v ∷ []) (ps ++ p ∷ []) rest
  pairs_more ts [] [] us more rest v p (same, none) a b =
      (more, rest, subst (λ w. value w v more) (sym same) a, b, (refl, refl))
  pairs_more ts [] (q ∷ ps) us more rest v p (same, none) a b = absurd (cc)
  pairs_more ts (w ∷ vs) [] us more rest v p h a b = absurd h
  pairs_more ts (w ∷ vs) (q ∷ ps) us more rest v p (xs, ys, c, d, h) a b =
      (xs, ys, c, d, pairs_more ys vs ps us more rest v p h a b)

  -- the same, of lists to which they were added
  pub pairs_next : (ts : List Spanned) (vs ws : List T) (ps qs : List P) (us more rest : List Spanned) (v : T) (p : P)
      → ws ≡ vs ++ v ∷ [] → qs ≡ ps ++ p ∷ [] → ReadsPairs value separator ts vs ps us → value us v more →
      separator more p rest
      → ReadsPairs value separator ts ws qs rest
  pairs_next ts vs ws ps qs us more rest v p e f h a b =
      subst (λ xs. ReadsPairs value separator ts xs qs rest) (sym e)
      (subst (λ ys. ReadsPairs value separator ts (vs ++ v ∷ []) ys rest) (sym f)
      (pairs_more ts vs ps us more rest v p h a b))

pub even_next : {T P : Type 0} (vs ws : List T) (ps qs : List P) (v : T) (p : P)
    → ws ≡ vs ++ v ∷ [] → qs ≡ ps ++ p ∷ [] → length vs ≡ length ps → length ws ≡ length qs
even_next vs ws ps qs v p e f h =
    ap length e ∙ length-append vs (v ∷ []) ∙ ap (λ n. n + 1) h ∙ sym (length-append ps (p ∷ [])) ∙ sym (ap length f)

pub ruleset read_pairs = (at_end, not_at_end, past_both, pairs_more)
