-- A group at the front of whole entries, as a run of the grammar sees it.
use Rattle.std.proofs.Common.{◌≡◌, ℕ, suc, ◌+◌, ◌-◌, ◌<◌, List, [], ◌∷◌, length, take, drop, refl, sym, ap, subst, ◌∙◌}
use Rattle.std.proofs.Common.{add-one, arith, length-drop}
use Rattle.std.proofs.lemmas.List.{take_all}
use Rattle.std.specs.Prelude.{true, cond}
use Rattle.proc_macro2.specs.Token.{Token, Closes, Ident, Literal, Opens, Punct}
use Rattle.proc_macro2.specs.declared.delimiter.Delimiter.{Delimiter}
use Rattle.rust_map.specs.declared.span.Span.{Span}
use Rattle.syn_buffer.specs.Entries.{is_whole}
use Rattle.syn_buffer.specs.declared.entry.Entry.{Entry}
use Rattle.syn_buffer.specs.declared.entry.Entry.TheVariants as entry
use Rattle.syn_grammar.specs.Run.{Refused, group_at, split, whole}
use Rattle.syn_grammar.specs.Run.{within as within_group}
use Rattle.syn_grammar.proofs.Splits.{delimiter_same}
use Rattle.reader_tokens.proofs.Groups.{OfWhole, whole_group}
use Rattle.reader_tokens.specs.Tokens.{tokens}
use Rattle.reader_fast.specs.Attributes.{IsEntered, IsOpened}

-- what is so of tokens that such a group opens
pub opened : (P : List Token → Type 0) (d : Delimiter) → ((ts : List Token) → P (Opens d ∷ ts)) → (ts : List Token)
    → IsOpened d ts → P ts
opened P d f [] h = absurd h
opened P d f (Opens e ∷ ts) h = subst (λ d. P (Opens d ∷ ts)) (sym h) (f ts)
opened P d f (Closes e ∷ ts) h = absurd h
opened P d f (Ident cs ∷ ts) h = absurd h
opened P d f (Literal cs ∷ ts) h = absurd h
opened P d f (Punct c spacing ∷ ts) h = absurd h

others : (es : List Entry) (n : ℕ) → take (length es - (n + 1)) (drop (n + 1) es) ≡ drop (suc n) es
others es n = take_all (length es - (n + 1)) (drop (n + 1) es) (omega (arith, length-drop (n + 1) es))
    ∙ ap (λ k. drop k es) (add-one n)

enters : (d : Delimiter) (s : Span) (n : ℕ) (es : List Entry) → OfWhole d s n es
    → IsEntered d (Opens d ∷ tokens es) (tokens (take n es)) (tokens (drop (suc n) es))
unfolding group_at
enters d s n es o f =
    let us : List Token = tokens (drop (suc n) es) in
    let xs : List Token = tokens (take n es) in
    ap (λ b. cond b (within_group d f (split 0 (tokens es))) Refused) (delimiter_same d)
    ∙ ap (within_group d f) o.tokens
    ∙ ap (λ b. cond b (whole d us (f xs)) Refused) (delimiter_same d)

module _ (at es : List Entry) (e : Entry) (d : Delimiter) (s : Span) (n : ℕ) where
  opens : at ≡ e ∷ es → e ≡ entry.Open d s n → at ≡ entry.Open d s n ∷ es
  opens p q = p ∙ ap (λ x. x ∷ es) q

  group : at ≡ e ∷ es → e ≡ entry.Open d s n → is_whole at ≡ true → OfWhole d s n es
  group p q h = whole_group d s n es (sym (ap is_whole (opens p q)) ∙ h)

  pub opened_at : at ≡ e ∷ es → e ≡ entry.Open d s n → IsOpened d (tokens at)
  opened_at p q =
      let P : List Entry → Type 0 = λ x. IsOpened d (tokens x) in
      subst P (sym (opens p q)) refl

  pub entered : at ≡ e ∷ es → e ≡ entry.Open d s n → is_whole at ≡ true
      → IsEntered d (tokens at) (tokens (take n es)) (tokens (take (length es - (n + 1)) (drop (n + 1) es)))
  entered p q h f =
      ap (λ x. group_at d f (tokens x)) (opens p q) ∙ enters d s n es (group p q h) f
      ∙ ap (λ x. whole d (tokens x) (f (tokens (take n es)))) (sym (others es n))

  pub entered_inside : at ≡ e ∷ es → e ≡ entry.Open d s n → is_whole at ≡ true → is_whole (take n es) ≡ true
  entered_inside p q h = (group p q h).inside

  pub entered_behind : at ≡ e ∷ es → e ≡ entry.Open d s n → is_whole at ≡ true
      → is_whole (take (length es - (n + 1)) (drop (n + 1) es)) ≡ true
  entered_behind p q h = ap is_whole (others es n) ∙ (group p q h).behind

  pub entered_within : at ≡ e ∷ es → e ≡ entry.Open d s n → is_whole at ≡ true → n < length es
  entered_within p q h = (group p q h).within
