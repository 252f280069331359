-- Tokens that stand first among others.
use Rattle.std.proofs.Common.{◌≡◌, ℕ, suc, ◌+◌, ◌-◌, List, [], ◌∷◌, ◌++◌}
use Rattle.std.proofs.Common.{length, take, drop, get_or, refl, sym, ap, ◌∙◌, ◌≤◌, arith}
use Rattle.std.proofs.lemmas.List.{map-append, take-append-drop, take_all}
use Rattle.std.specs.Prelude.{true, cond}
use Rattle.std.proofs.lemmas.Bool.{eq-eqb}
use Rattle.rust_leaf.specs.declared.punct.Spacing.{Spacing}
use Rattle.proc_macro2.specs.Token.{Token}
use Rattle.syn_grammar.specs.Gram.{punct}
use Rattle.syn_grammar.specs.Run.{Call, Out, Refused, Got, interp, wrap, mark_at, mark_onto}
use Rattle.syn_grammar.specs.Tree.{AMark, marks}
use Rattle.syn_grammar.proofs.Sound.{mark_to}
use Rattle.reader_tree.specs.Forms.{mark_of}
use Rattle.rust_map.specs.declared.span.Span.{Span}
use Rattle.proc_macro2.specs.Flat.{spanned}
use Rattle.proc_macro2.specs.Token.{Opens, Closes, Spanned}
use Rattle.proc_macro2.specs.declared.delimiter.Delimiter.{Delimiter}
use Rattle.syn_buffer.specs.Entries.{is_whole, closes_with, spanned_entries, spanned_entry}
use Rattle.syn_buffer.specs.declared.entry.Entry.{Entry}
use Rattle.syn_buffer.specs.declared.entry.Entry.TheVariants as entry
use Rattle.reader_tokens.proofs.Groups.{group_tokens, whole_balanced, whole_group}
use Rattle.reader_tokens.proofs.Nested.{both, parts}
use Rattle.reader_steps.proofs.Groups.{others}
use Rattle.reader_steps.specs.Answers.{tokens}
use Rattle.syn_read.specs.Reading.{StandsSign, NoSign, StandsGroup, NoGroup}

-- a run that reads nothing
nowhere : Call → List Token → Out
nowhere call ts = Refused

-- a punctuation that was read stands there
pub sign_read : (text : List ℕ) (spacing : Spacing) (ts us : List Token)
    → ((call : Call → List Token → Out) → interp call (punct text) ts ≡ Got (mark_of text spacing) us)
    → StandsSign text spacing ts us
sign_read [] spacing ts us h = absurd (refused_got (h nowhere))
  where
    refused_got : {x : _} → Refused ≡ Got x us → ⊥
    refused_got e = cc
sign_read (c ∷ cs) spacing ts us h =
    let m = mark_to c cs ts (AMark c cs spacing) us (h nowhere) in
    let same : m.spacing ≡ spacing = cc (m.is) in
    m.tokens ∙ ap (λ s. marks c cs s ++ us) same

-- one that stands there is read
there : (c : ℕ) (cs : List ℕ) (spacing : Spacing) (rest : List Token)
    → mark_at c cs (marks c cs spacing ++ rest) ≡ Got (AMark c cs spacing) rest
unfolding mark_at
there c [] spacing rest = ap (λ b. cond b (Got (AMark c [] spacing) rest) Refused) (eq-eqb c c refl)
there c (d ∷ ds) spacing rest =
    ap (λ b. cond b (wrap (mark_onto c) (mark_at d ds (marks d ds spacing ++ rest))) Refused) (eq-eqb c c refl)
    ∙ ap (wrap (mark_onto c)) (there d ds spacing rest)

-- one that was refused doesn't
pub sign_refused : (text : List ℕ) (ts : List Token)
    → ((call : Call → List Token → Out) → interp call (punct text) ts ≡ Refused) → NoSign text ts
sign_refused [] ts h spacing rest e = e
sign_refused (c ∷ cs) ts h spacing rest e =
    let got : mark_at c cs ts ≡ Got (AMark c cs spacing) rest = ap (mark_at c cs) e ∙ there c cs spacing rest in
    let none : mark_at c cs ts ≡ Refused = h nowhere in
    cc (got, none)

-- the first of entries, and the others
pub first_rest : (at : List Entry) (e : Entry) → 1 ≤ length at → e ≡ get_or at 0 e
    → at ≡ e ∷ take (length at - 1) (drop 1 at)
first_rest [] e l is = absurd (omega (arith, l))
first_rest (x ∷ xs) e l is =
    ap (λ y. y ∷ xs) (sym is) ∙ ap (λ ys. e ∷ ys) (sym (take_all (length (x ∷ xs) - 1) xs (omega arith)))

-- a group that opens first among whole entries
module _ (wanted : Delimiter) (at es : List Entry) (e : Entry) (d : Delimiter) (s : Span) (n : ℕ) where
  opens : at ≡ e ∷ es → e ≡ entry.Open d s n → at ≡ entry.Open d s n ∷ es
  opens p q = p ∙ ap (λ x. x ∷ es) q

  pub group_stands : at ≡ e ∷ es → e ≡ entry.Open d s n → d ≡ wanted → is_whole at ≡ true
      → StandsGroup wanted (tokens (take n es)) (tokens at) (tokens (take (length es - (n + 1)) (drop (n + 1) es)))
  group_stands p q w h =
      let a : at ≡ entry.Open d s n ∷ es = opens p q in
      let whole : is_whole (entry.Open d s n ∷ es) ≡ true = sym (ap is_whole a) ∙ h in
      let closes = (both (closes_with d s (drop n es)) _ whole).0 in (
        whole_balanced (take n es) (whole_group d s n es whole).inside,
        ap tokens a ∙ ap (λ ts. Opens d ∷ ts) (group_tokens d s n es closes)
            ∙ ap (λ k. Opens k ∷ tokens (take n es) ++ Closes k ∷ tokens (drop (suc n) es)) w
            ∙ ap (λ xs. Opens wanted ∷ tokens (take n es) ++ Closes wanted ∷ tokens xs) (sym (others es n)),
      )

  -- with where its tokens stand
  pub group_spans : at ≡ e ∷ es → e ≡ entry.Open d s n → d ≡ wanted → is_whole at ≡ true
      → spanned_entries at ≡ spanned (Opens wanted) s ∷ spanned_entries (take n es) ++ spanned (Closes wanted) s
      ∷ spanned_entries (take (length es - (n + 1)) (drop (n + 1) es))
  group_spans p q w h =
      let a : at ≡ entry.Open d s n ∷ es = opens p q in
      let whole : is_whole (entry.Open d s n ∷ es) ≡ true = sym (ap is_whole a) ∙ h in
      let inside : List Spanned = spanned_entries (take n es) in
      let behind : List Spanned = spanned_entries (drop (suc n) es) in
      ap spanned_entries a
      ∙ ap (λ ts. spanned (Opens d) s ∷ ts)
      (ap spanned_entries (parts d s n es (both (closes_with d s (drop n es)) _ whole).0)
      ∙ map-append spanned_entry (take n es) (entry.Close d s ∷ drop (suc n) es))
      ∙ ap (λ k. spanned (Opens k) s ∷ inside ++ spanned (Closes k) s ∷ behind) w
      ∙ ap (λ xs. spanned (Opens wanted) s ∷ inside ++ spanned (Closes wanted) s ∷ spanned_entries xs)
      (sym (others es n))

  -- the entries of it stand before those behind it
  pub group_behind : at ≡ e ∷ es → e ≡ entry.Open d s n
      → (passed : List Entry) × (at ≡ passed ++ take (length es - (n + 1)) (drop (n + 1) es))
  group_behind p q = (
    entry.Open d s n ∷ take (suc n) es,
    opens p q ∙ ap (λ xs. entry.Open d s n ∷ xs) (sym (take-append-drop (suc n) es))
        ∙ ap (λ xs. entry.Open d s n ∷ take (suc n) es ++ xs) (sym (others es n)),
  )

  -- another one opens there
  pub group_other : at ≡ e ∷ es → e ≡ entry.Open d s n → (d ≡ wanted → ⊥) → NoGroup wanted (tokens at)
  group_other p q w rest r =
      let opened : tokens at ≡ Opens d ∷ tokens es = ap tokens (opens p q) in
      w (same_opens d wanted (tokens es) rest (sym opened ∙ r))
    where
      same_opens : (a b : Delimiter) (us vs : List Token) → Opens a ∷ us ≡ Opens b ∷ vs → a ≡ b
      same_opens a b us vs h = cc
