-- Lists of names that are printed are never refused.
use Rattle.std.proofs.Common.{◌≡◌, ◌≤◌, ℕ, List, [], ◌∷◌, ◌++◌, length, sym, ap, ◌∙◌, subst, arith, inl, inr}
use Rattle.std.specs.Prelude.{Bool, true, false, not}
use Rattle.rust_map.specs.declared.span.Span.{Span}
use Rattle.rust_leaf.specs.Leaf.{ident_text}
use Rattle.rust_leaf.specs.declared.ident.Ident.{Ident}
use Rattle.proc_macro2.specs.Token.{Spanned, plain}
use Rattle.syn_kinds.specs.Stands.{ident_stands, marks_stand}
use Rattle.syn_kinds.specs.Table.{marks}
use Rattle.rust_leaf.specs.Keywords.{is_reserved}
use Rattle.syn_kinds.specs.Values.{marks_tokens}
use Rattle.syn_kinds.proofs.Marks.{marks_count}
use Rattle.syn_lists.specs.Lists.{IsSeparated}
use Rattle.syn_buffer.specs.Leaves.{ident_token}
use Rattle.syn_peek.proofs.Shorter.{marks_shorter}
use Rattle.syn_lists.specs.ReadLists.{ReadsPairs, StopsAt}
use Rattle.laws_lists.specs.ReadBack.{AreNames, ArePlaces, IsRefused, no_marks, no_name, printed, reads_marks}
use Rattle.laws_lists.specs.ReadBack.{reads_name}
use Rattle.laws_lists.proofs.MarksBack.{marks_are_seen, past_first}
use Rattle.laws_lists.proofs.NamesBack.{all_first, all_rest, flat, none_behind, put_flat, turn}

differ : (b : Bool) → b ≡ true → b ≡ false → ⊥
differ true e f = cc
differ false e f = cc

module _ (kind width : ℕ) where
  abbrev cs : List ℕ
  cs = marks kind width

  abbrev Pairs : List Spanned → List Ident → List (List Span) → List Spanned → Type 0
  Pairs ts vs ps us = ReadsPairs reads_name (reads_marks kind width) ts vs ps us

  -- what is left is the print of such a list
  abbrev IsPrint : List Spanned → Type 0
  IsPrint us = (vs : List Ident) × (ps : List (List Span)) × (us ≡ flat kind width vs ps) × AreNames vs
      × ArePlaces kind width ps × IsSeparated vs ps

  left_over : (vs : List Ident) (ps : List (List Span)) (ws : List Ident) (qs : List (List Span)) (us : List Spanned)
      → AreNames vs → ArePlaces kind width ps → IsSeparated vs ps → Pairs (flat kind width vs ps) ws qs us → IsPrint us
  left_over vs ps [] qs us n a s (e, m) = (vs, ps, sym e, n, a, s)
  left_over vs ps (w ∷ ws) [] us n a s h = absurd h
  left_over [] ps (w ∷ ws) (q ∷ qs) us n a s (xs, more, (e, m), b, h) = absurd (cc)
  left_over (v ∷ vs) [] (w ∷ ws) (q ∷ qs) us n a s (xs, more, (e, m), b, h) =
      absurd (none_behind kind width q xs more (sym (ap past_first e)) b)
  left_over (v ∷ vs) (p ∷ ps) (w ∷ ws) (q ∷ qs) us n a s (xs, more, (e, m), b, h) =
      let t = turn kind width v w p q (flat kind width vs ps) xs more (all_first (λ x. length x ≡ width) p ps a) e b in
      left_over vs ps ws qs us (all_rest (λ i. is_reserved (ident_text i) ≡ false) v vs n)
      (all_rest (λ x. length x ≡ width) p ps a) (omega (arith, s.0), omega (arith, s.1))
      (subst (λ y. Pairs y ws qs us) t.2 h)

  -- no more names are read than there are tokens
  few_names : (ts : List Spanned) (ws : List Ident) (qs : List (List Span)) (us : List Spanned) → Pairs ts ws qs us
      → length ws ≤ length ts
  few_names ts [] qs us h = omega arith
  few_names ts (w ∷ ws) [] us h = absurd h
  few_names ts (w ∷ ws) (q ∷ qs) us (xs, more, (e, m), b, h) =
      omega (
        arith,
        ap (λ (x : List Spanned). length x) e,
        marks_shorter cs q xs more b,
        few_names more ws qs us h,
      )

  abbrev Stops : List Spanned → Type 0
  Stops us = StopsAt reads_name no_name (no_marks kind width) us

  -- a name and a punctuation stand where they are printed
  name_seen : (v : Ident) (xs us : List Spanned) → us ≡ ident_token v ∷ xs → is_reserved (ident_text v) ≡ false
      → no_name us → ⊥
  name_seen v xs us e r none = differ (ident_stands (plain us)) (ap (λ y. ident_stands (plain y)) e ∙ ap not r) none

  marks_seen : (p : List Span) (xs us : List Spanned) → us ≡ marks_tokens cs p ++ xs → length p ≡ width
      → no_marks kind width us → ⊥
  marks_seen p xs us e m none =
      differ (marks_stand cs (plain us))
      (ap (λ y. marks_stand cs (plain y)) e ∙ marks_are_seen cs p xs (m ∙ sym (marks_count kind width))) none

  goes_on : (us : List Spanned) (vs : List Ident) (ps : List (List Span)) → us ≡ flat kind width vs ps → AreNames vs
      → ArePlaces kind width ps → Stops us → ⊥
  goes_on us [] ps e n a (some, h) = omega (arith, some, ap (λ (x : List Spanned). length x) e)
  goes_on us (v ∷ vs) [] e n a (some, inl none) =
      name_seen v [] us e (all_first (λ i. is_reserved (ident_text i) ≡ false) v vs n) none
  goes_on us (v ∷ vs) (p ∷ ps) e n a (some, inl none) =
      name_seen v (marks_tokens cs p ++ flat kind width vs ps) us e
      (all_first (λ i. is_reserved (ident_text i) ≡ false) v vs n) none
  goes_on us (v ∷ vs) [] e n a (some, inr (w, xs, (f, m), more, none)) =
      omega (arith, more, ap (λ (x : List Spanned). length (past_first x)) (sym f ∙ e))
  goes_on us (v ∷ vs) (p ∷ ps) e n a (some, inr (w, xs, (f, m), more, none)) =
      marks_seen p (flat kind width vs ps) xs (ap past_first (sym f ∙ e))
      (all_first (λ x. length x ≡ width) p ps a) none

  pub never_refused : (vs : List Ident) (ps : List (List Span)) → AreNames vs → ArePlaces kind width ps
      → IsSeparated vs ps → IsRefused kind width (printed kind width vs ps) → ⊥
  never_refused vs ps n a s h = stop (subst (λ ts. IsRefused kind width ts) (put_flat kind width vs ps []) h)
    where
      stop : IsRefused kind width (flat kind width vs ps) → ⊥
      stop (ws, qs, us, read, inr many) = omega (arith, few_names (flat kind width vs ps) ws qs us read, many)
      stop (ws, qs, us, read, inl g) =
          let (ys, zs, e, names, places, even) = left_over vs ps ws qs us n a s read in
          goes_on us ys zs e names places g
