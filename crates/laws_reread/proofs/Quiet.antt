-- Where a mark stands among the parts of no kind in an entry but in groups, the next one that stands in no group is
-- the one that stands there behind what follows.
use Rattle.std.proofs.Common.{◌≡◌, ℕ, zero, suc, List, [], ◌∷◌, ◌++◌, refl, sym, ap, ◌∙◌, append_assoc}
use Rattle.std.specs.Prelude.{Bool, true, false, not, ◌&&◌, ◌||◌, ◌==◌, cond, Some, None}
use Rattle.proc_macro2.specs.Token.{Token, Opens, Closes, Ident, Literal, Punct}
use Rattle.proc_macro2.specs.declared.delimiter.Delimiter.{Delimiter}
use Rattle.rust_leaf.specs.declared.punct.Spacing.{Spacing}
use Rattle.rust_leaf.specs.declared.punct.Spacing.TheVariants.{Joint}
use Rattle.syn_grammar.specs.Kind.{Kind, Position}
use Rattle.syn_grammar.specs.Tree.{Tree, AWord, ALiteral, AMark, ALifetime, Raw, Nil, Pair, First, Second, End, Again}
use Rattle.syn_grammar.specs.Tree.{Final, More, Group, Dropped, Called, Verbatim, Node, Whole, Alone, Front, Back}
use Rattle.syn_grammar.specs.Tree.{Infix}
use Rattle.syn_grammar.specs.Tree.{marks, flat}
use Rattle.syn_grammar.specs.Gram.{Gram, word, literal, mark, lifetime, raw, nothing, seq, alt, star, many, group}
use Rattle.syn_grammar.specs.Gram.{judged, dropped, called, ref, operand}
use Rattle.syn_grammar.specs.Look.{Look, behind, past_closing, past_first}
use Rattle.syn_grammar.specs.Table.{table}
use Rattle.syn_grammar.specs.Forms.{back, fronts, front, inside}
use Rattle.syn_grammar.specs.Derives.{Bound, Derives}
use Rattle.syn_grammar.proofs.Splits.{delimiter_same}
use Rattle.syn_grammar.proofs.Whole.{and_true}
use Rattle.laws_binding.proofs.Begun.{is_front, first_passes}
use Rattle.laws_binding.proofs.Sights.{is_back, backs_are}
use Rattle.laws_items.proofs.Passed.{group_passed}

module _ (stop : ℕ) (is_quiet : Kind → Bool) (operands : Bool) where
  abbrev pub past_stop : Look
  past_stop = past_first stop 0

  abbrev pub are_other : ℕ → List ℕ → Bool
  are_other c [] = not (c == stop)
  are_other c (d ∷ ds) = not (c == stop) && are_other d ds

  abbrev pub IsQuiet : Gram → Bool
  IsQuiet (mark c cs) = are_other c cs
  IsQuiet raw = false
  IsQuiet (seq a b) = IsQuiet a && IsQuiet b
  IsQuiet (alt t a b) = IsQuiet a && IsQuiet b
  IsQuiet (star t g) = IsQuiet g
  IsQuiet (many e c g) = not (c == stop) && IsQuiet g
  IsQuiet (judged v g) = IsQuiet g
  IsQuiet (dropped g) = IsQuiet g
  IsQuiet (called n g) = IsQuiet g
  IsQuiet (ref k) = is_quiet k
  IsQuiet (operand p n) = operands
  IsQuiet g = true

  module _ (tick : (39 == stop) ≡ false) (entry : (k : Kind) → is_quiet k ≡ true → IsQuiet (table k) ≡ true)
      (forms : operands ≡ true → (k : Kind) → (is_front k || is_back k) ≡ true → IsQuiet (table k) ≡ true) where
    or_right : (a b : Bool) → b ≡ true → (a || b) ≡ true
    or_right true b e = refl
    or_right false b e = e

    begins_quiet : operands ≡ true → (p : Position) (k : Kind) (ts : List Token) → front p ts ≡ Some k
        → IsQuiet (table k) ≡ true
    unfolding front
    begins_quiet o p k ts e =
        forms o k (ap (λ b. b || is_back k) (first_passes is_front (fronts p) ts k refl e))

    behind_quiet : operands ≡ true → (p : Position) (k : Kind) (ts : List Token) → back p ts ≡ Some k
        → IsQuiet (table k) ≡ true
    behind_quiet o p k ts e = forms o k (or_right (is_front k) (is_back k) (backs_are p k ts e))

    -- marks, and groups
    other : (b : Bool) → not b ≡ true → b ≡ false
    other false e = refl
    other true e = cc

    mark_passed : (c : ℕ) (spacing : Spacing) (ts : List Token) → not (c == stop) ≡ true
        → past_stop (Punct c spacing ∷ ts) ≡ past_stop ts
    mark_passed c spacing ts e = ap (λ b. cond b (Some ts) (past_stop ts)) (other (c == stop) e)

    marks_passed : (c : ℕ) (cs : List ℕ) (spacing : Spacing) (ts : List Token) → are_other c cs ≡ true
        → past_stop (marks c cs spacing ++ ts) ≡ past_stop ts
    marks_passed c [] spacing ts e = mark_passed c spacing ts e
    marks_passed c (d ∷ ds) spacing ts e =
        let a = and_true (not (c == stop)) (are_other d ds) e in
        mark_passed c Joint (marks d ds spacing ++ ts) a.0 ∙ marks_passed d ds spacing ts a.1

    past_open : (n : ℕ) (ts : List Token) → past_first stop (suc n) ts ≡ behind (past_closing n ts) past_stop
    past_open n (Opens d ∷ ts) = past_open (suc n) ts
    past_open n (Ident cs ∷ ts) = past_open n ts
    past_open n (Literal cs ∷ ts) = past_open n ts
    past_open n (Punct c spacing ∷ ts) = past_open n ts
    past_open zero (Closes d ∷ ts) = refl
    past_open (suc n) (Closes d ∷ ts) = past_open n ts
    past_open n [] = refl

    group_skipped : (e : Delimiter) (x : Tree) (g : Gram) (s : List Token) → Derives x g []
        → past_stop (Opens e ∷ (flat x ++ Closes e ∷ []) ++ s) ≡ past_stop s
    group_skipped e x g s d =
        past_open 0 ((flat x ++ Closes e ∷ []) ++ s)
        ∙ ap (λ o. behind o past_stop)
        (sym (ap (λ b. behind (cond b (Some ((flat x ++ Closes e ∷ []) ++ s)) None) (past_closing 0))
        (delimiter_same e))
        ∙ group_passed e x g s d)

    -- So the tokens of such a tree are passed.
    both : (us vs : List Token) → ((ts : List Token) → past_stop (us ++ ts) ≡ past_stop ts)
        → ((ts : List Token) → past_stop (vs ++ ts) ≡ past_stop ts) → (ts : List Token)
        → past_stop ((us ++ vs) ++ ts) ≡ past_stop ts
    both us vs f g ts = ap past_stop (append_assoc us vs ts) ∙ f (vs ++ ts) ∙ g ts

    mutual
      pub quiet : (x : Tree) (g : Gram) (r : List Token) → Derives x g r → IsQuiet g ≡ true → (ts : List Token)
          → past_stop (flat x ++ ts) ≡ past_stop ts
      quiet (AWord cs) (word p) r d q ts = refl
      quiet (ALiteral cs) (literal p) r d q ts = refl
      quiet (AMark c cs spacing) (mark e es) r d q ts =
          marks_passed c cs spacing ts (ap (λ b. are_other b cs) d.0 ∙ ap (are_other e) d.1 ∙ q)
      quiet (ALifetime cs) lifetime r d q ts =
          ap (λ b. cond b (Some (Ident cs ∷ ts)) (past_stop ts)) tick
      quiet (Raw us) raw r d q ts = cc
      quiet Nil nothing r d q ts = refl
      quiet (Pair x y) (seq a b) r d q ts =
          let e = and_true (IsQuiet a) (IsQuiet b) q in
          both (flat x) (flat y) (λ us. quiet x a (flat y ++ r) d.0 e.0 us) (λ us. quiet y b r d.1 e.1 us) ts
      quiet (First x) (alt t a b) r d q ts = quiet x a r d.1 (and_true (IsQuiet a) (IsQuiet b) q).0 ts
      quiet (Second x) (alt t a b) r d q ts = quiet x b r d.1 (and_true (IsQuiet a) (IsQuiet b) q).1 ts
      quiet End (star t g) r d q ts = refl
      quiet (Again x y) (star t g) r d q ts =
          both (flat x) (flat y) (λ us. quiet x g (flat y ++ r) d.1 q us) (λ us. quiet y (star t g) r d.2 q us) ts
      quiet End (many e c g) r d q ts = refl
      quiet (Final x) (many e c g) r d q ts = quiet x g r d.1 (and_true (not (c == stop)) (IsQuiet g) q).1 ts
      quiet (More x m spacing y) (many e c g) r d q ts =
          let a = and_true (not (c == stop)) (IsQuiet g) q in
          both (flat x) (Punct m spacing ∷ flat y) (λ us. quiet x g _ d.2 a.1 us)
          (λ us. mark_passed m spacing (flat y ++ us) (ap (λ b. not (b == stop)) d.1 ∙ a.0)
          ∙ quiet y (many e c g) r d.3 q us) ts
      quiet (Group e x) (group f g) r d q ts = group_skipped e x g ts d.1
      quiet (First x) (judged v g) r d q ts = quiet x g r d.1 q ts
      quiet (Verbatim x) (judged v g) r d q ts = quiet x g r d.1 q ts
      quiet (Dropped x) (dropped g) r d q ts = quiet x g r d q ts
      quiet (Called n x) (called m g) r d q ts = quiet x g r d.1 q ts
      quiet (Node k x) (ref l) r d q ts =
          quiet x (table k) r d.1 (entry k (ap is_quiet d.0 ∙ q)) ts
      quiet (Whole x) (operand p n) r d q ts = quiet_forms q p x r d.1 ts
      quiet _ _ r d q ts = absurd d

      quiet_forms : operands ≡ true → (p : Position) (x : Tree) (r : List Token) → Bound p x r → (ts : List Token)
          → past_stop (flat x ++ ts) ≡ past_stop ts
      quiet_forms o p (Alone k y) r d ts = quiet y (table k) r d.1 (begins_quiet o p k _ d.0) ts
      quiet_forms o p (Front k y x) r d ts =
          both (flat y) (flat x) (λ us. quiet y (table k) (flat x ++ r) d.1 (begins_quiet o p k _ d.0) us)
          (λ us. quiet_forms o (inside p k) x r d.4 us) ts
      quiet_forms o p (Back l k y) r d ts =
          both (flat l) (flat y) (λ us. quiet_forms o p l (flat y ++ r) d.4 us)
          (λ us. quiet y (table k) r d.1 (behind_quiet o p k _ d.0) us) ts
      quiet_forms o p (Infix l k y x) r d ts =
          both (flat l) (flat y ++ flat x) (λ us. quiet_forms o p l _ d.4 us)
          (λ us. both (flat y) (flat x) (λ vs. quiet y (table k) (flat x ++ r) d.1 (behind_quiet o p k _ d.0) vs)
          (λ vs. quiet_forms o (inside p k) x r d.6 vs) us) ts
      quiet_forms o p _ r d ts = absurd d
