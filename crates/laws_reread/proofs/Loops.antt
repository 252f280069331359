-- What stands behind the word for in a loop begins no lifetimes of a closure: a pattern that begins with < is a
-- qualified path, and behind its < stands a type, which begins with no lifetime and with no >.
use Rattle.std.proofs.Common.{◌≡◌, ℕ, List, [], ◌∷◌, ◌++◌, refl, sym, ap, ◌∙◌, subst, append_assoc}
use Rattle.std.proofs.Common.{⊎_elim, arith, inl, inr}
use Rattle.std.specs.Prelude.{Bool, true, false, not, ◌&&◌, ◌||◌, ◌⊎◌, ◌==◌, ◌<◌, cond, length, Some, None}
use Rattle.std.proofs.lemmas.Bool.{false≢true}
use Rattle.proc_macro2.specs.Token.{Token, Opens, Closes, Ident, Literal, Punct}
use Rattle.proc_macro2.specs.declared.delimiter.Delimiter.{Delimiter}
use Rattle.rust_leaf.specs.declared.punct.Spacing.{Spacing}
use Rattle.rust_leaf.specs.declared.punct.Spacing.TheVariants.{Alone as Apart, Joint}
use Rattle.syn_grammar.specs.Kind.{Kind, AnyPath, AtType, AType, Abi, BoundLifetimes, BracketType, DynType}
use Rattle.syn_grammar.specs.Kind.{FnPtrType, IdentPattern, ImplType, InExpression, InferType, LiteralPattern}
use Rattle.syn_grammar.specs.Kind.{NeverType, OnePattern, Path, PathPattern, Pattern, PointerType, QualifiedPath}
use Rattle.syn_grammar.specs.Kind.{RangeToPattern, ReferencePattern, ReferenceType, RestPattern, Segments}
use Rattle.syn_grammar.specs.Kind.{SlicePattern, TuplePattern, TupleType, WildPattern, WithPlus}
use Rattle.syn_grammar.specs.Words.{is_path_keyword}
use Rattle.syn_grammar.specs.Tree.{Tree, AWord, ALiteral, AMark, ALifetime, Raw, Nil, Pair, First, Second, End, Again}
use Rattle.syn_grammar.specs.Tree.{Final, More, Group, Dropped, Called, Verbatim, Node, Whole, marks as signs, flat}
use Rattle.syn_grammar.specs.Gram.{Gram, word, literal, mark, lifetime, raw, nothing, never, seq, alt, star, many}
use Rattle.syn_grammar.specs.Gram.{group, judged, dropped, called, ref, operand}
use Rattle.syn_grammar.specs.Fuel.{nullable}
use Rattle.syn_grammar.specs.Look.{a_lifetime, behind, first_seen, seen, sees, ◌then◌, ◌or◌}
use Rattle.syn_grammar.specs.Say.{marks}
use Rattle.syn_grammar.specs.Ranks.{skips}
use Rattle.syn_grammar.specs.Table.{table}
use Rattle.syn_grammar.specs.Derives.{Derives}
use Rattle.syn_grammar.proofs.Firm.{firm}
use Rattle.syn_grammar.proofs.Founded.{all_founded}
use Rattle.syn_grammar.proofs.Whole.{and_true, takes}

-- a tree that takes a token has some
none_taken : (us : List Token) → us ≡ [] → 0 < length us → ⊥
none_taken [] e h = omega (arith, h)
none_taken (u ∷ us) e h = cc

module _ (P : List Token → Type 0) (may_lead : ℕ → Bool) (is_led : Kind → Bool) where
  -- whatever is read begins so, or there is nothing
  abbrev pub leads : Gram → Bool
  leads (word p) = true
  leads (literal p) = true
  leads (mark c cs) = may_lead c
  leads nothing = true
  leads never = true
  leads (seq a b) = leads a && (not (nullable a) || leads b)
  leads (alt t a b) = leads a && leads b
  leads (star t g) = leads g
  leads (group d g) = true
  leads (judged v g) = leads g
  leads (called n g) = leads g
  leads (ref k) = is_led k
  leads _ = false

  abbrev pub Leads : List Token → Type 0
  Leads us = (us ≡ []) ⊎ ((ts : List Token) → P (us ++ ts))

  module _ (of_word : (cs : List ℕ) (ts : List Token) → P (Ident cs ∷ ts))
      (of_literal : (cs : List ℕ) (ts : List Token) → P (Literal cs ∷ ts))
      (of_group : (d : Delimiter) (ts : List Token) → P (Opens d ∷ ts))
      (of_mark : (c : ℕ) (i : Spacing) (ts : List Token) → may_lead c ≡ true → P (Punct c i ∷ ts))
      (entry : (k : Kind) → is_led k ≡ true → (x : Tree) (r : List Token) → Derives x (table k) r
      → (leads (table k) ≡ true) ⊎ Leads (flat x)) where
    of_marks : (c : ℕ) (cs : List ℕ) (i : Spacing) (ts : List Token) → may_lead c ≡ true → P (signs c cs i ++ ts)
    of_marks c [] i ts e = of_mark c i ts e
    of_marks c (d ∷ ds) i ts e = of_mark c Joint (signs d ds i ++ ts) e

    -- one behind the other
    both_lead : (us vs : List Token) → Leads us → (us ≡ [] → Leads vs) → Leads (us ++ vs)
    both_lead us vs (inr f) g = inr (λ ts. subst P (sym (append_assoc us vs ts)) (f (vs ++ ts)))
    both_lead us vs (inl e) g = subst (λ ws. Leads (ws ++ vs)) (sym e) (g e)

    back_leads : (x y : Tree) (a b : Gram) (r : List Token) → Derives x a r → (not (nullable a) || leads b) ≡ true
        → (leads b ≡ true → Leads (flat y)) → flat x ≡ [] → Leads (flat y)
    back_leads x y a b r d e h f = go (nullable a) refl e
      where
        go : (n : Bool) → nullable a ≡ n → (not n || leads b) ≡ true → Leads (flat y)
        go true i j = h j
        go false i j = absurd (none_taken (flat x) f (takes all_founded firm x a r d i))

    pub led : (x : Tree) (g : Gram) (r : List Token) → Derives x g r → leads g ≡ true → Leads (flat x)
    led (AWord cs) (word p) r d e = inr (λ ts. of_word cs ts)
    led (ALiteral cs) (literal p) r d e = inr (λ ts. of_literal cs ts)
    led (AMark c cs i) (mark b bs) r d e = inr (λ ts. of_marks c cs i ts (ap may_lead d.0 ∙ e))
    led (ALifetime cs) lifetime r d e = absurd (false≢true e)
    led (Raw us) raw r d e = absurd (false≢true e)
    led Nil nothing r d e = inl refl
    led (Pair x y) (seq a b) r d e =
        let h = and_true (leads a) (not (nullable a) || leads b) e in
        both_lead (flat x) (flat y) (led x a (flat y ++ r) d.0 h.0)
        (back_leads x y a b (flat y ++ r) d.0 h.1 (λ i. led y b r d.1 i))
    led (First x) (alt t a b) r d e = led x a r d.1 (and_true (leads a) (leads b) e).0
    led (Second x) (alt t a b) r d e = led x b r d.1 (and_true (leads a) (leads b) e).1
    led End (star t g) r d e = inl refl
    led (Again x y) (star t g) r d e =
        both_lead (flat x) (flat y) (led x g (flat y ++ r) d.1 e) (λ f. led y (star t g) r d.2 e)
    led End (many t c g) r d e = absurd (false≢true e)
    led (Final x) (many t c g) r d e = absurd (false≢true e)
    led (More x c i y) (many t m g) r d e = absurd (false≢true e)
    led (Group d x) (group f g) r h e = inr (λ ts. of_group d ((flat x ++ Closes d ∷ []) ++ ts))
    led (First x) (judged v g) r d e = led x g r d.1 e
    led (Verbatim x) (judged v g) r d e = led x g r d.1 e
    led (Dropped x) (dropped g) r d e = absurd (false≢true e)
    led (Called n x) (called m g) r d e = led x g r d.1 e
    led (Node k x) (ref l) r d e =
        ⊎_elim (λ h. led x (table k) r d.1 h) (λ h. h) (entry k (ap is_led d.0 ∙ e) x r d.1)
    led (Whole x) (operand p n) r d e = absurd (false≢true e)
    led _ _ r d e = absurd d

    -- where a token is taken
    pub led_on : (x : Tree) (g : Gram) (r : List Token) → Derives x g r → leads g ≡ true → nullable g ≡ false
        → (ts : List Token) → P (flat x ++ ts)
    led_on x g r d e n ts =
        ⊎_elim (λ f. absurd (none_taken (flat x) f (takes all_founded firm x g r d n))) (λ f. f ts) (led x g r d e)

-- types
abbrev NoTick : List Token → Type 0
NoTick ts = sees (a_lifetime or marks ">") ts ≡ false

abbrev no_tick : ℕ → Bool
no_tick c = not (c == 39) && not (c == 62)

is_not : (b : Bool) → not b ≡ true → b ≡ false
is_not false e = refl
is_not true e = cc

tick_mark : (c : ℕ) (i : Spacing) (ts : List Token) → (c == 39) ≡ false → (c == 62) ≡ false → NoTick (Punct c i ∷ ts)
tick_mark c Apart ts e f = ap (λ b. seen (cond b (Some ts) None)) f
tick_mark c Joint (Ident cs ∷ ts) e f =
    ap (λ b. seen (first_seen (cond b (Some ts) None) (cond (c == 62) (Some (Ident cs ∷ ts)) None))) e
    ∙ ap (λ b. seen (cond b (Some (Ident cs ∷ ts)) None)) f
tick_mark c Joint [] e f = ap (λ b. seen (cond b (Some []) None)) f
tick_mark c Joint (Literal cs ∷ ts) e f = ap (λ b. seen (cond b (Some (Literal cs ∷ ts)) None)) f
tick_mark c Joint (Punct d i ∷ ts) e f = ap (λ b. seen (cond b (Some (Punct d i ∷ ts)) None)) f
tick_mark c Joint (Opens d ∷ ts) e f = ap (λ b. seen (cond b (Some (Opens d ∷ ts)) None)) f
tick_mark c Joint (Closes d ∷ ts) e f = ap (λ b. seen (cond b (Some (Closes d ∷ ts)) None)) f

abbrev is_type : Kind → Bool
is_type (AType WithPlus) = true
is_type TupleType = true
is_type NeverType = true
is_type ReferenceType = true
is_type PointerType = true
is_type BracketType = true
is_type InferType = true
is_type (DynType WithPlus) = true
is_type (ImplType WithPlus) = true
is_type FnPtrType = true
is_type BoundLifetimes = true
is_type Abi = true
is_type (AnyPath AtType) = true
is_type (QualifiedPath AtType) = true
is_type (Path AtType) = true
is_type (Segments AtType) = true
is_type k = false

type_entry : (k : Kind) → is_type k ≡ true → leads NoTick no_tick is_type (table k) ≡ true
unfolding table skips is_path_keyword
type_entry (AType WithPlus) e = refl
type_entry TupleType e = refl
type_entry NeverType e = refl
type_entry ReferenceType e = refl
type_entry PointerType e = refl
type_entry BracketType e = refl
type_entry InferType e = refl
type_entry (DynType WithPlus) e = refl
type_entry (ImplType WithPlus) e = refl
type_entry FnPtrType e = refl
type_entry BoundLifetimes e = refl
type_entry Abi e = refl
type_entry (AnyPath AtType) e = refl
type_entry (QualifiedPath AtType) e = refl
type_entry (Path AtType) e = refl
type_entry (Segments AtType) e = refl
type_entry _ e = absurd (false≢true e)

type_leads : (x : Tree) (r : List Token) → Derives x (ref (AType WithPlus)) r → (ts : List Token)
    → NoTick (flat x ++ ts)
unfolding skips
type_leads x r d ts =
    led_on NoTick no_tick is_type (λ cs us. refl) (λ cs us. refl) (λ e us. refl)
    (λ c i us e. let h = and_true (not (c == 39)) (not (c == 62)) e in
    tick_mark c i us (is_not (c == 39) h.0) (is_not (c == 62) h.1))
    (λ k e y s h. inl (type_entry k e)) x (ref (AType WithPlus)) r d refl refl ts

-- patterns
abbrev pub NoClosure : List Token → Type 0
NoClosure ts = sees (marks "<" then (a_lifetime or marks ">")) ts ≡ false

abbrev no_less : ℕ → Bool
no_less c = not (c == 60)

less_mark : (c : ℕ) (i : Spacing) (ts : List Token) → (c == 60) ≡ false → NoClosure (Punct c i ∷ ts)
less_mark c i ts e = ap (λ b. seen (behind (cond b (Some ts) None) (a_lifetime or marks ">"))) e

abbrev is_pattern : Kind → Bool
is_pattern Pattern = true
is_pattern OnePattern = true
is_pattern IdentPattern = true
is_pattern WildPattern = true
is_pattern RangeToPattern = true
is_pattern RestPattern = true
is_pattern TuplePattern = true
is_pattern SlicePattern = true
is_pattern ReferencePattern = true
is_pattern LiteralPattern = true
is_pattern PathPattern = true
is_pattern (AnyPath InExpression) = true
is_pattern (QualifiedPath InExpression) = true
is_pattern (Path InExpression) = true
is_pattern (Segments InExpression) = true
is_pattern k = false

-- behind its < stands a type
bracket_leads : (x : Tree) (r : List Token) → Derives x (table (QualifiedPath InExpression)) r → (ts : List Token)
    → NoClosure (flat x ++ ts)
unfolding table
bracket_leads (Pair (AMark c cs i) (Pair t y)) r d ts =
    subst (λ b. NoClosure ((signs b cs i ++ (flat t ++ flat y)) ++ ts)) (sym d.0.0)
    (subst (λ bs. NoClosure ((signs 60 bs i ++ (flat t ++ flat y)) ++ ts)) (sym d.0.1)
    (subst NoTick (sym (append_assoc (flat t) (flat y) ts)) (type_leads t (flat y ++ r) d.1.0 (flat y ++ ts))))
bracket_leads (Pair (AMark c cs i) _) r d ts = absurd d.1
bracket_leads (Pair _ y) r d ts = absurd d.0
bracket_leads _ r d ts = absurd d

pattern_entry : (k : Kind) → is_pattern k ≡ true → (x : Tree) (r : List Token) → Derives x (table k) r
    → (leads NoClosure no_less is_pattern (table k) ≡ true) ⊎ Leads NoClosure no_less is_pattern (flat x)
unfolding table skips is_path_keyword
pattern_entry Pattern e x r d = inl refl
pattern_entry OnePattern e x r d = inl refl
pattern_entry IdentPattern e x r d = inl refl
pattern_entry WildPattern e x r d = inl refl
pattern_entry RangeToPattern e x r d = inl refl
pattern_entry RestPattern e x r d = inl refl
pattern_entry TuplePattern e x r d = inl refl
pattern_entry SlicePattern e x r d = inl refl
pattern_entry ReferencePattern e x r d = inl refl
pattern_entry LiteralPattern e x r d = inl refl
pattern_entry PathPattern e x r d = inl refl
pattern_entry (AnyPath InExpression) e x r d = inl refl
pattern_entry (QualifiedPath InExpression) e x r d = inr (inr (λ ts. bracket_leads x r d ts))
pattern_entry (Path InExpression) e x r d = inl refl
pattern_entry (Segments InExpression) e x r d = inl refl
pattern_entry _ e x r d = absurd (false≢true e)

pub pattern_leads : (x : Tree) (r : List Token) → Derives x (ref Pattern) r → (ts : List Token)
    → NoClosure (flat x ++ ts)
unfolding skips
pattern_leads x r d ts =
    led_on NoClosure no_less is_pattern (λ cs us. refl) (λ cs us. refl) (λ e us. refl)
    (λ c i us e. less_mark c i us (is_not (c == 60) e)) pattern_entry x (ref Pattern) r d refl refl ts
