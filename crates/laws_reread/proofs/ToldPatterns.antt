-- In what was read no pattern is a path of one identifier alone: behind each pattern in an entry begins no .. , unless
-- the entry ends in it, and before .. itself.
use Rattle.std.proofs.Common.{◌≡◌, ℕ, List, [], ◌∷◌, ◌++◌, refl, sym, ap, ◌∙◌, subst, append_assoc}
use Rattle.std.specs.Prelude.{Bool, true, false, not, ◌&&◌, ◌||◌, ◌==◌, cond, Some, None}
use Rattle.std.proofs.lemmas.Bool.{false≢true}
use Rattle.proc_macro2.specs.Token.{Token, Punct}
use Rattle.rust_leaf.specs.declared.punct.Spacing.{Spacing}
use Rattle.rust_leaf.specs.declared.punct.Spacing.TheVariants.{Alone as Apart, Joint}
use Rattle.syn_grammar.specs.Kind.{Kind, Position, OnePattern}
use Rattle.syn_grammar.specs.Kind.{ATypeAlias, DynType, ImplType, ItemMacro, OneConst, OneFunction}
use Rattle.syn_grammar.specs.Kind.{OneMacro, OneTypeAlias, Signature}
use Rattle.syn_grammar.specs.Kind.{WithPlus, WithoutPlus, InFile, InForeign, InTrait, InImpl}
use Rattle.syn_grammar.specs.Tree.{Tree, AWord, ALiteral, AMark, ALifetime, Raw, Nil, Pair, First, Second, End, Again}
use Rattle.syn_grammar.specs.Tree.{Final, More, Group, Dropped, Called, Verbatim, Node, Whole, Alone, Front, Back}
use Rattle.syn_grammar.specs.Tree.{Infix, marks as signs, flat}
use Rattle.syn_grammar.specs.Part.{choice}
use Rattle.syn_grammar.specs.Gram.{Gram, word, literal, mark, lifetime, raw, nothing, never, seq, alt, star, many}
use Rattle.syn_grammar.specs.Gram.{group, judged, dropped, called, ref, operand}
use Rattle.syn_grammar.specs.Look.{past_marks, seen, sees}
use Rattle.syn_grammar.specs.Say.{marks}
use Rattle.syn_grammar.specs.Table.{table}
use Rattle.syn_grammar.specs.Derives.{Derives, Bound}
use Rattle.syn_grammar.specs.Forms.{back, backs, front, fronts, inside}
use Rattle.laws_binding.proofs.Begun.{first_passes}
use Rattle.laws_reread_kinds.specs.Covered.{is_lone}
use Rattle.laws_reread.specs.Asked.{ends_in_pattern, is_no_lone, no_lone}
use Rattle.laws_reread_kinds.proofs.Choices.{both_same, both_true, is_false}
use Rattle.laws_reread.proofs.LonePatterns.{lone_before}

-- what an entry reads, and the rest behind it, begin with no .. : where it is told whether the rest does
abbrev pub is_apart : Bool → Gram → Bool
is_apart s (word p) = true
is_apart s (literal p) = true
is_apart s (mark c cs) = not (c == 46)
is_apart s lifetime = true
is_apart s nothing = s
is_apart s never = true
is_apart s (seq a b) = is_apart (is_apart s b) a
is_apart s (alt t a b) = is_apart s a && is_apart s b
is_apart s (star t g) = s && is_apart true g
is_apart s (group d g) = true
is_apart s (judged v g) = is_apart s g
is_apart s (dropped g) = is_apart s g
is_apart s (called n g) = is_apart s g
is_apart s _ = false

-- behind each kind in an entry that ends in a pattern begins no .. : where it is told whether the rest does
abbrev pub parts_patterns : Bool → Gram → Bool
parts_patterns s (seq a b) = parts_patterns (is_apart s b) a && parts_patterns s b
parts_patterns s (alt t a b) = parts_patterns s a && parts_patterns s b
parts_patterns s (star t g) = parts_patterns (s && is_apart true g) g
parts_patterns s (many e c g) = parts_patterns (s && not (c == 46)) g
parts_patterns s (group d g) = parts_patterns true g
parts_patterns s (judged v g) = parts_patterns s g
parts_patterns s (dropped g) = parts_patterns s g
parts_patterns s (called n g) = parts_patterns s g
parts_patterns s (ref k) = not (ends_in_pattern k) || s
parts_patterns s _ = true

-- of each kind: where one ends in a pattern, the rest begins with no ..
pub all_parted : (k : Kind) → parts_patterns (ends_in_pattern k) (table k) ≡ true
unfolding table
all_parted (DynType WithPlus) = refl
all_parted (DynType WithoutPlus) = refl
all_parted (ImplType WithPlus) = refl
all_parted (ImplType WithoutPlus) = refl
all_parted (Signature InFile) = refl
all_parted (Signature InForeign) = refl
all_parted (Signature InTrait) = refl
all_parted (Signature InImpl) = refl
all_parted (ATypeAlias InFile) = refl
all_parted (ATypeAlias InForeign) = refl
all_parted (ATypeAlias InTrait) = refl
all_parted (ATypeAlias InImpl) = refl
all_parted (ItemMacro InFile) = refl
all_parted (ItemMacro InForeign) = refl
all_parted (ItemMacro InTrait) = refl
all_parted (ItemMacro InImpl) = refl
all_parted (OneMacro InFile) = refl
all_parted (OneMacro InForeign) = refl
all_parted (OneMacro InTrait) = refl
all_parted (OneMacro InImpl) = refl
all_parted (OneTypeAlias InFile) = refl
all_parted (OneTypeAlias InForeign) = refl
all_parted (OneTypeAlias InTrait) = refl
all_parted (OneTypeAlias InImpl) = refl
all_parted (OneFunction InFile) = refl
all_parted (OneFunction InForeign) = refl
all_parted (OneFunction InTrait) = refl
all_parted (OneFunction InImpl) = refl
all_parted (OneConst InFile) = refl
all_parted (OneConst InForeign) = refl
all_parted (OneConst InTrait) = refl
all_parted (OneConst InImpl) = refl
all_parted _ = refl

-- a mark that is no dot
no_dots : (c : ℕ) (i : Spacing) (ts : List Token) → not (c == 46) ≡ true → sees (marks "..") (Punct c i ∷ ts) ≡ false
no_dots c Joint ts e = ap (λ b. seen (cond b (past_marks 46 [] ts) None)) (is_false (c == 46) e)
no_dots c Apart ts e = refl

no_dots_in : (c : ℕ) (cs : List ℕ) (i : Spacing) (ts : List Token) → not (c == 46) ≡ true
    → sees (marks "..") (signs c cs i ++ ts) ≡ false
no_dots_in c [] i ts e = no_dots c i ts e
no_dots_in c (d ∷ ds) i ts e = no_dots c Joint (signs d ds i ++ ts) e

no_dots_so : (c d : ℕ) (cs : List ℕ) (i : Spacing) (ts : List Token) → c ≡ d → not (d == 46) ≡ true
    → sees (marks "..") (signs c cs i ++ ts) ≡ false
no_dots_so c d cs i ts e h = no_dots_in c cs i ts (ap (λ b. not (b == 46)) e ∙ h)

-- the two, one behind the other
behind : (us vs ts : List Token) → sees (marks "..") (us ++ (vs ++ ts)) ≡ false
    → sees (marks "..") ((us ++ vs) ++ ts) ≡ false
behind us vs ts e = subst (λ ws. sees (marks "..") ws ≡ false) (sym (append_assoc us vs ts)) e

apart : (s : Bool) (x : Tree) (g : Gram) (r : List Token) → Derives x g r → is_apart s g ≡ true
    → (s ≡ true → sees (marks "..") r ≡ false) → sees (marks "..") (flat x ++ r) ≡ false
apart s (AWord cs) (word p) r d h f = refl
apart s (ALiteral cs) (literal p) r d h f = refl
apart s (AMark c cs i) (mark e es) r d h f = no_dots_so c e cs i r d.0 h
apart s (ALifetime cs) lifetime r d h f = refl
apart s Nil nothing r d h f = f h
apart s (Pair x y) (seq a b) r d h f =
    behind (flat x) (flat y) r (apart (is_apart s b) x a (flat y ++ r) d.0 h (λ e. apart s y b r d.1 e f))
apart s (First x) (alt t a b) r d h f = apart s x a r d.1 (both_true (is_apart s a) (is_apart s b) h).0 f
apart s (Second x) (alt t a b) r d h f = apart s x b r d.1 (both_true (is_apart s a) (is_apart s b) h).1 f
apart s End (star t g) r d h f = f (both_true s (is_apart true g) h).0
apart s (Again x y) (star t g) r d h f =
    behind (flat x) (flat y) r (apart true x g (flat y ++ r) d.1 (both_true s (is_apart true g) h).1
    (λ e. apart s y (star t g) r d.2 h f))
apart s (Group d x) (group e g) r i h f = refl
apart s (First x) (judged v g) r d h f = apart s x g r d.1 h f
apart s (Verbatim x) (judged v g) r d h f = apart s x g r d.1 h f
apart s (Dropped x) (dropped g) r d h f = apart s x g r d h f
apart s (Called n x) (called m g) r d h f = apart s x g r d.1 h f
apart s (Raw ts) raw r d h f = absurd (false≢true h)
apart s End (many e c g) r d h f = absurd (false≢true h)
apart s (Final x) (many e c g) r d h f = absurd (false≢true h)
apart s (More x o i y) (many e c g) r d h f = absurd (false≢true h)
apart s (Node k x) (ref l) r d h f = absurd (false≢true h)
apart s (Whole x) (operand p n) r d h f = absurd (false≢true h)
apart s _ g r d h f = absurd d

-- of one alternative
not_true : (b : Bool) → (b ≡ true → ⊥) → not b ≡ true
not_true false h = refl
not_true true h = absurd (h refl)

one_alternative : (k : Kind) (x : Tree) (r : List Token) → Derives x (table k) r
    → (ends_in_pattern k ≡ true → sees (marks "..") r ≡ false) → is_no_lone k x ≡ true
one_alternative OnePattern x r d f =
    not_true (is_lone (choice x)) (λ e. false≢true (sym (f refl) ∙ lone_before x r d e))
one_alternative _ x r d f = refl

-- what is told of the rest
of_ends : (b s : Bool) → (not b || s) ≡ true → b ≡ true → s ≡ true
of_ends true s h e = h
of_ends false s h e = absurd (false≢true e)

rest_told : (k l : Kind) (s : Bool) (r : List Token) → k ≡ l → (not (ends_in_pattern l) || s) ≡ true
    → (s ≡ true → sees (marks "..") r ≡ false) → ends_in_pattern k ≡ true → sees (marks "..") r ≡ false
rest_told k l s r e h f i = f (of_ends (ends_in_pattern l) s h (sym (ap ends_in_pattern e) ∙ i))

-- forms of expressions end in no pattern
front_ends : (p : Position) (k : Kind) (ts : List Token) → front p ts ≡ Some k → not (ends_in_pattern k) ≡ true
unfolding front
front_ends p k ts e = first_passes (λ j. not (ends_in_pattern j)) (fronts p) ts k refl e

back_ends : (p : Position) (k : Kind) (ts : List Token) → back p ts ≡ Some k → not (ends_in_pattern k) ≡ true
unfolding back
back_ends p k ts e = first_passes (λ j. not (ends_in_pattern j)) (backs p) ts k refl e

ends_not : (b : Bool) (ts : List Token) → not b ≡ true → b ≡ true → sees (marks "..") ts ≡ false
ends_not true ts h e = absurd (false≢true h)
ends_not false ts h e = absurd (false≢true e)

two : (a b : Bool) → a ≡ true → b ≡ true → (a && b) ≡ true
two a b e f = both_same a b true true e f

mutual
  patterns : (s : Bool) (x : Tree) (g : Gram) (r : List Token) → Derives x g r → parts_patterns s g ≡ true
      → (s ≡ true → sees (marks "..") r ≡ false) → no_lone x ≡ true
  patterns s (Pair x y) (seq a b) r d h f =
      let e = both_true (parts_patterns (is_apart s b) a) (parts_patterns s b) h in
      two (no_lone x) (no_lone y)
      (patterns (is_apart s b) x a (flat y ++ r) d.0 e.0 (λ i. apart s y b r d.1 i f)) (patterns s y b r d.1 e.1 f)
  patterns s (First x) (alt t a b) r d h f =
      patterns s x a r d.1 (both_true (parts_patterns s a) (parts_patterns s b) h).0 f
  patterns s (Second x) (alt t a b) r d h f =
      patterns s x b r d.1 (both_true (parts_patterns s a) (parts_patterns s b) h).1 f
  patterns s (Again x y) (star t g) r d h f =
      two (no_lone x) (no_lone y)
      (patterns (s && is_apart true g) x g (flat y ++ r) d.1 h (λ i. apart s y (star t g) r d.2 i f))
      (patterns s y (star t g) r d.2 h f)
  patterns s (Final x) (many e c g) r d h f =
      patterns (s && not (c == 46)) x g r d.1 h (λ i. f (both_true s (not (c == 46)) i).0)
  patterns s (More x o i y) (many e c g) r d h f =
      two (no_lone x) (no_lone y)
      (patterns (s && not (c == 46)) x g (Punct o i ∷ flat y ++ r) d.2 h
      (λ j. no_dots_so o c [] i (flat y ++ r) d.1 (both_true s (not (c == 46)) j).1))
      (patterns s y (many e c g) r d.3 h f)
  patterns s (Group e x) (group k g) r d h f = patterns true x g [] d.1 h (λ i. refl)
  patterns s (First x) (judged v g) r d h f = patterns s x g r d.1 h f
  patterns s (Verbatim x) (judged v g) r d h f = refl
  patterns s (Dropped x) (dropped g) r d h f = patterns s x g r d h f
  patterns s (Called n x) (called m g) r d h f = patterns s x g r d.1 h f
  patterns s (Node k x) (ref l) r d h f =
      let i = rest_told k l s r d.0 h f in
      two (is_no_lone k x) (no_lone x) (one_alternative k x r d.1 i)
      (patterns (ends_in_pattern k) x (table k) r d.1 (all_parted k) i)
  patterns s (Whole x) (operand p n) r d h f = forms x p r d.1
  patterns s (AWord cs) g r d h f = refl
  patterns s (ALiteral cs) g r d h f = refl
  patterns s (AMark e cs i) g r d h f = refl
  patterns s (ALifetime cs) g r d h f = refl
  patterns s (Raw ts) g r d h f = refl
  patterns s Nil g r d h f = refl
  patterns s End g r d h f = refl
  patterns s _ g r d h f = absurd d

  forms : (x : Tree) (p : Position) (r : List Token) → Bound p x r → no_lone x ≡ true
  forms (Alone k y) p r d =
      patterns (ends_in_pattern k) y (table k) r d.1 (all_parted k)
      (ends_not (ends_in_pattern k) r (front_ends p k (flat y ++ r) d.0))
  forms (Front k y x) p r d =
      two (no_lone y) (no_lone x)
      (patterns (ends_in_pattern k) y (table k) (flat x ++ r) d.1 (all_parted k)
      (ends_not (ends_in_pattern k) (flat x ++ r) (front_ends p k (flat y ++ (flat x ++ r)) d.0)))
      (forms x (inside p k) r d.4)
  forms (Back l k y) p r d =
      two (no_lone l) (no_lone y) (forms l p (flat y ++ r) d.4)
      (patterns (ends_in_pattern k) y (table k) r d.1 (all_parted k)
      (ends_not (ends_in_pattern k) r (back_ends p k (flat y ++ r) d.0)))
  forms (Infix l k y x) p r d =
      two (no_lone y) (no_lone l && no_lone x)
      (patterns (ends_in_pattern k) y (table k) (flat x ++ r) d.1 (all_parted k)
      (ends_not (ends_in_pattern k) (flat x ++ r) (back_ends p k (flat y ++ (flat x ++ r)) d.0)))
      (two (no_lone l) (no_lone x) (forms l p (flat y ++ (flat x ++ r)) d.4) (forms x (inside p k) r d.6))
  forms _ p r d = absurd d

-- Behind a kind that ends in a pattern begins no .. : then it holds none.
self : (b : Bool) → (not b || b) ≡ true
self true = refl
self false = refl

lacks_dots : (b c : Bool) → (b && c) ≡ false → b ≡ true → c ≡ false
lacks_dots true c e h = e
lacks_dots false c e h = absurd (false≢true h)

patterns_told : (k : Kind) (x : Tree) (r : List Token) → (ends_in_pattern k && sees (marks "..") r) ≡ false
    → Derives x (ref k) r → no_lone x ≡ true
patterns_told k x r e d =
    patterns (ends_in_pattern k) x (ref k) r d (self (ends_in_pattern k))
    (lacks_dots (ends_in_pattern k) (sees (marks "..") r) e)

-- So it is of a kind that ends in none, before any rest.
pub whole_patterns : (k : Kind) (x : Tree) (r : List Token) → ends_in_pattern k ≡ false → Derives x (ref k) r
    → no_lone x ≡ true
whole_patterns k x r e d = patterns_told k x r (ap (λ b. b && sees (marks "..") r) e) d
