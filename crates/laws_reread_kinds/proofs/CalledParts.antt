-- Which part of a form is found: an entry has none of a name that it doesn't call, and in a sequence it is looked for
-- past those that don't call it.
use Rattle.std.proofs.Common.{◌≡◌, ℕ, List, [], refl, ap, ◌∙◌}
use Rattle.std.specs.Prelude.{Bool, true, false, ◌&&◌, not, cond, zero, suc, Some, None}
use Rattle.std.proofs.lemmas.Bool.{false≢true}
use Rattle.proc_macro2.specs.Token.{Token}
use Rattle.syn_grammar.specs.Name.{Part, same_part}
use Rattle.syn_grammar.specs.Tree.{Tree, Pair, First, Second, Group, Called}
use Rattle.syn_grammar.specs.Part.{found, has, is_some, or_else}
use Rattle.syn_grammar.specs.Gram.{Gram, seq, alt, group, judged, called}
use Rattle.syn_grammar.specs.Derives.{Derives}
use Rattle.laws_reread_kinds.proofs.Choices.{both_true, is_false}
use Rattle.laws_reread_kinds.proofs.Fits.{Fits}

abbrev pub lacks_part : Part → Gram → Bool
lacks_part n (seq a b) = lacks_part n a && lacks_part n b
lacks_part n (alt t a b) = lacks_part n a && lacks_part n b
lacks_part n (group d g) = lacks_part n g
lacks_part n (judged v g) = lacks_part n g
lacks_part n (called m g) = not (same_part m n)
lacks_part n _ = true

-- of what was read
pub no_part : (n : Part) (x : Tree) (g : Gram) (r : List Token) → Derives x g r → lacks_part n g ≡ true
    → found n x ≡ None
no_part n (Pair x y) (seq a b) r d h =
    let k = both_true (lacks_part n a) (lacks_part n b) h in
    ap (λ o. or_else o (found n y)) (no_part n x a _ d.0 k.0) ∙ no_part n y b r d.1 k.1
no_part n (Pair x y) _ r d h = absurd d
no_part n (First x) (alt t a b) r d h = no_part n x a r d.1 (both_true (lacks_part n a) (lacks_part n b) h).0
no_part n (First x) (judged v g) r d h = no_part n x g r d.1 h
no_part n (First x) _ r d h = absurd d
no_part n (Second x) (alt t a b) r d h = no_part n x b r d.1 (both_true (lacks_part n a) (lacks_part n b) h).1
no_part n (Second x) _ r d h = absurd d
no_part n (Group e x) (group f g) r d h = no_part n x g [] d.1 h
no_part n (Group e x) _ r d h = absurd d
no_part n (Called l x) (called m g) r d h =
    ap (λ b. cond b (Some x) None) (ap (λ j. same_part j n) d.0 ∙ is_false (same_part m n) h)
no_part n (Called l x) _ r d h = absurd d
no_part n _ g r d h = refl

-- and of what is printed
pub no_part_fits : (n : Part) (w : Tree) (g : Gram) → Fits w g → lacks_part n g ≡ true → found n w ≡ None
no_part_fits n (Pair x y) (seq a b) f h =
    let k = both_true (lacks_part n a) (lacks_part n b) h in
    ap (λ o. or_else o (found n y)) (no_part_fits n x a f.0 k.0) ∙ no_part_fits n y b f.1 k.1
no_part_fits n (Pair x y) _ f h = absurd f
no_part_fits n (First x) (alt t a b) f h = no_part_fits n x a f.1 (both_true (lacks_part n a) (lacks_part n b) h).0
no_part_fits n (First x) (judged v g) f h = no_part_fits n x g f.1 h
no_part_fits n (First x) _ f h = absurd f
no_part_fits n (Second x) (alt t a b) f h = no_part_fits n x b f.1 (both_true (lacks_part n a) (lacks_part n b) h).1
no_part_fits n (Second x) _ f h = absurd f
no_part_fits n (Group e x) (group d g) f h = no_part_fits n x g f.1 h
no_part_fits n (Group e x) _ f h = absurd f
no_part_fits n (Called l x) (called m g) f h =
    ap (λ b. cond b (Some x) None) (ap (λ j. same_part j n) f.0 ∙ is_false (same_part m n) h)
no_part_fits n (Called l x) _ f h = absurd f
no_part_fits n _ g f h = refl

-- a sequence past the first of its parts
abbrev pub past : ℕ → Tree → Tree
past zero x = x
past (suc k) (Pair x y) = past k y
past (suc k) x = x

-- none of these calls it
abbrev pub lacks_first : Part → ℕ → Gram → Bool
lacks_first n zero g = true
lacks_first n (suc k) (seq a b) = lacks_part n a && lacks_first n k b
lacks_first n (suc k) _ = false

pub past_read : (n : Part) (k : ℕ) (x : Tree) (g : Gram) (r : List Token) → Derives x g r → lacks_first n k g ≡ true
    → found n x ≡ found n (past k x)
past_read n zero x g r d h = refl
past_read n (suc k) (Pair x y) (seq a b) r d h =
    let i = both_true (lacks_part n a) (lacks_first n k b) h in
    ap (λ o. or_else o (found n y)) (no_part n x a _ d.0 i.0) ∙ past_read n k y b r d.1 i.1
past_read n (suc k) _ (seq a b) r d h = absurd d
past_read n (suc k) x _ r d h = absurd (false≢true h)

pub past_fits : (n : Part) (k : ℕ) (w : Tree) (g : Gram) → Fits w g → lacks_first n k g ≡ true
    → found n w ≡ found n (past k w)
past_fits n zero w g f h = refl
past_fits n (suc k) (Pair x y) (seq a b) f h =
    let i = both_true (lacks_part n a) (lacks_first n k b) h in
    ap (λ o. or_else o (found n y)) (no_part_fits n x a f.0 i.0) ∙ past_fits n k y b f.1 i.1
past_fits n (suc k) _ (seq a b) f h = absurd f
past_fits n (suc k) w _ f h = absurd (false≢true h)

-- a part of that name
pub called_fits : (n : Part) (w : Tree) (g : Gram) → Fits w (called n g) → same_part n n ≡ true → has n w ≡ true
called_fits n (Called m x) g f e = ap (λ j. is_some (cond (same_part j n) (Some x) None)) f.0
    ∙ ap (λ b. is_some (cond b (Some x) None)) e
called_fits n _ g f e = absurd f
