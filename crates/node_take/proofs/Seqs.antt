-- Parts of sequences, and words.
use Rattle.std.specs.Prelude.{◌≡◌, ℕ, zero, suc, Bool, true, false, List, refl}
use Rattle.std.proofs.Common.{sym, subst}
use Rattle.std.proofs.lemmas.Slice.Eq.{bytes_eq-Decides}
use Rattle.syn_grammar.specs.Gram.{Gram, seq}
use Rattle.syn_grammar.specs.Tree.{Tree, Pair}
use Rattle.rust_leaf.specs.Keywords.{same_text}
use Rattle.node_shapes.specs.Shape.{IsShaped}
use Rattle.node_take.specs.Seqs.{is_seq}

pub the_word : (cs ds : List ℕ) → same_text cs ds ≡ true → ds ≡ cs
the_word cs ds e = sym ((bytes_eq-Decides cs ds).0 e)

-- what has so many parts and one more begins with one, before what has one fewer

pub two_parts : (n : ℕ) (g : Gram) (x : Tree) → is_seq (suc n) g ≡ true → IsShaped x g
    → (a b : Gram) × (is_seq n b ≡ true) × IsShaped x (seq a b)
two_parts n (seq a b) x e h = (a, b, e, h)
two_parts n _ x e h = cc

pub parts_behind : (n : ℕ) (g : Gram) (x y z : Tree) → is_seq (suc n) g ≡ true → IsShaped x g
    → x ≡ Pair y z
    → (b : Gram) × (is_seq n b ≡ true) × IsShaped z b
parts_behind n (seq a b) x y z e h p = (b, e, (subst (λ w. IsShaped w (seq a b)) p h).1)
parts_behind n _ x y z e h p = cc

-- the pair that stands there
pub first_pair : (n : ℕ) (g : Gram) (x : Tree) → is_seq (suc n) g ≡ true → IsShaped x g
    → (a b : Gram) × IsShaped x (seq a b)
first_pair n g x e h = let p = two_parts n g x e h in (p.0, p.1, p.3)

-- the second
pub second_pair : (n : ℕ) (g : Gram) (x y z : Tree) → is_seq (suc (suc n)) g ≡ true → IsShaped x g
    → x ≡ Pair y z
    → (a b : Gram) × IsShaped z (seq a b)
second_pair n g x y z e h p = let q = parts_behind (suc n) g x y z e h p in first_pair n q.0 z q.1 q.2
