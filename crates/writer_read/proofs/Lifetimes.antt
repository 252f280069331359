-- Whether an argument is a lifetime is seen in what was read.
use Rattle.std.proofs.Common.{◌≡◌, refl, ◌∙◌}
use Rattle.std.specs.Prelude.{false}
use Rattle.syn_grammar.specs.Kind.{Plain, AnArgument, Body}
use Rattle.syn_grammar.specs.Name.{the_lifetime}
use Rattle.syn_grammar.specs.Tree.{Tree, First, Second, Node, Back}
use Rattle.syn_grammar.specs.Part.{has}
use Rattle.syn_grammar.specs.Kept.{constant_argument, held, kept}
use Rattle.syn_grammar.specs.Tidy.{is_lifetime_argument}
use Rattle.syn_grammar.specs.Normal.{passed, normal_in}
use Rattle.writer_rules.specs.Laid.{is_lifetime_read}
use Rattle.laws_ranges.proofs.Dotted.{dotted_is}
use Rattle.writer_read.proofs.Bare.{has_made}

-- a literal
constant_read : (x : Tree) → has the_lifetime (normal_in Plain (constant_argument (Second (First (kept x)))))
    ≡ is_lifetime_read (Node AnArgument (Second (First x)))
constant_read (First x) = refl
constant_read (Second x) = refl
constant_read (Back l k y) =
    dotted_is (λ z. has the_lifetime (normal_in Plain (constant_argument (Second (First z)))) ≡ false) (λ l k y. refl)
    (kept l) k (kept y)
constant_read x = has_made the_lifetime Plain x

-- a block
block_read : (x : Tree) → has the_lifetime (normal_in Plain (constant_argument (Second (Second (First (kept x))))))
    ≡ has the_lifetime x
unfolding held
block_read (Node Body x) = refl
block_read (Node _ x) = refl
block_read (Back l k y) =
    dotted_is (λ z. has the_lifetime (normal_in Plain (constant_argument (Second (Second (First z))))) ≡ false)
    (λ l k y. refl) (kept l) k (kept y)
block_read x = has_made the_lifetime Plain x

choice_read : (x : Tree) → has the_lifetime (normal_in Plain (constant_argument (Second (Second (kept x)))))
    ≡ has the_lifetime x
choice_read (First x) = block_read x
choice_read (Back l k y) =
    dotted_is (λ z. has the_lifetime (normal_in Plain (constant_argument (Second (Second z)))) ≡ false)
    (λ l k y. refl) (kept l) k (kept y)
choice_read x = has_made the_lifetime Plain x

second_read : (x : Tree) → has the_lifetime (normal_in Plain (constant_argument (Second (kept x))))
    ≡ is_lifetime_read (Node AnArgument (Second x))
second_read (First x) = constant_read x
second_read (Second x) = choice_read x
second_read (Back l k y) =
    dotted_is (λ z. has the_lifetime (normal_in Plain (constant_argument (Second z))) ≡ false) (λ l k y. refl)
    (kept l) k (kept y)
second_read x = has_made the_lifetime Plain x

own_read : (x : Tree) → has the_lifetime (normal_in Plain (constant_argument (kept x)))
    ≡ is_lifetime_read (Node AnArgument x)
own_read (Second x) = second_read x
own_read (Back l k y) =
    dotted_is (λ z. has the_lifetime (normal_in Plain (constant_argument z)) ≡ false) (λ l k y. refl)
    (kept l) k (kept y)
own_read x = has_made the_lifetime Plain x

pub argument_read : (x : Tree) → is_lifetime_argument (normal_in Plain (kept x)) ≡ is_lifetime_read x
unfolding held passed
argument_read (Node AnArgument x) = own_read x
argument_read (Node _ x) = refl
argument_read (Back l k y) =
    dotted_is (λ z. is_lifetime_argument (normal_in Plain z) ≡ false) (λ l k y. refl) (kept l) k (kept y)
argument_read _ = refl

-- the first choice is one, and no other
pub lifetime_seen : (x : Tree)
    → is_lifetime_argument (normal_in Plain (kept (Node AnArgument (First x)))) ≡ has the_lifetime x
lifetime_seen x = argument_read (Node AnArgument (First x))

none_read : (x : Tree) → has the_lifetime x ≡ false → is_lifetime_read (Node AnArgument (Second x)) ≡ false
none_read (First (First x)) e = refl
none_read (First (Second x)) e = refl
none_read x e = e

pub none_seen : (x : Tree) → has the_lifetime x ≡ false
    → is_lifetime_argument (normal_in Plain (kept (Node AnArgument (Second x)))) ≡ false
none_seen x e = argument_read (Node AnArgument (Second x)) ∙ none_read x e
