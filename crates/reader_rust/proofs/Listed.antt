-- The names in a form.
use Rattle.std.specs.Prelude.{ℕ, Bool, true, false, zero, suc, cond}
use Rattle.std.proofs.Common.{◌≡◌, ◌+◌, List, [], ◌∷◌, ◌++◌, ap, ap₂, ◌∙◌, refl, append_assoc, length}
use Rattle.std.proofs.lemmas.List.{length-append, append-nil, map-append}
use Rattle.rust_leaf.specs.declared.punct.Spacing.{Spacing}
use Rattle.syn_grammar.specs.Name.{the_name, same_part}
use Rattle.syn_grammar.specs.Names.{Lister, Nothing, Others, Names, Named, Name, named, names_behind}
use Rattle.syn_grammar.specs.Tree as t
use Rattle.syn_grammar.specs.Tree.{Tree, flat}
use Rattle.reader_tree.specs.declared.tree.Element.{Element}
use Rattle.reader_tree.specs.Forms.{seconds, elements, mark_of, turns}
use Rattle.reader_tree.proofs.Flat.{flat_seconds}

pub named_seconds : (k : Named) (n m : ℕ) (x : Tree) → named (Names k) n (seconds m x) ≡ named (Names k) n x
named_seconds k n zero x = refl
named_seconds k n (suc m) x = named_seconds k n m x

pub named_mark : (k : Named) (n : ℕ) (cs : List ℕ) (s : Spacing) → named (Names k) n (mark_of cs s) ≡ []
named_mark k n [] s = refl
named_mark k n (c ∷ cs) s = refl

pub named_turns : (k : Named) (n : ℕ) (xs : List Tree) → named (Names k) n (turns xs) ≡ []
named_turns k n [] = refl
named_turns k n (x ∷ xs) = refl

pub named_elements : (k : Named) (n c : ℕ) (es : List Element) (y : Tree) → named (Names k) n y ≡ []
    → named (Names k) n (elements c es y) ≡ []
named_elements k n c [] y h = h
named_elements k n c (e ∷ es) y h = refl

-- where no names are listed
pub nothing_named : (n : ℕ) (x : Tree) → named Nothing n x ≡ []
nothing_named n (t.First x) = nothing_named n x
nothing_named n (t.Second x) = nothing_named n x
nothing_named n x = refl

pub others_named : (n : ℕ) (x : Tree) → named Others n x ≡ []
others_named n (t.First x) = others_named n x
others_named n (t.Second x) = others_named n x
others_named n x = refl

pub ruleset none_named = (nothing_named, others_named)

one_of : (b : Bool) (xs : List Name) → xs ≡ [] → cond b [] xs ≡ []
one_of true xs h = refl
one_of false xs h = h

-- where no names are listed, none are listed further in
pub nothing_listed : (n : ℕ) (x : Tree) → names_behind Nothing n x ≡ []
nothing_listed n (t.Called m x) =
    ap (λ xs. cond (same_part m the_name) xs (names_behind Nothing n x)) (nothing_named n x)
    ∙ one_of (same_part m the_name) (names_behind Nothing n x) (nothing_listed n x)
nothing_listed n (t.Node k x) = nothing_listed n x
nothing_listed n (t.Pair x y) =
    ap₂ (λ xs ys. xs ++ ys) (nothing_listed n x) (nothing_listed (n + length (flat x)) y)
nothing_listed n (t.First x) = nothing_listed n x
nothing_listed n (t.Second x) = nothing_listed n x
nothing_listed n (t.Again x y) =
    ap₂ (λ xs ys. xs ++ ys) (nothing_listed n x) (nothing_listed (n + length (flat x)) y)
nothing_listed n (t.Group d x) = nothing_listed (n + 1) x
nothing_listed n x = refl

pub in_seconds : (l : Lister) (n m : ℕ) (x : Tree) → names_behind l n (seconds m x) ≡ names_behind l n x
in_seconds l n zero x = refl
in_seconds l n (suc m) x = in_seconds l n m x

pub in_mark : (l : Lister) (n : ℕ) (cs : List ℕ) (s : Spacing) → names_behind l n (mark_of cs s) ≡ []
in_mark l n [] s = refl
in_mark l n (c ∷ cs) s = refl

-- no list of elements has names
pub in_elements : (l : Lister) (n c : ℕ) (es : List Element) (y : Tree) → names_behind l n y ≡ []
    → names_behind l n (elements c es y) ≡ []
in_elements l n c [] y h = h
in_elements l n c (e ∷ es) y h = refl

pub ruleset forms = (
  named_seconds,
  named_mark,
  named_turns,
  named_elements,
  in_seconds,
  in_mark,
  in_elements,
  flat_seconds,
  nothing_listed,
  append_assoc,
  append-nil,
  length-append,
  map-append,
)
