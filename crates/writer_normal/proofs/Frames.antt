-- Trees within frames: those that are put and taken away, and what is no larger than the whole.
use Rattle.std.proofs.Common.{◌≡◌, ◌<◌, ◌≤◌, ◌∙◌, ◌++◌, ℕ, max, List, [], ◌∷◌, append_assoc, ap, arith, drop, length}
use Rattle.std.proofs.Common.{length-append, refl, subst, sym, take, take_at, drop_at, take-append-drop}
use Rattle.std.proofs.lemmas.List.{drop-append-le, take-append-le}
use Rattle.reader_tree.specs.Size.{node_count}
use Rattle.reader_tree.specs.declared.tree.Tree.TheDeep.{size-Tree}
use Rattle.reader_tree.proofs.Sizes.{tree_size}
use Rattle.syn_grammar.specs.Kept.{kept}
use Rattle.syn_grammar.specs.Tree.{Tree}
use Rattle.writer_normal.specs.declared.frame.Frame.{Frame}
use Rattle.writer_normal.specs.declared.frame.Frame.TheVariants as frame
use Rattle.writer_normal.specs.Frames.{all_framed, framed, IsHeldWithin, IsWithin}
use Rattle.writer_read.proofs.Inside.{first_below, second_below}

-- the size of the largest tree that is a part of it, and 0 of none
abbrev pub weight : Frame → ℕ
weight (frame.Pair f) = size-Tree f.now
weight (frame.Front k y) = size-Tree y.now
weight (frame.Back k y) = size-Tree y.now
weight (frame.Infix k y r) = max (size-Tree y.now) (size-Tree r.now)
weight (frame.First n) = 0
weight (frame.Second n) = 0
weight (frame.Group d span) = 0
weight (frame.Called p) = 0
weight (frame.Node k) = 0
weight frame.Whole = 0
weight (frame.Alone k) = 0

-- what a tree goes on with is smaller, and so is what its frame weighs
pub inside : (f : Frame) (x whole : Tree) → framed f x ≡ whole → size-Tree x < size-Tree whole
inside (frame.Pair f) x whole e = omega (arith, ap node_count e, tree_size x, tree_size whole)
inside (frame.First n) x whole e = first_below n x whole (sym e)
inside (frame.Second n) x whole e = second_below n x whole (sym e)
inside (frame.Group d span) x whole e = omega (arith, ap node_count e, tree_size x, tree_size whole)
inside (frame.Called p) x whole e = omega (arith, ap node_count e, tree_size x, tree_size whole)
inside (frame.Node k) x whole e = omega (arith, ap node_count e, tree_size x, tree_size whole)
inside frame.Whole x whole e = omega (arith, ap node_count e, tree_size x, tree_size whole)
inside (frame.Alone k) x whole e = omega (arith, ap node_count e, tree_size x, tree_size whole)
inside (frame.Front k y) x whole e = omega (arith, ap node_count e, tree_size x, tree_size whole)
inside (frame.Back k y) x whole e = omega (arith, ap node_count e, tree_size x, tree_size whole)
inside (frame.Infix k y r) x whole e = omega (arith, ap node_count e, tree_size x, tree_size whole)

outside : (f : Frame) (x whole : Tree) → framed f x ≡ whole → weight f < size-Tree whole
outside (frame.Pair f) x whole e = omega (arith, ap node_count e, tree_size f.now, tree_size whole)
outside (frame.First n) x whole e = omega (arith, tree_size whole)
outside (frame.Second n) x whole e = omega (arith, tree_size whole)
outside (frame.Group d span) x whole e = omega (arith, tree_size whole)
outside (frame.Called p) x whole e = omega (arith, tree_size whole)
outside (frame.Node k) x whole e = omega (arith, tree_size whole)
outside frame.Whole x whole e = omega (arith, tree_size whole)
outside (frame.Alone k) x whole e = omega (arith, tree_size whole)
outside (frame.Front k y) x whole e = omega (arith, ap node_count e, tree_size y.now, tree_size whole)
outside (frame.Back k y) x whole e = omega (arith, ap node_count e, tree_size y.now, tree_size whole)
outside (frame.Infix k y r) x whole e =
    omega (arith, ap node_count e, tree_size y.now, tree_size r.now, tree_size whole)

-- no tree is larger than what it stands within
no_larger : (fs : List Frame) (x : Tree) → size-Tree x ≤ size-Tree (all_framed fs x)
no_larger [] x = omega arith
no_larger (f ∷ fs) x = omega (arith, no_larger fs x, inside f (all_framed fs x) (framed f (all_framed fs x)) refl)

pub within_below : (before now : List Frame) (x whole : Tree) → IsWithin before now x whole
    → size-Tree x ≤ size-Tree whole
within_below before now x whole w = subst (λ y. size-Tree x ≤ size-Tree y) w.2 (no_larger w.0 x)

-- one more of them
framed_more : (fs : List Frame) (f : Frame) (x : Tree) → all_framed (fs ++ f ∷ []) x ≡ all_framed fs (framed f x)
framed_more [] f x = refl
framed_more (g ∷ fs) f x = ap (framed g) (framed_more fs f x)

pub within_more : (before now : List Frame) (f : Frame) (x y whole : Tree) → framed f x ≡ y
    → IsWithin before now y whole → IsWithin before (now ++ f ∷ []) x whole
within_more before now f x y whole e w = (
  w.0 ++ f ∷ [],
  ap (λ gs. gs ++ f ∷ []) w.1 ∙ append_assoc before w.0 (f ∷ []),
  framed_more w.0 f x ∙ ap (all_framed w.0) e ∙ w.2,
)

-- one less
fewer : (before now fs : List Frame) (f : Frame) → length before ≤ length now → now ++ f ∷ [] ≡ before ++ fs
    → (now ≡ before ++ drop (length before) now) × (fs ≡ drop (length before) now ++ f ∷ [])
fewer before now fs f h e =
    let n : ℕ = length before in (
      sym (take-append-drop n now)
          ∙ ap (λ gs. gs ++ drop n now)
          (sym (take-append-le n now (f ∷ []) h) ∙ ap (take n) e ∙ take_at before fs n refl),
      sym (drop_at before fs n refl) ∙ sym (ap (drop n) e) ∙ drop-append-le n now (f ∷ []) h,
    )

within_fewer : (before now : List Frame) (f : Frame) (x whole : Tree) → length before ≤ length now
    → IsWithin before (now ++ f ∷ []) x whole → IsWithin before now (framed f x) whole
within_fewer before now f x whole h w =
    let left = fewer before now w.0 f h w.1 in
    let n : ℕ = length before in (
      drop n now,
      left.0,
      sym (framed_more (drop n now) f x) ∙ sym (ap (λ gs. all_framed gs x) left.1) ∙ w.2,
    )

fits : (now all : List Frame) (f : Frame) (n : ℕ) → n < length all → all ≡ now ++ f ∷ [] → n ≤ length now
fits now all f n h e = omega (arith, h, ap length e, length-append now (f ∷ []))

-- the last one of more than those, and what is made of it
pub held_fewer : (before now all : List Frame) (f : Frame) (made inner whole : Tree) → length before < length all
    → all ≡ now ++ f ∷ []
    → ((x : Tree) → inner ≡ kept x → made ≡ kept (framed f x))
    → IsHeldWithin before all inner whole → IsHeldWithin before now made whole
held_fewer before now all f made inner whole h e next w =
    let n : length before ≤ length now = fits now all f (length before) h e in (
      framed f w.0,
      next w.0 w.1,
      within_fewer before now f w.0 whole n (subst (λ gs. IsWithin before gs w.0 whole) e w.2),
    )

-- it weighs less than the whole
pub weight_below : (before now all : List Frame) (f : Frame) (inner whole : Tree) → length before < length all
    → all ≡ now ++ f ∷ [] → IsHeldWithin before all inner whole → weight f < size-Tree whole
weight_below before now all f inner whole h e w =
    let n : length before ≤ length now = fits now all f (length before) h e in
    let left = within_fewer before now f w.0 whole n (subst (λ gs. IsWithin before gs w.0 whole) e w.2) in
    omega (
      arith,
      outside f w.0 (framed f w.0) refl,
      within_below before now (framed f w.0) whole left,
    )
