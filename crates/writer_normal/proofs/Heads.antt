-- The first tokens of what stands one behind the other.
use Rattle.std.proofs.Common.{◌≡◌, ℕ, List, [], ◌∷◌, ◌++◌, refl, sym, ap, ◌∙◌, append_assoc, arith, length, ◌≤◌}
use Rattle.proc_macro2.specs.Token.{Token, Opens, Closes, Punct}
use Rattle.proc_macro2.specs.declared.delimiter.Delimiter.{Delimiter}
use Rattle.syn_grammar.specs.Tree as t
use Rattle.syn_grammar.specs.Tree.{Tree, flat}
use Rattle.reader_tree.specs.declared.tree.Element.{Element}
use Rattle.reader_tree.specs.Forms.{elements, turns}
use Rattle.reader_tree.specs.Size.{node_count}
use Rattle.writer_built.specs.Begins.{front3}
use Rattle.writer_built.specs.Heads.{head_tokens}
use Rattle.writer_built.specs.declared.head.Head.{Head}
use Rattle.writer_built.specs.declared.head.Head.TheVariants as heads
use Rattle.writer_built.proofs.Heads.{front_head, fronts_enclosed, fronts_join, one_closed}
use Rattle.reader_tree.proofs.Flat.{flat_elements, flat_seconds}

-- behind and before first ones
front_before : (ts us : List Token) → front3 (ts ++ us) ≡ front3 (front3 ts ++ us)
front_before [] us = refl
front_before (a ∷ []) us = refl
front_before (a ∷ b ∷ []) us = refl
front_before (a ∷ b ∷ c ∷ ts) us = refl

pub join_behind : (gs ts is us : List Token) → gs ≡ front3 (ts ++ is) → is ≡ front3 us → gs ≡ front3 (ts ++ us)
join_behind gs ts is us e f = fronts_join gs (front3 ts) is ts us (e ∙ front_before ts is) refl f

pub join_before : (gs hs ts us : List Token) → gs ≡ front3 (hs ++ us) → hs ≡ front3 ts → gs ≡ front3 (ts ++ us)
join_before gs hs [] us e f = e ∙ ap (λ xs. front3 (xs ++ us)) f
join_before gs hs (a ∷ []) us e f = e ∙ ap (λ xs. front3 (xs ++ us)) f
join_before gs hs (a ∷ b ∷ []) us e f = e ∙ ap (λ xs. front3 (xs ++ us)) f
join_before gs hs (a ∷ b ∷ c ∷ ts) us e f = e ∙ ap (λ xs. front3 (xs ++ us)) f

-- of one tree and others
pub two_firsts : (gs hs : List Token) (x y : Tree) → gs ≡ front3 (hs ++ flat y) → hs ≡ front3 (flat x)
    → gs ≡ front3 (flat x ++ flat y)
two_firsts gs hs x y e f = join_before gs hs (flat x) (flat y) e f

pub three_firsts : (gs hs is : List Token) (x y z : Tree) → gs ≡ front3 (hs ++ flat z) → hs ≡ front3 (is ++ flat y)
    → is ≡ front3 (flat x) → gs ≡ front3 (flat x ++ (flat y ++ flat z))
three_firsts gs hs is x y z e f g =
    join_before gs hs (flat x ++ flat y) (flat z) e (join_before hs is (flat x) (flat y) f g)
    ∙ ap front3 (append_assoc (flat x) (flat y) (flat z))

-- turns
front_none : (h : Head) → head_tokens h ≡ front3 (head_tokens h ++ [])
front_none heads.Empty = refl
front_none (heads.One a) = refl
front_none (heads.Two a b) = refl
front_none (heads.Three a b c) = refl

pub turns_none : (h : Head) (xs : List Tree) → length xs ≡ 0 → head_tokens h ≡ front3 (head_tokens h ++ flat (turns xs))
turns_none h [] e = front_none h
turns_none h (x ∷ xs) e = absurd (omega (arith, e))

pub turns_more : (gs hs is : List Token) (x : Tree) (xs ys : List Tree) → gs ≡ front3 (hs ++ flat (turns ys))
    → hs ≡ front3 (is ++ flat x) → xs ≡ x ∷ ys → gs ≡ front3 (is ++ flat (turns xs))
turns_more gs hs is x xs ys e f g =
    join_before gs hs (is ++ flat x) (flat (turns ys)) e f
    ∙ ap front3 (append_assoc is (flat x) (flat (turns ys)))
    ∙ sym (ap (λ zs. front3 (is ++ flat (turns zs))) g)

-- elements
pub elements_none : (h : Head) (c : ℕ) (es : List Element) → length es ≡ 0
    → head_tokens h ≡ front3 (head_tokens h ++ flat (elements c es t.End))
elements_none h c [] e = front_none h
elements_none h c (d ∷ es) e = absurd (omega (arith, e))

pub elements_more : (gs hs is js : List Token) (c : ℕ) (e : Element) (es ds : List Element)
    → gs ≡ front3 (hs ++ flat (elements c ds t.End)) → hs ≡ front3 (is ++ Punct c e.spacing ∷ [])
    → is ≡ front3 (js ++ flat e.tree) → es ≡ e ∷ ds → gs ≡ front3 (js ++ flat (elements c es t.End))
elements_more gs hs is js c e es ds f g h i =
    let m : List Token = Punct c e.spacing ∷ [] in
    let left : List Token = flat (elements c ds t.End) in
    join_before gs hs ((js ++ flat e.tree) ++ m) left f (join_before hs is (js ++ flat e.tree) m g h)
    ∙ ap front3 (append_assoc (js ++ flat e.tree) m left ∙ append_assoc js (flat e.tree) (m ++ left))
    ∙ sym (ap (λ xs. front3 (js ++ flat (elements c xs t.End))) i)

pub list_last : (gs hs : List Token) (c : ℕ) (es : List Element) (x : Tree) → gs ≡ front3 (hs ++ flat x)
    → hs ≡ front3 (flat (elements c es t.End)) → gs ≡ front3 (flat (elements c es (t.Final x)))
list_last gs hs c es x e f =
    join_before gs hs (flat (elements c es t.End)) (flat x) e f ∙ ap front3 (sym (flat_elements c es (t.Final x)))

-- the elements that a mark follows are no more
pub end_below : (c : ℕ) (es : List Element) (y : Tree)
    → node_count (elements c es t.End) ≤ node_count (elements c es y)
end_below c [] (t.Pair x y) = omega arith
end_below c [] (t.First x) = omega arith
end_below c [] (t.Second x) = omega arith
end_below c [] (t.Again x y) = omega arith
end_below c [] (t.Final x) = omega arith
end_below c [] (t.More x d spacing y) = omega arith
end_below c [] (t.Group d x) = omega arith
end_below c [] (t.Dropped x) = omega arith
end_below c [] (t.Called n x) = omega arith
end_below c [] (t.Verbatim x) = omega arith
end_below c [] (t.Hidden x) = omega arith
end_below c [] (t.Node k x) = omega arith
end_below c [] (t.Whole x) = omega arith
end_below c [] (t.Alone k x) = omega arith
end_below c [] (t.Front k x y) = omega arith
end_below c [] (t.Back x k y) = omega arith
end_below c [] (t.Infix x k y z) = omega arith
end_below c [] y = omega arith
end_below c (e ∷ es) y = omega (arith, end_below c es y)

-- a group
pub group_first : (d : Delimiter) (gs hs ts : List Token) → gs ≡ front3 (Opens d ∷ (hs ++ Closes d ∷ []))
    → hs ≡ front3 ts → gs ≡ front3 (Opens d ∷ ts ++ Closes d ∷ [])
group_first d gs hs ts e f = fronts_enclosed (Opens d) gs hs ts (Closes d ∷ []) e f

pub one_before : (x : Token) (gs hs us : List Token) → gs ≡ front3 (x ∷ hs) → hs ≡ front3 us → gs ≡ front3 (x ∷ us)
one_before x gs hs us e f = one_closed x gs hs us e f

pub ruleset joins = (
  front_head,
  join_behind,
  two_firsts,
  three_firsts,
  turns_none,
  turns_more,
  elements_none,
  elements_more,
  list_last,
  group_first,
  one_before,
  flat_seconds,
)
