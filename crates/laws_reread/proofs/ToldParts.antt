-- The parts of an item among others: its visibility, and its form.
use Rattle.std.proofs.Common.{◌≡◌, List, [], refl, sym, ap, ◌∙◌}
use Rattle.std.specs.Prelude.{false, cond, Some, None}
use Rattle.std.proofs.lemmas.Bool.{false≢true}
use Rattle.proc_macro2.specs.Token.{Token}
use Rattle.syn_grammar.specs.Kind.{Kind, InFile, Visibility}
use Rattle.syn_grammar.specs.Name.{Part, same_part, the_item, the_pub, the_visibility}
use Rattle.syn_grammar.specs.Tree.{Tree, Called, First, Nil, Node, Pair, Second, flat}
use Rattle.syn_grammar.specs.Part.{choice, found, has, is_some, or_else, the}
use Rattle.syn_grammar.specs.Gram.{Verdict}
use Rattle.syn_grammar.specs.Table.{table}
use Rattle.syn_grammar.specs.Derives.{Derives}
use Rattle.syn_grammar.specs.Verdicts.{form_in_file, is_public, item_verdict}

abbrev pub parts : Kind → Tree → Part → Kind → Tree → Part → Tree → Tree
parts l p n k v m i = Pair (Node l p) (Pair (Called n (Node k v)) (Called m i))

item_is : (l : Kind) (p : Tree) (n : Part) (k : Kind) (v : Tree) (m : Part) (i : Tree) → n ≡ the_visibility
    → m ≡ the_item → the the_item (parts l p n k v m i) ≡ i
unfolding same_part
item_is l p n k v m i e f =
    ap (λ j. the the_item (parts l p j k v m i)) e ∙ ap (λ j. the the_item (parts l p the_visibility k v j i)) f

visible_is : (l : Kind) (p : Tree) (n : Part) (k : Kind) (v : Tree) (m : Part) (i : Tree) → n ≡ the_visibility
    → k ≡ Visibility → is_public (the the_visibility (parts l p n k v m i)) ≡ has the_pub v
unfolding same_part
visible_is l p n k v m i e f =
    ap (λ j. is_public (the the_visibility (parts l p j k v m i))) e ∙ ap (λ j. is_public (Node j v)) f

pub of_whole : (l : Kind) (p : Tree) (n : Part) (k : Kind) (v : Tree) (m : Part) (i : Tree) (w : Verdict)
    → n ≡ the_visibility
    → m ≡ the_item → k ≡ Visibility → item_verdict InFile (parts l p n k v m i) ≡ w
    → form_in_file (has the_pub v) (choice i) ≡ w
of_whole l p n k v m i w e f g h =
    sym (ap (λ b. form_in_file b (choice (the the_item (parts l p n k v m i)))) (visible_is l p n k v m i e g)
    ∙ ap (λ z. form_in_file (has the_pub v) (choice z)) (item_is l p n k v m i e f)) ∙ h

-- one that is not pub
pub public_none : (v : Tree) (r : List Token) → Derives v (table Visibility) r → has the_pub v ≡ false → flat v ≡ []
unfolding table same_part
public_none (First (Pair (Called m z) y)) r d e =
    absurd (false≢true (sym e ∙ ap (λ j. is_some (or_else (cond (same_part j the_pub) (Some z) None)
    (found the_pub y))) d.1.0.0))
public_none (First (Pair _ y)) r d e = absurd d.1.0
public_none (First _) r d e = absurd d.1
public_none (Second Nil) r d e = refl
public_none (Second _) r d e = absurd d.1
public_none _ r d e = absurd d
