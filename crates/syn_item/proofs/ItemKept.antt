-- What is kept of what was read: all of what is judged by whether it is kept or refused; and of an item no form of
-- which the tokens are kept.
use Rattle.std.specs.Prelude.{◌≡◌, Bool, true, false, List}
use Rattle.std.proofs.Common.{◌∙◌, ap, subst, sym}
use Rattle.proc_macro2.specs.Token.{Token}
use Rattle.syn_grammar.specs.Derives.{Derives}
use Rattle.syn_grammar.specs.Gram.{Gram, Verdict, Keep, AsRaw, Refuse, judged, ref, seq, called}
use Rattle.syn_grammar.specs.Kind.{Kind, Place, InFile, AnItem, OuterAttributes, Visibility, AConstTrait}
use Rattle.syn_grammar.specs.Kind.{ARestrictedTrait, AMacroDefinition}
use Rattle.syn_grammar.specs.Lists.{item_form, typed}
use Rattle.syn_grammar.specs.Name.{same_part, the_item, the_visibility}
use Rattle.syn_grammar.specs.Part.{choice}
use Rattle.syn_grammar.specs.Table.{table}
use Rattle.syn_grammar.specs.Tree.{Tree, First, Verbatim, Node, Pair, Called}
use Rattle.syn_grammar.specs.Types.{kept_if}
use Rattle.syn_grammar.specs.Verdicts.{form_in_file, item_verdict, is_public, strictly}
use Rattle.syn_part.specs.Kept.{IsFirst, IsKept}
use Rattle.syn_item.specs.ItemForms.{IsItem, MayBeKept, form_behind}

kept_alone : (b : Bool) → kept_if b ≡ AsRaw → ⊥
kept_alone true e = cc
kept_alone false e = cc

kept_judged : (x : Tree) (p : Tree → Bool) (g : Gram) (rest : List Token)
    → Derives x (judged (λ y. kept_if (p y)) g) rest → IsFirst x
kept_judged (First x) p g rest d = tt
kept_judged (Verbatim x) p g rest d = absurd (kept_alone (p x) d.0)
kept_judged _ p g rest d = absurd d

strict_alone : (v : Verdict) → strictly v ≡ AsRaw → ⊥
strict_alone Keep e = cc
strict_alone AsRaw e = cc
strict_alone Refuse e = cc

typed_judged : (x : Tree) (p : Place) (g : Gram) (rest : List Token) → Derives x (judged (typed p) g) rest → IsFirst x
typed_judged (First x) p g rest d = tt
typed_judged (Verbatim x) p g rest d = absurd (strict_alone (item_verdict p x) d.0)
typed_judged _ p g rest d = absurd d

-- where an entry keeps or refuses what it reads, what was read is kept
pub kept_or_refused : (i : Kind) (p : Tree → Bool) (a : Gram) → table i ≡ judged (λ y. kept_if (p y)) a
    → (x : Tree) (rest : List Token) → Derives x (ref i) rest → IsKept x
kept_or_refused i p a q (Node k x) rest d =
    kept_judged x p a rest (subst (λ z. Derives x z rest) (ap table d.0 ∙ q) d.1)
kept_or_refused i p a q _ rest d = absurd d

-- where an entry reads one kind of item by itself, what was read is kept
pub kept_by_itself : (i : Kind) (p : Place) (a : Gram) → table i ≡ judged (typed p) a
    → (x : Tree) (rest : List Token) → Derives x (ref i) rest → IsKept x
kept_by_itself i p a q (Node k x) rest d =
    typed_judged x p a rest (subst (λ z. Derives x z rest) (ap table d.0 ∙ q) d.1)
kept_by_itself i p a q _ rest d = absurd d

-- of a form that is kept in a file the tokens are not
kept_in_file : (b : Bool) (x : Tree) → form_in_file b x ≡ Keep → MayBeKept x
kept_in_file b (Node AConstTrait x) e = cc
kept_in_file b (Node ARestrictedTrait x) e = cc
kept_in_file b (Node AMacroDefinition x) e = cc
kept_in_file b _ e = tt

kept_behind : (x : Tree) (rest : List Token) → item_verdict InFile x ≡ Keep
    → Derives x (seq (ref OuterAttributes) (seq (called the_visibility (ref Visibility)) (called the_item item_form)))
    rest
    → MayBeKept (form_behind x)
unfolding same_part
kept_behind (Pair (Node i a) (Pair (Called m v) (Called n x))) rest e d =
    let first : item_verdict InFile (Pair (Node i a) (Pair (Called the_visibility v) (Called n x))) ≡ Keep =
    subst (λ l. item_verdict InFile (Pair (Node i a) (Pair (Called l v) (Called n x))) ≡ Keep) d.1.0.0 e in
    let second : form_in_file (is_public v) (choice x) ≡ Keep =
    subst (λ l. item_verdict InFile (Pair (Node i a) (Pair (Called the_visibility v) (Called l x))) ≡ Keep)
    d.1.1.0 first in
    kept_in_file (is_public v) (choice x) second
kept_behind (Pair (Node i a) (Pair (Called m v) _)) rest e d = absurd d.1.1
kept_behind (Pair (Node i a) (Pair _ y)) rest e d = absurd d.1.0
kept_behind (Pair (Node i a) _) rest e d = absurd d.1
kept_behind (Pair _ y) rest e d = absurd d.0
kept_behind _ rest e d = absurd d

kept_inside : (x : Tree) (rest : List Token) → Derives x (table AnItem) rest → IsItem (Node AnItem x)
unfolding table
kept_inside (First x) rest d = kept_behind x rest d.0 d.1
kept_inside (Verbatim x) rest d = tt
kept_inside _ rest d = absurd d

-- an item that was read is one, of which the form may be kept if it is
pub read_item : (x : Tree) (rest : List Token) → Derives x (ref AnItem) rest → IsItem x
read_item (Node i x) rest d =
    subst (λ j. IsItem (Node j x)) (sym d.0) (kept_inside x rest (subst (λ j. Derives x (table j) rest) d.0 d.1))
read_item _ rest d = absurd d
