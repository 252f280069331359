-- A macro that has a name is seen among statements as an item.
use Rattle.std.proofs.Common.{◌≡◌, List, ◌∷◌, ◌++◌, ap, ◌∙◌, subst, append_assoc}
use Rattle.std.specs.Prelude.{true, not, cond, Some, None}
use Rattle.proc_macro2.specs.Token.{Token, Punct}
use Rattle.rust_leaf.specs.declared.punct.Spacing.TheVariants.{Alone as Apart}
use Rattle.syn_grammar.specs.Kind.{AnItem, InFile, ItemMacro, Place, Visibility}
use Rattle.syn_grammar.specs.Tree.{Tree, AMark, AWord, Called, First, Nil, Node, Pair, Second, marks as signs, flat}
use Rattle.syn_grammar.specs.Part.{choice}
use Rattle.syn_grammar.specs.Gram.{Gram, alt, judged, ref}
use Rattle.syn_grammar.specs.Items.{macro_name}
use Rattle.syn_grammar.specs.Look.{Look, all_attributes, an_ident, seen, sees, ◌or◌, ◌then◌}
use Rattle.syn_grammar.specs.Say.{at}
use Rattle.syn_grammar.specs.Lists.{item_form}
use Rattle.syn_grammar.specs.Statements.{macro_item_stands, statement}
use Rattle.syn_grammar.specs.Ranks.{skips}
use Rattle.syn_grammar.specs.Table.{table}
use Rattle.syn_grammar.specs.Derives.{Derives}
use Rattle.syn_grammar.specs.Kept.{is_there}
use Rattle.std.specs.Prelude.{[]}
use Rattle.std.proofs.Common.{refl}
use Rattle.std.proofs.lemmas.Bool.{false≢true}
use Rattle.laws_reread_kinds.specs.Covered.{is_macro_item, is_named_macro}
use Rattle.laws_reread_kinds.proofs.Choices.{both_true, first_of, second_seen}
use Rattle.laws_reread_kinds.proofs.Classes.{IsAmong}
use Rattle.laws_reread_kinds.proofs.Fits.{Fits}
use Rattle.laws_reread_kinds.proofs.Lets.{item_begins}
use Rattle.laws_reread_kinds.proofs.Parts.{found_ref}
use Rattle.laws_reread_kinds.proofs.Passed.{behind_attributes}
use Rattle.laws_reread_kinds.proofs.Readies.{Ready}
use Rattle.laws_reread_kinds.proofs.Starts.{starts}
use Rattle.syn_grammar.specs.Kind.{AStatement}
use Rattle.laws_reread.proofs.Macros.{banged, macro_behind, path_macro}

-- behind the path and its !
abbrev pub item_name : Look
item_name = an_ident or at "try"

name_seen : (p : Place) (n : Tree) (ts : List Token) → Fits n (macro_name p) → is_there n ≡ true
    → sees item_name (flat n ++ ts) ≡ true
name_seen InFile (First (Called m (First (AWord cs)))) ts f e =
    second_seen _ _ (ap (λ b. seen (cond b (Some ts) None)) f.1.1.1)
name_seen InFile (First (Called m (Second (AWord cs)))) ts f e =
    first_of _ _ (ap (λ b. seen (cond b (Some ts) None)) f.1.1.1)
name_seen InFile (First (Called m (First _))) ts f e = absurd f.1.1.1
name_seen InFile (First (Called m (Second _))) ts f e = absurd f.1.1.1
name_seen InFile (First (Called m _)) ts f e = absurd f.1.1
name_seen InFile (First _) ts f e = absurd f.1
name_seen _ (First x) ts f e = absurd f
name_seen _ _ ts f e = absurd (false≢true e)

named_seen : (p : Place) (z : Tree) (s : List Token) → Fits z (table (ItemMacro p))
    → is_named_macro (Node (ItemMacro p) z) ≡ true → sees macro_item_stands (flat z ++ s) ≡ true
unfolding table
named_seen p (Pair (Node k x) (Pair (AMark c cs j) (Pair n g))) s f h =
    let ts : List Token = flat n ++ (flat g ++ s) in
    ap (sees macro_item_stands)
    (append_assoc (flat x) (signs c cs j ++ (flat n ++ flat g)) s
    ∙ ap (λ us. flat x ++ us) (append_assoc (signs c cs j) (flat n ++ flat g) s
    ∙ banged c cs j ((flat n ++ flat g) ++ s) f.1.0.0 f.1.0.1 f.1.0.2
    ∙ ap (λ us. Punct 33 Apart ∷ us) (append_assoc (flat n) (flat g) s)))
    ∙ macro_behind item_name ts (flat x ++ Punct 33 Apart ∷ ts)
    (path_macro x ts (subst (λ i. Fits x (table i)) f.0.0 f.0.3))
    ∙ name_seen p n (flat g ++ s) f.1.1.0 h
named_seen p (Pair (Node k x) (Pair (AMark c cs j) _)) s f h = absurd f.1.1
named_seen p (Pair (Node k x) (Pair _ y)) s f h = absurd f.1.0
named_seen p (Pair (Node k x) _) s f h = absurd f.1
named_seen p (Pair _ y) s f h = absurd f.0
named_seen p _ s f h = absurd f

-- of what was chosen
chosen_seen : (x : Tree) (g : Gram) (s : List Token) → Fits x g → is_named_macro (choice x) ≡ true
    → sees macro_item_stands (flat x ++ s) ≡ true
chosen_seen (First x) (alt t a b) s f n = chosen_seen x a s f.1 n
chosen_seen (First x) (judged v g) s f n = chosen_seen x g s f.1 n
chosen_seen (First x) _ s f n = absurd f
chosen_seen (Second x) (alt t a b) s f n = chosen_seen x b s f.1 n
chosen_seen (Second x) _ s f n = absurd f
chosen_seen (Node (ItemMacro p) z) (ref j) s f n = named_seen p z s f.3 n
chosen_seen (Node (ItemMacro p) z) _ s f n = absurd f
chosen_seen (Node _ z) g s f n = absurd (false≢true n)
chosen_seen _ g s f n = absurd (false≢true n)

no_tokens : (v : Tree) → Fits v (table Visibility) → not (is_there v) ≡ true → flat v ≡ []
unfolding table
no_tokens (First v) f e = absurd (false≢true e)
no_tokens (Second Nil) f e = refl
no_tokens (Second _) f e = absurd f.1
no_tokens _ f e = absurd f

item_seen : (y : Tree) (s : List Token) → Fits y (table AnItem) → Derives y (table AnItem) s
    → is_macro_item (Node AnItem y) ≡ true → sees (all_attributes then macro_item_stands) (flat y ++ s) ≡ true
unfolding table
item_seen (First (Pair o (Pair (Called l (Node k v)) (Called m i)))) s f d n =
    let h = both_true (not (is_there v)) (is_named_macro (choice i)) n in
    let e : flat v ≡ [] = no_tokens v (subst (λ j. Fits v (table j)) f.1.1.0.1.0 f.1.1.0.1.3) h.0 in
    behind_attributes o (Pair (Called l (Node k v)) (Called m i)) macro_item_stands s true d.1.0
    (ap (λ us. sees macro_item_stands ((us ++ flat i) ++ s)) e ∙ chosen_seen i item_form s f.1.1.1.1 h.1)
item_seen (First (Pair o (Pair (Called l (Node k v)) _))) s f d n = absurd f.1.1.1
item_seen (First (Pair o (Pair (Called l _) z))) s f d n = absurd f.1.1.0.1
item_seen (First (Pair o (Pair _ z))) s f d n = absurd f.1.1.0
item_seen (First (Pair o _)) s f d n = absurd f.1.1
item_seen (First _) s f d n = absurd f.1
item_seen _ s f d n = absurd (false≢true n)

pub macro_item_read : (x : Tree) (s : List Token) → Fits x (ref AnItem) → Ready x → is_macro_item x ≡ true
    → Derives (First x) statement s × IsAmong (starts AStatement) (flat x ++ s)
unfolding skips
macro_item_read (Node k y) s f w n =
    let (d, i) = (found_ref AnItem refl).fine.by (Node k y) s f w tt in (
      (
        item_seen y s (subst (λ j. Fits y (table j)) f.0 f.3) (subst (λ j. Derives y (table j) s) d.0 d.1)
            (subst (λ j. is_macro_item (Node j y) ≡ true) f.0 n),
        d,
      ),
      item_begins (flat (Node k y) ++ s) i,
    )
macro_item_read _ s f w n = absurd f
