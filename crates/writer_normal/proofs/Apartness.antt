-- Raw items among statements, and turns of which some are set apart.
use Rattle.std.specs.Prelude.{◌≡◌, ℕ, zero, suc, Bool, true, false, not, ◌&&◌, List, [], ◌∷◌, ◌++◌, Option, Some}
use Rattle.std.specs.Prelude.{None, map, refl}
use Rattle.std.proofs.Common.{ap, append_assoc, arith, length, ◌∙◌, sym}
use Rattle.std.proofs.lemmas.List.{append-nil, map-append}
use Rattle.proc_macro2.specs.Token.{Token, Punct}
use Rattle.rust_leaf.specs.declared.punct.Spacing.{Spacing}
use Rattle.syn_buffer.specs.Entries.{entry_token}
use Rattle.syn_buffer.specs.declared.entry.Entry.{Entry}
use Rattle.syn_buffer.specs.declared.entry.Entry.TheVariants as entries
use denote.Bor.{Bor}
use Rattle.rust_leaf.specs.Leaf.{punct_char, punct_spacing}
use Rattle.rust_leaf.specs.declared.punct.Punct.{Punct as Punct'}
use Rattle.rust_leaf.specs.declared.punct.Spacing.TheVariants.{Alone as Apart}
use Rattle.syn_grammar.specs.Kind.{Position, AnItem, AStatement}
use Rattle.syn_grammar.specs.Look.{sees}
use Rattle.syn_grammar.specs.Say.{parenthesis}
use Rattle.syn_grammar.specs.Normal.{apart, apart_alternative, apart_if, apart_item, apart_raw, is_enclosed, normal_in}
use Rattle.syn_grammar.specs.Tree as t
use Rattle.syn_grammar.specs.Tree.{Tree, flat}
use Rattle.reader_table.specs.Kinds.{kind_of}
use Rattle.reader_table.specs.declared.kind.Kind as g
use Rattle.reader_table.specs.declared.kind.Kind.TheVariants as kinds
use Rattle.reader_tree.specs.declared.tree.Element.{Element}
use Rattle.reader_tree.specs.Forms.{mark_of, seconds, turns, elements, ending}
use Rattle.reader_tree.specs.Shapes.{node_of}
use Rattle.writer_rules.specs.Turns.{begun, earlier as before}
use Rattle.writer_rules.proofs.SeenForms.{node_is, some_none}
use Rattle.writer_read.proofs.Begins.{begun_append, sees_begun}
use Rattle.writer_normal.proofs.Firsts.{sees_first}
use Rattle.writer_normal.specs.Parted.{parted, raw_item, stated_turn}

-- the tokens of a raw item
pub raw_first : (n : ℕ) (x : Tree) → raw_item (t.Node AnItem (seconds n (t.First x))) ≡ None
raw_first zero x = refl
raw_first (suc n) x = refl

pub raw_mark : (cs : List ℕ) (spacing : Spacing) → raw_item (t.Node AnItem (mark_of cs spacing)) ≡ None
raw_mark [] spacing = refl
raw_mark (c ∷ cs) spacing = refl

pub raw_turns : (xs : List Tree) → raw_item (t.Node AnItem (turns xs)) ≡ None
raw_turns [] = refl
raw_turns (x ∷ xs) = refl

pub raw_elements : {A : Type 0} (c : ℕ) (es : List Element) (f : A → Tree) (o : Option A)
    → raw_item (t.Node AnItem (elements c es (ending f o))) ≡ None
raw_elements c [] f None = refl
raw_elements c [] f (Some y) = refl
raw_elements c (e ∷ es) f o = refl

pub ruleset raws = (raw_first, raw_mark, raw_turns, raw_elements)

pub raw_here : (o : Option (List Token)) (x y : Tree) → Some (AnItem, y) ≡ node_of x → o ≡ raw_item (t.Node AnItem y)
    → o ≡ raw_item x
raw_here o x y e h = h ∙ ap raw_item (sym (node_is x AnItem y e))

raw_off : (k : g.Kind) (y : Tree) → (k ≡ kinds.AnItem → ⊥) → None ≡ raw_item (t.Node (kind_of k) y)
raw_off kinds.AnItem y h = absurd (h refl)
raw_off k y h = refl

pub raw_other : (x : Tree) (k : g.Kind) (y : Tree) → Some (kind_of k, y) ≡ node_of x → (k ≡ kinds.AnItem → ⊥)
    → None ≡ raw_item x
raw_other x k y e h = raw_off k y h ∙ ap raw_item (sym (node_is x (kind_of k) y e))

pub raw_none : (x : Tree) → None ≡ node_of x → None ≡ raw_item x
raw_none (t.Node k y) e = cc
raw_none x e = refl

-- the last one of tokens is set apart
skipped : (v w : Token) (ws : List Token) → apart (v ∷ w ∷ ws) ≡ v ∷ apart (w ∷ ws)
skipped (Punct c spacing) w ws = refl
skipped v w ws = refl

apart_end : (vs : List Token) (u : Token) → apart (vs ++ u ∷ []) ≡ vs ++ apart (u ∷ [])
apart_end [] u = refl
apart_end (v ∷ []) u = skipped v u []
apart_end (v ∷ w ∷ ws) u = skipped v w (ws ++ u ∷ []) ∙ ap (λ us. v ∷ us) (apart_end (w ∷ ws) u)

pub apart_of : (all es : List Entry) (e : Entry) (ts : List Token) → all ≡ es ++ e ∷ []
    → ts ≡ map entry_token es ++ apart (entry_token e ∷ []) → ts ≡ apart (map entry_token all)
apart_of all es e ts is h =
    h ∙ sym (apart_end (map entry_token es) (entry_token e)) ∙ ap apart (sym (map-append entry_token es (e ∷ [])))
    ∙ ap (λ xs. apart (map entry_token xs)) (sym is)

lone_other : (e : Entry) → ((p : Bor Punct') → e ≡ entries.Punct p → ⊥) → entry_token e ∷ []
    ≡ apart (entry_token e ∷ [])
lone_other (entries.Open d span n) h = refl
lone_other (entries.Close d span) h = refl
lone_other (entries.Ident i) h = refl
lone_other (entries.Punct p) h = absurd (h p refl)
lone_other (entries.Literal l) h = refl

pub apart_other : (all es : List Entry) (e : Entry) → all ≡ es ++ e ∷ [] → ((p : Bor Punct') → e ≡ entries.Punct p → ⊥)
    → map entry_token all ≡ apart (map entry_token all)
apart_other all es e is h =
    apart_of all es e (map entry_token all) is
    (ap (map entry_token) is ∙ map-append entry_token es (e ∷ [])
    ∙ ap (λ us. map entry_token es ++ us) (lone_other e h))

pub apart_made : (all es made : List Entry) (e : Entry) (p q : Bor Punct') → all ≡ es ++ e ∷ [] → e ≡ entries.Punct p
    → punct_char q.now ≡ punct_char p.now → punct_spacing q.now ≡ Apart → made ≡ es ++ entries.Punct q ∷ []
    → map entry_token made ≡ apart (map entry_token all)
apart_made all es made e p q is mark same spaced put =
    let lone : entry_token (entries.Punct q) ∷ [] ≡ apart (entry_token e ∷ []) =
    ap (λ c. Punct c (punct_spacing q.now) ∷ []) same ∙ ap (λ s. Punct (punct_char p.now) s ∷ []) spaced
    ∙ ap (λ l. apart (entry_token l ∷ [])) (sym mark) in
    apart_of all es e (map entry_token made) is
    (ap (map entry_token) put ∙ map-append entry_token es (entries.Punct q ∷ [])
    ∙ ap (λ us. map entry_token es ++ us) lone)

-- a raw item, and what is none
pub raw_stays : (x : Tree) → None ≡ raw_item x → x ≡ apart_raw x
raw_stays (t.Node AnItem (t.Raw ts)) e = cc
raw_stays x e = refl

pub raw_set : (x : Tree) (ts : List Token) → Some ts ≡ raw_item x → t.Node AnItem (t.Raw (apart ts)) ≡ apart_raw x
raw_set (t.Node AnItem (t.Raw us)) ts e = cc
raw_set x ts e = absurd (some_none ts e)

-- an alternative, by its form
pub alternative_seconds : (n : ℕ) (x : Tree) → apart_alternative (seconds n x) ≡ seconds n (apart_alternative x)
alternative_seconds zero x = refl
alternative_seconds (suc n) x = ap t.Second (alternative_seconds n x)

pub alternative_mark : (cs : List ℕ) (spacing : Spacing)
    → apart_alternative (mark_of cs spacing) ≡ mark_of cs spacing
alternative_mark [] spacing = refl
alternative_mark (c ∷ cs) spacing = refl

pub alternative_turns : (xs : List Tree) → apart_alternative (turns xs) ≡ turns xs
alternative_turns [] = refl
alternative_turns (x ∷ xs) = refl

pub alternative_elements : {A : Type 0} (c : ℕ) (es : List Element) (f : A → Tree) (o : Option A)
    → apart_alternative (elements c es (ending f o)) ≡ elements c es (ending f o)
alternative_elements c [] f None = refl
alternative_elements c [] f (Some y) = refl
alternative_elements c (e ∷ es) f o = refl

pub ruleset alternatives = (alternative_seconds, alternative_mark, alternative_turns, alternative_elements)

-- a turn that is a statement, and what is none
apart_none : (x : Tree) → None ≡ stated_turn x → x ≡ apart_item x
apart_none (t.Second (t.Node AStatement y)) e = cc
apart_none x e = refl

apart_some : (x y : Tree) → Some y ≡ stated_turn x → t.Second (t.Node AStatement (apart_alternative y)) ≡ apart_item x
apart_some (t.Second (t.Node AStatement z)) y e = cc
apart_some x y e = absurd (some_none y e)

-- set apart where it is enclosed
pub part_none : (x : Tree) (b : Bool) → None ≡ stated_turn x → x ≡ apart_if b x
part_none x true e = apart_none x e
part_none x false e = refl

pub part_stays : (x : Tree) (b : Bool) → b ≡ false → x ≡ apart_if b x
part_stays x true e = cc
part_stays x false e = refl

pub part_set : (x y : Tree) (b : Bool) → b ≡ true → Some y ≡ stated_turn x
    → t.Second (t.Node AStatement (apart_alternative y)) ≡ apart_if b x
part_set x y false e f = cc
part_set x y true e f = apart_some x y f

-- what stands first in what is set apart
begun_apart : (ts : List Token) → begun (apart ts) ≡ begun ts
begun_apart [] = refl
begun_apart (Punct c spacing ∷ []) = refl
begun_apart (u ∷ []) = refl
begun_apart (Punct c spacing ∷ v ∷ ts) = refl
begun_apart (u ∷ v ∷ ts) = refl

begun_raw : (x : Tree) → begun (flat (apart_raw x)) ≡ begun (flat x)
begun_raw (t.Node AnItem (t.Raw ts)) = begun_apart ts
begun_raw x = refl

begun_alternative : (x : Tree) → begun (flat (apart_alternative x)) ≡ begun (flat x)
begun_alternative (t.First x) = begun_raw x
begun_alternative (t.Second x) = begun_alternative x
begun_alternative x = refl

begun_item : (x : Tree) → begun (flat (apart_item x)) ≡ begun (flat x)
begun_item (t.Second (t.Node AStatement x)) = begun_alternative x
begun_item x = refl

begun_if : (b : Bool) (x : Tree) → begun (flat (apart_if b x)) ≡ begun (flat x)
begun_if true x = begun_item x
begun_if false x = refl

begun_parted : (p : Position) (xs : List Tree) → begun (flat (turns (parted xs (map (normal_in p) xs))))
    ≡ begun (flat (turns (map (normal_in p) xs)))
begun_parted p [] = refl
begun_parted p (x ∷ xs) =
    let ns : List Tree = map (normal_in p) xs in
    let n : Tree = normal_in p x in
    let b : Bool = is_enclosed (turns xs) (turns ns) in
    begun_append (flat (apart_if b n)) (flat (turns (parted xs ns)))
    ∙ ap (λ o. before o (begun (flat (turns (parted xs ns))))) (begun_if b n)
    ∙ ap (before (begun (flat n))) (begun_parted p xs)
    ∙ sym (begun_append (flat n) (flat (turns ns)))

sees_now : (ts : List Token) → Some (sees parenthesis ts) ≡ before (begun ts) (Some false)
sees_now [] = refl
sees_now (x ∷ ts) = ap Some (sees_first x ts)

sees_same : (ts us : List Token) → begun ts ≡ begun us → sees parenthesis ts ≡ sees parenthesis us
sees_same ts us e =
    sees_begun (sees parenthesis ts) (begun us) us refl (sees_now ts ∙ ap (λ o. before o (Some false)) e)

pub turned : (p : Position) (xs : List Tree) → turns (parted xs (map (normal_in p) xs)) ≡ normal_in p (turns xs)
turned p [] = refl
turned p (x ∷ xs) =
    let ns : List Tree = map (normal_in p) xs in
    let n : Tree = normal_in p x in
    let rest : turns (parted xs ns) ≡ normal_in p (turns xs) = turned p xs in
    let sees_rest : sees parenthesis (flat (turns ns)) ≡ sees parenthesis (flat (normal_in p (turns xs))) =
    sees_same (flat (turns ns)) (flat (normal_in p (turns xs)))
    (sym (begun_parted p xs) ∙ ap (λ y. begun (flat y)) rest) in
    ap (λ b. t.Again (apart_if (b && not (sees parenthesis (flat (turns xs)))) n) (turns (parted xs ns))) sees_rest
    ∙ ap (t.Again (apart_if (is_enclosed (turns xs) (normal_in p (turns xs))) n)) rest

pub turned_so : (p : Position) (xs ys zs : List Tree) → ys ≡ map (normal_in p) xs → zs ≡ parted xs ys
    → turns zs ≡ normal_in p (turns xs)
turned_so p xs ys zs e f = ap turns f ∙ ap (λ ws. turns (parted xs ws)) e ∙ turned p xs

-- put in their order
pub parted_none : (xs ys out : List Tree) → length xs ≡ 0 → out ≡ out ++ parted xs ys
parted_none [] ys out e = sym (append-nil out)
parted_none (x ∷ xs) ys out e = absurd (omega (arith, e))

pub parted_end : (xs ys out : List Tree) → length ys ≡ 0 → out ≡ out ++ parted xs ys
parted_end [] [] out e = sym (append-nil out)
parted_end (x ∷ xs) [] out e = sym (append-nil out)
parted_end xs (y ∷ ys) out e = absurd (omega (arith, e))

pub parted_more : (xs vs ys ws out new last : List Tree) (x y z : Tree) → xs ≡ x ∷ vs → ys ≡ y ∷ ws
    → z ≡ apart_if (is_enclosed (turns vs) (turns ws)) y → new ≡ out ++ z ∷ [] → last ≡ new ++ parted vs ws
    → last ≡ out ++ parted xs ys
parted_more xs vs ys ws out new last x y z e f h i j =
    j ∙ ap (λ us. us ++ parted vs ws) i ∙ append_assoc out (z ∷ []) (parted vs ws)
    ∙ ap (λ u. out ++ (u ∷ parted vs ws)) h
    ∙ sym (ap (λ us. out ++ parted us ys) e ∙ ap (λ us. out ++ parted (x ∷ vs) us) f)

pub ruleset puts = (parted_none, parted_end, parted_more)
