-- What is written of joined texts: what is written of each, one behind the other.
use Rattle.std.proofs.Common.{◌≡◌, ℕ, List, [], ◌∷◌, ◌++◌, refl, sym, ap, ap₂, ◌∙◌, subst, append_assoc}
use Rattle.std.proofs.lemmas.List.{append-nil}
use Rattle.std.specs.Prelude.{Bool, true, false, ◌&&◌, ◌||◌, ◌==◌, cond, not, Option, Some, None, option_and_then}
use Rattle.std.specs.Prelude.{IsTrue, if◌then◌else◌}
use Rattle.rust_leaf.specs.Leaf.{AreCharacters}
use Rattle.rust_leaf.specs.declared.punct.Spacing.TheVariants as spacing
use Rattle.proc_macro2.specs.declared.delimiter.Delimiter.{Delimiter}
use Rattle.proc_macro2.specs.Groups.{groups_behind}
use Rattle.proc_macro2.specs.Printed.{hugs, space}
use Rattle.proc_macro2.specs.Printed as printed
use Rattle.proc_macro2.specs.Shown.{hugs_last, last}
use Rattle.proc_macro2.specs.Spacing.{IsWellSpaced, quote}
use Rattle.proc_macro2.specs.Token.{Token, Opens, Closes, Ident, Literal, Punct, Spanned}
use Rattle.proc_macro2.proofs.GroupLemmas.{joined_text}
use Rattle.proc_macro2.proofs.Texts.{plain_append}
use Rattle.syn_grammar.specs.Derives.{Derives}
use Rattle.syn_grammar.specs.Gram.{ref, star}
use Rattle.syn_grammar.specs.Kept.{held, kept}
use Rattle.syn_grammar.specs.Kind.{AFile, AnItem, InnerAttribute, InnerAttributes, Items, Kind, Plain}
use Rattle.syn_grammar.specs.Normal.{is_enclosed, normal, passed}
use Rattle.syn_grammar.specs.Table.{table}
use Rattle.syn_grammar.specs.Tree.{Tree, Node, flat}
use Rattle.laws_items.specs.Begins.{first_of}
use Rattle.laws_items.proofs.Fronts.{leads}
use Rattle.laws_programs.specs.Joined.{AreJoinable, IsJoinedOutput, all_items, attributes_of, file_of, has_tokens}
use Rattle.laws_programs.specs.Joined.{in_turn, items_of, joined, spaced}
use Rattle.laws_programs.specs.Program.{IsProgram, Program, shebang_text, written}
use Rattle.laws_programs.proofs.JoinedFiles.{attributes_are, items_are, parts, turns_again}
use Rattle.laws_programs.proofs.JoinedTexts.{all_joined, characters_apart, program_joined}
use Rattle.laws_programs.proofs.Leaves.{matching}
use Rattle.laws_programs.proofs.Programs.{normal_spaced, one_program}
use Rattle.laws_programs.proofs.Stacks.{IsMatching, matching_both, matching_none, opened}
use Rattle.laws_programs.proofs.Written.{normal_good, placed, placed_matched, placed_plain}

-- what is written of parts

abbrev pub each_written : List Tree → List Token
each_written [] = []
each_written (x ∷ xs) = flat (normal (kept x)) ++ each_written xs

each_both : (xs ys : List Tree) → each_written (xs ++ ys) ≡ each_written xs ++ each_written ys
each_both [] ys = refl
each_both (x ∷ xs) ys =
    ap (λ ts. flat (normal (kept x)) ++ ts) (each_both xs ys)
    ∙ sym (append_assoc (flat (normal (kept x))) (each_written xs) (each_written ys))

either_way : (b : Bool) (x : Tree) → flat (cond b x x) ≡ flat x
either_way true x = refl
either_way false x = refl

turns_written : (xs : List Tree) (t : List Token → Bool) (k : Kind) (r : List Token)
    → Derives (in_turn xs) (star t (ref k)) r → flat (normal (kept (in_turn xs))) ≡ each_written xs
turns_written [] t k r d = refl
turns_written (Node l x ∷ xs) t k r d =
    ap₂ (λ ts us. ts ++ us)
    (either_way (is_enclosed (kept (in_turn xs)) (normal (kept (in_turn xs)))) (normal (kept (Node l x))))
    (turns_written xs t k r d.2)
turns_written (x ∷ xs) t k r d = absurd d.1

-- of a file: of its attributes, and of its items
pub parts_written : (xs ys : List Tree) → Derives (in_turn xs) (table InnerAttributes) (flat (in_turn ys) ++ [])
    → Derives (in_turn ys) (table Items) []
    → flat (normal (kept (file_of xs ys))) ≡ each_written xs ++ each_written ys
unfolding table held passed
parts_written xs ys d e =
    ap₂ (λ ts us. ts ++ us) (turns_written xs _ InnerAttribute (flat (in_turn ys) ++ []) d)
    (turns_written ys _ AnItem [] e)

abbrev said : Program → List Token
said p = flat (normal (kept p.tree))

pub file_written : (t : Tree) → Derives t (ref AFile) []
    → flat (normal (kept t)) ≡ each_written (attributes_of t) ++ each_written (items_of t)
file_written t d =
    let p = parts t d in
    ap (λ x. flat (normal (kept x))) p.is ∙ parts_written p.attributes p.items p.front p.listed
    ∙ ap₂ (λ xs ys. each_written xs ++ each_written ys) (sym (attributes_are t p)) (sym (items_are t p))

-- of all
abbrev all_said : List Program → List Token
all_said [] = []
all_said (p ∷ ps) = said p ++ all_said ps

later_said : (texts : List (List ℕ)) (ps : List Program) → AreJoinable true texts ps
    → each_written (all_items ps) ≡ all_said ps
later_said [] [] h = refl
later_said (t ∷ ts) (p ∷ ps) h =
    let none = (h.1 refl).no_attributes in
    each_both (items_of p.tree) (all_items ps)
    ∙ ap₂ (λ us vs. us ++ vs)
    (ap (λ xs. each_written xs ++ each_written (items_of p.tree)) (sym none)
    ∙ sym (file_written p.tree h.0.file.derived))
    (later_said ts ps h.2)
later_said [] (p ∷ ps) h = absurd h
later_said (t ∷ ts) [] h = absurd h

-- the whole has the tokens of the first, and then those of the others
whole_said : (whole first : List ℕ) (p : Program) (ps : List Program) → IsProgram first p
    → IsProgram whole (all_joined (p ∷ ps)) → each_written (all_items ps) ≡ all_said ps
    → said (all_joined (p ∷ ps)) ≡ said p ++ all_said ps
whole_said whole first p ps i j e =
    let xs : List Tree = attributes_of p.tree in
    let ys : List Tree = items_of p.tree in
    file_written (file_of xs (ys ++ all_items ps)) j.file.derived
    ∙ ap₂ (λ us vs. each_written us ++ each_written vs) (turns_again xs) (turns_again (ys ++ all_items ps))
    ∙ ap (λ us. each_written xs ++ us) (each_both ys (all_items ps))
    ∙ sym (append_assoc (each_written xs) (each_written ys) (each_written (all_items ps)))
    ∙ ap₂ (λ us vs. us ++ vs) (sym (file_written p.tree i.file.derived)) e

-- tokens are written of a file that has some

some_both : (ts us : List Token) → has_tokens (ts ++ us) ≡ (has_tokens ts || has_tokens us)
some_both [] us = refl
some_both (t ∷ ts) us = refl

same_some : (ts us : List Token) → first_of (ts ++ []) ≡ first_of (us ++ []) → has_tokens ts ≡ has_tokens us
same_some [] [] e = refl
same_some (t ∷ ts) (u ∷ us) e = refl
same_some [] (u ∷ us) e = cc
same_some (t ∷ ts) [] e = cc

item_some : (x : Tree) (r : List Token) → Derives x (ref AnItem) r
    → has_tokens (flat x) ≡ has_tokens (flat (normal (kept x)))
item_some x r d =
    same_some (flat x) (flat (normal (kept x))) ((leads x (ref AnItem) r d true refl [] [] (λ i. refl)).1 Plain)

inside_some : (x : Tree) (r : List Token) → Derives x (table InnerAttribute) r
    → has_tokens (flat x) ≡ has_tokens (flat (normal (kept x)))
unfolding table
inside_some x r d =
    same_some (flat x) (flat (normal (kept x)))
    ((leads x (table InnerAttribute) r d true refl [] [] (λ i. refl)).1 Plain)

pub attribute_same : (x : Tree) → flat (normal (kept (Node InnerAttribute x))) ≡ flat (normal (kept x))
unfolding held passed
attribute_same x = refl

attribute_some : (x : Tree) (r : List Token) → Derives x (ref InnerAttribute) r
    → has_tokens (flat x) ≡ has_tokens (flat (normal (kept x)))
attribute_some (Node k x) r d =
    inside_some x r (subst (λ i. Derives x (table i) r) d.0 d.1)
    ∙ ap has_tokens (sym (attribute_same x))
    ∙ ap (λ i. has_tokens (flat (normal (kept (Node i x))))) (sym d.0)
attribute_some _ r d = absurd d

turns_some : (xs : List Tree) (t : List Token → Bool) (k : Kind) (r : List Token)
    → ((x : Tree) (r : List Token) → Derives x (ref k) r → has_tokens (flat x) ≡ has_tokens (flat (normal (kept x))))
    → Derives (in_turn xs) (star t (ref k)) r → has_tokens (flat (in_turn xs)) ≡ has_tokens (each_written xs)
turns_some [] t k r f d = refl
turns_some (x ∷ xs) t k r f d =
    some_both (flat x) (flat (in_turn xs))
    ∙ ap₂ (λ a b. a || b) (f x (flat (in_turn xs) ++ r) d.1) (turns_some xs t k r f d.2)
    ∙ sym (some_both (flat (normal (kept x))) (each_written xs))

parts_some : (xs ys : List Tree) → Derives (in_turn xs) (table InnerAttributes) (flat (in_turn ys) ++ [])
    → Derives (in_turn ys) (table Items) []
    → has_tokens (flat (normal (kept (file_of xs ys)))) ≡ has_tokens (flat (in_turn xs) ++ flat (in_turn ys))
unfolding table
parts_some xs ys d e =
    ap has_tokens (parts_written xs ys d e) ∙ some_both (each_written xs) (each_written ys)
    ∙ ap₂ (λ a b. a || b)
    (sym (turns_some xs _ InnerAttribute (flat (in_turn ys) ++ []) attribute_some d))
    (sym (turns_some ys _ AnItem [] item_some e))
    ∙ sym (some_both (flat (in_turn xs)) (flat (in_turn ys)))

file_some : (t : Tree) → Derives t (ref AFile) [] → has_tokens (flat (normal (kept t))) ≡ has_tokens (flat t)
file_some t d =
    let p = parts t d in
    ap (λ x. has_tokens (flat (normal (kept x)))) p.is ∙ parts_some p.attributes p.items p.front p.listed
    ∙ ap (λ x. has_tokens (flat x)) (sym p.is)

-- tokens that are printed whole

record IsFine (ts : List Token) : Type 0 where
  pub matched : IsMatching ts
  pub spaced : IsWellSpaced ts

program_fine : (text : List ℕ) (p : Program) → AreCharacters text → IsProgram text p → IsFine (said p)
program_fine text p a i = record {
  matched = matching (normal (kept p.tree)) (normal_good text p a i);
  spaced = normal_spaced text p a i;
}

-- the last of them is no opening one, and no joint mark
none_hugs : (b : Bool) → IsTrue (if b then false else false) → ⊥
none_hugs true h = cc
none_hugs false h = cc

last_alone : (ds : List Delimiter) (t : Token) → opened ds (t ∷ []) ≡ Some [] → IsWellSpaced (t ∷ [])
    → hugs t ≡ false
last_alone ds (Opens d) e w = cc
last_alone ds (Closes d) e w = refl
last_alone ds (Ident cs) e w = refl
last_alone ds (Literal cs) e w = refl
last_alone ds (Punct c spacing.Alone) e w = refl
last_alone ds (Punct c spacing.Joint) e w = absurd (none_hugs (c == quote) w.0)

last_free : (ds : List Delimiter) (t : Token) (ts : List Token) → opened ds (t ∷ ts) ≡ Some []
    → IsWellSpaced (t ∷ ts) → hugs (last t ts) ≡ false
last_free ds t [] e w = last_alone ds t e w
last_free ds t (u ∷ us) e w = past (λ es h. last_free es u us h w.1) (groups_behind ds t) e
  where
    past : ((es : List Delimiter) → opened es (u ∷ us) ≡ Some [] → hugs (last u us) ≡ false)
        → (o : Option (List Delimiter)) → option_and_then (λ es. opened es (u ∷ us)) o ≡ Some []
        → hugs (last u us) ≡ false
    past more None h = cc
    past more (Some es) h = more es h

text_both : (ts us : List Token) → IsFine ts → IsMatching us
    → printed.text (ts ++ us)
    ≡ printed.text ts ++ (space (has_tokens ts && has_tokens us) ++ printed.text us)
text_both [] us f m = refl
text_both (t ∷ ts) [] f m = ap printed.text (append-nil (t ∷ ts)) ∙ sym (append-nil (printed.text (t ∷ ts)))
text_both (t ∷ ts) (u ∷ us) f m =
    let a : List Spanned = placed (t ∷ ts) in
    let b : List Spanned = placed (u ∷ us) in
    let free : hugs_last (t ∷ ts) ≡ false =
    last_free [] t ts (ap (opened []) (sym (append-nil (t ∷ ts))) ∙ f.matched.by [] []) f.spaced in
    ap printed.text
    (sym (plain_append a b ∙ ap₂ (λ xs ys. xs ++ ys) (placed_plain (t ∷ ts)) (placed_plain (u ∷ us))))
    ∙ joined_text a b (placed_matched (t ∷ ts) f.matched) (placed_matched (u ∷ us) m) (λ e. cc)
    ∙ ap₂ (λ xs ys. printed.text xs ++ (space (not (hugs_last xs)) ++ printed.text ys)) (placed_plain (t ∷ ts))
    (placed_plain (u ∷ us))
    ∙ ap (λ h. printed.text (t ∷ ts) ++ (space (not h) ++ printed.text (u ∷ us))) free

-- of one program, and then of others
one_more : (before : Bool) (ts us : List Token) (text : List ℕ) (rest : Bool → List ℕ)
    → printed.text (ts ++ us) ≡ printed.text ts ++ (space (has_tokens ts && has_tokens us) ++ printed.text us)
    → text ≡ printed.text ts
    → ((b : Bool) → space (b && has_tokens us) ++ printed.text us ≡ rest b)
    → space (before && has_tokens (ts ++ us)) ++ printed.text (ts ++ us)
    ≡ space (before && has_tokens ts) ++ (text ++ rest (before || has_tokens ts))
one_more true [] us text rest e s r = r true ∙ sym (ap (λ cs. cs ++ rest true) s)
one_more false [] us text rest e s r = r false ∙ sym (ap (λ cs. cs ++ rest false) s)
one_more true (t ∷ ts) us text rest e s r =
    ap (λ cs. space true ++ cs) (e ∙ ap₂ (λ cs ds. cs ++ ds) (sym s) (r true))
one_more false (t ∷ ts) us text rest e s r = e ∙ ap₂ (λ cs ds. cs ++ ds) (sym s) (r true)

front_characters : (text : List ℕ) (texts : List (List ℕ)) → AreCharacters (joined (text ∷ texts))
    → AreCharacters text × AreCharacters (joined texts)
front_characters text [] a = (a, refl)
front_characters text (u ∷ us) a = characters_apart text (joined (u ∷ us)) a

all_matched : (texts : List (List ℕ)) (ps : List Program) → AreJoinable true texts ps
    → AreCharacters (joined texts) → IsMatching (all_said ps)
all_matched [] [] h a = matching_none
all_matched (t ∷ ts) (p ∷ ps) h a =
    let (b, c) = front_characters t ts a in
    matching_both (said p) (all_said ps) (program_fine t p b h.0).matched (all_matched ts ps h.2 c)
all_matched [] (p ∷ ps) h a = absurd h
all_matched (t ∷ ts) [] h a = absurd h

none_apart : (b : Bool) → space (b && false) ++ [] ≡ []
none_apart true = refl
none_apart false = refl

others_spaced : (before : Bool) (texts : List (List ℕ)) (ps : List Program) → AreJoinable true texts ps
    → AreCharacters (joined texts)
    → space (before && has_tokens (all_said ps)) ++ printed.text (all_said ps) ≡ spaced before ps
others_spaced before [] [] h a = none_apart before
others_spaced before (t ∷ ts) (p ∷ ps) h a =
    let (b, c) = front_characters t ts a in
    let text : written p ≡ printed.text (said p) =
    ap (λ s. shebang_text s ++ printed.text (said p)) (h.1 refl).no_shebang in
    one_more before (said p) (all_said ps) (written p) (λ e. spaced e ps)
    (text_both (said p) (all_said ps) (program_fine t p b h.0) (all_matched ts ps h.2 c)) text
    (λ e. others_spaced e ts ps h.2 c)
    ∙ ap (λ s. space (before && s) ++ (written p ++ spaced (before || s) ps)) (file_some p.tree h.0.file.derived)
others_spaced before [] (p ∷ ps) h a = absurd h
others_spaced before (t ∷ ts) [] h a = absurd h

none_written : written (all_joined []) ≡ []
unfolding held passed
none_written = refl

pub all_written : (texts : List (List ℕ)) (ps : List Program) → AreJoinable false texts ps
    → AreCharacters (joined texts) → written (all_joined ps) ≡ spaced false ps
all_written [] [] h a = none_written
all_written (t ∷ ts) (p ∷ ps) h a =
    let (b, c) = front_characters t ts a in
    let front : List ℕ = shebang_text p.shebang in
    ap (λ us. front ++ printed.text us)
    (whole_said (joined (t ∷ ts)) t p ps h.0 (program_joined false (t ∷ ts) (p ∷ ps) h) (later_said ts ps h.2))
    ∙ ap (λ cs. front ++ cs)
    (one_more false (said p) (all_said ps) (printed.text (said p)) (λ e. spaced e ps)
    (text_both (said p) (all_said ps) (program_fine t p b h.0) (all_matched ts ps h.2 c)) refl
    (λ e. others_spaced e ts ps h.2 c))
    ∙ sym (append_assoc front (printed.text (said p)) (spaced (has_tokens (said p)) ps))
    ∙ ap (λ s. written p ++ spaced s ps) (file_some p.tree h.0.file.derived)
all_written [] (p ∷ ps) h a = absurd h
all_written (t ∷ ts) [] h a = absurd h

joined_items : (ps : List Program) → items_of (all_joined ps).tree ≡ all_items ps
joined_items [] = refl
joined_items (p ∷ ps) = turns_again (items_of p.tree ++ all_items ps)

pub joined_texts : (texts : List (List ℕ)) (ps : List Program) → AreCharacters (joined texts)
    → AreJoinable false texts ps → IsJoinedOutput texts (spaced false ps)
joined_texts texts ps a h = record {
  programs = ps;
  joinable = h;
  whole = all_joined ps;
  accepted = program_joined false texts ps h;
  is = sym (all_written texts ps h a);
  items = joined_items ps;
  parts = refl;
}

-- the whole has one program, and so one output
pub one_joined_output : (texts : List (List ℕ)) (a b : List ℕ) → IsJoinedOutput texts a → IsJoinedOutput texts b → a ≡ b
one_joined_output texts a b i j =
    i.is ∙ ap written (one_program (joined texts) i.whole j.whole i.accepted j.accepted) ∙ sym j.is
