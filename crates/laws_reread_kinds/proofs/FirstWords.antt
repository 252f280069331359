-- An item that stands among statements is seen there by its first words: no macro is seen in its place, and no let.
use Rattle.std.proofs.Common.{◌≡◌, ℕ, List, [], ◌∷◌, ◌++◌, refl, sym, ap, ◌∙◌, subst, ⊎_elim, inl, inr}
use Rattle.std.specs.Prelude.{Bool, true, false, ◌⊎◌, ◌&&◌, not, cond, codes, Option, Some, None}
use Rattle.std.proofs.lemmas.Slice.Eq.{bytes_eq-Decides}
use Rattle.proc_macro2.specs.Token.{Token, Ident, Opens, Punct}
use Rattle.proc_macro2.specs.declared.delimiter.Delimiter.{Delimiter}
use Rattle.proc_macro2.specs.declared.delimiter.Delimiter.TheVariants.{Brace, Bracket, Parenthesis}
use Rattle.rust_leaf.specs.declared.punct.Spacing.{Spacing}
use Rattle.rust_leaf.specs.declared.punct.Spacing.TheVariants.{Alone as Apart, Joint}
use Rattle.syn_grammar.specs.Kind.{Kind, AConst, AStatic, ATrait, AnImpl, InFile, InModule, ItemMacro, Path}
use Rattle.syn_grammar.specs.Kind.{Segments, Visibility}
use Rattle.syn_grammar.specs.Tree.{Tree, AMark, AWord, Called, First, Group, Nil, Node, Pair, Second}
use Rattle.syn_grammar.specs.Tree.{Verbatim, marks as signs, flat}
use Rattle.syn_grammar.specs.Name.{Part, same_part, the_const, the_default}
use Rattle.syn_grammar.specs.Part.{choice, found, has, is_some, or_else}
use Rattle.syn_grammar.specs.Words.{is_ident, is_name, is_path_keyword, is_string}
use Rattle.rust_leaf.specs.Keywords.{is_among, is_reserved, same_text}
use Rattle.syn_grammar.specs.Gram.{Gram, alt, never, raw, ref}
use Rattle.syn_grammar.specs.Look.{Look, a_group, a_name, a_path, a_quoted, an_ident, behind, first_seen, maybe, no}
use Rattle.syn_grammar.specs.Look.{repeatedly, seen, sees}
use Rattle.syn_grammar.specs.Look.{the_word, ◌or◌, ◌then◌}
use Rattle.syn_grammar.specs.Say.{at, brace, in_braces, in_brackets, in_parentheses, marks, parenthesis, sign}
use Rattle.syn_grammar.specs.Say.{when◌read◌else◌, ◌▸◌}
use Rattle.syn_grammar.specs.Items.{is_impl, is_trait, signature_stands, trait_stands}
use Rattle.syn_grammar.specs.Lists.{item_form}
use Rattle.syn_grammar.specs.Statements.{function_words, item_stands, item_words, macro_item_stands}
use Rattle.syn_grammar.specs.Statements.{macro_statement_stands}
use Rattle.syn_grammar.specs.Table.{table}
use Rattle.syn_grammar.specs.Derives.{Derives}
use Rattle.syn_grammar.specs.Kept.{is_there}
use Rattle.laws_items.proofs.Places.{kept_raw, none_then}
use Rattle.laws_reread_kinds.specs.Sees.{Lacks}
use Rattle.laws_reread_kinds.proofs.Choices.{both_true, first_of, is_false, none_of, second_seen}
use Rattle.laws_reread_kinds.proofs.Classes.{Class, IsAmong, of_all, the_words}
use Rattle.laws_reread_kinds.proofs.Impls.{contrary}
use Rattle.laws_reread_kinds.proofs.ItemPlaces.{word_front}
use Rattle.laws_reread_kinds.proofs.Seconds.{either_seen, front_seen}
use Rattle.laws_reread_kinds.proofs.MacroItems.{a_word_lacked, abi_fn, async_fn, safe_fn}
use Rattle.laws_reread_kinds.proofs.Sights.{ident_not}
use Rattle.laws_reread_kinds.specs.Covered.{is_begun, is_crate_macro, is_crate_path, is_no_call}

-- an item is seen, and nothing that is looked for before it
abbrev pub ItemSeen : List Token → Type 0
ItemSeen ts =
    (sees macro_item_stands ts ≡ false) × (sees macro_statement_stands ts ≡ false)
    × (sees (at "let") ts ≡ false)
    × (sees item_stands ts ≡ true)

-- where a word is no name no path begins
no_path : (w : List ℕ) (us : List Token) (l : Look) → is_name w ≡ false → sees (a_path then l) (Ident w ∷ us) ≡ false
no_path w us l e =
    ap (λ b. seen (behind (behind (cond b (Some us) None) (repeatedly (marks "::" then a_name))) l)) e

by_word : (w : List ℕ) (us : List Token) → is_name w ≡ false → same_text (codes "let") w ≡ false
    → sees item_stands (Ident w ∷ us) ≡ true → ItemSeen (Ident w ∷ us)
by_word w us n l e = (
  no_path w us (marks "!" then (an_ident or at "try")) n,
  no_path w us (marks "!" then a_group Brace then no (marks "?" or (no (marks "..") then marks "."))) n,
  ap (λ b. seen (cond b (Some us) None)) l,
  e,
)

-- a word that begins an item wherever it stands
by_first : (w : List ℕ) (us : List Token) → is_name w ≡ false → same_text (codes "let") w ≡ false
    → is_among item_words w ≡ true → ItemSeen (Ident w ∷ us)
by_first w us n l e = by_word w us n l (first_of _ _ (ap (λ b. seen (cond b (Some us) None)) e))

-- a word, and what stands behind it
abbrev Led : List ℕ → Look → List Token → Type 0
Led w l ts = (us : List Token) × (ts ≡ Ident w ∷ us) × (sees l us ≡ true)

word_then : (w : List ℕ) (l : Look) (ts : List Token) → sees (the_word w then l) ts ≡ true → Led w l ts
word_then w l (Ident cs ∷ us) e = go (same_text w cs) refl e
  where
    go : (b : Bool) → same_text w cs ≡ b → seen (behind (cond b (Some us) None) l) ≡ true → Led w l (Ident cs ∷ us)
    go true i h = (us, ap (λ v. Ident v ∷ us) (sym ((bytes_eq-Decides w cs).0 i)), h)
    go false i h = cc h
word_then w l _ e = cc e

maybe_then : (w : List ℕ) (l : Look) (ts : List Token) → sees (maybe (the_word w) then l) ts ≡ true
    → Led w l ts ⊎ (sees l ts ≡ true)
maybe_then w l (Ident cs ∷ us) e = go (same_text w cs) refl e
  where
    go : (b : Bool) → same_text w cs ≡ b
        → seen (behind (first_seen (cond b (Some us) None) (Some (Ident cs ∷ us))) l) ≡ true
        → Led w l (Ident cs ∷ us) ⊎ (sees l (Ident cs ∷ us) ≡ true)
    go true i h = inl (us, ap (λ v. Ident v ∷ us) (sym ((bytes_eq-Decides w cs).0 i)), h)
    go false i h = inr h
maybe_then w l _ e = inr e

-- functions
abbrev abi_words : List Class
abi_words = the_words (codes "extern" ∷ codes "fn" ∷ [])

abbrev safe_words : List Class
safe_words = the_words (codes "unsafe" ∷ codes "extern" ∷ codes "fn" ∷ [])

abi_led : (ts : List Token) → sees abi_fn ts ≡ true → IsAmong abi_words ts
abi_led (Ident cs ∷ us) e = go (same_text (codes "extern") cs) refl e
  where
    go : (b : Bool) → same_text (codes "extern") cs ≡ b
        → seen (behind (first_seen (behind (cond b (Some us) None) (maybe (a_quoted is_string)))
        (Some (Ident cs ∷ us))) (at "fn")) ≡ true → IsAmong abi_words (Ident cs ∷ us)
    go true i h = inl (us, ap (λ v. Ident v ∷ us) (sym ((bytes_eq-Decides (codes "extern") cs).0 i)))
    go false i h = inr (inl (word_front (codes "fn") (Ident cs ∷ us) h))
abi_led _ e = cc e

safe_led : (ts : List Token) → sees safe_fn ts ≡ true → IsAmong safe_words ts
safe_led ts e =
    ⊎_elim (λ h. inl (h.0, h.1)) (λ h. inr (abi_led ts h)) (maybe_then (codes "unsafe") abi_fn ts e)

safe_seen : (ts : List Token) → sees safe_fn ts ≡ true → ItemSeen ts
unfolding is_name is_path_keyword is_reserved
safe_seen ts e =
    ⊎_elim (λ h. subst ItemSeen (sym h.1) (of_all (λ us. ItemSeen (Ident (codes "unsafe") ∷ us)) abi_words h.0 (
      λ us. by_word (codes "unsafe") (Ident (codes "extern") ∷ us) refl refl refl,
      (λ us. by_word (codes "unsafe") (Ident (codes "fn") ∷ us) refl refl refl, tt),
    ) (abi_led h.0 h.2)))
    (λ h. of_all ItemSeen abi_words ts
    (λ us. by_first (codes "extern") us refl refl refl, (λ us. by_first (codes "fn") us refl refl refl, tt))
    (abi_led ts h))
    (maybe_then (codes "unsafe") abi_fn ts e)

async_seen : (ts : List Token) → IsAmong safe_words ts → ItemSeen (Ident (codes "async") ∷ ts)
unfolding is_name is_path_keyword is_reserved
async_seen ts i =
    by_word (codes "async") ts refl refl
    (of_all (λ us. sees item_stands (Ident (codes "async") ∷ us) ≡ true) safe_words ts
    (λ us. refl, (λ us. refl, (λ us. refl, tt))) i)

-- const, where what stands behind it begins no expression
abbrev not_const : Look
not_const = brace or at "static" or at "move" or marks "|" or (at "async" then no function_words)

const_seen : (ts : List Token) → Lacks not_const ts → ItemSeen (Ident (codes "const") ∷ ts)
unfolding is_name is_path_keyword is_reserved
const_seen ts e =
    by_word (codes "const") ts refl refl (ap (λ b. seen (first_seen (cond b None (Some ts)) None)) e)

const_function : (ts : List Token) → sees async_fn ts ≡ true → ItemSeen (Ident (codes "const") ∷ ts)
const_function ts e =
    const_seen ts
    (⊎_elim (λ h. subst (Lacks not_const) (sym h.1)
    (of_all (λ us. Lacks not_const (Ident (codes "async") ∷ us)) safe_words h.0
    (λ us. refl, (λ us. refl, (λ us. refl, tt))) (safe_led h.0 h.2)))
    (λ h. of_all (Lacks not_const) safe_words ts (λ us. refl, (λ us. refl, (λ us. refl, tt))) (safe_led ts h))
    (maybe_then (codes "async") safe_fn ts e))

plain_function : (ts : List Token) → sees async_fn ts ≡ true → ItemSeen ts
plain_function ts e =
    ⊎_elim (λ h. subst ItemSeen (sym h.1) (async_seen h.0 (safe_led h.0 h.2))) (λ h. safe_seen ts h)
    (maybe_then (codes "async") safe_fn ts e)

function_seen : (ts : List Token) → sees (signature_stands InFile) ts ≡ true → ItemSeen ts
function_seen ts e =
    ⊎_elim (λ h. subst ItemSeen (sym h.1) (const_function h.0 h.2)) (λ h. plain_function ts h)
    (maybe_then (codes "const") async_fn ts e)

-- by the first word, and by two
first_seen_at : (w : List ℕ) (ts : List Token) → is_name w ≡ false → same_text (codes "let") w ≡ false
    → is_among item_words w ≡ true → sees (the_word w) ts ≡ true → ItemSeen ts
first_seen_at w ts n l e h =
    let (us, i) = word_front w ts h in subst ItemSeen (sym i) (by_first w us n l e)

unsafe_seen : (v : List ℕ) (ts : List Token) → sees (at "unsafe" then the_word v) ts ≡ true → ItemSeen ts
unfolding is_name is_path_keyword is_reserved
unsafe_seen v ts e =
    let (us, i, h) = word_then (codes "unsafe") (the_word v) ts e in
    let (vs, j) = word_front v us h in
    subst ItemSeen (sym (i ∙ ap (λ xs. Ident (codes "unsafe") ∷ xs) j))
    (by_word (codes "unsafe") (Ident v ∷ vs) refl refl refl)

soft_word : (w : List ℕ) (cs : List ℕ) (us : List Token) (l : Look) → is_name w ≡ true
    → sees (a_path then marks "!" then l) (Ident w ∷ Ident cs ∷ us) ≡ false
soft_word w cs us l e =
    ap (λ b. seen (behind (behind (cond b (Some (Ident cs ∷ us)) None) (repeatedly (marks "::" then a_name)))
    (marks "!" then l))) e

soft_seen : (w : List ℕ) (cs : List ℕ) (us : List Token) → is_name w ≡ true → same_text (codes "let") w ≡ false
    → sees item_stands (Ident w ∷ Ident cs ∷ us) ≡ true → ItemSeen (Ident w ∷ Ident cs ∷ us)
soft_seen w cs us n l e = (
  soft_word w cs us (an_ident or at "try") n,
  soft_word w cs us (a_group Brace then no (marks "?" or (no (marks "..") then marks "."))) n,
  ap (λ b. seen (cond b (Some (Ident cs ∷ us)) None)) l,
  e,
)

-- what was read is of that text
as_text : (w cs : List ℕ) (us : List Token) → same_text w cs ≡ true → ItemSeen (Ident w ∷ us)
    → ItemSeen (Ident cs ∷ us)
as_text w cs us e h = subst (λ v. ItemSeen (Ident v ∷ us)) ((bytes_eq-Decides w cs).0 e) h

a_word_seen : (b : Bool) (us : List Token) → b ≡ true → seen (cond b (Some us) None) ≡ true
a_word_seen b us e = ap (λ c. seen (cond c (Some us) None)) e

-- statics
static_seen : (us : List Token) → sees (at "mut" or an_ident) us ≡ true → ItemSeen (Ident (codes "static") ∷ us)
unfolding is_name is_path_keyword is_reserved
static_seen us e = by_word (codes "static") us refl refl (first_of _ _ e)

static_read : (y : Tree) (r : List Token) → Derives y (table AStatic) r → ItemSeen (flat y ++ r)
unfolding table
static_read (Pair (AWord w) (Pair (First (AWord m)) z)) r d =
    as_text (codes "static") w (Ident m ∷ flat z ++ r) d.0
    (static_seen (Ident m ∷ flat z ++ r)
    (first_of _ _ (a_word_seen (same_text (codes "mut") m) (flat z ++ r) d.1.0.1)))
static_read (Pair (AWord w) (Pair (First _) z)) r d = absurd d.1.0.1
static_read (Pair (AWord w) (Pair (Second Nil) (Pair (Called n (AWord cs)) z))) r d =
    as_text (codes "static") w (Ident cs ∷ flat z ++ r) d.0
    (static_seen (Ident cs ∷ flat z ++ r)
    (second_seen _ _ (a_word_seen (is_ident cs) (flat z ++ r) d.1.1.0.1)))
static_read (Pair (AWord w) (Pair (Second Nil) (Pair (Called n _) z))) r d = absurd d.1.1.0.1
static_read (Pair (AWord w) (Pair (Second Nil) (Pair _ z))) r d = absurd d.1.1.0
static_read (Pair (AWord w) (Pair (Second Nil) _)) r d = absurd d.1.1
static_read (Pair (AWord w) (Pair (Second _) z)) r d = absurd d.1.0.1
static_read (Pair (AWord w) (Pair _ z)) r d = absurd d.1.0
static_read (Pair (AWord w) _) r d = absurd d.1
static_read (Pair _ z) r d = absurd d.0
static_read _ r d = absurd d

-- constants
no_const : (cs : List ℕ) (us : List Token) → same_text (codes "static") cs ≡ false → same_text (codes "move") cs
    ≡ false → same_text (codes "async") cs ≡ false → Lacks not_const (Ident cs ∷ us)
no_const cs us e f g =
    none_of _ _ (a_word_lacked (same_text (codes "static") cs) us e)
    (none_of _ _ (a_word_lacked (same_text (codes "move") cs) us f)
    (none_then (at "async") (no function_words) (Ident cs ∷ us) (a_word_lacked (same_text (codes "async") cs) us g)))

const_read : (y : Tree) (r : List Token) → Derives y (table AConst) r → ItemSeen (flat y ++ r)
unfolding table is_reserved
const_read (Pair (AWord w) (Pair (Called n (First (AWord m))) z)) r d =
    as_text (codes "const") w (Ident m ∷ flat z ++ r) d.0
    (subst (λ v. ItemSeen (Ident (codes "const") ∷ Ident v ∷ flat z ++ r))
    ((bytes_eq-Decides (codes "_") m).0 d.1.0.1.1)
    (const_seen (Ident (codes "_") ∷ flat z ++ r) refl))
const_read (Pair (AWord w) (Pair (Called n (First _)) z)) r d = absurd d.1.0.1.1
const_read (Pair (AWord w) (Pair (Called n (Second (AWord cs))) z)) r d =
    as_text (codes "const") w (Ident cs ∷ flat z ++ r) d.0
    (const_seen (Ident cs ∷ flat z ++ r)
    (no_const cs (flat z ++ r) (ident_not (codes "static") cs refl d.1.0.1.1)
    (ident_not (codes "move") cs refl d.1.0.1.1) (ident_not (codes "async") cs refl d.1.0.1.1)))
const_read (Pair (AWord w) (Pair (Called n (Second _)) z)) r d = absurd d.1.0.1.1
const_read (Pair (AWord w) (Pair (Called n _) z)) r d = absurd d.1.0.1
const_read (Pair (AWord w) (Pair _ z)) r d = absurd d.1.0
const_read (Pair (AWord w) _) r d = absurd d.1
const_read (Pair _ z) r d = absurd d.0
const_read _ r d = absurd d

-- traits behind unsafe
unsafe_word : (w cs : List ℕ) (us : List Token) → same_text (codes "unsafe") w ≡ true
    → ItemSeen (Ident w ∷ Ident cs ∷ us)
unfolding is_name is_path_keyword is_reserved
unsafe_word w cs us e =
    as_text (codes "unsafe") w (Ident cs ∷ us) e (by_word (codes "unsafe") (Ident cs ∷ us) refl refl refl)

trait_read : (y : Tree) (r : List Token) → Derives y (table ATrait) r → sees (at "unsafe") (flat y ++ r) ≡ true
    → ItemSeen (flat y ++ r)
unfolding table
trait_read (First (Pair (First (Called n (AWord w))) (Pair (First (Called m (AWord cs))) z))) r d e =
    unsafe_word w cs (flat z ++ r) d.1.0.1.1
trait_read (First (Pair (First (Called n (AWord w))) (Pair (First (Called m _)) z))) r d e = absurd d.1.1.0.1.1
trait_read (First (Pair (First (Called n (AWord w))) (Pair (First _) z))) r d e = absurd d.1.1.0.1
trait_read (First (Pair (First (Called n (AWord w))) (Pair (Second Nil) (Pair (AWord cs) z)))) r d e =
    unsafe_word w cs (flat z ++ r) d.1.0.1.1
trait_read (First (Pair (First (Called n (AWord w))) (Pair (Second Nil) (Pair _ z)))) r d e = absurd d.1.1.1.0
trait_read (First (Pair (First (Called n (AWord w))) (Pair (Second Nil) _))) r d e = absurd d.1.1.1
trait_read (First (Pair (First (Called n (AWord w))) (Pair (Second _) z))) r d e = absurd d.1.1.0.1
trait_read (First (Pair (First (Called n (AWord w))) (Pair _ z))) r d e = absurd d.1.1.0
trait_read (First (Pair (First (Called n (AWord w))) _)) r d e = absurd d.1.1
trait_read (First (Pair (First (Called n _)) z)) r d e = absurd d.1.0.1.1
trait_read (First (Pair (First _) z)) r d e = absurd d.1.0.1
trait_read (First (Pair (Second Nil) z)) r d e = absurd (contrary (sees (at "unsafe") (flat z ++ r)) e d.1.0.0)
trait_read (First (Pair (Second _) z)) r d e = absurd d.1.0.1
trait_read (First (Pair _ z)) r d e = absurd d.1.0
trait_read (First _) r d e = absurd d.1
trait_read (Verbatim x) r d e = absurd (kept_raw (is_trait x) d.0)
trait_read _ r d e = absurd d

-- impls behind default
default_word : (w v cs : List ℕ) (us : List Token) → same_text (codes "default") w ≡ true → same_text v cs ≡ true
    → ItemSeen (Ident (codes "default") ∷ Ident v ∷ us) → ItemSeen (Ident w ∷ Ident cs ∷ us)
default_word w v cs us e f h =
    as_text (codes "default") w (Ident cs ∷ us) e
    (subst (λ x. ItemSeen (Ident (codes "default") ∷ Ident x ∷ us)) ((bytes_eq-Decides v cs).0 f) h)

default_unsafe : (us : List Token) → ItemSeen (Ident (codes "default") ∷ Ident (codes "unsafe") ∷ us)
unfolding is_name is_path_keyword is_reserved
default_unsafe us = soft_seen (codes "default") (codes "unsafe") us refl refl refl

default_impl : (us : List Token) → ItemSeen (Ident (codes "default") ∷ Ident (codes "impl") ∷ us)
unfolding is_name is_path_keyword is_reserved
default_impl us = soft_seen (codes "default") (codes "impl") us refl refl refl

behind_has : (n : Part) (x y : Tree) → has n y ≡ true → has n (Pair x y) ≡ true
behind_has n x y e = go (found n x) (found n y) e
  where
    go : (o p : Option Tree) → is_some p ≡ true → is_some (or_else o p) ≡ true
    go None p e = e
    go (Some z) p e = refl

const_impl : (x : Tree) (n : Part) (y u : Tree) → n ≡ the_const
    → has the_const (First (Pair x (Pair (First (Called n y)) u))) ≡ true
unfolding same_part
const_impl x n y u e =
    subst (λ m. has the_const (First (Pair x (Pair (First (Called m y)) u))) ≡ true) (sym e)
    (behind_has the_const x (Pair (First (Called the_const y)) u) refl)

default_there : (n : Part) (y u : Tree) → n ≡ the_default → has the_default (First (Pair (First (Called n y)) u)) ≡ true
unfolding same_part
default_there n y u e =
    subst (λ m. has the_default (First (Pair (First (Called m y)) u)) ≡ true) (sym e) refl

never_both : (a b : Bool) → a ≡ true → b ≡ true → not (a && b) ≡ true → ⊥
never_both true true e f h = cc h
never_both true false e f h = cc f
never_both false b e f h = cc e

impl_read : (y : Tree) (r : List Token) → Derives y (table AnImpl) r → is_begun (Node AnImpl y) ≡ true
    → sees (at "default") (flat y ++ r) ≡ true → ItemSeen (flat y ++ r)
unfolding table
impl_read (First (Pair (First (Called n (AWord w))) (Pair (First (Called m y)) z))) r d h e =
    let u : Tree = First (Pair (First (Called n (AWord w))) (Pair (First (Called m y)) z)) in
    absurd (never_both (has the_default u) (has the_const u)
    (default_there n (AWord w) (Pair (First (Called m y)) z) d.1.0.1.0)
    (const_impl (First (Called n (AWord w))) m y z d.1.1.0.1.0) h)
impl_read (First (Pair (First (Called n (AWord w))) (Pair (First _) z))) r d h e = absurd d.1.1.0.1
impl_read (First (Pair (First (Called n (AWord w))) (Pair (Second Nil) (Pair (First (Called m (AWord cs))) z)))) r d h e
    = default_word w (codes "unsafe") cs (flat z ++ r) d.1.0.1.1 d.1.1.1.0.1.1 (default_unsafe (flat z ++ r))
impl_read (First (Pair (First (Called n (AWord w))) (Pair (Second Nil) (Pair (First (Called m _)) z)))) r d h e =
    absurd d.1.1.1.0.1.1
impl_read (First (Pair (First (Called n (AWord w))) (Pair (Second Nil) (Pair (First _) z)))) r d h e =
    absurd d.1.1.1.0.1
impl_read (First (Pair (First (Called n (AWord w))) (Pair (Second Nil) (Pair (Second Nil) (Pair (AWord cs) z))))) r d
    h e = default_word w (codes "impl") cs (flat z ++ r) d.1.0.1.1 d.1.1.1.1.0 (default_impl (flat z ++ r))
impl_read (First (Pair (First (Called n (AWord w))) (Pair (Second Nil) (Pair (Second Nil) (Pair _ z))))) r d h e =
    absurd d.1.1.1.1.0
impl_read (First (Pair (First (Called n (AWord w))) (Pair (Second Nil) (Pair (Second Nil) _)))) r d h e =
    absurd d.1.1.1.1
impl_read (First (Pair (First (Called n (AWord w))) (Pair (Second Nil) (Pair (Second _) z)))) r d h e =
    absurd d.1.1.1.0.1
impl_read (First (Pair (First (Called n (AWord w))) (Pair (Second Nil) (Pair _ z)))) r d h e = absurd d.1.1.1.0
impl_read (First (Pair (First (Called n (AWord w))) (Pair (Second Nil) _))) r d h e = absurd d.1.1.1
impl_read (First (Pair (First (Called n (AWord w))) (Pair (Second _) z))) r d h e = absurd d.1.1.0.1
impl_read (First (Pair (First (Called n (AWord w))) (Pair _ z))) r d h e = absurd d.1.1.0
impl_read (First (Pair (First (Called n (AWord w))) _)) r d h e = absurd d.1.1
impl_read (First (Pair (First (Called n _)) z)) r d h e = absurd d.1.0.1.1
impl_read (First (Pair (First _) z)) r d h e = absurd d.1.0.1
impl_read (First (Pair (Second Nil) z)) r d h e = absurd (contrary (sees (at "default") (flat z ++ r)) e d.1.0.0)
impl_read (First (Pair (Second _) z)) r d h e = absurd d.1.0.1
impl_read (First (Pair _ z)) r d h e = absurd d.1.0
impl_read (First _) r d h e = absurd d.1
impl_read (Verbatim x) r d h e = absurd (kept_raw (is_impl x) d.0)
impl_read _ r d h e = absurd d

impl_seen : (y : Tree) (r : List Token) → Derives y (table AnImpl) r → is_begun (Node AnImpl y) ≡ true
    → sees (at "impl" or (at "default" then no (marks "!"))) (flat y ++ r) ≡ true → ItemSeen (flat y ++ r)
unfolding is_name is_path_keyword is_reserved
impl_seen y r d h e =
    ⊎_elim (λ f. first_seen_at (codes "impl") (flat y ++ r) refl refl refl f)
    (λ f. impl_read y r d h (front_seen ((at "default") (flat y ++ r)) (no (marks "!")) f))
    (either_seen ((at "impl") (flat y ++ r)) ((at "default" then no (marks "!")) (flat y ++ r)) e)

-- unions, and traits behind auto
ident_front : (ts : List Token) → sees an_ident ts ≡ true
    → (cs : List ℕ) × (us : List Token) × (ts ≡ Ident cs ∷ us)
ident_front (Ident cs ∷ us) e = (cs, us, refl)
ident_front _ e = cc e

union_seen : (ts : List Token) → sees (at "union" then an_ident) ts ≡ true → ItemSeen ts
unfolding is_name is_path_keyword is_reserved
union_seen ts e =
    let (us, i, h) = word_then (codes "union") an_ident ts e in
    let (cs, vs, j) = ident_front us h in
    subst ItemSeen (sym (i ∙ ap (λ xs. Ident (codes "union") ∷ xs) j))
    (soft_seen (codes "union") cs vs refl refl (first_of _ _ (ap (λ xs. sees an_ident xs) (sym j) ∙ h)))

auto_seen : (ts : List Token) → sees (at "auto" then at "trait") ts ≡ true → ItemSeen ts
unfolding is_name is_path_keyword is_reserved
auto_seen ts e =
    let (us, i, h) = word_then (codes "auto") (at "trait") ts e in
    let (vs, j) = word_front (codes "trait") us h in
    subst ItemSeen (sym (i ∙ ap (λ xs. Ident (codes "auto") ∷ xs) j))
    (soft_seen (codes "auto") (codes "trait") vs refl refl refl)

trait_seen : (ts : List Token) → sees (at "trait" or (at "auto" then at "trait")) ts ≡ true → ItemSeen ts
unfolding is_name is_path_keyword is_reserved
trait_seen ts e =
    ⊎_elim (λ f. first_seen_at (codes "trait") ts refl refl refl f) (λ f. auto_seen ts f)
    (either_seen ((at "trait") ts) ((at "auto" then at "trait") ts) e)

-- impls behind const
const_unsafe : (ts : List Token) → sees (maybe (at "unsafe") then at "impl") ts ≡ true → Lacks not_const ts
const_unsafe ts e =
    ⊎_elim (λ h. subst (Lacks not_const) (sym h.1) refl)
    (λ h. let (us, i) = word_front (codes "impl") ts h in subst (Lacks not_const) (sym i) refl)
    (maybe_then (codes "unsafe") (at "impl") ts e)

impl_const_seen : (ts : List Token) → sees (at "const" then maybe (at "unsafe") then at "impl") ts ≡ true
    → ItemSeen ts
impl_const_seen ts e =
    let (us, i, h) = word_then (codes "const") (maybe (at "unsafe") then at "impl") ts e in
    subst ItemSeen (sym i) (const_seen us (const_unsafe us h))

-- traits behind const
const_trait : (ts : List Token) → sees trait_stands ts ≡ true → Lacks not_const ts
const_trait ts e =
    ⊎_elim (λ h. subst (Lacks not_const) (sym h.1) refl) (λ h. ⊎_elim (λ i. subst (Lacks not_const) (sym i.1) refl)
    (λ i. let (us, j) = word_front (codes "trait") ts i in subst (Lacks not_const) (sym j) refl)
    (maybe_then (codes "auto") (at "trait") ts h))
    (maybe_then (codes "unsafe") (maybe (at "auto") then at "trait") ts e)

trait_const_seen : (ts : List Token) → sees (at "const" then trait_stands) ts ≡ true → ItemSeen ts
trait_const_seen ts e =
    let (us, i, h) = word_then (codes "const") trait_stands ts e in
    subst ItemSeen (sym i) (const_seen us (const_trait us h))

-- a macro by the word crate alone
crate_front : (cs : List ℕ) (i : Spacing) (d : Delimiter) (us : List Token) → same_text (codes "crate") cs ≡ true
    → (d ≡ Parenthesis) ⊎ (d ≡ Bracket) → ItemSeen (Ident cs ∷ Punct 33 i ∷ Opens d ∷ us)
unfolding is_name is_path_keyword is_reserved
crate_front cs i d us e f =
    subst (λ w. ItemSeen (Ident w ∷ Punct 33 i ∷ Opens d ∷ us)) ((bytes_eq-Decides (codes "crate") cs).0 e)
    (⊎_elim (λ g. subst (λ b. ItemSeen (Ident (codes "crate") ∷ Punct 33 i ∷ Opens b ∷ us)) (sym g) (round i))
    (λ g. subst (λ b. ItemSeen (Ident (codes "crate") ∷ Punct 33 i ∷ Opens b ∷ us)) (sym g) (square i)) f)
  where
    round : (i : Spacing) → ItemSeen (Ident (codes "crate") ∷ Punct 33 i ∷ Opens Parenthesis ∷ us)
    round Apart = (refl, refl, refl, refl)
    round Joint = (refl, refl, refl, refl)

    square : (i : Spacing) → ItemSeen (Ident (codes "crate") ∷ Punct 33 i ∷ Opens Bracket ∷ us)
    square Apart = (refl, refl, refl, refl)
    square Joint = (refl, refl, refl, refl)

-- its tokens
abbrev macro_tokens : Gram
macro_tokens = when brace read in_braces raw else
    (when parenthesis read in_parentheses raw else in_brackets raw) ▸ sign ";"

IsCall : List Token → Type 0
IsCall ts =
    (cs : List ℕ) × (i : Spacing) × (d : Delimiter) × (us : List Token) × (same_text (codes "crate") cs ≡ true)
    × ((d ≡ Parenthesis) ⊎ (d ≡ Bracket)) × (ts ≡ Ident cs ∷ Punct 33 i ∷ Opens d ∷ us)

bang_is : (cs : List ℕ) (c : ℕ) (ds : List ℕ) (i : Spacing) (ts : List Token) → c ≡ 33 → ds ≡ []
    → Ident cs ∷ (signs c ds i ++ ts) ≡ Ident cs ∷ Punct 33 i ∷ ts
bang_is cs c ds i ts e f =
    ap (λ b. Ident cs ∷ (signs b ds i ++ ts)) e ∙ ap (λ bs. Ident cs ∷ (signs 33 bs i ++ ts)) f

delimited_called : (cs : List ℕ) (c : ℕ) (ds : List ℕ) (i : Spacing) (g : Tree) (r : List Token)
    → same_text (codes "crate") cs ≡ true → c ≡ 33 → ds ≡ [] → Derives g macro_tokens r → is_there g ≡ false
    → IsCall ((Ident cs ∷ (signs c ds i ++ flat g)) ++ r)
unfolding IsCall
delimited_called cs c ds i (Second (Pair (First (Group d x)) t)) r k e f h n =
    (cs, i, d, _, k, inl h.1.0.1.0, ap (λ ts. ts ++ r) (bang_is cs c ds i _ e f))
delimited_called cs c ds i (Second (Pair (First _) t)) r k e f h n = absurd h.1.0.1
delimited_called cs c ds i (Second (Pair (Second (Group d x)) t)) r k e f h n =
    (cs, i, d, _, k, inr h.1.0.1.0, ap (λ ts. ts ++ r) (bang_is cs c ds i _ e f))
delimited_called cs c ds i (Second (Pair (Second _) t)) r k e f h n = absurd h.1.0.1
delimited_called cs c ds i (Second (Pair _ t)) r k e f h n = absurd h.1.0
delimited_called cs c ds i (Second _) r k e f h n = absurd h.1
delimited_called cs c ds i (First x) r k e f h n = cc n
delimited_called cs c ds i _ r k e f h n = absurd h

-- its path
OneWord : Tree → Type 0
OneWord q = (cs : List ℕ) × (same_text (codes "crate") cs ≡ true) × (flat q ≡ Ident cs ∷ [])

names_crate : (z : Tree) (r : List Token) → Derives z (table (Segments InModule)) r
    → is_crate_path (Node (Path InModule) (Pair (Second Nil) (Node (Segments InModule) z))) ≡ true → OneWord z
unfolding table OneWord
names_crate (First (Pair (AWord cs) (Second Nil))) r d e = (cs, e, refl)
names_crate (First (Pair (AWord cs) (Second _))) r d e = absurd d.1.1.1
names_crate _ r d e = cc e

path_crate : (p : Tree) (r : List Token) → Derives p (table (Path InModule)) r
    → is_crate_path (Node (Path InModule) p) ≡ true → OneWord p
unfolding table OneWord
path_crate (Pair (Second Nil) (Node l z)) r d e =
    names_crate z r (subst (λ j. Derives z (table j) r) d.1.0 d.1.1)
    (subst (λ j. is_crate_path (Node (Path InModule) (Pair (Second Nil) (Node j z))) ≡ true) d.1.0 e)
path_crate (Pair (Second Nil) _) r d e = absurd d.1
path_crate (Pair (Second _) z) r d e = absurd d.0.1
path_crate _ r d e = cc e

whole_crate : (q : Tree) (r : List Token) → Derives q (ref (Path InModule)) r → is_crate_path q ≡ true → OneWord q
unfolding OneWord
whole_crate (Node k p) r d e =
    path_crate p r (subst (λ j. Derives p (table j) r) d.0 d.1)
    (subst (λ j. is_crate_path (Node j p) ≡ true) d.0 e)
whole_crate _ r d e = absurd d

macro_seen : (y : Tree) (r : List Token) → Derives y (table (ItemMacro InFile)) r → is_crate_macro y ≡ true
    → ItemSeen (flat y ++ r)
unfolding table OneWord IsCall
macro_seen (Pair q (Pair (AMark c ds i) (Pair (Second Nil) g))) r d e =
    let h = both_true (is_crate_path q) (not (is_there g)) e in
    let (cs, k, f) = whole_crate q _ d.0 h.0 in
    let (ws, j, b, us, l, m, n) =
    delimited_called cs c ds i g r k d.1.0.0 d.1.0.1 d.1.1.1 (is_false (is_there g) h.1) in
    subst ItemSeen (sym (ap (λ ts. (ts ++ (signs c ds i ++ flat g)) ++ r) f ∙ n)) (crate_front ws j b us l m)
macro_seen (Pair q (Pair (AMark c ds i) (Pair (First n) g))) r d e =
    let h = both_true (is_crate_path q) (false && not (is_there g)) e in cc h.1
macro_seen (Pair q (Pair (AMark c ds i) (Pair (Second _) g))) r d e = absurd d.1.1.0.1
macro_seen (Pair q (Pair (AMark c ds i) (Pair _ g))) r d e = absurd d.1.1.0
macro_seen (Pair q (Pair (AMark c ds i) _)) r d e = absurd d.1.1
macro_seen (Pair q (Pair _ n)) r d e = absurd d.1.0
macro_seen (Pair q _) r d e = absurd d.1
macro_seen _ r d e = absurd d

-- the alternatives of an item
abbrev SeenLaw : Gram → Type 0
SeenLaw g = (x : Tree) (r : List Token) → Derives x g r → is_begun (choice x) ≡ true
    → is_no_call (choice x) ≡ true → ItemSeen (flat x ++ r)

seen_alt : (l : Look) (k : Kind) (g : Gram)
    → ((y : Tree) (r : List Token) → Derives y (table k) r → is_begun (Node k y) ≡ true
    → is_no_call (Node k y) ≡ true → sees l (flat y ++ r) ≡ true → ItemSeen (flat y ++ r))
    → SeenLaw g → SeenLaw (alt (sees l) (ref k) g)
seen_alt l k g one more (First (Node j y)) r d h m =
    one y r (subst (λ i. Derives y (table i) r) d.1.0 d.1.1) (subst (λ i. is_begun (Node i y) ≡ true) d.1.0 h)
    (subst (λ i. is_no_call (Node i y) ≡ true) d.1.0 m) d.0
seen_alt l k g one more (First _) r d h m = absurd d.1
seen_alt l k g one more (Second y) r d h m = more y r d.1 h m
seen_alt l k g one more _ r d h m = absurd d

seen_never : SeenLaw never
seen_never Nil r d h m = absurd d
seen_never _ r d h m = absurd d

pub item_seen : SeenLaw item_form
unfolding is_name is_path_keyword is_reserved
item_seen =
    seen_alt _ _ _ (λ y r d h m e. function_seen (flat y ++ r) e)
    (seen_alt _ _ _ (λ y r d h m e. first_seen_at (codes "extern") (flat y ++ r) refl refl refl
    (front_seen ((at "extern") (flat y ++ r)) (at "crate") e))
    (seen_alt _ _ _ (λ y r d h m e. first_seen_at (codes "extern") (flat y ++ r) refl refl refl e)
    (seen_alt _ _ _ (λ y r d h m e. first_seen_at (codes "use") (flat y ++ r) refl refl refl e)
    (seen_alt _ _ _ (λ y r d h m e. static_read y r d)
    (seen_alt _ _ _ (λ y r d h m e. trait_const_seen (flat y ++ r) e)
    (seen_alt _ _ _ (λ y r d h m e. impl_const_seen (flat y ++ r) e)
    (seen_alt _ _ _ (λ y r d h m e. const_read y r d)
    (seen_alt _ _ _ (λ y r d h m e. unsafe_seen (codes "extern") (flat y ++ r) e)
    (seen_alt _ _ _ (λ y r d h m e. unsafe_seen (codes "mod") (flat y ++ r) e)
    (seen_alt _ _ _ (λ y r d h m e. unsafe_seen (codes "impl") (flat y ++ r) e)
    (seen_alt _ _ _ (λ y r d h m e. trait_read y r d e)
    (seen_alt _ _ _ (λ y r d h m e. first_seen_at (codes "mod") (flat y ++ r) refl refl refl e)
    (seen_alt _ _ _ (λ y r d h m e. first_seen_at (codes "type") (flat y ++ r) refl refl refl e)
    (seen_alt _ _ _ (λ y r d h m e. first_seen_at (codes "struct") (flat y ++ r) refl refl refl e)
    (seen_alt _ _ _ (λ y r d h m e. first_seen_at (codes "enum") (flat y ++ r) refl refl refl e)
    (seen_alt _ _ _ (λ y r d h m e. union_seen (flat y ++ r) e)
    (seen_alt _ _ _ (λ y r d h m e. first_seen_at (codes "impl") (flat y ++ r) refl refl refl
    (front_seen ((at "impl") (flat y ++ r)) _ e))
    (seen_alt _ _ _ (λ y r d h m e. trait_seen (flat y ++ r) e)
    (seen_alt _ _ _ (λ y r d h m e. impl_seen y r d h e)
    (seen_alt _ _ _ (λ y r d h m e. first_seen_at (codes "macro") (flat y ++ r) refl refl refl e)
    (seen_alt _ _ _ (λ y r d h m e. macro_seen y r d m)
    seen_never)))))))))))))))))))))

-- behind a visibility
pub visible_seen : (v z : Tree) (s : List Token) → Derives v (ref Visibility) (flat z ++ s) → ItemSeen (flat z ++ s)
    → ItemSeen (flat v ++ (flat z ++ s))
unfolding table is_name is_path_keyword is_reserved
visible_seen (Node k v) z s d h = go v (subst (λ j. Derives v (table j) (flat z ++ s)) d.0 d.1)
  where
    go : (v : Tree) → Derives v (table Visibility) (flat z ++ s) → ItemSeen (flat v ++ (flat z ++ s))
    go (First (Pair (Called n (AWord cs)) y)) d =
        as_text (codes "pub") cs (flat y ++ (flat z ++ s)) d.1.0.1
        (by_first (codes "pub") (flat y ++ (flat z ++ s)) refl refl refl)
    go (First (Pair (Called n _) y)) d = absurd d.1.0.1
    go (First (Pair _ y)) d = absurd d.1.0
    go (First _) d = absurd d.1
    go (Second Nil) d = h
    go (Second _) d = absurd d.1
    go _ d = absurd d
visible_seen _ z s d h = absurd d
