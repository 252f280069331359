-- The step and the law of items in extern blocks: a static's safety stands before it too.
use Rattle.std.proofs.Common.{◌≡◌, List, [], ◌∷◌, ◌++◌, refl, sym, ap, ◌∙◌, subst, append_assoc, inl}
use Rattle.std.proofs.Common.{inr}
use Rattle.std.proofs.lemmas.Slice.Eq.{bytes_eq-Decides}
use Rattle.std.specs.Prelude.{Bool, true, false, ◌||◌, not, cond, codes, Option, Some, None, ℕ}
use Prim.Native.String.{String}
use Rattle.proc_macro2.specs.Token.{Token, Ident, Literal}
use Rattle.proc_macro2.specs.declared.delimiter.Delimiter.TheVariants.{Bracket}
use Rattle.syn_grammar.specs.Kind.{Kind, AForeignItem, AFunction, AStatic, ATypeAlias, Abi, InForeign, ItemMacro}
use Rattle.syn_grammar.specs.Kind.{OuterAttributes, Plain, Position, Signature, Visibility}
use Rattle.syn_grammar.specs.Name.{Part, same_part, the_body, the_bounds, the_item, the_safety, the_type, the_value}
use Rattle.syn_grammar.specs.Name.{the_visibility}
use Rattle.syn_grammar.specs.Words.{is_string}
use Rattle.rust_leaf.specs.Keywords.{is_among, same_text, is_reserved}
use Rattle.syn_grammar.specs.Tree.{Tree, ALiteral, AWord, Called, First, Nil, Node, Pair, Second, Verbatim, flat}
use Rattle.syn_grammar.specs.Part.{changed, choice, found, has, or_else, or_nil, the}
use Rattle.syn_grammar.specs.Gram.{Gram, Keep, alt, judged, literal, ref}
use Rattle.syn_grammar.specs.Look.{Look, a_quoted, behind as past, first_seen, maybe, seen, sees, ◌or◌, ◌then◌}
use Rattle.syn_grammar.specs.Say.{at, keyword, one_word, optional, refused, when◌read◌else◌, ◌∶◌, ◌▸◌}
use Rattle.syn_grammar.specs.Items.{maybe_safety, safety, signature_stands, type_end}
use Rattle.syn_grammar.specs.Lists.{macro_stands}
use Rattle.syn_grammar.specs.Verdicts.{form_in, has_bounds, is_bounded, is_defined, is_public, item_verdict, raw_if}
use Rattle.syn_grammar.specs.Verdicts.{refused_if}
use Rattle.syn_grammar.specs.Ranks.{skips}
use Rattle.syn_grammar.specs.Table.{table}
use Rattle.syn_grammar.specs.Derives.{Derives}
use Rattle.syn_grammar.specs.Tidy.{moved}
use Rattle.syn_grammar.specs.Kept.{held, kept}
use Rattle.syn_grammar.specs.Normal.{passed, place_of, normal_in}
use Rattle.laws_reread_kinds.proofs.MacroItems.{a_word_lacked, front_is, macro_classes, macro_front, macro_seen}
use Rattle.laws_reread_kinds.proofs.MacroItems.{place_lacks, plain_same, with_listed}
use Rattle.laws_reread_kinds.proofs.ForeignMacros.{foreign_lacks, foreign_looks}
use Rattle.laws_reread_kinds.proofs.Keywords.{reserved_pub}
use Rattle.laws_reread_kinds.proofs.Sights.{ident_not}
use Rattle.laws_reread_kinds.specs.Covered.{has_step, inner, item_of}
use Rattle.laws_reread_kinds.proofs.MacroPaths.{is_plain_macro}
use Rattle.laws_reread_kinds.proofs.ReadMacros.{other_read, own_read}
use Rattle.laws_reread_kinds.specs.Sees.{Lacks, LacksAll}
use Rattle.laws_items.proofs.Stays.{item_stays}
use Rattle.laws_reread_kinds.proofs.RawItems.{raw_front}
use Rattle.laws_reread_kinds.proofs.Classes.{Class, IsAmong, Opening, TheWord, Then, among_left, among_right, of_all}
use Rattle.laws_reread_kinds.proofs.Classes.{the_words}
use Rattle.laws_reread_kinds.proofs.Starts.{starts}
use Rattle.laws_reread_kinds.proofs.Fits.{Fits, IsMeant}
use Rattle.laws_reread_kinds.proofs.Readies.{Ready, Step}
use Rattle.laws_reread_kinds.proofs.Fine.{At, Edge, Fine, fine_raw_or, fine_weaker}
use Rattle.laws_reread_kinds.proofs.Parts.{Found, found_called, found_optional, found_ref, found_words, maybe_ahead}
use Rattle.laws_reread_kinds.proofs.Parts.{maybe_called, maybe_ref, maybe_seq, meant_step, none_never, told_at}
use Rattle.laws_reread_kinds.proofs.Printed.{KindLaw, simple_law}
use Rattle.laws_reread_kinds.proofs.ItemVerdicts.{LawOf, alias_tree, bounded_fits, bounded_moved, bounded_normal}
use Rattle.laws_reread_kinds.proofs.ItemVerdicts.{bounded_read, form_same, has_moved, same_has}
use Rattle.laws_reread_kinds.proofs.Elements.{has_fits, has_read}
use Rattle.laws_reread_kinds.proofs.Verdicts.{has_normal}
use Rattle.laws_reread_kinds.proofs.Members.{SameMember, the_visibility_is}
use Rattle.laws_reread_kinds.proofs.WholeItems.{public_same, taken_law}

abbrev pub safety_words : List (List ℕ)
safety_words = codes "unsafe" ∷ codes "safe" ∷ []

abbrev safe_static : Gram
safe_static = safety InForeign ▸ the_item ∶ ref AStatic

abbrev pub foreign_form : Gram
foreign_form =
    when signature_stands InForeign read the_item ∶ ref (AFunction InForeign)
    else when maybe_safety InForeign then at "static" read safe_static
    else when at "type" read the_item ∶ ref (ATypeAlias InForeign)
    else when macro_stands read the_item ∶ ref (ItemMacro InForeign)
    else refused

-- what may stand in front of a signature is passed where it stands
not_seen : (o : Option (List Token)) (m : Look) (ts : List Token) → seen o ≡ false
    → past (first_seen o (Some ts)) m ≡ m ts
not_seen None m ts e = refl
not_seen (Some us) m ts e = cc e

pass : (l m : Look) (g : Gram) (x : Tree) (ts : List Token) → Derives x (optional l g) ts
    → ((y : Tree) → Derives y g ts → l (flat y ++ ts) ≡ Some ts)
    → sees (maybe l then m) (flat x ++ ts) ≡ sees m ts
pass l m g (First y) ts d h = ap (λ o. seen (past (first_seen o (Some (flat y ++ ts))) m)) (h y d.1)
pass l m g (Second Nil) ts d h = ap seen (not_seen (l ts) m ts d.0)
pass l m g (Second _) ts d h = absurd d.1
pass l m g _ ts d h = absurd d

pass_word : (w : String) (y : Tree) (ts : List Token) → Derives y (keyword w) ts → at w (flat y ++ ts) ≡ Some ts
pass_word w (AWord cs) ts d = ap (λ b. cond b (Some ts) None) d
pass_word w _ ts d = absurd d

pass_safety : (y : Tree) (ts : List Token) → Derives y (the_safety ∶ one_word safety_words) ts
    → (at "unsafe" or at "safe") (flat y ++ ts) ≡ Some ts
pass_safety (Called n (AWord cs)) ts d =
    go (same_text (codes "unsafe") cs) (same_text (codes "safe") cs) d.1
  where
    go : (a b : Bool) → (a || (b || false)) ≡ true
        → first_seen (cond a (Some ts) None) (cond b (Some ts) None) ≡ Some ts
    go true b e = refl
    go false true e = refl
    go false false e = cc e
pass_safety (Called n _) ts d = absurd d.1
pass_safety _ ts d = absurd d

pass_quoted : (y : Tree) (ts : List Token) → Derives y (optional (a_quoted is_string) (literal is_string)) ts
    → maybe (a_quoted is_string) (flat y ++ ts) ≡ Some ts
pass_quoted (First (ALiteral cs)) ts d =
    ap (λ b. first_seen (cond b (Some ts) None) (Some (Literal cs ∷ ts))) d.1
pass_quoted (First _) ts d = absurd d.1
pass_quoted (Second Nil) ts d = go (a_quoted is_string ts) d.0
  where
    go : (o : Option (List Token)) → seen o ≡ false → first_seen o (Some ts) ≡ Some ts
    go None e = refl
    go (Some us) e = cc e
pass_quoted (Second _) ts d = absurd d.1
pass_quoted _ ts d = absurd d

pass_abi : (y : Tree) (ts : List Token) → Derives y (table Abi) ts
    → (at "extern" then maybe (a_quoted is_string)) (flat y ++ ts) ≡ Some ts
unfolding table
pass_abi (Pair (AWord cs) q) ts d =
    ap (λ b. past (cond b (Some (flat q ++ ts)) None) (maybe (a_quoted is_string))) d.0 ∙ pass_quoted q ts d.1
pass_abi (Pair _ q) ts d = absurd d.0
pass_abi _ ts d = absurd d

pass_extern : (y : Tree) (ts : List Token) → Derives y (ref Abi) ts
    → (at "extern" then maybe (a_quoted is_string)) (flat y ++ ts) ≡ Some ts
pass_extern (Node k y) ts d = pass_abi y ts (subst (λ j. Derives y (table j) ts) d.0 d.1)
pass_extern _ ts d = absurd d

pass_extern_word : (c : Tree) (ts : List Token) (m : Look) → Derives c (optional (at "extern") (ref Abi)) ts
    → sees (maybe (at "extern" then maybe (a_quoted is_string)) then m) (flat c ++ ts) ≡ sees m ts
pass_extern_word (First y) ts m d = ap (λ o. seen (past (first_seen o (Some (flat y ++ ts))) m)) (pass_extern y ts d.1)
pass_extern_word (Second Nil) ts m d = go (at "extern" ts) d.0
  where
    go : (o : Option (List Token)) → seen o ≡ false
        → seen (past (first_seen (past o (maybe (a_quoted is_string))) (Some ts)) m) ≡ sees m ts
    go None e = refl
    go (Some us) e = cc e
pass_extern_word (Second _) ts m d = absurd d.1
pass_extern_word _ ts m d = absurd d

abbrev past_safety : Look
past_safety = maybe (at "extern" then maybe (a_quoted is_string)) then at "fn"

abbrev past_async : Look
past_async = maybe (at "unsafe" or at "safe") then past_safety

abbrev past_const : Look
past_const = maybe (at "async") then past_async

signed : (x : Tree) (ts : List Token) → Derives x (table (Signature InForeign)) ts
    → sees (signature_stands InForeign) (flat x ++ ts) ≡ true
unfolding table
signed (Pair c (Pair a (Pair s (Pair e (Pair (AWord cs) z))))) ts d =
    ap (sees (signature_stands InForeign)) (append_assoc (flat c) (flat (Pair a (Pair s (Pair e
    (Pair (AWord cs) z))))) ts)
    ∙ pass (at "const") past_const _ c _ d.0 (λ y h. pass_word "const" y _ h)
    ∙ ap (sees past_const) (append_assoc (flat a) (flat (Pair s (Pair e (Pair (AWord cs) z)))) ts)
    ∙ pass (at "async") past_async _ a _ d.1.0 (λ y h. pass_word "async" y _ h)
    ∙ ap (sees past_async) (append_assoc (flat s) (flat (Pair e (Pair (AWord cs) z))) ts)
    ∙ pass (at "unsafe" or at "safe") past_safety _ s _ d.1.1.0 (λ y h. pass_safety y _ h)
    ∙ ap (sees past_safety) (append_assoc (flat e) (flat (Pair (AWord cs) z)) ts)
    ∙ pass_extern_word e _ (at "fn") d.1.1.1.0
    ∙ ap (λ b. seen (cond b (Some (flat z ++ ts)) None)) d.1.1.1.1.0
signed (Pair c (Pair a (Pair s (Pair e (Pair _ z))))) ts d = absurd d.1.1.1.1.0
signed (Pair c (Pair a (Pair s (Pair e _)))) ts d = absurd d.1.1.1.1
signed (Pair c (Pair a (Pair s _))) ts d = absurd d.1.1.1
signed (Pair c (Pair a _)) ts d = absurd d.1.1
signed (Pair c _) ts d = absurd d.1
signed _ ts d = absurd d

function_in : (x : Tree) (r : List Token) → Derives x (table (AFunction InForeign)) r
    → sees (signature_stands InForeign) (flat x ++ r) ≡ true
unfolding table
function_in (Pair (Node k s) y) r d =
    ap (sees (signature_stands InForeign)) (append_assoc (flat s) (flat y) r)
    ∙ signed s (flat y ++ r) (subst (λ j. Derives s (table j) (flat y ++ r)) d.0.0 d.0.1)
function_in (Pair _ y) r d = absurd d.0
function_in _ r d = absurd d

function_seen : (x : Tree) (r : List Token) → Derives x (the_item ∶ ref (AFunction InForeign)) r
    → sees (signature_stands InForeign) (flat x ++ r) ≡ true
function_seen (Called n (Node k x)) r d = function_in x r (subst (λ j. Derives x (table j) r) d.1.0 d.1.1)
function_seen (Called n _) r d = absurd d.1
function_seen _ r d = absurd d

abbrev static_class : List Class
static_class = TheWord (codes "static") ∷ []

safe_unsigned : (cs : List ℕ) (us : List Token) → is_among safety_words cs ≡ true → IsAmong static_class us
    → Lacks (signature_stands InForeign) (Ident cs ∷ us)
safe_unsigned cs us e i =
    of_all (λ ts. Lacks (signature_stands InForeign) (Ident cs ∷ ts)) static_class us
    ((λ vs. go vs (same_text (codes "unsafe") cs) (same_text (codes "safe") cs) refl refl e), tt) i
  where
    go : (vs : List Token) (a b : Bool) → same_text (codes "unsafe") cs ≡ a → same_text (codes "safe") cs ≡ b
        → (a || (b || false)) ≡ true → Lacks (signature_stands InForeign) (Ident cs ∷ Ident (codes "static") ∷ vs)
    go vs true b f g h =
        subst (λ ds. Lacks (signature_stands InForeign) (Ident ds ∷ Ident (codes "static") ∷ vs))
        ((bytes_eq-Decides (codes "unsafe") cs).0 f) refl
    go vs false true f g h =
        subst (λ ds. Lacks (signature_stands InForeign) (Ident ds ∷ Ident (codes "static") ∷ vs))
        ((bytes_eq-Decides (codes "safe") cs).0 g) refl
    go vs false false f g h = cc h

static_unsigned : (x z : Tree) (r : List Token) → Derives x (safety InForeign) (flat z ++ r)
    → IsAmong static_class (flat z ++ r) → Lacks (signature_stands InForeign) (flat x ++ (flat z ++ r))
static_unsigned (First (Called n (AWord cs))) z r d i = safe_unsigned cs (flat z ++ r) d.1.1 i
static_unsigned (First (Called n _)) z r d i = absurd d.1.1
static_unsigned (First _) z r d i = absurd d.1
static_unsigned (Second Nil) z r d i =
    told_at (signature_stands InForeign) false static_class (flat z ++ r) (λ us. refl, tt) i
static_unsigned (Second _) z r d i = absurd d.1
static_unsigned _ z r d i = absurd d

abbrev type_class : List Class
type_class = TheWord (codes "type") ∷ []

abbrev function_class : List Class
function_class =
    TheWord (codes "const") ∷ TheWord (codes "async") ∷ TheWord (codes "unsafe") ∷ TheWord (codes "safe")
    ∷ TheWord (codes "extern") ∷ TheWord (codes "fn") ∷ []

abbrev safe_class : List Class
safe_class = the_words safety_words ++ static_class

abbrev form_class : List Class
form_class = function_class ++ (safe_class ++ (type_class ++ macro_classes InForeign))

found_static : Found safe_static [] safe_class
unfolding skips
found_static =
    maybe_seq (found_optional (at "unsafe" or at "safe") (found_called (found_words safety_words)) (search))
    (found_called (found_ref AStatic refl)) ((λ us. refl, tt), tt)

abbrev FormEdge : Edge
FormEdge x s = is_plain_macro (choice (item_of x)) ≡ true

macro_begins : (x : Tree) (s : List Token) → Fits x (the_item ∶ ref (ItemMacro InForeign)) → Ready x → FormEdge x s
    → Derives x (the_item ∶ ref (ItemMacro InForeign)) s × IsAmong (macro_classes InForeign) (flat x ++ s)
    × LacksAll foreign_looks (flat x ++ s)
unfolding table skips
macro_begins (Called n (Node k y)) s f w e =
    let (d, i) = (found_called {n = the_item} (found_ref (ItemMacro InForeign) refl)).fine.by (Called n (Node k y)) s
    f w tt in
    let g : Derives y (table (ItemMacro InForeign)) s = subst (λ j. Derives y (table j) s) d.1.0 d.1.1 in
    let j = macro_front InForeign y s g i (subst (λ l. is_plain_macro (Node l y) ≡ true) f.1.0 e) in
    (d, j, foreign_lacks (flat y ++ s) j)
macro_begins (Called n _) s f w e = absurd f.1
macro_begins _ s f w e = absurd f

fine_form : Fine foreign_form FormEdge (At form_class)
unfolding skips
fine_form = record { by = go }
  where
    go : (x : Tree) (s : List Token) → Fits x foreign_form → Ready x → FormEdge x s
        → Derives x foreign_form s × At form_class x s
    go (First x) s f w e =
        let (d, i) = (found_called {n = the_item} (found_ref (AFunction InForeign) refl)).fine.by x s f.1 w tt in (
          (function_seen x s d, d),
          among_left function_class (safe_class ++ (type_class ++ macro_classes InForeign)) (flat x ++ s) i,
        )
    go (Second (First (Pair x z))) s f w e =
        let (d, i) = found_static.fine.by (Pair x z) s f.1.1 w tt in
        let j = ((found_called {n = the_item} (found_ref AStatic refl)).fine.by z s f.1.1.1 w.1 tt).1 in (
          (
            ap (sees (signature_stands InForeign)) (append_assoc (flat x) (flat z) s)
                ∙ static_unsigned x z s d.0 j,
            (
              ap (sees (maybe_safety InForeign then at "static")) (append_assoc (flat x) (flat z) s)
                  ∙ pass (at "unsafe" or at "safe") (at "static") _ x _ d.0 (λ y h. pass_safety y _ h)
                  ∙ told_at (at "static") true static_class (flat z ++ s) (λ us. refl, tt) j,
              d,
            ),
          ),
          among_right function_class (safe_class ++ (type_class ++ macro_classes InForeign)) (flat (Pair x z) ++ s)
              (among_left safe_class (type_class ++ macro_classes InForeign) (flat (Pair x z) ++ s) i),
        )
    go (Second (First _)) s f w e = absurd f.1.1
    go (Second (Second (First x))) s f w e =
        let (d, i) = (found_called {n = the_item} (found_ref (ATypeAlias InForeign) refl)).fine.by x s f.1.1.1 w tt in (
          (
            told_at (signature_stands InForeign) false type_class (flat x ++ s) (λ us. refl, tt) i,
            (
              told_at (maybe_safety InForeign then at "static") false type_class (flat x ++ s) (λ us. refl, tt) i,
              (told_at (at "type") true type_class (flat x ++ s) (λ us. refl, tt) i, d),
            ),
          ),
          among_right function_class (safe_class ++ (type_class ++ macro_classes InForeign)) (flat x ++ s)
              (among_right safe_class (type_class ++ macro_classes InForeign) (flat x ++ s)
              (among_left type_class (macro_classes InForeign) (flat x ++ s) i)),
        )
    go (Second (Second (Second (First x)))) s f w e =
        let m = macro_begins x s f.1.1.1.1 w e in
        let l = place_lacks InForeign (flat x ++ s) m.1 in (
          (m.2.0, (m.2.1.0, (l.1.1.0, (macro_seen InForeign (flat x ++ s) m.1, m.0)))),
          among_right function_class (safe_class ++ (type_class ++ macro_classes InForeign)) (flat x ++ s)
              (among_right safe_class (type_class ++ macro_classes InForeign) (flat x ++ s)
              (among_right type_class (macro_classes InForeign) (flat x ++ s) m.1)),
        )
    go (Second (Second (Second (Second x)))) s f w e = absurd (none_never x f.1.1.1.1)
    go (Second (Second (Second _))) s f w e = absurd f.1.1.1
    go (Second (Second _)) s f w e = absurd f.1.1
    go (Second _) s f w e = absurd f.1
    go _ s f w e = absurd f

abbrev pub whole_foreign : Gram
whole_foreign = ref OuterAttributes ▸ the_visibility ∶ ref Visibility ▸ foreign_form

-- in front, but of a macro
abbrev front_classes : List Class
front_classes =
    Then 35 [] (Opening Bracket) ∷ TheWord (codes "pub") ∷ (function_class ++ (safe_class ++ type_class))

fine_foreign : Fine whole_foreign FormEdge (At (front_classes ++ macro_classes InForeign))
unfolding skips
fine_foreign =
    maybe_ahead FormEdge (TheWord (codes "pub") ∷ form_class) (maybe_ref OuterAttributes refl)
    (maybe_ahead FormEdge form_class (maybe_called (maybe_ref Visibility refl)) fine_form (
      (
        (λ us. refl),
        (
          (λ us. refl),
          (
            (λ us. refl),
            (
              (λ us. refl),
              (
                (λ us. refl),
                (
                  (λ us. refl),
                  (
                    (λ us. refl),
                    (
                      (λ us. refl),
                      (
                        (λ us. refl),
                        (
                          (λ us. refl),
                          (
                            (λ cs us h. a_word_lacked (same_text (codes "pub") cs) us
                                (ident_not (codes "pub") cs reserved_pub (front_is InForeign cs us h).0)),
                            ((λ us. refl), ((λ us. refl), ((λ us. refl), ((λ us. refl), tt)))),
                          ),
                        ),
                      ),
                    ),
                  ),
                ),
              ),
            ),
          ),
        ),
      ),
      ((search), tt),
    )
    (λ x y s c. c)) ((search), tt) (λ x y s c. c)

pub step_a_foreign_item : Step AForeignItem
unfolding table skips is_reserved
step_a_foreign_item =
    meant_step AForeignItem refl refl
    (fine_weaker (λ x s. LacksAll [] s × IsMeant AForeignItem x) (At (starts AForeignItem))
    (fine_raw_or {A = FormEdge} {F = At (starts AForeignItem)}
    (fine_weaker FormEdge (At (starts AForeignItem)) fine_foreign (λ x s c. c)
    (λ x s i c. inr (with_listed InForeign front_classes (flat x ++ s) i)))
    (λ x s d. inl (raw_front (item_verdict InForeign) foreign_form (search) x s d))) (λ x s c. c.1) (λ x s i c. i))

-- what is kept of each form
pub foreign_function : LawOf (SameMember InForeign) (AFunction InForeign)
unfolding held passed
foreign_function q y v r d f e = (
  λ b h. ap raw_if (same_has the_body Plain (table (AFunction InForeign)) y v r d f (ap inner e)) ∙ h,
  refl,
)

pub foreign_static : LawOf (SameMember InForeign) AStatic
unfolding held passed
foreign_static q y v r d f e = (
  λ b h. ap (λ c. refused_if (not c) (raw_if (has the_value v)))
      (same_has the_type Plain (table AStatic) y v r d f (ap inner e))
      ∙ ap (λ c. refused_if (not (has the_type y)) (raw_if c))
      (same_has the_value Plain (table AStatic) y v r d f (ap inner e)) ∙ h,
  refl,
)

neither : (a b : Bool) → raw_if (a || b) ≡ Keep → (a ≡ false) × (b ≡ false)
neither false false e = (refl, refl)
neither true b e = cc e
neither false true e = cc e

raw_neither : (a b : Bool) → a ≡ false → b ≡ false → raw_if (a || b) ≡ Keep
raw_neither false false e f = refl
raw_neither true b e f = cc e
raw_neither false true e f = cc f

abbrev typed : Tree → Bool
typed x = has the_type x

alias_keeps : (y v : Tree) (r : List Token) → Derives y (table (ATypeAlias InForeign)) r
    → Fits v (table (ATypeAlias InForeign)) → kept v ≡ changed the_value moved (normal_in Plain (kept y))
    → raw_if (has_bounds y || is_defined y) ≡ Keep → raw_if (has_bounds v || is_defined v) ≡ Keep
unfolding table same_part
alias_keeps y v r d f e h =
    let i = neither (is_bounded (the the_bounds y)) (has the_type (the the_value y)) h in
    raw_neither (is_bounded (the the_bounds v)) (has the_type (the the_value v))
    (alias_tree is_bounded the_bounds Plain (table (ATypeAlias InForeign)) y v r
    (tt, (tt, (tt, (bounded_read, (tt, tt))))) (tt, (tt, (tt, (bounded_fits, (tt, tt))))) bounded_normal
    bounded_moved d f e i.0)
    (alias_tree typed the_value Plain (table (ATypeAlias InForeign)) y v r
    (tt, (tt, (tt, (tt, ((λ x r d e. has_read the_type x (type_end InForeign) r d ∙ e), tt)))))
    (tt, (tt, (tt, (tt, ((λ w f e. sym (has_fits the_type w (type_end InForeign) f) ∙ e), tt)))))
    (λ q x e. has_normal the_type q x ∙ e) (λ x e. has_moved the_type x ∙ e) d f e i.1)

pub foreign_alias : LawOf (SameMember InForeign) (ATypeAlias InForeign)
unfolding held passed
foreign_alias q y v r d f e = (λ b h. alias_keeps y v r d f (ap inner e) h, refl)

foreign_macro : LawOf (SameMember InForeign) (ItemMacro InForeign)
unfolding held passed table
foreign_macro q y v r d f e = ((λ b h. h), plain_same InForeign y v r d f (ap inner e))

-- the part that is the form
safety_none : (x : Tree) (ts : List Token) → Derives x (safety InForeign) ts → found the_item x ≡ None
unfolding same_part
safety_none (First (Called n y)) ts d = ap (λ j. found the_item (First (Called j y))) d.1.0
safety_none (First _) ts d = absurd d.1
safety_none (Second Nil) ts d = refl
safety_none (Second _) ts d = absurd d.1
safety_none _ ts d = absurd d

safety_fits : (x : Tree) → Fits x (safety InForeign) → found the_item x ≡ None
unfolding same_part
safety_fits (First (Called n y)) d = ap (λ j. found the_item (First (Called j y))) d.1.0
safety_fits (First _) d = absurd d.1
safety_fits (Second Nil) d = refl
safety_fits (Second _) d = absurd d.1
safety_fits _ d = absurd d

called_item : (n : Part) (y : Tree) → n ≡ the_item → found the_item (Called n y) ≡ Some y
unfolding same_part
called_item n y e = ap (λ j. found the_item (Called j y)) e

behind_safety : (x : Tree) (n : Part) (y : Tree) → found the_item x ≡ None → n ≡ the_item
    → found the_item (Pair x (Called n y)) ≡ Some y
behind_safety x n y e f = ap (λ o. or_else o (found the_item (Called n y))) e ∙ called_item n y f

abbrev FormLaw : Tree → Tree → Type 0
FormLaw x w =
    (found the_item x ≡ Some (item_of x)) × (found the_item w ≡ Some (item_of w))
    × SameMember InForeign (choice (item_of x)) (choice (item_of w))

inside : Tree → Tree
inside (First x) = x
inside (Second x) = x
inside (Pair x y) = y
inside (Called n x) = x
inside x = x

abbrev FormsLaw : Gram → Type 0
FormsLaw g =
    (q : Position) (x w : Tree) (r : List Token) → Derives x g r → Fits w g → kept w ≡ normal_in q (kept x)
    → FormLaw x w

alt_law : (t : List Token → Bool) (a b : Gram) → FormsLaw a → FormsLaw b → FormsLaw (alt t a b)
unfolding inside
alt_law t a b one other q (First x) (First w) r d f e = one q x w r d.1 f.1 (ap inside e)
alt_law t a b one other q (First x) (Second w) r d f e = cc e
alt_law t a b one other q (First x) _ r d f e = absurd f
alt_law t a b one other q (Second x) (First w) r d f e = cc e
alt_law t a b one other q (Second x) (Second w) r d f e = other q x w r d.1 f.1 (ap inside e)
alt_law t a b one other q (Second x) _ r d f e = absurd f
alt_law t a b one other q _ w r d f e = absurd d

called_law : (k : Kind) → LawOf (SameMember InForeign) k → FormsLaw (the_item ∶ ref k)
unfolding inside
called_law k law q (Called n y) (Called m z) r d f e = (
  called_item n y d.0,
  called_item m z f.0,
  form_same (SameMember InForeign) (ref k) law (place_of n) y z r d.1 f.1 (ap inside e),
)
called_law k law q (Called n y) _ r d f e = absurd f
called_law k law q _ w r d f e = absurd d

static_law : FormsLaw safe_static
unfolding inside
static_law q (Pair x (Called n y)) (Pair w (Called m z)) r d f e = (
  behind_safety x n y (safety_none x (flat y ++ r) d.0) d.1.0,
  behind_safety w m z (safety_fits w f.0) f.1.0,
  form_same (SameMember InForeign) (ref AStatic) foreign_static (place_of n) y z r d.1.1 f.1.1
      (ap (λ t. inside (inside t)) e),
)
static_law q (Pair x (Called n y)) (Pair w _) r d f e = absurd f.1
static_law q (Pair x (Called n y)) _ r d f e = absurd f
static_law q (Pair x _) w r d f e = absurd d.1
static_law q _ w r d f e = absurd d

form_law : FormsLaw foreign_form
form_law =
    alt_law _ _ _ (called_law (AFunction InForeign) foreign_function) (alt_law _ _ _ static_law (alt_law _ _ _
    (called_law (ATypeAlias InForeign) foreign_alias) (alt_law _ _ _ (called_law (ItemMacro InForeign) foreign_macro)
    (λ q x w r d f e. absurd (none_never w f)))))

the_form_is : (k : Kind) (o : Tree) (n : Part) (v z : Tree) → n ≡ the_visibility
    → the the_item (Pair (Node k o) (Pair (Called n v) z)) ≡ or_nil (found the_item z)
unfolding same_part
the_form_is k o n v z e = ap (λ j. the the_item (Pair (Node k o) (Pair (Called j v) z))) e

its_visibility : Tree → Tree
its_visibility (Pair o (Pair (Called n v) z)) = v
its_visibility x = x

its_form : Tree → Tree
its_form (Pair o (Pair v z)) = z
its_form x = x

abbrev ForeignLaw : Tree → Tree → Type 0
ForeignLaw x w =
    (item_verdict InForeign x ≡ Keep → item_verdict InForeign w ≡ Keep)
    × (is_plain_macro (choice (item_of w)) ≡ is_plain_macro (choice (item_of x)))

foreign_law : (x w : Tree) (r : List Token) → Derives x whole_foreign r → Fits w whole_foreign
    → kept w ≡ normal_in Plain (kept x) → ForeignLaw x w
unfolding its_visibility its_form
foreign_law (Pair (Node k o) (Pair (Called n v) y)) (Pair (Node l a) (Pair (Called i u) z)) r d f e =
    let s = form_law Plain y z r d.1.1 f.1.1 (ap its_form e) in
    let x : Tree = Pair (Node k o) (Pair (Called n v) y) in
    let w : Tree = Pair (Node l a) (Pair (Called i u) z) in
    let g : is_public (the the_visibility w) ≡ is_public (the the_visibility x) =
    ap is_public (the_visibility_is l a i u z f.1.0.0)
    ∙ public_same (place_of n) v u (flat y ++ r) d.1.0.1 f.1.0.1 (ap its_visibility e)
    ∙ sym (ap is_public (the_visibility_is k o n v y d.1.0.0)) in (
      λ h. ap (λ t. form_in InForeign t (choice (the the_item w))) g
          ∙ ap (λ t. form_in InForeign (is_public (the the_visibility x)) (choice t))
          (the_form_is l a i u z f.1.0.0 ∙ ap or_nil s.1)
          ∙ s.2.0 (is_public (the the_visibility x))
          (sym (ap (λ t. form_in InForeign (is_public (the the_visibility x)) (choice t))
          (the_form_is k o n v y d.1.0.0 ∙ ap or_nil s.0)) ∙ h),
      s.2.1,
    )
foreign_law (Pair (Node k o) (Pair (Called n v) y)) (Pair (Node l a) (Pair _ z)) r d f e = absurd f.1.0
foreign_law (Pair (Node k o) (Pair (Called n v) y)) (Pair (Node l a) _) r d f e = absurd f.1
foreign_law (Pair (Node k o) (Pair (Called n v) y)) (Pair _ z) r d f e = absurd f.0
foreign_law (Pair (Node k o) (Pair (Called n v) y)) _ r d f e = absurd f
foreign_law (Pair (Node k o) (Pair _ y)) w r d f e = absurd d.1.0
foreign_law (Pair (Node k o) _) w r d f e = absurd d.1
foreign_law (Pair _ y) w r d f e = absurd d.0
foreign_law _ w r d f e = absurd d

chosen : Tree → Tree
chosen (First x) = x
chosen x = x

-- what was read is a macro as they begin there
form_plain : (x : Tree) (r : List Token) → Derives x foreign_form r → is_plain_macro (choice (item_of x)) ≡ true
form_plain (First (Called n y)) r d = other_read (AFunction InForeign) (λ z. refl) y r d.1.1
form_plain (First _) r d = absurd d.1
form_plain (Second (First (Pair x (Called n y)))) r d = other_read AStatic (λ z. refl) y r d.1.1.1.1
form_plain (Second (First (Pair x _))) r d = absurd d.1.1.1
form_plain (Second (First _)) r d = absurd d.1.1
form_plain (Second (Second (First (Called n y)))) r d = other_read (ATypeAlias InForeign) (λ z. refl) y r d.1.1.1.1
form_plain (Second (Second (First _))) r d = absurd d.1.1.1
form_plain (Second (Second (Second (First (Called n (Node k y)))))) r d =
    own_read InForeign (Node k y) r d.1.1.1.1.1 d.1.1.1.0 refl
form_plain (Second (Second (Second (First (Called n _))))) r d = absurd d.1.1.1.1.1
form_plain (Second (Second (Second (First _)))) r d = absurd d.1.1.1.1
form_plain (Second (Second (Second (Second Nil)))) r d = absurd d.1.1.1.1
form_plain (Second (Second (Second (Second _)))) r d = absurd d.1.1.1.1
form_plain (Second (Second (Second _))) r d = absurd d.1.1.1
form_plain (Second (Second _)) r d = absurd d.1.1
form_plain (Second _) r d = absurd d.1
form_plain _ r d = absurd d

whole_plain : (x : Tree) (r : List Token) → Derives x whole_foreign r → is_plain_macro (choice (item_of x)) ≡ true
whole_plain (Pair o (Pair v y)) r d = form_plain y r d.1.1
whole_plain (Pair o _) r d = absurd d.1
whole_plain _ r d = absurd d

foreign_meant : (x w : Tree) (r : List Token) → Derives x (judged (item_verdict InForeign) whole_foreign) r
    → Fits w (judged (item_verdict InForeign) whole_foreign) → kept w ≡ normal_in Plain (kept x)
    → is_plain_macro (choice (item_of w)) ≡ true
unfolding chosen
foreign_meant (First x) (First w) r d f e = (foreign_law x w r d.1 f.1 (ap chosen e)).1 ∙ whole_plain x r d.1
foreign_meant (First x) (Verbatim w) r d f e = refl
foreign_meant (First x) _ r d f e = absurd f
foreign_meant (Verbatim x) (First w) r d f e = cc e
foreign_meant (Verbatim x) (Verbatim w) r d f e = refl
foreign_meant (Verbatim x) _ r d f e = absurd f
foreign_meant _ w r d f e = absurd d

pub law_a_foreign_item : KindLaw AForeignItem
unfolding has_step held passed place_of table
law_a_foreign_item =
    taken_law AForeignItem refl (λ x w r d f e o. foreign_meant x w r d f e) (λ x. refl) (λ x. refl) (λ q. refl)
    (λ q. refl) (
      (λ x w r c d f e h. (foreign_law x w r d f e).0 h),
      (λ x r d s. (item_stays AForeignItem (Node AForeignItem (Verbatim x)) r s refl (refl, d)).1),
      simple_law Plain whole_foreign refl,
    )
