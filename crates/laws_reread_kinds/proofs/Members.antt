-- The steps and the laws of items in traits and impls: default may stand before their form too.
use Rattle.std.proofs.Common.{◌≡◌, List, [], ◌∷◌, ◌++◌, refl, sym, ap, ◌∙◌, subst, suc, inl, inr}
use Rattle.std.specs.Prelude.{Bool, true, false, ◌||◌, not, cond, codes, Option, Some, None, ℕ}
use Rattle.std.proofs.lemmas.Bool.{false≢true}
use Rattle.proc_macro2.specs.Token.{Token}
use Rattle.syn_grammar.specs.Kind.{Kind, AConst, AFunction, ATraitItem, ATypeAlias, AnImplItem, Body, InFile, InImpl}
use Rattle.syn_grammar.specs.Kind.{InTrait, ItemMacro, OuterAttributes, Place, Plain, Signature, Visibility}
use Rattle.syn_grammar.specs.Name.{Part, same_part, the_body, the_default, the_generics, the_item, the_visibility}
use Rattle.syn_grammar.specs.Name.{the_where}
use Rattle.syn_grammar.specs.Tree.{Tree, AWord, Called, First, Nil, Node, Pair, Second, Verbatim, flat}
use Rattle.syn_grammar.specs.Part.{choice, found, has, is_some, or_else, or_nil, the}
use Rattle.syn_grammar.specs.Gram.{Gram, Keep, judged, ref}
use Rattle.syn_grammar.specs.Look.{Look, behind as past, no, seen, sees, ◌then◌}
use Rattle.syn_grammar.specs.Say.{at, brace, keyword, marks, optional, refused, sign, when◌read◌else◌, ◌∶◌, ◌▸◌}
use Rattle.syn_grammar.specs.Items.{signature, signature_stands}
use Rattle.syn_grammar.specs.Lists.{default_there, item_form, macro_stands}
use Rattle.syn_grammar.specs.Verdicts.{form_in, is_generic, is_public, is_where, item_verdict, marked, raw_if}
use Rattle.syn_grammar.specs.Ranks.{skips}
use Rattle.syn_grammar.specs.Table.{table}
use Rattle.syn_grammar.specs.Derives.{Derives}
use Rattle.syn_grammar.specs.Kept.{held, kept}
use Rattle.syn_grammar.specs.Normal.{passed, place_of, normal_in}
use Rattle.laws_items.proofs.Places.{place_const, place_function}
use Rattle.laws_items.proofs.Readers.{flat_choice}
use Rattle.laws_reread_kinds.specs.Covered.{has_step, inner, is_no_macro, item_of}
use Rattle.laws_reread_kinds.proofs.MacroPaths.{is_plain_macro}
use Rattle.laws_reread_kinds.proofs.ReadMacros.{default_look, other_read, own_read}
use Rattle.laws_reread_kinds.proofs.Keywords.{reserved_pub}
use Rattle.laws_reread_kinds.proofs.MacroItems.{a_word_lacked, default_lacked, front_is, macro_classes}
use Rattle.laws_reread_kinds.proofs.MacroItems.{macro_front, macro_seen, no_default, place_lacks, plain_same}
use Rattle.laws_reread_kinds.proofs.MacroItems.{with_listed}
use Rattle.laws_reread_kinds.proofs.Sights.{ident_not}
use Rattle.rust_leaf.specs.Keywords.{same_text, is_reserved}
use Rattle.proc_macro2.specs.declared.delimiter.Delimiter.TheVariants.{Bracket}
use Rattle.laws_reread_kinds.specs.Sees.{Lacks, LacksAll}
use Rattle.laws_items.proofs.Stays.{item_stays}
use Rattle.laws_reread_kinds.proofs.RawItems.{raw_front}
use Rattle.laws_reread_kinds.proofs.Classes.{Class, IsAmong, Opening, TheWord, Then, among_left, among_right}
use Rattle.laws_reread_kinds.proofs.Starts.{starts}
use Rattle.laws_reread_kinds.proofs.Fits.{Fits, IsMeant, own_place, place}
use Rattle.laws_reread_kinds.proofs.Readies.{Ready, Step}
use Rattle.laws_reread_kinds.proofs.Fine.{At, AtOrNone, Edge, Fine, fine_called, fine_raw_or, fine_weaker}
use Rattle.laws_reread_kinds.proofs.Parts.{Found, Maybe, Told, found_called, found_optional, found_ref, found_text}
use Rattle.laws_reread_kinds.proofs.Parts.{maybe_ahead, maybe_called, maybe_ref, meant_step, none_never, told_at}
use Rattle.laws_reread_kinds.proofs.Printed.{KindLaw, simple_law}
use Rattle.laws_reread_kinds.proofs.CalledParts.{lacks_part}
use Rattle.laws_reread_kinds.proofs.ItemPlaces.{has_none, placed_own}
use Rattle.laws_reread_kinds.proofs.ItemVerdicts.{EachOf, LawOf, alias_stays, constant_parts, constant_stays, form_same}
use Rattle.laws_reread_kinds.proofs.ItemVerdicts.{none_raw, raw_none, same_has}
use Rattle.laws_reread_kinds.proofs.WholeItems.{public_same, taken_law}

-- a function, a constant, a type or a macro
abbrev pub member_form : Place → Gram
member_form p =
    when signature_stands p read ref (AFunction p)
    else when at "const" read ref AConst
    else when at "type" read ref (ATypeAlias p)
    else when macro_stands read ref (ItemMacro p)
    else refused

-- What its words in front are: a signature's, or const and a name.
first_seen_at : (z : Tree) (r : List Token) → Derives z item_form r → place z ≡ 0
    → sees (signature_stands InFile) (flat z ++ r) ≡ true
first_seen_at (First a) r d e = d.0
first_seen_at (Second a) r d e = cc e
first_seen_at _ r d e = absurd d

first_unseen_at : (z : Tree) (r : List Token) (n : ℕ) → Derives z item_form r → place z ≡ suc n
    → sees (signature_stands InFile) (flat z ++ r) ≡ false
first_unseen_at (First a) r n d e = cc e
first_unseen_at (Second a) r n d e = d.0
first_unseen_at _ r n d e = absurd d

signed_in : (s y : Tree) (r : List Token) → Derives s (signature InFile) (flat y ++ r)
    → Derives y (when brace read the_body ∶ ref Body else sign ";") r
    → sees (signature_stands InFile) ((flat s ++ flat y) ++ r) ≡ true
unfolding table
signed_in s y r d e =
    let x : Tree = Pair (Node (Signature InFile) s) y in
    let p = place_function x r ((refl, d), e) in
    subst (λ us. sees (signature_stands InFile) (us ++ r) ≡ true) (sym (flat_choice p.0) ∙ ap flat p.1)
    (first_seen_at p.0 r p.2 (placed_own p.0 r p.2 ∙ ap own_place p.1))

const_in : (x : Tree) (r : List Token) → Derives x (table AConst) r → Lacks (signature_stands InFile) (flat x ++ r)
const_in x r d =
    let p = place_const x r d in
    subst (λ us. sees (signature_stands InFile) (us ++ r) ≡ false) (sym (flat_choice p.0) ∙ ap flat p.1)
    (first_unseen_at p.0 r 6 p.2 (placed_own p.0 r p.2 ∙ ap own_place p.1))

const_unsigned : (x : Tree) (r : List Token) → Derives x (ref AConst) r → Lacks (signature_stands InFile) (flat x ++ r)
const_unsigned (Node k x) r d = const_in x r (subst (λ j. Derives x (table j) r) d.0 d.1)
const_unsigned _ r d = absurd d

signed_trait : (x : Tree) (r : List Token) → Derives x (table (AFunction InTrait)) r
    → sees (signature_stands InTrait) (flat x ++ r) ≡ true
unfolding table
signed_trait (Pair (Node k s) y) r d =
    signed_in s y r (subst (λ j. Derives s (table j) (flat y ++ r)) d.0.0 d.0.1) d.1
signed_trait (Pair _ y) r d = absurd d.0
signed_trait _ r d = absurd d

signed_impl : (x : Tree) (r : List Token) → Derives x (table (AFunction InImpl)) r
    → sees (signature_stands InImpl) (flat x ++ r) ≡ true
unfolding table
signed_impl (Pair (Node k s) y) r d =
    signed_in s y r (subst (λ j. Derives s (table j) (flat y ++ r)) d.0.0 d.0.1) d.1
signed_impl (Pair _ y) r d = absurd d.0
signed_impl _ r d = absurd d

abbrev FormEdge : Edge
FormEdge x s = is_plain_macro (choice x) ≡ true

abbrev const_class : List Class
const_class = TheWord (codes "const") ∷ []

abbrev type_class : List Class
type_class = TheWord (codes "type") ∷ []

-- What is asked of a place: what functions and types begin with, and that functions are seen.
module _ (p : Place) (cs : List Class) (functions : Found (ref (AFunction p)) [] cs)
    (types : Found (ref (ATypeAlias p)) [] type_class)
    (signed : (x : Tree) (r : List Token) → Derives x (table (AFunction p)) r
    → sees (signature_stands p) (flat x ++ r) ≡ true)
    (unsigned : (x : Tree) (r : List Token) → Derives x (ref AConst) r → Lacks (signature_stands p) (flat x ++ r))
    (no_type : Told (signature_stands p) false type_class)
    (macros : Found (ref (ItemMacro p)) [] (starts (ItemMacro InFile)))
    (no_signature : (ts : List Token) → IsAmong (macro_classes p) ts → Lacks (signature_stands p) ts) where
  function_seen : (x : Tree) (r : List Token) → Derives x (ref (AFunction p)) r
      → sees (signature_stands p) (flat x ++ r) ≡ true
  function_seen (Node k x) r d = signed x r (subst (λ j. Derives x (table j) r) d.0 d.1)
  function_seen _ r d = absurd d

  macro_begins : (x : Tree) (s : List Token) → Fits x (ref (ItemMacro p)) → Ready x → is_plain_macro (choice x) ≡ true
      → Derives x (ref (ItemMacro p)) s × IsAmong (macro_classes p) (flat x ++ s)
  unfolding table skips
  macro_begins (Node k y) s f w e =
      let (d, i) = macros.fine.by (Node k y) s f w tt in (
        d,
        macro_front p y s (subst (λ j. Derives y (table j) s) d.0 d.1) i
            (subst (λ j. is_plain_macro (Node j y) ≡ true) f.0 e),
      )
  macro_begins _ s f w e = absurd f

  fine_member : Fine (member_form p) FormEdge (At (cs ++ (const_class ++ (type_class ++ macro_classes p))))
  unfolding skips
  fine_member = record { by = go }
    where
      go : (x : Tree) (s : List Token) → Fits x (member_form p) → Ready x → FormEdge x s
          → Derives x (member_form p) s × At (cs ++ (const_class ++ (type_class ++ macro_classes p))) x s
      go (First x) s f w e =
          let (d, i) = functions.fine.by x s f.1 w tt in
          ((function_seen x s d, d), among_left cs (const_class ++ (type_class ++ macro_classes p)) (flat x ++ s) i)
      go (Second (First x)) s f w e =
          let (d, i) = (found_ref AConst refl).fine.by x s f.1.1 w tt in (
            (unsigned x s d, (told_at (at "const") true const_class (flat x ++ s) (λ us. refl, tt) i, d)),
            among_right cs (const_class ++ (type_class ++ macro_classes p)) (flat x ++ s)
                (among_left const_class (type_class ++ macro_classes p) (flat x ++ s) i),
          )
      go (Second (Second (First x))) s f w e =
          let (d, i) = types.fine.by x s f.1.1.1 w tt in (
            (
              told_at (signature_stands p) false type_class (flat x ++ s) no_type i,
              (
                told_at (at "const") false type_class (flat x ++ s) (λ us. refl, tt) i,
                (told_at (at "type") true type_class (flat x ++ s) (λ us. refl, tt) i, d),
              ),
            ),
            among_right cs (const_class ++ (type_class ++ macro_classes p)) (flat x ++ s)
                (among_right const_class (type_class ++ macro_classes p) (flat x ++ s)
                (among_left type_class (macro_classes p) (flat x ++ s) i)),
          )
      go (Second (Second (Second (First x)))) s f w e =
          let (d, i) = macro_begins x s f.1.1.1.1 w e in
          let l = place_lacks p (flat x ++ s) i in (
            (
              no_signature (flat x ++ s) i,
              (
                l.1.0,
                (l.1.1.0, (macro_seen p (flat x ++ s) i, d)),
              ),
            ),
            among_right cs (const_class ++ (type_class ++ macro_classes p)) (flat x ++ s)
                (among_right const_class (type_class ++ macro_classes p) (flat x ++ s)
                (among_right type_class (macro_classes p) (flat x ++ s) i)),
          )
      go (Second (Second (Second (Second x)))) s f w e = absurd (none_never x f.1.1.1.1)
      go (Second (Second (Second _))) s f w e = absurd f.1.1.1
      go (Second (Second _)) s f w e = absurd f.1.1
      go (Second _) s f w e = absurd f.1
      go _ s f w e = absurd f

-- attributes, visibility, default and the form
abbrev pub whole_member : Place → Gram
whole_member p =
    ref OuterAttributes ▸ the_visibility ∶ ref Visibility ▸ default_there p ▸ the_item ∶ member_form p

abbrev MemberEdge : Edge
MemberEdge x s = is_plain_macro (choice (item_of x)) ≡ true

abbrev function_class : List Class
function_class =
    TheWord (codes "const") ∷ TheWord (codes "async") ∷ TheWord (codes "unsafe") ∷ TheWord (codes "extern")
    ∷ TheWord (codes "fn") ∷ []

abbrev form_class : Place → List Class
form_class p = function_class ++ (const_class ++ (type_class ++ macro_classes p))

abbrev pub default_class : List Class
default_class = TheWord (codes "default") ∷ []

-- in front, but of a macro
abbrev front_classes : List Class
front_classes =
    Then 35 [] (Opening Bracket) ∷ TheWord (codes "pub")
    ∷ (default_class ++ (function_class ++ (const_class ++ type_class)))

-- in an impl no ! follows it
default_seen : (x : Tree) (s : List Token) → Fits x (the_default ∶ keyword "default") → Lacks (marks "!") s
    → sees (at "default" then no (marks "!")) (flat x ++ s) ≡ true
default_seen (Called n (AWord cs)) s f e =
    subst (λ b. seen (past (cond b (Some s) None) (no (marks "!"))) ≡ true) (sym f.1)
    (ap (λ b. seen (cond b None (Some s))) e)
default_seen (Called n _) s f e = absurd f.1
default_seen _ s f e = absurd f

pub maybe_default : Maybe (default_there InImpl) ((at "default" then no (marks "!")) ∷ marks "!" ∷ []) default_class
maybe_default = record { fine = record { by = go } }
  where
    go : (x : Tree) (s : List Token) → Fits x (default_there InImpl) → Ready x
        → LacksAll ((at "default" then no (marks "!")) ∷ marks "!" ∷ []) s
        → Derives x (default_there InImpl) s × AtOrNone default_class x s
    go (First x) s f w a =
        let (d, i) = (found_called {n = the_default} (found_text "default")).fine.by x s f.1 w tt in
        ((default_seen x s f.1 a.1.0, d), inr i)
    go (Second Nil) s f w a = ((a.0, tt), inl refl)
    go (Second _) s f w a = absurd f.1
    go _ s f w a = absurd f

fine_trait_item : Fine (whole_member InTrait) MemberEdge (At (front_classes ++ macro_classes InTrait))
unfolding skips
fine_trait_item =
    maybe_ahead MemberEdge (TheWord (codes "pub") ∷ default_class ++ form_class InTrait)
    (maybe_ref OuterAttributes refl)
    (maybe_ahead MemberEdge (default_class ++ form_class InTrait) (maybe_called (maybe_ref Visibility refl))
    (maybe_ahead MemberEdge (form_class InTrait)
    (found_optional (at "default") (found_called (found_text "default")) (λ us. refl, tt))
    (fine_called {A = MemberEdge} {F = At (form_class InTrait)}
    (fine_member InTrait function_class (found_ref (AFunction InTrait) refl) (found_ref (ATypeAlias InTrait) refl)
    signed_trait const_unsigned (λ us. refl, tt) (found_ref (ItemMacro InTrait) refl)
    (λ ts i. (place_lacks InTrait ts i).0))) (
      (
        (λ us. refl),
        (
          (λ us. refl),
          (
            (λ us. refl),
            (
              (λ us. refl),
              (
                (λ us. refl),
                (
                  (λ us. refl),
                  (
                    (λ us. refl),
                    (
                      (λ cs us h. no_default cs us h),
                      ((λ us. refl), ((λ us. refl), ((λ us. refl), ((λ us. refl), tt)))),
                    ),
                  ),
                ),
              ),
            ),
          ),
        ),
      ),
      tt,
    )
    (λ x y s c. c)) (
      (
        (λ us. refl),
        (
          (λ us. refl),
          (
            (λ us. refl),
            (
              (λ us. refl),
              (
                (λ us. refl),
                (
                  (λ us. refl),
                  (
                    (λ us. refl),
                    (
                      (λ us. refl),
                      (
                        (λ cs us h. a_word_lacked (same_text (codes "pub") cs) us
                            (ident_not (codes "pub") cs reserved_pub (front_is InTrait cs us h).0)),
                        ((λ us. refl), ((λ us. refl), ((λ us. refl), ((λ us. refl), tt)))),
                      ),
                    ),
                  ),
                ),
              ),
            ),
          ),
        ),
      ),
      ((search), tt),
    )
    (λ x y s c. c)) ((search), tt) (λ x y s c. c)

fine_impl_item : Fine (whole_member InImpl) MemberEdge (At (front_classes ++ macro_classes InImpl))
unfolding skips
fine_impl_item =
    maybe_ahead MemberEdge (TheWord (codes "pub") ∷ default_class ++ form_class InImpl) (maybe_ref OuterAttributes refl)
    (maybe_ahead MemberEdge (default_class ++ form_class InImpl) (maybe_called (maybe_ref Visibility refl))
    (maybe_ahead MemberEdge (form_class InImpl) maybe_default
    (fine_called {A = MemberEdge} {F = At (form_class InImpl)}
    (fine_member InImpl function_class (found_ref (AFunction InImpl) refl) (found_ref (ATypeAlias InImpl) refl)
    signed_impl const_unsigned (λ us. refl, tt) (found_ref (ItemMacro InImpl) refl)
    (λ ts i. (place_lacks InImpl ts i).0))) (
      (
        (λ us. refl),
        (
          (λ us. refl),
          (
            (λ us. refl),
            (
              (λ us. refl),
              (
                (λ us. refl),
                (
                  (λ us. refl),
                  (
                    (λ us. refl),
                    (
                      (λ cs us h. default_lacked InImpl (λ b e. e) cs us (front_is InImpl cs us h).2),
                      ((λ us. refl), ((λ us. refl), ((λ us. refl), ((λ us. refl), tt)))),
                    ),
                  ),
                ),
              ),
            ),
          ),
        ),
      ),
      ((search), tt),
    ) (λ x y s c. c)) (
      (
        (λ us. refl),
        (
          (λ us. refl),
          (
            (λ us. refl),
            (
              (λ us. refl),
              (
                (λ us. refl),
                (
                  (λ us. refl),
                  (
                    (λ us. refl),
                    (
                      (λ us. refl),
                      (
                        (λ cs us h. a_word_lacked (same_text (codes "pub") cs) us
                            (ident_not (codes "pub") cs reserved_pub (front_is InImpl cs us h).0)),
                        ((λ us. refl), ((λ us. refl), ((λ us. refl), ((λ us. refl), tt)))),
                      ),
                    ),
                  ),
                ),
              ),
            ),
          ),
        ),
      ),
      ((search), tt),
    )
    (λ x y s c. c)) ((search), tt) (λ x y s c. c)

pub step_a_trait_item : Step ATraitItem
unfolding table skips is_reserved
step_a_trait_item =
    meant_step ATraitItem refl refl
    (fine_weaker (λ x s. LacksAll [] s × IsMeant ATraitItem x) (At (starts ATraitItem))
    (fine_raw_or {A = MemberEdge} {F = At (starts ATraitItem)}
    (fine_weaker MemberEdge (At (starts ATraitItem)) fine_trait_item (λ x s c. c)
    (λ x s i c. inr (with_listed InTrait front_classes (flat x ++ s) i)))
    (λ x s d. inl (raw_front (item_verdict InTrait) (default_there InTrait ▸ the_item ∶ member_form InTrait) (search)
    x s d))) (λ x s c. c.1)
    (λ x s i c. i))

pub step_an_impl_item : Step AnImplItem
unfolding table skips is_reserved
step_an_impl_item =
    meant_step AnImplItem refl refl
    (fine_weaker (λ x s. LacksAll [] s × IsMeant AnImplItem x) (At (starts AnImplItem))
    (fine_raw_or {A = MemberEdge} {F = At (starts AnImplItem)}
    (fine_weaker MemberEdge (At (starts AnImplItem)) fine_impl_item (λ x s c. c)
    (λ x s i c. inr (with_listed InImpl front_classes (flat x ++ s) i)))
    (λ x s d. inl (raw_front (item_verdict InImpl) (default_there InImpl ▸ the_item ∶ member_form InImpl) (search) x
    s d))) (λ x s c. c.1)
    (λ x s i c. i))

-- Where a form is kept, it is kept as it is printed.
abbrev pub SameMember : Place → Tree → Tree → Type 0
SameMember p x w =
    ((b : Bool) → form_in p b x ≡ Keep → form_in p b w ≡ Keep) × (is_plain_macro w ≡ is_plain_macro x)

pub trait_function : LawOf (SameMember InTrait) (AFunction InTrait)
trait_function q y v r d f e = ((λ b h. h), refl)

pub trait_constant : LawOf (SameMember InTrait) AConst
unfolding held passed
trait_constant q y v r d f e = (
  λ b h. let i = none_raw b (is_generic (the the_generics y)) (is_where (the the_where y)) h in
      let j = constant_parts y v r d f (ap inner e) in
      raw_none b (is_generic (the the_generics v)) (is_where (the the_where v)) i.0 (j.1 i.1) (j.2 i.2),
  refl,
)

pub trait_alias : LawOf (SameMember InTrait) (ATypeAlias InTrait)
trait_alias q y v r d f e = ((λ b h. h), refl)

trait_macro : LawOf (SameMember InTrait) (ItemMacro InTrait)
unfolding held passed table
trait_macro q y v r d f e = ((λ b h. h), plain_same InTrait y v r d f (ap inner e))

pub impl_function : LawOf (SameMember InImpl) (AFunction InImpl)
unfolding held passed
impl_function q y v r d f e = (
  λ b h. ap (λ c. raw_if (not c)) (same_has the_body Plain (table (AFunction InImpl)) y v r d f (ap inner e)) ∙ h,
  refl,
)

pub impl_constant : LawOf (SameMember InImpl) AConst
unfolding held passed
impl_constant q y v r d f e = (λ b h. constant_stays y v r d f (ap inner e) h, refl)

pub impl_alias : LawOf (SameMember InImpl) (ATypeAlias InImpl)
unfolding held passed
impl_alias q y v r d f e = (λ b h. alias_stays InImpl y v r d f (ap inner e) h, refl)

impl_macro : LawOf (SameMember InImpl) (ItemMacro InImpl)
unfolding held passed table
impl_macro q y v r d f e = ((λ b h. h), plain_same InImpl y v r d f (ap inner e))

-- the parts of such an item
item_part : (d y : Tree) → has the_item d ≡ false → or_nil (or_else (found the_item d) (Some y)) ≡ y
item_part d y e = go (found the_item d) e
  where
    go : (o : Option Tree) → is_some o ≡ false → or_nil (or_else o (Some y)) ≡ y
    go None e = refl
    go (Some x) e = cc e

the_item_is : (k : Kind) (o : Tree) (n : Part) (v d : Tree) (m : Part) (y : Tree) → n ≡ the_visibility → m ≡ the_item
    → has the_item d ≡ false → the the_item (Pair (Node k o) (Pair (Called n v) (Pair d (Called m y)))) ≡ y
unfolding same_part
the_item_is k o n v d m y e f h =
    ap (λ j. the the_item (Pair (Node k o) (Pair (Called j v) (Pair d (Called m y))))) e
    ∙ ap (λ j. the the_item (Pair (Node k o) (Pair (Called the_visibility v) (Pair d (Called j y))))) f
    ∙ item_part d y h

pub the_visibility_is : (k : Kind) (o : Tree) (n : Part) (v z : Tree) → n ≡ the_visibility
    → the the_visibility (Pair (Node k o) (Pair (Called n v) z)) ≡ v
unfolding same_part
the_visibility_is k o n v z e = ap (λ j. the the_visibility (Pair (Node k o) (Pair (Called j v) z))) e

its_visibility : Tree → Tree
its_visibility (Pair o (Pair (Called n v) z)) = v
its_visibility x = x

its_default : Tree → Tree
its_default (Pair o (Pair v (Pair d y))) = d
its_default x = x

its_form : Tree → Tree
its_form (Pair o (Pair v (Pair d (Called m y)))) = y
its_form x = x

-- default is not there, as a macro behind it is refused
second_none : (a b : Bool) → (a || b) ≡ false → b ≡ false
second_none false b e = e
second_none true b e = cc e

default_none : (k : Kind) (o : Tree) (n : Part) (v c z : Tree) → n ≡ the_visibility
    → has the_default (Pair (Node k o) (Pair (Called n v) (Pair c z))) ≡ false → has the_default c ≡ false
unfolding same_part
default_none k o n v c z e h =
    go (found the_default c) (found the_default z)
    (subst (λ j. has the_default (Pair (Node k o) (Pair (Called j v) (Pair c z))) ≡ false) e h)
  where
    go : (a b : Option Tree) → is_some (or_else a b) ≡ false → is_some a ≡ false
    go None b f = refl
    go (Some y) b f = f

module _ (l : Look) where
  undefaulted : (c : Tree) (ts : List Token) → Derives c (optional l (the_default ∶ keyword "default")) ts
      → has the_default c ≡ false → Lacks l ts
  unfolding same_part
  undefaulted (First (Called n y)) ts d h =
      absurd (false≢true (sym h ∙ ap (λ j. has the_default (First (Called j y))) d.1.0))
  undefaulted (First _) ts d h = absurd d.1
  undefaulted (Second Nil) ts d h = d.0
  undefaulted (Second _) ts d h = absurd d.1
  undefaulted _ ts d h = absurd d

unmarked_trait : (b : Bool) (x : Tree) → is_no_macro x ≡ false → form_in InTrait b x ≡ Keep → b ≡ false
unmarked_trait false x n e = refl
unmarked_trait true (Node (ItemMacro q) y) n e = cc e
unmarked_trait true _ n e = absurd (false≢true (sym n))

unmarked_impl : (b : Bool) (x : Tree) → is_no_macro x ≡ false → form_in InImpl b x ≡ Keep → b ≡ false
unmarked_impl false x n e = refl
unmarked_impl true (Node (ItemMacro q) y) n e = cc e
unmarked_impl true _ n e = absurd (false≢true (sym n))

abbrev InFront : Gram → Look → Type 0
InFront g l = (c : Tree) (ts : List Token) → Derives c g ts → has the_default c ≡ false → Lacks l ts

trait_default : InFront (default_there InTrait) (default_look InTrait)
trait_default c ts d e = undefaulted (at "default") c ts d e

impl_default : InFront (default_there InImpl) (default_look InImpl)
impl_default c ts d e = undefaulted (at "default" then no (marks "!")) c ts d e

abbrev MemberLaw : Place → Tree → Tree → Type 0
MemberLaw p x w =
    (item_verdict p x ≡ Keep → item_verdict p w ≡ Keep)
    × (is_plain_macro (choice (item_of w)) ≡ is_plain_macro (choice (item_of x)))

module _ (p : Place) (marks_are : (x : Tree) → marked p x ≡ (is_public (the the_visibility x) || has the_default x))
    (no_item : lacks_part the_item (default_there p) ≡ true) (each : EachOf (SameMember p) (member_form p))
    (no_default_there : InFront (default_there p) (default_look p))
    (unmarked : (b : Bool) (x : Tree) → is_no_macro x ≡ false → form_in p b x ≡ Keep → b ≡ false) where
  member_law : (x w : Tree) (r : List Token) → Derives x (whole_member p) r → Fits w (whole_member p)
      → kept w ≡ normal_in Plain (kept x) → MemberLaw p x w
  unfolding its_visibility its_default its_form
  member_law (Pair (Node k o) (Pair (Called n v) (Pair c (Called m y))))
      (Pair (Node l a) (Pair (Called i u) (Pair b (Called j z)))) r d f e =
      let x : Tree = Pair (Node k o) (Pair (Called n v) (Pair c (Called m y))) in
      let w : Tree = Pair (Node l a) (Pair (Called i u) (Pair b (Called j z))) in
      let s = form_same (SameMember p) (member_form p) each (place_of m) y z r d.1.1.1.1 f.1.1.1.1 (ap its_form e) in
      let lacks_c = has_none the_item c (default_there p) (flat y ++ r) d.1.1.0 no_item in
      let lacks_b = same_has the_item Plain (default_there p) c b (flat y ++ r) d.1.1.0 f.1.1.0 (ap its_default e)
      ∙ lacks_c in
      let g : marked p w ≡ marked p x =
      marks_are w
      ∙ ap (λ t. t || has the_default w) (ap is_public (the_visibility_is l a i u (Pair b (Called j z)) f.1.0.0)
      ∙ public_same (place_of n) v u (flat (Pair c (Called m y)) ++ r) d.1.0.1 f.1.0.1 (ap its_visibility e)
      ∙ sym (ap is_public (the_visibility_is k o n v (Pair c (Called m y)) d.1.0.0)))
      ∙ ap (λ t. is_public (the the_visibility x) || t) (same_has the_default Plain (whole_member p) x w r d f e)
      ∙ sym (marks_are x) in (
        λ h. ap (λ t. form_in p t (choice (the the_item w))) g
            ∙ ap (λ t. form_in p (marked p x) (choice t)) (the_item_is l a i u b j z f.1.0.0 f.1.1.1.0 lacks_b)
            ∙ s.0 (marked p x) (sym (ap (λ t. form_in p (marked p x) (choice t))
            (the_item_is k o n v c m y d.1.0.0 d.1.1.1.0 lacks_c)) ∙ h),
        s.1,
      )
  member_law (Pair (Node k o) (Pair (Called n v) (Pair c (Called m y))))
      (Pair (Node l a) (Pair (Called i u) (Pair b _))) r d f e = absurd f.1.1.1
  member_law (Pair (Node k o) (Pair (Called n v) (Pair c (Called m y)))) (Pair (Node l a) (Pair (Called i u) _)) r d f e
      = absurd f.1.1
  member_law (Pair (Node k o) (Pair (Called n v) (Pair c (Called m y)))) (Pair (Node l a) (Pair _ z)) r d f e =
      absurd f.1.0
  member_law (Pair (Node k o) (Pair (Called n v) (Pair c (Called m y)))) (Pair (Node l a) _) r d f e = absurd f.1
  member_law (Pair (Node k o) (Pair (Called n v) (Pair c (Called m y)))) (Pair _ z) r d f e = absurd f.0
  member_law (Pair (Node k o) (Pair (Called n v) (Pair c (Called m y)))) _ r d f e = absurd f
  member_law (Pair (Node k o) (Pair (Called n v) (Pair c _))) w r d f e = absurd d.1.1.1
  member_law (Pair (Node k o) (Pair (Called n v) _)) w r d f e = absurd d.1.1
  member_law (Pair (Node k o) (Pair _ y)) w r d f e = absurd d.1.0
  member_law (Pair (Node k o) _) w r d f e = absurd d.1
  member_law (Pair _ y) w r d f e = absurd d.0
  member_law _ w r d f e = absurd d

  -- what was read is a macro as they begin there
  form_plain : (y : Tree) (r : List Token) → Derives y (member_form p) r
      → (is_no_macro (choice y) ≡ false → Lacks (default_look p) (flat y ++ r)) → is_plain_macro (choice y) ≡ true
  form_plain (First y) r d f = other_read (AFunction p) (λ z. refl) y r d.1
  form_plain (Second (First y)) r d f = other_read AConst (λ z. refl) y r d.1.1
  form_plain (Second (Second (First y))) r d f = other_read (ATypeAlias p) (λ z. refl) y r d.1.1.1
  form_plain (Second (Second (Second (First (Node k y))))) r d f =
      own_read p (Node k y) r d.1.1.1.1 d.1.1.1.0 (f (ap (λ j. is_no_macro (Node j y)) d.1.1.1.1.0))
  form_plain (Second (Second (Second (First _)))) r d f = absurd d.1.1.1.1
  form_plain (Second (Second (Second (Second Nil)))) r d f = absurd d.1.1.1.1
  form_plain (Second (Second (Second (Second _)))) r d f = absurd d.1.1.1.1
  form_plain (Second (Second (Second _))) r d f = absurd d.1.1.1
  form_plain (Second (Second _)) r d f = absurd d.1.1
  form_plain (Second _) r d f = absurd d.1
  form_plain _ r d f = absurd d

  whole_plain : (x : Tree) (r : List Token) → item_verdict p x ≡ Keep → Derives x (whole_member p) r
      → is_plain_macro (choice (item_of x)) ≡ true
  whole_plain (Pair (Node k o) (Pair (Called n v) (Pair c (Called m y)))) r e d =
      let x : Tree = Pair (Node k o) (Pair (Called n v) (Pair c (Called m y))) in
      let lacks_c = has_none the_item c (default_there p) (flat y ++ r) d.1.1.0 no_item in
      form_plain y r d.1.1.1.1
      (λ h. no_default_there c (flat y ++ r) d.1.1.0 (default_none k o n v c (Called m y) d.1.0.0
      (second_none (is_public (the the_visibility x)) (has the_default x) (sym (marks_are x) ∙ unmarked (marked p x)
      (choice y) h (sym (ap (λ t. form_in p (marked p x) (choice t))
      (the_item_is k o n v c m y d.1.0.0 d.1.1.1.0 lacks_c)) ∙ e)))))
  whole_plain (Pair (Node k o) (Pair (Called n v) (Pair c _))) r e d = absurd d.1.1.1
  whole_plain (Pair (Node k o) (Pair (Called n v) _)) r e d = absurd d.1.1
  whole_plain (Pair (Node k o) (Pair _ y)) r e d = absurd d.1.0
  whole_plain (Pair (Node k o) _) r e d = absurd d.1
  whole_plain (Pair _ y) r e d = absurd d.0
  whole_plain _ r e d = absurd d

  pub member_meant : (x w : Tree) (r : List Token) → Derives x (judged (item_verdict p) (whole_member p)) r
      → Fits w (judged (item_verdict p) (whole_member p)) → kept w ≡ normal_in Plain (kept x)
      → is_plain_macro (choice (item_of w)) ≡ true
  member_meant (First x) (First w) r d f e =
      (member_law x w r d.1 f.1 (ap inside e)).1 ∙ whole_plain x r d.0 d.1
    where
      inside : Tree → Tree
      inside (First x) = x
      inside x = x
  member_meant (First x) (Verbatim w) r d f e = refl
  member_meant (First x) _ r d f e = absurd f
  member_meant (Verbatim x) (First w) r d f e = cc e
  member_meant (Verbatim x) (Verbatim w) r d f e = refl
  member_meant (Verbatim x) _ r d f e = absurd f
  member_meant _ w r d f e = absurd d

each_trait : EachOf (SameMember InTrait) (member_form InTrait)
each_trait = (trait_function, (trait_constant, (trait_alias, (trait_macro, tt))))

each_impl : EachOf (SameMember InImpl) (member_form InImpl)
each_impl = (impl_function, (impl_constant, (impl_alias, (impl_macro, tt))))

pub law_a_trait_item : KindLaw ATraitItem
unfolding has_step held passed place_of table same_part
law_a_trait_item =
    taken_law ATraitItem refl
    (λ x w r d f e o. member_meant InTrait (λ x. refl) refl each_trait trait_default unmarked_trait x w r d f e)
    (λ x. refl) (λ x. refl) (λ q. refl) (λ q. refl) (
      λ x w r c d f e h. (member_law InTrait (λ x. refl) refl each_trait trait_default unmarked_trait x w r d f e).0 h,
      λ x r d s. (item_stays ATraitItem (Node ATraitItem (Verbatim x)) r s refl (refl, d)).1,
      simple_law Plain (whole_member InTrait) refl,
    )

pub law_an_impl_item : KindLaw AnImplItem
unfolding has_step held passed place_of table same_part
law_an_impl_item =
    taken_law AnImplItem refl
    (λ x w r d f e o. member_meant InImpl (λ x. refl) refl each_impl impl_default unmarked_impl x w r d f e)
    (λ x. refl) (λ x. refl) (λ q. refl) (λ q. refl) (
      λ x w r c d f e h. (member_law InImpl (λ x. refl) refl each_impl impl_default unmarked_impl x w r d f e).0 h,
      λ x r d s. (item_stays AnImplItem (Node AnImplItem (Verbatim x)) r s refl (refl, d)).1,
      simple_law Plain (whole_member InImpl) refl,
    )
