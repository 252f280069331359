-- Items of traits, impls and extern blocks: that each form is found where it was put.
use Rattle.syn_wrapped.specs.Among.{IsKeptIn}
use Rattle.syn_wrapped.specs.Members.{IsForeignBy, MayStandBy, foreign_by, foreign_parts, member_by, member_parts}
use Rattle.rust_leaf.specs.declared.ident.Ident.{Ident}
use Rattle.std.proofs.Common.{◌∙◌, ap, subst, sym}
use Rattle.std.specs.Prelude.{◌≡◌, Option, refl}
use Rattle.syn_grammar.specs.Kind as k
use Rattle.syn_grammar.specs.Tree as t
use Rattle.syn_grammar.specs.Tree.{Tree}
use Rattle.syn_item.specs.ItemMembers.{associated_choice, associated_inside, foreign_choice, form_of_foreign_item}
use Rattle.syn_item.specs.declared.members.AssociatedForm.{AssociatedForm}
use Rattle.syn_item.specs.declared.members.AssociatedForm.TheVariants as associated
use Rattle.syn_item.specs.declared.members.ForeignForm.{ForeignForm}
use Rattle.syn_item.specs.declared.members.ForeignForm.TheVariants as foreigns
use denote.Bor.{Bor}

pub member_found : (f : AssociatedForm) (a v : Tree) (d : Option (Bor Ident)) (x : Tree)
    → associated_inside (member_by f a v d (associated_choice f x)) ≡ associated_choice f x
member_found associated.Fn a v d x = refl
member_found associated.Const a v d x = refl
member_found associated.«Type» a v d x = refl
member_found associated.Macro a v d x = refl
member_found associated.Verbatim a v d x = refl

pub foreign_found : (f : ForeignForm) (a v x : Tree)
    → form_of_foreign_item (t.Node k.AForeignItem (foreign_by f a v (foreign_choice f x))) ≡ foreign_choice f x
foreign_found foreigns.Fn a v x = refl
foreign_found foreigns.Static a v x = refl
foreign_found foreigns.«Type» a v x = refl
foreign_found foreigns.Macro a v x = refl
foreign_found foreigns.Verbatim a v x = refl

-- one that is not its tokens alone is its parts, and may stand there where the grammar keeps these
member_kept : (f : AssociatedForm) (a v : Tree) (d : Option (Bor Ident)) (x : Tree) → (f ≡ associated.Verbatim → ⊥)
    → t.First (member_parts a v d x) ≡ member_by f a v d x
member_kept associated.Verbatim a v d x n = absurd (n refl)
member_kept f a v d x n = refl

pub member_at : (i : k.Kind) (f : AssociatedForm) (a v : Tree) (d : Option (Bor Ident)) (x y p : Tree)
    → (f ≡ associated.Verbatim → ⊥) → y ≡ t.Node i (t.First p) → p ≡ member_parts a v d x
    → y ≡ t.Node i (member_by f a v d x)
member_at i f a v d x y p n e h =
    e ∙ (ap (λ z. t.Node i (t.First z)) h ∙ ap (t.Node i) (member_kept f a v d x n))

stands : (q : k.Place) (f : AssociatedForm) (p : Tree) → (f ≡ associated.Verbatim → ⊥) → IsKeptIn q p
    → MayStandBy q f p
stands q associated.Verbatim p n h = absurd (n refl)
stands q f p n h = h

stands_not : (q : k.Place) (f : AssociatedForm) (p : Tree) → (f ≡ associated.Verbatim → ⊥) → MayStandBy q f p
    → IsKeptIn q p
stands_not q associated.Verbatim p n h = absurd (n refl)
stands_not q f p n h = h

pub member_stands : (q : k.Place) (f : AssociatedForm) (p z : Tree) → (f ≡ associated.Verbatim → ⊥) → p ≡ z
    → IsKeptIn q p → MayStandBy q f z
member_stands q f p z n e h = subst (MayStandBy q f) e (stands q f p n h)

pub member_refused : (q : k.Place) (f : AssociatedForm) (p z : Tree) → (f ≡ associated.Verbatim → ⊥) → p ≡ z
    → (IsKeptIn q p → ⊥) → MayStandBy q f z → ⊥
member_refused q f p z n e d h = d (stands_not q f p n (subst (MayStandBy q f) (sym e) h))

pub ruleset members = (member_at, member_stands, member_refused)

foreign_kept : (f : ForeignForm) (a v x : Tree) → (f ≡ foreigns.Verbatim → ⊥)
    → t.First (foreign_parts a v x) ≡ foreign_by f a v x
foreign_kept foreigns.Verbatim a v x n = absurd (n refl)
foreign_kept f a v x n = refl

pub foreign_at : (i : k.Kind) (f : ForeignForm) (a v x y p : Tree) → (f ≡ foreigns.Verbatim → ⊥)
    → y ≡ t.Node i (t.First p) → p ≡ foreign_parts a v x → y ≡ t.Node i (foreign_by f a v x)
foreign_at i f a v x y p n e h =
    e ∙ (ap (λ z. t.Node i (t.First z)) h ∙ ap (t.Node i) (foreign_kept f a v x n))

foreign_there : (f : ForeignForm) (p : Tree) → (f ≡ foreigns.Verbatim → ⊥) → IsKeptIn k.InForeign p
    → IsForeignBy f p
foreign_there foreigns.Verbatim p n h = absurd (n refl)
foreign_there f p n h = h

foreign_not : (f : ForeignForm) (p : Tree) → (f ≡ foreigns.Verbatim → ⊥) → IsForeignBy f p
    → IsKeptIn k.InForeign p
foreign_not foreigns.Verbatim p n h = absurd (n refl)
foreign_not f p n h = h

pub foreign_stands : (f : ForeignForm) (p z : Tree) → (f ≡ foreigns.Verbatim → ⊥) → p ≡ z
    → IsKeptIn k.InForeign p → IsForeignBy f z
foreign_stands f p z n e h = subst (IsForeignBy f) e (foreign_there f p n h)

pub foreign_refused : (f : ForeignForm) (p z : Tree) → (f ≡ foreigns.Verbatim → ⊥) → p ≡ z
    → (IsKeptIn k.InForeign p → ⊥) → IsForeignBy f z → ⊥
foreign_refused f p z n e d h = d (foreign_not f p n (subst (IsForeignBy f) (sym e) h))

pub ruleset foreign_items = (foreign_found, foreign_at, foreign_stands, foreign_refused)
