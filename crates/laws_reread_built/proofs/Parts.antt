-- An expression as it is printed has what its form has: its own part, and its operands as they are printed. Of these it
-- is put together again, also with other operands.
use Rattle.std.proofs.Common.{◌≡◌, refl, sym, ap, ◌∙◌, subst}
use Rattle.std.specs.Prelude.{true, false, ◌&&◌}
use Rattle.syn_grammar.specs.Kind.{Kind, ExprAttributed}
use Rattle.syn_grammar.specs.Tree.{Tree, Alone, Front, Back, Infix}
use Rattle.syn_grammar.specs.Table.{table}
use Rattle.syn_grammar.specs.Forms.{kind_of, is_path_form}
use Rattle.syn_grammar.specs.Kept.{kept}
use Rattle.syn_grammar.specs.Parens.{is_struct}
use Rattle.laws_reread_expressions.specs.Behind.{is_attributed}
use Rattle.laws_reread_expressions.specs.Formed.{is_attributed_form}
use Rattle.laws_reread_kinds.specs.Covered.{is_known, is_plain_part}
use Rattle.laws_reread_kinds.proofs.Fits.{Fits, FitsForms, HasOperands, IsBackKind, IsFrontKind, IsMeant, IsWhole}
use Rattle.laws_reread_kinds.proofs.Fits.{MayHave, MayLack}
use Rattle.laws_reread.proofs.Held.{path_kept}
use Rattle.laws_reread.proofs.Operands.{apart, together}
use Rattle.laws_reread_built.proofs.Laid.{Laid}

-- own parts
pub record OwnInFront (k : Kind) (y : Tree) : Type 0 where
  pub own : Tree
  pub fits : (is_known k ≡ true) × Fits own (table k) × IsMeant k own
  pub kind : IsFrontKind k
  pub plain : is_plain_part k own ≡ true
  pub kept_is : kept own ≡ y

pub record OwnBehind (k : Kind) (y : Tree) : Type 0 where
  pub own : Tree
  pub fits : (is_known k ≡ true) × Fits own (table k) × IsMeant k own
  pub kind : IsBackKind k
  pub kept_is : kept own ≡ y

-- of what fits the same is seen as of what is held
attributed_kept : (x : Tree) → FitsForms x → is_attributed_form x ≡ is_attributed_form (kept x)
attributed_kept (Alone k y) f = refl
attributed_kept (Front ExprAttributed y x) f = refl
attributed_kept (Front _ y x) f = refl
attributed_kept (Back l k y) f = ap is_attributed_form (sym (f.3 (kept l)))
attributed_kept (Infix l k y r) f = refl
attributed_kept _ f = absurd f

attributed_laid : (x : Tree) (l : Laid x) → is_attributed_form l.tree ≡ is_attributed_form x
attributed_laid x l = attributed_kept l.tree l.fits ∙ ap is_attributed_form l.kept_is

path_laid : (x : Tree) (l : Laid x) → is_path_form l.tree ≡ is_path_form x
path_laid x l = sym (path_kept l.tree l.fits) ∙ ap is_path_form l.kept_is

-- an atom
pub record OfAlone (k : Kind) (y : Tree) : Type 0 where
  pub own : OwnInFront k y
  pub lacks : MayLack k

pub alone_parts : (k : Kind) (y : Tree) → Laid (Alone k y) → OfAlone k y
alone_parts k y l = go l.tree l.fits l.operands l.kept_is
  where
    go : (x : Tree) → FitsForms x → HasOperands x → kept x ≡ Alone k y → OfAlone k y
    go (Alone j z) f o e =
        let g = subst (λ i. FitsForms (Alone i z)) (ap kind_of e) f in
        let h = subst (λ i. HasOperands (Alone i z)) (ap kind_of e) o in
        record {
          own = record { own = z; fits = g; kind = h.0; plain = h.2; kept_is = cc e };
          lacks = h.1;
        }
    go (Front j z v) f o e = cc e
    go (Back m j z) f o e = cc (sym (f.3 (kept m)) ∙ e)
    go (Infix m j z v) f o e = cc e
    go _ f o e = absurd f

pub alone_laid : (k : Kind) (y : Tree) → OfAlone k y → Laid (Alone k y)
alone_laid k y a = record {
  tree = Alone k a.own.own;
  fits = a.own.fits;
  operands = (a.own.kind, a.lacks, a.own.plain);
  kept_is = ap (Alone k) a.own.kept_is;
}

-- a form before its operand
pub record OfFront (k : Kind) (y x : Tree) : Type 0 where
  pub own : OwnInFront k y
  pub has : MayHave k
  pub right : Laid x
  pub together : (is_attributed k && is_attributed_form x) ≡ false

pub front_parts : (k : Kind) (y x : Tree) → Laid (Front k y x) → OfFront k y x
front_parts k y x l = go l.tree l.fits l.operands l.kept_is
  where
    go : (t : Tree) → FitsForms t → HasOperands t → kept t ≡ Front k y x → OfFront k y x
    go (Front j z v) f o e =
        let g = subst (λ i. FitsForms (Front i z v)) (ap kind_of e) f in
        let h = subst (λ i. HasOperands (Front i z v)) (ap kind_of e) o in
        let r : Laid x = record { tree = v; fits = g.3; operands = h.2; kept_is = cc e } in
        record {
          own = record { own = z; fits = (g.0, g.1, g.2); kind = h.0; plain = h.3; kept_is = cc e };
          has = h.1;
          right = r;
          together = ap (λ b. is_attributed k && b) (sym (attributed_laid x r)) ∙ together k v h.4;
        }
    go (Alone j z) f o e = cc e
    go (Back m j z) f o e = cc (sym (f.3 (kept m)) ∙ e)
    go (Infix m j z v) f o e = cc e
    go _ f o e = absurd f

pub front_laid : (k : Kind) (y x : Tree) → OwnInFront k y → MayHave k → Laid x
    → (is_attributed k && is_attributed_form x) ≡ false → Laid (Front k y x)
front_laid k y x a h r t = record {
  tree = Front k a.own r.tree;
  fits = (a.fits.0, a.fits.1, a.fits.2, r.fits);
  operands = (
    a.kind,
    h,
    r.operands,
    a.plain,
    apart k r.tree (ap (λ b. is_attributed k && b) (attributed_laid x r) ∙ t),
  );
  kept_is = ap (λ z. Front k z (kept r.tree)) a.kept_is ∙ ap (Front k y) r.kept_is;
}

-- a form behind its operand
pub record OfBack (l : Tree) (k : Kind) (y : Tree) : Type 0 where
  pub own : OwnBehind k y
  pub whole : IsWhole k own.own
  pub lacks : MayLack k
  pub left : Laid l
  pub path : is_struct k ≡ true → is_path_form l ≡ true

pub back_parts : (l : Tree) (k : Kind) (y : Tree) → Laid (Back l k y) → OfBack l k y
back_parts l k y b = go b.tree b.fits b.operands b.kept_is
  where
    go : (t : Tree) → FitsForms t → HasOperands t → kept t ≡ Back l k y → OfBack l k y
    go (Back m j z) f o i =
        let e : Back (kept m) j (kept z) ≡ Back l k y = sym (f.3 (kept m)) ∙ i in
        let g = subst (λ i. FitsForms (Back m i z)) (ap kind_of e) f in
        let h = subst (λ i. HasOperands (Back m i z)) (ap kind_of e) o in
        let a : Laid l = record { tree = m; fits = g.4; operands = h.2; kept_is = cc e } in
        record {
          own = record { own = z; fits = (g.0, g.1, g.2); kind = h.0; kept_is = cc e };
          whole = g.3;
          lacks = h.1;
          left = a;
          path = λ s. sym (path_laid l a) ∙ h.3 s;
        }
    go (Alone j z) f o e = cc e
    go (Front j z v) f o e = cc e
    go (Infix m j z v) f o e = cc e
    go _ f o e = absurd f

pub back_laid : (l m : Tree) (k : Kind) (y : Tree) → OfBack m k y → Laid l
    → (is_struct k ≡ true → is_path_form l ≡ true) → Laid (Back l k y)
back_laid l m k y b a p = record {
  tree = Back a.tree k b.own.own;
  fits = (b.own.fits.0, b.own.fits.1, b.own.fits.2, b.whole, a.fits);
  operands = (b.own.kind, b.lacks, a.operands, λ s. path_laid l a ∙ p s);
  kept_is = b.whole (kept a.tree) ∙ ap (λ z. Back z k (kept b.own.own)) a.kept_is ∙ ap (Back l k) b.own.kept_is;
}

-- a form between its operands
pub record OfInfix (l : Tree) (k : Kind) (y r : Tree) : Type 0 where
  pub own : OwnBehind k y
  pub has : MayHave k
  pub left : Laid l
  pub right : Laid r

pub infix_parts : (l : Tree) (k : Kind) (y r : Tree) → Laid (Infix l k y r) → OfInfix l k y r
infix_parts l k y r b = go b.tree b.fits b.operands b.kept_is
  where
    go : (t : Tree) → FitsForms t → HasOperands t → kept t ≡ Infix l k y r → OfInfix l k y r
    go (Infix m j z v) f o e =
        let g = subst (λ i. FitsForms (Infix m i z v)) (ap kind_of e) f in
        let h = subst (λ i. HasOperands (Infix m i z v)) (ap kind_of e) o in
        record {
          own = record { own = z; fits = (g.0, g.1, g.2); kind = h.0; kept_is = cc e };
          has = h.1;
          left = record { tree = m; fits = g.3; operands = h.2; kept_is = cc e };
          right = record { tree = v; fits = g.4; operands = h.3; kept_is = cc e };
        }
    go (Alone j z) f o e = cc e
    go (Front j z v) f o e = cc e
    go (Back m j z) f o e = cc (sym (f.3 (kept m)) ∙ e)
    go _ f o e = absurd f

pub infix_laid : (l : Tree) (k : Kind) (y r : Tree) → OwnBehind k y → MayHave k → Laid l → Laid r → Laid (Infix l k y r)
infix_laid l k y r b h a c = record {
  tree = Infix a.tree k b.own c.tree;
  fits = (b.fits.0, b.fits.1, b.fits.2, a.fits, c.fits);
  operands = (b.kind, h, a.operands, c.operands);
  kept_is = ap (λ z. Infix z k (kept b.own) (kept c.tree)) a.kept_is
      ∙ ap (λ z. Infix l k z (kept c.tree)) b.kept_is ∙ ap (Infix l k y) c.kept_is;
}
