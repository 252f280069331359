-- Behind a dot: an index in plain decimal is one, so each form that a number is split into fits its entry.
use Rattle.std.proofs.Common.{◌≡◌, ℕ, ◌<◌, List, [], ◌∷◌, refl, sym, ap, ◌∙◌, subst, arith}
use Rattle.std.specs.Prelude.{Bool, true, false, not, ◌&&◌, ◌==◌, nat_lt, if◌then◌else◌, Option, Some, None, codes}
use Rattle.std.proofs.lemmas.Bool.{ltb-true, lt-ltb}
use Rattle.std.proofs.lemmas.Bool.{false≢true}
use Rattle.proc_macro2.specs.Token.{Token, Literal, Punct}
use Rattle.rust_leaf.specs.declared.punct.Spacing.TheVariants.{Alone as Apart}
use Rattle.syn_grammar.specs.Kind.{Kind, Plain, ExprAwait, ExprField, ExprMethodCall}
use Rattle.syn_grammar.specs.Name.{Part, the_indices, the_value}
use Rattle.syn_grammar.specs.Words.{are_indices, before_dot, behind_dots, ends_in_dot, indices, indices_to_dot, integer}
use Rattle.syn_grammar.specs.Words.{is_below, last_is_dot, or_zero, plain_decimal, texts_of}
use Rattle.syn_grammar.specs.Tree.{Tree, ALiteral, AMark, Pair, First, Second, End, Again, Called, Back}
use Rattle.syn_grammar.specs.Gram.{Gram, literal}
use Rattle.syn_grammar.specs.Table.{table}
use Rattle.syn_grammar.specs.Expressions.{dot}
use Rattle.syn_grammar.specs.Say.{◌▸◌, repeated}
use Rattle.syn_grammar.specs.Look.{a_quoted}
use Rattle.syn_grammar.specs.Forms.{back, has_right, level}
use Rattle.syn_grammar.specs.Derives.{Derives}
use Rattle.syn_grammar.specs.Kept.{index_field, index_fields, fields_in_front, last_fields, dotted_own, dotted}
use Rattle.syn_grammar.specs.Kept.{kept}
use Rattle.syn_grammar.proofs.Decimals.{integer_decimal, one_index}
use Rattle.laws_binding.proofs.Shells.{is_dot, each_dot}
use Rattle.laws_reread_kinds.specs.Covered.{has_step, has_form_step}
use Rattle.laws_reread_kinds.proofs.Fits.{Fits, FitsForms, HasOperands, IsBackKind, IsMeant, MayLack}
use Rattle.laws_reread_kinds.proofs.Dotted.{field_end}
use Rattle.laws_reread.proofs.Split.{IsBehind, IsDot, IsLast, IsNumbers, lone_index, own_number}

-- what a plain decimal is
small : (o : Option ℕ) → or_zero o < 4294967296
small None = omega arith
small (Some n) = go (nat_lt n 4294967296) refl
  where
    go : (b : Bool) → nat_lt n 4294967296 ≡ b → (if b then n else 0) < 4294967296
    go true e = ltb-true n 4294967296 e
    go false e = omega arith

below : (cs : List ℕ) → is_below 4294967296 (integer (plain_decimal cs)) ≡ true
unfolding plain_decimal
below cs =
    let n : ℕ = or_zero (integer cs) in
    let h : n < 4294967296 = small (integer cs) in
    ap (is_below 4294967296) (integer_decimal n h) ∙ lt-ltb n 4294967296 h

heads : (cs ds : List ℕ) (ts us : List (List ℕ)) → cs ∷ ts ≡ ds ∷ us → (cs ≡ ds) × (ts ≡ us)
heads cs ds ts us e = (cc, cc)

no_texts : (texts : List (List ℕ)) → texts_of texts ≡ [] → indices_to_dot texts ≡ true
no_texts [] e = refl
no_texts ([] ∷ []) e = refl
no_texts ([] ∷ (t ∷ ts)) e = cc
no_texts ((c ∷ cs) ∷ ts) e = cc

both : (a b : Bool) → a ≡ true → b ≡ true → (a && b) ≡ true
both true b e f = f
both false b e f = cc

are_plain : (cs : List ℕ) → are_indices (plain_decimal cs) ≡ true
unfolding are_indices
are_plain cs =
    let ds : List ℕ = plain_decimal cs in
    let h = heads (before_dot ds) ds (texts_of (behind_dots ds)) [] (one_index cs) in
    both (is_below 4294967296 (integer (before_dot ds))) (indices_to_dot (behind_dots ds))
    (ap (λ es. is_below 4294967296 (integer es)) h.0 ∙ below cs) (no_texts (behind_dots ds) h.1)

last_more : (b : Bool) (c : ℕ) (cs : List ℕ) → (c == 46) ≡ b → last_is_dot cs ≡ false
    → last_is_dot (if b then [] else c ∷ cs) ≡ false
last_more true c cs e f = refl
last_more false c [] e f = e
last_more false c (d ∷ cs) e f = f

no_last_dot : (cs : List ℕ) → last_is_dot (before_dot cs) ≡ false
no_last_dot [] = refl
no_last_dot (c ∷ cs) = last_more (c == 46) c (before_dot cs) refl (no_last_dot cs)

pub not_ended : (cs : List ℕ) → ends_in_dot (plain_decimal cs) ≡ false
unfolding ends_in_dot
not_ended cs =
    let ds : List ℕ = plain_decimal cs in
    let h = heads (before_dot ds) ds (texts_of (behind_dots ds)) [] (one_index cs) in
    ap last_is_dot (sym h.0) ∙ no_last_dot ds

-- it fits as the last number
index_fits : (l : Tree) (cs : List ℕ) → FitsForms l → FitsForms (index_field l cs)
unfolding table has_step
index_fits l cs f = (
  refl,
  (((refl, refl, refl), (refl, tt)), (([], refl), (refl, are_plain cs))),
  (refl, ap not (not_ended cs)),
  λ m. lone_index m cs,
  f,
)

fields_fit : (l : Tree) (texts : List (List ℕ)) → FitsForms l → FitsForms (index_fields l texts)
fields_fit l [] f = f
fields_fit l (cs ∷ texts) f = fields_fit (index_field l cs) texts (index_fits l cs f)

front_fits : (l x : Tree) → IsNumbers x → FitsForms l → FitsForms (fields_in_front l x)
front_fits l End h f = f
front_fits l (Again (ALiteral cs) x) h f = front_fits (index_fields l (indices cs)) x h (fields_fit l (indices cs) f)
front_fits l _ h f = absurd h

last_fits : (k : Kind) (l d x z : Tree) → IsLast k z → Fits (Pair (Pair d (Called the_indices x)) z) (table k)
    → IsMeant k (Pair (Pair d (Called the_indices x)) z) → FitsForms l → FitsForms (last_fields l k d z)
unfolding table has_step
last_fits ExprField l d x (First z) h f m g = (refl, ((f.0.0, (refl, tt)), f.1), (refl, refl), λ m. refl, g)
last_fits ExprField l d x (Second (Called the_value (ALiteral cs))) h f m g = fields_fit l (indices cs) g
last_fits ExprMethodCall l d x z h f m g = (refl, ((f.0.0, (refl, tt)), f.1), (refl, m.1), λ m. refl, g)
last_fits ExprAwait l d x z h f m g = (refl, ((f.0.0, (refl, tt)), f.1), refl, λ m. refl, g)
last_fits _ l d x z h f m g = absurd h

own_fits : (k : Kind) (l y : Tree) → IsBehind k y → Fits y (table k) → IsMeant k y → FitsForms l
    → FitsForms (dotted_own l k y)
own_fits k l (Pair (Pair d (Called the_indices x)) z) h f m g =
    last_fits k (fields_in_front l x) d x z h.1 f m (front_fits l x h.0 g)
own_fits k l _ h f m g = absurd h

pub dotted_fits : (k : Kind) (l y : Tree) → IsDot k y → Fits y (table k) → IsMeant k y → FitsForms l
    → FitsForms (dotted l k y)
dotted_fits ExprField l y h f m g = own_fits ExprField l y h f m g
dotted_fits ExprMethodCall l y h f m g = own_fits ExprMethodCall l y h f m g
dotted_fits ExprAwait l y h f m g = own_fits ExprAwait l y h f m g
dotted_fits _ l y h f m g = absurd h

-- and its form has the operand that it can have
field_operands : (l : Tree) (y : Tree) → HasOperands l → HasOperands (Back l ExprField y)
unfolding has_form_step back has_right level ends_in_dot
field_operands l y g = (
  (refl, Plain, Punct 46 Apart ∷ Literal (codes "0") ∷ [], refl),
  refl,
  g,
  λ s. absurd (false≢true s),
)

fields_operands : (l : Tree) (texts : List (List ℕ)) → HasOperands l
    → HasOperands (index_fields l texts)
fields_operands l [] g = g
fields_operands l (cs ∷ texts) g =
    fields_operands (index_field l cs) texts (field_operands l (own_number (plain_decimal cs)) g)

front_operands : (l x : Tree) → IsNumbers x → HasOperands l → HasOperands (fields_in_front l x)
front_operands l End h g = g
front_operands l (Again (ALiteral cs) x) h g =
    front_operands (index_fields l (indices cs)) x h (fields_operands l (indices cs) g)
front_operands l _ h g = absurd h

last_operands : (k : Kind) (l d z : Tree) → IsLast k z → IsBackKind k → MayLack k → HasOperands l
    → HasOperands (last_fields l k d z)
last_operands ExprField l d (First z) h b m g = (b, m, g, λ s. absurd (false≢true s))
last_operands ExprField l d (Second (Called the_value (ALiteral cs))) h b m g = fields_operands l (indices cs) g
last_operands ExprMethodCall l d z h b m g = (b, m, g, λ s. absurd (false≢true s))
last_operands ExprAwait l d z h b m g = (b, m, g, λ s. absurd (false≢true s))
last_operands _ l d z h b m g = absurd h

own_operands : (k : Kind) (l y : Tree) → IsBehind k y → IsBackKind k → MayLack k → HasOperands l
    → HasOperands (dotted_own l k y)
own_operands k l (Pair (Pair d (Called the_indices x)) z) h b m g =
    last_operands k (fields_in_front l x) d z h.1 b m (front_operands l x h.0 g)
own_operands k l _ h b m g = absurd h

pub dotted_operands : (k : Kind) (l y : Tree) → IsDot k y → IsBackKind k → MayLack k → HasOperands l
    → HasOperands (dotted l k y)
dotted_operands ExprField l y h b m g = own_operands ExprField l y h b m g
dotted_operands ExprMethodCall l y h b m g = own_operands ExprMethodCall l y h b m g
dotted_operands ExprAwait l y h b m g = own_operands ExprAwait l y h b m g
dotted_operands _ l y h b m g = absurd h

-- and what holds of each form behind an operand holds of it, if it holds of the operand
module _ (P : Tree → Type 0) (behind : (l : Tree) (k : Kind) (y : Tree) → P (Back l k y)) where
  fields_keep : (l : Tree) (texts : List (List ℕ)) → P l → P (index_fields l texts)
  fields_keep l [] g = g
  fields_keep l (cs ∷ texts) g = fields_keep (index_field l cs) texts (behind _ _ _)

  front_keeps : (l x : Tree) → IsNumbers x → P l → P (fields_in_front l x)
  front_keeps l End h g = g
  front_keeps l (Again (ALiteral cs) x) h g =
      front_keeps (index_fields l (indices cs)) x h (fields_keep l (indices cs) g)
  front_keeps l _ h g = absurd h

  last_keeps : (k : Kind) (l d z : Tree) → IsLast k z → P l → P (last_fields l k d z)
  last_keeps ExprField l d (First z) h g = behind _ _ _
  last_keeps ExprField l d (Second (Called the_value (ALiteral cs))) h g = fields_keep l (indices cs) g
  last_keeps ExprMethodCall l d z h g = behind _ _ _
  last_keeps ExprAwait l d z h g = behind _ _ _
  last_keeps _ l d z h g = absurd h

  own_keeps : (k : Kind) (l y : Tree) → IsBehind k y → P l → P (dotted_own l k y)
  own_keeps k l (Pair (Pair d (Called the_indices x)) z) h g =
      last_keeps k (fields_in_front l x) d z h.1 (front_keeps l x h.0 g)
  own_keeps k l _ h g = absurd h

  pub dotted_keeps : (k : Kind) (l y : Tree) → IsDot k y → P l → P (dotted l k y)
  dotted_keeps ExprField l y h g = own_keeps ExprField l y h g
  dotted_keeps ExprMethodCall l y h g = own_keeps ExprMethodCall l y h g
  dotted_keeps ExprAwait l y h g = own_keeps ExprAwait l y h g
  dotted_keeps _ l y h g = absurd h

-- what was read, and what fits, has that shape
pub numbers_fit : (x : Tree) → Fits x (repeated (a_quoted ends_in_dot) (literal are_indices)) → IsNumbers x
numbers_fit End f = tt
numbers_fit (Again (ALiteral cs) x) f = numbers_fit x f.1
numbers_fit (Again _ x) f = absurd f.0
numbers_fit _ f = absurd f

dot_fit : (k : Kind) (g : Gram) (y : Tree) → ((z : Tree) → Fits z g → IsLast k z) → Fits y (dot ▸ g) → IsBehind k y
dot_fit k g (Pair (Pair (AMark c cs i) (Called n x)) z) h f = go n f.0.1.0
  where
    go : (n : Part) → n ≡ the_indices → IsBehind k (Pair (Pair (AMark c cs i) (Called n x)) z)
    go n e =
        subst (λ m. IsBehind k (Pair (Pair (AMark c cs i) (Called m x)) z)) (sym e)
        (numbers_fit x f.0.1.1, h z f.1)
dot_fit k g (Pair (Pair (AMark c cs i) _) z) h f = absurd f.0.1
dot_fit k g (Pair (Pair _ x) z) h f = absurd f.0.0
dot_fit k g (Pair _ z) h f = absurd f.0
dot_fit k g _ h f = absurd f

field_fit : (z : Tree) → Fits z field_end → IsLast ExprField z
field_fit (First z) f = tt
field_fit (Second (Called n (ALiteral cs))) f =
    subst (λ m. IsLast ExprField (Second (Called m (ALiteral cs)))) (sym f.1.0) tt
field_fit (Second (Called n _)) f = absurd f.1.1
field_fit (Second _) f = absurd f.1
field_fit _ f = absurd f

pub dot_fits : (k : Kind) (y : Tree) → is_dot k ≡ true → Fits y (table k) → IsDot k y
unfolding table
dot_fits k y e f =
    each_dot (λ j. Fits y (table j) → IsDot j y) (dot_fit ExprField field_end y field_fit)
    (dot_fit ExprMethodCall _ y (λ z i. tt)) (dot_fit ExprAwait _ y (λ z i. tt)) k e f

numbers_read : (x : Tree) (r : List Token) → Derives x (repeated (a_quoted ends_in_dot) (literal are_indices)) r
    → IsNumbers (kept x)
numbers_read End r d = tt
numbers_read (Again (ALiteral cs) x) r d = numbers_read x r d.2
numbers_read (Again _ x) r d = absurd d.1
numbers_read _ r d = absurd d

dot_got : (k : Kind) (g : Gram) (y : Tree) (r : List Token) → ((z : Tree) → Derives z g r → IsLast k (kept z))
    → Derives y (dot ▸ g) r → IsBehind k (kept y)
dot_got k g (Pair (Pair (AMark c cs i) (Called n x)) z) r h d = go n d.0.1.0
  where
    go : (n : Part) → n ≡ the_indices → IsBehind k (kept (Pair (Pair (AMark c cs i) (Called n x)) z))
    go n e =
        subst (λ m. IsBehind k (kept (Pair (Pair (AMark c cs i) (Called m x)) z))) (sym e)
        (numbers_read x _ d.0.1.1, h z d.1)
dot_got k g (Pair (Pair (AMark c cs i) _) z) r h d = absurd d.0.1
dot_got k g (Pair (Pair _ x) z) r h d = absurd d.0.0
dot_got k g (Pair _ z) r h d = absurd d.0
dot_got k g _ r h d = absurd d

field_got : (z : Tree) (r : List Token) → Derives z field_end r → IsLast ExprField (kept z)
field_got (First z) r d = tt
field_got (Second (Called n (ALiteral cs))) r d =
    subst (λ m. IsLast ExprField (Second (Called m (ALiteral cs)))) (sym d.1.0) tt
field_got (Second (Called n _)) r d = absurd d.1.1
field_got (Second _) r d = absurd d.1
field_got _ r d = absurd d

pub dot_read : (k : Kind) (y : Tree) (r : List Token) → is_dot k ≡ true → Derives y (table k) r → IsDot k (kept y)
unfolding table
dot_read k y r e d =
    each_dot (λ j. Derives y (table j) r → IsDot j (kept y)) (dot_got ExprField field_end y r (λ z i. field_got z r i))
    (dot_got ExprMethodCall _ y r (λ z i. tt)) (dot_got ExprAwait _ y r (λ z i. tt)) k e d
