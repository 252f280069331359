-- What stands behind a dot is read wherever its form may stand: a name, a number, a method with its arguments, or
-- await.
use Rattle.std.proofs.Common.{◌≡◌, ℕ, List, [], ◌∷◌, ◌++◌, refl, sym, ap, ◌∙◌, subst, append_assoc}
use Rattle.std.specs.Prelude.{Bool, true, false, not, cond, Option, Some, None, codes}
use Rattle.std.proofs.lemmas.Slice.Eq.{bytes_eq-Decides}
use Rattle.proc_macro2.specs.Token.{Token, Closes, Ident, Opens, Punct}
use Rattle.rust_leaf.specs.declared.punct.Spacing.TheVariants.{Alone as Apart}
use Rattle.syn_grammar.specs.Kind.{Kind, Plain, ExprAwait, ExprField, ExprMethodCall}
use Rattle.syn_grammar.specs.Name.{the_indices, the_value}
use Rattle.syn_grammar.specs.Words.{ends_in_dot, is_ident}
use Rattle.syn_grammar.specs.Tree.{Tree, AWord, ALiteral, AMark, Nil, Pair, First, Second, End, Again, Group}
use Rattle.syn_grammar.specs.Tree.{Called, Back, flat}
use Rattle.syn_grammar.specs.Look.{Look, seen, sees, behind, first_seen, ◌or◌}
use Rattle.syn_grammar.specs.Say.{marks, parenthesis}
use Rattle.syn_grammar.specs.Expressions.{dot}
use Rattle.laws_reread_kinds.proofs.Dotted.{call_end}
use Rattle.syn_grammar.specs.Forms.{back}
use Rattle.syn_grammar.specs.Table.{table}
use Rattle.syn_grammar.specs.Derives.{Derives}
use Rattle.syn_grammar.specs.Kept.{index_field, index_fields, fields_in_front, last_fields, dotted, kept}
use Rattle.syn_grammar.specs.Words.{indices}
use Rattle.syn_grammar.specs.Normal.{normal}
use Rattle.laws_binding.proofs.Sights.{back_same}
use Rattle.laws_binding.proofs.Shells.{is_dot, each_dot}
use Rattle.laws_reread_expressions.specs.Formed.{IsBehind}
use Rattle.laws_reread_expressions.specs.Simple.{behind_dot, lone_await, lone_field, lone_number}
use Rattle.laws_reread_expressions.proofs.Dots.{await_behind, number_behind}
use Rattle.laws_reread_expressions.proofs.Dots.{no_await}
use Rattle.laws_reread_kinds.proofs.Fits.{Fits, IsMeant, IsWhole}
use Rattle.laws_reread_kinds.proofs.Readies.{OwnReady}
use Rattle.laws_reread.proofs.Split.{IsNumbers}
use Rattle.laws_reread.proofs.Indices.{numbers_fit}

-- No number stands in front where nothing is split.
abbrev own_front : Tree → Tree
own_front (Back l k (Pair (Pair d (Called n x)) z)) = x
own_front _ = End

fields_front : (l : Tree) (texts : List (List ℕ)) → own_front l ≡ End → own_front (index_fields l texts) ≡ End
fields_front l [] e = e
fields_front l (cs ∷ texts) e = fields_front (index_field l cs) texts refl

numbers_front : (l x : Tree) → own_front l ≡ End → own_front (fields_in_front l x) ≡ End
numbers_front l (Again (ALiteral cs) x) e =
    numbers_front (index_fields l (indices cs)) x (fields_front l (indices cs) e)
numbers_front l _ e = e

last_front : (k : Kind) (l d z : Tree) → own_front l ≡ End → own_front (last_fields l k d z) ≡ End
last_front ExprField l d (Second (Called the_value (ALiteral cs))) e = fields_front l (indices cs) e
last_front k l d z e = refl

is_end : (x : Tree) → IsNumbers x → kept x ≡ End → x ≡ End
is_end End h e = refl
is_end (Again (ALiteral cs) x) h e = cc
is_end _ h e = absurd h

no_front : (k : Kind) (d x z : Tree) → is_dot k ≡ true → IsNumbers x
    → IsWhole k (Pair (Pair d (Called the_indices x)) z) → x ≡ End
no_front k d x z i h w =
    is_end x h (sym (ap own_front (w Nil)) ∙ go k i)
  where
    last : (j : Kind) → own_front (last_fields (fields_in_front Nil (kept x)) j (kept d) (kept z)) ≡ End
    last j = last_front j (fields_in_front Nil (kept x)) (kept d) (kept z) (numbers_front Nil (kept x) refl)

    go : (j : Kind) → is_dot j ≡ true → own_front (dotted Nil j (kept (Pair (Pair d (Called the_indices x)) z))) ≡ End
    go =
        each_dot (λ j. own_front (dotted Nil j (kept (Pair (Pair d (Called the_indices x)) z))) ≡ End) (last ExprField)
        (last ExprMethodCall) (last ExprAwait)

-- so it is a dot alone that stands there
lone : (k : Kind) (w z : Tree) → is_dot k ≡ true → Fits w dot → IsWhole k (Pair w z) → Pair w z ≡ behind_dot z
lone k (Pair (AMark c cs i) (Called n x)) z e f w =
    ap (λ v. Pair (Pair (AMark v cs i) (Called n x)) z) f.0.0
    ∙ ap (λ v. Pair (Pair (AMark 46 v i) (Called n x)) z) f.0.1
    ∙ ap (λ v. Pair (Pair (AMark 46 [] v) (Called n x)) z) (sym f.0.2)
    ∙ ap (λ v. Pair (Pair (AMark 46 [] Apart) (Called v x)) z) f.1.0
    ∙ ap (λ v. Pair (Pair (AMark 46 [] Apart) (Called the_indices v)) z)
    (no_front k (AMark c cs i) x z e (numbers_fit x f.1.1)
    (subst (λ v. IsWhole k (Pair (Pair (AMark c cs i) (Called v x)) z)) f.1.0 w))
lone k (Pair (AMark c cs i) _) z e f w = absurd f.1
lone k (Pair _ x) z e f w = absurd f.0
lone k _ z e f w = absurd f

-- await, and a name or a number
await_own : (M : Tree → List Token → Type 0) (y : Tree) → Fits y (table ExprAwait) → IsWhole ExprAwait y
    → IsBehind (M y) ExprAwait y
unfolding table
await_own M (Pair w (AWord cs)) f i =
    let e : Pair w (AWord cs) ≡ lone_await =
    lone ExprAwait w (AWord cs) refl f.0 i
    ∙ ap (λ v. behind_dot (AWord v)) (sym ((bytes_eq-Decides (codes "await") cs).0 f.1)) in
    subst (λ v. IsBehind (M v) ExprAwait v) (sym e)
    (await_behind (M lone_await))
await_own M (Pair w _) f i = absurd f.1
await_own M _ f i = absurd f

not_ended : (b : Bool) → not b ≡ true → b ≡ false
not_ended false e = refl
not_ended true e = cc

field_own : (M : Tree → List Token → Type 0)
    → ((cs : List ℕ) → is_ident cs ≡ true → IsBehind (M (lone_field cs)) ExprField (lone_field cs)) → (y : Tree)
    → Fits y (table ExprField) → IsMeant ExprField y → IsWhole ExprField y
    → IsBehind (M y) ExprField y
unfolding table
field_own M names (Pair w (First (Called n (AWord cs)))) f m i =
    let e : Pair w (First (Called n (AWord cs))) ≡ lone_field cs =
    lone ExprField w (First (Called n (AWord cs))) refl f.0 i
    ∙ ap (λ v. behind_dot (First (Called v (AWord cs)))) f.1.1.0 in
    subst (λ v. IsBehind (M v) ExprField v) (sym e) (names cs f.1.1.1)
field_own M names (Pair w (First (Called n _))) f m i = absurd f.1.1.1
field_own M names (Pair w (First _)) f m i = absurd f.1.1
field_own M names (Pair w (Second (Called n (ALiteral cs)))) f m i =
    let e : Pair w (Second (Called n (ALiteral cs))) ≡ lone_number cs =
    lone ExprField w (Second (Called n (ALiteral cs))) refl f.0 i
    ∙ ap (λ v. behind_dot (Second (Called v (ALiteral cs)))) f.1.1.0 in
    subst (λ v. IsBehind (M v) ExprField v) (sym e)
    (number_behind (M (lone_number cs)) cs f.1.1.1 (not_ended (ends_in_dot cs) m.1))
field_own M names (Pair w (Second (Called n _))) f m i = absurd f.1.1.1
field_own M names (Pair w (Second _)) f m i = absurd f.1.1
field_own M names (Pair w _) f m i = absurd f.1
field_own M names _ f m i = absurd f

method_last : (a b : Bool) → a ≡ false → b ≡ true
    → cond a (Some ExprAwait) (cond b (Some ExprMethodCall) (Some ExprField)) ≡ Some ExprMethodCall
method_last a b e f =
    ap (λ c. cond c (Some ExprAwait) (cond b (Some ExprMethodCall) (Some ExprField))) e
    ∙ ap (λ c. cond c (Some ExprMethodCall) (Some ExprField)) f

behind_some : (b : Bool) (l : Look) (ts : List Token) → b ≡ true → seen (l ts) ≡ true
    → seen (behind (cond b (Some ts) None) l) ≡ true
behind_some true l ts e f = f
behind_some false l ts e f = cc

plain_method : (cs : List ℕ) (us : List Token) → is_ident cs ≡ true → sees (parenthesis or marks "::") us ≡ true
    → back Plain (Punct 46 Apart ∷ Ident cs ∷ us) ≡ Some ExprMethodCall
unfolding back
plain_method cs us h e =
    method_last _ _ (ap (λ b. seen (cond b (Some us) None)) (no_await cs h))
    (behind_some (is_ident cs) (parenthesis or marks "::") us h e)

or_second : (o p : Option (List Token)) → seen p ≡ true → seen (first_seen o p) ≡ true
or_second None p e = e
or_second (Some ts) p e = refl

call_seen : (g : Tree) (ts : List Token) → Derives g call_end ts
    → sees (parenthesis or marks "::") (flat g ++ ts) ≡ true
call_seen (Pair (First a) g) ts d =
    subst (λ us. sees (parenthesis or marks "::") us ≡ true) (sym (append_assoc (flat a) (flat g) ts))
    (or_second (parenthesis (flat a ++ (flat g ++ ts))) (marks "::" (flat a ++ (flat g ++ ts))) d.0.0)
call_seen (Pair (Second Nil) (Group e x)) ts d =
    ap (λ f. sees (parenthesis or marks "::") (Opens f ∷ ((flat x ++ Closes e ∷ []) ++ ts))) d.1.0
call_seen (Pair (Second Nil) _) ts d = absurd d.1
call_seen (Pair (Second _) g) ts d = absurd d.0.1
call_seen (Pair _ g) ts d = absurd d.0
call_seen _ ts d = absurd d

method_own : (M : Tree → List Token → Type 0) (y : Tree) → Fits y (table ExprMethodCall) → IsWhole ExprMethodCall y
    → OwnReady ExprMethodCall y
    → flat (normal (kept y)) ≡ flat y → IsBehind (M y) ExprMethodCall y
unfolding table
method_own M (Pair w (Pair (Called n (AWord cs)) g)) f i r h =
    let e : Pair w (Pair (Called n (AWord cs)) g) ≡ behind_dot (Pair (Called n (AWord cs)) g) =
    lone ExprMethodCall w (Pair (Called n (AWord cs)) g) refl f.0 i in
    record {
      goes_on = λ p ts s m. ap (λ v. back p (flat v ++ ts)) e
          ∙ back_same p Plain (Punct 46 Apart ∷ Ident cs ∷ (flat g ++ ts)) refl
          ∙ plain_method cs (flat g ++ ts) f.1.0.1 (call_seen g ts (r ts tt).0.1.1);
      read = λ ts m. (r ts tt).0;
      held = h;
    }
method_own M (Pair w (Pair (Called n _) g)) f i r h = absurd f.1.0.1
method_own M (Pair w (Pair _ g)) f i r h = absurd f.1.0
method_own M (Pair w _) f i r h = absurd f.1
method_own M _ f i r h = absurd f

pub dot_own : (M : Kind → Tree → List Token → Type 0)
    → ((cs : List ℕ) → is_ident cs ≡ true → IsBehind (M ExprField (lone_field cs)) ExprField (lone_field cs))
    → (k : Kind) (y : Tree) → is_dot k ≡ true → Fits y (table k) → IsMeant k y → IsWhole k y → OwnReady k y
    → flat (normal (kept y)) ≡ flat y → IsBehind (M k y) k y
dot_own M names k y e f m i r h =
    each_dot (λ j. Fits y (table j) → IsMeant j y → IsWhole j y → OwnReady j y → IsBehind (M j y) j y)
    (λ a b c d. field_own (M ExprField) names y a b c) (λ a b c d. method_own (M ExprMethodCall) y a c d h)
    (λ a b c d. await_own (M ExprAwait) y a c) k e f m i r

-- before else
else_field : (cs : List ℕ) (us : List Token) → is_ident cs ≡ true
    → back Plain (Punct 46 Apart ∷ Ident cs ∷ Ident (codes "else") ∷ us) ≡ Some ExprField
unfolding back
else_field cs us h = rw (no_await cs h, h) refl

pub field_before_else : (M : List Token → Type 0)
    → ((ts : List Token) → M ts → (us : List Token) × (ts ≡ Ident (codes "else") ∷ us)) → (cs : List ℕ)
    → is_ident cs ≡ true → IsBehind M ExprField (lone_field cs)
unfolding table
field_before_else M is cs h = record {
  goes_on = λ p ts s m. ap (λ us. back p (Punct 46 Apart ∷ Ident cs ∷ us)) (is ts m).1
      ∙ back_same p Plain (Punct 46 Apart ∷ Ident cs ∷ Ident (codes "else") ∷ (is ts m).0) refl
      ∙ else_field cs (is ts m).0 h;
  read = λ ts m. (((refl, refl), (refl, refl)), (ap (λ b. seen (cond b (Some ts) None)) h, (refl, h)));
  held = refl;
}
