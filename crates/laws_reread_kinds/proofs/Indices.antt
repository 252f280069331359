-- An index is held in plain decimal, which is an index too.
use Rattle.std.proofs.Common.{◌≡◌, ℕ, List, [], ◌∷◌, refl, ap, ◌∙◌}
use Rattle.std.specs.Prelude.{true, Option, Some, None, if◌then◌else◌, decimal}
use Rattle.std.proofs.lemmas.Bool.{ltb-true}
use Rattle.proc_macro2.specs.Token.{Literal}
use Rattle.syn_grammar.specs.Words.{integer, is_below, is_index, or_zero, plain_decimal}
use Rattle.syn_grammar.specs.Kind.{Plain, Member, Index}
use Rattle.syn_grammar.specs.Tree.{Tree, ALiteral, First, Second}
use Rattle.syn_grammar.specs.Table.{table}
use Rattle.syn_grammar.specs.Kept.{plain_index, plain_member}
use Rattle.syn_grammar.specs.Normal.{normal_in}
use Rattle.syn_grammar.proofs.Decimals.{integer_decimal, decimal_twice}
use Rattle.laws_reread_kinds.proofs.Fits.{Fits}
use Rattle.laws_reread_kinds.proofs.Tidied.{Held}

index_below : (o : Option ℕ) → is_below 4294967296 o ≡ true → is_below 4294967296 (integer (decimal (or_zero o))) ≡ true
index_below (Some n) h =
    ap (λ m. is_below 4294967296 (integer (decimal m))) (ap (λ b. if b then n else 0) h)
    ∙ ap (is_below 4294967296) (integer_decimal n (ltb-true n 4294967296 h)) ∙ h
index_below None h = cc

index_plain : (cs : List ℕ) → is_index cs ≡ true → is_index (plain_decimal cs) ≡ true
unfolding is_index plain_decimal
index_plain cs h = index_below (integer cs) h

pub index_normal : (v : Tree) → plain_index (normal_in Plain v) ≡ normal_in Plain (plain_index v)
index_normal (ALiteral cs) = refl
index_normal _ = refl

pub member_normal : (v : Tree) → plain_member (normal_in Plain v) ≡ normal_in Plain (plain_member v)
member_normal (Second v) = ap Second (index_normal v)
member_normal _ = refl

pub index_held : (w : Tree) → Fits w (table Index) → Held Index w
unfolding table
index_held (ALiteral cs) f =
    record {
      tree = ALiteral (plain_decimal cs);
      fits = index_plain cs f;
      printed = ap (λ ds. Literal ds ∷ []) (decimal_twice cs);
      kept_is = ap ALiteral (decimal_twice cs);
    }
index_held _ f = absurd f

pub member_held : (w : Tree) → Fits w (table Member) → Held Member w
unfolding table
member_held (First x) f = record { tree = First x; fits = f; printed = refl; kept_is = refl }
member_held (Second (ALiteral cs)) f =
    record {
      tree = Second (ALiteral (plain_decimal cs));
      fits = (f.0, index_plain cs f.1);
      printed = ap (λ ds. Literal ds ∷ []) (decimal_twice cs);
      kept_is = ap (λ ds. Second (ALiteral ds)) (decimal_twice cs);
    }
member_held (Second _) f = absurd f.1
member_held _ f = absurd f
