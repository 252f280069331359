-- Texts with and without r#.
use Rattle.std.proofs.Common.{◌≡◌, ℕ, ◌&&◌, Bool, true, false, List, ◌∷◌, IsTrue, refl, sym, ◌∙◌, ap, subst}
use Rattle.std.proofs.Common.{arith}
use Rattle.std.specs.Prelude.{◌||◌, not}
use Rattle.std.specs.List.{list_all}
use Rattle.std.specs.Str.{chars, encode_utf8_all}
use Rattle.unicode_ident.specs.Ident.{is_xid_continue}
use Rattle.unicode_ident.proofs.IdentLemmas.{is_xid_continue-ascii}
use Rattle.rust_leaf.specs.Identifier.{begins_identifier, is_ident_text, is_identifier, is_raw_identifier, is_never_raw}
use Rattle.rust_leaf.specs.Leaf.{ident_text}
use Rattle.rust_leaf.specs.declared.ident.Ident.{Ident}
use Rattle.rust_leaf.proofs.Texts.{printed_leaf}
use Rattle.syn_input.specs.Raw.{unraw_text}

and_false : (a : Bool) → (a && false) ≡ false
and_false true = refl
and_false false = refl

first_true : (a b : Bool) → IsTrue (a && b) → IsTrue a
first_true true b h = refl
first_true false b h = h

second_true : (a b : Bool) → a ≡ false → IsTrue (a || b) → IsTrue b
second_true true b e h = cc
second_true false b e h = h

or_first : (a b : Bool) → IsTrue a → IsTrue (a || b)
or_first true b h = refl
or_first false b h = cc

-- # goes on no identifier
no_hash : (cs : List ℕ) → is_identifier (114 ∷ 35 ∷ cs) ≡ false
no_hash cs =
    ap (λ b. begins_identifier 114 && (b && list_all is_xid_continue cs)) (is_xid_continue-ascii 35 (omega arith))
    ∙ and_false (begins_identifier 114)

-- behind the r# of an identifier's text stands that of an identifier
pub behind_raw_text : (cs : List ℕ) → IsTrue (is_ident_text (114 ∷ 35 ∷ cs)) → IsTrue (is_ident_text cs)
behind_raw_text cs h =
    let raw : IsTrue (is_identifier cs && not (is_never_raw cs)) =
    second_true (is_identifier (114 ∷ 35 ∷ cs)) (is_raw_identifier (114 ∷ 35 ∷ cs)) (no_hash cs) h in
    or_first (is_identifier cs) (is_raw_identifier cs) (first_true (is_identifier cs) (not (is_never_raw cs)) raw)

-- what an identifier prints are its characters
pub printed_ident : (i : Ident) (bs : List ℕ) → bs ≡ encode_utf8_all (ident_text i) → chars bs ≡ ident_text i
printed_ident i bs e = ap chars e ∙ ap chars (printed_leaf i.text)

-- what stands behind its r# is an identifier's text
pub text_behind_raw : (i : Ident) (bs cs : List ℕ) → chars bs ≡ ident_text i → chars bs ≡ 114 ∷ 35 ∷ cs
    → IsTrue (is_ident_text cs)
text_behind_raw i bs cs e f =
    behind_raw_text cs (subst (λ w. IsTrue (is_ident_text w)) (sym e ∙ f) i.is_printed)

-- and its text without r#
pub unraw_behind : (i : Ident) (bs cs : List ℕ) → chars bs ≡ ident_text i → chars bs ≡ 114 ∷ 35 ∷ cs
    → cs ≡ unraw_text (ident_text i)
unraw_behind i bs cs e f = ap unraw_text (sym f ∙ e)

-- which is its text where it has none
pub unraw_none : (i : Ident) (bs : List ℕ) → chars bs ≡ ident_text i → unraw_text (chars bs) ≡ chars bs
    → ident_text i ≡ unraw_text (ident_text i)
unraw_none i bs e f = sym (sym (ap unraw_text e) ∙ f ∙ e)
