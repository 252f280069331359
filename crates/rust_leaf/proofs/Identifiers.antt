-- Identifiers, by the bytes of a text.
use Rattle.std.proofs.Common.{◌≡◌, ℕ, List, ◌++◌, ap, ◌&&◌, ◌||◌, Bool, true, false, refl, sym, ◌∙◌, codes, IsTrue}
use Rattle.std.specs.List.{list_all}
use Rattle.std.specs.Prelude.{◌↔◌}
use Rattle.std.proofs.lemmas.Bool.{or_right}
use Rattle.std.specs.Ordering.{is_eq}
use Rattle.std.specs.declared.cmp.Ordering.{Ordering}
use Rattle.std.specs.declared.cmp.Ordering.TheVariants.{Less, Equal, Greater}
use Rattle.std.specs.Char.{encode_utf8, is_ascii}
use Rattle.std.specs.Str.{chars, IsUtf8, bytes_eq}
use Rattle.std.proofs.lemmas.Str.{chars_past_char}
use Rattle.unicode_ident.specs.Ident.{is_xid_continue}
use Rattle.std.specs.Prelude.{cond, Option, Some, None, length, ◌==◌}
use Rattle.rust_leaf.specs.declared.ident.IdentFault.{IdentFault}
use Rattle.rust_leaf.specs.declared.ident.IdentFault.TheVariants.{Empty, Number, Invalid, Reserved}
use Rattle.rust_leaf.specs.Identifier.{begins_identifier, is_identifier, is_never_raw, is_number, refusal}
use Rattle.rust_leaf.specs.Identifier.{refusal_of_raw, is_ident_text, or_else}
use Rattle.rust_leaf.proofs.Texts.{bytes_eq-chars, chars_behind, ascii_word}

pub identifier_past_first : (bs rest : List ℕ) (c : ℕ) → IsUtf8 bs → bs ≡ encode_utf8 c ++ rest
    → is_identifier (chars bs) ≡ (begins_identifier c && list_all is_xid_continue (chars rest))
identifier_past_first bs rest c u e = ap is_identifier (chars_past_char bs rest c u e)

same_word : (bs word : List ℕ) → IsUtf8 bs → IsTrue (list_all is_ascii word)
    → bytes_eq bs word ≡ bytes_eq (chars bs) word
same_word bs word u a = sym (bytes_eq-chars bs word u (ascii_word word a))

or_five : (a b c d e : Bool) → ((((a || b) || c) || d) || e) ≡ (a || (b || (c || (d || (e || false)))))
or_five true b c d e = refl
or_five false true c d e = refl
or_five false false true d e = refl
or_five false false false true e = refl
or_five false false false false true = refl
or_five false false false false false = refl

pub reserved_texts : (bs : List ℕ) → IsUtf8 bs
    → ((((bytes_eq bs (codes "_") || bytes_eq bs (codes "super")) || bytes_eq bs (codes "self"))
    || bytes_eq bs (codes "Self")) || bytes_eq bs (codes "crate")) ≡ is_never_raw (chars bs)
reserved_texts bs u =
    or_five (bytes_eq bs (codes "_")) (bytes_eq bs (codes "super")) (bytes_eq bs (codes "self"))
    (bytes_eq bs (codes "Self")) (bytes_eq bs (codes "crate"))
    ∙ rw (
      same_word bs (codes "_") u refl,
      same_word bs (codes "super") u refl,
      same_word bs (codes "self") u refl,
      same_word bs (codes "Self") u refl,
      same_word bs (codes "crate") u refl,
    ) refl

-- a raw identifier's characters
pub raw_text : (bs mark text : List ℕ) → mark ≡ codes "r#" → text ≡ mark ++ bs → chars text ≡ codes "r#" ++ chars bs
raw_text bs mark text e f = ap chars f ∙ ap (λ x. chars (x ++ bs)) e
    ∙ chars_behind (codes "r#") bs (ascii_word (codes "r#") refl)

-- an order ties exactly where a test holds that tells its ties
pub told_equal : (o : Ordering) (b : Bool) → is_eq o ≡ b → (o ≡ Equal) ↔ IsTrue b
told_equal Less b e = ((λ h. cc), (λ h. cc))
told_equal Equal b e = ((λ h. sym e), (λ h. refl))
told_equal Greater b e = ((λ h. cc), (λ h. cc))

-- what isn't refused is an identifier
accepted : (empty number fits : Bool)
    → cond empty (Some Empty) (cond number (Some Number) (cond fits None (Some Invalid))) ≡ None → IsTrue fits
accepted true number fits e = cc
accepted false true fits e = cc
accepted false false true e = refl
accepted false false false e = cc

pub accepted_identifier : (cs : List ℕ) → refusal cs ≡ None → IsTrue (is_identifier cs)
accepted_identifier cs e = accepted (length cs == 0) (is_number cs) (is_identifier cs) e

accepted_raw : (refused : Option IdentFault) (reserved : Bool)
    → or_else refused (cond reserved (Some Reserved) None) ≡ None → (refused ≡ None) × (reserved ≡ false)
accepted_raw (Some fault) reserved e = cc
accepted_raw None true e = cc
accepted_raw None false e = (refl, refl)

pub identifier_text : (cs : List ℕ) → refusal cs ≡ None → IsTrue (is_ident_text cs)
identifier_text cs e = rw (accepted_identifier cs e) refl

pub raw_identifier_text : (cs : List ℕ) → refusal_of_raw cs ≡ None → IsTrue (is_ident_text (codes "r#" ++ cs))
raw_identifier_text cs e =
    let h = accepted_raw (refusal cs) (is_never_raw cs) e in
    rw (accepted_identifier cs h.0, h.1) (or_right (is_identifier (codes "r#" ++ cs)) true refl)

-- a raw identifier that has been put together
pub raw_printed : (bs mark text : List ℕ) → mark ≡ codes "r#" → text ≡ mark ++ bs → None ≡ refusal (chars bs)
    → false ≡ is_never_raw (chars bs) → IsTrue (is_ident_text (chars text))
raw_printed bs mark text m t f r =
    let e : refusal_of_raw (chars bs) ≡ None = rw (sym f, sym r) refl in
    rw (raw_text bs mark text m t) (raw_identifier_text (chars bs) e)
