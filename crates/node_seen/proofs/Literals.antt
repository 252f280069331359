-- A literal that stands first begins with no minus.
use Rattle.std.proofs.Common.{◌≡◌, ◌∙◌, List, [], ◌∷◌, refl, sym, ap}
use Rattle.std.specs.Prelude.{Bool, true, false, cond, not}
use Rattle.rust_leaf.specs.Leaf.{literal_text}
use Rattle.rust_leaf.specs.Minus.{starts_with_minus}
use Rattle.rust_leaf.specs.declared.literal.Literal as Literals
use Rattle.proc_macro2.specs.Token.{Literal, Spanned}
use Rattle.syn_buffer.specs.Entries.{entry_token, is_laid, spanned_entries, spanned_entry}
use Rattle.syn_buffer.specs.Leaves.{literal_token}
use Rattle.syn_buffer.specs.Seen.{is_seen, seen}
use Rattle.syn_buffer.specs.declared.entry.Entry.{Entry}
use Rattle.syn_buffer.specs.declared.entry.Entry.TheVariants as entry
use Rattle.syn_buffer.proofs.Laid.{both, laid_past}

pub unsigned : (es : List Entry) (l : Literals.Literal) (ts : List Spanned) → is_laid es ≡ true
    → seen (spanned_entries es) ≡ literal_token l ∷ ts → not (starts_with_minus (literal_text l)) ≡ true
unsigned [] l ts h e = cc
unsigned (x ∷ es) l ts h e = either (λ g i. unsigned es l ts g i) (is_seen (entry_token x)) refl
  where
    shown : (b : Bool) → is_seen (entry_token x) ≡ b
        → cond b (spanned_entry x ∷ seen (spanned_entries es)) (seen (spanned_entries es)) ≡ literal_token l ∷ ts
    shown b p = ap (λ c. cond c (spanned_entry x ∷ seen (spanned_entries es)) (seen (spanned_entries es))) (sym p) ∙ e

    first : (x : Entry) → is_laid (x ∷ es) ≡ true → entry_token x ≡ Literal (literal_text l)
        → not (starts_with_minus (literal_text l)) ≡ true
    first (entry.Literal k) h p =
        let same : literal_text k.now ≡ literal_text l = cc in
        ap (λ cs. not (starts_with_minus cs)) (sym same) ∙ (both (not (starts_with_minus (literal_text k.now))) _ h).0
    first (entry.Open d s n) h p = cc
    first (entry.Close d s) h p = cc
    first (entry.Ident i) h p = cc
    first (entry.Punct q) h p = cc

    either : (is_laid es ≡ true → seen (spanned_entries es) ≡ literal_token l ∷ ts
        → not (starts_with_minus (literal_text l)) ≡ true)
        → (b : Bool) → is_seen (entry_token x) ≡ b → not (starts_with_minus (literal_text l)) ≡ true
    either more true p =
        let head : spanned_entry x ≡ literal_token l = cc (shown true p) in
        first x h (ap (λ (t : Spanned). t.token) head)
    either more false p = more (laid_past x es h p) (shown false p)
