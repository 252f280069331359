-- A name of a path is none of the words that begin other forms.
use Rattle.std.proofs.Common.{◌≡◌, ℕ, List, refl, sym, ap, ◌∙◌}
use Rattle.std.specs.Prelude.{Bool, true, false, ◌||◌, codes}
use Rattle.std.proofs.lemmas.Slice.Eq.{bytes_eq-Decides}
use Rattle.syn_grammar.specs.Words.{is_ident, is_name, is_path_keyword, is_plain_name}
use Rattle.rust_leaf.specs.Keywords.{is_reserved, same_text}
use Rattle.reader_fast.specs.Names.{IsName}
use Rattle.reader_fast.specs.declared.names.Name.{Name}
use Rattle.reader_fast.specs.declared.names.Name.TheVariants as names

-- a word that passes is none that doesn't
pub another : (p : List ℕ → Bool) (word cs : List ℕ) → p word ≡ false → p cs ≡ true → same_text word cs ≡ false
another p word cs h g = go (same_text word cs) refl
  where
    go : (b : Bool) → same_text word cs ≡ b → b ≡ false
    go false f = refl
    go true f = sym g ∙ ap p (sym ((bytes_eq-Decides word cs).0 f)) ∙ h

-- none of these words is a name
pub no_name : (word cs : List ℕ) → is_name word ≡ false → is_name cs ≡ true → same_text word cs ≡ false
no_name word cs h g = another is_name word cs h g

pub no_path_keyword : (cs : List ℕ) → is_plain_name cs ≡ true → is_path_keyword cs ≡ false
unfolding is_path_keyword is_plain_name is_reserved
no_path_keyword cs h =
    rw (
      another is_plain_name (codes "self") cs refl h,
      another is_plain_name (codes "super") cs refl h,
      another is_plain_name (codes "crate") cs refl h,
    )

some : (a b c : Bool) → (a || c) ≡ true → (a || b || c) ≡ true
some true true c h = refl
some true false c h = refl
some false true c h = refl
some false false c h = h

keyword : (a b c : Bool) → b ≡ true → (a || b || c) ≡ true
keyword true true c h = refl
keyword true false c h = refl
keyword false true c h = refl
keyword false false c h = absurd (cc h)

pub is_some_name : (n : Name) (cs : List ℕ) → IsName n cs → is_name cs ≡ true
unfolding is_name is_plain_name
is_some_name names.Plain cs h = some (is_ident cs) (is_path_keyword cs) (same_text (codes "Self") cs) h
is_some_name names.Keyword cs h = keyword (is_ident cs) (is_path_keyword cs) (same_text (codes "Self") cs) h
