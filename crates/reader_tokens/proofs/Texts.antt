-- Texts of words and of literals, as code compares them.
use Rattle.std.proofs.Common.{◌≡◌, ℕ, List, refl, sym, ap, ◌∙◌}
use Rattle.std.specs.Prelude.{Bool, true, false, ◌↔◌, IsTrue, codes}
use Rattle.std.specs.Str.{bytes_eq, chars}
use Rattle.std.proofs.lemmas.Slice.Eq.{bytes_eq-Decides}
use Rattle.rust_leaf.specs.Keywords.{same_text}
use Rattle.reader_table.specs.Words.{keyword_text}
use Rattle.reader_table.specs.declared.word.Keyword.{Keyword}
use Rattle.reader_table.specs.declared.word.Keyword.TheVariants as keywords

-- a keyword is of one byte a character
pub keyword_chars : (k : Keyword) → chars (keyword_text k) ≡ keyword_text k
unfolding chars
keyword_chars keywords.Unsafe = refl
keyword_chars keywords.Const = refl
keyword_chars keywords.Mut = refl
keyword_chars keywords.Underscore = refl
keyword_chars keywords.For = refl
keyword_chars keywords.Async = refl
keyword_chars keywords.Impl = refl
keyword_chars keywords.Extern = refl
keyword_chars keywords.As = refl
keyword_chars keywords.Static = refl
keyword_chars keywords.Default = refl
keyword_chars keywords.Move = refl
keyword_chars keywords.Try = refl
keyword_chars keywords.Trait = refl
keyword_chars keywords.Auto = refl
keyword_chars keywords.Type = refl
keyword_chars keywords.SelfValue = refl
keyword_chars keywords.Ref = refl
keyword_chars keywords.If = refl
keyword_chars keywords.Fn = refl
keyword_chars keywords.Let = refl
keyword_chars keywords.Else = refl
keyword_chars keywords.Where = refl
keyword_chars keywords.Union = refl
keyword_chars keywords.Struct = refl
keyword_chars keywords.Mod = refl
keyword_chars keywords.In = refl
keyword_chars keywords.Enum = refl
keyword_chars keywords.Dyn = refl
keyword_chars keywords.Crate = refl
keyword_chars keywords.Yield = refl
keyword_chars keywords.While = refl
keyword_chars keywords.Use = refl
keyword_chars keywords.Safe = refl
keyword_chars keywords.Return = refl
keyword_chars keywords.Raw = refl
keyword_chars keywords.Pub = refl
keyword_chars keywords.Match = refl
keyword_chars keywords.Macro = refl
keyword_chars keywords.Loop = refl
keyword_chars keywords.Continue = refl
keyword_chars keywords.Break = refl
keyword_chars keywords.Await = refl
keyword_chars keywords.Super = refl
keyword_chars keywords.SelfType = refl

-- a comparison answers whether two texts are one
pub compared : (b : Bool) (cs ds : List ℕ) → (IsTrue b ↔ (ds ≡ cs)) → b ≡ same_text cs ds
compared b cs ds h = both b (bytes_eq cs ds) (λ e. (bytes_eq-Decides cs ds).1 (sym (h.0 e)))
    (λ e. h.1 (sym ((bytes_eq-Decides cs ds).0 e)))
  where
    both : (b c : Bool) → (b ≡ true → c ≡ true) → (c ≡ true → b ≡ true) → b ≡ c
    both true true f g = refl
    both false false f g = refl
    both true false f g = sym (f refl)
    both false true f g = g refl

-- what a test lets pass wherever two texts are one tells that they aren't
pub another : (b : Bool) (cs ds : List ℕ) → (ds ≡ cs → b ≡ true) → b ≡ false → false ≡ same_text cs ds
another b cs ds h e = by (bytes_eq cs ds) refl
  where
    by : (c : Bool) → bytes_eq cs ds ≡ c → false ≡ c
    by false f = refl
    by true f = sym e ∙ h (sym ((bytes_eq-Decides cs ds).0 f))

-- a word that a keyword's text is compared with
pub is_word : (k : Keyword) (w cs : List ℕ) (b : Bool) → w ≡ keyword_text k → b ≡ same_text (chars w) cs
    → b ≡ same_text (keyword_text k) cs
is_word k w cs b e f =
    f ∙ ap (λ x. same_text (chars x) cs) e ∙ ap (λ x. same_text x cs) (keyword_chars k)

-- true and false
pub true_chars : (cs : List ℕ) → same_text (chars (codes "true")) cs ≡ same_text (codes "true") cs
unfolding chars
true_chars cs = refl

pub false_chars : (cs : List ℕ) → same_text (chars (codes "false")) cs ≡ same_text (codes "false") cs
unfolding chars
false_chars cs = refl
