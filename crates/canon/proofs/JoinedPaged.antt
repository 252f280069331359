-- From the canonical form of joined texts to the page of their bytes.
use Rattle.std.proofs.Common.{◌≡◌, ℕ, zero, suc, ◌+◌, ◌<◌, List, [], ◌∷◌, ◌++◌, Bor, arith, refl, sym, ap, ap₂, ◌∙◌}
use Rattle.std.proofs.Common.{get_or, length, subst, take}
use Rattle.std.specs.Prelude.{encode_utf8, false, if◌then◌else◌, is_err, is_ok, Result, Ok, Err}
use Rattle.std.specs.Str.{chars, IsUtf8}
use Rattle.std.proofs.lemmas.Str.{encodes-chars}
use Rattle.rust_map.specs.Sources.{Sources, empty_from}
use Rattle.laws_programs.specs.Joined.{IsJoinedOutput}
use Rattle.canon.proofs.Joined.{taken_more}
use Rattle.canon.proofs.Paged.{line_feed}
use Rattle.canon.specs.Joined.{IsFaultAmong, LacksRoom, put_in, texts_of}
use Rattle.canon.specs.JoinedRun.{AreUtf8, IsJoinedFault, IsJoinedPage, IsTooLong, bytes_of, characters_of}
use Rattle.canon.specs.declared.fault.Fault.{Fault}
use Rattle.canon.specs.declared.fault.Fault.TheVariants.{NotUtf8, Lexical, Syntax, NotFirst, MapFull, Memory}
use Rattle.canon.specs.declared.fault.Fault.TheVariants.{Reading, Writing}

-- the characters of texts are those of their bytes
pub same_characters : (texts : List (Bor (List ℕ))) → texts_of texts ≡ characters_of (bytes_of texts)
same_characters [] = refl
same_characters (t ∷ ts) = ap (λ us. chars t.now ∷ us) (same_characters ts)

-- the output and a line feed are the page
pub joined_page_is : (texts : List (List ℕ)) (out page : List ℕ) → AreUtf8 texts → IsUtf8 out →
    IsJoinedOutput (characters_of texts) (chars out) → page ≡ out ++ encode_utf8 10 → IsJoinedPage texts page
joined_page_is texts out page utf8 written o e = record {
  text = utf8;
  output = chars out;
  canonical = o;
  is = e ∙ ap₂ (λ x y. x ++ y) (sym (encodes-chars out written)) line_feed;
}

-- a fault among texts is that of the run
pub joined_run_fault : (texts : List (List ℕ)) (fault : Fault) → AreUtf8 texts
    → IsFaultAmong (characters_of texts) fault → (fault ≡ MapFull → IsTooLong texts) → IsJoinedFault texts fault
joined_run_fault texts (Lexical place) utf8 f full = (utf8, f)
joined_run_fault texts (Syntax error place) utf8 f full = (utf8, f)
joined_run_fault texts (NotFirst index) utf8 f full = (utf8, f)
joined_run_fault texts MapFull utf8 f full = (utf8, full refl)
joined_run_fault texts Memory utf8 f full = tt
joined_run_fault texts NotUtf8 utf8 f full = absurd f
joined_run_fault texts Reading utf8 f full = absurd f
joined_run_fault texts Writing utf8 f full = absurd f

-- the texts that are joined are those of the bytes
pub characters_are : (texts items : List (Bor (List ℕ))) (bytes : List (List ℕ)) → texts ≡ items
    → bytes_of items ≡ bytes → texts_of texts ≡ characters_of bytes
characters_are texts items bytes e f = same_characters texts ∙ ap characters_of (ap bytes_of e ∙ f)

pub too_long : (map : Sources) (texts bytes : List (List ℕ)) → map ≡ empty_from 1 → texts ≡ characters_of bytes
    → LacksRoom false map (put_in texts) → IsTooLong bytes
too_long map texts bytes e f l =
    subst (λ (m : Sources). LacksRoom false m (put_in (characters_of bytes))) e
    (subst (λ (us : List (List ℕ)). LacksRoom false map (put_in us)) f l)

pub lacks_room_of : (map : Sources) (texts bytes : List (List ℕ)) → map ≡ empty_from 1 → texts ≡ characters_of bytes
    → IsTooLong bytes → LacksRoom false map (put_in texts)
lacks_room_of map texts bytes e f l =
    subst (λ (m : Sources). LacksRoom false m (put_in texts)) (sym e)
    (subst (λ (us : List (List ℕ)). LacksRoom false (empty_from 1) (put_in us)) (sym f) l)

-- an outcome isn't both
pub not_both : {A : Type 0} (r : Result A Fault) (a : A) (f : Fault) → r ≡ Ok a → r ≡ Err f → ⊥
not_both {A = A} r a f e h = wrong (sym e ∙ h)
  where
    wrong : ◌≡◌ {A = Result A Fault} (Ok a) (Err f) → ⊥
    wrong e = cc

-- one more of the texts

bytes_behind : (xs ys : List (Bor (List ℕ))) → bytes_of (xs ++ ys) ≡ bytes_of xs ++ bytes_of ys
bytes_behind [] ys = refl
bytes_behind (x ∷ xs) ys = ap (λ bs. x.now ∷ bs) (bytes_behind xs ys)

pushed : {A E B : Type 0} (r : Result A E) (xs ys : List B) → false ≡ is_err r → (if is_ok r then xs else ys) ≡ xs
pushed (Ok x) xs ys e = refl
pushed (Err f) xs ys e = cc

pub pushed_next : {A E : Type 0} (xs : List (Bor (List ℕ))) (i : ℕ) (d text : Bor (List ℕ))
    (old new : List (Bor (List ℕ))) (r : Result A E) → i < length xs → bytes_of old ≡ bytes_of (take i xs)
    → new ≡ (if is_ok r then old ++ text ∷ [] else old) → false ≡ is_err r → text.now ≡ (get_or xs i d).now
    → bytes_of new ≡ bytes_of (take (i + 1) xs)
pushed_next xs i d text old new r there before e ok same =
    ap bytes_of (e ∙ pushed r (old ++ text ∷ []) old ok) ∙ bytes_behind old (text ∷ [])
    ∙ ap₂ (λ bs b. bs ++ b ∷ []) before same
    ∙ sym (ap bytes_of (taken_more xs i d there) ∙ bytes_behind (take i xs) (get_or xs i d ∷ []))

pub text_at : (xs : List (Bor (List ℕ))) (i : ℕ) (d : Bor (List ℕ)) → i < length xs → AreUtf8 (bytes_of xs)
    → IsUtf8 (get_or xs i d).now
text_at [] i d h t = absurd (none i h)
  where
    none : (i : ℕ) → i < 0 → ⊥
    none i h = omega (arith, h)
text_at (x ∷ xs) zero d h t = t.0
text_at (x ∷ xs) (suc i) d h t = text_at xs i d (omega (arith, h)) t.1
