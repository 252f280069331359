-- Quotes and hashes around an inside.
use Rattle.std.proofs.Common.{◌≡◌, ℕ, zero, suc, ◌<◌, List, [], ◌∷◌, ◌++◌, append_assoc, length, refl, sym, ◌∙◌, ap}
use Rattle.std.proofs.Common.{subst, arith}
use Rattle.std.specs.Prelude.{Option, Some, None, MatchOption, ◌≢◌, encode_utf8_all}
use denote.Ref.{Bor}
use Rattle.std.specs.Str.{chars, IsUtf8}
use Rattle.std.proofs.Math.Seq.{take-append_seam}
use Rattle.std.proofs.lemmas.List.{length-append}
use Rattle.std.proofs.lemmas.Str.{chars-append, chars-IsAscii, encodes-chars, encodes-append, encode_ascii}
use Rattle.std.proofs.lemmas.Str.{IsUtf8-take, IsUtf8-from_ascii, IsCharBoundary-at_seam}
use Rattle.std.proofs.lemmas.Str.Ascii.{IsAscii-nil, IsAscii-cons}
use Rattle.rust_escape.specs.Mode.{prefix_noraw}
use Rattle.rust_escape.specs.declared.mode.Mode.{Mode}
use Rattle.rust_lex.specs.Quoted.{hashes, opening_of, raw_closing}
use Rattle.rust_leaf.specs.Quoted.{cooked, raw, fenced, IsQuoted, in_quotes, behind_r, IsLiteralOf}
use Rattle.rust_leaf.specs.declared.quoted.Content.{Content}
use Rattle.rust_leaf.specs.declared.quoted.Content.TheVariants.{Text, Bytes, CText}
use Rattle.rust_leaf.proofs.Texts.{chars_behind}

pub heads : (x y : ℕ) (xs ys : List ℕ) → x ∷ xs ≡ y ∷ ys → (x ≡ y) × (xs ≡ ys)
heads x y xs ys e = let h : x ≡ y = cc in let t : xs ≡ ys = cc in (h, t)

pub apart : (x y : ℕ) (xs ys : List ℕ) → x < y → x ∷ xs ≡ y ∷ ys → ⊥
apart x y xs ys l e = let (h, _) = heads x y xs ys e in omega arith

-- a character of ASCII at the front of a text
pub behind_char : (c : ℕ) (bs : List ℕ) (r : Option (Bor (List ℕ))) → c < 128 → IsUtf8 bs
    → MatchOption r ((rest : List ℕ) → bs ≢ c ∷ rest) (λ x. bs ≡ c ∷ x.now)
    → MatchOption r ((rest : List ℕ) → chars bs ≡ c ∷ rest → ⊥) (λ x. chars bs ≡ c ∷ chars x.now)
behind_char c bs None l u n =
    λ rest e. n (encode_utf8_all rest)
    (sym (encodes-chars bs u) ∙ ap encode_utf8_all e ∙ ap (λ x. x ++ encode_utf8_all rest) (encode_ascii c l))
behind_char c bs (Some x) l u e = ap chars e ∙ chars_behind (c ∷ []) x.now (IsAscii-cons c [] l IsAscii-nil)

-- and at its end
utf8_front : (xs ys : List ℕ) → IsUtf8 (xs ++ ys) → IsUtf8 ys → IsUtf8 xs
utf8_front xs ys u v = subst IsUtf8 (take-append_seam xs ys)
    (IsUtf8-take (xs ++ ys) (length xs) u (IsCharBoundary-at_seam (xs ++ ys) xs ys refl v))

pub before_char : (c : ℕ) (bs : List ℕ) (r : Option (Bor (List ℕ))) → c < 128 → IsUtf8 bs
    → MatchOption r ((front : List ℕ) → bs ≢ front ++ (c ∷ [])) (λ x. bs ≡ x.now ++ (c ∷ []))
    → MatchOption r ((front : List ℕ) → chars bs ≡ front ++ (c ∷ []) → ⊥) (λ x. chars bs ≡ chars x.now ++ (c ∷ []))
before_char c bs None l u n = λ front e.
    n (encode_utf8_all front)
    (sym (encodes-chars bs u) ∙ ap encode_utf8_all e ∙ encodes-append front (c ∷ [])
    ∙ ap (λ x. encode_utf8_all front ++ (x ++ [])) (encode_ascii c l))
before_char c bs (Some x) l u e =
    let a = IsAscii-cons c [] l IsAscii-nil in
    let v = utf8_front x.now (c ∷ []) (subst IsUtf8 e u) (IsUtf8-from_ascii (c ∷ []) a) in
    ap chars e ∙ chars-append x.now (c ∷ []) v ∙ ap (λ cs. chars x.now ++ cs) (chars-IsAscii (c ∷ []) a)

-- the same character at two ends
pub last_same : (c : ℕ) (xs ys : List ℕ) → xs ++ (c ∷ []) ≡ ys ++ (c ∷ []) → xs ≡ ys
last_same c [] [] e = refl
last_same c [] (y ∷ ys) e = let l = ap length e in absurd (let k = length-append ys (c ∷ []) in omega arith)
last_same c (x ∷ xs) [] e = let l = ap length e in absurd (let k = length-append xs (c ∷ []) in omega arith)
last_same c (x ∷ xs) (y ∷ ys) e = let (f, k) =
    heads x y (xs ++ (c ∷ [])) (ys ++ (c ∷ [])) e in rw (f, last_same c xs ys k) refl

-- hashes stand in pairs
last_hash : (n : ℕ) → hashes n ++ (35 ∷ []) ≡ 35 ∷ hashes n
last_hash zero = refl
last_hash (suc n) = ap (λ x. 35 ∷ x) (last_hash n)

fenced_more : (n : ℕ) (inside : List ℕ) → fenced (suc n) inside ≡ 35 ∷ (fenced n inside ++ (35 ∷ []))
fenced_more n inside =
    ap (λ x. 35 ∷ x)
    (ap (λ x. hashes n ++ 34 ∷ (inside ++ 34 ∷ x)) (sym (last_hash n))
    ∙ ap (λ x. hashes n ++ 34 ∷ x) (sym (append_assoc inside (raw_closing n) (35 ∷ [])))
    ∙ sym (append_assoc (hashes n) (34 ∷ (inside ++ raw_closing n)) (35 ∷ [])))

-- hashes have been taken off both ends
pub record IsPeeled (text inner : List ℕ) : Type 0 where
  pub back : (n : ℕ) (inside : List ℕ) → inner ≡ fenced n inside → (m : ℕ) × (text ≡ fenced m inside)
  pub forth : (n : ℕ) (inside : List ℕ) → text ≡ fenced n inside → (m : ℕ) × (inner ≡ fenced m inside)

-- a hash at the front is one of a pair
one_in : (inner rest inside : List ℕ) (m : ℕ) → inner ≡ 35 ∷ rest → inner ≡ fenced m inside
    → (k : ℕ) × (rest ≡ fenced k inside ++ (35 ∷ []))
one_in inner rest inside zero f e = absurd (apart 34 35 (inside ++ (34 ∷ [])) rest (omega arith) (sym e ∙ f))
one_in inner rest inside (suc m) f e =
    (m, (heads 35 35 rest (fenced m inside ++ (35 ∷ [])) (sym f ∙ e ∙ fenced_more m inside)).1)

one_out : (inner rest next inside : List ℕ) (n : ℕ) → inner ≡ 35 ∷ rest → rest ≡ next ++ (35 ∷ [])
    → next ≡ fenced n inside → inner ≡ fenced (suc n) inside
one_out inner rest next inside n f g e = f ∙ ap (λ x. 35 ∷ x) (g ∙ ap (λ x. x ++ (35 ∷ [])) e)
    ∙ sym (fenced_more n inside)

pub peeled_more : (text inner rest next : List ℕ) → IsPeeled text inner → inner ≡ 35 ∷ rest → rest ≡ next ++ (35 ∷ [])
    → IsPeeled text next
peeled_more text inner rest next p f g = record {
  back = λ n inside e. p.back (suc n) inside (one_out inner rest next inside n f g e);
  forth = λ n inside e. let (m, k) = p.forth n inside e in let (j, l) =
      one_in inner rest inside m f k in (j, last_same 35 next (fenced j inside) (sym g ∙ l));
}

pub peeled_lone : (text inner rest : List ℕ) → IsPeeled text inner → inner ≡ 35 ∷ rest
    → ((front : List ℕ) → rest ≡ front ++ (35 ∷ []) → ⊥) → (n : ℕ) (inside : List ℕ) → text ≡ fenced n inside → ⊥
peeled_lone text inner rest p f never n inside e = let (m, k) = p.forth n inside e in let (j, l) =
    one_in inner rest inside m f k in never (fenced j inside) l

no_pair : (inner inside : List ℕ) (m : ℕ) → ((rest : List ℕ) → inner ≡ 35 ∷ rest → ⊥) → (inner ≡ fenced 0 inside → ⊥)
    → inner ≡ fenced m inside → ⊥
no_pair inner inside zero none never e = never e
no_pair inner inside (suc m) none never e = none (fenced m inside ++ (35 ∷ [])) (e ∙ fenced_more m inside)

peeled_never : (text inner : List ℕ) → IsPeeled text inner → ((rest : List ℕ) → inner ≡ 35 ∷ rest → ⊥)
    → ((inside : List ℕ) → inner ≡ fenced 0 inside → ⊥) → (n : ℕ) (inside : List ℕ) → text ≡ fenced n inside → ⊥
peeled_never text inner p none never n inside e = let (m, k) =
    p.forth n inside e in no_pair inner inside m none (never inside) k

pub peeled_end : (text inner : List ℕ) (r : Option (Bor (List ℕ))) → IsPeeled text inner
    → ((rest : List ℕ) → inner ≡ 35 ∷ rest → ⊥)
    → MatchOption r ((inside : List ℕ) → inner ≡ fenced 0 inside → ⊥) (λ x. inner ≡ fenced 0 (chars x.now))
    → MatchOption r ((n : ℕ) (inside : List ℕ) → text ≡ fenced n inside → ⊥)
    (λ x. (n : ℕ) × (text ≡ fenced n (chars x.now)))
peeled_end text inner None p none never = peeled_never text inner p none never
peeled_end text inner (Some x) p none e = p.back 0 (chars x.now) e

-- the two forms
pub data Form (content : Content) (mode : Mode) (text inside : List ℕ) : Type 0 where
  plain : mode ≡ cooked content → text ≡ prefix_noraw (cooked content) ++ fenced 0 inside
      → Form content mode text inside
  hashed : (n : ℕ) → mode ≡ raw content → text ≡ prefix_noraw (cooked content) ++ 114 ∷ fenced n inside
      → Form content mode text inside

cooked_opening : (content : Content) (inside : List ℕ)
    → opening_of (cooked content) ++ (inside ++ (34 ∷ [])) ≡ prefix_noraw (cooked content) ++ fenced 0 inside
cooked_opening Text inside = refl
cooked_opening Bytes inside = refl
cooked_opening CText inside = refl

raw_opening : (content : Content) (rest : List ℕ)
    → opening_of (raw content) ++ rest ≡ prefix_noraw (cooked content) ++ 114 ∷ rest
raw_opening Text rest = refl
raw_opening Bytes rest = refl
raw_opening CText rest = refl

pub form : (content : Content) (mode : Mode) (text inside : List ℕ) → IsQuoted content mode text inside
    → Form content mode text inside
form content _ _ inside in_quotes = plain refl (cooked_opening content inside)
form content _ _ inside (behind_r n) = hashed n refl (raw_opening content (fenced n inside))

pub plain_quoted : (content : Content) (text rest inside : List ℕ) → text ≡ prefix_noraw (cooked content) ++ rest
    → rest ≡ fenced 0 inside → IsQuoted content (cooked content) text inside
plain_quoted content text rest inside e f =
    subst (λ x. IsQuoted content (cooked content) x inside)
    (sym (e ∙ ap (λ x. prefix_noraw (cooked content) ++ x) f ∙ sym (cooked_opening content inside))) in_quotes

pub raw_quoted : (content : Content) (text rest behind inside : List ℕ) (n : ℕ)
    → text ≡ prefix_noraw (cooked content) ++ rest → rest ≡ 114 ∷ behind → behind ≡ fenced n inside
    → IsQuoted content (raw content) text inside
raw_quoted content text rest behind inside n e f g =
    let whole : text ≡ prefix_noraw (cooked content) ++ 114 ∷ fenced n inside = e
    ∙ ap (λ x. prefix_noraw (cooked content) ++ x) (f ∙ ap (λ x. 114 ∷ x) g) in
    subst (λ x. IsQuoted content (raw content) x inside) (sym (whole ∙ sym (raw_opening content (fenced n inside))))
    (behind_r n)

front_same : (xs ys zs : List ℕ) → xs ++ ys ≡ xs ++ zs → ys ≡ zs
front_same [] ys zs e = e
front_same (x ∷ xs) ys zs e = let k : xs ++ ys ≡ xs ++ zs = cc in front_same xs ys zs k

fenced_front : (n : ℕ) (inside rest : List ℕ) → fenced n inside ≡ 114 ∷ rest → ⊥
fenced_front zero inside rest e = apart 34 114 (inside ++ (34 ∷ [])) rest (omega arith) e
fenced_front (suc n) inside rest e =
    apart 35 114 (fenced n inside ++ (35 ∷ [])) rest (omega arith) (sym (fenced_more n inside) ∙ e)

-- one literal has one inside
fenced_same : (n m : ℕ) (xs ys : List ℕ) → fenced n xs ≡ fenced m ys → xs ≡ ys
fenced_same zero zero xs ys e = last_same 34 xs ys (heads 34 34 (xs ++ (34 ∷ [])) (ys ++ (34 ∷ [])) e).1
fenced_same zero (suc m) xs ys e =
    absurd (apart 34 35 (xs ++ (34 ∷ [])) (fenced m ys ++ (35 ∷ [])) (omega arith) (e ∙ fenced_more m ys))
fenced_same (suc n) zero xs ys e =
    absurd (apart 34 35 (ys ++ (34 ∷ [])) (fenced n xs ++ (35 ∷ [])) (omega arith) (sym e ∙ fenced_more n xs))
fenced_same (suc n) (suc m) xs ys e =
    fenced_same n m xs ys (last_same 35 (fenced n xs) (fenced m ys)
    (heads 35 35 (fenced n xs ++ (35 ∷ [])) (fenced m ys ++ (35 ∷ []))
    (sym (fenced_more n xs) ∙ e ∙ fenced_more m ys)).1)

same_form : (content : Content) (mode other : Mode) (text xs ys : List ℕ) → Form content mode text xs
    → Form content other text ys → (mode ≡ other) × (xs ≡ ys)
same_form content mode other text xs ys (plain a e) (plain b f) = (
  a ∙ sym b,
  fenced_same 0 0 xs ys
      (front_same (prefix_noraw (cooked content)) (fenced 0 xs) (fenced 0 ys) (sym e ∙ f)),
)
same_form content mode other text xs ys (plain a e) (hashed n b f) =
    absurd (fenced_front 0 xs (fenced n ys)
    (front_same (prefix_noraw (cooked content)) (fenced 0 xs) (114 ∷ fenced n ys) (sym e ∙ f)))
same_form content mode other text xs ys (hashed n a e) (plain b f) =
    absurd (fenced_front 0 ys (fenced n xs)
    (front_same (prefix_noraw (cooked content)) (fenced 0 ys) (114 ∷ fenced n xs) (sym f ∙ e)))
same_form content mode other text xs ys (hashed n a e) (hashed m b f) =
    let k : 114 ∷ fenced n xs ≡ 114 ∷ fenced m ys =
    front_same (prefix_noraw (cooked content)) (114 ∷ fenced n xs) (114 ∷ fenced m ys) (sym e ∙ f) in
    (a ∙ sym b, fenced_same n m xs ys (heads 114 114 (fenced n xs) (fenced m ys) k).1)

pub one_inside : (content : Content) (mode other : Mode) (text xs ys : List ℕ) → IsQuoted content mode text xs
    → IsQuoted content other text ys → (mode ≡ other) × (xs ≡ ys)
one_inside content mode other text xs ys h k =
    same_form content mode other text xs ys (form content mode text xs h) (form content other text ys k)

-- no literal
pub no_prefix : (content : Content) (text : List ℕ)
    → ((rest : List ℕ) → text ≡ prefix_noraw (cooked content) ++ rest → ⊥) → IsLiteralOf content text → ⊥
no_prefix content text never (mode, inside, h) = by_form (form content mode text inside h)
  where
    by_form : Form content mode text inside → ⊥
    by_form (plain a e) = never (fenced 0 inside) e
    by_form (hashed n a e) = never (114 ∷ fenced n inside) e
