-- What stands behind the quote mark of a lifetime.
use Rattle.std.proofs.Common.{◌≡◌, ℕ, zero, suc, List, [], ◌∷◌, ◌++◌, append_assoc, drop, refl, sym, ap, ◌∙◌, subst}
use Rattle.std.proofs.Common.{inl, inr, ⊎_elim}
use Rattle.std.specs.Prelude.{true, false, not, ◌⊎◌, ◌&&◌, ◌||◌, ◌==◌, codes, nat_eq}
use Rattle.std.specs.List.{starts_with}
use Rattle.std.proofs.lemmas.Bool.{and_parts, and_from, and_left, and_right, or_cases, cases_Bool, eqb-true}
use Rattle.unicode_ident.proofs.Computing.{unicode_ident}
use Rattle.rust_lex.specs.Chars.{is_first, is_next, is_digit, begins, passes, is_quote_or_hash, is_tick}
use Rattle.rust_lex.specs.Chars.{is_tick_or_hash, past}
use Rattle.rust_escape.specs.declared.mode.Mode.{Mode}
use Rattle.rust_escape.specs.declared.mode.Mode.TheVariants as modes
use Rattle.rust_escape.specs.Mode.{is_raw}
use Rattle.rust_lex.specs.declared.piece.LiteralKind.{LiteralKind}
use Rattle.rust_lex.specs.declared.piece.PieceKind.{PieceKind}
use Rattle.rust_lex.specs.declared.piece.PieceKind.TheVariants.{Ident, Literal}
use Rattle.rust_lex.specs.Quoted.{hashes, raw_closing, IsRaw, IsTail, opening_of, opener_of, literal_kind}
use Rattle.rust_lex.specs.Word.{IsWord, begins_lifetime, begins_raw_mark, begins_raw_name, begins_never_raw}
use Rattle.rust_lex.specs.Piece.{IsIdent, IsLiteral, Fits}
use Rattle.rust_lex.specs.Scan.{Ends, scan, word}
use Rattle.rust_lex.proofs.Complete.{complete}
use Rattle.rust_lex.proofs.Ends.{past_all, past_word}
use Rattle.rust_lex.proofs.Fronts.{front-first, front-digit, r-first}
use Rattle.rust_lex.proofs.Openers.{hashes_no_name, raw_mark_is}
use Rattle.rust_lex.proofs.Raws.{raw_whole}
use Rattle.rust_lex.proofs.Sound.{word_none, word_some, word_raw, suffixed_some}
use Rattle.rust_lex.proofs.Taken.{option_cases}
use Rattle.proc_macro2.specs.Spacing.{is_prefixed_string}
use Rattle.rust_lex.specs.Calm.{IsCalm}
use Rattle.rust_lex.proofs.Quieter.{Shuns, calm_shuns, not_char}

shuns_tick_or_hash : Shuns is_tick_or_hash
shuns_tick_or_hash = record { space = refl; round = refl; square = refl }

shuns_tick : Shuns is_tick
shuns_tick = record { space = refl; round = refl; square = refl }

shuns_hash : Shuns (λ c. c == 35)
shuns_hash = record { space = refl; round = refl; square = refl }

-- an identifier that isn't raw
no_hash : (c : ℕ) (cs calmer : List ℕ) → passes is_next cs ≡ true → IsCalm calmer →
    begins_raw_mark (c ∷ (cs ++ calmer)) ≡ false
unfolding is_next unicode_ident
no_hash c [] [] h k = and_right (c == 114) false refl
no_hash c [] (d ∷ ds) h k = and_right (c == 114) (d == 35 && true)
    (and_left (d == 35) true (calm_shuns (λ c. c == 35) (d ∷ ds) shuns_hash k))
no_hash c (d ∷ cs) calmer h k =
    let (n, _) = and_parts (is_next d) (passes is_next cs) h in
    and_right (c == 114) (d == 35 && true) (and_left (d == 35) true (not_char is_next d 35 refl n))

plain_lifetime : (cs : List ℕ) → begins_raw_mark cs ≡ false → begins is_first cs ≡ true →
    begins is_tick_or_hash (past is_next cs) ≡ false → begins_lifetime cs ≡ true
unfolding begins_lifetime
plain_lifetime cs a b e = rw a (and_from (begins is_first cs) (not (begins is_tick_or_hash (past is_next cs))) b
    (ap not e))

raw_lifetime : (cs : List ℕ) → begins_raw_name cs ≡ true → begins is_tick (past is_next cs) ≡ false →
    begins_lifetime (114 ∷ 35 ∷ cs) ≡ true
unfolding begins_lifetime
raw_lifetime cs a b = and_from (begins_raw_name cs) (not (begins is_tick (past is_next cs))) a (ap not b)

word_ends : (cs calmer : List ℕ) → IsWord cs → begins is_next calmer ≡ false → past is_next (cs ++ calmer) ≡ calmer
word_ends [] calmer w n = elim w [ ]
word_ends (c ∷ cs) calmer w n = past_word c (cs ++ calmer) w.0 ∙ past_all is_next cs calmer w.1 n

word_first : (cs rest : List ℕ) → IsWord cs → begins is_first (cs ++ rest) ≡ true
word_first [] rest w = elim w [ ]
word_first (c ∷ cs) rest w = w.0

word_no_hash : (cs calmer : List ℕ) → IsWord cs → IsCalm calmer → begins_raw_mark (cs ++ calmer) ≡ false
word_no_hash [] calmer w k = elim w [ ]
word_no_hash (c ∷ cs) calmer w k = no_hash c cs calmer w.1 k

-- ' stands before an identifier
pub lifetime_word : (cs calmer : List ℕ) → IsIdent cs calmer → IsCalm calmer → begins_lifetime (cs ++ calmer) ≡ true
lifetime_word cs calmer h k =
    ⊎_elim
    (λ w. plain_lifetime (cs ++ calmer) (word_no_hash cs calmer w.0 k) (word_first cs calmer w.0)
    (ap (begins is_tick_or_hash) (word_ends cs calmer w.0 h.0)
    ∙ calm_shuns is_tick_or_hash calmer shuns_tick_or_hash k))
    (λ (name, e, w, kept). rw e (raw_lifetime (name ++ calmer)
    (and_from (begins is_first (name ++ calmer)) (not (begins_never_raw (name ++ calmer))) (word_first name calmer w)
    (ap not kept)) (ap (begins is_tick) (word_ends name calmer w h.0) ∙ calm_shuns is_tick calmer shuns_tick k)))
    h.1

-- and before a string with a prefix and without #
b_string : (cs : List ℕ) → begins_lifetime (98 ∷ 34 ∷ cs) ≡ true
unfolding begins_lifetime is_first is_next unicode_ident
b_string cs = refl

c_string : (cs : List ℕ) → begins_lifetime (99 ∷ 34 ∷ cs) ≡ true
unfolding begins_lifetime is_first is_next unicode_ident
c_string cs = refl

r_string : (cs : List ℕ) → begins_lifetime (114 ∷ 34 ∷ cs) ≡ true
unfolding begins_lifetime is_first is_next unicode_ident
r_string cs = refl

br_string : (cs : List ℕ) → begins_lifetime (98 ∷ 114 ∷ 34 ∷ cs) ≡ true
unfolding begins_lifetime is_first is_next unicode_ident
br_string cs = refl

cr_string : (cs : List ℕ) → begins_lifetime (99 ∷ 114 ∷ 34 ∷ cs) ≡ true
unfolding begins_lifetime is_first is_next unicode_ident
cr_string cs = refl

two_begin : (a b : ℕ) (cs : List ℕ) → starts_with nat_eq cs (a ∷ b ∷ []) ≡ true → (more : List ℕ) × (cs ≡ a ∷ b ∷ more)
two_begin a b [] h = cc
two_begin a b (c ∷ []) h = let (_, k) = and_parts (nat_eq a c) false h in cc
two_begin a b (c ∷ d ∷ cs) h =
    let (k, l) = and_parts (nat_eq a c) (nat_eq b d && true) h in
    let (l, _) = and_parts (nat_eq b d) true l in
    let e = eqb-true a c k in
    let f = eqb-true b d l in
    (cs, cc)

three_begin : (a b f : ℕ) (cs : List ℕ) → starts_with nat_eq cs (a ∷ b ∷ f ∷ []) ≡ true → (more : List ℕ) ×
    (cs ≡ a ∷ b ∷ f ∷ more)
three_begin a b f [] h = cc
three_begin a b f (c ∷ []) h = let (_, k) = and_parts (nat_eq a c) false h in cc
three_begin a b f (c ∷ d ∷ []) h = let (_, k) = and_parts (nat_eq a c) (nat_eq b d && false) h in
    let (_, l) = and_parts (nat_eq b d) false k in cc
three_begin a b f (c ∷ d ∷ e ∷ cs) h =
    let (k, l) = and_parts (nat_eq a c) (nat_eq b d && (nat_eq f e && true)) h in
    let (l, m) = and_parts (nat_eq b d) (nat_eq f e && true) l in
    let (m, _) = and_parts (nat_eq f e) true m in
    let x = eqb-true a c k in
    let y = eqb-true b d l in
    let z = eqb-true f e m in
    (cs, cc)

-- what holds of all that begins with one of the five openings
string_cases : (P : List ℕ → Type 0) → ((more : List ℕ) → P (98 ∷ 34 ∷ more)) → ((more : List ℕ) → P (99 ∷ 34 ∷ more)) →
    ((more : List ℕ) → P (114 ∷ 34 ∷ more)) → ((more : List ℕ) → P (98 ∷ 114 ∷ 34 ∷ more)) →
    ((more : List ℕ) → P (99 ∷ 114 ∷ 34 ∷ more)) → (cs : List ℕ) → is_prefixed_string cs ≡ true → P cs
string_cases P b c r br cr cs h =
    ⊎_elim
    (λ h. ⊎_elim
    (λ h. ⊎_elim
    (λ h. ⊎_elim
    (λ x. let (more, e) = two_begin 98 34 cs x in subst P (sym e) (b more))
    (λ x. let (more, e) = two_begin 99 34 cs x in subst P (sym e) (c more))
    (or_cases (starts_with nat_eq cs (codes "b\"")) (starts_with nat_eq cs (codes "c\"")) h))
    (λ x. let (more, e) = two_begin 114 34 cs x in subst P (sym e) (r more))
    (or_cases (starts_with nat_eq cs (codes "b\"") || starts_with nat_eq cs (codes "c\""))
    (starts_with nat_eq cs (codes "r\"")) h))
    (λ x. let (more, e) = three_begin 98 114 34 cs x in subst P (sym e) (br more))
    (or_cases (starts_with nat_eq cs (codes "b\"") || starts_with nat_eq cs (codes "c\"") || starts_with nat_eq cs
    (codes "r\"")) (starts_with nat_eq cs (codes "br\"")) h))
    (λ x. let (more, e) = three_begin 99 114 34 cs x in subst P (sym e) (cr more))
    (or_cases (starts_with nat_eq cs (codes "b\"") || starts_with nat_eq cs (codes "c\"") || starts_with nat_eq cs
    (codes "r\"") || starts_with nat_eq cs (codes "br\"")) (starts_with nat_eq cs (codes "cr\"")) h)

pub lifetime_string : (cs rest : List ℕ) → is_prefixed_string cs ≡ true → begins_lifetime (cs ++ rest) ≡ true
lifetime_string cs rest h = string_cases (λ x. begins_lifetime (x ++ rest) ≡ true) (λ m. b_string (m ++ rest))
    (λ m. c_string (m ++ rest)) (λ m. r_string (m ++ rest)) (λ m. br_string (m ++ rest))
    (λ m. cr_string (m ++ rest)) cs h

string_more : (cs more : List ℕ) → is_prefixed_string cs ≡ true → is_prefixed_string (cs ++ more) ≡ true
string_more cs more h = string_cases (λ x. is_prefixed_string (x ++ more) ≡ true) (λ m. refl) (λ m. refl) (λ m. refl)
    (λ m. refl) (λ m. refl) cs h

-- what stands behind ' begins as a word
pub lifetime_first : (cs : List ℕ) → begins_lifetime cs ≡ true → begins is_first cs ≡ true
unfolding begins_lifetime
lifetime_first cs h =
    ⊎_elim
    (λ m. rw (raw_mark_is cs m) r-first)
    (λ m. let l : (begins is_first cs && not (begins is_tick_or_hash (past is_next cs))) ≡
    true = rw m at h in let (f, _) =
    and_parts (begins is_first cs) (not (begins is_tick_or_hash (past is_next cs))) l in f)
    (cases_Bool (begins_raw_mark cs))

word_kind : (text rest : List ℕ) (k : PieceKind) → word text ≡ Ends k rest → (k ≡ Ident) ⊎
    ((l : LiteralKind) × (k ≡ Literal l))
word_kind text rest k e =
    ⊎_elim
    (λ h. let s = word_raw text h in inl cc)
    (λ h. ⊎_elim
    (λ n. let s = word_none text h n in inl cc)
    (λ (o, i). let (r, _, same) = suffixed_some (literal_kind o) _ k rest (sym (word_some text o h i)
    ∙ e) in inr (literal_kind o, cc))
    (option_cases (opener_of text)))
    (cases_Bool (begins_raw_mark text && begins_raw_name (drop 2 text)))

first_kind : (text rest : List ℕ) (k : PieceKind) → begins is_first text ≡ true → scan text ≡ Ends k rest →
    (k ≡ Ident) ⊎ ((l : LiteralKind) × (k ≡ Literal l))
first_kind [] rest k h e = cc
first_kind (c ∷ cs) rest k h e =
    let s : scan (c ∷ cs) ≡ word (c ∷ cs) = rw (front-first c h) refl in
    word_kind (c ∷ cs) rest k (sym s ∙ e)

-- an identifier or a literal
pub lifetime_kind : (k : PieceKind) (cs rest : List ℕ) → Fits k cs rest → begins_lifetime (cs ++ rest) ≡ true →
    (k ≡ Ident) ⊎ ((l : LiteralKind) × (k ≡ Literal l))
lifetime_kind k cs rest f h = first_kind (cs ++ rest) rest k (lifetime_first (cs ++ rest) h) (complete k cs rest f)

-- the raw strings with # are none
r_hash : (cs : List ℕ) → begins_raw_name cs ≡ false → begins_lifetime (114 ∷ 35 ∷ cs) ≡ false
unfolding begins_lifetime
r_hash cs h = and_left (begins_raw_name cs) (not (begins is_tick (past is_next cs))) h

br_hash : (cs : List ℕ) → begins_lifetime (98 ∷ 114 ∷ 35 ∷ cs) ≡ false
unfolding begins_lifetime is_first is_next unicode_ident
br_hash cs = refl

cr_hash : (cs : List ℕ) → begins_lifetime (99 ∷ 114 ∷ 35 ∷ cs) ≡ false
unfolding begins_lifetime is_first is_next unicode_ident
cr_hash cs = refl

b_tick : (cs : List ℕ) → begins_lifetime (98 ∷ 39 ∷ cs) ≡ false
unfolding begins_lifetime is_first is_next unicode_ident
b_tick cs = refl

tick_first : (cs : List ℕ) → begins is_first (39 ∷ cs) ≡ false
unfolding is_first unicode_ident
tick_first cs = refl

-- what follows the r of a raw string
raw_begins : (mode : Mode) (tail : List ℕ) → IsRaw mode tail → begins is_quote_or_hash tail ≡ true
raw_begins mode tail k = ap (begins is_quote_or_hash) k.joined
    ∙ hashes_then k.count (34 ∷ (k.inside ++ raw_closing k.count)) refl
  where
    hashes_then : (n : ℕ) (cs : List ℕ) → begins is_quote_or_hash cs ≡ true →
        begins is_quote_or_hash (hashes n ++ cs) ≡ true
    hashes_then zero cs h = h
    hashes_then (suc n) cs h = refl

hash_name : (tail rest : List ℕ) → IsRaw modes.RawStr (35 ∷ tail) → begins_raw_name (tail ++ rest) ≡ false
hash_name tail rest k = hashes_no_name modes.RawStr (35 ∷ (tail ++ rest)) rest
    (raw_whole modes.RawStr (35 ∷ tail) rest refl k)

hashed : (mode : Mode) (tail rest : List ℕ) → is_raw mode ≡ true → IsRaw mode (35 ∷ tail) →
    begins_lifetime ((opening_of mode ++ (35 ∷ tail)) ++ rest) ≡ false
hashed modes.RawStr tail rest r k = r_hash (tail ++ rest) (hash_name tail rest k)
hashed modes.RawByteStr tail rest r k = br_hash (tail ++ rest)
hashed modes.RawCStr tail rest r k = cr_hash (tail ++ rest)
hashed modes.Char tail rest r k = cc
hashed modes.Byte tail rest r k = cc
hashed modes.Str tail rest r k = cc
hashed modes.ByteStr tail rest r k = cc
hashed modes.CStr tail rest r k = cc

raw_tail : (mode : Mode) (tail rest : List ℕ) → is_raw mode ≡ true → IsRaw mode tail →
    begins_lifetime ((opening_of mode ++ tail) ++ rest) ≡ true → (more : List ℕ) × (tail ≡ 34 ∷ more)
raw_tail mode [] rest r k h = let n = raw_begins mode [] k in cc
raw_tail mode (c ∷ tail) rest r k h =
    let n = raw_begins mode (c ∷ tail) k in
    ⊎_elim
    (λ q. (tail, ap (λ x. x ∷ tail) (eqb-true c 34 q)))
    (λ q.
    let e = eqb-true c 35 q in
    let j : IsRaw mode (35 ∷ tail) = subst (λ x. IsRaw mode (x ∷ tail)) e k in
    let f = hashed mode tail rest r j in
    let l : begins_lifetime ((opening_of mode ++ (35 ∷ tail)) ++ rest) ≡
    true = subst (λ x. begins_lifetime ((opening_of mode ++ (x ∷ tail)) ++ rest) ≡ true) e h in
    cc)
    (or_cases (c == 34) (c == 35) n)

-- a literal in quotes behind ' is a string with a prefix
quoted_string : (mode : Mode) (tail rest : List ℕ) → IsTail mode tail →
    begins_lifetime ((opening_of mode ++ tail) ++ rest) ≡ true → is_prefixed_string (opening_of mode ++ tail) ≡ true
unfolding is_first unicode_ident
quoted_string modes.Str tail rest i h = let f : is_first 34 ≡ true = lifetime_first (34 ∷ (tail ++ rest)) h in cc
quoted_string modes.ByteStr tail rest i h = refl
quoted_string modes.CStr tail rest i h = refl
quoted_string modes.RawStr tail rest i h = let (more, e) = raw_tail modes.RawStr tail rest refl i h in rw e refl
quoted_string modes.RawByteStr tail rest i h = let (more, e) = raw_tail modes.RawByteStr tail rest refl i h in rw e refl
quoted_string modes.RawCStr tail rest i h = let (more, e) = raw_tail modes.RawCStr tail rest refl i h in rw e refl
quoted_string modes.Byte tail rest i h = let n = b_tick (tail ++ rest) in cc
quoted_string modes.Char tail rest i h = let f = lifetime_first (39 ∷ (tail ++ rest)) h in
    let n = tick_first (tail ++ rest) in cc

no_number : (cs rest : List ℕ) → begins is_digit cs ≡ true → begins is_first (cs ++ rest) ≡ true → ⊥
no_number [] rest d f = cc
no_number (c ∷ cs) rest d f = let a = front-digit c d in let b = front-first c f in cc

pub lifetime_literal : (kind : LiteralKind) (cs rest : List ℕ) → IsLiteral kind cs rest →
    begins_lifetime (cs ++ rest) ≡ true → is_prefixed_string cs ≡ true
lifetime_literal kind cs rest (body, suffix, e, b, s) h =
    let l : begins_lifetime (body ++ (suffix ++ rest)) ≡ true = sym (ap begins_lifetime (append_assoc body suffix rest))
    ∙ subst (λ x. begins_lifetime (x ++ rest) ≡ true) e h in
    rw e (string_more body suffix (⊎_elim
    (λ (o, inside, _, f, i). rw f (quoted_string o inside (suffix ++ rest) i (rw f at l)))
    (λ n. absurd (no_number body (suffix ++ rest) n.0 (lifetime_first (body ++ (suffix ++ rest)) l)))
    b))
