-- A literal in quotes by its parts: what stands before its first quote, its inside, what stands behind its last quote.
use Rattle.std.proofs.Common.{◌≡◌, ℕ, zero, suc, List, [], ◌∷◌, ◌++◌, append_assoc, refl, sym, ap, ◌∙◌, subst, inl}
use Rattle.std.proofs.Common.{⊎_elim}
use Rattle.std.specs.Prelude.{Bool, true, false, ◌==◌, if◌then◌else◌, Option, Some, option_to_list}
use Rattle.std.proofs.lemmas.Bool.{and_parts, false≢true, ne_eqb}
use Rattle.std.proofs.lemmas.List.{append-nil}
use Rattle.rust_escape.specs.Chars.{is_blank}
use Rattle.rust_escape.specs.Unit.{Rule, Lexical, IsUnit, plain, escape, skip, return, return_value, IsInside, empty}
use Rattle.rust_escape.specs.Unit.{more}
use Rattle.rust_escape.specs.Mode.{in_double_quotes}
use Rattle.rust_escape.specs.declared.mode.Mode.{Mode}
use Rattle.rust_escape.specs.declared.mode.Mode.TheVariants as modes
use Rattle.rust_escape.specs.declared.value.Value.{Value}
use Rattle.rust_escape.specs.declared.value.Value.TheVariants.{Character}
use Rattle.rust_lex.specs.Chars.{begins, is_hash, is_next, passes, past}
use Rattle.rust_lex.specs.Number.{IsNumber, base_of, is_split, number_kind, past_number}
use Rattle.rust_lex.specs.Piece.{IsSuffix}
use Rattle.rust_lex.specs.Quoted.{IsQuotedLiteral, IsTail, hashes, literal_kind, opening_of}
use Rattle.rust_lex.specs.Quoted.{raw_closing}
use Rattle.rust_lex.specs.declared.piece.LiteralKind.{LiteralKind}
use Rattle.rust_lex.specs.declared.piece.LiteralKind.TheVariants as kinds
use Rattle.rust_lex.proofs.Fronts.{first-next}
use Rattle.rust_leaf.proofs.Quotes.{heads}
use Rattle.rust_leaf.proofs.Spellings.{one_list, one_unit}
use Rattle.unicode_ident.proofs.Computing.{unicode_ident}
use Rattle.syn_leaf.specs.Kinds.{IsKind}
use Rattle.syn_leaf.specs.Quoted.{HasSuffix, IsFenced, IsTakenApart, Spells, has, is_quoted, mode_of, quote_of}
use Rattle.syn_leaf.specs.Quoted.{tail_values}
use Rattle.syn_leaf.proofs.Fenced.{one_fenced}

-- quotes and hashes are no part of a suffix
pub no_next : (is_next 34 ≡ false) × (is_next 39 ≡ false) × (is_next 35 ≡ false)
unfolding is_next unicode_ident
no_next = (refl, refl, refl)

others : (c q : ℕ) → is_next c ≡ true → is_next q ≡ false → (c == q) ≡ false
others c q t f = ne_eqb c q (λ e. false≢true (sym f ∙ ap is_next (sym e) ∙ t))

passed_lack : (q : ℕ) (cs : List ℕ) → is_next q ≡ false → passes is_next cs ≡ true → has q cs ≡ false
passed_lack q [] f p = refl
passed_lack q (c ∷ cs) f p =
    let (a, b) = and_parts (is_next c) (passes is_next cs) p in rw (others c q a f) (passed_lack q cs f b)

suffix_lacks : (q : ℕ) (cs : List ℕ) → is_next q ≡ false → IsSuffix cs [] → has q cs ≡ false
suffix_lacks q [] f s = refl
suffix_lacks q (c ∷ cs) f (a, b, e) = rw (others c q (first-next c a) f) (passed_lack q cs f b)

hashes_lack : (q n : ℕ) (cs : List ℕ) → (35 == q) ≡ false → has q cs ≡ false → has q (hashes n ++ cs) ≡ false
hashes_lack q zero cs h k = k
hashes_lack q (suc n) cs h k = rw h (hashes_lack q n cs h k)

quote_lacks : (n : ℕ) → has 34 (hashes n) ≡ false
quote_lacks zero = refl
quote_lacks (suc n) = quote_lacks n

pub past_hashes : (n : ℕ) (cs : List ℕ) → IsSuffix cs [] → past is_hash (hashes n ++ cs) ≡ cs
past_hashes zero [] s = refl
past_hashes zero (c ∷ cs) (a, b, e) = rw (others c 35 (first-next c a) no_next.2) refl
past_hashes (suc n) cs s = past_hashes n cs s

-- a unit doesn't need the closing quote
blank_end : (q : ℕ) (inside rest : List ℕ) → begins is_blank (inside ++ q ∷ rest) ≡ false
    → begins is_blank (inside ++ []) ≡ false
blank_end q [] rest h = refl
blank_end q (c ∷ cs) rest h = h

feed_alone : (mode : Mode) (q : ℕ) (inside rest after : List ℕ) (v : Option Value) → (10 ≡ q → ⊥)
    → in_double_quotes mode ≡ true → 10 ∷ after ≡ inside ++ q ∷ rest → return_value mode ≡ v
    → IsUnit Lexical mode (13 ∷ []) (inside ++ []) v
feed_alone mode q [] rest after v n d e k = absurd (n (heads 10 q after rest e).0)
feed_alone mode q (c ∷ cs) rest after v n d e k =
    subst (λ x. IsUnit Lexical mode (13 ∷ []) (x ∷ (cs ++ [])) v) (heads 10 c after (cs ++ q ∷ rest) e).0
    (subst (IsUnit Lexical mode (13 ∷ []) (10 ∷ (cs ++ []))) k (return d))

unit_alone : (rule : Rule) (mode : Mode) (q : ℕ) (cs text inside rest : List ℕ) (v : Option Value) → rule ≡ Lexical
    → (10 ≡ q → ⊥) → text ≡ inside ++ q ∷ rest → IsUnit rule mode cs text v → IsUnit Lexical mode cs (inside ++ []) v
unit_alone rule mode q _ text inside rest _ r n e (plain {c = c} h) = plain (rw r at h)
unit_alone rule mode q _ text inside rest _ r n e (escape w h) = escape w h
unit_alone rule mode q _ text inside rest _ r n e (skip {cs = cs} w d h s) =
    skip w d (rw r at h) (blank_end q inside rest (ap (begins is_blank) (sym e) ∙ s))
unit_alone rule mode q _ _ inside rest _ r n e (return {rest = after} d) =
    feed_alone mode q inside rest after (return_value mode) n d e refl

inside_alone : (mode : Mode) (q : ℕ) (inside text rest : List ℕ) (values : List Value) → (10 ≡ q → ⊥)
    → text ≡ q ∷ rest → IsInside Lexical mode inside text values → IsInside Lexical mode inside [] values
inside_alone mode q _ text rest _ n e empty = empty
inside_alone mode q _ text rest _ n e (more {cs = cs} {inside = inside} {value = v} {values = vs} u i) =
    more (unit_alone Lexical mode q cs (inside ++ text) inside rest v refl n (ap (λ x. inside ++ x) e) u)
    (inside_alone mode q inside text rest vs n e i)

one_alone : (mode : Mode) (cs : List ℕ) (v : Option Value) → IsUnit Lexical mode cs (39 ∷ []) v
    → IsInside Lexical mode cs [] (option_to_list v)
one_alone mode cs v u =
    let alone = unit_alone Lexical mode 39 cs (39 ∷ []) [] [] v refl (λ e. cc) refl u in
    subst (λ x. IsInside Lexical mode x [] (option_to_list v)) (append-nil cs)
    (subst (IsInside Lexical mode (cs ++ []) []) (append-nil (option_to_list v)) (more alone empty))

some_value : (rule : Rule) (mode : Mode) (cs rest : List ℕ) (o : Option Value) → in_double_quotes mode ≡ false
    → IsUnit rule mode cs rest o → (v : Value) × (o ≡ Some v)
some_value rule mode _ rest _ d (plain {c = c} h) = (Character c, refl)
some_value rule mode _ rest _ d (escape {value = v} w h) = (v, refl)
some_value rule mode _ rest _ d (skip w q h s) = absurd (false≢true (sym d ∙ q))
some_value rule mode _ _ _ d (return q) = absurd (false≢true (sym d ∙ q))

one_only : (mode : Mode) (cs : List ℕ) (o : Option Value) → in_double_quotes mode ≡ false
    → IsUnit Lexical mode cs (39 ∷ []) o
    → (v : Value) × IsUnit Lexical mode cs [] (Some v) × (option_to_list o ≡ v ∷ [])
one_only mode cs o d u =
    let (v, e) = some_value Lexical mode cs (39 ∷ []) o d u in
    let alone = unit_alone Lexical mode 39 cs (39 ∷ []) [] [] o refl (λ e. cc) refl u in
    (v, subst (IsUnit Lexical mode cs []) e alone, ap option_to_list e)

-- where the quotes stand
joined_quotes : (o inside suffix tail : List ℕ) (q : ℕ) → tail ≡ inside ++ q ∷ []
    → ((o ++ q ∷ []) ++ tail) ++ suffix ≡ o ++ q ∷ (inside ++ q ∷ suffix)
joined_quotes o inside suffix tail q e =
    ap (λ x. ((o ++ q ∷ []) ++ x) ++ suffix) e ∙ append_assoc (o ++ q ∷ []) (inside ++ q ∷ []) suffix
    ∙ append_assoc o (q ∷ []) ((inside ++ q ∷ []) ++ suffix)
    ∙ ap (λ x. o ++ q ∷ x) (append_assoc inside (q ∷ []) suffix)

joined_hashes : (o inside suffix tail : List ℕ) (n : ℕ) → tail ≡ hashes n ++ 34 ∷ (inside ++ raw_closing n)
    → (o ++ tail) ++ suffix ≡ (o ++ hashes n) ++ 34 ∷ (inside ++ 34 ∷ (hashes n ++ suffix))
joined_hashes o inside suffix tail n e =
    ap (λ x. (o ++ x) ++ suffix) e ∙ append_assoc o (hashes n ++ 34 ∷ (inside ++ raw_closing n)) suffix
    ∙ ap (λ x. o ++ x) (append_assoc (hashes n) (34 ∷ (inside ++ raw_closing n)) suffix
    ∙ ap (λ x. hashes n ++ 34 ∷ x) (append_assoc inside (raw_closing n) suffix))
    ∙ sym (append_assoc o (hashes n) (34 ∷ (inside ++ 34 ∷ (hashes n ++ suffix))))

-- a literal of a kind in quotes, by its parts
pub record Parts (kind : LiteralKind) (text : List ℕ) : Type 0 where
  pub mode : Mode
  pub inside : List ℕ
  pub closing : List ℕ
  pub suffix : List ℕ
  pub values : List Value
  pub apart : IsTakenApart kind text mode inside closing
  pub units : IsInside Lexical mode inside [] values
  pub spells : Spells kind text values
  pub only : in_double_quotes mode ≡ false → (v : Value) × IsUnit Lexical mode inside [] (Some v) × (values ≡ v ∷ [])
  pub past_is : past is_hash closing ≡ suffix
  pub has_suffix : HasSuffix kind text suffix

suffix_had : (mode : Mode) (text tail suffix : List ℕ) → text ≡ (opening_of mode ++ tail) ++ suffix → IsTail mode tail
    → IsSuffix suffix [] → HasSuffix (literal_kind mode) text suffix
suffix_had mode text tail suffix e t s = record {
  body = opening_of mode ++ tail;
  joined = e;
  is = inl (mode, tail, refl, refl, t);
  ends = s;
}

spelled_by : (mode : Mode) (text tail suffix : List ℕ) → text ≡ (opening_of mode ++ tail) ++ suffix
    → (t : IsTail mode tail) → IsSuffix suffix [] → Spells (literal_kind mode) text (tail_values mode tail t)
spelled_by mode text tail suffix e t s = record {
  mode = mode;
  tail = tail;
  suffix = suffix;
  kind_is = refl;
  joined = e;
  is = t;
  ends = s;
  spelled = refl;
}

in_quotes : (mode : Mode) (text o inside tail suffix : List ℕ) (values : List Value) (n : ℕ)
    → text ≡ o ++ quote_of (literal_kind mode) ∷ (inside ++ quote_of (literal_kind mode) ∷ (hashes n ++ suffix))
    → is_next (quote_of (literal_kind mode)) ≡ false → (35 == quote_of (literal_kind mode)) ≡ false
    → has (quote_of (literal_kind mode)) o ≡ false → mode ≡ mode_of (literal_kind mode) (has 114 o)
    → IsInside Lexical mode inside [] values
    → (in_double_quotes mode ≡ false → (v : Value) × IsUnit Lexical mode inside [] (Some v) × (values ≡ v ∷ []))
    → IsSuffix suffix [] → Spells (literal_kind mode) text values
    → HasSuffix (literal_kind mode) text suffix → Parts (literal_kind mode) text
in_quotes mode text o inside tail suffix values n e f h k m i y s w x = record {
  mode = mode;
  inside = inside;
  closing = hashes n ++ suffix;
  suffix = suffix;
  values = values;
  apart = record {
    opening = o;
    fenced = record {
      joined = e;
      first = k;
      last = hashes_lack (quote_of (literal_kind mode)) n suffix h
          (suffix_lacks (quote_of (literal_kind mode)) suffix f s);
    };
    mode_is = m;
  };
  units = i;
  only = y;
  spells = w;
  past_is = past_hashes n suffix s;
  has_suffix = x;
}

of_mode : (mode : Mode) (text tail suffix : List ℕ) → text ≡ (opening_of mode ++ tail) ++ suffix → IsTail mode tail
    → IsSuffix suffix [] → Parts (literal_kind mode) text
of_mode modes.Char text tail suffix e t s =
    in_quotes modes.Char text [] t.unit tail suffix (option_to_list t.value) 0
    (e ∙ joined_quotes [] t.unit suffix tail 39 t.joined) no_next.1 refl refl refl
    (one_alone modes.Char t.unit t.value t.is) (λ d. one_only modes.Char t.unit t.value d t.is) s
    (spelled_by modes.Char text tail suffix e t s)
    (suffix_had modes.Char text tail suffix e t s)
of_mode modes.Byte text tail suffix e t s =
    in_quotes modes.Byte text (98 ∷ []) t.unit tail suffix (option_to_list t.value) 0
    (e ∙ joined_quotes (98 ∷ []) t.unit suffix tail 39 t.joined) no_next.1 refl refl refl
    (one_alone modes.Byte t.unit t.value t.is) (λ d. one_only modes.Byte t.unit t.value d t.is) s
    (spelled_by modes.Byte text tail suffix e t s)
    (suffix_had modes.Byte text tail suffix e t s)
of_mode modes.Str text tail suffix e t s =
    in_quotes modes.Str text [] t.inside tail suffix t.values 0
    (e ∙ joined_quotes [] t.inside suffix tail 34 t.joined) no_next.0 refl refl refl
    (inside_alone modes.Str 34 t.inside (34 ∷ []) [] t.values (λ e. cc) refl t.is) (λ d. cc) s
    (spelled_by modes.Str text tail suffix e t s) (suffix_had modes.Str text tail suffix e t s)
of_mode modes.ByteStr text tail suffix e t s =
    in_quotes modes.ByteStr text (98 ∷ []) t.inside tail suffix t.values 0
    (e ∙ joined_quotes (98 ∷ []) t.inside suffix tail 34 t.joined) no_next.0 refl refl refl
    (inside_alone modes.ByteStr 34 t.inside (34 ∷ []) [] t.values (λ e. cc) refl t.is) (λ d. cc) s
    (spelled_by modes.ByteStr text tail suffix e t s) (suffix_had modes.ByteStr text tail suffix e t s)
of_mode modes.CStr text tail suffix e t s =
    in_quotes modes.CStr text (99 ∷ []) t.inside tail suffix t.values 0
    (e ∙ joined_quotes (99 ∷ []) t.inside suffix tail 34 t.joined) no_next.0 refl refl refl
    (inside_alone modes.CStr 34 t.inside (34 ∷ []) [] t.values (λ e. cc) refl t.is) (λ d. cc) s
    (spelled_by modes.CStr text tail suffix e t s) (suffix_had modes.CStr text tail suffix e t s)
of_mode modes.RawStr text tail suffix e t s =
    in_quotes modes.RawStr text (114 ∷ hashes t.count) t.inside tail suffix t.values t.count
    (e ∙ joined_hashes (114 ∷ []) t.inside suffix tail t.count t.joined) no_next.0 refl
    (quote_lacks t.count) refl
    (inside_alone modes.RawStr 34 t.inside (raw_closing t.count) (hashes t.count) t.values (λ e. cc) refl t.is)
    (λ d. cc) s
    (spelled_by modes.RawStr text tail suffix e t s) (suffix_had modes.RawStr text tail suffix e t s)
of_mode modes.RawByteStr text tail suffix e t s =
    in_quotes modes.RawByteStr text (98 ∷ 114 ∷ hashes t.count) t.inside tail suffix t.values t.count
    (e ∙ joined_hashes (98 ∷ 114 ∷ []) t.inside suffix tail t.count t.joined) no_next.0 refl
    (quote_lacks t.count) refl
    (inside_alone modes.RawByteStr 34 t.inside (raw_closing t.count) (hashes t.count) t.values (λ e. cc) refl t.is)
    (λ d. cc) s
    (spelled_by modes.RawByteStr text tail suffix e t s) (suffix_had modes.RawByteStr text tail suffix e t s)
of_mode modes.RawCStr text tail suffix e t s =
    in_quotes modes.RawCStr text (99 ∷ 114 ∷ hashes t.count) t.inside tail suffix t.values t.count
    (e ∙ joined_hashes (99 ∷ 114 ∷ []) t.inside suffix tail t.count t.joined) no_next.0 refl
    (quote_lacks t.count) refl
    (inside_alone modes.RawCStr 34 t.inside (raw_closing t.count) (hashes t.count) t.values (λ e. cc) refl t.is)
    (λ d. cc) s
    (spelled_by modes.RawCStr text tail suffix e t s) (suffix_had modes.RawCStr text tail suffix e t s)

-- a number is in no quotes
bare : (based split : Bool) → is_quoted (if based then (if split then kinds.Float else kinds.Int) else kinds.Int)
    ≡ false
bare true true = refl
bare true false = refl
bare false split = refl

number_bare : (cs : List ℕ) → is_quoted (number_kind cs) ≡ false
unfolding number_kind
number_bare cs = bare (base_of cs == 0) (is_split cs)

parts : (kind : LiteralKind) (text : List ℕ) → is_quoted kind ≡ true → IsKind kind text → Parts kind text
unfolding IsKind
parts kind text q (body, suffix, e, b, s) = ⊎_elim quoted number b
  where
    quoted : IsQuotedLiteral kind body → Parts kind text
    quoted (mode, tail, k, f, t) =
        subst (λ x. Parts x text) (sym k) (of_mode mode text tail suffix (e ∙ ap (λ x. x ++ suffix) f) t s)

    number : IsNumber kind body (suffix ++ []) → Parts kind text
    number n =
        absurd (false≢true (sym (number_bare (body ++ (suffix ++ []))) ∙ sym (ap is_quoted n.2) ∙ q))

-- what is taken apart in code are these parts
same : (kind : LiteralKind) (text inside closing : List ℕ) (mode : Mode) (p : Parts kind text)
    → IsTakenApart kind text mode inside closing → (p.mode ≡ mode) × (p.inside ≡ inside) × (p.closing ≡ closing)
same kind text inside closing mode p a =
    let one = one_fenced (quote_of kind) text p.apart.opening p.inside p.closing a.opening inside closing
    p.apart.fenced a.fenced in
    (p.apart.mode_is ∙ ap (λ o. mode_of kind (has 114 o)) one.0 ∙ sym a.mode_is, one.1, one.2)

pub fenced_there : (kind : LiteralKind) (text : List ℕ) (quote : ℕ) → is_quoted kind ≡ true → IsKind kind text
    → quote ≡ quote_of kind → (o : List ℕ) × (i : List ℕ) × (l : List ℕ) × IsFenced quote text o i l
fenced_there kind text quote q k e =
    let p = parts kind text q k in (
      p.apart.opening,
      p.inside,
      p.closing,
      subst (λ x. IsFenced x text p.apart.opening p.inside p.closing) (sym e) p.apart.fenced,
    )

pub suffix_behind : (kind : LiteralKind) (text inside closing suffix : List ℕ) (mode : Mode) → is_quoted kind ≡ true
    → IsKind kind text → IsTakenApart kind text mode inside closing → suffix ≡ past is_hash closing
    → HasSuffix kind text suffix
suffix_behind kind text inside closing suffix mode q k a e =
    let p = parts kind text q k in
    subst (HasSuffix kind text) (sym p.past_is ∙ ap (past is_hash) (same kind text inside closing mode p a).2 ∙ sym e)
    p.has_suffix

pub units_there : (kind : LiteralKind) (text inside closing : List ℕ) (mode : Mode) → is_quoted kind ≡ true
    → IsKind kind text → IsTakenApart kind text mode inside closing
    → (values : List Value) × IsInside Lexical mode inside [] values
units_there kind text inside closing mode q k a =
    let p = parts kind text q k in
    let one = same kind text inside closing mode p a in (
      p.values,
      subst (λ m. IsInside Lexical m inside [] p.values) one.0
          (subst (λ i. IsInside Lexical p.mode i [] p.values) one.1 p.units),
    )

pub spells : (kind : LiteralKind) (text inside closing : List ℕ) (mode : Mode) (values : List Value)
    → is_quoted kind ≡ true → IsKind kind text → IsTakenApart kind text mode inside closing
    → IsInside Lexical mode inside [] values → Spells kind text values
spells kind text inside closing mode values q k a i =
    let p = parts kind text q k in
    let one = same kind text inside closing mode p a in
    let units = subst (λ m. IsInside Lexical m inside [] p.values) one.0
    (subst (λ i. IsInside Lexical p.mode i [] p.values) one.1 p.units) in
    subst (Spells kind text) (one_list Lexical mode inside inside p.values values refl units i) p.spells

-- a literal of one unit
pub only_there : (kind : LiteralKind) (text inside closing : List ℕ) (mode : Mode) → is_quoted kind ≡ true
    → in_double_quotes mode ≡ false → IsKind kind text → IsTakenApart kind text mode inside closing
    → (v : Value) × IsUnit Lexical mode inside [] (Some v)
only_there kind text inside closing mode q d k a =
    let p = parts kind text q k in
    let one = same kind text inside closing mode p a in
    let (v, u, e) = p.only (ap in_double_quotes one.0 ∙ d) in (
      v,
      subst (λ m. IsUnit Lexical m inside [] (Some v)) one.0
          (subst (λ i. IsUnit Lexical p.mode i [] (Some v)) one.1 u),
    )

pub only_spelled : (kind : LiteralKind) (text inside closing : List ℕ) (mode : Mode) (w : Value)
    → is_quoted kind ≡ true → in_double_quotes mode ≡ false → IsKind kind text
    → IsTakenApart kind text mode inside closing → IsUnit Lexical mode inside [] (Some w) → Spells kind text (w ∷ [])
only_spelled kind text inside closing mode w q d k a x =
    let p = parts kind text q k in
    let one = same kind text inside closing mode p a in
    let (v, u, e) = p.only (ap in_double_quotes one.0 ∙ d) in
    let unit = subst (λ m. IsUnit Lexical m inside [] (Some v)) one.0
    (subst (λ i. IsUnit Lexical p.mode i [] (Some v)) one.1 u) in
    let (rests, values) = one_unit Lexical mode inside [] inside [] (Some v) (Some w) refl unit x in
    let value : v ≡ w = cc in
    subst (Spells kind text) (e ∙ ap (λ y. y ∷ []) value) p.spells

-- a literal spells one list of values
mode_values : (mode : Mode) (text tail suffix : List ℕ) (e : text ≡ (opening_of mode ++ tail) ++ suffix)
    (t : IsTail mode tail) (s : IsSuffix suffix [])
    → ((of_mode mode text tail suffix e t s).values ≡ tail_values mode tail t)
    × ((of_mode mode text tail suffix e t s).suffix ≡ suffix)
unfolding of_mode in_quotes
mode_values modes.Char text tail suffix e t s = (refl, refl)
mode_values modes.Byte text tail suffix e t s = (refl, refl)
mode_values modes.Str text tail suffix e t s = (refl, refl)
mode_values modes.ByteStr text tail suffix e t s = (refl, refl)
mode_values modes.CStr text tail suffix e t s = (refl, refl)
mode_values modes.RawStr text tail suffix e t s = (refl, refl)
mode_values modes.RawByteStr text tail suffix e t s = (refl, refl)
mode_values modes.RawCStr text tail suffix e t s = (refl, refl)

spelled_parts : (kind : LiteralKind) (text : List ℕ) (values : List Value) → Spells kind text values
    → (p : Parts kind text) × (p.values ≡ values)
spelled_parts kind text values w =
    subst (λ k. (p : Parts k text) × (p.values ≡ values)) (sym w.kind_is) (
      of_mode w.mode text w.tail w.suffix w.joined w.is w.ends,
      (mode_values w.mode text w.tail w.suffix w.joined w.is w.ends).0 ∙ sym w.spelled,
    )

pub one_spelled : (kind : LiteralKind) (text : List ℕ) (xs ys : List Value) → Spells kind text xs → Spells kind text ys
    → xs ≡ ys
one_spelled kind text xs ys h k =
    let (p, e) = spelled_parts kind text xs h in
    let (r, f) = spelled_parts kind text ys k in
    let one = same kind text r.inside r.closing r.mode p r.apart in
    let units = subst (λ m. IsInside Lexical m r.inside [] p.values) one.0
    (subst (λ i. IsInside Lexical p.mode i [] p.values) one.1 p.units) in
    sym e ∙ one_list Lexical r.mode r.inside r.inside p.values r.values refl units r.units ∙ f

-- and has one suffix
quoted_suffix : (kind : LiteralKind) (text body suffix : List ℕ) → text ≡ body ++ suffix → IsSuffix suffix []
    → IsQuotedLiteral kind body → (p : Parts kind text) × (p.suffix ≡ suffix)
quoted_suffix kind text body suffix e s (mode, tail, k, f, t) =
    let joined : text ≡ (opening_of mode ++ tail) ++ suffix = e ∙ ap (λ x. x ++ suffix) f in
    subst (λ x. (p : Parts x text) × (p.suffix ≡ suffix)) (sym k)
    (of_mode mode text tail suffix joined t s, (mode_values mode text tail suffix joined t s).1)

pub quoted_kind : (mode : Mode) → is_quoted (literal_kind mode) ≡ true
quoted_kind modes.Char = refl
quoted_kind modes.Byte = refl
quoted_kind modes.Str = refl
quoted_kind modes.ByteStr = refl
quoted_kind modes.CStr = refl
quoted_kind modes.RawStr = refl
quoted_kind modes.RawByteStr = refl
quoted_kind modes.RawCStr = refl

never_both : (kind : LiteralKind) (body other rest : List ℕ) → IsQuotedLiteral kind body → IsNumber kind other rest → ⊥
never_both kind body other rest (mode, tail, k, f, t) n =
    false≢true (sym (number_bare (other ++ rest)) ∙ sym (ap is_quoted n.2) ∙ ap is_quoted k ∙ quoted_kind mode)

number_end : (kind : LiteralKind) (text body suffix : List ℕ) → text ≡ body ++ suffix
    → IsNumber kind body (suffix ++ []) → past_number text ≡ Some suffix
number_end kind text body suffix e n =
    let all : body ++ (suffix ++ []) ≡ text = ap (λ x. body ++ x) (append-nil suffix) ∙ sym e in
    sym (ap past_number all) ∙ n.1 ∙ ap (λ x. Some x) (append-nil suffix)

pub one_suffix : (kind : LiteralKind) (text s t : List ℕ) → HasSuffix kind text s → HasSuffix kind text t → s ≡ t
one_suffix kind text s t h k =
    ⊎_elim (λ q. ⊎_elim (λ r. quoted q r) (λ n. absurd (never_both kind h.body k.body (t ++ []) q n)) k.is)
    (λ m. ⊎_elim (λ r. absurd (never_both kind k.body h.body (s ++ []) r m)) (λ n. number m n) k.is) h.is
  where
    quoted : IsQuotedLiteral kind h.body → IsQuotedLiteral kind k.body → s ≡ t
    quoted q r =
        let (p, e) = quoted_suffix kind text h.body s h.joined h.ends q in
        let (o, f) = quoted_suffix kind text k.body t k.joined k.ends r in
        let one = same kind text o.inside o.closing o.mode p o.apart in
        sym e ∙ sym p.past_is ∙ ap (past is_hash) one.2 ∙ o.past_is ∙ f

    number : IsNumber kind h.body (s ++ []) → IsNumber kind k.body (t ++ []) → s ≡ t
    number m n =
        let both : Some s ≡ Some t =
        sym (number_end kind text h.body s h.joined m) ∙ number_end kind text k.body t k.joined n in
        cc
