-- An inside has one closing quote and one list of values, whatever stands behind the quote.
use Rattle.std.proofs.Common.{◌≡◌, ℕ, List, [], ◌∷◌, ◌++◌, append_assoc, refl, sym, ap, ◌∙◌, subst}
use Rattle.std.specs.Prelude.{true, false, Option}
use Rattle.std.proofs.lemmas.Bool.{eqb-true}
use Rattle.rust_escape.specs.Chars.{begins, is_blank}
use Rattle.rust_escape.specs.LexicalScan.{lexical_scan}
use Rattle.rust_escape.specs.Mode.{Mode, Char, Byte, Str, RawStr, ByteStr, RawByteStr, CStr, RawCStr}
use Rattle.rust_escape.specs.Mode.{in_double_quotes, is_raw}
use Rattle.rust_escape.specs.Reads.{Closes, is_quote}
use Rattle.rust_escape.specs.Scan.{Malformed, Reads}
use Rattle.rust_escape.specs.Unit.{Rule, Lexical, IsUnit, plain, escape, skip, return, return_value, IsInside}
use Rattle.rust_escape.specs.Unit.{empty, more}
use Rattle.rust_escape.specs.Value.{Value}
use Rattle.rust_escape.proofs.LexicalUnits.{lexical_read, none_lexical}

blank_before : (inside : List ℕ) (q : ℕ) (rest after : List ℕ) → begins is_blank (inside ++ q ∷ rest) ≡ false
    → begins is_blank (inside ++ q ∷ after) ≡ false
blank_before [] q rest after h = h
blank_before (c ∷ cs) q rest after h = h

return_before : (mode : Mode) (inside : List ℕ) (q : ℕ) (rest after r : List ℕ) (v : Option Value)
    → in_double_quotes mode ≡ true → 10 ∷ r ≡ inside ++ q ∷ rest → return_value mode ≡ v
    → IsUnit Lexical mode (13 ∷ []) (inside ++ q ∷ after) v
return_before mode [] q rest after r v h e k = let same : 10 ≡ q =
    cc in subst (λ (x : ℕ). IsUnit Lexical mode (13 ∷ []) (x ∷ after) v) same
    (subst (λ (w : Option Value). IsUnit Lexical mode (13 ∷ []) (10 ∷ after) w) k (return h))
return_before mode (c ∷ cs) q rest after r v h e k = let same : 10 ≡ c =
    cc in subst (λ (x : ℕ). IsUnit Lexical mode (13 ∷ []) (x ∷ (cs ++ q ∷ after)) v) same
    (subst (λ (w : Option Value). IsUnit Lexical mode (13 ∷ []) (10 ∷ (cs ++ q ∷ after)) w) k (return h))

-- a unit of an inside doesn't see past the first character behind the inside
pub unit_before : (rule : Rule) (mode : Mode) (cs text inside : List ℕ) (q : ℕ) (rest after : List ℕ) (v : Option Value)
    → text ≡ inside ++ q ∷ rest → IsUnit rule mode cs text v → IsUnit rule mode cs (inside ++ q ∷ after) v
unit_before rule mode _ text inside q rest after _ e (plain h) = plain h
unit_before rule mode _ text inside q rest after _ e (escape r h) = escape r h
unit_before rule mode _ text inside q rest after _ e (skip r d h s) =
    skip r d h (blank_before inside q rest after (ap (begins is_blank) (sym e) ∙ s))
unit_before rule mode _ _ inside q rest after _ e (return d) = return_before mode inside q rest after _ _ d e refl

pub inside_before : (rule : Rule) (mode : Mode) (inside tail : List ℕ) (q : ℕ) (rest after : List ℕ)
    (values : List Value) → tail ≡ q ∷ rest → IsInside rule mode inside tail values
    → IsInside rule mode inside (q ∷ after) values
inside_before rule mode _ tail q rest after _ e empty = empty
inside_before rule mode _ tail q rest after _ e (more {cs = cs} {inside = inside} {value = v} u i) =
    more (unit_before rule mode cs (inside ++ tail) inside q rest after v (ap (λ x. inside ++ x) e) u)
    (inside_before rule mode inside tail q rest after _ e i)

-- no unit begins with the closing quote
pub quote_none : (mode : Mode) (text : List ℕ) → in_double_quotes mode ≡ true → is_raw mode ≡ false
    → begins is_quote text ≡ true → lexical_scan mode text ≡ Malformed
unfolding lexical_scan
quote_none mode [] d r q = cc
quote_none Char (c ∷ cs) d r q = cc
quote_none Byte (c ∷ cs) d r q = cc
quote_none Str (c ∷ cs) d r q = rw (eqb-true c 34 q) refl
quote_none RawStr (c ∷ cs) d r q = cc
quote_none ByteStr (c ∷ cs) d r q = rw (eqb-true c 34 q) refl
quote_none RawByteStr (c ∷ cs) d r q = cc
quote_none CStr (c ∷ cs) d r q = rw (eqb-true c 34 q) refl
quote_none RawCStr (c ∷ cs) d r q = cc

quote_no_unit : (mode : Mode) (text cs rest : List ℕ) (v : Option Value) → in_double_quotes mode ≡ true → is_raw mode
    ≡ false → begins is_quote text ≡ true → text ≡ cs ++ rest → IsUnit Lexical mode cs rest v → ⊥
quote_no_unit mode text cs rest v d r q e h = none_lexical mode text (quote_none mode text d r q) cs rest v e h

record SameEnd (rest after : List ℕ) (values others : List Value) : Type 0 where
  rests : rest ≡ after
  lists : values ≡ others

-- two units at the front of one text
one_unit : (mode : Mode) (cs rest ds after : List ℕ) (v w : Option Value) → cs ++ rest ≡ ds ++ after
    → IsUnit Lexical mode cs rest v → IsUnit Lexical mode ds after w → (rest ≡ after) × (v ≡ w)
one_unit mode cs rest ds after v w e h k =
    let first : lexical_scan mode (cs ++ rest) ≡ Reads v rest = lexical_read Lexical mode cs rest v refl h in
    let second : lexical_scan mode (ds ++ after) ≡ Reads w after = lexical_read Lexical mode ds after w refl k in
    let both : Reads v rest ≡ Reads w after = sym first ∙ ap (lexical_scan mode) e ∙ second in
    let rests : rest ≡ after = cc in
    let values : v ≡ w = cc in
    (rests, values)

one_end : (mode : Mode) (xs rest ys after : List ℕ) (values others : List Value) → in_double_quotes mode ≡ true
    → is_raw mode ≡ false → begins is_quote rest ≡ true → begins is_quote after ≡ true
    → xs ++ rest ≡ ys ++ after → IsInside Lexical mode xs rest values → IsInside Lexical mode ys after others
    → SameEnd rest after values others
one_end mode _ rest _ after _ _ d r p q e empty empty = record { rests = e; lists = refl }
one_end mode _ rest _ after _ _ d r p q e empty (more {cs = ds} {inside = inside} {value = w} u i) =
    absurd (quote_no_unit mode rest ds (inside ++ after) w d r p (e ∙ append_assoc ds inside after) u)
one_end mode _ rest _ after _ _ d r p q e (more {cs = cs} {inside = inside} {value = v} u i) empty =
    absurd (quote_no_unit mode after cs (inside ++ rest) v d r q (sym e ∙ append_assoc cs inside rest) u)
one_end mode _ rest _ after _ _ d r p q e (more {cs = cs} {inside = xs} {value = v} {values = vs} u i)
    (more {cs = ds} {inside = ys} {value = w} {values = ws} t j) =
    let (rests, same) = one_unit mode cs (xs ++ rest) ds (ys ++ after) v w
    (sym (append_assoc cs xs rest) ∙ e ∙ append_assoc ds ys after) u t in
    let f = one_end mode xs rest ys after vs ws d r p q rests i j in
    record { rests = f.rests; lists = rw (same, f.lists) refl }

-- in double quotes, not raw ones, an inside closes at one place
pub closes_once : (mode : Mode) (text rest after : List ℕ) → in_double_quotes mode ≡ true → is_raw mode ≡ false
    → Closes mode text rest → Closes mode text after → rest ≡ after
closes_once mode text rest after d r c k =
    (one_end mode c.inside rest k.inside after c.values k.values d r c.quote k.quote (sym c.joined ∙ k.joined) c.is
    k.is).rests

-- and has one list of values
pub one_list : (mode : Mode) (text rest after : List ℕ) → in_double_quotes mode ≡ true → is_raw mode ≡ false
    → (c : Closes mode text rest) (k : Closes mode text after) → c.values ≡ k.values
one_list mode text rest after d r c k =
    (one_end mode c.inside rest k.inside after c.values k.values d r c.quote k.quote (sym c.joined ∙ k.joined) c.is
    k.is).lists
