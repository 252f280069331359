-- Looks of several steps, step by step.
use Rattle.std.proofs.Common.{◌≡◌, ℕ, zero, suc, ◌≤◌, ◌<◌, ◌-◌, List, [], ◌∷◌, length, take, drop, refl, sym, ap, ◌∙◌}
use Rattle.std.proofs.Common.{arith, length-take, length-drop}
use Rattle.std.specs.Prelude.{true, false, cond, nat_le, Option, Some, None}
use Rattle.std.proofs.lemmas.Bool.{le-leb, lt-leb}
use Rattle.proc_macro2.specs.Token.{Token}
use Rattle.proc_macro2.specs.declared.delimiter.Delimiter.{Delimiter}
use Rattle.syn_grammar.specs.Look as l
use Rattle.syn_grammar.specs.Look.{◌then◌, ◌or◌, behind, first_seen, as_far}
use Rattle.syn_buffer.specs.declared.entry.Entry.{Entry}
use Rattle.reader_table.specs.Looks.{nowhere, sights_of, sights_within}
use Rattle.reader_table.specs.Words.{words_of, literals_of, sign_text}
use Rattle.reader_table.specs.declared.word.Words.{Words}
use Rattle.reader_table.specs.declared.word.Literals.{Literals}
use Rattle.reader_table.specs.declared.word.Sign.{Sign}
use Rattle.reader_table.specs.declared.op.Sight.{Sight}
use Rattle.reader_table.specs.declared.op.Sight.TheVariants as sights
use Rattle.reader_tokens.specs.Tokens.{tokens}

both_then : (a b c d : l.Look) → a ≡ b → c ≡ d → (a then c) ≡ (b then d)
both_then a b c d e f = ap (λ x. x then c) e ∙ ap (λ x. b then x) f

both_or : (a b c d : l.Look) → a ≡ b → c ≡ d → (a or c) ≡ (b or d)
both_or a b c d e f = ap (λ x. x or c) e ∙ ap (λ x. b or x) f

-- any bound of the steps that is no less than their number is as good as any other
pub within_any : (j k : ℕ) (is : List Sight) → length is ≤ j → length is ≤ k → sights_within j is ≡ sights_within k is
within_any zero zero [] g h = refl
within_any zero (suc k) [] g h = refl
within_any (suc j) zero [] g h = refl
within_any (suc j) (suc k) [] g h = refl
within_any zero k (i ∷ is) g h = absurd (omega arith)
within_any (suc j) zero (i ∷ is) g h = absurd (omega arith)
within_any (suc j) (suc k) (sights.Word w ∷ is) g h = refl
within_any (suc j) (suc k) (sights.Quoted w ∷ is) g h = refl
within_any (suc j) (suc k) (sights.Mark s ∷ is) g h = refl
within_any (suc j) (suc k) (sights.Lifetime ∷ is) g h = refl
within_any (suc j) (suc k) (sights.Opens d ∷ is) g h = refl
within_any (suc j) (suc k) (sights.Opening ∷ is) g h = refl
within_any (suc j) (suc k) (sights.Closes ∷ is) g h = refl
within_any (suc j) (suc k) (sights.Group d ∷ is) g h = refl
within_any (suc j) (suc k) (sights.PastFirst c ∷ is) g h = refl
within_any (suc j) (suc k) (sights.PastLiterals w ∷ is) g h = refl
within_any (suc j) (suc k) (sights.End ∷ is) g h = refl
within_any (suc j) (suc k) (sights.Nowhere ∷ is) g h = refl
within_any (suc j) (suc k) (sights.Then n ∷ is) g h =
    ap (λ x. cond (nat_le n (length is)) x nowhere)
    (both_then (sights_within j (take n is)) (sights_within k (take n is)) (sights_within j (drop n is))
    (sights_within k (drop n is))
    (within_any j k (take n is) (omega (arith, length-take n is)) (omega (arith, length-take n is)))
    (within_any j k (drop n is) (omega (arith, length-drop n is)) (omega (arith, length-drop n is))))
within_any (suc j) (suc k) (sights.Or n ∷ is) g h =
    ap (λ x. cond (nat_le n (length is)) x nowhere)
    (both_or (sights_within j (take n is)) (sights_within k (take n is)) (sights_within j (drop n is))
    (sights_within k (drop n is))
    (within_any j k (take n is) (omega (arith, length-take n is)) (omega (arith, length-take n is)))
    (within_any j k (drop n is) (omega (arith, length-drop n is)) (omega (arith, length-drop n is))))
within_any (suc j) (suc k) (sights.Maybe ∷ is) g h = ap l.maybe (within_any j k is (omega arith) (omega arith))
within_any (suc j) (suc k) (sights.No ∷ is) g h = ap l.no (within_any j k is (omega arith) (omega arith))
within_any (suc j) (suc k) (sights.Repeatedly ∷ is) g h =
    ap l.repeatedly (within_any j k is (omega arith) (omega arith))

-- the first so many of steps, and those behind them, by themselves
first_alone : (n : ℕ) (is : List Sight) → sights_within (length is) (take n is) ≡ sights_of (take n is)
first_alone n is =
    within_any (length is) (length (take n is)) (take n is) (omega (arith, length-take n is)) (omega arith)

others_alone : (n : ℕ) (is : List Sight) → sights_within (length is) (drop n is) ≡ sights_of (drop n is)
others_alone n is =
    within_any (length is) (length (drop n is)) (drop n is) (omega (arith, length-drop n is)) (omega arith)

-- no step
pub nothing : (ss : List Sight) (ts : List Token) → ss ≡ [] → None ≡ sights_of ss ts
nothing ss ts e = ap (λ x. sights_of x ts) (sym e)

-- steps of one token or group
pub word : (w : Words) (ss is : List Sight) (ts : List Token) (o : Option (List Token)) → ss ≡ sights.Word w ∷ is
    → o ≡ l.a_word (words_of w) ts → o ≡ sights_of ss ts
word w ss is ts o e h = h ∙ ap (λ x. sights_of x ts) (sym e)

pub quoted : (w : Literals) (ss is : List Sight) (ts : List Token) (o : Option (List Token)) → ss ≡ sights.Quoted w ∷ is
    → o ≡ l.a_quoted (literals_of w) ts → o ≡ sights_of ss ts
quoted w ss is ts o e h = h ∙ ap (λ x. sights_of x ts) (sym e)

pub mark : (s : Sign) (ss is : List Sight) (ts : List Token) (o : Option (List Token)) → ss ≡ sights.Mark s ∷ is
    → o ≡ l.the_mark (sign_text s) ts → o ≡ sights_of ss ts
mark s ss is ts o e h = h ∙ ap (λ x. sights_of x ts) (sym e)

pub lifetime : (ss is : List Sight) (ts : List Token) (o : Option (List Token)) → ss ≡ sights.Lifetime ∷ is
    → o ≡ l.a_lifetime ts → o ≡ sights_of ss ts
lifetime ss is ts o e h = h ∙ ap (λ x. sights_of x ts) (sym e)

pub opens : (d : Delimiter) (ss is : List Sight) (ts : List Token) (o : Option (List Token)) → ss ≡ sights.Opens d ∷ is
    → o ≡ l.opens d ts → o ≡ sights_of ss ts
opens d ss is ts o e h = h ∙ ap (λ x. sights_of x ts) (sym e)

pub opening : (ss is : List Sight) (ts : List Token) (o : Option (List Token)) → ss ≡ sights.Opening ∷ is
    → o ≡ l.opening ts → o ≡ sights_of ss ts
opening ss is ts o e h = h ∙ ap (λ x. sights_of x ts) (sym e)

pub closes : (ss is : List Sight) (ts : List Token) (o : Option (List Token)) → ss ≡ sights.Closes ∷ is
    → o ≡ l.closes ts → o ≡ sights_of ss ts
closes ss is ts o e h = h ∙ ap (λ x. sights_of x ts) (sym e)

pub group : (d : Delimiter) (ss is : List Sight) (ts : List Token) (o : Option (List Token)) → ss ≡ sights.Group d ∷ is
    → o ≡ l.a_group d ts → o ≡ sights_of ss ts
group d ss is ts o e h = h ∙ ap (λ x. sights_of x ts) (sym e)

pub past_first : (c : ℕ) (ss is : List Sight) (ts : List Token) (o : Option (List Token))
    → ss ≡ sights.PastFirst c ∷ is → o ≡ l.past_first c 0 ts → o ≡ sights_of ss ts
past_first c ss is ts o e h = h ∙ ap (λ x. sights_of x ts) (sym e)

pub past_literals : (w : Literals) (ss is : List Sight) (ts : List Token) (o : Option (List Token))
    → ss ≡ sights.PastLiterals w ∷ is → o ≡ l.past_literals (literals_of w) ts → o ≡ sights_of ss ts
past_literals w ss is ts o e h = h ∙ ap (λ x. sights_of x ts) (sym e)

pub end : (ss is : List Sight) (ts : List Token) (o : Option (List Token)) → ss ≡ sights.End ∷ is
    → o ≡ l.the_end ts → o ≡ sights_of ss ts
end ss is ts o e h = h ∙ ap (λ x. sights_of x ts) (sym e)

pub nowhere_seen : (ss is : List Sight) (ts : List Token) → ss ≡ sights.Nowhere ∷ is → None ≡ sights_of ss ts
nowhere_seen ss is ts e = ap (λ x. sights_of x ts) (sym e)

-- the one, and then the other: the steps are too few, the one is not seen, or it is
nat_le_yes : (n m : ℕ) → n ≤ m → nat_le n m ≡ true
nat_le_yes n m h = le-leb n m h

nat_le_no : (n m : ℕ) → m < n → nat_le n m ≡ false
nat_le_no n m h = lt-leb n m h

then_is : (n : ℕ) (ss is : List Sight) (ts : List Token) → ss ≡ sights.Then n ∷ is → n ≤ length is
    → behind (sights_of (take n is) ts) (sights_of (drop n is)) ≡ sights_of ss ts
then_is n ss is ts e h =
    sym (ap (λ x. sights_of x ts) e
    ∙ ap (λ b. cond b (sights_within (length is) (take n is) then sights_within (length is) (drop n is)) nowhere ts)
    (nat_le_yes n (length is) h)
    ∙ ap (λ x. behind (x ts) (sights_within (length is) (drop n is))) (first_alone n is)
    ∙ ap (λ x. behind (sights_of (take n is) ts) x) (others_alone n is))

pub then_lacks : (n : ℕ) (ss is : List Sight) (ts : List Token) → ss ≡ sights.Then n ∷ is → length is < n
    → None ≡ sights_of ss ts
then_lacks n ss is ts e h =
    sym (ap (λ x. sights_of x ts) e
    ∙ ap (λ b. cond b (sights_within (length is) (take n is) then sights_within (length is) (drop n is)) nowhere ts)
    (nat_le_no n (length is) h))

pub then_fails : (n : ℕ) (ss is js : List Sight) (ts : List Token) → ss ≡ sights.Then n ∷ is → n ≤ length is
    → js ≡ take n is → None ≡ sights_of js ts → None ≡ sights_of ss ts
then_fails n ss is js ts e h f g =
    ap (λ x. behind x (sights_of (drop n is))) (g ∙ ap (λ x. sights_of x ts) f) ∙ then_is n ss is ts e h

pub then_goes : (n : ℕ) (ss is js ks : List Sight) (ts us : List Token) (o : Option (List Token))
    → ss ≡ sights.Then n ∷ is → n ≤ length is → js ≡ take n is → ks ≡ drop n is → Some us ≡ sights_of js ts
    → o ≡ sights_of ks us → o ≡ sights_of ss ts
then_goes n ss is js ks ts us o e h f f2 g k =
    k ∙ ap (λ x. sights_of x us) f2
    ∙ ap (λ x. behind x (sights_of (drop n is))) (g ∙ ap (λ x. sights_of x ts) f) ∙ then_is n ss is ts e h

-- the one, or the other
or_is : (n : ℕ) (ss is : List Sight) (ts : List Token) → ss ≡ sights.Or n ∷ is → n ≤ length is
    → first_seen (sights_of (take n is) ts) (sights_of (drop n is) ts) ≡ sights_of ss ts
or_is n ss is ts e h =
    sym (ap (λ x. sights_of x ts) e
    ∙ ap (λ b. cond b (sights_within (length is) (take n is) or sights_within (length is) (drop n is)) nowhere ts)
    (nat_le_yes n (length is) h)
    ∙ ap (λ x. first_seen (x ts) (sights_within (length is) (drop n is) ts)) (first_alone n is)
    ∙ ap (λ x. first_seen (sights_of (take n is) ts) (x ts)) (others_alone n is))

pub or_lacks : (n : ℕ) (ss is : List Sight) (ts : List Token) → ss ≡ sights.Or n ∷ is → length is < n
    → None ≡ sights_of ss ts
or_lacks n ss is ts e h =
    sym (ap (λ x. sights_of x ts) e
    ∙ ap (λ b. cond b (sights_within (length is) (take n is) or sights_within (length is) (drop n is)) nowhere ts)
    (nat_le_no n (length is) h))

pub one : (n : ℕ) (ss is js : List Sight) (ts us : List Token) → ss ≡ sights.Or n ∷ is → n ≤ length is
    → js ≡ take n is → Some us ≡ sights_of js ts → Some us ≡ sights_of ss ts
one n ss is js ts us e h f g =
    ap (λ x. first_seen x (sights_of (drop n is) ts)) (g ∙ ap (λ x. sights_of x ts) f) ∙ or_is n ss is ts e h

pub other : (n : ℕ) (ss is js ks : List Sight) (ts : List Token) (o : Option (List Token)) → ss ≡ sights.Or n ∷ is
    → n ≤ length is → js ≡ take n is → ks ≡ drop n is → None ≡ sights_of js ts → o ≡ sights_of ks ts
    → o ≡ sights_of ss ts
other n ss is js ks ts o e h f f2 g k =
    k ∙ ap (λ x. sights_of x ts) f2
    ∙ ap (λ x. first_seen x (sights_of (drop n is) ts)) (g ∙ ap (λ x. sights_of x ts) f) ∙ or_is n ss is ts e h

-- it, if it is there
pub maybe : (ss is : List Sight) (ts : List Token) (o p : Option (List Token)) → ss ≡ sights.Maybe ∷ is
    → o ≡ sights_of is ts → p ≡ first_seen o (Some ts) → p ≡ sights_of ss ts
maybe ss is ts o p e h k = k ∙ ap (λ x. first_seen x (Some ts)) h ∙ ap (λ x. sights_of x ts) (sym e)

-- it is here, or not
pub no_here : (ss is : List Sight) (ts us : List Token) → ss ≡ sights.No ∷ is → Some us ≡ sights_of is ts
    → None ≡ sights_of ss ts
no_here ss is ts us e h = ap (λ x. cond (l.seen x) None (Some ts)) h ∙ ap (λ x. sights_of x ts) (sym e)

pub no_such : (ss is : List Sight) (ts : List Token) → ss ≡ sights.No ∷ is → None ≡ sights_of is ts
    → Some ts ≡ sights_of ss ts
no_such ss is ts e h = ap (λ x. cond (l.seen x) None (Some ts)) h ∙ ap (λ x. sights_of x ts) (sym e)

-- again and again
pub repeatedly : (ss is : List Sight) (ts : List Token) (o : Option (List Token)) → ss ≡ sights.Repeatedly ∷ is
    → o ≡ l.repeatedly (sights_of is) ts → o ≡ sights_of ss ts
repeatedly ss is ts o e h = h ∙ ap (λ x. sights_of x ts) (sym e)

tokens_length : (es : List Entry) → length (tokens es) ≡ length es
tokens_length [] = refl
tokens_length (e ∷ es) = ap suc (tokens_length es)

pub turns_begin : (a : l.Look) (es : List Entry) → as_far (length es) a (tokens es) ≡ l.repeatedly a (tokens es)
turns_begin a es = ap (λ n. as_far n a (tokens es)) (sym (tokens_length es))

-- as far as it goes is somewhere
far_any : (n : ℕ) (a : l.Look) (ts : List Token) (o : Option (List Token))
    → first_seen (as_far n a ts) o ≡ as_far n a ts
far_any zero a ts o = refl
far_any (suc n) a ts o = by (behind (a ts) (as_far n a)) ts o
  where
    by : (p : Option (List Token)) (ts : List Token) (o : Option (List Token))
        → first_seen (first_seen p (Some ts)) o ≡ first_seen p (Some ts)
    by None ts o = refl
    by (Some us) ts o = refl

far_more : (n : ℕ) (a : l.Look) (ts us : List Token) → Some us ≡ a ts → as_far n a us ≡ as_far (suc n) a ts
far_more n a ts us h =
    sym (far_any n a us (Some ts)) ∙ ap (λ x. first_seen (behind x (as_far n a)) (Some ts)) h

pub turn_more : (n : ℕ) (a : l.Look) (ts us : List Token) (o : Option (List Token)) → 0 < n → Some us ≡ a ts
    → as_far n a ts ≡ o → as_far (n - 1) a us ≡ o
turn_more n a ts us o l h k =
    far_more (n - 1) a ts us h ∙ ap (λ m. as_far m a ts) (before n l) ∙ k
  where
    before : (n : ℕ) → 0 < n → suc (n - 1) ≡ n
    before n h = omega arith

pub turn_none : (n : ℕ) (a : l.Look) (ts : List Token) (o : Option (List Token)) → None ≡ a ts
    → as_far n a ts ≡ o → Some ts ≡ o
turn_none zero a ts o h k = k
turn_none (suc n) a ts o h k = ap (λ x. first_seen (behind x (as_far n a)) (Some ts)) h ∙ k

pub turns_end : (n : ℕ) (a : l.Look) (ts : List Token) (o : Option (List Token)) → n ≡ 0 → as_far n a ts ≡ o
    → Some ts ≡ o
turns_end n a ts o h k = ap (λ m. as_far m a ts) (sym h) ∙ k

-- the end
pub ends : (es : List Entry) → es ≡ [] → Some (tokens es) ≡ l.the_end (tokens es)
ends es h = ap (λ x. Some (tokens x)) h ∙ ap (λ x. l.the_end (tokens x)) (sym h)

pub no_end : (es : List Entry) → (es ≡ [] → ⊥) → None ≡ l.the_end (tokens es)
no_end [] h = absurd (h refl)
no_end (e ∷ es) h = refl

-- whether a look sees what it wants
pub there : (a : l.Look) (ts us : List Token) → Some us ≡ a ts → true ≡ l.sees a ts
there a ts us h = ap l.seen h

pub not_there : (a : l.Look) (ts : List Token) → None ≡ a ts → false ≡ l.sees a ts
not_there a ts h = ap l.seen h

pub ruleset there_laws = (there, not_there)

pub ruleset again_laws = (turns_begin, turn_more, turn_none, turns_end)

pub ruleset see_laws = (
  nothing,
  word,
  quoted,
  past_first,
  past_literals,
  mark,
  lifetime,
  opens,
  opening,
  closes,
  group,
  end,
  nowhere_seen,
  then_lacks,
  then_fails,
  then_goes,
  or_lacks,
  one,
  other,
  maybe,
  no_here,
  no_such,
  repeatedly,
)
