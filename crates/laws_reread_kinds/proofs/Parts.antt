-- The same, of entries that begin with tokens of a class and are followed by what some looks don't see.
use Rattle.std.proofs.Common.{◌≡◌, ℕ, List, [], ◌∷◌, ◌++◌, refl, sym, ap, ◌∙◌, subst, append_assoc, ⊎_elim, inl, inr}
use Rattle.std.specs.Prelude.{Bool, true, false, ◌⊎◌, not, cond, codes, Option, Some, None}
use Prim.Native.String.{String}
use Rattle.syn_grammar.specs.Words.{is_ident}
use Rattle.rust_leaf.specs.Keywords.{is_among}
use Rattle.syn_grammar.specs.Say.{keyword, name}
use Rattle.proc_macro2.specs.Token.{Token, Punct}
use Rattle.proc_macro2.specs.declared.delimiter.Delimiter.{Delimiter}
use Rattle.rust_leaf.specs.declared.punct.Spacing.TheVariants.{Alone as Apart}
use Rattle.syn_grammar.specs.Name.{Part}
use Rattle.syn_grammar.specs.Tree.{Tree, Nil, Pair, First, Second, End, Again, AMark, marks, flat}
use Rattle.syn_grammar.specs.Gram.{Gram, word, literal, lifetime, mark, nothing, never, seq, alt, star}
use Rattle.syn_grammar.specs.Gram.{many, group, judged, dropped, called, ref}
use Rattle.syn_grammar.specs.Look.{Look, seen, sees, lacks, no, past_marks, the_mark, the_end}
use Rattle.syn_grammar.specs.Derives.{Derives}
use Rattle.laws_reread_kinds.proofs.Fits.{Fits, CanSay, IsMeant}
use Rattle.laws_reread_kinds.specs.After.{behind, After}
use Rattle.laws_reread_kinds.proofs.Starts.{starts}
use Rattle.laws_reread_kinds.proofs.Afters.{is_by_tokens, by_tokens, suffices}
use Rattle.laws_reread_kinds.proofs.Begins.{Begins, BeginsBy}
use Rattle.laws_reread_kinds.proofs.Readies.{Ready, Step}
use Rattle.syn_grammar.specs.Kind.{Kind}
use Rattle.syn_grammar.specs.Ranks.{skips}
use Rattle.syn_grammar.specs.Types.{kept_if}
use Rattle.syn_grammar.specs.Table.{table}
use Rattle.laws_reread_kinds.proofs.Classes.{Class, Sign, TheWord, AnyWord, Quoted, Tick, Opening, the_words, IsAmong}
use Rattle.laws_reread_kinds.proofs.Classes.{OfAll, of_all, each_then, then_among, among_left, among_right}
use Rattle.laws_reread_kinds.specs.Sees.{Lacks, LacksAll}
use Rattle.laws_reread_kinds.proofs.Fine.{Edge, Fine, Any, Without, Ended, At, AtOrNone, fine_step, fine_ref, fine_word}
use Rattle.laws_reread_kinds.proofs.Fine.{fine_text, fine_words, fine_name, fine_literal, fine_mark, fine_lifetime}
use Rattle.laws_reread_kinds.proofs.Fine.{fine_group, fine_judged, fine_dropped, fine_nothing, fine_weaker, fine_seq}
use Rattle.laws_reread_kinds.proofs.Fine.{fine_alt, fine_called, fine_many}

-- the look says so of all that begin so; it sees none of them
abbrev pub Told : Look → Bool → List Class → Type 0
Told l b cs = OfAll (λ ts. sees l ts ≡ b) cs

pub told_at : (l : Look) (b : Bool) (cs : List Class) (ts : List Token) → Told l b cs → IsAmong cs ts → sees l ts ≡ b
told_at l b cs ts h i = of_all (λ us. sees l us ≡ b) cs ts h i

abbrev pub Unseen : List Look → List Class → Type 0
Unseen [] cs = Unit {0}
Unseen (l ∷ ls) cs = Told l false cs × Unseen ls cs

pub unseen_all : (ls : List Look) (cs : List Class) (ts : List Token) → Unseen ls cs → IsAmong cs ts → LacksAll ls ts
unseen_all [] cs ts h i = tt
unseen_all (l ∷ ls) cs ts h i = (of_all (λ us. sees l us ≡ false) cs ts h.0 i, unseen_all ls cs ts h.1 i)

-- what lacks these lacks those
abbrev pub Covers : List Look → List Look → Type 0
Covers ms ls = (s : List Token) → LacksAll ms s → LacksAll ls s

-- An entry that begins with a token of these classes; one that may have no token.
pub record Found (g : Gram) (ls : List Look) (cs : List Class) : Type 0 where
  pub fine : Fine g (Without ls) (At cs)

pub record Maybe (g : Gram) (ls : List Look) (cs : List Class) : Type 0 where
  pub fine : Fine g (Without ls) (AtOrNone cs)

pub weaken : {g : Gram} {ls : List Look} {cs : List Class} (ms : List Look) → Found g ls cs → Covers ms ls
    → Found g ms cs
weaken {g} {ls} {cs} ms f h = record { fine = fine_weaker (Without ms) (At cs) f.fine (λ x s a. h s a) (λ x s i a. i) }

pub weaken_maybe : {g : Gram} {ls : List Look} {cs : List Class} (ms : List Look) → Maybe g ls cs → Covers ms ls
    → Maybe g ms cs
weaken_maybe {g} {ls} {cs} ms f h =
    record { fine = fine_weaker (Without ms) (AtOrNone cs) f.fine (λ x s a. h s a) (λ x s i a. i) }

pub as_maybe : {g : Gram} {ls : List Look} {cs : List Class} → Found g ls cs → Maybe g ls cs
as_maybe {g} {ls} {cs} f =
    record { fine = fine_weaker (Without ls) (AtOrNone cs) f.fine (λ x s a. a) (λ x s i a. inr i) }

pub at_front : (cs : List Class) (x y : Tree) (s : List Token) → IsAmong cs (flat x ++ (flat y ++ s))
    → IsAmong cs ((flat x ++ flat y) ++ s)
at_front cs x y s i = subst (IsAmong cs) (sym (append_assoc (flat x) (flat y) s)) i

pub at_back : (cs : List Class) (x y : Tree) (s : List Token) → flat x ≡ [] → IsAmong cs (flat y ++ s)
    → IsAmong cs ((flat x ++ flat y) ++ s)
at_back cs x y s e i = subst (λ xs. IsAmong cs ((xs ++ flat y) ++ s)) (sym e) i

-- behind none stands what follows
pub past_none : (ls : List Look) (ds : List Class) (y : Tree) (s : List Token) → Unseen ls ds
    → (flat y ≡ []) ⊎ IsAmong ds (flat y ++ s) → LacksAll ls s → LacksAll ls (flat y ++ s)
past_none ls ds y s h i a =
    ⊎_elim (λ e. subst (λ ys. LacksAll ls (ys ++ s)) (sym e) a) (λ j. unseen_all ls ds (flat y ++ s) h j) i

pub found_seq : {a b : Gram} {ls ms : List Look} {cs ds : List Class} → Found a ls cs → Found b ms ds → Unseen ls ds
    → Found (seq a b) ms cs
found_seq {a} {b} {ls} {ms} {cs} {ds} f g h =
    record {
      fine = fine_seq (Without ms) (At cs) f.fine g.fine (λ x y s c. c)
          (λ x y s i c. unseen_all ls ds (flat y ++ s) h i)
          (λ x y s j i c. at_front cs x y s j);
    }

pub found_before : {a b : Gram} {ls ms : List Look} {cs ds : List Class} → Found a ls cs → Maybe b ms ds → Unseen ls ds
    → Covers ms ls → Found (seq a b) ms cs
found_before {a} {b} {ls} {ms} {cs} {ds} f g h k =
    record {
      fine = fine_seq (Without ms) (At cs) f.fine g.fine (λ x y s c. c)
          (λ x y s i c. past_none ls ds y s h i (k s c))
          (λ x y s j i c. at_front cs x y s j);
    }

pub maybe_seq : {a b : Gram} {ls ms : List Look} {cs ds : List Class} → Maybe a ls cs → Found b ms ds → Unseen ls ds
    → Found (seq a b) ms (cs ++ ds)
maybe_seq {a} {b} {ls} {ms} {cs} {ds} f g h =
    record {
      fine = fine_seq (Without ms) (At (cs ++ ds)) f.fine g.fine (λ x y s c. c)
          (λ x y s i c. unseen_all ls ds (flat y ++ s) h i)
          (λ x y s j i c. ⊎_elim (λ e. at_back (cs ++ ds) x y s e (among_right cs ds (flat y ++ s) i))
          (λ k. at_front (cs ++ ds) x y s (among_left cs ds (flat x ++ (flat y ++ s)) k)) j);
    }

no_tokens : (x y : Tree) → flat x ≡ [] → flat y ≡ [] → flat x ++ flat y ≡ []
no_tokens x y e f = ap (λ xs. xs ++ flat y) e ∙ f

pub maybe_both : {a b : Gram} {ls ms : List Look} {cs ds : List Class} → Maybe a ls cs → Maybe b ms ds → Unseen ls ds
    → Covers ms ls → Maybe (seq a b) ms (cs ++ ds)
maybe_both {a} {b} {ls} {ms} {cs} {ds} f g h k =
    record {
      fine = fine_seq (Without ms) (AtOrNone (cs ++ ds)) f.fine g.fine (λ x y s c. c)
          (λ x y s i c. past_none ls ds y s h i (k s c))
          (λ x y s j i c. ⊎_elim (λ e. ⊎_elim (λ d. inl (no_tokens x y e d))
          (λ d. inr (at_back (cs ++ ds) x y s e (among_right cs ds (flat y ++ s) d))) i)
          (λ d. inr (at_front (cs ++ ds) x y s (among_left cs ds (flat x ++ (flat y ++ s)) d))) j);
    }

pub found_alt : (l : Look) {a b : Gram} {ls : List Look} {cs ds : List Class} → Found a ls cs → Found b ls ds
    → Told l true cs → Told l false ds → Found (alt (sees l) a b) ls (cs ++ ds)
found_alt l {a} {b} {ls} {cs} {ds} f g one other =
    record {
      fine = fine_alt (Without ls) (At (cs ++ ds)) f.fine g.fine (λ x s c. c) (λ x s c. c)
          (λ x s e i c. (of_all (λ us. sees l us ≡ true) cs (flat x ++ s) one i, among_left cs ds (flat x ++ s) i))
          (λ x s e i c. (of_all (λ us. sees l us ≡ false) ds (flat x ++ s) other i, among_right cs ds (flat x ++ s) i));
    }

-- where its tokens say more than what they begin with
pub found_alt_by : (l : Look) {a b : Gram} {ls : List Look} {cs ds : List Class} → Found a ls cs → Found b ls ds
    → ((x : Tree) (s : List Token) → Derives x a s → LacksAll ls s → sees l (flat x ++ s) ≡ true)
    → ((x : Tree) (s : List Token) → Derives x b s → LacksAll ls s → sees l (flat x ++ s) ≡ false)
    → Found (alt (sees l) a b) ls (cs ++ ds)
found_alt_by l {a} {b} {ls} {cs} {ds} f g one other = record { fine = record { by = go } }
  where
    go : (x : Tree) (s : List Token) → Fits x (alt (sees l) a b) → Ready x → LacksAll ls s
        → Derives x (alt (sees l) a b) s × At (cs ++ ds) x s
    go (First x) s d w c =
        let (t, i) = f.fine.by x s d.1 w c in
        ((one x s t c, t), among_left cs ds (flat x ++ s) i)
    go (Second x) s d w c =
        let (t, i) = g.fine.by x s d.1 w c in
        ((other x s t c, t), among_right cs ds (flat x ++ s) i)
    go _ s d w c = absurd d

-- the second may have no tokens
pub maybe_alt : (l : Look) {a b : Gram} {ls : List Look} {cs ds : List Class} → Found a ls cs → Maybe b ls ds
    → Told l true cs → Told l false ds → Maybe (alt (sees l) a b) (l ∷ ls) (cs ++ ds)
maybe_alt l {a} {b} {ls} {cs} {ds} f g one other =
    record {
      fine = fine_alt (Without (l ∷ ls)) (AtOrNone (cs ++ ds)) f.fine g.fine (λ x s c. c.1) (λ x s c. c.1)
          (λ x s e i c. (told_at l true cs (flat x ++ s) one i, inr (among_left cs ds (flat x ++ s) i)))
          (λ x s e i c. ⊎_elim (λ d. (subst (λ us. Lacks l (us ++ s)) (sym d) c.0, inl d))
          (λ d. (told_at l false ds (flat x ++ s) other d, inr (among_right cs ds (flat x ++ s) d))) i);
    }

pub maybe_none : Maybe nothing [] []
maybe_none =
    record {
      fine = fine_weaker {A = Any} {F = λ x s. flat x ≡ []} (Without []) (AtOrNone []) fine_nothing (λ x s a. tt)
          (λ x s i a. inl i);
    }

-- present where it is seen
pub found_optional : (l : Look) {a : Gram} {ls : List Look} {cs : List Class} → Found a ls cs → Told l true cs
    → Maybe (alt (sees l) a nothing) (l ∷ ls) cs
found_optional l {a} {ls} {cs} f one =
    record {
      fine = fine_alt {A = Without ls} {B = Any} {F = At cs} {G = λ x s. flat x ≡ []} (Without (l ∷ ls))
          (AtOrNone cs) f.fine fine_nothing (λ x s c. c.1) (λ x s c. tt)
          (λ x s e i c. (of_all (λ us. sees l us ≡ true) cs (flat x ++ s) one i, inr i))
          (λ x s e i c. (subst (λ us. Lacks l (us ++ s)) (sym i) c.0, inl i));
    }

-- an alternative that is never read
pub none_never : (x : Tree) → Fits x never → ⊥
none_never (Pair x y) d = d
none_never _ d = d

pub found_never : {ls : List Look} → Found never ls []
found_never {ls} = record { fine = record { by = λ x s d w a. absurd (none_never x d) } }

pub found_called : {n : Part} {g : Gram} {ls : List Look} {cs : List Class} → Found g ls cs → Found (called n g) ls cs
found_called {n} {g} {ls} {cs} f = record { fine = fine_called {A = Without ls} {F = At cs} f.fine }

pub maybe_called : {n : Part} {g : Gram} {ls : List Look} {cs : List Class} → Maybe g ls cs → Maybe (called n g) ls cs
maybe_called {n} {g} {ls} {cs} f = record { fine = fine_called {A = Without ls} {F = AtOrNone cs} f.fine }

-- again and again while it is seen
pub found_star : (l : Look) {g : Gram} {ls : List Look} {cs : List Class} → Found g ls cs → Told l true cs
    → Unseen ls cs → Maybe (star (sees l) g) (l ∷ ls) cs
found_star l {g} {ls} {cs} f one h = record { fine = record { by = go } }
  where
    go : (x : Tree) (s : List Token) → Fits x (star (sees l) g) → Ready x → LacksAll (l ∷ ls) s
        → Derives x (star (sees l) g) s × AtOrNone cs x s
    go End s d w a = (a.0, inl refl)
    go (Again x y) s d w a =
        let (u, i) = go y s d.1 w.1 a in
        let (v, j) = f.fine.by x (flat y ++ s) d.0 w.0 (past_none ls cs y s h i a.1) in
        let k : IsAmong cs ((flat x ++ flat y) ++ s) = at_front cs x y s j in
        ((of_all (λ us. sees l us ≡ true) cs ((flat x ++ flat y) ++ s) one k, v, u), inr k)
    go _ s d w a = absurd d

-- many to the end of their group
pub found_to_end : {c : ℕ} {g : Gram} {ls : List Look} {cs : List Class} → Found g ls cs → Told the_end false cs
    → ((ts : List Token) → LacksAll ls (Punct c Apart ∷ ts)) → LacksAll ls [] → Fine (many (sees the_end) c g) Ended Any
found_to_end {c} {g} {ls} {cs} f begun separated ended =
    fine_many Ended Any f.fine (λ x s i. of_all (λ us. sees the_end us ≡ false) cs (flat x ++ s) begun i)
    (λ x ts. separated ts)
    (λ x z s b. subst (λ us. (sees the_end us ≡ true) × (sees (past_marks c []) us ≡ false) × LacksAll ls us) (sym b)
    (refl, refl, ended))
    (λ x y z s b. b) (λ z s b e. tt) (λ x z ys s e i. tt)

-- leaves
found : {g : Gram} {cs : List Class} → Fine g Any (At cs) → Found g [] cs
found {g} {cs} f = record { fine = fine_weaker (Without []) (At cs) f (λ x s a. tt) (λ x s i a. i) }

pub found_word : (p : List ℕ → Bool) → Found (word p) [] (AnyWord p ∷ [])
found_word p = found fine_word

pub found_text : (text : String) → Found (keyword text) [] (TheWord (codes text) ∷ [])
found_text text = found (fine_text (codes text))

pub found_words : (ws : List (List ℕ)) → Found (word (λ cs. is_among ws cs)) [] (the_words ws)
found_words ws = found (fine_words ws)

pub found_name : Found name [] (AnyWord is_ident ∷ TheWord (codes "Self") ∷ [])
found_name = found fine_name

pub found_literal : (p : List ℕ → Bool) → Found (literal p) [] (Quoted p ∷ [])
found_literal p = found fine_literal

pub found_mark : {c : ℕ} {cs : List ℕ} → Found (mark c cs) [] (Sign c cs ∷ [])
found_mark {c} {cs} = found fine_mark

pub found_lifetime : Found lifetime [] (Tick ∷ [])
found_lifetime = found fine_lifetime

pub found_group : {d : Delimiter} {g : Gram} → Fine g Ended Any → Found (group d g) [] (Opening d ∷ [])
found_group {d} {g} f = found (fine_group f)

-- a kind's own, where all of it is said by what it begins with and by what may not follow
begins_found : (b : Bool) (cs : List Class) (x : Tree) (s : List Token) → b ≡ false → BeginsBy b cs x s → At cs x s
begins_found false cs x s e i = i
begins_found true cs x s e i = cc

begins_maybe : (b : Bool) (cs : List Class) (x : Tree) (s : List Token) → b ≡ true → BeginsBy b cs x s → AtOrNone cs x s
begins_maybe true cs x s e i = i
begins_maybe false cs x s e i = cc

found_begins : (b : Bool) (cs : List Class) (x : Tree) (s : List Token) → b ≡ false → At cs x s → BeginsBy b cs x s
found_begins false cs x s e i = i
found_begins true cs x s e i = cc

maybe_begins : (b : Bool) (cs : List Class) (x : Tree) (s : List Token) → b ≡ true → AtOrNone cs x s → BeginsBy b cs x s
maybe_begins true cs x s e i = i
maybe_begins false cs x s e i = cc

pub found_ref : (k : Kind) → skips k ≡ false → Found (ref k) (behind k) (starts k)
found_ref k e =
    record {
      fine = fine_weaker (Without (behind k)) (At (starts k)) fine_ref (λ x s a. suffices k x s a)
          (λ x s i a. begins_found (skips k) (starts k) x s e i);
    }

pub maybe_ref : (k : Kind) → skips k ≡ true → Maybe (ref k) (behind k) (starts k)
maybe_ref k e =
    record {
      fine = fine_weaker (Without (behind k)) (AtOrNone (starts k)) fine_ref (λ x s a. suffices k x s a)
          (λ x s i a. begins_maybe (skips k) (starts k) x s e i);
    }

pub found_step : (k : Kind) → skips k ≡ false → is_by_tokens k ≡ true → Found (table k) (behind k) (starts k) → Step k
found_step k e b f =
    fine_step k (fine_weaker (After k) (Begins k) f.fine (λ x s a. by_tokens k x s b a)
    (λ x s i a. found_begins (skips k) (starts k) x s e i))

pub maybe_step : (k : Kind) → skips k ≡ true → is_by_tokens k ≡ true → Maybe (table k) (behind k) (starts k) → Step k
maybe_step k e b f =
    fine_step k (fine_weaker (After k) (Begins k) f.fine (λ x s a. by_tokens k x s b a)
    (λ x s i a. maybe_begins (skips k) (starts k) x s e i))

-- a kind's own, where more is known of its tree
pub meant_step : (k : Kind) → skips k ≡ false → is_by_tokens k ≡ true
    → Fine (table k) (λ x s. LacksAll (behind k) s × IsMeant k x) (At (starts k)) → Step k
meant_step k e b f x s d n w a =
    let (t, i) = f.by x s d w (by_tokens k x s b a, n) in
    (t, found_begins (skips k) (starts k) x s e i)

-- a punctuation, and what stands behind it
pub found_then : {c : ℕ} {cs : List ℕ} {b : Gram} {ms : List Look} {ds : List Class} → Found b ms ds
    → Found (seq (mark c cs) b) ms (each_then c cs ds)
found_then {c} {cs} {b} {ms} {ds} g = record { fine = record { by = go } }
  where
    go : (x : Tree) (s : List Token) → Fits x (seq (mark c cs) b) → Ready x → LacksAll ms s
        → Derives x (seq (mark c cs) b) s × At (each_then c cs ds) x s
    go (Pair (AMark e es spacing) y) s d w a =
        let (t, i) = g.fine.by y s d.1 w.1 a in
        let p : marks c cs Apart ≡ marks e es spacing =
        ap (marks c cs) d.0.2 ∙ sym (ap (λ ks. marks c ks spacing) d.0.1) ∙ sym (ap (λ k. marks k es spacing) d.0.0)
        in (
          ((d.0.0, d.0.1), t),
          at_front (each_then c cs ds) (AMark e es spacing) y s
              (subst (λ us. IsAmong (each_then c cs ds) (us ++ (flat y ++ s))) p (then_among c cs ds (flat y ++ s) i)),
        )
    go (Pair _ y) s d w a = absurd d.0
    go _ s d w a = absurd d

-- the same, where the punctuation may be missing
pub found_perhaps_then : (l : Look) {c : ℕ} {cs : List ℕ} {b : Gram} {ms : List Look} {ds : List Class} → Found b ms ds
    → Told l true (each_then c cs ds) → Told l false ds
    → Found (seq (alt (sees l) (mark c cs) nothing) b) ms (each_then c cs ds ++ ds)
found_perhaps_then l {c} {cs} {b} {ms} {ds} g one other = record { fine = record { by = go } }
  where
    go : (x : Tree) (s : List Token) → Fits x (seq (alt (sees l) (mark c cs) nothing) b) → Ready x → LacksAll ms s
        → Derives x (seq (alt (sees l) (mark c cs) nothing) b) s × At (each_then c cs ds ++ ds) x s
    go (Pair (First x) y) s d w a =
        let (t, i) = (found_then g).fine.by (Pair x y) s (d.0.1, d.1) w a in
        let j : IsAmong (each_then c cs ds) (flat x ++ (flat y ++ s)) =
        subst (IsAmong (each_then c cs ds)) (append_assoc (flat x) (flat y) s) i in (
          ((of_all (λ us. sees l us ≡ true) (each_then c cs ds) (flat x ++ (flat y ++ s)) one j, t.0), t.1),
          among_left (each_then c cs ds) ds ((flat x ++ flat y) ++ s) i,
        )
    go (Pair (Second Nil) y) s d w a =
        let (t, i) = g.fine.by y s d.1 w.1 a in (
          ((of_all (λ us. sees l us ≡ false) ds (flat y ++ s) other i, tt), t),
          among_right (each_then c cs ds) ds (flat y ++ s) i,
        )
    go (Pair (Second _) y) s d w a = absurd d.0.1
    go (Pair _ y) s d w a = absurd d.0
    go _ s d w a = absurd d

-- the same of one punctuation or another
pub found_signs_then : (l : Look) {c e : ℕ} {cs es : List ℕ} {b : Gram} {ms : List Look} {ds : List Class} → Found b
    ms ds
    → Told l true (each_then c cs ds) → Told l false (each_then e es ds)
    → Found (seq (alt (sees l) (mark c cs) (mark e es)) b) ms (each_then c cs ds ++ each_then e es ds)
found_signs_then l {c} {e} {cs} {es} {b} {ms} {ds} g one other = record { fine = record { by = go } }
  where
    go : (x : Tree) (s : List Token) → Fits x (seq (alt (sees l) (mark c cs) (mark e es)) b) → Ready x → LacksAll ms s
        → Derives x (seq (alt (sees l) (mark c cs) (mark e es)) b) s × At (each_then c cs ds ++ each_then e es ds) x s
    go (Pair (First x) y) s d w a =
        let (t, i) = (found_then g).fine.by (Pair x y) s (d.0.1, d.1) w a in
        let j : IsAmong (each_then c cs ds) (flat x ++ (flat y ++ s)) =
        subst (IsAmong (each_then c cs ds)) (append_assoc (flat x) (flat y) s) i in (
          ((of_all (λ us. sees l us ≡ true) (each_then c cs ds) (flat x ++ (flat y ++ s)) one j, t.0), t.1),
          among_left (each_then c cs ds) (each_then e es ds) ((flat x ++ flat y) ++ s) i,
        )
    go (Pair (Second x) y) s d w a =
        let (t, i) = (found_then g).fine.by (Pair x y) s (d.0.1, d.1) w a in
        let j : IsAmong (each_then e es ds) (flat x ++ (flat y ++ s)) =
        subst (IsAmong (each_then e es ds)) (append_assoc (flat x) (flat y) s) i in (
          ((of_all (λ us. sees l us ≡ false) (each_then e es ds) (flat x ++ (flat y ++ s)) other j, t.0), t.1),
          among_right (each_then c cs ds) (each_then e es ds) ((flat x ++ flat y) ++ s) i,
        )
    go (Pair _ y) s d w a = absurd d.0
    go _ s d w a = absurd d

-- an alternative that is never seen
none_unseen : (l : Look) → ((ts : List Token) → sees l ts ≡ false) → CanSay (sees l) true → ⊥
none_unseen l h k = let e : true ≡ false = sym k.1 ∙ h k.0 in cc e

pub found_unseen : (l : Look) → ((ts : List Token) → sees l ts ≡ false)
    → {a b : Gram} {ls : List Look} {cs : List Class} → Found b ls cs → Found (alt (sees l) a b) ls cs
found_unseen l h {a} {b} {ls} {cs} f = record { fine = record { by = go } }
  where
    go : (x : Tree) (s : List Token) → Fits x (alt (sees l) a b) → Ready x → LacksAll ls s
        → Derives x (alt (sees l) a b) s × At cs x s
    go (First x) s d w c = absurd (none_unseen l h d.0)
    go (Second x) s d w c = let (t, i) = f.fine.by x s d.1 w c in ((h (flat x ++ s), t), i)
    go _ s d w c = absurd d

pub maybe_unseen : (l : Look) → ((ts : List Token) → sees l ts ≡ false)
    → {a b : Gram} {ls : List Look} {cs : List Class} → Maybe b ls cs → Maybe (alt (sees l) a b) ls cs
maybe_unseen l h {a} {b} {ls} {cs} f = record { fine = record { by = go } }
  where
    go : (x : Tree) (s : List Token) → Fits x (alt (sees l) a b) → Ready x → LacksAll ls s
        → Derives x (alt (sees l) a b) s × AtOrNone cs x s
    go (First x) s d w c = absurd (none_unseen l h d.0)
    go (Second x) s d w c = let (t, i) = f.fine.by x s d.1 w c in ((h (flat x ++ s), t), i)
    go _ s d w c = absurd d

-- what is not lacking is seen
seen_or_no : (o : Option (List Token)) (ts : List Token) → seen (cond (seen o) None (Some ts)) ≡ false → seen o ≡ true
seen_or_no (Some us) ts e = refl
seen_or_no None ts e = cc

pub not_lacking : (l : Look) (ts : List Token) → Lacks (no l) ts → sees l ts ≡ true
not_lacking l ts e = seen_or_no (l ts) ts e

-- nothing, and what follows is seen
pub stops : (l : Look) → Maybe (alt (sees l) nothing never) (no l ∷ []) []
stops l = record { fine = record { by = go } }
  where
    go : (x : Tree) (s : List Token) → Fits x (alt (sees l) nothing never) → Ready x → LacksAll (no l ∷ []) s
        → Derives x (alt (sees l) nothing never) s × AtOrNone [] x s
    go (First Nil) s d w c = ((not_lacking l s c.0, tt), inl refl)
    go (First _) s d w c = absurd d.1
    go (Second x) s d w c = absurd (none_never x d.1)
    go _ s d w c = absurd d

pub found_dropped : {g : Gram} {ls : List Look} {cs : List Class} → Maybe g ls cs → Maybe (dropped g) ls []
found_dropped {g} {ls} {cs} f =
    record {
      fine = fine_weaker {A = Without ls} {F = λ x s. flat x ≡ []} (Without ls) (AtOrNone [])
          (fine_dropped {A = Without ls} {F = AtOrNone cs} f.fine) (λ x s a. a) (λ x s i a. inl i);
    }

pub found_judged : {g : Gram} {ls : List Look} {cs : List Class} (p : Tree → Bool) → Found g ls cs
    → Found (judged (λ x. kept_if (p x)) g) ls cs
found_judged {g} {ls} {cs} p f = record { fine = fine_judged {A = Without ls} {F = At cs} p f.fine }

pub maybe_judged : {g : Gram} {ls : List Look} {cs : List Class} (p : Tree → Bool) → Maybe g ls cs
    → Maybe (judged (λ x. kept_if (p x)) g) ls cs
maybe_judged {g} {ls} {cs} p f = record { fine = fine_judged {A = Without ls} {F = AtOrNone cs} p f.fine }

-- the inside of a group
pub found_ended : {g : Gram} {ls : List Look} {cs : List Class} → Found g ls cs → LacksAll ls [] → Fine g Ended Any
found_ended {g} {ls} {cs} f h = fine_weaker Ended Any f.fine (λ x s e. subst (LacksAll ls) (sym e) h) (λ x s i a. tt)

pub maybe_ended : {g : Gram} {ls : List Look} {cs : List Class} → Maybe g ls cs → LacksAll ls [] → Fine g Ended Any
maybe_ended {g} {ls} {cs} f h = fine_weaker Ended Any f.fine (λ x s e. subst (LacksAll ls) (sym e) h) (λ x s i a. tt)

-- an entry before one of which more is known
pub fine_ahead : {a b : Gram} {ls : List Look} {cs : List Class} {E : Edge} (C : Edge) (ds : List Class) → Found a ls cs
    → Fine b E (At ds) → Unseen ls ds → ((x y : Tree) (s : List Token) → C (Pair x y) s → E y s)
    → Fine (seq a b) C (At cs)
fine_ahead {a} {b} {ls} {cs} {E} C ds f g h k =
    fine_seq C (At cs) f.fine g k (λ x y s i c. unseen_all ls ds (flat y ++ s) h i)
    (λ x y s j i c. at_front cs x y s j)

pub maybe_ahead : {a b : Gram} {ls : List Look} {cs : List Class} {E : Edge} (C : Edge) (ds : List Class)
    → Maybe a ls cs
    → Fine b E (At ds) → Unseen ls ds → ((x y : Tree) (s : List Token) → C (Pair x y) s → E y s)
    → Fine (seq a b) C (At (cs ++ ds))
maybe_ahead {a} {b} {ls} {cs} {E} C ds f g h k =
    fine_seq C (At (cs ++ ds)) f.fine g k (λ x y s i c. unseen_all ls ds (flat y ++ s) h i)
    (λ x y s j i c. ⊎_elim (λ e. at_back (cs ++ ds) x y s e (among_right cs ds (flat y ++ s) i))
    (λ m. at_front (cs ++ ds) x y s (among_left cs ds (flat x ++ (flat y ++ s)) m)) j)

-- many, until a look is seen; while it is
pub found_many : (l : Look) {c : ℕ} {g : Gram} {ls : List Look} {cs : List Class} → Found g ls cs → Told l false cs
    → ((ts : List Token) → LacksAll ls (Punct c Apart ∷ ts))
    → Maybe (many (sees l) c g) (no l ∷ the_mark (c ∷ []) ∷ ls) cs
found_many l {c} {g} {ls} {cs} f begun separated =
    record {
      fine =
          fine_many (Without (no l ∷ the_mark (c ∷ []) ∷ ls)) (AtOrNone cs) f.fine
          (λ x s i. of_all (λ us. sees l us ≡ false) cs (flat x ++ s) begun i)
          (λ x ts. separated ts) (λ x z s b. (not_lacking l s b.0, b.1.0, b.1.1)) (λ x y z s b. b) (λ z s b e. inl e)
          (λ x z ys s e i. inr (subst (λ us. IsAmong cs (us ++ s)) (sym e)
          (subst (IsAmong cs) (sym (append_assoc (flat x) ys s)) i)));
    }

not_true : (b : Bool) → b ≡ true → not b ≡ false
not_true true e = refl
not_true false e = cc

not_false : (b : Bool) → b ≡ false → not b ≡ true
not_false false e = refl
not_false true e = cc

pub found_while : (l : Look) (ms : List Look) {c : ℕ} {g : Gram} {ls : List Look} {cs : List Class} → Found g ls cs
    → Told l true cs → ((ts : List Token) → LacksAll ls (Punct c Apart ∷ ts)) → Covers ms (l ∷ the_mark (c ∷ []) ∷ ls)
    → Maybe (many (lacks l) c g) ms cs
found_while l ms {c} {g} {ls} {cs} f begun separated covers =
    record {
      fine =
          fine_many (Without ms) (AtOrNone cs) f.fine
          (λ x s i. not_true (sees l (flat x ++ s)) (of_all (λ us. sees l us ≡ true) cs (flat x ++ s) begun i))
          (λ x ts. separated ts) (λ x z s b. let k = covers s b in (not_false (sees l s) k.0, k.1.0, k.1.1))
          (λ x y z s b. b) (λ z s b e. inl e)
          (λ x z ys s e i. inr (subst (λ us. IsAmong cs (us ++ s)) (sym e)
          (subst (IsAmong cs) (sym (append_assoc (flat x) ys s)) i)));
    }
