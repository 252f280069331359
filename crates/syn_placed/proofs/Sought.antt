-- What looking for a part answers, by the form of the tree.
use Rattle.std.proofs.Common.{◌≡◌, ℕ, zero, suc, List, [], ◌∷◌, ◌++◌, Some, None, cond, refl}
use Rattle.std.proofs.Common.{sym, ap, ◌∙◌, ◌≤◌, drop, append_assoc, arith, length}
use Rattle.std.specs.Prelude.{Result, Ok, Err, MatchResult}
use Rattle.std.proofs.lemmas.List.{map-append}
use Rattle.proc_macro2.specs.Token.{Token, Opens, Closes}
use Rattle.proc_macro2.specs.declared.delimiter.Delimiter.{Delimiter}
use Rattle.syn_buffer.specs.Entries.{entry_token}
use Rattle.syn_buffer.specs.declared.entry.Entry.{Entry}
use Rattle.syn_grammar.specs.Name.{Part}
use Rattle.syn_grammar.specs.Part.{found, is_some}
use Rattle.syn_grammar.specs.Tree as t
use Rattle.syn_grammar.specs.Tree.{Tree, flat}
use Rattle.reader_tree.specs.Forms.{seconds}
use Rattle.syn_placed.specs.Before.{before}
use Rattle.syn_placed.specs.Stands.{tokens, Begins, IsPast, StandsBehind}
use Rattle.syn_placed.proofs.Cuts.{behind_same}

pub begins_same : (w x : Tree) (es : List Entry) → flat w ≡ flat x → Begins w es → Begins x es
begins_same w x es e b = record { rest = b.rest; is = b.is ∙ ap (λ ts. ts ++ b.rest) e }

pub begins_front : (w x y : Tree) (es : List Entry) → w ≡ t.Pair x y → Begins w es → Begins x es
begins_front w x y es e b = record {
  rest = flat y ++ b.rest;
  is = b.is ∙ ap (λ z. flat z ++ b.rest) e ∙ append_assoc (flat x) (flat y) b.rest;
}

pub begins_back : (w x y : Tree) (es mid : List Entry) → w ≡ t.Pair x y → Begins w es → IsPast x es mid → Begins y mid
begins_back w x y es mid e b p = record {
  rest = b.rest;
  is = behind_same p.front mid es (flat x) (flat y ++ b.rest) p.is p.is_front
      (b.is ∙ ap (λ z. flat z ++ b.rest) e ∙ append_assoc (flat x) (flat y) b.rest);
}

-- entries that begin with a group
opened : (d : Delimiter) (x : Tree) (e : Entry) (es : List Entry) (rest : List Token)
    → tokens (e ∷ es) ≡ flat (t.Group d x) ++ rest
    → (entry_token e ≡ Opens d) × (tokens es ≡ flat x ++ (Closes d ∷ rest))
opened d x e es rest h =
    let i : tokens es ≡ (flat x ++ Closes d ∷ []) ++ rest = cc in
    let j : entry_token e ≡ Opens d = cc in
    (j, i ∙ append_assoc (flat x) (Closes d ∷ []) rest)

inside_of : (w x : Tree) (d : Delimiter) (es : List Entry) (rest : List Token) → w ≡ t.Group d x
    → tokens es ≡ flat w ++ rest → tokens es ≡ flat (t.Group d x) ++ rest
inside_of w x d es rest e h = h ∙ ap (λ z. flat z ++ rest) e

begins_within : (d : Delimiter) (x : Tree) (es : List Entry) (rest : List Token)
    → tokens es ≡ flat (t.Group d x) ++ rest → Begins x (drop 1 es)
begins_within d x [] rest h = cc
begins_within d x (e ∷ es) rest h = record { rest = Closes d ∷ rest; is = (opened d x e es rest h).1 }

pub begins_inside : (w x : Tree) (d : Delimiter) (es : List Entry) → w ≡ t.Group d x
    → Begins w es → Begins x (drop 1 es)
begins_inside w x d es e b = begins_within d x es b.rest (inside_of w x d es b.rest e b.is)

pub past_same : (w x : Tree) (es left : List Entry) → flat w ≡ flat x → IsPast x es left → IsPast w es left
past_same w x es left e p = record { front = p.front; is_front = p.is_front ∙ sym e; is = p.is }

both_past : (front other : List Entry) (ts us : List Token) → tokens front ≡ ts → tokens other ≡ us
    → tokens (front ++ other) ≡ ts ++ us
both_past front other ts us e h =
    map-append entry_token front other ∙ ap (λ vs. vs ++ tokens other) e ∙ ap (λ vs. ts ++ vs) h

joined : (front other left mid es : List Entry) → front ++ mid ≡ es → other ++ left ≡ mid
    → (front ++ other) ++ left ≡ es
joined front other left mid es e h = append_assoc front other left ∙ ap (λ us. front ++ us) h ∙ e

pub past_pair : (w x y : Tree) (es mid left : List Entry) → w ≡ t.Pair x y → IsPast x es mid → IsPast y mid left
    → IsPast w es left
past_pair w x y es mid left e p q = record {
  front = p.front ++ q.front;
  is_front = both_past p.front q.front (flat x) (flat y) p.is_front q.is_front ∙ ap flat (sym e);
  is = joined p.front q.front left mid es p.is q.is;
}

-- what stands behind a group whose inside has been passed
closed : (d : Delimiter) (x : Tree) (e : Entry) (es front mid : List Entry) (rest : List Token)
    → tokens (e ∷ es) ≡ flat (t.Group d x) ++ rest → tokens front ≡ flat x → front ++ mid ≡ es
    → IsPast (t.Group d x) (e ∷ es) (drop 1 mid)
closed d x e es front [] rest h spelled is =
    let b = opened d x e es rest h in
    let none = behind_same front [] es (flat x) (Closes d ∷ rest) is spelled b.1 in
    cc
closed d x e es front (c ∷ mid) rest h spelled is =
    let b = opened d x e es rest h in
    let one = behind_same front (c ∷ mid) es (flat x) (Closes d ∷ rest) is spelled b.1 in
    let close : entry_token c ≡ Closes d = cc in
    record {
      front = e ∷ (front ++ c ∷ []);
      is_front = ap (λ k. k ∷ tokens (front ++ c ∷ [])) b.0
          ∙ ap (λ ts. Opens d ∷ ts) (both_past front (c ∷ []) (flat x) (Closes d ∷ [])
          spelled (ap (λ k. k ∷ []) close));
      is = ap (λ us. e ∷ us) (append_assoc front (c ∷ []) mid ∙ is);
    }

past_within : (d : Delimiter) (x : Tree) (es mid : List Entry) (rest : List Token)
    → tokens es ≡ flat (t.Group d x) ++ rest → IsPast x (drop 1 es) mid → IsPast (t.Group d x) es (drop 1 mid)
past_within d x [] mid rest h p = cc
past_within d x (e ∷ es) mid rest h p = closed d x e es p.front mid rest h p.is_front p.is

pub past_inside : (w x : Tree) (d : Delimiter) (es mid : List Entry) → w ≡ t.Group d x → Begins w es
    → IsPast x (drop 1 es) mid → IsPast w es (drop 1 mid)
past_inside w x d es mid e b p =
    past_same w (t.Group d x) es (drop 1 mid) (ap flat e)
    (past_within d x es mid b.rest (inside_of w x d es b.rest e b.is) p)

-- where the part stands
pub stands_here : (n : Part) (w : Tree) (its behind es : List Entry) → before n w ≡ [] → its ++ behind ≡ es
    → StandsBehind (before n w) its es
stands_here n w its behind es e is = record { front = []; behind = behind; is_front = sym e; is = is }

pub stands_same : (ts us : List Token) (its es : List Entry) → us ≡ ts → StandsBehind ts its es → StandsBehind us its es
stands_same ts us its es e s = record { front = s.front; behind = s.behind; is_front = s.is_front ∙ sym e; is = s.is }

pub before_seconds : (p : Part) (n : ℕ) (x : Tree) → before p (seconds n x) ≡ before p x
before_seconds p zero x = refl
before_seconds p (suc n) x = before_seconds p n x

-- in the first of two, or in the second
in_front : (n : Part) (x y tree : Tree) → Some tree ≡ found n x → before n (t.Pair x y) ≡ before n x
in_front n x y tree e =
    ap (λ o. cond (is_some o) (before n x) (flat x ++ before n y)) (sym e)

in_back : (n : Part) (x y : Tree) → None ≡ found n x → before n (t.Pair x y) ≡ flat x ++ before n y
in_back n x y e =
    ap (λ o. cond (is_some o) (before n x) (flat x ++ before n y)) (sym e)

pub stands_front : (n : Part) (w x y tree : Tree) (its es : List Entry) → w ≡ t.Pair x y → Some tree ≡ found n x
    → StandsBehind (before n x) its es → StandsBehind (before n w) its es
stands_front n w x y tree its es e f s =
    stands_same (before n x) (before n w) its es (ap (before n) e ∙ in_front n x y tree f) s

pub stands_behind : (ts us : List Token) (front mid its es : List Entry) → tokens front ≡ ts → front ++ mid ≡ es
    → StandsBehind us its mid → StandsBehind (ts ++ us) its es
stands_behind ts us front mid its es spelled is s = record {
  front = front ++ s.front;
  behind = s.behind;
  is_front = both_past front s.front ts us spelled s.is_front;
  is = joined front s.front (its ++ s.behind) mid es is s.is;
}

pub stands_back : (n : Part) (w x y : Tree) (its mid es : List Entry) → w ≡ t.Pair x y → None ≡ found n x
    → IsPast x es mid → StandsBehind (before n y) its mid → StandsBehind (before n w) its es
stands_back n w x y its mid es e f p s =
    stands_same (flat x ++ before n y) (before n w) its es (ap (before n) e ∙ in_back n x y f)
    (stands_behind (flat x) (before n y) p.front mid its es p.is_front p.is s)

stands_within : (ts : List Token) (d : Delimiter) (x : Tree) (its es : List Entry) (rest : List Token)
    → tokens es ≡ flat (t.Group d x) ++ rest → StandsBehind ts its (drop 1 es) → StandsBehind (Opens d ∷ ts) its es
stands_within ts d x its [] rest h s = cc
stands_within ts d x its (e ∷ es) rest h s =
    let b = opened d x e es rest h in
    stands_behind (Opens d ∷ []) ts (e ∷ []) es its (e ∷ es) (ap (λ k. k ∷ []) b.0) refl s

pub stands_inside : (n : Part) (w x : Tree) (d : Delimiter) (its es : List Entry) → w ≡ t.Group d x → Begins w es
    → StandsBehind (before n x) its (drop 1 es) → StandsBehind (before n w) its es
stands_inside n w x d its es e b s =
    stands_same (Opens d ∷ before n x) (before n w) its es (ap (before n) e)
    (stands_within (before n x) d x its es b.rest (inside_of w x d es b.rest e b.is) s)

-- a mark is left behind the inside of a group
shut : (x : Tree) (d : Delimiter) (e : Entry) (es front mid : List Entry) (rest : List Token)
    → tokens (e ∷ es) ≡ flat (t.Group d x) ++ rest → tokens front ≡ flat x → front ++ mid ≡ es → 1 ≤ length mid
shut x d e es front [] rest h spelled is =
    let b = opened d x e es rest h in
    let none = behind_same front [] es (flat x) (Closes d ∷ rest) is spelled b.1 in
    cc
shut x d e es front (c ∷ mid) rest h spelled is = omega arith

shut_within : (x : Tree) (d : Delimiter) (es mid : List Entry) (rest : List Token)
    → tokens es ≡ flat (t.Group d x) ++ rest → IsPast x (drop 1 es) mid → 1 ≤ length mid
shut_within x d [] mid rest h p = cc
shut_within x d (e ∷ es) mid rest h p = shut x d e es p.front mid rest h p.is_front p.is

pub shut_inside : (w x : Tree) (d : Delimiter) (es mid : List Entry) → w ≡ t.Group d x → Begins w es
    → IsPast x (drop 1 es) mid → 1 ≤ length mid
shut_inside w x d es mid e b p = shut_within x d es mid b.rest (inside_of w x d es b.rest e b.is) p

-- what looking in the second of two answers, and in what has the same tokens
pub sought_back : {A B : Type 0} (g : A → List Entry) (h : B → List Entry) (r : Result A B) (n : Part) (w x y : Tree)
    (es mid : List Entry) → w ≡ t.Pair x y → None ≡ found n x → IsPast x es mid
    → MatchResult r (λ a. StandsBehind (before n y) (g a) mid) (λ b. IsPast y mid (h b))
    → MatchResult r (λ a. StandsBehind (before n w) (g a) es) (λ b. IsPast w es (h b))
sought_back g h (Ok a) n w x y es mid e f p s = stands_back n w x y (g a) mid es e f p s
sought_back g h (Err b) n w x y es mid e f p s = past_pair w x y es mid (h b) e p s

pub sought_same : {A B : Type 0} (g : A → List Entry) (h : B → List Entry) (r : Result A B) (n : Part) (w x : Tree)
    (es : List Entry) → flat w ≡ flat x → before n w ≡ before n x
    → MatchResult r (λ a. StandsBehind (before n x) (g a) es) (λ b. IsPast x es (h b))
    → MatchResult r (λ a. StandsBehind (before n w) (g a) es) (λ b. IsPast w es (h b))
sought_same g h (Ok a) n w x es e f s = stands_same (before n x) (before n w) (g a) es f s
sought_same g h (Err b) n w x es e f s = past_same w x es (h b) e s
