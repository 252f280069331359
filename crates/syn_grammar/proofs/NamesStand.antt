-- Each name stands among the tokens at its place.
use Rattle.std.proofs.Common.{ℕ, ◌+◌, List, [], ◌∷◌, ◌++◌, length, refl, sym, ap, ◌∙◌, append_assoc, length-append}
use Rattle.std.proofs.Common.{arith}
use Rattle.std.specs.Prelude.{Bool, true, false, cond}
use Rattle.proc_macro2.specs.Token.{Token, Opens, Closes, Ident}
use Rattle.syn_grammar.specs.Name.{the_name, same_part}
use Rattle.syn_grammar.specs.Tree.{Tree, AWord, Pair, First, Second, Again, Group, Called, Node, flat}
use Rattle.syn_grammar.specs.Names.{Name, Lister, Nothing, Others, Names, lister, named, names_behind, StandsIn}
use Rattle.syn_grammar.specs.Names.{AllStand, names}

-- tokens behind change no place, and tokens in front move it
stands_front : (ts us : List Token) (n : ℕ) (name : Name) → StandsIn ts n name → StandsIn (ts ++ us) n name
stands_front ts us n name s = record {
  before = s.before;
  behind = s.behind ++ us;
  split = ap (λ v. v ++ us) s.split ∙ append_assoc s.before (Ident name.text ∷ s.behind) us;
  place = s.place;
}

stands_behind : (ts us : List Token) (n : ℕ) (name : Name) → StandsIn us (n + length ts) name
    → StandsIn (ts ++ us) n name
stands_behind ts us n name s = record {
  before = ts ++ s.before;
  behind = s.behind;
  split = ap (λ v. ts ++ v) s.split ∙ sym (append_assoc ts s.before (Ident name.text ∷ s.behind));
  place = omega (arith, s.place, length-append ts s.before);
}

all_front : (ts us : List Token) (n : ℕ) (ms : List Name) → AllStand ts n ms → AllStand (ts ++ us) n ms
all_front ts us n [] s = tt
all_front ts us n (m ∷ ms) s = (stands_front ts us n m s.0, all_front ts us n ms s.1)

all_behind : (ts us : List Token) (n : ℕ) (ms : List Name) → AllStand us (n + length ts) ms → AllStand (ts ++ us) n ms
all_behind ts us n [] s = tt
all_behind ts us n (m ∷ ms) s = (stands_behind ts us n m s.0, all_behind ts us n ms s.1)

all_both : (ts : List Token) (n : ℕ) (ms os : List Name) → AllStand ts n ms → AllStand ts n os
    → AllStand ts n (ms ++ os)
all_both ts n [] os s o = o
all_both ts n (m ∷ ms) os s o = (s.0, all_both ts n ms os s.1 o)

-- a name itself
named_stands : (l : Lister) (n : ℕ) (x : Tree) → AllStand (flat x) n (named l n x)
named_stands (Names k) n (AWord cs) = (record { before = []; behind = []; split = refl; place = omega arith }, tt)
named_stands Nothing n (AWord cs) = tt
named_stands Others n (AWord cs) = tt
named_stands (Names k) n (First x) = named_stands (Names k) n x
named_stands Nothing n (First x) = named_stands Nothing n x
named_stands Others n (First x) = named_stands Others n x
named_stands (Names k) n (Second x) = named_stands (Names k) n x
named_stands Nothing n (Second x) = named_stands Nothing n x
named_stands Others n (Second x) = named_stands Others n x
named_stands (Names k) n _ = tt
named_stands Nothing n _ = tt
named_stands Others n _ = tt

all_cond : (b : Bool) (ts : List Token) (n : ℕ) (ms os : List Name) → AllStand ts n ms → AllStand ts n os
    → AllStand ts n (cond b ms os)
all_cond true ts n ms os s o = s
all_cond false ts n ms os s o = o

both_stand : (l : Lister) (n : ℕ) (x y : Tree) → AllStand (flat x) n (names_behind l n x)
    → AllStand (flat y) (n + length (flat x)) (names_behind l (n + length (flat x)) y)
    → AllStand (flat x ++ flat y) n (names_behind l n x ++ names_behind l (n + length (flat x)) y)
both_stand l n x y s o =
    all_both (flat x ++ flat y) n (names_behind l n x) (names_behind l (n + length (flat x)) y)
    (all_front (flat x) (flat y) n (names_behind l n x) s)
    (all_behind (flat x) (flat y) n (names_behind l (n + length (flat x)) y) o)

-- in a group
grouped : (t : Token) (ts us : List Token) (n : ℕ) (ms : List Name) → AllStand ts (n + 1) ms
    → AllStand (t ∷ ts ++ us) n ms
grouped t ts us n ms s = all_behind (t ∷ []) (ts ++ us) n ms (all_front ts us (n + 1) ms s)

stand : (l : Lister) (n : ℕ) (x : Tree) → AllStand (flat x) n (names_behind l n x)
stand l n (Called m x) = all_cond (same_part m the_name) (flat x) n (named l n x) (names_behind l n x)
    (named_stands l n x) (stand l n x)
stand l n (Node k x) = stand (lister l k x) n x
stand l n (Pair x y) = both_stand l n x y (stand l n x) (stand l (n + length (flat x)) y)
stand l n (First x) = stand l n x
stand l n (Second x) = stand l n x
stand l n (Again x y) = both_stand l n x y (stand l n x) (stand l (n + length (flat x)) y)
stand l n (Group d x) = grouped (Opens d) (flat x) (Closes d ∷ []) n (names_behind l (n + 1) x) (stand l (n + 1) x)
stand l n _ = tt

pub all_stand : (x : Tree) → AllStand (flat x) 0 (names x)
all_stand x = stand Others 0 x
