-- The longest of some operators that stand first.
use Rattle.std.proofs.Common.{◌≡◌, ℕ, List, [], ◌∷◌, ◌++◌, length, refl, ap, ◌∙◌}
use Rattle.std.specs.Prelude.{Bool, false, nat_lt, filter}
use Rattle.std.proofs.lemmas.Bool.{or_parts}
use Rattle.proc_macro2.specs.Token.{Token}
use Rattle.syn_leaf.specs.Longest.{binary_texts, of_three, assigning, of_two, of_one, one_stands, longer}

none_both : (texts more : List (List ℕ)) (ts : List Token) → one_stands texts ts ≡ false → one_stands more ts ≡ false
    → one_stands (texts ++ more) ts ≡ false
none_both [] more ts h k = k
none_both (text ∷ texts) more ts h k =
    let (a, b) = or_parts _ (one_stands texts ts) h in rw (a, none_both texts more ts b k) refl

-- those of more marks than a number
abbrev wider : ℕ → List Token → Bool
wider n ts = one_stands (filter (λ other. nat_lt n (length other)) binary_texts) ts

pub longest_three : (text : List ℕ) (ts : List Token) → length text ≡ 3
    → one_stands (longer binary_texts text) ts ≡ false
longest_three text ts e = ap (λ n. wider n ts) e

pub longest_two : (text : List ℕ) (ts : List Token) → length text ≡ 2 → one_stands of_three ts ≡ false
    → one_stands (longer binary_texts text) ts ≡ false
longest_two text ts e h = ap (λ n. wider n ts) e ∙ h

pub longest_one : (text : List ℕ) (ts : List Token) → length text ≡ 1 → one_stands of_three ts ≡ false
    → one_stands assigning ts ≡ false → one_stands of_two ts ≡ false
    → one_stands (longer binary_texts text) ts ≡ false
longest_one text ts e h k l =
    ap (λ n. wider n ts) e ∙ none_both of_three (assigning ++ of_two) ts h (none_both assigning of_two ts k l)

pub none_stands : (ts : List Token) → one_stands of_three ts ≡ false → one_stands assigning ts ≡ false
    → one_stands of_two ts ≡ false → one_stands of_one ts ≡ false → one_stands binary_texts ts ≡ false
none_stands ts h k l m =
    none_both of_three (assigning ++ (of_two ++ of_one)) ts h
    (none_both assigning (of_two ++ of_one) ts k (none_both of_two of_one ts l m))

pub ruleset longest = (longest_three, longest_two, longest_one, none_stands)
