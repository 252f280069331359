-- The text of tokens that stand one behind the other.
use Rattle.std.proofs.Common.{◌≡◌, ℕ, List, [], ◌∷◌, ◌++◌, refl, sym, ap, ◌∙◌, append_assoc, Bool, true, false, not}
use Rattle.std.proofs.Common.{◌&&◌, encode_utf8_all}
use Rattle.std.proofs.lemmas.List.{append-nil, map-append}
use Rattle.std.proofs.lemmas.Bool.{and_right}
use Rattle.std.proofs.lemmas.Str.{encodes-append}
use Rattle.proc_macro2.specs.declared.delimiter.Delimiter.TheVariants as delimiter
use Rattle.proc_macro2.specs.Token.{Delimiter, Token, Opens, Closes, Spanned, plain}
use Rattle.proc_macro2.specs.Printed.{shown, hugs, is_hugged, is_apart, opens_brace, closes_brace, space, text, printed}
use Rattle.proc_macro2.specs.Shown.{front, back, empty, last, hugs_last}
use Rattle.proc_macro2.specs.Flat.{spanned, tree_tokens, trees_tokens, group_tokens}
use Rattle.proc_macro2.specs.declared.tree.Group.{Group}
use Rattle.proc_macro2.specs.declared.tree.TokenTree.{TokenTree}
use Rattle.proc_macro2.specs.declared.tree.TokenTree.TheVariants as tree
use Rattle.proc_macro2.proofs.Views.{trees_more}

pub text_append : (t u : Token) (ts us : List Token)
    → text ((t ∷ ts) ++ u ∷ us) ≡ text (t ∷ ts) ++ (space (is_apart (last t ts) u) ++ text (u ∷ us))
text_append t u [] us = refl
text_append t u (v ∷ vs) us = ap (λ r. shown t ++ (space (is_apart t v) ++ r)) (text_append v u vs us)
    ∙ simp append_assoc

last_append : (t u : Token) (ts us : List Token) → last t (ts ++ u ∷ us) ≡ last u us
last_append t u [] us = refl
last_append t u (v ∷ vs) us = last_append v u vs us

-- whole trees begin with no closing token and end with no opening one
pub record IsWhole (t : Token) (ts : List Token) : Type 0 where
  pub opens : closes_brace t ≡ false
  pub free : is_hugged t ≡ false
  pub closes : opens_brace (last t ts) ≡ false

close_to : (t : Token) (ts : List Token) (us : List ℕ) (d : Delimiter) → IsWhole t ts → is_hugged (Closes d) ≡ true
    → closes_brace (Closes d) ≡ false → us ≡ shown (Closes d) →
    text ((t ∷ ts) ++ Closes d ∷ []) ≡ text (t ∷ ts) ++ us
close_to t ts us d w h b e = text_append t (Closes d) ts []
    ∙ rw (w.closes, h, b, and_right (not (hugs (last t ts))) false refl, e) refl

-- a group that holds trees
pub group_text : (d : Delimiter) (t : Token) (ts : List Token) → IsWhole t ts
    → text (Opens d ∷ (t ∷ ts) ++ Closes d ∷ []) ≡ front d ++ (text (t ∷ ts) ++ back d)
group_text delimiter.Parenthesis t ts w =
    rw w.opens (ap (λ r. 40 ∷ r) (close_to t ts _ delimiter.Parenthesis w refl refl refl))
group_text delimiter.Bracket t ts w = rw w.opens (ap (λ r. 91 ∷ r) (close_to t ts _ delimiter.Bracket w refl refl refl))
group_text delimiter.None t ts w = rw w.opens (close_to t ts _ delimiter.None w refl refl refl)
group_text delimiter.Brace t ts w =
    ap (λ r. 123 ∷ 32 ∷ r) (text_append t (Closes delimiter.Brace) ts [] ∙ rw w.closes refl)

and_true : (b : Bool) → (b && true) ≡ b
and_true true = refl
and_true false = refl

apart_whole : (t u : Token) (ts us : List Token) → IsWhole t ts → IsWhole u us
    → is_apart (last t ts) u ≡ not (hugs (last t ts))
apart_whole t u ts us w v = rw (w.closes, v.opens, v.free) (and_true (not (hugs (last t ts))))

-- whole trees, and more of them
pub whole_append : (t u : Token) (ts us : List Token) → IsWhole t ts → IsWhole u us
    → text ((t ∷ ts) ++ u ∷ us) ≡ text (t ∷ ts) ++ (space (not (hugs (last t ts))) ++ text (u ∷ us))
whole_append t u ts us w v = text_append t u ts us
    ∙ ap (λ b. text (t ∷ ts) ++ (space b ++ text (u ∷ us))) (apart_whole t u ts us w v)

pub group_plain : (g : Group) → plain (group_tokens g) ≡ Opens g.delimiter ∷ plain g.stream ++ Closes g.delimiter ∷ []
group_plain g = ap (λ r. Opens g.delimiter ∷ r)
    (map-append (λ (s : Spanned). s.token) g.stream (spanned (Closes g.delimiter) g.span ∷ []))

pub group_joint : (g : Group) → false ≡ hugs_last (plain (group_tokens g))
group_joint g = sym (ap hugs_last (group_plain g)
    ∙ ap hugs (last_append (Opens g.delimiter) (Closes g.delimiter) (plain g.stream) []))

record Whole (tokens : List Token) : Type 0 where
  first : Token
  others : List Token
  is : tokens ≡ first ∷ others
  whole : IsWhole first others

tree_whole : (x : TokenTree) → Whole (plain (tree_tokens x))
tree_whole (tree.Group g) = record {
  first = Opens g.delimiter;
  others = plain g.stream ++ Closes g.delimiter ∷ [];
  is = group_plain g;
  whole = record {
    opens = refl;
    free = refl;
    closes = ap opens_brace (last_append (Opens g.delimiter) (Closes g.delimiter) (plain g.stream) []);
  };
}
tree_whole (tree.Ident i) =
    record { first = _; others = []; is = refl; whole = record { opens = refl; free = refl; closes = refl } }
tree_whole (tree.Punct p) =
    record { first = _; others = []; is = refl; whole = record { opens = refl; free = refl; closes = refl } }
tree_whole (tree.Literal l) =
    record { first = _; others = []; is = refl; whole = record { opens = refl; free = refl; closes = refl } }

plain_trees : List TokenTree → List Token
plain_trees ts = plain (trees_tokens ts)

pub plain_append : (ss ts : List Spanned) → plain (ss ++ ts) ≡ plain ss ++ plain ts
plain_append ss ts = map-append (λ (s : Spanned). s.token) ss ts

trees_whole : (y : TokenTree) (ts : List TokenTree) → Whole (plain (trees_tokens (y ∷ ts)))
trees_whole y [] =
    let w = tree_whole y in
    record { first = w.first; others = w.others; is = ap plain (append-nil (tree_tokens y)) ∙ w.is; whole = w.whole }
trees_whole y (z ∷ ts) =
    let w = tree_whole y in
    let v = trees_whole z ts in
    record {
      first = w.first;
      others = w.others ++ v.first ∷ v.others;
      is = plain_append (tree_tokens y) (trees_tokens (z ∷ ts)) ∙ ap (λ r. r ++ plain (trees_tokens (z ∷ ts))) w.is
          ∙ ap (λ r. w.first ∷ w.others ++ r) v.is;
      whole = record {
        opens = w.whole.opens;
        free = w.whole.free;
        closes = ap opens_brace (last_append w.first v.first w.others v.others) ∙ v.whole.closes;
      };
    }

more_plain : (ts : List TokenTree) (x : TokenTree)
    → plain (trees_tokens (ts ++ x ∷ [])) ≡ plain (trees_tokens ts) ++ plain (tree_tokens x)
more_plain ts x = ap plain (trees_more ts x) ∙ plain_append (trees_tokens ts) (tree_tokens x)

pub joint_more : (ts : List TokenTree) (x : TokenTree)
    → hugs_last (plain (trees_tokens (ts ++ x ∷ []))) ≡ hugs_last (plain (tree_tokens x))
joint_more [] x = ap (λ r. hugs_last (plain r)) (append-nil (tree_tokens x))
joint_more (y ∷ ys) x =
    let w = trees_whole y ys in
    let v = tree_whole x in
    ap hugs_last (more_plain (y ∷ ys) x ∙ ap (λ r. r ++ plain (tree_tokens x)) w.is
    ∙ ap (λ r. w.first ∷ w.others ++ r) v.is)
    ∙ ap hugs (last_append w.first v.first w.others v.others) ∙ sym (ap hugs_last v.is)

pub text_more : (ts : List TokenTree) (x : TokenTree)
    → text (plain (trees_tokens (ts ++ x ∷ [])))
    ≡ text (plain (trees_tokens ts)) ++
    (space (not (hugs_last (plain (trees_tokens ts)))) ++ text (plain (tree_tokens x)))
text_more [] x = ap (λ r. text (plain r)) (append-nil (tree_tokens x))
text_more (y ∷ ys) x =
    let w = trees_whole y ys in
    let v = tree_whole x in
    ap text (more_plain (y ∷ ys) x) ∙ rw (w.is, v.is) (whole_append w.first v.first w.others v.others w.whole v.whole)

-- bytes: one more tree
pub printed_more : (ts : List TokenTree) (x : TokenTree) (close : Bool) → close ≡ hugs_last (plain (trees_tokens ts)) →
    printed (trees_tokens ts) ++ encode_utf8_all (space (not close) ++ text (plain (tree_tokens x)))
    ≡ printed (trees_tokens (ts ++ x ∷ []))
printed_more ts x close j =
    sym (encodes-append (text (plain (trees_tokens ts))) (space (not close) ++ text (plain (tree_tokens x))))
    ∙ ap encode_utf8_all (ap (λ b. text (plain (trees_tokens ts)) ++ (space (not b) ++ text (plain (tree_tokens x)))) j
    ∙ sym (text_more ts x))

-- bytes: a space, and then the text
pub printed_apart : (cs : List ℕ) → 32 ∷ encode_utf8_all cs ≡ encode_utf8_all (space true ++ cs)
unfolding lib.Utf8.encode
printed_apart cs = refl

-- bytes: a group that holds trees
pub printed_group : (g : Group) (items : List TokenTree) → trees_tokens items ≡ g.stream → (items ≡ [] → ⊥) →
    front g.delimiter ++ (printed g.stream ++ back g.delimiter) ≡ printed (group_tokens g)
unfolding lib.Utf8.encode
printed_group g [] e h = absurd (h refl)
printed_group g (y ∷ ts) e h =
    let w = trees_whole y ts in
    let s : plain g.stream ≡ w.first ∷ w.others = sym (ap plain e) ∙ w.is in
    sym (ap encode_utf8_all (ap text (group_plain g ∙ ap (λ r. Opens g.delimiter ∷ r ++ Closes g.delimiter ∷ []) s)
    ∙ group_text g.delimiter w.first w.others w.whole)
    ∙ ends g.delimiter (text (w.first ∷ w.others))
    ∙ ap (λ r. front g.delimiter ++ (encode_utf8_all (text r) ++ back g.delimiter)) (sym s))
  where
    ends : (d : Delimiter) (cs : List ℕ)
        → encode_utf8_all (front d ++ (cs ++ back d)) ≡ front d ++ (encode_utf8_all cs ++ back d)
    ends d cs = encodes-append (front d) (cs ++ back d)
        ∙ ap (λ r. encode_utf8_all (front d) ++ r) (encodes-append cs (back d)) ∙ ascii d cs
      where
        ascii : (d : Delimiter) (cs : List ℕ)
            → encode_utf8_all (front d) ++ (encode_utf8_all cs ++ encode_utf8_all (back d))
            ≡ front d ++ (encode_utf8_all cs ++ back d)
        ascii delimiter.Parenthesis cs = refl
        ascii delimiter.Brace cs = refl
        ascii delimiter.Bracket cs = refl
        ascii delimiter.None cs = refl

-- a group without trees
pub empty_text : (d : Delimiter) → text (Opens d ∷ Closes d ∷ []) ≡ empty d
empty_text delimiter.Parenthesis = refl
empty_text delimiter.Brace = refl
empty_text delimiter.Bracket = refl
empty_text delimiter.None = refl

-- bytes: a group without trees
pub printed_empty : (g : Group) (items : List TokenTree) → trees_tokens items ≡ g.stream → items ≡ []
    → empty g.delimiter ≡ printed (group_tokens g)
unfolding lib.Utf8.encode
printed_empty g items e h =
    empties g.delimiter ∙ sym (ap (λ ts. encode_utf8_all (text ts))
    (group_plain g ∙ ap (λ s. Opens g.delimiter ∷ plain s ++ Closes g.delimiter ∷ []) (sym e ∙ ap trees_tokens h)))
  where
    empties : (d : Delimiter) → empty d ≡ encode_utf8_all (text (Opens d ∷ Closes d ∷ []))
    empties delimiter.Parenthesis = refl
    empties delimiter.Brace = refl
    empties delimiter.Bracket = refl
    empties delimiter.None = refl
