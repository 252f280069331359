-- Whether an impl keeps its generics is seen in what was read.
use Rattle.std.proofs.Common.{◌≡◌, List, ℕ, refl, ap, ◌∙◌}
use Rattle.std.specs.Prelude.{Bool, false, ◌&&◌, ◌||◌, not}
use Rattle.syn_grammar.specs.Kind.{Kind, Position, AtType, WithPlus, AType, AnyPath, QualifiedPath}
use Rattle.syn_grammar.specs.Kind.{Path, Segments}
use Rattle.syn_grammar.specs.Name.{the_polarity, the_self, the_first}
use Rattle.syn_grammar.specs.Tree.{Tree, AWord, Pair, First, Second, Node, Back}
use Rattle.syn_grammar.specs.Part.{has, the, choice}
use Rattle.syn_grammar.specs.Kept.{held, kept}
use Rattle.syn_grammar.specs.Tidy.{is_lone_segment, is_lone_path, is_ident_type, is_bracketed, begins_bracketed}
use Rattle.syn_grammar.specs.Tidy.{keeps_generics}
use Rattle.syn_grammar.specs.Normal.{place_of, passed, normal_in}
use Rattle.laws_ranges.proofs.Dotted.{dotted_is}
use Rattle.writer_read.proofs.Bare.{has_made, the_made}

-- what a test says of no form behind its left operand, it says of none that is kept
back_made : (e : Tree → Bool) → ((l : Tree) (k : Kind) (y : Tree) → e (Back l k y) ≡ false) → (p : Position) (l : Tree)
    (k : Kind) (y : Tree) → e (normal_in p (kept (Back l k y))) ≡ false
back_made e h p l k y = dotted_is (λ z. e (normal_in p z) ≡ false) h (kept l) k (kept y)

-- what is seen of each tree is seen of what was chosen
module _ (e : Tree → Bool) (h : (p : Position) (x : Tree) → e (normal_in p (kept x)) ≡ e x) where
  choice_made : (p : Position) (x : Tree) → e (choice (normal_in p (kept x))) ≡ e (choice x)
  choice_made p (First x) = choice_made p x
  choice_made p (Second x) = choice_made p x
  choice_made p (Back l k y) =
      dotted_is (λ z. e (choice (normal_in p z)) ≡ e (normal_in p z)) (λ l k y. refl) (kept l) k (kept y)
      ∙ h p (Back l k y)
  choice_made p x = h p x

-- one name, as segments
abbrev segment : List ℕ → Tree → Bool
segment cs x = is_lone_segment (Node (Segments AtType) (Second (Pair (AWord cs) x)))

segment_three : (cs : List ℕ) (p : Position) (x : Tree)
    → segment cs (Second (Second (normal_in p (kept x)))) ≡ segment cs (Second (Second x))
segment_three cs p (Back l k y) = back_made (λ z. segment cs (Second (Second z))) (λ l k y. refl) p l k y
segment_three cs p _ = refl

segment_two : (cs : List ℕ) (p : Position) (x : Tree)
    → segment cs (Second (normal_in p (kept x))) ≡ segment cs (Second x)
segment_two cs p (Second x) = segment_three cs p x
segment_two cs p (Back l k y) = back_made (λ z. segment cs (Second z)) (λ l k y. refl) p l k y
segment_two cs p _ = refl

segment_one : (cs : List ℕ) (p : Position) (x : Tree) → segment cs (normal_in p (kept x)) ≡ segment cs x
segment_one cs p (Second x) = segment_two cs p x
segment_one cs p (Back l k y) = back_made (segment cs) (λ l k y. refl) p l k y
segment_one cs p _ = refl

abbrev name : Tree → Tree → Bool
name w x = is_lone_segment (Node (Segments AtType) (Second (Pair w x)))

name_made : (p : Position) (w x : Tree) → name (normal_in p (kept w)) (normal_in p (kept x)) ≡ name w x
name_made p (AWord cs) x = segment_one cs p x
name_made p (Back l k y) x = back_made (λ z. name z (normal_in p (kept x))) (λ l k y. refl) p l k y
name_made p _ x = refl

abbrev segments : Tree → Bool
segments x = is_lone_segment (Node (Segments AtType) x)

second_segment : (p : Position) (x : Tree) → segments (Second (normal_in p (kept x))) ≡ segments (Second x)
second_segment p (Pair w x) = name_made p w x
second_segment p (Back l k y) = back_made (λ z. segments (Second z)) (λ l k y. refl) p l k y
second_segment p _ = refl

own_segments : (p : Position) (x : Tree) → segments (normal_in p (kept x)) ≡ segments x
own_segments p (Second x) = second_segment p x
own_segments p (Back l k y) = back_made segments (λ l k y. refl) p l k y
own_segments p _ = refl

segment_made : (p : Position) (x : Tree) → is_lone_segment (normal_in p (kept x)) ≡ is_lone_segment x
unfolding held
segment_made p (Node (Segments s) x) = own_segments (passed (Segments AtType) p) x
segment_made p (Node _ x) = refl
segment_made p (Back l k y) = back_made is_lone_segment (λ l k y. refl) p l k y
segment_made p _ = refl

-- a path of one name
abbrev path : Tree → Bool
path x = is_lone_path (Node (AnyPath AtType) x)

abbrev parts : Tree → Tree → Bool
parts z x = path (Second (Node (Path AtType) (Pair z x)))

parts_made : (p : Position) (z x : Tree) → parts (normal_in p (kept z)) (normal_in p (kept x)) ≡ parts z x
parts_made p (Second z) x = segment_made p x
parts_made p (Back l k y) x = back_made (λ z. parts z (normal_in p (kept x))) (λ l k y. refl) p l k y
parts_made p _ x = refl

own_path : (p : Position) (x : Tree)
    → path (Second (Node (Path AtType) (normal_in p (kept x)))) ≡ path (Second (Node (Path AtType) x))
own_path p (Pair z x) = parts_made p z x
own_path p (Back l k y) = back_made (λ z. path (Second (Node (Path AtType) z))) (λ l k y. refl) p l k y
own_path p _ = refl

second_path : (p : Position) (x : Tree) → path (Second (normal_in p (kept x))) ≡ path (Second x)
unfolding held
second_path p (Node (Path s) x) = own_path (passed (Path AtType) p) x
second_path p (Node _ x) = refl
second_path p (Back l k y) = back_made (λ z. path (Second z)) (λ l k y. refl) p l k y
second_path p _ = refl

any_path : (p : Position) (x : Tree) → path (normal_in p (kept x)) ≡ path x
any_path p (Second x) = second_path p x
any_path p (Back l k y) = back_made path (λ l k y. refl) p l k y
any_path p _ = refl

path_made : (p : Position) (x : Tree) → is_lone_path (normal_in p (kept x)) ≡ is_lone_path x
unfolding held
path_made p (Node (AnyPath s) x) = any_path (passed (AnyPath AtType) p) x
path_made p (Node _ x) = refl
path_made p (Back l k y) = back_made is_lone_path (λ l k y. refl) p l k y
path_made p _ = refl

-- a type that is one
type_made : (p : Position) (x : Tree) → is_ident_type (normal_in p (kept x)) ≡ is_ident_type x
unfolding held
type_made p (Node (AType q) x) = choice_made is_lone_path path_made (passed (AType WithPlus) p) x
type_made p (Node _ x) = refl
type_made p (Back l k y) = back_made is_ident_type (λ l k y. refl) p l k y
type_made p _ = refl

-- a path that begins with it in brackets
abbrev qualified : Tree → Bool
qualified x = is_bracketed (Node (AnyPath AtType) (First (Node (QualifiedPath AtType) x)))

bracketed_three : (p : Position) (l m x z y v : Tree)
    → qualified (Pair l (Pair (normal_in p (kept x)) (Pair (normal_in p (kept z)) y)))
    ≡ qualified (Pair m (Pair x (Pair z v)))
bracketed_three p l m x (Second z) y v = type_made p x
bracketed_three p l m x (Back n k z) y v =
    back_made (λ u. qualified (Pair l (Pair (normal_in p (kept x)) (Pair u y)))) (λ n k z. refl) p n k z
bracketed_three p l m x _ y v = refl

bracketed_two : (p : Position) (l m x y : Tree)
    → qualified (Pair l (Pair (normal_in p (kept x)) (normal_in p (kept y)))) ≡ qualified (Pair m (Pair x y))
bracketed_two p l m x (Pair z y) = bracketed_three p l m x z (normal_in p (kept y)) y
bracketed_two p l m x (Back n k y) =
    back_made (λ z. qualified (Pair l (Pair (normal_in p (kept x)) z))) (λ n k y. refl) p n k y
bracketed_two p l m x _ = refl

bracketed_one : (p : Position) (l m x : Tree) → qualified (Pair l (normal_in p (kept x))) ≡ qualified (Pair m x)
bracketed_one p l m (Pair x y) = bracketed_two p l m x y
bracketed_one p l m (Back n k y) = back_made (λ z. qualified (Pair l z)) (λ n k y. refl) p n k y
bracketed_one p l m _ = refl

own_bracketed : (p : Position) (x : Tree) → qualified (normal_in p (kept x)) ≡ qualified x
own_bracketed p (Pair l x) = bracketed_one p (normal_in p (kept l)) l x
own_bracketed p (Back l k y) = back_made qualified (λ l k y. refl) p l k y
own_bracketed p _ = refl

abbrev chosen : Tree → Bool
chosen x = is_bracketed (Node (AnyPath AtType) x)

first_bracketed : (p : Position) (x : Tree) → chosen (First (normal_in p (kept x))) ≡ chosen (First x)
unfolding held
first_bracketed p (Node (QualifiedPath s) x) = own_bracketed (passed (QualifiedPath AtType) p) x
first_bracketed p (Node _ x) = refl
first_bracketed p (Back l k y) = back_made (λ z. chosen (First z)) (λ l k y. refl) p l k y
first_bracketed p _ = refl

chosen_made : (p : Position) (x : Tree) → chosen (normal_in p (kept x)) ≡ chosen x
chosen_made p (First x) = first_bracketed p x
chosen_made p (Back l k y) = back_made chosen (λ l k y. refl) p l k y
chosen_made p _ = refl

bracketed_made : (p : Position) (x : Tree) → is_bracketed (normal_in p (kept x)) ≡ is_bracketed x
unfolding held
bracketed_made p (Node (AnyPath s) x) = chosen_made (passed (AnyPath AtType) p) x
bracketed_made p (Node _ x) = refl
bracketed_made p (Back l k y) = back_made is_bracketed (λ l k y. refl) p l k y
bracketed_made p _ = refl

begins_made : (p : Position) (x : Tree) → begins_bracketed (normal_in p (kept x)) ≡ begins_bracketed x
unfolding held
begins_made p (Node (AType q) x) = choice_made is_bracketed bracketed_made (passed (AType WithPlus) p) x
begins_made p (Node _ x) = refl
begins_made p (Back l k y) = back_made begins_bracketed (λ l k y. refl) p l k y
begins_made p _ = refl

pub keeps_made : (p : Position) (x : Tree) → keeps_generics (normal_in p (kept x)) ≡ keeps_generics x
keeps_made p x =
    let y : Tree = normal_in p (kept x) in
    ap (λ b. not (b || has the_self y) && begins_bracketed (the the_first y)) (has_made the_polarity p x)
    ∙ ap (λ b. not (has the_polarity x || b) && begins_bracketed (the the_first y)) (has_made the_self p x)
    ∙ ap (λ b. not (has the_polarity x || has the_self x) && b)
    (the_made the_first begins_bracketed refl (begins_made (place_of the_first)) p x)
