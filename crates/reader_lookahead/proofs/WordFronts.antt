-- Which form a word begins. Of a word that is none of the few that begin a form by themselves each look but those at a
-- macro call and at a path sees nothing.
use Rattle.std.proofs.lemmas.Slice.Eq.{bytes_eq-Decides}
use Rattle.std.proofs.Common.{◌≡◌, ℕ, List, [], ◌∷◌, ◌++◌, refl, sym, ap, ◌∙◌}
use Rattle.std.specs.Prelude.{Bool, true, false, ◌||◌, cond, Option, Some, None, codes, take, drop}
use Rattle.proc_macro2.specs.Token.{Token, Opens, Closes, Ident, Literal, Punct}
use Rattle.syn_grammar.specs.Forms as f
use Rattle.syn_grammar.specs.Kind as k
use Rattle.syn_grammar.specs.Look.{Look, behind, first_seen, seen, sees, a_name, the_mark, the_word, repeatedly}
use Rattle.syn_grammar.specs.Look.{◌then◌, ◌or◌, no, a_lifetime}
use Rattle.syn_grammar.specs.Say.{at, brace, marks}
use Rattle.syn_grammar.specs.Words.{is_bool, is_name}
use Rattle.rust_leaf.specs.Keywords.{is_among, same_text}
use Rattle.reader_tokens.specs.Marks.{no_mark}
use Rattle.reader_lookahead.specs.Words.{begins_form, early_words, late_words}
use Rattle.reader_lookahead.proofs.Reserved.{either_no}

abbrev Lacks : List f.Case → List Token → Type 0
Lacks [] ts = Unit
Lacks (f.form kind look ∷ cs) ts = (sees look ts ≡ false) × Lacks cs ts

lacked : (cs ds : List f.Case) (ts : List Token) → Lacks cs ts → f.first_form (cs ++ ds) ts ≡ f.first_form ds ts
lacked [] ds ts h = refl
lacked (f.form kind look ∷ cs) ds ts h =
    ap (λ b. cond b (Some kind) (f.first_form (cs ++ ds) ts)) h.0 ∙ lacked cs ds ts h.1

-- looks that see nothing, of looks that see nothing
or_none : (a b : Option (List Token)) → a ≡ None → b ≡ None → first_seen a b ≡ None
or_none a b h g = ap (λ x. first_seen x b) h ∙ g

then_none : (a : Option (List Token)) (l : Look) → a ≡ None → behind a l ≡ None
then_none a l h = ap (λ x. behind x l) h

word_none : (s w : List ℕ) (us : List Token) → same_text s w ≡ false → the_word s (Ident w ∷ us) ≡ None
word_none s w us h = ap (λ b. cond b (Some us) None) h

unseen : (o : Option (List Token)) → o ≡ None → seen o ≡ false
unseen o h = ap seen h

-- each of these words is another one
abbrev Others : List (List ℕ) → List ℕ → Type 0
Others [] w = Unit
Others (s ∷ ss) w = (same_text s w ≡ false) × Others ss w

others : (ss : List (List ℕ)) (w : List ℕ) → is_among ss w ≡ false → Others ss w
others [] w h = tt
others (s ∷ ss) w h =
    let e : (same_text s w ≡ false) × (is_among ss w ≡ false) = either_no (same_text s w) (is_among ss w) h in
    (e.0, others ss w e.1)

-- no closure begins with another word
no_closure : (w : List ℕ) (us : List Token) → Others early_words w → f.closure_stands (Ident w ∷ us) ≡ None
no_closure w us h =
    or_none _ _ (word_none (codes "static") w us h.1.1.0)
    (or_none _ _ (word_none (codes "move") w us h.1.1.1.0)
    (or_none _ _ (then_none _ (no brace) (word_none (codes "const") w us h.1.1.1.1.0))
    (or_none _ _
    (ap (λ x. behind (cond (seen x) None (Some (Ident w ∷ us))) (at "async"))
    (then_none _ (brace or (at "move" then brace)) (word_none (codes "async") w us h.1.1.1.1.1.0))
    ∙ (word_none (codes "async") w us h.1.1.1.1.1.0))
    (then_none _ (marks "<" then (a_lifetime or marks ">")) (word_none (codes "for") w us h.1.1.1.1.1.1.0)))))

no_typed : (w : List ℕ) (us : List Token) → Others early_words w
    → sees f.typed_closure_stands (Ident w ∷ us) ≡ false
no_typed w us h =
    ap (λ x. seen (behind (cond (seen (cond (seen x) None (Some (Ident w ∷ us)))) None (Some (Ident w ∷ us)))
    (f.past_bar then f.past_bar then marks "->")))
    (no_closure w us h)

no_let : (p : k.Position) (w : List ℕ) (us : List Token) → same_text (codes "let") w ≡ false
    → sees (f.let_stands p) (Ident w ∷ us) ≡ false
no_let k.Plain w us h = unseen _ (word_none (codes "let") w us h)
no_let k.InCondition w us h = unseen _ (word_none (codes "let") w us h)
no_let k.InArm w us h = unseen _ (word_none (codes "let") w us h)
no_let k.InStatement w us h = refl

-- the forms that a name begins
abbrev names : List f.Case
names = f.form k.ExprMacro f.macro_call_stands ∷ f.form k.ExprPath (a_name or marks "::" or marks "<") ∷ []

other_word : (p : k.Position) (w : List ℕ) (us : List Token) → is_bool w ≡ false
    → is_among early_words w ≡ false → is_among late_words w ≡ false
    → f.front p (Ident w ∷ us) ≡ f.first_form names (Ident w ∷ us)
unfolding f.front
other_word p w us n d e =
    let h : Others early_words w = others early_words w d in
    let g : Others late_words w = others late_words w e in
    lacked (take 29 (f.fronts p)) names (Ident w ∷ us) (
      refl,
      (
        ap (λ b. seen (cond b (Some us) None)) n,
        (
          refl,
          (
            (unseen _ (word_none (codes "loop") w us h.0)),
            (
              (unseen _ (word_none (codes "while") w us h.1.0)),
              (
                no_typed w us h,
                (
                  unseen _ (no_closure w us h),
                  (
                    (unseen _ (word_none (codes "for") w us h.1.1.1.1.1.1.0)),
                    (
                      refl,
                      (
                        refl,
                        (
                          refl,
                          (
                            refl,
                            (
                              (unseen _ (word_none (codes "_") w us g.0)),
                              (
                                (unseen _ (word_none (codes "unsafe") w us g.1.0)),
                                (
                                  (unseen _ (word_none (codes "async") w us h.1.1.1.1.1.0)),
                                  (
                                    (unseen _ (word_none (codes "const") w us h.1.1.1.1.0)),
                                    (
                                      (unseen _ (word_none (codes "try") w us g.1.1.0)),
                                      (
                                        (unseen _ (word_none (codes "if") w us g.1.1.1.0)),
                                        (
                                          (unseen _ (word_none (codes "match") w us g.1.1.1.1.0)),
                                          (
                                            (unseen _ (word_none (codes "continue") w us g.1.1.1.1.1.0)),
                                            (
                                              (unseen _ (word_none (codes "break") w us g.1.1.1.1.1.1.0)),
                                              (
                                                (unseen _ (word_none (codes "return") w us g.1.1.1.1.1.1.1.0)),
                                                (
                                                  (unseen _ (word_none (codes "yield") w us g.1.1.1.1.1.1.1.1.0)),
                                                  (
                                                    no_let p w us g.1.1.1.1.1.1.1.1.1.0,
                                                    (
                                                      refl,
                                                      (
                                                        refl,
                                                        (refl, (refl, (refl, tt))),
                                                      ),
                                                    ),
                                                  ),
                                                ),
                                              ),
                                            ),
                                          ),
                                        ),
                                      ),
                                    ),
                                  ),
                                ),
                              ),
                            ),
                          ),
                        ),
                      ),
                    ),
                  ),
                ),
              ),
            ),
          ),
        ),
      ),
    )

-- true and false
pub bool_front : (p : k.Position) (w : List ℕ) (ts us : List Token) → ts ≡ Ident w ∷ us → is_bool w ≡ true
    → f.front p ts ≡ Some k.ExprLit
unfolding f.front
bool_front p w ts us e h =
    ap (f.front p) e
    ∙ ap (λ b. cond (seen (cond b (Some us) None)) (Some k.ExprLit)
    (f.first_form (drop 2 (f.fronts p)) (Ident w ∷ us))) h

-- by whether it is a name, and by whether a macro's call begins with it
by_name : (p : k.Position) (w : List ℕ) (us : List Token) (b c : Bool) → is_bool w ≡ false
    → is_among early_words w ≡ false
    → is_among late_words w ≡ false → is_name w ≡ b → sees f.macro_call_stands (Ident w ∷ us) ≡ c
    → f.front p (Ident w ∷ us) ≡ cond c (Some k.ExprMacro) (cond b (Some k.ExprPath) None)
by_name p w us b c i d e n m =
    other_word p w us i d e
    ∙ ap (λ x. cond x (Some k.ExprMacro) (f.first_form (drop 1 names) (Ident w ∷ us))) m
    ∙ ap (λ x. cond c (Some k.ExprMacro) (cond (seen (first_seen
    (cond x (Some us) None) None)) (Some k.ExprPath) None)) n
    ∙ named b c
  where
    named : (b c : Bool)
        → cond c (Some k.ExprMacro) (cond (seen (first_seen (cond b (Some us) None) None)) (Some k.ExprPath) None)
        ≡ cond c (Some k.ExprMacro) (cond b (Some k.ExprPath) None)
    named true true = refl
    named true false = refl
    named false true = refl
    named false false = refl

-- what a macro's call is seen as behind its first name
abbrev call_behind : Bool → List Token → Option (List Token)
call_behind b us = behind (behind (cond b (Some us) None) (repeatedly (the_mark (codes "::") then a_name)))
    (no (marks "!=") then marks "!")

call_is : (w : List ℕ) (us : List Token) → f.macro_call_stands (Ident w ∷ us) ≡ call_behind (is_name w) us
call_is w us = go (is_name w)
  where
    go : (b : Bool) → behind (behind (Some (Ident w ∷ us)) (λ ts. behind (cond b (Some us) None)
        (repeatedly (the_mark (codes "::") then a_name)))) (no (marks "!=") then marks "!") ≡ call_behind b us
    go b = refl

no_call : (w : List ℕ) (us : List Token) (b : Bool) → is_name w ≡ b → seen (call_behind b us) ≡ false
    → sees f.macro_call_stands (Ident w ∷ us) ≡ false
no_call w us b n h = ap seen (call_is w us) ∙ ap (λ x. seen (call_behind x us)) n ∙ h

pub no_name : (p : k.Position) (w : List ℕ) (ts us : List Token) → ts ≡ Ident w ∷ us → is_bool w ≡ false
    → is_among early_words w ≡ false → is_among late_words w ≡ false → is_name w ≡ false → f.front p ts ≡ None
no_name p w ts us e i g d n = ap (f.front p) e ∙ by_name p w us false false i g d n (no_call w us false n refl)

-- a name that begins no form by itself
abbrev Plain : List ℕ → Type 0
Plain w = (is_bool w ≡ false) × (is_among early_words w ≡ false) × (is_among late_words w ≡ false)

plain : (w : List ℕ) → begins_form w ≡ false → Plain w
plain w h =
    let e : (is_bool w ≡ false) × ((is_among early_words w || is_among late_words w) ≡ false) =
    either_no (is_bool w) (is_among early_words w || is_among late_words w) h in
    let d : (is_among early_words w ≡ false) × (is_among late_words w ≡ false) =
    either_no (is_among early_words w) (is_among late_words w) e.1 in
    (e.0, d.0, d.1)

name_is : (p : k.Position) (w : List ℕ) (ts us : List Token) (c : Bool) → ts ≡ Ident w ∷ us → begins_form w ≡ false
    → is_name w ≡ true → sees f.macro_call_stands ts ≡ c → f.front p ts ≡ cond c (Some k.ExprMacro) (Some k.ExprPath)
name_is p w ts us c e h n m =
    let d : Plain w = plain w h in
    ap (f.front p) e
    ∙ by_name p w us true c d.0 d.1 d.2 n (ap (λ x. sees f.macro_call_stands x) (sym e) ∙ m)

pub is_call : (p : k.Position) (w : List ℕ) (ts us : List Token) → ts ≡ Ident w ∷ us → begins_form w ≡ false
    → is_name w ≡ true → sees f.macro_call_stands ts ≡ true → f.front p ts ≡ Some k.ExprMacro
is_call p w ts us e h n m = name_is p w ts us true e h n m

pub is_path : (p : k.Position) (w : List ℕ) (ts us : List Token) → ts ≡ Ident w ∷ us → begins_form w ≡ false
    → is_name w ≡ true → sees f.macro_call_stands ts ≡ false → f.front p ts ≡ Some k.ExprPath
is_path p w ts us e h n m = name_is p w ts us false e h n m

-- a path alone, where what stands behind the word is no mark
no_mark_behind : (us : List Token) → no_mark us → seen (call_behind true us) ≡ false
no_mark_behind [] h = refl
no_mark_behind (Opens d ∷ us) h = refl
no_mark_behind (Closes d ∷ us) h = refl
no_mark_behind (Ident x ∷ us) h = refl
no_mark_behind (Literal x ∷ us) h = refl
no_mark_behind (Punct x s ∷ us) h = absurd h

pub path_alone : (p : k.Position) (w : List ℕ) (ts us : List Token) → ts ≡ Ident w ∷ us → begins_form w ≡ false
    → is_name w ≡ true → no_mark us → f.front p ts ≡ Some k.ExprPath
path_alone p w ts us e h n g =
    is_path p w ts us e h n
    (ap (sees f.macro_call_stands) e ∙ no_call w us true n (no_mark_behind us g))

-- a word that begins a form by itself
by_text : (p : k.Position) (s w : List ℕ) (ts us : List Token) → ts ≡ Ident w ∷ us → same_text s w ≡ true
    → f.front p ts ≡ f.front p (Ident s ∷ us)
by_text p s w ts us e h =
    ap (f.front p) e ∙ ap (λ x. f.front p (Ident x ∷ us)) (sym ((bytes_eq-Decides s w).0 h))

pub if_front : (p : k.Position) (w : List ℕ) (ts us : List Token) → ts ≡ Ident w ∷ us
    → same_text (codes "if") w ≡ true → f.front p ts ≡ Some k.ExprIf
unfolding f.front is_bool
if_front p w ts us e h = by_text p (codes "if") w ts us e h ∙ step p
  where
    step : (p : k.Position) → f.front p (Ident (codes "if") ∷ us) ≡ Some k.ExprIf
    step k.Plain = refl
    step k.InCondition = refl
    step k.InArm = refl
    step k.InStatement = refl

pub match_front : (p : k.Position) (w : List ℕ) (ts us : List Token) → ts ≡ Ident w ∷ us
    → same_text (codes "match") w ≡ true → f.front p ts ≡ Some k.ExprMatch
unfolding f.front is_bool
match_front p w ts us e h = by_text p (codes "match") w ts us e h ∙ step p
  where
    step : (p : k.Position) → f.front p (Ident (codes "match") ∷ us) ≡ Some k.ExprMatch
    step k.Plain = refl
    step k.InCondition = refl
    step k.InArm = refl
    step k.InStatement = refl
