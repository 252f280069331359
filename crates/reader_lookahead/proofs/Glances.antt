-- A look of several steps sees nothing where no token stands that it may begin with.
use Rattle.std.proofs.Common.{◌≡◌, ℕ, List, [], ◌∷◌, length, refl, sym, ap, ◌∙◌}
use Rattle.std.specs.Prelude.{Bool, true, false, ◌==◌, cond, Option, Some, None, codes}
use Rattle.std.proofs.lemmas.Slice.Eq.{bytes_eq-Decides}
use Rattle.proc_macro2.specs.Token.{Token, Opens, Closes, Ident, Literal, Punct}
use Rattle.proc_macro2.specs.declared.delimiter.Delimiter.{Delimiter}
use Rattle.proc_macro2.specs.declared.delimiter.Delimiter.TheVariants as D
use Rattle.rust_leaf.specs.declared.punct.Spacing.{Spacing}
use Rattle.rust_leaf.specs.declared.punct.Spacing.TheVariants.{Alone, Joint}
use Rattle.syn_grammar.specs.Forms as f
use Rattle.syn_grammar.specs.Kind as k
use Rattle.syn_grammar.specs.Items.{signature_stands}
use Rattle.syn_grammar.specs.Look.{Look, ◌then◌, ◌or◌, a_group, a_lifetime, a_name, a_path, a_quoted, a_word}
use Rattle.syn_grammar.specs.Look.{an_ident, opening}
use Rattle.syn_grammar.specs.Look.{all_attributes}
use Rattle.syn_grammar.specs.Look.{as_far, behind, first_seen, maybe, no, one_of, opens, past_marks, repeatedly, seen}
use Rattle.syn_grammar.specs.Look.{sees, the_mark, the_word}
use Rattle.syn_grammar.specs.Paths.{turbofish}
use Rattle.syn_grammar.specs.Say.{at, brace, marks, parenthesis}
use Rattle.syn_grammar.specs.Statements.{item_stands, item_words, macro_item_stands, macro_statement_stands}
use Rattle.syn_grammar.specs.Types.{colon}
use Rattle.syn_grammar.specs.Words.{any_text, is_bool, is_ident, is_name, is_string}
use Rattle.rust_leaf.specs.Keywords.{is_among, is_reserved, same_text}
use Rattle.reader_tokens.specs.Marks.{no_mark, no_word}
use Rattle.reader_table.specs.Composites.{composite_of}
use Rattle.reader_table.specs.declared.composite.Composite.{Composite}
use Rattle.reader_table.specs.declared.composite.Composite.TheVariants as composites
use Rattle.reader_lookahead.proofs.Reserved.{Kept, either_no, none_among}
use Rattle.reader_lookahead.specs.Names.{call_begins, name_goes_on, signature_begins}
use Rattle.reader_lookahead.specs.Words.{begins_pattern, closure_words, signature_words, impl_words, may_begin_item}
use Rattle.reader_lookahead.specs.Words.{trait_words}

-- what stands first, by its kind
pub no_mark_first : (c : ℕ) (ts : List Token) → no_mark ts → false ≡ sees (past_marks c []) ts
no_mark_first c [] h = refl
no_mark_first c (Opens d ∷ ts) h = refl
no_mark_first c (Closes d ∷ ts) h = refl
no_mark_first c (Ident w ∷ ts) h = refl
no_mark_first c (Literal w ∷ ts) h = refl
no_mark_first c (Punct d s ∷ ts) h = absurd h

seen_so : (b : Bool) (ts : List Token) → b ≡ seen (cond b (Some ts) None)
seen_so true ts = refl
seen_so false ts = refl

pub mark_first : (c d : ℕ) (s : Spacing) (ts us : List Token) (b : Bool) → ts ≡ Punct d s ∷ us → b ≡ (d == c)
    → b ≡ sees (past_marks c []) ts
mark_first c d s ts us b e h =
    h ∙ seen_so (d == c) us ∙ ap (sees (past_marks c [])) (sym e)

pub no_word_first : (p : List ℕ → Bool) (ts : List Token) → no_word ts → false ≡ sees (a_word p) ts
no_word_first p [] h = refl
no_word_first p (Opens d ∷ ts) h = refl
no_word_first p (Closes d ∷ ts) h = refl
no_word_first p (Ident w ∷ ts) h = absurd h
no_word_first p (Literal w ∷ ts) h = refl
no_word_first p (Punct d s ∷ ts) h = refl

pub word_first : (p : List ℕ → Bool) (w : List ℕ) (ts us : List Token) (b : Bool) → ts ≡ Ident w ∷ us → b ≡ p w
    → b ≡ sees (a_word p) ts
word_first p w ts us b e h = h ∙ seen_so (p w) us ∙ ap (sees (a_word p)) (sym e)

-- a mark behind a word
pub no_word_before : (c : ℕ) (ts : List Token) → no_word ts → false ≡ sees (a_word any_text then past_marks c []) ts
no_word_before c [] h = refl
no_word_before c (Opens d ∷ ts) h = refl
no_word_before c (Closes d ∷ ts) h = refl
no_word_before c (Ident w ∷ ts) h = absurd h
no_word_before c (Literal w ∷ ts) h = refl
no_word_before c (Punct d s ∷ ts) h = refl

pub word_before : (c : ℕ) (w : List ℕ) (ts us : List Token) (b : Bool) → ts ≡ Ident w ∷ us
    → b ≡ sees (past_marks c []) us → b ≡ sees (a_word any_text then past_marks c []) ts
word_before c w ts us b e h = h ∙ ap (sees (a_word any_text then past_marks c [])) (sym e)

-- a keyword, and another look behind it
pub word_none : (s : List ℕ) (l : Look) (ts : List Token) → no_word ts → false ≡ sees (the_word s then l) ts
word_none s l [] h = refl
word_none s l (Opens d ∷ ts) h = refl
word_none s l (Closes d ∷ ts) h = refl
word_none s l (Ident w ∷ ts) h = absurd h
word_none s l (Literal w ∷ ts) h = refl
word_none s l (Punct d p ∷ ts) h = refl

pub another_word : (s w : List ℕ) (l : Look) (ts us : List Token) (b : Bool) → ts ≡ Ident w ∷ us → b ≡ same_text s w
    → b ≡ false → false ≡ sees (the_word s then l) ts
another_word s w l ts us b e h f =
    ap (λ x. seen (behind (cond x (Some us) None) l)) (sym f ∙ h) ∙ ap (sees (the_word s then l)) (sym e)

pub word_behind : (s w : List ℕ) (l : Look) (ts us : List Token) (b c : Bool) → ts ≡ Ident w ∷ us → b ≡ same_text s w
    → b ≡ true → c ≡ sees l us → c ≡ sees (the_word s then l) ts
word_behind s w l ts us b c e h f g =
    g ∙ ap (λ x. seen (behind (cond x (Some us) None) l)) (sym f ∙ h) ∙ ap (sees (the_word s then l)) (sym e)

-- whether a macro may be called: at no word, and at a word before a :: , before a ! , and before none
pub call_none_first : (ts : List Token) (b : Bool) → no_word ts → b ≡ sees (past_marks 58 []) ts → b
    ≡ sees call_begins ts
call_none_first ts b h e = e ∙ step ts h
  where
    alone : (o : Option (List Token)) → seen o ≡ seen (first_seen o None)
    alone None = refl
    alone (Some us) = refl

    step : (ts : List Token) → no_word ts → sees (past_marks 58 []) ts ≡ sees call_begins ts
    step [] h = refl
    step (Opens d ∷ ts) h = refl
    step (Closes d ∷ ts) h = refl
    step (Ident w ∷ ts) h = absurd h
    step (Literal w ∷ ts) h = refl
    step (Punct d s ∷ ts) h = alone (past_marks 58 [] (Punct d s ∷ ts))

behind_word : (w : List ℕ) (ts us : List Token) → ts ≡ Ident w ∷ us
    → seen (first_seen (past_marks 58 [] us) (past_marks 33 [] us)) ≡ sees call_begins ts
behind_word w ts us e = ap (sees call_begins) (sym e)

seen_first : (a b : Option (List Token)) → true ≡ seen a → true ≡ seen (first_seen a b)
seen_first None b h = cc h
seen_first (Some ts) b h = refl

seen_second : (a b : Option (List Token)) (c : Bool) → false ≡ seen a → c ≡ seen b → c ≡ seen (first_seen a b)
seen_second None b c h g = g
seen_second (Some ts) b c h g = cc h

pub call_goes : (w : List ℕ) (ts us : List Token) → ts ≡ Ident w ∷ us → true ≡ sees (past_marks 58 []) us
    → true ≡ sees call_begins ts
call_goes w ts us e h = seen_first (past_marks 58 [] us) (past_marks 33 [] us) h ∙ behind_word w ts us e

pub call_ends : (w : List ℕ) (ts us : List Token) (b : Bool) → ts ≡ Ident w ∷ us
    → false ≡ sees (past_marks 58 []) us → b ≡ sees (past_marks 33 []) us → b ≡ sees call_begins ts
call_ends w ts us b e h g = seen_second (past_marks 58 [] us) (past_marks 33 [] us) b h g ∙ behind_word w ts us e

-- what a look that sees nothing makes of others
unseen : (o : Option (List Token)) → seen o ≡ false → o ≡ None
unseen None h = refl
unseen (Some ts) h = cc h

or_none : (a b : Option (List Token)) → a ≡ None → b ≡ None → first_seen a b ≡ None
or_none a b h g = ap (λ x. first_seen x b) h ∙ g

then_none : (a : Option (List Token)) (l : Look) → a ≡ None → behind a l ≡ None
then_none a l h = ap (λ x. behind x l) h

maybe_then : (a b : Look) (ts : List Token) → a ts ≡ None → (maybe a then b) ts ≡ b ts
maybe_then a b ts h = ap (λ x. behind (first_seen x (Some ts)) b) h

no_then : (a b : Look) (ts : List Token) → b ts ≡ None → (no a then b) ts ≡ None
no_then a b ts h = by (seen (a ts))
  where
    by : (c : Bool) → behind (cond c None (Some ts)) b ≡ None
    by true = refl
    by false = h

far_none : (a : Look) (ts : List Token) → a ts ≡ None → repeatedly a ts ≡ Some ts
far_none a [] h = refl
far_none a (t ∷ ts) h = ap (λ x. first_seen (behind x (as_far (length ts) a)) (Some (t ∷ ts))) h

-- no mark of that character: no punctuation that begins with it, no lifetime, and no attribute
no_sign : (c : ℕ) (cs : List ℕ) (ts : List Token) → sees (past_marks c []) ts ≡ false → past_marks c cs ts ≡ None
no_sign c [] ts h = unseen (past_marks c [] ts) h
no_sign c (e ∷ es) [] h = refl
no_sign c (e ∷ es) (Opens d ∷ ts) h = refl
no_sign c (e ∷ es) (Closes d ∷ ts) h = refl
no_sign c (e ∷ es) (Ident w ∷ ts) h = refl
no_sign c (e ∷ es) (Literal w ∷ ts) h = refl
no_sign c (e ∷ es) (Punct d Alone ∷ ts) h = refl
no_sign c (e ∷ es) (Punct d Joint ∷ ts) h = ap (λ b. cond b (past_marks e es ts) None) (seen_so (d == c) ts ∙ h)

no_life : (ts : List Token) → sees (past_marks 39 []) ts ≡ false → a_lifetime ts ≡ None
no_life [] h = refl
no_life (Opens d ∷ ts) h = refl
no_life (Closes d ∷ ts) h = refl
no_life (Ident w ∷ ts) h = refl
no_life (Literal w ∷ ts) h = refl
no_life (Punct d Alone ∷ ts) h = refl
no_life (Punct d Joint ∷ []) h = refl
no_life (Punct d Joint ∷ Opens e ∷ ts) h = refl
no_life (Punct d Joint ∷ Closes e ∷ ts) h = refl
no_life (Punct d Joint ∷ Literal w ∷ ts) h = refl
no_life (Punct d Joint ∷ Punct e s ∷ ts) h = refl
no_life (Punct d Joint ∷ Ident w ∷ ts) h =
    ap (λ b. cond b (Some ts) None) (seen_so (d == 39) (Ident w ∷ ts) ∙ h)

no_label : (l : Look) (ts : List Token) → sees (past_marks 39 []) ts ≡ false → l ts ≡ None
    → (f.labelled then l) ts ≡ None
no_label l ts h g =
    maybe_then (a_lifetime then marks ":") l ts (then_none (a_lifetime ts) (marks ":") (no_life ts h)) ∙ g

no_attribute : (l : Look) (ts : List Token) → sees (past_marks 35 []) ts ≡ false → l ts ≡ None
    → (all_attributes then l) ts ≡ None
no_attribute l ts h g =
    ap (λ x. behind x l) (far_none (the_mark (codes "#") then a_group D.Bracket) ts
    (then_none (the_mark (codes "#") ts) (a_group D.Bracket) (no_sign 35 [] ts h))) ∙ g

-- words of which none stands first
unlike : (s w : List ℕ) (us : List Token) → same_text s w ≡ false → the_word s (Ident w ∷ us) ≡ None
unlike s w us h = ap (λ b. cond b (Some us) None) h

abbrev Each : List (List ℕ) → List Token → Type 0
Each [] ts = Unit
Each (s ∷ ss) ts = (the_word s ts ≡ None) × Each ss ts

each_none : (ss : List (List ℕ)) (ts : List Token) → sees (one_of ss) ts ≡ false → Each ss ts
each_none [] ts h = tt
each_none (s ∷ ss) [] h = (refl, each_none ss [] refl)
each_none (s ∷ ss) (Opens d ∷ ts) h = (refl, each_none ss (Opens d ∷ ts) refl)
each_none (s ∷ ss) (Closes d ∷ ts) h = (refl, each_none ss (Closes d ∷ ts) refl)
each_none (s ∷ ss) (Literal w ∷ ts) h = (refl, each_none ss (Literal w ∷ ts) refl)
each_none (s ∷ ss) (Punct d p ∷ ts) h = (refl, each_none ss (Punct d p ∷ ts) refl)
each_none (s ∷ ss) (Ident w ∷ ts) h =
    let e : (same_text s w ≡ false) × (is_among ss w ≡ false) =
    either_no (same_text s w) (is_among ss w) (seen_so (is_among (s ∷ ss) w) ts ∙ h) in
    (unlike s w ts e.0, each_none ss (Ident w ∷ ts) (sym (seen_so (is_among ss w) ts) ∙ e.1))

-- reserved words of which none stands first
abbrev fn_words : List (List ℕ)
fn_words = codes "for" ∷ codes "unsafe" ∷ codes "extern" ∷ codes "fn" ∷ []

fn_kept : Kept fn_words
unfolding is_reserved
fn_kept = (refl, (refl, (refl, (refl, tt))))

item_kept : Kept item_words
unfolding is_reserved
item_kept = (refl, (refl, (refl, (refl, (refl, (refl, (refl, (refl, (refl, (refl, (refl, tt)))))))))))

abbrev more_item_words : List (List ℕ)
more_item_words = codes "crate" ∷ codes "static" ∷ codes "const" ∷ codes "unsafe" ∷ codes "async" ∷ []

more_kept : Kept more_item_words
unfolding is_reserved
more_kept = (refl, (refl, (refl, (refl, (refl, tt)))))

-- none of these words stands first where no reserved one does
none_kept : (ss : List (List ℕ)) (ts : List Token) → Kept ss → sees (a_word is_reserved) ts ≡ false
    → sees (one_of ss) ts ≡ false
none_kept ss [] h g = refl
none_kept ss (Opens d ∷ ts) h g = refl
none_kept ss (Closes d ∷ ts) h g = refl
none_kept ss (Literal w ∷ ts) h g = refl
none_kept ss (Punct d s ∷ ts) h g = refl
none_kept ss (Ident w ∷ ts) h g =
    sym (seen_so (is_among ss w) ts) ∙ none_among ss w h (seen_so (is_reserved w) ts ∙ g)

-- a word that passes, and then a look that sees nothing where that mark doesn't stand behind the word
word_and_none : (c : ℕ) (p : List ℕ → Bool) (l : Look) (ts : List Token)
    → ((us : List Token) → sees (past_marks c []) us ≡ false → l us ≡ None)
    → sees (a_word any_text then past_marks c []) ts ≡ false → (a_word p then l) ts ≡ None
word_and_none c p l [] g h = refl
word_and_none c p l (Opens d ∷ ts) g h = refl
word_and_none c p l (Closes d ∷ ts) g h = refl
word_and_none c p l (Literal w ∷ ts) g h = refl
word_and_none c p l (Punct d s ∷ ts) g h = refl
word_and_none c p l (Ident w ∷ us) g h = by (p w)
  where
    by : (b : Bool) → behind (cond b (Some us) None) l ≡ None
    by true = g us h
    by false = refl

pub ident_eq_none : (ts : List Token) → sees (a_word any_text then past_marks 61 []) ts ≡ false
    → composite_of composites.IdentThenEq ts ≡ None
ident_eq_none ts h = word_and_none 61 is_ident (marks "=") ts (λ us e. no_sign 61 [] us e) h

pub ident_lt_none : (ts : List Token) → sees (a_word any_text then past_marks 60 []) ts ≡ false
    → composite_of composites.IdentThenLt ts ≡ None
ident_lt_none ts h = word_and_none 60 is_ident (marks "<") ts (λ us e. no_sign 60 [] us e) h

either_then : (a b l : Look) (ts : List Token) → (a then l) ts ≡ None → (b then l) ts ≡ None
    → ((a or b) then l) ts ≡ None
either_then a b l ts h g = by (a ts) h
  where
    by : (o : Option (List Token)) → behind o l ≡ None → behind (first_seen o (b ts)) l ≡ None
    by None h = g
    by (Some us) h = h

pub named_none : (ts : List Token) → sees (a_word any_text then past_marks 58 []) ts ≡ false
    → composite_of composites.NamedArgument ts ≡ None
named_none ts h =
    either_then an_ident (at "_") colon ts (word_and_none 58 is_ident colon ts behind_it h)
    (word_and_none 58 (λ w. same_text (codes "_") w) colon ts behind_it h)
  where
    behind_it : (us : List Token) → sees (past_marks 58 []) us ≡ false → colon us ≡ None
    behind_it us e = no_then (marks "::") (marks ":") us (no_sign 58 [] us e)

pub literal_none : (ts : List Token) → sees (a_quoted any_text) ts ≡ false → sees (a_word is_bool) ts ≡ false
    → composite_of composites.ALiteral ts ≡ None
literal_none ts h g = or_none _ _ (unseen (a_quoted any_text ts) h) (unseen (a_word is_bool ts) g)

pub receiver_none : (ts : List Token) → sees (the_word (codes "mut")) ts ≡ false
    → sees (the_word (codes "self")) ts ≡ false → sees (past_marks 38 []) ts ≡ false
    → composite_of composites.ReceiverStands ts ≡ None
receiver_none ts h g d =
    then_none _ (no (marks "::")) (or_none _ _ (then_none (marks "&" ts) _ (no_sign 38 [] ts d))
    (maybe_then (at "mut") (at "self") ts (unseen (at "mut" ts) h) ∙ unseen (at "self" ts) g))

-- each look
pub turbofish_none : (ts : List Token) → sees (past_marks 58 []) ts ≡ false → turbofish ts ≡ None
turbofish_none ts h = then_none (marks "::" ts) (marks "<") (no_sign 58 (58 ∷ []) ts h)

pub arguments_none : (ts : List Token) → sees (past_marks 58 []) ts ≡ false → sees (past_marks 60 []) ts ≡ false
    → composite_of composites.ArgumentsStand ts ≡ None
arguments_none ts h g =
    or_none (turbofish ts) ((no (marks "<=") then marks "<") ts) (turbofish_none ts h)
    (no_then (marks "<=") (marks "<") ts (no_sign 60 [] ts g))

pub pointer_none : (ts : List Token) → sees (a_word is_reserved) ts ≡ false
    → composite_of composites.FnPtrStands ts ≡ None
pointer_none ts h =
    let e : Each fn_words ts = each_none fn_words ts (none_kept fn_words ts fn_kept h) in
    or_none _ _ e.0 (or_none _ _ e.1.0 (or_none _ _ e.1.1.0 e.1.1.1.0))

pub vert_none : (ts : List Token) → sees (past_marks 124 []) ts ≡ false → composite_of composites.Vert ts ≡ None
vert_none ts h = no_then (marks "||" or marks "|=") (marks "|") ts (no_sign 124 [] ts h)

pub inner_none : (ts : List Token) → sees (past_marks 35 []) ts ≡ false
    → composite_of composites.InnerAttribute ts ≡ None
inner_none ts h = then_none (marks "#" ts) (marks "!") (no_sign 35 [] ts h)

-- a word, and then another look
pub word_then : (s : List ℕ) (l : Look) (ts : List Token) → sees (the_word s) ts ≡ false → (the_word s then l) ts ≡ None
word_then s l ts h = then_none (the_word s ts) l (unseen (the_word s ts) h)

-- of two looks of which neither sees something
first_no : (a b : Option (List Token)) → seen (first_seen a b) ≡ false → seen a ≡ false
first_no None b h = refl
first_no (Some ts) b h = h

second_no : (a b : Option (List Token)) → seen (first_seen a b) ≡ false → seen b ≡ false
second_no None b h = h
second_no (Some ts) b h = cc h

-- a look that sees nothing where another one sees nothing, behind a third, which may be there or must
maybe_behind : (a l f : Look) (ts : List Token) → ((us : List Token) → sees f us ≡ false → l us ≡ None)
    → sees (f or (a then f)) ts ≡ false → (maybe a then l) ts ≡ None
maybe_behind a l f ts g h = by (a ts) h
  where
    by : (o : Option (List Token)) → seen (first_seen (f ts) (behind o f)) ≡ false
        → behind (first_seen o (Some ts)) l ≡ None
    by None h = g ts (first_no (f ts) None h)
    by (Some us) h = g us (second_no (f ts) (f us) h)

must_behind : (a l f : Look) (ts : List Token) → ((us : List Token) → sees f us ≡ false → l us ≡ None)
    → sees (a then f) ts ≡ false → (a then l) ts ≡ None
must_behind a l f ts g h = by (a ts) h
  where
    by : (o : Option (List Token)) → seen (behind o f) ≡ false → behind o l ≡ None
    by None h = refl
    by (Some us) h = g us h

pub signature_none : (ts : List Token) → sees signature_begins ts ≡ false
    → composite_of composites.SignatureStands ts ≡ None
signature_none ts h = maybe_behind (at "const") _ (one_of signature_words) ts
    (λ us e. by us (each_none signature_words us e)) h
  where
    by : (us : List Token) → Each signature_words us → (maybe (at "async") then maybe (at "unsafe")
        then maybe (at "extern" then maybe (a_quoted is_string)) then at "fn") us ≡ None
    by us e =
        maybe_then (at "async") _ us e.1.0 ∙ maybe_then (at "unsafe") _ us e.1.1.0
        ∙ maybe_then (at "extern" then maybe (a_quoted is_string)) _ us
        (then_none (at "extern" us) _ e.1.1.1.0) ∙ e.0

pub const_trait_none : (ts : List Token) → sees (at "const" then one_of trait_words) ts ≡ false
    → composite_of composites.ConstTrait ts ≡ None
const_trait_none ts h = must_behind (at "const") _ (one_of trait_words) ts (λ us e. by us (each_none trait_words us e))
    h
  where
    by : (us : List Token) → Each trait_words us
        → (maybe (at "unsafe") then maybe (at "auto") then at "trait") us ≡ None
    by us e = maybe_then (at "unsafe") _ us e.0 ∙ maybe_then (at "auto") _ us e.1.0 ∙ e.1.1.0

pub const_impl_none : (ts : List Token) → sees (at "const" then one_of impl_words) ts ≡ false
    → composite_of composites.ConstImpl ts ≡ None
const_impl_none ts h = must_behind (at "const") _ (one_of impl_words) ts (λ us e. by us (each_none impl_words us e)) h
  where
    by : (us : List Token) → Each impl_words us → (maybe (at "unsafe") then at "impl") us ≡ None
    by us e = maybe_then (at "unsafe") _ us e.0 ∙ e.1.0

-- a macro's call: no mark behind the first name with which the path goes on, and no !
abbrev path_goes : Look
path_goes = repeatedly (the_mark (codes "::") then a_name)

call_none : (l : Look) (ts : List Token) → ((us : List Token) → sees (past_marks 33 []) us ≡ false → l us ≡ None)
    → sees call_begins ts ≡ false → (a_path then l) ts ≡ None
call_none l [] g h = refl
call_none l (Opens d ∷ ts) g h = refl
call_none l (Closes d ∷ ts) g h = refl
call_none l (Literal w ∷ ts) g h = refl
call_none l (Punct d s ∷ ts) g h =
    ap (λ x. behind x l) (maybe_then (the_mark (codes "::")) (a_name then path_goes) (Punct d s ∷ ts)
    (no_sign 58 (58 ∷ []) (Punct d s ∷ ts) (first_no (past_marks 58 [] (Punct d s ∷ ts)) None h)))
call_none l (Ident w ∷ us) g h = by (is_name w)
  where
    by : (b : Bool) → behind (behind (cond b (Some us) None) path_goes) l ≡ None
    by false = refl
    by true =
        ap (λ x. behind x l) (far_none (the_mark (codes "::") then a_name) us
        (then_none (the_mark (codes "::") us) a_name
        (no_sign 58 (58 ∷ []) us (first_no (past_marks 58 [] us) (past_marks 33 [] us) h))))
        ∙ g us (second_no (past_marks 58 [] us) (past_marks 33 [] us) h)

pub call_stands_none : (ts : List Token) → sees call_begins ts ≡ false
    → composite_of composites.MacroCallStands ts ≡ None
call_stands_none ts h =
    call_none (no (marks "!=") then marks "!") ts
    (λ us e. no_then (marks "!=") (marks "!") us (no_sign 33 [] us e)) h

pub macro_item_none : (ts : List Token) → sees call_begins ts ≡ false → sees (past_marks 35 []) ts ≡ false
    → composite_of composites.MacroItemBehindAttributes ts ≡ None
macro_item_none ts h g =
    no_attribute macro_item_stands ts g
    (call_none _ ts (λ us e. then_none (marks "!" us) _ (no_sign 33 [] us e)) h)

pub macro_statement_none : (ts : List Token) → sees call_begins ts ≡ false → sees (past_marks 35 []) ts ≡ false
    → composite_of composites.MacroStatementBehindAttributes ts ≡ None
macro_statement_none ts h g =
    no_attribute macro_statement_stands ts g
    (call_none _ ts (λ us e. then_none (marks "!" us) _ (no_sign 33 [] us e)) h)

-- what stands in a block
pub let_none : (ts : List Token) → sees (the_word (codes "let")) ts ≡ false → sees (past_marks 35 []) ts ≡ false
    → composite_of composites.LetBehindAttributes ts ≡ None
let_none ts h g = no_attribute (at "let") ts g (unseen (at "let" ts) h)

abbrev weak_item_words : List (List ℕ)
weak_item_words = codes "union" ∷ codes "auto" ∷ codes "default" ∷ []

item_by : (ts : List Token) → one_of item_words ts ≡ None → Each more_item_words ts → Each weak_item_words ts
    → item_stands ts ≡ None
item_by ts i e d =
    or_none _ _ i
    (or_none _ _ (then_none (at "crate" ts) _ e.0)
    (or_none _ _ (then_none (at "static" ts) _ e.1.0)
    (or_none _ _ (then_none (at "const" ts) _ e.1.1.0)
    (or_none _ _ (then_none (at "unsafe" ts) _ e.1.1.1.0)
    (or_none _ _ (then_none (at "async" ts) _ e.1.1.1.1.0)
    (or_none _ _ (then_none (at "union" ts) _ d.0)
    (or_none _ _ (then_none (at "auto" ts) _ d.1.0) (then_none (at "default" ts) _ d.1.1.0))))))))

no_item : (ts : List Token) → sees (a_word may_begin_item) ts ≡ false → item_stands ts ≡ None
no_item [] h = refl
no_item (Opens d ∷ ts) h = refl
no_item (Closes d ∷ ts) h = refl
no_item (Literal w ∷ ts) h = refl
no_item (Punct d s ∷ ts) h = refl
no_item (Ident w ∷ us) h =
    let r : (is_reserved w ≡ false) × (is_among weak_item_words w ≡ false) =
    either_no (is_reserved w) (is_among weak_item_words w) (seen_so (may_begin_item w) us ∙ h) in
    item_by (Ident w ∷ us) (ap (λ b. cond b (Some us) None) (none_among item_words w item_kept r.0))
    (each_none more_item_words (Ident w ∷ us) (none_kept more_item_words (Ident w ∷ us) more_kept
    (sym (seen_so (is_reserved w) us) ∙ r.0)))
    (each_none weak_item_words (Ident w ∷ us) (sym (seen_so (is_among weak_item_words w) us) ∙ r.1))

pub item_none : (ts : List Token) → sees (a_word may_begin_item) ts ≡ false → sees (past_marks 35 []) ts ≡ false
    → composite_of composites.ItemBehindAttributes ts ≡ None
item_none ts h g = no_attribute item_stands ts g (no_item ts h)

-- forms of expressions
pub labelled_block_none : (ts : List Token) → sees (opens D.Brace) ts ≡ false → sees (past_marks 39 []) ts ≡ false
    → composite_of composites.LabelledBlock ts ≡ None
labelled_block_none ts h g = no_label brace ts g (unseen (brace ts) h)

pub labelled_word_none : (s : List ℕ) (ts : List Token) → sees (the_word s) ts ≡ false
    → sees (past_marks 39 []) ts ≡ false → (f.labelled then the_word s) ts ≡ None
labelled_word_none s ts h g = no_label (the_word s) ts g (unseen (the_word s ts) h)

pub closure_none : (ts : List Token) → sees (one_of closure_words) ts ≡ false → sees (past_marks 124 []) ts ≡ false
    → f.closure_stands ts ≡ None
closure_none ts h g = by (each_none closure_words ts h)
  where
    by : Each closure_words ts → f.closure_stands ts ≡ None
    by e =
        or_none _ _ (no_sign 124 [] ts g)
        (or_none _ _ e.0
        (or_none _ _ e.1.0
        (or_none _ _ (then_none (at "const" ts) _ e.1.1.0)
        (or_none _ _ (no_then f.asynchronous (at "async") ts e.1.1.1.0) (then_none (at "for" ts) _ e.1.1.1.1.0)))))

pub typed_none : (ts : List Token) → sees (one_of closure_words) ts ≡ false → sees (past_marks 124 []) ts ≡ false
    → f.typed_closure_stands ts ≡ None
typed_none ts h g =
    ap (λ x. behind (cond (seen (cond (seen x) None (Some ts))) None (Some ts))
    (f.past_bar then f.past_bar then marks "->")) (closure_none ts h g)

pub repeat_none : (ts : List Token) → sees (opens D.Bracket) ts ≡ false → f.repeat_stands ts ≡ None
repeat_none ts h = then_none (opens D.Bracket ts) _ (unseen (opens D.Bracket ts) h)

pub raw_none : (ts : List Token) → sees (past_marks 38 []) ts ≡ false
    → composite_of composites.RawAddrStands ts ≡ None
raw_none ts h = then_none (marks "&" ts) _ (no_sign 38 [] ts h)

-- a name that is a pattern by itself
pub goes_on_group : (ts us : List Token) → Some us ≡ opening ts → true ≡ sees name_goes_on ts
goes_on_group ts us h = seen_first (opening ts) _ (ap seen h)

pub goes_on_path : (ts : List Token) → None ≡ opening ts → true ≡ sees (past_marks 58 []) ts
    → true ≡ sees name_goes_on ts
goes_on_path ts h g = seen_second (opening ts) _ true (ap seen h) (seen_first (past_marks 58 [] ts) _ g)

pub goes_on_dots : (ts : List Token) (b : Bool) → None ≡ opening ts → false ≡ sees (past_marks 58 []) ts
    → b ≡ sees (past_marks 46 []) ts → b ≡ sees name_goes_on ts
goes_on_dots ts b h g d =
    seen_second (opening ts) _ b (ap seen h) (seen_second (past_marks 58 [] ts) (past_marks 46 [] ts) b g d)

unopened : (d : Delimiter) (ts : List Token) → seen (opening ts) ≡ false → opens d ts ≡ None
unopened d [] h = refl
unopened d (Opens e ∷ ts) h = absurd (cc h)
unopened d (Closes e ∷ ts) h = refl
unopened d (Ident w ∷ ts) h = refl
unopened d (Literal w ∷ ts) h = refl
unopened d (Punct e s ∷ ts) h = refl

abbrev goes : Look
goes = marks "::" or parenthesis or brace or marks ".."

goes_none : (us : List Token) → sees name_goes_on us ≡ false → goes us ≡ None
goes_none us h =
    let o : seen (opening us) ≡ false = first_no (opening us) _ h in
    let m : seen (first_seen (past_marks 58 [] us) (past_marks 46 [] us)) ≡ false = second_no (opening us) _ h in
    or_none _ _ (no_sign 58 (58 ∷ []) us (first_no (past_marks 58 [] us) _ m))
    (or_none _ _ (unopened D.Parenthesis us o)
    (or_none _ _ (unopened D.Brace us o) (no_sign 46 (46 ∷ []) us (second_no (past_marks 58 [] us) _ m))))

pub lone_name : (w : List ℕ) (ts us : List Token) → ts ≡ Ident w ∷ us → is_ident w ≡ true
    → sees name_goes_on us ≡ false → composite_of composites.IdentPatternStands ts ≡ Some us
lone_name w ts us e h g =
    ap (composite_of composites.IdentPatternStands) e
    ∙ ap (λ b. first_seen (at "ref" (Ident w ∷ us)) (first_seen (at "mut" (Ident w ∷ us))
    (behind (cond b (Some us) None) (no goes)))) h
    ∙ ap (λ o. first_seen (at "ref" (Ident w ∷ us)) (first_seen (at "mut" (Ident w ∷ us))
    (cond (seen o) None (Some us)))) (goes_none us g)
    ∙ by (same_text (codes "ref") w) (same_text (codes "mut") w)
  where
    by : (r m : Bool) → first_seen (cond r (Some us) None) (first_seen (cond m (Some us) None) (Some us)) ≡ Some us
    by true m = refl
    by false true = refl
    by false false = refl

-- the first word alone
pub let_alone : (ts us : List Token) → Some us ≡ the_word (codes "let") ts
    → composite_of composites.LetBehindAttributes ts ≡ Some us
let_alone [] us h = cc h
let_alone (Opens d ∷ ts) us h = cc h
let_alone (Closes d ∷ ts) us h = cc h
let_alone (Literal w ∷ ts) us h = cc h
let_alone (Punct d s ∷ ts) us h = cc h
let_alone (Ident w ∷ ts) us h = sym h

pub fn_alone : (ts us : List Token) → Some us ≡ the_word (codes "fn") ts
    → composite_of composites.SignatureStands ts ≡ Some us
fn_alone [] us h = cc h
fn_alone (Opens d ∷ ts) us h = cc h
fn_alone (Closes d ∷ ts) us h = cc h
fn_alone (Literal w ∷ ts) us h = cc h
fn_alone (Punct d s ∷ ts) us h = cc h
fn_alone (Ident w ∷ ts) us h = by (same_text (codes "fn") w) refl h
  where
    by : (b : Bool) → same_text (codes "fn") w ≡ b → Some us ≡ cond b (Some ts) None
        → signature_stands k.InFile (Ident w ∷ ts) ≡ Some us
    by false e h = cc h
    by true e h =
        ap (λ x. signature_stands k.InFile (Ident x ∷ ts)) (sym ((bytes_eq-Decides (codes "fn") w).0 e)) ∙ sym h

pub so_alone : (j k : Composite) (ts us : List Token) → j ≡ k → composite_of k ts ≡ Some us
    → composite_of j ts ≡ Some us
so_alone j k ts us e h = ap (λ x. composite_of x ts) e ∙ h

-- patterns
pub pattern_none : (ts : List Token) → sees (a_word begins_pattern) ts ≡ false
    → composite_of composites.IdentPatternStands ts ≡ None
pattern_none [] h = refl
pattern_none (Opens d ∷ ts) h = refl
pattern_none (Closes d ∷ ts) h = refl
pattern_none (Literal w ∷ ts) h = refl
pattern_none (Punct d s ∷ ts) h = refl
pattern_none (Ident w ∷ us) h =
    let r : (is_ident w ≡ false) × (is_among named_words w ≡ false) =
    either_no (is_ident w) (is_among named_words w) (seen_so (begins_pattern w) us ∙ h) in
    let e : Each named_words (Ident w ∷ us) =
    each_none named_words (Ident w ∷ us) (sym (seen_so (is_among named_words w) us) ∙ r.1) in
    or_none _ _ e.0 (or_none _ _ e.1.0 (then_none (an_ident (Ident w ∷ us)) _ (ap (λ b. cond b (Some us) None) r.0)))
  where
    named_words : List (List ℕ)
    named_words = codes "ref" ∷ codes "mut" ∷ []

pub dots_none : (ts : List Token) → sees (past_marks 46 []) ts ≡ false → composite_of composites.Dots ts ≡ None
dots_none ts h = no_then (marks "..." or marks "..=") (marks "..") ts (no_sign 46 (46 ∷ []) ts h)

pub range_to_none : (ts : List Token) → sees (past_marks 46 []) ts ≡ false
    → composite_of composites.RangeToPatternStands ts ≡ None
range_to_none ts h =
    or_none (marks "..=" ts) _ (no_sign 46 (46 ∷ 61 ∷ []) ts h)
    (then_none (composite_of composites.Dots ts) _ (dots_none ts h))

pub literal_pattern_none : (ts : List Token) → sees (a_quoted any_text) ts ≡ false → sees (a_word is_bool) ts ≡ false
    → sees (past_marks 45 []) ts ≡ false → composite_of composites.LiteralPatternStands ts ≡ None
literal_pattern_none ts h g d =
    or_none (composite_of composites.ALiteral ts) (marks "-" ts) (literal_none ts h g) (no_sign 45 [] ts d)

-- parts of items
pub restriction_none : (ts : List Token) → sees (opens D.Parenthesis) ts ≡ false
    → composite_of composites.AnyRestriction ts ≡ None
restriction_none ts h =
    or_none _ _ (then_none (parenthesis ts) _ (unseen (parenthesis ts) h))
    (then_none (parenthesis ts) _ (unseen (parenthesis ts) h))

pub lifetime_none : (ts : List Token) → sees (past_marks 39 []) ts ≡ false → sees (past_marks 35 []) ts ≡ false
    → composite_of composites.LifetimeBehindAttributes ts ≡ None
lifetime_none ts h g = no_attribute a_lifetime ts g (no_life ts h)

pub const_none : (ts : List Token) → sees (the_word (codes "const")) ts ≡ false → sees (past_marks 35 []) ts ≡ false
    → composite_of composites.ConstBehindAttributes ts ≡ None
const_none ts h g = no_attribute (at "const") ts g (unseen (at "const" ts) h)

pub not_none : (ts : List Token) → sees (past_marks 33 []) ts ≡ false
    → composite_of composites.NotBeforeBrace ts ≡ None
not_none ts h = then_none (marks "!" ts) _ (no_sign 33 [] ts h)

-- the look by its name
pub so : (j k : Composite) (ts : List Token) → j ≡ k → composite_of k ts ≡ None → composite_of j ts ≡ None
so j k ts e h = ap (λ x. composite_of x ts) e ∙ h

pub ruleset one_behind_laws = (word_none, another_word, word_behind)

pub ruleset begins_call_laws = (call_none_first, call_goes, call_ends)

pub ruleset goes_on_laws = (goes_on_group, goes_on_path, goes_on_dots)

pub ruleset first_alone_laws = (let_alone, fn_alone, so_alone)
