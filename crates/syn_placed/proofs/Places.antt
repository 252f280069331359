-- What holds of where parts stand.
use Rattle.std.proofs.Common.{◌≡◌, List, [], ◌∷◌, ◌++◌, refl, sym, ap, ◌∙◌, append_assoc, length, take}
use Rattle.std.proofs.lemmas.List.{map-append, append_cancel_left, length-map, take_at}
use Rattle.proc_macro2.specs.Token.{Token, plain}
use Rattle.syn_buffer.specs.Entries.{entry_token, spanned_entry, spanned_entries}
use Rattle.syn_buffer.specs.declared.entry.Entry.{Entry}
use Rattle.syn_placed.specs.Stands.{tokens, StandsBehind, StandsAmong, StandApart}

plain_spanned : (es : List Entry) → plain (spanned_entries es) ≡ tokens es
plain_spanned [] = refl
plain_spanned (e ∷ es) = ap (λ ts. entry_token e ∷ ts) (plain_spanned es)

-- with where they stand
pub among : (ts : List Token) (its whole : List Entry) → StandsBehind ts its whole
    → StandsAmong ts (spanned_entries its) (spanned_entries whole)
among ts its whole s = record {
  front = spanned_entries s.front;
  behind = spanned_entries s.behind;
  is_front = plain_spanned s.front ∙ s.is_front;
  is = ap (λ us. spanned_entries s.front ++ us) (sym (map-append spanned_entry its s.behind))
      ∙ sym (map-append spanned_entry s.front (its ++ s.behind)) ∙ ap spanned_entries s.is;
}

-- a part of a part
pub within : (ts us : List Token) (its mid whole : List Entry) → StandsBehind ts mid whole → StandsBehind us its mid
    → StandsBehind (ts ++ us) its whole
within ts us its mid whole s r = record {
  front = s.front ++ r.front;
  behind = r.behind ++ s.behind;
  is_front = map-append entry_token s.front r.front ∙ ap (λ vs. vs ++ tokens r.front) s.is_front
      ∙ ap (λ vs. ts ++ vs) r.is_front;
  is = append_assoc s.front r.front (its ++ (r.behind ++ s.behind))
      ∙ ap (λ vs. s.front ++ (r.front ++ vs)) (sym (append_assoc its r.behind s.behind))
      ∙ ap (λ vs. s.front ++ vs) (sym (append_assoc r.front (its ++ r.behind) s.behind))
      ∙ ap (λ vs. s.front ++ (vs ++ s.behind)) r.is ∙ s.is;
}

-- entries of as many tokens, at the front of the same entries, are the same
same_front : (a b x y : List Entry) → tokens a ≡ tokens b → a ++ x ≡ b ++ y → a ≡ b
same_front a b x y e h =
    let long = sym (length-map a entry_token) ∙ ap length e ∙ length-map b entry_token in
    sym (take_at a x (length b) long) ∙ ap (λ es. take (length b) es) h ∙ take_at b y (length b) refl

pub one_place : (ts : List Token) (a b whole : List Entry) → tokens a ≡ tokens b → StandsBehind ts a whole
    → StandsBehind ts b whole → a ≡ b
one_place ts a b whole e s r =
    let all = s.is ∙ sym r.is in
    let front = same_front s.front r.front (a ++ s.behind) (b ++ r.behind) (s.is_front ∙ sym r.is_front) all in
    let left = append_cancel_left r.front (a ++ s.behind) (b ++ r.behind)
    (ap (λ es. es ++ (a ++ s.behind)) (sym front) ∙ all) in
    same_front a b s.behind r.behind e left

-- entries whose tokens begin with those of others that stand there too
record Split (a front : List Entry) (gap : List Token) : Type 0 where
  between : List Entry
  is_between : tokens between ≡ gap
  is : front ≡ a ++ between

split : (a g front rest : List Entry) (gap : List Token) → tokens front ≡ tokens a ++ gap → a ++ g ≡ front ++ rest
    → Split a front gap
split [] g front rest gap e h = record { between = front; is_between = e; is = refl }
split (d ∷ a) g [] rest gap e h = cc
split (d ∷ a) g (c ∷ front) rest gap e h =
    let i : tokens front ≡ tokens a ++ gap = cc in
    let j : a ++ g ≡ front ++ rest = cc in
    let k : c ≡ d = cc in
    let s = split a g front rest gap i j in
    record {
      between = s.between;
      is_between = s.is_between;
      is = ap (λ us. c ∷ us) s.is ∙ ap (λ b. b ∷ (a ++ s.between)) k;
    }

pub apart : (ts gap : List Token) (x y whole : List Entry) → StandsBehind ts x whole
    → StandsBehind (ts ++ (tokens x ++ gap)) y whole → StandApart x gap y whole
apart ts gap x y whole s r =
    let e = r.is_front ∙ sym (append_assoc ts (tokens x) gap)
    ∙ ap (λ us. (us ++ tokens x) ++ gap) (sym s.is_front)
    ∙ ap (λ us. us ++ gap) (sym (map-append entry_token s.front x)) in
    let h = append_assoc s.front x s.behind ∙ s.is ∙ sym r.is in
    let m = split (s.front ++ x) s.behind r.front (y ++ r.behind) gap e h in
    record {
      front = s.front;
      between = m.between;
      behind = r.behind;
      is_between = m.is_between;
      is = sym (append_assoc s.front x (m.between ++ (y ++ r.behind)))
          ∙ sym (append_assoc (s.front ++ x) m.between (y ++ r.behind))
          ∙ ap (λ us. us ++ (y ++ r.behind)) (sym m.is) ∙ r.is;
    }
