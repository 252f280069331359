-- Where spans lie.
use Rattle.std.proofs.Common.{◌≡◌, ℕ, zero, suc, ◌+◌, ◌-◌, ◌^◌, ◌≤◌, ◌<◌, arith, List, [], ◌∷◌, ◌++◌, refl, ap, ◌∙◌}
use Rattle.std.proofs.Common.{subst, length, get_or, leb-true, Bool, true, false, inl, inr, Option, Some, None, map}
use Rattle.std.proofs.Common.{option_map}
use Rattle.std.specs.Prelude.{nat_le, ◌||◌, ◌==◌, if◌then◌else◌, IsTrue, is_some}
use Rattle.std.specs.List.Sorted.{IsPartitionPoint}
use Rattle.std.proofs.lemmas.Bool.{ne_eqb, eq-eqb, cases_eq, cases_Bool, and_from, cases_lt, lt-leb, le-leb}
use Rattle.std.proofs.lemmas.Bool.{and_parts, and_left, and_right}
use Rattle.std.proofs.lemmas.List.{map-append}
use Rattle.rust_map.specs.declared.file.SourceFile.{SourceFile}
use Rattle.rust_map.specs.Files.{text_of, texts_of, AreLaid, IsLaidOut}
use Rattle.rust_map.specs.Spans.{Span, is_call_site, span_from, span_part}
use Rattle.rust_map.specs.Sources.{Sources, Spot, KeepsSpots, LiesAsPart, is_held, spot_part, with_text, next_span}
use Rattle.rust_map.specs.Sources.{next_spot, next_position, position_behind, position_behind_all, lies_in}
use Rattle.rust_map.specs.Sources.{counts_in, spot_from, spot}

-- a text behind a span's start doesn't hold it
lies_not_before : (position : ℕ) (text : List ℕ) (span : Span) → span.start < position → lies_in position text span
    ≡ false
lies_not_before position text span h = and_left _ _ (lt-leb _ _ h)

-- nor does a text that ends before it
lies_not_behind : (position : ℕ) (text : List ℕ) (span : Span) → position_behind position text ≤ span.start
    → lies_in position text span ≡ false
lies_not_behind position text span h =
    elim (cases_lt span.end span.start) [
      | inl l ↦ and_right _ _ (and_left _ _ (lt-leb span.start span.end l))
      | inr g ↦ and_right _ _ (and_right _ _ (lt-leb span.end (position + length text) (omega arith)))
    ]

abbrev spot_made : ℕ → List ℕ → ℕ → ℕ → Spot
spot_made number text from to = record { number = number; text = text; from = from; to = to }

-- the spot in a file, if the span lies there
pub spot_here : ℕ → SourceFile → Span → Option Spot
spot_here number file span =
    option_map (λ (p : ℕ × ℕ). spot_made number (text_of file) p.0 p.1) (counts_in file.base (text_of file) span)

-- files lie from their first position on
pub base_from : (files : List SourceFile) (position j : ℕ) (d : SourceFile) → AreLaid position files → j < length files
    → position ≤ (get_or files j d).base
base_from [] position j d laid h = absurd (omega arith)
base_from (file ∷ files) position zero d laid h = let e = laid.0 in omega arith
base_from (file ∷ files) position (suc j) d laid h = let rest =
    base_from files _ j d laid.1 (omega arith) in omega arith

pub bases_ascend : (files : List SourceFile) (position i j : ℕ) (d : SourceFile) → AreLaid position files → i ≤ j
    → j < length files → (get_or files i d).base ≤ (get_or files j d).base
bases_ascend [] position i j d laid h l = absurd (omega arith)
bases_ascend (file ∷ files) position zero zero d laid h l = omega arith
bases_ascend (file ∷ files) position (suc i) zero d laid h l = absurd (omega arith)
bases_ascend (file ∷ files) position zero (suc j) d laid h l = let rest =
    base_from files _ j d laid.1 (omega arith) in let e = laid.0 in omega arith
bases_ascend (file ∷ files) position (suc i) (suc j) d laid h l =
    bases_ascend files _ i j d laid.1 (omega arith) (omega arith)

-- no file has begun
spot_none : (files : List SourceFile) (number position : ℕ) (span : Span) → span.start < position
    → spot_from number position (texts_of files) span ≡ None
spot_none [] number position span h = refl
spot_none (file ∷ files) number position span h =
    rw (lies_not_before position (text_of file) span h)
    (spot_none files (number + 1) (position_behind position (text_of file)) span (omega arith))

-- none of the files that follow has begun
spot_rest : (files : List SourceFile) (number position : ℕ) (span : Span) → AreLaid position files
    → ((j : ℕ) (d : SourceFile) → j < length files → span.start < (get_or files j d).base)
    → spot_from number position (texts_of files) span ≡ None
spot_rest [] number position span laid high = refl
spot_rest (file ∷ files) number position span laid high =
    let e = laid.0 in
    let h = high 0 file (omega arith) in
    spot_none (file ∷ files) number position span (omega arith)

here : (b : Bool) (number position : ℕ) (text : List ℕ) (span : Span)
    → (if b then Some (spot_made number text (span.start - position) (span.end - position)) else None)
    ≡ option_map (λ (p : ℕ × ℕ). spot_made number text p.0 p.1)
    (if b then Some (span.start - position, span.end - position) else None)
here true number position text span = refl
here false number position text span = refl

-- the span lies in the last file that has begun, or nowhere
spot_at : (files : List SourceFile) (number position i : ℕ) (span : Span) (d : SourceFile) → AreLaid position files
    → i < length files → ((j : ℕ) (d : SourceFile) → j < suc i → (get_or files j d).base ≤ span.start)
    → ((j : ℕ) (d : SourceFile) → suc i ≤ j → j < length files → span.start < (get_or files j d).base)
    → spot_from number position (texts_of files) span ≡ spot_here (number + i) (get_or files i d) span
unfolding spot_here
spot_at [] number position i span d laid within low high = absurd (omega arith)
spot_at (file ∷ files) number position zero span d laid within low high =
    let n : number + 0 ≡ number = omega arith in
    let rest = spot_rest files (number + 1) (position_behind position (text_of file)) span laid.1
    (λ j e l. high (suc j) e (omega arith) (omega arith)) in
    rw (n, laid.0, rest) (here (lies_in position (text_of file) span) number position (text_of file) span)
spot_at (file ∷ files) number position (suc i) span d laid within low high =
    let n : number + suc i ≡ number + 1 + i = omega arith in
    let first = base_from files _ 0 d laid.1 (omega arith) in
    let begun = low 1 d (omega arith) in
    let rest = spot_at files (number + 1) (position_behind position (text_of file)) i span d laid.1 (omega arith)
    (λ j e l. low (suc j) e (omega arith)) (λ j e l m. high (suc j) e (omega arith) (omega arith)) in
    rw (n, lies_not_behind position (text_of file) span (omega arith)) rest

-- where texts begin past 0, no text takes the position 0
pub spot_opened : (start : ℕ) (files : List SourceFile) (span : Span) → 1 ≤ start
    → spot (record { start = start; texts = texts_of files }) span ≡ spot_from 0 start (texts_of files) span
spot_opened start files span positive =
    elim (cases_eq span.start 0) [
      | inl e ↦
          let none = spot_none files 0 start span (omega arith) in
          let t : (span.start == 0) ≡ true = eq-eqb _ _ e in
          rw (none, t) refl
      | inr n ↦ rw (ne_eqb span.start 0 n) refl
    ]

-- no file has begun where the span starts
pub located_none : (start next : ℕ) (files : List SourceFile) (span : Span) (i : ℕ) → IsLaidOut start next files
    → IsPartitionPoint (λ file. file.base ≤ span.start) (λ file. span.start < file.base) files i → i ≡ 0
    → spot (record { start = start; texts = texts_of files }) span ≡ None
located_none start next files span i out point e =
    spot_opened start files span out.positive ∙ spot_rest files 0 start span out.laid
    (λ j d l. point.1 j d (omega arith) l)

pub located_some : (start next : ℕ) (files : List SourceFile) (span : Span) (i : ℕ) (file : SourceFile)
    → IsLaidOut start next files
    → IsPartitionPoint (λ file. file.base ≤ span.start) (λ file. span.start < file.base) files i → i ≤ length files
    → (i ≡ 0 → ⊥) → file ≡ get_or files (i - 1) file → spot (record { start = start; texts = texts_of files }) span
    ≡ spot_here (i - 1) file span
located_some start next files span zero file out point within some read = absurd (some refl)
located_some start next files span (suc i) file out point within some read =
    let k : suc i - 1 ≡ i = omega arith in
    let z : 0 + i ≡ i = omega arith in
    let at = spot_at files 0 start i span file out.laid (omega arith) (λ j d l. point.0 j d (omega arith) l)
    (λ j d l m. point.1 j d l m) in
    let found = rw (z, ← k, ← read) at at in
    spot_opened start files span out.positive ∙ found

-- one more text
behind_more : (texts : List (List ℕ)) (position : ℕ) (text : List ℕ) → position_behind_all position (texts ++ text ∷ [])
    ≡ position_behind (position_behind_all position texts) text
behind_more [] position text = refl
behind_more (t ∷ texts) position text = behind_more texts (position_behind position t) text

laid_behind : (files : List SourceFile) (position : ℕ) (file : SourceFile) → AreLaid position files → file.base
    ≡ position_behind_all position (texts_of files) → AreLaid position (files ++ file ∷ [])
laid_behind [] position file laid e = (e, tt)
laid_behind (f ∷ files) position file laid e = (laid.0, laid_behind files _ file laid.1 e)

pub laid_more : (start next after : ℕ) (files : List SourceFile) (file : SourceFile) → IsLaidOut start next files
    → file.base ≡ next → next + length (text_of file) < 2 ^ 32 → after ≡ next + length (text_of file) + 1
    → IsLaidOut start after (files ++ file ∷ [])
laid_more start next after files file out e room n =
    let texts : texts_of (files ++ file ∷ []) ≡ texts_of files ++ text_of file ∷ [] =
    map-append text_of files (file ∷ []) in
    let behind = behind_more (texts_of files) start (text_of file) in
    let is = out.next_is in
    record {
      positive = out.positive;
      laid = laid_behind files start file out.laid (e ∙ is);
      next_is = rw (texts, behind) (omega arith);
      room = omega arith;
    }

-- what a file answers of a span is its spot
pub spot_here_none : (number : ℕ) (file : SourceFile) (span : Span) → counts_in file.base (text_of file) span ≡ None
    → spot_here number file span ≡ None
unfolding spot_here
spot_here_none number file span e = rw e refl

pub spot_here_some : (number from to : ℕ) (file : SourceFile) (span : Span) → counts_in file.base (text_of file) span
    ≡ Some (from, to) → spot_here number file span ≡ Some (spot_made number (text_of file) from to)
unfolding spot_here
spot_here_some number from to file span e = rw e refl

-- a text more, and a span that lies in an earlier one
spot_from_kept : (texts : List (List ℕ)) (number position : ℕ) (text : List ℕ) (span : Span) (s : Spot)
    → spot_from number position texts span ≡ Some s → spot_from number position (texts ++ text ∷ []) span ≡ Some s
spot_from_kept [] number position text span s = λ e. absurd (cc)
spot_from_kept (t ∷ texts) number position text span s =
    elim (lies_in position t span) as
    (λ b. (if b then Some (spot_made number t (span.start - position) (span.end - position)) else spot_from
    (number + 1) (position_behind position t) texts span) ≡ Some s
    → (if b then Some (spot_made number t (span.start - position) (span.end - position)) else spot_from (number + 1)
    (position_behind position t) (texts ++ text ∷ []) span) ≡ Some s) [
      | true ↦ λ e. e
      | false ↦ λ e. spot_from_kept texts (number + 1) (position_behind position t) text span s e
    ]

kept_by : (b none : Bool) (found more : Option Spot) → (none ≡ true → b ≡ true)
    → ((s : Spot) → found ≡ Some s → more ≡ Some s) → IsTrue (none || is_some (if b then None else found))
    → (if b then None else more) ≡ (if b then None else found)
kept_by true none found more first step h = refl
kept_by false true found more first step h = absurd (let e = first refl in cc)
kept_by false false (Some s) more first step h = step s refl
kept_by false false None more first step h = absurd (cc)

-- the spans that a map holds lie in it as they lie in it with one more text
pub spot_kept : (map : Sources) (text : List ℕ) → KeepsSpots map (with_text map text)
spot_kept map text = λ span h. kept_by (span.start == 0) (is_call_site span) (spot_from 0 map.start map.texts span)
    (spot_from 0 map.start (map.texts ++ text ∷ []) span) (λ e. (and_parts _ _ e).0)
    (λ s e. spot_from_kept map.texts 0 map.start text span s e) h

-- positions only grow
behind_le : (texts : List (List ℕ)) (position : ℕ) → position ≤ position_behind_all position texts
behind_le [] position = omega arith
behind_le (t ∷ texts) position = let rest = behind_le texts (position_behind position t) in omega arith

same_spot : (text : List ℕ) (m n i j k l : ℕ) → m ≡ n → i ≡ j → k ≡ l → Some (spot_made m text i k)
    ≡ Some (spot_made n text j l)
same_spot text m n i j k l e f g = rw (e, f, g) refl

-- the span of the last text
spot_from_next : (texts : List (List ℕ)) (number position : ℕ) (text : List ℕ)
    → spot_from number position (texts ++ text ∷ [])
    (span_from (position_behind_all position texts) (position_behind_all position texts + length text))
    ≡ Some (spot_made (number + length texts) text 0 (length text))
spot_from_next [] number position text =
    let a : nat_le position position ≡ true = le-leb _ _ (omega arith) in
    let b : nat_le position (position + length text) ≡ true = le-leb _ _ (omega arith) in
    let c : nat_le (position + length text) (position + length text) ≡ true = le-leb _ _ (omega arith) in
    rw (a, b, c) (same_spot _ _ _ _ _ _ _ (omega arith) (omega arith) (omega arith))
spot_from_next (t ∷ texts) number position text =
    let n : number + length (t ∷ texts) ≡ number + 1 + length texts = omega arith in
    let le = behind_le texts (position_behind position t) in
    let past = lies_not_behind position t
    (span_from (position_behind_all (position_behind position t) texts)
    (position_behind_all (position_behind position t) texts + length text)) le in
    rw (n, past) (spot_from_next texts (number + 1) (position_behind position t) text)

pub spot_next : (map : Sources) (text : List ℕ) → 1 ≤ map.start → spot (with_text map text) (next_span map text)
    ≡ Some (next_spot map text)
spot_next map text positive =
    let le = behind_le map.texts map.start in
    let n : 0 + length map.texts ≡ length map.texts = omega arith in
    let found = spot_from_next map.texts 0 map.start text in
    rw (ne_eqb (next_position map) 0 (λ e. omega arith)) (rw n at found)

-- the map with one more file
abbrev pub sources_made : ℕ → List (List ℕ) → Sources
sources_made start texts = record { start = start; texts = texts }

pub view_more : (start : ℕ) (files new : List SourceFile) (file : SourceFile) (text : List ℕ) (map : Sources) → new
    ≡ files ++ file ∷ [] → sources_made start (texts_of files) ≡ map → text_of file ≡ text
    → sources_made start (texts_of new) ≡ with_text map text
view_more start files new file text map e view t =
    ap (λ f. sources_made start (texts_of f)) e ∙
    (ap (λ ts. sources_made start ts) (map-append text_of files (file ∷ [])) ∙
    (ap (λ u. with_text (sources_made start (texts_of files)) u) t ∙ ap (λ m. with_text m text) view))

pub inserted_spot : (map new : Sources) (text : List ℕ) (span : Span) → 1 ≤ map.start → new ≡ with_text map text → span
    ≡ next_span map text → spot new span ≡ Some (next_spot map text)
inserted_spot map new text span positive e f =
    ap (λ m. spot m span) e ∙ (ap (λ s. spot (with_text map text) s) f ∙ spot_next map text positive)

pub inserted_kept : (map new : Sources) (text : List ℕ) → new ≡ with_text map text → KeepsSpots map new
inserted_kept map new text e = λ span h. ap (λ m. spot m span) e ∙ spot_kept map text span h

pub same_span : (a b c d : ℕ) → a ≡ c → b ≡ d → span_from a b ≡ span_from c d
same_span a b c d e f = rw (e, f) refl

-- the counts of a spot are in order, and within its text
pub record IsSpot (span : Span) (s : Spot) : Type 0 where
  pub length_is : s.to ≡ s.from + (span.end - span.start)
  pub ordered : s.from ≤ s.to
  pub inside : s.to ≤ length s.text

lies_parts : (position : ℕ) (text : List ℕ) (span : Span) → lies_in position text span ≡ true
    → (position ≤ span.start) × (span.start ≤ span.end) × (span.end ≤ position + length text)
lies_parts position text span h =
    let both = and_parts _ _ h in
    let rest = and_parts _ _ both.1 in
    (leb-true _ _ both.0, leb-true _ _ rest.0, leb-true _ _ rest.1)

spot_is_here : (number position : ℕ) (text : List ℕ) (span : Span) (s : Spot)
    → (position ≤ span.start) × (span.start ≤ span.end) × (span.end ≤ position + length text)
    → Some (spot_made number text (span.start - position) (span.end - position)) ≡ Some s → IsSpot span s
spot_is_here number position text span s lies e =
    let made : spot_made number text (span.start - position) (span.end - position) ≡ s = cc in
    subst (λ s. IsSpot span s) made (record { length_is = omega arith; ordered = omega arith; inside = omega arith })

spot_from_is : (texts : List (List ℕ)) (number position : ℕ) (span : Span) (s : Spot)
    → spot_from number position texts span ≡ Some s → IsSpot span s
spot_from_is [] number position span s = λ e. absurd (cc)
spot_from_is (t ∷ texts) number position span s =
    elim (cases_Bool (lies_in position t span)) [
      | inl holds ↦ rw holds (λ e. spot_is_here number position t span s (lies_parts position t span holds) e)
      | inr none ↦ rw none (spot_from_is texts (number + 1) (position_behind position t) span s)
    ]

pub spot_is : (map : Sources) (span : Span) (s : Spot) → spot map span ≡ Some s → IsSpot span s
spot_is map span s e =
    elim (cases_eq span.start 0) [
      | inl z ↦ let t : (span.start == 0) ≡ true = eq-eqb _ _ z in absurd (let none = rw t at e in cc)
      | inr n ↦ spot_from_is map.texts 0 map.start span s (rw (ne_eqb span.start 0 n) at e)
    ]

-- a span lies in texts past the position of the first
spot_from_low : (texts : List (List ℕ)) (number position : ℕ) (span : Span) (s : Spot)
    → spot_from number position texts span ≡ Some s → position ≤ span.start
spot_from_low [] number position span s = λ e. absurd (cc)
spot_from_low (t ∷ texts) number position span s =
    elim (cases_Bool (lies_in position t span)) [
      | inl holds ↦ λ e. (lies_parts position t span holds).0
      | inr none ↦ rw none (λ e. let rest = spot_from_low texts (number + 1) (position_behind position t) span s e in
          omega arith)
    ]

-- a part of a span
part_here : (number position : ℕ) (text : List ℕ) (span : Span) (s : Spot) (from to : ℕ)
    → (position ≤ span.start) × (span.start ≤ span.end) × (span.end ≤ position + length text)
    → Some (spot_made number text (span.start - position) (span.end - position)) ≡ Some s
    → Some (spot_made number text (span.start + from - position) (span.start + to - position))
    ≡ Some (spot_part s from to)
part_here number position text span s from to lies e =
    let made : spot_made number text (span.start - position) (span.end - position) ≡ s = cc in
    let k : span.start + from - position ≡ span.start - position + from = omega arith in
    let l : span.start + to - position ≡ span.start - position + to = omega arith in
    subst (λ s. Some (spot_made number text (span.start + from - position) (span.start + to - position))
    ≡ Some (spot_part s from to)) made (rw (k, l) refl)

spot_from_part : (texts : List (List ℕ)) (number position : ℕ) (span : Span) (s : Spot) (from to : ℕ) → from ≤ to
    → span.start + to ≤ span.end → spot_from number position texts span ≡ Some s
    → spot_from number position texts (span_part span from to) ≡ Some (spot_part s from to)
spot_from_part [] number position span s from to ordered within = λ e. absurd (cc)
spot_from_part (t ∷ texts) number position span s from to ordered within =
    elim (cases_Bool (lies_in position t span)) [
      | inl holds ↦
          let lies = lies_parts position t span holds in
          let part : lies_in position t (span_part span from to) ≡ true =
          and_from _ _ (le-leb position (span.start + from) (omega arith))
          (and_from _ _ (le-leb (span.start + from) (span.start + to) (omega arith))
          (le-leb (span.start + to) (position + length t) (omega arith))) in
          rw (holds, part) (λ e. part_here number position t span s from to lies e)
      | inr none ↦ rw none (λ e.
          let low = spot_from_low texts (number + 1) (position_behind position t) span s e in
          let past = lies_not_behind position t (span_part span from to) (omega arith) in
          rw past (spot_from_part texts (number + 1) (position_behind position t) span s from to ordered within e))
    ]

pub part_lies : (span : Span) (from to : ℕ) → from ≤ to → span.start + to ≤ span.end
    → LiesAsPart span from to (span_part span from to)
part_lies span from to ordered within = λ map s e.
    elim (cases_eq span.start 0) [
      | inl z ↦ let t : (span.start == 0) ≡ true = eq-eqb _ _ z in absurd (let none = rw t at e in cc)
      | inr n ↦
          let inside = spot_from_part map.texts 0 map.start span s from to ordered within
          (rw (ne_eqb span.start 0 n) at e) in
          rw (ne_eqb (span.start + from) 0 (λ z. n (omega arith))) inside
    ]

held_here : (b : Bool) (found : Option Spot) (s : Spot) → found ≡ Some s → IsTrue (b || is_some found)
held_here true found s e = refl
held_here false found s e = rw e refl

-- a map holds a span that lies in it
pub held_by_spot : (map : Sources) (span : Span) (s : Spot) → spot map span ≡ Some s → IsTrue (is_held map span)
held_by_spot map span s e = held_here (is_call_site span) (spot map span) s e

-- a map that keeps the spots of another holds what that holds
pub held_on : (old new : Sources) (span : Span) → KeepsSpots old new → IsTrue (is_held old span)
    → IsTrue (is_held new span)
held_on old new span keeps held = rw (keeps span held) held

-- for callers: what a map holds
pub ruleset held = (held_by_spot, held_on)
