use Rattle.std.proofs.Common.{◌≡◌, ◌∙◌, ◌+◌, ◌-◌, ◌≤◌, ℕ, List, [], arith, ap, sym, subst, refl, length, take, drop}
use Rattle.std.specs.Prelude.{Bool, true, false}
use Rattle.std.specs.Str.{chars}
use Rattle.std.proofs.lemmas.Str.{IsCharBoundary-from_drop}
use Rattle.rust_lex.specs.Piece.{FitsAt}
use Rattle.rust_lex.specs.Scan.{is_joint}
use Rattle.rust_lex.specs.Places.{rest_at, between_places, IsBehind}
use Rattle.rust_lex.specs.declared.piece.PieceKind.{PieceKind}
use Rattle.rust_lex.specs.declared.piece.PieceKind.TheVariants.{Mark, White}
use Rattle.rust_lex.proofs.Joints.{joint_test}
use Rattle.rust_lex.proofs.Pieces.{between_joined}
use Rattle.proc_macro2.specs.Built.{IsPut, IsReady}
use Rattle.proc_macro2.specs.Forest.{IsForest}
use Rattle.proc_macro2.specs.Stack.{IsInnermost, Open}
use Rattle.proc_macro2.specs.declared.builder.Stretch.{Stretch}
use Rattle.proc_macro2.proofs.Building.{put_grows, put_refuses}
use Rattle.proc_macro2.proofs.Puts.{ready_at}
use Rattle.proc_macro2.proofs.Reading.{ReadTo, read_none, read_white, read_on, read_all, lengths, lengths_on}
use Rattle.proc_macro2.proofs.Reading.{stray_at, unmatched_at, unclosed_at, last_frame}
use Rattle.proc_macro2.proofs.parse.lex_with.Goals as goal

pub loop-at-init : goal.loop-at-init
loop-at-init c = read_none _ _ _ c.utf8.text c.new-builder.ensures.groups c.new-builder.ensures.inside

-- a white character that is passed lies within the text
passed : (base : ℕ) (bytes : List ℕ) (at end n : ℕ) (builder : Open) → ReadTo base bytes at n builder
    → FitsAt at White (between_places bytes at end) (rest_at bytes end) → IsBehind bytes at end
    → n + 1 ≤ length (chars bytes)
passed base bytes at end n builder r f b = let l =
    lengths _ _ _ _ _ (read_white base bytes at end n builder r f b) in omega arith

pub overflow_add-count : goal.overflow_add-count
overflow_add-count c =
    let w = passed _ _ _ _ _ _ c.loop-at.invariant c.in-Some.ensures.0 c.in-Some.ensures.1 in
    omega arith

pub loop-at-preserved-in-Some : goal.loop-at-preserved-in-Some
loop-at-preserved-in-Some c = read_white _ _ _ _ _ _ c.loop-at.invariant c.in-Some.ensures.0 c.in-Some.ensures.1

pub returns-in_default-found_at-clause-fault : goal.returns-in_default-found_at-clause-fault
returns-in_default-found_at-clause-fault c = let l =
    lengths _ _ _ _ _ c.loop-at.invariant in
    (stray_at _ _ _ _ _ c.loop-at.invariant c.loop-at-test.true c.in_default-found_at.ensures.piece, omega arith)

pub range-piece-requires-clause-start_boundary : goal.range-piece-requires-clause-start_boundary
range-piece-requires-clause-start_boundary c =
    λ _. (let p = c.loop-at.invariant.covers.place in IsCharBoundary-from_drop _ _ p.within p.cut)

pub range-piece-requires-clause-end_boundary : goal.range-piece-requires-clause-end_boundary
range-piece-requires-clause-end_boundary c =
    (let p = c.in-Some-found_at.ensures.piece.1.place in IsCharBoundary-from_drop _ _ p.within p.cut)

pub overflow_cast-there : goal.overflow_cast-there
overflow_cast-there c =
    let w = lengths_on _ _ _ _ _ _ c.loop-at.invariant c.in-Some-found_at.ensures.piece.1 in
    let n = c.in-Some-found_at.ensures.count in
    omega arith

pub overflow_add-there : goal.overflow_add-there
overflow_add-there c =
    let w = lengths_on _ _ _ _ _ _ c.loop-at.invariant c.in-Some-found_at.ensures.piece.1 in
    let n = c.in-Some-found_at.ensures.count in
    omega arith

pub put-requires-clause-ready : goal.put-requires-clause-ready
put-requires-clause-ready c =
    subst (IsReady c.in-Some-found_at.found.kind) (sym (ap chars c.range-piece.ensures.value))
    (ready_at _ _ _ _ c.in-Some-found_at.ensures.piece.0)

pub put-requires-clause-within : goal.put-requires-clause-within
put-requires-clause-within c =
    let w = lengths_on _ _ _ _ _ _ c.loop-at.invariant c.in-Some-found_at.ensures.piece.1 in
    let n = c.in-Some-found_at.ensures.count in
    omega arith

refused : (k : PieceKind) (ok : Bool) (old new : Open) (s : Stretch) (cs : List ℕ) (joint : Bool) → ok ≡ false
    → IsPut k ok old new s cs joint → IsPut k false old new s cs joint
refused k ok old new s cs joint e p = subst (λ b. IsPut k b old new s cs joint) e p

pub returns-then-not-branch-clause-fault : goal.returns-then-not-branch-clause-fault
returns-then-not-branch-clause-fault c =
    let l = lengths _ _ _ _ _ c.loop-at.invariant in
    let k = c.in-Some-found_at.found.kind in (
      unmatched_at _ _ _ _ _ _ _ c.loop-at.invariant c.in-Some-found_at.ensures.piece.0
          c.in-Some-found_at.ensures.piece.1
          (put_refuses k c.loop-at.builder c.put.new.builder _ _ _
          (refused k _ c.loop-at.builder c.put.new.builder _ _ _ c.if-not-branch.true c.in_ok-put.ensures)),
      omega arith,
    )

-- the piece read
on : (bytes piece : List ℕ) (at end n m : ℕ) (k : PieceKind) (ok joint : Bool) (old new : Open) (s : Stretch)
    → ReadTo s.whole.start bytes at s.from old → FitsAt at k (between_places bytes at end) (rest_at bytes end)
    → IsBehind bytes at end →
    piece ≡ take (end - at) (drop at bytes) → s.to ≡ s.from + m → m ≡ length (between_places bytes at end) → ok ≡ true
    → (k ≡ Mark → joint ≡ is_joint (rest_at bytes at)) → IsPut k ok old new s (chars piece) joint
    → ReadTo s.whole.start bytes end (s.from + m) new
on bytes piece at end n m k ok joint old new s r f b e t l o j p =
    let same : chars piece ≡ between_places bytes at end = ap chars e in
    let put : IsPut k true old new s (between_places bytes at end) joint =
    subst (λ x. IsPut k true old new s x joint) same (subst (λ x. IsPut k x old new s (chars piece) joint) o p) in
    let grown = put_grows at k old new s (between_places bytes at end) (rest_at bytes end) joint put f
    (λ i. j i ∙ ap is_joint (between_joined bytes at end r.covers.place b)) (t ∙ ap (λ x. s.from + x) l) r.frames
    r.whole in
    subst (λ x. ReadTo s.whole.start bytes end (s.from + x) new) (sym l)
    (read_on s.whole.start bytes at end s.from k old new r f b grown)

pub loop-at-preserved : goal.loop-at-preserved
loop-at-preserved c =
    let found = c.in-Some-found_at.found in
    let says = c.in-Some-found_at.ensures in
    let there : Stretch = record
    { whole = c.args.whole; from = c.loop-at.count; to = c.loop-at.count + found.characters } in
    on c.args.text.now c.range-piece.result.now c.loop-at.at found.end c.loop-at.count found.characters found.kind _
    found.joint c.loop-at.builder c.put.new.builder there c.loop-at.invariant says.piece.0 says.piece.1
    c.range-piece.ensures.value refl says.count c.if-not-branch.false
    (λ i. joint_test _ found.joint (says.joint i)) c.in_ok-put.ensures

pub returns-in-Ok-clause-parsed : goal.returns-in-Ok-clause-parsed
returns-in-Ok-clause-parsed c =
    let found : (c.loop-at.builder.groups ≡ []) × (c.in-Ok.stream ≡ c.loop-at.builder.inside) =
    rw c.in-Ok.is at c.in_ok-stream.ensures.whole in
    subst (IsForest c.args.whole.start (chars c.args.text.now)) (sym found.1)
    (read_all _ _ _ _ _ c.loop-at.invariant (omega arith) found.0)

pub returns-in-Err-clause-fault : goal.returns-in-Err-clause-fault
returns-in-Err-clause-fault c =
    let found : IsInnermost c.loop-at.builder.groups c.in-Err.frame.count =
    rw c.in-Err.is at c.in_ok-stream.ensures.unclosed in
    (unclosed_at _ _ _ _ _ _ c.loop-at.invariant (omega arith) found, last_frame _ _ _ _ _ _ c.loop-at.invariant found)
