-- `pairs_mut` lends the values and the separators at once, each through its own iterator. Assumes `Logic`.
use mathlib.Core.Path.{◌≡◌, ap₂, refl}
use mathlib.Core.List.{List, [], ◌∷◌}
use Prim.Native.Nat.{◌+◌}
use base.Fml.{GName, ftrue, flft}
use base.Logic.{emp}
use contract.BorrowLft.{◌⊑◌}
use contract.Monad.{fact, fact_i}
use contract.Running.{tables}
use mir.MapTy.{inst_fn}
use mir.Syntax.{Args, a_type, named}
use mir.Val.{Val, of_list, vstruct}
use types.ByLocal.{alloc_all, free_all, get, lands_as, look_at, pass_all, sets, through}
use types.Kit.{‵, ◌$◌, ◌∵◌, ◌⊛◌, !, await, by, drop, fjoin, fpack, feq_i, fsplit, join, keep, later, move, pick, qed}
use types.Kit.{raw, some, split, split3, use0, use1, use2, use3}
use types.Part.{agg}
use types.Run.{addr, and_then, enter, fld, no_more, returns, stop}
use denote.Array.{Array}
use denote.Exit.{no}
use denote.Follow.{follows_both}
use denote.Laws.{shows}
use denote.Memory.{lone}
use denote.Param.{layouts, param}
use denote.Param.Laws.{param_laws}
use denote.RattleType.{RattleType, Valss, owns}
use denote.Ref.{mut_Tells, mut_vals}
use denote.Signature.{mut_ref_to, plain, types_at}
use denote.Steps.{heard, nothing, peeks}
use denote.Struct.Declared.{shape}
use denote.Struct.Struct.{as_fields, within}
use denote.Triple.Call.{calls_at}
use denote.Triple.Table.{framed}
use denote.Triple.Walked.{Goes-spent_ref, Stays, stay_dropped}
use Rattle.std.proofs.raw_atomic.Walks.{leaves, proved}
use Rattle.std.specs.Slice.Iter.{iter_mut_name}
use Rattle.std.specs.Vec.{with_items}
use Rattle.syn_lists.specs.Left.{iter_mut_left}
use Rattle.syn_lists.specs.Lent.{with_both}
use Rattle.syn_lists.specs.Lists.{separators, values}
use Rattle.syn_lists.specs.Pairs.{pairs}
use Rattle.syn_lists.specs.PairsLeft.{pairs_mut_left}
use Rattle.syn_lists.specs.contracts.iter.IterMut.{the_row as iter_row}
use Rattle.syn_lists.specs.contracts.pairs.PairsMut as both
use Rattle.syn_lists.specs.contracts.punctuated.Punctuated.pairs_mut as f
use Rattle.syn_lists.specs.declared.pairs.PairsMut.{PairsMut}
use Rattle.syn_lists.proofs.BothLent.{Separators, Values, Whole, handed_on, lends_both, of_both, to_separators}
use Rattle.syn_lists.proofs.BothLent.{to_values}
use Rattle.syn_lists.proofs.EachOf.{Given, asks, at_call, callee, gives}
use Rattle.syn_lists.proofs.iter.IterMut.TheLaws.{the_row_laws as iter_laws}
use Rattle.syn_lists.proofs.iter.each_of.Met.{met}
use Rattle.syn_lists.proofs.punctuated.Punctuated.pairs_mut.Code as code
use Rattle.syn_lists.proofs.punctuated.Punctuated.pairs_mut.Statement.{statement}

abbrev stayed : (T P : RattleType) → Stays (f.ended T P).signature.params (f.ended T P).kept
stayed T P = (stay_dropped (mut_ref_to (0 ∷ []) tt (plain (λ _. Whole (param 0 T) (param 1 P)))) no, tt)

abbrev args : RattleType → RattleType → Args
args T P = layouts (a_type ∷ a_type ∷ []) (T, (P, tt))

pub pairs_mut_spec : {M : Type 1} → statement M
pairs_mut_spec 𝓤 𝓛 𝓜 𝓡 wired T P LT LP =
    let X = param 0 T in let Y = param 1 P in let LX = param_laws 0 T LT in let LY = param_laws 1 P LP in
    let c = f.clauses T P 𝓛 𝓜.mem 𝓡.returns in let 𝓣 = tables 𝓤 𝓛.H 𝓜 𝓡 𝓡.env in
    let wires = code.calls-syn_lists::iter::each_of 𝓡.env wired in
    proved 𝓛 (f.ended T P) (stayed T P) c 𝓜 𝓡 (Goes-spent_ref 𝓛 3 (0 ∷ []) tt (plain (λ _. Whole X Y)), tt)
    (f.Key.name (args T P)) (inst_fn (args T P) code.function) (code.unfolded 𝓤 𝓛.H 𝓜 𝓡 wired (T, (P, tt)))
    (λ κs. (mut_vals, tt)) (λ κs. (mut_Tells (named 0) κs.0 (Whole X Y), tt)) (λ κs qs bounds a g are.
    let κ = κs.0 in let κ₁ = κs.1.0 in let κ₂ = κs.1.1.0 in let q = qs.0 in let q₁ = qs.1.0 in let q₂ = qs.1.1.0 in
    let b = a.0.ref_ptr.0 in let o = a.0.ref_ptr.1 in let γ = a.0.ghost_name in let h = a.0.now in
    let it₁ = iter_row (record { mir = named 0; lft = κ }) X in
    let it₂ = iter_row (record { mir = named 0; lft = κ }) Y in
    let two = both.the_type (record { mir = named 0; lft = κ }) X Y in
    qed 𝓛 (((‵ (flft κ q) ⊛ ‵ (flft κ₁ q₁) ⊛ ‵ (flft κ₂ q₂) ⊛ ‵ ftrue) ⊛ ‵
    (owns (types_at (f.ended T P).signature.params κs) a (mut_vals a.0, tt)))
    ∷ (raw (fact 𝓤 (κ₁ ⊑ T.lives)) ⊛ raw (fact 𝓤 (κ₂ ⊑ P.lives)) ⊛ ‵ ftrue) ∷ []) ∵
    move ! (1 ∷ []) $ split3 ! $ heard ! (κ₁ ⊑ T.lives) (λ in₁. heard ! (κ₂ ⊑ P.lives) (λ in₂. drop ! $
    split ! $ move ! (1 ∷ []) $ fsplit ! $ move ! (2 ∷ []) $ split3 ! $ move ! (2 ∷ []) $ split ! $ keep !
    (4 ∷ 2 ∷ 3 ∷ 0 ∷ []) $
    -- [the list; the tokens]
    enter ! _ _ _ _ _ $ alloc_all ! (λ l. pass_all ! refl ((tt, tt), tt) $
    use2 𝓛 (later (some (λ (γs : GName × GName). ‵ (to_values X Y 𝓛 κ q b o γ h γs.0) ⊛ ‵
    (to_separators X Y 𝓛 κ q b o γ h γs.1)
    ⊛ ‵ (flft κ q) ⊛ ‵ (follows_both (Whole X Y) (Values X Y) (Separators X Y) γ γs.0 γs.1 (of_both X Y)))))
    (lends_both X Y 𝓛 κ q b o γ h LX LY (mut_vals a.0)) $ await ! tt $ pick !
    (λ γs. split3 ! $ move ! (2 ∷ []) $ split ! $
    -- [the list's token; what it ends as; the values; the separators; the tokens of T and of P]
    sets ! (addr ! (through ! refl (fld ! refl (stop !)))) refl (tt, tt) $
    let k₁ = callee 0 T 𝓛 𝓜.mem 𝓡.returns in
    let y₁ = at_call 0 T 𝓛 𝓜.mem 𝓡.returns κ κ₁ q q₁ bounds.0 b (o + 0) γs.0 h.values in
    move ! (2 ∷ 0 ∷ 4 ∷ []) $ use3 𝓛 (raw (k₁.pre y₁)) (asks 0 T 𝓛 𝓜.mem 𝓡.returns κ κ₁ q q₁ bounds.0 b
    (o + 0) γs.0 h.values in₁) $
    calls_at ! (framed 𝓤 𝓛.H 𝓜 𝓣) k₁ (met 𝓤 𝓛 𝓜 𝓡 wires T LT) y₁ (and_then ! (get ! refl) (no_more !)) (λ v₁.
    use1 𝓛 (Given 0 T 𝓛 𝓜.mem 𝓡.returns κ κ₁ q q₁ bounds.0 b (o + 0) γs.0 h.values v₁)
    (gives 0 T 𝓛 𝓜.mem 𝓡.returns κ κ₁ q q₁ bounds.0 b (o + 0) γs.0 h.values v₁) $
    await ! tt $ pick ! (λ r₁. split ! $ split ! $ split3 ! $ move ! (4 ∷ []) $ pick !
    (λ _. split3 ! $ drop ! $ move ! (1 ∷ []) $ heard ! (iter_mut_left r₁ ≡ h.values.items) (λ e₁.
    move ! (4 ∷ []) $ peeks ! it₁ _ (shows 𝓛 it₁) r₁ (v₁ ∷ []) (λ is₁.
    let ok₁ = (((iter_laws (record { mir = named 0; lft = κ }) X LX).lawful 𝓛).typed r₁ (v₁ ∷ []) is₁).0 in
    lands_as ! refl refl ok₁ $
    -- [the first iterator; what the values end as; the tokens of the list and of T; nothing; what the list ends as;
    -- the separators; the token of P]
    sets ! (addr ! (through ! refl (fld ! refl (stop !)))) refl (tt, tt) $
    let k₂ = callee 1 P 𝓛 𝓜.mem 𝓡.returns in
    let y₂ = at_call 1 P 𝓛 𝓜.mem 𝓡.returns κ κ₂ q q₂ bounds.1.0 b (o + 24) γs.1 h.separators in
    move ! (6 ∷ 2 ∷ 7 ∷ []) $ use3 𝓛 (raw (k₂.pre y₂)) (asks 1 P 𝓛 𝓜.mem 𝓡.returns κ κ₂ q q₂ bounds.1.0 b
    (o + 24) γs.1 h.separators in₂) $
    calls_at ! (framed 𝓤 𝓛.H 𝓜 𝓣) k₂ (met 𝓤 𝓛 𝓜 𝓡 wires P LP) y₂ (and_then ! (get ! refl) (no_more !)) (λ v₂.
    use1 𝓛 (Given 1 P 𝓛 𝓜.mem 𝓡.returns κ κ₂ q q₂ bounds.1.0 b (o + 24) γs.1 h.separators v₂)
    (gives 1 P 𝓛 𝓜.mem 𝓡.returns κ κ₂ q q₂ bounds.1.0 b (o + 24) γs.1 h.separators v₂) $
    await ! tt $ pick ! (λ r₂. split ! $ split ! $ split3 ! $ move ! (4 ∷ []) $ pick !
    (λ _. split3 ! $ drop ! $ move ! (1 ∷ []) $ heard ! (iter_mut_left r₂ ≡ h.separators.items) (λ e₂.
    move ! (4 ∷ []) $ peeks ! it₂ _ (shows 𝓛 it₂) r₂ (v₂ ∷ []) (λ is₂.
    let ok₂ = (((iter_laws (record { mir = named 0; lft = κ }) Y LY).lawful 𝓛).typed r₂ (v₂ ∷ []) is₂).0 in
    lands_as ! refl refl ok₂ $
    let v : Val = vstruct (of_list (v₁ ∷ v₂ ∷ [])) in
    let r : PairsMut T.Denot P.Denot = record { values = r₁; separators = r₂ } in
    sets ! (agg ! (and_then ! (get ! refl) (and_then ! (get ! refl) (no_more !)))) refl
    (as_fields (lone it₁.mir ∷ lone it₂.mir ∷ []) (v₁ ∷ v₂ ∷ []) (ok₁, (ok₂, tt))) $
    returns ! (look_at ! 0 refl) $ free_all ! refl $
    -- [the second iterator; what the separators end as; the tokens of the list and of P; nothing; the first iterator;
    -- what the values end as; the token of T; nothing; what the list ends as]
    move ! (9 ∷ 6 ∷ 1 ∷ []) $ use3 𝓛 (‵ (follows_both (Whole X Y) (Array X 0) (Array Y 0) γ (iter_mut_name r₁.rest)
    (iter_mut_name r₂.rest) (with_both h)))
    (handed_on X Y 𝓛 (with_items h.values) (with_items h.separators) γ γs.0 γs.1 (iter_mut_name r₁.rest)
    (iter_mut_name r₂.rest)) $
    nothing ! $ move ! (2 ∷ 0 ∷ []) $ fjoin ! $ move ! (5 ∷ 0 ∷ []) $ fjoin ! $ feq_i ! (List Val) (v ∷ [])
    (v ∷ []) refl $ fjoin ! $
    fpack ! (Valss (it₁ ∷ it₂ ∷ [])) (within (shape two) (two.to r) (v ∷ [])) (v₁ ∷ [], (v₂ ∷ [], tt)) $
    -- [the result; what the list ends as; the tokens of the list and of P; nothing; the token of T; nothing]
    move ! (3 ∷ 4 ∷ []) $ join ! $ move ! (4 ∷ 0 ∷ []) $ join ! $ move ! (3 ∷ 0 ∷ []) $ join ! $
    nothing ! $ nothing ! $ fjoin ! $ use0 𝓛 (raw (fact 𝓤 (pairs_mut_left r ≡ pairs (values h) (separators h))))
    (fact_i 𝓤 _ (emp 𝓤) (ap₂ pairs e₁ e₂)) $
    keep ! (2 ∷ 1 ∷ 3 ∷ 4 ∷ 0 ∷ []) $ by ! (leaves 𝓛 (f.ended T P) (stayed T P) c
    ((κs, qs, bounds, a, (mut_vals a.0, tt)), g) v r (tt, tt) (tt, tt)))))))))))))))))
