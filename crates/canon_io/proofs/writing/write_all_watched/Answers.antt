use Rattle.std.proofs.Common.{◌≡◌, ◌<◌, false, rules, ◌++◌, take}
use Rattle.std.proofs.KnownBytes.{Appends-trans}
use Rattle.canon_io.proofs.Fronts.{done_more, some_done, AppendsFront-done}
use Rattle.canon_io.proofs.Retries.{failed-after_taken}
use Rattle.canon_io.specs.Watched.{watch_of, has_failed}
use Rattle.canon_io.proofs.writing.write_all_watched.Goals as goal

pub returns-then-failed-clause-err : goal.returns-then-failed-clause-err
returns-then-failed-clause-err g c =
    let (done, split, appended, sound) = c.loop-rest.invariant in
    AppendsFront-done _ _ _ done c.loop-rest.rest.now split (search rules) appended

pub loop-rest-preserved-in-Ok : goal.loop-rest-preserved-in-Ok
loop-rest-preserved-in-Ok g c =
    let (done, split, appended, sound) = c.loop-rest.invariant in
    let rest = c.loop-rest.rest.now in
    let count = c.in-Ok.count in (
      done ++ take count rest,
      done_more _ done rest count split,
      Appends-trans _ _ _ _ _ appended c.in-Ok.ensures.bytes,
      λ none.
          let some : 0 < count = some_done rest count (search rules) none in
          let before : has_failed c.loop-rest.writer ≡ false = search rules in
          let behind = failed-after_taken (watch_of c.loop-rest.writer) count rest before some in
          search (rules, behind),
    )
