use Rattle.std.proofs.Common.{rules}
use Rattle.canon_io.proofs.Fronts.{Consumes-filled}
use Rattle.canon_io.proofs.reading.read_within.Goals as goal

pub loop-filled-preserved : goal.loop-filled-preserved
loop-filled-preserved g c =
    let read = c.in-Ok.ensures in
    record {
      filled = read.fits;
      within = search rules;
      sound = search rules;
      consumed = Consumes-filled _ _ _ c.loop-filled.bytes.items c.read_more.new.bytes.items c.loop-filled.filled
          c.in-Ok.count read.front c.loop-filled.invariant.consumed read.ok;
    }
