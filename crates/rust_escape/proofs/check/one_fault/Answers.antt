use Rattle.rust_escape.specs.Calls.{whole, wrong}
use Rattle.rust_escape.proofs.check.one_fault.Goals as goal

pub returns-in-Ok : goal.returns-in-Ok
returns-in-Ok g c = (_, whole (rw c.in-Ok.is at c.single-read.ensures.value))

pub returns : goal.returns
returns g c = (
  _,
  wrong (rw c.in-Err.is at c.single-read.ensures.malformed)
      (rw c.in-Err.is at c.single-read.ensures.fatal) c.callback.ensures,
)
