-- What a clause reads of a watched reader or writer.
use Rattle.std.specs.Prelude.{Bool}
use Rattle.canon_io.specs.declared.watch.Watch.{Watch}
use Rattle.canon_io.specs.declared.watched.Watched.{Watched}
use Rattle.canon_io.specs.Watch.{failed}

-- the reader or the writer itself
abbrev pub inner_of : {T : Type 0} → Watched T → T
inner_of w = w.inner

-- what its calls answered
abbrev pub watch_of : {T : Type 0} → Watched T → Watch
watch_of w = w.watch

-- one of its calls failed
abbrev pub has_failed : {T : Type 0} → Watched T → Bool
has_failed w = failed w.watch

-- the last write or flush was a flush that went well
abbrev pub is_flushed : {T : Type 0} → Watched T → Bool
is_flushed w = w.flushed
