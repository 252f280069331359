use Rattle.reader_fast.proofs.names.+segments.Given as goal

-- fewer names are left
abbrev pub decreases-segments : goal.decreases-segments
decreases-segments l = l.most
