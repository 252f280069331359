use Rattle.std.proofs.Common.{leb, leb-true, rules, ◌≡◌, true, false}
use Rattle.std.specs.List.Sorted.{IsPartitionPoint}
use Rattle.std.proofs.lemmas.Bool.{leb-false}
use Rattle.std.proofs.lemmas.List.Sorted.{IsPartitionPoint-from_clause, IsPartitionedBy-leb}
use Rattle.rust_map.specs.declared.file.SourceFile.{SourceFile}
use Rattle.rust_map.proofs.source_map.files_begun.Goals as goal

pub returns-clause-split : goal.returns-clause-split
returns-clause-split c =
    let parted = IsPartitionedBy-leb (λ (f : SourceFile). f.base) c.args.files.now c.args.position c.requires in
    let point : IsPartitionPoint (λ (f : SourceFile). leb f.base c.args.position ≡ true)
    (λ f. leb f.base c.args.position ≡ false) c.args.files.now c.partition_point.result =
    IsPartitionPoint-from_clause (λ (f : SourceFile). leb f.base c.args.position) _ _
    c.partition_point.ensures.partitioned parted (λ a r q k. search rules) in
    (λ k d h l. leb-true _ _ (point.0 k d h l), λ k d h l. leb-false _ _ (point.1 k d h l))
