use Rattle.std.proofs.Common.{ltb, arith, rules, tests}
use Rattle.std.proofs.lemmas.List.Sorted.{IsPartitionPoint-from_clause, IsPartitionedBy-ltb}
use Rattle.register.proofs.Tables.{sorted, pairs_earlier, pairs_later}
use Rattle.register.proofs.spans.before.Goals as goal

pub returns : goal.returns
returns c =
    let spans = c.args.spans.now in
    let p = IsPartitionPoint-from_clause (λ s. ltb s.first c.args.n) spans c.partition_point.result c.partition_point.ensures.partitioned
    (IsPartitionedBy-ltb (λ s. s.first) spans c.args.n (sorted spans c.requires)) (λ a r f k. search (rules, tests)) in
    let bound = c.partition_point.ensures.bound in
    record {
      bound = bound;
      earlier = λ k lt. pairs_earlier spans c.args.n k (omega arith) (λ d. p.0 k d (omega arith) lt);
      later = λ lt. pairs_later spans c.args.n c.partition_point.result lt (λ d. p.1 c.partition_point.result d (omega arith) lt);
    }
