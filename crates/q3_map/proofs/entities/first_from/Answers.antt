use Rattle.std.proofs.Common.{rules, of_calls, sym}
use Rattle.std.proofs.lemmas.List.Sorted.{IsPartitionPoint-from_clause}
use Rattle.q3_fields.specs.Kinds.{most_end}
use Rattle.q3_map.proofs.Rising.{below_number, parted, point_is_first}
use Rattle.q3_map.proofs.entities.first_from.Goals as goal

pub returns : goal.returns
returns c =
    let entities = c.args.entities.now in
    let number = c.args.number in
    let point = IsPartitionPoint-from_clause (below_number number) entities c.partition_point.result c.partition_point.ensures.partitioned
    (parted most_end 0 number entities c.requires) (λ a r f called. search (rules, of_calls)) in
    sym (point_is_first number entities c.partition_point.result c.partition_point.ensures.bound point)
