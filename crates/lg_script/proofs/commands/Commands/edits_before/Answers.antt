use Rattle.std.proofs.Common.{◌≡◌, Some, ℕ, leb, List, length, map, take, count_by, ap, sym, ◌∙◌, subst, arith, rules}
use Rattle.std.proofs.lemmas.List.{length-map}
use Rattle.std.proofs.lemmas.List.Sums.{count_by-le-length}
use Rattle.std.specs.List.Sorted.{IsNonDecreasingBy}
use Rattle.std.proofs.lemmas.List.Sorted.{IsPartitionedBy-leb, IsPartitionPoint-from_clause}
use Rattle.lg_script.specs.declared.command.Command.{Command}
use Rattle.lg_script.specs.Commands.{command_view, is_edit}
use Rattle.lg_script.proofs.Numbers.{index_below, number_of_edit, length-numbers, numbers_rise, count_before, point_counts}
use Rattle.lg_script.proofs.commands.Commands.edits_before.Goals as goal

pub overflow_cast-result : goal.overflow_cast-result
overflow_cast-result c =
    let cs = map command_view c.self.inside.items.items in
    omega (arith, c.partition_point.ensures.bound, ap length c.deref.ensures.value, ap length c.self.invariant.1, length-numbers 1 cs, count_by-le-length is_edit cs, length-map c.self.inside.items.items command_view, c.self.invariant.0)

counted : (c : goal.After-partition_point) → c.partition_point.result ≡ count_by is_edit (take c.args.place (map command_view c.args.self.now))
counted c =
    let cs = map command_view c.self.inside.items.items in
    let same = c.deref.ensures.value ∙ c.self.invariant.1 in
    let rises = subst (λ (l : List ℕ). IsNonDecreasingBy (λ (x : ℕ). x) l) (sym same) (numbers_rise 1 cs) in
    let parted = IsPartitionedBy-leb (λ (x : ℕ). x) c.deref.result.now c.args.place rises in
    let point = IsPartitionPoint-from_clause (λ (x : ℕ). leb x c.args.place) _ _ c.partition_point.ensures.partitioned parted (λ a r q k. search rules) in
    point_counts (λ (x : ℕ). leb x c.args.place) c.deref.result.now c.partition_point.result c.partition_point.ensures.bound point
    ∙ ap (count_by (λ (x : ℕ). leb x c.args.place)) same ∙ count_before 0 c.args.place cs c.args.place (omega arith)
    ∙ ap (λ (l : List Command). count_by is_edit (take c.args.place (map command_view l))) c.self.view_is

pub returns-clause-count : goal.returns-clause-count
returns-clause-count c = counted c

pub returns-clause-index : goal.returns-clause-index
returns-clause-index c = λ edit is. rw (counted c)
    (index_below (map command_view c.args.self.now) c.args.place edit is, number_of_edit 1 (map command_view c.args.self.now) c.args.place edit is ∙ ap Some (omega arith))
