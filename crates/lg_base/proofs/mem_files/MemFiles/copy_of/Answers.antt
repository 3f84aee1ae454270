-- Each entry that is passed has another name, and the first with the name has the bytes.
use Rattle.std.proofs.Common.{◌≡◌, ap, sym, ◌∙◌, map, string_bytes, Some, true, false, nat_eq}
use lib.Pointwise.{pointwise}
use Rattle.std.specs.Ordering.{nat_cmp}
use Rattle.std.specs.Cmp.Lexicographic.{slice_cmp, nat_list_cmp_total}
use Rattle.std.specs.FinMap.{get, find, get-from_entries}
use Rattle.std.specs.VecDeque.Iter.{deque_iter_rest}
use Rattle.lg_base.proofs.Entries.{found_first, passed_first}
use Rattle.lg_base.proofs.mem_files.MemFiles.copy_of.Goals as goal

pub loop-entry-init : goal.loop-entry-init
loop-entry-init c =
    ap (λ m. get m.contents c.args.name.now) (sym c.self.view_is)
    ∙ get-from_entries nat_list_cmp_total _ _
    ∙ ap (λ es. find (slice_cmp nat_cmp) c.args.name.now (map (λ e. (string_bytes e.0, e.1.items)) es)) (sym c.into_iter-entry-iterator.ensures.into_iter_gives.0)

pub loop-entry-preserved : goal.loop-entry-preserved
loop-entry-preserved c =
    let other : false ≡ pointwise nat_eq c.args.name.now (string_bytes c.in-Some.entry.now.0) = c.if-eq.ensures ∙ ap (pointwise nat_eq c.args.name.now) c.as_str.ensures.value in
    c.loop-entry.invariant
    ∙ ap (λ es. find (slice_cmp nat_cmp) c.args.name.now (map (λ e. (string_bytes e.0, e.1.items)) es)) c.in-Some.ensures.steps
    ∙ passed_first c.args.name.now (string_bytes c.in-Some.entry.now.0) c.in-Some.entry.now.1.items (map (λ e. (string_bytes e.0, e.1.items)) (deque_iter_rest c.next.new.self)) other

pub returns-then-eq-clause-found : goal.returns-then-eq-clause-found
returns-then-eq-clause-found c =
    let same : true ≡ pointwise nat_eq c.args.name.now (string_bytes c.in-Some.entry.now.0) = c.if-eq.ensures ∙ ap (pointwise nat_eq c.args.name.now) c.as_str.ensures.value in
    let kept : c.in_ok-copied.field-0.items ≡ c.in-Some.entry.now.1.items = c.in_ok-copied.ensures ∙ c.as_slice.ensures.value in
    c.loop-entry.invariant
    ∙ ap (λ es. find (slice_cmp nat_cmp) c.args.name.now (map (λ e. (string_bytes e.0, e.1.items)) es)) c.in-Some.ensures.steps
    ∙ found_first c.args.name.now (string_bytes c.in-Some.entry.now.0) c.in-Some.entry.now.1.items (map (λ e. (string_bytes e.0, e.1.items)) (deque_iter_rest c.next.new.self)) same
    ∙ ap Some (sym kept)
