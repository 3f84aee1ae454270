use Rattle.std.proofs.Common.{◌≡◌, ℕ, ap, sym, ◌∙◌, length}
use Rattle.std.specs.List.{range_with_len}
use Rattle.std.specs.Slots.{slots_items, slots_counts}
use Rattle.lg_memo.specs.Views.{has_number}
use Rattle.lg_memo.specs.Rule.{IsStored}
use Rattle.lg_memo.proofs.Ends.{closes}
use Rattle.lg_memo.proofs.Ended.{all_some}
use Rattle.lg_memo.proofs.Gathered.{closed_numbers, closed_right, closed_known}
use Rattle.lg_memo.proofs.memo.Memo.close.Goals as goal

pub drain-requires-clause-stored : goal.drain-requires-clause-stored
drain-requires-clause-stored g c κs within =
    let shared = c.args.self.table.shared in
    let last = c.gather-last.result.seat in
    let slots = c.close_with.result.slots in
    let size : length (slots_items slots) ≡ shared.key.shards = sym (slots_counts slots).0 ∙ c.close_with.ensures.counts.1 ∙ c.args.self.slots ∙ sym c.args.self.told in
    all_some (λ k n s. IsStored g.T.Fact.right shared.key.name.value k n s.number s.entries.items) last.me.0.known shared.key.shards (slots_items slots) size
    (closes _ shared.key last.id last.me.0 _ (slots_items slots) c.gather-last.ensures.free.no_shard (λ n less. ap (λ l. has_number l n) c.gather-last.ensures.numbers ∙ c.requires.all n less) c.close_with.ensures.values.2)

pub returns-clause-numbers : goal.returns-clause-numbers
returns-clause-numbers g c =
    let shared = c.args.self.table.shared in
    let last = c.gather-last.result.seat in
    let slots = c.close_with.result.slots in
    let size : length (slots_items slots) ≡ shared.key.shards = sym (slots_counts slots).0 ∙ c.close_with.ensures.counts.1 ∙ c.args.self.slots ∙ sym c.args.self.told in
    closed_numbers g.T.Fact.right shared.key.name.value last.me.0.known shared.key.shards (slots_items slots) c.drain.result.items (λ s. s.number) (λ s. s.entries.items) c.drain.ensures size
    (closes _ shared.key last.id last.me.0 _ (slots_items slots) c.gather-last.ensures.free.no_shard (λ n less. ap (λ l. has_number l n) c.gather-last.ensures.numbers ∙ c.requires.all n less) c.close_with.ensures.values.2) ∙ ap (λ (n : ℕ). range_with_len 0 n) c.args.self.told

pub returns-clause-right : goal.returns-clause-right
returns-clause-right g c =
    let shared = c.args.self.table.shared in
    let last = c.gather-last.result.seat in
    let slots = c.close_with.result.slots in
    let size : length (slots_items slots) ≡ shared.key.shards = sym (slots_counts slots).0 ∙ c.close_with.ensures.counts.1 ∙ c.args.self.slots ∙ sym c.args.self.told in
    closed_right g.T.Fact.right shared.key.name.value last.me.0.known shared.key.shards (slots_items slots) c.drain.result.items (λ s. s.number) (λ s. s.entries.items) c.drain.ensures size
    (closes _ shared.key last.id last.me.0 _ (slots_items slots) c.gather-last.ensures.free.no_shard (λ n less. ap (λ l. has_number l n) c.gather-last.ensures.numbers ∙ c.requires.all n less) c.close_with.ensures.values.2)

pub returns-clause-known : goal.returns-clause-known
returns-clause-known g c =
    let shared = c.args.self.table.shared in
    let last = c.gather-last.result.seat in
    let slots = c.close_with.result.slots in
    let size : length (slots_items slots) ≡ shared.key.shards = sym (slots_counts slots).0 ∙ c.close_with.ensures.counts.1 ∙ c.args.self.slots ∙ sym c.args.self.told in
    closed_known g.T.Fact.right shared.key.name.value last.me.0.known shared.key.shards (slots_items slots) c.drain.result.items (λ s. s.number) (λ s. s.entries.items) c.drain.ensures size
    (closes _ shared.key last.id last.me.0 _ (slots_items slots) c.gather-last.ensures.free.no_shard (λ n less. ap (λ l. has_number l n) c.gather-last.ensures.numbers ∙ c.requires.all n less) c.close_with.ensures.values.2) _ c.gather-last.ensures.known
