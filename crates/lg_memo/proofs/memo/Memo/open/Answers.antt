use Rattle.std.proofs.Common.{◌≡◌, ◌∙◌, replicate}
use Rattle.lg_memo.proofs.Ends.{opens}
use Rattle.lg_memo.proofs.memo.Memo.open.Goals as goal

pub new-requires : goal.new-requires
new-requires g c =
    let words : c.as_slice.result.now ≡ replicate c.args.shards 0 = c.as_slice.ensures.value ∙ c.in_ok-words.ensures.items_if_clones_equal (λ y e. e) in
    let contents = c.in_ok-contents.contents.items in
    opens _ _ c.as_slice.result.now contents words c.in_ok-contents.ensures.count
    (c.in_ok-contents.ensures.stored c.of-name.result.value)
    c.requires.seats
