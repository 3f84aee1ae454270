use Rattle.std.proofs.Common.{◌∷◌, [], ◌∙◌, ◌++◌}
use Rattle.lg_gram.specs.declared.entry.Item.{Item}
use Rattle.lg_dictread.proofs.Kept.{item_scanned, item_kept}
use Rattle.lg_dictread.proofs.items.read_items.Goals as goal

-- the token is one more item
pub loop-found-preserved : goal.loop-found-preserved
loop-found-preserved c =
    let text = c.args.text.now in
    let found = c.in-Some.found in
    let i : Item = record { kind = c.in-Item.kind; text = c.in-Item.name.now } in
    let so_far = c.loop-found.invariant.so_far in
    record {
      spot = c.in-Some.ensures.end;
      so_far = (
        so_far.0 ++ (i, found.start.at) ∷ [],
        item_kept text so_far.0 _ _ _ _ i found.start so_far.1 c.in-Some.ensures.start
            (rw (← c.in_ok-text-in-Item.ensures) c.in_ok-push-in-Item.ensures.items) c.in_ok-push-in-Item-2.ensures.items,
        so_far.2 ∙ item_scanned found.token i found.start.at so_far.0 _ _ c.in-Item.ensures c.in-Some.ensures.next,
      );
    }
