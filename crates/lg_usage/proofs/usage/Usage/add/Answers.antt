use Rattle.std.proofs.lemmas.Result.{on_ok_weaker}
use Rattle.lg_usage.proofs.Seen.{share_fits, share_adds}
use Rattle.lg_usage.proofs.usage.Usage.add.Goals as goal

-- no number is too great
pub merge-requires : goal.merge-requires
merge-requires c = share_fits c.args.self.now c.in_ok-share.share c.args.g.now c.requires.room c.in_ok-share.ensures

-- the share is merged
pub returns-clause-ok : goal.returns-clause-ok
returns-clause-ok c = on_ok_weaker c.merge.result (share_adds c.args.self.now c.in_ok-share.share c.merge.new.self c.args.g.now c.in_ok-share.ensures) c.merge.ensures.ok
