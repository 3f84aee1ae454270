use Rattle.std.proofs.Common.{◌≡◌, ℕ, List, map, ◌++◌, ◌/◌, IfOk, refl}
use Rattle.lg_script.specs.Commands.{script_views}
use Rattle.lg_session.specs.declared.job.Job.{Job}
use Rattle.lg_session.specs.Rows.{Ground, ground_of, AreDoneWith}
use Rattle.lg_session.proofs.Kept.{both_kept}
use Rattle.lg_session.proofs.Rows.{both_numbers, both_done}
use Rattle.lg_session.proofs.halves.+halves.Goals as goal

pub returns : goal.returns
returns g t c =
    let ground : Ground = ground_of (g.E.Engine.meaning c.args.engine.now) c.args.scripts.now c.args.base.now in
    let keeps = g.K.Keeper.keeps c.args.keeper.now in
    let number : Job → ℕ = λ job. job.session in
    let low : List Job = c.split_off.new.self.items in
    let high : List Job = c.in_ok-high.high.items in
    let cut = c.in_ok-high.ensures in
    let numbers : map number c.args.jobs.items ≡ map number low ++ map number high = both_numbers c.args.jobs.items low high (c.len-2.result / 2) cut.items cut.tail in
    let first : IfOk c.join-first.result.0 (λ r. AreDoneWith keeps ground c.args.log.now (map number low) r.0 r.1.items) = c.join-first.ensures.first in
    let second : IfOk c.join-first.result.1 (λ r. AreDoneWith keeps ground c.args.log.now (map number high) r.0 r.1.items) = c.join-first.ensures.second in
    let one = rw c.in_ok-pass-2.was at first in
    let other = rw c.in_ok-other.was at second in
    let joined = c.join.ensures in record {
      lists = one.lists ++ other.lists;
      done = both_done c.joins_compose.ensures.compose ground c.args.log.now (map number low) (map number high) (map number c.args.jobs.items) c.in_ok-pass-2.pass c.in_ok-other.other c.join.new.self
          one.lists other.lists (one.lists ++ other.lists) numbers refl one.done other.done joined.joined joined.mine joined.others;
      are = rw (numbers, c.in_ok-append.ensures.items) (both_kept keeps (script_views c.args.scripts.now) (map number low) (map number high) one.lists other.lists c.in_ok-pass-2.kept.items c.in_ok-other.others.items one.are other.are);
    }
