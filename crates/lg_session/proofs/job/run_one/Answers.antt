use Rattle.std.proofs.Common.{◌≡◌, ℕ, ◌+◌, ◌<◌, ◌++◌, List, length, take, [], ◌∷◌, refl, ap, sym, subst, ◌∙◌, arith}
use Rattle.std.proofs.Math.Seq.{take-length}
use Rattle.std.proofs.lemmas.List.{take_more}
use Rattle.lg_gram.specs.declared.reply.Reply.{Reply}
use Rattle.lg_script.specs.Commands.{CommandView, command_view, asks}
use Rattle.lg_script.specs.Codes.{commands_of, places_of}
use Rattle.lg_session.specs.Rows.{Ground, ground_of}
use Rattle.lg_session.proofs.OneScript.{few_commands, command_after, as_many, command_is}
use Rattle.lg_session.proofs.Reached.{story_at, none_reached, one_reached, all_reached, may_be_asked, next_command, command_left}
use Rattle.lg_session.proofs.job.run_one.Goals as goal

pub overflow_cast-count : goal.overflow_cast-count
overflow_cast-count g c =
    let ground : Ground = ground_of (g.E.Engine.meaning c.args.engine.now) c.args.scripts.now c.args.base.now in
    let many = as_many c.args.scripts.now c.items.result.now c.index-items-session.result c.args.job.session c.requires.fresh.0 c.items.ensures c.index-items-session.is c.items-commands.result.now c.items-commands.ensures in
    omega (arith, few_commands ground c.args.job.session c.requires.fresh.0 c.requires.scripts, many)

pub loop-index-init : goal.loop-index-init
loop-index-init g c =
    let ground : Ground = ground_of (g.E.Engine.meaning c.args.engine.now) c.args.scripts.now c.args.base.now in record {
      replies = [];
      reached = none_reached ground (g.E.Engine.stands c.args.engine.now) c.args.log.now c.args.job.session _ c.requires.fresh.0 refl refl c.requires.fresh.1 c.of.ensures refl;
      are = c.in_ok-kept.ensures;
    }

pub turn-requires-clause-at : goal.turn-requires-clause-at
turn-requires-clause-at g c κs within = c.loop-index.invariant.reached.at

pub turn-requires-clause-next : goal.turn-requires-clause-next
turn-requires-clause-next g c κs within =
    let ground : Ground = ground_of (g.E.Engine.meaning c.args.engine.now) c.args.scripts.now c.args.base.now in
    let number : ℕ = c.args.job.session in
    let w = c.loop-index.invariant in
    let many = as_many c.args.scripts.now c.items.result.now c.index-items-session.result number c.requires.fresh.0 c.items.ensures c.index-items-session.is c.items-commands.result.now c.items-commands.ensures in
    let inside : c.loop-index.index < length (commands_of ground.scripts number) = omega (arith, c.loop-index-test.true, many) in
    command_left ground (g.E.Engine.stands c.args.engine.now) c.args.log.now number c.loop-index.state w.replies c.loop-index.index w.reached c.requires.fresh.0 inside

pub turn-requires-clause-held : goal.turn-requires-clause-held
turn-requires-clause-held g c κs within =
    let ground : Ground = ground_of (g.E.Engine.meaning c.args.engine.now) c.args.scripts.now c.args.base.now in
    let number : ℕ = c.args.job.session in
    let w = c.loop-index.invariant in
    let many = as_many c.args.scripts.now c.items.result.now c.index-items-session.result number c.requires.fresh.0 c.items.ensures c.index-items-session.is c.items-commands.result.now c.items-commands.ensures in
    may_be_asked ground (g.E.Engine.stands c.args.engine.now) c.args.log.now number c.loop-index.state w.replies c.loop-index.index w.reached
    (omega (arith, c.loop-index-test.true, few_commands ground number c.requires.fresh.0 c.requires.scripts, many))

-- the answer is right by the journal as far as it was seen, so it may be kept
pub keep-requires-clause-takes : goal.keep-requires-clause-takes
keep-requires-clause-takes g c =
    let ground : Ground = ground_of (g.E.Engine.meaning c.args.engine.now) c.args.scripts.now c.args.base.now in
    let Stands = g.E.Engine.stands c.args.engine.now in
    let number : ℕ = c.args.job.session in
    let n : ℕ = c.loop-index.index in
    let w = c.loop-index.invariant in
    let many = as_many c.args.scripts.now c.items.result.now c.index-items-session.result number c.requires.fresh.0 c.items.ensures c.index-items-session.is c.items-commands.result.now c.items-commands.ensures in
    let inside : n < length (commands_of ground.scripts number) = omega (arith, c.loop-index-test.true, many) in
    let here = next_command ground Stands c.args.log.now number c.loop-index.state w.replies n w.reached c.requires.fresh.0 inside in
    let turned = c.in_ok-after.ensures.turned (story_at ground w.reached.holding n) (command_after ground number c.requires.fresh.0 n inside) refl here w.reached.come in
    let same = command_is c.args.scripts.now c.items.result.now c.index-items-session.result number c.requires.fresh.0 c.items.ensures c.index-items-session.is
    c.items-commands.result.now n c.index-commands-index.result c.items-commands.ensures c.loop-index-test.true c.index-commands-index.is in
    subst (λ (command : CommandView). g.K.Keeper.takes c.args.keeper.now command c.in_ok-after.reply) same
    (c.requires.takes (places_of ground.scripts c.in_ok-after.after.pass.seen) _ w.reached.holding turned.then (command_after ground number c.requires.fresh.0 n inside) c.in_ok-after.reply turned.answer)

pub keep-requires-clause-kept : goal.keep-requires-clause-kept
keep-requires-clause-kept g c =
    let w = c.loop-index.invariant in
    let number : ℕ = c.args.job.session in
    (take c.loop-index.index (commands_of _ number), w.replies, w.are, ap (λ (k : ℕ). k + 1) w.reached.many)

pub loop-index-preserved : goal.loop-index-preserved
loop-index-preserved g c =
    let ground : Ground = ground_of (g.E.Engine.meaning c.args.engine.now) c.args.scripts.now c.args.base.now in
    let Stands = g.E.Engine.stands c.args.engine.now in
    let number : ℕ = c.args.job.session in
    let n : ℕ = c.loop-index.index in
    let w = c.loop-index.invariant in
    let many = as_many c.args.scripts.now c.items.result.now c.index-items-session.result number c.requires.fresh.0 c.items.ensures c.index-items-session.is c.items-commands.result.now c.items-commands.ensures in
    let inside : n < length (commands_of ground.scripts number) = omega (arith, c.loop-index-test.true, many) in
    let here = next_command ground Stands c.args.log.now number c.loop-index.state w.replies n w.reached c.requires.fresh.0 inside in
    let turned = c.in_ok-after.ensures.turned (story_at ground w.reached.holding n) (command_after ground number c.requires.fresh.0 n inside) refl here w.reached.come in
    let cs : List CommandView = commands_of ground.scripts number in
    let same = command_is c.args.scripts.now c.items.result.now c.index-items-session.result number c.requires.fresh.0 c.items.ensures c.index-items-session.is
    c.items-commands.result.now n c.index-commands-index.result c.items-commands.ensures c.loop-index-test.true c.index-commands-index.is in
    let more : take (n + 1) cs ≡ take n cs ++ command_view c.index-commands-index.result ∷ [] = take_more cs n asks inside ∙ ap (λ (command : CommandView). take n cs ++ command ∷ []) same in
    let reply : Reply = c.in_ok-after.reply in record {
      replies = w.replies ++ reply ∷ [];
      reached = one_reached ground Stands c.args.log.now number c.loop-index.state w.replies n w.reached c.requires.fresh.0 inside c.in_ok-after.after reply c.in_ok-after.ensures.at turned (c.in_ok-after.ensures.steps ground.base w.reached.actors w.reached.acts);
      are = subst (λ (l : List CommandView). g.K.Keeper.keeps c.args.keeper.now (number + 1) l (w.replies ++ reply ∷ []) c.in_ok-kept-2.kept) (sym more) (c.in_ok-kept-2.ensures (take n cs) w.replies w.are (ap (λ (k : ℕ). k + 1) w.reached.many));
    }

pub returns : goal.returns
returns g c =
    let ground : Ground = ground_of (g.E.Engine.meaning c.args.engine.now) c.args.scripts.now c.args.base.now in
    let Stands = g.E.Engine.stands c.args.engine.now in
    let number : ℕ = c.args.job.session in
    let state = c.loop-index.state in
    let w = c.loop-index.invariant in
    let many = as_many c.args.scripts.now c.items.result.now c.index-items-session.result number c.requires.fresh.0 c.items.ensures c.index-items-session.is c.items-commands.result.now c.items-commands.ensures in
    let all : c.loop-index.index ≡ length (commands_of ground.scripts number) = omega (arith, c.loop-index-test.false, many) in record {
      lists = w.replies ∷ [];
      done = record { same_log = w.reached.at.same_log; carried = w.reached.at.alone ∙ ap (λ (k : ℕ). k ∷ []) w.reached.same; ended = (all_reached ground Stands c.args.log.now number state w.replies c.loop-index.index all w.reached, tt) };
      are = (subst (λ (l : List CommandView). g.K.Keeper.keeps c.args.keeper.now (number + 1) l w.replies c.loop-index.kept) (ap (λ (k : ℕ). take k (commands_of ground.scripts number)) all ∙ take-length (commands_of ground.scripts number)) w.are, tt);
    }
