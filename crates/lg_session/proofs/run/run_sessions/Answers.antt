use Rattle.std.proofs.Common.{◌≡◌, ℕ, true, List, length, ap, subst, ◌∙◌, arith}
use Rattle.std.specs.List.{list_all, range_with_len}
use Rattle.lg_log.specs.Codes.{is_code}
use Rattle.lg_script.specs.EditNumbers.{edit_counts}
use Rattle.lg_script.specs.Codes.{places_of}
use Rattle.lg_script.specs.Commands.{script_views}
use Rattle.lg_session.specs.Rows.{Ground, ground_of, HaveEnded, AreKeptOf}
use Rattle.lg_session.proofs.Jobs.{a_pass_each, all_begin}
use Rattle.lg_session.proofs.Kept.{kept_all}
use Rattle.lg_session.proofs.Whole.{all_answered, all_legal}
use Rattle.lg_session.proofs.run.run_sessions.Goals as goal

pub jobs_of-requires : goal.jobs_of-requires
jobs_of-requires g c =
    let views = script_views c.args.scripts.now in
    omega (arith, a_pass_each c.in_ok-log.log views c.as_slice.result.now c.in_ok-log.passes.items (c.as_slice.ensures.value ∙ c.in_ok-counts.ensures) c.in_ok-log.ensures.passes, c.requires.scripts.few)

pub run_some-requires-clause-ready : goal.run_some-requires-clause-ready
run_some-requires-clause-ready g c κs within =
    let views = script_views c.args.scripts.now in
    let counts : c.as_slice.result.now ≡ edit_counts views = c.as_slice.ensures.value ∙ c.in_ok-counts.ensures in
    let begun = all_begin c.in_ok-log.log views c.as_slice.result.now c.in_ok-log.passes.items counts c.in_ok-log.ensures.passes c.in_ok-jobs.jobs.items c.in_ok-jobs.ensures in
    (omega (arith, begun.many, c.requires.scripts.some), c.requires.scripts, c.in_ok-log.ensures.log ∙ counts, begun.fresh)

-- what is kept is of answers that are legal
pub returns : goal.returns
returns g c =
    let ground : Ground = ground_of (g.E.Engine.meaning c.args.engine.now) c.args.scripts.now c.args.base.now in
    let keeps = g.K.Keeper.keeps c.args.keeper.now in
    let views = script_views c.args.scripts.now in
    let seen : List ℕ = c.in_ok-pass.pass.seen in
    let done = c.in_ok-pass.ensures in
    let counts : c.as_slice.result.now ≡ edit_counts views = c.as_slice.ensures.value ∙ c.in_ok-counts.ensures in
    let begun = all_begin c.in_ok-log.log views c.as_slice.result.now c.in_ok-log.passes.items counts c.in_ok-log.ensures.passes c.in_ok-jobs.jobs.items c.in_ok-jobs.ensures in
    let ended : HaveEnded ground seen (range_with_len 0 (length views)) done.lists = subst (λ (l : List ℕ). HaveEnded ground seen l done.lists) begun.numbers done.done.ended in
    let good : list_all (is_code (edit_counts views)) seen ≡ true =
    subst (λ (l : List ℕ). list_all (is_code l) seen ≡ true) (ap (λ l. l.counts) done.done.same_log ∙ c.in_ok-log.ensures.log ∙ counts) c.seen.ensures.codes in
    let journal : c.of.result ≡ places_of views seen = c.of.ensures ∙ c.in_ok-journal.ensures ∙ ap (places_of views) c.seen.ensures.seen in
    rw journal (record {
      replies = done.lists;
      legal = all_legal ground seen done.lists ended c.code_laws.ensures.codes good;
      whole = all_answered ground seen done.lists ended;
      are = kept_all keeps views done.lists c.in_ok-pass.kept.items (subst (λ (l : List ℕ). AreKeptOf keeps views l done.lists c.in_ok-pass.kept.items) begun.numbers done.are);
    })
