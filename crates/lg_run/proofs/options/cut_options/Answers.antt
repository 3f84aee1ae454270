use Rattle.std.proofs.Common.{◌≡◌, length, map, refl, ◌∙◌, sym, arith, string_bytes}
use Rattle.std.proofs.lemmas.List.{length-map}
use Rattle.lg_run.specs.Settings.{Ends, option_word}
use Rattle.lg_run.proofs.OptionWords.{of_none, no_options, given_twice, given_so, fewer_left, parted, cut_step, at_start, at_end, cut_there}
use Rattle.lg_run.proofs.options.cut_options.Goals as goal

pub loop-rest-init : goal.loop-rest-init
loop-rest-init c = record { whole = refl; cut = at_start _ _ }

-- the words begin with no option
pub returns-in_err-option : goal.returns-in_err-option
returns-in_err-option c = of_none _ _ _ c.from_residual.ensures
    (λ front behind is. no_options c.args.known.now (map string_bytes c.loop-rest.done.now) _ behind (c.loop-rest-test.ensures.yes refl) c.in_err-option.ensures ((c.loop-rest.invariant.cut behind).0 (front, is)))

-- or with one that is given already
pub returns-then-is_given : goal.returns-then-is_given
returns-then-is_given c = λ front behind is.
    let option = c.in_ok-option.option in
    given_twice c.args.known.now (map string_bytes c.loop-rest.done.now) _ option.setting _ _ c.in_ok-option.ensures.1.1 behind
    (given_so string_bytes c.loop-rest.done.now option.word.now (option_word option.setting) _ _ c.is_given.ensures c.if-is_given.true c.in_ok-option.ensures.0)
    ((c.loop-rest.invariant.cut behind).0 (front, is))

-- or with one more
pub overflow_sub-words : goal.overflow_sub-words
overflow_sub-words c = (fewer_left string_bytes c.args.words.now c.loop-rest.done.now c.loop-rest.rest.now c.in_ok-option.option.behind.now c.loop-rest.invariant.whole _ _ c.in_ok-option.ensures.1.1.begins).0

pub loop-rest-smaller : goal.loop-rest-smaller
loop-rest-smaller c =
    let fewer = fewer_left string_bytes c.args.words.now c.loop-rest.done.now c.loop-rest.rest.now c.in_ok-option.option.behind.now c.loop-rest.invariant.whole _ _ c.in_ok-option.ensures.1.1.begins in
    let all = fewer.0 in
    let less = fewer.1 in
    let left = c.split_at-cut.ensures.back_len in
    omega arith

pub loop-rest-preserved : goal.loop-rest-preserved
loop-rest-preserved c =
    let option = c.in_ok-option.option in
    let cut = c.split_at-cut.result in
    let whole = parted string_bytes c.args.words.now cut.0.now cut.1.now _ c.split_at-cut.ensures.front c.split_at-cut.ensures.back in
    let all = (fewer_left string_bytes c.args.words.now c.loop-rest.done.now c.loop-rest.rest.now option.behind.now c.loop-rest.invariant.whole _ _ c.in_ok-option.ensures.1.1.begins).0 in
    let left = c.split_at-cut.ensures.back_len in
    let long : length cut.1.now ≡ length option.behind.now = omega arith in
    record {
      whole = whole;
      cut = cut_step c.args.known.now _ (map string_bytes c.loop-rest.done.now) (map string_bytes c.loop-rest.rest.now) option.setting _ (map string_bytes option.behind.now) (map string_bytes cut.0.now) (map string_bytes cut.1.now) c.in_ok-option.ensures.1.1
          (given_so string_bytes c.loop-rest.done.now option.word.now (option_word option.setting) _ _ c.is_given.ensures c.if-is_given.false c.in_ok-option.ensures.0)
          c.loop-rest.invariant.whole whole (length-map cut.1.now string_bytes ∙ long ∙ sym (length-map option.behind.now string_bytes)) c.loop-rest.invariant.cut;
    }

-- or with no more
pub returns : goal.returns
returns c =
    let ends : Ends (map string_bytes c.loop-rest.rest.now) = c.loop-rest-test.ensures.no refl in
    let found = (c.loop-rest.invariant.cut (map string_bytes c.loop-rest.rest.now)).1 (at_end c.args.known.now (map string_bytes c.loop-rest.done.now) _ ends) in
    cut_there c.args.known.now _ (map string_bytes c.loop-rest.done.now) (map string_bytes c.loop-rest.rest.now) found.0 c.loop-rest.invariant.whole found.1
