use Rattle.std.proofs.Common.{◌↔◌, ◌+◌, ◌<◌, List, length, map, IsTrue, refl, ap, sym, subst, ◌∙◌, arith, true≢false}
use Rattle.std.proofs.lemmas.Bool.{false≢true}
use Rattle.lg_audit.specs.Answers.{reply_of, replies_of}
use Rattle.lg_audit.specs.Replies.{outline}
use Rattle.lg_audit.specs.Shares.{IsShare}
use Rattle.lg_audit.specs.declared.shown.ShownReply.{ShownReply as Shown}
use Rattle.lg_audit.proofs.Sharing.{outlined_at, short_at, no_shares, one_share, other_share, fewer_shares}
use Rattle.lg_audit.proofs.published.has_shares.Goals as goal

pub loop-index-init : goal.loop-index-init
loop-index-init c = record { so_far = no_shares c.args.journal.now (map (map outline) (replies_of c.args.replies.now)) }

pub has_share-requires : goal.has_share-requires
has_share-requires c =
    let short = short_at c.args.replies.now c.loop-index.index c.index-replies-index.result c.loop-index-test.true c.index-replies-index.is c.requires.short in
    let same = ap length c.as_slice.ensures.value in
    omega (arith, short, same)

pub returns-then-not-holds : goal.returns-then-not-holds
returns-then-not-holds c =
    let at = outlined_at c.args.replies.now c.loop-index.index c.index-replies-index.result c.loop-index-test.true c.index-replies-index.is in
    let told =
    subst (λ (rs : List Shown). IsTrue c.in_ok-holds.holds ↔ IsShare c.args.journal.now (c.loop-index.index + 1) (map outline (map reply_of rs))) c.as_slice.ensures.value c.in_ok-holds.ensures in (
      λ e. absurd (false≢true e),
      λ shares.
          absurd (other_share c.args.journal.now _ c.loop-index.index (length c.args.replies.now) _ c.loop-index-test.true at (λ share. true≢false (sym (told.1 share) ∙ c.if-not-holds.true)) shares),
    )

pub loop-index-preserved : goal.loop-index-preserved
loop-index-preserved c =
    let at = outlined_at c.args.replies.now c.loop-index.index c.index-replies-index.result c.loop-index-test.true c.index-replies-index.is in
    let told =
    subst (λ (rs : List Shown). IsTrue c.in_ok-holds.holds ↔ IsShare c.args.journal.now (c.loop-index.index + 1) (map outline (map reply_of rs))) c.as_slice.ensures.value c.in_ok-holds.ensures in
    record { so_far = one_share c.args.journal.now _ c.loop-index.index _ at (told.0 c.if-not-holds.false) c.loop-index.invariant.so_far }

pub returns : goal.returns
returns c = (λ e. fewer_shares c.args.journal.now _ c.loop-index.index (length c.args.replies.now) c.loop-index-test.false c.loop-index.invariant.so_far, λ shares. refl)
