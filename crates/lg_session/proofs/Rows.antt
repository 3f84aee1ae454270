-- Rows of sessions that have ended, put together.
use Rattle.std.proofs.Common.{◌≡◌, ℕ, Bool, true, false, eqb, ◌||◌, List, [], ◌∷◌, ◌++◌, map, take, drop, refl, ap, sym, subst, ◌∙◌, append-nil, take-append-drop, true≢false}
use mathlib.Core.List.{map-append}
use Rattle.lg_gram.specs.declared.reply.Reply.{Reply}
use Rattle.lg_log.specs.Codes.{has_session}
use Rattle.lg_log.specs.Passes.{LogId, Standing, HasAllOf, longer_of}
use Rattle.lg_log.specs.Rule.{JoinsCompose}
use Rattle.lg_session.specs.declared.job.Job.{Job}
use Rattle.lg_session.specs.Rows.{Ground, HaveEnded, AreDone}

pub both_ended : (g : Ground) (seen a b : List ℕ) (x y : List (List Reply)) → HaveEnded g seen a x → HaveEnded g seen b y → HaveEnded g seen (a ++ b) (x ++ y)
both_ended g seen [] b [] y h k = k
both_ended g seen [] b (rs ∷ x) y h k = absurd h
both_ended g seen (s ∷ a) b [] y h k = absurd h
both_ended g seen (s ∷ a) b (rs ∷ x) y h k = (h.0, both_ended g seen a b x y h.1 k)

or_second : (a b : Bool) → b ≡ true → a || b ≡ true
or_second true b is = refl
or_second false b is = is

or_first : (a b : Bool) → a || false ≡ true → a || b ≡ true
or_first true b is = refl
or_first false b is = absurd (true≢false (sym is))

module _ (compose : JoinsCompose) (g : Ground) (seen whole : List ℕ) where
  -- what has ended stays so where the history goes on with edits of others
  ended_later : (carried : List ℕ) → HasAllOf carried seen whole → (sessions : List ℕ) (lists : List (List Reply))
      → ((session : ℕ) → has_session sessions session ≡ true → has_session carried session ≡ true) → HaveEnded g seen sessions lists → HaveEnded g whole sessions lists
  ended_later carried all [] [] among ended = tt
  ended_later carried all [] (rs ∷ lists) among ended = absurd ended
  ended_later carried all (s ∷ sessions) [] among ended = absurd ended
  ended_later carried all (s ∷ sessions) (rs ∷ lists) among ended =
      let one : (session : ℕ) → has_session (s ∷ []) session ≡ true → has_session carried session ≡ true = λ session mine. among session (or_first (eqb session s) (has_session sessions session) mine) in
      let here : HasAllOf (s ∷ []) seen whole = compose (s ∷ []) carried seen seen whole (record { rest = []; begins = sym (append-nil seen); none = refl }) all one in (
        (λ history more. ended.0 history (compose (s ∷ []) (s ∷ []) seen whole history here more (λ session mine. mine))),
        ended_later carried all sessions lists (λ session mine. among session (or_second (eqb session s) (has_session sessions session) mine)) ended.1,
      )

-- a row cut in two
pub both_numbers : (jobs low high : List Job) (n : ℕ) → low ≡ take n jobs → high ≡ drop n jobs → map (λ job. job.session) jobs ≡ map (λ job. job.session) low ++ map (λ job. job.session) high
both_numbers jobs low high n first second = ap (map (λ (job : Job). job.session)) (sym (take-append-drop n jobs) ∙ (λ i. sym first i ++ sym second i)) ∙ map-append (λ (job : Job). job.session) low high

-- two rows as one, once the one pass has taken over the other
pub both_done : JoinsCompose → (g : Ground) (log : LogId) (a b n : List ℕ) (p q r : Standing) (x y z : List (List Reply)) → n ≡ a ++ b → z ≡ x ++ y → AreDone g log a p x → AreDone g log b q y
    → r ≡ record p { sessions = p.sessions ++ q.sessions; seen = longer_of p.seen q.seen } → HasAllOf p.sessions p.seen r.seen → HasAllOf q.sessions q.seen r.seen → AreDone g log n r z
both_done compose g log a b n p q r x y z numbers lists h k joined mine others = record {
  same_log = ap (λ (s : Standing). s.log) joined ∙ h.same_log;
  carried = ap (λ (s : Standing). s.sessions) joined ∙ (λ i. h.carried i ++ k.carried i) ∙ sym numbers;
  ended = rw (numbers, lists) (both_ended g r.seen a b x y
      (ended_later compose g p.seen r.seen a (subst (λ (l : List ℕ). HasAllOf l p.seen r.seen) h.carried mine) a x (λ session has. has) h.ended)
      (ended_later compose g q.seen r.seen b (subst (λ (l : List ℕ). HasAllOf l q.seen r.seen) k.carried others) b y (λ session has. has) k.ended));
}
