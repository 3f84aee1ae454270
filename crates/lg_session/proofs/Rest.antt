-- What is left of a session's answers gives the rest of what has to hold of them.
use Rattle.std.proofs.Common.{◌≡◌, ℕ, suc, ◌+◌, ◌≤◌, ◌==◌, List, [], ◌∷◌, ◌++◌, length, map, filter, All, AllPairs, Option, refl, ap, sym, subst, ◌∙◌, arith, append_assoc, length-append}
use Rattle.std.specs.List.{enumerate_from}
use Rattle.std.proofs.lemmas.List.Sums.{length-filter, count_by-le-length}
use Rattle.std.proofs.lemmas.List.Elements.{filter-append, All-cons, All-nil, All-weaker}
use Rattle.std.proofs.lemmas.List.Kept.{AllPairs-cons}
use Rattle.lg_gram.specs.declared.reply.Place.{Place}
use Rattle.lg_gram.specs.declared.reply.Reply.{Reply}
use Rattle.lg_gram.specs.declared.reply.Reply.TheVariants.{Listed, Beyond, Published, Refused, At, NoListing}
use Rattle.lg_script.specs.Commands.{CommandView, parses, lists, goes_on, makes, asks}
use Rattle.lg_script.specs.Histories.{is_published, reply_version, fresh, Precedes}
use Rattle.lg_session.specs.Legal.{Holding, Run, AnswerIs, Answered, so_far, next}
use Rattle.lg_session.specs.Turns.{added, IsTimely}
use Rattle.lg_session.proofs.Carried.{carried}

-- the places of the commands from that number on whose edits were published
abbrev pub published_from : ℕ → ℕ → List Reply → List Place
published_from session n replies = map (λ n. record { session = session; command = n.0 }) (filter (λ n. is_published n.1) (enumerate_from n replies))

-- the part of a journal that is a session's own
abbrev pub own_of : ℕ → List Place → List Place
own_of session journal = filter (λ p. p.session == session) journal

own_fewer : (session : ℕ) (journal : List Place) → length (own_of session journal) ≤ length journal
own_fewer session journal = omega (arith, length-filter (λ (p : Place). p.session == session) journal, count_by-le-length (λ (p : Place). p.session == session) journal)

-- The answers from that number on, by what is held and the journal so far. The run's journal goes on with the session's own edits
-- that they publish, among those of others. They name no version that is not there, and rise from the version that was reached.
pub record Rest (run : Run) (session n : ℕ) (journal : List Place) (held : Option Holding) (commands : List CommandView) (replies : List Reply) : Type 0 where
  pub more : List Place
  pub grows : run.journal ≡ journal ++ more
  pub own : own_of session more ≡ published_from session n replies
  pub there : All (λ r. reply_version r ≤ length run.journal) replies
  pub rise : AllPairs Precedes (At (length journal) ∷ fresh commands replies)
  pub answered : Answered run session n held commands replies

-- nothing is left but edits of others
pub ended : (run : Run) (session n : ℕ) (journal more : List Place) (held : Option Holding) → run.journal ≡ journal ++ more → own_of session more ≡ [] → Rest run session n journal held [] []
ended run session n journal more held grows others = record {
  more = more;
  grows = grows;
  own = others;
  there = All-nil (λ r. reply_version r ≤ length run.journal);
  rise = AllPairs-cons Precedes (At (length journal)) [] (All-nil (Precedes (At (length journal)))) (λ i j d a b. absurd (omega (arith, b)));
  answered = so_far n held [];
}

-- ---- versions rise

all_after : (x : Reply) (xs : List Reply) → AllPairs Precedes (x ∷ xs) → All (Precedes x) xs
all_after x xs all k d h = all 0 (suc k) d (omega arith) (omega (arith, h))

pub pairs_after : (x : Reply) (xs : List Reply) → AllPairs Precedes (x ∷ xs) → AllPairs Precedes xs
pairs_after x xs all i j d a b = all (suc i) (suc j) d (omega (arith, a)) (omega (arith, b))

-- what follows an answer follows one that names a lower version
follows : (a b r : Reply) → reply_version a ≤ reply_version b → Precedes b r → Precedes a r
follows a b (Listed n tokens page stats) le h = omega (arith, le, h)
follows a b (Beyond n bound) le h = omega (arith, le, h)
follows a b (Published n) le h = omega (arith, le, h)
follows a b (Refused n cause name) le h = omega (arith, le, h)
follows a b (At n) le h = omega (arith, le, h)
follows a b NoListing le h = omega (arith, le, h)

all_follow : (a b : Reply) (rs : List Reply) → reply_version a ≤ reply_version b → All (Precedes b) rs → All (Precedes a) rs
all_follow a b rs le = All-weaker (Precedes b) (Precedes a) (λ r h. follows a b r le h) rs

-- from a lower version on
lower : (k m : ℕ) (rs : List Reply) → k ≤ m → AllPairs Precedes (At m ∷ rs) → AllPairs Precedes (At k ∷ rs)
lower k m rs le all = AllPairs-cons Precedes (At k) rs (all_follow (At k) (At m) rs le (all_after (At m) rs all)) (pairs_after (At m) rs all)

-- an answer that names the version that it reached
between : (k m : ℕ) (r : Reply) (rs : List Reply) → Precedes (At k) r → k ≤ m → reply_version r ≡ m → AllPairs Precedes (At m ∷ rs) → AllPairs Precedes (At k ∷ r ∷ rs)
between k m r rs first le same all =
    let behind = all_after (At m) rs all in
    AllPairs-cons Precedes (At k) (r ∷ rs) (All-cons (Precedes (At k)) r rs first (all_follow (At k) (At m) rs le behind))
    (AllPairs-cons Precedes r rs (all_follow r (At m) rs (omega (arith, same)) behind) (pairs_after (At m) rs all))

-- an answer names a version past those before it if it made one
reached : (p : Place) (r : Reply) (k : ℕ) → k + length (added p r) ≤ reply_version r → Precedes (At k) r
reached p (Listed n tokens page stats) k past = omega (arith, past)
reached p (Beyond n bound) k past = omega (arith, past)
reached p (Published n) k past = omega (arith, past)
reached p (Refused n cause name) k past = omega (arith, past)
reached p (At n) k past = omega (arith, past)
reached p NoListing k past = omega (arith, past)

rises : (p : Place) (command : CommandView) (commands : List CommandView) (r : Reply) (rs : List Reply) (k m : ℕ) → k + length (added p r) ≤ m → IsTimely command r m
    → AllPairs Precedes (At m ∷ fresh commands rs) → AllPairs Precedes (At k ∷ fresh (command ∷ commands) (r ∷ rs))
rises p goes_on commands r rs k m past timely all = lower k m (fresh commands rs) (omega (arith, past)) all
rises p (parses text) commands r rs k m past timely all = between k m r (fresh commands rs) (reached p r k (omega (arith, past, timely))) (omega (arith, past)) timely all
rises p (lists first want text) commands r rs k m past timely all = between k m r (fresh commands rs) (reached p r k (omega (arith, past, timely))) (omega (arith, past)) timely all
rises p (makes edit) commands r rs k m past timely all = between k m r (fresh commands rs) (reached p r k (omega (arith, past, timely))) (omega (arith, past)) timely all
rises p asks commands r rs k m past timely all = between k m r (fresh commands rs) (reached p r k (omega (arith, past, timely))) (omega (arith, past)) timely all

in_time : (command : CommandView) (r : Reply) (m : ℕ) → IsTimely command r m → reply_version r ≤ m
in_time goes_on r m timely = timely
in_time (parses text) r m timely = omega (arith, timely)
in_time (lists first want text) r m timely = omega (arith, timely)
in_time (makes edit) r m timely = omega (arith, timely)
in_time asks r m timely = omega (arith, timely)

-- ---- one answer more in front

published_cons : (session n : ℕ) (r : Reply) (rs : List Reply)
    → published_from session n (r ∷ rs) ≡ added (record { session = session; command = n }) r ++ published_from session (n + 1) rs
published_cons session n (Listed m tokens page stats) rs = refl
published_cons session n (Beyond m bound) rs = refl
published_cons session n (Published m) rs = refl
published_cons session n (Refused m cause name) rs = refl
published_cons session n (At m) rs = refl
published_cons session n NoListing rs = refl

pub answers_first : (run : Run) (session n : ℕ) (journal new more : List Place) (held then : Option Holding) (command : CommandView) (commands : List CommandView) (r : Reply) (rs : List Reply)
    → new ≡ journal ++ more → own_of session more ≡ added (record { session = session; command = n }) r
    → AnswerIs (record run { journal = new }) (record { session = session; command = n }) held command r then → IsTimely command r (length new)
    → Rest run session (n + 1) new then commands rs → Rest run session n journal held (command ∷ commands) (r ∷ rs)
answers_first run session n journal new more held then command commands r rs is own answer timely rest =
    let p : Place = record { session = session; command = n } in
    let long : length new ≡ length journal + length more = ap length is ∙ length-append journal more in
    let whole : length run.journal ≡ length new + length rest.more = ap length rest.grows ∙ length-append new rest.more in
    let past : length (added p r) ≤ length more = subst (λ (l : List Place). length l ≤ length more) own (own_fewer session more) in
    let there : reply_version r ≤ length new = in_time command r (length new) timely in
    let then_answer = carried (record run { journal = new }) rest.more p held then command r answer there in record {
      more = more ++ rest.more;
      grows = rest.grows ∙ ap (λ (l : List Place). l ++ rest.more) is ∙ append_assoc journal more rest.more;
      own = filter-append (λ (q : Place). q.session == session) more rest.more ∙ (λ i. own i ++ rest.own i) ∙ sym (published_cons session n r rs);
      there = All-cons (λ r. reply_version r ≤ length run.journal) r rs (omega (arith, there, whole)) rest.there;
      rise = rises p command commands r rs (length journal) (length new) (omega (arith, long, past)) timely rest.rise;
      answered = next n held then command commands r rs (subst (λ (l : List Place). AnswerIs (record run { journal = l }) p held command r then) (sym rest.grows) then_answer) rest.answered;
    }
