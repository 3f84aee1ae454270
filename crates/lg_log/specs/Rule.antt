-- The rule of a log: what is always true of its words and of all views.
use Rattle.std.specs.Prelude.{◌≡◌, ◌↔◌, ℕ, ◌+◌, ◌<◌, true, false, eqb, List, ◌++◌, length, sum, replicate, slice_index}
use Rattle.std.specs.List.{list_all, IsDistinct, AllByRecursion}
use mathlib.Core.Option.{some}
use lib.ListN.{get_elem?}
use Rattle.atomic_table.specs.Table.{State}
use Rattle.lg_log.specs.declared.view.Account.{Account}
use Rattle.lg_log.specs.declared.view.View.{View}
use Rattle.lg_log.specs.Codes.{is_code, has_session}
use Rattle.lg_log.specs.Passes.{HasAllOf}
use Rattle.lg_log.specs.Views.{spent_view}

-- The words are the history, and zeros behind it. Its codes are codes of the log and differ. There is one word more than there are codes.
pub record IsHistory (counts words history : List ℕ) : Type 0 where
  pub zeros : ℕ
  pub words_are : words ≡ history ++ replicate zeros 0
  pub size : length history + zeros ≡ sum counts + 1
  pub codes : list_all (is_code counts) history ≡ true
  pub distinct : IsDistinct eqb history

-- The account has all codes of its sessions in the history, and the view carries these sessions.
pub record IsAccount (history : List ℕ) (v : View) (a : Account) : Type 0 where
  pub all : HasAllOf a.sessions a.seen history
  pub carried : (session : ℕ) → has_session a.sessions session ≡ true → has_session v.sessions session ≡ true

-- The view of the pass of this number has seen a beginning of the history, with all codes in it of the sessions that it carries.
-- These have the pass for their owner. Each account of its note has, in the same way, seen a beginning of what the view has seen,
-- and so of the history. A view that is not live is that of a pass that was joined to another: it has seen nothing and carries nothing.
pub record Fits (counts history : List ℕ) (owner : ℕ → ℕ) (pass : ℕ) (v : View) : Type 0 where
  pub same : v.live ≡ true → v.counts ≡ counts
  pub all : HasAllOf v.sessions v.seen history
  pub owned : (session : ℕ) → has_session v.sessions session ≡ true → owner session ≡ pass
  pub noted : AllByRecursion (λ (a : Account). HasAllOf a.sessions a.seen v.seen) v.note
  pub accounts : AllByRecursion (λ (a : Account). IsAccount history v a) v.note
  pub spent : v.live ≡ false → v ≡ spent_view

-- There is one history, and one owner of each session, that all views fit.
pub record IsKept (counts : List ℕ) (state : State (Unit {0}) View) : Type 0 where
  pub history : List ℕ
  pub owner : ℕ → ℕ
  pub is_history : IsHistory counts state.words history
  pub fit : (pass : ℕ) (v : View) → get_elem? state.views pass ≡ some v → Fits counts history owner pass v

-- In every state of a log, the word just after all that a pass has seen is 0 exactly where the pass has seen the whole history.
abbrev pub ZeroIsTheEnd : Type 0
ZeroIsTheEnd =
    (counts : List ℕ) (state : State (Unit {0}) View) (kept : IsKept counts state) (pass : ℕ) (v : View) → get_elem? state.views pass ≡ some v
    → (slice_index state.words (length v.seen) ≡ 0) ↔ (kept.history ≡ v.seen)

-- In every state of a log, a pass that carries every session has seen the whole history.
abbrev pub AllSessionsSeeAll : Type 0
AllSessionsSeeAll =
    (counts : List ℕ) (state : State (Unit {0}) View) (kept : IsKept counts state) (pass : ℕ) (v : View) → get_elem? state.views pass ≡ some v
    → ((session : ℕ) → session < length counts → has_session v.sessions session ≡ true) → kept.history ≡ v.seen

-- In every state of a log, no session is carried by two passes.
abbrev pub NoSessionTwice : Type 0
NoSessionTwice =
    (counts : List ℕ) (state : State (Unit {0}) View) → IsKept counts state → (a b : ℕ) (v w : View) → get_elem? state.views a ≡ some v → get_elem? state.views b ≡ some w
    → (session : ℕ) → has_session v.sessions session ≡ true → has_session w.sessions session ≡ true → a ≡ b

-- What a pass has seen begins the list of a pass that it was joined to; and that list begins the list of the next pass, with all codes
-- of at least its sessions. So its own list begins the last one, and what follows there has no code of its sessions.
abbrev pub JoinsCompose : Type 0
JoinsCompose =
    (sessions carried seen joined whole : List ℕ) → HasAllOf sessions seen joined → HasAllOf carried joined whole
    → ((session : ℕ) → has_session sessions session ≡ true → has_session carried session ≡ true) → HasAllOf sessions seen whole

-- The same where the pass that takes over carries the sessions of both, its own first.
abbrev pub JoinsKeepBoth : Type 0
JoinsKeepBoth =
    (mine others seen_by_me seen_by_other joined whole : List ℕ) → HasAllOf mine seen_by_me joined → HasAllOf others seen_by_other joined
    → HasAllOf (mine ++ others) joined whole → HasAllOf mine seen_by_me whole × HasAllOf others seen_by_other whole
