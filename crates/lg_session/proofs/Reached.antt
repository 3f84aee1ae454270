-- How far the loop over a session's commands has come.
use Rattle.std.proofs.Common.{◌≡◌, ℕ, ◌+◌, ◌*◌, ◌<◌, ◌≤◌, ◌^◌, ◌==◌, false, List, [], ◌∷◌, ◌++◌, length, replicate, drop, Option, Some, None, IsSome, refl, ap, sym, subst, ◌∙◌, arith, append_assoc, append-nil, length-append}
use mathlib.Core.List.{map-append}
use Rattle.std.specs.List.{list_any}
use Rattle.std.proofs.Math.Seq.{drop-length}
use Rattle.std.proofs.lemmas.List.{length-map}
use Rattle.std.proofs.lemmas.Bool.{or_parts}
use Rattle.std.proofs.lemmas.Bool.Decides.{nat_tests}
use Rattle.lg_gram.specs.declared.reply.Place.{Place}
use Rattle.lg_gram.specs.declared.reply.Reply.{Reply}
use Rattle.lg_gram.specs.declared.reply.Reply.TheVariants.{At}
use Rattle.lg_dict.specs.Dictionary.{Dictionary}
use Rattle.lg_log.specs.Codes.{code_session, is_of}
use Rattle.lg_log.specs.Passes.{LogId, Standing, at_start}
use Rattle.lg_script.specs.Commands.{CommandView}
use Rattle.lg_script.specs.Histories.{command_at, dictionary_after, fresh, version_of}
use Rattle.lg_core.specs.declared.state.Actor.{Actor}
use Rattle.lg_core.specs.Core.{newcomer}
use Rattle.lg_session.specs.declared.session.Session.{Session}
use Rattle.lg_script.specs.Codes.{commands_of, place_of, places_of}
use Rattle.lg_session.specs.Engines.{Progress}
use Rattle.lg_session.specs.Legal.{Holding, Run, AnswerIs}
use Rattle.lg_session.specs.Paths as paths
use Rattle.lg_session.specs.Paths.{HeldAs, Path, StandsFor, TakesSteps, Turns}
use Rattle.lg_session.specs.Rows.{Ground, run_on, HasEnded}
use Rattle.lg_session.specs.Turns.{Story, HasCome, HoldsSo, IsAt, MayGoOn, IsTimely, Turned, added, place_in}
use Rattle.lg_session.proofs.Interleaved.{at_first}
use Rattle.lg_session.proofs.OneScript.{command_after, stands, split}
use Rattle.lg_session.proofs.Rest.{Rest, own_of, ended, answers_first, pairs_after}

-- after so many commands
abbrev pub story_at : Ground → Option Holding → ℕ → Story
story_at g h n = record { scripts = g.scripts; base = g.base; holding = h; limit = 2000000 * n }

abbrev pub run_with : Ground → List Place → Run
run_with g journal = record { meaning = g.meaning; scripts = g.scripts; base = g.base; journal = journal }

-- So many commands of a session, numbered from 0, are answered, and whatever answers the rest from here answers all of them.
pub record Reached {H : Type 0} (g : Ground) (Stands : H → Dictionary → Progress → Type 0) (log : LogId) (number : ℕ) (session : Session H) (replies : List Reply) (n : ℕ) : Type 0 where
  pub at : IsAt log g.scripts session
  pub same : session.session ≡ number
  pub place : session.place ≡ n
  pub holding : Option Holding
  pub come : HasCome Stands (story_at g holding n) session
  pub many : length replies ≡ n
  pub actors : List Actor
  pub acts : StandsFor g.scripts g.base session actors
  pub turns : Turns g.scripts g.base log number session.pass actors replies
  pub gives : (final : List Place) (rs : List Reply) → Rest (run_with g final) (number + 1) (n + 1) (places_of g.scripts session.pass.seen) holding (drop n (commands_of g.scripts number)) rs
      → Rest (run_with g final) (number + 1) 1 [] None (commands_of g.scripts number) (replies ++ rs)

module _ {H : Type 0} (g : Ground) (Stands : H → Dictionary → Progress → Type 0) (log : LogId) (number : ℕ) where
  pub none_reached : (session : Session H) → number < length g.scripts → session.session ≡ number → session.place ≡ 0 → session.pass ≡ at_start log (number ∷ []) → session.view ≡ g.base → session.held ≡ None
      → Reached g Stands log number session [] 0
  none_reached session in_ same place start view held =
      let unseen : session.pass.seen ≡ [] = ap (λ (p : Standing). p.seen) start in record {
        at = record {
          same_log = ap (λ (p : Standing). p.log) start;
          alone = ap (λ (p : Standing). p.sessions) start ∙ ap (λ (k : ℕ). k ∷ []) (sym same);
          earlier = λ code has own. absurd (omega (arith, has.1, ap length unseen));
        };
        same = same;
        place = place;
        holding = None;
        come = record { newest = view ∙ ap (λ (l : List ℕ). dictionary_after g.scripts g.base (places_of g.scripts l)) (sym unseen); holds = rw held tt };
        many = refl;
        actors = replicate (length g.scripts) newcomer;
        acts = record {
          actor = newcomer;
          is = at_first (length g.scripts) session.session (omega (arith, in_, same));
          place = sym place;
          seen = sym (ap length unseen);
          held = subst (λ (h : Option (ℕ × H)). HeldAs h None) (sym held) tt;
          newest = view ∙ ap (λ (l : List ℕ). dictionary_after g.scripts g.base (places_of g.scripts l)) (sym unseen);
        };
        turns = subst (λ (p : Standing). Turns g.scripts g.base log number p (replicate (length g.scripts) newcomer) []) (sym start) paths.start;
        gives = λ final rs rest. rw unseen at rest;
      }

  may_go_on : (story : Story) (journal : List Place) (held : Option (ℕ × H)) (h : Option Holding) → story.limit ≤ 2 ^ 60 → HoldsSo Stands story journal held h → MayGoOn Stands held
  may_go_on story journal None h low holds = tt
  may_go_on story journal (Some held) None low holds = absurd holds
  may_go_on story journal (Some held) (Some h) low holds = (version_of story.scripts story.base journal h.version, h.progress, holds.stands, omega (arith, low, holds.near))

  module _ (session : Session H) (replies : List Reply) (n : ℕ) (reached : Reached g Stands log number session replies n) where
    -- fewer than 2^32 commands, each with two million candidates at most
    pub may_be_asked : n < 2 ^ 32 → MayGoOn Stands session.held
    may_be_asked few = may_go_on (story_at g reached.holding n) (places_of g.scripts session.pass.seen) session.held reached.holding (omega (arith, few)) reached.come.holds

    next_place : place_in session ≡ record { session = number + 1; command = n + 1 }
    next_place = (λ i. record { session = reached.same i + 1; command = reached.place i + 1 })

    module _ (in_ : number < length g.scripts) (inside : n < length (commands_of g.scripts number)) where
      pub next_command : command_at g.scripts (place_in session) ≡ Some (command_after g number in_ n inside)
      next_command = ap (command_at g.scripts) next_place ∙ stands g number in_ n inside

      pub command_left : IsSome (command_at g.scripts (place_in session))
      command_left = rw next_command refl

      pub one_reached : (after : Session H) (reply : Reply) → IsAt log g.scripts after
          → Turned g.meaning Stands (story_at g reached.holding n) session (command_after g number in_ n inside) (after, reply) → TakesSteps g.scripts g.base session reached.actors (after, reply)
          → Reached g Stands log number after (replies ++ reply ∷ []) (n + 1)
      one_reached after reply at turn takes =
          let p : Place = record { session = number + 1; command = n + 1 } in
          let before : List Place = places_of g.scripts session.pass.seen in
          let new : List Place = places_of g.scripts after.pass.seen in
          let more : List Place = places_of g.scripts turn.grown.new in
          let grows : new ≡ before ++ more = ap (places_of g.scripts) turn.grown.seen ∙ map-append (place_of g.scripts) session.pass.seen turn.grown.new in
          let limit : 2000000 * n + 2000000 ≡ 2000000 * (n + 1) = omega arith in record {
            at = at;
            same = turn.same_session ∙ reached.same;
            place = turn.next_place ∙ ap (λ (k : ℕ). k + 1) reached.place;
            holding = turn.then;
            come = subst (λ (k : ℕ). HasCome Stands (record { scripts = g.scripts; base = g.base; holding = turn.then; limit = k }) after) limit turn.come;
            many = omega (arith, length-append replies (reply ∷ []), reached.many);
            actors = takes.then;
            acts = takes.stands;
            turns = paths.turn session.pass after.pass reached.actors takes.then replies reply takes.note reached.turns
                (subst (λ (s : ℕ). Path g.scripts g.base s session.pass reached.actors after.pass takes.then (takes.note ∷ [])) reached.same takes.path) takes.told;
            gives = λ final rs rest.
                let run : Run = run_with g final in
                let own : own_of (number + 1) more ≡ added p reply = subst (λ (q : Place). own_of q.session more ≡ added q reply) next_place turn.grown.own in
                let answer = subst (λ (q : Place). AnswerIs (run_with g new) q reached.holding (command_after g number in_ n inside) reply turn.then) next_place turn.answer in
                let timely = subst (λ (k : ℕ). IsTimely (command_after g number in_ n inside) reply k) (sym (length-map after.pass.seen (place_of g.scripts))) turn.timely in
                let first = answers_first run (number + 1) (n + 1) before new more reached.holding turn.then (command_after g number in_ n inside) (drop (n + 1) (commands_of g.scripts number)) reply rs grows own answer timely rest in
                let all = reached.gives final (reply ∷ rs) (subst (λ (cs : List CommandView). Rest run (number + 1) (n + 1) before reached.holding cs (reply ∷ rs)) (sym (split g number in_ n inside)) first) in
                subst (λ (r : List Reply). Rest run (number + 1) 1 [] None (commands_of g.scripts number) r) (sym (append_assoc replies (reply ∷ []) rs)) all;
          }

  -- ---- the end

  -- what follows is of other sessions
  none_own : (codes : List ℕ) → list_any (is_of (number ∷ [])) codes ≡ false → own_of (number + 1) (places_of g.scripts codes) ≡ []
  none_own [] none = refl
  none_own (c ∷ cs) none =
      let parts = or_parts (is_of (number ∷ []) c) (list_any (is_of (number ∷ [])) cs) none in
      let other : (code_session c + 1) == (number + 1) ≡ false = grind (arith, nat_tests) in
      rw other (none_own cs parts.1)

  pub all_reached : (session : Session H) (replies : List Reply) (n : ℕ) → n ≡ length (commands_of g.scripts number) → Reached g Stands log number session replies n → HasEnded g session.pass.seen number replies
  all_reached session replies n all reached history later =
      let run : Run = run_on g history in
      let before : List Place = places_of g.scripts session.pass.seen in
      let more : List Place = places_of g.scripts later.rest in
      let grows : run.journal ≡ before ++ more = ap (places_of g.scripts) later.begins ∙ map-append (place_of g.scripts) session.pass.seen later.rest in
      let none : drop n (commands_of g.scripts number) ≡ [] = ap (λ (k : ℕ). drop k (commands_of g.scripts number)) all ∙ drop-length (commands_of g.scripts number) in
      let last : Rest run (number + 1) (n + 1) before reached.holding (drop n (commands_of g.scripts number)) [] = rw none (ended run (number + 1) (n + 1) before more reached.holding grows (none_own later.rest later.none)) in
      let rest = subst (λ (r : List Reply). Rest run (number + 1) 1 [] None (commands_of g.scripts number) r) (append-nil replies) (reached.gives run.journal [] last) in record {
        legal = record {
          in_time = record { there = rest.there; rise = pairs_after (At 0) (fresh (commands_of g.scripts number) replies) rest.rise };
          answered = rest.answered;
        };
        whole = reached.many ∙ all;
        own = ap (own_of (number + 1)) rest.grows ∙ rest.own;
        ends = record { log = log; pass = session.pass; actors = reached.actors; turns = reached.turns; all = later };
      }
