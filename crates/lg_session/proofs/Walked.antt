-- The path of a session while it learns and looks, before its command ends.
use Rattle.std.proofs.Common.{◌≡◌, ℕ, ◌+◌, ◌<◌, false, List, [], ◌∷◌, ◌++◌, length, Option, Some, None, slice_set, refl, ap, sym, subst, ◌∙◌, arith, length-append}
use Rattle.std.specs.Option.{option_to_list}
use Rattle.std.proofs.lemmas.List.{map-append}
use Rattle.lg_dict.specs.Dictionary.{Dictionary}
use Rattle.lg_edit.specs.Edits.{EditView, accept}
use Rattle.lg_log.specs.Codes.{is_of}
use Rattle.lg_log.specs.Passes.{Standing, with_code, at_end}
use Rattle.lg_script.specs.Commands.{CommandView, makes}
use Rattle.lg_script.specs.Histories.{command_at, dictionary_after}
use Rattle.lg_script.specs.Codes.{place_of, places_of}
use Rattle.lg_core.specs.declared.state.Actor.{Actor}
use Rattle.lg_core.specs.declared.note.Note.{Note}
use Rattle.lg_core.specs.Core as happens
use Rattle.lg_session.specs.declared.session.Session.{Session}
use Rattle.lg_session.specs.Learning as walk
use Rattle.lg_session.specs.Learning.{Known, Walks}
use Rattle.lg_session.specs.Paths as paths
use Rattle.lg_session.specs.Paths.{known, Acts, Path, StandsFor}
use Rattle.lg_session.specs.Turns.{place_in}
use Rattle.lg_session.proofs.Ending as ending
use Rattle.lg_session.proofs.Learned.{after_append}
use Rattle.lg_session.proofs.Levels.{path_append}
use Rattle.lg_session.proofs.Replayed.{get_set}

-- the dictionary when one code more was seen
pub one_learned : (scripts : List (List CommandView)) (base dict : Dictionary) (seen : List ℕ) (code : ℕ) → dict ≡ dictionary_after scripts base (places_of scripts seen)
    → dictionary_after scripts dict (place_of scripts code ∷ []) ≡ dictionary_after scripts base (places_of scripts (seen ++ code ∷ []))
one_learned scripts base dict seen code is =
    ap (λ (d : Dictionary). dictionary_after scripts d (place_of scripts code ∷ [])) is ∙ sym (after_append scripts base (places_of scripts seen) (place_of scripts code ∷ []))
    ∙ ap (dictionary_after scripts base) (sym (map-append (place_of scripts) seen (code ∷ [])))

-- where looks leave the command, it is an edit that is accepted
abbrev pub LeavesIt : CommandView → (Dictionary → Type 0) → Type 0
LeavesIt command Over = (dict : Dictionary) → Over dict → (edit : EditView) × (command ≡ makes edit) × (accept dict edit ≡ None)

module _ {H : Type 0} (scripts : List (List CommandView)) (base : Dictionary) (session : Session H) where
  -- the session when its pass and its dictionary have come on
  abbrev pub come : Known → Session H
  come y = record session { pass = y.0; view = y.1 }

  -- a path leads there, on which no command ends
  pub record Walked (actors : List Actor) (y : Known) : Type 0 where
    pub then : List Actor
    pub path : Path scripts base session.session session.pass actors y.0 then []
    pub alone : y.0.sessions ≡ session.session ∷ []
    pub stands : StandsFor scripts base (come y) then

  -- one step more
  pub steps_on : (p q r : Standing) (x y z : List Actor) (note : Option Note) (notes : List Note) → Path scripts base session.session p x q y [] → Acts scripts base session.session q y r z note
      → option_to_list note ++ [] ≡ notes → Path scripts base session.session p x r z notes
  steps_on p q r x y z note notes path acts is = subst (Path scripts base session.session p x r z) is
      (path_append scripts base session.session p q r x y z [] _ path (paths.goes q r r y z z note [] acts (paths.ends r z)))

  module _ (command : CommandView) (at : command_at scripts (place_in session) ≡ Some command) (Over : Dictionary → Type 0) (leaves : LeavesIt command Over) (actors : List Actor) where
    finds_one : (y : Known) (code : ℕ) → is_of y.0.sessions code ≡ false → Walked actors y → Walked actors (with_code y.0 code, dictionary_after scripts y.1 (place_of scripts code ∷ []))
    finds_one y code other w =
        let st = w.stands in
        let b : Actor = record st.actor { seen = st.actor.seen + 1 } in
        let then : List Actor = slice_set w.then session.session b in
        let long : length (y.0.seen ++ code ∷ []) ≡ length y.0.seen + 1 = length-append y.0.seen (code ∷ []) in
        let next = ending.next scripts base (come y) w.then st command at in
        let fewer : st.actor.seen < length (y.0.seen ++ code ∷ []) = omega (arith, st.seen, long) in
        let grown : b.seen ≡ length (y.0.seen ++ code ∷ []) = omega (arith, st.seen, long) in
        let step = happens.learns session.session st.actor command (record { stands = next.stands; asks_for = next.asks_for }) fewer in record {
          then = then;
          path = steps_on session.pass y.0 (with_code y.0 code) actors w.then then None [] w.path
              (paths.learns y.0 w.then then code (subst (λ (l : List ℕ). is_of l code ≡ false) w.alone other) step) refl;
          alone = w.alone;
          stands = record {
            actor = b;
            is = get_set w.then session.session st.actor b st.is;
            place = st.place;
            seen = grown;
            held = st.held;
            newest = one_learned scripts base y.1 y.0.seen code st.newest;
          };
        }

    passes_one : (y : Known) → Over y.1 → Walked actors y → Walked actors (at_end y.0, y.1)
    passes_one y over w =
        let st = w.stands in
        let left = leaves y.1 over in
        let end = ending.at_end scripts base (come y) w.then st (makes left.0) (at ∙ ap Some left.1) in
        let accepted : accept (happens.seen_by scripts base (known y.0 w.then) st.actor) left.0 ≡ None = ap (λ (d : Dictionary). accept d left.0) (ending.sees scripts base (come y) w.then st) ∙ left.2 in record {
          then = w.then;
          path = steps_on session.pass y.0 (at_end y.0) actors w.then w.then None [] w.path (paths.looks y.0 w.then w.then None (happens.passes_over session.session st.actor left.0 end accepted)) refl;
          alone = w.alone;
          stands = record { actor = st.actor; is = st.is; place = st.place; seen = st.seen; held = st.held; newest = st.newest };
        }

    pub walked : session.pass.sessions ≡ session.session ∷ [] → StandsFor scripts base session actors → (x y : Known) → Walks scripts Over x y → x ≡ (session.pass, session.view) → Walked actors y
    walked alone stands _ _ (walk.rests x) is = subst (Walked actors) (sym is) (record {
      then = actors;
      path = paths.ends session.pass actors;
      alone = alone;
      stands = record { actor = stands.actor; is = stands.is; place = stands.place; seen = stands.seen; held = stands.held; newest = stands.newest };
    })
    walked alone stands _ _ (walk.finds x y code before other) is = finds_one y code other (walked alone stands x y before is)
    walked alone stands _ _ (walk.passes x y before over) is = passes_one y over (walked alone stands x y before is)
