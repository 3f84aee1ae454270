-- The path of one session by the lengths of the history: what it does at each, and how the history goes on.
use Rattle.std.proofs.Common.{◌≡◌, ℕ, ◌⊎◌, inl, inr, true, false, List, [], ◌∷◌, ◌++◌, length, Option, Some, None, slice_get, refl, ap, sym, subst, ◌∙◌, append_assoc}
use Rattle.std.specs.List.{list_any}
use Rattle.std.specs.Option.{option_to_list}
use Rattle.std.proofs.lemmas.Bool.{or_parts}
use Rattle.std.proofs.lemmas.Option.{same_Some}
use Rattle.lg_gram.specs.declared.reply.Reply.{Reply}
use Rattle.lg_dict.specs.Dictionary.{Dictionary}
use Rattle.lg_log.specs.Codes.{is_of}
use Rattle.lg_log.specs.Passes.{LogId, Standing, at_start, with_code}
use Rattle.lg_script.specs.Commands.{CommandView}
use Rattle.lg_core.specs.declared.event.Event.TheVariants.{Look, Learn, Publish, More}
use Rattle.lg_core.specs.declared.note.Note.{Note}
use Rattle.lg_core.specs.declared.state.Actor.{Actor}
use Rattle.lg_core.specs.declared.state.Core.{Core}
use Rattle.lg_core.specs.Core.{start_of}
use Rattle.lg_session.specs.Paths as paths
use Rattle.lg_session.specs.Paths.{known, Acts, Path, Tells, Turns, AreTold}
use Rattle.lg_session.proofs.Replayed.{get_set, IsOwn, Moves, Replays, replays}

-- ---- paths one after another

module _ (scripts : List (List CommandView)) (base : Dictionary) (s : ℕ) where
  pub path_append : (p q r : Standing) (x y z : List Actor) (first then : List Note) → Path scripts base s p x q y first → Path scripts base s q y r z then → Path scripts base s p x r z (first ++ then)
  path_append _ _ r _ _ z _ then (paths.ends p x) path = path
  path_append _ _ r _ _ z _ then (paths.goes pass next last actors mid final note notes acts rest) path =
      subst (Path scripts base s pass actors r z) (sym (append_assoc (option_to_list note) notes then))
      (paths.goes pass next r actors mid z note (notes ++ then) acts (path_append next last r mid final z notes then rest path))

  told_push : (replies : List Reply) (notes : List Note) (reply : Reply) (note : Note) → AreTold replies notes → Tells reply note.version note.kind → AreTold (replies ++ reply ∷ []) (notes ++ note ∷ [])
  told_push [] [] reply note told tells = (tells, tt)
  told_push [] (n ∷ ns) reply note told tells = absurd told
  told_push (r ∷ rs) [] reply note told tells = absurd told
  told_push (r ∷ rs) (n ∷ ns) reply note told tells = (told.0, told_push rs ns reply note told.1 tells)

  -- turns are one path
  pub one_path : (log : LogId) (pass : Standing) (actors : List Actor) (replies : List Reply) → Turns scripts base log s pass actors replies
      → (notes : List Note) × Path scripts base s (at_start log (s ∷ [])) (start_of (length scripts)).actors pass actors notes × AreTold replies notes
  one_path log _ _ _ paths.start = ([], paths.ends _ _, tt)
  one_path log _ _ _ (paths.turn pass next actors then replies reply note turns path told) =
      let before = one_path log pass actors replies turns in
      (before.0 ++ note ∷ [], path_append _ pass next _ actors then before.0 (note ∷ []) before.1 path, told_push replies before.0 reply note before.2 told)

-- ---- levels

-- steps while the history stays
pub data Own (scripts : List (List CommandView)) (base : Dictionary) (s : ℕ) (h : List ℕ) : Actor → Actor → List Note → Type 0 where
  rests : (a : Actor) → Own scripts base s h a a []
  moves : (a b c : Actor) (note : Option Note) (notes : List Note) → IsOwn s note → Moves scripts base s h h a b note → Own scripts base s h b c notes
      → Own scripts base s h a c (option_to_list note ++ notes)

module _ (scripts : List (List CommandView)) (base : Dictionary) (s : ℕ) where
  -- The history goes on with a code and then with the rest. Another session wrote it, or this one does; in both cases this one goes on
  -- then by that relation.
  abbrev pub Crosses : (Actor → List Note → Type 0) → List ℕ → Actor → ℕ → List Note → Type 0
  Crosses Then h a c notes = ((is_of (s ∷ []) c ≡ false) × Then a notes)
      ⊎ ((is_of (s ∷ []) c ≡ true) × (b : Actor) × (note : Option Note) × (later : List Note) × IsOwn s note × Moves scripts base s h (h ++ c ∷ []) a b note × (notes ≡ option_to_list note ++ later) × Then b later)

  -- from this history on, which goes on with those codes, the session has these notes to come
  abbrev pub Solo : List ℕ → List ℕ → Actor → List Note → Type 0
  Solo [] h a notes = (b : Actor) × Own scripts base s h a b notes
  Solo (c ∷ rest) h a notes = (b : Actor) × (first : List Note) × (then : List Note) × Own scripts base s h a b first × (notes ≡ first ++ then) × Crosses (Solo rest (h ++ c ∷ [])) h b c then

  one_more : (rest h : List ℕ) (a b : Actor) (note : Option Note) (notes : List Note) → IsOwn s note → Moves scripts base s h h a b note → Solo rest h b notes → Solo rest h a (option_to_list note ++ notes)
  one_more [] h a b note notes own move solo = (solo.0, moves a b solo.0 note notes own move solo.1)
  one_more (c ∷ rest) h a b note notes own move solo =
      (solo.0, option_to_list note ++ solo.1, solo.2, moves a b solo.0 note solo.1 own move solo.3, ap (λ (l : List Note). option_to_list note ++ l) solo.4 ∙ sym (append_assoc (option_to_list note) solo.1 solo.2), solo.5)

  -- the session has ended
  idle : (rest h : List ℕ) (a : Actor) → list_any (is_of (s ∷ [])) rest ≡ false → Solo rest h a []
  idle [] h a none = (a, rests a)
  idle (c ∷ rest) h a none = let parts = or_parts (is_of (s ∷ []) c) (list_any (is_of (s ∷ [])) rest) none in (a, [], [], rests a, refl, inl (parts.0, idle rest (h ++ c ∷ []) a parts.1))

  -- from a standing on, in a history that goes on so
  abbrev pub Goes : List ℕ → Standing → Actor → List Note → Type 0
  Goes whole pass a notes = (rest : List ℕ) × (whole ≡ pass.seen ++ rest) × Solo rest pass.seen a notes

  module _ (whole : List ℕ) (notes : List Note) where
    -- what a step does to the actor that stands there
    module _ (core then : Core) (note : Option Note) (r : Replays scripts base core then s note) (a : Actor) (at : slice_get core.actors s ≡ Some a) where
      pub moves_on : Moves scripts base s core.history then.history a r.after note
      moves_on = subst (λ (z : Actor). Moves scripts base s core.history then.history z r.after note) (same_Some r.before a (sym r.stands ∙ at)) r.moves

      pub stands_then : slice_get then.actors s ≡ Some r.after
      stands_then = ap (λ (l : List Actor). slice_get l s) r.changed ∙ get_set core.actors s a r.after at

    act : (pass next : Standing) (actors then : List Actor) (note : Option Note) → Acts scripts base s pass actors next then note → (a : Actor) → slice_get actors s ≡ Some a
        → ((b : Actor) → slice_get then s ≡ Some b → Goes whole next b notes) → Goes whole pass a (option_to_list note ++ notes)
    act _ _ _ _ _ (paths.learns pass actors then code other step) a at goes =
        let x : Core = known (with_code pass code) actors in
        let y : Core = known (with_code pass code) then in
        let r = replays scripts base x (Learn s) y None step in
        let on = goes r.after (stands_then x y None r a at) in (
          code ∷ on.0,
          on.1 ∙ append_assoc pass.seen (code ∷ []) on.0,
          (a, [], notes, rests a, refl, inl (other, one_more on.0 (pass.seen ++ code ∷ []) a r.after None notes tt (moves_on x y None r a at) on.2)),
        )
    act _ _ _ _ _ (paths.looks pass actors then note step) a at goes =
        let r = replays scripts base (known pass actors) (Look s) (known pass then) note step in
        let on = goes r.after (stands_then (known pass actors) (known pass then) note r a at) in
        (on.0, on.1, one_more on.0 pass.seen a r.after note notes r.own (moves_on (known pass actors) (known pass then) note r a at) on.2)
    act _ _ _ _ _ (paths.publishes pass actors then code note own step) a at goes =
        let y : Core = known (with_code pass code) then in
        let r = replays scripts base (known pass actors) (Publish s) y note step in
        let on = goes r.after (stands_then (known pass actors) y note r a at) in (
          code ∷ on.0,
          on.1 ∙ append_assoc pass.seen (code ∷ []) on.0,
          (a, [], option_to_list note ++ notes, rests a, refl, inr (own, r.after, note, notes, r.own, moves_on (known pass actors) y note r a at, refl, on.2)),
        )
    act _ _ _ _ _ (paths.pages pass actors then note step) a at goes =
        let r = replays scripts base (known pass actors) (More s) (known pass then) note step in
        let on = goes r.after (stands_then (known pass actors) (known pass then) note r a at) in
        (on.0, on.1, one_more on.0 pass.seen a r.after note notes r.own (moves_on (known pass actors) (known pass then) note r a at) on.2)

  pub by_levels : (pass last : Standing) (actors final : List Actor) (notes : List Note) → Path scripts base s pass actors last final notes → (a : Actor) → slice_get actors s ≡ Some a
      → (tail : List ℕ) → list_any (is_of (s ∷ [])) tail ≡ false → Goes (last.seen ++ tail) pass a notes
  by_levels _ _ _ _ _ (paths.ends pass actors) a at tail none = (tail, refl, idle tail pass.seen a none)
  by_levels _ _ _ _ _ (paths.goes pass next last actors then final note notes acts path) a at tail none =
      act (last.seen ++ tail) notes pass next actors then note acts a at (λ b there. by_levels next last then final notes path b there tail none)

  -- from the start on, in the whole history
  pub from_start : (log : LogId) (whole seen : List ℕ) (a : Actor) (notes : List Note) → whole ≡ seen → Goes seen (at_start log (s ∷ [])) a notes → Solo whole [] a notes
  from_start log whole seen a notes same (rest, is, solo) = subst (λ (l : List ℕ). Solo l [] a notes) (sym (same ∙ is)) solo
