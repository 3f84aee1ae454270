-- Every step keeps a history and its notes legal, and so does every run.
use Rattle.std.proofs.Common.{◌≡◌, ◌==◌, ℕ, ◌+◌, ◌-◌, ◌≤◌, Bool, true, false, cond, List, [], ◌∷◌, ◌++◌, length, map, filter, All, Option, Some, None, refl, ap, sym, subst, ◌∙◌, arith, append-nil, length-append}
use Rattle.std.specs.Option.{option_to_list}
use Rattle.std.proofs.lemmas.List.{length-map, map-append}
use Rattle.std.proofs.lemmas.List.Elements.{All-nil, All-cons}
use Rattle.lg_gram.specs.declared.reply.Place.{Place}
use Rattle.lg_dict.specs.Dictionary.{Dictionary}
use Rattle.lg_edit.specs.Edits.{EditView, accept}
use Rattle.lg_log.specs.Codes.{is_code}
use Rattle.lg_script.specs.Commands.{CommandView, goes_on, makes, asks}
use Rattle.lg_script.specs.EditNumbers.{edit_counts}
use Rattle.lg_script.specs.Histories.{numbered, version_of}
use Rattle.lg_core.specs.declared.event.Event.{Event}
use Rattle.lg_core.specs.declared.note.Note.{Note}
use Rattle.lg_core.specs.declared.note.NoteKind.{NoteKind}
use Rattle.lg_core.specs.declared.note.NoteKind.TheVariants.{Listed, Beyond, Paged, NoListing, Published, Refused, At}
use Rattle.lg_core.specs.declared.state.Actor.{Actor}
use Rattle.lg_core.specs.declared.state.Core.{Core}
use Rattle.lg_core.specs.declared.state.Hold.{Hold}
use Rattle.lg_script.specs.Codes.{place_of, places_of, AreScripts, EditsHavePlaces}
use Rattle.lg_core.specs.Core as core
use Rattle.lg_core.specs.Core.{journal_of, start_of, ended, published, next_place, next_code, note_of, IsNext, IsNextAtEnd, Happens}
use Rattle.lg_core.specs.Lawful as law
use Rattle.lg_core.specs.Lawful.{notes_of, noted, is_published, is_listing, is_paged, is_fresh, Leaves, Says, Runs, EveryRunIsLegal}
use Rattle.lg_core.proofs.Cores.{at_start}
use Rattle.lg_core.proofs.Notes.{all_at, Holds, holds_same, holds_page, holds_new, holds_none, holds_at_start, rises_from}
use Rattle.lg_core.proofs.Legal.{IsReached, HasCome, sees, noted_more, version_more, numbered_push}

module _ (have : EditsHavePlaces) (scripts : List (List CommandView)) (base : Dictionary) (good : AreScripts scripts) where
  -- nothing new is published by a note of another kind
  none_published : (t : ℕ) (n : Note) → is_published n.kind ≡ false → [] ≡ map noted (filter (λ m. is_published m.kind) (notes_of t (n ∷ [])))
  none_published t n plain = go (n.session == t)
    where
      go : (b : Bool) → [] ≡ map noted (filter (λ m. is_published m.kind) (cond b (n ∷ []) []))
      go true = ap (λ c. map noted (cond c (n ∷ []) [])) (sym plain)
      go false = refl

  one_published : (t : ℕ) (n : Note) (p : Place) → p ≡ noted n → is_published n.kind ≡ true → filter (λ q. q.session == t) (p ∷ []) ≡ map noted (filter (λ m. is_published m.kind) (notes_of t (n ∷ [])))
  one_published t n p same yes_ = ap (λ (q : Place). filter (λ r. r.session == t) (q ∷ [])) same ∙ go (n.session == t)
    where
      go : (b : Bool) → cond b (noted n ∷ []) [] ≡ map noted (filter (λ m. is_published m.kind) (cond b (n ∷ []) []))
      go true = ap (λ c. map noted (cond c (n ∷ []) [])) (sym yes_)
      go false = refl

  module _ (state : Core) (notes : List Note) (reached : IsReached scripts base state notes) (s : ℕ) (a : Actor) where
    abbrev own : List Note
    own = notes_of (s + 1) notes

    -- a command ends, and the history stays
    told : (command : CommandView) (v : ℕ) (kind : NoteKind) (held : Option Hold) → IsNext scripts state s a command → is_published kind ≡ false → v ≤ a.seen → (is_fresh kind ≡ true → v ≡ a.seen)
        → Says scripts base (journal_of scripts state) (next_place s a) own command v kind → Holds (own ++ note_of s a v kind ∷ []) held
        → IsReached scripts base (ended state s a held) (notes ++ note_of s a v kind ∷ [])
    told command v kind held next plain seen fresh says holds =
        let come = reached.actors s a next.stands in
        noted_more scripts base state notes reached s a next.stands state.history [] (sym (append-nil state.history)) v kind command (record a { place = a.place + 1; held = held })
        (record {
          codes = All-nil (λ code. is_code (edit_counts scripts) code ≡ true);
          published = λ t. none_published t (note_of s a v kind) plain;
          rise = λ is old le. rises_from kind old v plain (omega (arith, fresh is, le));
          there = omega (arith, come.seen, seen);
          stands = next.asks_for;
          says = says;
        }) refl (omega arith) come.seen seen holds

    -- what was held is held
    told_same : (command : CommandView) (kind : NoteKind) → IsNextAtEnd scripts state s a command → is_published kind ≡ false → is_listing kind ≡ false → is_paged kind ≡ false
        → Says scripts base (journal_of scripts state) (next_place s a) own command a.seen kind
        → IsReached scripts base (ended state s a a.held) (notes ++ note_of s a a.seen kind ∷ [])
    told_same command kind end plain no_listing no_page says =
        told command a.seen kind a.held end.next plain (omega arith) (λ is. refl) says (holds_same own (note_of s a a.seen kind) a.held no_listing no_page (reached.actors s a end.next.stands).held)

    publishes : (edit : EditView) → IsNextAtEnd scripts state s a (makes edit) → accept (version_of scripts base (journal_of scripts state) a.seen) edit ≡ None
        → IsReached scripts base (published state s a (next_code scripts s a)) (notes ++ note_of s a (a.seen + 1) Published ∷ [])
    publishes edit end accepted =
        let come = reached.actors s a end.next.stands in
        let code : ℕ = next_code scripts s a in
        let names = have scripts good s a.place edit end.next.asks_for in
        let long : length (state.history ++ code ∷ []) ≡ length state.history + 1 = length-append state.history (code ∷ []) in
        let p : Place = next_place s a in
        let journal : List Place = journal_of scripts state in
        let same_length : length journal ≡ length state.history = length-map state.history (place_of scripts) in
        let longer : places_of scripts (state.history ++ code ∷ []) ≡ journal ++ p ∷ [] = map-append (place_of scripts) state.history (code ∷ []) ∙ ap (λ (q : Place). journal ++ q ∷ []) names.1 in
        noted_more scripts base state notes reached s a end.next.stands (state.history ++ code ∷ []) (code ∷ []) refl (a.seen + 1) Published (makes edit) (record a { place = a.place + 1; seen = a.seen + 1 })
        (record {
          codes = All-cons (λ c. is_code (edit_counts scripts) c ≡ true) code [] names.0 (All-nil (λ c. is_code (edit_counts scripts) c ≡ true));
          published = λ t. one_published t (note_of s a (a.seen + 1) Published) (place_of scripts code) names.1 refl;
          rise = λ is old le. omega arith;
          there = omega (arith, long, end.has_seen_all);
          stands = end.next.asks_for;
          says = subst (λ (j : List Place). Says scripts base j p own (makes edit) (a.seen + 1) Published) (sym longer) (law.published edit (a.seen + 1) (record {
            stands = stands_last journal p (end.has_seen_all ∙ sym same_length);
            accepted = accepted_before journal p edit (omega (arith, end.has_seen_all, same_length)) accepted;
          }));
        }) refl (omega arith) (omega (arith, long, end.has_seen_all)) (omega arith)
        (holds_same own (note_of s a (a.seen + 1) Published) a.held refl refl come.held)
      where
        stands_last : (journal : List Place) (p : Place) → a.seen ≡ length journal → numbered (journal ++ p ∷ []) (a.seen + 1) ≡ Some p
        stands_last journal p is = rw is (numbered_push journal p)

        accepted_before : (journal : List Place) (p : Place) (edit : EditView) → a.seen ≤ length journal → accept (version_of scripts base journal a.seen) edit ≡ None
            → accept (version_of scripts base (journal ++ p ∷ []) (a.seen + 1 - 1)) edit ≡ None
        accepted_before journal p edit there is =
            let back : a.seen + 1 - 1 ≡ a.seen = omega arith in
            rw back (subst (λ (d : Dictionary). accept d edit ≡ None) (sym (version_more scripts base journal (p ∷ []) a.seen there)) is)

    pages : (hold : Hold) → IsNext scripts state s a goes_on → a.held ≡ Some hold
        → IsReached scripts base (ended state s a (Some (record hold { mores = hold.mores + 1 }))) (notes ++ note_of s a hold.version (Paged hold) ∷ [])
    pages hold next is =
        let come = reached.actors s a next.stands in
        let left : Leaves own hold = subst (Holds own) is come.held in
        let seen : hold.version ≤ a.seen = omega (arith, left.version, all_at (λ n. n.version ≤ a.seen) left.before left.note left.after (subst (All (λ n. n.version ≤ a.seen)) left.parts come.above)) in
        told goes_on hold.version (Paged hold) (Some (record hold { mores = hold.mores + 1 })) next refl seen (λ e. absurd (cc e)) (law.paged hold left)
        (holds_page own (note_of s a hold.version (Paged hold)) hold refl refl left)

    has_none : IsNext scripts state s a goes_on → a.held ≡ None → IsReached scripts base (ended state s a None) (notes ++ note_of s a 0 NoListing ∷ [])
    has_none next is =
        let none : Holds own None = subst (Holds own) is (reached.actors s a next.stands).held in
        told goes_on 0 NoListing None next refl (omega arith) (λ e. absurd (cc e)) (law.no_listing none) (holds_same own (note_of s a 0 NoListing) None refl refl none)

  keeps : (state then : Core) (notes : List Note) (event : Event) (note : Option Note) → IsReached scripts base state notes → Happens scripts base state event then note → IsReached scripts base then (notes ++ option_to_list note)
  keeps state _ notes _ _ reached (core.learns s a command next less) =
      subst (IsReached scripts base (core.with_actor state s (record a { seen = a.seen + 1 }))) (sym (append-nil notes)) (sees scripts base state notes reached s a next.stands (a.seen + 1) (omega arith) (omega (arith, less)))
  keeps state _ notes _ _ reached (core.passes_over s a edit end accepted) = subst (IsReached scripts base state) (sym (append-nil notes)) reached
  keeps state _ notes _ _ reached (core.refuses s a edit cause end refused) = told_same state notes reached s a (makes edit) (Refused cause) end refl refl refl (law.refused edit a.seen cause refused)
  keeps state _ notes _ _ reached (core.tells s a end) = told_same state notes reached s a asks At end refl refl refl (law.version a.seen)
  keeps state _ notes _ _ reached (core.begins s a command text tokens end sentence listed) =
      told state notes reached s a command a.seen Listed (Some (record { version = a.seen; command = a.place + 1; mores = 0 })) end.next refl (omega arith) (λ is. refl) (law.listed command text a.seen tokens sentence listed)
      (holds_new (notes_of (s + 1) notes) (note_of s a a.seen Listed) refl)
  keeps state _ notes _ _ reached (core.is_beyond s a command text bound end sentence passes) =
      told state notes reached s a command a.seen Beyond None end.next refl (omega arith) (λ is. refl) (law.beyond command text a.seen bound sentence passes)
      (holds_none (notes_of (s + 1) notes) (note_of s a a.seen Beyond) refl)
  keeps state _ notes _ _ reached (core.publishes s a edit end accepted) = publishes state notes reached s a edit end accepted
  keeps state _ notes _ _ reached (core.pages s a hold next is) = pages state notes reached s a hold next is
  keeps state _ notes _ _ reached (core.has_none s a next is) = has_none state notes reached s a next is

  none_yet : (sessions : ℕ) → IsReached scripts base (start_of sessions) []
  none_yet sessions = record {
    legal = record {
      codes = All-nil (λ code. is_code (edit_counts scripts) code ≡ true);
      published = λ t. refl;
      there = All-nil (λ n. n.version ≤ 0);
      rise = λ t i j d a b. absurd (omega (arith, b));
      right = λ before n after e. let long : length {A = Note} [] ≡ length (before ++ n ∷ after) = ap length e in absurd (omega (arith, long, length-append before (n ∷ after)));
    };
    actors = λ s a is. subst (HasCome 0 []) (sym (at_start sessions s a is)) (record { place = refl; seen = omega arith; above = All-nil (λ n. n.version ≤ 0); held = holds_at_start });
  }

  reached_by : (state : Core) (notes : List Note) → Runs scripts base state notes → IsReached scripts base state notes
  reached_by _ _ law.start = none_yet (length scripts)
  reached_by _ _ (law.step state then notes event note run happens) = keeps state then notes event note (reached_by state notes run) happens

pub every_run : EditsHavePlaces → EveryRunIsLegal
every_run have scripts base good state notes run = (reached_by have scripts base good state notes run).legal
