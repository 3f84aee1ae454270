-- The step of the core by which a command ends, where an actor stands for the session.
use Rattle.std.proofs.Common.{◌≡◌, ℕ, ◌+◌, List, length, Option, Some, None, slice_get, slice_set, refl, ap, sym, subst, ◌∙◌}
use Rattle.std.proofs.lemmas.List.{length-map}
use Rattle.lg_gram.specs.declared.reply.Place.{Place}
use Rattle.lg_gram.specs.declared.reply.Reply.{Reply}
use Rattle.lg_dict.specs.Dictionary.{Dictionary}
use Rattle.lg_log.specs.Passes.{Standing}
use Rattle.lg_script.specs.Commands.{CommandView}
use Rattle.lg_script.specs.Histories.{command_at, dictionary_after, version_of}
use Rattle.lg_script.specs.Codes.{place_of, places_of}
use Rattle.lg_core.specs.declared.note.NoteKind.{NoteKind}
use Rattle.lg_core.specs.declared.state.Actor.{Actor}
use Rattle.lg_core.specs.declared.state.Core.{Core}
use Rattle.lg_core.specs.declared.state.Hold.{Hold}
use Rattle.lg_core.specs.Core.{ended, note_of, seen_by, IsNext, IsNextAtEnd, Happens}
use Rattle.lg_session.specs.declared.session.Session.{Session}
use Rattle.lg_session.specs.Answering.{ending, EndsWith}
use Rattle.lg_session.specs.Paths.{known, HeldAs, StandsFor, Tells}
use Rattle.lg_session.specs.Turns.{place_in}
use Rattle.lg_session.proofs.Replayed.{get_set}
use Rattle.lg_session.proofs.Versions.{version_newest}

-- what an actor holds for a session
pub nothing_held : {H : Type 0} (held : Option (ℕ × H)) (hold : Option Hold) → HeldAs held hold → held ≡ None → hold ≡ None
nothing_held None None as_ is = refl
nothing_held None (Some h) as_ is = absurd as_
nothing_held (Some x) hold as_ is = absurd (cc is)

pub listing_held : {H : Type 0} (n : ℕ) (held : H) (hold : Option Hold) → HeldAs (Some (n, held)) hold → (h : Hold) × (hold ≡ Some h) × (h.version ≡ n)
listing_held n held None as_ = absurd as_
listing_held n held (Some h) as_ = (h, refl, as_)

module _ {H : Type 0} (scripts : List (List CommandView)) (base : Dictionary) where
  -- an actor stands for each session that is the same
  pub stands_same : (x y : Session H) (actors : List Actor) → y.session ≡ x.session → y.place ≡ x.place → y.pass ≡ x.pass → y.view ≡ x.view → y.held ≡ x.held
      → StandsFor scripts base x actors → StandsFor scripts base y actors
  stands_same x y actors session place pass view held stands = record {
    actor = stands.actor;
    is = ap (slice_get actors) session ∙ stands.is;
    place = stands.place ∙ sym place;
    seen = stands.seen ∙ ap (λ (p : Standing). length p.seen) (sym pass);
    held = subst (λ (h : Option (ℕ × H)). HeldAs h stands.actor.held) (sym held) stands.held;
    newest = view ∙ stands.newest ∙ ap (λ (p : Standing). dictionary_after scripts base (places_of scripts p.seen)) (sym pass);
  }

  module _ (session : Session H) (actors : List Actor) (stands : StandsFor scripts base session actors) where
    abbrev here : Core
    here = known session.pass actors

    abbrev a : Actor
    a = stands.actor

    pub next : (command : CommandView) → command_at scripts (place_in session) ≡ Some command → IsNext scripts here session.session a command
    next command at = record {
      stands = stands.is;
      asks_for = subst (λ (k : ℕ). command_at scripts (record { session = session.session + 1; command = k + 1 }) ≡ Some command) (sym stands.place) at;
    }

    pub at_end : (command : CommandView) → command_at scripts (place_in session) ≡ Some command → IsNextAtEnd scripts here session.session a command
    at_end command at = record { next = next command at; has_seen_all = stands.seen }

    -- the session's dictionary is that of the version that was seen
    pub sees : seen_by scripts base here a ≡ session.view
    sees =
        let journal : List Place = places_of scripts session.pass.seen in
        ap (version_of scripts base journal) (stands.seen ∙ sym (length-map session.pass.seen (place_of scripts))) ∙ version_newest scripts base journal ∙ sym stands.newest

    pub ends_with : (command : CommandView) (held : Option (ℕ × H)) (hold : Option Hold) (version : ℕ) (kind : NoteKind) (reply : Reply)
        → Happens scripts base here (ending command session.session) (ended here session.session a hold) (Some (note_of session.session a version kind))
        → Tells reply version kind → HeldAs held hold → EndsWith scripts base session command actors (record session { held = held }, reply)
    ends_with command held hold version kind reply happens told as_ =
        let b : Actor = record a { place = a.place + 1; held = hold } in record {
          then = slice_set actors session.session b;
          note = note_of session.session a version kind;
          happens = happens;
          told = told;
          stands = record {
            actor = b;
            is = get_set actors session.session a b stands.is;
            place = ap (λ (k : ℕ). k + 1) stands.place;
            seen = stands.seen;
            held = as_;
            newest = stands.newest;
          };
        }
