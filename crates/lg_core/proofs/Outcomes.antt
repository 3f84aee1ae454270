-- What each event comes to: the steps, read backwards.
use Rattle.std.proofs.Common.{◌≡◌, ℕ, ◌+◌, ◌<◌, List, length, Option, Some, None, refl, ap, sym, subst, ◌∙◌}
use Rattle.std.proofs.lemmas.Option.{none-some, same_Some}
use Rattle.lg_gram.specs.declared.edit.EditRefusal.{EditRefusal}
use Rattle.lg_gram.specs.declared.listing.Bound.{Bound}
use Rattle.lg_gram.specs.declared.listing.Token.{Token}
use Rattle.lg_dict.specs.Dictionary.{Dictionary}
use Rattle.lg_edit.specs.Edits.{EditView, accept}
use Rattle.lg_token.specs.Tokens.{AreTokens}
use Rattle.lg_token.specs.Bounds.{bound_of}
use Rattle.lg_script.specs.declared.command.Command.{Command}
use Rattle.lg_script.specs.declared.command.Command.TheVariants as commands
use Rattle.lg_script.specs.Commands.{CommandView, command_view, parses, lists, goes_on, makes, asks}
use Rattle.lg_script.specs.Histories.{command_at, version_of}
use Rattle.lg_core.specs.declared.event.Event.{Event}
use Rattle.lg_core.specs.declared.event.Event.TheVariants.{Look, Learn, Publish, More}
use Rattle.lg_core.specs.declared.look.Looked.{Looked}
use Rattle.lg_core.specs.declared.look.Looked.TheVariants as looks
use Rattle.lg_core.specs.declared.note.Note.{Note}
use Rattle.lg_core.specs.declared.note.NoteKind.TheVariants.{Listed, Beyond, Paged, NoListing, Published, Refused, At}
use Rattle.lg_core.specs.declared.state.Actor.{Actor}
use Rattle.lg_core.specs.declared.state.Core.{Core}
use Rattle.lg_core.specs.declared.state.Hold.{Hold}
use Rattle.lg_core.specs.Core as happens
use Rattle.lg_core.specs.Core.{journal_of, with_actor, ended, published, next_place, next_code, note_of, seen_by, sentence_of, IsNext, IsNextAtEnd, Happens, StepsAreDetermined}
use Rattle.lg_core.specs.Steps.{HasNoNext, held_after, HasBound, kind_by, looked_by, LooksSo, newest_of}

-- a text has one list of tokens
abbrev pub OneList : Type 0
OneList = (dict : Dictionary) (text : List ℕ) (tokens others : List Token) → AreTokens dict text tokens → AreTokens dict text others → tokens ≡ others

module _ (dict : Dictionary) where
  looks_at_text : (command : CommandView) (text : List ℕ) (bound : Option Bound) → sentence_of command ≡ Some text → HasBound dict text bound → LooksSo dict command (looks.Ends (kind_by bound))
  looks_at_text (parses t) text bound is has = (bound, subst (λ l. HasBound dict l bound) (sym (same_Some t text is)) has, refl)
  looks_at_text (lists first want t) text bound is has = (bound, subst (λ l. HasBound dict l bound) (sym (same_Some t text is)) has, refl)
  looks_at_text goes_on text bound is has = absurd (none-some text is)
  looks_at_text (makes edit) text bound is has = absurd (none-some text is)
  looks_at_text asks text bound is has = absurd (none-some text is)

  module _ (one : OneList) where
    bound_once : (text : List ℕ) (x y : Option Bound) → HasBound dict text x → HasBound dict text y → x ≡ y
    bound_once text x y h k = sym h.2 ∙ ap (bound_of dict) (one dict text h.0 k.0 h.1 k.1) ∙ k.2

    kinds_once : (text : List ℕ) (x y : Looked) → (b : Option Bound) × HasBound dict text b × (x ≡ looks.Ends (kind_by b)) → (b : Option Bound) × HasBound dict text b × (y ≡ looks.Ends (kind_by b)) → x ≡ y
    kinds_once text x y h k = h.2 ∙ ap (λ (b : Option Bound). looks.Ends (kind_by b)) (bound_once text h.0 k.0 h.1 k.1) ∙ sym k.2

    looks_once : (command : CommandView) (x y : Looked) → LooksSo dict command x → LooksSo dict command y → x ≡ y
    looks_once (parses text) x y h k = kinds_once text x y h k
    looks_once (lists first want text) x y h k = kinds_once text x y h k
    looks_once goes_on x y h k = h ∙ sym k
    looks_once (makes edit) x y h k = h ∙ sym k
    looks_once asks x y h k = h ∙ sym k

  -- only `more` does not look
  waits : Looked → Type 0
  waits looks.Waits = Unit {0}
  waits looks.Accepted = ⊥
  waits (looks.Ends kind) = ⊥

  accepts : Looked → Type 0
  accepts looks.Waits = ⊥
  accepts looks.Accepted = Unit {0}
  accepts (looks.Ends kind) = ⊥

  looked_waits : (o : Option EditRefusal) → looks.Waits ≡ looked_by o → ⊥
  unfolding waits
  looked_waits None is = subst waits is tt
  looked_waits (Some cause) is = subst waits is tt

  pub waits_for_more : (command : CommandView) → LooksSo dict command looks.Waits → command ≡ goes_on
  unfolding waits
  waits_for_more (parses text) h = absurd (subst waits h.2 tt)
  waits_for_more (lists first want text) h = absurd (subst waits h.2 tt)
  waits_for_more goes_on h = refl
  waits_for_more (makes edit) h = absurd (looked_waits (accept dict edit) h)
  waits_for_more asks h = absurd (subst waits h tt)

  looked_accepted : (o : Option EditRefusal) → looks.Accepted ≡ looked_by o → o ≡ None
  unfolding accepts
  looked_accepted None is = refl
  looked_accepted (Some cause) is = absurd (subst accepts is tt)

  -- an edit alone is accepted
  pub accepted_edit : (command : CommandView) → LooksSo dict command looks.Accepted → (edit : EditView) × (command ≡ makes edit) × (accept dict edit ≡ None)
  unfolding accepts
  accepted_edit (parses text) h = absurd (subst accepts h.2 tt)
  accepted_edit (lists first want text) h = absurd (subst accepts h.2 tt)
  accepted_edit goes_on h = absurd (subst accepts h tt)
  accepted_edit (makes edit) h = (edit, refl, looked_accepted (accept dict edit) h)
  accepted_edit asks h = absurd (subst accepts h tt)

edit_in : EditView → CommandView → EditView
edit_in other (makes edit) = edit
edit_in other command = other

pub same_edit : (one other : EditView) → makes one ≡ makes other → one ≡ other
unfolding edit_in
same_edit one other is = ap (edit_in one) is

module _ (scripts : List (List CommandView)) (base : Dictionary) (core : Core) where
  -- after a look
  abbrev pub ComesTo : ℕ → Actor → Looked → Core → Option Note → Type 0
  ComesTo s a looks.Waits then told = ⊥
  ComesTo s a looks.Accepted then told = (then ≡ core) × (told ≡ None)
  ComesTo s a (looks.Ends kind) then told = (then ≡ ended core s a (held_after a kind)) × (told ≡ Some (note_of s a a.seen kind))

  -- after `more`
  abbrev pub PagesTo : ℕ → Actor → Option Hold → Core → Option Note → Type 0
  PagesTo s a None then told = (then ≡ ended core s a None) × (told ≡ Some (note_of s a 0 NoListing))
  PagesTo s a (Some hold) then told = (then ≡ ended core s a (Some (record hold { mores = hold.mores + 1 }))) × (told ≡ Some (note_of s a hold.version (Paged hold)))

  abbrev pub Gives : Event → Core → Option Note → Type 0
  Gives (Look s) then told = (a : Actor) × (command : CommandView) × (looked : Looked) × IsNextAtEnd scripts core s a command × LooksSo (seen_by scripts base core a) command looked × ComesTo s a looked then told
  Gives (Learn s) then told = (a : Actor) × (command : CommandView) × IsNext scripts core s a command × (a.seen < length core.history) × (then ≡ with_actor core s (record a { seen = a.seen + 1 })) × (told ≡ None)
  Gives (Publish s) then told = (a : Actor) × (edit : EditView) × IsNextAtEnd scripts core s a (makes edit) × (accept (seen_by scripts base core a) edit ≡ None) × (then ≡ published core s a (next_code scripts s a)) × (told ≡ Some (note_of s a (a.seen + 1) Published))
  Gives (More s) then told = (a : Actor) × IsNext scripts core s a goes_on × PagesTo s a a.held then told

  pub gives : (event : Event) (then : Core) (told : Option Note) → Happens scripts base core event then told → Gives event then told
  gives _ _ _ (happens.learns s a command next less) = (a, command, next, less, refl, refl)
  gives _ _ _ (happens.passes_over s a edit end accepted) = (a, makes edit, looks.Accepted, end, sym (ap looked_by accepted), (refl, refl))
  gives _ _ _ (happens.refuses s a edit cause end refused) = (a, makes edit, looks.Ends (Refused cause), end, sym (ap looked_by refused), (refl, refl))
  gives _ _ _ (happens.tells s a end) = (a, asks, looks.Ends At, end, refl, (refl, refl))
  gives _ _ _ (happens.begins s a command text tokens end sentence listed) =
      (a, command, looks.Ends Listed, end, looks_at_text (seen_by scripts base core a) command text None sentence (tokens, listed.of_text, listed.unbound), (refl, refl))
  gives _ _ _ (happens.is_beyond s a command text bound end sentence passes) =
      (a, command, looks.Ends Beyond, end, looks_at_text (seen_by scripts base core a) command text (Some bound) sentence (passes.tokens, passes.of_text, passes.is_bound), (refl, refl))
  gives _ _ _ (happens.publishes s a edit end accepted) = (a, edit, end, accepted, refl, refl)
  gives _ _ _ (happens.pages s a hold next is) = (a, next, subst (λ h. PagesTo s a h (ended core s a (Some (record hold { mores = hold.mores + 1 }))) (Some (note_of s a hold.version (Paged hold)))) (sym is) (refl, refl))
  gives _ _ _ (happens.has_none s a next is) = (a, next, subst (λ h. PagesTo s a h (ended core s a None) (Some (note_of s a 0 NoListing))) (sym is) (refl, refl))

  -- ---- one outcome

  pub same_actor : (s : ℕ) (a b : Actor) (c d : CommandView) → IsNext scripts core s a c → IsNext scripts core s b d → a ≡ b
  same_actor s a b c d h k = same_Some a b (sym h.stands ∙ k.stands)

  pub same_command : (s : ℕ) (a b : Actor) (c d : CommandView) → IsNext scripts core s a c → IsNext scripts core s b d → c ≡ d
  same_command s a b c d h k = same_Some c d (sym h.asks_for ∙ ap (λ (z : Actor). command_at scripts (next_place s z)) (same_actor s a b c d h k) ∙ k.asks_for)

  comes_once : (s : ℕ) (a : Actor) (looked : Looked) (one other : Core) (told another : Option Note) → ComesTo s a looked one told → ComesTo s a looked other another → (one ≡ other) × (told ≡ another)
  comes_once s a looks.Waits one other told another h k = absurd h
  comes_once s a looks.Accepted one other told another h k = (h.0 ∙ sym k.0, h.1 ∙ sym k.1)
  comes_once s a (looks.Ends kind) one other told another h k = (h.0 ∙ sym k.0, h.1 ∙ sym k.1)

  pages_once : (s : ℕ) (a : Actor) (held : Option Hold) (one other : Core) (told another : Option Note) → PagesTo s a held one told → PagesTo s a held other another → (one ≡ other) × (told ≡ another)
  pages_once s a None one other told another h k = (h.0 ∙ sym k.0, h.1 ∙ sym k.1)
  pages_once s a (Some hold) one other told another h k = (h.0 ∙ sym k.0, h.1 ∙ sym k.1)

  determined : OneList → (event : Event) (one other : Core) (told another : Option Note) → Gives event one told → Gives event other another → (one ≡ other) × (told ≡ another)
  determined one_list (Look s) one other told another h k =
      let same = same_actor s h.0 k.0 h.1 k.1 h.3.next k.3.next in
      let command = same_command s h.0 k.0 h.1 k.1 h.3.next k.3.next in
      let looks_so : LooksSo (seen_by scripts base core h.0) h.1 k.2 = subst (λ (z : Actor × CommandView). LooksSo (seen_by scripts base core z.0) z.1 k.2) (λ i. (sym same i, sym command i)) k.4 in
      let looked : h.2 ≡ k.2 = looks_once (seen_by scripts base core h.0) one_list h.1 h.2 k.2 h.4 looks_so in
      comes_once s h.0 h.2 one other told another h.5 (subst (λ (z : Actor × Looked). ComesTo s z.0 z.1 other another) (λ i. (sym same i, sym looked i)) k.5)
  determined one_list (Learn s) one other told another h k =
      (h.4 ∙ ap (λ (z : Actor). with_actor core s (record z { seen = z.seen + 1 })) (same_actor s h.0 k.0 h.1 k.1 h.2 k.2) ∙ sym k.4, h.5 ∙ sym k.5)
  determined one_list (Publish s) one other told another h k =
      let same = same_actor s h.0 k.0 (makes h.1) (makes k.1) h.2.next k.2.next in
      (h.4 ∙ ap (λ (z : Actor). published core s z (next_code scripts s z)) same ∙ sym k.4, h.5 ∙ ap (λ (z : Actor). Some (note_of s z (z.seen + 1) Published)) same ∙ sym k.5)
  determined one_list (More s) one other told another h k =
      let same = same_actor s h.0 k.0 goes_on goes_on h.1 k.1 in
      pages_once s h.0 h.0.held one other told another h.2 (subst (λ (z : Actor). PagesTo s z z.held other another) (sym same) k.2)

  -- ---- what happens after a look

  pub as_it_is : (event : Event) (then there : Core) (told here : Option Note) → (then ≡ there) × (told ≡ here) → Happens scripts base core event there here → Happens scripts base core event then told
  as_it_is event then there told here same h = subst (λ (z : Core × Option Note). Happens scripts base core event z.0 z.1) (λ i. (sym same.0 i, sym same.1 i)) h

  module _ (s : ℕ) (a : Actor) (then : Core) (told : Option Note) where
    at_text : (command : CommandView) (text : List ℕ) (bound : Option Bound) → IsNextAtEnd scripts core s a command → sentence_of command ≡ Some text → HasBound (seen_by scripts base core a) text bound
        → ComesTo s a (looks.Ends (kind_by bound)) then told → Happens scripts base core (Look s) then told
    at_text command text None end sentence has comes = as_it_is (Look s) then _ told _ comes (happens.begins s a command text has.0 end sentence (record { of_text = has.1; unbound = has.2 }))
    at_text command text (Some bound) end sentence has comes = as_it_is (Look s) then _ told _ comes (happens.is_beyond s a command text bound end sentence (record { tokens = has.0; of_text = has.1; is_bound = has.2 }))

    at_edit : (edit : EditView) (o : Option EditRefusal) → accept (seen_by scripts base core a) edit ≡ o → IsNextAtEnd scripts core s a (makes edit) → ComesTo s a (looked_by o) then told → Happens scripts base core (Look s) then told
    at_edit edit None accepted end comes = as_it_is (Look s) then core told None comes (happens.passes_over s a edit end accepted)
    at_edit edit (Some cause) refused end comes = as_it_is (Look s) then _ told _ comes (happens.refuses s a edit cause end refused)

    pub look_happens : (command : CommandView) (looked : Looked) → IsNextAtEnd scripts core s a command → LooksSo (seen_by scripts base core a) command looked → ComesTo s a looked then told
        → Happens scripts base core (Look s) then told
    look_happens (parses text) looked end so comes = at_text (parses text) text so.0 end refl so.1 (subst (λ l. ComesTo s a l then told) so.2 comes)
    look_happens (lists first want text) looked end so comes = at_text (lists first want text) text so.0 end refl so.1 (subst (λ l. ComesTo s a l then told) so.2 comes)
    look_happens goes_on looked end so comes = absurd (subst (λ l. ComesTo s a l then told) so comes)
    look_happens (makes edit) looked end so comes = at_edit edit (accept (seen_by scripts base core a) edit) refl end (subst (λ l. ComesTo s a l then told) so comes)
    look_happens asks looked end so comes = as_it_is (Look s) then _ told _ (subst (λ l. ComesTo s a l then told) so comes) (happens.tells s a end)

  -- ---- what cannot happen

  abbrev pub Cannot : Event → Type 0
  Cannot event = (then : Core) (told : Option Note) → Happens scripts base core event then told → ⊥

  pub no_more : (s : ℕ) → HasNoNext scripts core s → Cannot (More s)
  no_more s none then told h = let g = gives (More s) then told h in none g.0 goes_on g.1

  module _ (s : ℕ) (a : Actor) (command : CommandView) where
    pub waits_for : IsNextAtEnd scripts core s a command → LooksSo (seen_by scripts base core a) command looks.Waits → Cannot (Look s)
    waits_for end so then told h =
        let g = gives (Look s) then told h in
        let is : g.1 ≡ goes_on = same_command s g.0 a g.1 command g.3.next end.next ∙ waits_for_more (seen_by scripts base core a) command so in
        let looked : g.2 ≡ looks.Waits = subst (λ c. LooksSo (seen_by scripts base core g.0) c g.2) is g.4 in
        subst (λ l. ComesTo s g.0 l then told) looked g.5

    pub no_goes_on : IsNext scripts core s a command → (command ≡ goes_on → ⊥) → Cannot (More s)
    no_goes_on next other then told h = let g = gives (More s) then told h in other (same_command s a g.0 command goes_on next g.1)

  -- the dictionary that was seen is the newest
  pub looks_seen : (s : ℕ) (a : Actor) (command : CommandView) (looked : Looked) → IsNextAtEnd scripts core s a command → LooksSo (newest_of scripts base core) command looked → LooksSo (seen_by scripts base core a) command looked
  looks_seen s a command looked end so = subst (λ (n : ℕ). LooksSo (version_of scripts base (journal_of scripts core) n) command looked) (sym end.has_seen_all) so

  pub not_accepted : (s : ℕ) (a : Actor) (command : CommandView) (looked : Looked) → IsNextAtEnd scripts core s a command → LooksSo (newest_of scripts base core) command looked → (looked ≡ looks.Accepted → ⊥) → Cannot (Publish s)
  not_accepted s a command looked end so other then told h =
      let g = gives (Publish s) then told h in
      let same = same_actor s a g.0 command (makes g.1) end.next g.2.next in
      let edits : command ≡ makes g.1 = same_command s a g.0 command (makes g.1) end.next g.2.next in
      let looks_so : LooksSo (seen_by scripts base core g.0) (makes g.1) looked = subst (λ (z : Actor × CommandView). LooksSo (seen_by scripts base core z.0) z.1 looked) (λ i. (same i, edits i)) (looks_seen s a command looked end so) in
      other (looks_so ∙ ap looked_by g.3)

pub are_determined : OneList → StepsAreDetermined
are_determined one_list scripts base core one other event told another h k =
    determined scripts base core one_list event one other told another (gives scripts base core event one told h) (gives scripts base core event other another k)

-- ---- commands by their views

pub view_more : (command : Command) → command_view command ≡ goes_on → command ≡ commands.More
view_more (commands.Parse text) is = absurd (cc is)
view_more (commands.List first want text) is = absurd (cc is)
view_more commands.More is = refl
view_more (commands.Edit edit) is = absurd (cc is)
view_more commands.Version is = absurd (cc is)
