-- What a step makes of a legal history and its notes.
use Rattle.std.proofs.Common.{◌≡◌, ◌≢◌, ◌==◌, ℕ, zero, suc, ◌+◌, ◌-◌, ◌≤◌, ◌⊎◌, inl, inr, ⊎_elim, Bool, true, false, cond, List, [], ◌∷◌, ◌++◌, length, map, filter, All, AllPairs, Some, None, slice_get, slice_set, refl, ap, ap₂, sym, subst, ◌∙◌, arith, append-nil, length-append, add-one}
use Rattle.std.proofs.lemmas.List.{take-append-le, length-map, map-append}
use Rattle.std.proofs.lemmas.List.Elements.{filter-append, All-push, All-append, All-weaker, All-filter}
use Rattle.std.proofs.lemmas.Bool.{cases_eq}
use Rattle.std.proofs.lemmas.Option.{none-some}
use Rattle.lg_gram.specs.declared.reply.Place.{Place}
use Rattle.lg_dict.specs.Dictionary.{Dictionary}
use Rattle.lg_edit.specs.Edits.{accept}
use Rattle.lg_log.specs.Codes.{is_code}
use Rattle.lg_token.specs.Bounds.{AreListed, IsBeyond}
use Rattle.lg_script.specs.Commands.{CommandView}
use Rattle.lg_script.specs.EditNumbers.{edit_counts}
use Rattle.lg_script.specs.Histories.{numbered, command_at, dictionary_after, version_of}
use Rattle.lg_core.specs.declared.note.Note.{Note}
use Rattle.lg_core.specs.declared.note.NoteKind.{NoteKind}
use Rattle.lg_core.specs.declared.state.Actor.{Actor}
use Rattle.lg_core.specs.declared.state.Core.{Core}
use Rattle.lg_script.specs.Codes.{place_of, places_of}
use Rattle.lg_core.specs.Core.{journal_of, with_actor, next_place, note_of}
use Rattle.lg_core.specs.Lawful as law
use Rattle.lg_core.specs.Lawful.{notes_of, noted, is_published, is_fresh, rises, Precedes, Says, IsRight, IsLegalCore}
use Rattle.lg_core.proofs.Notes.{split_last, all_at, pairs_push, own_more, others_same, Holds}

-- ---- versions as the history grows

pub version_more : (scripts : List (List CommandView)) (base : Dictionary) (journal more : List Place) (n : ℕ) → n ≤ length journal
    → version_of scripts base (journal ++ more) n ≡ version_of scripts base journal n
version_more scripts base journal more n there = ap (dictionary_after scripts base) (take-append-le n journal more there)

numbered_more : {A : Type 0} → (xs more : List A) (n : ℕ) (x : A) → numbered xs n ≡ Some x → numbered (xs ++ more) n ≡ Some x
numbered_more xs more zero x is = is
numbered_more [] more (suc n) x is = absurd (none-some x is)
numbered_more (y ∷ ys) more (suc zero) x is = is
numbered_more (y ∷ ys) more (suc (suc n)) x is = numbered_more ys more (suc n) x is

last : {A : Type 0} → (xs : List A) (x : A) → numbered (xs ++ x ∷ []) (suc (length xs)) ≡ Some x
last [] x = refl
last (y ∷ ys) x = last ys x

pub numbered_push : {A : Type 0} → (xs : List A) (x : A) → numbered (xs ++ x ∷ []) (length xs + 1) ≡ Some x
numbered_push xs x = rw add-one (last xs x)

module _ (scripts : List (List CommandView)) (base : Dictionary) (journal more : List Place) where
  kept : (n : ℕ) (P : Dictionary → Type 0) → n ≤ length journal → P (version_of scripts base journal n) → P (version_of scripts base (journal ++ more) n)
  kept n P there holds = subst P (sym (version_more scripts base journal more n there)) holds

  -- what a note says stays right
  says_more : (p : Place) (earlier : List Note) (command : CommandView) (version : ℕ) (kind : NoteKind) → Says scripts base journal p earlier command version kind → version ≤ length journal
      → Says scripts base (journal ++ more) p earlier command version kind
  says_more p earlier _ _ _ (law.published edit n is) there = law.published edit n (record {
    stands = numbered_more journal more n p is.stands;
    accepted = kept (n - 1) (λ dict. accept dict edit ≡ None) (omega arith) is.accepted;
  })
  says_more p earlier _ _ _ (law.refused edit n cause is) there = law.refused edit n cause (kept n (λ dict. accept dict edit ≡ Some cause) there is)
  says_more p earlier _ _ _ (law.version n) there = law.version n
  says_more p earlier _ _ _ (law.listed command text n tokens sentence is) there = law.listed command text n tokens sentence (kept n (λ dict. AreListed dict text tokens) there is)
  says_more p earlier _ _ _ (law.beyond command text n bound sentence is) there = law.beyond command text n bound sentence (kept n (λ dict. IsBeyond dict text bound) there is)
  says_more p earlier _ _ _ (law.paged hold left) there = law.paged hold left
  says_more p earlier _ _ _ (law.no_listing none) there = law.no_listing none

  right_more : (earlier : List Note) (n : Note) → n.version ≤ length journal → IsRight scripts base journal earlier n → IsRight scripts base (journal ++ more) earlier n
  right_more earlier n there right = record { in_order = right.in_order; command = right.command; stands = right.stands; says = says_more (noted n) earlier right.command n.version n.kind right.says there }

-- ---- what a session has seen and holds

-- by the length of the history and the session's notes
pub record HasCome (long : ℕ) (own : List Note) (actor : Actor) : Type 0 where
  pub place : actor.place ≡ length own
  pub seen : actor.seen ≤ long
  pub above : All (λ n. n.version ≤ actor.seen) own
  pub held : Holds own actor.held

-- a legal state, with what each session has seen and holds
pub record IsReached (scripts : List (List CommandView)) (base : Dictionary) (core : Core) (notes : List Note) : Type 0 where
  pub legal : IsLegalCore scripts base core notes
  pub actors : (s : ℕ) (a : Actor) → slice_get core.actors s ≡ Some a → HasCome (length core.history) (notes_of (s + 1) notes) a

pub got_set : (l : List Actor) (i j : ℕ) (a b : Actor) → slice_get (slice_set l i a) j ≡ Some b → ((j ≡ i) × (a ≡ b)) ⊎ ((j ≢ i) × (slice_get l j ≡ Some b))
got_set [] i j a b e = absurd (none-some b e)
got_set (x ∷ xs) zero zero a b e = inl (refl, cc e)
got_set (x ∷ xs) zero (suc j) a b e = inr ((λ h. omega arith), e)
got_set (x ∷ xs) (suc i) zero a b e = inr ((λ h. omega arith), e)
got_set (x ∷ xs) (suc i) (suc j) a b e = ⊎_elim (λ t. inl (ap suc t.0, t.1)) (λ t. let n = t.0 in inr ((λ h. n (omega arith)), t.1)) (got_set xs i j a b e)

-- where one actor changes, the others stay
pub actors_set : (P : ℕ → Actor → Type 0) (actors : List Actor) (s : ℕ) (b : Actor) → P s b → ((t : ℕ) (c : Actor) → t ≢ s → slice_get actors t ≡ Some c → P t c)
    → (t : ℕ) (c : Actor) → slice_get (slice_set actors s b) t ≡ Some c → P t c
actors_set P actors s b mine others t c at = ⊎_elim
    (λ (e : (t ≡ s) × (b ≡ c)). subst (λ (z : ℕ × Actor). P z.0 z.1) (λ i. (sym e.0 i, e.1 i)) mine)
    (λ (e : (t ≢ s) × (slice_get actors t ≡ Some c)). others t c e.0 e.1)
    (got_set actors s t b c at)

module _ (scripts : List (List CommandView)) (base : Dictionary) (core : Core) (notes : List Note) (reached : IsReached scripts base core notes) (s : ℕ) (a : Actor) (at : slice_get core.actors s ≡ Some a) where
  abbrev own : List Note
  own = notes_of (s + 1) notes

  -- the session has seen more, and no command ended
  pub sees : (seen : ℕ) → a.seen ≤ seen → seen ≤ length core.history → IsReached scripts base (with_actor core s (record a { seen = seen })) notes
  sees seen more there =
      let mine = reached.actors s a at in
      let legal = reached.legal in record {
        legal = record { codes = legal.codes; published = legal.published; there = legal.there; rise = legal.rise; right = legal.right };
        actors = actors_set (λ t c. HasCome (length core.history) (notes_of (t + 1) notes) c) core.actors s (record a { seen = seen })
            (record { place = mine.place; seen = there; above = All-weaker (λ (n : Note). n.version ≤ a.seen) (λ (n : Note). n.version ≤ seen) (λ n h. omega (arith, h, more)) own mine.above; held = mine.held })
            (λ t c apart. reached.actors t c);
      }

come_later : (long longer : ℕ) (own : List Note) (a : Actor) → long ≤ longer → HasCome long own a → HasCome longer own a
come_later long longer own a more come = record { place = come.place; seen = omega (arith, come.seen, more); above = come.above; held = come.held }

-- A command ends with a note, and the history goes on with some codes.
module _ (scripts : List (List CommandView)) (base : Dictionary) (core : Core) (notes : List Note) (reached : IsReached scripts base core notes) (s : ℕ) (a : Actor) (at : slice_get core.actors s ≡ Some a)
    (history more : List ℕ) (goes : history ≡ core.history ++ more) (v : ℕ) (kind : NoteKind) where
  abbrev here : List Note
  here = notes_of (s + 1) notes

  abbrev n : Note
  n = note_of s a v kind

  -- the note answers the next command, and the codes are those that it published
  pub record IsNote (command : CommandView) : Type 0 where
    pub codes : All (λ code. is_code (edit_counts scripts) code ≡ true) more
    pub published : (t : ℕ) → filter (λ p. p.session == t) (places_of scripts more) ≡ map noted (filter (λ m. is_published m.kind) (notes_of t (n ∷ [])))
    pub rise : is_fresh kind ≡ true → (old : ℕ) → old ≤ a.seen → rises kind old v
    pub there : v ≤ length history
    pub stands : command_at scripts (next_place s a) ≡ Some command
    pub says : Says scripts base (places_of scripts history) (next_place s a) here command v kind

  journal_more : places_of scripts history ≡ journal_of scripts core ++ places_of scripts more
  journal_more = ap (places_of scripts) goes ∙ map-append (place_of scripts) core.history more

  history_more : length history ≡ length core.history + length more
  history_more = ap length goes ∙ length-append core.history more

  published_more : (t : ℕ) → filter (λ p. p.session == t) (places_of scripts more) ≡ map noted (filter (λ m. is_published m.kind) (notes_of t (n ∷ [])))
      → filter (λ p. p.session == t) (places_of scripts history) ≡ map noted (filter (λ m. is_published m.kind) (notes_of t (notes ++ n ∷ [])))
  published_more t new =
      let old = reached.legal.published t in
      let kept_notes : List Note = notes_of t notes in
      let one : List Note = notes_of t (n ∷ []) in
      let left : filter (λ p. p.session == t) (places_of scripts history) ≡ filter (λ p. p.session == t) (journal_of scripts core) ++ filter (λ p. p.session == t) (places_of scripts more) =
      ap (filter (λ p. p.session == t)) journal_more ∙ filter-append (λ p. p.session == t) (journal_of scripts core) (places_of scripts more) in
      let right : filter (λ m. is_published m.kind) (notes_of t (notes ++ n ∷ [])) ≡ filter (λ m. is_published m.kind) kept_notes ++ filter (λ m. is_published m.kind) one =
      ap (filter (λ m. is_published m.kind)) (filter-append (λ m. m.session == t) notes (n ∷ [])) ∙ filter-append (λ m. is_published m.kind) kept_notes one in
      left ∙ ap₂ (λ (x y : List Place). x ++ y) old new ∙ sym (ap (map noted) right ∙ map-append noted (filter (λ m. is_published m.kind) kept_notes) (filter (λ m. is_published m.kind) one))

  rise_own : (is_fresh kind ≡ true → (old : ℕ) → old ≤ a.seen → rises kind old v) → (b : Bool) → is_fresh kind ≡ b → AllPairs Precedes (filter (λ m. is_fresh m.kind) here ++ cond b (n ∷ []) [])
  rise_own rise true fresh =
      pairs_push Precedes (filter (λ m. is_fresh m.kind) here) n (reached.legal.rise (s + 1))
      (All-filter (λ m. is_fresh m.kind) (λ m. Precedes m n) here (All-weaker (λ m. m.version ≤ a.seen) (λ m. Precedes m n) (λ m h. rise fresh m.version h) here (reached.actors s a at).above))
  rise_own rise false fresh = subst (AllPairs Precedes) (sym (append-nil (filter (λ m. is_fresh m.kind) here))) (reached.legal.rise (s + 1))

  rise_more : (is_fresh kind ≡ true → (old : ℕ) → old ≤ a.seen → rises kind old v) → (t : ℕ) → (t ≡ s + 1) ⊎ (t ≢ s + 1) → AllPairs Precedes (filter (λ m. is_fresh m.kind) (notes_of t (notes ++ n ∷ [])))
  rise_more rise t (inl same) =
      let own : filter (λ m. is_fresh m.kind) (notes_of (s + 1) (notes ++ n ∷ [])) ≡ filter (λ m. is_fresh m.kind) here ++ cond (is_fresh kind) (n ∷ []) [] =
      ap (filter (λ m. is_fresh m.kind)) (own_more (s + 1) notes n refl) ∙ filter-append (λ m. is_fresh m.kind) here (n ∷ []) in
      subst (λ (t : ℕ). AllPairs Precedes (filter (λ m. is_fresh m.kind) (notes_of t (notes ++ n ∷ [])))) (sym same) (subst (AllPairs Precedes) (sym own) (rise_own rise (is_fresh kind) refl))
  rise_more rise t (inr apart) = subst (λ (l : List Note). AllPairs Precedes (filter (λ m. is_fresh m.kind) l)) (sym (others_same t notes n (λ e. apart (sym e)))) (reached.legal.rise t)

  right_at : (command : CommandView) → IsNote command → (before : List Note) (m : Note) (after : List Note)
      → ((after ≡ []) × (before ≡ notes) × (m ≡ n)) ⊎ ((rest : List Note) × (after ≡ rest ++ n ∷ []) × (notes ≡ before ++ m ∷ rest))
      → IsRight scripts base (places_of scripts history) (notes_of m.session before) m
  right_at command note before m after (inl h) =
      subst (λ (z : List Note × Note). IsRight scripts base (places_of scripts history) (notes_of z.1.session z.0) z.1) (λ i. (sym h.1 i, sym h.2 i))
      (record { in_order = ap (λ (k : ℕ). k + 1) (reached.actors s a at).place; command = command; stands = note.stands; says = note.says })
  right_at command note before m after (inr h) =
      let there : m.version ≤ length core.history = all_at (λ k. k.version ≤ length core.history) before m h.0 (subst (All (λ k. k.version ≤ length core.history)) h.2 reached.legal.there) in
      let old : m.version ≤ length (journal_of scripts core) = omega (arith, there, length-map core.history (place_of scripts)) in
      subst (λ (j : List Place). IsRight scripts base j (notes_of m.session before) m) (sym journal_more)
      (right_more scripts base (journal_of scripts core) (places_of scripts more) (notes_of m.session before) m old (reached.legal.right before m h.0 h.2))

  pub noted_more : (command : CommandView) (b : Actor) → IsNote command
      → b.place ≡ a.place + 1 → a.seen ≤ b.seen → b.seen ≤ length history → v ≤ b.seen → Holds (here ++ n ∷ []) b.held
      → IsReached scripts base (record { history = history; actors = slice_set core.actors s b }) (notes ++ n ∷ [])
  noted_more command b note place more_seen seen version held =
      let mine = reached.actors s a at in
      let legal = reached.legal in
      let place_is : b.place ≡ length (here ++ n ∷ []) = omega (arith, place, mine.place, length-append here (n ∷ [])) in
      record {
        legal = record {
          codes = subst (All (λ code. is_code (edit_counts scripts) code ≡ true)) (sym goes) (All-append (λ code. is_code (edit_counts scripts) code ≡ true) core.history more legal.codes note.codes);
          published = λ t. published_more t (note.published t);
          there = All-push (λ m. m.version ≤ length history) notes n (All-weaker (λ m. m.version ≤ length core.history) (λ m. m.version ≤ length history) (λ m h. omega (arith, h, history_more)) notes legal.there) note.there;
          rise = λ t. rise_more note.rise t (cases_eq t (s + 1));
          right = λ before m after e. right_at command note before m after (split_last notes n before m after e);
        };
        actors = actors_set (λ t c. HasCome (length history) (notes_of (t + 1) (notes ++ n ∷ [])) c) core.actors s b
            (subst (λ (l : List Note). HasCome (length history) l b) (sym (own_more (s + 1) notes n refl)) (record {
              place = place_is;
              seen = seen;
              above = All-push (λ m. m.version ≤ b.seen) here n (All-weaker (λ m. m.version ≤ a.seen) (λ m. m.version ≤ b.seen) (λ m h. omega (arith, h, more_seen)) here mine.above) version;
              held = held;
            }))
            (λ t c apart is. subst (λ (l : List Note). HasCome (length history) l c) (sym (others_same (t + 1) notes n (λ e. apart (omega (arith, e)))))
            (come_later (length core.history) (length history) (notes_of (t + 1) notes) c (omega (arith, history_more)) (reached.actors t c is)));
      }
