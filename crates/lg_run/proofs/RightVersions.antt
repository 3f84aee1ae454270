-- The versions of a run's answers, and its journal, as an audit sees them.
use Rattle.std.proofs.Common.{◌≡◌, ℕ, zero, suc, ◌+◌, ◌≤◌, ◌<◌, ◌==◌, Bool, true, false, cond, List, [], ◌∷◌, ◌++◌, length, map, take, get_or, All, AllPairs, Contains, Option, Some, None, slice_get, is_some, option_map, refl, sym, ap, subst, ◌∙◌, arith, length-append}
use Rattle.std.specs.List.{filter, enumerate_from}
use Rattle.std.specs.Option.{option_map_or}
use Rattle.std.proofs.lemmas.Bool.{eq-eqb}
use Rattle.std.proofs.lemmas.List.{get_or_append_left, get_or-map, length-map}
use Rattle.std.proofs.lemmas.List.Elements.{All-contains, All-map, All-take, All-weaker, All-contains_itself}
use Rattle.std.proofs.lemmas.Option.{slice_get-map, slice_get_within, none-some, same_Some}
use Rattle.lg_base.proofs.Elements.{filter_in, filter_out, map_out}
use Rattle.lg_gram.specs.declared.reply.Place.{Place}
use Rattle.lg_gram.specs.declared.reply.Reply.{Reply}
use Rattle.lg_gram.specs.declared.reply.Reply.TheVariants.{Listed, Beyond, Published, Refused, At, NoListing}
use Rattle.lg_answer.proofs.Places.{place_of}
use Rattle.lg_script.specs.Commands.{CommandView, parses, lists, goes_on, makes, asks, is_edit}
use Rattle.lg_script.specs.Histories.{numbered, command_in, command_at, AreInTime, HasPublished, Precedes, reply_version, fresh, is_published, published_by}
use Rattle.lg_session.specs.Legal.{Run, Holding, AnswerIs, published, refused, version, listed, beyond, more, no_more, Answered, so_far, next, IsLegal}
use Rattle.lg_audit.specs.Replies.{outline}
use Rattle.lg_run.proofs.OnePage.{enumerated_at, some_at}
use Rattle.lg_audit.specs.ShownAnswers.{Unread, shown_reply}

pub numbered_map : {A B : Type 0} (f : A → B) (xs : List A) (n : ℕ) → numbered (map f xs) n ≡ option_map f (numbered xs n)
numbered_map f xs zero = refl
numbered_map f xs (suc n) = slice_get-map f xs n

module _ (unread : Unread) where
  -- what an audit sees of an answer's version
  abbrev pub seen : Reply → Reply
  seen r = outline (shown_reply unread r)

  same_version : (r : Reply) → reply_version (seen r) ≡ reply_version r
  same_version (Listed n tokens page stats) = refl
  same_version (Beyond n bound) = refl
  same_version (Published n) = refl
  same_version (Refused n cause name) = refl
  same_version (At n) = refl
  same_version NoListing = refl

  same_flag : (r : Reply) → is_published (seen r) ≡ is_published r
  same_flag (Listed n tokens page stats) = refl
  same_flag (Beyond n bound) = refl
  same_flag (Published n) = refl
  same_flag (Refused n cause name) = refl
  same_flag (At n) = refl
  same_flag NoListing = refl

  precedes_too : (q r : Reply) → Precedes q r → Precedes (seen q) (seen r)
  precedes_too q (Listed n tokens page stats) h = omega (arith, same_version q, h)
  precedes_too q (Beyond n bound) h = omega (arith, same_version q, h)
  precedes_too q (Published n) h = omega (arith, same_version q, h)
  precedes_too q (Refused n cause name) h = omega (arith, same_version q, h)
  precedes_too q (At n) h = omega (arith, same_version q, h)
  precedes_too q NoListing h = omega (arith, same_version q, h)

  -- ---- the first answers of a session are in time

  -- the answers that name what the session has come to: of the first so many these are first
  fresh_front : (n : ℕ) (cs : List CommandView) (rs : List Reply) → (rest : List Reply) × (map seen (fresh cs rs) ≡ fresh (take n cs) (map seen (take n rs)) ++ rest)
  fresh_front zero cs rs = (map seen (fresh cs rs), refl)
  fresh_front (suc n) [] [] = ([], refl)
  fresh_front (suc n) [] (r ∷ rs) = ([], refl)
  fresh_front (suc n) (c ∷ cs) [] = none_left c
    where
      none_left : (d : CommandView) → (rest : List Reply) × (map seen (fresh (d ∷ cs) []) ≡ fresh (d ∷ take n cs) [] ++ rest)
      none_left (parses text) = ([], refl)
      none_left (lists first want text) = ([], refl)
      none_left goes_on = ([], refl)
      none_left (makes edit) = ([], refl)
      none_left asks = ([], refl)
  fresh_front (suc n) (c ∷ cs) (r ∷ rs) = one_more c (fresh_front n cs rs)
    where
      one_more : (d : CommandView) → (rest : List Reply) × (map seen (fresh cs rs) ≡ fresh (take n cs) (map seen (take n rs)) ++ rest)
          → (rest : List Reply) × (map seen (fresh (d ∷ cs) (r ∷ rs)) ≡ fresh (d ∷ take n cs) (seen r ∷ map seen (take n rs)) ++ rest)
      one_more (parses text) (rest, e) = (rest, ap (λ (l : List Reply). seen r ∷ l) e)
      one_more (lists first want text) (rest, e) = (rest, ap (λ (l : List Reply). seen r ∷ l) e)
      one_more goes_on (rest, e) = (rest, e)
      one_more (makes edit) (rest, e) = (rest, ap (λ (l : List Reply). seen r ∷ l) e)
      one_more asks (rest, e) = (rest, ap (λ (l : List Reply). seen r ∷ l) e)

  pairs_map : (rs : List Reply) → AllPairs Precedes rs → AllPairs Precedes (map seen rs)
  pairs_map rs all i j d less within =
      let long = length-map rs seen in
      let low : j < length rs = omega (arith, within, long) in
      let here = precedes_too (get_or rs i d) (get_or rs j d) (all i j d less low) in
      subst (λ (x : Reply). Precedes x (get_or (map seen rs) j d)) (sym (get_or-map seen rs i d d (omega (arith, less, low))))
      (subst (λ (x : Reply). Precedes (seen (get_or rs i d)) x) (sym (get_or-map seen rs j d d low)) here)

  pairs_front : (xs ys : List Reply) → AllPairs Precedes (xs ++ ys) → AllPairs Precedes xs
  pairs_front xs ys all i j d less within =
      let long = length-append xs ys in
      subst (λ (x : Reply). Precedes x (get_or xs j d)) (get_or_append_left xs ys d i (omega (arith, less, within)))
      (subst (λ (x : Reply). Precedes (get_or (xs ++ ys) i d) x) (get_or_append_left xs ys d j within) (all i j d less (omega (arith, within, long))))

  pub in_time_so_far : (journal : List Place) (commands : List CommandView) (rs : List Reply) (n : ℕ) → AreInTime journal commands rs
      → AreInTime journal (take n commands) (map outline (take n (map (shown_reply unread) rs)))
  in_time_so_far journal commands rs n time =
      let front = fresh_front n commands rs in
      subst (AreInTime journal (take n commands)) (seen_is n rs) (record {
        there = All-map (λ r. reply_version r ≤ length journal) seen (take n rs)
            (All-weaker (λ r. reply_version r ≤ length journal) (λ r. reply_version (seen r) ≤ length journal) (λ r le. omega (arith, le, same_version r)) (take n rs) (All-take (λ r. reply_version r ≤ length journal) n rs time.there));
        rise = pairs_front (fresh (take n commands) (map seen (take n rs))) front.0 (subst (AllPairs Precedes) front.1 (pairs_map (fresh commands rs) time.rise));
      })
    where
      seen_is : (k : ℕ) (qs : List Reply) → map seen (take k qs) ≡ map outline (take k (map (shown_reply unread) qs))
      seen_is zero qs = refl
      seen_is (suc k) [] = refl
      seen_is (suc k) (q ∷ qs) = ap (λ (l : List Reply). seen q ∷ l) (seen_is k qs)

  -- ---- the journal

  abbrev place_in : ℕ → ℕ × Reply → Place
  place_in session x = record { session = session; command = x.0 }

  abbrev flagged : ℕ × Reply → Bool
  flagged x = is_published x.1

  published_too : (session n : ℕ) (rs : List Reply) → map (place_in session) (filter flagged (enumerate_from n rs)) ≡ map (place_in session) (filter flagged (enumerate_from n (map outline (map (shown_reply unread) rs))))
  published_too session n [] = refl
  published_too session n (r ∷ rs) = by (is_published r) (is_published (seen r)) (sym (same_flag r)) (published_too session (n + 1) rs)
    where
      by : (a b : Bool) → a ≡ b → map (place_in session) (filter flagged (enumerate_from (n + 1) rs)) ≡ map (place_in session) (filter flagged (enumerate_from (n + 1) (map outline (map (shown_reply unread) rs))))
          → map (place_in session) (cond a ((n, r) ∷ filter flagged (enumerate_from (n + 1) rs)) (filter flagged (enumerate_from (n + 1) rs)))
          ≡ map (place_in session) (cond b ((n, seen r) ∷ filter flagged (enumerate_from (n + 1) (map outline (map (shown_reply unread) rs)))) (filter flagged (enumerate_from (n + 1) (map outline (map (shown_reply unread) rs)))))
      by true true e rest = ap (λ (l : List Place). place_in session (n, r) ∷ l) rest
      by false false e rest = rest
      by true false e rest = absurd (cc e)
      by false true e rest = absurd (cc e)

  abbrev outlines : List Reply → List Reply
  outlines rs = map outline (map (shown_reply unread) rs)

  outlines_are : (replies : List (List Reply)) → map (map outline) (map (map (shown_reply unread)) replies) ≡ map outlines replies
  outlines_are [] = refl
  outlines_are (rs ∷ replies) = ap (λ (l : List (List Reply)). outlines rs ∷ l) (outlines_are replies)

  share_too : (journal : List Place) (replies : List (List Reply)) → HasPublished journal replies → (session : ℕ) (qs : List Reply) (o : Option (List Reply)) → numbered replies session ≡ o → option_map outlines o ≡ Some qs
      → filter (λ p. p.session == session) journal ≡ published_by session qs
  share_too journal replies has session qs None is e = absurd (none-some qs e)
  share_too journal replies has session qs (Some rs) is e =
      has.each session rs is ∙ published_too session 1 rs ∙ ap (published_by session) (same_Some (outlines rs) qs e)

  some_mapped : {A B : Type 0} (f : A → B) (o : Option A) → is_some (option_map f o) ≡ is_some o
  some_mapped f None = refl
  some_mapped f (Some x) = refl

  pub has_published_too : (journal : List Place) (replies : List (List Reply)) → HasPublished journal replies → HasPublished journal (map (map outline) (map (map (shown_reply unread)) replies))
  has_published_too journal replies has = subst (HasPublished journal) (sym (outlines_are replies)) (record {
    each = λ session qs is. share_too journal replies has session qs (numbered replies session) refl (sym (numbered_map outlines replies session) ∙ is);
    no_other = All-weaker (λ p. is_some (numbered replies p.session) ≡ true) (λ p. is_some (numbered (map outlines replies) p.session) ≡ true)
        (λ p e. ap is_some (numbered_map outlines replies p.session) ∙ some_mapped outlines (numbered replies p.session) ∙ e) journal has.no_other;
  })

-- ---- what was published are edits

module _ (run : Run) (session : ℕ) where
  edit_answered : (p : Place) (held then : Option Holding) (command : CommandView) (r : Reply) → AnswerIs run p held command r then → is_published r ≡ true → is_edit command ≡ true
  edit_answered p _ _ _ _ (published held edit n is) e = refl
  edit_answered p _ _ _ _ (refused held edit n cause name is) e = absurd (cc e)
  edit_answered p _ _ _ _ (version held n) e = absurd (cc e)
  edit_answered p _ _ _ _ (listed held command text first want n tokens page stats asked is shows counts) e = absurd (cc e)
  edit_answered p _ _ _ _ (beyond held command text first want n bound asked is) e = absurd (cc e)
  edit_answered p _ _ _ _ (more h page shows) e = absurd (cc e)
  edit_answered p _ _ _ _ no_more e = absurd (cc e)

  edits_at : (n : ℕ) (held : Option Holding) (commands : List CommandView) (rs : List Reply) → Answered run session n held commands rs → (i : ℕ) (r : Reply) → slice_get rs i ≡ Some r → is_published r ≡ true
      → option_map_or is_edit (slice_get commands i) false ≡ true
  edits_at _ _ _ _ (so_far n held commands) i r at e = absurd (cc at)
  edits_at _ _ _ _ (next n held then command commands q qs is rest) zero r at e =
      edit_answered (record { session = session; command = n }) held then command q is (ap is_published (same_Some q r at) ∙ e)
  edits_at _ _ _ _ (next n held then command commands q qs is rest) (suc i) r at e = edits_at (n + 1) then commands qs rest i r at e

pub some_numbered : {A B : Type 0} (xs : List A) (ys : List B) (n : ℕ) (x : A) → length ys ≡ length xs → numbered xs n ≡ Some x → (y : B) × (numbered ys n ≡ Some y)
some_numbered xs ys zero x same e = absurd (none-some x e)
some_numbered xs ys (suc n) x same e = some_at ys n (omega (arith, same, slice_get_within xs n x e))

add_one : (n : ℕ) → 1 + n ≡ suc n
add_one n = omega arith

some_of : {A : Type 0} (o : Option A) → is_some o ≡ true → (x : A) × (o ≡ Some x)
some_of None e = absurd (cc e)
some_of (Some x) e = (x, refl)

module _ (run : Run) (replies : List (List Reply)) (legal : IsLegal run replies) where
  -- an edit of the journal stands in its script
  journal_edit : (p : Place) → Contains run.journal p → option_map_or is_edit (command_at run.scripts p) false ≡ true
  journal_edit p c =
      let answers = some_of (numbered replies p.session) (All-contains (λ q. is_some (numbered replies q.session) ≡ true) run.journal p legal.journal.no_other c) in
      let script = some_numbered replies run.scripts p.session answers.0 (sym legal.same_length) answers.1 in
      let own = subst (λ (ps : List Place). Contains ps p) (legal.journal.each p.session answers.0 answers.1) (filter_in (λ (q : Place). q.session == p.session) run.journal p c (eq-eqb p.session p.session refl)) in
      let one = map_out (λ (n : ℕ × Reply). record { session = p.session; command = n.0 }) _ p own in
      let both = filter_out (λ (n : ℕ × Reply). is_published n.1) (enumerate_from 1 answers.0) one.0 one.1 in
      let at = place_of (enumerate_from 1 answers.0) one.0 both.0 in
      let row = enumerated_at 1 at.0 answers.0 one.0 at.1 in
      let number : p.command ≡ suc at.0 = sym (ap (λ (q : Place). q.command) one.2) ∙ row.0 ∙ add_one at.0 in
      subst (λ (o : Option (List CommandView)). option_map_or is_edit (command_in o p.command) false ≡ true) (sym script.1)
      (subst (λ (n : ℕ). option_map_or is_edit (numbered script.0 n) false ≡ true) (sym number)
      (edits_at run p.session 1 None script.0 answers.0 (legal.sessions p.session script.0 answers.0 script.1 answers.1).answered at.0 one.0.1 row.1 both.1))

  pub journal_edits : All (λ p. option_map_or is_edit (command_at run.scripts p) false ≡ true) run.journal
  journal_edits = All-weaker (Contains run.journal) (λ p. option_map_or is_edit (command_at run.scripts p) false ≡ true) journal_edit run.journal (All-contains_itself run.journal)
