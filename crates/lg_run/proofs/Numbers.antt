-- The numbers of a run's answers and of its journal are of their types.
use Rattle.std.proofs.Common.{◌≡◌, ℕ, zero, suc, ◌+◌, ◌*◌, ◌^◌, ◌<◌, ◌≤◌, Bool, true, false, cond, leb, List, [], ◌∷◌, ◌++◌, length, map, All, Option, Some, None, IfSome, slice_get, get_or, refl, ap, sym, ◌∙◌, subst, arith, true≢false, eq-eqb, leb-true, leb-false, le-leb}
use Rattle.std.specs.Prelude.{◌==◌}
use Rattle.std.specs.Option.{is_some, option_map_or}
use Rattle.std.specs.List.{filter, enumerate_from, AllByRecursion}
use Rattle.std.proofs.lemmas.Bool.{cond-true, cond-false, lt-leb}
use Rattle.std.proofs.lemmas.Option.{slice_get-get_or}
use Rattle.lg_gram.specs.declared.reply.Place.{Place}
use Rattle.lg_gram.specs.declared.reply.Reply.{Reply}
use Rattle.lg_gram.specs.declared.reply.Reply.TheVariants.{Listed, Beyond, Published, Refused, At, NoListing}
use Rattle.lg_dict.specs.Dictionary.{Dictionary}
use Rattle.lg_knowread.specs.declared.knowledge.Knowledge.{Knowledge}
use Rattle.lg_run.specs.declared.setup.Setup.{Setup}
use Rattle.lg_script.specs.Commands.{CommandView}
use Rattle.lg_script.specs.Histories.{numbered, is_published, published_by, reply_version}
use Rattle.lg_text.specs.Shown.{IsPlain, IsPlainReply, shown_version}
use Rattle.lg_run.specs.Documents.{IsOutcome}
use Rattle.lg_run.specs.Shown.{placed, all_placed, ArePlain, HasShortScripts, HasPlainTexts, OutcomesAreShown, RunsAreShown}

pub from_all : {X : Type 0} (P : X → Type 0) (xs : List X) → All P xs → AllByRecursion P xs
from_all P [] h = tt
from_all P (x ∷ xs) h = (h 0 x (omega arith), from_all P xs (λ k d less. h (suc k) d (omega arith)))

both_all : {X : Type 0} (P : X → Type 0) (xs ys : List X) → AllByRecursion P xs → AllByRecursion P ys → AllByRecursion P (xs ++ ys)
both_all P [] ys p q = q
both_all P (x ∷ xs) ys p q = (p.0, both_all P xs ys p.1 q)

-- ---- answers

version_small : (r : Reply) (most : ℕ) → most < 2 ^ 64 → reply_version r ≤ most → IfSome (shown_version r) (λ v. v < 2 ^ 64)
version_small (Listed version tokens page stats) most less le = omega arith
version_small (Beyond version bound) most less le = omega arith
version_small (Published version) most less le = omega arith
version_small (Refused version cause name) most less le = omega arith
version_small (At version) most less le = omega arith
version_small NoListing most less le = tt

abbrev AreThere : ℕ → List Reply → Type 0
AreThere most rs = AllByRecursion (λ (r : Reply). reply_version r ≤ most) rs

session_plain : (session n most : ℕ) (commands : List CommandView) (rs : List Reply) → session < 2 ^ 32 → n + length commands ≤ 2 ^ 32 → most < 2 ^ 64
    → AreThere most rs → AllByRecursion IsPlainReply rs → AllByRecursion IsPlain (placed session n commands rs)
session_plain session n most [] [] small few less there plain = tt
session_plain session n most [] (r ∷ rs) small few less there plain = tt
session_plain session n most (c ∷ commands) [] small few less there plain = tt
session_plain session n most (c ∷ commands) (r ∷ rs) small few less there plain = (
  record { place = (small, omega arith); version = version_small r most less there.0; texts = plain.0 },
  session_plain session (n + 1) most commands rs small (omega arith) less there.1 plain.1,
)

sessions_plain : (session most : ℕ) (scripts : List (List CommandView)) (replies : List (List Reply)) → session + length scripts ≤ 2 ^ 32 → most < 2 ^ 64
    → AllByRecursion (λ (commands : List CommandView). length commands < 2 ^ 32) scripts
    → ((n : ℕ) (commands : List CommandView) (rs : List Reply) → slice_get scripts n ≡ Some commands → slice_get replies n ≡ Some rs → AreThere most rs)
    → AllByRecursion (λ rs. AllByRecursion IsPlainReply rs) replies → AllByRecursion IsPlain (all_placed session scripts replies)
sessions_plain session most [] [] few less short there plain = tt
sessions_plain session most [] (rs ∷ replies) few less short there plain = tt
sessions_plain session most (commands ∷ scripts) [] few less short there plain = tt
sessions_plain session most (commands ∷ scripts) (rs ∷ replies) few less short there plain =
    let short_one : length commands < 2 ^ 32 = short.0 in
    both_all IsPlain (placed session 1 commands rs) (all_placed (session + 1) scripts replies)
    (session_plain session 1 most commands rs (omega arith) (omega arith) less (there 0 commands rs refl refl) plain.0)
    (sessions_plain (session + 1) most scripts replies (omega arith) less short.1 (λ n. there (suc n)) plain.1)

-- ---- the journal

within : {X : Type 0} (xs : List X) (k : ℕ) → is_some (slice_get xs k) ≡ true → k < length xs
within [] k some = absurd (true≢false (sym some))
within (x ∷ xs) zero some = omega arith
within (x ∷ xs) (suc k) some = let less = within xs k some in omega arith

number_within : {X : Type 0} (xs : List X) (n : ℕ) → is_some (numbered xs n) ≡ true → (1 ≤ n) × (n ≤ length xs)
number_within xs zero some = absurd (true≢false (sym some))
number_within xs (suc k) some = let less = within xs k some in (omega arith, omega arith)

abbrev pub places_of : ℕ → List Place → List Place
places_of session journal = filter (λ p. p.session == session) journal

-- what holds of the places of each session holds of all
pub in_each : (Q : Place → Type 0) (replies : List (List Reply)) (journal : List Place) → AllByRecursion (λ (p : Place). is_some (numbered replies p.session) ≡ true) journal
    → ((session : ℕ) (rs : List Reply) → numbered replies session ≡ Some rs → AllByRecursion Q (places_of session journal)) → AllByRecursion Q journal
in_each Q replies [] has each = tt
in_each Q replies (p ∷ ps) has each = (here (numbered replies p.session) refl has.0, in_each Q replies ps has.1 (λ session rs is. others session (p.session == session) (each session rs is)))
  where
    here : (o : Option (List Reply)) → numbered replies p.session ≡ o → is_some o ≡ true → Q p
    here None is some = absurd (true≢false (sym some))
    here (Some rs) is some = (subst (λ (l : List Place). AllByRecursion Q l) (cond-true (p.session == p.session) (p ∷ places_of p.session ps) (places_of p.session ps) (eq-eqb p.session p.session refl)) (each p.session rs is)).0

    others : (session : ℕ) (b : Bool) → AllByRecursion Q (cond b (p ∷ places_of session ps) (places_of session ps)) → AllByRecursion Q (places_of session ps)
    others session true h = h.1
    others session false h = h

abbrev pub place_in : ℕ → ℕ × Reply → Place
place_in session n = record { session = session; command = n.0 }

published_small : (session n : ℕ) (rs : List Reply) → n + length rs ≤ 2 ^ 32
    → AllByRecursion (λ (p : Place). p.command < 2 ^ 32) (map (place_in session) (filter (λ n. is_published n.1) (enumerate_from n rs)))
published_small session n [] few = tt
published_small session n (r ∷ rs) few = by (is_published r) (published_small session (n + 1) rs (omega arith))
  where
    by : (b : Bool) → AllByRecursion (λ (p : Place). p.command < 2 ^ 32) (map (place_in session) (filter (λ n. is_published n.1) (enumerate_from (n + 1) rs)))
        → AllByRecursion (λ (p : Place). p.command < 2 ^ 32) (map (place_in session) (cond b ((n, r) ∷ filter (λ n. is_published n.1) (enumerate_from (n + 1) rs)) (filter (λ n. is_published n.1) (enumerate_from (n + 1) rs))))
    by true others = (omega arith, others)
    by false others = others

published_few : (session n : ℕ) (rs : List Reply) → length (map (place_in session) (filter (λ n. is_published n.1) (enumerate_from n rs))) ≤ length rs
published_few session n [] = omega arith
published_few session n (r ∷ rs) = let le = published_few session (n + 1) rs in by (is_published r) le
  where
    by : (b : Bool) → length (map (place_in session) (filter (λ n. is_published n.1) (enumerate_from (n + 1) rs))) ≤ length rs
        → length (map (place_in session) (cond b ((n, r) ∷ filter (λ n. is_published n.1) (enumerate_from (n + 1) rs)) (filter (λ n. is_published n.1) (enumerate_from (n + 1) rs)))) ≤ length (r ∷ rs)
    by true le = omega arith
    by false le = omega arith

-- the places of the sessions up to this one
abbrev up_to : ℕ → List Place → List Place
up_to most journal = filter (λ (p : Place). leb p.session most) journal

up_to_next : (most : ℕ) (journal : List Place) → length (up_to (suc most) journal) ≤ length (up_to most journal) + length (places_of (suc most) journal)
up_to_next most [] = omega arith
up_to_next most (p ∷ ps) = by (leb p.session (suc most)) (leb p.session most) (p.session == suc most) here (up_to_next most ps)
  where
    here : leb p.session (suc most) ≡ true → leb p.session most ≡ false → (p.session == suc most) ≡ true
    here low high = let a = leb-true p.session (suc most) low in let b = leb-false p.session most high in eq-eqb p.session (suc most) (omega arith)

    by : (a b c : Bool) → (a ≡ true → b ≡ false → c ≡ true) → length (up_to (suc most) ps) ≤ length (up_to most ps) + length (places_of (suc most) ps)
        → length (cond a (p ∷ up_to (suc most) ps) (up_to (suc most) ps)) ≤ length (cond b (p ∷ up_to most ps) (up_to most ps)) + length (cond c (p ∷ places_of (suc most) ps) (places_of (suc most) ps))
    by true true true h le = omega arith
    by true true false h le = omega arith
    by true false true h le = omega arith
    by true false false h le = absurd (true≢false (sym (h refl refl)))
    by false true true h le = omega arith
    by false true false h le = omega arith
    by false false true h le = omega arith
    by false false false h le = omega arith

up_to_none : (journal : List Place) → AllByRecursion (λ (p : Place). 1 ≤ p.session) journal → length (up_to 0 journal) ≤ 0
up_to_none [] from = omega arith
up_to_none (p ∷ ps) from =
    let first : 0 < p.session = let low = from.0 in omega arith in
    subst (λ (l : List Place). length l ≤ 0) (sym (cond-false (leb p.session 0) (p ∷ up_to 0 ps) (up_to 0 ps) (lt-leb _ _ first))) (up_to_none ps from.1)

up_to_all : (most : ℕ) (journal : List Place) → AllByRecursion (λ (p : Place). p.session ≤ most) journal → up_to most journal ≡ journal
up_to_all most [] to = refl
up_to_all most (p ∷ ps) to = cond-true (leb p.session most) (p ∷ up_to most ps) (up_to most ps) (le-leb p.session most to.0) ∙ ap (λ (l : List Place). p ∷ l) (up_to_all most ps to.1)

up_to_few : (most : ℕ) (journal : List Place) → AllByRecursion (λ (p : Place). 1 ≤ p.session) journal
    → ((session : ℕ) → 1 ≤ session → session ≤ most → length (places_of session journal) ≤ 2 ^ 32) → length (up_to most journal) ≤ most * 2 ^ 32
up_to_few zero journal from few = let none = up_to_none journal from in omega arith
up_to_few (suc most) journal from few =
    let before = up_to_few most journal from (λ session low high. few session low (omega arith)) in
    let step = up_to_next most journal in
    let last = few (suc most) (omega arith) (omega arith) in
    omega arith

each_weaker : {X : Type 0} (P Q : X → Type 0) → ((x : X) → P x → Q x) → (xs : List X) → AllByRecursion P xs → AllByRecursion Q xs
each_weaker P Q to [] h = tt
each_weaker P Q to (x ∷ xs) h = (to x h.0, each_weaker P Q to xs h.1)

each_both : {X : Type 0} (P Q : X → Type 0) (xs : List X) → AllByRecursion P xs → AllByRecursion Q xs → AllByRecursion (λ x. P x × Q x) xs
each_both P Q [] p q = tt
each_both P Q (x ∷ xs) p q = ((p.0, q.0), each_both P Q xs p.1 q.1)

-- ---- a run

numbered_at : {X : Type 0} (d : X) (xs : List X) (n : ℕ) → 1 ≤ n → n ≤ length xs → (x : X) × (numbered xs n ≡ Some x)
numbered_at d xs zero low high = absurd (omega arith)
numbered_at d xs (suc k) low high = (get_or xs k d, slice_get-get_or xs k d (omega arith))

module _ (setup : Setup) (dict : Dictionary) (know : Knowledge) (scripts : List (List CommandView)) (document : List ℕ) (o : IsOutcome setup dict know scripts document) (short : HasShortScripts scripts) where
  has : AllByRecursion (λ (p : Place). is_some (numbered o.replies p.session) ≡ true) o.journal
  has = from_all (λ (p : Place). is_some (numbered o.replies p.session) ≡ true) o.journal o.legal.journal.no_other

  same : length o.replies ≡ length scripts
  same = o.legal.same_length

  script_short : (session : ℕ) (rs : List Reply) → numbered o.replies session ≡ Some rs → length rs < 2 ^ 32
  script_short session rs is =
      let n = number_within o.replies session (ap is_some is) in
      let low = n.0 in
      let high = n.1 in
      let c = numbered_at [] scripts session low (omega (arith, same)) in
      let long : length rs ≡ length c.0 = o.whole session c.0 rs c.1 is in
      let few : length c.0 < 2 ^ 32 = at_number scripts session c.0 short.each c.1 in
      omega arith
    where
      at_number : (xs : List (List CommandView)) (n : ℕ) (x : List CommandView) → AllByRecursion (λ (commands : List CommandView). length commands < 2 ^ 32) xs → numbered xs n ≡ Some x → length x < 2 ^ 32
      at_number xs zero x all e = absurd (true≢false (sym (ap is_some e)))
      at_number [] (suc k) x all e = absurd (true≢false (sym (ap is_some e)))
      at_number (y ∷ xs) (suc zero) x all e = let is : y ≡ x = ap (λ (o : Option (List CommandView)). option_map_or (λ z. z) o y) e in subst (λ (l : List CommandView). length l < 2 ^ 32) is all.0
      at_number (y ∷ xs) (suc (suc k)) x all e = at_number xs (suc k) x all.1 e

  sessions_small : AllByRecursion (λ (p : Place). p.session < 2 ^ 32) o.journal
  sessions_small = each_weaker (λ (p : Place). is_some (numbered o.replies p.session) ≡ true) (λ (p : Place). p.session < 2 ^ 32)
      (λ p some. let n = number_within o.replies p.session some in let high = n.1 in let few = short.few in omega (arith, same)) o.journal has

  commands_small : AllByRecursion (λ (p : Place). p.command < 2 ^ 32) o.journal
  commands_small = in_each (λ (p : Place). p.command < 2 ^ 32) o.replies o.journal has (λ session rs is.
      let less = script_short session rs is in
      subst (λ (l : List Place). AllByRecursion (λ (p : Place). p.command < 2 ^ 32) l) (sym (o.legal.journal.each session rs is)) (published_small session 1 rs (omega arith)))

  few_of : (session : ℕ) → 1 ≤ session → session ≤ length o.replies → length (places_of session o.journal) ≤ 2 ^ 32
  few_of session low high =
      let n = numbered_at [] o.replies session low high in
      let less = script_short session n.0 n.1 in
      let few = published_few session 1 n.0 in
      let are : length (places_of session o.journal) ≡ length (published_by session n.0) = ap (λ (l : List Place). length l) (o.legal.journal.each session n.0 n.1) in
      omega arith

  journal_few : length o.journal < 2 ^ 64
  journal_few =
      let from = each_weaker (λ (p : Place). is_some (numbered o.replies p.session) ≡ true) (λ (p : Place). 1 ≤ p.session) (λ p some. (number_within o.replies p.session some).0) o.journal has in
      let to = each_weaker (λ (p : Place). is_some (numbered o.replies p.session) ≡ true) (λ (p : Place). p.session ≤ length o.replies) (λ p some. (number_within o.replies p.session some).1) o.journal has in
      let all : length (up_to (length o.replies) o.journal) ≡ length o.journal = ap (λ (l : List Place). length l) (up_to_all (length o.replies) o.journal to) in
      let some = up_to_few (length o.replies) o.journal from few_of in
      let few = short.few in
      omega (arith, same)

  there : (n : ℕ) (commands : List CommandView) (rs : List Reply) → slice_get scripts n ≡ Some commands → slice_get o.replies n ≡ Some rs → AreThere (length o.journal) rs
  there n commands rs e f = from_all (λ (r : Reply). reply_version r ≤ length o.journal) rs (o.legal.sessions (suc n) commands rs e f).in_time.there

  pub are_plain : HasPlainTexts o.replies → ArePlain scripts o.replies o.journal
  are_plain plain = let few = short.few in record {
    answers = sessions_plain 1 (length o.journal) scripts o.replies (omega arith) journal_few short.each there plain;
    places = each_both (λ (p : Place). p.session < 2 ^ 32) (λ (p : Place). p.command < 2 ^ 32) o.journal sessions_small commands_small;
    few = journal_few;
  }

pub runs_are_shown : OutcomesAreShown → RunsAreShown
runs_are_shown shows setup setup' dict dict' know know' scripts scripts' document one other short short' plain plain' =
    shows setup.look setup'.look scripts scripts' one.replies other.replies one.journal other.journal one.lines other.lines
    (are_plain setup dict know scripts document one short plain) (are_plain setup' dict' know' scripts' document other short' plain') (sym one.is ∙ other.is)
