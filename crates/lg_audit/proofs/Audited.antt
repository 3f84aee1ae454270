-- What the answers of all sessions say of a document.
use Rattle.std.proofs.Common.{◌≡◌, ◌⊎◌, inl, inr, ℕ, zero, suc, ◌+◌, ◌^◌, ◌≤◌, ◌<◌, true, List, [], ◌∷◌, length, map, get_or, slice_get, All, Option, Some, None, is_some, refl, ap, sym, subst, ◌∙◌, arith, add-one}
use Rattle.std.specs.declared.vec.Vec.{Vec}
use Rattle.std.proofs.lemmas.Bool.{false≢true}
use Rattle.std.proofs.lemmas.List.{length-map}
use Rattle.std.proofs.lemmas.Option.{none-some, same_Some, slice_get-get_or}
use Rattle.lg_gram.specs.declared.reply.Place.{Place}
use Rattle.lg_script.specs.Codes.{AreScripts}
use Rattle.lg_script.specs.Commands.{CommandView, command_view, script_views}
use Rattle.lg_script.specs.declared.command.Command.{Command}
use Rattle.lg_script.specs.Histories.{numbered, command_in}
use Rattle.lg_audit.specs.Lines.{ShownReply}
use Rattle.lg_audit.specs.Documents.{ShownDocument, Shows, AreRepliesInForm}
use Rattle.lg_audit.specs.Fronts.{AreFormed}
use Rattle.lg_audit.specs.Answers.{AreRepliesTo, IsReplyTo, reply_of, replies_of}
use Rattle.lg_audit.specs.Audits.{Inputs, basis_of, JournalHolds, Holds, IsPlaceOf, IsBefore, IsAudit}
use Rattle.lg_audit.specs.Judged.{HasJournal, IsJudged}
use Rattle.lg_audit.specs.declared.answer.AuditAnswer.{AuditAnswer}
use Rattle.lg_audit.specs.declared.answer.AuditAnswer.TheVariants.{Yes, Shape, Journal, Reply as Wrong}
use Rattle.lg_audit.specs.Replies.{Basis, Hold, none_yet}
use Rattle.lg_audit.specs.Walks.{HoldSome, AllHold, IsFirstWrong, IsFirstPlace}
use Rattle.lg_audit.specs.declared.shown.ShownReply.{ShownReply as Reply}
use Rattle.lg_audit.proofs.Held.{earlier}
use Rattle.lg_audit.proofs.Sharing.{within_number, some_at, some_beside}
use Rattle.lg_audit.proofs.Walking.{few_commands, number_at, formed_lengths, formed_at}

-- ---- the form of all answers

formed_from : {C X : Type 0} (Form : C → X → Type 0) (cs : List C) (xs : List X) → length xs ≡ length cs → ((n : ℕ) (c : C) (x : X) → slice_get cs n ≡ Some c → slice_get xs n ≡ Some x → Form c x) → AreFormed Form cs xs
formed_from Form [] [] same each = tt
formed_from Form [] (x ∷ xs) same each = absurd (omega (arith, same))
formed_from Form (c ∷ cs) [] same each = absurd (omega (arith, same))
formed_from Form (c ∷ cs) (x ∷ xs) same each = (each 0 c x refl refl, formed_from Form cs xs (omega (arith, same)) (λ n d y a b. each (suc n) d y a b))

pub all_formed : (scripts : List (List CommandView)) (replies : List (List ShownReply)) → AreRepliesInForm scripts replies → AreFormed AreRepliesTo scripts replies
all_formed scripts replies form =
    formed_from AreRepliesTo scripts replies form.sessions
    (λ n commands rs a b. formed_from IsReplyTo commands rs (form.each (suc n) commands rs a b) (λ m command r x y. form.form (suc n) (suc m) commands rs command r a b x y))

-- no session has 2^32 answers
pub short_all : (scripts : List (List CommandView)) (replies : List (List ShownReply)) → AreScripts scripts → AreRepliesInForm scripts replies → All (λ rs. length rs < 2 ^ 32) replies
short_all scripts replies are form k d lt = go (slice_get scripts k) refl
  where
    go : (o : Option (List CommandView)) → slice_get scripts k ≡ o → length (get_or replies k d) < 2 ^ 32
    go None none = absurd (false≢true (sym (ap is_some none) ∙ some_at scripts k (omega (arith, lt, form.sessions))))
    go (Some commands) a =
        let same = form.each (suc k) commands (get_or replies k d) a (slice_get-get_or replies k d lt) in
        let few = few_commands scripts are (suc k) commands a in
        omega (arith, same, few)

-- ---- places

some_within : {A : Type 0} (xs : List A) (n : ℕ) → is_some (numbered xs n) ≡ true → n ≤ length xs
some_within xs zero is = omega arith
some_within xs (suc n) is = let lt = go xs n is in omega (arith, lt)
  where
    go : {A : Type 0} (xs : List A) (n : ℕ) → is_some (slice_get xs n) ≡ true → n < length xs
    go [] n is = absurd (false≢true is)
    go (x ∷ xs) zero is = omega arith
    go (x ∷ xs) (suc n) is = let lt = go xs n is in omega (arith, lt)

module _ (inputs : Inputs) (d : ShownDocument) where
  holds_at : (p : Place) (commands : List CommandView) (rs : List ShownReply) → numbered inputs.scripts p.session ≡ Some commands → numbered d.replies p.session ≡ Some rs
      → HoldSome (basis_of inputs d) p.session commands rs p.command → Holds inputs d p
  holds_at p commands rs a b some = (some.0, record { commands = commands; replies = rs; script = a; answers = b; hold = some.1 })

  pub holds_there : (p : Place) (commands : List CommandView) (rs : List ShownReply) → numbered inputs.scripts p.session ≡ Some commands → numbered d.replies p.session ≡ Some rs
      → Holds inputs d p → HoldSome (basis_of inputs d) p.session commands rs p.command
  holds_there p commands rs a b (held, h) =
      let same_commands = same_Some h.commands commands (sym h.script ∙ a) in
      let same_replies = same_Some h.replies rs (sym h.answers ∙ b) in (
        held,
        subst (λ (cs : List CommandView). Hold (basis_of inputs d) p.session cs rs p.command held) same_commands
            (subst (λ (qs : List ShownReply). Hold (basis_of inputs d) p.session h.commands qs p.command held) same_replies h.hold),
      )

  -- where each place holds, all answers of a session do
  pub all_there : ((p : Place) → IsPlaceOf inputs p → Holds inputs d p) → (session : ℕ) (commands : List CommandView) (rs : List ShownReply)
      → numbered inputs.scripts session ≡ Some commands → numbered d.replies session ≡ Some rs → HoldSome (basis_of inputs d) session commands rs (length commands)
  all_there all session [] rs a b = (None, none_yet)
  all_there all session (c ∷ commands) rs a b =
      let last : Place = record { session = session; command = length (c ∷ commands) } in
      holds_there last (c ∷ commands) rs a b
      (all last (ap is_some (ap (λ (o : Option (List CommandView)). command_in o (length (c ∷ commands))) a) ∙ some_at (c ∷ commands) (length commands) (omega arith)))

  module _ (same : length d.replies ≡ length inputs.scripts) where
    -- where all commands of the session hold
    placed : (p : Place) → IsPlaceOf inputs p
        → ((commands : List CommandView) (rs : List ShownReply) → numbered inputs.scripts p.session ≡ Some commands → numbered d.replies p.session ≡ Some rs → HoldSome (basis_of inputs d) p.session commands rs (length commands))
        → Holds inputs d p
    placed p stands all = go (numbered inputs.scripts p.session) refl stands
      where
        by_replies : (commands : List CommandView) → numbered inputs.scripts p.session ≡ Some commands → p.command ≤ length commands → (o : Option (List ShownReply)) → numbered d.replies p.session ≡ o → Holds inputs d p
        by_replies commands a le None b = absurd (false≢true (sym (ap is_some b) ∙ some_beside inputs.scripts d.replies p.session commands same a))
        by_replies commands a le (Some rs) b =
            let some = all commands rs a b in
            holds_at p commands rs a b (earlier (basis_of inputs d) p.session commands rs (length commands) some.0 some.1 p.command le)

        go : (o : Option (List CommandView)) → numbered inputs.scripts p.session ≡ o → is_some (command_in o p.command) ≡ true → Holds inputs d p
        go None a is = absurd (false≢true is)
        go (Some commands) a is = by_replies commands a (some_within commands p.command is) (numbered d.replies p.session) refl

    pub all_hold : (n : ℕ) → length d.replies ≡ n → AllHold (basis_of inputs d) d.replies n → (p : Place) → IsPlaceOf inputs p → Holds inputs d p
    all_hold n long all p stands =
        placed p stands (λ commands rs a b. let le = within_number d.replies p.session rs b in all p.session commands rs (omega (arith, le, long)) a b)

    module _ (p : Place) (first : IsFirstPlace (basis_of inputs d) d.replies p) where
      pub first_stands : IsPlaceOf inputs p
      first_stands = ap is_some (ap (λ (o : Option (List CommandView)). command_in o p.command) first.script) ∙ some_number first.commands p.command first.first.least first.first.most
        where
          some_number : (xs : List CommandView) (n : ℕ) → 1 ≤ n → n ≤ length xs → is_some (numbered xs n) ≡ true
          some_number xs zero least most = absurd (omega (arith, least))
          some_number xs (suc n) least most = some_at xs n (omega (arith, most))

      pub first_fails : Holds inputs d p → ⊥
      first_fails holds = first.first.wrong (holds_there p first.commands first.rs first.script first.answers holds)

      pub before_hold : (q : Place) → IsPlaceOf inputs q → IsBefore q p → Holds inputs d q
      before_hold q stands (inl lower) = placed q stands (λ commands rs a b. first.before q.session commands rs lower a b)
      before_hold q stands (inr here) =
          let a = ap (numbered inputs.scripts) here.0 ∙ first.script in
          let b = ap (numbered d.replies) here.0 ∙ first.answers in
          let some = first.first.before q.command here.1 in
          holds_at q first.commands first.rs a b (some.0, subst (λ (s : ℕ). Hold (basis_of inputs d) s first.commands first.rs q.command some.0) (sym here.0) some.1)

-- ---- session by session

module _ (basis : Basis) (replies : List (List ShownReply)) where
  pub all_none : AllHold basis replies 0
  all_none zero commands rs le a b = absurd (none-some commands a)
  all_none (suc n) commands rs le a b = absurd (omega (arith, le))

  module _ (i : ℕ) (commands : List CommandView) (rs : List ShownReply) (script : numbered basis.scripts (i + 1) ≡ Some commands) (answers : numbered replies (i + 1) ≡ Some rs) (all : AllHold basis replies i) where
    pub all_more : HoldSome basis (i + 1) commands rs (length commands) → AllHold basis replies (i + 1)
    all_more some session cs others le a b = go (at_most i session le)
      where
        at_most : (n k : ℕ) → k ≤ n + 1 → (k ≤ n) ⊎ (n + 1 ≡ k)
        at_most n k le = grind (arith, le)

        go : (session ≤ i) ⊎ (i + 1 ≡ session) → HoldSome basis session cs others (length cs)
        go (inl low) = all session cs others low a b
        go (inr same) =
            let c_is = same_Some commands cs (sym script ∙ subst (λ (k : ℕ). numbered basis.scripts k ≡ Some cs) (sym same) a) in
            let r_is = same_Some rs others (sym answers ∙ subst (λ (k : ℕ). numbered replies k ≡ Some others) (sym same) b) in
            subst (λ (k : ℕ). HoldSome basis k cs others (length cs)) same
            (subst (λ (ds : List CommandView). HoldSome basis (i + 1) ds others (length ds)) c_is
            (subst (λ (qs : List ShownReply). HoldSome basis (i + 1) commands qs (length commands)) r_is some))

    pub first_place : (n : ℕ) → IsFirstWrong basis (i + 1) commands rs n → IsFirstPlace basis replies (record { session = i + 1; command = n })
    first_place n first = record {
      commands = commands;
      rs = rs;
      script = script;
      answers = answers;
      before = λ session cs others lower a b. all session cs others (omega (arith, lower)) a b;
      first = first;
    }

-- ---- the scripts and the answers, as the program holds them

pub formed_number : {C X : Type 0} (Form : C → X → Type 0) (cs : List C) (xs : List X) (n : ℕ) (c : C) (x : X) → AreFormed Form cs xs → numbered cs (n + 1) ≡ Some c → numbered xs (n + 1) ≡ Some x → Form c x
formed_number Form cs xs n c x form a b = formed_at Form cs xs n c x form ((λ i. numbered cs (sym (add-one n) i)) ∙ a) ((λ i. numbered xs (sym (add-one n) i)) ∙ b)

pub script_there : (scripts given : List (List Command)) (i : ℕ) (x commands : List Command) → given ≡ scripts → i < length given → x ≡ get_or given i x → commands ≡ x → numbered (script_views scripts) (i + 1) ≡ Some (map command_view commands)
script_there scripts given i x commands same lt is so =
    ap (λ (s : List (List Command)). numbered (script_views s) (i + 1)) (sym same) ∙ number_at (map command_view) given i x lt is ∙ ap (λ (cs : List Command). Some (map command_view cs)) (sym so)

module _ {A : Type 0} (replies : List (Vec Reply A)) where
  pub answers_there : (i : ℕ) (rs : Vec Reply A) (answers : List Reply) → i < length replies → rs ≡ get_or replies i rs → answers ≡ rs.items → numbered (replies_of replies) (i + 1) ≡ Some (map reply_of answers)
  answers_there i rs answers lt is so = number_at (λ (v : Vec Reply A). map reply_of v.items) replies i rs lt is ∙ ap (λ (qs : List Reply). Some (map reply_of qs)) (sym so)

  -- there are as many lists of answers as scripts
  pub as_many : (scripts : List (List Command)) → AreFormed AreRepliesTo (script_views scripts) (replies_of replies) → length replies ≡ length scripts
  as_many scripts form =
      sym (length-map replies (λ (v : Vec Reply A). map reply_of v.items)) ∙ formed_lengths AreRepliesTo (script_views scripts) (replies_of replies) form ∙ length-map scripts (map command_view)

-- ---- what comes of a document

module _ (inputs : Inputs) (bytes : List ℕ) (d : ShownDocument) (shows : Shows inputs.scripts bytes d) where
  journal_is : HasJournal (basis_of inputs d) d.replies → JournalHolds inputs d
  journal_is has = record { edits = has.0; published = has.1 }

  audit_is : (answer : AuditAnswer) → IsJudged (basis_of inputs d) d.replies answer → IsAudit inputs bytes answer
  audit_is (Yes shown) (has, all, count) = (d, shows, journal_is has, all_hold inputs d shows.replies.sessions (length d.replies) refl all, count)
  audit_is Shape never = absurd never
  audit_is Journal none = (d, shows, λ holds. none (holds.edits, holds.published))
  audit_is (Wrong p) (has, first) =
      let same = shows.replies.sessions in
      (d, shows, journal_is has, first_stands inputs d same p first, first_fails inputs d same p first, before_hold inputs d same p first)

  pub audit_by : (journal : List Place) (replies : List (List ShownReply)) → journal ≡ d.journal → replies ≡ d.replies → (answer : AuditAnswer)
      → IsJudged (record { base = inputs.base; know = inputs.know; scripts = inputs.scripts; journal = journal }) replies answer → IsAudit inputs bytes answer
  audit_by journal replies same_journal same_replies answer judged =
      audit_is answer
      (subst (λ (rs : List (List ShownReply)). IsJudged (basis_of inputs d) rs answer) same_replies
      (subst (λ (ps : List Place). IsJudged (record { base = inputs.base; know = inputs.know; scripts = inputs.scripts; journal = ps }) replies answer) same_journal judged))
