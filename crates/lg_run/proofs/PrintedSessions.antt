-- What is kept of the answers of sessions is what is printed of them.
use Rattle.std.proofs.Common.{◌≡◌, ℕ, zero, suc, ◌+◌, ◌^◌, ◌<◌, true, List, [], ◌∷◌, ◌++◌, length, drop, get_or, All, refl, add-one, sym, ap, subst, ◌∙◌, append-nil, append_assoc, length-append, arith}
use Rattle.std.proofs.Math.Seq.{drop-cons}
use Rattle.std.proofs.lemmas.List.Concat.{flat_map-append}
use Rattle.std.proofs.lemmas.List.Elements.{All-drop}
use Rattle.lg_gram.specs.Linkages.{Linkage}
use Rattle.lg_gram.specs.declared.reply.Place.{Place}
use Rattle.lg_gram.specs.declared.reply.Reply.{Reply}
use Rattle.lg_dict.specs.Dictionary.{Dictionary}
use Rattle.lg_knowread.specs.declared.knowledge.Knowledge.{Knowledge}
use Rattle.lg_script.specs.Commands.{CommandView}
use Rattle.lg_script.specs.Kinds.{kind_of}
use Rattle.lg_session.specs.Keepers.{AreKept, IsKept}
use Rattle.lg_text.specs.Replies.{reply_text}
use Rattle.lg_text.specs.declared.look.Look.{Look}
use Rattle.lg_run.specs.Counted.{IsShare}
use Rattle.lg_run.specs.Documents.{listings, reply_texts, session_texts, journal_with, first_linkage, first_linkages, all_first_linkages, AreUsageLines, IsOutcome}
use Rattle.lg_run.specs.Lines.{joined}
use Rattle.lg_run.specs.Printers.{texts_of, IsPrinted, printed_text, together, HaveShares}
use Rattle.lg_run.specs.declared.printer.PrintedSession.{PrintedSession}
use Rattle.lg_run.specs.declared.printer.Printer.{Printer}
use Rattle.lg_run.specs.declared.setup.Setup.{Setup}
use Rattle.lg_run.proofs.Shares.{share_weaker}

pub joined_append : (xs ys : List (List ℕ)) → joined (xs ++ ys) ≡ joined xs ++ joined ys
joined_append xs ys = flat_map-append (λ (piece : List ℕ). piece) xs ys

-- ---- one answer more

texts_more : (look : Look) (session n : ℕ) (cs : List CommandView) (rs : List Reply) (c : CommandView) (r : Reply) → length rs ≡ length cs
    → reply_texts look session n (cs ++ c ∷ []) (rs ++ r ∷ []) ≡ reply_texts look session n cs rs ++ reply_text look (record { session = session; command = n + length rs }) (kind_of c) r ∷ []
texts_more look session n [] [] c r same = let here : n ≡ n + 0 = omega arith in ap (λ (k : ℕ). reply_text look (record { session = session; command = k }) (kind_of c) r ∷ []) here
texts_more look session n [] (x ∷ rs) c r same = absurd (omega (arith, same))
texts_more look session n (d ∷ cs) [] c r same = absurd (omega (arith, same))
texts_more look session n (d ∷ cs) (x ∷ rs) c r same =
    let first = reply_text look (record { session = session; command = n }) (kind_of d) x in
    let next : n + 1 + length rs ≡ n + length (x ∷ rs) = omega arith in
    ap (λ (l : List (List ℕ)). first ∷ l) (texts_more look session (n + 1) cs rs c r (omega (arith, same)))
    ∙ ap (λ (k : ℕ). first ∷ (reply_texts look session (n + 1) cs rs ++ reply_text look (record { session = session; command = k }) (kind_of c) r ∷ [])) next

firsts_more : (cs : List CommandView) (rs : List Reply) (c : CommandView) (r : Reply) → length rs ≡ length cs
    → first_linkages (cs ++ c ∷ []) (rs ++ r ∷ []) ≡ first_linkages cs rs ++ first_linkage (kind_of c) r
firsts_more [] [] c r same = append-nil (first_linkage (kind_of c) r)
firsts_more [] (x ∷ rs) c r same = absurd (omega (arith, same))
firsts_more (d ∷ cs) [] c r same = absurd (omega (arith, same))
firsts_more (d ∷ cs) (x ∷ rs) c r same =
    ap (λ (l : List Linkage). first_linkage (kind_of d) x ++ l) (firsts_more cs rs c r (omega (arith, same))) ∙ sym (append_assoc (first_linkage (kind_of d) x) (first_linkages cs rs) (first_linkage (kind_of c) r))

module _ (printer : Printer) where
  pub printed_more : (session n : ℕ) (cs : List CommandView) (rs : List Reply) (c : CommandView) (r : Reply) (old new : PrintedSession) (text : List ℕ) → IsPrinted printer session cs rs old → length rs + 1 ≡ n
      → text ≡ reply_text printer.look (record { session = session; command = n }) (kind_of c) r → joined (texts_of new.pieces.items) ≡ joined (texts_of old.pieces.items) ++ text
      → (printer.usage ≡ true → IsShare (length rs + 1) (first_linkages cs rs ++ first_linkage (kind_of c) r) new.share)
      → IsPrinted printer session (cs ++ c ∷ []) (rs ++ r ∷ []) new
  printed_more session n cs rs c r old new text is here told added share =
      let many : length (rs ++ r ∷ []) ≡ length rs + 1 = length-append rs (r ∷ []) in
      let last : n ≡ 1 + length rs = omega (arith, here) in record {
        many = omega (arith, many, is.many, length-append cs (c ∷ []));
        text = added ∙ (λ i. is.text i ++ (told ∙ ap (λ (k : ℕ). reply_text printer.look (record { session = session; command = k }) (kind_of c) r) last) i)
            ∙ ap (λ (l : List ℕ). joined (reply_texts printer.look session 1 cs rs) ++ l) (sym (append-nil (reply_text printer.look (record { session = session; command = 1 + length rs }) (kind_of c) r)))
            ∙ sym (joined_append (reply_texts printer.look session 1 cs rs) (reply_text printer.look (record { session = session; command = 1 + length rs }) (kind_of c) r ∷ []))
            ∙ ap joined (sym (texts_more printer.look session 1 cs rs c r is.many));
        share = λ asked. subst (λ (z : ℕ × List Linkage). IsShare z.0 z.1 new.share) (λ i. (sym many i, sym (firsts_more cs rs c r is.many) i)) (share asked);
      }

  -- ---- all sessions

  pub sessions_printed : (n : ℕ) (scripts : List (List CommandView)) (replies : List (List Reply)) (kept : List PrintedSession) → AreKept (IsPrinted printer) n scripts replies kept
      → printed_text kept ≡ joined (session_texts printer.look n scripts replies)
  sessions_printed n [] [] [] are = refl
  sessions_printed n [] [] (k ∷ kept) are = absurd are
  sessions_printed n [] (rs ∷ replies) kept are = absurd are
  sessions_printed n (cs ∷ scripts) [] kept are = absurd are
  sessions_printed n (cs ∷ scripts) (rs ∷ replies) [] are = absurd are
  sessions_printed n (cs ∷ scripts) (rs ∷ replies) (k ∷ kept) are =
      (λ i. are.0.text i ++ sessions_printed (n + 1) scripts replies kept are.1 i)
      ∙ sym (joined_append (reply_texts printer.look n 1 cs rs) (session_texts printer.look (n + 1) scripts replies))

  -- the first linkages of each session
  abbrev pub first_lists : List (List CommandView) → List (List Reply) → List (List Linkage)
  first_lists (cs ∷ scripts) (rs ∷ replies) = first_linkages cs rs ∷ first_lists scripts replies
  first_lists scripts [] = []
  first_lists [] replies = []

  pub firsts_together : (n : ℕ) (scripts : List (List CommandView)) (replies : List (List Reply)) (kept : List PrintedSession) → AreKept (IsPrinted printer) n scripts replies kept
      → together (first_lists scripts replies) ≡ all_first_linkages scripts replies
  firsts_together n [] [] [] are = refl
  firsts_together n [] [] (k ∷ kept) are = absurd are
  firsts_together n [] (rs ∷ replies) kept are = absurd are
  firsts_together n (cs ∷ scripts) [] kept are = absurd are
  firsts_together n (cs ∷ scripts) (rs ∷ replies) [] are = absurd are
  firsts_together n (cs ∷ scripts) (rs ∷ replies) (k ∷ kept) are = ap (λ (l : List Linkage). first_linkages cs rs ++ l) (firsts_together (n + 1) scripts replies kept are.1)

  pub sessions_shared : (n : ℕ) (scripts : List (List CommandView)) (replies : List (List Reply)) (kept : List PrintedSession) → printer.usage ≡ true → All (λ cs. length cs < 2 ^ 32) scripts
      → AreKept (IsPrinted printer) n scripts replies kept → HaveShares (first_lists scripts replies) kept
  sessions_shared n [] [] [] asked short are = tt
  sessions_shared n [] [] (k ∷ kept) asked short are = absurd are
  sessions_shared n [] (rs ∷ replies) kept asked short are = absurd are
  sessions_shared n (cs ∷ scripts) [] kept asked short are = absurd are
  sessions_shared n (cs ∷ scripts) (rs ∷ replies) [] asked short are = absurd are
  sessions_shared n (cs ∷ scripts) (rs ∷ replies) (k ∷ kept) asked short are =
      let here = short 0 cs (omega arith) in (
        share_weaker (length rs) (2 ^ 32) (first_linkages cs rs) k.share (omega (arith, are.0.many, here)) (are.0.share asked),
        sessions_shared (n + 1) scripts replies kept asked (All-drop (λ (l : List CommandView). length l < 2 ^ 32) 1 (cs ∷ scripts) short) are.1,
      )

  pub as_many_kept : (n : ℕ) (scripts : List (List CommandView)) (replies : List (List Reply)) (kept : List PrintedSession) → AreKept (IsPrinted printer) n scripts replies kept → length kept ≡ length scripts
  as_many_kept n [] [] [] are = refl
  as_many_kept n [] [] (k ∷ kept) are = absurd are
  as_many_kept n [] (rs ∷ replies) kept are = absurd are
  as_many_kept n (cs ∷ scripts) [] kept are = absurd are
  as_many_kept n (cs ∷ scripts) (rs ∷ replies) [] are = absurd are
  as_many_kept n (cs ∷ scripts) (rs ∷ replies) (k ∷ kept) are = let rest = as_many_kept (n + 1) scripts replies kept are.1 in omega (arith, rest)

  -- the document of a run
  pub outcome_is : (setup : Setup) (dict : Dictionary) (know : Knowledge) (scripts : List (List CommandView)) (journal : List Place) (kept : List PrintedSession) (lines : List ℕ)
      → printer.look ≡ setup.look → (is : IsKept (IsPrinted printer) (record { meaning = listings know setup.listing; scripts = scripts; base = dict; journal = journal }) kept)
      → AreUsageLines setup.usage (all_first_linkages scripts is.replies) lines → IsOutcome setup dict know scripts (printed_text kept ++ journal_with lines journal)
  outcome_is setup dict know scripts journal kept lines look is counted = record {
    journal = journal;
    replies = is.replies;
    lines = lines;
    legal = is.legal;
    whole = is.whole;
    counted = counted;
    is = ap (λ (l : List ℕ). l ++ journal_with lines journal) (sessions_printed 1 scripts is.replies kept is.are ∙ ap (λ (k : Look). joined (session_texts k 1 scripts is.replies)) look);
  }

-- ---- the shares of all sessions

pub same_many : (firsts : List (List Linkage)) (all : List PrintedSession) → HaveShares firsts all → length firsts ≡ length all
same_many [] [] have = refl
same_many [] (one ∷ all) have = absurd have
same_many (gs ∷ firsts) [] have = absurd have
same_many (gs ∷ firsts) (one ∷ all) have = let rest = same_many firsts all have.1 in omega (arith, rest)

pub share_at : (firsts : List (List Linkage)) (all : List PrintedSession) (i : ℕ) (one : PrintedSession) → HaveShares firsts all → i < length all → one ≡ get_or all i one → IsShare (2 ^ 32) (get_or firsts i []) one.share
share_at [] [] i one have inside is = absurd (omega (arith, inside))
share_at [] (x ∷ all) i one have inside is = absurd have
share_at (gs ∷ firsts) [] i one have inside is = absurd have
share_at (gs ∷ firsts) (x ∷ all) zero one have inside is = subst (λ (p : PrintedSession). IsShare (2 ^ 32) gs p.share) (sym is) have.0
share_at (gs ∷ firsts) (x ∷ all) (suc i) one have inside is = share_at firsts all i one have.1 (omega (arith, inside)) is

pub firsts_next : (firsts : List (List Linkage)) (i : ℕ) → i < length firsts → together (drop i firsts) ≡ get_or firsts i [] ++ together (drop (i + 1) firsts)
firsts_next firsts i inside =
    let cut : drop i firsts ≡ get_or firsts i [] ∷ drop (i + 1) firsts = rw add-one (drop-cons firsts i [] inside) in ap together cut

pub one_fewer : (all : List PrintedSession) (i : ℕ) (one : PrintedSession) → i < length all → length (drop i all) ≡ length (drop (i + 1) all) + 1
one_fewer all i one inside =
    let cut : drop i all ≡ get_or all i one ∷ drop (i + 1) all = rw add-one (drop-cons all i one inside) in
    let more = ap (λ (l : List PrintedSession). length l) cut in omega (arith, more)
