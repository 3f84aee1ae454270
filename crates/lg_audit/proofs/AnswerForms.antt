-- Answers, by what their first lines tell.
use Rattle.std.proofs.Common.{◌≡◌, ◌≢◌, ℕ, true, List, [], ◌∷◌, ◌++◌, drop, decimal, codes, Option, Some, None, refl, ap, sym, ◌∙◌, subst, eqb, true≢false}
use Rattle.std.specs.List.{flat_map, starts_with}
use Rattle.std.proofs.lemmas.Bool.Decides.{Decides-eqb}
use Rattle.std.proofs.lemmas.Slice.Eq.{starts_is}
use Rattle.lg_gram.specs.declared.listing.Bound.{Bound}
use Rattle.lg_gram.specs.declared.reply.CommandKind.TheVariants as kinds
use Rattle.lg_text.specs.Shown.{IsOneLine, closed}
use Rattle.lg_text.specs.Texts.{bound_pieces}
use Rattle.lg_audit.specs.Pieces.{HasNoBlank, IsNumber}
use Rattle.lg_audit.specs.Lines.{ShownItem, passes, fails, ShownPage, ShownReply, listed, beyond, published, refused, at, nothing_held, line, page_line}
use Rattle.lg_audit.specs.Documents.{item_lines, page_lines, IsPageInForm, IsBoundInForm, IsCause, IsReplyInForm, more_lines, unread_of}
use Rattle.lg_audit.specs.Fronts.{Leaves, HasNone, IsRead, Anything}
use Rattle.lg_audit.specs.Answers.{told_text, HasNoAnswer, IsAnswer, MayBeStats, HasNoStats}
use Rattle.lg_audit.proofs.Cuts.{has_blank, decimal_solid, behind_same}
use Rattle.lg_audit.proofs.Singles.{cut_front, joined, one_line}

-- ---- a line of numbers of disjuncts

module _ (text line rest : List ℕ) (single : IsOneLine line) (cut : text ≡ closed line ++ rest) where
  pub no_stats : starts_with eqb line (codes "stats ") ≢ true → IsRead MayBeStats unread_of HasNoStats text None text
  no_stats other = record { form = tt; is = refl; only = λ y s form ends is. by y s form is }
    where
      by : (y : Option (List ℕ)) (s : List ℕ) → MayBeStats y → Leaves (unread_of y) text s → s ≡ text
      by None s form is = sym is
      by (Some l) s form is = absurd (other (ap (λ (t : List ℕ). starts_with eqb t (codes "stats ")) (cut_front text line rest l s [] single form.0.0 cut is).0 ∙ form.0.1))

  pub some_stats : starts_with eqb line (codes "stats ") ≡ true → IsRead MayBeStats unread_of HasNoStats text (Some line) rest
  some_stats begins = record { form = ((single, begins), tt); is = cut ∙ one_line line rest; only = λ y s form ends is. by y s form ends is }
    where
      by : (y : Option (List ℕ)) (s : List ℕ) → MayBeStats y → HasNoStats s → Leaves (unread_of y) text s → s ≡ rest
      by None s form ends is =
          let front : line ≡ codes "stats " ++ drop 6 line = (starts_is Decides-eqb line (codes "stats ") (starts_with eqb line (codes "stats ")) refl).0 begins in
          let all : s ≡ closed (codes "stats " ++ drop 6 line) ++ rest = sym is ∙ cut ∙ ap (λ (l : List ℕ). closed l ++ rest) front in
          absurd (true≢false (sym (ap (λ (t : List ℕ). starts_with eqb t (codes "stats ")) all) ∙ ends))
      by (Some l) s form ends is = sym (cut_front text line rest l s [] single form.0.0 cut is).1

page_has_no_stats : (items : List ShownItem) (page : ShownPage) (s : List ℕ) → HasNoStats (flat_map closed (flat_map item_lines items ++ page_line page.last ∷ []) ++ s)
page_has_no_stats [] page s = refl
page_has_no_stats (passes n g us ∷ items) page s = refl
page_has_no_stats (fails n v ∷ items) page s = refl

-- ---- pages and bounds

module _ (told text : List ℕ) where
  no_version_and_bound : (v w : ℕ) (b : Bound) → IsNumber w → told ≡ codes "version " ++ (decimal v ++ 32 ∷ line (bound_pieces b)) → told ≡ codes "version " ++ decimal w → ⊥
  no_version_and_bound v w b fits e f =
      has_blank (decimal v) (line (bound_pieces b)) (subst HasNoBlank (behind_same (codes "version ") told (decimal w) (decimal v ++ 32 ∷ line (bound_pieces b)) f e) (decimal_solid w fits))

  pub is_beyond : (v : ℕ) (b : Bound) → IsNumber v × IsBoundInForm b × (told ≡ codes "version " ++ (decimal v ++ 32 ∷ line (bound_pieces b))) → IsAnswer kinds.Parse told text (beyond v b) text
  is_beyond v b found = record { form = (found.0, found.1); tells = found.2; is = refl; only = λ q s form tells is. by q s form tells is }
    where
      by : (q : ShownReply) (s : List ℕ) → IsReplyInForm kinds.Parse q → told ≡ told_text q → Leaves (more_lines q) text s → s ≡ text
      by (listed w stats page) s form tells is = absurd (no_version_and_bound v w b form.0 found.2 tells)
      by (beyond w c) s form tells is = sym is
      by _ s form tells is = absurd form

  module _ (no_bound : (v : ℕ) (b : Bound) → IsNumber v → IsBoundInForm b → told ≡ codes "version " ++ (decimal v ++ 32 ∷ line (bound_pieces b)) → ⊥) where
    module _ (stats : Option (List ℕ)) (after : List ℕ) (read : IsRead MayBeStats unread_of HasNoStats text stats after) where
      behind_stats : (w : ℕ) (o : Option (List ℕ)) (page : ShownPage) (s : List ℕ) → MayBeStats o → Leaves (unread_of o ++ page_lines page) text s → Leaves (page_lines page) after s
      behind_stats w o page s form is = sym (read.only o (flat_map closed (page_lines page) ++ s) form (page_has_no_stats page.items page s) (is ∙ joined (unread_of o) (page_lines page) s))

      pub no_listed : HasNone IsPageInForm page_lines after → HasNoAnswer kinds.Parse told text
      no_listed none = record { none = λ r s form tells is. by r s form tells is }
        where
          by : (r : ShownReply) (s : List ℕ) → IsReplyInForm kinds.Parse r → told ≡ told_text r → Leaves (more_lines r) text s → ⊥
          by (listed w o page) s form tells is = none.none page s form.2 (behind_stats w o page s form.1 is)
          by (beyond w c) s form tells is = no_bound w c form.0 form.1 tells
          by _ s form tells is = form

      pub is_listed : (v : ℕ) (page : ShownPage) (rest : List ℕ) → IsNumber v × (told ≡ codes "version " ++ decimal v) → IsRead IsPageInForm page_lines Anything after page rest
          → IsAnswer kinds.Parse told text (listed v stats page) rest
      is_listed v page rest found last = record {
        form = (found.0, read.form, last.form);
        tells = found.1;
        is = read.is ∙ ap (λ (t : List ℕ). flat_map closed (unread_of stats) ++ t) last.is ∙ sym (joined (unread_of stats) (page_lines page) rest);
        only = λ q s form tells is. by q s form tells is;
      }
        where
          by : (q : ShownReply) (s : List ℕ) → IsReplyInForm kinds.Parse q → told ≡ told_text q → Leaves (more_lines q) text s → s ≡ rest
          by (listed w o p) s form tells is = last.only p s form.2 tt (behind_stats w o p s form.1 is)
          by (beyond w c) s form tells is = absurd (no_bound w c form.0 form.1 tells)
          by _ s form tells is = absurd form

-- ---- more

module _ (told text : List ℕ) where
  pub is_nothing : told ≡ codes "nothing held" → IsAnswer kinds.More told text nothing_held text
  is_nothing found = record { form = tt; tells = found; is = refl; only = λ q s form tells is. by q s form tells is }
    where
      by : (q : ShownReply) (s : List ℕ) → IsReplyInForm kinds.More q → told ≡ told_text q → Leaves (more_lines q) text s → s ≡ text
      by (listed w stats page) s form tells is = absurd (true≢false (ap (λ (t : List ℕ). starts_with eqb t (codes "nothing")) (sym found ∙ tells)))
      by nothing_held s form tells is = sym is
      by _ s form tells is = absurd form

  module _ (something : told ≢ codes "nothing held") where
    without_stats : (o : Option (List ℕ)) (page : ShownPage) (s : List ℕ) → o ≡ None → Leaves (unread_of o ++ page_lines page) text s → Leaves (page_lines page) text s
    without_stats o page s none is = is ∙ ap (λ (p : Option (List ℕ)). flat_map closed (unread_of p ++ page_lines page) ++ s) none

    pub no_more_page : HasNone IsPageInForm page_lines text → HasNoAnswer kinds.More told text
    no_more_page none = record { none = λ r s form tells is. by r s form tells is }
      where
        by : (r : ShownReply) (s : List ℕ) → IsReplyInForm kinds.More r → told ≡ told_text r → Leaves (more_lines r) text s → ⊥
        by (listed w o page) s form tells is = none.none page s form.2 (without_stats o page s form.1 is)
        by nothing_held s form tells is = something tells
        by _ s form tells is = form

    pub is_more : (v : ℕ) (page : ShownPage) (rest : List ℕ) → IsNumber v × (told ≡ codes "version " ++ decimal v) → IsRead IsPageInForm page_lines Anything text page rest
        → IsAnswer kinds.More told text (listed v None page) rest
    is_more v page rest found last = record { form = (found.0, refl, last.form); tells = found.1; is = last.is; only = λ q s form tells is. by q s form tells is }
      where
        by : (q : ShownReply) (s : List ℕ) → IsReplyInForm kinds.More q → told ≡ told_text q → Leaves (more_lines q) text s → s ≡ rest
        by (listed w o p) s form tells is = last.only p s form.2 tt (without_stats o p s form.1 is)
        by nothing_held s form tells is = absurd (something tells)
        by _ s form tells is = absurd form

  -- ---- edits and versions

  -- behind the first line of the answer to an edit nothing stands
  edit_only : (q : ShownReply) (s : List ℕ) → IsReplyInForm kinds.Set q → Leaves (more_lines q) text s → s ≡ text
  edit_only (published v) s form is = sym is
  edit_only (refused v cause) s form is = sym is
  edit_only _ s form is = absurd form

  pub is_published : (v : ℕ) → IsNumber v × (told ≡ codes "version " ++ decimal v) → IsAnswer kinds.Set told text (published v) text
  is_published v found = record { form = found.0; tells = found.1; is = refl; only = λ q s form tells is. edit_only q s form is }

  pub is_refused : (v : ℕ) (cause : List ℕ) → IsNumber v × IsCause cause × (told ≡ codes "refused at " ++ (decimal v ++ 58 ∷ 32 ∷ cause)) → IsAnswer kinds.Set told text (refused v cause) text
  is_refused v cause found = record { form = (found.0, found.1); tells = found.2; is = refl; only = λ q s form tells is. edit_only q s form is }

  pub no_edit : ((v : ℕ) → IsNumber v → told ≡ codes "version " ++ decimal v → ⊥)
      → ((v : ℕ) (cause : List ℕ) → IsNumber v → IsCause cause → told ≡ codes "refused at " ++ (decimal v ++ 58 ∷ 32 ∷ cause) → ⊥) → HasNoAnswer kinds.Set told text
  no_edit no_v no_r = record { none = λ r s form tells is. by r form tells }
    where
      by : (r : ShownReply) → IsReplyInForm kinds.Set r → told ≡ told_text r → ⊥
      by (published v) form tells = no_v v form tells
      by (refused v cause) form tells = no_r v cause form.0 form.1 tells
      by _ form tells = form

  pub is_at : (v : ℕ) → IsNumber v → told ≡ decimal v → IsAnswer kinds.Version told text (at v) text
  is_at v fits found = record { form = fits; tells = found; is = refl; only = λ q s form tells is. by q s form is }
    where
      by : (q : ShownReply) (s : List ℕ) → IsReplyInForm kinds.Version q → Leaves (more_lines q) text s → s ≡ text
      by (at w) s form is = sym is
      by _ s form is = absurd form
