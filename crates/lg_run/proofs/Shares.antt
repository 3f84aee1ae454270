-- Shares of usage: what they have counted, and that there is room for more.
use Rattle.std.proofs.Common.{◌≡◌, ℕ, ◌+◌, ◌^◌, ◌<◌, ◌≤◌, Bool, true, false, cond, List, [], ◌∷◌, ◌++◌, All, is_none, refl, sym, ap, subst, ◌∙◌, append-nil, append_assoc, arith}
use Rattle.std.proofs.lemmas.List.Elements.{All-drop}
use Rattle.lg_gram.specs.Linkages.{Linkage, IsLinkage}
use Rattle.lg_gram.specs.declared.listing.PageItem.{PageItem}
use Rattle.lg_gram.specs.declared.listing.Token.{Token}
use Rattle.lg_gram.specs.declared.reply.CommandKind.{CommandKind}
use Rattle.lg_gram.specs.declared.reply.CommandKind.TheVariants as kinds
use Rattle.lg_gram.specs.declared.reply.Reply.{Reply}
use Rattle.lg_gram.specs.declared.reply.Reply.TheVariants.{Listed}
use Rattle.lg_text.specs.Replies.{IsPrintableReply}
use Rattle.lg_text.specs.Texts.{IsPrintable}
use Rattle.lg_usage.specs.Totals.{Totals, AreTotals, usage_text, Adds, IsSum, IsGood, HasRoomFor, MayBeAdded, no_totals}
use Rattle.lg_usage.specs.Shares.{TotalsGrow}
use Rattle.lg_usage.specs.Bounds.{UsesAreFew}
use Rattle.lg_run.specs.Counted.{IsShare}
use Rattle.lg_run.specs.Documents.{first_passing, items_of, first_linkage, AreUsageLines}

-- ---- what a share has counted

pub share_none : TotalsGrow → IsShare 0 [] no_totals
share_none grow = record {
  counted = grow.none;
  words = λ text. let e = grow.none.words.counts text in omega (arith, e);
  labels = λ text. let e = grow.none.labels.counts text in omega (arith, e);
}

pub share_weaker : (n m : ℕ) (gs : List Linkage) (t : Totals) → n ≤ m → IsShare n gs t → IsShare m gs t
share_weaker n m gs t less share = record {
  counted = share.counted;
  words = λ text. let w = share.words text in omega (arith, w, less);
  labels = λ text. let w = share.labels text in omega (arith, w, less);
}

-- one linkage more
module _ (uses : UsesAreFew) (n : ℕ) (gs : List Linkage) (g : Linkage) (t : Totals) (share : IsShare n gs t) (is : IsLinkage g) (good : IsGood g) where
  pub room_for : n < 2 ^ 32 → HasRoomFor t g
  room_for few = record {
    words = λ text. let u = uses g is good text in let w = share.words text in omega (arith, u.0, w, few);
    labels = λ text. let u = uses g is good text in let w = share.labels text in omega (arith, u.1, w, few);
  }

  pub share_more : TotalsGrow → (u : Totals) → Adds t g u → IsShare (n + 1) (gs ++ g ∷ []) u
  share_more grow u adds = record {
    counted = grow.one gs g t u share.counted adds;
    words = λ text. let f = uses g is good text in let w = share.words text in let e = adds.words.counts text in omega (arith, f.0, w, e);
    labels = λ text. let f = uses g is good text in let w = share.labels text in let e = adds.labels.counts text in omega (arith, f.1, w, e);
  }

-- or none
pub share_same : (n : ℕ) (gs none : List Linkage) (t : Totals) → none ≡ [] → IsShare n gs t → IsShare (n + 1) (gs ++ none) t
share_same n gs none t e share = subst (λ (l : List Linkage). IsShare (n + 1) l t) (sym (ap (λ (l : List Linkage). gs ++ l) e ∙ append-nil gs)) (share_weaker n (n + 1) gs t (omega arith) share)

-- two shares
module _ (n m : ℕ) (gs hs : List Linkage) (t u : Totals) (one : IsShare n gs t) (other : IsShare m hs u) where
  pub may_add : n + m ≤ 2 ^ 38 → MayBeAdded t u
  may_add few = record {
    words = λ text. let a = one.words text in let b = other.words text in omega (arith, a, b, few);
    labels = λ text. let a = one.labels text in let b = other.labels text in omega (arith, a, b, few);
  }

  pub share_both : TotalsGrow → (sum : Totals) → IsSum t u sum → IsShare (n + m) (gs ++ hs) sum
  share_both grow sum is = record {
    counted = grow.both gs hs t u sum one.counted other.counted is;
    words = λ text. let a = one.words text in let b = other.words text in let e = is.words.counts text in omega (arith, a, b, e);
    labels = λ text. let a = one.labels text in let b = other.labels text in let e = is.labels.counts text in omega (arith, a, b, e);
  }

-- ---- one answer after another

-- some of the linkages are counted, and these are left; at most n are counted in all
pub record SharesSoFar (all rest : List Linkage) (n left : ℕ) (t : Totals) : Type 0 where
  pub done : List Linkage
  pub count : ℕ
  pub share : IsShare count done t
  pub split : all ≡ done ++ rest
  pub few : count + left ≤ n

pub none_so_far : TotalsGrow → (all : List Linkage) (n left : ℕ) (t : Totals) → t ≡ no_totals → left ≤ n → SharesSoFar all all n left t
none_so_far grow all n left t e less = record { done = []; count = 0; share = subst (IsShare 0 []) (sym e) (share_none grow); split = refl; few = omega (arith, less) }

pub more_so_far : {all rest : List Linkage} {n left : ℕ} {t : Totals} (u : Totals) (piece behind : List Linkage) (k later : ℕ) (w : SharesSoFar all rest n left t) → rest ≡ piece ++ behind → k + later ≤ left
    → IsShare (w.count + k) (w.done ++ piece) u → SharesSoFar all behind n later u
more_so_far u piece behind k later w e less share = record {
  done = w.done ++ piece;
  count = w.count + k;
  share = share;
  split = w.split ∙ ap (λ (l : List Linkage). w.done ++ l) e ∙ sym (append_assoc w.done piece behind);
  few = omega (arith, w.few, less);
}

pub all_so_far : {all rest : List Linkage} {n left : ℕ} {t : Totals} → SharesSoFar all rest n left t → rest ≡ [] → IsShare n all t
all_so_far {all} {rest} {n} {left} {t} w e =
    subst (λ (l : List Linkage). IsShare n l t) (sym (w.split ∙ ap (λ (l : List Linkage). w.done ++ l) e ∙ append-nil w.done)) (share_weaker w.count n w.done t (omega (arith, w.few)) w.share)

-- ---- lines

pub lines_asked : (asked : Bool) (gs : List Linkage) (lines : List ℕ) (t : Totals) → asked ≡ true → AreTotals gs t → lines ≡ usage_text t → AreUsageLines asked gs lines
lines_asked true gs lines t e are is = (t, are, is)
lines_asked false gs lines t e are is = absurd (cc e)

-- ---- first linkages are good

good_by : (b : Bool) (g h : Linkage) (rest : List Linkage) → IsGood g → ((k : Linkage) → rest ≡ k ∷ [] → IsGood k) → cond b (g ∷ []) rest ≡ h ∷ [] → IsGood h
good_by true g h rest good others e = let same : g ≡ h = cc e in subst IsGood same good
good_by false g h rest good others e = others h e

good_passing : (tokens : List Token) (items : List PageItem) → All (λ item. IsPrintable tokens item.linkage) items → (g : Linkage) → first_passing items ≡ g ∷ [] → IsGood g
good_passing tokens [] all g e = absurd (cc e)
good_passing tokens (item ∷ items) all g e =
    let first = all 0 item (omega arith) in
    good_by (is_none item.broken) item.linkage g (first_passing items) (record { positions = first.positions; good = first.good })
    (good_passing tokens items (All-drop (λ item. IsPrintable tokens item.linkage) 1 (item ∷ items) all)) e

good_reply : (r : Reply) → IsPrintableReply r → (g : Linkage) → first_passing (items_of r) ≡ g ∷ [] → IsGood g
good_reply (Listed version tokens page stats) all g e = good_passing tokens page.items all g e
good_reply _ all g e = absurd (cc e)

pub good_first : (kind : CommandKind) (r : Reply) → IsPrintableReply r → (g : Linkage) → first_linkage kind r ≡ g ∷ [] → IsGood g
good_first kinds.Parse r printable g e = good_reply r printable g e
good_first kinds.List r printable g e = good_reply r printable g e
good_first _ r printable g e = absurd (cc e)
