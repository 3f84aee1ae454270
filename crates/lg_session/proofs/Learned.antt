-- What a session learns, one edit after another.
use Rattle.std.proofs.Common.{◌≡◌, ℕ, ◌+◌, ◌≤◌, Bool, true, false, eqb, eqb-true, List, [], ◌∷◌, ◌++◌, length, Some, refl, ap, sym, subst, ◌∙◌, arith, append_assoc, append-nil, length-append}
use Rattle.std.specs.List.{list_any}
use Rattle.std.proofs.lemmas.Bool.{or_from, or_parts, both_ways, false_from_ne_true}
use Rattle.std.proofs.lemmas.List.{map-append}
use Rattle.std.proofs.lemmas.List.Folds.{list_any-append}
use Rattle.lg_gram.specs.declared.edit.EditRefusal.{EditRefusal}
use Rattle.lg_gram.specs.declared.reply.Place.{Place}
use Rattle.lg_gram.specs.declared.reply.Reply.{Reply}
use Rattle.lg_gram.specs.declared.reply.Reply.TheVariants.{Refused}
use Rattle.lg_dict.specs.Dictionary.{Dictionary}
use Rattle.lg_edit.specs.Edits.{EditView, accept, after_edit}
use Rattle.lg_log.specs.Codes.{is_of}
use Rattle.lg_log.specs.Passes.{Standing, with_code, at_end}
use Rattle.lg_script.specs.Commands.{CommandView}
use Rattle.lg_script.specs.Histories.{command_at, after_command, dictionary_after, unknown_name}
use Rattle.lg_script.specs.Codes.{place_of, places_of}
use Rattle.lg_session.specs.Learning as walk
use Rattle.lg_session.specs.Learning.{Known, Learns, Walks, Nowhere, Accepts, CatchesUp, IsEdited}

-- an edit that is refused changes nothing
pub refused_changes_nothing : (dict : Dictionary) (edit : EditView) (cause : EditRefusal) → accept dict edit ≡ Some cause → after_edit dict edit ≡ dict
refused_changes_nothing dict edit cause is = rw is refl

pub after_append : (scripts : List (List CommandView)) (dict : Dictionary) (first then : List Place)
    → dictionary_after scripts dict (first ++ then) ≡ dictionary_after scripts (dictionary_after scripts dict first) then
after_append scripts dict [] then = refl
after_append scripts dict (p ∷ ps) then = after_append scripts (after_command dict (command_at scripts p)) ps then

-- a code that passes a test is not among codes that do not
not_among : (p : ℕ → Bool) (q : ℕ) → p q ≡ true → (codes : List ℕ) → list_any p codes ≡ false → list_any (eqb q) codes ≡ false
not_among p q passes [] none = refl
not_among p q passes (c ∷ cs) none =
    let parts = or_parts (p c) (list_any p cs) none in
    or_from (eqb q c) (list_any (eqb q) cs) (false_from_ne_true (eqb q c) (λ e. both_ways (p c) parts.0 (ap p (sym (eqb-true q c e)) ∙ passes))) (not_among p q passes cs parts.1)

module _ (scripts : List (List CommandView)) where
  pub learns_nothing : (x : Known) → Learns scripts x x
  learns_nothing x = record {
    same_log = refl;
    same_sessions = refl;
    codes = [];
    seen = sym (append-nil x.0.seen);
    others = refl;
    applied = refl;
    ends = omega arith;
  }

  pub learns_more : (x y z : Known) → Learns scripts x y → Learns scripts y z → Learns scripts x z
  learns_more x y z first then = record {
    same_log = then.same_log ∙ first.same_log;
    same_sessions = then.same_sessions ∙ first.same_sessions;
    codes = first.codes ++ then.codes;
    seen = then.seen ∙ ap (λ (l : List ℕ). l ++ then.codes) first.seen ∙ append_assoc x.0.seen first.codes then.codes;
    others = list_any-append (is_of x.0.sessions) first.codes then.codes
        ∙ or_from _ _ first.others (subst (λ (sessions : List ℕ). list_any (is_of sessions) then.codes ≡ false) first.same_sessions then.others);
    applied = then.applied ∙ ap (λ (dict : Dictionary). dictionary_after scripts dict (places_of scripts then.codes)) first.applied
        ∙ sym (after_append scripts x.1 (places_of scripts first.codes) (places_of scripts then.codes)) ∙ ap (dictionary_after scripts x.1) (sym (map-append (place_of scripts) first.codes then.codes));
    ends = omega (arith, first.ends, then.ends);
  }

  -- one code was found
  pub learns_code : (x y : Known) (code : ℕ) → y.0 ≡ with_code x.0 code → is_of x.0.sessions code ≡ false → y.1 ≡ dictionary_after scripts x.1 (place_of scripts code ∷ []) → Learns scripts x y
  learns_code x y code is other applied = record {
    same_log = ap (λ (p : Standing). p.log) is;
    same_sessions = ap (λ (p : Standing). p.sessions) is;
    codes = code ∷ [];
    seen = ap (λ (p : Standing). p.seen) is;
    others = or_from _ _ other refl;
    applied = applied;
    ends = omega (arith, ap (λ (p : Standing). p.ends) is);
  }

  -- what was seen is longer by one code at least
  pub one_longer : (x y : Known) (code : ℕ) → y.0 ≡ with_code x.0 code → length y.0.seen ≡ length x.0.seen + 1
  one_longer x y code is = ap (λ (p : Standing). length p.seen) is ∙ length-append x.0.seen (code ∷ [])

  pub no_shorter : (x y : Known) → Learns scripts x y → length x.0.seen ≤ length y.0.seen
  no_shorter x y learns = omega (arith, ap length learns.seen, length-append x.0.seen learns.codes)

  -- a code of the pass's own is as new as before
  pub still_fresh : (x y : Known) (code : ℕ) → Learns scripts x y → is_of x.0.sessions code ≡ true → list_any (eqb code) x.0.seen ≡ false → list_any (eqb code) y.0.seen ≡ false
  still_fresh x y code learns own fresh =
      ap (list_any (eqb code)) learns.seen ∙ list_any-append (eqb code) x.0.seen learns.codes ∙ or_from _ _ fresh (not_among (is_of x.0.sessions) code own learns.codes learns.others)

  -- ---- step by step

  module _ (Over : Dictionary → Type 0) where
    -- one code was found
    pub walks_code : (x y z : Known) (code : ℕ) → Walks scripts Over x y → z.0 ≡ with_code y.0 code → is_of y.0.sessions code ≡ false → z.1 ≡ dictionary_after scripts y.1 (place_of scripts code ∷ []) → Walks scripts Over x z
    walks_code x y z code before is other applied = subst (Walks scripts Over x) (λ i. (sym is i, sym applied i)) (walk.finds x y code before other)

    -- without a look at the end
    walks_more : (x y z : Known) → Walks scripts Over x y → Walks scripts Nowhere y z → Walks scripts Over x z
    walks_more x _ _ before (walk.rests y) = before
    walks_more x _ _ before (walk.finds y z code then other) = walk.finds x z code (walks_more x y z before then) other
    walks_more x _ _ before (walk.passes y z then never) = absurd never

    -- one more look found the end
    pub up_now : (x y z : Known) → Learns scripts x y → Walks scripts Over x y → z ≡ (at_end y.0, y.1) → CatchesUp scripts Over x z
    up_now x y z learns walks is = subst (CatchesUp scripts Over x) (sym is) (record {
      learns = record { same_log = learns.same_log; same_sessions = learns.same_sessions; codes = learns.codes; seen = learns.seen; others = learns.others; applied = learns.applied; ends = omega (arith, learns.ends) };
      meets = record { looked = omega (arith, learns.ends); last = refl };
      walks = record { then = y; walks = walks; last = refl };
    })

    -- that look leaves the dictionary
    pub walks_past : (x y z : Known) → Walks scripts Over x y → CatchesUp scripts Nowhere y z → Over z.1 → Walks scripts Over x z
    walks_past x y z before up over =
        let w = up.walks in
        subst (Walks scripts Over x) (sym w.last) (walk.passes x w.then (walks_more x y w.then before w.walks) (subst (λ (k : Known). Over k.1) w.last over))

    -- to the end of the history
    pub up_more : (x y z : Known) → Learns scripts x y → Walks scripts Over x y → CatchesUp scripts Nowhere y z → CatchesUp scripts Over x z
    up_more x y z first before up = record {
      learns = learns_more x y z first up.learns;
      meets = record { looked = omega (arith, first.ends, up.meets.looked); last = up.meets.last };
      walks = record { then = up.walks.then; walks = walks_more x y up.walks.then before up.walks.walks; last = up.walks.last };
    }

  pub refused_so : (x y : Known) (edit : EditView) (cause : EditRefusal) (code : ℕ) (reply : Reply) → CatchesUp scripts (Accepts edit) x y → Some cause ≡ accept y.1 edit
      → (name : List ℕ) × (reply ≡ Refused (length y.0.seen) cause name) × (name ≡ unknown_name edit cause) → IsEdited scripts code edit x y reply
  refused_so x y edit cause code reply up refused told =
      rw told.1 (record { up = up; refused = sym refused; named = told.2; newest = refl })
