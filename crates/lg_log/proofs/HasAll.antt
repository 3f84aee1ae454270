-- Lists that begin another, with all codes of some sessions.
use Rattle.std.proofs.Common.{◌≡◌, ℕ, ◌<◌, ◌≤◌, true, false, eqb, leb, List, [], ◌∷◌, ◌++◌, length, refl, ap, sym, ◌∙◌, subst, arith, append_assoc, append-nil, leb-true, leb-false}
use Rattle.std.specs.List.{list_any}
use Rattle.std.proofs.lemmas.Bool.{or_parts, or_from, or_left, or_right, cond_both, both_ways, false_from_ne_true}
use Rattle.std.proofs.lemmas.List.Folds.{list_any-append}
use Rattle.lg_log.specs.Codes.{code_session, has_session, is_of}
use Rattle.lg_log.specs.Passes.{longer_of, HasAllOf}
use Rattle.lg_log.specs.Rule.{JoinsCompose, JoinsKeepBoth}
use Rattle.lg_log.proofs.Lists.{none_parts, none_push, shorter_begins}

-- a list begins itself
pub has_itself : (sessions seen : List ℕ) → HasAllOf sessions seen seen
has_itself sessions seen = record { rest = []; begins = sym (append-nil seen); none = refl }

-- the whole list gets a code of no such session
pub has_more : (sessions seen whole : List ℕ) (code : ℕ) → is_of sessions code ≡ false → HasAllOf sessions seen whole → HasAllOf sessions seen (whole ++ code ∷ [])
has_more sessions seen whole code other h = record {
  rest = h.rest ++ code ∷ [];
  begins = ap (λ (l : List ℕ). l ++ code ∷ []) h.begins ∙ append_assoc seen h.rest (code ∷ []);
  none = none_push (is_of sessions) h.rest code h.none other;
}

-- a code of fewer sessions is of these
none_of_fewer : (sessions fewer : List ℕ) → ((session : ℕ) → has_session fewer session ≡ true → has_session sessions session ≡ true)
    → (codes : List ℕ) → list_any (is_of sessions) codes ≡ false → list_any (is_of fewer) codes ≡ false
none_of_fewer sessions fewer among [] e = refl
none_of_fewer sessions fewer among (c ∷ cs) e =
    let parts = or_parts (is_of sessions c) (list_any (is_of sessions) cs) e in
    or_from (is_of fewer c) (list_any (is_of fewer) cs)
    (false_from_ne_true (is_of fewer c) (λ mine. both_ways (is_of sessions c) parts.0 (among (code_session c) mine)))
    (none_of_fewer sessions fewer among cs parts.1)

pub has_of_fewer : (sessions fewer seen whole : List ℕ) → ((session : ℕ) → has_session fewer session ≡ true → has_session sessions session ≡ true)
    → HasAllOf sessions seen whole → HasAllOf fewer seen whole
has_of_fewer sessions fewer seen whole among h = record { rest = h.rest; begins = h.begins; none = none_of_fewer sessions fewer among h.rest h.none }

none_of_both : (a b codes : List ℕ) → list_any (is_of a) codes ≡ false → list_any (is_of b) codes ≡ false → list_any (is_of (a ++ b)) codes ≡ false
none_of_both a b [] e f = refl
none_of_both a b (c ∷ cs) e f =
    let left = or_parts (is_of a c) (list_any (is_of a) cs) e in
    let right = or_parts (is_of b c) (list_any (is_of b) cs) f in
    or_from (is_of (a ++ b) c) (list_any (is_of (a ++ b)) cs) (list_any-append (eqb (code_session c)) a b ∙ or_from (is_of a c) (is_of b c) left.0 right.0) (none_of_both a b cs left.1 right.1)

-- of two beginnings of the whole, the shorter has all codes of its sessions in the longer too
pub has_of_longer : (sessions seen whole longer rest : List ℕ) → HasAllOf sessions seen whole → whole ≡ longer ++ rest → length seen ≤ length longer
    → HasAllOf sessions seen longer × (list_any (is_of sessions) rest ≡ false)
has_of_longer sessions seen whole longer rest h is le =
    let t = shorter_begins seen h.rest longer rest (sym h.begins ∙ is) le in
    let parts = none_parts (is_of sessions) t.0 rest (subst (λ (l : List ℕ). list_any (is_of sessions) l ≡ false) t.2 h.none) in
    (record { rest = t.0; begins = t.1; none = parts.0 }, parts.1)

-- the longer of two beginnings has all codes of the sessions of both
pub has_joined : (a xs b ys whole : List ℕ) → HasAllOf a xs whole → HasAllOf b ys whole
    → HasAllOf (a ++ b) (longer_of xs ys) whole × HasAllOf a xs (longer_of xs ys) × HasAllOf b ys (longer_of xs ys)
has_joined a xs b ys whole f g = cond_both (leb (length ys) (length xs)) xs ys
    (λ (l : List ℕ). HasAllOf (a ++ b) l whole × HasAllOf a xs l × HasAllOf b ys l)
    (λ e.
    let t = has_of_longer b ys whole xs f.rest g f.begins (leb-true _ _ e) in
    (record { rest = f.rest; begins = f.begins; none = none_of_both a b f.rest f.none t.1 }, has_itself a xs, t.0))
    (λ e.
    let less : length xs < length ys = leb-false _ _ e in
    let t = has_of_longer a xs whole ys g.rest f g.begins (omega arith) in
    (record { rest = g.rest; begins = g.begins; none = none_of_both a b g.rest t.1 g.none }, t.0, has_itself b ys))

pub joins_compose : JoinsCompose
joins_compose sessions carried seen joined whole first second among = record {
  rest = first.rest ++ second.rest;
  begins = second.begins ∙ ap (λ (l : List ℕ). l ++ second.rest) first.begins ∙ append_assoc seen first.rest second.rest;
  none = list_any-append (is_of sessions) first.rest second.rest
      ∙ or_from (list_any (is_of sessions) first.rest) (list_any (is_of sessions) second.rest) first.none (none_of_fewer carried sessions among second.rest second.none);
}

-- the sessions of either are of both
pub first_of_both : (mine others : List ℕ) (session : ℕ) → has_session mine session ≡ true → has_session (mine ++ others) session ≡ true
first_of_both mine others session has = list_any-append (eqb session) mine others ∙ or_left (has_session mine session) (has_session others session) has

pub second_of_both : (mine others : List ℕ) (session : ℕ) → has_session others session ≡ true → has_session (mine ++ others) session ≡ true
second_of_both mine others session has = list_any-append (eqb session) mine others ∙ or_right (has_session mine session) (has_session others session) has

pub joins_keep_both : JoinsKeepBoth
joins_keep_both mine others seen_by_me seen_by_other joined whole f g h = (
  joins_compose mine (mine ++ others) seen_by_me joined whole f h (first_of_both mine others),
  joins_compose others (mine ++ others) seen_by_other joined whole g h (second_of_both mine others),
)
