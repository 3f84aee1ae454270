-- Sites that are narrowed still allow all links.
use Rattle.std.proofs.Common.{◌≡◌, ℕ, ◌+◌, ◌-◌, ◌<◌, ◌≤◌, List, length, set, refl, sym, ap, ◌∙◌, subst, Some, inl, inr, Bool, true, false, not, arith}
use Rattle.std.specs.List.{slice_get}
use Rattle.std.proofs.lemmas.Bool.{cases_eq, cases_lt}
use Rattle.std.proofs.lemmas.Option.{same_Some, slice_get_within}
use Rattle.std.proofs.lemmas.List.{length-set}
use Rattle.std.proofs.lemmas.Grind.{elements}
use Rattle.lg_gram.specs.Connectors.{Connector}
use Rattle.lg_gram.specs.Linkages.{Linkage, link_length}
use Rattle.lg_gram.specs.Rules.{HasLink}
use Rattle.lg_gram.specs.declared.linkage.Link.{Link}
use Rattle.lg_sharpen.specs.Sites.{own, place_on, across, MatchOn, Holds, HasPartner, IsFrom, IsBelow, IsFromOf, IsEndOf, IsBeforeOf, IsBehindOf, IsAfter, IsAhead}
use Rattle.lg_sharpen.specs.Bounds.{Fits, IsNearest, Needs, AllowsGaps, Allows, Covers, AllowsAll, IsNarrowed, Narrows, NarrowsAll}
use Rattle.lg_member.specs.Cells.{Table}
use Rattle.lg_member.specs.declared.side.Side.{Side}
use Rattle.lg_sharpen.specs.Filling.{Gaps, MaySpan}
use Rattle.lg_sharpen.specs.declared.site.Site.{Site}
use Rattle.lg_sharpen.specs.declared.site.Span.{Span}
use Rattle.lg_sharpen.proofs.Ends.{longer, joined, is_across, short_on, covered, near_link, farther_cross, before_fit, before_is, behind_is, needs_fit, needs_fit_other}

match_same : (right : Bool) (a b c d : Connector) → a ≡ c → b ≡ d → MatchOn right a b → MatchOn right c d
match_same right a b c d e f m = subst (λ z. MatchOn right z d) e (subst (λ z. MatchOn right a z) f m)

-- a link has a partner of its site in the table, over its length
has_partner : (right : Bool) (most : ℕ) (gaps : Gaps) (i : ℕ) (table : Table Site) (g : Linkage) → Fits most g → AllowsGaps g gaps → AllowsAll g (not right) table → (l : Link) → HasLink g l → own right l ≡ i
    → (s : Site) → Allows g right l s → HasPartner right most gaps i table s (link_length l)
has_partner right most gaps i table g f spans all l h o s a =
    let u = all l h in
    let j = joined most g f right l h in
    let far = subst (λ z. own (not right) l ≡ across right z (link_length l)) o (is_across right l (f.rules.matched.forward l h)) in
    let x : j.0 ≡ s.connector = same_Some j.0 s.connector (sym j.2 ∙ a.connector) in
    let y : j.1 ≡ u.0.connector = same_Some j.1 u.0.connector (sym j.3 ∙ u.2.connector) in (
      u.0,
      subst (λ z. Holds table z u.0) far u.1,
      record {
        from = u.2.from;
        end = u.2.end;
        own = λ n. subst (λ z. MaySpan right gaps z (link_length l)) o (spans right l h (a.nearest n));
        lone = λ n. record {
          span = subst (λ z. MaySpan (not right) gaps z (link_length l)) far (spans (not right) l h (u.2.nearest n));
          short = λ m. short_on most g f right l h (a.nearest m) (u.2.nearest n);
        };
        later = λ n m. farther_cross most g f right l h s.behind u.0.behind (a.later n) (u.2.later m);
        before = before_fit most g f right l h s.before u.0.before a.before u.2.before;
        behind = λ n. needs_fit most g f right l h s.behind u.0.need (a.later n) u.2.need;
        beyond = λ n. needs_fit_other most g f right l h u.0.behind s.need (u.2.later n) a.need;
        match_at = match_same right j.0 j.1 s.connector u.0.connector x y j.4;
      },
    )

-- the distances that the sites beside a place leave have the length of its links
left_by_sides : (right : Bool) (most i : ℕ) (g : Linkage) → Fits most g → (sites : List Site) (p : ℕ) (s : Site) (u : Span) → slice_get sites p ≡ Some s → IsFromOf sites p u.from → IsEndOf sites p u.end
    → Covers g right i sites → (l : Link) → HasLink g l → own right l ≡ i → place_on right l ≡ p → Allows g right l s × (u.from ≤ link_length l) × (link_length l < u.end)
left_by_sides right most i g f sites p s u at from end cov l h o pl =
    let c = cov.each l h o in
    let es : c.0 ≡ s = same_Some c.0 s (sym c.1 ∙ subst (λ z. slice_get sites z ≡ Some s) (sym pl) at) in
    let a : Allows g right l s = subst (λ z. Allows g right l z) es c.2 in
    let before : (q : ℕ) (t : Site) → q + 1 ≡ p → slice_get sites q ≡ Some t → t.span.from < link_length l =
    λ q t e tq.
    let k = covered most g f right i sites cov q t tq (slice_get_within sites q t tq) in
    let kp = k.3 in
    let less = longer most g f right k.0 l k.1 h (k.2 ∙ sym o) (omega arith) in
    let kf = k.4.from in
    omega arith in
    let after : (t : Site) → slice_get sites (p + 1) ≡ Some t → link_length l + 1 < t.span.end =
    λ t tq.
    let k = covered most g f right i sites cov (p + 1) t tq (slice_get_within sites (p + 1) t tq) in
    let kp = k.3 in
    let less = longer most g f right l k.0 h k.1 (o ∙ sym k.2) (omega arith) in
    let kf = k.4.end in
    omega arith in
    (a, from (link_length l) s at a.from before, end (link_length l) s at a.end after)

-- a site of a place by what stands beside it
pub record IsBeside (sites : List Site) (p : ℕ) (s r : Site) : Type 0 where
  pub connector : r.connector ≡ s.connector
  pub from : IsFromOf sites p r.span.from
  pub end : IsEndOf sites p r.span.end
  pub later : r.later ≡ s.later
  pub before : IsBeforeOf sites p r.before
  pub behind : IsBehindOf sites p r.behind
  pub need : r.need ≡ s.need

allows_beside : (right : Bool) (most i : ℕ) (g : Linkage) → Fits most g → (sites : List Site) (p : ℕ) (s r : Site) → slice_get sites p ≡ Some s → IsBeside sites p s r → Covers g right i sites
    → (l : Link) → HasLink g l → own right l ≡ i → place_on right l ≡ p → (Allows g right l s → r.nearest ≡ true → IsNearest g right l) → Allows g right l r
allows_beside right most i g f sites p s r at b cov l h o pl near =
    let x = left_by_sides right most i g f sites p s r.span at b.from b.end cov l h o pl in
    let a = x.0 in
    record {
      connector = a.connector ∙ ap (λ z. Some z) (sym b.connector);
      from = x.1;
      end = x.2;
      nearest = near a;
      later = λ n. behind_is most g f right i sites cov l h o p r.behind pl s at b.behind (a.later (sym b.later ∙ n));
      before = before_is most g f right i sites cov l h o p r.before pl (slice_get_within sites p s at) b.before;
      need = subst (λ z. Needs g right z (own right l)) (sym b.need) a.need;
    }

-- the same site with other distances
abbrev pub with_span : Site → Span → Site
with_span s u = record { connector = s.connector; span = u; nearest = s.nearest; later = s.later; before = s.before; behind = s.behind; need = s.need }

-- the nearest link of the place meets the near site, and each link the far one, from the distance of the nearest link on
pub narrowed_is : (right : Bool) (most : ℕ) (gaps : Gaps) (i : ℕ) (table cells : Table Site) → cells ≡ table → (sites : List Site) (p : ℕ) (s near wide far r : Site) → slice_get sites p ≡ Some s → IsBeside sites p s near → (near.nearest ≡ true → p ≡ 0)
    → IsBeside sites p s wide → wide.nearest ≡ s.nearest → IsFrom right most gaps i cells near r.span.from → far ≡ with_span wide (record { from = r.span.from; end = wide.span.end }) → IsBelow right most gaps i cells far r.span.end
    → r ≡ with_span far r.span → IsNarrowed right most gaps i table sites p r
narrowed_is right most gaps i table cells e sites p s near wide far r at bn nn bf nf first_in far_is last_in same g f spans all cov l h o pl =
    let first = subst (λ z. IsFrom right most gaps i z near r.span.from) e first_in in
    let last = subst (λ z. IsBelow right most gaps i z far r.span.end) e last_in in
    let a : Allows g right l wide = allows_beside right most i g f sites p s wide at bf cov l h o pl (λ b n. b.nearest (sym nf ∙ n)) in
    let k = near_link most g f right l h near.nearest (λ n. pl ∙ nn n) in
    let y : Allows g right k.0 near = allows_beside right most i g f sites p s near at bn cov k.0 k.1 (k.2 ∙ o) (k.3 ∙ pl) (λ b n. k.5 n) in
    let low : r.span.from ≤ link_length k.0 = first (link_length k.0) y.end y.from (has_partner right most gaps i table g f spans all k.0 k.1 (k.2 ∙ o) near y) in
    let k4 = k.4 in
    let from : r.span.from ≤ link_length l = omega arith in
    let w : Allows g right l (with_span wide (record { from = r.span.from; end = wide.span.end })) = record {
      connector = a.connector;
      from = from;
      end = a.end;
      nearest = a.nearest;
      later = a.later;
      before = a.before;
      need = a.need;
    } in
    let x : Allows g right l far = subst (λ z. Allows g right l z) (sym far_is) w in
    let high : link_length l < r.span.end = last (link_length l) x.end x.from (has_partner right most gaps i table g f spans all l h o far x) in
    let b : Allows g right l (with_span far r.span) = record {
      connector = x.connector;
      from = from;
      end = high;
      nearest = x.nearest;
      later = x.later;
      before = x.before;
      need = x.need;
    } in
    subst (λ z. Allows g right l z) (sym same) b

-- a site that stays
pub narrowed_same : (right : Bool) (most : ℕ) (gaps : Gaps) (i : ℕ) (table : Table Site) (sites : List Site) (p : ℕ) (s : Site) → slice_get sites p ≡ Some s → IsNarrowed right most gaps i table sites p s
narrowed_same right most gaps i table sites p s at g f spans all cov l h o pl =
    let c = cov.each l h o in
    let es : c.0 ≡ s = same_Some c.0 s (sym c.1 ∙ subst (λ z. slice_get sites z ≡ Some s) (sym pl) at) in
    subst (λ z. Allows g right l z) es c.2

pub narrow_set : (right : Bool) (most : ℕ) (gaps : Gaps) (i : ℕ) (table : Table Site) (old now : List Site) (p : ℕ) (r : Site) → p < length now → IsNarrowed right most gaps i table now p r → Narrows right most gaps i table old now
    → Narrows right most gaps i table old (set now p r)
narrow_set right most gaps i table old now p r w is n g f e a c =
    let v = n g f e a c in
    record {
      same_length = length-set now p r ∙ v.same_length;
      each = λ l h o. elim (cases_eq p (place_on right l)) [
        | inl same ↦ (let q = place_on right l in let at : slice_get (set now p r) q ≡ Some r = grind (arith, elements) in (r, at, is g f e a v l h o (sym same)))
        | inr e ↦ (let q = place_on right l in let at : slice_get (set now p r) q ≡ slice_get now q = grind (arith, elements) in let x = v.each l h o in (x.0, at ∙ x.1, x.2))
      ];
    }

pub narrows_none : (right : Bool) (most : ℕ) (gaps : Gaps) (sides : List Side) (table : Table Site) (lists : List (List Site)) → NarrowsAll right most gaps sides table lists lists
narrows_none right most gaps sides table lists = record { long = refl; each = λ g f e a k side at c. c }

pub narrows_more : (right : Bool) (most : ℕ) (gaps : Gaps) (sides : List Side) (table : Table Site) (old now : List (List Site)) (k : ℕ) (side : Side) (u w : List Site) → slice_get sides k ≡ Some side → slice_get now k ≡ Some u
    → Narrows right most gaps side.position table u w → NarrowsAll right most gaps sides table old now → NarrowsAll right most gaps sides table old (set now k w)
narrows_more right most gaps sides table old now k side u w at is n all = record {
  long = length-set now k w ∙ all.long;
  each = λ g f spans a j s atj c.
      let v = all.each g f spans a j s atj c in
      elim (cases_eq k j) [
        | inl e ↦ (let es : s ≡ side = same_Some s side (sym atj ∙ subst (λ z. slice_get sides z ≡ Some side) e at) in
            let eu : v.0 ≡ u = same_Some v.0 u (sym v.1 ∙ subst (λ z. slice_get now z ≡ Some u) e is) in
            let cu : Covers g right side.position u = subst (λ z. Covers g right z.position u) es (subst (λ z. Covers g right s.position z) eu v.2) in
            let inside = slice_get_within now k u is in
            let new : slice_get (set now k w) j ≡ Some w = grind (arith, elements) in
            (w, new, subst (λ z. Covers g right z.position w) (sym es) (n g f spans a cu)))
        | inr e ↦ (let other : slice_get (set now k w) j ≡ slice_get now j = grind (arith, elements) in (v.0, other ∙ v.1, v.2))
      ];
}

-- the length stays while sites are narrowed
pub record NarrowsSame (right : Bool) (most : ℕ) (gaps : Gaps) (i : ℕ) (table : Table Site) (old now : List Site) : Type 0 where
  pub long : length now ≡ length old
  pub narrows : Narrows right most gaps i table old now

pub same_more : (right : Bool) (most : ℕ) (gaps : Gaps) (i : ℕ) (table : Table Site) (old now : List Site) (p : ℕ) (r : Site) → p < length now → IsNarrowed right most gaps i table now p r → NarrowsSame right most gaps i table old now
    → NarrowsSame right most gaps i table old (set now p r)
same_more right most gaps i table old now p r w is n = record { long = length-set now p r ∙ n.long; narrows = narrow_set right most gaps i table old now p r w is n.narrows }

-- no partner is nearer, and none is as far
abbrev pub NoneBelow : Bool → ℕ → Gaps → ℕ → Table Site → Site → ℕ → Type 0
NoneBelow right most gaps i table s e = (d : ℕ) → d < e → s.span.from ≤ d → HasPartner right most gaps i table s d → ⊥

pub none_more : (right : Bool) (most : ℕ) (gaps : Gaps) (i : ℕ) (table : Table Site) (s : Site) (e : ℕ) (b : Bool) → (HasPartner right most gaps i table s e → b ≡ true) → b ≡ false → NoneBelow right most gaps i table s e
    → NoneBelow right most gaps i table s (e + 1)
none_more right most gaps i table s e b found no' n d w from has =
    elim (cases_lt d e) [
      | inl h ↦ n d h from has
      | inr h ↦ (let q : d ≡ e = omega arith in let f : ◌≡◌ {A = Bool} true false = sym (found (subst (λ z. HasPartner right most gaps i table s z) q has)) ∙ no' in absurd cc)
    ]

pub none_below : (right : Bool) (most : ℕ) (gaps : Gaps) (i : ℕ) (table : Table Site) (s : Site) (e : ℕ) → NoneBelow right most gaps i table s e → IsFrom right most gaps i table s e
none_below right most gaps i table s e n d w from has = elim (cases_lt d e) [ inl h ↦ absurd (n d h from has) | inr h ↦ h ]

pub none_at_all : (right : Bool) (most : ℕ) (gaps : Gaps) (i : ℕ) (table : Table Site) (s : Site) (e : ℕ) → s.span.end ≤ e → NoneBelow right most gaps i table s e → IsFrom right most gaps i table s s.span.end
none_at_all right most gaps i table s e h n d w from has = absurd (n d (omega arith) from has)

abbrev pub NoneFrom : Bool → ℕ → Gaps → ℕ → Table Site → Site → ℕ → Type 0
NoneFrom right most gaps i table s e = (d : ℕ) → d < s.span.end → e ≤ d → s.span.from ≤ d → HasPartner right most gaps i table s d → ⊥

pub none_before : (right : Bool) (most : ℕ) (gaps : Gaps) (i : ℕ) (table : Table Site) (s : Site) (e low : ℕ) (b : Bool) → low < e → (HasPartner right most gaps i table s (e - 1) → b ≡ true) → b ≡ false
    → NoneFrom right most gaps i table s e → NoneFrom right most gaps i table s (e - 1)
none_before right most gaps i table s e low b above found no' n d w g from has =
    elim (cases_lt d e) [
      | inl h ↦ (let q : d ≡ e - 1 = omega arith in let f : ◌≡◌ {A = Bool} true false = sym (found (subst (λ z. HasPartner right most gaps i table s z) q has)) ∙ no' in absurd cc)
      | inr h ↦ n d w h from has
    ]

pub none_from : (right : Bool) (most : ℕ) (gaps : Gaps) (i : ℕ) (table : Table Site) (s : Site) (e : ℕ) → NoneFrom right most gaps i table s e → IsBelow right most gaps i table s e
none_from right most gaps i table s e n d w from has = elim (cases_lt d e) [ inl h ↦ h | inr h ↦ absurd (n d w h from has) ]

-- the distances that the sites beside a place leave
pub from_after : (sites : List Site) (p : ℕ) (s t : Site) (r : ℕ) → slice_get sites p ≡ Some s → (q : ℕ) → q + 1 ≡ p → slice_get sites q ≡ Some t → IsAfter s.span.from t.span.from r → IsFromOf sites p r
from_after sites p s t r at q eq atq le d x atx low before =
    let ex : x ≡ s = same_Some x s (sym atx ∙ at) in
    let lx = ap (λ z. z.span.from) ex in
    le d (omega arith) (before q t eq atq)

pub from_first : (sites : List Site) (p : ℕ) (s : Site) (r : ℕ) → slice_get sites p ≡ Some s → r ≤ s.span.from → IsFromOf sites p r
from_first sites p s r at le d x atx low before =
    let ex : x ≡ s = same_Some x s (sym atx ∙ at) in
    let lx = ap (λ z. z.span.from) ex in
    omega arith

pub end_before : (sites : List Site) (p : ℕ) (s t : Site) (r : ℕ) → slice_get sites p ≡ Some s → slice_get sites (p + 1) ≡ Some t → IsAhead s.span.end t.span.end r → IsEndOf sites p r
end_before sites p s t r at atq le d x atx high after =
    let ex : x ≡ s = same_Some x s (sym atx ∙ at) in
    let lx = ap (λ z. z.span.end) ex in
    le d (omega arith) (after t atq)

pub behind_next : (sites : List Site) (p : ℕ) (t : Site) → slice_get sites (p + 1) ≡ Some t → IsBehindOf sites p t.span.end
behind_next sites p t at = record {
  last = λ x atx w. let inside = slice_get_within sites (p + 1) t at in absurd (omega arith);
  other = λ x atx. let ex : x ≡ t = same_Some x t (sym atx ∙ at) in let lx = ap (λ z. z.span.end) ex in omega arith;
}
