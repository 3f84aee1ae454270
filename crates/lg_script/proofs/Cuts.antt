-- A text is cut in one way where a run ends, and where blanks do.
use Rattle.std.proofs.Common.{◌≡◌, ℕ, true, false, List, [], ◌∷◌, ◌++◌, refl, sym, ap, ◌∙◌}
use Rattle.lg_lex.specs.declared.run.Separators.TheVariants.{Blanks}
use Rattle.lg_lex.specs.Runs.{is_separator, AreSeparators, AreInner, EndsRun}
use Rattle.lg_script.specs.Parts.{BeginsInner}

not_both : (b c : ℕ) → b ≡ c → is_separator Blanks b ≡ true → is_separator Blanks c ≡ false → ⊥
not_both b c e h k = let f : true ≡ false = sym h ∙ ap (is_separator Blanks) e ∙ k in cc

pub same_run : (w v s t : List ℕ) → AreInner Blanks w → AreInner Blanks v → EndsRun Blanks s → EndsRun Blanks t → w ++ s ≡ v ++ t → (w ≡ v) × (s ≡ t)
same_run [] [] s t h k m n e = (refl, e)
same_run [] (c ∷ v) [] t h k m n e = absurd cc
same_run [] (c ∷ v) (b ∷ s) t h k m n e = absurd (not_both b c (cc) m k.0)
same_run (b ∷ w) [] s [] h k m n e = absurd cc
same_run (b ∷ w) [] s (c ∷ t) h k m n e = absurd (not_both c b (cc) n h.0)
same_run (b ∷ w) (c ∷ v) s t h k m n e =
    let tails : w ++ s ≡ v ++ t = cc in
    let same : b ≡ c = cc in
    let parts = same_run w v s t h.1 k.1 m n tails in
    (λ i. same i ∷ parts.0 i, parts.1)

pub same_gap : (g h s t : List ℕ) → AreSeparators Blanks g → AreSeparators Blanks h → BeginsInner s → BeginsInner t → g ++ s ≡ h ++ t → (g ≡ h) × (s ≡ t)
same_gap [] [] s t a b m n e = (refl, e)
same_gap [] (c ∷ h) s t a b m n e = absurd (not_both c c refl b.0 (m c (h ++ t) e))
same_gap (c ∷ g) [] s t a b m n e = absurd (not_both c c refl a.0 (n c (g ++ s) (sym e)))
same_gap (c ∷ g) (d ∷ h) s t a b m n e =
    let tails : g ++ s ≡ h ++ t = cc in
    let same : c ≡ d = cc in
    let parts = same_gap g h s t a.1 b.1 m n tails in
    (λ i. same i ∷ parts.0 i, parts.1)
