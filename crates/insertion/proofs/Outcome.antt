-- What stands at a site, and what joining a vertex there and flipping edges about it leaves.
use Rattle.std.specs.Prelude.{◌≡◌, cond, Ok, Result, ℕ, ◌*◌, ◌/◌, ℤ, length, take}
use Rattle.std.proofs.Common.{arith, length-take-le, subst, sym, ap, ◌∙◌}
use Rattle.geometry.specs.declared.Place.{Place}
use Rattle.chart.specs.Chart.{Chart, InRange}
use Rattle.accepted.specs.Accepted.{Accepted}
use Rattle.rewire.specs.declared.Tables.{Tables}
use Rattle.rewire.specs.Front.{shown}
use Rattle.stars.specs.Star.{Growing}
use Rattle.legal.specs.Legal.{Legal}
use Rattle.sites.specs.declared.Site.{Site}
use Rattle.sites.specs.declared.Site.TheVariants.{Inside, Across}
use Rattle.sites.specs.Askable.{Askable}
use Rattle.locate.specs.Location.{location_of}
use Rattle.refusal.specs.declared.Refusal.{Refusal}
use Rattle.refusal.specs.Number.{refusal_of}
use Rattle.sites.specs.Insertion.{no_site}
use Rattle.sites.specs.Site.{site_at, no-site, face-site, edge-site}
use Rattle.sites.specs.Joined.{Joined}
use Rattle.sites.proofs.Joined.{face-growing, face-range, face-joined, edge-growing, edge-range, edge-joined}
use Rattle.insertion.specs.Outcome.{Stands, joined_at}

module _ (c : Chart) (a : Accepted c) (q : Place) where
  pub stands : (s : Site) → site_at c q ≡ Ok s → Stands c s
  stands (Inside e) p = (face-site c a q e p).inner
  stands (Across e) p = let s = edge-site c a q e p in (s.inner, s.beyond)

  -- of any chart d with the vertex joined, whose number is n
  module _ (z : ℤ) (k : Askable c q z) (d : Chart) (n : ℕ) (ns : c.vertices ≡ n) where
    pub joined-growing : (s : Site) → site_at c q ≡ Ok s → d ≡ joined_at c s q z → Growing d n
    joined-growing s p e = subst (Growing d) ns (subst (λ (x : Chart). Growing x c.vertices) (sym e) (by s p))
      where
        by : (s : Site) → site_at c q ≡ Ok s → Growing (joined_at c s q z) c.vertices
        by (Inside e) p = face-growing c a q z k e (face-site c a q e p)
        by (Across e) p = edge-growing c a q z k e (edge-site c a q e p)

    pub joined-range : (s : Site) → site_at c q ≡ Ok s → d ≡ joined_at c s q z → InRange d
    joined-range s p e = subst InRange (sym e) (by s p)
      where
        by : (s : Site) → site_at c q ≡ Ok s → InRange (joined_at c s q z)
        by (Inside e) p = face-range c a q z k e (face-site c a q e p)
        by (Across e) p = edge-range c a q z k e (edge-site c a q e p)

    -- and once edges are flipped about it
    pub joined-legal : (s : Site) → site_at c q ≡ Ok s → d ≡ joined_at c s q z → (l : Chart) → Legal d n l → Joined c q z l
    joined-legal s p e l h = by s p (subst (λ (x : Chart). Legal x c.vertices l) e (subst (λ (i : ℕ). Legal d i l) (sym ns) h))
      where
        by : (s : Site) → site_at c q ≡ Ok s → Legal (joined_at c s q z) c.vertices l → Joined c q z l
        by (Inside e) p g = face-joined c a q z k e (face-site c a q e p) l g
        by (Across e) p g = edge-joined c a q z k e (edge-site c a q e p) l g

-- ---- the count of tables
pub quarter : (n k : ℕ) → k ≡ 4 * n → k / 4 ≡ n
quarter n k e = omega arith

pub shown-vertices : (t : Tables) → (shown t).vertices ≡ t.vertex_count
shown-vertices t = quarter t.vertex_count (length (take (4 * t.vertex_count) t.vertices.now)) (length-take-le (4 * t.vertex_count) t.vertices.now t.fits.vertices)

-- ---- where a site is, of a chart c that is seen as b
pub seen-site : (b c : Chart) (q : Place) (r o : Result Site Refusal) → b ≡ c → r ≡ site_at b q → r ≡ o → site_at c q ≡ o
seen-site b c q r o e p s = sym (ap (λ (x : Chart). site_at x q) e) ∙ sym p ∙ s

-- the refusal of one is 26 or none
pub site-refusal : (c : Chart) (q : Place) {r : Result Site Refusal} → site_at c q ≡ r → refusal_of r ≡ cond (no_site c (location_of c q)) 26 0
site-refusal c q e = sym (no-site c q ∙ ap refusal_of e)
