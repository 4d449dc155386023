-- What a new vertex leaves in tables, and what a chart that is read and extended so comes to.
use Rattle.std.specs.Prelude.{◌≡◌, Result, IfOk, List, ℕ, ◌<◌, ℤ}
use Rattle.geometry.specs.declared.Place.{Place}
use Rattle.refusal.specs.declared.Refusal.{Refusal}
use Rattle.refusal.specs.Number.{refusal_of}
use Rattle.chart.specs.Chart.{Chart, chart_of, partner}
use Rattle.sound.specs.Sound.{Inner}
use Rattle.checks.specs.Checks.{Loaded}
use Rattle.checks.specs.Checks.Loaded.{loaded}
use Rattle.patches.specs.Insert.{inserted}
use Rattle.patches.specs.Split.{split}
use Rattle.rewire.specs.declared.Tables.{Tables}
use Rattle.rewire.specs.Tables.{Natural, out_cell}
use Rattle.rewire.specs.Front.{shown}
use Rattle.sites.specs.declared.Site.{Site}
use Rattle.sites.specs.declared.Site.TheVariants.{Inside, Across}
use Rattle.sites.specs.Insertion.{insert_refusal}
use Rattle.sites.specs.Joined.{Joined}

-- a site's half-edge is that of an inner face; on an edge both halves are
abbrev pub Stands : Chart → Site → Type 0
Stands c (Inside e) = Inner c e
Stands c (Across e) = Inner c e × Inner c (partner e)

-- the vertex joined to the corners about its site
abbrev pub joined_at : Chart → Site → Place → ℤ → Chart
joined_at c (Inside e) q z = inserted c e q z
joined_at c (Across e) q z = split c e q z

-- the out half-edges of the vertices below n are natural numbers
abbrev pub NaturalOuts : ℕ → List ℤ → Type 0
NaturalOuts n vs = (u : ℕ) → u < n → Natural (out_cell vs u)

-- what `extend` leaves: a refusal, or the new chart, whose out half-edges are natural numbers
pub record Extends (l : Loaded) (q : Place) (z : ℤ) (r : Result Tables Refusal) : Type 0 where
  pub answered : refusal_of r ≡ insert_refusal l q z
  pub joined : IfOk r (λ t. (vs : List ℤ) (es fs : List ℕ) → l ≡ loaded vs es fs → Joined (chart_of vs es fs) q z (shown t))
  pub naturals : IfOk r (λ t. NaturalOuts (shown t).vertices t.vertices.now)
