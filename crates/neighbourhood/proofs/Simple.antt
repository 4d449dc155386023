-- The ring of listed edges passes no vertex twice. At each moment its sides are a fan about the load: the ray from the load to a vertex meets one of them at
-- most. Of every sound chart. Assumes nothing.
use Rattle.std.specs.Prelude.{◌≡◌, Bool, true, ℕ, ◌+◌, ◌<◌, ◌≤◌, ℤ}
use Rattle.std.proofs.Math.Path.{subst}
use Rattle.std.proofs.Common.{arith}
use mathlib.Core.List.{List, ◌∷◌, ◌++◌, map}
use Rattle.faceset.specs.Set.{one}
use Rattle.geometry.specs.declared.Place.{Place}
use Rattle.chart.specs.Chart.{Chart, partner, partner-in}
use Rattle.sound.specs.Sound.{Sound}
use Rattle.flips.specs.Search.{Found, should_flip, opening}
use Rattle.neighbors.specs.Counting.{Leads}
use Rattle.neighbors.specs.Counting.Leads.{stays, opens, lists}
use Rattle.neighbourhood.specs.Rings.{how_many, many-append}
use Rattle.nearby.specs.Windows as Wn
use Rattle.neighbourhood.proofs.Opening as M
use Rattle.neighbourhood.specs.Opening.{ring_of, flip-parts}
use Rattle.neighbourhood.proofs.Moment as K
use Rattle.neighbourhood.specs.Moment.{Moment}
use Rattle.neighbourhood.proofs.Moment.{waits, opens_kept, lists-kept}
use Rattle.neighbourhood.specs.Simple as S

module _ (c : Chart) (snd : Sound c) (q : Place) where
  abbrev sd : ℕ → ℤ
  sd = Wn.sd c snd q

  abbrev faces : ℕ → ℕ → Bool
  faces = S.faces c snd q

  abbrev Fan : List ℕ → Type 0
  Fan = S.Fan c snd q

  module _ (g : ℕ) where
    -- turns of the search keep it
    opens-fan : (e : ℕ) (s : List ℕ) (w : Found) (l : e < c.half_edges) (y : should_flip c q w.opened e ≡ true) (m : Moment c snd q g (e ∷ s) w) → Fan (ring_of (e ∷ s) w) → Fan (ring_of (partner (c.prev e) ∷ partner (c.next e) ∷ s) (opening c e w))
    unfolding how_many
    opens-fan e s w l y m f =
        let p = flip-parts c snd q w.opened e l y in
        let b = waits c snd q g e s w l m in
        let win = M.win c snd q w.opened e p.0 p.1 p.2 b m.high in
        subst Fan (K.two c snd q g e s w l y m)
        (record {
          once = λ v vl.
              let t1 : how_many (faces v) (w.listed ++ c.prev e ∷ c.next e ∷ map partner s) ≡ how_many (faces v) w.listed + (one (faces v (c.prev e)) + (one (faces v (c.next e)) + how_many (faces v) (map partner s))) =
              many-append (faces v) w.listed (c.prev e ∷ c.next e ∷ map partner s) in
              let t2 : how_many (faces v) (w.listed ++ partner e ∷ map partner s) ≡ how_many (faces v) w.listed + (one (faces v (partner e)) + how_many (faces v) (map partner s)) =
              many-append (faces v) w.listed (partner e ∷ map partner s) in
              let t3 : one (faces v (c.prev e)) + one (faces v (c.next e)) ≤ one (faces v (partner e)) =
              S.split c snd q e p.0 (m.high (partner e) (partner-in snd.range e l) b) win.0 win.1 v in
              let t4 : how_many (faces v) (w.listed ++ partner e ∷ map partner s) ≤ 1 = f.once v vl in
              omega arith;
        })

    pub fans : {s t : List ℕ} {w v : Found} → Leads c q s w t v → Moment c snd q g s w → Fan (ring_of s w) → Fan (ring_of t v)
    fans stays m f = f
    fans {s = h ∷ s} {w = w} (opens l y r) m f = fans r (opens_kept c snd q g h s w l y m) (opens-fan h s w l y m f)
    fans {s = h ∷ s} {w = w} (lists y r) m f = fans r (lists-kept c snd q g h s w y m) (subst Fan (K.same c snd q g h s w y m) f)
