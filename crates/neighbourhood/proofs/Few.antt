-- A load has no more natural neighbours than the chart has vertices, and two fewer faces are opened: no vertex stands in the ring twice. Assumes nothing.
use Rattle.std.specs.Prelude.{◌≡◌, map, ◌+◌, ◌≤◌, ◌<◌}
use Rattle.std.proofs.Common.{sym, inl, inr, arith}
use Rattle.std.proofs.Math.Path.{subst}
use Rattle.std.proofs.Math.ListN.{length}
use Rattle.std.proofs.lemmas.List.{length-map}
use Rattle.geometry.specs.declared.Place.{Place}
use Rattle.chart.specs.Chart.{Chart}
use Rattle.accepted.specs.Accepted.{Accepted}
use Rattle.locate.specs.declared.Location.{Location}
use Rattle.locate.specs.declared.Location.TheVariants.{OnEdge}
use Rattle.locate.specs.Location.{location_of}
use Rattle.locate.proofs.Laws.{located}
use Rattle.home.specs.Located.{face-location, edge-location}
use Rattle.neighbors.specs.Neighbors.{Neighbors, neighbors_of}
use Rattle.neighbors.specs.Answers.{inner-edge}
use Rattle.neighbors.specs.Each.{each-made}
use Rattle.neighbors.specs.Counting.{face-length, edge-length}
use Rattle.neighbourhood.specs.Rings.{different-few}
use Rattle.neighbourhood.specs.Neighbourhood.{Amid}
use Rattle.neighbourhood.proofs.Neighbourhood.{neighbourhood, inner-too}

module _ (c : Chart) (acc : Accepted c) (q : Place) where
  -- two more are listed than faces opened
  two-more : Amid c q → length (neighbors_of c q (location_of c q)).edges ≡ (neighbors_of c q (location_of c q)).opened + 2
  unfolding neighbors_of
  two-more (inl (f, l, e)) =
      subst (λ (p : Location). length (neighbors_of c q p).edges ≡ (neighbors_of c q p).opened + 2) (sym (face-location c q acc.sound f l e)) (face-length c q acc.sound.range f l)
  two-more (inr (h, l, n, e)) =
      let r = edge-location c q acc.sound h l e in
      let k = located c q (OnEdge r.0) (sym r.1) in
      subst (λ (p : Location). length (neighbors_of c q p).edges ≡ (neighbors_of c q p).opened + 2) (sym r.1)
      (subst (λ (m : Neighbors). length m.edges ≡ m.opened + 2) (sym (inner-edge c q r.0 (inner-too c acc q h r.0 n r.2))) (edge-length c q acc.sound.range r.0 k.0))

  pub few-listed : Amid c q → length (neighbors_of c q (location_of c q)).edges ≤ c.vertices
  few-listed here =
      let n = neighbors_of c q (location_of c q) in
      let w = neighbourhood c acc q here in
      omega (
        arith,
        length-map n.edges c.origin,
        different-few c.vertices (map c.origin n.edges) (each-made {P = λ x. x < c.half_edges} {Q = λ v. v < c.vertices} c.origin (λ x m. acc.sound.range.origins x m) w.below) w.simple,
      )

  pub few-opened : Amid c q → (neighbors_of c q (location_of c q)).opened + 2 ≤ c.vertices
  few-opened here = omega (arith, few-listed here, two-more here)
