use Rattle.std.proofs.Common.{take_at, List, ℕ, map, length, sym, ap, subst, ◌∙◌, arith}
use Rattle.geometry.specs.Grid.{at}
use Rattle.chart.specs.Seen.{seen}
use Rattle.chart.specs.declared.tables.Chart.{Chart as Tables}
use Rattle.neighbors.specs.Neighbors.{Neighbors, neighbors_of}
use Rattle.interpolate.specs.Values.{Owners}
use Rattle.cavity.specs.Listed.{listed_below}
use Rattle.values.specs.Value.{listed-owners}
use Rattle.values.proofs.natural_value.Goals as goal

pub invariant_of-edges : goal.invariant_of-edges
invariant_of-edges c =
    let chart = c.args.prepared.now.accepted.chart in
    let e = ap (λ (n : Neighbors). n.edges) c.natural_neighbor_edges_by.ensures in
    let few = rw (c.deref.ensures.0, e) at c.deref.ensures.1 in
    record { listed = rw (c.deref.ensures.0, e) (record { below = listed_below (seen chart) (at c.args.q) chart.in_range c.args.place c.requires; few = omega arith }) }

pub value_by-requires : goal.value_by-requires
value_by-requires c =
    let chart = c.args.prepared.now.accepted.chart in
    let e = ap (λ (n : Neighbors). n.edges) c.natural_neighbor_edges_by.ensures in
    let starts = c.to_origins.ensures ∙ ap (map (seen chart).origin) (c.deref_mut.ensures.value ∙ e) in
    subst (λ (t : Tables). Owners (seen t) c.deref-2.result.now) (sym c.gradients.ensures)
    (subst (Owners (seen chart)) (sym (c.deref-2.ensures.0 ∙ take_at c.to_origins.new.list _ _ (omega (arith, c.to_origins.auto.list, ap (λ (l : List ℕ). length l) c.deref_mut.ensures.value)) ∙ starts))
    (listed-owners (seen chart) chart.in_range (neighbors_of (seen chart) (at c.args.q) c.args.place).edges (listed_below (seen chart) (at c.args.q) chart.in_range c.args.place c.requires)))
