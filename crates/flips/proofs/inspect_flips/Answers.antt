use Rattle.std.proofs.Common.{arith, sym, subst, ap, ◌∙◌, ◌≡◌, ℕ, suc, ◌<◌, List, ◌∷◌, reverse, true}
use Rattle.std.proofs.lemmas.List.{length-reverse}
use Rattle.faceset.specs.Set.{has, add}
use Rattle.geometry.specs.Grid.{at}
use Rattle.chart.specs.Seen.{seen}
use Rattle.flips.specs.Search.{Found, should_flip, found, inspect_all, free}
use Rattle.flips.proofs.Steps.{Held, top-in, border, fewer, opens, snoc, two-snoc, emptied}
use Rattle.flips.proofs.inspect_flips.Goals as goal
use Rattle.flips.proofs.inspect_flips.Goals.{In-Some, Then-should_flip, After-insert-opened}

abbrev sought : In-Some → Found
sought c = inspect_all (seen c.args.chart.now) (at c.args.q) (reverse c.args.waiting.now.items) (found (has c.args.start.words) c.args.out.now.items)

-- with h taken off the stack
taken : (c : In-Some) → Held (seen c.args.chart.now) (at c.args.q) (sought c) (has c.loop-h.opened.words) c.loop-h.out.items (c.in-Some.h ∷ reverse c.pop.new.self.items)
taken c =
    subst (λ (s : List ℕ). Held (seen c.args.chart.now) (at c.args.q) (sought c) (has c.loop-h.opened.words) c.loop-h.out.items s)
    (ap reverse c.in-Some.ensures.items ∙ snoc c.pop.new.self.items c.in-Some.h) c.loop-h.invariant

-- it is one of the chart
taken-in : (c : In-Some) → c.in-Some.h < (seen c.args.chart.now).half_edges
taken-in c = top-in (seen c.args.chart.now) (at c.args.q) c.args.chart.now.in_range (sought c) (has c.loop-h.opened.words) c.loop-h.out.items c.in-Some.h (reverse c.pop.new.self.items) (taken c)

flips : (c : Then-should_flip) → should_flip (seen c.args.chart.now) (at c.args.q) (has c.loop-h.opened.words) c.in-Some.h ≡ true
flips c = sym c.should_flip.ensures ∙ c.if-should_flip.true

-- its face is opened, and there is one fewer to open
one-fewer : (c : Then-should_flip) → suc (free (seen c.args.chart.now) (add ((seen c.args.chart.now).face c.in-Some.h) (has c.loop-h.opened.words))) ≡ free (seen c.args.chart.now) (has c.loop-h.opened.words)
one-fewer c =
    let d = (goal.at.Then-should_flip c).In-Some in
    fewer (seen c.args.chart.now) (at c.args.q) c.args.chart.now.in_range (sought d) (has c.loop-h.opened.words) c.loop-h.out.items c.in-Some.h (reverse c.pop.new.self.items) (taken d) (flips c)

pub should_flip-requires-clause-below : goal.should_flip-requires-clause-below
should_flip-requires-clause-below c = taken-in c

pub face-requires : goal.face-requires
face-requires c = taken-in (goal.at.face-requires c).In-Some

pub behind_next-e1-requires : goal.behind_next-e1-requires
behind_next-e1-requires c = taken-in (goal.at.behind_next-e1-requires c).In-Some

pub behind_prev-e2-requires : goal.behind_prev-e2-requires
behind_prev-e2-requires c = taken-in (goal.at.behind_prev-e2-requires c).In-Some

pub push-requires-then-should_flip : goal.push-requires-then-should_flip
push-requires-then-should_flip c =
    let t = taken (goal.at.push-requires-then-should_flip c).In-Some in
    let f = one-fewer (goal.at.push-requires-then-should_flip c).Then-should_flip in
    (omega arith, omega (arith, t.ready.fits, f, length-reverse c.pop.new.self.items, c.push.ensures.len, c.requires.few))

pub loop-h-smaller-then-should_flip : goal.loop-h-smaller-then-should_flip
loop-h-smaller-then-should_flip c =
    let f = one-fewer (goal.at.loop-h-smaller-then-should_flip c).Then-should_flip in
    rw (c.insert-opened.ensures, c.face.ensures.value) (omega (arith, f, c.push-then-should_flip.ensures.len, c.push.ensures.len, c.in-Some.ensures.len))

pub loop-h-preserved-then-should_flip : goal.loop-h-preserved-then-should_flip
loop-h-preserved-then-should_flip c =
    let d = (goal.at.loop-h-preserved-then-should_flip c).In-Some in
    let o = opens (seen c.args.chart.now) (at c.args.q) c.args.chart.now.in_range (sought d) (has c.loop-h.opened.words) c.loop-h.out.items c.in-Some.h (reverse c.pop.new.self.items) (taken d) (flips (goal.at.loop-h-preserved-then-should_flip c).Then-should_flip) in
    rw (
      c.insert-opened.ensures,
      c.face.ensures.value,
      two-snoc c.pop.new.self.items c.push.new.self.items c.push-then-should_flip.new.self.items _ _ c.push.ensures.items c.push-then-should_flip.ensures.items,
      c.behind_next-e1.ensures.value,
      c.behind_prev-e2.ensures.value,
    )
    o

pub partner-requires : goal.partner-requires
partner-requires c = taken-in (goal.at.partner-requires c).In-Some

pub loop-h-preserved : goal.loop-h-preserved
loop-h-preserved c =
    let d = (goal.at.loop-h-preserved c).In-Some in
    let b = border (seen c.args.chart.now) (at c.args.q) c.args.chart.now.in_range (sought d) (has c.loop-h.opened.words) c.loop-h.out.items c.in-Some.h (reverse c.pop.new.self.items) (taken d) (sym c.should_flip.ensures ∙ c.if-should_flip.false) in
    rw (c.push-else-should_flip.ensures.items, c.partner.ensures.value) b

pub returns-clause-runs : goal.returns-clause-runs
unfolding inspect_all
returns-clause-runs c =
    sym c.loop-h.invariant.runs
    ∙ ap (λ (s : List ℕ). inspect_all (seen c.args.chart.now) (at c.args.q) s (found (has c.loop-h.opened.words) c.loop-h.out.items)) (emptied c.loop-h.waiting.items c.in_default.ensures.variant.1)
