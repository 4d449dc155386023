-- 02, CR 13, of every public call with a new bench test on an accepted file: the fact about the call is its contract, word for word. "Insert one .. into the face or
-- inner edge that holds it": there it is put in, and everywhere else 26 meets it. Assumes nothing.
use Rattle.std.specs.Prelude.{◌≡◌, ◌⊎◌, Bool, true, false, cond, ◌||◌, List, ◌++◌, ℕ, zero, suc, ◌+◌, ◌≤◌, ◌<◌, ℤ, length, drop}
use Rattle.std.proofs.Math.Path.{refl, ap}
use Rattle.std.proofs.Common.{sym, subst, ◌∙◌, inl, inr, arith}
use borrow.Author.Tests.{ne_eqb, le-ltb}
use Rattle.whole.specs.Bools.{and-true, never}
use Rattle.geometry.specs.declared.Place.{Place}
use Rattle.chart.specs.Limits.{most_vertices}
use Rattle.chart.specs.Tables.{rows}
use Rattle.chart.specs.Chart.{Chart, chart_of, partner, outer, partner-twice}
use Rattle.checks.specs.Checks.{Loaded}
use Rattle.checks.specs.Checks.Loaded.{loaded}
use Rattle.reading.specs.Reading.{file_length, chart_in}
use Rattle.writing.specs.Writing.{Saved, room_refusal, saved_by}
use Rattle.writing.specs.Writing.Written.{wrote, turned_down}
use Rattle.accepted.specs.Accepted.{Accepted}
use Rattle.accepted.proofs.Bytes.{chart-accepted}
use Rattle.locate.specs.declared.Location.{Location}
use Rattle.locate.specs.declared.Location.TheVariants.{OnVertex, OnEdge, OnFace, OutsideOfConvexHull}
use Rattle.locate.specs.Location.{even, on_edge, location_of}
use Rattle.locate.specs.Laws.{Holds}
use Rattle.locate.proofs.Laws.{located}
use Rattle.home.specs.Located.{face-location, edge-location}
use Rattle.neighbors.specs.Neighbors.{part_of_convex_hull}
use Rattle.neighbourhood.specs.Neighbourhood.{Amid}
use Rattle.sites.specs.Insertion.{no_site, out_of_bounds, vertex_refusal, insert_refusal}
use Rattle.inserting.specs.Inserting.{Inserted, InsertOf}

-- the text of a chart with the test stands in front of the buffer, and its length is the answer
pub record PutIn (s : List ℕ) (q : Place) (z : ℤ) (lent : List ℕ) (done : Saved) : Type 0 where
  pub new : List ℕ
  pub inserted : Inserted (chart_in s) q z new
  pub left : done ≡ record { answer = wrote (length new); buffer = new ++ drop (length new) lent }

pub record NewTest (s : List ℕ) (vs : List ℤ) (es fs : List ℕ) (q : Place) (z : ℤ) (lent : List ℕ) (done : Saved) : Type 0 where
  -- with its place and value in their ranges, fewer than 128 vertices, and room: inside a face or on an inner edge the test is put in
  pub put_in :
      out_of_bounds q z ≡ false → rows vs < most_vertices → Amid (chart_of vs es fs) q → file_length (rows vs + 1) (rows es + 6) (length fs + 2) ≤ length lent
      → PutIn s q z lent done
  -- and everywhere else it is refused with 26, whatever the room
  pub no-site : out_of_bounds q z ≡ false → rows vs < most_vertices → (Amid (chart_of vs es fs) q → ⊥) → done ≡ record { answer = turned_down 26; buffer = lent }
  -- a refused call writes nothing
  pub untouched : (n : ℕ) → done.answer ≡ turned_down n → done.buffer ≡ lent

-- ---- where there is a site
-- an edge is part of the hull or not, whichever half-edge is asked
hull-turned : (c : Chart) (h : ℕ) → part_of_convex_hull c (partner h) ≡ part_of_convex_hull c h
hull-turned c h = ap (λ (k : ℕ). outer c (partner h) || outer c k) (partner-twice h) ∙ swap (outer c (partner h)) (outer c h)
  where
    swap : (a b : Bool) → (a || b) ≡ (b || a)
    swap true true = refl
    swap true false = refl
    swap false true = refl
    swap false false = refl

amid-of : (c : Chart) (q : Place) → no_site c (location_of c q) ≡ false → Amid c q
amid-of c q e = by (location_of c q) (located c q (location_of c q) refl) e
  where
    by : (l : Location) → Holds c q l → no_site c l ≡ false → Amid c q
    by (OnVertex v) h k = never (cc)
    by (OnEdge g) h k = inr (g, h.0, k, (and-true (even g) (on_edge c q g) h.1).1)
    by (OnFace f) h k = inl (f, h.0, h.1)
    by (OutsideOfConvexHull g) h k = never (cc)

of-amid : (c : Chart) (q : Place) → Accepted c → Amid c q → no_site c (location_of c q) ≡ false
of-amid c q a (inl (f, l, e)) = ap (no_site c) (face-location c q a.sound f l e)
of-amid c q a (inr (h, l, k, e)) =
    let d = edge-location c q a.sound h l e in
    ap (no_site c) d.1 ∙ turned d.0 d.2
  where
    turned : (g : ℕ) → (g ≡ h) ⊎ (g ≡ partner h) → part_of_convex_hull c g ≡ false
    turned g (inl p) = ap (part_of_convex_hull c) p ∙ k
    turned g (inr p) = ap (part_of_convex_hull c) p ∙ hull-turned c h ∙ k

-- ---- the call
saved-same : (n : ℕ) (text lent : List ℕ) (k : ℕ) → (saved_by n text lent).answer ≡ turned_down k → (saved_by n text lent).buffer ≡ lent
saved-same zero text lent k e = never (cc)
saved-same (suc n) text lent k e = refl

module _ (s : List ℕ) (vs : List ℤ) (es fs : List ℕ) (read : chart_in s ≡ loaded vs es fs) (x y z : ℤ) (lent : List ℕ) (done : Saved) (i : InsertOf s x y z lent done) where
  abbrev c : Chart
  c = chart_of vs es fs

  abbrev q : Place
  q = record { x = x; y = y }

  -- 26 or nothing, where 13 and 25 do not meet it
  by-site : out_of_bounds q z ≡ false → rows vs < most_vertices → (b : Bool) → no_site c (location_of c q) ≡ b → insert_refusal (chart_in s) q z ≡ cond b 26 0
  unfolding insert_refusal vertex_refusal
  by-site o l b e = ap (λ (k : Loaded). insert_refusal k q z) read ∙ rw (o, ne_eqb (rows vs) most_vertices (λ m. omega arith), e) refl

  -- what the call leaves, by its refusal before 18
  by-refusal : (n : ℕ) → insert_refusal (chart_in s) q z ≡ n → done ≡ saved_by (room_refusal n i.text lent) i.text lent
  by-refusal n e = i.left ∙ ap (λ (k : ℕ). saved_by (room_refusal k i.text lent) i.text lent) e

  pub new-test : NewTest s vs es fs q z lent done
  new-test =
      record {
        put_in = λ o l a room.
            let e = by-site o l false (of-amid c q (chart-accepted s vs es fs read) a) in
            let n = i.inserted e in
            let r : length i.text ≤ length lent = subst (λ (k : ℕ). k ≤ length lent) (sym (n.long vs es fs read)) room in
            record { new = i.text; inserted = n; left = by-refusal 0 e ∙ ap (λ (b : Bool). saved_by (cond b 18 0) i.text lent) (le-ltb (length lent) (length i.text) r) };
        no-site = λ o l a. by-refusal 26 (by-site o l true (only a));
        untouched = λ n e. ap (λ (d : Saved). d.buffer) i.left ∙ saved-same (room_refusal (insert_refusal (chart_in s) q z) i.text lent) i.text lent n (sym (ap (λ (d : Saved). d.answer) i.left) ∙ e);
      }
    where
      only : (Amid c q → ⊥) → no_site c (location_of c q) ≡ true
      only n = pick (no_site c (location_of c q)) refl
        where
          pick : (b : Bool) → no_site c (location_of c q) ≡ b → b ≡ true
          pick true e = refl
          pick false e = absurd (n (amid-of c q e))
