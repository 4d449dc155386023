-- Which edge is to be flipped, and what flips leave. Assumes nothing.
use Rattle.std.specs.Prelude.{◌≡◌, refl, Option, None, Some, Bool, true, false, not, ℕ, ◌-◌, ◌<◌, eqb}
use Rattle.std.proofs.Common.{sym, subst, ap, ◌∙◌, arith, eq-eqb, eqb-true, ne_eqb, ltb-true}
use Rattle.std.proofs.lemmas.Bool.{false≢true, eqb-false, not-true}
use Rattle.std.specs.Option.{MatchOption}
use Rattle.whole.specs.Bools.{and-true, never}
use Rattle.whole.specs.First.{first, first_found, found, some, none-at}
use Rattle.signs.specs.Signs.{Pos, Low}
use Rattle.geometry.specs.Plane.{circle}
use Rattle.chart.specs.Chart.{Chart, partner, outer, from_of, to_of}
use Rattle.sound.specs.Sound.{Inner}
use Rattle.patches.specs.Wired.{Wired, partner-below}
use Rattle.patches.proofs.Flip as Fl
use Rattle.patches.specs.Flip.{flipped}
use Rattle.signs.specs.Order.{test-pos, pos-test, not-pos}
use Rattle.signs.specs.Count.{count_most, count_less}
use Rattle.stars.specs.Star as St
use Rattle.stars.specs.Star.{Growing}
use Rattle.stars.specs.End.{Settled}
use Rattle.legal.specs.Legal.{wants_flip, Wanted, Reached, wired-range, degree, Legal}

pub wanted : (c : Chart) (n h : ℕ) → wants_flip c n h ≡ true → Wanted c n h
unfolding wants_flip
wanted c n h e =
    let a = and-true (not (outer c h)) _ e in
    let b = and-true (eqb (c.origin (c.prev h)) n) _ a.1 in
    let d = and-true (not (outer c (partner h))) _ b.1 in
    record {
      inner = eqb-false (c.face h) 0 (not-true (outer c h) a.0);
      across = eqb-true (c.origin (c.prev h)) n b.0;
      beyond = eqb-false (c.face (partner h)) 0 (not-true (outer c (partner h)) d.0);
      holds = test-pos d.1;
    }

-- where none is wanted, all is settled
settled_at : (c : Chart) (n h : ℕ) → wants_flip c n h ≡ false → Inner c h → Inner c (partner h) → c.origin (c.prev h) ≡ n → Low (circle (to_of c h) (from_of c h) (c.place (c.origin (c.prev (partner h)))) (c.place n))
unfolding wants_flip
settled_at c n h e i j a =
    not-pos (λ p. false≢true (sym e ∙ simp (ne_eqb (c.face h) 0 i.1, eq-eqb (c.origin (c.prev h)) n a, ne_eqb (c.face (partner h)) 0 j.1, pos-test p)))

pub none-wanted : (c : Chart) (n : ℕ) → ((h : ℕ) → h < c.half_edges → wants_flip c n h ≡ false) → Settled c n
none-wanted c n f h x y v t u =
    let l = settled_at c n h (f h t.inner.0) t.inner u.inner t.apex in
    subst (λ (k : ℕ). Low (circle (c.place y) (c.place x) (c.place k) (c.place n))) u.apex
    (subst (λ (k : ℕ). Low (circle (c.place y) (c.place k) (c.place (c.origin (c.prev (partner h)))) (c.place n))) t.from
    (subst (λ (k : ℕ). Low (circle (c.place k) (c.place (c.origin h)) (c.place (c.origin (c.prev (partner h)))) (c.place n))) t.to l))

module _ (c : Chart) (n h : ℕ) (g : Growing c n) (l : h < c.half_edges) (t : Wanted c n h) where
  w : Wired c
  w = g.wired

  ih : Inner c h
  ih = (l, t.inner)

  it : Inner c (partner h)
  it = (partner-below c w h l, t.beyond)

  g' : Growing c (c.origin (c.prev h))
  g' = subst (Growing c) (sym t.across) g

  j' : Pos (circle (c.place (c.origin (partner h))) (c.place (c.origin h)) (c.place (c.origin (c.prev (partner h)))) (c.place (c.origin (c.prev h))))
  j' = subst (λ (k : ℕ). Pos (circle (to_of c h) (from_of c h) (c.place (c.origin (c.prev (partner h)))) (c.place k))) (sym t.across) t.holds

  pub flip-growing : Growing (flipped c h) n
  flip-growing = subst (Growing (flipped c h)) t.across (St.flip-grows c h g' ih it j')

  tips : c.origin (c.prev h) ≡ c.origin (c.prev (partner h)) → ⊥
  tips = St.tips c h g' ih it j'

  pub degree-more : degree c n < degree (flipped c h) n
  degree-more =
      count_less (λ k. eqb (c.origin k) n) (λ k. eqb ((flipped c h).origin k) n) c.half_edges h l
      (ne_eqb (c.origin h) n (λ q. St.a-old c h g' ih it j' (q ∙ sym t.across)))
      (eq-eqb ((flipped c h).origin h) n (Fl.e-start c w h ih it tips ∙ t.across))
      (λ k e. eq-eqb ((flipped c h).origin k) n (stays k (eqb-true (c.origin k) n e)))
    where
      stays : (k : ℕ) → c.origin k ≡ n → (flipped c h).origin k ≡ n
      stays k q =
          Fl.kept c w h ih it tips k (λ e. St.a-old c h g' ih it j' (ap c.origin (sym e) ∙ q ∙ sym t.across))
          (λ e. St.b-old c h g' ih it j' (ap c.origin (sym e) ∙ q ∙ sym t.across))
          ∙ q

-- ---- what a scan finds
module _ (p : ℕ → Bool) (n : ℕ) where
  found_by : (b : Bool) → some p n ≡ b → (o : Option ℕ) → found p n ≡ o → MatchOption o (some p n ≡ false) (λ i. (i < n) × (p i ≡ true))
  found_by true e None f = never (cc)
  found_by true e (Some i) f =
      let q : first p n ≡ i = cc in
      let l = ltb-true (first p n) n e in
      (subst (λ (k : ℕ). k < n) q l, subst (λ (k : ℕ). p k ≡ true) q (first_found p n l))
  found_by false e None f = e
  found_by false e (Some i) f = never (cc)

  found-says : (o : Option ℕ) → o ≡ found p n → MatchOption o (some p n ≡ false) (λ i. (i < n) × (p i ≡ true))
  found-says o e = found_by (some p n) refl o (sym e)

-- of a chart c that is seen as b
pub found-one : (b c : Chart) (n h : ℕ) (o : Option ℕ) → b ≡ c → o ≡ found (wants_flip b n) b.half_edges → o ≡ Some h → (h < c.half_edges) × (wants_flip c n h ≡ true)
found-one b c n h o q e s = let t = found-says (wants_flip c n) c.half_edges o (e ∙ ap (λ (x : Chart). found (wants_flip x n) x.half_edges) q) in rw s at t

pub found-none : (b c : Chart) (n : ℕ) (o : Option ℕ) → b ≡ c → o ≡ found (wants_flip b n) b.half_edges → o ≡ None → some (wants_flip c n) c.half_edges ≡ false
found-none b c n o q e s = let t = found-says (wants_flip c n) c.half_edges o (e ∙ ap (λ (x : Chart). found (wants_flip x n) x.half_edges) q) in rw s at t

-- one turn of the loop
pub flip-reached : (s c d : Chart) (n h : ℕ) → Reached s n c → h < c.half_edges → wants_flip c n h ≡ true → d ≡ flipped c h → Reached s n d
flip-reached s c d n h r l e q =
    subst (Reached s n) (sym q)
    (record {
      growing = flip-growing c n h r.growing l (wanted c n h e);
      range = wired-range (flipped c h) (flip-growing c n h r.growing l (wanted c n h e)).wired r.range.places;
      same_place = r.same_place;
      same-value = r.same-value;
      same-vertices = r.same-vertices;
      same_edges = r.same_edges;
      same-faces = r.same-faces;
    })

pub flip-less : (s c d : Chart) (n h : ℕ) → Reached s n c → h < c.half_edges → wants_flip c n h ≡ true → d ≡ flipped c h → d.half_edges - degree d n < c.half_edges - degree c n
flip-less s c d n h r l e q =
    subst (λ (x : Chart). x.half_edges - degree x n < c.half_edges - degree c n) (sym q)
    (let a = degree-more c n h r.growing l (wanted c n h e) in
    let b = count_most (λ k. eqb ((flipped c h).origin k) n) c.half_edges in
    omega arith)

pub ended : (s c : Chart) (n : ℕ) → Reached s n c → some (wants_flip c n) c.half_edges ≡ false → Legal s n c
ended s c n r e = record { reached = r; settled = none-wanted c n (none-at (wants_flip c n) c.half_edges e) }
