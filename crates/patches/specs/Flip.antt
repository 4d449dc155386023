-- `flip_cw`: the edge between two triangles is turned about, as two triangles written in. Assumes nothing.
use Rattle.std.specs.Prelude.{◌≡◌, refl, List, [], ◌∷◌, ℕ, ◌<◌}
use Rattle.std.proofs.Math.Path.{sym, ap}
use Rattle.std.proofs.Common.{subst, ◌∙◌}
use Rattle.chart.specs.Chart.{Chart, partner, partner-twice}
use Rattle.sound.specs.Sound.{Inner}
use Rattle.patches.specs.declared.Row.{Row}
use Rattle.patches.specs.Rows.{turn}
use Rattle.patches.specs.Wired.{Wired, prev-face, partner-below, next-differs, prev-differs, prev-end, next-end, faces-differ}
use Rattle.patches.specs.Patch.{RowIn, put, with_rows}

-- of the edge e with partner t: e then goes from the one apex to the other
abbrev pub flip_row : Chart → ℕ → ℕ → Row
flip_row c e t =
    record {
      key = e;
      next = c.prev t;
      prev = c.next e;
      face = c.face e;
      from = c.origin (c.prev e);
      to = c.origin (c.prev t);
      apex = c.origin t;
    }

abbrev pub flip_rows : Chart → ℕ → List Row
flip_rows c e = flip_row c e (partner e) ∷ flip_row c (partner e) e ∷ []

-- the old ends' out half-edges are those that now follow
abbrev pub flip_out : Chart → ℕ → ℕ → ℕ
flip_out c e = put (c.origin (partner e)) (c.next e) (put (c.origin e) (c.next (partner e)) c.out)

abbrev pub flipped : Chart → ℕ → Chart
flipped c e = with_rows c (flip_rows c e) (flip_out c e)

-- ---- one of the two triangles, with any chart whose origins change at e and t only
module _ (c d : Chart) (w : Wired c) (e t : ℕ) (pe : partner e ≡ t) (pt : partner t ≡ e) (ie : Inner c e) (it : Inner c t)
    (same_edges : d.half_edges ≡ c.half_edges) (same-faces : d.faces ≡ c.faces) (same-vertices : d.vertices ≡ c.vertices)
    (tips : c.origin (c.prev e) ≡ c.origin (c.prev t) → ⊥)
    (kept : (k : ℕ) → k < c.half_edges → (k ≡ e → ⊥) → (k ≡ t → ⊥) → d.origin k ≡ c.origin k)
    (t-start : d.origin t ≡ c.origin (c.prev t)) where
  differ : c.face t ≡ c.face e → ⊥
  differ q = faces-differ c w e ie (subst (λ (k : ℕ). Inner c k) (sym pe) it) (ap c.face pe ∙ q)

  -- half-edges of the two faces differ
  pub cross : (x y : ℕ) → c.face x ≡ c.face e → c.face y ≡ c.face t → x ≡ y → ⊥
  cross x y p q z = differ (sym q ∙ ap c.face (sym z) ∙ p)

  tp-not : (k : ℕ) → partner k ≡ e → k ≡ t
  tp-not k p = sym (partner-twice k) ∙ ap partner p ∙ pe

  ep-not : (k : ℕ) → partner k ≡ t → k ≡ e
  ep-not k p = sym (partner-twice k) ∙ ap partner p ∙ pt

  pub en-start : c.origin (c.next e) ≡ c.origin t
  en-start = w.next_start e ie.0 ∙ ap c.origin pe

  far-end : (k : ℕ) → k < c.half_edges → (k ≡ e → ⊥) → (k ≡ t → ⊥) → d.origin (partner k) ≡ c.origin (partner k)
  far-end k l n m = kept (partner k) (partner-below c w k l) (λ q. m (tp-not k q)) (λ q. n (ep-not k q))

  v-in : (v : ℕ) → v < c.vertices → v < d.vertices
  v-in v l = subst (λ (n : ℕ). v < n) (sym same-vertices) l

  e-in : (h : ℕ) → h < c.half_edges → h < d.half_edges
  e-in h l = subst (λ (n : ℕ). h < n) (sym same_edges) l

  f-in : c.face e < d.faces
  f-in = subst (λ (n : ℕ). c.face e < n) (sym same-faces) (w.face-numbers e ie.0)

  pub first : RowIn d (flip_row c e t)
  first =
      record {
        key_in = e-in e ie.0;
        face-in = f-in;
        inner = ie.1;
        from_in = v-in _ (w.origins (c.prev e) (w.prevs e ie.0));
        differ = tips;
        ends = ap d.origin pe ∙ t-start;
      }

  pub second : RowIn d (turn (flip_row c e t))
  second =
      let l = w.prevs t it.0 in
      record {
        key_in = e-in (c.prev t) l;
        face-in = f-in;
        inner = ie.1;
        from_in = v-in _ (w.origins (c.prev t) l);
        differ = λ q. w.ends-differ (c.prev t) l (q ∙ sym (prev-end c w t it.0));
        ends = far-end (c.prev t) l (λ q. cross e (c.prev t) refl (prev-face c w t it.0) (sym q)) (prev-differs c w t it.0) ∙ prev-end c w t it.0;
      }

  pub third : RowIn d (turn (turn (flip_row c e t)))
  third =
      let l = w.nexts e ie.0 in
      record {
        key_in = e-in (c.next e) l;
        face-in = f-in;
        inner = ie.1;
        from_in = v-in _ (w.origins t it.0);
        differ = λ q. w.ends-differ (c.next e) l (en-start ∙ q ∙ sym (next-end c w e ie));
        ends = far-end (c.next e) l (next-differs c w e ie.0) (cross (c.next e) t (w.next-face e ie.0) refl) ∙ next-end c w e ie;
      }
