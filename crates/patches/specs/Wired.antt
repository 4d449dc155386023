-- The links of a chart as facts: what row 7 asks and row 6 leaves, without places. Assumes nothing.
use Rattle.std.specs.Prelude.{◌≡◌, ◌⊎◌, ℕ, ◌%◌, ◌<◌}
use Rattle.std.proofs.Common.{sym, ap, ◌∙◌, inl, inr, arith}
use Rattle.chart.specs.Chart.{Chart, partner, partner-twice}
use Rattle.sound.specs.Sound.{Sound, Inner, Outer}

pub record Wired (c : Chart) : Type 0 where
  pub origins : (h : ℕ) → h < c.half_edges → c.origin h < c.vertices
  pub nexts : (h : ℕ) → h < c.half_edges → c.next h < c.half_edges
  pub prevs : (h : ℕ) → h < c.half_edges → c.prev h < c.half_edges
  pub face-numbers : (h : ℕ) → h < c.half_edges → c.face h < c.faces
  pub adjacents : (f : ℕ) → f < c.faces → c.adjacent f < c.half_edges
  pub outs : (v : ℕ) → v < c.vertices → c.out v < c.half_edges
  pub pairs : c.half_edges % 2 ≡ 0
  pub next_start : (h : ℕ) → h < c.half_edges → c.origin (c.next h) ≡ c.origin (partner h)
  pub prev-next : (h : ℕ) → h < c.half_edges → c.prev (c.next h) ≡ h
  pub next-prev : (h : ℕ) → h < c.half_edges → c.next (c.prev h) ≡ h
  pub next-face : (h : ℕ) → h < c.half_edges → c.face (c.next h) ≡ c.face h
  pub next-next : (h : ℕ) → Inner c h → c.next (c.next h) ≡ c.prev h
  pub ends-differ : (h : ℕ) → h < c.half_edges → c.origin h ≡ c.origin (partner h) → ⊥
  pub lone : (h k : ℕ) → Outer c h → Outer c k → c.origin h ≡ c.origin k → h ≡ k
  pub adjacent-face : (f : ℕ) → f < c.faces → c.face (c.adjacent f) ≡ f
  pub of-face : (h : ℕ) → Inner c h → (h ≡ c.adjacent (c.face h)) ⊎ ((h ≡ c.next (c.adjacent (c.face h))) ⊎ (h ≡ c.prev (c.adjacent (c.face h))))
  pub out-start : (v : ℕ) → v < c.vertices → c.origin (c.out v) ≡ v

-- a chart that 6 to 10 let pass is wired
pub sound-wired : {c : Chart} → Sound c → Wired c
sound-wired a =
    record {
      origins = a.range.origins;
      nexts = a.range.nexts;
      prevs = a.range.prevs;
      face-numbers = a.range.face-numbers;
      adjacents = a.range.adjacents;
      outs = a.range.outs;
      pairs = a.range.pairs;
      next_start = a.next_start;
      prev-next = a.prev-next;
      next-prev = a.next-prev;
      next-face = a.next-face;
      next-next = a.next-next;
      ends-differ = a.ends-differ;
      lone = a.lone;
      adjacent-face = a.adjacent-face;
      of-face = a.of-face;
      out-start = a.out-start;
    }

module _ (c : Chart) (w : Wired c) where
  pub partner-below : (h : ℕ) → h < c.half_edges → partner h < c.half_edges
  partner-below h l = let e = w.pairs in omega arith

  pub prev-face : (h : ℕ) → h < c.half_edges → c.face (c.prev h) ≡ c.face h
  prev-face h l = sym (w.next-face (c.prev h) (w.prevs h l)) ∙ ap c.face (w.next-prev h l)

  pub next-differs : (h : ℕ) → h < c.half_edges → c.next h ≡ h → ⊥
  next-differs h l e = w.ends-differ h l (ap c.origin (sym e) ∙ w.next_start h l)

  pub prev-differs : (h : ℕ) → h < c.half_edges → c.prev h ≡ h → ⊥
  prev-differs h l e = next-differs h l (ap c.next (sym e) ∙ w.next-prev h l)

  pub next-prev-differ : (h : ℕ) → Inner c h → c.next h ≡ c.prev h → ⊥
  next-prev-differ h i e = next-differs (c.next h) (w.nexts h i.0) (w.next-next h i ∙ sym e)

  pub next-inner : (h : ℕ) → Inner c h → Inner c (c.next h)
  next-inner h (l, i) = (w.nexts h l, λ e. i (sym (w.next-face h l) ∙ e))

  pub prev-inner : (h : ℕ) → Inner c h → Inner c (c.prev h)
  prev-inner h (l, i) = (w.prevs h l, λ e. i (sym (prev-face h l) ∙ e))

  pub prev-prev : (h : ℕ) → Inner c h → c.prev (c.prev h) ≡ c.next h
  prev-prev h i = ap c.prev (sym (w.next-next h i)) ∙ w.prev-next (c.next h) (w.nexts h i.0)

  -- the end of prev is the start, the end of next is the apex
  pub prev-end : (h : ℕ) → h < c.half_edges → c.origin (partner (c.prev h)) ≡ c.origin h
  prev-end h l = sym (w.next_start (c.prev h) (w.prevs h l)) ∙ ap c.origin (w.next-prev h l)

  pub next-end : (h : ℕ) → Inner c h → c.origin (partner (c.next h)) ≡ c.origin (c.prev h)
  next-end h (l, i) = sym (w.next_start (c.next h) (w.nexts h l)) ∙ ap c.origin (w.next-next h (l, i))

  -- the half-edges of h's face are h, next and prev
  pub same-face : (h g : ℕ) → Inner c h → Inner c g → c.face g ≡ c.face h → (g ≡ h) ⊎ ((g ≡ c.next h) ⊎ (g ≡ c.prev h))
  same-face h g i j e = pick (w.of-face h i) (rw e at (w.of-face g j))
    where
      A : ℕ
      A = c.adjacent (c.face h)

      A-in : A < c.half_edges
      A-in = w.adjacents (c.face h) (w.face-numbers h i.0)

      A-inner : Inner c A
      A-inner = (A-in, λ z. i.1 (sym (w.adjacent-face (c.face h) (w.face-numbers h i.0)) ∙ z))

      pp : c.prev (c.prev A) ≡ c.next A
      pp = prev-prev A A-inner

      pick : (h ≡ A) ⊎ ((h ≡ c.next A) ⊎ (h ≡ c.prev A)) → (g ≡ A) ⊎ ((g ≡ c.next A) ⊎ (g ≡ c.prev A)) → (g ≡ h) ⊎ ((g ≡ c.next h) ⊎ (g ≡ c.prev h))
      pick (inl x) (inl y) = inl (y ∙ sym x)
      pick (inl x) (inr (inl y)) = inr (inl (y ∙ ap c.next (sym x)))
      pick (inl x) (inr (inr y)) = inr (inr (y ∙ ap c.prev (sym x)))
      pick (inr (inl x)) (inl y) = inr (inr (y ∙ sym (ap c.prev x ∙ w.prev-next A A-in)))
      pick (inr (inl x)) (inr (inl y)) = inl (y ∙ sym x)
      pick (inr (inl x)) (inr (inr y)) = inr (inl (y ∙ sym (ap c.next x ∙ w.next-next A A-inner)))
      pick (inr (inr x)) (inl y) = inr (inl (y ∙ sym (ap c.next x ∙ w.next-prev A A-in)))
      pick (inr (inr x)) (inr (inl y)) = inr (inr (y ∙ sym (ap c.prev x ∙ pp)))
      pick (inr (inr x)) (inr (inr y)) = inl (y ∙ sym x)

  -- an edge lies between two faces
  pub faces-differ : (h : ℕ) → Inner c h → Inner c (partner h) → c.face (partner h) ≡ c.face h → ⊥
  faces-differ h i j e = pick (same-face h (partner h) i j e)
    where
      pick : (partner h ≡ h) ⊎ ((partner h ≡ c.next h) ⊎ (partner h ≡ c.prev h)) → ⊥
      pick (inl x) = w.ends-differ h i.0 (ap c.origin (sym x))
      pick (inr (inl x)) =
          w.ends-differ (c.prev h) (w.prevs h i.0)
          (ap c.origin (sym (w.next-next h i) ∙ ap c.next (sym x)) ∙ w.next_start (partner h) j.0 ∙ ap c.origin (partner-twice h)
          ∙ ap c.origin (sym (w.next-prev h i.0)) ∙ w.next_start (c.prev h) (w.prevs h i.0))
      pick (inr (inr x)) =
          w.ends-differ (c.next h) (w.nexts h i.0)
          (w.next_start h i.0 ∙ ap c.origin (x ∙ sym (w.next-next h i)) ∙ w.next_start (c.next h) (w.nexts h i.0))
