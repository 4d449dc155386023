-- A turn about the vertex where the listed edge x starts, from the listed edge y before it, through opened faces alone. Assumes nothing.
use Rattle.std.specs.Prelude.{◌≡◌, refl, ◌⊎◌, Bool, true, ℕ, zero, suc}
use Rattle.std.proofs.Common.{sym, subst, ap, ◌∙◌, inl, inr}
use Rattle.chart.specs.Chart.{Chart, partner, partner-twice}
use Rattle.sound.specs.Sound.{Sound, Inner}

-- within n steps the turn from y is at x, through faces of o alone: x is the next of y, or the turn goes on from the next's partner
abbrev pub Turn : Chart → (ℕ → Bool) → ℕ → ℕ → ℕ → Type 0
Turn c o zero y x = ⊥
Turn c o (suc n) y x = (o (c.face y) ≡ true) × ((c.next y ≡ x) ⊎ Turn c o n (partner (c.next y)) x)

-- in the list as found y comes after x: x starts where y ends, and within n steps the turn from y meets x
pub record Follows (c : Chart) (o : ℕ → Bool) (n x y : ℕ) : Type 0 where
  pub meets : c.origin x ≡ c.origin (partner y)
  pub turns : Turn c o n y x

-- more faces
turn_more : (c : Chart) (o p : ℕ → Bool) → ((f : ℕ) → o f ≡ true → p f ≡ true) → (n y x : ℕ) → Turn c o n y x → Turn c p n y x
turn_more c o p h zero y x t = t
turn_more c o p h (suc n) y x (f, inl e) = (h (c.face y) f, inl e)
turn_more c o p h (suc n) y x (f, inr t) = (h (c.face y) f, inr (turn_more c o p h n (partner (c.next y)) x t))

-- and more steps
turn-longer : (c : Chart) (o : ℕ → Bool) (n y x : ℕ) → Turn c o n y x → Turn c o (suc n) y x
turn-longer c o zero y x t = absurd t
turn-longer c o (suc n) y x (f, inl e) = (f, inl e)
turn-longer c o (suc n) y x (f, inr t) = (f, inr (turn-longer c o n (partner (c.next y)) x t))

-- the face of e, behind the listed edge, is opened: one step more, to the next of e
turn-past : (c : Chart) (o : ℕ → Bool) (e : ℕ) → o (c.face e) ≡ true → (n y : ℕ) → Turn c o n y (partner e) → Turn c o (suc n) y (c.next e)
turn-past c o e g zero y t = absurd t
turn-past c o e g (suc n) y (f, inl d) =
    let w : partner (c.next y) ≡ e = ap partner d ∙ partner-twice e in
    (f, inr (ap (λ (k : ℕ). o (c.face k)) w ∙ g, inl (ap c.next w)))
turn-past c o e g (suc n) y (f, inr t) = (f, inr (turn-past c o e g n (partner (c.next y)) t))

module _ (c : Chart) (snd : Sound c) (o p : ℕ → Bool) (wider : (f : ℕ) → o f ≡ true → p f ≡ true) (n : ℕ) where
  -- other pairs
  pub follows-more : (x y : ℕ) → Follows c o n x y → Follows c p (suc n) x y
  follows-more x y r = record { meets = r.meets; turns = turn-longer c p n y x (turn_more c o p wider n y x r.turns) }

  module _ (e : ℕ) (i : Inner c e) (new : p (c.face e) ≡ true) where
    -- the next of e takes the place of e's partner before what comes after it
    pub follows_next : (y : ℕ) → Follows c o n (partner e) y → Follows c p (suc n) (c.next e) y
    follows_next y r =
        record {
          meets = snd.next_start e i.0 ∙ r.meets;
          turns = turn-past c p e new n y (turn_more c o p wider n y (partner e) r.turns);
        }

    -- and the prev of e its place after what comes before it
    pub follows-prev : (x : ℕ) → Follows c o n x (partner e) → Follows c p (suc n) x (c.prev e)
    follows-prev x r =
        let b : c.next (c.prev e) ≡ e = snd.next-prev e i.0 in
        record {
          meets = r.meets ∙ ap c.origin (partner-twice e ∙ sym b) ∙ snd.next_start (c.prev e) (snd.range.prevs e i.0);
          turns = (ap p (snd.prev-face e i.0) ∙ new, inr (subst (λ (k : ℕ). Turn c p n (partner k) x) (sym b) (turn_more c o p wider n (partner e) x r.turns)));
        }

    -- the next of e after its prev
    pub follows-pair : (m : ℕ) → Follows c p (suc m) (c.prev e) (c.next e)
    follows-pair m =
        record {
          meets = ap c.origin (sym (snd.next-next e i)) ∙ snd.next_start (c.next e) (snd.range.nexts e i.0);
          turns = (ap p (snd.next-face e i.0) ∙ new, inl (snd.next-next e i));
        }

    -- e after its next, and its prev after e
    pub follows-self : (m : ℕ) → Follows c p (suc m) (c.next e) e
    follows-self m = record { meets = snd.next_start e i.0; turns = (new, inl refl) }

    pub follows-last : (m : ℕ) → Follows c p (suc m) e (c.prev e)
    follows-last m =
        let b : c.next (c.prev e) ≡ e = snd.next-prev e i.0 in
        record { meets = ap c.origin (sym b) ∙ snd.next_start (c.prev e) (snd.range.prevs e i.0); turns = (ap p (snd.prev-face e i.0) ∙ new, inl b) }
